-- Terms with numbers read back to the terms that they were made of; casts are met in order of first use.
use Rattle.std.proofs.Common.{◌≡◌, ℕ, zero, suc, ◌+◌, arith, Bool, true, false, List, [], ◌∷◌, ◌++◌, Some}
use Rattle.std.proofs.Common.{refl, sym}
use Rattle.std.proofs.Common.{ap}
use Rattle.std.proofs.Common.{◌∙◌}
use Rattle.std.proofs.Common.{if◌then◌else◌, slice_get}
use Rattle.std.proofs.Common.{◌<◌, length}
use Rattle.std.proofs.lemmas.Option.{slice_get_within}
use Rattle.coer_core.specs.Uses.{NumbersBelow, all_below, all_uses}
use Rattle.coer_core.specs.Holding.{AllHold, MembersHold, BindingsHold}
use Rattle.coer_core.specs.Gathered.{gathered_of_all, gathered_of_members, gathered_of_bindings}
use Rattle.std.specs.Prelude.{nat_eq, ◌&&◌}
use Rattle.std.specs.List.{list_any}
use Rattle.std.proofs.lemmas.Bool.{eqb-true}
use Rattle.core_calc.specs.Terms.{Term, Terms, Members, Bindings, IntLit, BoolLit, UnitLit, Var, Lambda, Group, Let}
use Rattle.core_calc.specs.Terms.{Call, Enter, If, Seq, Cast, Proj, ProjDyn, Tuple, Prim, ValueTerm, NoTerms, TermThen}
use Rattle.core_calc.specs.Terms.{NoMembers, MemberThen, NoBindings, BindingThen}
use Rattle.core_calc.specs.Typing.{IsWritten, AreWritten, AreWrittenMembers, AreWrittenBindings}
use Rattle.cast_modes.specs.Modes.{TypeCast, type_cast}
use Rattle.coer_core.specs.Terms.{cast_by, core_of, core_terms, core_members, core_bindings}
use Rattle.coer_core.specs.Conversion.{casts_in, all_casts, same_cast}
use Rattle.coer_core.specs.Conversion.{number_of, with_cast, with_casts, converted, converted_all, converted_members}
use Rattle.coer_core.specs.Conversion.{converted_bindings}
use Rattle.coer_core.specs.Uses.{OperatorUse, DynPartUse, CastUse, uses_in}
use Rattle.coer_core.specs.Uses.{row_uses, listed_of_all, listed_of_members, listed_of_bindings}
use Rattle.coer_core.specs.Uses.{cast_use, operator_use}
use Rattle.coer_core.proofs.Joining.{ap2, ap3}

-- ---- one cast

and_both : (a b c : Bool) → (a && (b && c)) ≡ true → (a ≡ true) × (b ≡ true) × (c ≡ true)
and_both true true true e = (refl, refl, refl)
and_both false b c e = absurd (cc e)
and_both true false c e = absurd (cc e)
and_both true true false e = absurd (cc e)

same_is : (a b : TypeCast) → same_cast a b ≡ true → b ≡ a
same_is a b e =
    let t = and_both (nat_eq a.from b.from) (nat_eq a.to b.to) (nat_eq a.label b.label) e in
    sym (ap3 (λ x y z. type_cast x z y) (eqb-true a.from b.from t.0) (eqb-true a.to b.to t.1)
    (eqb-true a.label b.label t.2))

behind_first : (b : Bool) (x cast : TypeCast) (rest : List TypeCast)
    → (if b then x ∷ rest else (x ∷ rest) ++ cast ∷ []) ≡ x ∷ (if b then rest else rest ++ cast ∷ [])
behind_first true x cast rest = refl
behind_first false x cast rest = refl

one_more : (n : ℕ) → 1 + n ≡ suc n
one_more n = omega arith

placed_by : (x : TypeCast) (rest : List TypeCast) (cast : TypeCast)
    → slice_get (with_cast rest cast) (number_of rest cast) ≡ Some cast → (b : Bool) → same_cast cast x ≡ b
    → slice_get (with_cast (x ∷ rest) cast) (number_of (x ∷ rest) cast) ≡ Some cast
placed_by x rest cast there true e = rw e (ap Some (same_is cast x e))
placed_by x rest cast there false e =
    rw e (ap (λ l. slice_get l (1 + number_of rest cast)) (behind_first (list_any (same_cast cast) rest) x cast rest)
    ∙ ap (slice_get (x ∷ with_cast rest cast)) (one_more (number_of rest cast)) ∙ there)

-- a cast stands at its number
pub placed : (casts : List TypeCast) (cast : TypeCast)
    → slice_get (with_cast casts cast) (number_of casts cast) ≡ Some cast
placed [] cast = refl
placed (x ∷ rest) cast = placed_by x rest cast (placed rest cast) (same_cast cast x) refl

-- ---- more casts

-- the second list begins with the first
pub record Begins (casts later : List TypeCast) : Type 0 where
  pub more : List TypeCast
  pub is : later ≡ casts ++ more

append_nil : (xs : List TypeCast) → xs ≡ xs ++ []
append_nil [] = refl
append_nil (x ∷ xs) = ap (λ l. x ∷ l) (append_nil xs)

append_append : (xs ys zs : List TypeCast) → (xs ++ ys) ++ zs ≡ xs ++ (ys ++ zs)
append_append [] ys zs = refl
append_append (x ∷ xs) ys zs = ap (λ l. x ∷ l) (append_append xs ys zs)

pub begins_itself : (casts : List TypeCast) → Begins casts casts
begins_itself casts = record { more = []; is = append_nil casts }

pub begins_trans : {a b c : List TypeCast} → Begins a b → Begins b c → Begins a c
begins_trans {a = a} f g = record {
  more = f.more ++ g.more;
  is = g.is ∙ ap (λ l. l ++ g.more) f.is ∙ append_append a f.more g.more;
}

begins_with : (casts : List TypeCast) (cast : TypeCast) → Begins casts (with_cast casts cast)
begins_with casts cast = by (list_any (same_cast cast) casts)
  where
    by : (b : Bool) → Begins casts (if b then casts else casts ++ cast ∷ [])
    by true = begins_itself casts
    by false = record { more = cast ∷ []; is = refl }

get_first : (casts more : List TypeCast) (n : ℕ) (cast : TypeCast) → slice_get casts n ≡ Some cast
    → slice_get (casts ++ more) n ≡ Some cast
get_first [] more n cast e = absurd (cc e)
get_first (x ∷ rest) more zero cast e = e
get_first (x ∷ rest) more (suc n) cast e = get_first rest more n cast e

mutual
  -- casts that were met keep their numbers
  pub grows : (term : Term) (casts : List TypeCast) → Begins casts (converted casts term).casts
  grows (IntLit n) casts = begins_itself casts
  grows (BoolLit b) casts = begins_itself casts
  grows UnitLit casts = begins_itself casts
  grows (Var name) casts = begins_itself casts
  grows (Lambda parameters body type) casts = grows body casts
  grows (Group members body) casts =
      begins_trans (grows_members members casts) (grows body (converted_members casts members).casts)
  grows (Let bindings body) casts =
      begins_trans (grows_bindings bindings casts) (grows body (converted_bindings casts bindings).casts)
  grows (Call function arguments) casts =
      begins_trans (grows function casts) (grows_all arguments (converted casts function).casts)
  grows (Enter function arguments) casts = begins_itself casts
  grows (If condition on_true on_false) casts =
      let first = converted casts condition in
      begins_trans (grows condition casts)
      (begins_trans (grows on_true first.casts) (grows on_false (converted first.casts on_true).casts))
  grows (Seq terms) casts = grows_all terms casts
  grows (Cast term from to label) casts =
      begins_trans (grows term casts) (begins_with (converted casts term).casts (type_cast from label to))
  grows (Proj term k) casts = grows term casts
  grows (ProjDyn term k label) casts = grows term casts
  grows (Tuple parts) casts = grows_all parts casts
  grows (Prim operator operands) casts = grows_all operands casts
  grows (ValueTerm v) casts = begins_itself casts

  grows_all : (terms : Terms) (casts : List TypeCast) → Begins casts (converted_all casts terms).casts
  grows_all NoTerms casts = begins_itself casts
  grows_all (TermThen term rest) casts =
      begins_trans (grows term casts) (grows_all rest (converted casts term).casts)

  grows_members : (members : Members) (casts : List TypeCast) → Begins casts (converted_members casts members).casts
  grows_members NoMembers casts = begins_itself casts
  grows_members (MemberThen name parameters body type rest) casts =
      begins_trans (grows body casts) (grows_members rest (converted casts body).casts)

  grows_bindings : (bindings : Bindings) (casts : List TypeCast)
      → Begins casts (converted_bindings casts bindings).casts
  grows_bindings NoBindings casts = begins_itself casts
  grows_bindings (BindingThen name bound rest) casts =
      begins_trans (grows bound casts) (grows_bindings rest (converted casts bound).casts)

-- ---- reading back

mutual
  -- read with these casts or more, the answer is the term
  pub reads : (term : Term) (casts later : List TypeCast) → IsWritten term → Begins (converted casts term).casts later
      → core_of later (converted casts term).term ≡ term
  reads (IntLit n) casts later w b = refl
  reads (BoolLit x) casts later w b = refl
  reads UnitLit casts later w b = refl
  reads (Var name) casts later w b = refl
  reads (Lambda parameters body type) casts later w b =
      ap (λ x. Lambda parameters x type) (reads body casts later w b)
  reads (Group members body) casts later w b =
      let first = converted_members casts members in
      ap2 Group (reads_members members casts later w.0 (begins_trans (grows body first.casts) b))
      (reads body first.casts later w.1 b)
  reads (Let bindings body) casts later w b =
      let first = converted_bindings casts bindings in
      ap2 Let (reads_bindings bindings casts later w.0 (begins_trans (grows body first.casts) b))
      (reads body first.casts later w.1 b)
  reads (Call function arguments) casts later w b =
      let first = converted casts function in
      ap2 Call (reads function casts later w.0 (begins_trans (grows_all arguments first.casts) b))
      (reads_all arguments first.casts later w.1 b)
  reads (Enter function arguments) casts later w b = absurd w
  reads (If condition on_true on_false) casts later w b =
      let first = converted casts condition in
      let second = converted first.casts on_true in
      let c = begins_trans (grows on_false second.casts) b in
      ap3 If (reads condition casts later w.0 (begins_trans (grows on_true first.casts) c))
      (reads on_true first.casts later w.1 c) (reads on_false second.casts later w.2 b)
  reads (Seq terms) casts later w b = ap Seq (reads_all terms casts later w b)
  reads (Cast term from to label) casts later w b =
      let inner = converted casts term in
      let cast = type_cast from label to in
      let there =
      get_first (with_cast inner.casts cast) b.more (number_of inner.casts cast) cast (placed inner.casts cast) in
      ap2 cast_by (ap (λ l. slice_get l (number_of inner.casts cast)) b.is ∙ there)
      (reads term casts later w (begins_trans (begins_with inner.casts cast) b))
  reads (Proj term k) casts later w b = ap (λ x. Proj x k) (reads term casts later w b)
  reads (ProjDyn term k label) casts later w b = ap (λ x. ProjDyn x k label) (reads term casts later w b)
  reads (Tuple parts) casts later w b = ap Tuple (reads_all parts casts later w b)
  reads (Prim operator operands) casts later w b = ap (Prim operator) (reads_all operands casts later w b)
  reads (ValueTerm v) casts later w b = absurd w

  reads_all : (terms : Terms) (casts later : List TypeCast) → AreWritten terms
      → Begins (converted_all casts terms).casts later → core_terms later (converted_all casts terms).term ≡ terms
  reads_all NoTerms casts later w b = refl
  reads_all (TermThen term rest) casts later w b =
      let first = converted casts term in
      ap2 TermThen (reads term casts later w.0 (begins_trans (grows_all rest first.casts) b))
      (reads_all rest first.casts later w.1 b)

  reads_members : (members : Members) (casts later : List TypeCast) → AreWrittenMembers members
      → Begins (converted_members casts members).casts later
      → core_members later (converted_members casts members).term ≡ members
  reads_members NoMembers casts later w b = refl
  reads_members (MemberThen name parameters body type rest) casts later w b =
      let first = converted casts body in
      ap2 (λ x r. MemberThen name parameters x type r)
      (reads body casts later w.0 (begins_trans (grows_members rest first.casts) b))
      (reads_members rest first.casts later w.1 b)

  reads_bindings : (bindings : Bindings) (casts later : List TypeCast) → AreWrittenBindings bindings
      → Begins (converted_bindings casts bindings).casts later
      → core_bindings later (converted_bindings casts bindings).term ≡ bindings
  reads_bindings NoBindings casts later w b = refl
  reads_bindings (BindingThen name bound rest) casts later w b =
      let first = converted casts bound in
      ap2 (BindingThen name) (reads bound casts later w.0 (begins_trans (grows_bindings rest first.casts) b))
      (reads_bindings rest first.casts later w.1 b)

-- ---- casts in order of first use

with_append : (casts first second : List TypeCast)
    → with_casts casts (first ++ second) ≡ with_casts (with_casts casts first) second
with_append casts [] second = refl
with_append casts (cast ∷ first) second = with_append (with_cast casts cast) first second

mutual
  pub in_order : (term : Term) (casts : List TypeCast)
      → (converted casts term).casts ≡ with_casts casts (casts_in term)
  in_order (IntLit n) casts = refl
  in_order (BoolLit b) casts = refl
  in_order UnitLit casts = refl
  in_order (Var name) casts = refl
  in_order (Lambda parameters body type) casts = in_order body casts
  in_order (Group members body) casts =
      let first = converted_members casts members in
      in_order body first.casts ∙ ap (λ m. with_casts m (casts_in body)) (in_order_members members casts)
      ∙ sym (with_append casts (gathered_of_members all_casts members) (casts_in body))
  in_order (Let bindings body) casts =
      let first = converted_bindings casts bindings in
      in_order body first.casts ∙ ap (λ m. with_casts m (casts_in body)) (in_order_bindings bindings casts)
      ∙ sym (with_append casts (gathered_of_bindings all_casts bindings) (casts_in body))
  in_order (Call function arguments) casts =
      let first = converted casts function in
      in_order_all arguments first.casts ∙ ap (λ m. with_casts m (gathered_of_all all_casts arguments))
      (in_order function casts) ∙ sym (with_append casts (casts_in function) (gathered_of_all all_casts arguments))
  in_order (Enter function arguments) casts = refl
  in_order (If condition on_true on_false) casts =
      let first = converted casts condition in
      let second = converted first.casts on_true in
      in_order on_false second.casts
      ∙ ap (λ m. with_casts m (casts_in on_false))
      (in_order on_true first.casts ∙ ap (λ m. with_casts m (casts_in on_true)) (in_order condition casts))
      ∙ sym (with_append casts (casts_in condition) (casts_in on_true ++ casts_in on_false)
      ∙ with_append (with_casts casts (casts_in condition)) (casts_in on_true) (casts_in on_false))
  in_order (Seq terms) casts = in_order_all terms casts
  in_order (Cast term from to label) casts =
      ap (λ m. with_cast m (type_cast from label to)) (in_order term casts)
      ∙ sym (with_append casts (casts_in term) (type_cast from label to ∷ []))
  in_order (Proj term k) casts = in_order term casts
  in_order (ProjDyn term k label) casts = in_order term casts
  in_order (Tuple parts) casts = in_order_all parts casts
  in_order (Prim operator operands) casts = in_order_all operands casts
  in_order (ValueTerm v) casts = refl

  in_order_all : (terms : Terms) (casts : List TypeCast)
      → (converted_all casts terms).casts ≡ with_casts casts (gathered_of_all all_casts terms)
  in_order_all NoTerms casts = refl
  in_order_all (TermThen term rest) casts =
      let first = converted casts term in
      in_order_all rest first.casts ∙ ap (λ m. with_casts m (gathered_of_all all_casts rest)) (in_order term casts)
      ∙ sym (with_append casts (casts_in term) (gathered_of_all all_casts rest))

  in_order_members : (members : Members) (casts : List TypeCast)
      → (converted_members casts members).casts ≡ with_casts casts (gathered_of_members all_casts members)
  in_order_members NoMembers casts = refl
  in_order_members (MemberThen name parameters body type rest) casts =
      let first = converted casts body in
      in_order_members rest first.casts ∙ ap (λ m. with_casts m (gathered_of_members all_casts rest))
      (in_order body casts) ∙ sym (with_append casts (casts_in body) (gathered_of_members all_casts rest))

  in_order_bindings : (bindings : Bindings) (casts : List TypeCast)
      → (converted_bindings casts bindings).casts ≡ with_casts casts (gathered_of_bindings all_casts bindings)
  in_order_bindings NoBindings casts = refl
  in_order_bindings (BindingThen name bound rest) casts =
      let first = converted casts bound in
      in_order_bindings rest first.casts ∙ ap (λ m. with_casts m (gathered_of_bindings all_casts rest))
      (in_order bound casts) ∙ sym (with_append casts (casts_in bound) (gathered_of_bindings all_casts rest))

-- ---- what stands in both

mutual
  pub same_uses : (term : Term) (casts : List TypeCast) → IsWritten term
      → row_uses (converted casts term).term ≡ uses_in term
  same_uses (IntLit n) casts w = refl
  same_uses (BoolLit b) casts w = refl
  same_uses UnitLit casts w = refl
  same_uses (Var name) casts w = refl
  same_uses (Lambda parameters body type) casts w = same_uses body casts w
  same_uses (Group members body) casts w =
      ap2 (λ x y. x ++ y) (same_uses_members members casts w.0)
      (same_uses body (converted_members casts members).casts w.1)
  same_uses (Let bindings body) casts w =
      ap2 (λ x y. x ++ y) (same_uses_bindings bindings casts w.0)
      (same_uses body (converted_bindings casts bindings).casts w.1)
  same_uses (Call function arguments) casts w =
      ap2 (λ x y. x ++ y) (same_uses function casts w.0) (same_uses_all arguments (converted casts function).casts w.1)
  same_uses (Enter function arguments) casts w = absurd w
  same_uses (If condition on_true on_false) casts w =
      let first = converted casts condition in
      ap3 (λ x y z. x ++ (y ++ z)) (same_uses condition casts w.0) (same_uses on_true first.casts w.1)
      (same_uses on_false (converted first.casts on_true).casts w.2)
  same_uses (Seq terms) casts w = same_uses_all terms casts w
  same_uses (Cast term from to label) casts w = ap (λ l. CastUse ∷ l) (same_uses term casts w)
  same_uses (Proj term k) casts w = same_uses term casts w
  same_uses (ProjDyn term k label) casts w = ap (λ l. DynPartUse k label ∷ l) (same_uses term casts w)
  same_uses (Tuple parts) casts w = same_uses_all parts casts w
  same_uses (Prim operator operands) casts w =
      ap (λ l. OperatorUse operator ∷ l) (same_uses_all operands casts w)
  same_uses (ValueTerm v) casts w = absurd w

  same_uses_all : (terms : Terms) (casts : List TypeCast) → AreWritten terms
      → listed_of_all cast_use DynPartUse operator_use (converted_all casts terms).term ≡ gathered_of_all all_uses terms
  same_uses_all NoTerms casts w = refl
  same_uses_all (TermThen term rest) casts w =
      ap2 (λ x y. x ++ y) (same_uses term casts w.0) (same_uses_all rest (converted casts term).casts w.1)

  same_uses_members : (members : Members) (casts : List TypeCast) → AreWrittenMembers members
      → listed_of_members cast_use DynPartUse operator_use (converted_members casts members).term
      ≡ gathered_of_members all_uses members
  same_uses_members NoMembers casts w = refl
  same_uses_members (MemberThen name parameters body type rest) casts w =
      ap2 (λ x y. x ++ y) (same_uses body casts w.0) (same_uses_members rest (converted casts body).casts w.1)

  same_uses_bindings : (bindings : Bindings) (casts : List TypeCast) → AreWrittenBindings bindings
      → listed_of_bindings cast_use DynPartUse operator_use (converted_bindings casts bindings).term
      ≡ gathered_of_bindings all_uses bindings
  same_uses_bindings NoBindings casts w = refl
  same_uses_bindings (BindingThen name bound rest) casts w =
      ap2 (λ x y. x ++ y) (same_uses bound casts w.0) (same_uses_bindings rest (converted casts bound).casts w.1)

-- ---- numbers

-- the number of a cast that was met is a place among these casts or more
placed_later : (casts : List TypeCast) (cast : TypeCast) (later : List TypeCast) → Begins (with_cast casts cast) later
    → number_of casts cast < length later
placed_later casts cast later b =
    slice_get_within later (number_of casts cast) cast
    (ap (λ l. slice_get l (number_of casts cast)) b.is
    ∙ get_first (with_cast casts cast) b.more (number_of casts cast) cast (placed casts cast))

mutual
  pub numbers : (term : Term) (casts later : List TypeCast) → Begins (converted casts term).casts later
      → NumbersBelow (length later) (converted casts term).term
  numbers (IntLit n) casts later b = tt
  numbers (BoolLit x) casts later b = tt
  numbers UnitLit casts later b = tt
  numbers (Var name) casts later b = tt
  numbers (Lambda parameters body type) casts later b = numbers body casts later b
  numbers (Group members body) casts later b =
      let first = converted_members casts members in (
        numbers_of_members members casts later (begins_trans (grows body first.casts) b),
        numbers body first.casts later
            b,
      )
  numbers (Let bindings body) casts later b =
      let first = converted_bindings casts bindings in (
        numbers_of_bindings bindings casts later (begins_trans (grows body first.casts) b),
        numbers body first.casts later b,
      )
  numbers (Call function arguments) casts later b =
      let first = converted casts function in (
        numbers function casts later (begins_trans (grows_all arguments first.casts) b),
        numbers_of_all arguments first.casts later b,
      )
  numbers (Enter function arguments) casts later b = tt
  numbers (If condition on_true on_false) casts later b =
      let first = converted casts condition in
      let second = converted first.casts on_true in
      let c = begins_trans (grows on_false second.casts) b in (
        numbers condition casts later (begins_trans (grows on_true first.casts) c),
        numbers on_true first.casts later c,
        numbers on_false second.casts later b,
      )
  numbers (Seq terms) casts later b = numbers_of_all terms casts later b
  numbers (Cast term from to label) casts later b =
      let inner = converted casts term in
      let cast = type_cast from label to in
      (placed_later inner.casts cast later b, numbers term casts later (begins_trans (begins_with inner.casts cast) b))
  numbers (Proj term k) casts later b = numbers term casts later b
  numbers (ProjDyn term k label) casts later b = numbers term casts later b
  numbers (Tuple parts) casts later b = numbers_of_all parts casts later b
  numbers (Prim operator operands) casts later b = numbers_of_all operands casts later b
  numbers (ValueTerm v) casts later b = tt

  numbers_of_all : (terms : Terms) (casts later : List TypeCast) → Begins (converted_all casts terms).casts later
      → AllHold (all_below (length later)) (converted_all casts terms).term
  numbers_of_all NoTerms casts later b = tt
  numbers_of_all (TermThen term rest) casts later b =
      let first = converted casts term in
      (numbers term casts later (begins_trans (grows_all rest first.casts) b), numbers_of_all rest first.casts later b)

  numbers_of_members : (members : Members) (casts later : List TypeCast)
      → Begins (converted_members casts members).casts later
      → MembersHold (all_below (length later)) (converted_members casts members).term
  numbers_of_members NoMembers casts later b = tt
  numbers_of_members (MemberThen name parameters body type rest) casts later b =
      let first = converted casts body in (
        numbers body casts later (begins_trans (grows_members rest first.casts) b),
        numbers_of_members rest first.casts later b,
      )

  numbers_of_bindings : (bindings : Bindings) (casts later : List TypeCast)
      → Begins (converted_bindings casts bindings).casts later
      → BindingsHold (all_below (length later)) (converted_bindings casts bindings).term
  numbers_of_bindings NoBindings casts later b = tt
  numbers_of_bindings (BindingThen name bound rest) casts later b =
      let first = converted casts bound in (
        numbers bound casts later (begins_trans (grows_bindings rest first.casts) b),
        numbers_of_bindings rest first.casts later b,
      )
