-- The computed type of a term is one by the rules.
use Rattle.std.proofs.Common.{◌≡◌, ℕ, ℤ, pos, negsuc, ◌^◌, ◌≤◌, Bool, true, false, cond, List}
use Rattle.std.proofs.Common.{[]}
use Rattle.std.proofs.Common.{◌∷◌, ◌++◌, Option, Some, None, refl, sym, ap, ap₂, ◌∙◌, subst, arith}
use Rattle.std.specs.Prelude.{◌&&◌, nat_eq, is_some}
use Rattle.std.specs.Int.{w64}
use Rattle.std.specs.Int.RustNames.{FitsSigned}
use Rattle.std.proofs.lemmas.Bool.{eqb-true, ltb-true}
use Rattle.grift_base.specs.Numbers.{fits_in_64_bits}
use Rattle.grift_base.specs.Types.{TypeRow, IntRow, BoolRow, UnitRow, DynRow, FunRow, TupleRow, RefRow, VectRow}
use Rattle.grift_base.specs.Types.{TypeRows, row_at, tuple_part}
use Rattle.grift_base.specs.declared.operators.PrimOp.{PrimOp}
use Rattle.grift_base.specs.declared.operators.PrimOp.TheVariants.{Add, Sub, Mul, Quot, Rem, Lt, Le, Eq, Ge, Gt, Not}
use Rattle.grift_base.specs.declared.operators.PrimOp.TheVariants.{PrintInt, Newline, ReadInt, MakeBox, Unbox, BoxSet}
use Rattle.grift_base.specs.declared.operators.PrimOp.TheVariants.{MakeVector, VectorRef, VectorSet, VectorLength}
use Rattle.type_graph.specs.Forming.{equal_rows, equal_numbers}
use Rattle.type_graph.specs.TypeTables.{HaveWidths}
use Rattle.type_graph.proofs.Public.{rows_are_equal, place_found}
use Rattle.core_calc.specs.Terms.{Term, Terms, Members, Bindings, IntLit, BoolLit, UnitLit, Var, Lambda, Group, Let}
use Rattle.core_calc.specs.Terms.{Call}
use Rattle.core_calc.specs.Terms.{Enter, If, Seq, Cast, Proj, ProjDyn, Tuple, Prim, ValueTerm, NoTerms, TermThen}
use Rattle.core_calc.specs.Terms.{NoMembers, MemberThen, NoBindings, BindingThen}
use Rattle.core_calc.specs.Substitution.{bind}
use Rattle.core_calc.specs.Typing.{Context, CellType, member_types, Is, AreInts, OperatorHasType}
use Rattle.core_calc.specs.Typing.{IsFunction, HasType, HaveTypes, LastHasType, MembersHaveTypes, BindingsHaveTypes}
use Rattle.core_calc.specs.Typing.{IsWritten, AreWritten, AreWrittenMembers, AreWrittenBindings}
use Rattle.core_calc.specs.TypeOf.{and_then, with_bound, is_int, is_bool, is_dyn_type, signature_of, box_content}
use Rattle.core_calc.specs.TypeOf.{vector_content, part_type, is_number, last_of, place_of, two_integers, no_operand}
use Rattle.core_calc.specs.TypeOf.{operator_type}
use Rattle.core_calc.specs.TypeOf.{within, function_type, type_of}
use Rattle.core_calc.specs.TypeOf.{types_of, members_fit, types_of_bindings, labels_end, labels_end_of_all}
use Rattle.core_calc.specs.TypeOf.{labels_end_of_members, labels_end_of_bindings}
use Rattle.core_calc.proofs.ListPlaces.{none_is_not_some, same_some}
use Rattle.core_calc.proofs.RowsOfTables.{false_is_not_true, both_true}
use Rattle.core_calc.proofs.NamesInScope.{Agrees, Agrees-bound}

-- ---- answers that there may be

pub there_then : {A B : Type 0} (o : Option A) (next : A → Option B) (b : B) → and_then o next ≡ Some b →
    (a : A) × (o ≡ Some a) × (next a ≡ Some b)
unfolding and_then
there_then (Some a) next b e = (a, refl, e)
there_then None next b e = absurd (none_is_not_some b e)

pub where_true : {A : Type 0} (b : Bool) (o : Option A) (a : A) → cond b o None ≡ Some a → (b ≡ true) × (o ≡ Some a)
where_true true o a e = (refl, e)
where_true false o a e = absurd (none_is_not_some a e)

pub some_there : {A : Type 0} (o : Option A) → is_some o ≡ true → (a : A) × (o ≡ Some a)
some_there (Some a) e = (a, refl)
some_there None e = absurd (false_is_not_true e)

-- ---- rows

int_row : (o : Option TypeRow) → is_int o ≡ true → o ≡ Some IntRow
int_row (Some IntRow) e = refl
int_row o e = absurd (false_is_not_true e)

bool_row : (o : Option TypeRow) → is_bool o ≡ true → o ≡ Some BoolRow
bool_row (Some BoolRow) e = refl
bool_row o e = absurd (false_is_not_true e)

dyn_row : (o : Option TypeRow) → is_dyn_type o ≡ true → o ≡ Some DynRow
dyn_row (Some DynRow) e = refl
dyn_row o e = absurd (false_is_not_true e)

function_row : (o : Option TypeRow) (s : List ℕ × ℕ) → signature_of o ≡ Some s → o ≡ Some (FunRow s.0 s.1)
function_row (Some (FunRow parameters answer)) s e =
    ap (λ (t : List ℕ × ℕ). Some (FunRow t.0 t.1)) (same_some (parameters, answer) s e)
function_row o s e = absurd (none_is_not_some s e)

box_row : (o : Option TypeRow) (content : ℕ) → box_content o ≡ Some content → o ≡ Some (RefRow content)
box_row (Some (RefRow c)) content e = ap (λ t. Some (RefRow t)) (same_some c content e)
box_row o content e = absurd (none_is_not_some content e)

vector_row : (o : Option TypeRow) (content : ℕ) → vector_content o ≡ Some content → o ≡ Some (VectRow content)
vector_row (Some (VectRow c)) content e = ap (λ t. Some (VectRow t)) (same_some c content e)
vector_row o content e = absurd (none_is_not_some content e)

tuple_row : (o : Option TypeRow) (k : ℤ) (type : ℕ) → part_type o k ≡ Some type → (parts : List ℕ) ×
    (o ≡ Some (TupleRow parts)) × (tuple_part (TupleRow parts) k ≡ Some type)
tuple_row (Some (TupleRow parts)) k type e = (parts, refl, e)
tuple_row o k type e = absurd (none_is_not_some type e)

number_is : (o : Option ℕ) (n : ℕ) → is_number o n ≡ true → o ≡ Some n
number_is (Some a) n e = ap Some (eqb-true a n e)
number_is None n e = absurd (false_is_not_true e)

pub numbers_equal : (xs ys : List ℕ) → equal_numbers xs ys ≡ true → xs ≡ ys
numbers_equal [] [] e = refl
numbers_equal [] (y ∷ ys) e = absurd (false_is_not_true e)
numbers_equal (x ∷ xs) [] e = absurd (false_is_not_true e)
numbers_equal (x ∷ xs) (y ∷ ys) e =
    let both = both_true (nat_eq x y) (equal_numbers xs ys) e in
    ap₂ (λ a rest. a ∷ rest) (eqb-true x y both.0) (numbers_equal xs ys both.1)

fits_from : (n : ℤ) → fits_in_64_bits n ≡ true → FitsSigned w64 n
fits_from (pos n) e = let below = ltb-true n (2 ^ 63) e in omega arith
fits_from (negsuc n) e = let below = ltb-true n (2 ^ 63) e in omega arith

module _ (types : TypeRows) where
  pub row_at_place : (row : TypeRow) (type : ℕ) → place_of types row ≡ Some type → row_at types type ≡ Some row
  row_at_place row type e =
      let found = place_found (equal_rows row) types type e in
      found.1 ∙ ap Some (sym (rows_are_equal row found.0 found.2))

  -- ---- operators

  two_integers_have : (row : TypeRow) (operands : List ℕ) (type : ℕ) → two_integers types row operands ≡ Some type →
      AreInts types operands × Is types type row
  two_integers_have row (a ∷ b ∷ []) type e =
      let w = where_true (is_int (row_at types a) && is_int (row_at types b)) (place_of types row) type e in
      let both = both_true (is_int (row_at types a)) (is_int (row_at types b)) w.0 in
      ((a, b, refl, int_row (row_at types a) both.0, int_row (row_at types b) both.1), row_at_place row type w.1)
  two_integers_have row operands type e = absurd (none_is_not_some type e)

  no_operand_has : (row : TypeRow) (operands : List ℕ) (type : ℕ) → no_operand types row operands ≡ Some type →
      (operands ≡ []) × Is types type row
  no_operand_has row [] type e = (refl, row_at_place row type e)
  no_operand_has row (a ∷ rest) type e = absurd (none_is_not_some type e)

  operator_has : (operator : PrimOp) (operands : List ℕ) (type : ℕ) → operator_type types operator operands ≡ Some type
      →
      OperatorHasType types operator operands type
  operator_has Add operands type e = two_integers_have IntRow operands type e
  operator_has Sub operands type e = two_integers_have IntRow operands type e
  operator_has Mul operands type e = two_integers_have IntRow operands type e
  operator_has Quot operands type e = two_integers_have IntRow operands type e
  operator_has Rem operands type e = two_integers_have IntRow operands type e
  operator_has Lt operands type e = two_integers_have BoolRow operands type e
  operator_has Le operands type e = two_integers_have BoolRow operands type e
  operator_has Eq operands type e = two_integers_have BoolRow operands type e
  operator_has Ge operands type e = two_integers_have BoolRow operands type e
  operator_has Gt operands type e = two_integers_have BoolRow operands type e
  operator_has Not (a ∷ []) type e =
      let w = where_true (is_bool (row_at types a)) (place_of types BoolRow) type e in
      ((a, refl, bool_row (row_at types a) w.0), row_at_place BoolRow type w.1)
  operator_has Not operands type e = absurd (none_is_not_some type e)
  operator_has PrintInt (a ∷ []) type e =
      let w = where_true (is_int (row_at types a)) (place_of types UnitRow) type e in
      ((a, refl, int_row (row_at types a) w.0), row_at_place UnitRow type w.1)
  operator_has PrintInt operands type e = absurd (none_is_not_some type e)
  operator_has Newline operands type e = no_operand_has UnitRow operands type e
  operator_has ReadInt operands type e = no_operand_has IntRow operands type e
  operator_has MakeBox (a ∷ []) type e = (a, refl, row_at_place (RefRow a) type e)
  operator_has MakeBox operands type e = absurd (none_is_not_some type e)
  operator_has Unbox (a ∷ []) type e = (a, refl, box_row (row_at types a) type e)
  operator_has Unbox operands type e = absurd (none_is_not_some type e)
  operator_has BoxSet (a ∷ b ∷ []) type e =
      let w = where_true (is_number (box_content (row_at types a)) b) (place_of types UnitRow) type e in (
        a,
        b,
        refl,
        box_row (row_at types a) b (number_is (box_content (row_at types a)) b w.0),
        row_at_place UnitRow type w.1,
      )
  operator_has BoxSet operands type e = absurd (none_is_not_some type e)
  operator_has MakeVector (a ∷ b ∷ []) type e =
      let w = where_true (is_int (row_at types a)) (place_of types (VectRow b)) type e in
      (a, b, refl, int_row (row_at types a) w.0, row_at_place (VectRow b) type w.1)
  operator_has MakeVector operands type e = absurd (none_is_not_some type e)
  operator_has VectorRef (a ∷ b ∷ []) type e =
      let w = where_true (is_int (row_at types b)) (vector_content (row_at types a)) type e in
      (a, b, refl, vector_row (row_at types a) type w.1, int_row (row_at types b) w.0)
  operator_has VectorRef operands type e = absurd (none_is_not_some type e)
  operator_has VectorSet (a ∷ b ∷ c ∷ []) type e =
      let is_content = is_number (vector_content (row_at types a)) c in
      let w = where_true (is_int (row_at types b) && is_content) (place_of types UnitRow) type e in
      let both = both_true (is_int (row_at types b)) is_content w.0 in (
        a,
        b,
        c,
        refl,
        vector_row (row_at types a) c (number_is (vector_content (row_at types a)) c both.1),
        int_row (row_at types b) both.0,
        row_at_place UnitRow type w.1,
      )
  operator_has VectorSet operands type e = absurd (none_is_not_some type e)
  operator_has VectorLength (a ∷ []) type e =
      let w = where_true (is_some (vector_content (row_at types a))) (place_of types IntRow) type e in
      let content = some_there (vector_content (row_at types a)) w.0 in
      (content.0, (a, refl, vector_row (row_at types a) content.0 content.1), row_at_place IntRow type w.1)
  operator_has VectorLength operands type e = absurd (none_is_not_some type e)

  -- ---- terms

  last_from_all : (labels : ℕ) (cells : List CellType) (context : Context) (terms : Terms) (given : List ℕ) (type : ℕ) →
      HaveTypes types labels cells context terms given → last_of given ≡ Some type →
      LastHasType types labels cells context terms type
  last_from_all labels cells context NoTerms given type h e =
      absurd (none_is_not_some type (sym (ap last_of h) ∙ e))
  last_from_all labels cells context (TermThen term NoTerms) given type h e =
      let same : h.0 ≡ type =
      same_some h.0 type (sym (ap last_of (h.2 ∙ ap (λ ts. h.0 ∷ ts) h.4)) ∙ e) in
      subst (λ t. HasType types labels cells context term t) same h.3
  last_from_all labels cells context (TermThen term (TermThen second rest)) given type h e =
      let later : last_of h.1 ≡ Some type =
      ap last_of h.4.2 ∙ sym (ap (λ ts. last_of (h.0 ∷ ts)) h.4.2) ∙ sym (ap last_of h.2) ∙ e in
      ((h.0, h.3), last_from_all labels cells context (TermThen second rest) h.1 type h.4 later)

  -- what a function has, where its body has what is said in each scope that agrees with a context
  function_has : (own context : Context) (parameters : List ℕ) (written type : ℕ) (body_type : Context → Option ℕ)
      (BodyHasType : Context → ℕ → Type 0) → Agrees own context →
      ((inner outer : Context) (t : ℕ) → Agrees inner outer → body_type inner ≡ Some t → BodyHasType outer t) →
      function_type types own parameters written body_type ≡ Some type →
      (written ≡ type) × IsFunction types parameters written (λ bound answer. BodyHasType (bound ++ context) answer)
  function_has own context parameters written type body_type BodyHasType agrees body e =
      let s = there_then (signature_of (row_at types written)) _ type e in
      let b = there_then (bind parameters s.0.0) _ type s.2 in
      let t = there_then (within types own b.0 body_type) _ type b.2 in
      let i = there_then (with_bound own b.0) _ t.0 t.1 in
      let w = where_true (nat_eq t.0 s.0.1) (Some written) type t.2 in
      let typed = body i.0 (b.0 ++ context) t.0 (Agrees-bound own context b.0 i.0 agrees i.1) i.2 in (
        same_some written type w.1,
        (
          s.0.0,
          s.0.1,
          b.0,
          function_row (row_at types written) s.0 s.1,
          b.1,
          subst (λ a. BodyHasType (b.0 ++ context) a) (eqb-true t.0 s.0.1 w.0) typed,
        ),
      )

  module _ (widths : HaveWidths types) (labels : ℕ) (cells : List CellType) where
    abbrev Has : Context → Term → ℕ → Type 0
    Has context term type = HasType types labels cells context term type

    mutual
      pub found_type : (term : Term) (own context : Context) (type : ℕ) → Agrees own context →
          labels_end term ≤ labels → type_of types own term ≡ Some type → Has context term type
      found_type (IntLit n) own context type agrees low e =
          let w = where_true (fits_in_64_bits n) (place_of types IntRow) type e in
          (fits_from n w.0, row_at_place IntRow type w.1)
      found_type (BoolLit b) own context type agrees low e = row_at_place BoolRow type e
      found_type UnitLit own context type agrees low e = row_at_place UnitRow type e
      found_type (Var name) own context type agrees low e = sym (agrees name) ∙ e
      found_type (Lambda parameters body written) own context type agrees low e =
          let f = function_has own context parameters written type (λ inner. type_of types inner body)
          (λ c a. Has c body a) agrees (λ inner outer t a g. found_type body inner outer t a low g) e in
          (f.0, subst (λ t. IsFunction types parameters t (λ bound answer. Has (bound ++ context) body answer)) f.0 f.1)
      found_type (Group group body) own context type agrees low e =
          let i = there_then (with_bound own (member_types group)) _ type e in
          let m = there_then (members_fit types i.0 group) _ type i.2 in
          let agrees_inside = Agrees-bound own context (member_types group) i.0 agrees i.1 in (
            found_members group i.0 (member_types group ++ context) m.0 agrees_inside (omega arith) m.1,
            found_type body i.0 (member_types group ++ context) type agrees_inside (omega arith) m.2,
          )
      found_type (Let bindings body) own context type agrees low e =
          let b = there_then (types_of_bindings types own bindings) _ type e in
          let i = there_then (with_bound own b.0) _ type b.2 in (
            b.0,
            found_bindings bindings own context b.0 agrees (omega arith) b.1,
            found_type body i.0 (b.0 ++ context) type (Agrees-bound own context b.0 i.0 agrees i.1) (omega arith) i.2,
          )
      found_type (Call function arguments) own context type agrees low e =
          let f = there_then (type_of types own function) _ type e in
          let a = there_then (types_of types own arguments) _ type f.2 in
          let s = there_then (signature_of (row_at types f.0)) _ type a.2 in
          let w = where_true (equal_numbers a.0 s.0.0) (Some s.0.1) type s.2 in
          let is_function = function_row (row_at types f.0) s.0 s.1 in (
            f.0,
            s.0.0,
            found_type function own context f.0 agrees (omega arith) f.1,
            is_function ∙ ap (λ t. Some (FunRow s.0.0 t)) (same_some s.0.1 type w.1),
            subst (λ ts. HaveTypes types labels cells context arguments ts) (numbers_equal a.0 s.0.0 w.0)
                (found_types arguments own context a.0 agrees (omega arith) a.1),
          )
      found_type (Enter function arguments) own context type agrees low e = absurd (none_is_not_some type e)
      found_type (If condition on_true on_false) own context type agrees low e =
          let c = there_then (type_of types own condition) _ type e in
          let t = there_then (type_of types own on_true) _ type c.2 in
          let o = there_then (type_of types own on_false) _ type t.2 in
          let w = where_true (is_bool (row_at types c.0) && nat_eq t.0 o.0) (Some t.0) type o.2 in
          let both = both_true (is_bool (row_at types c.0)) (nat_eq t.0 o.0) w.0 in
          let same = same_some t.0 type w.1 in (
            c.0,
            found_type condition own context c.0 agrees (omega arith) c.1,
            bool_row (row_at types c.0) both.0,
            subst (λ x. Has context on_true x) same (found_type on_true own context t.0 agrees (omega arith) t.1),
            subst (λ x. Has context on_false x) (sym (eqb-true t.0 o.0 both.1) ∙ same)
                (found_type on_false own context o.0 agrees (omega arith) o.1),
          )
      found_type (Seq terms) own context type agrees low e =
          let g = there_then (types_of types own terms) _ type e in
          last_from_all labels cells context terms g.0 type (found_types terms own context g.0 agrees low g.1) g.2
      found_type (Cast term from to label) own context type agrees low e =
          let g = there_then (type_of types own term) _ type e in
          let w = where_true (nat_eq g.0 from && is_some (row_at types to)) (Some to) type g.2 in
          let both = both_true (nat_eq g.0 from) (is_some (row_at types to)) w.0 in
          let row = some_there (row_at types to) both.1 in
          let same = same_some to type w.1 in (
            same,
            subst (λ x. Has context term x) (eqb-true g.0 from both.0)
                (found_type term own context g.0 agrees (omega arith) g.1),
            (row.0, ap (row_at types) (sym same) ∙ row.1),
            omega arith,
          )
      found_type (Proj term k) own context type agrees low e =
          let g = there_then (type_of types own term) _ type e in
          let p = tuple_row (row_at types g.0) k type g.2 in
          (g.0, p.0, found_type term own context g.0 agrees low g.1, p.1, p.2)
      found_type (ProjDyn term k label) own context type agrees low e =
          let g = there_then (type_of types own term) _ type e in
          let w = where_true (is_dyn_type (row_at types g.0)) (Some g.0) type g.2 in
          let same = same_some g.0 type w.1 in (
            subst (λ x. Has context term x) same (found_type term own context g.0 agrees (omega arith) g.1),
            ap (row_at types) (sym same) ∙ dyn_row (row_at types g.0) w.0,
            omega arith,
          )
      found_type (Tuple parts) own context type agrees low e =
          let g = there_then (types_of types own parts) _ type e in
          let row = row_at_place (TupleRow g.0) type g.2 in
          let width = widths type (TupleRow g.0) row in
          (g.0, found_types parts own context g.0 agrees low g.1, row, width.0, width.1)
      found_type (Prim operator operands) own context type agrees low e =
          let g = there_then (types_of types own operands) _ type e in
          (g.0, found_types operands own context g.0 agrees low g.1, operator_has operator g.0 type g.2)
      found_type (ValueTerm v) own context type agrees low e = absurd (none_is_not_some type e)

      found_types : (terms : Terms) (own context : Context) (given : List ℕ) → Agrees own context →
          labels_end_of_all terms ≤ labels → types_of types own terms ≡ Some given →
          HaveTypes types labels cells context terms given
      found_types NoTerms own context given agrees low e = sym (same_some [] given e)
      found_types (TermThen term rest) own context given agrees low e =
          let t = there_then (type_of types own term) _ given e in
          let others = there_then (types_of types own rest) _ given t.2 in (
            t.0,
            others.0,
            sym (same_some (t.0 ∷ others.0) given others.2),
            found_type term own context t.0 agrees (omega arith) t.1,
            found_types rest own context others.0 agrees (omega arith) others.1,
          )

      found_members : (group : Members) (own context : Context) (fit : Bool) → Agrees own context →
          labels_end_of_members group ≤ labels → members_fit types own group ≡ Some fit →
          MembersHaveTypes types labels cells context group
      found_members NoMembers own context fit agrees low e = tt
      found_members (MemberThen name parameters body written rest) own context fit agrees low e =
          let inner_low : labels_end body ≤ labels = omega arith in
          let t = there_then (function_type types own parameters written (λ inner. type_of types inner body)) _ fit e in
          let f = function_has own context parameters written t.0 (λ inner. type_of types inner body)
          (λ c a. Has c body a) agrees (λ inner outer t a g. found_type body inner outer t a inner_low g) t.1 in
          (f.1, found_members rest own context fit agrees (omega arith) t.2)

      found_bindings : (bindings : Bindings) (own context bound : Context) → Agrees own context →
          labels_end_of_bindings bindings ≤ labels → types_of_bindings types own bindings ≡ Some bound →
          BindingsHaveTypes types labels cells context bindings bound
      found_bindings NoBindings own context bound agrees low e = sym (same_some [] bound e)
      found_bindings (BindingThen name term rest) own context bound agrees low e =
          let t = there_then (type_of types own term) _ bound e in
          let others = there_then (types_of_bindings types own rest) _ bound t.2 in (
            t.0,
            others.0,
            sym (same_some ((name, t.0) ∷ others.0) bound others.2),
            found_type term own context t.0 agrees (omega arith) t.1,
            found_bindings rest own context others.0 agrees (omega arith) others.1,
          )

  -- ---- what has a type is written

  function_written : (own : Context) (parameters : List ℕ) (written type : ℕ) (body_type : Context → Option ℕ)
      (IsSo : Type 0) → ((inner : Context) (t : ℕ) → body_type inner ≡ Some t → IsSo) →
      function_type types own parameters written body_type ≡ Some type → IsSo
  function_written own parameters written type body_type IsSo body e =
      let s = there_then (signature_of (row_at types written)) _ type e in
      let b = there_then (bind parameters s.0.0) _ type s.2 in
      let t = there_then (within types own b.0 body_type) _ type b.2 in
      let i = there_then (with_bound own b.0) _ t.0 t.1 in
      body i.0 t.0 i.2

  mutual
    pub typed_is_written : (term : Term) (own : Context) (type : ℕ) → type_of types own term ≡ Some type →
        IsWritten term
    typed_is_written (IntLit n) own type e = tt
    typed_is_written (BoolLit b) own type e = tt
    typed_is_written UnitLit own type e = tt
    typed_is_written (Var name) own type e = tt
    typed_is_written (Lambda parameters body written) own type e =
        function_written own parameters written type (λ inner. type_of types inner body) (IsWritten body)
        (λ inner t g. typed_is_written body inner t g) e
    typed_is_written (Group group body) own type e =
        let i = there_then (with_bound own (member_types group)) _ type e in
        let m = there_then (members_fit types i.0 group) _ type i.2 in
        (fitting_are_written group i.0 m.0 m.1, typed_is_written body i.0 type m.2)
    typed_is_written (Let bindings body) own type e =
        let b = there_then (types_of_bindings types own bindings) _ type e in
        let i = there_then (with_bound own b.0) _ type b.2 in
        (bound_are_written bindings own b.0 b.1, typed_is_written body i.0 type i.2)
    typed_is_written (Call function arguments) own type e =
        let f = there_then (type_of types own function) _ type e in
        let a = there_then (types_of types own arguments) _ type f.2 in
        (typed_is_written function own f.0 f.1, all_are_written arguments own a.0 a.1)
    typed_is_written (Enter function arguments) own type e = absurd (none_is_not_some type e)
    typed_is_written (If condition on_true on_false) own type e =
        let c = there_then (type_of types own condition) _ type e in
        let t = there_then (type_of types own on_true) _ type c.2 in
        let o = there_then (type_of types own on_false) _ type t.2 in (
          typed_is_written condition own c.0 c.1,
          typed_is_written on_true own t.0 t.1,
          typed_is_written on_false own o.0 o.1,
        )
    typed_is_written (Seq terms) own type e =
        let g = there_then (types_of types own terms) _ type e in
        all_are_written terms own g.0 g.1
    typed_is_written (Cast term from to label) own type e =
        let g = there_then (type_of types own term) _ type e in
        typed_is_written term own g.0 g.1
    typed_is_written (Proj term k) own type e =
        let g = there_then (type_of types own term) _ type e in
        typed_is_written term own g.0 g.1
    typed_is_written (ProjDyn term k label) own type e =
        let g = there_then (type_of types own term) _ type e in
        typed_is_written term own g.0 g.1
    typed_is_written (Tuple parts) own type e =
        let g = there_then (types_of types own parts) _ type e in
        all_are_written parts own g.0 g.1
    typed_is_written (Prim operator operands) own type e =
        let g = there_then (types_of types own operands) _ type e in
        all_are_written operands own g.0 g.1
    typed_is_written (ValueTerm v) own type e = absurd (none_is_not_some type e)

    all_are_written : (terms : Terms) (own : Context) (given : List ℕ) → types_of types own terms ≡ Some given →
        AreWritten terms
    all_are_written NoTerms own given e = tt
    all_are_written (TermThen term rest) own given e =
        let t = there_then (type_of types own term) _ given e in
        let others = there_then (types_of types own rest) _ given t.2 in
        (typed_is_written term own t.0 t.1, all_are_written rest own others.0 others.1)

    fitting_are_written : (group : Members) (own : Context) (fit : Bool) → members_fit types own group ≡ Some fit →
        AreWrittenMembers group
    fitting_are_written NoMembers own fit e = tt
    fitting_are_written (MemberThen name parameters body written rest) own fit e =
        let t = there_then (function_type types own parameters written (λ inner. type_of types inner body)) _ fit e in (
          function_written own parameters written t.0 (λ inner. type_of types inner body) (IsWritten body)
              (λ inner u g. typed_is_written body inner u g) t.1,
          fitting_are_written rest own fit t.2,
        )

    bound_are_written : (bindings : Bindings) (own bound : Context) → types_of_bindings types own bindings ≡ Some bound
        →
        AreWrittenBindings bindings
    bound_are_written NoBindings own bound e = tt
    bound_are_written (BindingThen name term rest) own bound e =
        let t = there_then (type_of types own term) _ bound e in
        let others = there_then (types_of_bindings types own rest) _ bound t.2 in
        (typed_is_written term own t.0 t.1, bound_are_written rest own others.0 others.1)
