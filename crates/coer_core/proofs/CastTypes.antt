-- The casts of a program term are between types of the table.
use Rattle.std.proofs.Common.{◌≡◌, ℕ, zero, suc, ◌<◌, Bool, true, false, List, [], ◌∷◌, ◌++◌, length, Option, Some}
use Rattle.std.proofs.Common.{None, refl, sym, ap}
use Rattle.std.proofs.Common.{◌∙◌, subst, if◌then◌else◌, All, slice_get}
use Rattle.std.specs.Prelude.{cond, nat_eq, ℤ, pos, negsuc}
use Rattle.std.specs.List.{list_any}
use Rattle.std.proofs.lemmas.Option.{slice_get_within, get_or_from_slice_get}
use Rattle.std.proofs.lemmas.List.Elements.{All-head, All-tail, All-nil, All-cons}
use Rattle.grift_base.specs.Types.{TypeRow, IntRow, BoolRow, UnitRow, FunRow, TupleRow, RefRow, VectRow}
use Rattle.grift_base.specs.Types.{TypeRows, row_at, parts_of, tuple_part}
use Rattle.grift_base.specs.declared.operators.PrimOp.{PrimOp}
use Rattle.grift_base.specs.declared.operators.PrimOp.TheVariants.{Add, Sub, Mul, Quot, Rem, Lt, Le, Eq, Ge, Gt, Not}
use Rattle.grift_base.specs.declared.operators.PrimOp.TheVariants.{PrintInt, Newline, ReadInt, MakeBox, Unbox, BoxSet}
use Rattle.grift_base.specs.declared.operators.PrimOp.TheVariants.{MakeVector, VectorRef, VectorSet, VectorLength}
use Rattle.core_calc.specs.Terms.{Term, Terms, Members, Bindings, IntLit, BoolLit, UnitLit, Var, Lambda, Group, Let}
use Rattle.core_calc.specs.Terms.{Call, Enter, If, Seq, Cast, Proj, ProjDyn, Tuple, Prim, ValueTerm, NoTerms, TermThen}
use Rattle.core_calc.specs.Terms.{NoMembers, MemberThen, NoBindings, BindingThen, both_in_front}
use Rattle.core_calc.specs.Substitution.{bind, entry_of}
use Rattle.core_calc.specs.Typing.{IsTypeTable, Context, CellType, IsFunction, OperatorHasType, HasType, HaveTypes}
use Rattle.core_calc.specs.Typing.{LastHasType, MembersHaveTypes, BindingsHaveTypes, member_types, IsWritten}
use Rattle.core_calc.specs.Typing.{AreWritten}
use Rattle.core_calc.specs.Typing.{AreWrittenMembers, AreWrittenBindings}
use Rattle.coercion_norm.specs.declared.casts.Cast.{Cast as RustCast}
use Rattle.coercion_norm.specs.CoercionTables.{IsCast}
use Rattle.cast_modes.specs.Modes.{TypeCast, type_cast}
use Rattle.coer_core.specs.Conversion.{casts_in, all_casts, same_cast}
use Rattle.coer_core.specs.Conversion.{with_cast}
use Rattle.coer_core.specs.Gathered.{gathered_of_all, gathered_of_members, gathered_of_bindings}
use Rattle.coer_core.specs.Conversion.{with_casts, cast_views}

module _ (types : TypeRows) where
  -- the type is one of the table
  abbrev In : ℕ → Type 0
  In type = type < length types

  abbrev AllIn : List ℕ → Type 0
  AllIn [] = Unit {0}
  AllIn (type ∷ rest) = In type × AllIn rest

  -- both types of a cast are
  abbrev CastIn : TypeCast → Type 0
  CastIn cast = In cast.from × In cast.to

  abbrev pub CastsIn : List TypeCast → Type 0
  CastsIn [] = Unit {0}
  CastsIn (cast ∷ rest) = CastIn cast × CastsIn rest

  abbrev NamesIn : Context → Type 0
  NamesIn [] = Unit {0}
  NamesIn (entry ∷ rest) = In entry.1 × NamesIn rest

  names_append : (a b : Context) → NamesIn a → NamesIn b → NamesIn (a ++ b)
  names_append [] b p q = q
  names_append (entry ∷ a) b p q = (p.0, names_append a b p.1 q)

  casts_append : (a b : List TypeCast) → CastsIn a → CastsIn b → CastsIn (a ++ b)
  casts_append [] b p q = q
  casts_append (cast ∷ a) b p q = (p.0, casts_append a b p.1 q)

  from_all : (xs : List ℕ) → All (λ part. part < length types) xs → AllIn xs
  from_all [] all = tt
  from_all (x ∷ xs) all =
      (All-head (λ part. part < length types) x xs all, from_all xs (All-tail (λ part. part < length types) x xs all))

  first_in : (xs ys : List ℕ) → AllIn (xs ++ ys) → AllIn xs
  first_in [] ys all = tt
  first_in (x ∷ xs) ys all = (all.0, first_in xs ys all.1)

  last_in : (xs : List ℕ) (y : ℕ) → AllIn (xs ++ y ∷ []) → In y
  last_in [] y all = all.0
  last_in (x ∷ xs) y all = last_in xs y all.1

  place_in : (xs : List ℕ) (k x : ℕ) → slice_get xs k ≡ Some x → AllIn xs → In x
  place_in [] k x e all = absurd (cc e)
  place_in (y ∷ xs) zero x e all = subst In (some_same y x e) all.0
    where
      some_same : (a b : ℕ) → ◌≡◌ {A = Option ℕ} (Some a) (Some b) → a ≡ b
      some_same a b h = cc
  place_in (y ∷ xs) (suc k) x e all = place_in xs k x e all.1

  entry_in : (name type : ℕ) (context : Context) → NamesIn context → entry_of name context ≡ Some type → In type
  entry_in name type [] all e = absurd (cc e)
  entry_in name type (entry ∷ rest) all e = by (λ h. entry_in name type rest all.1 h) (nat_eq name entry.0) e
    where
      some_same : (a b : ℕ) → ◌≡◌ {A = Option ℕ} (Some a) (Some b) → a ≡ b
      some_same a b h = cc

      by : (entry_of name rest ≡ Some type → In type) → (b : Bool)
          → cond b (Some entry.1) (entry_of name rest) ≡ Some type → In type
      by behind true h = subst In (some_same entry.1 type h) all.0
      by behind false h = behind h

  bound_in : (names wanted : List ℕ) (bound : Context) → bind names wanted ≡ Some bound → AllIn wanted → NamesIn bound
  bound_in [] [] bound e all = subst NamesIn (same [] bound e) tt
    where
      same : (a b : Context) → ◌≡◌ {A = Option Context} (Some a) (Some b) → a ≡ b
      same a b h = cc
  bound_in [] (t ∷ wanted) bound e all = absurd (cc e)
  bound_in (name ∷ names) [] bound e all = absurd (cc e)
  bound_in (name ∷ names) (t ∷ wanted) bound e all =
      by (λ rest f. bound_in names wanted rest f all.1) (bind names wanted) refl e
    where
      same : (a b : Context) → ◌≡◌ {A = Option Context} (Some a) (Some b) → a ≡ b
      same a b h = cc

      by : ((rest : Context) → bind names wanted ≡ Some rest → NamesIn rest) → (o : Option Context)
          → bind names wanted ≡ o → both_in_front (Some (name, t)) o ≡ Some bound → NamesIn bound
      by behind (Some rest) f h = subst NamesIn (same ((name, t) ∷ rest) bound h) (all.0, behind rest f)
      by behind None f h = absurd (cc h)

  -- casts that are met are in the table where those before and the new ones are
  with_in : (casts : List TypeCast) (cast : TypeCast) → CastsIn casts → CastIn cast → CastsIn (with_cast casts cast)
  with_in casts cast p q = by (list_any (same_cast cast) casts)
    where
      by : (b : Bool) → CastsIn (if b then casts else casts ++ cast ∷ [])
      by true = p
      by false = casts_append casts (cast ∷ []) p (q, tt)

  pub all_with_in : (casts more : List TypeCast) → CastsIn casts → CastsIn more → CastsIn (with_casts casts more)
  all_with_in casts [] p q = p
  all_with_in casts (cast ∷ more) p q = all_with_in (with_cast casts cast) more (with_in casts cast p q.0) q.1

  pub casts_are_in : (casts : List RustCast) → CastsIn (cast_views casts) → All (IsCast types) casts
  casts_are_in [] p = All-nil (IsCast types)
  casts_are_in (cast ∷ rest) p =
      All-cons (IsCast types) cast rest (record { from_there = p.0.0; to_there = p.0.1 }) (casts_are_in rest p.1)

module _ (types : TypeRows) (labels : ℕ) (cells : List CellType) (table : IsTypeTable types) where
  row_in : (type : ℕ) (row : TypeRow) → row_at types type ≡ Some row → In types type
  row_in type row e = slice_get_within types type row e

  parts_in : (type : ℕ) (row : TypeRow) → row_at types type ≡ Some row → AllIn types (parts_of row)
  parts_in type row e =
      from_all types (parts_of row)
      (subst (λ r. All (λ part. part < length types) (parts_of r)) (get_or_from_slice_get types type row row e)
      (table.closed type row (slice_get_within types type row e)))

  operator_in : (operator : PrimOp) (operands : List ℕ) (type : ℕ) → OperatorHasType types operator operands type
      → In types type
  operator_in Add operands type h = row_in type IntRow h.1
  operator_in Sub operands type h = row_in type IntRow h.1
  operator_in Mul operands type h = row_in type IntRow h.1
  operator_in Quot operands type h = row_in type IntRow h.1
  operator_in Rem operands type h = row_in type IntRow h.1
  operator_in Lt operands type h = row_in type BoolRow h.1
  operator_in Le operands type h = row_in type BoolRow h.1
  operator_in Eq operands type h = row_in type BoolRow h.1
  operator_in Ge operands type h = row_in type BoolRow h.1
  operator_in Gt operands type h = row_in type BoolRow h.1
  operator_in Not operands type h = row_in type BoolRow h.1
  operator_in PrintInt operands type h = row_in type UnitRow h.1
  operator_in Newline operands type h = row_in type UnitRow h.1
  operator_in ReadInt operands type h = row_in type IntRow h.1
  operator_in MakeBox operands type h = row_in type (RefRow h.0) h.2
  operator_in Unbox operands type h = (parts_in h.0 (RefRow type) h.2).0
  operator_in BoxSet operands type h = row_in type UnitRow h.4
  operator_in MakeVector operands type h = row_in type (VectRow h.1) h.4
  operator_in VectorRef operands type h = (parts_in h.0 (VectRow type) h.3).0
  operator_in VectorSet operands type h = row_in type UnitRow h.6
  operator_in VectorLength operands type h = row_in type IntRow h.2

  abbrev Found : Term → ℕ → Type 0
  Found term type = In types type × CastsIn types (casts_in term)

  part_in : (parts : List ℕ) (k : ℤ) (whole type : ℕ) → row_at types whole ≡ Some (TupleRow parts)
      → AllIn types parts → tuple_part (TupleRow parts) k ≡ Some type → In types type
  part_in parts (pos k) whole type e all f = place_in types parts k type f all
  part_in parts (negsuc k) whole type e all f = absurd (cc f)

  members_in_table : (context : Context) (members : Members) → MembersHaveTypes types labels cells context members
      → NamesIn types (member_types members)
  members_in_table context NoMembers h = tt
  members_in_table context (MemberThen name parameters body type rest) h =
      (row_in type (FunRow h.0.0 h.0.1) h.0.3, members_in_table context rest h.1)

  -- the names in a function's body
  body_names : (context : Context) (parameters : List ℕ) (type : ℕ) (BodyHasType : Context → ℕ → Type 0)
      → NamesIn types context → (h : IsFunction types parameters type BodyHasType) → NamesIn types (h.2 ++ context)
  body_names context parameters type BodyHasType c h =
      names_append types h.2 context
      (bound_in types parameters h.0 h.2 h.4 (first_in types h.0 (h.1 ∷ []) (parts_in type (FunRow h.0 h.1) h.3))) c

  mutual
    -- the type of a term is one of the table, and so are those of its casts
    pub term_in : (context : Context) (term : Term) (type : ℕ) → NamesIn types context → IsWritten term
        → HasType types labels cells context term type → Found term type
    term_in context (IntLit n) type c w h = (row_in type IntRow h.1, tt)
    term_in context (BoolLit b) type c w h = (row_in type BoolRow h, tt)
    term_in context UnitLit type c w h = (row_in type UnitRow h, tt)
    term_in context (Var name) type c w h = (entry_in types name type context c h, tt)
    term_in context (Lambda parameters body written) type c w h = (
      row_in type (FunRow h.1.0 h.1.1) h.1.3,
      (term_in (h.1.2 ++ context) body h.1.1 (body_names context parameters type _ c h.1) w h.1.5).1,
    )
    term_in context (Group members body) type c w h =
        let inner = names_append types (member_types members) context
        (members_in_table (member_types members ++ context) members h.0) c in
        let r = term_in (member_types members ++ context) body type inner w.1 h.1 in (
          r.0,
          casts_append types (gathered_of_members all_casts members) (casts_in body)
              (all_members_in (member_types members ++ context) members inner w.0 h.0) r.1,
        )
    term_in context (Let bindings body) type c w h =
        let b = bindings_in context bindings h.0 c w.0 h.1 in
        let r = term_in (h.0 ++ context) body type (names_append types h.0 context b.0 c) w.1 h.2 in
        (r.0, casts_append types (gathered_of_bindings all_casts bindings) (casts_in body) b.1 r.1)
    term_in context (Call function arguments) type c w h =
        let f = term_in context function h.0 c w.0 h.2 in (
          last_in types h.1 type (parts_in h.0 (FunRow h.1 type) h.3),
          casts_append types (casts_in function) (gathered_of_all all_casts arguments) f.1
              (all_in context arguments h.1 c w.1 h.4),
        )
    term_in context (Enter function arguments) type c w h = absurd w
    term_in context (If condition on_true on_false) type c w h =
        let x = term_in context condition h.0 c w.0 h.1 in
        let y = term_in context on_true type c w.1 h.3 in
        let z = term_in context on_false type c w.2 h.4 in (
          y.0,
          casts_append types (casts_in condition) (casts_in on_true ++ casts_in on_false) x.1
              (casts_append types (casts_in on_true) (casts_in on_false) y.1 z.1),
        )
    term_in context (Seq terms) type c w h = last_term_in context terms type c w h
    term_in context (Cast term from to label) type c w h =
        let r = term_in context term from c w h.1 in
        let there = row_in to h.2.0 (ap (row_at types) h.0 ∙ h.2.1) in (
          row_in type h.2.0 h.2.1,
          casts_append types (casts_in term) (type_cast from label to ∷ []) r.1
              ((r.0, there), tt),
        )
    term_in context (Proj term k) type c w h =
        let r = term_in context term h.0 c w h.2 in
        (part_in h.1 k h.0 type h.3 (parts_in h.0 (TupleRow h.1) h.3) h.4, r.1)
    term_in context (ProjDyn term k label) type c w h = term_in context term type c w h.0
    term_in context (Tuple parts) type c w h = (row_in type (TupleRow h.0) h.2, all_in context parts h.0 c w h.1)
    term_in context (Prim operator operands) type c w h =
        (operator_in operator h.0 type h.2, all_in context operands h.0 c w h.1)
    term_in context (ValueTerm v) type c w h = absurd w

    all_in : (context : Context) (terms : Terms) (wanted : List ℕ) → NamesIn types context → AreWritten terms
        → HaveTypes types labels cells context terms wanted → CastsIn types (gathered_of_all all_casts terms)
    all_in context NoTerms wanted c w h = tt
    all_in context (TermThen term rest) wanted c w h =
        casts_append types (casts_in term) (gathered_of_all all_casts rest) (term_in context term h.0 c w.0 h.3).1
        (all_in context rest h.1 c w.1 h.4)

    last_term_in : (context : Context) (terms : Terms) (type : ℕ) → NamesIn types context → AreWritten terms
        → LastHasType types labels cells context terms type
        → In types type × CastsIn types (gathered_of_all all_casts terms)
    last_term_in context NoTerms type c w h = absurd h
    last_term_in context (TermThen term NoTerms) type c w h =
        let r = term_in context term type c w.0 h in (r.0, casts_append types (casts_in term) [] r.1 tt)
    last_term_in context (TermThen term (TermThen second rest)) type c w h =
        let r = last_term_in context (TermThen second rest) type c w.1 h.1 in (
          r.0,
          casts_append types (casts_in term) (gathered_of_all all_casts (TermThen second rest))
              (term_in context term h.0.0 c w.0 h.0.1).1 r.1,
        )

    all_members_in : (context : Context) (members : Members) → NamesIn types context → AreWrittenMembers members
        → MembersHaveTypes types labels cells context members → CastsIn types (gathered_of_members all_casts members)
    all_members_in context NoMembers c w h = tt
    all_members_in context (MemberThen name parameters body type rest) c w h =
        casts_append types (casts_in body) (gathered_of_members all_casts rest)
        (term_in (h.0.2 ++ context) body h.0.1 (body_names context parameters type _ c h.0) w.0 h.0.5).1
        (all_members_in context rest c w.1 h.1)

    bindings_in : (context : Context) (bindings : Bindings) (bound : Context) → NamesIn types context
        → AreWrittenBindings bindings → BindingsHaveTypes types labels cells context bindings bound
        → NamesIn types bound × CastsIn types (gathered_of_bindings all_casts bindings)
    bindings_in context NoBindings bound c w h = (subst (NamesIn types) (sym h) tt, tt)
    bindings_in context (BindingThen name term rest) bound c w h =
        let t = term_in context term h.0 c w.0 h.3 in
        let r = bindings_in context rest h.1 c w.1 h.4 in (
          subst (NamesIn types) (sym h.2) (t.0, r.0),
          casts_append types (casts_in term) (gathered_of_bindings all_casts rest) t.1
              r.1,
        )
