-- A type by the rules is the computed one, where each name is bound once.
use Rattle.std.proofs.Common.{◌≡◌, ℕ, ℤ, pos, negsuc, ◌+◌, ◌^◌, ◌≤◌, ◌<◌, Bool, true, false, cond, List, []}
use Rattle.std.proofs.Common.{◌∷◌, ◌++◌, Option, Some, None, refl, sym, ap, ap₂, ◌∙◌, subst, arith}
use Rattle.std.specs.Prelude.{◌&&◌, nat_eq, is_some, option_map, IfSome, IfNone, Contains}
use Rattle.std.proofs.lemmas.Option.{slice_get_within, get_or_from_slice_get}
use Rattle.grift_base.specs.declared.places.TypeId.{TypeId}
use Rattle.std.specs.Int.{w64}
use Rattle.std.specs.Int.RustNames.{FitsSigned}
use Rattle.std.proofs.lemmas.Bool.{eq-eqb, lt-ltb}
use Rattle.grift_base.specs.Numbers.{fits_in_64_bits}
use Rattle.grift_base.specs.Types.{TypeRow, IntRow, BoolRow, UnitRow, TupleRow, RefRow, VectRow}
use Rattle.grift_base.specs.Types.{TypeRows, row_at}
use Rattle.grift_base.specs.declared.operators.PrimOp.{PrimOp}
use Rattle.grift_base.specs.declared.operators.PrimOp.TheVariants.{Add, Sub, Mul, Quot, Rem, Lt, Le, Eq, Ge, Gt, Not}
use Rattle.grift_base.specs.declared.operators.PrimOp.TheVariants.{PrintInt, Newline, ReadInt, MakeBox, Unbox, BoxSet}
use Rattle.grift_base.specs.declared.operators.PrimOp.TheVariants.{MakeVector, VectorRef, VectorSet, VectorLength}
use Rattle.type_graph.specs.Forming.{equal_rows, equal_numbers}
use Rattle.type_graph.specs.TypeTables.{IsOrderedTable}
use Rattle.type_graph.proofs.Public.{row_is_itself, place_missing, all_parts_within}
use Rattle.core_calc.specs.Terms.{Term, Terms, Members, Bindings, IntLit, BoolLit, UnitLit, Var, Lambda, Group, Let}
use Rattle.core_calc.specs.Terms.{Call}
use Rattle.core_calc.specs.Terms.{Enter, If, Seq, Cast, Proj, ProjDyn, Tuple, Prim, ValueTerm, NoTerms, TermThen}
use Rattle.core_calc.specs.Terms.{NoMembers, MemberThen, NoBindings, BindingThen}
use Rattle.core_calc.specs.Substitution.{bind}
use Rattle.core_calc.specs.Typing.{Context, CellType, IsTypeTable, member_types, Is, AreInts, OperatorHasType}
use Rattle.core_calc.specs.Typing.{IsFunction, HasType, HaveTypes, LastHasType, MembersHaveTypes, BindingsHaveTypes}
use Rattle.core_calc.specs.Typing.{IsWritten, AreWritten, AreWrittenMembers, AreWrittenBindings, binders, all_binders}
use Rattle.core_calc.specs.Typing.{member_binders, binding_binders, ProgramTermHasType}
use Rattle.core_calc.specs.TypeOf.{and_then, with_bound, with_names, is_int, is_bool, is_dyn_type, signature_of}
use Rattle.core_calc.specs.TypeOf.{box_content, vector_content, part_type, is_number, last_of, place_of, two_integers}
use Rattle.core_calc.specs.TypeOf.{operator_type, no_operand, negation, printing, boxing, unboxing, box_writing}
use Rattle.core_calc.specs.TypeOf.{vector_making, element, element_writing, measuring}
use Rattle.core_calc.specs.TypeOf.{within, function_type, type_of, types_of}
use Rattle.core_calc.specs.TypeOf.{members_fit, types_of_bindings, program_type, labels_end}
use Rattle.core_calc.proofs.ListPlaces.{none_is_not_some, some_is_not_none}
use Rattle.core_calc.proofs.RowsOfTables.{false_is_not_true, same_type}
use Rattle.core_calc.proofs.NamesInScope.{times, times_append, times_bound, times_inside, times_of_parameters}
use Rattle.core_calc.proofs.NamesInScope.{times_of_group, times_bound_append, Agrees, Agrees-bound, new_names_bound}
use Rattle.core_calc.proofs.NamesInScope.{names_added, names_once, once-from_HasNoRepeats, HasNoRepeats-from_once}
use Rattle.core_calc.proofs.TypesFound.{there_then, row_at_place, found_type, typed_is_written}

-- ---- answers that there may be

pub then_next : {A B : Type 0} (o : Option A) (next : A → Option B) (a : A) (r : Option B) → o ≡ Some a →
    next a ≡ r → and_then o next ≡ r
unfolding and_then
then_next o next a r e f = ap (λ x. and_then x next) e ∙ f

if_true : {A : Type 0} (b : Bool) (o : Option A) → b ≡ true → cond b o None ≡ o
if_true true o e = refl
if_true false o e = absurd (false_is_not_true e)

numbers_are_themselves : (xs : List ℕ) → equal_numbers xs xs ≡ true
numbers_are_themselves [] = refl
numbers_are_themselves (x ∷ xs) = ap₂ ◌&&◌ (eq-eqb x x refl) (numbers_are_themselves xs)

fits_there : (n : ℤ) → FitsSigned w64 n → fits_in_64_bits n ≡ true
fits_there (pos n) fits = let below : n < 2 ^ 63 = omega arith in lt-ltb n (2 ^ 63) below
fits_there (negsuc n) fits = let below : n < 2 ^ 63 = omega arith in lt-ltb n (2 ^ 63) below

last_behind : (type other : ℕ) (rest : List ℕ) → last_of rest ≡ Some type → last_of (other ∷ rest) ≡ Some type
last_behind type other [] e = absurd (none_is_not_some type e)
last_behind type other (t ∷ rest) e = e

-- no name stands both in scope and among these, nor twice in either
abbrev AreApart : Context → List ℕ → Type 0
AreApart own names = (x : ℕ) → times_bound x own + times x names ≤ 1

module _ (types : TypeRows) (table : IsTypeTable types) where
  row_has_place : (row : TypeRow) (type : ℕ) → row_at types type ≡ Some row → place_of types row ≡ Some type
  row_has_place row type f = by_place (place_of types row) refl
    where
      by_place : (o : Option ℕ) → place_of types row ≡ o → place_of types row ≡ Some type
      by_place (Some k) e = e ∙ ap Some (same_type types table k type row (row_at_place types row k e) f)
      by_place None e = absurd (place_missing (equal_rows row) types e type row f (row_is_itself row))

  -- ---- operators

  two_integers_found : (row : TypeRow) (operands : List ℕ) (type : ℕ) → AreInts types operands → Is types type row →
      two_integers types row operands ≡ Some type
  two_integers_found row operands type h i =
      ap (two_integers types row) h.2
      ∙ if_true (is_int (row_at types h.0) && is_int (row_at types h.1)) (place_of types row)
      (ap₂ ◌&&◌ (ap is_int h.3) (ap is_int h.4))
      ∙ row_has_place row type i

  pub operator_found : (operator : PrimOp) (operands : List ℕ) (type : ℕ) →
      OperatorHasType types operator operands type → operator_type types operator operands ≡ Some type
  operator_found Add operands type h = two_integers_found IntRow operands type h.0 h.1
  operator_found Sub operands type h = two_integers_found IntRow operands type h.0 h.1
  operator_found Mul operands type h = two_integers_found IntRow operands type h.0 h.1
  operator_found Quot operands type h = two_integers_found IntRow operands type h.0 h.1
  operator_found Rem operands type h = two_integers_found IntRow operands type h.0 h.1
  operator_found Lt operands type h = two_integers_found BoolRow operands type h.0 h.1
  operator_found Le operands type h = two_integers_found BoolRow operands type h.0 h.1
  operator_found Eq operands type h = two_integers_found BoolRow operands type h.0 h.1
  operator_found Ge operands type h = two_integers_found BoolRow operands type h.0 h.1
  operator_found Gt operands type h = two_integers_found BoolRow operands type h.0 h.1
  operator_found Not operands type h =
      ap (negation types) h.0.1 ∙ if_true (is_bool (row_at types h.0.0)) (place_of types BoolRow) (ap is_bool h.0.2)
      ∙ row_has_place BoolRow type h.1
  operator_found PrintInt operands type h =
      ap (printing types) h.0.1 ∙ if_true (is_int (row_at types h.0.0)) (place_of types UnitRow) (ap is_int h.0.2)
      ∙ row_has_place UnitRow type h.1
  operator_found Newline operands type h = ap (no_operand types UnitRow) h.0 ∙ row_has_place UnitRow type h.1
  operator_found ReadInt operands type h = ap (no_operand types IntRow) h.0 ∙ row_has_place IntRow type h.1
  operator_found MakeBox operands type h = ap (boxing types) h.1 ∙ row_has_place (RefRow h.0) type h.2
  operator_found Unbox operands type h = ap (unboxing types) h.1 ∙ ap box_content h.2
  operator_found BoxSet operands type h =
      ap (box_writing types) h.2
      ∙ if_true (is_number (box_content (row_at types h.0)) h.1) (place_of types UnitRow)
      (ap (λ o. is_number (box_content o) h.1) h.3 ∙ eq-eqb h.1 h.1 refl)
      ∙ row_has_place UnitRow type h.4
  operator_found MakeVector operands type h =
      ap (vector_making types) h.2
      ∙ if_true (is_int (row_at types h.0)) (place_of types (VectRow h.1)) (ap is_int h.3)
      ∙ row_has_place (VectRow h.1) type h.4
  operator_found VectorRef operands type h =
      ap (element types) h.2
      ∙ if_true (is_int (row_at types h.1)) (vector_content (row_at types h.0)) (ap is_int h.4)
      ∙ ap vector_content h.3
  operator_found VectorSet operands type h =
      ap (element_writing types) h.3
      ∙ if_true (is_int (row_at types h.1) && is_number (vector_content (row_at types h.0)) h.2) (place_of types
      UnitRow)
      (ap₂ ◌&&◌ (ap is_int h.5) (ap (λ o. is_number (vector_content o) h.2) h.4 ∙ eq-eqb h.2 h.2 refl))
      ∙ row_has_place UnitRow type h.6
  operator_found VectorLength operands type h =
      ap (measuring types) h.1.1
      ∙ if_true (is_some (vector_content (row_at types h.1.0))) (place_of types IntRow)
      (ap (λ o. is_some (vector_content o)) h.1.2)
      ∙ row_has_place IntRow type h.2

  -- ---- terms

  module _ (labels : ℕ) (cells : List CellType) where
    abbrev Has : Context → Term → ℕ → Type 0
    Has context term type = HasType types labels cells context term type

    function_found : (own context : Context) (parameters inside : List ℕ) (written : ℕ) (body_type : Context → Option ℕ)
        (BodyHasType : Context → ℕ → Type 0) → Agrees own context → AreApart own (parameters ++ inside) →
        ((inner outer : Context) (t : ℕ) → Agrees inner outer → AreApart inner inside → BodyHasType outer t →
        body_type inner ≡ Some t) →
        IsFunction types parameters written (λ bound answer. BodyHasType (bound ++ context) answer) →
        function_type types own parameters written body_type ≡ Some written
    function_found own context parameters inside written body_type BodyHasType agrees apart body h =
        let bound = new_names_bound own h.2 (λ x. once x) in
        let typed = body (own ++ h.2) (h.2 ++ context) h.1 (Agrees-bound own context h.2 (own ++ h.2) agrees bound)
        (λ x. inner x) h.5 in
        then_next (signature_of (row_at types written)) _ (h.0, h.1) (Some written) (ap signature_of h.3)
        (then_next (bind parameters h.0) _ h.2 (Some written) h.4
        (then_next (within types own h.2 body_type) _ h.1 (Some written)
        (then_next (with_bound own h.2) _ (own ++ h.2) (Some h.1) bound typed)
        (if_true (nat_eq h.1 h.1) (Some written) (eq-eqb h.1 h.1 refl))))
      where
        once : (x : ℕ) → times_bound x own + times_bound x h.2 ≤ 1
        once x =
            let a = apart x in
            let p = times_of_parameters x parameters h.0 h.2 h.4 in
            let t = times_append x parameters inside in
            omega arith

        inner : (x : ℕ) → times_bound x (own ++ h.2) + times x inside ≤ 1
        inner x =
            let a = apart x in
            let p = times_of_parameters x parameters h.0 h.2 h.4 in
            let t = times_append x parameters inside in
            let b = times_bound_append x own h.2 in
            omega arith

    -- the names of bindings stand among their binders
    names_of_bindings : (x : ℕ) (bindings : Bindings) (context bound : Context) →
        BindingsHaveTypes types labels cells context bindings bound →
        times_bound x bound ≤ times x (binding_binders bindings)
    names_of_bindings x NoBindings context bound h = let e = ap (times_bound x) h in omega arith
    names_of_bindings x (BindingThen name term rest) context bound h =
        let e = ap (times_bound x) h.2 in
        let later = names_of_bindings x rest context h.1 h.4 in
        let t = times_append x (binders term) (binding_binders rest) in
        omega arith

    mutual
      computed_type : (term : Term) (own context : Context) (type : ℕ) → Agrees own context →
          AreApart own (binders term) → IsWritten term → Has context term type → type_of types own term ≡ Some type
      computed_type (IntLit n) own context type agrees apart written h =
          if_true (fits_in_64_bits n) (place_of types IntRow) (fits_there n h.0) ∙ row_has_place IntRow type h.1
      computed_type (BoolLit b) own context type agrees apart written h = row_has_place BoolRow type h
      computed_type UnitLit own context type agrees apart written h = row_has_place UnitRow type h
      computed_type (Var name) own context type agrees apart written h = agrees name ∙ h
      computed_type (Lambda parameters body named) own context type agrees apart written h =
          function_found own context parameters (binders body) named (λ inner. type_of types inner body)
          (λ c a. Has c body a) agrees apart (λ inner outer t a b k. computed_type body inner outer t a b written k)
          (subst (λ t. IsFunction types parameters t (λ bound answer. Has (bound ++ context) body answer)) (sym h.0)
          h.1)
          ∙ ap Some h.0
      computed_type (Group group body) own context type agrees apart written h =
          let bound = new_names_bound own (member_types group) (λ x. once x) in
          let inside = Agrees-bound own context (member_types group) (own ++ member_types group) agrees bound in
          then_next (with_bound own (member_types group)) _ (own ++ member_types group) (Some type) bound
          (then_next (members_fit types (own ++ member_types group) group) _ true (Some type)
          (computed_members group (own ++ member_types group) (member_types group ++ context) inside (λ x. group_inner
          x)
          written.0 h.0)
          (computed_type body (own ++ member_types group) (member_types group ++ context) type inside
          (λ x. body_inner x) written.1 h.1))
        where
          all : (x : ℕ) → times_bound x own + times_bound x (member_types group) + times_inside x group +
              times x (binders body) ≤ 1
          all x =
              let a = apart x in
              let g = times_of_group x group in
              let t = times_append x (member_binders group) (binders body) in
              omega arith

          once : (x : ℕ) → times_bound x own + times_bound x (member_types group) ≤ 1
          once x = let a = all x in omega arith

          group_inner : (x : ℕ) → times_bound x (own ++ member_types group) + times_inside x group ≤ 1
          group_inner x = let a = all x in let b = times_bound_append x own (member_types group) in omega arith

          body_inner : (x : ℕ) → times_bound x (own ++ member_types group) + times x (binders body) ≤ 1
          body_inner x = let a = all x in let b = times_bound_append x own (member_types group) in omega arith
      computed_type (Let bindings body) own context type agrees apart written h =
          let bound = new_names_bound own h.0 (λ x. once x) in
          then_next (types_of_bindings types own bindings) _ h.0 (Some type)
          (computed_bindings bindings own context h.0 agrees (λ x. outer x) written.0 h.1)
          (then_next (with_bound own h.0) _ (own ++ h.0) (Some type) bound
          (computed_type body (own ++ h.0) (h.0 ++ context) type
          (Agrees-bound own context h.0 (own ++ h.0) agrees bound) (λ x. inner x) written.1 h.2))
        where
          outer : (x : ℕ) → times_bound x own + times x (binding_binders bindings) ≤ 1
          outer x =
              let a = apart x in let t = times_append x (binding_binders bindings) (binders body) in omega arith

          once : (x : ℕ) → times_bound x own + times_bound x h.0 ≤ 1
          once x = let a = outer x in let n = names_of_bindings x bindings context h.0 h.1 in omega arith

          inner : (x : ℕ) → times_bound x (own ++ h.0) + times x (binders body) ≤ 1
          inner x =
              let a = apart x in
              let t = times_append x (binding_binders bindings) (binders body) in
              let n = names_of_bindings x bindings context h.0 h.1 in
              let b = times_bound_append x own h.0 in
              omega arith
      computed_type (Call function arguments) own context type agrees apart written h =
          then_next (type_of types own function) _ h.0 (Some type)
          (computed_type function own context h.0 agrees (λ x. first x) written.0 h.2)
          (then_next (types_of types own arguments) _ h.1 (Some type)
          (computed_types arguments own context h.1 agrees (λ x. second x) written.1 h.4)
          (then_next (signature_of (row_at types h.0)) _ (h.1, type) (Some type) (ap signature_of h.3)
          (if_true (equal_numbers h.1 h.1) (Some type) (numbers_are_themselves h.1))))
        where
          first : (x : ℕ) → times_bound x own + times x (binders function) ≤ 1
          first x =
              let a = apart x in let t = times_append x (binders function) (all_binders arguments) in omega arith

          second : (x : ℕ) → times_bound x own + times x (all_binders arguments) ≤ 1
          second x =
              let a = apart x in let t = times_append x (binders function) (all_binders arguments) in omega arith
      computed_type (Enter function arguments) own context type agrees apart written h = absurd written
      computed_type (If condition on_true on_false) own context type agrees apart written h =
          then_next (type_of types own condition) _ h.0 (Some type)
          (computed_type condition own context h.0 agrees (λ x. first x) written.0 h.1)
          (then_next (type_of types own on_true) _ type (Some type)
          (computed_type on_true own context type agrees (λ x. second x) written.1 h.3)
          (then_next (type_of types own on_false) _ type (Some type)
          (computed_type on_false own context type agrees (λ x. third x) written.2 h.4)
          (if_true (is_bool (row_at types h.0) && nat_eq type type) (Some type)
          (ap₂ ◌&&◌ (ap is_bool h.2) (eq-eqb type type refl)))))
        where
          first : (x : ℕ) → times_bound x own + times x (binders condition) ≤ 1
          first x =
              let a = apart x in
              let t = times_append x (binders condition ++ binders on_true) (binders on_false) in
              let u = times_append x (binders condition) (binders on_true) in
              omega arith

          second : (x : ℕ) → times_bound x own + times x (binders on_true) ≤ 1
          second x =
              let a = apart x in
              let t = times_append x (binders condition ++ binders on_true) (binders on_false) in
              let u = times_append x (binders condition) (binders on_true) in
              omega arith

          third : (x : ℕ) → times_bound x own + times x (binders on_false) ≤ 1
          third x =
              let a = apart x in
              let t = times_append x (binders condition ++ binders on_true) (binders on_false) in
              let u = times_append x (binders condition) (binders on_true) in
              omega arith
      computed_type (Seq terms) own context type agrees apart written h =
          let found = computed_last terms own context type agrees apart written h in
          then_next (types_of types own terms) _ found.0 (Some type) found.1 found.2
      computed_type (Cast term from to label) own context type agrees apart written h =
          then_next (type_of types own term) _ from (Some type)
          (computed_type term own context from agrees apart written h.1)
          (if_true (nat_eq from from && is_some (row_at types to)) (Some to)
          (ap₂ ◌&&◌ (eq-eqb from from refl) (ap is_some (ap (row_at types) h.0 ∙ h.2.1)))
          ∙ ap Some h.0)
      computed_type (Proj term k) own context type agrees apart written h =
          then_next (type_of types own term) _ h.0 (Some type)
          (computed_type term own context h.0 agrees apart written h.2)
          (ap (λ o. part_type o k) h.3 ∙ h.4)
      computed_type (ProjDyn term k label) own context type agrees apart written h =
          then_next (type_of types own term) _ type (Some type)
          (computed_type term own context type agrees apart written h.0)
          (if_true (is_dyn_type (row_at types type)) (Some type) (ap is_dyn_type h.1))
      computed_type (Tuple parts) own context type agrees apart written h =
          then_next (types_of types own parts) _ h.0 (Some type)
          (computed_types parts own context h.0 agrees apart written h.1)
          (row_has_place (TupleRow h.0) type h.2)
      computed_type (Prim operator operands) own context type agrees apart written h =
          then_next (types_of types own operands) _ h.0 (Some type)
          (computed_types operands own context h.0 agrees apart written h.1)
          (operator_found operator h.0 type h.2)
      computed_type (ValueTerm v) own context type agrees apart written h = absurd written

      computed_types : (terms : Terms) (own context : Context) (given : List ℕ) → Agrees own context →
          AreApart own (all_binders terms) → AreWritten terms → HaveTypes types labels cells context terms given →
          types_of types own terms ≡ Some given
      computed_types NoTerms own context given agrees apart written h = ap Some (sym h)
      computed_types (TermThen term rest) own context given agrees apart written h =
          then_next (type_of types own term) _ h.0 (Some given)
          (computed_type term own context h.0 agrees (λ x. first x) written.0 h.3)
          (then_next (types_of types own rest) _ h.1 (Some given)
          (computed_types rest own context h.1 agrees (λ x. second x) written.1 h.4) (ap Some (sym h.2)))
        where
          first : (x : ℕ) → times_bound x own + times x (binders term) ≤ 1
          first x = let a = apart x in let t = times_append x (binders term) (all_binders rest) in omega arith

          second : (x : ℕ) → times_bound x own + times x (all_binders rest) ≤ 1
          second x = let a = apart x in let t = times_append x (binders term) (all_binders rest) in omega arith

      computed_last : (terms : Terms) (own context : Context) (type : ℕ) → Agrees own context →
          AreApart own (all_binders terms) → AreWritten terms → LastHasType types labels cells context terms type →
          (given : List ℕ) × (types_of types own terms ≡ Some given) × (last_of given ≡ Some type)
      computed_last NoTerms own context type agrees apart written h = absurd h
      computed_last (TermThen term NoTerms) own context type agrees apart written h = (
        type ∷ [],
        then_next (type_of types own term) _ type (Some (type ∷ []))
            (computed_type term own context type agrees (λ x. first x) written.0 h)
            (then_next (types_of types own NoTerms) _ [] (Some (type ∷ [])) refl refl),
        refl,
      )
        where
          first : (x : ℕ) → times_bound x own + times x (binders term) ≤ 1
          first x = let a = apart x in let t = times_append x (binders term) [] in omega arith
      computed_last (TermThen term (TermThen next rest)) own context type agrees apart written h =
          let later = computed_last (TermThen next rest) own context type agrees (λ x. second x) written.1 h.1 in (
            h.0.0 ∷ later.0,
            then_next (type_of types own term) _ h.0.0 (Some (h.0.0 ∷ later.0))
                (computed_type term own context h.0.0 agrees (λ x. first x) written.0 h.0.1)
                (then_next (types_of types own (TermThen next rest)) _ later.0 (Some (h.0.0 ∷ later.0)) later.1 refl),
            last_behind type h.0.0 later.0 later.2,
          )
        where
          first : (x : ℕ) → times_bound x own + times x (binders term) ≤ 1
          first x =
              let a = apart x in
              let t = times_append x (binders term) (binders next ++ all_binders rest) in
              omega arith

          second : (x : ℕ) → times_bound x own + times x (all_binders (TermThen next rest)) ≤ 1
          second x =
              let a = apart x in
              let t = times_append x (binders term) (binders next ++ all_binders rest) in
              omega arith

      computed_members : (group : Members) (own context : Context) → Agrees own context →
          ((x : ℕ) → times_bound x own + times_inside x group ≤ 1) → AreWrittenMembers group →
          MembersHaveTypes types labels cells context group → members_fit types own group ≡ Some true
      computed_members NoMembers own context agrees apart written h = refl
      computed_members (MemberThen name parameters body named rest) own context agrees apart written h =
          then_next (function_type types own parameters named (λ inner. type_of types inner body)) _ named (Some true)
          (function_found own context parameters (binders body) named (λ inner. type_of types inner body)
          (λ c a. Has c body a) agrees (λ x. first x)
          (λ inner outer t a b k. computed_type body inner outer t a b written.0 k) h.0)
          (computed_members rest own context agrees (λ x. second x) written.1 h.1)
        where
          first : (x : ℕ) → times_bound x own + times x (parameters ++ binders body) ≤ 1
          first x = let a = apart x in let t = times_append x parameters (binders body) in omega arith

          second : (x : ℕ) → times_bound x own + times_inside x rest ≤ 1
          second x = let a = apart x in omega arith

      computed_bindings : (bindings : Bindings) (own context bound : Context) → Agrees own context →
          AreApart own (binding_binders bindings) → AreWrittenBindings bindings →
          BindingsHaveTypes types labels cells context bindings bound →
          types_of_bindings types own bindings ≡ Some bound
      computed_bindings NoBindings own context bound agrees apart written h = ap Some (sym h)
      computed_bindings (BindingThen name term rest) own context bound agrees apart written h =
          then_next (type_of types own term) _ h.0 (Some bound)
          (computed_type term own context h.0 agrees (λ x. first x) written.0 h.3)
          (then_next (types_of_bindings types own rest) _ h.1 (Some bound)
          (computed_bindings rest own context h.1 agrees (λ x. second x) written.1 h.4) (ap Some (sym h.2)))
        where
          first : (x : ℕ) → times_bound x own + times x (binders term) ≤ 1
          first x =
              let a = apart x in
              let t = times_append x (binders term) (binding_binders rest) in
              omega arith

          second : (x : ℕ) → times_bound x own + times x (binding_binders rest) ≤ 1
          second x =
              let a = apart x in
              let t = times_append x (binders term) (binding_binders rest) in
              omega arith

-- ---- program terms

-- the type of a program term is computed
pub program_type_computed : (types : TypeRows) (labels : ℕ) (term : Term) (type : ℕ) →
    ProgramTermHasType types labels term type → program_type types term ≡ Some type
program_type_computed types labels term type h =
    then_next (with_names [] (binders term)) _ (binders term) (Some type)
    (names_added [] (binders term) (λ x. once x))
    (computed_type types h.0 labels [] term [] [] type (λ x. refl) (λ x. once x) h.1 h.3)
  where
    once : (x : ℕ) → 0 + times x (binders term) ≤ 1
    once x = let o = once-from_HasNoRepeats (binders term) h.2 x in omega arith

-- a term without a computed type is no program term
pub no_program_term : (types : TypeRows) (term : Term) → program_type types term ≡ None → (labels type : ℕ) →
    ProgramTermHasType types labels term type → ⊥
no_program_term types term e labels type h =
    some_is_not_none type (sym (program_type_computed types labels term type h) ∙ e)

-- each part of a row has a row, where the table is one
table_of_ordered : (types : TypeRows) → IsOrderedTable types → IsTypeTable types
table_of_ordered types table =
    record { distinct = table.distinct; closed = all_parts_within types table.finite }

-- where a table's look-up tells whether it has a row, the place is the computed one
pub place_is_computed : (types : TypeRows) (row : TypeRow) (found : Option TypeId) → IsOrderedTable types →
    IfSome found (λ t. row_at types t.0 ≡ Some row) → IfNone found (¬ Contains types row) →
    option_map (λ (t : TypeId). t.0) found ≡ place_of types row
place_is_computed types row (Some t) table there absent =
    sym (row_has_place types (table_of_ordered types table) row t.0 there)
place_is_computed types row None table there absent = by_place (place_of types row) refl
  where
    by_place : (o : Option ℕ) → place_of types row ≡ o → None ≡ place_of types row
    by_place None e = sym e
    by_place (Some k) e =
        let at = row_at_place types row k e in
        absurd (absent (k, slice_get_within types k row at, get_or_from_slice_get types k row row at))

-- a term with a computed type is a program term
pub program_type_found : (types : TypeRows) (labels : ℕ) (term : Term) (type : ℕ) → IsOrderedTable types →
    labels_end term ≤ labels → program_type types term ≡ Some type → ProgramTermHasType types labels term type
program_type_found types labels term type table low e =
    let n = there_then (with_names [] (binders term)) _ type e in (
      table_of_ordered types table,
      typed_is_written types term [] type n.2,
      HasNoRepeats-from_once (binders term) (λ x. once x),
      found_type types table.widths labels [] term [] [] type (λ x. refl) low n.2,
    )
  where
    once : (x : ℕ) → times x (binders term) ≤ 1
    once x =
        let n = there_then (with_names [] (binders term)) _ type e in
        let o = names_once [] (binders term) n.0 n.1 (λ z. empty z) x in
        omega arith
      where
        empty : (z : ℕ) → times z [] ≤ 1
        empty z = omega arith
