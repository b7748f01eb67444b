-- Casts, calls and parts of typed values keep types.
use Rattle.std.proofs.Common.{◌≡◌, ℕ, zero, suc, ◌<◌, List, [], ◌∷◌, ◌++◌, length, Some, None, refl, sym, ap, ◌∙◌}
use Rattle.std.proofs.Common.{subst, arith, Bool, true, false, slice_get, append-nil}
use Rattle.std.specs.Prelude.{ℤ, pos, negsuc, not, ◌&&◌, option_map}
use Rattle.grift_base.specs.World.{WorldState}
use Rattle.grift_base.specs.Types.{TypeRow, DynRow, FunRow, TupleRow, TypeRows, row_at, is_dyn, is_base, same_head}
use Rattle.grift_base.specs.Types.{tuple_part, dyn_place}
use Rattle.core_calc.specs.Terms.{Term, Terms, Members, Value, Enter, Cast, Proj, ValueTerm, NoTerms, TermThen}
use Rattle.core_calc.specs.Terms.{NoMembers, MemberThen, IntValue, BoolValue, UnitValue, FunValue, MemberValue}
use Rattle.core_calc.specs.Terms.{TupleValue, LocValue, WrapValue, InjectValue, all_values, value_list}
use Rattle.core_calc.specs.Substitution.{Substitution, substitute, bind, group_values}
use Rattle.core_calc.specs.Outcome.{Store, Outcome, Goes, Blames, if_some}
use Rattle.core_calc.specs.Casts.{cast_out, cast_between, cast_step}
use Rattle.core_calc.specs.Calls.{cast_arguments, enter_wrapped, enter_body, enter_member, enter_step, proj_step}
use Rattle.core_calc.specs.Calls.{proj_to_dyn, proj_dyn_step}
use Rattle.core_calc.specs.Typing.{Context, CellType, member_types, MemberHasType, HasType, HaveTypes, MembersHaveTypes}
use Rattle.core_calc.specs.Typing.{ValueHasType, ValuesHaveTypes, IsTypeTable, StoreHasTypes, KeepsType}
use Rattle.core_calc.proofs.ListPlaces.{none_is_not_some, both_some, get_within}
use Rattle.core_calc.proofs.RowsOfTables.{false_is_not_true, both_true, first_false, row_is_dyn, same_base}
use Rattle.core_calc.proofs.RowsOfTables.{function_like}
use Rattle.core_calc.proofs.RowsOfTables.{tuple_like, HasRow, HaveRows, row_of_part, have_rows_split, same_type}
use Rattle.core_calc.proofs.RowsOfTables.{parts_have_rows, dyn_found}
use Rattle.core_calc.proofs.SubstitutionKeepsTypes.{substituted}
use Rattle.core_calc.proofs.TypedValues.{can_be, form, value_has_row, ListHasTypes, values_of_terms, part_of_values}
use Rattle.core_calc.proofs.TypedValues.{StandFor, stand_for_both, stands_for, bound_values_stand, members_stand}
use Rattle.core_calc.proofs.StoredCells.{no_more_cells, keeps_some, keeps_if_some, keeps_if, keeps_rows, keeps_parts}

same_function : (parameters others : List ℕ) (answer other : ℕ) → FunRow parameters answer ≡ FunRow others other →
    (parameters ≡ others) × (answer ≡ other)
same_function parameters others answer other e = (cc, cc)

same_tuple : (parts others : List ℕ) → TupleRow parts ≡ TupleRow others → parts ≡ others
same_tuple parts others e = cc

not_true : (b : Bool) → not b ≡ false → b ≡ true
not_true true e = refl
not_true false e = absurd (cc)

module _ (types : TypeRows) (labels : ℕ) (table : IsTypeTable types) (cells : List CellType) (store : Store)
    (stored : StoreHasTypes types labels store cells) (world : WorldState) where
  abbrev Has : ℕ → List CellType → Term → Type 0
  Has type new term = HasType types labels new [] term type

  abbrev Kept : ℕ → Outcome Term → Type 0
  Kept type outcome = KeepsType types labels type cells outcome

  -- the store stays as it is
  pub goes_on : (term : Term) (w : WorldState) (type : ℕ) → HasType types labels cells [] term type →
      Kept type (Goes term store w)
  goes_on term w type h = (cells, no_more_cells cells, stored, h)

  -- ---- casts

  cast_out_keeps : (v : Value) (from to label : ℕ) → ValueHasType types labels cells v from → can_be v DynRow ≡ true →
      HasRow types to → label < labels → Kept to (cast_out types store world v to label)
  cast_out_keeps (InjectValue v kept) from to label h e row below =
      goes_on (Cast (ValueTerm v) kept to label) world to (refl, h.1, row, below)
  cast_out_keeps v from to label h e row below = absurd (false_is_not_true e)

  module _ (row other : TypeRow) (v : Value) (from to label : ℕ) (from_row : row_at types from ≡ Some row)
      (to_row : row_at types to ≡ Some other) (typed : ValueHasType types labels cells v from) (below : label <
      labels) where
    -- a value of one type is one of the other where both have one row
    same_row_keeps : row ≡ other → Kept to (Goes (ValueTerm v) store world)
    same_row_keeps e =
        let same = same_type types table from to row from_row (to_row ∙ ap Some (sym e)) in
        goes_on (ValueTerm v) world to (subst (λ t. ValueHasType types labels cells v t) same typed)

    dyn_keeps : is_dyn row ≡ true → Kept to (cast_out types store world v to label)
    dyn_keeps e =
        cast_out_keeps v from to label typed (form types labels cells v from DynRow typed
        (from_row ∙ ap Some (row_is_dyn row e))) (other, to_row) below

    into_keeps : is_dyn other ≡ true → is_dyn row ≡ false → Kept to (Goes (ValueTerm (InjectValue v from)) store world)
    into_keeps e f =
        goes_on (ValueTerm (InjectValue v from)) world to (
          row,
          typed,
          from_row,
          f,
          to_row ∙ ap Some (row_is_dyn other e),
        )

    wrap_keeps : same_head row other ≡ true → is_base row ≡ false → is_dyn row ≡ false →
        Kept to (Goes (ValueTerm (WrapValue v from label to)) store world)
    wrap_keeps e f g =
        goes_on (ValueTerm (WrapValue v from label to)) world to (
          row,
          other,
          refl,
          typed,
          from_row,
          to_row,
          e,
          f,
          g,
          below,
        )

    cast_between_keeps : Kept to (cast_between types store world row other v from to label)
    cast_between_keeps =
        keeps_if types labels cells (Has to) (is_dyn row && is_dyn other) _ _ (λ e. let both =
        both_true (is_dyn row) (is_dyn other) e in
        same_row_keeps (row_is_dyn row both.0 ∙ sym (row_is_dyn other both.1))) (λ not_both.
        keeps_if types labels cells (Has to) (is_dyn other) _ _
        (λ e. into_keeps e (first_false (is_dyn row) (is_dyn other) not_both e))
        (λ e. keeps_if types labels cells (Has to) (is_dyn row) _ _ dyn_keeps (λ no_dyn. keeps_if types labels cells
        (Has to) (not (same_head row other)) _ _ (λ f. below) (λ f. let heads = not_true (same_head row other) f in
        keeps_if types labels cells (Has to) (is_base row) _ _
        (λ base. same_row_keeps (same_base row other heads base)) (λ base. wrap_keeps heads base no_dyn)))))

  pub cast_keeps : (v : Value) (from to label : ℕ) → ValueHasType types labels cells v from → HasRow types to →
      label < labels → Kept to (cast_step types store world v from to label)
  cast_keeps v from to label typed to_row below =
      let from_row = value_has_row types labels cells v from typed in
      keeps_rows types labels cells (Has to) from to (λ row other.
      cast_between types store world row other v from to label) from_row.0 to_row.0 from_row.1 to_row.1
      (cast_between_keeps from_row.0 to_row.0 v from to label from_row.1 to_row.1 typed below)

  -- ---- calls

  pub arguments_cast : (arguments : Terms) (wanted parameters : List ℕ) (label : ℕ) →
      HaveTypes types labels cells [] arguments wanted → length parameters ≡ length wanted → HaveRows types parameters →
      label < labels → (casts : Terms) × (cast_arguments arguments wanted parameters label ≡ Some casts) ×
      HaveTypes types labels cells [] casts parameters
  arguments_cast NoTerms [] [] label h same rows below = (NoTerms, refl, refl)
  arguments_cast NoTerms [] (p ∷ parameters) label h same rows below = absurd (omega arith)
  arguments_cast NoTerms (w ∷ wanted) parameters label h same rows below = absurd (cc)
  arguments_cast (TermThen term rest) [] parameters label h same rows below = absurd (cc (h.2))
  arguments_cast (TermThen term rest) (w ∷ wanted) [] label h same rows below = absurd (omega arith)
  arguments_cast (TermThen term rest) (w ∷ wanted) (p ∷ parameters) label h same rows below =
      let first : h.0 ≡ w = cc (h.2) in
      let others : h.1 ≡ wanted = cc (h.2) in
      let more =
      arguments_cast rest wanted parameters label (subst (λ ws. HaveTypes types labels cells [] rest ws) others h.4)
      (omega arith) rows.1 below in (
        TermThen (Cast term w p label) more.0,
        ap (λ o. option_map (TermThen (Cast term w p label)) o) more.1,
        (
          p,
          parameters,
          refl,
          (refl, subst (λ t. HasType types labels cells [] term t) first h.3, rows.0, below),
          more.2,
        ),
      )

  pub enter_body_keeps : (parameters : List ℕ) (body : Term) (group : Substitution) (values : List Value)
      (group_context : Context) (wanted : List ℕ) (bound : Context) (answer : ℕ) →
      ListHasTypes types labels cells values wanted → bind parameters wanted ≡ Some bound →
      StandFor types labels cells group group_context →
      HasType types labels cells (bound ++ group_context) body answer →
      Kept answer (enter_body types store world parameters body group values)
  enter_body_keeps parameters body group values group_context wanted bound answer h e stand typed =
      let s = bound_values_stand types labels cells parameters values wanted bound h e in
      keeps_some types labels cells (Has answer) (bind parameters values)
      (λ b. Goes (substitute body (b ++ group)) store world) s.0 s.1
      (goes_on (substitute body (s.0 ++ group)) world answer (substituted types labels cells body
      (bound ++ group_context) [] (s.0 ++ group) answer (stands_for types labels cells (s.0 ++ group)
      (bound ++ group_context) (stand_for_both types labels cells s.0 group bound group_context s.2 stand)) typed))

  pub enter_member_keeps : (members : Members) (place : ℕ) (group : Substitution) (values : List Value)
      (group_context : Context) (type : ℕ) (wanted : List ℕ) (answer : ℕ) →
      MembersHaveTypes types labels cells group_context members → MemberHasType members place type →
      row_at types type ≡ Some (FunRow wanted answer) → ListHasTypes types labels cells values wanted →
      StandFor types labels cells group group_context →
      Kept answer (enter_member types store world members place group values)
  enter_member_keeps NoMembers place group values group_context type wanted answer h m row vs stand = absurd m
  enter_member_keeps (MemberThen name parameters body written rest) zero group values group_context type wanted answer h
      m row vs stand =
      let same =
      same_function h.0.0 wanted h.0.1 answer (both_some (row_at types type) (FunRow h.0.0 h.0.1)
      (FunRow wanted answer) (ap (λ t. row_at types t) (sym m) ∙ h.0.3) row) in
      enter_body_keeps parameters body group values group_context wanted h.0.2 answer vs
      (ap (λ w. bind parameters w) (sym same.0) ∙ h.0.4) stand
      (subst (λ a. HasType types labels cells (h.0.2 ++ group_context) body a) same.1 h.0.5)
  enter_member_keeps (MemberThen name parameters body written rest) (suc place) group values group_context type wanted
      answer h m row vs stand =
      enter_member_keeps rest place group values group_context type wanted answer h.1 m row vs stand

  -- a function seen through a cast
  enter_wrapped_keeps : (row : TypeRow) (v : Value) (arguments : Terms) (from label : ℕ) (wanted : List ℕ)
      (answer : ℕ) → row_at types from ≡ Some row → HasRow types answer → same_head row (FunRow wanted answer) ≡ true →
      ValueHasType types labels cells v from → HaveTypes types labels cells [] arguments wanted → label < labels →
      Kept answer (enter_wrapped types store world row (FunRow wanted answer) v arguments label)
  enter_wrapped_keeps (FunRow parameters given) v arguments from label wanted answer from_row answer_row heads typed h
      below =
      let like = function_like (FunRow parameters given) wanted answer heads in
      let same : length parameters ≡ length wanted =
      ap length (same_function parameters like.0 given like.1 like.2).0 ∙ like.3 in
      let rows =
      have_rows_split types parameters given (parts_have_rows types table from (FunRow parameters given) from_row)
      in
      let casts = arguments_cast arguments wanted parameters label h same rows.0 below in
      keeps_some types labels cells (Has answer) (cast_arguments arguments wanted parameters label)
      (λ c. Goes (Cast (Enter (ValueTerm v) c) given answer label) store world) casts.0 casts.1
      (goes_on (Cast (Enter (ValueTerm v) casts.0) given answer label) world answer (
        refl,
        (from, parameters, typed, from_row, casts.2, (v, refl)),
        answer_row,
        below,
      ))
  enter_wrapped_keeps row v arguments from label wanted answer from_row answer_row heads typed h below =
      absurd (false_is_not_true heads)

  pub enter_keeps : (f : Value) (arguments : Terms) (arguments_step : Outcome Term) (whole : ℕ) (wanted : List ℕ)
      (answer : ℕ) → ValueHasType types labels cells f whole → row_at types whole ≡ Some (FunRow wanted answer) →
      HaveTypes types labels cells [] arguments wanted → (all_values arguments ≡ None → Kept answer arguments_step) →
      Kept answer (enter_step types store world f arguments arguments_step)
  enter_keeps (WrapValue v from label to) arguments arguments_step whole wanted answer typed row h rest =
      let to_row : row_at types to ≡ Some (FunRow wanted answer) = ap (λ t. row_at types t) typed.2 ∙ row in
      let same : typed.1 ≡ FunRow wanted answer =
      both_some (row_at types to) typed.1 (FunRow wanted answer) typed.5 to_row in
      let rows = have_rows_split types wanted answer (parts_have_rows types table to (FunRow wanted answer) to_row) in
      keeps_rows types labels cells (Has answer) from to (λ r o. enter_wrapped types store world r o v arguments label)
      typed.0 (FunRow wanted answer) typed.4 to_row
      (enter_wrapped_keeps typed.0 v arguments from label wanted answer typed.4 rows.1
      (subst (λ o. same_head typed.0 o ≡ true) same typed.6) typed.3 h typed.9)
  enter_keeps (FunValue parameters body written) arguments arguments_step whole wanted answer typed row h rest =
      let same =
      same_function typed.1.0 wanted typed.1.1 answer (both_some (row_at types whole) (FunRow typed.1.0 typed.1.1)
      (FunRow wanted answer) typed.1.3 row) in
      keeps_if_some types labels cells (Has answer) (all_values arguments)
      (enter_body types store world parameters body []) arguments_step (λ values e.
      enter_body_keeps parameters body [] values [] wanted typed.1.2 answer
      (values_of_terms types labels cells arguments [] wanted values h e)
      (ap (λ w. bind parameters w) (sym same.0) ∙ typed.1.4) tt
      (subst (λ c. HasType types labels cells c body answer) (sym (append-nil typed.1.2))
      (subst (λ a. HasType types labels cells typed.1.2 body a) same.1 typed.1.5))) rest
  enter_keeps (MemberValue members place) arguments arguments_step whole wanted answer typed row h rest =
      keeps_if_some types labels cells (Has answer) (all_values arguments) (enter_member types store world members place
      (group_values members)) arguments_step (λ values e. enter_member_keeps members place
      (group_values members) values (member_types members) whole wanted answer typed.0 typed.1 row
      (values_of_terms types labels cells arguments [] wanted values h e)
      (members_stand types labels cells members typed.0)) rest
  enter_keeps (IntValue n) arguments arguments_step whole wanted answer typed row h rest =
      absurd (false_is_not_true (form types labels cells (IntValue n) whole (FunRow wanted answer) typed row))
  enter_keeps (BoolValue b) arguments arguments_step whole wanted answer typed row h rest =
      absurd (false_is_not_true (form types labels cells (BoolValue b) whole (FunRow wanted answer) typed row))
  enter_keeps UnitValue arguments arguments_step whole wanted answer typed row h rest =
      absurd (false_is_not_true (form types labels cells UnitValue whole (FunRow wanted answer) typed row))
  enter_keeps (TupleValue values) arguments arguments_step whole wanted answer typed row h rest =
      absurd (false_is_not_true (form types labels cells (TupleValue values) whole (FunRow wanted answer) typed row))
  enter_keeps (LocValue cell is_vector) arguments arguments_step whole wanted answer typed row h rest =
      absurd (false_is_not_true (form types labels cells (LocValue cell is_vector) whole
      (FunRow wanted answer) typed row))
  enter_keeps (InjectValue v kept) arguments arguments_step whole wanted answer typed row h rest =
      absurd (false_is_not_true (form types labels cells (InjectValue v kept) whole (FunRow wanted answer) typed row))

  -- ---- parts of tuples

  -- a part of a tuple is at a place
  place_of_part : (parts : List ℕ) (k : ℤ) (type : ℕ) → tuple_part (TupleRow parts) k ≡ Some type → (place : ℕ) ×
      (k ≡ pos place) × (slice_get parts place ≡ Some type)
  place_of_part parts (pos place) type e = (place, refl, e)
  place_of_part parts (negsuc n) type e = absurd (none_is_not_some type e)

  pub proj_keeps : (v : Value) (place whole : ℕ) (parts : List ℕ) (type : ℕ) → ValueHasType types labels cells v whole →
      row_at types whole ≡ Some (TupleRow parts) → slice_get parts place ≡ Some type →
      can_be v (TupleRow parts) ≡ true → Kept type (proj_step types store world v (pos place))
  proj_keeps (TupleValue values) place whole parts type typed row e can =
      let same =
      same_tuple typed.0 parts (both_some (row_at types whole) (TupleRow typed.0) (TupleRow parts) typed.2 row) in
      let part =
      part_of_values types labels cells values parts place type
      (subst (λ ps. ValuesHaveTypes types labels cells values ps) same typed.1) e in
      keeps_some types labels cells (Has type) (slice_get (value_list values) place)
      (λ v. Goes (ValueTerm v) store world) part.0 part.1 (goes_on (ValueTerm part.0) world type part.2)
  proj_keeps (WrapValue v from label to) place whole parts type typed row e can =
      let to_row : row_at types to ≡ Some (TupleRow parts) = ap (λ t. row_at types t) typed.2 ∙ row in
      let same : typed.1 ≡ TupleRow parts = both_some (row_at types to) typed.1 (TupleRow parts) typed.5 to_row in
      let like = tuple_like typed.0 parts (subst (λ o. same_head typed.0 o ≡ true) same typed.6) in
      let from_row : row_at types from ≡ Some (TupleRow like.0) = typed.4 ∙ ap Some like.1 in
      let inner = get_within parts like.0 place type (sym like.2) e in
      let type_row = row_of_part types parts (parts_have_rows types table to (TupleRow parts) to_row) place type e in
      keeps_parts types labels cells (Has type) (λ r. tuple_part r (pos place)) from to
      (λ i o. Goes (Cast (Proj (ValueTerm v) (pos place)) i o label) store world) (TupleRow like.0)
      (TupleRow parts) inner.0 type from_row to_row inner.1 e
      (goes_on (Cast (Proj (ValueTerm v) (pos place)) inner.0 type label) world type (
        refl,
        (from, like.0, typed.3, from_row, inner.1),
        type_row,
        typed.9,
      ))
  proj_keeps v place whole parts type typed row e can = absurd (false_is_not_true can)

  pub part_keeps : (v : Value) (k : ℤ) (whole : ℕ) (parts : List ℕ) (type : ℕ) →
      ValueHasType types labels cells v whole → row_at types whole ≡ Some (TupleRow parts) →
      tuple_part (TupleRow parts) k ≡ Some type → Kept type (proj_step types store world v k)
  part_keeps v k whole parts type typed row e =
      let at = place_of_part parts k type e in
      subst (λ x. Kept type (proj_step types store world v x)) (sym at.1)
      (proj_keeps v at.0 whole parts type typed row at.2
      (form types labels cells v whole (TupleRow parts) typed row))

  tuple_that_has : (row : TypeRow) (k : ℤ) (part : ℕ) → tuple_part row k ≡ Some part → (parts : List ℕ) ×
      (row ≡ TupleRow parts)
  tuple_that_has (TupleRow parts) k part e = (parts, refl)
  tuple_that_has row k part e = absurd (none_is_not_some part e)

  pub proj_dyn_keeps : (v : Value) (k : ℤ) (label type : ℕ) → ValueHasType types labels cells v type →
      row_at types type ≡ Some DynRow → label < labels → can_be v DynRow ≡ true →
      Kept type (proj_dyn_step types store world v k label)
  proj_dyn_keeps (InjectValue v kept) k label type typed dyn below can =
      keeps_some types labels cells (Has type) (row_at types kept)
      (λ r. if_some (tuple_part r k) (λ part. proj_to_dyn types store world v k part label) (Blames label)) typed.0
      typed.2 (keeps_if_some types labels cells (Has type) (tuple_part typed.0 k)
      (λ part. proj_to_dyn types store world v k part label) (Blames label) (λ part e. keeps_some types labels cells
      (Has type) (dyn_place types) (λ d. Goes (Cast (Proj (ValueTerm v) k) part d label) store world) type
      (dyn_found types table type dyn) (let is = tuple_that_has typed.0 k part e in
      goes_on (Cast (Proj (ValueTerm v) k) part type label) world type (
        refl,
        (kept, is.0, typed.1, typed.2 ∙ ap Some is.1, subst (λ r. tuple_part r k ≡ Some part) is.1 e),
        (DynRow, dyn),
        below,
      ))) (λ e. below))
  proj_dyn_keeps v k label type typed dyn below can = absurd (false_is_not_true can)
