use Rattle.std.proofs.Common.{◌≡◌, ◌≤◌, ◌+◌, ℕ, suc, max, List, [], ◌∷◌, ◌++◌, length, ap, ◌∙◌, arith, rules}
use Rattle.std.proofs.lemmas.List.{map-append, length-append}
use Rattle.surface_trees.specs.declared.types.TypeExprs.{the_lemmas as type_lemmas}
use Rattle.std.specs.Prelude.{IfOk, Result}
use Rattle.grift_base.specs.declared.lists.OutOfMemory.{OutOfMemory}
use Rattle.grift_base.specs.Types.{TypeRow, TypeRows, FunRow, TupleRow, RefRow, VectRow}
use Rattle.grift_base.specs.declared.places.TypeId.{TypeId}
use Rattle.surface_trees.specs.Trees.{TypeExpr, TypeExprs, TypeThen, FunType, TupleType}
use Rattle.surface_trees.specs.Views.{type_of, types_of}
use Rattle.type_graph.specs.Forming.{intern}
use Rattle.type_graph.specs.Rows.{places_of}
use Rattle.cast_rules.specs.Programs.{HaveTypeWidths, NodeHasWidths, depth_of, depth_of_all, how_many_types}
use Rattle.cast_rules.specs.WrittenTypes.{form_node, form_type, form_types}
use Rattle.cast_rules.specs.Room.{IsWithin, StandsOn}
use Rattle.cast_rules.proofs.Public.{all_within_later, all_within_parts, all_within_push, forms_more, fun_fits}
use Rattle.cast_rules.proofs.Public.{function_within, grows_last, grows_on, if_ok_more, none_within, ref_fits}
use Rattle.cast_rules.proofs.Public.{stands_within, tuple_fits, vect_fits, within_more, within_part}
use Rattle.insert_steps.proofs.written.+form.Goals as goal

pub form_node-returns-in_ok-result-in-Fun-clause-within : goal.form_node-returns-in_ok-result-in-Fun-clause-within
form_node-returns-in_ok-result-in-Fun-clause-within t c =
    let old = c.form_type.new.types in
    let new = c.put-in-Fun.new.types in
    let one : ℕ = depth_of_all (types_of c.in-Fun.parameters) in
    let other : ℕ = depth_of (type_of c.in-Fun.result.value) in
    let parameters = places_of c.in_ok-parameters-in-Fun.parameters in
    let answer : ℕ = c.in_ok-result-in-Fun.result.0 in
    rw c.in-Fun.is (if_ok_more (λ (ty : TypeId). StandsOn old (parameters ++ answer ∷ []) new ty.0)
    (λ (ty : TypeId). IsWithin new (suc (max one other)) ty.0) c.put-in-Fun.result c.put-in-Fun.ensures.stands
    (λ ty h. function_within old new one other parameters answer ty.0
    (all_within_later c.form_types.new.types old one parameters c.in_ok-result-in-Fun.ensures.grows
    c.in_ok-parameters-in-Fun.ensures.within)
    (rw c.deref.ensures at c.in_ok-result-in-Fun.ensures.within) h))

pub form_node-returns-in_ok-parts-in-Tuple-clause-within : goal.form_node-returns-in_ok-parts-in-Tuple-clause-within
form_node-returns-in_ok-parts-in-Tuple-clause-within t c =
    let old = c.form_types-in-Tuple.new.types in
    let new = c.put-in-Tuple.new.types in
    let most : ℕ = depth_of_all (types_of c.in-Tuple.parts) in
    let parts = places_of c.in_ok-parts-in-Tuple.parts in
    rw c.in-Tuple.is (if_ok_more (λ (ty : TypeId). StandsOn old parts new ty.0)
    (λ (ty : TypeId). IsWithin new (suc most) ty.0) c.put-in-Tuple.result c.put-in-Tuple.ensures.stands
    (λ ty h. stands_within old new most parts ty.0 c.in_ok-parts-in-Tuple.ensures.within h))

-- ---- what is formed

function_formed : (parameters : TypeExprs) (answer : TypeExpr) (t0 t1 t2 : TypeRows) (places : List ℕ) (place : ℕ)
    (whole : ℕ × TypeRows) → form_types parameters t0 ≡ (places, t1) → form_type answer t1 ≡ (place, t2) →
    intern (FunRow places place) t2 ≡ whole → form_node (FunType parameters answer) t0 ≡ whole
function_formed parameters answer t0 t1 t2 places place whole a b c =
    ap (λ (d : List ℕ × TypeRows). intern (FunRow d.0 (form_type answer d.1).0) (form_type answer d.1).1) a
    ∙ ap (λ (d : ℕ × TypeRows). intern (FunRow places d.0) d.1) b ∙ c

pub form_node-returns-in_ok-result-in-Fun-clause-formed : goal.form_node-returns-in_ok-result-in-Fun-clause-formed
form_node-returns-in_ok-result-in-Fun-clause-formed t c =
    let old = c.form_type.new.types in
    let new = c.put-in-Fun.new.types in
    let parameters = places_of c.in_ok-parameters-in-Fun.parameters in
    let answer : ℕ = c.in_ok-result-in-Fun.result.0 in
    rw c.in-Fun.is (if_ok_more (λ (ty : TypeId). intern (FunRow parameters answer) old ≡ (ty.0, new))
    (λ (ty : TypeId). form_node (FunType (types_of c.in-Fun.parameters) (type_of c.in-Fun.result.value))
    c.args.types.now ≡ (ty.0, new)) c.put-in-Fun.result c.put-in-Fun.ensures.formed
    (λ ty h. function_formed (types_of c.in-Fun.parameters) (type_of c.in-Fun.result.value) _ _ _ _ _ _
    c.in_ok-parameters-in-Fun.ensures.formed
    (rw c.deref.ensures at c.in_ok-result-in-Fun.ensures.formed) h))

pub form_node-returns-in_ok-parts-in-Tuple-clause-formed : goal.form_node-returns-in_ok-parts-in-Tuple-clause-formed
form_node-returns-in_ok-parts-in-Tuple-clause-formed t c =
    let old = c.form_types-in-Tuple.new.types in
    let new = c.put-in-Tuple.new.types in
    rw c.in-Tuple.is (if_ok_more (λ (ty : TypeId). intern (TupleRow (places_of c.in_ok-parts-in-Tuple.parts)) old
    ≡ (ty.0, new)) (λ (ty : TypeId). form_node (TupleType (types_of c.in-Tuple.parts)) c.args.types.now ≡ (ty.0, new))
    c.put-in-Tuple.result c.put-in-Tuple.ensures.formed
    (λ ty h. ap (λ (d : List ℕ × TypeRows). intern (TupleRow d.0) d.1) c.in_ok-parts-in-Tuple.ensures.formed ∙ h))

-- a box or a vector, of which this is the row over its content
cell_formed : (row : ℕ → TypeRow) (content : ℕ) (old new : TypeRows) (formed : ℕ × TypeRows)
    (result : Result TypeId OutOfMemory) → formed ≡ (content, old) →
    IfOk result (λ ty. intern (row content) old ≡ (ty.0, new)) →
    IfOk result (λ ty. intern (row formed.0) formed.1 ≡ (ty.0, new))
cell_formed row content old new formed result e h =
    if_ok_more (λ (ty : TypeId). intern (row content) old ≡ (ty.0, new))
    (λ (ty : TypeId). intern (row formed.0) formed.1 ≡ (ty.0, new)) result h
    (λ ty k. ap (λ (d : ℕ × TypeRows). intern (row d.0) d.1) e ∙ k)

pub form_node-returns-in_ok-content-in-Ref-clause-formed : goal.form_node-returns-in_ok-content-in-Ref-clause-formed
form_node-returns-in_ok-content-in-Ref-clause-formed t c =
    rw c.in-Ref.is (cell_formed RefRow _ _ _ _ c.put-in-Ref.result
    (rw c.deref-in-Ref.ensures at c.in_ok-content-in-Ref.ensures.formed) c.put-in-Ref.ensures.formed)

pub form_node-returns-in_ok-content-in-Vect-clause-formed : goal.form_node-returns-in_ok-content-in-Vect-clause-formed
form_node-returns-in_ok-content-in-Vect-clause-formed t c =
    rw c.in-Vect.is (cell_formed VectRow _ _ _ _ c.put-in-Vect.result
    (rw c.deref-in-Vect.ensures at c.in_ok-content-in-Vect.ensures.formed) c.put-in-Vect.ensures.formed)

-- ---- tables that grow

pub form_node-returns-in_ok-result-in-Fun-clause-grows : goal.form_node-returns-in_ok-result-in-Fun-clause-grows
form_node-returns-in_ok-result-in-Fun-clause-grows t c =
    grows_last c.put-in-Fun.result _ _ _ (grows_on _ _ _ c.in_ok-parameters-in-Fun.ensures.grows
    c.in_ok-result-in-Fun.ensures.grows) c.put-in-Fun.ensures.grows

pub form_node-returns-in_ok-parts-in-Tuple-clause-grows : goal.form_node-returns-in_ok-parts-in-Tuple-clause-grows
form_node-returns-in_ok-parts-in-Tuple-clause-grows t c =
    grows_last c.put-in-Tuple.result _ _ _ c.in_ok-parts-in-Tuple.ensures.grows c.put-in-Tuple.ensures.grows

pub form_node-returns-in_ok-content-in-Ref-clause-grows : goal.form_node-returns-in_ok-content-in-Ref-clause-grows
form_node-returns-in_ok-content-in-Ref-clause-grows t c =
    grows_last c.put-in-Ref.result _ _ _ c.in_ok-content-in-Ref.ensures.grows c.put-in-Ref.ensures.grows

pub form_node-returns-in_ok-content-in-Vect-clause-grows : goal.form_node-returns-in_ok-content-in-Vect-clause-grows
form_node-returns-in_ok-content-in-Vect-clause-grows t c =
    grows_last c.put-in-Vect.result _ _ _ c.in_ok-content-in-Vect.ensures.grows c.put-in-Vect.ensures.grows

-- ---- a box and a vector are one higher than their content

cell_within : (old new : TypeRows) (most content : ℕ) (result : Result TypeId OutOfMemory) →
    IsWithin old most content → IfOk result (λ ty. StandsOn old (content ∷ []) new ty.0) →
    IfOk result (λ ty. IsWithin new (suc most) ty.0)
cell_within old new most content result h stands =
    if_ok_more (λ (ty : TypeId). StandsOn old (content ∷ []) new ty.0)
    (λ (ty : TypeId). IsWithin new (suc most) ty.0) result stands
    (λ ty k. stands_within old new most (content ∷ []) ty.0
    (all_within_push old most [] content (none_within old most) h) k)

pub form_node-returns-in_ok-content-in-Ref-clause-within : goal.form_node-returns-in_ok-content-in-Ref-clause-within
form_node-returns-in_ok-content-in-Ref-clause-within t c =
    rw c.in-Ref.is (cell_within _ _ _ _ c.put-in-Ref.result
    (rw c.deref-in-Ref.ensures at c.in_ok-content-in-Ref.ensures.within) c.put-in-Ref.ensures.stands)

pub form_node-returns-in_ok-content-in-Vect-clause-within : goal.form_node-returns-in_ok-content-in-Vect-clause-within
form_node-returns-in_ok-content-in-Vect-clause-within t c =
    rw c.in-Vect.is (cell_within _ _ _ _ c.put-in-Vect.result
    (rw c.deref-in-Vect.ensures at c.in_ok-content-in-Vect.ensures.within) c.put-in-Vect.ensures.stands)

-- ---- rows that fit

pub form_node-put-requires-in-Fun : goal.form_node-put-requires-in-Fun
form_node-put-requires-in-Fun t c =
    let now = c.form_type.new.types in
    let parameters = types_of c.in-Fun.parameters in
    let answer = type_of c.in-Fun.result.value in
    let widths : NodeHasWidths (FunType parameters answer) = (rw c.in-Fun.is at c.requires.widths) in
    let shallow : suc (max (depth_of_all parameters) (depth_of answer)) ≤ 200 =
    (rw c.in-Fun.is at c.requires.shallow) in
    fun_fits now (places_of c.in_ok-parameters-in-Fun.parameters) c.in_ok-result-in-Fun.result.0
    (all_within_parts now (depth_of_all parameters) _ (omega arith)
    (all_within_later c.form_types.new.types now _ _ c.in_ok-result-in-Fun.ensures.grows
    c.in_ok-parameters-in-Fun.ensures.within))
    (within_part now (depth_of answer) _ (omega arith) (rw c.deref.ensures at c.in_ok-result-in-Fun.ensures.within))
    (rw c.in_ok-parameters-in-Fun.ensures.count widths.2)

pub form_node-put-requires-in-Tuple : goal.form_node-put-requires-in-Tuple
form_node-put-requires-in-Tuple t c =
    let now = c.form_types-in-Tuple.new.types in
    let parts = types_of c.in-Tuple.parts in
    let widths : NodeHasWidths (TupleType parts) = (rw c.in-Tuple.is at c.requires.widths) in
    let shallow : suc (depth_of_all parts) ≤ 200 = (rw c.in-Tuple.is at c.requires.shallow) in
    tuple_fits now (places_of c.in_ok-parts-in-Tuple.parts)
    (all_within_parts now (depth_of_all parts) _ (omega arith) c.in_ok-parts-in-Tuple.ensures.within)
    (rw c.in_ok-parts-in-Tuple.ensures.count widths.1) (rw c.in_ok-parts-in-Tuple.ensures.count widths.2)

pub form_node-put-requires-in-Ref : goal.form_node-put-requires-in-Ref
form_node-put-requires-in-Ref t c =
    let most : ℕ = depth_of (type_of c.in-Ref.content.value) in
    let shallow : suc most ≤ 200 = (rw c.in-Ref.is at c.requires.shallow) in
    ref_fits _ _ (within_part _ most _ (omega arith)
    (rw c.deref-in-Ref.ensures at c.in_ok-content-in-Ref.ensures.within))

pub form_node-put-requires-in-Vect : goal.form_node-put-requires-in-Vect
form_node-put-requires-in-Vect t c =
    let most : ℕ = depth_of (type_of c.in-Vect.content.value) in
    let shallow : suc most ≤ 200 = (rw c.in-Vect.is at c.requires.shallow) in
    vect_fits _ _ (within_part _ most _ (omega arith)
    (rw c.deref-in-Vect.ensures at c.in_ok-content-in-Vect.ensures.within))

-- ---- types one after another

pub form_types-loop-left-preserved : goal.form_types-loop-left-preserved
form_types-loop-left-preserved t c =
    let now = c.form_type.new.types in
    let first = type_of c.in-Cons.first.value in
    let rest = types_of c.in-Cons.rest.value in
    let done = places_of c.loop-left.ids in
    let most : ℕ = depth_of_all (types_of c.args.list.now) in
    let id : ℕ = c.in_ok-id.id.0 in
    let widths : HaveTypeWidths (TypeThen first rest) = (rw c.in-Cons.is at c.loop-left.invariant.widths) in
    let shallow : max (depth_of first) (depth_of_all rest) ≤ most =
    (rw c.in-Cons.is at c.loop-left.invariant.shallow) in
    let count : length done + suc (how_many_types rest) ≡ how_many_types (types_of c.args.list.now) =
    (rw c.in-Cons.is at c.loop-left.invariant.count) in
    let pushed : places_of c.push.new.self ≡ done ++ id ∷ [] =
    ap places_of c.in_ok-push.ensures.ok ∙ map-append (λ (id : TypeId). id.0) c.loop-left.ids (c.in_ok-id.id ∷ []) in
    record {
      formed = (rw c.in-Cons.is at c.loop-left.invariant.formed) ∙ rw (c.in_ok-push.ensures.ok, c.deref-left.ensures)
          (forms_more c.loop-left.ids c.in_ok-id.id first rest c.loop-left.types now
          (rw c.deref.ensures at c.in_ok-id.ensures.formed));
      smaller = search (rules, type_lemmas);
      widths = rw c.deref-left.ensures widths.1;
      shallow = rw c.deref-left.ensures (omega arith);
      grows = grows_on _ _ _ c.loop-left.invariant.grows c.in_ok-id.ensures.grows;
      within = rw pushed (all_within_push now most done id (all_within_later c.loop-left.types now most done
          c.in_ok-id.ensures.grows c.loop-left.invariant.within) (within_more now (depth_of first) most id (omega arith)
          (rw c.deref.ensures at c.in_ok-id.ensures.within)));
      count = rw (pushed, c.deref-left.ensures) (omega (arith, count, length-append done (id ∷ [])));
    }
