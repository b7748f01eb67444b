use Rattle.std.proofs.Common.{◌≡◌, ℕ, ◌+◌, ◌++◌, ◌∷◌, List, [], take, get_or, Some}
use Rattle.std.proofs.Common.{sym, ap, ap₂, ◌∙◌, subst, arith, append-nil}
use Rattle.std.specs.Prelude.{All}
use Rattle.std.proofs.lemmas.List.{map_more, take_more, length-map}
use Rattle.grift_base.specs.declared.places.TypeId.{TypeId}
use Rattle.grift_base.specs.Types.{TypeRow, TypeRows, row_at}
use Rattle.type_graph.specs.Rows.{places_of, row_of}
use Rattle.type_graph.specs.Trees.{EndsWithin, height, related}
use Rattle.type_graph.specs.Forming.{intern}
use Rattle.type_graph.specs.TypeTables.{HasMoreRows, FitsTable}
use Rattle.type_graph.proofs.Public.{same_some, more_rows, later_within}
use Rattle.type_graph.proofs.Public.{ends_grown, height_grown, fun_parts, intern_adds}
use Rattle.consistency.specs.declared.pairs.Pair.{Pair}
use Rattle.consistency.specs.Consistency.{consistent}
use Rattle.consistency.specs.Blending.{blend_each, blend_to, with_parts}
use Rattle.consistency.specs.Known.{MayBlend, EachFormed}
use Rattle.consistency.specs.Pairs.{firsts, seconds}
use Rattle.consistency.proofs.ConsistentLemmas.{consistent_kept}
use Rattle.consistency.proofs.BlendLemmas.{EachFormed-grown, EachFormed-push}
use Rattle.consistency.proofs.BlendLemmas.{plain_consistent, All-MayBlend, have_blended_parts, as_many, both_fits}
use Rattle.consistency.proofs.BlendLemmas.{IsFormed-both, computes}
use Rattle.consistency.proofs.BlendLemmas.{IsFormed-first, IsFormed-second, AreFormed-grown, AreFormed-insert}
use Rattle.consistency.proofs.BlendLemmas.{first_below_all, one_more_computed, pairs_of_parts_fit, blended_row, nowhere}
use Rattle.consistency.proofs.blends.+form.Goals as goal

pub form-returns-in-Some-clause-computed : goal.form-returns-in-Some-clause-computed
form-returns-in-Some-clause-computed t c = λ depth deep.
    let there = c.requires.known c.args.pair c.in-Some.c
    (sym c.get.ensures.value ∙ sym c.copied.ensures ∙ c.in-Some.is) in
    subst (λ (rows : TypeRows). EndsWithin depth rows c.args.pair.first.0 →
    blend_to depth c.args.pair.first.0 c.args.pair.second.0 rows ≡ (c.in-Some.c.0, rows))
    (append-nil c.args.types.now) (there.again [] depth) deep

pub form-returns-in-Some-clause-formed : goal.form-returns-in-Some-clause-formed
form-returns-in-Some-clause-formed t c =
    c.requires.known c.args.pair c.in-Some.c
    (sym c.get.ensures.value ∙ sym c.copied.ensures ∙ c.in-Some.is)

pub form_each-form-requires : goal.form_each-form-requires
form_each-form-requires t c =
    let old = c.args.types.now in
    let now = c.loop-pair.types in
    let pair : Pair = get_or c.args.pairs.now c.loop-pair.pair-index nowhere in
    let may : MayBlend old pair = c.requires.pairs c.loop-pair.pair-index nowhere c.loop-pair-test.true in
    let below =
    first_below_all (height old) c.args.pairs.now c.loop-pair.pair-index nowhere c.loop-pair-test.true in
    let grown = c.loop-pair.invariant.grown in
    let high : height now pair.first.0 ≡ height old pair.first.0 =
    height_grown old now c.len.ensures.table.finite grown pair.first.0 may.first_there in (
      omega (arith, c.decreases, below, high),
      (
        record {
          first_there = later_within old now pair.first.0 grown may.first_there;
          second_there = later_within old now pair.second.0 grown may.second_there;
          consistent_pair =
              consistent_kept old now c.len.ensures.table.finite grown pair.first.0 pair.second.0 may.first_there
              may.second_there
              ∙ may.consistent_pair;
        },
        c.loop-pair.invariant.known,
      ),
    )

pub form_each-loop-pair-preserved : goal.form_each-loop-pair-preserved
form_each-loop-pair-preserved t c =
    let old = c.args.types.now in
    let now = c.loop-pair.types in
    let new = c.form.new.types in
    let pairs = c.args.pairs.now in
    let k : ℕ = c.loop-pair.pair-index in
    let pair : Pair = get_or pairs k nowhere in
    let parts = c.loop-pair.parts.items in
    record {
      known = c.in_ok-part.ensures.known;
      grown = more_rows old now new c.loop-pair.invariant.grown c.in_ok-part.ensures.grown;
      formed =
          subst (λ (cs : List TypeId). EachFormed new (take (k + 1) pairs) cs) (sym c.in_ok-push.ensures)
          (subst (λ (ps : List Pair). EachFormed new ps (parts ++ c.in_ok-part.part ∷ []))
          (sym (take_more pairs k nowhere c.loop-pair-test.true))
          (EachFormed-push new (take k pairs) parts pair c.in_ok-part.part
          (EachFormed-grown now new (take k pairs) parts c.len-in-loop-pair.ensures.table.finite
          c.in_ok-part.ensures.grown c.loop-pair.invariant.formed)
          c.in_ok-part.ensures.formed));
      computed = λ depth deep.
          let all = fun_parts (EndsWithin depth old) (firsts (take k pairs)) pair.first.0
          (subst (λ (xs : List ℕ). All (EndsWithin depth old) xs)
          (map_more (λ (p : Pair). p.first.0) pairs k nowhere c.loop-pair-test.true) deep) in
          let may : MayBlend old pair = c.requires.pairs k nowhere c.loop-pair-test.true in
          let ends : EndsWithin depth now pair.first.0 =
          ends_grown old now c.len.ensures.table.finite.closed c.loop-pair.invariant.grown depth pair.first.0
          may.first_there all.1 in
          one_more_computed depth old now new pairs k nowhere parts c.in_ok-part.part c.loop-pair-test.true
          (c.loop-pair.invariant.computed depth all.0) (c.in_ok-part.ensures.computed depth ends)
          ∙ ap (λ (cs : List TypeId). (places_of cs, new)) (sym c.in_ok-push.ensures);
    }

pub form-returns-then-is_dyn-clause-formed : goal.form-returns-then-is_dyn-clause-formed
form-returns-then-is_dyn-clause-formed t c =
    IsFormed-first c.args.types.now c.args.pair.first.0 c.args.pair.second.0
    (row_of c.row-row.result.now) (row_of c.row-other.result.now) c.row-row.ensures c.row-other.ensures
    (sym c.is_dyn.ensures ∙ c.if-is_dyn.true)

pub form-returns-then-is_dyn-2-clause-formed : goal.form-returns-then-is_dyn-2-clause-formed
form-returns-then-is_dyn-2-clause-formed t c =
    IsFormed-second c.args.types.now c.args.pair.first.0 c.args.pair.second.0
    (row_of c.row-row.result.now) (row_of c.row-other.result.now) c.row-row.ensures c.row-other.ensures
    (sym c.is_dyn.ensures ∙ c.if-is_dyn.false)
    (sym c.is_dyn-2.ensures ∙ c.if-is_dyn-2.true)

pub form-pairs_of_parts-requires : goal.form-pairs_of_parts-requires
form-pairs_of_parts-requires t c =
    (plain_consistent c.args.types.now c.args.pair.first.0 c.args.pair.second.0 (row_of c.row-row.result.now)
    (row_of c.row-other.result.now) c.len.ensures.table.finite c.requires.pair.first_there c.row-row.ensures
    c.row-other.ensures (sym c.is_dyn.ensures ∙ c.if-is_dyn.false) (sym c.is_dyn-2.ensures ∙ c.if-is_dyn-2.false)
    c.requires.pair.consistent_pair).0

pub form-form_each-requires : goal.form-form_each-requires
form-form_each-requires t c =
    let types = c.args.types.now in
    let finite = c.len.ensures.table.finite in
    let row = row_of c.row-row.result.now in
    let other = row_of c.row-other.result.now in
    let parts =
    plain_consistent types c.args.pair.first.0 c.args.pair.second.0 row other finite c.requires.pair.first_there
    c.row-row.ensures c.row-other.ensures (sym c.is_dyn.ensures ∙ c.if-is_dyn.false)
    (sym c.is_dyn-2.ensures ∙ c.if-is_dyn-2.false) c.requires.pair.consistent_pair in
    let pairs = c.in_ok-pairs.pairs.items in
    let fit = pairs_of_parts_fit types finite c.args.pair.first.0 c.args.pair.second.0 row other pairs
    c.row-row.ensures c.row-other.ensures c.in_ok-pairs.ensures.firsts c.in_ok-pairs.ensures.seconds in
    rw c.as_slice.ensures.value (
      omega (arith, c.decreases, fit.0),
      (
        All-MayBlend types pairs fit.1
            (ap₂ (λ xs ys. related (consistent types) xs ys) c.in_ok-pairs.ensures.firsts c.in_ok-pairs.ensures.seconds
            ∙ parts.1),
        c.requires.known,
      ),
    )

pub form-row_with_parts-requires : goal.form-row_with_parts-requires
form-row_with_parts-requires t c =
    let row : TypeRow = row_of c.row-row.result.now in
    let cs : List TypeId = c.in_ok-parts.parts.items in
    let known = have_blended_parts c.args.types.now c.form_each.new.types c.args.pair.first.0 c.args.pair.second.0 row
    (row_of c.row-other.result.now) c.in_ok-pairs.pairs.items cs c.len.ensures.table.finite c.requires.pair.first_there
    c.row-row.ensures c.row-other.ensures (sym c.is_dyn.ensures ∙ c.if-is_dyn.false)
    (sym c.is_dyn-2.ensures ∙ c.if-is_dyn-2.false) c.requires.pair.consistent_pair c.in_ok-parts.ensures.grown
    c.in_ok-pairs.ensures.firsts c.in_ok-pairs.ensures.seconds
    (subst (λ (ps : List Pair). EachFormed c.form_each.new.types ps cs) c.as_slice.ensures.value
    c.in_ok-parts.ensures.formed) in
    rw (c.as_slice-2.ensures.value, same_some (row_of c.row.result.now) row (sym c.row.ensures ∙ known.at_a))
    (sym (length-map cs (λ (id : TypeId). id.0))
    ∙ as_many c.form_each.new.types c.args.pair.first.0 c.args.pair.second.0 row (row_of c.row-other.result.now)
    c.in_ok-pairs.pairs.items cs c.len-2.ensures.table known)

pub form-intern-requires : goal.form-intern-requires
form-intern-requires t c =
    let middle = c.form_each.new.types in
    let row : TypeRow = row_of c.row-row.result.now in
    let cs : List TypeId = c.in_ok-parts.parts.items in
    let known = have_blended_parts c.args.types.now middle c.args.pair.first.0 c.args.pair.second.0 row
    (row_of c.row-other.result.now) c.in_ok-pairs.pairs.items cs c.len.ensures.table.finite c.requires.pair.first_there
    c.row-row.ensures c.row-other.ensures (sym c.is_dyn.ensures ∙ c.if-is_dyn.false)
    (sym c.is_dyn-2.ensures ∙ c.if-is_dyn-2.false) c.requires.pair.consistent_pair c.in_ok-parts.ensures.grown
    c.in_ok-pairs.ensures.firsts c.in_ok-pairs.ensures.seconds
    (subst (λ (ps : List Pair). EachFormed middle ps cs) c.as_slice.ensures.value c.in_ok-parts.ensures.formed) in
    let both = blended_row c.row.ensures known.at_a c.in_ok-both.ensures c.as_slice-2.ensures.value in
    subst (λ (r : TypeRow). FitsTable middle r) (sym both)
    (both_fits middle c.args.pair.first.0 c.args.pair.second.0 row (row_of c.row-other.result.now)
    c.in_ok-pairs.pairs.items cs c.len-2.ensures.table known)

pub form-returns : goal.form-returns
form-returns t c =
    let types = c.args.types.now in
    let middle = c.form_each.new.types in
    let new = c.intern.new.self in
    let a : ℕ = c.args.pair.first.0 in
    let b : ℕ = c.args.pair.second.0 in
    let row : TypeRow = row_of c.row-row.result.now in
    let other : TypeRow = row_of c.row-other.result.now in
    let pairs : List Pair = c.in_ok-pairs.pairs.items in
    let cs : List TypeId = c.in_ok-parts.parts.items in
    let known = have_blended_parts types middle c.args.pair.first.0 c.args.pair.second.0 row
    (row_of c.row-other.result.now) c.in_ok-pairs.pairs.items cs c.len.ensures.table.finite c.requires.pair.first_there
    c.row-row.ensures c.row-other.ensures (sym c.is_dyn.ensures ∙ c.if-is_dyn.false)
    (sym c.is_dyn-2.ensures ∙ c.if-is_dyn-2.false) c.requires.pair.consistent_pair c.in_ok-parts.ensures.grown
    c.in_ok-pairs.ensures.firsts c.in_ok-pairs.ensures.seconds
    (subst (λ (ps : List Pair). EachFormed middle ps cs) c.as_slice.ensures.value c.in_ok-parts.ensures.formed) in
    let both = blended_row c.row.ensures known.at_a c.in_ok-both.ensures c.as_slice-2.ensures.value in
    let added =
    subst (λ (rows : TypeRows). HasMoreRows middle rows) (ap (λ (d : ℕ × TypeRows). d.1) c.in_ok-c.ensures.ok)
    (intern_adds (row_of c.in_ok-both.both) middle) in
    let at_c : row_at new c.in_ok-c.c.0 ≡ Some (with_parts row (places_of cs)) =
    c.in_ok-c.ensures.place ∙ ap Some both in
    let formed =
    IsFormed-both middle a b row other pairs cs c.len-2.ensures.table known new c.in_ok-c.c.0 c.len-3.ensures.table
    added at_c in
    record {
      computed = computes middle a b row other pairs cs c.len-2.ensures.table known new c.in_ok-c.c.0
          c.len-3.ensures.table added at_c types c.row-row.ensures c.row-other.ensures
          (λ depth. subst (λ (ps : List Pair). All (EndsWithin depth types) (firsts ps) →
          blend_each (blend_to depth) (firsts ps) (seconds ps) types ≡ (places_of cs, middle))
          c.as_slice.ensures.value (c.in_ok-parts.ensures.computed depth))
          (ap (λ r. intern r middle) (sym both) ∙ c.in_ok-c.ensures.ok);
      formed = formed;
      known = AreFormed-insert new c.form_each.new.known c.insert.new.self c.args.pair c.in_ok-c.c
          (AreFormed-grown middle new c.form_each.new.known c.len-2.ensures.table.finite added
          c.in_ok-parts.ensures.known) formed c.in_ok-insert.ensures.updates.0;
      grown = more_rows types middle new c.in_ok-parts.ensures.grown added;
    }
