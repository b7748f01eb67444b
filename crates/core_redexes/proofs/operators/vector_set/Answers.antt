use Rattle.std.proofs.Common.{ap, sym, ◌∙◌, map, None, Some, arith, rules, length, slice_get}
use Rattle.std.specs.Prelude.{option_and_then}
use Rattle.std.specs.Int.{w64}
use Rattle.std.specs.Int.RustNames.{FitsSigned}
use Rattle.std.proofs.lemmas.Int.{to_z-of_z}
use Rattle.std.proofs.lemmas.List.{length-map}
use Rattle.core_calc.specs.States.{store_of}
use Rattle.core_calc.specs.Terms.{Term}
use Rattle.core_calc.specs.Outcome.{Outcome}
use Rattle.core_calc.specs.Views.{value_of}
use Rattle.core_redexes.specs.Moves.{after}
use Rattle.core_redexes.proofs.OperatorCells.{set_found, set_placed, has_element}
use Rattle.core_redexes.proofs.OperatorTurns.{leads_too, onward}
use Rattle.core_redexes.proofs.operators.vector_set.Goals as goal

pub returns-in_default-vector_cell-clause-ok : goal.returns-in_default-vector_cell-clause-ok
returns-in_default-vector_cell-clause-ok c = λ world old.
    let store = store_of c.args.store.now in
    ap (λ (o : Outcome Term). after o old store world)
    (set_found c.args.types.now store world (value_of c.args.vector) (value_of c.args.index.now) (value_of c.args.v)
    c.in-Int.index None (ap value_of c.in-Int.is)
    (ap (option_and_then (slice_get store)) (sym c.in_default-vector_cell.ensures)))

pub returns-in_default-get-clause-ok : goal.returns-in_default-get-clause-ok
returns-in_default-get-clause-ok c = λ world old.
    let store = store_of c.args.store.now in
    ap (λ (o : Outcome Term). after o old store world)
    (set_found c.args.types.now store world (value_of c.args.vector) (value_of c.args.index.now) (value_of c.args.v)
    c.in-Int.index None (ap value_of c.in-Int.is)
    (ap (option_and_then (slice_get store)) (sym c.in-Some.ensures) ∙ c.in_default-get.ensures))

pub returns-in_default-place_below-clause-ok : goal.returns-in_default-place_below-clause-ok
returns-in_default-place_below-clause-ok c = λ world old.
    let f : FitsSigned w64 c.in-Int.index = search rules in
    let store = store_of c.args.store.now in
    ap (λ (o : Outcome Term). after o old store world)
    (set_found c.args.types.now store world (value_of c.args.vector) (value_of c.args.index.now) (value_of c.args.v)
    c.in-Int.index (Some (map value_of c.in-Some-get.elements.now)) (ap value_of c.in-Int.is)
    (ap (option_and_then (slice_get store)) (sym c.in-Some.ensures) ∙ c.in-Some-get.ensures)
    ∙ set_placed c.args.types.now store world (value_of c.args.vector) (value_of c.args.v) c.in-Int.index _
    (map value_of c.in-Some-get.elements.now) (length c.in-Some-get.elements.now) None
    (to_z-of_z w64 c.in-Int.index f) (sym (length-map c.in-Some-get.elements.now value_of))
    c.in_default-place_below.ensures.place)

pub set_element-requires : goal.set_element-requires
set_element-requires c =
    has_element (store_of c.args.store.now) (value_of c.args.vector) c.in-Some.cell
    (map value_of c.in-Some-get.elements.now) c.in-Some-place_below.place c.in-Some.ensures c.in-Some-get.ensures
    (omega (arith, length-map c.in-Some-get.elements.now value_of, c.in-Some-place_below.ensures.within))

pub returns-clause-ok : goal.returns-clause-ok
returns-clause-ok c =
    let f : FitsSigned w64 c.in-Int.index = search rules in
    let store = store_of c.args.store.now in
    onward c.set_element.result c.set_element.ensures.ok (λ turn h world. leads_too _ _ _ world turn _ world
    (set_found c.args.types.now store world (value_of c.args.vector) (value_of c.args.index.now) (value_of c.args.v)
    c.in-Int.index (Some (map value_of c.in-Some-get.elements.now)) (ap value_of c.in-Int.is)
    (ap (option_and_then (slice_get store)) (sym c.in-Some.ensures) ∙ c.in-Some-get.ensures)
    ∙ set_placed c.args.types.now store world (value_of c.args.vector) (value_of c.args.v) c.in-Int.index _
    (map value_of c.in-Some-get.elements.now) (length c.in-Some-get.elements.now) (Some c.in-Some-place_below.place)
    (to_z-of_z w64 c.in-Int.index f) (sym (length-map c.in-Some-get.elements.now value_of))
    c.in-Some-place_below.ensures.place) (h world))
