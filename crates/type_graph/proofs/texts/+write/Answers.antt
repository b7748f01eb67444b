use Rattle.std.proofs.Common.{◌≡◌, ℕ, ◌++◌, List, get_or, Some, ap, ◌∙◌, arith}
use Rattle.std.specs.Prelude.{codes}
use Rattle.grift_base.specs.Types.{FunRow, TupleRow, row_at}
use Rattle.type_graph.specs.Rows.{places_of, row_of}
use Rattle.type_graph.specs.Texts.{each_between, type_text}
use Rattle.type_graph.proofs.RowParts.{nowhere, among, function_parts, tuple_parts, reference_part, vector_part}
use Rattle.type_graph.proofs.TextLemmas.{fun_written, tuple_written, ref_written, vect_written}
use Rattle.type_graph.proofs.TextLemmas.{between_more}
use Rattle.type_graph.proofs.texts.+write.Goals as goal

pub write_each-write_type-requires : goal.write_each-write_type-requires
write_each-write_type-requires t c =
    let part = among c.args.types.now c.args.parts.now c.loop-part.part-index c.loop-part-test.true
    c.requires in
    (omega (arith, c.decreases, part.lower), part.within)

pub write_each-loop-part-preserved : goal.write_each-loop-part-preserved
write_each-loop-part-preserved t c =
    c.in_ok-extend-2.ensures.ok
    ∙ ap (λ l. l ++ c.args.behind.now) (c.in_ok-write_type.ensures
    ∙ ap (λ l. l ++ type_text c.args.types.now (get_or c.args.parts.now c.loop-part.part-index nowhere).0)
    c.in_ok-extend.ensures.ok)
    ∙ between_more c.args.before.now c.args.behind.now c.args.types.now c.args.parts.now c.loop-part.part-index nowhere
    c.args.text.now c.loop-part.text c.loop-part-test.true c.loop-part.invariant

pub write_type-write_each-requires : goal.write_type-write_each-requires
write_type-write_each-requires t c =
    let parts = function_parts c.args.types.now c.len.ensures.table.finite c.args.t.0 c.in-Fun.is c.row.ensures in
    rw c.as_slice.ensures (omega (arith, c.decreases, parts.0.lower), parts.0.within)

pub write_type-write_type-requires : goal.write_type-write_type-requires
write_type-write_type-requires t c =
    let parts = function_parts c.args.types.now c.len.ensures.table.finite c.args.t.0 c.in-Fun.is c.row.ensures in
    (omega (arith, c.decreases, parts.1.lower), parts.1.within)

pub write_type-write_each-requires-in-Tuple : goal.write_type-write_each-requires-in-Tuple
write_type-write_each-requires-in-Tuple t c =
    let parts = tuple_parts c.args.types.now c.len.ensures.table.finite c.args.t.0 c.in-Tuple.is c.row.ensures in
    rw c.as_slice-in-Tuple.ensures (omega (arith, c.decreases, parts.lower), parts.within)

pub write_type-write_type-requires-in-Ref : goal.write_type-write_type-requires-in-Ref
write_type-write_type-requires-in-Ref t c =
    let part = reference_part c.args.types.now c.len.ensures.table.finite c.args.t.0 c.in-Ref.is c.row.ensures in
    (omega (arith, c.decreases, part.lower), part.within)

pub write_type-write_type-requires-in-Vect : goal.write_type-write_type-requires-in-Vect
write_type-write_type-requires-in-Vect t c =
    let part = vector_part c.args.types.now c.len.ensures.table.finite c.args.t.0 c.in-Vect.is c.row.ensures in
    (omega (arith, c.decreases, part.lower), part.within)

pub write_type-returns-in_ok-write_type-in-Fun : goal.write_type-returns-in_ok-write_type-in-Fun
write_type-returns-in_ok-write_type-in-Fun t c =
    let types = c.args.types.now in
    let parameters : List ℕ = places_of c.in-Fun.parameters in
    let text : ℕ → List ℕ = type_text types in
    let row : row_at types c.args.t.0 ≡ Some (FunRow parameters c.in-Fun.result.0) =
    c.row.ensures ∙ ap (λ r. Some (row_of r)) c.in-Fun.is in
    let written =
    ap (λ (l : List ℕ). l ++ codes ")")
    (c.in_ok-write_type-in-Fun.ensures
    ∙ ap (λ (l : List ℕ). l ++ text c.in-Fun.result.0)
    (c.in_ok-extend-in-Fun-2.ensures.ok
    ∙ ap (λ (l : List ℕ). l ++ codes "-> ")
    ((rw c.as_slice.ensures at c.in_ok-write_each-in-Fun.ensures)
    ∙ ap (λ (l : List ℕ). l ++ each_between (codes "") (codes " ") text parameters) c.in_ok-extend-in-Fun.ensures.ok)))
    ∙ fun_written types c.len.ensures.table.finite c.args.t.0 c.requires c.args.text.now parameters
    c.in-Fun.result.0 row in
    rw (← written) c.extend-in-Fun-3.ensures.ok

pub write_type-returns-in_ok-write_each-in-Tuple :
    goal.write_type-returns-in_ok-write_each-in-Tuple
write_type-returns-in_ok-write_each-in-Tuple t c =
    let types = c.args.types.now in
    let parts : List ℕ = places_of c.in-Tuple.parts in
    let text : ℕ → List ℕ = type_text types in
    let row : row_at types c.args.t.0 ≡ Some (TupleRow parts) =
    c.row.ensures ∙ ap (λ r. Some (row_of r)) c.in-Tuple.is in
    let written =
    ap (λ (l : List ℕ). l ++ codes ")")
    ((rw c.as_slice-in-Tuple.ensures at c.in_ok-write_each-in-Tuple.ensures)
    ∙ ap (λ (l : List ℕ). l ++ each_between (codes " ") (codes "") text parts) c.in_ok-extend-in-Tuple.ensures.ok)
    ∙ tuple_written types c.len.ensures.table.finite c.args.t.0 c.requires c.args.text.now parts row in
    rw (← written) c.extend-in-Tuple-2.ensures.ok

pub write_type-returns-in_ok-write_type-in-Ref : goal.write_type-returns-in_ok-write_type-in-Ref
write_type-returns-in_ok-write_type-in-Ref t c =
    rw (← ref_written c.args.types.now c.len.ensures.table.finite c.args.t.0 c.requires c.args.text.now
    c.in-Ref.content.0 (c.row.ensures ∙ ap (λ r. Some (row_of r)) c.in-Ref.is) _ _ c.in_ok-extend-in-Ref.ensures.ok
    c.in_ok-write_type-in-Ref.ensures) c.extend-in-Ref-2.ensures.ok

pub write_type-returns-in_ok-write_type-in-Vect : goal.write_type-returns-in_ok-write_type-in-Vect
write_type-returns-in_ok-write_type-in-Vect t c =
    rw (← vect_written c.args.types.now c.len.ensures.table.finite c.args.t.0 c.requires c.args.text.now
    c.in-Vect.content.0 (c.row.ensures ∙ ap (λ r. Some (row_of r)) c.in-Vect.is) _ _ c.in_ok-extend-in-Vect.ensures.ok
    c.in_ok-write_type-in-Vect.ensures) c.extend-in-Vect-2.ensures.ok
