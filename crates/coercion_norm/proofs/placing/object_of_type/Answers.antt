use Rattle.std.proofs.Common.{◌≡◌, ℕ, List, length, ap, ◌∙◌, subst, arith}
use Rattle.std.specs.Prelude.{IfOk, slice_index}
use Rattle.std.proofs.lemmas.List.{length-map}
use Rattle.grift_base.specs.Types.{parts_of}
use Rattle.grift_base.specs.declared.places.TypeId.{TypeId}
use Rattle.type_graph.specs.Rows.{places_of, row_of}
use Rattle.coercion_norm.specs.StaticObjects.{words_at}
use Rattle.coercion_norm.proofs.CastLemmas.{row_is}
use Rattle.coercion_norm.proofs.Objects.{few_parts}
use Rattle.coercion_norm.proofs.TypePlacing.{object_of_row}
use Rattle.coercion_norm.proofs.placing.object_of_type.Goals as goal

-- the words behind the header
words_are : (type_at : List ℕ) (parts places : List TypeId) (row : List ℕ) (items words : List ℕ) → places ≡ parts
    → places_of parts ≡ row → items ≡ words_at type_at (places_of places) → words ≡ items
    → words ≡ words_at type_at row
words_are type_at parts places row items words e f g h =
    h ∙ g ∙ ap (λ (xs : List TypeId). words_at type_at (places_of xs)) e ∙ ap (words_at type_at) f

pub object-requires : goal.object-requires
object-requires c =
    let words = words_are c.args.type_at.now c.in_ok-parts.parts.items c.as_slice.result.now
    (parts_of (row_of c.row-row.result.now)) c.in_ok-words.words.items c.as_slice-2.result.now
    c.as_slice.ensures.value c.in_ok-parts.ensures c.in_ok-words.ensures c.as_slice-2.ensures.value in
    let long : length c.as_slice-2.result.now ≡ length (parts_of (row_of c.row-row.result.now)) =
    ap (λ (xs : List ℕ). length xs) words
    ∙ length-map (parts_of (row_of c.row-row.result.now)) (λ place. slice_index c.args.type_at.now place) in
    let few = few_parts (row_of c.row-row.result.now)
    (c.len.ensures.table.widths c.args.t.0 (row_of c.row-row.result.now) c.row-row.ensures) in
    omega (arith, long, few)

pub returns : goal.returns
returns c =
    let words = words_are c.args.type_at.now c.in_ok-parts.parts.items c.as_slice.result.now
    (parts_of (row_of c.row-row.result.now)) c.in_ok-words.words.items c.as_slice-2.result.now
    c.as_slice.ensures.value c.in_ok-parts.ensures c.in_ok-words.ensures c.as_slice-2.ensures.value in
    subst (λ x. IfOk c.object.result (λ (o : List ℕ). o ≡ x))
    (object_of_row c.args.types.now c.args.type_at.now c.args.t.0 c.height.result (row_of c.row-row.result.now)
    c.type_kind.result c.as_slice-2.result.now
    (row_is c.args.types.now c.args.t.0 (row_of c.row-row.result.now) c.row-row.ensures) c.type_kind.ensures
    c.height.ensures words) c.object.ensures
