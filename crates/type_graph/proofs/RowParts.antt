-- The parts of a type: they are in the table, and lower than the type.
use Rattle.std.proofs.Common.{◌≡◌, ℕ, ◌<◌, ◌≤◌, List, [], ◌∷◌, length, get_or, Some, ap, ◌∙◌, arith}
use Rattle.std.specs.Prelude.{All}
use Rattle.std.proofs.lemmas.List.Elements.{All-head}
use Rattle.grift_base.specs.declared.places.TypeId.{TypeId}
use Rattle.grift_base.specs.Types.{TypeRows, TypeRow, FunRow, TupleRow, RefRow, VectRow, row_at, parts_of}
use Rattle.type_graph.specs.Rows.{places_of, row_of}
use Rattle.type_graph.specs.declared.rows.Row.{Row}
use Rattle.type_graph.specs.declared.rows.Row.TheVariants.{Fun, Tuple, Ref, Vect}
use Rattle.type_graph.specs.Trees.{AreFinite, above_all, height}
use Rattle.type_graph.proofs.TreeLemmas.{parts_within, parts_lower}
use Rattle.type_graph.proofs.MeasureLemmas.{part_at, part_below_all, above_all-most}
use Rattle.type_graph.proofs.TextLemmas.{fun_parts}

-- stands for an element where there is none
abbrev pub nowhere : TypeId
nowhere = record { 0 = 0 }

-- one part of a type
pub record IsPart (types : TypeRows) (type part : ℕ) : Type 0 where
  pub within : part < length types
  pub lower : height types part < height types type

-- several of its parts
pub record AreParts (types : TypeRows) (type : ℕ) (parts : List ℕ) : Type 0 where
  pub within : All (λ part. part < length types) parts
  pub lower : above_all (height types) parts ≤ height types type

module _ (types : TypeRows) (finite : AreFinite types) (a : ℕ) where
  some_parts : (parts : List ℕ) → All (λ part. part < length types) parts →
      All (λ part. height types part < height types a) parts → AreParts types a parts
  some_parts parts within lower = record {
    within = within;
    lower = above_all-most (height types) (height types a) parts lower;
  }

  pub row_parts_are : (row : TypeRow) → row_at types a ≡ Some row → AreParts types a (parts_of row)
  row_parts_are row at =
      some_parts (parts_of row) (parts_within types a row finite at) (parts_lower types finite a row at)

  -- the same of a row as it is held, form by form

  pub function_parts : {row : Row} {parameters : List TypeId} {answer : TypeId} → row ≡ Fun parameters answer →
      row_at types a ≡ Some (row_of row) → AreParts types a (places_of parameters) × IsPart types a answer.0
  function_parts {row} {parameters} {answer} is at =
      let here = at ∙ ap (λ r. Some (row_of r)) is in
      let within = fun_parts (λ part. part < length types) (places_of parameters) answer.0
      (parts_within types a (FunRow (places_of parameters) answer.0) finite here) in
      let lower = fun_parts (λ part. height types part < height types a) (places_of parameters) answer.0
      (parts_lower types finite a (FunRow (places_of parameters) answer.0) here) in
      (some_parts (places_of parameters) within.0 lower.0, record { within = within.1; lower = lower.1 })

  pub tuple_parts : {row : Row} {parts : List TypeId} → row ≡ Tuple parts → row_at types a ≡ Some (row_of row) →
      AreParts types a (places_of parts)
  tuple_parts {row} {parts} is at = row_parts_are (TupleRow (places_of parts)) (at ∙ ap (λ r. Some (row_of r)) is)

  only_part : (content : ℕ) → All (λ part. part < length types) (content ∷ []) →
      All (λ part. height types part < height types a) (content ∷ []) → IsPart types a content
  only_part content within lower = record {
    within = All-head (λ part. part < length types) content [] within;
    lower = All-head (λ part. height types part < height types a) content [] lower;
  }

  pub reference_part : {row : Row} {content : TypeId} → row ≡ Ref content → row_at types a ≡ Some (row_of row) →
      IsPart types a content.0
  reference_part {row} {content} is at =
      let here = at ∙ ap (λ r. Some (row_of r)) is in
      only_part content.0 (parts_within types a (RefRow content.0) finite here)
      (parts_lower types finite a (RefRow content.0) here)

  pub vector_part : {row : Row} {content : TypeId} → row ≡ Vect content → row_at types a ≡ Some (row_of row) →
      IsPart types a content.0
  vector_part {row} {content} is at =
      let here = at ∙ ap (λ r. Some (row_of r)) is in
      only_part content.0 (parts_within types a (VectRow content.0) finite here)
      (parts_lower types finite a (VectRow content.0) here)

-- ---- parts that are gone through by their places

-- a type of these
pub record IsAmong (types : TypeRows) (parts : List TypeId) (part : TypeId) : Type 0 where
  pub within : part.0 < length types
  pub lower : height types part.0 < above_all (height types) (places_of parts)

pub among : (types : TypeRows) (parts : List TypeId) (k : ℕ) → k < length parts →
    All (λ part. part < length types) (places_of parts) → IsAmong types parts (get_or parts k nowhere)
among types parts k place within = record {
  within = part_at (λ part. part < length types) parts k nowhere place within;
  lower = part_below_all (height types) parts k nowhere place;
}

-- of two lists of one length
pub pair_among : (types : TypeRows) (parts others : List TypeId) → length parts ≡ length others → (k : ℕ) →
    k < length parts → All (λ part. part < length types) (places_of parts) →
    All (λ part. part < length types) (places_of others) →
    IsAmong types parts (get_or parts k nowhere) × IsAmong types others (get_or others k nowhere)
pair_among types parts others same k place one two =
    (among types parts k place one, among types others k (omega arith) two)
