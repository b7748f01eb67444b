-- The numbers of the procedures, and the code of compose: words 0 and 1 are two coercions. Which words objects have
-- stands in `Words.antt` of object_layout.
use Rattle.std.specs.Prelude.{ℕ, ◌+◌, [], ◌∷◌}
use Rattle.machine_words.specs.declared.conditions.Cond.TheVariants.{Eq, Ltu}
use Rattle.object_layout.specs.declared.kinds.Kind.TheVariants.{Fail, Inject, Project}
use Rattle.object_layout.specs.Kinds.{kind_number}
use Rattle.low_ir.specs.declared.code.LowSource.TheVariants.{Word, Number}
use Rattle.low_ir.specs.declared.code.WordOp.TheVariants.{And, Srl}
use Rattle.low_ir.specs.Procedures.{Code, Compute, Load, Build, Call, Return, TailCall}
use Rattle.coercion_norm.specs.ObjectsOfRows.{header}
use Rattle.object_layout.specs.Words.{kind_mask, count_shift}
use Rattle.rt_cast.specs.PartCodes.{put_header, pick}
use Rattle.low_ir.specs.Codes.{either}

-- Which place a procedure has among all of them; its number is the place behind the first number.
abbrev pub coerce_place : ℕ
coerce_place = 0

abbrev pub compose_place : ℕ
compose_place = 1

abbrev pub cast_place : ℕ
cast_place = 2

abbrev pub project_place : ℕ
project_place = 3

abbrev pub part_place : ℕ
part_place = 4

abbrev pub raise_place : ℕ
raise_place = 5

abbrev pub final_place : ℕ
final_place = 6

abbrev pub coerce_part_place : ℕ
coerce_part_place = 7

abbrev pub pair_place : ℕ
pair_place = 8

-- the composition of so many parts
abbrev pub middle_place : ℕ → ℕ
middle_place r = 9 + r

-- a cast's coercion of so many parts
abbrev pub coerce_middle_place : ℕ → ℕ
coerce_middle_place r = 18 + r

module _ (first : ℕ) where
  abbrev pub coerce : ℕ
  coerce = coerce_place + first

  abbrev pub compose : ℕ
  compose = compose_place + first

  abbrev pub cast : ℕ
  cast = cast_place + first

  abbrev pub project : ℕ
  project = project_place + first

  -- one part of a composition
  abbrev pub part : ℕ
  part = part_place + first

  abbrev pub raise : ℕ
  raise = raise_place + first

  abbrev pub final : ℕ
  final = final_place + first

  -- one part of a cast's coercion
  abbrev pub coerce_part : ℕ
  coerce_part = coerce_part_place + first

  -- read and write of a reference or a vector
  abbrev pub pair : ℕ
  pair = pair_place + first

  -- the composition of so many parts
  abbrev pub middle_of : ℕ → ℕ
  middle_of r = middle_place r + first

  -- a cast's coercion of so many parts
  abbrev pub coerce_of : ℕ → ℕ
  coerce_of r = coerce_middle_place r + first

  -- ---- compose

  -- a Project first
  abbrev pub compose_project : Code
  compose_project =
      Load 6 (Word 0) 24 (
      Call 6 compose (Word 6 ∷ Word 1 ∷ []) (
      Call 6 final (Word 6 ∷ []) (
      Load 7 (Word 0) 8 (
      Load 8 (Word 0) 16 (
      Call 9 raise (Number 0 ∷ Word 7 ∷ []) (
      Call 9 raise (Word 9 ∷ Word 6 ∷ []) (
      put_header 9 (header (kind_number Project) 0 3) (
      Build 10 (Word 9 ∷ Word 7 ∷ Word 8 ∷ Word 6 ∷ []) (Return (Word 10))))))))))

  -- an Inject first: where a Project follows, what stands before, the cast between the two types, and what stands
  -- behind
  abbrev pub compose_inject : Code
  compose_inject =
      either Eq (Word 5) (Number (kind_number Project)) (
      Load 6 (Word 0) 16 (
      Load 7 (Word 1) 8 (
      Load 8 (Word 1) 16 (
      Call 9 coerce (Word 6 ∷ Word 7 ∷ Word 8 ∷ []) (
      Load 10 (Word 1) 24 (
      Call 9 compose (Word 9 ∷ Word 10 ∷ []) (
      Load 11 (Word 0) 8 (
      TailCall compose (Word 11 ∷ Word 9 ∷ []))))))))
      ) (Return (Number 0))

  -- a middle before an Inject
  abbrev pub compose_onto : Code
  compose_onto =
      Load 6 (Word 1) 8 (
      Call 6 compose (Word 0 ∷ Word 6 ∷ []) (
      Load 7 (Word 1) 16 (
      Call 9 raise (Number 0 ∷ Word 6 ∷ []) (
      Call 9 raise (Word 9 ∷ Word 7 ∷ []) (
      put_header 9 (header (kind_number Inject) 0 2) (
      Build 10 (Word 9 ∷ Word 6 ∷ Word 7 ∷ []) (Return (Word 10))))))))

  -- two middles of one kind
  abbrev pub compose_both : Code
  compose_both =
      Compute Srl 6 (Word 2) (Number count_shift) (
      Compute Srl 7 (Word 4) (Number count_shift) (
      either Ltu (Word 6) (Word 7) (
      pick 6 8 middle_of (Word 0 ∷ Word 1 ∷ Word 3 ∷ Word 6 ∷ Number 0 ∷ [])
      ) (
      pick 7 8 middle_of (Word 0 ∷ Word 1 ∷ Word 3 ∷ Word 6 ∷ Number 0 ∷ []))))

  abbrev pub compose_middle : Code
  compose_middle =
      either Eq (Word 5) (Number (kind_number Inject)) compose_onto (
      either Eq (Word 3) (Word 5) compose_both (Return (Number 0)))

  -- with the kinds of both
  abbrev pub compose_third : Code
  compose_third =
      either Eq (Word 5) (Number (kind_number Fail)) (Return (Word 1)) (
      either Eq (Word 3) (Number (kind_number Inject)) compose_inject compose_middle)

  abbrev pub compose_second : Code
  compose_second =
      either Eq (Word 1) (Number 0) (Return (Word 0)) (
      Load 4 (Word 1) 0 (
      Compute And 5 (Word 4) (Number kind_mask) compose_third))

  -- with the kind of the first
  abbrev pub compose_first : Code
  compose_first =
      either Eq (Word 3) (Number (kind_number Project)) compose_project (
      either Eq (Word 3) (Number (kind_number Fail)) (Return (Word 0)) compose_second)

  abbrev pub compose_code : Code
  compose_code =
      either Eq (Word 0) (Number 0) (Return (Word 1)) (
      Load 2 (Word 0) 0 (
      Compute And 3 (Word 2) (Number kind_mask) compose_first))
