-- The code of cast: word 0 is a value, word 1 a coercion; and of project. Which words objects have stands in
-- `Words.antt` of object_layout.
use Rattle.std.specs.Prelude.{ℕ, [], ◌∷◌}
use Rattle.machine_words.specs.declared.conditions.Cond.TheVariants.{Eq, Ltu}
use Rattle.object_layout.specs.declared.kinds.Kind.TheVariants.{Proxy, Dyn, Fail, Inject, Project, DynType, TupleType}
use Rattle.object_layout.specs.Kinds.{kind_number}
use Rattle.low_ir.specs.declared.code.LowSource.TheVariants.{Word, Number}
use Rattle.low_ir.specs.declared.code.WordOp.TheVariants.{Add, Sub, And, Sll, Srl, Sra}
use Rattle.low_ir.specs.Procedures.{Code, Compute, Load, Build, Call, Return, TailCall}
use Rattle.coercion_norm.specs.ObjectsOfRows.{header}
use Rattle.object_layout.specs.Words.{kind_mask, count_shift, type_over_tag, tag_shift, tag_mask, word_shift}
use Rattle.low_ir.specs.Codes.{either, blame_code}
use Rattle.rt_cast.specs.ComposeCodes.{coerce, compose, cast, project}

-- ---- a value in Dyn: word 8 is the address of the type that it keeps, word 9 the value, and word 6 the kind of the
-- type

abbrev pub dyn_object : Code
dyn_object = Build 7 (Number (header (kind_number Dyn) 0 2) ∷ Word 8 ∷ Word 9 ∷ []) (Return (Word 7))

-- an integer, a truth value or unit stands behind its tag, where its four upper bits are alike
abbrev pub dyn_base : Code
dyn_base =
    Compute Sll 7 (Word 9) (Number tag_shift) (
    Compute Sra 5 (Word 7) (Number tag_shift) (
    either Eq (Word 5) (Word 9) (
    Compute Sub 6 (Word 6) (Number type_over_tag) (
    Compute Add 7 (Word 7) (Word 6) (Return (Word 7)))) dyn_object))

-- the kinds of types whose values have a tag come before that of Dyn
abbrev pub into_dyn : Code
into_dyn = either Ltu (Word 6) (Number (kind_number DynType)) dyn_base dyn_object

-- the kind of the type first
abbrev pub read_kind : Code → Code
read_kind rest = Load 6 (Word 8) 0 (Compute And 6 (Word 6) (Number kind_mask) rest)

-- project blames the label that it is handed
abbrev pub project_blame : Code
project_blame = blame_code (Word 3)

module _ (first : ℕ) where
  -- what stands before, and then a Dyn
  abbrev pub cast_inject : Code
  cast_inject =
      Load 4 (Word 1) 8 (
      Call 9 (cast first) (Word 0 ∷ Word 4 ∷ []) (
      Load 8 (Word 1) 16 (read_kind into_dyn)))

  -- what stands behind a tag goes on as it is where the tag is that of the wanted type, and else the label is blamed
  abbrev pub project_small : Code
  project_small =
      Load 5 (Word 1) 8 (
      Load 5 (Word 5) 0 (
      Compute And 5 (Word 5) (Number kind_mask) (
      Compute Add 4 (Word 4) (Number type_over_tag) (
      either Eq (Word 4) (Word 5) (
      Compute Sra 5 (Word 0) (Number tag_shift) (
      Load 9 (Word 1) 24 (
      TailCall (cast first) (Word 5 ∷ Word 9 ∷ [])))) (
      Load 7 (Word 1) 16 (blame_code (Word 7)))))))

  -- what is in the Dyn's object, by the cast between both types and what stands behind
  abbrev pub project_object : Code
  project_object =
      Load 4 (Word 0) 8 (
      Load 5 (Word 0) 16 (
      Load 6 (Word 1) 8 (
      Load 7 (Word 1) 16 (
      Call 8 (coerce first) (Word 4 ∷ Word 6 ∷ Word 7 ∷ []) (
      Load 9 (Word 1) 24 (
      Call 8 (compose first) (Word 8 ∷ Word 9 ∷ []) (
      TailCall (cast first) (Word 5 ∷ Word 8 ∷ []))))))))

  abbrev pub cast_project : Code
  cast_project =
      Compute And 4 (Word 0) (Number tag_mask) (either Eq (Word 4) (Number 0) project_object project_small)

  -- a proxy: what it stands on, by both coercions as one
  abbrev pub cast_proxy : Code
  cast_proxy =
      Load 6 (Word 0) 16 (
      Call 6 (compose first) (Word 6 ∷ Word 1 ∷ []) (
      Load 7 (Word 0) 8 (
      either Eq (Word 6) (Number 0) (Return (Word 7)) (
      Build 8 (Number (header (kind_number Proxy) 0 2) ∷ Word 7 ∷ Word 6 ∷ []) (Return (Word 8))))))

  abbrev pub cast_middle : Code
  cast_middle =
      Load 4 (Word 0) 0 (
      Compute And 5 (Word 4) (Number kind_mask) (
      either Eq (Word 5) (Number (kind_number Proxy)) cast_proxy (
      Build 8 (Number (header (kind_number Proxy) 0 2) ∷ Word 0 ∷ Word 1 ∷ []) (Return (Word 8)))))

  -- with the kind of the coercion
  abbrev pub cast_kinds : Code
  cast_kinds =
      either Eq (Word 3) (Number (kind_number Fail)) (
      Load 4 (Word 1) 8 (blame_code (Word 4))
      ) (
      either Eq (Word 3) (Number (kind_number Inject)) cast_inject (
      either Eq (Word 3) (Number (kind_number Project)) cast_project cast_middle))

  abbrev pub cast_code : Code
  cast_code =
      either Eq (Word 1) (Number 0) (Return (Word 0)) (
      Load 2 (Word 1) 0 (
      Compute And 3 (Word 2) (Number kind_mask) cast_kinds))

  -- ---- project: word 0 is a value, word 1 the number of a part, word 2 tells whether the value is a Dyn, by 0, or a
  -- tuple, by 1, and word 3 is a label

  -- the part of what is in the Dyn, in a Dyn that keeps the part's type, unless that is Dyn
  abbrev pub project_dyn_part : Code
  project_dyn_part =
      Compute Sll 8 (Word 1) (Number word_shift) (
      Compute Add 8 (Word 8) (Word 4) (
      Load 8 (Word 8) 8 (
      Call 9 (project first) (Word 5 ∷ Word 1 ∷ Number 1 ∷ Word 3 ∷ []) (
      read_kind (either Eq (Word 6) (Number (kind_number DynType)) (Return (Word 9)) into_dyn)))))

  -- of the Dyn's object
  abbrev pub project_dyn_object : Code
  project_dyn_object =
      Load 4 (Word 0) 8 (
      Load 5 (Word 0) 16 (
      Load 6 (Word 4) 0 (
      Compute And 7 (Word 6) (Number kind_mask) (
      Compute Srl 6 (Word 6) (Number count_shift) (
      either Eq (Word 7) (Number (kind_number TupleType)) (
      either Ltu (Word 1) (Word 6) project_dyn_part project_blame
      ) project_blame)))))

  -- what stands behind a tag is no tuple
  abbrev pub project_dyn : Code
  project_dyn =
      Compute And 4 (Word 0) (Number tag_mask) (either Eq (Word 4) (Number 0) project_dyn_object project_blame)

  -- the part of what the proxy stands on, by the part of its coercion
  abbrev pub project_proxy : Code
  project_proxy =
      Load 8 (Word 0) 8 (
      Compute Add 8 (Word 8) (Word 6) (
      Load 8 (Word 8) 8 (
      Load 9 (Word 0) 16 (
      Compute Add 9 (Word 9) (Word 6) (
      Load 9 (Word 9) 8 (
      TailCall (cast first) (Word 8 ∷ Word 9 ∷ [])))))))

  abbrev pub project_tuple : Code
  project_tuple =
      Compute Sll 6 (Word 1) (Number word_shift) (
      Load 7 (Word 0) 0 (
      Compute And 7 (Word 7) (Number kind_mask) (
      either Eq (Word 7) (Number (kind_number Proxy)) project_proxy (
      Compute Add 8 (Word 0) (Word 6) (
      Load 8 (Word 8) 8 (Return (Word 8)))))))

  abbrev pub project_code : Code
  project_code = either Eq (Word 2) (Number 0) project_dyn project_tuple
