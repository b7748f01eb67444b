-- The code of coerce: words 0 and 1 are the addresses of two types, word 2 is a label.
use Rattle.std.specs.Prelude.{ℕ, [], ◌∷◌}
use Rattle.machine_words.specs.declared.conditions.Cond.TheVariants.{Eq, Ltu}
use Rattle.object_layout.specs.declared.kinds.Kind.TheVariants.{Fail, Ref, Inject, Project, DynType, FunType}
use Rattle.object_layout.specs.Kinds.{kind_number}
use Rattle.low_ir.specs.declared.code.LowSource.TheVariants.{Word, Number}
use Rattle.low_ir.specs.declared.code.WordOp.TheVariants.{And, Sub, Srl}
use Rattle.low_ir.specs.Procedures.{Code, Compute, Load, Build, Call, Return, TailCall}
use Rattle.coercion_norm.specs.ObjectsOfRows.{header}
use Rattle.object_layout.specs.Words.{kind_mask, count_shift, type_over_middle}
use Rattle.rt_cast.specs.PartCodes.{put_header, pick}
use Rattle.low_ir.specs.Codes.{either}
use Rattle.rt_cast.specs.ComposeCodes.{raise, pair, coerce_of}

-- a Fail with the label
abbrev pub coerce_fail : Code
coerce_fail = Build 10 (Number (header (kind_number Fail) 0 1) ∷ Word 2 ∷ []) (Return (Word 10))

module _ (first : ℕ) where
  -- Of one head: the kinds of types without parts come before that of functions. The kind of the middle is found from
  -- that of the types; functions and tuples come before references, whose middles have two parts.
  abbrev pub coerce_alike : Code
  coerce_alike =
      either Ltu (Word 4) (Number (kind_number FunType)) (Return (Number 0)) (
      Compute Sub 9 (Word 4) (Number type_over_middle) (
      either Ltu (Word 9) (Number (kind_number Ref)) (
      pick 7 8 (coerce_of first) (Word 0 ∷ Word 1 ∷ Word 9 ∷ Word 7 ∷ Word 2 ∷ [])
      ) (
      TailCall (pair first) (Word 0 ∷ Word 1 ∷ Word 9 ∷ Number 2 ∷ Word 2 ∷ []))))

  abbrev pub coerce_heads : Code
  coerce_heads =
      Compute Srl 7 (Word 3) (Number count_shift) (
      Compute Srl 8 (Word 5) (Number count_shift) (
      either Eq (Word 4) (Word 6) (either Eq (Word 7) (Word 8) coerce_alike coerce_fail) coerce_fail))

  abbrev pub coerce_from_dyn : Code
  coerce_from_dyn =
      Call 9 (raise first) (Number 0 ∷ Word 1 ∷ []) (
      put_header 9 (header (kind_number Project) 0 3) (
      Build 10 (Word 9 ∷ Word 1 ∷ Word 2 ∷ Number 0 ∷ []) (Return (Word 10))))

  abbrev pub coerce_to_dyn : Code
  coerce_to_dyn =
      Call 9 (raise first) (Number 0 ∷ Word 0 ∷ []) (
      put_header 9 (header (kind_number Inject) 0 2) (
      Build 10 (Word 9 ∷ Number 0 ∷ Word 0 ∷ []) (Return (Word 10))))

  -- with the kinds of both types
  abbrev pub coerce_kinds : Code
  coerce_kinds =
      either Eq (Word 4) (Number (kind_number DynType)) coerce_from_dyn (
      either Eq (Word 6) (Number (kind_number DynType)) coerce_to_dyn coerce_heads)

  abbrev pub coerce_code : Code
  coerce_code =
      either Eq (Word 0) (Word 1) (Return (Number 0)) (
      Load 3 (Word 0) 0 (
      Compute And 4 (Word 3) (Number kind_mask) (
      Load 5 (Word 1) 0 (
      Compute And 6 (Word 5) (Number kind_mask) coerce_kinds))))
