-- What the procedures share: heights of objects, and middles that are made part by part.
use Rattle.std.specs.Prelude.{ℕ, zero, suc, ◌+◌, ◌*◌, List, [], ◌∷◌}
use Rattle.machine_words.specs.declared.conditions.Cond.TheVariants.{Eq, Ltu}
use Rattle.object_layout.specs.declared.kinds.Kind.TheVariants.{Fun, Tup, Project}
use Rattle.object_layout.specs.Kinds.{kind_number}
use Rattle.low_ir.specs.declared.code.LowSource.{LowSource}
use Rattle.low_ir.specs.declared.code.LowSource.TheVariants.{Word, Number}
use Rattle.low_ir.specs.declared.code.WordOp.TheVariants.{Add, And, Sll, Srl, Sltu}
use Rattle.low_ir.specs.Procedures.{Code, Set, Compute, Load, Build, Call, Return, TailCall}
use Rattle.low_ir.specs.Codes.{either, words_from}
use Rattle.object_layout.specs.Words.{kind_mask, height_shift, height_mask, count_unit}

-- the header of an object with the height that a word holds, put into the word
abbrev pub put_header : ℕ → ℕ → Code → Code
put_header d low rest = Compute Sll d (Word d) (Number height_shift) (Compute Add d (Word d) (Number low) rest)

-- words 0 and 1 are a height, and an object or 0: the greater of the height and the object's
abbrev pub raise_code : Code
raise_code =
    either Eq (Word 1) (Number 0) (Return (Word 0)) (
    Load 2 (Word 1) 0 (
    Compute Srl 2 (Word 2) (Number height_shift) (
    Compute And 2 (Word 2) (Number height_mask) (
    either Ltu (Word 0) (Word 2) (Return (Word 2)) (Return (Word 0))))))

-- word 0 is a coercion: what may stand behind a Project, which is 0 for a Project
abbrev pub final_code : Code
final_code =
    either Eq (Word 0) (Number 0) (Return (Word 0)) (
    Load 1 (Word 0) 0 (
    Compute And 1 (Word 1) (Number kind_mask) (
    either Eq (Word 1) (Number (kind_number Project)) (Return (Number 0)) (Return (Word 0)))))

-- ---- a middle whose parts come from two objects, part by part: words 0 and 1 are the objects, word 2 is the kind,
-- word 3 how many parts one that is told in full has, word 4 a label; word 5 is the height so far, word 6 how many
-- parts so far are not Id, and the parts stand from word 16 on

-- the object of so many parts, or 0 where all are Id
abbrev pub finish_code : ℕ → Code
finish_code total =
    either Eq (Word 6) (Number 0) (Return (Number 0)) (
    Compute Add 5 (Word 5) (Number 1) (
    Compute Sll 5 (Word 5) (Number height_shift) (
    Compute Add 5 (Word 5) (Word 2) (
    Compute Add 5 (Word 5) (Number (total * count_unit)) (
    Build 7 (Word 5 ∷ words_from total 16) (Return (Word 7)))))))

-- told the procedures of a height and of a part, where part k stands in an object, and how many parts there are
module _ (raise part : ℕ) (offset : ℕ → ℕ) (total : ℕ) where
  -- part k, and what is done behind it
  abbrev pub part_step : ℕ → Code → Code
  part_step k rest =
      Load 8 (Word 0) (offset k) (
      Load 9 (Word 1) (offset k) (
      Call (16 + k) part (Word 2 ∷ Word 3 ∷ Number (suc k) ∷ Word 8 ∷ Word 9 ∷ Word 4 ∷ []) (
      Call 5 raise (Word 5 ∷ Word (16 + k) ∷ []) (
      Compute Sltu 10 (Number 0) (Word (16 + k)) (
      Compute Add 6 (Word 6) (Word 10) rest)))))

  -- so many parts from k on
  abbrev pub parts_code : ℕ → ℕ → Code
  parts_code zero k = finish_code total
  parts_code (suc j) k = part_step k (parts_code j (suc k))

  abbrev pub middle_code : Code
  middle_code = Set 5 (Number 0) (Set 6 (Number 0) (parts_code total 0))

-- where part k stands in an object, where the parts lie so many bytes apart
abbrev pub apart : ℕ → ℕ → ℕ
apart step k = 8 + step * k

-- part k is word k behind the header
abbrev pub each_word : ℕ → ℕ
each_word = apart 8

-- each part is the word behind the header
abbrev pub first_word : ℕ → ℕ
first_word = apart 0

-- words 0 to 2 are the kind, how many parts there are and the part's number from one: goes on with one code, or, for a
-- part that runs backwards, with the other
abbrev pub part_turns : Code → Code → Code
part_turns on back =
    either Eq (Word 0) (Number (kind_number Tup)) on (
    either Eq (Word 0) (Number (kind_number Fun)) (either Eq (Word 1) (Word 2) on back) (
    either Eq (Word 1) (Word 2) back on))

-- words 3 and 4 are what the part comes from: both go on in their order, or turned round
abbrev pub part_code : (LowSource → LowSource → Code) → Code
part_code go = part_turns (go (Word 3) (Word 4)) (go (Word 4) (Word 3))

-- the procedure for so many parts as a word says, from so many down
abbrev pub pick : ℕ → ℕ → (ℕ → ℕ) → List LowSource → Code
pick w zero which args = TailCall (which 0) args
pick w (suc r) which args =
    either Eq (Word w) (Number (suc r)) (TailCall (which (suc r)) args) (pick w r which args)
