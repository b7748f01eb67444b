-- The procedures of the scheme in which casts of boxes pile up. They are numbered without gaps.
use Rattle.std.specs.Prelude.{ℕ, ◌+◌, List, [], ◌∷◌}
use Rattle.grift_base.specs.declared.verdicts.Trap.TheVariants.{Index}
use Rattle.machine_words.specs.declared.conditions.Cond.TheVariants.{Eq, Ltu}
use Rattle.low_ir.specs.declared.code.LowSource.TheVariants.{Word, Number}
use Rattle.low_ir.specs.declared.code.WordOp.TheVariants.{Add, And, Sll, Srl, Sub}
use Rattle.low_ir.specs.Procedures.{Code, Set, Compute, Load, Store, Build, Return, TailCall, Proc}
use Rattle.low_ir.specs.Codes.{proc, either, blame_code, trap_code}
use Rattle.object_layout.specs.Words.{kind_mask, count_shift, word_shift}
use Rattle.rt_refs.specs.CellCodes.{asks_box, asks_length}
use Rattle.rt_refs.specs.FillCodes.{fill_loop, fill_proc}
use Rattle.rt_refs.specs.Quotients.{arithmetic_procs}
use Rattle.lowered_code.specs.declared.served.Served.{Served}
use Rattle.lower.specs.Sets.{numbered_from}
use Rattle.piled_scheme.specs.Piling.{wrapper_kind, wrapper_header}

-- word 3 is one more than the label that is blamed
abbrev pub blame_part : Code
blame_part = Compute Sub 3 (Word 3) (Number 1) (blame_code (Word 3))

-- Takes a word, and that of a cast, whose lowest bit says whether it wraps. What stands above that is what is done with
-- the value, or what its wrapper does with what is read and written.
abbrev pub cast_code : Code
cast_code =
    Compute And 2 (Word 1) (Number 1) (
    Compute Srl 3 (Word 1) (Number 1) (
    either Eq (Word 2) (Number 1)
    (Build 4 (Number wrapper_header ∷ Word 0 ∷ Word 3 ∷ []) (Return (Word 4))) (
    either Eq (Word 3) (Number 0) (Return (Word 0)) blame_part)))

abbrev pub cast_proc : Proc
cast_proc = proc 2 6 cast_code

-- no tuple and no function is wrapped, and nothing is in Dyn, so these two are never called
abbrev pub idle_proc : ℕ → Proc
idle_proc params = proc params 8 (Return (Number 0))

-- word 2 is the kind of the object in word 0
abbrev pub look : Code → Code
look rest = Load 2 (Word 0) 0 (Compute And 2 (Word 2) (Number kind_mask) rest)

module _ (own : ℕ) where
  -- Reads a box through its wrappers. Word 1 is what the innermost wrapper so far that doesn't keep what is read does
  -- with it, and 0 where all keep it.
  abbrev pub unbox_code : Code
  unbox_code =
      look (
      either Eq (Word 2) (Number wrapper_kind)
      (Load 3 (Word 0) 16 (
      Load 0 (Word 0) 8 (
      either Eq (Word 3) (Number 0) (TailCall own (Word 0 ∷ Word 1 ∷ [])) (TailCall own (Word 0 ∷ Word 3 ∷ []))))) (
      either Eq (Word 1) (Number 0) (Load 2 (Word 0) 8 (Return (Word 2))) (Set 3 (Word 1) blame_part)))

  abbrev pub unbox_proc : Proc
  unbox_proc = proc 2 6 unbox_code

  -- writes word 1 to a box through its wrappers, of which the outermost one comes first
  abbrev pub set_code : Code
  set_code =
      look (
      either Eq (Word 2) (Number wrapper_kind)
      (Load 3 (Word 0) 16 (
      Load 0 (Word 0) 8 (
      either Eq (Word 3) (Number 0) (TailCall own (Word 0 ∷ Word 1 ∷ [])) blame_part)))
      (Store (Word 1) (Word 0) 8 (Return (Number 0))))

  abbrev pub set_proc : Proc
  set_proc = proc 2 6 set_code

-- Word 4 becomes how many elements the vector in word 1 has. Where word 2 is the index of one of them, word 2 becomes
-- eight bytes below that element's address; any other index traps.
abbrev pub in_vector : Code → Code
in_vector rest =
    Load 4 (Word 1) 0 (
    Compute Srl 4 (Word 4) (Number count_shift) (
    either Ltu (Word 2) (Word 4)
    (Compute Sll 2 (Word 2) (Number word_shift) (Compute Add 2 (Word 2) (Word 1) rest)) (trap_code Index 4 5)))

-- takes what is read (a box, an element or a length), an address and an index
abbrev pub read_proc : ℕ → Proc
read_proc unbox =
    proc 3 6 (
    either Eq (Word 0) (Number asks_box) (TailCall unbox (Word 1 ∷ Number 0 ∷ [])) (
    either Eq (Word 0) (Number asks_length)
    (Load 4 (Word 1) 0 (Compute Srl 4 (Word 4) (Number count_shift) (Return (Word 4))))
    (in_vector (Load 2 (Word 2) 8 (Return (Word 2))))))

-- takes what is written (a box or an element), an address, an index and a word
abbrev pub write_proc : ℕ → Proc
write_proc set =
    proc 4 6 (
    either Eq (Word 0) (Number asks_box) (TailCall set (Word 1 ∷ Word 3 ∷ []))
    (in_vector (Store (Word 3) (Word 2) 8 (Return (Number 0)))))

-- casts, parts, calls, reads, writes and vectors, the loop that makes these, the two that go through wrappers, and
-- products and quotients
abbrev pub piled_procs : ℕ → List Proc
piled_procs first =
    cast_proc ∷ idle_proc 4 ∷ idle_proc 8 ∷ read_proc (7 + first) ∷ write_proc (8 + first) ∷ fill_proc (6 + first)
    ∷ fill_loop (6 + first) ∷ unbox_proc (7 + first) ∷ set_proc (8 + first) ∷ arithmetic_procs (9 + first)

abbrev pub piled_numbers : ℕ → Served
piled_numbers first = numbered_from first (11 + first) (12 + first)
