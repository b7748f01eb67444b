-- Runs of the procedures that are computed.
use Rattle.std.proofs.Common.{◌≡◌, ℕ, ◌+◌, ◌*◌, List, [], ◌∷◌, ◌++◌, Some, refl}
use Rattle.std.specs.Prelude.{pos}
use Rattle.grift_base.specs.World.{WorldState}
use Rattle.grift_base.specs.EnvironmentCall.{environment_call}
use Rattle.grift_base.specs.declared.places.Pos.{Pos}
use Rattle.grift_base.specs.declared.verdicts.AnswerKind.TheVariants.{Int as IntKind}
use Rattle.grift_base.specs.declared.verdicts.Trap.TheVariants.{Index, Length}
use Rattle.grift_base.specs.declared.verdicts.Verdict.TheVariants.{Answer, Blame, Trap}
use Rattle.run_laws.specs.Runs.{Ending, Verdict}
use Rattle.run_laws.specs.Machines.{run}
use Rattle.machine_words.specs.Memory.{Memory, load_bytes, store_bytes}
use Rattle.machine_words.specs.Halts.{Halt, Ended, Lacks, Region}
use Rattle.low_ir.specs.declared.code.LowSource.TheVariants.{Word, Number}
use Rattle.low_ir.specs.declared.code.WordOp.TheVariants.{Add, Sra}
use Rattle.low_ir.specs.Procedures.{Code, Load, Call, Return, Build, CodeOf, Compute, Proc}
use Rattle.low_ir.specs.Steps.{no_locals, store_words}
use Rattle.low_ir.specs.Run.{Setting, LowState, low_machine}
use Rattle.rt_cast.specs.Procs.{cast_procs}
use Rattle.rt_refs.specs.RefProcs.{ref_procs}

stops : Halt → Ending Halt
stops h = Verdict h

-- Int, Bool, Dyn, (Ref Int), (Ref Dyn), (Int -> Int), (Dyn -> Dyn), (Vect Int), (Vect Dyn)
statics : List ℕ
statics =
    16 ∷ 17 ∷ 19 ∷ 4295032854 ∷ 65536 ∷ 4295032854 ∷ 65552 ∷ 8590000148 ∷ 65536 ∷ 65536 ∷ 8590000148 ∷ 65552 ∷ 65552
    ∷ 4295032855 ∷ 65536 ∷ 4295032855 ∷ 65552 ∷ []

memory : Memory
unfolding statics
memory = store_words statics 65536 (λ i. 0)

-- the function itself and an integer: the next one
next_proc : Proc
next_proc = record { params = 2; words = 3; code = Compute Add 2 (Word 1) (Number 1) (Return (Word 2)) }

label : Pos
label = record { line = 1; col = 1 }

other_label : Pos
other_label = record { line = 2; col = 2 }

-- apply is 27, read 28, write 29, fill 30, and the function 36
setting : Setting
unfolding next_proc
setting = record {
  procs = cast_procs 0 ++ (ref_procs 27 2 ++ next_proc ∷ []);
  address = λ k. 100000 + 8 * k;
  labels = label ∷ other_label ∷ [];
  region = 65672;
  top = 70000;
}

start : WorldState → Code → LowState
unfolding memory
start world code = record {
  active = record { count = 12; locals = no_locals; code = code; rests = [] };
  waiting = [];
  memory = memory;
  alloc = 65672;
  world = world;
  words = 0;
}

-- a run ends so
abbrev EndsAs : WorldState → Code → ℕ → Halt → Type 0
EndsAs world code steps halt = (run (low_machine stops setting) (start world code) steps).ending ≡ Some (Verdict halt)

abbrev Answers : WorldState → Code → ℕ → ℕ → Type 0
Answers world code steps word = EndsAs world code steps (Ended (Answer (record { kind = IntKind; word = pos word })))

-- the function with a proxy in word 3, cast from (Int -> Int) to (Dyn -> Dyn) under the first label
abbrev function_made : Code → Code
function_made rest =
    CodeOf 0 36 (
    Build 1 (Number 4294967297 ∷ Word 0 ∷ []) (
    Call 2 0 (Number 65592 ∷ Number 65616 ∷ Number 0 ∷ []) (
    Call 3 2 (Word 1 ∷ Word 2 ∷ []) rest)))

-- a value of a type in Dyn, in word 5
abbrev in_dyn : ℕ → ℕ → Code → Code
in_dyn type word rest =
    Call 4 0 (Number type ∷ Number 65552 ∷ Number 1 ∷ []) (Call 5 2 (Number word ∷ Word 4 ∷ []) rest)

-- the integer behind the tag in word 6
abbrev out_of_dyn : Code
out_of_dyn = Compute Sra 7 (Word 6) (Number 3) (Return (Word 7))

abbrev applied : Code → Code
applied rest =
    Call 6 27 (Word 3 ∷ Word 5 ∷ Number 0 ∷ Number 0 ∷ Number 0 ∷ Number 0 ∷ Number 0 ∷ Number 1 ∷ []) rest

-- 6 comes from 5
calls_through : (world : WorldState) → Answers world (function_made (in_dyn 65536 5 (applied out_of_dyn))) 900 6
unfolding stops setting start load_bytes store_bytes statics next_proc
calls_through world = refl

-- an argument that is no integer blames the proxy's label
call_blames : (world : WorldState) → EndsAs world (function_made (in_dyn 65544 1 (applied out_of_dyn))) 900
    (Ended (Blame label))
unfolding stops setting start load_bytes store_bytes statics next_proc environment_call
call_blames world = refl

-- a box with 7 in word 1, and with a proxy in word 3, cast from (Ref Int) to (Ref Dyn)
abbrev box_made : Code → Code
box_made rest =
    Build 1 (Number 4294967301 ∷ Number 7 ∷ []) (
    Call 2 0 (Number 65560 ∷ Number 65576 ∷ Number 0 ∷ []) (
    Call 3 2 (Word 1 ∷ Word 2 ∷ []) rest))

box_read : (world : WorldState) → Answers world (box_made (
    Call 6 28 (Number 0 ∷ Word 3 ∷ Number 0 ∷ []) out_of_dyn)) 900 7
unfolding stops setting start load_bytes store_bytes statics next_proc
box_read world = refl

-- the same without the proxy
bare_read : (world : WorldState) → Answers world (box_made (
    Call 6 28 (Number 0 ∷ Word 1 ∷ Number 0 ∷ []) (Return (Word 6)))) 900 7
unfolding stops setting start load_bytes store_bytes statics next_proc
bare_read world = refl

box_written : (world : WorldState) → Answers world (box_made (in_dyn 65536 9 (
    Call 6 29 (Number 0 ∷ Word 3 ∷ Number 0 ∷ Word 5 ∷ []) (Load 7 (Word 1) 8 (Return (Word 7)))))) 900 9
unfolding stops setting start load_bytes store_bytes statics next_proc
box_written world = refl

box_blames : (world : WorldState) → EndsAs world (box_made (in_dyn 65544 1 (
    Call 6 29 (Number 0 ∷ Word 3 ∷ Number 0 ∷ Word 5 ∷ []) (Return (Word 6))))) 900 (Ended (Blame label))
unfolding stops setting start load_bytes store_bytes statics next_proc environment_call
box_blames world = refl

-- a vector of three times 5 in word 1, and with a proxy in word 3, cast from (Vect Int) to (Vect Dyn)
abbrev vector_made : Code → Code
vector_made rest =
    Call 1 30 (Number 3 ∷ Number 5 ∷ []) (
    Call 2 0 (Number 65640 ∷ Number 65656 ∷ Number 0 ∷ []) (
    Call 3 2 (Word 1 ∷ Word 2 ∷ []) rest))

element_read : (world : WorldState) → Answers world (vector_made (
    Call 6 28 (Number 1 ∷ Word 3 ∷ Number 2 ∷ []) out_of_dyn)) 900 5
unfolding stops setting start load_bytes store_bytes statics next_proc
element_read world = refl

length_read : (world : WorldState) → Answers world (vector_made (
    Call 6 28 (Number 2 ∷ Word 3 ∷ Number 0 ∷ []) (Return (Word 6)))) 900 3
unfolding stops setting start load_bytes store_bytes statics next_proc
length_read world = refl

element_written : (world : WorldState) → Answers world (vector_made (in_dyn 65536 9 (
    Call 6 29 (Number 1 ∷ Word 3 ∷ Number 1 ∷ Word 5 ∷ []) (
    Call 6 28 (Number 1 ∷ Word 1 ∷ Number 1 ∷ []) (Return (Word 6)))))) 900 9
unfolding stops setting start load_bytes store_bytes statics next_proc
element_written world = refl

-- an index outside traps, and not the cast
write_traps : (world : WorldState) → EndsAs world (vector_made (in_dyn 65544 1 (
    Call 6 29 (Number 1 ∷ Word 3 ∷ Number 3 ∷ Word 5 ∷ []) (Return (Word 6))))) 900 (Ended (Trap Index))
unfolding stops setting start load_bytes store_bytes statics next_proc environment_call
write_traps world = refl

-- so does one below 0
read_traps : (world : WorldState) → EndsAs world (vector_made (
    Call 6 28 (Number 1 ∷ Word 1 ∷ Number 18446744073709551615 ∷ []) (Return (Word 6)))) 900 (Ended (Trap Index))
unfolding stops setting start load_bytes store_bytes statics next_proc environment_call
read_traps world = refl

length_traps : (world : WorldState) → EndsAs world (
    Call 1 30 (Number 18446744073709551615 ∷ Number 5 ∷ []) (Return (Word 1))) 900 (Ended (Trap Length))
unfolding stops setting start load_bytes store_bytes statics next_proc environment_call
length_traps world = refl

-- the greatest length has no room
no_room : (world : WorldState) → EndsAs world (
    Call 1 30 (Number 9223372036854775807 ∷ Number 5 ∷ []) (Return (Word 1))) 900 (Lacks Region)
unfolding stops setting start load_bytes store_bytes statics next_proc
no_room world = refl

-- none at all
empty_vector : (world : WorldState) → Answers world (
    Call 1 30 (Number 0 ∷ Number 5 ∷ []) (Call 2 28 (Number 2 ∷ Word 1 ∷ Number 0 ∷ []) (Return (Word 2)))) 900 0
unfolding stops setting start load_bytes store_bytes statics next_proc
empty_vector world = refl
