-- Runs of the procedures that are computed.
use Rattle.std.proofs.Common.{◌≡◌, ℕ, List, [], ◌∷◌, Some, refl}
use Rattle.std.specs.Prelude.{pos}
use Rattle.grift_base.specs.World.{WorldState}
use Rattle.grift_base.specs.declared.verdicts.AnswerKind.TheVariants.{Int as IntKind}
use Rattle.grift_base.specs.declared.verdicts.Verdict.TheVariants.{Answer}
use Rattle.run_laws.specs.Runs.{Ending, Verdict}
use Rattle.run_laws.specs.Machines.{run}
use Rattle.machine_words.specs.Memory.{Memory, load_bytes, store_bytes}
use Rattle.machine_words.specs.Halts.{Halt, Ended}
use Rattle.low_ir.specs.declared.code.LowSource.TheVariants.{Word, Number}
use Rattle.low_ir.specs.Procedures.{Code, Load, Call, Return}
use Rattle.low_ir.specs.Steps.{no_locals, store_words}
use Rattle.low_ir.specs.Run.{Setting, LowState, low_machine}
use Rattle.rt_cast.specs.Costs.{coerce_words}
use Rattle.rt_cast.specs.Procs.{cast_procs}

stops : Halt → Ending Halt
stops h = Verdict h

-- Int, Bool, Dyn, (Ref Int), (Ref Dyn), (Tuple Dyn Dyn), (Tuple Int Int)
statics : List ℕ
statics =
    16 ∷ 17 ∷ 19 ∷ 4295032854 ∷ 65536 ∷ 4295032854 ∷ 65552 ∷ 8590000149 ∷ 65552 ∷ 65552 ∷ 8590000149 ∷ 65536 ∷ 65536
    ∷ []

memory : Memory
unfolding statics
memory = store_words statics 65536 (λ i. 0)

setting : Setting
setting = record { procs = cast_procs 0; address = λ k. 0; labels = []; region = 65656; top = 70000 }

start : WorldState → Code → LowState
unfolding memory
start world code = record {
  active = record { count = 10; locals = no_locals; code = code; rests = [] };
  waiting = [];
  memory = memory;
  alloc = 65656;
  world = world;
  words = 0;
}

-- a run that ends with this word
abbrev Answers : WorldState → Code → ℕ → ℕ → Type 0
Answers world code steps word =
    (run (low_machine stops setting) (start world code) steps).ending
    ≡ Some (Verdict (Ended (Answer (record { kind = IntKind; word = pos word }))))

-- casts there and back, composed
abbrev there_and_back : ℕ → ℕ → ℕ → Code → Code
there_and_back from to other rest =
    Call 0 0 (Number from ∷ Number to ∷ Number 1 ∷ []) (
    Call 1 0 (Number to ∷ Number other ∷ Number 2 ∷ []) (
    Call 2 1 (Word 0 ∷ Word 1 ∷ []) rest))

-- Int to Dyn to Int is Id
through_dyn : (world : WorldState) → Answers world (there_and_back 65536 65552 65536 (Return (Word 2))) 200 0
unfolding stops setting start load_bytes store_bytes statics
through_dyn world = refl

-- Int to Dyn to Bool is Fail with the second label
fails : (world : WorldState) → Answers world (there_and_back 65536 65552 65544 (Load 3 (Word 2) 8 (Return (Word 3))))
    200
    2
unfolding stops setting start load_bytes store_bytes statics
fails world = refl

-- (Ref Int) to (Ref Dyn) to (Ref Int) is Id
references : (world : WorldState) → Answers world (there_and_back 65560 65576 65560 (Return (Word 2))) 800 0
unfolding stops setting start load_bytes store_bytes statics
references world = refl

-- an object that is no proxy, cast as a reference to an integer to one to Dyn, and then back, is that object alone
cast_back : (world : WorldState) → Answers world (
    Call 0 0 (Number 65560 ∷ Number 65576 ∷ Number 1 ∷ []) (
    Call 1 0 (Number 65576 ∷ Number 65560 ∷ Number 2 ∷ []) (
    Call 2 2 (Number 65560 ∷ Word 0 ∷ []) (
    Call 2 2 (Word 2 ∷ Word 1 ∷ []) (Return (Word 2)))))) 800 65560
unfolding stops setting start load_bytes store_bytes statics
cast_back world = refl

-- the coercion of a pair of Dyn to a pair of integers takes just the words that its bound has
pair_taken : (world : WorldState)
    → (run (low_machine stops setting) (start world (Call 0 0 (Number 65592 ∷ Number 65616 ∷ Number 1 ∷ []) (Return
    (Word 0)))) 300).shown.words ≡ coerce_words 2 1
unfolding stops setting start load_bytes store_bytes statics
pair_taken world = refl
