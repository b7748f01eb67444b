-- What a turn and a run of the emulator come to, against the machine's.
use Rattle.std.specs.Prelude.{ℕ, ◌<◌, ◌≤◌, ◌≡◌, Bool, false, Option, Some, None}
use Rattle.grift_base.specs.declared.verdicts.Verdict.TheVariants.{Answer, Blame, Trap}
use Rattle.rv_isa.specs.declared.inst.Inst.{Inst}
use Rattle.rv_isa.specs.declared.inst.Inst.TheVariants.{Sb, Sh, Sw, Sd, Ecall}
use Rattle.rv_isa.specs.Decoding.{decode_of}
use Rattle.machine_words.specs.declared.faults.MachineFault.TheVariants.{Undefined as IsUndefined}
use Rattle.machine_words.specs.declared.faults.MachineFault.TheVariants.{BadAddress as IsBadAddress}
use Rattle.machine_words.specs.declared.faults.MachineFault.TheVariants.{Misaligned as IsMisaligned}
use Rattle.machine_words.specs.Memory.{Memory, load_bytes}
use Rattle.rv_machine.specs.State.{State}
use Rattle.machine_words.specs.Halts.{Region, Stack, Halt, Ended as HasEnded, Lacks, GoesWrong}
use Rattle.rv_machine.specs.State.{Turn, Next, Stops}
use Rattle.rv_machine.specs.Mach.{run_of}
use Rattle.rv_emulator.specs.declared.processor.Processor.{Processor}
use Rattle.rv_emulator.specs.declared.stops.Stop.{Stop}
use Rattle.rv_emulator.specs.declared.stops.Stop.TheVariants.{Ended, Blamed, Trapped, RegionOut, StackOut, StepsSpent}
use Rattle.rv_emulator.specs.declared.stops.Stop.TheVariants.{Undefined, BadAddress, Misaligned, OutOfMemory}
use Rattle.rv_emulator.specs.Consoles.{LacksRoom}
use Rattle.rv_emulator.specs.Processor.{state_of}

-- what a stop tells: the machine has stopped so, all steps are made, or the process has no memory left
pub data Outcome : Type 0 where
  Halts : Halt → Outcome
  Spent : Outcome
  NoMemory : Outcome

abbrev pub outcome_of : Stop → Outcome
outcome_of (Ended answer) = Halts (HasEnded (Answer answer))
outcome_of (Blamed label) = Halts (HasEnded (Blame label))
outcome_of (Trapped trap) = Halts (HasEnded (Trap trap))
outcome_of RegionOut = Halts (Lacks Region)
outcome_of StackOut = Halts (Lacks Stack)
outcome_of (Undefined pc) = Halts (GoesWrong (IsUndefined pc))
outcome_of (BadAddress pc) = Halts (GoesWrong (IsBadAddress pc))
outcome_of (Misaligned pc) = Halts (GoesWrong (IsMisaligned pc))
outcome_of StepsSpent = Spent
outcome_of OutOfMemory = NoMemory

-- ---- turns

-- a turn that stops leaves the state as before; want of memory comes only where it may
abbrev pub StopsBy : Type 0 → Turn → State → Outcome → State → Type 0
StopsBy lack turn old (Halts halt) new = (turn ≡ Stops halt) × (new ≡ old)
StopsBy lack turn old Spent new = ⊥
StopsBy lack turn old NoMemory new = lack × (new ≡ old)

-- where there is no stop, the turn goes on
abbrev pub ComesTo : Type 0 → Turn → State → Option Stop → State → Type 0
ComesTo lack turn old None new = turn ≡ Next new
ComesTo lack turn old (Some stop) new = StopsBy lack turn old (outcome_of stop) new

-- the emulator makes this turn, told what bytes its memory has and where it may lack memory of the process
abbrev pub MakesTurn : {R : Type 0} → (R → Memory) → (State → Type 0) → (State → Turn) → Processor R → Option Stop
    → Processor R → Type 0
MakesTurn memory lack turn old stop new =
    let s = state_of memory old in
    ComesTo (lack s) (turn s) s stop (state_of memory new)

-- no memory of the process is needed
abbrev pub NeverLacks : State → Type 0
NeverLacks s = ⊥

-- memory of the process is needed unless the ram is whole
abbrev pub LacksUnless : Bool → State → Type 0
LacksUnless whole s = whole ≡ false

-- the instruction may need memory of the process: it prints more than there is room for, where the output can have so
-- many bytes, or it stores into a ram that isn't whole
abbrev pub LacksAt : Bool → ℕ → Inst → State → Type 0
LacksAt whole reserved (Sb rs2 rs1 offset) s = whole ≡ false
LacksAt whole reserved (Sh rs2 rs1 offset) s = whole ≡ false
LacksAt whole reserved (Sw rs2 rs1 offset) s = whole ≡ false
LacksAt whole reserved (Sd rs2 rs1 offset) s = whole ≡ false
LacksAt whole reserved Ecall s = LacksRoom reserved s
LacksAt whole reserved i s = ⊥

-- the next instruction, which is there, may need memory
pub record LacksNext (whole : Bool) (reserved : ℕ) (s : State) : Type 0 where
  pub above : s.layout.code ≤ s.pc
  pub below : s.pc < s.layout.region
  pub next : Inst
  pub is_next : decode_of (load_bytes 4 s.memory s.pc) ≡ Some next
  pub lacks : LacksAt whole reserved next s

-- ---- runs

-- a run comes to what that many turns come to; or, after fewer turns that all went on, there is no memory for the next
-- instruction, where the output can have so many bytes
abbrev pub RunsTo : Bool → ℕ → ℕ → State → Outcome → State → Type 0
RunsTo whole reserved steps old (Halts halt) new = run_of steps old ≡ (new, Some halt)
RunsTo whole reserved steps old Spent new = run_of steps old ≡ (new, None)
RunsTo whole reserved steps old NoMemory new =
    (turns : ℕ) × (turns < steps) × (run_of turns old ≡ (new, None)) × LacksNext whole reserved new
