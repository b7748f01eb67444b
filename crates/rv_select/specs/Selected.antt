-- What the code of a program over words is to the program.
use Rattle.std.specs.Prelude.{true, ℕ, ◌+◌, ◌%◌, ◌^◌, ◌<◌, ◌≤◌, ◌≡◌, ◌≢◌, List, ◌∷◌, length, Some, slice_get}
use Rattle.grift_base.specs.declared.environment.TheConstants.{END_CALL}
use Rattle.grift_base.specs.World.{WorldState}
use Rattle.grift_base.specs.declared.verdicts.Verdict.{Verdict}
use Rattle.run_laws.specs.Runs.{Ending, Wrong, NeverWrong, FollowsBy, Any}
use Rattle.run_laws.specs.Machines.{Machine, run}
use Rattle.run_laws.specs.Meters.{unspent, metered, Spends, OfRest}
use Rattle.machine_words.specs.Memory.{Memory}
use Rattle.rv_machine.specs.Registers.{Registers}
use Rattle.machine_words.specs.Halts.{Halt, Lacks, Stack}
use Rattle.low_ir.specs.Procedures.{Proc}
use Rattle.low_ir.specs.Run.{Setting as LowSetting, LowState, LowShown, low_machine, low_start}
use Rattle.low_ir.specs.Prices.{low_price}
use Rattle.rv_select.specs.declared.code.Place.TheVariants.{Slot}
use Rattle.rv_select.specs.declared.code.VReg.TheVariants.{Real}
use Rattle.rv_select.specs.declared.code.VirtualItem.{VirtualItem}
use Rattle.rv_select.specs.declared.code.VirtualItem.TheVariants.{Constant, Move, Procedure, Call, Environment}
use Rattle.rv_select.specs.declared.convention.TheConstants.{FIRST_ARGUMENT, SECOND_ARGUMENT, ANSWER, CALL_NUMBER}
use Rattle.rv_select.specs.declared.convention.TheConstants.{STACK_END, ALLOCATION, REGION_END}
use Rattle.rv_select.specs.Fitting.{each_fits}
use Rattle.rv_select.specs.Holding.{Sets, IsHolding}
use Rattle.rv_select.specs.Marks.{procedures, numbers_from, each_has_work, HaveOwn}
use Rattle.rv_select.specs.WellFormed.{IsWellFormed}
use Rattle.rv_select.specs.Run.{Setting, VirtualState, Shown, virtual_machine, virtual_start}
use Rattle.rv_select.specs.Select.{select_items, registers_of}
use Rattle.rv_select.specs.Prices.{start_price, virtual_price}
use Rattle.rv_select.specs.Stacks.{stacked_machine, low_in_stack}

-- what a run of these items is told where a run over words is told this
abbrev pub setting_of : LowSetting → List VirtualItem → Setting
setting_of low items =
    record { items = items; address = low.address; labels = low.labels; region = low.region; top = low.top }

-- both show the same region, in x25 and x27 stand the stack's low end and the region's end, and no more procedures are
-- active than in the run over words, with no more words
pub record SameRegion (low_end region_end : ℕ) (v : Shown) (l : LowShown) : Type 0 where
  pub memory : (at : ℕ) → at < l.alloc → v.memory at ≡ l.memory at
  pub alloc : v.alloc ≡ l.alloc
  pub inside : l.alloc ≤ region_end
  pub stack : v.stack ≡ low_end
  pub top : v.top ≡ region_end
  pub frames : v.frames ≤ l.frames
  pub held : v.held ≤ l.held

-- where a run over words begins, told the number of its first procedure, and the registers of its code there
pub record Begins (low : LowSetting) (entry : ℕ) (p : Proc) (regs : Registers) : Type 0 where
  -- the first procedure takes no words
  pub there : slice_get low.procs entry ≡ Some p
  pub none : p.params ≡ 0
  -- the region begins at a multiple of 8 and ends below 2^64
  pub aligned : low.region % 8 ≡ 0
  pub ordered : low.region ≤ low.top
  pub small : low.top < 2 ^ 64
  -- x26 has its start, and x27 its end
  pub alloc : regs ALLOCATION ≡ low.region
  pub region_end : regs REGION_END ≡ low.top

-- from such a beginning a run of items follows a run over words, and shows the same region; its items cost no more than
-- the steps of that run, and the start
pub record Simulates {V : Type 0} (X : Machine VirtualState Shown V) (Y : Machine LowState LowShown V)
    (setting : Setting) (low : LowSetting) (p : Proc) (regs : Registers) (memory : Memory) (world : WorldState)
    : Type 0 where
  pub follows : FollowsBy (SameRegion (regs STACK_END) low.top) Any (run X (virtual_start regs memory world))
      (run Y (low_start low p memory world))
  pub turns : FollowsBy (OfRest (SameRegion (regs STACK_END) low.top)) (Spends 1)
      (run (metered (virtual_price setting) X) (unspent (virtual_start regs memory world)))
      (run (metered (low_price low.procs) Y) (record { spent = start_price; rest = low_start low p memory world }))

-- wherever a run over words of these procedures begins, if it never goes wrong
abbrev pub RunsAsWords : {V : Type 0} → (Halt → Ending V) → List VirtualItem → List Proc → ℕ → Type 0
RunsAsWords reading items procs entry =
    (low : LowSetting) (p : Proc) (regs : Registers) (memory : Memory) (world : WorldState) → low.procs ≡ procs
    → Begins low entry p regs → NeverWrong (run (low_machine reading low) (low_start low p memory world))
    → Simulates (virtual_machine reading (setting_of low items)) (low_machine reading low) (setting_of low items) low p
    regs memory world

-- so it does in a stack of any size, if want of stack isn't read as going wrong
abbrev pub RunsInStackAsWords : {V : Type 0} → (Halt → Ending V) → List VirtualItem → List Proc → ℕ → Type 0
RunsInStackAsWords reading items procs entry =
    reading (Lacks Stack) ≢ Wrong
    → (low : LowSetting) (p : Proc) (regs : Registers) (memory : Memory) (world : WorldState) (room : ℕ)
    → low.procs ≡ procs → Begins low entry p regs
    → NeverWrong (run (low_machine reading low) (low_start low p memory world))
    → Simulates (stacked_machine reading (setting_of low items) room) (low_in_stack reading low room)
    (setting_of low items) low p regs memory world

-- a call of the first procedure, and then environment call 0 with kind 0 and its answer
abbrev pub BeginsAsSaid : List VirtualItem → ℕ → Type 0
BeginsAsSaid items entry =
    (rest : List VirtualItem) × (items ≡ Call entry 0 ∷ Move (Real SECOND_ARGUMENT) (Real ANSWER)
    ∷ Constant (Real FIRST_ARGUMENT) 0 ∷ Constant (Real CALL_NUMBER) END_CALL ∷ Environment ∷ rest)

-- the items, with so many virtual registers, are the code of these procedures, which begins with the one of a number
pub record IsCodeOf (items : List VirtualItem) (registers : ℕ) (procs : List Proc) (entry : ℕ) : Type 0 where
  -- what it is
  pub exactly : items ≡ select_items entry procs
  pub counted : registers ≡ registers_of procs
  -- how it begins
  pub start : BeginsAsSaid items entry
  -- procedures stand in order of their numbers, each with an item that isn't a mark and with registers of its own
  pub order : procedures items ≡ numbers_from 0 (length procs)
  pub work : each_has_work items ≡ true
  pub own : HaveOwn 0 registers items
  pub within : (place k first count : ℕ) → slice_get items place ≡ Some (Procedure k first count)
      → first + count ≤ registers
  -- what is named is there, and each number fits its item
  pub well_formed : IsWellFormed items
  pub fitting : each_fits items ≡ true
  -- with a slot for each virtual register, each read finds the word that was written last, whatever path is taken
  pub holding : (live : Sets) × IsHolding items (λ v. Slot v) live
  -- what it does, however stops are read as endings
  pub runs : (reading : Halt → Ending Verdict) → RunsAsWords reading items procs entry
  pub in_stack : (reading : Halt → Ending Verdict) → RunsInStackAsWords reading items procs entry
