-- What the code with slots is to the virtual code that it comes from.
use Rattle.std.specs.Prelude.{ℕ, suc, ◌+◌, ◌-◌, ◌%◌, ◌^◌, ◌<◌, ◌≤◌, ◌≡◌, ◌⊎◌, max, false, List, [], ◌∷◌}
use Rattle.std.specs.Prelude.{Some, slice_get, All, Contains}
use Rattle.grift_base.specs.declared.verdicts.Verdict.{Verdict as Outcome}
use Rattle.run_laws.specs.Runs.{Ending, Verdict, Exhausted, Moment, NeverWrong, FollowsBy, Any}
use Rattle.run_laws.specs.Machines.{Go, Machine, steps, run}
use Rattle.run_laws.specs.Meters.{unspent, metered, Spends, OfRest}
use Rattle.rv_machine.specs.declared.real.RealItem.{RealItem}
use Rattle.rv_machine.specs.declared.real.RealItem.TheVariants.{Mark as RealMark}
use Rattle.machine_words.specs.Memory.{first_address}
use Rattle.rv_machine.specs.State.{Layout, State}
use Rattle.machine_words.specs.Halts.{Halt, Lacks, Stack}
use Rattle.machine_words.specs.Halts.{IsReading}
use Rattle.rv_machine.specs.Turn.{call_environment}
use Rattle.rv_machine.specs.Real.{Setting as RealSetting, AreAddresses, is_mark, address_from, mark_address}
use Rattle.rv_machine.specs.Real.{real_machine}
use Rattle.assembler.specs.Prices.{state_price}
use Rattle.assembler.specs.Conditions.{registers_named, CanBeAssembled}
use Rattle.rv_select.specs.declared.convention.TheConstants.{STACK_POINTER, STACK_END, ALLOCATION, REGION_END}
use Rattle.rv_select.specs.declared.code.VirtualItem.{VirtualItem}
use Rattle.rv_select.specs.declared.code.VirtualItem.TheVariants.{Procedure}
use Rattle.low_ir.specs.Procedures.{Proc}
use Rattle.low_ir.specs.Run.{Setting as LowSetting}
use Rattle.rv_select.specs.Selected.{setting_of}
use Rattle.rv_select.specs.Run.{Setting, VirtualState, Shown, virtual_machine, virtual_start}
use Rattle.rv_select.specs.Marks.{marks, Distinct}
use Rattle.rv_select.specs.WellFormed.{IsWellFormed}
use Rattle.placed_code.specs.Slots.{slots_items}
use Rattle.rv_select.specs.Prices.{virtual_price}
use Rattle.rv_select.specs.Stacks.{frame_size, stack_of, stacked_machine, frames_size}

-- ---- the mark where the stack lacks room

-- the least number above some numbers, and not below a number
abbrev pub above : ℕ → List ℕ → ℕ
above n [] = n
above n (m ∷ ms) = above (max n (suc m)) ms

-- a mark that no item has
abbrev pub free_mark : List VirtualItem → ℕ
free_mark items = above 0 (marks items)

-- ---- sizes of frames

-- a procedure has fewer than 2^32 registers
abbrev pub HasFew : VirtualItem → Type 0
HasFew (Procedure k first count) = count < 2 ^ 32
HasFew item = Unit {0}

abbrev pub EachHasFew : List VirtualItem → Type 0
EachHasFew [] = Unit {0}
EachHasFew (item ∷ items) = HasFew item × EachHasFew items

-- ---- where a code with slots runs

-- how memory lies: the region ends here, and the stack fills the rest
pub record Lies (layout : Layout) (top : ℕ) : Type 0 where
  pub base : first_address ≤ layout.region
  pub region : layout.region ≤ top
  pub stack : top ≤ layout.end
  pub aligned : top % 8 ≡ 0
  pub small : layout.end < 2 ^ 62
  pub end_aligned : layout.end % 8 ≡ 0

-- the machine starts in this state: x25 is the stack's low end and x2 its high one, and the virtual run is told the
-- address of the mark of each procedure
pub record Starts (items : List VirtualItem) (code : List RealItem) (setting : RealSetting) (told : ℕ → ℕ)
    (s : State) : Type 0 where
  pub addresses : AreAddresses code setting.address
  -- an ECALL calls the environment; what an EBREAK does is free
  pub calls : (place : ℕ) (t : State) → setting.ecall place t ≡ call_environment t
  pub tells : (place k first count at : ℕ) → slice_get items place ≡ Some (Procedure k first count)
      → mark_address setting.address code k ≡ Some at → told k ≡ at
  pub lies : Lies s.layout (s.regs STACK_END)
  pub pc : address_from setting.address 0 code ≡ Some s.pc
  pub stack : s.regs STACK_POINTER ≡ s.layout.end
  pub fits : (r : ℕ) → s.regs r < 2 ^ 64
  pub bytes : (at : ℕ) → s.memory at < 256

-- what a run over words is told where the machine is in that state: the code addresses of the procedures
abbrev pub words_setting : List Proc → (ℕ → ℕ) → State → LowSetting
words_setting procs told s = record {
  procs = procs;
  address = told;
  labels = s.layout.labels;
  region = s.layout.region;
  top = s.regs STACK_END;
}

-- what the virtual run is told there, which has items in place of procedures
abbrev pub setting_in : List VirtualItem → (ℕ → ℕ) → State → Setting
setting_in items told s = setting_of (words_setting [] told s) items

-- the bytes of the stack
abbrev pub room_in : State → ℕ
room_in s = s.layout.end - s.regs STACK_END

abbrev pub start_in : State → VirtualState
start_in s = virtual_start s.regs s.memory s.world

-- ---- the claims

-- the machine's state is seen as what the virtual run shows: the memory below a bound, the region's end, and three
-- registers. x2 isn't below that end, and from it to the stack's end there are no more bytes than the frames of the
-- active procedures have
pub record IsSeenAs (bound : ℕ) (s : State) (shown : Shown) : Type 0 where
  pub memory : (at : ℕ) → at < bound → s.memory at ≡ shown.memory at
  pub stack : s.regs STACK_END ≡ shown.stack
  pub alloc : s.regs ALLOCATION ≡ shown.alloc
  pub top : s.regs REGION_END ≡ shown.top
  pub above : bound ≤ s.regs STACK_POINTER
  pub used : s.layout.end ≤ s.regs STACK_POINTER + frames_size shown.frames shown.held

-- from a state on the machine follows a virtual run, and its items, at their prices, cost no more than the items of
-- that run at theirs
pub record FollowsVirtual {V : Type 0} (X : Machine State State V) (price : State → ℕ)
    (Y : Machine VirtualState Shown V) (virtual_price : VirtualState → ℕ) (s : State) : Type 0 where
  pub follows : FollowsBy (IsSeenAs (s.regs STACK_END)) Any (run X s) (run Y (start_in s))
  pub turns : FollowsBy (OfRest (IsSeenAs (s.regs STACK_END))) (Spends 1) (run (metered price X) (unspent s))
      (run (metered virtual_price Y) (unspent (start_in s)))

-- however stops are read, the machine follows the virtual run in a stack of so many bytes: so it stops for want of
-- stack only where that does
abbrev pub DoesInStack : {V : Type 0} → (Halt → Ending V) → List VirtualItem → List RealItem → Type 0
DoesInStack reading items code =
    IsReading reading → (setting : RealSetting) (told : ℕ → ℕ) (s : State) → Starts items code setting told s
    → NeverWrong (run (virtual_machine reading (setting_in items told s)) (start_in s))
    → FollowsVirtual (real_machine reading code setting) (state_price code setting)
    (stacked_machine reading (setting_in items told s) (room_in s)) (virtual_price (setting_in items told s)) s

-- where want of stack is read as exhausted, the machine follows the virtual run that has no bound on its stack
abbrev pub DoesAsVirtual : {V : Type 0} → (Halt → Ending V) → List VirtualItem → List RealItem → Type 0
DoesAsVirtual reading items code =
    reading (Lacks Stack) ≡ Exhausted → (setting : RealSetting) (told : ℕ → ℕ) (s : State)
    → Starts items code setting told s
    → NeverWrong (run (virtual_machine reading (setting_in items told s)) (start_in s))
    → FollowsVirtual (real_machine reading code setting) (state_price code setting)
    (virtual_machine reading (setting_in items told s)) (virtual_price (setting_in items told s)) s

-- ---- where the machine stops

-- The machine has come to its end where the virtual run of these items, with no bound on its stack, has come into a
-- procedure: both have printed the same, the frames of that state don't fit into the stack, and fewer bytes are left
-- in it than the frame of that procedure has. Told how many bytes the frames of a state have, and that one frame.
pub record EntersBeyond {V : Type 0} (items : List VirtualItem) (frames frame : VirtualState → ℕ)
    (Y : Machine VirtualState Shown V) (room : ℕ) (start : VirtualState) (x : Moment State V) : Type 0 where
  pub many : ℕ
  pub entered : VirtualState
  pub comes : steps Y start many ≡ Go entered
  pub output : x.output ≡ entered.world.output
  pub place : ℕ
  pub number : ℕ
  pub there : slice_get items place
      ≡ Some (Procedure number entered.active.found.first entered.active.found.count)
  pub beyond : room < frames entered
  pub left : x.shown.regs STACK_POINTER < x.shown.regs STACK_END + frame entered

-- the virtual run has printed the same, and ends with the same verdict
pub record EndsToo {V : Type 0} (verdict : V) (Y : Machine VirtualState Shown V) (start : VirtualState)
    (x : Moment State V) : Type 0 where
  pub many : ℕ
  pub ended : (run Y start many).ending ≡ Some (Verdict verdict)
  pub output : x.output ≡ (run Y start many).output

-- where the machine has ended with a verdict, so does the virtual run that has no bound on its stack, or that verdict
-- is want of stack, and the next frame doesn't fit
abbrev pub EndsAsVirtual : {V : Type 0} → (Halt → Ending V) → List VirtualItem → (frames frame : VirtualState → ℕ)
    → Machine State State V → Machine VirtualState Shown V → State → Type 0
EndsAsVirtual {V = V} reading items frames frame X Y s =
    (m : ℕ) (verdict : V) → (run X s m).ending ≡ Some (Verdict verdict)
    → EndsToo verdict Y (start_in s) (run X s m)
    ⊎ ((reading (Lacks Stack) ≡ Verdict verdict)
    × EntersBeyond items frames frame Y (room_in s) (start_in s) (run X s m))

-- the bytes of all frames of a state, and those of the last
abbrev pub frames_of : VirtualState → ℕ
frames_of t = stack_of t.active.found t.frames

abbrev pub last_frame : VirtualState → ℕ
last_frame t = frame_size t.active.found.count

abbrev pub StopsAsVirtual : {V : Type 0} → (Halt → Ending V) → List VirtualItem → List RealItem → Type 0
StopsAsVirtual reading items code =
    IsReading reading → (setting : RealSetting) (told : ℕ → ℕ) (s : State) → Starts items code setting told s
    → NeverWrong (run (virtual_machine reading (setting_in items told s)) (start_in s))
    → EndsAsVirtual reading items frames_of last_frame (real_machine reading code setting)
    (virtual_machine reading (setting_in items told s)) s

-- ---- what the code keeps to

-- x30 and x31 are named by no item
abbrev pub SparesLast : RealItem → Type 0
SparesLast item = ¬ Contains (registers_named item) 30 × ¬ Contains (registers_named item) 31

-- an item that isn't a mark stands right behind the mark of each procedure
abbrev pub ProceduresBegin : List VirtualItem → List RealItem → Type 0
ProceduresBegin items code =
    (place k first count at : ℕ) → slice_get items place ≡ Some (Procedure k first count)
    → slice_get code at ≡ Some (RealMark k)
    → (x : RealItem) × (slice_get code (suc at) ≡ Some x) × (is_mark x ≡ false)

-- the code with slots of a virtual code
pub record IsSlotsOf (items : List VirtualItem) (code : List RealItem) : Type 0 where
  -- what it is
  pub exactly : code ≡ slots_items (free_mark items) items
  -- what it keeps to, where the virtual code is well-formed
  pub assembles : IsWellFormed items → CanBeAssembled code
  pub spares : IsWellFormed items → All SparesLast code
  pub begins : IsWellFormed items → ProceduresBegin items code
  -- what it does, however stops are read as endings, where no mark stands twice in the virtual code
  pub in_stack : Distinct (marks items) → (reading : Halt → Ending Outcome) → DoesInStack reading items code
  pub follows : Distinct (marks items) → (reading : Halt → Ending Outcome) → DoesAsVirtual reading items code
  pub stops : Distinct (marks items) → (reading : Halt → Ending Outcome) → StopsAsVirtual reading items code
