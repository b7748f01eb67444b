-- The real code of a virtual one whose registers have places, and what it is to the virtual code.
use Rattle.std.specs.Prelude.{ℕ, ◌≤◌, ◌≡◌, true, List, All}
use Rattle.grift_base.specs.declared.verdicts.Verdict.{Verdict}
use Rattle.run_laws.specs.Runs.{Ending, NeverWrong}
use Rattle.run_laws.specs.Machines.{run}
use Rattle.rv_machine.specs.declared.real.RealItem.{RealItem}
use Rattle.rv_machine.specs.State.{State}
use Rattle.machine_words.specs.Halts.{Halt, IsReading}
use Rattle.rv_machine.specs.Real.{Setting as RealSetting, real_machine}
use Rattle.assembler.specs.Conditions.{CanBeAssembled}
use Rattle.assembler.specs.Prices.{state_price}
use Rattle.rv_select.specs.declared.code.Place.{Place}
use Rattle.rv_select.specs.declared.code.Place.TheVariants.{Slot}
use Rattle.rv_select.specs.declared.code.VirtualItem.{VirtualItem}
use Rattle.rv_select.specs.Run.{Found, VirtualState, virtual_machine, is_own}
use Rattle.rv_select.specs.Prices.{virtual_price}
use Rattle.rv_select.specs.Stacks.{frame_size}
use Rattle.rv_select.specs.Marks.{marks, Distinct}
use Rattle.rv_select.specs.WellFormed.{IsWellFormed}
use Rattle.placed_code.specs.Slots.{slots_items, slot_offset}
use Rattle.placed_code.specs.Slotted.{free_mark, Starts, setting_in, room_in, start_in, FollowsVirtual}
use Rattle.placed_code.specs.Slotted.{DoesAsVirtual, EndsAsVirtual, SparesLast, ProceduresBegin}
use Rattle.placed_code.specs.Rename.{renamed, densely}
use Rattle.placed_code.specs.Sized.{stack_by, sized_machine}

-- the registers are renamed, and those that are left have slots
abbrev pub applied : (ℕ → Place) → List VirtualItem → List RealItem
applied place items =
    let others : List VirtualItem = renamed (densely place) items in slots_items (free_mark others) others

-- how many slots a frame has, told the first register of its procedure and how many there are
abbrev pub slots_of : (ℕ → Place) → ℕ → ℕ → ℕ
slots_of place first count = (densely place).slots first count

-- however stops are read, the machine follows the virtual run in a stack of so many bytes where a frame has the link
-- and these slots: so it stops for want of stack only where that does
abbrev pub DoesInSlots : {V : Type 0} → (Halt → Ending V) → (ℕ → Place) → List VirtualItem → List RealItem → Type 0
DoesInSlots reading place items code =
    IsReading reading → (setting : RealSetting) (told : ℕ → ℕ) (s : State) → Starts items code setting told s
    → NeverWrong (run (virtual_machine reading (setting_in items told s)) (start_in s))
    → FollowsVirtual (real_machine reading code setting) (state_price code setting)
    (sized_machine reading (setting_in items told s) (slots_of place) (room_in s))
    (virtual_price (setting_in items told s)) s

-- the bytes of all frames of a state, and those of the last, where a frame has the link and the slots that are left
abbrev pub frames_by : (ℕ → Place) → VirtualState → ℕ
frames_by place t = stack_by (slots_of place) t.active.found t.frames

abbrev pub last_frame_by : (ℕ → Place) → VirtualState → ℕ
last_frame_by place t = frame_size (slots_of place t.active.found.first t.active.found.count)

-- where the machine ends with a verdict, so does the virtual run that has no bound on its stack, or that verdict is
-- want of stack, and the next frame with the slots that are left doesn't fit
abbrev pub StopsInSlots : {V : Type 0} → (Halt → Ending V) → (ℕ → Place) → List VirtualItem → List RealItem → Type 0
StopsInSlots reading place items code =
    IsReading reading → (setting : RealSetting) (told : ℕ → ℕ) (s : State) → Starts items code setting told s
    → NeverWrong (run (virtual_machine reading (setting_in items told s)) (start_in s))
    → EndsAsVirtual reading items (frames_by place) (last_frame_by place) (real_machine reading code setting)
    (virtual_machine reading (setting_in items told s)) s

-- the code of a virtual one with these places
pub record IsApplied (place : ℕ → Place) (items : List VirtualItem) (code : List RealItem) : Type 0 where
  -- what it is
  pub exactly : code ≡ applied place items
  -- a frame has no more slots than its procedure has registers, and the slot of a register lies no further from the
  -- first than the register does
  pub few : (first count : ℕ) → slots_of place first count ≤ count
  pub near : (f : Found) (v i : ℕ) → is_own f v ≡ true → place v ≡ Slot i
      → slot_offset f.first ((densely place).number f.first f.count i) ≤ slot_offset f.first v
  -- what it keeps to, where the virtual code is well-formed
  pub assembles : IsWellFormed items → CanBeAssembled code
  pub spares : IsWellFormed items → All SparesLast code
  pub begins : IsWellFormed items → ProceduresBegin items code
  -- what it does, however stops are read as endings, where no mark stands twice in the virtual code
  pub in_slots : Distinct (marks items) → (reading : Halt → Ending Verdict) → DoesInSlots reading place items code
  pub follows : Distinct (marks items) → (reading : Halt → Ending Verdict) → DoesAsVirtual reading items code
  pub stops : Distinct (marks items) → (reading : Halt → Ending Verdict) → StopsInSlots reading place items code
