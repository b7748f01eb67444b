-- Runs in a stack of so many bytes in which a frame has a link and so many slots as are told, and what a run of renamed
-- code shows.
use Rattle.std.specs.Prelude.{ℕ, ◌+◌, ◌≤◌, ◌≡◌, List, [], ◌∷◌}
use Rattle.run_laws.specs.Runs.{Ending}
use Rattle.run_laws.specs.Machines.{Next, Machine}
use Rattle.machine_words.specs.Halts.{Halt}
use Rattle.rv_select.specs.Run.{Setting, Found, Frame, VirtualState, Shown}
use Rattle.rv_select.specs.Stacks.{frame_size, if_fits, fitting_machine}

-- the bytes of the frames of a procedure and of those that wait for it, told how many slots each has, by its first
-- register and how many there are
abbrev pub stack_by : (ℕ → ℕ → ℕ) → Found → List Frame → ℕ
stack_by slots found [] = 0
stack_by slots found (f ∷ fs) = frame_size (slots found.first found.count) + stack_by slots f.active.found fs

-- the step of a state, if the frames then fit into so many bytes
abbrev pub if_room_by : {V : Type 0} → (ℕ → ℕ → ℕ) → (Halt → Ending V) → ℕ → VirtualState → Next VirtualState V
    → Next VirtualState V
if_room_by slots = if_fits (stack_by slots)

abbrev pub sized_machine : {V : Type 0} → (Halt → Ending V) → Setting → (ℕ → ℕ → ℕ) → ℕ → Machine VirtualState Shown V
sized_machine reading setting slots room = fitting_machine (stack_by slots) reading setting room

-- both show the same, but for the registers of the active procedures: these are no more
pub record SameOrFewer (b a : Shown) : Type 0 where
  pub memory : b.memory ≡ a.memory
  pub stack : b.stack ≡ a.stack
  pub alloc : b.alloc ≡ a.alloc
  pub top : b.top ≡ a.top
  pub frames : b.frames ≡ a.frames
  pub held : b.held ≤ a.held
