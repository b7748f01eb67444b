-- What all lemmas on the code of a body are told.
use Rattle.std.proofs.Common.{◌≡◌, ℕ, ◌+◌, ◌≤◌, List, Some, slice_get, true}
use Rattle.grift_base.specs.Types.{TypeRow, row_at}
use Rattle.grift_base.specs.World.{WorldState}
use Rattle.core_calc.specs.Account.{Measures}
use Rattle.low_ir.specs.Run.{Setting, Waiting, LowState}
use Rattle.cast_modes.specs.AnswerTypes.{Told}
use Rattle.cast_modes.specs.Modes.{TypeCast}
use Rattle.flat_ir.specs.Bodies.{Proc}
use Rattle.flat_ir.specs.Closed.{each_closed}
use Rattle.flat_ir.specs.Machine.{FlatValue, FlatValues, FlatStore}
use Rattle.coercion_norm.specs.Objects.{Object}
use Rattle.coercion_norm.specs.Held.{Layout}
use Rattle.low_ir.specs.Frames.{frame_room, waiting_room}
use Rattle.rt_cast.specs.States.{Placed, Heap}
use Rattle.lower.specs.Storage.{Filled}
use Rattle.lowered_code.specs.declared.served.Served.{Served}
use Rattle.lowered_code.specs.Lowered.{low_proc}
use Rattle.lower.specs.Following.{Serving}
use Rattle.lower.specs.SimulationClaims.{AreNarrow, AreCodeAddresses}
use Rattle.lower.specs.CarriedValues.{IsCarried, AreCarried, CellsHeld}
use Rattle.lower.proofs.words.Steps.{Comes, Calm, Goal}
use Rattle.lower.specs.Meanings.{Meaning, MeaningLaws}

-- the program, and where it runs
pub record Program : Type 1 where
  pub meaning : Meaning
  pub laws : MeaningLaws meaning
  -- the wrap steps so far
  pub number : ℕ
  pub setting : Setting
  pub l : Layout
  pub placed : Placed setting l
  pub begins : l.region ≡ setting.region
  pub run : Served
  pub procs : List Proc
  pub answer : TypeRow
  pub casts : List TypeCast
  pub measured : Measures
  pub told : Told
  pub answer_is : row_at told.types told.answer ≡ Some answer
  pub labels_are : setting.labels ≡ told.labels
  pub types_are : told.types ≡ l.types
  pub stand : (k : ℕ) (p : Proc) → slice_get procs k ≡ Some p → slice_get setting.procs k ≡ Some (low_proc run p)
  pub addresses : AreCodeAddresses setting.procs setting.address
  pub closed : each_closed procs procs ≡ true
  pub narrow : AreNarrow procs
  pub serves : Serving meaning setting l procs casts measured run

-- these objects fill the region
abbrev pub Fills : Program → List Object → Heap → Type 0
Fills program objects h = Filled program.meaning program.setting program.l program.number objects h

-- the store's cells stand at these places
abbrev pub CellsStand : (program : Program) → List ℕ → List Object → Heap → FlatStore program.meaning.Cast → Type 0
CellsStand program places objects h store =
    CellsHeld program.l program.setting.address program.procs program.meaning places objects h.memory places store

-- the program, what is to hold on the way and at the end, in which worlds and after how many words, and how much room
-- frames may take on the way
pub record Scene : Type 1 where
  pub program : Program
  pub places : List ℕ
  pub P : LowState → Type 0
  pub Q : Goal
  pub allowed : WorldState → ℕ → Type 0
  pub room : ℕ
  pub calm : (world : WorldState) (h : Heap) (objects : List Object) → Fills program objects h
      → allowed world h.words → (count : ℕ) (waiting : List Waiting) → frame_room count + waiting_room waiting ≤ room
      → Calm program.setting P Q count waiting world h

module _ (scene : Scene) where
  abbrev pub Carries : List Object → FlatValue scene.program.meaning.Cast → ℕ → Type 0
  Carries objects v w =
      IsCarried scene.program.l scene.program.setting.address scene.program.procs scene.program.meaning scene.places
      objects v w

  abbrev pub CarryAll : List Object → FlatValues scene.program.meaning.Cast → List ℕ → Type 0
  CarryAll objects vs ws =
      AreCarried scene.program.l scene.program.setting.address scene.program.procs scene.program.meaning scene.places
      objects vs ws

  abbrev pub Arrives : LowState → Type 0
  Arrives t = Comes scene.program.setting scene.P scene.Q t
