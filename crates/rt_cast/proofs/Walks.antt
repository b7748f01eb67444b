-- What all lemmas on the run of a procedure are told.
use Rattle.std.proofs.Common.{◌≡◌, ℕ, ◌+◌, ◌≤◌, List}
use Rattle.run_laws.specs.Runs.{Ending, Exhausted}
use Rattle.machine_words.specs.Halts.{Halt, Lacks, Region}
use Rattle.low_ir.specs.Run.{Setting, Active, Waiting, LowState, code_turns}
use Rattle.coercion_norm.specs.Objects.{Object}
use Rattle.coercion_norm.specs.Held.{Layout, TypesStand}
use Rattle.low_ir.specs.Frames.{frame_room, waiting_room}
use Rattle.rt_cast.specs.Procs.{Stand}
use Rattle.rt_cast.specs.States.{Heap, Around, Fine, Placed}

-- the run and where things stand in it; what is to hold at each state on the way and at the end; that where the region
-- ends the run is exhausted; and that types and procedures stand
pub record Walk (V : Type 0) : Type 1 where
  pub reading : Halt → Ending V
  pub setting : Setting
  pub l : Layout
  pub around : Around
  pub P : LowState → Type 0
  pub Q : LowState → Type 0
  -- how much room frames may take, and how many words may have been asked for
  pub room : ℕ
  pub most : ℕ
  pub calm : (active : Active) (waiting : List Waiting) (h : Heap) (objects : List Object)
      → Fine setting l around objects h → code_turns active.code ≤ 10
      → frame_room active.count + waiting_room waiting ≤ room → h.words ≤ most
      → P (record {
        active = active;
        waiting = waiting;
        memory = h.memory;
        alloc = h.alloc;
        world = around.world;
        words = h.words;
      })
  pub exhausts : reading (Lacks Region) ≡ Exhausted
  pub placed : Placed setting l
  pub first : ℕ
  pub stands : Stand setting.procs first
  pub types : TypesStand l
