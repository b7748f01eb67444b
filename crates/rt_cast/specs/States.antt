-- States of a run over words in which whole objects fill the region.
use Rattle.std.specs.Prelude.{◌≡◌, ℕ, ◌+◌, ◌*◌, ◌%◌, ◌^◌, ◌<◌, ◌≤◌, List, [], ◌++◌, Some}
use Rattle.grift_base.specs.World.{WorldState}
use Rattle.run_laws.specs.Runs.{Ending}
use Rattle.run_laws.specs.Machines.{Reaches}
use Rattle.machine_words.specs.Memory.{Memory}
use Rattle.machine_words.specs.Halts.{Halt}
use Rattle.low_ir.specs.declared.code.LowSource.{LowSource}
use Rattle.low_ir.specs.Procedures.{Code, Proc, Return}
use Rattle.low_ir.specs.Steps.{Locals}
use Rattle.low_ir.specs.Prices.{CostsAtMost}
use Rattle.low_ir.specs.Run.{Setting, Waiting, LowState, entered, word_of, low_machine, low_turns}
use Rattle.coercion_norm.specs.Coercions.{Coercion}
use Rattle.coercion_norm.specs.Objects.{Object, bytes_of_all}
use Rattle.low_ir.specs.Frames.{stack_room, waiting_room}
use Rattle.rt_cast.specs.Objects.{Holds}
use Rattle.coercion_norm.specs.Held.{Layout, Held, TypesStand}
use Rattle.rt_cast.specs.WholeObjects.{Wholes}
use Rattle.rt_cast.specs.Procs.{Stand}

-- objects were only added
pub record Grows (old new : List Object) : Type 0 where
  pub more : List Object
  pub is : new ≡ old ++ more

-- what changes in a region
pub record Heap : Type 0 where
  pub memory : Memory
  pub alloc : ℕ
  pub words : ℕ

abbrev pub heap_of : LowState → Heap
heap_of t = record { memory = t.memory; alloc = t.alloc; words = t.words }

-- what stays as it is: the world, and the memory below a bound
pub record Around : Type 0 where
  pub world : WorldState
  pub low : ℕ
  pub bytes : Memory

-- the world of a state, and its memory below the allocation word
abbrev pub around : LowState → Around
around s = record { world = s.world; low = s.alloc; bytes = s.memory }

-- a procedure of so many words goes on with this code
abbrev pub st : Around → ℕ → Locals → Code → List Code → List Waiting → Heap → LowState
st world count locals code rests waiting h = record {
  active = record { count = count; locals = locals; code = code; rests = rests };
  waiting = waiting;
  memory = h.memory;
  alloc = h.alloc;
  world = world.world;
  words = h.words;
}

-- statics and region lie behind one another, below the region's end
pub record Placed (setting : Setting) (l : Layout) : Type 0 where
  pub low : 65536 ≤ l.first
  pub even_first : l.first % 8 ≡ 0
  pub even_region : l.region % 8 ≡ 0
  pub before : l.first + bytes_of_all l.statics ≤ l.region
  pub top : setting.top < 2 ^ 64

-- these objects fill the region up to the allocation word, and each is whole
pub record Filled (setting : Setting) (l : Layout) (objects : List Object) (h : Heap) : Type 0 where
  pub objects_stand : Holds h.memory l.region objects
  pub statics_stand : Holds h.memory l.first l.statics
  pub ends : h.alloc ≡ l.region + bytes_of_all objects
  pub fits : h.alloc ≤ setting.top
  pub whole : Wholes l [] objects

module _ (setting : Setting) (l : Layout) (world : Around) where
  -- so they do, and what was there is there
  pub record Fine (objects : List Object) (h : Heap) : Type 0 where
    pub filled : Filled setting l objects h
    pub beyond : world.low ≤ h.alloc
    pub kept : (i : ℕ) → i < world.low → h.memory i ≡ world.bytes i

  -- the region is filled by whole objects, and the world is untouched
  pub record Calm (t : LowState) : Type 0 where
    pub objects : List Object
    pub fine : Fine objects (heap_of t)
    pub same : t.world ≡ world.world

  -- a return of a word that holds the coercion, with objects only added, and with the same procedures waiting
  pub record HeldAt (objects : List Object) (waiting : List Waiting) (c : Coercion) (t : LowState) : Type 0 where
    pub new : List Object
    pub grows : Grows objects new
    pub fine : Fine new (heap_of t)
    pub word : ℕ
    pub held : Held l new c word
    pub source : LowSource
    pub code : t.active.code ≡ Return source
    pub is : word_of t.active.locals source ≡ Some word
    pub waits : t.waiting ≡ waiting
    pub same : t.world ≡ world.world

-- what a run needs: statics and region behind one another, the procedures, and the types
pub record IsReady (setting : Setting) (l : Layout) (first : ℕ) : Type 0 where
  pub placed : Placed setting l
  pub stand : Stand setting.procs first
  pub types : TypesStand l

-- On the way of a procedure that was entered from s: whole objects fill the region, nothing that was there has changed,
-- frames take no more room than those of the procedures that wait, its own and so many more, each of 24 words at most,
-- so many words more were asked for at most, and the next step takes ten turns at most.
pub record OnTheWay (setting : Setting) (l : Layout) (s : LowState) (frames words : ℕ) (t : LowState) : Type 0 where
  pub calm : Calm setting l (around s) t
  pub room : stack_room t ≤ waiting_room s.waiting + 25 * (frames + 1)
  pub asked : t.words ≤ s.words + words
  pub turns : low_turns t ≤ 10

-- where it ends, frames take no more room either, and no more words were asked for
pub record Within (s : LowState) (frames words : ℕ) (t : LowState) : Type 0 where
  pub room : stack_room t ≤ waiting_room s.waiting + 25 * (frames + 1)
  pub asked : t.words ≤ s.words + words

-- Entered with these words the procedure comes to a return of a word that holds the coercion, within so many steps,
-- in the room of its frame and of so many above it, for so many words and at this price, or the region is exhausted
-- before.
abbrev pub ComesToHeld : {V : Type 0} → (Halt → Ending V) → Setting → Layout → LowState → List Object → Proc → List ℕ
    → Coercion → ℕ → ℕ → ℕ → ℕ → Type 0
ComesToHeld reading setting l s objects p given c most frames words price =
    (k : ℕ) × (k ≤ most)
    × Reaches (low_machine reading setting) (OnTheWay setting l s frames words)
    (λ t. Within s frames words t × HeldAt setting l (around s) objects s.waiting c t) k (entered s p given)
    × CostsAtMost reading setting k (entered s p given) price
