-- What reads and writes come to, and what traps in place of them.
use Rattle.std.specs.Prelude.{◌≡◌, ◌⊎◌, ℕ, ◌+◌, ◌*◌, ◌≤◌, List, length, Option, Some, None, option_map}
use Rattle.grift_base.specs.declared.verdicts.Trap.{Trap}
use Rattle.grift_base.specs.declared.verdicts.Verdict.TheVariants.{Trap as TrapVerdict}
use Rattle.run_laws.specs.Runs.{Ending}
use Rattle.run_laws.specs.Machines.{Stop, Reaches}
use Rattle.machine_words.specs.Memory.{Memory, store_bytes}
use Rattle.machine_words.specs.Halts.{Halt, Ended}
use Rattle.low_ir.specs.declared.code.LowSource.{LowSource}
use Rattle.low_ir.specs.Procedures.{Return, Proc}
use Rattle.low_ir.specs.Prices.{CostsAtMost}
use Rattle.low_ir.specs.Run.{Setting, LowState, word_of, low_machine, low_turns, code_step, entered}
use Rattle.object_layout.specs.declared.kinds.Kind.TheVariants.{Boxed, Vector}
use Rattle.object_layout.specs.Kinds.{kind_number}
use Rattle.coercion_norm.specs.Coercions.{Coercion, Id}
use Rattle.coercion_norm.specs.MergedMode.{cell_coercion}
use Rattle.coercion_norm.specs.Objects.{Object, Cell, object_at}
use Rattle.coercion_norm.specs.ObjectsOfRows.{header}
use Rattle.coercion_norm.specs.Held.{Layout, There}
use Rattle.low_ir.specs.Frames.{stack_room, waiting_room}
use Rattle.rt_cast.specs.Objects.{HoldsWords}
use Rattle.rt_cast.specs.States.{Heap, Grows, Filled, Fine, OnTheWay, Within, around, heap_of}
use Rattle.rt_cast.specs.MergedValues.{Merged, Base, Solid, Proxied, InDyn, Outcome, Stuck, Gives, Blames}
use Rattle.rt_cast.specs.Carried.{CarriedBy, BlamesAt}

-- what a box or a vector is without its proxy, and the cast of what is read, at 0, or written, at 1
abbrev pub cell_behind : {A : Type 0} → ℕ → Merged A → Option (A × Coercion)
cell_behind k (Solid a) = Some (a, Id)
cell_behind k (Proxied a c) = option_map (λ d. (a, d)) (cell_coercion k c)
cell_behind k (Base head x) = None
cell_behind k (InDyn kept u) = None

-- what stands under a proxy, if there is one
abbrev pub under : {A : Type 0} → Merged A → Option A
under (Solid a) = Some a
under (Proxied a c) = Some a
under (Base head x) = None
under (InDyn kept u) = None

-- a box or a vector of these words stands there
pub record CellStands (l : Layout) (objects : List Object) (m : Memory) (at : ℕ) (words : List ℕ) : Type 0 where
  pub kind : ℕ
  pub one : (kind ≡ kind_number Boxed) ⊎ (kind ≡ kind_number Vector)
  pub there : There l objects at (Cell (header kind 0 (length words)) (length words))
  pub held : HoldsWords m (at + 8) words

-- the same in the region, where its words may be changed
pub record CellInRegion (l : Layout) (objects : List Object) (m : Memory) (at : ℕ) (words : List ℕ) : Type 0 where
  pub kind : ℕ
  pub one : (kind ≡ kind_number Boxed) ⊎ (kind ≡ kind_number Vector)
  pub is : object_at objects l.region at ≡ Some (Cell (header kind 0 (length words)) (length words))
  pub held : HoldsWords m (at + 8) words

-- the next step traps, and changes nothing
pub record TrapsAt {V : Type 0} (reading : Halt → Ending V) (setting : Setting) (l : Layout) (s : LowState)
    (trap : Trap) (t : LowState) : Type 0 where
  pub objects : List Object
  pub fine : Fine setting l (around s) objects (heap_of t)
  pub last : LowState
  pub stops : code_step reading setting t.active.code t ≡ Stop (reading (Ended (TrapVerdict trap))) last
  pub stays : heap_of last ≡ heap_of t
  pub same : t.world ≡ s.world
  pub same_after : last.world ≡ s.world

-- a return of this word, and nothing is changed
pub record TellsAt (setting : Setting) (l : Layout) (s : LowState) (objects : List Object) (word : ℕ) (t : LowState) :
    Type 0 where
  pub fine : Fine setting l (around s) objects (heap_of t)
  pub source : LowSource
  pub code : t.active.code ≡ Return source
  pub is : word_of t.active.locals source ≡ Some word
  pub waits : t.waiting ≡ s.waiting
  pub same : t.world ≡ s.world

module _ {A : Type 0} (setting : Setting) (l : Layout) (s : LowState) (IsHeld : List Object → A → ℕ → Type 0)
    (objects : List Object) where
  -- a return of 0, with the word of a value stored at a place of the cell, and nothing else changed
  pub record WroteAt (a : A) (i : ℕ) (u : Merged A) (t : LowState) : Type 0 where
    pub new : List Object
    pub grows : Grows objects new
    pub filled : Filled setting l new (heap_of t)
    pub before : Heap
    pub fine : Fine setting l (around s) new before
    pub cell : ℕ
    pub held : IsHeld objects a cell
    pub word : ℕ
    pub carried : CarriedBy l IsHeld new u word
    pub memory : t.memory ≡ store_bytes 8 before.memory (cell + 8 * i + 8) word
    pub source : LowSource
    pub code : t.active.code ≡ Return source
    pub is : word_of t.active.locals source ≡ Some 0
    pub waits : t.waiting ≡ s.waiting
    pub same : t.world ≡ s.world

  abbrev pub WriteComes : A → ℕ → Outcome A → LowState → Type 0
  WriteComes a i Stuck t = ⊥
  WriteComes a i (Gives u) t = WroteAt a i u t
  WriteComes a i (Blames label) t = BlamesAt l setting s IsHeld objects label t

-- on the way of a procedure that may change what was there, with the same bounds
pub record OnTheWayWriting (setting : Setting) (l : Layout) (s : LowState) (frames words : ℕ) (t : LowState) :
    Type 0 where
  pub objects : List Object
  pub filled : Filled setting l objects (heap_of t)
  pub same : t.world ≡ s.world
  pub room : stack_room t ≤ waiting_room s.waiting + 25 * (frames + 1)
  pub asked : t.words ≤ s.words + words
  pub turns : low_turns t ≤ 10

-- entered with these words the procedure comes, on such a way, to where Q holds, within so many steps, in the room of
-- its frame and of so many above it, for so many words and at this price, or the region is exhausted before
abbrev ComesOn : {V : Type 0} → (Halt → Ending V) → Setting → LowState → Proc → List ℕ
    → (ℕ → ℕ → LowState → Type 0) → (LowState → Type 0) → ℕ → ℕ → ℕ → ℕ → Type 0
ComesOn reading setting s p given Way Q most frames words price =
    (k : ℕ) × (k ≤ most)
    × Reaches (low_machine reading setting) (Way frames words) (λ t. Within s frames words t × Q t) k
    (entered s p given)
    × CostsAtMost reading setting k (entered s p given) price

-- nothing that was there changes on the way
abbrev pub ComesWhere : {V : Type 0} → (Halt → Ending V) → Setting → Layout → LowState → Proc → List ℕ
    → (LowState → Type 0) → ℕ → ℕ → ℕ → ℕ → Type 0
ComesWhere reading setting l s p given = ComesOn reading setting s p given (OnTheWay setting l s)

-- it may change
abbrev pub ComesWriting : {V : Type 0} → (Halt → Ending V) → Setting → Layout → LowState → Proc → List ℕ
    → (LowState → Type 0) → ℕ → ℕ → ℕ → ℕ → Type 0
ComesWriting reading setting l s p given = ComesOn reading setting s p given (OnTheWayWriting setting l s)
