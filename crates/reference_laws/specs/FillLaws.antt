-- What the making of a vector comes to.
use Rattle.std.specs.Prelude.{◌≡◌, ℕ, ◌+◌, ◌≤◌, List, [], ◌∷◌, ◌++◌, Some, replicate}
use Rattle.run_laws.specs.Runs.{Ending}
use Rattle.run_laws.specs.Machines.{Reaches}
use Rattle.machine_words.specs.Halts.{Halt}
use Rattle.low_ir.specs.declared.code.LowSource.{LowSource}
use Rattle.low_ir.specs.Procedures.{Return, Proc}
use Rattle.low_ir.specs.Prices.{CostsAtMost}
use Rattle.low_ir.specs.Run.{Setting, LowState, word_of, low_machine, entered}
use Rattle.object_layout.specs.declared.kinds.Kind.TheVariants.{Vector}
use Rattle.object_layout.specs.Kinds.{kind_number}
use Rattle.coercion_norm.specs.Objects.{Object, Cell, object_at}
use Rattle.coercion_norm.specs.ObjectsOfRows.{header}
use Rattle.coercion_norm.specs.Held.{Layout}
use Rattle.rt_cast.specs.Objects.{HoldsWords}
use Rattle.rt_cast.specs.States.{Fine, OnTheWay, around, heap_of}

module _ (setting : Setting) (l : Layout) (s : LowState) (objects : List Object) (n w : ℕ) where
  -- a return of the address of a new vector, behind all others, of so many times this word, by a procedure of
  -- 24 words at most
  pub record MadeAt (t : LowState) : Type 0 where
    pub fine : Fine setting l (around s) (objects ++ Cell (header (kind_number Vector) 0 n) n ∷ []) (heap_of t)
    pub there :
        object_at (objects ++ Cell (header (kind_number Vector) 0 n) n ∷ []) l.region s.alloc
        ≡ Some (Cell (header (kind_number Vector) 0 n) n)
    pub held : HoldsWords t.memory (s.alloc + 8) (replicate n w)
    pub taken : t.words ≡ s.words + (n + 1)
    pub source : LowSource
    pub code : t.active.code ≡ Return source
    pub is : word_of t.active.locals source ≡ Some s.alloc
    pub small : t.active.count ≤ 24
    pub waits : t.waiting ≡ s.waiting
    pub same : t.world ≡ s.world

-- Entered with these words the procedure comes to that, within so many steps and at this price, or the region is
-- exhausted before. On the way frames take the room of its own and of one above it, and no more words are asked for
-- than the vector has.
abbrev pub ComesToVector : {V : Type 0} → (Halt → Ending V) → Setting → Layout → LowState → List Object → Proc → ℕ → ℕ
    → ℕ → ℕ → Type 0
ComesToVector reading setting l s objects p n w most price =
    (k : ℕ) × (k ≤ most)
    × Reaches (low_machine reading setting) (OnTheWay setting l s 1 (n + 1)) (MadeAt setting l s objects n w) k
    (entered s p (n ∷ w ∷ []))
    × CostsAtMost reading setting k (entered s p (n ∷ w ∷ [])) price
