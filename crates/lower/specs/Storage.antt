-- Storage as a scheme tests it.
use Rattle.std.specs.Prelude.{◌≡◌, ℕ, ◌+◌, ◌≤◌, List}
use Rattle.low_ir.specs.Run.{Setting, LowShown}
use Rattle.coercion_norm.specs.Objects.{Object, bytes_of_all}
use Rattle.coercion_norm.specs.Held.{Layout}
use Rattle.rt_cast.specs.Objects.{Holds}
use Rattle.rt_cast.specs.States.{Heap}
use Rattle.lower.specs.Meanings.{Meaning}

-- these objects fill the region up to the allocation word, and the test holds of them and the number
pub record Filled (meaning : Meaning) (setting : Setting) (l : Layout) (number : ℕ) (objects : List Object) (h : Heap)
    : Type 0 where
  pub objects_stand : Holds h.memory l.region objects
  pub statics_stand : Holds h.memory l.first l.statics
  pub ends : h.alloc ≡ l.region + bytes_of_all objects
  pub fits : h.alloc ≤ setting.top
  pub keeps : meaning.Keeps l objects number

-- so it is in what is shown
abbrev pub Passes : Meaning → Setting → Layout → LowShown → ℕ → Type 0
Passes meaning setting l shown number =
    (objects : List Object)
    × Filled meaning setting l number objects
    (record { memory = shown.memory; alloc = shown.alloc; words = shown.words })
