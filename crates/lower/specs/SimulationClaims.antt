-- What is asked of a lowered program where it runs, and what is shown of its run.
use Rattle.std.specs.Prelude.{◌≡◌, ℕ, suc, ◌^◌, ◌<◌, ◌≤◌, List, Some, slice_get}
use Rattle.grift_base.specs.Types.{TypeRow}
use Rattle.machine_words.specs.Memory.{Memory}
use Rattle.low_ir.specs.Procedures.{Proc}
use Rattle.low_ir.specs.Run.{Setting, LowShown}
use Rattle.flat_ir.specs.Bodies.{Proc as FlatProc}
use Rattle.coercion_norm.specs.Objects.{Object}
use Rattle.rt_cast.specs.Objects.{Holds}
use Rattle.coercion_norm.specs.Held.{Layout}
use Rattle.cast_modes.specs.Counting.{Counts}
use Rattle.rt_cast.specs.States.{Placed, Filled}
use Rattle.rt_cast.specs.ToldRows.{IsFilled}
use Rattle.lowered_code.specs.declared.served.Served.{Served}
use Rattle.lowered_code.specs.Lowered.{lowered}

-- what a group captures and how many functions it has is counted by numbers of 32 bits, and one more than the first
abbrev pub AreNarrow : List FlatProc → Type 0
AreNarrow procs =
    (k : ℕ) (p : FlatProc) → slice_get procs k ≡ Some p → (suc p.captured < 4294967296) × (p.group < 4294967296)

-- code addresses are words, and no two procedures have the same
pub record AreCodeAddresses (procs : List Proc) (address : ℕ → ℕ) : Type 0 where
  pub small : (k : ℕ) (p : Proc) → slice_get procs k ≡ Some p → address k < 2 ^ 64
  pub once : (j k : ℕ) (p q : Proc) → slice_get procs j ≡ Some p → slice_get procs k ≡ Some q
      → address j ≡ address k → j ≡ k

-- the lowered program, and behind it the procedures that serve, run where statics and region are
pub record IsLowered (setting : Setting) (l : Layout) (run : Served) (procs : List FlatProc) (entry : ℕ)
    (answer : TypeRow) (serving : List Proc) (memory : Memory) : Type 0 where
  pub procs_are : setting.procs ≡ lowered run procs entry answer serving
  pub addresses : AreCodeAddresses setting.procs setting.address
  pub placed : Placed setting l
  pub begins : l.region ≡ setting.region
  pub fits : setting.region ≤ setting.top
  pub statics : Holds memory l.first l.statics

-- whole objects fill the region up to the allocation word
abbrev pub StorageIsWhole : Setting → Layout → LowShown → Counts → Type 0
StorageIsWhole setting l shown counts =
    (objects : List Object)
    × Filled setting l objects (record { memory = shown.memory; alloc = shown.alloc; words = shown.words })

-- so a walk of the region finds a row of whole objects without gaps
abbrev pub RegionIsRow : Setting → Layout → LowShown → Counts → Type 0
RegionIsRow setting l shown counts = IsFilled setting.top shown.memory l.region shown.alloc
