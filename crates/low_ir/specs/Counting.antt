-- What a run over words says of its storage: the words that it took, and when it stops for want of region.
use Rattle.std.specs.Prelude.{ℕ, ◌+◌, ◌*◌, ◌%◌, ◌^◌, ◌<◌, ◌≤◌, ◌≡◌, ◌≢◌, ◌⊎◌, ◌==◌, ◌||◌, Bool, false, List, [], ◌∷◌}
use Rattle.std.specs.Prelude.{None, Some}
use Rattle.grift_base.specs.declared.environment.TheConstants.{REGION_OUT_CALL}
use Rattle.run_laws.specs.Runs.{Ending, Wrong, Moment}
use Rattle.machine_words.specs.Halts.{Halt, Lacks, Region}
use Rattle.low_ir.specs.Procedures.{Code, Done, Set, Compute, Load, Store, CodeOf, Build, Request, Take, Environment}
use Rattle.low_ir.specs.Procedures.{Call, CallAt, If, Return, TailCall, TailCallAt, Proc}
use Rattle.low_ir.specs.Run.{Setting, LowShown}

-- whether a code makes the environment call of a number
abbrev pub calls : ℕ → Code → Bool
calls number Done = false
calls number (Set d a rest) = calls number rest
calls number (Compute op d a b rest) = calls number rest
calls number (Load d a offset rest) = calls number rest
calls number (Store b a offset rest) = calls number rest
calls number (CodeOf d k rest) = calls number rest
calls number (Build d args rest) = calls number rest
calls number (Request d a rest) = calls number rest
calls number (Take a rest) = calls number rest
calls number (Environment n a b d e rest) = (n % 2 ^ 64 == number) || calls number rest
calls number (Call d k args rest) = calls number rest
calls number (CallAt d f args rest) = calls number rest
calls number (If cond a b one other rest) = calls number one || (calls number other || calls number rest)
calls number (Return a) = false
calls number (TailCall k args) = false
calls number (TailCallAt f args) = false

-- whether any procedure does
abbrev pub any_calls : ℕ → List Proc → Bool
any_calls number [] = false
any_calls number (p ∷ ps) = calls number p.code || any_calls number ps

-- the words that were taken fill the region from its start to the allocation word
pub record FillsUpTo (setting : Setting) (shown : LowShown) : Type 0 where
  pub taken : shown.alloc ≡ setting.region + 8 * shown.words
  pub fits : shown.alloc ≤ setting.top

-- they don't fit into the region
abbrev pub Exceeds : Setting → LowShown → Type 0
Exceeds setting shown = setting.top < setting.region + 8 * shown.words

-- an ending that is a stop, and that of want of region alone
pub record IsWantOfRegion {V : Type 0} (reading : Halt → Ending V) (e : Ending V) : Type 0 where
  pub right : e ≢ Wrong
  pub alone : (halt : Halt) → reading halt ≡ e → halt ≡ Lacks Region

-- of what a run has come to
pub record CountsWords {V : Type 0} (reading : Halt → Ending V) (setting : Setting) (x : Moment LowShown V) :
    Type 0 where
  -- while it goes on
  pub going : x.ending ≡ None → FillsUpTo setting x.shown
  -- where it has ended so too, or it has stopped for want of region as what was asked for doesn't fit
  pub ended : (e : Ending V) → x.ending ≡ Some e
      → FillsUpTo setting x.shown ⊎ ((e ≡ reading (Lacks Region)) × Exceeds setting x.shown)
  -- and where it has stopped for want of region, that was so, unless the program itself makes the environment call
  -- by which code gives up for want of it
  pub lacking : any_calls REGION_OUT_CALL setting.procs ≡ false → (e : Ending V) → x.ending ≡ Some e
      → IsWantOfRegion reading e → Exceeds setting x.shown
