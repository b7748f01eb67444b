-- What stands in memory for a scheme's casts, and what is shown of the program over words that is made with it.
use Rattle.std.specs.Prelude.{◌≡◌, ◌+◌, ◌*◌, ◌%◌, ◌^◌, ◌<◌, ◌≤◌, ℕ, suc, true, All, List, length, Some, slice_get}
use Rattle.grift_base.specs.Types.{TypeRow, TypeRows, row_at}
use Rattle.grift_base.specs.declared.words.Statics.{Statics}
use Rattle.run_laws.specs.Accounts.{FollowsWithin}
use Rattle.run_laws.specs.Machines.{run}
use Rattle.run_laws.specs.Meters.{metered, unspent}
use Rattle.run_laws.specs.Runs.{Any, FollowsBy, NeverWrong}
use Rattle.machine_words.specs.Halts.{ending_of}
use Rattle.machine_words.specs.Memory.{Memory, first_address}
use Rattle.low_ir.specs.declared.programs.LowProgram.{LowProgram}
use Rattle.low_ir.specs.Closed.{is_closed}
use Rattle.low_ir.specs.Prices.{low_price}
use Rattle.low_ir.specs.Procedures.{Proc as LowProc}
use Rattle.low_ir.specs.Run.{Setting, low_machine, low_start}
use Rattle.low_ir.specs.Views.{procs_of}
use Rattle.core_calc.specs.Account.{Measures}
use Rattle.cast_modes.specs.AnswerTypes.{Told}
use Rattle.cast_modes.specs.Modes.{TypeCast}
use Rattle.coercion_norm.specs.Held.{Layout, TypesStand}
use Rattle.coercion_norm.specs.Objects.{words_of_all}
use Rattle.flat_ir.specs.declared.programs.FlatProgram.{FlatProgram}
use Rattle.flat_ir.specs.Closed.{is_closed as is_closed_flat}
use Rattle.flat_ir.specs.Counts.{flat_run_in}
use Rattle.flat_ir.specs.FlatTally.{flat_tally_in}
use Rattle.flat_ir.specs.Machine.{first_world}
use Rattle.flat_ir.specs.Views.{procs_of as flat_procs_of}
use Rattle.rt_cast.specs.Objects.{HoldsWords}
use Rattle.lowered_code.specs.declared.served.Served.{Served}
use Rattle.lowered_code.specs.CastWays.{cast_ways}
use Rattle.lower.specs.Keeping.{FitsMeasures, KeepsFlat, PaysFlat}
use Rattle.lower.specs.Meanings.{Meaning}
use Rattle.lowered_code.specs.Lowered.{lowered}
use Rattle.lower.specs.Sets.{with_casts}
use Rattle.lower.specs.SimulationClaims.{AreCodeAddresses}
use Rattle.lower.specs.Storage.{Passes}

-- Statics serve a scheme, where a region follows them: they are the words of the static objects that runs are told of,
-- types stand among these, and the words that are told for casts are those that the scheme hands on.
pub record StaticsServe (meaning : Meaning) (types : TypeRows) (casts : List TypeCast) (start : ℕ) (statics : Statics)
    (region : ℕ) (l : Layout) : Type 0 where
  pub types_are : l.types ≡ types
  pub first_is : l.first ≡ start
  pub region_is : l.region ≡ region
  pub says : statics.words ≡ words_of_all l.statics
  pub types_stand : TypesStand l
  pub cast_words : meaning.CastWords l casts statics.cast_at

-- A program over words is loaded: its procedures are those of the setting, with code addresses that are words and tell
-- them apart, and its statics stand from the first address of memory on. Somewhere behind them is the region, which
-- ends below 2^34, since a vector's header counts by 32 bits.
pub record IsLoaded (setting : Setting) (low : LowProgram) (memory : Memory) : Type 0 where
  pub procs_are : setting.procs ≡ procs_of low.procs
  pub addresses : AreCodeAddresses setting.procs setting.address
  pub statics_stand : HoldsWords memory first_address low.statics.words
  pub behind : first_address + 8 * length low.statics.words ≤ setting.region
  pub even : setting.region % 8 ≡ 0
  pub fits : setting.region ≤ setting.top
  pub small : setting.top < 2 ^ 34

-- the procedures of the program over words are the lowered ones, and behind them those that serve
abbrev pub HasProcs : (ℕ → List LowProc) → (ℕ → Served) → FlatProgram → TypeRows → List TypeCast → LowProgram → Type 0
HasProcs procs_from numbers_from flat types casts low =
    (answer : TypeRow) → row_at types flat.answer.0 ≡ Some answer
    → let first : ℕ = suc (length flat.procs) in
    procs_of low.procs
    ≡ lowered (with_casts (numbers_from first) low.statics.cast_at (cast_ways types casts)) (flat_procs_of flat.procs)
    flat.entry answer (procs_from first)

-- it is closed where the flat program is
abbrev pub StaysClosed : FlatProgram → LowProgram → Type 0
StaysClosed flat low =
    is_closed_flat (flat_procs_of flat.procs) flat.entry ≡ true → is_closed (procs_of low.procs) low.entry ≡ true

-- what the run of the numbered procedures is told
abbrev pub told_in : Setting → TypeRows → ℕ → Told
told_in setting types answer = record { labels = setting.labels; types = types; answer = answer }

module _ (meaning : Meaning) (layout : ℕ → Layout) (flat : FlatProgram) (types : TypeRows) (casts : List TypeCast)
    (low : LowProgram) where
  -- Wherever the program over words is loaded, its run from its first procedure on follows the run of the numbered
  -- procedures in the mode of the scheme, for every input, where that never goes wrong; and at each moment the scheme's
  -- test holds of the region and the number of wrap steps.
  abbrev pub MadeFollows : Type 0
  MadeFollows =
      (setting : Setting) (memory : Memory) (first : LowProc) (input : List ℕ) → IsLoaded setting low memory
      → slice_get (procs_of low.procs) low.entry ≡ Some first
      → let numbered =
      flat_run_in (flat_procs_of flat.procs) flat.entry (meaning.mode types casts)
      (told_in setting types flat.answer.0) input in
      NeverWrong numbered
      → FollowsBy (λ shown counts. Passes meaning setting (layout setting.region) shown counts.wraps) Any
      (run (low_machine ending_of setting) (low_start setting first memory (first_world input))) numbered

  -- And it keeps within the account of that run, for all measures that fit, where no procedure has more than so many
  -- words.
  abbrev pub MadeKeeps : Type 0
  MadeKeeps =
      (setting : Setting) (memory : Memory) (first : LowProc) (m : Measures) (most : ℕ) (input : List ℕ)
      → IsLoaded setting low memory → slice_get (procs_of low.procs) low.entry ≡ Some first
      → FitsMeasures (layout setting.region) m → All (λ (p : LowProc). p.words ≤ most) setting.procs
      → NeverWrong (flat_run_in (flat_procs_of flat.procs) flat.entry (meaning.mode types casts)
      (told_in setting types flat.answer.0) input)
      → FollowsWithin (KeepsFlat setting (meaning.serving (layout setting.region)) most) PaysFlat
      (run (metered (low_price setting.procs) (low_machine ending_of setting))
      (unspent (low_start setting first memory (first_world input))))
      (flat_tally_in (flat_procs_of flat.procs) flat.entry (meaning.mode types casts) (meaning.prices types casts m)
      (told_in setting types flat.answer.0) input)
