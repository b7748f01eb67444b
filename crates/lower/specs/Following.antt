-- What a scheme does for a program, by its procedures and in place, and what is shown of the run over words.
use Rattle.std.specs.Prelude.{◌≡◌, ◌^◌, ◌<◌, ◌≤◌, ℕ, suc, true, All, List, length, Some}
use Rattle.grift_base.specs.Types.{TypeRow, row_at}
use Rattle.run_laws.specs.Runs.{Any, FollowsBy, NeverWrong}
use Rattle.run_laws.specs.Accounts.{FollowsWithin}
use Rattle.run_laws.specs.Machines.{run}
use Rattle.run_laws.specs.Meters.{metered, unspent}
use Rattle.machine_words.specs.Halts.{ending_of}
use Rattle.machine_words.specs.Memory.{Memory}
use Rattle.low_ir.specs.Prices.{low_price}
use Rattle.low_ir.specs.Procedures.{Proc as LowProc}
use Rattle.low_ir.specs.Run.{Setting, LowShown, low_machine, low_start}
use Rattle.core_calc.specs.Account.{Measures}
use Rattle.cast_modes.specs.AnswerTypes.{Told}
use Rattle.cast_modes.specs.Counting.{Counts}
use Rattle.cast_modes.specs.Modes.{TypeCast}
use Rattle.coercion_norm.specs.Held.{Layout, TypesStand}
use Rattle.flat_ir.specs.Bodies.{Proc}
use Rattle.flat_ir.specs.Closed.{is_closed}
use Rattle.flat_ir.specs.Counts.{flat_run_in}
use Rattle.flat_ir.specs.FlatTally.{flat_tally_in}
use Rattle.flat_ir.specs.Machine.{first_world}
use Rattle.rt_cast.specs.States.{Placed}
use Rattle.lowered_code.specs.declared.served.Served.{Served}
use Rattle.lowered_code.specs.CastWays.{cast_ways}
use Rattle.lower.specs.Keeping.{FitsMeasures, KeepsFlat, PaysFlat}
use Rattle.lowered_code.specs.Lowered.{entry_proc}
use Rattle.lower.specs.Meanings.{Meaning}
use Rattle.lower.specs.Storage.{Passes}
use Rattle.lower.specs.SchemeLaws.{CastsMade, CastsHaveWords, CastsInPlace, PartsGiven}
use Rattle.lower.specs.SchemeLaws.{CellsServed, CallsMade}
use Rattle.lower.specs.Sets.{StandFrom, with_casts}
use Rattle.lower.specs.SimulationClaims.{AreNarrow, IsLowered}
use Rattle.lower.specs.SimulationServices.{AnswerProducts}

-- all that a scheme is asked for: of its procedures, and of casts that are made in place
pub record Serving (meaning : Meaning) (setting : Setting) (l : Layout) (procs : List Proc) (casts : List TypeCast)
    (m : Measures) (run_by : Served) : Type 0 where
  pub products : AnswerProducts setting run_by
  pub casting : CastsMade meaning setting l procs casts m run_by
  pub words : CastsHaveWords meaning setting l procs casts m run_by
  pub made_in_place : CastsInPlace meaning setting l procs casts m run_by
  pub parts : PartsGiven meaning setting l procs casts m run_by
  pub cells : CellsServed meaning setting l procs casts m run_by
  pub calling : CallsMade meaning setting l procs casts m run_by

-- So they do wherever they stand, by these numbers, for all measures that fit. A header counts the elements of a vector
-- by 32 bits, so memory has an end.
abbrev pub ServesEverywhere : Meaning → (ℕ → List LowProc) → (ℕ → Served) → Type 0
ServesEverywhere meaning procs_from numbers_from =
    (setting : Setting) (l : Layout) (procs : List Proc) (casts : List TypeCast) (m : Measures) (first : ℕ)
    (words : List ℕ) → FitsMeasures l m → Placed setting l → l.region ≡ setting.region → setting.top < 2 ^ 34
    → TypesStand l
    → meaning.CastWords l casts words → StandFrom setting.procs first (procs_from first)
    → Serving meaning setting l procs casts m (with_casts (numbers_from first) words (cast_ways l.types casts))

-- The run over words of a lowered program, with the procedures of a scheme behind it, follows the run of its procedures
-- in the mode of the scheme, for every input, where that never goes wrong; and at each moment this holds of the state
-- that the run over words shows, and of the numbers of steps at the moment that corresponds.
abbrev pub WordsFollowBy : (Setting → Layout → LowShown → Counts → Type 0) → Meaning → (ℕ → List LowProc)
    → (ℕ → Served) → Type 0
WordsFollowBy Holds meaning procs_from numbers_from =
    (setting : Setting) (l : Layout) (words : List ℕ) (procs : List Proc) (entry : ℕ) (answer : TypeRow)
    (memory : Memory) (told : Told) (casts : List TypeCast) (input : List ℕ) → let first : ℕ = suc (length procs) in
    IsLowered setting l (with_casts (numbers_from first) words (cast_ways l.types casts)) procs entry answer
    (procs_from first) memory → setting.top < 2 ^ 34 → setting.labels ≡ told.labels
    → row_at told.types told.answer ≡ Some answer
    → told.types ≡ l.types → TypesStand l → meaning.CastWords l casts words → is_closed procs entry ≡ true
    → AreNarrow procs
    → NeverWrong (flat_run_in procs entry (meaning.mode told.types casts) told input)
    → FollowsBy (Holds setting l) Any
    (run (low_machine ending_of setting) (low_start setting (entry_proc entry answer) memory (first_world input)))
    (flat_run_in procs entry (meaning.mode told.types casts) told input)

-- so it does, and at each moment the scheme's test holds of the region and the number of wrap steps
abbrev pub WordsFollow : Meaning → (ℕ → List LowProc) → (ℕ → Served) → Type 0
WordsFollow meaning procs_from numbers_from =
    WordsFollowBy (λ setting l shown counts. Passes meaning setting l shown counts.wraps) meaning procs_from
    numbers_from

-- It keeps within the account of that run, for all measures that fit, where no procedure has more than so many words:
-- at each moment in words asked for and in frames, and where it has come to what that run has come to, in the prices of
-- its steps.
abbrev pub WordsKeep : Meaning → (ℕ → List LowProc) → (ℕ → Served) → Type 0
WordsKeep meaning procs_from numbers_from =
    (setting : Setting) (l : Layout) (words : List ℕ) (procs : List Proc) (entry : ℕ) (answer : TypeRow)
    (memory : Memory) (told : Told) (casts : List TypeCast) (m : Measures) (most : ℕ) (input : List ℕ)
    → let first : ℕ = suc (length procs) in
    IsLowered setting l (with_casts (numbers_from first) words (cast_ways l.types casts)) procs entry answer
    (procs_from first) memory → setting.top < 2 ^ 34 → setting.labels ≡ told.labels
    → row_at told.types told.answer ≡ Some answer
    → told.types ≡ l.types → TypesStand l → FitsMeasures l m → meaning.CastWords l casts words
    → is_closed procs entry ≡ true → AreNarrow procs
    → All (λ (p : LowProc). p.words ≤ most) setting.procs
    → NeverWrong (flat_run_in procs entry (meaning.mode told.types casts) told input)
    → FollowsWithin (KeepsFlat setting (meaning.serving l) most) PaysFlat
    (run (metered (low_price setting.procs) (low_machine ending_of setting))
    (unspent (low_start setting (entry_proc entry answer) memory (first_world input))))
    (flat_tally_in procs entry (meaning.mode told.types casts) (meaning.prices told.types casts m) told input)
