-- Lowered programs, as the simulation is told them.
use Rattle.core_calc.specs.Account.{Measures}
use Rattle.std.specs.Prelude.{max, All, ◌≤◌}
use Rattle.std.proofs.Common.{le_refl, arith}
use Rattle.lower.specs.Keeping.{FitsMeasures, KeepsFlat, PaysFlat}
use Rattle.std.proofs.Common.{◌≡◌, ℕ, zero, suc, List, [], ◌∷◌, ◌++◌, length, Some, true, sym, ap, ◌∙◌, subst}
use Rattle.std.proofs.Common.{slice_get, map}
use Rattle.grift_base.specs.Types.{TypeRow, row_at}
use Rattle.run_laws.specs.Accounts.{FollowsWithin}
use Rattle.run_laws.specs.Runs.{Any, FollowsBy, NeverWrong}
use Rattle.run_laws.specs.Machines.{run}
use Rattle.run_laws.specs.Meters.{metered, unspent}
use Rattle.machine_words.specs.Halts.{ending_of}
use Rattle.machine_words.specs.Memory.{Memory}
use Rattle.low_ir.specs.Prices.{low_price}
use Rattle.low_ir.specs.Procedures.{Proc as LowProc}
use Rattle.low_ir.specs.Run.{Setting, low_machine, low_start}
use Rattle.cast_modes.specs.AnswerTypes.{Told}
use Rattle.cast_modes.specs.Modes.{TypeCast}
use Rattle.flat_ir.specs.Bodies.{Proc}
use Rattle.flat_ir.specs.Closed.{is_closed, takes_nothing, each_closed}
use Rattle.flat_ir.specs.Counts.{flat_run_in}
use Rattle.flat_ir.specs.FlatTally.{flat_tally_in}
use Rattle.flat_ir.specs.Machine.{first_world}
use Rattle.coercion_norm.specs.Held.{Layout, TypesStand}
use Rattle.lowered_code.specs.declared.served.Served.{Served}
use Rattle.lowered_code.specs.Lowered.{low_proc, entry_proc}
use Rattle.lowered_code.specs.CastWays.{cast_ways}
use Rattle.lower.specs.Meanings.{Meaning, MeaningLaws}
use Rattle.lower.specs.Storage.{Passes}
use Rattle.lower.specs.Sets.{StandFrom, with_casts}
use Rattle.lower.specs.Following.{Serving, ServesEverywhere, WordsFollow, WordsKeep}
use Rattle.lower.specs.SimulationClaims.{AreNarrow, IsLowered}
use Rattle.lower.proofs.Sets.{stand_behind}
use Rattle.lower.proofs.heap.Objects.{none_some, same_some}
use Rattle.lower.proofs.words.Operands.{and_true}
use Rattle.lower.proofs.simulation.Account.{words_keep}
use Rattle.lower.proofs.simulation.Way.{Program}
use Rattle.lower.proofs.simulation.Following.{words_follow}

-- a procedure stands where its flat one does
lowered_at : (run : Served) (procs : List Proc) (behind : List LowProc) (k : ℕ) (p : Proc)
    → slice_get procs k ≡ Some p → slice_get (map (low_proc run) procs ++ behind) k ≡ Some (low_proc run p)
lowered_at run [] behind k p e = none_some e
lowered_at run (q ∷ procs) behind zero p e = ap (λ x. Some (low_proc run x)) (same_some q p e)
lowered_at run (q ∷ procs) behind (suc k) p e = lowered_at run procs behind k p e

module _ (meaning : Meaning) (laws : MeaningLaws meaning) (setting : Setting) (l : Layout) (run_by : Served)
    (procs : List Proc) (entry : ℕ) (answer : TypeRow) (serving : List LowProc) (memory : Memory) (told : Told)
    (casts : List TypeCast) (is : IsLowered setting l run_by procs entry answer serving memory)
    (labels : setting.labels ≡ told.labels) (row : row_at told.types told.answer ≡ Some answer)
    (closed : is_closed procs entry ≡ true) (narrow : AreNarrow procs)
    (types : told.types ≡ l.types) (m : Measures) (does : Serving meaning setting l procs casts m run_by) where
  both : (takes_nothing (slice_get procs entry) ≡ true) × (each_closed procs procs ≡ true)
  both = and_true (takes_nothing (slice_get procs entry)) (each_closed procs procs) closed

  program : Program
  program = record {
    meaning = meaning;
    laws = laws;
    number = 0;
    setting = setting;
    l = l;
    placed = is.placed;
    begins = is.begins;
    run = run_by;
    procs = procs;
    answer = answer;
    casts = casts;
    measured = m;
    told = told;
    answer_is = row;
    labels_are = labels;
    types_are = types;
    stand = λ k p e.
        ap (λ ps. slice_get ps k) is.procs_are
        ∙ lowered_at run_by procs (entry_proc entry answer ∷ serving) k p e;
    addresses = is.addresses;
    closed = both.1;
    narrow = narrow;
    serves = does;
  }

  by_layout : TypesStand l → (input : List ℕ) → NeverWrong (flat_run_in procs entry (meaning.mode l.types casts) told
      input)
      → FollowsBy (λ shown counts. Passes meaning setting l shown counts.wraps) Any
      (run (low_machine ending_of setting) (low_start setting (entry_proc entry answer) memory (first_world input)))
      (flat_run_in procs entry (meaning.mode l.types casts) told input)
  unfolding program
  by_layout typed input never = words_follow program typed entry both.0 memory is.statics is.fits input never

  keeps_by_layout : TypesStand l → (most : ℕ) → All (λ (p : LowProc). p.words ≤ most) setting.procs
      → (input : List ℕ)
      → NeverWrong (flat_run_in procs entry (meaning.mode l.types casts) told input)
      → FollowsWithin (KeepsFlat setting (meaning.serving l) most) PaysFlat
      (run (metered (low_price setting.procs) (low_machine ending_of setting))
      (unspent (low_start setting (entry_proc entry answer) memory (first_world input))))
      (flat_tally_in procs entry (meaning.mode l.types casts) (meaning.prices l.types casts m) told input)
  unfolding program
  keeps_by_layout typed most sized input never =
      words_keep program typed most sized entry both.0 memory is.statics is.fits input never

-- measures that fit a layout
fitting : Layout → Measures
fitting l = record { size = 0; height = l.tallest; width = max 2 l.width }

it_fits : (l : Layout) → FitsMeasures l (fitting l)
unfolding fitting
it_fits l = record { wide = grind arith; two = grind arith; tall = le_refl l.tallest }

-- for every scheme that owes what the law asks of it
pub words_follow_by : (meaning : Meaning) → MeaningLaws meaning → (procs_from : ℕ → List LowProc)
    (numbers_from : ℕ → Served) → ServesEverywhere meaning procs_from numbers_from
    → WordsFollow meaning procs_from numbers_from
words_follow_by meaning laws procs_from numbers_from serves = λ setting l words procs entry answer memory told casts
    input is small labels row types typed held closed narrow never.
    let first = suc (length procs) in
    let run_by = with_casts (numbers_from first) words (cast_ways l.types casts) in
    let stand : StandFrom setting.procs first (procs_from first) =
    subst (λ ps. StandFrom ps first (procs_from first)) (sym is.procs_are)
    (stand_behind run_by procs entry answer (procs_from first)) in
    subst (λ rows. FollowsBy (λ shown counts. Passes meaning setting l shown counts.wraps) Any
    (run (low_machine ending_of setting) (low_start setting (entry_proc entry answer) memory (first_world input)))
    (flat_run_in procs entry (meaning.mode rows casts) told input)) (sym types)
    (by_layout meaning laws setting l run_by procs entry answer (procs_from first) memory told casts is labels row
    closed narrow types (fitting l)
    (serves setting l procs casts (fitting l) first words (it_fits l) is.placed is.begins small typed held stand) typed
    input
    (subst (λ rows. NeverWrong (flat_run_in procs entry (meaning.mode rows casts) told input)) types never))

pub words_keep_by : (meaning : Meaning) → MeaningLaws meaning → (procs_from : ℕ → List LowProc)
    (numbers_from : ℕ → Served) → ServesEverywhere meaning procs_from numbers_from
    → WordsKeep meaning procs_from numbers_from
words_keep_by meaning laws procs_from numbers_from serves = λ setting l words procs entry answer memory told casts m
    most input is small labels row types typed fits held closed narrow sized never.
    let first = suc (length procs) in
    let run_by = with_casts (numbers_from first) words (cast_ways l.types casts) in
    let stand : StandFrom setting.procs first (procs_from first) =
    subst (λ ps. StandFrom ps first (procs_from first)) (sym is.procs_are)
    (stand_behind run_by procs entry answer (procs_from first)) in
    subst (λ rows. FollowsWithin (KeepsFlat setting (meaning.serving l) most) PaysFlat
    (run (metered (low_price setting.procs) (low_machine ending_of setting))
    (unspent (low_start setting (entry_proc entry answer) memory (first_world input))))
    (flat_tally_in procs entry (meaning.mode rows casts) (meaning.prices rows casts m) told input)) (sym types)
    (keeps_by_layout meaning laws setting l run_by procs entry answer (procs_from first) memory told casts is labels row
    closed narrow types m
    (serves setting l procs casts m first words fits is.placed is.begins small typed held stand) typed most sized
    input
    (subst (λ rows. NeverWrong (flat_run_in procs entry (meaning.mode rows casts) told input)) types never))
