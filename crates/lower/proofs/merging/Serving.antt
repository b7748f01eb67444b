-- The merged scheme serves, and the run over words of its programs follows the merged mode, within its account.
use Rattle.std.proofs.Common.{◌≡◌, ℕ, suc, ◌+◌, ◌*◌, ◌^◌, ◌<◌, ◌≤◌, true, List, length, Some, refl}
use Rattle.std.specs.Prelude.{All}
use Rattle.grift_base.specs.Types.{TypeRow, row_at}
use Rattle.run_laws.specs.Accounts.{FollowsWithin}
use Rattle.run_laws.specs.Machines.{run}
use Rattle.run_laws.specs.Meters.{metered, unspent}
use Rattle.run_laws.specs.Runs.{Any, FollowsBy, NeverWrong}
use Rattle.run_laws.proofs.Public.{follows_by_weaken}
use Rattle.machine_words.specs.Halts.{ending_of}
use Rattle.machine_words.specs.Memory.{Memory}
use Rattle.low_ir.specs.Prices.{low_price}
use Rattle.low_ir.specs.Procedures.{Proc as LowProc}
use Rattle.low_ir.specs.Run.{Setting, low_machine, low_start}
use Rattle.core_calc.specs.Account.{Measures}
use Rattle.cast_modes.specs.AnswerTypes.{Told}
use Rattle.coercion_norm.specs.Held.{Layout, TypesStand}
use Rattle.coercion_norm.specs.MergedMode.{merging}
use Rattle.cast_modes.specs.Modes.{TypeCast}
use Rattle.flat_ir.specs.Bodies.{Proc}
use Rattle.flat_ir.specs.Closed.{is_closed}
use Rattle.flat_ir.specs.Counts.{flat_run_in}
use Rattle.flat_ir.specs.FlatTally.{flat_tally_in}
use Rattle.coer_core.specs.TurnPrices.{merged_prices}
use Rattle.flat_ir.specs.Machine.{first_world}
use Rattle.rt_cast.proofs.Public.{objects_fill_the_region}
use Rattle.lowered_code.specs.CastWays.{cast_ways}
use Rattle.lower.specs.Following.{ServesEverywhere}
use Rattle.lower.specs.Keeping.{FitsMeasures, KeepsFlat, PaysFlat}
use Rattle.lowered_code.specs.Lowered.{entry_proc}
use Rattle.lower.specs.MergedMeaning.{merged_meaning, MergedCasts}
use Rattle.lower.specs.MergedProcs.{merged_numbers, merged_procs}
use Rattle.lower.specs.Sets.{with_casts}
use Rattle.lower.specs.SimulationClaims.{AreNarrow, IsLowered, RegionIsRow, StorageIsWhole}
use Rattle.lower.proofs.merging.MergedSet.{cast_stand, proxy_stand}
use Rattle.lower.proofs.merging.Calls.{merged_calls_made}
use Rattle.lower.proofs.merging.Cells.{merged_cells_served}
use Rattle.lower.proofs.merging.Casts.{merged_casts_made, merged_casts_have_words}
use Rattle.lower.proofs.merging.Tags.{merged_casts_in_place}
use Rattle.lower.proofs.merging.MeaningLaws.{merged_laws}
use Rattle.lower.proofs.merging.Parts.{merged_parts_given}
use Rattle.lower.proofs.merging.Products.{merged_products}
use Rattle.lower.proofs.merging.States.{filled_of}
use Rattle.lower.proofs.simulation.Programs.{words_follow_by, words_keep_by}

pub merged_procedures_serve : ServesEverywhere merged_meaning merged_procs merged_numbers
merged_procedures_serve = λ setting l procs casts m first words measured placed begins small types held stand.
    let run_by = with_casts (merged_numbers first) words (cast_ways l.types casts) in
    let ready = cast_stand setting.procs first stand in
    let proxies = proxy_stand setting.procs first stand in
    record {
      products = merged_products setting first words (cast_ways l.types casts) stand;
      casting = merged_casts_made setting l procs casts m words first run_by measured placed types held ready refl refl;
      words = merged_casts_have_words setting l procs casts m words run_by held refl;
      made_in_place = merged_casts_in_place setting l procs casts m words run_by measured placed held refl;
      parts = merged_parts_given setting l procs casts m first run_by measured placed types held.tallest ready refl;
      cells = merged_cells_served setting l procs casts m measured words first run_by placed types held ready proxies
          begins small refl refl refl;
      calling = merged_calls_made setting l procs casts m first run_by measured placed types held.tallest ready proxies
          refl;
    }

-- ---- what is told of the run

module _ (setting : Setting) (l : Layout) (words : List ℕ) (procs : List Proc) (entry : ℕ) (answer : TypeRow)
    (memory : Memory) (told : Told) (casts : List TypeCast) (input : List ℕ)
    (is : IsLowered setting l (with_casts (merged_numbers (suc (length procs))) words (cast_ways l.types casts)) procs
    entry answer (merged_procs (suc (length procs))) memory) (small : setting.top < 2 ^ 34)
    (labels : setting.labels ≡ told.labels) (row : row_at told.types told.answer ≡ Some answer)
    (types : told.types ≡ l.types) (typed : TypesStand l) (held : MergedCasts l casts words)
    (closed : is_closed procs entry ≡ true) (narrow : AreNarrow procs)
    (never : NeverWrong (flat_run_in procs entry (merging told.types casts) told input)) where
  -- in whole objects
  pub words_follow_procedures-storage : FollowsBy (StorageIsWhole setting l) Any
      (run (low_machine ending_of setting) (low_start setting (entry_proc entry answer) memory (first_world input)))
      (flat_run_in procs entry (merging told.types casts) told input)
  words_follow_procedures-storage =
      follows_by_weaken (StorageIsWhole setting l) Any
      (λ shown counts x. (
        x.0,
        filled_of setting l counts.wraps x.0
            (record { memory = shown.memory; alloc = shown.alloc; words = shown.words }) x.1,
      )) (λ shown counts x. tt)
      (words_follow_by merged_meaning merged_laws merged_procs merged_numbers merged_procedures_serve setting l words
      procs entry answer memory told casts input is small labels row types typed held closed narrow never)

  -- in a row of them, as a walk finds it
  pub words_follow_procedures-rows : FollowsBy (RegionIsRow setting l) Any
      (run (low_machine ending_of setting) (low_start setting (entry_proc entry answer) memory (first_world input)))
      (flat_run_in procs entry (merging told.types casts) told input)
  words_follow_procedures-rows =
      follows_by_weaken (RegionIsRow setting l) Any
      (λ shown counts x. objects_fill_the_region setting l x.0
      (record { memory = shown.memory; alloc = shown.alloc; words = shown.words }) is.placed typed held.tallest x.1)
      (λ shown counts x. tt) words_follow_procedures-storage

-- within the account of the procedures, in words asked for, in frames and in prices
pub words_keep_the_account : (setting : Setting) (l : Layout) (words : List ℕ) (procs : List Proc) (entry : ℕ)
    (answer : TypeRow) (memory : Memory) (told : Told) (casts : List TypeCast) (m : Measures) (most : ℕ)
    (input : List ℕ)
    → IsLowered setting l (with_casts (merged_numbers (suc (length procs))) words (cast_ways l.types casts)) procs
    entry answer (merged_procs (suc (length procs))) memory → setting.top < 2 ^ 34 → setting.labels ≡ told.labels
    → row_at told.types told.answer ≡ Some answer → told.types ≡ l.types → TypesStand l → FitsMeasures l m
    → MergedCasts l casts words → is_closed procs entry ≡ true → AreNarrow procs
    → All (λ (p : LowProc). p.words ≤ most) setting.procs
    → NeverWrong (flat_run_in procs entry (merging told.types casts) told input)
    → FollowsWithin (KeepsFlat setting (4 * l.tallest + 7) most) PaysFlat
    (run (metered (low_price setting.procs) (low_machine ending_of setting))
    (unspent (low_start setting (entry_proc entry answer) memory (first_world input))))
    (flat_tally_in procs entry (merging told.types casts) (merged_prices told.types (merging told.types casts) m) told
    input)
words_keep_the_account =
    words_keep_by merged_meaning merged_laws merged_procs merged_numbers merged_procedures_serve
