-- The program over words that is made with a scheme follows the numbered procedures wherever it is loaded, within their
-- account.
use Rattle.std.proofs.Common.{◌≡◌, ℕ, zero, suc, ◌<◌, true, List, [], ◌∷◌, ◌++◌, length, map, Some, refl, sym}
use Rattle.std.proofs.Common.{ap, ◌∙◌, subst, slice_get, arith}
use Rattle.std.specs.Prelude.{◌&&◌, ◌%◌, nat_lt}
use Rattle.std.proofs.lemmas.Bool.{and_parts}
use Rattle.std.proofs.lemmas.List.{length-map}
use Rattle.grift_base.specs.Types.{TypeRow, TypeRows, row_at}
use Rattle.run_laws.specs.Accounts.{FollowsWithin}
use Rattle.run_laws.specs.Machines.{run}
use Rattle.run_laws.specs.Meters.{metered, unspent}
use Rattle.run_laws.specs.Runs.{Any, FollowsBy}
use Rattle.machine_words.specs.Halts.{ending_of}
use Rattle.machine_words.specs.Memory.{Memory, first_address}
use Rattle.low_ir.specs.declared.programs.LowProgram.{LowProgram}
use Rattle.low_ir.specs.Prices.{low_price}
use Rattle.low_ir.specs.Procedures.{Proc as LowProc}
use Rattle.low_ir.specs.Run.{Setting, low_machine, low_start}
use Rattle.low_ir.specs.Views.{procs_of}
use Rattle.cast_modes.specs.Modes.{TypeCast}
use Rattle.coercion_norm.specs.Held.{Layout}
use Rattle.coercion_norm.proofs.Public.{bytes_of_all_words}
use Rattle.flat_ir.specs.declared.programs.FlatProgram.{FlatProgram}
use Rattle.flat_ir.specs.Bodies.{Proc as FlatProc}
use Rattle.flat_ir.specs.Closed.{is_closed}
use Rattle.flat_ir.specs.Counts.{flat_run_in}
use Rattle.flat_ir.specs.FlatTally.{flat_tally_in}
use Rattle.flat_ir.specs.Machine.{first_world}
use Rattle.flat_ir.specs.Views.{procs_of as flat_procs_of}
use Rattle.rt_cast.specs.Objects.{Holds, HoldsWords}
use Rattle.rt_cast.specs.States.{Placed}
use Rattle.rt_cast.proofs.Public.{objects_stand_where_their_words_do}
use Rattle.lowered_code.specs.declared.served.Served.{Served}
use Rattle.lowered_code.specs.CastWays.{cast_ways}
use Rattle.lower.specs.Following.{ServesEverywhere}
use Rattle.lower.specs.Keeping.{KeepsFlat, PaysFlat}
use Rattle.lowered_code.specs.Lowered.{entry_proc, low_proc, lowered}
use Rattle.lower.specs.MadePrograms.{IsLoaded, MadeFollows, MadeKeeps, StaticsServe, told_in}
use Rattle.lower.specs.Meanings.{Meaning, MeaningLaws}
use Rattle.lowered_code.specs.Serving.{all_narrow}
use Rattle.lower.specs.Sets.{with_casts}
use Rattle.lower.specs.SimulationClaims.{AreNarrow, IsLowered}
use Rattle.lower.specs.Storage.{Passes}
use Rattle.lower.proofs.simulation.Programs.{words_follow_by, words_keep_by}

-- procedures that pass the test are narrow
pub procedures_are_narrow : (procs : List FlatProc) → all_narrow procs ≡ true → AreNarrow procs
procedures_are_narrow [] h k p e = absurd (let f : ⊥ = cc in f)
procedures_are_narrow (q ∷ procs) h k p e =
    let both = and_parts (nat_lt (suc q.captured) 4294967296 && nat_lt q.group 4294967296) (all_narrow procs) h in
    let own = and_parts (nat_lt (suc q.captured) 4294967296) (nat_lt q.group 4294967296) both.0 in
    of_place k q p procs e own.0 own.1 (λ j f. procedures_are_narrow procs both.1 j p f)
  where
    of_place : (k : ℕ) (q p : FlatProc) (procs : List FlatProc) → slice_get (q ∷ procs) k ≡ Some p
        → nat_lt (suc q.captured) 4294967296 ≡ true → nat_lt q.group 4294967296 ≡ true
        → ((j : ℕ) → slice_get procs j ≡ Some p → (suc p.captured < 4294967296) × (p.group < 4294967296))
        → (suc p.captured < 4294967296) × (p.group < 4294967296)
    of_place zero q p procs e a b later =
        subst (λ x. (suc x.captured < 4294967296) × (x.group < 4294967296)) (let same : q ≡ p = cc in same)
        (grind arith, grind arith)
    of_place (suc j) q p procs e a b later = later j e

-- the procedure to begin with stands behind the others
pub entry_there : (xs : List LowProc) (p : LowProc) (rest : List LowProc) (n : ℕ) → length xs ≡ n
    → slice_get (xs ++ p ∷ rest) n ≡ Some p
entry_there [] p rest zero e = refl
entry_there [] p rest (suc n) e = cc
entry_there (x ∷ xs) p rest zero e = cc
entry_there (x ∷ xs) p rest (suc n) e = entry_there xs p rest n (omega (arith, e))

-- the run of the program over words follows that of the numbered procedures, and keeps within their account
pub record Runs (meaning : Meaning) (layout : ℕ → Layout) (flat : FlatProgram) (types : TypeRows)
    (casts : List TypeCast) (low : LowProgram) : Type 0 where
  pub follows : MadeFollows meaning layout flat types casts low
  pub keeps : MadeKeeps meaning layout flat types casts low

module _ (meaning : Meaning) (laws : MeaningLaws meaning) (procs_from : ℕ → List LowProc) (numbers_from : ℕ → Served)
    (serves : ServesEverywhere meaning procs_from numbers_from) (layout : ℕ → Layout) (flat : FlatProgram)
    (types : TypeRows) (casts : List TypeCast) (low : LowProgram) (row : TypeRow) (number : ℕ)
    (stand : (region : ℕ) → StaticsServe meaning types casts first_address low.statics region (layout region))
    (row_is : row_at types flat.answer.0 ≡ Some row) (number_is : number ≡ suc (length (flat_procs_of flat.procs)))
    (procs_are : procs_of low.procs
    ≡ lowered (with_casts (numbers_from number) low.statics.cast_at (cast_ways types casts)) (flat_procs_of flat.procs)
    flat.entry row (procs_from number)) (entry_is : low.entry ≡ length (flat_procs_of flat.procs))
    (closed : is_closed (flat_procs_of flat.procs) flat.entry ≡ true)
    (narrow : all_narrow (flat_procs_of flat.procs) ≡ true) where
  abbrev procs : List FlatProc
  procs = flat_procs_of flat.procs

  abbrev run_in : TypeRows → ℕ → Served
  run_in rows first = with_casts (numbers_from first) low.statics.cast_at (cast_ways rows casts)

  module _ (setting : Setting) (memory : Memory) (loaded : IsLoaded setting low memory) where
    abbrev l : Layout
    l = layout setting.region

    is_placed : Placed setting l
    is_placed =
        let here = stand setting.region in
        let bytes = bytes_of_all_words l.statics in
        let long = ap (λ (ws : List ℕ). length ws) here.says in
        let first = here.first_is in
        let region = here.region_is in
        let behind = loaded.behind in
        let even = loaded.even in
        let small = loaded.small in
        record {
          low = omega (arith, first);
          even_first = subst (λ at. at % 8 ≡ 0) (sym first) (omega arith);
          even_region = subst (λ at. at % 8 ≡ 0) (sym region) even;
          before = omega (arith, bytes, long, first, region, behind);
          top = omega (arith, small);
        }

    is_lowered : IsLowered setting l (run_in l.types (suc (length procs))) procs flat.entry row
        (procs_from (suc (length procs))) memory
    is_lowered =
        let here = stand setting.region in
        record {
          procs_are =
              loaded.procs_are
              ∙ subst (λ rows. procs_of low.procs ≡ lowered (run_in rows (suc (length procs))) procs flat.entry row
              (procs_from (suc (length procs)))) (sym here.types_are)
              (subst (λ n. procs_of low.procs ≡ lowered (run_in types n) procs flat.entry row (procs_from n)) number_is
              procs_are);
          addresses = loaded.addresses;
          placed = is_placed;
          begins = here.region_is;
          fits = loaded.fits;
          statics =
              subst (λ at. Holds memory at l.statics) (sym here.first_is)
              (objects_stand_where_their_words_do memory first_address l.statics
              (subst (λ ws. HoldsWords memory first_address ws) here.says loaded.statics_stand));
        }

  same_first : (first : LowProc) → slice_get (procs_of low.procs) low.entry ≡ Some first
      → entry_proc flat.entry row ≡ first
  same_first first e =
      let many = length-map procs (low_proc (run_in types number)) ∙ sym entry_is in
      let there = entry_there (map (low_proc (run_in types number)) procs) (entry_proc flat.entry row)
      (procs_from number) low.entry many in
      let found = subst (λ ps. slice_get ps low.entry ≡ Some first) procs_are e in
      cc

  made_follows : MadeFollows meaning layout flat types casts low
  made_follows = λ setting memory first input loaded is_first never.
      let here = stand setting.region in
      subst (λ p. FollowsBy (λ shown counts. Passes meaning setting (layout setting.region) shown counts.wraps) Any
      (run (low_machine ending_of setting) (low_start setting p memory (first_world input)))
      (flat_run_in procs flat.entry (meaning.mode types casts) (told_in setting types flat.answer.0) input))
      (same_first first is_first)
      (words_follow_by meaning laws procs_from numbers_from serves setting (layout setting.region) low.statics.cast_at
      procs flat.entry row memory (told_in setting types flat.answer.0) casts input (is_lowered setting memory loaded)
      loaded.small refl row_is (sym here.types_are) here.types_stand here.cast_words closed
      (procedures_are_narrow procs narrow) never)

  made_keeps : MadeKeeps meaning layout flat types casts low
  made_keeps = λ setting memory first m most input loaded is_first fits sized never.
      let here = stand setting.region in
      subst (λ p. FollowsWithin (KeepsFlat setting (meaning.serving (layout setting.region)) most) PaysFlat
      (run (metered (low_price setting.procs) (low_machine ending_of setting))
      (unspent (low_start setting p memory (first_world input))))
      (flat_tally_in procs flat.entry (meaning.mode types casts) (meaning.prices types casts m)
      (told_in setting types flat.answer.0) input)) (same_first first is_first)
      (words_keep_by meaning laws procs_from numbers_from serves setting (layout setting.region) low.statics.cast_at
      procs flat.entry row memory (told_in setting types flat.answer.0) casts m most input
      (is_lowered setting memory loaded) loaded.small refl row_is (sym here.types_are) here.types_stand fits
      here.cast_words closed (procedures_are_narrow procs narrow) sized never)

  pub made_runs : Runs meaning layout flat types casts low
  made_runs = record { follows = made_follows; keeps = made_keeps }
