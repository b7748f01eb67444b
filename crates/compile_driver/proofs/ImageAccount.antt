-- An image keeps within the account of its program: it lacks region only where the calculus asks for more, and stack
-- only where the contexts of the calculus are many, and comes in time to what the calculus comes to.
use Rattle.std.proofs.Common.{◌≡◌, ◌≢◌, ◌⊎◌, inl, inr, ℕ, suc, ◌+◌, ◌*◌, ◌<◌, ◌≤◌, List, Some, refl, sym, ap}
use Rattle.std.proofs.Common.{◌∙◌, subst, arith, length, false}
use Rattle.grift_base.specs.Types.{TypeRow, row_at}
use Rattle.grift_base.specs.declared.words.Statics.{Statics}
use Rattle.grift_base.specs.declared.verdicts.Verdict.{Verdict as Outcome}
use Rattle.grift_base.specs.declared.verdicts.Verdict.TheVariants.{RegionOut, StepsSpent}
use Rattle.run_laws.specs.Accounts.{FollowsWithin, ComesWithin}
use Rattle.run_laws.specs.Machines.{run}
use Rattle.run_laws.specs.Meters.{Metered, metered, unspent}
use Rattle.run_laws.specs.Runs.{
  Any,
  Ending,
  Verdict,
  Exhausted,
  Wrong,
  FollowsBy,
  NeverWrong,
  Run,
  IsExhausted,
  IsPrefix,
  OutputGrows,
}
use Rattle.run_laws.specs.Runs.{HasVerdictOf}
use Rattle.run_laws.proofs.Public.{within_trans, meter_changes_nothing_else-machines}
use Rattle.machine_words.specs.Halts.{ending_of}
use Rattle.rv_machine.specs.Mach.{mach, machine, machine_by, run_of}
use Rattle.rv_machine.specs.Start.{IsRegionSize, IsStackSize}
use Rattle.rv_machine.specs.State.{State}
use Rattle.machine_words.specs.Halts.{Halt, Ended, Lacks, GoesWrong, Room, Region, Stack}
use Rattle.core_calc.specs.Account.{Account, account, measures_of}
use Rattle.core_calc.specs.Calculus.{Program, calc}
use Rattle.coercion_norm.specs.MergedMode.{merging}
use Rattle.coercion_norm.specs.CastRows.{row_casts}
use Rattle.coercion_norm.specs.Nodes.{Node}
use Rattle.coercion_norm.specs.declared.cast_rows.CastRow.{CastRow}
use Rattle.coer_core.specs.Counts.{told_of}
use Rattle.coer_core.specs.Programs.{tallest_of}
use Rattle.coer_core.specs.Terms.{RowTerm}
use Rattle.flat_ir.specs.FlatTally.{FlatTally, FlatBelow, FlatPaidBelow, flat_tally_in}
use Rattle.coer_core.specs.TurnPrices.{merged_prices}
use Rattle.closure_convert.specs.Conversion.{converted, made}
use Rattle.low_ir.specs.Counting.{Exceeds, IsWantOfRegion, any_calls}
use Rattle.low_ir.specs.Prices.{low_price}
use Rattle.low_ir.specs.Procedures.{Proc}
use Rattle.low_ir.specs.Run.{Setting, LowShown, LowState, low_machine, low_start}
use Rattle.lowered_code.specs.CastWays.{cast_ways}
use Rattle.lower.specs.Keeping.{KeepsFlat, PaysFlat}
use Rattle.lowered_code.specs.Lowered.{entry_proc}
use Rattle.lower.proofs.Public.{programs_want_no_room}
use Rattle.lower.proofs.Public.{numbered_words}
use Rattle.rv_select.specs.Prices.{start_price}
use Rattle.rv_select.specs.Stacks.{frames_size}
use Rattle.placed_code.specs.Slotted.{room_in}
use Rattle.reg_assign.specs.Images.{HasRegionOf}
use Rattle.compile_driver.specs.Bounds.{KeepsAccount, RegionLacks, StackLacks, stop_after}
use Rattle.compile_driver.proofs.CalculusAccount.{live, one_step}
use Rattle.compile_driver.proofs.Following.{IsPassed, IsMade, begin, set, words_keep, words_never_wrong, image_runs}
use Rattle.compile_driver.proofs.Following.{begins_there, few_words, run_by, lacks_stack as lacks_in_words}
use Rattle.compile_driver.proofs.MachineOutput.{machine_adds_output, prints_state, shows_state, stopped_so}
use Rattle.compile_driver.proofs.Raised.{comes_in_time}
use Rattle.compile_driver.proofs.Readings.{never_wrong_too}
use Rattle.compile_driver.proofs.StackAccount.{is_deep, stack_lacks_by}
use Rattle.compile_driver.proofs.Stopping.{Reason, reason}

-- a reading of stops by which want of region is told apart from all others, and want of stack is exhausted
abbrev region_reading : Halt → Ending Outcome
region_reading (Ended verdict) = Verdict StepsSpent
region_reading (Lacks Region) = Verdict RegionOut
region_reading (Lacks Stack) = Exhausted
region_reading (GoesWrong fault) = Wrong

tells_region : IsWantOfRegion region_reading (Verdict RegionOut)
tells_region = record { right = λ e. absurd (let f : ⊥ = cc in f); alone = λ halt e. by halt e }
  where
    by : (halt : Halt) → region_reading halt ≡ Verdict RegionOut → halt ≡ Lacks Region
    by (Ended verdict) e = absurd (let f : ⊥ = cc in f)
    by (Lacks Region) e = refl
    by (Lacks Stack) e = absurd (let f : ⊥ = cc in f)
    by (GoesWrong fault) e = absurd (let f : ⊥ = cc in f)

answers_right : (verdict : Outcome) → region_reading (Ended verdict) ≢ Wrong
answers_right verdict e = absurd (let f : ⊥ = cc in f)

lacks_right : (room : Room) → region_reading (Lacks room) ≢ Wrong
lacks_right Region e = absurd (let f : ⊥ = cc in f)
lacks_right Stack e = absurd (let f : ⊥ = cc in f)

-- ---- numbers

-- where the words that were asked for don't fit, the region has fewer than the account allows, and fewer are free than
-- the next step may ask for; so there is a next step
region_numbers : (start region top alloc asked base words asks allowed charge : ℕ) → top ≡ start + region
    → top < start + 8 * asked → start + 8 * base ≤ alloc → base ≤ words → asked ≤ base + asks
    → words + asks ≤ allowed + charge → asks ≤ charge → (region < 8 * (allowed + charge)) × (top < alloc + 8 * charge)
region_numbers start region top alloc asked base words asks allowed charge e exceeds taken earlier within reach next = (
  omega (arith, e, exceeds, taken, earlier, within, reach, next),
  omega
      (arith, e, exceeds, taken, earlier, within, next),
)

some_charge : (start top alloc asked base asks charge : ℕ) → alloc ≤ top → top < start + 8 * asked
    → start + 8 * base ≤ alloc → asked ≤ base + asks → asks ≤ charge → 0 < charge
some_charge start top alloc asked base asks charge inside exceeds taken within next =
    omega (arith, inside, exceeds, taken, within, next)

all_of : (region words charge later : ℕ) → region < 8 * (words + charge) → later ≡ words + charge → region < 8 * later
all_of region words charge later few is = omega (arith, few, is)

free_of : (top alloc charge end at : ℕ) → end ≡ top → at ≡ alloc → top < alloc + 8 * charge → end < at + 8 * charge
free_of top alloc charge end at e f few = omega (arith, e, f, few)

within : {room stack bytes : ℕ} → room ≡ stack → room < bytes → stack < bytes
within e few = omega (arith, e, few)

time_numbers : (spent paid steps work start : ℕ) → start ≤ 60 → spent ≤ paid + 720
    → paid + 64 * steps + 960 ≤ 64 * work → start + spent ≤ 64 * work
time_numbers spent paid steps work start few pays below = omega (arith, few, pays, below)

-- what is known of a made image beside its being made: the account of the numbered procedures, how high coercions are,
-- and that the calculus takes no output back
pub record IsMeasured (program : Program) (rows : List CastRow) (term : RowTerm) (answer : ℕ) : Type 0 where
  pub tall : tallest_of program.types (row_casts rows) ≤ (measures_of program).height
  pub grows : (input : List ℕ) → OutputGrows (calc program input)
  pub keeps : (input : List ℕ) → let mode = merging program.types (row_casts rows) in
      FollowsWithin (FlatBelow 2) FlatPaidBelow
      (flat_tally_in (converted term) (made term) mode (merged_prices program.types mode (measures_of program))
      (told_of program answer) input) (account program input)

module _ {program : Program} {rows : List CastRow} {term : RowTerm} {answer : ℕ} {nodes : List Node} {row : TypeRow}
    {statics : Statics} {image : List ℕ}
    (passed : IsPassed program (row_casts rows) term answer) (row_is : row_at program.types answer ≡ Some row)
    (made_so : IsMade program nodes rows (converted term) (made term) row statics image)
    (measured : IsMeasured program rows term answer) (region stack : ℕ) (input : List ℕ) (r : IsRegionSize region)
    (s : IsStackSize stack) where
  abbrev start : State
  start = begin passed row_is made_so region stack input r s

  abbrev setting : Setting
  setting = set passed row_is made_so region stack input r s

  abbrev first : Proc
  first = entry_proc (made term) row

  abbrev low : LowState
  low = low_start setting first start.memory start.world

  abbrev flat_run : Run FlatTally Outcome
  flat_run =
      flat_tally_in (converted term) (made term) (merging program.types (row_casts rows))
      (merged_prices program.types (merging program.types (row_casts rows)) (measures_of program))
      (told_of program answer) input

  abbrev Keeps : Metered LowShown → FlatTally → Type 0
  Keeps = KeepsFlat setting (4 * tallest_of program.types (row_casts rows) + 7) ((measures_of program).size + 24)

  keeps : FollowsWithin Keeps PaysFlat
      (run (metered (low_price setting.procs) (low_machine ending_of setting)) (unspent low)) flat_run
  keeps = words_keep passed row_is made_so region stack input r s measured.tall

  never : NeverWrong (run (low_machine ending_of setting) low)
  never = words_never_wrong passed row_is made_so region stack input r s

  -- ---- instructions

  in_time : ComesWithin (λ (a : Account). 64 * a.work) (mach image region stack input) (account program input)
  in_time =
      let runs = image_runs passed row_is made_so region stack input r s ending_of refl never in
      comes_in_time machine start (low_machine ending_of setting) (low_price setting.procs) low start_price
      (account program input) (HasRegionOf (start.regs 25)) (λ (a : Account). 64 * a.work)
      (machine_adds_output ending_of) never runs.turns (within_trans keeps (measured.keeps input))
      (λ b c l. time_numbers b.spent l.0.paid c.steps c.work start_price (omega arith) l.1 l.2)

  pub comes : (n m : ℕ) → 64 * (account program input n).shown.work ≤ m → IsExhausted (mach image region stack input m)
      ⊎ (IsPrefix (calc program input n).output (mach image region stack input m).output
      × HasVerdictOf (mach image region stack input m).ending (calc program input n).ending)
  comes n m enough =
      let same = one_step program input n in
      subst (λ o. IsExhausted (mach image region stack input m)
      ⊎ (IsPrefix o (mach image region stack input m).output
      × HasVerdictOf (mach image region stack input m).ending (calc program input n).ending)) same.output
      (subst (λ e. IsExhausted (mach image region stack input m)
      ⊎ (IsPrefix (account program input n).output (mach image region stack input m).output
      × HasVerdictOf (mach image region stack input m).ending e)) same.ending (in_time n m enough))

  -- ---- region

  -- by what the run over words and the numbered procedures show at moments that correspond
  lacks_by : (last : State) (low : Metered LowShown) (tally : FlatTally) (n : ℕ)
      → HasRegionOf (start.regs 25) last low.rest → Exceeds setting low.rest → Keeps low tally
      → FlatBelow 2 tally (account program input n).shown → last.world.output ≡ (account program input n).output
      → RegionLacks program input region last
  lacks_by last low tally n holds exceeds words below same =
      let a = (account program input n).shown in
      let size : setting.top ≡ setting.region + region = omega arith in
      let numbers =
      region_numbers setting.region region setting.top low.rest.alloc low.rest.words words.base tally.words tally.asks
      a.words a.charge size exceeds words.taken words.earlier words.asked below.reach below.asks in
      let more =
      some_charge setting.region setting.top low.rest.alloc low.rest.words words.base tally.asks a.charge holds.inside
      exceeds words.taken words.asked below.asks in
      let goes_on = live program input n more in
      let next = one_step program input n in
      record {
        n = n;
        output = same ∙ next.output;
        goes_on = goes_on;
        all = all_of region a.words a.charge (account program input (suc n)).shown.words numbers.0 (next.words goes_on);
        free = free_of setting.top low.rest.alloc a.charge (last.regs 27)
            (last.regs 26) holds.top holds.alloc numbers.1;
      }

  runs_by : (reading : Halt → Ending Outcome) → reading (Lacks Stack) ≡ Exhausted
      → NeverWrong (run (low_machine reading setting) low)
      → FollowsBy (HasRegionOf (start.regs 25)) Any (run (machine_by reading) start)
      (run (low_machine reading setting) low)
  runs_by reading lacks fine = (image_runs passed row_is made_so region stack input r s reading lacks fine).follows

  quiet : any_calls 5 setting.procs ≡ false
  quiet =
      programs_want_no_room 5 (inl refl) (run_by (converted term) statics (cast_ways program.types (row_casts rows)))
      (converted term) (made term) row (suc (length (converted term)))

  pub lacks_region : (m : ℕ) → stop_after image region stack input m ≡ Some (Lacks Region)
      → RegionLacks program input region (mach image region stack input m).shown
  lacks_region m stops =
      subst (RegionLacks program input region) (sym (shows_state ending_of m start))
      (by (reason region_reading answers_right lacks_right setting (length (converted term)) first start.memory
      start.world (low_price setting.procs) (run (machine_by region_reading) start) flat_run (account program input)
      (HasRegionOf (start.regs 25)) Keeps (FlatBelow 2) RegionOut tells_region (omega arith)
      (begins_there passed row_is made_so region stack input r s) quiet
      (runs_by region_reading refl
      (never_wrong_too region_reading ending_of answers_right lacks_right setting low never)) keeps
      (measured.keeps input)
      m (stopped_so region_reading m start (run_of m start).0 (Lacks Region)
      (ap (λ o. ((run_of m start).0, o)) stops))))
    where
      by : Reason region_reading answers_right lacks_right setting (length (converted term)) first start.memory
          start.world (low_price setting.procs) (run (machine_by region_reading) start) flat_run (account program input)
          (HasRegionOf (start.regs 25)) Keeps (FlatBelow 2)
          (run (machine_by region_reading) start m).shown (run (machine_by region_reading) start m).output
          → RegionLacks program input region (run_of m start).0
      by why =
          lacks_by (run_of m start).0 why.low why.tally why.n
          (subst (λ t. HasRegionOf (start.regs 25) t why.low.rest) (shows_state region_reading m start) why.machine)
          why.exceeds why.words why.account (sym (prints_state region_reading m start) ∙ why.same)

  -- ---- stack

  pub lacks_stack : (m : ℕ) → stop_after image region stack input m ≡ Some (Lacks Stack)
      → StackLacks program input stack (mach image region stack input m).shown
  lacks_stack m stops =
      let last = (run_of m start).0 in
      let calm = programs_want_no_room 6 (inr refl)
      (run_by (converted term) statics (cast_ways program.types (row_casts rows))) (converted term) (made term) row
      (suc (length (converted term))) in
      let a = lacks_in_words passed row_is made_so region stack input r s calm m last (ap (λ o. (last, o)) stops) in
      let meter = meter_changes_nothing_else-machines (low_machine ending_of setting) (low_price setting.procs) a.0
      (unspent low) in
      let b = keeps.back a.0 in
      let deep = is_deep (converted term) (merging program.types (row_casts rows))
      (merged_prices program.types (merging program.types (row_casts rows)) (measures_of program))
      (told_of program answer) (made term) input program (measured.grows input) (measured.keeps input) b.0 in
      let few = numbered_words ((measures_of program).size + 24) setting.procs a.2.number a.2.proc
      (few_words passed row_is made_so region stack input r s) a.2.there in
      let room : room_in start ≡ stack = omega arith in
      subst (StackLacks program input stack) (sym (shows_state ending_of m start))
      (stack_lacks_by program input stack last _ _ _ a.2.proc.words (tallest_of program.types (row_casts rows)) deep.n
      (a.1 ∙ (sym meter.0 ∙ (b.1.0.output ∙ deep.output))) (within room (subst (λ (l : LowShown). room_in start <
      frames_size l.frames l.held) (sym meter.2) a.2.exceeds)) b.1.0.shown.frames deep.depth measured.tall a.2.left few)

module _ {program : Program} {rows : List CastRow} {term : RowTerm} {answer : ℕ} {nodes : List Node} {row : TypeRow}
    {statics : Statics} {image : List ℕ}
    (passed : IsPassed program (row_casts rows) term answer) (row_is : row_at program.types answer ≡ Some row)
    (made_so : IsMade program nodes rows (converted term) (made term) row statics image)
    (measured : IsMeasured program rows term answer) where
  pub keeps_account : KeepsAccount image program
  keeps_account = record {
    region = λ region stack input m r s. lacks_region passed row_is made_so measured region stack input r s m;
    stack = λ region stack input m r s. lacks_stack passed row_is made_so measured region stack input r s m;
    steps = λ region stack input n m r s. comes passed row_is made_so measured region stack input r s n m;
  }
