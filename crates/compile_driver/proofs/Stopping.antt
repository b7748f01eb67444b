-- Where the machine has stopped for want of region, the account that the run over words keeps within says why.
use Rattle.std.proofs.Common.{◌≡◌, ◌≢◌, ℕ, ◌≤◌, false, List, Some, sym, ◌∙◌, subst, slice_get}
use Rattle.grift_base.specs.World.{WorldState}
use Rattle.grift_base.specs.declared.verdicts.Verdict.{Verdict as Outcome}
use Rattle.run_laws.specs.Accounts.{FollowsWithin}
use Rattle.run_laws.specs.Runs.{Ending, Verdict, Wrong, Run, NeverWrong, Any, FollowsBy}
use Rattle.run_laws.specs.Machines.{run}
use Rattle.run_laws.specs.Meters.{Metered, unspent, metered}
use Rattle.run_laws.proofs.Public.{meter_changes_nothing_else-machines}
use Rattle.machine_words.specs.Halts.{ending_of}
use Rattle.machine_words.specs.Memory.{Memory}
use Rattle.machine_words.specs.Halts.{Halt, Ended, Lacks, Room}
use Rattle.low_ir.specs.Counting.{Exceeds, IsWantOfRegion, any_calls}
use Rattle.low_ir.specs.Procedures.{Proc}
use Rattle.low_ir.specs.Run.{Setting, LowState, LowShown, low_machine, low_start}
use Rattle.low_ir.proofs.Public.{words_are_counted_where_they_are_taken}
use Rattle.compile_driver.proofs.Readings.{readings_agree}

-- Told what the machine's run X shows, the procedures, and accounts that the run over words keeps within one after
-- another, down to Z. Stops are read so that want of region is a verdict.
module _ {A B C : Type 0} (reading : Halt → Ending Outcome)
    (answered : (verdict : Outcome) → reading (Ended verdict) ≢ Wrong)
    (lacking : (room : Room) → reading (Lacks room) ≢ Wrong)
    (setting : Setting) (entry : ℕ) (p : Proc) (memory : Memory) (world : WorldState)
    (price : LowState → ℕ) (X : Run A Outcome) (Y : Run B Outcome) (Z : Run C Outcome) (K : A → LowShown → Type 0)
    (K' : Metered LowShown → B → Type 0) (K'' : B → C → Type 0) where
  abbrev start : LowState
  start = low_start setting p memory world

  -- at moments that correspond
  pub record Reason (a : A) (output : List ℕ) : Type 0 where
    pub low : Metered LowShown
    pub tally : B
    pub n : ℕ
    pub machine : K a low.rest
    pub exceeds : Exceeds setting low.rest
    pub words : K' low tally
    pub account : K'' tally (Z n).shown
    pub same : output ≡ (Z n).output

  pub reason : {L' : Metered LowShown → B → Type 0} {L'' : B → C → Type 0} (wanting : Outcome)
      → IsWantOfRegion reading (Verdict wanting) → setting.region ≤ setting.top → slice_get setting.procs entry ≡ Some p
      → any_calls 5 setting.procs ≡ false
      → FollowsBy K Any X (run (low_machine reading setting) start)
      → FollowsWithin K' L' (run (metered price (low_machine ending_of setting)) (unspent start)) Y
      → FollowsWithin K'' L'' Y Z
      → (m : ℕ) → (X m).ending ≡ Some (Verdict wanting) → Reason (X m).shown (X m).output
  reason wanting want ordered there quiet f g h m stops =
      let a = f.back m in
      let n = a.0 in
      let ends = subst (λ e. Rattle.run_laws.specs.Runs.EndsAs e (run (low_machine reading setting) start n).ending)
      stops
      a.1.1 in
      let counts = words_are_counted_where_they_are_taken reading setting entry p memory world n ordered there in
      let agree = readings_agree reading ending_of answered lacking setting n start in
      let meter = meter_changes_nothing_else-machines (low_machine ending_of setting) price n (unspent start) in
      let shown = agree.shown ∙ sym meter.2 in
      let b = g.back n in
      let c = h.back b.0 in
      record {
        low = (run (metered price (low_machine ending_of setting)) (unspent start) n).shown;
        tally = (Y b.0).shown;
        n = c.0;
        machine = subst (λ l. K (X m).shown l) shown a.1.0.shown;
        exceeds = subst (λ l. Exceeds setting l) shown (counts.lacking quiet (Verdict wanting) ends want);
        words = b.1.0.shown;
        account = c.1.0.shown;
        same = a.1.0.output ∙ (agree.output ∙ (sym meter.0 ∙ (b.1.0.output ∙ c.1.0.output)));
      }
