-- What is told of the storage of a run.
use Rattle.std.proofs.Common.{ℕ, suc, ◌+◌, ◌*◌, ◌<◌, ◌≤◌, ◌≡◌, Bool, true, false, List, [], ◌∷◌, Option}
use Rattle.std.proofs.Common.{Some, None, refl, sym, ap, ◌∙◌, subst, arith}
use Rattle.std.specs.Prelude.{◌&&◌, if◌then◌else◌, pos}
use Rattle.grift_base.specs.Types.{TypeRows}
use Rattle.rv_machine.specs.Mach.{moment_of}
use Rattle.rv_machine.specs.Start.{IsRegionSize, IsStackSize, fresh_world, layout_of, start_of}
use Rattle.rv_machine.specs.State.{State, reg}
use Rattle.machine_words.specs.Halts.{Halt}
use Rattle.rv_machine.proofs.Public.{run_is_its_turns-states}
use Rattle.rv_emulator.specs.Blocks.{with_output}
use Rattle.object_layout.specs.declared.headers.Header.{Header}
use Rattle.object_layout.specs.declared.walks.SpaceReport.{SpaceReport}
use Rattle.object_layout.specs.declared.walks.WalkFault.{WalkFault}
use Rattle.object_layout.specs.declared.walks.WalkFault.TheVariants.{Torn}
use Rattle.object_layout.specs.declared.wholes.Area.TheVariants.{Region}
use Rattle.object_layout.specs.Reports.{IsReported, IsTornAt, greatest_over, is_proxy, is_some_proxy, header_behind}
use Rattle.object_layout.specs.Reports.{proxy_height, stacked_count, sum_over}
use Rattle.object_layout.specs.Wholes.{Telling, Fills, IsNth, IsRow, IsWhole}
use Rattle.object_layout.proofs.Public.{a_range_is_one_row, fills_few}
use Rattle.compile_driver.specs.Space.{KeepsSpace, KeepsStorage, told_by}
use Rattle.grift_cli.specs.Runs.{run_within}
use Rattle.grift_cli.specs.Spaces.{IsFilled, ReportsSpace}
use Rattle.command_words.specs.declared.commands.Limits.{Limits}

-- ---- rows

-- what is nothing for each object is nothing for all
none_in_sum : (f : ℕ → Header → ℕ) (from : ℕ) (headers : List Header)
    → ((place at : ℕ) (h : Header) → IsNth from headers place at h → f at h ≡ 0) → sum_over f from headers ≡ 0
none_in_sum f from [] none = refl
none_in_sum f from (h ∷ rest) none =
    let first = none 0 from h (refl, refl) in
    let others = none_in_sum f (from + (8 + 8 * h.count)) rest (λ place at k n. none (suc place) at k n) in
    omega (arith, first, others)

-- what is low for each object is low for the greatest
low_in_all : (f : ℕ → Header → ℕ) (from most : ℕ) (headers : List Header)
    → ((place at : ℕ) (h : Header) → IsNth from headers place at h → f at h ≤ most)
    → greatest_over f from headers ≤ most
low_in_all f from most [] low = omega arith
low_in_all f from most (h ∷ rest) low =
    let first = low 0 from h (refl, refl) in
    let others = low_in_all f (from + (8 + 8 * h.count)) most rest (λ place at k n. low (suc place) at k n) in
    omega (arith, first, others)

-- where a row fills a range, it isn't torn before its end
no_tear : (memory : Telling) (from to at : ℕ) (headers others : List Header) → IsRow memory Region from headers to
    → Fills memory Region to from others at → at < to → (h : Header) × IsWhole memory Region to at h
no_tear memory from to at [] others row fills below =
    let few = fills_few memory Region to from at others fills in
    let same : from ≡ to = row in
    absurd (omega (arith, few, same, below))
no_tear memory from to at (h ∷ rest) [] row fills below =
    let same : from ≡ at = fills in (h, subst (λ a. IsWhole memory Region to a h) same row.0)
no_tear memory from to at (h ∷ rest) (k ∷ more) row fills below =
    let one : Some h ≡ Some k = sym row.0.header ∙ fills.0.header in
    let same : h ≡ k = cc in
    no_tear memory (from + (8 + 8 * k.count)) to at rest more
    (subst (λ x. Fills memory Region to (from + (8 + 8 * x.count)) rest to) same row.1) fills.1 below

-- what the register 26 reads as
at_register : (s : State) (number to : ℕ) → pos 26 ≡ pos number → to ≡ reg s number → to ≡ s.regs 26
at_register s number to e told = told ∙ ap (reg s) (number_of 26 number e)
  where
    number_of : (a b : ℕ) → pos a ≡ pos b → b ≡ a
    number_of a b same = cc

module _ {s : State} {from : ℕ} (filled : IsFilled s from) (number to : ℕ) (e : pos 26 ≡ pos number)
    (told : to ≡ reg s number) where
  -- a region that objects fill ends behind its start
  pub ends_behind : from ≤ to
  ends_behind =
      let few = fills_few (told_by s) Region (s.regs 26) from (s.regs 26) filled.headers filled.row in
      let same = at_register s number to e told in
      omega (arith, few, same)

  -- it isn't torn
  pub not_torn : (fault : WalkFault) → IsTornAt (told_by s) from to fault → ⊥
  not_torn (Torn at) torn =
      let same = at_register s number to e told in
      let there = subst (λ n. IsTornAt (told_by s) from n (Torn at)) same torn in
      let whole = no_tear (told_by s) from (s.regs 26) at filled.headers there.0 filled.row there.1 there.2 in
      there.3 whole.0 whole.1

  -- and its report is that up to the register
  pub reported_so : (report : SpaceReport) → IsReported (told_by s) from to report
      → IsReported (told_by s) from (s.regs 26) report
  reported_so report r = subst (λ n. IsReported (told_by s) from n report) (at_register s number to e told) r

-- whatever is kept of the output
pub refill : (s : State) (output : List ℕ) (from : ℕ) → IsFilled (with_output output s) from → IsFilled s from
refill s output from f = record { headers = f.headers; row = f.row }

-- ---- the state in which a run stops

shown_by : (s : State) (o : Option Halt) → (moment_of (s, o)).shown ≡ s
shown_by s None = refl
shown_by s (Some halt) = refl

module _ (limits : Limits) (image input : List ℕ) {types : TypeRows} (tallest : ℕ) (r : IsRegionSize limits.region)
    (k : IsStackSize limits.stack) (keeps : KeepsSpace image types tallest) where
  abbrev begin : State
  begin = start_of image limits.region limits.stack (fresh_world input)

  -- its storage is as it has to be
  kept : KeepsStorage types tallest begin (run_within limits image input).0
  kept =
      let here = run_is_its_turns-states limits.steps begin in
      subst (KeepsStorage types tallest begin)
      (ap (λ m. m.shown) here ∙ shown_by (run_within limits image input).0 (run_within limits image input).1)
      (keeps limits.region limits.stack input limits.steps r k)

  abbrev start : ℕ
  start = (layout_of image limits.region limits.stack).region

  filled : IsFilled (run_within limits image input).0 start
  filled = record {
    headers = kept.stored.objects;
    row = subst (λ n. IsRow (told_by (run_within limits image input).0) Region n kept.stored.objects
        ((run_within limits image input).0.regs 26)) kept.begins kept.is_stored.row;
  }

  pub filled_at : (s : State) (from : ℕ) → s ≡ (run_within limits image input).0 → from ≡ start → IsFilled s from
  filled_at s from e f =
      subst (λ n. IsFilled s n) (sym f) (subst (λ t. IsFilled t start) (sym e) filled)

  not_stacked : (memory : Telling) (at : ℕ) (h : Header) (b : Bool) → is_proxy h ≡ b
      → (is_proxy h ≡ true → is_some_proxy (header_behind memory (at + 8)) ≡ false) → stacked_count memory at h ≡ 0
  not_stacked memory at h true e single =
      ap (λ x. if is_proxy h && x then 1 else 0) (single e) ∙ ap (λ x. if x && false then 1 else 0) e
  not_stacked memory at h false e single =
      ap (λ x. if x && is_some_proxy (header_behind memory (at + 8)) then 1 else 0) e

  -- so its report has no proxy on a proxy, and none higher than the tallest
  pub reports : (s : State) (from : ℕ) (report : SpaceReport) (told : ℕ) → s ≡ (run_within limits image input).0
      → from ≡ start → IsReported (told_by s) from (s.regs 26) report → told ≡ tallest
      → ReportsSpace limits image input tallest (record { report = report; tallest = told })
  reports s from report told e f reported same =
      let k = kept in
      let T = told_by (run_within limits image input).0 in
      let to = (run_within limits image input).0.regs 26 in
      let here : IsReported T start to report =
      subst (λ n. IsReported T n to report) f
      (subst (λ t. IsReported (told_by t) from (t.regs 26) report) e reported) in
      let row = subst (λ n. IsRow T Region n k.stored.objects to) k.begins k.is_stored.row in
      let one = a_range_is_one_row T Region to to start to here.0 k.stored.objects here.1 row in
      let none : sum_over (stacked_count T) start k.stored.objects ≡ 0 =
      subst (λ n. sum_over (stacked_count T) n k.stored.objects ≡ 0) k.begins
      (none_in_sum (stacked_count T) k.stored.region k.stored.objects
      (λ place at h n. not_stacked T at h (is_proxy h) refl (k.is_stored.single place at h n))) in
      let low : greatest_over (proxy_height T) start k.stored.objects ≤ tallest =
      subst (λ n. greatest_over (proxy_height T) n k.stored.objects ≤ tallest) k.begins
      (low_in_all (proxy_height T) k.stored.region tallest k.stored.objects k.is_stored.low) in
      record {
        walked = here;
        stacked =
            ap (λ (x : SpaceReport). x.stacked) here.2 ∙ (ap (λ hs. sum_over (stacked_count T) start hs) one ∙ none);
        highest =
            subst (λ n. n ≤ told)
            (sym (ap (λ (x : SpaceReport). x.highest) here.2 ∙ ap (λ hs. greatest_over (proxy_height T) start hs) one))
            (subst (λ n. greatest_over (proxy_height T) start k.stored.objects ≤ n) (sym same) low);
        tallest_is = same;
      }
