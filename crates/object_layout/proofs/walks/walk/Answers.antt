use Rattle.std.proofs.Common.{◌≡◌, ◌+◌, ◌*◌, ◌++◌, ◌∷◌, [], arith, ap}
use Rattle.grift_base.specs.Words.{word_within}
use Rattle.object_layout.specs.declared.wholes.Area.TheVariants.{Region}
use Rattle.object_layout.specs.Reports.{is_proxy, is_some_proxy, header_behind}
use Rattle.object_layout.proofs.Rows.{fills_one_more, proxy_fits}
use Rattle.object_layout.proofs.Reporting.{at_most_one, fewer_both, report_one_more}
use Rattle.object_layout.proofs.walks.walk.Goals as goal

pub with_object-report-requires-clause-inside : goal.with_object-report-requires-clause-inside
with_object-report-requires-clause-inside g c = λ proxy.
    let told = word_within (g.W.Words.first c.args.memory.now) (g.W.Words.end c.args.memory.now)
    (g.W.Words.word_at c.args.memory.now) in
    let fits = proxy_fits told Region c.args.to c.loop-at.at c.in-Some.header c.in-Some.ensures.whole proxy in
    omega (arith, fits, c.ranges.to.fits)

pub loop-at-preserved : goal.loop-at-preserved
loop-at-preserved g c =
    let told = word_within (g.W.Words.first c.args.memory.now) (g.W.Words.end c.args.memory.now)
    (g.W.Words.word_at c.args.memory.now) in
    let h = c.in-Some.header in
    let at = c.loop-at.at in
    let whole = c.in-Some.ensures.whole in
    let one = c.with_object-report.ensures in
    let before = c.loop-at.invariant in
    let next : at + (8 + 8 * c.from.result) ≡ at + (8 + 8 * h.count) = ap (λ n. at + (8 + 8 * n)) c.from.ensures in
    let proxies = at_most_one (is_proxy h) in
    let stacked = fewer_both (is_proxy h) (is_some_proxy (header_behind told (at + 8))) in
    record {
      within = let f = whole.fits in omega (arith, f, next);
      few = omega (arith, before.few, one.objects, next);
      proxies = omega (arith, before.proxies, one.objects, one.proxies, proxies);
      stacked = omega (arith, before.stacked, one.proxies, one.stacked, stacked);
      row = (
        before.row.0 ++ h ∷ [],
        fills_one_more told Region c.args.to c.args.from
            at (at + (8 + 8 * c.from.result)) before.row.0 h next before.row.1
            whole,
        report_one_more told Region c.args.to c.args.from at c.args.to before.row.0 h c.loop-at.report
            c.with_object-report.result before.row.1 before.row.2 one.bytes one.objects one.proxies one.stacked
            one.highest,
      );
    }
