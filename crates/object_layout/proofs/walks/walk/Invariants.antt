use Rattle.std.proofs.Common.{◌≡◌, ◌+◌, ◌-◌, ◌*◌, ◌≤◌, List}
use Rattle.grift_base.specs.Words.{word_within}
use Rattle.object_layout.specs.declared.headers.Header.{Header}
use Rattle.object_layout.specs.declared.wholes.Area.TheVariants.{Region}
use Rattle.object_layout.specs.Wholes.{Fills}
use Rattle.object_layout.specs.Reports.{report_of}
use Rattle.object_layout.proofs.walks.walk.Given as goal

abbrev pub decreases-loop-at : goal.decreases-loop-at
decreases-loop-at g l = l.to - l.at

abbrev pub invariant-loop-at : goal.invariant-loop-at
invariant-loop-at g l =
    let told = word_within (g.W.Words.first l.memory) (g.W.Words.end l.memory) (g.W.Words.word_at l.memory) in
    record {
      within : l.at ≤ l.to;
      few : l.from + 8 * l.report.objects ≤ l.at;
      proxies : l.report.proxies ≤ l.report.objects;
      stacked : l.report.stacked ≤ l.report.proxies;
      row : (headers : List Header) × Fills told Region l.to l.from headers l.at ×
          (l.report ≡ report_of told l.from headers l.to);
    }
