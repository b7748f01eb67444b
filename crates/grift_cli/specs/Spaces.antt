-- What a run with `--space` tells of its storage.
use Rattle.std.specs.Prelude.{ℕ, ◌≡◌, ◌≤◌, List}
use Rattle.rv_machine.specs.Start.{layout_of}
use Rattle.rv_machine.specs.State.{State}
use Rattle.object_layout.specs.declared.headers.Header.{Header}
use Rattle.object_layout.specs.declared.wholes.Area.TheVariants.{Region}
use Rattle.object_layout.specs.Reports.{IsReported}
use Rattle.object_layout.specs.Wholes.{IsRow}
use Rattle.compile_driver.specs.Space.{told_by}
use Rattle.grift_cli.specs.Runs.{run_within}
use Rattle.command_words.specs.declared.commands.Limits.{Limits}
use Rattle.grift_cli.specs.declared.reports.Report.{Report}
use Rattle.grift_cli.specs.declared.reports.Report.TheVariants.{HasVerdict, HasSpace}
use Rattle.grift_cli.specs.declared.reports.Space.{Space}

-- the region of a state is a row of whole objects from this address, at which it begins, to x26
pub record IsFilled (s : State) (from : ℕ) : Type 0 where
  pub headers : List Header
  pub row : IsRow (told_by s) Region from headers (s.regs 26)

-- The report is that of the region as the run within the limits has stopped, from its start to x26: no proxy stands on
-- a proxy, and no proxy's coercion is higher than the tallest of the program's casts, which is told beside it.
pub record ReportsSpace (limits : Limits) (image input : List ℕ) (tallest : ℕ) (space : Space) : Type 0 where
  pub walked : IsReported (told_by (run_within limits image input).0)
      (layout_of image limits.region limits.stack).region ((run_within limits image input).0.regs 26) space.report
  pub stacked : space.report.stacked ≡ 0
  pub highest : space.report.highest ≤ space.tallest
  pub tallest_is : space.tallest ≡ tallest

-- a verdict's report with what is told of storage
abbrev pub in_space : Report → Space → Report
in_space (HasVerdict verdict) space = HasSpace verdict space
in_space report space = report
