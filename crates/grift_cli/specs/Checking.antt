-- What `check` puts, and what it comes to.
use Rattle.std.specs.Prelude.{ℕ, ◌≡◌, List, [], ◌++◌, codes, length}
use Rattle.std.specs.Fmt.{decimal}
use Rattle.grift_base.specs.Sink.{SinkSeen, Untouched, Takes, Breaks}
use Rattle.grift_base.specs.Types.{TypeRows}
use Rattle.grift_base.specs.declared.places.Pos.{Pos}
use Rattle.type_graph.specs.Texts.{type_text}
use Rattle.core_calc.specs.Terms.{Term}
use Rattle.cast_rules.specs.Making.{Entry}
use Rattle.cast_insert.specs.Outcomes.{Elaborates}
use Rattle.front_end.specs.Texts.{HasOutcome}
use Rattle.command_words.specs.Commands.{Check}
use Rattle.grift_cli.specs.Calls.{CallSeen, HasLoaded}
use Rattle.grift_cli.specs.declared.reports.Report.{Report}
use Rattle.grift_cli.specs.declared.reports.Report.TheVariants.{Checked, PutFailed, NoMemory}

-- its two lines: the program's type, and how many casts and parts the elaboration put into the program
abbrev pub checked_text : TypeRows → ℕ → List Entry → List ℕ
checked_text types type casts =
    codes "type " ++ type_text types type ++ codes "\ncasts " ++ decimal (length casts) ++ codes "\n"

-- the text is elaborated, to this term of this type over these types, with these labels and casts
pub record HasElaboration (text : List ℕ) : Type 0 where
  pub term : Term
  pub type : ℕ
  pub types : TypeRows
  pub labels : List Pos
  pub casts : List Entry
  pub elaborated : HasOutcome text (Elaborates term type types labels casts)

-- the file of a check holds a source whose elaboration has these two lines; no image is put
pub record ElaboratesFile (call : CallSeen) (lines : List ℕ) : Type 0 where
  pub file : List ℕ
  pub text : List ℕ
  pub loaded : HasLoaded call (Check file) text []
  pub source : HasElaboration text
  pub lines_are : lines ≡ checked_text source.types source.type source.casts
  pub no_image : Untouched call.img

-- both lines were put whole
pub record HasChecked (call : CallSeen) : Type 0 where
  pub lines : List ℕ
  pub elaborates : ElaboratesFile call lines
  pub lines_put : Takes lines call.out

-- the put of the lines failed
pub record FailsToPutLines (call : CallSeen) : Type 0 where
  pub lines : List ℕ
  pub elaborates : ElaboratesFile call lines
  pub fails : Breaks lines call.out

-- the lines were put whole, or the sink failed, or no memory was left and nothing was put
abbrev pub PutsLines : List ℕ → SinkSeen → Report → Type 0
PutsLines lines out Checked = Takes lines out
PutsLines lines out PutFailed = Breaks lines out
PutsLines lines out NoMemory = Untouched out
PutsLines lines out _ = ⊥
