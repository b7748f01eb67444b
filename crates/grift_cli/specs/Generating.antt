-- What `gen` puts, and what it comes to: the program of a number is made, compiled and run, and told in numbers.
use Rattle.std.specs.Prelude.{ℕ, ◌≡◌, List, [], ◌++◌, codes, length, Some}
use Rattle.grift_base.specs.Sink.{SinkSeen, Untouched, Takes, Breaks}
use Rattle.grift_base.specs.declared.verdicts.Verdict.{Verdict}
use Rattle.surface_trees.specs.Trees.{Expr}
use Rattle.cast_insert.specs.Outcomes.{IsRefused}
use Rattle.front_end.specs.Texts.{HasOutcome, IsProgramOf}
use Rattle.grift_gen.specs.Family.{family_text}
use Rattle.command_words.specs.Commands.{IsGen, default_limits}
use Rattle.grift_cli.specs.Calls.{CallSeen, AsksNothing}
use Rattle.grift_cli.specs.Lines.{number_line}
use Rattle.grift_cli.specs.Listing.{IsImageOf}
use Rattle.grift_cli.specs.Runs.{run_within, printed, verdict_of_run, ComesTo}
use Rattle.grift_cli.specs.declared.reports.Report.{Report}
use Rattle.grift_cli.specs.declared.reports.Report.TheVariants.{HasVerdict, Refused, PutFailed, NoMemory}

-- its lines: how many bytes the source has, how many forms at top level, how many casts and parts the elaboration put
-- into its program, and how many bytes the run printed
abbrev pub numbers_text : ℕ → ℕ → ℕ → ℕ → List ℕ
numbers_text source forms casts output =
    number_line (codes "source ") source ++ number_line (codes "forms ") forms ++ number_line (codes "casts ") casts
    ++ number_line (codes "output ") output

-- the program of the number is the source of this image, and has so many forms
pub record IsGenerated (number : ℕ) (image : List ℕ) : Type 0 where
  pub compiled : IsImageOf (family_text number) image
  pub expression : Expr
  pub forms : ℕ
  pub forms_are : IsProgramOf (family_text number) expression forms

-- its lines, where the run prints so much
abbrev pub lines_of : (number : ℕ) (image : List ℕ) → IsGenerated number image → List ℕ
lines_of number image generated =
    numbers_text (length (family_text number)) generated.forms (length generated.compiled.source.casts)
    (length (printed default_limits image []))

-- the verdict of the image's run without input is this one, which is what the program comes to, and the lines were put
-- whole
pub record TellsNumbers (number : ℕ) (out : SinkSeen) (verdict : Verdict) : Type 0 where
  pub image : List ℕ
  pub generated : IsGenerated number image
  pub verdict_is : verdict_of_run (run_within default_limits image []).1 ≡ Some verdict
  pub meant : ComesTo generated.compiled.program [] (printed default_limits image []) verdict
  pub lines_put : Takes (lines_of number image generated) out

-- the put of the lines failed
pub record FailsToTell (number : ℕ) (out : SinkSeen) : Type 0 where
  pub image : List ℕ
  pub generated : IsGenerated number image
  pub fails : Breaks (lines_of number image generated) out

-- the image was run without input, and then the lines were put that go with how much it printed; it didn't go wrong
abbrev pub PutsNumbers : List ℕ → (ℕ → List ℕ) → SinkSeen → Report → Type 0
PutsNumbers image lines out (HasVerdict verdict) =
    (verdict_of_run (run_within default_limits image []).1 ≡ Some verdict)
    × Takes (lines (length (printed default_limits image []))) out
PutsNumbers image lines out PutFailed = Breaks (lines (length (printed default_limits image []))) out
PutsNumbers image lines out NoMemory = Untouched out
PutsNumbers image lines out _ = ⊥

-- a `gen` of the number has come to this report: the lines were put; or the text of its program is refused, and nothing
-- was put; or the sink failed; or no memory was left, and nothing was put
abbrev pub Generates : ℕ → SinkSeen → Report → Type 0
Generates number out (HasVerdict verdict) = TellsNumbers number out verdict
Generates number out (Refused refusal) =
    HasOutcome (family_text number) (IsRefused refusal.kind refusal.pos) × Untouched out
Generates number out PutFailed = FailsToTell number out
Generates number out NoMemory = Untouched out
Generates number out _ = ⊥

-- the words are a `gen`, which has come to this report; the shelf was asked for nothing, and no image is put
pub record HasGenerated (call : CallSeen) (report : Report) : Type 0 where
  pub number : ℕ
  pub words : IsGen call.words number
  pub shelf : AsksNothing call.shelf
  pub no_image : Untouched call.img
  pub generates : Generates number call.out report
