-- What `casts`, `code` and `image` put, and what they come to: a source's casts, its code, its image.
use Rattle.std.specs.Prelude.{ℕ, ◌≡◌, ◌≢◌, List, []}
use Rattle.grift_base.specs.Sink.{SinkSeen, Untouched, Takes, Breaks}
use Rattle.rv_machine.specs.Image.{IsImage}
use Rattle.core_calc.specs.Calculus.{Program}
use Rattle.compile_driver.specs.Bounds.{KeepsAccount}
use Rattle.compile_driver.specs.Compiling.{HasProgram, FollowsProgram}
use Rattle.listing.specs.CastLines.{cast_listing}
use Rattle.listing.specs.CodeLines.{code_listing}
use Rattle.command_words.specs.Commands.{Command, Casts, Code, ImageOf}
use Rattle.grift_cli.specs.Calls.{CallSeen, HasLoaded}
use Rattle.grift_cli.specs.Checking.{HasElaboration}
use Rattle.grift_cli.specs.declared.listings.View.{View}
use Rattle.grift_cli.specs.declared.listings.View.TheVariants.{Listing, Bytes}
use Rattle.grift_cli.specs.declared.reports.Report.{Report}
use Rattle.grift_cli.specs.declared.reports.Report.TheVariants.{Shown, PutFailed, NoMemory}

-- ---- what is shown of a source

-- the text is elaborated, and these are the lines of its casts
pub record ListsCasts (text lines : List ℕ) : Type 0 where
  pub source : HasElaboration text
  pub lines_are : lines ≡ cast_listing source.types source.labels source.casts

-- the text is the source of a program, whose term is a program term, and which this image follows, within the
-- program's account
pub record IsImageOf (text image : List ℕ) : Type 0 where
  pub program : Program
  pub source : HasProgram text program
  pub whole : IsImage image
  pub follows : FollowsProgram image program
  pub account : KeepsAccount image program

-- what is seen of an image: the listing of its code, or its bytes
abbrev pub seen_by : View → List ℕ → List ℕ
seen_by Listing image = code_listing image
seen_by Bytes image = image

-- these bytes are so seen of an image of the source
pub record ShowsImage (view : View) (text bytes : List ℕ) : Type 0 where
  pub image : List ℕ
  pub image_of : IsImageOf text image
  pub bytes_are : bytes ≡ seen_by view image

-- these bytes are what the command shows of a source
abbrev pub Shows : Command → List ℕ → List ℕ → Type 0
Shows (Casts file) text bytes = ListsCasts text bytes
Shows (Code file) text bytes = ShowsImage Listing text bytes
Shows (ImageOf file) text bytes = ShowsImage Bytes text bytes
Shows _ text bytes = ⊥

-- the command that shows this of an image
abbrev pub command_by : View → List ℕ → Command
command_by Listing file = Code file
command_by Bytes file = ImageOf file

-- the bytes were put whole; or there were some, and their put failed; or no memory was left, and nothing was put
abbrev pub PutsShown : List ℕ → SinkSeen → Report → Type 0
PutsShown bytes out Shown = Takes bytes out
PutsShown bytes out PutFailed = (bytes ≢ []) × Breaks bytes out
PutsShown bytes out NoMemory = Untouched out
PutsShown bytes out _ = ⊥

-- ---- calls

-- the file of the command holds a source, of which it shows these bytes; no image is put
pub record IsShownFile (call : CallSeen) (bytes : List ℕ) : Type 0 where
  pub command : Command
  pub text : List ℕ
  pub loaded : HasLoaded call command text []
  pub shows : Shows command text bytes
  pub no_image : Untouched call.img

-- what the command shows was put whole
pub record HasShown (call : CallSeen) : Type 0 where
  pub bytes : List ℕ
  pub shown : IsShownFile call bytes
  pub bytes_put : Takes bytes call.out

-- the put of it failed
pub record FailsToShow (call : CallSeen) : Type 0 where
  pub bytes : List ℕ
  pub shown : IsShownFile call bytes
  pub some : bytes ≢ []
  pub fails : Breaks bytes call.out
