-- The commands that are read from words, and options at the front of words.
use Rattle.std.specs.Prelude.{ℕ, ◌≤◌, ◌%◌, ◌≡◌, ◌≢◌, Bool, List, [], ◌∷◌, ◌++◌, codes, Option, Some, None}
use Rattle.std.specs.Borrow.{Bor}
use Rattle.rv_machine.specs.Start.{IsRegionSize, IsStackSize}
use Rattle.command_words.specs.Commands.{Command, Run, Exec, Check, Audit, Casts, Code, ImageOf, Model, Gen}
use Rattle.command_words.specs.Commands.{IsFlag, IsModelLimit, IsNameOption, IsNumber, IsNumberOption, IsRun}
use Rattle.command_words.specs.Commands.{IsStepLimit, region_default, stack_default, steps_default}
use Rattle.command_words.specs.declared.commands.Command.{Command as ReadCommand}
use Rattle.command_words.specs.declared.commands.Command.TheVariants.{Run as ReadRun, Exec as ReadExec}
use Rattle.command_words.specs.declared.commands.Command.TheVariants.{Check as ReadCheck}
use Rattle.command_words.specs.declared.commands.Command.TheVariants.{Audit as ReadAudit, Model as ReadModel}
use Rattle.command_words.specs.declared.commands.Command.TheVariants.{Casts as ReadCasts, Code as ReadCode}
use Rattle.command_words.specs.declared.commands.Command.TheVariants.{ImageOf as ReadImageOf, Gen as ReadGen}
use Rattle.command_words.specs.declared.commands.Limits.{Limits}

-- a multiple, up to a greatest one
abbrev pub IsWithin : ℕ → ℕ → ℕ → Type 0
IsWithin multiple most n = (n % multiple ≡ 0) × (n ≤ most)

-- the words don't begin with this one
abbrev pub BeginOtherwise : List ℕ → List (List ℕ) → Type 0
BeginOtherwise name words = (rest : List (List ℕ)) → words ≡ name ∷ rest → ⊥

-- the words begin with an option with a number, or not with its name; these are left after it
pub record NumberAtFront (name : List ℕ) (IsAllowed : ℕ → Type 0) (default : ℕ) (words : List (List ℕ)) (n : ℕ)
    (rest : List (List ℕ)) : Type 0 where
  pub part : List (List ℕ)
  pub words_are : words ≡ part ++ rest
  pub option : IsNumberOption name IsAllowed default part n
  pub absent : part ≡ [] → BeginOtherwise name rest

-- the words begin with an option with a name, or not with this word; these are left after it
pub record NameAtFront (word : List ℕ) (words : List (List ℕ)) (name : Option (List ℕ)) (rest : List (List ℕ)) : Type 0
  where
    pub part : List (List ℕ)
    pub words_are : words ≡ part ++ rest
    pub option : IsNameOption word part name
    pub absent : part ≡ [] → BeginOtherwise word rest

-- the words begin with an option that is a word alone, or not with it; these are left after it
pub record FlagAtFront (word : List ℕ) (words : List (List ℕ)) (stands : Bool) (rest : List (List ℕ)) : Type 0 where
  pub part : List (List ℕ)
  pub words_are : words ≡ part ++ rest
  pub option : IsFlag word part stands
  pub absent : part ≡ [] → BeginOtherwise word rest

-- the words begin with limits; these are left after them
pub record LimitsAtFront (words : List (List ℕ)) (limits : Limits) (rest : List (List ℕ)) : Type 0 where
  pub after_region : List (List ℕ)
  pub after_stack : List (List ℕ)
  pub region : NumberAtFront (codes "--region") IsRegionSize region_default words limits.region after_region
  pub stack : NumberAtFront (codes "--stack") IsStackSize stack_default after_region limits.stack after_stack
  pub steps : NumberAtFront (codes "--steps") IsStepLimit steps_default after_stack limits.steps rest

-- the words begin with the steps of a model; these are left after them
pub record StepsAtFront (words : List (List ℕ)) (steps : ℕ) (rest : List (List ℕ)) : Type 0 where
  pub word : List ℕ
  pub words_are : words ≡ codes "--steps" ∷ word ∷ rest
  pub number : IsNumber word steps
  pub allowed : IsModelLimit steps

-- the bytes of a name
abbrev pub name_bytes : Option (Bor (List ℕ)) → Option (List ℕ)
name_bytes None = None
name_bytes (Some name) = Some name.now

-- a command that was read, as the definitions have it
abbrev pub command_of : ReadCommand → Command
command_of (ReadRun file region stack steps input space image) =
    Run file.now (record { region = region; stack = stack; steps = steps }) (name_bytes input) space (name_bytes image)
command_of (ReadExec file region stack steps input) =
    Exec file.now (record { region = region; stack = stack; steps = steps }) (name_bytes input)
command_of (ReadCheck file) = Check file.now
command_of (ReadAudit file) = Audit file.now
command_of (ReadCasts file) = Casts file.now
command_of (ReadCode file) = Code file.now
command_of (ReadImageOf file) = ImageOf file.now
command_of (ReadModel file steps input) = Model file.now steps (name_bytes input)
command_of (ReadGen number) = Gen number

-- the word is that of no command that has options
abbrev pub HasNoOptions : List ℕ → Type 0
HasNoOptions word = (word ≢ codes "run") × (word ≢ codes "exec") × (word ≢ codes "model")

-- the words are a run command that gives its image this name
pub record GivesImage (words : List (List ℕ)) (name : List ℕ) : Type 0 where
  pub file : List ℕ
  pub limits : Limits
  pub input : Option (List ℕ)
  pub space : Bool
  pub run : IsRun words file limits input space (Some name)

-- they are none that gives its image a name
abbrev pub GivesNoImage : List (List ℕ) → Type 0
GivesNoImage words = (name : List ℕ) → GivesImage words name → ⊥
