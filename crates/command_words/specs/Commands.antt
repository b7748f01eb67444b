-- Which words are which command.
use Rattle.std.specs.Prelude.{ℕ, ◌+◌, ◌-◌, ◌*◌, ◌≤◌, ◌≡◌, ◌≢◌, ◌⊎◌, List, [], ◌∷◌, ◌++◌, length, codes, All, fold}
use Rattle.std.specs.Prelude.{Bool, true, false, Option, Some, None}
use Rattle.rv_machine.specs.Start.{IsRegionSize, IsStackSize}
use Rattle.command_words.specs.declared.commands.Limits.{Limits}

-- ---- numbers: 1 to 19 decimal digits

abbrev pub IsDigit : ℕ → Type 0
IsDigit byte = (48 ≤ byte) × (byte ≤ 57)

-- the number that digits make
abbrev pub number_of : List ℕ → ℕ
number_of digits = fold (λ n digit. n * 10 + (digit - 48)) 0 digits

pub record IsNumber (word : List ℕ) (n : ℕ) : Type 0 where
  pub digits : All IsDigit word
  pub some : word ≢ []
  pub few : length word ≤ 19
  pub value : n ≡ number_of word

-- ---- options

-- an option with a number that is allowed, or no words, and then the number is this
abbrev pub IsNumberOption : List ℕ → (ℕ → Type 0) → ℕ → List (List ℕ) → ℕ → Type 0
IsNumberOption name IsAllowed default words n =
    ((words ≡ []) × (n ≡ default)) ⊎ ((word : List ℕ) × (words ≡ name ∷ word ∷ []) × IsNumber word n × IsAllowed n)

-- an option with a name, which isn't empty, or no words and no name
abbrev pub IsNameOption : List ℕ → List (List ℕ) → Option (List ℕ) → Type 0
IsNameOption option words found =
    ((words ≡ []) × (found ≡ None)) ⊎ ((word : List ℕ) × (words ≡ option ∷ word ∷ []) × (word ≢ [])
    × (found ≡ Some word))

-- an option that is a word alone: it stands there, or there are no words
abbrev pub IsFlag : List ℕ → List (List ℕ) → Bool → Type 0
IsFlag option words stands = ((words ≡ []) × (stands ≡ false)) ⊎ ((words ≡ option ∷ []) × (stands ≡ true))

-- ---- the limits of a run

abbrev pub region_default : ℕ
region_default = 16777216

abbrev pub stack_default : ℕ
stack_default = 1048576

abbrev pub steps_default : ℕ
steps_default = 100000000

-- the limits of a run whose words tell none
abbrev pub default_limits : Limits
default_limits = record { region = region_default; stack = stack_default; steps = steps_default }

abbrev pub IsStepLimit : ℕ → Type 0
IsStepLimit steps = steps ≤ 9223372036854775807

-- the options of a run's limits, each at most once, in this order
pub record AreLimits (words : List (List ℕ)) (limits : Limits) : Type 0 where
  pub region_words : List (List ℕ)
  pub stack_words : List (List ℕ)
  pub steps_words : List (List ℕ)
  pub words_are : words ≡ region_words ++ (stack_words ++ steps_words)
  pub region : IsNumberOption (codes "--region") IsRegionSize region_default region_words limits.region
  pub stack : IsNumberOption (codes "--stack") IsStackSize stack_default stack_words limits.stack
  pub steps : IsNumberOption (codes "--steps") IsStepLimit steps_default steps_words limits.steps

-- ---- commands

-- a file that is compiled and run, perhaps with a file of input, lines on its storage and a name for its image; an
-- image in a file that is run, perhaps with a file of input; a file whose program's type and number of casts are put; a
-- file whose program's safe labels are put; a file whose program's casts are put; a file whose program's code is put,
-- instruction by instruction; a file whose program's image is put; a file whose program's calculus is run for so many
-- steps at most, perhaps with a file of input; a number whose program of the family is made, compiled, run and measured
pub data Command : Type 0 where
  Run : List ℕ → Limits → Option (List ℕ) → Bool → Option (List ℕ) → Command
  Exec : List ℕ → Limits → Option (List ℕ) → Command
  Check : List ℕ → Command
  Audit : List ℕ → Command
  Casts : List ℕ → Command
  Code : List ℕ → Command
  ImageOf : List ℕ → Command
  Model : List ℕ → ℕ → Option (List ℕ) → Command
  Gen : ℕ → Command

pub record IsRun (words : List (List ℕ)) (file : List ℕ) (limits : Limits) (input : Option (List ℕ)) (space : Bool)
    (image : Option (List ℕ)) : Type 0 where
  pub limit_words : List (List ℕ)
  pub input_words : List (List ℕ)
  pub space_words : List (List ℕ)
  pub image_words : List (List ℕ)
  pub words_are : words ≡ codes "run" ∷ file ∷ limit_words ++ (input_words ++ (space_words ++ image_words))
  pub named : file ≢ []
  pub limits_are : AreLimits limit_words limits
  pub input_is : IsNameOption (codes "--input") input_words input
  pub space_is : IsFlag (codes "--space") space_words space
  pub image_is : IsNameOption (codes "--image") image_words image

pub record IsExec (words : List (List ℕ)) (file : List ℕ) (limits : Limits) (input : Option (List ℕ)) : Type 0 where
  pub limit_words : List (List ℕ)
  pub input_words : List (List ℕ)
  pub words_are : words ≡ codes "exec" ∷ file ∷ limit_words ++ input_words
  pub named : file ≢ []
  pub limits_are : AreLimits limit_words limits
  pub input_is : IsNameOption (codes "--input") input_words input

-- the words are this one and a file
pub record IsOfFile (command : List ℕ) (words : List (List ℕ)) (file : List ℕ) : Type 0 where
  pub words_are : words ≡ command ∷ file ∷ []
  pub named : file ≢ []

-- the steps that a model may be given
abbrev pub IsModelLimit : ℕ → Type 0
IsModelLimit steps = steps ≤ 10000000

pub record IsModel (words : List (List ℕ)) (file : List ℕ) (steps : ℕ) (input : Option (List ℕ)) : Type 0 where
  pub steps_word : List ℕ
  pub input_words : List (List ℕ)
  pub words_are : words ≡ codes "model" ∷ file ∷ codes "--steps" ∷ steps_word ∷ input_words
  pub named : file ≢ []
  pub steps_are : IsNumber steps_word steps
  pub allowed : IsModelLimit steps
  pub input_is : IsNameOption (codes "--input") input_words input

-- the numbers that have a program of the family
abbrev pub IsFamilyNumber : ℕ → Type 0
IsFamilyNumber n = (1 ≤ n) × (n ≤ 200)

pub record IsGen (words : List (List ℕ)) (number : ℕ) : Type 0 where
  pub word : List ℕ
  pub words_are : words ≡ codes "gen" ∷ word ∷ []
  pub number_is : IsNumber word number
  pub allowed : IsFamilyNumber number

abbrev pub IsCommand : List (List ℕ) → Command → Type 0
IsCommand words (Run file limits input space image) = IsRun words file limits input space image
IsCommand words (Exec file limits input) = IsExec words file limits input
IsCommand words (Check file) = IsOfFile (codes "check") words file
IsCommand words (Audit file) = IsOfFile (codes "audit") words file
IsCommand words (Casts file) = IsOfFile (codes "casts") words file
IsCommand words (Code file) = IsOfFile (codes "code") words file
IsCommand words (ImageOf file) = IsOfFile (codes "image") words file
IsCommand words (Model file steps input) = IsModel words file steps input
IsCommand words (Gen number) = IsGen words number

-- the words are no command
abbrev pub AreNoCommand : List (List ℕ) → Type 0
AreNoCommand words = (command : Command) → IsCommand words command → ⊥
