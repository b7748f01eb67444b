-- Which words are which command.
use Rattle.std.proofs.Common.{ℕ, ◌≡◌, ◌⊎◌, List, [], ◌∷◌, ◌++◌, inl, inr, refl, sym, ap, subst, ◌∙◌, arith}
use Rattle.std.specs.Prelude.{codes, sum, ◌≢◌, Bool, false, MatchOption, Option, Some, None}
use Rattle.std.specs.Borrow.{Bor}
use Rattle.command_words.specs.Commands.{AreNoCommand, Command, Run, Exec, Check, Audit, Casts, Code, ImageOf, Model}
use Rattle.command_words.specs.Commands.{Gen}
use Rattle.command_words.specs.Commands.{IsCommand, IsExec, IsFlag, IsGen, IsModel, IsNameOption, IsOfFile, IsRun}
use Rattle.command_words.specs.Commands.{number_of}
use Rattle.command_words.specs.declared.commands.Limits.{Limits}
use Rattle.command_words.specs.ReadCommands.{BeginOtherwise, FlagAtFront, GivesImage, LimitsAtFront, NameAtFront}
use Rattle.command_words.specs.ReadCommands.{GivesNoImage, StepsAtFront, name_bytes}
use Rattle.command_words.proofs.ReadingOptions.{name_alone, one_flag, one_name, whole_name}
use Rattle.command_words.proofs.ReadingLimits.{differ_at, flag_begins, limit_words, limits_front, named_begins}
use Rattle.command_words.proofs.ReadingLimits.{no_words_begin}
use Rattle.command_words.proofs.ReadingLimits.{one_limits, NoLimitBegins}

-- ---- how a command's words are read

-- what stands behind the input of a run
pub record RunTail (words : List (List ℕ)) (space : Bool) (image : Option (List ℕ)) : Type 0 where
  pub image_words : List (List ℕ)
  pub space_is : FlagAtFront (codes "--space") words space image_words
  pub image_is : IsNameOption (codes "--image") image_words image

pub record ReadsRun (words : List (List ℕ)) (file : List ℕ) (limits : Limits) (input : Option (List ℕ)) (space : Bool)
    (image : Option (List ℕ)) : Type 0 where
  pub options : List (List ℕ)
  pub after_limits : List (List ℕ)
  pub after_input : List (List ℕ)
  pub words_are : words ≡ codes "run" ∷ file ∷ options
  pub named : file ≢ []
  pub front : LimitsAtFront options limits after_limits
  pub input_is : NameAtFront (codes "--input") after_limits input after_input
  pub tail : RunTail after_input space image

pub record ReadsExec (words : List (List ℕ)) (file : List ℕ) (limits : Limits) (input : Option (List ℕ)) : Type 0 where
  pub options : List (List ℕ)
  pub after_limits : List (List ℕ)
  pub words_are : words ≡ codes "exec" ∷ file ∷ options
  pub named : file ≢ []
  pub front : LimitsAtFront options limits after_limits
  pub input_is : NameAtFront (codes "--input") after_limits input []

-- a word that isn't that of an option behind the limits
abbrev OtherWord : List ℕ → Type 0
OtherWord name = (name ≢ codes "--input") × (name ≢ codes "--space") × (name ≢ codes "--image")

nothing_more : (xs : List (List ℕ)) → xs ≡ xs ++ []
nothing_more [] = refl
nothing_more (x ∷ xs) = ap (λ (ys : List (List ℕ)). x ∷ ys) (nothing_more xs)

-- the options behind the input of a run begin with no other word
tail_begins : (name : List ℕ) (space_words image_words : List (List ℕ)) (space : Bool) (image : Option (List ℕ))
    → name ≢ codes "--space" → name ≢ codes "--image" → IsFlag (codes "--space") space_words space
    → IsNameOption (codes "--image") image_words image → BeginOtherwise name (space_words ++ image_words)
tail_begins name space_words image_words space image no_space no_image f m =
    flag_begins name (codes "--space") space_words image_words space no_space f
    (subst (λ (ws : List (List ℕ)). BeginOtherwise name ws) (sym (nothing_more image_words))
    (named_begins name (codes "--image") image_words [] image no_image m (no_words_begin name)))

region_is_other : OtherWord (codes "--region")
region_is_other = (
  differ_at 2 (codes "--region") (codes "--input") (omega arith),
  differ_at 2 (codes "--region") (codes "--space") (omega arith),
  differ_at 2 (codes "--region") (codes "--image") (omega arith),
)

stack_is_other : OtherWord (codes "--stack")
stack_is_other = (
  differ_at 2 (codes "--stack") (codes "--input") (omega arith),
  differ_at 3 (codes "--stack") (codes "--space") (omega arith),
  differ_at 2 (codes "--stack") (codes "--image") (omega arith),
)

steps_is_other : OtherWord (codes "--steps")
steps_is_other = (
  differ_at 2 (codes "--steps") (codes "--input") (omega arith),
  differ_at 3 (codes "--steps") (codes "--space") (omega arith),
  differ_at 2 (codes "--steps") (codes "--image") (omega arith),
)

no_limit_begins : (input_words space_words image_words : List (List ℕ)) (input : Option (List ℕ)) (space : Bool)
    (image : Option (List ℕ)) → IsNameOption (codes "--input") input_words input
    → IsFlag (codes "--space") space_words space → IsNameOption (codes "--image") image_words image
    → NoLimitBegins (input_words ++ (space_words ++ image_words))
no_limit_begins input_words space_words image_words input space image i f m = record {
  region = begins (codes "--region") region_is_other;
  stack = begins (codes "--stack") stack_is_other;
  steps = begins (codes "--steps") steps_is_other;
}
  where
    begins : (name : List ℕ) → OtherWord name → BeginOtherwise name (input_words ++ (space_words ++ image_words))
    begins name other =
        named_begins name (codes "--input") input_words (space_words ++ image_words) input other.0 i
        (tail_begins name space_words image_words space image other.1 other.2 f m)

-- the option of an input stands in front of what doesn't begin with its word
input_front : (input_words rest : List (List ℕ)) (input : Option (List ℕ))
    → IsNameOption (codes "--input") input_words input → BeginOtherwise (codes "--input") rest
    → NameAtFront (codes "--input") (input_words ++ rest) input rest
input_front input_words rest input i h =
    record { part = input_words; words_are = refl; option = i; absent = λ p. h }

image_begins : (image_words : List (List ℕ)) (image : Option (List ℕ))
    → IsNameOption (codes "--image") image_words image → BeginOtherwise (codes "--space") image_words
image_begins image_words image m =
    subst (λ (ws : List (List ℕ)). BeginOtherwise (codes "--space") ws) (sym (nothing_more image_words))
    (named_begins (codes "--space") (codes "--image") image_words [] image
    (differ_at 2 (codes "--space") (codes "--image") (omega arith)) m (no_words_begin (codes "--space")))

pub reads_run : (words : List (List ℕ)) (file : List ℕ) (limits : Limits) (input : Option (List ℕ)) (space : Bool)
    (image : Option (List ℕ)) → IsRun words file limits input space image
    → ReadsRun words file limits input space image
reads_run words file limits input space image a =
    let tail = a.space_words ++ a.image_words in
    record {
      options = a.limit_words ++ (a.input_words ++ tail);
      after_limits = a.input_words ++ tail;
      after_input = tail;
      words_are = a.words_are;
      named = a.named;
      front = limits_front (a.limit_words ++ (a.input_words ++ tail)) a.limit_words (a.input_words ++ tail) limits refl
          a.limits_are (no_limit_begins a.input_words a.space_words a.image_words input space image a.input_is
          a.space_is a.image_is);
      input_is = input_front a.input_words tail input a.input_is
          (tail_begins (codes "--input") a.space_words a.image_words space image
          (differ_at 2 (codes "--input") (codes "--space") (omega arith))
          (differ_at 3 (codes "--input") (codes "--image") (omega arith)) a.space_is a.image_is);
      tail = record {
        image_words = a.image_words;
        space_is = record {
          part = a.space_words;
          words_are = refl;
          option = a.space_is;
          absent = λ p. image_begins a.image_words image a.image_is;
        };
        image_is = a.image_is;
      };
    }

pub reads_exec : (words : List (List ℕ)) (file : List ℕ) (limits : Limits) (input : Option (List ℕ))
    → IsExec words file limits input → ReadsExec words file limits input
reads_exec words file limits input a = record {
  options = a.limit_words ++ (a.input_words ++ []);
  after_limits = a.input_words ++ [];
  words_are = a.words_are
      ∙ ap (λ (ws : List (List ℕ)). codes "exec" ∷ file ∷ a.limit_words ++ ws) (nothing_more a.input_words);
  named = a.named;
  front = limits_front (a.limit_words ++ (a.input_words ++ [])) a.limit_words (a.input_words ++ []) limits refl
      a.limits_are (no_limit_begins a.input_words [] [] input false None a.input_is (inl (refl, refl))
      (inl (refl, refl)));
  input_is = input_front a.input_words [] input a.input_is (no_words_begin (codes "--input"));
}

pub is_run : (words options after after_input image_words : List (List ℕ)) (file : List ℕ) (limits : Limits)
    (input : Option (List ℕ)) (space : Bool) (image : Option (List ℕ)) → words ≡ codes "run" ∷ file ∷ options
    → file ≢ [] → LimitsAtFront options limits after → NameAtFront (codes "--input") after input after_input
    → FlagAtFront (codes "--space") after_input space image_words
    → NameAtFront (codes "--image") image_words image [] → IsRun words file limits input space image
is_run words options after after_input image_words file limits input space image e named front i f m =
    let l = limit_words options after limits front in
    record {
      limit_words = l.limit_words;
      input_words = i.part;
      space_words = f.part;
      image_words = image_words;
      words_are = e ∙ ap (λ (ws : List (List ℕ)). codes "run" ∷ file ∷ ws)
          (l.words_are ∙ ap (λ (ws : List (List ℕ)). l.limit_words ++ ws)
          (i.words_are ∙ ap (λ (ws : List (List ℕ)). i.part ++ ws) f.words_are));
      named = named;
      limits_are = l.limits_are;
      input_is = i.option;
      space_is = f.option;
      image_is = name_alone (codes "--image") image_words image m;
    }

pub is_exec : (words options after : List (List ℕ)) (file : List ℕ) (limits : Limits) (input : Option (List ℕ))
    → words ≡ codes "exec" ∷ file ∷ options → file ≢ [] → LimitsAtFront options limits after
    → NameAtFront (codes "--input") after input [] → IsExec words file limits input
is_exec words options after file limits input e named front i =
    let l = limit_words options after limits front in
    record {
      limit_words = l.limit_words;
      input_words = i.part;
      words_are = e ∙ ap (λ (ws : List (List ℕ)). codes "exec" ∷ file ∷ ws)
          (l.words_are ∙ ap (λ (ws : List (List ℕ)). l.limit_words ++ ws)
          (i.words_are ∙ sym (nothing_more i.part)));
      named = named;
      limits_are = l.limits_are;
      input_is = i.option;
    }

-- ---- no words are two commands

pub record SameWords (a b x y : List ℕ) (xs ys : List (List ℕ)) : Type 0 where
  pub first : a ≡ b
  pub second : x ≡ y
  pub others : xs ≡ ys

pub same_words : (a b x y : List ℕ) (xs ys : List (List ℕ)) → a ∷ x ∷ xs ≡ b ∷ y ∷ ys → SameWords a b x y xs ys
same_words a b x y xs ys e = record { first = cc; second = cc; others = cc }

one_image : (words : List (List ℕ)) (a b : Option (List ℕ)) → IsNameOption (codes "--image") words a
    → IsNameOption (codes "--image") words b → a ≡ b
one_image words a b p q = elim p [
  | inl x ↦ elim q [
    | inl y ↦ x.1 ∙ sym y.1
    | inr y ↦ absurd (not_both words (codes "--image") (y.0 ∷ []) x.0 y.1)
  ]
  | inr x ↦ elim q [
    | inl y ↦ absurd (not_both words (codes "--image") (x.0 ∷ []) y.0 x.1)
    | inr y ↦ x.3 ∙ ap Some (same_words (codes "--image") (codes "--image") x.0 y.0 [] [] (sym x.1 ∙ y.1)).second
        ∙ sym y.3
  ]
]
  where
    not_both : (words : List (List ℕ)) (x : List ℕ) (xs : List (List ℕ)) → words ≡ [] → words ≡ x ∷ xs → ⊥
    not_both words x xs e f = cc

-- what stands behind the input is read in one way
one_tail : (words left : List (List ℕ)) (space other : Bool) (image name : Option (List ℕ)) → words ≡ left
    → RunTail words space image → RunTail left other name → (space ≡ other) × (image ≡ name)
one_tail words left space other image name e a b =
    let f = one_flag (codes "--space") left space other a.image_words b.image_words
    (subst (λ (ws : List (List ℕ)). FlagAtFront (codes "--space") ws space a.image_words) e a.space_is) b.space_is in (
      f.0,
      one_image b.image_words image name
          (subst (λ (ws : List (List ℕ)). IsNameOption (codes "--image") ws image) f.1 a.image_is) b.image_is,
    )

-- ---- words of commands

-- the word of a command
abbrev pub word_of : Command → List ℕ
word_of (Run file limits input space image) = codes "run"
word_of (Exec file limits input) = codes "exec"
word_of (Check file) = codes "check"
word_of (Audit file) = codes "audit"
word_of (Casts file) = codes "casts"
word_of (Code file) = codes "code"
word_of (ImageOf file) = codes "image"
word_of (Model file steps input) = codes "model"
word_of (Gen number) = codes "gen"

-- words that begin with this one, and have another behind it
pub record BeginWith (command : List ℕ) (words : List (List ℕ)) : Type 0 where
  pub second : List ℕ
  pub rest : List (List ℕ)
  pub words_are : words ≡ command ∷ second ∷ rest

pub begin_with : (words : List (List ℕ)) (command : Command) → IsCommand words command
    → BeginWith (word_of command) words
begin_with words (Run file limits input space image) a = record {
  second = file;
  rest = a.limit_words ++ (a.input_words ++ (a.space_words ++ a.image_words));
  words_are = a.words_are;
}
begin_with words (Exec file limits input) a =
    record { second = file; rest = a.limit_words ++ a.input_words; words_are = a.words_are }
begin_with words (Check file) a = record { second = file; rest = []; words_are = a.words_are }
begin_with words (Audit file) a = record { second = file; rest = []; words_are = a.words_are }
begin_with words (Casts file) a = record { second = file; rest = []; words_are = a.words_are }
begin_with words (Code file) a = record { second = file; rest = []; words_are = a.words_are }
begin_with words (ImageOf file) a = record { second = file; rest = []; words_are = a.words_are }
begin_with words (Gen number) a = record { second = a.word; rest = []; words_are = a.words_are }
begin_with words (Model file steps input) a =
    record { second = file; rest = codes "--steps" ∷ a.steps_word ∷ a.input_words; words_are = a.words_are }

-- the words of commands are told apart by the sums of their bytes
pub other_word : (a b : List ℕ) → (sum a ≡ sum b → ⊥) → a ≡ b → ⊥
other_word a b differ same = differ (ap sum same)

-- words that begin with one word are no command with another
pub other_command : (words : List (List ℕ)) (command : Command) (word : List ℕ) (file : List ℕ)
    (options : List (List ℕ)) → words ≡ word ∷ file ∷ options → IsCommand words command
    → (word ≡ word_of command → ⊥) → ⊥
other_command words command word file options is a differ =
    let b = begin_with words command a in
    differ (same_words word (word_of command) file b.second options b.rest (sym is ∙ b.words_are)).first

two_commands : (words : List (List ℕ)) (first second : Command) → IsCommand words first → IsCommand words second
    → (word_of first ≡ word_of second → ⊥) → ⊥
two_commands words first second a b differ =
    let begins = begin_with words first a in
    other_command words second (word_of first) begins.second begins.rest begins.words_are b differ

pub run_is_not_exec : codes "run" ≢ codes "exec"
run_is_not_exec = other_word (codes "run") (codes "exec") (λ e. omega arith)

-- the word of a command that may have options
abbrev pub MayHaveOptions : List ℕ → Type 0
MayHaveOptions command = (command ≡ codes "run") ⊎ (command ≡ codes "exec")

pub run_may_have_options : MayHaveOptions (codes "run")
run_may_have_options = inl refl

pub exec_may_have_options : MayHaveOptions (codes "exec")
exec_may_have_options = inr refl

-- it is no word of another command
not_another : (command word : List ℕ) → MayHaveOptions command → (sum (codes "run") ≡ sum word → ⊥)
    → (sum (codes "exec") ≡ sum word → ⊥) → command ≡ word → ⊥
not_another command word (inl run) no_run no_exec is = other_word (codes "run") word no_run (sym run ∙ is)
not_another command word (inr exec) no_run no_exec is = other_word (codes "exec") word no_exec (sym exec ∙ is)

-- limits and an input that are read from the same words are the same, and so is what is left
same_options : (options others after later rest left : List (List ℕ)) (limits found : Limits)
    (input other : Option (List ℕ)) → options ≡ others → LimitsAtFront options limits after
    → LimitsAtFront others found later → NameAtFront (codes "--input") after input rest
    → NameAtFront (codes "--input") later other left → (limits ≡ found) × (input ≡ other) × (rest ≡ left)
same_options options others after later rest left limits found input other e f g i j =
    let l = one_limits others after later limits found
    (subst (λ (ws : List (List ℕ)). LimitsAtFront ws limits after) e f) g in
    let n = one_name (codes "--input") later input other rest left
    (subst (λ (ws : List (List ℕ)). NameAtFront (codes "--input") ws input rest) l.1 i) j in
    (l.0, n.0, n.1)

two_runs : (words : List (List ℕ)) (file other : List ℕ) (limits left : Limits) (input entered : Option (List ℕ))
    (space shown : Bool) (image name : Option (List ℕ)) → ReadsRun words file limits input space image
    → ReadsRun words other left entered shown name
    → Run file limits input space image ≡ Run other left entered shown name
two_runs words file other limits left input entered space shown image name a b =
    let same = same_words (codes "run") (codes "run") file other a.options b.options (sym a.words_are ∙ b.words_are) in
    let o = same_options a.options b.options a.after_limits b.after_limits a.after_input b.after_input limits left
    input entered same.others a.front b.front a.input_is b.input_is in
    let t = one_tail a.after_input b.after_input space shown image name o.2 a.tail b.tail in
    λ k. Run (same.second k) (o.0 k) (o.1 k) (t.0 k) (t.1 k)

two_execs : (words : List (List ℕ)) (file other : List ℕ) (limits left : Limits) (input entered : Option (List ℕ))
    → ReadsExec words file limits input → ReadsExec words other left entered
    → Exec file limits input ≡ Exec other left entered
two_execs words file other limits left input entered a b =
    let same = same_words (codes "exec") (codes "exec") file other a.options b.options
    (sym a.words_are ∙ b.words_are) in
    let o = same_options a.options b.options a.after_limits b.after_limits [] [] limits left
    input entered same.others a.front b.front a.input_is b.input_is in
    λ k. Exec (same.second k) (o.0 k) (o.1 k)

one_file : (command : List ℕ) (words : List (List ℕ)) (file other : List ℕ) → IsOfFile command words file
    → IsOfFile command words other → file ≡ other
one_file command words file other a b =
    (same_words command command file other [] [] (sym a.words_are ∙ b.words_are)).second

one_number : (words : List (List ℕ)) (number other : ℕ) → IsGen words number → IsGen words other → number ≡ other
one_number words number other a b =
    a.number_is.value
    ∙ ap number_of (same_words (codes "gen") (codes "gen") a.word b.word [] [] (sym a.words_are ∙ b.words_are)).second
    ∙ sym b.number_is.value

-- the steps of a model, and what is left after them, are told by the words
pub one_steps : (words : List (List ℕ)) (steps other : ℕ) (rest left : List (List ℕ)) → StepsAtFront words steps rest
    → StepsAtFront words other left → (steps ≡ other) × (rest ≡ left)
one_steps words steps other rest left a b =
    let same = same_words (codes "--steps") (codes "--steps") a.word b.word rest left (sym a.words_are ∙ b.words_are) in
    (a.number.value ∙ ap number_of same.second ∙ sym b.number.value, same.others)

-- the options of a model begin with its steps
pub model_steps : (words options : List (List ℕ)) (file other : List ℕ) (steps : ℕ) (input : Option (List ℕ))
    → words ≡ codes "model" ∷ file ∷ options → (a : IsModel words other steps input)
    → StepsAtFront options steps a.input_words
model_steps words options file other steps input e a = record {
  word = a.steps_word;
  words_are = (same_words (codes "model") (codes "model") file other options
      (codes "--steps" ∷ a.steps_word ∷ a.input_words) (sym e ∙ a.words_are)).others;
  number = a.steps_are;
  allowed = a.allowed;
}

two_models : (words : List (List ℕ)) (file other : List ℕ) (steps left : ℕ) (input entered : Option (List ℕ))
    → IsModel words file steps input → IsModel words other left entered
    → Model file steps input ≡ Model other left entered
two_models words file other steps left input entered a b =
    let options : List (List ℕ) = codes "--steps" ∷ b.steps_word ∷ b.input_words in
    let same = same_words (codes "model") (codes "model") file other
    (codes "--steps" ∷ a.steps_word ∷ a.input_words) options (sym a.words_are ∙ b.words_are) in
    let s = one_steps options steps left a.input_words b.input_words
    (model_steps words options other file steps input b.words_are a)
    (model_steps words options other other left entered b.words_are b) in
    let i = one_name (codes "--input") b.input_words input entered [] []
    (whole_name (codes "--input") b.input_words input
    (subst (λ (ws : List (List ℕ)). IsNameOption (codes "--input") ws input) s.1 a.input_is))
    (whole_name (codes "--input") b.input_words entered b.input_is) in
    λ k. Model (same.second k) (s.0 k) (i.0 k)

pub one_command : (words : List (List ℕ)) (first second : Command) → IsCommand words first → IsCommand words second
    → first ≡ second
one_command words (Run file limits input space image) (Run other left entered shown name) a b =
    two_runs words file other limits left input entered space shown image name
    (reads_run words file limits input space image a) (reads_run words other left entered shown name b)
one_command words (Exec file limits input) (Exec other left entered) a b =
    two_execs words file other limits left input entered (reads_exec words file limits input a)
    (reads_exec words other left entered b)
one_command words (Check file) (Check other) a b = ap Check (one_file (codes "check") words file other a b)
one_command words (Audit file) (Audit other) a b = ap Audit (one_file (codes "audit") words file other a b)
one_command words (Casts file) (Casts other) a b = ap Casts (one_file (codes "casts") words file other a b)
one_command words (Code file) (Code other) a b = ap Code (one_file (codes "code") words file other a b)
one_command words (ImageOf file) (ImageOf other) a b = ap ImageOf (one_file (codes "image") words file other a b)
one_command words (Gen number) (Gen other) a b = ap Gen (one_number words number other a b)
one_command words (Model file steps input) (Model other left entered) a b =
    two_models words file other steps left input entered a b
one_command words first second a b =
    absurd (two_commands words first second a b
    (other_word (word_of first) (word_of second) (λ e. omega arith)))

-- ---- what is no command

-- options that a command with this word and this file would have
run_options : (words options : List (List ℕ)) (command file other : List ℕ) (limits : Limits)
    (input : Option (List ℕ)) (space : Bool) (image : Option (List ℕ)) → words ≡ command ∷ file ∷ options
    → (a : ReadsRun words other limits input space image) → (command ≡ codes "run") × (a.options ≡ options)
run_options words options command file other limits input space image e a =
    let same = same_words command (codes "run") file other options a.options (sym e ∙ a.words_are) in
    (same.first, sym same.others)

exec_options : (words options : List (List ℕ)) (command file other : List ℕ) (limits : Limits)
    (input : Option (List ℕ)) → words ≡ command ∷ file ∷ options → (a : ReadsExec words other limits input)
    → (command ≡ codes "exec") × (a.options ≡ options)
exec_options words options command file other limits input e a =
    let same = same_words command (codes "exec") file other options a.options (sym e ∙ a.words_are) in
    (same.first, sym same.others)

limits_of : (options others after : List (List ℕ)) (limits : Limits) → options ≡ others
    → LimitsAtFront options limits after → LimitsAtFront others limits after
limits_of options others after limits e front = subst (λ (ws : List (List ℕ)). LimitsAtFront ws limits after) e front

-- what may have limits is no command with another word
no_options : (words options : List (List ℕ)) (command file : List ℕ) (other : Command)
    → words ≡ command ∷ file ∷ options → MayHaveOptions command → IsCommand words other
    → (sum (codes "run") ≡ sum (word_of other) → ⊥) → (sum (codes "exec") ≡ sum (word_of other) → ⊥) → ⊥
no_options words options command file other e may a no_run no_exec =
    other_command words other command file options e a (not_another command (word_of other) may no_run no_exec)

pub no_limits : (words options : List (List ℕ)) (command file : List ℕ) → words ≡ command ∷ file ∷ options
    → MayHaveOptions command
    → ((limits : Limits) (rest : List (List ℕ)) → LimitsAtFront options limits rest → ⊥) → AreNoCommand words
no_limits words options command file e differs none (Run other limits input space image) a =
    let r = reads_run words other limits input space image a in
    none limits r.after_limits (limits_of r.options options r.after_limits limits
    (run_options words options command file other limits input space image e r).1 r.front)
no_limits words options command file e differs none (Exec other limits input) a =
    let r = reads_exec words other limits input a in
    none limits r.after_limits (limits_of r.options options r.after_limits limits
    (exec_options words options command file other limits input e r).1 r.front)
no_limits words options command file e differs none other a =
    no_options words options command file other e differs a (λ z. omega arith) (λ z. omega arith)

-- no input stands behind the limits
pub no_input : (words options after : List (List ℕ)) (command file : List ℕ) (found : Limits)
    → words ≡ command ∷ file ∷ options → MayHaveOptions command → LimitsAtFront options found after
    → ((input : Option (List ℕ)) (rest : List (List ℕ)) → NameAtFront (codes "--input") after input rest → ⊥)
    → AreNoCommand words
no_input words options after command file found e differs front none (Run other limits input space image) a =
    let r = reads_run words other limits input space image a in
    let l = one_limits options r.after_limits after limits found (limits_of r.options options r.after_limits limits
    (run_options words options command file other limits input space image e r).1 r.front) front in
    none input r.after_input
    (subst (λ (ws : List (List ℕ)). NameAtFront (codes "--input") ws input r.after_input) l.1 r.input_is)
no_input words options after command file found e differs front none (Exec other limits input) a =
    let r = reads_exec words other limits input a in
    let l = one_limits options r.after_limits after limits found (limits_of r.options options r.after_limits limits
    (exec_options words options command file other limits input e r).1 r.front) front in
    none input [] (subst (λ (ws : List (List ℕ)). NameAtFront (codes "--input") ws input []) l.1 r.input_is)
no_input words options after command file found e differs front none other a =
    no_options words options command file other e differs a (λ z. omega arith) (λ z. omega arith)

-- the words after the input are none that a run has there, or the command is not `run`; they aren't empty, or the
-- command is not `exec`; and it may have options
pub nothing_fits : (words options after left : List (List ℕ)) (command file : List ℕ) (found : Limits)
    (entered : Option (List ℕ)) → words ≡ command ∷ file ∷ options → MayHaveOptions command
    → LimitsAtFront options found after → NameAtFront (codes "--input") after entered left
    → (command ≡ codes "run" → (space : Bool) (image : Option (List ℕ)) → RunTail left space image → ⊥)
    → (command ≡ codes "exec" → left ≡ [] → ⊥)
    → AreNoCommand words
nothing_fits words options after left command file found entered e differs front i run exec
    (Run other limits input space image) a =
    let r = reads_run words other limits input space image a in
    let is = run_options words options command file other limits input space image e r in
    let o = same_options r.options options r.after_limits after r.after_input left limits found input entered is.1
    r.front front r.input_is i in
    run is.0 space image (subst (λ (ws : List (List ℕ)). RunTail ws space image) o.2 r.tail)
nothing_fits words options after left command file found entered e differs front i run exec
    (Exec other limits input) a =
    let r = reads_exec words other limits input a in
    let is = exec_options words options command file other limits input e r in
    let o = same_options r.options options r.after_limits after [] left limits found input entered is.1
    r.front front r.input_is i in
    exec is.0 (sym o.2)
nothing_fits words options after left command file found entered e differs front i run exec other a =
    no_options words options command file other e differs a (λ z. omega arith) (λ z. omega arith)

-- behind the option of storage stands no name of an image, so that a run has no such words there
pub no_tail : (left rest : List (List ℕ)) (found : Bool) → FlagAtFront (codes "--space") left found rest
    → ((image : Option (List ℕ)) → IsNameOption (codes "--image") rest image → ⊥) → (space : Bool)
    (image : Option (List ℕ)) → RunTail left space image → ⊥
no_tail left rest found f none space image t =
    let same = one_flag (codes "--space") left space found t.image_words rest t.space_is f in
    none image (subst (λ (ws : List (List ℕ)). IsNameOption (codes "--image") ws image) same.1 t.image_is)

-- words are left behind the name of an image, so that they are no such option alone
pub more_than_image : (left rest : List (List ℕ)) (found image : Option (List ℕ))
    → NameAtFront (codes "--image") left found rest → (rest ≡ [] → ⊥) → IsNameOption (codes "--image") left image → ⊥
more_than_image left rest found image a some m =
    some (one_name (codes "--image") left found image rest [] a (whole_name (codes "--image") left image m)).1

-- ---- what is no model

-- words that begin as a model's are no other command
model_alone : (words options : List (List ℕ)) (file : List ℕ) (other : Command)
    → words ≡ codes "model" ∷ file ∷ options → IsCommand words other
    → (sum (codes "model") ≡ sum (word_of other) → ⊥) → ⊥
model_alone words options file other e a differ =
    other_command words other (codes "model") file options e a (other_word (codes "model") (word_of other) differ)

-- no steps stand behind its file
pub no_steps : (words options : List (List ℕ)) (file : List ℕ) → words ≡ codes "model" ∷ file ∷ options
    → ((steps : ℕ) (rest : List (List ℕ)) → StepsAtFront options steps rest → ⊥) → AreNoCommand words
no_steps words options file e none (Model other steps input) a =
    none steps a.input_words (model_steps words options file other steps input e a)
no_steps words options file e none other a = model_alone words options file other e a (λ z. omega arith)

-- no input stands behind the steps
pub no_model_input : (words options after : List (List ℕ)) (file : List ℕ) (found : ℕ)
    → words ≡ codes "model" ∷ file ∷ options → StepsAtFront options found after
    → ((input : Option (List ℕ)) (rest : List (List ℕ)) → NameAtFront (codes "--input") after input rest → ⊥)
    → AreNoCommand words
no_model_input words options after file found e front none (Model other steps input) a =
    let s = one_steps options steps found a.input_words after
    (model_steps words options file other steps input e a) front in
    none input [] (whole_name (codes "--input") after input
    (subst (λ (ws : List (List ℕ)). IsNameOption (codes "--input") ws input) s.1 a.input_is))
no_model_input words options after file found e front none other a =
    model_alone words options file other e a (λ z. omega arith)

-- words are left behind the input
pub more_than_model : (words options after left : List (List ℕ)) (file : List ℕ) (found : ℕ)
    (entered : Option (List ℕ)) → words ≡ codes "model" ∷ file ∷ options → StepsAtFront options found after
    → NameAtFront (codes "--input") after entered left → (left ≡ [] → ⊥) → AreNoCommand words
more_than_model words options after left file found entered e front i some (Model other steps input) a =
    let s = one_steps options steps found a.input_words after
    (model_steps words options file other steps input e a) front in
    some (one_name (codes "--input") after entered input left [] i (whole_name (codes "--input") after input
    (subst (λ (ws : List (List ℕ)). IsNameOption (codes "--input") ws input) s.1 a.input_is))).1
more_than_model words options after left file found entered e front i some other a =
    model_alone words options file other e a (λ z. omega arith)

pub is_model : (words options after : List (List ℕ)) (file : List ℕ) (steps : ℕ) (input : Option (List ℕ))
    → words ≡ codes "model" ∷ file ∷ options → file ≢ [] → StepsAtFront options steps after
    → NameAtFront (codes "--input") after input [] → IsModel words file steps input
is_model words options after file steps input e named front i = record {
  steps_word = front.word;
  input_words = after;
  words_are = e ∙ ap (λ (ws : List (List ℕ)). codes "model" ∷ file ∷ ws) front.words_are;
  named = named;
  steps_are = front.number;
  allowed = front.allowed;
  input_is = name_alone (codes "--input") after input i;
}

-- ---- the name of an image

pub none_without_image : (words : List (List ℕ)) → AreNoCommand words → (name : List ℕ) → GivesImage words name → ⊥
none_without_image words none name g = none (Run g.file g.limits g.input g.space (Some name)) g.run

-- a run's name of an image is the one that its words give it
pub image_given : (words : List (List ℕ)) (file : List ℕ) (limits : Limits) (input : Option (List ℕ)) (space : Bool)
    (image : Option (Bor (List ℕ))) → IsRun words file limits input space (name_bytes image)
    → MatchOption image (GivesNoImage words) (λ name. GivesImage words name.now)
image_given words file limits input space None a = λ name g.
    let same : Run file limits input space None ≡ Run g.file g.limits g.input g.space (Some name) =
    one_command words (Run file limits input space None) (Run g.file g.limits g.input g.space (Some name)) a g.run in
    cc
image_given words file limits input space (Some name) a =
    record { file = file; limits = limits; input = input; space = space; run = a }
