-- What steps over words are made of; the code over registers is made of the same.
use Rattle.std.specs.Prelude.{ℕ, ◌+◌, ◌%◌, ◌==◌, ◌&&◌, nat_le, if◌then◌else◌, Bool, List, [], ◌∷◌, Option, Some, None}
use Rattle.std.specs.Prelude.{slice_get}
use Rattle.grift_base.specs.declared.places.Pos.{Pos}
use Rattle.grift_base.specs.declared.verdicts.Verdict.TheVariants.{Answer, Blame, Trap}
use Rattle.grift_base.specs.declared.worlds.EnvEffect.{EnvEffect}
use Rattle.grift_base.specs.declared.worlds.EnvEffect.TheVariants.{Next as GoesOn, Ended as Answers, Blamed as Blames}
use Rattle.grift_base.specs.declared.worlds.EnvEffect.TheVariants.{Trapped as Traps, RegionOut as RegionEnds}
use Rattle.grift_base.specs.declared.worlds.EnvEffect.TheVariants.{StackOut as StackEnds, Refused, OutOfMemory}
use Rattle.run_laws.specs.Runs.{Ending, Wrong}
use Rattle.run_laws.specs.Machines.{Next, Go, Stop}
use Rattle.machine_words.specs.Memory.{Memory, store_bytes, first_address}
use Rattle.machine_words.specs.Halts.{Halt, Ended, Lacks, Region, Stack}

-- the words that have been set, by their numbers
abbrev pub Locals : Type 0
Locals = ℕ → Option ℕ

abbrev pub no_locals : Locals
no_locals i = None

abbrev pub set_local : ℕ → ℕ → Locals → Locals
set_local d word locals i = if i == d then Some word else locals i

-- goes on with what is there; where it isn't, no meaning is given
abbrev pub given : {S V A : Type 0} → S → Option A → (A → Next S V) → Next S V
given s None go = Stop Wrong s
given s (Some x) go = go x

-- goes on where a test holds; elsewhere no meaning is given
abbrev pub only_if : {S V : Type 0} → S → Bool → Next S V → Next S V
only_if s test go = if test then go else Stop Wrong s

-- what an environment call comes to: it goes on with two words, stops, or has no meaning
pub data Effect : Type 0 where
  Goes : ℕ → ℕ → Effect
  Halts : Halt → Effect
  Lost : Effect

abbrev pub blame_of : Option Pos → Effect
blame_of None = Lost
blame_of (Some label) = Halts (Ended (Blame label))

abbrev pub effect_of : List Pos → EnvEffect → Effect
effect_of labels (GoesOn a0 a1) = Goes a0 a1
effect_of labels (Answers answer) = Halts (Ended (Answer answer))
effect_of labels (Blames label) = blame_of (slice_get labels label)
effect_of labels (Traps trap) = Halts (Ended (Trap trap))
effect_of labels RegionEnds = Halts (Lacks Region)
effect_of labels StackEnds = Halts (Lacks Stack)
effect_of labels Refused = Lost
effect_of labels OutOfMemory = Lost

-- goes on with both words, stops, or is lost
abbrev pub settle : {S V : Type 0} → (Halt → Ending V) → Effect → S → (ℕ → ℕ → S) → Next S V
settle reading (Goes a0 a1) s go = Go (go a0 a1)
settle reading (Halts halt) s go = Stop (reading halt) s
settle reading Lost s go = Stop Wrong s

-- whether a word lies at an address from a bound on, below another
abbrev pub lies_within : ℕ → ℕ → ℕ → Bool
lies_within from top at = (at % 8 == 0) && (nat_le from at && nat_le (at + 8) top)

-- a word may be loaded from statics, code and region
abbrev pub may_load : ℕ → ℕ → Bool
may_load top at = lies_within first_address top at

-- a word may be stored in the region alone
abbrev pub may_store : ℕ → ℕ → ℕ → Bool
may_store region top at = lies_within region top at

-- the memory with words from an address on
abbrev pub store_words : List ℕ → ℕ → Memory → Memory
store_words [] at m = m
store_words (w ∷ ws) at m = store_words ws (at + 8) (store_bytes 8 m at w)
