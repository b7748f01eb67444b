-- What an environment call does, by its number and its first two words.
use Rattle.std.specs.Prelude.{ℕ, ℤ, ◌%◌, ◌≡◌, ◌==◌, nat_lt, nat_le, if◌then◌else◌, [], ◌∷◌, IsTrue, ◌||◌}
use Rattle.std.specs.Prelude.{Option, Some, None}
use Rattle.std.specs.Fmt.{signed_decimal}
use Rattle.std.specs.Int.{cast_signed, cast_unsigned, w64}
use Rattle.grift_base.specs.World.{WorldState, printing}
use Rattle.grift_base.specs.Reading.{next_number, after_reading}
use Rattle.grift_base.specs.declared.environment.TheConstants.{END_CALL, PRINT_INT_CALL, PRINT_BYTE_CALL}
use Rattle.grift_base.specs.declared.environment.TheConstants.{BLAME_CALL, TRAP_CALL, REGION_OUT_CALL}
use Rattle.grift_base.specs.declared.environment.TheConstants.{STACK_OUT_CALL, READ_INT_CALL}
use Rattle.grift_base.specs.declared.verdicts.AnswerKind.{AnswerKind}
use Rattle.grift_base.specs.declared.verdicts.AnswerKind.TheVariants.{Int, Bool, Unit as UnitKind, Function, Tuple}
use Rattle.grift_base.specs.declared.verdicts.AnswerKind.TheVariants.{Boxed, Vector}
use Rattle.grift_base.specs.declared.verdicts.Trap.TheVariants.{ZeroDivisor, Index, Length, Input}
use Rattle.grift_base.specs.declared.worlds.EnvEffect.{EnvEffect}
use Rattle.grift_base.specs.declared.worlds.EnvEffect.TheVariants.{Next, Ended, Blamed, Trapped, RegionOut, StackOut}
use Rattle.grift_base.specs.declared.worlds.EnvEffect.TheVariants.{Refused, OutOfMemory}

-- what the call comes to, and the outside after it
pub record Called : Type 0 where
  pub effect : EnvEffect
  pub world : WorldState

-- the program ends with an answer of this kind, whose word is 0
abbrev pub ends_plain : AnswerKind → ℕ → EnvEffect
ends_plain kind word = if word == 0 then Ended (record { kind = kind; word = cast_signed w64 0 }) else Refused

-- the call that ends: an answer of the kind of this number with this word
abbrev pub ends : ℕ → ℕ → EnvEffect
ends kind word =
    if kind == 0 then Ended (record { kind = Int; word = cast_signed w64 word })
    else if kind == 1 then (if nat_le word 1 then Ended (record { kind = Bool; word = cast_signed w64 word }) else
    Refused)
    else if kind == 2 then ends_plain UnitKind word
    else if kind == 3 then ends_plain Function word
    else if kind == 4 then ends_plain Tuple word
    else if kind == 5 then ends_plain Boxed word
    else if kind == 6 then ends_plain Vector word
    else Refused

-- the call that traps: the trap of this number
abbrev pub traps : ℕ → EnvEffect
traps kind =
    if kind == 1 then Trapped ZeroDivisor
    else if kind == 2 then Trapped Index
    else if kind == 3 then Trapped Length
    else if kind == 4 then Trapped Input
    else Refused

-- the call that reads: the number that was read with the word 0 behind it, or 0 and 1 where there is none
abbrev pub reads : Option ℤ → EnvEffect
reads (Some n) = Next (cast_unsigned w64 n) 0
reads None = Next 0 1

-- the call with this number and these first two words, in a program with so many labels
unfoldable pub environment_call : ℕ → ℕ → ℕ → ℕ → WorldState → Called
environment_call number a0 a1 labels w =
    if number == END_CALL then record { effect = ends a0 a1; world = w }
    else if number == PRINT_INT_CALL then record {
      effect = Next a0 a1;
      world = printing (signed_decimal (cast_signed w64 a0)) w;
    }
    else if number == PRINT_BYTE_CALL then record { effect = Next a0 a1; world = printing (a0 % 256 ∷ []) w }
    else if number == BLAME_CALL then record { effect = if nat_lt a0 labels then Blamed a0 else Refused; world = w }
    else if number == TRAP_CALL then record { effect = traps a0; world = w }
    else if number == REGION_OUT_CALL then record { effect = RegionOut; world = w }
    else if number == STACK_OUT_CALL then record { effect = StackOut; world = w }
    else if number == READ_INT_CALL then record {
      effect = reads (next_number w);
      world = after_reading (next_number w) w;
    }
    else record { effect = Refused; world = w }

-- the calls that print
abbrev pub Prints : ℕ → Type 0
Prints number = IsTrue ((number == PRINT_INT_CALL) || (number == PRINT_BYTE_CALL))

-- what came of the call in the program: what it comes to, or, where it prints, want of memory with the outside as
-- before
abbrev pub MakesCall : Called → ℕ → WorldState → EnvEffect → WorldState → Type 0
MakesCall c number old OutOfMemory new = Prints number × (new ≡ old)
MakesCall c number old effect new = (effect ≡ c.effect) × (new ≡ c.world)

-- only a call that goes on changes the outside
abbrev pub StaysUnlessNext : EnvEffect → WorldState → WorldState → Type 0
StaysUnlessNext (Next a0 a1) old new = Unit {0}
StaysUnlessNext (Ended answer) old new = new ≡ old
StaysUnlessNext (Blamed label) old new = new ≡ old
StaysUnlessNext (Trapped trap) old new = new ≡ old
StaysUnlessNext RegionOut old new = new ≡ old
StaysUnlessNext StackOut old new = new ≡ old
StaysUnlessNext Refused old new = new ≡ old
StaysUnlessNext OutOfMemory old new = new ≡ old
