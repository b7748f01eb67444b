-- An environment call halts for want of region only if it is number 5, and for want of stack only if it is number 6.
use Rattle.std.proofs.Common.{Bool, true, false, ℕ, ◌≡◌, List, Option, Some, None, refl, arith}
use Rattle.std.specs.Prelude.{ℤ, nat_lt, nat_le, ◌==◌, slice_get, if◌then◌else◌}
use Rattle.grift_base.specs.World.{WorldState}
use Rattle.grift_base.specs.Reading.{next_number}
use Rattle.grift_base.specs.EnvironmentCall.{Called, environment_call, ends, ends_plain, traps, reads}
use Rattle.grift_base.specs.declared.places.Pos.{Pos}
use Rattle.grift_base.specs.declared.verdicts.AnswerKind.{AnswerKind}
use Rattle.grift_base.specs.declared.worlds.EnvEffect.{EnvEffect}
use Rattle.grift_base.specs.declared.worlds.EnvEffect.TheVariants.{Next, Ended, Blamed, Trapped, RegionOut, StackOut}
use Rattle.grift_base.specs.declared.worlds.EnvEffect.TheVariants.{Refused, OutOfMemory}
use Rattle.machine_words.specs.Halts.{Room, Region, Stack, Lacks}
use Rattle.low_ir.specs.Steps.{Halts, effect_of, blame_of}

-- the environment call that ends a run for want of this room
abbrev pub call_of : Room → ℕ
call_of Region = 5
call_of Stack = 6

-- an effect that ends a run for want of room comes of the call with that number
abbrev ComesOf : ℕ → EnvEffect → Type 0
ComesOf number (Next a b) = Unit {0}
ComesOf number (Ended answer) = Unit {0}
ComesOf number (Blamed label) = Unit {0}
ComesOf number (Trapped trap) = Unit {0}
ComesOf number RegionOut = number ≡ 5
ComesOf number StackOut = number ≡ 6
ComesOf number Refused = Unit {0}
ComesOf number OutOfMemory = Unit {0}

either : (number : ℕ) (b : Bool) (x y : EnvEffect) → ComesOf number x → ComesOf number y
    → ComesOf number (if b then x else y)
either number true x y h k = h
either number false x y h k = k

plain_comes : (number : ℕ) (kind : AnswerKind) (word : ℕ) → ComesOf number (ends_plain kind word)
plain_comes number kind word = either number (word == 0) _ _ tt tt

answer_comes : (number kind word : ℕ) → ComesOf number (ends kind word)
answer_comes number kind word =
    either number (kind == 0) _ _ tt (
    either number (kind == 1) _ _ (either number (nat_le word 1) _ _ tt tt) (
    either number (kind == 2) _ _ (plain_comes number _ word) (
    either number (kind == 3) _ _ (plain_comes number _ word) (
    either number (kind == 4) _ _ (plain_comes number _ word) (
    either number (kind == 5) _ _ (plain_comes number _ word) (
    either number (kind == 6) _ _ (plain_comes number _ word) tt))))))

trap_comes : (number kind : ℕ) → ComesOf number (traps kind)
trap_comes number kind =
    either number (kind == 1) _ _ tt (
    either number (kind == 2) _ _ tt (either number (kind == 3) _ _ tt (either number (kind == 4) _ _ tt tt)))

read_comes : (number : ℕ) (o : Option ℤ) → ComesOf number (reads o)
read_comes number (Some n) = tt
read_comes number None = tt

-- of a choice between calls
chosen : (number k : ℕ) (x y : Called) → (number ≡ k → ComesOf number x.effect) → ComesOf number y.effect
    → ComesOf number (if number == k then x else y).effect
chosen number k x y h later = by_test (number == k) refl
  where
    by_test : (b : Bool) → (number == k) ≡ b → ComesOf number (if b then x else y).effect
    by_test true e = h (grind arith)
    by_test false e = later

call_comes : (number a b labels : ℕ) (w : WorldState) → ComesOf number (environment_call number a b labels w).effect
unfolding environment_call
call_comes number a b labels w =
    chosen number 0 _ _ (λ e. answer_comes number a b) (
    chosen number 1 _ _ (λ e. tt) (
    chosen number 2 _ _ (λ e. tt) (
    chosen number 3 _ _ (λ e. either number (nat_lt a labels) _ _ tt tt) (
    chosen number 4 _ _ (λ e. trap_comes number a) (
    chosen number 5 _ _ (λ e. e) (
    chosen number 6 _ _ (λ e. e) (
    chosen number 7 _ _ (λ e. read_comes number (next_number w)) tt)))))))

blame_has_room : (room : Room) (o : Option Pos) → blame_of o ≡ Halts (Lacks room) → ⊥
blame_has_room room None e = cc
blame_has_room room (Some label) e = cc

lacks_by : (room : Room) (labels : List Pos) (number : ℕ) (effect : EnvEffect) → ComesOf number effect
    → effect_of labels effect ≡ Halts (Lacks room) → number ≡ call_of room
lacks_by room labels number (Next a b) c e = absurd (let z : ⊥ = cc in z)
lacks_by room labels number (Ended answer) c e = absurd (let z : ⊥ = cc in z)
lacks_by room labels number (Blamed label) c e = absurd (blame_has_room room (slice_get labels label) e)
lacks_by room labels number (Trapped trap) c e = absurd (let z : ⊥ = cc in z)
lacks_by Region labels number RegionOut c e = c
lacks_by Stack labels number RegionOut c e = absurd (let z : ⊥ = cc in z)
lacks_by Region labels number StackOut c e = absurd (let z : ⊥ = cc in z)
lacks_by Stack labels number StackOut c e = c
lacks_by room labels number Refused c e = absurd (let z : ⊥ = cc in z)
lacks_by room labels number OutOfMemory c e = absurd (let z : ⊥ = cc in z)

-- a call of another number doesn't halt for want of this room
pub call_has_room : (room : Room) (labels : List Pos) (number a b count : ℕ) (w : WorldState)
    → (number == call_of room) ≡ false
    → effect_of labels (environment_call number a b count w).effect ≡ Halts (Lacks room) → ⊥
call_has_room room labels number a b count w other e =
    let same : number ≡ call_of room =
    lacks_by room labels number (environment_call number a b count w).effect (call_comes number a b count w) e in
    differs number (call_of room) other same
  where
    differs : (n k : ℕ) → (n == k) ≡ false → n ≡ k → ⊥
    differs n k h same = grind arith
