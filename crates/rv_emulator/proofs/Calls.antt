-- Environment calls, as the program makes them.
use Rattle.std.proofs.Common.{ℕ, ◌%◌, ◌≡◌, ◌≢◌, inl, inr, Bool, true, false, List, [], ◌∷◌, ◌++◌, length, Option}
use Rattle.std.proofs.Common.{Some, None}
use Rattle.std.proofs.Common.{refl, sym, ◌∙◌, ap, arith}
use Rattle.std.proofs.lemmas.Bool.{cases_eq}
use Rattle.std.proofs.lemmas.List.{append_assoc}
use Rattle.std.specs.Prelude.{ℤ, IsTrue, ◌||◌, ◌==◌, nat_lt, if◌then◌else◌}
use Rattle.std.specs.Fmt.{signed_decimal}
use Rattle.std.specs.Int.{cast_signed, w64}
use Rattle.grift_base.specs.World.{WorldState, printing}
use Rattle.grift_base.specs.Reading.{next_number, after_reading}
use Rattle.grift_base.specs.EnvironmentCall.{environment_call, Called, ends, traps, reads, MakesCall, StaysUnlessNext}
use Rattle.grift_base.specs.declared.worlds.EnvEffect.{EnvEffect}
use Rattle.grift_base.specs.declared.worlds.EnvEffect.TheVariants.{Next as GoesOn, Ended, Blamed, Trapped, Refused}
use Rattle.grift_base.specs.declared.worlds.EnvEffect.TheVariants.{RegionOut, StackOut, OutOfMemory}
use Rattle.rv_emulator.specs.Consoles.{MakesCallWithin}
use Rattle.rv_machine.specs.State.{State, reg}
use Rattle.rv_machine.specs.Turn.{comes_to, call_environment}

-- the call comes to what the world answered
pub call_is : (s : State) (number a0 a1 labels : ℕ) (effect : EnvEffect) (new : WorldState) → number ≡ reg s 17
    → a0 ≡ reg s 10 → a1 ≡ reg s 11 → labels ≡ length s.layout.labels
    → (effect ≡ (environment_call number a0 a1 labels s.world).effect)
    × (new ≡ (environment_call number a0 a1 labels s.world).world) → call_environment s ≡ comes_to effect new s
call_is s number a0 a1 labels effect new e f g h m = rw (m.0, m.1, e, f, g, h)

-- with the outside as before
pub as_before : (s : State) (new : WorldState) → new ≡ s.world → ◌≡◌ {A = State} (record s { world = new }) s
as_before s new e = rw e

-- ---- what was printed before makes no difference

-- with this printed before
abbrev pub with_output : List ℕ → WorldState → WorldState
with_output out w = record w { output = out }

read_with : (out : List ℕ) (o : Option ℤ) (w : WorldState)
    → after_reading o (with_output out w) ≡ with_output out (after_reading o w)
read_with out (Some n) w = refl
read_with out None w = refl

abbrev made_with : List ℕ → Called → Called
made_with out c = record { effect = c.effect; world = with_output out c.world }

by_tests : (a b c d e f : Bool) (x y z : EnvEffect) (out : List ℕ) (w : WorldState)
    → ◌≡◌ {A = Called} (if a then record { effect = x; world = with_output out w }
    else if b then record { effect = y; world = with_output out w }
    else if c then record { effect = z; world = with_output out w }
    else if d then record { effect = RegionOut; world = with_output out w }
    else if e then record { effect = StackOut; world = with_output out w }
    else if f then record { effect = reads (next_number w); world = after_reading (next_number w) (with_output out w) }
    else record { effect = Refused; world = with_output out w })
    (made_with out (if a then record { effect = x; world = w }
    else if b then record { effect = y; world = w }
    else if c then record { effect = z; world = w }
    else if d then record { effect = RegionOut; world = w }
    else if e then record { effect = StackOut; world = w }
    else if f then record { effect = reads (next_number w); world = after_reading (next_number w) w }
    else record { effect = Refused; world = w }))
by_tests true b c d e f x y z out w = refl
by_tests false true c d e f x y z out w = refl
by_tests false false true d e f x y z out w = refl
by_tests false false false true e f x y z out w = refl
by_tests false false false false true f x y z out w = refl
by_tests false false false false false true x y z out w =
    ap (λ v. record { effect = reads (next_number w); world = v }) (read_with out (next_number w) w)
by_tests false false false false false false x y z out w = refl

unequal : (m n : ℕ) → m ≢ n → (m == n) ≡ false
unequal m n h = grind arith

-- a call that doesn't print
pub silent_call : (number a0 a1 labels : ℕ) (out : List ℕ) (w : WorldState) → number ≢ 1 → number ≢ 2
    → environment_call number a0 a1 labels (with_output out w)
    ≡ made_with out (environment_call number a0 a1 labels w)
unfolding environment_call
silent_call number a0 a1 labels out w h k =
    let one : (number == 1) ≡ false = unequal number 1 h in
    let two : (number == 2) ≡ false = unequal number 2 k in
    rw (one, two) (by_tests (number == 0) (number == 3) (number == 4) (number == 5) (number == 6) (number == 7)
    (ends a0 a1) (if nat_lt a0 labels then Blamed a0 else Refused) (traps a0) out w)

prints_not : (number : ℕ) {P : Type 0} → number ≢ 1 → number ≢ 2 → IsTrue ((number == 1) || (number == 2)) → P
prints_not number h k t = grind arith

on_with : (out : List ℕ) (c d : Called) (v : WorldState) (effect : EnvEffect) → d ≡ made_with out c
    → (effect ≡ c.effect) × (v ≡ c.world) → (effect ≡ d.effect) × (with_output out v ≡ d.world)
on_with out c d v effect e m = rw e (m.0, ap (with_output out) m.1)

-- what comes of such a call
pub silent_comes : (reserved number a0 a1 labels : ℕ) (out : List ℕ) (w v : WorldState) (effect : EnvEffect)
    → number ≢ 1 → number ≢ 2 → MakesCall (environment_call number a0 a1 labels w) number w effect v
    → MakesCallWithin reserved (environment_call number a0 a1 labels (with_output out w)) number a0 (with_output out w)
    effect (with_output out v)
silent_comes reserved number a0 a1 labels out w v (GoesOn x y) h k m =
    on_with out _ _ v (GoesOn x y) (silent_call number a0 a1 labels out w h k) m
silent_comes reserved number a0 a1 labels out w v (Ended answer) h k m =
    on_with out _ _ v (Ended answer) (silent_call number a0 a1 labels out w h k) m
silent_comes reserved number a0 a1 labels out w v (Blamed label) h k m =
    on_with out _ _ v (Blamed label) (silent_call number a0 a1 labels out w h k) m
silent_comes reserved number a0 a1 labels out w v (Trapped trap) h k m =
    on_with out _ _ v (Trapped trap) (silent_call number a0 a1 labels out w h k) m
silent_comes reserved number a0 a1 labels out w v RegionOut h k m =
    on_with out _ _ v RegionOut (silent_call number a0 a1 labels out w h k) m
silent_comes reserved number a0 a1 labels out w v StackOut h k m =
    on_with out _ _ v StackOut (silent_call number a0 a1 labels out w h k) m
silent_comes reserved number a0 a1 labels out w v Refused h k m =
    on_with out _ _ v Refused (silent_call number a0 a1 labels out w h k) m
silent_comes reserved number a0 a1 labels out w v OutOfMemory h k m = prints_not number h k m.0

pub silent_stays : (out : List ℕ) (w v : WorldState) (effect : EnvEffect) → StaysUnlessNext effect w v
    → StaysUnlessNext effect (with_output out w) (with_output out v)
silent_stays out w v (GoesOn x y) m = tt
silent_stays out w v (Ended answer) m = ap (with_output out) m
silent_stays out w v (Blamed label) m = ap (with_output out) m
silent_stays out w v (Trapped trap) m = ap (with_output out) m
silent_stays out w v RegionOut m = ap (with_output out) m
silent_stays out w v StackOut m = ap (with_output out) m
silent_stays out w v Refused m = ap (with_output out) m
silent_stays out w v OutOfMemory m = ap (with_output out) m

-- the calls that print
pub int_comes : (reserved number a0 a1 labels : ℕ) (w v : WorldState) (effect : EnvEffect) → number ≡ 1
    → MakesCallWithin reserved
    (record { effect = GoesOn a0 a1; world = printing (signed_decimal (cast_signed w64 a0)) w }) 1 a0 w effect v
    → MakesCallWithin reserved (environment_call number a0 a1 labels w) number a0 w effect v
unfolding environment_call
int_comes reserved number a0 a1 labels w v effect e m = rw e m

pub byte_comes : (reserved number a0 a1 labels : ℕ) (w v : WorldState) (effect : EnvEffect) → number ≡ 2
    → MakesCallWithin reserved (record { effect = GoesOn a0 a1; world = printing (a0 % 256 ∷ []) w }) 2 a0 w effect v
    → MakesCallWithin reserved (environment_call number a0 a1 labels w) number a0 w effect v
unfolding environment_call
byte_comes reserved number a0 a1 labels w v effect e m = rw e m

-- ---- what was printed before stays before

abbrev pub before_call : List ℕ → Called → Called
before_call bytes c = record { effect = c.effect; world = with_output (bytes ++ c.world.output) c.world }

silent_output : (number a0 a1 labels : ℕ) (w : WorldState) → number ≢ 1 → number ≢ 2
    → (environment_call number a0 a1 labels w).world.output ≡ w.output
silent_output number a0 a1 labels w h k =
    ap (λ (c : Called). c.world.output) (silent_call number a0 a1 labels w.output w h k)

silent_before : (bytes : List ℕ) (number a0 a1 labels : ℕ) (w : WorldState) → number ≢ 1 → number ≢ 2
    → environment_call number a0 a1 labels (with_output (bytes ++ w.output) w)
    ≡ before_call bytes (environment_call number a0 a1 labels w)
silent_before bytes number a0 a1 labels w h k =
    silent_call number a0 a1 labels (bytes ++ w.output) w h k
    ∙ ap (λ out. made_with (bytes ++ out) (environment_call number a0 a1 labels w))
    (sym (silent_output number a0 a1 labels w h k))

int_before : (bytes : List ℕ) (number a0 a1 labels : ℕ) (w : WorldState) → number ≡ 1
    → environment_call number a0 a1 labels (with_output (bytes ++ w.output) w)
    ≡ before_call bytes (environment_call number a0 a1 labels w)
unfolding environment_call
int_before bytes number a0 a1 labels w e =
    rw (e, append_assoc bytes w.output (signed_decimal (cast_signed w64 a0)))

byte_before : (bytes : List ℕ) (number a0 a1 labels : ℕ) (w : WorldState) → number ≡ 2
    → environment_call number a0 a1 labels (with_output (bytes ++ w.output) w)
    ≡ before_call bytes (environment_call number a0 a1 labels w)
unfolding environment_call
byte_before bytes number a0 a1 labels w e = rw (e, append_assoc bytes w.output (a0 % 256 ∷ []))

pub call_prints : (bytes : List ℕ) (number a0 a1 labels : ℕ) (w : WorldState)
    → environment_call number a0 a1 labels (with_output (bytes ++ w.output) w)
    ≡ before_call bytes (environment_call number a0 a1 labels w)
call_prints bytes number a0 a1 labels w =
    elim (cases_eq number 1) [
      | inl e ↦ int_before bytes number a0 a1 labels w e
      | inr h ↦ elim (cases_eq number 2) [
        | inl e ↦ byte_before bytes number a0 a1 labels w e
        | inr k ↦ silent_before bytes number a0 a1 labels w h k
      ]
    ]
