-- What a call spares is known behind it.
use Rattle.std.proofs.Common.{ℕ, ◌≡◌, ◌≢◌, ◌↔◌, Bool, true, false, ◌&&◌, ◌||◌, List, [], ◌∷◌, Some, None}
use Rattle.std.proofs.Common.{refl, subst, arith}
use Rattle.std.specs.Prelude.{◌==◌, if◌then◌else◌, IsSome}
use Rattle.run_laws.specs.Runs.{Ending}
use Rattle.run_laws.specs.Machines.{Next, Go}
use Rattle.machine_words.specs.Halts.{Halt}
use Rattle.rv_machine.specs.Registers.{get_reg}
use Rattle.rv_select.specs.declared.convention.TheConstants.{STACK_POINTER, ANSWER}
use Rattle.rv_select.specs.declared.code.Place.TheVariants.{InReg}
use Rattle.rv_select.specs.declared.code.VReg.TheVariants.{Real}
use Rattle.rv_select.specs.Run.{Setting, Frame, VirtualState, may_read, is_fixed, value, back_to}
use Rattle.rv_select.specs.Holding.{SparedByCall}

not_answer : (r : ℕ) → r ≢ ANSWER → (r == ANSWER) ≡ false
not_answer r h = grind (arith, h)

not_stack : (r : ℕ) → may_read r ≡ true → (r == STACK_POINTER) ≡ false
not_stack r h = grind arith

goes : {V : Type 0} (a b : VirtualState) → (let x : Next VirtualState V = Go a in x) ≡ Go b → a ≡ b
goes a b e = cc

-- the registers of a state that are known
known_now : (reads fixed known stack answer : Bool) (word : ℕ) → reads ≡ true → stack ≡ false → answer ≡ false
    → ((stack || fixed) ≡ true) ↔ IsSome (if reads && (fixed || (known && answer)) then Some word else None)
known_now true true known false answer word r s a = (λ h. refl, λ h. refl)
known_now true false true false false word r s a = (λ h. h, λ h. h)
known_now true false false false answer word r s a = (λ h. h, λ h. h)
known_now true false true false true word r s a = absurd (let z : ⊥ = cc in z)
known_now true fixed known true answer word r s a = absurd (let z : ⊥ = cc in z)
known_now false fixed known stack answer word r s a = absurd (let z : ⊥ = cc in z)

pub calls_spare_what_is_known_behind_them : {V : Type 0} (reading : Halt → Ending V) (setting : Setting)
    (t behind : VirtualState) (r : ℕ) → back_to reading setting t.frames t ≡ Go behind → r ≢ ANSWER → may_read r ≡ true
    → SparedByCall (InReg r) ↔ IsSome (value behind (Real r))
calls_spare_what_is_known_behind_them reading setting t behind r e ten readable = by_frames t.frames e
  where
    by_frames : (fs : List Frame) → back_to reading setting fs t ≡ Go behind
        → SparedByCall (InReg r) ↔ IsSome (value behind (Real r))
    by_frames [] e = absurd (let z : ⊥ = cc in z)
    by_frames (f ∷ fs) e =
        subst (λ u. SparedByCall (InReg r) ↔ IsSome (value u (Real r))) (goes _ _ e)
        (known_now (may_read r) (is_fixed r) (t.known r) (r == STACK_POINTER) (r == ANSWER) (get_reg t.regs r) readable
        (not_stack r readable) (not_answer r ten))
