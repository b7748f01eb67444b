-- Headers as numbers, and tests.
use Rattle.std.proofs.Common.{◌≡◌, ◌⊎◌, inl, inr, ℕ, ◌+◌, ◌*◌, ◌/◌, ◌^◌, ◌<◌, ◌≤◌, Bool, true}
use Rattle.std.proofs.Common.{false, refl, ◌∙◌, arith}
use Rattle.std.specs.Prelude.{◌==◌, nat_lt}
use Rattle.std.proofs.lemmas.Nat.{and_mask}
use Rattle.low_ir.specs.Operations.{compute}
use Rattle.low_ir.specs.declared.code.WordOp.TheVariants.{Add, And, Sll, Srl}
use Rattle.coercion_norm.specs.ObjectsOfRows.{header}
use Rattle.object_layout.specs.Words.{kind_mask}

pub eq_true : (a b : ℕ) → a ≡ b → (a == b) ≡ true
eq_true a b e = grind arith

pub eq_false : (a b : ℕ) → (a ≡ b → ⊥) → (a == b) ≡ false
eq_false a b e = grind arith

pub lt_true : (a b : ℕ) → a < b → nat_lt a b ≡ true
lt_true a b e = grind arith

pub lt_false : (a b : ℕ) → b ≤ a → nat_lt a b ≡ false
lt_false a b e = grind arith

pub eq_cases : (a b : ℕ) → (a ≡ b) ⊎ ((a == b) ≡ false)
eq_cases a b = by (a == b) refl
  where
    by : (t : Bool) → (a == b) ≡ t → (a ≡ b) ⊎ ((a == b) ≡ false)
    by true e = inl (grind (arith, e))
    by false e = inr e

pub lt_cases : (a b : ℕ) → (a < b) ⊎ (b ≤ a)
lt_cases a b = by (nat_lt a b) refl
  where
    by : (t : Bool) → nat_lt a b ≡ t → (a < b) ⊎ (b ≤ a)
    by true e = inl (grind (arith, e))
    by false e = inr (grind (arith, e))

pub kind_read : (k h c : ℕ) → k < 256 → compute And (header k h c) kind_mask ≡ k
kind_read k h c lt = and_mask (header k h c) 8 ∙ omega arith

pub height_read : (k h c : ℕ) → k < 65536 → h < 65536 → compute And (compute Srl (header k h c) 16) 65535 ≡ h
height_read k h c lt le = and_mask (header k h c / 65536) 16 ∙ omega arith

pub count_read : (k h c : ℕ) → k < 65536 → h < 65536 → compute Srl (header k h c) 32 ≡ c
count_read k h c lt le = omega arith

pub header_made : (k h c : ℕ) → k < 256 → h < 65536 → c < 16 → compute Add (compute Sll h 16) (k + c * 4294967296) ≡
    header k h c
header_made k h c a b d = omega arith

pub header_small : (k h c : ℕ) → k < 256 → h < 65536 → c < 16 → header k h c < 2 ^ 64
header_small k h c a b d = omega arith
