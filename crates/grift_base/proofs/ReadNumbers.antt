-- A number that is read has 64 bits.
use Rattle.std.proofs.Common.{◌≡◌, ◌<◌, ◌^◌, Bool, true, false, Some, None, ℕ, ℤ, pos, negsuc, refl, subst, arith}
use Rattle.std.specs.Prelude.{cond, nat_lt, FitsSigned}
use Rattle.std.specs.Int.{w64}
use Rattle.std.proofs.lemmas.Bool.{ltb-true}
use Rattle.std.proofs.lemmas.Option.{option_and_then_some}
use Rattle.grift_base.specs.Numbers.{in_word, number_of}
use Rattle.grift_base.specs.Reading.{run_first, unread, next_number}
use Rattle.grift_base.specs.World.{WorldState}

same_number : (a b : ℤ) → Some a ≡ Some b → a ≡ b
same_number a b e = cc

no_number : (n : ℤ) → None ≡ Some n → FitsSigned w64 n
no_number n e = absurd (let z : ⊥ = cc in z)

-- what is read only where a natural number is below 2 ^ 63, and fits then, fits
below_fits : (m : ℕ) (z n : ℤ) → (m < 2 ^ 63 → FitsSigned w64 z) → cond (nat_lt m (2 ^ 63)) (Some z) None ≡ Some n
    → FitsSigned w64 n
below_fits m z n fits = at (nat_lt m (2 ^ 63)) refl
  where
    at : (b : Bool) → nat_lt m (2 ^ 63) ≡ b → cond b (Some z) None ≡ Some n → FitsSigned w64 n
    at true f e = subst (λ x. FitsSigned w64 x) (same_number z n e) (fits (ltb-true m (2 ^ 63) f))
    at false f e = no_number n e

in_word_fits : (z n : ℤ) → in_word z ≡ Some n → FitsSigned w64 n
in_word_fits (pos m) n e = below_fits m (pos m) n (λ below. omega arith) e
in_word_fits (negsuc m) n e = below_fits m (negsuc m) n (λ below. omega arith) e

-- the number that stands next in the input is a word with a sign
pub next_number_fits : (w : WorldState) (n : ℤ) → next_number w ≡ Some n → FitsSigned w64 n
next_number_fits w n e =
    option_and_then_some in_word (number_of (run_first (unread w))) n e (λ z f g. in_word_fits z n g)
