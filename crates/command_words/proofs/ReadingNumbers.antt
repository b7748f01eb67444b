-- The numbers that words are.
use Rattle.std.proofs.Common.{ℕ, ◌+◌, ◌-◌, ◌*◌, ◌^◌, ◌<◌, ◌≤◌, ◌≡◌, false, List, length, take, get_or, inl, inr, refl}
use Rattle.std.proofs.Common.{sym, ap, subst, ◌∙◌, add-one, arith}
use Rattle.std.specs.Prelude.{◌==◌}
use Rattle.std.proofs.Math.Nat.{eq-or-lt_of_le, pow-suc, pow-le-pow_right}
use Rattle.std.proofs.lemmas.List.{get_or_default, take_all}
use Rattle.std.proofs.lemmas.List.Sums.{fold_more}
use Rattle.command_words.proofs.ReadingOptions.{not_empty}
use Rattle.command_words.specs.Commands.{IsDigit, IsNumber, number_of}

-- one digit more makes a number below the next power of ten
pub pow_step : (n d i : ℕ) → n < 10 ^ i → d ≤ 9 → n * 10 + d < 10 ^ (i + 1)
pow_step n d i h k =
    let e : 10 ^ (i + 1) ≡ 10 ^ i * 10 = rw add-one (pow-suc 10 i) in
    omega (arith, e)

-- 19 digits fit
pub nineteen_digits : (n d i : ℕ) → n < 10 ^ i → d ≤ 9 → i ≤ 18 → n * 10 + d < 18446744073709551616
nineteen_digits n d i h k few =
    let e : 10 ^ i ≤ 10 ^ 18 = pow-le-pow_right (omega arith) few in
    omega arith

-- one digit more
pub number_more : (n d i : ℕ) (digits : List ℕ) → i < length digits → n ≡ number_of (take i digits)
    → d ≡ get_or digits i 0 - 48 → n * 10 + d ≡ number_of (take (i + 1) digits)
number_more n d i digits h e f = (rw (e, f) refl) ∙ sym (fold_more (λ n digit. n * 10 + (digit - 48)) 0 digits i 0 h)

pub digits_more : (i : ℕ) (digits : List ℕ) → ((k : ℕ) → k < i → IsDigit (get_or digits k 0))
    → IsDigit (get_or digits i 0) → (k : ℕ) → k < i + 1 → IsDigit (get_or digits k 0)
digits_more i digits h d k below =
    elim (eq-or-lt_of_le (let below : k ≤ i = omega arith in below)) [
      | inr less ↦ h k less
      | inl e ↦ subst (λ (j : ℕ). IsDigit (get_or digits j 0)) (sym e) d
    ]

pub is_number : (n i : ℕ) (digits word : List ℕ) → digits ≡ word → false ≡ (length digits == 0) → length digits ≤ 19
    → length digits ≤ i → n ≡ number_of (take i digits) → ((k : ℕ) → k < i → IsDigit (get_or digits k 0))
    → IsNumber word n
is_number n i digits word e some few all value h = subst (λ (xs : List ℕ). IsNumber xs n) e (record {
  digits = λ k d below. subst IsDigit (get_or_default digits k 0 d below) (h k (omega arith));
  some = not_empty digits some;
  few = few;
  value = value ∙ ap number_of (take_all i digits all);
})
