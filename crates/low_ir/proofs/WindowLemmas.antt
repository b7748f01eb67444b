-- Windows tell exactly of their own words.
use Rattle.std.proofs.Common.{Bool, true, false, not, ◌&&◌, ◌||◌, ℕ, zero, suc, ◌-◌, ◌^◌, ◌<◌, ◌≤◌, ◌≡◌}
use Rattle.std.proofs.Common.{◌==◌}
use Rattle.std.proofs.Common.{refl, sym, ◌∙◌, ap, subst, arith, inl, inr, ◌⊎◌}
use Rattle.std.specs.Prelude.{nat_lt, if◌then◌else◌, bit_or, min, max}
use Rattle.std.specs.Int.{bit_at}
use Rattle.std.proofs.lemmas.Bool.{cases_eq}
use Rattle.std.proofs.lemmas.Nat.Bits.{bit_at_or, bit_at_and, bit_at-pow_same, bit_at-pow_other, bit_at-lt, bit_at-zero}
use Rattle.low_ir.specs.declared.closing.Window.{Window}
use Rattle.low_ir.specs.Windows.{covers, has, also, both, first_words, window_from}

-- a window tells of its own words what is known
abbrev pub Exact : (ℕ → Bool) → Window → Type 0
Exact known w = (i : ℕ) → covers w.from i ≡ true → has w i ≡ known i

-- of a word of its own it tells by a bit
has_bit : (w : Window) (i : ℕ) → covers w.from i ≡ true → has w i ≡ (bit_at w.set (i - w.from) == 1)
has_bit w i c = ap (λ b. not b || (bit_at w.set (i - w.from) == 1)) c

-- a word that is known to be set may be read
pub told : (known : ℕ → Bool) (w : Window) (i : ℕ) → Exact known w → known i ≡ true → has w i ≡ true
told known w i x k = by (covers w.from i) refl
  where
    by : (b : Bool) → covers w.from i ≡ b → has w i ≡ true
    by true e = x i e ∙ k
    by false e = ap (λ b. not b || (bit_at w.set (i - w.from) == 1)) e

-- ---- one more word

pub also_from : (d : ℕ) (w : Window) → (also d w).from ≡ w.from
also_from d w = by (covers w.from d)
  where
    by : (b : Bool) → (if b then record w { set = bit_or w.set (2 ^ (d - w.from)) } else w).from ≡ w.from
    by true = refl
    by false = refl

covers_parts : (from i : ℕ) → covers from i ≡ true → (from ≤ i) × (i - from < 64)
covers_parts from i c = grind arith

-- the bit of a word after that of another was set
set_bit : (set i d : ℕ) → (bit_at (bit_or set (2 ^ d)) i == 1) ≡ ((i == d) || (bit_at set i == 1))
set_bit set i d = by (cases_eq i d)
  where
    bits : bit_at (bit_or set (2 ^ d)) i ≡ max (bit_at set i) (bit_at (2 ^ d) i)
    bits = bit_at_or set (2 ^ d) i

    by : (i ≡ d) ⊎ (¬ (i ≡ d)) → (bit_at (bit_or set (2 ^ d)) i == 1) ≡ ((i == d) || (bit_at set i == 1))
    by (inl e) =
        let one : bit_at (2 ^ d) i ≡ 1 = ap (bit_at (2 ^ d)) e ∙ bit_at-pow_same d in
        let small = bit_at-lt set i in
        let all : bit_at (bit_or set (2 ^ d)) i ≡ 1 = bits ∙ (ap (max (bit_at set i)) one ∙ omega (arith, small)) in
        let same : (i == d) ≡ true = grind arith in
        ap (λ n. n == 1) all ∙ sym (ap (λ b. b || (bit_at set i == 1)) same)
    by (inr n) =
        let none : bit_at (2 ^ d) i ≡ 0 = bit_at-pow_other d i n in
        let all : bit_at (bit_or set (2 ^ d)) i ≡ bit_at set i = bits ∙ (ap (max (bit_at set i)) none ∙ omega arith) in
        let other : (i == d) ≡ false = grind arith in
        ap (λ n. n == 1) all ∙ sym (ap (λ b. b || (bit_at set i == 1)) other)

pub also_exact : (d : ℕ) (known : ℕ → Bool) (w : Window) → Exact known w → Exact (λ i. (i == d) || known i) (also d w)
also_exact d known w x i c = by (covers w.from d) refl
  where
    mine : covers w.from i ≡ true
    mine = subst (λ f. covers f i ≡ true) (also_from d w) c

    by : (b : Bool) → covers w.from d ≡ b → has (also d w) i ≡ ((i == d) || known i)
    by true e =
        let p = covers_parts w.from d e in
        let q = covers_parts w.from i mine in
        let v : Window = record w { set = bit_or w.set (2 ^ (d - w.from)) } in
        let is : also d w ≡ v = ap (λ b. if b then v else w) e in
        let here : has v i ≡ ((i - w.from == d - w.from) || (bit_at w.set (i - w.from) == 1)) =
        has_bit v i mine ∙ set_bit w.set (i - w.from) (d - w.from) in
        let names : (i - w.from == d - w.from) ≡ (i == d) = grind arith in
        let old : (bit_at w.set (i - w.from) == 1) ≡ known i = sym (has_bit w i mine) ∙ x i mine in
        ap (λ u. has u i) is ∙ (here ∙ cc (names, old))
    by false e =
        let is : also d w ≡ w = ap (λ b. if b then record w { set = bit_or w.set (2 ^ (d - w.from)) } else w) e in
        let other : (i == d) ≡ false = apart (cases_eq i d) in
        ap (λ u. has u i) is ∙ (x i mine ∙ sym (ap (λ b. b || known i) other))
      where
        apart : (i ≡ d) ⊎ (¬ (i ≡ d)) → (i == d) ≡ false
        apart (inl s) = absurd (let z : true ≡ false = sym (subst (λ j. covers w.from j ≡ true) s mine) ∙ e in cc)
        apart (inr n) = grind arith

-- ---- the words that are set in both

pub both_exact : (a b : ℕ → Bool) (w v : Window) → v.from ≡ w.from → Exact a w → Exact b v
    → Exact (λ i. a i && b i) (both w v)
both_exact a b w v s x y i c =
    let other : covers v.from i ≡ true = ap (λ f. covers f i) s ∙ c in
    let one : (bit_at w.set (i - w.from) == 1) ≡ a i = sym (has_bit w i c) ∙ x i c in
    let two : (bit_at v.set (i - v.from) == 1) ≡ b i = sym (has_bit v i other) ∙ y i other in
    let three : (bit_at v.set (i - w.from) == 1) ≡ b i = ap (λ f. bit_at v.set (i - f) == 1) (sym s) ∙ two in
    has_bit (both w v) i c ∙ (ap (λ n. n == 1) (bit_at_and w.set v.set (i - w.from)) ∙ (of_bits (bit_at w.set (i -
    w.from))
    (bit_at v.set (i - w.from)) (bit_at-lt w.set (i - w.from)) (bit_at-lt v.set (i - w.from)) ∙ cc (one, three)))
  where
    of_bits : (m n : ℕ) → m < 2 → n < 2 → (min m n == 1) ≡ ((m == 1) && (n == 1))
    of_bits zero zero p q = refl
    of_bits zero (suc zero) p q = refl
    of_bits zero (suc (suc n)) p q = absurd (omega arith)
    of_bits (suc zero) zero p q = refl
    of_bits (suc zero) (suc zero) p q = refl
    of_bits (suc zero) (suc (suc n)) p q = absurd (omega arith)
    of_bits (suc (suc m)) n p q = absurd (omega arith)

-- ---- the first words

first_from : (params : ℕ) (w : Window) → (first_words params w).from ≡ w.from
first_from zero w = refl
first_from (suc n) w = also_from n (first_words n w) ∙ first_from n w

first_exact : (params : ℕ) (w : Window) → Exact (λ i. false) w → Exact (λ i. nat_lt i params) (first_words params w)
first_exact zero w x i c = x i c ∙ below_none i
  where
    below_none : (i : ℕ) → false ≡ nat_lt i zero
    below_none i = grind arith
first_exact (suc n) w x i c =
    also_exact n (λ j. nat_lt j n) (first_words n w) (first_exact n w x) i c ∙ one_more i n
  where
    one_more : (i n : ℕ) → ((i == n) || nat_lt i n) ≡ nat_lt i (suc n)
    one_more i n = grind arith

pub window_starts : (from params : ℕ) → (window_from from params).from ≡ from
window_starts from params = first_from params (record { from = from; set = 0 })

pub window_exact : (from params : ℕ) → Exact (λ i. nat_lt i params) (window_from from params)
window_exact from params = first_exact params w (λ i c. has_bit w i c ∙ ap (λ n. n == 1) (bit_at-zero (i - from)))
  where
    w : Window
    w = record { from = from; set = 0 }
