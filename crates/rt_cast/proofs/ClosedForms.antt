-- The bounds on words and prices in closed form.
use Rattle.std.proofs.Common.{◌≡◌, ℕ, zero, suc, ◌+◌, ◌*◌, ◌^◌, ◌≤◌, sym, subst, arith}
use Rattle.std.proofs.Math.Nat.{pow-zero, pow-suc}
use Rattle.rt_cast.specs.Costs.{coerce_words, compose_words, coerce_price, compose_price}

-- a factor before both
times : (w a b : ℕ) → a ≤ b → w * a ≤ w * b
times w a b le = grind (arith, le)

-- a product of two numbers, of which one is 2 at least
twice : (w x : ℕ) → 2 ≤ w → 1 ≤ x → 2 ≤ w * x
twice w x le some = grind (arith, le, some)

coerce_by : (w h : ℕ) → 2 ≤ w → coerce_words w h + 3 ≤ 7 * w ^ h
coerce_by w zero le = let e = pow-zero w in omega (arith, e)
coerce_by w (suc h) le =
    let e = pow-suc w h in
    let ih = coerce_by w h le in
    let t = times w (coerce_words w h + 3) (7 * w ^ h) ih in
    let s = twice w (w ^ h) le (omega (arith, ih)) in
    omega (arith, e, t, s, le)

-- where each step makes no more than v times as much, so many steps make no more than as often v
grows : (v c : ℕ) (g : ℕ → ℕ) → g 0 ≤ c → ((h : ℕ) → g (suc h) ≤ v * g h) → (h : ℕ) → g h ≤ c * v ^ h
grows v c g begin step zero = let e = pow-zero v in subst (λ p. g 0 ≤ c * p) (sym e) (omega (arith, begin))
grows v c g begin step (suc h) =
    let e = pow-suc v h in
    let t = times v (g h) (c * v ^ h) (grows v c g begin step h) in
    let s = step h in
    let m : v * (c * v ^ h) ≡ c * v ^ suc h = rw e (grind arith) in
    omega (arith, s, t, m)

compose_by : (w h : ℕ) → 2 ≤ w → compose_words w h + 7 * w ^ h + 6 ≤ 21 * (2 * w) ^ h
compose_by w h le =
    grows (2 * w) 21 (λ h. compose_words w h + 7 * w ^ h + 6) (let e = pow-zero w in omega (arith, e))
    (λ h. let e = pow-suc w h in let k = coerce_by w (suc h) le in omega (arith, e, k, le)) h

coerce_at : (w h : ℕ) → 2 ≤ w → coerce_price w h + 850 ≤ 1136 * w ^ h
coerce_at w zero le = let e = pow-zero w in omega (arith, e)
coerce_at w (suc h) le =
    let e = pow-suc w h in
    let ih = coerce_at w h le in
    let t = times w (coerce_price w h + 850) (1136 * w ^ h) ih in
    omega (arith, e, t, le)

compose_at : (w h : ℕ) → 2 ≤ w → compose_price w h + 1136 * w ^ h + 1052 ≤ 3221 * (2 * w) ^ h
compose_at w h le =
    grows (2 * w) 3221 (λ h. compose_price w h + 1136 * w ^ h + 1052) (let e = pow-zero w in omega (arith, e))
    (λ h. let e = pow-suc w h in let p = coerce_at w (suc h) le in omega (arith, e, p, le)) h

pub bounds_have_closed_forms-words : (w h : ℕ) → 2 ≤ w
    → (coerce_words w h ≤ 7 * w ^ h) × (compose_words w h ≤ 21 * (2 * w) ^ h)
bounds_have_closed_forms-words w h le =
    let a = coerce_by w h le in
    let b = compose_by w h le in
    (omega (arith, a), omega (arith, b))

pub bounds_have_closed_forms-prices : (w h : ℕ) → 2 ≤ w
    → (coerce_price w h ≤ 1136 * w ^ h) × (compose_price w h ≤ 3221 * (2 * w) ^ h)
bounds_have_closed_forms-prices w h le =
    let a = coerce_at w h le in
    let b = compose_at w h le in
    (omega (arith, a), omega (arith, b))
