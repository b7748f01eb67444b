-- What a cast of the merged scheme asks for and costs, against what its turns may ask for and their budgets.
use Rattle.std.proofs.Common.{◌≡◌, ◌⊎◌, inl, inr, ℕ, zero, suc, ◌+◌, ◌*◌, ◌^◌, ◌≤◌, Bool, true, false, refl}
use Rattle.std.proofs.Common.{sym, ◌∙◌, subst, arith, Option, Some, None}
use Rattle.std.proofs.Math.Nat.{mul-le-mul, mul-le-mul_right, pow-zero, pow-suc}
use Rattle.std.specs.Prelude.{if◌then◌else◌}
use Rattle.grift_base.specs.Types.{TypeRow}
use Rattle.core_calc.specs.Account.{Measures, StepKind, Wraps, Casts, Makes, MakesVector, Multiplies, Acts}
use Rattle.coercion_norm.specs.Coercions.{Coercion, Id, Fail, Middle, Inject, Project}
use Rattle.coercion_norm.specs.Held.{Layout, rows_in}
use Rattle.coer_core.specs.MergedTally.{half_charge, opening_of_kind, effort_asks, effort_budget}
use Rattle.rt_cast.specs.Costs.{coerce_words, compose_words, cast_words, coerce_price, compose_price, cast_price}
use Rattle.rt_cast.specs.Costs.{middle_words, middle_price}
use Rattle.rt_cast.specs.LightCasts.{is_light, light_words, light_price, cast_words_of, cast_price_of}
use Rattle.rt_cast.specs.MergedValues.{Merged}
use Rattle.rt_cast.proofs.Public.{bounds_have_closed_forms-words, bounds_have_closed_forms-prices}
use Rattle.rt_cast.specs.PartCosts.{of_cast}
use Rattle.lower.specs.Keeping.{FitsMeasures}
use Rattle.lower.specs.SchemeLaws.{part_leaves}
use Rattle.lower.proofs.heap.Objects.{same_some}

-- ---- bounds by width and height grow with both

words_of_middle : (v w a b : ℕ) → v ≤ w → a ≤ b → middle_words v a ≤ middle_words w b
words_of_middle v w a b le less =
    let p : 1 + a ≤ 1 + b = omega (arith, less) in
    let z = mul-le-mul le p in omega (arith, z)

price_of_middle : (v w a b : ℕ) → v ≤ w → a ≤ b → middle_price v a ≤ middle_price w b
price_of_middle v w a b le less =
    let p : 162 + a ≤ 162 + b = omega (arith, less) in
    let z = mul-le-mul le p in omega (arith, z)

-- two bounds by height grow alike
grows : (f g : ℕ → ℕ) → f 0 ≤ g 0 → ((k : ℕ) → f 0 ≤ g (suc k))
    → ((h k : ℕ) → h ≤ k → f h ≤ g k → f (suc h) ≤ g (suc k)) → (h k : ℕ) → h ≤ k → f h ≤ g k
grows f g first low more zero zero le = first
grows f g first low more zero (suc k) le = low k
grows f g first low more (suc h) zero le = absurd (omega (arith, le))
grows f g first low more (suc h) (suc k) le =
    more h k (omega (arith, le)) (grows f g first low more h k (omega (arith, le)))

coerce_words_grow : (v w h k : ℕ) → v ≤ w → h ≤ k → coerce_words v h ≤ coerce_words w k
coerce_words_grow v w h k le =
    grows (coerce_words v) (coerce_words w) (omega arith) (λ k. omega arith)
    (λ h k less ih. let z = words_of_middle v w (coerce_words v h) (coerce_words w k) le ih in omega (arith, z)) h k

compose_words_grow : (v w h k : ℕ) → v ≤ w → h ≤ k → compose_words v h ≤ compose_words w k
compose_words_grow v w h k le =
    grows (compose_words v) (compose_words w) (omega arith)
    (λ k. let a = coerce_words_grow v w 0 (suc k) le (omega arith) in omega (arith, a))
    (λ h k less ih.
    let a = coerce_words_grow v w (suc h) (suc k) le (omega (arith, less)) in
    let z = words_of_middle v w (compose_words v h) (compose_words w k) le ih in
    omega (arith, a, z)) h k

coerce_price_grows : (v w h k : ℕ) → v ≤ w → h ≤ k → coerce_price v h ≤ coerce_price w k
coerce_price_grows v w h k le =
    grows (coerce_price v) (coerce_price w) (omega arith) (λ k. omega arith)
    (λ h k less ih.
    let z = price_of_middle v w (81 + coerce_price v h) (81 + coerce_price w k) le (omega (arith, ih)) in
    omega (arith, z)) h k

compose_price_grows : (v w h k : ℕ) → v ≤ w → h ≤ k → compose_price v h ≤ compose_price w k
compose_price_grows v w h k le =
    grows (compose_price v) (compose_price w) (omega arith)
    (λ k. let a = coerce_price_grows v w 0 (suc k) le (omega arith) in omega (arith, a))
    (λ h k less ih.
    let a = coerce_price_grows v w (suc h) (suc k) le (omega (arith, less)) in
    let z = price_of_middle v w (77 + compose_price v h) (77 + compose_price w k) le (omega (arith, ih)) in
    omega (arith, a, z)) h k

-- ---- half of what a wrap step may ask for

-- 160 for each of the power
half_is : (w x : ℕ) → 2 ≤ w → 160 * x ≤ 16 * (w + 8) * x
half_is w x some =
    let p : 160 ≤ 16 * (w + 8) = omega (arith, some) in mul-le-mul_right x p

some_power : (w h : ℕ) → 2 ≤ w → 1 ≤ (2 * w) ^ h
some_power w zero some = let e = pow-zero (2 * w) in omega (arith, e)
some_power w (suc h) some =
    let e = pow-suc (2 * w) h in
    let ih = some_power w h some in
    let p : 1 ≤ 2 * w = omega (arith, some) in
    let z = mul-le-mul p ih in
    grind (arith, e, z)

module _ (l : Layout) (m : Measures) (fits : FitsMeasures l m) where
  abbrev power : ℕ
  power = (2 * m.width) ^ m.height

  abbrev half : ℕ
  half = half_charge m

  by_power : 160 * power ≤ half
  by_power = half_is m.width power fits.two

  pub half_is_much : 160 ≤ half
  half_is_much =
      let a = by_power in let b = some_power m.width m.height fits.two in omega (arith, a, b)

  -- a cast that makes a proxy or a coercion, with 9 words and 1000 instructions to spare
  pub heavy_words : cast_words l.width l.tallest + 9 ≤ half
  heavy_words =
      let a = compose_words_grow l.width m.width l.tallest m.height fits.wide fits.tall in
      let b = (bounds_have_closed_forms-words m.width m.height fits.two).1 in
      let c = by_power in
      let d = some_power m.width m.height fits.two in
      omega (arith, a, b, c, d)

  pub heavy_price : cast_price l.width l.tallest + 1000 ≤ 896 + 64 * half
  heavy_price =
      let a = compose_price_grows l.width m.width l.tallest m.height fits.wide fits.tall in
      let b = (bounds_have_closed_forms-prices m.width m.height fits.two).1 in
      let c = by_power in
      let d = some_power m.width m.height fits.two in
      omega (arith, a, b, c, d)

  -- an opening may ask for 13 words at least, and has 896 instructions at least
  pub opening_asks : (k : StepKind) → 13 ≤ effort_asks m (opening_of_kind k)
  opening_asks Wraps = let a = half_is_much in omega (arith, a)
  opening_asks Casts = omega arith
  opening_asks Makes = omega arith
  opening_asks (MakesVector n) = omega arith
  opening_asks Multiplies = omega arith
  opening_asks Acts = omega arith

  pub opening_budget : (k : StepKind) → 896 ≤ effort_budget m (opening_of_kind k)
  opening_budget Wraps = omega arith
  opening_budget Casts = omega arith
  opening_budget Makes = omega arith
  opening_budget (MakesVector n) = omega arith
  opening_budget Multiplies = omega arith
  opening_budget Acts = omega arith

-- ---- what a walk may be, so that it is done in one of a cast's turns

-- what the turn of a light cast may ask for
abbrev pub light_asks : Coercion → ℕ
light_asks Id = 0
light_asks (Fail label) = 0
light_asks (Middle kind parts) = 0
light_asks (Inject g kept) = 3
light_asks (Project wanted label i) = 13

-- so many words at this price are within what the turns of a cast have, with a credit before, and so much is left
pub record Fits (rows : ℕ → TypeRow) (m : Measures) (words price need : ℕ) (z : Coercion) (x : Merged ℕ) (credit : ℕ)
    : Type 0 where
  pub light : is_light rows z x ≡ true → (words ≤ light_asks z) × (price + need ≤ credit + 896)
  pub heavy : is_light rows z x ≡ false
      → (words ≤ half_charge m) × (price + need ≤ credit + (896 + 64 * half_charge m))

pub light_words_fit : (z : Coercion) → light_words z ≤ light_asks z
light_words_fit Id = omega arith
light_words_fit (Fail label) = omega arith
light_words_fit (Middle kind parts) = omega arith
light_words_fit (Inject g kept) = omega arith
light_words_fit (Project wanted label i) = omega arith

pub light_price_fits : (z : Coercion) → light_price z ≤ 620
light_price_fits Id = omega arith
light_price_fits (Fail label) = omega arith
light_price_fits (Middle kind parts) = omega arith
light_price_fits (Inject g kept) = omega arith
light_price_fits (Project wanted label i) = omega arith

-- a walk of no step
pub nothing_fits : (rows : ℕ → TypeRow) (m : Measures) (need : ℕ) (z : Coercion) (x : Merged ℕ) (credit : ℕ)
    → need ≤ credit → Fits rows m 0 0 need z x credit
nothing_fits rows m need z x credit le = record {
  light = λ e. (omega arith, omega (arith, le));
  heavy = λ e. (omega arith, omega (arith, le));
}

-- the walk of a cast, with a price of its own beside it
pub cast_fits : (l : Layout) (m : Measures) → FitsMeasures l m → (own need : ℕ) (z : Coercion) (x : Merged ℕ)
    (credit : ℕ) → 620 + own + need ≤ credit + 896 → own + need ≤ credit + 1000
    → Fits (rows_in l) m (cast_words_of l z x) (cast_price_of l z x + own) need z x credit
cast_fits l m fits own need z x credit few less = record {
  light = λ e. (
    subst (λ b. (if b then light_words z else cast_words l.width l.tallest) ≤ light_asks z) (sym e)
        (light_words_fit z),
    subst (λ b. (if b then light_price z else cast_price l.width l.tallest) + own + need ≤ credit + 896) (sym e)
        (let a = light_price_fits z in omega (arith, a, few)),
  );
  heavy = λ e. (
    subst (λ b. (if b then light_words z else cast_words l.width l.tallest) ≤ half_charge m) (sym e)
        (let a = heavy_words l m fits in omega (arith, a)),
    subst (λ b. (if b then light_price z else cast_price l.width l.tallest) + own + need
        ≤ credit + (896 + 64 * half_charge m)) (sym e)
        (let a = heavy_price l m fits in omega (arith, a, less)),
  );
}

true_false : true ≡ false → ⊥
true_false e = cc

-- ---- a part of what is in Dyn

-- What the cast of such a part asks for, with three words and 337 instructions more, may be asked for as the part is
-- taken, or fits the turns of that cast.
pub dyn_fits : (l : Layout) (m : Measures) → FitsMeasures l m → (o : Option Coercion) (p : Option (Merged ℕ))
    → (of_cast (cast_words_of l) o p + 3 ≤ 13 × of_cast (cast_price_of l) o p + 337 ≤ 896)
    ⊎ ((d : Coercion) (x : Merged ℕ) → o ≡ Some d → p ≡ Some x
    → Fits (rows_in l) m (of_cast (cast_words_of l) o p + 3) (of_cast (cast_price_of l) o p + 337) part_leaves d x
    (896 + 1792))
dyn_fits l m fits None p = inl (omega arith, omega arith)
dyn_fits l m fits (Some c) None = inl (omega arith, omega arith)
dyn_fits l m fits (Some c) (Some y) = by c (is_light (rows_in l) c y) refl
  where
    Says : Coercion → Bool → Type 0
    Says c b =
        ((if b then light_words c else cast_words l.width l.tallest) + 3 ≤ 13
        × (if b then light_price c else cast_price l.width l.tallest) + 337 ≤ 896)
        ⊎ ((d : Coercion) (x : Merged ℕ) → Some c ≡ Some d → Some y ≡ Some x
        → Fits (rows_in l) m ((if b then light_words c else cast_words l.width l.tallest) + 3)
        ((if b then light_price c else cast_price l.width l.tallest) + 337) part_leaves d x (896 + 1792))

    Fitting : ℕ → ℕ → Coercion → Merged ℕ → Type 0
    Fitting words price d x = Fits (rows_in l) m (words + 3) (price + 337) part_leaves d x (896 + 1792)

    heavily : (c : Coercion) → is_light (rows_in l) c y ≡ false → Says c false
    heavily c e = inr (λ d x f g.
        subst (λ z. Fitting (cast_words l.width l.tallest) (cast_price l.width l.tallest) z x) (same_some c d f)
        (subst (λ z. Fitting (cast_words l.width l.tallest) (cast_price l.width l.tallest) c z) (same_some y x g)
        (record {
          light = λ q. absurd (let z : ⊥ = true_false (sym q ∙ e) in z);
          heavy = λ q. (
            (let a = heavy_words l m fits in omega (arith, a)),
            let a = heavy_price l m fits in omega (arith, a),
          );
        })))

    opens : (wanted label : ℕ) (i : Coercion) → Says (Project wanted label i) true
    opens wanted label i = inr (λ d x f g.
        subst (λ z. Fitting 5 620 z x) (same_some (Project wanted label i) d f)
        (record {
          light = λ q. (omega arith, omega arith);
          heavy = λ q. (
            (let a = half_is_much l m fits in omega (arith, a)),
            let a = half_is_much l m fits in omega (arith, a),
          );
        }))

    by : (c : Coercion) (b : Bool) → is_light (rows_in l) c y ≡ b → Says c (is_light (rows_in l) c y)
    by c false e = subst (Says c) (sym e) (heavily c e)
    by Id true e = inl (omega arith, omega arith)
    by (Fail label) true e = inl (omega arith, omega arith)
    by (Middle kind parts) true e = absurd (let z : ⊥ = true_false (sym e) in z)
    by (Inject g kept) true e = subst (Says (Inject g kept)) (sym e) (inl (omega arith, omega arith))
    by (Project wanted label i) true e = subst (Says (Project wanted label i)) (sym e) (opens wanted label i)
