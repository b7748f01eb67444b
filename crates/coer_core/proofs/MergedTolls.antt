-- What a merged cast asks for and pays: it opens a value in Dyn at most once, composes coercions at most once behind
-- that, and puts the value into Dyn at most once at last.
use Rattle.std.proofs.Common.{◌≡◌, ℕ, zero, suc, ◌+◌, ◌*◌, ◌≤◌, Bool, true, false, List, [], ◌∷◌}
use Rattle.std.proofs.Common.{length, refl, arith, if◌then◌else◌}
use Rattle.std.proofs.Math.Nat.{max-le}
use Rattle.grift_base.specs.Types.{TypeRows, head_of}
use Rattle.core_calc.specs.Account.{Measures}
use Rattle.coercion_norm.specs.declared.middles.MiddleKind.{MiddleKind as Kind}
use Rattle.coercion_norm.specs.Coercions.{Coercion, Coercions, Id, Fail, Middle, Inject, Project, rows_of}
use Rattle.coercion_norm.specs.CoercionTables.{cast_of, composition_of}
use Rattle.coercion_norm.specs.Normal.{IsNormal, is_project}
use Rattle.cast_modes.specs.Modes.{Shape, Bare, Wrapped, Injected, Decision, Keeping, Wrapping, Rewrapping}
use Rattle.cast_modes.specs.Modes.{Unwrapping, Injecting, Opening, Making, NoCast, Mode, TypeCast}
use Rattle.coercion_norm.specs.MergedMode.{width, middle_head, shape_has_head, rewrapped, proxied, merging}
use Rattle.cast_modes.specs.RunValues.{RunWrap, RunInject, shape_of}
use Rattle.coer_core.specs.Machine.{code_arity, CoerValue}
use Rattle.coer_core.specs.MergedTally.{Effort, Splits, effort, half_charge, effort_asks, effort_acts}
use Rattle.coer_core.specs.MergedTally.{effort_budget}
use Rattle.coer_core.specs.Tolls.{Toll, no_toll, one_toll, both_tolls, Price, merged_price, toll_on, pile_toll}

-- a decision that keeps the value at its type
abbrev pub StaysAt : {C : Type 0} → Decision C → Type 0
StaysAt (Injecting kept) = ⊥
StaysAt (Opening d) = ⊥
StaysAt (Making d e) = ⊥
StaysAt _ = Unit {0}

rewraps : (e : Coercion) → StaysAt (rewrapped e)
rewraps Id = tt
rewraps _ = tt

module _ (types : TypeRows) (rows : List TypeCast) (measures : Measures) (under : ℕ) where
  abbrev n : Mode Coercion
  n = merging types rows

  abbrev price : Price Coercion
  price = merged_price types n measures

  abbrev half : ℕ
  half = half_charge measures

  abbrev tolls : ℕ → CoerValue Coercion → List Coercion → Toll
  tolls k u ds = pile_toll price under n k u ds

  -- at most so many words, turns that make a step, and so much budget; two frames wait at most
  pub record Within (a c b : ℕ) (toll : Toll) : Type 0 where
    pub asks : toll.asks ≤ a
    pub acts : toll.acts ≤ c
    pub budget : toll.budget ≤ b
    pub frames : toll.frames ≤ under + 2

  pub none_within : (asks acts budget : ℕ) → Within asks acts budget no_toll
  none_within asks acts budget =
      record { asks = omega arith; acts = omega arith; budget = omega arith; frames = omega arith }

  pub wider : (a c b a1 c1 b1 : ℕ) (toll : Toll) → a ≤ a1 → c ≤ c1 → b ≤ b1 → Within a c b toll
      → Within a1 c1 b1 toll
  wider a c b a1 c1 b1 toll la lc lb w = record {
    asks = let x = w.asks in omega (arith, x, la);
    acts = let x = w.acts in omega (arith, x, lc);
    budget = let x = w.budget in omega (arith, x, lb);
    frames = w.frames;
  }

  pub then_within : (asks acts budget frames a c b a1 c1 b1 : ℕ) (toll : Toll) → asks ≤ a1 → acts ≤ c1 → budget ≤ b1
      → frames ≤ under + 2 → Within a c b toll
      → Within (a1 + a) (c1 + c) (b1 + b) (both_tolls (one_toll asks acts budget frames) toll)
  then_within asks acts budget frames a c b a1 c1 b1 toll la lc lb lf w = record {
    asks = let x = w.asks in omega (arith, x, la);
    acts = let x = w.acts in omega (arith, x, lc);
    budget = let x = w.budget in omega (arith, x, lb);
    frames = max-le lf w.frames;
  }

  module _ (k : ℕ) (u : CoerValue Coercion) (ds : List Coercion) where
    -- the toll of a cast by what is decided
    abbrev by_decision : Coercion → Decision Coercion → Toll
    by_decision d decision =
        both_tolls (one_toll (effort_asks measures (effort types d (shape_of code_arity u) decision))
        (effort_acts (effort types d (shape_of code_arity u) decision))
        (effort_budget measures (effort types d (shape_of code_arity u) decision)) (suc (length ds + under)))
        (toll_on (λ x l. tolls k x l) decision u ds)

    left_within : (a c b : ℕ) → ((x : CoerValue Coercion) → Within a c b (tolls k x ds))
        → (decision : Decision Coercion)
        → StaysAt decision → (u : CoerValue Coercion)
        → Within a c b (toll_on (λ x l. tolls k x l) decision u ds)
    left_within a c b w Keeping s u = w u
    left_within a c b w (Wrapping d) s u = w (RunWrap u d)
    left_within a c b w (Rewrapping d) (s) (RunWrap x old) = w (RunWrap x d)
    left_within a c b w Unwrapping s (RunWrap x old) = w x
    left_within a c b w (Injecting kept) s u = absurd s
    left_within a c b w (Opening d) s u = absurd s
    left_within a c b w (Making d e) s u = absurd s
    left_within a c b w _ s u = none_within a c b

    stays_effort : (d : Coercion) (shape : Shape Coercion) (decision : Decision Coercion) → StaysAt decision
        → (effort_asks measures (effort types d shape decision) ≤ half)
        × (effort_budget measures (effort types d shape decision) ≤ 896 + 64 * half)
    stays_effort d shape (Injecting kept) s = absurd s
    stays_effort d shape (Opening e) s = absurd s
    stays_effort d shape (Making e f) s = absurd s
    stays_effort d shape _ s = (omega arith, omega arith)

    at_most_one : (e : Effort) → effort_acts e ≤ 1
    at_most_one Splits = omega arith
    at_most_one _ = omega arith

    stays_within : (a c b : ℕ) → length ds ≤ 1 → ((x : CoerValue Coercion) → Within a c b (tolls k x ds))
        → (d : Coercion) (decision : Decision Coercion) → StaysAt decision
        → Within (half + a) (1 + c) (896 + 64 * half + b) (by_decision d decision)
    stays_within a c b short w d decision s =
        let e = stays_effort d (shape_of code_arity u) decision s in
        then_within _ _ _ _ a c b half 1 (896 + 64 * half) _ e.0
        (at_most_one (effort types d (shape_of code_arity u) decision)) e.1 (omega (arith, short))
        (left_within a c b w decision s u)

  middle_stays : (kind : Kind) (parts : Coercions) (shape : Shape Coercion) → StaysAt (n.cast (Middle kind parts) shape)
  middle_stays kind parts shape = by_head (shape_has_head shape (middle_head kind (width parts))) shape
    where
      by_head : (b : Bool) (shape : Shape Coercion)
          → StaysAt (if b then proxied (cast_of types) (composition_of types) types (Middle kind parts) shape
          else NoCast)
      by_head true (Bare head) = tt
      by_head true (Wrapped old) = rewraps (composition_of types old (Middle kind parts))
      by_head true (Injected kept) = tt
      by_head false shape = tt

  -- a middle, and what comes behind it
  middle_within : (a c b k : ℕ) (u : CoerValue Coercion) (kind : Kind) (parts : Coercions) (ds : List Coercion)
      → length ds ≤ 1 → ((j : ℕ) (x : CoerValue Coercion) → Within a c b (tolls j x ds))
      → Within (half + a) (1 + c) (896 + 64 * half + b) (tolls k u (Middle kind parts ∷ ds))
  middle_within a c b zero u kind parts ds short w = none_within (half + a) (1 + c) (896 + 64 * half + b)
  middle_within a c b (suc k) u kind parts ds short w =
      stays_within k u ds a c b short (λ x. w k x) (Middle kind parts)
      (n.cast (Middle kind parts) (shape_of code_arity u)) (middle_stays kind parts (shape_of code_arity u))

  end_within : (k : ℕ) (u : CoerValue Coercion) → Within 0 0 0 (tolls k u [])
  end_within zero u = none_within 0 0 0
  end_within (suc k) u = none_within 0 0 0

  -- a value is kept, or a label is blamed
  pub keeps_within : (k : ℕ) (u : CoerValue Coercion) → Within 0 1 896 (tolls k u (Id ∷ []))
  keeps_within zero u = none_within 0 1 896
  keeps_within (suc k) u =
      then_within 0 1 896 (suc (0 + under)) 0 0 0 0 1 896 (tolls k u []) (omega arith) (omega arith) (omega arith)
      (omega arith) (end_within k u)

  fails_within : (k : ℕ) (u : CoerValue Coercion) (label : ℕ) → Within 0 1 896 (tolls k u (Fail label ∷ []))
  fails_within zero u label = none_within 0 1 896
  fails_within (suc k) u label =
      then_within 0 1 896 (suc (0 + under)) 0 0 0 0 1 896 no_toll (omega arith) (omega arith) (omega arith)
      (omega arith) (none_within 0 0 0)

  -- a value is put into Dyn
  injects_within : (k : ℕ) (u : CoerValue Coercion) (kept : ℕ) → Within 3 1 896 (tolls k u (Inject Id kept ∷ []))
  injects_within zero u kept = none_within 3 1 896
  injects_within (suc k) u kept = by_head (shape_has_head (shape_of code_arity u) (head_of (rows_of types kept)))
    where
      by_head : (b : Bool) → Within 3 1 896 (by_decision k u [] (Inject Id kept) (if b then Injecting kept else NoCast))
      by_head true =
          then_within 3 1 896 (suc (0 + under)) 0 0 0 3 1 896 (tolls k (RunInject u kept) []) (omega arith)
          (omega arith) (omega arith) (omega arith) (end_within k (RunInject u kept))
      by_head false =
          then_within 0 1 896 (suc (0 + under)) 0 0 0 3 1 896 no_toll (omega arith) (omega arith) (omega arith)
          (omega arith) (none_within 0 0 0)

  -- how much a coercion in normal form that opens nothing may ask for: nothing is composed, or once
  pub data Weight (d : Coercion) : Type 0 where
    light : ((k : ℕ) (u : CoerValue Coercion) → Within 3 1 896 (tolls k u (d ∷ []))) → Weight d
    composes : (kind : Kind) (parts : Coercions) → d ≡ Middle kind parts
        → ((k : ℕ) (u : CoerValue Coercion) → Within half 1 (896 + 64 * half) (tolls k u (d ∷ []))) → Weight d
    composes_into : (kind : Kind) (parts : Coercions) (kept : ℕ) → d ≡ Inject (Middle kind parts) kept
        → ((k : ℕ) (u : CoerValue Coercion) → Within (half + 3) 2 (1792 + 64 * half) (tolls k u (d ∷ []))) → Weight d

  pub weight : (d : Coercion) → is_project d ≡ false → IsNormal (rows_of types) d → Weight d
  weight Id p h =
      light (λ k u. wider 0 1 896 3 1 896 (tolls k u (Id ∷ [])) (omega arith) (omega arith) (omega arith)
      (keeps_within k u))
  weight (Fail label) p h =
      light (λ k u. wider 0 1 896 3 1 896 (tolls k u (Fail label ∷ [])) (omega arith) (omega arith) (omega arith)
      (fails_within k u label))
  weight (Middle kind parts) p h =
      composes kind parts refl (λ k u. wider (half + 0) (1 + 0) (896 + 64 * half + 0) half 1 (896 + 64 * half)
      (tolls k u (Middle kind parts ∷ [])) (omega arith) (omega arith) (omega arith)
      (middle_within 0 0 0 k u kind parts [] (omega arith) (λ j x. end_within j x)))
  weight (Inject Id kept) p h = light (λ k u. injects_within k u kept)
  weight (Inject (Middle kind parts) kept) p h = composes_into kind parts kept refl (λ k u. split k u)
    where
      split : (k : ℕ) (u : CoerValue Coercion)
          → Within (half + 3) 2 (1792 + 64 * half) (tolls k u (Inject (Middle kind parts) kept ∷ []))
      split zero u = none_within (half + 3) 2 (1792 + 64 * half)
      split (suc k) u =
          let rest : List Coercion = Middle kind parts ∷ Inject Id kept ∷ [] in
          wider (0 + (half + 3)) (0 + (1 + 1)) (0 + (896 + 64 * half + 896)) (half + 3) 2 (1792 + 64 * half)
          (tolls (suc k) u (Inject (Middle kind parts) kept ∷ [])) (omega arith) (omega arith) (omega arith)
          (then_within 0 0 0 (suc (0 + under)) (half + 3) (1 + 1) (896 + 64 * half + 896) 0 0 0 (tolls k u rest)
          (omega arith) (omega arith) (omega arith) (omega arith)
          (middle_within 3 1 896 k u kind parts (Inject Id kept ∷ []) (omega arith) (λ j x. injects_within j x kept)))
  weight (Inject (Fail label) kept) p h = absurd (cc h.0)
  weight (Inject (Inject g other) kept) p h = absurd (cc h.0)
  weight (Inject (Project type label rest) kept) p h = absurd (cc h.0)
  weight (Project type label rest) p h = absurd (cc p)
