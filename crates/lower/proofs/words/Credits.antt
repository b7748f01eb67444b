-- Steps that come to where something holds, at a price within a credit, of which the rest is left.
use Rattle.std.proofs.Common.{◌≡◌, ℕ, zero, suc, ◌+◌, ◌<◌, ◌≤◌, subst, refl, arith, le_refl}
use Rattle.run_laws.specs.Runs.{Verdict as EndsWith, Exhausted, Wrong}
use Rattle.run_laws.specs.Machines.{Next, Go, Stop, Machine, Reaches, Onward, run, steps, seen, and_then}
use Rattle.run_laws.specs.Meters.{Metered, metered, charge}
use Rattle.run_laws.proofs.Public.{by_step}
use Rattle.grift_base.specs.declared.verdicts.Verdict.{Verdict}
use Rattle.machine_words.specs.Halts.{ending_of}
use Rattle.low_ir.specs.Run.{Setting, LowState, LowShown, low_machine}
use Rattle.low_ir.specs.Prices.{low_price, CostsAtMost}
use Rattle.low_ir.proofs.Public.{costs_on, costs_last}

module _ (setting : Setting) where
  abbrev pub Steps : Machine LowState LowShown Verdict
  Steps = low_machine ending_of setting

  abbrev Metering : Machine (Metered LowState) (Metered LowShown) Verdict
  Metering = metered (low_price setting.procs) (low_machine ending_of setting)

  -- what so many steps from a state on spend, where so much was spent before
  abbrev pub spent_from : ℕ → ℕ → LowState → ℕ
  spent_from k n t = (run Metering (record { spent = n; rest = t }) k).shown.spent

  pub spent_before : (k n : ℕ) (t : LowState) → spent_from k n t ≡ n + spent_from k 0 t
  spent_before zero n t = omega arith
  spent_before (suc k) n t = by (λ m u. spent_before k m u) (Steps.step t)
    where
      by : ((m : ℕ) (u : LowState) → spent_from k m u ≡ m + spent_from k 0 u) → (x : Next LowState Verdict)
          → (seen Metering (and_then (charge (n + low_price setting.procs t) x) (λ m. steps Metering m k))).shown.spent
          ≡ n
          + (seen Metering (and_then (charge (0 + low_price setting.procs t) x) (λ m. steps Metering m k))).shown.spent
      by ih (Go u) =
          let a = ih (n + low_price setting.procs t) u in
          let b = ih (0 + low_price setting.procs t) u in
          omega (arith, a, b)
      by ih (Stop e u) = omega arith

  -- what is left of a price behind the first step is enough for the others
  pub costs_rest : (k price : ℕ) (t u : LowState) → Steps.step t ≡ Go u
      → CostsAtMost ending_of setting (suc k) t price
      → (more : ℕ) × (low_price setting.procs t + more ≤ price) × CostsAtMost ending_of setting k u more
  costs_rest k price t u e c =
      let b = spent_before k (0 + low_price setting.procs t) u in
      let x : spent_from k (0 + low_price setting.procs t) u ≤ price =
      subst (λ x. (seen Metering (and_then (charge (0 + low_price setting.procs t) x) (λ m. steps Metering m
      k))).shown.spent ≤ price) e c in
      (spent_from k 0 u, omega (arith, b, x), le_refl (spent_from k 0 u))

  -- the first step is no dearer than all
  pub costs_first : (k price : ℕ) (t u : LowState) → Steps.step t ≡ Stop Exhausted u
      → CostsAtMost ending_of setting (suc k) t price → low_price setting.procs t ≤ price
  costs_first k price t u e c =
      let x : 0 + low_price setting.procs t ≤ price =
      subst (λ x. (seen Metering (and_then (charge (0 + low_price setting.procs t) x) (λ m. steps Metering m
      k))).shown.spent ≤ price) e c in
      omega (arith, x)

  module _ (P : LowState → Type 0) (H : ℕ → LowState → Type 0) (floor : ℕ) where
    -- within this credit the machine comes to where H holds of what is left of it, or is exhausted; so much is left at
    -- least
    pub record By (credit : ℕ) (t : LowState) : Type 0 where
      pub steps : ℕ
      pub price : ℕ
      pub left : ℕ
      pub within : price + left ≤ credit
      pub least : floor ≤ left
      pub cheap : CostsAtMost ending_of setting steps t price
      pub reach : Reaches Steps P (H left) steps t

    pub by_now : (credit : ℕ) (t : LowState) → floor ≤ credit → H credit t → By credit t
    by_now credit t enough q = record {
      steps = 0;
      price = 0;
      left = credit;
      within = omega arith;
      least = enough;
      cheap = omega arith;
      reach = q;
    }

    pub by_go : (credit more : ℕ) (t u : LowState) → Steps.step t ≡ Go u → low_price setting.procs t + credit ≤ more
        → P t → By credit u → By more t
    by_go credit more t u e le p c = record {
      steps = suc c.steps;
      price = low_price setting.procs t + c.price;
      left = c.left;
      within = let w = c.within in omega (arith, le, w);
      least = c.least;
      cheap =
          costs_on ending_of setting c.steps c.price (low_price setting.procs t + c.price) t u e c.cheap
          (le_refl (low_price setting.procs t + c.price));
      reach = by_step Steps P (H c.left) c.steps t (Go u) e p c.reach;
    }

    -- it finds no room
    pub by_stop : (left more : ℕ) (t u : LowState) → Steps.step t ≡ Stop Exhausted u
        → low_price setting.procs t + left ≤ more → floor ≤ left → P t → P u → By more t
    by_stop left more t u e le enough p q = record {
      steps = 1;
      price = low_price setting.procs t;
      left = left;
      within = le;
      least = enough;
      cheap =
          costs_last ending_of setting (low_price setting.procs t) t u Exhausted e
          (le_refl (low_price setting.procs t));
      reach = by_step Steps P (H left) 0 t (Stop Exhausted u) e p q;
    }

    pub by_more : (credit more : ℕ) (t : LowState) → credit ≤ more → By credit t → By more t
    by_more credit more t le c = record {
      steps = c.steps;
      price = c.price;
      left = c.left;
      within = let w = c.within in omega (arith, w, le);
      least = c.least;
      cheap = c.cheap;
      reach = c.reach;
    }

    -- some steps at a price, on whose way other things hold, and what comes behind them
    pub by_then : (P' Q' : LowState → Type 0) → ((t : LowState) → P' t → P t) → (k price credit : ℕ) (t : LowState)
        → floor ≤ credit → CostsAtMost ending_of setting k t price → Reaches Steps P' Q' k t
        → ((u : LowState) → Q' u → By credit u) → By (price + credit) t
    by_then P' Q' weak zero price credit t enough c r go = by_more credit (price + credit) t (omega arith) (go t r)
    by_then P' Q' weak (suc k) price credit t enough c r go =
        by_next (Steps.step t) refl r.1 (λ more u c' o. by_then P' Q' weak k more credit u enough c' o go)
      where
        by_next : (x : Next LowState Verdict) → Steps.step t ≡ x → Onward x P' (Reaches Steps P' Q' k)
            → ((more : ℕ) (u : LowState) → CostsAtMost ending_of setting k u more → Reaches Steps P' Q' k u
            → By (more + credit) u) → By (price + credit) t
        by_next (Go u) e o ih =
            let z = costs_rest k price t u e c in
            let le = z.1 in
            by_go (z.0 + credit) (price + credit) t u e (omega (arith, le)) (weak t r.0) (ih z.0 u z.2 o)
        by_next (Stop (EndsWith v) u) e o ih = absurd o
        by_next (Stop Wrong u) e o ih = absurd o
        by_next (Stop Exhausted u) e o ih =
            let le = costs_first k price t u e c in
            by_stop credit (price + credit) t u e (omega (arith, le)) enough (weak t r.0) (weak u o)

    -- with a step at least
    abbrev pub SomeBy : ℕ → LowState → Type 0
    SomeBy credit t = (c : By credit t) × (0 < c.steps)

    pub some_more : (credit more : ℕ) (t : LowState) → credit ≤ more → SomeBy credit t → SomeBy more t
    unfolding by_more
    some_more credit more t le c = (by_more credit more t le c.0, c.1)

    pub some_go : (credit more : ℕ) (t u : LowState) → Steps.step t ≡ Go u → low_price setting.procs t + credit ≤ more
        → P t → By credit u → SomeBy more t
    unfolding by_go
    some_go credit more t u e le p c = (by_go credit more t u e le p c, omega arith)

    some_stop : (left more : ℕ) (t u : LowState) → Steps.step t ≡ Stop Exhausted u
        → low_price setting.procs t + left ≤ more → floor ≤ left → P t → P u → SomeBy more t
    unfolding by_stop
    some_stop left more t u e le enough p q = (by_stop left more t u e le enough p q, omega arith)

    -- where the first part makes a step
    pub by_then_step : (P' Q' : LowState → Type 0) → ((t : LowState) → P' t → P t) → (k price credit : ℕ)
        (t : LowState) → floor ≤ credit → CostsAtMost ending_of setting (suc k) t price
        → Reaches Steps P' Q' (suc k) t
        → ((u : LowState) → Q' u → By credit u) → SomeBy (price + credit) t
    by_then_step P' Q' weak k price credit t enough c r go = by_next (Steps.step t) refl r.1
      where
        by_next : (x : Next LowState Verdict) → Steps.step t ≡ x → Onward x P' (Reaches Steps P' Q' k)
            → SomeBy (price + credit) t
        by_next (Go u) e o =
            let z = costs_rest k price t u e c in
            let le = z.1 in
            some_go (z.0 + credit) (price + credit) t u e (omega (arith, le)) (weak t r.0)
            (by_then P' Q' weak k z.0 credit u enough z.2 o go)
        by_next (Stop (EndsWith v) u) e o = absurd o
        by_next (Stop Wrong u) e o = absurd o
        by_next (Stop Exhausted u) e o =
            let le = costs_first k price t u e c in
            some_stop credit (price + credit) t u e (omega (arith, le)) enough (weak t r.0) (weak u o)

    -- where the second does
    pub by_then_some : (P' Q' : LowState → Type 0) → ((t : LowState) → P' t → P t) → (k price credit : ℕ)
        (t : LowState) → floor ≤ credit → CostsAtMost ending_of setting k t price → Reaches Steps P' Q' k t
        → ((u : LowState) → Q' u → SomeBy credit u) → SomeBy (price + credit) t
    by_then_some P' Q' weak zero price credit t enough c r go = some_more credit (price + credit) t (omega arith)
        (go t r)
    by_then_some P' Q' weak (suc k) price credit t enough c r go =
        by_then_step P' Q' weak k price credit t enough c r (λ u q. (go u q).0)

    -- what holds is weakened
    pub by_weaken : (P' : LowState → Type 0) (H' : ℕ → LowState → Type 0) → (credit : ℕ) (t : LowState)
        → ((u : LowState) → P u → P' u) → ((left : ℕ) (u : LowState) → H left u → H' left u) → (c : By credit t)
        → Reaches Steps P' (H' c.left) c.steps t
    by_weaken P' H' credit t p q c = by_reach c.steps t c.reach
      where
        by_reach : (k : ℕ) (u : LowState) → Reaches Steps P (H c.left) k u → Reaches Steps P' (H' c.left) k u
        by_reach zero u r = q c.left u r
        by_reach (suc k) u r = (p u r.0, by_next (Steps.step u) r.1 (λ v z. by_reach k v z))
          where
            by_next : (x : Next LowState Verdict) → Onward x P (Reaches Steps P (H c.left) k)
                → ((v : LowState) → Reaches Steps P (H c.left) k v → Reaches Steps P' (H' c.left) k v)
                → Onward x P' (Reaches Steps P' (H' c.left) k)
            by_next (Go v) o ih = ih v o
            by_next (Stop (EndsWith w) v) o ih = absurd o
            by_next (Stop Wrong v) o ih = absurd o
            by_next (Stop Exhausted v) o ih = p v o
