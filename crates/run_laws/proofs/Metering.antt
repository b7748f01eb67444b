-- Machines with meters: what the target spends is bounded by what the source spends.
use Rattle.std.proofs.Common.{◌≡◌, inl, inr, ⊎_elim, ℕ, zero, suc, ◌+◌, ◌*◌, ◌≤◌, Option, Some, None, refl, sym, ap}
use Rattle.std.proofs.Common.{◌∙◌, subst, arith, mul-add, mul_assoc, le_trans, mul-le-mul_left}
use Rattle.run_laws.specs.Runs.{Ending, Verdict, Exhausted, Wrong, NeverWrong, FollowsBy, Through, Same}
use Rattle.run_laws.specs.Machines.{Next, Go, Stop, Machine, moment, and_then, steps, seen, run, landing, Onward}
use Rattle.run_laws.specs.Machines.{Reaches, Alike, OnTheWay, StopsAt, Does, Simulation}
use Rattle.run_laws.specs.Reductions.{Reduction, unless_ended, state_after, go_or_stop, reduction_run, machine_of}
use Rattle.run_laws.specs.Meters.{Metered, unspent, charge, metered, metered_reduction, none_once_ended, machine_work}
use Rattle.run_laws.specs.Meters.{SameButMeter, Spends, OfRest, OnBudget, StopsOnBudget, DoesOnBudget, CostSimulation}
use Rattle.run_laws.proofs.Following.{ends_as_equal, exhausted_or_equal, reached_by, follows_equal, follows_by_before}
use Rattle.run_laws.proofs.Following.{follows_by_behind}
use Rattle.run_laws.proofs.Simulation.{unless_wrong_map, reaches_weaken, follows_from_start}
use Rattle.run_laws.proofs.Reducing.{machine_never_wrong, reduction_and_machine_follow_each_other-machine}
use Rattle.run_laws.proofs.Reducing.{reduction_and_machine_follow_each_other-reduction}

-- a meter changes nothing else
module _ {S A V : Type 0} (M : Machine S A V) (work : S → ℕ) where
  same_on : (n d : ℕ) → ((m : Metered S) → SameButMeter (run (metered work M) m n) (run M m.rest n)) → (x : Next S V)
      → SameButMeter (seen (metered work M) (and_then (charge d x) (λ m. steps (metered work M) m n)))
      (seen M (and_then x (λ s. steps M s n)))
  same_on n d ih (Go s) = ih (record { spent = d; rest = s })
  same_on n d ih (Stop o s) = (refl, refl, refl)

  pub meter_changes_nothing_else-machines : (n : ℕ) (m : Metered S)
      → SameButMeter (run (metered work M) m n) (run M m.rest n)
  meter_changes_nothing_else-machines zero m = (refl, refl, refl)
  meter_changes_nothing_else-machines (suc n) m =
      same_on n (m.spent + work m.rest) (λ m1. meter_changes_nothing_else-machines n m1) (M.step m.rest)

  pub metered_never_wrong : (m : Metered S) → NeverWrong (run M m.rest) → NeverWrong (run (metered work M) m)
  metered_never_wrong m nw n e = nw n (sym (meter_changes_nothing_else-machines n m).1 ∙ e)

  pub unmetered_never_wrong : (m : Metered S) → NeverWrong (run (metered work M) m) → NeverWrong (run M m.rest)
  unmetered_never_wrong m nw n e = nw n ((meter_changes_nothing_else-machines n m).1 ∙ e)

  -- so the runs with and without a meter follow each other, where they never go wrong, and show the same but for the
  -- meter
  pub follows_metered : (m : Metered S) → NeverWrong (run M m.rest)
      → FollowsBy (λ a b. a ≡ b.rest) (λ a b. a ≡ b.rest) (run M m.rest) (run (metered work M) m)
  follows_metered m nw = record {
    back = λ n. let a = meter_changes_nothing_else-machines n m in
        (n, (record { output = sym a.0; shown = sym a.2 }, ends_as_equal _ _ (nw n) (sym a.1)));
    forth = λ n. let a = meter_changes_nothing_else-machines n m in (
      n,
      sym a.2,
      reached_by (λ a b. a ≡ b.rest) (run M m.rest n) (run (metered work M) m n)
          (record { output = sym a.0; shown = sym a.2 }) (exhausted_or_equal _ _ (nw n) (sym a.1)),
    );
  }

  pub metered_follows : (m : Metered S) → NeverWrong (run M m.rest)
      → FollowsBy (λ a b. a.rest ≡ b) (λ a b. a.rest ≡ b) (run (metered work M) m) (run M m.rest)
  metered_follows m nw = record {
    back = λ n. let a = meter_changes_nothing_else-machines n m in
        (n, (record { output = a.0; shown = a.2 }, ends_as_equal _ _ (metered_never_wrong m nw n) a.1));
    forth = λ n. let a = meter_changes_nothing_else-machines n m in (
      n,
      a.2,
      reached_by (λ a b. a.rest ≡ b) (run (metered work M) m n) (run M m.rest n)
          (record { output = a.0; shown = a.2 }) (exhausted_or_equal _ _ (metered_never_wrong m nw n) a.1),
    );
  }

-- a meter changes nothing else of a reduction
module _ {S A V : Type 0} (M : Reduction S A V) (work : S → ℕ) where
  rest_of_next : (m : Metered S) (o : Option (Ending V))
      → (unless_ended o (metered_reduction work M).step m).rest ≡ unless_ended o M.step m.rest
  rest_of_next m None = refl
  rest_of_next m (Some e) = refl

  pub metered_state_after : (n : ℕ) (m : Metered S)
      → (state_after (metered_reduction work M) m n).rest ≡ state_after M m.rest n
  metered_state_after zero m = refl
  metered_state_after (suc n) m =
      metered_state_after n (unless_ended (M.ending m.rest) (metered_reduction work M).step m)
      ∙ ap (λ s. state_after M s n) (rest_of_next m (M.ending m.rest))

  -- the machine of the reduction with a meter is its machine with a meter
  abbrev outer : Machine (Metered S) (Metered A) V
  outer = metered (machine_work M work) (machine_of M)

  abbrev inner : Machine (Metered S) (Metered A) V
  inner = machine_of (metered_reduction work M)

  next_metered : (n : ℕ) (m : Metered S) → ((x : Metered S) → run outer x n ≡ run inner x n) → (o : Option (Ending V))
      → seen outer (and_then (charge (m.spent + none_once_ended o (work m.rest)) (go_or_stop o M.step m.rest))
      (λ x. steps outer x n)) ≡ seen inner (and_then (go_or_stop o (metered_reduction work M).step m)
      (λ x. steps inner x n))
  next_metered n m ih None = ih (record { spent = m.spent + work m.rest; rest = M.step m.rest })
  next_metered n m ih (Some e) =
      let same : m.spent + 0 ≡ m.spent = omega arith in
      ap (λ k. moment outer (record { spent = k; rest = m.rest }) (Some e)) same

  pub metered_machine_run : (n : ℕ) (m : Metered S)
      → run (metered (machine_work M work) (machine_of M)) m n ≡ run (machine_of (metered_reduction work M)) m n
  metered_machine_run zero m = refl
  metered_machine_run (suc n) m = next_metered n m (λ x. metered_machine_run n x) (M.ending m.rest)

  pub meter_changes_nothing_else-reductions : (n : ℕ) (m : Metered S)
      → SameButMeter (reduction_run (metered_reduction work M) m n) (reduction_run M m.rest n)
  meter_changes_nothing_else-reductions n m =
      let e = metered_state_after n m in (ap M.output e, ap M.ending e, ap M.shown e)

  pub metered_reduction_never_wrong : (m : Metered S) → NeverWrong (reduction_run M m.rest)
      → NeverWrong (reduction_run (metered_reduction work M) m)
  metered_reduction_never_wrong m nw n e = nw n (sym (meter_changes_nothing_else-reductions n m).1 ∙ e)

  -- so the machine's run with a meter and the reduction's follow each other, where they never go wrong, and show the
  -- same
  module _ (m : Metered S) (nw : NeverWrong (reduction_run M m.rest)) where
    outer_never_wrong : NeverWrong (run outer m)
    outer_never_wrong = metered_never_wrong (machine_of M) (machine_work M work) m (machine_never_wrong M m.rest nw)

    inner_never_wrong : NeverWrong (run inner m)
    inner_never_wrong =
        machine_never_wrong (metered_reduction work M) m (metered_reduction_never_wrong m nw)

    pub metered_machine_follows : FollowsBy Same Same (run (metered (machine_work M work) (machine_of M)) m)
        (reduction_run (metered_reduction work M) m)
    metered_machine_follows =
        follows_by_before (follows_equal (run outer m) (run inner m) outer_never_wrong (λ n. metered_machine_run n m))
        (reduction_and_machine_follow_each_other-machine (metered_reduction work M) m
        (metered_reduction_never_wrong m nw))

    pub follows_metered_machine : FollowsBy Same Same (reduction_run (metered_reduction work M) m)
        (run (metered (machine_work M work) (machine_of M)) m)
    follows_metered_machine =
        follows_by_behind (reduction_and_machine_follow_each_other-reduction (metered_reduction work M) m
        (metered_reduction_never_wrong m nw))
        (follows_equal (run inner m) (run outer m) inner_never_wrong (λ n. sym (metered_machine_run n m)))

-- one step on the way, known by an equation of the machine without the meter
pub by_step_at_cost : {T B V : Type 0} (N : Machine T B V) (cost : T → ℕ) (P Q : Metered T → Type 0) (k : ℕ)
    (t : Metered T) (x : Next T V) → N.step t.rest ≡ x → P t
    → Onward (charge (t.spent + cost t.rest) x) P (Reaches (metered cost N) P Q k)
    → Reaches (metered cost N) P Q (suc k) t
by_step_at_cost N cost P Q k t x e p r =
    (p, subst (λ y. Onward (charge (t.spent + cost t.rest) y) P (Reaches (metered cost N) P Q k)) (sym e) r)

-- a way with a meter, where d more was spent before
module _ {T B V : Type 0} (N : Machine T B V) (cost : T → ℕ) (d : ℕ) (P Q P' Q' : Metered T → Type 0) where
  abbrev plus : Metered T → Metered T
  plus m = record { spent = d + m.spent; rest = m.rest }

  module _ (p : (m : Metered T) → P m → P' (plus m)) (q : (m : Metered T) → Q m → Q' (plus m)) where
    later_on : (k c : ℕ) (m : Metered T) → ((m1 : Metered T) → Reaches (metered cost N) P Q k m1
        → Reaches (metered cost N) P' Q' k (plus m1)) → (x : Next T V)
        → Onward (charge (m.spent + c) x) P (Reaches (metered cost N) P Q k)
        → Onward (charge (d + m.spent + c) x) P' (Reaches (metered cost N) P' Q' k)
    later_on k c m ih (Go t) r =
        let e : d + (m.spent + c) ≡ d + m.spent + c = omega arith in
        subst (λ n. Reaches (metered cost N) P' Q' k (record { spent = n; rest = t })) e (ih _ r)
    later_on k c m ih (Stop (Verdict v) t) r = absurd r
    later_on k c m ih (Stop Exhausted t) r =
        let e : d + (m.spent + c) ≡ d + m.spent + c = omega arith in
        subst (λ n. P' (record { spent = n; rest = t })) e (p _ r)
    later_on k c m ih (Stop Wrong t) r = absurd r

    pub later : (k : ℕ) (m : Metered T) → Reaches (metered cost N) P Q k m → Reaches (metered cost N) P' Q' k (plus m)
    later zero m r = q m r
    later (suc k) m r = (p m r.0, later_on k (cost m.rest) m (λ m1 r1. later k m1 r1) (N.step m.rest) r.1)

module _ {S T A B V : Type 0} (K : B → A → Type 0) (c : ℕ) (M : Machine S A V) (N : Machine T B V) (work : S → ℕ)
    (cost : T → ℕ) (R : S → T → Type 0) (size : S → ℕ) (b : CostSimulation K c M N work cost R size) where
  abbrev source : Machine (Metered S) (Metered A) V
  source = metered work M

  abbrev target : Machine (Metered T) (Metered B) V
  target = metered cost N

  abbrev Related : Metered S → Metered T → Type 0
  Related s t = R s.rest t.rest × (t.spent ≤ c * s.spent)

  like : (s : Metered S) (t : Metered T) → Alike K M N s.rest t.rest → Alike (OfRest K) source target s t
  like s t a = record { output = a.output; shown = a.shown }

  -- what a step adds
  sum_fits : (d w v w' x : ℕ) → d ≤ c * w → x ≤ c * v → w' ≡ w + v → d + x ≤ c * w'
  sum_fits d w v w' x le le' e =
      let q : c * w' ≡ c * w + c * v = ap (λ n. c * n) e ∙ mul-add c w v in omega arith

  way : (s s' : Metered S) (d : ℕ) (m : Metered T) → d ≤ c * s.spent → s'.spent ≡ s.spent + work s.rest
      → OnBudget K M N s.rest s'.rest (c * work s.rest) m
      → OnTheWay (OfRest K) (Spends c) source target s s' (record { spent = d + m.spent; rest = m.rest })
  way s s' d m le e p = (
    ⊎_elim (λ a. inl (like s _ a)) (λ a. inr (like s' _ a)) p.0,
    sum_fits d s.spent (work s.rest) s'.spent m.spent le p.1 e,
  )

  start : (t : Metered T) (P Q : Metered T → Type 0) (k : ℕ)
      → Reaches target P Q k (record { spent = t.spent + 0; rest = t.rest }) → Reaches target P Q k t
  start t P Q k r =
      let e : t.spent + 0 ≡ t.spent = omega arith in
      subst (λ n. Reaches target P Q k (record { spent = n; rest = t.rest })) e r

  way_end : (s s' : Metered S) (e : Ending V) (d : ℕ) (m : Metered T) → d ≤ c * s.spent
      → s'.spent ≡ s.spent + work s.rest → StopsOnBudget K M N cost s.rest s'.rest e (c * work s.rest) m
      → StopsAt (OfRest K) (Spends c) source target s s' e (record { spent = d + m.spent; rest = m.rest })
  way_end s s' e d m le h q =
      let n = d + m.spent + cost m.rest in
      let all : d + (m.spent + cost m.rest) ≤ c * s'.spent = sum_fits d s.spent (work s.rest) s'.spent
      (m.spent + cost m.rest) le q.1.3 h in
      (way s s' d m le h q.0, (record { spent = n; rest = q.1.0 }, ap (charge n) q.1.1, like s' _ q.1.2, omega arith))

  ends : (s s' : Metered S) (t : Metered T) (e : Ending V) → t.spent ≤ c * s.spent → s'.spent ≡ s.spent + work s.rest
      → (k : ℕ) × Reaches target (OnBudget K M N s.rest s'.rest (c * work s.rest))
      (StopsOnBudget K M N cost s.rest s'.rest e (c * work s.rest)) k (unspent t.rest)
      → (k : ℕ) × Reaches target (OnTheWay (OfRest K) (Spends c) source target s s')
      (StopsAt (OfRest K) (Spends c) source target s s' e) k t
  ends s s' t e le h g = (
    g.0,
    start t _ _ g.0 (later N cost t.spent _ _ _ _ (λ m p. way s s' t.spent m le h p)
        (λ m q. way_end s s' e t.spent m le h q) g.0 (unspent t.rest) g.1),
  )

  does : (s : Metered S) (t : Metered T) → Related s t → (x : Next S V)
      → DoesOnBudget K M N cost R size (c * work s.rest) s.rest t.rest x
      → Does (OfRest K) (Spends c) source target Related (λ y. size y.rest) s t (charge (s.spent + work s.rest) x)
  does s t r (Go s1) g =
      let s' : Metered S = record { spent = s.spent + work s.rest; rest = s1 } in (
        g.0,
        g.1,
        start t _ _ g.0 (later N cost t.spent _ _ _ (Related s') (λ m p. way s s' t.spent m r.1 refl p)
            (λ m q. (q.0, sum_fits t.spent s.spent (work s.rest) s'.spent m.spent r.1 q.1 refl)) g.0
            (unspent t.rest) g.2),
      )
  does s t r (Stop e s1) g =
      unless_wrong_map e (ends s (record { spent = s.spent + work s.rest; rest = s1 }) t e r.1 refl) g

  still_allowed : (x n v : ℕ) (y : Next S V) → x ≤ c * n → x ≤ c * (landing (charge (n + v) y)).spent
  still_allowed x n v (Go s) l = let q = mul-add c n v in omega arith
  still_allowed x n v (Stop o s) l = let q = mul-add c n v in omega arith

  pub simulation_at_cost : Simulation (OfRest K) (Spends c) source target Related (λ s. size s.rest)
  simulation_at_cost = record {
    alike = λ s t r. (like s t (b.alike s.rest t.rest r.0), r.1);
    does = λ s t r. does s t r (M.step s.rest) (b.does s.rest t.rest r.0);
    still_allowed = λ x s l. still_allowed x.spent s.spent (work s.rest) (M.step s.rest) l;
  }

  from_start : (s : Metered S) (k : ℕ) (t : Metered T)
      → Reaches target (λ t'. Alike K M N s.rest t'.rest × (t'.spent ≤ c * s.spent)) (Related s) k t
      → NeverWrong (run M s.rest) → FollowsBy (OfRest K) (Spends c) (run target t) (run source s)
  from_start s k t r nw =
      let way = reaches_weaken target _ (Related s) _ (Related s) (λ t1 p. (like s t1 p.0, p.1)) (λ t1 q. q) k t r in
      follows_from_start simulation_at_cost s k t way (metered_never_wrong M work s nw)

-- the theorem at a cost: a target that simulates the source at no more than c times its work follows it, and spends
-- at most c times as much
pub follows_at_cost : {S T A B V : Type 0} {K : B → A → Type 0} {c : ℕ} {M : Machine S A V} {N : Machine T B V}
    {work : S → ℕ} {cost : T → ℕ} {R : S → T → Type 0} {size : S → ℕ} → CostSimulation K c M N work cost R size
    → (s : S) (t : T) → R s t → NeverWrong (run M s)
    → FollowsBy (OfRest K) (Spends c) (run (metered cost N) (unspent t)) (run (metered work M) (unspent s))
follows_at_cost {K = K} {c = c} {M = M} {N = N} {work = work} {cost = cost} {R = R} {size = size} b s t r nw =
    from_start K c M N work cost R size b (unspent s) 0 (unspent t) (r, omega arith) nw

-- the theorem at a cost where the source's meter begins with an allowance for what the target does at its start
pub follows_at_cost_from_start : {S T A B V : Type 0} {K : B → A → Type 0} {c : ℕ} {M : Machine S A V}
    {N : Machine T B V} {work : S → ℕ} {cost : T → ℕ} {R : S → T → Type 0} {size : S → ℕ}
    → CostSimulation K c M N work cost R size → (s : Metered S) (k : ℕ) (t : Metered T)
    → Reaches (metered cost N) (λ t'. Alike K M N s.rest t'.rest × (t'.spent ≤ c * s.spent))
    (λ t'. R s.rest t'.rest × (t'.spent ≤ c * s.spent)) k t → NeverWrong (run M s.rest)
    → FollowsBy (OfRest K) (Spends c) (run (metered cost N) t) (run (metered work M) s)
follows_at_cost_from_start {K = K} {c = c} {M = M} {N = N} {work = work} {cost = cost} {R = R}
    {size = size} b s k t r nw =
    from_start K c M N work cost R size b s k t r nw

-- c times as much as what spends at most d times as much is at most c * d times as much
pub spends_through : {A B C : Type 0} (c d : ℕ) (a : Metered A) (z : Metered C)
    → Through {B = Metered B} (Spends c) (Spends d) a z → Spends (c * d) a z
spends_through c d a z h =
    le_trans h.1 (subst (λ n. c * h.0.spent ≤ n) (sym (mul_assoc c d z.spent)) (mul-le-mul_left c h.2))
