-- Ways of a machine that are paid for: each step takes its cost out of a purse. A machine that goes such a way for each
-- step of another, with that step's work put into the purse, spends no more than the other.
use Rattle.std.proofs.Common.{◌⊎◌, inl, inr, ⊎_elim, ℕ, zero, suc, ◌+◌, ◌*◌, ◌<◌, ◌≤◌, sym, ap, subst, arith}
use Rattle.run_laws.specs.Runs.{Ending, Verdict, Exhausted, Wrong, NeverWrong, FollowsBy, Any}
use Rattle.run_laws.specs.Machines.{Next, Go, Stop, Machine, run, landing, Onward, Reaches, Alike, OnTheWay, StopsAt}
use Rattle.run_laws.specs.Machines.{UnlessWrong, Does, Simulation}
use Rattle.run_laws.specs.Meters.{Metered, unspent, charge, metered, OfRest, Spends}
use Rattle.run_laws.proofs.Public.{unless_wrong_map, reaches_weaken, follows_from_start, metered_never_wrong}
use Rattle.run_laws.proofs.Public.{follows_metered, metered_follows, unmetered_never_wrong, follower_never_goes_wrong}
use Rattle.run_laws.proofs.Public.{follows_of, follows_by_trans, follows_by_weaken}

-- in k steps, each paid out of so much, the machine comes to where Q holds of what is left, or is exhausted before; P
-- holds at each state that it leaves, and where it is exhausted
abbrev pub Pays : {T B V : Type 0} → Machine T B V → (T → ℕ) → (T → Type 0) → (ℕ → T → Type 0) → ℕ → ℕ → T → Type 0
Pays N cost P Q zero purse t = Q purse t
Pays N cost P Q (suc k) purse t =
    P t × (left : ℕ) × (cost t + left ≤ purse) × Onward (N.step t) P (Pays N cost P Q k left)

-- what the target does from t with so much in its purse, of which it may leave some out; the last step of a run is paid
-- too
abbrev pub DoesPaid : {S T A B V : Type 0} → (K : B → A → Type 0) → Machine S A V → Machine T B V → (T → ℕ)
    → (ℕ → S → T → Type 0) → (S → ℕ) → ℕ → S → T → Next S V → Type 0
DoesPaid K M N cost R size purse s t (Go s1) =
    (k : ℕ) × (0 < k ⊎ size s1 < size s) × (paid : ℕ) × (paid ≤ purse)
    × Pays N cost (OnTheWay K Any M N s s1) (λ left u. R left s1 u) k paid t
DoesPaid K M N cost R size purse s t (Stop e s1) =
    UnlessWrong e ((k : ℕ) × (paid : ℕ) × (paid ≤ purse)
    × Pays N cost (OnTheWay K Any M N s s1) (λ left u. StopsAt K Any M N s s1 e u × (cost u ≤ left)) k paid t)

-- the target does each step of the source from what its purse has and the step's work; R relates two states where so
-- much is in it
pub record PaidSimulation {S T A B V : Type 0} (K : B → A → Type 0) (M : Machine S A V) (N : Machine T B V)
    (work : S → ℕ) (cost : T → ℕ) (R : ℕ → S → T → Type 0) (size : S → ℕ) : Type 0 where
  pub alike : (purse : ℕ) (s : S) (t : T) → R purse s t → Alike K M N s t
  pub does : (purse : ℕ) (s : S) (t : T) → R purse s t → DoesPaid K M N cost R size (purse + work s) s t (M.step s)

-- more may be in the purse
pub does_with_more : {S T A B V : Type 0} (K : B → A → Type 0) (M : Machine S A V) (N : Machine T B V) (cost : T → ℕ)
    (R : ℕ → S → T → Type 0) (size : S → ℕ) (s : S) (t : T) (b c : ℕ) (y : Next S V) → b ≤ c
    → DoesPaid K M N cost R size b s t y → DoesPaid K M N cost R size c s t y
does_with_more K M N cost R size s t b c (Go s1) le h = (h.0, h.1, h.2, omega (arith, le, h.3), h.4)
does_with_more K M N cost R size s t b c (Stop e s1) le h =
    unless_wrong_map e (λ g. (g.0, g.1, omega (arith, le, g.2), g.3)) h

-- P and Q of a way may be weakened
weaken_on : {T V : Type 0} (P P' R R' : T → Type 0) → ((t : T) → P t → P' t) → ((t : T) → R t → R' t) → (y : Next T V)
    → Onward y P R → Onward y P' R'
weaken_on P P' R R' p r (Go t) h = r t h
weaken_on P P' R R' p r (Stop (Verdict v) t) h = h
weaken_on P P' R R' p r (Stop Exhausted t) h = p t h
weaken_on P P' R R' p r (Stop Wrong t) h = h

pub pays_weaken : {T B V : Type 0} (N : Machine T B V) (cost : T → ℕ) (P P' : T → Type 0) (Q Q' : ℕ → T → Type 0)
    → ((t : T) → P t → P' t) → ((left : ℕ) (t : T) → Q left t → Q' left t) → (k purse : ℕ) (t : T)
    → Pays N cost P Q k purse t → Pays N cost P' Q' k purse t
pays_weaken N cost P P' Q Q' p q zero purse t r = q purse t r
pays_weaken N cost P P' Q Q' p q (suc k) purse t r = (
  p t r.0,
  r.1,
  r.2,
  weaken_on P P' (Pays N cost P Q k r.1) (Pays N cost P' Q' k r.1) p
      (λ t1 r1. pays_weaken N cost P P' Q Q' p q k r.1 t1 r1) (N.step t) r.3,
)

-- a way that is paid out of what is left of a total is one of the machine with a meter, which shows no more than it
module _ {T B V : Type 0} (N : Machine T B V) (cost : T → ℕ) (P : T → Type 0) (Q : ℕ → T → Type 0) (total : ℕ) where
  abbrev Within : Metered T → Type 0
  Within m = P m.rest × (m.spent ≤ total)

  abbrev Arrived : Metered T → Type 0
  Arrived m = (left : ℕ) × Q left m.rest × (m.spent + left ≤ total)

  meter_on : (k n left : ℕ) (y : Next T V) → ((m : Metered T) → m.spent + left ≤ total
      → Pays N cost P Q k left m.rest → Reaches (metered cost N) Within Arrived k m) → n + left ≤ total
      → Onward y P (Pays N cost P Q k left)
      → Onward (charge n y) Within (Reaches (metered cost N) Within Arrived k)
  meter_on k n left (Go t) ih le r = ih (record { spent = n; rest = t }) le r
  meter_on k n left (Stop (Verdict v) t) ih le r = absurd r
  meter_on k n left (Stop Exhausted t) ih le r = (r, omega (arith, le))
  meter_on k n left (Stop Wrong t) ih le r = absurd r

  pub on_meter : (k purse : ℕ) (m : Metered T) → m.spent + purse ≤ total → Pays N cost P Q k purse m.rest
      → Reaches (metered cost N) Within Arrived k m
  on_meter zero purse m le r = (purse, r, le)
  on_meter (suc k) purse m le r = (
    (r.0, omega (arith, le)),
    meter_on k (m.spent + cost m.rest) r.1 (N.step m.rest) (λ m1 l r1. on_meter k r.1 m1 l r1)
        (let paid = r.2 in omega (arith, le, paid)) r.3,
  )

module _ {S T A B V : Type 0} {K : B → A → Type 0} {M : Machine S A V} {N : Machine T B V} {work : S → ℕ}
    {cost : T → ℕ} {R : ℕ → S → T → Type 0} {size : S → ℕ} (b : PaidSimulation K M N work cost R size) where
  abbrev source : Machine (Metered S) (Metered A) V
  source = metered work M

  abbrev target : Machine (Metered T) (Metered B) V
  target = metered cost N

  abbrev Related : Metered S → Metered T → Type 0
  Related s t = (purse : ℕ) × R purse s.rest t.rest × (t.spent + purse ≤ s.spent)

  like : (s : Metered S) (t : Metered T) → Alike K M N s.rest t.rest → Alike (OfRest K) source target s t
  like s t a = record { output = a.output; shown = a.shown }

  way : (s s1 : Metered S) (m : Metered T) → OnTheWay K Any M N s.rest s1.rest m.rest → m.spent ≤ s1.spent
      → OnTheWay (OfRest K) (Spends 1) source target s s1 m
  way s s1 m w le = (⊎_elim (λ a. inl (like s m a)) (λ a. inr (like s1 m a)) w.0, omega (arith, le))

  ends : (s s1 : Metered S) (e : Ending V) (left : ℕ) (m : Metered T)
      → StopsAt K Any M N s.rest s1.rest e m.rest → cost m.rest ≤ left → m.spent + left ≤ s1.spent
      → StopsAt (OfRest K) (Spends 1) source target s s1 e m
  ends s s1 e left m q paid le =
      let n : ℕ = m.spent + cost m.rest in (
        way s s1 m q.0 (omega (arith, le)),
        (
          record { spent = n; rest = q.1.0 },
          ap (charge n) q.1.1,
          like s1 _ q.1.2,
          omega (arith, le, paid),
        ),
      )

  does : (s : Metered S) (t : Metered T) (r : Related s t) (y : Next S V)
      → DoesPaid K M N cost R size (r.0 + work s.rest) s.rest t.rest y
      → Does (OfRest K) (Spends 1) source target Related (λ x. size x.rest) s t (charge (s.spent + work s.rest) y)
  does s t r (Go s2) g =
      let s1 : Metered S = record { spent = s.spent + work s.rest; rest = s2 } in
      let before = r.2 in
      let paid = g.3 in (
        g.0,
        g.1,
        reaches_weaken target _ _ _ (Related s1) (λ m p. way s s1 m p.0 p.1) (λ m q. q) g.0 t
            (on_meter N cost (OnTheWay K Any M N s.rest s2) (λ left u. R left s2 u) s1.spent g.0 g.2 t
            (omega (arith, before, paid)) g.4),
      )
  does s t r (Stop e s2) g =
      let s1 : Metered S = record { spent = s.spent + work s.rest; rest = s2 } in
      let before = r.2 in
      unless_wrong_map e (λ h.
      let paid = h.2 in (
        h.0,
        reaches_weaken target _ _ _ _ (λ m p. way s s1 m p.0 p.1) (λ m q. ends s s1 e q.0 m q.1.0 q.1.1 q.2) h.0 t
            (on_meter N cost (OnTheWay K Any M N s.rest s2) (λ left u. StopsAt K Any M N s.rest s2 e u
            × (cost u ≤ left)) s1.spent h.0 h.1 t (omega (arith, before, paid)) h.3),
      )) g

  still_allowed : (x n v : ℕ) (y : Next S V) → x ≤ 1 * n → x ≤ 1 * (landing (charge (n + v) y)).spent
  still_allowed x n v (Go s) l = omega (arith, l)
  still_allowed x n v (Stop o s) l = omega (arith, l)

  simulates : Simulation (OfRest K) (Spends 1) source target Related (λ s. size s.rest)
  simulates = record {
    alike = λ s t r. (like s t (b.alike r.0 s.rest t.rest r.1), (let le = r.2 in omega (arith, le)));
    does = λ s t r. does s t r (M.step s.rest) (b.does r.0 s.rest t.rest r.1);
    still_allowed = λ x s l. still_allowed x.spent s.spent (work s.rest) (M.step s.rest) l;
  }

  -- it follows the source and spends no more, where the source's meter begins with so much, from which a way to where
  -- both are related is paid
  pub follows_paid : (purse : ℕ) (s : S) (k : ℕ) (t : T) → Pays N cost (Alike K M N s) (λ left u. R left s u) k purse t
      → NeverWrong (run M s) → FollowsBy (OfRest K) (Spends 1) (run (metered cost N) (unspent t))
      (run (metered work M) (record { spent = purse; rest = s }))
  follows_paid purse s k t r nw =
      let s0 : Metered S = record { spent = purse; rest = s } in
      follows_from_start simulates s0 k (unspent t)
      (reaches_weaken target _ _ _ (Related s0)
      (λ m p. (like s0 m p.0, (let le = p.1 in omega (arith, le)))) (λ m q. q) k (unspent t)
      (on_meter N cost (Alike K M N s) (λ left u. R left s u) purse k purse (unspent t) (omega arith) r))
      (metered_never_wrong M work s0 nw)

-- a machine that follows another at a cost follows it
pub unmetered : {S T A B V : Type 0} {K : B → A → Type 0} {L : Metered B → Metered A → Type 0} (M : Machine S A V)
    (N : Machine T B V) (work : S → ℕ) (cost : T → ℕ) (s : Metered S) (t : T) → NeverWrong (run M s.rest)
    → FollowsBy (OfRest K) L (run (metered cost N) (unspent t)) (run (metered work M) s)
    → FollowsBy K Any (run N t) (run M s.rest)
unmetered {K = K} M N work cost s t never h =
    let never1 = unmetered_never_wrong N cost (unspent t) (follower_never_goes_wrong (follows_of h)) in
    let below = follows_metered N cost (unspent t) never1 in
    let above = metered_follows M work s never in
    follows_by_weaken K Any (λ a b k. subst (λ x. K x b) (sym k.1) (subst (λ y. K k.0.rest y) k.2.2 k.2.1))
    (λ a b k. tt) (follows_by_trans below (follows_by_trans h above))
