-- A machine that simulates another follows it.
use Rattle.std.proofs.Common.{◌≡◌, ◌≢◌, ◌⊎◌, inl, inr, ⊎_elim, ℕ, zero, suc, ◌+◌, ◌<◌, ◌≤◌, Option, Some, None, refl}
use Rattle.std.proofs.Common.{sym, ap, ◌∙◌, subst, arith}
use Rattle.run_laws.specs.Runs.{Ending, Verdict, Exhausted, Wrong, Moment, NeverWrong, Agrees, Backed, Reached}
use Rattle.run_laws.specs.Runs.{FollowsBy}
use Rattle.run_laws.specs.Machines.{Next, Go, Stop, Machine, moment, and_then, steps, seen, run, landing, Onward}
use Rattle.run_laws.specs.Machines.{Reaches, Alike, OnTheWay, StopsAt, UnlessWrong, Does, Simulation}
use Rattle.run_laws.proofs.Following.{ends_as_equal, exhausted_or_equal, reached_by}
use Rattle.run_laws.proofs.Running.{run_go, run_stop}

-- one step on the way, known by an equation
pub by_step : {T B V : Type 0} (N : Machine T B V) (P Q : T → Type 0) (k : ℕ) (t : T) (x : Next T V) → N.step t ≡ x
    → P t → Onward x P (Reaches N P Q k) → Reaches N P Q (suc k) t
by_step N P Q k t x e p r = (p, subst (λ y. Onward y P (Reaches N P Q k)) (sym e) r)

turn_on : {T B V : Type 0} (N : Machine T B V) (P Q : T → Type 0) (j k : ℕ)
    → ((t : T) → Reaches N P (Reaches N P Q j) k t → Reaches N P Q (k + j) t) → (x : Next T V)
    → Onward x P (Reaches N P (Reaches N P Q j) k) → Onward x P (Reaches N P Q (k + j))
turn_on N P Q j k ih (Go t) r = ih t r
turn_on N P Q j k ih (Stop (Verdict v) t) r = r
turn_on N P Q j k ih (Stop Exhausted t) r = r
turn_on N P Q j k ih (Stop Wrong t) r = r

weaken_on : {T B V : Type 0} (N : Machine T B V) (P Q P' Q' : T → Type 0) → ((t : T) → P t → P' t) → (k : ℕ)
    → ((t : T) → Reaches N P Q k t → Reaches N P' Q' k t) → (x : Next T V) → Onward x P (Reaches N P Q k)
    → Onward x P' (Reaches N P' Q' k)
weaken_on N P Q P' Q' p k ih (Go t) r = ih t r
weaken_on N P Q P' Q' p k ih (Stop (Verdict v) t) r = r
weaken_on N P Q P' Q' p k ih (Stop Exhausted t) r = p t r
weaken_on N P Q P' Q' p k ih (Stop Wrong t) r = r

-- in k steps to where j more lead to Q: in k + j steps to Q
pub reaches_then : {T B V : Type 0} (N : Machine T B V) (P Q : T → Type 0) (j k : ℕ) (t : T)
    → Reaches N P (Reaches N P Q j) k t → Reaches N P Q (k + j) t
reaches_then N P Q j zero t r = let e : j ≡ 0 + j = omega arith in subst (λ n. Reaches N P Q n t) e r
reaches_then N P Q j (suc k) t r =
    let e : suc (k + j) ≡ suc k + j = omega arith in
    subst (λ n. Reaches N P Q n t) e (r.0, turn_on N P Q j k (λ t1 r1. reaches_then N P Q j k t1 r1) (N.step t) r.1)

-- P and Q of a way may be weakened
pub reaches_weaken : {T B V : Type 0} (N : Machine T B V) (P Q P' Q' : T → Type 0) → ((t : T) → P t → P' t)
    → ((t : T) → Q t → Q' t) → (k : ℕ) (t : T) → Reaches N P Q k t → Reaches N P' Q' k t
reaches_weaken N P Q P' Q' p q zero t r = q t r
reaches_weaken N P Q P' Q' p q (suc k) t r =
    (p t r.0, weaken_on N P Q P' Q' p k (λ t1 r1. reaches_weaken N P Q P' Q' p q k t1 r1) (N.step t) r.1)

-- along the target's steps
module _ {T B V : Type 0} (N : Machine T B V) (P Q : T → Type 0) where
  -- what holds of each moment
  module _ (G : Moment B V → Type 0) (here : (t : T) → P t → G (moment N t None))
      (out : (t : T) → P t → G (moment N t (Some Exhausted))) where
    walk_on : (m k : ℕ) → ((t1 : T) → Reaches N P Q k t1 → G (run N t1 m)) → (x : Next T V)
        → Onward x P (Reaches N P Q k) → G (seen N (and_then x (λ t1. steps N t1 m)))
    walk_on m k ih (Go t1) r = ih t1 r
    walk_on m k ih (Stop (Verdict v) t1) r = absurd r
    walk_on m k ih (Stop Exhausted t1) r = out t1 r
    walk_on m k ih (Stop Wrong t1) r = absurd r

    pub walk : (k : ℕ) (t : T) (m : ℕ) → Reaches N P Q k t → ((t1 : T) (j : ℕ) → Q t1 → m ≡ k + j → G (run N t1 j))
        → G (run N t m)
    walk zero t m q there = there t m q (omega arith)
    walk (suc k) t zero r there = here t r.0
    walk (suc k) t (suc m) r there =
        walk_on m k (λ t1 r1. walk k t1 m r1 (λ t2 j q e. there t2 j q (omega (arith, e)))) (N.step t) r.1

  -- what holds of some moment
  module _ (H : Moment B V → Type 0) (out : (t : T) → P t → H (moment N t (Some Exhausted))) where
    abbrev Arrives : T → Type 0
    Arrives t = (m : ℕ) × H (run N t m)

    arrive_on : (t : T) (k : ℕ) → ((t1 : T) → Reaches N P Q k t1 → Arrives t1) → (x : Next T V) → N.step t ≡ x
        → Onward x P (Reaches N P Q k) → Arrives t
    arrive_on t k ih (Go t1) e r = let a = ih t1 r in (suc a.0, subst H (sym (run_go N t t1 a.0 e)) a.1)
    arrive_on t k ih (Stop (Verdict v) t1) e r = absurd r
    arrive_on t k ih (Stop Exhausted t1) e r = (1, subst H (sym (run_stop N t t1 Exhausted 0 e)) (out t1 r))
    arrive_on t k ih (Stop Wrong t1) e r = absurd r

    pub arrive : (k : ℕ) (t : T) → Reaches N P Q k t → ((t1 : T) → Q t1 → Arrives t1) → Arrives t
    arrive zero t q fin = fin t q
    arrive (suc k) t r fin = arrive_on t k (λ t1 r1. arrive k t1 r1 fin) (N.step t) refl r.1

-- a claim of every ending but Wrong
pub unless_wrong : {V P : Type 0} (e : Ending V) → e ≢ Wrong → UnlessWrong e P → P
unless_wrong (Verdict v) ne p = p
unless_wrong Exhausted ne p = p
unless_wrong Wrong ne p = absurd (ne refl)

pub unless_wrong_map : {V P Q : Type 0} (e : Ending V) → (P → Q) → UnlessWrong e P → UnlessWrong e Q
unless_wrong_map (Verdict v) f p = f p
unless_wrong_map Exhausted f p = f p
unless_wrong_map Wrong f p = tt

-- related at some index
abbrev pub AtSome : {S T : Type 0} → (ℕ → S → T → Type 0) → S → T → Type 0
AtSome R s t = (i : ℕ) × R i s t

-- what the target does from t for a step of the source from s to s': some steps, or none where the index falls
abbrev pub GoesOn : {S T A B V : Type 0} → (K L : B → A → Type 0) → Machine S A V → Machine T B V
    → (ℕ → S → T → Type 0) → ℕ → S → S → T → Type 0
GoesOn K L M N R i s s' t =
    ((j : ℕ) × (j < i) × R j s' t) ⊎ ((k : ℕ) × Reaches N (OnTheWay K L M N s s') (AtSome R s') (suc k) t)

-- the simulation theorem where states are related at an index. So what falls may be a measure of the source's states,
-- or one of how the states are related
module _ {S T A B V : Type 0} (K L : B → A → Type 0) (M : Machine S A V) (N : Machine T B V) (R : ℕ → S → T → Type 0)
    (alike : (i : ℕ) (s : S) (t : T) → R i s t → Alike K M N s t × L (N.shown t) (M.shown s))
    (goes : (i : ℕ) (s s' : S) (t : T) → R i s t → M.step s ≡ Go s' → GoesOn K L M N R i s s' t)
    (stops : (i : ℕ) (s s' : S) (t : T) (e : Ending V) → R i s t → M.step s ≡ Stop e s' → e ≢ Wrong
    → (k : ℕ) × Reaches N (OnTheWay K L M N s s') (StopsAt K L M N s s' e) k t)
    (still_allowed : (x : B) (s : S) → L x (M.shown s) → L x (M.shown (landing (M.step s)))) where
  -- a moment of the source's run
  abbrev Seen : S → Moment B V → Type 0
  Seen s x = (n : ℕ) × Backed K x (run M s n)

  as_agrees : (o : Option (Ending V)) (o' : Option (Ending V)) (s : S) (t : T) → Alike K M N s t
      → Agrees K (moment N t o) (moment M s o')
  as_agrees o o' s t a = record { output = a.output; shown = a.shown }

  seen_here : (s : S) (t : T) → Alike K M N s t → Seen s (moment N t None)
  seen_here s t a = (0, (as_agrees None None s t a, tt))

  seen_out : (s : S) (t : T) → Alike K M N s t → Seen s (moment N t (Some Exhausted))
  seen_out s t a = (0, (as_agrees (Some Exhausted) None s t a, tt))

  seen_shift : (s s' : S) (x : Moment B V) → M.step s ≡ Go s' → Seen s' x → Seen s x
  seen_shift s s' x e a = (suc a.0, subst (λ y. Backed K x y) (sym (run_go M s s' a.0 e)) a.1)

  -- on the way to the next state
  way_here : (s s' : S) (t : T) → M.step s ≡ Go s' → OnTheWay K L M N s s' t → Seen s (moment N t None)
  way_here s s' t e p = ⊎_elim (λ a. seen_here s t a) (λ a. seen_shift s s' (moment N t None) e (seen_here s' t a)) p.0

  way_out : (s s' : S) (t : T) → M.step s ≡ Go s' → OnTheWay K L M N s s' t → Seen s (moment N t (Some Exhausted))
  way_out s s' t e p =
      ⊎_elim (λ a. seen_out s t a) (λ a. seen_shift s s' (moment N t (Some Exhausted)) e (seen_out s' t a)) p.0

  -- on the way to the end
  end_here : (s s' : S) (t : T) (e : Ending V) → M.step s ≡ Stop e s' → OnTheWay K L M N s s' t
      → Seen s (moment N t None)
  end_here s s' t e h p =
      ⊎_elim (λ a. seen_here s t a) (λ a. (
        1,
        subst (λ y. Backed K (moment N t None) y) (sym (run_stop M s s' e 0 h)) (as_agrees None (Some e) s' t a, tt),
      )) p.0

  end_out : (s s' : S) (t : T) (e : Ending V) → M.step s ≡ Stop e s' → OnTheWay K L M N s s' t
      → Seen s (moment N t (Some Exhausted))
  end_out s s' t e h p =
      ⊎_elim (λ a. seen_out s t a) (λ a. (
        1,
        subst (λ y. Backed K (moment N t (Some Exhausted)) y)
            (sym (run_stop M s s' e 0 h)) (as_agrees (Some Exhausted) (Some e) s' t a, tt),
      )) p.0

  some_not_wrong : (e : Ending V) → e ≢ Wrong → Some e ≢ Some Wrong
  some_not_wrong e ne h = ne cc

  end_there : (s s' : S) (t : T) (e : Ending V) (j : ℕ) → e ≢ Wrong → M.step s ≡ Stop e s' → StopsAt K L M N s s' e t
      → Seen s (run N t j)
  end_there s s' t e zero ne h q = end_here s s' t e h q.0
  end_there s s' t e (suc j) ne h q =
      let both : Backed K (moment N q.1.0 (Some e))
      (moment M s' (Some e)) = (
        as_agrees (Some e) (Some e) s' q.1.0 q.1.2,
        ends_as_equal (Some e) (Some e) (some_not_wrong e ne) refl,
      ) in
      let one = subst (λ x. Backed K x (moment M s' (Some e))) (sym (run_stop N t q.1.0 e j q.1.1)) both in
      (1, subst (λ y. Backed K (run N t (suc j)) y) (sym (run_stop M s s' e 0 h)) one)

  not_wrong : (s s' : S) (e : Ending V) → NeverWrong (run M s) → M.step s ≡ Stop e s' → e ≢ Wrong
  not_wrong s s' e nw h w = nw 1 (ap (λ x. x.ending) (run_stop M s s' e 0 h) ∙ ap Some w)

  never_next : (s s' : S) → M.step s ≡ Go s' → NeverWrong (run M s) → NeverWrong (run M s')
  never_next s s' e nw n w = nw (suc n) (ap (λ x. x.ending) (run_go M s s' n e) ∙ w)

  -- each of the target's first moments
  abbrev Backs : ℕ → Type 0
  Backs f = (i : ℕ) (s : S) (t : T) (m : ℕ) → m < f → R i s t → NeverWrong (run M s) → Seen s (run N t m)

  back_go : (f : ℕ) → Backs f → (i : ℕ) (s s' : S) (t : T) (m : ℕ) → m ≤ f → NeverWrong (run M s) → M.step s ≡ Go s'
      → GoesOn K L M N R i s s' t → ((j : ℕ) → j < i → R j s' t → Seen s' (run N t m)) → Seen s (run N t m)
  back_go f ih i s s' t m le nw e (inl x) again = seen_shift s s' (run N t m) e (again x.0 x.1 x.2)
  back_go f ih i s s' t m le nw e (inr x) again =
      walk N (OnTheWay K L M N s s') (AtSome R s') (Seen s) (λ t1 q. way_here s s' t1 e q)
      (λ t1 q. way_out s s' t1 e q) (suc x.0) t m x.1
      (λ t1 j q h. seen_shift s s' (run N t1 j) e (ih q.0 s' t1 j (omega arith) q.1 (never_next s s' e nw)))

  back_step : (f : ℕ) → Backs f → (i : ℕ) (s : S) (t : T) (m : ℕ) → m ≤ f → R i s t → NeverWrong (run M s)
      → ((s' : S) → M.step s ≡ Go s' → (j : ℕ) → j < i → R j s' t → Seen s' (run N t m)) → (x : Next S V)
      → M.step s ≡ x → Seen s (run N t m)
  back_step f ih i s t m le r nw again (Go s') e = back_go f ih i s s' t m le nw e (goes i s s' t r e) (again s' e)
  back_step f ih i s t m le r nw again (Stop o s') e =
      let ne = not_wrong s s' o nw e in
      let g = stops i s s' t o r e ne in
      walk N (OnTheWay K L M N s s') _ (Seen s) (λ t1 q. end_here s s' t1 o e q)
      (λ t1 q. end_out s s' t1 o e q) g.0 t m g.1 (λ t1 j q h. end_there s s' t1 o j ne e q)

  back_index : (f : ℕ) → Backs f → (z : ℕ) (i : ℕ) (s : S) (t : T) (m : ℕ) → i < z → m ≤ f → R i s t
      → NeverWrong (run M s) → Seen s (run N t m)
  back_index f ih zero i s t m lt le r nw = absurd (omega arith)
  back_index f ih (suc z) i s t m lt le r nw =
      back_step f ih i s t m le r nw (λ s' e j less r'. back_index f ih z j s' t m (omega (arith, lt, less)) le r'
      (never_next s s' e nw)) (M.step s) refl

  backs : (f : ℕ) → Backs f
  backs zero i s t m lt r nw = absurd (omega arith)
  backs (suc f) i s t m lt r nw = back_index f (backs f) (suc i) i s t m (omega arith) (omega arith) r nw

  -- what is allowed stays allowed along the run
  allowed_along : (n : ℕ) (x : B) (s : S) → L x (M.shown s) → L x (run M s n).shown
  allowed_along zero x s l = l
  allowed_along (suc n) x s l = allowed_step (λ s' l'. allowed_along n x s' l') (M.step s) refl
    where
      allowed_step : ((s' : S) → L x (M.shown s') → L x (run M s' n).shown) → (y : Next S V) → M.step s ≡ y
          → L x (seen M (and_then y (λ s'. steps M s' n))).shown
      allowed_step ih (Go s') e = ih s' (subst (λ z. L x (M.shown (landing z))) e (still_allowed x s l))
      allowed_step ih (Stop o s') e = subst (λ z. L x (M.shown (landing z))) e (still_allowed x s l)

  -- the target has come to the source's moment, or has run out on the way
  abbrev Comes : S → ℕ → Moment B V → Type 0
  Comes s n x = L x.shown (run M s n).shown × Reached K x (run M s n)

  comes_shift : (s s' : S) (n : ℕ) (x : Moment B V) → M.step s ≡ Go s' → Comes s' n x → Comes s (suc n) x
  comes_shift s s' n x e c = subst (λ y. L x.shown y.shown × Reached K x y) (sym (run_go M s s' n e)) c

  comes_out : (s s' : S) (n : ℕ) (t : T) → M.step s ≡ Go s' → OnTheWay K L M N s s' t
      → Comes s (suc n) (moment N t (Some Exhausted))
  comes_out s s' n t e p =
      comes_shift s s' n (moment N t (Some Exhausted)) e (allowed_along n (N.shown t) s' p.1, inl refl)

  comes_end : (s s' : S) (n : ℕ) (x : Moment B V) (e : Ending V) → M.step s ≡ Stop e s' → L x.shown (M.shown s')
      × Reached K x (moment M s' (Some e)) → Comes s (suc n) x
  comes_end s s' n x e h c = subst (λ y. L x.shown y.shown × Reached K x y) (sym (run_stop M s s' e n h)) c

  comes_stop : (s s' : S) (n : ℕ) (t : T) (e : Ending V) → e ≢ Wrong → M.step s ≡ Stop e s' → StopsAt K L M N s s' e t
      → (m : ℕ) × Comes s (suc n) (run N t m)
  comes_stop s s' n t e ne h q = (
    1,
    subst (Comes s (suc n)) (sym (run_stop N t q.1.0 e 0 q.1.1))
        (comes_end s s' n (moment N q.1.0 (Some e)) e h (
          q.1.3,
          reached_by K (moment N q.1.0 (Some e)) (moment M s' (Some e))
              (as_agrees (Some e) (Some e) s' q.1.0 q.1.2)
              (exhausted_or_equal (Some e) (Some e) (some_not_wrong e ne) refl),
        )),
  )

  forth_step : (n : ℕ) → ((i : ℕ) (s : S) (t : T) → R i s t → NeverWrong (run M s) → (m : ℕ) × Comes s n (run N t m))
      → (i : ℕ) (s : S) (t : T) → R i s t → NeverWrong (run M s) → (x : Next S V) → M.step s ≡ x
      → (m : ℕ) × Comes s (suc n) (run N t m)
  forth_step n ih i s t r nw (Go s') e = by_goes (goes i s s' t r e)
    where
      by_goes : GoesOn K L M N R i s s' t → (m : ℕ) × Comes s (suc n) (run N t m)
      by_goes (inl x) =
          let a = ih x.0 s' t x.2 (never_next s s' e nw) in (a.0, comes_shift s s' n (run N t a.0) e a.1)
      by_goes (inr x) =
          arrive N (OnTheWay K L M N s s') (AtSome R s') (Comes s (suc n)) (λ t1 q. comes_out s s' n t1 e q) (suc x.0)
          t x.1
          (λ t1 q. let a = ih q.0 s' t1 q.1 (never_next s s' e nw) in (a.0, comes_shift s s' n (run N t1 a.0) e a.1))
  forth_step n ih i s t r nw (Stop o s') e =
      let ne = not_wrong s s' o nw e in
      let g = stops i s s' t o r e ne in
      arrive N (OnTheWay K L M N s s') _ (Comes s (suc n))
      (λ t1 q. comes_end s s' n (moment N t1 (Some Exhausted)) o e (q.1, inl refl)) g.0 t g.1
      (λ t1 q. comes_stop s s' n t1 o ne e q)

  forths : (n i : ℕ) (s : S) (t : T) → R i s t → NeverWrong (run M s) → (m : ℕ) × Comes s n (run N t m)
  forths zero i s t r nw =
      let a = alike i s t r in (0, (a.1, inr (as_agrees None None s t a.0, tt)))
  forths (suc n) i s t r nw = forth_step n (λ i1 s1 t1 r1 nw1. forths n i1 s1 t1 r1 nw1) i s t r nw (M.step s) refl

  -- from a start at which the target is not yet related, but seen as the source's first state
  abbrev Starting : S → T → Type 0
  Starting s t = Alike K M N s t × L (N.shown t) (M.shown s)

  start_back : (s : S) (k : ℕ) (t : T) → Reaches N (Starting s) (AtSome R s) k t → NeverWrong (run M s) → (m : ℕ)
      → Seen s (run N t m)
  start_back s k t r nw m =
      walk N (Starting s) (AtSome R s) (Seen s) (λ t1 q. seen_here s t1 q.0) (λ t1 q. seen_out s t1 q.0) k t m r
      (λ t1 j q h. backs (suc j) q.0 s t1 j (omega arith) q.1 nw)

  start_forth : (s : S) (k : ℕ) (t : T) → Reaches N (Starting s) (AtSome R s) k t → NeverWrong (run M s) → (n : ℕ)
      → (m : ℕ) × Comes s n (run N t m)
  start_forth s k t r nw n =
      arrive N (Starting s) (AtSome R s) (Comes s n) (λ t1 q. (allowed_along n (N.shown t1) s q.1, inl refl)) k t r
      (λ t1 q. forths n q.0 s t1 q.1 nw)

  pub simulates_at_index : (s : S) (k : ℕ) (t : T)
      → Reaches N (λ t'. Alike K M N s t' × L (N.shown t') (M.shown s)) (AtSome R s) k t → NeverWrong (run M s)
      → FollowsBy K L (run N t) (run M s)
  simulates_at_index s k t r nw = record {
    back = λ m. start_back s k t r nw m;
    forth = λ n. let a = start_forth s k t r nw n in (a.0, a.1.0, a.1.1);
  }

-- where a measure of the source's states falls, related states are related at that measure
module _ {S T A B V : Type 0} (K L : B → A → Type 0) (M : Machine S A V) (N : Machine T B V) (R : S → T → Type 0)
    (size : S → ℕ) (b : Simulation K L M N R size) where
  abbrev AtSize : ℕ → S → T → Type 0
  AtSize i s t = (i ≡ size s) × R s t

  abbrev related : (s : S) (t : T) → R s t → AtSome AtSize s t
  related s t r = (size s, (refl, r))

  goes_on : (i : ℕ) (s s' : S) (t : T) → i ≡ size s → (k : ℕ) → 0 < k ⊎ size s' < size s
      → Reaches N (OnTheWay K L M N s s') (R s') k t → GoesOn K L M N AtSize i s s' t
  goes_on i s s' t h zero (inl lt) r = absurd (omega (arith, lt))
  goes_on i s s' t h zero (inr lt) r = inl (size s', omega (arith, h, lt), (refl, r))
  goes_on i s s' t h (suc k) p r =
      inr (
        k,
        reaches_weaken N (OnTheWay K L M N s s') (R s') (OnTheWay K L M N s s') (AtSome AtSize s') (λ t1 q. q)
            (λ t1 q. related s' t1 q) (suc k) t r,
      )

  goes_at_size : (i : ℕ) (s s' : S) (t : T) → AtSize i s t → M.step s ≡ Go s' → GoesOn K L M N AtSize i s s' t
  goes_at_size i s s' t r e =
      let g = subst (Does K L M N R size s t) e (b.does s t r.1) in goes_on i s s' t r.0 g.0 g.1 g.2

  stops_at_size : (i : ℕ) (s s' : S) (t : T) (e : Ending V) → AtSize i s t → M.step s ≡ Stop e s' → e ≢ Wrong
      → (k : ℕ) × Reaches N (OnTheWay K L M N s s') (StopsAt K L M N s s' e) k t
  stops_at_size i s s' t e r h ne = unless_wrong e ne (subst (Does K L M N R size s t) h (b.does s t r.1))

  from_start : (s : S) (k : ℕ) (t : T)
      → Reaches N (λ t'. Alike K M N s t' × L (N.shown t') (M.shown s)) (R s) k t → NeverWrong (run M s)
      → FollowsBy K L (run N t) (run M s)
  from_start s k t r nw =
      simulates_at_index K L M N AtSize (λ i s1 t1 r1. b.alike s1 t1 r1.1) goes_at_size stops_at_size b.still_allowed
      s k t (reaches_weaken N (λ t'. Alike K M N s t' × L (N.shown t') (M.shown s)) (R s)
      (λ t'. Alike K M N s t' × L (N.shown t') (M.shown s)) (AtSome AtSize s) (λ t1 q. q) (λ t1 q. related s t1 q) k t
      r) nw

-- the simulation theorem: from related states a target that simulates the source follows it
pub follows_by_simulation : {S T A B V : Type 0} {K L : B → A → Type 0} {M : Machine S A V} {N : Machine T B V}
    {R : S → T → Type 0} {size : S → ℕ} → Simulation K L M N R size → (s : S) (t : T) → R s t → NeverWrong (run M s)
    → FollowsBy K L (run N t) (run M s)
follows_by_simulation {K = K} {L = L} {M = M} {N = N} {R = R} {size = size} b s t r nw =
    from_start K L M N R size b s 0 t r nw

-- the simulation theorem from a start of the target, which in some steps comes to a state that is related to the
-- source's first, and is seen as that first state on the way
pub follows_from_start : {S T A B V : Type 0} {K L : B → A → Type 0} {M : Machine S A V} {N : Machine T B V}
    {R : S → T → Type 0} {size : S → ℕ} → Simulation K L M N R size → (s : S) (k : ℕ) (t : T)
    → Reaches N (λ t'. Alike K M N s t' × L (N.shown t') (M.shown s)) (R s) k t → NeverWrong (run M s)
    → FollowsBy K L (run N t) (run M s)
follows_from_start {K = K} {L = L} {M = M} {N = N} {R = R} {size = size} b s k t r nw =
    from_start K L M N R size b s k t r nw
