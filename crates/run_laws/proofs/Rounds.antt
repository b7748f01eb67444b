-- Rounds: two reductions of which each makes some steps, and then they are related again.
use Rattle.std.proofs.Common.{◌≡◌, ◌≢◌, ◌⊎◌, inl, inr, ⊎_elim, ℕ, zero, suc, ◌+◌, ◌-◌, ◌<◌, ◌≤◌, Some, None}
use Rattle.std.proofs.Common.{refl, sym, ap, ◌∙◌, subst, arith}
use Rattle.std.proofs.lemmas.Bool.{cases_lt}
use Rattle.run_laws.specs.Runs.{Run, Ending, Wrong, IsPrefix, EndsAs, IsExhausted, HasVerdictOf, NeverWrong, Follows}
use Rattle.run_laws.specs.Reductions.{Reduction, unless_ended, state_after, moment_at, reduction_run}
use Rattle.run_laws.proofs.Following.{ends_as_equal, exhausted_or_equal, prefix_refl}
use Rattle.run_laws.proofs.Reducing.{what_has_ended_stays-reductions}

-- i steps from s to s', of states that have not ended and of which P holds
module _ {S A V : Type 0} (M : Reduction S A V) (P : S → Type 0) where
  abbrev pub Along : ℕ → S → S → Type 0
  Along zero s s' = s ≡ s'
  Along (suc i) s s' = (M.ending s ≡ None) × P s × Along i (M.step s) s'

  after_one : (s : S) (n : ℕ) → M.ending s ≡ None → reduction_run M s (suc n) ≡ reduction_run M (M.step s) n
  after_one s n e = ap (λ o. moment_at M (state_after M (unless_ended o M.step s) n)) e

  pub run_along : (i : ℕ) (s s' : S) → Along i s s' → (n : ℕ) → reduction_run M s (i + n) ≡ reduction_run M s' n
  run_along zero s s' a n =
      let e : 0 + n ≡ n = omega arith in ap (reduction_run M s) e ∙ ap (λ x. reduction_run M x n) a
  run_along (suc i) s s' a n =
      let e : suc i + n ≡ suc (i + n) = omega arith in
      ap (reduction_run M s) e ∙ after_one s (i + n) a.0 ∙ run_along i (M.step s) s' a.2 n

  pub mid_along : (i : ℕ) (s s' : S) → Along i s s' → (n : ℕ) → n < i
      → (s1 : S) × (reduction_run M s n ≡ moment_at M s1) × (M.ending s1 ≡ None) × P s1
  mid_along zero s s' a n lt = absurd (omega arith)
  mid_along (suc i) s s' a zero lt = (s, refl, a.0, a.1)
  mid_along (suc i) s s' a (suc n) lt =
      let b = mid_along i (M.step s) s' a.2 n (omega (arith, lt)) in (b.0, after_one s n a.0 ∙ b.1, b.2, b.3)

  pub along_then : (i j : ℕ) (s s' s2 : S) → Along i s s' → Along j s' s2 → Along (i + j) s s2
  along_then zero j s s' s2 a b =
      let e : j ≡ 0 + j = omega arith in subst (λ n. Along n s s2) e (subst (λ x. Along j x s2) (sym a) b)
  along_then (suc i) j s s' s2 a b =
      let e : suc (i + j) ≡ suc i + j = omega arith in
      subst (λ n. Along n s s2) e (a.0, a.1, along_then i j (M.step s) s' s2 a.2 b)

-- the first m steps are within j steps, or come k steps behind them
pub along_or_behind : {P : Type 0} (m j : ℕ) → (m < j → P) → ((k : ℕ) → m ≡ j + k → P) → P
along_or_behind m j along behind = ⊎_elim along (λ le. behind (m - j) (omega (arith, le))) (cases_lt m j)

-- where no step was made, the index is less
pub less_left : (n m j k left : ℕ) → m ≡ j + k → (0 < j ⊎ left < n) → (k < m ⊎ ((k ≡ m) × (left < n)))
less_left n m zero k left e (inl lt) = absurd (omega (arith, lt))
less_left n m zero k left e (inr lt) = inr (omega (arith, e), lt)
less_left n m (suc j) k left e q = inl (omega (arith, e))

-- what P says of each number of steps from related states, where Q holds, is shown round by round: by then it is known
-- for fewer steps, and for as many at a smaller index
module _ {S T : Type 0} (R : ℕ → S → T → Type 0) (Q : S → Type 0) (P : S → T → ℕ → Type 0) where
  abbrev pub Earlier : ℕ → ℕ → Type 0
  Earlier n m =
      (n1 : ℕ) (s1 : S) (t1 : T) (k : ℕ) → (k < m ⊎ ((k ≡ m) × (n1 < n))) → R n1 s1 t1 → Q s1 → P s1 t1 k

  module _ (by_round : (n : ℕ) (s : S) (t : T) (m : ℕ) → R n s t → Q s → Earlier n m → P s t m) where
    at_most : (f : ℕ) → ((n : ℕ) (s : S) (t : T) (m : ℕ) → m < f → R n s t → Q s → P s t m)
        → (z n : ℕ) (s : S) (t : T) (m : ℕ) → n < z → m ≤ f → R n s t → Q s → P s t m
    at_most f ih zero n s t m lt le r q = absurd (omega (arith, lt))
    at_most f ih (suc z) n s t m lt le r q =
        by_round n s t m r q (λ n1 s1 t1 k c r1 q1. ⊎_elim (λ less. ih n1 s1 t1 k (omega (arith, less, le)) r1 q1)
        (λ x. at_most f ih z n1 s1 t1 k (omega (arith, x.1, lt)) (omega (arith, x.0, le)) r1 q1) c)

    all_below : (f n : ℕ) (s : S) (t : T) (m : ℕ) → m < f → R n s t → Q s → P s t m
    all_below zero n s t m lt r q = absurd (omega (arith, lt))
    all_below (suc f) n s t m lt r q =
        at_most f (λ n1 s1 t1 k less r1 q1. all_below f n1 s1 t1 k less r1 q1) (suc n) n s t m (omega arith)
        (omega (arith, lt)) r q

    pub by_rounds : (n : ℕ) (s : S) (t : T) (m : ℕ) → R n s t → Q s → P s t m
    by_rounds n s t m r q = all_below (suc m) n s t m (omega arith) r q

module _ {S T A B V : Type 0} (M : Reduction S A V) (N : Reduction T B V) (R : ℕ → S → T → Type 0) where
  -- on the way from s to s' a state of either has the output of s or of s'
  abbrev pub Between : S → S → T → Type 0
  Between s s' t = (N.output t ≡ M.output s) ⊎ (N.output t ≡ M.output s')

  abbrev pub Midway : S → S → S → Type 0
  Midway s s' x = (M.output x ≡ M.output s) ⊎ (M.output x ≡ M.output s')

  -- the steps of a round: from s to s' and from t to t'
  pub record Paths (s : S) (t : T) : Type 0 where
    pub first_steps : ℕ
    pub second_steps : ℕ
    pub s' : S
    pub t' : T
    pub first : Along M (Midway s s') first_steps s s'
    pub second : Along N (Between s s') second_steps t t'
    pub start : N.output t ≡ M.output s
    pub output : N.output t' ≡ M.output s'

  -- a round that comes to related states; where one of both makes no step, the index falls
  pub record Round (n : ℕ) (s : S) (t : T) : Type 0 where
    pub paths : Paths s t
    pub left : ℕ
    pub related : R left paths.s' paths.t'
    pub first_moves : 0 < paths.first_steps ⊎ left < n
    pub second_moves : 0 < paths.second_steps ⊎ left < n

  -- a round by which both end in the same way
  pub record LastRound (s : S) (t : T) : Type 0 where
    pub paths : Paths s t
    pub ending : Ending V
    pub first_ends : M.ending paths.s' ≡ Some ending
    pub second_ends : N.ending paths.t' ≡ Some ending

  -- the first goes wrong
  pub record WrongRound (s : S) : Type 0 where
    pub steps : ℕ
    pub wrong : (reduction_run M s steps).ending ≡ Some Wrong

  -- what comes of related states
  abbrev pub Goes : ℕ → S → T → Type 0
  Goes n s t = Round n s t ⊎ (LastRound s t ⊎ WrongRound s)

  -- a round after silent steps of the first is one with them
  weaken : {S1 A1 : Type 0} (L : Reduction S1 A1 V) (P Q : S1 → Type 0) → ((x : S1) → P x → Q x) → (i : ℕ) (x x' : S1)
      → Along L P i x x' → Along L Q i x x'
  weaken L P Q w zero x x' a = a
  weaken L P Q w (suc i) x x' a = (a.0, w x a.1, weaken L P Q w i (L.step x) x' a.2)

  longer : (i : ℕ) (s s1 : S) (t : T) → M.output s1 ≡ M.output s → Along M (λ x. M.output x ≡ M.output s) i s s1
      → Paths s1 t → Paths s t
  longer i s s1 t o a p = record {
    first_steps = i + p.first_steps;
    second_steps = p.second_steps;
    s' = p.s';
    t' = p.t';
    first = along_then M (Midway s p.s') i p.first_steps s s1 p.s'
        (weaken M (λ x. M.output x ≡ M.output s) (Midway s p.s') (λ x q. inl q) i s s1 a)
        (weaken M (Midway s1 p.s') (Midway s p.s') (λ x q. ⊎_elim (λ e. inl (e ∙ o)) (λ e. inr e) q) p.first_steps s1
        p.s' p.first);
    second =
        weaken N (Between s1 p.s') (Between s p.s') (λ x q. ⊎_elim (λ e. inl (e ∙ o)) (λ e. inr e) q) p.second_steps t
        p.t' p.second;
    start = p.start ∙ o;
    output = p.output;
  }

  pub goes_after : (n i : ℕ) (s s1 : S) (t : T) → M.output s1 ≡ M.output s
      → Along M (λ x. M.output x ≡ M.output s) i s s1 → Goes n s1 t → Goes n s t
  unfolding longer
  goes_after n i s s1 t o a (inl r) = inl (record {
    paths = longer i s s1 t o a r.paths;
    left = r.left;
    related = r.related;
    first_moves = ⊎_elim (λ lt. inl (omega (arith, lt))) (λ lt. inr lt) r.first_moves;
    second_moves = r.second_moves;
  })
  goes_after n i s s1 t o a (inr (inl l)) =
      inr (inl (record {
        paths = longer i s s1 t o a l.paths;
        ending = l.ending;
        first_ends = l.first_ends;
        second_ends = l.second_ends;
      }))
  goes_after n i s s1 t o a (inr (inr w)) =
      inr (inr (record {
        steps = i + w.steps;
        wrong = ap (λ x. x.ending) (run_along M (λ x. M.output x ≡ M.output s) i s s1 a w.steps) ∙ w.wrong;
      }))

  later : (j : ℕ) (s : S) (t t1 : T) → Along N (λ x. N.output x ≡ N.output t1) j t t1 → N.output t ≡ N.output t1
      → Paths s t1 → Paths s t
  later j s t t1 a o p = record {
    first_steps = p.first_steps;
    second_steps = j + p.second_steps;
    s' = p.s';
    t' = p.t';
    first = p.first;
    second =
        along_then N (Between s p.s') j p.second_steps t t1 p.t'
        (weaken N (λ x. N.output x ≡ N.output t1) (Between s p.s') (λ x q. inl (q ∙ p.start)) j t t1 a) p.second;
    start = o ∙ p.start;
    output = p.output;
  }

  -- a round after silent steps of the second is one with them
  pub goes_later : (n j : ℕ) (s : S) (t t1 : T) → N.output t ≡ N.output t1
      → Along N (λ x. N.output x ≡ N.output t1) j t t1 → Goes n s t1 → Goes n s t
  unfolding later
  goes_later n j s t t1 o a (inl r) = inl (record {
    paths = later j s t t1 a o r.paths;
    left = r.left;
    related = r.related;
    first_moves = r.first_moves;
    second_moves = ⊎_elim (λ lt. inl (omega (arith, lt))) (λ lt. inr lt) r.second_moves;
  })
  goes_later n j s t t1 o a (inr (inl l)) =
      inr (inl (record {
        paths = later j s t t1 a o l.paths;
        ending = l.ending;
        first_ends = l.first_ends;
        second_ends = l.second_ends;
      }))
  goes_later n j s t t1 o a (inr (inr w)) = inr (inr w)

  module _ (goes : (n : ℕ) (s : S) (t : T) → R n s t → Goes n s t) where
    abbrev X : T → Run B V
    X t = reduction_run N t

    abbrev Y : S → Run A V
    Y s = reduction_run M s

    abbrev Backed : S → T → ℕ → Type 0
    Backed s t m = (n : ℕ) × ((X t m).output ≡ (Y s n).output) × EndsAs (X t m).ending (Y s n).ending

    wrong_later : (s s' : S) (i : ℕ) (P : S → Type 0) → Along M P i s s' → NeverWrong (reduction_run M s)
        → NeverWrong (reduction_run M s')
    wrong_later s s' i P a nw n w = nw (i + n) (ap (λ x. x.ending) (run_along M P i s s' a n) ∙ w)

    back_mid : (s : S) (t : T) (p : Paths s t) (m : ℕ) → m < p.second_steps → Backed s t m
    back_mid s t p m lt =
        let b = mid_along N (Between s p.s') p.second_steps t p.t' p.second m lt in
        let run = run_along M (Midway s p.s') p.first_steps s p.s' p.first 0 in
        let none : (X t m).ending ≡ None = ap (λ x. x.ending) b.1 ∙ b.2 in
        ⊎_elim (λ e. (0, ap (λ x. x.output) b.1 ∙ e, subst (λ o. EndsAs o (Y s 0).ending) (sym none) tt))
        (λ e. (
          p.first_steps + 0,
          ap (λ x. x.output) b.1 ∙ e ∙ sym (ap (λ x. x.output) run),
          subst (λ o. EndsAs o (Y s (p.first_steps + 0)).ending) (sym none) tt,
        )) b.3

    back_later : (s : S) (t : T) (p : Paths s t) (m k : ℕ) → m ≡ p.second_steps + k → Backed p.s' p.t' k → Backed s t m
    back_later s t p m k e b =
        let x = ap (X t) e ∙ run_along N (Between s p.s') p.second_steps t p.t' p.second k in
        let y = run_along M (Midway s p.s') p.first_steps s p.s' p.first b.0 in (
          p.first_steps + b.0,
          ap (λ z. z.output) x ∙ b.1 ∙ sym (ap (λ z. z.output) y),
          subst (λ o. EndsAs o (Y s (p.first_steps + b.0)).ending) (sym (ap (λ z. z.ending) x))
              (subst (λ o. EndsAs (X p.t' k).ending o) (sym (ap (λ z. z.ending) y)) b.2),
        )

    ended_at : (s : S) (t : T) (l : LastRound s t) (k : ℕ) → (e : Ending V) → e ≢ Wrong → M.ending l.paths.s' ≡ Some e
        → N.ending l.paths.t' ≡ Some e → Backed l.paths.s' l.paths.t' k
    ended_at s t l k e ne first second =
        let stays = what_has_ended_stays-reductions N l.paths.t' 0 k e (omega arith) second in (
          0,
          ap (λ z. z.output) stays ∙ l.paths.output,
          ends_as_equal (X l.paths.t' k).ending (M.ending l.paths.s')
              (λ w. ne (apart e (sym second ∙ sym (ap (λ z. z.ending) stays) ∙ w)))
              (ap (λ z. z.ending) stays ∙ second ∙ sym first),
        )
      where
        apart : (e : Ending V) → Some e ≡ Some Wrong → e ≡ Wrong
        apart e h = cc

    not_wrong : (s : S) (t : T) (l : LastRound s t) → NeverWrong (reduction_run M s) → l.ending ≢ Wrong
    not_wrong s t l nw w =
        nw (l.paths.first_steps + 0) (ap (λ x. x.ending)
        (run_along M (Midway s l.paths.s') l.paths.first_steps s l.paths.s' l.paths.first 0) ∙ l.first_ends
        ∙ ap Some w)

    abbrev Comes : S → T → ℕ → Type 0
    Comes s t n =
        (m : ℕ) × (IsExhausted (X t m) ⊎ (IsPrefix (Y s n).output (X t m).output
        × HasVerdictOf (X t m).ending (Y s n).ending))

    forth_mid : (s : S) (t : T) (p : Paths s t) (n : ℕ) → n < p.first_steps → Comes s t n
    forth_mid s t p n lt =
        let b = mid_along M (Midway s p.s') p.first_steps s p.s' p.first n lt in
        let run = run_along N (Between s p.s') p.second_steps t p.t' p.second 0 in
        let none = ap (λ x. x.ending) b.1 ∙ b.2 in
        ⊎_elim (λ e. (
          0,
          inr (
            prefix_refl (Y s n).output (N.output t)
                (p.start ∙ sym e ∙ sym (ap (λ x. x.output) b.1)),
            subst (λ o. HasVerdictOf (N.ending t) o) (sym none) tt,
          ),
        ))
        (λ e. (
          p.second_steps + 0,
          inr (
            prefix_refl (Y s n).output (X t (p.second_steps + 0)).output
                (ap (λ x. x.output) run ∙ p.output ∙ sym e ∙ sym (ap (λ x. x.output) b.1)),
            subst (λ o. HasVerdictOf (X t (p.second_steps + 0)).ending o) (sym none) tt,
          ),
        )) b.3

    forth_later : (s : S) (t : T) (p : Paths s t) (n k : ℕ) → n ≡ p.first_steps + k → Comes p.s' p.t' k → Comes s t n
    forth_later s t p n k e c =
        let y = ap (Y s) e ∙ run_along M (Midway s p.s') p.first_steps s p.s' p.first k in
        let x = run_along N (Between s p.s') p.second_steps t p.t' p.second c.0 in (
          p.second_steps + c.0,
          subst (λ z. IsExhausted z
              ⊎ (IsPrefix (Y s n).output z.output × HasVerdictOf z.ending (Y s n).ending)) (sym x)
              (subst (λ z. IsExhausted (X p.t' c.0)
              ⊎ (IsPrefix z.output (X p.t' c.0).output × HasVerdictOf (X p.t' c.0).ending z.ending)) (sym y) c.1),
        )

    comes_ended : (s : S) (t : T) (l : LastRound s t) (k : ℕ) (e : Ending V) → e ≢ Wrong
        → M.ending l.paths.s' ≡ Some e → N.ending l.paths.t' ≡ Some e → Comes l.paths.s' l.paths.t' k
    comes_ended s t l k e ne first second =
        let stays = what_has_ended_stays-reductions M l.paths.s' 0 k e (omega arith) first in
        let same : (N.ending l.paths.t') ≡ (Y l.paths.s' k).ending = second ∙ sym first
        ∙ sym (ap (λ z. z.ending) stays) in (
          0,
          ⊎_elim (λ x. inl x) (λ v. inr (
            prefix_refl (Y l.paths.s' k).output (N.output l.paths.t')
                (l.paths.output ∙ sym (ap (λ z. z.output) stays)),
            v,
          ))
              (exhausted_or_equal (N.ending l.paths.t') (Y l.paths.s' k).ending
              (λ w. ne (some_wrong e (sym second ∙ w))) same),
        )
      where
        some_wrong : (e : Ending V) → Some e ≡ Some Wrong → e ≡ Wrong
        some_wrong e h = cc

    -- what holds along the steps of either, behind them and at an ending holds from related states
    module _ (P : S → T → ℕ → Type 0) (steps : (s : S) (t : T) → Paths s t → ℕ)
        (moves : (n : ℕ) (s : S) (t : T) (r : Round n s t) → 0 < steps s t r.paths ⊎ r.left < n)
        (along : (s : S) (t : T) (p : Paths s t) (m : ℕ) → m < steps s t p → P s t m)
        (behind : (s : S) (t : T) (p : Paths s t) (m k : ℕ) → m ≡ steps s t p + k → P p.s' p.t' k → P s t m)
        (at_end : (s : S) (t : T) (l : LastRound s t) (k : ℕ) (e : Ending V) → e ≢ Wrong → M.ending l.paths.s' ≡ Some e
        → N.ending l.paths.t' ≡ Some e → P l.paths.s' l.paths.t' k) where
      by_round : (n : ℕ) (s : S) (t : T) (m : ℕ) → Goes n s t → NeverWrong (Y s)
          → Earlier R (λ s1. NeverWrong (Y s1)) P n m → P s t m
      by_round n s t m (inl r) nw ih =
          along_or_behind m (steps s t r.paths) (λ lt. along s t r.paths m lt)
          (λ k e. behind s t r.paths m k e (ih r.left r.paths.s' r.paths.t' k
          (less_left n m (steps s t r.paths) k r.left e (moves n s t r)) r.related
          (wrong_later s r.paths.s' r.paths.first_steps (Midway s r.paths.s') r.paths.first nw)))
      by_round n s t m (inr (inl l)) nw ih =
          along_or_behind m (steps s t l.paths) (λ lt. along s t l.paths m lt)
          (λ k e. behind s t l.paths m k e
          (at_end s t l k l.ending (not_wrong s t l nw) l.first_ends l.second_ends))
      by_round n s t m (inr (inr w)) nw ih = absurd (nw w.steps w.wrong)

      from_related : (n : ℕ) (s : S) (t : T) (m : ℕ) → R n s t → NeverWrong (Y s) → P s t m
      from_related n s t m r nw =
          by_rounds R (λ s1. NeverWrong (Y s1)) P
          (λ n1 s1 t1 m1 r1 nw1 ih. by_round n1 s1 t1 m1 (goes n1 s1 t1 r1) nw1 ih) n s t m r nw

    -- where related states always have a round, the second follows the first
    pub rounds_follow : (n : ℕ) (s : S) (t : T) → R n s t → NeverWrong (reduction_run M s)
        → Follows (reduction_run N t) (reduction_run M s)
    rounds_follow n s t r nw = record {
      back = λ m. from_related Backed (λ s1 t1 p. p.second_steps) (λ n1 s1 t1 x. x.second_moves) back_mid back_later
          ended_at n s t m r nw;
      forth = λ m. from_related Comes (λ s1 t1 p. p.first_steps) (λ n1 s1 t1 x. x.first_moves) forth_mid forth_later
          comes_ended n s t m r nw;
    }
