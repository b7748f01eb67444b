-- Rounds of several steps on each side, by which one reduction follows another within an account. Each state of the
-- second on the way names a moment of the first at which it is seen; each state of the first names one at which the
-- second has come to it.
use Rattle.std.proofs.Common.{◌≡◌, ◌≢◌, ◌⊎◌, inl, inr, ⊎_elim, ℕ, zero, suc, ◌+◌, ◌<◌, Some, None, sym, ap, ◌∙◌}
use Rattle.std.proofs.Common.{subst, arith}
use Rattle.run_laws.specs.Runs.{Run, Ending, Exhausted, Wrong, EndsAs, HasVerdictOf, NeverWrong}
use Rattle.run_laws.specs.Runs.{Agrees, Backed, Reached, Any}
use Rattle.run_laws.specs.Accounts.{FollowsWithin}
use Rattle.run_laws.specs.Reductions.{Reduction, reduction_run}
use Rattle.run_laws.proofs.Following.{ends_as_equal, exhausted_or_equal}
use Rattle.run_laws.proofs.Reducing.{what_has_ended_stays-reductions}
use Rattle.run_laws.proofs.Rounds.{Along, run_along, mid_along, along_then, along_or_behind, less_left, Earlier}
use Rattle.run_laws.proofs.Rounds.{by_rounds}

module _ {S T A B V : Type 0} (M : Reduction S A V) (N : Reduction T B V) (K L : B → A → Type 0)
    (R : ℕ → S → T → Type 0) where
  abbrev X : T → Run B V
  X t = reduction_run N t

  abbrev Y : S → Run A V
  Y s = reduction_run M s

  -- a state of the second run is seen as a moment of the first from here
  pub record Seen (s : S) (y : T) : Type 0 where
    pub at : ℕ
    pub output : N.output y ≡ (Y s at).output
    pub shown : K (N.shown y) (Y s at).shown

  -- the second run from here comes to a state of the first, having spent what L allows
  pub record Met (t : T) (x : S) : Type 0 where
    pub at : ℕ
    pub output : (X t at).output ≡ M.output x
    pub allowed : L (X t at).shown (M.shown x)

  pub record Ways (s : S) (t : T) : Type 0 where
    pub first_steps : ℕ
    pub second_steps : ℕ
    pub s' : S
    pub t' : T
    pub first : Along M (Met t) first_steps s s'
    pub second : Along N (Seen s) second_steps t t'

  -- where one of both makes no step, the index falls
  pub record Round (n : ℕ) (s : S) (t : T) : Type 0 where
    pub ways : Ways s t
    pub left : ℕ
    pub related : R left ways.s' ways.t'
    pub first_moves : 0 < ways.first_steps ⊎ left < n
    pub second_moves : 0 < ways.second_steps ⊎ left < n

  pub record LastRound (s : S) (t : T) : Type 0 where
    pub ways : Ways s t
    pub ending : Ending V
    pub first_ends : M.ending ways.s' ≡ Some ending
    pub second_ends : N.ending ways.t' ≡ Some ending
    pub output : N.output ways.t' ≡ M.output ways.s'
    pub shown : K (N.shown ways.t') (M.shown ways.s')
    pub allowed : L (N.shown ways.t') (M.shown ways.s')

  pub record WrongRound (s : S) : Type 0 where
    pub steps : ℕ
    pub wrong : (Y s steps).ending ≡ Some Wrong

  -- the second is exhausted on the way to where the first goes on from s'; what L allows stays allowed there
  pub record Exhausting (s : S) (t : T) : Type 0 where
    pub ways : Ways s t
    pub second_ends : N.ending ways.t' ≡ Some Exhausted
    pub seen : Seen s ways.t'
    pub allowed : (n : ℕ) → L (N.shown ways.t') (Y ways.s' n).shown

  abbrev pub Goes : ℕ → S → T → Type 0
  Goes n s t = Round n s t ⊎ (LastRound s t ⊎ (WrongRound s ⊎ Exhausting s t))

  -- ---- silent steps in front of a round

  seen_after : (i : ℕ) (P : S → Type 0) (s s1 : S) → Along M P i s s1 → (y : T) → Seen s1 y → Seen s y
  seen_after i P s s1 a y seen =
      let e = run_along M P i s s1 a seen.at in
      record {
        at = i + seen.at;
        output = seen.output ∙ sym (ap (λ z. z.output) e);
        shown = subst (λ z. K (N.shown y) z.shown) (sym e) seen.shown;
      }

  met_later : (j : ℕ) (P : T → Type 0) (t t1 : T) → Along N P j t t1 → (x : S) → Met t1 x → Met t x
  met_later j P t t1 a x met =
      let e = run_along N P j t t1 a met.at in
      record {
        at = j + met.at;
        output = ap (λ z. z.output) e ∙ met.output;
        allowed = subst (λ z. L z.shown (M.shown x)) (sym e) met.allowed;
      }

  along_as : {S1 A1 : Type 0} (F : Reduction S1 A1 V) (P Q : S1 → Type 0) → ((x : S1) → P x → Q x) → (i : ℕ)
      (x x1 : S1) → Along F P i x x1 → Along F Q i x x1
  along_as F P Q w zero x x1 a = a
  along_as F P Q w (suc i) x x1 a = (a.0, w x a.1, along_as F P Q w i (F.step x) x1 a.2)

  ways_after : (i : ℕ) (s s1 : S) (t : T) → Along M (Met t) i s s1 → Ways s1 t → Ways s t
  ways_after i s s1 t a w = record {
    first_steps = i + w.first_steps;
    second_steps = w.second_steps;
    s' = w.s';
    t' = w.t';
    first = along_then M (Met t) i w.first_steps s s1 w.s' a w.first;
    second =
        along_as N (Seen s1) (Seen s) (λ y seen. seen_after i (Met t) s s1 a y seen) w.second_steps t w.t' w.second;
  }

  -- the last round of s1 and t1 is one of s and t, from which such steps lead to its end
  last_from : (s s1 : S) (t t1 : T) (l : LastRound s1 t1) (i j : ℕ) → Along M (Met t) i s l.ways.s'
      → Along N (Seen s) j t l.ways.t' → LastRound s t
  last_from s s1 t t1 l i j first second = record {
    ways = record {
      first_steps = i;
      second_steps = j;
      s' = l.ways.s';
      t' = l.ways.t';
      first = first;
      second = second;
    };
    ending = l.ending;
    first_ends = l.first_ends;
    second_ends = l.second_ends;
    output = l.output;
    shown = l.shown;
    allowed = l.allowed;
  }

  -- a round after silent steps of the first is one with them
  pub goes_within_after : (n i : ℕ) (s s1 : S) (t : T) → Along M (Met t) i s s1 → Goes n s1 t → Goes n s t
  unfolding ways_after
  goes_within_after n i s s1 t a (inl r) = inl (record {
    ways = ways_after i s s1 t a r.ways;
    left = r.left;
    related = r.related;
    first_moves = ⊎_elim (λ lt. inl (omega (arith, lt))) (λ lt. inr lt) r.first_moves;
    second_moves = r.second_moves;
  })
  goes_within_after n i s s1 t a (inr (inl l)) =
      let w = ways_after i s s1 t a l.ways in
      inr (inl (last_from s s1 t t l w.first_steps w.second_steps w.first w.second))
  goes_within_after n i s s1 t a (inr (inr (inl w))) =
      inr (inr (inl (record {
        steps = i + w.steps;
        wrong = ap (λ x. x.ending) (run_along M (Met t) i s s1 a w.steps) ∙ w.wrong;
      })))
  goes_within_after n i s s1 t a (inr (inr (inr x))) =
      inr (inr (inr (record {
        ways = ways_after i s s1 t a x.ways;
        second_ends = x.second_ends;
        seen = seen_after i (Met t) s s1 a x.ways.t' x.seen;
        allowed = x.allowed;
      })))

  ways_later : (j : ℕ) (s : S) (t t1 : T) → Along N (Seen s) j t t1 → Ways s t1 → Ways s t
  ways_later j s t t1 a w = record {
    first_steps = w.first_steps;
    second_steps = j + w.second_steps;
    s' = w.s';
    t' = w.t';
    first = along_as M (Met t1) (Met t) (λ x met. met_later j (Seen s) t t1 a x met) w.first_steps s w.s' w.first;
    second = along_then N (Seen s) j w.second_steps t t1 w.t' a w.second;
  }

  -- a round after silent steps of the second is one with them
  pub goes_within_later : (n j : ℕ) (s : S) (t t1 : T) → Along N (Seen s) j t t1 → Goes n s t1 → Goes n s t
  unfolding ways_later
  goes_within_later n j s t t1 a (inl r) = inl (record {
    ways = ways_later j s t t1 a r.ways;
    left = r.left;
    related = r.related;
    first_moves = r.first_moves;
    second_moves = ⊎_elim (λ lt. inl (omega (arith, lt))) (λ lt. inr lt) r.second_moves;
  })
  goes_within_later n j s t t1 a (inr (inl l)) =
      let w = ways_later j s t t1 a l.ways in
      inr (inl (last_from s s t t1 l w.first_steps w.second_steps w.first w.second))
  goes_within_later n j s t t1 a (inr (inr (inl w))) = inr (inr (inl w))
  goes_within_later n j s t t1 a (inr (inr (inr x))) =
      inr (inr (inr (record {
        ways = ways_later j s t t1 a x.ways;
        second_ends = x.second_ends;
        seen = x.seen;
        allowed = x.allowed;
      })))

  abbrev Back : S → T → ℕ → Type 0
  Back s t m = (n : ℕ) × Backed K (X t m) (Y s n)

  abbrev Forth : S → T → ℕ → Type 0
  Forth s t n = (m : ℕ) × L (X t m).shown (Y s n).shown × Reached Any (X t m) (Y s n)

  wrong_later : (s s' : S) (t : T) (i : ℕ) → Along M (Met t) i s s' → NeverWrong (Y s) → NeverWrong (Y s')
  wrong_later s s' t i a nw n w = nw (i + n) (ap (λ x. x.ending) (run_along M (Met t) i s s' a n) ∙ w)

  back_mid : (s : S) (t : T) (w : Ways s t) (m : ℕ) → m < w.second_steps → Back s t m
  back_mid s t w m lt =
      let b = mid_along N (Seen s) w.second_steps t w.t' w.second m lt in
      let seen = b.3 in
      let none : (X t m).ending ≡ None = ap (λ x. x.ending) b.1 ∙ b.2 in (
        seen.at,
        (
          record {
            output = ap (λ x. x.output) b.1 ∙ seen.output;
            shown = subst (λ x. K x.shown (Y s seen.at).shown) (sym b.1) seen.shown;
          },
          subst (λ o. EndsAs o (Y s seen.at).ending) (sym none) tt,
        ),
      )

  back_later : (s : S) (t : T) (w : Ways s t) (m k : ℕ) → m ≡ w.second_steps + k → Back w.s' w.t' k → Back s t m
  back_later s t w m k e b =
      let x = ap (X t) e ∙ run_along N (Seen s) w.second_steps t w.t' w.second k in
      let y = run_along M (Met t) w.first_steps s w.s' w.first b.0 in (
        w.first_steps + b.0,
        subst (λ z. Backed K z (Y s (w.first_steps + b.0))) (sym x) (subst (λ z. Backed K (X w.t' k) z) (sym y) b.1),
      )

  forth_mid : (s : S) (t : T) (w : Ways s t) (n : ℕ) → n < w.first_steps → Forth s t n
  forth_mid s t w n lt =
      let b = mid_along M (Met t) w.first_steps s w.s' w.first n lt in
      let met = b.3 in (
        met.at,
        subst (λ y. L (X t met.at).shown y.shown) (sym b.1) met.allowed,
        inr (
          record { output = met.output ∙ sym (ap (λ x. x.output) b.1); shown = tt },
          subst (λ o. HasVerdictOf (X t met.at).ending o) (sym (ap (λ x. x.ending) b.1 ∙ b.2)) tt,
        ),
      )

  forth_later : (s : S) (t : T) (w : Ways s t) (n k : ℕ) → n ≡ w.first_steps + k → Forth w.s' w.t' k → Forth s t n
  forth_later s t w n k e c =
      let y = ap (Y s) e ∙ run_along M (Met t) w.first_steps s w.s' w.first k in
      let x = run_along N (Seen s) w.second_steps t w.t' w.second c.0 in (
        w.second_steps + c.0,
        subst (λ z. L z.shown (Y s n).shown) (sym x) (subst (λ z. L (X w.t' c.0).shown z.shown) (sym y) c.1),
        subst (λ z. Reached Any z (Y s n)) (sym x) (subst (λ z. Reached Any (X w.t' c.0) z) (sym y) c.2),
      )

  not_wrong : (s : S) (t : T) (l : LastRound s t) → NeverWrong (Y s) → l.ending ≢ Wrong
  not_wrong s t l nw w =
      nw (l.ways.first_steps + 0) (ap (λ x. x.ending)
      (run_along M (Met t) l.ways.first_steps s l.ways.s' l.ways.first 0) ∙ l.first_ends ∙ ap Some w)

  some_wrong : (e : Ending V) → Some e ≡ Some Wrong → e ≡ Wrong
  some_wrong e h = cc

  -- where both have ended
  back_ended : (s : S) (t : T) (l : LastRound s t) → l.ending ≢ Wrong → (k : ℕ) → Back l.ways.s' l.ways.t' k
  back_ended s t l ne k =
      let stays = what_has_ended_stays-reductions N l.ways.t' 0 k l.ending (omega arith) l.second_ends in (
        0,
        (
          subst (λ z. Agrees K z (Y l.ways.s' 0)) (sym stays) (record { output = l.output; shown = l.shown }),
          ends_as_equal (X l.ways.t' k).ending (M.ending l.ways.s')
              (λ w. ne (some_wrong l.ending (sym l.second_ends ∙ sym (ap (λ z. z.ending) stays) ∙ w)))
              (ap (λ z. z.ending) stays ∙ l.second_ends ∙ sym l.first_ends),
        ),
      )

  forth_ended : (s : S) (t : T) (l : LastRound s t) → l.ending ≢ Wrong → (k : ℕ) → Forth l.ways.s' l.ways.t' k
  forth_ended s t l ne k =
      let stays = what_has_ended_stays-reductions M l.ways.s' 0 k l.ending (omega arith) l.first_ends in
      let same : N.ending l.ways.t' ≡ (Y l.ways.s' k).ending = l.second_ends ∙ sym l.first_ends
      ∙ sym (ap (λ z. z.ending) stays) in (
        0,
        subst (λ z. L (N.shown l.ways.t') z.shown) (sym stays) l.allowed,
        ⊎_elim (λ x. inl x) (λ v. inr (
          subst (λ z. Agrees Any (X l.ways.t' 0) z) (sym stays) (record { output = l.output; shown = tt }),
          v,
        ))
            (exhausted_or_equal (N.ending l.ways.t') (Y l.ways.s' k).ending
            (λ w. ne (some_wrong l.ending (sym l.second_ends ∙ w))) same),
      )

  back_exhausted : (s : S) (t : T) (x : Exhausting s t) (m k : ℕ) → m ≡ x.ways.second_steps + k → Back s t m
  back_exhausted s t x m k e =
      let stays = what_has_ended_stays-reductions N x.ways.t' 0 k Exhausted (omega arith) x.second_ends in
      let is = ap (X t) e ∙ run_along N (Seen s) x.ways.second_steps t x.ways.t' x.ways.second k ∙ stays in (
        x.seen.at,
        (
          subst (λ z. Agrees K z (Y s x.seen.at)) (sym is) (record { output = x.seen.output; shown = x.seen.shown }),
          subst (λ o. EndsAs o (Y s x.seen.at).ending) (sym (ap (λ z. z.ending) is ∙ x.second_ends)) tt,
        ),
      )

  forth_exhausted : (s : S) (t : T) (x : Exhausting s t) (n k : ℕ) → n ≡ x.ways.first_steps + k → Forth s t n
  forth_exhausted s t x n k e =
      let is = run_along N (Seen s) x.ways.second_steps t x.ways.t' x.ways.second 0 in
      let y = ap (Y s) e ∙ run_along M (Met t) x.ways.first_steps s x.ways.s' x.ways.first k in (
        x.ways.second_steps + 0,
        subst (λ z. L z.shown (Y s n).shown) (sym is) (subst (λ z. L (N.shown x.ways.t') z.shown) (sym y) (x.allowed
            k)),
        inl (ap (λ z. z.ending) is ∙ x.second_ends),
      )

  -- what holds along the steps of either, behind them and at an ending holds from related states
  module _ (P : S → T → ℕ → Type 0) (steps : (s : S) (t : T) → Ways s t → ℕ)
      (moves : (n : ℕ) (s : S) (t : T) (r : Round n s t) → 0 < steps s t r.ways ⊎ r.left < n)
      (along : (s : S) (t : T) (w : Ways s t) (m : ℕ) → m < steps s t w → P s t m)
      (behind : (s : S) (t : T) (w : Ways s t) (m k : ℕ) → m ≡ steps s t w + k → P w.s' w.t' k → P s t m)
      (at_end : (s : S) (t : T) (l : LastRound s t) → l.ending ≢ Wrong → (k : ℕ) → P l.ways.s' l.ways.t' k)
      (exhausted : (s : S) (t : T) (x : Exhausting s t) (m k : ℕ) → m ≡ steps s t x.ways + k → P s t m) where
    by_round : (n : ℕ) (s : S) (t : T) (m : ℕ) → Goes n s t → NeverWrong (Y s)
        → Earlier R (λ s1. NeverWrong (Y s1)) P n m → P s t m
    by_round n s t m (inl r) nw ih =
        along_or_behind m (steps s t r.ways) (λ lt. along s t r.ways m lt)
        (λ k e. behind s t r.ways m k e (ih r.left r.ways.s' r.ways.t' k
        (less_left n m (steps s t r.ways) k r.left e (moves n s t r)) r.related
        (wrong_later s r.ways.s' t r.ways.first_steps r.ways.first nw)))
    by_round n s t m (inr (inl l)) nw ih =
        along_or_behind m (steps s t l.ways) (λ lt. along s t l.ways m lt)
        (λ k e. behind s t l.ways m k e (at_end s t l (not_wrong s t l nw) k))
    by_round n s t m (inr (inr (inl w))) nw ih = absurd (nw w.steps w.wrong)
    by_round n s t m (inr (inr (inr x))) nw ih =
        along_or_behind m (steps s t x.ways) (λ lt. along s t x.ways m lt) (λ k e. exhausted s t x m k e)

    from_related : ((n : ℕ) (s : S) (t : T) → R n s t → Goes n s t) → (n : ℕ) (s : S) (t : T) (m : ℕ) → R n s t
        → NeverWrong (Y s) → P s t m
    from_related goes n s t m r nw =
        by_rounds R (λ s1. NeverWrong (Y s1)) P
        (λ n1 s1 t1 m1 r1 nw1 ih. by_round n1 s1 t1 m1 (goes n1 s1 t1 r1) nw1 ih) n s t m r nw

  -- where related states always have a round, the second follows the first, and shows so
  pub rounds_follow_within : ((n : ℕ) (s : S) (t : T) → R n s t → Goes n s t) → (n : ℕ) (s : S) (t : T) → R n s t
      → NeverWrong (Y s) → FollowsWithin K L (X t) (Y s)
  rounds_follow_within goes n s t r nw = record {
    back = λ m. from_related Back (λ s1 t1 w. w.second_steps) (λ n1 s1 t1 x. x.second_moves) back_mid back_later
        back_ended back_exhausted goes n s t m r nw;
    forth = λ m. from_related Forth (λ s1 t1 w. w.first_steps) (λ n1 s1 t1 x. x.first_moves) forth_mid forth_later
        forth_ended forth_exhausted goes n s t m r nw;
  }
