-- Lockstep with what is shown: two reductions of which the second makes each step of the first, some of them after
-- steps of its own, and what K relates is shown at each two moments that correspond.
use Rattle.std.proofs.Common.{◌≡◌, ◌⊎◌, inl, inr, ℕ, zero, suc, ◌<◌, Option, Some, None, refl, sym, ap, subst, arith}
use Rattle.run_laws.specs.Runs.{Ending, Verdict, Exhausted, Wrong, NeverWrong, FollowsBy}
use Rattle.run_laws.specs.Machines.{Next, Go, Machine, run, landing, Reaches, Alike, OnTheWay, StopsAt, UnlessWrong}
use Rattle.run_laws.specs.Machines.{Does, Simulation}
use Rattle.run_laws.specs.Reductions.{Reduction, reduction_run, go_or_stop, machine_of}
use Rattle.run_laws.proofs.Following.{follows_by_before, follows_by_behind, follows_of, follower_never_goes_wrong}
use Rattle.run_laws.proofs.Reducing.{reduction_and_machine_follow_each_other-machine}
use Rattle.run_laws.proofs.Reducing.{reduction_and_machine_follow_each_other-reduction, machine_never_wrong}
use Rattle.run_laws.proofs.Reducing.{machine_never_wrong_back}
use Rattle.run_laws.proofs.Simulation.{by_step, unless_wrong_map, follows_by_simulation}

module _ {S T A B V : Type 0} (M : Reduction S A V) (N : Reduction T B V) (K L : B → A → Type 0)
    (R : S → T → Type 0) (size : T → ℕ) where
  -- the second makes a step of its own, by which its size falls
  pub record OnItsOwn (s : S) (t : T) : Type 0 where
    pub running : N.ending t ≡ None
    pub next : R s (N.step t)
    pub less : size (N.step t) < size t

  -- both make a step
  pub record Together (s : S) (t : T) : Type 0 where
    pub first : M.ending s ≡ None
    pub second : N.ending t ≡ None
    pub next : R (M.step s) (N.step t)

  -- both have ended, in the same way
  pub record AtEnd (s : S) (t : T) : Type 0 where
    pub ending : Ending V
    pub first : M.ending s ≡ Some ending
    pub second : N.ending t ≡ Some ending

  pub record ShowingLockstep : Type 0 where
    pub alike : (s : S) (t : T) → R s t → N.output t ≡ M.output s
    pub shown : (s : S) (t : T) → R s t → K (N.shown t) (M.shown s)
    pub allowed : (s : S) (t : T) → R s t → L (N.shown t) (M.shown s)
    pub does : (s : S) (t : T) → R s t → OnItsOwn s t ⊎ (Together s t ⊎ AtEnd s t)
    -- what L allows stays allowed as the first goes on
    pub still_allowed : (b : B) (s : S) → M.ending s ≡ None → L b (M.shown s) → L b (M.shown (M.step s))

  module _ (l : ShowingLockstep) where
    abbrev mM : Machine S A V
    mM = machine_of M

    abbrev mN : Machine T B V
    mN = machine_of N

    abbrev DoesStep : S → T → Next S V → Type 0
    DoesStep s t x = Does K L mM mN R (λ s. 0) s t x

    like : (s : S) (t : T) → R s t → Alike K mM mN s t
    like s t r = record { output = l.alike s t r; shown = l.shown s t r }

    goes : (t : T) → N.ending t ≡ None → mN.step t ≡ Go (N.step t)
    goes t e = ap (λ o. go_or_stop o N.step t) e

    still : (b : B) (s : S) (o : Option (Ending V)) → M.ending s ≡ o → L b (M.shown s)
        → L b (M.shown (landing (go_or_stop o M.step s)))
    still b s None e a = l.still_allowed b s e a
    still b s (Some end) e a = a

    -- on the way to where the first lands
    on_way : (s : S) (t : T) (o : Option (Ending V)) → M.ending s ≡ o → R s t
        → OnTheWay K L mM mN s (landing (go_or_stop o M.step s)) t
    on_way s t o e r = (inl (like s t r), still (N.shown t) s o e (l.allowed s t r))

    before : (s : S) (t : T) (o : Option (Ending V)) → M.ending s ≡ o → R s t → N.ending t ≡ None
        → DoesStep s (N.step t) (go_or_stop o M.step s) → DoesStep s t (go_or_stop o M.step s)
    before s t None f r e d =
        (suc d.0, inl (omega arith), by_step mN _ _ d.0 t (Go (N.step t)) (goes t e) (on_way s t None f r) d.2)
    before s t (Some end) f r e d =
        unless_wrong_map end (λ a. (
          suc a.0,
          by_step mN (OnTheWay K L mM mN s s)
              (StopsAt K L mM mN s s end) a.0 t (Go (N.step t)) (goes t e) (on_way s t (Some end) f r) a.1,
        )) d

    unless : (e : Ending V) (P : Type 0) → P → UnlessWrong e P
    unless (Verdict v) P p = p
    unless Exhausted P p = p
    unless Wrong P p = tt

    together : (s : S) (t : T) → R s t → Together s t → DoesStep s t (mM.step s)
    together s t r b =
        subst (DoesStep s t) (sym (ap (λ o. go_or_stop o M.step s) b.first)) (
          1,
          inl (omega arith),
          by_step mN (OnTheWay K L mM mN s (M.step s)) (R (M.step s)) 0 t
              (Go (N.step t)) (goes t b.second) (on_way s t None b.first r) b.next,
        )

    ended : (s : S) (t : T) → R s t → AtEnd s t → DoesStep s t (mM.step s)
    ended s t r o =
        subst (DoesStep s t) (sym (ap (λ x. go_or_stop x M.step s) o.first))
        (unless o.ending ((k : ℕ) × Reaches mN (OnTheWay K L mM mN s s) (StopsAt K L mM mN s s o.ending) k t) (
          0,
          (
            (inl (like s t r), l.allowed s t r),
            (
              t,
              ap (λ x. go_or_stop x N.step t) o.second,
              like s t r,
              l.allowed s t r,
            ),
          ),
        ))

    on_turn : (f : ℕ) → ((s : S) (t : T) → size t < f → R s t → DoesStep s t (mM.step s)) → (s : S) (t : T)
        → size t < suc f → R s t → OnItsOwn s t ⊎ (Together s t ⊎ AtEnd s t) → DoesStep s t (mM.step s)
    on_turn f ih s t lt r (inl a) =
        before s t (M.ending s) refl r a.running (ih s (N.step t) (omega (arith, a.less, lt)) a.next)
    on_turn f ih s t lt r (inr (inl b)) = together s t r b
    on_turn f ih s t lt r (inr (inr o)) = ended s t r o

    does_step : (f : ℕ) (s : S) (t : T) → size t < f → R s t → DoesStep s t (mM.step s)
    does_step zero s t lt r = absurd (omega arith)
    does_step (suc f) s t lt r = on_turn f (λ s1 t1 lt1 r1. does_step f s1 t1 lt1 r1) s t lt r (l.does s t r)

    simulation : Simulation K L mM mN R (λ s. 0)
    simulation = record {
      alike = λ s t r. (like s t r, l.allowed s t r);
      does = λ s t r. does_step (suc (size t)) s t (omega arith) r;
      still_allowed = λ b s a. still b s (M.ending s) refl a;
    }

    -- the second follows the first, with what is shown
    pub showing_lockstep_follows : (s : S) (t : T) → R s t → NeverWrong (reduction_run M s)
        → FollowsBy K L (reduction_run N t) (reduction_run M s)
    showing_lockstep_follows s t r nw =
        let by : FollowsBy K L (run mN t) (run mM s) =
        follows_by_simulation simulation s t r (machine_never_wrong M s nw) in
        let nwN : NeverWrong (reduction_run N t) =
        machine_never_wrong_back N t (follower_never_goes_wrong (follows_of by)) in
        follows_by_before (reduction_and_machine_follow_each_other-reduction N t nwN)
        (follows_by_behind by (reduction_and_machine_follow_each_other-machine M s nw))
