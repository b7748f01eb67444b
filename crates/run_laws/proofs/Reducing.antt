-- What the run of a reduction does, and how it joins the run of its machine.
use Rattle.std.proofs.Common.{◌≡◌, ◌≢◌, ◌⊎◌, inr, ℕ, zero, suc, ◌+◌, ◌≤◌, Option, Some, None, refl, sym, ap, ◌∙◌, arith}
use Rattle.run_laws.specs.Runs.{Ending, Wrong, IsPrefix, EndsAs, IsExhausted, HasVerdictOf, NeverWrong, StaysEnded}
use Rattle.run_laws.specs.Runs.{OutputGrows, Agrees, FollowsBy, Same}
use Rattle.run_laws.specs.Machines.{Go, Machine, moment, and_then, steps, seen, run, landing, OnlyAddsOutput}
use Rattle.run_laws.specs.Reductions.{Reduction, unless_ended, state_after, moment_at, reduction_run}
use Rattle.run_laws.specs.Reductions.{ReductionOnlyAddsOutput, go_or_stop, machine_of}
use Rattle.run_laws.proofs.Following.{ends_as_equal, exhausted_or_equal, backed_equal, reached_by, reached_equal}
use Rattle.run_laws.proofs.Following.{prefix_trans, prefix_refl}

none_is_not_some : {V : Type 0} (o : Option (Ending V)) (e : Ending V) → o ≡ None → o ≡ Some e → ⊥
none_is_not_some o e none some = absurd (apart (sym none ∙ some))
  where
    apart : None ≡ Some e → ⊥
    apart h = cc

-- whether there is an ending
data Either {V : Type 0} (o : Option (Ending V)) : Type 0 where
  running : o ≡ None → Either o
  ended : (e : Ending V) → o ≡ Some e → Either o

either : {V : Type 0} (o : Option (Ending V)) → Either o
either None = running refl
either (Some e) = ended e refl

module _ {S A V : Type 0} (M : Reduction S A V) where
  -- a state that has ended stays
  state_stays : (s : S) (e : Ending V) → M.ending s ≡ Some e → (n : ℕ) → state_after M s n ≡ s
  state_stays s e h zero = refl
  state_stays s e h (suc n) =
      ap (λ x. state_after M x n) (ap (λ o. unless_ended o M.step s) h) ∙ state_stays s e h n

  pub state_after_stays : (n m : ℕ) (s : S) (e : Ending V) → n ≤ m → M.ending (state_after M s n) ≡ Some e
      → state_after M s m ≡ state_after M s n
  state_after_stays zero m s e le h = state_stays s e h m
  state_after_stays (suc n) zero s e le h = absurd (omega arith)
  state_after_stays (suc n) (suc m) s e le h =
      state_after_stays n m (unless_ended (M.ending s) M.step s) e (omega arith) h

  -- so a run that has ended stays as it is
  pub what_has_ended_stays-reductions : (s : S) → StaysEnded (reduction_run M s)
  what_has_ended_stays-reductions s n m e le h = ap (moment_at M) (state_after_stays n m s e le h)

  -- more steps lead where they lead from the state after the first ones
  pub later_steps_go_on_from_earlier_ones-reductions : (n m : ℕ) (s : S)
      → state_after M s (n + m) ≡ state_after M (state_after M s n) m
  later_steps_go_on_from_earlier_ones-reductions zero m s = let e : 0 + m ≡ m = omega arith in ap (state_after M s) e
  later_steps_go_on_from_earlier_ones-reductions (suc n) m s =
      let e : suc n + m ≡ suc (n + m) = omega arith in
      ap (state_after M s) e ∙ later_steps_go_on_from_earlier_ones-reductions n m (unless_ended (M.ending s) M.step s)

  -- what each step keeps holds along the run
  pub state_after_keeps : (I : S → Type 0) → ((s : S) → I s → M.ending s ≡ None → I (M.step s)) → (n : ℕ) (s : S)
      → I s → I (state_after M s n)
  state_after_keeps I keeps zero s i = i
  state_after_keeps I keeps (suc n) s i =
      state_after_keeps I keeps n (unless_ended (M.ending s) M.step s) (one (M.ending s) (λ e. keeps s i e))
    where
      one : (o : Option (Ending V)) → (o ≡ None → I (M.step s)) → I (unless_ended o M.step s)
      one None k = k refl
      one (Some e) k = i

  -- a run from where an invariant holds that no wrong state has never goes wrong
  pub reduction_never_wrong : (I : S → Type 0) → ((s : S) → I s → M.ending s ≡ None → I (M.step s))
      → ((s : S) → I s → M.ending s ≢ Some Wrong) → (s : S) → I s → NeverWrong (reduction_run M s)
  reduction_never_wrong I keeps safe s i n = safe (state_after M s n) (state_after_keeps I keeps n s i)

  -- where no step takes output back, the output only grows along the run
  grows_from : ReductionOnlyAddsOutput M → (n m : ℕ) (s : S) → n ≤ m
      → IsPrefix (reduction_run M s n).output (reduction_run M s m).output
  grows_from adds zero m s le =
      state_after_keeps (λ x. IsPrefix (M.output s) (M.output x))
      (λ x p e. prefix_trans (M.output s) (M.output x) (M.output (M.step x)) p (adds x e)) m s
      (prefix_refl (M.output s) (M.output s) refl)
  grows_from adds (suc n) zero s le = absurd (omega arith)
  grows_from adds (suc n) (suc m) s le = grows_from adds n m (unless_ended (M.ending s) M.step s) (omega arith)

  pub output_only_grows-reductions : ReductionOnlyAddsOutput M → (s : S) → OutputGrows (reduction_run M s)
  output_only_grows-reductions adds s n m le = grows_from adds n m s le

  -- ---- the machine of the reduction

  abbrev machine : Machine S A V
  machine = machine_of M

  adds_at : (s : S) (o : Option (Ending V)) → (o ≡ None → IsPrefix (M.output s) (M.output (M.step s)))
      → IsPrefix (M.output s) (M.output (landing (go_or_stop o M.step s)))
  adds_at s None adds = adds refl
  adds_at s (Some e) adds = prefix_refl (M.output s) (M.output s) refl

  pub machine_adds_output : ReductionOnlyAddsOutput M → OnlyAddsOutput (machine_of M)
  machine_adds_output adds s = adds_at s (M.ending s) (adds s)

  first_step : (s : S) (o : Option (Ending V)) → seen machine (and_then (go_or_stop o M.step s) (λ x. Go x))
      ≡ moment machine (unless_ended o M.step s) o
  first_step s None = refl
  first_step s (Some e) = refl

  later_step : (s : S) (n : ℕ) → ((x : S) → run machine x (suc n) ≡ moment machine (state_after M x (suc n))
      (M.ending (state_after M x n))) → (o : Option (Ending V)) → M.ending s ≡ o
      → seen machine (and_then (go_or_stop o M.step s) (λ x. steps machine x (suc n)))
      ≡ moment machine (state_after M (unless_ended o M.step s) (suc n))
      (M.ending (state_after M (unless_ended o M.step s) n))
  later_step s n ih None h = ih (M.step s)
  later_step s n ih (Some e) h =
      sym (ap (λ x. moment machine x (M.ending (state_after M s n))) (state_stays s e h (suc n))
      ∙ ap (moment machine s) (ap M.ending (state_stays s e h n) ∙ h))

  -- the machine is where the reduction is, and one step later has its ending
  pub machine_run : (n : ℕ) (s : S) → run (machine_of M) s (suc n) ≡ moment (machine_of M) (state_after M s (suc n))
      (M.ending (state_after M s n))
  machine_run zero s = first_step s (M.ending s)
  machine_run (suc n) s = later_step s n (λ x. machine_run n x) (M.ending s) refl

  -- at each bound both have the same output and show the same
  pub machine_agrees : (n : ℕ) (s : S) → Agrees Same (run (machine_of M) s n) (reduction_run M s n)
  machine_agrees zero s = record { output = refl; shown = refl }
  machine_agrees (suc n) s =
      record { output = ap (λ x. x.output) (machine_run n s); shown = ap (λ x. x.shown) (machine_run n s) }

  -- where the reduction has ended after n steps, the machine has come to the same moment after n + 1
  machine_ended : (n : ℕ) (s : S) (e : Ending V) → (reduction_run M s n).ending ≡ Some e
      → run (machine_of M) s (suc n) ≡ reduction_run M s n
  machine_ended n s e h =
      machine_run n s ∙ ap (λ x. moment machine x (M.ending (state_after M s n)))
      (state_after_stays n (suc n) s e (omega arith) h)

  pub reduction_and_machine_follow_each_other-after_end : (n : ℕ) (s : S) (e : Ending V)
      → (reduction_run M s n).ending ≡ Some e → run (machine_of M) s (n + 1) ≡ reduction_run M s n
  reduction_and_machine_follow_each_other-after_end n s e h =
      let later : n + 1 ≡ suc n = omega arith in ap (run machine s) later ∙ machine_ended n s e h

  -- where it has not ended after n steps, the machine is at the same moment
  pub reduction_and_machine_follow_each_other-before_end : (n : ℕ) (s : S) → (reduction_run M s n).ending ≡ None
      → run (machine_of M) s n ≡ reduction_run M s n
  reduction_and_machine_follow_each_other-before_end zero s h = ap (moment machine s) (sym h)
  reduction_and_machine_follow_each_other-before_end (suc n) s h =
      machine_run n s ∙ ap (moment machine (state_after M s (suc n))) (before (either (M.ending (state_after M s n))))
    where
      before : Either (M.ending (state_after M s n)) → M.ending (state_after M s n) ≡ M.ending (state_after M s (suc n))
      before (running e) = e ∙ sym h
      before (ended o e) =
          absurd (none_is_not_some (M.ending (state_after M s (suc n))) o h
          (ap M.ending (state_after_stays n (suc n) s o (omega arith) e) ∙ e))

  -- where the machine has ended after n steps, the reduction is at the same moment
  pub machine_end_back : (n : ℕ) (s : S) (e : Ending V) → (run (machine_of M) s n).ending ≡ Some e
      → run (machine_of M) s n ≡ reduction_run M s n
  machine_end_back zero s e h = absurd (none_is_not_some None e refl h)
  machine_end_back (suc n) s e h =
      let over : M.ending (state_after M s n) ≡ Some e = sym (ap (λ x. x.ending) (machine_run n s)) ∙ h in
      let same = state_after_stays n (suc n) s e (omega arith) over in
      machine_run n s ∙ ap (moment machine (state_after M s (suc n))) (sym (ap M.ending same))

  -- the machine comes to each of the reduction's moments
  comes : (n : ℕ) (s : S) → Either (M.ending (state_after M s n)) → (m : ℕ) × (run machine s m ≡ reduction_run M s n)
  comes n s (running e) = (n, reduction_and_machine_follow_each_other-before_end n s e)
  comes n s (ended o e) = (suc n, machine_ended n s o e)

  pub machine_comes : (n : ℕ) (s : S) → (m : ℕ) × (run (machine_of M) s m ≡ reduction_run M s n)
  machine_comes n s = comes n s (either (M.ending (state_after M s n)))

  -- the machine goes wrong just where the reduction does
  pub machine_never_wrong : (s : S) → NeverWrong (reduction_run M s) → NeverWrong (run (machine_of M) s)
  machine_never_wrong s nw n e = nw n (sym (ap (λ x. x.ending) (machine_end_back n s Wrong e)) ∙ e)

  pub machine_never_wrong_back : (s : S) → NeverWrong (run (machine_of M) s) → NeverWrong (reduction_run M s)
  machine_never_wrong_back s nw n e = let a = machine_comes n s in nw a.0 (ap (λ x. x.ending) a.1 ∙ e)

  -- where the reduction never goes wrong, each run follows the other, and shows the same
  module _ (s : S) (nw : NeverWrong (reduction_run M s)) where
    ends_as : (n : ℕ) (o : Option (Ending V)) → (run machine s n).ending ≡ o → EndsAs o (reduction_run M s n).ending
    ends_as n None h = tt
    ends_as n (Some e) h =
        let same = ap (λ x. x.ending) (machine_end_back n s e h) in
        ends_as_equal (Some e) (reduction_run M s n).ending (λ w. machine_never_wrong s nw n (h ∙ w)) (sym h ∙ same)

    has_verdict_of : (n : ℕ) (o : Option (Ending V)) → (run machine s n).ending ≡ o
        → IsExhausted (reduction_run M s n) ⊎ HasVerdictOf (reduction_run M s n).ending o
    has_verdict_of n None h = inr tt
    has_verdict_of n (Some e) h =
        exhausted_or_equal (reduction_run M s n).ending (Some e) (nw n)
        (sym (ap (λ x. x.ending) (machine_end_back n s e h)) ∙ h)

    pub reduction_and_machine_follow_each_other-machine : FollowsBy Same Same (run (machine_of M) s) (reduction_run M s)
    reduction_and_machine_follow_each_other-machine = record {
      back = λ m. (m, (machine_agrees m s, ends_as m (run machine s m).ending refl));
      forth = λ n. let a = machine_comes n s in (
        a.0,
        ap (λ x. x.shown) a.1,
        reached_equal (run machine s a.0) (reduction_run M s n)
            (machine_never_wrong s nw a.0) a.1,
      );
    }

    pub reduction_and_machine_follow_each_other-reduction : FollowsBy Same Same (reduction_run M s)
        (run (machine_of M) s)
    reduction_and_machine_follow_each_other-reduction = record {
      back = λ m. let a = machine_comes m s in
          (a.0, backed_equal (reduction_run M s m) (run machine s a.0) (nw m) (sym a.1));
      forth = λ n. let a = machine_agrees n s in (
        n,
        sym a.shown,
        reached_by Same (reduction_run M s n) (run machine s n)
            (record { output = sym a.output; shown = sym a.shown }) (has_verdict_of n (run machine s n).ending refl),
      );
    }
