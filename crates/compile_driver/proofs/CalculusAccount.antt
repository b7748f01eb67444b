-- The run of an account is that of the calculus, and what one step adds to an account.
use Rattle.std.proofs.Common.{
  ◌≡◌,
  ℕ,
  zero,
  suc,
  ◌+◌,
  ◌<◌,
  ◌≤◌,
  List,
  Option,
  Some,
  None,
  refl,
  sym,
  ap,
  ◌∙◌,
  subst,
  arith,
}
use Rattle.std.specs.Prelude.{option_map}
use Rattle.grift_base.specs.Types.{TypeRows}
use Rattle.grift_base.specs.declared.places.Pos.{Pos}
use Rattle.grift_base.specs.declared.verdicts.Verdict.{Verdict}
use Rattle.run_laws.specs.Runs.{Ending}
use Rattle.run_laws.specs.Reductions.{Reduction, state_after, unless_ended}
use Rattle.core_calc.specs.Account.{
  Account,
  Accounted,
  Measures,
  accounting,
  account,
  account_of,
  charge,
  first_account,
}
use Rattle.core_calc.specs.Account.{kind_of_step, measures_of}
use Rattle.core_calc.specs.Calculus.{CalcEnd, CalcState, Program, calculus, calc, start, ending_of}
use Rattle.core_calc.specs.Redex.{where_some}

-- the last step
pub last_step : {S A V : Type 0} (M : Reduction S A V) (n : ℕ) (s : S)
    → state_after M s (suc n) ≡ unless_ended (M.ending (state_after M s n)) M.step (state_after M s n)
last_step M zero s = refl
last_step M (suc n) s = last_step M n (unless_ended (M.ending s) M.step s)

module _ (types : TypeRows) (m : Measures) (labels : List Pos) where
  abbrev A : Reduction Accounted Account Verdict
  A = accounting types m labels

  abbrev M : Reduction CalcState CalcState Verdict
  M = calculus types labels

  next_same : (o : Option (Ending Verdict)) (s : Accounted)
      → (unless_ended o A.step s).state ≡ unless_ended o M.step s.state
  next_same None s = refl
  next_same (Some e) s = refl

  state_same : (n : ℕ) (s : Accounted) → (state_after A s n).state ≡ state_after M s.state n
  state_same zero s = refl
  state_same (suc n) s =
      state_same n (unless_ended (A.ending s) A.step s)
      ∙ ap (λ t. state_after M t n) (next_same (M.ending s.state) s)

  charged : (s : Accounted) (o : Option (Ending Verdict)) → o ≡ None → M.ending s.state ≡ None
      → (account_of types m (unless_ended o A.step s)).words
      ≡ (account_of types m s).words + (account_of types m s).charge
  charged s None none live = by s.state.ended refl
    where
      by : (e : Option CalcEnd) → s.state.ended ≡ e
          → s.words + charge m (kind_of_step types s.state)
          ≡ s.words + where_some s.state.ended 0 (charge m (kind_of_step types s.state))
      by None e = rw e refl
      by (Some x) e = absurd (ended (subst (λ o. option_map (ending_of labels) o ≡ None) e live))
        where
          ended : {X : Type 0} {y : X} → ◌≡◌ {A = Option X} (Some y) None → ⊥
          ended h = cc
  charged s (Some e) none live = absurd (ended none)
    where
      ended : {X : Type 0} {y : X} → ◌≡◌ {A = Option X} (Some y) None → ⊥
      ended h = cc

  deeper : (s : Accounted) (o : Option (Ending Verdict)) → s.depth ≤ (unless_ended o A.step s).depth
  deeper s None = omega arith
  deeper s (Some e) = omega arith

module _ (program : Program) (input : List ℕ) where
  abbrev begin : Accounted
  begin = first_account program.types (measures_of program) (start program.term input)

  abbrev at : ℕ → Accounted
  at n = state_after (accounting program.types (measures_of program) program.labels) begin n

  pub record OneStep (n : ℕ) : Type 0 where
    pub output : (account program input n).output ≡ (calc program input n).output
    pub ending : (account program input n).ending ≡ (calc program input n).ending
    pub words : (calc program input n).ending ≡ None → (account program input (suc n)).shown.words
        ≡ (account program input n).shown.words + (account program input n).shown.charge
    pub depth : (account program input n).shown.depth ≤ (account program input (suc n)).shown.depth

  -- of the calculus: what it has printed, and whether it has ended; and what the next step adds
  pub one_step : (n : ℕ) → OneStep n
  one_step n =
      let types = program.types in
      let m = measures_of program in
      let labels = program.labels in
      let M = calculus types labels in
      let A = accounting types m labels in
      let same = state_same types m labels n begin in
      let last = last_step A n begin in
      record {
        output = ap M.output same;
        ending = ap M.ending same;
        words = λ e. let live = ap M.ending same ∙ e in
            ap (λ s. (account_of types m s).words) last
            ∙ charged types m labels (at n) (M.ending (at n).state) live live;
        depth = subst (λ s. (at n).depth ≤ s.depth) (sym last) (deeper types m labels (at n) (M.ending (at n).state));
      }

  -- where the next step may ask for something, there is one
  pub live : (n : ℕ) → 0 < (account program input n).shown.charge → (calc program input n).ending ≡ None
  live n some = sym (one_step n).ending ∙ by (at n).state.ended refl
    where
      by : (e : Option CalcEnd) → (at n).state.ended ≡ e
          → ◌≡◌ {A = Option (Ending Verdict)} (option_map (ending_of program.labels) (at n).state.ended) None
      by None e = ap (option_map (ending_of program.labels)) e
      by (Some x) e =
          absurd (
          let nothing : where_some (at n).state.ended 0 (charge (measures_of program)
          (kind_of_step program.types (at n).state)) ≡ 0
          = ap (λ o. where_some o 0 (charge (measures_of program) (kind_of_step program.types (at n).state))) e in
          omega (arith, some, nothing))
