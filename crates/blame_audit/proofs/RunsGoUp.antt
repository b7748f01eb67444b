-- Along a run every cast of a safe label goes up, and the label is never blamed.
use Rattle.std.proofs.Common.{◌≡◌, ◌≢◌, ℕ, List, Option, Some, None}
use Rattle.std.specs.Prelude.{option_map}
use Rattle.run_laws.proofs.Public.{state_after_keeps}
use Rattle.grift_base.specs.Types.{TypeRows}
use Rattle.core_calc.specs.Terms.{Term, Terms, Members, Bindings, Value, IntLit, BoolLit, UnitLit, Var, Lambda, Group}
use Rattle.core_calc.specs.Terms.{Let, Call, Enter, If, Seq, Cast, Proj, ProjDyn, Tuple, Prim, ValueTerm, NoTerms}
use Rattle.core_calc.specs.Terms.{TermThen, NoMembers, MemberThen, NoBindings, BindingThen, as_value}
use Rattle.core_calc.specs.Outcome.{Outcome, Goes, Blames, Traps, Stuck}
use Rattle.core_calc.specs.Step.{step}
use Rattle.core_calc.specs.Calculus.{shown_value, CalcEnd, Answered, Blamed, Trapped, NoStep, CalcState, start}
use Rattle.core_calc.specs.Calculus.{state_after_step, Program, calculus, calc}
use Rattle.cast_rules.specs.Making.{Entry, CastFrom, PartOf}
use Rattle.cast_rules.specs.Listed.{IsListed, AreListed, AreListedMembers, AreListedBindings}
use Rattle.blame_audit.specs.SafeLabels.{IsSafe}
use Rattle.blame_audit.specs.CastsGoUp.{TermGoesUp, TermsGoUp, MembersGoUp, BindingsGoUp, NotBlamed}
use Rattle.blame_audit.specs.CastsGoUp.{StateGoesUp}
use Rattle.blame_audit.specs.Claims.{NeverBlames, CastsStayUp}
use Rattle.blame_audit.proofs.StepsGoUp.{Keeps, keeps_step}

-- ---- from the list of casts to the term

module _ (types : TypeRows) (entries : List Entry) (p : ℕ) (safe : IsSafe types entries p) where
  mutual
    pub listed_goes_up : (term : Term) → IsListed entries term → TermGoesUp types p term
    listed_goes_up (IntLit n) h = tt
    listed_goes_up (BoolLit b) h = tt
    listed_goes_up UnitLit h = tt
    listed_goes_up (Var name) h = tt
    listed_goes_up (Lambda parameters body type) h = listed_goes_up body h
    listed_goes_up (Group members body) h = (listed_members_go_up members h.0, listed_goes_up body h.1)
    listed_goes_up (Let bindings body) h = (listed_bindings_go_up bindings h.0, listed_goes_up body h.1)
    listed_goes_up (Call function arguments) h = (listed_goes_up function h.0, listed_go_up arguments h.1)
    listed_goes_up (Enter function arguments) h = absurd h
    listed_goes_up (If condition on_true on_false) h =
        (listed_goes_up condition h.0, listed_goes_up on_true h.1, listed_goes_up on_false h.2)
    listed_goes_up (Seq terms) h = listed_go_up terms h
    listed_goes_up (Cast term from to label) h =
        (listed_goes_up term h.0, safe h.1.0 (CastFrom label from to h.1.1) h.1.2)
    listed_goes_up (Proj term k) h = listed_goes_up term h
    listed_goes_up (ProjDyn term k label) h = (listed_goes_up term h.0, safe h.1.0 (PartOf label k) h.1.1)
    listed_goes_up (Tuple parts) h = listed_go_up parts h
    listed_goes_up (Prim operator operands) h = listed_go_up operands h
    listed_goes_up (ValueTerm v) h = absurd h

    listed_go_up : (terms : Terms) → AreListed entries terms → TermsGoUp types p terms
    listed_go_up NoTerms h = tt
    listed_go_up (TermThen term rest) h = (listed_goes_up term h.0, listed_go_up rest h.1)

    listed_members_go_up : (members : Members) → AreListedMembers entries members → MembersGoUp types p members
    listed_members_go_up NoMembers h = tt
    listed_members_go_up (MemberThen name parameters body type rest) h =
        (listed_goes_up body h.0, listed_members_go_up rest h.1)

    listed_bindings_go_up : (bindings : Bindings) → AreListedBindings entries bindings →
        BindingsGoUp types p bindings
    listed_bindings_go_up NoBindings h = tt
    listed_bindings_go_up (BindingThen name bound rest) h =
        (listed_goes_up bound h.0, listed_bindings_go_up rest h.1)

-- ---- states

module _ (types : TypeRows) (p : ℕ) where
  answer_not_blamed : (option : Option Value) → NotBlamed types p (option_map (λ v. Answered (shown_value v)) option)
  answer_not_blamed (Some v) = tt
  answer_not_blamed None = tt

  state_goes_up : (state : CalcState) (outcome : Outcome Term) → StateGoesUp types p state →
      Keeps types p (λ term. TermGoesUp types p term) outcome → StateGoesUp types p (state_after_step state outcome)
  state_goes_up state (Goes term store world) h keeps = (keeps.0, keeps.1, answer_not_blamed (as_value term))
  state_goes_up state (Blames label) h keeps = (h.0, h.1, keeps)
  state_goes_up state (Traps trap world) h keeps = (h.0, h.1, tt)
  state_goes_up state Stuck h keeps = (h.0, h.1, tt)

  -- one step
  pub step_goes_up : (state : CalcState) → StateGoesUp types p state →
      StateGoesUp types p (state_after_step state (step types state.store state.world state.term))
  step_goes_up state h =
      state_goes_up state (step types state.store state.world state.term) h
      (keeps_step types p state.store state.world h.1 state.term h.0)

  pub not_blamed : (ended : Option CalcEnd) → NotBlamed types p ended → ended ≢ Some (Blamed p)
  not_blamed None h e = cc
  not_blamed (Some (Answered shown)) h e = cc
  not_blamed (Some (Blamed label)) h e = h (same_label label p e)
    where
      same_label : (a b : ℕ) → ◌≡◌ {A = Option CalcEnd} (Some (Blamed a)) (Some (Blamed b)) → a ≡ b
      same_label a b e = cc
  not_blamed (Some (Trapped trap)) h e = cc
  not_blamed (Some NoStep) h e = cc

-- where every cast of the label in the program goes up, it does in every state of its runs
pub casts_stay_up : (program : Program) (p : ℕ) → TermGoesUp program.types p program.term → CastsStayUp program p
casts_stay_up program p up input n =
    state_after_keeps (calculus program.types program.labels) (λ state. StateGoesUp program.types p state)
    (λ state h running. step_goes_up program.types p state h) n (start program.term input)
    (up, tt, answer_not_blamed program.types p (as_value program.term))

pub safe_labels_stay_up : (program : Program) (entries : List Entry) (p : ℕ) → IsListed entries program.term →
    IsSafe program.types entries p → CastsStayUp program p
safe_labels_stay_up program entries p listed safe =
    casts_stay_up program p (listed_goes_up program.types entries p safe program.term listed)

pub safe_labels_are_never_blamed : (program : Program) (entries : List Entry) (p : ℕ) →
    IsListed entries program.term → IsSafe program.types entries p → NeverBlames program p
safe_labels_are_never_blamed program entries p listed safe input n =
    not_blamed program.types p (calc program input n).shown.ended
    (safe_labels_stay_up program entries p listed safe input n).2
