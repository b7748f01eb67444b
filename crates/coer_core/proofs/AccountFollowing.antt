-- The run with environments and piled casts follows the calculus, within its account.
use Rattle.std.proofs.Common.{◌≡◌, ◌⊎◌, inl, inr, ℕ, zero, suc, ◌+◌, ◌*◌, ◌≤◌, List, [], ◌∷◌, length, Option}
use Rattle.std.proofs.Common.{Some, None, refl, sym, ap, ◌∙◌, subst, arith}
use Rattle.std.specs.Prelude.{option_map, max}
use Rattle.std.proofs.Math.Nat.{le-max_left, le-max_right}
use Rattle.run_laws.specs.Runs.{Ending, NeverWrong, FollowsBy}
use Rattle.run_laws.specs.Reductions.{Reduction, unless_ended, state_after, reduction_run}
use Rattle.grift_base.specs.World.{WorldState}
use Rattle.grift_base.specs.Types.{TypeRows}
use Rattle.grift_base.specs.declared.places.Pos.{Pos}
use Rattle.grift_base.specs.declared.verdicts.Verdict.{Verdict}
use Rattle.core_calc.specs.Redex.{where_some, pending_contexts}
use Rattle.core_calc.specs.Calculus.{CalcState, start}
use Rattle.core_calc.specs.Calculus.{ending_of, calculus}
use Rattle.core_calc.specs.Account.{Measures, wrap_charge, StepKind, Wraps, Casts, Makes}
use Rattle.core_calc.specs.Account.{kind_of_step, charge, more_work, Account, Accounted, first_account}
use Rattle.core_calc.specs.Account.{account_of, accounting}
use Rattle.cast_modes.specs.Modes.{TypeCast, piling}
use Rattle.cast_modes.specs.ValueSteps.{CastFrame, ProjFrame, PrimFrame, EnterFrame, OwnFrame, Own, Return, Entering}
use Rattle.cast_modes.specs.ValueSteps.{On}
use Rattle.cast_modes.specs.AnswerTypes.{Told}
use Rattle.coer_core.specs.Terms.{RowTerm, core_of, RowLambda, RowGroup}
use Rattle.coer_core.specs.Terms.{NoRowTerms}
use Rattle.coer_core.specs.Terms.{RowTermThen}
use Rattle.coer_core.specs.Machine.{Eval, turn, ending_at, after_turn, running}
use Rattle.coer_core.specs.Machine.{run_start, Calling, Tupling, Operating, IfFrame, SeqFrame, FunFrame, ProjDynFrame}
use Rattle.coer_core.specs.Machine.{GatherFrame, LetFrame}
use Rattle.coer_core.specs.Machine.{CoerFocus}
use Rattle.coer_core.specs.Counts.{eval_words}
use Rattle.coer_core.specs.Tally.{kind_asks, kind_budget, function_words, made_words, kind_acts, Tally}
use Rattle.coer_core.specs.Tally.{Tallied, untallied, kind_of_turn, asks_of_turn, budget_of_turn, tally_of}
use Rattle.coer_core.specs.Tally.{tallying, SpentBelow, Below}
use Rattle.coer_core.proofs.Relation.{size_of}
use Rattle.coer_core.proofs.Unload.{PiledStore, PiledFrame, PiledAfter, PiledState}
use Rattle.coer_core.proofs.Unload.{store_of}
use Rattle.coer_core.proofs.Moves.{IsOfKind}
use Rattle.coer_core.proofs.Following.{Keeps, R, Going, Ended, Quiet, Acting, Does, does, alike, next_related}
use Rattle.coer_core.proofs.Following.{begin_related}
use Rattle.coer_core.proofs.Room.{FitsIn, FitFocus, FitFrames, FitStore, FitAfter, fit_turn}
use Rattle.coer_core.proofs.Deepness.{frames_deep}
use Rattle.run_laws.proofs.Public.{OnItsOwn, Together, AtEnd, ShowingLockstep, showing_lockstep_follows}

-- ---- what a step of a kind may ask for, and its budget

none_some : {A : Type 0} (a : A) → None ≡ Some a → ⊥
none_some a e = cc

asks_within : (m : Measures) (w : Option StepKind) (kind : StepKind) (words : ℕ) → words ≤ 4 * m.size + 16
    → (w ≡ None ⊎ w ≡ Some kind) → kind_asks m w words ≤ charge m kind
asks_within m w kind words le (inl e) = subst (λ x. kind_asks m x words ≤ charge m kind) (sym e) (omega arith)
asks_within m w kind words le (inr e) =
    subst (λ x. kind_asks m x words ≤ charge m kind) (sym e) (same kind)
  where
    same : (kind : StepKind) → kind_asks m (Some kind) words ≤ charge m kind
    same Wraps = omega arith
    same Casts = omega arith
    same Makes = le
    same _ = omega arith

wraps_within : (z size : ℕ) → 896 + 64 * z + 128 ≤ 64 * (size + 16 + z)
wraps_within z size = omega arith

budget_within : (m : Measures) (w : Option StepKind) (kind : StepKind) (words : ℕ) → words ≤ m.size
    → (w ≡ None ⊎ w ≡ Some kind) → kind_budget m w words + 128 ≤ 64 * (m.size + 16 + more_work m kind)
budget_within m w kind words le (inl e) =
    subst (λ x. kind_budget m x words + 128 ≤ 64 * (m.size + 16 + more_work m kind)) (sym e) (omega arith)
budget_within m w kind words le (inr e) =
    subst (λ x. kind_budget m x words + 128 ≤ 64 * (m.size + 16 + more_work m kind)) (sym e) (same kind)
  where
    same : (kind : StepKind)
        → kind_budget m (Some kind) words + 128 ≤ 64 * (m.size + 16 + more_work m kind)
    same Wraps = wraps_within (wrap_charge m) m.size
    same Casts = omega arith
    same Makes = omega (arith, le)
    same _ = omega arith

-- ---- what is made where all terms fit

module _ (n : ℕ) where
  eval_fits : (term : RowTerm) → FitsIn n term → eval_words term ≤ n
  eval_fits (RowLambda parameters body type) f = f.0
  eval_fits (RowGroup members body) f = f.0
  eval_fits _ f = omega arith

  function_fits : (focus : CoerFocus TypeCast) → FitFocus n focus → function_words focus ≤ n
  function_fits (Own (Eval term env)) f = eval_fits term f.0
  function_fits (Return v) f = omega arith
  function_fits (Entering function done todo) f = omega arith

  made_fits : (focus : CoerFocus TypeCast) (k : List PiledFrame) → FitFocus n focus → FitFrames n k
      → made_words focus k ≤ n
  made_fits (Own (Eval term env)) k f g = eval_fits term f.0
  made_fits (Return v) [] f g = omega arith
  made_fits (Return v) (CastFrame cast ∷ k) f g = omega arith
  made_fits (Return v) (ProjFrame i ∷ k) f g = omega arith
  made_fits (Return v) (PrimFrame operator done ∷ k) f g = omega arith
  made_fits (Return v) (EnterFrame function done todo ∷ k) f g = omega arith
  made_fits (Return v) (OwnFrame (IfFrame on_true on_false env) ∷ k) f g = omega arith
  made_fits (Return v) (OwnFrame (SeqFrame term rest env) ∷ k) f g = omega arith
  made_fits (Return v) (OwnFrame (FunFrame arguments env) ∷ k) f g = omega arith
  made_fits (Return v) (OwnFrame (ProjDynFrame i label) ∷ k) f g = omega arith
  made_fits (Return v) (OwnFrame (LetFrame bound name todo body env) ∷ k) f g = omega arith
  made_fits (Return v) (OwnFrame (GatherFrame Tupling done NoRowTerms env) ∷ k) f g =
      let w = g.0.4 in omega (arith, w)
  made_fits (Return v) (OwnFrame (GatherFrame Tupling done (RowTermThen term rest) env) ∷ k) f g = omega arith
  made_fits (Return v) (OwnFrame (GatherFrame (Calling function) done NoRowTerms env) ∷ k) f g = omega arith
  made_fits (Return v) (OwnFrame (GatherFrame (Calling function) done (RowTermThen term rest) env) ∷ k) f g =
      omega arith
  made_fits (Return v) (OwnFrame (GatherFrame (Operating operator) done NoRowTerms env) ∷ k) f g = omega arith
  made_fits (Return v) (OwnFrame (GatherFrame (Operating operator) done (RowTermThen term rest) env) ∷ k) f g =
      omega arith
  made_fits (Entering function done todo) k f g = omega arith

  abbrev pub FitState : PiledState → Type 0
  FitState s = FitFocus n s.focus × FitFrames n s.frames × FitStore n s.store

  fit_after_turn : (s : PiledState) (after : PiledAfter) → FitState s → FitAfter n after → FitState (after_turn s after)
  fit_after_turn s (On focus frames store world) f g = g
  fit_after_turn s _ f g = f

module _ (types : TypeRows) (rows : List TypeCast) (labels : List Pos) (answer : ℕ) (Good : CalcState → Type 0)
    (keeps : Keeps types rows labels answer Good) (m : Measures) where
  abbrev told : Told
  told = record { labels = labels; types = types; answer = answer }

  abbrev M : Reduction CalcState CalcState Verdict
  M = calculus types labels

  abbrev N : Reduction PiledState PiledState Verdict
  N = running (piling types rows) told

  abbrev kind : PiledState → Option StepKind
  kind s = kind_of_turn (piling types rows) s

  -- what the two runs are to each other at a moment, and what they do next
  abbrev Both : CalcState → PiledState → Type 0
  Both c s = R types rows labels answer Good keeps c s

  abbrev Go : CalcState → PiledState → Type 0
  Go c s = Going types rows labels answer Good keeps c s

  abbrev Silent : CalcState → PiledState → Type 0
  Silent c s = Quiet types rows labels answer Good keeps c s

  abbrev Step : CalcState → PiledState → Type 0
  Step c s = Acting types rows labels answer Good keeps c s

  abbrev Turns : CalcState → PiledState → Type 0
  Turns c s = Does types rows labels answer Good keeps c s

  going_deep : (c : CalcState) (s : PiledState) → Go c s → length s.frames ≤ pending_contexts c + 1
  going_deep c s g =
      subst (λ (x : PiledState). length x.frames ≤ pending_contexts c + 1) (sym g.run_state)
      (subst (λ x. length g.frames ≤ pending_contexts x + 1) (sym g.calc_state)
      (frames_deep rows g.frames g.stands.0 g.whole (store_of rows g.store) g.world g.stands.2))

  -- ---- with the accounts

  abbrev PiledTally : Type 0
  PiledTally = Tallied TypeCast

  record Within (c : Accounted) (s : PiledTally) : Type 0 where
    both : Both c.state s.state
    fits : FitState m.size s.state
    acts : s.acts ≤ c.steps
    words : s.words ≤ c.words
    paid : s.paid + 128 * c.steps + 1024 ≤ 64 * c.work
    pending : pending_contexts c.state ≤ c.depth
    frames : length s.state.frames ≤ c.depth + 1

  abbrev MA : Reduction Accounted Account Verdict
  MA = accounting types m labels

  abbrev NA : Reduction PiledTally Tally Verdict
  NA = tallying (piling types rows) m told

  abbrev asks : PiledState → ℕ
  asks s = asks_of_turn (piling types rows) m s

  abbrev budget : PiledState → ℕ
  budget s = budget_of_turn (piling types rows) m s

  fits_on : (s : PiledState) → FitState m.size s → FitState m.size (N.step s)
  fits_on s f =
      fit_after_turn m.size s (turn (piling types rows) s.store s.world s.focus s.frames) f
      (fit_turn m.size (piling types rows) s.store s.world f.2 s.focus s.frames f.0 f.1)

  -- a turn that makes no step costs nothing
  quiet_asks : (s : PiledState) → kind s ≡ None → asks s ≡ 0
  quiet_asks s e = ap (λ x. kind_asks m x (made_words s.focus s.frames)) e

  quiet_budget : (s : PiledState) → kind s ≡ None → budget s ≡ 0
  quiet_budget s e = ap (λ x. kind_budget m x (function_words s.focus)) e

  quiet_acts : (s : PiledState) → kind s ≡ None → kind_acts (kind s) ≡ 0
  quiet_acts s e = ap kind_acts e

  -- a kind that a turn has, with the step's, or none
  told_kind : (store : PiledStore) (world : WorldState) (w : Option StepKind) (other : StepKind)
      → IsOfKind types rows store world w other → w ≡ None ⊎ w ≡ Some other
  told_kind store world None other e = inl refl
  told_kind store world (Some kind1) other e = inr (ap Some (sym e))

  acting_asks : (c : CalcState) (s : PiledState) → FitState m.size s → Step c s
      → asks s ≤ charge m (kind_of_step types c)
  acting_asks c s f a =
      let le = made_fits m.size s.focus s.frames f.0 f.1 in
      asks_within m (kind s) (kind_of_step types c) (made_words s.focus s.frames) (omega (arith, le))
      (told_kind s.store s.world (kind s) (kind_of_step types c) a.same)

  acting_budget : (c : CalcState) (s : PiledState) → FitState m.size s → Step c s
      → budget s + 128 ≤ 64 * (m.size + 16 + more_work m (kind_of_step types c))
  acting_budget c s f a =
      budget_within m (kind s) (kind_of_step types c) (function_words s.focus) (function_fits m.size s.focus f.0)
      (told_kind s.store s.world (kind s) (kind_of_step types c) a.same)

  one_act : (w : Option StepKind) → kind_acts w ≤ 1
  one_act None = omega arith
  one_act (Some kind1) = omega arith

  unended : {A : Type 0} (f : A → Ending Verdict) (o : Option A) → option_map f o ≡ None → o ≡ None
  unended f None e = refl
  unended f (Some a) e = absurd (none_some (f a) (sym e))

  ended_some : {A : Type 0} (f : A → Ending Verdict) (o : Option A) (x y : ℕ) (e : Ending Verdict)
      → option_map f o ≡ Some e → where_some o 0 x ≤ y
  ended_some f None x y e h = absurd (none_some e h)
  ended_some f (Some a) x y e h = omega arith

  at_most : {A : Type 0} (o : Option A) (x y : ℕ) → x ≤ y → where_some o 0 x ≤ y
  at_most None x y le = le
  at_most (Some a) x y le = omega arith

  asks_below : (c : Accounted) (s : PiledTally) → Within c s → Turns c.state s.state
      → (tally_of (piling types rows) m s).asks ≤ (account_of types m c).charge
  asks_below c s r (inl q) =
      let e = quiet_asks s.state q.none in
      at_most s.state.ended (asks s.state) (account_of types m c).charge (omega (arith, e))
  asks_below c s r (inr (inl a)) =
      let e = unended (ending_of labels) c.state.ended a.first in
      at_most s.state.ended (asks s.state) (account_of types m c).charge
      (subst (λ o. asks s.state ≤ where_some o 0 (charge m (kind_of_step types c.state))) (sym e)
      (acting_asks c.state s.state r.fits a))
  asks_below c s r (inr (inr o)) =
      ended_some (λ end. ending_at told end s.state.focus) s.state.ended (asks s.state)
      (account_of types m c).charge o.ending o.second

  below : (c : Accounted) (s : PiledTally) → Within c s
      → Below (tally_of (piling types rows) m s) (account_of types m c)
  below c s r =
      let le = asks_below c s r (does types rows labels answer Good keeps c.state s.state r.both) in
      let words = r.words in
      record { acts = r.acts; reach = omega (arith, le, words); asks = le; frames = r.frames; paid = r.paid }

  -- after a turn for which the calculus makes no step
  quiet_within : (c : Accounted) (s : PiledTally) → Within c s → Silent c.state s.state → Within c (NA.step s)
  quiet_within c s r q =
      let acts = r.acts in
      let words = r.words in
      let paid = r.paid in
      let pending = r.pending in
      let deep = going_deep c.state (N.step s.state) q.next in
      let no_acts = quiet_acts s.state q.none in
      let no_asks = quiet_asks s.state q.none in
      let no_budget = quiet_budget s.state q.none in
      record {
        both = inl q.next;
        fits = fits_on s.state r.fits;
        acts = omega (arith, acts, no_acts);
        words = omega (arith, words, no_asks);
        paid = omega (arith, paid, no_budget);
        pending = pending;
        frames = omega (arith, deep, pending);
      }

  frames_next : (c : Accounted) (s : PiledTally) → Within c s → Step c.state s.state
      → length (N.step s.state).frames ≤ max c.depth (pending_contexts (M.step c.state)) + 1
  frames_next c s r a = of a.next
    where
      left : c.depth ≤ max c.depth (pending_contexts (M.step c.state))
      left = le-max_left c.depth (pending_contexts (M.step c.state))

      right : pending_contexts (M.step c.state) ≤ max c.depth (pending_contexts (M.step c.state))
      right = le-max_right c.depth (pending_contexts (M.step c.state))

      of : Go (M.step c.state) (N.step s.state)
          ⊎ (Ended types rows labels answer Good keeps (M.step c.state) (N.step s.state) × ((N.step s.state).frames ≡
          s.state.frames))
          → length (N.step s.state).frames ≤ max c.depth (pending_contexts (M.step c.state)) + 1
      of (inl g) =
          let deep = going_deep (M.step c.state) (N.step s.state) g in let le = right in omega (arith, deep, le)
      of (inr e) =
          let same = ap length e.1 in let frames = r.frames in let le = left in omega (arith, same, frames, le)

  -- after a turn that makes a step
  acting_within : (c : Accounted) (s : PiledTally) → Within c s → Step c.state s.state
      → Within (MA.step c) (NA.step s)
  acting_within c s r a =
      let acts = r.acts in
      let words = r.words in
      let paid = r.paid in
      let act = one_act (kind s.state) in
      let ask = acting_asks c.state s.state r.fits a in
      let pay = acting_budget c.state s.state r.fits a in
      record {
        both = next_related types rows labels answer Good keeps c.state s.state a;
        fits = fits_on s.state r.fits;
        acts = omega (arith, acts, act);
        words = omega (arith, words, ask);
        paid = omega (arith, paid, pay);
        pending = le-max_right c.depth (pending_contexts (M.step c.state));
        frames = frames_next c s r a;
      }

  abbrev size : PiledTally → ℕ
  size s = size_of s.state.focus s.state.frames

  does_within : (c : Accounted) (s : PiledTally) → Within c s → Turns c.state s.state
      → OnItsOwn MA NA Below SpentBelow Within size c s
      ⊎ (Together MA NA Below SpentBelow Within size c s ⊎ AtEnd MA NA Below SpentBelow Within size c s)
  does_within c s r (inl q) =
      inl (record { running = q.running; next = quiet_within c s r q; less = q.less })
  does_within c s r (inr (inl a)) =
      inr (inl (record { first = a.first; second = a.second; next = acting_within c s r a }))
  does_within c s r (inr (inr o)) = inr (inr (record { ending = o.ending; first = o.first; second = o.second }))

  lockstep : ShowingLockstep MA NA Below SpentBelow Within size
  lockstep = record {
    alike = λ c s r. alike types rows labels answer Good keeps c.state s.state r.both;
    shown = λ c s r. below c s r;
    allowed = λ c s r. record { acts = r.acts; paid = r.paid };
    does = λ c s r. does_within c s r (does types rows labels answer Good keeps c.state s.state r.both);
    still_allowed = λ b c e a. let acts = a.acts in let paid = a.paid in
        record { acts = omega (arith, acts); paid = omega (arith, paid) };
  }

  -- ---- the run of the calculus is the same with its account

  plain_step : (o : Option (Ending Verdict)) (c : Accounted)
      → (unless_ended o MA.step c).state ≡ unless_ended o M.step c.state
  plain_step (Some e) c = refl
  plain_step None c = refl

  plain_after : (n : ℕ) (c : Accounted) → (state_after MA c n).state ≡ state_after M c.state n
  plain_after zero c = refl
  plain_after (suc n) c =
      let o : Option (Ending Verdict) = M.ending c.state in
      plain_after n (unless_ended o MA.step c) ∙ ap (λ t. state_after M t n) (plain_step o c)

  accounts_never_wrong : (c : Accounted) → NeverWrong (reduction_run M c.state) → NeverWrong (reduction_run MA c)
  accounts_never_wrong c nw n e = nw n (ap M.ending (sym (plain_after n c)) ∙ e)

  pub piled_account : (term : RowTerm) (input : List ℕ) → Good (start (core_of rows term) input)
      → FitsIn m.size term → NeverWrong (reduction_run M (start (core_of rows term) input))
      → FollowsBy Below SpentBelow (reduction_run NA (untallied (run_start term input)))
      (reduction_run MA (first_account types m (start (core_of rows term) input)))
  piled_account term input fine fits nw =
      let world : WorldState = record { output = []; input = input; place = 0 } in
      let c : Accounted = first_account types m (start (core_of rows term) input) in
      showing_lockstep_follows MA NA Below SpentBelow Within size lockstep c (untallied (run_start term input))
      (record {
        both = begin_related types rows labels answer Good keeps term input fine;
        fits = ((fits, tt), tt, tt);
        acts = omega arith;
        words = omega arith;
        paid = omega arith;
        pending = omega arith;
        frames = omega arith;
      }) (accounts_never_wrong c nw)
