-- The procedures of a term keep within the account of its run in both modes, and so within the calculus's.
use Rattle.std.proofs.Common.{◌≡◌, inl, ℕ, zero, suc, ◌+◌, ◌≤◌, List, [], ◌∷◌, length, Option, Some, None}
use Rattle.std.proofs.Common.{refl, sym, ap, ◌∙◌, subst, arith}
use Rattle.run_laws.specs.Runs.{Run, Ending, NeverWrong}
use Rattle.run_laws.specs.Runs.{Through}
use Rattle.run_laws.specs.Accounts.{FollowsWithin}
use Rattle.run_laws.specs.Reductions.{Reduction, unless_ended, state_after, reduction_run}
use Rattle.run_laws.proofs.Public.{within_of, within_trans}
use Rattle.grift_base.specs.Types.{TypeRows}
use Rattle.grift_base.specs.declared.verdicts.Verdict.{Verdict}
use Rattle.type_graph.specs.TypeTables.{IsOrderedTable}
use Rattle.core_calc.specs.Redex.{where_some}
use Rattle.core_calc.specs.Account.{Measures, StepKind, Account}
use Rattle.core_calc.specs.Account.{measures_of, account}
use Rattle.core_calc.specs.Calculus.{Program}
use Rattle.core_calc.specs.Typing.{ProgramTermHasType}
use Rattle.coercion_norm.specs.Coercions.{Coercion}
use Rattle.coercion_norm.specs.MergedMode.{merging}
use Rattle.cast_modes.specs.Modes.{Mode, TypeCast, piling}
use Rattle.cast_modes.specs.RunValues.{RunUnit}
use Rattle.cast_modes.specs.ValueSteps.{CastFrame, OwnFrame, Own, Return}
use Rattle.cast_modes.specs.AnswerTypes.{Told}
use Rattle.cast_modes.specs.Counting.{uncounted}
use Rattle.coer_core.specs.Counts.{counting, run_in, told_of}
use Rattle.coer_core.specs.Machine.{CoerFrame, CoerFocus, ProjDynFrame, RunState, running, run_start}
use Rattle.coer_core.specs.MergedTally.{effort_at, effort_acts, merged_asks, merged_budget, by_effort, merged_tallying}
use Rattle.coer_core.specs.MergedTally.{merged_tally_in}
use Rattle.coer_core.specs.Tally.{Tally, Tallied, turn_kind, kind_acts, made_words, function_words, untallied, tallying}
use Rattle.coer_core.specs.Tally.{tally_in, reach, SpentBelow}
use Rattle.coer_core.specs.Terms.{RowTerm, core_of}
use Rattle.coer_core.proofs.Public.{piled_runs_follow_the_calculus-never_wrong, piled_runs_keep_the_account}
use Rattle.coer_core.proofs.Public.{merged_runs_follow_the_calculus-never_wrong, merged_runs_keep_the_account}
use Rattle.flat_ir.specs.Bodies.{Body}
use Rattle.flat_ir.specs.Machine.{FlatState, Inside, new_group, first_world, flat_state_at, flat_start, entry_body}
use Rattle.closure_convert.specs.Conversion.{nothing_known, made, converted, code}
use Rattle.flat_ir.specs.FlatTally.{FlatTally, FlatBelow, FlatPaidBelow, flat_tally_in, flat_untallied}
use Rattle.closure_convert.specs.KeptTallies.{KeepsTally}
use Rattle.coer_core.specs.TurnPrices.{kind_cost, piled_prices, merged_prices}
use Rattle.cast_modes.specs.Prices.{Cost, Prices}
use Rattle.closure_convert.specs.KeptTallies.{PaysTally}
use Rattle.closure_convert.proofs.Standing.{IsClosedTerm, entry_stands, start_on}
use Rattle.closure_convert.proofs.Moves.{coer_cost, atom_few, size_of}
use Rattle.closure_convert.proofs.Tallying.{Tallies, Related, keeps_tally}
use Rattle.closure_convert.proofs.Typed.{typed_closed}

-- ---- a run that adds up something has the endings of the run itself

module _ {C S A : Type 0} (mode : Mode C) (told : Told) (M : Reduction S A Verdict) (state : S → RunState C)
    (ending : (s : S) → M.ending s ≡ (running mode told).ending (state s))
    (step : (s : S) → state (M.step s) ≡ (running mode told).step (state s)) where
  same_step : (o q : Option (Ending Verdict)) → o ≡ q → (s : S)
      → state (unless_ended o M.step s) ≡ unless_ended q (running mode told).step (state s)
  same_step o (Some e) h s = ap (λ x. state (unless_ended x M.step s)) h
  same_step o None h s = ap (λ x. state (unless_ended x M.step s)) h ∙ step s

  same_state : (n : ℕ) (s : S) → state (state_after M s n) ≡ state_after (running mode told) (state s) n
  same_state zero s = refl
  same_state (suc n) s =
      same_state n (unless_ended (M.ending s) M.step s)
      ∙ ap (λ x. state_after (running mode told) x n)
      (same_step (M.ending s) ((running mode told).ending (state s)) (ending s) s)

  same_ending : (n : ℕ) (s : S)
      → (reduction_run M s n).ending ≡ (reduction_run (running mode told) (state s) n).ending
  same_ending n s = ending (state_after M s n) ∙ ap (running mode told).ending (same_state n s)

-- ---- what turns cost in both modes

piled_cost : {C : Type 0} (mode : Mode C) (m : Measures) (focus : CoerFocus C) (k : List (CoerFrame C))
    → kind_cost m (turn_kind mode focus k) (made_words focus k) (function_words focus)
    ≡ coer_cost mode (piled_prices mode m) focus k
piled_cost mode m (Return v) (CastFrame cast ∷ k) = refl
piled_cost mode m (Return v) (OwnFrame (ProjDynFrame i label) ∷ k) = refl
piled_cost mode m focus k = refl

pub piled_act : {C : Type 0} (mode : Mode C) (m : Measures) (kind : StepKind) (a b : ℕ)
    → ((piled_prices mode m).other (Some kind) a b).acts ≡ 1
piled_act mode m kind a b = refl

pub piled_tallies : {C : Type 0} (mode : Mode C) (m : Measures) (told : Told)
    → Tallies mode told (piled_prices mode m) (tallying mode m told)
piled_tallies mode m told = record {
  ending = λ s. refl;
  output = λ s. refl;
  state = λ s. refl;
  acts = λ s. ap (λ (c : Cost). s.acts + c.acts) (piled_cost mode m s.state.focus s.state.frames);
  words = λ s. ap (λ (c : Cost). s.words + c.asks) (piled_cost mode m s.state.focus s.state.frames);
  paid = λ s. ap (λ (c : Cost). s.paid + c.budget) (piled_cost mode m s.state.focus s.state.frames);
  shown_acts = λ s. refl;
  shown_words = λ s. refl;
  shown_asks =
      λ s. ap (λ (c : Cost). where_some s.state.ended 0 c.asks) (piled_cost mode m s.state.focus s.state.frames);
  shown_frames = λ s. refl;
  shown_paid = λ s. refl;
}

module _ (types : TypeRows) (mode : Mode Coercion) (m : Measures) where
  abbrev turn_cost : CoerFocus Coercion → List (CoerFrame Coercion) → Cost
  turn_cost focus k = record {
    acts = by_effort (effort_at types mode m focus k) effort_acts (kind_acts (turn_kind mode focus k));
    asks = merged_asks types mode m focus k;
    budget = merged_budget types mode m focus k;
  }

  merged_cost : (focus : CoerFocus Coercion) (k : List (CoerFrame Coercion))
      → turn_cost focus k ≡ coer_cost mode (merged_prices types mode m) focus k
  merged_cost (Return v) (CastFrame cast ∷ k) = refl
  merged_cost (Return v) (OwnFrame (ProjDynFrame i label) ∷ k) = refl
  merged_cost focus k = refl

  pub merged_act : (kind : StepKind) (a b : ℕ) → ((merged_prices types mode m).other (Some kind) a b).acts ≡ 1
  merged_act kind a b = refl

  pub merged_tallies : (told : Told)
      → Tallies mode told (merged_prices types mode m) (merged_tallying types mode m told)
  merged_tallies told = record {
    ending = λ s. refl;
    output = λ s. refl;
    state = λ s. refl;
    acts = λ s. ap (λ (c : Cost). s.acts + c.acts) (merged_cost s.state.focus s.state.frames);
    words = λ s. ap (λ (c : Cost). s.words + c.asks) (merged_cost s.state.focus s.state.frames);
    paid = λ s. ap (λ (c : Cost). s.paid + c.budget) (merged_cost s.state.focus s.state.frames);
    shown_acts = λ s. refl;
    shown_words = λ s. refl;
    shown_asks =
        λ s. ap (λ (c : Cost). where_some s.state.ended 0 c.asks) (merged_cost s.state.focus s.state.frames);
    shown_frames = λ s. refl;
    shown_paid = λ s. refl;
  }

-- ---- from the start

module _ {C : Type 0} (mode : Mode C) (told : Told) (term : RowTerm) (input : List ℕ) (prices : Prices StepKind C)
    (act : (kind : StepKind) (a b : ℕ) → (prices.other (Some kind) a b).acts ≡ 1)
    (M : Reduction (Tallied C) Tally Verdict) (tallies : Tallies mode told prices M) where
  start_of : Body → FlatState C
  start_of body =
      flat_state_at (converted term) told (Own (Inside body (λ level. RunUnit) (new_group 0 []))) [] []
      (first_world input)

  starts : IsClosedTerm term
      → Related (converted term) mode told prices act M tallies
      (size_of (converted term) mode told (run_start {C = C} term input)) (untallied (run_start term input))
      (flat_untallied (flat_start (converted term) told (made term) input))
  unfolding start_of
  starts closed =
      let few = atom_few term in
      record {
        state = run_start term input;
        is = refl;
        flat = start_of (code term nothing_known 0 0);
        flat_is = ap (λ o. start_of (entry_body o)) (entry_stands term);
        index = refl;
        pair = inl (record {
          ended = refl;
          other = refl;
          on = start_on mode term closed;
          cells = tt;
          world = refl;
        });
        words = omega arith;
        acts = omega arith;
        atoms = omega (arith, few);
        paid = omega arith;
      }

  -- the given run never goes wrong with its account either
  still_right : NeverWrong (run_in mode told term input)
      → NeverWrong (reduction_run M (untallied (run_start term input)))
  still_right never n e =
      never n (same_ending mode told (counting mode told) (λ s. s.state) (λ s. refl) (λ s. refl) n
      (uncounted (run_start term input))
      ∙ (sym (same_ending mode told M (λ s. s.state) tallies.ending tallies.state n (untallied (run_start term input)))
      ∙ e))

  pub converted_keeps : IsClosedTerm term → NeverWrong (run_in mode told term input)
      → FollowsWithin KeepsTally PaysTally (flat_tally_in (converted term) (made term) mode prices told input)
      (reduction_run M (untallied (run_start term input)))
  converted_keeps closed never =
      keeps_tally (converted term) mode told prices act M tallies
      (size_of (converted term) mode told (run_start {C = C} term input)) (untallied (run_start term input))
      (flat_untallied (flat_start (converted term) told (made term) input)) (starts closed) (still_right never)

module _ (casts : List TypeCast) (m : Measures) (told : Told) (term : RowTerm) (input : List ℕ)
    (closed : IsClosedTerm term) where
  pub piled_procedures_keep : NeverWrong (run_in (piling told.types casts) told term input)
      → FollowsWithin KeepsTally PaysTally
      (flat_tally_in (converted term) (made term) (piling told.types casts) (piled_prices (piling told.types casts) m)
      told input) (tally_in (piling told.types casts) m told term input)
  piled_procedures_keep never =
      let mode = piling told.types casts in
      converted_keeps mode told term input (piled_prices mode m) (piled_act mode m)
      (tallying mode m told) (piled_tallies mode m told) closed never

  pub merged_procedures_keep : NeverWrong (run_in (merging told.types casts) told term input)
      → FollowsWithin KeepsTally PaysTally
      (flat_tally_in (converted term) (made term) (merging told.types casts)
      (merged_prices told.types (merging told.types casts) m) told input)
      (merged_tally_in told.types (merging told.types casts) m told term input)
  merged_procedures_keep never =
      let mode = merging told.types casts in
      converted_keeps mode told term input (merged_prices told.types mode m) (merged_act told.types mode m)
      (merged_tallying told.types mode m told) (merged_tallies told.types mode m told) closed never

-- ---- against the calculus

weaken : {A B V : Type 0} {K K' L L' : A → B → Type 0} {X : Run A V} {Y : Run B V} → ((a : A) (b : B) → K a b → K' a b)
    → ((a : A) (b : B) → L a b → L' a b) → FollowsWithin K L X Y → FollowsWithin K' L' X Y
weaken {X = X} {Y = Y} k l f = record {
  back =
      λ m. let a = f.back m in (
        a.0,
        (
          record {
            output = a.1.0.output;
            shown = k (X m).shown (Y a.0).shown a.1.0.shown;
          },
          a.1.1,
        ),
      );
  forth = λ n. let a = f.forth n in (a.0, l (X a.0).shown (Y n).shown a.1, a.2);
}

-- what is at most a tally's storage is within what the tally's is within
storage_below : (more : ℕ) (a : FlatTally) (t : Tally) (b : Account) → KeepsTally a t
    → reach t ≤ b.words + b.charge → t.asks ≤ b.charge → t.frames ≤ b.depth + more → FlatBelow more a b
storage_below more a t b k reach_below asks_below frames_below =
    let reach = k.reach in
    let asks = k.asks in
    let frames = k.frames in
    record {
      reach = omega (arith, reach, reach_below);
      asks = omega (arith, asks, asks_below);
      frames = omega (arith, frames, frames_below);
    }

-- an atom for each act, and each act is a step of the calculus
paid_below : (a : FlatTally) (b : Account) → Through PaysTally SpentBelow a b → FlatPaidBelow a b
paid_below a b k =
    let pays = k.1 in let acts = k.2.acts in let paid = k.2.paid in omega (arith, pays, acts, paid)

module _ (casts : List TypeCast) (program : Program) (term : RowTerm) (input : List ℕ) (type : ℕ)
    (reads : program.term ≡ core_of casts term)
    (typed : ProgramTermHasType program.types (length program.labels) program.term type) where
  abbrev m : Measures
  m = measures_of program

  abbrev told : Told
  told = told_of program type

  closed : IsClosedTerm term
  closed =
      let typed1 = subst (λ x. ProgramTermHasType program.types (length program.labels) x type) reads typed in
      typed_closed casts program.types (length program.labels) term type typed1.3

  pub piled_procedures_keep_account : FollowsWithin (FlatBelow 1) FlatPaidBelow
      (flat_tally_in (converted term) (made term) (piling program.types casts)
      (piled_prices (piling program.types casts) m) told input) (account program input)
  piled_procedures_keep_account =
      weaken (λ a b k. storage_below 1 a k.0 b k.1 k.2.reach k.2.asks k.2.frames) paid_below (within_trans
      (piled_procedures_keep casts m told term input closed
      (piled_runs_follow_the_calculus-never_wrong casts program term input type reads typed))
      (within_of (piled_runs_keep_the_account casts program term input type reads typed)))

  pub merged_procedures_keep_account : IsOrderedTable program.types → FollowsWithin (FlatBelow 2) FlatPaidBelow
      (flat_tally_in (converted term) (made term) (merging program.types casts)
      (merged_prices program.types (merging program.types casts) m) told input) (account program input)
  merged_procedures_keep_account table =
      weaken (λ a b k. storage_below 2 a k.0 b k.1 k.2.reach k.2.asks k.2.frames) paid_below (within_trans
      (merged_procedures_keep casts m told term input closed
      (merged_runs_follow_the_calculus-never_wrong casts program term input type reads typed table))
      (merged_runs_keep_the_account casts program term input type reads typed table))
