-- Related states of two runs with prices, and the rounds by which the second keeps within the first.
use Rattle.std.proofs.Common.{◌≡◌, inl, inr, ℕ, zero, suc, ◌+◌, ◌*◌, ◌≤◌, List, ◌∷◌, length, Option, Some, None}
use Rattle.std.proofs.Common.{refl, sym, ap, ◌∙◌, subst, arith}
use Rattle.std.specs.Prelude.{option_map}
use Rattle.run_laws.specs.Runs.{Ending, Wrong}
use Rattle.run_laws.specs.Reductions.{Reduction, reduction_run, moment_at, unless_ended}
use Rattle.run_laws.proofs.Public.{Along, goes_within_after, goes_within_later}
use Rattle.grift_base.specs.World.{WorldState}
use Rattle.grift_base.specs.declared.verdicts.Verdict.{Verdict}
use Rattle.core_calc.specs.Redex.{where_some}
use Rattle.core_calc.specs.Account.{Measures}
use Rattle.core_calc.specs.Calculus.{CalcEnd, Blamed, Trapped, ending_of}
use Rattle.cast_modes.specs.Modes.{Mode}
use Rattle.cast_modes.specs.ValueSteps.{CastFrame, Return, On, BlameOf, TrapOf, NoNext}
use Rattle.cast_modes.specs.AnswerTypes.{Told}
use Rattle.coer_core.specs.Machine.{CoerStore, CoerFocus, CoerFrame, CoerAfter, turn, RunState, ended_at}
use Rattle.coer_core.specs.Machine.{state_at, after_turn, ending_at, running}
use Rattle.coer_core.specs.Tally.{turn_kind, kind_asks, kind_acts, kind_budget, function_words, made_words}
use Rattle.coer_core.specs.Tolls.{Price, kind_price}
use Rattle.coer_core.proofs.Merging.{Likeness, Stores, Frames, Foci}
use Rattle.coer_core.proofs.MergeSteps.{Same}
use Rattle.coer_core.proofs.Priced.{ByCast, Priced, priced, Prices, NoMore, PaysNoMore, asks_of, acts_of, budget_of}
use Rattle.coer_core.proofs.Priced.{pricing}
use Rattle.coer_core.proofs.Priced.{state_priced, Goes, Met, Seen}

-- a turn that doesn't go wrong
abbrev pub Proceeds : {C : Type 0} → CoerAfter C → Type 0
Proceeds NoNext = ⊥
Proceeds _ = Unit {0}

-- no cast is next
abbrev pub NoCastNext : {D : Type 0} → CoerFocus D → List (CoerFrame D) → Type 0
NoCastNext (Return u) (CastFrame d ∷ k) = ⊥
NoCastNext _ k = Unit {0}

-- what both runs are told, the measures by which the turns of the first are reckoned, by their kinds, and the prices of
-- the second: of a cast they go by the value and the cast, and of another turn they are no more than by its kind
pub record Setting {D : Type 0} (n : Mode D) : Type 0 where
  pub told : Told
  pub measures : Measures
  pub price : Price D
  pub asks_by_kind : (f : CoerFocus D) (k : List (CoerFrame D)) → NoCastNext f k
      → price.asks f k ≤ kind_asks measures (turn_kind n f k) (made_words f k)
  pub acts_by_kind : (f : CoerFocus D) (k : List (CoerFrame D)) → NoCastNext f k
      → price.acts f k ≤ kind_acts (turn_kind n f k)
  pub budget_by_kind : (f : CoerFocus D) (k : List (CoerFrame D)) → NoCastNext f k
      → price.budget f k ≤ kind_budget measures (turn_kind n f k) (function_words f)
  pub by_cast : ByCast price

pub where_none : {A : Type 0} (o : Option A) (a : ℕ) → o ≡ None → where_some o 0 a ≡ a
where_none None a e = refl
where_none (Some x) a e = absurd (cc e)

pub where_zero : {A : Type 0} (o : Option A) (a : ℕ) → a ≡ 0 → where_some o 0 a ≡ 0
where_zero None a e = e
where_zero (Some x) a e = refl

module _ {C D : Type 0} (like : Likeness C D) (m : Mode C) (n : Mode D) (set : Setting n) where
  abbrev pub price0 : Price C
  price0 = kind_price m set.measures

  abbrev pub M : Reduction (Priced C) Prices Verdict
  M = pricing m set.told price0

  abbrev pub N : Reduction (Priced D) Prices Verdict
  N = pricing n set.told set.price

  -- both states are running and related; the second has asked for no more and paid no more
  pub record Stand (s : Priced C) (t : Priced D) : Type 0 where
    pub focus : CoerFocus C
    pub frames : List (CoerFrame C)
    pub store : CoerStore C
    pub world : WorldState
    pub focus1 : CoerFocus D
    pub frames1 : List (CoerFrame D)
    pub store1 : CoerStore D
    pub first : s.state ≡ state_at focus frames store world
    pub second : t.state ≡ state_at focus1 frames1 store1 world
    pub foci : Foci like focus focus1
    pub all_frames : Frames like frames frames1
    pub stores : Stores like store store1
    pub words : t.words ≤ s.words
    pub acts : t.acts ≤ s.acts
    pub paid : t.paid ≤ s.paid

  abbrev pub R : ℕ → Priced C → Priced D → Type 0
  R i s t = Stand s t

  -- a round from these states, wherever the second has asked for no more, and made and paid fewer acts by this
  abbrev pub GoesFrom : ℕ → ℕ → RunState C → RunState D → Type 0
  GoesFrom i spare s t =
      (w a p w1 a1 p1 : ℕ) → w1 ≤ w → a1 + spare ≤ a → p1 + 896 * spare ≤ p
      → Goes M N NoMore PaysNoMore R i (priced w a p s) (priced w1 a1 p1 t)

  abbrev pub GoesAt : ℕ → CoerFocus C → List (CoerFrame C) → CoerStore C → WorldState → CoerFocus D → List (CoerFrame D)
      → CoerStore D → Type 0
  GoesAt i focus frames store world focus1 frames1 store1 =
      GoesFrom i 0 (state_at focus frames store world) (state_at focus1 frames1 store1 world)

  -- more to spare does no harm
  pub with_more : (i spare more : ℕ) (s : RunState C) (t : RunState D) → spare ≤ more → GoesFrom i spare s t
      → GoesFrom i more s t
  with_more i spare more s t le go = λ w a p w1 a1 p1 lw la lp.
      go w a p w1 a1 p1 lw (omega (arith, le, la)) (omega (arith, le, lp))

  -- the first makes a turn, and has the acts that it makes to spare
  pub first_one : (i spare least : ℕ) (s : RunState C) (t : RunState D) → (running m set.told).ending s ≡ None
      → s.world.output ≡ t.world.output → least ≤ acts_of m set.told price0 s
      → 896 * least ≤ budget_of m set.told price0 s
      → GoesFrom i (spare + least) ((running m set.told).step s) t → GoesFrom i spare s t
  first_one i spare least s t e o made le go = λ w a p w1 a1 p1 lw la lp.
      goes_within_after M N NoMore PaysNoMore R i 1 (priced w a p s) (M.step (priced w a p s)) (priced w1 a1 p1 t) (
        e,
        record { at = 0; output = sym o; allowed = record { acts = omega (arith, la); paid = omega (arith, lp) } },
        refl,
      )
      (go (w + asks_of m set.told price0 s) (a + acts_of m set.told price0 s) (p + budget_of m set.told price0 s) w1 a1
      p1 (omega (arith, lw)) (omega (arith, la, made)) (omega (arith, lp, le)))

  pub first_along : (i spare j : ℕ) (s s1 : RunState C) (t : RunState D)
      → Along (running m set.told) (λ x. x.world.output ≡ t.world.output) j s s1 → GoesFrom i spare s1 t
      → GoesFrom i spare s t
  first_along i spare zero s s1 t a go = subst (λ x. GoesFrom i spare x t) (sym a) go
  first_along i spare (suc j) s s1 t a go =
      let next : RunState C = (running m set.told).step s in
      first_one i spare 0 s t a.0 a.1 (omega arith) (omega arith)
      (with_more i spare (spare + 0) next t (omega arith) (first_along i spare j next s1 t a.2 go))

  -- the second makes a turn that asks for nothing, and the acts that are to spare
  pub second_one : (i spare most : ℕ) (s : RunState C) (t : RunState D) → (running n set.told).ending t ≡ None
      → t.world.output ≡ s.world.output → asks_of n set.told set.price t ≤ 0
      → acts_of n set.told set.price t ≤ most → budget_of n set.told set.price t ≤ 896 * most
      → length t.frames ≤ suc (length s.frames) → GoesFrom i spare s ((running n set.told).step t)
      → GoesFrom i (spare + most) s t
  second_one i spare most s t e o none made le long go = λ w a p w1 a1 p1 lw la lp.
      let nothing = where_zero t.ended (asks_of n set.told set.price t) (omega (arith, none)) in
      goes_within_later M N NoMore PaysNoMore R i 1 (priced w a p s) (priced w1 a1 p1 t) (N.step (priced w1 a1 p1 t)) (
        e,
        record {
          at = 0;
          output = o;
          shown =
              record {
                reach = omega (arith, nothing, lw);
                asks = omega (arith, nothing);
                frames = omega (arith, long);
              };
        },
        refl,
      )
      (go w a p (w1 + asks_of n set.told set.price t) (a1 + acts_of n set.told set.price t)
      (p1 + budget_of n set.told set.price t) (omega (arith, lw, none)) (omega (arith, la, made))
      (omega (arith, lp, le)))

  pub goes_wrong : (i spare k : ℕ) (s : RunState C) (t : RunState D)
      → (reduction_run (running m set.told) s k).ending ≡ Some Wrong → GoesFrom i spare s t
  goes_wrong i spare k s t e = λ w a p w1 a1 p1 lw la lp.
      inr (inr (inl (record {
        steps = k;
        wrong =
            ap (λ (x : RunState C). (running m set.told).ending x) (state_priced m set.told price0 k (priced w a p s))
            ∙ e;
      })))

  -- ---- a turn of both

  -- two turns of one kind, which make as many words; of the second no more frames wait, but for one
  pub record SameKind (focus : CoerFocus C) (frames : List (CoerFrame C)) (focus1 : CoerFocus D)
      (frames1 : List (CoerFrame D)) : Type 0 where
    pub kinds : turn_kind n focus1 frames1 ≡ turn_kind m focus frames
    pub words : made_words focus1 frames1 ≡ made_words focus frames
    pub functions : function_words focus1 ≡ function_words focus
    pub no_cast : NoCastNext focus1 frames1
    pub long : length frames1 ≤ suc (length frames)

  no_end : (f : CalcEnd → Ending Verdict) (o : Option CalcEnd) → o ≡ None → option_map f o ≡ None
  no_end f o e = ap (option_map f) e

  module _ (i : ℕ) (focus : CoerFocus C) (frames : List (CoerFrame C)) (store : CoerStore C) (world : WorldState)
      (focus1 : CoerFocus D) (frames1 : List (CoerFrame D)) (store1 : CoerStore D)
      (first : ended_at focus frames ≡ None) (second : ended_at focus1 frames1 ≡ None)
      (kind_of : Proceeds (turn m store world focus frames) → SameKind focus frames focus1 frames1) where
    abbrev s : RunState C
    s = state_at focus frames store world

    abbrev t : RunState D
    t = state_at focus1 frames1 store1 world

    abbrev asks0 : ℕ
    asks0 = asks_of m set.told price0 s

    abbrev asks1 : ℕ
    asks1 = asks_of n set.told set.price t

    abbrev acts0 : ℕ
    acts0 = acts_of m set.told price0 s

    abbrev acts1 : ℕ
    acts1 = acts_of n set.told set.price t

    abbrev budget0 : ℕ
    budget0 = budget_of m set.told price0 s

    abbrev budget1 : ℕ
    budget1 = budget_of n set.told set.price t

    asks_less : SameKind focus frames focus1 frames1 → asks1 ≤ asks0
    asks_less kind =
        subst (λ w. asks1 ≤ kind_asks set.measures (turn_kind m focus frames) w) kind.words
        (subst (λ k. asks1 ≤ kind_asks set.measures k (made_words focus1 frames1)) kind.kinds
        (set.asks_by_kind focus1 frames1 kind.no_cast))

    acts_less : SameKind focus frames focus1 frames1 → acts1 ≤ acts0
    acts_less kind =
        subst (λ k. acts1 ≤ kind_acts k) kind.kinds (set.acts_by_kind focus1 frames1 kind.no_cast)

    budget_less : SameKind focus frames focus1 frames1 → budget1 ≤ budget0
    budget_less kind =
        subst (λ w. budget1 ≤ kind_budget set.measures (turn_kind m focus frames) w) kind.functions
        (subst (λ k. budget1 ≤ kind_budget set.measures k (function_words focus1)) kind.kinds
        (set.budget_by_kind focus1 frames1 kind.no_cast))

    module _ (w a p w1 a1 p1 : ℕ) (lw : w1 ≤ w) (la : a1 + 0 ≤ a) (lp : p1 + 896 * 0 ≤ p) where
      -- at first
      start : SameKind focus frames focus1 frames1 → NoMore (N.shown (priced w1 a1 p1 t)) (M.shown (priced w a p s))
      start kind =
          let x = where_none (ended_at focus frames) asks0 first in
          let y = where_none (ended_at focus1 frames1) asks1 second in
          let le = asks_less kind in
          let long = kind.long in
          record {
            reach = omega (arith, x, y, le, lw);
            asks = omega (arith, x, y, le);
            frames = omega (arith, long);
          }

      -- what each comes to
      abbrev next0 : CoerAfter C → Priced C
      next0 after = priced (w + asks0) (a + acts0) (p + budget0) (after_turn s after)

      abbrev next1 : CoerAfter D → Priced D
      next1 after = priced (w1 + asks1) (a1 + acts1) (p1 + budget1) (after_turn t after)

      first_turn : (after : CoerAfter C) → turn m store world focus frames ≡ after
          → Along M (Met M N NoMore PaysNoMore R (priced w1 a1 p1 t)) 1 (priced w a p s) (next0 after)
      first_turn after e = (
        no_end (λ end. ending_at set.told end focus) (ended_at focus frames) first,
        record { at = 0; output = refl; allowed = record { acts = omega (arith, la); paid = omega (arith, lp) } },
        ap next0 e,
      )

      second_turn : (after : CoerAfter D) → turn n store1 world focus1 frames1 ≡ after
          → SameKind focus frames focus1 frames1
          → Along N (Seen M N NoMore PaysNoMore R (priced w a p s)) 1 (priced w1 a1 p1 t) (next1 after)
      second_turn after e kind = (
        no_end (λ end. ending_at set.told end focus1) (ended_at focus1 frames1) second,
        record { at = 0; output = refl; shown = start kind },
        ap next1 e,
      )

      -- a turn by which both end in the same way
      last_turn : (after : CoerAfter C) (after1 : CoerAfter D) (e : Ending Verdict)
          → turn m store world focus frames ≡ after → turn n store1 world focus1 frames1 ≡ after1
          → SameKind focus frames focus1 frames1 → M.ending (next0 after) ≡ Some e → N.ending (next1 after1) ≡ Some e
          → N.output (next1 after1) ≡ M.output (next0 after)
          → NoMore (N.shown (next1 after1)) (M.shown (next0 after))
          → Goes M N NoMore PaysNoMore R i (priced w a p s) (priced w1 a1 p1 t)
      last_turn after after1 e ea eb kind end0 end1 same shown =
          let lb = budget_less kind in
          let lc = acts_less kind in
          inr (inl (record {
            ways = record {
              first_steps = 1;
              second_steps = 1;
              s' = next0 after;
              t' = next1 after1;
              first = first_turn after ea;
              second = second_turn after1 eb kind;
            };
            ending = e;
            first_ends = end0;
            second_ends = end1;
            output = same;
            shown = shown;
            allowed = record { acts = omega (arith, la, lc); paid = omega (arith, lp, lb) };
          }))

      one_turn : (after : CoerAfter C) (after1 : CoerAfter D) → turn m store world focus frames ≡ after
          → turn n store1 world focus1 frames1 ≡ after1 → Same like after after1
          → Goes M N NoMore PaysNoMore R i (priced w a p s) (priced w1 a1 p1 t)
      one_turn (On f k st u) (On g k' st' u') ea eb r =
          let kind = kind_of (subst Proceeds (sym ea) tt) in
          let le = asks_less kind in
          let lb = budget_less kind in
          let lc = acts_less kind in
          inl (record {
            ways = record {
              first_steps = 1;
              second_steps = 1;
              s' = next0 (On f k st u);
              t' = next1 (On g k' st' u');
              first = first_turn (On f k st u) ea;
              second = second_turn (On g k' st' u') eb kind;
            };
            left = 0;
            related = record {
              focus = f;
              frames = k;
              store = st;
              world = u;
              focus1 = g;
              frames1 = k';
              store1 = st';
              first = refl;
              second = ap (state_at g k' st') r.3;
              foci = r.0;
              all_frames = r.1;
              stores = r.2;
              words = omega (arith, lw, le);
              acts = omega (arith, la, lc);
              paid = omega (arith, lp, lb);
            };
            first_moves = inl (omega arith);
            second_moves = inl (omega arith);
          })
      one_turn (BlameOf label) (BlameOf other) ea eb r =
          let kind = kind_of (subst Proceeds (sym ea) tt) in
          let le = asks_less kind in
          let long = kind.long in
          last_turn (BlameOf label) (BlameOf other) (ending_of set.told.labels (Blamed label)) ea eb kind refl
          (ap (λ l. Some (ending_of set.told.labels (Blamed l))) r) refl
          (record { reach = omega (arith, lw, le); asks = omega arith; frames = omega (arith, long) })
      one_turn (TrapOf trap u) (TrapOf other u') ea eb r =
          let kind = kind_of (subst Proceeds (sym ea) tt) in
          let le = asks_less kind in
          let long = kind.long in
          last_turn (TrapOf trap u) (TrapOf other u') (ending_of set.told.labels (Trapped trap)) ea eb kind refl
          (ap (λ l. Some (ending_of set.told.labels (Trapped l))) r.0) (ap (λ (x : WorldState). x.output) r.1)
          (record { reach = omega (arith, lw, le); asks = omega arith; frames = omega (arith, long) })
      one_turn NoNext b ea eb r =
          goes_wrong i 0 1 s t (ap (λ o. (moment_at (running m set.told)
          (unless_ended o (running m set.told).step s)).ending)
          (no_end (λ end. ending_at set.told end focus) (ended_at focus frames) first)
          ∙ ap (λ x. option_map (λ end. ending_at set.told end (after_turn s x).focus) (after_turn s x).ended) ea) w a p
          w1
          a1 p1 lw la lp
      one_turn (On f k st u) (BlameOf other) ea eb r = absurd r
      one_turn (On f k st u) (TrapOf other u') ea eb r = absurd r
      one_turn (On f k st u) NoNext ea eb r = absurd r
      one_turn (BlameOf label) (On g k' st' u') ea eb r = absurd r
      one_turn (BlameOf label) (TrapOf other u') ea eb r = absurd r
      one_turn (BlameOf label) NoNext ea eb r = absurd r
      one_turn (TrapOf trap u) (On g k' st' u') ea eb r = absurd r
      one_turn (TrapOf trap u) (BlameOf other) ea eb r = absurd r
      one_turn (TrapOf trap u) NoNext ea eb r = absurd r

    -- both make a turn of one kind, unless the first goes wrong, and what they come to is the same
    pub same_goes : Same like (turn m store world focus frames) (turn n store1 world focus1 frames1)
        → GoesAt i focus frames store world focus1 frames1 store1
    same_goes r = λ w a p w1 a1 p1 lw la lp.
        one_turn w a p w1 a1 p1 lw la lp (turn m store world focus frames) (turn n store1 world focus1 frames1) refl
        refl r
