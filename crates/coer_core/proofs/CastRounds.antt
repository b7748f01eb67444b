-- A law of casts on values is one of runs: one state of the first run is the moment at which all states of the second
-- on the way are seen, that of the cast that asks for the most.
use Rattle.std.proofs.Common.{◌≡◌, ◌⊎◌, inl, inr, ℕ, suc, ◌+◌, ◌*◌, ◌<◌, ◌≤◌, List, [], ◌∷◌, length, Option, Some, None}
use Rattle.std.proofs.Common.{refl, sym, ap, ◌∙◌, subst, arith}
use Rattle.std.specs.Prelude.{option_map, max}
use Rattle.std.proofs.Math.Nat.{le-max_left}
use Rattle.run_laws.specs.Reductions.{Reduction, reduction_run, moment_at}
use Rattle.run_laws.proofs.Public.{Along, run_along}
use Rattle.grift_base.specs.World.{WorldState}
use Rattle.grift_base.specs.declared.verdicts.Verdict.{Verdict}
use Rattle.core_calc.specs.Redex.{where_some}
use Rattle.core_calc.specs.Account.{Measures}
use Rattle.core_calc.specs.Calculus.{Blamed, ending_of}
use Rattle.cast_modes.specs.Modes.{Decision, Wrapping, Mode}
use Rattle.cast_modes.specs.RunValues.{shape_of}
use Rattle.cast_modes.specs.ValueSteps.{CastFrame, Return, casts_onto}
use Rattle.coer_core.specs.Machine.{code_arity, CoerValue, CoerStore, CoerFrame, RunState, state_at, ending_at, running}
use Rattle.coer_core.specs.Results.{Result, Got, BlamedBy, NoResult, Unfinished, pile, SameResult, IsFine}
use Rattle.coer_core.specs.Tally.{kind_asks, decision_kind}
use Rattle.coer_core.specs.Tolls.{Toll, kind_price, pile_toll}
use Rattle.coer_core.proofs.Merging.{Likeness, Carries, Stores, Frames}
use Rattle.coer_core.proofs.FewerFrames.{no_more_frames}
use Rattle.coer_core.proofs.Priced.{kinds_by_cast, Priced, priced, Prices, NoMore, PaysNoMore, asks_of}
use Rattle.coer_core.proofs.Priced.{path_toll, most_less, OnTheWay, priced_along, peak_along, Met, Seen}
use Rattle.coer_core.proofs.Going.{Setting, price0, M, N, R, GoesFrom, GoesAt, first_along, goes_wrong, where_none}
use Rattle.coer_core.proofs.CastResults.{Quiet, casting, Ran, ran_as, pile_runs, pile_moves, along_weaken, CastLaw}
use Rattle.coer_core.proofs.CastResults.{Dropped, DropLaw}

-- one turn of these asks for so much, as many make a step, and their budgets are as much
pub record Enough (most acts budget : ℕ) (toll : Toll) : Type 0 where
  pub asked : most ≤ toll.most
  pub made : acts ≤ toll.acts
  pub paid : budget ≤ toll.budget

-- these ask for so much at most, as many make a step, with budgets of so much, and so many frames
pub record AtMost (most acts budget long : ℕ) (toll : Toll) : Type 0 where
  pub asked : toll.asks ≤ most
  pub made : toll.acts ≤ acts
  pub paid : toll.budget ≤ budget
  pub waits : toll.frames ≤ long

none_of : {A B : Type 0} (f : A → B) (o : Option A) → option_map f o ≡ None → o ≡ None
none_of f None e = refl
none_of f (Some a) e = absurd (cc e)

where_less : {A : Type 0} (o : Option A) (a : ℕ) → where_some o 0 a ≤ a
where_less None a = omega arith
where_less (Some x) a = omega arith

where_ended : {A : Type 0} (o : Option A) (x : A) (a : ℕ) → o ≡ Some x → where_some o 0 a ≡ 0
where_ended (Some y) x a e = refl
where_ended None x a e = absurd (cc e)

-- a cast by kinds asks for something
pub casts_ask : {C : Type 0} (mode : Mode C) (m : Measures) (under n : ℕ) (v : CoerValue C) (cast : C) (casts : List C)
    → 16 ≤ (pile_toll (kind_price mode m) under mode (suc n) v (cast ∷ casts)).most
casts_ask {C = C} mode m under n v cast casts =
    over _ _ (asks (mode.cast cast (shape_of code_arity v)))
  where
    asks : (d : Decision C) → 16 ≤ kind_asks m (Some (decision_kind d)) 0
    asks (Wrapping c) = omega arith
    asks _ = omega arith

    over : (a b : ℕ) → 16 ≤ a → 16 ≤ max a b
    over a b le = let l = le-max_left a b in omega (arith, l, le)

module _ {C D : Type 0} (like : Likeness C D) (m : Mode C) (n : Mode D) (set : Setting n) where
  module _ (i : ℕ) (store : CoerStore C) (store1 : CoerStore D) (stores : Stores like store store1) (world : WorldState)
      (k : List (CoerFrame C)) (k' : List (CoerFrame D)) (fr : Frames like k k') (s : RunState C) (t : RunState D)
      (same : s.world.output ≡ world.output) (same1 : t.world.output ≡ world.output) where
    abbrev Ran0 : ℕ → (Toll → Type 0) → Result C → Type 0
    Ran0 least Ok a =
        Ran m set.told (price0 like m n set) (kinds_by_cast m set.measures) store world k s least Ok a

    abbrev Ran1 : ℕ → (Toll → Type 0) → Result D → Type 0
    Ran1 least Ok b = Ran n set.told set.price set.by_cast store1 world k' t least Ok b

    abbrev Q0 : RunState C → Type 0
    Q0 = Quiet m set.told (price0 like m n set) (kinds_by_cast m set.measures) store world k

    abbrev Q1 : RunState D → Type 0
    Q1 = Quiet n set.told set.price set.by_cast store1 world k'

    abbrev toll0 : ℕ → RunState C → Toll
    toll0 j x = path_toll m set.told (price0 like m n set) j x

    abbrev toll1 : ℕ → RunState D → Toll
    toll1 j x = path_toll n set.told set.price j x

    abbrev M0 : Reduction (Priced C) Prices Verdict
    M0 = M like m n set

    abbrev N1 : Reduction (Priced D) Prices Verdict
    N1 = N like m n set

    module _ (most acts budget spare : ℕ) (some : 0 < most) (w a p w1 a1 p1 : ℕ) (lw : w1 ≤ w) (la : a1 + spare ≤ a)
        (lp : p1 + 896 * spare ≤ p) where
      -- the states of the first have come to what the second had at first
      met : (j : ℕ) (s' : RunState C) → Along (running m set.told) Q0 j s s'
          → Along M0 (Met M0 N1 NoMore PaysNoMore (R like m n set) (priced w1 a1 p1 t)) j (priced w a p s)
          (priced (w + (toll0 j s).asks) (a + (toll0 j s).acts) (p + (toll0 j s).budget) s')
      met j s' along =
          along_weaken M0 (OnTheWay m set.told (price0 like m n set) Q0 w a p (w + (toll0 j s).asks) (toll0 j s).frames)
          (Met M0 N1 NoMore PaysNoMore (R like m n set) (priced w1 a1 p1 t))
          (λ x on. let grows = on.paid_grows in
          let more = on.acts_grow in
          record {
            at = 0;
            output = same1 ∙ sym on.keeps.0;
            allowed = record { acts = omega (arith, more, la); paid = omega (arith, grows, lp) };
          }) j (priced w a p s)
          (priced (w + (toll0 j s).asks) (a + (toll0 j s).acts) (p + (toll0 j s).budget) s')
          (priced_along m set.told (price0 like m n set) Q0 w a p (w + (toll0 j s).asks) (toll0 j s).frames j s s' along
          w a
          p (w + (toll0 j s).asks) (a + (toll0 j s).acts) (p + (toll0 j s).budget) (omega arith) (omega arith)
          (omega arith) (omega arith) (omega arith) refl refl refl)

      -- the state of the first at which those of the second are seen
      pub record Peak : Type 0 where
        pub at : ℕ
        pub state : RunState C
        pub words : ℕ
        pub made : ℕ
        pub paid : ℕ
        pub there : reduction_run M0 (priced w a p s) at ≡ moment_at M0 (priced words made paid state)
        pub quiet : state.world.output ≡ world.output
        pub runs : state.ended ≡ None
        pub more : w ≤ words
        pub asks : most ≤ asks_of m set.told (price0 like m n set) state
        pub long : suc (length k) ≤ length state.frames

      peak_at : (j : ℕ) (s' : RunState C) → Along (running m set.told) Q0 j s s' → most ≤ (toll0 j s).most → Peak
      peak_at j s' along le =
          let b = peak_along m set.told (price0 like m n set) Q0 j s s' along (omega (arith, some, le)) in
          let asked = b.5 in
          let words = w + (toll0 b.0 s).asks in
          let made = a + (toll0 b.0 s).acts in
          let paid = p + (toll0 b.0 s).budget in
          let way = priced_along m set.told (price0 like m n set) Q0 w a p words (toll0 b.0 s).frames b.0 s b.1 b.2 w a
          p words made paid (omega arith) (omega arith) (omega arith) (omega arith) (omega arith) refl refl refl in
          record {
            at = b.0 + 0;
            state = b.1;
            words = words;
            made = made;
            paid = paid;
            there =
                run_along M0
                (OnTheWay m set.told (price0 like m n set) Q0 w a p words (toll0 b.0 s).frames) b.0 (priced w a p s)
                (priced words made paid b.1) way 0;
            quiet = b.4.0;
            runs = none_of (λ end. ending_at set.told end b.1.focus) b.1.ended b.3;
            more = omega arith;
            asks = omega (arith, asked, le);
            long = long_at b.1 b.4.1 asked;
          }
        where
          long_at : (x : RunState C) → (asks_of m set.told (price0 like m n set) x ≡ 0)
              ⊎ (suc (length k) ≤ length x.frames)
              → (toll0 j s).most ≤ asks_of m set.told (price0 like m n set) x → suc (length k) ≤ length x.frames
          long_at x (inl z) asked = absurd (omega (arith, z, asked, le, some))
          long_at x (inr l) asked = l

      seen : (j : ℕ) (t' : RunState D) → Along (running n set.told) Q1 j t t' → Peak
          → AtMost most (acts + spare) (budget + 896 * spare) (length k' + 2) (toll1 j t)
          → Along N1 (Seen M0 N1 NoMore PaysNoMore (R like m n set) (priced w a p s)) j (priced w1 a1 p1 t)
          (priced (w1 + (toll1 j t).asks) (a1 + (toll1 j t).acts) (p1 + (toll1 j t).budget) t')
      seen j t' along peak top =
          along_weaken N1 (OnTheWay n set.told set.price Q1 w1 a1 p1 (w1 + (toll1 j t).asks) (toll1 j t).frames)
          (Seen M0 N1 NoMore PaysNoMore (R like m n set) (priced w a p s)) (λ x on. at_peak x on) j (priced w1 a1 p1 t)
          (priced (w1 + (toll1 j t).asks) (a1 + (toll1 j t).acts) (p1 + (toll1 j t).budget) t')
          (priced_along n set.told set.price Q1 w1 a1 p1 (w1 + (toll1 j t).asks) (toll1 j t).frames j t t' along w1
          a1 p1 (w1 + (toll1 j t).asks) (a1 + (toll1 j t).acts) (p1 + (toll1 j t).budget) (omega arith) (omega arith)
          (omega arith) (omega arith) (omega arith) refl refl refl)
        where
          at_peak : (y : Priced D)
              → OnTheWay n set.told set.price Q1 w1 a1 p1 (w1 + (toll1 j t).asks) (toll1 j t).frames y
              → Seen M0 N1 NoMore PaysNoMore (R like m n set) (priced w a p s) y
          at_peak y on =
              let x = where_less y.state.ended (asks_of n set.told set.price y.state) in
              let z = where_none peak.state.ended (asks_of m set.told (price0 like m n set) peak.state) peak.runs in
              let fewer = no_more_frames like k' k fr in
              record {
                at = peak.at;
                output = on.keeps.0 ∙ sym peak.quiet ∙ sym (ap (λ z. z.output) peak.there);
                shown =
                    subst (λ z. NoMore (N1.shown y) z.shown) (sym peak.there)
                    (record {
                      reach = omega arith;
                      asks = omega arith;
                      frames = omega arith;
                    });
              }

    -- what the second run comes to is known where the first comes to something; the second may pay what is to spare
    pub casts_go : (most acts budget spare : ℕ) → 0 < most → (a : Result C) (b : Result D)
        → Ran0 1 (Enough most acts budget) a
        → (IsFine a → Ran1 1 (AtMost most (acts + spare) (budget + 896 * spare) (length k' + 2)) b) → SameResult like a
        b
        → GoesFrom like m n set i spare s t
    casts_go most acts budget spare some (Got v) (Got u) one second r = λ w a p w1 a1 p1 lw la lp.
        let b = second tt in
        let le = one.1 in
        let lt = b.1 in
        let enough = one.3 in
        let sums = most_less m set.told (price0 like m n set) one.0 s in
        inl (record {
          ways = record {
            first_steps = one.0;
            second_steps = b.0;
            s' = priced (w + (toll0 one.0 s).asks) (a + (toll0 one.0 s).acts) (p + (toll0 one.0 s).budget)
                (state_at (Return v) k store world);
            t' = priced (w1 + (toll1 b.0 t).asks) (a1 + (toll1 b.0 t).acts) (p1 + (toll1 b.0 t).budget)
                (state_at (Return u) k' store1 world);
            first = met most acts budget spare some w a p w1 a1 p1 lw la lp one.0 (state_at (Return v) k store world)
                one.2;
            second =
                seen most acts budget spare some w a p w1 a1 p1 lw la lp b.0 (state_at (Return u) k' store1 world) b.2
                (peak_at most acts budget spare some w a p w1 a1 p1 lw la lp one.0 (state_at (Return v) k store world)
                one.2 enough.asked)
                b.3;
          };
          left = 0;
          related = record {
            focus = Return v;
            frames = k;
            store = store;
            world = world;
            focus1 = Return u;
            frames1 = k';
            store1 = store1;
            first = refl;
            second = refl;
            foci = (v, refl, r);
            all_frames = fr;
            stores = stores;
            words = omega arith;
            acts = omega arith;
            paid = omega arith;
          };
          first_moves = inl (omega (arith, le));
          second_moves = inl (omega (arith, lt));
        })
    casts_go most acts budget spare some (BlamedBy label) (BlamedBy other) one second r = λ w a p w1 a1 p1 lw la lp.
        let b = second tt in
        let enough = one.8 in
        let sums = most_less m set.told (price0 like m n set) one.0 s in
        let none = where_ended b.2.ended (Blamed other) (asks_of n set.told set.price b.2) b.4 in
        let fewer = no_more_frames like k' k fr in
        inr (inl (record {
          ways = record {
            first_steps = one.0;
            second_steps = b.0;
            s' = priced (w + (toll0 one.0 s).asks) (a + (toll0 one.0 s).acts) (p + (toll0 one.0 s).budget) one.2;
            t' = priced (w1 + (toll1 b.0 t).asks) (a1 + (toll1 b.0 t).acts) (p1 + (toll1 b.0 t).budget) b.2;
            first = met most acts budget spare some w a p w1 a1 p1 lw la lp one.0 one.2 one.3;
            second =
                seen most acts budget spare some w a p w1 a1 p1 lw la lp b.0 b.2 b.3
                (peak_at most acts budget spare some w a p w1 a1 p1 lw la lp one.0 one.2 one.3 enough.asked) b.8;
          };
          ending = ending_of set.told.labels (Blamed label);
          first_ends = ap (option_map (λ end. ending_at set.told end one.2.focus)) one.4;
          second_ends =
              ap (option_map (λ end. ending_at set.told end b.2.focus)) b.4
              ∙ ap (λ l. Some (ending_of set.told.labels (Blamed l))) r;
          output = b.5 ∙ sym one.5;
          shown = record {
            reach = omega arith;
            asks = omega arith;
            frames = omega arith;
          };
          allowed = record { acts = omega arith; paid = omega arith };
        }))
    casts_go most acts budget spare some NoResult b a second r = goes_wrong like m n set i spare a.0 s t a.1
    casts_go most acts budget spare some (Got v) (BlamedBy other) a b r = absurd r
    casts_go most acts budget spare some (Got v) NoResult a b r = absurd r
    casts_go most acts budget spare some (Got v) Unfinished a b r = absurd r
    casts_go most acts budget spare some (BlamedBy label) (Got u) a b r = absurd r
    casts_go most acts budget spare some (BlamedBy label) NoResult a b r = absurd r
    casts_go most acts budget spare some (BlamedBy label) Unfinished a b r = absurd r
    casts_go most acts budget spare some Unfinished b a c r = absurd r

  -- what Laws asks of piles of casts
  pub casts_law : CastLaw like m n (price0 like m n set) set.price → (i : ℕ) (v : CoerValue C) (u : CoerValue D) (c : C)
      (cs : List C) (d : D) (k : List (CoerFrame C)) (k' : List (CoerFrame D)) (store : CoerStore C)
      (store1 : CoerStore D) (world : WorldState) → Carries like v u → like.stands d (c ∷ cs) → Frames like k k'
      → Stores like store store1
      → GoesAt like m n set i (Return v) (casts_onto (c ∷ cs) k) store world (Return u) (CastFrame d ∷ k') store1
  casts_law law i v u c cs d k k' store store1 world r s fr st =
      let l = law v u c cs d r s in
      let first = pile_toll (price0 like m n set) (length k) m (suc l.0) v (c ∷ cs) in
      let second = pile_toll set.price (length k') n (suc l.1) u (d ∷ []) in
      let asked = casts_ask m set.measures (length k) l.0 v c cs in
      casts_go i store store1 st world k k' fr
      (casting m set.told (price0 like m n set) (kinds_by_cast m set.measures) store world k v (c ∷ cs))
      (casting n set.told set.price set.by_cast store1 world k' u (d ∷ [])) refl refl first.most first.acts
      first.budget 0
      (omega (arith, asked)) (pile m (suc l.0) v (c ∷ cs)) (pile n (suc l.1) u (d ∷ []))
      (ran_as m set.told (price0 like m n set) (kinds_by_cast m set.measures) store world k
      (casting m set.told (price0 like m n set) (kinds_by_cast m set.measures) store world k v (c ∷ cs)) 1
      (pile m (suc l.0) v (c ∷ cs)) (λ t. t ≡ first) (Enough first.most first.acts first.budget)
      (λ t e. subst (Enough first.most first.acts first.budget) (sym e)
      (record { asked = omega arith; made = omega arith; paid = omega arith }))
      (pile_moves m set.told (price0 like m n set) (kinds_by_cast m set.measures) store world k l.0 v c cs))
      (λ fine. let fits = l.3 (length k) (length k') fine in
      ran_as n set.told set.price set.by_cast store1 world k'
      (casting n set.told set.price set.by_cast store1 world k' u (d ∷ [])) 1 (pile n (suc l.1) u (d ∷ []))
      (λ t. t ≡ second) (AtMost first.most (first.acts + 0) (first.budget + 896 * 0) (length k' + 2))
      (λ t e. subst (AtMost first.most (first.acts + 0) (first.budget + 896 * 0) (length k' + 2)) (sym e)
      (let budget = fits.budget in
      let acts = fits.acts in
      record { asked = fits.asks; made = omega (arith, acts); paid = omega (arith, budget); waits = fits.frames }))
      (pile_moves n set.told set.price set.by_cast store1 world k' l.1 u d []))
      l.2

  drop_go : (i : ℕ) (u : CoerValue D) (k : List (CoerFrame C)) (store : CoerStore C) (world : WorldState)
      (t : RunState D) (v : CoerValue C) (casts : List C) (Ok : Toll → Type 0) (a : Result C)
      → world.output ≡ t.world.output → Dropped like m n a u
      → Ran m set.told (price0 like m n set) (kinds_by_cast m set.measures) store world k
      (casting m set.told (price0 like m n set) (kinds_by_cast m set.measures) store world k v casts) 0 Ok a
      → ((x : CoerValue C) → Carries like x u → GoesFrom like m n set i 0 (state_at (Return x) k store world) t)
      → GoesFrom like m n set i 0 (state_at (Return v) (casts_onto casts k) store world) t
  drop_go i u k store world t v casts Ok (Got x) o d a next =
      first_along like m n set i 0 a.0
      (casting m set.told (price0 like m n set) (kinds_by_cast m set.measures) store world k v casts)
      (state_at (Return x) k store world) t
      (along_weaken (running m set.told)
      (Quiet m set.told (price0 like m n set) (kinds_by_cast m set.measures) store world k)
      (λ y. y.world.output ≡ t.world.output) (λ y q. q.0 ∙ o) a.0
      (casting m set.told (price0 like m n set) (kinds_by_cast m set.measures) store world k v casts)
      (state_at (Return x) k store world) a.2) (next x d)
  drop_go i u k store world t v casts Ok NoResult o d a next =
      goes_wrong like m n set i 0 a.0 (state_at (Return v) (casts_onto casts k) store world) t a.1
  drop_go i u k store world t v casts Ok (BlamedBy label) o d a next = absurd d
  drop_go i u k store world t v casts Ok Unfinished o d a next = absurd d

  -- what Laws asks of dropped casts
  pub drop_law : DropLaw like m n → (i : ℕ) (v : CoerValue C) (u : CoerValue D) (casts : List C)
      (k : List (CoerFrame C))
      (store : CoerStore C) (world : WorldState) (t : RunState D) → world.output ≡ t.world.output → Carries like v u
      → like.drops casts
      → ((x : CoerValue C) → Carries like x u → GoesFrom like m n set i 0 (state_at (Return x) k store world) t)
      → GoesFrom like m n set i 0 (state_at (Return v) (casts_onto casts k) store world) t
  drop_law law i v u casts k store world t o r d next =
      let l = law v u casts r d in
      drop_go i u k store world t v casts
      (λ t. t ≡ pile_toll (price0 like m n set) (length k) m l.0 v casts) (pile m l.0 v casts) o l.1
      (pile_runs m set.told (price0 like m n set) (kinds_by_cast m set.measures) store world k l.0 v casts) next
