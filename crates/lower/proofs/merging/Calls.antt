-- Calls through proxies in the merged scheme: the arguments are cast one after another, then the function is entered.
use Rattle.std.proofs.Common.{◌≡◌, ◌⊎◌, inl, inr, ℕ, suc, ◌+◌, ◌*◌, ◌<◌, ◌≤◌, List, [], ◌∷◌, ◌++◌, length, Some, None}
use Rattle.std.proofs.Common.{Bool, true, false, Option, refl, sym, ap, ◌∙◌, subst, arith, append-nil, slice_get}
use Rattle.std.proofs.Common.{eqb-true, le_refl}
use Rattle.std.specs.Prelude.{◌==◌, if◌then◌else◌}
use Rattle.grift_base.specs.Types.{TypeHead}
use Rattle.grift_base.specs.declared.places.Pos.{Pos}
use Rattle.grift_base.specs.declared.verdicts.Verdict.TheVariants.{Blame}
use Rattle.run_laws.specs.Runs.{Verdict as EndsWith}
use Rattle.machine_words.specs.Halts.{ending_of}
use Rattle.core_calc.specs.Account.{StepKind, Measures}
use Rattle.low_ir.specs.Run.{Setting, Waiting, LowState, with_local, entered}
use Rattle.coercion_norm.specs.Coercions.{Coercion, rows_of}
use Rattle.coercion_norm.specs.Held.{Layout, There, TypesStand}
use Rattle.coercion_norm.specs.MergedMode.{merging, function_parts}
use Rattle.cast_modes.specs.Modes.{TypeCast}
use Rattle.coercion_norm.specs.Normal.{IsNormal}
use Rattle.coercion_norm.specs.Objects.{Object, Fixed}
use Rattle.cast_modes.specs.RunValues.{RunInt, RunBool, RunUnit, RunFun, RunTuple, RunLoc, RunWrap, RunInject}
use Rattle.cast_modes.specs.RunValues.{Pending, all_plain, in_row}
use Rattle.cast_modes.specs.ValueSteps.{CastFrame, EnterFrame, Own, Entering, Return, On, on_some, onto}
use Rattle.cast_modes.specs.ValueSteps.{cast_all, casts_onto, apply, enter_plain, decision_wraps}
use Rattle.flat_ir.specs.Bodies.{Proc}
use Rattle.flat_ir.specs.Counts.{decision_at}
use Rattle.flat_ir.specs.FlatTally.{act_cost, cast_cost, enter_cost, plain_cost}
use Rattle.coer_core.specs.TurnPrices.{merged_prices}
use Rattle.cast_modes.specs.Prices.{Cost, Prices, no_cost}
use Rattle.flat_ir.specs.Machine.{FlatCode, FlatValue, FlatValues, FlatFrame, FlatFocus, FlatStore, FlatAfter, Group}
use Rattle.flat_ir.specs.Machine.{Inside, locals_of, flat_turn, flat_arity, flat_entered, entered_proc, flat_cast}
use Rattle.rt_cast.specs.Carried.{IsVery, Carries, BlamesAt}
use Rattle.rt_cast.specs.Carried.{AreCarried as RtCarried}
use Rattle.rt_cast.specs.ComposeCodes.{cast as cast_number}
use Rattle.rt_cast.specs.LightCasts.{cast_words_of, cast_price_of}
use Rattle.rt_cast.specs.MergedValues.{Merged, Solid, Proxied, Outcome, Stuck, Gives, Blames, cast_value}
use Rattle.rt_cast.specs.Procs.{Stand, how_many_cast_procs}
use Rattle.rt_cast.specs.States.{Placed, IsReady, Grows, Fine, Heap, Filled as RtFilled, around, heap_of}
use Rattle.rt_refs.specs.Arguments.{handed}
use Rattle.rt_refs.specs.CallCodes.{apply_proc}
use Rattle.reference_laws.specs.CallLaws.{AtArgument, CastInTurn, Resumes, where_comes}
use Rattle.reference_laws.specs.CallLaws.{CallsAt as RtCallsAt}
use Rattle.rt_refs.specs.declared.numbers.RefProc.TheVariants.{Apply}
use Rattle.rt_refs.specs.RefProcs.{Stand as RefsStand, ref_place}
use Rattle.reference_laws.proofs.Public.{calls_are_made, answers_are_cast}
use Rattle.lowered_code.specs.declared.served.Served.{Served}
use Rattle.lower.specs.CarriedValues.{CarriedIn, AreCarried}
use Rattle.lower.specs.Keeping.{FitsMeasures}
use Rattle.lower.specs.MergedMeaning.{merged_meaning, merged_resumes, WrapsKind}
use Rattle.lower.specs.SchemeLaws.{Here, StopsNow, Aim, After, Goes, Serves, Answers, Calls, CallsAt}
use Rattle.lower.specs.SchemeLaws.{CallsMade}
use Rattle.lower.specs.SchemeLaws.{call_leaves, resumed_leaves}
use Rattle.lower.proofs.heap.Objects.{closure_header}
use Rattle.lower.proofs.heap.CarriedLater.{later, cells_later, cells_below}
use Rattle.lower.proofs.merging.Arguments.{AllNormal, of_function, pendings, all_cast, onto_before, handed_is}
use Rattle.lower.proofs.merging.Arguments.{AllLike}
use Rattle.lower.proofs.merging.Arguments.{onto_like, all_back, CodeAt, all_like, called}
use Rattle.lower.proofs.merging.Bounds.{cast_fits}
use Rattle.lower.proofs.merging.Chains.{Comes as ChainComes, comes_stands as chain_stands, Walking, cast_answers}
use Rattle.lower.proofs.merging.Chains.{stuck_or_not, gives_some, blames_some}
use Rattle.lower.proofs.merging.MeaningLaws.{merged_laws}
use Rattle.lower.proofs.merging.Like.{Like, solid_head, head_at, like_of, like_wrapped}
use Rattle.lower.proofs.merging.Stages.{HasRoom, Calm, Stands, Stage, Settled, at_end, begun, settled_calm, calm_as}
use Rattle.lower.proofs.merging.Stages.{stays, lands, by_law, by_law_from}
use Rattle.lower.proofs.words.Standing.{stands_as}
use Rattle.lower.proofs.merging.States.{filled_of, filled_as, blame_stops}
use Rattle.lower.proofs.merging.Turns.{Ends, ends_cast}

module _ (setting : Setting) (l : Layout) (procs : List Proc) (casts : List TypeCast) (m : Measures)
    (measured : FitsMeasures l m) (first : ℕ) (placed : Placed setting l) (types : TypesStand l)
    (tallest : l.tallest ≤ 65534) (ready : Stand setting.procs first) (s : LowState) (number : ℕ) (places : List ℕ)
    (objects : List Object) (store : FlatStore Coercion)
    (here : Here merged_meaning setting l procs casts m places objects store number (heap_of s))
    (base : List (FlatFrame Coercion)) where
  abbrev L : FlatValue Coercion → Merged ℕ → Type 0
  L v x = Like setting l procs places objects v x

  abbrev Ls : List (FlatValue Coercion) → List (Merged ℕ) → Type 0
  Ls vs xs = AllLike setting l procs places objects vs xs

  abbrev C : FlatValue Coercion → ℕ → Type 0
  C v w = CarriedIn l setting.address procs merged_meaning places objects v [] w

  abbrev Cs : List (FlatValue Coercion) → List ℕ → Type 0
  Cs vs ws = AreCarried l setting.address procs merged_meaning places objects (in_row vs) ws

  rt_filled : RtFilled setting l objects (heap_of s)
  rt_filled = filled_of setting l number objects (heap_of s) here.filled

  abbrev prices : Prices StepKind Coercion
  prices = merged_prices l.types (merging l.types casts) m

  abbrev acting : Cost
  acting = act_cost procs (merging l.types casts) prices

  -- the storage behind it, with objects added
  here_now : (n : ℕ) (new : List Object) (g : Grows objects new) (h : Heap) → Fine setting l (around s) new h
      → Here merged_meaning setting l procs casts m (places ++ []) (objects ++ g.more) store n h
  here_now n new g h fine =
      subst (λ ps. Here merged_meaning setting l procs casts m ps (objects ++ g.more) store n h) (sym (append-nil
      places))
      (record {
        filled = filled_as setting l n (objects ++ g.more) h
            (subst (λ os. RtFilled setting l os h) g.is fine.filled);
        cells = cells_later l setting.address procs merged_meaning merged_laws places objects g.more h.memory places
            store
            (cells_below l setting.address procs merged_meaning merged_laws places objects setting placed (heap_of s)
            here.filled h.memory fine.kept places store here.cells);
      })

  -- ---- a call of what stands at a, with all these arguments, which are cast one after another

  module _ (a : ℕ) (e : Coercion) (all : List (FlatValue Coercion)) (address : ℕ) where
    abbrev aim : Aim merged_meaning setting l procs casts m
    aim focus frames store' n left t =
        Calls merged_meaning setting l procs casts m s places objects base focus frames store' n left t

    abbrev GoesOn : ℕ → FlatFocus Coercion → List (FlatFrame Coercion) → ℕ → ℕ → LowState → Type 0
    GoesOn i focus frames n credit t =
        Goes merged_meaning setting l procs casts m s aim i focus frames store n credit t

    abbrev Turned : ℕ → FlatAfter Coercion → Cost → ℕ → ℕ → LowState → Type 0
    Turned i x cost credit n t =
        After merged_meaning setting l procs casts m s (Goes merged_meaning setting l procs casts m s aim i) x cost
        credit n 0 t

    -- the casts of arguments look at values with these heads
    abbrev heads : ℕ → ℕ → TypeHead
    heads k b = head_at setting l procs places objects (slice_get all k)

    abbrev InTurn : ℕ → List Coercion → List (Merged ℕ) → List (Merged ℕ) → LowState → Type 0
    InTurn k ds xs done t =
        CastInTurn l setting first s (IsVery l) objects ending_of heads a address e k ds xs done t

    stands_at : (t : LowState) → HasRoom setting l procs casts m s t → AtArgument l setting first s (IsVery l) objects t
        → Stands setting l procs casts m s t
    stands_at t room x = record {
      objects = x.new;
      filled = x.fine.filled;
      same = x.same;
      room = room;
    }

    -- where the numbers of casts and of arguments are the same, the run is at an argument
    at_argument : (k : ℕ) (ds : List Coercion) (xs done : List (Merged ℕ)) → length ds ≡ length xs → (t : LowState)
        → InTurn k ds xs done t → AtArgument l setting first s (IsVery l) objects t
    at_argument k [] [] done long t x = x.0
    at_argument k (d ∷ ds) (y ∷ xs) done long t x = x.0
    at_argument k [] (y ∷ xs) done long t x = absurd (omega (arith, long))
    at_argument k (d ∷ ds) [] done long t x = absurd (omega (arith, long))

    -- the function is about to be entered
    calls_at : (code : FlatCode) (captured : FlatValues Coercion) → L (RunFun code captured) (Solid a)
        → CodeAt setting l procs places objects (RunFun code captured) address → (values : List (FlatValue Coercion))
        (ms : List (Merged ℕ)) → Ls values ms → (n : ℕ) (t : LowState)
        → RtCallsAt l setting first s (IsVery l) objects a address ms e t
        → CallsAt merged_meaning setting l procs casts m s places objects code captured values base (CastFrame e ∷
        base) store n t
    calls_at code captured k at values ms likes n t g = record {
      cells = [];
      more = g.grows.more;
      here = here_now n g.new g.grows (heap_of t) g.fine;
      cast = e;
      results = [];
      frames_are = refl;
      own = g.own;
      words = g.words;
      function = subst (λ ps. CarriedIn l setting.address procs merged_meaning ps (objects ++ g.grows.more)
          (RunFun code captured) [] g.own) (sym (append-nil places))
          (subst (λ x. CarriedIn l setting.address procs merged_meaning places (objects ++ g.grows.more)
          (RunFun code captured) [] x) (sym (g.function.is ∙ solid_same a k.0 k.1))
          (later l setting.address procs merged_meaning merged_laws places objects g.grows.more (RunFun code captured)
          k.0 k.2));
      arguments = subst (λ ps. AreCarried l setting.address procs merged_meaning ps (objects ++ g.grows.more)
          (in_row values) g.words) (sym (append-nil places))
          (all_back setting l procs places objects g.grows.more values ms g.words likes
          (subst (λ os. RtCarried l (IsVery l) os ms g.words) g.grows.is g.arguments));
      d = g.d;
      at = g.at;
      sources = g.sources;
      rest = g.rest;
      is = g.is;
      address = g.enters ∙ ap Some at;
      handed = g.handed;
      resumes = (
        first,
        ready,
        subst (λ os. Resumes l first os (record { rest = record t.active { code = g.rest }; answer = g.d }) e)
            g.grows.is g.resumes,
      );
      room = g.resumes.room;
      waits = g.waits;
      same = g.same;
    }
      where
        solid_same : (x y : ℕ) → Solid x ≡ Solid y → x ≡ y
        solid_same x y e = cc

    abbrev applied_to : FlatValue Coercion → List (FlatValue Coercion) → FlatAfter Coercion
    applied_to f values =
        apply (merging l.types casts) (flat_arity procs) (flat_entered procs) store s.world f values
        (CastFrame e ∷ base)

    -- all arguments are cast: the function is about to be entered
    abbrev Applied : FlatAfter Coercion → List (Merged ℕ) → Type 0
    Applied x xs =
        (i : ℕ) × ((t : LowState) → InTurn 0 [] [] xs t → (n credit : ℕ) → Turned i x acting credit n t)

    function_entered : (code : FlatCode) (captured : FlatValues Coercion) → L (RunFun code captured) (Solid a)
        → CodeAt setting l procs places objects (RunFun code captured) address → (values : List (FlatValue Coercion))
        (xs : List (Merged ℕ)) → Ls values xs → Applied (applied_to (RunFun code captured) values) xs
    function_entered code captured k at values xs likes = by_proc (slice_get procs (code.first + code.place)) refl
      where
        group : Group Coercion
        group = record { first = code.first; captured = captured }

        entered_now : (p : Proc) → slice_get procs (code.first + code.place) ≡ Some p → length values ≡ p.params
            → Applied (On (Own (Inside p.body (locals_of values) (record { first = code.first; captured = captured })))
            (CastFrame e ∷ base) store s.world) xs
        entered_now p there long = (
          0,
          λ t x n credit. (
            refl,
            lands setting l procs casts m s t x.0.waits x.0.same (4 * l.tallest + 7) 0 17 call_leaves (omega arith) t
                refl
                (RtCallsAt l setting first s (IsVery l) objects a address xs e) x.1.0 x.1.2 x.1.3 acting credit
                (omega arith) (omega arith) n (n + 0)
                (λ left u. aim (Own (Inside p.body (locals_of values) group)) (CastFrame e ∷ base) store (n + 0) left u)
                (λ u room g. (
                  code,
                  captured,
                  values,
                  p,
                  there,
                  long,
                  refl,
                  refl,
                  refl,
                  le_refl call_leaves,
                  calls_at code captured k at values xs likes (n + 0) u g,
                )),
          ),
        )

        by_length : (p : Proc) → slice_get procs (code.first + code.place) ≡ Some p → (b : Bool)
            → (length values == p.params) ≡ b
            → Applied (on_some (if b then Some (Inside p.body (locals_of values) group) else None)
            (λ place. On (Own place) (CastFrame e ∷ base) store s.world)) xs
        by_length p there false long = (0, λ t x n credit. refl)
        by_length p there true long = entered_now p there (eqb-true (length values) p.params long)

        by_proc : (o : Option Proc) → slice_get procs (code.first + code.place) ≡ o
            → Applied (on_some (entered_proc o group values)
            (λ place. On (Own place) (CastFrame e ∷ base) store s.world)) xs
        by_proc None there = (0, λ t x n credit. refl)
        by_proc (Some p) there = by_length p there (length values == p.params) refl

    all_given : (f : FlatValue Coercion) → L f (Solid a) → CodeAt setting l procs places objects f address
        → (values : List (FlatValue Coercion)) (xs : List (Merged ℕ)) → Ls values xs → Applied (applied_to f values) xs
    all_given (RunFun code captured) k at values xs likes = function_entered code captured k at values xs likes
    all_given (RunTuple parts) k at values xs likes = (0, λ t x n credit. refl)
    all_given (RunLoc cell is_vector) k at values xs likes = (0, λ t x n credit. refl)
    all_given (RunInt v) k at values xs likes = (0, λ t x n credit. refl)
    all_given (RunBool b) k at values xs likes = (0, λ t x n credit. refl)
    all_given RunUnit k at values xs likes = (0, λ t x n credit. refl)
    all_given (RunWrap v c) k at values xs likes = (0, λ t x n credit. refl)
    all_given (RunInject v kept) k at values xs likes = (0, λ t x n credit. refl)

    abbrev plainly : FlatValue Coercion → List (FlatValue Coercion) → List (Pending Coercion FlatCode)
        → FlatAfter Coercion
    plainly f done todo =
        enter_plain (merging l.types casts) (flat_arity procs) (flat_entered procs) store s.world f done todo
        (CastFrame e ∷ base)

    abbrev turned : FlatValue Coercion → List (FlatValue Coercion) → List (Pending Coercion FlatCode)
        → FlatAfter Coercion
    turned f done todo =
        flat_turn procs (merging l.types casts) store s.world (Entering f done todo) (CastFrame e ∷ base)

    bare_turn : (f : FlatValue Coercion) → L f (Solid a) → (done : List (FlatValue Coercion))
        (todo : List (Pending Coercion FlatCode)) → turned f done todo ≡ plainly f done todo
    bare_turn (RunFun code captured) k done todo = refl
    bare_turn (RunTuple parts) k done todo = refl
    bare_turn (RunLoc cell is_vector) k done todo = refl
    bare_turn (RunInt x) k done todo = refl
    bare_turn (RunBool b) k done todo = refl
    bare_turn RunUnit k done todo = refl
    bare_turn (RunInject v kept) k done todo = refl
    bare_turn (RunWrap v c) k done todo = absurd (clash k.0 k.1)
      where
        clash : (b : ℕ) → Solid a ≡ Proxied b c → ⊥
        clash b q = cc

    abbrev entering_cost : FlatValue Coercion → List (Pending Coercion FlatCode) → Cost
    entering_cost f todo = enter_cost procs (merging l.types casts) prices f todo

    bare_cost : (f : FlatValue Coercion) → L f (Solid a) → (todo : List (Pending Coercion FlatCode))
        → entering_cost f todo ≡ plain_cost procs (merging l.types casts) prices todo
    bare_cost (RunFun code captured) k todo = refl
    bare_cost (RunTuple parts) k todo = refl
    bare_cost (RunLoc cell is_vector) k todo = refl
    bare_cost (RunInt x) k todo = refl
    bare_cost (RunBool b) k todo = refl
    bare_cost RunUnit k todo = refl
    bare_cost (RunInject v kept) k todo = refl
    bare_cost (RunWrap v c) k todo = absurd (clash k.0 k.1)
      where
        clash : (b : ℕ) → Solid a ≡ Proxied b c → ⊥
        clash b q = cc

    -- one turn at a call whose function has no wrapper
    one_turn : (f : FlatValue Coercion) → L f (Solid a) → (done : List (FlatValue Coercion))
        (todo : List (Pending Coercion FlatCode)) (i : ℕ) (t : LowState) → Stands setting l procs casts m s t
        → (n credit : ℕ)
        → Turned i (plainly f done todo) (plain_cost procs (merging l.types casts) prices todo) credit n t
        → GoesOn (suc i) (Entering f done todo) (CastFrame e ∷ base) n credit t
    one_turn f k done todo i t stands n credit r = (
      tt,
      calm_as setting l procs casts m s t stands n,
      subst
          (λ c. Turned i (turned f done todo) c credit n t) (sym (bare_cost f k todo))
          (subst (λ x. Turned i x (plain_cost procs (merging l.types casts) prices todo) credit n t)
          (sym (bare_turn f k done todo)) r),
    )

    -- ---- the cast of one argument

    module _ (k : ℕ) (d : Coercion) (ds : List Coercion) (x : Merged ℕ) (xs done : List (Merged ℕ))
        (long : length ds ≡ length xs) where
      abbrev total : Outcome ℕ
      total = cast_value (heads k) l.types d x

      abbrev Comes : LowState → Type 0
      Comes t =
          where_comes total (λ y. InTurn (suc k) ds xs (done ++ y ∷ []) t)
          (λ label. BlamesAt l setting s (IsVery l) objects label t)

      comes_stands : (t : LowState) → Comes t → HasRoom setting l procs casts m s t
          → Stands setting l procs casts m s t
      comes_stands t c few = by total c
        where
          by : (r : Outcome ℕ)
              → where_comes r (λ y. InTurn (suc k) ds xs (done ++ y ∷ []) t)
              (λ label. BlamesAt l setting s (IsVery l) objects label t)
              → Stands setting l procs casts m s t
          by Stuck c = absurd c
          by (Gives y) c = stands_at t few (at_argument (suc k) ds xs (done ++ y ∷ []) long t c)
          by (Blames label) c = record { objects = c.new; filled = c.fine.filled; same = c.same; room = few }

      abbrev Done : LowState → Type 0
      Done = Settled setting l procs casts m s (total ≡ Stuck) (stuck_or_not total) Comes comes_stands

      calm : (t : LowState) → Done t → Calm setting l procs casts m s t
      calm t x = settled_calm setting l procs casts m s (total ≡ Stuck) (stuck_or_not total) Comes comes_stands t x

      abbrev walk : Stage setting l procs casts m s Done
      walk =
          begun setting l procs casts m s (total ≡ Stuck) (stuck_or_not total) Comes comes_stands
          (cast_words_of l d x) (cast_price_of l d x + 52)

      abbrev ended : Stage setting l procs casts m s Done
      ended = at_end setting l procs casts m s Done calm

      comes_so : (r : Outcome ℕ) → total ≡ r → (r ≡ Stuck → ⊥) → (t : LowState) → Done t
          → where_comes r (λ y. InTurn (suc k) ds xs (done ++ y ∷ []) t)
          (λ label. BlamesAt l setting s (IsVery l) objects label t)
      comes_so r q some t x =
          subst (λ z. where_comes z (λ y. InTurn (suc k) ds xs (done ++ y ∷ []) t)
          (λ label. BlamesAt l setting s (IsVery l) objects label t)) q (x.comes (λ z. some (sym q ∙ z)))

      stops_so : (label : ℕ) → total ≡ Blames label → (t : LowState) → Done t → (n : ℕ) (place : Pos)
          → slice_get setting.labels label ≡ Some place
          → StopsNow merged_meaning setting l procs casts m s n (EndsWith (Blame place)) t
      stops_so label q t x n place found_it =
          blame_stops setting l procs casts m s objects n label place found_it t
          (comes_so (Blames label) q (blames_some label (Blames label) refl) t x)

      -- from where the run is at it
      begins : (t : LowState) → Stands setting l procs casts m s t → InTurn k (d ∷ ds) (x ∷ xs) done t → walk.Ready t
      begins t stands y =
          by_law_from setting l procs casts m s (total ≡ Stuck) (stuck_or_not total) Comes comes_stands t y.0.waits
          y.0.same (4 * l.tallest + 7) (cast_words_of l d x) (cast_price_of l d x + 52) (omega arith) t stands refl
          (λ some. let z = y.1 some in (z.0, z.2, let c = z.3 in omega (arith, c)))

      abbrev Later : List (FlatFrame Coercion) → Type 0
      Later frames =
          Ends setting l procs casts m measured s places objects store aim (heads k 0) total Done calm stops_so ended
          (λ y credit. 0 ≤ credit) frames (λ o. o)

      -- the turns of its cast
      argument_cast : IsNormal (rows_of l.types) d → (frames : List (FlatFrame Coercion)) → Later frames
          → (v : FlatValue Coercion) → L v x → solid_head setting l procs places objects v ≡ heads k 0
          → (i : ℕ) × ((t : LowState) → Stands setting l procs casts m s t → InTurn k (d ∷ ds) (x ∷ xs) done t
          → (n credit : ℕ)
          → GoesOn i (Return v) (CastFrame d ∷ frames) n credit t)
      argument_cast normal frames later v like head =
          let r = ends_cast setting l procs casts m measured s places objects store aim (heads k 0) total Done calm
          stops_so walk 0 d normal frames (λ o. o) (λ label. refl) later v x like head refl in (
            r.0,
            λ t stands y n credit. r.1 t (begins t stands y) n credit
                (cast_fits l m measured 52 0 d x credit (omega arith) (omega arith)),
          )

    -- those that are left, from a place on, behind those that are cast
    arguments : (f : FlatValue Coercion) → L f (Solid a) → CodeAt setting l procs places objects f address
        → (vs : List (FlatValue Coercion)) (xs : List (Merged ℕ)) (ds : List Coercion) (k : ℕ) → Ls vs xs
        → AllNormal (rows_of l.types) ds → length ds ≡ length vs → length xs ≡ length vs
        → ((i : ℕ) → slice_get vs i ≡ slice_get all (k + i)) → (done : List (FlatValue Coercion))
        (pre : List (Merged ℕ)) → Ls done pre
        → (i : ℕ) × ((t : LowState) → Stands setting l procs casts m s t → InTurn k ds xs (onto pre []) t
        → (n credit : ℕ)
        → GoesOn i (Entering f done (pendings vs ds)) (CastFrame e ∷ base) n credit t)
    arguments f like at [] [] [] k likes normal long many same done pre before =
        let r = all_given f like at (onto done []) (onto pre [])
        (onto_like setting l procs places objects done pre [] [] before tt) in
        (suc r.0, λ t stands x n credit. one_turn f like done [] r.0 t stands n credit (r.1 t x n credit))
    arguments f like at [] [] (d ∷ ds) k likes normal long many same done pre before = absurd (omega (arith, long))
    arguments f like at [] (x ∷ xs) ds k likes normal long many same done pre before = absurd likes
    arguments f like at (v ∷ vs) [] ds k likes normal long many same done pre before = absurd likes
    arguments f like at (v ∷ vs) (x ∷ xs) [] k likes normal long many same done pre before =
        absurd (omega (arith, long))
    arguments f like at (v ∷ vs) (x ∷ xs) (d ∷ ds) k likes normal long many same done pre before =
        let few : length ds ≡ length xs = omega (arith, long, many) in
        let frames : List (FlatFrame Coercion) = EnterFrame f done (pendings vs ds) ∷ CastFrame e ∷ base in
        let r = argument_cast k d ds x xs (onto pre []) few normal.0 frames
        (λ u y like_u head_u q.
        let r = arguments f like at vs xs ds (suc k) likes.1 normal.1 (omega (arith, long)) (omega (arith, many)) next
        (u ∷ done) (y ∷ pre) (like_u, before) in (
          suc r.0,
          λ t settled n credit le. (
            tt,
            calm k d ds x xs (onto pre []) few t settled n,
            (
              refl,
              stays setting l procs casts m s (Done k d ds x xs (onto pre []) few)
                  (λ left w. GoesOn r.0 (Entering f (u ∷ done) (pendings vs ds)) (CastFrame e ∷ base) (n + 0) left w)
                  no_cost credit n (n + 0) t (calm k d ds x xs (onto pre []) few t settled)
                  (r.1 t settled.stands (subst (λ ys. InTurn (suc k) ds xs ys t) (sym (onto_before pre (y ∷ [])))
                  (comes_so k d ds x xs (onto pre []) few (Gives y) q (gives_some y) t settled)) (n + 0) (credit + 0)),
            ),
          ),
        )) v likes.0
        (ap (λ o. head_at setting l procs places objects o) (same 0 ∙ ap (slice_get all) no_more)) in (
          suc r.0,
          λ t stands turn n credit.
              one_turn f like done (pendings (v ∷ vs) (d ∷ ds)) r.0 t stands n credit (
                refl,
                stays setting l procs casts m s (Done k d ds x xs (onto pre []) few)
                    (λ left w. GoesOn r.0 (Return v) (CastFrame d ∷ frames) (n + 0) left w) no_cost credit n (n + 0) t
                    (calm_as setting l procs casts m s t stands) (r.1 t stands turn (n + 0) (credit + 0)),
              ),
        )
      where
        no_more : k + 0 ≡ k
        no_more = omega arith

        next : (i : ℕ) → slice_get vs i ≡ slice_get all (suc k + i)
        next i = let z : k + suc i ≡ suc k + i = omega arith in same (suc i) ∙ ap (slice_get all) z

  -- ---- a call through a proxy, and what comes back

  abbrev called_with : ℕ → List ℕ → LowState
  called_with w ws = entered s (apply_proc (cast_number first)) (handed w ws)

  is_ready : IsReady setting l first
  is_ready = record { placed = placed; stand = ready; types = types }

  abbrev Called : FlatAfter Coercion → LowState → Type 0
  Called x te =
      Serves merged_meaning setting l procs casts m s
      (Calls merged_meaning setting l procs casts m s places objects base) x acting number 0 te

  -- told the casts of its arguments and of its answer
  module _ (v : FlatValue Coercion) (cast : Coercion) (w : ℕ) (c : C (RunWrap v cast) w)
      (vs : List (FlatValue Coercion)) (ws : List ℕ) (cs : Cs vs ws) (few : length vs ≤ 6) (ds : List Coercion)
      (e : Coercion) (split : function_parts cast ≡ Some (ds, e)) (long : length ds ≡ length vs) where
    seen : (a : ℕ) × L v (Solid a) × Carries l objects (Proxied a cast) w × WrapsKind l objects cast a
    seen =
        let z = like_wrapped setting l procs places objects placed (heap_of s) here.filled v cast [] w c in
        (z.1, z.2, z.3, z.4)

    parts : AllNormal (rows_of l.types) ds
        × (code : ℕ) × (rest : List ℕ)
        × There l objects seen.0 (Fixed (closure_header (suc (length rest))) (code ∷ rest))
    parts = of_function l objects seen.0 cast ds e split seen.2.5.normal seen.3

    closure : (head address : ℕ) × (words : List ℕ) × There l objects seen.0 (Fixed head (address ∷ words))
        × CodeAt setting l procs places objects v address
    closure =
        called setting l procs places objects placed (heap_of s) here.filled v seen.0 seen.1 parts.1 parts.2 parts.3

    given : (ms : List (Merged ℕ)) × Ls vs ms × RtCarried l (IsVery l) objects ms ws × (length ms ≡ length vs)
    given = all_like setting l procs places objects placed (heap_of s) here.filled vs ws cs

    abbrev heads_of : ℕ → ℕ → TypeHead
    heads_of k b = head_at setting l procs places objects (slice_get vs k)

    call_made : Called (On (Entering v [] (pendings vs ds)) (CastFrame e ∷ base) store s.world) (called_with w ws)
    call_made =
        let z = calls_are_made ending_of setting l first s refl is_ready tallest objects rt_filled heads_of seen.0 cast
        ds e split given.0 w ws seen.2 given.2 (let q = given.3 in omega (arith, q, few))
        (let q = given.3 in omega (arith, q, long)) closure.0 closure.1 closure.2 closure.3 in
        let r = arguments seen.0 e vs closure.1 v seen.1 closure.4 vs given.0 ds 0 given.1 parts.0 long given.3
        (λ i. let z : i ≡ 0 + i = omega arith in ap (slice_get vs) z) [] [] tt in (
          r.0,
          (
            refl,
            lands setting l procs casts m s (called_with w ws) refl refl (4 * l.tallest + 7) 0 9 0 (omega arith)
                (called_with w ws) refl
                (InTurn seen.0 e vs closure.1 0 ds given.0 []) z.0 z.2 z.3 acting 0 (omega arith) (omega arith) number
                (number + 0)
                (λ left u. GoesOn seen.0 e vs closure.1 r.0 (Entering v [] (pendings vs ds)) (CastFrame e ∷ base)
                (number + 0) left u) (λ u room x. r.1 u (stands_at seen.0 e vs closure.1 u room
                (at_argument seen.0 e vs closure.1 0 ds given.0 [] (long ∙ sym given.3) u x)) x (number + 0) 0),
          ),
        )

  abbrev entering : FlatValue Coercion → Coercion → List (FlatValue Coercion) → FlatAfter Coercion
  entering v cast vs =
      flat_turn procs (merging l.types casts) store s.world (Entering (RunWrap v cast) [] (all_plain vs)) base

  calls_for : (v : FlatValue Coercion) (cast : Coercion) (w : ℕ) → C (RunWrap v cast) w
      → (vs : List (FlatValue Coercion)) (ws : List ℕ) → Cs vs ws → length vs ≤ 6
      → Called (entering v cast vs) (called_with w ws)
  calls_for v cast w c vs ws cs few = by_parts (function_parts cast) refl
    where
      by_casts : (ds : List Coercion) (e : Coercion) → function_parts cast ≡ Some (ds, e)
          → (cast_all (all_plain vs) ds ≡ None)
          ⊎ ((cast_all (all_plain vs) ds ≡ Some (pendings vs ds)) × (length ds ≡ length vs))
          → Called (on_some (cast_all (all_plain vs) ds)
          (λ todo. On (Entering v [] todo) (CastFrame e ∷ base) store s.world)) (called_with w ws)
      by_casts ds e split (inl none) =
          subst (λ o. Called (on_some o (λ todo. On (Entering v [] todo) (CastFrame e ∷ base) store s.world))
          (called_with w ws)) (sym none) (0, refl)
      by_casts ds e split (inr some) =
          subst (λ o. Called (on_some o (λ todo. On (Entering v [] todo) (CastFrame e ∷ base) store s.world))
          (called_with w ws)) (sym some.0) (call_made v cast w c vs ws cs few ds e split some.1)

      by_parts : (o : Option (List Coercion × Coercion)) → function_parts cast ≡ o
          → Called (on_some o (λ parts. on_some (cast_all (all_plain vs) parts.0)
          (λ todo. On (Entering v [] todo) (CastFrame parts.1 ∷ base) store s.world))) (called_with w ws)
      by_parts None split = (0, refl)
      by_parts (Some parts) split = by_casts parts.0 parts.1 split (all_cast vs parts.0)

  -- the procedure that waits goes on with the word of an answer
  module _ (waiting : Waiting) (c : Coercion) (waits : merged_resumes setting l objects waiting (c ∷ []))
      (v : FlatValue Coercion) (w : ℕ) (carried : C v w) where
    abbrev resumed : LowState
    resumed = record s { active = with_local waiting.answer w waiting.rest }

    answer : (x : Merged ℕ) × L v x × Carries l objects x w
    answer = like_of setting l procs places objects placed (heap_of s) here.filled v w carried

    abbrev answer_head : TypeHead
    answer_head = solid_head setting l procs places objects v

    abbrev answer_of : Outcome ℕ
    answer_of = cast_value (λ b. answer_head) l.types c answer.0

    answer_begins : Walking setting l procs casts m measured placed s places objects store number here base
        resumed_leaves answer_head answer_of (cast_words_of l c answer.0) (cast_price_of l c answer.0 + 70) resumed
    answer_begins =
        by_law setting l procs casts m s (answer_of ≡ Stuck) (stuck_or_not answer_of)
        (ChainComes setting l procs casts m measured placed s places objects store number here base resumed_leaves
        answer_head answer_of)
        (chain_stands setting l procs casts m measured placed s places objects store number here base resumed_leaves
        answer_head answer_of) (4 * l.tallest + 6) (cast_words_of l c answer.0)
        (cast_price_of l c answer.0 + 70) (omega arith) resumed
        (record { objects = objects; filled = rt_filled; same = refl; room = omega arith }) refl
        (λ some.
        let z = answers_are_cast ending_of setting l waits.0 s refl
        (record { placed = placed; stand = waits.1; types = types }) tallest objects rt_filled (λ b. answer_head)
        waiting c waits.2 answer.0 w answer.2 answer_of refl some in
        (z.0, z.2, z.3))

    answer_cast : Answers merged_meaning setting l procs casts m s resumed_leaves places objects base
        (flat_cast procs (merging l.types casts) store s.world v c base)
        (cast_cost procs (merging l.types casts) prices (Some c) v) number
        (decision_wraps (decision_at procs (merging l.types casts) (Some c) v)) resumed
    answer_cast =
        cast_answers setting l procs casts m measured placed s places objects store number here base resumed_leaves
        answer_head answer_of (cast_words_of l c answer.0) (cast_price_of l c answer.0 + 70) c waits.2.low.normal v
        answer.0 answer.1 refl refl resumed answer_begins
        (cast_fits l m measured 70 resumed_leaves c answer.0 0 (omega arith) (omega arith)) number

-- Calls of functions through proxies are made by apply, and what they give is cast, wherever the procedures stand.
pub merged_calls_made : (setting : Setting) (l : Layout) (procs : List Proc) (casts : List TypeCast) (m : Measures)
    (first : ℕ) (run_by : Served) → FitsMeasures l m → Placed setting l → TypesStand l → l.tallest ≤ 65534
    → Stand setting.procs first → RefsStand setting.procs (how_many_cast_procs + first) (cast_number first)
    → run_by.apply ≡ how_many_cast_procs + ref_place Apply + first
    → CallsMade merged_meaning setting l procs casts m run_by
merged_calls_made setting l procs casts m first run_by measured placed types tallest ready refs number_is = record {
  proc = apply_proc (cast_number first);
  stands =
      let z : how_many_cast_procs + ref_place Apply + first ≡ ref_place Apply + (how_many_cast_procs + first) =
      omega arith in
      stands_as setting run_by.apply (apply_proc (cast_number first)) (ap (slice_get setting.procs) (number_is ∙ z)
      ∙ refs (ref_place Apply) (apply_proc (cast_number first)) refl) refl;
  calls = λ s number places objects store here base v cast w c vs ws cs few.
      subst (λ words. Serves merged_meaning setting l procs casts m s
      (Calls merged_meaning setting l procs casts m s places objects base)
      (flat_turn procs (merging l.types casts) store s.world (Entering (RunWrap v cast) [] (all_plain vs)) base)
      (act_cost procs (merging l.types casts) (merged_prices l.types (merging l.types casts) m)) number
      0 (entered s (apply_proc (cast_number first)) words)) (handed_is w ws)
      (calls_for setting l procs casts m measured first placed types tallest ready s number places objects store here
      base v cast w c vs ws cs few);
  goes_on = λ s number places objects store here base waiting cast results resumes v w c.
      answered s number places objects store here base waiting cast results resumes v w c;
}
  where
    answered : (s : LowState) (number : ℕ) (places : List ℕ) (objects : List Object) (store : FlatStore Coercion)
        → Here merged_meaning setting l procs casts m places objects store number (heap_of s)
        → (base : List (FlatFrame Coercion)) (waiting : Waiting) (cast : Coercion) (results : List Coercion)
        → merged_resumes setting l objects waiting (cast ∷ results) → (v : FlatValue Coercion) (w : ℕ)
        → CarriedIn l setting.address procs merged_meaning places objects v [] w
        → (waiting.answer < waiting.rest.count)
        × Answers merged_meaning setting l procs casts m s resumed_leaves places objects base
        (flat_cast procs (merging l.types casts) store s.world v cast (casts_onto results base))
        (cast_cost procs (merging l.types casts) (merged_prices l.types (merging l.types casts) m) (Some cast) v) number
        (decision_wraps (decision_at procs (merging l.types casts) (Some cast) v))
        (record s { active = with_local waiting.answer w waiting.rest })
    answered s number places objects store here base waiting cast (other ∷ results) resumes v w c = absurd resumes
    answered s number places objects store here base waiting cast [] resumes v w c =
        let z = answer_cast setting l procs casts m measured first placed types tallest ready s number places objects
        store here base waiting cast resumes v w c in
        (resumes.2.room, z)
