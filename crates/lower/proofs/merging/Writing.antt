-- The procedure write of the merged scheme does what the operators that write boxes and elements of vectors do.
use Rattle.std.proofs.Common.{◌≡◌, inl, inr, ℕ, zero, suc, ◌+◌, ◌*◌, ◌^◌, ◌<◌, ◌≤◌, ℤ, pos, negsuc, List, [], ◌∷◌}
use Rattle.std.proofs.Common.{length}
use Rattle.std.proofs.Common.{Some, None, Option, Bool, true, false, refl, sym, ap, ◌∙◌, subst, arith, slice_get}
use Rattle.std.proofs.Common.{◌⊎◌, append-nil, le_refl}
use Rattle.std.specs.Prelude.{option_map, ◌++◌, slice_set}
use Rattle.grift_base.specs.Types.{TypeHead, IntHead, BoolHead, UnitHead}
use Rattle.grift_base.specs.declared.operators.PrimOp.TheVariants.{BoxSet, VectorSet}
use Rattle.grift_base.specs.declared.verdicts.Trap.TheVariants.{Index}
use Rattle.grift_base.specs.declared.places.Pos.{Pos}
use Rattle.grift_base.specs.declared.verdicts.Verdict.TheVariants.{Blame}
use Rattle.run_laws.specs.Runs.{Verdict as EndsWith}
use Rattle.run_laws.specs.Machines.{Reaches}
use Rattle.machine_words.specs.Memory.{Memory, store_bytes}
use Rattle.machine_words.specs.Halts.{ending_of}
use Rattle.core_calc.specs.Account.{Measures}
use Rattle.low_ir.specs.Prices.{CostsAtMost}
use Rattle.low_ir.specs.Run.{Setting, LowState, low_machine, entered}
use Rattle.coercion_norm.specs.Coercions.{Coercion, Id, Fail, Middle, Inject, Project, rows_of}
use Rattle.coercion_norm.specs.declared.middles.MiddleKind.TheVariants.{Fun, Tup, Ref, Vec}
use Rattle.cast_modes.specs.Modes.{TypeCast}
use Rattle.coercion_norm.specs.Normal.{IsNormal}
use Rattle.coercion_norm.specs.MergedMode.{merging, cell_coercion}
use Rattle.cast_modes.specs.RunValues.{RunInt, RunBool, RunUnit, RunFun, RunTuple, RunLoc, RunWrap, RunInject}
use Rattle.cast_modes.specs.RunValues.{in_row}
use Rattle.cast_modes.specs.ValueSteps.{Return, On, TrapOf, NoNext, CastFrame, PrimFrame, on_some}
use Rattle.cast_modes.specs.ValueSteps.{run_writes_cell}
use Rattle.coercion_norm.specs.Objects.{Object, Fixed, Cell, object_at}
use Rattle.coercion_norm.specs.ObjectsOfRows.{header}
use Rattle.coercion_norm.specs.Held.{Layout, TypesStand, There}
use Rattle.coercion_norm.proofs.Public.{object_kept, found_within}
use Rattle.flat_ir.specs.Bodies.{Proc}
use Rattle.flat_ir.specs.Counts.{flat_turn_wraps}
use Rattle.flat_ir.specs.FlatTally.{act_cost, flat_cost}
use Rattle.coer_core.specs.TurnPrices.{merged_prices}
use Rattle.flat_ir.specs.Machine.{FlatValue, FlatFrame, FlatAfter, flat_operate, flat_turn, flat_arity, flat_entered}
use Rattle.rt_cast.specs.ComposeCodes.{cast}
use Rattle.rt_cast.specs.LightCasts.{cast_words_of, cast_price_of}
use Rattle.rt_cast.specs.Objects.{HoldsWords}
use Rattle.rt_cast.specs.Procs.{Stand}
use Rattle.rt_cast.specs.States.{Placed, Within, heap_of}
use Rattle.rt_cast.specs.Carried.{IsVery, Carries}
use Rattle.rt_cast.specs.MergedValues.{Merged, Base, Solid, Proxied, InDyn, Outcome, Stuck, Gives, Blames, cast_value}
use Rattle.rt_cast.specs.MergedValues.{then_outcome}
use Rattle.rt_refs.specs.CellCodes.{write_proc}
use Rattle.reference_laws.specs.CellLaws.{WroteAt, WriteComes, OnTheWayWriting, cell_behind, under}
use Rattle.reference_laws.proofs.Public.{elements_are_written, box_writes_are_blamed, writes_outside_trap}
use Rattle.lowered_code.specs.declared.served.Served.{Served}
use Rattle.lower.specs.MergedMeaning.{merged_meaning, WrapsKind}
use Rattle.lower.specs.Storage.{Filled}
use Rattle.lower.specs.CarriedValues.{CarriedIn, AreCarried, CellsHeld, CellHeld}
use Rattle.lower.specs.Keeping.{FitsMeasures}
use Rattle.lower.specs.SchemeLaws.{Here, StopsNow, After, Goes, ReturnsAt, Answers, IsPending}
use Rattle.lower.specs.SchemeLaws.{OperatorDone, at_or_zero, operator_leaves}
use Rattle.lower.proofs.heap.CarriedLater.{cells_later, cells_below, carried_small, all_later, function_there}
use Rattle.lower.proofs.heap.Cells.{cells_stored, as_many_cells, set_length, words_stored, there_same}
use Rattle.lower.proofs.heap.Objects.{none_some, words_same, box_header, vector_header, tuple_header}
use Rattle.lower.proofs.merging.MeaningLaws.{merged_laws}
use Rattle.lower.proofs.merging.Like.{Like, solid_head, like_of, like_back, solid}
use Rattle.lower.proofs.merging.Reading.{no_proxy, solid_same}
use Rattle.lower.proofs.merging.Bounds.{Fits, cast_fits}
use Rattle.lower.proofs.merging.Chains.{stuck_or_not, gives_some, blames_some}
use Rattle.lower.proofs.merging.Stages.{HasRoom, Calm, Stands, Stage, Settled, Begun, at_end, begun, settled_calm}
use Rattle.lower.proofs.merging.Stages.{calm_as, stays, takes, trapped_at, by_writing_law}
use Rattle.lower.proofs.merging.Turns.{cell_part_normal, Ends, ends_cast, skips}
use Rattle.lower.proofs.merging.States.{element_past, past_element, element}
use Rattle.lower.proofs.words.Arithmetic.{positive_is, negative_is}
use Rattle.lower.proofs.merging.States.{blame_stops}
use Rattle.lower.proofs.merging.States.{Situation, situated, speech, cell_here, filled_as, counted}

-- ---- a word of a list, and an element of a cell

element_inside : {A : Type 0} (xs : List A) (i : ℕ) (x : A) → slice_get xs i ≡ Some x → i < length xs
element_inside [] i x e = none_some e
element_inside (y ∷ xs) zero x e = omega arith
element_inside (y ∷ xs) (suc i) x e = let z = element_inside xs i x e in omega (arith, z)

blames_or_gives : (label : ℕ) (y : Merged ℕ) (r : Outcome ℕ) → r ≡ Blames label → r ≡ Gives y → ⊥
blames_or_gives label y r e f = cc

no_base : (a : ℕ) (head : TypeHead) (x : ℕ) → Solid a ≡ Base head x → ⊥
no_base a head x e = cc

no_dyn : (a kept : ℕ) (u : Merged ℕ) → Solid a ≡ InDyn kept u → ⊥
no_dyn a kept u e = cc

fixed_or_cell : (x y : ℕ) (ws : List ℕ) (n : ℕ) → Fixed x ws ≡ Cell y n → ⊥
fixed_or_cell x y ws n e = cc

module _ (setting : Setting) (l : Layout) (procs : List Proc) (casts : List TypeCast) (m : Measures)
    (situation : Situation setting l procs casts m) (region : l.region ≡ setting.region) where
  open situation use {measured, first, placed, types, tallest, ready, s, number, places, objects, store, here, base}
  open (speech setting l procs casts m situation) use {rt_filled, is_ready, acting, aim}
  open (speech setting l procs casts m situation) use {C, Cs, element_here, with_element}

  abbrev deep : ℕ
  deep = 4 * l.tallest + 7

  abbrev Turned : LowState → ℕ → FlatAfter Coercion → ℕ → ℕ → Type 0
  Turned te j x credit n =
      After merged_meaning setting l procs casts m s (Goes merged_meaning setting l procs casts m s aim j) x acting
      credit n 0 te

  -- the turns go to a return, behind one that is an act
  abbrev Does : LowState → FlatAfter Coercion → ℕ → Type 0
  Does te x n = (j : ℕ) × Turned te j x 0 n

  abbrev writes_at : ℕ → ℕ → ℕ → ℕ → LowState
  writes_at which wv wi w = entered s (write_proc (cast first)) (which ∷ wv ∷ wi ∷ w ∷ [])

  stands_at : (which wv wi w : ℕ) → Stands setting l procs casts m s (writes_at which wv wi w)
  stands_at which wv wi w = record { objects = objects; filled = rt_filled; same = refl; room = omega arith }

  abbrev turn : List (FlatValue Coercion) → List (FlatFrame Coercion) → FlatAfter Coercion
  turn vs frames = flat_operate procs (merging l.types casts) store s.world VectorSet vs frames

  abbrev box_turn : List (FlatValue Coercion) → List (FlatFrame Coercion) → FlatAfter Coercion
  box_turn vs frames = flat_operate procs (merging l.types casts) store s.world BoxSet vs frames

  -- ---- the walk of a law on a write to the place i of what stands at a, by what its cast comes to

  module _ (a i : ℕ) (H : TypeHead) (total : Outcome ℕ) (Nothing : Type 0) (decided : Nothing ⊎ (Nothing → ⊥))
      (sure : (label : ℕ) → total ≡ Blames label → Nothing → ⊥) where
    abbrev Comes : LowState → Type 0
    Comes t = WriteComes setting l s (IsVery l) objects a i total t

    stands_so : (r : Outcome ℕ) (t : LowState) → WriteComes setting l s (IsVery l) objects a i r t
        → HasRoom setting l procs casts m s t → Stands setting l procs casts m s t
    stands_so Stuck t c few = absurd c
    stands_so (Gives x) t c few = record { objects = c.new; filled = c.filled; same = c.same; room = few }
    stands_so (Blames label) t c few =
        record { objects = c.new; filled = c.fine.filled; same = c.same; room = few }

    comes_stands : (t : LowState) → Comes t → HasRoom setting l procs casts m s t
        → Stands setting l procs casts m s t
    comes_stands t c few = stands_so total t c few

    abbrev Done : LowState → Type 0
    Done = Settled setting l procs casts m s Nothing decided Comes comes_stands

    calm : (t : LowState) → Done t → Calm setting l procs casts m s t
    calm t done = settled_calm setting l procs casts m s Nothing decided Comes comes_stands t done

    abbrev ended : Stage setting l procs casts m s Done
    ended = at_end setting l procs casts m s Done calm

    abbrev walk : ℕ → ℕ → Stage setting l procs casts m s Done
    walk words price = begun setting l procs casts m s Nothing decided Comes comes_stands words price

    abbrev Walking : ℕ → ℕ → LowState → Type 0
    Walking words price t = Begun setting l procs casts m s Nothing decided Comes comes_stands words price t

    comes_so : (r : Outcome ℕ) → total ≡ r → (Nothing → ⊥) → (t : LowState) → Done t
        → WriteComes setting l s (IsVery l) objects a i r t
    comes_so r e some t done =
        subst (λ x. WriteComes setting l s (IsVery l) objects a i x t) e (done.comes some)

    stops_so : (label : ℕ) → total ≡ Blames label → (t : LowState) → Done t → (n : ℕ) (place : Pos)
        → slice_get setting.labels label ≡ Some place
        → StopsNow merged_meaning setting l procs casts m s n (EndsWith (Blame place)) t
    stops_so label e t done n place found_it =
        blame_stops setting l procs casts m s objects n label place found_it t
        (comes_so (Blames label) e (sure label e) t done)

    abbrev Later : ℕ → List (FlatFrame Coercion) → Type 0
    Later need frames =
        Ends setting l procs casts m measured s places objects store aim H total Done calm stops_so ended
        (λ x credit. need ≤ credit) frames (λ o. o)

    -- the value is cast first, and the walk is done in a turn of that cast
    cast_by : (words price : ℕ) (d : Coercion) → IsNormal (rows_of l.types) d → (frames : List (FlatFrame Coercion))
        → Later 0 frames → (v : FlatValue Coercion) (x : Merged ℕ) → Like setting l procs places objects v x
        → solid_head setting l procs places objects v ≡ H → total ≡ cast_value (λ b. H) l.types d x → (te : LowState)
        → Walking words price te → Fits (rows_of l.types) m words price 0 d x 896 → (n : ℕ)
        → Does te (On (Return v) (CastFrame d ∷ frames) store s.world) n
    cast_by words price d normal frames ends v x k h e te ready fits n =
        let r = skips setting l procs casts m measured s places objects store aim H total Done calm stops_so
        (walk words price) acting (λ y c. Fits (rows_of l.types) m words price 0 d y c) (CastFrame d ∷ frames)
        (λ o. then_outcome o (cast_value (λ b. H) l.types d))
        (ends_cast setting l procs casts m measured s places objects store aim H total Done calm stops_so
        (walk words price) 0 d normal frames (λ o. o) (λ label. refl) ends) v x k h e in
        (r.0, r.1 te ready n 0 0 fits)

  -- what is carried in a row, with another element
  carried_set : (os : List Object) (vs : List (FlatValue Coercion)) (ws : List ℕ) (i : ℕ) (v : FlatValue Coercion) (w
      : ℕ)
      → AreCarried l setting.address procs merged_meaning places os (in_row vs) ws
      → CarriedIn l setting.address procs merged_meaning places os v [] w
      → AreCarried l setting.address procs merged_meaning places os (in_row (slice_set vs i v)) (slice_set ws i w)
  carried_set os [] [] i v w c cv = tt
  carried_set os [] (x ∷ ws) i v w c cv = absurd c
  carried_set os (u ∷ vs) [] i v w c cv = absurd c
  carried_set os (u ∷ vs) (x ∷ ws) zero v w c cv = (cv, c.1)
  carried_set os (u ∷ vs) (x ∷ ws) (suc i) v w c cv = (c.0, carried_set os vs ws i v w c.1 cv)

  -- ---- a cell of the store, at an address, seen through its proxy, if it has one

  module _ (is_vector : Bool) (cell : ℕ) (values : List (FlatValue Coercion))
      (in_store : slice_get store cell ≡ Some values) (a : ℕ) (c : C (RunLoc cell is_vector) a) (x : Merged ℕ) (wv : ℕ)
      (hv : Carries l objects x wv) where
    open (cell_here setting l procs casts m situation is_vector cell values in_store a c) use {
      cell_words,
      carried_words,
      long,
      stands_here,
      region_here,
    }

    -- no element is there
    outside : under x ≡ Some a → (i w : ℕ) → slice_get values i ≡ None → (n : ℕ)
        → Does (writes_at 1 wv i w) (TrapOf Index s.world) n
    outside below i w none n =
        let p = element_past values i none in
        let q = long in
        let z = writes_outside_trap ending_of setting l first s refl is_ready tallest objects rt_filled x wv hv a below
        cell_words stands_here 1 i w refl (omega (arith, p, q)) in (
          0,
          trapped_at setting l procs casts m s (Goes merged_meaning setting l procs casts m s aim 0) Index 0 73
              (omega arith) (writes_at 1 wv i w) refl z.0 z.2 z.3 acting 0 (omega arith) n,
        )

    -- a value is written over an element, cast by the part of the proxy's coercion
    module _ (d : Coercion) (behind : cell_behind 1 x ≡ Some (a, d)) (normal : IsNormal (rows_of l.types) d)
        (which i : ℕ) (old : FlatValue Coercion) (got : slice_get values i ≡ Some old) (v : FlatValue Coercion) (w : ℕ)
        (cv : C v w) where
      abbrev te : LowState
      te = writes_at which wv i w

      abbrev head_of_it : TypeHead
      head_of_it = solid_head setting l procs places objects v

      old_word : (x : ℕ) × (slice_get cell_words i ≡ Some x) × C old x
      old_word = element setting l procs casts m places objects values cell_words carried_words i old got

      like : (y : Merged ℕ) × Like setting l procs places objects v y × Carries l objects y w
      like = like_of setting l procs places objects placed (heap_of s) here.filled v w cv

      abbrev what : Outcome ℕ
      what = cast_value (λ b. head_of_it) l.types d like.0

      abbrev wide : ℕ
      wide = cast_words_of l d like.0

      abbrev dear : ℕ
      dear = cast_price_of l d like.0 + 147

      some_blame : (label : ℕ) → what ≡ Blames label → what ≡ Stuck → ⊥
      some_blame label e q = blames_some label what e q

      abbrev DoneHere : LowState → Type 0
      DoneHere = Done a i head_of_it what (what ≡ Stuck) (stuck_or_not what) some_blame

      begins : Walking a i head_of_it what (what ≡ Stuck) (stuck_or_not what) some_blame wide dear te
      begins =
          by_writing_law setting l procs casts m s (what ≡ Stuck) (stuck_or_not what)
          (Comes a i head_of_it what (what ≡ Stuck) (stuck_or_not what) some_blame)
          (comes_stands a i head_of_it what (what ≡ Stuck) (stuck_or_not what) some_blame) deep wide dear (omega arith)
          te (stands_at which wv i w) refl
          (λ some.
          let z = elements_are_written ending_of setting l first s refl is_ready tallest objects rt_filled region
          (λ b. head_of_it) x wv hv a d behind cell_words region_here which i w old_word.0 old_word.1 like.0 like.2 what
          refl some in (z.0, z.2, z.3))

      -- the store with what it is cast to
      module _ (u : FlatValue Coercion) (y : Merged ℕ) (like_u : Like setting l procs places objects u y) (n : ℕ)
          (t : LowState) (g : WroteAt setting l s (IsVery l) objects a i y t) where
        abbrev new : List Object
        new = objects ++ g.grows.more

        abbrev bytes : Memory
        bytes = store_bytes 8 g.before.memory (a + 8 * i + 8) g.word

        stored_there : t.memory ≡ bytes
        stored_there = g.memory ∙ ap (λ p. store_bytes 8 g.before.memory (p + 8 * i + 8) g.word) g.held.is

        full : Filled merged_meaning setting l n new (heap_of t)
        full = subst (λ os. Filled merged_meaning setting l n os (heap_of t)) g.grows.is
            (filled_as setting l n g.new (heap_of t) g.filled)

        carried_u : CarriedIn l setting.address procs merged_meaning places new u [] g.word
        carried_u =
            like_back setting l procs places objects g.grows.more u y like_u g.word
            (subst (λ os. Carries l os y g.word) g.grows.is g.carried)

        small_word : g.word < 2 ^ 64
        small_word =
            carried_small l setting.address procs merged_meaning merged_laws places new setting placed (heap_of t)
            full u
            g.word carried_u

        inside : i < length cell_words
        inside = element_inside cell_words i old_word.0 old_word.1

        abbrev head_word : ℕ
        head_word = header region_here.kind 0 (length cell_words)

        there : object_at new l.region a ≡ Some (Cell head_word (length cell_words))
        there = object_kept objects g.grows.more l.region a (Cell head_word (length cell_words)) region_here.is

        cells_before : CellsHeld l setting.address procs merged_meaning places new g.before.memory places store
        cells_before =
            cells_later l setting.address procs merged_meaning merged_laws places objects g.grows.more g.before.memory
            places store
            (cells_below l setting.address procs merged_meaning merged_laws places objects setting placed (heap_of s)
            here.filled g.before.memory g.fine.kept places store here.cells)

        -- the cell's words at that moment
        words_before : HoldsWords g.before.memory (a + 8) cell_words
        words_before =
            let z = found_within objects l.region a (Cell head_word (length cell_words)) region_here.is in
            words_same s.memory g.before.memory (a + 8) cell_words
            (λ j p q. g.fine.kept j (omega (arith, q, z.high, here.filled.ends))) region_here.held

        cell_after : CellHeld l setting.address procs merged_meaning places new bytes a (slice_set values i u)
        cell_after = record {
          head = head_word;
          words = slice_set cell_words i g.word;
          is = there ∙ ap (λ k. Some (Cell head_word k)) (sym (set_length cell_words i g.word));
          held = words_stored g.before.memory (a + 8) (a + 8 * i + 8) g.word cell_words i small_word inside (omega
              arith)
              words_before;
          carried = carried_set new values cell_words i u g.word
              (all_later l setting.address procs merged_meaning merged_laws places objects g.grows.more (in_row values)
              cell_words carried_words) carried_u;
        }

        cells_after : CellsHeld l setting.address procs merged_meaning places new t.memory places
            (slice_set store cell (slice_set values i u))
        cells_after =
            subst (λ b. CellsHeld l setting.address procs merged_meaning places new b places
            (slice_set store cell (slice_set values i u))) (sym stored_there)
            (cells_stored l setting.address procs merged_meaning places new g.before.memory a head_word (length
            cell_words)
            (a + 8 * i + 8) g.word there (omega arith) (let z = inside in omega (arith, z)) 0 places store
            cells_before cell
            c.1 (slice_set values i u) cell_after)

        returns : ReturnsAt merged_meaning setting l procs casts m s places objects RunUnit
            (slice_set store cell (slice_set values i u)) n t
        returns = record {
          cells = [];
          more = g.grows.more;
          here = subst (λ ps. Here merged_meaning setting l procs casts m ps new
              (slice_set store cell (slice_set values i u)) n (heap_of t)) (sym (append-nil places))
              (record { filled = full; cells = cells_after });
          word = 0;
          carried = refl;
          source = g.source;
          code = g.code;
          is = g.is;
          waits = g.waits;
          same = g.same;
        }

      -- the state in which the cell is written
      written : (u : FlatValue Coercion) (y : Merged ℕ) → Like setting l procs places objects u y → what ≡ Gives y
          → (n left : ℕ) → operator_leaves ≤ left → (t : LowState) → DoneHere t
          → aim (Return RunUnit) base (slice_set store cell (slice_set values i u)) n left t
      written u y like_u e n left le t done = (
        refl,
        le,
        returns u y like_u n t
            (comes_so a i head_of_it what (what ≡ Stuck) (stuck_or_not what) some_blame (Gives y) e
            (λ q. gives_some y (sym e ∙ q)) t done),
      )

      -- the turn in which it is, behind the walk
      wrote : (u : FlatValue Coercion) (y : Merged ℕ) → Like setting l procs places objects u y → what ≡ Gives y
          → (n credit : ℕ) (t : LowState) → DoneHere t
          → Turned t 0 (On (Return RunUnit) base (slice_set store cell (slice_set values i u)) s.world) credit n
      wrote u y like_u e n credit t done = (
        refl,
        stays setting l procs casts m s DoneHere
            (λ left v. aim (Return RunUnit) base (slice_set store cell (slice_set values i u)) (n + 0) left v) acting
            credit n (n + 0) t
            (calm a i head_of_it what (what ≡ Stuck) (stuck_or_not what) some_blame t done)
            (written u y like_u e (n + 0) (credit + acting.budget) (omega arith) t done),
      )

      -- told that Id is no cast, the walk is done in this turn; and else the value is cast first
      bare_write : what ≡ Gives like.0 → wide ≤ 0 → dear ≤ 300 → (n : ℕ)
          → Does te (On (Return RunUnit) base (slice_set store cell (slice_set values i v)) s.world) n
      bare_write same few cheap n = (
        0,
        (
          refl,
          takes setting l procs casts m s DoneHere
              (walk a i head_of_it what (what ≡ Stuck) (stuck_or_not what) some_blame wide dear)
              (λ left u. aim (Return RunUnit) base (slice_set store cell (slice_set values i v)) (n + 0) left u) acting
              operator_leaves 0 n (n + 0) te begins few (omega (arith, cheap))
              (λ u done. written v like.0 like.1 same (n + 0) operator_leaves (le_refl operator_leaves) u done),
        ),
      )

      cast_first : (frames : List (FlatFrame Coercion))
          → Later a i head_of_it what (what ≡ Stuck) (stuck_or_not what) some_blame 0 frames → (n : ℕ)
          → Does te (On (Return v) (CastFrame d ∷ frames) store s.world) n
      cast_first frames ends n =
          cast_by a i head_of_it what (what ≡ Stuck) (stuck_or_not what) some_blame wide dear d normal frames ends v
          like.0 like.1 refl refl te begins (cast_fits l m measured 147 0 d like.0 896 (omega arith) (omega arith)) n

      -- the same where the walk is done in the turn behind the cast
      cast_then : (frames : List (FlatFrame Coercion))
          → ((u : FlatValue Coercion) → IsPending merged_meaning setting l procs casts m s (Return u) frames)
          → ((u : FlatValue Coercion) (y : Merged ℕ) → Like setting l procs places objects u y → what ≡ Gives y
          → (n credit : ℕ) (t : LowState) → DoneHere t
          → After merged_meaning setting l procs casts m s (Goes merged_meaning setting l procs casts m s aim 0)
          (flat_turn procs (merging l.types casts) store s.world (Return u) frames)
          (flat_cost procs (merging l.types casts) (merged_prices l.types (merging l.types casts) m) (Return u) frames)
          credit n (flat_turn_wraps procs (merging l.types casts) (Return u) frames) t) → (n : ℕ)
          → Does te (On (Return v) (CastFrame d ∷ frames) store s.world) n
      cast_then frames pending last =
          cast_first frames (λ u y like_u head is. (
            1,
            λ t done n credit le. (
              pending u,
              calm_as setting l procs casts m s t done.stands n,
              last u y like_u is n credit t done,
            ),
          ))

  -- ---- elements of vectors

  -- of a vector in the store, told what is done with the element
  module _ (cell : ℕ) (values : List (FlatValue Coercion)) (in_store : slice_get store cell ≡ Some values) (a : ℕ)
      (c : C (RunLoc cell true) a) (x : Merged ℕ) (wv : ℕ) (hv : Carries l objects x wv) (below : under x ≡ Some a)
      (w : ℕ) (n : ℕ) where
    by_index : (go : ℕ → FlatValue Coercion → FlatAfter Coercion) (i : ℕ)
        → ((old : FlatValue Coercion) → slice_get values i ≡ Some old → Does (writes_at 1 wv i w) (go i old) n)
        → (o : Option (FlatValue Coercion)) → slice_get values i ≡ o
        → Does (writes_at 1 wv i w) (element_here o i go) n
    by_index go i each None e = outside true cell values in_store a c x wv hv below i w e n
    by_index go i each (Some old) e = each old e

    by_place : (go : ℕ → FlatValue Coercion → FlatAfter Coercion) (k wi : ℕ) → C (RunInt (pos k)) wi
        → ((old : FlatValue Coercion) → slice_get values k ≡ Some old → Does (writes_at 1 wv k w) (go k old) n)
        → Does (writes_at 1 wv wi w) (with_element values (pos k) go) n
    by_place go k wi ci each =
        let is = positive_is k ci.1 in
        subst (λ y. Does (writes_at 1 wv y w) (element_here (slice_get values k) k go) n) (sym (ci.0 ∙ is.0))
        (by_index go k each (slice_get values k) refl)

    by_no_place : (k wi : ℕ) → C (RunInt (negsuc k)) wi → Does (writes_at 1 wv wi w) (TrapOf Index s.world) n
    by_no_place k wi ci =
        let high = negative_is k ci.1 in
        let word = ci.0 in
        let known = cell_here setting l procs casts m situation true cell values in_store a c in
        let many = known.long in
        let lt = known.few in
        outside true cell values in_store a c x wv hv below wi w
        (past_element values wi (omega (arith, high, word, many, lt))) n

  -- what a vector becomes
  abbrev writes_element : ℕ → List (FlatValue Coercion) → FlatValue Coercion → ℕ → FlatValue Coercion → FlatAfter
      Coercion
  writes_element cell elements u place old =
      run_writes_cell (merging l.types casts) (flat_arity procs) (flat_entered procs) store s.world cell
      (slice_set elements place u) base

  bare_vector : (cell : ℕ) (z : ℤ) (v : FlatValue Coercion) (wv wi w : ℕ) → C (RunLoc cell true) wv → C (RunInt z) wi
      → C v w → Does (writes_at 1 wv wi w) (turn (RunLoc cell true ∷ RunInt z ∷ v ∷ []) base) number
  bare_vector cell z v wv wi w c ci cv = by_store z ci (slice_get store cell) refl
    where
      very : IsVery l objects wv wv
      very = solid setting l procs places objects placed (heap_of s) here.filled (RunLoc cell true) wv c (wv, refl, c)

      by_store : (z : ℤ) → C (RunInt z) wi → (o : Option (List (FlatValue Coercion))) → slice_get store cell ≡ o
          → Does (writes_at 1 wv wi w)
          (on_some o (λ elements. with_element elements z (writes_element cell elements v))) number
      by_store z ci None e = (0, refl)
      by_store (pos k) ci (Some values) e =
          by_place cell values e wv c (Solid wv) wv very refl w number (writes_element cell values v) k wi ci
          (λ old got. bare_write true cell values e wv c (Solid wv) wv very Id refl tt 1 k old got v w cv refl
          (omega arith) (omega arith) number)
      by_store (negsuc k) ci (Some values) e =
          by_no_place cell values e wv c (Solid wv) wv very refl w number k wi ci

  -- a vector behind its proxy
  module _ (a : ℕ) (wrapper : Coercion) (wv : ℕ) (carries : Carries l objects (Proxied a wrapper) wv) (v : FlatValue
      Coercion)
      (w : ℕ) (cv : C v w) where
    behind_it : (d : Coercion) → cell_coercion 1 wrapper ≡ Some d
        → (cell_behind 1 (Proxied a wrapper) ≡ Some (a, d)) × IsNormal (rows_of l.types) d
    behind_it d e =
        (ap (λ o. option_map (λ x. (a, x)) o) e, cell_part_normal (rows_of l.types) wrapper 1 d carries.5.normal e)

    -- the value is cast, and then the vector without its proxy is written
    by_part : (cell : ℕ) (values : List (FlatValue Coercion)) (in_store : slice_get store cell ≡ Some values)
        (c : C (RunLoc cell true) a) (k : ℕ) (old : FlatValue Coercion) → slice_get values k ≡ Some old
        → (o : Option Coercion) → cell_coercion 1 wrapper ≡ o
        → Does (writes_at 1 wv k w)
        (on_some o (λ part. On (Return v) (CastFrame part ∷ PrimFrame VectorSet (RunInt (pos k) ∷ RunLoc cell true ∷ [])
        ∷ base) store s.world)) number
    by_part cell values in_store c k old got None e = (0, refl)
    by_part cell values in_store c k old got (Some d) e =
        let b = behind_it d e in
        let frames : List (FlatFrame Coercion) =
        PrimFrame VectorSet (RunInt (pos k) ∷ RunLoc cell true ∷ []) ∷ base in
        cast_then true cell values in_store a c (Proxied a wrapper) wv carries d b.0 b.1 1 k old got v w cv frames
        (λ u. tt) (λ u y like_u is n credit t done. last b u y like_u is n credit t done) number
      where
        last : (b : (cell_behind 1 (Proxied a wrapper) ≡ Some (a, d)) × IsNormal (rows_of l.types) d)
            (u : FlatValue Coercion) (y : Merged ℕ) → Like setting l procs places objects u y
            → what true cell values in_store a c (Proxied a wrapper) wv carries d b.0 b.1 1 k old got v w cv ≡ Gives y
            → (n credit : ℕ) (t : LowState)
            → DoneHere true cell values in_store a c (Proxied a wrapper) wv carries d b.0 b.1 1 k old got v w cv t
            → Turned t 0 (turn (RunLoc cell true ∷ RunInt (pos k) ∷ u ∷ []) base) credit n
        last b u y like_u is n credit t done =
            subst (λ o. Turned t 0
            (on_some o (λ elements. with_element elements (pos k) (writes_element cell elements u))) credit n)
            (sym in_store)
            (subst (λ o. Turned t 0 (element_here o k (writes_element cell values u)) credit n) (sym got)
            (wrote true cell values in_store a c (Proxied a wrapper) wv carries d b.0 b.1 1 k old got v w cv u y
            like_u is n credit t done))

    abbrev through : FlatValue Coercion → ℤ → List (FlatValue Coercion) → FlatAfter Coercion
    through vec z elements =
        with_element elements z (λ place old. on_some (cell_coercion 1 wrapper) (λ part. On (Return v)
        (CastFrame part ∷ PrimFrame VectorSet (RunInt z ∷ vec ∷ []) ∷ base) store s.world))

    in_store_by : (cell : ℕ) (c : C (RunLoc cell true) a) (z : ℤ) (wi : ℕ) → C (RunInt z) wi
        → (o : Option (List (FlatValue Coercion))) → slice_get store cell ≡ o
        → Does (writes_at 1 wv wi w) (on_some o (through (RunLoc cell true) z)) number
    in_store_by cell c z wi ci None e = (0, refl)
    in_store_by cell c (pos k) wi ci (Some values) e =
        by_place cell values e a c (Proxied a wrapper) wv carries refl w number
        (λ place old. on_some (cell_coercion 1 wrapper) (λ part. On (Return v)
        (CastFrame part ∷ PrimFrame VectorSet (RunInt (pos k) ∷ RunLoc cell true ∷ []) ∷ base) store s.world)) k wi ci
        (λ old got. by_part cell values e c k old got (cell_coercion 1 wrapper) refl)
    in_store_by cell c (negsuc k) wi ci (Some values) e =
        by_no_place cell values e a c (Proxied a wrapper) wv carries refl w number k wi ci

    by_vector : (vec : FlatValue Coercion) → Like setting l procs places objects vec (Solid a) → (z : ℤ) (wi : ℕ)
        → C (RunInt z) wi
        → Does (writes_at 1 wv wi w) (turn (RunWrap vec wrapper ∷ RunInt z ∷ v ∷ []) base) number
    by_vector (RunLoc cell true) k z wi ci =
        in_store_by cell (subst (C (RunLoc cell true)) (sym (solid_same a k.0 k.1)) k.2) z wi ci (slice_get store
        cell) refl
    by_vector (RunLoc cell false) k z wi ci = (0, refl)
    by_vector (RunInt x) k z wi ci = (0, refl)
    by_vector (RunBool x) k z wi ci = (0, refl)
    by_vector RunUnit k z wi ci = (0, refl)
    by_vector (RunFun code captured) k z wi ci = (0, refl)
    by_vector (RunTuple values) k z wi ci = (0, refl)
    by_vector (RunInject x kept) k z wi ci = (0, refl)
    by_vector (RunWrap x y) k z wi ci = absurd (no_proxy a k.0 y k.1)

    -- ---- what is in a box behind its proxy

    -- a cell is in the store
    cell_in_store : (is_vector : Bool) (cell : ℕ) → C (RunLoc cell is_vector) a → (o : Option
        (List (FlatValue Coercion)))
        → slice_get store cell ≡ o → (values : List (FlatValue Coercion)) × (slice_get store cell ≡ Some values)
    cell_in_store is_vector cell c None e =
        absurd (let p = element_past store cell e in
        let q = as_many_cells l setting.address procs merged_meaning places objects 0 s.memory places store here.cells
        in
        let r = element_inside places cell a c.1 in
        let z : ⊥ = omega (arith, p, q, r) in z)
    cell_in_store is_vector cell c (Some values) e = (values, e)

    -- a box has one value
    one_there : (cell : ℕ) → C (RunLoc cell false) a → (x : FlatValue Coercion) × (slice_get store cell ≡ Some (x ∷ []))
    one_there cell c = by_length stored.0 stored.1 many
      where
        stored : (values : List (FlatValue Coercion)) × (slice_get store cell ≡ Some values)
        stored = cell_in_store false cell c (slice_get store cell) refl

        many : length stored.0 ≡ 1
        many =
            let p =
            counted setting l procs casts m places objects placed s.memory store here.cells false cell stored.0 stored.1
            a c in
            let q = (cell_here setting l procs casts m situation false cell stored.0 stored.1 a c).long in
            sym q ∙ (sym p ∙ c.3 refl)

        by_length : (values : List (FlatValue Coercion)) → slice_get store cell ≡ Some values → length values ≡ 1
            → (x : FlatValue Coercion) × (slice_get store cell ≡ Some (x ∷ []))
        by_length [] e q = absurd (let z : ⊥ = omega (arith, q) in z)
        by_length (x ∷ []) e q = (x, e)
        by_length (x ∷ y ∷ more) e q = absurd (let z : ⊥ = omega (arith, q) in z)

    box_by_part : (cell : ℕ) (c : C (RunLoc cell false) a) (old : FlatValue Coercion)
        (in_store : slice_get store cell ≡ Some (old ∷ [])) (o : Option Coercion) → cell_coercion 1 wrapper ≡ o
        → Does (writes_at 0 wv 0 w)
        (on_some o (λ part. On (Return v) (CastFrame part ∷ PrimFrame BoxSet (RunLoc cell false ∷ []) ∷ base) store
        s.world))
        number
    box_by_part cell c old in_store None e = (0, refl)
    box_by_part cell c old in_store (Some d) e =
        let b = behind_it d e in
        cast_then false cell (old ∷ []) in_store a c (Proxied a wrapper) wv carries d b.0 b.1 0 0 old refl v w cv
        (PrimFrame BoxSet (RunLoc cell false ∷ []) ∷ base)
        (λ u. tt) (λ u y like_u is n credit t done. last b u y like_u is n credit t done) number
      where
        last : (b : (cell_behind 1 (Proxied a wrapper) ≡ Some (a, d)) × IsNormal (rows_of l.types) d)
            (u : FlatValue Coercion) (y : Merged ℕ) → Like setting l procs places objects u y
            → what false cell (old ∷ []) in_store a c (Proxied a wrapper) wv carries d b.0 b.1 0 0 old refl v w cv ≡
            Gives y
            → (n credit : ℕ) (t : LowState)
            → DoneHere false cell (old ∷ []) in_store a c (Proxied a wrapper) wv carries d b.0 b.1 0 0 old refl v w cv t
            → Turned t 0 (box_turn (RunLoc cell false ∷ u ∷ []) base) credit n
        last b u y like_u is n credit t done =
            subst (λ o. Turned t 0
            (on_some o (λ old. run_writes_cell (merging l.types casts) (flat_arity procs) (flat_entered procs) store
            s.world cell (u ∷ []) base)) credit n) (sym in_store)
            (wrote false cell (old ∷ []) in_store a c (Proxied a wrapper) wv carries d b.0 b.1 0 0 old refl v w cv u y
            like_u is n credit t done)

    box_set : (cell : ℕ) → C (RunLoc cell false) a
        → Does (writes_at 0 wv 0 w) (box_turn (RunWrap (RunLoc cell false) wrapper ∷ v ∷ []) base) number
    box_set cell c = let z = one_there cell c in box_by_part cell c z.0 z.1 (cell_coercion 1 wrapper) refl

    -- what is a vector isn't set as a box, but its proxy may blame before that is seen
    module _ (cell : ℕ) (c : C (RunLoc cell true) a) (d : Coercion)
        (b : (cell_behind 1 (Proxied a wrapper) ≡ Some (a, d)) × IsNormal (rows_of l.types) d) where
      stored_vector : (values : List (FlatValue Coercion)) × (slice_get store cell ≡ Some values)
      stored_vector = cell_in_store true cell c (slice_get store cell) refl

      abbrev box_te : LowState
      box_te = writes_at 0 wv 0 w

      abbrev head_in_box : TypeHead
      head_in_box = solid_head setting l procs places objects v

      like_it : (x : Merged ℕ) × Like setting l procs places objects v x × Carries l objects x w
      like_it = like_of setting l procs places objects placed (heap_of s) here.filled v w cv

      abbrev comes_to : Outcome ℕ
      comes_to = cast_value (λ b. head_in_box) l.types d like_it.0

      -- it says something where a label is blamed
      abbrev Silent : Type 0
      Silent = (label : ℕ) → comes_to ≡ Blames label → ⊥

      silent_or_not : (r : Outcome ℕ) → comes_to ≡ r → Silent ⊎ (Silent → ⊥)
      silent_or_not Stuck e = inl (λ label q. blames_some label comes_to q e)
      silent_or_not (Gives y) e = inl (λ label q. blames_or_gives label y comes_to q e)
      silent_or_not (Blames label) e = inr (λ silent. silent label e)

      abbrev choice : Silent ⊎ (Silent → ⊥)
      choice = silent_or_not comes_to refl

      sure_of_it : (label : ℕ) → comes_to ≡ Blames label → Silent → ⊥
      sure_of_it label e silent = silent label e

      blame_law : (Silent → ⊥)
          → (k : ℕ) × Reaches (low_machine ending_of setting)
          (OnTheWayWriting setting l s deep (cast_words_of l d like_it.0))
          (λ u. Within s deep (cast_words_of l d like_it.0) u
          × WriteComes setting l s (IsVery l) objects a 0 comes_to u) k box_te
          × CostsAtMost ending_of setting k box_te (cast_price_of l d like_it.0 + 147)
      blame_law some = by comes_to refl
        where
          Says : Outcome ℕ → Type 0
          Says r =
              (k : ℕ) × Reaches (low_machine ending_of setting)
              (OnTheWayWriting setting l s deep (cast_words_of l d like_it.0))
              (λ u. Within s deep (cast_words_of l d like_it.0) u
              × WriteComes setting l s (IsVery l) objects a 0 r u) k box_te
              × CostsAtMost ending_of setting k box_te (cast_price_of l d like_it.0 + 147)

          by : (r : Outcome ℕ) → comes_to ≡ r → Says comes_to
          by Stuck e = absurd (some (λ label q. blames_some label comes_to q e))
          by (Gives y) e = absurd (some (λ label q. blames_or_gives label y comes_to q e))
          by (Blames label) e =
              let known = cell_here setting l procs casts m situation true cell stored_vector.0 stored_vector.1 a c in
              let z = box_writes_are_blamed ending_of setting l first s refl is_ready tallest objects rt_filled region
              (λ b. head_in_box) (Proxied a wrapper) wv carries a d b.0 known.cell_words known.region_here 0 w like_it.0
              like_it.2 label e in
              subst Says (sym e) (z.0, z.2, z.3)

      begins_box : Walking a 0 head_in_box comes_to Silent choice sure_of_it (cast_words_of l d like_it.0)
          (cast_price_of l d like_it.0 + 147) box_te
      begins_box =
          by_writing_law setting l procs casts m s Silent choice
          (Comes a 0 head_in_box comes_to Silent choice sure_of_it)
          (comes_stands a 0 head_in_box comes_to Silent choice sure_of_it) deep (cast_words_of l d like_it.0)
          (cast_price_of l d like_it.0 + 147) (omega arith) box_te (stands_at 0 wv 0 w) refl blame_law

      vector_cast : Does box_te (On (Return v) (CastFrame d ∷ PrimFrame BoxSet (RunLoc cell true ∷ []) ∷ base) store
          s.world)
          number
      vector_cast =
          cast_by a 0 head_in_box comes_to Silent choice sure_of_it (cast_words_of l d like_it.0)
          (cast_price_of l d like_it.0 + 147) d b.1 (PrimFrame BoxSet (RunLoc cell true ∷ []) ∷ base)
          (λ u y like_u head is. (
            1,
            λ t done n credit le. (tt, calm_as setting l procs casts m s t done.stands n, refl),
          )) v like_it.0 like_it.1 refl refl box_te begins_box
          (cast_fits l m measured 147 0 d like_it.0 896 (omega arith) (omega arith)) number

    vector_by_part : (cell : ℕ) → C (RunLoc cell true) a → (o : Option Coercion) → cell_coercion 1 wrapper ≡ o
        → Does (writes_at 0 wv 0 w)
        (on_some o (λ part. On (Return v) (CastFrame part ∷ PrimFrame BoxSet (RunLoc cell true ∷ []) ∷ base) store
        s.world))
        number
    vector_by_part cell c None e = (0, refl)
    vector_by_part cell c (Some d) e = vector_cast cell c d (behind_it d e)

    -- a proxy whose coercion has a part for what is written wraps a cell
    no_cell : (c : Coercion) (d : Coercion) → cell_coercion 1 c ≡ Some d → WrapsKind l objects c a → (head : ℕ)
        (words : List ℕ) → There l objects a (Fixed head words) → ⊥
    no_cell Id d e k head words it_is = none_some e
    no_cell (Fail label) d e k head words it_is = none_some e
    no_cell (Inject g kept) d e k head words it_is = none_some e
    no_cell (Project wanted label i) d e k head words it_is = none_some e
    no_cell (Middle Fun cs) d e k head words it_is = none_some e
    no_cell (Middle Tup cs) d e k head words it_is = none_some e
    no_cell (Middle Ref cs) d e k head words it_is =
        fixed_or_cell head (box_header k.0) words k.0
        (there_same l objects a (Fixed head words) (Cell (box_header k.0) k.0) placed.before it_is k.1)
    no_cell (Middle Vec cs) d e k head words it_is =
        fixed_or_cell head (vector_header k.0) words k.0
        (there_same l objects a (Fixed head words) (Cell (vector_header k.0) k.0) placed.before it_is k.1)

    -- what is no cell
    by_no_cell : (box : FlatValue Coercion) → WrapsKind l objects wrapper a → (head : ℕ) (words : List ℕ)
        → There l objects a (Fixed head words) → (o : Option Coercion) → cell_coercion 1 wrapper ≡ o
        → Does (writes_at 0 wv 0 w)
        (on_some o (λ part. On (Return v) (CastFrame part ∷ PrimFrame BoxSet (box ∷ []) ∷ base) store s.world)) number
    by_no_cell box kind head words it_is None e = (0, refl)
    by_no_cell box kind head words it_is (Some d) e =
        absurd (let z : ⊥ = no_cell wrapper d e kind head words it_is in z)

    by_box : (box : FlatValue Coercion) → Like setting l procs places objects box (Solid a) → WrapsKind l objects
        wrapper a
        → Does (writes_at 0 wv 0 w) (box_turn (RunWrap box wrapper ∷ v ∷ []) base) number
    by_box (RunLoc cell false) k kind = box_set cell (subst (C (RunLoc cell false)) (sym (solid_same a k.0 k.1)) k.2)
    by_box (RunLoc cell true) k kind =
        vector_by_part cell (subst (C (RunLoc cell true)) (sym (solid_same a k.0 k.1)) k.2) (cell_coercion 1 wrapper)
        refl
    by_box (RunFun code captured) k kind =
        let c = subst (C (RunFun code captured)) (sym (solid_same a k.0 k.1)) k.2 in
        let z = function_there l setting.address procs merged_meaning merged_laws places objects setting placed
        (heap_of s)
        here.filled code.first c.0 c.1 code.place c.2 c.4 c.5 in
        by_no_cell (RunFun code captured) kind (1 + 4294967296 * suc (length z.0))
        (setting.address (code.first + code.place) ∷ z.0)
        (subst (λ n. There l objects n (Fixed (1 + 4294967296 * suc (length z.0))
        (setting.address (code.first + code.place) ∷ z.0))) (sym c.3) z.1) (cell_coercion 1 wrapper) refl
    by_box (RunTuple values) k kind =
        let c = subst (C (RunTuple values)) (sym (solid_same a k.0 k.1)) k.2 in
        by_no_cell (RunTuple values) kind (tuple_header (length c.0)) c.0 c.1 (cell_coercion 1 wrapper) refl
    by_box (RunInt x) k kind = absurd (no_base a IntHead k.0 k.1)
    by_box (RunBool x) k kind = absurd (no_base a BoolHead k.0 k.1)
    by_box RunUnit k kind = absurd (no_base a UnitHead k.0 k.1)
    by_box (RunWrap x y) k kind = absurd (no_proxy a k.0 y k.1)
    by_box (RunInject x kept) k kind = absurd (no_dyn a kept k.0 k.1)

  -- ---- the operators

  writes_three : (vec index v : FlatValue Coercion) (wv wi w : ℕ) → C vec wv → C index wi → C v w
      → Does (writes_at 1 wv wi w) (turn (vec ∷ index ∷ v ∷ []) base) number
  writes_three (RunLoc cell true) (RunInt z) v wv wi w c ci cv = bare_vector cell z v wv wi w c ci cv
  writes_three (RunWrap vec wrapper) (RunInt z) v wv wi w c ci cv =
      let seen = like_of setting l procs places objects placed (heap_of s) here.filled (RunWrap vec wrapper) wv c in
      by_vector seen.1.0 wrapper wv (subst (λ m. Carries l objects m wv) seen.1.1 seen.2) v w cv vec seen.1.2 z wi ci
  writes_three _ _ v wv wi w c ci cv = (0, refl)

  -- another number of operands is none of this operator's
  not_three : (vs : List (FlatValue Coercion)) → (length vs ≡ 3 → ⊥) → turn vs base ≡ NoNext
  not_three (RunLoc cell true ∷ RunInt i ∷ v ∷ []) ne = absurd (ne refl)
  not_three (RunWrap vec wrapper ∷ RunInt i ∷ v ∷ []) ne = absurd (ne refl)
  not_three _ ne = refl

  none : (vs : List (FlatValue Coercion)) → (length vs ≡ 3 → ⊥) → (te : LowState) → Does te (turn vs base) number
  none vs ne te = subst (λ y. Does te y number) (sym (not_three vs ne)) (0, refl)

  abbrev given : List ℕ → LowState
  given ws = writes_at 1 (at_or_zero ws 0) (at_or_zero ws 1) (at_or_zero ws 2)

  writes_for : (vs : List (FlatValue Coercion)) (ws : List ℕ) → Cs vs ws → Does (given ws) (turn vs base) number
  writes_for [] ws c = none [] (λ e. omega (arith, e)) (given ws)
  writes_for (v ∷ []) ws c = none (v ∷ []) (λ e. omega (arith, e)) (given ws)
  writes_for (v ∷ x ∷ []) ws c = none (v ∷ x ∷ []) (λ e. omega (arith, e)) (given ws)
  writes_for (v ∷ x ∷ y ∷ z ∷ more) ws c = none (v ∷ x ∷ y ∷ z ∷ more) (λ e. omega (arith, e)) (given ws)
  writes_for (vec ∷ index ∷ v ∷ []) [] c = absurd c
  writes_for (vec ∷ index ∷ v ∷ []) (wv ∷ []) c = absurd c.1
  writes_for (vec ∷ index ∷ v ∷ []) (wv ∷ wi ∷ []) c = absurd c.1.1
  writes_for (vec ∷ index ∷ v ∷ []) (wv ∷ wi ∷ w ∷ x ∷ ws) c = absurd c.1.1.1
  writes_for (vec ∷ index ∷ v ∷ []) (wv ∷ wi ∷ w ∷ []) c =
      writes_three vec index v wv wi w c.0 c.1.0 c.1.1.0

  -- what is in a proxy, and what is written
  sets_for : (box : FlatValue Coercion) (wrapper : Coercion) (rest : List (FlatValue Coercion)) (ws : List ℕ)
      → Cs (RunWrap box wrapper ∷ rest) ws
      → Does (writes_at 0 (at_or_zero ws 0) 0 (at_or_zero ws 1)) (box_turn (RunWrap box wrapper ∷ rest) base) number
  sets_for box wrapper [] ws c = (0, refl)
  sets_for box wrapper (v ∷ x ∷ more) ws c = (0, refl)
  sets_for box wrapper (v ∷ []) [] c = absurd c
  sets_for box wrapper (v ∷ []) (wv ∷ []) c = absurd c.1
  sets_for box wrapper (v ∷ []) (wv ∷ w ∷ x ∷ ws) c = absurd c.1.1
  sets_for box wrapper (v ∷ []) (wv ∷ w ∷ []) c =
      let seen = like_of setting l procs places objects placed (heap_of s) here.filled (RunWrap box wrapper) wv c.0 in
      by_box seen.1.0 wrapper wv (subst (λ m. Carries l objects m wv) seen.1.1 seen.2) v w c.1.0 box seen.1.2 seen.1.3

-- ---- the fields

module _ (setting : Setting) (l : Layout) (procs : List Proc) (casts : List TypeCast) (m : Measures)
    (measured : FitsMeasures l m) (first : ℕ) (run : Served) (placed : Placed setting l) (types : TypesStand l)
    (tallest : l.tallest ≤ 65534)
    (ready : Stand setting.procs first) (region : l.region ≡ setting.region) where
  pub merged_writes : OperatorDone merged_meaning setting l procs casts m run VectorSet (write_proc (cast first))
      (λ ws. 1 ∷ at_or_zero ws 0 ∷ at_or_zero ws 1 ∷ at_or_zero ws 2 ∷ [])
  merged_writes = record {
    does = λ s number places objects store here base vs ws c handed.
        writes_for setting l procs casts m
        (situated setting l procs casts m measured first placed types tallest ready s number places objects store here
        base) region vs ws c;
  }

  pub merged_sets : OperatorDone merged_meaning setting l procs casts m run BoxSet (write_proc (cast first))
      (λ ws. 0 ∷ at_or_zero ws 0 ∷ 0 ∷ at_or_zero ws 1 ∷ [])
  merged_sets = record {
    does = λ s number places objects store here base vs ws c handed.
        subst (λ xs. Answers merged_meaning setting l procs casts m s operator_leaves places objects base
        (flat_operate procs (merging l.types casts) store s.world BoxSet xs base)
        (act_cost procs (merging l.types casts) (merged_prices l.types (merging l.types casts) m)) number 0
        (entered s (write_proc (cast first)) (0 ∷ at_or_zero ws 0 ∷ 0 ∷ at_or_zero ws 1 ∷ []))) (sym handed.3)
        (sets_for setting l procs casts m
        (situated setting l procs casts m measured first placed types tallest ready s number places objects store here
        base) region handed.0 handed.1 handed.2 ws
        (subst (λ xs. AreCarried l setting.address procs merged_meaning places objects (in_row xs) ws) handed.3 c));
  }
