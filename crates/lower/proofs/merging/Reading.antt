-- The procedure read of the merged scheme does what the operators that read boxes and elements of vectors do, and the
-- one that tells a vector's length.
use Rattle.std.proofs.Common.{◌≡◌, ℕ, suc, ◌+◌, ◌*◌, ◌^◌, ◌<◌, ◌≤◌, ℤ, pos, negsuc, List, [], ◌∷◌, length}
use Rattle.std.proofs.Common.{Some, None, Option, true, false, refl, sym, ap, ◌∙◌, subst, arith, slice_get}
use Rattle.std.proofs.Common.{append-nil, le_refl}
use Rattle.std.specs.Prelude.{option_map, ◌==◌, ◌++◌}
use Rattle.grift_base.specs.Types.{TypeHead}
use Rattle.grift_base.specs.World.{WorldState}
use Rattle.grift_base.specs.declared.operators.PrimOp.TheVariants.{Unbox, VectorRef, VectorLength}
use Rattle.grift_base.specs.declared.verdicts.Trap.TheVariants.{Index}
use Rattle.machine_words.specs.Halts.{ending_of}
use Rattle.core_calc.specs.Account.{Measures}
use Rattle.low_ir.specs.Run.{Setting, LowState, entered}
use Rattle.coercion_norm.specs.Coercions.{Coercion, Id, rows_of}
use Rattle.cast_modes.specs.Modes.{Mode, TypeCast}
use Rattle.coercion_norm.specs.Normal.{IsNormal}
use Rattle.coercion_norm.specs.MergedMode.{merging, cell_coercion}
use Rattle.cast_modes.specs.RunValues.{RunInt, RunLoc, RunWrap}
use Rattle.cast_modes.specs.RunValues.{in_row}
use Rattle.cast_modes.specs.ValueSteps.{Return, On, TrapOf, NoNext, CastFrame, PrimFrame, on_some}
use Rattle.cast_modes.specs.ValueSteps.{run_unbox_cell}
use Rattle.coercion_norm.specs.Held.{Layout, TypesStand}
use Rattle.flat_ir.specs.Bodies.{Proc}
use Rattle.flat_ir.specs.Counts.{flat_turn_wraps}
use Rattle.flat_ir.specs.FlatTally.{act_cost, flat_cost}
use Rattle.coer_core.specs.TurnPrices.{merged_prices}
use Rattle.flat_ir.specs.Machine.{FlatValue, FlatFrame, FlatFocus, FlatStore, FlatAfter, flat_operate, flat_turn}
use Rattle.flat_ir.specs.Machine.{flat_arity, flat_entered}
use Rattle.rt_cast.specs.ComposeCodes.{cast}
use Rattle.rt_cast.specs.LightCasts.{cast_words_of, cast_price_of}
use Rattle.rt_cast.specs.Procs.{Stand}
use Rattle.rt_cast.specs.States.{Placed, heap_of}
use Rattle.rt_cast.specs.Carried.{Carries}
use Rattle.rt_cast.specs.MergedValues.{Merged, Solid, Proxied, Outcome, Gives, cast_value}
use Rattle.rt_refs.specs.CellCodes.{read_proc}
use Rattle.reference_laws.specs.CellLaws.{TellsAt, cell_behind, under}
use Rattle.reference_laws.proofs.Public.{elements_are_read, indices_outside_trap, lengths_are_told}
use Rattle.lowered_code.specs.declared.served.Served.{Served}
use Rattle.lower.specs.Keeping.{FitsMeasures}
use Rattle.lower.specs.MergedMeaning.{merged_meaning}
use Rattle.lower.specs.CarriedValues.{AreCarried}
use Rattle.lower.specs.SchemeLaws.{Here, After, Goes, ReturnsAt, Answers, OperatorDone, IsPending}
use Rattle.lower.specs.SchemeLaws.{at_or_zero, operator_leaves}
use Rattle.lower.proofs.heap.CarriedLater.{cells_below}
use Rattle.lower.proofs.merging.Bounds.{cast_fits}
use Rattle.lower.proofs.merging.MeaningLaws.{merged_laws}
use Rattle.lower.proofs.merging.Like.{Like, solid_head, like_of, solid}
use Rattle.lower.proofs.merging.Turns.{cell_part_normal}
use Rattle.lower.proofs.merging.Chains.{begun_by}
use Rattle.lower.proofs.merging.Chains.{Walking, returned_now, cast_next}
use Rattle.lower.proofs.merging.Stages.{Stands, stays, lands, trapped_at, calm_as}
use Rattle.lower.proofs.merging.States.{element_past, past_element}
use Rattle.lower.proofs.words.Arithmetic.{positive_is, negative_is, small_fits}
use Rattle.lower.proofs.merging.States.{element}
use Rattle.lower.proofs.merging.States.{Situation, CellHere, situated, speech, cell_here, filled_as}

-- a value in a proxy is no bare one
pub no_proxy : (a b : ℕ) (c : Coercion) → Solid a ≡ Proxied b c → ⊥
no_proxy a b c e = cc

pub solid_same : (a b : ℕ) → Solid a ≡ Solid b → a ≡ b
solid_same a b e = cc

-- three operands are none of the operator that reads an element
pub too_many : {C : Type 0} (procs : List Proc) (mode : Mode C) (store : FlatStore C) (world : WorldState)
    (base : List (FlatFrame C)) (cell : ℕ) (index x : FlatValue C) (more : List (FlatValue C))
    → flat_operate procs mode store world VectorRef (RunLoc cell true ∷ index ∷ x ∷ more) base ≡ NoNext
too_many procs mode store world base cell (RunInt n) x more = refl
too_many procs mode store world base cell _ x more = refl

module _ (setting : Setting) (l : Layout) (procs : List Proc) (casts : List TypeCast) (m : Measures)
    (situation : Situation setting l procs casts m) where
  open situation use {measured, first, placed, types, tallest, ready, s, number, places, objects, store, here, base}
  open (speech setting l procs casts m situation) use {rt_filled, is_ready, acting, aim}
  open (speech setting l procs casts m situation) use {C, Cs, element_here, with_element}

  abbrev deep : ℕ
  deep = 4 * l.tallest + 6

  -- the turns go to a return, behind one that is an act, with so much credit before
  abbrev Does : LowState → FlatAfter Coercion → ℕ → ℕ → Type 0
  Does te x credit n =
      (j : ℕ)
      × After merged_meaning setting l procs casts m s (Goes merged_meaning setting l procs casts m s aim j) x acting
      credit n 0 te

  -- entered to read what a number tells
  abbrev reads_at : ℕ → ℕ → ℕ → LowState
  reads_at which wv wi = entered s (read_proc (cast first)) (which ∷ wv ∷ wi ∷ [])

  stands_at : (which wv wi : ℕ) → Stands setting l procs casts m s (reads_at which wv wi)
  stands_at which wv wi = record { objects = objects; filled = rt_filled; same = refl; room = omega arith }

  -- a turn without a step, and the others behind it
  goes_on : (which wv wi : ℕ) (focus : FlatFocus Coercion) (frames : List (FlatFrame Coercion))
      → IsPending merged_meaning setting l procs casts m s focus frames
      → flat_cost procs (merging l.types casts) (merged_prices l.types (merging l.types casts) m) focus frames ≡ acting
      → flat_turn_wraps procs (merging l.types casts) focus frames ≡ 0 → (n : ℕ)
      → Does (reads_at which wv wi) (flat_turn procs (merging l.types casts) store s.world focus frames) 896 (n + 0)
      → Does (reads_at which wv wi) (On focus frames store s.world) 0 n
  goes_on which wv wi focus frames pending cost wraps n r = (
    suc r.0,
    (
      refl,
      stays setting l procs casts m s (λ t. Unit {0})
          (λ left v. Goes merged_meaning setting l procs casts m s aim (suc r.0) focus frames store (n + 0) left v)
          acting 0 n (n + 0) (reads_at which wv wi)
          (calm_as setting l procs casts m s (reads_at which wv wi) (stands_at which wv wi)) (
            pending,
            calm_as setting l procs casts m s (reads_at which wv wi) (stands_at which wv wi) (n + 0),
            subst
                (λ c. After merged_meaning setting l procs casts m s
                (Goes merged_meaning setting l procs casts m s aim r.0)
                (flat_turn procs (merging l.types casts) store s.world focus frames) c 896 (n + 0)
                (flat_turn_wraps procs (merging l.types casts) focus frames) (reads_at which wv wi)) (sym cost)
                (subst (λ w. After merged_meaning setting l procs casts m s
                (Goes merged_meaning setting l procs casts m s aim r.0)
                (flat_turn procs (merging l.types casts) store s.world focus frames) acting 896 (n + 0) w
                (reads_at which wv wi)) (sym wraps) r.1),
          ),
    ),
  )

  abbrev turn : List (FlatValue Coercion) → List (FlatFrame Coercion) → FlatAfter Coercion
  turn vs frames = flat_operate procs (merging l.types casts) store s.world VectorRef vs frames

  abbrev box_turn : List (FlatValue Coercion) → List (FlatFrame Coercion) → FlatAfter Coercion
  box_turn vs frames = flat_operate procs (merging l.types casts) store s.world Unbox vs frames

  abbrev length_turn : List (FlatValue Coercion) → List (FlatFrame Coercion) → FlatAfter Coercion
  length_turn vs frames = flat_operate procs (merging l.types casts) store s.world VectorLength vs frames

  -- ---- a cell of the store, at an address, seen through its proxy, if it has one

  module _ (values : List (FlatValue Coercion)) (a : ℕ)
      (known : CellHere setting l procs casts m situation values a) (x : Merged ℕ) (wv : ℕ)
      (hv : Carries l objects x wv) where
    open known use {cell_words, carried_words, long, stands_here}

    -- no element is there
    outside : under x ≡ Some a → (which : ℕ) → (which == 2) ≡ false → (i : ℕ) → slice_get values i ≡ None
        → (credit n : ℕ) → Does (reads_at which wv i) (TrapOf Index s.world) credit n
    outside stands which other i none credit n =
        let p = element_past values i none in
        let q = long in
        let z = indices_outside_trap ending_of setting l first s refl is_ready tallest objects rt_filled x wv hv a
        stands cell_words stands_here which i other (omega (arith, p, q)) in (
          0,
          trapped_at setting l procs casts m s (Goes merged_meaning setting l procs casts m s aim 0) Index 0 73
              (omega arith) (reads_at which wv i) refl z.0 z.2 z.3 acting credit (omega arith) n,
        )

    -- an element, and the cast of it, by the part of the proxy's coercion
    module _ (d : Coercion) (behind : cell_behind 0 x ≡ Some (a, d)) (normal : IsNormal (rows_of l.types) d) (which : ℕ)
        (other : (which == 2) ≡ false) (i : ℕ) (v : FlatValue Coercion) (got : slice_get values i ≡ Some v) where
      abbrev te : LowState
      te = reads_at which wv i

      abbrev H : TypeHead
      H = solid_head setting l procs places objects v

      word : (w : ℕ) × (slice_get cell_words i ≡ Some w) × C v w
      word = element setting l procs casts m places objects values cell_words carried_words i v got

      like : (y : Merged ℕ) × Like setting l procs places objects v y × Carries l objects y word.0
      like = like_of setting l procs places objects placed (heap_of s) here.filled v word.0 word.2

      abbrev total : Outcome ℕ
      total = cast_value (λ b. H) l.types d like.0

      abbrev wide : ℕ
      wide = cast_words_of l d like.0

      abbrev dear : ℕ
      dear = cast_price_of l d like.0 + 148

      begins : Walking setting l procs casts m measured placed s places objects store number here base operator_leaves
          H total wide dear te
      begins =
          begun_by setting l procs casts m measured placed s places objects store number here base operator_leaves H
          total deep wide dear (omega arith) te (stands_at which wv i) refl
          (λ some.
          let z = elements_are_read ending_of setting l first s refl is_ready tallest objects rt_filled (λ b. H) x wv
          hv a d behind cell_words stands_here which i word.0 other word.1 like.0 like.2 total refl some in
          (z.0, z.2, z.3))

      cast_after : (credit n : ℕ) → Does te (On (Return v) (CastFrame d ∷ base) store s.world) credit n
      cast_after credit n =
          cast_next setting l procs casts m measured placed s places objects store number here base operator_leaves
          H total wide dear acting d normal v like.0 like.1 refl refl te begins credit
          (cast_fits l m measured 148 operator_leaves d like.0 (credit + acting.budget) (omega arith) (omega arith)) n

      -- told that Id is no cast
      bare_after : total ≡ Gives like.0 → wide ≤ 0 → dear ≤ 300 → (credit n : ℕ)
          → Does te (On (Return v) base store s.world) credit n
      bare_after same few cheap credit n =
          returned_now setting l procs casts m measured placed s places objects store number here base operator_leaves
          H total wide dear acting v like.0 like.1 refl same te begins few credit
          (omega (arith, cheap)) n

  -- ---- elements of vectors

  -- of a vector without its proxy, told what is done with an element
  module _ (x : Merged ℕ) (wv a : ℕ) (hv : Carries l objects x wv) (below : under x ≡ Some a)
      (frames : List (FlatFrame Coercion)) (credit n : ℕ) where
    abbrev Elements : Type 0
    Elements =
        (cell : ℕ) (values : List (FlatValue Coercion)) (in_store : slice_get store cell ≡ Some values)
        (c : C (RunLoc cell true) a) (i : ℕ) (v : FlatValue Coercion) → slice_get values i ≡ Some v
        → Does (reads_at 1 wv i) (On (Return v) frames store s.world) credit n

    by_index : (cell : ℕ) (values : List (FlatValue Coercion)) (in_store : slice_get store cell ≡ Some values)
        (c : C (RunLoc cell true) a) → Elements → (i : ℕ) (o : Option (FlatValue Coercion)) → slice_get values i ≡ o
        → Does (reads_at 1 wv i) (element_here o i (λ place v. On (Return v) frames store s.world)) credit n
    by_index cell values in_store c each i None e =
        outside values a (cell_here setting l procs casts m situation true cell values in_store a c) x wv hv below 1
        refl i e credit n
    by_index cell values in_store c each i (Some v) e = each cell values in_store c i v e

    by_store : (cell : ℕ) (c : C (RunLoc cell true) a) → Elements → (z : ℤ) (wi : ℕ) → C (RunInt z) wi
        → (o : Option (List (FlatValue Coercion))) → slice_get store cell ≡ o
        → Does (reads_at 1 wv wi) (on_some o (λ elements. with_element elements z (λ place v.
        On (Return v) frames store s.world))) credit n
    by_store cell c each z wi ci None e = (0, refl)
    by_store cell c each (pos k) wi ci (Some values) e =
        let is = positive_is k ci.1 in
        subst (λ y. Does (reads_at 1 wv y)
        (element_here (slice_get values k) k (λ place v. On (Return v) frames store s.world)) credit n)
        (sym (ci.0 ∙ is.0)) (by_index cell values e c each k (slice_get values k) refl)
    by_store cell c each (negsuc k) wi ci (Some values) e =
        let high = negative_is k ci.1 in
        let word = ci.0 in
        let known = cell_here setting l procs casts m situation true cell values e a c in
        let many = known.long in
        let lt = known.few in
        outside values a known x wv hv below 1 refl wi (past_element values wi
        (omega (arith, high, word, many, lt)))
        credit n

    by_value : Elements → (vec index : FlatValue Coercion) (wi : ℕ) → Like setting l procs places objects vec (Solid a)
        → C index wi → Does (reads_at 1 wv wi) (turn (vec ∷ index ∷ []) frames) credit n
    by_value each (RunLoc cell true) (RunInt z) wi k ci =
        by_store cell (subst (C (RunLoc cell true)) (sym (solid_same a k.0 k.1)) k.2) each z wi ci (slice_get store
        cell)
        refl
    by_value each (RunWrap x y) index wi k ci = absurd (no_proxy a k.0 y k.1)
    by_value each _ _ wi k ci = (0, refl)

  bare_vector : (cell : ℕ) (index : FlatValue Coercion) (wv wi : ℕ) → C (RunLoc cell true) wv → C index wi
      → Does (reads_at 1 wv wi) (turn (RunLoc cell true ∷ index ∷ []) base) 0 number
  bare_vector cell index wv wi c ci =
      let very = solid setting l procs places objects placed (heap_of s) here.filled (RunLoc cell true) wv c (
        wv,
        refl,
        c,
      )
      in
      by_value (Solid wv) wv wv very refl base 0 number
      (λ cell values in_store c i v got.
      bare_after values wv (cell_here setting l procs casts m situation true cell values in_store wv c) (Solid wv) wv
      very Id refl tt 1 refl i v got refl (omega arith)
      (omega arith) 0 number)
      (RunLoc cell true) index wi (wv, refl, c) ci

  -- a value in a wrapper stands at an address, seen through its proxy
  proxied : (v : FlatValue Coercion) (wrapper : Coercion) (wv : ℕ) → C (RunWrap v wrapper) wv
      → (a : ℕ) × Like setting l procs places objects v (Solid a) × Carries l objects (Proxied a wrapper) wv
  proxied v wrapper wv c =
      let seen = like_of setting l procs places objects placed (heap_of s) here.filled (RunWrap v wrapper) wv c in
      (seen.1.0, seen.1.2, subst (λ m. Carries l objects m wv) seen.1.1 seen.2)

  -- what is read of it is cast by a part of the proxy's coercion
  behind_it : (a : ℕ) (wrapper : Coercion) (wv : ℕ) → Carries l objects (Proxied a wrapper) wv → (d : Coercion)
      → cell_coercion 0 wrapper ≡ Some d
      → (cell_behind 0 (Proxied a wrapper) ≡ Some (a, d)) × IsNormal (rows_of l.types) d
  behind_it a wrapper wv carries d e =
      (ap (λ o. option_map (λ x. (a, x)) o) e, cell_part_normal (rows_of l.types) wrapper 0 d carries.5.normal e)

  wrapped_vector : (vec : FlatValue Coercion) (wrapper : Coercion) (index : FlatValue Coercion) (wv wi : ℕ)
      → C (RunWrap vec wrapper) wv → C index wi → Does (reads_at 1 wv wi) (turn (RunWrap vec wrapper ∷ index ∷ []) base)
      0 number
  wrapped_vector vec wrapper index wv wi c ci = by_part (cell_coercion 0 wrapper) refl
    where
      by_part : (o : Option Coercion) → cell_coercion 0 wrapper ≡ o
          → Does (reads_at 1 wv wi) (on_some o (λ part. On (Return index)
          (PrimFrame VectorRef (vec ∷ []) ∷ CastFrame part ∷ base) store s.world)) 0 number
      by_part None e = (0, refl)
      by_part (Some d) e =
          let p = proxied vec wrapper wv c in
          let b = behind_it p.0 wrapper wv p.2 d e in
          goes_on 1 wv wi (Return index) (PrimFrame VectorRef (vec ∷ []) ∷ CastFrame d ∷ base) tt refl refl number
          (by_value (Proxied p.0 wrapper) wv p.0 p.2 refl (CastFrame d ∷ base) 896 (number + 0)
          (λ cell values in_store c i v got.
          cast_after values p.0 (cell_here setting l procs casts m situation true cell values in_store p.0 c)
          (Proxied p.0 wrapper) wv p.2 d b.0 b.1 1 refl i v got 896
          (number + 0)) vec index wi p.1 ci)

  reads_for : (vs : List (FlatValue Coercion)) (ws : List ℕ) → Cs vs ws
      → Does (reads_at 1 (at_or_zero ws 0) (at_or_zero ws 1)) (turn vs base) 0 number
  reads_for (RunLoc cell true ∷ index ∷ x ∷ more) ws c =
      subst (λ y. Does (reads_at 1 (at_or_zero ws 0) (at_or_zero ws 1)) y 0 number) (sym
      (too_many procs (merging l.types casts) store s.world base cell index x more))
      (0, refl)
  reads_for (RunLoc cell true ∷ index ∷ []) [] c = absurd c
  reads_for (RunLoc cell true ∷ index ∷ []) (wv ∷ []) c = absurd c.1
  reads_for (RunLoc cell true ∷ index ∷ []) (wv ∷ wi ∷ x ∷ ws) c = absurd c.1.1
  reads_for (RunLoc cell true ∷ index ∷ []) (wv ∷ wi ∷ []) c = bare_vector cell index wv wi c.0 c.1.0
  reads_for (RunWrap vec wrapper ∷ index ∷ []) [] c = absurd c
  reads_for (RunWrap vec wrapper ∷ index ∷ []) (wv ∷ []) c = absurd c.1
  reads_for (RunWrap vec wrapper ∷ index ∷ []) (wv ∷ wi ∷ x ∷ ws) c = absurd c.1.1
  reads_for (RunWrap vec wrapper ∷ index ∷ []) (wv ∷ wi ∷ []) c = wrapped_vector vec wrapper index wv wi c.0 c.1.0
  reads_for _ ws c = (0, refl)

  -- ---- what is in boxes

  abbrev in_cell : List (FlatValue Coercion) → List (FlatFrame Coercion) → FlatAfter Coercion
  in_cell values frames =
      run_unbox_cell (merging l.types casts) (flat_arity procs) (flat_entered procs) store s.world values frames

  -- of a box without its proxy, told what is done with what is in it
  module _ (wv a : ℕ) (frames : List (FlatFrame Coercion)) (credit n : ℕ) where
    abbrev Contents : Type 0
    Contents =
        (cell : ℕ) (values : List (FlatValue Coercion)) (in_store : slice_get store cell ≡ Some values)
        (c : C (RunLoc cell false) a) (v : FlatValue Coercion) → slice_get values 0 ≡ Some v
        → Does (reads_at 0 wv 0) (On (Return v) frames store s.world) credit n

    box_in_store : (cell : ℕ) (c : C (RunLoc cell false) a) → Contents → (o : Option (List (FlatValue Coercion)))
        → slice_get store cell ≡ o → Does (reads_at 0 wv 0) (on_some o (λ values. in_cell values frames)) credit n
    box_in_store cell c each None e = (0, refl)
    box_in_store cell c each (Some []) e = (0, refl)
    box_in_store cell c each (Some (v ∷ [])) e = each cell (v ∷ []) e c v refl
    box_in_store cell c each (Some (v ∷ x ∷ more)) e = (0, refl)

    box_value : Contents → (box : FlatValue Coercion) → Like setting l procs places objects box (Solid a)
        → Does (reads_at 0 wv 0) (box_turn (box ∷ []) frames) credit n
    box_value each (RunLoc cell false) k =
        box_in_store cell (subst (C (RunLoc cell false)) (sym (solid_same a k.0 k.1)) k.2) each (slice_get store cell)
        refl
    box_value each (RunWrap x y) k = absurd (no_proxy a k.0 y k.1)
    box_value each _ k = (0, refl)

  wrapped_box : (box : FlatValue Coercion) (wrapper : Coercion) (wv : ℕ) → C (RunWrap box wrapper) wv
      → Does (reads_at 0 wv 0) (box_turn (RunWrap box wrapper ∷ []) base) 0 number
  wrapped_box box wrapper wv c = by_part (cell_coercion 0 wrapper) refl
    where
      by_part : (o : Option Coercion) → cell_coercion 0 wrapper ≡ o
          → Does (reads_at 0 wv 0) (on_some o
          (λ part. On (Return box) (PrimFrame Unbox [] ∷ CastFrame part ∷ base) store
          s.world)) 0 number
      by_part None e = (0, refl)
      by_part (Some d) e =
          let p = proxied box wrapper wv c in
          let b = behind_it p.0 wrapper wv p.2 d e in
          goes_on 0 wv 0 (Return box) (PrimFrame Unbox [] ∷ CastFrame d ∷ base) tt refl refl number
          (box_value wv p.0 (CastFrame d ∷ base) 896 (number + 0)
          (λ cell values in_store c v got.
          cast_after values p.0 (cell_here setting l procs casts m situation false cell values in_store p.0 c)
          (Proxied p.0 wrapper) wv p.2 d b.0 b.1 0 refl 0 v got 896
          (number + 0)) box p.1)

  unboxes_for : (box : FlatValue Coercion) (wrapper : Coercion) (rest : List (FlatValue Coercion)) (ws : List ℕ)
      → Cs (RunWrap box wrapper ∷ rest) ws
      → Does (reads_at 0 (at_or_zero ws 0) 0) (box_turn (RunWrap box wrapper ∷ rest) base) 0 number
  unboxes_for box wrapper (x ∷ rest) ws c = (0, refl)
  unboxes_for box wrapper [] [] c = absurd c
  unboxes_for box wrapper [] (wv ∷ x ∷ ws) c = absurd c.1
  unboxes_for box wrapper [] (wv ∷ []) c = wrapped_box box wrapper wv c.0

  -- ---- lengths of vectors

  tells : (n k : ℕ) (t : LowState) → k < 2 ^ 63 → TellsAt setting l s objects k t
      → ReturnsAt merged_meaning setting l procs casts m s places objects (RunInt (pos k)) store n t
  tells n k t lt g = record {
    cells = [];
    more = [];
    here = subst (λ ps. Here merged_meaning setting l procs casts m ps (objects ++ []) store n (heap_of t))
        (sym (append-nil places))
        (subst (λ os. Here merged_meaning setting l procs casts m places os store n (heap_of t)) (sym
        (append-nil objects))
        (record {
          filled = filled_as setting l n objects (heap_of t) g.fine.filled;
          cells = cells_below l setting.address procs merged_meaning merged_laws places objects setting placed
              (heap_of s)
              here.filled t.memory g.fine.kept places store here.cells;
        }));
    word = k;
    carried = (refl, small_fits k lt);
    source = g.source;
    code = g.code;
    is = g.is;
    waits = g.waits;
    same = g.same;
  }

  module _ (x : Merged ℕ) (wv a : ℕ) (hv : Carries l objects x wv) (below : under x ≡ Some a) (credit n : ℕ) where
    length_in_store : (cell : ℕ) (c : C (RunLoc cell true) a) (o : Option (List (FlatValue Coercion)))
        → slice_get store cell ≡ o
        → Does (reads_at 2 wv 0)
        (on_some o (λ elements. On (Return (RunInt (pos (length elements)))) base store s.world)) credit n
    length_in_store cell c None e = (0, refl)
    length_in_store cell c (Some values) e =
        let known = cell_here setting l procs casts m situation true cell values e a c in
        let z = lengths_are_told ending_of setting l first s refl is_ready objects rt_filled x wv hv a below
        known.cell_words known.stands_here 0 in
        let k = length known.cell_words in
        subst (λ y. Does (reads_at 2 wv 0) (On (Return (RunInt (pos y))) base store s.world) credit n)
        known.long (
          0,
          (
            refl,
            lands setting l procs casts m s s refl refl 0 0 57 operator_leaves (omega arith) (reads_at 2 wv 0) refl
                (TellsAt setting l s objects k) z.0 z.2 z.3 acting credit (omega arith) (omega arith) n (n + 0)
                (λ left u. aim (Return (RunInt (pos k))) base store (n + 0) left u)
                (λ u room g. (refl, le_refl operator_leaves, tells (n + 0) k u known.few g)),
          ),
        )

    length_value : (vec : FlatValue Coercion) → Like setting l procs places objects vec (Solid a)
        → Does (reads_at 2 wv 0) (length_turn (vec ∷ []) base) credit n
    length_value (RunLoc cell true) k =
        length_in_store cell (subst (C (RunLoc cell true)) (sym (solid_same a k.0 k.1)) k.2) (slice_get store cell) refl
    length_value (RunWrap x y) k = absurd (no_proxy a k.0 y k.1)
    length_value _ k = (0, refl)

  length_wrapped : (vec : FlatValue Coercion) (wrapper : Coercion) (wv : ℕ) → C (RunWrap vec wrapper) wv
      → Does (reads_at 2 wv 0) (length_turn (RunWrap vec wrapper ∷ []) base) 0 number
  length_wrapped vec wrapper wv c =
      let p = proxied vec wrapper wv c in
      goes_on 2 wv 0 (Return vec) (PrimFrame VectorLength [] ∷ base) tt refl refl number
      (length_value (Proxied p.0 wrapper) wv p.0 p.2 refl 896 (number + 0) vec p.1)

  measures_for : (vs : List (FlatValue Coercion)) (ws : List ℕ) → Cs vs ws
      → Does (reads_at 2 (at_or_zero ws 0) 0) (length_turn vs base) 0 number
  measures_for (RunLoc cell true ∷ []) [] c = absurd c
  measures_for (RunLoc cell true ∷ []) (wv ∷ x ∷ ws) c = absurd c.1
  measures_for (RunLoc cell true ∷ []) (wv ∷ []) c =
      let very = solid setting l procs places objects placed (heap_of s) here.filled (RunLoc cell true) wv c.0
      (wv, refl, c.0) in
      length_value (Solid wv) wv wv very refl 0 number (RunLoc cell true) (wv, refl, c.0)
  measures_for (RunWrap vec wrapper ∷ []) [] c = absurd c
  measures_for (RunWrap vec wrapper ∷ []) (wv ∷ x ∷ ws) c = absurd c.1
  measures_for (RunWrap vec wrapper ∷ []) (wv ∷ []) c = length_wrapped vec wrapper wv c.0
  measures_for _ ws c = (0, refl)

-- ---- the fields

module _ (setting : Setting) (l : Layout) (procs : List Proc) (casts : List TypeCast) (m : Measures)
    (measured : FitsMeasures l m) (first : ℕ) (run : Served) (placed : Placed setting l) (types : TypesStand l)
    (tallest : l.tallest ≤ 65534)
    (ready : Stand setting.procs first) where
  pub merged_reads : OperatorDone merged_meaning setting l procs casts m run VectorRef (read_proc (cast first))
      (λ ws. 1 ∷ at_or_zero ws 0 ∷ at_or_zero ws 1 ∷ [])
  merged_reads = record {
    does = λ s number places objects store here base vs ws c handed.
        reads_for setting l procs casts m
        (situated setting l procs casts m measured first placed types tallest ready s number places objects store here
        base) vs ws c;
  }

  pub merged_unboxes : OperatorDone merged_meaning setting l procs casts m run Unbox (read_proc (cast first))
      (λ ws. 0 ∷ at_or_zero ws 0 ∷ 0 ∷ [])
  merged_unboxes = record {
    does = λ s number places objects store here base vs ws c handed.
        subst (λ xs. Answers merged_meaning setting l procs casts m s operator_leaves places objects base
        (flat_operate procs (merging l.types casts) store s.world Unbox xs base)
        (act_cost procs (merging l.types casts) (merged_prices l.types (merging l.types casts) m)) number 0
        (entered s (read_proc (cast first)) (0 ∷ at_or_zero ws 0 ∷ 0 ∷ []))) (sym handed.3)
        (unboxes_for setting l procs casts m
        (situated setting l procs casts m measured first placed types tallest ready s number places objects store here
        base) handed.0 handed.1 handed.2 ws
        (subst (λ xs. AreCarried l setting.address procs merged_meaning places objects (in_row xs) ws) handed.3 c));
  }

  pub merged_measures : OperatorDone merged_meaning setting l procs casts m run VectorLength (read_proc (cast first))
      (λ ws. 2 ∷ at_or_zero ws 0 ∷ 0 ∷ [])
  merged_measures = record {
    does = λ s number places objects store here base vs ws c handed.
        measures_for setting l procs casts m
        (situated setting l procs casts m measured first placed types tallest ready s number places objects store here
        base) vs ws c;
  }
