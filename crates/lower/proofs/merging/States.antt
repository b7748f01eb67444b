-- What the laws on cells of the merged scheme share: states and storage as both sides see them, and the store's cells.
use Rattle.std.proofs.Common.{◌≡◌, ◌⊎◌, inl, inr, ℕ, zero, suc, ◌+◌, ◌^◌, ◌<◌, ◌≤◌, Bool, true}
use Rattle.std.proofs.Common.{false, List, [], ◌∷◌, length, Some, None, refl, sym, ap, ◌∙◌, subst, arith, slice_get}
use Rattle.std.specs.Prelude.{if◌then◌else◌, ℤ, Option}
use Rattle.grift_base.specs.declared.environment.TheConstants.{BLAME_CALL}
use Rattle.grift_base.specs.declared.verdicts.Trap.{Trap}
use Rattle.grift_base.specs.declared.verdicts.Verdict.TheVariants.{Trap as TrapVerdict}
use Rattle.run_laws.specs.Runs.{Verdict as EndsWith}
use Rattle.machine_words.specs.Halts.{ending_of}
use Rattle.core_calc.specs.Account.{Measures}
use Rattle.low_ir.specs.Run.{Setting, LowState, code_step, goes_on}
use Rattle.object_layout.specs.declared.kinds.Kind.TheVariants.{Boxed, Vector}
use Rattle.object_layout.specs.Kinds.{kind_number}
use Rattle.coercion_norm.specs.Coercions.{Coercion}
use Rattle.cast_modes.specs.Modes.{TypeCast}
use Rattle.cast_modes.specs.Prices.{Cost}
use Rattle.cast_modes.specs.RunValues.{RunLoc, in_row}
use Rattle.cast_modes.specs.ValueSteps.{element_or_trap, run_with_element}
use Rattle.coercion_norm.specs.Objects.{Object, Cell}
use Rattle.coercion_norm.specs.ObjectsOfRows.{header}
use Rattle.coercion_norm.specs.Held.{Layout, TypesStand}
use Rattle.coercion_norm.specs.MergedMode.{merging}
use Rattle.coercion_norm.proofs.Public.{found_within}
use Rattle.flat_ir.specs.Bodies.{Proc}
use Rattle.flat_ir.specs.FlatTally.{act_cost}
use Rattle.coer_core.specs.TurnPrices.{merged_prices}
use Rattle.flat_ir.specs.Machine.{FlatValue, FlatFrame, FlatStore, FlatAfter, flat_arity, flat_entered}
use Rattle.rt_cast.specs.Procs.{Stand}
use Rattle.rt_cast.specs.States.{Heap, IsReady, Placed, Filled as RtFilled, heap_of}
use Rattle.reference_laws.specs.CellLaws.{TrapsAt, CellStands, CellInRegion}
use Rattle.lower.specs.Keeping.{FitsMeasures}
use Rattle.lower.specs.MergedMeaning.{merged_meaning}
use Rattle.lower.specs.Storage.{Filled}
use Rattle.lower.specs.CarriedValues.{CarriedIn, AreCarried, CellHeld}
use Rattle.lower.specs.SchemeLaws.{Here, StopsNow, Returns, Aim, operator_leaves}
use Rattle.lower.proofs.heap.Cells.{cell_of, there_is}
use Rattle.lower.proofs.heap.Objects.{none_some, same_some}
use Rattle.lower.proofs.words.Steps.{lt_true}
use Rattle.grift_base.specs.World.{WorldState}
use Rattle.grift_base.specs.EnvironmentCall.{environment_call}
use Rattle.grift_base.specs.declared.places.Pos.{Pos}
use Rattle.grift_base.specs.declared.verdicts.Verdict.TheVariants.{Blame}
use Rattle.grift_base.specs.declared.worlds.EnvEffect.TheVariants.{Blamed, Refused}
use Rattle.rt_cast.specs.Carried.{IsVery, BlamesAt}

-- the environment call of a blame
pub calls_blame : (x y labels : ℕ) (world : WorldState) → environment_call BLAME_CALL x y labels world
    ≡ record { effect = if Rattle.std.specs.Prelude.nat_lt x labels then Blamed x else Refused; world = world }
unfolding environment_call
calls_blame x y labels world = refl

pub in_front : (xs ys : List Pos) (x : ℕ) (p : Pos) → slice_get xs x ≡ Some p → x < length xs
in_front [] ys x p e = none_some e
in_front (y ∷ xs) ys zero p e = omega arith
in_front (y ∷ xs) ys (suc x) p e = let z = in_front xs ys x p e in omega (arith, z)

-- ---- elements

pub element_past : {A : Type 0} (xs : List A) (i : ℕ) → slice_get xs i ≡ None → length xs ≤ i
element_past [] i e = omega arith
element_past (x ∷ xs) zero e = none_some (sym e)
element_past (x ∷ xs) (suc i) e = let z = element_past xs i e in omega (arith, z)

pub past_element : {A : Type 0} (xs : List A) (i : ℕ) → length xs ≤ i → slice_get xs i ≡ None
past_element [] i le = refl
past_element (x ∷ xs) zero le = absurd (let z : ⊥ = omega (arith, le) in z)
past_element (x ∷ xs) (suc i) le = past_element xs i (omega (arith, le))

module _ (setting : Setting) (l : Layout) where
  -- ---- storage

  pub filled_as : (n : ℕ) (os : List Object) (h : Heap) → RtFilled setting l os h
      → Filled merged_meaning setting l n os h
  filled_as n os h f = record {
    objects_stand = f.objects_stand;
    statics_stand = f.statics_stand;
    ends = f.ends;
    fits = f.fits;
    keeps = f.whole;
  }

  pub filled_of : (n : ℕ) (os : List Object) (h : Heap) → Filled merged_meaning setting l n os h
      → RtFilled setting l os h
  filled_of n os h f = record {
    objects_stand = f.objects_stand;
    statics_stand = f.statics_stand;
    ends = f.ends;
    fits = f.fits;
    whole = f.keeps;
  }

module _ (setting : Setting) (l : Layout) (procs : List Proc) (casts : List TypeCast) (m : Measures) where
  -- ---- where it ends

  -- a trap
  pub trap_stops : (s : LowState) (n : ℕ) (trap : Trap) (t : LowState) → TrapsAt ending_of setting l s trap t
      → StopsNow merged_meaning setting l procs casts m s n (EndsWith (TrapVerdict trap)) t
  trap_stops s n trap t x =
      let f = filled_as setting l n x.objects (heap_of t) x.fine.filled in
      record {
        last = x.last;
        stops = x.stops;
        here = (x.objects, f);
        after = (x.objects, subst (Filled merged_meaning setting l n x.objects) (sym x.stays) f);
        same = x.same;
        same_after = x.same_after;
      }

  -- the environment call that blames a label stops so
  pub blame_stops : (s : LowState) (objects : List Object) (n label : ℕ) (place : Pos)
      → slice_get setting.labels label ≡ Some place → (t : LowState) → BlamesAt l setting s (IsVery l) objects label t
      → StopsNow merged_meaning setting l procs casts m s n (EndsWith (Blame place)) t
  blame_stops s objects n label place found_it t b = record {
    last = goes_on b.rest t.active.rests t;
    stops =
        (let one = lt_true b.d t.active.count b.first in
        let two = lt_true b.e t.active.count b.second in
        let x = b.is in
        let y = b.other in
        let inside = lt_true label (length setting.labels) (in_front setting.labels [] label place found_it) in
        let called : environment_call BLAME_CALL label 0 (length setting.labels) t.world
        ≡ record { effect = Blamed label; world = t.world } =
        calls_blame label 0 (length setting.labels) t.world
        ∙ ap (λ z. record { effect = if z then Blamed label else Refused; world = t.world }) inside in
        ap (λ z. code_step ending_of setting z t) b.code ∙ rw (x, y, one, two, called, found_it) refl);
    here = (b.new, filled_as setting l n b.new (heap_of t) b.fine.filled);
    after = (b.new, filled_as setting l n b.new (heap_of t) b.fine.filled);
    same = b.same;
    same_after = b.same;
  }

  -- ---- what is carried

  module _ (places : List ℕ) (objects : List Object) where
    abbrev pub C : FlatValue Coercion → ℕ → Type 0
    C v w = CarriedIn l setting.address procs merged_meaning places objects v [] w

    abbrev pub Cs : List (FlatValue Coercion) → List ℕ → Type 0
    Cs vs ws = AreCarried l setting.address procs merged_meaning places objects (in_row vs) ws

    pub as_many : (vs : List (FlatValue Coercion)) (ws : List ℕ) → Cs vs ws → length ws ≡ length vs
    as_many [] [] c = refl
    as_many [] (w ∷ ws) c = absurd c
    as_many (v ∷ vs) [] c = absurd c
    as_many (v ∷ vs) (w ∷ ws) c = ap suc (as_many vs ws c.1)

    pub element : (vs : List (FlatValue Coercion)) (ws : List ℕ) → Cs vs ws → (i : ℕ) (v : FlatValue Coercion)
        → slice_get vs i ≡ Some v → (w : ℕ) × (slice_get ws i ≡ Some w) × C v w
    element [] ws c i v e = none_some e
    element (x ∷ vs) [] c i v e = absurd c
    element (x ∷ vs) (w ∷ ws) c zero v e = (w, refl, subst (λ z. C z w) (same_some x v e) c.0)
    element (x ∷ vs) (w ∷ ws) c (suc i) v e = element vs ws c.1 i v e

    counts_same : (x y n k : ℕ) → Cell x n ≡ Cell y k → n ≡ k
    counts_same x y n k e = cc

    abbrev cell_kind : Bool → ℕ
    cell_kind is_vector = if is_vector then kind_number Vector else kind_number Boxed

    one_of_two : (is_vector : Bool)
        → (cell_kind is_vector ≡ kind_number Boxed) ⊎ (cell_kind is_vector ≡ kind_number Vector)
    one_of_two true = inr refl
    one_of_two false = inl refl

    -- a cell of the store, at its address
    module _ (placed : Placed setting l) (bytes : Rattle.machine_words.specs.Memory.Memory) (store : FlatStore Coercion)
        (cells : Rattle.lower.specs.CarriedValues.CellsHeld l setting.address procs merged_meaning places objects bytes
        places store)
        (is_vector : Bool) (cell : ℕ) (values : List (FlatValue Coercion))
        (in_store : slice_get store cell ≡ Some values) (a : ℕ) (c : C (RunLoc cell is_vector) a) where
      pub held : CellHeld l setting.address procs merged_meaning places objects bytes a values
      held =
          cell_of l setting.address procs merged_meaning places objects 0 bytes places store cells cell a values c.1
          in_store

      abbrev kind : ℕ
      kind = cell_kind is_vector

      same : Cell (header kind 0 c.0) c.0 ≡ Cell held.head (length held.words)
      same =
          there_is l objects a (Cell (header kind 0 c.0) c.0) (Cell held.head (length held.words)) placed.before c.2
          held.is

      pub counted : c.0 ≡ length held.words
      counted = counts_same (header kind 0 c.0) held.head c.0 (length held.words) same

      pub in_region : CellInRegion l objects bytes a held.words
      in_region = record {
        kind = kind;
        one = one_of_two is_vector;
        is = held.is ∙ ap (λ o. Some o) (sym same ∙ ap (λ n. Cell (header kind 0 n) n) counted);
        held = held.held;
      }

      pub stands : CellStands l objects bytes a held.words
      stands = record {
        kind = in_region.kind;
        one = in_region.one;
        there = inr in_region.is;
        held = in_region.held;
      }

      pub short : (alloc : ℕ) → alloc ≡ l.region + Rattle.coercion_norm.specs.Objects.bytes_of_all objects
          → alloc ≤ setting.top → length held.words < 2 ^ 63
      short alloc ends fits =
          let z = found_within objects l.region a (Cell held.head (length held.words)) held.is in
          omega (arith, z.high, ends, fits, placed.top)

-- ---- where a procedure begins

-- what is told of the state in which a procedure that reads, writes or gives a part begins: what runs are told, the
-- procedures of casts, and the storage, the store and the frames behind it
pub record Situation (setting : Setting) (l : Layout) (procs : List Proc) (casts : List TypeCast) (m : Measures)
    : Type 0 where
  pub measured : FitsMeasures l m
  pub first : ℕ
  pub placed : Placed setting l
  pub types : TypesStand l
  pub tallest : l.tallest ≤ 65534
  pub ready : Stand setting.procs first
  pub s : LowState
  pub number : ℕ
  pub places : List ℕ
  pub objects : List Object
  pub store : FlatStore Coercion
  pub here : Here merged_meaning setting l procs casts m places objects store number (heap_of s)
  pub base : List (FlatFrame Coercion)

-- what its laws speak of: that storage is as casts need it, and they are ready, the price of an act, which words stand
-- for values, what the numbered procedures do with an element that may be there, or with that of a number, and the
-- return that it comes to
pub record Speech (setting : Setting) (l : Layout) (procs : List Proc) (casts : List TypeCast) (m : Measures)
    (x : Situation setting l procs casts m) : Type 1 where
  pub rt_filled : RtFilled setting l x.objects (heap_of x.s)
  pub is_ready : IsReady setting l x.first
  pub acting : Cost
  pub C : FlatValue Coercion → ℕ → Type 0
  pub Cs : List (FlatValue Coercion) → List ℕ → Type 0
  pub element_here : Option (FlatValue Coercion) → ℕ → (ℕ → FlatValue Coercion → FlatAfter Coercion)
      → FlatAfter Coercion
  pub with_element : List (FlatValue Coercion) → ℤ → (ℕ → FlatValue Coercion → FlatAfter Coercion)
      → FlatAfter Coercion
  pub aim : Aim merged_meaning setting l procs casts m

-- what is told of a cell of its store: the words at the cell's address
pub record CellHere (setting : Setting) (l : Layout) (procs : List Proc) (casts : List TypeCast) (m : Measures)
    (x : Situation setting l procs casts m) (values : List (FlatValue Coercion)) (a : ℕ) : Type 0 where
  pub cell_words : List ℕ
  pub carried_words : Cs setting l procs casts m x.places x.objects values cell_words
  pub long : length cell_words ≡ length values
  pub few : length cell_words < 2 ^ 63
  pub stands_here : CellStands l x.objects x.s.memory a cell_words
  pub region_here : CellInRegion l x.objects x.s.memory a cell_words

module _ (setting : Setting) (l : Layout) (procs : List Proc) (casts : List TypeCast) (m : Measures) where
  abbrev pub situated : FitsMeasures l m → (first : ℕ) → Placed setting l → TypesStand l → l.tallest ≤ 65534
      → Stand setting.procs first → (s : LowState) (number : ℕ) (places : List ℕ) (objects : List Object)
      (store : FlatStore Coercion)
      → Here merged_meaning setting l procs casts m places objects store number (heap_of s)
      → List (FlatFrame Coercion) → Situation setting l procs casts m
  situated measured first placed types tallest ready s number places objects store here base = record {
    measured = measured;
    first = first;
    placed = placed;
    types = types;
    tallest = tallest;
    ready = ready;
    s = s;
    number = number;
    places = places;
    objects = objects;
    store = store;
    here = here;
    base = base;
  }

  abbrev pub speech : (x : Situation setting l procs casts m) → Speech setting l procs casts m x
  speech x = record {
    rt_filled = filled_of setting l x.number x.objects (heap_of x.s) x.here.filled;
    is_ready = record { placed = x.placed; stand = x.ready; types = x.types };
    acting = act_cost procs (merging l.types casts) (merged_prices l.types (merging l.types casts) m);
    C = C setting l procs casts m x.places x.objects;
    Cs = Cs setting l procs casts m x.places x.objects;
    element_here = element_or_trap (merging l.types casts) (flat_arity procs) (flat_entered procs) x.store x.s.world;
    with_element = run_with_element (merging l.types casts) (flat_arity procs) (flat_entered procs) x.store x.s.world;
    aim = λ focus frames store' n left t.
        Returns merged_meaning setting l procs casts m x.s operator_leaves x.places x.objects x.base focus frames store'
        n left t;
  }

  abbrev pub cell_here : (x : Situation setting l procs casts m) (is_vector : Bool) (cell : ℕ)
      (values : List (FlatValue Coercion)) → slice_get x.store cell ≡ Some values → (a : ℕ)
      → C setting l procs casts m x.places x.objects (RunLoc cell is_vector) a
      → CellHere setting l procs casts m x values a
  cell_here x is_vector cell values in_store a c =
      let known = held setting l procs casts m x.places x.objects x.placed x.s.memory x.store x.here.cells is_vector
      cell values in_store a c in
      record {
        cell_words = known.words;
        carried_words = known.carried;
        long = as_many setting l procs casts m x.places x.objects values known.words known.carried;
        few = short setting l procs casts m x.places x.objects x.placed x.s.memory x.store x.here.cells is_vector cell
            values in_store a c x.s.alloc x.here.filled.ends x.here.filled.fits;
        stands_here = stands setting l procs casts m x.places x.objects x.placed x.s.memory x.store x.here.cells
            is_vector cell values in_store a c;
        region_here = in_region setting l procs casts m x.places x.objects x.placed x.s.memory x.store x.here.cells
            is_vector cell values in_store a c;
      }
