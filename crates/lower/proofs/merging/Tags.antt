-- Casts that code makes in place, in the merged mode: a value goes into Dyn behind its tag, and comes out of it.
use Rattle.std.proofs.Common.{◌≡◌, inl, inr, ℕ, ◌+◌, ◌%◌, ◌<◌, ◌≤◌, Bool, true, false, List, [], ◌∷◌, length}
use Rattle.std.proofs.Common.{Option, Some, None, refl, sym, ap, ap₂, ◌∙◌, subst, arith, slice_get, eqb-true}
use Rattle.std.specs.Prelude.{◌==◌, if◌then◌else◌, max, option_map}
use Rattle.std.proofs.lemmas.Option.{slice_get-map}
use Rattle.grift_base.specs.Types.{TypeRow, IntRow, BoolRow, UnitRow, DynRow, FunRow, TupleRow, RefRow, VectRow}
use Rattle.grift_base.specs.Types.{is_dyn, same_head, head_of}
use Rattle.type_graph.specs.Trees.{height}
use Rattle.object_layout.specs.DynWords.{is_narrow, tagged}
use Rattle.core_calc.specs.Account.{Measures}
use Rattle.low_ir.specs.Operations.{compute}
use Rattle.low_ir.specs.declared.code.WordOp.TheVariants.{Sra}
use Rattle.low_ir.specs.Run.{Setting, LowState}
use Rattle.coercion_norm.specs.Coercions.{Coercion, Id, Inject, Project, rows_of, kind_of}
use Rattle.coercion_norm.specs.Composition.{coerce_below, coerce_by}
use Rattle.coercion_norm.specs.CoercionTables.{cast_of, composition_of}
use Rattle.coercion_norm.specs.MergedMode.{merging, shape_has_head}
use Rattle.cast_modes.specs.Modes.{Injecting, NoCast, TypeCast}
use Rattle.cast_modes.specs.RunValues.{RunInt, RunBool, RunUnit, RunFun, RunTuple, RunLoc, RunWrap, RunInject}
use Rattle.cast_modes.specs.RunValues.{shape_of}
use Rattle.cast_modes.specs.ValueSteps.{CastFrame, Return, decision_wraps, make}
use Rattle.coercion_norm.specs.Held.{Layout, There, Held, rows_in, height_in}
use Rattle.coercion_norm.specs.Objects.{Object, Fixed}
use Rattle.flat_ir.specs.Bodies.{Proc}
use Rattle.coer_core.specs.MergedTally.{effort}
use Rattle.flat_ir.specs.Counts.{decision_at, flat_turn_wraps}
use Rattle.flat_ir.specs.FlatTally.{cast_cost}
use Rattle.coer_core.specs.TurnPrices.{effort_cost, merged_prices}
use Rattle.cast_modes.specs.Prices.{Cost}
use Rattle.flat_ir.specs.Machine.{FlatValue, FlatFrame, FlatStore, flat_cast, flat_turn, flat_arity, flat_entered}
use Rattle.rt_cast.specs.Carried.{IsLow}
use Rattle.rt_cast.specs.DynWords.{IsDyn, IsDynBy, behind_tag, small_dyn}
use Rattle.rt_cast.specs.DynWords.{tag_of as tag_number_of}
use Rattle.rt_cast.specs.LightCasts.{has_none}
use Rattle.rt_cast.specs.States.{Placed, heap_of}
use Rattle.rt_cast.proofs.Public.{SmallIs, small_is, untagged}
use Rattle.lowered_code.specs.declared.served.Tag.{Tag}
use Rattle.lowered_code.specs.declared.served.Tag.TheVariants.{Int, Bool as BoolTag, Unit as UnitTag}
use Rattle.lowered_code.specs.declared.served.CastWay.{CastWay}
use Rattle.lowered_code.specs.declared.served.CastWay.TheVariants.{Called, IntoDyn, OutOfDyn}
use Rattle.lowered_code.specs.declared.served.Served.{Served}
use Rattle.lowered_code.specs.CastWays.{tag_number, tag_of, into_dyn, out_of_dyn, way_between, cast_way, cast_ways}
use Rattle.lowered_code.specs.CastWays.{way_at}
use Rattle.lowered_code.specs.CastWays.{in_place}
use Rattle.lower.specs.CarriedValues.{CarriedIn}
use Rattle.lowered_code.specs.Emit.{cast_word}
use Rattle.lower.specs.MergedMeaning.{merged_meaning, MergedCasts}
use Rattle.lower.specs.Keeping.{FitsMeasures}
use Rattle.lower.specs.SchemeLaws.{Walks}
use Rattle.lower.specs.SchemeLaws.{Here, OnWay, After, Serves, GivesInPlace, CastsInPlace, Aim}
use Rattle.lower.proofs.heap.Objects.{none_some, same_some, found_within, dyn_header}
use Rattle.lower.proofs.merging.Casts.{row_of}
use Rattle.lower.proofs.merging.States.{filled_as, filled_of}
use Rattle.lower.proofs.merging.Turns.{nothing_between}
use Rattle.lower.proofs.words.Arithmetic.{tag_some}

-- ---- types with tags

abbrev tag_row : Tag → TypeRow
tag_row Int = IntRow
tag_row BoolTag = BoolRow
tag_row UnitTag = UnitRow

row_is : (row : TypeRow) (tag : Tag) → tag_of row ≡ Some tag → row ≡ tag_row tag
row_is IntRow tag e = ap tag_row (same_some Int tag e)
row_is BoolRow tag e = ap tag_row (same_some BoolTag tag e)
row_is UnitRow tag e = ap tag_row (same_some UnitTag tag e)
row_is DynRow tag e = none_some e
row_is (FunRow parameters answer) tag e = none_some e
row_is (TupleRow parts) tag e = none_some e
row_is (RefRow content) tag e = none_some e
row_is (VectRow content) tag e = none_some e

number_is : (tag : Tag) → tag_number_of (tag_row tag) ≡ Some (tag_number tag)
number_is Int = refl
number_is BoolTag = refl
number_is UnitTag = refl

-- no two types have the same tag
row_by_number : (row : TypeRow) (tag : Tag) → tag_number_of row ≡ Some (tag_number tag) → row ≡ tag_row tag
row_by_number IntRow Int e = refl
row_by_number IntRow BoolTag e = absurd (let z : ⊥ = omega (arith, same_some 1 2 e) in z)
row_by_number IntRow UnitTag e = absurd (let z : ⊥ = omega (arith, same_some 1 3 e) in z)
row_by_number BoolRow Int e = absurd (let z : ⊥ = omega (arith, same_some 2 1 e) in z)
row_by_number BoolRow BoolTag e = refl
row_by_number BoolRow UnitTag e = absurd (let z : ⊥ = omega (arith, same_some 2 3 e) in z)
row_by_number UnitRow Int e = absurd (let z : ⊥ = omega (arith, same_some 3 1 e) in z)
row_by_number UnitRow BoolTag e = absurd (let z : ⊥ = omega (arith, same_some 3 2 e) in z)
row_by_number UnitRow UnitTag e = refl
row_by_number DynRow tag e = none_some e
row_by_number (FunRow parameters answer) tag e = none_some e
row_by_number (TupleRow parts) tag e = none_some e
row_by_number (RefRow content) tag e = none_some e
row_by_number (VectRow content) tag e = none_some e

-- such a type isn't Dyn, has its own head, and no parts
plain_row : (tag : Tag)
    → (is_dyn (tag_row tag) ≡ false) × (same_head (tag_row tag) (tag_row tag) ≡ true)
    × (has_none (kind_of (tag_row tag)) ≡ true)
plain_row Int = (refl, refl, refl)
plain_row BoolTag = (refl, refl, refl)
plain_row UnitTag = (refl, refl, refl)

-- ---- casts by their ways

-- what is known of a cast whose way is this: which side is Dyn, and which has the tag
abbrev Joins : CastWay → TypeRow → TypeRow → Type 0
Joins Called row other = Unit {0}
Joins (IntoDyn tag) row other = (is_dyn row ≡ false) × (is_dyn other ≡ true) × (row ≡ tag_row tag)
Joins (OutOfDyn tag) row other = (is_dyn row ≡ true) × (other ≡ tag_row tag)

joins : (row other : TypeRow) → Joins (way_between row other) row other
joins row other = from (is_dyn row) refl
  where
    into : (o : Option Tag) → tag_of row ≡ o → is_dyn row ≡ false → is_dyn other ≡ true → Joins (into_dyn o) row other
    into None e f g = tt
    into (Some tag) e f g = (f, g, row_is row tag e)

    out : (o : Option Tag) → tag_of other ≡ o → is_dyn row ≡ true → Joins (out_of_dyn o) row other
    out None e f = tt
    out (Some tag) e f = (f, row_is other tag e)

    to : (b : Bool) → is_dyn other ≡ b → is_dyn row ≡ false
        → Joins (if b then into_dyn (tag_of row) else Called) row other
    to true g f = into (tag_of row) refl f g
    to false g f = tt

    from : (b : Bool) → is_dyn row ≡ b
        → Joins (if b then out_of_dyn (tag_of other) else if is_dyn other then into_dyn (tag_of row) else Called) row
        other
    from true f = out (tag_of other) refl f
    from false f = to (is_dyn other) refl f

module _ (l : Layout) (from to label : ℕ) (tag : Tag) where
  abbrev R : ℕ → TypeRow
  R = rows_of l.types

  abbrev next : ℕ → ℕ → ℕ → Coercion
  next = coerce_below R (max (height l.types from) (height l.types to))

  by_sides : (a b : Bool) → is_dyn (R from) ≡ a → is_dyn (R to) ≡ b
      → cast_of l.types from to label ≡ coerce_by R next a b from to label
  by_sides a b low high = ap₂ (λ x y. coerce_by R next x y from to label) low high

  -- a cast between types with the same tag is none
  none_between : R from ≡ tag_row tag → R to ≡ tag_row tag → cast_of l.types from to label ≡ Id
  none_between f t =
      let plain = plain_row tag in
      nothing_between l.types from to label (ap₂ same_head f t ∙ plain.1)
      (ap (λ row. has_none (kind_of row)) f ∙ plain.2) (ap is_dyn t ∙ plain.0)

-- ---- what the numbered procedures come to

module _ (setting : Setting) (l : Layout) (procs : List Proc) (casts : List TypeCast) (m : Measures)
    (measured : FitsMeasures l m) (placed : Placed setting l) (s : LowState) (number : ℕ) (places : List ℕ) (objects :
    List Object) (store : FlatStore Coercion)
    (here : Here merged_meaning setting l procs casts m places objects store number (heap_of s))
    (base : List (FlatFrame Coercion)) where
  abbrev C : FlatValue Coercion → ℕ → Type 0
  C v w = CarriedIn l setting.address procs merged_meaning places objects v [] w

  abbrev costs : Coercion → FlatValue Coercion → Cost
  costs c v = cast_cost procs (merging l.types casts) (merged_prices l.types (merging l.types casts) m) (Some c) v

  abbrev aim : ℕ → Aim merged_meaning setting l procs casts m
  aim word focus frames store' n left t =
      GivesInPlace merged_meaning setting l procs casts m s places objects base word focus frames store' n left t

  abbrev Made : FlatValue Coercion → Coercion → ℕ → Type 0
  Made v c word =
      Serves merged_meaning setting l procs casts m s (aim word)
      (flat_cast procs (merging l.types casts) store s.world v c base) (costs c v) number
      (decision_wraps (decision_at procs (merging l.types casts) (Some c) v)) s

  -- the number plays no part
  here_after : (n : ℕ) → Here merged_meaning setting l procs casts m places objects store n (heap_of s)
  here_after n = record {
    filled = filled_as setting l n objects (heap_of s) (filled_of setting l number objects (heap_of s) here.filled);
    cells = here.cells;
  }

  on_way : (n : ℕ) → OnWay merged_meaning setting l procs casts m s s 0 n n s
  on_way n = record {
    objects = objects;
    filled = inl (here_after n).filled;
    same = refl;
    room = omega arith;
    asked = omega arith;
  }

  -- a turn without a step, with so much left
  at_once : (X : ℕ → LowState → Type 0) (asks credit left n n' : ℕ) → left ≤ credit → X left s
      → Walks merged_meaning setting l procs casts m s asks credit n n' X s
  at_once X asks credit left n n' le x = (0, 0, left, omega (arith, le), omega arith, (omega arith, omega arith, x))

  -- into Dyn: in one turn, whatever the value
  put : (v : FlatValue Coercion) (w : ℕ) → C v w → (from : ℕ) (tag : Tag) → rows_of l.types from ≡ tag_row tag
      → from < length l.types → IsLow l (Inject Id from) → is_narrow w ≡ true
      → Made v (Inject Id from) (tagged (tag_number tag) w)
  put v w carried from tag row known low narrow =
      by (shape_has_head (shape_of (flat_arity procs) v) (head_of (rows_of l.types from)))
    where
      small : small_dyn (rows_in l from) w ≡ Some (tagged (tag_number tag) w)
      small =
          ap (λ r. small_dyn r w) row ∙ (ap (λ o. behind_tag o w) (number_is tag)
          ∙ ap (λ b. if b then Some (tagged (tag_number tag) w) else None) narrow)

      high : height_in l from ≤ l.tallest
      high = let h : max 0 (height_in l from) ≤ l.tallest = low.low in omega (arith, h)

      dyn : IsDyn l objects from w (tagged (tag_number tag) w)
      dyn = subst (λ o. IsDynBy l objects o from w (tagged (tag_number tag) w)) (sym small) (refl, known)

      by : (b : Bool)
          → Serves merged_meaning setting l procs casts m s (aim (tagged (tag_number tag) w))
          (make (merging l.types casts) (flat_arity procs) (flat_entered procs) store s.world
          (if b then Injecting from else NoCast) v base)
          (effort_cost m (effort l.types (Inject Id from) (shape_of (flat_arity procs) v)
          (if b then Injecting from else NoCast))) number
          (decision_wraps {C = Coercion} (if b then Injecting from else NoCast)) s
      by true = (
        0,
        (
          refl,
          at_once _ _ _ 896 _ _ (omega arith) (
            refl,
            refl,
            omega arith,
            here_after (number + 0),
            (
              w,
              dyn,
              high,
              ap is_dyn row ∙ (plain_row tag).0,
              carried,
            ),
          ),
        ),
      )
      by false = (0, refl)

  -- what the word of a value in Dyn with a tag is
  behind : (kept x w : ℕ) (tag : Tag) → IsDyn l objects kept x w → w % 8 ≡ tag_number tag
      → (rows_of l.types kept ≡ tag_row tag) × (compute Sra w 3 ≡ x)
  behind kept x w tag is found = by (small_dyn (rows_in l kept) x) refl is
    where
      some : 0 < tag_number tag
      some = tag_some tag

      by : (o : Option ℕ) → small_dyn (rows_in l kept) x ≡ o → IsDynBy l objects o kept x w
          → (rows_of l.types kept ≡ tag_row tag) × (compute Sra w 3 ≡ x)
      by (Some small) e d =
          let t : SmallIs (rows_in l kept) x small = small_is (rows_in l kept) x small e in
          let word : w ≡ tagged t.tag x = d.0 ∙ t.is in
          let few = t.few in
          let same : t.tag ≡ tag_number tag = omega (arith, word, found, few) in (
            row_by_number (rows_of l.types kept) tag (t.has ∙ ap Some same),
            ap (λ z. compute Sra z 3) word ∙ untagged t.tag x (omega (arith, few)) t.narrow,
          )
      by None e d = absurd (let even = by_place d.1 in let z : ⊥ = omega (arith, even, found, some) in z)
        where
          by_place : There l objects w (Fixed dyn_header (d.0 ∷ x ∷ [])) → w % 8 ≡ 0
          by_place (inl p) =
              (found_within l.statics l.first w (Fixed dyn_header (d.0 ∷ x ∷ [])) p).even placed.even_first
          by_place (inr p) =
              (found_within objects l.region w (Fixed dyn_header (d.0 ∷ x ∷ [])) p).even placed.even_region

  -- out of Dyn: the Dyn is opened in one turn, and a cast that is none is made in the next
  opened : (u : FlatValue Coercion) (kept w to label : ℕ) (tag : Tag) → C (RunInject u kept) w
      → rows_of l.types to ≡ tag_row tag → w % 8 ≡ tag_number tag
      → Made (RunInject u kept) (Project to label Id) (compute Sra w 3)
  opened u kept w to label tag carried row found = (
    1,
    (
      refl,
      (
        0,
        0,
        0 + open_cost.budget,
        omega arith,
        omega arith,
        (omega arith, omega arith, (tt, on_way (number + 0), subst After_by (sym none) kept_so)),
      ),
    ),
  )
    where
      open_cost : Cost
      open_cost = costs (Project to label Id) (RunInject u kept)

      known : (rows_of l.types kept ≡ tag_row tag) × (compute Sra w 3 ≡ carried.0)
      known = behind kept carried.0 w tag carried.1 found

      none : composition_of l.types (cast_of l.types kept to label) Id ≡ Id
      none = ap (λ c. composition_of l.types c Id) (none_between l kept to label tag known.0 row)

      After_by : Coercion → Type 0
      After_by inner =
          After merged_meaning setting l procs casts m s (aim (compute Sra w 3))
          (flat_turn procs (merging l.types casts) store s.world (Return u) (CastFrame inner ∷ base)) (costs inner u)
          (0 + open_cost.budget) (number + 0)
          (flat_turn_wraps procs (merging l.types casts) (Return u) (CastFrame inner ∷ base)) s

      kept_so : After_by Id
      kept_so = (
        refl,
        at_once _ _ _ (0 + open_cost.budget + 896) _ _ (omega arith)
            (refl, refl, omega arith, here_after (number + 0 + 0), subst (λ z. C u z) (sym known.1) carried.4),
      )

  taken : (v : FlatValue Coercion) (w : ℕ) → C v w → (to label : ℕ) (tag : Tag) → rows_of l.types to ≡ tag_row tag
      → w % 8 ≡ tag_number tag → Made v (Project to label Id) (compute Sra w 3)
  taken (RunInject u kept) w carried to label tag row found = opened u kept w to label tag carried row found
  taken (RunInt n) w carried to label tag row found = (0, refl)
  taken (RunBool b) w carried to label tag row found = (0, refl)
  taken RunUnit w carried to label tag row found = (0, refl)
  taken (RunFun code captured) w carried to label tag row found = (0, refl)
  taken (RunTuple values) w carried to label tag row found = (0, refl)
  taken (RunLoc cell is_vector) w carried to label tag row found = (0, refl)
  taken (RunWrap u cast) w carried to label tag row found = (0, refl)

  module _ (v : FlatValue Coercion) (w : ℕ) (carried : C v w) (from to label wc : ℕ)
      (held : Held l [] (cast_of l.types from to label) wc) (low : IsLow l (cast_of l.types from to label)) where
    cast_made : (word : ℕ) (way : CastWay) → Joins way (rows_of l.types from) (rows_of l.types to)
        → in_place way w ≡ Some word → Made v (cast_of l.types from to label) word
    cast_made word Called j e = none_some e
    cast_made word (IntoDyn tag) j e = by_width (is_narrow w) refl e
      where
        injects : cast_of l.types from to label ≡ Inject Id from
        injects = by_sides l from to label tag false true j.0 j.1

        by_width : (b : Bool) → is_narrow w ≡ b → (if b then Some (tagged (tag_number tag) w) else None) ≡ Some word
            → Made v (cast_of l.types from to label) word
        by_width false q e = none_some e
        by_width true q e =
            let known = (subst (λ c. Held l [] c wc) injects held).4.known in
            subst (λ c. Made v c word) (sym injects)
            (subst (λ n. Made v (Inject Id from) n) (same_some (tagged (tag_number tag) w) word e)
            (put v w carried from tag j.2 known (subst (λ c. IsLow l c) injects low) q))
    cast_made word (OutOfDyn tag) j e = by_tag (w % 8 == tag_number tag) refl e
      where
        projects : cast_of l.types from to label ≡ Project to label Id
        projects = by_sides l from to label tag true false j.0 (ap is_dyn j.1 ∙ (plain_row tag).0)

        by_tag : (b : Bool) → (w % 8 == tag_number tag) ≡ b → (if b then Some (compute Sra w 3) else None) ≡ Some word
            → Made v (cast_of l.types from to label) word
        by_tag false q e = none_some e
        by_tag true q e =
            subst (λ c. Made v c word) (sym projects)
            (subst (λ n. Made v (Project to label Id) n) (same_some (compute Sra w 3) word e)
            (taken v w carried to label tag j.1 (eqb-true (w % 8) (tag_number tag) q)))

-- What code makes of a word in place carries the value of its cast, wherever the procedures stand.
pub merged_casts_in_place : (setting : Setting) (l : Layout) (procs : List Proc) (casts : List TypeCast)
    (m : Measures) (words : List ℕ) (run_by : Served) → FitsMeasures l m → Placed setting l
    → MergedCasts l casts words → run_by.ways ≡ cast_ways l.types casts
    → CastsInPlace merged_meaning setting l procs casts m run_by
merged_casts_in_place setting l procs casts m words run_by measured placed held ways_are =
    λ s number places objects store here base row c e v w carried word made.
    let r = row_of l.types (slice_get casts row) c e in
    let cast = r.0 in
    let z = held.hold row r.0 r.1 in
    let way : way_at (slice_get run_by.ways row) ≡ cast_way l.types r.0 =
    ap (λ ws. way_at (slice_get ws row)) ways_are ∙ (ap way_at (slice_get-map (cast_way l.types) casts row)
    ∙ ap (λ o. way_at (option_map (cast_way l.types) o)) r.1) in
    subst (λ c. Serves merged_meaning setting l procs casts m s
    (GivesInPlace merged_meaning setting l procs casts m s places objects base word)
    (flat_cast procs (merging l.types casts) store s.world v c base)
    (cast_cost procs (merging l.types casts) (merged_prices l.types (merging l.types casts) m) (Some c) v) number
    (decision_wraps (decision_at procs (merging l.types casts) (Some c) v)) s) (sym r.2)
    (cast_made setting l procs casts m measured placed s number places objects store here base v w carried cast.from
    cast.to
    cast.label (cast_word (slice_get words row)) z.0 z.1 word (cast_way l.types r.0)
    (joins (rows_of l.types cast.from) (rows_of l.types cast.to)) (ap (λ y. in_place y w) (sym way) ∙ made))
