-- Casts of values in the merged mode as turns of the numbered procedures, whatever waits for what they come to.
use Rattle.std.proofs.Common.{◌≡◌, ◌⊎◌, inl, inr, ℕ, zero, suc, ◌+◌, ◌<◌, List, [], ◌∷◌, length, Some, None}
use Rattle.std.proofs.Common.{Bool, true, false, cond, Option, refl, sym, ap, ap₂, ◌∙◌, subst, arith, slice_get}
use Rattle.std.proofs.Common.{le_refl, nat_eq, ◌*◌, ◌≤◌}
use Rattle.std.specs.Prelude.{if◌then◌else◌, max, not, ◌&&◌, ◌||◌}
use Rattle.grift_base.specs.Types.{TypeHead, IntHead, BoolHead, UnitHead, DynHead, FunHead, TupleHead, RefHead}
use Rattle.grift_base.specs.Types.{VectHead, head_of, equal_heads, is_dyn}
use Rattle.type_graph.specs.Trees.{height}
use Rattle.low_ir.specs.Run.{Setting, LowState}
use Rattle.coercion_norm.specs.Coercions.{Coercion, Id, Fail, Middle, Inject, Project, rows_of, all_id}
use Rattle.coercion_norm.specs.Normal.{IsNormal, is_project}
use Rattle.coercion_norm.specs.CoercionTables.{cast_of, composition_of}
use Rattle.coercion_norm.specs.MergedMode.{merging, shape_has_head, applied, rewrapped, middle_head, width}
use Rattle.cast_modes.specs.Modes.{TypeCast, Decision, Wrapping, Rewrapping, Unwrapping, Injecting, NoCast}
use Rattle.cast_modes.specs.RunValues.{RunInt, RunBool, RunUnit, RunFun, RunTuple, RunLoc, RunWrap, RunInject}
use Rattle.cast_modes.specs.RunValues.{shape_of}
use Rattle.cast_modes.specs.ValueSteps.{CastFrame, Return, On, BlameOf, NoNext, make, decision_wraps}
use Rattle.coercion_norm.specs.Held.{Layout}
use Rattle.coercion_norm.specs.Objects.{Object}
use Rattle.flat_ir.specs.Bodies.{Proc}
use Rattle.flat_ir.specs.Counts.{decision_at}
use Rattle.flat_ir.specs.Machine.{FlatCode, FlatValues, FlatValue, FlatFrame, FlatStore, FlatAfter, flat_arity}
use Rattle.flat_ir.specs.Machine.{flat_entered, flat_cast}
use Rattle.rt_cast.specs.MergedValues.{Merged, Base, Solid, Proxied, InDyn, Outcome, Gives, Blames, cast_value, cast_to}
use Rattle.rt_cast.specs.MergedValues.{then_outcome}
use Rattle.rt_cast.specs.MergedValues.{decided, shape_of as merged_shape}
use Rattle.lower.specs.CarriedValues.{CarriedIn, IsGroup}
use Rattle.lowered_code.specs.Numbering.{function_offset}
use Rattle.lower.specs.MergedMeaning.{merged_meaning, WrapsKind}
use Rattle.lower.specs.Keeping.{FitsMeasures}
use Rattle.lower.specs.SchemeLaws.{StopsNow, After, Goes, Aim}
use Rattle.coercion_norm.proofs.Public.{heads_exact}
use Rattle.lower.proofs.merging.Opened.{opened, no_parts}
use Rattle.lower.proofs.heap.Objects.{none_some, same_some, closure_header}
use Rattle.std.proofs.Common.{pos}
use Rattle.coercion_norm.specs.Coercions.{Coercions, NoCoercions, CoercionThen, same_kind}
use Rattle.coercion_norm.specs.Composition.{compose_below, follow_parts}
use Rattle.coercion_norm.specs.Heights.{coercion_height}
use Rattle.coercion_norm.specs.Held.{There}
use Rattle.cast_modes.specs.Modes.{Wrapped}
use Rattle.coercion_norm.specs.Objects.{Fixed}
use Rattle.coercion_norm.specs.declared.middles.MiddleKind.{MiddleKind as Kind}
use Rattle.coercion_norm.specs.declared.middles.MiddleKind.TheVariants.{Fun, Tup, Ref, Vec}
use Rattle.coercion_norm.specs.MergedMode.{tuple_coercion, cell_coercion, part_at}
use Rattle.coercion_norm.specs.Normal.{AreNormal}
use Rattle.cast_modes.specs.RunValues.{row_list}
use Rattle.cast_modes.specs.ValueSteps.{on_some, ProjFrame}
use Rattle.flat_ir.specs.Machine.{flat_proj}
use Rattle.rt_cast.specs.PartValues.{part_value, with_some}
use Rattle.lower.proofs.merging.Like.{Like, solid_head, like_shape, KnownAt, KnownUnder}
use Rattle.grift_base.specs.Types.{TypeRow, TypeRows, IntRow, BoolRow, UnitRow, DynRow, FunRow, TupleRow, RefRow}
use Rattle.grift_base.specs.Types.{VectRow, row_at, same_head}
use Rattle.grift_base.specs.declared.places.Pos.{Pos}
use Rattle.grift_base.specs.declared.verdicts.Verdict.TheVariants.{Blame}
use Rattle.run_laws.specs.Runs.{Verdict as EndsWith}
use Rattle.core_calc.specs.Account.{Measures, Wraps, Casts, rows_kind, cast_kind}
use Rattle.coercion_norm.specs.Coercions.{kind_of}
use Rattle.coercion_norm.specs.Composition.{coerce_below, coerce_by, coerce_middle}
use Rattle.coercion_norm.specs.MergedMode.{proxied}
use Rattle.cast_modes.specs.Modes.{Shape, Bare, Injected}
use Rattle.coer_core.specs.MergedTally.{Effort, Heavy, Injects, Splits, Keeps, effort, effort_asks, effort_budget}
use Rattle.coer_core.specs.MergedTally.{half_charge, opening_of_kind}
use Rattle.flat_ir.specs.FlatTally.{act_cost, cast_cost}
use Rattle.coer_core.specs.TurnPrices.{merged_prices, effort_cost}
use Rattle.cast_modes.specs.Prices.{Cost}
use Rattle.flat_ir.specs.Machine.{FlatFocus}
use Rattle.rt_cast.specs.LightCasts.{ends_simply, has_none, is_light}
use Rattle.lower.proofs.merging.Bounds.{Fits, nothing_fits, opening_asks, opening_budget}
use Rattle.lower.proofs.merging.Stages.{Calm, Stage, at_end, stays, takes}

part_in : (rows : ℕ → Rattle.grift_base.specs.Types.TypeRow) (cs : Rattle.coercion_norm.specs.Coercions.Coercions)
    (k : ℕ) (d : Coercion) → AreNormal rows cs → part_at cs k ≡ Some d → IsNormal rows d
part_in rows NoCoercions k d normal e = none_some e
part_in rows (CoercionThen c cs) zero d normal e = subst (λ x. IsNormal rows x) (same_some c d e) normal.0
part_in rows (CoercionThen c cs) (suc k) d normal e = part_in rows cs k d normal.1 e

part_normal : (rows : ℕ → Rattle.grift_base.specs.Types.TypeRow) (c : Coercion) (k : ℕ) (d : Coercion)
    → IsNormal rows c → tuple_coercion c (pos k) ≡ Some d → IsNormal rows d
part_normal rows (Middle Tup cs) k d normal e = part_in rows cs k d normal.1 e
part_normal rows (Middle Fun cs) k d normal e = none_some e
part_normal rows (Middle Ref cs) k d normal e = none_some e
part_normal rows (Middle Vec cs) k d normal e = none_some e
part_normal rows Id k d normal e = none_some e
part_normal rows (Fail label) k d normal e = none_some e
part_normal rows (Inject g kept) k d normal e = none_some e
part_normal rows (Project wanted label i) k d normal e = none_some e

-- a part of a cell's coercion is in normal form
pub cell_part_normal : (rows : ℕ → Rattle.grift_base.specs.Types.TypeRow) (c : Coercion) (k : ℕ) (d : Coercion)
    → IsNormal rows c → cell_coercion k c ≡ Some d → IsNormal rows d
cell_part_normal rows (Middle Ref cs) k d normal e = part_in rows cs k d normal.1 e
cell_part_normal rows (Middle Vec cs) k d normal e = part_in rows cs k d normal.1 e
cell_part_normal rows (Middle Fun cs) k d normal e = none_some e
cell_part_normal rows (Middle Tup cs) k d normal e = none_some e
cell_part_normal rows Id k d normal e = none_some e
cell_part_normal rows (Fail label) k d normal e = none_some e
cell_part_normal rows (Inject g kept) k d normal e = none_some e
cell_part_normal rows (Project wanted label i) k d normal e = none_some e

-- a blame stays one
abbrev pub IsStrict : (Outcome ℕ → Outcome ℕ) → Type 0
IsStrict after = (label : ℕ) → after (Blames label) ≡ Blames label

-- ---- rows of types

no_row : (types : TypeRows) (k : ℕ) → slice_get types k ≡ None → rows_of types k ≡ DynRow
no_row [] k e = refl
no_row (x ∷ types) zero e = none_some (sym e)
no_row (x ∷ types) (suc k) e = no_row types k e

row_there : (types : TypeRows) (k : ℕ) (row : TypeRow) → slice_get types k ≡ Some row → rows_of types k ≡ row
row_there [] k row e = none_some e
row_there (x ∷ types) zero row e = same_some x row e
row_there (x ∷ types) (suc k) row e = row_there types k row e

no_true : false ≡ true → ⊥
no_true e = cc

no_false : true ≡ false → ⊥
no_false e = cc

-- a cast between types of one head with parts wraps
rows_wrap : (row other : TypeRow) → same_head row other ≡ true → has_none (kind_of row) ≡ false
    → rows_kind row other ≡ Wraps
rows_wrap IntRow other same parts = absurd (no_false parts)
rows_wrap BoolRow other same parts = absurd (no_false parts)
rows_wrap UnitRow other same parts = absurd (no_false parts)
rows_wrap DynRow other same parts = absurd (no_false parts)
rows_wrap (FunRow ps a) (FunRow qs b) same parts = ap (λ x. cond (not x) Casts Wraps) same
rows_wrap (FunRow ps a) _ same parts = absurd (no_true same)
rows_wrap (TupleRow ps) (TupleRow qs) same parts = ap (λ x. cond (not x) Casts Wraps) same
rows_wrap (TupleRow ps) _ same parts = absurd (no_true same)
rows_wrap (RefRow a) (RefRow b) same parts = refl
rows_wrap (RefRow a) _ same parts = absurd (no_true same)
rows_wrap (VectRow a) (VectRow b) same parts = refl
rows_wrap (VectRow a) _ same parts = absurd (no_true same)

no_dyn_head : (row : TypeRow) → same_head row DynRow ≡ true → has_none (kind_of row) ≡ false → ⊥
no_dyn_head IntRow same parts = no_true same
no_dyn_head BoolRow same parts = no_true same
no_dyn_head UnitRow same parts = no_true same
no_dyn_head DynRow same parts = no_false parts
no_dyn_head (FunRow ps a) same parts = no_true same
no_dyn_head (TupleRow ps) same parts = no_true same
no_dyn_head (RefRow a) same parts = no_true same
no_dyn_head (VectRow a) same parts = no_true same

-- so it does where the table has the types
opening_wraps : (types : TypeRows) (kept wanted : ℕ) → same_head (rows_of types kept) (rows_of types wanted) ≡ true
    → has_none (kind_of (rows_of types kept)) ≡ false → cast_kind (row_at types kept) (row_at types wanted) ≡ Wraps
opening_wraps types kept wanted same parts = by (slice_get types kept) (slice_get types wanted) refl refl
  where
    by : (o p : Option TypeRow) → slice_get types kept ≡ o → slice_get types wanted ≡ p → cast_kind o p ≡ Wraps
    by None p e f =
        absurd (no_false (subst (λ r. has_none (kind_of r) ≡ false) (no_row types kept e) parts))
    by (Some row) None e f =
        absurd (no_dyn_head row
        (subst (λ r. same_head r DynRow ≡ true) (row_there types kept row e)
        (subst (λ r. same_head (rows_of types kept) r ≡ true) (no_row types wanted f) same))
        (subst (λ r. has_none (kind_of r) ≡ false) (row_there types kept row e) parts))
    by (Some row) (Some other) e f =
        rows_wrap row other
        (subst (λ r. same_head r other ≡ true) (row_there types kept row e)
        (subst (λ r. same_head (rows_of types kept) r ≡ true) (row_there types wanted other f) same))
        (subst (λ r. has_none (kind_of r) ≡ false) (row_there types kept row e) parts)

-- a type with the head of one that isn't Dyn isn't either
dyn_same : (row other : TypeRow) → same_head row other ≡ true → is_dyn other ≡ false → is_dyn row ≡ false
dyn_same row other e f = ap (λ h. equal_heads h DynHead) (heads_exact (head_of row) (head_of other) e) ∙ f

-- between types of one head without parts there is nothing to do
pub nothing_between : (types : TypeRows) (kept wanted label : ℕ)
    → same_head (rows_of types kept) (rows_of types wanted) ≡ true
    → has_none (kind_of (rows_of types kept)) ≡ true → is_dyn (rows_of types wanted) ≡ false
    → cast_of types kept wanted label ≡ Id
nothing_between types kept wanted label same none solid =
    ap₂ (λ b c. coerce_by R (coerce_below R n) b c kept wanted label)
    (dyn_same (R kept) (R wanted) same solid) solid
    ∙ by (nat_eq kept wanted)
  where
    R : ℕ → TypeRow
    R = rows_of types

    n : ℕ
    n = max (height types kept) (height types wanted)

    middle : Option Kind → Coercion
    middle o = coerce_middle R (coerce_below R n) o kept wanted label

    is_none : (o : Option Kind) → has_none o ≡ true → o ≡ None
    is_none None e = refl
    is_none (Some kind) e = absurd (no_true e)

    by : (b : Bool) → cond b Id (cond (same_head (R kept) (R wanted)) (middle (kind_of (R kept))) (Fail label)) ≡ Id
    by true = refl
    by false =
        ap (λ c. cond c (middle (kind_of (R kept))) (Fail label)) same ∙ ap middle (is_none (kind_of (R kept)) none)

-- what stands behind a Project with a middle isn't light
not_light : (rows : ℕ → TypeRow) (i : Coercion) (x : Merged ℕ) → is_project i ≡ false → ends_simply i ≡ false
    → is_light rows i x ≡ true → ⊥
not_light rows Id x p e l = no_false e
not_light rows (Fail label) x p e l = no_false e
not_light rows (Middle kind cs) x p e l = no_true l
not_light rows (Inject g kept) x p e l = no_false (sym l ∙ e)
not_light rows (Project wanted label i) x p e l = no_false p

-- ---- what one turn makes of a value that is like another, whose parts below proxies have this head

module _ (setting : Setting) (l : Layout) (procs : List Proc) (casts : List TypeCast) (m : Measures) (s : LowState)
    (places : List ℕ) (objects : List Object) (store : FlatStore Coercion) (H : TypeHead) where
  abbrev heads : ℕ → TypeHead
  heads a = H

  abbrev L : FlatValue Coercion → Merged ℕ → Type 0
  L u x = Like setting l procs places objects u x

  -- the head of what is under all wrappers
  abbrev HeadIs : FlatValue Coercion → Type 0
  HeadIs u = solid_head setting l procs places objects u ≡ H

  shape_is : (u : FlatValue Coercion) (m : Merged ℕ) → L u m → HeadIs u
      → merged_shape heads m ≡ shape_of (flat_arity procs) u
  shape_is u m k h =
      subst (λ x. merged_shape (λ a. x) m ≡ shape_of (flat_arity procs) u) h
      (like_shape setting l procs places objects u m k)

  abbrev made_at : Decision Coercion → FlatValue Coercion → List (FlatFrame Coercion) → FlatAfter Coercion
  made_at d u frames = make (merging l.types casts) (flat_arity procs) (flat_entered procs) store s.world d u frames

  abbrev apply_to : Coercion → Rattle.cast_modes.specs.Modes.Shape Coercion → Decision Coercion
  apply_to z shape = applied (cast_of l.types) (composition_of l.types) l.types z shape

  abbrev turn : Coercion → FlatValue Coercion → List (FlatFrame Coercion) → FlatAfter Coercion
  turn z u frames = flat_cast procs (merging l.types casts) store s.world u z frames

  abbrev wraps_in : Coercion → FlatValue Coercion → ℕ
  wraps_in z u = decision_wraps (decision_at procs (merging l.types casts) (Some z) u)

  -- a turn that is a cast's last: a value like what the cast comes to, or no next
  abbrev OneTurn : List (FlatFrame Coercion) → FlatAfter Coercion → ℕ → Outcome ℕ → Type 0
  OneTurn frames x wraps o =
      ((u : FlatValue Coercion) × (m : Merged ℕ) × L u m × HeadIs u × (x ≡ On (Return u) frames store s.world)
      × (o ≡ Gives m))
      ⊎ ((x ≡ NoNext) × (wraps ≡ 0))

  no_cast : (go : Coercion → Merged ℕ → Outcome ℕ) (b : Bool) (d : Decision Coercion) → b ≡ false
      → (u : FlatValue Coercion) (m : Merged ℕ) (frames : List (FlatFrame Coercion))
      → OneTurn frames (made_at (if b then d else NoCast) u frames) (decision_wraps (if b then d else NoCast))
      (decided go (if b then d else NoCast) m)
  no_cast go false d q u m frames = inr (refl, refl)
  no_cast go true d q u m frames = absurd (let z : ⊥ = cc in z)

  solid_turn : (go : Coercion → Merged ℕ → Outcome ℕ) (b : Bool) (z : Coercion) (u : FlatValue Coercion)
      (m : Merged ℕ)
      (frames : List (FlatFrame Coercion)) (a : ℕ) → m ≡ Solid a → L u (Solid a) → HeadIs u
      → (b ≡ true → WrapsKind l objects z a)
      → OneTurn frames (made_at (if b then Wrapping z else NoCast) u frames)
      (decision_wraps (if b then Wrapping z else NoCast)) (decided go (if b then Wrapping z else NoCast) m)
  solid_turn go true z u m frames a e k h f =
      inl (RunWrap u z, Proxied a z, (a, refl, k, f refl), h, refl, ap (decided go (Wrapping z)) e)
  solid_turn go false z u m frames a e k h f = inr (refl, refl)

  -- a value that keeps a wrapper
  still_wrapped : (go : Coercion → Merged ℕ → Outcome ℕ) (z : Coercion) (u : FlatValue Coercion) (old : Coercion)
      (m : Merged ℕ) (frames : List (FlatFrame Coercion)) (a : ℕ) → m ≡ Proxied a old → L u (Solid a) → HeadIs u
      → WrapsKind l objects z a
      → OneTurn frames (made_at (Rewrapping z) (RunWrap u old) frames) (decision_wraps (Rewrapping z))
      (decided go (Rewrapping z) m)
  still_wrapped go z u old m frames a e k h f =
      inl (RunWrap u z, Proxied a z, (a, refl, k, f), h, refl, ap (decided go (Rewrapping z)) e)

  rewrapped_turn : (go : Coercion → Merged ℕ → Outcome ℕ) (z : Coercion) (u : FlatValue Coercion) (old : Coercion)
      (m : Merged ℕ) (frames : List (FlatFrame Coercion)) (a : ℕ) → m ≡ Proxied a old → L u (Solid a) → HeadIs u
      → WrapsKind l objects z a
      → OneTurn frames (made_at (rewrapped z) (RunWrap u old) frames) (decision_wraps (rewrapped z))
      (decided go (rewrapped z) m)
  rewrapped_turn go Id u old m frames a e k h f = inl (u, Solid a, k, h, refl, ap (decided go Unwrapping) e)
  rewrapped_turn go (Fail label) u old m frames a e k h f = still_wrapped go (Fail label) u old m frames a e k h f
  rewrapped_turn go (Middle kind cs) u old m frames a e k h f =
      still_wrapped go (Middle kind cs) u old m frames a e k h f
  rewrapped_turn go (Inject g kept) u old m frames a e k h f =
      still_wrapped go (Inject g kept) u old m frames a e k h f
  rewrapped_turn go (Project wanted label i) u old m frames a e k h f =
      still_wrapped go (Project wanted label i) u old m frames a e k h f

  wrapped_turn : (go : Coercion → Merged ℕ → Outcome ℕ) (b : Bool) (z : Coercion) (u : FlatValue Coercion)
      (old : Coercion) (m : Merged ℕ) (frames : List (FlatFrame Coercion)) (a : ℕ) → m ≡ Proxied a old → L u (Solid a)
      → HeadIs u → (b ≡ true → WrapsKind l objects z a)
      → OneTurn frames (made_at (if b then rewrapped z else NoCast) (RunWrap u old) frames)
      (decision_wraps (if b then rewrapped z else NoCast)) (decided go (if b then rewrapped z else NoCast) m)
  wrapped_turn go true z u old m frames a e k h f = rewrapped_turn go z u old m frames a e k h (f refl)
  wrapped_turn go false z u old m frames a e k h f = inr (refl, refl)

  inject_turn : (go : Coercion → Merged ℕ → Outcome ℕ) (b : Bool) (kept : ℕ) (u : FlatValue Coercion) (m : Merged ℕ)
      (frames : List (FlatFrame Coercion)) → is_dyn (rows_of l.types kept) ≡ false → L u m → HeadIs u
      → OneTurn frames (made_at (if b then Injecting kept else NoCast) u frames)
      (decision_wraps {C = Coercion} (if b then Injecting kept else NoCast))
      (decided go (if b then Injecting kept else NoCast) m)
  inject_turn go true kept u m frames dyn k h =
      inl (RunInject u kept, InDyn kept m, (m, refl, dyn, k), h, refl, refl)
  inject_turn go false kept u m frames dyn k h = inr (refl, refl)

  -- what a middle wraps is of its kind, as the decision to wrap asks for that head
  of_function : (kind : Kind) (cs : Coercions) (code : FlatCode) (captured : FlatValues Coercion) (w : ℕ)
      → CarriedIn l setting.address procs merged_meaning places objects (RunFun code captured) [] w
      → equal_heads (FunHead (flat_arity procs code)) (middle_head kind (width cs)) ≡ true
      → WrapsKind l objects (Middle kind cs) w
  of_function Fun cs code captured w c q =
      subst (λ n. WrapsKind l objects (Middle Fun cs) n) (sym c.3)
      (member_there code.first c.0 c.1 code.place c.2 c.4 c.5)
    where
      member_there : (first leader count place : ℕ) (words : List ℕ) → place < count
          → IsGroup l setting.address procs merged_meaning places objects first leader count words
          → WrapsKind l objects (Middle Fun cs) (leader + function_offset (length words) place)
      member_there first leader count zero words lt g =
          let e : leader ≡ leader + function_offset (length words) zero = omega arith in (
            setting.address first,
            words,
            subst (λ n. There l objects n (Fixed (closure_header (suc (length words))) (setting.address first ∷ words)))
                e
                g.leads,
          )
      member_there first leader count (suc i) words lt g = (setting.address (first + suc i), [], g.others i lt)
  of_function Tup cs code captured w c q = absurd (let z : ⊥ = cc in z)
  of_function Ref cs code captured w c q = absurd (let z : ⊥ = cc in z)
  of_function Vec cs code captured w c q = absurd (let z : ⊥ = cc in z)

  of_tuple : (kind : Kind) (cs : Coercions) (values : FlatValues Coercion) (w : ℕ)
      → CarriedIn l setting.address procs merged_meaning places objects (RunTuple values) [] w
      → equal_heads (TupleHead (length (row_list values))) (middle_head kind (width cs)) ≡ true
      → WrapsKind l objects (Middle kind cs) w
  of_tuple Fun NoCoercions values w c q = absurd (let z : ⊥ = cc in z)
  of_tuple Fun (CoercionThen d cs) values w c q = absurd (let z : ⊥ = cc in z)
  of_tuple Tup cs values w c q = (c.0, c.1)
  of_tuple Ref cs values w c q = absurd (let z : ⊥ = cc in z)
  of_tuple Vec cs values w c q = absurd (let z : ⊥ = cc in z)

  of_cell : (kind : Kind) (cs : Coercions) (cell : ℕ) (is_vector : Bool) (w : ℕ)
      → CarriedIn l setting.address procs merged_meaning places objects (RunLoc cell is_vector) [] w
      → equal_heads (if is_vector then VectHead else RefHead) (middle_head kind (width cs)) ≡ true
      → WrapsKind l objects (Middle kind cs) w
  of_cell Fun NoCoercions cell true w c q = absurd (let z : ⊥ = cc in z)
  of_cell Fun NoCoercions cell false w c q = absurd (let z : ⊥ = cc in z)
  of_cell Fun (CoercionThen d cs) cell true w c q = absurd (let z : ⊥ = cc in z)
  of_cell Fun (CoercionThen d cs) cell false w c q = absurd (let z : ⊥ = cc in z)
  of_cell Tup cs cell true w c q = absurd (let z : ⊥ = cc in z)
  of_cell Tup cs cell false w c q = absurd (let z : ⊥ = cc in z)
  of_cell Ref cs cell true w c q = absurd (let z : ⊥ = cc in z)
  of_cell Ref cs cell false w c q = (c.0, c.2)
  of_cell Vec cs cell true w c q = (c.0, c.2)
  of_cell Vec cs cell false w c q = absurd (let z : ⊥ = cc in z)

  -- a middle in place of two is of the kind of the first
  of_middle : (kind : Kind) (parts others : Coercions) (b c : Bool) (w : ℕ)
      → WrapsKind l objects (Middle kind parts) w
      → WrapsKind l objects (cond b (cond c Id (Middle kind others)) Id) w
  of_middle kind parts others false c w f = tt
  of_middle kind parts others true true w f = tt
  of_middle Fun parts others true false w f = f
  of_middle Tup parts others true false w f = f
  of_middle Ref parts others true false w f = f
  of_middle Vec parts others true false w f = f

  of_composed : (old : Coercion) (kind : Kind) (cs : Coercions) (w : ℕ)
      → shape_has_head (Wrapped old) (middle_head kind (width cs)) ≡ true → WrapsKind l objects old w
      → WrapsKind l objects (composition_of l.types old (Middle kind cs)) w
  of_composed (Middle other parts) kind cs w q f =
      let next = compose_below (rows_of l.types) (max (coercion_height (height l.types) (Middle other parts))
      (coercion_height (height l.types) (Middle kind cs))) in
      let others = follow_parts next other parts cs in
      of_middle other parts others (same_kind other kind) (all_id others) w f
  of_composed Id kind cs w q f = absurd (let z : ⊥ = cc in z)
  of_composed (Fail label) kind cs w q f = absurd (let z : ⊥ = cc in z)
  of_composed (Inject g kept) kind cs w q f = absurd (let z : ⊥ = cc in z)
  of_composed (Project wanted label i) kind cs w q f = absurd (let z : ⊥ = cc in z)

  -- of a middle, with the decision on the numbered value
  middle_by : (go : Coercion → Merged ℕ → Outcome ℕ)
      (kind : Rattle.coercion_norm.specs.declared.middles.MiddleKind.MiddleKind)
      (cs : Rattle.coercion_norm.specs.Coercions.Coercions) → all_id cs ≡ false
      → (frames : List (FlatFrame Coercion)) (u : FlatValue Coercion) (m : Merged ℕ) → L u m → HeadIs u
      → OneTurn frames (turn (Middle kind cs) u frames) (wraps_in (Middle kind cs) u)
      (decided go (apply_to (Middle kind cs) (shape_of (flat_arity procs) u)) m)
  middle_by go kind cs some frames (RunInt n) m k h =
      no_cast go (equal_heads IntHead (middle_head kind (width cs))) (Wrapping (Middle kind cs))
      (no_parts IntHead refl kind cs some)
      (RunInt n) m frames
  middle_by go kind cs some frames (RunBool b) m k h =
      no_cast go (equal_heads BoolHead (middle_head kind (width cs))) (Wrapping (Middle kind cs))
      (no_parts BoolHead refl kind cs some)
      (RunBool b) m frames
  middle_by go kind cs some frames RunUnit m k h =
      no_cast go (equal_heads UnitHead (middle_head kind (width cs))) (Wrapping (Middle kind cs))
      (no_parts UnitHead refl kind cs some)
      RunUnit m frames
  middle_by go kind cs some frames (RunFun code captured) m k h =
      solid_turn go (shape_has_head (shape_of (flat_arity procs) (RunFun code captured))
      (middle_head kind (width cs)))
      (Middle kind cs) (RunFun code captured) m frames k.0 k.1 (k.0, refl, k.2) h
      (λ q. of_function kind cs code captured k.0 k.2 q)
  middle_by go kind cs some frames (RunTuple values) m k h =
      solid_turn go (shape_has_head (shape_of (flat_arity procs) (RunTuple values)) (middle_head kind (width cs)))
      (Middle kind cs) (RunTuple values) m frames k.0 k.1 (k.0, refl, k.2) h
      (λ q. of_tuple kind cs values k.0 k.2 q)
  middle_by go kind cs some frames (RunLoc cell is_vector) m k h =
      solid_turn go (shape_has_head (shape_of {C = Coercion} (flat_arity procs) (RunLoc cell is_vector))
      (middle_head kind (width cs))) (Middle kind cs) (RunLoc cell is_vector) m frames k.0 k.1 (k.0, refl, k.2) h
      (λ q. of_cell kind cs cell is_vector k.0 k.2 q)
  middle_by go kind cs some frames (RunWrap u old) m k h =
      wrapped_turn go (shape_has_head (shape_of (flat_arity procs) (RunWrap u old)) (middle_head kind (width cs)))
      (composition_of l.types old (Middle kind cs)) u old m frames k.0 k.1 k.2 h
      (λ q. of_composed old kind cs k.0 q k.3)
  middle_by go kind cs some frames (RunInject u kept) m k h =
      no_cast go (equal_heads DynHead (middle_head kind (width cs))) NoCast (no_parts DynHead refl kind cs some)
      (RunInject u kept) m
      frames

  -- and with that on what is like it
  told : (go : Coercion → Merged ℕ → Outcome ℕ) (z : Coercion) (frames : List (FlatFrame Coercion))
      (u : FlatValue Coercion) (m : Merged ℕ) → L u m → HeadIs u
      → OneTurn frames (turn z u frames) (wraps_in z u) (decided go (apply_to z (shape_of (flat_arity procs) u)) m)
      → OneTurn frames (turn z u frames) (wraps_in z u) (decided go (apply_to z (merged_shape heads m)) m)
  told go z frames u m k h t =
      subst (λ shape. OneTurn frames (turn z u frames) (wraps_in z u) (decided go (apply_to z shape) m))
      (sym (shape_is u m k h)) t

  injected : (d kept : ℕ) (frames : List (FlatFrame Coercion)) (u : FlatValue Coercion) (m : Merged ℕ)
      → is_dyn (rows_of l.types kept) ≡ false → L u m → HeadIs u
      → OneTurn frames (turn (Inject Id kept) u frames) (wraps_in (Inject Id kept) u)
      (cast_to heads l.types (suc d) (Inject Id kept) m)
  injected d kept frames u m dyn k h =
      told (cast_to heads l.types d) (Inject Id kept) frames u m k h
      (inject_turn (cast_to heads l.types d) (shape_has_head (shape_of (flat_arity procs) u)
      (head_of (rows_of l.types kept)))
      kept u m frames dyn k h)

  -- ---- what turns cost

  abbrev pub cost_of : Coercion → FlatValue Coercion → Cost
  cost_of z u = cast_cost procs (merging l.types casts) (merged_prices l.types (merging l.types casts) m) (Some z) u

  abbrev pub act : Cost
  act = act_cost procs (merging l.types casts) (merged_prices l.types (merging l.types casts) m)

  abbrev effort_of : Coercion → Rattle.cast_modes.specs.Modes.Shape Coercion → Effort
  effort_of z shape = effort l.types z shape (apply_to z shape)

  -- a middle is heavy, where it goes on
  middle_effort : (kind : Kind) (cs : Coercions) (shape : Rattle.cast_modes.specs.Modes.Shape Coercion)
      → (effort_of (Middle kind cs) shape ≡ Heavy) ⊎ (apply_to (Middle kind cs) shape ≡ NoCast)
  middle_effort kind cs shape = by shape (shape_has_head shape (middle_head kind (width cs)))
    where
      rewraps : (z : Coercion) (shape : Rattle.cast_modes.specs.Modes.Shape Coercion)
          → (effort l.types (Middle kind cs) shape (rewrapped z) ≡ Heavy) ⊎ (rewrapped z ≡ NoCast)
      rewraps Id shape = inl refl
      rewraps (Fail label) shape = inl refl
      rewraps (Middle other others) shape = inl refl
      rewraps (Inject g kept) shape = inl refl
      rewraps (Project wanted label i) shape = inl refl

      by : (shape : Rattle.cast_modes.specs.Modes.Shape Coercion) (b : Bool)
          → (effort l.types (Middle kind cs) shape
          (if b then proxied (cast_of l.types) (composition_of l.types) l.types (Middle kind cs) shape else NoCast)
          ≡ Heavy)
          ⊎ ((if b then proxied (cast_of l.types) (composition_of l.types) l.types (Middle kind cs) shape else NoCast)
          ≡ NoCast)
      by shape false = inr refl
      by (Bare head) true = inl refl
      by (Wrapped old) true = rewraps (composition_of l.types old (Middle kind cs)) (Wrapped old)
      by (Injected kept) true = inr refl

  -- so is what puts a value into Dyn
  inject_effort : (kept : ℕ) (shape : Rattle.cast_modes.specs.Modes.Shape Coercion)
      → (effort_of (Inject Id kept) shape ≡ Injects) ⊎ (apply_to (Inject Id kept) shape ≡ NoCast)
  inject_effort kept shape = by (shape_has_head shape (head_of (rows_of l.types kept)))
    where
      chosen : Bool → Decision Coercion
      chosen b = if b then Injecting kept else NoCast

      by : (b : Bool) → (effort l.types (Inject Id kept) shape (chosen b) ≡ Injects) ⊎ (chosen b ≡ NoCast)
      by true = inl refl
      by false = inr refl

-- ---- the turns of casts, up to the one in which a walk is done, and behind it

-- The walk comes to where Done holds. What it comes to is an outcome: total.
module _ (setting : Setting) (l : Layout) (procs : List Proc) (casts : List TypeCast) (m : Measures)
    (measured : FitsMeasures l m) (s : LowState) (places : List ℕ) (objects : List Object)
    (store : FlatStore Coercion) (aim : Aim merged_meaning setting l procs casts m) (H : TypeHead)
    (total : Outcome ℕ) (Done : LowState → Type 0)
    (calm : (t : LowState) → Done t → Calm setting l procs casts m s t)
    (blamed : (label : ℕ) → total ≡ Blames label → (t : LowState) → Done t → (n : ℕ) (place : Pos)
    → slice_get setting.labels label ≡ Some place
    → StopsNow merged_meaning setting l procs casts m s n (EndsWith (Blame place)) t) where
  abbrev hs : ℕ → TypeHead
  hs a = H

  abbrev Lk : FlatValue Coercion → Merged ℕ → Type 0
  Lk u x = Like setting l procs places objects u x

  abbrev Hd : FlatValue Coercion → Type 0
  Hd u = solid_head setting l procs places objects u ≡ H

  abbrev R : ℕ → TypeRow
  R = rows_of l.types

  abbrev Walking : Type 1
  Walking = Stage setting l procs casts m s Done

  abbrev ended : Walking
  ended = at_end setting l procs casts m s Done calm

  abbrev pub GoesOn : ℕ → FlatFocus Coercion → List (FlatFrame Coercion) → ℕ → ℕ → LowState → Type 0
  GoesOn i focus frames n credit t =
      Goes merged_meaning setting l procs casts m s aim i focus frames store n credit t

  -- a turn at this cost that came to this, and so many more
  abbrev pub Turned : ℕ → FlatAfter Coercion → Cost → ℕ → ℕ → ℕ → LowState → Type 0
  Turned i x cost credit n wraps t =
      After merged_meaning setting l procs casts m s (Goes merged_meaning setting l procs casts m s aim i) x cost
      credit n wraps t

  -- from frames on, told what the value before them comes to, the aim is reached from each state of a stage, where the
  -- credit fits
  abbrev pub Ends : Walking → (Merged ℕ → ℕ → Type 0) → List (FlatFrame Coercion) → (Outcome ℕ → Outcome ℕ) → Type 0
  Ends g Fit frames after =
      (u : FlatValue Coercion) (x : Merged ℕ) → Lk u x → Hd u → total ≡ after (Gives x)
      → (i : ℕ) × ((t : LowState) → g.Ready t → (n credit : ℕ) → Fit x credit → GoesOn i (Return u) frames n credit t)

  -- the same where a turn at this cost gives the value
  abbrev pub Nexts : Walking → Cost → (Merged ℕ → ℕ → Type 0) → List (FlatFrame Coercion) → (Outcome ℕ → Outcome ℕ)
      → Type 0
  Nexts g cost Fit frames after =
      (u : FlatValue Coercion) (x : Merged ℕ) → Lk u x → Hd u → total ≡ after (Gives x)
      → (i : ℕ) × ((t : LowState) → g.Ready t → (n credit wraps : ℕ) → Fit x credit
      → Turned i (On (Return u) frames store s.world) cost credit n wraps t)

  -- behind the walk so much is left
  abbrev pub Left : ℕ → Merged ℕ → ℕ → Type 0
  Left need x credit = need ≤ credit

  pub skips : (g : Walking) (cost : Cost) (Fit : Merged ℕ → ℕ → Type 0) (frames : List (FlatFrame Coercion))
      (after : Outcome ℕ → Outcome ℕ) → Ends g Fit frames after
      → Nexts g cost (λ x credit. Fit x (credit + cost.budget)) frames after
  skips g cost Fit frames after ends u x k h e =
      let r = ends u x k h e in (
        r.0,
        λ t ready n credit wraps fit. (
          refl,
          stays setting l procs casts m s Done (λ left v. GoesOn r.0 (Return u) frames (n + wraps) left v) cost credit
              n (n + wraps) t (g.calm t ready) (r.1 t ready (n + wraps) (credit + cost.budget) fit),
        ),
      )

  -- the walk is done in this turn
  pub takes_it : (g : Walking) (cost : Cost) (need : ℕ) (frames : List (FlatFrame Coercion))
      (after : Outcome ℕ → Outcome ℕ) → Ends ended (Left need) frames after
      → Nexts g cost (λ x credit. (g.words ≤ cost.asks) × (g.price + need ≤ credit + cost.budget)) frames after
  takes_it g cost need frames after ends u x k h e =
      let r = ends u x k h e in (
        r.0,
        λ t ready n credit wraps fit. (
          refl,
          takes setting l procs casts m s Done g
              (λ left v. GoesOn r.0 (Return u) frames (n + wraps) left v) cost need credit n (n + wraps) t ready fit.0
              fit.1 (λ v done. r.1 v done (n + wraps) need (le_refl need)),
        ),
      )

  -- in this turn a label is blamed
  pub blames_now : (g : Walking) (cost : Cost) (label : ℕ) → total ≡ Blames label → (t : LowState) → g.Ready t
      → (n credit : ℕ) → g.words ≤ cost.asks → g.price ≤ credit + cost.budget
      → Turned 0 (BlameOf label) cost credit n 0 t
  blames_now g cost label e t ready n credit few cheap = (
    refl,
    λ place found_it.
        takes setting l procs casts m s Done g
        (λ left v. StopsNow merged_meaning setting l procs casts m s n (EndsWith (Blame place)) v) cost 0 credit n n
        t ready few (omega (arith, cheap)) (λ v done. blamed label e v done n place found_it),
  )

  abbrev Costs : Coercion → FlatValue Coercion → Cost
  Costs z u = cost_of setting l procs casts m s places objects store H z u

  abbrev Turn : Coercion → FlatValue Coercion → List (FlatFrame Coercion) → FlatAfter Coercion
  Turn z u frames = flat_cast procs (merging l.types casts) store s.world u z frames

  abbrev WrapsIn : Coercion → FlatValue Coercion → ℕ
  WrapsIn z u = decision_wraps (decision_at procs (merging l.types casts) (Some z) u)

  abbrev Shown : FlatValue Coercion → Shape Coercion
  Shown u = shape_of (flat_arity procs) u

  abbrev Decided : Coercion → Shape Coercion → Decision Coercion
  Decided z shape = applied (cast_of l.types) (composition_of l.types) l.types z shape

  abbrev Makes_so : Decision Coercion → FlatValue Coercion → List (FlatFrame Coercion) → FlatAfter Coercion
  Makes_so d u frames = make (merging l.types casts) (flat_arity procs) (flat_entered procs) store s.world d u frames

  -- a cast of u by z is made from each state of a stage
  abbrev pub Made : Walking → ℕ → Coercion → FlatValue Coercion → Merged ℕ → List (FlatFrame Coercion) → Type 0
  Made g need z u x frames =
      (i : ℕ) × ((t : LowState) → g.Ready t → (n credit : ℕ) → Fits R m g.words g.price need z x credit
      → Turned i (Turn z u frames) (Costs z u) credit n (WrapsIn z u) t)

  -- a turn that goes on, at a cost that an effort has, or has no next
  one : (g : Walking) (z : Coercion) (e : Effort) (u : FlatValue Coercion) (frames : List (FlatFrame Coercion))
      (Fit : Merged ℕ → ℕ → Type 0) (after : Outcome ℕ → Outcome ℕ) (o : Outcome ℕ)
      → Nexts g (effort_cost m e) Fit frames after
      → (effort l.types z (Shown u) (Decided z (Shown u)) ≡ e) ⊎ (Decided z (Shown u) ≡ NoCast)
      → OneTurn setting l procs casts m s places objects store H frames (Turn z u frames) (WrapsIn z u) o
      → total ≡ after o
      → (i : ℕ) × ((t : LowState) → g.Ready t → (n credit : ℕ) → ((x : Merged ℕ) → Fit x credit)
      → Turned i (Turn z u frames) (Costs z u) credit n (WrapsIn z u) t)
  one g z e u frames Fit after o nexts (inr none) w q = (
    0,
    λ t ready n credit fit.
        subst (λ d. Turned 0 (Makes_so d u frames) (Costs z u) credit n (decision_wraps d) t) (sym none) refl,
  )
  one g z e u frames Fit after o nexts (inl is) (inr w) q = (
    0,
    λ t ready n credit fit. subst (λ y. Turned 0 y (Costs z u) credit n (WrapsIn z u) t) (sym w.0) w.1,
  )
  one g z e u frames Fit after o nexts (inl is) (inl w) q =
      let r = nexts w.0 w.1 w.2 w.3 (q ∙ ap after w.5) in (
        r.0,
        λ t ready n credit fit.
            subst (λ y. Turned r.0 y (Costs z u) credit n (WrapsIn z u) t) (sym w.4)
            (subst (λ x. Turned r.0 (On (Return w.0) frames store s.world) (effort_cost m x) credit n (WrapsIn z u) t)
            (sym is) (r.1 t ready n credit (WrapsIn z u) (fit w.1))),
      )

  abbrev One : List (FlatFrame Coercion) → FlatAfter Coercion → ℕ → Outcome ℕ → Type 0
  One frames x wraps o = OneTurn setting l procs casts m s places objects store H frames x wraps o

  middle_turn : (depth : ℕ) (kind : Kind) (cs : Coercions) → all_id cs ≡ false → (frames : List (FlatFrame Coercion))
      (u : FlatValue Coercion) (x : Merged ℕ) → Lk u x → Hd u
      → One frames (Turn (Middle kind cs) u frames) (WrapsIn (Middle kind cs) u)
      (cast_to hs l.types (suc depth) (Middle kind cs) x)
  middle_turn depth kind cs some frames u x k h =
      told setting l procs casts m s places objects store H (cast_to hs l.types depth) (Middle kind cs) frames u x k h
      (middle_by setting l procs casts m s places objects store H (cast_to hs l.types depth) kind cs some frames u x k
      h)

  -- a middle
  middle_made : (g : Walking) (need depth : ℕ) (kind : Kind) (cs : Coercions) → all_id cs ≡ false
      → (frames : List (FlatFrame Coercion)) (after : Outcome ℕ → Outcome ℕ) → Ends ended (Left need) frames after
      → (u : FlatValue Coercion) (x : Merged ℕ) → Lk u x → Hd u
      → total ≡ after (cast_to hs l.types (suc depth) (Middle kind cs) x)
      → (i : ℕ) × ((t : LowState) → g.Ready t → (n credit : ℕ)
      → (g.words ≤ half_charge m) × (g.price + need ≤ credit + (896 + 64 * half_charge m))
      → Turned i (Turn (Middle kind cs) u frames) (Costs (Middle kind cs) u) credit n (WrapsIn (Middle kind cs) u) t)
  middle_made g need depth kind cs some frames after ends u x k h e =
      let r = one g (Middle kind cs) Heavy u frames
      (λ y credit. (g.words ≤ half_charge m) × (g.price + need ≤ credit + (896 + 64 * half_charge m))) after
      (cast_to hs l.types (suc depth) (Middle kind cs) x)
      (takes_it g (effort_cost m Heavy) need frames after ends)
      (middle_effort setting l procs casts m s places objects store H kind cs (Shown u))
      (middle_turn depth kind cs some frames u x k h) e in
      (r.0, λ t ready n credit fit. r.1 t ready n credit (λ y. fit))

  -- into Dyn
  inject_turn_is : (depth kept : ℕ) → is_dyn (R kept) ≡ false → (frames : List (FlatFrame Coercion))
      (u : FlatValue Coercion) (x : Merged ℕ) → Lk u x → Hd u
      → One frames (Turn (Inject Id kept) u frames) (WrapsIn (Inject Id kept) u)
      (cast_to hs l.types (suc depth) (Inject Id kept) x)
  inject_turn_is depth kept dyn frames u x k h =
      injected setting l procs casts m s places objects store H depth kept frames u x dyn k h

  inject_made : (g : Walking) (need depth kept : ℕ) → is_dyn (R kept) ≡ false → (frames : List (FlatFrame Coercion))
      (after : Outcome ℕ → Outcome ℕ) → Ends ended (Left need) frames after → (u : FlatValue Coercion) (x : Merged ℕ)
      → Lk u x → Hd u → total ≡ after (cast_to hs l.types (suc depth) (Inject Id kept) x)
      → (i : ℕ) × ((t : LowState) → g.Ready t → (n credit : ℕ) → (g.words ≤ 3) × (g.price + need ≤ credit + 896)
      → Turned i (Turn (Inject Id kept) u frames) (Costs (Inject Id kept) u) credit n (WrapsIn (Inject Id kept) u) t)
  inject_made g need depth kept dyn frames after ends u x k h e =
      let r = one g (Inject Id kept) Injects u frames
      (λ y credit. (g.words ≤ 3) × (g.price + need ≤ credit + 896)) after
      (cast_to hs l.types (suc depth) (Inject Id kept) x)
      (takes_it g (effort_cost m Injects) need frames after ends)
      (inject_effort setting l procs casts m s places objects store H kept (Shown u))
      (inject_turn_is depth kept dyn frames u x k h) e in
      (r.0, λ t ready n credit fit. r.1 t ready n credit (λ y. fit))

  -- the cast into Dyn that waits behind a middle
  ends_inject : (need depth kept : ℕ) → is_dyn (R kept) ≡ false → (frames : List (FlatFrame Coercion))
      (after : Outcome ℕ → Outcome ℕ) → Ends ended (Left need) frames after
      → Ends ended (Left need) (CastFrame (Inject Id kept) ∷ frames)
      (λ o. after (then_outcome o (cast_to hs l.types (suc depth) (Inject Id kept))))
  ends_inject need depth kept dyn frames after ends u x k h e =
      let r = inject_made ended need depth kept dyn frames after ends u x k h e in (
        suc r.0,
        λ t done n credit le. (tt, calm t done n, r.1 t done n credit (omega arith, omega (arith, le))),
      )

  -- every coercion in normal form but a projection
  final_made : (g : Walking) (need : ℕ) (z : Coercion) → is_project z ≡ false → IsNormal R z
      → (frames : List (FlatFrame Coercion)) (after : Outcome ℕ → Outcome ℕ) → IsStrict after
      → Ends ended (Left need) frames after → (u : FlatValue Coercion) (x : Merged ℕ) → Lk u x → Hd u → (depth : ℕ)
      → total ≡ after (cast_to hs l.types (suc (suc depth)) z x) → Made g need z u x frames
  final_made g need Id p normal frames after strict ends u x k h depth e =
      let r = takes_it g (effort_cost m Keeps) need frames after ends u x k h e in
      (r.0, λ t ready n credit fits. r.1 t ready n credit 0 (fits.light refl))
  final_made g need (Fail label) p normal frames after strict ends u x k h depth e = (
    0,
    λ t ready n credit fits.
        let f = fits.light refl in
        blames_now g (effort_cost m Keeps) label (e ∙ strict label) t ready n credit f.0
        (let a = f.1 in omega (arith, a)),
  )
  final_made g need (Middle kind cs) p normal frames after strict ends u x k h depth e =
      let r = middle_made g need (suc depth) kind cs normal.0 frames after ends u x k h e in
      (r.0, λ t ready n credit fits. r.1 t ready n credit (fits.heavy refl))
  final_made g need (Inject Id kept) p normal frames after strict ends u x k h depth e =
      let r = inject_made g need (suc depth) kept normal.2 frames after ends u x k h e in
      (r.0, λ t ready n credit fits. r.1 t ready n credit (fits.light refl))
  final_made g need (Inject (Middle kind cs) kept) p normal frames after strict ends u x k h depth e =
      let r = middle_made g need depth kind cs normal.1.0 (CastFrame (Inject Id kept) ∷ frames)
      (λ o. after (then_outcome o (cast_to hs l.types (suc depth) (Inject Id kept))))
      (ends_inject need depth kept normal.2 frames after ends) u x k h e in (
        suc r.0,
        λ t ready n credit fits. (
          refl,
          stays setting l procs casts m s Done
              (λ left v. GoesOn (suc r.0) (Return u) (CastFrame (Middle kind cs) ∷ CastFrame (Inject Id kept) ∷ frames)
              (n + 0) left v) (effort_cost m Splits) credit n (n + 0) t (g.calm t ready) (
                tt,
                g.calm t ready (n + 0),
                r.1 t ready (n + 0) (credit + 0)
                    (let f = fits.heavy refl in (f.0, let a = f.1 in omega (arith, a))),
              ),
        ),
      )
  final_made g need (Inject (Fail label) kept) p normal frames after strict ends u x k h depth e =
      absurd (no_true normal.0)
  final_made g need (Inject (Inject c other) kept) p normal frames after strict ends u x k h depth e =
      absurd (no_true normal.0)
  final_made g need (Inject (Project wanted label i) kept) p normal frames after strict ends u x k h depth e =
      absurd (no_true normal.0)
  final_made g need (Project wanted label i) p normal frames after strict ends u x k h depth e = absurd (no_false p)

  -- what is in Dyn is cast by what the projection has become
  module _ (g : Walking) (need wanted label : ℕ) (i : Coercion) (normal : IsNormal R (Project wanted label i))
      (frames : List (FlatFrame Coercion)) (after : Outcome ℕ → Outcome ℕ) (strict : IsStrict after)
      (ends : Ends ended (Left need) frames after) where
    module _ (u : FlatValue Coercion) (kept : ℕ) (x : Merged ℕ) (solid : is_dyn (R kept) ≡ false) (k : Lk u x)
        (h : Hd u) (e : total ≡ after (cast_value hs l.types (Project wanted label i) (InDyn kept x))) where
      abbrev becomes : Coercion
      becomes = composition_of l.types (cast_of l.types kept wanted label) i

      becomes_normal : IsNormal R becomes × (is_project becomes ≡ false)
      becomes_normal = opened l.types kept wanted label i solid normal

      abbrev open_cost : Cost
      open_cost = effort_cost m (opening_of_kind (cast_kind (row_at l.types kept) (row_at l.types wanted)))

      abbrev opened_frames : List (FlatFrame Coercion)
      opened_frames = CastFrame becomes ∷ frames

      -- the walk is done as it is opened
      at_once : (i : ℕ) × ((t : LowState) → g.Ready t → (n credit : ℕ) → g.words ≤ open_cost.asks
          → g.price + need ≤ credit + open_cost.budget
          → Turned i (On (Return u) opened_frames store s.world) open_cost credit n 0 t)
      at_once =
          let r = final_made ended need becomes becomes_normal.1 becomes_normal.0 frames after strict ends u x k h 0 e
          in (
            suc r.0,
            λ t ready n credit few cheap. (
              refl,
              takes setting l procs casts m s Done g
                  (λ left v. GoesOn (suc r.0) (Return u) opened_frames (n + 0) left v) open_cost need credit n (n + 0) t
                  ready few cheap
                  (λ v done. (
                    tt,
                    calm v done (n + 0),
                    r.1 v done (n + 0) need
                        (nothing_fits R m need becomes x need (le_refl need)),
                  )),
            ),
          )

      -- or behind that, where the rest is a cast that isn't light
      behind : becomes ≡ i → ends_simply i ≡ false
          → (j : ℕ) × ((t : LowState) → g.Ready t → (n credit : ℕ)
          → (g.words ≤ half_charge m) × (g.price + need ≤ credit + (896 + 64 * half_charge m))
          → Turned j (On (Return u) opened_frames store s.world) open_cost credit n 0 t)
      behind is simply =
          let r = final_made g need becomes becomes_normal.1 becomes_normal.0 frames after strict ends u x k h 0 e in (
            suc r.0,
            λ t ready n credit fit. (
              refl,
              stays setting l procs casts m s Done
                  (λ left v. GoesOn (suc r.0) (Return u) opened_frames (n + 0) left v) open_cost credit n (n + 0) t
                  (g.calm t ready) (
                    tt,
                    g.calm t ready (n + 0),
                    r.1 t ready (n + 0) (credit + open_cost.budget) (record {
                      light = λ l. absurd (not_light R i x normal.1 simply
                          (subst (λ z. is_light R z x ≡ true) is l));
                      heavy = λ l. (fit.0, let a = fit.1 in omega (arith, a));
                    }),
                  ),
            ),
          )

      opening_made : Made g need (Project wanted label i) (RunInject u kept) (InDyn kept x) frames
      opening_made =
          by (same_head (R kept) (R wanted)) (has_none (kind_of (R kept))) (ends_simply i) refl refl refl
        where
          -- what is light asks for 13 words at most
          cheaply : is_light R (Project wanted label i) (InDyn kept x) ≡ true
              → Made g need (Project wanted label i) (RunInject u kept) (InDyn kept x) frames
          cheaply light = (
            at_once.0,
            λ t ready n credit fits.
                let f = fits.light light in
                let asks = opening_asks l m measured (cast_kind (row_at l.types kept) (row_at l.types wanted)) in
                let budget = opening_budget l m measured (cast_kind (row_at l.types kept) (row_at l.types wanted)) in
                at_once.1 t ready n credit (let a = f.0 in omega (arith, a, asks))
                (let a = f.1 in omega (arith, a, budget)),
          )

          by : (b n e : Bool) → same_head (R kept) (R wanted) ≡ b → has_none (kind_of (R kept)) ≡ n → ends_simply i ≡ e
              → Made g need (Project wanted label i) (RunInject u kept) (InDyn kept x) frames
          by false n e same none simply =
              cheaply (ap (λ b. not b || (has_none (kind_of (R kept)) && ends_simply i)) same)
          by true true true same none simply =
              cheaply (rw (same, none, simply) refl)
          by true false e same none simply =
              let wraps = opening_wraps l.types kept wanted same none in (
                at_once.0,
                λ t ready n credit fits.
                    let f = fits.heavy (rw (same, none) refl) in
                    at_once.1 t ready n credit
                    (subst (λ k. g.words ≤ effort_asks m (opening_of_kind k)) (sym wraps) f.0)
                    (subst (λ k. g.price + need ≤ credit + effort_budget m (opening_of_kind k)) (sym wraps) f.1),
              )
          by true true false same none simply =
              let is : becomes ≡ i =
              ap (λ c. composition_of l.types c i) (nothing_between l.types kept wanted label same none normal.0) in
              let r = behind is simply in
              (r.0, λ t ready n credit fits. r.1 t ready n credit (fits.heavy (rw (same, none, simply) refl)))

    project_made : (u : FlatValue Coercion) (x : Merged ℕ) → Lk u x → Hd u
        → total ≡ after (cast_value hs l.types (Project wanted label i) x)
        → Made g need (Project wanted label i) u x frames
    project_made (RunInject u kept) x k h e =
        subst (λ y. Made g need (Project wanted label i) (RunInject u kept) y frames) (sym k.1)
        (opening_made u kept k.0 k.2 k.3 h
        (e ∙ ap (λ y. after (cast_value hs l.types (Project wanted label i) y)) k.1))
    project_made (RunWrap u cast) x k h e = (0, λ t ready n credit fits. refl)
    project_made (RunInt v) x k h e = (0, λ t ready n credit fits. refl)
    project_made (RunBool b) x k h e = (0, λ t ready n credit fits. refl)
    project_made RunUnit x k h e = (0, λ t ready n credit fits. refl)
    project_made (RunFun code captured) x k h e = (0, λ t ready n credit fits. refl)
    project_made (RunTuple values) x k h e = (0, λ t ready n credit fits. refl)
    project_made (RunLoc cell is_vector) x k h e = (0, λ t ready n credit fits. refl)

  -- every cast
  pub cast_made : (g : Walking) (need : ℕ) (z : Coercion) → IsNormal R z → (frames : List (FlatFrame Coercion))
      (after : Outcome ℕ → Outcome ℕ) → IsStrict after → Ends ended (Left need) frames after
      → (u : FlatValue Coercion) (x : Merged ℕ) → Lk u x → Hd u → total ≡ after (cast_value hs l.types z x)
      → Made g need z u x frames
  cast_made g need Id normal frames after strict ends u x k h e =
      final_made g need Id refl normal frames after strict ends u x k h 1 e
  cast_made g need (Fail label) normal frames after strict ends u x k h e =
      final_made g need (Fail label) refl normal frames after strict ends u x k h 1 e
  cast_made g need (Middle kind cs) normal frames after strict ends u x k h e =
      final_made g need (Middle kind cs) refl normal frames after strict ends u x k h 1 e
  cast_made g need (Inject c kept) normal frames after strict ends u x k h e =
      final_made g need (Inject c kept) refl normal frames after strict ends u x k h 1 e
  cast_made g need (Project wanted label i) normal frames after strict ends u x k h e =
      project_made g need wanted label i normal frames after strict ends u x k h e

  -- a cast that waits, while the walk is to be done
  pub ends_cast : (g : Walking) (need : ℕ) (z : Coercion) → IsNormal R z → (frames : List (FlatFrame Coercion))
      (after : Outcome ℕ → Outcome ℕ) → IsStrict after → Ends ended (Left need) frames after
      → Ends g (λ x credit. Fits R m g.words g.price need z x credit) (CastFrame z ∷ frames)
      (λ o. after (then_outcome o (cast_value hs l.types z)))
  ends_cast g need z normal frames after strict ends u x k h e =
      let r = cast_made g need z normal frames after strict ends u x k h e in
      (suc r.0, λ t ready n credit fits. (tt, g.calm t ready n, r.1 t ready n credit fits))

  -- and when it is done
  pub ends_cast_later : (need : ℕ) (z : Coercion) → IsNormal R z → (frames : List (FlatFrame Coercion))
      (after : Outcome ℕ → Outcome ℕ) → IsStrict after → Ends ended (Left need) frames after
      → Ends ended (Left need) (CastFrame z ∷ frames) (λ o. after (then_outcome o (cast_value hs l.types z)))
  ends_cast_later need z normal frames after strict ends u x k h e =
      let r = ends_cast ended need z normal frames after strict ends u x k h e in
      (r.0, λ t done n credit le. r.1 t done n credit (nothing_fits R m need z x credit le))

  -- ---- parts of tuples, told the parts of what stands at an address

  module _ (parts : ℕ → List (Merged ℕ)) (k : ℕ) where
    abbrev Known : FlatValue Coercion → ℕ → Type 0
    Known u a = KnownAt setting l procs places objects H parts k u a

    abbrev KnownIn : FlatValue Coercion → Merged ℕ → Type 0
    KnownIn u x = KnownUnder setting l procs places objects H parts k u x

    abbrev part_of : Merged ℕ → Outcome ℕ
    part_of x = part_value hs parts l.types k x

    abbrev proj : FlatValue Coercion → List (FlatFrame Coercion) → FlatAfter Coercion
    proj u frames = flat_proj procs (merging l.types casts) store s.world u (pos k) frames

    abbrev Acting : Cost
    Acting = act setting l procs casts m s places objects store H

    -- of a bare tuple, told what follows
    bare_part : (g : Walking) (Fit : Merged ℕ → ℕ → Type 0) (frames : List (FlatFrame Coercion))
        (after : Outcome ℕ → Outcome ℕ) → Nexts g Acting Fit frames after → (u : FlatValue Coercion) (a : ℕ)
        → Lk u (Solid a) → Known u a → total ≡ after (part_of (Solid a))
        → (i : ℕ) × ((t : LowState) → g.Ready t → (n credit : ℕ)
        → ((x : Merged ℕ) → slice_get (parts a) k ≡ Some x → Fit x credit)
        → Turned i (proj u frames) Acting credit n 0 t)
    bare_part g Fit frames after nexts (RunTuple values) a like known e =
        by_element (slice_get (row_list values) k) refl
      where
        by_element : (o : Option (FlatValue Coercion)) → slice_get (row_list values) k ≡ o
            → (i : ℕ) × ((t : LowState) → g.Ready t → (n credit : ℕ)
            → ((x : Merged ℕ) → slice_get (parts a) k ≡ Some x → Fit x credit)
            → Turned i (on_some o (λ x. On (Return x) frames store s.world)) Acting credit n 0 t)
        by_element None q = (0, λ t ready n credit fit. refl)
        by_element (Some x) q =
            let z = known x q in
            let r = nexts x z.0 z.2 z.3 (e ∙ ap (λ o. after (with_some o (λ y. Gives y))) z.1) in
            (r.0, λ t ready n credit fit. r.1 t ready n credit 0 (fit z.0 z.1))
    bare_part g Fit frames after nexts (RunInt x) a like known e = (0, λ t ready n credit fit. refl)
    bare_part g Fit frames after nexts (RunBool b) a like known e = (0, λ t ready n credit fit. refl)
    bare_part g Fit frames after nexts RunUnit a like known e = (0, λ t ready n credit fit. refl)
    bare_part g Fit frames after nexts (RunFun code captured) a like known e = (0, λ t ready n credit fit. refl)
    bare_part g Fit frames after nexts (RunLoc cell is_vector) a like known e = (0, λ t ready n credit fit. refl)
    bare_part g Fit frames after nexts (RunInject u kept) a like known e = (0, λ t ready n credit fit. refl)
    bare_part g Fit frames after nexts (RunWrap u cast) a like known e =
        absurd (let z : ⊥ = clash like.0 like.1 in z)
      where
        clash : (b : ℕ) → Solid a ≡ Proxied b cast → ⊥
        clash b q = cc

    as_then : (o : Option (Merged ℕ)) (go : Merged ℕ → Outcome ℕ)
        → with_some o (λ x. go x) ≡ then_outcome (with_some o (λ x. Gives x)) go
    as_then None go = refl
    as_then (Some x) go = refl

    -- where the walk may be done: in the turn of a bare tuple, or in one of the cast of the part
    abbrev pub PartFits : Walking → ℕ → Merged ℕ → ℕ → Type 0
    PartFits g need (Base head w) credit = Unit {0}
    PartFits g need (Solid a) credit = (g.words ≤ 0) × (g.price + need ≤ credit + 896)
    PartFits g need (Proxied a c) credit =
        (d : Coercion) (x : Merged ℕ) → tuple_coercion c (pos k) ≡ Some d → slice_get (parts a) k ≡ Some x
        → Fits R m g.words g.price need d x (credit + 1792)
    PartFits g need (InDyn kept x) credit = Unit {0}

    wrapped_part : (g : Walking) (need : ℕ) (u : FlatValue Coercion) (cast : Coercion) (a : ℕ) → Lk u (Solid a)
        → Known u a → IsNormal R cast → (frames : List (FlatFrame Coercion)) (after : Outcome ℕ → Outcome ℕ)
        → IsStrict after → Ends ended (Left need) frames after → total ≡ after (part_of (Proxied a cast))
        → (i : ℕ) × ((t : LowState) → g.Ready t → (n credit : ℕ) → PartFits g need (Proxied a cast) credit
        → Turned i (proj (RunWrap u cast) frames) Acting credit n 0 t)
    wrapped_part g need u cast a like known normal frames after strict ends e =
        by_coercion (tuple_coercion cast (pos k)) refl
      where
        by_coercion : (o : Option Coercion) → tuple_coercion cast (pos k) ≡ o
            → (i : ℕ) × ((t : LowState) → g.Ready t → (n credit : ℕ) → PartFits g need (Proxied a cast) credit
            → Turned i (on_some o (λ d. On (Return u) (ProjFrame (pos k) ∷ CastFrame d ∷ frames) store s.world)) Acting
            credit n 0 t)
        by_coercion None q = (0, λ t ready n credit fit. refl)
        by_coercion (Some d) q =
            let Fit : Merged ℕ → ℕ → Type 0 = λ x credit. Fits R m g.words g.price need d x credit in
            let after_cast : Outcome ℕ → Outcome ℕ = λ o. after (then_outcome o (cast_value hs l.types d)) in
            let r = bare_part g (λ x credit. Fit x (credit + Acting.budget)) (CastFrame d ∷ frames) after_cast
            (skips g Acting Fit (CastFrame d ∷ frames) after_cast
            (ends_cast g need d (part_normal R cast k d normal q) frames after strict ends)) u a like known
            (e ∙ ap after
            (ap (λ o. with_some o (λ x. with_some (slice_get (parts a) k) (λ y. cast_value hs l.types x y))) q
            ∙ as_then (slice_get (parts a) k) (cast_value hs l.types d))) in (
              suc r.0,
              λ t ready n credit fit. (
                refl,
                stays setting l procs casts m s Done
                    (λ left v. GoesOn (suc r.0) (Return u) (ProjFrame (pos k) ∷ CastFrame d ∷ frames) (n + 0) left v)
                    Acting credit n (n + 0) t (g.calm t ready) (
                      tt,
                      g.calm t ready (n + 0),
                      r.1 t ready (n + 0) (credit + Acting.budget)
                          (λ x got. subst (λ c. Fit x c) (let z : credit + 1792 ≡ credit + 896 + 896 = omega arith in z)
                          (fit d x q got)),
                    ),
              ),
            )

    pub value_part : (g : Walking) (need : ℕ) (u : FlatValue Coercion) (x : Merged ℕ) → Lk u x → KnownIn u x
        → (frames : List (FlatFrame Coercion)) (after : Outcome ℕ → Outcome ℕ) → IsStrict after
        → Ends ended (Left need) frames after → total ≡ after (part_of x)
        → (i : ℕ) × ((t : LowState) → g.Ready t → (n credit : ℕ) → PartFits g need x credit
        → Turned i (proj u frames) Acting credit n 0 t)
    value_part g need (RunWrap u cast) x like known frames after strict ends e =
        let z = known like.0 like.1 in
        let r = wrapped_part g need u cast like.0 like.2 z.0 z.1 frames after strict ends
        (e ∙ ap (λ y. after (part_of y)) like.1) in (
          r.0,
          λ t ready n credit fit.
              r.1 t ready n credit (subst (λ y. PartFits g need y credit) like.1 fit),
        )
    value_part g need (RunTuple values) x like known frames after strict ends e =
        let r = bare_part g (λ y credit. (g.words ≤ Acting.asks) × (g.price + need ≤ credit + Acting.budget)) frames
        after (takes_it g Acting need frames after ends) (RunTuple values) like.0 (like.0, refl, like.2)
        (known like.0 like.1) (e ∙ ap (λ y. after (part_of y)) like.1) in (
          r.0,
          λ t ready n credit fit.
              r.1 t ready n credit (λ y got. subst (λ y. PartFits g need y credit) like.1 fit),
        )
    value_part g need (RunInt v) x like known frames after strict ends e = (0, λ t ready n credit fit. refl)
    value_part g need (RunBool b) x like known frames after strict ends e = (0, λ t ready n credit fit. refl)
    value_part g need RunUnit x like known frames after strict ends e = (0, λ t ready n credit fit. refl)
    value_part g need (RunFun code captured) x like known frames after strict ends e =
        (0, λ t ready n credit fit. refl)
    value_part g need (RunLoc cell is_vector) x like known frames after strict ends e =
        (0, λ t ready n credit fit. refl)
    value_part g need (RunInject u kept) x like known frames after strict ends e = (0, λ t ready n credit fit. refl)

    -- and while it waits
    pub waits_for_part : (g : Walking) (need : ℕ) (u : FlatValue Coercion) (x : Merged ℕ) → Lk u x → KnownIn u x
        → (frames : List (FlatFrame Coercion)) (after : Outcome ℕ → Outcome ℕ) → IsStrict after
        → Ends ended (Left need) frames after → total ≡ after (part_of x)
        → (i : ℕ) × ((t : LowState) → g.Ready t → (n credit : ℕ) → PartFits g need x credit
        → GoesOn i (Return u) (ProjFrame (pos k) ∷ frames) n credit t)
    waits_for_part g need u x like known frames after strict ends e =
        let r = value_part g need u x like known frames after strict ends e in
        (suc r.0, λ t ready n credit fit. (tt, g.calm t ready n, r.1 t ready n credit fit))
