-- A cast that isn't light has a heavy turn among those that the merged mode makes for it.
use Rattle.std.proofs.Common.{◌≡◌, ℕ, suc, Bool, true, false, Option, Some, None, refl, ap, ap₂, ◌∙◌}
use Rattle.std.proofs.Common.{cond, nat_eq}
use Rattle.std.specs.Prelude.{◌&&◌, ◌||◌, not, max, if◌then◌else◌}
use Rattle.grift_base.specs.Types.{TypeHead, TypeRow, TypeRows, IntRow, BoolRow, UnitRow, DynRow, FunRow, TupleRow}
use Rattle.grift_base.specs.Types.{RefRow, VectRow, is_dyn, same_head}
use Rattle.type_graph.specs.Trees.{height}
use Rattle.coercion_norm.specs.declared.middles.MiddleKind.{MiddleKind as Kind}
use Rattle.coercion_norm.specs.Coercions.{Coercion, Coercions, Id, Fail, Middle, Inject, Project, kind_of, rows_of}
use Rattle.coercion_norm.specs.CoercionTables.{cast_of, composition_of}
use Rattle.coercion_norm.specs.Composition.{coerce_below, coerce_by, coerce_middle}
use Rattle.cast_modes.specs.Modes.{Shape, Bare, Wrapped, Injected, Decision, NoCast}
use Rattle.coercion_norm.specs.MergedMode.{applied, middle_head, proxied, rewrapped, shape_has_head, width}
use Rattle.coercion_norm.specs.Normal.{IsNormal, is_project}
use Rattle.rt_cast.specs.HeavyTurns.{has_heavy_turn, is_heavy, opens_parts, turns_heavily}
use Rattle.rt_cast.specs.LightCasts.{ends_simply, has_none, is_light}
use Rattle.rt_cast.specs.MergedValues.{Merged, Base, Solid, Proxied, InDyn, Outcome, Stuck, cast_to, cast_value}
use Rattle.rt_cast.specs.MergedValues.{decided, shape_of, then_outcome}

no_true : false ≡ true → ⊥
no_true e = cc

no_false : true ≡ false → ⊥
no_false e = cc

-- a type with the head of one that isn't Dyn isn't either
solid_head : (row other : TypeRow) → same_head row other ≡ true → is_dyn other ≡ false → is_dyn row ≡ false
solid_head IntRow other e f = refl
solid_head BoolRow other e f = refl
solid_head UnitRow other e f = refl
solid_head (FunRow parameters answer) other e f = refl
solid_head (TupleRow parts) other e f = refl
solid_head (RefRow content) other e f = refl
solid_head (VectRow content) other e f = refl
solid_head DynRow DynRow e f = absurd (no_false f)
solid_head DynRow IntRow e f = absurd (no_true e)
solid_head DynRow BoolRow e f = absurd (no_true e)
solid_head DynRow UnitRow e f = absurd (no_true e)
solid_head DynRow (FunRow parameters answer) e f = absurd (no_true e)
solid_head DynRow (TupleRow parts) e f = absurd (no_true e)
solid_head DynRow (RefRow content) e f = absurd (no_true e)
solid_head DynRow (VectRow content) e f = absurd (no_true e)

module _ {A : Type 0} (head : A → TypeHead) (types : TypeRows) where
  abbrev R : ℕ → TypeRow
  R = rows_of types

  abbrev decision : Coercion → Merged A → Decision Coercion
  decision c u = applied (cast_of types) (composition_of types) types c (shape_of head u)

  rewraps : (c d : Coercion) (u : Merged A) → is_heavy {A = A} R d u (rewrapped c) ≡ true
  rewraps Id d u = refl
  rewraps (Fail label) d u = refl
  rewraps (Middle kind parts) d u = refl
  rewraps (Inject g kept) d u = refl
  rewraps (Project wanted label i) d u = refl

  -- what a middle does with a value of a shape that has its head
  abbrev goes : Kind → Coercions → Shape Coercion → Decision Coercion
  goes kind cs shape = proxied (cast_of types) (composition_of types) types (Middle kind cs) shape

  -- a middle wraps, wraps anew or unwraps
  middle_is_heavy : (go : Coercion → Merged A → Outcome A) (kind : Kind) (cs : Coercions) (u : Merged A)
      → (decided go (decision (Middle kind cs) u) u ≡ Stuck → ⊥)
      → is_heavy {A = A} R (Middle kind cs) u (decision (Middle kind cs) u) ≡ true
  middle_is_heavy go kind cs u some = by_value u some
    where
      heavy_if : (d : Decision Coercion) (v : Merged A)
          → ((decided go d v ≡ Stuck → ⊥) → is_heavy {A = A} R (Middle kind cs) v d ≡ true) → (b : Bool)
          → (decided go (if b then d else NoCast) v ≡ Stuck → ⊥)
          → is_heavy {A = A} R (Middle kind cs) v (if b then d else NoCast) ≡ true
      heavy_if d v so true some = so some
      heavy_if d v so false some = absurd (some refl)

      by_value : (v : Merged A) → (decided go (decision (Middle kind cs) v) v ≡ Stuck → ⊥)
          → is_heavy {A = A} R (Middle kind cs) v (decision (Middle kind cs) v) ≡ true
      by_value (Base h w) some =
          heavy_if (goes kind cs (Bare h)) (Base h w) (λ x. refl)
          (shape_has_head (Bare h) (middle_head kind (width cs))) some
      by_value (Solid a) some =
          heavy_if (goes kind cs (Bare (head a))) (Solid a) (λ x. refl)
          (shape_has_head (Bare (head a)) (middle_head kind (width cs))) some
      by_value (Proxied a old) some =
          heavy_if (goes kind cs (Wrapped old)) (Proxied a old)
          (λ x. rewraps (composition_of types old (Middle kind cs)) (Middle kind cs) (Proxied a old))
          (shape_has_head (Wrapped old) (middle_head kind (width cs))) some
      by_value (InDyn kept x) some =
          heavy_if (goes kind cs (Injected kept)) (InDyn kept x) (λ y. absurd (y refl))
          (shape_has_head (Injected kept) (middle_head kind (width cs))) some

  middle_turns : (depth : ℕ) (kind : Kind) (cs : Coercions) (u : Merged A)
      → (cast_to head types (suc depth) (Middle kind cs) u ≡ Stuck → ⊥)
      → turns_heavily head types (suc depth) (Middle kind cs) u ≡ true
  middle_turns depth kind cs u some =
      or_true _ _ (middle_is_heavy (cast_to head types depth) kind cs u some)
    where
      or_true : (b c : Bool) → b ≡ true → (b || c) ≡ true
      or_true true c e = refl
      or_true false c e = absurd (no_true e)

  -- what may stand behind a Project, where a middle takes part in it
  final_turns : (depth : ℕ) (c : Coercion) → IsNormal R c → is_project c ≡ false → ends_simply c ≡ false
      → (u : Merged A) → (cast_to head types (suc (suc depth)) c u ≡ Stuck → ⊥)
      → turns_heavily head types (suc (suc depth)) c u ≡ true
  final_turns depth Id nc p e u some = absurd (no_false e)
  final_turns depth (Fail label) nc p e u some = absurd (no_false e)
  final_turns depth (Project wanted label i) nc p e u some = absurd (no_false p)
  final_turns depth (Middle kind cs) nc p e u some = middle_turns (suc depth) kind cs u some
  final_turns depth (Inject Id kept) nc p e u some = absurd (no_false e)
  final_turns depth (Inject (Fail label) kept) nc p e u some = absurd (no_false e)
  final_turns depth (Inject (Inject g other) kept) nc p e u some = absurd (no_true nc.0)
  final_turns depth (Inject (Project wanted label i) kept) nc p e u some = absurd (no_true nc.0)
  final_turns depth (Inject (Middle kind cs) kept) nc p e u some =
      middle_turns depth kind cs u
      (λ stuck. some (ap (λ o. then_outcome o (cast_to head types (suc depth) (Inject Id kept))) stuck))

  -- between types of one head without parts there is nothing to do
  nothing_between : (kept wanted label : ℕ) → same_head (R kept) (R wanted) ≡ true
      → has_none (kind_of (R kept)) ≡ true → is_dyn (R wanted) ≡ false → cast_of types kept wanted label ≡ Id
  nothing_between kept wanted label same none solid =
      ap₂ (λ b c. coerce_by R (coerce_below R m) b c kept wanted label)
      (solid_head (R kept) (R wanted) same solid) solid
      ∙ by (nat_eq kept wanted) (same_head (R kept) (R wanted)) (kind_of (R kept)) same none
    where
      m : ℕ
      m = max (height types kept) (height types wanted)

      by : (b c : Bool) (o : Option Kind) → c ≡ true → has_none o ≡ true
          → cond b Id (cond c (coerce_middle R (coerce_below R m) o kept wanted label) (Fail label)) ≡ Id
      by true c o e f = refl
      by false true None e f = refl
      by false true (Some kind) e f = absurd (no_true f)
      by false false o e f = absurd (no_true e)

  open_turns : (kept wanted label : ℕ) (i : Coercion) → IsNormal R (Project wanted label i) → (x : Merged A)
      → (cast_value head types (Project wanted label i) (InDyn kept x) ≡ Stuck → ⊥)
      → is_light R (Project wanted label i) (InDyn kept x) ≡ false
      → has_heavy_turn head types (Project wanted label i) (InDyn kept x) ≡ true
  open_turns kept wanted label i nc x some heavy =
      by (same_head (R kept) (R wanted)) (has_none (kind_of (R kept))) (ends_simply i) refl refl refl heavy
    where
      by : (b n e : Bool) → same_head (R kept) (R wanted) ≡ b → has_none (kind_of (R kept)) ≡ n → ends_simply i ≡ e
          → (not b || (n && e)) ≡ false
          → (opens_parts R kept wanted
          || turns_heavily head types 2 (composition_of types (cast_of types kept wanted label) i) x) ≡ true
      by false n e same none simply h = absurd (no_false h)
      by true false e same none simply h =
          ap₂ (λ b n. (b && not n)
          || turns_heavily head types 2 (composition_of types (cast_of types kept wanted label) i) x) same none
      by true true true same none simply h = absurd (no_false h)
      by true true false same none simply h =
          let is : cast_of types kept wanted label ≡ Id = nothing_between kept wanted label same none nc.0 in
          ap₂ (λ b n. (b && not n)
          || turns_heavily head types 2 (composition_of types (cast_of types kept wanted label) i) x) same none
          ∙ ap (λ c. turns_heavily head types 2 (composition_of types c i) x) is
          ∙ final_turns 0 i nc.2 nc.1 simply x
          (λ stuck. some (ap (λ c. cast_to head types 2 (composition_of types c i) x) is ∙ stuck))

  -- a cast that has an outcome and isn't light has a heavy turn
  pub heavy_unless_light : (c : Coercion) → IsNormal (rows_of types) c → (u : Merged A)
      → (cast_value head types c u ≡ Stuck → ⊥) → is_light (rows_of types) c u ≡ false
      → has_heavy_turn head types c u ≡ true
  heavy_unless_light Id nc u some heavy = absurd (no_false heavy)
  heavy_unless_light (Fail label) nc u some heavy = absurd (no_false heavy)
  heavy_unless_light (Middle kind cs) nc u some heavy = middle_turns 2 kind cs u some
  heavy_unless_light (Inject g kept) nc u some heavy = final_turns 1 (Inject g kept) nc refl heavy u some
  heavy_unless_light (Project wanted label i) nc (Base h w) some heavy = absurd (some refl)
  heavy_unless_light (Project wanted label i) nc (Solid a) some heavy = absurd (some refl)
  heavy_unless_light (Project wanted label i) nc (Proxied a old) some heavy = absurd (some refl)
  heavy_unless_light (Project wanted label i) nc (InDyn kept x) some heavy =
      open_turns kept wanted label i nc x some heavy
