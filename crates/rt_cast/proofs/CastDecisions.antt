-- What the decisions of the merged mode make of a value is what the cases of casts give.
use Rattle.std.proofs.Common.{◌≡◌, ℕ, List, suc, ◌≤◌, Bool, true, false, refl, sym, ap, ◌∙◌, arith}
use Rattle.std.specs.Prelude.{max, if◌then◌else◌}
use Rattle.grift_base.specs.Types.{TypeHead, TypeRow, head_of, is_dyn}
use Rattle.coercion_norm.specs.declared.middles.MiddleKind.{MiddleKind as Kind}
use Rattle.coercion_norm.specs.Coercions.{Coercion, Coercions, Id, Fail, Middle, Inject, Project}
use Rattle.coercion_norm.specs.CoercionTables.{cast_of, composition_of}
use Rattle.coercion_norm.specs.Composition.{coerce_to, compose_to, compose_below, coerce_below, coerce_solid}
use Rattle.coercion_norm.specs.Composition.{after_middle, after_inner}
use Rattle.coercion_norm.specs.Heights.{coercion_height, NoHigher}
use Rattle.coercion_norm.specs.Normal.{IsNormal, is_flat, is_project}
use Rattle.cast_modes.specs.Modes.{Bare, Wrapped, Injected, Decision, NoCast, Injecting}
use Rattle.coercion_norm.specs.MergedMode.{applied, proxied, rewrapped, shape_has_head, middle_head, width}
use Rattle.coercion_norm.proofs.Public.{coerce_enough, compose_enough, bound_from_height, height_from_bound}
use Rattle.coercion_norm.proofs.Public.{coerce_height, coerce_normal, flat_after_middle, compose_height, compose_normal}
use Rattle.coercion_norm.specs.Held.{Layout, TypesStand, rows_in, height_in}
use Rattle.coercion_norm.specs.Objects.{Object}
use Rattle.rt_cast.specs.Carried.{IsLow, CarriedBy}
use Rattle.rt_cast.specs.MergedValues.{Merged, Base, Solid, Proxied, InDyn, Outcome, Stuck, Gives, Blames, then_outcome}
use Rattle.rt_cast.specs.MergedValues.{decided, shape_of, cast_to, cast_value}
use Rattle.rt_cast.proofs.CastCases.{wrap, rewrap, apply_plain, apply_final, apply}
use Rattle.rt_cast.proofs.ComposeRuns.{is_plain, plain_solid, follow_plain, solid_is}

-- no outcome is stuck where one is not
no_stuck : {A : Type 0} {B : Type 0} (r : Outcome A) → (r ≡ Stuck → ⊥) → Stuck ≡ r → B
no_stuck r some e = absurd (some (sym e))

-- what follows a coercion without projection or injection is no projection, where what follows is none
pub after_no_project : (next : Coercion → Coercion → Coercion) (c d : Coercion) → is_plain c ≡ true
    → is_project d ≡ false → is_project (after_inner next c d) ≡ false
after_no_project next Id d p e = e
after_no_project next (Fail label) d p e = refl
after_no_project next (Middle kind parts) Id p e = refl
after_no_project next (Middle kind parts) (Fail label) p e = refl
after_no_project next (Middle kind parts) (Inject g kept) p e = refl
after_no_project next (Middle kind parts) (Project wanted label i) p e = absurd (let z : ⊥ = cc in z)
after_no_project next (Middle kind parts) (Middle other others) p e =
    flat_no_project (after_middle next kind parts (Middle other others))
    (flat_after_middle next kind parts (Middle other others) refl)
  where
    flat_no_project : (c : Coercion) → is_flat c ≡ true → is_project c ≡ false
    flat_no_project Id f = refl
    flat_no_project (Fail label) f = refl
    flat_no_project (Middle kind parts) f = refl
    flat_no_project (Inject g kept) f = refl
    flat_no_project (Project wanted label i) f = absurd (let z : ⊥ = cc in z)
after_no_project next (Inject g kept) d p e = refl
after_no_project next (Project wanted label i) d p e = refl

module _ (l : Layout) (types : TypesStand l) {A : Type 0} (head : A → TypeHead) where
  abbrev n : ℕ
  n = l.tallest

  abbrev R : ℕ → TypeRow
  R = rows_in l

  -- coercions and types in a value are no higher than the tallest
  abbrev pub AreLow : Merged A → Type 0
  AreLow (Base h w) = Unit {0}
  AreLow (Solid a) = Unit {0}
  AreLow (Proxied a c) = IsLow l c
  AreLow (InDyn kept u) = (height_in l kept ≤ l.tallest) × (is_dyn (R kept) ≡ false) × AreLow u

  -- what a word carries is no higher than the tallest
  pub low_of : (IsHeld : List Object → A → ℕ → Type 0) (objects : List Object) (u : Merged A) (w : ℕ)
      → CarriedBy l IsHeld objects u w → AreLow u
  low_of IsHeld objects (Base h x) w c = tt
  low_of IsHeld objects (Solid a) w c = tt
  low_of IsHeld objects (Proxied a d) w c = c.5
  low_of IsHeld objects (InDyn kept u) w c = (c.2, c.3, low_of IsHeld objects u c.0 c.4)

  below : (c : Coercion) → IsLow l c → NoHigher R c n
  below c h = bound_from_height R (height_in l) types.heights c n h.low

  same_cast : (from to label : ℕ) → height_in l from ≤ n → height_in l to ≤ n
      → cast_of l.types from to label ≡ coerce_to R n from to label
  same_cast from to label f t =
      let m = max (height_in l from) (height_in l to) in
      sym (coerce_enough R m n (omega arith) from to label ((types.heights from m).1 (omega arith))
      ((types.heights to m).1 (omega arith)))

  same_composition : (c d : Coercion) → NoHigher R c n → NoHigher R d n
      → composition_of l.types c d ≡ compose_to R n c d
  same_composition c d hc hd =
      let m = max (coercion_height (height_in l) c) (coercion_height (height_in l) d) in
      let lc = height_from_bound R (height_in l) types.heights c n hc in
      let ld = height_from_bound R (height_in l) types.heights d n hd in
      sym (compose_enough R m n (omega arith) c d
      (bound_from_height R (height_in l) types.heights c m (omega arith))
      (bound_from_height R (height_in l) types.heights d m (omega arith)))

  abbrev decision : Coercion → Merged A → Decision Coercion
  decision c u = applied (cast_of l.types) (composition_of l.types) l.types c (shape_of head u)

  -- a proxy with a coercion that is Id or a middle
  rewraps : (go : Coercion → Merged A → Outcome A) (a : A) (old c : Coercion) → is_flat c ≡ true
      → decided go (rewrapped c) (Proxied a old) ≡ rewrap a c
  rewraps go a old Id f = refl
  rewraps go a old (Fail label) f = absurd (let z : ⊥ = cc in z)
  rewraps go a old (Middle kind parts) f = refl
  rewraps go a old (Inject g kept) f = absurd (let z : ⊥ = cc in z)
  rewraps go a old (Project wanted label i) f = absurd (let z : ⊥ = cc in z)

  by_middle : (go : Coercion → Merged A → Outcome A) (kind : Kind) (cs : Coercions) → NoHigher R (Middle kind cs) n
      → (u : Merged A) → AreLow u → (r : Outcome A) → (r ≡ Stuck → ⊥)
      → decided go (decision (Middle kind cs) u) u ≡ r → wrap R n kind cs u ≡ r
  by_middle go kind cs lc (Base h w) low r some e = by (shape_has_head (Bare h) (middle_head kind (width cs))) e
    where
      by : (b : Bool) → decided go (if b then proxied (cast_of l.types) (composition_of l.types) l.types
          (Middle kind cs)
          (Bare h) else NoCast) (Base h w) ≡ r → Stuck ≡ r
      by true f = f
      by false f = f
  by_middle go kind cs lc (Solid a) low r some e = by (shape_has_head (Bare (head a)) (middle_head kind (width cs))) e
    where
      by : (b : Bool) → decided go (if b then proxied (cast_of l.types) (composition_of l.types) l.types
          (Middle kind cs)
          (Bare (head a)) else NoCast) (Solid a) ≡ r → Gives (Proxied a (Middle kind cs)) ≡ r
      by true f = f
      by false f = no_stuck r some f
  by_middle go kind cs lc (InDyn kept x) low r some e =
      by (shape_has_head (Injected kept) (middle_head kind (width cs))) e
    where
      by : (b : Bool) → decided go (if b then proxied (cast_of l.types) (composition_of l.types) l.types
          (Middle kind cs)
          (Injected kept) else NoCast) (InDyn kept x) ≡ r → Stuck ≡ r
      by true f = f
      by false f = f
  by_middle go kind cs lc (Proxied a Id) low r some e = no_stuck r some e
  by_middle go kind cs lc (Proxied a (Fail label)) low r some e = no_stuck r some e
  by_middle go kind cs lc (Proxied a (Inject g kept)) low r some e = no_stuck r some e
  by_middle go kind cs lc (Proxied a (Project wanted label i)) low r some e = no_stuck r some e
  by_middle go kind cs lc (Proxied a (Middle other ds)) low r some e =
      by (shape_has_head (Wrapped (Middle other ds)) (middle_head kind (width cs))) e
    where
      flat : is_flat (compose_to R n (Middle other ds) (Middle kind cs)) ≡ true
      flat = flat_after_middle (compose_below R n) other ds (Middle kind cs) refl

      by : (b : Bool) → decided go (if b then proxied (cast_of l.types) (composition_of l.types) l.types
          (Middle kind cs)
          (Wrapped (Middle other ds)) else NoCast) (Proxied a (Middle other ds)) ≡ r
          → rewrap a (compose_to R n (Middle other ds) (Middle kind cs)) ≡ r
      by true f =
          sym (rewraps go a (Middle other ds) (compose_to R n (Middle other ds) (Middle kind cs)) flat)
          ∙ (ap (λ c. decided go (rewrapped c) (Proxied a (Middle other ds)))
          (sym (same_composition (Middle other ds) (Middle kind cs) (below (Middle other ds) low) lc)) ∙ f)
      by false f = no_stuck r some f

  by_plain : (depth : ℕ) (c : Coercion) → is_flat c ≡ true → NoHigher R c n → (u : Merged A) → AreLow u
      → (r : Outcome A) → (r ≡ Stuck → ⊥) → cast_to head l.types (suc depth) c u ≡ r → apply_plain R n c u ≡ r
  by_plain depth Id f lc u low r some e = e
  by_plain depth (Fail label) f lc u low r some e = e
  by_plain depth (Middle kind cs) f lc u low r some e =
      by_middle (cast_to head l.types depth) kind cs lc u low r some e
  by_plain depth (Inject g kept) f lc u low r some e = absurd (let z : ⊥ = cc in z)
  by_plain depth (Project wanted label i) f lc u low r some e = absurd (let z : ⊥ = cc in z)

  -- an injection of a value alone
  pub by_inject : (depth kept : ℕ) (u : Merged A) (r : Outcome A) → (r ≡ Stuck → ⊥)
      → cast_to head l.types (suc depth) (Inject Id kept) u ≡ r → Gives (InDyn kept u) ≡ r
  by_inject depth kept u r some e = by (shape_has_head (shape_of head u) (head_of (R kept))) e
    where
      by : (b : Bool) → decided (cast_to head l.types depth) (if b then Injecting kept else NoCast) u ≡ r
          → Gives (InDyn kept u) ≡ r
      by true f = f
      by false f = no_stuck r some f

  by_final : (depth : ℕ) (c : Coercion) → is_project c ≡ false → IsNormal R c → NoHigher R c n → (u : Merged A)
      → AreLow u → (r : Outcome A) → (r ≡ Stuck → ⊥) → cast_to head l.types (suc (suc depth)) c u ≡ r
      → apply_final R n c u ≡ r
  by_final depth Id f nc lc u low r some e = e
  by_final depth (Fail label) f nc lc u low r some e = e
  by_final depth (Middle kind cs) f nc lc u low r some e =
      by_middle (cast_to head l.types (suc depth)) kind cs lc u low r some e
  by_final depth (Inject Id kept) f nc lc u low r some e = by_inject (suc depth) kept u r some e
  by_final depth (Inject (Fail label) kept) f nc lc u low r some e = absurd (let q = nc.0 in let z : ⊥ = cc in z)
  by_final depth (Inject (Inject g other) kept) f nc lc u low r some e = absurd (let q = nc.0 in let z : ⊥ = cc in z)
  by_final depth (Inject (Project wanted label i) kept) f nc lc u low r some e =
      absurd (let q = nc.0 in let z : ⊥ = cc in z)
  by_final depth (Inject (Middle kind cs) kept) f nc lc u low r some e =
      by (cast_to head l.types (suc depth) (Middle kind cs) u) refl e
    where
      by : (o : Outcome A) → cast_to head l.types (suc depth) (Middle kind cs) u ≡ o
          → then_outcome o (cast_to head l.types (suc depth) (Inject Id kept)) ≡ r
          → then_outcome (wrap R n kind cs u) (λ y. Gives (InDyn kept y)) ≡ r
      by Stuck h g = no_stuck r some g
      by (Gives y) h g =
          ap (λ o. then_outcome o (λ y. Gives (InDyn kept y)))
          (by_middle (cast_to head l.types depth) kind cs lc.0 u low (Gives y) (λ q. let z : ⊥ = cc in z) h)
          ∙ by_inject depth kept y r some g
      by (Blames label) h g =
          ap (λ o. then_outcome o (λ y. Gives (InDyn kept y)))
          (by_middle (cast_to head l.types depth) kind cs lc.0 u low (Blames label) (λ q. let z : ⊥ = cc in z) h) ∙ g
  by_final depth (Project wanted label i) f nc lc u low r some e = absurd (let z : ⊥ = cc in z)

  -- a cast that is not stuck comes to what its case gives
  pub by_cast : (c : Coercion) → IsNormal R c → NoHigher R c n → (u : Merged A) → AreLow u → (r : Outcome A)
      → (r ≡ Stuck → ⊥) → cast_value head l.types c u ≡ r → apply R n c u ≡ r
  by_cast Id nc lc u low r some e = e
  by_cast (Fail label) nc lc u low r some e = e
  by_cast (Middle kind cs) nc lc u low r some e = by_middle (cast_to head l.types 2) kind cs lc u low r some e
  by_cast (Inject g kept) nc lc u low r some e = by_final 1 (Inject g kept) refl nc lc u low r some e
  by_cast (Project wanted label i) nc lc (Base h w) low r some e = no_stuck r some e
  by_cast (Project wanted label i) nc lc (Solid a) low r some e = no_stuck r some e
  by_cast (Project wanted label i) nc lc (Proxied a d) low r some e = no_stuck r some e
  by_cast (Project wanted label i) nc lc (InDyn kept x) low r some e =
      by_final 0 c2 no_project (compose_normal R n c1 i (coerce_normal R n kept wanted label) nc.2) l2 x low.2 r some
      (ap (λ c. cast_to head l.types 2 c x) (sym same) ∙ e)
    where
      c1 : Coercion
      c1 = coerce_to R n kept wanted label

      c2 : Coercion
      c2 = compose_to R n c1 i

      l1 : NoHigher R c1 n
      l1 = coerce_height R n n kept wanted label ((types.heights kept n).1 low.0) lc.0

      l2 : NoHigher R c2 n
      l2 = compose_height R n n c1 i l1 lc.1

      same : composition_of l.types (cast_of l.types kept wanted label) i ≡ c2
      same =
          ap (λ c. composition_of l.types c i)
          (same_cast kept wanted label low.0 ((types.heights wanted n).0 lc.0)) ∙ same_composition c1 i l1 lc.1

      plain : is_plain c1 ≡ true
      plain =
          ap is_plain (solid_is R n kept wanted label low.1 nc.0)
          ∙ plain_solid R (coerce_below R n) kept wanted label

      no_project : is_project c2 ≡ false
      no_project =
          ap is_project (follow_plain (compose_below R n) (coerce_solid R (coerce_below R n)) c1 i plain)
          ∙ after_no_project (compose_below R n) c1 i plain nc.1
