-- The coercion of a cast has the label of the cast alone, and a composition has no labels but those of the two.
use Rattle.std.proofs.Common.{ℕ, zero, suc, ◌<◌, nat_eq, Bool, true, false, cond, Option, Some, None}
use Rattle.grift_base.specs.Types.{TypeRow, is_dyn, same_head}
use Rattle.coercion_norm.specs.Coercions.{Kind, Coercion, Coercions, Id, Fail, Middle, Inject, Project, NoCoercions}
use Rattle.coercion_norm.specs.Coercions.{CoercionThen, all_id, is_end, kind_of, runs_back, same_kind, slot, slots}
use Rattle.coercion_norm.specs.StandsFor.{is_none_left}
use Rattle.coercion_norm.specs.Composition.{after_inject, after_inner, after_middle, coerce_below, coerce_by}
use Rattle.coercion_norm.specs.Composition.{coerce_middle}
use Rattle.coercion_norm.specs.Composition.{coerce_part, coerce_parts, coerce_solid, coerce_to, compose_below}
use Rattle.coercion_norm.specs.Composition.{compose_to}
use Rattle.coercion_norm.specs.Composition.{final, follow, follow_part, follow_parts, middle}
use Rattle.coercion_norm.specs.Texts.{HasLabels, HaveLabels}

module _ (many : ℕ) (rows : ℕ → TypeRow) where
  abbrev CastsHaveLabels : (ℕ → ℕ → ℕ → Coercion) → Type 0
  CastsHaveLabels next = (s t p : ℕ) → p < many → HasLabels many (next s t p)

  abbrev KeepsLabels : (Coercion → Coercion → Coercion) → Type 0
  KeepsLabels next = (c d : Coercion) → HasLabels many c → HasLabels many d → HasLabels many (next c d)

  of_middle : (kind : Kind) (parts : Coercions) → HaveLabels many parts → HasLabels many (middle kind parts)
  of_middle kind parts h = go (all_id parts)
    where
      go : (b : Bool) → HasLabels many (cond b Id (Middle kind parts))
      go true = tt
      go false = h

  -- ---- the coercion of a cast

  module _ (next : ℕ → ℕ → ℕ → Coercion) (casts : CastsHaveLabels next) where
    of_part : (b : Bool) (s t p : ℕ) → p < many → HasLabels many (coerce_part rows next b s t p)
    of_part true s t p l = casts t s p l
    of_part false s t p l = casts s t p l

    of_parts : (kind : Kind) (s t p n j : ℕ) → p < many → HaveLabels many (coerce_parts rows next kind s t p n j)
    of_parts kind s t p zero j l = tt
    of_parts kind s t p (suc n) j l = (
      of_part (runs_back kind (is_none_left n)) (slot rows j s) (slot rows j t) p l,
      of_parts kind s t p n (suc j) l,
    )

    of_coerce_middle : (o : Option Kind) (s t p : ℕ) → p < many → HasLabels many (coerce_middle rows next o s t p)
    of_coerce_middle None s t p l = tt
    of_coerce_middle (Some kind) s t p l =
        of_middle kind (coerce_parts rows next kind s t p (slots rows s) 0) (of_parts kind s t p (slots rows s) 0 l)

    of_solid : CastsHaveLabels (coerce_solid rows next)
    of_solid s t p l = ids (nat_eq s t)
      where
        heads : (b : Bool) → HasLabels many (cond b (coerce_middle rows next (kind_of (rows s)) s t p) (Fail p))
        heads true = of_coerce_middle (kind_of (rows s)) s t p l
        heads false = l

        ids : (b : Bool) → HasLabels many (cond b Id (cond (same_head (rows s) (rows t))
            (coerce_middle rows next (kind_of (rows s)) s t p) (Fail p)))
        ids true = tt
        ids false = heads (same_head (rows s) (rows t))

    of_cast : (b1 b2 : Bool) (s t p : ℕ) → p < many → HasLabels many (coerce_by rows next b1 b2 s t p)
    of_cast true true s t p l = tt
    of_cast true false s t p l = (l, tt)
    of_cast false true s t p l = tt
    of_cast false false s t p l = of_solid s t p l

  pub coerce_labels : (made : ℕ) → CastsHaveLabels (coerce_to rows made)
  coerce_labels zero s t p l =
      of_cast (coerce_below rows zero) (λ x y q k. tt) (is_dyn (rows s)) (is_dyn (rows t)) s t p l
  coerce_labels (suc made) s t p l =
      of_cast (coerce_below rows (suc made)) (coerce_labels made) (is_dyn (rows s)) (is_dyn (rows t)) s t p l

  -- ---- composition

  of_final : (c : Coercion) → HasLabels many c → HasLabels many (final c)
  of_final Id h = h
  of_final (Fail label) h = h
  of_final (Middle kind parts) h = h
  of_final (Inject g kept) h = h
  of_final (Project wanted label i) h = tt

  module _ (next : Coercion → Coercion → Coercion) (keeps : KeepsLabels next) where
    of_follow_part : (b : Bool) (c d : Coercion) → HasLabels many c → HasLabels many d
        → HasLabels many (follow_part next b c d)
    of_follow_part true c d hc hd = keeps d c hd hc
    of_follow_part false c d hc hd = keeps c d hc hd

    of_follow_parts : (kind : Kind) (cs ds : Coercions) → HaveLabels many cs → HaveLabels many ds
        → HaveLabels many (follow_parts next kind cs ds)
    of_follow_parts kind NoCoercions ds hc hd = tt
    of_follow_parts kind (CoercionThen c cs) NoCoercions hc hd = tt
    of_follow_parts kind (CoercionThen c cs) (CoercionThen d ds) hc hd =
        (of_follow_part (runs_back kind (is_end cs)) c d hc.0 hd.0, of_follow_parts kind cs ds hc.1 hd.1)

    of_after_middle : (kind : Kind) (cs : Coercions) (d : Coercion) → HaveLabels many cs → HasLabels many d
        → HasLabels many (after_middle next kind cs d)
    of_after_middle kind cs Id hc hd = hc
    of_after_middle kind cs (Fail label) hc hd = hd
    of_after_middle kind cs (Middle other ds) hc hd = go (same_kind kind other)
      where
        go : (b : Bool) → HasLabels many (cond b (middle kind (follow_parts next kind cs ds)) Id)
        go true = of_middle kind (follow_parts next kind cs ds) (of_follow_parts kind cs ds hc hd)
        go false = tt
    of_after_middle kind cs (Inject g kept) hc hd = of_after_middle kind cs g hc hd
    of_after_middle kind cs (Project wanted label i) hc hd = tt

    of_after_inner : KeepsLabels (after_inner next)
    of_after_inner Id d hc hd = hd
    of_after_inner (Fail label) d hc hd = hc
    of_after_inner (Middle kind parts) d hc hd = of_after_middle kind parts d hc hd
    of_after_inner _ d hc hd = tt

    module _ (coerce : ℕ → ℕ → ℕ → Coercion) (casts : CastsHaveLabels coerce) where
      of_after_inject : (g : Coercion) (kept : ℕ) (d : Coercion) → HasLabels many g → HasLabels many d
          → HasLabels many (after_inject next coerce g kept d)
      of_after_inject g kept Id hc hd = hc
      of_after_inject g kept (Fail label) hc hd = hd
      of_after_inject g kept (Middle kind parts) hc hd = tt
      of_after_inject g kept (Inject h other) hc hd = tt
      of_after_inject g kept (Project wanted label i) hc hd =
          of_after_inner g (after_inner next (coerce kept wanted label) i) hc
          (of_after_inner (coerce kept wanted label) i (casts kept wanted label hd.0) hd.1)

      of_follow : KeepsLabels (follow next coerce)
      of_follow Id d hc hd = hd
      of_follow (Fail label) d hc hd = hc
      of_follow (Middle kind parts) d hc hd = of_after_middle kind parts d hc hd
      of_follow (Inject g kept) d hc hd = of_after_inject g kept d hc hd
      of_follow (Project wanted label i) d hc hd =
          (hc.0, of_final (follow next coerce i d) (of_follow i d hc.1 hd))

  below_labels : (made : ℕ) → CastsHaveLabels (coerce_below rows made)
  below_labels zero s t p l = tt
  below_labels (suc made) s t p l = coerce_labels made s t p l

  pub compose_labels : (made : ℕ) → KeepsLabels (compose_to rows made)
  compose_labels zero c d hc hd =
      of_follow (compose_below rows zero) (λ x y hx hy. tt) (coerce_solid rows (coerce_below rows zero))
      (of_solid (coerce_below rows zero) (below_labels zero)) c d hc hd
  compose_labels (suc made) c d hc hd =
      of_follow (compose_below rows (suc made)) (compose_labels made) (coerce_solid rows (coerce_below rows (suc made)))
      (of_solid (coerce_below rows (suc made)) (below_labels (suc made))) c d hc hd
