-- The coercion of a cast is in normal form, and so is what follows of two in normal form.
use Rattle.std.proofs.Common.{◌≡◌, ℕ, zero, suc, nat_eq, Bool, true, false, cond, Option, Some, None, refl}
use Rattle.grift_base.specs.Types.{TypeRow, is_dyn, same_head}
use Rattle.coercion_norm.specs.Coercions.{Kind, Coercion, Coercions, Id, Fail, Middle, Inject, Project, NoCoercions}
use Rattle.coercion_norm.specs.Coercions.{CoercionThen, is_end, all_id, same_kind, runs_back, kind_of, slot, slots}
use Rattle.coercion_norm.specs.StandsFor.{is_none_left}
use Rattle.coercion_norm.specs.Composition.{middle, final, coerce_part, coerce_parts, coerce_middle, coerce_solid}
use Rattle.coercion_norm.specs.Composition.{coerce_by, coerce_to, follow_part, follow_parts, after_middle, after_inner}
use Rattle.coercion_norm.specs.Composition.{after_inject, follow, compose_to}
use Rattle.coercion_norm.specs.Normal.{is_flat, is_project, IsNormal, AreNormal}

flat_middle : (kind : Kind) (parts : Coercions) → is_flat (middle kind parts) ≡ true
flat_middle kind parts = go (all_id parts)
  where
    go : (b : Bool) → is_flat (cond b Id (Middle kind parts)) ≡ true
    go true = refl
    go false = refl

pub no_project : (c : Coercion) → is_project (final c) ≡ false
no_project Id = refl
no_project _ = refl

module _ (next : Coercion → Coercion → Coercion) where
  pub flat_after_middle : (kind : Kind) (cs : Coercions) (d : Coercion) → is_flat d ≡ true →
      is_flat (after_middle next kind cs d) ≡ true
  flat_after_middle kind cs Id e = refl
  flat_after_middle kind cs (Fail p) e = absurd (cc e)
  flat_after_middle kind cs (Middle other ds) e = go (same_kind kind other)
    where
      go : (b : Bool) → is_flat (cond b (middle kind (follow_parts next kind cs ds)) Id) ≡ true
      go true = flat_middle kind (follow_parts next kind cs ds)
      go false = refl
  flat_after_middle kind cs (Inject g kept) e = absurd (cc e)
  flat_after_middle kind cs (Project w p i) e = absurd (cc e)

module _ (rows : ℕ → TypeRow) where
  normal_middle : (kind : Kind) (parts : Coercions) → AreNormal rows parts → IsNormal rows (middle kind parts)
  normal_middle kind parts h = go (all_id parts) refl
    where
      go : (b : Bool) → all_id parts ≡ b → IsNormal rows (cond b Id (Middle kind parts))
      go true e = tt
      go false e = (e, h)

  abbrev pub CastsAreNormal : (ℕ → ℕ → ℕ → Coercion) → Type 0
  CastsAreNormal next = (s t p : ℕ) → IsNormal rows (next s t p)

  abbrev pub KeepsNormal : (Coercion → Coercion → Coercion) → Type 0
  KeepsNormal next = (c d : Coercion) → IsNormal rows c → IsNormal rows d → IsNormal rows (next c d)

  module _ (next : ℕ → ℕ → ℕ → Coercion) (casts : CastsAreNormal next) where
    normal_part : (b : Bool) (s t p : ℕ) → IsNormal rows (coerce_part rows next b s t p)
    normal_part true s t p = casts t s p
    normal_part false s t p = casts s t p

    normal_parts : (kind : Kind) (s t p n j : ℕ) → AreNormal rows (coerce_parts rows next kind s t p n j)
    normal_parts kind s t p zero j = tt
    normal_parts kind s t p (suc n) j = (
      normal_part (runs_back kind (is_none_left n)) (slot rows j s) (slot rows j t) p,
      normal_parts kind s t p n (suc j),
    )

    pub normal_coerce_middle : (o : Option Kind) (s t p : ℕ) → IsNormal rows (coerce_middle rows next o s t p)
    normal_coerce_middle None s t p = tt
    normal_coerce_middle (Some kind) s t p =
        normal_middle kind (coerce_parts rows next kind s t p (slots rows s) 0)
        (normal_parts kind s t p (slots rows s) 0)

    normal_solid : CastsAreNormal (coerce_solid rows next)
    normal_solid s t p = ids (nat_eq s t)
      where
        heads : (b : Bool) → IsNormal rows (cond b (coerce_middle rows next (kind_of (rows s)) s t p) (Fail p))
        heads true = normal_coerce_middle (kind_of (rows s)) s t p
        heads false = tt

        ids : (b : Bool) → IsNormal rows (cond b Id
            (cond (same_head (rows s) (rows t)) (coerce_middle rows next (kind_of (rows s)) s t p) (Fail p)))
        ids true = tt
        ids false = heads (same_head (rows s) (rows t))

    normal_by : (b1 b2 : Bool) (s t p : ℕ) → is_dyn (rows s) ≡ b1 → is_dyn (rows t) ≡ b2 →
        IsNormal rows (coerce_by rows next b1 b2 s t p)
    normal_by true true s t p es et = tt
    normal_by true false s t p es et = (et, refl, tt)
    normal_by false true s t p es et = (refl, tt, es)
    normal_by false false s t p es et = normal_solid s t p

  pub coerce_normal : (n : ℕ) → CastsAreNormal (coerce_to rows n)
  coerce_normal zero s t p = normal_by (λ x y q. Id) (λ x y q. tt) (is_dyn (rows s)) (is_dyn (rows t)) s t p refl refl
  coerce_normal (suc n) s t p =
      normal_by (coerce_to rows n) (coerce_normal n) (is_dyn (rows s)) (is_dyn (rows t)) s t p refl refl

  pub normal_final : (c : Coercion) → IsNormal rows c → IsNormal rows (final c)
  normal_final Id h = tt
  normal_final (Fail p) h = tt
  normal_final (Middle kind parts) h = h
  normal_final (Inject g kept) h = h
  normal_final (Project w p i) h = tt

  module _ (next : Coercion → Coercion → Coercion) (keeps : KeepsNormal next) where
    normal_follow_part : (b : Bool) (c d : Coercion) → IsNormal rows c → IsNormal rows d →
        IsNormal rows (follow_part next b c d)
    normal_follow_part true c d hc hd = keeps d c hd hc
    normal_follow_part false c d hc hd = keeps c d hc hd

    normal_follow_parts : (kind : Kind) (cs ds : Coercions) → AreNormal rows cs → AreNormal rows ds →
        AreNormal rows (follow_parts next kind cs ds)
    normal_follow_parts kind NoCoercions ds hc hd = tt
    normal_follow_parts kind (CoercionThen c cs) NoCoercions hc hd = tt
    normal_follow_parts kind (CoercionThen c cs) (CoercionThen d ds) hc hd =
        (normal_follow_part (runs_back kind (is_end cs)) c d hc.0 hd.0, normal_follow_parts kind cs ds hc.1 hd.1)

    pub normal_after_middle : (kind : Kind) (cs : Coercions) (d : Coercion) → IsNormal rows (Middle kind cs) →
        IsNormal rows d → IsNormal rows (after_middle next kind cs d)
    normal_after_middle kind cs Id hc hd = hc
    normal_after_middle kind cs (Fail p) hc hd = tt
    normal_after_middle kind cs (Middle other ds) hc hd = go (same_kind kind other)
      where
        go : (b : Bool) → IsNormal rows (cond b (middle kind (follow_parts next kind cs ds)) Id)
        go true = normal_middle kind (follow_parts next kind cs ds) (normal_follow_parts kind cs ds hc.1 hd.1)
        go false = tt
    normal_after_middle kind cs (Inject g kept) hc hd =
        (flat_after_middle next kind cs g hd.0, normal_after_middle kind cs g hc hd.1, hd.2)
    normal_after_middle kind cs (Project w p i) hc hd = tt

    normal_after_inner : KeepsNormal (after_inner next)
    normal_after_inner Id d hc hd = hd
    normal_after_inner (Middle kind cs) d hc hd = normal_after_middle kind cs d hc hd
    normal_after_inner _ d hc hd = tt

    module _ (coerce : ℕ → ℕ → ℕ → Coercion) (casts : CastsAreNormal coerce) where
      normal_after_inject : (g : Coercion) (kept : ℕ) (d : Coercion) → IsNormal rows (Inject g kept) → IsNormal rows d →
          IsNormal rows (after_inject next coerce g kept d)
      normal_after_inject g kept Id hc hd = hc
      normal_after_inject g kept (Fail p) hc hd = tt
      normal_after_inject g kept (Middle kind parts) hc hd = tt
      normal_after_inject g kept (Inject h other) hc hd = tt
      normal_after_inject g kept (Project w p i) hc hd =
          normal_after_inner g (after_inner next (coerce kept w p) i) hc.1 (normal_after_inner (coerce kept w p) i
          (casts kept w p) hd.2)

      normal_follow : KeepsNormal (follow next coerce)
      normal_follow Id d hc hd = hd
      normal_follow (Fail p) d hc hd = tt
      normal_follow (Middle kind cs) d hc hd = normal_after_middle kind cs d hc hd
      normal_follow (Inject g kept) d hc hd = normal_after_inject g kept d hc hd
      normal_follow (Project w p i) d hc hd =
          (hc.0, no_project (follow next coerce i d), normal_final (follow next coerce i d) (normal_follow i d hc.2 hd))

  pub compose_normal : (n : ℕ) → KeepsNormal (compose_to rows n)
  compose_normal zero c d hc hd =
      normal_follow (λ x y. Id) (λ x y hx hy. tt) (coerce_solid rows (λ s t p. Id))
      (normal_solid (λ s t p. Id) (λ s t p. tt)) c d hc hd
  compose_normal (suc n) c d hc hd =
      normal_follow (compose_to rows n) (compose_normal n) (coerce_solid rows (coerce_to rows n))
      (normal_solid (coerce_to rows n) (coerce_normal n)) c d hc hd
