-- No coercion is higher than what it comes from, and enough depth changes nothing.
use Rattle.std.proofs.Common.{◌≡◌, ℕ, zero, suc, ◌+◌, ◌<◌, nat_eq, Bool, true, false, cond, Option, Some, None, refl}
use Rattle.std.proofs.Common.{[], ◌∷◌, ◌++◌, length, get_or, All, arith}
use Rattle.std.proofs.lemmas.List.Elements.{All-get_or}
use Rattle.grift_base.specs.Types.{TypeRow, IntRow, BoolRow, UnitRow, DynRow, FunRow, TupleRow, RefRow, VectRow, is_dyn}
use Rattle.grift_base.specs.Types.{same_head, head_of, parts_of}
use Rattle.coercion_norm.specs.Coercions.{Kind, Coercion, Coercions, Id, Fail, Middle, Inject, Project, NoCoercions}
use Rattle.coercion_norm.specs.Coercions.{CoercionThen, is_end, all_id, same_kind, runs_back, kind_of, slots_of, slot}
use Rattle.coercion_norm.specs.Coercions.{slots}
use Rattle.coercion_norm.specs.StandsFor.{is_none_left}
use Rattle.coercion_norm.specs.Composition.{middle, final, coerce_part, coerce_parts, coerce_middle, coerce_solid}
use Rattle.coercion_norm.specs.Composition.{coerce_by, coerce_to, follow_part, follow_parts, after_middle, after_inner}
use Rattle.coercion_norm.specs.Composition.{after_inject, follow, compose_to}
use Rattle.coercion_norm.specs.Heights.{TypeNoHigher, NoHigher, AllNoHigher}
use Rattle.coercion_norm.proofs.PathLemmas.{heads_exact, same_widths}

-- ---- types

of_content : (P : ℕ → Type 0) (content j : ℕ) → j < 2 → All P (content ∷ []) → P (get_or (content ∷ content ∷ []) j 0)
of_content P content zero le h = h 0 0 (omega arith)
of_content P content (suc zero) le h = h 0 0 (omega arith)
of_content P content (suc (suc j)) le h = absurd (omega arith)

-- what holds of the parts of a row holds of what the parts of its middles speak of
pub of_slots : (P : ℕ → Type 0) (row : TypeRow) (j : ℕ) → j < length (slots_of row) → All P (parts_of row) →
    P (get_or (slots_of row) j 0)
of_slots P IntRow j le h = absurd (omega arith)
of_slots P BoolRow j le h = absurd (omega arith)
of_slots P UnitRow j le h = absurd (omega arith)
of_slots P DynRow j le h = absurd (omega arith)
of_slots P (FunRow parameters answer) j le h = All-get_or P (parameters ++ answer ∷ []) j 0 le h
of_slots P (TupleRow parts) j le h = All-get_or P parts j 0 le h
of_slots P (RefRow content) j le h = of_content P content j le h
of_slots P (VectRow content) j le h = of_content P content j le h

module _ (rows : ℕ → TypeRow) where
  pub slot_lower : (n t j : ℕ) → j < slots rows t → TypeNoHigher rows (suc n) t → TypeNoHigher rows n (slot rows j t)
  slot_lower n t j le h = of_slots (TypeNoHigher rows n) (rows t) j le h

  -- ---- the coercion of a cast

  -- what coercions of parts are like, one height down
  abbrev pub CastsKeepHeight : (ℕ → ℕ → ℕ → Coercion) → Type 0
  CastsKeepHeight next = (n s t p : ℕ) → TypeNoHigher rows n s → TypeNoHigher rows n t → NoHigher rows (next s t p) n

  middle_height : (kind : Kind) (parts : Coercions) (n : ℕ) → AllNoHigher rows parts n →
      NoHigher rows (middle kind parts) (suc n)
  middle_height kind parts n h = go (all_id parts)
    where
      go : (b : Bool) → NoHigher rows (cond b Id (Middle kind parts)) (suc n)
      go true = tt
      go false = h

  module _ (next : ℕ → ℕ → ℕ → Coercion) (low : CastsKeepHeight next) where
    coerce_part_height : (b : Bool) (n s t p : ℕ) → TypeNoHigher rows n s → TypeNoHigher rows n t →
        NoHigher rows (coerce_part rows next b s t p) n
    coerce_part_height true n s t p hs ht = low n t s p ht hs
    coerce_part_height false n s t p hs ht = low n s t p hs ht

    coerce_parts_height : (kind : Kind) (h s t p n j : ℕ) → n + j ≡ slots rows s → slots rows s ≡ slots rows t
        → TypeNoHigher rows (suc h) s → TypeNoHigher rows (suc h) t →
        AllNoHigher rows (coerce_parts rows next kind s t p n j) h
    coerce_parts_height kind h s t p zero j e w hs ht = tt
    coerce_parts_height kind h s t p (suc n) j e w hs ht = (
      coerce_part_height (runs_back kind (is_none_left n)) h (slot rows j s) (slot rows j t) p
          (slot_lower h s j (omega arith) hs) (slot_lower h t j (omega arith) ht),
      coerce_parts_height kind h s t p n (suc j) (omega arith) w hs ht,
    )

    pub coerce_middle_height : (o : Option Kind) (n s t p : ℕ) → kind_of (rows s) ≡ o → slots rows s ≡ slots rows t
        → TypeNoHigher rows n s → TypeNoHigher rows n t → NoHigher rows (coerce_middle rows next o s t p) n
    coerce_middle_height None n s t p e w hs ht = tt
    coerce_middle_height (Some kind) zero s t p e w hs ht = absurd (cc (e, hs))
    coerce_middle_height (Some kind) (suc n) s t p e w hs ht =
        middle_height kind (coerce_parts rows next kind s t p (slots rows s) 0) n
        (coerce_parts_height kind n s t p (slots rows s) 0 (omega arith) w hs ht)

    pub coerce_solid_height : CastsKeepHeight (coerce_solid rows next)
    coerce_solid_height n s t p hs ht = same (nat_eq s t)
      where
        heads : (b : Bool) → same_head (rows s) (rows t) ≡ b →
            NoHigher rows (cond b (coerce_middle rows next (kind_of (rows s)) s t p) (Fail p)) n
        heads true e =
            coerce_middle_height (kind_of (rows s)) n s t p refl
            (same_widths (rows s) (rows t) (heads_exact (head_of (rows s)) (head_of (rows t)) e)) hs ht
        heads false e = tt

        same : (b : Bool) → NoHigher rows (cond b Id (cond (same_head (rows s) (rows t))
            (coerce_middle rows next (kind_of (rows s)) s t p) (Fail p))) n
        same true = tt
        same false = heads (same_head (rows s) (rows t)) refl

    coerce_by_height : (b1 b2 : Bool) (n s t p : ℕ) → TypeNoHigher rows n s → TypeNoHigher rows n t →
        NoHigher rows (coerce_by rows next b1 b2 s t p) n
    coerce_by_height true true n s t p hs ht = tt
    coerce_by_height true false n s t p hs ht = (ht, tt)
    coerce_by_height false true n s t p hs ht = (tt, hs)
    coerce_by_height false false n s t p hs ht = coerce_solid_height n s t p hs ht

  pub coerce_height : (depth : ℕ) → CastsKeepHeight (coerce_to rows depth)
  coerce_height zero n s t p hs ht =
      coerce_by_height (λ x y q. Id) (λ m x y q hx hy. tt) (is_dyn (rows s)) (is_dyn (rows t)) n s t p hs ht
  coerce_height (suc depth) n s t p hs ht =
      coerce_by_height (coerce_to rows depth) (coerce_height depth) (is_dyn (rows s)) (is_dyn (rows t)) n s t p hs ht

  -- ---- composition

  abbrev pub KeepsHeight : (Coercion → Coercion → Coercion) → Type 0
  KeepsHeight next = (n : ℕ) (c d : Coercion) → NoHigher rows c n → NoHigher rows d n → NoHigher rows (next c d) n

  pub final_height : (n : ℕ) (c : Coercion) → NoHigher rows c n → NoHigher rows (final c) n
  final_height n Id h = tt
  final_height n (Fail p) h = tt
  final_height n (Middle kind parts) h = h
  final_height n (Inject g kept) h = h
  final_height n (Project w p i) h = tt

  module _ (next : Coercion → Coercion → Coercion) (low : KeepsHeight next) where
    follow_part_height : (b : Bool) (n : ℕ) (c d : Coercion) → NoHigher rows c n → NoHigher rows d n →
        NoHigher rows (follow_part next b c d) n
    follow_part_height true n c d hc hd = low n d c hd hc
    follow_part_height false n c d hc hd = low n c d hc hd

    follow_parts_height : (kind : Kind) (n : ℕ) (cs ds : Coercions) → AllNoHigher rows cs n → AllNoHigher rows ds n →
        AllNoHigher rows (follow_parts next kind cs ds) n
    follow_parts_height kind n NoCoercions ds hc hd = tt
    follow_parts_height kind n (CoercionThen c cs) NoCoercions hc hd = tt
    follow_parts_height kind n (CoercionThen c cs) (CoercionThen d ds) hc hd =
        (follow_part_height (runs_back kind (is_end cs)) n c d hc.0 hd.0, follow_parts_height kind n cs ds hc.1 hd.1)

    pub after_middle_height : (kind : Kind) (cs : Coercions) (d : Coercion) (n : ℕ) → NoHigher rows (Middle kind cs) n →
        NoHigher rows d n → NoHigher rows (after_middle next kind cs d) n
    after_middle_height kind cs Id n hc hd = hc
    after_middle_height kind cs (Fail p) n hc hd = tt
    after_middle_height kind cs (Middle other ds) zero hc hd = absurd hc
    after_middle_height kind cs (Middle other ds) (suc n) hc hd = go (same_kind kind other)
      where
        go : (b : Bool) → NoHigher rows (cond b (middle kind (follow_parts next kind cs ds)) Id) (suc n)
        go true = middle_height kind (follow_parts next kind cs ds) n (follow_parts_height kind n cs ds hc hd)
        go false = tt
    after_middle_height kind cs (Inject g kept) n hc hd = (after_middle_height kind cs g n hc hd.0, hd.1)
    after_middle_height kind cs (Project w p i) n hc hd = tt

    pub after_inner_height : KeepsHeight (after_inner next)
    after_inner_height n Id d hc hd = hd
    after_inner_height n (Fail p) d hc hd = tt
    after_inner_height n (Middle kind cs) d hc hd = after_middle_height kind cs d n hc hd
    after_inner_height n (Inject g kept) d hc hd = tt
    after_inner_height n (Project w p i) d hc hd = tt

    module _ (coerce : ℕ → ℕ → ℕ → Coercion) (casts : CastsKeepHeight coerce) where
      after_inject_height : (g : Coercion) (kept : ℕ) (d : Coercion) (n : ℕ) → NoHigher rows (Inject g kept) n →
          NoHigher rows d n → NoHigher rows (after_inject next coerce g kept d) n
      after_inject_height g kept Id n hc hd = hc
      after_inject_height g kept (Fail p) n hc hd = tt
      after_inject_height g kept (Middle kind parts) n hc hd = tt
      after_inject_height g kept (Inject h other) n hc hd = tt
      after_inject_height g kept (Project w p i) n hc hd =
          after_inner_height n g (after_inner next (coerce kept w p) i) hc.0 (after_inner_height n (coerce kept w p) i
          (casts n kept w p hc.1 hd.0) hd.1)

      follow_height : KeepsHeight (follow next coerce)
      follow_height n Id d hc hd = hd
      follow_height n (Fail p) d hc hd = tt
      follow_height n (Middle kind cs) d hc hd = after_middle_height kind cs d n hc hd
      follow_height n (Inject g kept) d hc hd = after_inject_height g kept d n hc hd
      follow_height n (Project w p i) d hc hd =
          (hc.0, final_height n (follow next coerce i d) (follow_height n i d hc.1 hd))

  -- composition is no higher than the higher of the two, at every depth of its definition
  pub compose_height : (depth : ℕ) → KeepsHeight (compose_to rows depth)
  compose_height zero n c d hc hd =
      follow_height (λ x y. Id) (λ m x y hx hy. tt) (coerce_solid rows (λ s t p. Id))
      (coerce_solid_height (λ s t p. Id) (λ m s t p hs ht. tt)) n c d hc hd
  compose_height (suc depth) n c d hc hd =
      follow_height (compose_to rows depth) (compose_height depth) (coerce_solid rows (coerce_to rows depth))
      (coerce_solid_height (coerce_to rows depth) (coerce_height depth)) n c d hc hd
