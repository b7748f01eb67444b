-- Where nothing is higher than the depth, more depth changes nothing.
use Rattle.std.proofs.Common.{◌≡◌, ℕ, zero, suc, ◌+◌, ◌≤◌, nat_eq, Bool, true, false, cond, Option, Some, None, refl}
use Rattle.std.proofs.Common.{ap, sym, ◌∙◌, arith}
use Rattle.grift_base.specs.Types.{TypeRow, is_dyn, same_head, head_of}
use Rattle.coercion_norm.specs.Coercions.{Kind, Coercion, Coercions, Id, Fail, Middle, Inject, Project, NoCoercions}
use Rattle.coercion_norm.specs.Coercions.{CoercionThen, is_end, same_kind, runs_back, kind_of, slot, slots}
use Rattle.coercion_norm.specs.StandsFor.{is_none_left}
use Rattle.coercion_norm.specs.Composition.{middle, final, coerce_part, coerce_parts, coerce_middle, coerce_solid}
use Rattle.coercion_norm.specs.Composition.{coerce_by, coerce_to, follow_part, follow_parts, after_middle, after_inner}
use Rattle.coercion_norm.specs.Composition.{after_inject, follow, compose_to, coerce_whole}
use Rattle.coercion_norm.specs.Heights.{TypeNoHigher, NoHigher, AllNoHigher}
use Rattle.coercion_norm.proofs.PathLemmas.{heads_exact, same_widths}
use Rattle.coercion_norm.proofs.HeightLemmas.{slot_lower, CastsKeepHeight, KeepsHeight, coerce_solid_height}
use Rattle.coercion_norm.proofs.HeightLemmas.{after_inner_height, coerce_height, compose_height}

module _ (rows : ℕ → TypeRow) where
  -- ---- the coercion of a cast

  abbrev pub SameCasts : ℕ → (ℕ → ℕ → ℕ → Coercion) → (ℕ → ℕ → ℕ → Coercion) → Type 0
  SameCasts n next other = (s t p : ℕ) → TypeNoHigher rows n s → TypeNoHigher rows n t → next s t p ≡ other s t p

  -- what is asked of the parts, one height down
  abbrev pub SameCastsBelow : ℕ → (ℕ → ℕ → ℕ → Coercion) → (ℕ → ℕ → ℕ → Coercion) → Type 0
  SameCastsBelow zero next other = Unit {0}
  SameCastsBelow (suc n) next other = SameCasts n next other

  module _ (next other : ℕ → ℕ → ℕ → Coercion) where
    same_part : (b : Bool) (n s t p : ℕ) → SameCasts n next other → TypeNoHigher rows n s → TypeNoHigher rows n t →
        coerce_part rows next b s t p ≡ coerce_part rows other b s t p
    same_part true n s t p same hs ht = same t s p ht hs
    same_part false n s t p same hs ht = same s t p hs ht

    same_parts : (kind : Kind) (h s t p n j : ℕ) → n + j ≡ slots rows s → slots rows s ≡ slots rows t →
        SameCasts h next other
        → TypeNoHigher rows (suc h) s → TypeNoHigher rows (suc h) t →
        coerce_parts rows next kind s t p n j ≡ coerce_parts rows other kind s t p n j
    same_parts kind h s t p zero j e w same hs ht = refl
    same_parts kind h s t p (suc n) j e w same hs ht =
        ap (λ x. CoercionThen x (coerce_parts rows next kind s t p n (suc j)))
        (same_part (runs_back kind (is_none_left n)) h (slot rows j s) (slot rows j t) p same
        (slot_lower rows h s j (omega arith) hs) (slot_lower rows h t j (omega arith) ht))
        ∙ ap (CoercionThen (coerce_part rows other (runs_back kind (is_none_left n)) (slot rows j s) (slot rows j t) p))
        (same_parts kind h s t p n (suc j) (omega arith) w same hs ht)

    same_middle : (o : Option Kind) (n s t p : ℕ) → kind_of (rows s) ≡ o → slots rows s ≡ slots rows t →
        SameCastsBelow n next other
        → TypeNoHigher rows n s → TypeNoHigher rows n t →
        coerce_middle rows next o s t p ≡ coerce_middle rows other o s t p
    same_middle None n s t p e w same hs ht = refl
    same_middle (Some kind) zero s t p e w same hs ht = absurd (cc (e, hs))
    same_middle (Some kind) (suc n) s t p e w same hs ht =
        ap (middle kind) (same_parts kind n s t p (slots rows s) 0 (omega arith) w same hs ht)

    pub same_solid : (n : ℕ) → SameCastsBelow n next other → SameCasts n (coerce_solid rows next) (coerce_solid rows
        other)
    same_solid n same s t p hs ht = ids (nat_eq s t)
      where
        heads : (b : Bool) → same_head (rows s) (rows t) ≡ b
            → cond b (coerce_middle rows next (kind_of (rows s)) s t p) (Fail p) ≡
            cond b (coerce_middle rows other (kind_of (rows s)) s t p) (Fail p)
        heads true e =
            same_middle (kind_of (rows s)) n s t p refl
            (same_widths (rows s) (rows t) (heads_exact (head_of (rows s)) (head_of (rows t)) e)) same hs ht
        heads false e = refl

        ids : (b : Bool)
            → cond b Id (cond (same_head (rows s) (rows t)) (coerce_middle rows next (kind_of (rows s)) s t p) (Fail p))
            ≡ cond b Id (cond (same_head (rows s) (rows t)) (coerce_middle rows other (kind_of (rows s)) s t p)
            (Fail p))
        ids true = refl
        ids false = heads (same_head (rows s) (rows t)) refl

    pub same_by : (b1 b2 : Bool) (n s t p : ℕ) → SameCastsBelow n next other → TypeNoHigher rows n s →
        TypeNoHigher rows n t → coerce_by rows next b1 b2 s t p ≡ coerce_by rows other b1 b2 s t p
    same_by true true n s t p same hs ht = refl
    same_by true false n s t p same hs ht = refl
    same_by false true n s t p same hs ht = refl
    same_by false false n s t p same hs ht = same_solid n same s t p hs ht

  pub coerce_enough : (n j : ℕ) → n ≤ j → SameCasts n (coerce_to rows j) (coerce_to rows n)
  coerce_enough zero zero le s t p hs ht = refl
  coerce_enough zero (suc j) le s t p hs ht =
      same_by (coerce_to rows j) (λ x y q. Id) (is_dyn (rows s)) (is_dyn (rows t)) zero s t p tt hs ht
  coerce_enough (suc n) zero le s t p hs ht = absurd (omega arith)
  coerce_enough (suc n) (suc j) le s t p hs ht =
      same_by (coerce_to rows j) (coerce_to rows n) (is_dyn (rows s)) (is_dyn (rows t)) (suc n) s t p
      (coerce_enough n j (omega arith)) hs ht

  pub coerce_by_table : (n from to label : ℕ) → TypeNoHigher rows n from → TypeNoHigher rows n to →
      coerce_to rows n from to label ≡ coerce_whole rows (coerce_to rows n) from to label
  coerce_by_table n from to label hf ht = sym (coerce_enough n (suc n) (omega arith) from to label hf ht)

  -- ---- composition

  abbrev pub SameFollow : ℕ → (Coercion → Coercion → Coercion) → (Coercion → Coercion → Coercion) → Type 0
  SameFollow n next other = (c d : Coercion) → NoHigher rows c n → NoHigher rows d n → next c d ≡ other c d

  abbrev pub SameFollowBelow : ℕ → (Coercion → Coercion → Coercion) → (Coercion → Coercion → Coercion) → Type 0
  SameFollowBelow zero next other = Unit {0}
  SameFollowBelow (suc n) next other = SameFollow n next other

  module _ (next other : Coercion → Coercion → Coercion) where
    same_follow_part : (b : Bool) (n : ℕ) (c d : Coercion) → SameFollow n next other → NoHigher rows c n →
        NoHigher rows d n → follow_part next b c d ≡ follow_part other b c d
    same_follow_part true n c d same hc hd = same d c hd hc
    same_follow_part false n c d same hc hd = same c d hc hd

    same_follow_parts : (kind : Kind) (n : ℕ) (cs ds : Coercions) → SameFollow n next other → AllNoHigher rows cs n →
        AllNoHigher rows ds n
        → follow_parts next kind cs ds ≡ follow_parts other kind cs ds
    same_follow_parts kind n NoCoercions ds same hc hd = refl
    same_follow_parts kind n (CoercionThen c cs) NoCoercions same hc hd = refl
    same_follow_parts kind n (CoercionThen c cs) (CoercionThen d ds) same hc hd =
        ap (λ x. CoercionThen x (follow_parts next kind cs ds))
        (same_follow_part (runs_back kind (is_end cs)) n c d same hc.0 hd.0)
        ∙ ap (CoercionThen (follow_part other (runs_back kind (is_end cs)) c d))
        (same_follow_parts kind n cs ds same hc.1 hd.1)

    same_after_middle : (kind : Kind) (cs : Coercions) (d : Coercion) (n : ℕ) → SameFollowBelow n next other →
        NoHigher rows (Middle kind cs) n → NoHigher rows d n
        → after_middle next kind cs d ≡ after_middle other kind cs d
    same_after_middle kind cs Id n same hc hd = refl
    same_after_middle kind cs (Fail p) n same hc hd = refl
    same_after_middle kind cs (Middle others ds) zero same hc hd = absurd hc
    same_after_middle kind cs (Middle others ds) (suc n) same hc hd =
        ap (λ x. cond (same_kind kind others) (middle kind x) Id) (same_follow_parts kind n cs ds same hc hd)
    same_after_middle kind cs (Inject g kept) n same hc hd =
        ap (λ x. Inject x kept) (same_after_middle kind cs g n same hc hd.0)
    same_after_middle kind cs (Project w p i) n same hc hd = refl

    same_after_inner : (n : ℕ) → SameFollowBelow n next other → SameFollow n (after_inner next) (after_inner other)
    same_after_inner n same Id d hc hd = refl
    same_after_inner n same (Fail p) d hc hd = refl
    same_after_inner n same (Middle kind cs) d hc hd = same_after_middle kind cs d n same hc hd
    same_after_inner n same (Inject g kept) d hc hd = refl
    same_after_inner n same (Project w p i) d hc hd = refl

    module _ (low : KeepsHeight rows next) (coerce cast : ℕ → ℕ → ℕ →
        Coercion) (casts : CastsKeepHeight rows coerce) where
      same_after_inject : (g : Coercion) (kept : ℕ) (d : Coercion) (n : ℕ) → SameFollowBelow n next other →
          SameCasts n coerce cast
          → NoHigher rows (Inject g kept) n → NoHigher rows d n →
          after_inject next coerce g kept d ≡ after_inject other cast g kept d
      same_after_inject g kept Id n same same_cast hc hd = refl
      same_after_inject g kept (Fail p) n same same_cast hc hd = refl
      same_after_inject g kept (Middle kind parts) n same same_cast hc hd = refl
      same_after_inject g kept (Inject h kept2) n same same_cast hc hd = refl
      same_after_inject g kept (Project w p i) n same same_cast hc hd =
          let low_cast : NoHigher rows (coerce kept w p) n = casts n kept w p hc.1 hd.0 in
          same_after_inner n same g (after_inner next (coerce kept w p) i) hc.0
          (after_inner_height rows next low n (coerce kept w p) i low_cast hd.1)
          ∙ ap (after_inner other g) (same_after_inner n same (coerce kept w p) i low_cast hd.1 ∙
          ap (λ x. after_inner other x i) (same_cast kept w p hc.1 hd.0))

      pub same_follow : (n : ℕ) → SameFollowBelow n next other → SameCasts n coerce cast →
          SameFollow n (follow next coerce) (follow other cast)
      same_follow n same same_cast Id d hc hd = refl
      same_follow n same same_cast (Fail p) d hc hd = refl
      same_follow n same same_cast (Middle kind cs) d hc hd = same_after_middle kind cs d n same hc hd
      same_follow n same same_cast (Inject g kept) d hc hd = same_after_inject g kept d n same same_cast hc hd
      same_follow n same same_cast (Project w p i) d hc hd =
          ap (λ x. Project w p (final x)) (same_follow n same same_cast i d hc.1 hd)

  pub compose_enough : (n j : ℕ) → n ≤ j → SameFollow n (compose_to rows j) (compose_to rows n)
  compose_enough zero zero le c d hc hd = refl
  compose_enough zero (suc j) le c d hc hd =
      same_follow (compose_to rows j) (λ x y. Id) (compose_height rows j) (coerce_solid rows (coerce_to rows j))
      (coerce_solid rows (λ s t p. Id))
      (coerce_solid_height rows (coerce_to rows j) (coerce_height rows j))
      zero tt (same_solid (coerce_to rows j) (λ s t p. Id) zero tt) c d hc hd
  compose_enough (suc n) zero le c d hc hd = absurd (omega arith)
  compose_enough (suc n) (suc j) le c d hc hd =
      same_follow (compose_to rows j) (compose_to rows n) (compose_height rows j) (coerce_solid rows (coerce_to rows j))
      (coerce_solid rows (coerce_to rows n))
      (coerce_solid_height rows (coerce_to rows j) (coerce_height rows j))
      (suc n) (compose_enough n j (omega arith)) (same_solid (coerce_to rows j) (coerce_to rows n) (suc n)
      (coerce_enough n j (omega arith))) c d hc hd
