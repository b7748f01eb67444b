-- The coercion of a cast stands for it, and what follows stands for the joined path.
use Rattle.std.proofs.Common.{◌≡◌, ℕ, zero, suc, ◌≤◌, nat_eq, Bool, true, false, cond, Option, Some, None, refl, sym}
use Rattle.std.proofs.Common.{ap, ◌∙◌, subst, inl, inr, arith}
use Rattle.std.proofs.lemmas.Bool.{eqb-true, eq-eqb}
use Rattle.grift_base.specs.Types.{TypeRow, TypeHead, FunHead, TupleHead}
use Rattle.grift_base.specs.Types.{equal_heads, is_dyn, same_head, head_of}
use Rattle.coercion_norm.specs.Coercions.{Kind, Coercion, Coercions, Id, Fail, Project, NoCoercions, CoercionThen}
use Rattle.coercion_norm.specs.Coercions.{all_id, runs_back, kind_of, slot, slots}
use Rattle.coercion_norm.specs.Paths.{Steps, Stop, Edge, last_type, joined, in_front, solid, first_clash}
use Rattle.coercion_norm.specs.StandsFor.{is_none_left, IsMiddle, PartAgrees, PartsAgree, MiddleIf, FinalIf}
use Rattle.coercion_norm.specs.StandsFor.{FinalAgrees, WholeIf, WholeAgrees, AgreesTo}
use Rattle.coercion_norm.specs.Composition.{final, coerce_part, coerce_parts, coerce_middle, coerce_solid, coerce_by}
use Rattle.coercion_norm.specs.Composition.{coerce_whole, coerce_to, follow, compose_to}
use Rattle.coercion_norm.proofs.OneDepth.{Joins, is_middle, follow_agrees}

equal_heads_same : (h : TypeHead) → equal_heads h h ≡ true
equal_heads_same (FunHead n) = eq-eqb n n refl
equal_heads_same (TupleHead n) = eq-eqb n n refl
equal_heads_same _ = refl

-- ---- one depth of the coercion of a cast

all_ids : ℕ → Coercions
all_ids zero = NoCoercions
all_ids (suc n) = CoercionThen Id (all_ids n)

all_ids_are : (n : ℕ) → all_id (all_ids n) ≡ true
unfolding all_ids
all_ids_are zero = refl
all_ids_are (suc n) = all_ids_are n

-- from a type to itself, over no edge or over one
abbrev pub stay : ℕ → Option ℕ → Steps
stay s None = Stop
stay s (Some p) = Edge p s Stop

module _ (rows : ℕ → TypeRow) (A : Coercion → ℕ → Steps → Type 0) (ids : (s : ℕ) (o : Option ℕ) →
    A Id s (stay s o)) where
  ids_part : (b : Bool) (j s : ℕ) (o : Option ℕ) → PartAgrees rows A b Id j s (stay s o)
  ids_part true j s None = ids (slot rows j s) None
  ids_part true j s (Some p) = ids (slot rows j s) (Some p)
  ids_part false j s None = ids (slot rows j s) None
  ids_part false j s (Some p) = ids (slot rows j s) (Some p)

  ids_agree : (kind : Kind) (s : ℕ) (o : Option ℕ) (n j : ℕ) → PartsAgree rows A kind (all_ids n) n j s (stay s o)
  unfolding all_ids
  ids_agree kind s o zero j = tt
  ids_agree kind s o (suc n) j = (ids_part (runs_back kind (is_none_left n)) j s o, ids_agree kind s o n (suc j))

  id_middle : (k : Option Kind) (n s : ℕ) (o : Option ℕ) → MiddleIf rows A k n Id s (stay s o)
  id_middle None n s o = refl
  id_middle (Some kind) n s o = (all_ids n, ids_agree kind s o n 0, inr (refl, all_ids_are n))

  id_final : (s : ℕ) (o : Option ℕ) → FinalAgrees rows A false Id s (stay s o)
  id_final s None = id_middle (kind_of (rows s)) (slots rows s) s None
  id_final s (Some p) =
      subst (λ b. FinalIf rows A (cond b None (Some p)) false Id s (Edge p s Stop))
      (sym (equal_heads_same (head_of (rows s))))
      (id_middle (kind_of (rows s)) (slots rows s) s (Some p))

  id_whole : (b : Bool) (s : ℕ) (o : Option ℕ) → is_dyn (rows s) ≡ b → WholeAgrees rows A Id s (stay s o)
  id_whole true s None e = subst (λ b. WholeIf rows A b b Id s Stop) (sym e) refl
  id_whole false s None e = subst (λ b. WholeIf rows A b b Id s Stop) (sym e) (id_final s None)
  id_whole true s (Some p) e = subst (λ b. WholeIf rows A b b Id s (in_front b p s Stop)) (sym e) refl
  id_whole false s (Some p) e = subst (λ b. WholeIf rows A b b Id s (in_front b p s Stop)) (sym e) (id_final s (Some p))

  pub id_agrees : (s : ℕ) (o : Option ℕ) → WholeAgrees rows A Id s (stay s o)
  id_agrees s o = id_whole (is_dyn (rows s)) s o refl

  module _ (next : ℕ → ℕ → ℕ → Coercion) (cast : (s t p : ℕ) → A (next s t p) s (Edge p t Stop)) where
    coerce_parts_agree : (kind : Kind) (s t p n j : ℕ) →
        PartsAgree rows A kind (coerce_parts rows next kind s t p n j) n j s (Edge p t Stop)
    coerce_parts_agree kind s t p zero j = tt
    coerce_parts_agree kind s t p (suc n) j =
        (go (runs_back kind (is_none_left n)), coerce_parts_agree kind s t p n (suc j))
      where
        go : (b : Bool) → PartAgrees rows A b (coerce_part rows next b (slot rows j s) (slot rows j t) p) j s
            (Edge p t Stop)
        go true = cast (slot rows j t) (slot rows j s) p
        go false = cast (slot rows j s) (slot rows j t) p

    coerce_middle_agrees : (o : Option Kind) (s t p : ℕ) →
        MiddleIf rows A o (slots rows s) (coerce_middle rows next o s t p) s (Edge p t Stop)
    coerce_middle_agrees None s t p = refl
    coerce_middle_agrees (Some kind) s t p = (
      coerce_parts rows next kind s t p (slots rows s) 0,
      coerce_parts_agree kind s t p (slots rows s) 0,
      is_middle kind (coerce_parts rows next kind s t p (slots rows s) 0),
    )

    by_head : (b : Bool) (s t p : ℕ)
        → FinalIf rows A (cond b None (Some p)) false (cond b (coerce_middle rows next (kind_of (rows s)) s t p)
        (Fail p)) s (Edge p t Stop)
    by_head true s t p = coerce_middle_agrees (kind_of (rows s)) s t p
    by_head false s t p = refl

    pub coerce_solid_agrees : (s t p : ℕ) → FinalAgrees rows A false (coerce_solid rows next s t p) s (Edge p t Stop)
    coerce_solid_agrees s t p = go (nat_eq s t) refl
      where
        go : (b : Bool) → nat_eq s t ≡ b
            → FinalAgrees rows A false (cond b Id (cond (same_head (rows s) (rows t))
            (coerce_middle rows next (kind_of (rows s)) s t p) (Fail p))) s (Edge p t Stop)
        go true e = subst (λ x. FinalAgrees rows A false Id s (Edge p x Stop)) (eqb-true s t e) (id_final s (Some p))
        go false e = by_head (same_head (rows s) (rows t)) s t p

    by_dyn : (b1 b2 : Bool) (s t p : ℕ) → WholeIf rows A b1 b2 (coerce_by rows next b1 b2 s t p) s
        (in_front b2 p t Stop)
    by_dyn true true s t p = refl
    by_dyn true false s t p = (Id, refl, id_final t None)
    by_dyn false true s t p = (Id, refl, id_middle (kind_of (rows s)) (slots rows s) s None)
    by_dyn false false s t p = coerce_solid_agrees s t p

    pub coerce_agrees : (s t p : ℕ) → WholeAgrees rows A (coerce_whole rows next s t p) s (Edge p t Stop)
    coerce_agrees s t p = by_dyn (is_dyn (rows s)) (is_dyn (rows t)) s t p

-- ---- every depth

module _ (rows : ℕ → TypeRow) where
  -- Id stands for the path of one type, and for a cast of a type to itself
  pub id_stands : (k s : ℕ) (o : Option ℕ) → AgreesTo rows k Id s (stay s o)
  id_stands zero s o = tt
  id_stands (suc k) s o = id_agrees rows (AgreesTo rows k) (id_stands k) s o

  pub coerce_stands : (k j : ℕ) → k ≤ j → (s t p : ℕ) → AgreesTo rows k (coerce_to rows j s t p) s (Edge p t Stop)
  coerce_stands zero j le s t p = tt
  coerce_stands (suc k) zero le s t p = absurd (omega arith)
  coerce_stands (suc k) (suc j) le s t p =
      coerce_agrees rows (AgreesTo rows k) (id_stands k) (coerce_to rows j) (coerce_stands k j (omega arith)) s t p

  -- ---- what is followed by Id stays

  module _ (A : Coercion → ℕ → Steps → Type 0) (next : Coercion → Coercion → Coercion) (coerce : ℕ → ℕ → ℕ →
      Coercion) where
    middle_right : (o : Option Kind) (n : ℕ) (c : Coercion) (t : ℕ) (l : Steps) → MiddleIf rows A o n c t l →
        (follow next coerce c Id ≡ c) × (final c ≡ c)
    middle_right None n c t l h = (ap (λ x. follow next coerce x Id) h ∙ sym h, ap final h ∙ sym h)
    middle_right (Some kind) n c t l h = go h.2
      where
        go : IsMiddle kind h.0 c → (follow next coerce c Id ≡ c) × (final c ≡ c)
        go (inl e) = (ap (λ x. follow next coerce x Id) e ∙ sym e, ap final e ∙ sym e)
        go (inr e) = (ap (λ x. follow next coerce x Id) e.0 ∙ sym e.0, ap final e.0 ∙ sym e.0)

    final_right : (o : Option ℕ) (b : Bool) (c : Coercion) (t : ℕ) (l : Steps) → FinalIf rows A o b c t l →
        (follow next coerce c Id ≡ c) × (final c ≡ c)
    final_right (Some p) b c t l h = (ap (λ x. follow next coerce x Id) h ∙ sym h, ap final h ∙ sym h)
    final_right None true c t l h = (ap (λ x. follow next coerce x Id) h.1 ∙ sym h.1, ap final h.1 ∙ sym h.1)
    final_right None false c t l h = middle_right (kind_of (rows t)) (slots rows t) c t l h

    whole_right : (b0 b1 : Bool) (c : Coercion) (t : ℕ) (l : Steps) → WholeIf rows A b0 b1 c t l →
        follow next coerce c Id ≡ c
    whole_right true b1 c t Stop h = ap (λ x. follow next coerce x Id) h ∙ sym h
    whole_right true b1 c t (Edge p w l) h =
        let r : (follow next coerce h.0 Id ≡ h.0) × (final h.0 ≡ h.0) =
        final_right (first_clash rows w l) b1 h.0 w l h.2 in
        ap (λ x. follow next coerce x Id) h.1 ∙ ap (Project w p) (ap final r.0 ∙ r.1) ∙ sym h.1
    whole_right false b1 c t l h = (final_right (first_clash rows t l) b1 c t l h).0

  below_coerce : ℕ → ℕ → ℕ → ℕ → Coercion
  below_coerce zero s t p = Id
  below_coerce (suc n) s t p = coerce_to rows n s t p

  kept_left : (k : ℕ) → ((c d : Coercion) → Joins rows (AgreesTo rows k) c d (compose_to rows k c d)) → (d : Coercion) →
      Joins rows (AgreesTo rows k) Id d d
  kept_left zero law d = λ t u l m e hc hd. tt
  kept_left (suc k) law d = law Id d

  kept_right : (k : ℕ) → ((c d : Coercion) → Joins rows (AgreesTo rows k) c d (compose_to rows k c d)) →
      (c : Coercion) → Joins rows (AgreesTo rows k) c Id c
  kept_right zero law c = λ t u l m e hc hd. tt
  kept_right (suc k) law c = λ t u l m e hc hd.
      subst (λ x. AgreesTo rows (suc k) x t (joined l m))
      (whole_right (AgreesTo rows k) (compose_to rows k) (coerce_solid rows (coerce_to rows k)) (is_dyn (rows t))
      (is_dyn (rows (last_type t l))) c t (solid rows l) hc)
      (law c Id t u l m e hc hd)

  pub compose_joins : (k j : ℕ) → k ≤ j → (c d : Coercion) → Joins rows (AgreesTo rows k) c d (compose_to rows j c d)
  compose_joins zero j le c d = λ t u l m e hc hd. tt
  compose_joins (suc k) zero le c d = absurd (omega arith)
  compose_joins (suc k) (suc j) le c d =
      follow_agrees rows (AgreesTo rows k)
      (kept_left k (compose_joins k k (omega arith))) (kept_right k (compose_joins k k (omega arith)))
      (compose_to rows j) (compose_joins k j (omega arith))
      (coerce_solid rows (coerce_to rows j)) (coerce_solid_agrees rows (AgreesTo rows k) (id_stands k)
      (coerce_to rows j) (coerce_stands k j (omega arith)))
      c d
