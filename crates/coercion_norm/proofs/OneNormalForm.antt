-- Two coercions in normal form that stand for one path are one.
use Rattle.std.proofs.Common.{◌≡◌, ℕ, zero, suc, Bool, true, false, Option, Some, None, refl, sym, ap, ◌∙◌, subst}
use Rattle.std.proofs.Common.{inl, inr}
use Rattle.grift_base.specs.Types.{TypeRow, is_dyn}
use Rattle.coercion_norm.specs.Coercions.{Kind, Coercion, Coercions, Middle, Inject, Project, NoCoercions}
use Rattle.coercion_norm.specs.Coercions.{CoercionThen, is_id, all_id, runs_back, kind_of, slot, slots}
use Rattle.coercion_norm.specs.Paths.{Steps, Stop, Edge, last_type, joined, turned, along, solid, first_clash}
use Rattle.coercion_norm.specs.Composition.{compose_to}
use Rattle.coercion_norm.specs.StandsFor.{is_none_left, IsMiddle, PartAgrees, PartsAgree, MiddleIf}
use Rattle.coercion_norm.specs.StandsFor.{FinalIf, WholeIf, AgreesTo, StandsFor}
use Rattle.coercion_norm.specs.Heights.{NoHigher, AllNoHigher}
use Rattle.coercion_norm.specs.Normal.{IsNormal, AreNormal}
use Rattle.coercion_norm.proofs.PathLemmas.{no_both}
use Rattle.coercion_norm.proofs.OneDepth.{id_is, and_left, and_right}
use Rattle.coercion_norm.proofs.HeightLemmas.{compose_height}
use Rattle.coercion_norm.proofs.NormalLemmas.{compose_normal}
use Rattle.coercion_norm.proofs.StandingLemmas.{compose_three_left, compose_three_right}

module _ (rows : ℕ → TypeRow) where
  -- in normal form, and no higher than the number
  pub record IsLowNormal (n : ℕ) (c : Coercion) : Type 0 where
    pub normal : IsNormal rows c
    pub low : NoHigher rows c n

  pub record AreLowNormal (n : ℕ) (cs : Coercions) : Type 0 where
    pub normal : AreNormal rows cs
    pub low : AllNoHigher rows cs n

  ids_low_normal : (n : ℕ) (cs : Coercions) → all_id cs ≡ true → AreLowNormal n cs
  ids_low_normal n NoCoercions ids = record { normal = tt; low = tt }
  ids_low_normal n (CoercionThen c cs) ids =
      let first = sym (id_is c (and_left (is_id c) (all_id cs) ids)) in
      let rest = ids_low_normal n cs (and_right (is_id c) (all_id cs) ids) in
      record {
        normal = (subst (IsNormal rows) first tt, rest.normal);
        low = (subst (λ x. NoHigher rows x n) first tt, rest.low);
      }

  -- two that agree so with one path are one
  abbrev pub AgreeAlone : ℕ → (Coercion → ℕ → Steps → Type 0) → Type 0
  AgreeAlone n A =
      (c d : Coercion) (t : ℕ) (l : Steps) → IsLowNormal n c → IsLowNormal n d → A c t l → A d t l → c ≡ d

  -- the same of the parts of what is no higher than the number
  abbrev pub PartsAgreeAlone : ℕ → (Coercion → ℕ → Steps → Type 0) → Type 0
  PartsAgreeAlone zero A = Unit {0}
  PartsAgreeAlone (suc n) A = AgreeAlone n A

  module _ (A : Coercion → ℕ → Steps → Type 0) where
    one_part : (n : ℕ) → AgreeAlone n A → (back : Bool) (c d : Coercion) (j t : ℕ) (l : Steps)
        → IsLowNormal n c → IsLowNormal n d → PartAgrees rows A back c j t l → PartAgrees rows A back d j t l → c ≡ d
    one_part n alone true c d j t l nc nd ac ad =
        alone c d (slot rows j (last_type t l)) (along (slot rows j) (turned t l Stop)) nc nd ac ad
    one_part n alone false c d j t l nc nd ac ad =
        alone c d (slot rows j t) (along (slot rows j) l) nc nd ac ad

    same_parts : (n : ℕ) → AgreeAlone n A → (kind : Kind) (cs ds : Coercions) (k j t : ℕ) (l : Steps)
        → AreLowNormal n cs → AreLowNormal n ds → PartsAgree rows A kind cs k j t l → PartsAgree rows A kind ds k j t l
        → cs ≡ ds
    same_parts n alone kind NoCoercions NoCoercions k j t l nc nd ac ad = refl
    same_parts n alone kind NoCoercions (CoercionThen d ds) zero j t l nc nd ac ad = absurd ad
    same_parts n alone kind NoCoercions (CoercionThen d ds) (suc k) j t l nc nd ac ad = absurd ac
    same_parts n alone kind (CoercionThen c cs) ds zero j t l nc nd ac ad = absurd ac
    same_parts n alone kind (CoercionThen c cs) NoCoercions (suc k) j t l nc nd ac ad = absurd ad
    same_parts n alone kind (CoercionThen c cs) (CoercionThen d ds) (suc k) j t l nc nd ac ad =
        ap (λ x. CoercionThen x cs) (one_part n alone (runs_back kind (is_none_left k)) c d j t l
        (record { normal = nc.normal.0; low = nc.low.0 }) (record { normal = nd.normal.0; low = nd.low.0 }) ac.0 ad.0)
        ∙ ap (CoercionThen d) (same_parts n alone kind cs ds k (suc j) t l
        (record { normal = nc.normal.1; low = nc.low.1 }) (record { normal = nd.normal.1; low = nd.low.1 }) ac.1 ad.1)

    -- a middle in normal form has parts that aren't all Id
    middle_is_not_id : (n : ℕ) → PartsAgreeAlone n A → (kind : Kind) (cs ds : Coercions) (k t : ℕ) (l : Steps)
        → IsLowNormal n (Middle kind cs) → all_id ds ≡ true
        → PartsAgree rows A kind cs k 0 t l → PartsAgree rows A kind ds k 0 t l → ⊥
    middle_is_not_id zero alone kind cs ds k t l nc ids ac ad = absurd nc.low
    middle_is_not_id (suc n) alone kind cs ds k t l nc ids ac ad =
        no_both (all_id ds) ids (ap all_id (sym (same_parts n alone kind cs ds k 0 t l
        (record { normal = nc.normal.1; low = nc.low }) (ids_low_normal n ds ids) ac ad)) ∙ nc.normal.0)

    same_middles : (n : ℕ) → PartsAgreeAlone n A → (kind : Kind) (cs ds : Coercions) (k t : ℕ) (l : Steps)
        → IsLowNormal n (Middle kind cs) → IsLowNormal n (Middle kind ds)
        → PartsAgree rows A kind cs k 0 t l → PartsAgree rows A kind ds k 0 t l → Middle kind cs ≡ Middle kind ds
    same_middles zero alone kind cs ds k t l nc nd ac ad = absurd nc.low
    same_middles (suc n) alone kind cs ds k t l nc nd ac ad =
        ap (Middle kind) (same_parts n alone kind cs ds k 0 t l
        (record { normal = nc.normal.1; low = nc.low }) (record { normal = nd.normal.1; low = nd.low }) ac ad)

    module _ (n : ℕ) (alone : PartsAgreeAlone n A) where
      middle_alone : (o : Option Kind) (k : ℕ) (c d : Coercion) (t : ℕ) (l : Steps) → IsLowNormal n c → IsLowNormal n d
          → MiddleIf rows A o k c t l → MiddleIf rows A o k d t l → c ≡ d
      middle_alone None k c d t l nc nd ac ad = ac ∙ sym ad
      middle_alone (Some kind) k c d t l nc nd ac ad = go ac.2 ad.2
        where
          go : IsMiddle kind ac.0 c → IsMiddle kind ad.0 d → c ≡ d
          go (inl ec) (inl ed) = ec ∙ same_middles n alone kind ac.0 ad.0 k t l
              (subst (IsLowNormal n) ec nc) (subst (IsLowNormal n) ed nd) ac.1 ad.1 ∙ sym ed
          go (inl ec) (inr ed) = absurd (middle_is_not_id n alone kind ac.0 ad.0 k t l
              (subst (IsLowNormal n) ec nc) ed.1 ac.1 ad.1)
          go (inr ec) (inl ed) = absurd (middle_is_not_id n alone kind ad.0 ac.0 k t l
              (subst (IsLowNormal n) ed nd) ec.1 ad.1 ac.1)
          go (inr ec) (inr ed) = ec.0 ∙ sym ed.0

      -- what an Inject injects
      injected : (c g : Coercion) (kept : ℕ) → c ≡ Inject g kept → IsLowNormal n c → IsLowNormal n g
      injected c g kept e nc = let h : IsLowNormal n (Inject g kept) = subst (IsLowNormal n) e nc in
          record { normal = h.normal.1; low = h.low.0 }

      -- what follows a Project
      projected : (c i : Coercion) (wanted label : ℕ) → c ≡ Project wanted label i → IsLowNormal n c → IsLowNormal n i
      projected c i wanted label e nc = let h : IsLowNormal n (Project wanted label i) = subst (IsLowNormal n) e nc in
          record { normal = h.normal.2; low = h.low.1 }

      final_alone : (o : Option ℕ) (to_dyn : Bool) (c d : Coercion) (t : ℕ) (l : Steps)
          → IsLowNormal n c → IsLowNormal n d → FinalIf rows A o to_dyn c t l → FinalIf rows A o to_dyn d t l → c ≡ d
      final_alone (Some label) to_dyn c d t l nc nd ac ad = ac ∙ sym ad
      final_alone None true c d t l nc nd ac ad =
          ac.1 ∙ ap (λ g. Inject g (last_type t l)) (middle_alone (kind_of (rows t)) (slots rows t) ac.0 ad.0 t l
          (injected c ac.0 (last_type t l) ac.1 nc) (injected d ad.0 (last_type t l) ad.1 nd) ac.2 ad.2) ∙ sym ad.1
      final_alone None false c d t l nc nd ac ad =
          middle_alone (kind_of (rows t)) (slots rows t) c d t l nc nd ac ad

      whole_alone : (from_dyn to_dyn : Bool) (c d : Coercion) (t : ℕ) (l : Steps)
          → IsLowNormal n c → IsLowNormal n d
          → WholeIf rows A from_dyn to_dyn c t l → WholeIf rows A from_dyn to_dyn d t l → c ≡ d
      whole_alone true to_dyn c d t Stop nc nd ac ad = ac ∙ sym ad
      whole_alone true to_dyn c d t (Edge p w l) nc nd ac ad =
          ac.1 ∙ ap (Project w p) (final_alone (first_clash rows w l) to_dyn ac.0 ad.0 w l
          (projected c ac.0 w p ac.1 nc) (projected d ad.0 w p ad.1 nd) ac.2 ad.2) ∙ sym ad.1
      whole_alone false to_dyn c d t l nc nd ac ad = final_alone (first_clash rows t l) to_dyn c d t l nc nd ac ad

  agree_alone : (n : ℕ) → AgreeAlone n (AgreesTo rows (suc n))
  agree_alone zero c d t l nc nd ac ad =
      whole_alone (AgreesTo rows 0) 0 tt (is_dyn (rows t)) (is_dyn (rows (last_type t l))) c d t
      (solid rows l) nc nd ac ad
  agree_alone (suc n) c d t l nc nd ac ad =
      whole_alone (AgreesTo rows (suc n)) (suc n) (agree_alone n) (is_dyn (rows t))
      (is_dyn (rows (last_type t l))) c d t
      (solid rows l) nc nd ac ad

  pub stands_alone : (n : ℕ) (c d : Coercion) (t : ℕ) (l : Steps) → IsNormal rows c → IsNormal rows d
      → NoHigher rows c n → NoHigher rows d n → StandsFor rows c t l → StandsFor rows d t l → c ≡ d
  stands_alone n c d t l nc nd lc ld ac ad =
      agree_alone n c d t l (record { normal = nc; low = lc }) (record { normal = nd; low = ld })
      (ac (suc n)) (ad (suc n))

-- composition is associative where the three coercions stand for paths that follow each other
pub compose_associative : (rows : ℕ → TypeRow) (n : ℕ) (c d e : Coercion) (t u v : ℕ) (l m o : Steps)
    → IsNormal rows c → IsNormal rows d → IsNormal rows e
    → NoHigher rows c n → NoHigher rows d n → NoHigher rows e n → u ≡ last_type t l → v ≡ last_type u m
    → StandsFor rows c t l → StandsFor rows d u m → StandsFor rows e v o
    → compose_to rows n (compose_to rows n c d) e ≡ compose_to rows n c (compose_to rows n d e)
compose_associative rows n c d e t u v l m o nc nd ne hc hd he tu uv sc sd se =
    stands_alone rows n (compose_to rows n (compose_to rows n c d) e) (compose_to rows n c (compose_to rows n d e))
    t (joined l (joined m o))
    (compose_normal rows n (compose_to rows n c d) e (compose_normal rows n c d nc nd) ne)
    (compose_normal rows n c (compose_to rows n d e) nc (compose_normal rows n d e nd ne))
    (compose_height rows n n (compose_to rows n c d) e (compose_height rows n n c d hc hd) he)
    (compose_height rows n n c (compose_to rows n d e) hc (compose_height rows n n d e hd he))
    (compose_three_left rows n c d e t u v l m o hc hd he tu uv sc sd se)
    (compose_three_right rows n c d e t u v l m o hc hd he tu uv sc sd se)
