-- One depth: what follows agrees with the joined path, where the parts do so.
use Rattle.std.proofs.Common.{◌≡◌, ℕ, zero, suc, Bool, true, false, cond, ◌&&◌, Option, Some, None, refl, sym, ap, ◌∙◌}
use Rattle.std.proofs.Common.{subst, inl, inr}
use Rattle.grift_base.specs.Types.{TypeRow, is_dyn, head_of}
use Rattle.coercion_norm.specs.Coercions.{Kind, FunKind, Coercion, Coercions, Id, Fail}
use Rattle.coercion_norm.specs.Coercions.{Middle, Inject, Project, NoCoercions, CoercionThen, is_end, is_id, all_id}
use Rattle.coercion_norm.specs.Coercions.{same_kind, runs_back, kind_of, slot, slots}
use Rattle.coercion_norm.specs.Paths.{Steps, Stop, Edge, last_type, joined, turned, along, solid, first_clash}
use Rattle.coercion_norm.specs.StandsFor.{is_none_left, IsMiddle, PartAgrees, PartsAgree, MiddleIf, MiddleAgrees}
use Rattle.coercion_norm.specs.StandsFor.{FinalIf, FinalAgrees, WholeIf, WholeAgrees}
use Rattle.coercion_norm.specs.Composition.{middle, final, follow_part, follow_parts, after_inner, follow}
use Rattle.coercion_norm.proofs.PathLemmas.{last-joined, turned-joined, joined-turned, last-turned, last-along}
use Rattle.coercion_norm.proofs.PathLemmas.{along-joined, joined-Stop, same_kinds, same_widths, Reaches, solid-joined}
use Rattle.coercion_norm.proofs.PathLemmas.{clash-some, clash-none, one_head, reaches}

-- ---- truth values

pub id_is : (c : Coercion) → is_id c ≡ true → c ≡ Id
id_is Id e = refl
id_is _ e = absurd (cc e)

pub and_left : (a b : Bool) → (a && b) ≡ true → a ≡ true
and_left true b e = refl
and_left false b e = absurd (cc e)

pub and_right : (a b : Bool) → (a && b) ≡ true → b ≡ true
and_right true b e = e
and_right false b e = absurd (cc e)

pub same_kind_same : (kind : Kind) → same_kind kind kind ≡ true
same_kind_same FunKind = refl
same_kind_same _ = refl

-- the middle of parts is Id or the middle itself
pub is_middle : (kind : Kind) (parts : Coercions) → IsMiddle kind parts (middle kind parts)
is_middle kind parts = go (all_id parts) refl
  where
    go : (b : Bool) → all_id parts ≡ b → IsMiddle kind parts (cond b Id (Middle kind parts))
    go true e = inr (refl, e)
    go false e = inl refl

module _ (rows : ℕ → TypeRow) (A : Coercion → ℕ → Steps → Type 0) where
  -- a third coercion agrees with a joined path where the first two agree with its halves
  abbrev pub Joins : Coercion → Coercion → Coercion → Type 0
  Joins x y z = (t u : ℕ) (l m : Steps) → u ≡ last_type t l → A x t l → A y u m → A z t (joined l m)

  abbrev pub JoinsPart : Bool → Coercion → Coercion → Coercion → Type 0
  JoinsPart false x y z = Joins x y z
  JoinsPart true x y z = Joins y x z

  part_joins : (b : Bool) (x y z : Coercion) (j t u : ℕ) (l m : Steps) → u ≡ last_type t l → JoinsPart b x y z
      → PartAgrees rows A b x j t l → PartAgrees rows A b y j u m → PartAgrees rows A b z j t (joined l m)
  part_joins false x y z j t u l m e joins hx hy =
      subst (λ s. A z (slot rows j t) s) (sym (along-joined (slot rows j) l m))
      (joins (slot rows j t) (slot rows j u) (along (slot rows j) l) (along (slot rows j) m) (ap (slot rows j) e ∙
      sym (last-along (slot rows j) t l)) hx hy)
  part_joins true x y z j t u l m e joins hx hy =
      let ends : last_type u m ≡ last_type t (joined l m) = sym (last-joined t l m ∙ ap (λ v. last_type v m) (sym e)) in
      let way : joined (turned u m Stop) (turned t l Stop) ≡ turned t (joined l m) Stop =
      sym (turned-joined t l m Stop ∙ ap (λ v. turned v m (turned t l Stop)) (sym e) ∙
      sym (joined-turned u m Stop (turned t l Stop))) in
      let meet : slot rows j (last_type t l) ≡ last_type (slot rows j (last_type u m))
      (along (slot rows j) (turned u m Stop)) =
      ap (slot rows j) (sym e ∙ sym (last-turned u m Stop)) ∙
      sym (last-along (slot rows j) (last_type u m) (turned u m Stop)) in
      let both : A z (slot rows j (last_type u m)) (joined (along (slot rows j) (turned u m Stop))
      (along (slot rows j) (turned t l Stop))) =
      joins (slot rows j (last_type u m)) (slot rows j (last_type t l)) (along (slot rows j) (turned u m Stop))
      (along (slot rows j) (turned t l Stop)) meet hy hx in
      subst (λ v. A z (slot rows j v) (along (slot rows j) (turned t (joined l m) Stop))) ends
      (subst (λ s. A z (slot rows j (last_type u m)) s)
      (sym (along-joined (slot rows j) (turned u m Stop) (turned t l Stop)) ∙ ap (along (slot rows j)) way) both)

  -- the last part is known by what is left
  ends_with : (kind : Kind) (cs : Coercions) (n j t : ℕ) (l : Steps) → PartsAgree rows A kind cs n j t l →
      is_end cs ≡ is_none_left n
  ends_with kind NoCoercions zero j t l h = refl
  ends_with kind NoCoercions (suc n) j t l h = absurd h
  ends_with kind (CoercionThen c cs) zero j t l h = absurd h
  ends_with kind (CoercionThen c cs) (suc n) j t l h = refl

  module _ (kept_left : (d : Coercion) → Joins Id d d) (kept_right : (c : Coercion) → Joins c Id c) where
    left_part : (b : Bool) (c d : Coercion) → c ≡ Id → JoinsPart b c d d
    left_part false c d e = subst (λ x. Joins x d d) (sym e) (kept_left d)
    left_part true c d e = subst (λ x. Joins d x d) (sym e) (kept_right d)

    right_part : (b : Bool) (c d : Coercion) → d ≡ Id → JoinsPart b c d c
    right_part false c d e = subst (λ x. Joins c x c) (sym e) (kept_right c)
    right_part true c d e = subst (λ x. Joins x c c) (sym e) (kept_left c)

    parts_left : (kind : Kind) (cs ds : Coercions) (n j t u : ℕ) (l m : Steps) → u ≡ last_type t l → all_id cs ≡ true
        → PartsAgree rows A kind cs n j t l → PartsAgree rows A kind ds n j u m →
        PartsAgree rows A kind ds n j t (joined l m)
    parts_left kind NoCoercions NoCoercions zero j t u l m e ids hc hd = tt
    parts_left kind NoCoercions (CoercionThen d ds) zero j t u l m e ids hc hd = absurd hd
    parts_left kind NoCoercions ds (suc n) j t u l m e ids hc hd = absurd hc
    parts_left kind (CoercionThen c cs) ds zero j t u l m e ids hc hd = absurd hc
    parts_left kind (CoercionThen c cs) NoCoercions (suc n) j t u l m e ids hc hd = absurd hd
    parts_left kind (CoercionThen c cs) (CoercionThen d ds) (suc n) j t u l m e ids hc hd = (
      part_joins (runs_back kind (is_none_left n)) c d d j t u l m e (left_part (runs_back kind (is_none_left n)) c d
          (id_is c (and_left (is_id c) (all_id cs) ids))) hc.0 hd.0,
      parts_left kind cs ds n (suc j) t u l m e (and_right (is_id c) (all_id cs) ids) hc.1 hd.1,
    )

    parts_right : (kind : Kind) (cs ds : Coercions) (n j t u : ℕ) (l m : Steps) → u ≡ last_type t l → all_id ds ≡ true
        → PartsAgree rows A kind cs n j t l → PartsAgree rows A kind ds n j u m →
        PartsAgree rows A kind cs n j t (joined l m)
    parts_right kind NoCoercions ds zero j t u l m e ids hc hd = tt
    parts_right kind NoCoercions ds (suc n) j t u l m e ids hc hd = absurd hc
    parts_right kind (CoercionThen c cs) ds zero j t u l m e ids hc hd = absurd hc
    parts_right kind (CoercionThen c cs) NoCoercions (suc n) j t u l m e ids hc hd = absurd hd
    parts_right kind (CoercionThen c cs) (CoercionThen d ds) (suc n) j t u l m e ids hc hd = (
      part_joins (runs_back kind (is_none_left n)) c d c j t u l m e (right_part (runs_back kind (is_none_left n)) c d
          (id_is d (and_left (is_id d) (all_id ds) ids))) hc.0 hd.0,
      parts_right kind cs ds n (suc j) t u l m e (and_right (is_id d) (all_id ds) ids) hc.1 hd.1,
    )

    module _ (next : Coercion → Coercion → Coercion) (law : (c d : Coercion) → Joins c d (next c d)) where
      follow_joins : (b : Bool) (c d : Coercion) → JoinsPart b c d (follow_part next b c d)
      follow_joins false c d = law c d
      follow_joins true c d = law d c

      parts_follow : (kind : Kind) (cs ds : Coercions) (n j t u : ℕ) (l m : Steps) → u ≡ last_type t l
          → PartsAgree rows A kind cs n j t l → PartsAgree rows A kind ds n j u m →
          PartsAgree rows A kind (follow_parts next kind cs ds) n j t (joined l m)
      parts_follow kind NoCoercions ds zero j t u l m e hc hd = tt
      parts_follow kind NoCoercions ds (suc n) j t u l m e hc hd = absurd hc
      parts_follow kind (CoercionThen c cs) ds zero j t u l m e hc hd = absurd hc
      parts_follow kind (CoercionThen c cs) NoCoercions (suc n) j t u l m e hc hd = absurd hd
      parts_follow kind (CoercionThen c cs) (CoercionThen d ds) (suc n) j t u l m e hc hd = (
        subst (λ b. PartAgrees rows A (runs_back kind (is_none_left n)) (follow_part next (runs_back kind b) c d) j t
            (joined l m)) (sym (ends_with kind cs n (suc j) t l hc.1))
            (part_joins (runs_back kind (is_none_left n)) c d (follow_part next (runs_back kind (is_none_left n)) c d) j
            t u l m e (follow_joins (runs_back kind (is_none_left n)) c d) hc.0 hd.0),
        parts_follow kind cs ds n (suc j) t u l m e hc.1 hd.1,
      )

      two_middles : (kind : Kind) (n : ℕ) (cs ds : Coercions) (c d : Coercion) (t u : ℕ) (l m : Steps) →
          u ≡ last_type t l
          → PartsAgree rows A kind cs n 0 t l → IsMiddle kind cs c → PartsAgree rows A kind ds n 0 u m →
          IsMiddle kind ds d
          → MiddleIf rows A (Some kind) n (after_inner next c d) t (joined l m)
      two_middles kind n cs ds c d t u l m e hc (inl ec) hd (inl ed) =
          let h : after_inner next c d ≡ middle kind (follow_parts next kind cs ds) =
          ap (λ x. after_inner next x d) ec ∙ ap (λ x. after_inner next (Middle kind cs) x) ed ∙
          ap (λ b. cond b (middle kind (follow_parts next kind cs ds)) Id) (same_kind_same kind) in (
            follow_parts next kind cs ds,
            parts_follow kind cs ds n 0 t u l m e hc hd,
            subst (IsMiddle kind (follow_parts next kind cs ds)) (sym h)
                (is_middle kind (follow_parts next kind cs ds)),
          )
      two_middles kind n cs ds c d t u l m e hc (inl ec) hd (inr ed) = (
        cs,
        parts_right kind cs ds n 0 t u l m e ed.1 hc hd,
        inl (ap (λ x. after_inner next x d) ec ∙ ap (λ x. after_inner next (Middle kind cs) x) ed.0),
      )
      two_middles kind n cs ds c d t u l m e hc (inr ec) hd ed = (
        ds,
        parts_left kind cs ds n 0 t u l m e ec.1 hc hd,
        subst (IsMiddle kind ds) (sym (ap (λ x. after_inner next x d) ec.0)) ed,
      )

      middles : (o : Option Kind) (n : ℕ) (c d : Coercion) (t u : ℕ) (l m : Steps) → u ≡ last_type t l
          → MiddleIf rows A o n c t l → MiddleIf rows A o n d u m →
          MiddleIf rows A o n (after_inner next c d) t (joined l m)
      middles None n c d t u l m e hc hd = ap (λ x. after_inner next x d) hc ∙ hd
      middles (Some kind) n c d t u l m e hc hd = two_middles kind n hc.0 hd.0 c d t u l m e hc.1 hc.2 hd.1 hd.2

      -- the types of a path without clash have one head, so that its middles have one kind and width
      middles_join : (c d : Coercion) (t u : ℕ) (l m : Steps) → u ≡ last_type t l → first_clash rows t l ≡ None
          → MiddleAgrees rows A c t l → MiddleAgrees rows A d u m →
          MiddleAgrees rows A (after_inner next c d) t (joined l m)
      middles_join c d t u l m e none hc hd =
          let head : head_of (rows t) ≡ head_of (rows u) =
          one_head rows t l none ∙ ap (λ x. head_of (rows x)) (sym e) in
          middles (kind_of (rows t)) (slots rows t) c d t u l m e hc
          (subst (λ o. MiddleIf rows A o (slots rows t) d u m) (sym (same_kinds (rows t) (rows u) head))
          (subst (λ n. MiddleIf rows A (kind_of (rows u)) n d u m) (sym (same_widths (rows t) (rows u) head)) hd))

      -- ---- finals

      -- Id and middles are those that agree where there is no clash
      fail_after : (o : Option Kind) (n : ℕ) (c : Coercion) (t : ℕ) (l : Steps) (q : ℕ) → MiddleIf rows A o n c t l →
          after_inner next c (Fail q) ≡ Fail q
      fail_after None n c t l q h = ap (λ x. after_inner next x (Fail q)) h
      fail_after (Some kind) n c t l q h = go h.2
        where
          go : IsMiddle kind h.0 c → after_inner next c (Fail q) ≡ Fail q
          go (inl e) = ap (λ x. after_inner next x (Fail q)) e
          go (inr e) = ap (λ x. after_inner next x (Fail q)) e.0

      inject_after : (o : Option Kind) (n : ℕ) (c : Coercion) (t : ℕ) (l : Steps) (g : Coercion) (kept : ℕ) →
          MiddleIf rows A o n c t l
          → after_inner next c (Inject g kept) ≡ Inject (after_inner next c g) kept
      inject_after None n c t l g kept h =
          ap (λ x. after_inner next x (Inject g kept)) h ∙ ap (λ x. Inject (after_inner next x g) kept) (sym h)
      inject_after (Some kind) n c t l g kept h = go h.2
        where
          go : IsMiddle kind h.0 c → after_inner next c (Inject g kept) ≡ Inject (after_inner next c g) kept
          go (inl e) =
              ap (λ x. after_inner next x (Inject g kept)) e ∙ ap (λ x. Inject (after_inner next x g) kept) (sym e)
          go (inr e) =
              ap (λ x. after_inner next x (Inject g kept)) e.0 ∙ ap (λ x. Inject (after_inner next x g) kept) (sym e.0)

      -- a path without clash and without Dyn at its end, and one that goes on from there
      plain_then : (o : Option ℕ) (to_dyn : Bool) (c d : Coercion) (t u : ℕ) (l m : Steps) → u ≡ last_type t l →
          first_clash rows t l ≡ None
          → MiddleAgrees rows A c t l → FinalIf rows A o to_dyn d u m →
          FinalIf rows A o to_dyn (after_inner next c d) t (joined l m)
      plain_then (Some q) to_dyn c d t u l m e none hc hd =
          ap (after_inner next c) hd ∙ fail_after (kind_of (rows t)) (slots rows t) c t l q hc
      plain_then None true c d t u l m e none hc hd = (
        after_inner next c hd.0,
        ap (after_inner next c) hd.1 ∙ inject_after (kind_of (rows t)) (slots rows t) c t l hd.0 (last_type u m) hc ∙
            ap (Inject (after_inner next c hd.0)) (ap (λ x. last_type x m) e ∙ sym (last-joined t l m)),
        middles_join c hd.0 t u l m e none hc hd.2,
      )
      plain_then None false c d t u l m e none hc hd = middles_join c d t u l m e none hc hd

      flat_then : (o : Option ℕ) (to_dyn : Bool) (c d : Coercion) (t u : ℕ) (l m : Steps) → u ≡ last_type t l →
          first_clash rows t l ≡ o
          → FinalIf rows A o false c t l → FinalAgrees rows A to_dyn d u m →
          FinalAgrees rows A to_dyn (after_inner next c d) t (joined l m)
      flat_then (Some p) to_dyn c d t u l m e clash hc hd =
          subst (λ x. FinalIf rows A x to_dyn (after_inner next c d) t (joined l m))
          (sym (clash-some rows t l m p clash)) (ap (λ x. after_inner next x d) hc)
      flat_then None to_dyn c d t u l m e clash hc hd =
          subst (λ x. FinalIf rows A x to_dyn (after_inner next c d) t (joined l m))
          (sym (clash-none rows t l m clash ∙ ap (λ x. first_clash rows x m) (sym e)))
          (plain_then (first_clash rows u m) to_dyn c d t u l m e clash hc hd)

      module _ (coerce : ℕ → ℕ → ℕ → Coercion) (cast : (s t p : ℕ) →
          FinalAgrees rows A false (coerce s t p) s (Edge p t Stop)) where
        -- a middle is followed as what is flat
        middle_follow : (o : Option Kind) (n : ℕ) (c d : Coercion) (t : ℕ) (l : Steps) → MiddleIf rows A o n c t l →
            after_inner next c d ≡ follow next coerce c d
        middle_follow None n c d t l h = ap (λ x. after_inner next x d) h ∙ ap (λ x. follow next coerce x d) (sym h)
        middle_follow (Some kind) n c d t l h = go h.2
          where
            go : IsMiddle kind h.0 c → after_inner next c d ≡ follow next coerce c d
            go (inl e) = ap (λ x. after_inner next x d) e ∙ ap (λ x. follow next coerce x d) (sym e)
            go (inr e) = ap (λ x. after_inner next x d) e.0 ∙ ap (λ x. follow next coerce x d) (sym e.0)

        -- a path that comes from Dyn behind one that ends there
        from_dyn : (b : Bool) (g d : Coercion) (t u v : ℕ) (l m : Steps) → first_clash rows t l ≡ None →
            (b ≡ false → Reaches true m u v)
            → MiddleAgrees rows A g t l → WholeIf rows A true b d u m →
            FinalAgrees rows A b (follow next coerce (Inject g (last_type t l)) d) t (joined l m)
        from_dyn true g d t u v l Stop none reached hg hd =
            subst (λ x. FinalAgrees rows A true (follow next coerce (Inject g (last_type t l)) x) t (joined l Stop))
            (sym hd)
            (subst (λ s. FinalAgrees rows A true (Inject g (last_type t l)) t s) (sym (joined-Stop l))
            (subst (λ o. FinalIf rows A o true (Inject g (last_type t l)) t l) (sym none) (g, refl, hg)))
        from_dyn false g d t u v l Stop none reached hg hd = absurd (reached refl)
        from_dyn b g d t u v l (Edge q w m) none reached hg hd =
            subst (λ x. FinalAgrees rows A b (follow next coerce (Inject g (last_type t l)) x) t
            (joined l (Edge q w m))) (sym hd.1)
            (flat_then None b g (after_inner next (coerce (last_type t l) w q) hd.0) t (last_type t l) l
            (Edge q w m) refl none hg
            (flat_then (first_clash rows (last_type t l) (Edge q w Stop)) b (coerce (last_type t l) w q) hd.0
            (last_type t l) w (Edge q w Stop) m refl refl (cast (last_type t l) w q) hd.2))

        final_then : (o : Option ℕ) (b1 b2 : Bool) (c d : Coercion) (t u v : ℕ) (l m : Steps) → first_clash rows t l ≡ o
            → (b1 ≡ false → last_type t l ≡ u) → (b2 ≡ false → Reaches b1 m u v)
            → FinalIf rows A o b1 c t l → WholeIf rows A b1 b2 d u m →
            FinalAgrees rows A b2 (follow next coerce c d) t (joined l m)
        final_then (Some p) b1 b2 c d t u v l m clash r1 r2 hc hd =
            subst (λ x. FinalIf rows A x b2 (follow next coerce c d) t (joined l m))
            (sym (clash-some rows t l m p clash)) (ap (λ x. follow next coerce x d) hc)
        final_then None false b2 c d t u v l m clash r1 r2 hc hd =
            subst (λ x. FinalAgrees rows A b2 x t (joined l m))
            (middle_follow (kind_of (rows t)) (slots rows t) c d t l hc)
            (flat_then None b2 c d t u l m (sym (r1 refl)) clash hc hd)
        final_then None true b2 c d t u v l m clash r1 r2 hc hd =
            subst (λ x. FinalAgrees rows A b2 (follow next coerce x d) t (joined l m)) (sym hc.1)
            (from_dyn b2 hc.0 d t u v l m clash r2 hc.2 hd)

        -- ---- whole coercions

        final_middle : (o : Option Kind) (n : ℕ) (c : Coercion) (t : ℕ) (l : Steps) → MiddleIf rows A o n c t l →
            final c ≡ c
        final_middle None n c t l h = ap final h ∙ sym h
        final_middle (Some kind) n c t l h = go h.2
          where
            go : IsMiddle kind h.0 c → final c ≡ c
            go (inl e) = ap final e ∙ sym e
            go (inr e) = ap final e.0 ∙ sym e.0

        final_stays : (o : Option ℕ) (b : Bool) (c : Coercion) (t : ℕ) (l : Steps) → FinalIf rows A o b c t l →
            final c ≡ c
        final_stays (Some p) b c t l h = ap final h ∙ sym h
        final_stays None true c t l h = ap final h.1 ∙ sym h.1
        final_stays None false c t l h = final_middle (kind_of (rows t)) (slots rows t) c t l h

        whole_then : (b0 b1 b2 : Bool) (c d : Coercion) (t u v : ℕ) (l m : Steps)
            → (b1 ≡ false → Reaches b0 l t u) → (b2 ≡ false → Reaches b1 m u v)
            → WholeIf rows A b0 b1 c t l → WholeIf rows A b1 b2 d u m →
            WholeIf rows A b0 b2 (follow next coerce c d) t (joined l m)
        whole_then true true b2 c d t u v Stop Stop r1 r2 hc hd = ap (λ x. follow next coerce x d) hc ∙ hd
        whole_then true true b2 c d t u v Stop (Edge q w m) r1 r2 hc hd =
            (hd.0, ap (λ x. follow next coerce x d) hc ∙ hd.1, hd.2)
        whole_then true false b2 c d t u v Stop m r1 r2 hc hd = absurd (r1 refl)
        whole_then true b1 b2 c d t u v (Edge p w l) m r1 r2 hc hd =
            let rest : FinalAgrees rows A b2 (follow next coerce hc.0 d) w (joined l m) =
            final_then (first_clash rows w l) b1 b2 hc.0 d w u v l m refl r1 r2 hc.2 hd in (
              follow next coerce hc.0 d,
              ap (λ x. follow next coerce x d) hc.1 ∙ ap (Project w p) (final_stays (first_clash rows w (joined l m)) b2
                  (follow next coerce hc.0 d) w (joined l m) rest),
              rest,
            )
        whole_then false b1 b2 c d t u v l m r1 r2 hc hd =
            final_then (first_clash rows t l) b1 b2 c d t u v l m refl r1 r2 hc hd

        pub follow_agrees : (c d : Coercion) (t u : ℕ) (l m : Steps) → u ≡ last_type t l
            → WholeAgrees rows A c t l → WholeAgrees rows A d u m →
            WholeAgrees rows A (follow next coerce c d) t (joined l m)
        follow_agrees c d t u l m e hc hd =
            let ends : last_type t (joined l m) ≡ last_type u m = last-joined t l m ∙ ap (λ x. last_type x m) (sym e) in
            subst (λ s. WholeIf rows A (is_dyn (rows t)) (is_dyn (rows (last_type t (joined l m))))
            (follow next coerce c d) t s) (sym (solid-joined rows l m))
            (subst (λ x. WholeIf rows A (is_dyn (rows t)) (is_dyn (rows x)) (follow next coerce c d) t
            (joined (solid rows l) (solid rows m))) (sym ends)
            (whole_then (is_dyn (rows t)) (is_dyn (rows u)) (is_dyn (rows (last_type u m))) c d t u (last_type u m)
            (solid rows l) (solid rows m)
            (λ h. subst (Reaches (is_dyn (rows t)) (solid rows l) t) (sym e) (reaches rows t l (is_dyn (rows t)) refl
            (ap (λ x. is_dyn (rows x)) (sym e) ∙ h)))
            (λ h. reaches rows u m (is_dyn (rows u)) refl h)
            (subst (λ x. WholeIf rows A (is_dyn (rows t)) (is_dyn (rows x)) c t (solid rows l)) (sym e) hc) hd))
