-- What stands for a path of one head has parts that stand for the paths of the slots.
use Rattle.std.proofs.Common.{◌≡◌, ℕ, zero, suc, true, false, Some, None, refl, sym, ap, ◌∙◌, subst, inl, inr}
use Rattle.grift_base.specs.Types.{TypeRow, is_dyn}
use Rattle.coercion_norm.specs.Coercions.{Kind, Coercion, Coercions, Id, Fail, Middle, Inject, Project, NoCoercions}
use Rattle.coercion_norm.specs.Coercions.{CoercionThen, is_id, all_id, kind_of, slots}
use Rattle.coercion_norm.specs.Paths.{Steps, last_type, solid, first_clash}
use Rattle.coercion_norm.specs.StandsFor.{IsMiddle, PartsAgree, AgreesTo, StandsFor}
use Rattle.coercion_norm.proofs.OneDepth.{id_is, and_left, and_right}
use Rattle.coercion_norm.proofs.SixCases.{middle_case}

parts_in_middle : Coercion → Coercions
parts_in_middle Id = NoCoercions
parts_in_middle (Fail p) = NoCoercions
parts_in_middle (Middle kind parts) = parts
parts_in_middle (Inject g kept) = NoCoercions
parts_in_middle (Project w p i) = NoCoercions

module _ (rows : ℕ → TypeRow) where
  ids_same : (A B : Coercion → ℕ → Steps → Type 0) (kind : Kind) (ps qs : Coercions) (n j t : ℕ) (l : Steps) →
      PartsAgree rows A kind ps n j t l → PartsAgree rows B kind qs n j t l
      → all_id ps ≡ true → all_id qs ≡ true → ps ≡ qs
  ids_same A B kind NoCoercions NoCoercions n j t l hp hq ep eq = refl
  ids_same A B kind NoCoercions (CoercionThen q qs) zero j t l hp hq ep eq = absurd hq
  ids_same A B kind NoCoercions (CoercionThen q qs) (suc n) j t l hp hq ep eq = absurd hp
  ids_same A B kind (CoercionThen p ps) qs zero j t l hp hq ep eq = absurd hp
  ids_same A B kind (CoercionThen p ps) NoCoercions (suc n) j t l hp hq ep eq = absurd hq
  ids_same A B kind (CoercionThen p ps) (CoercionThen q qs) (suc n) j t l hp hq ep eq =
      ap (λ x. CoercionThen x ps) (id_is p (and_left (is_id p) (all_id ps) ep) ∙
      sym (id_is q (and_left (is_id q) (all_id qs) eq)))
      ∙ ap (CoercionThen q) (ids_same A B kind ps qs n (suc j) t l hp.1 hq.1 (and_right (is_id p) (all_id ps) ep)
      (and_right (is_id q) (all_id qs) eq))

  parts_same : (A B : Coercion → ℕ → Steps → Type 0) (kind : Kind) (ps qs : Coercions) (n j t : ℕ) (l : Steps)
      (c : Coercion) → PartsAgree rows A kind ps n j t l → PartsAgree rows B kind qs n j t l
      → IsMiddle kind ps c → IsMiddle kind qs c → ps ≡ qs
  parts_same A B kind ps qs n j t l c hp hq (inl ep) (inl eq) =
      unfold parts_in_middle in ap parts_in_middle (sym ep ∙ eq)
  parts_same A B kind ps qs n j t l c hp hq (inl ep) (inr eq) = absurd (cc (ep, eq.0))
  parts_same A B kind ps qs n j t l c hp hq (inr ep) (inl eq) = absurd (cc (eq, ep.0))
  parts_same A B kind ps qs n j t l c hp hq (inr ep) (inr eq) = ids_same A B kind ps qs n j t l hp hq ep.1 eq.1

  pub parts_stand : (kind : Kind) (c : Coercion) (t : ℕ) (l : Steps) → is_dyn (rows t) ≡ false →
      is_dyn (rows (last_type t l)) ≡ false → first_clash rows t (solid rows l) ≡ None → kind_of (rows t) ≡ Some kind
      → StandsFor rows c t l → (parts : Coercions) ×
      ((k : ℕ) → PartsAgree rows (AgreesTo rows k) kind parts (slots rows t) 0 t (solid rows l)) ×
      IsMiddle kind parts c
  parts_stand kind c t l e0 e1 ec ek stands =
      let first = (middle_case rows 0 c t l kind e0 e1 ec ek).0 (stands 1) in (
        first.0,
        λ k.
            let at = (middle_case rows k c t l kind e0 e1 ec ek).0 (stands (suc k)) in
            subst (λ ps. PartsAgree rows (AgreesTo rows k) kind ps (slots rows t) 0 t (solid rows l))
            (parts_same (AgreesTo rows k) (AgreesTo rows 0) kind at.0 first.0 (slots rows t) 0 t
            (solid rows l) c at.1 first.1 at.2 first.2) at.1,
        first.2,
      )
