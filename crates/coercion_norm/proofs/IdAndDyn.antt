-- Composition with Id, and paths with a Dyn inside.
use Rattle.std.proofs.Common.{◌≡◌, ℕ, zero, suc, true, false, refl, sym, ap, ◌∙◌, subst}
use Rattle.std.specs.Prelude.{◌↔◌}
use Rattle.grift_base.specs.Types.{TypeRow, is_dyn}
use Rattle.coercion_norm.specs.Coercions.{Coercion, Id, Fail, Middle, Inject, Project}
use Rattle.coercion_norm.specs.Composition.{compose_to, final, follow}
use Rattle.coercion_norm.specs.Normal.{IsNormal, is_project}
use Rattle.coercion_norm.specs.Paths.{Steps, Edge, in_front, joined, last_type, solid}
use Rattle.coercion_norm.specs.StandsFor.{AgreesTo, WholeIf}
use Rattle.coercion_norm.proofs.PathLemmas.{last-joined, solid-joined}

module _ (next : Coercion → Coercion → Coercion) (coerce : ℕ → ℕ → ℕ → Coercion) where
  final_then_id : (i : Coercion) → is_project i ≡ false → final (follow next coerce i Id) ≡ i
  final_then_id Id e = refl
  final_then_id (Fail label) e = refl
  final_then_id (Middle kind parts) e = refl
  final_then_id (Inject g kept) e = refl
  final_then_id (Project wanted label i) e = absurd (cc e)

pub id_behind : (rows : ℕ → TypeRow) (made : ℕ) (c : Coercion) → IsNormal rows c → compose_to rows made c Id ≡ c
id_behind rows made Id normal = refl
id_behind rows made (Fail label) normal = refl
id_behind rows made (Middle kind parts) normal = refl
id_behind rows made (Inject g kept) normal = refl
id_behind rows made (Project wanted label i) normal = ap (Project wanted label) (final_then_id _ _ i normal.1)

module _ (rows : ℕ → TypeRow) (t p d q u : ℕ) (l m : Steps) (dyn : is_dyn (rows d) ≡ true) where
  same_solid_steps : solid rows (joined l (Edge p d (Edge q u m))) ≡ solid rows (joined l (Edge q u m))
  same_solid_steps =
      solid-joined rows l (Edge p d (Edge q u m))
      ∙ ap (λ b. joined (solid rows l) (in_front b p d (solid rows (Edge q u m)))) dyn
      ∙ sym (solid-joined rows l (Edge q u m))

  same_last : last_type t (joined l (Edge p d (Edge q u m))) ≡ last_type t (joined l (Edge q u m))
  same_last = last-joined t l (Edge p d (Edge q u m)) ∙ sym (last-joined t l (Edge q u m))

  pub a_dyn_inside : (depth : ℕ) (c : Coercion) → AgreesTo rows depth c t (joined l (Edge p d (Edge q u m)))
      ↔ AgreesTo rows depth c t (joined l (Edge q u m))
  a_dyn_inside zero c = (λ h. tt, λ h. tt)
  a_dyn_inside (suc depth) c = (
    λ h. subst (λ steps. WholeIf rows (AgreesTo rows depth) (is_dyn (rows t))
        (is_dyn (rows (last_type t (joined l (Edge q u m))))) c t steps) same_solid_steps
        (subst (λ type. WholeIf rows (AgreesTo rows depth) (is_dyn (rows t)) (is_dyn (rows type)) c t
        (solid rows (joined l (Edge p d (Edge q u m))))) same_last h),
    λ h. subst (λ steps. WholeIf rows (AgreesTo rows depth) (is_dyn (rows t))
        (is_dyn (rows (last_type t (joined l (Edge p d (Edge q u m)))))) c t steps) (sym same_solid_steps)
        (subst (λ type. WholeIf rows (AgreesTo rows depth) (is_dyn (rows t)) (is_dyn (rows type)) c t
        (solid rows (joined l (Edge q u m)))) (sym same_last) h),
  )
