-- The cases of "stands for", one by one, as they are said: what a coercion is that agrees with a path to a depth above
-- 0.
use Rattle.std.proofs.Common.{◌≡◌, ◌↔◌, ℕ, suc, Bool, true, false, Some, None, refl, sym, ap, ◌∙◌, subst}
use Rattle.std.proofs.Math.Path.{fun_ext}
use Rattle.grift_base.specs.Types.{TypeRow, is_dyn}
use Rattle.coercion_norm.specs.Coercions.{Kind, Coercion, Coercions, Id, Fail, Inject, Project, kind_of, slots}
use Rattle.coercion_norm.specs.Paths.{Steps, Stop, Edge, last_type, solid, first_clash}
use Rattle.coercion_norm.specs.StandsFor.{IsMiddle, PartsAgree, MiddleIf, FinalIf, WholeIf, AgreesTo}

both_ways : {A B : Type 0} → (A ≡ B) → A ↔ B
both_ways e = (subst (λ X. X) e, subst (λ X. X) (sym e))

module _ (rows : ℕ → TypeRow) (k : ℕ) (c : Coercion) (t : ℕ) (l : Steps) where
  -- what is asked, where it is known whether the ends are Dyn and which types are left
  as_known : (b0 b1 : Bool) (s : Steps) → is_dyn (rows t) ≡ b0 → is_dyn (rows (last_type t l)) ≡ b1 → solid rows l ≡ s
      → AgreesTo rows (suc k) c t l ≡ WholeIf rows (AgreesTo rows k) b0 b1 c t s
  as_known b0 b1 s e0 e1 es =
      ap (λ b. WholeIf rows (AgreesTo rows k) b (is_dyn (rows (last_type t l))) c t (solid rows l)) e0
      ∙ ap (λ b. WholeIf rows (AgreesTo rows k) b0 b c t (solid rows l)) e1
      ∙ ap (WholeIf rows (AgreesTo rows k) b0 b1 c t) es

  -- 1. only Dyn
  pub only_dyn : is_dyn (rows t) ≡ true → solid rows l ≡ Stop → AgreesTo rows (suc k) c t l ↔ (c ≡ Id)
  only_dyn e es = both_ways (as_known true (is_dyn (rows (last_type t l))) Stop e refl es)

  -- 3. the first clash
  pub clash : (p : ℕ) → is_dyn (rows t) ≡ false → first_clash rows t (solid rows l) ≡ Some p →
      AgreesTo rows (suc k) c t l ↔ (c ≡ Fail p)
  clash p e ec =
      both_ways (as_known false (is_dyn (rows (last_type t l))) (solid rows l) e refl refl
      ∙ ap (λ o. FinalIf rows (AgreesTo rows k) o (is_dyn (rows (last_type t l))) c t (solid rows l)) ec)

  -- 5. base types
  pub base : is_dyn (rows t) ≡ false → is_dyn (rows (last_type t l)) ≡ false →
      first_clash rows t (solid rows l) ≡ None → kind_of (rows t) ≡ None
      → AgreesTo rows (suc k) c t l ↔ (c ≡ Id)
  base e0 e1 ec ek =
      both_ways (as_known false false (solid rows l) e0 e1 refl
      ∙ ap (λ o. FinalIf rows (AgreesTo rows k) o false c t (solid rows l)) ec
      ∙ ap (λ o. MiddleIf rows (AgreesTo rows k) o (slots rows t) c t (solid rows l)) ek)

  -- 6. a middle of parts that agree one depth less, or Id where these are all Id
  pub middle_case : (kind : Kind) → is_dyn (rows t) ≡ false → is_dyn (rows (last_type t l)) ≡ false →
      first_clash rows t (solid rows l) ≡ None → kind_of (rows t) ≡ Some kind
      → AgreesTo rows (suc k) c t l ↔ ((parts : Coercions) ×
      PartsAgree rows (AgreesTo rows k) kind parts (slots rows t) 0 t (solid rows l) × IsMiddle kind parts c)
  middle_case kind e0 e1 ec ek =
      both_ways (as_known false false (solid rows l) e0 e1 refl
      ∙ ap (λ o. FinalIf rows (AgreesTo rows k) o false c t (solid rows l)) ec
      ∙ ap (λ o. MiddleIf rows (AgreesTo rows k) o (slots rows t) c t (solid rows l)) ek)

-- 2. first Dyn: a Project, and what agrees to the same depth with the path from the next type on
pub first_dyn : (rows : ℕ → TypeRow) (k : ℕ) (c : Coercion) (t : ℕ) (l : Steps) (p u : ℕ) (m : Steps) →
    is_dyn (rows t) ≡ true → is_dyn (rows u) ≡ false
    → solid rows l ≡ Edge p u (solid rows m) → is_dyn (rows (last_type t l)) ≡ is_dyn (rows (last_type u m))
    → AgreesTo rows (suc k) c t l ↔ ((i : Coercion) × (c ≡ Project u p i) × AgreesTo rows (suc k) i u m)
first_dyn rows k c t l p u m e0 eu es el =
    both_ways (as_known rows k c t l true (is_dyn (rows (last_type u m))) (Edge p u (solid rows m)) e0 el es
    ∙ ap (λ b. (i : Coercion) × (c ≡ Project u p i) ×
    WholeIf rows (AgreesTo rows k) b (is_dyn (rows (last_type u m))) i u (solid rows m)) (sym eu))

-- 4. last Dyn: an Inject of the type before it, behind what agrees to the same depth with the path up to that type
pub last_dyn : (rows : ℕ → TypeRow) (k : ℕ) (c : Coercion) (t : ℕ) (l m : Steps) → is_dyn (rows t) ≡ false →
    is_dyn (rows (last_type t l)) ≡ true → first_clash rows t (solid rows l) ≡ None
    → solid rows m ≡ solid rows l → is_dyn (rows (last_type t m)) ≡ false
    → AgreesTo rows (suc k) c t l ↔ ((g : Coercion) × (c ≡ Inject g (last_type t (solid rows l))) ×
    AgreesTo rows (suc k) g t m)
last_dyn rows k c t l m e0 e1 ec es em =
    both_ways (as_known rows k c t l false true (solid rows l) e0 e1 refl
    ∙ ap (λ o. FinalIf rows (AgreesTo rows k) o true c t (solid rows l)) ec
    ∙ ap (λ o. (g : Coercion) × (c ≡ Inject g (last_type t (solid rows l))) ×
    FinalIf rows (AgreesTo rows k) o false g t (solid rows l)) (sym ec)
    ∙ ap (λ P. (g : Coercion) × (c ≡ Inject g (last_type t (solid rows l))) × P g)
    (fun_ext (λ g. sym (as_known rows k g t m false false (solid rows l) e0 em es))))
