-- Composition over the types of a table, case by case.
use Rattle.std.proofs.Common.{◌≡◌, ℕ, true, false, cond, refl, sym, ap, ◌∙◌}
use Rattle.grift_base.specs.Types.{TypeRows, is_dyn}
use Rattle.type_graph.specs.TypeTables.{IsOrderedTable}
use Rattle.coercion_norm.specs.declared.middles.MiddleKind.{MiddleKind as Kind}
use Rattle.coercion_norm.specs.Coercions.{Coercion, Coercions, Id, Fail, Middle, Inject, Project, rows_of}
use Rattle.coercion_norm.specs.Coercions.{same_kind}
use Rattle.coercion_norm.specs.Composition.{after_inject, after_inner, coerce_solid, final, follow, follow_parts}
use Rattle.coercion_norm.specs.Composition.{middle}
use Rattle.coercion_norm.specs.CoercionTables.{cast_of, composition_of}
use Rattle.coercion_norm.specs.Normal.{is_flat}
use Rattle.coercion_norm.proofs.Public.{cast_solid, composition_by_table, is_inner, solid_is_inner}

flat_is_inner : (c : Coercion) → is_flat c ≡ true → is_inner c ≡ true
flat_is_inner Id e = refl
flat_is_inner (Fail label) e = refl
flat_is_inner (Middle kind parts) e = refl
flat_is_inner (Inject g kept) e = absurd (cc e)
flat_is_inner (Project wanted label i) e = absurd (cc e)

-- what follows Id, a fail or a middle is what follows it in any case
inner_follow : (next : Coercion → Coercion → Coercion) (coerce : ℕ → ℕ → ℕ → Coercion) (c d : Coercion)
    → is_inner c ≡ true → after_inner next c d ≡ follow next coerce c d
inner_follow next coerce Id d e = refl
inner_follow next coerce (Fail label) d e = refl
inner_follow next coerce (Middle kind parts) d e = refl
inner_follow next coerce (Inject g kept) d e = absurd (cc e)
inner_follow next coerce (Project wanted label i) d e = absurd (cc e)

module _ (types : TypeRows) (table : IsOrderedTable types) where
  abbrev next : Coercion → Coercion → Coercion
  next = composition_of types

  abbrev casts : ℕ → ℕ → ℕ → Coercion
  casts = coerce_solid (rows_of types) (cast_of types)

  by_table : (c d : Coercion) → composition_of types c d ≡ follow next casts c d
  by_table = composition_by_table types table

  inner : (c d : Coercion) → is_inner c ≡ true → after_inner next c d ≡ composition_of types c d
  inner c d e = inner_follow next casts c d e ∙ sym (by_table c d)

  pub id_then : (c d : Coercion) → c ≡ Id → composition_of types c d ≡ d
  id_then c d e = by_table c d ∙ ap (λ x. follow next casts x d) e

  pub fail_then : (c d : Coercion) (label : ℕ) → c ≡ Fail label → composition_of types c d ≡ c
  fail_then c d label e = by_table c d ∙ ap (λ x. follow next casts x d) e ∙ sym e

  pub project_then : (c d i : Coercion) (wanted label : ℕ) → c ≡ Project wanted label i
      → composition_of types c d ≡ Project wanted label (final (composition_of types i d))
  project_then c d i wanted label e =
      by_table c d ∙ ap (λ x. follow next casts x d) e
      ∙ ap (λ x. Project wanted label (final x)) (sym (by_table i d))

  module _ (c d g : Coercion) (kept : ℕ) (c_is : c ≡ Inject g kept) where
    first_is : composition_of types c d ≡ after_inject next casts g kept d
    first_is = by_table c d ∙ ap (λ x. follow next casts x d) c_is

    pub inject_then_id : d ≡ Id → composition_of types c d ≡ c
    inject_then_id e = first_is ∙ ap (after_inject next casts g kept) e ∙ sym c_is

    pub inject_then_fail : (label : ℕ) → d ≡ Fail label → composition_of types c d ≡ d
    inject_then_fail label e = first_is ∙ ap (after_inject next casts g kept) e ∙ sym e

    pub inject_then_middle : (kind : Kind) (parts : Coercions) → d ≡ Middle kind parts → composition_of types c d ≡ Id
    inject_then_middle kind parts e = first_is ∙ ap (after_inject next casts g kept) e

    pub inject_then_inject : (h : Coercion) (other : ℕ) → d ≡ Inject h other → composition_of types c d ≡ Id
    inject_then_inject h other e = first_is ∙ ap (after_inject next casts g kept) e

    pub inject_then_project : (wanted label : ℕ) (i : Coercion) → is_flat g ≡ true
        → is_dyn (rows_of types kept) ≡ false → is_dyn (rows_of types wanted) ≡ false → d ≡ Project wanted label i
        → composition_of types c d
        ≡ composition_of types g (composition_of types (cast_of types kept wanted label) i)
    inject_then_project wanted label i flat kept_solid wanted_solid e =
        first_is ∙ ap (after_inject next casts g kept) e
        ∙ inner g (after_inner next (casts kept wanted label) i) (flat_is_inner g flat)
        ∙ ap (composition_of types g)
        (inner (casts kept wanted label) i (solid_is_inner (rows_of types) (cast_of types) kept wanted label)
        ∙ ap (λ x. composition_of types x i)
        (sym (cast_solid types table kept wanted label kept_solid wanted_solid)))

  module _ (c d : Coercion) (kind : Kind) (parts : Coercions) (c_is : c ≡ Middle kind parts) where
    pub middle_then_id : d ≡ Id → composition_of types c d ≡ c
    middle_then_id e =
        by_table c d ∙ ap (λ x. follow next casts x d) c_is ∙ ap (follow next casts (Middle kind parts)) e ∙ sym c_is

    pub middle_then_fail : (label : ℕ) → d ≡ Fail label → composition_of types c d ≡ d
    middle_then_fail label e =
        by_table c d ∙ ap (λ x. follow next casts x d) c_is ∙ ap (follow next casts (Middle kind parts)) e ∙ sym e

    pub middle_then_project : (wanted label : ℕ) (i : Coercion) → d ≡ Project wanted label i
        → composition_of types c d ≡ Id
    middle_then_project wanted label i e =
        by_table c d ∙ ap (λ x. follow next casts x d) c_is ∙ ap (follow next casts (Middle kind parts)) e

    pub middle_then_inject : (g : Coercion) (kept : ℕ) → d ≡ Inject g kept
        → composition_of types c d ≡ Inject (composition_of types c g) kept
    middle_then_inject g kept e =
        by_table c d ∙ ap (λ x. follow next casts x d) c_is ∙ ap (follow next casts (Middle kind parts)) e
        ∙ ap (λ x. Inject x kept) (sym (by_table c g ∙ ap (λ x. follow next casts x g) c_is))

    pub middle_then_other : (other : Kind) (others : Coercions) → d ≡ Middle other others
        → same_kind kind other ≡ false → composition_of types c d ≡ Id
    middle_then_other other others e apart =
        by_table c d ∙ ap (λ x. follow next casts x d) c_is ∙ ap (follow next casts (Middle kind parts)) e
        ∙ ap (λ b. cond b (middle kind (follow_parts next kind parts others)) Id) apart

    pub middle_then_middle : (other : Kind) (others : Coercions) → d ≡ Middle other others
        → same_kind kind other ≡ true
        → composition_of types c d ≡ middle kind (follow_parts (composition_of types) kind parts others)
    middle_then_middle other others e same =
        by_table c d ∙ ap (λ x. follow next casts x d) c_is ∙ ap (follow next casts (Middle kind parts)) e
        ∙ ap (λ b. cond b (middle kind (follow_parts next kind parts others)) Id) same
