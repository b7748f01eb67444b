-- What a cast comes to, case by case, over coercions that are no higher than a number.
use Rattle.std.proofs.Common.{ℕ}
use Rattle.grift_base.specs.Types.{TypeRow}
use Rattle.coercion_norm.specs.declared.middles.MiddleKind.{MiddleKind as Kind}
use Rattle.coercion_norm.specs.Coercions.{Coercion, Coercions, Id, Fail, Middle, Inject, Project}
use Rattle.coercion_norm.specs.Composition.{coerce_to, compose_to}
use Rattle.rt_cast.specs.MergedValues.{Merged, Base, Solid, Proxied, InDyn, Outcome, Stuck, Gives, Blames, then_outcome}

-- a proxy with a coercion that was composed
abbrev pub rewrap : {A : Type 0} → A → Coercion → Outcome A
rewrap a Id = Gives (Solid a)
rewrap a (Fail label) = Stuck
rewrap a (Middle kind parts) = Gives (Proxied a (Middle kind parts))
rewrap a (Inject g kept) = Stuck
rewrap a (Project wanted label i) = Stuck

module _ (rows : ℕ → TypeRow) (n : ℕ) where
  abbrev pub wrap : {A : Type 0} → Kind → Coercions → Merged A → Outcome A
  wrap kind parts (Base head w) = Stuck
  wrap kind parts (Solid a) = Gives (Proxied a (Middle kind parts))
  wrap kind parts (Proxied a d) = rewrap a (compose_to rows n d (Middle kind parts))
  wrap kind parts (InDyn kept u) = Stuck

  -- by Id, a Fail or a middle
  abbrev pub apply_plain : {A : Type 0} → Coercion → Merged A → Outcome A
  apply_plain Id u = Gives u
  apply_plain (Fail label) u = Blames label
  apply_plain (Middle kind parts) u = wrap kind parts u
  apply_plain (Inject g kept) u = Stuck
  apply_plain (Project wanted label i) u = Stuck

  -- by these or an Inject
  abbrev pub apply_final : {A : Type 0} → Coercion → Merged A → Outcome A
  apply_final Id u = Gives u
  apply_final (Fail label) u = Blames label
  apply_final (Middle kind parts) u = wrap kind parts u
  apply_final (Inject g kept) u = then_outcome (apply_plain g u) (λ y. Gives (InDyn kept y))
  apply_final (Project wanted label i) u = Stuck

  abbrev pub open_dyn : {A : Type 0} → ℕ → ℕ → Coercion → Merged A → Outcome A
  open_dyn wanted label i (Base head w) = Stuck
  open_dyn wanted label i (Solid a) = Stuck
  open_dyn wanted label i (Proxied a d) = Stuck
  open_dyn wanted label i (InDyn kept u) = apply_final (compose_to rows n (coerce_to rows n kept wanted label) i) u

  abbrev pub apply : {A : Type 0} → Coercion → Merged A → Outcome A
  apply Id u = Gives u
  apply (Fail label) u = Blames label
  apply (Middle kind parts) u = wrap kind parts u
  apply (Inject g kept) u = then_outcome (apply_plain g u) (λ y. Gives (InDyn kept y))
  apply (Project wanted label i) u = open_dyn wanted label i u
