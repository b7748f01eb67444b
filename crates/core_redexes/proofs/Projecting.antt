-- Projections from what is seen through a cast, and from Dyn.
use Rattle.std.proofs.Common.{◌≡◌, ℕ, ℤ, Option, Some, None, ap, ◌∙◌, sym}
use Rattle.std.specs.Prelude.{option_and_then, option_map}
use Rattle.grift_base.specs.World.{WorldState}
use Rattle.grift_base.specs.Types.{TypeRow, TypeRows, dyn_place, row_at, tuple_part}
use Rattle.core_calc.specs.Terms.{Term, Value, WrapValue, InjectValue, Cast, Proj, ProjDyn, ValueTerm, as_value}
use Rattle.core_calc.specs.Outcome.{Store, Outcome, Goes, Blames, if_some, with_some}
use Rattle.core_calc.specs.Calls.{proj_dyn_step, proj_step, proj_to_dyn}
use Rattle.core_calc.proofs.Public.{none_is_not_some}
use Rattle.core_redexes.specs.Moves.{after}
use Rattle.core_redexes.specs.Redexes.{dyn_part_asked, part_asked, proj_dyn_redex, proj_redex}
use Rattle.core_redexes.specs.declared.moves.Moved.TheVariants.{Goes as GoesOn}
use Rattle.core_redexes.specs.Values.{held_of, wrapped_of, wrapper_in}

-- a value whose wrapper says these, with this behind it
pub seen_through : (o : Option Value) (held : Term) (from label to : ℕ) → wrapper_in o ≡ Some (from, label, to) →
    option_map ValueTerm (wrapped_of o) ≡ Some held →
    (v : Value) × (o ≡ Some (WrapValue v from label to)) × (ValueTerm v ≡ held)
seen_through (Some (WrapValue v f l t)) held from label to e g =
    (v, ap (option_map (λ w. WrapValue v w.0 w.1 w.2)) e, cc)
seen_through other held from label to e g = absurd (none_is_not_some (from, label, to) e)

-- what takes a part of both rows goes on with these parts
both_parts : (part : TypeRow → Option ℕ) (o p : Option TypeRow) (go : ℕ → ℕ → Outcome Term) (inner outer : ℕ) →
    option_and_then part o ≡ Some inner → option_and_then part p ≡ Some outer →
    with_some o (λ row. with_some p (λ other. with_some (part row) (λ inner. with_some (part other) (go inner))))
    ≡ go inner outer
both_parts part (Some row) (Some other) go inner outer e f =
    ap (λ x. with_some x (λ inner. with_some (part other) (go inner))) e ∙ ap (λ x. with_some x (go inner)) f
both_parts part None p go inner outer e f = absurd (none_is_not_some inner e)
both_parts part (Some row) None go inner outer e f = absurd (none_is_not_some outer f)

-- a row's part, or else another outcome
one_part : (part : TypeRow → Option ℕ) (o : Option TypeRow) (go : ℕ → Outcome Term) (other : Outcome Term) (inner : ℕ) →
    option_and_then part o ≡ Some inner → with_some o (λ row. if_some (part row) go other) ≡ go inner
one_part part (Some row) go other inner e = ap (λ x. if_some x go other) e
one_part part None go other inner e = absurd (none_is_not_some inner e)

-- what a projection is of, seen twice
pub same_projected : (whole a b : Term) (k l : ℤ) → whole ≡ Proj a k → whole ≡ Proj b l → a ≡ b
same_projected whole a b k l e f = let same = sym e ∙ f in cc

pub same_projected_dyn : (whole a b : Term) (k l : ℤ) (m n : ℕ) → whole ≡ ProjDyn a k m → whole ≡ ProjDyn b l n →
    a ≡ b
same_projected_dyn whole a b k l m n e f = let same = sym e ∙ f in cc

module _ (types : TypeRows) (store : Store) (world : WorldState) where
  -- a projection of what is seen through a cast goes on with the part of what is in the cast
  pub projected_becomes : (whole term held next : Term) (k asked : ℤ) (from label to inner outer : ℕ) →
      whole ≡ Proj term k → part_asked whole ≡ Some asked →
      wrapper_in (as_value term) ≡ Some (from, label, to) →
      option_map ValueTerm (wrapped_of (as_value term)) ≡ Some held →
      option_and_then (λ row. tuple_part row asked) (row_at types from) ≡ Some inner →
      option_and_then (λ row. tuple_part row asked) (row_at types to) ≡ Some outer → next ≡ Proj held k →
      after (proj_redex types store world whole) whole store world
      ≡ record { moved = GoesOn; item = Cast next inner outer label; store = store; world = world }
  projected_becomes whole term held next k asked from label to inner outer e a f g h i n =
      let seen = seen_through (as_value term) held from label to f g in
      let same = asked_is in
      ap (λ x. after (proj_redex types store world x) x store world) e
      ∙ ap (λ o. after (with_some o (λ v. proj_step types store world v k)) (Proj term k) store world) seen.1
      ∙ ap (λ k. after (proj_step types store world (WrapValue seen.0 from label to) k) (Proj term k) store world) same
      ∙ ap (λ o. after o (Proj term asked) store world)
      (both_parts (λ row. tuple_part row asked) (row_at types from) (row_at types to)
      (λ inner outer. Goes (Cast (Proj (ValueTerm seen.0) asked) inner outer label) store world) inner outer h i)
      ∙ ap (λ x. after {A = Term} (Goes (Cast x inner outer label) store world) (Proj term asked) store world)
      (ap (Proj (ValueTerm seen.0)) (sym same) ∙ ap (λ v. Proj v k) seen.2 ∙ sym n)
    where
      asked_is : k ≡ asked
      asked_is = let is = ap part_asked (sym e) ∙ a in cc

  -- a projection of what Dyn holds goes on with its part, cast to Dyn
  pub projected_dyn_becomes : (whole term : Term) (v : Value) (k asked : ℤ) (l label kept part dyn : ℕ) →
      whole ≡ ProjDyn term k l → dyn_part_asked whole ≡ Some (asked, label) →
      option_map (λ (h : Value × ℕ). h.0) (held_of (as_value term)) ≡ Some v →
      option_map (λ (h : Value × ℕ). h.1) (held_of (as_value term)) ≡ Some kept →
      option_and_then (λ row. tuple_part row asked) (row_at types kept) ≡ Some part → dyn_place types ≡ Some dyn →
      after (proj_dyn_redex types store world whole) whole store world
      ≡ record { moved = GoesOn; item = Cast (Proj (ValueTerm v) asked) part dyn label; store = store; world = world }
  projected_dyn_becomes whole term v k asked l label kept part dyn e a f g h d =
      ap (λ x. after (proj_dyn_redex types store world x) x store world) e
      ∙ ap (λ o. after (with_some o (λ v. proj_dyn_step types store world v k l)) (ProjDyn term k l) store world)
      (injected (as_value term) f g)
      ∙ ap (λ o. after (with_some o (λ x. proj_dyn_step types store world (InjectValue v kept) x.0 x.1))
      (ProjDyn term k l) store world) (ap dyn_part_asked (sym e) ∙ a)
      ∙ ap (λ o. after o (ProjDyn term k l) store world)
      (one_part (λ row. tuple_part row asked) (row_at types kept)
      (λ part. proj_to_dyn types store world v asked part label) (Blames label) part h
      ∙ ap (λ o. with_some o (λ dyn. Goes (Cast (Proj (ValueTerm v) asked) part dyn label) store world)) d)
    where
      injected : (o : Option Value) → option_map (λ (h : Value × ℕ). h.0) (held_of o) ≡ Some v →
          option_map (λ (h : Value × ℕ). h.1) (held_of o) ≡ Some kept → o ≡ Some (InjectValue v kept)
      injected (Some (InjectValue w t)) f g = cc
      injected other f g = absurd (none_is_not_some v f)
