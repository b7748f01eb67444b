-- What project comes to, from a state in which whole objects fill the region.
use Rattle.std.proofs.Common.{◌≡◌, ℕ, ◌+◌, ◌*◌, ◌≤◌, List, [], ◌∷◌, refl, arith}
use Rattle.grift_base.specs.Types.{TypeHead}
use Rattle.run_laws.specs.Runs.{Ending, Exhausted}
use Rattle.machine_words.specs.Halts.{Halt, Lacks, Region}
use Rattle.low_ir.specs.Run.{Setting, LowState}
use Rattle.rt_cast.specs.Costs.{tuple_cost, project_cost}
use Rattle.rt_cast.specs.PartCosts.{tuple_part_words, tuple_part_price, dyn_part_words, dyn_part_price}
use Rattle.coercion_norm.specs.Objects.{Object}
use Rattle.coercion_norm.specs.Held.{Layout}
use Rattle.rt_cast.specs.WholeObjects.{IsSolid}
use Rattle.rt_cast.specs.Procs.{project_proc}
use Rattle.rt_cast.specs.States.{Filled, Fine, Grows, IsReady, around, heap_of}
use Rattle.rt_cast.specs.MergedValues.{Merged, Outcome, Stuck}
use Rattle.rt_cast.specs.PartValues.{part_value, dyn_part_value}
use Rattle.rt_cast.specs.Carried.{CarriedBy, Carries, IsVery, HaveParts, ComesTo, ComesToOutcome}
use Rattle.rt_cast.proofs.Steps.{End}
use Rattle.rt_cast.proofs.Reaching.{at_first, walk}
use Rattle.rt_cast.proofs.CastReaching.{comes_to, very_still}
use Rattle.rt_cast.proofs.ProjectRuns.{tuple_part_done, dyn_part_done}

module _ {V : Type 0} (reading : Halt → Ending V) (setting : Setting) (l : Layout) (first : ℕ) (s : LowState)
    (exhausts : reading (Lacks Region) ≡ Exhausted) (ready : IsReady setting l first) where
  module _ {A : Type 0} (head : A → TypeHead) (IsHeld : List Object → A → ℕ → Type 0)
      (still : (old new : List Object) → Grows old new → (a : A) (w : ℕ) → IsHeld old a w → IsHeld new a w)
      (is_solid : (objects : List Object) (a : A) (w : ℕ) → IsHeld objects a w → IsSolid l objects w)
      (low : l.tallest ≤ 65534) (objects : List Object) (filled : Filled setting l objects (heap_of s))
      (parts : A → List (Merged A)) (have : HaveParts l IsHeld objects parts) where
    fine : Fine setting l (around s) objects (heap_of s)
    fine = at_first reading setting l first s exhausts ready objects filled

    -- over any meaning of what stands under proxies
    pub parts_of_tuples : (u : Merged A) (r : Outcome A) (wv k label : ℕ) → part_value head parts l.types k u ≡ r
        → (r ≡ Stuck → ⊥) → CarriedBy l IsHeld objects u wv
        → ComesToOutcome reading setting l s IsHeld objects (project_proc first) (wv ∷ k ∷ 1 ∷ label ∷ []) r
        (tuple_cost l.width l.tallest) (4 * l.tallest + 6) (tuple_part_words parts l k u)
        (tuple_part_price parts l k u)
    parts_of_tuples u r wv k label e some hv =
        comes_to reading setting l first s exhausts ready head IsHeld still is_solid low objects r some
        (4 * l.tallest + 6) (tuple_part_words parts l k u) r refl
        (λ go. tuple_part_done (walk reading setting l first s exhausts ready (ComesTo l setting s IsHeld objects r)
        (4 * l.tallest + 6) (tuple_part_words parts l k u)) low A IsHeld still is_solid head parts End objects
        (heap_of s) fine have s.waiting u wv k label hv r e some go) (omega arith) (omega arith)

    pub parts_in_dyn : (u : Merged A) (r : Outcome A) (wv k label : ℕ)
        → dyn_part_value head parts l.types k label u ≡ r → (r ≡ Stuck → ⊥) → CarriedBy l IsHeld objects u wv
        → ComesToOutcome reading setting l s IsHeld objects (project_proc first) (wv ∷ k ∷ 0 ∷ label ∷ []) r
        (project_cost l.width l.tallest) (4 * l.tallest + 7) (dyn_part_words parts l k u)
        (dyn_part_price parts l k u)
    parts_in_dyn u r wv k label e some hv =
        comes_to reading setting l first s exhausts ready head IsHeld still is_solid low objects r some
        (4 * l.tallest + 7) (dyn_part_words parts l k u) r refl
        (λ go. dyn_part_done (walk reading setting l first s exhausts ready (ComesTo l setting s IsHeld objects r)
        (4 * l.tallest + 7) (dyn_part_words parts l k u)) low A IsHeld still is_solid head parts End objects
        (heap_of s) fine have s.waiting u wv k label hv r e some go) (omega arith) (omega arith)

  -- over what stands under proxies as it stands
  pub parts_of_tuples_are_answered : l.tallest ≤ 65534 → (objects : List Object)
      → Filled setting l objects (heap_of s) → (head : ℕ → TypeHead) (parts : ℕ → List (Merged ℕ))
      → HaveParts l (IsVery l) objects parts → (u : Merged ℕ) (r : Outcome ℕ) (wv k label : ℕ)
      → part_value head parts l.types k u ≡ r → (r ≡ Stuck → ⊥) → Carries l objects u wv
      → ComesToOutcome reading setting l s (IsVery l) objects (project_proc first) (wv ∷ k ∷ 1 ∷ label ∷ []) r
      (tuple_cost l.width l.tallest) (4 * l.tallest + 6) (tuple_part_words parts l k u)
      (tuple_part_price parts l k u)
  parts_of_tuples_are_answered low objects filled head parts have u r wv k label e some hv =
      parts_of_tuples head (IsVery l)
      (λ old new g a x h. very_still reading setting l first s exhausts ready old new g a x h) (λ os a x h. h.solid)
      low objects filled parts have u r wv k label e some hv

  pub parts_in_dyn_are_answered : l.tallest ≤ 65534 → (objects : List Object)
      → Filled setting l objects (heap_of s) → (head : ℕ → TypeHead) (parts : ℕ → List (Merged ℕ))
      → HaveParts l (IsVery l) objects parts → (u : Merged ℕ) (r : Outcome ℕ) (wv k label : ℕ)
      → dyn_part_value head parts l.types k label u ≡ r → (r ≡ Stuck → ⊥) → Carries l objects u wv
      → ComesToOutcome reading setting l s (IsVery l) objects (project_proc first) (wv ∷ k ∷ 0 ∷ label ∷ []) r
      (project_cost l.width l.tallest) (4 * l.tallest + 7) (dyn_part_words parts l k u)
      (dyn_part_price parts l k u)
  parts_in_dyn_are_answered low objects filled head parts have u r wv k label e some hv =
      parts_in_dyn head (IsVery l)
      (λ old new g a x h. very_still reading setting l first s exhausts ready old new g a x h) (λ os a x h. h.solid)
      low objects filled parts have u r wv k label e some hv
