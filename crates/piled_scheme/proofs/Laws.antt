-- The laws of the meaning: wrappers stay as objects are added, are told from other objects, and are counted.
use Rattle.std.proofs.Common.{◌≡◌, inl, inr, ℕ, suc, ◌+◌, List, [], ◌∷◌, ◌++◌, Some, refl, sym, subst, arith, le_refl}
use Rattle.std.proofs.Common.{append-nil, append_assoc}
use Rattle.cast_modes.specs.Modes.{TypeCast}
use Rattle.coercion_norm.specs.Objects.{Object}
use Rattle.coercion_norm.specs.Held.{Layout, There}
use Rattle.coer_core.specs.Tally.{kind_budget}
use Rattle.lower.specs.Meanings.{MeaningLaws, IsOwn, IsWrapper}
use Rattle.lower.proofs.Public.{there_later}
use Rattle.piled_scheme.specs.Piling.{Pile, IsWrapped, AreStacked, piled_wraps, piled_meaning, wrapper_object}

-- ---- wrappers stay

pub wrapped_later : (l : Layout) (objects more : List Object) (cast : TypeCast) (inner w : ℕ)
    → IsWrapped l objects cast inner w → IsWrapped l (objects ++ more) cast inner w
wrapped_later l objects more cast inner w h =
    record { part = h.part; there = there_later l objects more w _ h.there; is = h.is }

pub pile_later : (l : Layout) (objects more : List Object) (casts : List TypeCast) (target w : ℕ)
    → Pile l objects casts target w → Pile l (objects ++ more) casts target w
pile_later l objects more [] target w h = h
pile_later l objects more (cast ∷ casts) target w h =
    (h.0, wrapped_later l objects more cast target h.0 h.1, pile_later l objects more casts h.0 w h.2)

wraps_later : (l : Layout) (objects more : List Object) (casts : List TypeCast) (target w : ℕ)
    → piled_wraps l objects casts target w → piled_wraps l (objects ++ more) casts target w
wraps_later l objects more [] target w h = h
wraps_later l objects more (cast ∷ casts) target w h =
    (there_later l objects more target _ h.0, pile_later l objects more (cast ∷ casts) target w h.1)

-- the outermost one stands at the value's word
last_wrapper : (l : Layout) (objects : List Object) (cast : TypeCast) (casts : List TypeCast) (target w : ℕ)
    → Pile l objects (cast ∷ casts) target w → IsWrapper l objects w
last_wrapper l objects cast [] target w h = record {
  kind = 25;
  words = target ∷ h.1.part ∷ [];
  count = 2;
  there = subst (λ x. There l objects x (wrapper_object target h.1.part)) h.2 h.1.there;
  told = inr refl;
}
last_wrapper l objects cast (other ∷ casts) target w h = last_wrapper l objects other casts h.0 w h.2

wrapper : (l : Layout) (objects : List Object) (casts : List TypeCast) (target w : ℕ)
    → piled_wraps l objects casts target w → IsWrapper l objects w
wrapper l objects [] target w h = absurd h
wrapper l objects (cast ∷ casts) target w h = last_wrapper l objects cast casts target w h.1

-- ---- wrappers are counted

pub stacked_more : (l : Layout) (before objects : List Object) (number : ℕ) (o : Object) → IsOwn o
    → AreStacked l before objects number → AreStacked l before (objects ++ o ∷ []) number
stacked_more l before [] number o own h = inl (own, h)
stacked_more l before (x ∷ objects) number o own (inl h) =
    inl (h.0, stacked_more l (before ++ x ∷ []) objects number o own h.1)
stacked_more l before (x ∷ objects) number o own (inr h) =
    inr (
      h.0,
      h.1,
      h.2,
      h.3,
      h.4,
      h.5,
      h.6,
      stacked_more l (before ++ x ∷ []) objects h.3 o own h.7,
    )

-- one wrapper more, over an object that stands there
pub wrapper_more : (l : Layout) (before objects : List Object) (number inner part : ℕ) (under : Object)
    → There l (before ++ objects) inner under → AreStacked l before objects number
    → AreStacked l before (objects ++ wrapper_object inner part ∷ []) (number + 1)
wrapper_more l before [] number inner part under there h =
    let next : number + 1 ≡ suc 0 = omega (arith, h) in
    inr (
      inner,
      part,
      under,
      0,
      refl,
      subst (λ os. There l os inner under) (append-nil before) there,
      next,
      refl,
    )
wrapper_more l before (x ∷ objects) number inner part under there (inl h) =
    inl (
      h.0,
      wrapper_more l (before ++ x ∷ []) objects number inner part under
          (subst (λ os. There l os inner under) (sym (append_assoc before (x ∷ []) objects)) there) h.1,
    )
wrapper_more l before (x ∷ objects) number inner part under there (inr h) =
    let next : number + 1 ≡ suc (h.3 + 1) = let z = h.6 in omega (arith, z) in
    inr (
      h.0,
      h.1,
      h.2,
      h.3 + 1,
      h.4,
      h.5,
      next,
      wrapper_more l (before ++ x ∷ []) objects h.3 inner part under
          (subst (λ os. There l os inner under) (sym (append_assoc before (x ∷ []) objects)) there) h.7,
    )

pub piled_laws : MeaningLaws piled_meaning
piled_laws = record {
  wraps_later = wraps_later;
  resumes_later = λ setting l objects more waiting casts h. h;
  resumes_elsewhere = λ setting l objects waiting casts h. absurd h;
  wrapper = wrapper;
  begins = λ l. refl;
  keeps_more = λ l objects number o own keeps. stacked_more l [] objects number o own keeps;
  budgets = λ types casts m kind made functions. le_refl (kind_budget m (Some kind) functions);
  makes = λ types casts m made functions. le_refl made;
  boxes = λ types casts m. omega arith;
}
