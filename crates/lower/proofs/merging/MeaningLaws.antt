-- The laws of the meaning of the merged scheme.
use Rattle.std.proofs.Common.{◌≡◌, inl, ℕ, true, List, [], ◌∷◌, ◌++◌, Some, refl, sym, ap, subst, append-nil}
use Rattle.std.proofs.Common.{append_assoc, le_refl}
use Rattle.coercion_norm.specs.Coercions.{Coercion, Coercions, Id, Fail, Middle, Inject, Project, NoCoercions}
use Rattle.coercion_norm.specs.Coercions.{CoercionThen}
use Rattle.coercion_norm.specs.declared.middles.MiddleKind.TheVariants.{Fun, Tup, Ref, Vec}
use Rattle.coercion_norm.specs.Held.{Layout, Held, AreHeld}
use Rattle.coercion_norm.specs.Objects.{Object}
use Rattle.low_ir.specs.Run.{Setting, Waiting}
use Rattle.rt_cast.specs.WholeObjects.{Wholes, WholeOther}
use Rattle.coer_core.specs.Tally.{kind_budget}
use Rattle.lower.specs.Meanings.{MeaningLaws, IsWrapper, is_last}
use Rattle.lower.specs.MergedMeaning.{merged_meaning, merged_wraps, merged_resumes, WrapsKind}
use Rattle.lower.proofs.heap.Filled.{there_later}

module _ (l : Layout) (objects more : List Object) where
  mutual
    pub held_later : (c : Coercion) (w : ℕ) → Held l objects c w → Held l (objects ++ more) c w
    held_later Id w h = h
    held_later (Fail label) w h = there_later l objects more w _ h
    held_later (Middle kind parts) w h =
        (h.0, there_later l objects more w _ h.1, are_held_later parts h.0 h.2, h.3)
    held_later (Inject g kept) w h =
        (h.0, h.1, there_later l objects more w _ h.2, held_later g h.0 h.3, record { known = h.4.known; is = h.4.is })
    held_later (Project wanted label i) w h = (
      h.0,
      h.1,
      there_later l objects more w _ h.2,
      record { known = h.3.known; is = h.3.is },
      held_later i h.1 h.4,
    )

    are_held_later : (parts : Coercions) (ws : List ℕ) → AreHeld l objects parts ws
        → AreHeld l (objects ++ more) parts ws
    are_held_later NoCoercions [] h = h
    are_held_later NoCoercions (w ∷ ws) h = h
    are_held_later (CoercionThen c rest) [] h = h
    are_held_later (CoercionThen c rest) (w ∷ ws) h = (held_later c w h.0, are_held_later rest ws h.1)

  -- what is wrapped stays of its kind
  pub kind_later : (c : Coercion) (target : ℕ) → WrapsKind l objects c target
      → WrapsKind l (objects ++ more) c target
  kind_later (Middle Fun parts) target h = (h.0, h.1, there_later l objects more target _ h.2)
  kind_later (Middle Tup parts) target h = (h.0, there_later l objects more target _ h.1)
  kind_later (Middle Ref parts) target h = (h.0, there_later l objects more target _ h.1)
  kind_later (Middle Vec parts) target h = (h.0, there_later l objects more target _ h.1)
  kind_later Id target h = tt
  kind_later (Fail label) target h = tt
  kind_later (Inject g kept) target h = tt
  kind_later (Project wanted label i) target h = tt

wholes_append : (l : Layout) (before os more : List Object) → Wholes l before os → Wholes l (before ++ os) more
    → Wholes l before (os ++ more)
wholes_append l before [] more h w = subst (λ x. Wholes l x more) (append-nil before) w
wholes_append l before (x ∷ os) more h w = (
  h.0,
  wholes_append l (before ++ x ∷ []) os more h.1
      (subst (λ y. Wholes l y more) (sym (append_assoc before (x ∷ []) os)) w),
)

wraps_later : (l : Layout) (objects more : List Object) (casts : List Coercion) (target w : ℕ)
    → merged_wraps l objects casts target w → merged_wraps l (objects ++ more) casts target w
wraps_later l objects more [] target w h = h
wraps_later l objects more (c ∷ d ∷ casts) target w h = h
wraps_later l objects more (c ∷ []) target w h = (
  h.0,
  there_later l objects more w _ h.1,
  held_later l objects more c h.0 h.2,
  h.3,
  kind_later l objects more c target h.4,
)

resumes_later : (setting : Setting) (l : Layout) (objects more : List Object) (waiting : Waiting)
    (casts : List Coercion) → merged_resumes setting l objects waiting casts
    → merged_resumes setting l (objects ++ more) waiting casts
resumes_later setting l objects more waiting [] h = h
resumes_later setting l objects more waiting (c ∷ d ∷ casts) h = h
resumes_later setting l objects more waiting (c ∷ []) h = (
  h.0,
  h.1,
  record {
    place = h.2.place;
    word = h.2.word;
    code = h.2.code;
    other = h.2.other;
    is = h.2.is;
    held = held_later l objects more c h.2.word h.2.held;
    low = h.2.low;
    room = h.2.room;
    small = h.2.small;
  },
)

resumes_elsewhere : (setting : Setting) (l : Layout) (objects : List Object) (waiting : Waiting)
    (casts : List Coercion) → merged_resumes setting l objects waiting casts → is_last waiting.rest.code ≡ true
resumes_elsewhere setting l objects waiting [] h = absurd h
resumes_elsewhere setting l objects waiting (c ∷ d ∷ casts) h = absurd h
resumes_elsewhere setting l objects waiting (c ∷ []) h = ap is_last h.2.code

wrapper : (l : Layout) (objects : List Object) (casts : List Coercion) (target w : ℕ)
    → merged_wraps l objects casts target w → IsWrapper l objects w
wrapper l objects [] target w h = absurd h
wrapper l objects (c ∷ d ∷ casts) target w h = absurd h
wrapper l objects (c ∷ []) target w h =
    record { kind = 2; words = target ∷ h.0 ∷ []; count = 2; there = h.1; told = inl refl }

pub merged_laws : MeaningLaws merged_meaning
merged_laws = record {
  wraps_later = wraps_later;
  resumes_later = resumes_later;
  resumes_elsewhere = resumes_elsewhere;
  wrapper = wrapper;
  begins = λ l. tt;
  keeps_more = λ l objects number o own keeps.
      wholes_append l [] objects (o ∷ []) keeps
      (WholeOther own.kind own.count own.head own.long own.free own.allowed, tt);
  budgets = λ types casts m kind made functions. le_refl (kind_budget m (Some kind) functions);
  makes = λ types casts m made functions. le_refl made;
  boxes = λ types casts m. le_refl 2;
}
