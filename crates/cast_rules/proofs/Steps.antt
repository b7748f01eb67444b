-- The steps of the work, one after another.
use Rattle.std.proofs.Common.{◌≡◌, ℕ, Bool, true, false, List, [], ◌∷◌, ◌++◌, length, Option, Some, None, refl}
use Rattle.std.proofs.Common.{sym, ap, ◌∙◌}
use Rattle.grift_base.specs.declared.places.Pos.{Pos}
use Rattle.grift_base.specs.declared.refusals.RefusalKind.{RefusalKind}
use Rattle.grift_base.specs.declared.places.TypeId.{TypeId}
use Rattle.grift_base.specs.Tables.{HasNoRepeats, Interns}
use Rattle.grift_base.specs.Types.{TypeRows}
use Rattle.std.proofs.Common.{◌⊎◌, inl, inr, ap₂, slice_get, append_assoc}
use Rattle.std.specs.Prelude.{Contains, nat_eq, ◌&&◌}
use Rattle.std.proofs.lemmas.Bool.{eqb-true, eq-eqb, and_parts}
use Rattle.std.proofs.lemmas.List.{map-append}
use Rattle.std.proofs.lemmas.Option.{slice_get_within, slice_get-get_or, get_or_from_slice_get}
use Rattle.type_graph.specs.Rows.{places_of}
use Rattle.type_graph.specs.Forming.{place_where, at_place_or_last}
use Rattle.type_graph.proofs.Public.{place_found, place_missing, get_before_or_last}
use Rattle.surface_trees.specs.Trees.{TypeExpr, TypeExprs, TypeThen}
use Rattle.cast_rules.specs.WrittenTypes.{form_type, form_types}
use Rattle.cast_rules.specs.Making.{Work, Makes, Refuses, Making, then_make, equal_places, label_at, test}

pub makes_then : {A B : Type 0} (a : A) (work : Work) (next : A → Making B) →
    then_make (Makes a work) next ≡ next a work
unfolding then_make
makes_then a work next = refl

pub refuses_then : {A B : Type 0} (kind : RefusalKind) (place : Pos) (last : Work) (next : A → Making B) →
    then_make (Refuses kind place last) next ≡ Refuses kind place last
unfolding then_make
refuses_then kind place last next = refl

pub test_makes : (holds : Bool) (kind : RefusalKind) (place : Pos) (work : Work) → holds ≡ true →
    test holds kind place work ≡ Makes true work
test_makes true kind place work e = refl
test_makes false kind place work e = cc

pub test_refuses : (holds : Bool) (kind : RefusalKind) (place : Pos) (work : Work) → holds ≡ false →
    test holds kind place work ≡ Refuses kind place work
test_refuses true kind place work e = cc
test_refuses false kind place work e = refl

-- an entry that a table interned has the place that the definition gives it
pub interned_place : {A : Type 0} (passes : A → Bool) (a : A) (old new : List A) (place : ℕ) → ((b : A) → passes b ≡
    true → b ≡ a) → passes a ≡ true → HasNoRepeats old → Interns old a new → slice_get new place ≡ Some a →
    at_place_or_last (place_where passes old) a old ≡ (place, new)
interned_place passes a old new place exact itself apart interns at_place = one (place_where passes old) refl interns
  where
    found_old : new ≡ old → slice_get old place ≡ Some a
    found_old e = ap (λ xs. slice_get xs place) (sym e) ∙ at_place

    absent : place_where passes old ≡ None → Contains old a → ⊥
    absent e h = place_missing passes old e h.0 a (slice_get-get_or old h.0 a h.1 ∙ ap Some h.2) itself

    there : (k : ℕ) → place_where passes old ≡ Some k → slice_get old k ≡ Some a
    there k e =
        let found = place_found passes old k e in
        found.1 ∙ ap Some (exact found.0 found.2)

    contained : (k : ℕ) → slice_get old k ≡ Some a → Contains old a
    contained k e = (k, slice_get_within old k a e, get_or_from_slice_get old k a a e)

    last : new ≡ old ++ a ∷ [] → (¬ Contains old a) → place ≡ length old
    last e none = by (get_before_or_last old a a place (ap (λ xs. slice_get xs place) (sym e) ∙ at_place))
      where
        by : (slice_get old place ≡ Some a) ⊎ ((place ≡ length old) × (a ≡ a)) → place ≡ length old
        by (inl f) = absurd (none (contained place f))
        by (inr f) = f.0

    one : (o : Option ℕ) → place_where passes old ≡ o → Interns old a new → at_place_or_last o a old ≡ (place, new)
    one (Some k) e (inl h) =
        let same : k ≡ place = apart k place (slice_get_within old k a (there k e)) (there k e ∙ sym (found_old h.1)) in
        ap₂ (λ x y. (x, y)) same (sym h.1)
    one (Some k) e (inr h) = absurd (h.0 (contained k (there k e)))
    one None e (inl h) = absurd (absent e h.0)
    one None e (inr h) = ap₂ (λ x y. (x, y)) (sym (last h.1 h.0)) (sym h.1)

pub equal_places_are_one : (a b : Pos) → equal_places a b ≡ true → b ≡ a
equal_places_are_one a b e =
    let both = and_parts (nat_eq a.line b.line) (nat_eq a.col b.col) e in
    let one = eqb-true a.line b.line both.0 in
    let two = eqb-true a.col b.col both.1 in
    λ i. record { line = sym one i; col = sym two i }

pub place_is_itself : (a : Pos) → equal_places a a ≡ true
place_is_itself a = ap₂ ◌&&◌ (eq-eqb a.line a.line refl) (eq-eqb a.col a.col refl)

-- a label that was interned is the one that the definition gives
pub label_interned : (pos : Pos) (work : Work) (new : List Pos) (place : ℕ) → HasNoRepeats work.labels →
    Interns work.labels pos new → slice_get new place ≡ Some pos →
    label_at pos work ≡ Makes place (record work { labels = new })
label_interned pos work new place apart interns there =
    ap (λ done. Makes done.0 (record work { labels = done.1 }))
    (interned_place (equal_places pos) pos work.labels new place (λ b e. equal_places_are_one pos b e)
    (place_is_itself pos) apart interns there)

-- types that were formed, and those that are formed behind them
abbrev pub forms_behind : List ℕ → List ℕ × TypeRows → List ℕ × TypeRows
forms_behind done formed = (done ++ formed.0, formed.1)

pub forms_more : (done : List TypeId) (id : TypeId) (first : TypeExpr) (rest : TypeExprs) (types next : TypeRows) →
    form_type first types ≡ (id.0, next) →
    forms_behind (places_of done) (form_types (TypeThen first rest) types)
    ≡ forms_behind (places_of (done ++ id ∷ [])) (form_types rest next)
forms_more done id first rest types next e =
    ap (λ formed. (places_of done ++ formed.0 ∷ (form_types rest formed.1).0, (form_types rest formed.1).1)) e
    ∙ ap (λ front. (front, (form_types rest next).1))
    (sym (append_assoc (places_of done) (id.0 ∷ []) (form_types rest next).0)
    ∙ ap (λ front. front ++ (form_types rest next).0) (sym (map-append (λ (id : TypeId). id.0) done (id ∷ []))))

pub ruleset steps = (makes_then, refuses_then, test_makes, test_refuses, label_interned)
