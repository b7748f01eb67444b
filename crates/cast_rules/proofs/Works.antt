-- What the work keeps while it goes on, and the small steps of the elaboration.
use Rattle.std.proofs.Common.{◌≡◌, ℕ, ◌<◌, ◌≤◌, Bool, true, false, List, [], ◌∷◌, length, Option, Some, None, refl, sym}
use Rattle.std.proofs.Common.{ap, ◌∙◌, subst, arith, slice_get, ◌⊎◌, inl, inr}
use Rattle.std.specs.Prelude.{nat_eq, if◌then◌else◌}
use Rattle.std.proofs.lemmas.Bool.{eqb-true}
use Rattle.std.proofs.lemmas.List.{length-append}
use Rattle.std.proofs.lemmas.Option.{slice_get_within}
use Rattle.grift_base.specs.declared.places.Pos.{Pos}
use Rattle.grift_base.specs.declared.refusals.RefusalKind.{RefusalKind}
use Rattle.grift_base.specs.Types.{TypeRow, TypeRows, row_at, parts_of}
use Rattle.core_calc.specs.Terms.{Term, Terms}
use Rattle.core_calc.specs.Typing.{Context, HasType, HaveTypes, IsWritten, AreWritten, binders, all_binders}
use Rattle.cast_rules.proofs.Tables.{IsFormedTable, AreRows, more_parts, intern_keeps}
use Rattle.surface_trees.specs.Trees.{TypeExpr}
use Rattle.type_graph.specs.Forming.{Forming, intern, place_where, at_place_or_last}
use Rattle.cast_rules.specs.WrittenTypes.{form_type}
use Rattle.cast_rules.specs.Making.{Work, Made, Makes, Refuses, Making, then_make, form, label_at, list_entry}
use Rattle.cast_rules.specs.Making.{equal_places, test, CastFrom, PartOf, Entry, Typed, cast_at, cast_to, cast_if}
use Rattle.cast_rules.specs.Making.{cast_to_row, written, written_if}
use Rattle.type_graph.proofs.Public.{get_before_or_last, same_rows, more_rows, more_length, row_stays, place_found}
use Rattle.type_graph.proofs.Public.{slice_get_at, later_within}
use Rattle.cast_rules.specs.Programs.{IsWrittenType, MayBeWritten}
use Rattle.cast_rules.specs.Claims.{IsInside, EntryFits, EntriesFit}
use Rattle.type_graph.specs.TypeTables.{HasMoreRows}
use Rattle.cast_rules.proofs.Forming.{FormedType, type_formed, row_within}
use Rattle.cast_rules.proofs.Fresh.{AreFresh}
use Rattle.cast_rules.proofs.Growing.{grow_term, grow_terms}

-- ---- outcomes

-- where there is an answer, this holds of it and of the work after it
abbrev pub Keeps : {A : Type 0} → (A → Work → Type 0) → Made A → Type 0
Keeps Holds (Makes a work) = Holds a work
Keeps Holds (Refuses kind place last) = Unit {0}

pub then_keeps : {A B : Type 0} (P : A → Work → Type 0) (Q : B → Work → Type 0) (made : Made A) (next : A → Making B) →
    Keeps P made → ((a : A) (after : Work) → P a after → Keeps Q (next a after)) → Keeps Q (then_make made next)
unfolding then_make
then_keeps P Q (Makes a after) next h k = k a after h
then_keeps P Q (Refuses kind place last) next h k = tt

pub keeps_more : {A : Type 0} (P Q : A → Work → Type 0) (made : Made A) → Keeps P made → ((a : A) (work : Work) → P a
    work → Q a work) → Keeps Q made
keeps_more P Q (Makes a work) h k = k a work h
keeps_more P Q (Refuses kind place last) h k = tt

-- ---- work that goes on

pub record Grown (before after : Work) : Type 0 where
  pub table : IsFormedTable after.types
  pub types : HasMoreRows before.types after.types
  pub labels : length before.labels ≤ length after.labels
  pub next : before.next ≤ after.next
  pub casts : length before.casts ≤ length after.casts
  pub entries : EntriesFit before → EntriesFit after

entry_later : (labels more types others place : ℕ) (entry : Entry) → labels ≤ more → types ≤ others → EntryFits labels
    types place entry → EntryFits more others place entry
entry_later labels more types others place (CastFrom label from to inside) a b h = (
  (let x = h.0 in omega arith),
  (let
      x = h.1 in omega arith),
  (let x = h.2 in omega arith),
  h.3,
)
entry_later labels more types others place (PartOf label k) a b h = omega arith

-- no entry was added, and there are no fewer labels and types
pub same_entries : (before after : Work) → after.casts ≡ before.casts → length before.labels ≤ length after.labels →
    length before.types ≤ length after.types → EntriesFit before → EntriesFit after
same_entries before after same labels types fit place entry e =
    entry_later (length before.labels) (length after.labels) (length before.types) (length after.types) place entry
    labels types (fit place entry (ap (λ casts. slice_get casts place) (sym same) ∙ e))

pub not_grown : (work : Work) → IsFormedTable work.types → Grown work work
not_grown work table = record {
  table = table;
  types = same_rows work.types;
  labels = omega arith;
  next = omega arith;
  casts = omega arith;
  entries = λ fit. fit;
}

pub grown_on : (a b c : Work) → Grown a b → Grown b c → Grown a c
grown_on a b c f g = record {
  table = g.table;
  types = more_rows a.types b.types c.types f.types g.types;
  labels = (let x = f.labels in let y = g.labels in omega arith);
  next = (let x = f.next in let y = g.next in omega arith);
  casts = (let x = f.casts in let y = g.casts in omega arith);
  entries = λ fit. g.entries (f.entries fit);
}

-- a term after this work has its type in this context, and binds names from the first on and below the last
pub record IsTyped (after : Work) (context : Context) (first last : ℕ) (e : Typed) : Type 0 where
  pub typed : HasType after.types (length after.labels) [] context e.term e.type
  pub row : e.type < length after.types
  pub written : IsWritten e.term
  pub own : AreFresh first last (binders e.term)
  pub inside : IsInside (length after.casts) e.entry

pub inside_later : (a b : ℕ) (entry : Option ℕ) → a ≤ b → IsInside a entry → IsInside b entry
inside_later a b (Some inner) within h = omega arith
inside_later a b None within h = tt

grown_type : (a b : Work) (context : Context) (term : Term) (type : ℕ) → Grown a b → HasType a.types (length a.labels)
    [] context term type → HasType b.types (length b.labels) [] context term type
grown_type a b context term type g h =
    subst (λ types. HasType types (length b.labels) [] context term type) (sym g.types.1)
    (grow_term a.types g.types.0 (length a.labels) (length b.labels) g.labels [] term context type h)

pub later : (a b : Work) (context : Context) (first last : ℕ) (e : Typed) → Grown a b → IsTyped a context first last e
    → IsTyped b context first last e
later a b context first last e g h = record {
  typed = grown_type a b context e.term e.type g h.typed;
  row = later_within a.types b.types e.type g.types h.row;
  written = h.written;
  own = h.own;
  inside = inside_later (length a.casts) (length b.casts) e.entry g.casts h.inside;
}

-- several terms with their types
pub record AreTyped (after : Work) (context : Context) (first last : ℕ) (terms : Terms) (types : List ℕ) : Type 0 where
  pub typed : HaveTypes after.types (length after.labels) [] context terms types
  pub rows : AreRows after.types types
  pub written : AreWritten terms
  pub own : AreFresh first last (all_binders terms)

pub later_all : (a b : Work) (context : Context) (first last : ℕ) (terms : Terms) (types : List ℕ) → Grown a b →
    AreTyped a context first last terms types → AreTyped b context first last terms types
later_all a b context first last terms types g h = record {
  typed = subst (λ rows. HaveTypes rows (length b.labels) [] context terms types) (sym g.types.1) (grow_terms a.types
      g.types.0 (length a.labels) (length b.labels) g.labels [] terms context types h.typed);
  rows = more_parts a.types b.types types g.types h.rows;
  written = h.written;
  own = h.own;
}

-- ---- small steps

-- the type was formed, and the work went on
abbrev pub FormsType : Work → ℕ → Work → Type 0
FormsType before type after = Grown before after × (type < length after.types)

abbrev pub FormsRow : Work → TypeRow → ℕ → Work → Type 0
FormsRow before row type after = Grown before after × (row_at after.types type ≡ Some row)

formed_work : (work : Work) (types : TypeRows) → IsFormedTable types → HasMoreRows work.types types → Grown work
    (record work { types = types })
formed_work work types table more = record {
  table = table;
  types = more;
  labels = omega arith;
  next = omega arith;
  casts = omega arith;
  entries = same_entries work (record work { types = types }) refl (omega arith) (more_length work.types types more);
}

pub row_formed : (work : Work) (row : TypeRow) → IsFormedTable work.types → AreRows work.types (parts_of row) → Keeps
    (λ type after. FormsRow work row type after) (form (intern row) work)
row_formed work row table parts =
    let h = intern_keeps work.types row table parts in
    (formed_work work (intern row work.types).1 h.0 h.1, h.2)

pub type_of_form : (work : Work) (forming : Forming ℕ) → FormedType work.types (forming work.types).0 (forming
    work.types).1 → Keeps (λ type after. FormsType work type after) (form forming work)
type_of_form work forming h = (formed_work work (forming work.types).1 h.0 h.1, h.2)

pub test_keeps : (P : Work → Type 0) (holds : Bool) (kind : RefusalKind) (place : Pos) (work : Work) → P work → Keeps
    (λ answer after. P after) (test holds kind place work)
test_keeps P true kind place work h = h
test_keeps P false kind place work h = tt

-- what a test says where it isn't refused
pub test_tells : (holds : Bool) (kind : RefusalKind) (place : Pos) (work : Work) →
    Keeps (λ answer after. (after ≡ work) × (holds ≡ true)) (test holds kind place work)
test_tells true kind place work = (refl, refl)
test_tells false kind place work = tt

-- a type as it is written
pub written_formed : (expression : TypeExpr) (work : Work) → IsWrittenType expression → IsFormedTable work.types →
    Keeps (λ type after. FormsType work type after) (written expression work)
written_formed expression work source table =
    then_keeps (λ type after. FormsType work type after) (λ type after. FormsType work type after) _ _
    (type_of_form work (form_type expression) (type_formed expression work.types source.0 table))
    (λ type after h. then_keeps (λ answer last. FormsType work type last) (λ type last. FormsType work type last) _ _
    (test_keeps (λ last. FormsType work type last) _ _ _ after h)
    (λ answer last k. k))

-- ---- casts

pub keeps_if : {A : Type 0} (Q : A → Work → Type 0) (b : Bool) (one other : Making A) (work : Work) → (b ≡ true → Keeps
    Q (one work)) → (b ≡ false → Keeps Q (other work)) → Keeps Q ((if b then one else other) work)
keeps_if Q true one other work h k = h refl
keeps_if Q false one other work h k = k refl

label_found : {A : Type 0} (passes : A → Bool) (a : A) (old : List A) (o : Option ℕ) → place_where passes old ≡ o →
    (at_place_or_last o a old).0 < length (at_place_or_last o a old).1 × (length old ≤ length (at_place_or_last o a
    old).1)
label_found passes a old (Some k) e =
    let found = place_found passes old k e in
    (slice_get_within old k found.0 found.1, omega arith)
label_found passes a old None e =
    let sum = length-append old (a ∷ []) in
    (omega arith, omega arith)

abbrev pub MakesLabel : Work → ℕ → Work → Type 0
MakesLabel work label after = Grown work after × (label < length after.labels)

abbrev label_work : Pos → Work → Work
label_work place work = record work {
  labels = (at_place_or_last (place_where (equal_places place) work.labels) place
      work.labels).1;
}

pub label_made : (place : Pos) (work : Work) → IsFormedTable work.types → Keeps (λ label after. MakesLabel work label
    after) (label_at place work)
label_made place work table =
    let h = label_found (equal_places place) place work.labels (place_where (equal_places place) work.labels) refl in (
      record {
        table = table;
        types = same_rows work.types;
        labels = h.1;
        next = omega arith;
        casts = omega arith;
        entries = λ fit. same_entries work (label_work place work) refl h.1 (omega arith) fit;
      },
      h.0,
    )

-- an entry was put at the end
abbrev pub ListsEntry : Work → ℕ → Work → Type 0
ListsEntry work k after = Grown work after × (after.labels ≡ work.labels) × (k < length after.casts)

pub entry_listed : (entry : Entry) (work : Work) → IsFormedTable work.types → EntryFits (length work.labels) (length
    work.types) (length work.casts) entry → Keeps (λ k after. ListsEntry work k after) (list_entry entry work)
entry_listed entry work table fits =
    let sum = length-append work.casts (entry ∷ []) in (
      record {
        table = table;
        types = same_rows work.types;
        labels = omega arith;
        next = omega arith;
        casts = omega
            arith;
        entries = λ fit place other e. by_place place other fit (get_before_or_last work.casts entry other place
            e);
      },
      refl,
      omega arith,
    )
  where
    by_place : (place : ℕ) (other : Entry) → EntriesFit work → (slice_get work.casts place ≡ Some other) ⊎ ((place ≡
        length work.casts) × (entry ≡ other)) → EntryFits (length work.labels) (length work.types) place other
    by_place place other fit (inl e) = fit place other e
    by_place place other fit (inr e) = subst (λ n. EntryFits (length work.labels) (length work.types) n other) (sym
        e.0) (subst (λ x. EntryFits (length work.labels) (length work.types) (length work.casts) x) e.1 fits)

-- the term is now of this type, with the names that it had
abbrev pub CastsTo : Work → Context → ℕ → ℕ → ℕ → Typed → Work → Type 0
CastsTo work context first last type e after = Grown work after × IsTyped after context first last e × (e.type ≡ type)

pub cast_made : (place : Pos) (context : Context) (first last : ℕ) (e : Typed) (type : ℕ) (work : Work) → IsFormedTable
    work.types → IsTyped work context first last e → type < length work.types → Keeps (λ c after. CastsTo work context
    first last type c after) (cast_at place e type work)
cast_made place context first last e type work table t row =
    then_keeps (λ label after. MakesLabel work label after) (λ c after. CastsTo work context first last type c after) _
    _
    (label_made place work table)
    (λ label middle h. then_keeps (λ k after. ListsEntry middle k after) (λ c after. CastsTo work context first last
    type c after) _ _
    (entry_listed (CastFrom label e.type type e.entry) middle h.0.table (
      h.1,
      later_within work.types middle.types e.type h.0.types t.row,
      later_within work.types middle.types type
          h.0.types row,
      inside_later (length work.casts) (length middle.casts) e.entry h.0.casts t.inside,
    ))
    (λ k after g.
    let all = grown_on work middle after h.0 g.0 in
    let moved = later work after context first last e all t in
    let below = later_within work.types after.types type all.types row in (
      all,
      record {
        typed = (
          refl,
          moved.typed,
          slice_get_at after.types type below,
          subst (λ labels. label < length labels) (sym
              g.1) h.1,
        );
        row = below;
        written = moved.written;
        own = moved.own;
        inside = g.2;
      },
      refl,
    )))

pub cast_to_keeps : (place : Pos) (context : Context) (first last : ℕ) (e : Typed) (type : ℕ) (work : Work) →
    IsFormedTable work.types → IsTyped work context first last e → type < length work.types → Keeps (λ c after. CastsTo
    work context first last type c after) (cast_to place type e work)
cast_to_keeps place context first last e type work table t row =
    keeps_if (λ c after. CastsTo work context first last type c after) (nat_eq e.type type) _ _ work
    (λ same. (not_grown work table, t, eqb-true e.type type same))
    (λ differs. then_keeps (λ answer after. CastStart context first last e type work after) (λ c after. CastsTo work
    context first last type c after) _ _
    (test_keeps (λ after. CastStart context first last e type work after) _ _ _ work (
      table,
      t,
      row,
      not_grown work
          table,
    ))
    (λ answer after h. keeps_more (λ c last'. CastsTo after context first last type c last') (λ c last'. CastsTo work
    context first last type c last') _
    (cast_made place context first last e type after h.0 h.1 h.2)
    (λ c last' k. (grown_on work after last' h.3 k.0, k.1, k.2))))
  where
    CastStart : Context → ℕ → ℕ → Typed → ℕ → Work → Work → Type 0
    CastStart context first last e type work after = IsFormedTable after.types × IsTyped after context first last e ×
        (type < length after.types) × Grown work after

-- a type that is wanted, if there is one, has a row
abbrev pub MayHaveRow : TypeRows → Option ℕ → Type 0
MayHaveRow types (Some type) = type < length types
MayHaveRow types None = Unit {0}

pub may_later : (a b : TypeRows) (wanted : Option ℕ) → HasMoreRows a b → MayHaveRow a wanted → MayHaveRow b wanted
may_later a b (Some type) more h = later_within a b type more h
may_later a b None more h = tt

abbrev pub Casts : Work → Context → ℕ → ℕ → Typed → Work → Type 0
Casts work context first last e after = Grown work after × IsTyped after context first last e

pub cast_if_keeps : (place : Pos) (context : Context) (first last : ℕ) (e : Typed) (wanted : Option ℕ) (work : Work) →
    IsFormedTable work.types → IsTyped work context first last e → MayHaveRow work.types wanted → Keeps (λ c after.
    Casts work context first last c after) (cast_if place wanted e work)
cast_if_keeps place context first last e (Some type) work table t row =
    keeps_more (λ c after. CastsTo work context first last type c after) (λ c after. Casts work context first last c
    after) _
    (cast_to_keeps place context first last e type work table t row)
    (λ c after h. (h.0, h.1))
cast_if_keeps place context first last e None work table t row = (not_grown work table, t)

pub cast_to_row_keeps : (place : Pos) (context : Context) (first last : ℕ) (e : Typed) (row : TypeRow) (work : Work) →
    IsFormedTable work.types → IsTyped work context first last e → AreRows work.types (parts_of row) → Keeps (λ c
    after. Casts work context first last c after × (row_at after.types c.type ≡ Some row)) (cast_to_row place row e
    work)
cast_to_row_keeps place context first last e row work table t parts =
    then_keeps (λ type after. FormsRow work row type after) (λ c after. Casts work context first last c after × (row_at
    after.types c.type ≡ Some row)) _ _
    (row_formed work row table parts)
    (λ type middle h. keeps_more (λ c after. CastsTo middle context first last type c after) (λ c after. Casts work
    context first last c after × (row_at after.types c.type ≡ Some row)) _
    (cast_to_keeps place context first last e type middle h.0.table (later work middle context first last e h.0 t)
    (row_within middle.types type row h.1))
    (λ c after k. (
      (grown_on work middle after h.0 k.0, k.1),
      row_stays middle.types after.types c.type row k.0.types (subst (λ t. row_at middle.types t ≡ Some row) (sym k.2)
          h.1),
    )))

abbrev pub MayForm : Work → Option ℕ → Work → Type 0
MayForm before wanted after = Grown before after × MayHaveRow after.types wanted

pub written_if_formed : (own : Option TypeExpr) (work : Work) → MayBeWritten own → IsFormedTable work.types → Keeps (λ
    wanted after. MayForm work wanted after) (written_if own work)
written_if_formed (Some expression) work source table =
    then_keeps (λ type after. FormsType work type after) (λ wanted after. MayForm work wanted after) _ _
    (written_formed expression work source table)
    (λ type after h. h)
written_if_formed None work source table = (not_grown work table, tt)
