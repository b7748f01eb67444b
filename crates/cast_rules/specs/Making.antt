-- What the elaboration keeps while it works, and how it ends: with an answer, or with the first refusal.
use Rattle.std.specs.Prelude.{ℕ, suc, ℤ, Bool, nat_eq, ◌&&◌, nat_lt, if◌then◌else◌, List, [], ◌∷◌, ◌++◌, length}
use Rattle.std.specs.Prelude.{Option, Some, None}
use Rattle.grift_base.specs.Types.{TypeRow, TypeRows, row_at}
use Rattle.grift_base.specs.declared.places.Pos.{Pos}
use Rattle.grift_base.specs.declared.refusals.RefusalKind.{RefusalKind}
use Rattle.grift_base.specs.declared.refusals.RefusalKind.TheVariants.{NotConsistent, TypeTooLarge}
use Rattle.type_graph.specs.Forming.{Forming, place_where, at_place_or_last, intern}
use Rattle.type_graph.specs.Trees.{size}
use Rattle.consistency.specs.Consistency.{consistent}
use Rattle.consistency.specs.Blending.{blend}
use Rattle.core_calc.specs.Terms.{Term, Cast}
use Rattle.surface_trees.specs.Trees.{TypeExpr}
use Rattle.cast_rules.specs.Sources.{place_of_type}
use Rattle.cast_rules.specs.WrittenTypes.{form_type}

-- ---- what is kept

-- an entry of the list of casts
pub data Entry : Type 0 where
  -- a cast: its label, from, to, and the place in the list of the cast that stands directly inside
  CastFrom : ℕ → ℕ → ℕ → Option ℕ → Entry
  -- a part of what Dyn holds: the label, and the number of the part
  PartOf : ℕ → ℤ → Entry

pub record Work : Type 0 where
  pub types : TypeRows
  -- the places that may be blamed, in order of first use
  pub labels : List Pos
  pub casts : List Entry
  -- variables from this one on are fresh
  pub next : ℕ

-- ---- work that is refused or goes on

pub data Made (A : Type 0) : Type 0 where
  Makes : A → Work → Made A
  -- with the work until then
  Refuses : RefusalKind → Pos → Work → Made A

abbrev pub Making : Type 0 → Type 0
Making A = Work → Made A

-- what was made, and where that is not refused the other
unfoldable pub then_make : {A B : Type 0} → Made A → (A → Making B) → Made B
then_make (Makes a work) next = next a work
then_make (Refuses kind place last) next = Refuses kind place last

abbrev pub ◌>>=◌ : {A B : Type 0} → Making A → (A → Making B) → Making B
◌>>=◌ first next = λ work. then_make (first work) next

-- the same, where the answer of the one is not asked for
abbrev pub ◌>>◌ : {A B : Type 0} → Making A → Making B → Making B
◌>>◌ first next = ◌>>=◌ first (λ done. next)

abbrev pub give : {A : Type 0} → A → Making A
give a = λ work. Makes a work

abbrev pub refuse : {A : Type 0} → RefusalKind → Pos → Making A
refuse kind place = λ work. Refuses kind place work

abbrev pub form : {A : Type 0} → Forming A → Making A
form forming = λ work. let done = forming work.types in Makes done.0 (record work { types = done.1 })

abbrev pub row_of : ℕ → Making (Option TypeRow)
row_of type = λ work. Makes (row_at work.types type) work

abbrev pub fresh : Making ℕ
fresh = λ work. Makes work.next (record work { next = suc work.next })

abbrev pub equal_places : Pos → Pos → Bool
equal_places a b = nat_eq a.line b.line && nat_eq a.col b.col

-- the label of a place, which goes last where there is none yet
abbrev pub label_at : Pos → Making ℕ
label_at place = λ work.
    let done = at_place_or_last (place_where (equal_places place) work.labels) place work.labels in
    Makes done.0 (record work { labels = done.1 })

-- the place of a new entry in the list of casts
abbrev pub list_entry : Entry → Making ℕ
list_entry entry = λ work. Makes (length work.casts) (record work { casts = work.casts ++ entry ∷ [] })

-- ---- tests

-- nothing, or a refusal
abbrev pub test : Bool → RefusalKind → Pos → Making Bool
test holds kind place = λ work. if holds then Makes holds work else Refuses kind place work

abbrev pub most_nodes : ℕ
most_nodes = 1000

abbrev pub not_too_large : Pos → ℕ → Making Bool
not_too_large place type = λ work. test (nat_lt (size work.types type) (suc most_nodes)) TypeTooLarge place work

abbrev pub are_consistent : Pos → ℕ → ℕ → Making Bool
are_consistent place a b = λ work. test (consistent work.types a b) NotConsistent place work

-- the blend of two types, where they are consistent
abbrev pub blend_at : Pos → ℕ → ℕ → Making ℕ
blend_at place a b = do
  are_consistent place a b
  form (blend a b)

-- ---- terms with their types, and casts

-- a term, its type, and the place of its entry in the list of casts where it is a cast
pub record Typed : Type 0 where
  pub term : Term
  pub type : ℕ
  pub entry : Option ℕ

-- a term that is no cast
abbrev pub typed : Term → ℕ → Typed
typed term type = record { term = term; type = type; entry = None }

-- the cast of a term to a type, with the label of this place
abbrev pub cast_at : Pos → Typed → ℕ → Making Typed
cast_at place e type = do
  label ← label_at place
  entry ← list_entry (CastFrom label e.type type e.entry)
  give (record { term = Cast e.term e.type type label; type = type; entry = Some entry })

-- the term where it has the type; else a cast, where the types are consistent
abbrev pub cast_to : Pos → ℕ → Typed → Making Typed
cast_to place type e = if nat_eq e.type type then give e else do
  are_consistent place e.type type
  cast_at place e type

-- the same where a type is wanted
abbrev pub cast_if : Pos → Option ℕ → Typed → Making Typed
cast_if place (Some type) e = cast_to place type e
cast_if place None e = give e

-- a row's type, and the cast to it
abbrev pub cast_to_row : Pos → TypeRow → Typed → Making Typed
cast_to_row place row e = do
  type ← form (intern row)
  cast_to place type e

-- ---- written types, where the work comes to them

abbrev pub written : TypeExpr → Making ℕ
written expression = do
  type ← form (form_type expression)
  not_too_large (place_of_type expression) type
  give type

abbrev pub written_if : Option TypeExpr → Making (Option ℕ)
written_if (Some expression) = do
  type ← written expression
  give (Some type)
written_if None = give None
