-- The words of a coercion's parts: they are what an object wants, as high as the parts, and hold these.
use Rattle.std.proofs.Common.{◌≡◌, ◌⊎◌, inl, inr, ℕ, suc, ◌+◌, ◌<◌, max, Bool, true, false, refl, sym}
use Rattle.std.proofs.Common.{ap}
use Rattle.std.proofs.Common.{ap₂, ◌∙◌, arith, List, [], ◌∷◌, length, Some, All, replicate}
use Rattle.std.specs.Prelude.{slice_index, ◌==◌, if◌then◌else◌, ◌&&◌}
use Rattle.std.proofs.lemmas.List.Elements.{All-head, All-tail}
use Rattle.std.proofs.lemmas.Bool.{eqb-true}
use Rattle.grift_base.specs.Types.{TypeRow, TypeRows}
use Rattle.grift_base.proofs.Public.{each_row}
use Rattle.type_graph.specs.Trees.{height}
use Rattle.object_layout.specs.declared.kinds.Kind.{Kind as ObjectKind}
use Rattle.object_layout.specs.declared.kinds.Kind.TheVariants.{Fail as FailObject, Inject as InjectObject}
use Rattle.object_layout.specs.declared.kinds.Kind.TheVariants.{Project as ProjectObject}
use Rattle.object_layout.specs.declared.kinds.Wanted.TheVariants.{Coercion as WantedCoercion}
use Rattle.object_layout.specs.Kinds.{is_coercion, is_type, wanted_words}
use Rattle.object_layout.specs.Wholes.{Telling, AreWanted, IsAddress, header_at, height_of, highest as highest_of}
use Rattle.object_layout.specs.Wholes.{coercion_height as height_told, height_behind}
use Rattle.coercion_norm.specs.Coercions.{Kind, FunKind, Coercion, Id, Fail, Middle, Inject}
use Rattle.coercion_norm.specs.Coercions.{Project, all_id, is_id, rows_of}
use Rattle.coercion_norm.specs.Heights.{coercion_height, highest}
use Rattle.coercion_norm.specs.Nodes.{Node, tree_of, trees}
use Rattle.coercion_norm.specs.StaticObjects.{HoldsCoercion, HoldsType, StandCoercions, Tells, count_of, header}
use Rattle.coercion_norm.specs.StaticObjects.{middle_kind, type_kind, words_at}
use Rattle.coercion_norm.proofs.Objects.{told_kind}

-- ---- one word

pub type_is_type : (row : TypeRow) → is_type (type_kind row) ≡ true
type_is_type = each_row (λ row. is_type (type_kind row) ≡ true)
    refl refl refl refl (λ _ _. refl) (λ _. refl) (λ _. refl) (λ _. refl)

middle_is_coercion : (kind : Kind) → is_coercion (middle_kind kind) ≡ true
middle_is_coercion FunKind = refl
middle_is_coercion _ = refl

module _ (memory : Telling) (types : TypeRows) where
  -- the word of a type is its address
  pub type_address : (own word type : ℕ) → HoldsType memory types word type → word < own
      → IsAddress memory is_type own word
  type_address own word type holds below = record {
    kind = type_kind (rows_of types type);
    there = told_kind memory word (type_kind (rows_of types type)) (height types type) _ (holds 1).0;
    is_named = type_is_type (rows_of types type);
    below = below;
  }

  pub type_as_high : (word type : ℕ) → HoldsType memory types word type
      → height_behind memory (Some word) ≡ height types type
  type_as_high word type holds = ap height_of (holds 1).0

  -- that of a coercion is 0 or its address
  pub coercion_address : (own word : ℕ) (c : Coercion) → HoldsCoercion memory types c word
      → (is_id c ≡ false → word < own) → (word ≡ 0) ⊎ IsAddress memory is_coercion own word
  coercion_address own word Id holds below = inl holds
  coercion_address own word (Fail label) holds below =
      inr (record {
        kind = FailObject;
        there = told_kind memory word FailObject 0 1 holds.0;
        is_named = refl;
        below = below refl;
      })
  coercion_address own word (Middle kind parts) holds below =
      inr (record {
        kind = middle_kind kind;
        there = told_kind memory word (middle_kind kind) (coercion_height (height types) (Middle kind parts))
            (count_of parts) holds.0;
        is_named = middle_is_coercion kind;
        below = below refl;
      })
  coercion_address own word (Inject g kept) holds below =
      inr (record {
        kind = InjectObject;
        there = told_kind memory word InjectObject (coercion_height (height types) (Inject g kept)) 2 holds.0;
        is_named = refl;
        below = below refl;
      })
  coercion_address own word (Project wanted label i) holds below =
      inr (record {
        kind = ProjectObject;
        there = told_kind memory word ProjectObject (coercion_height (height types) (Project wanted label i)) 3 holds.0;
        is_named = refl;
        below = below refl;
      })

  -- the height that the header at a word says
  said : (word high count : ℕ) (kind : ObjectKind) → header_at memory word ≡ Some (header kind high count)
      → (word ≡ 0 → high ≡ 0) → height_told memory (Some word) ≡ high
  said word high count kind e low = go (word == 0) refl
    where
      go : (b : Bool) → (word == 0) ≡ b → (if b then 0 else height_of (header_at memory word)) ≡ high
      go true f = sym (low (eqb-true word 0 f))
      go false f = ap height_of e

  pub coercion_as_high : (word : ℕ) (c : Coercion) → HoldsCoercion memory types c word
      → (word ≡ 0 → coercion_height (height types) c ≡ 0)
      → height_told memory (Some word) ≡ coercion_height (height types) c
  coercion_as_high word Id holds low =
      ap (λ w. if w == 0 then 0 else height_of (header_at memory w)) holds
  coercion_as_high word (Fail label) holds low = said word 0 1 FailObject holds.0 low
  coercion_as_high word (Middle kind parts) holds low =
      said word (coercion_height (height types) (Middle kind parts)) (count_of parts) (middle_kind kind) holds.0 low
  coercion_as_high word (Inject g kept) holds low =
      said word (coercion_height (height types) (Inject g kept)) 2 InjectObject holds.0 low
  coercion_as_high word (Project wanted label i) holds low =
      said word (coercion_height (height types) (Project wanted label i)) 3 ProjectObject holds.0 low

-- ---- the words of a middle

pub middle_wanted : (kind : Kind) (count : ℕ) → wanted_words (middle_kind kind) count ≡ replicate count WantedCoercion
middle_wanted FunKind count = refl
middle_wanted _ count = refl

pub count_of_trees : (at : ℕ → Coercion) (parts : List ℕ) → count_of (trees at parts) ≡ length parts
count_of_trees at [] = refl
count_of_trees at (part ∷ parts) = ap suc (count_of_trees at parts)

-- what is known of a part that stands there
pub record IsPart (memory : Telling) (types : TypeRows) (nodes : List Node) (coercion_at : List ℕ) (own place : ℕ)
    : Type 0 where
  pub holds : HoldsCoercion memory types (tree_of nodes place) (slice_index coercion_at place)
  pub below : is_id (tree_of nodes place) ≡ false → slice_index coercion_at place < own
  pub low : slice_index coercion_at place ≡ 0 → coercion_height (height types) (tree_of nodes place) ≡ 0

module _ (memory : Telling) (types : TypeRows) (nodes : List Node) (coercion_at : List ℕ) (own : ℕ) where
  pub parts_wanted : (at : ℕ) (parts : List ℕ) → Tells memory at (words_at coercion_at parts)
      → All (IsPart memory types nodes coercion_at own) parts
      → AreWanted memory own at (replicate (length parts) WantedCoercion)
  parts_wanted at [] t all = tt
  parts_wanted at (part ∷ parts) t all =
      let first = All-head (IsPart memory types nodes coercion_at own) part parts all in (
        (
          slice_index coercion_at part,
          t.0,
          coercion_address memory types own (slice_index coercion_at part) (tree_of nodes part) first.holds first.below,
        ),
        parts_wanted (at + 8) parts t.1 (All-tail (IsPart memory types nodes coercion_at own) part parts all),
      )

  pub parts_as_high : (at : ℕ) (parts : List ℕ) → Tells memory at (words_at coercion_at parts)
      → All (IsPart memory types nodes coercion_at own) parts
      → highest_of memory at (replicate (length parts) WantedCoercion)
      ≡ highest (height types) (trees (tree_of nodes) parts)
  parts_as_high at [] t all = refl
  parts_as_high at (part ∷ parts) t all =
      let first = All-head (IsPart memory types nodes coercion_at own) part parts all in
      ap₂ max
      (ap (height_told memory) t.0
      ∙ coercion_as_high memory types (slice_index coercion_at part) (tree_of nodes part) first.holds first.low)
      (parts_as_high (at + 8) parts t.1 (All-tail (IsPart memory types nodes coercion_at own) part parts all))

  pub parts_stand : (at : ℕ) (parts : List ℕ) → Tells memory at (words_at coercion_at parts)
      → All (IsPart memory types nodes coercion_at own) parts
      → StandCoercions memory types (trees (tree_of nodes) parts) at
  parts_stand at [] t all = tt
  parts_stand at (part ∷ parts) t all =
      let first = All-head (IsPart memory types nodes coercion_at own) part parts all in (
        (slice_index coercion_at part, t.0, first.holds),
        parts_stand (at + 8) parts t.1 (All-tail (IsPart memory types nodes coercion_at own) part parts all),
      )

-- where a part isn't Id, its word is below, so that the words don't begin at 0
pub not_at_zero : (nodes : List Node) (coercion_at : List ℕ) (own : ℕ) (parts : List ℕ)
    → All (λ part. is_id (tree_of nodes part) ≡ false → slice_index coercion_at part < own) parts
    → all_id (trees (tree_of nodes) parts) ≡ false → own ≡ 0 → ⊥
not_at_zero nodes coercion_at own [] below some e = absurd (cc some)
not_at_zero nodes coercion_at own (part ∷ parts) below some e =
    go (is_id (tree_of nodes part)) refl
    (λ rest. not_at_zero nodes coercion_at own parts
    (All-tail (λ p. is_id (tree_of nodes p) ≡ false → slice_index coercion_at p < own) part parts below) rest e)
  where
    go : (b : Bool) → is_id (tree_of nodes part) ≡ b → (all_id (trees (tree_of nodes) parts) ≡ false → ⊥) → ⊥
    go true f later = later (sym (ap (λ b. b && all_id (trees (tree_of nodes) parts)) f) ∙ some)
    go false f later =
        let l = All-head (λ p. is_id (tree_of nodes p) ≡ false → slice_index coercion_at p < own) part parts below f in
        absurd (omega (arith, l, e))
