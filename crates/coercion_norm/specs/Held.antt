-- Which word stands for which type and which coercion, where these objects stand. Nothing here reads memory.
use Rattle.std.specs.Prelude.{◌≡◌, ◌⊎◌, ℕ, ◌<◌, ◌≤◌, true, List, [], ◌∷◌, length, All, Some}
use Rattle.grift_base.specs.Types.{TypeRow, TypeRows, is_dyn, parts_of}
use Rattle.type_graph.specs.Trees.{height}
use Rattle.coercion_norm.specs.Coercions.{Kind, Coercion, Coercions, Id, Fail, Middle}
use Rattle.coercion_norm.specs.Coercions.{Inject, Project, NoCoercions, CoercionThen, rows_of, kind_of, slots_of}
use Rattle.coercion_norm.specs.Heights.{coercion_height, AreHeights}
use Rattle.coercion_norm.specs.Nodes.{KindHasWidth}
use Rattle.coercion_norm.specs.Objects.{Object, Fixed, object_at}
use Rattle.coercion_norm.specs.ObjectsOfRows.{header, kind_number, object_of_type}

-- what each run is told: the types and their addresses, how many parts a coercion has at most, the static objects,
-- where they and the region begin, and how high the coercion of a proxy may be
pub record Layout : Type 0 where
  pub types : TypeRows
  pub type_at : ℕ → ℕ
  pub width : ℕ
  pub statics : List Object
  pub first : ℕ
  pub region : ℕ
  pub tallest : ℕ

module _ (l : Layout) where
  -- the row of a type
  abbrev pub rows_in : ℕ → TypeRow
  rows_in = rows_of l.types

  -- the height of a type
  abbrev pub height_in : ℕ → ℕ
  height_in = height l.types

  -- as many parts as a middle of this kind may have, and no more than there may be
  abbrev pub HasWidth : Kind → ℕ → Type 0
  HasWidth kind parts = KindHasWidth kind parts × (parts ≤ l.width)

  abbrev pub type_object : ℕ → Object
  type_object = object_of_type l.types l.type_at

  -- the types stand as static objects, each once
  pub record TypesStand : Type 0 where
    pub stands : (type : ℕ) → type < length l.types
        → object_at l.statics l.first (l.type_at type) ≡ Some (type_object type)
    pub parts : (type : ℕ) → type < length l.types → All (λ part. part < length l.types) (parts_of (rows_in type))
    pub narrow : (type : ℕ) → type < length l.types → (kind : Kind) → kind_of (rows_in type) ≡ Some kind
        → HasWidth kind (length (slots_of (rows_in type)))
    pub once : (a b : ℕ) → a < length l.types → b < length l.types → l.type_at a ≡ l.type_at b → a ≡ b
    pub one_dyn : (a b : ℕ) → a < length l.types → b < length l.types → is_dyn (rows_in a) ≡ true
        → is_dyn (rows_in b) ≡ true → a ≡ b
    pub heights : AreHeights rows_in height_in
    pub low : (type : ℕ) → height_in type < 65535

  module _ (objects : List Object) where
    -- an object stands there, a static one or one of the region
    abbrev pub There : ℕ → Object → Type 0
    There at o = (object_at l.statics l.first at ≡ Some o) ⊎ (object_at objects l.region at ≡ Some o)

    pub record HoldsType (w type : ℕ) : Type 0 where
      pub known : type < length l.types
      pub is : w ≡ l.type_at type

    -- the word holds the coercion: 0 holds Id, and another word is the address of the coercion's object
    abbrev mutual
      pub Held : Coercion → ℕ → Type 0
      Held Id w = w ≡ 0
      Held (Fail label) w = There w (Fixed (header 8 0 1) (label ∷ []))
      Held (Middle kind parts) w =
          (ws : List ℕ)
          × There w (Fixed (header (kind_number kind) (coercion_height height_in (Middle kind parts)) (length ws)) ws)
          × AreHeld parts ws × HasWidth kind (length ws)
      Held (Inject g kept) w =
          (wg wt : ℕ) × There w (Fixed (header 13 (coercion_height height_in (Inject g kept)) 2) (wg ∷ wt ∷ []))
          × Held g wg × HoldsType wt kept
      Held (Project wanted label i) w =
          (wt wi : ℕ)
          × There w (Fixed (header 14 (coercion_height height_in (Project wanted label i)) 3) (wt ∷ label ∷ wi ∷ []))
          × HoldsType wt wanted × Held i wi

      pub AreHeld : Coercions → List ℕ → Type 0
      AreHeld NoCoercions [] = Unit {0}
      AreHeld NoCoercions (w ∷ ws) = ⊥
      AreHeld (CoercionThen c rest) [] = ⊥
      AreHeld (CoercionThen c rest) (w ∷ ws) = Held c w × AreHeld rest ws
