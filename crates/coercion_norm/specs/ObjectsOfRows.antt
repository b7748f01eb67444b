-- The objects that stand for the rows of tables, where the addresses of types and the words of coercions are told.
use Rattle.std.specs.Prelude.{ℕ, ◌+◌, ◌*◌, List, [], ◌∷◌, ◌++◌, length, map, Option, Some, None, slice_get}
use Rattle.grift_base.specs.Types.{TypeRow, TypeRows, parts_of}
use Rattle.type_graph.specs.Trees.{height}
use Rattle.object_layout.specs.Kinds.{kind_number as number_of}
use Rattle.coercion_norm.specs.Coercions.{Kind, rows_of}
use Rattle.coercion_norm.specs.Heights.{coercion_height}
use Rattle.coercion_norm.specs.Nodes.{Node, IdNode, FailNode, MiddleNode, InjectNode, ProjectNode, tree_of}
use Rattle.coercion_norm.specs.Objects.{Object, Fixed}
use Rattle.coercion_norm.specs.StaticObjects.{middle_kind, type_kind as kind_of_type, up_to}

-- the header of a kind, a height and a number of words
abbrev pub header : ℕ → ℕ → ℕ → ℕ
header kind height count = kind + height * 65536 + count * 4294967296

abbrev pub type_kind : TypeRow → ℕ
type_kind row = number_of (kind_of_type row)

abbrev pub kind_number : Kind → ℕ
kind_number kind = number_of (middle_kind kind)

-- the object of a node of this height; Id has none
abbrev pub objects_of_node : (ℕ → ℕ) → (ℕ → ℕ) → ℕ → Option Node → List Object
objects_of_node type_at coercion_at high None = []
objects_of_node type_at coercion_at high (Some IdNode) = []
objects_of_node type_at coercion_at high (Some (FailNode label)) = Fixed (header 8 0 1) (label ∷ []) ∷ []
objects_of_node type_at coercion_at high (Some (MiddleNode kind parts)) =
    Fixed (header (kind_number kind) high (length parts)) (map coercion_at parts) ∷ []
objects_of_node type_at coercion_at high (Some (InjectNode g kept)) =
    Fixed (header 13 high 2) (coercion_at g ∷ type_at kept ∷ []) ∷ []
objects_of_node type_at coercion_at high (Some (ProjectNode wanted label i)) =
    Fixed (header 14 high 3) (type_at wanted ∷ label ∷ coercion_at i ∷ []) ∷ []

module _ (types : TypeRows) (type_at : ℕ → ℕ) where
  -- a type's object
  abbrev pub object_of_type : ℕ → Object
  object_of_type type =
      Fixed (header (type_kind (rows_of types type)) (height types type) (length (parts_of (rows_of types type))))
      (map type_at (parts_of (rows_of types type)))

  -- the objects of the first types, as many as are told
  abbrev pub type_objects : ℕ → List Object
  type_objects = up_to (λ type. object_of_type type ∷ [])

  module _ (nodes : List Node) (coercion_at : ℕ → ℕ) where
    -- the object of the coercion at a place
    abbrev pub objects_of_place : ℕ → List Object
    objects_of_place c =
        objects_of_node type_at coercion_at (coercion_height (height types) (tree_of nodes c)) (slice_get nodes c)

    -- the objects of the first coercions, as many as are told
    abbrev pub coercion_objects : ℕ → List Object
    coercion_objects = up_to objects_of_place

    -- the objects of all types, then those of the first coercions
    abbrev pub static_objects : ℕ → List Object
    static_objects many = type_objects (length types) ++ coercion_objects many
