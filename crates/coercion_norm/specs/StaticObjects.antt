-- How words hold types and coercions, and the objects that stand for the rows of tables.
use Rattle.std.specs.Prelude.{◌≡◌, ℕ, zero, suc, ◌+◌, List, [], ◌∷◌, ◌++◌, length, map}
use Rattle.std.specs.Prelude.{Some}
use Rattle.std.specs.Prelude.{slice_index}
use Rattle.grift_base.specs.Types.{TypeRow, TypeRows, IntRow, BoolRow, UnitRow, DynRow, FunRow, TupleRow, RefRow}
use Rattle.grift_base.specs.Types.{VectRow}
use Rattle.grift_base.specs.Types.{parts_of}
use Rattle.type_graph.specs.Trees.{height}
use Rattle.object_layout.specs.declared.headers.Header.{Header}
use Rattle.object_layout.specs.declared.kinds.Kind.{Kind as ObjectKind}
use Rattle.object_layout.specs.declared.kinds.Kind.TheVariants.{Fail as FailObject, Fun as FunObject, Tup as TupObject}
use Rattle.object_layout.specs.declared.kinds.Kind.TheVariants.{Ref as RefObject, Vec as VecObject}
use Rattle.object_layout.specs.declared.kinds.Kind.TheVariants.{Inject as InjectObject, Project as ProjectObject}
use Rattle.object_layout.specs.declared.kinds.Kind.TheVariants.{IntType, BoolType, UnitType, DynType, FunType}
use Rattle.object_layout.specs.declared.kinds.Kind.TheVariants.{TupleType, RefType, VecType}
use Rattle.object_layout.specs.Kinds.{kind_number}
use Rattle.object_layout.specs.Headers.{packed}
use Rattle.object_layout.specs.Wholes.{Telling, header_at}
use Rattle.coercion_norm.specs.Coercions.{Kind, FunKind, TupKind, RefKind, VecKind, Coercion, Coercions, Id, Fail}
use Rattle.coercion_norm.specs.Coercions.{Middle}
use Rattle.coercion_norm.specs.Coercions.{Inject, Project, NoCoercions, CoercionThen, rows_of}
use Rattle.coercion_norm.specs.Heights.{coercion_height}
use Rattle.coercion_norm.specs.Nodes.{Node, IdNode, FailNode, MiddleNode, InjectNode, ProjectNode, tree_of}

-- ---- headers

abbrev pub type_kind : TypeRow → ObjectKind
type_kind IntRow = IntType
type_kind BoolRow = BoolType
type_kind UnitRow = UnitType
type_kind DynRow = DynType
type_kind (FunRow parameters answer) = FunType
type_kind (TupleRow parts) = TupleType
type_kind (RefRow content) = RefType
type_kind (VectRow content) = VecType

abbrev pub middle_kind : Kind → ObjectKind
middle_kind FunKind = FunObject
middle_kind TupKind = TupObject
middle_kind RefKind = RefObject
middle_kind VecKind = VecObject

abbrev pub header : ObjectKind → ℕ → ℕ → Header
header kind height count = record { kind = kind_number kind; height = height; count = count }

-- the words that are told for these places
abbrev pub words_at : List ℕ → List ℕ → List ℕ
words_at told places = map (λ place. slice_index told place) places

-- how many coercions
abbrev pub count_of : Coercions → ℕ
count_of NoCoercions = 0
count_of (CoercionThen c rest) = suc (count_of rest)

abbrev pub fail_header : Header
fail_header = header FailObject 0 1

module _ (types : TypeRows) where
  -- the header of a type's object
  abbrev pub type_header : ℕ → Header
  type_header type =
      header (type_kind (rows_of types type)) (height types type) (length (parts_of (rows_of types type)))

  abbrev pub type_headers : ℕ → List Header
  type_headers type = type_header type ∷ []

  abbrev pub middle_header : Kind → Coercions → Header
  middle_header kind parts =
      header (middle_kind kind) (coercion_height (height types) (Middle kind parts)) (count_of parts)

  abbrev pub inject_header : Coercion → ℕ → Header
  inject_header g kept = header InjectObject (coercion_height (height types) (Inject g kept)) 2

  abbrev pub project_header : ℕ → ℕ → Coercion → Header
  project_header wanted label i =
      header ProjectObject (coercion_height (height types) (Project wanted label i)) 3

  -- the header of a coercion's object; Id has none
  abbrev pub coercion_headers : Coercion → List Header
  coercion_headers Id = []
  coercion_headers (Fail label) = fail_header ∷ []
  coercion_headers (Middle kind parts) = middle_header kind parts ∷ []
  coercion_headers (Inject g kept) = inject_header g kept ∷ []
  coercion_headers (Project wanted label i) = project_header wanted label i ∷ []

-- a type's object, where the addresses of its parts are told
abbrev pub type_object : TypeRows → List ℕ → ℕ → List ℕ
type_object types type_at type = packed (type_header types type) ∷ words_at type_at (parts_of (rows_of types type))

-- the object of a coercion of this height, by its node, where the addresses of types and coercions are told
abbrev pub node_object : List ℕ → List ℕ → ℕ → Node → List ℕ
node_object type_at coercion_at high IdNode = []
node_object type_at coercion_at high (FailNode label) = packed fail_header ∷ label ∷ []
node_object type_at coercion_at high (MiddleNode kind parts) =
    packed (header (middle_kind kind) high (length parts)) ∷ words_at coercion_at parts
node_object type_at coercion_at high (InjectNode g kept) =
    packed (header InjectObject high 2) ∷ slice_index coercion_at g ∷ slice_index type_at kept ∷ []
node_object type_at coercion_at high (ProjectNode wanted label i) =
    packed (header ProjectObject high 3) ∷ slice_index type_at wanted ∷ label ∷ slice_index coercion_at i ∷ []

-- what a function gives for the numbers below another, one after the other
abbrev pub up_to : {A : Type 0} → (ℕ → List A) → ℕ → List A
up_to give zero = []
up_to give (suc n) = up_to give n ++ give n

-- the headers of all rows: of the types, then of the coercions
abbrev pub static_headers : TypeRows → List Node → List Header
static_headers types nodes =
    up_to (type_headers types) (length types)
    ++ up_to (λ c. coercion_headers types (tree_of nodes c)) (length nodes)

-- ---- words that hold types and coercions

module _ (memory : Telling) where
  -- these words stand from an address on
  abbrev pub Tells : ℕ → List ℕ → Type 0
  Tells at [] = Unit {0}
  Tells at (word ∷ words) = (memory at ≡ Some word) × Tells (at + 8) words

  -- a word that holds something stands at an address
  abbrev pub Stands : (ℕ → Type 0) → ℕ → Type 0
  Stands Holds at = (word : ℕ) × (memory at ≡ Some word) × Holds word

  -- words that hold these types stand from an address on
  abbrev pub StandEach : (ℕ → ℕ → Type 0) → ℕ → List ℕ → Type 0
  StandEach Holds at [] = Unit {0}
  StandEach Holds at (type ∷ rest) = Stands (λ word. Holds word type) at × StandEach Holds (at + 8) rest

  module _ (types : TypeRows) where
    -- The word holds the type, to a depth: it is the address of the type's object, whose further words hold its parts.
    abbrev pub HoldsTypeTo : ℕ → ℕ → ℕ → Type 0
    HoldsTypeTo zero word type = Unit {0}
    HoldsTypeTo (suc depth) word type =
        (header_at memory word ≡ Some (type_header types type))
        × StandEach (HoldsTypeTo depth) (word + 8) (parts_of (rows_of types type))

    abbrev pub HoldsType : ℕ → ℕ → Type 0
    HoldsType word type = (depth : ℕ) → HoldsTypeTo depth word type

    -- The word holds the coercion: 0 holds Id, and another word is the address of the coercion's object, whose further
    -- words hold its parts.
    abbrev mutual
      pub HoldsCoercion : Coercion → ℕ → Type 0
      HoldsCoercion Id word = word ≡ 0
      HoldsCoercion (Fail label) word =
          (header_at memory word ≡ Some fail_header) × (memory (word + 8) ≡ Some label)
      HoldsCoercion (Middle kind parts) word =
          (header_at memory word ≡ Some (middle_header types kind parts)) × StandCoercions parts (word + 8)
      HoldsCoercion (Inject g kept) word =
          (header_at memory word ≡ Some (inject_header types g kept))
          × Stands (HoldsCoercion g) (word + 8)
          × Stands (λ other. HoldsType other kept) (word + 8 + 8)
      HoldsCoercion (Project wanted label i) word =
          (header_at memory word ≡ Some (project_header types wanted label i))
          × Stands (λ other. HoldsType other wanted) (word + 8)
          × (memory (word + 8 + 8) ≡ Some label)
          × Stands (HoldsCoercion i) (word + 8 + 8 + 8)

      pub StandCoercions : Coercions → ℕ → Type 0
      StandCoercions NoCoercions at = Unit {0}
      StandCoercions (CoercionThen c rest) at = Stands (HoldsCoercion c) at × StandCoercions rest (at + 8)
