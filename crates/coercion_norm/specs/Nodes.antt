-- Coercions in a table: nodes whose parts are places.
use Rattle.std.specs.Prelude.{◌≡◌, ℕ, zero, suc, ◌<◌, ◌≤◌, List, [], ◌∷◌, ◌++◌, Option, Some, None, All, length, map}
use Rattle.std.specs.Prelude.{slice_get}
use Rattle.grift_base.specs.Tables.{HasNoRepeats}
use Rattle.coercion_norm.specs.Coercions.{Kind, FunKind, TupKind, RefKind, VecKind, Coercion, Coercions, Id, Fail}
use Rattle.coercion_norm.specs.Coercions.{Middle, Inject, Project, NoCoercions, CoercionThen}
use Rattle.coercion_norm.specs.declared.nodes.CoercionId.{CoercionId}
use Rattle.coercion_norm.specs.declared.nodes.CoercionNode.{CoercionNode}
use Rattle.coercion_norm.specs.declared.nodes.CoercionNode.TheVariants.{Id as IdCase, Fail as FailCase, Fun as FunCase}
use Rattle.coercion_norm.specs.declared.nodes.CoercionNode.TheVariants.{Tup as TupCase, Ref as RefCase}
use Rattle.coercion_norm.specs.declared.nodes.CoercionNode.TheVariants.{Vec as VecCase, Inject as InjectCase}
use Rattle.coercion_norm.specs.declared.nodes.CoercionNode.TheVariants.{Project as ProjectCase}

-- a coercion one constructor deep: its parts are places of coercions
pub data Node : Type 0 where
  IdNode : Node
  FailNode : ℕ → Node
  MiddleNode : Kind → List ℕ → Node
  InjectNode : ℕ → ℕ → Node
  ProjectNode : ℕ → ℕ → ℕ → Node

-- the places that these are
abbrev pub coercion_places : List CoercionId → List ℕ
coercion_places ids = map (λ id. id.0) ids

-- the node that this is
abbrev pub node_of : CoercionNode → Node
node_of IdCase = IdNode
node_of (FailCase label) = FailNode label.0
node_of (FunCase arguments answer) = MiddleNode FunKind (coercion_places arguments ++ answer.0 ∷ [])
node_of (TupCase parts) = MiddleNode TupKind (coercion_places parts)
node_of (RefCase read write) = MiddleNode RefKind (read.0 ∷ write.0 ∷ [])
node_of (VecCase read write) = MiddleNode VecKind (read.0 ∷ write.0 ∷ [])
node_of (InjectCase g kept) = InjectNode g.0 kept.0
node_of (ProjectCase wanted label i) = ProjectNode wanted.0 label.0 i.0

-- the places of a node's parts
abbrev pub node_parts : Node → List ℕ
node_parts IdNode = []
node_parts (FailNode label) = []
node_parts (MiddleNode kind parts) = parts
node_parts (InjectNode g kept) = g ∷ []
node_parts (ProjectNode wanted label i) = i ∷ []

-- the types that a node names
abbrev pub node_types : Node → List ℕ
node_types IdNode = []
node_types (FailNode label) = []
node_types (MiddleNode kind parts) = []
node_types (InjectNode g kept) = kept ∷ []
node_types (ProjectNode wanted label i) = wanted ∷ []

-- how many parts a middle may have: a function has at most 6 arguments, and a tuple 1 to 8 parts
abbrev pub KindHasWidth : Kind → ℕ → Type 0
KindHasWidth FunKind width = (1 ≤ width) × (width ≤ 7)
KindHasWidth TupKind width = (1 ≤ width) × (width ≤ 8)
KindHasWidth RefKind width = width ≡ 2
KindHasWidth VecKind width = width ≡ 2

abbrev pub NodeHasWidth : Node → Type 0
NodeHasWidth IdNode = Unit {0}
NodeHasWidth (FailNode label) = Unit {0}
NodeHasWidth (MiddleNode kind parts) = KindHasWidth kind (length parts)
NodeHasWidth (InjectNode g kept) = Unit {0}
NodeHasWidth (ProjectNode wanted label i) = Unit {0}

-- ---- lists of nodes

-- each node's parts stand before it
abbrev pub PartsBefore : List Node → Type 0
PartsBefore nodes =
    (place : ℕ) (node : Node) → slice_get nodes place ≡ Some node → All (λ part. part < place) (node_parts node)

abbrev pub HaveWidths : List Node → Type 0
HaveWidths nodes = (place : ℕ) (node : Node) → slice_get nodes place ≡ Some node → NodeHasWidth node

-- Id stands first, parts stand before wholes, and no node is too wide
pub record AreOrdered (nodes : List Node) : Type 0 where
  pub first : slice_get nodes 0 ≡ Some IdNode
  pub before : PartsBefore nodes
  pub widths : HaveWidths nodes

-- nodes of a table: no node stands in it twice
pub record AreTableNodes (nodes : List Node) : Type 0 where
  pub ordered : AreOrdered nodes
  pub distinct : HasNoRepeats nodes

-- the second list begins with the first
abbrev pub Grows : List Node → List Node → Type 0
Grows old new = (more : List Node) × (new ≡ old ++ more)

-- ---- nodes as trees

abbrev pub trees : (ℕ → Coercion) → List ℕ → Coercions
trees at [] = NoCoercions
trees at (place ∷ places) = CoercionThen (at place) (trees at places)

-- the coercion of a node, by those of its parts; Id where there is none
abbrev pub grown : (ℕ → Coercion) → Option Node → Coercion
grown at None = Id
grown at (Some IdNode) = Id
grown at (Some (FailNode label)) = Fail label
grown at (Some (MiddleNode kind parts)) = Middle kind (trees at parts)
grown at (Some (InjectNode g kept)) = Inject (at g) kept
grown at (Some (ProjectNode wanted label i)) = Project wanted label (at i)

-- the coercion at a place, where what lies below this depth is Id
abbrev pub tree_to : ℕ → List Node → ℕ → Coercion
tree_to zero nodes place = Id
tree_to (suc depth) nodes place = grown (tree_to depth nodes) (slice_get nodes place)

-- the coercion at a place; the depth is enough, since parts stand before wholes
unfoldable pub tree_of : List Node → ℕ → Coercion
tree_of nodes place = tree_to (suc place) nodes place

-- the list has the place, and this is the coercion there
pub record IsTree (nodes : List Node) (place : ℕ) (tree : Coercion) : Type 0 where
  pub within : place < length nodes
  pub is : tree_of nodes place ≡ tree
