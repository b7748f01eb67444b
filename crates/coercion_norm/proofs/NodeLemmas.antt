-- What a table's places mean is made of what its nodes' parts mean, and stays where nodes are added.
use Rattle.std.proofs.Common.{◌≡◌, ◌⊎◌, inl, inr, ℕ, zero, suc, ◌+◌, ◌<◌, ◌≤◌, Option, Some, None, refl, sym, ap, ◌∙◌}
use Rattle.std.proofs.Common.{subst, List, [], ◌∷◌, ◌++◌, length, get_or, slice_get, length-append, All, arith}
use Rattle.std.proofs.Common.{append-nil, append_assoc}
use Rattle.std.proofs.lemmas.Option.{slice_get_within}
use Rattle.type_graph.proofs.Public.{same_some, slice_get_at, get_kept, get_before_or_last}
use Rattle.coercion_norm.specs.Coercions.{Coercion, Id, Middle, Inject, Project, CoercionThen}
use Rattle.coercion_norm.specs.Nodes.{Node, IdNode, FailNode, MiddleNode, InjectNode, ProjectNode, node_parts}
use Rattle.coercion_norm.specs.Nodes.{NodeHasWidth, PartsBefore, AreOrdered, Grows, trees, grown, tree_to}
use Rattle.coercion_norm.specs.Nodes.{tree_of, IsTree}

-- ---- lists that grow

pub same_nodes : (nodes : List Node) → Grows nodes nodes
same_nodes nodes = ([], sym (append-nil nodes))

pub more_nodes : (a b c : List Node) → Grows a b → Grows b c → Grows a c
more_nodes a b c g h = (g.0 ++ h.0, h.1 ∙ ap (λ x. x ++ h.0) g.1 ∙ append_assoc a g.0 h.0)

pub more_places : (old new : List Node) → Grows old new → length old ≤ length new
more_places old new grows =
    let len : length new ≡ length old + length grows.0 = ap (λ xs. length xs) grows.1 ∙ length-append old grows.0 in
    omega arith

pub node_kept : (old new : List Node) → Grows old new → (place : ℕ) → place < length old
    → slice_get new place ≡ slice_get old place
node_kept old new grows place within =
    let found = slice_get_at old place within in
    ap (λ xs. slice_get xs place) grows.1 ∙ get_kept old grows.0 place found.0 found.1 ∙ sym found.1

-- ---- coercions at places

trees_same : (at other : ℕ → Coercion) (parts : List ℕ) → All (λ part. at part ≡ other part) parts
    → trees at parts ≡ trees other parts
trees_same at other [] h = refl
trees_same at other (x ∷ xs) h =
    ap (λ c. CoercionThen c (trees at xs)) (h 0 0 (omega arith))
    ∙ ap (CoercionThen (other x)) (trees_same at other xs (λ k d l. h (suc k) d (omega arith)))

grown_same : (at other : ℕ → Coercion) (node : Option Node)
    → ((n : Node) → node ≡ Some n → All (λ part. at part ≡ other part) (node_parts n)) →
    grown at node ≡ grown other node
grown_same at other None h = refl
grown_same at other (Some IdNode) h = refl
grown_same at other (Some (FailNode label)) h = refl
grown_same at other (Some (MiddleNode kind parts)) h =
    ap (Middle kind) (trees_same at other parts (h (MiddleNode kind parts) refl))
grown_same at other (Some (InjectNode g kept)) h =
    ap (λ c. Inject c kept) (h (InjectNode g kept) refl 0 0 (omega arith))
grown_same at other (Some (ProjectNode wanted label i)) h =
    ap (Project wanted label) (h (ProjectNode wanted label i) refl 0 0 (omega arith))

-- enough depth gives the same tree, also in another list that has these nodes
tree_same : (other nodes : List Node) → ((k : ℕ) → k < length nodes → slice_get other k ≡ slice_get nodes k)
    → PartsBefore nodes → (n m place : ℕ) → place < n → place < m → place < length nodes
    → tree_to n other place ≡ tree_to m nodes place
tree_same other nodes there before zero m place ln lm l = absurd (omega arith)
tree_same other nodes there before (suc n) zero place ln lm l = absurd (omega arith)
tree_same other nodes there before (suc n) (suc m) place ln lm l =
    ap (grown (tree_to n other)) (there place l)
    ∙ grown_same (tree_to n other) (tree_to m nodes) (slice_get nodes place)
    (λ node e k d r.
    let b : get_or (node_parts node) k d < place = before place node e k d r in
    tree_same other nodes there before n m (get_or (node_parts node) k d) (omega arith) (omega arith) (omega arith))

-- the coercion at a place is that of its node, by those of the node's parts
pub tree_is : (nodes : List Node) (place : ℕ) (node : Node) → PartsBefore nodes → slice_get nodes place ≡ Some node
    → tree_of nodes place ≡ grown (tree_of nodes) (Some node)
unfolding tree_of
tree_is nodes place node before e =
    let l : place < length nodes = slice_get_within nodes place node e in
    ap (grown (tree_to place nodes)) e
    ∙ grown_same (tree_to place nodes) (λ part. tree_to (suc part) nodes part) (Some node)
    (λ n f k d r.
    let same : slice_get nodes place ≡ Some n = e ∙ f in
    let b : get_or (node_parts n) k d < place = before place n same k d r in
    tree_same nodes nodes (λ j w. refl) before place (suc (get_or (node_parts n) k d)) (get_or (node_parts n) k d) b
    (omega arith) (omega arith))

-- where nodes are added, the coercion at a place stays
pub tree_kept : (old new : List Node) → PartsBefore old → Grows old new → (place : ℕ) → place < length old
    → tree_of new place ≡ tree_of old place
unfolding tree_of
tree_kept old new before grows place l =
    tree_same new old (node_kept old new grows) before (suc place) (suc place) place (omega arith) (omega arith) l

pub trees_kept : (old new : List Node) → PartsBefore old → Grows old new → (parts : List ℕ)
    → All (λ part. part < length old) parts → trees (tree_of new) parts ≡ trees (tree_of old) parts
trees_kept old new before grows parts all =
    trees_same (tree_of new) (tree_of old) parts
    (λ k d l. tree_kept old new before grows (get_or parts k d) (all k d l))

pub IsTree-kept : (old new : List Node) (place : ℕ) (tree : Coercion) → PartsBefore old → Grows old new
    → IsTree old place tree → IsTree new place tree
IsTree-kept old new place tree before grows is =
    let more = more_places old new grows in
    let within : place < length old = is.within in
    record { within = omega arith; is = tree_kept old new before grows place within ∙ is.is }

-- the coercion of a node whose parts were there before
pub IsTree-node : (old new : List Node) (place : ℕ) (node : Node) → PartsBefore old → PartsBefore new → Grows old new
    → All (λ part. part < length old) (node_parts node) → slice_get new place ≡ Some node
    → IsTree new place (grown (tree_of old) (Some node))
IsTree-node old new place node before later grows parts e = record {
  within = slice_get_within new place node e;
  is = tree_is new place node later e
      ∙ grown_same (tree_of new) (tree_of old) (Some node)
      (λ n f k d l. tree_kept old new before grows (get_or (node_parts n) k d)
      (subst (λ x. All (λ part. part < length old) (node_parts x)) (same_some node n f) parts k d l));
}

pub id_there : (nodes : List Node) → AreOrdered nodes → IsTree nodes 0 Id
id_there nodes ordered = record {
  within = slice_get_within nodes 0 IdNode ordered.first;
  is = tree_is nodes 0 IdNode ordered.before ordered.first;
}

-- ---- one node more

-- a place and its node in a list with one node more
abbrev InMore : List Node → Node → ℕ → Node → Type 0
InMore nodes node place other = (slice_get nodes place ≡ Some other) ⊎ ((place ≡ length nodes) × (node ≡ other))

pub AreOrdered-push : (nodes : List Node) (node : Node) → AreOrdered nodes
    → All (λ part. part < length nodes) (node_parts node) → NodeHasWidth node → AreOrdered (nodes ++ node ∷ [])
AreOrdered-push nodes node ordered parts width = record {
  first = get_kept nodes (node ∷ []) 0 IdNode ordered.first;
  before = λ place other e. before_by place other (get_before_or_last nodes node other place e);
  widths = λ place other e. width_by place other (get_before_or_last nodes node other place e);
}
  where
    before_by : (place : ℕ) (other : Node) → InMore nodes node place other
        → All (λ part. part < place) (node_parts other)
    before_by place other (inl f) = ordered.before place other f
    before_by place other (inr f) =
        subst (λ x. All (λ part. part < place) (node_parts x)) f.1
        (subst (λ n. All (λ part. part < n) (node_parts node)) (sym f.0) parts)

    width_by : (place : ℕ) (other : Node) → InMore nodes node place other → NodeHasWidth other
    width_by place other (inl f) = ordered.widths place other f
    width_by place other (inr f) = subst NodeHasWidth f.1 width
