-- Nodes of the compiler: when two are one, and what contracts see of them.
use Rattle.std.proofs.Common.{◌≡◌, List, [], ◌∷◌, ◌++◌, refl, ap, ap₂, rules, Decides}
use Rattle.std.specs.Cmp.Lexicographic.{pointwise}
use Rattle.std.proofs.lemmas.List.{same_from_push}
use Rattle.std.proofs.lemmas.Slice.Eq.{slice_eq-Decides}
use Rattle.type_graph.proofs.Public.{map-injective}
use Rattle.coercion_norm.specs.declared.nodes.CoercionId.{CoercionId}
use Rattle.coercion_norm.specs.contracts.nodes.CoercionIdPartialEq.TheImpl.{ghosts as ids}
use Rattle.coercion_norm.specs.declared.nodes.CoercionNode.{CoercionNode}
use Rattle.coercion_norm.specs.declared.nodes.CoercionNode.TheVariants.{Id, Fail, Fun, Tup, Ref, Vec, Inject, Project}
use Rattle.coercion_norm.specs.contracts.nodes.CoercionNodePartialEq.TheImpl.{ghosts}
use Rattle.grift_base.specs.declared.places.TypeId.{TypeId}
use Rattle.grift_base.specs.declared.places.LabelId.{LabelId}
use Rattle.coercion_norm.specs.Nodes.{coercion_places, node_of}

-- ---- nodes that compare as equal

same_id : (x y : CoercionId) → Decides (ids.eq x y) (x ≡ y)
same_id x y = (search rules, search rules)

same_ids : (xs ys : List CoercionId) → Decides (pointwise ids.eq xs ys) (xs ≡ ys)
same_ids xs ys = slice_eq-Decides same_id xs ys (pointwise ids.eq xs ys) refl

-- the comparison of nodes tells whether they are the same
pub same_node : (x y : CoercionNode) → Decides (ghosts.eq x y) (x ≡ y)
same_node x y = search (rules, same_ids)

-- ---- a node and what contracts see of it

coercion_is : (x y : CoercionId) → x.0 ≡ y.0 → x ≡ y
coercion_is x y e = λ i. record { 0 = e i }

type_is : (x y : TypeId) → x.0 ≡ y.0 → x ≡ y
type_is x y e = λ i. record { 0 = e i }

label_is : (x y : LabelId) → x.0 ≡ y.0 → x ≡ y
label_is x y e = λ i. record { 0 = e i }

places-injective : (xs ys : List CoercionId) → coercion_places xs ≡ coercion_places ys → xs ≡ ys
places-injective xs ys e = map-injective (λ (id : CoercionId). id.0) coercion_is xs ys e

-- two nodes are seen as one only where they are one
pub node_of-injective : (x y : CoercionNode) → node_of x ≡ node_of y → x ≡ y
node_of-injective Id Id e = refl
node_of-injective (Fail p) (Fail q) e =
    let label : p.0 ≡ q.0 = cc in ap Fail (label_is p q label)
node_of-injective (Fun xs x) (Fun ys y) e =
    let places : coercion_places xs ++ x.0 ∷ [] ≡ coercion_places ys ++ y.0 ∷ [] = cc in
    let ends = same_from_push (coercion_places xs) (coercion_places ys) x.0 y.0 places in
    ap₂ Fun (places-injective xs ys ends.0) (coercion_is x y ends.1)
node_of-injective (Tup xs) (Tup ys) e =
    let places : coercion_places xs ≡ coercion_places ys = cc in ap Tup (places-injective xs ys places)
node_of-injective (Ref r w) (Ref s v) e =
    let read : r.0 ≡ s.0 = cc in
    let write : w.0 ≡ v.0 = cc in
    ap₂ Ref (coercion_is r s read) (coercion_is w v write)
node_of-injective (Vec r w) (Vec s v) e =
    let read : r.0 ≡ s.0 = cc in
    let write : w.0 ≡ v.0 = cc in
    ap₂ Vec (coercion_is r s read) (coercion_is w v write)
node_of-injective (Inject g t) (Inject h u) e =
    let before : g.0 ≡ h.0 = cc in
    let kept : t.0 ≡ u.0 = cc in
    ap₂ Inject (coercion_is g h before) (type_is t u kept)
node_of-injective (Project t p i) (Project u q j) e =
    let wanted : t.0 ≡ u.0 = cc in
    let label : p.0 ≡ q.0 = cc in
    let after : i.0 ≡ j.0 = cc in
    let one = type_is t u wanted in
    let two = label_is p q label in
    let three = coercion_is i j after in
    cc
node_of-injective x y e = cc
