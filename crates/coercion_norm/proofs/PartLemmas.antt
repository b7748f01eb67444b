-- Parts one after the other: whether they are all Id, and the highest of them.
use Rattle.std.proofs.Common.{◌≡◌, ℕ, zero, suc, ◌+◌, ◌<◌, ◌≤◌, max, Bool, true, false, List, [], ◌∷◌, ◌++◌, length}
use Rattle.std.proofs.Common.{get_or, take, Some, All, refl, sym, ap, ◌∙◌, subst, arith}
use Rattle.std.specs.Prelude.{◌&&◌, slice_get}
use Rattle.std.proofs.Math.Bool.{and-false}
use Rattle.std.proofs.lemmas.List.Elements.{All-head, All-tail}
use Rattle.coercion_norm.specs.declared.nodes.CoercionId.{CoercionId}
use Rattle.coercion_norm.specs.declared.nodes.CoercionNode.{CoercionNode}
use Rattle.coercion_norm.specs.declared.nodes.CoercionNode.TheVariants.{Id as IdCase}
use Rattle.coercion_norm.specs.Coercions.{Coercion, is_id, all_id}
use Rattle.coercion_norm.specs.Heights.{coercion_height, highest}
use Rattle.coercion_norm.specs.Nodes.{Node, AreOrdered, coercion_places, node_of, trees, grown, tree_of}
use Rattle.coercion_norm.proofs.NodeLemmas.{tree_is}

next_is : (k : ℕ) → suc k ≡ k + 1
next_is k = omega arith

pub part_at : (P : ℕ → Type 0) (parts : List CoercionId) (k : ℕ) (d : CoercionId) → k < length parts
    → All P (coercion_places parts) → P (get_or parts k d).0
part_at P [] k d within all = absurd (omega arith)
part_at P (part ∷ parts) zero d within all = All-head P part.0 (coercion_places parts) all
part_at P (part ∷ parts) (suc k) d within all =
    part_at P parts k d (omega arith) (All-tail P part.0 (coercion_places parts) all)

-- ---- Id

pub is_id_at : (nodes : List Node) (place : ℕ) (node : Node) → AreOrdered nodes → slice_get nodes place ≡ Some node
    → is_id (tree_of nodes place) ≡ is_id (grown (tree_of nodes) (Some node))
is_id_at nodes place node ordered e = ap is_id (tree_is nodes place node ordered.before e)

pub is_other : (at : ℕ → Coercion) (node : CoercionNode) → (node ≡ IdCase → ⊥)
    → is_id (grown at (Some (node_of node))) ≡ false
is_other at IdCase other = absurd (other refl)
is_other at _ other = refl

module _ (at : ℕ → Coercion) where
  all_id_next : (parts : List CoercionId) (k : ℕ) (d : CoercionId) → k < length parts
      → all_id (trees at (coercion_places (take k parts))) ≡ true → is_id (at (get_or parts k d).0) ≡ true
      → all_id (trees at (coercion_places (take (suc k) parts))) ≡ true
  all_id_next [] k d within before now = absurd (omega arith)
  all_id_next (part ∷ parts) zero d within before now = ap (λ b. b && true) now
  all_id_next (part ∷ parts) (suc k) d within before now =
      more (is_id (at part.0)) (all_id (trees at (coercion_places (take k parts)))) before
      (λ rest. all_id_next parts k d (omega arith) rest now)
    where
      more : (a b : Bool) {c : Bool} → (a && b) ≡ true → (b ≡ true → c ≡ true) → (a && c) ≡ true
      more true b e f = f e
      more false b e f = absurd (cc e)

  pub all_id_more : (parts : List CoercionId) (k : ℕ) (d : CoercionId) → k < length parts
      → all_id (trees at (coercion_places (take k parts))) ≡ true → is_id (at (get_or parts k d).0) ≡ true
      → all_id (trees at (coercion_places (take (k + 1) parts))) ≡ true
  all_id_more parts k d within before now =
      subst (λ n. all_id (trees at (coercion_places (take n parts))) ≡ true) (next_is k)
      (all_id_next parts k d within before now)

  pub all_id_not : (parts : List CoercionId) (k : ℕ) (d : CoercionId) → k < length parts
      → is_id (at (get_or parts k d).0) ≡ false → all_id (trees at (coercion_places parts)) ≡ false
  all_id_not [] k d within e = absurd (omega arith)
  all_id_not (part ∷ parts) zero d within e = ap (λ b. b && all_id (trees at (coercion_places parts))) e
  all_id_not (part ∷ parts) (suc k) d within e =
      ap (λ b. is_id (at part.0) && b) (all_id_not parts k d (omega arith) e) ∙ and-false (is_id (at part.0))

  -- ---- heights

  module _ (count : ℕ → ℕ) where
    highest_next : (parts : List CoercionId) (k : ℕ) (d : CoercionId) → k < length parts
        → highest count (trees at (coercion_places (take (suc k) parts)))
        ≡ max (highest count (trees at (coercion_places (take k parts))))
        (coercion_height count (at (get_or parts k d).0))
    highest_next [] k d within = absurd (omega arith)
    highest_next (part ∷ parts) zero d within = omega arith
    highest_next (part ∷ parts) (suc k) d within =
        let rest = highest_next parts k d (omega arith) in omega (arith, rest)

    pub highest_more : (parts : List CoercionId) (k : ℕ) (d : CoercionId) → k < length parts
        → highest count (trees at (coercion_places (take (k + 1) parts)))
        ≡ max (highest count (trees at (coercion_places (take k parts))))
        (coercion_height count (at (get_or parts k d).0))
    highest_more parts k d within =
        ap (λ n. highest count (trees at (coercion_places (take n parts)))) (sym (next_is k))
        ∙ highest_next parts k d within

    pub highest-append : (places : List ℕ) (last : ℕ) → highest count (trees at (places ++ last ∷ []))
        ≡ max (highest count (trees at places)) (coercion_height count (at last))
    highest-append [] last = omega arith
    highest-append (place ∷ places) last = let rest = highest-append places last in omega (arith, rest)

    -- a part is no higher than the highest
    pub part_no_higher : (places : List ℕ) (k d : ℕ) → k < length places
        → coercion_height count (at (get_or places k d)) ≤ highest count (trees at places)
    part_no_higher [] k d within = absurd (omega arith)
    part_no_higher (place ∷ places) zero d within = omega arith
    part_no_higher (place ∷ places) (suc k) d within =
        let rest = part_no_higher places k d (omega arith) in omega (arith, rest)
