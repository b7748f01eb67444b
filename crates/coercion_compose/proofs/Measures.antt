-- What falls where coercions are composed: first the higher of the two heights, and at one height what is left of the
-- two.
use Rattle.std.proofs.Common.{◌≡◌, ℕ, suc, ◌≤◌, max, List, arith}
use Rattle.grift_base.specs.Types.{TypeRows}
use Rattle.type_graph.specs.Trees.{height}
use Rattle.coercion_norm.specs.Coercions.{Coercion, Id, Middle, Inject, Project}
use Rattle.coercion_norm.specs.Heights.{coercion_height, highest}
use Rattle.coercion_norm.specs.Nodes.{Node, tree_of, trees}
use Rattle.coercion_norm.specs.Normal.{is_flat, is_project}
use Rattle.coercion_norm.proofs.Public.{is_inner}
use Rattle.std.proofs.Common.{true, false}

module _ (types : TypeRows) (nodes : List Node) where
  -- the height of the coercion at a place
  abbrev pub high : ℕ → ℕ
  high place = coercion_height (height types) (tree_of nodes place)

  -- the greater height of two
  abbrev pub pair_high : ℕ → ℕ → ℕ
  pair_high c d = max (high c) (high d)

  -- the greater height of two middles with these parts
  abbrev pub parts_high : List ℕ → List ℕ → ℕ
  parts_high cs ds =
      suc (max (highest (height types) (trees (tree_of nodes) cs)) (highest (height types) (trees (tree_of nodes) ds)))

-- how much a coercion has in front of its middle
abbrev pub rank : Coercion → ℕ
rank (Inject g kept) = 1
rank (Project wanted label i) = 2
rank _ = 0

pub rank_most : (c : Coercion) → rank c ≤ 2
rank_most Id = omega arith
rank_most _ = omega arith

pub rank_behind : (c : Coercion) → is_project c ≡ false → rank c ≤ 1
rank_behind (Project wanted label i) e = absurd (cc e)
rank_behind _ e = omega arith

pub rank_inner : (c : Coercion) → is_inner c ≡ true → rank c ≡ 0
rank_inner (Inject g kept) e = absurd (cc e)
rank_inner (Project wanted label i) e = absurd (cc e)
rank_inner _ e = omega arith

pub rank_flat : (c : Coercion) → is_flat c ≡ true → rank c ≡ 0
rank_flat Id e = omega arith
rank_flat (Middle kind parts) e = omega arith
rank_flat _ e = absurd (cc e)
