-- Written types as they are put into a table of types: parts first, from left to right.
use Rattle.std.specs.Prelude.{ℕ, List, [], ◌∷◌}
use Rattle.grift_base.specs.Types.{FunRow, TupleRow, RefRow, VectRow}
use Rattle.type_graph.specs.Forming.{Forming, ◌>>=◌, formed, intern}
use Rattle.surface_trees.specs.Trees.{TypeExpr, TypeNode, TypeExprs, TypeAt, BaseType, FunType, TupleType, RefType}
use Rattle.surface_trees.specs.Trees.{VectType, NoTypes, TypeThen}

abbrev mutual
  pub form_type : TypeExpr → Forming ℕ
  form_type (TypeAt place node) = form_node node

  pub form_node : TypeNode → Forming ℕ
  form_node (BaseType row) = intern row
  form_node (FunType parameters answer) = do
    parameter_types ← form_types parameters
    answer_type ← form_type answer
    intern (FunRow parameter_types answer_type)
  form_node (TupleType parts) = do
    part_types ← form_types parts
    intern (TupleRow part_types)
  form_node (RefType content) = do
    content_type ← form_type content
    intern (RefRow content_type)
  form_node (VectType content) = do
    content_type ← form_type content
    intern (VectRow content_type)

  pub form_types : TypeExprs → Forming (List ℕ)
  form_types NoTypes = formed []
  form_types (TypeThen type rest) = do
    first ← form_type type
    others ← form_types rest
    formed (first ∷ others)
