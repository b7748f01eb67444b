use Rattle.coercion_norm.proofs.laws.heights_are_bounds.Goals as goal
use Rattle.type_graph.specs.Trees.{height}
use Rattle.coercion_norm.specs.Coercions.{rows_of}
use Rattle.coercion_norm.proofs.TableHeights.{heights_of_a_table}
use Rattle.coercion_norm.proofs.HeightNumbers.{bound_from_height, height_from_bound, coerce_no_higher}
use Rattle.coercion_norm.proofs.HeightNumbers.{compose_no_higher}

pub returns : goal.returns
returns c = record {
  types = λ types table. heights_of_a_table types table.finite table.widths;
  coercions = λ types table x n.
      let heights = heights_of_a_table types table.finite table.widths in (
        height_from_bound (rows_of types) (height types) heights x n,
        bound_from_height (rows_of types) (height types) heights x n,
      );
  casts = λ types table.
      coerce_no_higher (rows_of types) (height types) (heights_of_a_table types table.finite table.widths);
  compositions = λ types table.
      compose_no_higher (rows_of types) (height types) (heights_of_a_table types table.finite table.widths);
}
