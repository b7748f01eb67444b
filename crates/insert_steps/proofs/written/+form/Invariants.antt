use Rattle.std.proofs.Common.{◌≡◌, ◌≤◌, ◌+◌, length}
use Rattle.surface_trees.specs.declared.types.TypeExprs.{size-TypeExprs}
use Rattle.surface_trees.specs.Views.{types_of}
use Rattle.type_graph.specs.Rows.{places_of}
use Rattle.cast_rules.specs.Programs.{HaveTypeWidths, depth_of_all, how_many_types}
use Rattle.cast_rules.specs.Room.{AreWithin, Grows}
use Rattle.cast_rules.specs.WrittenTypes.{form_types}
use Rattle.cast_rules.proofs.Public.{forms_behind}
use Rattle.insert_steps.proofs.written.+form.Given as goal

-- the types so far and those that are formed behind them are all that are formed; what is known of these, and how high
-- those so far are
abbrev pub invariant-form_types-loop-left : goal.invariant-form_types-loop-left
invariant-form_types-loop-left l = record {
  formed : form_types (types_of l.fn.list) l.fn.types
      ≡ forms_behind (places_of l.ids) (form_types (types_of l.left) l.types);
  smaller : size-TypeExprs l.left ≤ size-TypeExprs l.fn.list;
  widths : HaveTypeWidths (types_of l.left);
  shallow : depth_of_all (types_of l.left) ≤ depth_of_all (types_of l.fn.list);
  grows : Grows l.fn.types l.types;
  within : AreWithin l.types (depth_of_all (types_of l.fn.list)) (places_of l.ids);
  count : length (places_of l.ids) + how_many_types (types_of l.left) ≡ how_many_types (types_of l.fn.list);
}
