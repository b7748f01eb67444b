use Rattle.std.proofs.Common.{◌≡◌, Some, slice_get, sym, ap, ◌∙◌}
use Rattle.std.specs.Prelude.{option_map}
use Rattle.std.specs.Map.Iter.{deref_pair}
use Rattle.type_graph.proofs.Public.{value_of_entry}
use Rattle.coercion_norm.proofs.tables.CoercionTable.height.Goals as goal

pub returns-clause-height : goal.returns-clause-height
returns-clause-height c =
    let kept : slice_get c.args.self.now.heights c.args.c.0 ≡ Some c.unwrap.result.1.now =
    rw (← c.self.view_is) (value_of_entry c.self.inside.nodes.entries c.args.c.0 (deref_pair c.unwrap.result)
    (sym c.get_index.ensures.entry ∙ ap (option_map deref_pair) c.unwrap.ensures)) in
    λ types fits. fits.heights_are c.args.c.0 c.unwrap.result.1.now c.requires kept
