use Rattle.std.proofs.Common.{◌≡◌, []}
use Rattle.sexpr_reader.specs.View.{datums_of}
use Rattle.form_table.specs.Marked.{all_marked}
use Rattle.form_table.specs.Walk.{walk_params}
use Rattle.surface_trees.specs.Views.{params_of}
use Rattle.surface_syntax.proofs.ParamRows.{behind_params}
use Rattle.surface_syntax.proofs.params.params.Given as goal

-- the parameters so far and what the walk reads behind them are what it reads in all
abbrev pub invariant-loop-list : goal.invariant-loop-list
invariant-loop-list l =
    behind_params (params_of l.params) (walk_params l.room l.scope (all_marked (datums_of l.list)))
    ≡ walk_params 6 [] (all_marked (datums_of l.elements))
