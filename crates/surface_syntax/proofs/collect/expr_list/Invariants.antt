use Rattle.std.proofs.Common.{◌≡◌, vec_len}
use Rattle.surface_trees.specs.Trees.{NoExprs}
use Rattle.surface_trees.specs.Views.{exprs_of}
use Rattle.surface_syntax.specs.Parts.{exprs_before}
use Rattle.surface_syntax.proofs.collect.expr_list.Given as goal

abbrev pub invariant-loop-last : goal.invariant-loop-last
invariant-loop-last l = exprs_before l.gathered.items (exprs_of l.list) ≡ exprs_before l.initial.gathered.items NoExprs

abbrev pub decreases-loop-last : goal.decreases-loop-last
decreases-loop-last l = vec_len l.gathered
