use Rattle.std.proofs.Common.{◌≡◌, vec_len}
use Rattle.surface_trees.specs.Trees.{NoLets}
use Rattle.surface_trees.specs.Views.{lets_of}
use Rattle.surface_syntax.specs.Parts.{lets_before}
use Rattle.surface_syntax.proofs.collect.binding_list.Given as goal

abbrev pub invariant-loop-last : goal.invariant-loop-last
invariant-loop-last l = lets_before l.gathered.items (lets_of l.list) ≡ lets_before l.initial.gathered.items NoLets

abbrev pub decreases-loop-last : goal.decreases-loop-last
decreases-loop-last l = vec_len l.gathered
