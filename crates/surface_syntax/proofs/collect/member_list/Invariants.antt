use Rattle.std.proofs.Common.{◌≡◌, vec_len}
use Rattle.surface_trees.specs.Trees.{NoLetrecs}
use Rattle.surface_trees.specs.Views.{letrecs_of}
use Rattle.surface_syntax.specs.Parts.{letrecs_before}
use Rattle.surface_syntax.proofs.collect.member_list.Given as goal

abbrev pub invariant-loop-last : goal.invariant-loop-last
invariant-loop-last l = letrecs_before l.gathered.items (letrecs_of l.list) ≡ letrecs_before l.initial.gathered.items
    NoLetrecs

abbrev pub decreases-loop-last : goal.decreases-loop-last
decreases-loop-last l = vec_len l.gathered
