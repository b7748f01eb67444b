use Rattle.std.proofs.Common.{◌≡◌, ◌≤◌, []}
use Rattle.sexpr_reader.specs.declared.sexps.SexpList.{size-SexpList}
use Rattle.sexpr_reader.specs.View.{datums_of}
use Rattle.form_table.specs.Marked.{all_marked}
use Rattle.form_table.specs.Pass.{parse_each, parse_lets, parse_letrecs}
use Rattle.surface_syntax.specs.Parts.{lets_before, letrecs_before}
use Rattle.surface_syntax.proofs.Loops.{behind_exprs, with_list}
use Rattle.surface_syntax.proofs.forms.+read_form.Given as goal

-- what is gathered and what the pass reads behind it are what it reads in all
abbrev pub invariant-each-loop-left : goal.invariant-each-loop-left
invariant-each-loop-left l =
    (behind_exprs l.gathered.items (parse_each (all_marked (datums_of l.left)) l.names)
    ≡ parse_each (all_marked (datums_of l.fn.list)) l.fn.names)
    × (size-SexpList l.left ≤ size-SexpList l.fn.list)

abbrev pub invariant-lets-loop-left : goal.invariant-lets-loop-left
invariant-lets-loop-left l =
    (with_list (lets_before l.gathered.items) (parse_lets l.scope (all_marked (datums_of l.left)) l.names)
    ≡ parse_lets [] (all_marked (datums_of l.fn.list)) l.fn.names)
    × (size-SexpList l.left ≤ size-SexpList l.fn.list)

abbrev pub invariant-letrecs-loop-left : goal.invariant-letrecs-loop-left
invariant-letrecs-loop-left l =
    (with_list (letrecs_before l.gathered.items) (parse_letrecs l.scope (all_marked (datums_of l.left)) l.names)
    ≡ parse_letrecs [] (all_marked (datums_of l.fn.list)) l.fn.names)
    × (size-SexpList l.left ≤ size-SexpList l.fn.list)
