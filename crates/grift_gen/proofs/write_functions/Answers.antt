use Rattle.std.proofs.Common.{◌++◌, ap, ◌∙◌}
use Rattle.grift_gen.specs.Family.{function_line}
use Rattle.grift_gen.proofs.Lines.{no_lines, one_line_more}
use Rattle.grift_gen.proofs.write_functions.Goals as goal

pub loop-i-init : goal.loop-i-init
loop-i-init c = no_lines function_line c.args.text.now

pub loop-i-preserved : goal.loop-i-preserved
loop-i-preserved c =
    c.in_ok-write_function.ensures
    ∙ ap (λ lines. lines ++ function_line c.loop-i.i) c.loop-i.invariant
    ∙ one_line_more function_line c.args.text.now c.loop-i.i
