use Rattle.std.proofs.Common.{[], length, refl, sym, ap, ◌∙◌}
use Rattle.compile_driver.specs.Compiling.{program_of}
use Rattle.command_words.specs.Commands.{default_limits}
use Rattle.grift_cli.proofs.Generated.{default_region, default_stack, generates, generates_fault}
use Rattle.grift_cli.proofs.Saying.{runs_well}
use Rattle.grift_cli.proofs.generator.generate.Goals as goal

pub put_numbers-requires : goal.put_numbers-requires
put_numbers-requires g c =
    let compiled = c.in-Ok-compile.compiled in
    runs_well default_limits compiled.image [] (program_of compiled) default_region default_stack
    c.in-Ok-compile.ensures.follows

pub returns-in-Ok-compile : goal.returns-in-Ok-compile
returns-in-Ok-compile g c =
    let made = c.in-Ok-compile.ensures in
    generates c.args.number c.len.result c.as_slice.result.now c.in-Ok-compile.compiled _ c.put_numbers.result
    (c.as_slice.ensures ∙ c.in-Ok.ensures.text) (c.len.ensures ∙ ap length (sym c.as_slice.ensures)) made.source
    made.told made.whole made.follows made.account c.put_numbers.ensures

pub returns : goal.returns
returns g c =
    rw c.report_of_source.ensures (generates_fault c.args.number c.as_slice.result.now _ c.in-Err.fault
    (c.as_slice.ensures ∙ c.in-Ok.ensures.text) (record { written = refl; faults = refl }) c.in-Err.ensures.refused)
