use Rattle.std.proofs.Common.{false, refl, subst, true}
use Rattle.compile_driver.specs.Compiling.{program_of}
use Rattle.command_words.specs.Commands.{Command, IsRun, Run}
use Rattle.command_words.specs.ReadCommands.{name_bytes}
use Rattle.grift_cli.proofs.Saying.{has_loaded, is_compiled, runs_well, says_load_fault, says_run}
use Rattle.grift_cli.proofs.Saying.{says_run_in_space, says_source_fault}
use Rattle.grift_cli.proofs.top.report_of_run.Goals as goal

pub returns-in-Err : goal.returns-in-Err
returns-in-Err g c words name is =
    rw c.report_of_load.ensures (says_load_fault _
    (Run c.args.file.now c.args.limits (name_bytes c.args.input) c.args.space name) _ c.in-Err.fault is refl
    (record { out = record { written = refl; faults = refl }; img = record { written = refl; faults = refl } })
    c.in-Err.ensures)

pub returns-in-Err-compile : goal.returns-in-Err-compile
returns-in-Err-compile g c words name is =
    let loaded = c.in-Ok.loaded in
    rw c.report_of_source.ensures (says_source_fault _
    (Run c.args.file.now c.args.limits (name_bytes c.args.input) c.args.space name)
    c.as_slice.result.now loaded.input c.in-Err-compile.fault tt
    (has_loaded _ (Run c.args.file.now c.args.limits (name_bytes c.args.input) c.args.space name) _
    c.as_slice.result.now loaded.input loaded.bytes loaded.input is refl c.in-Ok.ensures c.as_slice.ensures refl)
    (record { out = record { written = refl; faults = refl }; img = record { written = refl; faults = refl } })
    c.in-Err-compile.ensures.refused)

pub run_image-requires-clause-well : goal.run_image-requires-clause-well
run_image-requires-clause-well g c =
    runs_well c.args.limits _ c.in-Ok.loaded.input (program_of c.in-Ok-compile.compiled) c.requires.region
    c.requires.stack c.in-Ok-compile.ensures.follows

pub run_in_space-requires-clause-well : goal.run_in_space-requires-clause-well
run_in_space-requires-clause-well g c =
    runs_well c.args.limits _ c.in-Ok.loaded.input (program_of c.in-Ok-compile.compiled) c.requires.region
    c.requires.stack c.in-Ok-compile.ensures.follows

pub returns-then-space : goal.returns-then-space
returns-then-space g c words name is =
    let loaded = c.in-Ok.loaded in
    let done = c.in-Ok-compile.ensures in
    let command : Command = Run c.args.file.now c.args.limits (name_bytes c.args.input) true name in
    says_run_in_space _ c.args.limits c.in-Ok-compile.compiled.image loaded.input c.in-Ok-compile.compiled.tallest
    c.run_in_space.result c.requires.region c.requires.stack
    (is_compiled _ c.args.file.now c.args.limits (name_bytes c.args.input) true name c.as_slice.result.now loaded.input
    c.in-Ok-compile.compiled (has_loaded _ command _ c.as_slice.result.now loaded.input loaded.bytes loaded.input
    (subst (λ space. IsRun words c.args.file.now c.args.limits (name_bytes c.args.input) space name) c.if-space.true
    is) refl c.in-Ok.ensures c.as_slice.ensures refl) done.source done.told done.whole done.follows done.space
    done.account)
    done.told.tallest c.run_in_space.ensures

pub returns : goal.returns
returns g c words name is =
    let loaded = c.in-Ok.loaded in
    let done = c.in-Ok-compile.ensures in
    let command : Command = Run c.args.file.now c.args.limits (name_bytes c.args.input) false name in
    says_run _ c.args.limits c.in-Ok-compile.compiled.image loaded.input c.run_image.result c.requires.region
    c.requires.stack
    (is_compiled _ c.args.file.now c.args.limits (name_bytes c.args.input) false name c.as_slice.result.now loaded.input
    c.in-Ok-compile.compiled (has_loaded _ command _ c.as_slice.result.now loaded.input loaded.bytes loaded.input
    (subst (λ space. IsRun words c.args.file.now c.args.limits (name_bytes c.args.input) space name) c.if-space.false
    is) refl c.in-Ok.ensures c.as_slice.ensures refl) done.source done.told done.whole done.follows done.space
    done.account)
    c.run_image.ensures
