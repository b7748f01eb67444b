use Rattle.std.proofs.Common.{refl}
use Rattle.blame_audit.specs.Claims.{program_over}
use Rattle.insert_steps.specs.Views.{entries_of}
use Rattle.command_words.specs.Commands.{Model}
use Rattle.command_words.specs.ReadCommands.{name_bytes}
use Rattle.grift_cli.proofs.Saying.{has_loaded, says_load_fault, says_model, says_source_fault}
use Rattle.grift_cli.proofs.top.report_of_model.Goals as goal

pub returns-in-Err : goal.returns-in-Err
returns-in-Err g c words img is none =
    rw c.report_of_load.ensures (says_load_fault _ (Model c.args.file.now c.args.steps (name_bytes c.args.input)) _
    c.in-Err.fault is refl (record { out = record { written = refl; faults = refl }; img = none }) c.in-Err.ensures)

pub returns-in-Ok-elaborate_text : goal.returns-in-Ok-elaborate_text
returns-in-Ok-elaborate_text g c words img is none =
    let loaded = c.in-Ok.loaded in
    let done = c.in-Ok-elaborate_text.done in
    says_model _ (program_over done.types done.elab) c.args.steps loaded.input c.run_model.result (record {
      file = c.args.file.now;
      input_name = name_bytes c.args.input;
      text = c.as_slice.result.now;
      loaded = has_loaded _ (Model c.args.file.now c.args.steps (name_bytes c.args.input)) _ c.as_slice.result.now
          loaded.input loaded.bytes loaded.input is refl c.in-Ok.ensures c.as_slice.ensures refl;
      type = done.elab.ty.0;
      casts = entries_of done.elab.casts;
      elaborated = c.in-Ok-elaborate_text.ensures.outcome;
      typed = c.in-Ok-elaborate_text.ensures.typed;
      no_image = none;
    }) c.run_model.ensures

pub returns : goal.returns
returns g c words img is none =
    let loaded = c.in-Ok.loaded in
    rw c.report_of_source.ensures (says_source_fault _ (Model c.args.file.now c.args.steps (name_bytes c.args.input))
    c.as_slice.result.now loaded.input c.in-Err-elaborate_text.fault tt
    (has_loaded _ (Model c.args.file.now c.args.steps (name_bytes c.args.input)) _ c.as_slice.result.now loaded.input
    loaded.bytes loaded.input is refl c.in-Ok.ensures c.as_slice.ensures refl)
    (record { out = record { written = refl; faults = refl }; img = none }) c.in-Err-elaborate_text.ensures.refused)
