use Rattle.std.proofs.Common.{refl, ◌∙◌, subst}
use Rattle.rv_machine.specs.Image.{IsImage}
use Rattle.command_words.specs.Commands.{Exec}
use Rattle.command_words.specs.ReadCommands.{name_bytes}
use Rattle.grift_cli.proofs.Saying.{has_loaded, says_load_fault, says_image_fault, says_exec}
use Rattle.grift_cli.proofs.top.report_of_exec.Goals as goal

pub returns-in-Err : goal.returns-in-Err
returns-in-Err g c words img is none =
    rw c.report_of_load.ensures (says_load_fault _ (Exec c.args.file.now c.args.limits (name_bytes c.args.input)) _
    c.in-Err.fault is refl (record { out = record { written = refl; faults = refl }; img = none }) c.in-Err.ensures)

pub returns-in-Ok-read_image : goal.returns-in-Ok-read_image
returns-in-Ok-read_image g c words img is none =
    let loaded = c.in-Ok.loaded in
    says_exec _ (record {
      limits = c.args.limits;
      image = c.in-Ok-read_image.image;
      input = loaded.input;
      image_file = record {
        file = c.args.file.now;
        input_name = name_bytes c.args.input;
        loaded = has_loaded _ (Exec c.args.file.now c.args.limits (name_bytes c.args.input)) _
            c.in-Ok-read_image.image loaded.input loaded.bytes loaded.input is refl c.in-Ok.ensures
            (c.in-Ok-read_image.ensures.image ∙ c.as_slice.ensures) refl;
        whole = subst IsImage c.image.view_is c.image.invariant;
        no_image = none;
      };
    }) c.exec_image.result c.exec_image.ensures

pub returns : goal.returns
returns g c words img is none =
    let loaded = c.in-Ok.loaded in
    rw c.report_of_image.ensures (says_image_fault _ c.args.file.now c.args.limits (name_bytes c.args.input)
    c.as_slice.result.now loaded.input c.in-Err-read_image.fault
    (has_loaded _ (Exec c.args.file.now c.args.limits (name_bytes c.args.input)) _ c.as_slice.result.now loaded.input
    loaded.bytes loaded.input is refl c.in-Ok.ensures c.as_slice.ensures refl)
    (record { out = record { written = refl; faults = refl }; img = none }) c.in-Err-read_image.ensures.fault)
