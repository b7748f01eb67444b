use Rattle.std.proofs.Common.{[], refl, sym}
use Rattle.compile_driver.specs.Compiling.{program_of}
use Rattle.grift_cli.specs.Listing.{command_by, seen_by}
use Rattle.grift_cli.proofs.Saying.{says_shown, says_source_fault, says_unloaded, shows_image, source_loaded}
use Rattle.grift_cli.proofs.Saying.{view_reads}
use Rattle.grift_cli.proofs.top.report_of_view.Goals as goal

pub returns-in-Err : goal.returns-in-Err
returns-in-Err g c words img is none =
    rw c.report_of_load.ensures (says_unloaded _ (command_by c.args.view c.args.file.now) c.args.file.now c.in-Err.fault
    (view_reads c.args.view c.args.file.now) is
    (record { out = record { written = refl; faults = refl }; img = none }) c.in-Err.ensures)

pub returns-in-Ok-compile : goal.returns-in-Ok-compile
returns-in-Ok-compile g c words img is none =
    let loaded = c.in-Ok.loaded in
    let compiled = c.in-Ok-compile.compiled in
    says_shown _ (seen_by c.args.view compiled.image) c.put_view.result (record {
      command = command_by c.args.view c.args.file.now;
      text = c.as_slice.result.now;
      loaded = source_loaded _ (command_by c.args.view c.args.file.now) c.args.file.now c.as_slice.result.now
          loaded.bytes loaded.input (view_reads c.args.view c.args.file.now) is c.in-Ok.ensures c.as_slice.ensures
          (sym c.in-Ok.ensures.input_is);
      shows = shows_image c.args.view c.args.file.now c.as_slice.result.now compiled.image (record {
        program = program_of compiled;
        source = c.in-Ok-compile.ensures.source;
        whole = c.in-Ok-compile.ensures.whole;
        follows = c.in-Ok-compile.ensures.follows;
        account = c.in-Ok-compile.ensures.account;
      });
      no_image = none;
    }) c.put_view.ensures

pub returns : goal.returns
returns g c words img is none =
    let reads = view_reads c.args.view c.args.file.now in
    rw c.report_of_source.ensures (says_source_fault _ (command_by c.args.view c.args.file.now) c.as_slice.result.now []
    c.in-Err-compile.fault reads.of_source (source_loaded _ (command_by c.args.view c.args.file.now) c.args.file.now
    c.as_slice.result.now c.in-Ok.loaded.bytes c.in-Ok.loaded.input reads is c.in-Ok.ensures c.as_slice.ensures
    (sym c.in-Ok.ensures.input_is))
    (record { out = record { written = refl; faults = refl }; img = none }) c.in-Err-compile.ensures.refused)
