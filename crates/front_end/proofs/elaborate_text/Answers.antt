use Rattle.std.proofs.Common.{refl}
use Rattle.std.proofs.lemmas.Result.{err_from_is_err_and}
use Rattle.sexpr_reader.specs.View.{datums_of}
use Rattle.surface_trees.specs.Views.{expr_of}
use Rattle.front_end.proofs.Answered.{read_as, elaborates, fault_given}
use Rattle.front_end.proofs.Sources.{read_programs_are_sources}
use Rattle.front_end.proofs.elaborate_text.Goals as goal

pub returns-in_err-elab-clause-refused : goal.returns-in_err-elab-clause-refused
returns-in_err-elab-clause-refused c =
    let exit = err_from_is_err_and c.from_residual-in_err-elab.result c.from_residual-in_err-elab.ensures.1 in
    let reads = read_as c.args.text.now (datums_of c.in_ok-forms.forms) (expr_of c.in_ok-program.program.body)
    c.in_ok-forms.ensures.reading c.in_ok-program.ensures.program in
    fault_given c.args.text.now (expr_of c.in_ok-program.program.body) c.insert.new.types
    c.from_residual-in_err-elab.result c.in_err-elab.field-0.0 (rw (exit.1, exit.2) refl) reads
    c.in_err-elab.ensures.answer

pub returns-clause-outcome : goal.returns-clause-outcome
returns-clause-outcome c =
    elaborates c.args.text.now (expr_of c.in_ok-program.program.body) _
    (read_as c.args.text.now (datums_of c.in_ok-forms.forms) (expr_of c.in_ok-program.program.body)
    c.in_ok-forms.ensures.reading c.in_ok-program.ensures.program) c.in_ok-elab.ensures.answer

pub returns-clause-program : goal.returns-clause-program
returns-clause-program c =
    record {
      reads = record {
        datums = datums_of c.in_ok-forms.forms;
        reads = c.in_ok-forms.ensures.reading;
        forms = c.in_ok-program.ensures.program;
      };
      count = c.in_ok-program.ensures.count;
    }

pub insert-requires-clause-source : goal.insert-requires-clause-source
insert-requires-clause-source c =
    read_programs_are_sources c.args.text.now (datums_of c.in_ok-forms.forms)
    (expr_of c.in_ok-program.program.body) c.in_ok-forms.ensures.reading c.in_ok-program.ensures.program
