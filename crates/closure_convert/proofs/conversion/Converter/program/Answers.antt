use Rattle.std.proofs.Common.{◌∙◌}
use Rattle.coer_core.specs.Views.{row_term_of}
use Rattle.closure_convert.specs.Converting.{state, state_of}
use Rattle.closure_convert.specs.Scopes.{known}
use Rattle.closure_convert.proofs.Programs.{number_is, whole_program}
use Rattle.closure_convert.proofs.conversion.Converter.program.Goals as goal

pub returns-clause-procs : goal.returns-clause-procs
returns-clause-procs c = λ none.
    whole_program (row_term_of c.args.term.now) (known c.new.result) (state_of c.new.result c.new-2.result)
    (state c.code.new.self) c.in_ok-body.body c.push.new.self c.new.ensures.known c.new.ensures.captured
    c.new-2.ensures (record { adds = c.in_ok-body.ensures.adds; at = c.in_ok-body.ensures.body })
    c.in_ok-push.ensures.ok none

pub returns-clause-entry : goal.returns-clause-entry
returns-clause-entry c =
    c.in_ok-number.ensures ∙ c.len.ensures
    ∙ number_is (row_term_of c.args.term.now) (known c.new.result) (state_of c.new.result c.new-2.result)
    (state c.code.new.self) c.new-2.ensures c.in_ok-body.ensures.adds
