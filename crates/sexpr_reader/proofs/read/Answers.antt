use Rattle.std.proofs.Common.{ap, sym, ◌∙◌}
use Rattle.std.proofs.lemmas.Result.{err_from_is_err_and}
use Rattle.sexpr_reader.specs.Parts.{state_of}
use Rattle.sexpr_reader.specs.Scanning.{token_of, tokens_at}
use Rattle.sexpr_reader.proofs.Outcomes.{reads_rightly, refuses_rightly, refuses_step}
use Rattle.sexpr_reader.specs.Reader.{run}
use Rattle.sexpr_reader.specs.Grammar.{depth_limit}
use Rattle.sexpr_reader.proofs.read.Goals as goal

pub returns-in_err-take-clause-refused : goal.returns-in_err-take-clause-refused
returns-in_err-take-clause-refused c =
    let p = err_from_is_err_and c.from_residual-in_err-take.result c.from_residual-in_err-take.ensures.1 in
    rw (p.1, p.2) (refuses_step c.args.text.now (state_of c.loop-token.reader) (state_of c.take.new.self)
    (token_of c.in-Some.token) (tokens_at c.args.text.now c.in-Some.next.at) _ c.in_err-take.field-0.0
    (ap (λ ts. run depth_limit ts (state_of c.loop-token.reader)) (sym c.in-Some.ensures.tokens)
    ∙ c.loop-token.invariant.run) c.in_ok-lexeme_meaning.ensures c.in_err-take.ensures)

pub returns-clause-reading : goal.returns-clause-reading
returns-clause-reading c =
    reads_rightly c.args.text.now (state_of c.loop-token.reader) _ c.loop-token.invariant.run c.in_default.ensures
    c.finish.result c.finish.ensures

pub returns-clause-refused : goal.returns-clause-refused
returns-clause-refused c =
    refuses_rightly c.args.text.now (state_of c.loop-token.reader) _ c.loop-token.invariant.run c.in_default.ensures
    c.finish.result c.finish.ensures
