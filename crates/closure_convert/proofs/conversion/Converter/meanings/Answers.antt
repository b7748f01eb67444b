use Rattle.std.proofs.Common.{◌≡◌, ◌<◌, ◌+◌, ℕ, length, Some, arith, ap, drop, ◌∙◌, subst, ◌++◌}
use Rattle.std.specs.Prelude.{slice_index_or}
use Rattle.closure_convert.specs.Conversion.{meanings_of}
use Rattle.closure_convert.specs.Converting.{seen}
use Rattle.closure_convert.specs.Scopes.{Reaches, known, over}
use Rattle.closure_convert.proofs.Meanings.{meanings_next, met_next}
use Rattle.closure_convert.proofs.Meeting.{reaches_less}
use Rattle.closure_convert.proofs.Opening.{kept_then}
use Rattle.closure_convert.proofs.conversion.Converter.meanings.Goals as goal

pub loop-name-preserved : goal.loop-name-preserved
loop-name-preserved c =
    let i : ℕ = c.loop-name.name-index in
    let name : ℕ = slice_index_or c.args.names.now i 0 in
    let less : i < length c.args.names.now = omega (arith, c.loop-name-test.true) in record {
      kept = kept_then c.args.self.now.names c.loop-name.self.names c.operand.new.self c.loop-name.invariant.kept
          c.in_ok-operand.ensures.kept;
      captured = met_next (known c.loop-name.self.names) (known c.args.self.now.names)
          c.loop-name.self.names.captured
          c.operand.new.self.captured c.args.names.now i 0 _ less c.loop-name.invariant.kept.scope
          c.in_ok-operand.ensures.captured c.loop-name.invariant.captured;
      procs = c.loop-name.invariant.procs;
      meanings = λ outer r.
          ap (λ l. l ++ meanings_of (drop (i + 1) c.args.names.now) (seen c.args.self.now outer))
          c.in_ok-push.ensures.ok
          ∙ meanings_next (seen c.args.self.now outer) c.args.names.now i 0 c.loop-name.operands
          c.in_ok-operand.field-0 _ less
          (subst (λ s. over s outer name ≡ Some c.in_ok-operand.field-0) c.loop-name.invariant.kept.scope
          (c.in_ok-operand.ensures.meaning outer r))
          (c.loop-name.invariant.meanings outer (reaches_less (known c.loop-name.self.names)
          c.loop-name.self.names.captured name outer
          (subst (λ k. Reaches k outer) c.in_ok-operand.ensures.captured r)));
    }
