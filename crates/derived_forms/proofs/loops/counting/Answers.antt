use Rattle.std.proofs.lemmas.Result.{IfOk-at_ok}
use Rattle.derived_forms.proofs.loops.counting.Goals as goal

pub returns : goal.returns
returns c =
    rw (
      ← IfOk-at_ok _ c.in_ok-turn.ensures.first c.counting_turn-turn.ensures,
      ← IfOk-at_ok _ c.in_ok-turn.ensures.second c.unit_at.ensures,
      ← IfOk-at_ok _ c.in_ok-body.ensures.first c.loop_body-body.ensures,
      ← IfOk-at_ok _ c.in_ok-body.ensures.second c.counter_params.ensures,
      ← c.base_at.ensures,
    ) c.lambda_at.ensures
