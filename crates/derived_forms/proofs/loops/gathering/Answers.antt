use Rattle.std.proofs.lemmas.Result.{IfOk-at_ok}
use Rattle.derived_forms.proofs.loops.gathering.Goals as goal

pub returns : goal.returns
returns c =
    rw (
      ← IfOk-at_ok _ c.in_ok-turn.ensures.first c.gathering_turn-turn.ensures,
      ← IfOk-at_ok _ c.in_ok-turn.ensures.second c.source_at.ensures,
      ← IfOk-at_ok _ c.in_ok-body.ensures.first c.loop_body-body.ensures,
      ← IfOk-at_ok _ (IfOk-at_ok _ c.in_ok-body.ensures.second c.both-types.ensures.first)
          c.gathering_params-params.ensures,
      ← IfOk-at_ok _ (IfOk-at_ok _ c.in_ok-body.ensures.second c.both-types.ensures.second) c.duplicate.ensures,
    ) c.lambda_at.ensures
