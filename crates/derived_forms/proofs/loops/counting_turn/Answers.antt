use Rattle.std.proofs.lemmas.Result.{IfOk-at_ok}
use Rattle.derived_forms.proofs.loops.counting_turn.Goals as goal

pub returns : goal.returns
returns c =
    rw (
      ← c.in_ok-body.ensures.value,
      ← IfOk-at_ok _ c.in_ok-body.ensures.made c.next_call-call.ensures,
      ← c.in_ok-turn.ensures,
    ) c.sequence_at.ensures
