use Rattle.std.proofs.lemmas.Result.{IfOk-at_ok}
use Rattle.derived_forms.proofs.loops.with_function.Goals as goal

pub returns : goal.returns
returns c =
    rw (
      ← c.in_ok-body.ensures.value,
      ← IfOk-at_ok _ c.in_ok-members.ensures.second c.one.ensures,
      ← IfOk-at_ok _ c.in_ok-body.ensures.made c.member_of.ensures.name,
      ← IfOk-at_ok _ c.in_ok-body.ensures.made c.member_of.ensures.written,
      ← IfOk-at_ok _ c.in_ok-body.ensures.made c.member_of.ensures.fun,
      ← IfOk-at_ok _ c.in_ok-members.ensures.first c.member_first-members.ensures,
    ) c.letrec_at.ensures
