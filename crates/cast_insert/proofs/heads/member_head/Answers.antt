use Rattle.cast_rules.proofs.Public.{grows_last, grows_on, part_later, parts_later}
use Rattle.cast_insert.proofs.heads.member_head.Goals as goal

pub head_of_types-requires-clause-parameters : goal.head_of_types-requires-clause-parameters
head_of_types-requires-clause-parameters c =
    parts_later _ _ _ (grows_on _ _ _ c.in_ok-answer.ensures.grows c.in_ok-written.ensures.grows)
    c.in_ok-parameters.ensures.parts

pub head_of_types-requires-clause-answer : goal.head_of_types-requires-clause-answer
head_of_types-requires-clause-answer c = part_later _ _ _ c.in_ok-written.ensures.grows c.in_ok-answer.ensures.part

pub returns-clause-grows : goal.returns-clause-grows
returns-clause-grows c =
    grows_last c.head_of_types.result _ _ _ (grows_on _ _ _ c.in_ok-parameters.ensures.grows
    (grows_on _ _ _ c.in_ok-answer.ensures.grows c.in_ok-written.ensures.grows)) c.head_of_types.ensures.grows
