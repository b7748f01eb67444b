use Rattle.std.proofs.Common.{inl, inr, subst}
use Rattle.std.specs.Prelude.{Contains}
use Rattle.rv_select.specs.Holding.{Among, writes, MayFollow}
use Rattle.reg_assign.specs.Numbers.{register_at}
use Rattle.reg_assign.proofs.Walking.{found_on}
use Rattle.reg_assign.proofs.walks.expand.Goals as goal

pub returns-clause-reaches : goal.returns-clause-reaches
returns-clause-reaches c p item e f away = by f
  where
    by : MayFollow c.args.items.now item p c.args.place → Contains c.reach_sources.new.walk.found.items p
    by (inl h) =
        found_on c.reach_before.new.walk c.reach_sources.new.walk c.in_ok-reach_sources.ensures.grows p
        (c.in_ok-reach_before.ensures.there p item e h.0 h.1 away)
    by (inr h) =
        c.in_ok-reach_sources.ensures.there h.0 p item h.2 e h.1
        (λ m. away (subst (λ n. Among (register_at n) (writes item)) c.in_ok-reach_before.ensures.grows.number m))
