use Rattle.std.proofs.Common.{◌≡◌, ◌<◌, length, sym, subst, rules, arith}
use Rattle.std.specs.Prelude.{slice_index}
use Rattle.placed_code.specs.Check.{Needed}
use Rattle.reg_assign.specs.Numbers.{register_at}
use Rattle.reg_assign.specs.Walks.{Reaches}
use Rattle.reg_assign.proofs.Walking.{behind_needed, closed_on, read_at}
use Rattle.reg_assign.proofs.walks.next.Goals as goal

pub expand-requires-clause-needed : goal.expand-requires-clause-needed
expand-requires-clause-needed c =
    let within : c.args.walk.now.done < length c.args.walk.now.found.items = search rules in
    let at : slice_index c.args.walk.now.found.items c.args.walk.now.done ≡ c.index-place.result.now =
    read_at c.args.walk.now.found.items c.args.walk.now.done c.index-place.result.now within (omega arith) in
    subst (λ p. Needed c.args.items.now p (register_at c.args.walk.now.number)) at
    (behind_needed c.args.items.now (register_at c.args.walk.now.number)
    (slice_index c.args.walk.now.found.items c.args.walk.now.done)
    (c.requires.walk.sound c.args.walk.now.done 0 within))

pub returns-clause-closed : goal.returns-clause-closed
returns-clause-closed c =
    let within : c.args.walk.now.done < length c.args.walk.now.found.items = search rules in
    let at : slice_index c.args.walk.now.found.items c.args.walk.now.done ≡ c.index-place.result.now =
    read_at c.args.walk.now.found.items c.args.walk.now.done c.index-place.result.now within (omega arith) in
    closed_on c.args.items.now c.args.walk.now c.expand.new.walk c.requires.closed c.in_ok-expand.ensures.grows.number
    (let d = c.in_ok-expand.ensures.grows.done in omega arith) c.in_ok-expand.ensures.grows.more
    c.in_ok-expand.ensures.grows.found within
    (subst (Reaches c.args.items.now (register_at c.args.walk.now.number) c.expand.new.walk.found.items) (sym at)
    c.in_ok-expand.ensures.reaches)
