use Rattle.std.proofs.Common.{◌≡◌, length, sym, ◌∙◌, ap, subst, get_or, arith}
use Rattle.std.specs.Prelude.{Contains}
use Rattle.std.proofs.lemmas.List.Elements.{Contains-get_or}
use Rattle.placed_code.specs.Check.{Needed, Read}
use Rattle.reg_assign.specs.Numbers.{register_at}
use Rattle.reg_assign.specs.Flow.{under}
use Rattle.reg_assign.specs.Walks.{Reaches}
use Rattle.reg_assign.proofs.Walking.{more_reached, has_roots, AreReached}
use Rattle.reg_assign.proofs.walks.begin.Goals as goal

pub expand-requires-clause-needed : goal.expand-requires-clause-needed
expand-requires-clause-needed c =
    let ps = c.under-place-items.result.now in
    let p = get_or ps c.loop-place.place-index 0 in
    let there : Contains (under c.args.flow.now.reads c.args.number) p =
    subst (λ xs. Contains xs p) c.under-place-items.ensures
    (Contains-get_or ps c.loop-place.place-index 0 c.loop-place-test.true) in
    let o = c.requires.reads.only c.args.number p there in
    subst (λ n. Needed c.args.items.now p (register_at n)) (sym c.loop-place.invariant.0)
    (Read p o.0 (register_at c.args.number) o.1 o.2)

pub loop-place-preserved : goal.loop-place-preserved
loop-place-preserved c = (
  c.in_ok-expand.ensures.grows.number ∙ c.loop-place.invariant.0,
  c.in_ok-expand.ensures.grows.done ∙ c.loop-place.invariant.1,
  c.in_ok-expand.ensures.walk,
  more_reached c.args.items.now (register_at c.args.number) c.under-place-items.result.now c.loop-place.place-index
      c.loop-place.walk c.expand.new.walk c.in_ok-expand.ensures.grows c.loop-place.invariant.3
      (subst (λ n. Reaches c.args.items.now (register_at n) c.expand.new.walk.found.items
      (get_or c.under-place-items.result.now c.loop-place.place-index 0)) c.loop-place.invariant.0
      c.in_ok-expand.ensures.reaches),
)

pub returns-clause-closed : goal.returns-clause-closed
returns-clause-closed c =
    let number = c.loop-place.invariant.0 in
    let lists = under c.args.flow.now.reads in
    let same : c.under-place-items.result.now ≡ lists c.loop-place.walk.number =
    c.under-place-items.ensures ∙ ap lists (sym number) in
    record {
      roots = has_roots c.args.items.now c.loop-place.walk c.loop-place.place-index lists c.requires.reads
          (let l = ap length same in omega arith)
          (subst (λ xs. AreReached c.args.items.now (register_at c.loop-place.walk.number) xs c.loop-place.place-index
          c.loop-place.walk) same
          (subst (λ n. AreReached c.args.items.now (register_at n) c.under-place-items.result.now
          c.loop-place.place-index c.loop-place.walk) (sym number) c.loop-place.invariant.3));
      closed = λ j l. let n = c.loop-place.invariant.1 in absurd (omega (arith, l, n));
    }
