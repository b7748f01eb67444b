use Rattle.std.proofs.Common.{ℕ, ◌≡◌, Some, length, sym, ◌∙◌, ap, subst, get_or, arith}
use Rattle.std.specs.Prelude.{Contains}
use Rattle.std.proofs.lemmas.List.Elements.{Contains-get_or}
use Rattle.rv_select.specs.declared.code.VirtualItem.TheVariants.{Mark}
use Rattle.rv_select.specs.Holding.{Among, writes}
use Rattle.placed_code.specs.Check.{Needed}
use Rattle.reg_assign.specs.Numbers.{register_at}
use Rattle.reg_assign.specs.Flow.{under}
use Rattle.reg_assign.proofs.Walking.{grows_then, leads_source, more_found, source_found, mark_is, AreFound}
use Rattle.reg_assign.proofs.walks.reach_sources.Goals as goal

pub reach-requires-clause-leads : goal.reach-requires-clause-leads
reach-requires-clause-leads c =
    let ps = c.under-source-items.result.now in
    let p = get_or ps c.loop-source.source-index 0 in
    leads_source c.args.items.now (register_at c.loop-source.walk.number) c.args.place c.in-Some-mark_of.mark p
    (under c.args.flow.now.sources) c.requires.sources
    (subst (λ n. Needed c.args.items.now c.args.place (register_at n)) (sym c.loop-source.invariant.1.number)
    c.requires.needed)
    (sym c.in-Some.ensures ∙ ap Some (mark_is c.in-Some.item.now c.in-Some-mark_of.mark (sym
    c.in-Some-mark_of.ensures)))
    (subst (λ xs. Contains xs p) c.under-source-items.ensures
    (Contains-get_or ps c.loop-source.source-index 0 c.loop-source-test.true))

pub loop-source-preserved : goal.loop-source-preserved
loop-source-preserved c = (
  c.in_ok-reach.ensures.walk,
  grows_then c.args.walk.now c.loop-source.walk c.reach.new.walk c.loop-source.invariant.1 c.in_ok-reach.ensures.grows,
  more_found c.args.items.now (register_at c.args.walk.now.number) c.under-source-items.result.now
      c.loop-source.source-index c.loop-source.walk c.reach.new.walk c.in_ok-reach.ensures.grows
      c.loop-source.invariant.2
      (λ item e away. c.in_ok-reach.ensures.there item e
      (λ m. away (subst (λ n. Among (register_at n) (writes item)) c.loop-source.invariant.1.number m))),
)

pub returns-clause-there : goal.returns-clause-there
returns-clause-there c m p item e f t away =
    let items = c.args.items.now in
    let lists = under c.args.flow.now.sources in
    let mark = c.in-Some-mark_of.mark in
    let at : Some c.in-Some.item.now ≡ Some (Mark m) = c.in-Some.ensures ∙ e in
    let is : c.in-Some.item.now ≡ Mark mark = mark_is c.in-Some.item.now mark (sym c.in-Some-mark_of.ensures) in
    let same : m ≡ mark = same_mark m mark (sym at ∙ ap Some is) in
    let long = ap length c.under-source-items.ensures in
    source_found items (register_at c.args.walk.now.number) mark p c.loop-source.source-index c.loop-source.walk lists
    item
    c.requires.sources (omega (arith, long, c.loop-source-test.false))
    (subst (λ xs. AreFound items (register_at c.args.walk.now.number) xs c.loop-source.source-index c.loop-source.walk)
    c.under-source-items.ensures c.loop-source.invariant.2) f (t ∙ ap Some same) away
  where
    same_mark : (m k : ℕ) → Some (Mark m) ≡ Some (Mark k) → m ≡ k
    same_mark m k e = cc
