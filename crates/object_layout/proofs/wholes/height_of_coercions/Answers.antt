use Rattle.std.proofs.Common.{◌≡◌, ◌+◌, ◌-◌, ◌*◌, suc, arith}
use Rattle.grift_base.specs.Words.{word_within}
use Rattle.object_layout.proofs.Coercions.{one_more_coercion, coercion_there, greatest_one_more}
use Rattle.object_layout.proofs.wholes.height_of_coercions.Goals as goal

pub loop-left-preserved : goal.loop-left-preserved
loop-left-preserved g c =
    let told = word_within (g.W.Words.first c.args.memory.now) (g.W.Words.end c.args.memory.now)
    (g.W.Words.word_at c.args.memory.now) in
    let left = c.loop-left.left in
    let at = c.args.own + 8 + 8 * (left - 1) in
    let next = c.args.own + 8 + 8 * left in
    let follows : at + 8 ≡ next = omega arith in
    let more : suc (c.args.count - left) ≡ c.args.count - (left - 1) = omega (arith, c.loop-left.invariant.within) in
    let here = rw c.from.ensures at c.in_ok-height_of_wanted.ensures.stands in
    record {
      within = omega (arith, c.loop-left.invariant.within);
      stand = one_more_coercion told c.args.own at next (c.args.count - left) (c.args.count - (left - 1)) follows more
          here.0 c.loop-left.invariant.stand;
      height =
          greatest_one_more told at next (c.args.count - left) (c.args.count - (left - 1)) follows more
          c.loop-left.highest c.in_ok-height_of_wanted.field-0 c.max-highest.result c.max-highest.ensures
          c.loop-left.invariant.height here.1;
    }

pub returns-in_err-height_of_wanted : goal.returns-in_err-height_of_wanted
returns-in_err-height_of_wanted g c = rw c.from_residual.ensures (λ wanted.
    let told = word_within (g.W.Words.first c.args.memory.now) (g.W.Words.end c.args.memory.now)
    (g.W.Words.word_at c.args.memory.now) in
    let place = c.loop-left.left - 1 in
    let there = rw c.from.ensures at c.in_err-height_of_wanted.ensures.none in
    there (coercion_there told c.args.own (c.args.own + 8) place c.args.count (c.args.own + 8 + 8 * place)
    (omega (arith, c.loop-left.invariant.within)) (omega arith) wanted))
