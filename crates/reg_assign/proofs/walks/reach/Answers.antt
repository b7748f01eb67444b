use Rattle.std.proofs.Common.{◌<◌, ◌≡◌, ◌+◌, true, false, suc, Some, length, get_or, refl, sym, rules, arith}
use Rattle.std.specs.Prelude.{slice_get, slice_index}
use Rattle.std.proofs.lemmas.Option.{slice_get_within}
use Rattle.reg_assign.specs.Numbers.{register_at}
use Rattle.reg_assign.proofs.Walking.{there_written, walk_more, read_at, grows_one}
use Rattle.reg_assign.proofs.walks.reach.Goals as goal
use Rattle.reg_assign.proofs.walks.reach.Goals.{then-is_written-via-then-is_written}
use Rattle.reg_assign.proofs.walks.reach.Goals.{then-is_written-via-else-is_written+then-index-walk}

pub returns-then-is_written-clause-there : goal.returns-then-is_written-clause-there
returns-then-is_written-clause-there c item e away =
    let there : slice_get c.args.items.now c.args.place ≡ Some c.in-Some.item.now = sym c.in-Some.ensures in
    elim c.then-is_written.branch [
      | then-is_written-via-then-is_written w ↦
          there_written c.args.items.now (register_at c.args.walk.now.number) c.args.place c.in-Some.item.now item
          c.args.walk.now.found.items there (w.if-is_written.ensures.0 refl) e away
      | then-is_written-via-else-is_written+then-index-walk w ↦
          let within = slice_get_within c.args.items.now c.args.place item e in
          let read : w.index.result.now ≡ get_or c.args.walk.now.seen.items c.args.place w.index.result.now = omega
          arith in
          let size = c.requires.walk.size in
          let at = read_at c.args.walk.now.seen.items c.args.place w.index.result.now (omega arith) read in
          let noted : slice_index c.args.walk.now.seen.items c.args.place ≡ suc c.args.walk.now.number = omega arith in
          c.requires.walk.noted c.args.place within noted
    ]

pub returns-clause-walk : goal.returns-clause-walk
returns-clause-walk c =
    let there : slice_get c.args.items.now c.args.place ≡ Some c.in-Some.item.now = sym c.in-Some.ensures in
    walk_more c.args.items.now c.args.walk.now _ c.args.place c.requires.walk
    (slice_get_within c.args.items.now c.args.place c.in-Some.item.now there)
    (record {
      item = c.in-Some.item.now;
      there = there;
      away = (λ m. let z : false ≡ true = c.if-is_written.ensures.1 m in absurd (let y : ⊥ = cc in y));
      leads = c.requires.leads c.in-Some.item.now there;
    }) refl refl (search rules) c.in_ok-push.ensures.items

pub returns-clause-grows : goal.returns-clause-grows
returns-clause-grows c =
    let there : slice_get c.args.items.now c.args.place ≡ Some c.in-Some.item.now = sym c.in-Some.ensures in
    let within = slice_get_within c.args.items.now c.args.place c.in-Some.item.now there in
    let size = c.requires.walk.size in
    let long : c.args.place < length c.args.walk.now.seen.items = omega arith in
    let read : c.index.result.now ≡ get_or c.args.walk.now.seen.items c.args.place c.index.result.now = omega arith in
    let at = read_at c.args.walk.now.seen.items c.args.place c.index.result.now long read in
    grows_one c.args.walk.now _ c.args.place long
    (λ e. c.if-index-walk.false (let n : c.index.result.now ≡ c.args.walk.now.number + 1 = omega arith in n)) refl refl
    (search rules) c.in_ok-push.ensures.items c.requires.walk.within
