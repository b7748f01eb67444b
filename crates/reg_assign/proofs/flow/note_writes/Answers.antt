use Rattle.std.proofs.Common.{subst}
use Rattle.std.proofs.lemmas.Result.{on_ok_weaker}
use Rattle.std.specs.Prelude.{option_to_list}
use Rattle.rv_select.specs.declared.code.VReg.{VReg}
use Rattle.rv_select.specs.Holding.{Among}
use Rattle.reg_assign.specs.Numbers.{register_at}
use Rattle.reg_assign.specs.Flow.{Adds, IsTold, under}
use Rattle.reg_assign.proofs.Listings.{adds_lists, either_told}
use Rattle.reg_assign.proofs.flow.note_writes.Goals as goal

pub returns-clause-added : goal.returns-clause-added
returns-clause-added c =
    on_ok_weaker c.note-2.result
    (λ more.
    let first = option_to_list c.writes-written.result.first in
    let second = option_to_list c.writes-written.result.second in
    let before = under c.args.lists.now in
    let after = under c.note-2.new.lists in
    subst (λ xs. Adds (λ k. Among (register_at k) xs) c.args.place before after) c.writes-written.ensures
    (adds_lists first second c.args.place before (under c.note.new.lists) after c.in_ok-note.ensures.added more))
    c.note-2.ensures.added

pub returns-clause-told : goal.returns-clause-told
returns-clause-told c =
    on_ok_weaker c.note-2.result
    (λ _. subst (λ xs. (x : VReg) → Among x xs → IsTold x) c.writes-written.ensures
    (λ x h. either_told x (option_to_list c.writes-written.result.first) (option_to_list c.writes-written.result.second)
    c.note.ensures.told c.note-2.ensures.told h))
    c.note-2.ensures.added
