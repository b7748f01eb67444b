use Rattle.std.proofs.Common.{subst, ◌++◌, ◌⊎◌}
use Rattle.std.proofs.lemmas.Result.{on_ok_weaker}
use Rattle.std.specs.Prelude.{option_to_list}
use Rattle.rv_select.specs.declared.code.VReg.{VReg}
use Rattle.rv_select.specs.declared.code.VReg.TheVariants.{Real}
use Rattle.rv_select.specs.Holding.{Among, handed_on}
use Rattle.reg_assign.specs.Numbers.{register_at}
use Rattle.reg_assign.specs.Flow.{Adds, IsTold, under}
use Rattle.reg_assign.proofs.Listings.{adds_lists, read_told}
use Rattle.reg_assign.proofs.flow.note_reads.Goals as goal

pub returns-clause-added : goal.returns-clause-added
returns-clause-added c =
    on_ok_weaker c.note_words.result
    (λ more.
    let first = option_to_list c.reads-read.result.first in
    let second = option_to_list c.reads-read.result.second in
    let words = handed_on 0 c.reads-read.result.words in
    let before = under c.args.lists.now in
    let after = under c.note_words.new.lists in
    subst (λ xs. Adds (λ k. Among (register_at k) xs) c.args.place before after) c.reads-read.ensures
    (adds_lists first (second ++ words) c.args.place before (under c.note.new.lists) after c.in_ok-note.ensures.added
    (adds_lists second words c.args.place (under c.note.new.lists) (under c.note-2.new.lists) after
    c.in_ok-note-2.ensures.added more)))
    c.note_words.ensures

pub returns-clause-told : goal.returns-clause-told
returns-clause-told c =
    on_ok_weaker c.note_words.result
    (λ _. subst (λ xs. (x : VReg) → Among x xs → IsTold x ⊎ Among (Real 32) xs) c.reads-read.ensures
    (read_told (option_to_list c.reads-read.result.first) (option_to_list c.reads-read.result.second)
    c.reads-read.result.words c.note.ensures.told c.note-2.ensures.told))
    c.note_words.ensures
