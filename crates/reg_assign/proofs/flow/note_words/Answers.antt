use Rattle.std.proofs.Common.{arith}
use Rattle.reg_assign.specs.Flow.{under}
use Rattle.reg_assign.proofs.Listings.{adds_word, adds_handed}
use Rattle.reg_assign.proofs.flow.note_words.Goals as goal

pub loop-i-preserved : goal.loop-i-preserved
loop-i-preserved c =
    adds_word c.loop-i.i c.args.place (under c.args.lists.now) (under c.loop-i.lists) (under c.push.new.self)
    c.loop-i.invariant c.in_ok-push.ensures

pub returns : goal.returns
returns c =
    adds_handed c.args.words c.loop-i.i c.args.place (under c.args.lists.now) (under c.loop-i.lists) (omega arith)
    c.loop-i.invariant
