use Rattle.std.proofs.Common.{◌≡◌}
use Rattle.low_ir.specs.Windows.{first_words}
use Rattle.low_ir.proofs.closing.Window.new.Given as goal

abbrev pub invariant-loop-word : goal.invariant-loop-word
invariant-loop-word l = l.window ≡ first_words l.word (record { from = l.from; set = 0 })
