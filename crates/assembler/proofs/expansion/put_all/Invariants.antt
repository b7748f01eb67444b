use Rattle.std.proofs.Common.{◌≡◌, ◌++◌, take}
use Rattle.assembler.specs.Imaging.{inst_words}
use Rattle.assembler.specs.Encoded.{AllDecode}
use Rattle.assembler.proofs.expansion.put_all.Given as goal

-- the instructions before this one
abbrev pub invariant-loop-i : goal.invariant-loop-i
invariant-loop-i l = (l.words ≡ l.fn.words ++ inst_words (take l.i-index l.insts)) × AllDecode (take l.i-index l.insts)
