use Rattle.std.proofs.Common.{◌≡◌, take}
use Rattle.assembler.specs.Expansion.{insts_from}
use Rattle.assembler.specs.Imaging.{inst_words}
use Rattle.assembler.specs.Encoded.{AllDecode}
use Rattle.assembler.proofs.assembly.code_words.Given as goal

-- the words of the items before this place
abbrev pub invariant-loop-place : goal.invariant-loop-place
invariant-loop-place l =
    (l.words ≡ inst_words (insts_from l.items l.start 0 (take l.place l.items)))
    × AllDecode (insts_from l.items l.start 0 (take l.place l.items))
