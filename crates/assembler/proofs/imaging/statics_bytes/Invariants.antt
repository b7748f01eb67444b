use Rattle.std.proofs.Common.{◌≡◌, take, flat_map}
use Rattle.assembler.specs.Imaging.{word_bytes}
use Rattle.assembler.proofs.imaging.statics_bytes.Given as goal

-- the bytes of the words before this one
abbrev pub invariant-loop-word : goal.invariant-loop-word
invariant-loop-word l = l.bytes ≡ flat_map word_bytes (take l.word-index l.statics)
