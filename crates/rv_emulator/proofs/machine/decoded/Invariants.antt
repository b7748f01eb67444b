use Rattle.std.proofs.Common.{◌≡◌, length}
use Rattle.machine_words.specs.Memory.{memory_of}
use Rattle.rv_emulator.specs.Processor.{AreDecoded}
use Rattle.rv_emulator.proofs.machine.decoded.Given as goal

abbrev pub invariant-loop-i : goal.invariant-loop-i
invariant-loop-i l = record {
  count : length l.code.items ≡ l.i;
  entries : AreDecoded l.code.items (memory_of l.bytes) l.fn.from;
}
