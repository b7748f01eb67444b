use Rattle.std.proofs.Common.{arith}
use Rattle.machine_words.specs.Memory.{memory_of}
use Rattle.rv_emulator.proofs.Decoded.{entries_more}
use Rattle.rv_emulator.proofs.machine.decoded.Goals as goal

pub loop-i-preserved : goal.loop-i-preserved
loop-i-preserved c = record {
  count = omega (arith, c.in_ok-push.ensures.len, c.loop-i.code.ok.0, c.push.new.self.ok.0);
  entries =
      entries_more c.loop-i.code.items c.push.new.self.items (memory_of c.args.bytes.now) c.args.from c.loop-i.i
      c.read_number-word.result c.decode.result c.loop-i.invariant.entries c.loop-i.invariant.count
      c.read_number-word.ensures.value c.decode.ensures.value c.in_ok-push.ensures.items;
}
