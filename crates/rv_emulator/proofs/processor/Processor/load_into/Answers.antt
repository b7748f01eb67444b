use Rattle.std.proofs.Common.{◌+◌, ◌%◌, ◌≤◌, ◌≡◌, arith, refl}
use Rattle.std.specs.Int.{byte_len}
use Rattle.rv_emulator.specs.Widths.{width_of}
use Rattle.rv_emulator.specs.Processor.{state_of}
use Rattle.rv_emulator.proofs.Based.{load_goes}
use Rattle.rv_emulator.proofs.processor.Processor.load_into.Goals as goal

pub returns-clause-made : goal.returns-clause-made
returns-clause-made g c =
    let mem = g.R.Ram.memory in
    let s = state_of mem c.args.self.now in
    let w = width_of c.args.width in
    let z : c.args.at % byte_len w ≡ 0 = rw (← c.bytes-bytes.ensures.value) (grind arith) in
    let room : c.args.at + byte_len w ≤ c.args.self.now.places.end = rw (← c.bytes-bytes.ensures.value) (omega arith) in
    let e = load_goes c.args.signed w c.args.rd c.args.at c.extend-word.result c.load.result s
    (mem c.args.self.now.ram) refl z (omega arith) room c.load.ensures.value c.extend-word.ensures in
    rw e c.put.ensures.made
