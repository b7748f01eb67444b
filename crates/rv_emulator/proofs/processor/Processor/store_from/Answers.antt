use Rattle.std.proofs.Common.{◌+◌, ◌%◌, ◌≤◌, ◌≡◌, arith, refl}
use Rattle.std.specs.Int.{byte_len}
use Rattle.rv_emulator.specs.Widths.{width_of}
use Rattle.rv_emulator.specs.Processor.{state_of}
use Rattle.rv_emulator.proofs.Based.{store_goes}
use Rattle.rv_emulator.proofs.processor.Processor.store_from.Goals as goal

pub returns-in-Ok-clause-made : goal.returns-in-Ok-clause-made
returns-in-Ok-clause-made g c =
    let mem = g.R.Ram.memory in
    let s = state_of mem c.args.self.now in
    let w = width_of c.args.width in
    let z : c.args.to % byte_len w ≡ 0 = rw (← c.bytes-bytes.ensures.value) (grind arith) in
    let room : c.args.to + byte_len w ≤ c.args.self.now.places.end = rw (← c.bytes-bytes.ensures.value) (omega arith) in
    store_goes w c.args.word c.args.to s (mem c.args.self.now.ram) (mem c.store.new.self) refl z (omega arith)
    (omega arith) room c.in-Ok.ensures.ok
