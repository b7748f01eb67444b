use Rattle.std.proofs.Common.{◌+◌}
use Rattle.rv_machine.specs.Registers.{zero_regs}
use Rattle.rv_emulator.specs.Registers.{regs_of}
use Rattle.rv_emulator.proofs.Start.{set_again}
use Rattle.rv_emulator.proofs.machine.start_registers.Goals as goal

pub returns : goal.returns
returns c =
    let first = set_again 2 (c.args.start + c.args.region + c.args.stack) (regs_of c.new-regs.result) zero_regs
    (regs_of c.write.new.self) c.write.ensures c.new-regs.ensures in
    let second = set_again 25 (c.args.start + c.args.region) (regs_of c.write.new.self) _
    (regs_of c.write-2.new.self) c.write-2.ensures first in
    let third = set_again 26 c.args.start (regs_of c.write-2.new.self) _
    (regs_of c.write-3.new.self) c.write-3.ensures second in
    set_again 27 (c.args.start + c.args.region) (regs_of c.write-3.new.self) _
    (regs_of c.write-4.new.self) c.write-4.ensures third
