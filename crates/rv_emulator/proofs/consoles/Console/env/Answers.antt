use Rattle.std.proofs.Common.{◌≢◌, arith}
use Rattle.rv_emulator.specs.Consoles.{reserved_by, world_of}
use Rattle.rv_emulator.proofs.Calls.{int_comes, byte_comes, silent_comes}
use Rattle.rv_emulator.proofs.consoles.Console.env.Goals as goal

pub returns-in-1-clause-call : goal.returns-in-1-clause-call
returns-in-1-clause-call c =
    int_comes (reserved_by c.int_printed.new.self) c.args.number c.args.a0 c.args.a1 c.args.labels
    (world_of c.args.self.now) (world_of c.int_printed.new.self) c.int_printed.result c.in-1.is
    c.int_printed.ensures.call

pub returns-in-2-clause-call : goal.returns-in-2-clause-call
returns-in-2-clause-call c =
    byte_comes (reserved_by c.byte_printed.new.self) c.args.number c.args.a0 c.args.a1 c.args.labels
    (world_of c.args.self.now) (world_of c.byte_printed.new.self) c.byte_printed.result c.in-2.is
    c.byte_printed.ensures.call

pub returns-in_default-clause-call : goal.returns-in_default-clause-call
returns-in_default-clause-call c =
    let not_one : c.args.number ≢ 1 = λ e. grind arith in
    let not_two : c.args.number ≢ 2 = λ e. grind arith in
    silent_comes (reserved_by c.args.self.now) c.args.number c.args.a0 c.args.a1 c.args.labels
    c.args.self.now.output.items c.args.self.now.input c.env.new.self c.env.result not_one not_two c.env.ensures.call
