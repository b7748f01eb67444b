use Rattle.std.proofs.Common.{arith}
use Rattle.rv_machine.proofs.Public.{run_none, run_more}
use Rattle.rv_emulator.specs.Processor.{state_of}
use Rattle.rv_emulator.specs.Turns.{outcome_of}
use Rattle.rv_emulator.proofs.Runs.{run_ends}
use Rattle.rv_emulator.proofs.processor.Processor.run.Goals as goal

pub loop-init : goal.loop-init
loop-init g c =
    record {
      so_far = run_none (state_of g.R.Ram.memory c.args.self.now);
      sound = c.requires;
      reserved = omega arith;
      stays_whole = λ h. h;
    }

pub returns-in-Some-clause-ran : goal.returns-in-Some-clause-ran
returns-in-Some-clause-ran g c =
    let mem = g.R.Ram.memory in
    run_ends _ _ c.loop.counter c.args.steps (state_of mem c.args.self.now) (state_of mem c.loop.self)
    (state_of mem c.turn.new.self) (outcome_of c.in-Some.stop) c.loop.invariant.so_far
    (omega arith) c.in-Some.ensures.made

pub loop-preserved : goal.loop-preserved
loop-preserved g c =
    let mem = g.R.Ram.memory in
    record {
      so_far =
          run_more c.loop.counter (state_of mem c.args.self.now) (state_of mem c.loop.self)
          (state_of mem c.turn.new.self) c.loop.invariant.so_far c.in_default.ensures.made;
      sound = c.turn.ensures.sound;
      reserved = omega (arith, c.loop.invariant.reserved, c.turn.ensures.reserved);
      stays_whole = λ h. c.turn.ensures.stays_whole (c.loop.invariant.stays_whole h);
    }
