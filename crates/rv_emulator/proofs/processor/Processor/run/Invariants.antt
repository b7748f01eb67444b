use Rattle.std.proofs.Common.{◌≡◌, ◌≤◌, None, true}
use Rattle.rv_machine.specs.Mach.{run_of}
use Rattle.rv_emulator.specs.Consoles.{reserved_by}
use Rattle.rv_emulator.specs.Processor.{state_of, IsSoundBy}
use Rattle.rv_emulator.proofs.processor.Processor.run.Given as goal

abbrev pub invariant-loop : goal.invariant-loop
invariant-loop g l = record {
  so_far : run_of l.counter (state_of g.R.Ram.memory l.fn.self) ≡ (state_of g.R.Ram.memory l.self, None);
  sound : IsSoundBy g.R.Ram.bytes_len g.R.Ram.memory l.self;
  reserved : reserved_by l.fn.self.console ≤ reserved_by l.self.console;
  stays_whole : g.R.Ram.whole l.fn.self.ram ≡ true → g.R.Ram.whole l.self.ram ≡ true;
}
