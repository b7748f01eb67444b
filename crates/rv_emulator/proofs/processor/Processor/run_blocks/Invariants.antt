use Rattle.std.proofs.Common.{◌≡◌, ◌≤◌, true}
use Rattle.grift_base.specs.Sink.{sink_seen}
use Rattle.rv_emulator.specs.Consoles.{reserved_by}
use Rattle.rv_emulator.specs.Processor.{state_of, IsSoundBy}
use Rattle.rv_emulator.proofs.Blocking.{InBlocks}
use Rattle.rv_emulator.proofs.processor.Processor.run_blocks.Given as goal

abbrev pub invariant-loop : goal.invariant-loop
invariant-loop g l = record {
  so_far : InBlocks l.counter (state_of g.R.Ram.memory l.fn.self)
      (sink_seen g.O.Sink.written g.O.Sink.fault_count l.fn.out l.out) (state_of g.R.Ram.memory l.self);
  sound : IsSoundBy g.R.Ram.bytes_len g.R.Ram.memory l.self;
  room : 4128 ≤ reserved_by l.self.console;
  reserved : reserved_by l.fn.self.console ≤ reserved_by l.self.console;
  stays_whole : g.R.Ram.whole l.fn.self.ram ≡ true → g.R.Ram.whole l.self.ram ≡ true;
}
