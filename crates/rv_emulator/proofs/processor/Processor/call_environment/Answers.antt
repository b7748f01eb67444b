use Rattle.rv_emulator.specs.Consoles.{world_of}
use Rattle.rv_emulator.specs.Processor.{state_of}
use Rattle.rv_emulator.proofs.Calls.{call_is, as_before}
use Rattle.rv_emulator.proofs.processor.Processor.call_environment.Goals as goal

pub returns-in-Ended-clause-made : goal.returns-in-Ended-clause-made
returns-in-Ended-clause-made g c =
    let s = state_of g.R.Ram.memory c.args.self.now in (
      call_is s _ _ _ _ _ (world_of c.env.new.self) c.read-number.ensures c.read-first.ensures c.read-second.ensures
          c.len.ensures
          c.in-Ended.ensures.call,
      as_before s (world_of c.env.new.self) c.in-Ended.ensures.stays,
    )
