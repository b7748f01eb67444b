use Rattle.std.proofs.Common.{◌∙◌}
use Rattle.rv_emulator.proofs.Start.{filled_more}
use Rattle.rv_emulator.proofs.machine.fill.Goals as goal

pub loop-i-preserved : goal.loop-i-preserved
loop-i-preserved g c =
    let mem = g.R.Ram.memory in
    record {
      so_far =
          filled_more (mem c.loop-i.ram) (mem c.store.new.self) c.args.bytes.now c.loop-i.i
          (c.type_inv.bytes c.loop-i.i).fits c.loop-i.invariant.so_far c.in_ok-store.ensures.ok;
      len = c.store.ensures.len ∙ c.loop-i.invariant.len;
      whole = λ h. c.store.ensures.stays_whole (c.loop-i.invariant.whole h);
    }
