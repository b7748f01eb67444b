use Rattle.std.proofs.Common.{◌≡◌, Some, refl, sym, ◌∙◌, ap, arith}
use Rattle.rv_machine.specs.Mach.{run_of}
use Rattle.rv_emulator.specs.declared.stops.Stop.TheVariants.{StepsSpent}
use Rattle.rv_emulator.specs.Consoles.{reserved_by}
use Rattle.rv_emulator.specs.Processor.{state_of}
use Rattle.rv_emulator.specs.Turns.{outcome_of}
use Rattle.rv_emulator.proofs.Blocking.{blocks_begin, block_grows, block_put, none_begun, same_but, full_ends}
use Rattle.rv_emulator.proofs.Blocking.{rest_is_put, turn_ends, memory_stop, same_sound, same_whole}
use Rattle.rv_emulator.proofs.Blocking.{fails_as_before, room_there}
use Rattle.rv_emulator.proofs.processor.Processor.run_blocks.Goals as goal
use Rattle.rv_emulator.proofs.processor.Processor.run_blocks.Goals.{then-len-ge-BLOCK+in_default-put_output}
use Rattle.rv_emulator.proofs.processor.Processor.run_blocks.Goals.{else-len-ge-BLOCK}

pub returns-then-is_err-clause-ran : goal.returns-then-is_err-clause-ran
returns-then-is_err-clause-ran g c =
    let s = state_of g.R.Ram.memory c.args.self.now in
    none_begun g.O.Sink.written g.O.Sink.fault_count (g.R.Ram.whole c.args.self.now.ram) c.args.steps c.args.out.now s _
    c.requires.nothing (same_but s _ c.reserve.ensures.world)

pub loop-init : goal.loop-init
loop-init g c =
    let s = state_of g.R.Ram.memory c.args.self.now in
    let room = room_there c.reserve.result (sym c.is_err.ensures.value ∙ c.if-is_err.false) c.reserve.ensures.room in
    record {
      so_far =
          blocks_begin g.O.Sink.written g.O.Sink.fault_count c.args.out.now s _ c.requires.nothing
          (same_but s _ c.reserve.ensures.world);
      sound = c.requires.sound;
      room = omega (arith, room);
      reserved = c.reserve.ensures.reserved;
      stays_whole = λ h. h;
    }

pub returns-in-Some-clause-ran : goal.returns-in-Some-clause-ran
returns-in-Some-clause-ran g c =
    let mem = g.R.Ram.memory in
    let whole = g.R.Ram.whole in
    let inv = c.loop.invariant in
    turn_ends g.O.Sink.written g.O.Sink.fault_count (whole c.end_blocks.new.self.ram)
    (reserved_by c.turn.new.self.console) _ (outcome_of c.in-Some.stop) c.in-Some.stop c.loop.counter c.args.steps
    (state_of mem c.args.self.now) (state_of mem c.loop.self) (state_of mem c.turn.new.self)
    (state_of mem c.end_blocks.new.self) c.args.out.now c.loop.out c.end_blocks.new.out c.end_blocks.result refl
    inv.so_far (omega arith) c.in-Some.ensures.made (omega (arith, inv.room, c.turn.ensures.reserved))
    (λ e. fails_as_before whole c.turn.new.self c.end_blocks.new.self c.end_blocks.ensures.rest
    (c.turn.ensures.fails (c.in-Some.is ∙ ap Some (memory_stop c.in-Some.stop e)))) c.end_blocks.ensures.ends

pub returns-in-Err-clause-ran : goal.returns-in-Err-clause-ran
returns-in-Err-clause-ran g c =
    let mem = g.R.Ram.memory in
    let inv = c.loop.invariant in
    let len = c.turn.new.self.console.output.ok.0 in
    rw c.stopped_by.ensures
    (full_ends g.O.Sink.written g.O.Sink.fault_count (g.R.Ram.whole c.put_output.new.self.ram) c.loop.counter
    c.args.steps (state_of mem c.args.self.now) c.args.out.now c.loop.out c.put_output.new.out
    (state_of mem c.loop.self) (state_of mem c.turn.new.self) (state_of mem c.put_output.new.self) c.in-Err.fault
    inv.so_far c.in_default.ensures.made (omega arith) (omega (arith, len))
    (omega (arith, c.turn.ensures.few, inv.so_far.few)) c.in-Err.ensures.put
    (ap (λ p. state_of mem p) c.in-Err.ensures.err))

pub loop-preserved : goal.loop-preserved
loop-preserved g c =
    let mem = g.R.Ram.memory in
    let whole = g.R.Ram.whole in
    let inv = c.loop.invariant in
    let len = c.turn.new.self.console.output.ok.0 in
    elim c.if-len-ge-BLOCK.branch [
      | then-len-ge-BLOCK+in_default-put_output w ↦
          let done = w.in_default-put_output.ensures in
          rw (w.self-is, w.out-is) (record {
            so_far =
                block_put g.O.Sink.written g.O.Sink.fault_count c.loop.counter (state_of mem c.args.self.now)
                c.args.out.now c.loop.out w.put_output.new.out (state_of mem c.loop.self)
                (state_of mem c.turn.new.self) (state_of mem w.put_output.new.self) inv.so_far
                c.in_default.ensures.made done.put done.ok;
            sound =
                same_sound g.R.Ram.bytes_len g.R.Ram.memory c.turn.new.self w.put_output.new.self done.rest
                c.turn.ensures.sound;
            room = omega (arith, inv.room, c.turn.ensures.reserved, done.reserved);
            reserved = omega (arith, inv.reserved, c.turn.ensures.reserved, done.reserved);
            stays_whole = λ h. same_whole whole c.turn.new.self w.put_output.new.self done.rest
                ∙ c.turn.ensures.stays_whole (inv.stays_whole h);
          })
      | else-len-ge-BLOCK w ↦
          rw (w.self-is, w.out-is) (record {
            so_far =
                block_grows c.loop.counter (state_of mem c.args.self.now) _ (state_of mem c.loop.self)
                (state_of mem c.turn.new.self) inv.so_far c.in_default.ensures.made
                (omega (arith, len, w.if-len-ge-BLOCK));
            sound = c.turn.ensures.sound;
            room = omega (arith, inv.room, c.turn.ensures.reserved);
            reserved = omega (arith, inv.reserved, c.turn.ensures.reserved);
            stays_whole = λ h. c.turn.ensures.stays_whole (inv.stays_whole h);
          })
    ]

pub returns-clause-ran : goal.returns-clause-ran
returns-clause-ran g c =
    let mem = g.R.Ram.memory in
    let inv = c.loop.invariant in
    let spent : c.loop.counter ≡ c.args.steps = omega arith in
    rest_is_put g.O.Sink.written g.O.Sink.fault_count (g.R.Ram.whole c.end_blocks-2.new.self.ram) StepsSpent
    c.args.steps inv.so_far.put (state_of mem c.args.self.now) (state_of mem c.loop.self)
    (state_of mem c.end_blocks-2.new.self) c.args.out.now c.loop.out c.end_blocks-2.new.out c.end_blocks-2.result
    inv.so_far.taken (ap (λ n. run_of n (state_of mem c.args.self.now)) (sym spent) ∙ inv.so_far.made)
    inv.so_far.few c.end_blocks-2.ensures.ends
