use Rattle.std.proofs.Common.{arith, refl, sym, ◌∙◌, ◌≡◌, length, Option, Some, None, ap}
use Rattle.std.specs.Global.{Vec}
use Rattle.rv_isa.specs.declared.inst.Inst.{Inst}
use Rattle.rv_machine.specs.State.{Layout}
use Rattle.rv_machine.specs.Turn.{turn_of, act}
use Rattle.rv_emulator.specs.Consoles.{reserved_by}
use Rattle.rv_emulator.specs.Processor.{state_of}
use Rattle.rv_emulator.specs.Actions.{performed}
use Rattle.rv_emulator.specs.Turns.{LacksNext}
use Rattle.rv_emulator.proofs.Based.{turn_outside, turn_inside}
use Rattle.rv_emulator.proofs.Decoded.{entry_there, no_entry, still_decoded}
use Rattle.rv_emulator.proofs.Sound.{performed_keeps, turn_kept, still_sound}
use Rattle.rv_emulator.proofs.Runs.{weaker_lack}
use Rattle.rv_emulator.proofs.processor.Processor.turn.Goals as goal

pub returns-in-Some-Some-clause-made : goal.returns-in-Some-Some-clause-made
returns-in-Some-Some-clause-made g c =
    let p = c.args.self.now in
    let s = state_of g.R.Ram.memory p in
    let i = c.in-Some-Some.i in
    let found = c.in-Some-Some.ensures.lookup in
    let there = entry_there p.code.items c.deref.result.now s.memory p.places p.pc c.in-Some-Some.field-0.now
    c.deref.ensures.value c.requires.1 c.requires.0.code (omega arith) c.requires.0.aligned (omega arith)
    found.0 found.1 in
    let d = there.2 ∙ c.in-Some-Some.field-0-is in
    let t : turn_of s ≡ act i s = turn_inside s (Some i) there.0 there.1 d in
    let e : turn_of s ≡ performed c.action-action.result s = t ∙ sym c.action-action.ensures.value in
    let whole = g.R.Ram.whole c.perform.new.self.ram in
    let reserved = reserved_by c.perform.new.self.console in
    let m = weaker_lack _ _ _ _ _ _ (λ q. let l : LacksNext whole reserved s = record {
      above = there.0;
      below = there.1;
      next = i;
      is_next = d;
      lacks = c.action-action.ensures.lacks whole reserved q;
    } in l) c.perform.ensures.made in
    rw e m

pub returns-in-Some-None-clause-made : goal.returns-in-Some-None-clause-made
returns-in-Some-None-clause-made g c =
    let p = c.args.self.now in
    let s = state_of g.R.Ram.memory p in
    let found = c.in-Some-None.ensures.lookup in
    let there = entry_there p.code.items c.deref.result.now s.memory p.places p.pc c.in-Some-None.field-0.now
    c.deref.ensures.value c.requires.1 c.requires.0.code (omega arith) c.requires.0.aligned (omega arith)
    found.0 found.1 in
    (turn_inside s None there.0 there.1 (there.2 ∙ c.in-Some-None.field-0-is), refl)

pub returns-in-None-clause-made : goal.returns-in-None-clause-made
returns-in-None-clause-made g c =
    let p = c.args.self.now in
    let s = state_of g.R.Ram.memory p in (
      turn_outside s (no_entry p.code.items c.deref.result.now s.memory p.places p.pc c.deref.ensures.value
          c.requires.1 (omega arith) c.in-None.ensures.lookup.0),
      refl,
    )

pub returns-in-Some-Some-clause-sound : goal.returns-in-Some-Some-clause-sound
returns-in-Some-Some-clause-sound g c =
    let mem = g.R.Ram.memory in
    let s = state_of mem c.args.self.now in
    let t = state_of mem c.perform.new.self in
    let old = c.args.self.now.places in
    let new = c.perform.new.self.places in
    let k = turn_kept _ _ s _ t c.requires.0.aligned
    (performed_keeps c.action-action.result s c.requires.0.aligned) c.perform.ensures.made in
    let code = ap (λ (l : Layout). l.code) k.0 in
    let region = ap (λ (l : Layout). l.region) k.0 in (
      still_sound _ _ old new _ _ _ _ code region (ap (λ (l : Layout). l.end) k.0)
          (ap (λ (l : Layout). length l.labels) k.0) k.1 c.perform.ensures.len c.requires.0,
      still_decoded c.args.self.now.code.items c.perform.new.self.code.items s.memory t.memory old new code region
          (ap (λ (v : Vec (Option Inst)). v.items) c.perform.ensures.code) k.2 c.requires.1,
    )
