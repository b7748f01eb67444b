use Rattle.std.proofs.Common.{◌≡◌, ◌∙◌, ◌+◌, length, sym, ap, arith}
use Rattle.grift_base.specs.declared.places.Pos.{Pos}
use Rattle.machine_words.specs.Memory.{first_address, from_base, memory_of}
use Rattle.rv_machine.specs.Image.{statics_len, code_len, label_count}
use Rattle.rv_machine.proofs.Public.{length-labels_from}
use Rattle.rv_machine.specs.Start.{start_of}
use Rattle.rv_emulator.specs.Consoles.{world_of}
use Rattle.rv_emulator.specs.Registers.{regs_of}
use Rattle.rv_emulator.proofs.Decoded.{loaded_decoded}
use Rattle.rv_emulator.proofs.Start.{start_sound, start_is}
use Rattle.rv_emulator.proofs.machine.Machine.load.Goals as goal

pub invariant_of-result : goal.invariant_of-result
invariant_of-result g c =
    let bytes = c.args.image.now in
    let labels : length {A = Pos} c.in_ok-labels.labels ≡ label_count bytes = ap
    (length {A = Pos}) c.in_ok-labels.ensures
    ∙ length-labels_from (label_count bytes) (64 + statics_len bytes + code_len bytes) bytes in
    let places = c.places_of-places.result in (
      start_sound bytes c.args.region c.args.stack (g.R.Ram.bytes_len c.fill.new.ram) c.entry.result _ places
          c.loaded-loaded.ensures.sound c.requires.region c.requires.stack c.places_of-places.ensures.code
          c.places_of-places.ensures.region c.places_of-places.ensures.end
          (c.fill.ensures.len ∙ c.requires.size) c.entry.ensures labels,
      loaded_decoded c.in_ok-code.code.items c.loaded-loaded.result.now c.statics_len.result
          (g.R.Ram.memory c.fill.new.ram) places c.in_ok-code.ensures.entries c.in_ok-fill.ensures.memory
          (c.places_of-places.ensures.code ∙ ap (λ n. first_address + n) (sym c.statics_len.ensures))
          (let code = c.loaded-loaded.ensures.sound.code in let count = c.in_ok-code.ensures.count in
          let len = c.loaded-loaded.ensures.len in omega arith),
    )

pub returns-clause-start : goal.returns-clause-start
returns-clause-start g c =
    start_is c.args.image.now c.args.region c.args.stack c.entry.result c.places_of-places.result
    c.in_ok-labels.labels (regs_of c.start_registers.result) (from_base (g.R.Ram.memory c.fill.new.ram))
    (world_of c.in_ok-console.console) c.places_of-places.ensures.code c.places_of-places.ensures.region
    c.places_of-places.ensures.end
    c.entry.ensures c.in_ok-labels.ensures c.start_registers.ensures
    (ap from_base (c.in_ok-fill.ensures.memory ∙ ap memory_of c.loaded-loaded.ensures.value))
    ∙ ap (λ world. start_of c.args.image.now c.args.region c.args.stack world) c.in_ok-console.ensures
