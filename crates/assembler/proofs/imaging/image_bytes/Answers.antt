use Rattle.std.proofs.Common.{◌++◌, ◌∙◌, ap, subst, length, flat_map, arith}
use Rattle.assembler.specs.Imaging.{word_bytes, label_bytes, code_bytes}
use Rattle.assembler.specs.Tables.{AreLabels}
use Rattle.assembler.proofs.Images.{are_sections, bytes_put_together, statics_long, code_long}
use Rattle.assembler.proofs.imaging.image_bytes.Goals as goal

pub header-requires : goal.header-requires
header-requires c =
    let statics = statics_long c.args.statics.now in
    let code = code_long c.args.words.now in
    let statics_made = ap length c.in_ok-statics.ensures in
    let code_made = ap length c.in_ok-code.ensures in
    (omega arith, omega arith, omega arith)

pub returns-clause-bytes : goal.returns-clause-bytes
returns-clause-bytes c =
    bytes_put_together (flat_map word_bytes c.args.statics.now)
    (code_bytes c.args.words.now) c.in_ok-label_part.label_part c.args.labels.now c.len.result c.len-2.result
    c.len-3.result c.in_ok-bytes.bytes c.extend.new.self c.extend-2.new.self c.extend-3.new.self
    c.in_ok-bytes.ensures (c.len.ensures ∙ ap length c.in_ok-statics.ensures)
    (c.len-2.ensures ∙ ap length c.in_ok-code.ensures) c.len-3.ensures.len
    (c.in_ok-extend.ensures.ok ∙ ap (λ xs. c.in_ok-bytes.bytes ++ xs) (c.as_slice-2.ensures ∙ c.in_ok-statics.ensures))
    (c.in_ok-extend-2.ensures.ok ∙ ap (λ xs. c.extend.new.self ++ xs) (c.as_slice-3.ensures ∙ c.in_ok-code.ensures))
    (c.in_ok-extend-3.ensures.ok ∙ ap (λ xs. c.extend-2.new.self ++ xs) c.as_slice-4.ensures)
    (c.in_ok-label_part.ensures.bytes ∙ ap (flat_map label_bytes) c.as_slice.ensures)

pub returns-clause-sections : goal.returns-clause-sections
returns-clause-sections c =
    are_sections c.args.statics.now c.args.words.now c.args.labels.now c.requires.few_statics c.requires.few
    c.requires.some (omega arith)

pub returns-clause-sound : goal.returns-clause-sound
returns-clause-sound c = subst AreLabels c.as_slice.ensures c.in_ok-label_part.ensures.sound
