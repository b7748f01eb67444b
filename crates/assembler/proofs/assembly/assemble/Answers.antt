use Rattle.std.proofs.Common.{List, false, ◌^◌, ◌≤◌, ◌≡◌, ◌∙◌, ap, flat_map, sym, subst, length, arith}
use Rattle.std.specs.Prelude.{Any}
use Rattle.rv_machine.specs.declared.real.RealItem.{RealItem}
use Rattle.assembler.specs.Conditions.{is_mark}
use Rattle.assembler.proofs.Insts.{words_few, words_some}
use Rattle.rv_machine.specs.Image.{IsImage, labels_of}
use Rattle.assembler.specs.Imaging.{word_bytes, code_bytes, code_start, assembled}
use Rattle.assembler.proofs.Following.{CodeFacts, code_facts, image_is}
use Rattle.assembler.proofs.Images.{is_image, labels_are}
use Rattle.assembler.proofs.Assembled.{is_image_of}
use Rattle.assembler.proofs.assembly.assemble.Goals as goal
use Rattle.assembler.proofs.assembly.assemble.Goals.{After-drop-words-inside-2}

pub image_bytes-requires-clause-few : goal.image_bytes-requires-clause-few
image_bytes-requires-clause-few c =
    words_few c.as_slice-items.result.now (code_start c.as_slice-statics.result.now) c.as_slice.result.now
    (omega arith) (c.as_slice.ensures ∙ c.in_ok-words.ensures.words)

pub image_bytes-requires-clause-some : goal.image_bytes-requires-clause-some
image_bytes-requires-clause-some c =
    words_some c.as_slice-items.result.now (code_start c.as_slice-statics.result.now) c.as_slice.result.now
    (subst (λ (items : List RealItem). Any (λ item. is_mark item ≡ false) items)
    (sym c.as_slice-items.ensures) c.requires.some) (c.as_slice.ensures ∙ c.in_ok-words.ensures.words)

pub new-requires : goal.new-requires
new-requires c =
    subst IsImage (sym c.in_ok-bytes.ensures.bytes)
    (is_image (flat_map word_bytes c.as_slice-statics.result.now) (code_bytes c.as_slice.result.now)
    c.args.labels.now c.in_ok-bytes.ensures.sections)

facts : (c : After-drop-words-inside-2) → CodeFacts c.args.code.now.items c.args.statics.now.words c.args.labels.now
facts c =
    code_facts c.args.code.now.items c.as_slice-items.result.now c.args.statics.now.words
    c.as_slice-statics.result.now c.as_slice.result.now c.args.labels.now c.as_slice-items.ensures
    c.as_slice-statics.ensures c.requires c.in_ok-words.ensures.decode
    (c.as_slice.ensures ∙ c.in_ok-words.ensures.words) c.in_ok-bytes.ensures.sections (omega arith) (omega arith)

image : (c : After-drop-words-inside-2) → c.new.result
    ≡ assembled c.args.code.now.items c.args.statics.now.words c.args.labels.now
image c =
    image_is c.args.code.now.items c.as_slice-items.result.now c.args.statics.now.words c.as_slice-statics.result.now
    c.as_slice.result.now c.new.result c.args.labels.now c.as_slice-items.ensures
    c.as_slice-statics.ensures (c.as_slice.ensures ∙ c.in_ok-words.ensures.words)
    (c.new.ensures ∙ c.in_ok-bytes.ensures.bytes)

pub returns : goal.returns
returns c =
    is_image_of c.new.result c.args.code.now.items c.args.statics.now.words c.args.labels.now (image c) (facts c)
    (ap labels_of (c.new.ensures ∙ c.in_ok-bytes.ensures.bytes)
    ∙ labels_are (flat_map word_bytes c.as_slice-statics.result.now) (code_bytes c.as_slice.result.now)
    c.args.labels.now c.in_ok-bytes.ensures.sections c.in_ok-bytes.ensures.sound)
    (subst (λ (xs : List RealItem). length xs ≤ 2 ^ 40) c.as_slice-items.ensures (omega arith))
