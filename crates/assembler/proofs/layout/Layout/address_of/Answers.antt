use Rattle.std.proofs.Common.{◌+◌, ◌*◌, ◌∙◌, ap, arith}
use Rattle.assembler.specs.Layout.{longest_widths}
use Rattle.assembler.proofs.Insts.{widths_long}
use Rattle.assembler.proofs.layout.Layout.address_of.Goals as goal

pub words_before-requires : goal.words_before-requires
words_before-requires c =
    let items = c.args.items.now in
    let len = c.requires.lies.before.len in
    let long = widths_long (longest_widths items) items c.args.self.now.reach.start 0 items in
    omega arith

pub returns-clause-value : goal.returns-clause-value
returns-clause-value c =
    let items = c.args.items.now in
    let start = c.args.self.now.reach.start in
    let long = widths_long (longest_widths items) items start 0 items in
    ap (λ n. start + 4 * n) (c.words_before.ensures ∙ c.requires.lies.before.sum c.args.place (omega arith))
