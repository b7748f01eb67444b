use Rattle.std.proofs.Common.{ℕ, ◌+◌, ◌-◌, ◌*◌, ◌/◌, ◌^◌, ◌<◌, List, ◌++◌, length, get_or, sym, ap, ◌∙◌, arith, rules}
use Rattle.rv_machine.specs.Image.{code_len, statics_len}
use Rattle.listing.specs.CodeLines.{code_line}
use Rattle.listing.proofs.LineLemmas.{one_line_more}
use Rattle.listing.proofs.Words.{length-words_from}
use Rattle.listing.proofs.code.code_text.Goals as goal

pub overflow_add-first-in-loop-k : goal.overflow_add-first-in-loop-k
overflow_add-first-in-loop-k c =
    let n : length c.loaded.result.now < 2 ^ 63 = search rules in
    let l = c.loaded.ensures.len in
    let d = c.code_len.ensures in
    let many = ap length (c.as_slice-word-items.ensures ∙ c.in_ok-words.ensures)
    ∙ length-words_from (code_len c.args.image.now / 4) (64 + statics_len c.args.image.now) c.args.image.now in
    omega arith

pub loop-k-preserved : goal.loop-k-preserved
loop-k-preserved c =
    let first : ℕ = 65536 + length c.loaded.result.now - c.code_len.result in
    let words = c.as_slice-word-items.result.now in
    c.in_ok-write_line.ensures
    ∙ ap (λ (l : List ℕ). l ++ code_line (first + 4 * c.loop-k.k) (get_or words c.loop-k.k 0)) c.loop-k.invariant
    ∙ sym (one_line_more first words c.loop-k.k c.loop-k-test.true)
