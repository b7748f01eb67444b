use Rattle.std.proofs.Common.{ℕ, ◌+◌, ◌∷◌, ◌++◌, [], ap, sym, ◌∙◌}
use Rattle.listing.specs.CodeLines.{words_from}
use Rattle.listing.proofs.Words.{words_none, words_more}
use Rattle.listing.proofs.code.code_words.Goals as goal

pub loop-k-init : goal.loop-k-init
loop-k-init c = c.new-words.ensures ∙ sym (words_none c.bytes-bytes.result.now (64 + c.statics_len.result))

pub loop-k-preserved : goal.loop-k-preserved
loop-k-preserved c =
    let bytes = c.bytes-bytes.result.now in
    let start : ℕ = 64 + c.statics_len.result in
    c.in_ok-push.ensures.ok
    ∙ ap (λ xs. xs ++ c.read_number.result ∷ []) c.loop-k.invariant
    ∙ ap (λ word. words_from bytes start c.loop-k.k ++ word ∷ []) c.read_number.ensures.value
    ∙ sym (words_more c.loop-k.k start bytes)
