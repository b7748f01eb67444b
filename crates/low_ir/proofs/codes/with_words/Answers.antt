use Rattle.std.proofs.Common.{◌≡◌, ◌+◌, ℕ, zero, suc, ◌∷◌, [], ◌++◌, ◌∙◌, ap, subst, arith}
use Rattle.low_ir.specs.declared.code.LowSource.TheVariants.{Word}
use Rattle.low_ir.specs.Codes.{words_from}
use Rattle.low_ir.proofs.codes.with_words.Goals as goal

-- one more word at the end
words_more : (j k : ℕ) → words_from j k ++ Word (k + j) ∷ [] ≡ words_from (suc j) k
words_more zero k = let e : k + 0 ≡ k = omega arith in ap (λ n. Word n ∷ []) e
words_more (suc j) k =
    let e : suc k + j ≡ k + suc j = omega arith in
    ap (λ xs. Word k ∷ xs) (subst (λ n. words_from j (suc k) ++ Word n ∷ [] ≡ words_from (suc j) (suc k)) e
    (words_more j (suc k)))

pub loop-k-preserved : goal.loop-k-preserved
loop-k-preserved c =
    let k = c.loop-k.k in
    let from = c.args.from in
    let next : suc k ≡ k + 1 = omega arith in
    c.in_ok-push-2.ensures.items ∙ (ap (λ xs. xs ++ Word (from + k) ∷ []) c.loop-k.invariant
    ∙ ap (λ xs. c.args.source ∷ xs) (words_more k from ∙ ap (λ n. words_from n from) next))
