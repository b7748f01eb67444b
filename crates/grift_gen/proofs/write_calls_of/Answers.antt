use Rattle.std.proofs.Common.{ℕ, List, ◌++◌, ap, ◌∙◌, append_assoc}
use Rattle.std.specs.Prelude.{codes}
use Rattle.grift_gen.proofs.Lines.{where_ok}
use Rattle.grift_gen.proofs.write_calls_of.Goals as goal

pub returns : goal.returns
returns c =
    let before : List ℕ = c.args.text.now ++ codes "(repeat (k 0 20) (box-set! r (f" in
    let digits = c.as_bytes.ensures.value ∙ c.format.ensures.text in
    where_ok c.extend-3.result c.extend-3.ensures.ok (λ last.
    last ∙ ap (λ (l : List ℕ). l ++ codes " (unbox r))))\n")
    (c.in_ok-extend-2.ensures.ok ∙ ap (λ (l : List ℕ). l ++ c.as_bytes.result.now) c.in_ok-extend.ensures.ok
    ∙ ap (λ (l : List ℕ). before ++ l) digits) ∙ simp append_assoc)
