use Rattle.std.proofs.Common.{◌≡◌, ℕ, List, ◌++◌, ◌≤◌, length, sym, subst, ap, ◌∙◌}
use Rattle.std.specs.Prelude.{codes}
use Rattle.grift_base.specs.Sizes.{source_limit}
use Rattle.grift_gen.specs.Family.{calls_line, family_text, function_line, lines_below}
use Rattle.grift_gen.proofs.Lengths.{program_short}
use Rattle.grift_gen.proofs.program_of.Goals as goal

pub returns-clause-short : goal.returns-clause-short
returns-clause-short c =
    let n = c.args.n in
    let text : c.extend-3.new.self ≡ family_text n = c.in_ok-extend-3.ensures.ok
    ∙ ap (λ (l : List ℕ). l ++ codes "(unbox r)\n") (c.in_ok-extend-2.ensures.ok
    ∙ ap (λ (l : List ℕ). l ++ codes "(print-int (unbox r))\n") (c.in_ok-write_calls.ensures
    ∙ ap (λ (l : List ℕ). l ++ lines_below calls_line n) (c.in_ok-extend.ensures.ok
    ∙ ap (λ (l : List ℕ). l ++ codes "(define r : (Ref Dyn) (box 0))\n") (c.in_ok-write_functions.ensures
    ∙ ap (λ (l : List ℕ). l ++ lines_below function_line n) c.new-text.ensures)))) in
    subst (λ (l : List ℕ). length l ≤ source_limit) (sym text) (program_short n c.requires.most)
