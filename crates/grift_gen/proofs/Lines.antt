-- Lines of numbers, one more at a time.
use Rattle.std.proofs.Common.{◌≡◌, ℕ, ◌+◌, List, ◌++◌, sym, ap, ◌∙◌, append_assoc, append-nil, add-one}
use Rattle.std.specs.Prelude.{OnOk, Result, Ok, Err}
use Rattle.grift_gen.specs.Family.{lines_below}

-- what an answer that is Ok says
pub where_ok : {A E P Q : Type 0} (answer : Result A E) → OnOk answer P → (P → Q) → OnOk answer Q
where_ok (Ok done) said then_too = then_too said
where_ok (Err fault) said then_too = tt

-- no line
pub no_lines : (line : ℕ → List ℕ) (old : List ℕ) → old ≡ old ++ lines_below line 0
no_lines line old = sym (append-nil old)

-- one line more
pub one_line_more : (line : ℕ → List ℕ) (old : List ℕ) (i : ℕ)
    → (old ++ lines_below line i) ++ line i ≡ old ++ lines_below line (i + 1)
one_line_more line old i =
    append_assoc old (lines_below line i) (line i) ∙ ap (λ n. old ++ lines_below line n) (sym (add-one i))
