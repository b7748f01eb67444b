use Rattle.std.proofs.Common.{◌≡◌, ◌≤◌, Bool, List, ℕ, length, sym, ◌∙◌, ap, arith}
use Rattle.std.specs.Prelude.{bytes_eq}
use Rattle.form_table.proofs.TextTables.{first_found, first_behind, none_left}
use Rattle.form_table.proofs.words.first_with.Goals as goal

-- what the test says of the word's text
test_of : {r b : Bool} {bytes text spelling : List ℕ} (other : List ℕ)
    → r ≡ bytes_eq bytes other → bytes ≡ text → text ≡ spelling → r ≡ b → bytes_eq spelling other ≡ b
test_of other same bytes text test = ap (λ s. bytes_eq s other) (sym (bytes ∙ text)) ∙ sym same ∙ test

pub returns-then-eq : goal.returns-then-eq
returns-then-eq g c =
    let e = test_of c.args.text.now c.eq.ensures c.as_bytes.ensures.value c.text.ensures c.if-eq.true in
    sym (first_found g.W.Spelled.spelling c.args.text.now c.args.words.now c.loop-word.word-index c.word-item.result
    c.loop-word-test.true c.word-item.is e) ∙ c.loop-word.invariant

pub loop-word-preserved : goal.loop-word-preserved
loop-word-preserved g c =
    let e = test_of c.args.text.now c.eq.ensures c.as_bytes.ensures.value c.text.ensures c.if-eq.false in
    sym (first_behind g.W.Spelled.spelling c.args.text.now c.args.words.now c.loop-word.word-index c.word-item.result
    c.loop-word-test.true c.word-item.is e) ∙ c.loop-word.invariant

pub returns : goal.returns
returns g c =
    let past : length c.args.words.now ≤ c.loop-word.word-index = omega arith in
    sym (none_left g.W.Spelled.spelling c.args.text.now c.args.words.now c.loop-word.word-index past)
    ∙ c.loop-word.invariant
