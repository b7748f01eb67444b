use Rattle.std.proofs.Common.{◌≡◌, ◌<◌, ◌^◌, ℕ, List, [], ◌++◌, length, sym, ap, ◌∙◌}
use Rattle.listing.specs.CodeLines.{address_part, code_line}
use Rattle.listing.proofs.LineLemmas.{behind_digits, begins, begins_otherwise, comes_behind, digits_in_line}
use Rattle.listing.proofs.LineLemmas.{line_written}
use Rattle.listing.proofs.reading.read_line.Goals.{After-as_slice}
use Rattle.listing.proofs.reading.read_line.Goals as goal

-- the length of what stands before the digits of a word
long : (address : ℕ) (empty first : List ℕ) (n : ℕ) → empty ≡ [] → first ≡ empty ++ address_part address
    → n ≡ length first → length (address_part address) ≡ n
long address empty first n none begun is =
    sym (is ∙ ap length (begun ∙ ap (λ (l : List ℕ). l ++ address_part address) none))

pub returns-in_default-clause-exact : goal.returns-in_default-clause-exact
returns-in_default-clause-exact c word rest small is =
    let at = long c.args.address c.new-line.result c.write_address.new.text c.len.result c.new-line.ensures
    c.in_ok-write_address.ensures c.len.ensures in
    c.in_default.not-Some word
    (c.word_at.ensures.exact (address_part c.args.address) (behind_digits word rest) word at small
    (is ∙ digits_in_line c.args.address word rest))

pub returns-in-Some-strip_prefix-clause-line : goal.returns-in-Some-strip_prefix-clause-line
returns-in-Some-strip_prefix-clause-line c =
    let slice = c.as_slice.result.now in
    let line = c.as_slice.ensures ∙ line_written c.args.address c.in-Some.word c.new-line.result
    c.write_address.new.text c.write_word.new.text c.new-line.ensures c.in_ok-write_address.ensures
    c.in_ok-write_word.ensures in
    begins c.args.text.now slice c.in-Some-strip_prefix.rest.now c.in-Some-strip_prefix.ensures.cases.0
    c.in-Some-strip_prefix.ensures.cases.1
    ∙ ap (λ (l : List ℕ). l ++ c.in-Some-strip_prefix.rest.now) line

-- the word that was read is that of the line with which the text begins, and that line was written
told : (c : After-as_slice) (word : ℕ) (rest : List ℕ) → word < 2 ^ 32
    → c.args.text.now ≡ code_line c.args.address word ++ rest
    → (c.in-Some.word ≡ word) × (c.as_slice.result.now ≡ code_line c.args.address word)
told c word rest small is =
    let at = long c.args.address c.new-line.result c.write_address.new.text c.len.result c.new-line.ensures
    c.in_ok-write_address.ensures c.len.ensures in
    let found = c.in-Some.ensures.exact (address_part c.args.address) (behind_digits word rest) word at small
    (is ∙ digits_in_line c.args.address word rest) in
    let same : c.in-Some.word ≡ word = cc in (
      same,
      c.as_slice.ensures ∙ line_written c.args.address c.in-Some.word c.new-line.result
          c.write_address.new.text c.write_word.new.text c.new-line.ensures c.in_ok-write_address.ensures
          c.in_ok-write_word.ensures ∙ ap (code_line c.args.address) same,
    )

pub returns-in-Some-strip_prefix-clause-exact : goal.returns-in-Some-strip_prefix-clause-exact
returns-in-Some-strip_prefix-clause-exact c word rest small is =
    let t = told (goal.at.returns-in-Some-strip_prefix-clause-exact c).After-as_slice word rest small is in (
      t.0,
      comes_behind c.args.text.now c.as_slice.result.now c.in-Some-strip_prefix.rest.now rest
          (is ∙ ap (λ (l : List ℕ). l ++ rest) (sym t.1)) c.in-Some-strip_prefix.ensures.cases.1,
    )

pub returns-clause-exact : goal.returns-clause-exact
returns-clause-exact c word rest small is =
    let t = told (goal.at.returns-clause-exact c).After-as_slice word rest small is in
    begins_otherwise c.args.text.now c.as_slice.result.now rest c.in-None.ensures.cases
    (is ∙ ap (λ (l : List ℕ). l ++ rest) (sym t.1))
