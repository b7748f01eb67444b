use Rattle.std.proofs.Common.{◌≡◌, ℕ, ◌^◌, ◌<◌, List, ◌++◌, Some, Result, Ok, Err, length, sym, ap, ◌∙◌, arith}
use Rattle.std.specs.Prelude.{slice_range}
use Rattle.std.specs.Result.{OkIff, result_ok}
use Rattle.listing.specs.CodeLines.{hex_text}
use Rattle.listing.proofs.Cuts.{middle_cut}
use Rattle.listing.proofs.Hexadecimal.{length-hex_word}
use Rattle.listing.proofs.reading.word_at.Goals as goal

-- the eight digits behind what stands before them
digits_stand : (before rest text cut digits : List ℕ) (word at : ℕ) → length before ≡ at → word < 2 ^ 32
    → text ≡ before ++ hex_text word ++ rest → cut ≡ slice_range text at (length text)
    → digits ≡ slice_range cut 0 8 → digits ≡ hex_text word
digits_stand before rest text cut digits word at here small is cut_is cut_again =
    cut_again
    ∙ ap (slice_range cut 0) (sym (length-hex_word word small))
    ∙ middle_cut before (hex_text word) rest text cut is
    (cut_is ∙ ap (λ n. slice_range text n (length text)) (sym here))

-- a word that fits is kept
kept : {E : Type 0} (found word : ℕ) (answer : Result ℕ E) → found ≡ word → word < 2 ^ 32
    → OkIff answer (found < 4294967296) found → result_ok answer ≡ Some word
kept found word (Ok x) same small iff = let e : x ≡ word = cc in ap Some e
kept found word (Err e) same small iff = absurd (iff (omega arith))

pub returns-in_err-hex_number-clause-exact : goal.returns-in_err-hex_number-clause-exact
returns-in_err-hex_number-clause-exact c before rest word at small is =
    let digits = digits_stand before rest c.args.text.now c.in_ok-get.field-0.now c.in_ok-digits.digits.now word
    c.args.at at small is c.in_ok-get.ensures.lookup.0.2 c.in_ok-digits.ensures.lookup.0.2 in
    let read = c.in_err-hex_number.ensures word (omega arith) digits in
    absurd (let f : ⊥ = cc in f)

pub returns-clause-exact : goal.returns-clause-exact
returns-clause-exact c before rest word at small is =
    let digits = digits_stand before rest c.args.text.now c.in_ok-get.field-0.now c.in_ok-digits.digits.now word
    c.args.at at small is c.in_ok-get.ensures.lookup.0.2 c.in_ok-digits.ensures.lookup.0.2 in
    let read = c.in_ok-hex_number.ensures word (omega arith) digits in
    let same : c.in_ok-hex_number.field-0 ≡ word = cc in
    c.ok.ensures.value ∙ kept c.in_ok-hex_number.field-0 word c.try_from.result same small c.try_from.ensures
