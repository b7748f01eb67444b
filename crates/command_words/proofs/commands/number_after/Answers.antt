use Rattle.std.proofs.Common.{map, string_bytes, sym, arith}
use Rattle.std.specs.Cmp.Lexicographic.{same_text}
use Rattle.std.proofs.lemmas.Bool.{not-false}
use Rattle.command_words.specs.ReadCommands.{IsWithin}
use Rattle.command_words.proofs.ReadingOptions.{an_option, first_word, no_second_word, no_such_number, one_word}
use Rattle.command_words.proofs.ReadingOptions.{two_words}
use Rattle.command_words.proofs.commands.number_after.Goals as goal

pub returns-in_default-rest : goal.returns-in_default-rest
returns-in_default-rest c = λ n rest.
    let words = c.args.words.now in
    let name = c.args.name.now in
    let one = first_word string_bytes words c.first-item.result c.as_str.result.now name
    (omega arith) c.first-item.is c.as_str.ensures.value (same_text _ _ (sym (not-false _ (sym c.if-ne.ensures))))
    in
    no_second_word name (IsWithin c.args.multiple c.args.most) c.args.default n (map string_bytes words) rest
    (one_word string_bytes words _ name one c.in_default-rest.len_below)

pub returns-in_err-n : goal.returns-in_err-n
returns-in_err-n c = rw c.from_residual.ensures (λ n rest.
    let words = c.args.words.now in
    let name = c.args.name.now in
    let one = first_word string_bytes words c.first-item.result c.as_str.result.now name
    (omega arith) c.first-item.is c.as_str.ensures.value (same_text _ _ (sym (not-false _ (sym c.if-ne.ensures))))
    in
    no_such_number name (IsWithin c.args.multiple c.args.most) c.args.default n
    (map string_bytes words) rest _ c.as_str-2.result.now
    (two_words string_bytes words _ c.word-item.result c.as_str-2.result.now name one
    (omega arith) c.word-item.is c.as_str-2.ensures.value)
    (λ m number allowed. c.in_err-n.ensures m number))

pub returns : goal.returns
returns c =
    let words = c.args.words.now in
    let name = c.args.name.now in
    let one = first_word string_bytes words c.first-item.result c.as_str.result.now name
    (omega arith) c.first-item.is c.as_str.ensures.value (same_text _ _ (sym (not-false _ (sym c.if-ne.ensures))))
    in
    an_option name (IsWithin c.args.multiple c.args.most) c.args.default c.in_ok-n.n
    (map string_bytes words) _ c.as_str-2.result.now
    (two_words string_bytes words _ c.word-item.result c.as_str-2.result.now name one
    (omega arith) c.word-item.is c.as_str-2.ensures.value)
    c.in_ok-n.ensures (c.if-n-multiple-ne0.false, c.if-n-most.false)
