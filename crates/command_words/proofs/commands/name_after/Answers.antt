use Rattle.std.proofs.Common.{map, string_bytes, sym, arith}
use Rattle.std.specs.Cmp.Lexicographic.{same_text}
use Rattle.std.proofs.lemmas.Bool.{not-false}
use Rattle.command_words.proofs.ReadingOptions.{empty_text, first_word, no_empty_name, no_word_behind, not_empty}
use Rattle.command_words.proofs.ReadingOptions.{one_word, two_words, with_name}
use Rattle.command_words.proofs.commands.name_after.Goals as goal

pub returns-in_default-rest : goal.returns-in_default-rest
returns-in_default-rest c = λ n rest.
    let words = c.args.words.now in
    let option = c.args.option.now in
    let one = first_word string_bytes words c.first-item.result c.as_str.result.now option
    (omega arith) c.first-item.is c.as_str.ensures.value (same_text _ _ (sym (not-false _ (sym c.if-ne.ensures))))
    in
    no_word_behind option (map string_bytes words) n rest
    (one_word string_bytes words _ option one c.in_default-rest.len_below)

pub returns-then-is_empty : goal.returns-then-is_empty
returns-then-is_empty c = λ n rest.
    let words = c.args.words.now in
    let option = c.args.option.now in
    let one = first_word string_bytes words c.first-item.result c.as_str.result.now option
    (omega arith) c.first-item.is c.as_str.ensures.value (same_text _ _ (sym (not-false _ (sym c.if-ne.ensures))))
    in
    no_empty_name option (map string_bytes words) _ c.as_str-name.result.now n rest
    (two_words string_bytes words _ c.name-item.result c.as_str-name.result.now option one
    (omega arith) c.name-item.is c.as_str-name.ensures.value)
    (empty_text c.as_str-name.result.now c.if-is_empty.ensures)

pub returns : goal.returns
returns c =
    let words = c.args.words.now in
    let option = c.args.option.now in
    let one = first_word string_bytes words c.first-item.result c.as_str.result.now option
    (omega arith) c.first-item.is c.as_str.ensures.value (same_text _ _ (sym (not-false _ (sym c.if-ne.ensures))))
    in
    with_name option (map string_bytes words) _ c.as_str-name.result.now
    (two_words string_bytes words _ c.name-item.result c.as_str-name.result.now option one
    (omega arith) c.name-item.is c.as_str-name.ensures.value)
    (not_empty c.as_str-name.result.now c.if-is_empty.ensures)
