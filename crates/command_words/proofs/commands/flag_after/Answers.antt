use Rattle.std.proofs.Common.{string_bytes, sym, arith}
use Rattle.std.specs.Cmp.Lexicographic.{same_text}
use Rattle.std.proofs.lemmas.Bool.{not-false}
use Rattle.command_words.proofs.ReadingOptions.{first_word, with_flag}
use Rattle.command_words.proofs.commands.flag_after.Goals as goal

pub returns : goal.returns
returns c =
    let words = c.args.words.now in
    with_flag c.args.option.now _ _ (first_word string_bytes words c.first-item.result c.as_str.result.now
    c.args.option.now (omega arith) c.first-item.is c.as_str.ensures.value
    (same_text _ _ (sym (not-false _ (sym c.if-ne.ensures)))))
