use Rattle.std.proofs.Common.{codes, string_bytes, sym, arith}
use Rattle.std.specs.Cmp.Lexicographic.{same_text}
use Rattle.std.proofs.lemmas.Bool.{not-false}
use Rattle.command_words.proofs.ReadingOptions.{first_word, two_words}
use Rattle.command_words.proofs.commands.steps_at_front.Goals as goal

pub returns : goal.returns
returns c =
    let words = c.args.words.now in
    let one = first_word string_bytes words c.first-item.result c.as_str.result.now (codes "--steps")
    (omega arith) c.first-item.is c.as_str.ensures.value (same_text _ _ (sym (not-false _ (sym c.if-ne.ensures))))
    in record {
      word = c.as_str-2.result.now;
      words_are = two_words string_bytes words _ c.word-item.result c.as_str-2.result.now (codes "--steps") one
          (omega arith) c.word-item.is c.as_str-2.ensures.value;
      number = c.in_ok-steps.ensures;
      allowed = c.if-steps-gt-MOST_MODEL_STEPS.false;
    }
