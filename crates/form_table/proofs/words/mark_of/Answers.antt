use Rattle.std.proofs.Common.{ap, ap₂}
use Rattle.form_table.specs.Words.{mark_of, marked_as, first_with, type_word_text}
use Rattle.form_table.specs.declared.words.TheConstants.{TYPE_WORDS}
use Rattle.form_table.proofs.words.mark_of.Goals as goal

pub returns-in-Some : goal.returns-in-Some
unfolding mark_of
returns-in-Some c = ap (λ w. marked_as w (first_with type_word_text c.args.name.now TYPE_WORDS)) c.in-Some.ensures

pub returns-in-None : goal.returns-in-None
unfolding mark_of
returns-in-None c = ap₂ marked_as c.in-None.ensures c.first_with-in-None.ensures
