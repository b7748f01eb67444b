use Rattle.std.proofs.Common.{sym, ◌∙◌}
use Rattle.sexpr_reader.proofs.Words.{lexeme_at-symbol}
use Rattle.sexpr_reader.proofs.scan.first_lexeme.Goals as goal

pub returns-in_default-clause-lexeme : goal.returns-in_default-clause-lexeme
returns-in_default-clause-lexeme c =
    lexeme_at-symbol c.args.bytes.now _ c.requires.some c.word_len-end-in_default.ensures.len
    (sym c.is_symbol_byte.ensures ∙ c.if-is_symbol_byte.true)
