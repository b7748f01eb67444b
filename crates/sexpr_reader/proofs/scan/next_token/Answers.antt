use Rattle.std.proofs.Common.{◌<◌, length, refl, arith}
use Rattle.sexpr_reader.proofs.Taking.{bytes_from, takes_token}
use Rattle.sexpr_reader.proofs.scan.next_token.Goals as goal

pub returns : goal.returns
returns c =
    let here = c.skip_blanks-cursor.result in
    let skipped = c.skip_blanks-cursor.ensures in
    let inside : here.at < length c.args.text.now = omega (arith, skipped.stands.in_text, c.if-cursor-text.false) in
    takes_token c.args.text.now _ c.args.from.at here c.along.result _ c.first_lexeme-len.result.1 inside
    skipped.stands (skipped.begins inside) skipped.tokens
    (bytes_from c.args.text.now here.at inside) c.first_lexeme-len.ensures.len c.first_lexeme-len.ensures.lexeme
    c.along.ensures.at c.along.ensures.line c.along.ensures.col refl
