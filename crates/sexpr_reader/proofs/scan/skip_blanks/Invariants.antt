use Rattle.std.proofs.Common.{◌≡◌, ◌-◌, length, take, drop, false}
use Rattle.sexpr_reader.specs.Token.{is_in_comment}
use Rattle.sexpr_reader.specs.Scanning.{Stands, goes_on, tokens_at}
use Rattle.sexpr_reader.proofs.scan.skip_blanks.Given as goal

abbrev pub invariant-loop-cursor : goal.invariant-loop-cursor
invariant-loop-cursor l = record {
  stands : Stands l.text l.cursor;
  comment : l.in_comment ≡ is_in_comment (take l.cursor.at l.text);
  apart : l.in_comment ≡ false → goes_on (take l.cursor.at l.text) (drop l.cursor.at l.text) ≡ false;
  tokens : tokens_at l.text l.fn.from.at ≡ tokens_at l.text l.cursor.at;
}

abbrev pub decreases-loop-cursor : goal.decreases-loop-cursor
decreases-loop-cursor l = length l.text - l.cursor.at
