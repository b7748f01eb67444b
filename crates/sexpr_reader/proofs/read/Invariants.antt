use Rattle.std.proofs.Common.{◌≡◌, length}
use Rattle.sexpr_reader.specs.Token.{tokens}
use Rattle.sexpr_reader.specs.Grammar.{depth_limit}
use Rattle.sexpr_reader.specs.Reader.{start, run}
use Rattle.sexpr_reader.specs.Scanning.{Stands, IsBetween, tokens_at}
use Rattle.sexpr_reader.specs.Parts.{state_of}
use Rattle.sexpr_reader.proofs.read.Given as goal

abbrev pub invariant-loop-token : goal.invariant-loop-token
invariant-loop-token l = record {
  stands : Stands l.text l.cursor;
  between : IsBetween l.text l.cursor.at;
  run : run depth_limit (tokens_at l.text l.cursor.at) (state_of l.reader) ≡ run depth_limit (tokens l.text) start;
}

abbrev pub decreases-loop-token : goal.decreases-loop-token
decreases-loop-token l = length (tokens_at l.text l.cursor.at)
