use Rattle.std.proofs.Common.{ℕ, ◌≡◌, ◌<◌, ◌^◌, take, slice_index}
use Rattle.command_words.specs.Commands.{IsDigit, number_of}
use Rattle.command_words.proofs.commands.number_in.Given as goal

-- the number of the digits so far
abbrev pub invariant-loop-digit : goal.invariant-loop-digit
invariant-loop-digit l = record {
  so_far : l.n ≡ number_of (take l.digit-index l.digits);
  digits : (k : ℕ) → k < l.digit-index → IsDigit (slice_index l.digits k);
  below : l.n < 10 ^ l.digit-index;
}
