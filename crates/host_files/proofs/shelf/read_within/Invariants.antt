use Rattle.std.proofs.Common.{◌≤◌, length}
use Rattle.std.specs.Io.KnownBytes.{Consumes}
use Rattle.host_files.proofs.shelf.read_within.Given as goal

-- what is loaded is what the reader has given, and within the limit
abbrev pub invariant-loop : goal.invariant-loop
invariant-loop g l =
    (length l.loaded.items ≤ l.max)
    × Consumes (g.R.Read.remaining l.fn.reader) (g.R.Read.remaining l.reader) l.loaded.items
