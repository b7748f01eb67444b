-- What reading from a stream and a put of bytes into a stream come to.
use Rattle.std.specs.Prelude.{ℕ, ◌+◌, ◌≤◌, List, length, Option, Some, IfSome, IsSomeAnd, Result, Ok, Err}
use Rattle.std.specs.Io.KnownBytes.{Appends}
use Rattle.grift_base.specs.Sink.{AddsBeginning}
use Rattle.grift_base.specs.declared.sinks.SinkFault.{SinkFault}
use Rattle.grift_base.specs.declared.sinks.SinkFault.TheVariants.{Failed, OutOfMemory}

-- what a stream holds, where that is known, after a put of these bytes with this answer: all of them are added, or
-- where it failed a beginning of them; memory is never wanted
abbrev pub PutsInto : {A : Type 0} → List ℕ → Result A SinkFault → Option (List ℕ) → Option (List ℕ) → Type 0
PutsInto bytes (Ok done) old new = Appends old new bytes
PutsInto bytes (Err Failed) old new = IfSome old (λ before. AddsBeginning bytes (Some before) new)
PutsInto bytes (Err OutOfMemory) old new = ⊥

-- a reader, where it is known what it has left, gave no more than so many bytes
abbrev pub TakesAtMost : ℕ → Option (List ℕ) → Option (List ℕ) → Type 0
TakesAtMost most old new = IfSome old (λ before. IsSomeAnd new (λ after. length before ≤ length after + most))
