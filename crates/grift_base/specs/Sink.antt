-- What a put into a sink comes to, and a sink in memory as data.
use Rattle.std.specs.Prelude.{ℕ, ◌≡◌, ◌==◌, ◌-◌, Bool, true, false, List, ◌++◌, length, take, Option, Some, None}
use Rattle.std.specs.Prelude.{option_map, IsSomeAnd, Result, Ok, Err}
use Rattle.std.specs.List.{list_any}
use Rattle.grift_base.specs.Outside.{next_count}
use Rattle.grift_base.specs.declared.sinks.SinkFault.{SinkFault}
use Rattle.grift_base.specs.declared.sinks.SinkFault.TheVariants.{Failed, OutOfMemory}

-- ---- a sink over a call

-- what is seen of a sink: what is written, where that is told, and the count of its faults, before and after a call
pub record SinkSeen : Type 0 where
  pub written : Option (List ℕ)
  pub written_after : Option (List ℕ)
  pub faults : ℕ
  pub faults_after : ℕ

-- what is seen of two states of a sink, told how content and count are read off a state
abbrev pub sink_seen : {S : Type 0} → (S → Option (List ℕ)) → (S → ℕ) → S → S → SinkSeen
sink_seen written fault_count old new = record {
  written = written old;
  written_after = written new;
  faults = fault_count old;
  faults_after = fault_count new;
}

-- these bytes were added, where it is told what is written
abbrev pub Adds : List ℕ → Option (List ℕ) → Option (List ℕ) → Type 0
Adds bytes old new = new ≡ option_map (λ before. before ++ bytes) old

-- a beginning of these bytes was added, where it is told what is written
abbrev pub AddsBeginning : List ℕ → Option (List ℕ) → Option (List ℕ) → Type 0
AddsBeginning bytes None new = new ≡ None
AddsBeginning bytes (Some old) new = IsSomeAnd new (λ after. after ≡ old ++ take (length after - length old) bytes)

-- nothing was added, and nothing failed
pub record Untouched (s : SinkSeen) : Type 0 where
  pub written : s.written_after ≡ s.written
  pub faults : s.faults_after ≡ s.faults

-- exactly these bytes were added, and nothing failed
pub record Takes (bytes : List ℕ) (s : SinkSeen) : Type 0 where
  pub written : Adds bytes s.written s.written_after
  pub faults : s.faults_after ≡ s.faults

-- the sink failed once, when a beginning of these bytes was added
pub record Breaks (bytes : List ℕ) (s : SinkSeen) : Type 0 where
  pub written : AddsBeginning bytes s.written s.written_after
  pub faults : s.faults_after ≡ next_count s.faults

-- what a put of these bytes comes to by its answer
abbrev pub Puts : {A : Type 0} → List ℕ → Result A SinkFault → SinkSeen → Type 0
Puts bytes (Ok done) s = Takes bytes s
Puts bytes (Err Failed) s = Breaks bytes s
Puts bytes (Err OutOfMemory) s = Untouched s

-- whether a put failed
abbrev pub put_failed : {A : Type 0} → Result A SinkFault → Bool
put_failed (Ok done) = false
put_failed (Err Failed) = true
put_failed (Err OutOfMemory) = false

-- ---- a sink in memory

-- what is written, the numbers of the puts that are to fail, the number of the next put, from 0 up to the greatest
-- count, and the count of its faults
pub record SinkState : Type 0 where
  pub written : List ℕ
  pub failing : List ℕ
  pub calls : ℕ
  pub faults : ℕ

-- whether the next put fails: its number was told
abbrev pub fails_to_put : SinkState → Bool
fails_to_put sink = list_any (λ call. call == sink.calls) sink.failing

-- the sink after a put of these bytes with this answer
abbrev pub sink_after : {A : Type 0} → Result A SinkFault → List ℕ → SinkState → SinkState
sink_after (Ok done) bytes sink = record sink { written = sink.written ++ bytes; calls = next_count sink.calls }
sink_after (Err Failed) bytes sink = record sink { calls = next_count sink.calls; faults = next_count sink.faults }
sink_after (Err OutOfMemory) bytes sink = sink
