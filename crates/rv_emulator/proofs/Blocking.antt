-- Runs whose output is put in blocks.
use Rattle.std.proofs.Common.{ℕ, ◌+◌, ◌<◌, ◌≤◌, ◌≡◌, ◌≢◌, ◌⊎◌, inl, inr, Bool, false, List, [], ◌++◌}
use Rattle.std.proofs.Common.{length}
use Rattle.std.proofs.Common.{Option, Some, None, refl, sym, ◌∙◌, ap, arith}
use Rattle.std.proofs.lemmas.List.{append-nil, append_assoc, length-append}
use Rattle.std.specs.Prelude.{Result, Ok, Err, OnOk, is_err}
use Rattle.grift_base.specs.Sink.{SinkSeen, sink_seen, Untouched, Takes, Breaks, Adds}
use Rattle.grift_base.specs.Outside.{next_count}
use Rattle.grift_base.specs.World.{WorldState}
use Rattle.grift_base.specs.declared.sinks.SinkFault.{SinkFault}
use Rattle.grift_base.specs.declared.sinks.SinkFault.TheVariants.{Failed, OutOfMemory as SinkMemory}
use Rattle.machine_words.specs.Memory.{Memory}
use Rattle.rv_machine.specs.State.{State, Next}
use Rattle.machine_words.specs.Halts.{Halt}
use Rattle.rv_machine.specs.Turn.{turn_of}
use Rattle.rv_machine.specs.Mach.{run_of}
use Rattle.rv_machine.proofs.Public.{run_none, run_more, run_stops}
use Rattle.rv_emulator.specs.declared.stops.Stop.{Stop}
use Rattle.rv_emulator.specs.declared.stops.Stop.TheVariants.{Ended, Blamed, Trapped, RegionOut, StackOut, StepsSpent}
use Rattle.rv_emulator.specs.declared.stops.Stop.TheVariants.{Undefined, BadAddress, Misaligned, OutOfMemory}
use Rattle.rv_emulator.specs.declared.stops.BlockStop.{BlockStop}
use Rattle.rv_emulator.specs.declared.stops.BlockStop.TheVariants.{Stopped, SinkFailed}
use Rattle.rv_emulator.specs.declared.processor.Processor.{Processor}
use Rattle.rv_emulator.specs.Processor.{IsSoundBy}
use Rattle.rv_emulator.specs.Turns.{Outcome, Halts, Spent, NoMemory, outcome_of, StopsBy}
use Rattle.rv_emulator.specs.Blocks.{with_output, printed_before, PutsOutput, PutsRest, EndsBlock, IsDue, BlockIsFull}
use Rattle.rv_emulator.specs.Blocks.{RunIsOver, stop_by, HasMade, FailsInBlocks, LacksInBlocks}
use Rattle.rv_emulator.specs.Blocks.{StopsInBlocks}
use Rattle.rv_emulator.specs.Blocks.{RunsBlocks}
use Rattle.rv_emulator.proofs.Prefixes.{turn_before, turn_is_before}

-- ---- sinks

adds_nothing : (o : Option (List ℕ)) → Adds [] o o
adds_nothing None = refl
adds_nothing (Some bytes) = ap (λ l. Some l) (sym (append-nil bytes))

adds_both : (a b : List ℕ) (o m n : Option (List ℕ)) → Adds a o m → Adds b m n → Adds (a ++ b) o n
adds_both a b None m n e f = rw (f, e) refl
adds_both a b (Some bytes) m n e f = rw (f, e) (ap (λ l. Some l) (append_assoc bytes a b))

module _ {S : Type 0} (written : S → Option (List ℕ)) (count : S → ℕ) where
  pub takes_nothing : (o : S) → Takes [] (sink_seen written count o o)
  takes_nothing o = record { written = adds_nothing (written o); faults = refl }

  pub takes_both : (a b : List ℕ) (o m n : S) → Takes a (sink_seen written count o m)
      → Takes b (sink_seen written count m n) → Takes (a ++ b) (sink_seen written count o n)
  takes_both a b o m n s t = record {
    written = adds_both a b (written o) (written m) (written n) s.written t.written;
    faults = t.faults ∙ s.faults;
  }

  -- a sink that is as before after bytes were taken
  pub takes_still : (a : List ℕ) (o m n : S) → Takes a (sink_seen written count o m)
      → Untouched (sink_seen written count m n) → Takes a (sink_seen written count o n)
  takes_still a o m n s u = record { written = u.written ∙ s.written; faults = u.faults ∙ s.faults }

-- ---- turns

-- after these turns, which all went on, this was put, and no block is full
pub record InBlocks (n : ℕ) (old : State) (out : SinkSeen) (now : State) : Type 0 where
  pub put : List ℕ
  pub taken : Takes put out
  pub made : run_of n old ≡ (printed_before put now, None)
  pub few : length now.world.output < 4096

pub blocks_begin : {S : Type 0} (written : S → Option (List ℕ)) (count : S → ℕ) (o : S) (old now : State)
    → old.world.output ≡ [] → now ≡ old → InBlocks 0 old (sink_seen written count o o) now
blocks_begin written count o old now e f =
    let b : InBlocks 0 old (sink_seen written count o o) old = record {
      put = [];
      taken = takes_nothing written count o;
      made = run_none old;
      few = rw e (omega arith);
    } in
    rw f b

-- a turn more
one_more : (n : ℕ) (put : List ℕ) (old now next : State) → run_of n old ≡ (printed_before put now, None)
    → turn_of now ≡ Next next → run_of (n + 1) old ≡ (printed_before put next, None)
one_more n put old now next e t =
    run_more n old (printed_before put now) (printed_before put next) e
    (turn_is_before put now ∙ ap (turn_before put) t)

pub block_grows : (n : ℕ) (old : State) (out : SinkSeen) (now next : State) → InBlocks n old out now
    → turn_of now ≡ Next next → length next.world.output < 4096 → InBlocks (n + 1) old out next
block_grows n old out now next b t l = record {
  put = b.put;
  taken = b.taken;
  made = one_more n b.put old now next b.made t;
  few = l;
}

-- what was kept is put
printed_put : (put : List ℕ) (s : State)
    → printed_before (put ++ s.world.output) (with_output [] s) ≡ printed_before put s
printed_put put s = ap (λ bytes. with_output bytes s) (append-nil (put ++ s.world.output))

pub block_put : {S : Type 0} (written : S → Option (List ℕ)) (count : S → ℕ) (n : ℕ) (old : State) (o m k : S)
    (now next new : State) → InBlocks n old (sink_seen written count o m) now → turn_of now ≡ Next next
    → Takes next.world.output (sink_seen written count m k) → new ≡ with_output [] next
    → InBlocks (n + 1) old (sink_seen written count o k) new
block_put written count n old o m k now next new b t p e = record {
  put = b.put ++ next.world.output;
  taken = takes_both written count b.put next.world.output o m k b.taken p;
  made = one_more n b.put old now next b.made t ∙ ap (λ s. (s, None)) (sym (printed_put b.put next))
      ∙ ap (λ s. (printed_before (b.put ++ next.world.output) s, None)) (sym e);
  few = rw e (omega arith);
}

-- ---- ends

longer : (put : List ℕ) (s : State) → length s.world.output < 4096
    → length (printed_before put s).world.output < length put + 4096
longer put s l = let e = length-append put s.world.output in omega (arith, e)

some_kept : (bytes : List ℕ) → 4096 ≤ length bytes → bytes ≢ []
some_kept bytes l e = let z = ap length e in absurd (let f : ⊥ = omega (arith, z, l) in f)

abbrev full_made : (n steps : ℕ) (put : List ℕ) (old now next : State) → run_of n old ≡ (printed_before put now, None)
    → turn_of now ≡ Next next → n < steps → length next.world.output ≤ 4127 → HasMade steps old put next
full_made n steps put old now next e t l k = record {
  turns = n + 1;
  halt = None;
  within = omega arith;
  made = one_more n put old now next e t;
  few = k;
}

full_due : (n steps : ℕ) (put : List ℕ) (old now next : State) → run_of n old ≡ (printed_before put now, None)
    → length now.world.output < 4096 → 4096 ≤ length next.world.output
    → IsDue steps (n + 1) old None put next.world.output
full_due n steps put old now next e b f = BlockIsFull n (printed_before put now) refl e (longer put now b) f

-- the put of a full block failed
pub full_fails : {S : Type 0} (written : S → Option (List ℕ)) (count : S → ℕ) (n steps : ℕ) (old : State) (o m k : S)
    (now next new : State) → InBlocks n old (sink_seen written count o m) now → turn_of now ≡ Next next → n < steps
    → 4096 ≤ length next.world.output → length next.world.output ≤ 4127
    → Breaks next.world.output (sink_seen written count m k) → new ≡ next
    → FailsInBlocks steps old (sink_seen written count o k) new
full_fails written count n steps old o m k now next new b t l f g p e =
    let r : FailsInBlocks steps old (sink_seen written count o k) next = record {
      put = b.put;
      so_far = full_made n steps b.put old now next b.made t l g;
      some = some_kept next.world.output f;
      due = full_due n steps b.put old now next b.made b.few f;
      between = written m;
      taken = b.taken.written;
      begun = p.written;
      faults = p.faults ∙ ap next_count b.taken.faults;
    } in
    rw e r

-- it found no memory
pub full_lacks : {S : Type 0} (written : S → Option (List ℕ)) (count : S → ℕ) (whole : Bool) (n steps : ℕ) (old : State)
    (o m k : S) (now next new : State) → InBlocks n old (sink_seen written count o m) now → turn_of now ≡ Next next
    → n < steps → 4096 ≤ length next.world.output → length next.world.output ≤ 4127
    → Untouched (sink_seen written count m k) → new ≡ next
    → LacksInBlocks whole steps old (sink_seen written count o k) new
full_lacks written count whole n steps old o m k now next new b t l f g p e =
    let r : LacksInBlocks whole steps old (sink_seen written count o k) next = record {
      put = b.put;
      so_far = full_made n steps b.put old now next b.made t l g;
      taken = takes_still written count b.put o m k b.taken p;
      cause = inr (inl (some_kept next.world.output f, full_due n steps b.put old now next b.made b.few f));
    } in
    rw e r

-- so it is by the answer of the put
pub full_ends : {S : Type 0} (written : S → Option (List ℕ)) (count : S → ℕ) (whole : Bool) (n steps : ℕ) (old : State)
    (o m k : S) (now next new : State) (fault : SinkFault) → InBlocks n old (sink_seen written count o m) now
    → turn_of now ≡ Next next → n < steps → 4096 ≤ length next.world.output → length next.world.output ≤ 4127
    → PutsOutput next.world.output (Err fault) (sink_seen written count m k) → new ≡ next
    → RunsBlocks whole steps old (stop_by fault) (sink_seen written count o k) new
full_ends written count whole n steps old o m k now next new Failed b t l f g p e =
    full_fails written count n steps old o m k now next new b t l f g p.1 e
full_ends written count whole n steps old o m k now next new SinkMemory b t l f g p e =
    full_lacks written count whole n steps old o m k now next new b t l f g p.1 e

-- there was no room for a block
pub none_begun : {S : Type 0} (written : S → Option (List ℕ)) (count : S → ℕ) (whole : Bool) (steps : ℕ) (o : S)
    (old new : State) → old.world.output ≡ [] → new ≡ old
    → LacksInBlocks whole steps old (sink_seen written count o o) new
none_begun written count whole steps o old new e f =
    let r : LacksInBlocks whole steps old (sink_seen written count o o) old = record {
      put = [];
      so_far = record { turns = 0; halt = None; within = omega arith; made = run_none old; few = rw e (omega arith) };
      taken = takes_nothing written count o;
      cause = inl refl;
    } in
    rw f r

-- ---- ends

-- the run has ended so, at this state
abbrev pub EndedBy : Outcome → ℕ → State → State → Type 0
EndedBy (Halts halt) steps old s = run_of steps old ≡ (s, Some halt)
EndedBy Spent steps old s = run_of steps old ≡ (s, None)
EndedBy NoMemory steps old s = ⊥

over : (outcome : Outcome) (steps : ℕ) (old s : State) → EndedBy outcome steps old s
    → (halt : Option Halt) × (run_of steps old ≡ (s, halt))
over (Halts halt) steps old s e = (Some halt, e)
over Spent steps old s e = (None, e)
over NoMemory steps old s e = absurd e

abbrev over_made : (outcome : Outcome) (steps : ℕ) (put : List ℕ) (old now : State)
    → EndedBy outcome steps old (printed_before put now) → length now.world.output < 4096 → HasMade steps old put now
over_made outcome steps put old now e l =
    let h = over outcome steps old (printed_before put now) e in
    record { turns = steps; halt = h.0; within = omega arith; made = h.1; few = omega arith }

rest_fails : {S : Type 0} (written : S → Option (List ℕ)) (count : S → ℕ) (outcome : Outcome) (steps : ℕ)
    (put : List ℕ) (old now : State) (o m k : S) → Takes put (sink_seen written count o m)
    → EndedBy outcome steps old (printed_before put now) → length now.world.output < 4096 → now.world.output ≢ []
    → Breaks now.world.output (sink_seen written count m k)
    → FailsInBlocks steps old (sink_seen written count o k) now
rest_fails written count outcome steps put old now o m k t e l s p = record {
  put = put;
  so_far = over_made outcome steps put old now e l;
  some = s;
  due = RunIsOver refl l;
  between = written m;
  taken = t.written;
  begun = p.written;
  faults = p.faults ∙ ap next_count t.faults;
}

rest_lacks : {S : Type 0} (written : S → Option (List ℕ)) (count : S → ℕ) (whole : Bool) (outcome : Outcome)
    (steps : ℕ) (put : List ℕ) (old now : State) (o m k : S) → Takes put (sink_seen written count o m)
    → EndedBy outcome steps old (printed_before put now) → length now.world.output < 4096 → now.world.output ≢ []
    → Untouched (sink_seen written count m k) → LacksInBlocks whole steps old (sink_seen written count o k) now
rest_lacks written count whole outcome steps put old now o m k t e l s u = record {
  put = put;
  so_far = over_made outcome steps put old now e l;
  taken = takes_still written count put o m k t u;
  cause = inr (inl (s, RunIsOver refl l));
}

rest_ends : {S : Type 0} (written : S → Option (List ℕ)) (count : S → ℕ) (whole : Bool) (outcome : Outcome)
    (steps : ℕ) (put : List ℕ) (old now : State) (o m k : S) → Takes put (sink_seen written count o m)
    → EndedBy outcome steps old (printed_before put now) → Takes now.world.output (sink_seen written count m k)
    → StopsInBlocks whole steps old outcome (sink_seen written count o k) (with_output [] now)
rest_ends written count whole (Halts halt) steps put old now o m k t e p = record {
  put = put ++ now.world.output;
  ran = e ∙ ap (λ s. (s, Some halt)) (sym (printed_put put now));
  nothing_kept = refl;
  taken = takes_both written count put now.world.output o m k t p;
}
rest_ends written count whole Spent steps put old now o m k t e p = record {
  put = put ++ now.world.output;
  ran = e ∙ ap (λ s. (s, None)) (sym (printed_put put now));
  nothing_kept = refl;
  taken = takes_both written count put now.world.output o m k t p;
}
rest_ends written count whole NoMemory steps put old now o m k t e p = absurd e

-- the rest was put at the end of the run
pub rest_is_put : {S : Type 0} (written : S → Option (List ℕ)) (count : S → ℕ) (whole : Bool) (stop : Stop)
    (steps : ℕ) (put : List ℕ) (old now new : State) (o m k : S) (result : BlockStop)
    → Takes put (sink_seen written count o m) → EndedBy (outcome_of stop) steps old (printed_before put now)
    → length now.world.output < 4096 → PutsRest stop now result (sink_seen written count m k) new
    → RunsBlocks whole steps old result (sink_seen written count o k) new
rest_is_put written count whole stop steps put old now new o m k SinkFailed t e l p =
    rw p.2 (rest_fails written count (outcome_of stop) steps put old now o m k t e l p.0 p.1)
rest_is_put written count whole stop steps put old now new o m k (Stopped other) t e l (inl p) =
    rw (p.0, p.2) (rest_ends written count whole (outcome_of stop) steps put old now o m k t e p.1)
rest_is_put written count whole stop steps put old now new o m k (Stopped other) t e l (inr p) =
    rw (p.0, p.3) (rest_lacks written count whole (outcome_of stop) steps put old now o m k t e l p.1 p.2)

-- a turn that finds no memory
turn_lacks : {S : Type 0} (written : S → Option (List ℕ)) (count : S → ℕ) (whole : Bool) (n steps : ℕ) (old now : State)
    (o m k : S) → InBlocks n old (sink_seen written count o m) now → n < steps → whole ≡ false
    → Untouched (sink_seen written count m k) → LacksInBlocks whole steps old (sink_seen written count o k) now
turn_lacks written count whole n steps old now o m k b l w u = record {
  put = b.put;
  so_far = record { turns = n; halt = None; within = omega arith; made = b.made; few = omega (arith, b.few) };
  taken = takes_still written count b.put o m k b.taken u;
  cause = inr (inr w);
}

-- a turn that finds no memory though there is room for what it prints
only_ram : (whole : Bool) (reserved : ℕ) (now next : State) → next ≡ now → length now.world.output < 4096
    → 4128 ≤ reserved → (whole ≡ false) ⊎ (reserved < length next.world.output + 20) → whole ≡ false
only_ram whole reserved now next e l h (inl w) = w
only_ram whole reserved now next e l h (inr f) =
    let same = ap (λ (s : State). length s.world.output) e in absurd (let no : ⊥ = omega (arith, same, l, h, f) in no)

-- the run ends by a turn
pub turn_ends : {S : Type 0} (written : S → Option (List ℕ)) (count : S → ℕ) (whole : Bool) (reserved : ℕ)
    (lack : Type 0) (outcome : Outcome) (stop : Stop) (n steps : ℕ) (old now next new : State) (o m k : S)
    (result : BlockStop) → outcome_of stop ≡ outcome → InBlocks n old (sink_seen written count o m) now → n < steps
    → StopsBy lack (turn_of now) now outcome next → 4128 ≤ reserved
    → (outcome ≡ NoMemory → (whole ≡ false) ⊎ (reserved < length next.world.output + 20))
    → EndsBlock outcome stop next result (sink_seen written count m k) new
    → RunsBlocks whole steps old result (sink_seen written count o k) new
turn_ends written count whole reserved lack (Halts halt) stop n steps old now next new o m k result s b l t h w p =
    let e : run_of steps old ≡ (printed_before b.put now, Some halt) =
    run_stops n steps old (printed_before b.put now) halt b.made l
    (turn_is_before b.put now ∙ ap (turn_before b.put) t.0) in
    rest_is_put written count whole stop steps b.put old now new o m k result b.taken (rw s e) b.few
    (rw (← t.1) p)
turn_ends written count whole reserved lack Spent stop n steps old now next new o m k result s b l t h w p = absurd t
turn_ends written count whole reserved lack NoMemory stop n steps old now next new o m k result s b l t h w p =
    rw (p.0, p.2, t.1) (turn_lacks written count whole n steps old now o m k b l
    (only_ram whole reserved now next t.1 b.few h (w refl)) p.1)

-- only one stop is want of memory
pub memory_stop : (stop : Stop) → outcome_of stop ≡ NoMemory → stop ≡ OutOfMemory
memory_stop OutOfMemory e = refl
memory_stop (Ended answer) e = cc
memory_stop (Blamed label) e = cc
memory_stop (Trapped trap) e = cc
memory_stop RegionOut e = cc
memory_stop StackOut e = cc
memory_stop StepsSpent e = cc
memory_stop (Undefined pc) e = cc
memory_stop (BadAddress pc) e = cc
memory_stop (Misaligned pc) e = cc

-- at any other stop the rest is put
pub puts_rest : (stop : Stop) (old : State) (result : BlockStop) (out : SinkSeen) (new : State) → stop ≢ OutOfMemory
    → PutsRest stop old result out new → EndsBlock (outcome_of stop) stop old result out new
puts_rest OutOfMemory old result out new h p = absurd (h refl)
puts_rest (Ended answer) old result out new h p = p
puts_rest (Blamed label) old result out new h p = p
puts_rest (Trapped trap) old result out new h p = p
puts_rest RegionOut old result out new h p = p
puts_rest StackOut old result out new h p = p
puts_rest StepsSpent old result out new h p = p
puts_rest (Undefined pc) old result out new h p = p
puts_rest (BadAddress pc) old result out new h p = p
puts_rest (Misaligned pc) old result out new h p = p

-- a state whose outside is the same
pub same_but : (s : State) (w : WorldState) → w ≡ s.world → ◌≡◌ {A = State} (record s { world = w }) s
same_but s w e = rw e

-- ---- an emulator in which only the console changes

pub same_sound : {R : Type 0} (bytes_len : R → ℕ) (memory : R → Memory) (p q : Processor R)
    → q ≡ record p { console = q.console } → IsSoundBy bytes_len memory p → IsSoundBy bytes_len memory q
same_sound bytes_len memory p q e s = rw e s

pub same_whole : {R : Type 0} (whole : R → Bool) (p q : Processor R) → q ≡ record p { console = q.console }
    → whole q.ram ≡ whole p.ram
same_whole whole p q e = ap (λ x. whole x.ram) e

pub fails_as_before : {R : Type 0} (whole : R → Bool) (p q : Processor R) {P : Type 0}
    → q ≡ record p { console = q.console } → (whole p.ram ≡ false) ⊎ P → (whole q.ram ≡ false) ⊎ P
fails_as_before whole p q e (inl w) = inl (same_whole whole p q e ∙ w)
fails_as_before whole p q e (inr f) = inr f

pub room_there : {E : Type 0} (r : Result (Unit {0}) E) {P : Type 0} → is_err r ≡ false → OnOk r P → P
room_there (Ok done) e p = p
room_there (Err fault) e p = cc
