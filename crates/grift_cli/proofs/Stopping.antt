-- How the run of an image is reported whose output is put as it goes.
use Rattle.std.proofs.Common.{ℕ, ◌+◌, ◌-◌, ◌≡◌, ◌≢◌, Bool, List, [], ◌∷◌, ◌++◌, length, take, Option, Some, None}
use Rattle.std.proofs.Common.{refl, sym, ◌∙◌, ap, subst, arith}
use Rattle.std.proofs.lemmas.List.{append-nil, append_assoc, length-append}
use Rattle.std.proofs.Math.Seq.{take-append-add}
use Rattle.grift_base.specs.Sink.{SinkSeen, Takes, Breaks, Adds, AddsBeginning, sink_seen}
use Rattle.rv_machine.specs.State.{State}
use Rattle.machine_words.specs.Halts.{Halt}
use Rattle.rv_machine.specs.Start.{start_of, fresh_world}
use Rattle.rv_machine.specs.Mach.{run_of}
use Rattle.rv_machine.proofs.Public.{run_none}
use Rattle.rv_emulator.specs.Turns.{Outcome, Halts, Spent, NoMemory}
use Rattle.rv_emulator.specs.Blocks.{with_output, printed_before, HasMade, FailsInBlocks, EndsInBlocks}
use Rattle.rv_emulator.specs.Blocks.{StopsInBlocks}
use Rattle.grift_cli.specs.Runs.{run_within, printed, printed_after}
use Rattle.grift_cli.specs.Outcome.{OutputFails, OutputStops}
use Rattle.grift_cli.specs.Running.{TellsRun, TellsStop}
use Rattle.command_words.specs.declared.commands.Limits.{Limits}
use Rattle.grift_cli.specs.declared.reports.Report.{Report}

-- the run within the limits has come to this state, but that its output was put; and the report tells it
pub record HasPut (limits : Limits) (image input : List ℕ) (t : State) (out : SinkSeen) (report : Report) : Type 0 where
  pub told : TellsRun (run_within limits image input).1 report
  pub state : (run_within limits image input).0 ≡ with_output (printed limits image input) t
  pub put : Takes (printed limits image input) out

put_whole : (limits : Limits) (image input : List ℕ) (s t : State) (halt : Option Halt) (out : SinkSeen)
    (report : Report) → s ≡ start_of image limits.region limits.stack (fresh_world input)
    → EndsInBlocks limits.steps s halt out t → TellsRun halt report → HasPut limits image input t out report
put_whole limits image input s t halt out report e b told =
    let kept : b.put ++ t.world.output ≡ b.put = ap (λ xs. b.put ++ xs) b.nothing_kept ∙ append-nil b.put in
    let ran : run_of limits.steps s ≡ (with_output b.put t, halt) =
    b.ran ∙ ap (λ xs. (with_output xs t, halt)) kept in
    let here : run_within limits image input ≡ (with_output b.put t, halt) = rw (sym e) ran in
    let printed_is : printed limits image input ≡ b.put = ap (λ (r : State × Option Halt). r.0.world.output) here in
    record {
      told = rw here told;
      state = ap (λ (r : State × Option Halt). r.0) here ∙ ap (λ xs. with_output xs t) (sym printed_is);
      put = subst (λ xs. Takes xs out) (sym printed_is) b.taken;
    }

-- a run that stops for another reason than want of memory
pub has_put : (limits : Limits) (image input : List ℕ) (whole : Bool) (s t : State) (outcome : Outcome) (out : SinkSeen)
    (report : Report) → s ≡ start_of image limits.region limits.stack (fresh_world input)
    → StopsInBlocks whole limits.steps s outcome out t → TellsStop outcome (Some report)
    → HasPut limits image input t out report
has_put limits image input whole s t (Halts halt) out report e b told =
    put_whole limits image input s t (Some halt) out report e b told
has_put limits image input whole s t Spent out report e b told =
    put_whole limits image input s t None out report e b told
has_put limits image input whole s t NoMemory out report e b told = absurd (let f : ⊥ = cc in f)

printed_so_far : (limits : Limits) (image input put : List ℕ) (s t : State)
    → s ≡ start_of image limits.region limits.stack (fresh_world input) → (m : HasMade limits.steps s put t)
    → printed_after limits image input m.turns ≡ put ++ t.world.output
printed_so_far limits image input put s t e m =
    let made : run_of m.turns (start_of image limits.region limits.stack (fresh_world input))
    ≡ (printed_before put t, m.halt) = rw (sym e) m.made in
    ap (λ (r : State × Option Halt). r.0.world.output) made

-- a run that stops for want of memory
pub stops_short : (limits : Limits) (image input : List ℕ) (whole : Bool) (s t : State) (outcome : Outcome)
    (out : SinkSeen) → s ≡ start_of image limits.region limits.stack (fresh_world input)
    → StopsInBlocks whole limits.steps s outcome out t → TellsStop outcome None → OutputStops limits image input out
stops_short limits image input whole s t (Halts halt) out e b told = absurd (let f : ⊥ = told in f)
stops_short limits image input whole s t Spent out e b told = absurd (let f : ⊥ = told in f)
stops_short limits image input whole s t NoMemory out e b told = record {
  turns = b.so_far.turns;
  within = b.so_far.within;
  put = b.put;
  kept = t.world.output;
  output_is = printed_so_far limits image input b.put s t e b.so_far;
  taken = b.taken;
}

-- a machine that wasn't made has printed nothing
adds_nothing : (o : Option (List ℕ)) → Adds [] o o
adds_nothing None = refl
adds_nothing (Some bytes) = ap (λ l. Some l) (sym (append-nil bytes))

pub not_begun : {S : Type 0} (written : S → Option (List ℕ)) (count : S → ℕ) (o : S) (limits : Limits)
    (image input : List ℕ) → OutputStops limits image input (sink_seen written count o o)
not_begun written count o limits image input = record {
  turns = 0;
  within = omega arith;
  put = [];
  kept = [];
  output_is = ap (λ (r : State × Option Halt). r.0.world.output)
      (run_none (start_of image limits.region limits.stack (fresh_world input)));
  taken = record { written = adds_nothing (written o); faults = refl };
}

-- a beginning behind bytes that were added
begun_more : (before a b : List ℕ) (n : ℕ) → n ≡ length (before ++ a ++ take (n - length (before ++ a)) b)
    → before ++ a ++ take (n - length (before ++ a)) b ≡ before ++ take (n - length before) (a ++ b)
begun_more before a b n e =
    let k = n - length (before ++ a) in
    let both = length-append (before ++ a) (take k b) in
    let two = length-append before a in
    let more : n - length before ≡ length a + k = omega (arith, e, both, two) in
    append_assoc before a (take k b) ∙ ap (λ xs. before ++ xs) (sym (take-append-add a b k))
    ∙ ap (λ j. before ++ take j (a ++ b)) (sym more)

begun_at : (before a b after : List ℕ) → after ≡ before ++ a ++ take (length after - length (before ++ a)) b
    → after ≡ before ++ take (length after - length before) (a ++ b)
begun_at before a b after e = e ∙ begun_more before a b (length after) (ap length e)

adds_beginning : (a b : List ℕ) (o m n : Option (List ℕ)) → Adds a o m → AddsBeginning b m n
    → AddsBeginning (a ++ b) o n
adds_beginning a b None m n e f = let g = rw e at f in g
adds_beginning a b (Some before) m None e f = let g = rw e at f in absurd g
adds_beginning a b (Some before) m (Some after) e f = let g = rw e at f in begun_at before a b after g

some_more : (a b : List ℕ) → b ≢ [] → a ++ b ≢ []
some_more [] b h e = h e
some_more (x ∷ a) b h e = cc

-- a run whose put failed
pub put_fails : (limits : Limits) (image input : List ℕ) (s t : State) (out : SinkSeen)
    → s ≡ start_of image limits.region limits.stack (fresh_world input) → FailsInBlocks limits.steps s out t
    → OutputFails limits image input out
put_fails limits image input s t out e b =
    let is = printed_so_far limits image input b.put s t e b.so_far in
    record {
      turns = b.so_far.turns;
      within = b.so_far.within;
      some = rw is (some_more b.put t.world.output b.some);
      fails = subst (λ xs. Breaks xs out) (sym is) (record {
        written = adds_beginning b.put t.world.output out.written b.between out.written_after b.taken b.begun;
        faults = b.faults;
      });
    }
