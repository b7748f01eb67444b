-- Where nothing is told, the machine that runs an assembled image is the one that is told what ECALL and EBREAK do.
use Rattle.std.proofs.Common.{ℕ, zero, suc, ◌+◌, ◌≡◌, Bool, true, false, List, ◌∷◌, drop, Option, Some, None, refl, sym}
use Rattle.std.proofs.Common.{◌∙◌, ap, subst}
use Rattle.std.specs.Prelude.{nat_lt, nat_le, ◌&&◌, if◌then◌else◌}
use Rattle.run_laws.specs.Runs.{Ending, Moment, Run, NeverWrong, FollowsBy, Any}
use Rattle.run_laws.specs.Machines.{Next as Step, Go, Stop, Machine, and_then, steps, seen, run}
use Rattle.run_laws.specs.Meters.{Metered, metered, each_one, charge, unspent, Spends, OfRest}
use Rattle.run_laws.proofs.Public.{follows_equal, follows_by_before, follows_of, follower_never_goes_wrong}
use Rattle.grift_base.specs.World.{WorldState}
use Rattle.grift_base.specs.declared.places.Pos.{Pos}
use Rattle.rv_isa.specs.declared.inst.Inst.{Inst}
use Rattle.rv_isa.specs.declared.inst.Inst.TheVariants.{Ecall, Ebreak}
use Rattle.rv_machine.specs.declared.real.RealItem.{RealItem}
use Rattle.rv_machine.specs.declared.real.RealItem.TheVariants.{Op, Mark, Jump, Branch, Address}
use Rattle.rv_isa.specs.Decoding.{decode_of}
use Rattle.machine_words.specs.Memory.{Memory, load_bytes}
use Rattle.rv_machine.specs.State.{Layout, State, Turn, Next, Stops}
use Rattle.machine_words.specs.Halts.{Halt, GoesWrong}
use Rattle.machine_words.specs.declared.faults.MachineFault.TheVariants.{Undefined, BadAddress}
use Rattle.rv_machine.specs.Start.{start_of, layout_of}
use Rattle.rv_machine.specs.Turn.{turn_of, act_if, call_environment, is_undefined}
use Rattle.rv_machine.specs.Mach.{machine_by, step_by}
use Rattle.rv_machine.specs.Real.{Setting, plain_setting, Here, item_at, call_of_item, call_here, call_or_fetched}
use Rattle.rv_machine.specs.Real.{turn_in, machine_in, real_machine}
use Rattle.assembler.specs.Layout.{address_of}
use Rattle.assembler.specs.Imaging.{code_start, assembled}
use Rattle.assembler.specs.Prices.{state_price}
use Rattle.assembler.specs.Following.{IsLike, LeavesCode, CanBeCall, Simulates, RunsAsCode, image_memory}
use Rattle.assembler.proofs.Finding.{Found, found}
use Rattle.assembler.proofs.Turns.{leaves_act, leaves_call, like_call}
use Rattle.assembler.proofs.Standing.{Intact, same_word}
use Rattle.assembler.proofs.Following.{CodeFacts, Sizes, code_at, full, simulated}

-- ---- two machines that make the same steps where I holds

abbrev Keeps : {S V : Type 0} → (S → Type 0) → Step S V → Type 0
Keeps I (Go s) = I s
Keeps I (Stop e s) = Unit {0}

module _ {S A V : Type 0} (X Y : Machine S A V) (I : S → Type 0) (alike : (x : Step S V) → seen X x ≡ seen Y x)
    (step : (s : S) → I s → X.step s ≡ Y.step s) (keeps : (s : S) → I s → Keeps I (X.step s)) where
  onward : (n : ℕ) (x : Step S V) → Keeps I x → ((s : S) → I s → steps X s n ≡ steps Y s n)
      → and_then x (λ s. steps X s n) ≡ and_then x (λ s. steps Y s n)
  onward n (Go s) k ih = ih s k
  onward n (Stop e s) k ih = refl

  steps_equal : (n : ℕ) (s : S) → I s → steps X s n ≡ steps Y s n
  steps_equal zero s i = refl
  steps_equal (suc n) s i =
      onward n (X.step s) (keeps s i) (λ s1 j. steps_equal n s1 j)
      ∙ ap (λ x. and_then x (λ s1. steps Y s1 n)) (step s i)

  pub runs_equal : (s : S) → I s → (n : ℕ) → run X s n ≡ run Y s n
  runs_equal s i n = ap (seen X) (steps_equal n s i) ∙ alike (steps Y s n)

pub equal_never_wrong : {A V : Type 0} (x y : Run A V) → ((n : ℕ) → x n ≡ y n) → NeverWrong y → NeverWrong x
equal_never_wrong x y e nw n h = nw n (sym (ap (λ (m : Moment _ _). m.ending) (e n)) ∙ h)

pub follows_by_equal : {A B V : Type 0} (K L : A → B → Type 0) (x y : Run A V) (z : Run B V) → ((n : ℕ) → x n ≡ y n)
    → FollowsBy K L y z → FollowsBy K L x z
follows_by_equal K L x y z e f =
    follows_by_before (follows_equal x y (equal_never_wrong x y e (follower_never_goes_wrong (follows_of f))) e) f

-- ---- what the environment and an undefined instruction may be told to do

can_call : CanBeCall call_environment
can_call = record { spares = like_call; leaves = leaves_call }

can_refuse : CanBeCall is_undefined
can_refuse = record { spares = λ s t l e. ap (λ pc. GoesWrong (Undefined pc)) e; leaves = λ s. tt }

-- ---- every turn leaves the code

leaves_here : (o : Option Inst) (t : State) → LeavesCode t (act_if o t)
leaves_here None t = tt
leaves_here (Some i) t = leaves_act call_environment is_undefined leaves_call (λ s. tt) i t

leaves_when : (b : Bool) (x : Turn) (pc : ℕ) (t : State) → LeavesCode t x
    → LeavesCode t (if b then x else Stops (GoesWrong (BadAddress pc)))
leaves_when true x pc t h = h
leaves_when false x pc t h = tt

leaves_turn : (t : State) → LeavesCode t (turn_of t)
unfolding turn_of
leaves_turn t =
    leaves_when (nat_le t.layout.code t.pc && nat_lt t.pc t.layout.region)
    (act_if (decode_of (load_bytes 4 t.memory t.pc)) t) t.pc t
    (leaves_here (decode_of (load_bytes 4 t.memory t.pc)) t)

if_same : (b : Bool) (x y z : Turn) → (b ≡ true → x ≡ y) → (if b then x else z) ≡ (if b then y else z)
if_same true x y z h = h refl
if_same false x y z h = refl

seen_same : {S A V : Type 0} (step step1 : S → Step S V) (output : S → List ℕ) (shown : S → A) (x : Step S V)
    → seen (record { step = step; output = output; shown = shown }) x
    ≡ seen (record { step = step1; output = output; shown = shown }) x
seen_same step step1 output shown (Go s) = refl
seen_same step step1 output shown (Stop e s) = refl

module _ {items : List RealItem} {statics : List ℕ} {labels : List Pos} (facts : CodeFacts items statics labels)
    (sizes : Sizes) (world : WorldState) where
  abbrev bytes : List ℕ
  bytes = assembled items statics labels

  abbrev l : Layout
  l = layout_of bytes sizes.region sizes.stack

  abbrev m0 : Memory
  m0 = image_memory bytes

  abbrev address : ℕ → ℕ
  address = address_of items l.code

  abbrev setting : Setting
  setting = plain_setting address

  abbrev first : State
  first = start_of bytes sizes.region sizes.stack world

  abbrev Sound : State → Type 0
  Sound t = (t.layout ≡ l) × Intact l m0 t.memory

  module _ (t : State) (sound : Sound t) where
    by_item : (place : ℕ) (item : RealItem) (rest : List RealItem) → drop place items ≡ item ∷ rest
        → address place ≡ t.pc → act_if (decode_of (load_bytes 4 t.memory t.pc)) t
        ≡ call_or_fetched (call_of_item setting place item) t
    by_item place (Op Ecall) rest there e =
        let s = full facts sizes place (Op Ecall) rest there in
        let w : load_bytes 4 t.memory t.pc ≡ load_bytes 4 m0 (address place) = subst
        (λ n. load_bytes 4 t.memory n ≡ load_bytes 4 m0 (address place)) e
        (same_word l m0 t.memory (address place) sound.1 s.1) in
        ap (λ n. act_if (decode_of n) t) w ∙ ap (λ o. act_if o t) s.0
    by_item place (Op Ebreak) rest there e =
        let s = full facts sizes place (Op Ebreak) rest there in
        let w : load_bytes 4 t.memory t.pc ≡ load_bytes 4 m0 (address place) = subst
        (λ n. load_bytes 4 t.memory n ≡ load_bytes 4 m0 (address place)) e
        (same_word l m0 t.memory (address place) sound.1 s.1) in
        ap (λ n. act_if (decode_of n) t) w ∙ ap (λ o. act_if o t) s.0
    by_item place (Op _) rest there e = refl
    by_item place (Mark mark) rest there e = refl
    by_item place (Jump rd mark) rest there e = refl
    by_item place (Branch cond a b mark) rest there e = refl
    by_item place (Address rd mark) rest there e = refl

    fetched : (o : Option Here) → item_at address items t.pc ≡ o
        → act_if (decode_of (load_bytes 4 t.memory t.pc)) t ≡ call_or_fetched (call_here setting o) t
    fetched None e = refl
    fetched (Some here) e =
        let f : Found items l.code t.pc here = found items l.code t.pc here e in
        by_item here.place here.item f.rest f.stands f.address

    same_turn : turn_of t ≡ turn_in items setting t
    unfolding turn_of turn_in
    same_turn =
        if_same (nat_le t.layout.code t.pc && nat_lt t.pc t.layout.region) _ _ (Stops (GoesWrong (BadAddress t.pc)))
        (λ e. fetched (item_at address items t.pc) refl)

  module _ {V : Type 0} (reading : Halt → Ending V) where
    abbrev X : Machine State State V
    X = machine_by reading

    abbrev Y : Machine State State V
    Y = machine_in reading items setting

    keeps_turn : (t : State) (x : Turn) → Sound t → LeavesCode t x → Keeps Sound (step_by reading t x)
    keeps_turn t (Next t1) s h = (h.0 ∙ s.0, λ at a b. h.1 at (rw s.0 a) (rw s.0 b) ∙ s.1 at a b)
    keeps_turn t (Stops halt) s h = tt

    same_step : (t : State) → Sound t → X.step t ≡ Y.step t
    same_step t s = ap (step_by reading t) (same_turn t s)

    abbrev CountedSound : Metered State → Type 0
    CountedSound m = Sound m.rest

    keeps_counted : (n : ℕ) (x : Step State V) → Keeps Sound x → Keeps CountedSound (charge n x)
    keeps_counted n (Go t) k = k
    keeps_counted n (Stop e t) k = tt

    same_runs : (n : ℕ) → run X first n ≡ run Y first n
    same_runs n =
        runs_equal X Y Sound (seen_same X.step Y.step X.output X.shown) same_step
        (λ t s. keeps_turn t (turn_of t) s (leaves_turn t)) first (refl, λ at a b. refl) n

    same_counted : (n : ℕ) → run (metered each_one X) (unspent first) n ≡ run (metered each_one Y) (unspent first) n
    same_counted n =
        runs_equal (metered each_one X) (metered each_one Y) CountedSound
        (seen_same (metered each_one X).step (metered each_one Y).step (metered each_one X).output
        (metered each_one X).shown) (λ m s. ap (charge (m.spent + 1)) (same_step m.rest s))
        (λ m s. keeps_counted (m.spent + 1) (X.step m.rest)
        (keeps_turn m.rest (turn_of m.rest) s (leaves_turn m.rest))) (unspent first) (refl, λ at a b. refl) n

    runs_as : NeverWrong (run (real_machine reading items setting) first)
        → Simulates X (real_machine reading items setting) (state_price items setting) first
    runs_as nw =
        let s = simulated facts sizes reading
        (λ place. call_environment) (λ place. is_undefined) (λ place. can_call) (λ place. can_refuse) first refl
        (λ at h. refl) nw in
        record {
          follows =
              follows_by_equal IsLike Any (run X first) (run Y first) (run (real_machine reading items setting) first)
              same_runs s.follows;
          turns = follows_by_equal (OfRest IsLike) (Spends 1) (run (metered each_one X) (unspent first))
              (run (metered each_one Y) (unspent first))
              (run (metered (state_price items setting) (real_machine reading items setting)) (unspent first))
              same_counted s.turns;
        }

pub runs_as_code : {items : List RealItem} {statics : List ℕ} {labels : List Pos} → CodeFacts items statics labels
    → {V : Type 0} (reading : Halt → Ending V)
    → RunsAsCode reading (assembled items statics labels) items (address_of items (code_start statics))
runs_as_code {items} {statics} {labels} facts reading region stack world region_size stack_size nw =
    let sizes : Sizes =
    record { region = region; stack = stack; region_size = region_size; stack_size = stack_size } in
    let c = code_at facts in
    let s : State = start_of (assembled items statics labels) region stack world in
    subst (λ n. Simulates (machine_by reading) (real_machine reading items (plain_setting (address_of items n)))
    (state_price items (plain_setting (address_of items n))) s) c
    (runs_as facts sizes world reading
    (subst (λ n. NeverWrong (run (real_machine reading items (plain_setting (address_of items n))) s)) (sym c) nw))
