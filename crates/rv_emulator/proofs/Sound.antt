-- The parts of memory stay where they are, and the pc stays that of an instruction.
use Rattle.std.proofs.Common.{ℕ, ◌+◌, ◌%◌, ◌^◌, ◌<◌, ◌≤◌, ◌≡◌, inl, Bool, true, false, Option, Some, None, refl, ap}
use Rattle.std.proofs.Common.{arith}
use Rattle.std.specs.Prelude.{ℤ, ◌==◌, ◌&&◌, nat_le, if◌then◌else◌}
use Rattle.std.specs.Int.{Width, byte_len}
use Rattle.grift_base.specs.World.{WorldState}
use Rattle.grift_base.specs.declared.worlds.EnvEffect.{EnvEffect}
use Rattle.grift_base.specs.declared.worlds.EnvEffect.TheVariants.{Next as GoesOn, Ended as Answers, Blamed as Blames}
use Rattle.grift_base.specs.declared.worlds.EnvEffect.TheVariants.{Trapped as Traps, RegionOut as RegionEnds}
use Rattle.grift_base.specs.declared.worlds.EnvEffect.TheVariants.{StackOut as StackEnds, Refused}
use Rattle.grift_base.specs.declared.worlds.EnvEffect.TheVariants.{OutOfMemory as NoRoom}
use Rattle.machine_words.specs.Memory.{Memory, store_bytes, first_address}
use Rattle.machine_words.proofs.Public.{stored_outside}
use Rattle.machine_words.specs.declared.faults.MachineFault.TheVariants.{BadAddress, Misaligned}
use Rattle.rv_machine.specs.State.{State, Turn, Next, Stops}
use Rattle.rv_machine.specs.Turn.{load_into, store_from, branch_if, jump_and_link, comes_to, called, blames}
use Rattle.machine_words.specs.Arithmetic.{plus}
use Rattle.rv_machine.specs.Turn.{next_pc, goes_wrong}
use Rattle.rv_machine.specs.Registers.{set_reg}
use Rattle.rv_emulator.specs.declared.processor.Action.{Action}
use Rattle.rv_emulator.specs.declared.processor.Action.TheVariants.{Put, Load, Store, Branch, Jump, Skip, Call, Refuse}
use Rattle.rv_emulator.specs.declared.processor.Places.{Places}
use Rattle.rv_emulator.specs.declared.stops.Stop.{Stop}
use Rattle.rv_emulator.specs.Actions.{performed}
use Rattle.rv_emulator.specs.Turns.{Outcome, Halts, Spent, NoMemory, outcome_of, StopsBy, ComesTo}
use Rattle.rv_emulator.specs.Processor.{IsSound}

-- two memories have the same bytes below an address
abbrev pub AgreeBelow : ℕ → Memory → Memory → Type 0
AgreeBelow end m n = (at : ℕ) → at < end → n at ≡ m at

-- a turn keeps the layout and what lies below the region, and leads to an instruction's place
abbrev pub Keeps : State → Turn → Type 0
Keeps s (Next t) = (t.layout ≡ s.layout) × (t.pc % 4 ≡ 0) × AgreeBelow s.layout.region s.memory t.memory
Keeps s (Stops halt) = Unit {0}

four : (pc : ℕ) → pc % 4 ≡ 0 → (pc + 4) % 2 ^ 64 % 4 ≡ 0
four pc h = omega arith

either_keeps : (s : State) (test : Bool) (x y : Turn) → Keeps s x → Keeps s y → Keeps s (if test then x else y)
either_keeps s true x y k l = k
either_keeps s false x y k l = l

load_keeps : (signed : Bool) (w : Width) (rd at : ℕ) (s : State) → s.pc % 4 ≡ 0 → Keeps s (load_into signed w rd at s)
load_keeps signed w rd at s h =
    either_keeps s (at % byte_len w == 0) _ _
    (either_keeps s (nat_le first_address at && nat_le (at + byte_len w) s.layout.end) _ _
    (refl, four s.pc h, λ i b. refl) tt) tt

-- where the tests of a store pass, it lies behind the code
stored_keeps : (test : Bool) (w : Width) (word at : ℕ) (s : State) → s.pc % 4 ≡ 0
    → (nat_le s.layout.region at && nat_le (at + byte_len w) s.layout.end) ≡ test
    → Keeps s (if test then Next (record s { memory = store_bytes (byte_len w) s.memory at word; pc = next_pc s })
    else goes_wrong BadAddress s)
stored_keeps true w word at s h e =
    let from : s.layout.region ≤ at = grind arith in
    (refl, four s.pc h, λ i b. stored_outside (byte_len w) s.memory at word i (inl (omega arith)))
stored_keeps false w word at s h e = tt

store_keeps : (w : Width) (word at : ℕ) (s : State) → s.pc % 4 ≡ 0 → Keeps s (store_from w word at s)
store_keeps w word at s h =
    either_keeps s (at % byte_len w == 0) _ _ (stored_keeps _ w word at s h refl) tt

-- where the test of a target passes, the state there
there_keeps : (test : Bool) (s t : State) → (t.pc % 4 == 0) ≡ test → t.layout ≡ s.layout → t.memory ≡ s.memory
    → Keeps s (if test then Next t else goes_wrong Misaligned s)
there_keeps true s t e l m = (l, grind arith, λ i b. ap (λ (f : Memory). f i) m)
there_keeps false s t e l m = tt

branch_keeps : (taken : Bool) (offset : ℤ) (s : State) → s.pc % 4 ≡ 0 → Keeps s (branch_if taken offset s)
branch_keeps taken offset s h =
    either_keeps s taken _ _ (there_keeps _ s (record s { pc = plus s.pc offset }) refl refl refl)
    (refl, four s.pc h, λ i b. refl)

jump_keeps : (rd target : ℕ) (s : State) → Keeps s (jump_and_link rd target s)
jump_keeps rd target s =
    there_keeps _ s (record s { regs = set_reg rd (next_pc s) s.regs; pc = target }) refl refl refl

blames_keeps : (s : State) (o : Option _) → Keeps s (blames o s)
blames_keeps s None = tt
blames_keeps s (Some label) = tt

comes_keeps : (effect : EnvEffect) (w : WorldState) (s : State) → s.pc % 4 ≡ 0 → Keeps s (comes_to effect w s)
comes_keeps (GoesOn a0 a1) w s h = (refl, four s.pc h, λ i b. refl)
comes_keeps (Answers answer) w s h = tt
comes_keeps (Blames label) w s h = blames_keeps s _
comes_keeps (Traps trap) w s h = tt
comes_keeps RegionEnds w s h = tt
comes_keeps StackEnds w s h = tt
comes_keeps Refused w s h = tt
comes_keeps NoRoom w s h = tt

pub performed_keeps : (action : Action) (s : State) → s.pc % 4 ≡ 0 → Keeps s (performed action s)
performed_keeps (Put rd word) s h = (refl, four s.pc h, λ i b. refl)
performed_keeps (Load rd at width signed) s h = load_keeps signed _ rd at s h
performed_keeps (Store word at width) s h = store_keeps _ word at s h
performed_keeps (Branch taken offset) s h = branch_keeps taken offset s h
performed_keeps (Jump rd target) s h = jump_keeps rd target s
performed_keeps Skip s h = (refl, four s.pc h, λ i b. refl)
performed_keeps Call s h = comes_keeps (called s).effect (called s).world s h
performed_keeps Refuse s h = tt

-- what a turn keeps is kept by the emulator that makes it
abbrev pub Kept : State → State → Type 0
Kept old new =
    (new.layout ≡ old.layout) × (new.pc % 4 ≡ 0) × AgreeBelow old.layout.region old.memory new.memory

same_kept : (old new : State) → old.pc % 4 ≡ 0 → new ≡ old → Kept old new
same_kept old new h e = rw e (refl, h, λ i b. refl)

kept_by : (lack : Type 0) (turn : Turn) (old : State) (outcome : Outcome) (new : State) → old.pc % 4 ≡ 0 →
    StopsBy lack turn old outcome new → Kept old new
kept_by lack turn old (Halts halt) new h m = same_kept old new h m.1
kept_by lack turn old Spent new h m = absurd m
kept_by lack turn old NoMemory new h m = same_kept old new h m.1

pub turn_kept : (lack : Type 0) (turn : Turn) (old : State) (stop : Option Stop) (new : State) → old.pc % 4 ≡ 0 →
    Keeps old turn → ComesTo lack turn old stop new → Kept old new
turn_kept lack turn old None new h k m = let f = rw m at k in f
turn_kept lack turn old (Some stop) new h k m = kept_by lack turn old (outcome_of stop) new h m

-- parts at the same places are as sound
pub still_sound : (m n : ℕ) (p q : Places) (a b x y : ℕ) → q.code ≡ p.code → q.region ≡ p.region → q.end ≡ p.end
    → b ≡ a → y % 4 ≡ 0 → n ≡ m → IsSound m p a x → IsSound n q b y
still_sound m n p q a b x y c r e l h z s = record {
  start = rw c s.start;
  code = rw c s.code;
  region = rw r s.region;
  order = rw (c, r) s.order;
  room = rw (r, e) s.room;
  size = rw (e, z) s.size;
  labels = rw l s.labels;
  aligned = h;
}
