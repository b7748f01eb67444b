-- The machine never takes output back nor moves its layout, and its stops are told alike by every reading.
use Rattle.std.proofs.Common.{◌≡◌, ℕ, ℤ, zero, suc, ◌+◌, ◌%◌, ◌==◌, ◌&&◌, Bool, true, false, List, Option, Some}
use Rattle.std.proofs.Common.{option_map}
use Rattle.std.proofs.Common.{if◌then◌else◌, None, length, refl, ap, nat_le, nat_lt, slice_get}
use Rattle.grift_base.specs.EnvironmentCall.{environment_call, Called}
use Rattle.grift_base.specs.Reading.{next_number, after_reading}
use Rattle.grift_base.specs.World.{WorldState}
use Rattle.grift_base.specs.declared.places.Pos.{Pos}
use Rattle.grift_base.specs.declared.worlds.EnvEffect.{EnvEffect}
use Rattle.grift_base.specs.declared.worlds.EnvEffect.TheVariants.{Next as GoesOn, Ended as Answers, Blamed, Trapped}
use Rattle.grift_base.specs.declared.worlds.EnvEffect.TheVariants.{RegionOut, StackOut, Refused, OutOfMemory}
use Rattle.run_laws.specs.Runs.{Ending, IsPrefix}
use Rattle.run_laws.specs.Machines.{Go, Stop, OnlyAddsOutput, run, seen, and_then, steps}
use Rattle.run_laws.proofs.Public.{prefix_refl}
use Rattle.rv_isa.specs.declared.inst.Inst.{Inst}
use Rattle.rv_isa.specs.declared.inst.Inst.TheVariants.{Jal, Jalr, Beq, Bne, Blt, Bge, Bltu, Bgeu, Lb, Lh, Lw, Ld, Lbu}
use Rattle.rv_isa.specs.declared.inst.Inst.TheVariants.{Lhu, Lwu, Sb, Sh, Sw, Sd, Ecall, Ebreak}
use Rattle.rv_isa.specs.Decoding.{decode_of}
use Rattle.rv_machine.specs.Mach.{machine_by, step_by, run_of, onward}
use Rattle.machine_words.specs.Memory.{first_address, load_bytes, store_bytes}
use Rattle.rv_machine.specs.Registers.{set_reg}
use Rattle.machine_words.specs.declared.faults.MachineFault.{MachineFault}
use Rattle.machine_words.specs.declared.faults.MachineFault.TheVariants.{BadAddress, Misaligned}
use Rattle.rv_machine.specs.State.{State, Turn, Next, Stops, reg}
use Rattle.machine_words.specs.Halts.{Halt}
use Rattle.rv_machine.specs.Turn.{turn_of, act, act_if, branch_if, jump_and_link, load_into, store_from, goes_wrong}
use Rattle.rv_machine.specs.Turn.{blames, comes_to, called, next_pc}
use Rattle.machine_words.specs.Arithmetic.{plus, sign_extend}
use Rattle.std.specs.Int.{Width, w8, w16, w32, w64, byte_len}

-- ---- output and layout

-- a turn goes on to a state with the same layout, and to output that begins with what there was
pub record Onward (s t : State) : Type 0 where
  pub layout : t.layout ≡ s.layout
  pub output : IsPrefix s.world.output t.world.output

abbrev pub Keeps : State → Turn → Type 0
Keeps s (Next t) = Onward s t
Keeps s (Stops halt) = Unit {0}

same : (xs : List ℕ) → IsPrefix xs xs
same xs = prefix_refl xs xs refl

read_keeps : (o : Option ℤ) (w : WorldState) → (after_reading o w).output ≡ w.output
read_keeps (Some n) w = refl
read_keeps None w = refl

call_if : (output : List ℕ) (b : Bool) (c d : Called) → IsPrefix output c.world.output
    → IsPrefix output d.world.output → IsPrefix output (if b then c else d).world.output
call_if output true c d h k = h
call_if output false c d h k = k

call_adds : (number a b labels : ℕ) (w : WorldState)
    → IsPrefix w.output (environment_call number a b labels w).world.output
unfolding environment_call
call_adds number a b labels w =
    let read = prefix_refl w.output (after_reading (next_number w) w).output (read_keeps (next_number w) w) in
    call_if w.output (number == 0) _ _ (same w.output)
    (call_if w.output (number == 1) _ _ (_, refl)
    (call_if w.output (number == 2) _ _ (_, refl)
    (call_if w.output (number == 3) _ _ (same w.output)
    (call_if w.output (number == 4) _ _ (same w.output)
    (call_if w.output (number == 5) _ _ (same w.output)
    (call_if w.output (number == 6) _ _ (same w.output)
    (call_if w.output (number == 7) _ _ read (same w.output))))))))

comes_keeps : (effect : EnvEffect) (w : WorldState) (s : State) → IsPrefix s.world.output w.output
    → Keeps s (comes_to effect w s)
comes_keeps (GoesOn a b) w s h = record { layout = refl; output = h }
comes_keeps (Answers answer) w s h = tt
comes_keeps (Blamed label) w s h = blamed (slice_get s.layout.labels label)
  where
    blamed : (label : Option Pos) → Keeps s (blames label s)
    blamed None = tt
    blamed (Some label) = tt
comes_keeps (Trapped trap) w s h = tt
comes_keeps RegionOut w s h = tt
comes_keeps StackOut w s h = tt
comes_keeps Refused w s h = tt
comes_keeps OutOfMemory w s h = tt

-- a turn that goes on where a test holds
test_keeps : (s t : State) (fault : ℕ → MachineFault) (b : Bool) → t.layout ≡ s.layout → t.world ≡ s.world
    → Keeps s (if b then Next t else goes_wrong fault s)
test_keeps s t fault true l e =
    record { layout = l; output = prefix_refl s.world.output t.world.output (ap (λ w. w.output) e) }
test_keeps s t fault false l e = tt

tests_keep : (s t : State) (a b : Bool) → t.layout ≡ s.layout → t.world ≡ s.world
    → Keeps s (if a then (if b then Next t else goes_wrong BadAddress s) else goes_wrong Misaligned s)
tests_keep s t true b l e = test_keeps s t BadAddress b l e
tests_keep s t false b l e = tt

branch_keeps : (taken : Bool) (imm : ℤ) (s : State) → Keeps s (branch_if taken imm s)
branch_keeps true imm s =
    test_keeps s (record s { pc = plus s.pc imm }) Misaligned (plus s.pc imm % 4 == 0) refl refl
branch_keeps false imm s = record { layout = refl; output = same s.world.output }

jump_keeps : (rd target : ℕ) (s : State) → Keeps s (jump_and_link rd target s)
jump_keeps rd target s =
    test_keeps s (record s { regs = set_reg rd (next_pc s) s.regs; pc = target }) Misaligned (target % 4 == 0) refl refl

load_keeps : (signed : Bool) (w : Width) (rd at : ℕ) (s : State) → Keeps s (load_into signed w rd at s)
load_keeps signed w rd at s =
    let n = load_bytes (byte_len w) s.memory at in
    tests_keep s (record s {
      regs = set_reg rd (if signed then sign_extend w n else n) s.regs;
      pc = next_pc s;
    }) (at % byte_len w == 0) (nat_le first_address at && nat_le (at + byte_len w) s.layout.end) refl refl

store_keeps : (w : Width) (word at : ℕ) (s : State) → Keeps s (store_from w word at s)
store_keeps w word at s =
    tests_keep s (record s { memory = store_bytes (byte_len w) s.memory at word; pc = next_pc s })
    (at % byte_len w == 0) (nat_le s.layout.region at && nat_le (at + byte_len w) s.layout.end) refl refl

-- what is left at the end sets a register, or nothing
act_keeps : (i : Inst) (s : State) → Keeps s (act i s)
act_keeps (Jal rd imm) s = jump_keeps rd _ s
act_keeps (Jalr rd a imm) s = jump_keeps rd _ s
act_keeps (Beq a b imm) s = branch_keeps _ imm s
act_keeps (Bne a b imm) s = branch_keeps _ imm s
act_keeps (Blt a b imm) s = branch_keeps _ imm s
act_keeps (Bge a b imm) s = branch_keeps _ imm s
act_keeps (Bltu a b imm) s = branch_keeps _ imm s
act_keeps (Bgeu a b imm) s = branch_keeps _ imm s
act_keeps (Lb rd a imm) s = load_keeps true w8 rd (plus (reg s a) imm) s
act_keeps (Lh rd a imm) s = load_keeps true w16 rd (plus (reg s a) imm) s
act_keeps (Lw rd a imm) s = load_keeps true w32 rd (plus (reg s a) imm) s
act_keeps (Ld rd a imm) s = load_keeps false w64 rd (plus (reg s a) imm) s
act_keeps (Lbu rd a imm) s = load_keeps false w8 rd (plus (reg s a) imm) s
act_keeps (Lhu rd a imm) s = load_keeps false w16 rd (plus (reg s a) imm) s
act_keeps (Lwu rd a imm) s = load_keeps false w32 rd (plus (reg s a) imm) s
act_keeps (Sb b a imm) s = store_keeps w8 (reg s b) (plus (reg s a) imm) s
act_keeps (Sh b a imm) s = store_keeps w16 (reg s b) (plus (reg s a) imm) s
act_keeps (Sw b a imm) s = store_keeps w32 (reg s b) (plus (reg s a) imm) s
act_keeps (Sd b a imm) s = store_keeps w64 (reg s b) (plus (reg s a) imm) s
act_keeps Ecall s =
    comes_keeps (called s).effect (called s).world s
    (call_adds (reg s 17) (reg s 10) (reg s 11) (length s.layout.labels) s.world)
act_keeps Ebreak s = tt
act_keeps i s = record { layout = refl; output = same s.world.output }

some_keeps : (o : Option Inst) (s : State) → Keeps s (act_if o s)
some_keeps None s = tt
some_keeps (Some i) s = act_keeps i s

pub turn_keeps : (s : State) → Keeps s (turn_of s)
unfolding turn_of
turn_keeps s = by (nat_le s.layout.code s.pc && nat_lt s.pc s.layout.region)
  where
    by : (b : Bool) → Keeps s (if b then act_if (decode_of (load_bytes 4 s.memory s.pc)) s else goes_wrong BadAddress s)
    by true = some_keeps (decode_of (load_bytes 4 s.memory s.pc)) s
    by false = tt

pub machine_adds_output : {V : Type 0} (reading : Halt → Ending V) → OnlyAddsOutput (machine_by reading)
machine_adds_output reading s = by (turn_of s) (turn_keeps s)
  where
    by : (turn : Turn) → Keeps s turn
        → IsPrefix s.world.output (Rattle.run_laws.specs.Machines.landing (step_by reading s turn)).world.output
    by (Next t) h = h.output
    by (Stops halt) h = same s.world.output

-- ---- stops

-- a run that has stopped has ended so under each reading, in the same state
pub stopped_so : {V : Type 0} (reading : Halt → Ending V) (n : ℕ) (s t : State) (halt : Halt)
    → run_of n s ≡ (t, Some halt) → (run (machine_by reading) s n).ending ≡ Some (reading halt)
unfolding run_of
stopped_so reading zero s t halt e = absurd (no_stop (ap (λ p. p.1) e))
  where
    no_stop : ◌≡◌ {A = Option Halt} None (Some halt) → ⊥
    no_stop h = cc
stopped_so reading (suc n) s t halt e = by (λ u k. stopped_so reading n u t halt k) (turn_of s) e
  where
    by : ((u : State) → run_of n u ≡ (t, Some halt) → (run (machine_by reading) u n).ending ≡ Some (reading halt))
        → (turn : Turn) → onward (run_of n) s turn ≡ (t, Some halt)
        → (seen (machine_by reading) (and_then (step_by reading s turn) (λ u. steps (machine_by reading) u n))).ending
        ≡ Some (reading halt)
    by ih (Next u) k = ih u k
    by ih (Stops stop) k = ap (option_map reading) (ap (λ p. p.1) k)

-- and shows that state, as does one that hasn't stopped
pub shows_state : {V : Type 0} (reading : Halt → Ending V) (n : ℕ) (s : State)
    → (run (machine_by reading) s n).shown ≡ (run_of n s).0
unfolding run_of
shows_state reading zero s = refl
shows_state reading (suc n) s = by (λ u. shows_state reading n u) (turn_of s)
  where
    by : ((u : State) → (run (machine_by reading) u n).shown ≡ (run_of n u).0) → (turn : Turn)
        → (seen (machine_by reading) (and_then (step_by reading s turn) (λ u. steps (machine_by reading) u n))).shown
        ≡ (onward (run_of n) s turn).0
    by ih (Next u) = ih u
    by ih (Stops stop) = refl

-- what it has printed is that state's
pub prints_state : {V : Type 0} (reading : Halt → Ending V) (n : ℕ) (s : State)
    → (run (machine_by reading) s n).output ≡ (run_of n s).0.world.output
unfolding run_of
prints_state reading zero s = refl
prints_state reading (suc n) s = by (λ u. prints_state reading n u) (turn_of s)
  where
    by : ((u : State) → (run (machine_by reading) u n).output ≡ (run_of n u).0.world.output) → (turn : Turn)
        → (seen (machine_by reading) (and_then (step_by reading s turn) (λ u. steps (machine_by reading) u n))).output
        ≡ (onward (run_of n) s turn).0.world.output
    by ih (Next u) = ih u
    by ih (Stops stop) = refl
