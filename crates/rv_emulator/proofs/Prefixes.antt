-- What was printed before makes no difference to a turn.
use Rattle.std.proofs.Common.{ℕ, ◌+◌, ◌-◌, ◌%◌, ◌≡◌, Bool, true, false, List, ◌++◌, length, Option, Some, None}
use Rattle.std.proofs.Common.{refl}
use Rattle.std.proofs.Common.{◌∙◌, ap}
use Rattle.std.specs.Prelude.{ℤ, ◌==◌, ◌&&◌, not, nat_le, nat_lt, if◌then◌else◌, slice_get}
use Rattle.std.specs.Int.{Width, w8, w16, w32, w64, byte_len}
use Rattle.grift_base.specs.World.{WorldState}
use Rattle.grift_base.specs.EnvironmentCall.{environment_call, Called}
use Rattle.grift_base.specs.declared.places.Pos.{Pos}
use Rattle.grift_base.specs.declared.worlds.EnvEffect.{EnvEffect}
use Rattle.grift_base.specs.declared.worlds.EnvEffect.TheVariants.{Next as GoesOn, Ended as Answers, Blamed as Blames}
use Rattle.grift_base.specs.declared.worlds.EnvEffect.TheVariants.{Trapped as Traps, RegionOut as RegionEnds}
use Rattle.grift_base.specs.declared.worlds.EnvEffect.TheVariants.{StackOut as StackEnds, Refused, OutOfMemory}
use Rattle.rv_isa.specs.declared.inst.Inst.{Inst}
use Rattle.rv_isa.specs.declared.inst.Inst.TheVariants.{Lui, Auipc, Jal, Jalr, Beq, Bne, Blt, Bge, Bltu, Bgeu, Lb, Lh}
use Rattle.rv_isa.specs.declared.inst.Inst.TheVariants.{Lw, Ld, Lbu, Lhu, Lwu, Sb, Sh, Sw, Sd, Addi, Slti, Sltiu, Xori}
use Rattle.rv_isa.specs.declared.inst.Inst.TheVariants.{Ori, Andi, Slli, Srli, Srai, Add, Sub, Sll, Slt, Sltu, Xor, Srl}
use Rattle.rv_isa.specs.declared.inst.Inst.TheVariants.{Sra, Or, And, Addiw, Slliw, Srliw, Sraiw, Addw, Subw, Sllw}
use Rattle.rv_isa.specs.declared.inst.Inst.TheVariants.{Srlw, Sraw, Fence, Ecall, Ebreak}
use Rattle.rv_isa.specs.Decoding.{decode_of}
use Rattle.machine_words.specs.Memory.{load_bytes, first_address}
use Rattle.rv_machine.specs.State.{State, Turn, Next, Stops, reg}
use Rattle.rv_machine.specs.Turn.{load_into, store_from, branch_if, jump_and_link, comes_to}
use Rattle.machine_words.specs.Arithmetic.{plus, signed_less}
use Rattle.rv_machine.specs.Turn.{blames, called}
use Rattle.rv_machine.specs.Turn.{call_environment, act, act_if, turn_of}
use Rattle.rv_emulator.specs.Blocks.{printed_before}
use Rattle.rv_emulator.proofs.Calls.{with_output, call_prints}

-- a call with these bytes printed before
called_before : (bytes : List ℕ) (number a0 a1 labels : ℕ) (w : WorldState)
    → environment_call number a0 a1 labels (with_output (bytes ++ w.output) w)
    ≡ record {
      effect = (environment_call number a0 a1 labels w).effect;
      world = with_output (bytes ++ (environment_call number a0 a1 labels w).world.output)
          (environment_call number a0 a1 labels w).world;
    }
called_before bytes number a0 a1 labels w = call_prints bytes number a0 a1 labels w

-- the same turn, with these bytes printed before
abbrev pub turn_before : List ℕ → Turn → Turn
turn_before bytes (Next s) = Next (printed_before bytes s)
turn_before bytes (Stops halt) = Stops halt

either_before : (bytes : List ℕ) (test : Bool) (x y x1 y1 : Turn) → x1 ≡ turn_before bytes x → y1 ≡ turn_before bytes y
    → (if test then x1 else y1) ≡ turn_before bytes (if test then x else y)
either_before bytes true x y x1 y1 e f = e
either_before bytes false x y x1 y1 e f = f

load_before : (bytes : List ℕ) (signed : Bool) (w : Width) (rd at : ℕ) (s : State)
    → load_into signed w rd at (printed_before bytes s) ≡ turn_before bytes (load_into signed w rd at s)
load_before bytes signed w rd at s =
    either_before bytes (at % byte_len w == 0) _ _ _ _
    (either_before bytes (nat_le first_address at && nat_le (at + byte_len w) s.layout.end) _ _ _ _ refl refl) refl

store_before : (bytes : List ℕ) (w : Width) (word at : ℕ) (s : State)
    → store_from w word at (printed_before bytes s) ≡ turn_before bytes (store_from w word at s)
store_before bytes w word at s =
    either_before bytes (at % byte_len w == 0) _ _ _ _
    (either_before bytes (nat_le s.layout.region at && nat_le (at + byte_len w) s.layout.end) _ _ _ _ refl refl) refl

branch_before : (bytes : List ℕ) (taken : Bool) (offset : ℤ) (s : State)
    → branch_if taken offset (printed_before bytes s) ≡ turn_before bytes (branch_if taken offset s)
branch_before bytes taken offset s =
    either_before bytes taken _ _ _ _ (either_before bytes (plus s.pc offset % 4 == 0) _ _ _ _ refl refl) refl

jump_before : (bytes : List ℕ) (rd target : ℕ) (s : State)
    → jump_and_link rd target (printed_before bytes s) ≡ turn_before bytes (jump_and_link rd target s)
jump_before bytes rd target s = either_before bytes (target % 4 == 0) _ _ _ _ refl refl

blames_before : (bytes : List ℕ) (label : Option Pos) (s : State)
    → blames label (printed_before bytes s) ≡ turn_before bytes (blames label s)
blames_before bytes None s = refl
blames_before bytes (Some label) s = refl

comes_before : (bytes : List ℕ) (effect : EnvEffect) (w : WorldState) (s : State)
    → comes_to effect (with_output (bytes ++ w.output) w) (printed_before bytes s)
    ≡ turn_before bytes (comes_to effect w s)
comes_before bytes (GoesOn a0 a1) w s = refl
comes_before bytes (Answers answer) w s = refl
comes_before bytes (Blames label) w s = blames_before bytes (slice_get s.layout.labels label) s
comes_before bytes (Traps trap) w s = refl
comes_before bytes RegionEnds w s = refl
comes_before bytes StackEnds w s = refl
comes_before bytes Refused w s = refl
comes_before bytes OutOfMemory w s = refl

call_before : (bytes : List ℕ) (s : State)
    → call_environment (printed_before bytes s) ≡ turn_before bytes (call_environment s)
call_before bytes s =
    let c = called_before bytes (reg s 17) (reg s 10) (reg s 11) (length s.layout.labels) s.world in
    ap (λ (c : Called). comes_to c.effect c.world (printed_before bytes s)) c
    ∙ comes_before bytes (called s).effect (called s).world s

act_before : (bytes : List ℕ) (i : Inst) (s : State) → act i (printed_before bytes s) ≡ turn_before bytes (act i s)
act_before bytes (Lui rd n) s = refl
act_before bytes (Auipc rd n) s = refl
act_before bytes (Jal rd imm) s = jump_before bytes rd (plus s.pc imm) s
act_before bytes (Jalr rd a imm) s = jump_before bytes rd (plus (reg s a) imm - plus (reg s a) imm % 2) s
act_before bytes (Beq a b imm) s = branch_before bytes (reg s a == reg s b) imm s
act_before bytes (Bne a b imm) s = branch_before bytes (not (reg s a == reg s b)) imm s
act_before bytes (Blt a b imm) s = branch_before bytes (signed_less (reg s a) (reg s b)) imm s
act_before bytes (Bge a b imm) s = branch_before bytes (not (signed_less (reg s a) (reg s b))) imm s
act_before bytes (Bltu a b imm) s = branch_before bytes (nat_lt (reg s a) (reg s b)) imm s
act_before bytes (Bgeu a b imm) s = branch_before bytes (not (nat_lt (reg s a) (reg s b))) imm s
act_before bytes (Lb rd a imm) s = load_before bytes true w8 rd (plus (reg s a) imm) s
act_before bytes (Lh rd a imm) s = load_before bytes true w16 rd (plus (reg s a) imm) s
act_before bytes (Lw rd a imm) s = load_before bytes true w32 rd (plus (reg s a) imm) s
act_before bytes (Ld rd a imm) s = load_before bytes false w64 rd (plus (reg s a) imm) s
act_before bytes (Lbu rd a imm) s = load_before bytes false w8 rd (plus (reg s a) imm) s
act_before bytes (Lhu rd a imm) s = load_before bytes false w16 rd (plus (reg s a) imm) s
act_before bytes (Lwu rd a imm) s = load_before bytes false w32 rd (plus (reg s a) imm) s
act_before bytes (Sb b a imm) s = store_before bytes w8 (reg s b) (plus (reg s a) imm) s
act_before bytes (Sh b a imm) s = store_before bytes w16 (reg s b) (plus (reg s a) imm) s
act_before bytes (Sw b a imm) s = store_before bytes w32 (reg s b) (plus (reg s a) imm) s
act_before bytes (Sd b a imm) s = store_before bytes w64 (reg s b) (plus (reg s a) imm) s
act_before bytes (Addi rd a imm) s = refl
act_before bytes (Slti rd a imm) s = refl
act_before bytes (Sltiu rd a imm) s = refl
act_before bytes (Xori rd a imm) s = refl
act_before bytes (Ori rd a imm) s = refl
act_before bytes (Andi rd a imm) s = refl
act_before bytes (Slli rd a n) s = refl
act_before bytes (Srli rd a n) s = refl
act_before bytes (Srai rd a n) s = refl
act_before bytes (Add rd a b) s = refl
act_before bytes (Sub rd a b) s = refl
act_before bytes (Sll rd a b) s = refl
act_before bytes (Slt rd a b) s = refl
act_before bytes (Sltu rd a b) s = refl
act_before bytes (Xor rd a b) s = refl
act_before bytes (Srl rd a b) s = refl
act_before bytes (Sra rd a b) s = refl
act_before bytes (Or rd a b) s = refl
act_before bytes (And rd a b) s = refl
act_before bytes (Addiw rd a imm) s = refl
act_before bytes (Slliw rd a n) s = refl
act_before bytes (Srliw rd a n) s = refl
act_before bytes (Sraiw rd a n) s = refl
act_before bytes (Addw rd a b) s = refl
act_before bytes (Subw rd a b) s = refl
act_before bytes (Sllw rd a b) s = refl
act_before bytes (Srlw rd a b) s = refl
act_before bytes (Sraw rd a b) s = refl
act_before bytes (Fence rd a imm) s = refl
act_before bytes Ecall s = call_before bytes s
act_before bytes Ebreak s = refl

fetched_before : (bytes : List ℕ) (o : Option Inst) (s : State)
    → act_if o (printed_before bytes s) ≡ turn_before bytes (act_if o s)
fetched_before bytes None s = refl
fetched_before bytes (Some i) s = act_before bytes i s

-- a turn with these bytes printed before
pub turn_is_before : (bytes : List ℕ) (s : State) → turn_of (printed_before bytes s) ≡ turn_before bytes (turn_of s)
unfolding turn_of
turn_is_before bytes s =
    either_before bytes (nat_le s.layout.code s.pc && nat_lt s.pc s.layout.region) _ _ _ _
    (fetched_before bytes (decode_of (load_bytes 4 s.memory s.pc)) s) refl
