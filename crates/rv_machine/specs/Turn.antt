-- One turn of the machine.
use Rattle.std.specs.Prelude.{ℕ, ◌+◌, ◌-◌, ◌*◌, ◌/◌, ◌%◌, ◌^◌, ◌<◌, ◌≤◌, Bool, true, false, not, ◌&&◌, ◌==◌, nat_lt}
use Rattle.std.specs.Prelude.{nat_le, if◌then◌else◌, ℤ, int_lt, bit_and, bit_or, bit_xor, Option, Some, None, slice_get}
use Rattle.std.specs.Prelude.{length}
use Rattle.std.specs.Int.{Width, w8, w16, w32, w64, byte_len}
use Rattle.grift_base.specs.World.{WorldState}
use Rattle.grift_base.specs.EnvironmentCall.{Called, environment_call}
use Rattle.grift_base.specs.declared.places.Pos.{Pos}
use Rattle.grift_base.specs.declared.worlds.EnvEffect.{EnvEffect}
use Rattle.grift_base.specs.declared.worlds.EnvEffect.TheVariants.{Next as GoesOn, Ended as Answers, Blamed as Blames}
use Rattle.grift_base.specs.declared.worlds.EnvEffect.TheVariants.{Trapped as Traps, RegionOut as RegionEnds}
use Rattle.grift_base.specs.declared.worlds.EnvEffect.TheVariants.{StackOut as StackEnds, Refused, OutOfMemory}
use Rattle.rv_isa.specs.declared.inst.Inst.{Inst}
use Rattle.rv_isa.specs.declared.inst.Inst.TheVariants.{Lui, Auipc, Jal, Jalr, Beq, Bne, Blt, Bge, Bltu, Bgeu, Lb, Lh}
use Rattle.rv_isa.specs.declared.inst.Inst.TheVariants.{Lw, Ld, Lbu, Lhu, Lwu, Sb, Sh, Sw, Sd, Addi, Slti, Sltiu, Xori}
use Rattle.rv_isa.specs.declared.inst.Inst.TheVariants.{Ori, Andi, Slli, Srli, Srai, Add, Sub, Sll, Slt, Sltu, Xor, Srl}
use Rattle.rv_isa.specs.declared.inst.Inst.TheVariants.{Sra, Or, And, Addiw, Slliw, Srliw, Sraiw, Addw, Subw, Sllw}
use Rattle.rv_isa.specs.declared.inst.Inst.TheVariants.{Srlw, Sraw, Fence, Ecall, Ebreak}
use Rattle.rv_isa.specs.Decoding.{decode_of}
use Rattle.machine_words.specs.Memory.{load_bytes, store_bytes, first_address}
use Rattle.rv_machine.specs.Registers.{set_reg}
use Rattle.grift_base.specs.declared.verdicts.Verdict.TheVariants.{Answer, Blame, Trap}
use Rattle.machine_words.specs.declared.faults.MachineFault.{MachineFault}
use Rattle.machine_words.specs.declared.faults.MachineFault.TheVariants.{Undefined, BadAddress, Misaligned}
use Rattle.rv_machine.specs.State.{State, Turn, Next, Stops, reg}
use Rattle.machine_words.specs.Arithmetic.{word_of, signed_of, sign_extend, add, plus, subtract, flag, signed_less}
use Rattle.machine_words.specs.Arithmetic.{shift_left, shift_right, shift_right_signed, low_half, half}
use Rattle.machine_words.specs.Arithmetic.{half_right_signed}
use Rattle.machine_words.specs.Halts.{Region, Stack, Ended, Lacks, GoesWrong}

-- ---- what a turn may do

-- goes wrong at this pc
abbrev pub goes_wrong : (ℕ → MachineFault) → State → Turn
goes_wrong fault s = Stops (GoesWrong (fault s.pc))

-- goes on at the next instruction
abbrev pub next_pc : State → ℕ
next_pc s = add s.pc 4

-- with a register changed
abbrev pub put : ℕ → ℕ → State → Turn
put rd word s = Next (record s { regs = set_reg rd word s.regs; pc = next_pc s })

-- reads a number of this width into a register
abbrev pub load_into : Bool → Width → ℕ → ℕ → State → Turn
load_into signed w rd at s =
    if at % byte_len w == 0 then
    (if nat_le first_address at && nat_le (at + byte_len w) s.layout.end then
    (let n = load_bytes (byte_len w) s.memory at in put rd (if signed then sign_extend w n else n) s)
    else goes_wrong BadAddress s)
    else goes_wrong Misaligned s

abbrev pub load_signed : Width → ℕ → ℕ → State → Turn
load_signed w rd at s = load_into true w rd at s

abbrev pub load_unsigned : Width → ℕ → ℕ → State → Turn
load_unsigned w rd at s = load_into false w rd at s

-- writes the low bytes of a word into region or stack
abbrev pub store_from : Width → ℕ → ℕ → State → Turn
store_from w word at s =
    if at % byte_len w == 0 then
    (if nat_le s.layout.region at && nat_le (at + byte_len w) s.layout.end then
    Next (record s { memory = store_bytes (byte_len w) s.memory at word; pc = next_pc s })
    else goes_wrong BadAddress s)
    else goes_wrong Misaligned s

abbrev pub branch_if : Bool → ℤ → State → Turn
branch_if taken imm s =
    if taken then (if plus s.pc imm % 4 == 0 then Next (record s { pc = plus s.pc imm }) else goes_wrong Misaligned s)
    else Next (record s { pc = next_pc s })

-- jumps, and keeps the address of the next instruction in a register
abbrev pub jump_and_link : ℕ → ℕ → State → Turn
jump_and_link rd target s =
    if target % 4 == 0 then Next (record s { regs = set_reg rd (next_pc s) s.regs; pc = target })
    else goes_wrong Misaligned s

abbrev pub is_undefined : State → Turn
is_undefined s = goes_wrong Undefined s

-- ---- environment calls

abbrev pub blames : Option Pos → State → Turn
blames None s = is_undefined s
blames (Some label) s = Stops (Ended (Blame label))

-- what a call comes to; the definition of the calls never gives want of memory
abbrev pub comes_to : EnvEffect → WorldState → State → Turn
comes_to (GoesOn a0 a1) w s = Next (record s { regs = set_reg 11 a1 (set_reg 10 a0 s.regs); world = w; pc = next_pc s })
comes_to (Answers answer) w s = Stops (Ended (Answer answer))
comes_to (Blames label) w s = blames (slice_get s.layout.labels label) s
comes_to (Traps trap) w s = Stops (Ended (Trap trap))
comes_to RegionEnds w s = Stops (Lacks Region)
comes_to StackEnds w s = Stops (Lacks Stack)
comes_to Refused w s = is_undefined s
comes_to OutOfMemory w s = is_undefined s

-- the call whose number is in x17, with its words in x10 and x11
abbrev pub called : State → Called
called s = environment_call (reg s 17) (reg s 10) (reg s 11) (length s.layout.labels) s.world

abbrev pub call_environment : State → Turn
call_environment s = comes_to (called s).effect (called s).world s

-- ---- what each instruction does, told what ECALL and EBREAK do

-- a shift by a register takes the low six bits of the amount, and one of the low 32 bits its low five
abbrev pub act_with : (State → Turn) → (State → Turn) → Inst → State → Turn
act_with ecall ebreak (Lui rd n) s = put rd (half (n * 2 ^ 12)) s
act_with ecall ebreak (Auipc rd n) s = put rd (add s.pc (half (n * 2 ^ 12))) s
act_with ecall ebreak (Jal rd imm) s = jump_and_link rd (plus s.pc imm) s
act_with ecall ebreak (Jalr rd a imm) s = let target = plus (reg s a) imm in jump_and_link rd (target - target % 2) s
act_with ecall ebreak (Beq a b imm) s = branch_if (reg s a == reg s b) imm s
act_with ecall ebreak (Bne a b imm) s = branch_if (not (reg s a == reg s b)) imm s
act_with ecall ebreak (Blt a b imm) s = branch_if (signed_less (reg s a) (reg s b)) imm s
act_with ecall ebreak (Bge a b imm) s = branch_if (not (signed_less (reg s a) (reg s b))) imm s
act_with ecall ebreak (Bltu a b imm) s = branch_if (nat_lt (reg s a) (reg s b)) imm s
act_with ecall ebreak (Bgeu a b imm) s = branch_if (not (nat_lt (reg s a) (reg s b))) imm s
act_with ecall ebreak (Lb rd a imm) s = load_signed w8 rd (plus (reg s a) imm) s
act_with ecall ebreak (Lh rd a imm) s = load_signed w16 rd (plus (reg s a) imm) s
act_with ecall ebreak (Lw rd a imm) s = load_signed w32 rd (plus (reg s a) imm) s
act_with ecall ebreak (Ld rd a imm) s = load_unsigned w64 rd (plus (reg s a) imm) s
act_with ecall ebreak (Lbu rd a imm) s = load_unsigned w8 rd (plus (reg s a) imm) s
act_with ecall ebreak (Lhu rd a imm) s = load_unsigned w16 rd (plus (reg s a) imm) s
act_with ecall ebreak (Lwu rd a imm) s = load_unsigned w32 rd (plus (reg s a) imm) s
act_with ecall ebreak (Sb b a imm) s = store_from w8 (reg s b) (plus (reg s a) imm) s
act_with ecall ebreak (Sh b a imm) s = store_from w16 (reg s b) (plus (reg s a) imm) s
act_with ecall ebreak (Sw b a imm) s = store_from w32 (reg s b) (plus (reg s a) imm) s
act_with ecall ebreak (Sd b a imm) s = store_from w64 (reg s b) (plus (reg s a) imm) s
act_with ecall ebreak (Addi rd a imm) s = put rd (plus (reg s a) imm) s
act_with ecall ebreak (Slti rd a imm) s = put rd (flag (int_lt (signed_of (reg s a)) imm)) s
act_with ecall ebreak (Sltiu rd a imm) s = put rd (flag (nat_lt (reg s a) (word_of imm))) s
act_with ecall ebreak (Xori rd a imm) s = put rd (bit_xor (reg s a) (word_of imm)) s
act_with ecall ebreak (Ori rd a imm) s = put rd (bit_or (reg s a) (word_of imm)) s
act_with ecall ebreak (Andi rd a imm) s = put rd (bit_and (reg s a) (word_of imm)) s
act_with ecall ebreak (Slli rd a n) s = put rd (shift_left (reg s a) n) s
act_with ecall ebreak (Srli rd a n) s = put rd (shift_right (reg s a) n) s
act_with ecall ebreak (Srai rd a n) s = put rd (shift_right_signed (reg s a) n) s
act_with ecall ebreak (Add rd a b) s = put rd (add (reg s a) (reg s b)) s
act_with ecall ebreak (Sub rd a b) s = put rd (subtract (reg s a) (reg s b)) s
act_with ecall ebreak (Sll rd a b) s = put rd (shift_left (reg s a) (reg s b % 64)) s
act_with ecall ebreak (Slt rd a b) s = put rd (flag (signed_less (reg s a) (reg s b))) s
act_with ecall ebreak (Sltu rd a b) s = put rd (flag (nat_lt (reg s a) (reg s b))) s
act_with ecall ebreak (Xor rd a b) s = put rd (bit_xor (reg s a) (reg s b)) s
act_with ecall ebreak (Srl rd a b) s = put rd (shift_right (reg s a) (reg s b % 64)) s
act_with ecall ebreak (Sra rd a b) s = put rd (shift_right_signed (reg s a) (reg s b % 64)) s
act_with ecall ebreak (Or rd a b) s = put rd (bit_or (reg s a) (reg s b)) s
act_with ecall ebreak (And rd a b) s = put rd (bit_and (reg s a) (reg s b)) s
act_with ecall ebreak (Addiw rd a imm) s = put rd (half (plus (reg s a) imm)) s
act_with ecall ebreak (Slliw rd a n) s = put rd (half (low_half (reg s a) * 2 ^ n)) s
act_with ecall ebreak (Srliw rd a n) s = put rd (half (low_half (reg s a) / 2 ^ n)) s
act_with ecall ebreak (Sraiw rd a n) s = put rd (half_right_signed (reg s a) n) s
act_with ecall ebreak (Addw rd a b) s = put rd (half (add (reg s a) (reg s b))) s
act_with ecall ebreak (Subw rd a b) s = put rd (half (subtract (reg s a) (reg s b))) s
act_with ecall ebreak (Sllw rd a b) s = put rd (half (low_half (reg s a) * 2 ^ (reg s b % 32))) s
act_with ecall ebreak (Srlw rd a b) s = put rd (half (low_half (reg s a) / 2 ^ (reg s b % 32))) s
act_with ecall ebreak (Sraw rd a b) s = put rd (half_right_signed (reg s a) (reg s b % 32)) s
act_with ecall ebreak (Fence rd a imm) s = Next (record s { pc = next_pc s })
act_with ecall ebreak Ecall s = ecall s
act_with ecall ebreak Ebreak s = ebreak s

abbrev pub act : Inst → State → Turn
act i s = act_with call_environment is_undefined i s

abbrev pub act_if : Option Inst → State → Turn
act_if None s = is_undefined s
act_if (Some i) s = act i s

-- the pc has to be in code; then the word that stands there decides
unfoldable pub turn_of : State → Turn
turn_of s =
    if nat_le s.layout.code s.pc && nat_lt s.pc s.layout.region then act_if (decode_of (load_bytes 4 s.memory s.pc)) s
    else goes_wrong BadAddress s

-- the word is fetched: the pc is in code, and the word has 32 bits, as four bytes have
pub record IsFetched (s : State) (word : ℕ) : Type 0 where
  pub above : s.layout.code ≤ s.pc
  pub below : s.pc < s.layout.region
  pub fits : word < 2 ^ 32
