-- The instruction that the fields of a word make, if any.
use Rattle.std.specs.Prelude.{ℕ, ◌+◌, ◌*◌, ◌/◌, ◌%◌, ℤ, List, [], ◌∷◌, Option, Some, None, ◌==◌, ◌&&◌}
use Rattle.std.specs.Prelude.{if◌then◌else◌}
use Rattle.rv_isa.specs.declared.fields.Fields.{Fields}
use Rattle.rv_isa.specs.declared.inst.Inst.{Inst}
use Rattle.rv_isa.specs.declared.inst.Inst.TheVariants.{Lui, Auipc, Jal, Jalr, Beq, Bne, Blt, Bge, Bltu, Bgeu, Lb, Lh}
use Rattle.rv_isa.specs.declared.inst.Inst.TheVariants.{Lw, Ld, Lbu, Lhu, Lwu, Sb, Sh, Sw, Sd, Addi, Slti, Sltiu, Xori}
use Rattle.rv_isa.specs.declared.inst.Inst.TheVariants.{Ori, Andi, Slli, Srli, Srai, Add, Sub, Sll, Slt, Sltu, Xor, Srl}
use Rattle.rv_isa.specs.declared.inst.Inst.TheVariants.{Sra, Or, And, Addiw, Slliw, Srliw, Sraiw, Addw, Subw, Sllw}
use Rattle.rv_isa.specs.declared.inst.Inst.TheVariants.{Srlw, Sraw, Fence, Ecall, Ebreak}
use Rattle.rv_isa.specs.Bits.{signed}
use Rattle.rv_isa.specs.Fields.{fields_of}

-- the numbers that stand in several fields
abbrev pub immediate_in : Fields → ℤ
immediate_in f = signed 2048 (f.rs2 + 32 * f.funct7)

abbrev pub store_offset_in : Fields → ℤ
store_offset_in f = signed 2048 (f.rd + 32 * f.funct7)

abbrev pub branch_offset_in : Fields → ℤ
branch_offset_in f =
    signed 4096 (2 * (f.rd / 2) + 32 * (f.funct7 % 64) + 2048 * (f.rd % 2) + 4096 * (f.funct7 / 64))

abbrev pub upper_in : Fields → ℕ
upper_in f = f.funct3 + 8 * f.rs1 + 256 * f.rs2 + 8192 * f.funct7

abbrev pub jump_offset_in : Fields → ℤ
jump_offset_in f =
    signed 1048576 (
    2 * (f.rs2 / 2) + 32 * (f.funct7 % 64) + 2048 * (f.rs2 % 2) + 4096 * f.funct3 + 32768 * f.rs1
    + 1048576 * (f.funct7 / 64)
    )

abbrev pub shift_amount_in : Fields → ℕ
shift_amount_in f = f.rs2 + 32 * (f.funct7 % 2)

-- the instruction that stands beside the number in a list; where none does, what is told for that
abbrev pub at_number : ℕ → List (ℕ × Inst) → Option Inst → Option Inst
at_number n [] other = other
at_number n (row ∷ rest) other = if n == row.0 then Some row.1 else at_number n rest other

-- the same for two numbers
abbrev pub at_numbers : ℕ → ℕ → List (ℕ × ℕ × Inst) → Option Inst → Option Inst
at_numbers m n [] other = other
at_numbers m n (row ∷ rest) other = if (m == row.0) && (n == row.1) then Some row.2 else at_numbers m n rest other

-- The instructions of an opcode, each behind its funct3. Where lists have two numbers the second is the one of funct7,
-- which has to be this; of shifts by an amount in a word of 64 bits it is funct7 / 2.
abbrev pub jump_registers : Fields → List (ℕ × Inst)
jump_registers f = (0, Jalr f.rd f.rs1 (immediate_in f)) ∷ []

abbrev pub branches : Fields → List (ℕ × Inst)
branches f =
    let made = λ (make : ℕ → ℕ → ℤ → Inst). make f.rs1 f.rs2 (branch_offset_in f) in
    (0, made Beq) ∷ (1, made Bne) ∷ (4, made Blt) ∷ (5, made Bge) ∷ (6, made Bltu) ∷ (7, made Bgeu) ∷ []

abbrev pub loads : Fields → List (ℕ × Inst)
loads f =
    let made = λ (make : ℕ → ℕ → ℤ → Inst). make f.rd f.rs1 (immediate_in f) in
    (0, made Lb) ∷ (1, made Lh) ∷ (2, made Lw) ∷ (3, made Ld) ∷ (4, made Lbu) ∷ (5, made Lhu) ∷ (6, made Lwu) ∷ []

abbrev pub stores : Fields → List (ℕ × Inst)
stores f =
    let made = λ (make : ℕ → ℕ → ℤ → Inst). make f.rs2 f.rs1 (store_offset_in f) in
    (0, made Sb) ∷ (1, made Sh) ∷ (2, made Sw) ∷ (3, made Sd) ∷ []

abbrev pub immediates : Fields → List (ℕ × Inst)
immediates f =
    let made = λ (make : ℕ → ℕ → ℤ → Inst). make f.rd f.rs1 (immediate_in f) in
    (0, made Addi) ∷ (2, made Slti) ∷ (3, made Sltiu) ∷ (4, made Xori) ∷ (6, made Ori) ∷ (7, made Andi) ∷ []

abbrev pub shifts : Fields → List (ℕ × ℕ × Inst)
shifts f =
    let made = λ (make : ℕ → ℕ → ℕ → Inst). make f.rd f.rs1 (shift_amount_in f) in
    (1, 0, made Slli) ∷ (5, 0, made Srli) ∷ (5, 0x10, made Srai) ∷ []

abbrev pub registers : Fields → List (ℕ × ℕ × Inst)
registers f =
    let made = λ (make : ℕ → ℕ → ℕ → Inst). make f.rd f.rs1 f.rs2 in
    (0, 0, made Add) ∷ (0, 0x20, made Sub) ∷ (1, 0, made Sll) ∷ (2, 0, made Slt) ∷ (3, 0, made Sltu) ∷
    (4, 0, made Xor) ∷ (5, 0, made Srl) ∷ (5, 0x20, made Sra) ∷ (6, 0, made Or) ∷ (7, 0, made And) ∷ []

abbrev pub word_shifts : Fields → List (ℕ × ℕ × Inst)
word_shifts f =
    let made = λ (make : ℕ → ℕ → ℕ → Inst). make f.rd f.rs1 f.rs2 in
    (1, 0, made Slliw) ∷ (5, 0, made Srliw) ∷ (5, 0x20, made Sraiw) ∷ []

abbrev pub word_immediates : Fields → List (ℕ × Inst)
word_immediates f = (0, Addiw f.rd f.rs1 (immediate_in f)) ∷ []

abbrev pub word_registers : Fields → List (ℕ × ℕ × Inst)
word_registers f =
    let made = λ (make : ℕ → ℕ → ℕ → Inst). make f.rd f.rs1 f.rs2 in
    (0, 0, made Addw) ∷ (0, 0x20, made Subw) ∷ (1, 0, made Sllw) ∷ (5, 0, made Srlw) ∷ (5, 0x20, made Sraw) ∷ []

abbrev pub fences : Fields → List (ℕ × Inst)
fences f = (0, Fence f.rd f.rs1 (immediate_in f)) ∷ []

abbrev pub branch_inst : Fields → Option Inst
branch_inst f = at_number f.funct3 (branches f) None

abbrev pub load_inst : Fields → Option Inst
load_inst f = at_number f.funct3 (loads f) None

abbrev pub store_inst : Fields → Option Inst
store_inst f = at_number f.funct3 (stores f) None

abbrev pub immediate_inst : Fields → Option Inst
immediate_inst f = at_number f.funct3 (immediates f) (at_numbers f.funct3 (f.funct7 / 2) (shifts f) None)

abbrev pub register_inst : Fields → Option Inst
register_inst f = at_numbers f.funct3 f.funct7 (registers f) None

abbrev pub word_immediate_inst : Fields → Option Inst
word_immediate_inst f = at_numbers f.funct3 f.funct7 (word_shifts f) (at_number f.funct3 (word_immediates f) None)

abbrev pub word_register_inst : Fields → Option Inst
word_register_inst f = at_numbers f.funct3 f.funct7 (word_registers f) None

abbrev pub system_inst : Fields → Option Inst
system_inst f =
    if (f.rd == 0) && (f.funct3 == 0) && (f.rs1 == 0) && (f.funct7 == 0)
    then (if f.rs2 == 0 then Some Ecall else if f.rs2 == 1 then Some Ebreak else None)
    else None

abbrev pub inst_of : Fields → Option Inst
inst_of f =
    if f.opcode == 0x37 then Some (Lui f.rd (upper_in f))
    else if f.opcode == 0x17 then Some (Auipc f.rd (upper_in f))
    else if f.opcode == 0x6F then Some (Jal f.rd (jump_offset_in f))
    else if f.opcode == 0x67 then at_number f.funct3 (jump_registers f) None
    else if f.opcode == 0x63 then branch_inst f
    else if f.opcode == 0x03 then load_inst f
    else if f.opcode == 0x23 then store_inst f
    else if f.opcode == 0x13 then immediate_inst f
    else if f.opcode == 0x33 then register_inst f
    else if f.opcode == 0x1B then word_immediate_inst f
    else if f.opcode == 0x3B then word_register_inst f
    else if f.opcode == 0x0F then at_number f.funct3 (fences f) None
    else if f.opcode == 0x73 then system_inst f
    else None

-- the instruction of a word, or none
unfoldable pub decode_of : ℕ → Option Inst
decode_of word = inst_of (fields_of word)
