-- How an instruction is written: its name, and behind it its operands.
use Rattle.std.specs.Prelude.{ℕ, pos, List, [], ◌++◌, codes, Option, Some, None}
use Rattle.std.specs.Fmt.{decimal, signed_decimal}
use Rattle.rv_isa.specs.Decoding.{decode_of}
use Rattle.rv_isa.specs.declared.inst.Inst.{Inst}
use Rattle.rv_isa.specs.declared.inst.Inst.TheVariants.{Lui, Auipc, Jal, Jalr, Beq, Bne, Blt, Bge, Bltu, Bgeu, Lb, Lh}
use Rattle.rv_isa.specs.declared.inst.Inst.TheVariants.{Lw, Ld, Lbu, Lhu, Lwu, Sb, Sh, Sw, Sd, Addi, Slti, Sltiu, Xori}
use Rattle.rv_isa.specs.declared.inst.Inst.TheVariants.{Ori, Andi, Slli, Srli, Srai, Add, Sub, Sll, Slt, Sltu, Xor, Srl}
use Rattle.rv_isa.specs.declared.inst.Inst.TheVariants.{Sra, Or, And, Addiw, Slliw, Srliw, Sraiw, Addw, Subw, Sllw}
use Rattle.rv_isa.specs.declared.inst.Inst.TheVariants.{Srlw, Sraw, Fence, Ecall, Ebreak}
use Rattle.rv_isa.specs.Table.{Form, form_of, RegisterForm, ImmediateForm, ShiftForm, WordShiftForm, StoreForm}
use Rattle.rv_isa.specs.Table.{BranchForm, UpperForm, JumpForm, WholeWord}
use Rattle.listing.specs.declared.instructions.Operands.{Operands}
use Rattle.listing.specs.declared.instructions.Operands.TheVariants.{Nothing, Registers, RegistersAndNumber}
use Rattle.listing.specs.declared.instructions.Operands.TheVariants.{RegisterAndNumber, AtAddress}

-- ---- names

abbrev pub name_text : Inst → List ℕ
name_text (Lui rd upper) = codes "lui"
name_text (Auipc rd upper) = codes "auipc"
name_text (Jal rd offset) = codes "jal"
name_text (Jalr rd rs1 offset) = codes "jalr"
name_text (Beq rs1 rs2 offset) = codes "beq"
name_text (Bne rs1 rs2 offset) = codes "bne"
name_text (Blt rs1 rs2 offset) = codes "blt"
name_text (Bge rs1 rs2 offset) = codes "bge"
name_text (Bltu rs1 rs2 offset) = codes "bltu"
name_text (Bgeu rs1 rs2 offset) = codes "bgeu"
name_text (Lb rd rs1 offset) = codes "lb"
name_text (Lh rd rs1 offset) = codes "lh"
name_text (Lw rd rs1 offset) = codes "lw"
name_text (Ld rd rs1 offset) = codes "ld"
name_text (Lbu rd rs1 offset) = codes "lbu"
name_text (Lhu rd rs1 offset) = codes "lhu"
name_text (Lwu rd rs1 offset) = codes "lwu"
name_text (Sb rs2 rs1 offset) = codes "sb"
name_text (Sh rs2 rs1 offset) = codes "sh"
name_text (Sw rs2 rs1 offset) = codes "sw"
name_text (Sd rs2 rs1 offset) = codes "sd"
name_text (Addi rd rs1 immediate) = codes "addi"
name_text (Slti rd rs1 immediate) = codes "slti"
name_text (Sltiu rd rs1 immediate) = codes "sltiu"
name_text (Xori rd rs1 immediate) = codes "xori"
name_text (Ori rd rs1 immediate) = codes "ori"
name_text (Andi rd rs1 immediate) = codes "andi"
name_text (Slli rd rs1 amount) = codes "slli"
name_text (Srli rd rs1 amount) = codes "srli"
name_text (Srai rd rs1 amount) = codes "srai"
name_text (Add rd rs1 rs2) = codes "add"
name_text (Sub rd rs1 rs2) = codes "sub"
name_text (Sll rd rs1 rs2) = codes "sll"
name_text (Slt rd rs1 rs2) = codes "slt"
name_text (Sltu rd rs1 rs2) = codes "sltu"
name_text (Xor rd rs1 rs2) = codes "xor"
name_text (Srl rd rs1 rs2) = codes "srl"
name_text (Sra rd rs1 rs2) = codes "sra"
name_text (Or rd rs1 rs2) = codes "or"
name_text (And rd rs1 rs2) = codes "and"
name_text (Addiw rd rs1 immediate) = codes "addiw"
name_text (Slliw rd rs1 amount) = codes "slliw"
name_text (Srliw rd rs1 amount) = codes "srliw"
name_text (Sraiw rd rs1 amount) = codes "sraiw"
name_text (Addw rd rs1 rs2) = codes "addw"
name_text (Subw rd rs1 rs2) = codes "subw"
name_text (Sllw rd rs1 rs2) = codes "sllw"
name_text (Srlw rd rs1 rs2) = codes "srlw"
name_text (Sraw rd rs1 rs2) = codes "sraw"
name_text (Fence rd rs1 immediate) = codes "fence"
name_text Ecall = codes "ecall"
name_text Ebreak = codes "ebreak"

-- ---- operands

-- what an instruction of a form shows behind its name, in this order: registers, and a number as it counts
abbrev pub form_operands : Form → Operands
form_operands (RegisterForm opcode funct3 funct7 rd rs1 rs2) = Registers rd rs1 rs2
form_operands (ImmediateForm opcode funct3 rd rs1 immediate) = RegistersAndNumber rd rs1 immediate
form_operands (ShiftForm funct3 kind rd rs1 amount) = RegistersAndNumber rd rs1 (pos amount)
form_operands (WordShiftForm funct3 funct7 rd rs1 amount) = RegistersAndNumber rd rs1 (pos amount)
form_operands (StoreForm funct3 rs2 rs1 offset) = AtAddress rs2 offset rs1
form_operands (BranchForm funct3 rs1 rs2 offset) = RegistersAndNumber rs1 rs2 offset
form_operands (UpperForm opcode rd upper) = RegisterAndNumber rd (pos upper)
form_operands (JumpForm rd offset) = RegisterAndNumber rd offset
form_operands (WholeWord word) = Nothing

-- JALR and loads have an address in place of a number; of a FENCE nothing is shown, since none of its operands does
-- anything
abbrev pub operands_of : Inst → Operands
operands_of (Jalr rd rs1 offset) = AtAddress rd offset rs1
operands_of (Lb rd rs1 offset) = AtAddress rd offset rs1
operands_of (Lh rd rs1 offset) = AtAddress rd offset rs1
operands_of (Lw rd rs1 offset) = AtAddress rd offset rs1
operands_of (Ld rd rs1 offset) = AtAddress rd offset rs1
operands_of (Lbu rd rs1 offset) = AtAddress rd offset rs1
operands_of (Lhu rd rs1 offset) = AtAddress rd offset rs1
operands_of (Lwu rd rs1 offset) = AtAddress rd offset rs1
operands_of (Fence rd rs1 immediate) = Nothing
operands_of inst = form_operands (form_of inst)

abbrev pub register_text : ℕ → List ℕ
register_text number = codes "x" ++ decimal number

abbrev pub operands_text : Operands → List ℕ
operands_text Nothing = []
operands_text (Registers a b c) =
    codes " " ++ register_text a ++ codes ", " ++ register_text b ++ codes ", " ++ register_text c
operands_text (RegistersAndNumber a b n) =
    codes " " ++ register_text a ++ codes ", " ++ register_text b ++ codes ", " ++ signed_decimal n
operands_text (RegisterAndNumber a n) = codes " " ++ register_text a ++ codes ", " ++ signed_decimal n
operands_text (AtAddress a n base) =
    codes " " ++ register_text a ++ codes ", " ++ signed_decimal n ++ codes "(" ++ register_text base ++ codes ")"

-- ---- instructions

abbrev pub inst_text : Inst → List ℕ
inst_text i = name_text i ++ operands_text (operands_of i)

-- what is written for a word that is no instruction
abbrev pub text_if : Option Inst → List ℕ
text_if (Some i) = inst_text i
text_if None = codes ".word"

-- the instruction of a word
abbrev pub word_text : ℕ → List ℕ
word_text word = text_if (decode_of word)
