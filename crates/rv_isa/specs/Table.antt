-- The table of RV64I: which word is which instruction, by the bits of the word.
use Rattle.std.specs.Prelude.{ℕ, ◌+◌, ◌*◌, ◌^◌, ◌≡◌, ℤ}
use Rattle.rv_isa.specs.declared.inst.Inst.{Inst}
use Rattle.rv_isa.specs.declared.inst.Inst.TheVariants.{Lui, Auipc, Jal, Jalr, Beq, Bne, Blt, Bge, Bltu, Bgeu, Lb, Lh}
use Rattle.rv_isa.specs.declared.inst.Inst.TheVariants.{Lw, Ld, Lbu, Lhu, Lwu, Sb, Sh, Sw, Sd, Addi, Slti, Sltiu, Xori}
use Rattle.rv_isa.specs.declared.inst.Inst.TheVariants.{Ori, Andi, Slli, Srli, Srai, Add, Sub, Sll, Slt, Sltu, Xor, Srl}
use Rattle.rv_isa.specs.declared.inst.Inst.TheVariants.{Sra, Or, And, Addiw, Slliw, Srliw, Sraiw, Addw, Subw, Sllw}
use Rattle.rv_isa.specs.declared.inst.Inst.TheVariants.{Srlw, Sraw, Fence, Ecall, Ebreak}
use Rattle.rv_isa.specs.Bits.{bits, signed}

-- the fields
abbrev pub opcode_of : ℕ → ℕ
opcode_of word = bits word 0 7

abbrev pub rd_of : ℕ → ℕ
rd_of word = bits word 7 5

abbrev pub funct3_of : ℕ → ℕ
funct3_of word = bits word 12 3

abbrev pub rs1_of : ℕ → ℕ
rs1_of word = bits word 15 5

abbrev pub rs2_of : ℕ → ℕ
rs2_of word = bits word 20 5

abbrev pub funct7_of : ℕ → ℕ
funct7_of word = bits word 25 7

-- The immediates of the forms. A part that stands from the bit k of the immediate up counts 2 ^ k times.
-- I: bits 20 to 31 are 0 to 11
abbrev pub immediate_of : ℕ → ℤ
immediate_of word = signed 2048 (bits word 20 12)

-- S: bits 7 to 11 are 0 to 4, bits 25 to 31 are 5 to 11
abbrev pub store_offset_of : ℕ → ℤ
store_offset_of word = signed 2048 (bits word 7 5 + bits word 25 7 * 2 ^ 5)

-- B: bits 8 to 11 are 1 to 4, bits 25 to 30 are 5 to 10, bit 7 is 11, bit 31 is 12, and bit 0 is zero
abbrev pub branch_offset_of : ℕ → ℤ
branch_offset_of word =
    signed 4096 (bits word 8 4 * 2 ^ 1 + bits word 25 6 * 2 ^ 5 + bits word 7 1 * 2 ^ 11 + bits word 31 1 * 2 ^ 12)

-- U: bits 12 to 31 are 12 to 31, and the lower bits are zero. This is the number that those twenty bits make.
abbrev pub upper_of : ℕ → ℕ
upper_of word = bits word 12 20

-- J: bits 21 to 30 are 1 to 10, bit 20 is 11, bits 12 to 19 are 12 to 19, bit 31 is 20, and bit 0 is zero
abbrev pub jump_offset_of : ℕ → ℤ
jump_offset_of word =
    signed 1048576 (bits word 21 10 * 2 ^ 1 + bits word 20 1 * 2 ^ 11 + bits word 12 8 * 2 ^ 12
    + bits word 31 1 * 2 ^ 20)

-- What each form asks of a word.
pub record IsRegisterForm (word opcode funct3 funct7 rd rs1 rs2 : ℕ) : Type 0 where
  pub same_opcode : opcode_of word ≡ opcode
  pub same_funct3 : funct3_of word ≡ funct3
  pub same_funct7 : funct7_of word ≡ funct7
  pub same_rd : rd_of word ≡ rd
  pub same_rs1 : rs1_of word ≡ rs1
  pub same_rs2 : rs2_of word ≡ rs2

pub record IsImmediateForm (word opcode funct3 rd rs1 : ℕ) (immediate : ℤ) : Type 0 where
  pub same_opcode : opcode_of word ≡ opcode
  pub same_funct3 : funct3_of word ≡ funct3
  pub same_rd : rd_of word ≡ rd
  pub same_rs1 : rs1_of word ≡ rs1
  pub same_immediate : immediate_of word ≡ immediate

-- a shift of 64 bits: its amount is bits 20 to 25, and bits 26 to 31 tell its kind
pub record IsShiftForm (word opcode funct3 kind rd rs1 amount : ℕ) : Type 0 where
  pub same_opcode : opcode_of word ≡ opcode
  pub same_funct3 : funct3_of word ≡ funct3
  pub same_kind : bits word 26 6 ≡ kind
  pub same_rd : rd_of word ≡ rd
  pub same_rs1 : rs1_of word ≡ rs1
  pub same_amount : bits word 20 6 ≡ amount

pub record IsStoreForm (word opcode funct3 rs2 rs1 : ℕ) (offset : ℤ) : Type 0 where
  pub same_opcode : opcode_of word ≡ opcode
  pub same_funct3 : funct3_of word ≡ funct3
  pub same_rs2 : rs2_of word ≡ rs2
  pub same_rs1 : rs1_of word ≡ rs1
  pub same_offset : store_offset_of word ≡ offset

pub record IsBranchForm (word opcode funct3 rs1 rs2 : ℕ) (offset : ℤ) : Type 0 where
  pub same_opcode : opcode_of word ≡ opcode
  pub same_funct3 : funct3_of word ≡ funct3
  pub same_rs1 : rs1_of word ≡ rs1
  pub same_rs2 : rs2_of word ≡ rs2
  pub same_offset : branch_offset_of word ≡ offset

pub record IsUpperForm (word opcode rd upper : ℕ) : Type 0 where
  pub same_opcode : opcode_of word ≡ opcode
  pub same_rd : rd_of word ≡ rd
  pub same_upper : upper_of word ≡ upper

pub record IsJumpForm (word opcode rd : ℕ) (offset : ℤ) : Type 0 where
  pub same_opcode : opcode_of word ≡ opcode
  pub same_rd : rd_of word ≡ rd
  pub same_offset : jump_offset_of word ≡ offset

-- The forms. Each has first what tells its instructions apart (the opcode, where the form has several, then funct3, and
-- what tells those of one funct3 apart), and then the parts of an instruction.
pub data Form : Type 0 where
  RegisterForm : (opcode funct3 funct7 rd rs1 rs2 : ℕ) → Form
  ImmediateForm : (opcode funct3 rd rs1 : ℕ) (immediate : ℤ) → Form
  ShiftForm : (funct3 kind rd rs1 amount : ℕ) → Form
  -- a shift of 32 bits: its amount, bits 20 to 24, stands in the place of rs2
  WordShiftForm : (funct3 funct7 rd rs1 amount : ℕ) → Form
  StoreForm : (funct3 rs2 rs1 : ℕ) (offset : ℤ) → Form
  BranchForm : (funct3 rs1 rs2 : ℕ) (offset : ℤ) → Form
  UpperForm : (opcode rd upper : ℕ) → Form
  JumpForm : (rd : ℕ) (offset : ℤ) → Form
  -- all of the word is given
  WholeWord : ℕ → Form

-- a word has this form with these numbers; where a form has one opcode, it stands here
abbrev pub HasForm : Form → ℕ → Type 0
HasForm (RegisterForm opcode funct3 funct7 rd rs1 rs2) word = IsRegisterForm word opcode funct3 funct7 rd rs1 rs2
HasForm (ImmediateForm opcode funct3 rd rs1 immediate) word = IsImmediateForm word opcode funct3 rd rs1 immediate
HasForm (ShiftForm funct3 kind rd rs1 amount) word = IsShiftForm word 0x13 funct3 kind rd rs1 amount
HasForm (WordShiftForm funct3 funct7 rd rs1 amount) word = IsRegisterForm word 0x1B funct3 funct7 rd rs1 amount
HasForm (StoreForm funct3 rs2 rs1 offset) word = IsStoreForm word 0x23 funct3 rs2 rs1 offset
HasForm (BranchForm funct3 rs1 rs2 offset) word = IsBranchForm word 0x63 funct3 rs1 rs2 offset
HasForm (UpperForm opcode rd upper) word = IsUpperForm word opcode rd upper
HasForm (JumpForm rd offset) word = IsJumpForm word 0x6F rd offset
HasForm (WholeWord all) word = word ≡ all

-- the form of each instruction, with its numbers
abbrev pub form_of : Inst → Form
form_of (Lui rd upper) = UpperForm 0x37 rd upper
form_of (Auipc rd upper) = UpperForm 0x17 rd upper
form_of (Jal rd offset) = JumpForm rd offset
form_of (Jalr rd rs1 immediate) = ImmediateForm 0x67 0 rd rs1 immediate
form_of (Beq rs1 rs2 offset) = BranchForm 0 rs1 rs2 offset
form_of (Bne rs1 rs2 offset) = BranchForm 1 rs1 rs2 offset
form_of (Blt rs1 rs2 offset) = BranchForm 4 rs1 rs2 offset
form_of (Bge rs1 rs2 offset) = BranchForm 5 rs1 rs2 offset
form_of (Bltu rs1 rs2 offset) = BranchForm 6 rs1 rs2 offset
form_of (Bgeu rs1 rs2 offset) = BranchForm 7 rs1 rs2 offset
form_of (Lb rd rs1 immediate) = ImmediateForm 0x03 0 rd rs1 immediate
form_of (Lh rd rs1 immediate) = ImmediateForm 0x03 1 rd rs1 immediate
form_of (Lw rd rs1 immediate) = ImmediateForm 0x03 2 rd rs1 immediate
form_of (Ld rd rs1 immediate) = ImmediateForm 0x03 3 rd rs1 immediate
form_of (Lbu rd rs1 immediate) = ImmediateForm 0x03 4 rd rs1 immediate
form_of (Lhu rd rs1 immediate) = ImmediateForm 0x03 5 rd rs1 immediate
form_of (Lwu rd rs1 immediate) = ImmediateForm 0x03 6 rd rs1 immediate
form_of (Sb rs2 rs1 offset) = StoreForm 0 rs2 rs1 offset
form_of (Sh rs2 rs1 offset) = StoreForm 1 rs2 rs1 offset
form_of (Sw rs2 rs1 offset) = StoreForm 2 rs2 rs1 offset
form_of (Sd rs2 rs1 offset) = StoreForm 3 rs2 rs1 offset
form_of (Addi rd rs1 immediate) = ImmediateForm 0x13 0 rd rs1 immediate
form_of (Slti rd rs1 immediate) = ImmediateForm 0x13 2 rd rs1 immediate
form_of (Sltiu rd rs1 immediate) = ImmediateForm 0x13 3 rd rs1 immediate
form_of (Xori rd rs1 immediate) = ImmediateForm 0x13 4 rd rs1 immediate
form_of (Ori rd rs1 immediate) = ImmediateForm 0x13 6 rd rs1 immediate
form_of (Andi rd rs1 immediate) = ImmediateForm 0x13 7 rd rs1 immediate
form_of (Slli rd rs1 amount) = ShiftForm 1 0 rd rs1 amount
form_of (Srli rd rs1 amount) = ShiftForm 5 0 rd rs1 amount
form_of (Srai rd rs1 amount) = ShiftForm 5 0x10 rd rs1 amount
form_of (Add rd rs1 rs2) = RegisterForm 0x33 0 0 rd rs1 rs2
form_of (Sub rd rs1 rs2) = RegisterForm 0x33 0 0x20 rd rs1 rs2
form_of (Sll rd rs1 rs2) = RegisterForm 0x33 1 0 rd rs1 rs2
form_of (Slt rd rs1 rs2) = RegisterForm 0x33 2 0 rd rs1 rs2
form_of (Sltu rd rs1 rs2) = RegisterForm 0x33 3 0 rd rs1 rs2
form_of (Xor rd rs1 rs2) = RegisterForm 0x33 4 0 rd rs1 rs2
form_of (Srl rd rs1 rs2) = RegisterForm 0x33 5 0 rd rs1 rs2
form_of (Sra rd rs1 rs2) = RegisterForm 0x33 5 0x20 rd rs1 rs2
form_of (Or rd rs1 rs2) = RegisterForm 0x33 6 0 rd rs1 rs2
form_of (And rd rs1 rs2) = RegisterForm 0x33 7 0 rd rs1 rs2
form_of (Addiw rd rs1 immediate) = ImmediateForm 0x1B 0 rd rs1 immediate
form_of (Slliw rd rs1 amount) = WordShiftForm 1 0 rd rs1 amount
form_of (Srliw rd rs1 amount) = WordShiftForm 5 0 rd rs1 amount
form_of (Sraiw rd rs1 amount) = WordShiftForm 5 0x20 rd rs1 amount
form_of (Addw rd rs1 rs2) = RegisterForm 0x3B 0 0 rd rs1 rs2
form_of (Subw rd rs1 rs2) = RegisterForm 0x3B 0 0x20 rd rs1 rs2
form_of (Sllw rd rs1 rs2) = RegisterForm 0x3B 1 0 rd rs1 rs2
form_of (Srlw rd rs1 rs2) = RegisterForm 0x3B 5 0 rd rs1 rs2
form_of (Sraw rd rs1 rs2) = RegisterForm 0x3B 5 0x20 rd rs1 rs2
form_of (Fence rd rs1 immediate) = ImmediateForm 0x0F 0 rd rs1 immediate
form_of Ecall = WholeWord 0x00000073
form_of Ebreak = WholeWord 0x00100073

-- the word is one of the instruction
abbrev pub IsWordOf : Inst → ℕ → Type 0
IsWordOf inst word = HasForm (form_of inst) word
