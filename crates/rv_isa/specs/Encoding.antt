-- The fields that an instruction has, and so its word.
use Rattle.std.specs.Prelude.{ℕ, ◌+◌, ◌*◌, ◌/◌, ◌%◌, ℤ}
use Rattle.rv_isa.specs.declared.fields.Fields.{Fields}
use Rattle.rv_isa.specs.declared.inst.Inst.{Inst}
use Rattle.rv_isa.specs.Bits.{low_bits}
use Rattle.rv_isa.specs.Fields.{fields_of, word_of}
use Rattle.rv_isa.specs.Table.{Form, form_of, RegisterForm, ImmediateForm, ShiftForm, WordShiftForm, StoreForm}
use Rattle.rv_isa.specs.Table.{BranchForm, UpperForm, JumpForm, WholeWord}

-- the amount of a shift of 32 bits stands in the place of rs2
abbrev pub register_form : ℕ → ℕ → ℕ → ℕ → ℕ → ℕ → Fields
register_form opcode funct3 funct7 rd rs1 rs2 =
    record { opcode = opcode; rd = rd; funct3 = funct3; rs1 = rs1; rs2 = rs2; funct7 = funct7 }

abbrev pub immediate_form : ℕ → ℕ → ℕ → ℕ → ℤ → Fields
immediate_form opcode funct3 rd rs1 immediate =
    let n = low_bits 2048 immediate in
    record { opcode = opcode; rd = rd; funct3 = funct3; rs1 = rs1; rs2 = n % 32; funct7 = n / 32 }

-- the kind stands above the six bits of the amount
abbrev pub shift_form : ℕ → ℕ → ℕ → ℕ → ℕ → Fields
shift_form funct3 kind rd rs1 amount =
    record { opcode = 0x13; rd = rd; funct3 = funct3; rs1 = rs1; rs2 = amount % 32; funct7 = amount / 32 + 2 * kind }

abbrev pub store_form : ℕ → ℕ → ℕ → ℤ → Fields
store_form funct3 rs2 rs1 offset =
    let n = low_bits 2048 offset in
    record { opcode = 0x23; rd = n % 32; funct3 = funct3; rs1 = rs1; rs2 = rs2; funct7 = n / 32 }

abbrev pub branch_form : ℕ → ℕ → ℕ → ℤ → Fields
branch_form funct3 rs1 rs2 offset =
    let n = low_bits 4096 offset in
    record {
      opcode = 0x63;
      rd = n / 2048 % 2 + 2 * (n / 2 % 16);
      funct3 = funct3;
      rs1 = rs1;
      rs2 = rs2;
      funct7 = n / 32 % 64 + 64 * (n / 4096);
    }

abbrev pub upper_form : ℕ → ℕ → ℕ → Fields
upper_form opcode rd upper =
    record {
      opcode = opcode;
      rd = rd;
      funct3 = upper % 8;
      rs1 = upper / 8 % 32;
      rs2 = upper / 256 % 32;
      funct7 = upper / 8192;
    }

abbrev pub jump_form : ℕ → ℤ → Fields
jump_form rd offset =
    let n = low_bits 1048576 offset in
    record {
      opcode = 0x6F;
      rd = rd;
      funct3 = n / 4096 % 8;
      rs1 = n / 32768 % 32;
      rs2 = n / 2048 % 2 + 2 * (n / 2 % 16);
      funct7 = n / 32 % 64 + 64 * (n / 1048576);
    }

abbrev pub form_fields : Form → Fields
form_fields (RegisterForm opcode funct3 funct7 rd rs1 rs2) = register_form opcode funct3 funct7 rd rs1 rs2
form_fields (ImmediateForm opcode funct3 rd rs1 immediate) = immediate_form opcode funct3 rd rs1 immediate
form_fields (ShiftForm funct3 kind rd rs1 amount) = shift_form funct3 kind rd rs1 amount
form_fields (WordShiftForm funct3 funct7 rd rs1 amount) = register_form 0x1B funct3 funct7 rd rs1 amount
form_fields (StoreForm funct3 rs2 rs1 offset) = store_form funct3 rs2 rs1 offset
form_fields (BranchForm funct3 rs1 rs2 offset) = branch_form funct3 rs1 rs2 offset
form_fields (UpperForm opcode rd upper) = upper_form opcode rd upper
form_fields (JumpForm rd offset) = jump_form rd offset
form_fields (WholeWord word) = fields_of word

abbrev pub inst_fields : Inst → Fields
inst_fields inst = form_fields (form_of inst)

-- the word of an instruction
unfoldable pub encode_of : Inst → ℕ
encode_of inst = word_of (inst_fields inst)
