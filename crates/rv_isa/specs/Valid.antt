-- An instruction whose parts are in their ranges, as every `Inst` of the code is.
use Rattle.std.specs.Prelude.{◌<◌}
use Rattle.rv_isa.specs.declared.inst.Inst.{Inst}
use Rattle.rv_isa.specs.Bits.{IsIn, IsEven}
use Rattle.rv_isa.specs.Table.{Form, form_of, RegisterForm, ImmediateForm, ShiftForm, WordShiftForm, StoreForm}
use Rattle.rv_isa.specs.Table.{BranchForm, UpperForm, JumpForm, WholeWord}

abbrev pub HasRanges : Form → Type 0
HasRanges (RegisterForm opcode funct3 funct7 rd rs1 rs2) = (rd < 32) × (rs1 < 32) × (rs2 < 32)
HasRanges (ImmediateForm opcode funct3 rd rs1 immediate) = (rd < 32) × (rs1 < 32) × IsIn 2048 immediate
HasRanges (ShiftForm funct3 kind rd rs1 amount) = (rd < 32) × (rs1 < 32) × (amount < 64)
HasRanges (WordShiftForm funct3 funct7 rd rs1 amount) = (rd < 32) × (rs1 < 32) × (amount < 32)
HasRanges (StoreForm funct3 rs2 rs1 offset) = (rs2 < 32) × (rs1 < 32) × IsIn 2048 offset
HasRanges (BranchForm funct3 rs1 rs2 offset) = (rs1 < 32) × (rs2 < 32) × IsIn 4096 offset × IsEven offset
HasRanges (UpperForm opcode rd upper) = (rd < 32) × (upper < 1048576)
HasRanges (JumpForm rd offset) = (rd < 32) × IsIn 1048576 offset × IsEven offset
HasRanges (WholeWord word) = Unit {0}

abbrev pub IsValid : Inst → Type 0
IsValid inst = HasRanges (form_of inst)
