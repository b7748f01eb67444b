-- What a code must be to be assembled.
use Rattle.std.specs.Prelude.{ℕ, ◌+◌, ◌≡◌, ◌==◌, if◌then◌else◌, Bool, true, false, List, [], ◌∷◌, All, Any, Contains}
use Rattle.rv_isa.specs.declared.inst.Inst.{Inst}
use Rattle.rv_isa.specs.declared.inst.Inst.TheVariants.{Auipc, Jal, Beq, Bne, Blt, Bge, Bltu, Bgeu}
use Rattle.rv_isa.specs.Table.{Form, form_of, RegisterForm, ImmediateForm, ShiftForm, WordShiftForm, StoreForm}
use Rattle.rv_isa.specs.Table.{BranchForm, UpperForm, JumpForm, WholeWord}
use Rattle.rv_machine.specs.declared.real.RealItem.{RealItem}
use Rattle.rv_machine.specs.declared.real.RealItem.TheVariants.{Op, Mark, Jump, Branch, Address}
pub use Rattle.rv_machine.specs.Real.{is_mark}

-- the registers that an instruction names
abbrev pub form_registers : Form → List ℕ
form_registers (RegisterForm opcode funct3 funct7 rd rs1 rs2) = rd ∷ rs1 ∷ rs2 ∷ []
form_registers (ImmediateForm opcode funct3 rd rs1 immediate) = rd ∷ rs1 ∷ []
form_registers (ShiftForm funct3 kind rd rs1 amount) = rd ∷ rs1 ∷ []
form_registers (WordShiftForm funct3 funct7 rd rs1 amount) = rd ∷ rs1 ∷ []
form_registers (StoreForm funct3 rs2 rs1 offset) = rs2 ∷ rs1 ∷ []
form_registers (BranchForm funct3 rs1 rs2 offset) = rs1 ∷ rs2 ∷ []
form_registers (UpperForm opcode rd upper) = rd ∷ []
form_registers (JumpForm rd offset) = rd ∷ []
form_registers (WholeWord word) = []

abbrev pub registers_of : Inst → List ℕ
registers_of inst = form_registers (form_of inst)

-- those that an item names
abbrev pub registers_named : RealItem → List ℕ
registers_named (Op i) = registers_of i
registers_named (Mark mark) = []
registers_named (Jump rd mark) = rd ∷ []
registers_named (Branch cond a b mark) = a ∷ b ∷ []
registers_named (Address rd mark) = rd ∷ []

-- the instruction goes by its own address, but not by a register: a branch, JAL or AUIPC
abbrev pub is_relative : Inst → Bool
is_relative (Auipc rd n) = true
is_relative (Jal rd n) = true
is_relative (Beq a b n) = true
is_relative (Bne a b n) = true
is_relative (Blt a b n) = true
is_relative (Bge a b n) = true
is_relative (Bltu a b n) = true
is_relative (Bgeu a b n) = true
is_relative i = false

abbrev pub IsPlaced : RealItem → Type 0
IsPlaced (Op i) = is_relative i ≡ false
IsPlaced item = Unit {0}

-- how often a mark stands
abbrev pub times : ℕ → List RealItem → ℕ
times wanted [] = 0
times wanted (Mark mark ∷ rest) = (if mark == wanted then 1 else 0) + times wanted rest
times wanted (item ∷ rest) = times wanted rest

-- the marks that an item names stand once
abbrev pub NamesOne : List RealItem → RealItem → Type 0
NamesOne items (Op i) = Unit {0}
NamesOne items (Mark mark) = Unit {0}
NamesOne items (Jump rd mark) = times mark items ≡ 1
NamesOne items (Branch cond a b mark) = times mark items ≡ 1
NamesOne items (Address rd mark) = times mark items ≡ 1

pub record CanBeAssembled (items : List RealItem) : Type 0 where
  -- an item isn't a mark
  pub some : Any (λ item. is_mark item ≡ false) items
  -- each mark that is named stands once
  pub marks : All (NamesOne items) items
  -- no item names x31
  pub scratch : All (λ item. ¬ Contains (registers_named item) 31) items
  -- no instruction goes by its own address
  pub placed : All IsPlaced items
