-- A word in the table has the instruction's fields, and the instruction is valid.
use Rattle.std.proofs.Common.{ℕ, ◌+◌, ◌*◌, ◌%◌, ◌^◌, ◌<◌, ◌≡◌, sym, ap, subst, arith}
use Rattle.std.specs.Prelude.{ℤ}
use Rattle.rv_isa.specs.declared.fields.Fields.{Fields}
use Rattle.rv_isa.specs.declared.inst.Inst.{Inst}
use Rattle.rv_isa.specs.Bits.{bits, signed, low_bits, IsIn, IsEven}
use Rattle.rv_isa.specs.Fields.{fields_of}
use Rattle.rv_isa.specs.Table.{IsWordOf, IsRegisterForm, IsImmediateForm, IsShiftForm, IsStoreForm, IsBranchForm}
use Rattle.rv_isa.specs.Table.{IsUpperForm, IsJumpForm, Form, HasForm, form_of, RegisterForm, ImmediateForm, ShiftForm}
use Rattle.rv_isa.specs.Table.{WordShiftForm, StoreForm, BranchForm, UpperForm, JumpForm, WholeWord}
use Rattle.rv_isa.specs.Encoding.{inst_fields, register_form, immediate_form, shift_form, store_form, branch_form}
use Rattle.rv_isa.specs.Encoding.{upper_form, jump_form, form_fields}
use Rattle.rv_isa.specs.Valid.{IsValid, HasRanges}
use Rattle.rv_isa.proofs.SignedBits.{low_bits-signed, signed_in, signed_even}

-- a signed number that is told by its bits
pub record IsToldBy (half n : ℕ) (z : ℤ) : Type 0 where
  pub inside : IsIn half z
  pub same_bits : low_bits half z ≡ n

told : (half n : ℕ) (z : ℤ) → n < 2 * half → signed half n ≡ z → IsToldBy half n z
told half n z b e =
    let P : ℤ → Type 0 = λ y. IsToldBy half n y in
    subst P e (record { inside = signed_in half n b; same_bits = low_bits-signed half n b })

even_told : (half n : ℕ) (z : ℤ) → n < 2 * half → n % 2 ≡ 0 → signed half n ≡ z → IsEven z
even_told half n z b v e = let P : ℤ → Type 0 = λ y. IsEven y in subst P e (signed_even half n b v)

fields_are : (opcode rd funct3 rs1 rs2 funct7 : ℕ) (f : Fields) → opcode ≡ f.opcode → rd ≡ f.rd → funct3 ≡ f.funct3
    → rs1 ≡ f.rs1 → rs2 ≡ f.rs2 → funct7 ≡ f.funct7
    → ◌≡◌ {A = Fields} (record { opcode = opcode; rd = rd; funct3 = funct3; rs1 = rs1; rs2 = rs2; funct7 = funct7 }) f
fields_are opcode rd funct3 rs1 rs2 funct7 f a b c d e h = rw (a, b, c, d, e, h)

same_fields : (f g : Fields) → f.opcode ≡ g.opcode → f.rd ≡ g.rd → f.funct3 ≡ g.funct3 → f.rs1 ≡ g.rs1 → f.rs2 ≡ g.rs2
    → f.funct7 ≡ g.funct7 → f ≡ g
same_fields f g a b c d e h = fields_are f.opcode f.rd f.funct3 f.rs1 f.rs2 f.funct7 g a b c d e h

register_cut : (word opcode funct3 funct7 rd rs1 rs2 : ℕ) → word < 2 ^ 32
    → IsRegisterForm word opcode funct3 funct7 rd rs1 rs2 → ((rd < 32) × (rs1 < 32) × (rs2 < 32))
    × (register_form opcode funct3 funct7 rd rs1 rs2 ≡ fields_of word)
register_cut word opcode funct3 funct7 rd rs1 rs2 b h = (
  (omega arith, omega arith, omega arith),
  same_fields _ _ (omega arith) (omega arith) (omega arith) (omega arith) (omega arith) (omega arith),
)

immediate_cut : (word opcode funct3 rd rs1 : ℕ) (immediate : ℤ) → word < 2 ^ 32
    → IsImmediateForm word opcode funct3 rd rs1 immediate → ((rd < 32) × (rs1 < 32) × IsIn 2048 immediate)
    × (immediate_form opcode funct3 rd rs1 immediate ≡ fields_of word)
immediate_cut word opcode funct3 rd rs1 immediate b h =
    let t = told 2048 (bits word 20 12) immediate (omega arith) h.same_immediate in (
      (omega arith, omega arith, t.inside),
      same_fields _ _ (omega arith) (omega arith) (omega arith) (omega arith)
          (omega arith) (omega arith),
    )

shift_cut : (word funct3 kind rd rs1 amount : ℕ) → word < 2 ^ 32 → IsShiftForm word 0x13 funct3 kind rd rs1 amount
    → ((rd < 32) × (rs1 < 32) × (amount < 64)) × (shift_form funct3 kind rd rs1 amount ≡ fields_of word)
shift_cut word funct3 kind rd rs1 amount b h = (
  (omega arith, omega arith, omega arith),
  same_fields _ _ (omega arith) (omega arith) (omega arith) (omega arith) (omega arith) (omega arith),
)

store_cut : (word funct3 rs2 rs1 : ℕ) (offset : ℤ) → word < 2 ^ 32 → IsStoreForm word 0x23 funct3 rs2 rs1 offset
    → ((rs2 < 32) × (rs1 < 32) × IsIn 2048 offset) × (store_form funct3 rs2 rs1 offset ≡ fields_of word)
store_cut word funct3 rs2 rs1 offset b h =
    let t = told 2048 (bits word 7 5 + bits word 25 7 * 2 ^ 5) offset (omega arith) h.same_offset in (
      (omega arith, omega arith, t.inside),
      same_fields _ _ (omega arith) (omega arith) (omega arith) (omega arith)
          (omega arith) (omega arith),
    )

branch_cut : (word funct3 rs1 rs2 : ℕ) (offset : ℤ) → word < 2 ^ 32 → IsBranchForm word 0x63 funct3 rs1 rs2 offset
    → ((rs1 < 32) × (rs2 < 32) × IsIn 4096 offset × IsEven offset)
    × (branch_form funct3 rs1 rs2 offset ≡ fields_of word)
branch_cut word funct3 rs1 rs2 offset b h =
    let n = bits word 8 4 * 2 ^ 1 + bits word 25 6 * 2 ^ 5 + bits word 7 1 * 2 ^ 11 + bits word 31 1 * 2 ^ 12 in
    let t = told 4096 n offset (omega arith) h.same_offset in
    let even = even_told 4096 n offset (omega arith) (omega arith) h.same_offset in (
      (omega arith, omega arith, t.inside, even),
      same_fields _ _ (omega arith) (omega arith) (omega arith) (omega arith) (omega arith) (omega arith),
    )

upper_cut : (word opcode rd upper : ℕ) → word < 2 ^ 32 → IsUpperForm word opcode rd upper
    → ((rd < 32) × (upper < 1048576)) × (upper_form opcode rd upper ≡ fields_of word)
upper_cut word opcode rd upper b h = (
  (omega arith, omega arith),
  same_fields _ _ (omega arith) (omega arith) (omega arith) (omega arith) (omega arith)
      (omega arith),
)

jump_cut : (word rd : ℕ) (offset : ℤ) → word < 2 ^ 32 → IsJumpForm word 0x6F rd offset
    → ((rd < 32) × IsIn 1048576 offset × IsEven offset) × (jump_form rd offset ≡ fields_of word)
jump_cut word rd offset b h =
    let n = bits word 21 10 * 2 ^ 1 + bits word 20 1 * 2 ^ 11 + bits word 12 8 * 2 ^ 12 + bits word 31 1 * 2 ^ 20 in
    let t = told 1048576 n offset (omega arith) h.same_offset in
    let even = even_told 1048576 n offset (omega arith) (omega arith) h.same_offset in (
      (omega arith, t.inside, even),
      same_fields _ _ (omega arith) (omega arith) (omega arith) (omega arith)
          (omega arith) (omega arith),
    )

form_cut : (word : ℕ) → word < 2 ^ 32 → (form : Form) → HasForm form word
    → HasRanges form × (form_fields form ≡ fields_of word)
form_cut word b (RegisterForm opcode funct3 funct7 rd rs1 rs2) h =
    register_cut word opcode funct3 funct7 rd rs1 rs2 b h
form_cut word b (ImmediateForm opcode funct3 rd rs1 immediate) h =
    immediate_cut word opcode funct3 rd rs1 immediate b h
form_cut word b (ShiftForm funct3 kind rd rs1 amount) h = shift_cut word funct3 kind rd rs1 amount b h
form_cut word b (WordShiftForm funct3 funct7 rd rs1 amount) h = register_cut word 0x1B funct3 funct7 rd rs1 amount b h
form_cut word b (StoreForm funct3 rs2 rs1 offset) h = store_cut word funct3 rs2 rs1 offset b h
form_cut word b (BranchForm funct3 rs1 rs2 offset) h = branch_cut word funct3 rs1 rs2 offset b h
form_cut word b (UpperForm opcode rd upper) h = upper_cut word opcode rd upper b h
form_cut word b (JumpForm rd offset) h = jump_cut word rd offset b h
form_cut word b (WholeWord all) h = (tt, ap fields_of (sym h))

pub row_cut : (word : ℕ) → word < 2 ^ 32 → (i : Inst) → IsWordOf i word → IsValid i × (inst_fields i ≡ fields_of word)
row_cut word b i h = form_cut word b (form_of i) h
