-- What is decoded stands in the table.
use Rattle.std.proofs.Common.{eqb-true, Bool, true, false, ℕ, ◌+◌, ◌*◌, ◌/◌, ◌%◌, ◌^◌, ◌≡◌, Some, None, Option, refl}
use Rattle.std.proofs.Common.{List, [], ◌∷◌, ap, arith}
use Rattle.std.specs.Prelude.{◌==◌, ◌&&◌, if◌then◌else◌}
use Rattle.rv_isa.specs.declared.fields.Fields.{Fields}
use Rattle.rv_isa.specs.declared.inst.Inst.{Inst}
use Rattle.rv_isa.specs.Bits.{bits, signed}
use Rattle.rv_isa.specs.Fields.{word_of, Fit}
use Rattle.rv_isa.specs.Table.{IsWordOf, IsRegisterForm, IsImmediateForm, IsShiftForm, IsStoreForm, IsBranchForm}
use Rattle.rv_isa.specs.Table.{IsUpperForm, IsJumpForm}
use Rattle.rv_isa.specs.Decoding.{inst_of, branch_inst, load_inst, store_inst, immediate_inst, register_inst}
use Rattle.rv_isa.specs.Decoding.{word_immediate_inst, word_register_inst, system_inst, at_number, at_numbers}
use Rattle.rv_isa.specs.Decoding.{jump_registers, branches, loads, stores, immediates, shifts, registers, word_shifts}
use Rattle.rv_isa.specs.Decoding.{word_immediates, word_registers, fences}
use Rattle.rv_isa.specs.Decoding.{immediate_in, store_offset_in, branch_offset_in, upper_in, jump_offset_in}
use Rattle.rv_isa.specs.Decoding.{shift_amount_in}

-- the instruction, if there is one, has the word with these fields
pub record IsRow (f : Fields) (decoded : Option Inst) : Type 0 where
  pub row : (i : Inst) → decoded ≡ Some i → IsWordOf i (word_of f)

row_none : (f : Fields) → IsRow f None
row_none f = record { row = λ i e. cc }

row_some : (f : Fields) (i : Inst) → IsWordOf i (word_of f) → IsRow f (Some i)
row_some f i h = record { row = λ j e. let same : i ≡ j = cc in rw (← same) h }

row_if : (f : Fields) (b : Bool) (x y : Option Inst) → (b ≡ true → IsRow f x) → IsRow f y → IsRow f (if b then x else y)
row_if f true x y p q = p refl
row_if f false x y p q = q

row_at : (f : Fields) (n k : ℕ) (x y : Option Inst) → (n ≡ k → IsRow f x) → IsRow f y
    → IsRow f (if n == k then x else y)
row_at f n k x y p q = row_if f (n == k) x y (λ t. p (eqb-true n k t)) q

both_true : (m j n k : ℕ) → ((m == j) && (n == k)) ≡ true → (m ≡ j) × (n ≡ k)
both_true m j n k e = grind arith

-- one instruction for one number
at : (f : Fields) (n k : ℕ) (i : Inst) (y : Option Inst) → (n ≡ k → IsWordOf i (word_of f)) → IsRow f y
    → IsRow f (if n == k then Some i else y)
at f n k i y p q = row_at f n k (Some i) y (λ e. row_some f i (p e)) q

-- each instruction of a list has the word, where what stands beside it are these numbers
abbrev AreRows : Fields → ℕ → List (ℕ × Inst) → Type 0
AreRows f n [] = Unit {0}
AreRows f n (row ∷ rest) = (n ≡ row.0 → IsWordOf row.1 (word_of f)) × AreRows f n rest

abbrev AreRowsOfTwo : Fields → ℕ → ℕ → List (ℕ × ℕ × Inst) → Type 0
AreRowsOfTwo f m n [] = Unit {0}
AreRowsOfTwo f m n (row ∷ rest) =
    (m ≡ row.0 → n ≡ row.1 → IsWordOf row.2 (word_of f)) × AreRowsOfTwo f m n rest

rows_at : (f : Fields) (n : ℕ) (rows : List (ℕ × Inst)) (other : Option Inst) → AreRows f n rows → IsRow f other
    → IsRow f (at_number n rows other)
rows_at f n [] other p q = q
rows_at f n (row ∷ rest) other p q =
    at f n row.0 row.1 (at_number n rest other) p.0 (rows_at f n rest other p.1 q)

rows_of_two_at : (f : Fields) (m n : ℕ) (rows : List (ℕ × ℕ × Inst)) (other : Option Inst) → AreRowsOfTwo f m n rows
    → IsRow f other → IsRow f (at_numbers m n rows other)
rows_of_two_at f m n [] other p q = q
rows_of_two_at f m n (row ∷ rest) other p q =
    row_if f ((m == row.0) && (n == row.1)) (Some row.2) (at_numbers m n rest other)
    (λ t. let both = both_true m row.0 n row.1 t in row_some f row.2 (p.0 both.0 both.1))
    (rows_of_two_at f m n rest other p.1 q)

-- the forms
register_form_is : (f : Fields) (opcode funct3 funct7 : ℕ) → Fit f → f.opcode ≡ opcode → f.funct3 ≡ funct3
    → f.funct7 ≡ funct7 → IsRegisterForm (word_of f) opcode funct3 funct7 f.rd f.rs1 f.rs2
register_form_is f opcode funct3 funct7 h d e g =
    search arith

immediate_form_is : (f : Fields) (opcode funct3 : ℕ) → Fit f → f.opcode ≡ opcode → f.funct3 ≡ funct3
    → IsImmediateForm (word_of f) opcode funct3 f.rd f.rs1 (immediate_in f)
immediate_form_is f opcode funct3 h d e =
    let same : bits (word_of f) 20 12 ≡ f.rs2 + 32 * f.funct7 = omega arith in
    record {
      same_opcode = omega arith;
      same_funct3 = omega arith;
      same_rd = omega arith;
      same_rs1 = omega arith;
      same_immediate = ap (signed 2048) same;
    }

shift_form_is : (f : Fields) (funct3 kind : ℕ) → Fit f → f.opcode ≡ 0x13 → f.funct3 ≡ funct3 → f.funct7 / 2 ≡ kind
    → IsShiftForm (word_of f) 0x13 funct3 kind f.rd f.rs1 (shift_amount_in f)
shift_form_is f funct3 kind h d e g =
    search arith

store_form_is : (f : Fields) (funct3 : ℕ) → Fit f → f.opcode ≡ 0x23 → f.funct3 ≡ funct3
    → IsStoreForm (word_of f) 0x23 funct3 f.rs2 f.rs1 (store_offset_in f)
store_form_is f funct3 h d e =
    let w = word_of f in
    let same : bits w 7 5 + bits w 25 7 * 2 ^ 5 ≡ f.rd + 32 * f.funct7 = omega arith in
    record {
      same_opcode = omega arith;
      same_funct3 = omega arith;
      same_rs2 = omega arith;
      same_rs1 = omega arith;
      same_offset = ap (signed 2048) same;
    }

branch_form_is : (f : Fields) (funct3 : ℕ) → Fit f → f.opcode ≡ 0x63 → f.funct3 ≡ funct3
    → IsBranchForm (word_of f) 0x63 funct3 f.rs1 f.rs2 (branch_offset_in f)
branch_form_is f funct3 h d e =
    let w = word_of f in
    let same : bits w 8 4 * 2 ^ 1 + bits w 25 6 * 2 ^ 5 + bits w 7 1 * 2 ^ 11 + bits w 31 1 * 2 ^ 12 ≡ 2 * (f.rd / 2)
    + 32 * (f.funct7 % 64) + 2048 * (f.rd % 2) + 4096 * (f.funct7 / 64) = omega arith in
    record {
      same_opcode = omega arith;
      same_funct3 = omega arith;
      same_rs1 = omega arith;
      same_rs2 = omega arith;
      same_offset = ap (signed 4096) same;
    }

upper_form_is : (f : Fields) (opcode : ℕ) → Fit f → f.opcode ≡ opcode → IsUpperForm (word_of f) opcode f.rd (upper_in f)
upper_form_is f opcode h d = record { same_opcode = omega arith; same_rd = omega arith; same_upper = omega arith }

jump_form_is : (f : Fields) → Fit f → f.opcode ≡ 0x6F → IsJumpForm (word_of f) 0x6F f.rd (jump_offset_in f)
jump_form_is f h d =
    let w = word_of f in
    let same : bits w 21 10 * 2 ^ 1 + bits w 20 1 * 2 ^ 11 + bits w 12 8 * 2 ^ 12 + bits w 31 1 * 2 ^ 20
    ≡ 2 * (f.rs2 / 2) + 32 * (f.funct7 % 64) + 2048 * (f.rs2 % 2) + 4096 * f.funct3 + 32768 * f.rs1
    + 1048576 * (f.funct7 / 64) = omega arith in
    record { same_opcode = omega arith; same_rd = omega arith; same_offset = ap (signed 1048576) same }

-- the opcodes with several instructions
jump_register_row : (f : Fields) → Fit f → f.opcode ≡ 0x67 → IsRow f (at_number f.funct3 (jump_registers f) None)
jump_register_row f h d =
    rows_at f f.funct3 (jump_registers f) None (immediate_form_is f 0x67 0 h d, tt) (row_none f)

branch_inst_row : (f : Fields) → Fit f → f.opcode ≡ 0x63 → IsRow f (branch_inst f)
branch_inst_row f h d =
    let is = λ (n : ℕ). branch_form_is f n h d in
    rows_at f f.funct3 (branches f) None (is 0, (is 1, (is 4, (is 5, (is 6, (is 7, tt)))))) (row_none f)

load_inst_row : (f : Fields) → Fit f → f.opcode ≡ 0x03 → IsRow f (load_inst f)
load_inst_row f h d =
    let is = λ (n : ℕ). immediate_form_is f 0x03 n h d in
    rows_at f f.funct3 (loads f) None (is 0, (is 1, (is 2, (is 3, (is 4, (is 5, (is 6, tt))))))) (row_none f)

store_inst_row : (f : Fields) → Fit f → f.opcode ≡ 0x23 → IsRow f (store_inst f)
store_inst_row f h d =
    let is = λ (n : ℕ). store_form_is f n h d in
    rows_at f f.funct3 (stores f) None (is 0, (is 1, (is 2, (is 3, tt)))) (row_none f)

immediate_inst_row : (f : Fields) → Fit f → f.opcode ≡ 0x13 → IsRow f (immediate_inst f)
immediate_inst_row f h d =
    let is = λ (n : ℕ). immediate_form_is f 0x13 n h d in
    let by = λ (n k : ℕ). shift_form_is f n k h d in
    rows_at f f.funct3 (immediates f) (at_numbers f.funct3 (f.funct7 / 2) (shifts f) None)
    (is 0, (is 2, (is 3, (is 4, (is 6, (is 7, tt))))))
    (rows_of_two_at f f.funct3 (f.funct7 / 2) (shifts f) None (by 1 0, (by 5 0, (by 5 0x10, tt))) (row_none f))

register_inst_row : (f : Fields) → Fit f → f.opcode ≡ 0x33 → IsRow f (register_inst f)
register_inst_row f h d =
    let is = λ (m n : ℕ). register_form_is f 0x33 m n h d in
    rows_of_two_at f f.funct3 f.funct7 (registers f) None
    (is 0 0, (is 0 0x20, (is 1 0, (is 2 0, (is 3 0, (is 4 0, (is 5 0, (is 5 0x20, (is 6 0, (is 7 0, tt))))))))))
    (row_none f)

word_immediate_inst_row : (f : Fields) → Fit f → f.opcode ≡ 0x1B → IsRow f (word_immediate_inst f)
word_immediate_inst_row f h d =
    let by = λ (m n : ℕ). register_form_is f 0x1B m n h d in
    rows_of_two_at f f.funct3 f.funct7 (word_shifts f) (at_number f.funct3 (word_immediates f) None)
    (by 1 0, (by 5 0, (by 5 0x20, tt)))
    (rows_at f f.funct3 (word_immediates f) None (immediate_form_is f 0x1B 0 h d, tt) (row_none f))

word_register_inst_row : (f : Fields) → Fit f → f.opcode ≡ 0x3B → IsRow f (word_register_inst f)
word_register_inst_row f h d =
    let is = λ (m n : ℕ). register_form_is f 0x3B m n h d in
    rows_of_two_at f f.funct3 f.funct7 (word_registers f) None
    (is 0 0, (is 0 0x20, (is 1 0, (is 5 0, (is 5 0x20, tt))))) (row_none f)

fence_row : (f : Fields) → Fit f → f.opcode ≡ 0x0F → IsRow f (at_number f.funct3 (fences f) None)
fence_row f h d = rows_at f f.funct3 (fences f) None (immediate_form_is f 0x0F 0 h d, tt) (row_none f)

-- all of the word of ECALL and of EBREAK
system_word : (f : Fields) (word : ℕ) → f.opcode ≡ 0x73 → f.rd ≡ 0 → f.funct3 ≡ 0 → f.rs1 ≡ 0 → f.funct7 ≡ 0
    → word ≡ 0x73 + f.rs2 * 2 ^ 20 → word_of f ≡ word
system_word f word d a b c e g = omega arith

system_inst_row : (f : Fields) → Fit f → f.opcode ≡ 0x73 → IsRow f (system_inst f)
system_inst_row f h d =
    row_if f ((f.rd == 0) && (f.funct3 == 0) && (f.rs1 == 0) && (f.funct7 == 0)) _ _
    (λ t. let a : f.rd ≡ 0 = grind arith in
    let b : f.funct3 ≡ 0 = grind arith in
    let c : f.rs1 ≡ 0 = grind arith in
    let e : f.funct7 ≡ 0 = grind arith in
    at f f.rs2 0 _ _ (λ g. system_word f 0x00000073 d a b c e (omega arith))
    (at f f.rs2 1 _ _ (λ g. system_word f 0x00100073 d a b c e (omega arith))
    (row_none f)))
    (row_none f)

pub inst_of_row : (f : Fields) → Fit f → IsRow f (inst_of f)
inst_of_row f h =
    at f _ _ _ _ (upper_form_is f 0x37 h)
    (at f _ _ _ _ (upper_form_is f 0x17 h)
    (at f _ _ _ _ (jump_form_is f h)
    (row_at f _ _ _ _ (jump_register_row f h)
    (row_at f _ _ _ _ (branch_inst_row f h)
    (row_at f _ _ _ _ (load_inst_row f h)
    (row_at f _ _ _ _ (store_inst_row f h)
    (row_at f _ _ _ _ (immediate_inst_row f h)
    (row_at f _ _ _ _ (register_inst_row f h)
    (row_at f _ _ _ _ (word_immediate_inst_row f h)
    (row_at f _ _ _ _ (word_register_inst_row f h)
    (row_at f _ _ _ _ (fence_row f h)
    (row_at f _ _ _ _ (system_inst_row f h)
    (row_none f)))))))))))))
