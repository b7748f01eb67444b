-- Instructions and words, there and back.
use Rattle.std.proofs.Common.{ℕ, ◌+◌, ◌*◌, ◌/◌, ◌%◌, ◌^◌, ◌<◌, ◌≡◌, Some, None, Option, refl, sym, ◌∙◌, ap, subst}
use Rattle.std.proofs.Common.{arith}
use Rattle.std.specs.Prelude.{ℤ, IfSome}
use Rattle.rv_isa.specs.declared.fields.Fields.{Fields}
use Rattle.rv_isa.specs.declared.inst.Inst.{Inst}
use Rattle.rv_isa.specs.declared.inst.Inst.TheVariants.{Lui, Auipc, Jal, Jalr, Beq, Bne, Blt, Bge, Bltu, Bgeu, Lb, Lh}
use Rattle.rv_isa.specs.declared.inst.Inst.TheVariants.{Lw, Ld, Lbu, Lhu, Lwu, Sb, Sh, Sw, Sd, Addi, Slti, Sltiu, Xori}
use Rattle.rv_isa.specs.declared.inst.Inst.TheVariants.{Ori, Andi, Slli, Srli, Srai}
use Rattle.rv_isa.specs.declared.inst.Inst.TheVariants.{Addiw}
use Rattle.rv_isa.specs.declared.inst.Inst.TheVariants.{Fence}
use Rattle.rv_isa.specs.Bits.{signed, low_bits, IsIn, IsEven}
use Rattle.rv_isa.specs.Fields.{fields_of, word_of, Fit}
use Rattle.rv_isa.specs.Table.{IsWordOf}
use Rattle.rv_isa.specs.Encoding.{inst_fields, encode_of, immediate_form, shift_form, branch_form}
use Rattle.rv_isa.specs.Encoding.{upper_form, jump_form}
use Rattle.rv_isa.specs.Decoding.{decode_of, inst_of, immediate_in, branch_offset_in, upper_in}
use Rattle.rv_isa.specs.Decoding.{jump_offset_in, shift_amount_in}
use Rattle.rv_isa.specs.Valid.{IsValid}
use Rattle.rv_isa.proofs.SignedBits.{signed-low_bits, low_bits_below, low_bits_even}
use Rattle.rv_isa.proofs.Decoded.{inst_of_row}
use Rattle.rv_isa.proofs.Rows.{row_cut}

pub fields_of-word_of : (f : Fields) → Fit f → fields_of (word_of f) ≡ f
fields_of-word_of f h =
    let a : word_of f % 128 ≡ f.opcode = omega arith in
    let b : word_of f / 2 ^ 7 % 32 ≡ f.rd = omega arith in
    let c : word_of f / 2 ^ 12 % 8 ≡ f.funct3 = omega arith in
    let d : word_of f / 2 ^ 15 % 32 ≡ f.rs1 = omega arith in
    let e : word_of f / 2 ^ 20 % 32 ≡ f.rs2 = omega arith in
    let g : word_of f / 2 ^ 25 ≡ f.funct7 = omega arith in
    rw (a, b, c, d, e, g)

pub word_of-fields_of : (word : ℕ) → word < 2 ^ 32 → word_of (fields_of word) ≡ word
word_of-fields_of word h = omega arith

pub fit_fields_of : (word : ℕ) → word < 2 ^ 32 → Fit (fields_of word)
fit_fields_of word h = search arith

-- What a form spreads over the fields is gathered again.
immediate_gathered : (immediate : ℤ) → IsIn 2048 immediate
    → immediate_in (immediate_form 0 0 0 0 immediate) ≡ immediate
immediate_gathered immediate h =
    let n = low_bits 2048 immediate in
    let same : n % 32 + 32 * (n / 32) ≡ n = omega arith in
    ap (signed 2048) same ∙ signed-low_bits 2048 immediate h

branch_bits : (n : ℕ) → n < 8192 → n % 2 ≡ 0
    → 2 * ((n / 2048 % 2 + 2 * (n / 2 % 16)) / 2) + 32 * ((n / 32 % 64 + 64 * (n / 4096)) % 64)
    + 2048 * ((n / 2048 % 2 + 2 * (n / 2 % 16)) % 2) + 4096 * ((n / 32 % 64 + 64 * (n / 4096)) / 64) ≡ n
branch_bits n h e = omega arith

branch_gathered : (offset : ℤ) → IsIn 4096 offset → IsEven offset
    → branch_offset_in (branch_form 0 0 0 offset) ≡ offset
branch_gathered offset h e =
    ap (signed 4096) (branch_bits (low_bits 4096 offset) (low_bits_below 4096 offset h)
    (low_bits_even 4096 offset h e)) ∙ signed-low_bits 4096 offset h

jump_bits : (n : ℕ) → n < 2097152 → n % 2 ≡ 0
    → 2 * ((n / 2048 % 2 + 2 * (n / 2 % 16)) / 2) + 32 * ((n / 32 % 64 + 64 * (n / 1048576)) % 64)
    + 2048 * ((n / 2048 % 2 + 2 * (n / 2 % 16)) % 2) + 4096 * (n / 4096 % 8) + 32768 * (n / 32768 % 32)
    + 1048576 * ((n / 32 % 64 + 64 * (n / 1048576)) / 64) ≡ n
jump_bits n h e = omega arith

jump_gathered : (rd : ℕ) (offset : ℤ) → IsIn 1048576 offset → IsEven offset
    → jump_offset_in (jump_form rd offset) ≡ offset
jump_gathered rd offset h e =
    ap (signed 1048576) (jump_bits (low_bits 1048576 offset) (low_bits_below 1048576 offset h)
    (low_bits_even 1048576 offset h e)) ∙ signed-low_bits 1048576 offset h

upper_gathered : (opcode rd upper : ℕ) → upper_in (upper_form opcode rd upper) ≡ upper
upper_gathered opcode rd upper = omega arith

amount_gathered : (funct3 kind rd rs1 amount : ℕ) → amount < 64
    → shift_amount_in (shift_form funct3 kind rd rs1 amount) ≡ amount
amount_gathered funct3 kind rd rs1 amount h = omega arith

kind_gathered : (amount kind : ℕ) → amount < 64 → (amount / 32 + 2 * kind) / 2 ≡ kind
kind_gathered amount kind h = omega arith

-- the same in an instruction; a store's offset is gathered as an immediate
immediate_back : (make : ℤ → Inst) (immediate : ℤ) → IsIn 2048 immediate
    → Some (make (immediate_in (immediate_form 0 0 0 0 immediate))) ≡ Some (make immediate)
immediate_back make immediate h = ap (λ z. Some (make z)) (immediate_gathered immediate h)

branch_back : (make : ℤ → Inst) (offset : ℤ) → IsIn 4096 offset → IsEven offset
    → Some (make (branch_offset_in (branch_form 0 0 0 offset))) ≡ Some (make offset)
branch_back make offset h e = ap (λ z. Some (make z)) (branch_gathered offset h e)

-- the last line is for instructions whose parts stand in fields of their own
pub inst_of-inst_fields : (i : Inst) → IsValid i → inst_of (inst_fields i) ≡ Some i
inst_of-inst_fields (Lui rd upper) v = ap (λ n. Some (Lui rd n)) (upper_gathered 0x37 rd upper)
inst_of-inst_fields (Auipc rd upper) v = ap (λ n. Some (Auipc rd n)) (upper_gathered 0x17 rd upper)
inst_of-inst_fields (Jal rd offset) v = ap (λ z. Some (Jal rd z)) (jump_gathered rd offset v.1 v.2)
inst_of-inst_fields (Jalr rd rs1 immediate) v = immediate_back (Jalr rd rs1) immediate v.2
inst_of-inst_fields (Beq rs1 rs2 offset) v = branch_back (Beq rs1 rs2) offset v.2 v.3
inst_of-inst_fields (Bne rs1 rs2 offset) v = branch_back (Bne rs1 rs2) offset v.2 v.3
inst_of-inst_fields (Blt rs1 rs2 offset) v = branch_back (Blt rs1 rs2) offset v.2 v.3
inst_of-inst_fields (Bge rs1 rs2 offset) v = branch_back (Bge rs1 rs2) offset v.2 v.3
inst_of-inst_fields (Bltu rs1 rs2 offset) v = branch_back (Bltu rs1 rs2) offset v.2 v.3
inst_of-inst_fields (Bgeu rs1 rs2 offset) v = branch_back (Bgeu rs1 rs2) offset v.2 v.3
inst_of-inst_fields (Lb rd rs1 immediate) v = immediate_back (Lb rd rs1) immediate v.2
inst_of-inst_fields (Lh rd rs1 immediate) v = immediate_back (Lh rd rs1) immediate v.2
inst_of-inst_fields (Lw rd rs1 immediate) v = immediate_back (Lw rd rs1) immediate v.2
inst_of-inst_fields (Ld rd rs1 immediate) v = immediate_back (Ld rd rs1) immediate v.2
inst_of-inst_fields (Lbu rd rs1 immediate) v = immediate_back (Lbu rd rs1) immediate v.2
inst_of-inst_fields (Lhu rd rs1 immediate) v = immediate_back (Lhu rd rs1) immediate v.2
inst_of-inst_fields (Lwu rd rs1 immediate) v = immediate_back (Lwu rd rs1) immediate v.2
inst_of-inst_fields (Sb rs2 rs1 offset) v = immediate_back (Sb rs2 rs1) offset v.2
inst_of-inst_fields (Sh rs2 rs1 offset) v = immediate_back (Sh rs2 rs1) offset v.2
inst_of-inst_fields (Sw rs2 rs1 offset) v = immediate_back (Sw rs2 rs1) offset v.2
inst_of-inst_fields (Sd rs2 rs1 offset) v = immediate_back (Sd rs2 rs1) offset v.2
inst_of-inst_fields (Addi rd rs1 immediate) v = immediate_back (Addi rd rs1) immediate v.2
inst_of-inst_fields (Slti rd rs1 immediate) v = immediate_back (Slti rd rs1) immediate v.2
inst_of-inst_fields (Sltiu rd rs1 immediate) v = immediate_back (Sltiu rd rs1) immediate v.2
inst_of-inst_fields (Xori rd rs1 immediate) v = immediate_back (Xori rd rs1) immediate v.2
inst_of-inst_fields (Ori rd rs1 immediate) v = immediate_back (Ori rd rs1) immediate v.2
inst_of-inst_fields (Andi rd rs1 immediate) v = immediate_back (Andi rd rs1) immediate v.2
inst_of-inst_fields (Slli rd rs1 amount) v = rw (kind_gathered amount 0 v.2, amount_gathered 1 0 rd rs1 amount v.2)
inst_of-inst_fields (Srli rd rs1 amount) v = rw (kind_gathered amount 0 v.2, amount_gathered 5 0 rd rs1 amount v.2)
inst_of-inst_fields (Srai rd rs1 amount) v =
    rw (kind_gathered amount 0x10 v.2, amount_gathered 5 0x10 rd rs1 amount v.2)
inst_of-inst_fields (Addiw rd rs1 immediate) v = immediate_back (Addiw rd rs1) immediate v.2
inst_of-inst_fields (Fence rd rs1 immediate) v = immediate_back (Fence rd rs1) immediate v.2
inst_of-inst_fields i v = refl

-- The table against both functions.
pub decoded_is_row : (word : ℕ) → word < 2 ^ 32 → (i : Inst) → decode_of word ≡ Some i → IsWordOf i word
unfolding decode_of
decoded_is_row word b i e =
    let row : IsWordOf i (word_of (fields_of word)) = (inst_of_row (fields_of word) (fit_fields_of word b)).row i e in
    let P : ℕ → Type 0 = λ w. IsWordOf i w in subst P (word_of-fields_of word b) row

pub row_is_decoded : (word : ℕ) → word < 2 ^ 32 → (i : Inst) → IsWordOf i word → decode_of word ≡ Some i
unfolding decode_of
row_is_decoded word b i h =
    let cut = row_cut word b i h in ap inst_of (sym cut.1) ∙ inst_of-inst_fields i cut.0

pub row_is_encoded : (word : ℕ) → word < 2 ^ 32 → (i : Inst) → IsWordOf i word → encode_of i ≡ word
unfolding encode_of
row_is_encoded word b i h = ap word_of (row_cut word b i h).1 ∙ word_of-fields_of word b

-- a word in the table tells an instruction whose parts are in their ranges
pub row_is_valid : (word : ℕ) → word < 2 ^ 32 → (i : Inst) → IsWordOf i word → IsValid i
row_is_valid word b i h = (row_cut word b i h).0

pub decoded_is_valid : (word : ℕ) → word < 2 ^ 32 → (i : Inst) → decode_of word ≡ Some i → IsValid i
decoded_is_valid word b i e = row_is_valid word b i (decoded_is_row word b i e)

pub encode_of-decode_of : (word : ℕ) → word < 2 ^ 32 → (i : Inst) → decode_of word ≡ Some i → encode_of i ≡ word
encode_of-decode_of word b i e = row_is_encoded word b i (decoded_is_row word b i e)

pub decode_of-encode_of : (i : Inst) → IsValid i → Fit (inst_fields i) → decode_of (encode_of i) ≡ Some i
unfolding decode_of encode_of
decode_of-encode_of i v fit = ap inst_of (fields_of-word_of (inst_fields i) fit) ∙ inst_of-inst_fields i v

-- a fact of the instruction that was decoded, if any
pub if_decoded : (word : ℕ) (P : Inst → Type 0) (decoded : Option Inst) → decoded ≡ decode_of word
    → ((i : Inst) → decode_of word ≡ Some i → P i) → IfSome decoded P
if_decoded word P None e p = tt
if_decoded word P (Some i) e p = p i (sym e)

pub fit_inst_fields : (f : Fields) (i : Inst) → Fit f → f ≡ inst_fields i → Fit (inst_fields i)
fit_inst_fields f i h e = let P : Fields → Type 0 = λ g. Fit g in subst P e h
