-- The real code of a virtual one, with each virtual register in a slot of its procedure's frame: at x2 stands the link,
-- and above it the slots.
use Rattle.std.specs.Prelude.{ℕ, zero, suc, ◌+◌, ◌-◌, ◌*◌, ◌/◌, ◌%◌, ◌^◌, pos, negsuc, ℤ, nat_lt, nat_le, ◌||◌, ◌==◌}
use Rattle.std.specs.Prelude.{Bool}
use Rattle.std.specs.Prelude.{if◌then◌else◌, List, [], ◌∷◌}
use Rattle.std.specs.Prelude.{◌++◌}
use Rattle.grift_base.specs.declared.environment.TheConstants.{STACK_OUT_CALL}
use Rattle.rv_isa.specs.declared.inst.Inst.{Inst}
use Rattle.rv_isa.specs.declared.inst.Inst.TheVariants.{Jalr, Ld, Sd, Addi, Slti, Sltiu, Xori, Ori, Andi, Slli, Srli}
use Rattle.rv_isa.specs.declared.inst.Inst.TheVariants.{Srai, Add as AddInst, Sub as SubInst, Sll as SllInst}
use Rattle.rv_isa.specs.declared.inst.Inst.TheVariants.{Slt as SltInst, Sltu as SltuInst, Xor as XorInst}
use Rattle.rv_isa.specs.declared.inst.Inst.TheVariants.{Srl as SrlInst, Sra as SraInst, Or as OrInst, And as AndInst}
use Rattle.rv_isa.specs.declared.inst.Inst.TheVariants.{Ecall, Ebreak, Lui, Addiw}
use Rattle.machine_words.specs.declared.conditions.Cond.TheVariants.{Ltu}
use Rattle.rv_machine.specs.declared.real.RealItem.{RealItem}
use Rattle.rv_machine.specs.declared.real.RealItem.TheVariants.{Op, Mark as RealMark, Jump as RealJump}
use Rattle.rv_machine.specs.declared.real.RealItem.TheVariants.{Branch as RealBranch, Address}
use Rattle.low_ir.specs.declared.code.WordOp.{WordOp}
use Rattle.low_ir.specs.declared.code.WordOp.TheVariants.{Add, Sub, And, Or, Xor, Sll, Srl, Sra, Slt, Sltu}
use Rattle.rv_select.specs.Stacks.{frame_size}
use Rattle.rv_select.specs.declared.convention.TheConstants.{FIRST_SPILL, SECOND_SPILL}
use Rattle.rv_select.specs.declared.convention.TheConstants.{ZERO, LINK, STACK_POINTER, CALL_NUMBER, STACK_END}
use Rattle.rv_select.specs.declared.convention.TheConstants.{ALLOCATION}
use Rattle.rv_select.specs.declared.code.VReg.{VReg}
use Rattle.rv_select.specs.declared.code.VReg.TheVariants.{Real, Virtual}
use Rattle.rv_select.specs.declared.code.VirtualItem.{VirtualItem}
use Rattle.rv_select.specs.declared.code.VirtualItem.TheVariants.{Constant, Move, Compute, ComputeWith, Load, Store}
use Rattle.rv_select.specs.declared.code.VirtualItem.TheVariants.{CodeOf, Mark, Procedure, Jump, Branch, Call, CallAt}
use Rattle.rv_select.specs.declared.code.VirtualItem.TheVariants.{TailCall, TailCallAt, Return, Environment}

-- the instruction of an operation
abbrev pub op_inst : WordOp → ℕ → ℕ → ℕ → Inst
op_inst Add = AddInst
op_inst Sub = SubInst
op_inst And = AndInst
op_inst Or = OrInst
op_inst Xor = XorInst
op_inst Sll = SllInst
op_inst Srl = SrlInst
op_inst Sra = SraInst
op_inst Slt = SltInst
op_inst Sltu = SltuInst

-- the negative of a number
abbrev pub negated : ℕ → ℤ
negated zero = pos 0
negated (suc n) = negsuc n

-- that with a small number; a difference with one is a sum with its negative
abbrev pub op_with : WordOp → ℕ → ℕ → ℕ → Inst
op_with Add rd a n = Addi rd a (pos n)
op_with Sub rd a n = Addi rd a (negated n)
op_with And rd a n = Andi rd a (pos n)
op_with Or rd a n = Ori rd a (pos n)
op_with Xor rd a n = Xori rd a (pos n)
op_with Sll rd a n = Slli rd a n
op_with Srl rd a n = Srli rd a n
op_with Sra rd a n = Srai rd a n
op_with Slt rd a n = Slti rd a (pos n)
op_with Sltu rd a n = Sltiu rd a (pos n)

-- where the slot of a register lies above x2, told the first register of the procedure
abbrev pub slot_offset : ℕ → ℕ → ℕ
slot_offset first v = 8 * (1 + (v - first))

-- the real register in which a word is found, or put, while an item is done
abbrev pub register_for : ℕ → VReg → ℕ
register_for scratch (Real r) = r
register_for scratch (Virtual v) = scratch

-- eleven bits of a word, those from place 11 * k on
abbrev pub chunk_of : ℕ → ℕ → ℕ
chunk_of word k = word / 2 ^ (11 * k) % 2048

-- what is in a register is moved up, and the chunks below a place are added, the highest first
abbrev pub chunk_items : ℕ → ℕ → ℕ → List RealItem
chunk_items rd word zero = []
chunk_items rd word (suc k) = Op (Slli rd rd 11) ∷ Op (Addi rd rd (pos (chunk_of word k))) ∷ chunk_items rd word k

-- whether a word is a number from -2^31 to 2^31 - 1
abbrev pub is_half : ℕ → Bool
is_half word = nat_lt word (2 ^ 31) || nat_le (2 ^ 64 - 2 ^ 31) word

-- its upper twenty bits, if the lower twelve are added as a signed number
abbrev pub upper_of : ℕ → ℕ
upper_of word = (word + 2048) / 4096 % 2 ^ 20

abbrev pub lower_of : ℕ → ℤ
lower_of word = if nat_lt (word % 4096) 2048 then pos (word % 4096) else negsuc (4095 - word % 4096)

-- a word that isn't below 2048 is put into a register
abbrev pub long_items : ℕ → ℕ → List RealItem
long_items rd word =
    if is_half word then Op (Lui rd (upper_of word)) ∷ Op (Addiw rd rd (lower_of word)) ∷ []
    else Op (Addi rd ZERO (pos (chunk_of word 5))) ∷ chunk_items rd word 5

-- a word is put into a register
abbrev pub word_items : ℕ → ℕ → List RealItem
word_items rd word = if nat_lt word 2048 then Op (Addi rd ZERO (pos word)) ∷ [] else long_items rd word

-- a register is loaded from the slot at an offset
abbrev pub slot_fetch : ℕ → ℕ → List RealItem
slot_fetch rd offset =
    if nat_lt offset 2048 then Op (Ld rd STACK_POINTER (pos offset)) ∷ []
    else word_items rd offset ++ (Op (AddInst rd rd STACK_POINTER) ∷ Op (Ld rd rd (pos 0)) ∷ [])

-- a register is stored in the slot at an offset; a large one goes through x29
abbrev pub slot_save_of : ℕ → ℕ → List RealItem
slot_save_of r offset =
    if nat_lt offset 2048 then Op (Sd r STACK_POINTER (pos offset)) ∷ []
    else word_items SECOND_SPILL offset
    ++ (Op (AddInst SECOND_SPILL SECOND_SPILL STACK_POINTER) ∷ Op (Sd r SECOND_SPILL (pos 0)) ∷ [])

-- x28 is stored there
abbrev pub slot_save : ℕ → List RealItem
slot_save offset = slot_save_of FIRST_SPILL offset

-- a virtual register is loaded into a real one
abbrev pub fetch_items : ℕ → ℕ → VReg → List RealItem
fetch_items first scratch (Real r) = []
fetch_items first scratch (Virtual v) = slot_fetch scratch (slot_offset first v)

-- a virtual register that was put into x28 is stored
abbrev pub save_items : ℕ → VReg → List RealItem
save_items first (Real r) = []
save_items first (Virtual v) = slot_save (slot_offset first v)

-- a number is put where it belongs; the allocation word never has a part of one
abbrev pub constant_items : ℕ → VReg → ℕ → List RealItem
constant_items first (Real r) word =
    if r == ALLOCATION then word_items FIRST_SPILL word ++ (Op (Addi r FIRST_SPILL (pos 0)) ∷ []) else word_items r word
constant_items first (Virtual v) word = word_items FIRST_SPILL word ++ slot_save (slot_offset first v)

-- a word is moved, through x28 only from slot to slot and to the allocation word; where it is there already nothing is
-- done
abbrev pub move_items : ℕ → VReg → VReg → List RealItem
move_items first (Real r) (Real a) = if r == a then [] else Op (Addi r a (pos 0)) ∷ []
move_items first (Real r) (Virtual v) =
    if r == ALLOCATION then slot_fetch FIRST_SPILL (slot_offset first v) ++ (Op (Addi r FIRST_SPILL (pos 0)) ∷ [])
    else slot_fetch r (slot_offset first v)
move_items first (Virtual v) (Real a) = slot_save_of a (slot_offset first v)
move_items first (Virtual v) (Virtual u) =
    slot_fetch FIRST_SPILL (slot_offset first u) ++ slot_save (slot_offset first v)

-- a frame is made where it fits above x25, told the mark behind which the stack has no room; the link goes into it
abbrev pub enter_items : ℕ → ℕ → List RealItem
enter_items out count =
    word_items FIRST_SPILL (frame_size count)
    ++ (Op (SubInst SECOND_SPILL STACK_POINTER STACK_END) ∷ RealBranch Ltu SECOND_SPILL FIRST_SPILL out
    ∷ Op (SubInst STACK_POINTER STACK_POINTER FIRST_SPILL) ∷ Op (Sd LINK STACK_POINTER (pos 0)) ∷ [])

-- x2 is raised by so many bytes
abbrev pub raise_items : ℕ → List RealItem
raise_items size =
    if nat_lt size 2048 then Op (Addi STACK_POINTER STACK_POINTER (pos size)) ∷ []
    else word_items FIRST_SPILL size ++ (Op (AddInst STACK_POINTER STACK_POINTER FIRST_SPILL) ∷ [])

-- the link is loaded, and the frame is given up
abbrev pub leave_items : ℕ → List RealItem
leave_items count = Op (Ld LINK STACK_POINTER (pos 0)) ∷ raise_items (frame_size count)

-- what an item becomes, told the mark behind which the stack has no room, and the first register of the procedure and
-- how many it has
abbrev pub expand : ℕ → ℕ → ℕ → VirtualItem → List RealItem
expand out first count (Constant rd word) = constant_items first rd (word % 2 ^ 64)
expand out first count (Move rd a) = move_items first rd a
expand out first count (Compute op rd a b) =
    fetch_items first FIRST_SPILL a ++ (fetch_items first SECOND_SPILL b
    ++ (Op (op_inst op (register_for FIRST_SPILL rd) (register_for FIRST_SPILL a) (register_for SECOND_SPILL b))
    ∷ save_items first rd))
expand out first count (ComputeWith op rd a n) =
    fetch_items first FIRST_SPILL a
    ++ (Op (op_with op (register_for FIRST_SPILL rd) (register_for FIRST_SPILL a) n) ∷ save_items first rd)
expand out first count (Load rd a offset) =
    fetch_items first FIRST_SPILL a
    ++ (Op (Ld (register_for FIRST_SPILL rd) (register_for FIRST_SPILL a) (pos offset)) ∷ save_items first rd)
expand out first count (Store b a offset) =
    fetch_items first FIRST_SPILL a ++ (fetch_items first SECOND_SPILL b
    ++ (Op (Sd (register_for SECOND_SPILL b) (register_for FIRST_SPILL a) (pos offset)) ∷ []))
expand out first count (CodeOf rd k) = Address (register_for FIRST_SPILL rd) k ∷ save_items first rd
expand out first count (Mark mark) = RealMark mark ∷ []
expand out first count (Procedure k first' count') = RealMark k ∷ enter_items out count'
expand out first count (Jump mark) = RealJump ZERO mark ∷ []
expand out first count (Branch cond a b mark) =
    fetch_items first FIRST_SPILL a ++ (fetch_items first SECOND_SPILL b
    ++ (RealBranch cond (register_for FIRST_SPILL a) (register_for SECOND_SPILL b) mark ∷ []))
expand out first count (Call k n) = RealJump LINK k ∷ []
expand out first count (CallAt f n) =
    fetch_items first FIRST_SPILL f ++ (Op (Jalr LINK (register_for FIRST_SPILL f) (pos 0)) ∷ [])
expand out first count (TailCall k n) = leave_items count ++ (RealJump ZERO k ∷ [])
expand out first count (TailCallAt f n) =
    fetch_items first SECOND_SPILL f
    ++ (leave_items count ++ (Op (Jalr ZERO (register_for SECOND_SPILL f) (pos 0)) ∷ []))
expand out first count Return = leave_items count ++ (Op (Jalr ZERO LINK (pos 0)) ∷ [])
expand out first count Environment = Op Ecall ∷ []

-- items one after another; behind the mark of a procedure its own registers count
abbrev pub expand_all : ℕ → ℕ → ℕ → List VirtualItem → List RealItem
expand_all out first count [] = []
expand_all out first count (Procedure k first' count' ∷ rest) =
    expand out first count (Procedure k first' count') ++ expand_all out first' count' rest
expand_all out first count (item ∷ rest) = expand out first count item ++ expand_all out first count rest

-- where the stack has no room; each item before has one behind it so
abbrev pub final_items : ℕ → List RealItem
final_items out = RealMark out ∷ Op (Addi CALL_NUMBER ZERO (pos STACK_OUT_CALL)) ∷ Op Ecall ∷ Op Ebreak ∷ []

-- told a mark that no item names
abbrev pub slots_items : ℕ → List VirtualItem → List RealItem
slots_items out items = expand_all out 0 0 items ++ final_items out
