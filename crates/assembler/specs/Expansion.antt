-- The instructions of an item. Where there is more than one, they change x31 alone, and at the last the register that
-- the item sets.
use Rattle.std.specs.Prelude.{ℕ, suc, ◌-◌, ◌*◌, ◌/◌, ◌%◌, ◌^◌, nat_le, Bool, true, false, if◌then◌else◌, ℤ, pos, negsuc}
use Rattle.std.specs.Prelude.{List, [], ◌∷◌, ◌++◌}
use Rattle.rv_isa.specs.declared.inst.Inst.{Inst}
use Rattle.rv_isa.specs.declared.inst.Inst.TheVariants.{Lui, Jal, Jalr, Addi, Slli, Srli}
use Rattle.machine_words.specs.declared.conditions.Cond.{Cond}
use Rattle.machine_words.specs.declared.conditions.Cond.TheVariants.{Eq, Ne, Lt, Ge, Ltu, Geu}
use Rattle.rv_machine.specs.declared.real.RealItem.{RealItem}
use Rattle.rv_machine.specs.declared.real.RealItem.TheVariants.{Op, Mark, Jump, Branch, Address}
use Rattle.rv_machine.specs.Branches.{branch_when}
use Rattle.assembler.specs.Layout.{mark_place, is_near, longest_widths, address_of}

-- from one address to another
abbrev pub offset : ℕ → ℕ → ℤ
offset here target = if nat_le here target then pos (target - here) else negsuc (here - suc target)

-- the condition that holds exactly where this one doesn't
abbrev pub opposite : Cond → Cond
opposite Eq = Ne
opposite Ne = Eq
opposite Lt = Ge
opposite Ge = Lt
opposite Ltu = Geu
opposite Geu = Ltu

-- eleven bits of a word, those from place 11 * k on
abbrev pub chunk_of : ℕ → ℕ → ℕ
chunk_of word k = word / 2 ^ (11 * k) % 2048

-- any word is put into x31: its highest twenty bits, moved down by one, and four times eleven bits below
abbrev pub far_insts : ℕ → List Inst
far_insts word =
    Lui 31 (word / 2 ^ 44) ∷ Srli 31 31 1 ∷ Addi 31 31 (pos (chunk_of word 3)) ∷ Slli 31 31 11
    ∷ Addi 31 31 (pos (chunk_of word 2)) ∷ Slli 31 31 11 ∷ Addi 31 31 (pos (chunk_of word 1)) ∷ Slli 31 31 11
    ∷ Addi 31 31 (pos (chunk_of word 0)) ∷ []

-- an address below 2,147,483,648 that is even is put into a register: its low twelve bits in two halves
abbrev pub near_address_insts : ℕ → ℕ → List Inst
near_address_insts rd word =
    Lui 31 (word / 4096) ∷ Addi 31 31 (pos (word % 4096 / 2)) ∷ Addi rd 31 (pos (word % 4096 / 2)) ∷ []

-- told where the item lies and the address of the mark that it names, if it names one
abbrev pub near_item_insts : ℕ → ℕ → RealItem → List Inst
near_item_insts here target (Op i) = i ∷ []
near_item_insts here target (Mark mark) = []
near_item_insts here target (Jump rd mark) = Jal rd (offset here target) ∷ []
near_item_insts here target (Branch cond a b mark) = branch_when cond a b (offset here target) ∷ []
near_item_insts here target (Address rd mark) = near_address_insts rd target

-- a branch with the opposite condition passes over the eleven words of a far branch
abbrev pub far_item_insts : ℕ → RealItem → List Inst
far_item_insts target (Op i) = i ∷ []
far_item_insts target (Mark mark) = []
far_item_insts target (Jump rd mark) = far_insts target ++ Jalr rd 31 (pos 0) ∷ []
far_item_insts target (Branch cond a b mark) =
    branch_when (opposite cond) a b (pos 44) ∷ far_insts target ++ Jalr 0 31 (pos 0) ∷ []
far_item_insts target (Address rd mark) = far_insts target ++ Addi rd 31 (pos 0) ∷ []

abbrev pub insts_of : Bool → ℕ → ℕ → RealItem → List Inst
insts_of true here target item = near_item_insts here target item
insts_of false here target item = far_item_insts target item

-- the address that an item names
abbrev pub target_of : List RealItem → ℕ → RealItem → ℕ
target_of items start (Op i) = 0
target_of items start (Mark mark) = 0
target_of items start (Jump rd mark) = address_of items start (mark_place mark items)
target_of items start (Branch cond a b mark) = address_of items start (mark_place mark items)
target_of items start (Address rd mark) = address_of items start (mark_place mark items)

-- the instructions of the item at a place
abbrev pub item_insts : List RealItem → ℕ → ℕ → RealItem → List Inst
item_insts items start place item =
    insts_of (is_near (longest_widths items) items start place item) (address_of items start place)
    (target_of items start item) item

-- those of the items that are left, from a place on
abbrev pub insts_from : List RealItem → ℕ → ℕ → List RealItem → List Inst
insts_from items start place [] = []
insts_from items start place (item ∷ rest) =
    item_insts items start place item ++ insts_from items start (suc place) rest

-- the instructions of a code that begins at this address
abbrev pub code_insts : List RealItem → ℕ → List Inst
code_insts items start = insts_from items start 0 items
