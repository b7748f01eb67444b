-- How many real items an item becomes, and that with places it becomes no more than with a slot for each register.
use Rattle.std.specs.Prelude.{ℕ, ◌+◌, ◌%◌, ◌^◌, ◌==◌, ◌≡◌, nat_lt, if◌then◌else◌, true}
use Rattle.rv_select.specs.declared.convention.TheConstants.{ALLOCATION}
use Rattle.rv_select.specs.declared.code.VReg.{VReg}
use Rattle.rv_select.specs.declared.code.VReg.TheVariants.{Real, Virtual}
use Rattle.rv_select.specs.declared.code.VirtualItem.{VirtualItem}
use Rattle.rv_select.specs.declared.code.VirtualItem.TheVariants.{Constant, Move, Compute, ComputeWith, Load, Store}
use Rattle.rv_select.specs.declared.code.VirtualItem.TheVariants.{CodeOf, Mark, Procedure, Jump, Branch, Call, CallAt}
use Rattle.rv_select.specs.declared.code.VirtualItem.TheVariants.{TailCall, TailCallAt, Return, Environment}
use Rattle.rv_select.specs.Run.{Found, is_own}
use Rattle.rv_select.specs.Holding.{reads, writes, Among}
use Rattle.rv_select.specs.Stacks.{frame_size}
use Rattle.placed_code.specs.Slots.{is_half, slot_offset}

-- the instructions that put a word into a register
abbrev pub word_price : ℕ → ℕ
word_price word = if nat_lt word 2048 then 1 else (if is_half word then 2 else 11)

-- those that reach the slot at an offset
abbrev pub reach : ℕ → ℕ
reach offset = if nat_lt offset 2048 then 1 else word_price offset + 2

-- those that reach a register
abbrev pub register_price : ℕ → VReg → ℕ
register_price first (Real r) = 0
register_price first (Virtual v) = reach (slot_offset first v)

abbrev pub constant_price : ℕ → VReg → ℕ → ℕ
constant_price first (Real r) word = if r == ALLOCATION then word_price word + 1 else word_price word
constant_price first (Virtual v) word = word_price word + reach (slot_offset first v)

abbrev pub move_price : ℕ → VReg → VReg → ℕ
move_price first (Real r) (Real a) = if r == a then 0 else 1
move_price first (Real r) (Virtual v) =
    if r == ALLOCATION then reach (slot_offset first v) + 1 else reach (slot_offset first v)
move_price first (Virtual v) (Real a) = reach (slot_offset first v)
move_price first (Virtual v) (Virtual u) = reach (slot_offset first u) + reach (slot_offset first v)

-- those that raise x2 by so many bytes
abbrev pub raise_price : ℕ → ℕ
raise_price size = if nat_lt size 2048 then 1 else word_price size + 1

-- those that load the link and give up a frame
abbrev pub leave_price : ℕ → ℕ
leave_price count = 1 + raise_price (frame_size count)

-- the real items of an item, a mark among them; a jump, a branch or an address is one item here
abbrev pub price : ℕ → ℕ → VirtualItem → ℕ
price first count (Constant rd word) = constant_price first rd (word % 2 ^ 64)
price first count (Move rd a) = move_price first rd a
price first count (Compute op rd a b) =
    register_price first a + (register_price first b + (1 + register_price first rd))
price first count (ComputeWith op rd a n) = register_price first a + (1 + register_price first rd)
price first count (Load rd a offset) = register_price first a + (1 + register_price first rd)
price first count (Store b a offset) = register_price first a + (register_price first b + 1)
price first count (CodeOf rd k) = 1 + register_price first rd
price first count (Mark mark) = 1
price first count (Procedure k first' count') = 1 + (word_price (frame_size count') + 4)
price first count (Jump mark) = 1
price first count (Branch cond a b mark) = register_price first a + (register_price first b + 1)
price first count (Call k n) = 1
price first count (CallAt f n) = register_price first f + 1
price first count (TailCall k n) = leave_price count + 1
price first count (TailCallAt f n) = register_price first f + (leave_price count + 1)
price first count Return = leave_price count + 1
price first count Environment = 1

-- the virtual registers that an item names are those of a procedure
abbrev pub OwnsNamed : Found → VirtualItem → Type 0
OwnsNamed f item =
    ((v : ℕ) → Among (Virtual v) (writes item) → is_own f v ≡ true)
    × ((v : ℕ) → Among (Virtual v) (reads item) → is_own f v ≡ true)
