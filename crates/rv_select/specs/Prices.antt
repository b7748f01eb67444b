-- Prices of items: how many instructions an item costs at most, wherever the code lies, with a slot for each virtual
-- register. Each jump, branch and address is counted in its longest form, and what a call enters is paid with the call.
use Rattle.std.specs.Prelude.{ℕ, ◌+◌, ◌-◌, ◌%◌, ◌^◌, nat_lt, if◌then◌else◌, Option, Some, None, slice_get}
use Rattle.low_ir.specs.Prices.{slot_price, entering}
use Rattle.rv_select.specs.declared.code.VReg.{VReg}
use Rattle.rv_select.specs.declared.code.VReg.TheVariants.{Real, Virtual}
use Rattle.rv_select.specs.declared.code.VirtualItem.{VirtualItem}
use Rattle.rv_select.specs.declared.code.VirtualItem.TheVariants.{Constant, Move, Compute, ComputeWith, Load, Store}
use Rattle.rv_select.specs.declared.code.VirtualItem.TheVariants.{CodeOf, Mark, Procedure, Jump, Branch, Call, CallAt}
use Rattle.rv_select.specs.declared.code.VirtualItem.TheVariants.{TailCall, TailCallAt, Return, Environment}
use Rattle.rv_select.specs.Run.{Setting, Found, VirtualState, procedure_from}

-- a register is reached, told the first virtual register of the procedure
abbrev pub register_price : ℕ → VReg → ℕ
register_price first (Real r) = 0
register_price first (Virtual v) = slot_price (v - first)

-- a number is put into a register
abbrev pub number_price : ℕ → ℕ
number_price word = if nat_lt word 2048 then 1 else 11

-- a frame is given up, and its link loaded
abbrev pub giving_up : ℕ → ℕ
giving_up count = if nat_lt count 255 then 2 else 13

-- what is entered; what a code address leads to is taken for the dearest
abbrev pub entering_found : Option Found → ℕ
entering_found None = 25
entering_found (Some found) = entering found.count

-- what the end of a run costs beyond its last step: the items behind the program's answer, or those of a request that
-- finds no room
abbrev pub end_price : ℕ
end_price = 6

-- what a run costs beyond its steps: the call of the first procedure with its entry, and the end
abbrev pub start_price : ℕ
start_price = 10 + 25 + end_price

module _ (setting : Setting) where
  -- an item of a procedure
  abbrev pub item_price : Found → VirtualItem → ℕ
  item_price f (Constant rd word) = number_price (word % 2 ^ 64) + 1 + register_price f.first rd
  item_price f (Move rd a) = register_price f.first a + 1 + register_price f.first rd
  item_price f (Compute op rd a b) =
      register_price f.first a + register_price f.first b + 1 + register_price f.first rd
  item_price f (ComputeWith op rd a n) = register_price f.first a + 1 + register_price f.first rd
  item_price f (Load rd a offset) = register_price f.first a + 1 + register_price f.first rd
  item_price f (Store b a offset) = register_price f.first a + register_price f.first b + 1
  item_price f (CodeOf rd k) = 10 + register_price f.first rd
  item_price f (Mark mark) = 0
  item_price f (Procedure k first count) = 0
  item_price f (Jump mark) = 10
  item_price f (Branch cond a b mark) = register_price f.first a + register_price f.first b + 11
  item_price f (Call k n) = 10 + entering_found (procedure_from k 0 setting.items)
  item_price f (CallAt g n) = register_price f.first g + 1 + 25
  item_price f (TailCall k n) = giving_up f.count + 10 + entering_found (procedure_from k 0 setting.items)
  item_price f (TailCallAt g n) = register_price f.first g + giving_up f.count + 1 + 25
  item_price f Return = giving_up f.count + 1
  item_price f Environment = 1

  abbrev pub some_price : Found → Option VirtualItem → ℕ
  some_price f None = 0
  some_price f (Some item) = item_price f item

  -- the price of a state's next item
  abbrev pub virtual_price : VirtualState → ℕ
  virtual_price t = some_price t.active.found (slice_get setting.items t.pc)
