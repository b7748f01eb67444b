-- Prices of items: how many instructions each is done in at most, wherever code lies.
use Rattle.std.specs.Prelude.{ℕ, false, List, Option, Some, None}
use Rattle.rv_machine.specs.declared.real.RealItem.{RealItem}
use Rattle.rv_machine.specs.State.{State}
use Rattle.rv_machine.specs.Real.{Setting, Here, item_at}
use Rattle.assembler.specs.Layout.{width}

-- an item in its longest form: an instruction is one, a mark none, a jump or an address 10 and a branch 11
abbrev pub real_price : RealItem → ℕ
real_price item = width false item

abbrev pub price_here : Option Here → ℕ
price_here None = 0
price_here (Some here) = real_price here.item

-- the item at a state's pc; where there is none, the run is lost
abbrev pub state_price : List RealItem → Setting → State → ℕ
state_price items setting s = price_here (item_at setting.address items s.pc)
