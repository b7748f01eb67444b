-- The state of the machine, whatever keeps its memory.
use Rattle.std.specs.Prelude.{ℕ, List}
use Rattle.grift_base.specs.World.{WorldState}
use Rattle.grift_base.specs.declared.places.Pos.{Pos}
use Rattle.machine_words.specs.Halts.{Halt}
use Rattle.machine_words.specs.Memory.{Memory}
use Rattle.rv_machine.specs.Registers.{Registers, get_reg}

-- what an image fixes: the first address of code, that of the region, where code ends, the end of the stack and of
-- memory, and the labels
pub record Layout : Type 0 where
  pub code : ℕ
  pub region : ℕ
  pub end : ℕ
  pub labels : List Pos

pub record State : Type 0 where
  pub layout : Layout
  pub pc : ℕ
  pub regs : Registers
  pub memory : Memory
  pub world : WorldState

-- what a register reads as
abbrev pub reg : State → ℕ → ℕ
reg s r = get_reg s.regs r

-- a turn gives the next state, or stops and changes nothing
pub data Turn : Type 0 where
  Next : State → Turn
  Stops : Halt → Turn
