-- The registers, as the number that each holds. Register 0 reads as 0, and what is written to it is lost.
use Rattle.std.specs.Prelude.{ℕ, ◌==◌, ◌&&◌, not, if◌then◌else◌}

abbrev pub Registers : Type 0
Registers = ℕ → ℕ

abbrev pub get_reg : Registers → ℕ → ℕ
get_reg regs r = if r == 0 then 0 else regs r

abbrev pub set_reg : ℕ → ℕ → Registers → Registers
set_reg r word regs i = if (i == r) && not (r == 0) then word else regs i

abbrev pub zero_regs : Registers
zero_regs r = 0
