-- The branch of a condition.
use Rattle.std.specs.Prelude.{ℕ, ℤ}
use Rattle.rv_isa.specs.declared.inst.Inst.{Inst}
use Rattle.rv_isa.specs.declared.inst.Inst.TheVariants.{Beq, Bne, Blt, Bge, Bltu, Bgeu}
use Rattle.machine_words.specs.declared.conditions.Cond.{Cond}
use Rattle.machine_words.specs.declared.conditions.Cond.TheVariants.{Eq, Ne, Lt, Ge, Ltu, Geu}

abbrev pub branch_when : Cond → ℕ → ℕ → ℤ → Inst
branch_when Eq rs1 rs2 offset = Beq rs1 rs2 offset
branch_when Ne rs1 rs2 offset = Bne rs1 rs2 offset
branch_when Lt rs1 rs2 offset = Blt rs1 rs2 offset
branch_when Ge rs1 rs2 offset = Bge rs1 rs2 offset
branch_when Ltu rs1 rs2 offset = Bltu rs1 rs2 offset
branch_when Geu rs1 rs2 offset = Bgeu rs1 rs2 offset
