-- What holds of each way in which an instruction goes on holds of what every instruction does.
use Rattle.std.proofs.Common.{ℕ, Bool, true, false}
use Rattle.std.specs.Prelude.{ℤ}
use Rattle.std.specs.Int.{Width, w8, w16, w32, w64}
use Rattle.rv_isa.specs.declared.inst.Inst.{Inst}
use Rattle.rv_isa.specs.declared.inst.Inst.TheVariants.{Jal, Jalr, Beq, Bne, Blt, Bge, Bltu, Bgeu, Lb, Lh, Lw, Ld, Lbu}
use Rattle.rv_isa.specs.declared.inst.Inst.TheVariants.{Lhu, Lwu, Sb, Sh, Sw, Sd, Ecall, Ebreak}
use Rattle.rv_machine.specs.Registers.{Registers}
use Rattle.machine_words.specs.Arithmetic.{plus}
use Rattle.rv_machine.specs.State.{State, Turn, Next, reg}
use Rattle.rv_machine.specs.Turn.{act_with, next_pc, load_into, store_from, branch_if, jump_and_link}

pub record EachWay (ecall ebreak : State → Turn) (s : State) (P : Turn → Type 0) : Type 0 where
  pub puts : (regs : Registers) → P (Next (record s { regs = regs; pc = next_pc s }))
  pub jumps : (rd target : ℕ) → P (jump_and_link rd target s)
  pub branches : (taken : Bool) (imm : ℤ) → P (branch_if taken imm s)
  pub loads : (signed : Bool) (w : Width) (rd at : ℕ) → P (load_into signed w rd at s)
  pub stores : (w : Width) (word at : ℕ) → P (store_from w word at s)
  pub calls : P (ecall s)
  pub breaks : P (ebreak s)

pub each_act : (ecall ebreak : State → Turn) (s : State) (P : Turn → Type 0) → EachWay ecall ebreak s P → (i : Inst)
    → P (act_with ecall ebreak i s)
each_act ecall ebreak s P way (Jal rd imm) = way.jumps rd _
each_act ecall ebreak s P way (Jalr rd a imm) = way.jumps rd _
each_act ecall ebreak s P way (Beq a b imm) = way.branches _ imm
each_act ecall ebreak s P way (Bne a b imm) = way.branches _ imm
each_act ecall ebreak s P way (Blt a b imm) = way.branches _ imm
each_act ecall ebreak s P way (Bge a b imm) = way.branches _ imm
each_act ecall ebreak s P way (Bltu a b imm) = way.branches _ imm
each_act ecall ebreak s P way (Bgeu a b imm) = way.branches _ imm
each_act ecall ebreak s P way (Lb rd a imm) = way.loads true w8 rd (plus (reg s a) imm)
each_act ecall ebreak s P way (Lh rd a imm) = way.loads true w16 rd (plus (reg s a) imm)
each_act ecall ebreak s P way (Lw rd a imm) = way.loads true w32 rd (plus (reg s a) imm)
each_act ecall ebreak s P way (Ld rd a imm) = way.loads false w64 rd (plus (reg s a) imm)
each_act ecall ebreak s P way (Lbu rd a imm) = way.loads false w8 rd (plus (reg s a) imm)
each_act ecall ebreak s P way (Lhu rd a imm) = way.loads false w16 rd (plus (reg s a) imm)
each_act ecall ebreak s P way (Lwu rd a imm) = way.loads false w32 rd (plus (reg s a) imm)
each_act ecall ebreak s P way (Sb b a imm) = way.stores w8 (reg s b) (plus (reg s a) imm)
each_act ecall ebreak s P way (Sh b a imm) = way.stores w16 (reg s b) (plus (reg s a) imm)
each_act ecall ebreak s P way (Sw b a imm) = way.stores w32 (reg s b) (plus (reg s a) imm)
each_act ecall ebreak s P way (Sd b a imm) = way.stores w64 (reg s b) (plus (reg s a) imm)
each_act ecall ebreak s P way Ecall = way.calls
each_act ecall ebreak s P way Ebreak = way.breaks
each_act ecall ebreak s P way i = way.puts _
