-- A small code with places, by computation.
use Rattle.std.proofs.Common.{ℕ, ◌≡◌, List, [], ◌∷◌, refl}
use Rattle.std.specs.Prelude.{pos, ◌==◌, if◌then◌else◌}
use Rattle.rv_isa.specs.declared.inst.Inst.TheVariants.{Jalr, Ld, Sd, Addi, Add as AddInst, Sub as SubInst, Ecall}
use Rattle.rv_isa.specs.declared.inst.Inst.TheVariants.{Ebreak}
use Rattle.machine_words.specs.declared.conditions.Cond.TheVariants.{Ltu}
use Rattle.rv_machine.specs.declared.real.RealItem.TheVariants.{Op, Mark as RealMark, Branch as RealBranch}
use Rattle.low_ir.specs.declared.code.WordOp.TheVariants.{Add}
use Rattle.rv_select.specs.declared.code.VReg.TheVariants.{Real, Virtual}
use Rattle.rv_select.specs.declared.code.Place.{Place}
use Rattle.rv_select.specs.declared.code.Place.TheVariants.{InReg, Slot}
use Rattle.rv_select.specs.declared.code.VirtualItem.{VirtualItem}
use Rattle.rv_select.specs.declared.code.VirtualItem.TheVariants.{Move, Compute, Constant, Procedure, Return}
use Rattle.placed_code.specs.Rename.{renamed, densely, kept_in}
use Rattle.placed_code.specs.Applied.{applied}

-- three registers: the first is kept in x11, the others in slots 7 and 4,000,000,000
abbrev pub sample : List VirtualItem
sample =
    Procedure 0 0 3 ∷ Move (Virtual 0) (Real 10) ∷ Constant (Virtual 1) 5 ∷ Compute Add (Virtual 2) (Virtual 0)
    (Virtual 1)
    ∷ Move (Real 10) (Virtual 2) ∷ Return ∷ []

abbrev pub places : ℕ → Place
places v = if v == 0 then InReg 11 else (if v == 1 then Slot 4000000000 else Slot 7)

slots_stand_one_after_another : kept_in places 0 3 ≡ 4000000000 ∷ 7 ∷ []
slots_stand_one_after_another = refl

other_names : renamed (densely places) sample ≡ Procedure 0 0 2 ∷ Move (Real 11) (Real 10) ∷ Constant (Virtual 0) 5
    ∷ Compute Add (Virtual 1) (Real 11) (Virtual 0) ∷ Move (Real 10) (Virtual 1) ∷ Return ∷ []
other_names = refl

real_code : applied places sample ≡ RealMark 0 ∷ Op (Addi 28 0 (pos 24)) ∷ Op (SubInst 29 2 25)
    ∷ RealBranch Ltu 29 28 1 ∷ Op (SubInst 2 2 28) ∷ Op (Sd 1 2 (pos 0))
    ∷ Op (Addi 11 10 (pos 0))
    ∷ Op (Addi 28 0 (pos 5)) ∷ Op (Sd 28 2 (pos 8))
    ∷ Op (Ld 29 2 (pos 8)) ∷ Op (AddInst 28 11 29) ∷ Op (Sd 28 2 (pos 16))
    ∷ Op (Ld 10 2 (pos 16))
    ∷ Op (Ld 1 2 (pos 0)) ∷ Op (Addi 2 2 (pos 24)) ∷ Op (Jalr 0 1 (pos 0))
    ∷ RealMark 1 ∷ Op (Addi 17 0 (pos 6)) ∷ Op Ecall ∷ Op Ebreak ∷ []
real_code = refl
