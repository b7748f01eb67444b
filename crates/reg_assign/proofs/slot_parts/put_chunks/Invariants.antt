use Rattle.std.proofs.Common.{◌≡◌, ◌≤◌, ◌++◌, ◌∷◌, pos}
use Rattle.rv_isa.specs.declared.inst.Inst.TheVariants.{Addi}
use Rattle.rv_machine.specs.declared.real.RealItem.TheVariants.{Op}
use Rattle.placed_code.specs.Slots.{chunk_of, chunk_items}
use Rattle.reg_assign.proofs.slot_parts.put_chunks.Given as goal

-- what is done, and the chunks that are left, are all
abbrev pub invariant-loop-k : goal.invariant-loop-k
invariant-loop-k l =
    (l.k ≤ 5)
    × (l.items ++ chunk_items l.rd l.word l.k
    ≡ l.fn.items ++ (Op (Addi l.rd 0 (pos (chunk_of l.word 5))) ∷ chunk_items l.rd l.word 5))

abbrev pub decreases-loop-k : goal.decreases-loop-k
decreases-loop-k l = l.k
