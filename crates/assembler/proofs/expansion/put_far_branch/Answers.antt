use Rattle.std.proofs.Common.{◌∷◌, ◌++◌, [], ◌≡◌, pos, refl, ap}
use Rattle.rv_isa.specs.declared.inst.Inst.TheVariants.{Jalr}
use Rattle.rv_machine.specs.Branches.{branch_when}
use Rattle.assembler.specs.Expansion.{far_insts, opposite}
use Rattle.assembler.proofs.Insts.{ok_more, put_two, decode_two}
use Rattle.assembler.proofs.expansion.put_far_branch.Goals as goal

pub returns-clause-words : goal.returns-clause-words
returns-clause-words c =
    let zero : c.new-2.result ≡ 0 = cc in
    ok_more c.put_far_jump.result
    (put_two (branch_when (opposite c.args.cond) c.args.operands.0 c.args.operands.1 (pos 44) ∷ [])
    (far_insts c.args.target ++ Jalr 0 31 (pos 0) ∷ []) (c.branch-opposite.result ∷ [])
    (far_insts c.args.target ++ Jalr c.new-2.result 31 (pos 0) ∷ []) c.args.words.now c.put_one.new.words
    c.put_far_jump.new.words (rw (c.branch-opposite.ensures, c.opposite.ensures, c.new.ensures) refl)
    (ap (λ rd. far_insts c.args.target ++ Jalr rd 31 (pos 0) ∷ []) zero) c.in_ok-put_one.ensures.words)
    c.put_far_jump.ensures.words

pub returns-clause-decode : goal.returns-clause-decode
returns-clause-decode c =
    let zero : c.new-2.result ≡ 0 = cc in
    ok_more c.put_far_jump.result
    (decode_two (branch_when (opposite c.args.cond) c.args.operands.0 c.args.operands.1 (pos 44) ∷ [])
    (far_insts c.args.target ++ Jalr 0 31 (pos 0) ∷ []) (c.branch-opposite.result ∷ [])
    (far_insts c.args.target ++ Jalr c.new-2.result 31 (pos 0) ∷ [])
    (rw (c.branch-opposite.ensures, c.opposite.ensures, c.new.ensures) refl)
    (ap (λ rd. far_insts c.args.target ++ Jalr rd 31 (pos 0) ∷ []) zero) c.in_ok-put_one.ensures.decode)
    c.put_far_jump.ensures.decode
