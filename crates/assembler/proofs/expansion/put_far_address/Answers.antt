use Rattle.std.proofs.Common.{◌∷◌, [], pos, refl}
use Rattle.rv_isa.specs.declared.inst.Inst.TheVariants.{Addi}
use Rattle.assembler.specs.Expansion.{far_insts}
use Rattle.assembler.proofs.Insts.{ok_more, put_two, decode_two}
use Rattle.assembler.proofs.expansion.put_far_address.Goals as goal

pub returns-clause-words : goal.returns-clause-words
returns-clause-words c =
    ok_more c.put_one.result
    (put_two (far_insts c.args.target) (Addi c.args.rd 31 (pos 0) ∷ []) (far_insts c.args.target)
    (Addi c.args.rd c.scratch.result c.new.result ∷ []) c.args.words.now c.put_scratch.new.words c.put_one.new.words
    refl (rw (c.scratch.ensures, c.new.ensures) refl) c.in_ok-put_scratch.ensures.words)
    c.put_one.ensures.words

pub returns-clause-decode : goal.returns-clause-decode
returns-clause-decode c =
    ok_more c.put_one.result
    (decode_two (far_insts c.args.target) (Addi c.args.rd 31 (pos 0) ∷ []) (far_insts c.args.target)
    (Addi c.args.rd c.scratch.result c.new.result ∷ []) refl (rw (c.scratch.ensures, c.new.ensures) refl)
    c.in_ok-put_scratch.ensures.decode)
    c.put_one.ensures.decode
