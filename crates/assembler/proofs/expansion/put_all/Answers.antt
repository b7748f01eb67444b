use Rattle.std.proofs.Common.{arith}
use Rattle.std.proofs.lemmas.List.{get_or_read}
use Rattle.rv_isa.specs.declared.inst.Inst.TheVariants.{Ecall}
use Rattle.assembler.proofs.Insts.{put_more, decode_more}
use Rattle.assembler.proofs.expansion.put_all.Goals as goal

pub loop-i-preserved : goal.loop-i-preserved
loop-i-preserved c =
    let item = get_or_read c.args.insts.now c.loop-i.i-index c.i-item.result (omega arith) c.i-item.is Ecall in (
      put_more c.args.insts.now c.loop-i.i-index c.i-item.result c.args.words.now c.loop-i.words c.push.new.self
          c.encode.result (omega arith) item c.loop-i.invariant.0 c.in_ok-push.ensures.ok c.encode.ensures.value,
      decode_more c.args.insts.now c.loop-i.i-index c.i-item.result c.encode.result
          (omega arith) item c.loop-i.invariant.1 c.encode.ensures.value c.encode.ensures.back (omega arith),
    )
