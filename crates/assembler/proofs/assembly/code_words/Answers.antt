use Rattle.std.proofs.Common.{arith}
use Rattle.assembler.proofs.Insts.{words_upto, decode_upto}
use Rattle.assembler.proofs.assembly.code_words.Goals as goal

pub loop-place-preserved : goal.loop-place-preserved
loop-place-preserved c = (
  words_upto c.args.items.now c.args.start c.in_ok-layout.layout.reach.start c.loop-place.place
      c.index-items-place.result c.loop-place.words c.put_at.new.words c.in_ok-layout.ensures.start
      (omega arith) c.index-items-place.is c.loop-place.invariant.0 c.in_ok-put_at.ensures.words,
  decode_upto c.args.items.now c.args.start c.in_ok-layout.layout.reach.start c.loop-place.place
      c.index-items-place.result c.in_ok-layout.ensures.start
      (omega arith) c.index-items-place.is c.loop-place.invariant.1 c.in_ok-put_at.ensures.decode,
)
