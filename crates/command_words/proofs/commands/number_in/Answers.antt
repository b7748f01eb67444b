use Rattle.std.proofs.Common.{refl, arith}
use Rattle.command_words.proofs.ReadingNumbers.{digits_more, is_number, nineteen_digits, number_more, pow_step}
use Rattle.command_words.proofs.commands.number_in.Goals as goal

pub loop-digit-init : goal.loop-digit-init
loop-digit-init c = record { so_far = refl; digits = λ k h. absurd (let p : ⊥ = omega arith in p); below = omega arith }

pub overflow_mul-n : goal.overflow_mul-n
overflow_mul-n c =
    omega (
      arith,
      nineteen_digits c.loop-digit.n 0 c.loop-digit.digit-index c.loop-digit.invariant.below (omega arith)
          (omega arith),
    )

pub overflow_add-n : goal.overflow_add-n
overflow_add-n c =
    omega (
      arith,
      nineteen_digits c.loop-digit.n c.from.result c.loop-digit.digit-index c.loop-digit.invariant.below
          (omega arith) (omega arith),
    )

pub loop-digit-preserved : goal.loop-digit-preserved
loop-digit-preserved c =
    let digits = c.as_bytes-digits.result.now in
    let i = c.loop-digit.digit-index in
    record {
      so_far =
          number_more c.loop-digit.n c.from.result i digits c.loop-digit-test.true c.loop-digit.invariant.so_far
          c.from.ensures;
      digits = digits_more i digits c.loop-digit.invariant.digits (c.if-digit-lt48.false, c.if-digit-gt57.false);
      below = pow_step c.loop-digit.n c.from.result i c.loop-digit.invariant.below (omega arith);
    }

pub returns : goal.returns
returns c =
    is_number c.loop-digit.n c.loop-digit.digit-index c.as_bytes-digits.result.now c.args.word.now
    c.as_bytes-digits.ensures.value c.if-is_empty.ensures c.if-digits-gt19.false c.loop-digit-test.false
    c.loop-digit.invariant.so_far c.loop-digit.invariant.digits
