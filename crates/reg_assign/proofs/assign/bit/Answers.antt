use Rattle.std.proofs.Common.{◌*◌, ◌^◌, ◌%◌, ◌≡◌, subst, ◌∙◌}
use Rattle.std.specs.Int.{bit_at}
use Rattle.reg_assign.proofs.Masks.{bit_same, bit_other}
use Rattle.reg_assign.proofs.assign.bit.Goals as goal

pub returns-clause-same : goal.returns-clause-same
returns-clause-same c =
    subst (λ x. bit_at (1 * 2 ^ c.number_in.result % 4294967296) x ≡ 1) c.number_in.ensures.value
    (bit_same c.number_in.result c.number_in.ensures.below)

pub returns-clause-other : goal.returns-clause-other
returns-clause-other c q d =
    bit_other c.number_in.result q c.number_in.ensures.below (λ e. d (e ∙ c.number_in.ensures.value))
