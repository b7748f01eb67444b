use Rattle.reference_laws.proofs.Filling.{lengths_below_zero_trap}
use Rattle.reference_laws.proofs.lengths_below_zero_trap.Goals as goal

pub returns : goal.returns
returns g c = λ reading setting l s exhausts placed begins narrow own there objects filled n w small ge fits.
    lengths_below_zero_trap reading setting l s exhausts placed begins narrow own there objects filled n w small ge
    fits
