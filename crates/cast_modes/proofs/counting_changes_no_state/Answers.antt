use Rattle.cast_modes.proofs.Counting.{counting_changes_no_state}
use Rattle.cast_modes.proofs.counting_changes_no_state.Goals as goal

pub returns : goal.returns
returns g c reduction words wraps frames n s = counting_changes_no_state reduction words wraps frames n s
