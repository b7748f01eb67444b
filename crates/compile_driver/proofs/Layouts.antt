-- Where statics, code, region and stack are stays as it is at the start.
use Rattle.std.proofs.Common.{◌≡◌, ℕ, zero, suc, refl, ◌∙◌}
use Rattle.run_laws.specs.Machines.{and_then, seen, steps}
use Rattle.machine_words.specs.Halts.{ending_of}
use Rattle.rv_machine.specs.Mach.{machine, step_by}
use Rattle.rv_machine.specs.State.{State, Turn, Next, Stops}
use Rattle.rv_machine.specs.Turn.{turn_of}
use Rattle.compile_driver.proofs.MachineOutput.{Keeps, turn_keeps}

-- after any number of turns
pub layout_stays : (n : ℕ) (s : State) → (seen machine (steps machine s n)).shown.layout ≡ s.layout
layout_stays zero s = refl
layout_stays (suc n) s = by (λ t. layout_stays n t) (turn_of s) (turn_keeps s)
  where
    by : ((t : State) → (seen machine (steps machine t n)).shown.layout ≡ t.layout) → (turn : Turn) → Keeps s turn
        → (seen machine (and_then (step_by ending_of s turn) (λ t. steps machine t n))).shown.layout ≡ s.layout
    by ih (Next t) h = ih t ∙ h.layout
    by ih (Stops halt) h = refl
