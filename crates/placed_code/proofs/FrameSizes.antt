-- Frames with the slots that are left have no more bytes than frames with all registers.
use Rattle.std.proofs.Common.{ℕ, ◌≤◌, List, [], ◌∷◌, arith}
use Rattle.rv_select.specs.declared.code.Place.{Place}
use Rattle.rv_select.specs.Run.{Found, Frame}
use Rattle.rv_select.specs.Stacks.{stack_of}
use Rattle.placed_code.specs.Sized.{stack_by}
use Rattle.placed_code.specs.Applied.{slots_of}
use Rattle.placed_code.proofs.Dense.{few}

pub frames_no_larger : (place : ℕ → Place) (found : Found) (fs : List Frame)
    → stack_by (slots_of place) found fs ≤ stack_of found fs
frames_no_larger place found [] = omega arith
frames_no_larger place found (f ∷ fs) =
    let a = few place found.first found.count in
    let b = frames_no_larger place f.active.found fs in omega (arith, a, b)
