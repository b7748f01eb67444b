use Rattle.std.proofs.Common.{ℕ, ◌<◌, ◌≡◌, true}
use Rattle.rv_select.specs.declared.code.Place.TheVariants.{InReg}
use Rattle.rv_select.specs.Holding.{may_hold}
use Rattle.placed_code.specs.Places.{place_in}
use Rattle.reg_assign.proofs.check.are_allowed.Given as goal

-- the places so far are allowed
abbrev pub invariant-loop-place : goal.invariant-loop-place
invariant-loop-place l =
    (v r : ℕ) → v < l.place-index → place_in l.places v ≡ InReg r → may_hold r ≡ true
