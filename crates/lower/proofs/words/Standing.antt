-- A procedure that serves stands where a program numbers it.
use Rattle.std.proofs.Common.{◌≡◌, ℕ, ◌≤◌, true, Some, refl, arith, slice_get}
use Rattle.std.specs.Prelude.{◌&&◌, nat_le}
use Rattle.low_ir.specs.Procedures.{Proc}
use Rattle.low_ir.specs.Run.{Setting}
use Rattle.lower.specs.SimulationServices.{StandsAs}
use Rattle.lower.proofs.words.Operands.{and_true}

at_most : (a b : ℕ) → nat_le a b ≡ true → a ≤ b
at_most a b h = grind (arith, h)

-- that its words are few is seen by computing
pub stands_as : (setting : Setting) (number : ℕ) (p : Proc) → slice_get setting.procs number ≡ Some p
    → (nat_le p.params 8 && (nat_le p.params p.words && nat_le p.words 24)) ≡ true
    → StandsAs setting number p p.params
stands_as setting number p there few =
    let x = and_true (nat_le p.params 8) (nat_le p.params p.words && nat_le p.words 24) few in
    let y = and_true (nat_le p.params p.words) (nat_le p.words 24) x.1 in
    record {
      there = there;
      takes = refl;
      few = at_most p.params 8 x.0;
      room = at_most p.params p.words y.0;
      small = at_most p.words 24 y.1;
    }
