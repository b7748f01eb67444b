use Rattle.std.proofs.Common.{◌≡◌, ℕ, get_or, true}
use Rattle.std.specs.Prelude.{if◌then◌else◌, nat_lt}
use Rattle.rv_emulator.proofs.machine.fill.Given as goal

abbrev pub invariant-loop-i : goal.invariant-loop-i
invariant-loop-i g l = record {
  so_far : (j : ℕ) → g.R.Ram.memory l.ram j ≡ (if nat_lt j l.i then get_or l.bytes j 0 else 0);
  len : g.R.Ram.bytes_len l.ram ≡ g.R.Ram.bytes_len l.fn.ram;
  whole : g.R.Ram.whole l.fn.ram ≡ true → g.R.Ram.whole l.ram ≡ true;
}
