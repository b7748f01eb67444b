use Rattle.std.proofs.Common.{ℕ, ◌≡◌, ◌≤◌, replicate, length, get_or, ⊎_elim, arith}
use Rattle.std.proofs.Math.Path.{fun_ext}
use Rattle.std.proofs.lemmas.Bool.{cases_lt}
use Rattle.std.proofs.lemmas.List.{get_or-replicate, get_or_past, length-replicate}
use Rattle.rv_emulator.proofs.registers.Registers.new.Goals as goal

zeros : (n i : ℕ) → get_or {A = ℕ} (replicate n 0) i 0 ≡ 0
zeros n i =
    ⊎_elim
    (λ lt. get_or-replicate n i 0 0 lt)
    (λ le. let l : length {A = ℕ} (replicate n 0) ≤ i = omega (arith, length-replicate {A = ℕ} n 0) in
    get_or_past (replicate n 0) i 0 l)
    (cases_lt i n)

pub returns : goal.returns
returns c = fun_ext (zeros 32)
