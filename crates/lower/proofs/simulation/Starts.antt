-- The state in which a lowered program enters its first procedure goes with that of the numbered procedures.
use Rattle.std.proofs.Common.{◌≡◌, inl, ℕ, ◌+◌, ◌≤◌, List, [], ◌∷◌, Some, true, refl, arith, eqb-true}
use Rattle.std.proofs.Common.{slice_get, suc}
use Rattle.std.specs.Prelude.{◌==◌, ◌&&◌, nat_le}
use Rattle.run_laws.specs.Machines.{Go}
use Rattle.machine_words.specs.Memory.{Memory}
use Rattle.low_ir.specs.Steps.{no_locals}
use Rattle.low_ir.specs.Run.{LowState, bind, low_start}
use Rattle.cast_modes.specs.RunValues.{RunUnit}
use Rattle.cast_modes.specs.ValueSteps.{Own}
use Rattle.flat_ir.specs.Bodies.{Proc}
use Rattle.flat_ir.specs.Closed.{takes_nothing}
use Rattle.flat_ir.specs.Levels.{levels}
use Rattle.flat_ir.specs.Machine.{FlatState, Inside, first_world, flat_state_at, new_group}
use Rattle.rt_cast.specs.Objects.{Holds}
use Rattle.rt_cast.specs.States.{Heap}
use Rattle.lowered_code.specs.Lowered.{low_proc, entry_proc}
use Rattle.lower.specs.Relation.{entry_waiting}
use Rattle.lower.specs.Storage.{Filled}
use Rattle.lower.proofs.simulation.Way.{Program, Live, N, after_wraps}
use Rattle.lower.proofs.words.Operands.{and_true}
use Rattle.lower.proofs.simulation.Gives.{living}
use Rattle.lower.proofs.simulation.Calls.{runs_first}
use Rattle.lower.proofs.words.Steps.{at}

module _ (program : Program) (memory : Memory) (statics : Holds memory program.l.first program.l.statics)
    (fits : program.setting.region ≤ program.setting.top) (input : List ℕ) where
  abbrev pub first_heap : Heap
  first_heap = record { memory = memory; alloc = program.setting.region; words = 0 }

  pub first_filled : Filled program.meaning program.setting program.l 0 [] first_heap
  first_filled = record {
    objects_stand = tt;
    statics_stand = statics;
    ends = let e = program.begins in omega (arith, e);
    fits = fits;
    keeps = program.laws.begins program.l;
  }

  abbrev pub entered_flat : Proc → FlatState program.meaning.Cast
  entered_flat p =
      flat_state_at program.procs program.told (Own (Inside p.body (λ level. RunUnit) (new_group 0 []))) [] []
      (first_world input)

  abbrev pub entered_low : Proc → LowState
  entered_low p =
      at (first_world input) first_heap (entry_waiting program.answer ∷ []) (levels p.params p.body + 10) []
      (bind 0 (0 ∷ []) no_locals) (low_proc program.run p).code

  -- a procedure that takes nothing has neither parameters nor captured names, and is alone
  nothing_taken : (p : Proc) → takes_nothing (Some p) ≡ true
      → (p.params ≡ 0) × (p.captured ≡ 0) × (p.group ≡ 0)
  nothing_taken p e =
      let x = and_true (p.params == 0) ((p.captured == 0) && (p.group == 0)) e in
      let y = and_true (p.captured == 0) (p.group == 0) x.1 in
      (eqb-true p.params 0 x.0, eqb-true p.captured 0 y.0, eqb-true p.group 0 y.1)

  -- the program's first procedure calls it
  pub first_step : (entry : ℕ) (p : Proc) → slice_get program.procs entry ≡ Some p → takes_nothing (Some p) ≡ true
      → (N program).step (low_start program.setting (entry_proc entry program.answer) memory (first_world input))
      ≡ Go (entered_low p)
  first_step entry p there takes =
      let low = program.stand entry p there in
      let none = (nothing_taken p takes).0 in
      let fine = enters (suc p.params) (levels p.params p.body + 10) (omega (arith, none)) (omega arith) in
      rw (low, fine) refl
    where
      enters : (n k : ℕ) → n ≡ 1 → 10 ≤ k → ((1 == n) && (nat_le n 8 && nat_le n k)) ≡ true
      enters n k a b = grind (arith, a, b)

  pub first_live : (entry : ℕ) (p : Proc) → slice_get program.procs entry ≡ Some p → takes_nothing (Some p) ≡ true
      → Live (after_wraps program 0) (entered_flat p) 0 (entered_low p)
  first_live entry p there takes =
      let none = (nothing_taken p takes).0 in
      living (after_wraps program 0) [] [] first_heap (entered_flat p) refl first_filled tt
      (entry_waiting program.answer ∷ []) (levels p.params p.body + 10) [] (bind 0 (0 ∷ []) no_locals)
      (low_proc program.run p).code 0
      (runs_first (after_wraps program 0) [] [] entry p (new_group 0 []) (λ level. RunUnit) 0 []
      (entry_waiting program.answer ∷ []) [] there (inl ((nothing_taken p takes).1, (nothing_taken p takes).2))
      (λ i lt. absurd (omega (arith, lt, none))) (inl (refl, refl, refl)))
