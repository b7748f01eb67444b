-- The procedures are closed in each program in which they stand.
use Rattle.std.proofs.Common.{◌≡◌, ℕ, Bool, true, ◌&&◌, List, ap₂, refl, Some, suc, subst, arith}
use Rattle.std.specs.Prelude.{slice_get}
use Rattle.low_ir.specs.Procedures.{Proc}
use Rattle.low_ir.specs.Closed.{proc_closed, each_closed}
use Rattle.rt_refs.specs.CallCodes.{apply_proc}
use Rattle.rt_refs.specs.CellCodes.{read_proc, write_proc}
use Rattle.rt_refs.specs.FillCodes.{fill_proc, fill_loop}
use Rattle.rt_refs.specs.Quotients.{arithmetic_procs, quotient_loop}
use Rattle.rt_refs.specs.declared.numbers.RefProc.TheVariants.{FillLoop, ProductLoop, QuotientLoop}
use Rattle.rt_refs.specs.RefProcs.{ref_procs, ref_place, ref_proc_number, Stand}

and_so : (a b : Bool) → a ≡ true → b ≡ true → (a && b) ≡ true
and_so a b h k = ap₂ (λ x y. x && y) h k

-- where the procedure of casts takes two words
module _ (procs : List Proc) (first cast : ℕ) (s : Stand procs first cast) (c : Proc)
    (there : slice_get procs cast ≡ Some c) (takes : c.params ≡ 2) where
  apply_closed : proc_closed procs (apply_proc cast) ≡ true
  apply_closed = rw (there, takes) refl

  read_closed : proc_closed procs (read_proc cast) ≡ true
  read_closed = rw (there, takes) refl

  write_closed : proc_closed procs (write_proc cast) ≡ true
  write_closed = rw (there, takes) refl

  fill_closed : proc_closed procs (fill_proc (ref_proc_number FillLoop first)) ≡ true
  fill_closed = rw (s (ref_place FillLoop) _ refl) refl

  loop_closed : proc_closed procs (fill_loop (ref_proc_number FillLoop first)) ≡ true
  loop_closed = rw (s (ref_place FillLoop) _ refl) refl

  abbrev product : ℕ
  product = ref_proc_number ProductLoop first

  pub procedures_are_closed-closed : each_closed procs (ref_procs first cast) ≡ true
  procedures_are_closed-closed =
      and_so _ _ apply_closed (and_so _ _ read_closed (and_so _ _ write_closed (and_so _ _ fill_closed
      (and_so _ _ loop_closed products))))
    where
      quotients : slice_get procs (suc product) ≡ Some (quotient_loop (suc product))
      quotients =
          let z : ref_proc_number QuotientLoop first ≡ suc product = omega arith in
          subst (λ k. slice_get procs k ≡ Some (quotient_loop (suc product))) z (s (ref_place QuotientLoop) _ refl)

      products : each_closed procs (arithmetic_procs product) ≡ true
      products = rw (s (ref_place ProductLoop) _ refl, quotients) refl
