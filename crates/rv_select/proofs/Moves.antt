-- Each step of the run over words is made by the virtual code, which pays no more than its price.
use Rattle.std.proofs.Common.{◌+◌, arith}
use Rattle.low_ir.specs.Procedures.{Code, Done, Set, Compute as LowCompute, Load as LowLoad, Store as LowStore}
use Rattle.low_ir.specs.Procedures.{CodeOf as LowCodeOf, Build, Request, Take, Environment as LowEnvironment}
use Rattle.low_ir.specs.Procedures.{Call as LowCall, CallAt as LowCallAt, If, Return as LowReturn}
use Rattle.low_ir.specs.Procedures.{TailCall as LowTailCall, TailCallAt as LowTailCallAt}
use Rattle.low_ir.specs.Run.{LowState}
use Rattle.low_ir.specs.Prices.{low_price}
use Rattle.rv_select.specs.Run.{VirtualState}
use Rattle.rv_select.specs.Selected.{SameRegion}
use Rattle.rv_select.proofs.Paying.{PaidSimulation, does_with_more}
use Rattle.rv_select.proofs.Relation.{Program, Laid, On, M, N, cost, OnWith, as_alike, seen}
use Rattle.rv_select.proofs.Stepping.{DoesStep}
use Rattle.rv_select.proofs.Stepping.{purse_of, size}
use Rattle.rv_select.proofs.Straight.{do_set, do_compute, do_load, do_store}
use Rattle.rv_select.proofs.Allocating.{do_build, do_request, do_take}
use Rattle.rv_select.proofs.Outside.{do_environment}
use Rattle.rv_select.proofs.Branching.{do_done, do_if}
use Rattle.rv_select.proofs.Calling.{do_code_of, do_call, do_call_at}
use Rattle.rv_select.proofs.Leaving.{do_return, do_tail, do_tail_at}

module _ {V : Type 0} (program : Program V) where
  pub do_code : Laid program → (s : LowState) (t : VirtualState) (on : On program s t) (c : Code)
      → DoesStep program s t on c
  do_code laid s t on Done lies = do_done program s t on lies
  do_code laid s t on (Set d a rest) lies = do_set program s t on d a rest lies
  do_code laid s t on (LowCompute op d a b rest) lies = do_compute program s t on op d a b rest lies
  do_code laid s t on (LowLoad d a offset rest) lies = do_load program s t on d a offset rest lies
  do_code laid s t on (LowStore b a offset rest) lies = do_store program s t on b a offset rest lies
  do_code laid s t on (LowCodeOf d k rest) lies = do_code_of program laid s t on d k rest lies
  do_code laid s t on (Build d args rest) lies = do_build program s t on d args rest lies
  do_code laid s t on (Request d a rest) lies = do_request program s t on d a rest lies
  do_code laid s t on (Take a rest) lies = do_take program s t on a rest lies
  do_code laid s t on (LowEnvironment number a b d e rest) lies = do_environment program s t on number a b d e rest lies
  do_code laid s t on (LowCall d k args rest) lies = do_call program laid s t on d k args rest lies
  do_code laid s t on (LowCallAt d a args rest) lies = do_call_at program laid s t on d a args rest lies
  do_code laid s t on (If cond a b one other rest) lies = do_if program s t on cond a b one other rest lies
  do_code laid s t on (LowReturn a) lies = do_return program s t on a lies
  do_code laid s t on (LowTailCall k args) lies = do_tail program laid s t on k args lies
  do_code laid s t on (LowTailCallAt a args) lies = do_tail_at program laid s t on a args lies

  -- the code simulates the program, each step at no more than its price
  pub selected : Laid program → PaidSimulation (SameRegion program.stack program.low.top)
      (M program) (N program) (low_price program.low.procs) (cost program) (OnWith program) (size program)
  selected laid = record {
    alike = λ purse s t on. as_alike program s t (seen program s t on.0.body);
    does = λ purse s t on. does_with_more (SameRegion program.stack program.low.top) (M program)
        (N program) (cost program) (OnWith program) (size program) s t
        (purse_of program s s.active.code) (purse + low_price program.low.procs s) ((M program).step s)
        (let le = on.1 in omega (arith, le)) (do_code laid s t on.0 s.active.code on.0.active.lies);
  }
