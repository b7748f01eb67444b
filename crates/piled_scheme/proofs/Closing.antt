-- The procedures take what they are handed, and are closed in each program in which they stand.
use Rattle.std.proofs.Common.{◌≡◌, ℕ, suc, ◌+◌, true, List, Some, refl, ap, ◌∙◌, arith, slice_get}
use Rattle.std.proofs.lemmas.Bool.{and_from}
use Rattle.low_ir.specs.Procedures.{Proc}
use Rattle.low_ir.specs.Closed.{proc_closed, each_closed}
use Rattle.rt_refs.specs.FillCodes.{fill_loop, fill_proc}
use Rattle.rt_refs.specs.Products.{product_loop}
use Rattle.rt_refs.specs.Quotients.{arithmetic_procs, quotient_loop}
use Rattle.lowered_code.specs.Serving.{takes, Serve}
use Rattle.lower.specs.Sets.{StandFrom, ServesAnywhere}
use Rattle.lower.proofs.Public.{serves_anywhere}
use Rattle.piled_scheme.specs.Codes.{read_proc, write_proc, unbox_proc, set_proc, piled_procs}
use Rattle.piled_scheme.specs.Codes.{piled_numbers}

module _ (procs : List Proc) (first : ℕ) (s : StandFrom procs first (piled_procs first)) where
  piled_serves : Serve (piled_numbers first) procs
  piled_serves = record {
    cast = (let z : first ≡ 0 + first = omega arith in ap (λ n. takes 2 (slice_get procs n)) z ∙ ap (takes 2) (s 0 _
        refl));
    project = ap (takes 4) (s 1 _ refl);
    apply = ap (takes 8) (s 2 _ refl);
    read = ap (takes 3) (s 3 _ refl);
    write = ap (takes 4) (s 4 _ refl);
    fill = ap (takes 2) (s 5 _ refl);
    multiply = ap (takes 2) (s 11 _ refl);
    divide = ap (takes 3) (s 12 _ refl);
  }

  quotient_there : slice_get procs (suc (9 + first)) ≡ Some (quotient_loop (suc (9 + first)))
  quotient_there =
      let z : suc (9 + first) ≡ 10 + first = omega arith in
      ap (slice_get procs) z ∙ s 10 (quotient_loop (suc (9 + first))) refl

  read_closed : proc_closed procs (read_proc (7 + first)) ≡ true
  read_closed = rw (s 7 _ refl) refl

  write_closed : proc_closed procs (write_proc (8 + first)) ≡ true
  write_closed = rw (s 8 _ refl) refl

  fill_closed : proc_closed procs (fill_proc (6 + first)) ≡ true
  fill_closed = rw (s 6 _ refl) refl

  loop_closed : proc_closed procs (fill_loop (6 + first)) ≡ true
  loop_closed = rw (s 6 _ refl) refl

  unbox_closed : proc_closed procs (unbox_proc (7 + first)) ≡ true
  unbox_closed = rw (s 7 _ refl) refl

  set_closed : proc_closed procs (set_proc (8 + first)) ≡ true
  set_closed = rw (s 8 _ refl) refl

  products_closed : each_closed procs (arithmetic_procs (9 + first)) ≡ true
  products_closed = rw (s 9 (product_loop (9 + first)) refl, quotient_there) refl

  piled_closed : each_closed procs (piled_procs first) ≡ true
  piled_closed =
      and_from _ _ refl (and_from _ _ refl (and_from _ _ refl (and_from _ _ read_closed (and_from _ _ write_closed
      (and_from _ _ fill_closed (and_from _ _ loop_closed (and_from _ _ unbox_closed (and_from _ _ set_closed
      products_closed))))))))

pub piled_serves_anywhere : (first : ℕ) → ServesAnywhere (piled_procs first) first (piled_numbers first)
piled_serves_anywhere first =
    serves_anywhere (piled_procs first) first (piled_numbers first) (λ procs s. piled_serves procs first s)
    (λ procs s. piled_closed procs first s) (refl, refl) (omega arith) (omega arith)
