-- The procedures are closed in each program in which they stand.
use Rattle.std.proofs.Common.{◌≡◌, ℕ, Bool, true, ◌&&◌, List, ◌++◌, ap₂, refl}
use Rattle.low_ir.specs.Procedures.{Proc}
use Rattle.low_ir.specs.Closed.{proc_closed, each_closed}
use Rattle.rt_cast.specs.ComposeCodes.{part, coerce_part}
use Rattle.rt_cast.specs.Procs.{Stand, cast_procs, coerce_proc, compose_proc, cast_proc, project_proc, part_proc}
use Rattle.rt_cast.specs.Procs.{coerce_part_proc, pair_proc, middles}

and_so : (a b : Bool) → a ≡ true → b ≡ true → (a && b) ≡ true
and_so a b h k = ap₂ (λ x y. x && y) h k

module _ (procs : List Proc) (first : ℕ) (s : Stand procs first) where
  coerce_closed : proc_closed procs (coerce_proc first) ≡ true
  coerce_closed =
      rw (
        s 5 _ refl,
        s 8 _ refl,
        s 18 _ refl,
        s 19 _ refl,
        s 20 _ refl,
        s 21 _ refl,
        s 22 _ refl,
        s 23 _ refl,
        s 24 _ refl,
        s 25 _ refl,
        s 26 _ refl,
      ) refl

  compose_closed : proc_closed procs (compose_proc first) ≡ true
  compose_closed =
      rw (
        s 0 _ refl,
        s 1 _ refl,
        s 5 _ refl,
        s 6 _ refl,
        s 9 _ refl,
        s 10 _ refl,
        s 11 _ refl,
        s 12 _ refl,
        s 13 _ refl,
        s 14 _ refl,
        s 15 _ refl,
        s 16 _ refl,
        s 17 _ refl,
      ) refl

  cast_closed : proc_closed procs (cast_proc first) ≡ true
  cast_closed = rw (s 0 _ refl, s 1 _ refl, s 2 _ refl) refl

  project_closed : proc_closed procs (project_proc first) ≡ true
  project_closed = rw (s 2 _ refl, s 3 _ refl) refl

  part_closed : proc_closed procs (part_proc first) ≡ true
  part_closed = rw (s 1 _ refl) refl

  coerce_part_closed : proc_closed procs (coerce_part_proc first) ≡ true
  coerce_part_closed = rw (s 0 _ refl) refl

  pair_closed : proc_closed procs (pair_proc first) ≡ true
  pair_closed = rw (s 5 _ refl, s 7 _ refl) refl

  pub procedures_are_closed-closed : each_closed procs (cast_procs first) ≡ true
  procedures_are_closed-closed =
      and_so _ _ coerce_closed (and_so _ _ compose_closed (and_so _ _ cast_closed (and_so _ _ project_closed
      (and_so _ _ part_closed (and_so _ _ refl (and_so _ _ refl (and_so _ _ coerce_part_closed
      (and_so _ _ pair_closed each_middle))))))))
    where
      each_middle : each_closed procs (middles first (part first) ++ middles first (coerce_part first)) ≡ true
      each_middle = rw (s 4 _ refl, s 5 _ refl, s 7 _ refl) refl
