-- Where the virtual run lacks stack in which a frame has the slots that are left, the run in which it has all registers
-- lacks it too.
use Rattle.std.proofs.Common.{ℕ, zero, suc, ◌≡◌, Bool, true, false, Some, refl, subst, arith}
use Rattle.std.specs.Prelude.{if◌then◌else◌, nat_le, slice_get}
use Rattle.run_laws.specs.Runs.{Ending}
use Rattle.run_laws.specs.Machines.{Next, Go, Stop, Machine, and_then, steps, seen, run}
use Rattle.machine_words.specs.Halts.{Halt, Lacks, Stack}
use Rattle.rv_select.specs.declared.code.Place.{Place}
use Rattle.rv_select.specs.Run.{Setting, VirtualState, Shown, step_here}
use Rattle.rv_select.specs.Stacks.{stack_of, if_room, stacked_machine}
use Rattle.placed_code.specs.Sized.{stack_by, if_room_by, sized_machine}
use Rattle.placed_code.specs.Applied.{slots_of}
use Rattle.placed_code.proofs.FrameSizes.{frames_no_larger}

module _ {V : Type 0} (reading : Halt → Ending V) (setting : Setting) (place : ℕ → Place) (room : ℕ) where
  abbrev sized : Machine VirtualState Shown V
  sized = sized_machine reading setting (slots_of place) room

  abbrev stacked : Machine VirtualState Shown V
  stacked = stacked_machine reading setting room

  -- a run has ended for want of stack
  abbrev Lacking : Machine VirtualState Shown V → Next VirtualState V → Type 0
  Lacking M y = (seen M y).ending ≡ Some (reading (Lacks Stack))

  lacks_on : (t : VirtualState) (n : ℕ)
      → ((t1 : VirtualState) → Lacking sized (steps sized t1 n) → Lacking stacked (steps stacked t1 n))
      → (y : Next VirtualState V)
      → Lacking sized (and_then (if_room_by (slots_of place) reading room t y) (λ t1. steps sized t1 n))
      → Lacking stacked (and_then (if_room reading room t y) (λ t1. steps stacked t1 n))
  lacks_on t n ih (Go t1) e = by_room (nat_le (stack_of t1.active.found t1.frames) room) refl
    where
      by_room : (c : Bool) → nat_le (stack_of t1.active.found t1.frames) room ≡ c
          → Lacking stacked (and_then (if c then Go t1 else Stop (reading (Lacks Stack)) t) (λ t2. steps stacked t2 n))
      by_room true h =
          let fewer = frames_no_larger place t1.active.found t1.frames in
          let fits : nat_le (stack_by (slots_of place) t1.active.found t1.frames) room ≡ true
          = grind (arith, h, fewer) in
          ih t1 (subst (λ b. Lacking sized (and_then (if b then Go t1 else Stop (reading (Lacks Stack)) t)
          (λ t2. steps sized t2 n))) fits e)
      by_room false h = refl
  lacks_on t n ih (Stop o t1) e = e

  pub lacks_with_all : (n : ℕ) (t : VirtualState) → (run sized t n).ending ≡ Some (reading (Lacks Stack))
      → (run stacked t n).ending ≡ Some (reading (Lacks Stack))
  lacks_with_all zero t e = absurd (let z : ⊥ = cc in z)
  lacks_with_all (suc n) t e =
      lacks_on t n (λ t1 h. lacks_with_all n t1 h) (step_here reading setting (slice_get setting.items t.pc) t) e
