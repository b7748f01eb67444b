-- All procedures of this crate, numbered from a first number on, told the number of the procedure of casts: apply,
-- read, write, fill and its loop, then products and quotients.
use Rattle.std.specs.Prelude.{◌≡◌, ℕ, ◌+◌, List, ◌∷◌, Some, slice_get}
use Rattle.low_ir.specs.Procedures.{Proc}
use Rattle.rt_refs.specs.declared.numbers.RefProc.{RefProc}
use Rattle.rt_refs.specs.declared.numbers.RefProc.TheVariants.{Apply, Read, Write, Fill, FillLoop, ProductLoop}
use Rattle.rt_refs.specs.declared.numbers.RefProc.TheVariants.{QuotientLoop, Multiply, Divide}
use Rattle.rt_refs.specs.Quotients.{arithmetic_procs}
use Rattle.rt_refs.specs.CallCodes.{apply_proc}
use Rattle.rt_refs.specs.CellCodes.{read_proc, write_proc}
use Rattle.rt_refs.specs.FillCodes.{fill_proc, fill_loop}

-- how many stand before each procedure
abbrev pub ref_place : RefProc → ℕ
ref_place Apply = 0
ref_place Read = 1
ref_place Write = 2
ref_place Fill = 3
ref_place FillLoop = 4
ref_place ProductLoop = 5
ref_place QuotientLoop = 6
ref_place Multiply = 7
ref_place Divide = 8

-- the number of each, told that of the first one
abbrev pub ref_proc_number : RefProc → ℕ → ℕ
ref_proc_number p first = ref_place p + first

abbrev pub ref_procs : ℕ → ℕ → List Proc
ref_procs first cast =
    apply_proc cast ∷ read_proc cast ∷ write_proc cast ∷ fill_proc (ref_proc_number FillLoop first)
    ∷ fill_loop (ref_proc_number FillLoop first) ∷ arithmetic_procs (ref_proc_number ProductLoop first)

-- the procedures stand in a program
abbrev pub Stand : List Proc → ℕ → ℕ → Type 0
Stand procs first cast =
    (k : ℕ) (p : Proc) → slice_get (ref_procs first cast) k ≡ Some p → slice_get procs (k + first) ≡ Some p
