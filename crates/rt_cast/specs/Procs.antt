-- All procedures, numbered from a first number on: coerce, compose, cast and project, and those that they call.
use Rattle.std.specs.Prelude.{◌≡◌, ℕ, zero, suc, ◌+◌, List, [], ◌∷◌, ◌++◌, Some, slice_get}
use Rattle.low_ir.specs.declared.code.LowSource.TheVariants.{Word}
use Rattle.low_ir.specs.Procedures.{TailCall, Proc}
use Rattle.rt_cast.specs.PartCodes.{raise_code, final_code, part_code, middle_code, each_word, first_word}
use Rattle.low_ir.specs.Codes.{proc}
use Rattle.rt_cast.specs.ComposeCodes.{coerce, compose, part, raise, coerce_part, compose_code}
use Rattle.rt_cast.specs.CoerceCodes.{coerce_code}
use Rattle.rt_cast.specs.CastCodes.{cast_code, project_code}

-- takes two types and a label
abbrev pub coerce_proc : ℕ → Proc
coerce_proc first = proc 3 11 (coerce_code first)

-- takes two coercions
abbrev pub compose_proc : ℕ → Proc
compose_proc first = proc 2 12 (compose_code first)

-- takes a value and a coercion
abbrev pub cast_proc : ℕ → Proc
cast_proc first = proc 2 10 (cast_code first)

-- takes a value, the number of a part, what the value is, and a label
abbrev pub project_proc : ℕ → Proc
project_proc first = proc 4 12 (project_code first)

abbrev pub part_proc : ℕ → Proc
part_proc first = proc 6 6 (part_code (λ x y. TailCall (compose first) (x ∷ y ∷ [])))

abbrev pub raise_proc : Proc
raise_proc = proc 2 3 raise_code

abbrev pub final_proc : Proc
final_proc = proc 1 2 final_code

abbrev pub coerce_part_proc : ℕ → Proc
coerce_part_proc first = proc 6 6 (part_code (λ x y. TailCall (coerce first) (x ∷ y ∷ Word 5 ∷ [])))

abbrev pub pair_proc : ℕ → Proc
pair_proc first = proc 5 24 (middle_code (raise first) (coerce_part first) first_word 2)

-- a middle of so many parts, told the procedures of a height and of a part
abbrev pub middle_by : ℕ → ℕ → ℕ → Proc
middle_by higher each r = proc 5 24 (middle_code higher each each_word r)

-- so many of them, from r parts on
abbrev pub middles_from : ℕ → ℕ → ℕ → ℕ → List Proc
middles_from higher each zero r = []
middles_from higher each (suc n) r = middle_by higher each r ∷ middles_from higher each n (suc r)

-- told the procedure of a part
abbrev pub middle_proc : ℕ → ℕ → ℕ → Proc
middle_proc first each r = middle_by (raise first) each r

abbrev pub middles : ℕ → ℕ → List Proc
middles first each = middles_from (raise first) each 9 0

-- those before the middles
abbrev pub first_procs : ℕ → List Proc
first_procs first =
    coerce_proc first ∷ compose_proc first ∷ cast_proc first ∷ project_proc first ∷ part_proc first ∷ raise_proc
    ∷ final_proc ∷ coerce_part_proc first ∷ pair_proc first ∷ []

abbrev pub cast_procs : ℕ → List Proc
cast_procs first = first_procs first ++ middles first (part first) ++ middles first (coerce_part first)

-- so many are they
abbrev pub how_many_cast_procs : ℕ
how_many_cast_procs = 27

-- the procedures stand in a program, numbered from a first number on
abbrev pub Stand : List Proc → ℕ → Type 0
Stand procs first = (k : ℕ) (p : Proc) → slice_get (cast_procs first) k ≡ Some p → slice_get procs (k + first) ≡ Some p
