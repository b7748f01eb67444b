-- What is asked of the procedures that serve, and of what those of a flat program capture.
use Rattle.std.specs.Prelude.{ℕ, suc, ◌≡◌, ◌&&◌, ◌==◌, nat_lt, Bool, true, false, List, [], ◌∷◌, Option, Some, None}
use Rattle.std.specs.Prelude.{slice_get}
use Rattle.flat_ir.specs.Bodies.{Proc as FlatProc}
use Rattle.low_ir.specs.Procedures.{Proc}
use Rattle.lowered_code.specs.declared.served.Served.{Served}

-- a procedure is there, and takes so many words
abbrev pub takes : ℕ → Option Proc → Bool
takes count (Some p) = count == p.params
takes count None = false

-- the procedures that serve stand in a program by their numbers, and each takes as many words as code hands it
pub record Serve (run : Served) (procs : List Proc) : Type 0 where
  -- a value and the word of a cast
  pub cast : takes 2 (slice_get procs run.cast) ≡ true
  -- a value, the number of a part, what the value is, and a label
  pub project : takes 4 (slice_get procs run.project) ≡ true
  -- a function, six words for its arguments, and how many these are
  pub apply : takes 8 (slice_get procs run.apply) ≡ true
  -- what is read (a box, a vector or its length), an address, and an index
  pub read : takes 3 (slice_get procs run.read) ≡ true
  -- what is written (a box or a vector), an address, an index, and a word
  pub write : takes 4 (slice_get procs run.write) ≡ true
  -- a length and a word
  pub fill : takes 2 (slice_get procs run.fill) ≡ true
  -- two factors
  pub multiply : takes 2 (slice_get procs run.multiply) ≡ true
  -- a dividend, a divisor, and 0 for the quotient or 1 for the remainder
  pub divide : takes 3 (slice_get procs run.divide) ≡ true

-- what each procedure captures, and one more, and how many functions its group has, is counted by numbers of 32 bits
abbrev pub all_narrow : List FlatProc → Bool
all_narrow [] = true
all_narrow (p ∷ ps) = (nat_lt (suc p.captured) 4294967296 && nat_lt p.group 4294967296) && all_narrow ps
