-- Prices: how many instructions steps over words cost at most, wherever their code lies, told by the code alone and by
-- how many words procedures have. Each jump, branch and address is counted in its longest form, and each word as if it
-- were kept in its slot.
use Rattle.std.specs.Prelude.{ℕ, ◌+◌, ◌≤◌, ◌≡◌, nat_lt, max, if◌then◌else◌, List, [], ◌∷◌, Option, Some, None}
use Rattle.std.specs.Prelude.{slice_get}
use Rattle.run_laws.specs.Runs.{Ending}
use Rattle.run_laws.specs.Machines.{Next, Go, Stop, run}
use Rattle.run_laws.specs.Meters.{metered, unspent}
use Rattle.machine_words.specs.Halts.{Halt}
use Rattle.low_ir.specs.declared.code.LowSource.{LowSource}
use Rattle.low_ir.specs.declared.code.LowSource.TheVariants.{Word, Number}
use Rattle.low_ir.specs.Procedures.{Code, Done, Set, Compute, Load, Store, CodeOf, Build, Request, Take, Environment}
use Rattle.low_ir.specs.Procedures.{Call, CallAt, If, Return, TailCall, TailCallAt, Proc}
use Rattle.low_ir.specs.Run.{Setting, Active, Waiting, LowState, low_machine}

-- a word of a procedure is loaded from its slot, or stored there
abbrev pub slot_price : ℕ → ℕ
slot_price i = if nat_lt i 255 then 1 else 13

-- a source is put into a register
abbrev pub source_price : LowSource → ℕ
source_price (Word i) = slot_price i
source_price (Number n) = if nat_lt n 2048 then 2 else 12

-- sources are handed on, or stored into an object
abbrev pub sources_price : List LowSource → ℕ
sources_price [] = 0
sources_price (a ∷ args) = source_price a + 3 + sources_price args

-- a procedure of so many words is entered, beside the words that it takes; the frame of few words is near
abbrev pub entering : ℕ → ℕ
entering words = if nat_lt words 255 then 15 else 25

-- it is left
abbrev pub leaving : ℕ → ℕ
leaving words = if nat_lt words 255 then 3 else 13

-- whatever stands there is entered
abbrev pub entering_some : Option Proc → ℕ
entering_some None = 25
entering_some (Some p) = entering p.words

-- told the procedures, and how many words the one has whose code it is
module _ (procs : List Proc) (words : ℕ) where
  -- the first step of a code, with what it costs to enter the procedure that it calls
  abbrev pub step_price : Code → ℕ
  step_price Done = 10
  step_price (Set d a rest) = source_price a + 1 + slot_price d
  step_price (Compute op d a b rest) = source_price a + source_price b + 1 + slot_price d
  step_price (Load d a offset rest) = source_price a + 1 + slot_price d
  step_price (Store b a offset rest) = source_price b + source_price a + 1
  step_price (CodeOf d k rest) = 10 + slot_price d
  step_price (Build d args rest) = 16 + slot_price d + sources_price args
  step_price (Request d a rest) = source_price a + 14 + slot_price d
  step_price (Take a rest) = source_price a + 2
  step_price (Environment number a b d e rest) =
      source_price a + source_price b + source_price (Number number) + 7 + slot_price d + slot_price e
  step_price (Call d k args rest) = sources_price args + 11 + slot_price d + entering_some (slice_get procs k)
  step_price (CallAt d f args rest) = source_price f + sources_price args + 11 + slot_price d + 25
  step_price (If cond a b one other rest) = source_price a + source_price b + 11
  step_price (Return a) = source_price a + 2 + leaving words
  step_price (TailCall k args) = sources_price args + 10 + leaving words + entering_some (slice_get procs k)
  step_price (TailCallAt f args) = source_price f + sources_price args + 10 + leaving words + 25

  -- all steps of a code in its own procedure, by the dearer of two branches
  abbrev pub code_price : Code → ℕ
  code_price Done = step_price Done
  code_price (Set d a rest) = step_price (Set d a rest) + code_price rest
  code_price (Compute op d a b rest) = step_price (Compute op d a b rest) + code_price rest
  code_price (Load d a offset rest) = step_price (Load d a offset rest) + code_price rest
  code_price (Store b a offset rest) = step_price (Store b a offset rest) + code_price rest
  code_price (CodeOf d k rest) = step_price (CodeOf d k rest) + code_price rest
  code_price (Build d args rest) = step_price (Build d args rest) + code_price rest
  code_price (Request d a rest) = step_price (Request d a rest) + code_price rest
  code_price (Take a rest) = step_price (Take a rest) + code_price rest
  code_price (Environment number a b d e rest) = step_price (Environment number a b d e rest) + code_price rest
  code_price (Call d k args rest) = step_price (Call d k args rest) + code_price rest
  code_price (CallAt d f args rest) = step_price (CallAt d f args rest) + code_price rest
  code_price (If cond a b one other rest) =
      step_price (If cond a b one other rest) + max (code_price one) (code_price other) + code_price rest
  code_price (Return a) = step_price (Return a)
  code_price (TailCall k args) = step_price (TailCall k args)
  code_price (TailCallAt f args) = step_price (TailCallAt f args)

  abbrev pub codes_price : List Code → ℕ
  codes_price [] = 0
  codes_price (r ∷ rs) = code_price r + codes_price rs

module _ (procs : List Proc) where
  -- what is left to pay of an active procedure: its code, and what stands behind the branches around it
  abbrev pub left_to_pay : Active → ℕ
  left_to_pay a = code_price procs a.count a.code + codes_price procs a.count a.rests

  -- the price of a state's next step
  abbrev pub low_price : LowState → ℕ
  low_price s = step_price procs s.active.count s.active.code

  -- a procedure of the list stands at its beginning, so nothing of it is paid
  pub record Begins (a : Active) : Type 0 where
    pub proc : Proc
    pub number : ℕ
    pub found : slice_get procs number ≡ Some proc
    pub code : a.code ≡ proc.code
    pub rests : a.rests ≡ []
    pub count : a.count ≡ proc.words

  -- the step from one state to another is paid by what is left of its procedure
  pub data Pays (s t : LowState) : Type 0 where
    -- it goes on in that procedure
    Inside : t.waiting ≡ s.waiting → low_price s + left_to_pay t.active ≤ left_to_pay s.active → Pays s t
    -- it calls another, and the rest of its own waits
    Calls : (w : Waiting) → t.waiting ≡ w ∷ s.waiting → low_price s + left_to_pay w.rest ≤ left_to_pay s.active
        → Begins t.active → Pays s t
    -- it begins another in the place of its own
    Replaces : t.waiting ≡ s.waiting → low_price s ≤ left_to_pay s.active → Begins t.active → Pays s t
    -- it answers the one that waits last, of which as much is left to pay as when it began to wait
    Returns : (w : Waiting) → s.waiting ≡ w ∷ t.waiting → left_to_pay t.active ≡ left_to_pay w.rest
        → low_price s ≤ left_to_pay s.active → Pays s t

  abbrev pub PaysNext : {V : Type 0} → LowState → Next LowState V → Type 0
  PaysNext s (Go t) = Pays s t
  PaysNext s (Stop e t) = Unit {0}

-- the prices of so many steps from a state on add up to this at most
abbrev pub CostsAtMost : {V : Type 0} → (Halt → Ending V) → Setting → ℕ → LowState → ℕ → Type 0
CostsAtMost reading setting k s price =
    (run (metered (low_price setting.procs) (low_machine reading setting)) (unspent s) k).shown.spent ≤ price
