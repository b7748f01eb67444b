-- The code of a program over words. Each word of a procedure becomes a virtual register of its own; numbers that an
-- item can't hold go through x5, x6 and x7. A part of code is told what comes behind it.
use Rattle.std.specs.Prelude.{Bool, true, false, ℕ, zero, suc, ◌+◌, ◌*◌, List, [], ◌∷◌, ◌++◌, length}
use Rattle.grift_base.specs.declared.environment.TheConstants.{END_CALL, REGION_OUT_CALL}
use Rattle.machine_words.specs.declared.conditions.Cond.{Cond}
use Rattle.machine_words.specs.declared.conditions.Cond.TheVariants.{Ltu}
use Rattle.low_ir.specs.declared.code.WordOp.{WordOp}
use Rattle.low_ir.specs.declared.code.WordOp.TheVariants.{Add, Sub, Sll, Srl}
use Rattle.low_ir.specs.declared.code.LowSource.{LowSource}
use Rattle.low_ir.specs.declared.code.LowSource.TheVariants.{Word, Number}
use Rattle.low_ir.specs.Procedures.{Code, Done, Set, Compute as LowCompute, Load as LowLoad, Store as LowStore}
use Rattle.low_ir.specs.Procedures.{CodeOf as LowCodeOf, Build, Request, Take, Environment as LowEnvironment}
use Rattle.low_ir.specs.Procedures.{Call as LowCall, CallAt as LowCallAt, If, Return as LowReturn}
use Rattle.low_ir.specs.Procedures.{TailCall as LowTailCall, TailCallAt as LowTailCallAt, Proc}
use Rattle.rv_select.specs.declared.convention.TheConstants.{ZERO, FIRST_SCRATCH, SECOND_SCRATCH, THIRD_SCRATCH}
use Rattle.rv_select.specs.declared.convention.TheConstants.{FIRST_ARGUMENT, SECOND_ARGUMENT, ANSWER, CALL_NUMBER}
use Rattle.rv_select.specs.declared.convention.TheConstants.{ALLOCATION, REGION_END}
use Rattle.rv_select.specs.Run.{fits_item}
use Rattle.rv_select.specs.declared.code.VReg.{VReg}
use Rattle.rv_select.specs.declared.code.VReg.TheVariants.{Real, Virtual}
use Rattle.rv_select.specs.declared.code.VirtualItem.{VirtualItem}
use Rattle.rv_select.specs.declared.code.VirtualItem.TheVariants.{Constant, Move, Compute, ComputeWith, Load, Store}
use Rattle.rv_select.specs.declared.code.VirtualItem.TheVariants.{CodeOf, Mark, Procedure, Jump, Branch, Call, CallAt}
use Rattle.rv_select.specs.declared.code.VirtualItem.TheVariants.{TailCall, TailCallAt, Return, Environment}

-- a source is put into a register
abbrev pub put_item : ℕ → VReg → LowSource → VirtualItem
put_item first rd (Word i) = Move rd (Virtual (first + i))
put_item first rd (Number n) = Constant rd n

-- the register in which a source is found, told one for numbers; 0 is always in x0
abbrev pub source_reg : ℕ → ℕ → LowSource → VReg
source_reg first r (Word i) = Virtual (first + i)
source_reg first r (Number zero) = Real ZERO
source_reg first r (Number (suc n)) = Real r

-- what puts it there
abbrev pub source_items : ℕ → LowSource → List VirtualItem
source_items r (Word i) = []
source_items r (Number zero) = []
source_items r (Number (suc n)) = Constant (Real r) (suc n) ∷ []

-- whether an operation takes a source as a small number in its item
abbrev pub is_small : WordOp → LowSource → Bool
is_small op (Word i) = false
is_small op (Number n) = fits_item op n

-- the number of a source that is one
abbrev pub number_of : LowSource → ℕ
number_of (Word i) = 0
number_of (Number n) = n

-- what puts the second source of an operation into its register, unless it stands in the item
abbrev pub second_items : Bool → LowSource → List VirtualItem
second_items true b = []
second_items false b = source_items SECOND_SCRATCH b

-- the item of an operation, whose second source stands in it or not
abbrev pub compute_item : Bool → ℕ → WordOp → VReg → LowSource → LowSource → VirtualItem
compute_item true first op rd a b = ComputeWith op rd (source_reg first FIRST_SCRATCH a) (number_of b)
compute_item false first op rd a b =
    Compute op rd (source_reg first FIRST_SCRATCH a) (source_reg first SECOND_SCRATCH b)

-- the words that a call hands on, from a number on
abbrev pub args_items : ℕ → ℕ → List LowSource → List VirtualItem
args_items first from [] = []
args_items first from (a ∷ args) = put_item first (Real (FIRST_ARGUMENT + from)) a ∷ args_items first (suc from) args

-- so many parameters, from a number on
abbrev pub params_items : ℕ → ℕ → ℕ → List VirtualItem
params_items first from zero = []
params_items first from (suc n) =
    Move (Virtual (first + from)) (Real (FIRST_ARGUMENT + from)) ∷ params_items first (suc from) n

-- words go into the room behind the allocation word, from an offset on
abbrev pub stores_items : ℕ → ℕ → List LowSource → List VirtualItem
stores_items first offset [] = []
stores_items first offset (a ∷ args) =
    source_items FIRST_SCRATCH a ++ (Store (source_reg first FIRST_SCRATCH a) (Real ALLOCATION) offset
    ∷ stores_items first (offset + 8) args)

-- ---- the parts of a code, told the first register of the procedure

module _ (first : ℕ) where
  -- a word is set to what an operation gives
  abbrev pub compute_items : WordOp → ℕ → LowSource → LowSource → List VirtualItem → List VirtualItem
  compute_items op d a b more =
      source_items FIRST_SCRATCH a ++ (second_items (is_small op b) b
      ++ (compute_item (is_small op b) first op (Virtual (first + d)) a b ∷ more))

  -- a word is loaded
  abbrev pub load_items : ℕ → LowSource → ℕ → List VirtualItem → List VirtualItem
  load_items d a offset more =
      source_items FIRST_SCRATCH a ++ (Load (Virtual (first + d)) (source_reg first FIRST_SCRATCH a) offset ∷ more)

  -- the first source is stored at the address in the second
  abbrev pub store_items : LowSource → LowSource → ℕ → List VirtualItem → List VirtualItem
  store_items b a offset more =
      source_items FIRST_SCRATCH a ++ (source_items SECOND_SCRATCH b
      ++ (Store (source_reg first SECOND_SCRATCH b) (source_reg first FIRST_SCRATCH a) offset ∷ more))

  -- the test for room, the words, and then the allocation word moves past them; told the mark behind which there is
  -- no room
  abbrev pub build_items : ℕ → ℕ → List LowSource → List VirtualItem → List VirtualItem
  build_items out d args more =
      Compute Sub (Real FIRST_SCRATCH) (Real REGION_END) (Real ALLOCATION)
      ∷ Constant (Real SECOND_SCRATCH) (8 * length args)
      ∷ Branch Ltu (Real FIRST_SCRATCH) (Real SECOND_SCRATCH) out
      ∷ (stores_items first 0 args
      ++ (Move (Virtual (first + d)) (Real ALLOCATION)
      ∷ Compute Add (Real ALLOCATION) (Real ALLOCATION) (Real SECOND_SCRATCH) ∷ more))

  -- the test for room for so many words, and a word is set to where that begins
  abbrev pub request_items : ℕ → ℕ → LowSource → List VirtualItem → List VirtualItem
  request_items out d a more =
      source_items THIRD_SCRATCH a ++ (Compute Sub (Real FIRST_SCRATCH) (Real REGION_END) (Real ALLOCATION)
      ∷ ComputeWith Srl (Real FIRST_SCRATCH) (Real FIRST_SCRATCH) 3
      ∷ Branch Ltu (Real FIRST_SCRATCH) (source_reg first THIRD_SCRATCH a) out
      ∷ Move (Virtual (first + d)) (Real ALLOCATION) ∷ more)

  -- the allocation word moves past so many words
  abbrev pub take_items : LowSource → List VirtualItem → List VirtualItem
  take_items a more =
      source_items THIRD_SCRATCH a ++ (ComputeWith Sll (Real FIRST_SCRATCH) (source_reg first THIRD_SCRATCH a) 3
      ∷ Compute Add (Real ALLOCATION) (Real ALLOCATION) (Real FIRST_SCRATCH) ∷ more)

  -- an environment call with two words, and where it goes on its two words are set
  abbrev pub environment_items : ℕ → LowSource → LowSource → ℕ → ℕ → List VirtualItem → List VirtualItem
  environment_items number a b d e more =
      put_item first (Real FIRST_ARGUMENT) a ∷ put_item first (Real SECOND_ARGUMENT) b
      ∷ Constant (Real CALL_NUMBER) number ∷ Environment ∷ Move (Virtual (first + d)) (Real FIRST_ARGUMENT)
      ∷ Move (Virtual (first + e)) (Real SECOND_ARGUMENT) ∷ more

  -- a procedure is called by its number, and a word is set to its answer
  abbrev pub call_items : ℕ → ℕ → List LowSource → List VirtualItem → List VirtualItem
  call_items d k args more =
      args_items first 0 args ++ (Call k (length args) ∷ Move (Virtual (first + d)) (Real ANSWER) ∷ more)

  -- one is called by its code address
  abbrev pub call_at_items : ℕ → LowSource → List LowSource → List VirtualItem → List VirtualItem
  call_at_items d f args more =
      source_items THIRD_SCRATCH f ++ (args_items first 0 args
      ++ (CallAt (source_reg first THIRD_SCRATCH f) (length args) ∷ Move (Virtual (first + d)) (Real ANSWER) ∷ more))

  -- goes to a mark where the condition holds
  abbrev pub branch_items : Cond → LowSource → LowSource → ℕ → List VirtualItem → List VirtualItem
  branch_items cond a b mark more =
      source_items FIRST_SCRATCH a ++ (source_items SECOND_SCRATCH b
      ++ (Branch cond (source_reg first FIRST_SCRATCH a) (source_reg first SECOND_SCRATCH b) mark ∷ more))

  -- a procedure goes on in place of this one, by its number
  abbrev pub tail_call_items : ℕ → List LowSource → List VirtualItem
  tail_call_items k args = args_items first 0 args ++ (TailCall k (length args) ∷ [])

  -- one goes on by its code address
  abbrev pub tail_call_at_items : LowSource → List LowSource → List VirtualItem
  tail_call_at_items f args =
      source_items THIRD_SCRATCH f ++ (args_items first 0 args
      ++ (TailCallAt (source_reg first THIRD_SCRATCH f) (length args) ∷ []))

-- ---- whole codes

-- how many marks a code has: each branch has two
abbrev pub marks_in : Code → ℕ
marks_in Done = 0
marks_in (Set d a rest) = marks_in rest
marks_in (LowCompute op d a b rest) = marks_in rest
marks_in (LowLoad d a offset rest) = marks_in rest
marks_in (LowStore b a offset rest) = marks_in rest
marks_in (LowCodeOf d k rest) = marks_in rest
marks_in (Build d args rest) = marks_in rest
marks_in (Request d a rest) = marks_in rest
marks_in (Take a rest) = marks_in rest
marks_in (LowEnvironment number a b d e rest) = marks_in rest
marks_in (LowCall d k args rest) = marks_in rest
marks_in (LowCallAt d f args rest) = marks_in rest
marks_in (If cond a b one other rest) = suc (suc (marks_in other)) + marks_in one + marks_in rest
marks_in (LowReturn a) = 0
marks_in (LowTailCall k args) = 0
marks_in (LowTailCallAt f args) = 0

-- told the first register of the procedure and the mark behind which a request finds no room; marks are numbered from
-- one on
module _ (first out : ℕ) where
  -- the code of a branch stands behind that of the other branch, a jump past both and its mark
  abbrev pub code_items : ℕ → Code → List VirtualItem
  code_items m Done = []
  code_items m (Set d a rest) = put_item first (Virtual (first + d)) a ∷ code_items m rest
  code_items m (LowCompute op d a b rest) = compute_items first op d a b (code_items m rest)
  code_items m (LowLoad d a offset rest) = load_items first d a offset (code_items m rest)
  code_items m (LowStore b a offset rest) = store_items first b a offset (code_items m rest)
  code_items m (LowCodeOf d k rest) = CodeOf (Virtual (first + d)) k ∷ code_items m rest
  code_items m (Build d args rest) = build_items first out d args (code_items m rest)
  code_items m (Request d a rest) = request_items first out d a (code_items m rest)
  code_items m (Take a rest) = take_items first a (code_items m rest)
  code_items m (LowEnvironment number a b d e rest) = environment_items first number a b d e (code_items m rest)
  code_items m (LowCall d k args rest) = call_items first d k args (code_items m rest)
  code_items m (LowCallAt d f args rest) = call_at_items first d f args (code_items m rest)
  code_items m (If cond a b one other rest) =
      branch_items first cond a b m (code_items (suc (suc m)) other
      ++ (Jump (suc m) ∷ Mark m ∷ (code_items (suc (suc m) + marks_in other) one
      ++ (Mark (suc m) ∷ code_items (suc (suc m) + marks_in other + marks_in one) rest))))
  code_items m (LowReturn a) = put_item first (Real ANSWER) a ∷ Return ∷ []
  code_items m (LowTailCall k args) = tail_call_items first k args
  code_items m (LowTailCallAt f args) = tail_call_at_items first f args

-- where a request finds no room; the jump is never reached
abbrev pub out_items : ℕ → List VirtualItem
out_items out =
    Mark out ∷ Constant (Real FIRST_ARGUMENT) 0 ∷ Constant (Real SECOND_ARGUMENT) 0
    ∷ Constant (Real CALL_NUMBER) REGION_OUT_CALL ∷ Environment ∷ Jump out ∷ []

-- the code of a procedure behind its mark; its own marks are numbered from one on
abbrev pub body_items : ℕ → ℕ → Proc → List VirtualItem
body_items first mark p =
    params_items first 0 p.params ++ (code_items first mark (suc mark) p.code ++ out_items mark)

-- a procedure with its mark
abbrev pub proc_items : ℕ → ℕ → ℕ → Proc → List VirtualItem
proc_items k first mark p = Procedure k first p.words ∷ body_items first mark p

-- procedures, from a number on, with their registers and marks from these on
abbrev pub procs_items : ℕ → ℕ → ℕ → List Proc → List VirtualItem
procs_items k first mark [] = []
procs_items k first mark (p ∷ ps) =
    proc_items k first mark p ++ procs_items (suc k) (first + p.words) (suc mark + marks_in p.code) ps

-- what stands behind the call of the program's first procedure: environment call 0 with kind 0 and its answer; the
-- return is never reached
abbrev pub answer_items : List VirtualItem
answer_items =
    Move (Real SECOND_ARGUMENT) (Real ANSWER) ∷ Constant (Real FIRST_ARGUMENT) 0 ∷ Constant (Real CALL_NUMBER) END_CALL
    ∷ Environment ∷ Return ∷ []

-- the code of a program, told the number of the procedure that it begins with; the marks behind those of the procedures
-- are its own
abbrev pub select_items : ℕ → List Proc → List VirtualItem
select_items entry procs = Call entry 0 ∷ (answer_items ++ procs_items 0 0 (length procs) procs)

-- how many virtual registers it has
abbrev pub registers_of : List Proc → ℕ
registers_of [] = 0
registers_of (p ∷ ps) = p.words + registers_of ps
