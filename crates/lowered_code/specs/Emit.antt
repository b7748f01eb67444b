-- The code of a body.
use Rattle.std.specs.Prelude.{ℕ, zero, suc, ◌+◌, ◌*◌, ◌==◌, nat_lt, ℤ, pos, negsuc, if◌then◌else◌}
use Rattle.std.specs.Prelude.{Bool, true, false}
use Rattle.std.specs.Prelude.{List, [], ◌∷◌, length, Option, Some, None, slice_get}
use Rattle.std.specs.Int.{w64, cast_unsigned}
use Rattle.grift_base.specs.declared.operators.PrimOp.{PrimOp}
use Rattle.grift_base.specs.declared.operators.PrimOp.TheVariants.{Add, Sub, Mul, Quot, Rem, Lt, Le, Eq as Equal, Ge}
use Rattle.grift_base.specs.declared.operators.PrimOp.TheVariants.{Gt, Not, PrintInt, Newline, ReadInt, MakeBox}
use Rattle.grift_base.specs.declared.operators.PrimOp.TheVariants.{Unbox, BoxSet, MakeVector, VectorRef, VectorSet}
use Rattle.grift_base.specs.declared.operators.PrimOp.TheVariants.{VectorLength}
use Rattle.grift_base.specs.declared.verdicts.Trap.TheVariants.{Input}
use Rattle.grift_base.specs.Trap.{trap_number}
use Rattle.grift_base.specs.declared.environment.TheConstants.{PRINT_INT_CALL, PRINT_BYTE_CALL}
use Rattle.grift_base.specs.declared.environment.TheConstants.{READ_INT_CALL, TRAP_CALL}
use Rattle.object_layout.specs.declared.kinds.Kind.TheVariants.{Closure, Tuple as TupleKind, Boxed}
use Rattle.object_layout.specs.Kinds.{kind_number}
use Rattle.machine_words.specs.declared.conditions.Cond.TheVariants.{Eq, Ne}
use Rattle.low_ir.specs.declared.code.WordOp.TheVariants.{Add as Plus, Sub as Minus, And, Xor, Sll, Sra, Slt, Sltu}
use Rattle.low_ir.specs.declared.code.LowSource.{LowSource}
use Rattle.low_ir.specs.declared.code.LowSource.TheVariants.{Word, Number}
use Rattle.low_ir.specs.Procedures.{Code, Done, Set, Compute, Load, Store, CodeOf, Build, Request, Take, Environment}
use Rattle.low_ir.specs.Procedures.{Call as CallOf, CallAt, If, Return, TailCall, TailCallAt}
use Rattle.flat_ir.specs.declared.code.Operand.{Operand}
use Rattle.flat_ir.specs.declared.code.Operand.TheVariants.{Local, Captured, Sibling, Int, Bool as BoolCase}
use Rattle.flat_ir.specs.declared.code.Operand.TheVariants.{Unit as UnitCase}
use Rattle.flat_ir.specs.declared.code.Operation.{Operation}
use Rattle.flat_ir.specs.declared.code.Operation.TheVariants.{Move, Prim, Cast, Tuple, Proj, ProjDyn}
use Rattle.flat_ir.specs.Bodies.{Body, Give, Call, Choose, LetBody, LetGroup}
use Rattle.object_layout.specs.Words.{count_unit, kind_mask, tag_shift, tag_mask}
use Rattle.rt_refs.specs.CellCodes.{asks_box, asks_element, asks_length}
use Rattle.rt_refs.specs.Quotients.{asks_quotient, asks_remainder}
use Rattle.lowered_code.specs.declared.numbering.Shape.{Shape}
use Rattle.lowered_code.specs.declared.served.CastWay.{CastWay}
use Rattle.lowered_code.specs.declared.served.CastWay.TheVariants.{Called, IntoDyn, OutOfDyn}
use Rattle.lowered_code.specs.declared.served.Served.{Served}
use Rattle.lowered_code.specs.CastWays.{tag_number, way_at}
use Rattle.lowered_code.specs.Numbering.{own_word, operand_word, test_word, local_word, function_offset}
use Rattle.lowered_code.specs.Numbering.{captured_offset}

-- the byte that ends a line
abbrev line_feed : ℕ
line_feed = 10

-- the header of an object of a kind with so many words, height 0
abbrev pub header : ℕ → ℕ → ℕ
header kind count = kind + count_unit * count

-- the word of a cast; that of none is 0
abbrev pub cast_word : Option ℕ → ℕ
cast_word (Some w) = w
cast_word None = 0

-- ---- addresses

-- a word is loaded at an offset of any size from the address in a source
abbrev pub load_far : ℕ → LowSource → ℕ → Code → Code
load_far d base offset k =
    if nat_lt offset 2048 then Load d base offset k
    else Compute Plus d base (Number offset) (Load d (Word d) 0 k)

-- a source is stored at an offset of any size from the address in a word; the second word is computed in
abbrev pub store_far : ℕ → ℕ → LowSource → ℕ → Code → Code
store_far t base b offset k =
    if nat_lt offset 2048 then Store b (Word base) offset k
    else Compute Plus t (Word base) (Number offset) (Store b (Word t) 0 k)

-- ---- operands

-- the first function of the group of the procedure that runs, found in a word if it is another
abbrev pub leader_code : Shape → ℕ → Code → Code
leader_code s d k =
    if s.place == 0 then k
    else Compute Minus d (Word own_word) (Number (function_offset s.captured s.place)) k

abbrev pub leader : Shape → ℕ → LowSource
leader s d = if s.place == 0 then Word own_word else Word d

-- what is captured is loaded into a word, and a function of the group is found in it; for the others nothing is done
abbrev pub fetch : Shape → ℕ → Operand → Code → Code
fetch s d (Captured i) k = leader_code s d (load_far d (leader s d) (captured_offset i) k)
fetch s d (Sibling i) k =
    leader_code s d (Compute Plus d (leader s d) (Number (function_offset s.captured i)) k)
fetch s d o k = k

-- where an operand is then found
abbrev pub found : Shape → ℕ → Operand → LowSource
found s d (Local level) = Word (local_word s level)
found s d (Captured i) = Word d
found s d (Sibling i) = Word d
found s d (Int n) = Number (cast_unsigned w64 n)
found s d (BoolCase b) = Number (if b then 1 else 0)
found s d UnitCase = Number 0

-- operands in order, from a place on
abbrev pub fetch_all : Shape → ℕ → List Operand → Code → Code
fetch_all s i [] k = k
fetch_all s i (o ∷ os) k = fetch s (operand_word s i) o (fetch_all s (suc i) os k)

abbrev pub found_all : Shape → ℕ → List Operand → List LowSource
found_all s i [] = []
found_all s i (o ∷ os) = found s (operand_word s i) o ∷ found_all s (suc i) os

-- ---- operations

-- goes one way where the object at an address is of a kind, and else the other
abbrev pub of_kind : Shape → LowSource → ℕ → Code → Code → Code → Code
of_kind s o kind one other k =
    Load (test_word s) o 0 (
    Compute And (test_word s) (Word (test_word s)) (Number kind_mask) (
    If Eq (Word (test_word s)) (Number kind) one other k))

-- the other truth value
abbrev pub turned : ℕ → Code → Code
turned d k = Compute Xor d (Word d) (Number 1) k

-- the next number of the input is put into a word; where there is none, the program traps
abbrev pub read_number : Shape → ℕ → Code → Code
read_number s d k =
    Environment READ_INT_CALL (Number 0) (Number 0) (operand_word s 0) (test_word s) (
    If Ne (Word (test_word s)) (Number 0)
    (Environment TRAP_CALL (Number (trap_number Input)) (Number 0) (test_word s) (test_word s) Done) Done (
    Set d (Word (operand_word s 0)) k))

-- a source by its place; of an operand that isn't there, which no program lacks, it is 0
abbrev pub or_zero : Option LowSource → LowSource
or_zero (Some a) = a
or_zero None = Number 0

abbrev pub source_at : List LowSource → ℕ → LowSource
source_at os i = or_zero (slice_get os i)

module _ (run : Served) where
  -- an operator of up to three sources
  abbrev pub operator : Shape → ℕ → PrimOp → LowSource → LowSource → LowSource → Code → Code
  operator s d Add a b c k = Compute Plus d a b k
  operator s d Sub a b c k = Compute Minus d a b k
  operator s d Mul a b c k = CallOf d run.multiply (a ∷ b ∷ []) k
  operator s d Quot a b c k = CallOf d run.divide (a ∷ b ∷ Number asks_quotient ∷ []) k
  operator s d Rem a b c k = CallOf d run.divide (a ∷ b ∷ Number asks_remainder ∷ []) k
  operator s d Lt a b c k = Compute Slt d a b k
  operator s d Gt a b c k = Compute Slt d b a k
  operator s d Le a b c k = Compute Slt d b a (turned d k)
  operator s d Ge a b c k = Compute Slt d a b (turned d k)
  operator s d Equal a b c k = Compute Xor d a b (Compute Sltu d (Word d) (Number 1) k)
  operator s d Not a b c k = Compute Xor d a (Number 1) k
  operator s d PrintInt a b c k =
      Environment PRINT_INT_CALL a (Number 0) (test_word s) (test_word s) (Set d (Number 0) k)
  operator s d Newline a b c k =
      Environment PRINT_BYTE_CALL (Number line_feed) (Number 0) (test_word s) (test_word s) (Set d (Number 0) k)
  operator s d ReadInt a b c k = read_number s d k
  operator s d MakeBox a b c k = Build d (Number (header (kind_number Boxed) 1) ∷ a ∷ []) k
  operator s d Unbox a b c k =
      of_kind s a (kind_number Boxed) (Load d a 8 Done)
      (CallOf d run.read (Number asks_box ∷ a ∷ Number 0 ∷ []) Done) k
  operator s d BoxSet a b c k =
      of_kind s a (kind_number Boxed) (Store b a 8 (Set d (Number 0) Done))
      (CallOf d run.write (Number asks_box ∷ a ∷ Number 0 ∷ b ∷ []) Done) k
  operator s d MakeVector a b c k = CallOf d run.fill (a ∷ b ∷ []) k
  operator s d VectorRef a b c k = CallOf d run.read (Number asks_element ∷ a ∷ b ∷ []) k
  operator s d VectorSet a b c k = CallOf d run.write (Number asks_element ∷ a ∷ b ∷ c ∷ []) k
  operator s d VectorLength a b c k = CallOf d run.read (Number asks_length ∷ a ∷ Number 0 ∷ []) k

  -- a part of what a source is: of a tuple, or by the procedure, whose third word is 1 for a tuple and 0 for Dyn
  abbrev pub part : Shape → ℕ → LowSource → ℤ → Code → Code
  part s d a (pos i) k =
      if nat_lt i 8
      then of_kind s a (kind_number TupleKind) (Load d a (8 + 8 * i) Done)
      (CallOf d run.project (a ∷ Number i ∷ Number 1 ∷ Number 0 ∷ []) Done) k
      else CallOf d run.project (a ∷ Number (cast_unsigned w64 (pos i)) ∷ Number 1 ∷ Number 0 ∷ []) k
  part s d a (negsuc i) k =
      CallOf d run.project (a ∷ Number (cast_unsigned w64 (negsuc i)) ∷ Number 1 ∷ Number 0 ∷ []) k

  -- a cast of what a source is, by the procedure
  abbrev pub call_cast : ℕ → LowSource → ℕ → Code → Code
  call_cast d a number k = CallOf d run.cast (a ∷ Number (cast_word (slice_get run.cast_at number)) ∷ []) k

  -- in place: a word goes behind a tag where its four upper bits are alike, so that a shift by the tag's three loses
  -- nothing, and is taken from behind a tag where it has this one; each other word is handed to the procedure
  abbrev pub make_cast : Shape → ℕ → LowSource → ℕ → CastWay → Code → Code
  make_cast s d a number Called k = call_cast d a number k
  make_cast s d a number (IntoDyn tag) k =
      Compute Sll (test_word s) a (Number tag_shift) (
      Compute Sra (operand_word s 1) (Word (test_word s)) (Number tag_shift) (
      If Eq (Word (operand_word s 1)) a
      (Compute Plus d (Word (test_word s)) (Number (tag_number tag)) Done)
      (call_cast d a number Done) k))
  make_cast s d a number (OutOfDyn tag) k =
      Compute And (test_word s) a (Number tag_mask) (
      If Eq (Word (test_word s)) (Number (tag_number tag))
      (Compute Sra d a (Number tag_shift) Done)
      (call_cast d a number Done) k)

  -- the value of an operation is put into a word
  abbrev pub perform : Shape → ℕ → Operation → Code → Code
  perform s d (Move o) k = fetch s (operand_word s 0) o (Set d (found s (operand_word s 0) o) k)
  perform s d (Prim op os) k =
      let found = found_all s 0 os in
      fetch_all s 0 os (operator s d op (source_at found 0) (source_at found 1) (source_at found 2) k)
  perform s d (Cast o number) k =
      fetch s (operand_word s 0) o (
      make_cast s d (found s (operand_word s 0) o) number (way_at (slice_get run.ways number)) k)
  perform s d (Tuple os) k =
      fetch_all s 0 os (Build d (Number (header (kind_number TupleKind) (length os)) ∷ found_all s 0 os) k)
  perform s d (Proj o i) k = fetch s (operand_word s 0) o (part s d (found s (operand_word s 0) o) i k)
  perform s d (ProjDyn o i label) k =
      fetch s (operand_word s 0) o (
      CallOf d run.project
      (found s (operand_word s 0) o ∷ Number (cast_unsigned w64 i) ∷ Number 0 ∷ Number label.0 ∷ []) k)

-- ---- groups

-- the captured words of a group are stored one after another, from a place on, behind an address in a word
abbrev pub store_captured : Shape → ℕ → ℕ → List Operand → Code → Code
store_captured s d i [] k = k
store_captured s d i (o ∷ os) k =
    fetch s (operand_word s 0) o (
    store_far (test_word s) d (found s (operand_word s 0) o) (captured_offset i) (
    store_captured s d (suc i) os k))

-- the functions behind the first, so many of them, from a place of the group on
abbrev pub store_others : Shape → ℕ → ℕ → ℕ → ℕ → ℕ → Code → Code
store_others s d captured first i zero k = k
store_others s d captured first i (suc n) k =
    store_far (test_word s) d (Number (header (kind_number Closure) 1)) (function_offset captured i) (
    CodeOf (operand_word s 0) (first + i) (
    store_far (test_word s) d (Word (operand_word s 0)) (function_offset captured i + 8) (
    store_others s d captured first (suc i) n k)))

-- the local names of the functions behind the first
abbrev pub name_others : Shape → ℕ → ℕ → ℕ → ℕ → Code → Code
name_others s slot captured i zero k = k
name_others s slot captured i (suc n) k =
    Compute Plus (local_word s (slot + i)) (Word (local_word s slot)) (Number (function_offset captured i)) (
    name_others s slot captured (suc i) n k)

-- the words of a group's objects, which has one function and these many behind it
abbrev pub group_words : ℕ → ℕ → ℕ
group_words captured others = 2 + captured + 2 * others

-- A group is made: room is asked for, its objects are stored, the allocation word moves past them, and its functions
-- get their local names. What operands need is in the words to compute in.
abbrev pub make_group : Shape → ℕ → ℕ → ℕ → List Operand → Code → Code
make_group s slot first others captured k =
    let d = local_word s slot in
    Request d (Number (group_words (length captured) others)) (
    Store (Number (header (kind_number Closure) (suc (length captured)))) (Word d) 0 (
    CodeOf (operand_word s 0) first (
    Store (Word (operand_word s 0)) (Word d) 8 (
    store_captured s d 0 captured (
    store_others s d (length captured) first 1 others (
    Take (Number (group_words (length captured) others)) (
    name_others s slot (length captured) 1 others k)))))))

-- a group of so many functions, if it has one
abbrev pub group_code : Shape → ℕ → ℕ → ℕ → List Operand → Code → Code
group_code s slot first zero captured k = k
group_code s slot first (suc others) captured k = make_group s slot first others captured k

-- ---- bodies

-- where a body's value goes: to the caller, or into a word, behind which a code goes on
pub data Then : Type 0 where
  ToCaller : Then
  Into : ℕ → Code → Then

-- what the procedure for calls is handed: the function, six words, 0 where there are fewer arguments, and their number
abbrev pub apply_words : LowSource → List LowSource → List LowSource
apply_words f os =
    f ∷ source_at os 0 ∷ source_at os 1 ∷ source_at os 2 ∷ source_at os 3 ∷ source_at os 4 ∷ source_at os 5
    ∷ Number (length os) ∷ []

-- a call of a function that is no proxy, by the code address in its object
abbrev pub call_bare : Shape → LowSource → List LowSource → Then → Code
call_bare s f os ToCaller = Load (test_word s) f 8 (TailCallAt (Word (test_word s)) (f ∷ os))
call_bare s f os (Into d k) = Load (test_word s) f 8 (CallAt d (Word (test_word s)) (f ∷ os) k)

-- whether an operand is a function of the group of the procedure that runs, which is never a proxy
abbrev pub is_sibling : Operand → Bool
is_sibling (Local level) = false
is_sibling (Captured i) = false
is_sibling (Sibling i) = true
is_sibling (Int n) = false
is_sibling (BoolCase b) = false
is_sibling UnitCase = false

module _ (run : Served) where
  -- a call of any function, by the code address in its object where that is no proxy
  abbrev pub call : Shape → LowSource → List LowSource → Then → Code
  call s f os ToCaller =
      of_kind s f (kind_number Closure) (Load (test_word s) f 8 (TailCallAt (Word (test_word s)) (f ∷ os))) Done (
      TailCall run.apply (apply_words f os))
  call s f os (Into d k) =
      of_kind s f (kind_number Closure) (Load (test_word s) f 8 (CallAt d (Word (test_word s)) (f ∷ os) Done))
      (CallOf d run.apply (apply_words f os) Done) k

  -- a call of a function that is known to be no proxy, or of any
  abbrev pub call_by : Bool → Shape → LowSource → List LowSource → Then → Code
  call_by true s f os next = call_bare s f os next
  call_by false s f os next = call s f os next

  -- the value of an operation goes where it is to go
  abbrev pub give : Shape → Operation → Then → Code
  give s (Move o) ToCaller = fetch s (operand_word s 0) o (Return (found s (operand_word s 0) o))
  give s op ToCaller = perform run s (test_word s) op (Return (Word (test_word s)))
  give s op (Into d k) = perform run s d op k

  -- a test of a truth value; each branch gives its value where that is to go
  abbrev pub choose : LowSource → (Then → Code) → (Then → Code) → Then → Code
  choose a one other ToCaller = If Ne a (Number 0) (one ToCaller) Done (other ToCaller)
  choose a one other (Into d k) = If Ne a (Number 0) (one (Into d Done)) (other (Into d Done)) k

  abbrev pub emit : Shape → Body → Then → Code
  emit s (Give op) next = give s op next
  emit s (Call f os) next =
      fetch_all s 0 (f ∷ os) (call_by (is_sibling f) s (found s (operand_word s 0) f) (found_all s 1 os) next)
  emit s (Choose o a b) next =
      fetch s (operand_word s 0) o (choose (found s (operand_word s 0) o) (emit s a) (emit s b) next)
  emit s (LetBody slot inner rest) next = emit s inner (Into (local_word s slot) (emit s rest next))
  emit s (LetGroup slot first count captured rest) next = group_code s slot first count captured (emit s rest next)
