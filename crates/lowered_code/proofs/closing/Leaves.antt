-- The code of a body leaves where what it goes on with does.
use Rattle.std.proofs.Common.{Bool, true, false, ℕ, zero, suc, ◌+◌, ◌*◌, ◌≡◌, List, [], ◌∷◌, length, ℤ, pos, refl}
use Rattle.std.proofs.Common.{◌∙◌, nat_lt, ◌==◌, ◌&&◌, slice_get, if◌then◌else◌}
use Rattle.std.specs.Prelude.{negsuc}
use Rattle.std.specs.Int.{w64, cast_unsigned}
use Rattle.std.proofs.lemmas.Bool.{or_right}
use Rattle.grift_base.specs.declared.operators.PrimOp.{PrimOp}
use Rattle.grift_base.specs.declared.operators.PrimOp.TheVariants.{Add, Sub, Mul, Quot, Rem, Lt, Le, Eq as Equal, Ge}
use Rattle.grift_base.specs.declared.operators.PrimOp.TheVariants.{Gt, Not, PrintInt, Newline, ReadInt, MakeBox}
use Rattle.grift_base.specs.declared.operators.PrimOp.TheVariants.{Unbox, BoxSet, MakeVector, VectorRef, VectorSet}
use Rattle.grift_base.specs.declared.operators.PrimOp.TheVariants.{VectorLength}
use Rattle.low_ir.specs.declared.code.WordOp.TheVariants.{Add as Plus, Sub as Minus}
use Rattle.low_ir.specs.declared.code.LowSource.{LowSource}
use Rattle.low_ir.specs.declared.code.LowSource.TheVariants.{Word, Number}
use Rattle.low_ir.specs.Procedures.{Code, Done, Set, Compute, Load, Store, CodeOf, Build, Take, Return, TailCall}
use Rattle.low_ir.specs.Procedures.{TailCallAt}
use Rattle.low_ir.specs.Procedures.{Call as CallOf, CallAt}
use Rattle.low_ir.specs.Closed.{leaves}
use Rattle.flat_ir.specs.declared.code.Operand.{Operand}
use Rattle.flat_ir.specs.declared.code.Operand.TheVariants.{Local, Captured, Sibling, Int, Bool as BoolCase}
use Rattle.flat_ir.specs.declared.code.Operand.TheVariants.{Unit as UnitCase}
use Rattle.flat_ir.specs.declared.code.Operation.{Operation}
use Rattle.flat_ir.specs.declared.code.Operation.TheVariants.{Move, Prim, Cast, Tuple, Proj, ProjDyn}
use Rattle.flat_ir.specs.Bodies.{Body, Give, Call, Choose, LetBody, LetGroup}
use Rattle.lowered_code.specs.declared.numbering.Shape.{Shape}
use Rattle.lowered_code.specs.declared.served.CastWay.{CastWay}
use Rattle.lowered_code.specs.declared.served.CastWay.TheVariants.{Called, IntoDyn, OutOfDyn}
use Rattle.lowered_code.specs.declared.served.Served.{Served}
use Rattle.lowered_code.specs.CastWays.{way_at}
use Rattle.lowered_code.specs.Numbering.{own_word, operand_word, test_word, local_word, function_offset}
use Rattle.lowered_code.specs.Numbering.{captured_offset}
use Rattle.lowered_code.specs.Emit.{header, make_cast, load_far, store_far, leader_code, leader, fetch, found}
use Rattle.lowered_code.specs.Emit.{fetch_all}
use Rattle.lowered_code.specs.Emit.{found_all, of_kind, source_at, operator, part, perform, store_captured}
use Rattle.lowered_code.specs.Emit.{store_others}
use Rattle.lowered_code.specs.Emit.{name_others, group_words, group_code, Then, ToCaller, Into, call, call_by, give}
use Rattle.lowered_code.specs.Emit.{choose}
use Rattle.lowered_code.specs.Emit.{apply_words, is_sibling, emit}
use Rattle.object_layout.specs.Kinds.{kind_number}
use Rattle.object_layout.specs.declared.kinds.Kind.TheVariants.{Closure, Tuple as TupleKind}

-- ---- what stands in front of a code leaves just where that does

load_far_leaves : (d : ℕ) (base : LowSource) (offset : ℕ) (k : Code) → leaves (load_far d base offset k) ≡ leaves k
load_far_leaves d base offset k = by (nat_lt offset 2048)
  where
    by : (b : Bool) → leaves (if b then Load d base offset k
        else Compute Plus d base (Number offset) (Load d (Word d) 0 k)) ≡ leaves k
    by true = refl
    by false = refl

store_far_leaves : (t base : ℕ) (source : LowSource) (offset : ℕ) (k : Code)
    → leaves (store_far t base source offset k) ≡ leaves k
store_far_leaves t base source offset k = by (nat_lt offset 2048)
  where
    by : (b : Bool) → leaves (if b then Store source (Word base) offset k
        else Compute Plus t (Word base) (Number offset) (Store source (Word t) 0 k)) ≡ leaves k
    by true = refl
    by false = refl

leader_leaves : (s : Shape) (d : ℕ) (k : Code) → leaves (leader_code s d k) ≡ leaves k
leader_leaves s d k = by (s.place == 0)
  where
    by : (b : Bool) → leaves (if b then k
        else Compute Minus d (Word own_word) (Number (function_offset s.captured s.place)) k) ≡ leaves k
    by true = refl
    by false = refl

fetch_leaves : (s : Shape) (d : ℕ) (o : Operand) (k : Code) → leaves (fetch s d o k) ≡ leaves k
fetch_leaves s d (Local level) k = refl
fetch_leaves s d (Captured i) k =
    leader_leaves s d (load_far d (leader s d) (captured_offset i) k)
    ∙ load_far_leaves d (leader s d) (captured_offset i) k
fetch_leaves s d (Sibling i) k =
    leader_leaves s d (Compute Plus d (leader s d) (Number (function_offset s.captured i)) k)
fetch_leaves s d (Int n) k = refl
fetch_leaves s d (BoolCase b) k = refl
fetch_leaves s d UnitCase k = refl

fetch_all_leaves : (s : Shape) (i : ℕ) (os : List Operand) (k : Code) → leaves (fetch_all s i os k) ≡ leaves k
fetch_all_leaves s i [] k = refl
fetch_all_leaves s i (o ∷ os) k =
    fetch_leaves s (operand_word s i) o (fetch_all s (suc i) os k) ∙ fetch_all_leaves s (suc i) os k

store_captured_leaves : (s : Shape) (d i : ℕ) (os : List Operand) (k : Code)
    → leaves (store_captured s d i os k) ≡ leaves k
store_captured_leaves s d i [] k = refl
store_captured_leaves s d i (o ∷ os) k =
    let w = operand_word s 0 in
    let rest = store_captured s d (suc i) os k in
    fetch_leaves s w o (store_far (test_word s) d (found s w o) (captured_offset i) rest)
    ∙ (store_far_leaves (test_word s) d (found s w o) (captured_offset i) rest ∙ store_captured_leaves s d (suc i) os k)

store_others_leaves : (s : Shape) (d captured first i n : ℕ) (k : Code)
    → leaves (store_others s d captured first i n k) ≡ leaves k
store_others_leaves s d captured first i zero k = refl
store_others_leaves s d captured first i (suc n) k =
    let w = operand_word s 0 in
    let t = test_word s in
    let rest = store_others s d captured first (suc i) n k in
    let second = store_far t d (Word w) (function_offset captured i + 8) rest in
    store_far_leaves t d (Number (header (kind_number Closure) 1)) (function_offset captured i)
    (CodeOf w (first + i) second)
    ∙ (store_far_leaves t d (Word w) (function_offset captured i + 8) rest
    ∙ store_others_leaves s d captured first (suc i) n k)

name_others_leaves : (s : Shape) (slot captured i n : ℕ) (k : Code)
    → leaves (name_others s slot captured i n k) ≡ leaves k
name_others_leaves s slot captured i zero k = refl
name_others_leaves s slot captured i (suc n) k = name_others_leaves s slot captured (suc i) n k

group_code_leaves : (s : Shape) (slot first count : ℕ) (captured : List Operand) (k : Code)
    → leaves (group_code s slot first count captured k) ≡ leaves k
group_code_leaves s slot first zero captured k = refl
group_code_leaves s slot first (suc others) captured k =
    let d = local_word s slot in
    let few = length captured in
    let names = name_others s slot few 1 others k in
    let taken = Take (Number (group_words few others)) names in
    store_captured_leaves s d 0 captured (store_others s d few first 1 others taken)
    ∙ (store_others_leaves s d few first 1 others taken ∙ name_others_leaves s slot few 1 others k)

-- ---- what goes on with a code that leaves, leaves

of_kind_leaves : (s : Shape) (o : LowSource) (kind : ℕ) (one other k : Code) → leaves k ≡ true
    → leaves (of_kind s o kind one other k) ≡ true
of_kind_leaves s o kind one other k h = or_right (leaves one && leaves other) (leaves k) h

module _ (run : Served) where
  operator_leaves : (s : Shape) (d : ℕ) (op : PrimOp) (x y z : LowSource) (k : Code) → leaves k ≡ true
      → leaves (operator run s d op x y z k) ≡ true
  operator_leaves s d Add x y z k h = h
  operator_leaves s d Sub x y z k h = h
  operator_leaves s d Mul x y z k h = h
  operator_leaves s d Quot x y z k h = h
  operator_leaves s d Rem x y z k h = h
  operator_leaves s d Lt x y z k h = h
  operator_leaves s d Gt x y z k h = h
  operator_leaves s d Le x y z k h = h
  operator_leaves s d Ge x y z k h = h
  operator_leaves s d Equal x y z k h = h
  operator_leaves s d Not x y z k h = h
  operator_leaves s d PrintInt x y z k h = h
  operator_leaves s d Newline x y z k h = h
  operator_leaves s d ReadInt x y z k h = h
  operator_leaves s d MakeBox x y z k h = h
  operator_leaves s d Unbox x y z k h =
      of_kind_leaves s x 5 (Load d x 8 Done) (CallOf d run.read (Number 0 ∷ x ∷ Number 0 ∷ []) Done) k h
  operator_leaves s d BoxSet x y z k h =
      of_kind_leaves s x 5 (Store y x 8 (Set d (Number 0) Done))
      (CallOf d run.write (Number 0 ∷ x ∷ Number 0 ∷ y ∷ []) Done) k h
  operator_leaves s d MakeVector x y z k h = h
  operator_leaves s d VectorRef x y z k h = h
  operator_leaves s d VectorSet x y z k h = h
  operator_leaves s d VectorLength x y z k h = h

  part_leaves : (s : Shape) (d : ℕ) (x : LowSource) (i : ℤ) (k : Code) → leaves k ≡ true
      → leaves (part run s d x i k) ≡ true
  part_leaves s d x (negsuc i) k h = h
  part_leaves s d x (pos i) k h = by (nat_lt i 8)
    where
      by : (b : Bool) → leaves (if b then of_kind s x 4 (Load d x (8 + 8 * i) Done)
          (CallOf d run.project (x ∷ Number i ∷ Number 1 ∷ Number 0 ∷ []) Done) k
          else CallOf d run.project (x ∷ Number (cast_unsigned w64 (pos i)) ∷ Number 1 ∷ Number 0 ∷ []) k) ≡ true
      by true =
          of_kind_leaves s x 4 (Load d x (8 + 8 * i) Done)
          (CallOf d run.project (x ∷ Number i ∷ Number 1 ∷ Number 0 ∷ []) Done) k h
      by false = h

  cast_leaves : (s : Shape) (d : ℕ) (x : LowSource) (number : ℕ) (way : CastWay) (k : Code) → leaves k ≡ true
      → leaves (make_cast run s d x number way k) ≡ true
  cast_leaves s d x number Called k h = h
  cast_leaves s d x number (IntoDyn tag) k h = h
  cast_leaves s d x number (OutOfDyn tag) k h = h

  perform_leaves : (s : Shape) (d : ℕ) (op : Operation) (k : Code) → leaves k ≡ true
      → leaves (perform run s d op k) ≡ true
  perform_leaves s d (Move o) k h =
      fetch_leaves s (operand_word s 0) o (Set d (found s (operand_word s 0) o) k) ∙ h
  perform_leaves s d (Prim op os) k h =
      let ss = found_all s 0 os in
      let rest = operator run s d op (source_at ss 0) (source_at ss 1) (source_at ss 2) k in
      fetch_all_leaves s 0 os rest ∙ operator_leaves s d op (source_at ss 0) (source_at ss 1) (source_at ss 2) k h
  perform_leaves s d (Cast o number) k h =
      let x = found s (operand_word s 0) o in
      let way = way_at (slice_get run.ways number) in
      fetch_leaves s (operand_word s 0) o (make_cast run s d x number way k) ∙ cast_leaves s d x number way k h
  perform_leaves s d (Tuple os) k h =
      fetch_all_leaves s 0 os (Build d (Number (header (kind_number TupleKind) (length os)) ∷ found_all s 0 os) k) ∙ h
  perform_leaves s d (Proj o i) k h =
      let x = found s (operand_word s 0) o in
      fetch_leaves s (operand_word s 0) o (part run s d x i k) ∙ part_leaves s d x i k h
  perform_leaves s d (ProjDyn o i label) k h =
      let x = found s (operand_word s 0) o in
      fetch_leaves s (operand_word s 0) o
      (CallOf d run.project (x ∷ Number (cast_unsigned w64 i) ∷ Number 0 ∷ Number label.0 ∷ []) k) ∙ h

  -- ---- bodies

  -- what a value goes to leaves
  abbrev pub Leaves : Then → Type 0
  Leaves ToCaller = Unit {0}
  Leaves (Into d k) = leaves k ≡ true

  call_leaves : (s : Shape) (f : LowSource) (os : List LowSource) (next : Then) → Leaves next
      → leaves (call run s f os next) ≡ true
  call_leaves s f os ToCaller h =
      of_kind_leaves s f 1 (Load (test_word s) f 8 (TailCallAt (Word (test_word s)) (f ∷ os))) Done
      (TailCall run.apply (apply_words f os)) refl
  call_leaves s f os (Into d k) h =
      of_kind_leaves s f 1 (Load (test_word s) f 8 (CallAt d (Word (test_word s)) (f ∷ os) Done))
      (CallOf d run.apply (apply_words f os) Done) k h

  call_by_leaves : (b : Bool) (s : Shape) (f : LowSource) (os : List LowSource) (next : Then) → Leaves next
      → leaves (call_by run b s f os next) ≡ true
  call_by_leaves true s f os ToCaller h = refl
  call_by_leaves true s f os (Into d k) h = h
  call_by_leaves false s f os next h = call_leaves s f os next h

  give_leaves : (s : Shape) (op : Operation) (next : Then) → Leaves next → leaves (give run s op next) ≡ true
  give_leaves s (Move o) ToCaller h = fetch_leaves s (operand_word s 0) o (Return (found s (operand_word s 0) o))
  give_leaves s (Prim op os) ToCaller h = perform_leaves s (test_word s) (Prim op os) (Return (Word (test_word s))) refl
  give_leaves s (Cast o number) ToCaller h =
      perform_leaves s (test_word s) (Cast o number) (Return (Word (test_word s))) refl
  give_leaves s (Tuple os) ToCaller h = perform_leaves s (test_word s) (Tuple os) (Return (Word (test_word s))) refl
  give_leaves s (Proj o i) ToCaller h = perform_leaves s (test_word s) (Proj o i) (Return (Word (test_word s))) refl
  give_leaves s (ProjDyn o i label) ToCaller h =
      perform_leaves s (test_word s) (ProjDyn o i label) (Return (Word (test_word s))) refl
  give_leaves s (Move o) (Into d k) h = perform_leaves s d (Move o) k h
  give_leaves s (Prim op os) (Into d k) h = perform_leaves s d (Prim op os) k h
  give_leaves s (Cast o number) (Into d k) h = perform_leaves s d (Cast o number) k h
  give_leaves s (Tuple os) (Into d k) h = perform_leaves s d (Tuple os) k h
  give_leaves s (Proj o i) (Into d k) h = perform_leaves s d (Proj o i) k h
  give_leaves s (ProjDyn o i label) (Into d k) h = perform_leaves s d (ProjDyn o i label) k h

  choose_leaves : (x : LowSource) (one other : Then → Code) (next : Then) → leaves (other ToCaller) ≡ true
      → Leaves next → leaves (choose run x one other next) ≡ true
  choose_leaves x one other ToCaller e h =
      or_right (leaves (one ToCaller) && false) (leaves (other ToCaller)) e
  choose_leaves x one other (Into d k) e h =
      or_right (leaves (one (Into d Done)) && leaves (other (Into d Done))) (leaves k) h

  pub emit_leaves : (s : Shape) (body : Body) (next : Then) → Leaves next → leaves (emit run s body next) ≡ true
  emit_leaves s (Give op) next h = give_leaves s op next h
  emit_leaves s (Call f os) next h =
      let x = found s (operand_word s 0) f in
      let ss = found_all s 1 os in
      fetch_all_leaves s 0 (f ∷ os) (call_by run (is_sibling f) s x ss next)
      ∙ call_by_leaves (is_sibling f) s x ss next h
  emit_leaves s (Choose o a b) next h =
      let x = found s (operand_word s 0) o in
      fetch_leaves s (operand_word s 0) o (choose run x (emit run s a) (emit run s b) next)
      ∙ choose_leaves x (emit run s a) (emit run s b) next (emit_leaves s b ToCaller tt) h
  emit_leaves s (LetBody slot inner rest) next h =
      emit_leaves s inner (Into (local_word s slot) (emit run s rest next)) (emit_leaves s rest next h)
  emit_leaves s (LetGroup slot first count captured rest) next h =
      group_code_leaves s slot first count captured (emit run s rest next) ∙ emit_leaves s rest next h
