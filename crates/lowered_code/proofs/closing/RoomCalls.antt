-- No lowered program makes environment call 5 or 6 itself: where it stops for want of room, room is wanting.
use Rattle.std.proofs.Common.{Bool, true, false, ℕ, zero, suc, ◌+◌, ◌≡◌, ◌⊎◌, inl, inr, List, [], ◌∷◌, length}
use Rattle.std.proofs.Common.{refl, ◌∙◌, subst, sym, nat_lt, ◌==◌}
use Rattle.std.proofs.Common.{pos, negsuc, ℤ}
use Rattle.std.specs.Prelude.{slice_get}
use Rattle.grift_base.specs.Types.{TypeRow, DynRow}
use Rattle.grift_base.specs.declared.operators.PrimOp.{PrimOp}
use Rattle.grift_base.specs.declared.operators.PrimOp.TheVariants.{Add, Sub, Mul, Quot, Rem, Lt, Le, Eq as Equal, Ge}
use Rattle.grift_base.specs.declared.operators.PrimOp.TheVariants.{Gt, Not, PrintInt, Newline, ReadInt, MakeBox}
use Rattle.grift_base.specs.declared.operators.PrimOp.TheVariants.{Unbox, BoxSet, MakeVector, VectorRef, VectorSet}
use Rattle.grift_base.specs.declared.operators.PrimOp.TheVariants.{VectorLength}
use Rattle.low_ir.specs.declared.code.LowSource.{LowSource}
use Rattle.low_ir.specs.declared.code.LowSource.TheVariants.{Word}
use Rattle.low_ir.specs.Counting.{calls, any_calls}
use Rattle.low_ir.specs.Procedures.{Code, Done, Proc}
use Rattle.flat_ir.specs.declared.code.Operand.{Operand}
use Rattle.flat_ir.specs.declared.code.Operand.TheVariants.{Local, Captured, Sibling, Int, Bool as BoolCase}
use Rattle.flat_ir.specs.declared.code.Operand.TheVariants.{Unit as UnitCase}
use Rattle.flat_ir.specs.declared.code.Operation.{Operation}
use Rattle.flat_ir.specs.declared.code.Operation.TheVariants.{Move, Prim, Cast, Tuple, Proj, ProjDyn}
use Rattle.flat_ir.specs.Bodies.{Body, Give, Call, Choose, LetBody, LetGroup, Proc as FlatProc}
use Rattle.lowered_code.specs.declared.numbering.Shape.{Shape}
use Rattle.lowered_code.specs.declared.served.CastWay.{CastWay}
use Rattle.lowered_code.specs.declared.served.CastWay.TheVariants.{Called, IntoDyn, OutOfDyn}
use Rattle.lowered_code.specs.declared.served.Served.{Served}
use Rattle.lowered_code.specs.CastWays.{way_at}
use Rattle.lowered_code.specs.Numbering.{operand_word, test_word, local_word, function_offset, captured_offset}
use Rattle.lowered_code.specs.Emit.{load_far, store_far, leader_code, leader, fetch, found, fetch_all, found_all}
use Rattle.lowered_code.specs.Emit.{operator}
use Rattle.lowered_code.specs.Emit.{source_at, part, make_cast, perform, store_captured, store_others, name_others}
use Rattle.lowered_code.specs.Emit.{group_code, Then, ToCaller, Into, is_sibling, call_by, give, emit}
use Rattle.lowered_code.specs.Lowered.{shape_of, show_by, lowered}

-- the number of an environment call by which a program says that room is wanting
abbrev pub WantsRoom : ℕ → Type 0
WantsRoom number = (number ≡ 5) ⊎ (number ≡ 6)

module _ (number : ℕ) (wants : WantsRoom number) where
  abbrev Same : Code → Code → Type 0
  Same k k' = calls number k ≡ calls number k'

  no : (n : ℕ) → ((n == 5) ≡ false) → ((n == 6) ≡ false) → (n == number) ≡ false
  no n five six = by wants
    where
      by : WantsRoom number → (n == number) ≡ false
      by (inl e) = subst (λ x. (n == x) ≡ false) (sym e) five
      by (inr e) = subst (λ x. (n == x) ≡ false) (sym e) six

  -- ---- operands

  load_same : (d : ℕ) (base : LowSource) (offset : ℕ) (k : Code) → Same (load_far d base offset k) k
  load_same d base offset k = by (nat_lt offset 2048) refl
    where
      by : (b : Bool) → nat_lt offset 2048 ≡ b → Same (load_far d base offset k) k
      by true e = rw e refl
      by false e = rw e refl

  store_same : (t base : ℕ) (b : LowSource) (offset : ℕ) (k : Code) → Same (store_far t base b offset k) k
  store_same t base b offset k = by (nat_lt offset 2048) refl
    where
      by : (c : Bool) → nat_lt offset 2048 ≡ c → Same (store_far t base b offset k) k
      by true e = rw e refl
      by false e = rw e refl

  leader_same : (s : Shape) (d : ℕ) (k : Code) → Same (leader_code s d k) k
  leader_same s d k = by (s.place == 0) refl
    where
      by : (b : Bool) → (s.place == 0) ≡ b → Same (leader_code s d k) k
      by true e = rw e refl
      by false e = rw e refl

  fetch_same : (s : Shape) (d : ℕ) (o : Operand) (k : Code) → Same (fetch s d o k) k
  fetch_same s d (Local level) k = refl
  fetch_same s d (Captured i) k =
      leader_same s d (load_far d (leader s d) (captured_offset i) k)
      ∙ load_same d (leader s d) (captured_offset i) k
  fetch_same s d (Sibling i) k = leader_same s d _
  fetch_same s d (Int n) k = refl
  fetch_same s d (BoolCase b) k = refl
  fetch_same s d UnitCase k = refl

  fetch_all_same : (s : Shape) (i : ℕ) (os : List Operand) (k : Code) → Same (fetch_all s i os k) k
  fetch_all_same s i [] k = refl
  fetch_all_same s i (o ∷ os) k =
      fetch_same s (operand_word s i) o (fetch_all s (suc i) os k) ∙ fetch_all_same s (suc i) os k

  -- ---- operations

  module _ (run : Served) where
    operator_same : (s : Shape) (d : ℕ) (op : PrimOp) (a b c : LowSource) (k : Code)
        → Same (operator run s d op a b c k) k
    operator_same s d Add a b c k = refl
    operator_same s d Sub a b c k = refl
    operator_same s d Mul a b c k = refl
    operator_same s d Quot a b c k = refl
    operator_same s d Rem a b c k = refl
    operator_same s d Lt a b c k = refl
    operator_same s d Gt a b c k = refl
    operator_same s d Le a b c k = refl
    operator_same s d Ge a b c k = refl
    operator_same s d Equal a b c k = refl
    operator_same s d Not a b c k = refl
    operator_same s d PrintInt a b c k = let e = no 1 refl refl in rw e refl
    operator_same s d Newline a b c k = let e = no 2 refl refl in rw e refl
    operator_same s d ReadInt a b c k =
        let e = no 7 refl refl in
        let f = no 4 refl refl in
        rw (e, f) refl
    operator_same s d MakeBox a b c k = refl
    operator_same s d Unbox a b c k = refl
    operator_same s d BoxSet a b c k = refl
    operator_same s d MakeVector a b c k = refl
    operator_same s d VectorRef a b c k = refl
    operator_same s d VectorSet a b c k = refl
    operator_same s d VectorLength a b c k = refl

    part_same : (s : Shape) (d : ℕ) (a : LowSource) (i : ℤ) (k : Code) → Same (part run s d a i k) k
    part_same s d a (pos i) k = by (nat_lt i 8) refl
      where
        by : (b : Bool) → nat_lt i 8 ≡ b → Same (part run s d a (pos i) k) k
        by true e = rw e refl
        by false e = rw e refl
    part_same s d a (negsuc i) k = refl

    cast_same : (s : Shape) (d : ℕ) (a : LowSource) (row : ℕ) (way : CastWay) (k : Code)
        → Same (make_cast run s d a row way k) k
    cast_same s d a row Called k = refl
    cast_same s d a row (IntoDyn tag) k = refl
    cast_same s d a row (OutOfDyn tag) k = refl

    perform_same : (s : Shape) (d : ℕ) (op : Operation) (k : Code) → Same (perform run s d op k) k
    perform_same s d (Move o) k = fetch_same s (operand_word s 0) o _
    perform_same s d (Prim op os) k =
        let f = found_all s 0 os in
        fetch_all_same s 0 os (operator run s d op (source_at f 0) (source_at f 1) (source_at f 2) k)
        ∙ operator_same s d op (source_at f 0) (source_at f 1) (source_at f 2) k
    perform_same s d (Cast o row) k =
        let a = found s (operand_word s 0) o in
        fetch_same s (operand_word s 0) o (make_cast run s d a row (way_at (slice_get run.ways row)) k)
        ∙ cast_same s d a row (way_at (slice_get run.ways row)) k
    perform_same s d (Tuple os) k = fetch_all_same s 0 os _
    perform_same s d (Proj o i) k =
        fetch_same s (operand_word s 0) o (part run s d (found s (operand_word s 0) o) i k)
        ∙ part_same s d (found s (operand_word s 0) o) i k
    perform_same s d (ProjDyn o i label) k = fetch_same s (operand_word s 0) o _

  -- ---- groups

  captured_same : (s : Shape) (d i : ℕ) (os : List Operand) (k : Code) → Same (store_captured s d i os k) k
  captured_same s d i [] k = refl
  captured_same s d i (o ∷ os) k =
      let rest = store_captured s d (suc i) os k in
      fetch_same s (operand_word s 0) o
      (store_far (test_word s) d (found s (operand_word s 0) o) (captured_offset i) rest)
      ∙ (store_same (test_word s) d (found s (operand_word s 0) o) (captured_offset i) rest
      ∙ captured_same s d (suc i) os k)

  others_same : (s : Shape) (d captured first i n : ℕ) (k : Code)
      → Same (store_others s d captured first i n k) k
  others_same s d captured first i zero k = refl
  others_same s d captured first i (suc n) k =
      store_same (test_word s) d _ (function_offset captured i) _
      ∙ (store_same (test_word s) d (Word (operand_word s 0)) (function_offset captured i + 8)
      (store_others s d captured first (suc i) n k)
      ∙ others_same s d captured first (suc i) n k)

  names_same : (s : Shape) (slot captured i n : ℕ) (k : Code) → Same (name_others s slot captured i n k) k
  names_same s slot captured i zero k = refl
  names_same s slot captured i (suc n) k = names_same s slot captured (suc i) n k

  group_same : (s : Shape) (slot first count : ℕ) (captured : List Operand) (k : Code)
      → Same (group_code s slot first count captured k) k
  group_same s slot first zero captured k = refl
  group_same s slot first (suc others) captured k =
      let d = local_word s slot in
      captured_same s d 0 captured _
      ∙ (others_same s d (length captured) first 1 others _ ∙ names_same s slot (length captured) 1 others k)

  -- ---- bodies

  -- what goes on behind a body makes no such call
  abbrev Behind : Then → Type 0
  Behind ToCaller = Unit {0}
  Behind (Into d k) = calls number k ≡ false

  module _ (run : Served) where
    give_none : (s : Shape) (op : Operation) (next : Then) → Behind next → calls number (give run s op next) ≡ false
    give_none s (Move o) ToCaller h = fetch_same s (operand_word s 0) o _
    give_none s (Prim op os) ToCaller h = perform_same run s (test_word s) (Prim op os) _
    give_none s (Cast o row) ToCaller h = perform_same run s (test_word s) (Cast o row) _
    give_none s (Tuple os) ToCaller h = perform_same run s (test_word s) (Tuple os) _
    give_none s (Proj o i) ToCaller h = perform_same run s (test_word s) (Proj o i) _
    give_none s (ProjDyn o i label) ToCaller h = perform_same run s (test_word s) (ProjDyn o i label) _
    give_none s op (Into d k) h = perform_same run s d op k ∙ h

    call_none : (sibling : Bool) (s : Shape) (f : LowSource) (os : List LowSource) (next : Then) → Behind next
        → calls number (call_by run sibling s f os next) ≡ false
    call_none true s f os ToCaller h = refl
    call_none true s f os (Into d k) h = h
    call_none false s f os ToCaller h = refl
    call_none false s f os (Into d k) h = h

    emit_none : (s : Shape) (body : Body) (next : Then) → Behind next → calls number (emit run s body next) ≡ false
    emit_none s (Give op) next h = give_none s op next h
    emit_none s (Call f os) next h =
        fetch_all_same s 0 (f ∷ os) _
        ∙ call_none (is_sibling f) s (found s (operand_word s 0) f) (found_all s 1 os) next h
    emit_none s (Choose o a b) ToCaller h =
        let one = emit_none s a ToCaller h in
        let other = emit_none s b ToCaller h in
        fetch_same s (operand_word s 0) o _ ∙ rw (one, other) refl
    emit_none s (Choose o a b) (Into d k) h =
        let one = emit_none s a (Into d Done) refl in
        let other = emit_none s b (Into d Done) refl in
        fetch_same s (operand_word s 0) o _ ∙ rw (one, other) h
    emit_none s (LetBody slot inner rest) next h =
        emit_none s inner (Into (local_word s slot) (emit run s rest next)) (emit_none s rest next h)
    emit_none s (LetGroup slot first count captured rest) next h =
        group_same s slot first count captured (emit run s rest next) ∙ emit_none s rest next h

    shown_none : (answer : TypeRow) → calls number (show_by answer) ≡ false
    shown_none answer = by answer (no 0 refl refl)
      where
        by : (answer : TypeRow) → (0 == number) ≡ false → calls number (show_by answer) ≡ false
        by DynRow e = rw e refl
        by _ e = rw e refl

    pub lowered_none : (procs : List FlatProc) (entry : ℕ) (answer : TypeRow) (serving : List Proc)
        → any_calls number serving ≡ false → any_calls number (lowered run procs entry answer serving) ≡ false
    lowered_none [] entry answer serving h =
        let e = shown_none answer in rw e h
    lowered_none (p ∷ procs) entry answer serving h =
        let e = emit_none (shape_of p) p.body ToCaller tt in
        rw e (lowered_none procs entry answer serving h)
