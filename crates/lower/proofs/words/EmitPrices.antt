-- What the code of a body costs in its own procedure, beside what comes after it.
use Rattle.std.proofs.Common.{◌≡◌, ℕ, zero, suc, ◌+◌, ◌*◌, ◌<◌, ◌≤◌, ℤ, pos, Bool, true, false, List, [], ◌∷◌, length}
use Rattle.std.proofs.Common.{Option, Some, None, refl, ap, arith}
use Rattle.std.specs.Prelude.{◌==◌, nat_lt, if◌then◌else◌, max, slice_get, negsuc}
use Rattle.std.specs.Int.{w64, cast_unsigned}
use Rattle.grift_base.specs.declared.operators.PrimOp.{PrimOp}
use Rattle.grift_base.specs.declared.operators.PrimOp.TheVariants.{Add, Sub, Mul, Quot, Rem, Lt, Le, Eq as Equal, Ge}
use Rattle.grift_base.specs.declared.operators.PrimOp.TheVariants.{Gt, Not, PrintInt, Newline, ReadInt, MakeBox}
use Rattle.grift_base.specs.declared.operators.PrimOp.TheVariants.{Unbox, BoxSet, MakeVector, VectorRef, VectorSet}
use Rattle.grift_base.specs.declared.operators.PrimOp.TheVariants.{VectorLength}
use Rattle.low_ir.specs.declared.code.LowSource.{LowSource}
use Rattle.low_ir.specs.declared.code.LowSource.TheVariants.{Word, Number}
use Rattle.low_ir.specs.Procedures.{Code, Done, Compute, Load, Store, Proc}
use Rattle.low_ir.specs.declared.code.WordOp.TheVariants.{Add as Plus, Sub as Minus}
use Rattle.low_ir.specs.Prices.{slot_price, source_price, sources_price, entering_some, leaving}
use Rattle.low_ir.specs.Prices.{code_price}
use Rattle.flat_ir.specs.declared.code.Operand.{Operand}
use Rattle.flat_ir.specs.declared.code.Operand.TheVariants.{Local, Captured, Sibling, Int, Bool as BoolCase}
use Rattle.flat_ir.specs.declared.code.Operand.TheVariants.{Unit as UnitCase}
use Rattle.flat_ir.specs.declared.code.Operation.{Operation}
use Rattle.flat_ir.specs.declared.code.Operation.TheVariants.{Move, Prim, Cast, Tuple, Proj, ProjDyn}
use Rattle.object_layout.specs.declared.kinds.Kind.TheVariants.{Boxed, Tuple as TupleKind, Closure}
use Rattle.object_layout.specs.Kinds.{kind_number}
use Rattle.lowered_code.specs.declared.numbering.Shape.{Shape}
use Rattle.lowered_code.specs.declared.served.CastWay.{CastWay}
use Rattle.lowered_code.specs.declared.served.CastWay.TheVariants.{Called, IntoDyn, OutOfDyn}
use Rattle.lowered_code.specs.declared.served.Served.{Served}
use Rattle.lowered_code.specs.declared.served.Tag.{Tag}
use Rattle.lowered_code.specs.declared.served.Tag.TheVariants.{Int as IntTag, Bool as BoolTag, Unit as UnitTag}
use Rattle.lowered_code.specs.CastWays.{tag_number, way_at}
use Rattle.lowered_code.specs.Numbering.{own_word, operand_word, test_word, local_word, function_offset}
use Rattle.lowered_code.specs.Numbering.{captured_offset}
use Rattle.lowered_code.specs.Emit.{header, cast_word, load_far, store_far, leader_code, leader, fetch, found}
use Rattle.lowered_code.specs.Emit.{fetch_all}
use Rattle.lowered_code.specs.Emit.{found_all, of_kind, source_at, operator, part, call_cast}
use Rattle.lowered_code.specs.Emit.{make_cast, perform, store_captured, store_others, name_others, group_words}
use Rattle.lowered_code.specs.Emit.{group_code, apply_words, call_bare, call, call_by, Then, ToCaller, Into, emit}
use Rattle.lowered_code.specs.Emit.{choose, is_sibling}
use Rattle.flat_ir.specs.Bodies.{Body, Call as BodyCall, Choose, LetGroup}
use Rattle.lower.specs.Meanings.{is_last}

-- ---- one word or source

pub slot_most : (i : ℕ) → slot_price i ≤ 13
slot_most i = by (nat_lt i 255)
  where
    by : (b : Bool) → (if b then 1 else 13) ≤ 13
    by true = omega arith
    by false = omega arith

pub slot_near : (i : ℕ) → i < 255 → slot_price i ≤ 1
slot_near i lt = by (nat_lt i 255) (grind (arith, lt))
  where
    by : (b : Bool) → b ≡ true → (if b then 1 else 13) ≤ 1
    by true e = omega arith
    by false e = absurd (let z : ⊥ = cc in z)

pub number_most : (n : ℕ) → source_price (Number n) ≤ 12
number_most n = by (nat_lt n 2048)
  where
    by : (b : Bool) → (if b then 2 else 12) ≤ 12
    by true = omega arith
    by false = omega arith

pub source_most : (a : LowSource) → source_price a ≤ 13
source_most (Word i) = slot_most i
source_most (Number n) = let z = number_most n in omega (arith, z)

pub tag_small : (tag : Tag) → source_price (Number (tag_number tag)) ≤ 2
tag_small IntTag = omega arith
tag_small BoolTag = omega arith
tag_small UnitTag = omega arith

pub entering_most : (o : Option Proc) → entering_some o ≤ 25
entering_most None = omega arith
entering_most (Some p) = by (nat_lt p.words 255)
  where
    by : (b : Bool) → (if b then 15 else 25) ≤ 25
    by true = omega arith
    by false = omega arith

pub leaving_most : (words : ℕ) → leaving words ≤ 13
leaving_most words = by (nat_lt words 255)
  where
    by : (b : Bool) → (if b then 3 else 13) ≤ 13
    by true = omega arith
    by false = omega arith

-- sources that are handed on
pub sources_most : (args : List LowSource) → sources_price args ≤ 16 * length args
sources_most [] = omega arith
sources_most (a ∷ args) = let x = source_most a in let y = sources_most args in omega (arith, x, y)

module _ (procs : List Proc) (count : ℕ) where
  abbrev pub cost : Code → ℕ
  cost k = code_price procs count k

  -- ---- addresses

  pub load_far_price : (d : ℕ) → d < 255 → (base : LowSource) → source_price base ≤ 1 → (offset : ℕ) (k : Code)
      → code_price procs count (load_far d base offset k) ≤ 18 + code_price procs count k
  load_far_price d near base one offset k = by (nat_lt offset 2048)
    where
      by : (b : Bool) → code_price procs count (if b then Load d base offset k
          else Compute Plus d base (Number offset) (Load d (Word d) 0 k)) ≤ 18 + code_price procs count k
      by true = let x = slot_near d near in omega (arith, x, one)
      by false = let x = slot_near d near in let y = number_most offset in omega (arith, x, y, one)

  pub store_far_price : (t base : ℕ) → t < 255 → (b : LowSource) (offset : ℕ) (k : Code)
      → code_price procs count (store_far t base b offset k) ≤ 29 + source_price b + code_price procs count k
  store_far_price t base near b offset k = by (nat_lt offset 2048)
    where
      by : (c : Bool) → code_price procs count (if c then Store b (Word base) offset k
          else Compute Plus t (Word base) (Number offset) (Store b (Word t) 0 k))
          ≤ 29 + source_price b + code_price procs count k
      by true = let x = slot_most base in omega (arith, x)
      by false =
          let x = slot_near t near in let y = number_most offset in let z = slot_most base in omega (arith, x, y, z)

  -- ---- operands

  module _ (s : Shape) (few : s.params ≤ 6) where
    pub computing_near : (i : ℕ) → i ≤ 8 → operand_word s i < 255
    computing_near i le = omega (arith, few, le)

    pub leader_price : (d : ℕ) → d < 255 → (k : Code)
        → code_price procs count (leader_code s d k) ≤ 15 + code_price procs count k
    leader_price d near k = by (s.place == 0)
      where
        by : (b : Bool) → code_price procs count (if b then k
            else Compute Minus d (Word own_word) (Number (function_offset s.captured s.place)) k)
            ≤ 15 + code_price procs count k
        by true = omega arith
        by false =
            let x = slot_near d near in
            let y = number_most (function_offset s.captured s.place) in
            let z = slot_near own_word (omega arith) in omega (arith, x, y, z)

    pub leader_source : (d : ℕ) → d < 255 → source_price (leader s d) ≤ 1
    leader_source d near = by (s.place == 0)
      where
        by : (b : Bool) → source_price (if b then Word own_word else Word d) ≤ 1
        by true = slot_near own_word (omega arith)
        by false = slot_near d near

    -- an operand is fetched, and used
    pub fetch_price : (d : ℕ) → d < 255 → (o : Operand) (k : Code)
        → code_price procs count (fetch s d o k) + source_price (found s d o) ≤ 34 + code_price procs count k
    fetch_price d near (Local level) k = let x = slot_most (local_word s level) in omega (arith, x)
    fetch_price d near (Captured i) k =
        let x = leader_price d near (load_far d (leader s d) (captured_offset i) k) in
        let y = load_far_price d near (leader s d) (leader_source d near) (captured_offset i) k in
        let z = slot_near d near in omega (arith, x, y, z)
    fetch_price d near (Sibling i) k =
        let x = leader_price d near (Compute Plus d (leader s d) (Number (function_offset s.captured i)) k) in
        let y = leader_source d near in
        let z = slot_near d near in
        let n = number_most (function_offset s.captured i) in omega (arith, x, y, z, n)
    fetch_price d near (Int n) k = let x = number_most (cast_unsigned w64 n) in omega (arith, x)
    fetch_price d near (BoolCase true) k = omega arith
    fetch_price d near (BoolCase false) k = omega arith
    fetch_price d near UnitCase k = omega arith

    pub fetch_all_price : (os : List Operand) (i : ℕ) → i + length os ≤ 9 → (k : Code)
        → code_price procs count (fetch_all s i os k) + sources_price (found_all s i os)
        ≤ 37 * length os + code_price procs count k
    fetch_all_price [] i le k = omega arith
    fetch_all_price (o ∷ os) i le k =
        let x = fetch_price (operand_word s i) (computing_near i (omega (arith, le))) o (fetch_all s (suc i) os k) in
        let y = fetch_all_price os (suc i) (omega (arith, le)) k in omega (arith, x, y)

    pub test_near : test_word s < 255
    test_near = omega (arith, few)

    -- ---- operations, put into any word

    pub of_kind_price : (a : LowSource) (kind : ℕ) → kind < 2048 → (one other k : Code)
        → code_price procs count (of_kind s a kind one other k)
        ≤ 34 + max (code_price procs count one) (code_price procs count other) + code_price procs count k
    of_kind_price a kind small one other k =
        let x = slot_near (test_word s) test_near in
        let y = source_most a in
        let z = number_near kind small in omega (arith, x, y, z)
      where
        number_near : (n : ℕ) → n < 2048 → source_price (Number n) ≤ 2
        number_near n lt = by (nat_lt n 2048) (grind (arith, lt))
          where
            by : (b : Bool) → b ≡ true → (if b then 2 else 12) ≤ 2
            by true e = omega arith
            by false e = absurd (let z : ⊥ = cc in z)

    module _ (run : Served) (d : ℕ) where
      call_price : (number : ℕ) (args : List LowSource) (k : Code)
          → code_price procs count (Rattle.low_ir.specs.Procedures.Call d number args k)
          ≤ 49 + 16 * length args + code_price procs count k
      call_price number args k =
          let x = slot_most d in
          let y = sources_most args in
          let z = entering_most (slice_get procs number) in omega (arith, x, y, z)

      most_of : (x y n : ℕ) → x ≤ n → y ≤ n → max x y ≤ n
      most_of x y n a b = grind (arith, a, b)

      pub operator_price : (op : PrimOp) (a b c : LowSource) (k : Code)
          → code_price procs count (operator run s d op a b c k) ≤ 150 + code_price procs count k
      operator_price Add a b c k =
          let x = source_most a in let y = source_most b in let z = slot_most d in omega (arith, x, y, z)
      operator_price Sub a b c k =
          let x = source_most a in let y = source_most b in let z = slot_most d in omega (arith, x, y, z)
      operator_price Mul a b c k = let x = call_price run.multiply (a ∷ b ∷ []) k in omega (arith, x)
      operator_price Quot a b c k = let x = call_price run.divide (a ∷ b ∷ Number 0 ∷ []) k in omega (arith, x)
      operator_price Rem a b c k = let x = call_price run.divide (a ∷ b ∷ Number 1 ∷ []) k in omega (arith, x)
      operator_price Lt a b c k =
          let x = source_most a in let y = source_most b in let z = slot_most d in omega (arith, x, y, z)
      operator_price Gt a b c k =
          let x = source_most a in let y = source_most b in let z = slot_most d in omega (arith, x, y, z)
      operator_price Le a b c k =
          let x = source_most a in let y = source_most b in let z = slot_most d in omega (arith, x, y, z)
      operator_price Ge a b c k =
          let x = source_most a in let y = source_most b in let z = slot_most d in omega (arith, x, y, z)
      operator_price Equal a b c k =
          let x = source_most a in let y = source_most b in let z = slot_most d in omega (arith, x, y, z)
      operator_price Not a b c k = let x = source_most a in let z = slot_most d in omega (arith, x, z)
      operator_price PrintInt a b c k =
          let x = source_most a in
          let z = slot_most d in let t = slot_near (test_word s) test_near in omega (arith, x, z, t)
      operator_price Newline a b c k =
          let z = slot_most d in let t = slot_near (test_word s) test_near in omega (arith, z, t)
      operator_price ReadInt a b c k =
          let z = slot_most d in
          let t = slot_near (test_word s) test_near in
          let o = slot_near (operand_word s 0) (computing_near 0 (omega arith)) in grind (arith, z, t, o)
      operator_price MakeBox a b c k =
          let x = source_most a in
          let n = number_most (header (kind_number Boxed) 1) in let z = slot_most d in omega (arith, x, z, n)
      operator_price Unbox a b c k =
          let one : Code = Load d a 8 Done in
          let other : Code = Rattle.low_ir.specs.Procedures.Call d run.read (Number 0 ∷ a ∷ Number 0 ∷ []) Done in
          let x = of_kind_price a 5 (omega arith) one other k in
          let y = call_price run.read (Number 0 ∷ a ∷ Number 0 ∷ []) Done in
          let z = slot_most d in
          let w = source_most a in
          let m = most_of (code_price procs count one) (code_price procs count other) 116 (omega (arith, z, w))
          (omega (arith, y)) in omega (arith, x, m)
      operator_price BoxSet a b c k =
          let one : Code = Store b a 8 (Rattle.low_ir.specs.Procedures.Set d (Number 0) Done) in
          let other : Code = Rattle.low_ir.specs.Procedures.Call d run.write (Number 0 ∷ a ∷ Number 0 ∷ b ∷ []) Done in
          let x = of_kind_price a 5 (omega arith) one other k in
          let y = box_call a b in
          let z = slot_most d in
          let w = source_most a in
          let v = source_most b in
          let m = most_of (code_price procs count one) (code_price procs count other) 116 (omega (arith, z, w, v))
          (omega (arith, y)) in omega (arith, x, m)
        where
          box_call : (a b : LowSource) → code_price procs count
              (Rattle.low_ir.specs.Procedures.Call d run.write (Number 0 ∷ a ∷ Number 0 ∷ b ∷ []) Done) ≤ 101
          box_call a b =
              let x = source_most a in
              let y = source_most b in
              let z = slot_most d in let e = entering_most (slice_get procs run.write) in omega (arith, x, y, z, e)
      operator_price MakeVector a b c k = let x = call_price run.fill (a ∷ b ∷ []) k in omega (arith, x)
      operator_price VectorRef a b c k = let x = call_price run.read (Number 1 ∷ a ∷ b ∷ []) k in omega (arith, x)
      operator_price VectorSet a b c k = let x = call_price run.write (Number 1 ∷ a ∷ b ∷ c ∷ []) k in omega (arith, x)
      operator_price VectorLength a b c k =
          let x = call_price run.read (Number 2 ∷ a ∷ Number 0 ∷ []) k in omega (arith, x)

      pub make_cast_price : (a : LowSource) (number : ℕ) (way : CastWay) (k : Code)
          → code_price procs count (make_cast run s d a number way k) ≤ 140 + code_price procs count k
      make_cast_price a number Called k =
          let x = call_price run.cast (a ∷ Number (cast_word (slice_get run.cast_at number)) ∷ []) k in omega (arith, x)
      make_cast_price a number (IntoDyn tag) k =
          let t = slot_near (test_word s) test_near in
          let o = slot_near (operand_word s 1) (computing_near 1 (omega arith)) in
          let one : Code = Compute Plus d (Word (test_word s)) (Number (tag_number tag)) Done in
          let other : Code = call_cast run d a number Done in
          let x = call_price run.cast (a ∷ Number (cast_word (slice_get run.cast_at number)) ∷ []) Done in
          let w = source_most a in
          let z = slot_most d in
          let n = tag_small tag in
          let m = most_of (code_price procs count one) (code_price procs count other) 91 (omega (arith, z, t, n))
          (omega (arith, x)) in omega (arith, t, o, w, m)
      make_cast_price a number (OutOfDyn tag) k =
          let t = slot_near (test_word s) test_near in
          let one : Code = Compute Rattle.low_ir.specs.declared.code.WordOp.TheVariants.Sra d a (Number 3) Done in
          let other : Code = call_cast run d a number Done in
          let x = call_price run.cast (a ∷ Number (cast_word (slice_get run.cast_at number)) ∷ []) Done in
          let w = source_most a in
          let z = slot_most d in
          let n = tag_small tag in
          let m = most_of (code_price procs count one) (code_price procs count other) 91 (omega (arith, z, w))
          (omega (arith, x)) in omega (arith, t, n, w, m)

      pub part_price : (a : LowSource) (i : ℤ) (k : Code)
          → code_price procs count (part run s d a i k) ≤ 160 + code_price procs count k
      part_price a (pos i) k = by (nat_lt i 8)
        where
          by : (b : Bool) → code_price procs count (if b
              then of_kind s a (kind_number TupleKind) (Load d a (8 + 8 * i) Done)
              (Rattle.low_ir.specs.Procedures.Call d run.project (a ∷ Number i ∷ Number 1 ∷ Number 0 ∷ []) Done) k
              else Rattle.low_ir.specs.Procedures.Call d run.project
              (a ∷ Number (cast_unsigned w64 (pos i)) ∷ Number 1 ∷ Number 0 ∷ []) k)
              ≤ 160 + code_price procs count k
          by true =
              let one : Code = Load d a (8 + 8 * i) Done in
              let other : Code = Rattle.low_ir.specs.Procedures.Call d run.project
              (a ∷ Number i ∷ Number 1 ∷ Number 0 ∷ []) Done in
              let x = of_kind_price a 4 (omega arith) one other k in
              let y = call_price run.project (a ∷ Number i ∷ Number 1 ∷ Number 0 ∷ []) Done in
              let z = slot_most d in
              let w = source_most a in
              let m = most_of (code_price procs count one) (code_price procs count other) 123 (omega (arith, z, w))
              (omega (arith, y)) in omega (arith, x, m)
          by false =
              let y = call_price run.project (a ∷ Number (cast_unsigned w64 (pos i)) ∷ Number 1 ∷ Number 0 ∷ []) k in
              omega (arith, y)
      part_price a (negsuc i) k =
          let y = call_price run.project (a ∷ Number (cast_unsigned w64 (negsuc i)) ∷ Number 1 ∷ Number 0 ∷ []) k in
          omega (arith, y)

      -- of an operation: what its operands and its own code cost
      pub cast_price : (o : Operand) (number : ℕ) (k : Code)
          → code_price procs count (perform run s d (Cast o number) k) ≤ 174 + code_price procs count k
      cast_price o number k =
          let t = operand_word s 0 in
          let own = make_cast run s d (found s t o) number (way_at (slice_get run.ways number)) k in
          let x = fetch_price t (computing_near 0 (omega arith)) o own in
          let y = make_cast_price (found s t o) number (way_at (slice_get run.ways number)) k in omega (arith, x, y)

      pub proj_price : (o : Operand) (i : ℤ) (k : Code)
          → code_price procs count (perform run s d (Proj o i) k) ≤ 194 + code_price procs count k
      proj_price o i k =
          let t = operand_word s 0 in
          let x = fetch_price t (computing_near 0 (omega arith)) o (part run s d (found s t o) i k) in
          let y = part_price (found s t o) i k in omega (arith, x, y)

      pub dyn_price : (o : Operand) (i : ℤ) (label : ℕ) (k : Code)
          → code_price procs count (fetch_all s 0 (o ∷ []) (Rattle.low_ir.specs.Procedures.Call d run.project
          (found s (operand_word s 0) o ∷ Number (cast_unsigned w64 i) ∷ Number 0 ∷ Number label ∷ []) k))
          ≤ 194 + code_price procs count k
      dyn_price o i label k =
          let t = operand_word s 0 in
          let args = found s t o ∷ Number (cast_unsigned w64 i) ∷ Number 0 ∷ Number label ∷ [] in
          let x = fetch_price t (computing_near 0 (omega arith)) o
          (Rattle.low_ir.specs.Procedures.Call d run.project args k) in
          let y = call_price run.project args k in omega (arith, x, y)

      pub prim_price : (op : PrimOp) (os : List Operand) → length os ≤ 8 → (k : Code)
          → code_price procs count (perform run s d (Prim op os) k) ≤ 150 + 37 * length os + code_price procs count k
      prim_price op os le k =
          let f = found_all s 0 os in
          let x = fetch_all_price os 0 (omega (arith, le))
          (operator run s d op (source_at f 0) (source_at f 1) (source_at f 2) k) in
          let y = operator_price op (source_at f 0) (source_at f 1) (source_at f 2) k in omega (arith, x, y, le)

      pub tuple_price : (os : List Operand) → length os ≤ 8 → (k : Code)
          → code_price procs count (perform run s d (Tuple os) k) ≤ 340 + code_price procs count k
      tuple_price os le k =
          let f = found_all s 0 os in
          let x = fetch_all_price os 0 (omega (arith, le))
          (Rattle.low_ir.specs.Procedures.Build d (Number (header (kind_number TupleKind) (length os)) ∷ f) k) in
          let y = number_most (header (kind_number TupleKind) (length os)) in
          let z = slot_most d in omega (arith, x, y, z, le)

      pub move_price : (o : Operand) (k : Code)
          → code_price procs count (perform run s d (Move o) k) ≤ 48 + code_price procs count k
      move_price o k =
          let t = operand_word s 0 in
          let x = fetch_price t (computing_near 0 (omega arith)) o
          (Rattle.low_ir.specs.Procedures.Set d (found s t o) k) in
          let z = slot_most d in omega (arith, x, z)

    -- ---- groups

    pub captured_price : (d : ℕ) (os : List Operand) (i : ℕ) (k : Code)
        → code_price procs count (store_captured s d i os k) ≤ 63 * length os + code_price procs count k
    captured_price d [] i k = omega arith
    captured_price d (o ∷ os) i k =
        let t = operand_word s 0 in
        let more = store_captured s d (suc i) os k in
        let x = fetch_price t (computing_near 0 (omega arith)) o
        (store_far (test_word s) d (found s t o) (captured_offset i) more) in
        let y = store_far_price (test_word s) d test_near (found s t o) (captured_offset i) more in
        let z = captured_price d os (suc i) k in omega (arith, x, y, z)

    pub others_price : (d captured first i n : ℕ) (k : Code)
        → code_price procs count (store_others s d captured first i n k) ≤ 82 * n + code_price procs count k
    others_price d captured first i zero k = omega arith
    others_price d captured first i (suc n) k =
        let next = store_others s d captured first (suc i) n k in
        let second = store_far (test_word s) d (Word (operand_word s 0)) (function_offset captured i + 8) next in
        let x = store_far_price (test_word s) d test_near (Number (header (kind_number Closure) 1))
        (function_offset captured i)
        (Rattle.low_ir.specs.Procedures.CodeOf (operand_word s 0) (first + i) second) in
        let y = store_far_price (test_word s) d test_near (Word (operand_word s 0))
        (function_offset captured i + 8) next
        in
        let o = slot_near (operand_word s 0) (computing_near 0 (omega arith)) in
        let h = number_most (header (kind_number Closure) 1) in
        let z = others_price d captured first (suc i) n k in omega (arith, x, y, z, o, h)

    pub names_price : (slot captured i n : ℕ) (k : Code)
        → code_price procs count (name_others s slot captured i n k) ≤ 39 * n + code_price procs count k
    names_price slot captured i zero k = omega arith
    names_price slot captured i (suc n) k =
        let x = slot_most (local_word s (slot + i)) in
        let y = slot_most (local_word s slot) in
        let h = number_most (function_offset captured i) in
        let z = names_price slot captured (suc i) n k in omega (arith, x, y, z, h)

    pub group_price : (slot first many : ℕ) (captured : List Operand) (k : Code)
        → code_price procs count (group_code s slot first many captured k)
        ≤ 105 + 63 * length captured + 121 * many + code_price procs count k
    group_price slot first zero captured k = omega arith
    group_price slot first (suc others) captured k =
        let d = local_word s slot in
        let n = length captured in
        let names = name_others s slot n 1 others k in
        let taking = Rattle.low_ir.specs.Procedures.Take (Number (group_words n others)) names in
        let rest = store_others s d n first 1 others taking in
        let a = names_price slot n 1 others k in
        let b = others_price d n first 1 others taking in
        let c = captured_price d captured 0 rest in
        let o = slot_near (operand_word s 0) (computing_near 0 (omega arith)) in
        let y = slot_most d in
        let h = number_most (header (kind_number Closure) (suc n)) in
        let w = number_most (group_words n others) in omega (arith, a, b, c, o, y, h, w)

    -- ---- calls

    -- what comes behind a value's place
    abbrev pub then_price : Then → ℕ
    then_price ToCaller = 0
    then_price (Into d k) = code_price procs count k

    at_most : (x y n : ℕ) → x ≤ n → y ≤ n → max x y ≤ n
    at_most x y n a b = grind (arith, a, b)

    -- a place where there is no argument is handed on as 0
    handed_price : (os : List LowSource) → source_price (source_at os 0) + source_price (source_at os 1)
        + source_price (source_at os 2) + source_price (source_at os 3) + source_price (source_at os 4)
        + source_price (source_at os 5) ≤ sources_price os + 12
    handed_price [] = omega arith
    handed_price (a ∷ []) = omega arith
    handed_price (a ∷ b ∷ []) = omega arith
    handed_price (a ∷ b ∷ c ∷ []) = omega arith
    handed_price (a ∷ b ∷ c ∷ d ∷ []) = omega arith
    handed_price (a ∷ b ∷ c ∷ d ∷ e ∷ []) = omega arith
    handed_price (a ∷ b ∷ c ∷ d ∷ e ∷ f ∷ os) = omega arith

    apply_price : (f : LowSource) (os : List LowSource) → length os ≤ 6
        → sources_price (apply_words f os) ≤ sources_price (f ∷ os) + 35
    apply_price f os le =
        let x = handed_price os in
        let n = few_price (length os) le in omega (arith, x, n)
      where
        few_price : (n : ℕ) → n ≤ 6 → source_price (Number n) ≤ 2
        few_price n le = by (nat_lt n 2048) (grind (arith, le))
          where
            by : (b : Bool) → b ≡ true → (if b then 2 else 12) ≤ 2
            by true e = omega arith
            by false e = absurd (let z : ⊥ = cc in z)

    call_bare_price : (f : LowSource) (os : List LowSource) (next : Then)
        → code_price procs count (call_bare s f os next) ≤ 66 + sources_price (f ∷ os) + then_price next
    call_bare_price f os ToCaller =
        let t = slot_near (test_word s) test_near in
        let x = source_most f in
        let z = leaving_most count in omega (arith, t, x, z)
    call_bare_price f os (Into d k) =
        let t = slot_near (test_word s) test_near in
        let x = source_most f in
        let z = slot_most d in omega (arith, t, x, z)

    call_any_price : (run : Served) (f : LowSource) (os : List LowSource) → length os ≤ 6 → (next : Then)
        → code_price procs count (call run s f os next) ≤ 185 + 2 * sources_price (f ∷ os) + then_price next
    call_any_price run f os le ToCaller =
        let one = call_bare s f os ToCaller in
        let x = of_kind_price f 1 (omega arith) one Done
        (Rattle.low_ir.specs.Procedures.TailCall run.apply (apply_words f os)) in
        let y = call_bare_price f os ToCaller in
        let z = apply_price f os le in
        let w = leaving_most count in
        let e = entering_most (slice_get procs run.apply) in
        let m = at_most (code_price procs count one) 10 (66 + sources_price (f ∷ os)) (omega (arith, y))
        (omega arith) in
        omega (arith, x, z, w, e, m)
    call_any_price run f os le (Into d k) =
        let one = call_bare s f os (Into d Done) in
        let other = Rattle.low_ir.specs.Procedures.Call d run.apply (apply_words f os) Done in
        let x = of_kind_price f 1 (omega arith) one other k in
        let y = call_bare_price f os (Into d Done) in
        let z = apply_price f os le in
        let w = slot_most d in
        let e = entering_most (slice_get procs run.apply) in
        let m = at_most (code_price procs count one) (code_price procs count other) (100 + sources_price (f ∷ os))
        (omega (arith, y)) (omega (arith, z, w, e)) in
        omega (arith, x, m)

    pub call_price_all : (run : Served) (f : Operand) (os : List Operand) → length os ≤ 6 → (next : Then)
        → code_price procs count (emit run s (BodyCall f os) next) ≤ 556 + then_price next
    call_price_all run f os le next =
        let x = fetch_all_price (f ∷ os) 0 (omega (arith, le))
        (call_by run (is_sibling f) s (found s (operand_word s 0) f) (found_all s 1 os) next) in
        let y = by (is_sibling f) in
        let n = as_long os 1 in
        let m = sources_most (found_all s 0 (f ∷ os)) in omega (arith, x, y, le, n, m)
      where
        as_long : (os : List Operand) (i : ℕ) → length (found_all s i os) ≡ length os
        as_long [] i = refl
        as_long (o ∷ os) i = ap suc (as_long os (suc i))

        by : (b : Bool) → code_price procs count
            (call_by run b s (found s (operand_word s 0) f) (found_all s 1 os) next)
            ≤ 185 + 2 * sources_price (found_all s 0 (f ∷ os)) + then_price next
        by true =
            let w = call_bare_price (found s (operand_word s 0) f) (found_all s 1 os) next in omega (arith, w)
        by false =
            let z = as_long os 1 in
            call_any_price run (found s (operand_word s 0) f) (found_all s 1 os) (omega (arith, z, le)) next

-- ---- no operation, call, test or group begins with a step that leaves the procedure

module _ (run : Served) (s : Shape) where
  abbrev Begins : Code → Type 0
  Begins k = is_last k ≡ false

  fetch_begins : (d : ℕ) (o : Operand) (k : Code) → Begins k → Begins (fetch s d o k)
  fetch_begins d (Local level) k h = h
  fetch_begins d (Captured i) k h = by_place (s.place == 0) (nat_lt (captured_offset i) 2048)
    where
      by_place : (b c : Bool) → Begins (
          if b then (if c then Load d (leader s d) (captured_offset i) k
          else Compute Plus d (leader s d) (Number (captured_offset i)) (Load d (Word d) 0 k))
          else Compute Minus d (Word own_word) (Number (function_offset s.captured s.place))
          (if c then Load d (leader s d) (captured_offset i) k
          else Compute Plus d (leader s d) (Number (captured_offset i)) (Load d (Word d) 0 k)))
      by_place true true = refl
      by_place true false = refl
      by_place false c = refl
  fetch_begins d (Sibling i) k h = by_place (s.place == 0)
    where
      by_place : (b : Bool) → Begins (
          if b then Compute Plus d (leader s d) (Number (function_offset s.captured i)) k
          else Compute Minus d (Word own_word) (Number (function_offset s.captured s.place))
          (Compute Plus d (leader s d) (Number (function_offset s.captured i)) k))
      by_place true = refl
      by_place false = refl
  fetch_begins d (Int n) k h = h
  fetch_begins d (BoolCase b) k h = h
  fetch_begins d UnitCase k h = h

  fetch_all_begins : (i : ℕ) (os : List Operand) (k : Code) → Begins k → Begins (fetch_all s i os k)
  fetch_all_begins i [] k h = h
  fetch_all_begins i (o ∷ os) k h =
      fetch_begins (operand_word s i) o (fetch_all s (suc i) os k) (fetch_all_begins (suc i) os k h)

  operator_begins : (d : ℕ) (op : PrimOp) (a b c : LowSource) (k : Code) → Begins (operator run s d op a b c k)
  operator_begins d Add a b c k = refl
  operator_begins d Sub a b c k = refl
  operator_begins d Mul a b c k = refl
  operator_begins d Quot a b c k = refl
  operator_begins d Rem a b c k = refl
  operator_begins d Lt a b c k = refl
  operator_begins d Gt a b c k = refl
  operator_begins d Le a b c k = refl
  operator_begins d Ge a b c k = refl
  operator_begins d Equal a b c k = refl
  operator_begins d Not a b c k = refl
  operator_begins d PrintInt a b c k = refl
  operator_begins d Newline a b c k = refl
  operator_begins d ReadInt a b c k = refl
  operator_begins d MakeBox a b c k = refl
  operator_begins d Unbox a b c k = refl
  operator_begins d BoxSet a b c k = refl
  operator_begins d MakeVector a b c k = refl
  operator_begins d VectorRef a b c k = refl
  operator_begins d VectorSet a b c k = refl
  operator_begins d VectorLength a b c k = refl

  cast_begins : (d : ℕ) (a : LowSource) (number : ℕ) (way : CastWay) (k : Code)
      → Begins (make_cast run s d a number way k)
  cast_begins d a number Called k = refl
  cast_begins d a number (IntoDyn tag) k = refl
  cast_begins d a number (OutOfDyn tag) k = refl

  part_begins : (d : ℕ) (a : LowSource) (i : ℤ) (k : Code) → Begins (part run s d a i k)
  part_begins d a (pos i) k = by (nat_lt i 8)
    where
      by : (b : Bool) → Begins (if b
          then of_kind s a (kind_number TupleKind) (Load d a (8 + 8 * i) Done)
          (Rattle.low_ir.specs.Procedures.Call d run.project (a ∷ Number i ∷ Number 1 ∷ Number 0 ∷ []) Done) k
          else Rattle.low_ir.specs.Procedures.Call d run.project
          (a ∷ Number (cast_unsigned w64 (pos i)) ∷ Number 1 ∷ Number 0 ∷ []) k)
      by true = refl
      by false = refl
  part_begins d a (negsuc i) k = refl

  pub perform_begins : (d : ℕ) (op : Operation) (k : Code) → Begins (perform run s d op k)
  perform_begins d (Move o) k = fetch_begins (operand_word s 0) o _ refl
  perform_begins d (Prim op os) k =
      fetch_all_begins 0 os _ (operator_begins d op (source_at (found_all s 0 os) 0) (source_at (found_all s 0 os) 1)
      (source_at (found_all s 0 os) 2) k)
  perform_begins d (Cast o number) k =
      fetch_begins (operand_word s 0) o _ (cast_begins d (found s (operand_word s 0) o) number
      (way_at (slice_get run.ways number)) k)
  perform_begins d (Tuple os) k = fetch_all_begins 0 os _ refl
  perform_begins d (Proj o i) k = fetch_begins (operand_word s 0) o _ (part_begins d (found s (operand_word s 0) o) i k)
  perform_begins d (ProjDyn o i label) k = fetch_begins (operand_word s 0) o _ refl

  pub dyn_begins : (d : ℕ) (o : Operand) (i : ℤ) (label : ℕ) (k : Code) → Begins (fetch_all s 0 (o ∷ [])
      (Rattle.low_ir.specs.Procedures.Call d run.project
      (found s (operand_word s 0) o ∷ Number (cast_unsigned w64 i) ∷ Number 0 ∷ Number label ∷ []) k))
  dyn_begins d o i label k = fetch_begins (operand_word s 0) o _ refl

  call_begins : (b : Bool) (f : LowSource) (os : List LowSource) (next : Then) → Begins (call_by run b s f os next)
  call_begins true f os ToCaller = refl
  call_begins true f os (Into d k) = refl
  call_begins false f os ToCaller = refl
  call_begins false f os (Into d k) = refl

  choose_begins : (a : LowSource) (one other : Then → Code) (next : Then) → Begins (choose run a one other next)
  choose_begins a one other ToCaller = refl
  choose_begins a one other (Into d k) = refl

  pub call_body_begins : (f : Operand) (os : List Operand) (next : Then) → Begins (emit run s (BodyCall f os) next)
  call_body_begins f os next =
      fetch_all_begins 0 (f ∷ os) _ (call_begins (is_sibling f) (found s (operand_word s 0) f) (found_all s 1 os) next)

  pub choose_body_begins : (o : Operand) (a b : Body) (next : Then) → Begins (emit run s (Choose o a b) next)
  choose_body_begins o a b next =
      fetch_begins (operand_word s 0) o _ (choose_begins (found s (operand_word s 0) o) (emit run s a) (emit run s b)
      next)

  pub group_body_begins : (slot first others : ℕ) (captured : List Operand) (rest : Body) (next : Then)
      → Begins (emit run s (LetGroup slot first (suc others) captured rest) next)
  group_body_begins slot first others captured rest next = refl
