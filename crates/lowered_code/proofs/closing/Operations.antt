-- Operations put their value into a word.
use Rattle.std.proofs.Common.{Bool, true, false, ℕ, suc, ◌+◌, ◌*◌, ◌<◌, ◌≡◌, List, [], ◌∷◌, length, ℤ, pos}
use Rattle.std.proofs.Common.{Option, Some, None, refl, sym, ap, subst, arith, nat_lt, nat_le, ◌==◌, ◌&&◌, slice_get}
use Rattle.std.proofs.Common.{if◌then◌else◌}
use Rattle.std.specs.Prelude.{negsuc}
use Rattle.std.specs.Int.{w64, cast_unsigned}
use Rattle.std.proofs.lemmas.Bool.{and_parts, lt-ltb, ltb-true, leb-true, eq-eqb, eqb-true}
use Rattle.grift_base.specs.declared.operators.PrimOp.{PrimOp}
use Rattle.grift_base.specs.declared.operators.PrimOp.TheVariants.{Add, Sub, Mul, Quot, Rem, Lt, Le, Eq as Equal, Ge}
use Rattle.grift_base.specs.declared.operators.PrimOp.TheVariants.{Gt, Not, PrintInt, Newline, ReadInt, MakeBox}
use Rattle.grift_base.specs.declared.operators.PrimOp.TheVariants.{Unbox, BoxSet, MakeVector, VectorRef, VectorSet}
use Rattle.grift_base.specs.declared.operators.PrimOp.TheVariants.{VectorLength}
use Rattle.machine_words.specs.declared.conditions.Cond.TheVariants.{Eq, Ne}
use Rattle.low_ir.specs.declared.code.WordOp.TheVariants.{Add as Plus, Sub as Minus, And, Xor, Sll, Sra, Slt, Sltu}
use Rattle.low_ir.specs.declared.code.WordOp.{WordOp}
use Rattle.low_ir.specs.declared.code.LowSource.{LowSource}
use Rattle.low_ir.specs.declared.code.LowSource.TheVariants.{Word, Number}
use Rattle.low_ir.specs.Procedures.{Code, Done, Set, Compute, Load, Store, Build, Environment, Call as CallOf, If, Proc}
use Rattle.low_ir.specs.Closed.{all_words, takes_words}
use Rattle.flat_ir.specs.declared.code.Operand.{Operand}
use Rattle.flat_ir.specs.declared.code.Operation.{Operation}
use Rattle.flat_ir.specs.declared.code.Operation.TheVariants.{Move, Prim, Cast, Tuple, Proj, ProjDyn}
use Rattle.flat_ir.specs.Closed.{operand_bound, operands_bound, operation_bound, part_has_words}
use Rattle.object_layout.specs.Words.{kind_mask}
use Rattle.lowered_code.specs.declared.numbering.Shape.{Shape}
use Rattle.lowered_code.specs.declared.served.CastWay.{CastWay}
use Rattle.lowered_code.specs.declared.served.CastWay.TheVariants.{Called, IntoDyn, OutOfDyn}
use Rattle.lowered_code.specs.declared.served.Served.{Served}
use Rattle.lowered_code.specs.CastWays.{tag_number, way_at}
use Rattle.lowered_code.specs.Numbering.{operand_word, test_word}
use Rattle.lowered_code.specs.Emit.{header, cast_word, found, found_all, of_kind, turned, source_at, operator}
use Rattle.lowered_code.specs.Emit.{part, perform, read_number, call_cast, make_cast}
use Rattle.lowered_code.specs.Serving.{takes, Serve}
use Rattle.lowered_code.proofs.closing.Knowledge.{Known, More, more_then, more_both, Reads, AllRead, read_more}
use Rattle.lowered_code.proofs.closing.Knowledge.{read_word, read_then, read_two, Ends, Onward}
use Rattle.lowered_code.proofs.closing.Knowledge.{ends_done, set_ends, compute_ends, load_ends, store_ends, build_ends}
use Rattle.lowered_code.proofs.closing.Knowledge.{more_same, environment_ends, two_words_end, call_ends, if_ends}
use Rattle.lowered_code.proofs.closing.Operands.{Ready, fetch_ends, fetch_all_ends, source_read}
use Rattle.object_layout.specs.Kinds.{kind_number}
use Rattle.object_layout.specs.declared.kinds.Kind.TheVariants.{Boxed, Tuple as TupleKind}

-- a procedure that takes so many words may be handed so many
pub takes_these : (o : Option Proc) (count : ℕ) (ss : List LowSource) → length ss ≡ count → takes count o ≡ true
    → takes_words o ss ≡ true
takes_these None count ss same h = h
takes_these (Some p) count ss same h = rw same h

module _ (procs : List Proc) (n : ℕ) where
  -- as many sources are found as there are operands
  pub found_length : (s : Shape) (i : ℕ) (os : List Operand) → length (found_all s i os) ≡ length os
  found_length s i [] = refl
  found_length s i (o ∷ os) = ap suc (found_length s (suc i) os)

  -- two branches by the kind of an object, of which both come to R
  pub of_kind_ends : (s : Shape) (a : Known) (o : LowSource) (kind : ℕ) (one other k : Code) (R Q : Known → Type 0)
      → test_word s < n → Reads procs n a o
      → ((b : Known) → More a b → Reads procs n b (Word (test_word s)) → Ends procs n b one R)
      → ((b : Known) → More a b → Ends procs n b other R)
      → ((b c : Known) → R b → R c → Ends procs n (all_words.both b c) k Q)
      → Ends procs n a (of_kind s o kind one other k) Q
  of_kind_ends s a o kind one other k R Q l r first second go =
      let t = test_word s in
      load_ends procs n a t o 0 (Compute And t (Word t) (Number kind_mask) (If Eq (Word t) (Number kind) one other k))
      Q l r
      refl
      (λ b m h. let q = read_word procs n b t l h in
      compute_ends procs n b And t (Word t) (Number kind_mask) (If Eq (Word t) (Number kind) one other k) Q l q refl
      (λ c m' h'. let q' = read_word procs n c t l h' in
      let more = more_then a b c m m' in
      if_ends procs n c Eq (Word t) (Number kind) one other k R Q q' refl (first c more q') (second c more) go))

  -- more is known than in a, and a word is set
  abbrev pub Sets : Known → ℕ → Known → Type 0
  Sets a d b = More a b × (b d ≡ true)

  pub sets_both : (a : Known) (d : ℕ) (k : Code) (Q : Known → Type 0) → Onward procs n a d k Q → (b c : Known)
      → Sets a d b → Sets a d c → Ends procs n (all_words.both b c) k Q
  sets_both a d k Q go b c h g =
      go (all_words.both b c) (more_both a b c h.0 g.0) (more_both (λ i. i == d) b c (λ i e. at i b e h.1)
      (λ i e. at i c e g.1) d (eq-eqb d d refl))
    where
      at : (i : ℕ) (b : Known) → (i == d) ≡ true → b d ≡ true → b i ≡ true
      at i b e h = subst (λ j. b j ≡ true) (sym (eqb-true i d e)) h

  module _ (run : Served) (serve : Serve run procs) where
    -- a procedure is called, and its answer is put into a word
    serves : (a : Known) (d number count : ℕ) (ss : List LowSource) (k : Code) (Q : Known → Type 0) → d < n
        → AllRead procs n a ss → length ss ≡ count → takes count (slice_get procs number) ≡ true
        → Onward procs n a d k Q → Ends procs n a (CallOf d number ss k) Q
    serves a d number count ss k Q l r same h go =
        call_ends procs n a d number ss k Q l r (takes_these (slice_get procs number) count ss same h) go

    -- a truth value in a word is turned
    turned_ends : (a : Known) (d : ℕ) (k : Code) (Q : Known → Type 0) → d < n → Onward procs n a d k Q
        → Onward procs n a d (turned d k) Q
    turned_ends a d k Q l go b m h =
        compute_ends procs n b Xor d (Word d) (Number 1) k Q l (read_word procs n b d l h) refl
        (λ c m' h'. go c (more_then a b c m m') h')

    -- the environment is called, and a word is 0
    printed : (s : Shape) (d number : ℕ) (x : LowSource) (a : Known) (k : Code) (Q : Known → Type 0) → d < n
        → test_word s < n → Reads procs n a x → Onward procs n a d k Q
        → Ends procs n a (Environment number x (Number 0) (test_word s) (test_word s) (Set d (Number 0) k)) Q
    printed s d number x a k Q l t r go =
        environment_ends procs n a number x (Number 0) (test_word s) (Set d (Number 0) k) Q t r refl
        (λ b m h. set_ends procs n b d (Number 0) k Q l refl (λ c m' h'. go c (more_then a b c m m') h'))

    -- a number is read, or the program traps
    reads_number : (s : Shape) (d : ℕ) (a : Known) (k : Code) (Q : Known → Type 0) → d < n → test_word s < n
        → Onward procs n a d k Q → Ends procs n a (read_number s d k) Q
    reads_number s d a k Q l t go =
        let o = operand_word s 0 in
        let w = test_word s in
        let small : operand_word s 0 < n = omega (arith, t) in
        let stop = Environment 4 (Number 4) (Number 0) w w Done in
        two_words_end procs n a 7 (Number 0) (Number 0) o w (If Ne (Word w) (Number 0) stop Done (Set d (Word o) k)) Q
        small t refl refl
        (λ b m h h'. if_ends procs n b Ne (Word w) (Number 0) stop Done (Set d (Word o) k) (Sets b o) Q
        (read_word procs n b w t h') refl
        (environment_ends procs n b 4 (Number 4) (Number 0) w Done (Sets b o) t refl refl
        (λ c m' h''. ends_done procs n c (Sets b o) (m', m' o h)))
        (ends_done procs n b (Sets b o) (more_same b, h))
        (sets_both b o (Set d (Word o) k) Q
        (λ c m' h''. set_ends procs n c d (Word o) k Q l (read_word procs n c o small h'')
        (λ e m'' h'''. go e (more_then a c e (more_then a b c m m') m'') h'''))))

    operator_ends : (s : Shape) (d : ℕ) (op : PrimOp) (x y z : LowSource) (a : Known) (k : Code) (Q : Known → Type 0)
        → d < n → test_word s < n → Reads procs n a x → Reads procs n a y → Reads procs n a z
        → Onward procs n a d k Q → Ends procs n a (operator run s d op x y z k) Q
    operator_ends s d Add x y z a k Q l t rx ry rz go = compute_ends procs n a Plus d x y k Q l rx ry go
    operator_ends s d Sub x y z a k Q l t rx ry rz go = compute_ends procs n a Minus d x y k Q l rx ry go
    operator_ends s d Mul x y z a k Q l t rx ry rz go =
        serves a d run.multiply 2 (x ∷ y ∷ []) k Q l (read_two procs n a x y rx ry) refl serve.multiply go
    operator_ends s d Quot x y z a k Q l t rx ry rz go =
        serves a d run.divide 3 (x ∷ y ∷ Number 0 ∷ []) k Q l
        (read_then procs n a x (y ∷ Number 0 ∷ []) rx (read_two procs n a y (Number 0) ry refl)) refl serve.divide go
    operator_ends s d Rem x y z a k Q l t rx ry rz go =
        serves a d run.divide 3 (x ∷ y ∷ Number 1 ∷ []) k Q l
        (read_then procs n a x (y ∷ Number 1 ∷ []) rx (read_two procs n a y (Number 1) ry refl)) refl serve.divide go
    operator_ends s d Lt x y z a k Q l t rx ry rz go = compute_ends procs n a Slt d x y k Q l rx ry go
    operator_ends s d Gt x y z a k Q l t rx ry rz go = compute_ends procs n a Slt d y x k Q l ry rx go
    operator_ends s d Le x y z a k Q l t rx ry rz go =
        compute_ends procs n a Slt d y x (turned d k) Q l ry rx (turned_ends a d k Q l go)
    operator_ends s d Ge x y z a k Q l t rx ry rz go =
        compute_ends procs n a Slt d x y (turned d k) Q l rx ry (turned_ends a d k Q l go)
    operator_ends s d Equal x y z a k Q l t rx ry rz go =
        compute_ends procs n a Xor d x y (Compute Sltu d (Word d) (Number 1) k) Q l rx ry
        (λ b m h. compute_ends procs n b Sltu d (Word d) (Number 1) k Q l (read_word procs n b d l h) refl
        (λ c m' h'. go c (more_then a b c m m') h'))
    operator_ends s d Not x y z a k Q l t rx ry rz go = compute_ends procs n a Xor d x (Number 1) k Q l rx refl go
    operator_ends s d PrintInt x y z a k Q l t rx ry rz go = printed s d 1 x a k Q l t rx go
    operator_ends s d Newline x y z a k Q l t rx ry rz go = printed s d 2 (Number 10) a k Q l t refl go
    operator_ends s d ReadInt x y z a k Q l t rx ry rz go = reads_number s d a k Q l t go
    operator_ends s d MakeBox x y z a k Q l t rx ry rz go =
        build_ends procs n a d (Number (header (kind_number Boxed) 1) ∷ x ∷ []) k Q l
        (read_two procs n a (Number (header (kind_number Boxed) 1)) x refl rx) (omega arith) go
    operator_ends s d Unbox x y z a k Q l t rx ry rz go =
        of_kind_ends s a x 5 (Load d x 8 Done) (CallOf d run.read (Number 0 ∷ x ∷ Number 0 ∷ []) Done) k (Sets a d) Q t
        rx
        (λ b m q. load_ends procs n b d x 8 Done (Sets a d) l (read_more procs n a b x m rx) refl
        (λ c m' h. ends_done procs n c (Sets a d) (more_then a b c m m', h)))
        (λ b m. serves b d run.read 3 (Number 0 ∷ x ∷ Number 0 ∷ []) Done (Sets a d) l
        (read_then procs n b (Number 0) (x ∷ Number 0 ∷ []) refl
        (read_two procs n b x (Number 0) (read_more procs n a b x m rx) refl)) refl serve.read
        (λ c m' h. ends_done procs n c (Sets a d) (more_then a b c m m', h)))
        (sets_both a d k Q go)
    operator_ends s d BoxSet x y z a k Q l t rx ry rz go =
        of_kind_ends s a x 5 (Store y x 8 (Set d (Number 0) Done))
        (CallOf d run.write (Number 0 ∷ x ∷ Number 0 ∷ y ∷ []) Done) k (Sets a d) Q t rx
        (λ b m q. store_ends procs n b y x 8 (Set d (Number 0) Done) (Sets a d) (read_more procs n a b y m ry)
        (read_more procs n a b x m rx) refl (set_ends procs n b d (Number 0) Done (Sets a d) l refl
        (λ c m' h. ends_done procs n c (Sets a d) (more_then a b c m m', h))))
        (λ b m. serves b d run.write 4 (Number 0 ∷ x ∷ Number 0 ∷ y ∷ []) Done (Sets a d) l
        (read_then procs n b (Number 0) (x ∷ Number 0 ∷ y ∷ []) refl
        (read_then procs n b x (Number 0 ∷ y ∷ []) (read_more procs n a b x m rx)
        (read_two procs n b (Number 0) y refl (read_more procs n a b y m ry)))) refl serve.write
        (λ c m' h. ends_done procs n c (Sets a d) (more_then a b c m m', h)))
        (sets_both a d k Q go)
    operator_ends s d MakeVector x y z a k Q l t rx ry rz go =
        serves a d run.fill 2 (x ∷ y ∷ []) k Q l (read_two procs n a x y rx ry) refl serve.fill go
    operator_ends s d VectorRef x y z a k Q l t rx ry rz go =
        serves a d run.read 3 (Number 1 ∷ x ∷ y ∷ []) k Q l
        (read_then procs n a (Number 1) (x ∷ y ∷ []) refl (read_two procs n a x y rx ry)) refl serve.read go
    operator_ends s d VectorSet x y z a k Q l t rx ry rz go =
        serves a d run.write 4 (Number 1 ∷ x ∷ y ∷ z ∷ []) k Q l
        (read_then procs n a (Number 1) (x ∷ y ∷ z ∷ []) refl
        (read_then procs n a x (y ∷ z ∷ []) rx (read_two procs n a y z ry rz))) refl serve.write go
    operator_ends s d VectorLength x y z a k Q l t rx ry rz go =
        serves a d run.read 3 (Number 2 ∷ x ∷ Number 0 ∷ []) k Q l
        (read_then procs n a (Number 2) (x ∷ Number 0 ∷ []) refl (read_two procs n a x (Number 0) rx refl)) refl
        serve.read go

    -- a part by the procedure
    part_called : (d : ℕ) (x y : LowSource) (third label : ℕ) (a : Known) (k : Code) (Q : Known → Type 0) → d < n
        → Reads procs n a x → Reads procs n a y → Onward procs n a d k Q
        → Ends procs n a (CallOf d run.project (x ∷ y ∷ Number third ∷ Number label ∷ []) k) Q
    part_called d x y third label a k Q l rx ry go =
        serves a d run.project 4 (x ∷ y ∷ Number third ∷ Number label ∷ []) k Q l
        (read_then procs n a x (y ∷ Number third ∷ Number label ∷ []) rx
        (read_then procs n a y (Number third ∷ Number label ∷ []) ry
        (read_two procs n a (Number third) (Number label) refl refl))) refl serve.project go

    part_ends : (s : Shape) (d : ℕ) (x : LowSource) (i : ℤ) (a : Known) (k : Code) (Q : Known → Type 0) → d < n
        → test_word s < n → Reads procs n a x → Onward procs n a d k Q → Ends procs n a (part run s d x i k) Q
    part_ends s d x (negsuc i) a k Q l t r go =
        part_called d x (Number (cast_unsigned w64 (negsuc i))) 1 0 a k Q l r refl go
    part_ends s d x (pos i) a k Q l t r go = by (nat_lt i 8) refl
      where
        by : (b : Bool) → nat_lt i 8 ≡ b → Ends procs n a
            (if b then of_kind s x 4 (Load d x (8 + 8 * i) Done)
            (CallOf d run.project (x ∷ Number i ∷ Number 1 ∷ Number 0 ∷ []) Done) k
            else CallOf d run.project (x ∷ Number (cast_unsigned w64 (pos i)) ∷ Number 1 ∷ Number 0 ∷ []) k) Q
        by false e = part_called d x (Number (cast_unsigned w64 (pos i))) 1 0 a k Q l r refl go
        by true e =
            let small = ltb-true i 8 e in
            of_kind_ends s a x 4 (Load d x (8 + 8 * i) Done)
            (CallOf d run.project (x ∷ Number i ∷ Number 1 ∷ Number 0 ∷ []) Done) k (Sets a d) Q t r
            (λ b m q. load_ends procs n b d x (8 + 8 * i) Done (Sets a d) l (read_more procs n a b x m r)
            (lt-ltb (8 + 8 * i) 2048 (omega arith))
            (λ c m' h. ends_done procs n c (Sets a d) (more_then a b c m m', h)))
            (λ b m. part_called d x (Number i) 1 0 b Done (Sets a d) l (read_more procs n a b x m r) refl
            (λ c m' h. ends_done procs n c (Sets a d) (more_then a b c m m', h)))
            (sets_both a d k Q go)

    -- a cast by the procedure
    cast_called : (d : ℕ) (x : LowSource) (number : ℕ) (a : Known) (k : Code) (Q : Known → Type 0) → d < n
        → Reads procs n a x → Onward procs n a d k Q → Ends procs n a (call_cast run d x number k) Q
    cast_called d x number a k Q l r go =
        let word = Number (cast_word (slice_get run.cast_at number)) in
        serves a d run.cast 2 (x ∷ word ∷ []) k Q l (read_two procs n a x word r refl) refl serve.cast go

    -- where there is a test first, in either way
    cast_tested : (d : ℕ) (x y z u v : LowSource) (op : WordOp) (number : ℕ) (a : Known) (k : Code)
        (Q : Known → Type 0) → d < n → Reads procs n a x → Reads procs n a y → Reads procs n a z → Reads procs n a u
        → Reads procs n a v → Onward procs n a d k Q
        → Ends procs n a (If Eq y z (Compute op d u v Done) (call_cast run d x number Done) k) Q
    cast_tested d x y z u v op number a k Q l rx ry rz ru rv go =
        if_ends procs n a Eq y z (Compute op d u v Done) (call_cast run d x number Done) k (Sets a d) Q ry rz
        (compute_ends procs n a op d u v Done (Sets a d) l ru rv (λ b m h. ends_done procs n b (Sets a d) (m, h)))
        (cast_called d x number a Done (Sets a d) l rx (λ b m h. ends_done procs n b (Sets a d) (m, h)))
        (sets_both a d k Q go)

    cast_ends : (s : Shape) (d : ℕ) (x : LowSource) (number : ℕ) (way : CastWay) (a : Known) (k : Code)
        (Q : Known → Type 0) → d < n → test_word s < n → Reads procs n a x → Onward procs n a d k Q
        → Ends procs n a (make_cast run s d x number way k) Q
    cast_ends s d x number Called a k Q l t r go = cast_called d x number a k Q l r go
    cast_ends s d x number (IntoDyn tag) a k Q l t r go =
        let w = test_word s in
        let o = operand_word s 1 in
        let small : operand_word s 1 < n = omega (arith, t) in
        let test = If Eq (Word o) x (Compute Plus d (Word w) (Number (tag_number tag)) Done)
        (call_cast run d x number Done) k in
        compute_ends procs n a Sll w x (Number 3) (Compute Sra o (Word w) (Number 3) test) Q t r refl
        (λ b m h. compute_ends procs n b Sra o (Word w) (Number 3) test Q small (read_word procs n b w t h) refl
        (λ c m' h'. let more = more_then a b c m m' in
        let rx = read_more procs n a c x more r in
        cast_tested d x (Word o) x (Word w) (Number (tag_number tag)) Plus number c k Q l rx
        (read_word procs n c o small h') rx (read_word procs n c w t (m' w h)) refl
        (λ e m'' h''. go e (more_then a c e more m'') h'')))
    cast_ends s d x number (OutOfDyn tag) a k Q l t r go =
        let w = test_word s in
        compute_ends procs n a And w x (Number 7) (If Eq (Word w) (Number (tag_number tag))
        (Compute Sra d x (Number 3) Done) (call_cast run d x number Done) k) Q t r refl
        (λ b m h. let rx = read_more procs n a b x m r in
        cast_tested d x (Word w) (Number (tag_number tag)) x (Number 3) Sra number b k Q l rx
        (read_word procs n b w t h) refl rx refl (λ c m' h'. go c (more_then a b c m m') h'))

    pub perform_ends : (s : Shape) (captured group depth d : ℕ) (op : Operation) (a : Known) (k : Code)
        (Q : Known → Type 0) → d < n → Ready procs n s depth a → operation_bound captured group depth op ≡ true
        → Onward procs n a d k Q → Ends procs n a (perform run s d op k) Q
    perform_ends s captured group depth d (Move o) a k Q l r bound go =
        let w = operand_word s 0 in
        let room = r.room in
        fetch_ends procs n s captured group depth w o a (Set d (found s w o) k) Q (omega arith) r bound
        (λ b m q. set_ends procs n b d (found s w o) k Q l q (λ c m' h. go c (more_then a b c m m') h))
    perform_ends s captured group depth d (Prim op os) a k Q l r bound go =
        let ss = found_all s 0 os in
        let room = r.room in
        let both = and_parts (operands_bound captured group depth os) (nat_le (length os) 8) bound in
        let long = leb-true (length os) 8 both.1 in
        fetch_all_ends procs n s captured group depth os 0 a
        (operator run s d op (source_at ss 0) (source_at ss 1) (source_at ss 2) k) Q (omega arith) r both.0
        (λ b m qs. operator_ends s d op (source_at ss 0) (source_at ss 1) (source_at ss 2) b k Q l (omega arith)
        (source_read procs n b ss 0 qs) (source_read procs n b ss 1 qs) (source_read procs n b ss 2 qs)
        (λ c m' h. go c (more_then a b c m m') h))
    perform_ends s captured group depth d (Cast o number) a k Q l r bound go =
        let w = operand_word s 0 in
        let room = r.room in
        let way = way_at (slice_get run.ways number) in
        fetch_ends procs n s captured group depth w o a (make_cast run s d (found s w o) number way k) Q (omega arith)
        r bound
        (λ b m q. cast_ends s d (found s w o) number way b k Q l (omega arith) q
        (λ c m' h. go c (more_then a b c m m') h))
    perform_ends s captured group depth d (Tuple os) a k Q l r bound go =
        let ss = found_all s 0 os in
        let parts = and_parts (operands_bound captured group depth os) (nat_le 1 (length os) && nat_le (length os) 8)
        bound in
        let long = leb-true (length os) 8 (and_parts (nat_le 1 (length os)) (nat_le (length os) 8) parts.1).1 in
        let same = found_length s 0 os in
        fetch_all_ends procs n s captured group depth os 0 a
        (Build d (Number (header (kind_number TupleKind) (length os)) ∷ ss) k) Q
        (omega arith) r parts.0
        (λ b m qs. build_ends procs n b d (Number (header (kind_number TupleKind) (length os)) ∷ ss) k Q l
        (read_then procs n b (Number (header (kind_number TupleKind) (length os))) ss refl qs) (omega arith)
        (λ c m' h. go c (more_then a b c m m') h))
    perform_ends s captured group depth d (Proj o i) a k Q l r bound go =
        let w = operand_word s 0 in
        let room = r.room in
        fetch_ends procs n s captured group depth w o a (part run s d (found s w o) i k) Q (omega arith) r bound
        (λ b m q. part_ends s d (found s w o) i b k Q l (omega arith) q (λ c m' h. go c (more_then a b c m m') h))
    perform_ends s captured group depth d (ProjDyn o i label) a k Q l r bound go =
        let w = operand_word s 0 in
        let room = r.room in
        let place = Number (cast_unsigned w64 i) in
        fetch_ends procs n s captured group depth w o a
        (CallOf d run.project (found s w o ∷ place ∷ Number 0 ∷ Number label.0 ∷ []) k) Q (omega arith) r
        (and_parts (operand_bound captured group depth o) (part_has_words i label.0) bound).0
        (λ b m q. part_called d (found s w o) place 0 label.0 b k Q l q refl (λ c m' h. go c (more_then a b c m m') h))
