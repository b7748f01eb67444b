-- Operands are fetched and found where they are read.
use Rattle.std.proofs.Common.{Bool, true, false, ℕ, zero, suc, ◌+◌, ◌<◌, ◌≤◌, ◌≡◌, List, [], ◌∷◌, length}
use Rattle.std.proofs.Common.{refl, arith, nat_lt, ◌==◌, if◌then◌else◌}
use Rattle.std.proofs.lemmas.Bool.{and_parts, ltb-true}
use Rattle.low_ir.specs.declared.code.WordOp.TheVariants.{Add as Plus, Sub as Minus}
use Rattle.low_ir.specs.declared.code.LowSource.{LowSource}
use Rattle.low_ir.specs.declared.code.LowSource.TheVariants.{Word, Number}
use Rattle.low_ir.specs.Procedures.{Code, Compute, Load, Store, Proc}
use Rattle.low_ir.specs.Closed.{all_words, is_read, are_read}
use Rattle.flat_ir.specs.declared.code.Operand.{Operand}
use Rattle.flat_ir.specs.declared.code.Operand.TheVariants.{Local, Captured, Sibling, Int, Bool as BoolCase}
use Rattle.flat_ir.specs.declared.code.Operand.TheVariants.{Unit as UnitCase}
use Rattle.flat_ir.specs.Closed.{operand_bound, operands_bound}
use Rattle.lowered_code.specs.declared.numbering.Shape.{Shape}
use Rattle.lowered_code.specs.Numbering.{own_word, operand_word, local_word, function_offset, captured_offset}
use Rattle.lowered_code.specs.Emit.{load_far, store_far, leader_code, leader, fetch, found, fetch_all, found_all}
use Rattle.lowered_code.specs.Emit.{source_at}
use Rattle.lowered_code.proofs.closing.Knowledge.{Known, More, more_same, more_then, Reads, AllRead, read_more}
use Rattle.lowered_code.proofs.closing.Knowledge.{read_then}
use Rattle.lowered_code.proofs.closing.Knowledge.{read_word, Ends, Onward, compute_ends, load_ends, store_ends}

-- ---- words of a procedure

-- the word of a local name, whatever it is, is at most ten behind its level
pub local_within : (s : Shape) (level : ℕ) → local_word s level ≤ level + 10
local_within s level = by (nat_lt level s.params)
  where
    by : (b : Bool) → (if b then suc level else level + 10) ≤ level + 10
    by true = omega arith
    by false = omega arith

module _ (procs : List Proc) (n : ℕ) where
  -- the words to compute in are there, and the own function and the local names below a level may be read
  pub record Ready (s : Shape) (depth : ℕ) (a : Known) : Type 0 where
    pub room : s.params + 10 ≤ n
    pub own : Reads procs n a (Word own_word)
    pub locals : (level : ℕ) → level < depth → Reads procs n a (Word (local_word s level))

  pub ready_more : (s : Shape) (depth : ℕ) (a b : Known) → More a b → Ready s depth a → Ready s depth b
  ready_more s depth a b m r = record {
    room = r.room;
    own = read_more procs n a b (Word own_word) m r.own;
    locals = λ level l. read_more procs n a b (Word (local_word s level)) m (r.locals level l);
  }

  -- ---- addresses

  pub load_far_ends : (a : Known) (d : ℕ) (base : LowSource) (offset : ℕ) (k : Code) (Q : Known → Type 0) → d < n
      → Reads procs n a base → Onward procs n a d k Q → Ends procs n a (load_far d base offset k) Q
  load_far_ends a d base offset k Q l r go = by (nat_lt offset 2048) refl
    where
      by : (t : Bool) → nat_lt offset 2048 ≡ t → Ends procs n a
          (if t then Load d base offset k else Compute Plus d base (Number offset) (Load d (Word d) 0 k)) Q
      by true e = load_ends procs n a d base offset k Q l r e go
      by false e =
          compute_ends procs n a Plus d base (Number offset) (Load d (Word d) 0 k) Q l r refl
          (λ b m h. load_ends procs n b d (Word d) 0 k Q l (read_word procs n b d l h) refl
          (λ c m' h'. go c (more_then a b c m m') h'))

  pub store_far_ends : (a : Known) (t base : ℕ) (source : LowSource) (offset : ℕ) (k : Code) (Q : Known → Type 0)
      → t < n → Reads procs n a (Word base) → Reads procs n a source
      → ((b : Known) → More a b → Ends procs n b k Q) → Ends procs n a (store_far t base source offset k) Q
  store_far_ends a t base source offset k Q l r q go = by (nat_lt offset 2048) refl
    where
      by : (near : Bool) → nat_lt offset 2048 ≡ near → Ends procs n a
          (if near then Store source (Word base) offset k
          else Compute Plus t (Word base) (Number offset) (Store source (Word t) 0 k)) Q
      by true e = store_ends procs n a source (Word base) offset k Q q r e (go a (more_same a))
      by false e =
          compute_ends procs n a Plus t (Word base) (Number offset) (Store source (Word t) 0 k) Q l r refl
          (λ b m h. store_ends procs n b source (Word t) 0 k Q (read_more procs n a b source m q)
          (read_word procs n b t l h) refl (go b m))

  -- ---- operands

  leader_ends : (s : Shape) (d : ℕ) (a : Known) (k : Code) (Q : Known → Type 0) → d < n
      → Reads procs n a (Word own_word)
      → ((b : Known) → More a b → Reads procs n b (leader s d) → Ends procs n b k Q)
      → Ends procs n a (leader_code s d k) Q
  leader_ends s d a k Q l own go = by (s.place == 0) go
    where
      by : (first : Bool)
          → ((b : Known) → More a b → Reads procs n b (if first then Word own_word else Word d) → Ends procs n b k Q)
          → Ends procs n a (if first then k
          else Compute Minus d (Word own_word) (Number (function_offset s.captured s.place)) k) Q
      by true go = go a (more_same a) own
      by false go =
          compute_ends procs n a Minus d (Word own_word) (Number (function_offset s.captured s.place)) k Q l own refl
          (λ b m h. go b m (read_word procs n b d l h))

  pub fetch_ends : (s : Shape) (captured group depth d : ℕ) (o : Operand) (a : Known) (k : Code) (Q : Known → Type 0)
      → d < n → Ready s depth a → operand_bound captured group depth o ≡ true
      → ((b : Known) → More a b → Reads procs n b (found s d o) → Ends procs n b k Q)
      → Ends procs n a (fetch s d o k) Q
  fetch_ends s captured group depth d (Local level) a k Q l r bound go =
      go a (more_same a) (r.locals level (ltb-true level depth bound))
  fetch_ends s captured group depth d (Captured i) a k Q l r bound go =
      leader_ends s d a (load_far d (leader s d) (captured_offset i) k) Q l r.own
      (λ b m q. load_far_ends b d (leader s d) (captured_offset i) k Q l q
      (λ c m' h. go c (more_then a b c m m') (read_word procs n c d l h)))
  fetch_ends s captured group depth d (Sibling i) a k Q l r bound go =
      leader_ends s d a (Compute Plus d (leader s d) (Number (function_offset s.captured i)) k) Q l r.own
      (λ b m q. compute_ends procs n b Plus d (leader s d) (Number (function_offset s.captured i)) k Q l q refl
      (λ c m' h. go c (more_then a b c m m') (read_word procs n c d l h)))
  fetch_ends s captured group depth d (Int z) a k Q l r bound go = go a (more_same a) refl
  fetch_ends s captured group depth d (BoolCase t) a k Q l r bound go = go a (more_same a) refl
  fetch_ends s captured group depth d UnitCase a k Q l r bound go = go a (more_same a) refl

  pub fetch_all_ends : (s : Shape) (captured group depth : ℕ) (os : List Operand) (i : ℕ) (a : Known) (k : Code)
      (Q : Known → Type 0) → i + length os ≤ 9 → Ready s depth a → operands_bound captured group depth os ≡ true
      → ((b : Known) → More a b → AllRead procs n b (found_all s i os) → Ends procs n b k Q)
      → Ends procs n a (fetch_all s i os k) Q
  fetch_all_ends s captured group depth [] i a k Q few r bound go = go a (more_same a) refl
  fetch_all_ends s captured group depth (o ∷ os) i a k Q few r bound go =
      let p = and_parts (operand_bound captured group depth o) (operands_bound captured group depth os) bound in
      let d = operand_word s i in
      let room = r.room in
      fetch_ends s captured group depth d o a (fetch_all s (suc i) os k) Q (omega arith) r p.0
      (λ b m q. fetch_all_ends s captured group depth os (suc i) b k Q (omega arith) (ready_more s depth a b m r) p.1
      (λ c m' qs. go c (more_then a b c m m')
      (read_then procs n c (found s d o) (found_all s (suc i) os) (read_more procs n b c (found s d o) m' q) qs)))

  -- a source by its place may be read
  pub source_read : (a : Known) (ss : List LowSource) (i : ℕ) → AllRead procs n a ss
      → Reads procs n a (source_at ss i)
  source_read a [] i h = refl
  source_read a (s ∷ ss) zero h = (and_parts (is_read all_words n a s) (are_read all_words n a ss) h).0
  source_read a (s ∷ ss) (suc i) h =
      source_read a ss i (and_parts (is_read all_words n a s) (are_read all_words n a ss) h).1
