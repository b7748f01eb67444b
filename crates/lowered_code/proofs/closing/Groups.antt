-- Groups are made.
use Rattle.std.proofs.Common.{true, ℕ, zero, suc, ◌+◌, ◌<◌, ◌≤◌, ◌≡◌, ◌⊎◌, inl, inr}
use Rattle.std.proofs.Common.{List, [], ◌∷◌, length, refl, sym, subst, arith}
use Rattle.std.proofs.lemmas.Bool.{and_parts, cases_eq}
use Rattle.low_ir.specs.declared.code.WordOp.TheVariants.{Add as Plus}
use Rattle.low_ir.specs.declared.code.LowSource.TheVariants.{Word, Number}
use Rattle.low_ir.specs.Procedures.{Code, Store, CodeOf, Take, Proc}
use Rattle.flat_ir.specs.declared.code.Operand.{Operand}
use Rattle.flat_ir.specs.Closed.{operand_bound, operands_bound}
use Rattle.lowered_code.specs.declared.numbering.Shape.{Shape}
use Rattle.lowered_code.specs.Numbering.{operand_word, test_word, local_word, function_offset, captured_offset}
use Rattle.lowered_code.specs.Emit.{header, found, store_far, store_captured, store_others, name_others, group_words}
use Rattle.lowered_code.specs.Emit.{make_group, group_code}
use Rattle.lowered_code.proofs.closing.Knowledge.{Known, More, more_same, more_then, Reads, read_more, read_word, Ends}
use Rattle.lowered_code.proofs.closing.Knowledge.{compute_ends, store_ends, code_of_ends, request_ends, take_ends}
use Rattle.lowered_code.proofs.closing.Operands.{Ready, ready_more, store_far_ends, fetch_ends, local_within}
use Rattle.object_layout.specs.Kinds.{kind_number}
use Rattle.object_layout.specs.declared.kinds.Kind.TheVariants.{Closure}

module _ (procs : List Proc) (n : ℕ) where
  -- what goes on where more is known
  abbrev pub Later : Known → Code → (Known → Type 0) → Type 0
  Later a k Q = (b : Known) → More a b → Ends procs n b k Q

  store_captured_ends : (s : Shape) (captured group depth d : ℕ) (os : List Operand) (i : ℕ) (a : Known) (k : Code)
      (Q : Known → Type 0) → Ready procs n s depth a → Reads procs n a (Word d)
      → operands_bound captured group depth os ≡ true → Later a k Q
      → Ends procs n a (store_captured s d i os k) Q
  store_captured_ends s captured group depth d [] i a k Q r rd bound go = go a (more_same a)
  store_captured_ends s captured group depth d (o ∷ os) i a k Q r rd bound go =
      let p = and_parts (operand_bound captured group depth o) (operands_bound captured group depth os) bound in
      let w = operand_word s 0 in
      let t = test_word s in
      let room = r.room in
      let rest = store_captured s d (suc i) os k in
      fetch_ends procs n s captured group depth w o a (store_far t d (found s w o) (captured_offset i) rest) Q
      (omega arith) r p.0
      (λ b m q. store_far_ends procs n b t d (found s w o) (captured_offset i) rest Q (omega arith)
      (read_more procs n a b (Word d) m rd) q
      (λ c m'. let up = more_then a b c m m' in
      store_captured_ends s captured group depth d os (suc i) c k Q (ready_more procs n s depth a c up r)
      (read_more procs n a c (Word d) up rd) p.1 (λ e m''. go e (more_then a c e up m''))))

  store_others_ends : (s : Shape) (depth d captured first i left : ℕ) (a : Known) (k : Code) (Q : Known → Type 0)
      → Ready procs n s depth a → Reads procs n a (Word d) → first + i + left ≤ length procs → Later a k Q
      → Ends procs n a (store_others s d captured first i left k) Q
  store_others_ends s depth d captured first i zero a k Q r rd there go = go a (more_same a)
  store_others_ends s depth d captured first i (suc left) a k Q r rd there go =
      let w = operand_word s 0 in
      let t = test_word s in
      let room = r.room in
      let offset = function_offset captured i in
      let rest = store_others s d captured first (suc i) left k in
      store_far_ends procs n a t d (Number (header (kind_number Closure) 1)) offset
      (CodeOf w (first + i) (store_far t d (Word w) (offset + 8) rest)) Q (omega arith) rd refl
      (λ b m. code_of_ends procs n b w (first + i) (store_far t d (Word w) (offset + 8) rest) Q (omega arith)
      (omega arith)
      (λ c m' h. let up = more_then a b c m m' in
      store_far_ends procs n c t d (Word w) (offset + 8) rest Q (omega arith) (read_more procs n a c (Word d) up rd)
      (read_word procs n c w (omega arith) h)
      (λ e m''. let on = more_then a c e up m'' in
      store_others_ends s depth d captured first (suc i) left e k Q (ready_more procs n s depth a e on r)
      (read_more procs n a e (Word d) on rd) (omega arith) (λ f m'''. go f (more_then a e f on m''')))))

  -- the words of the local names from one level on, so many of them, are set
  abbrev pub Named : Shape → Known → ℕ → ℕ → Type 0
  Named s a from left = (level : ℕ) → from ≤ level → level < from + left → a (local_word s level) ≡ true

  name_others_ends : (s : Shape) (slot captured i left : ℕ) (a : Known) (k : Code) (Q : Known → Type 0)
      → slot + i + left + 10 ≤ n → Reads procs n a (Word (local_word s slot))
      → ((b : Known) → More a b → Named s b (slot + i) left → Ends procs n b k Q)
      → Ends procs n a (name_others s slot captured i left k) Q
  name_others_ends s slot captured i zero a k Q room rd go =
      go a (more_same a) (λ level l h. absurd (omega arith))
  name_others_ends s slot captured i (suc left) a k Q room rd go =
      let w = local_word s (slot + i) in
      let small = local_within s (slot + i) in
      compute_ends procs n a Plus w (Word (local_word s slot)) (Number (function_offset captured i))
      (name_others s slot captured (suc i) left k) Q (omega arith) rd refl
      (λ b m h. name_others_ends s slot captured (suc i) left b k Q (omega arith)
      (read_more procs n a b (Word (local_word s slot)) m rd)
      (λ c m' named. go c (more_then a b c m m') (λ level l h'. at c level (m' w h) named l h' (cases_eq level
      (slot + i)))))
    where
      at : (c : Known) (level : ℕ) → c (local_word s (slot + i)) ≡ true → Named s c (slot + suc i) left
          → slot + i ≤ level → level < slot + i + suc left → (level ≡ slot + i) ⊎ (level ≡ slot + i → ⊥)
          → c (local_word s level) ≡ true
      at c level h named l h' (inl e) = subst (λ j. c (local_word s j) ≡ true) (sym e) h
      at c level h named l h' (inr d) = named level (omega arith) (omega arith)

  -- a group of one function and so many behind it is made: its functions have their local names then
  make_group_ends : (s : Shape) (captured group depth first others : ℕ) (os : List Operand) (a : Known) (k : Code)
      (Q : Known → Type 0) → Ready procs n s depth a → depth + suc others + 10 ≤ n
      → first + suc others ≤ length procs → operands_bound captured group depth os ≡ true
      → ((b : Known) → More a b → Named s b depth (suc others) → Ends procs n b k Q)
      → Ends procs n a (make_group s depth first others os k) Q
  make_group_ends s captured group depth first others os a k Q r room there bound go =
      let d = local_word s depth in
      let w = operand_word s 0 in
      let few = length os in
      let words = group_words few others in
      let inside = r.room in
      let near = local_within s depth in
      let names = name_others s depth few 1 others k in
      let taken = Take (Number words) names in
      let functions = store_others s d few first 1 others taken in
      let stored = store_captured s d 0 os functions in
      let addressed = Store (Word w) (Word d) 8 stored in
      let began = Store (Number (header (kind_number Closure) (suc few))) (Word d) 0 (CodeOf w first addressed) in
      request_ends procs n a d (Number words) began Q (omega arith) refl
      (λ b m h. let rd = read_word procs n b d (omega arith) h in
      store_ends procs n b (Number (header (kind_number Closure) (suc few))) (Word d) 0
      (CodeOf w first addressed) Q refl rd refl
      (code_of_ends procs n b w first addressed Q (omega arith) (omega arith)
      (λ c m' h'. let up = more_then a b c m m' in
      let rd' = read_more procs n b c (Word d) m' rd in
      store_ends procs n c (Word w) (Word d) 8 stored Q (read_word procs n c w (omega arith) h') rd' refl
      (store_captured_ends s captured group depth d os 0 c functions Q (ready_more procs n s depth a c up r) rd' bound
      (λ e x. let up' = more_then a c e up x in
      store_others_ends s depth d few first 1 others e taken Q (ready_more procs n s depth a e up' r)
      (read_more procs n c e (Word d) x rd') (omega arith)
      (λ f y. let on = more_then c e f x y in
      take_ends procs n f (Number words) names Q refl
      (name_others_ends s depth few 1 others f k Q (omega arith) (read_more procs n c f (Word d) on rd')
      (λ g z named. let last = more_then c f g on z in
      go g (more_then a c g up last)
      (λ level l h''. at g level (last d (m' d h)) named l h'' (cases_eq level depth))))))))))
    where
      at : (g : Known) (level : ℕ) → g (local_word s depth) ≡ true → Named s g (depth + 1) others → depth ≤ level
          → level < depth + suc others → (level ≡ depth) ⊎ (level ≡ depth → ⊥) → g (local_word s level) ≡ true
      at g level h named l h' (inl e) = subst (λ j. g (local_word s j) ≡ true) (sym e) h
      at g level h named l h' (inr d) = named level (omega arith) (omega arith)

  -- a group that has a function
  pub group_code_ends : (s : Shape) (captured group depth first count : ℕ) (os : List Operand) (a : Known) (k : Code)
      (Q : Known → Type 0) → Ready procs n s depth a → depth + count + 10 ≤ n → first + count ≤ length procs
      → operands_bound captured group depth os ≡ true
      → ((b : Known) → More a b → Named s b depth count → Ends procs n b k Q)
      → Ends procs n a (group_code s depth first count os k) Q
  group_code_ends s captured group depth first zero os a k Q r room there bound go =
      go a (more_same a) (λ level l h. absurd (omega arith))
  group_code_ends s captured group depth first (suc others) os a k Q r room there bound go =
      make_group_ends s captured group depth first others os a k Q r room there bound go
