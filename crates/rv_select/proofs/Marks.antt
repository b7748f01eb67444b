-- Each mark of a selected code stands once.
use Rattle.std.proofs.Common.{ℕ, zero, suc, ◌+◌, ◌<◌, ◌≤◌, ◌≡◌, ◌≢◌, ◌⊎◌, inl, inr, ⊎_elim, true, false}
use Rattle.std.proofs.Common.{Bool, List, [], ◌∷◌, ◌++◌, refl, sym, ◌∙◌, ap, subst, arith}
use Rattle.std.specs.Prelude.{length}
use Rattle.low_ir.specs.declared.code.LowSource.{LowSource}
use Rattle.low_ir.specs.declared.code.LowSource.TheVariants.{Word, Number}
use Rattle.low_ir.specs.Procedures.{Code, Done, Set, Compute as LowCompute, Load as LowLoad, Store as LowStore}
use Rattle.low_ir.specs.Procedures.{CodeOf as LowCodeOf, Build, Request, Take, Environment as LowEnvironment}
use Rattle.low_ir.specs.Procedures.{Call as LowCall, CallAt as LowCallAt, If, Return as LowReturn}
use Rattle.low_ir.specs.Procedures.{TailCall as LowTailCall, TailCallAt as LowTailCallAt, Proc}
use Rattle.low_ir.specs.declared.code.WordOp.{WordOp}
use Rattle.rv_select.specs.declared.convention.TheConstants.{FIRST_SCRATCH, SECOND_SCRATCH, THIRD_SCRATCH}
use Rattle.rv_select.specs.declared.convention.TheConstants.{FIRST_ARGUMENT, SECOND_ARGUMENT, ANSWER}
use Rattle.rv_select.specs.declared.code.VReg.{VReg}
use Rattle.rv_select.specs.declared.code.VReg.TheVariants.{Real, Virtual}
use Rattle.rv_select.specs.declared.code.VirtualItem.{VirtualItem}
use Rattle.rv_select.specs.declared.code.VirtualItem.TheVariants.{Mark, Procedure, Jump, Branch}
use Rattle.rv_select.specs.Marks.{marks, NotIn, Distinct}
use Rattle.rv_select.specs.Select.{source_reg, is_small, second_items, compute_item, put_item, source_items, args_items}
use Rattle.rv_select.specs.Select.{params_items, stores_items, marks_in, code_items, out_items, body_items}
use Rattle.rv_select.specs.Select.{procs_items, select_items}

-- ---- distinct numbers

-- each has a property
abbrev pub Each : {A : Type 0} → (A → Type 0) → List A → Type 0
Each P [] = Unit {0}
Each P (x ∷ xs) = P x × Each P xs

each_not_in : (m : ℕ) (xs : List ℕ) → Each (λ x. m ≢ x) xs → NotIn m xs
each_not_in m [] h = tt
each_not_in m (x ∷ xs) h = (h.0, each_not_in m xs h.1)

each_map : (P Q : ℕ → Type 0) (xs : List ℕ) → ((x : ℕ) → P x → Q x) → Each P xs → Each Q xs
each_map P Q [] f h = tt
each_map P Q (x ∷ xs) f h = (f x h.0, each_map P Q xs f h.1)

pub each_append : {A : Type 0} (P : A → Type 0) (xs ys : List A) → Each P xs → Each P ys → Each P (xs ++ ys)
each_append P [] ys h k = k
each_append P (x ∷ xs) ys h k = (h.0, each_append P xs ys h.1 k)

not_in_append : (m : ℕ) (xs ys : List ℕ) → NotIn m xs → NotIn m ys → NotIn m (xs ++ ys)
not_in_append m [] ys h k = k
not_in_append m (x ∷ xs) ys h k = (h.0, not_in_append m xs ys h.1 k)

-- numbers apart are distinct together
pub distinct_append : (xs ys : List ℕ) → Distinct xs → Distinct ys → Each (λ x. NotIn x ys) xs → Distinct (xs ++ ys)
distinct_append [] ys h k e = k
distinct_append (x ∷ xs) ys h k e = (not_in_append x xs ys h.0 e.0, distinct_append xs ys h.1 k e.1)

-- distinct numbers with a property
abbrev pub Fresh : (ℕ → Type 0) → List ℕ → Type 0
Fresh P xs = Each P xs × Distinct xs

join : (P Q R : ℕ → Type 0) (xs ys : List ℕ) → Fresh P xs → Fresh Q ys → ((x y : ℕ) → P x → Q y → x ≢ y)
    → ((z : ℕ) → P z → R z) → ((z : ℕ) → Q z → R z) → Fresh R (xs ++ ys)
join P Q R xs ys h k apart f g = (
  each_append R xs ys (each_map P R xs f h.0) (each_map Q R ys g k.0),
  distinct_append xs ys h.1 k.1 (each_map P (λ x. NotIn x ys) xs (λ x p.
      each_not_in x ys (each_map Q (λ y. x ≢ y) ys (λ y q. apart x y p q) k.0)) h.0),
)

add_one : (P R : ℕ → Type 0) (m : ℕ) (xs : List ℕ) → Fresh P xs → ((y : ℕ) → P y → m ≢ y) → R m → ((z : ℕ) → P z → R z)
    → Fresh R (m ∷ xs)
add_one P R m xs h apart r f =
    ((r, each_map P R xs f h.0), (each_not_in m xs (each_map P (λ y. m ≢ y) xs apart h.0), h.1))

-- the marks of items behind others
pub marks_append : (xs ys : List VirtualItem) → marks (xs ++ ys) ≡ marks xs ++ marks ys
marks_append [] ys = refl
marks_append (Mark m ∷ xs) ys = ap (λ z. m ∷ z) (marks_append xs ys)
marks_append (Procedure k first count ∷ xs) ys = ap (λ z. k ∷ z) (marks_append xs ys)
marks_append (x ∷ xs) ys = marks_append xs ys

after : (xs ys : List VirtualItem) → marks xs ≡ [] → marks (xs ++ ys) ≡ marks ys
after xs ys e = marks_append xs ys ∙ ap (λ z. z ++ marks ys) e

-- ---- the marks of the virtual code

args_none : (first from : ℕ) (args : List LowSource) → marks (args_items first from args) ≡ []
args_none first from [] = refl
args_none first from (Word i ∷ args) = args_none first (suc from) args
args_none first from (Number n ∷ args) = args_none first (suc from) args

params_none : (first from n : ℕ) → marks (params_items first from n) ≡ []
params_none first from zero = refl
params_none first from (suc n) = params_none first (suc from) n

source_none : (r : ℕ) (a : LowSource) → marks (source_items r a) ≡ []
source_none r (Word i) = refl
source_none r (Number zero) = refl
source_none r (Number (suc n)) = refl

put_none : (first : ℕ) (rd : VReg) (a : LowSource) (xs : List VirtualItem) → marks (put_item first rd a ∷ xs) ≡ marks xs
put_none first rd (Word i) xs = refl
put_none first rd (Number n) xs = refl

stores_none : (first offset : ℕ) (args : List LowSource) → marks (stores_items first offset args) ≡ []
stores_none first offset [] = refl
stores_none first offset (a ∷ args) = after (source_items FIRST_SCRATCH a) _ (source_none FIRST_SCRATCH a)
    ∙ stores_none first (offset + 8) args

-- the numbers from one to below another
abbrev pub Between : ℕ → ℕ → ℕ → Type 0
Between a b x = (a ≤ x) × (x < b)

-- the marks of both branches, and of what stands behind them
branch_fresh : (xs ys zs : List ℕ) (m b c d : ℕ) → suc (suc m) ≤ b → b ≤ c → c ≤ d
    → Fresh (Between (suc (suc m)) b) xs → Fresh (Between b c) ys → Fresh (Between c d) zs
    → Fresh (Between m d) (xs ++ (m ∷ (ys ++ (suc m ∷ zs))))
branch_fresh xs ys zs m b c d p q r h k l =
    join (Between (suc (suc m)) b) FromMark (Between m d) xs (m ∷ (ys ++ (suc m ∷ zs))) h from_mark
    (λ x y i j e. ⊎_elim (λ f. omega (arith, i.0, f, e)) (λ g. ⊎_elim (λ f. omega (arith, i.0, f, e))
    (λ f. omega (arith, i.1, f.0, e)) g) j)
    (λ z i. (omega (arith, i.0), omega (arith, q, r, i.1)))
    (λ z j. ⊎_elim (λ f. (omega (arith, f), omega (arith, p, q, r, f)))
    (λ g. ⊎_elim (λ f. (omega (arith, f), omega (arith, p, q, r, f))) (λ f. (omega (arith, p, f.0), f.1)) g) j)
  where
    AtEnd : ℕ → Type 0
    AtEnd z = (z ≡ suc m) ⊎ Between c d z

    FromOne : ℕ → Type 0
    FromOne z = (z ≡ suc m) ⊎ Between b d z

    FromMark : ℕ → Type 0
    FromMark z = (z ≡ m) ⊎ FromOne z

    at_end : Fresh AtEnd (suc m ∷ zs)
    at_end =
        add_one (Between c d) AtEnd (suc m) zs l (λ y i e. omega (arith, p, q, i.0, e)) (inl refl) (λ z i. inr i)

    from_one : Fresh FromOne (ys ++ (suc m ∷ zs))
    from_one =
        join (Between b c) AtEnd FromOne ys (suc m ∷ zs) k at_end
        (λ x y i j e. ⊎_elim (λ f. omega (arith, p, i.0, f, e)) (λ f. omega (arith, i.1, f.0, e)) j)
        (λ z i. inr (i.0, omega (arith, r, i.1)))
        (λ z j. ⊎_elim (λ f. inl f) (λ f. inr (omega (arith, q, f.0), f.1)) j)

    from_mark : Fresh FromMark (m ∷ (ys ++ (suc m ∷ zs)))
    from_mark =
        add_one FromOne FromMark m (ys ++ (suc m ∷ zs)) from_one
        (λ y i e. ⊎_elim (λ f. omega (arith, f, e)) (λ f. omega (arith, p, f.0, e)) i) (inl refl) (λ z i. inr i)

-- those of a procedure, and of those behind it
proc_fresh : (xs ys : List ℕ) (k n mark end : ℕ) → mark ≤ end → k + suc n ≤ mark → Fresh (Between mark end) xs
    → Fresh (λ x. Between (suc k) (suc k + n) x ⊎ (end ≤ x)) ys
    → Fresh (λ x. Between k (k + suc n) x ⊎ (mark ≤ x)) (k ∷ (xs ++ ys))
proc_fresh xs ys k n mark end p q h l =
    add_one Behind (λ x. Between k (k + suc n) x ⊎ (mark ≤ x)) k (xs ++ ys) both
    (λ y i e. ⊎_elim (λ f. omega (arith, f.0, e)) (λ f. omega (arith, q, f, e)) i) (inl (omega arith, omega arith))
    (λ z i. ⊎_elim (λ f. inl (omega (arith, f.0), omega (arith, f.1))) (λ f. inr f) i)
  where
    Behind : ℕ → Type 0
    Behind x = Between (suc k) (suc k + n) x ⊎ (mark ≤ x)

    both : Fresh Behind (xs ++ ys)
    both =
        join (Between mark end) (λ x. Between (suc k) (suc k + n) x ⊎ (end ≤ x)) Behind xs ys h l
        (λ x y i j e. ⊎_elim (λ f. omega (arith, q, i.0, f.1, e)) (λ f. omega (arith, i.1, f, e)) j)
        (λ z i. inr i.0) (λ z j. ⊎_elim (λ f. inl f) (λ f. inr (omega (arith, p, f))) j)

module _ (first out : ℕ) where
  sources_marks : (r : ℕ) (a : LowSource) (xs : List VirtualItem) → marks (source_items r a ++ xs) ≡ marks xs
  sources_marks r a xs = after (source_items r a) xs (source_none r a)

  compute_marks : (c : Bool) (op : WordOp) (rd : VReg) (a b : LowSource) (xs : List VirtualItem)
      → marks (second_items c b ++ (compute_item c first op rd a b ∷ xs)) ≡ marks xs
  compute_marks true op rd a b xs = refl
  compute_marks false op rd a b xs = sources_marks SECOND_SCRATCH b _

  code_fresh : (c : Code) (m : ℕ) → Fresh (Between m (m + marks_in c)) (marks (code_items first out m c))
  code_fresh Done m = (tt, tt)
  code_fresh (Set d a rest) m =
      subst (Fresh (Between m (m + marks_in rest)))
      (sym (put_none first (Virtual (first + d)) a (code_items first out m rest))) (code_fresh rest m)
  code_fresh (LowCompute op d a b rest) m =
      subst (Fresh (Between m (m + marks_in rest))) (sym (sources_marks FIRST_SCRATCH a _
      ∙ compute_marks (is_small op b) op (Virtual (first + d)) a b (code_items first out m rest))) (code_fresh rest m)
  code_fresh (LowLoad d a offset rest) m =
      subst (Fresh (Between m (m + marks_in rest))) (sym (sources_marks FIRST_SCRATCH a _)) (code_fresh rest m)
  code_fresh (LowStore b a offset rest) m =
      subst (Fresh (Between m (m + marks_in rest))) (sym (sources_marks FIRST_SCRATCH a _
      ∙ sources_marks SECOND_SCRATCH b _))
      (code_fresh rest m)
  code_fresh (LowCodeOf d k rest) m = code_fresh rest m
  code_fresh (Build d args rest) m =
      subst (Fresh (Between m (m + marks_in rest)))
      (sym (after (stores_items first 0 args) _ (stores_none first 0 args))) (code_fresh rest m)
  code_fresh (Request d a rest) m =
      subst (Fresh (Between m (m + marks_in rest))) (sym (sources_marks THIRD_SCRATCH a _)) (code_fresh rest m)
  code_fresh (Take a rest) m =
      subst (Fresh (Between m (m + marks_in rest))) (sym (sources_marks THIRD_SCRATCH a _)) (code_fresh rest m)
  code_fresh (LowEnvironment number a b d e rest) m =
      subst (Fresh (Between m (m + marks_in rest))) (sym (put_none first (Real FIRST_ARGUMENT) a _
      ∙ put_none first (Real SECOND_ARGUMENT) b _))
      (code_fresh rest m)
  code_fresh (LowCall d k args rest) m =
      subst (Fresh (Between m (m + marks_in rest))) (sym (after (args_items first 0 args) _ (args_none first 0 args)))
      (code_fresh rest m)
  code_fresh (LowCallAt d f args rest) m =
      subst (Fresh (Between m (m + marks_in rest))) (sym (sources_marks THIRD_SCRATCH f _
      ∙ after (args_items first 0 args) _ (args_none first 0 args))) (code_fresh rest m)
  code_fresh (If cond a b one other rest) m =
      let m1 : ℕ = suc (suc m) in
      let m2 : ℕ = m1 + marks_in other in
      let m3 : ℕ = m2 + marks_in one in
      let end : ℕ = m3 + marks_in rest in
      let xs : List VirtualItem = code_items first out m1 other in
      let ys : List VirtualItem = code_items first out m2 one in
      let zs : List VirtualItem = code_items first out m3 rest in
      let behind : List VirtualItem = Jump (suc m) ∷ Mark m ∷ (ys ++ (Mark (suc m) ∷ zs)) in
      let tested : List VirtualItem = Branch cond (source_reg first FIRST_SCRATCH a) (source_reg first SECOND_SCRATCH b)
      m ∷ (xs ++ behind) in
      let parts : marks (code_items first out m (If cond a b one other rest))
      ≡ marks xs ++ (m ∷ (marks ys ++ (suc m ∷ marks zs))) =
      sources_marks FIRST_SCRATCH a (source_items SECOND_SCRATCH b ++ tested)
      ∙ (sources_marks SECOND_SCRATCH b tested ∙ (marks_append xs behind
      ∙ ap (λ r. marks xs ++ (m ∷ r)) (marks_append ys (Mark (suc m) ∷ zs)))) in
      let whole : end ≡ m + (suc (suc (marks_in other)) + marks_in one + marks_in rest) = omega arith in
      let fresh = branch_fresh (marks xs) (marks ys) (marks zs) m m2 m3 end (omega arith) (omega arith) (omega arith)
      (code_fresh other m1) (code_fresh one m2) (code_fresh rest m3) in
      subst (λ n. Fresh (Between m n) (marks (code_items first out m (If cond a b one other rest)))) whole
      (subst (Fresh (Between m end)) (sym parts) fresh)
  code_fresh (LowReturn a) m = subst (Fresh (Between m (m + 0))) (sym (put_none first (Real ANSWER) a _)) (tt, tt)
  code_fresh (LowTailCall k args) m =
      subst (Fresh (Between m (m + 0))) (sym (after (args_items first 0 args) _ (args_none first 0 args))) (tt, tt)
  code_fresh (LowTailCallAt f args) m =
      subst (Fresh (Between m (m + 0))) (sym (sources_marks THIRD_SCRATCH f _
      ∙ after (args_items first 0 args) _ (args_none first 0 args))) (tt, tt)

-- a procedure's marks
pub body_fresh : (first mark : ℕ) (p : Proc) → Fresh (Between mark (suc mark + marks_in p.code))
    (marks (body_items first mark p))
body_fresh first mark p =
    let code : List VirtualItem = code_items first mark (suc mark) p.code in
    let parts : marks (body_items first mark p) ≡ marks code ++ (mark ∷ []) =
    after (params_items first 0 p.params) (code ++ out_items mark) (params_none first 0 p.params)
    ∙ marks_append code (out_items mark) in
    subst (Fresh (Between mark (suc mark + marks_in p.code))) (sym parts)
    (join (Between (suc mark) (suc mark + marks_in p.code)) (λ z. z ≡ mark) _ (marks code) (mark ∷ [])
    (code_fresh first mark p.code (suc mark)) ((refl, tt), (tt, tt))
    (λ x y h e i. let z : ⊥ = omega (arith, h.0, e, i) in z)
    (λ z h. ((let y = h.0 in omega (arith, y)), h.1)) (λ z e. (omega (arith, e), omega (arith, e))))

-- those of procedures and of their codes
procs_fresh : (ps : List Proc) (k first mark : ℕ) → k + length ps ≤ mark
    → Fresh (λ x. Between k (k + length ps) x ⊎ (mark ≤ x)) (marks (procs_items k first mark ps))
procs_fresh [] k first mark h = (tt, tt)
procs_fresh (p ∷ ps) k first mark h =
    let body : List VirtualItem = body_items first mark p in
    let tail : List VirtualItem = procs_items (suc k) (first + p.words) (suc mark + marks_in p.code) ps in
    let later = procs_fresh ps (suc k) (first + p.words) (suc mark + marks_in p.code) (omega (arith, h)) in
    subst (λ ms. Fresh (λ x. Between k (k + suc (length ps)) x ⊎ (mark ≤ x)) (k ∷ ms)) (sym (marks_append body tail))
    (proc_fresh (marks body) (marks tail) k (length ps) mark (suc mark + marks_in p.code) (omega arith)
    (omega (arith, h))
    (body_fresh first mark p) later)

-- no mark of a selected code stands twice
pub select_distinct : (entry : ℕ) (procs : List Proc) → Distinct (marks (select_items entry procs))
select_distinct entry procs = (procs_fresh procs 0 0 (length procs) (omega arith)).1
