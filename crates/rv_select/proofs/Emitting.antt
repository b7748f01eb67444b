-- Items that are put one after another.
use Rattle.std.proofs.Common.{append_assoc, ℕ, zero, suc, ◌+◌, ◌*◌, ◌<◌, ◌≡◌, List, [], ◌∷◌, ◌++◌, refl, sym, ◌∙◌}
use Rattle.std.proofs.Common.{Box, Global, Option, Some, None, ap, subst, arith, take, get_or, length}
use Rattle.machine_words.specs.declared.conditions.Cond.{Cond}
use Rattle.low_ir.specs.declared.code.LowCode.{LowCode}
use Rattle.low_ir.specs.declared.code.LowSource.{LowSource}
use Rattle.low_ir.specs.declared.code.LowCode.TheVariants.{If as LowIf, If' as IfCase, CodeOf as LowCodeOf}
use Rattle.low_ir.specs.declared.code.LowCode.TheVariants.{CodeOf' as CodeOfCase}
use Rattle.low_ir.specs.Procedures.{Code, Done, Set, Compute, Load, Store as StoreAt, CodeOf, Build, Request, Take}
use Rattle.low_ir.specs.Procedures.{Environment, Call, CallAt, If, Return, TailCall, TailCallAt}
use Rattle.low_ir.specs.Views.{code_of}
use Rattle.rv_select.specs.declared.convention.TheConstants.{FIRST_SCRATCH, SECOND_SCRATCH, FIRST_ARGUMENT, ALLOCATION}
use Rattle.rv_select.specs.declared.code.VReg.TheVariants.{Real, Virtual}
use Rattle.rv_select.specs.declared.code.VirtualItem.{VirtualItem}
use Rattle.rv_select.specs.declared.code.VirtualItem.TheVariants.{Move, Store, Branch, Jump, Mark}
use Rattle.rv_select.specs.Sizes.{HasSmallNumbers}
use Rattle.rv_select.specs.Select.{put_item, source_reg, source_items, args_items, params_items, stores_items}
use Rattle.rv_select.specs.Select.{branch_items, code_items, marks_in}
use Rattle.rv_select.specs.Stepwise.{step_items, later}

args_next : (first from i : ℕ) (xs : List LowSource) (d : LowSource) → i < length xs
    → args_items first from (take (suc i) xs)
    ≡ args_items first from (take i xs) ++ (put_item first (Real (FIRST_ARGUMENT + (from + i))) (get_or xs i d) ∷ [])
args_next first from i [] d h = absurd (omega (arith, h))
args_next first from zero (x ∷ xs) d h =
    let same : from ≡ from + 0 = omega arith in
    ap (λ n. put_item first (Real (FIRST_ARGUMENT + n)) x ∷ []) same
args_next first from (suc i) (x ∷ xs) d h =
    let same : suc from + i ≡ from + suc i = omega arith in
    ap (λ ys. put_item first (Real (FIRST_ARGUMENT + from)) x ∷ ys)
    (args_next first (suc from) i xs d (omega (arith, h))
    ∙ ap (λ n. args_items first (suc from) (take i xs)
    ++ (put_item first (Real (FIRST_ARGUMENT + n)) (get_or xs i d) ∷ [])) same)

-- one more word is handed on
pub args_more : (first i : ℕ) (xs : List LowSource) (d : LowSource) (item : VirtualItem)
    (items old before : List VirtualItem) → i < length xs
    → item ≡ put_item first (Real (FIRST_ARGUMENT + i)) (get_or xs i d)
    → before ≡ old ++ args_items first 0 (take i xs) → items ≡ before ++ (item ∷ [])
    → items ≡ old ++ args_items first 0 (take (i + 1) xs)
args_more first i xs d item items old before h e b k =
    let next : suc i ≡ i + 1 = omega arith in
    let whole : 0 + i ≡ i = omega arith in
    let more = args_next first 0 i xs d h
    ∙ ap (λ n. args_items first 0 (take i xs)
    ++ (put_item first (Real (FIRST_ARGUMENT + n)) (get_or xs i d) ∷ [])) whole in
    k ∙ (ap (λ z. z ++ (item ∷ [])) b ∙ (append_assoc old (args_items first 0 (take i xs)) (item ∷ [])
    ∙ (ap (λ y. old ++ (args_items first 0 (take i xs) ++ (y ∷ []))) e ∙ (ap (λ z. old ++ z) (sym more)
    ∙ ap (λ n. old ++ args_items first 0 (take n xs)) next))))

params_next : (first from n : ℕ) → params_items first from (suc n)
    ≡ params_items first from n ++ (Move (Virtual (first + (from + n))) (Real (FIRST_ARGUMENT + (from + n))) ∷ [])
params_next first from zero =
    let same : from ≡ from + 0 = omega arith in
    ap (λ n. Move (Virtual (first + n)) (Real (FIRST_ARGUMENT + n)) ∷ []) same
params_next first from (suc n) =
    let same : suc from + n ≡ from + suc n = omega arith in
    ap (λ ys. Move (Virtual (first + from)) (Real (FIRST_ARGUMENT + from)) ∷ ys) (params_next first (suc from) n
    ∙ ap (λ m. params_items first (suc from) n ++ (Move (Virtual (first + m)) (Real (FIRST_ARGUMENT + m)) ∷ [])) same)

-- one more parameter is taken
pub params_more : (first i : ℕ) (items old before : List VirtualItem) → before ≡ old ++ params_items first 0 i
    → items ≡ before ++ (Move (Virtual (first + i)) (Real (FIRST_ARGUMENT + i)) ∷ [])
    → items ≡ old ++ params_items first 0 (i + 1)
params_more first i items old before b k =
    let next : suc i ≡ i + 1 = omega arith in
    let whole : 0 + i ≡ i = omega arith in
    let more = params_next first 0 i
    ∙ ap (λ n. params_items first 0 i ++ (Move (Virtual (first + n)) (Real (FIRST_ARGUMENT + n)) ∷ [])) whole in
    k ∙ (ap (λ z. z ++ (Move (Virtual (first + i)) (Real (FIRST_ARGUMENT + i)) ∷ [])) b
    ∙ (append_assoc old (params_items first 0 i) (Move (Virtual (first + i)) (Real (FIRST_ARGUMENT + i)) ∷ [])
    ∙ (ap (λ z. old ++ z) (sym more) ∙ ap (λ n. old ++ params_items first 0 n) next)))

stores_next : (first offset i : ℕ) (xs : List LowSource) (d : LowSource) → i < length xs
    → stores_items first offset (take (suc i) xs)
    ≡ stores_items first offset (take i xs) ++ (source_items FIRST_SCRATCH (get_or xs i d)
    ++ (Store (source_reg first FIRST_SCRATCH (get_or xs i d)) (Real ALLOCATION) (offset + 8 * i) ∷ []))
stores_next first offset i [] d h = absurd (omega (arith, h))
stores_next first offset zero (x ∷ xs) d h =
    let same : offset ≡ offset + 8 * 0 = omega arith in
    ap (λ n. source_items FIRST_SCRATCH x ++ (Store (source_reg first FIRST_SCRATCH x) (Real ALLOCATION) n ∷ [])) same
stores_next first offset (suc i) (x ∷ xs) d h =
    let same : offset + 8 + 8 * i ≡ offset + 8 * suc i = omega arith in
    let one : VirtualItem = Store (source_reg first FIRST_SCRATCH x) (Real ALLOCATION) offset in
    let later : List VirtualItem = stores_items first (offset + 8) (take i xs) in
    let y : LowSource = get_or xs i d in
    ap (λ ys. source_items FIRST_SCRATCH x ++ (one ∷ ys)) (stores_next first (offset + 8) i xs d (omega (arith, h))
    ∙ ap (λ n. later
    ++ (source_items FIRST_SCRATCH y ++ (Store (source_reg first FIRST_SCRATCH y) (Real ALLOCATION) n ∷ []))) same)
    ∙ sym (append_assoc (source_items FIRST_SCRATCH x) (one ∷ later) _)

-- one more word is stored
pub stores_more : (first i : ℕ) (xs : List LowSource) (d : LowSource) (items old before middle : List VirtualItem)
    → i < length xs → before ≡ old ++ stores_items first 0 (take i xs)
    → middle ≡ before ++ source_items FIRST_SCRATCH (get_or xs i d)
    → items ≡ middle ++ (Store (source_reg first FIRST_SCRATCH (get_or xs i d)) (Real ALLOCATION) (8 * i) ∷ [])
    → items ≡ old ++ stores_items first 0 (take (i + 1) xs)
stores_more first i xs d items old before middle h b m k =
    let next : suc i ≡ i + 1 = omega arith in
    let whole : 0 + 8 * i ≡ 8 * i = omega arith in
    let y : LowSource = get_or xs i d in
    let done : List VirtualItem = stores_items first 0 (take i xs) in
    let one : List VirtualItem = Store (source_reg first FIRST_SCRATCH y) (Real ALLOCATION) (8 * i) ∷ [] in
    let more = stores_next first 0 i xs d h
    ∙ ap (λ n. done
    ++ (source_items FIRST_SCRATCH y ++ (Store (source_reg first FIRST_SCRATCH y) (Real ALLOCATION) n ∷ [])))
    whole in
    k ∙ (ap (λ z. z ++ one) (m ∙ ap (λ z. z ++ source_items FIRST_SCRATCH y) b)
    ∙ (flat old done (source_items FIRST_SCRATCH y) one
    ∙ (ap (λ z. old ++ z) (sym more) ∙ ap (λ n. old ++ stores_items first 0 (take n xs)) next)))
  where
    flat : (o xs ys zs : List VirtualItem) → ((o ++ xs) ++ ys) ++ zs ≡ o ++ (xs ++ (ys ++ zs))
    flat o xs ys zs = simp append_assoc refl

-- ---- a branch

joined : (i as_ bs cs ds rs : List VirtualItem) (x y z w : VirtualItem)
    → (((((i ++ (as_ ++ (bs ++ (x ∷ [])))) ++ cs) ++ (y ∷ [])) ++ (z ∷ [])) ++ ds) ++ (w ∷ []) ++ rs
    ≡ i ++ (as_ ++ (bs ++ (x ∷ (cs ++ (y ∷ z ∷ (ds ++ (w ∷ rs)))))))
joined i as_ bs cs ds rs x y z w = simp append_assoc refl

module _ (first out m at_one m1 at_end m2 m3 m4 : ℕ) (cond : Cond) (a b : LowSource) (one other rest : Code)
    (i0 i1 i2 i3 i4 i5 i6 : List VirtualItem) where
  -- a branch is put part by part
  pub if_more : at_one ≡ m → m1 ≡ m + 1 → at_end ≡ m1 → m2 ≡ m1 + 1 → m3 ≡ m2 + marks_in other
      → m4 ≡ m3 + marks_in one → i1 ≡ i0 ++ branch_items first cond a b at_one []
      → i2 ≡ i1 ++ code_items first out m2 other → i3 ≡ i2 ++ (Jump at_end ∷ []) → i4 ≡ i3 ++ (Mark at_one ∷ [])
      → i5 ≡ i4 ++ code_items first out m3 one → i6 ≡ i5 ++ (Mark at_end ∷ [])
      → i6 ++ code_items first out m4 rest ≡ i0 ++ code_items first out m (If cond a b one other rest)
  if_more e1 e2 e3 e4 e5 e6 h1 h2 h3 h4 h5 h6 =
      let f3 : at_end ≡ suc m = omega (arith, e2, e3) in
      let f4 : m2 ≡ suc (suc m) = omega (arith, e2, e4) in
      rw (h6, h5, h4, h3, h2, h1, e6, e5, f4, f3, e1)
      (joined i0 (source_items FIRST_SCRATCH a) (source_items SECOND_SCRATCH b)
      (code_items first out (suc (suc m)) other)
      (code_items first out (suc (suc m) + marks_in other) one)
      (code_items first out (suc (suc m) + marks_in other + marks_in one) rest)
      (Branch cond (source_reg first FIRST_SCRATCH a) (source_reg first SECOND_SCRATCH b) m) (Jump (suc m)) (Mark m)
      (Mark (suc m)))

-- and has so many marks
pub marks_more : (m m1 m2 m3 m4 : ℕ) (cond : Cond) (a b : LowSource) (one other rest : Code) → m1 ≡ m + 1
    → m2 ≡ m1 + 1 → m3 ≡ m2 + marks_in other → m4 ≡ m3 + marks_in one
    → m4 + marks_in rest ≡ m + marks_in (If cond a b one other rest)
marks_more m m1 m2 m3 m4 cond a b one other rest d e f g = omega (arith, d, e, f, g)

-- ---- a step and the rest

-- neither a branch nor a code address
abbrev IsStraight : Code → Type 0
IsStraight (If cond a b one other rest) = ⊥
IsStraight (CodeOf d k rest) = ⊥
IsStraight c = Unit {0}

abbrev IsNoIf : LowCode → Type 0
IsNoIf left =
    (cond : Cond) (a b : LowSource) (one other rest : Box LowCode Global) → left ≡ LowIf cond a b one other rest → ⊥

abbrev IsNoCodeOf : LowCode → Type 0
IsNoCodeOf left = (d k : ℕ) (rest : Box LowCode Global) → left ≡ LowCodeOf d k rest → ⊥

straight : (left : LowCode) → IsNoIf left → IsNoCodeOf left → IsStraight (code_of left)
straight (IfCase cond a b p one q other r rest) n m = n cond a b _ _ _ refl
straight (CodeOfCase d k p rest) n m = m d k _ refl
straight left n m = tt

-- behind the items of a step stand those of what is done later, which has as many marks and as small numbers
abbrev Continues : ℕ → ℕ → ℕ → Code → Option Code → Type 0
Continues first out m c None = (step_items first out c ≡ code_items first out m c) × (marks_in c ≡ 0)
Continues first out m c (Some rest) =
    (step_items first out c ++ code_items first out m rest ≡ code_items first out m c) × (marks_in c ≡ marks_in rest)
    × (HasSmallNumbers c → HasSmallNumbers rest)

continues : (first out m : ℕ) (c : Code) → IsStraight c → Continues first out m c (later c)
continues first out m Done s = (refl, refl)
continues first out m (Set d a rest) s = (refl, refl, λ h. h)
continues first out m (Compute op d a b rest) s = (simp append_assoc refl, refl, λ h. h)
continues first out m (Load d a offset rest) s = (simp append_assoc refl, refl, λ h. h.1)
continues first out m (StoreAt b a offset rest) s = (simp append_assoc refl, refl, λ h. h.1)
continues first out m (CodeOf d k rest) s = absurd s
continues first out m (Build d args rest) s = (simp append_assoc refl, refl, λ h. h.1)
continues first out m (Request d a rest) s = (simp append_assoc refl, refl, λ h. h)
continues first out m (Take a rest) s = (simp append_assoc refl, refl, λ h. h)
continues first out m (Environment number a b d e rest) s = (refl, refl, λ h. h)
continues first out m (Call d k args rest) s = (simp append_assoc refl, refl, λ h. h.1)
continues first out m (CallAt d f args rest) s = (simp append_assoc refl, refl, λ h. h.1)
continues first out m (If cond a b one other rest) s = absurd s
continues first out m (Return a) s = (refl, refl)
continues first out m (TailCall k args) s = (refl, refl)
continues first out m (TailCallAt f args) s = (refl, refl)

-- what is put behind items, and what comes behind that
pub behind : (i0 i1 xs ys whole : List VirtualItem) → i1 ≡ i0 ++ xs → xs ++ ys ≡ whole → i1 ++ ys ≡ i0 ++ whole
behind i0 i1 xs ys whole h e = ap (λ z. z ++ ys) h ∙ (append_assoc i0 xs ys ∙ ap (λ z. i0 ++ z) e)

-- what is done and what is left are all, and so they are behind a step
pub goes_on : (first out m : ℕ) (old new all : List VirtualItem) (left rest : LowCode) (last : ℕ)
    → IsNoIf left → IsNoCodeOf left
    → later (code_of left) ≡ Some (code_of rest) → new ≡ old ++ step_items first out (code_of left)
    → old ++ code_items first out m (code_of left) ≡ all → m + marks_in (code_of left) ≡ last
    → HasSmallNumbers (code_of left)
    → (new ++ code_items first out m (code_of rest) ≡ all) × (m + marks_in (code_of rest) ≡ last)
    × HasSmallNumbers (code_of rest)
goes_on first out m old new all left rest last n k e put whole count small =
    let c = code_of left in
    let on = subst (Continues first out m c) e (continues first out m c (straight left n k)) in (
      behind old new (step_items first out (code_of left)) (code_items first out m (code_of rest)) _ put on.0 ∙ whole,
      sym (ap (λ n. m + n) on.1) ∙ count,
      on.2 small,
    )
