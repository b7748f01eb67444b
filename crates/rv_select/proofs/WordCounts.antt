-- A procedure that has no word but those that it takes and those that its code sets has no more of them than it takes
-- and twice as many as its code has operations.
use Rattle.std.proofs.Common.{ℕ, zero, suc, ◌+◌, ◌*◌, ◌<◌, ◌≤◌, ◌≡◌, Bool, true, false, ◌||◌, List, [], ◌∷◌, ◌++◌}
use Rattle.std.proofs.Common.{length, refl, sym, ◌∙◌, ap, subst, arith, length-append}
use Rattle.std.specs.Prelude.{◌==◌, nat_lt, if◌then◌else◌}
use Rattle.low_ir.specs.Procedures.{Code, Done, Set, Compute, Load, Store, CodeOf, Build, Request, Take, Environment}
use Rattle.low_ir.specs.Procedures.{Call, CallAt, If, Return, TailCall, TailCallAt, Proc}
use Rattle.rv_select.specs.Stacks.{frame_size}
use Rattle.rv_select.specs.CodeSizes.{code_size, sets_word}

abbrev has : ℕ → List ℕ → Bool
has i [] = false
has i (x ∷ xs) = (i == x) || has i xs

-- a list without a number
abbrev without : ℕ → List ℕ → List ℕ
without i [] = []
without i (x ∷ xs) = if i == x then without i xs else x ∷ without i xs

without_at_most : (i : ℕ) (xs : List ℕ) → length (without i xs) ≤ length xs
without_at_most i [] = omega arith
without_at_most i (x ∷ xs) = here (i == x) (without_at_most i xs)
  where
    here : (b : Bool) → length (without i xs) ≤ length xs
        → length (if b then without i xs else x ∷ without i xs) ≤ suc (length xs)
    here true h = omega (arith, h)
    here false h = omega (arith, h)

without_fewer : (i : ℕ) (xs : List ℕ) → has i xs ≡ true → length (without i xs) < length xs
without_fewer i [] h = absurd (let z : ⊥ = cc in z)
without_fewer i (x ∷ xs) h = here (i == x) h (without_at_most i xs) (λ k. without_fewer i xs k)
  where
    here : (b : Bool) → (b || has i xs) ≡ true → length (without i xs) ≤ length xs
        → (has i xs ≡ true → length (without i xs) < length xs)
        → length (if b then without i xs else x ∷ without i xs) < suc (length xs)
    here true k most fewer = omega (arith, most)
    here false k most fewer = let f = fewer k in omega (arith, f)

equal_of : (a b : ℕ) → (a == b) ≡ true → a ≡ b
equal_of a b h = grind arith

-- the others are left
others_left : (i j : ℕ) (xs : List ℕ) → (j == i) ≡ false → has j xs ≡ true → has j (without i xs) ≡ true
others_left i j [] apart h = absurd (let z : ⊥ = cc in z)
others_left i j (x ∷ xs) apart h =
    here (i == x) refl (j == x) refl h (λ k. others_left i j xs apart k)
  where
    not_both : (i == x) ≡ true → (j == x) ≡ true → ⊥
    not_both e f =
        let same : i ≡ x = equal_of i x e in
        let other : (j == i) ≡ true = subst (λ y. (j == y) ≡ true) (sym same) f in cc

    here : (b : Bool) → (i == x) ≡ b → (c : Bool) → (j == x) ≡ c → (c || has j xs) ≡ true
        → (has j xs ≡ true → has j (without i xs) ≡ true)
        → has j (if b then without i xs else x ∷ without i xs) ≡ true
    here true e true f k later = absurd (not_both e f)
    here true e false f k later = later k
    here false e true f k later = ap (λ b. b || has j (without i xs)) f
    here false e false f k later = ap (λ b. b || has j (without i xs)) f ∙ later k

-- numbers below n that are below a or in a list
below_or_in : (n a : ℕ) (xs : List ℕ) → ((i : ℕ) → i < n → (nat_lt i a || has i xs) ≡ true) → n ≤ a + length xs
below_or_in zero a xs h = omega arith
below_or_in (suc m) a xs h =
    here (nat_lt m a) refl (h m (omega arith)) (λ ys f. below_or_in m a ys f)
  where
    apart : (i : ℕ) → i < m → (i == m) ≡ false
    apart i l = grind arith

    kept : (i : ℕ) → i < m → (b : Bool) → (b || has i xs) ≡ true → (b || has i (without m xs)) ≡ true
    kept i l true k = refl
    kept i l false k = others_left m i xs (apart i l) k

    here : (b : Bool) → nat_lt m a ≡ b → (b || has m xs) ≡ true
        → ((ys : List ℕ) → ((i : ℕ) → i < m → (nat_lt i a || has i ys) ≡ true) → m ≤ a + length ys)
        → suc m ≤ a + length xs
    here true e k later = grind arith
    here false e k later =
        let fewer = without_fewer m xs k in
        let rest = later (without m xs) (λ i l. kept i l (nat_lt i a) (h i (omega (arith, l)))) in
        omega (arith, fewer, rest)

-- ---- the words that a code sets

abbrev words_set : Code → List ℕ
words_set Done = []
words_set (Set d a rest) = d ∷ words_set rest
words_set (Compute op d a b rest) = d ∷ words_set rest
words_set (Load d a offset rest) = d ∷ words_set rest
words_set (Store b a offset rest) = words_set rest
words_set (CodeOf d k rest) = d ∷ words_set rest
words_set (Build d args rest) = d ∷ words_set rest
words_set (Request d a rest) = d ∷ words_set rest
words_set (Take a rest) = words_set rest
words_set (Environment number a b d e rest) = d ∷ e ∷ words_set rest
words_set (Call d k args rest) = d ∷ words_set rest
words_set (CallAt d f args rest) = d ∷ words_set rest
words_set (If cond a b one other rest) = words_set one ++ (words_set other ++ words_set rest)
words_set (Return a) = []
words_set (TailCall k args) = []
words_set (TailCallAt f args) = []

has_append : (i : ℕ) (xs ys : List ℕ) → has i (xs ++ ys) ≡ (has i xs || has i ys)
has_append i [] ys = refl
has_append i (x ∷ xs) ys = here (i == x) (has_append i xs ys)
  where
    here : (b : Bool) → has i (xs ++ ys) ≡ (has i xs || has i ys)
        → (b || has i (xs ++ ys)) ≡ ((b || has i xs) || has i ys)
    here true h = refl
    here false h = h

has_set : (i : ℕ) (code : Code) → has i (words_set code) ≡ sets_word i code
has_set i Done = refl
has_set i (Set d a rest) = ap (λ b. (i == d) || b) (has_set i rest)
has_set i (Compute op d a b rest) = ap (λ b. (i == d) || b) (has_set i rest)
has_set i (Load d a offset rest) = ap (λ b. (i == d) || b) (has_set i rest)
has_set i (Store b a offset rest) = has_set i rest
has_set i (CodeOf d k rest) = ap (λ b. (i == d) || b) (has_set i rest)
has_set i (Build d args rest) = ap (λ b. (i == d) || b) (has_set i rest)
has_set i (Request d a rest) = ap (λ b. (i == d) || b) (has_set i rest)
has_set i (Take a rest) = has_set i rest
has_set i (Environment number a b d e rest) = ap (λ b. (i == d) || ((i == e) || b)) (has_set i rest)
has_set i (Call d k args rest) = ap (λ b. (i == d) || b) (has_set i rest)
has_set i (CallAt d f args rest) = ap (λ b. (i == d) || b) (has_set i rest)
has_set i (If cond a b one other rest) =
    has_append i (words_set one) (words_set other ++ words_set rest)
    ∙ (ap (λ b. has i (words_set one) || b) (has_append i (words_set other) (words_set rest))
    ∙ (ap (λ b. b || (has i (words_set other) || has i (words_set rest))) (has_set i one)
    ∙ (ap (λ b. sets_word i one || (b || has i (words_set rest))) (has_set i other)
    ∙ ap (λ b. sets_word i one || (sets_word i other || b)) (has_set i rest))))
has_set i (Return a) = refl
has_set i (TailCall k args) = refl
has_set i (TailCallAt f args) = refl

few_set : (code : Code) → length (words_set code) ≤ 2 * code_size code
few_set Done = omega arith
few_set (Set d a rest) = let h = few_set rest in omega (arith, h)
few_set (Compute op d a b rest) = let h = few_set rest in omega (arith, h)
few_set (Load d a offset rest) = let h = few_set rest in omega (arith, h)
few_set (Store b a offset rest) = let h = few_set rest in omega (arith, h)
few_set (CodeOf d k rest) = let h = few_set rest in omega (arith, h)
few_set (Build d args rest) = let h = few_set rest in omega (arith, h)
few_set (Request d a rest) = let h = few_set rest in omega (arith, h)
few_set (Take a rest) = let h = few_set rest in omega (arith, h)
few_set (Environment number a b d e rest) = let h = few_set rest in omega (arith, h)
few_set (Call d k args rest) = let h = few_set rest in omega (arith, h)
few_set (CallAt d f args rest) = let h = few_set rest in omega (arith, h)
few_set (If cond a b one other rest) =
    let h = few_set one in
    let k = few_set other in
    let l = few_set rest in
    let m = length-append (words_set one) (words_set other ++ words_set rest) in
    let n = length-append (words_set other) (words_set rest) in omega (arith, h, k, l, m, n)
few_set (Return a) = omega arith
few_set (TailCall k args) = omega arith
few_set (TailCallAt f args) = omega arith

pub frames_go_by_the_size_of_code : (p : Proc)
    → ((i : ℕ) → i < p.words → (nat_lt i p.params || sets_word i p.code) ≡ true)
    → frame_size p.words ≤ 8 * (1 + p.params + 2 * code_size p.code)
frames_go_by_the_size_of_code p each =
    let few = few_set p.code in
    let most = below_or_in p.words p.params (words_set p.code) (λ i l.
    ap (λ b. nat_lt i p.params || b) (has_set i p.code) ∙ each i l) in omega (arith, few, most)
