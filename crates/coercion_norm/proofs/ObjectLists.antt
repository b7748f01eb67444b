-- Lists of objects: what stands where, and their words.
use Rattle.std.proofs.Common.{◌≡◌, ℕ, zero, suc, ◌+◌, ◌*◌, ◌%◌, ◌<◌, ◌≤◌, Bool, true, false, cond, nat_eq, List}
use Rattle.std.proofs.Common.{[], ◌∷◌, ◌++◌, length, Some, None, refl, sym, ap, ap₂, ◌∙◌, subst, arith, eqb-true}
use Rattle.std.proofs.Common.{ne_eqb, append_assoc, length-append, replicate, All, map}
use Rattle.std.proofs.lemmas.Bool.{eq-eqb}
use Rattle.std.proofs.lemmas.List.Elements.{All-head, All-tail}
use Rattle.coercion_norm.specs.Objects.{Object, Fixed, Cell, bytes_of, bytes_of_all, object_at, words_of, words_of_all}
use Rattle.coercion_norm.specs.StaticObjects.{up_to}

none_some : {A B : Type 0} {a : A} → None ≡ Some a → B
none_some {a = a} e = absurd (clash e)
  where
    clash : None ≡ Some a → ⊥
    clash h = cc

same_some : {A : Type 0} (a b : A) → Some a ≡ Some b → a ≡ b
same_some a b e = cc

-- ---- where objects stand

-- an object keeps its place as objects are added
pub object_kept : (xs ys : List Object) (from at : ℕ) (o : Object) → object_at xs from at ≡ Some o
    → object_at (xs ++ ys) from at ≡ Some o
object_kept [] ys from at o e = none_some e
object_kept (x ∷ xs) ys from at o e = by_test (object_kept xs ys (from + bytes_of x) at o) (nat_eq at from) e
  where
    by_test : (object_at xs (from + bytes_of x) at ≡ Some o → object_at (xs ++ ys) (from + bytes_of x) at ≡ Some o)
        → (b : Bool) → cond b (Some x) (object_at xs (from + bytes_of x) at) ≡ Some o
        → cond b (Some x) (object_at (xs ++ ys) (from + bytes_of x) at) ≡ Some o
    by_test ih true k = k
    by_test ih false k = ih k

pub some_bytes : (o : Object) → 0 < bytes_of o
some_bytes (Fixed header words) = omega arith
some_bytes (Cell header count) = omega arith

-- behind these objects stand the others
pub object_behind : (xs ys : List Object) (from at : ℕ) → from + bytes_of_all xs ≤ at
    → object_at (xs ++ ys) from at ≡ object_at ys (from + bytes_of_all xs) at
object_behind [] ys from at le = let e : from ≡ from + 0 = omega arith in ap (λ n. object_at ys n at) e
object_behind (x ∷ xs) ys from at le =
    let p = some_bytes x in
    let apart : nat_eq at from ≡ false = ne_eqb at from (λ e. omega (arith, p)) in
    let e : from + bytes_of x + bytes_of_all xs ≡ from + (bytes_of x + bytes_of_all xs) = omega arith in
    ap (λ b. cond b (Some x) (object_at (xs ++ ys) (from + bytes_of x) at)) apart
    ∙ (object_behind xs ys (from + bytes_of x) at (omega arith)
    ∙ ap (λ n. object_at ys n at) e)

-- an object that is added stands behind the others
pub last_stands : (xs more : List Object) (o : Object) (from at : ℕ) → at ≡ from + bytes_of_all xs
    → object_at (xs ++ o ∷ more) from at ≡ Some o
last_stands xs more o from at e =
    object_behind xs (o ∷ more) from at (omega (arith, e))
    ∙ subst (λ n. object_at (o ∷ more) n at ≡ Some o) e (here at)
  where
    here : (n : ℕ) → object_at (o ∷ more) n n ≡ Some o
    here n = ap (λ b. cond b (Some o) (object_at more (n + bytes_of o) n)) (eq-eqb n n refl)

pub bytes_append : (xs ys : List Object) → bytes_of_all (xs ++ ys) ≡ bytes_of_all xs + bytes_of_all ys
bytes_append [] ys = omega arith
bytes_append (x ∷ xs) ys = let ih = bytes_append xs ys in omega arith

-- an object lies between the start and the end, at a multiple of 8 where the start is one
pub record Within (from end at size : ℕ) : Type 0 where
  pub low : from ≤ at
  pub high : at + size ≤ end
  pub even : from % 8 ≡ 0 → at % 8 ≡ 0

pub found_within : (os : List Object) (from at : ℕ) (o : Object) → object_at os from at ≡ Some o
    → Within from (from + bytes_of_all os) at (bytes_of o)
found_within [] from at o e = none_some e
found_within (x ∷ os) from at o e = by_test (found_within os (from + bytes_of x) at o) (nat_eq at from) refl e
  where
    size : (y : Object) → (n : ℕ) × (bytes_of y ≡ 8 * n)
    size (Fixed header words) = (1 + length words, omega arith)
    size (Cell header count) = (1 + count, omega arith)

    by_test : (object_at os (from + bytes_of x) at ≡ Some o
        → Within (from + bytes_of x) (from + bytes_of x + bytes_of_all os) at (bytes_of o))
        → (b : Bool) → nat_eq at from ≡ b → cond b (Some x) (object_at os (from + bytes_of x) at) ≡ Some o
        → Within from (from + (bytes_of x + bytes_of_all os)) at (bytes_of o)
    by_test ih true b k =
        let e : at ≡ from = eqb-true at from b in
        let s : bytes_of x ≡ bytes_of o = ap bytes_of (same_some x o k) in
        record { low = omega arith; high = omega arith; even = λ h. omega arith }
    by_test ih false b k =
        let w = ih k in
        let s = size x in
        record { low = omega (arith, w.low); high = omega (arith, w.high); even = λ h. w.even (omega (arith, s.1)) }

-- ---- their words

pub words_append : (xs ys : List Object) → words_of_all (xs ++ ys) ≡ words_of_all xs ++ words_of_all ys
words_append [] ys = refl
words_append (x ∷ xs) ys =
    ap (λ ws. words_of x ++ ws) (words_append xs ys)
    ∙ sym (append_assoc (words_of x) (words_of_all xs) (words_of_all ys))

-- an object has as many bytes as its words
pub bytes_of_words : (o : Object) → bytes_of o ≡ 8 * length (words_of o)
bytes_of_words (Fixed header words) = omega arith
bytes_of_words (Cell header count) = let e = as_many count in omega (arith, e)
  where
    as_many : (n : ℕ) → length {A = ℕ} (replicate n 0) ≡ n
    as_many zero = refl
    as_many (suc n) = ap suc (as_many n)

pub bytes_of_all_words : (os : List Object) → bytes_of_all os ≡ 8 * length (words_of_all os)
bytes_of_all_words [] = omega arith
bytes_of_all_words (o ∷ os) =
    let first = bytes_of_words o in
    let rest = bytes_of_all_words os in
    let both = length-append (words_of o) (words_of_all os) in
    omega (arith, first, rest, both)

-- ---- what is told

-- what two functions give alike is the same row
pub up_to_same : {A : Type 0} (give other : ℕ → List A) (many : ℕ) → ((n : ℕ) → n < many → give n ≡ other n)
    → up_to give many ≡ up_to other many
up_to_same give other zero same = refl
up_to_same give other (suc many) same =
    ap₂ (λ xs ys. xs ++ ys) (up_to_same give other many (λ n l. same n (omega (arith, l)))) (same many (omega arith))

pub map_same : (give other : ℕ → ℕ) (places : List ℕ) → All (λ place. give place ≡ other place) places
    → map give places ≡ map other places
map_same give other [] all = refl
map_same give other (place ∷ places) all =
    ap₂ (λ x xs. x ∷ xs) (All-head (λ p. give p ≡ other p) place places all)
    (map_same give other places (All-tail (λ p. give p ≡ other p) place places all))
