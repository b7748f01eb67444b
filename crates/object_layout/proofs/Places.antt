-- Places of rows: different objects stand apart.
use Rattle.std.proofs.Common.{◌≡◌, ◌≢◌, ℕ, zero, suc, ◌+◌, ◌*◌, ◌≤◌, ◌<◌, List, [], ◌∷◌, sym, ap, ◌∙◌}
use Rattle.std.proofs.Common.{subst, arith, ◌⊎◌, inl, inr}
use Rattle.std.proofs.lemmas.Bool.{cases_order}
use Rattle.object_layout.specs.declared.headers.Header.{Header}
use Rattle.object_layout.specs.Wholes.{IsNth}

-- an object of a row begins not before the row
pub nth_above : (from : ℕ) (headers : List Header) (place at : ℕ) (h : Header) → IsNth from headers place at h →
    from ≤ at
nth_above from [] place at h n = absurd n
nth_above from (k ∷ rest) zero at h n = let e = n.0 in omega arith
nth_above from (k ∷ rest) (suc place) at h n =
    let later = nth_above (from + (8 + 8 * k.count)) rest place at h n in omega arith

-- a later object begins behind an earlier one
pub nth_behind : (from : ℕ) (headers : List Header) (place other at there : ℕ) (h k : Header) → place < other →
    IsNth from headers place at h → IsNth from headers other there k → at + (8 + 8 * h.count) ≤ there
nth_behind from [] place other at there h k less n m = absurd n
nth_behind from (x ∷ rest) zero zero at there h k less n m = absurd (omega arith)
nth_behind from (x ∷ rest) zero (suc other) at there h k less n m =
    let later = nth_above (from + (8 + 8 * x.count)) rest other there k m in
    let e : at ≡ from = n.0 in
    let c : h.count ≡ x.count = ap (λ y. y.count) n.1 in
    omega arith
nth_behind from (x ∷ rest) (suc place) zero at there h k less n m = absurd (omega arith)
nth_behind from (x ∷ rest) (suc place) (suc other) at there h k less n m =
    nth_behind (from + (8 + 8 * x.count)) rest place other at there h k (omega arith) n m

-- the object at a place has one address and one header
pub one_nth : (from : ℕ) (headers : List Header) (place at there : ℕ) (h k : Header) → IsNth from headers place at h →
    IsNth from headers place there k → (at ≡ there) × (h ≡ k)
one_nth from [] place at there h k n m = absurd n
one_nth from (x ∷ rest) zero at there h k n m = (n.0 ∙ sym m.0, n.1 ∙ sym m.1)
one_nth from (x ∷ rest) (suc place) at there h k n m =
    one_nth (from + (8 + 8 * x.count)) rest place at there h k n m

-- an address is that of one object
pub an_address_is_that_of_one_object : (from : ℕ) (headers : List Header) (place other at : ℕ) (h k : Header) →
    IsNth from headers place at h →
    IsNth from headers other at k → (place ≡ other) × (h ≡ k)
an_address_is_that_of_one_object from headers place other at h k n m = compared (cases_order place other)
  where
    compared : (place ≡ other) ⊎ ((place < other) ⊎ (other < place)) → (place ≡ other) × (h ≡ k)
    compared (inl e) =
        (e, (one_nth from headers other at at h k (subst (λ p. IsNth from headers p at h) e n) m).1)
    compared (inr (inl less)) =
        let behind = nth_behind from headers place other at at h k less n m in absurd (omega arith)
    compared (inr (inr less)) =
        let behind = nth_behind from headers other place at at k h less m n in absurd (omega arith)

-- an address behind the header of one object, but inside it, is not inside another one, nor the start of any
pub inside_one : (from : ℕ) (headers : List Header) (place other at there : ℕ) (h k : Header) (x : ℕ) →
    IsNth from headers place at h → IsNth from headers other there k → at + 8 ≤ x → x < at + (8 + 8 * h.count) →
    there ≤ x → x < there + (8 + 8 * k.count) → place ≡ other
inside_one from headers place other at there h k x n m above below above' below' = compared (cases_order place other)
  where
    compared : (place ≡ other) ⊎ ((place < other) ⊎ (other < place)) → place ≡ other
    compared (inl e) = e
    compared (inr (inl less)) =
        let behind = nth_behind from headers place other at there h k less n m in absurd (omega arith)
    compared (inr (inr less)) =
        let behind = nth_behind from headers other place there at k h less m n in absurd (omega arith)

pub inside_no_start : (from : ℕ) (headers : List Header) (place other at there : ℕ) (h k : Header) (x : ℕ) →
    IsNth from headers place at h → IsNth from headers other there k → at + 8 ≤ x → x < at + (8 + 8 * h.count) →
    there ≢ x
inside_no_start from headers place other at there h k x n m above below e =
    let same : place ≡ other = inside_one from headers place other at there h k x n m above below (omega arith)
    (omega arith) in
    let first = one_nth from headers other at there h k (subst (λ p. IsNth from headers p at h) same n) m in
    let starts : at ≡ there = first.0 in
    omega arith
