-- The labels of an image.
use Rattle.std.proofs.Common.{ℕ, zero, suc, ◌+◌, ◌*◌, ◌<◌, ◌≤◌, ◌≡◌, Some, None, List, [], ◌∷◌, ◌++◌, length, refl, ap}
use Rattle.std.proofs.Common.{arith}
use Rattle.std.specs.Prelude.{slice_get}
use Rattle.std.proofs.lemmas.Option.{slice_get_past}
use Rattle.rv_machine.specs.Image.{label_at, labels_from}

pub length-labels_from : (n at : ℕ) (bytes : List ℕ) → length (labels_from bytes at n) ≡ n
unfolding labels_from
length-labels_from zero at bytes = refl
length-labels_from (suc n) at bytes = ap suc (length-labels_from n (at + 8) bytes)

-- a label, and none past the last
pub label_within : (n at i : ℕ) (bytes : List ℕ) → i < n →
    slice_get (labels_from bytes at n) i ≡ Some (label_at bytes (at + 8 * i))
unfolding labels_from
label_within zero at i bytes h = absurd (omega arith)
label_within (suc n) at zero bytes h = let e : at + 8 * 0 ≡ at = omega arith in rw e
label_within (suc n) at (suc i) bytes h =
    let e : at + 8 * suc i ≡ at + 8 + 8 * i = omega arith in
    rw e (label_within n (at + 8) i bytes (omega arith))

pub label_past : (n at i : ℕ) (bytes : List ℕ) → n ≤ i → slice_get (labels_from bytes at n) i ≡ None
label_past n at i bytes h = slice_get_past (labels_from bytes at n) i (omega (arith, length-labels_from n at bytes))

-- no labels, and one label more
pub labels_none : (at : ℕ) (bytes : List ℕ) → labels_from bytes at 0 ≡ []
unfolding labels_from
labels_none at bytes = refl

pub labels_more : (n at : ℕ) (bytes : List ℕ) →
    labels_from bytes at (n + 1) ≡ labels_from bytes at n ++ label_at bytes (at + 8 * n) ∷ []
unfolding labels_from
labels_more zero at bytes = let e : at + 8 * 0 ≡ at = omega arith in rw e
labels_more (suc n) at bytes =
    let z : suc n + 1 ≡ suc (n + 1) = omega arith in
    let e : at + 8 * suc n ≡ at + 8 + 8 * n = omega arith in
    rw (z, e) (ap (λ xs. label_at bytes at ∷ xs) (labels_more n (at + 8) bytes))
