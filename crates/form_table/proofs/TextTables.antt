-- A table of texts, gone through from a place on.
use Rattle.std.proofs.Common.{◌≡◌, ◌<◌, ◌≤◌, ℕ, suc, ◌+◌, true, false, cond, List, length, drop}
use Rattle.std.proofs.Common.{Some, None, sym, ap, ◌∙◌, get_or, arith, drop-cons}
use Rattle.std.specs.Prelude.{bytes_eq}
use Rattle.std.proofs.lemmas.List.{drop_all}
use Rattle.form_table.specs.Words.{first_with}

module _ {A : Type 0} (text : A → List ℕ) (bytes : List ℕ) (xs : List A) (i : ℕ) (x : A) (within : i < length xs)
    (is : x ≡ get_or xs i x) where
  -- the table from a place on
  one_more : first_with text bytes (drop i xs)
      ≡ cond (bytes_eq (text x) bytes) (Some x) (first_with text bytes (drop (i + 1) xs))
  unfolding first_with
  one_more =
      let next : i + 1 ≡ suc i = omega arith in
      rw (next, drop-cons xs i x within)
      (ap (λ y. cond (bytes_eq (text y) bytes) (Some y) (first_with text bytes (drop (suc i) xs))) (sym is))

  -- where the entry at this place has the text
  pub first_found : bytes_eq (text x) bytes ≡ true → first_with text bytes (drop i xs) ≡ Some x
  first_found e = one_more ∙ ap (λ b. cond b (Some x) (first_with text bytes (drop (i + 1) xs))) e

  -- where it has another
  pub first_behind : bytes_eq (text x) bytes ≡ false
      → first_with text bytes (drop i xs) ≡ first_with text bytes (drop (i + 1) xs)
  first_behind e = one_more ∙ ap (λ b. cond b (Some x) (first_with text bytes (drop (i + 1) xs))) e

pub none_left : {A : Type 0} (text : A → List ℕ) (bytes : List ℕ) (xs : List A) (i : ℕ) → length xs ≤ i
    → first_with text bytes (drop i xs) ≡ None
unfolding first_with
none_left text bytes xs i past = ap (first_with text bytes) (drop_all i xs past)
