-- What a set that keeps its order says of its keys as a table, where its test tells whether two entries are the same.
use Rattle.std.proofs.Common.{◌≡◌, ◌≢◌, ℕ, ◌<◌, ◌++◌, ◌∷◌, [], List, Bool, true, false, Some, refl, sym, ap, ◌∙◌}
use Rattle.std.proofs.Common.{true≢false, inl, inr, slice_get, Contains, if◌then◌else◌, arith, Decides}
use Rattle.std.proofs.lemmas.Option.{slice_get_cases, slice_get_within, get_or_from_slice_get}
use Rattle.std.proofs.lemmas.Map.Made.{AllPairs-from_IsDistinct}
use Rattle.std.proofs.lemmas.Map.Views.{Contains-from_any, list_any-from_Contains}
use Rattle.std.specs.Cmp.{decided}
use Rattle.std.specs.List.{AllPairs, IsDistinct, list_any}
use Rattle.indexmap.specs.IndexSet.{insert_key}
use Rattle.grift_base.specs.Tables.{HasNoRepeats, Interns}

-- where no two elements are the same, one element stands at one place
at_one_place : {T : Type 0} (xs : List T) → AllPairs (λ x y. x ≢ y) xs → (i j : ℕ) (x : T) → slice_get xs i ≡ Some x
    → slice_get xs j ≡ Some x → i ≡ j
at_one_place xs apart i j x at_i at_j =
    let same = get_or_from_slice_get xs i x x at_i ∙ sym (get_or_from_slice_get xs j x x at_j) in
    let not_before : i < j → ⊥ = λ l. apart i j x l (slice_get_within xs j x at_j) same in
    let not_after : j < i → ⊥ = λ l. apart j i x l (slice_get_within xs i x at_i) (sym same) in
    omega arith

module _ {T : Type 0} {eq : T → T → Bool} (same : (x y : T) → Decides (eq x y) (x ≡ y)) where
  -- a set's keys hold nothing twice
  pub HasNoRepeats-from_IsDistinct : (xs : List T) → IsDistinct eq xs → HasNoRepeats xs
  HasNoRepeats-from_IsDistinct xs distinct i j within e =
      elim (slice_get_cases xs i).1 [
        | inl found ↦ at_one_place xs (AllPairs-from_IsDistinct same xs distinct) i j found.0 found.2 (sym e ∙ found.2)
        | inr past ↦ omega arith
      ]

  -- what a set's test does not find is not among its keys
  pub absent-from_list_any : (xs : List T) (x : T) → list_any (eq x) xs ≡ false → ¬ Contains xs x
  absent-from_list_any xs x e there = true≢false (sym (list_any-from_Contains (decided eq same) x xs there) ∙ e)

  -- an insert into a set is an intern into the table of its keys
  pub Interns-insert_key : (old : List T) (x : T) → Interns old x (insert_key eq old x)
  Interns-insert_key old x = by (list_any (eq x) old) refl
    where
      by : (b : Bool) → list_any (eq x) old ≡ b → Interns old x (insert_key eq old x)
      by true e = inl (Contains-from_any (λ a b. (same a b).0) x old e, ap (λ c. if c then old else old ++ x ∷ []) e)
      by false e = inr (absent-from_list_any old x e, ap (λ c. if c then old else old ++ x ∷ []) e)
