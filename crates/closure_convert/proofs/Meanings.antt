-- Meanings of names that are met.
use Rattle.std.proofs.Common.{◌≡◌, ℕ, cond, List, [], ◌∷◌, ◌++◌, Some, None}
use Rattle.std.proofs.Common.{sym}
use Rattle.std.proofs.Common.{ap, ◌∙◌, ◌<◌, ◌+◌, suc, drop, length, arith, append_assoc}
use Rattle.std.proofs.Math.Seq.{drop-cons}
use Rattle.std.specs.Prelude.{slice_index_or}
use Rattle.std.specs.Prelude.{is_some}
use Rattle.core_calc.specs.Substitution.{is_among}
use Rattle.flat_ir.specs.declared.code.Operand.{Operand}
use Rattle.closure_convert.specs.Conversion.{Scope, captured_scope, meanings_of, operand_or_unit}
use Rattle.closure_convert.specs.Scopes.{Reaches, or_else, over, with_all_free, with_free, with_name}
use Rattle.closure_convert.proofs.Meeting.{among_with}

-- a name that is bound is no captured one
pub free_bound_name : (scope : Scope) (captured : List ℕ) (name : ℕ) (o : Operand) → scope name ≡ Some o
    → captured ≡ with_free scope captured name
free_bound_name scope captured name o e = sym (ap (λ x. cond (is_some x) captured (with_name captured name)) e)

-- one that is not bound is
pub free_new_name : (scope : Scope) (captured new : List ℕ) (name : ℕ) → scope name ≡ None
    → new ≡ with_name captured name → new ≡ with_free scope captured name
free_new_name scope captured new name e k = k ∙ sym (ap (λ x. cond (is_some x) captured (with_name captured name)) e)

pub meaning_bound : (scope outer : Scope) (name : ℕ) (o : Operand) → scope name ≡ Some o
    → over scope outer name ≡ Some o
meaning_bound scope outer name o e = ap (λ x. or_else x (outer name)) e

pub meaning_captured : (scope outer : Scope) (captured new : List ℕ) (name : ℕ) (o : Operand) → scope name ≡ None
    → new ≡ with_name captured name → captured_scope new name ≡ Some o → Reaches new outer
    → over scope outer name ≡ Some o
meaning_captured scope outer captured new name o e k given r =
    ap (λ x. or_else x (outer name)) e ∙ r.at name (ap (is_among name) k ∙ among_with name captured) ∙ given

-- one meaning more
pub meanings_more : (s : Scope) (before : List Operand) (name : ℕ) (o : Operand) (left rest : List ℕ)
    (W : List Operand) → left ≡ name ∷ rest → s name ≡ Some o → before ++ meanings_of left s ≡ W
    → (before ++ o ∷ []) ++ meanings_of rest s ≡ W
meanings_more s before name o left rest W l e whole =
    append_assoc before (o ∷ []) (meanings_of rest s)
    ∙ sym (ap (λ x. before ++ operand_or_unit x ∷ meanings_of rest s) e)
    ∙ sym (ap (λ x. before ++ meanings_of x s) l) ∙ whole

drop_one : {A : Type 0} (xs : List A) (n : ℕ) (d : A) → n < length xs
    → drop n xs ≡ slice_index_or xs n d ∷ drop (n + 1) xs
drop_one {A = A} xs n d less = drop-cons xs n d less ∙ ap (λ k. slice_index_or xs n d ∷ drop k xs) up
  where
    up : suc n ≡ n + 1
    up = omega arith

-- one name more of those at the places from this one on
pub meanings_next : (s : Scope) (names : List ℕ) (n d : ℕ) (before : List Operand) (o : Operand) (W : List Operand)
    → n < length names → s (slice_index_or names n d) ≡ Some o → before ++ meanings_of (drop n names) s ≡ W
    → (before ++ o ∷ []) ++ meanings_of (drop (n + 1) names) s ≡ W
meanings_next s names n d before o W less e whole =
    meanings_more s before (slice_index_or names n d) o (drop n names) (drop (n + 1) names) W
    (drop_one names n d less) e
    whole

pub met_next : (s z : Scope) (captured new names : List ℕ) (n d : ℕ) (W : List ℕ) → n < length names → s ≡ z
    → new ≡ with_free s captured (slice_index_or names n d) → with_all_free z captured (drop n names) ≡ W
    → with_all_free z new (drop (n + 1) names) ≡ W
met_next s z captured new names n d W less e k whole =
    ap (λ x. with_all_free z x (drop (n + 1) names)) (k ∙ ap (λ x. with_free x captured (slice_index_or names n d)) e)
    ∙ sym (ap (with_all_free z captured) (drop_one names n d less)) ∙ whole
