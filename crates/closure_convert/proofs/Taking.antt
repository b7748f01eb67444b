-- Names that are bound from the last one on.
use Rattle.std.proofs.Common.{◌≡◌, ◌<◌, ◌≤◌, ℕ, zero, suc, List, [], ◌∷◌, ◌++◌, length, take, Some, refl}
use Rattle.std.proofs.Common.{sym, ap}
use Rattle.std.proofs.Common.{◌∙◌, arith}
use Rattle.std.specs.Prelude.{slice_index_or}
use Rattle.core_calc.specs.declared.terms.VarId.{VarId}
use Rattle.core_calc.specs.Views.{names_of}
use Rattle.flat_ir.specs.declared.code.Operand.{Operand}
use Rattle.closure_convert.specs.Conversion.{Scope, bind_operands}
use Rattle.closure_convert.specs.Scopes.{set_meaning}
use Rattle.closure_convert.proofs.Scoping.{bound_last}

take_one : {A : Type 0} (xs : List A) (n : ℕ) (d : A) → n < length xs
    → take (suc n) xs ≡ take n xs ++ slice_index_or xs n d ∷ []
take_one [] n d e = absurd (omega arith)
take_one (y ∷ xs) zero d e = refl
take_one (y ∷ xs) (suc n) d e = ap (λ r. y ∷ r) (take_one xs n d (omega arith))

take_long : {A : Type 0} (xs : List A) (n : ℕ) → n ≤ length xs → length (take n xs) ≡ n
take_long xs zero le = refl
take_long [] (suc n) le = absurd (omega arith)
take_long (y ∷ xs) (suc n) le = ap suc (take_long xs n (omega arith))

take_name : (names : List VarId) (n : ℕ) (d : VarId) → n < length names
    → take (suc n) (names_of names) ≡ take n (names_of names) ++ (slice_index_or names n d).0 ∷ []
take_name [] n d e = absurd (omega arith)
take_name (y ∷ names) zero d e = refl
take_name (y ∷ names) (suc n) d e = ap (λ r. y.0 ∷ r) (take_name names n d (omega arith))

pub names_long : (names : List VarId) → length (names_of names) ≡ length names
names_long [] = refl
names_long (x ∷ names) = ap suc (names_long names)

pub take_all : {A : Type 0} (xs : List A) (n : ℕ) → n ≡ length xs → take n xs ≡ xs
take_all {A = A} xs n e = ap (λ k. take k xs) e ∙ all xs
  where
    all : (xs : List A) → take (length xs) xs ≡ xs
    all [] = refl
    all (x ∷ xs) = ap (λ r. x ∷ r) (all xs)

-- the name at a place is bound before those in front of it
pub bound_next : (names : List VarId) (os : List Operand) (left less : ℕ) (d : VarId) (p : Operand)
    (before after : Scope) (W : Scope) → left ≡ suc less → left ≤ length names → length names ≡ length os
    → after ≡ set_meaning (slice_index_or names less d).0 (Some (slice_index_or os less p)) before
    → bind_operands (take left (names_of names)) (take left os) before ≡ W
    → bind_operands (take less (names_of names)) (take less os) after ≡ W
bound_next names os left less d p before after W l le len k whole =
    ap (bind_operands (take less (names_of names)) (take less os)) k
    ∙ sym (bound_last (take less (names_of names)) (take less os) name o before same)
    ∙ sym (ap (λ x. bind_operands x (take less os ++ o ∷ []) before) (take_name names less d (omega arith)))
    ∙ sym (ap (λ x. bind_operands (take (suc less) (names_of names)) x before) (take_one os less p (omega arith)))
    ∙ sym (ap (λ m. bind_operands (take m (names_of names)) (take m os) before) l) ∙ whole
  where
    name : ℕ
    name = (slice_index_or names less d).0

    o : Operand
    o = slice_index_or os less p

    first : length (take less (names_of names)) ≡ less
    first = let e : length (names_of names) ≡ length names = names_long names in
        take_long (names_of names) less (omega arith)

    second : length (take less os) ≡ less
    second = take_long os less (omega arith)

    same : length (take less (names_of names)) ≡ length (take less os)
    same = first ∙ sym second

-- all names are left at first
pub all_left : (names : List VarId) (os : List Operand) (left : ℕ) (scope : Scope) → left ≡ length names
    → length names ≡ length os
    → bind_operands (take left (names_of names)) (take left os) scope ≡ bind_operands (names_of names) os scope
all_left names os left scope l len =
    ap (λ x. bind_operands x (take left os) scope) (take_all (names_of names) left (l ∙ sym (names_long names)))
    ∙ ap (λ x. bind_operands (names_of names) x scope) (take_all os left (l ∙ len))

-- and none at last
pub none_left : (names : List VarId) (os : List Operand) (left : ℕ) (scope whole : Scope) → left ≡ 0
    → bind_operands (take left (names_of names)) (take left os) scope ≡ whole → scope ≡ whole
none_left names os left scope whole e h =
    sym (ap (λ n. bind_operands (take n (names_of names)) (take n os) scope) e) ∙ h
