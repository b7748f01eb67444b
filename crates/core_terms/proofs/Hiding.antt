-- Entries in front of those of a group: what is found among them, and what is left without some names.
use Rattle.std.proofs.Common.{◌≡◌, ℕ, List, [], ◌∷◌, ◌++◌, refl, ap, ◌∙◌, sym}
use Rattle.std.specs.Prelude.{Bool, true, false, cond, Option, Some, None, nat_eq}
use Rattle.std.proofs.lemmas.List.{append-nil}
use Rattle.core_calc.specs.Terms.{Value}
use Rattle.core_calc.specs.Substitution.{Substitution, entry_of, is_among, without}

-- ---- what is found

abbrev pub or_else : Option Value → Option Value → Option Value
or_else (Some v) other = Some v
or_else None other = other

first_of_both : (b : Bool) (v : Value) (o p q : Option Value) → q ≡ or_else o p →
    cond b (Some v) q ≡ or_else (cond b (Some v) o) p
first_of_both true v o p q e = refl
first_of_both false v o p q e = e

-- the entries in front count first
pub found_in_both : (name : ℕ) (front behind : Substitution) →
    entry_of name (front ++ behind) ≡ or_else (entry_of name front) (entry_of name behind)
found_in_both name [] behind = refl
found_in_both name (entry ∷ front) behind =
    first_of_both (nat_eq name entry.0) entry.1 (entry_of name front) (entry_of name behind)
    (entry_of name (front ++ behind)) (found_in_both name front behind)

pub found_in_front : (name : ℕ) (front behind : Substitution) (v : Value) → Some v ≡ entry_of name front →
    Some v ≡ entry_of name (front ++ behind)
found_in_front name front behind v e =
    sym (found_in_both name front behind ∙ ap (λ o. or_else o (entry_of name behind)) (sym e))

pub found_behind : (name : ℕ) (front behind : Substitution) (o : Option Value) → None ≡ entry_of name front →
    o ≡ entry_of name behind → o ≡ entry_of name (front ++ behind)
found_behind name front behind o e f =
    f ∙ sym (found_in_both name front behind ∙ ap (λ o. or_else o (entry_of name behind)) (sym e))

-- ---- what is left

left_of_both : (b : Bool) (entry : ℕ × Value) (front behind both : Substitution) → both ≡ front ++ behind →
    cond b both (entry ∷ both) ≡ cond b front (entry ∷ front) ++ behind
left_of_both true entry front behind both e = e
left_of_both false entry front behind both e = ap (λ x. entry ∷ x) e

pub without_both : (names : List ℕ) (front behind : Substitution) →
    without names (front ++ behind) ≡ without names front ++ without names behind
without_both names [] behind = refl
without_both names (entry ∷ front) behind =
    left_of_both (is_among entry.0 names) entry (without names front) (without names behind)
    (without names (front ++ behind)) (without_both names front behind)

-- where neither has one of the names
pub none_hidden : (names : List ℕ) (front behind : Substitution) → without names front ≡ front →
    without names behind ≡ behind → without names (front ++ behind) ≡ front ++ behind
none_hidden names front behind e f =
    without_both names front behind ∙ ap (λ x. x ++ without names behind) e ∙ ap (λ x. front ++ x) f

-- what is left of both, with nothing behind it
pub some_hidden : (names : List ℕ) (front behind kept left : Substitution) → kept ≡ without names front →
    left ≡ kept ++ without names behind → without names (front ++ behind) ≡ left ++ []
some_hidden names front behind kept left e f =
    without_both names front behind ∙ ap (λ x. x ++ without names behind) (sym e) ∙ sym f ∙ sym (append-nil left)
