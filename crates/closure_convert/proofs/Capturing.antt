-- Names that are captured, and the operands that a map keeps beside their list.
use Rattle.std.proofs.Common.{◌≡◌, ℕ, suc, ◌+◌, Bool, true, false, cond, nat_eq, List, [], ◌∷◌, ◌++◌, length}
use Rattle.std.proofs.Common.{Some, None, refl, sym, ap, ap₂, ◌∙◌, arith, eqb-true}
use Rattle.std.specs.Prelude.{is_some}
use Rattle.core_calc.specs.Substitution.{is_among}
use Rattle.flat_ir.specs.declared.code.Operand.{Operand}
use Rattle.flat_ir.specs.declared.code.Operand.TheVariants.{Captured}
use Rattle.closure_convert.specs.Conversion.{Scope, bind_operands, captured_scope, nothing_known, numbered}
use Rattle.closure_convert.specs.Scopes.{with_name}
use Rattle.closure_convert.proofs.Carrying.{is_itself, chosen_true, chosen_false, false_true}
use Rattle.closure_convert.proofs.Scoping.{turned}

-- the operands of names that are numbered from this number on
abbrev numbered_from : List ℕ → ℕ → Scope
numbered_from names k = bind_operands names (numbered (λ i. Captured i) names k) nothing_known

-- a name is there exactly where it has an operand
has_operand : (names : List ℕ) (k name : ℕ) → is_some (numbered_from names k name) ≡ is_among name names
has_operand [] k name = refl
has_operand (x ∷ xs) k name = by_test (nat_eq name x) (has_operand xs (suc k) name)
  where
    by_test : (b : Bool) → is_some (numbered_from xs (suc k) name) ≡ is_among name xs
        → is_some (cond b (Some (Captured k)) (numbered_from xs (suc k) name)) ≡ cond b true (is_among name xs)
    by_test true ih = refl
    by_test false ih = ih

pub captured_already : (names : List ℕ) (name : ℕ) (o : Operand) → captured_scope names name ≡ Some o
    → names ≡ with_name names name
captured_already names name o e =
    sym (chosen_true (is_among name names) names (names ++ name ∷ []) (sym (has_operand names 0 name) ∙ ap is_some e))

pub captured_last : (names : List ℕ) (name : ℕ) → captured_scope names name ≡ None
    → names ++ name ∷ [] ≡ with_name names name
captured_last names name e =
    sym (chosen_false (is_among name names) names (names ++ name ∷ []) (sym (has_operand names 0 name) ∙ ap is_some e))

-- a name more has the next number
one_more : (names : List ℕ) (k name other : ℕ) → is_among name names ≡ false
    → numbered_from (names ++ name ∷ []) k other
    ≡ cond (nat_eq name other) (Some (Captured (k + length names))) (numbered_from names k other)
one_more [] k name other absent = ap₂ (λ b n. cond b (Some (Captured n)) None) (turned other name) same
  where
    same : k ≡ k + 0
    same = omega arith
one_more (x ∷ xs) k name other absent =
    by_test (nat_eq other x) refl (nat_eq name x) refl absent (one_more xs (suc k) name other)
  where
    later : suc k + length xs ≡ k + suc (length xs)
    later = omega arith

    by_test : (b : Bool) → nat_eq other x ≡ b → (c : Bool) → nat_eq name x ≡ c
        → cond c true (is_among name xs) ≡ false
        → (is_among name xs ≡ false → numbered_from (xs ++ name ∷ []) (suc k) other
        ≡ cond (nat_eq name other) (Some (Captured (suc k + length xs))) (numbered_from xs (suc k) other))
        → cond b (Some (Captured k)) (numbered_from (xs ++ name ∷ []) (suc k) other)
        ≡ cond (nat_eq name other) (Some (Captured (k + suc (length xs))))
        (cond b (Some (Captured k)) (numbered_from xs (suc k) other))
    by_test b e true f h ih = false_true (sym h)
    by_test true e false f h ih =
        sym (chosen_false (nat_eq name other) (Some (Captured (k + suc (length xs)))) (Some (Captured k))
        (ap (nat_eq name) (eqb-true other x e) ∙ f))
    by_test false e false f h ih =
        ih h ∙ ap (λ n. cond (nat_eq name other) (Some (Captured n)) (numbered_from xs (suc k) other)) later

-- what a map keeps is what the list gives, also with a name more
pub operands_kept : (names : List ℕ) (name number : ℕ) (before after : Scope)
    → ((other : ℕ) → before other ≡ captured_scope names other) → before name ≡ None → number ≡ length names
    → ((other : ℕ) → after other ≡ cond (nat_eq name other) (Some (Captured number)) (before other))
    → (other : ℕ) → after other ≡ captured_scope (names ++ name ∷ []) other
operands_kept names name number before after kept none last updates other =
    updates other ∙ ap₂ (λ n o. cond (nat_eq name other) (Some (Captured n)) o) counted (kept other)
    ∙ sym (one_more names 0 name other (sym (has_operand names 0 name) ∙ ap is_some (sym (kept name) ∙ none)))
  where
    counted : number ≡ 0 + length names
    counted = omega (arith, last)

pub newly_captured : (names : List ℕ) (name number : ℕ) → captured_scope names name ≡ None → number ≡ length names
    → captured_scope (names ++ name ∷ []) name ≡ Some (Captured number)
newly_captured names name number none last =
    one_more names 0 name name (sym (has_operand names 0 name) ∙ ap is_some none)
    ∙ chosen_true (nat_eq name name) (Some (Captured (0 + length names))) (captured_scope names name) (is_itself name)
    ∙ ap (λ n. Some (Captured n)) counted
  where
    counted : 0 + length names ≡ number
    counted = omega (arith, last)
