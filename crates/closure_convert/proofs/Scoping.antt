-- Scopes in which names are bound, and in which that is undone.
use Rattle.std.proofs.Common.{◌≡◌, ℕ, zero, suc, Bool, true, false, cond, nat_eq, List, [], ◌∷◌, ◌++◌, length}
use Rattle.std.proofs.Common.{Option, Some, refl, sym, ap, ◌∙◌, arith, eqb-true, append_assoc, ◌+◌}
use Rattle.std.proofs.Math.Path.{fun_ext}
use Rattle.flat_ir.specs.declared.code.Operand.{Operand}
use Rattle.closure_convert.specs.declared.names.Meaning.{Meaning}
use Rattle.closure_convert.specs.Conversion.{Scope, nothing_known, bind_operands, numbered}
use Rattle.closure_convert.specs.Numbers.{counted}
use Rattle.closure_convert.specs.Scopes.{set_meaning, undone, or_else, over}
use Rattle.closure_convert.proofs.Carrying.{false_true, is_itself}

-- ---- names that are bound

-- what is bound on top of what is known outside
pub over_bound : (names : List ℕ) (os : List Operand) (scope outer : Scope)
    → over (bind_operands names os scope) outer ≡ bind_operands names os (over scope outer)
over_bound names os scope outer = fun_ext (λ other. at names os other)
  where
    at : (names : List ℕ) (os : List Operand) (other : ℕ)
        → over (bind_operands names os scope) outer other ≡ bind_operands names os (over scope outer) other
    at [] os other = refl
    at (name ∷ names) [] other = refl
    at (name ∷ names) (o ∷ os) other = by_test (nat_eq other name) (at names os other)
      where
        by_test : (b : Bool)
            → over (bind_operands names os scope) outer other ≡ bind_operands names os (over scope outer) other
            → or_else (cond b (Some o) (bind_operands names os scope other)) (outer other)
            ≡ cond b (Some o) (bind_operands names os (over scope outer) other)
        by_test true ih = refl
        by_test false ih = ih

pub over_nothing : (outer : Scope) → over nothing_known outer ≡ outer
over_nothing outer = refl

-- the last of names that are bound at once is bound before the others
pub bound_last : (names : List ℕ) (os : List Operand) (name : ℕ) (o : Operand) (scope : Scope)
    → length names ≡ length os
    → bind_operands (names ++ name ∷ []) (os ++ o ∷ []) scope
    ≡ bind_operands names os (set_meaning name (Some o) scope)
bound_last names os name o scope len = fun_ext (λ other. at names os len other)
  where
    at : (names : List ℕ) (os : List Operand) → length names ≡ length os → (other : ℕ)
        → bind_operands (names ++ name ∷ []) (os ++ o ∷ []) scope other
        ≡ bind_operands names os (set_meaning name (Some o) scope) other
    at [] [] len other = refl
    at [] (p ∷ os) len other = absurd (omega arith)
    at (n ∷ names) [] len other = absurd (omega arith)
    at (n ∷ names) (p ∷ os) len other =
        ap (λ r. cond (nat_eq other n) (Some p) r) (at names os (omega arith) other)

-- ---- bindings that are undone

pub undone_append : (first rest : List Meaning) (scope : Scope)
    → undone (first ++ rest) scope ≡ undone first (undone rest scope)
undone_append [] rest scope = refl
undone_append (m ∷ first) rest scope = ap (λ s. set_meaning m.name m.operand s) (undone_append first rest scope)

-- a name has its old meaning again
pub set_back : (name : ℕ) (meaning : Option Operand) (scope : Scope)
    → set_meaning name (scope name) (set_meaning name meaning scope) ≡ scope
set_back name meaning scope = fun_ext (λ other. by_test other (nat_eq other name) refl)
  where
    by_test : (other : ℕ) (b : Bool) → nat_eq other name ≡ b
        → cond b (scope name) (cond b meaning (scope other)) ≡ scope other
    by_test other true k = sym (ap scope (eqb-true other name k))
    by_test other false k = refl

-- ---- numbered operands

pub counted_numbered : (make : ℕ → Operand) (names : List ℕ) (first : ℕ)
    → counted make (length names) first ≡ numbered make names first
counted_numbered make [] first = refl
counted_numbered make (name ∷ names) first = ap (λ r. make first ∷ r) (counted_numbered make names (suc first))

pub counted_long : (make : ℕ → Operand) (count first : ℕ) → length (counted make count first) ≡ count
counted_long make zero first = refl
counted_long make (suc count) first = ap suc (counted_long make count (suc first))

-- one operand more, of those that are left
pub counted_more : (make : ℕ → Operand) (before : List Operand) (left less number next : ℕ) → left ≡ suc less
    → next ≡ number + 1
    → (before ++ make number ∷ []) ++ counted make less next ≡ before ++ counted make left number
counted_more make before left less number next l n =
    append_assoc before (make number ∷ []) (counted make less next)
    ∙ ap (λ r. before ++ make number ∷ r) (ap (counted make less) up)
    ∙ sym (ap (λ k. before ++ counted make k number) l)
  where
    up : next ≡ suc number
    up = omega arith

-- ---- one name that gets a meaning

pub turned : (a b : ℕ) → nat_eq a b ≡ nat_eq b a
turned a b = by_test (nat_eq a b) refl (nat_eq b a) refl
  where
    by_test : (x : Bool) → nat_eq a b ≡ x → (y : Bool) → nat_eq b a ≡ y → x ≡ y
    by_test true e true f = refl
    by_test true e false f = false_true (sym f ∙ ap (nat_eq b) (eqb-true a b e) ∙ is_itself b)
    by_test false e true f = sym (false_true (sym e ∙ ap (nat_eq a) (eqb-true b a f) ∙ is_itself a))
    by_test false e false f = refl

pub set_updates : (name : ℕ) (meaning : Option Operand) (before after : Scope)
    → ((q : ℕ) → after q ≡ cond (nat_eq name q) meaning (before q)) → after ≡ set_meaning name meaning before
set_updates name meaning before after h =
    fun_ext (λ q. h q ∙ ap (λ b. cond b meaning (before q)) (turned name q))
