-- Names that are met while a function is converted: which it captures, in which order, and how they are numbered.
use Rattle.std.proofs.Common.{◌≡◌, ℕ, suc, Bool, true, false, cond, nat_eq, List, [], ◌∷◌, ◌++◌}
use Rattle.std.proofs.Common.{length}
use Rattle.std.proofs.Common.{Some, refl, sym, ap, ◌∙◌, arith, eqb-true, append_assoc}
use Rattle.std.specs.Prelude.{is_some}
use Rattle.core_calc.specs.Substitution.{is_among}
use Rattle.coer_core.specs.Counts.{names_besides, each_once}
use Rattle.flat_ir.specs.declared.code.Operand.{Operand}
use Rattle.flat_ir.specs.declared.code.Operand.TheVariants.{Captured}
use Rattle.closure_convert.specs.Conversion.{Scope, nothing_known, bind_operands, numbered, captured_scope}
use Rattle.closure_convert.specs.Scopes.{Reaches, with_name, with_free, with_all_free}
use Rattle.closure_convert.specs.Converting.{Hides}
use Rattle.closure_convert.proofs.Carrying.{is_itself, chosen_true, false_true}

-- ---- names in lists

pub among_append : (name : ℕ) (xs ys : List ℕ)
    → is_among name (xs ++ ys) ≡ cond (is_among name xs) true (is_among name ys)
among_append name [] ys = refl
among_append name (x ∷ xs) ys = by_test (nat_eq name x) (among_append name xs ys)
  where
    by_test : (b : Bool) → is_among name (xs ++ ys) ≡ cond (is_among name xs) true (is_among name ys)
        → cond b true (is_among name (xs ++ ys)) ≡ cond (cond b true (is_among name xs)) true (is_among name ys)
    by_test true ih = refl
    by_test false ih = ih

pub among_left : (name : ℕ) (xs ys : List ℕ) → is_among name xs ≡ true → is_among name (xs ++ ys) ≡ true
among_left name xs ys e = among_append name xs ys ∙ ap (λ b. cond b true (is_among name ys)) e

pub among_last : (name : ℕ) (xs : List ℕ) → is_among name (xs ++ name ∷ []) ≡ true
among_last name xs =
    among_append name xs (name ∷ []) ∙ ap (λ b. cond (is_among name xs) true (cond b true false)) (is_itself name)
    ∙ both (is_among name xs)
  where
    both : (b : Bool) → cond b true true ≡ true
    both true = refl
    both false = refl

pub besides_append : (names xs ys : List ℕ)
    → names_besides names (xs ++ ys) ≡ names_besides names xs ++ names_besides names ys
besides_append names [] ys = refl
besides_append names (x ∷ xs) ys = by_test (is_among x names) (besides_append names xs ys)
  where
    by_test : (b : Bool) → names_besides names (xs ++ ys) ≡ names_besides names xs ++ names_besides names ys
        → cond b (names_besides names (xs ++ ys)) (x ∷ names_besides names (xs ++ ys))
        ≡ cond b (names_besides names xs) (x ∷ names_besides names xs) ++ names_besides names ys
    by_test true ih = ih
    by_test false ih = ap (λ r. x ∷ r) ih

pub besides_none : (xs : List ℕ) → names_besides [] xs ≡ xs
besides_none [] = refl
besides_none (x ∷ xs) = ap (λ r. x ∷ r) (besides_none xs)

pub besides_both : (c d ys : List ℕ) → names_besides (c ++ d) ys ≡ names_besides d (names_besides c ys)
besides_both c d [] = refl
besides_both c d (y ∷ ys) =
    ap (λ b. cond b (names_besides (c ++ d) ys) (y ∷ names_besides (c ++ d) ys)) (among_append y c d)
    ∙ by_test (is_among y c) (is_among y d) refl (besides_both c d ys)
  where
    by_test : (b e : Bool) → is_among y d ≡ e → names_besides (c ++ d) ys ≡ names_besides d (names_besides c ys)
        → cond (cond b true e) (names_besides (c ++ d) ys) (y ∷ names_besides (c ++ d) ys)
        ≡ names_besides d (cond b (names_besides c ys) (y ∷ names_besides c ys))
    by_test true e k ih = ih
    by_test false e k ih =
        ap (λ r. cond e r (y ∷ r)) ih
        ∙ sym (ap (λ b. cond b (names_besides d (names_besides c ys)) (y ∷ names_besides d (names_besides c ys))) k)

-- the order of two lists doesn't count
pub besides_swap : (c d ys : List ℕ) → names_besides c (names_besides d ys) ≡ names_besides d (names_besides c ys)
besides_swap c d ys = sym (besides_both d c ys) ∙ same d c ys ∙ besides_both c d ys
  where
    either : (b e : Bool) → cond b true e ≡ cond e true b
    either true true = refl
    either true false = refl
    either false true = refl
    either false false = refl

    same : (d c ys : List ℕ) → names_besides (d ++ c) ys ≡ names_besides (c ++ d) ys
    same d c [] = refl
    same d c (y ∷ ys) =
        ap (λ b. cond b (names_besides (d ++ c) ys) (y ∷ names_besides (d ++ c) ys))
        (among_append y d c ∙ either (is_among y d) (is_among y c) ∙ sym (among_append y c d))
        ∙ ap (λ r. cond (is_among y (c ++ d)) r (y ∷ r)) (same d c ys)

-- a name that is left out anyway
pub besides_dropped : (names : List ℕ) (x : ℕ) (ys : List ℕ) → is_among x names ≡ true
    → names_besides names (names_besides (x ∷ []) ys) ≡ names_besides names ys
besides_dropped names x [] e = refl
besides_dropped names x (y ∷ ys) e = by_test (nat_eq y x) refl (besides_dropped names x ys e)
  where
    by_test : (b : Bool) → nat_eq y x ≡ b
        → names_besides names (names_besides (x ∷ []) ys) ≡ names_besides names ys
        → names_besides names (cond (cond b true false) (names_besides (x ∷ []) ys) (y ∷ names_besides (x ∷ []) ys))
        ≡ cond (is_among y names) (names_besides names ys) (y ∷ names_besides names ys)
    by_test true k ih =
        ih ∙ sym (chosen_true (is_among y names) (names_besides names ys) (y ∷ names_besides names ys)
        (ap (λ z. is_among z names) (eqb-true y x k) ∙ e))
    by_test false k ih = ap (λ r. cond (is_among y names) r (y ∷ r)) ih

pub once_besides : (names ys : List ℕ) → each_once (names_besides names ys) ≡ names_besides names (each_once ys)
once_besides names [] = refl
once_besides names (y ∷ ys) = by_test (is_among y names) refl (once_besides names ys)
  where
    by_test : (b : Bool) → is_among y names ≡ b
        → each_once (names_besides names ys) ≡ names_besides names (each_once ys)
        → each_once (cond b (names_besides names ys) (y ∷ names_besides names ys))
        ≡ cond b (names_besides names (names_besides (y ∷ []) (each_once ys)))
        (y ∷ names_besides names (names_besides (y ∷ []) (each_once ys)))
    by_test true k ih = ih ∙ sym (besides_dropped names y (each_once ys) k)
    by_test false k ih =
        ap (λ r. y ∷ r) (ap (names_besides (y ∷ [])) ih ∙ besides_swap (y ∷ []) names (each_once ys))

-- ---- names that are met

pub free_append : (scope : Scope) (captured xs ys : List ℕ)
    → with_all_free scope captured (xs ++ ys) ≡ with_all_free scope (with_all_free scope captured xs) ys
free_append scope captured [] ys = refl
free_append scope captured (x ∷ xs) ys = free_append scope (with_free scope captured x) xs ys

-- a name that is bound, or captured already
abbrev met : Scope → List ℕ → ℕ → Bool
met scope captured name = cond (is_some (scope name)) true (is_among name captured)

met_same : (scope : Scope) (captured : List ℕ) (name : ℕ) → met scope captured name ≡ true
    → with_free scope captured name ≡ captured
met_same scope captured name e = by_test (is_some (scope name)) (is_among name captured) e
  where
    by_test : (b d : Bool) → cond b true d ≡ true
        → cond b captured (cond d captured (captured ++ name ∷ [])) ≡ captured
    by_test true d k = refl
    by_test false true k = refl
    by_test false false k = false_true k

met_still : (scope : Scope) (captured : List ℕ) (name other : ℕ) → met scope captured name ≡ true
    → met scope (with_free scope captured other) name ≡ true
met_still scope captured name other e =
    by_test (is_some (scope name)) (is_some (scope other)) (is_among other captured) e
  where
    by_test : (b d f : Bool) → cond b true (is_among name captured) ≡ true
        → cond b true (is_among name (cond d captured (cond f captured (captured ++ other ∷ [])))) ≡ true
    by_test true d f k = refl
    by_test false true f k = k
    by_test false false true k = k
    by_test false false false k = among_left name captured (other ∷ []) k

met_now : (scope : Scope) (captured : List ℕ) (name : ℕ) → met scope (with_free scope captured name) name ≡ true
met_now scope captured name = by_test (is_some (scope name)) (is_among name captured) refl
  where
    by_test : (b d : Bool) → is_among name captured ≡ d
        → cond b true (is_among name (cond b captured (cond d captured (captured ++ name ∷ [])))) ≡ true
    by_test true d k = refl
    by_test false true k = k
    by_test false false k = among_last name captured

free_besides : (scope : Scope) (captured : List ℕ) (x : ℕ) (ys : List ℕ) → met scope captured x ≡ true
    → with_all_free scope captured (names_besides (x ∷ []) ys) ≡ with_all_free scope captured ys
free_besides scope captured x [] e = refl
free_besides scope captured x (y ∷ ys) e =
    by_test (nat_eq y x) refl (free_besides scope captured x ys e)
    (free_besides scope (with_free scope captured y) x ys (met_still scope captured x y e))
  where
    by_test : (b : Bool) → nat_eq y x ≡ b
        → with_all_free scope captured (names_besides (x ∷ []) ys) ≡ with_all_free scope captured ys
        → with_all_free scope (with_free scope captured y) (names_besides (x ∷ []) ys)
        ≡ with_all_free scope (with_free scope captured y) ys
        → with_all_free scope captured
        (cond (cond b true false) (names_besides (x ∷ []) ys) (y ∷ names_besides (x ∷ []) ys))
        ≡ with_all_free scope (with_free scope captured y) ys
    by_test true k ih jh =
        ih ∙ ap (λ c. with_all_free scope c ys)
        (sym (met_same scope captured y (ap (met scope captured) (eqb-true y x k) ∙ e)))
    by_test false k ih jh = jh

-- a name that is met again counts once
pub free_once : (scope : Scope) (captured ys : List ℕ)
    → with_all_free scope captured (each_once ys) ≡ with_all_free scope captured ys
free_once scope captured [] = refl
free_once scope captured (y ∷ ys) =
    free_besides scope (with_free scope captured y) y (each_once ys) (met_now scope captured y)
    ∙ free_once scope (with_free scope captured y) ys

free_from : (captured xs : List ℕ)
    → with_all_free nothing_known captured xs ≡ captured ++ each_once (names_besides captured xs)
free_from captured [] = nothing captured
  where
    nothing : (xs : List ℕ) → xs ≡ xs ++ []
    nothing [] = refl
    nothing (x ∷ xs) = ap (λ r. x ∷ r) (nothing xs)
free_from captured (x ∷ xs) =
    by_test (is_among x captured) (free_from captured xs) (free_from (captured ++ x ∷ []) xs)
  where
    more : each_once (names_besides (captured ++ x ∷ []) xs)
        ≡ names_besides (x ∷ []) (each_once (names_besides captured xs))
    more = ap each_once (besides_both captured (x ∷ []) xs) ∙ once_besides (x ∷ []) (names_besides captured xs)

    by_test : (b : Bool)
        → with_all_free nothing_known captured xs ≡ captured ++ each_once (names_besides captured xs)
        → with_all_free nothing_known (captured ++ x ∷ []) xs
        ≡ (captured ++ x ∷ []) ++ each_once (names_besides (captured ++ x ∷ []) xs)
        → with_all_free nothing_known (cond b captured (captured ++ x ∷ [])) xs
        ≡ captured ++ each_once (cond b (names_besides captured xs) (x ∷ names_besides captured xs))
    by_test true ih jh = ih
    by_test false ih jh =
        jh ∙ append_assoc captured (x ∷ []) (each_once (names_besides (captured ++ x ∷ []) xs))
        ∙ ap (λ r. captured ++ x ∷ r) more

-- where nothing is bound, each name that is met is captured once
pub free_all : (xs : List ℕ) → with_all_free nothing_known [] xs ≡ each_once xs
free_all xs = free_from [] xs ∙ ap each_once (besides_none xs)

-- ---- names that are bound

pub bound_some : (x : ℕ) (names : List ℕ) (os : List Operand) (scope : Scope) → length names ≡ length os
    → is_among x names ≡ true → is_some (bind_operands names os scope x) ≡ true
bound_some x [] os scope len e = false_true e
bound_some x (name ∷ names) [] scope len e = absurd (omega arith)
bound_some x (name ∷ names) (o ∷ os) scope len e =
    by_test (nat_eq x name) (bound_some x names os scope (omega arith)) e
  where
    by_test : (b : Bool) → (is_among x names ≡ true → is_some (bind_operands names os scope x) ≡ true)
        → cond b true (is_among x names) ≡ true
        → is_some (cond b (Some o) (bind_operands names os scope x)) ≡ true
    by_test true ih k = refl
    by_test false ih k = ih k

pub bound_other : (x : ℕ) (names : List ℕ) (os : List Operand) (scope : Scope) → is_among x names ≡ false
    → bind_operands names os scope x ≡ scope x
bound_other x [] os scope e = refl
bound_other x (name ∷ names) [] scope e = refl
bound_other x (name ∷ names) (o ∷ os) scope e = by_test (nat_eq x name) (bound_other x names os scope) e
  where
    by_test : (b : Bool) → (is_among x names ≡ false → bind_operands names os scope x ≡ scope x)
        → cond b true (is_among x names) ≡ false → cond b (Some o) (bind_operands names os scope x) ≡ scope x
    by_test true ih k = false_true (sym k)
    by_test false ih k = ih k

pub free_bound : (names : List ℕ) (os : List Operand) (scope : Scope) → length names ≡ length os
    → (captured xs : List ℕ) → with_all_free (bind_operands names os scope) captured xs
    ≡ with_all_free scope captured (names_besides names xs)
free_bound names os scope len captured [] = refl
free_bound names os scope len captured (x ∷ xs) =
    by_test (is_among x names) refl (free_bound names os scope len captured xs)
    (free_bound names os scope len (with_free scope captured x) xs)
  where
    inside : Scope
    inside = bind_operands names os scope

    by_test : (b : Bool) → is_among x names ≡ b
        → with_all_free (bind_operands names os scope) captured xs
        ≡ with_all_free scope captured (names_besides names xs)
        → with_all_free (bind_operands names os scope) (with_free scope captured x) xs
        ≡ with_all_free scope (with_free scope captured x) (names_besides names xs)
        → with_all_free (bind_operands names os scope) (with_free (bind_operands names os scope) captured x) xs
        ≡ with_all_free scope captured (cond b (names_besides names xs) (x ∷ names_besides names xs))
    by_test true k ih jh =
        ap (λ b. with_all_free (bind_operands names os scope) (cond b captured (with_name captured x)) xs)
        (bound_some x names os scope len k) ∙ ih
    by_test false k ih jh =
        ap (λ o. with_all_free (bind_operands names os scope) (cond (is_some o) captured (with_name captured x)) xs)
        (bound_other x names os scope k) ∙ jh

pub bound_hide : (names : List ℕ) (os : List Operand) (scope : Scope) → length names ≡ length os
    → Hides names (bind_operands names os scope) scope
bound_hide names os scope len = record { free = λ captured met. free_bound names os scope len captured met }

-- ---- numbers of captured names

captured_more : (name : ℕ) (xs ys : List ℕ) (k : ℕ) (scope : Scope) → is_among name xs ≡ true
    → bind_operands (xs ++ ys) (numbered (λ i. Captured i) (xs ++ ys) k) scope name
    ≡ bind_operands xs (numbered (λ i. Captured i) xs k) scope name
captured_more name [] ys k scope e = false_true e
captured_more name (x ∷ xs) ys k scope e =
    by_test (nat_eq name x) (captured_more name xs ys (suc k) scope) e
  where
    by_test : (b : Bool) → (is_among name xs ≡ true
        → bind_operands (xs ++ ys) (numbered (λ i. Captured i) (xs ++ ys) (suc k)) scope name
        ≡ bind_operands xs (numbered (λ i. Captured i) xs (suc k)) scope name)
        → cond b true (is_among name xs) ≡ true
        → cond b (Some (Captured k))
        (bind_operands (xs ++ ys) (numbered (λ i. Captured i) (xs ++ ys) (suc k)) scope name)
        ≡ cond b (Some (Captured k)) (bind_operands xs (numbered (λ i. Captured i) xs (suc k)) scope name)
    by_test true ih h = refl
    by_test false ih h = ih h

pub among_with : (name : ℕ) (captured : List ℕ) → is_among name (with_name captured name) ≡ true
among_with name captured = by_test (is_among name captured) refl
  where
    by_test : (b : Bool) → is_among name captured ≡ b
        → is_among name (cond b captured (captured ++ name ∷ [])) ≡ true
    by_test true k = k
    by_test false k = among_last name captured

-- what reaches the names behind one more reaches those before
pub reaches_less : (scope : Scope) (captured : List ℕ) (name : ℕ) (outer : Scope)
    → Reaches (with_free scope captured name) outer → Reaches captured outer
reaches_less scope captured name outer r = by_test (is_some (scope name)) (is_among name captured) r
  where
    by_test : (b d : Bool) → Reaches (cond b captured (cond d captured (captured ++ name ∷ []))) outer
        → Reaches captured outer
    by_test true d h = h
    by_test false true h = h
    by_test false false h = record {
      at = λ other e. h.at other (among_left other captured (name ∷ []) e)
          ∙ captured_more other captured (name ∷ []) 0 nothing_known e;
    }

pub reaches_before : (scope : Scope) (captured names : List ℕ) (outer : Scope)
    → Reaches (with_all_free scope captured names) outer → Reaches captured outer
reaches_before scope captured [] outer r = r
reaches_before scope captured (name ∷ names) outer r =
    reaches_less scope captured name outer (reaches_before scope (with_free scope captured name) names outer r)

-- the captured names reach themselves
pub reaches_itself : (captured : List ℕ) → Reaches captured (captured_scope captured)
reaches_itself captured = record { at = λ name e. refl }
