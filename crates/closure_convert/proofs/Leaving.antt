-- Lists that grow at their end, and groups of no function.
use Rattle.std.proofs.Common.{◌≡◌, ℕ, suc, ◌+◌, List, [], ◌∷◌, ◌++◌, length, refl, sym, ap, ◌∙◌, subst, arith}
use Rattle.std.proofs.Common.{append_assoc}
use Rattle.core_calc.specs.declared.terms.VarId.{VarId}
use Rattle.core_calc.specs.Views.{names_of}
use Rattle.flat_ir.specs.declared.code.Operand.{Operand}
use Rattle.coer_core.specs.Counts.{free_names, free_names_of_all, free_names_of_members, names_besides}
use Rattle.coer_core.specs.Counts.{row_binding_names, row_member_count, row_member_names}
use Rattle.coer_core.specs.Terms.{RowTerm, RowTerms, RowMembers, RowBindings, NoRowMembers, NoRowTerms, RowBindingThen}
use Rattle.coer_core.specs.Terms.{RowMemberThen, RowTermThen}
use Rattle.closure_convert.specs.Conversion.{Scope, bind_operands, made, made_for, made_in, numbered, procs_for}
use Rattle.closure_convert.specs.Conversion.{procs_of}
use Rattle.closure_convert.specs.Converting.{State, Adds, Hides, group_procs}
use Rattle.closure_convert.specs.Numbers.{counted}
use Rattle.closure_convert.specs.Scopes.{with_all_free}
use Rattle.flat_ir.specs.Bodies.{Proc}
use Rattle.closure_convert.proofs.Adding.{adds_nothing, adds_same, adds_then}
use Rattle.closure_convert.proofs.Meeting.{besides_none}
use Rattle.closure_convert.proofs.Scoping.{counted_numbered}
use Rattle.closure_convert.proofs.Taking.{names_long}

pub count_more : {A : Type 0} (xs : List A) (x : A) → length (xs ++ x ∷ []) ≡ suc (length xs)
count_more [] x = refl
count_more (y ∷ xs) x = ap suc (count_more xs x)

name_last : (names : List VarId) (name : VarId) → names_of (names ++ name ∷ []) ≡ names_of names ++ name.0 ∷ []
name_last [] name = refl
name_last (n ∷ names) name = ap (λ r. n.0 ∷ r) (name_last names name)

-- one name more of bindings
pub names_more : (names new : List VarId) (name : VarId) (left rest : RowBindings) (t : RowTerm) (whole : List ℕ)
    → new ≡ names ++ name ∷ [] → left ≡ RowBindingThen name.0 t rest
    → names_of names ++ row_binding_names left ≡ whole → names_of new ++ row_binding_names rest ≡ whole
names_more names new name left rest t whole n l w =
    ap (λ x. names_of x ++ row_binding_names rest) n
    ∙ ap (λ x. x ++ row_binding_names rest) (name_last names name)
    ∙ append_assoc (names_of names) (name.0 ∷ []) (row_binding_names rest)
    ∙ sym (ap (λ x. names_of names ++ row_binding_names x) l) ∙ w

-- names as they are counted
pub names_count : (names : List VarId) (all : List ℕ) (count : ℕ) → names_of names ≡ all → count ≡ length names
    → length all ≡ count
names_count names all count e k = sym (ap length e) ∙ names_long names ∙ sym k

-- what is known where numbered operands are bound to names
pub operands_are : (make : ℕ → Operand) (names slice : List VarId) (os : List Operand) (count first : ℕ)
    (scope new : Scope) → slice ≡ names → os ≡ counted make count first → count ≡ length names
    → new ≡ bind_operands (names_of slice) os scope
    → new ≡ bind_operands (names_of names) (numbered make (names_of names) first) scope
operands_are make names slice os count first scope new e o k n =
    n ∙ ap (λ x. bind_operands (names_of x) os scope) e
    ∙ ap (λ x. bind_operands (names_of names) x scope) (o
    ∙ ap (λ c. counted make c first) (k ∙ sym (names_long names)) ∙ counted_numbered make (names_of names) first)

-- where nothing is left of a list, all is added
pub all_added : {T : Type 0} (free : T → List ℕ) (procs : T → ℕ → List Proc) (many : T → ℕ) {s : Scope} {a : State}
    {left none : T} {W : State → Type 0} → left ≡ none → free none ≡ [] → ((n : ℕ) → procs none n ≡ [])
    → many none ≡ 0 → ((end : State) → Adds s a end (free left) (procs left) (many left) → W end) → W a
all_added free procs many {s = s} {a = a} {none = none} e f p m whole =
    whole a (subst (λ x. Adds s a a (free x) (procs x) (many x)) (sym e)
    (adds_same s a a [] (free none) (λ n. []) (procs none) 0 (many none) (sym f) (λ n. sym (p n)) (sym m)
    (adds_nothing s a)))

-- the last of several terms adds what it adds alone
pub last_adds : (s : Scope) (a b : State) (t : RowTerm) (left rest : RowTerms) → left ≡ RowTermThen t rest
    → rest ≡ NoRowTerms → Adds s a b (free_names t) (procs_of t) (made t)
    → Adds s a b (free_names_of_all left) (procs_for left) (made_for left)
last_adds s a b t left rest l m x =
    subst (λ y. Adds s a b (free_names_of_all y) (procs_for y) (made_for y)) (sym (l ∙ ap (RowTermThen t) m))
    (adds_then s a b b (free_names t) [] (procs_of t) (λ n. []) (made t) 0 x (adds_nothing s b))

-- ---- groups of no function

no_members : (members : RowMembers) → length (row_member_names members) ≡ 0 → members ≡ NoRowMembers
no_members NoRowMembers e = refl
no_members (RowMemberThen name parameters body type rest) e = absurd (omega arith)

pub no_hides : (members : RowMembers) (s : Scope) → length (row_member_names members) ≡ 0
    → Hides (row_member_names members) s s
no_hides members s e = subst (λ m. Hides (row_member_names m) s s) (sym (no_members members e)) none
  where
    none : Hides [] s s
    none = record { free = λ captured met. ap (with_all_free s captured) (sym (besides_none met)) }

pub no_adds : (members : RowMembers) (s : Scope) (a : State) → length (row_member_names members) ≡ 0
    → Adds s a a (names_besides (row_member_names members) (free_names_of_members members)) (group_procs members)
    (made_in members + row_member_count members)
no_adds members s a e =
    subst (λ m. Adds s a a (names_besides (row_member_names m) (free_names_of_members m)) (group_procs m)
    (made_in m + row_member_count m)) (sym (no_members members e)) (adds_nothing s a)
