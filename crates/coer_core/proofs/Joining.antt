-- One substitution after another.
use Rattle.std.proofs.Common.{◌≡◌, ℕ, Bool, true, false, List, [], ◌∷◌, ◌++◌, Option, Some, None, refl, sym, ap, ◌∙◌}
use Rattle.std.specs.Prelude.{cond, nat_eq}
use Rattle.std.proofs.lemmas.Bool.{eqb-true}
use Rattle.core_calc.specs.Terms.{Term, Terms, Members, Bindings, Value, IntLit, BoolLit, UnitLit, Var, Lambda, Group}
use Rattle.core_calc.specs.Terms.{Let, Call, Enter, If, Seq, Cast, Proj, ProjDyn, Tuple, Prim, ValueTerm, NoTerms}
use Rattle.core_calc.specs.Terms.{TermThen, NoMembers, MemberThen, NoBindings, BindingThen, member_names, binding_names}
use Rattle.coer_core.specs.Machine.{env_names}
use Rattle.core_calc.specs.Substitution.{Substitution, entry_of, is_among, without, value_or_name, substitute}
use Rattle.core_calc.specs.Substitution.{substitute_terms, substitute_members, substitute_bindings}

pub ap2 : {A B C : Type 0} (f : A → B → C) {a a' : A} {b b' : B} → a ≡ a' → b ≡ b' → f a b ≡ f a' b'
ap2 f {a = a} {a' = a'} {b = b} {b' = b'} p q = ap (λ x. f x b) p ∙ ap (f a') q

pub ap3 : {A B C D : Type 0} (f : A → B → C → D) {a a' : A} {b b' : B} {c c' : C} → a ≡ a' → b ≡ b' → c ≡ c'
    → f a b c ≡ f a' b' c'
ap3 f {a = a} {a' = a'} {b = b} {b' = b'} {c = c} {c' = c'} p q r =
    ap (λ x. f x b c) p ∙ ap (λ x. f a' x c) q ∙ ap (f a' b') r

-- the first that is there
abbrev pub first : {A : Type 0} → Option A → Option A → Option A
first (Some a) other = Some a
first None other = other

first_none : {A : Type 0} (o : Option A) → first o None ≡ o
first_none (Some a) = refl
first_none None = refl

first_assoc : {A : Type 0} (o p q : Option A) → first (first o p) q ≡ first o (first p q)
first_assoc (Some a) p q = refl
first_assoc None p q = refl

-- ---- entries

cond_none : {A : Type 0} (b : Bool) → (let none : Option A = None in none) ≡ cond b None None
cond_none true = refl
cond_none false = refl

entry_of_cond : (x : ℕ) (b : Bool) (entry : ℕ × Value) (s : Substitution)
    → entry_of x (cond b s (entry ∷ s)) ≡ cond b (entry_of x s) (cond (nat_eq x entry.0) (Some entry.1) (entry_of x s))
entry_of_cond x true entry s = refl
entry_of_cond x false entry s = refl

dropped : {A : Type 0} (a b c : Bool) (v : A) (o p : Option A) → (c ≡ true → a ≡ b) → p ≡ cond a None o
    → cond b p (cond c (Some v) p) ≡ cond a None (cond c (Some v) o)
dropped true true true v o p h e = e
dropped false false true v o p h e = refl
dropped true false true v o p h e = absurd (differ (h refl))
  where
    differ : true ≡ false → ⊥
    differ k = cc
dropped false true true v o p h e = absurd (differ (h refl))
  where
    differ : false ≡ true → ⊥
    differ k = cc
dropped a true false v o p h e = e
dropped a false false v o p h e = e

pub entry_without : (x : ℕ) (names : List ℕ) (s : Substitution)
    → entry_of x (without names s) ≡ cond (is_among x names) None (entry_of x s)
entry_without x names [] = cond_none (is_among x names)
entry_without x names (entry ∷ rest) =
    entry_of_cond x (is_among entry.0 names) entry (without names rest)
    ∙ dropped (is_among x names) (is_among entry.0 names) (nat_eq x entry.0) entry.1 (entry_of x rest)
    (entry_of x (without names rest)) (λ e. ap (λ y. is_among y names) (eqb-true x entry.0 e))
    (entry_without x names rest)

append_on : {A : Type 0} (c : Bool) (v : A) (o p q : Option A) → o ≡ first p q
    → cond c (Some v) o ≡ first (cond c (Some v) p) q
append_on true v o p q e = refl
append_on false v o p q e = e

pub entry_append : (x : ℕ) (s t : Substitution) → entry_of x (s ++ t) ≡ first (entry_of x s) (entry_of x t)
entry_append x [] t = refl
entry_append x (entry ∷ rest) t =
    append_on (nat_eq x entry.0) entry.1 (entry_of x (rest ++ t)) (entry_of x rest) (entry_of x t)
    (entry_append x rest t)

covered_on : {A : Type 0} (c a : Bool) (v : A) (o p : Option A) → first (cond a None o) p ≡ first p o
    → first (cond (cond c true a) None o) (cond c (Some v) p) ≡ first (cond c (Some v) p) o
covered_on true a v o p e = refl
covered_on false a v o p e = e

-- what is dropped for some names is hidden by what they are bound to
pub covered : (x : ℕ) (s : Substitution) (o : Option Value)
    → first (cond (is_among x (env_names s)) None o) (entry_of x s) ≡ first (entry_of x s) o
covered x [] o = first_none o
covered x (entry ∷ rest) o =
    covered_on (nat_eq x entry.0) (is_among x (env_names rest)) entry.1 o (entry_of x rest) (covered x rest o)

-- ---- the third substitution does what the first and then the second do

abbrev pub Joined : Substitution → Substitution → Substitution → Type 0
Joined s t u = (x : ℕ) → entry_of x u ≡ first (entry_of x s) (entry_of x t)

cond_first : {A : Type 0} (b : Bool) (o p : Option A) → cond b None (first o p) ≡ first (cond b None o) (cond b None p)
cond_first true o p = refl
cond_first false o p = refl

joined_without : (names : List ℕ) (s t u : Substitution) → Joined s t u
    → Joined (without names s) (without names t) (without names u)
joined_without names s t u j x =
    entry_without x names u ∙ ap (cond (is_among x names) None) (j x)
    ∙ cond_first (is_among x names) (entry_of x s) (entry_of x t)
    ∙ sym (ap2 first (entry_without x names s) (entry_without x names t))

pub names_kept : (members : Members) (s : Substitution) → member_names (substitute_members members s)
    ≡ member_names members
names_kept NoMembers s = refl
names_kept (MemberThen name parameters body type rest) s = ap (λ l. name ∷ l) (names_kept rest s)

pub binders_kept : (bindings : Bindings) (s : Substitution) → binding_names (substitute_bindings bindings s)
    ≡ binding_names bindings
binders_kept NoBindings s = refl
binders_kept (BindingThen name bound rest) s = ap (λ l. name ∷ l) (binders_kept rest s)

twice_var : (x : ℕ) (t : Substitution) (o : Option Value)
    → substitute (value_or_name o x) t ≡ value_or_name (first o (entry_of x t)) x
twice_var x t (Some v) = refl
twice_var x t None = refl

mutual
  pub twice : (term : Term) (s t u : Substitution) → Joined s t u → substitute (substitute term s) t ≡ substitute term u
  twice (IntLit n) s t u j = refl
  twice (BoolLit b) s t u j = refl
  twice UnitLit s t u j = refl
  twice (Var x) s t u j = twice_var x t (entry_of x s) ∙ sym (ap (λ o. value_or_name o x) (j x))
  twice (Lambda parameters body type) s t u j =
      ap (λ b. Lambda parameters b type) (twice body (without parameters s) (without parameters t)
      (without parameters u) (joined_without parameters s t u j))
  twice (Group members body) s t u j =
      let names : List ℕ = member_names members in
      let j1 = joined_without names s t u j in
      ap (λ ns. Group (substitute_members (substitute_members members (without names s)) (without ns t))
      (substitute (substitute body (without names s)) (without ns t))) (names_kept members (without names s))
      ∙ ap2 Group (twice_members members (without names s) (without names t) (without names u) j1)
      (twice body (without names s) (without names t) (without names u) j1)
  twice (Let bindings body) s t u j =
      let names : List ℕ = binding_names bindings in
      ap (λ ns. Let (substitute_bindings (substitute_bindings bindings s) t)
      (substitute (substitute body (without names s)) (without ns t))) (binders_kept bindings s)
      ∙ ap2 Let (twice_bindings bindings s t u j) (twice body (without names s) (without names t) (without names u)
      (joined_without names s t u j))
  twice (Call function arguments) s t u j = ap2 Call (twice function s t u j) (twice_terms arguments s t u j)
  twice (Enter function arguments) s t u j = ap2 Enter (twice function s t u j) (twice_terms arguments s t u j)
  twice (If condition on_true on_false) s t u j =
      ap3 If (twice condition s t u j) (twice on_true s t u j) (twice on_false s t u j)
  twice (Seq terms) s t u j = ap Seq (twice_terms terms s t u j)
  twice (Cast term from to label) s t u j = ap (λ x. Cast x from to label) (twice term s t u j)
  twice (Proj term k) s t u j = ap (λ x. Proj x k) (twice term s t u j)
  twice (ProjDyn term k label) s t u j = ap (λ x. ProjDyn x k label) (twice term s t u j)
  twice (Tuple parts) s t u j = ap Tuple (twice_terms parts s t u j)
  twice (Prim operator operands) s t u j = ap (Prim operator) (twice_terms operands s t u j)
  twice (ValueTerm v) s t u j = refl

  pub twice_terms : (terms : Terms) (s t u : Substitution) → Joined s t u
      → substitute_terms (substitute_terms terms s) t ≡ substitute_terms terms u
  twice_terms NoTerms s t u j = refl
  twice_terms (TermThen term rest) s t u j = ap2 TermThen (twice term s t u j) (twice_terms rest s t u j)

  pub twice_members : (members : Members) (s t u : Substitution) → Joined s t u
      → substitute_members (substitute_members members s) t ≡ substitute_members members u
  twice_members NoMembers s t u j = refl
  twice_members (MemberThen name parameters body type rest) s t u j =
      ap2 (λ b r. MemberThen name parameters b type r) (twice body (without parameters s) (without parameters t)
      (without parameters u) (joined_without parameters s t u j)) (twice_members rest s t u j)

  pub twice_bindings : (bindings : Bindings) (s t u : Substitution) → Joined s t u
      → substitute_bindings (substitute_bindings bindings s) t ≡ substitute_bindings bindings u
  twice_bindings NoBindings s t u j = refl
  twice_bindings (BindingThen name bound rest) s t u j =
      ap2 (λ b r. BindingThen name b r) (twice bound s t u j) (twice_bindings rest s t u j)

-- ---- the two uses

-- where names are bound to values
joined_bound : (names : List ℕ) (s t : Substitution) → env_names t ≡ names → Joined (without names s) t (t ++ s)
joined_bound names s t e x =
    entry_append x t s ∙ sym (covered x t (entry_of x s))
    ∙ ap (λ ns. first (cond (is_among x ns) None (entry_of x s)) (entry_of x t)) e
    ∙ sym (ap (λ o. first o (entry_of x t)) (entry_without x names s))

pub put_in_bound : (body : Term) (names : List ℕ) (s t : Substitution) → env_names t ≡ names
    → substitute (substitute body (without names s)) t ≡ substitute body (t ++ s)
put_in_bound body names s t e = twice body (without names s) t (t ++ s) (joined_bound names s t e)

-- where names are bound to values inside of others
joined_inner : (names : List ℕ) (s t u v : Substitution) → env_names t ≡ names → Joined s u v
    → Joined (without names s) (t ++ u) (t ++ v)
joined_inner names s t u v e j x =
    entry_append x t v ∙ ap (first (entry_of x t)) (j x)
    ∙ sym (first_assoc (entry_of x t) (entry_of x s) (entry_of x u))
    ∙ ap (λ o. first o (entry_of x u)) (sym (entry_append x t s) ∙ joined_bound names s t e x)
    ∙ first_assoc (entry_of x (without names s)) (entry_of x t) (entry_of x u)
    ∙ sym (ap (first (entry_of x (without names s))) (entry_append x t u))

pub put_in_inner : (body : Term) (names group_names : List ℕ) (s t g : Substitution) → env_names t ≡ names
    → env_names g ≡ group_names → substitute (substitute body (without names (without group_names s))) (t ++ g)
    ≡ substitute body (t ++ (g ++ s))
put_in_inner body names group_names s t g e f =
    twice body (without names (without group_names s)) (t ++ g) (t ++ (g ++ s))
    (joined_inner names (without group_names s) t g (g ++ s) e (joined_bound group_names s g f))
