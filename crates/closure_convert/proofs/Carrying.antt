-- Which value of the procedures carries which value of the run with environments, whatever the casts are.
use Rattle.std.proofs.Common.{◌≡◌, ◌⊎◌, inl, inr, ⊎_elim, ℕ, suc, ◌+◌, ◌-◌, ◌<◌, ◌≤◌, Bool, true, false, cond}
use Rattle.std.proofs.Common.{nat_eq, nat_lt, nat_le, ◌&&◌, List, [], ◌∷◌, ◌++◌, length, Option, Some, None, option_map}
use Rattle.std.proofs.Common.{refl, sym, ap, ap₂, ◌∙◌, subst, arith, eqb-true, eq-eqb, ne_eqb}
use Rattle.std.proofs.Common.{lt-ltb, le-leb, slice_get}
use Rattle.std.proofs.lemmas.Bool.{lt-leb}
use Rattle.core_calc.specs.Substitution.{is_among, entry_of}
use Rattle.cast_modes.specs.RunValues.{RunInt, RunBool, RunUnit, RunFun, RunTuple, RunLoc, RunWrap, RunInject}
use Rattle.cast_modes.specs.RunValues.{NoRunValues, RunValueThen, in_row, row_list}
use Rattle.coer_core.specs.Terms.{RowTerm, RowTerms, RowMembers, RowBindings, RowInt, RowBool, RowUnit, RowVar}
use Rattle.coer_core.specs.Terms.{RowLambda, RowGroup, RowLet, RowCall, RowIf, RowSeq, RowCast, RowProj, RowProjDyn}
use Rattle.coer_core.specs.Terms.{RowTuple, RowPrim, NoRowTerms, RowTermThen, NoRowMembers, RowMemberThen}
use Rattle.coer_core.specs.Terms.{NoRowBindings, RowBindingThen}
use Rattle.coer_core.specs.Counts.{names_besides, each_once, free_names, free_names_of_members, row_member_names}
use Rattle.coer_core.specs.Counts.{row_member_count}
use Rattle.coer_core.specs.Machine.{Code, LambdaCode, MemberCode, CoerValue, CoerValues, Env, env_names, env_values}
use Rattle.coer_core.specs.Machine.{captured_env, members_in}
use Rattle.flat_ir.specs.declared.code.Operand.{Operand}
use Rattle.flat_ir.specs.declared.code.Operand.TheVariants.{Local, Captured, Sibling, Int as IntConst}
use Rattle.flat_ir.specs.declared.code.Operand.TheVariants.{Bool as BoolConst, Unit as UnitConst}
use Rattle.flat_ir.specs.Bodies.{Proc}
use Rattle.flat_ir.specs.Machine.{FlatCode, FlatValue, FlatValues, Group, Locals, or_unit, locals_of, set_local}
use Rattle.flat_ir.specs.Machine.{set_group, value, values}
use Rattle.closure_convert.specs.Conversion.{captures, alone, Scope, nothing_known, bind_operands, numbered}
use Rattle.closure_convert.specs.Conversion.{captured_scope, group_scope, fun_scope, operand_or_unit, meanings_of, made}
use Rattle.closure_convert.specs.Conversion.{made_in, made_by, own_procs}
use Rattle.core_calc.proofs.Public.{none_is_not_some}
pub use Rattle.core_calc.proofs.Public.{same_some}
use Rattle.closure_convert.proofs.ProcPlaces.{HasAt}

-- ---- choices

pub none_some : {A B : Type 0} {a : A} → None ≡ Some a → B
none_some {a = a} e = absurd (none_is_not_some a e)

pub false_true : {B : Type 0} → false ≡ true → B
false_true e = absurd (clash e)
  where
    clash : false ≡ true → ⊥
    clash h = cc

-- a test is true or false
pub test : (b : Bool) → (b ≡ true) ⊎ (b ≡ false)
test true = inl refl
test false = inr refl

pub is_itself : (n : ℕ) → nat_eq n n ≡ true
is_itself n = eq-eqb n n refl

-- what a choice comes to, by its test
pub chosen_true : {A : Type 0} (b : Bool) (x y : A) → b ≡ true → cond b x y ≡ x
chosen_true b x y e = ap (λ c. cond c x y) e

pub chosen_false : {A : Type 0} (b : Bool) (x y : A) → b ≡ false → cond b x y ≡ y
chosen_false b x y e = ap (λ c. cond c x y) e

-- a name that is bound before the local name with this number
abbrev pub Below : ℕ → Operand → Type 0
Below depth (Local i) = i < depth
Below depth (Captured i) = Unit {0}
Below depth (Sibling i) = Unit {0}
Below depth (IntConst n) = Unit {0}
Below depth (BoolConst b) = Unit {0}
Below depth UnitConst = Unit {0}

-- what is so of each operand, and of each that a name means
abbrev pub Each : (Operand → Type 0) → List Operand → Type 0
Each P [] = Unit {0}
Each P (o ∷ os) = P o × Each P os

abbrev pub EachMeaning : (Operand → Type 0) → Scope → Type 0
EachMeaning P scope = (name : ℕ) (o : Operand) → scope name ≡ Some o → P o

pub each_append : (P : Operand → Type 0) (os ps : List Operand) → Each P os → Each P ps → Each P (os ++ ps)
each_append P [] ps h k = k
each_append P (o ∷ os) ps h k = (h.0, each_append P os ps h.1 k)

-- names are bound to such operands
pub each_bound : (P : Operand → Type 0) (names : List ℕ) (os : List Operand) (scope : Scope) → Each P os
    → EachMeaning P scope → EachMeaning P (bind_operands names os scope)
each_bound P [] os scope h k = k
each_bound P (name ∷ names) [] scope h k = k
each_bound P (name ∷ names) (o ∷ os) scope h k =
    λ other p e. by_test (each_bound P names os scope h.1 k) other p (nat_eq other name) e
  where
    by_test : EachMeaning P (bind_operands names os scope) → (other : ℕ) (p : Operand) (b : Bool)
        → cond b (Some o) (bind_operands names os scope other) ≡ Some p → P p
    by_test ih other p true e = subst P (same_some o p e) h.0
    by_test ih other p false e = ih other p e

abbrev pub AllBelow : ℕ → List Operand → Type 0
AllBelow depth os = Each (Below depth) os

abbrev pub ScopeBelow : ℕ → Scope → Type 0
ScopeBelow depth scope = EachMeaning (Below depth) scope

pub below_more : (depth more : ℕ) (o : Operand) → depth ≤ more → Below depth o → Below more o
below_more depth more (Local i) le h = omega arith
below_more depth more _ le h = tt

pub all_below_more : (depth more : ℕ) (os : List Operand) → depth ≤ more → AllBelow depth os → AllBelow more os
all_below_more depth more [] le h = tt
all_below_more depth more (o ∷ os) le h = (below_more depth more o le h.0, all_below_more depth more os le h.1)

pub scope_below_more : (depth more : ℕ) (scope : Scope) → depth ≤ more → ScopeBelow depth scope → ScopeBelow more scope
scope_below_more depth more scope le h name o e = below_more depth more o le (h name o e)

-- ---- which names have a meaning

abbrev pub Covers : List ℕ → Scope → Type 0
Covers names scope = (name : ℕ) → is_among name names ≡ true → (o : Operand) × (scope name ≡ Some o)

among_left : (name : ℕ) (xs ys : List ℕ) → is_among name xs ≡ true → is_among name (xs ++ ys) ≡ true
among_left name [] ys e = false_true e
among_left name (x ∷ xs) ys e = by_test (among_left name xs ys) (nat_eq name x) e
  where
    by_test : (is_among name xs ≡ true → is_among name (xs ++ ys) ≡ true) → (b : Bool)
        → cond b true (is_among name xs) ≡ true → cond b true (is_among name (xs ++ ys)) ≡ true
    by_test ih true k = refl
    by_test ih false k = ih k

among_right : (name : ℕ) (xs ys : List ℕ) → is_among name ys ≡ true → is_among name (xs ++ ys) ≡ true
among_right name [] ys e = e
among_right name (x ∷ xs) ys e = by_test (among_right name xs ys e) (nat_eq name x)
  where
    by_test : is_among name (xs ++ ys) ≡ true → (b : Bool) → cond b true (is_among name (xs ++ ys)) ≡ true
    by_test ih true = refl
    by_test ih false = ih

pub covers_left : (xs ys : List ℕ) (scope : Scope) → Covers (xs ++ ys) scope → Covers xs scope
covers_left xs ys scope c name e = c name (among_left name xs ys e)

pub covers_right : (xs ys : List ℕ) (scope : Scope) → Covers (xs ++ ys) scope → Covers ys scope
covers_right xs ys scope c name e = c name (among_right name xs ys e)

among_apart : (name : ℕ) (names xs : List ℕ) → is_among name names ≡ false → is_among name xs ≡ true
    → is_among name (names_besides names xs) ≡ true
among_apart name names [] n e = false_true e
among_apart name names (x ∷ xs) n e = by_test (among_apart name names xs n) (nat_eq name x) refl e
    (is_among x names) refl
  where
    by_test : (is_among name xs ≡ true → is_among name (names_besides names xs) ≡ true) → (b : Bool) → nat_eq name x ≡ b
        → cond b true (is_among name xs) ≡ true → (c : Bool) → is_among x names ≡ c
        → is_among name (cond c (names_besides names xs) (x ∷ names_besides names xs)) ≡ true
    by_test ih true b k true c = false_true (sym n ∙ (ap (λ z. is_among z names) (eqb-true name x b) ∙ c))
    by_test ih true b k false c = chosen_true (nat_eq name x) true (is_among name (names_besides names xs)) b
    by_test ih false b k true c = ih k
    by_test ih false b k false c = chosen_false (nat_eq name x) true (is_among name (names_besides names xs)) b ∙ ih k

apart_among : (name : ℕ) (names xs : List ℕ) → is_among name (names_besides names xs) ≡ true → is_among name xs ≡ true
apart_among name names [] e = e
apart_among name names (x ∷ xs) e = by_test (apart_among name names xs) (is_among x names) e (nat_eq name x) refl
  where
    by_test : (is_among name (names_besides names xs) ≡ true → is_among name xs ≡ true) → (c : Bool)
        → is_among name (cond c (names_besides names xs) (x ∷ names_besides names xs)) ≡ true → (b : Bool)
        → nat_eq name x ≡ b → cond b true (is_among name xs) ≡ true
    by_test ih c k true b = refl
    by_test ih true k false b = ih k
    by_test ih false k false b = ih (sym (chosen_false (nat_eq name x) true (is_among name (names_besides names xs)) b)
        ∙ k)

among_once : (name : ℕ) (xs : List ℕ) → is_among name xs ≡ true → is_among name (each_once xs) ≡ true
among_once name [] e = e
among_once name (x ∷ xs) e = by_test (among_once name xs) (nat_eq name x) refl e
  where
    by_test : (is_among name xs ≡ true → is_among name (each_once xs) ≡ true) → (b : Bool) → nat_eq name x ≡ b
        → cond b true (is_among name xs) ≡ true → cond b true (is_among name (names_besides (x ∷ [])
        (each_once xs))) ≡ true
    by_test ih true b k = refl
    by_test ih false b k = among_apart name (x ∷ []) (each_once xs) (chosen_false (nat_eq name x) true false b) (ih k)

once_among : (name : ℕ) (xs : List ℕ) → is_among name (each_once xs) ≡ true → is_among name xs ≡ true
once_among name [] e = e
once_among name (x ∷ xs) e = by_test (once_among name xs) (nat_eq name x) e
  where
    by_test : (is_among name (each_once xs) ≡ true → is_among name xs ≡ true) → (b : Bool)
        → cond b true (is_among name (names_besides (x ∷ []) (each_once xs))) ≡ true
        → cond b true (is_among name xs) ≡ true
    by_test ih true k = refl
    by_test ih false k = ih (apart_among name (x ∷ []) (each_once xs) k)

abbrev pub HasMeaning : ℕ → Scope → Type 0
HasMeaning name scope = (o : Operand) × (scope name ≡ Some o)

-- among the names that are bound, or known before
bound_has : (name : ℕ) (names : List ℕ) (os : List Operand) (scope : Scope) → length names ≡ length os
    → (is_among name names ≡ true) ⊎ HasMeaning name scope → HasMeaning name (bind_operands names os scope)
bound_has name [] os scope len h = ⊎_elim (λ e. false_true e) (λ k. k) h
bound_has name (x ∷ names) [] scope len h = absurd (omega arith)
bound_has name (x ∷ names) (o ∷ os) scope len h = by_test (nat_eq name x) refl (bound_has name names os scope
    (omega arith)) h
  where
    by_test : (b : Bool) → nat_eq name x ≡ b → ((is_among name names ≡ true) ⊎ HasMeaning name scope
        → HasMeaning name (bind_operands names os scope)) → (cond b true (is_among name names) ≡ true) ⊎ HasMeaning name
        scope → HasMeaning name (bind_operands (x ∷ names) (o ∷ os) scope)
    by_test true b ih k = (o, chosen_true (nat_eq name x) (Some o) (bind_operands names os scope name) b)
    by_test false b ih k = let m = ih k in (
      m.0,
      chosen_false (nat_eq name x) (Some o) (bind_operands names os scope
          name) b ∙ m.1,
    )

pub covers_bound : (xs names : List ℕ) (os : List Operand) (scope : Scope) → length names ≡ length os
    → Covers (names_besides names xs) scope → Covers xs (bind_operands names os scope)
covers_bound xs names os scope len c name e = bound_has name names os scope len (by_test (is_among name names) refl)
  where
    by_test : (b : Bool) → is_among name names ≡ b → (is_among name names ≡ true) ⊎ HasMeaning name scope
    by_test true b = inl b
    by_test false b = inr (c name (among_apart name names xs b e))

pub numbered_long : (make : ℕ → Operand) (names : List ℕ) (i : ℕ) → length names ≡ length (numbered make names i)
numbered_long make [] i = refl
numbered_long make (name ∷ names) i = ap suc (numbered_long make names (suc i))

pub covers_captures : (names : List ℕ) (members : RowMembers) (scope : Scope)
    → Covers (names_besides names (free_names_of_members members)) scope → Covers (captures names members) scope
covers_captures names members scope c name e = c name (once_among name (names_besides names
    (free_names_of_members members)) e)

pub group_covers : (names : List ℕ) (members : RowMembers) → Covers (free_names_of_members members) (group_scope names
    (captures names members))
group_covers names members =
    covers_bound (free_names_of_members members) names (numbered (λ i. Sibling i) names 0) (captured_scope
    (captures names members)) (numbered_long (λ i. Sibling i) names 0)
    (λ name e. bound_has name (captures names members) (numbered (λ i. Captured i) (captures names members) 0)
    nothing_known (numbered_long (λ i. Captured i) (captures names members) 0) (inl (among_once name
    (names_besides names (free_names_of_members members)) e)))

pub fun_covers : (names captured parameters : List ℕ) (body : RowTerm)
    → Covers (names_besides parameters (free_names body)) (group_scope names captured)
    → Covers (free_names body) (fun_scope names captured parameters)
fun_covers names captured parameters body c =
    covers_bound (free_names body) parameters (numbered (λ i. Local i) parameters 0) (group_scope names captured)
    (numbered_long (λ i. Local i) parameters 0) c

pub locals_below : (names : List ℕ) (k depth : ℕ) → k + length names ≤ depth
    → AllBelow depth (numbered (λ i. Local i) names k)
locals_below [] k depth le = tt
locals_below (name ∷ names) k depth le = (omega arith, locals_below names (suc k) depth (omega arith))

pub siblings_below : (names : List ℕ) (k depth : ℕ) → AllBelow depth (numbered (λ i. Sibling i) names k)
siblings_below [] k depth = tt
siblings_below (name ∷ names) k depth = (tt, siblings_below names (suc k) depth)

pub captured_below : (names : List ℕ) (k depth : ℕ) → AllBelow depth (numbered (λ i. Captured i) names k)
captured_below [] k depth = tt
captured_below (name ∷ names) k depth = (tt, captured_below names (suc k) depth)

pub fun_scope_below : (names captured parameters : List ℕ) → ScopeBelow (length parameters)
    (fun_scope names captured parameters)
fun_scope_below names captured parameters =
    let n = length parameters in
    each_bound (Below n) parameters (numbered (λ i. Local i) parameters 0) (group_scope names captured)
    (locals_below parameters 0 n (omega arith))
    (each_bound (Below n) names (numbered (λ i. Sibling i) names 0) (captured_scope captured) (siblings_below names 0 n)
    (each_bound (Below n) captured (numbered (λ i. Captured i) captured 0) nothing_known (captured_below captured 0 n)
    (λ name o e. none_some e)))

module _ (procs : List Proc) where
  -- ---- procedures stand

  abbrev pub OwnStand : List ℕ → RowMembers → ℕ → ℕ → Type 0
  OwnStand names members place next = HasAt procs place (own_procs names (captures names members)
      (row_member_count members) 0 members next)

  abbrev mutual
    pub Stands : RowTerm → ℕ → Type 0
    Stands (RowInt n) next = Unit {0}
    Stands (RowBool b) next = Unit {0}
    Stands RowUnit next = Unit {0}
    Stands (RowVar name) next = Unit {0}
    Stands (RowLambda parameters body type) next =
        (Stands body next × Unit {0}) × OwnStand [] (alone parameters body type) (next + (made body + 0)) next
    Stands (RowGroup members body) next =
        (StandsIn members next × OwnStand (row_member_names members) members (next + made_in members) next) × Stands
        body (next + made_in members + row_member_count members)
    Stands (RowLet bindings body) next = StandsBy bindings next × Stands body (next + made_by bindings)
    Stands (RowCall f terms) next = Stands f next × StandsFor terms (next + made f)
    Stands (RowIf c a b) next = Stands c next × Stands a (next + made c) × Stands b (next + made c + made a)
    Stands (RowSeq terms) next = StandsFor terms next
    Stands (RowCast term n) next = Stands term next
    Stands (RowProj term i) next = Stands term next
    Stands (RowProjDyn term i label) next = Stands term next
    Stands (RowTuple terms) next = StandsFor terms next
    Stands (RowPrim op terms) next = StandsFor terms next

    pub StandsFor : RowTerms → ℕ → Type 0
    StandsFor NoRowTerms next = Unit {0}
    StandsFor (RowTermThen term rest) next = Stands term next × StandsFor rest (next + made term)

    pub StandsIn : RowMembers → ℕ → Type 0
    StandsIn NoRowMembers next = Unit {0}
    StandsIn (RowMemberThen name parameters body type rest) next = Stands body next × StandsIn rest (next + made body)

    pub StandsBy : RowBindings → ℕ → Type 0
    StandsBy NoRowBindings next = Unit {0}
    StandsBy (RowBindingThen name term rest) next = Stands term next × StandsBy rest (next + made term)

  abbrev pub GroupStands : List ℕ → RowMembers → ℕ → Type 0
  GroupStands names members next = StandsIn members next × OwnStand names members (next + made_in members) next

abbrev pub firsts : {A : Type 0} → List (ℕ × A) → List ℕ
firsts [] = []
firsts (entry ∷ rest) = entry.0 ∷ firsts rest

abbrev pub seconds : {A : Type 0} → List (ℕ × A) → List A
seconds [] = []
seconds (entry ∷ rest) = entry.1 ∷ seconds rest

-- a group by its first procedure and what it has captured, and a function of it
abbrev pub group_of : {C : Type 0} → ℕ → FlatValues C → Group C
group_of first captured = record { first = first; captured = captured }

abbrev pub flat_code : ℕ → ℕ → FlatCode
flat_code first place = record { first = first; place = place }

abbrev pub fun_of : {C : Type 0} → ℕ → ℕ → FlatValues C → FlatValue C
fun_of first place captured = RunFun (flat_code first place) captured

-- the value of a captured name
abbrev pub value_in : {C : Type 0} → FlatValues C → ℕ → FlatValue C
value_in captured k = or_unit (slice_get (row_list captured) k)

-- one name more in a scope
abbrev pub bound_one : ℕ → Operand → Scope → Scope
bound_one name o scope other = cond (nat_eq other name) (Some o) (scope other)

-- ---- what names mean

abbrev pub Meaning : Type 0 → Type 0
Meaning C = ℕ → Option (FlatValue C)

abbrev pub means : {C : Type 0} → Scope → Locals C → Group C → Meaning C
means scope l own name = option_map (value l own) (scope name)

abbrev pub hiding : {C : Type 0} → ℕ → Meaning C → Meaning C
hiding name f other = cond (nat_eq other name) None (f other)

-- the captured names of a group alone
abbrev pub captured_means : {C : Type 0} → List ℕ → FlatValues C → Meaning C
captured_means names captured = means (captured_scope names) (λ i. RunUnit) (group_of 0 captured)

-- one meaning is part of another
abbrev pub IsPart : {C : Type 0} → Meaning C → Meaning C → Type 0
IsPart {C = C} f g = (name : ℕ) (u : FlatValue C) → f name ≡ Some u → g name ≡ Some u

-- the same local names below this one
abbrev pub SameBelow : {C : Type 0} → ℕ → Locals C → Locals C → Type 0
SameBelow depth l k = (i : ℕ) → i < depth → k i ≡ l i

module _ {C : Type 0} (procs : List Proc) where
  -- ---- values

  -- a function goes with one that stands in the procedures, and what it has captured fits
  abbrev pub FunCarried : Code → FlatCode → FlatValues C → (List ℕ → Meaning C → Type 0) → Type 0
  FunCarried (LambdaCode parameters body type names) other captured IsFitting =
      (next : ℕ) × (0 ≡ other.place) × (other.first ≡ next + (made body + 0))
      × GroupStands procs [] (alone parameters body type) next
      × IsFitting names (captured_means (captures [] (alone parameters body type)) captured)
  FunCarried (MemberCode members i names) other captured IsFitting =
      (next : ℕ) × (i ≡ other.place) × (other.first ≡ next + made_in members)
      × GroupStands procs (row_member_names members) members next
      × IsFitting names (captured_means (captures (row_member_names members) members) captured)
      × (i < row_member_count members)

  abbrev mutual
    pub Carries : CoerValue C → FlatValue C → Type 0
    Carries (RunInt n) (RunInt m) = n ≡ m
    Carries (RunBool b) (RunBool c) = b ≡ c
    Carries RunUnit RunUnit = Unit {0}
    Carries (RunFun code vs) (RunFun other captured) = FunCarried code other captured (λ names f. FitsRow vs names f)
    Carries (RunTuple vs) (RunTuple us) = CarriesParts vs us
    Carries (RunLoc place is_vector) (RunLoc other its_vector) = (place ≡ other) × (is_vector ≡ its_vector)
    Carries (RunWrap v cast) (RunWrap u other) = (cast ≡ other) × Carries v u
    Carries (RunInject v kept) (RunInject u other) = (kept ≡ other) × Carries v u
    Carries v u = ⊥

    pub CarriesParts : CoerValues C → FlatValues C → Type 0
    CarriesParts NoRunValues NoRunValues = Unit {0}
    CarriesParts (RunValueThen v vs) (RunValueThen u us) = Carries v u × CarriesParts vs us
    CarriesParts vs us = ⊥

    -- each captured name that has a meaning has a value that the meaning carries
    pub FitsRow : CoerValues C → List ℕ → Meaning C → Type 0
    FitsRow NoRunValues names f = (name : ℕ) → f name ≡ None
    FitsRow (RunValueThen v rest) [] f = (name : ℕ) → f name ≡ None
    FitsRow (RunValueThen v rest) (name ∷ names) f =
        ((u : FlatValue C) → f name ≡ Some u → Carries v u) × FitsRow rest names (hiding name f)

  -- the same of an environment
  abbrev pub Fits : Env C → Meaning C → Type 0
  Fits [] f = (name : ℕ) → f name ≡ None
  Fits (entry ∷ rest) f = ((u : FlatValue C) → f entry.0 ≡ Some u → Carries entry.1 u) × Fits rest (hiding entry.0 f)

  -- an environment that is captured fits as before, and so does one that is captured when it is used again
  pub row_fits : (env : Env C) (f : Meaning C) → Fits env f → FitsRow (in_row (env_values env)) (env_names env) f
  row_fits [] f h = h
  row_fits (entry ∷ rest) f h = (h.0, row_fits rest (hiding entry.0 f) h.1)

  pub fits_row : (vs : CoerValues C) (names : List ℕ) (f : Meaning C) → FitsRow vs names f
      → Fits (captured_env names vs) f
  fits_row NoRunValues [] f h = h
  fits_row NoRunValues (name ∷ names) f h = h
  fits_row (RunValueThen v rest) [] f h = h
  fits_row (RunValueThen v rest) (name ∷ names) f h = (h.0, fits_row rest names (hiding name f) h.1)

  abbrev pub CarriesAll : List (CoerValue C) → List (FlatValue C) → Type 0
  CarriesAll [] [] = Unit {0}
  CarriesAll (v ∷ vs) (u ∷ us) = Carries v u × CarriesAll vs us
  CarriesAll [] (u ∷ us) = ⊥
  CarriesAll (v ∷ vs) [] = ⊥

  -- ---- environments

  hiding_part : (name : ℕ) (f g : Meaning C) → IsPart g f → IsPart (hiding name g) (hiding name f)
  hiding_part name f g sub other u e = by_test (nat_eq other name) e
    where
      by_test : (b : Bool) → cond b None (g other) ≡ Some u → cond b None (f other) ≡ Some u
      by_test true h = h
      by_test false h = sub other u h

  nothing_part : (f g : Meaning C) → IsPart g f → ((name : ℕ) → f name ≡ None) → (name : ℕ) → g name ≡ None
  nothing_part f g sub h name = by_case (g name) refl
    where
      by_case : (o : Option (FlatValue C)) → g name ≡ o → g name ≡ None
      by_case None e = e
      by_case (Some u) e = none_some (sym (h name) ∙ sub name u e)

  pub fits_part : (env : Env C) (f g : Meaning C) → IsPart g f → Fits env f → Fits env g
  fits_part [] f g sub h = nothing_part f g sub h
  fits_part (entry ∷ rest) f g sub h = (
    λ u e. h.0 u (sub entry.0 u e),
    fits_part rest (hiding entry.0 f) (hiding entry.0 g)
        (hiding_part entry.0 f g sub) h.1,
  )

  abbrev pub Found : ℕ → Env C → FlatValue C → Type 0
  Found name env u = (v : CoerValue C) × (entry_of name env ≡ Some v) × Carries v u

  found_by : (name other : ℕ) (v : CoerValue C) (rest : Env C) (f : Meaning C) (u : FlatValue C)
      → ((u' : FlatValue C) → f other ≡ Some u' → Carries v u') → f name ≡ Some u
      → (hiding other f name ≡ Some u → Found name rest u) → (b : Bool) → nat_eq name other ≡ b
      → Found name ((other, v) ∷ rest) u
  found_by name other v rest f u h e deeper true b = (
    v,
    chosen_true (nat_eq name other) (Some v) (entry_of name rest) b,
    h u (subst (λ n. f n ≡ Some u) (eqb-true name other b) e),
  )
  found_by name other v rest f u h e deeper false b =
      let d = deeper (chosen_false (nat_eq name other) None (f name) b ∙ e) in
      (d.0, chosen_false (nat_eq name other) (Some v) (entry_of name rest) b ∙ d.1, d.2)

  pub fits_found : (name : ℕ) (env : Env C) (f : Meaning C) (u : FlatValue C) → Fits env f → f name ≡ Some u
      → Found name env u
  fits_found name [] f u h e = none_some (sym (h name) ∙ e)
  fits_found name (entry ∷ rest) f u h e =
      found_by name entry.0 entry.1 rest f u h.0 e (λ d. fits_found name rest (hiding entry.0 f) u h.1 d)
      (nat_eq name entry.0) refl

  -- one name more
  fits_bind : (name : ℕ) (v : CoerValue C) (env : Env C) (f g : Meaning C) (u : FlatValue C) → Fits env f
      → Carries v u → g name ≡ Some u → ((other : ℕ) → nat_eq other name ≡ false → g other ≡ f other)
      → Fits ((name, v) ∷ env) g
  fits_bind name v env f g u h c e same = (
    λ u' e'. subst (Carries v) (same_some u u' (sym e ∙ e')) c,
    fits_part env f (hiding name g)
        (λ other w e'. by_test other w (nat_eq other name) refl e') h,
  )
    where
      by_test : (other : ℕ) (w : FlatValue C) (b : Bool) → nat_eq other name ≡ b → hiding name g other ≡ Some w
          → f other ≡ Some w
      by_test other w true b e' = none_some (sym (chosen_true (nat_eq other name) None (g other) b) ∙ e')
      by_test other w false b e' =
          sym (same other b) ∙ (sym (chosen_false (nat_eq other name) None (g other) b) ∙ e')

  meaning_first : (name : ℕ) (o : Operand) (scope : Scope) (l : Locals C) (own : Group C)
      → means (bound_one name o scope) l own name ≡ Some (value l own o)
  meaning_first name o scope l own =
      ap (option_map (value l own)) (chosen_true (nat_eq name name) (Some o) (scope name) (is_itself name))

  meaning_later : (name : ℕ) (o : Operand) (scope : Scope) (l : Locals C) (own : Group C) (other : ℕ)
      → nat_eq other name ≡ false → means (bound_one name o scope) l own other ≡ means scope l own other
  meaning_later name o scope l own other b =
      ap (option_map (value l own)) (chosen_false (nat_eq other name) (Some o) (scope other) b)

  -- names in front
  pub fits_extend : (entries : List (ℕ × CoerValue C)) (os : List Operand) (env : Env C) (scope : Scope) (l : Locals C)
      (own : Group C) → CarriesAll (seconds entries) (values l own os) → Fits env (means scope l own)
      → Fits (entries ++ env) (means (bind_operands (firsts entries) os scope) l own)
  fits_extend [] os env scope l own c h = h
  fits_extend (entry ∷ entries) [] env scope l own c h = absurd c
  fits_extend (entry ∷ entries) (o ∷ os) env scope l own c h =
      let rest = bind_operands (firsts entries) os scope in
      fits_bind entry.0 entry.1 (entries ++ env) (means rest l own) (means (bound_one entry.0 o rest) l own)
      (value l own o) (fits_extend entries os env scope l own c.1 h) c.0 (meaning_first entry.0 o rest l own)
      (meaning_later entry.0 o rest l own)

  pub carries_append : (vs ws : List (CoerValue C)) (l : Locals C) (own : Group C) (os ps : List Operand)
      → CarriesAll vs (values l own os) → CarriesAll ws (values l own ps)
      → CarriesAll (vs ++ ws) (values l own (os ++ ps))
  carries_append [] ws l own [] ps c d = d
  carries_append [] ws l own (o ∷ os) ps c d = absurd c
  carries_append (v ∷ vs) ws l own [] ps c d = absurd c
  carries_append (v ∷ vs) ws l own (o ∷ os) ps c d = (c.0, carries_append vs ws l own os ps c.1 d)

module _ {C : Type 0} where
  pub value_same : (depth : ℕ) (l k : Locals C) (own : Group C) (o : Operand) → SameBelow depth l k → Below depth o
      → value k own o ≡ value l own o
  value_same depth l k own (Local i) s h = s i h
  value_same depth l k own _ s h = refl

  pub values_same : (depth : ℕ) (l k : Locals C) (own : Group C) (os : List Operand) → SameBelow depth l k
      → AllBelow depth os → values k own os ≡ values l own os
  values_same depth l k own [] s h = refl
  values_same depth l k own (o ∷ os) s h = ap₂ (λ u us. u ∷ us) (value_same depth l k own o s h.0)
      (values_same depth l k own os s h.1)

  pub means_same : (depth : ℕ) (l k : Locals C) (own : Group C) (scope : Scope) (name : ℕ) → SameBelow depth l k
      → ScopeBelow depth scope → means scope k own name ≡ means scope l own name
  means_same depth l k own scope name s h = by_meaning (scope name) (h name)
    where
      by_meaning : (m : Option Operand) → ((o : Operand) → m ≡ Some o → Below depth o)
          → option_map (value k own) m ≡ option_map (value l own) m
      by_meaning None h = refl
      by_meaning (Some o) h = ap Some (value_same depth l k own o s (h o refl))

  pub set_same : (depth : ℕ) (l : Locals C) (u : FlatValue C) → SameBelow depth l (set_local l depth u)
  set_same depth l u i h = chosen_false (nat_eq i depth) u (l i) (ne_eqb i depth (λ e. omega arith))

  pub set_here : (slot : ℕ) (l : Locals C) (u : FlatValue C) → set_local l slot u slot ≡ u
  set_here slot l u = chosen_true (nat_eq slot slot) u (l slot) (is_itself slot)

  -- ---- what is captured

  abbrev pub HoldsFrom : FlatValues C → ℕ → List (FlatValue C) → Type 0
  HoldsFrom captured k [] = Unit {0}
  HoldsFrom captured k (u ∷ us) = (value_in captured k ≡ u) × HoldsFrom captured (suc k) us

  holds_later : (captured : FlatValues C) (k : ℕ) (u : FlatValue C) (us : List (FlatValue C)) → HoldsFrom captured k us
      → HoldsFrom (RunValueThen u captured) (suc k) us
  holds_later captured k u [] h = tt
  holds_later captured k u (w ∷ us) h = (h.0, holds_later captured (suc k) u us h.1)

  holds_all : (us : List (FlatValue C)) → HoldsFrom (in_row us) 0 us
  holds_all [] = tt
  holds_all (u ∷ us) = (refl, holds_later (in_row us) 0 u us (holds_all us))

  module _ (scope : Scope) (l : Locals C) (own : Group C) (l0 : Locals C) (own0 : Group C) where
    pub captured_part : (names : List ℕ) (k : ℕ) → HoldsFrom own0.captured k (values l own (meanings_of names scope))
        → Covers names scope → IsPart (means (bind_operands names (numbered (λ i. Captured i) names k) nothing_known) l0
        own0) (means scope l own)
    captured_part [] k h c = λ name u e. none_some e
    captured_part (x ∷ names) k h c = λ name u e. by_test name u (captured_part names (suc k) h.1 (λ name e. c name
        (in_rest name e (nat_eq name x)))) (nat_eq name x) refl e
      where
        in_rest : (name : ℕ) → is_among name names ≡ true → (b : Bool) → cond b true (is_among name names) ≡ true
        in_rest name e true = refl
        in_rest name e false = e

        known : HasMeaning x scope
        known = c x (chosen_true (nat_eq x x) true (is_among x names) (is_itself x))

        held : value_in own0.captured k ≡ value l own known.0
        held = h.0 ∙ ap (λ m. value l own (operand_or_unit m)) known.1

        by_test : (name : ℕ) (u : FlatValue C) → IsPart (means (bind_operands names (numbered (λ i. Captured i) names
            (suc k)) nothing_known) l0 own0) (means scope l own) → (b : Bool) → nat_eq name x ≡ b
            → option_map (value l0 own0) (cond b (Some (Captured k)) (bind_operands names (numbered
            (λ i. Captured i) names (suc k)) nothing_known name)) ≡ Some u → means scope l own name ≡ Some u
        by_test name u ih true b e =
            ap (λ n. means scope l own n) (eqb-true name x b) ∙ (ap (option_map (value l own)) known.1
            ∙ (ap Some (sym held) ∙ e))
        by_test name u ih false b e = ih name u e

    pub captured_same : (names : List ℕ) (k : ℕ) → own.captured ≡ own0.captured → (name : ℕ)
        → means (bind_operands names (numbered (λ i. Captured i) names k) nothing_known) l own name ≡ means
        (bind_operands names (numbered (λ i. Captured i) names k) nothing_known) l0 own0 name
    captured_same [] k e name = refl
    captured_same (x ∷ names) k e name = by_test (captured_same names (suc k) e name) (nat_eq name x)
      where
        by_test : means (bind_operands names (numbered (λ i. Captured i) names (suc k)) nothing_known) l own name ≡
            means (bind_operands names (numbered (λ i. Captured i) names (suc k)) nothing_known) l0 own0 name
            → (b : Bool) → option_map (value l own) (cond b (Some (Captured k)) (bind_operands names (numbered
            (λ i. Captured i) names (suc k)) nothing_known name)) ≡ option_map (value l0 own0) (cond b (Some
            (Captured k)) (bind_operands names (numbered (λ i. Captured i) names (suc k)) nothing_known name))
        by_test ih true = ap (λ vs. Some (value_in vs k)) e
        by_test ih false = ih

  -- ---- parameters

  abbrev pub LocalsFrom : Locals C → ℕ → List (FlatValue C) → Type 0
  LocalsFrom l k [] = Unit {0}
  LocalsFrom l k (u ∷ us) = (l k ≡ u) × LocalsFrom l (suc k) us

  locals_later : (args : List (FlatValue C)) (k : ℕ) (u : FlatValue C) (us : List (FlatValue C))
      → LocalsFrom (locals_of args) k us → LocalsFrom (locals_of (u ∷ args)) (suc k) us
  locals_later args k u [] h = tt
  locals_later args k u (w ∷ us) h = (h.0, locals_later args (suc k) u us h.1)

  locals_all : (us : List (FlatValue C)) → LocalsFrom (locals_of us) 0 us
  locals_all [] = tt
  locals_all (u ∷ us) = (refl, locals_later us 0 u us (locals_all us))

  numbered_locals : (names : List ℕ) (us : List (FlatValue C)) (l : Locals C) (own : Group C) (k : ℕ)
      → length names ≡ length us → LocalsFrom l k us → values l own (numbered (λ i. Local i) names k) ≡ us
  numbered_locals [] [] l own k len h = refl
  numbered_locals [] (u ∷ us) l own k len h = absurd (omega arith)
  numbered_locals (name ∷ names) [] l own k len h = absurd (omega arith)
  numbered_locals (name ∷ names) (u ∷ us) l own k len h = ap₂ (λ v vs. v ∷ vs) h.0 (numbered_locals names us l own
      (suc k) (omega arith) h.1)

  pub parameters_hold : (names : List ℕ) (us : List (FlatValue C)) (own : Group C) → length names ≡ length us
      → values (locals_of us) own (numbered (λ i. Local i) names 0) ≡ us
  parameters_hold names us own len = numbered_locals names us (locals_of us) own 0 len (locals_all us)

  -- ---- groups

  pub group_slot : (l : Locals C) (slot first count : ℕ) (captured : FlatValues C) (i place : ℕ) → place ≡ slot + i
      → i < count → set_group l slot count (group_of first captured) place ≡ fun_of first i captured
  group_slot l slot first count captured i place e lt =
      let from : nat_le slot place ≡ true = le-leb slot place (omega arith) in
      let to : nat_lt place (slot + count) ≡ true = lt-ltb place (slot + count) (omega arith) in
      let back : place - slot ≡ i = omega arith in
      ap₂ (λ b c. cond (b && c) (fun_of first (place - slot) captured) (l place)) from to
      ∙ ap (λ j. fun_of first j captured) back

  pub group_same : (l : Locals C) (slot first count : ℕ) (captured : FlatValues C)
      → SameBelow slot l (set_group l slot count (group_of first captured))
  group_same l slot first count captured i lt =
      let b : nat_le slot i ≡ false = lt-leb slot i lt in
      ap (λ c. cond (c && nat_lt i (slot + count)) (fun_of first (i - slot) captured) (l i)) b

  module _ (procs : List Proc) (first : ℕ) (captured : FlatValues C) where
    abbrev pub Member : ℕ → CoerValue C → Type 0
    Member i v = Carries procs v (fun_of first i captured)

    abbrev pub AllMembers : List (CoerValue C) → ℕ → Type 0
    AllMembers [] i = Unit {0}
    AllMembers (v ∷ vs) i = Member i v × AllMembers vs (suc i)

    -- as they know each other
    pub siblings_carry : (vs : List (CoerValue C)) (names1 : List ℕ) (i : ℕ) (l : Locals C) → length names1 ≡ length vs
        → AllMembers vs i → CarriesAll procs vs (values l (group_of first captured) (numbered
        (λ k. Sibling k) names1 i))
    siblings_carry [] [] i l len h = tt
    siblings_carry [] (name ∷ names1) i l len h = absurd (omega arith)
    siblings_carry (v ∷ vs) [] i l len h = absurd (omega arith)
    siblings_carry (v ∷ vs) (name ∷ names1) i l len h = (h.0, siblings_carry vs names1 (suc i) l (omega arith) h.1)

    -- as the body knows them
    pub members_carry : (vs : List (CoerValue C)) (names1 : List ℕ) (i place count slot : ℕ) (l : Locals C)
        (own : Group C) → place ≡ slot + i → i + length names1 ≤ count → length names1 ≡ length vs → AllMembers vs i
        → CarriesAll procs vs (values (set_group l slot count (group_of first captured)) own (numbered
        (λ k. Local k) names1 place))
    members_carry [] [] i place count slot l own e le len h = tt
    members_carry [] (name ∷ names1) i place count slot l own e le len h = absurd (omega arith)
    members_carry (v ∷ vs) [] i place count slot l own e le len h = absurd (omega arith)
    members_carry (v ∷ vs) (name ∷ names1) i place count slot l own e le len h = (
      subst (Carries procs v) (sym (group_slot l slot first count captured i place e (omega arith))) h.0,
      members_carry vs names1 (suc i) (suc place) count slot l own (omega arith) (omega arith) (omega arith) h.1,
    )

  -- the members of a group are carried
  pub members_held : (procs : List Proc) (group : RowMembers) (names : List ℕ) (vs : CoerValues C) (next first : ℕ)
      (captured : FlatValues C) → first ≡ next + made_in group
      → GroupStands procs (row_member_names group) group next
      → FitsRow procs vs names (captured_means (captures (row_member_names group) group) captured)
      → (rest : RowMembers) (i : ℕ) → i + row_member_count rest ≤ row_member_count group
      → AllMembers procs first captured (seconds (members_in group names vs rest i)) i
  members_held procs group names vs next first captured place stands fits NoRowMembers i le = tt
  members_held procs group names vs next first captured place stands fits (RowMemberThen name parameters body type rest)
      i le = (
        (next, refl, place, stands, fits, omega arith),
        members_held procs group names vs next first captured place
            stands
            fits rest (suc i) (omega arith),
      )

  pub members_firsts : (group : RowMembers) (names : List ℕ) (vs : CoerValues C) (rest : RowMembers) (i : ℕ)
      → firsts (members_in group names vs rest i) ≡ row_member_names rest
  members_firsts group names vs NoRowMembers i = refl
  members_firsts group names vs (RowMemberThen name parameters body type rest) i =
      ap (λ l. name ∷ l) (members_firsts group names vs rest (suc i))

  pub members_seconds : (group : RowMembers) (names : List ℕ) (vs : CoerValues C) (rest : RowMembers) (i : ℕ)
      → length (row_member_names rest) ≡ length (seconds (members_in group names vs rest i))
  members_seconds group names vs NoRowMembers i = refl
  members_seconds group names vs (RowMemberThen name parameters body type rest) i =
      ap suc (members_seconds group names vs rest (suc i))

  -- what the functions of a group know beside each other
  pub captured_fits : (procs : List Proc) (caps : List ℕ) (env : Env C) (first : ℕ) (captured : FlatValues C)
      (l : Locals C) → Fits procs env (captured_means caps captured)
      → Fits procs env (means (captured_scope caps) l (group_of first captured))
  captured_fits procs caps env first captured l fits =
      let own = group_of first captured in
      let own0 = group_of 0 captured in
      fits_part procs env (captured_means caps captured) (means (captured_scope caps) l own)
      (λ name u h. sym (captured_same nothing_known l own (λ i. RunUnit) own0 caps 0 refl name) ∙ h) fits

  -- what a function of a group knows before its parameters
  pub group_fits : (procs : List Proc) (group : RowMembers) (names : List ℕ) (vs : CoerValues C) (next first : ℕ)
      (captured : FlatValues C) (l : Locals C) → first ≡ next + made_in group
      → GroupStands procs (row_member_names group) group next
      → FitsRow procs vs names (captured_means (captures (row_member_names group) group) captured)
      → Fits procs (members_in group names vs group 0 ++ captured_env names vs)
      (means (group_scope (row_member_names group) (captures (row_member_names group) group)) l
      (group_of first captured))
  group_fits procs group names vs next first captured l place stands fits =
      let own = group_of first captured in
      let env = captured_env names vs in
      let entries = members_in group names vs group 0 in
      let known = row_member_names group in
      let caps = captures known group in
      let scope = captured_scope caps in
      let os = numbered (λ i. Sibling i) known 0 in
      subst (λ n. Fits procs (entries ++ env) (means (bind_operands n os scope) l own))
      (members_firsts group names vs group 0)
      (fits_extend procs entries os env scope l own (siblings_carry procs first captured (seconds entries) known 0 l
      (members_seconds group names vs group 0) (members_held procs group names vs next first captured place stands fits
      group 0 (omega arith))) (captured_fits procs caps env first captured l
      (fits_row procs vs names (captured_means caps captured) fits)))

  -- what a new group captures fits
  pub group_captured : (procs : List Proc) (names : List ℕ) (members : RowMembers) (env : Env C) (scope : Scope)
      (l : Locals C) (own : Group C) → Fits procs env (means scope l own)
      → Covers (names_besides names (free_names_of_members members)) scope
      → FitsRow procs (in_row (env_values env)) (env_names env)
      (captured_means (captures names members) (in_row (values l own (meanings_of (captures names members) scope))))
  group_captured procs names members env scope l own h c =
      let caps = captures names members in
      let vs = values l own (meanings_of caps scope) in
      let own0 = group_of 0 (in_row vs) in
      row_fits procs env (captured_means caps (in_row vs)) (fits_part procs env (means scope l own)
      (captured_means caps (in_row vs)) (captured_part scope l own (λ i. RunUnit) own0 caps 0 (holds_all vs)
      (covers_captures names members scope c)) h)
