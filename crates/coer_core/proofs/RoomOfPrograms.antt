-- In a typed term the nodes and binders of each part, with the names in scope there, are at most as many as those of
-- the whole. So the functions and tuples that a part makes have no more words.
use Rattle.std.proofs.Common.{◌≡◌, ℕ, suc, ◌+◌, ◌*◌, ◌≤◌, Bool, true, false, cond, nat_eq, List, [], ◌∷◌}
use Rattle.std.proofs.Common.{◌++◌, length, Option, Some, None, refl, sym, ap, ◌∙◌, subst, arith, slice_get}
use Rattle.std.proofs.lemmas.Bool.{eqb-true, eq-eqb}
use Rattle.grift_base.specs.Types.{TypeRows}
use Rattle.core_calc.specs.Terms.{Term, IntLit}
use Rattle.core_calc.specs.Terms.{Prim}
use Rattle.core_calc.specs.Terms.{both_in_front}
use Rattle.core_calc.specs.Substitution.{entry_of, is_among, bind}
use Rattle.core_calc.specs.Account.{extent, extent_of_all, extent_of_members, extent_of_bindings}
use Rattle.core_calc.specs.Typing.{Context, CellType, HasType, HaveTypes, LastHasType, MembersHaveTypes}
use Rattle.core_calc.specs.Typing.{BindingsHaveTypes, member_types}
use Rattle.cast_modes.specs.Modes.{TypeCast}
use Rattle.coer_core.specs.Terms.{RowTerm, RowTerms, RowMembers, RowBindings, RowInt, RowBool, RowUnit, RowVar}
use Rattle.coer_core.specs.Terms.{RowLambda, RowGroup, RowLet, RowCall, RowIf, RowSeq, RowCast, RowProj, RowProjDyn}
use Rattle.coer_core.specs.Terms.{RowTuple, RowPrim, NoRowTerms, RowTermThen, NoRowMembers, RowMemberThen}
use Rattle.coer_core.specs.Terms.{NoRowBindings, RowBindingThen, core_of, core_terms, core_members, core_bindings}
use Rattle.coer_core.specs.Terms.{cast_by}
use Rattle.coer_core.specs.Machine.{env_names}
use Rattle.coer_core.specs.Counts.{names_besides, row_member_names, row_binding_names, free_names, free_names_of_all}
use Rattle.coer_core.specs.Counts.{free_names_of_members, free_names_of_bindings, each_once}
use Rattle.coer_core.specs.Counts.{row_member_count}
use Rattle.coer_core.specs.Uses.{how_many}
use Rattle.coer_core.proofs.Room.{FitsIn, FitAll, FitMembers, FitBindings}

-- ---- names in scope

-- each of the first names is among the others
abbrev pub AllAmong : List ℕ → List ℕ → Type 0
AllAmong [] scope = Unit {0}
AllAmong (name ∷ rest) scope = (is_among name scope ≡ true) × AllAmong rest scope

true_false : true ≡ false → ⊥
true_false e = cc

all_joined : (xs ys scope : List ℕ) → AllAmong xs scope → AllAmong ys scope → AllAmong (xs ++ ys) scope
all_joined [] ys scope a b = b
all_joined (x ∷ xs) ys scope a b = (a.0, all_joined xs ys scope a.1 b)

-- a name that is not among these is among those behind them
behind : (name : ℕ) (names scope : List ℕ) → is_among name names ≡ false → is_among name (names ++ scope) ≡ true
    → is_among name scope ≡ true
behind name [] scope miss hit = hit
behind name (other ∷ names) scope miss hit = by_test (λ n y. behind name names scope n y) (nat_eq name other) miss hit
  where
    by_test : (is_among name names ≡ false → is_among name (names ++ scope) ≡ true → is_among name scope ≡ true)
        → (b : Bool) → cond b true (is_among name names) ≡ false → cond b true (is_among name (names ++ scope)) ≡ true
        → is_among name scope ≡ true
    by_test ih true miss hit = absurd (true_false miss)
    by_test ih false miss hit = ih miss hit

all_besides : (names free scope : List ℕ) → AllAmong free (names ++ scope) → AllAmong (names_besides names free) scope
all_besides names [] scope a = tt
all_besides names (name ∷ free) scope a = by_test (is_among name names) refl (all_besides names free scope a.1)
  where
    by_test : (b : Bool) → is_among name names ≡ b → AllAmong (names_besides names free) scope
        → AllAmong (cond b (names_besides names free) (name ∷ names_besides names free)) scope
    by_test true e rest = rest
    by_test false e rest = (behind name names scope e a.0, rest)

-- ---- names that stand once are no more than those among which they are

-- no name stands twice
abbrev Once : List ℕ → Type 0
Once [] = Unit {0}
Once (name ∷ rest) = (is_among name rest ≡ false) × Once rest

one : ℕ → List ℕ
one name = name ∷ []

besides_among : (name : ℕ) (names xs : List ℕ) → is_among name xs ≡ false
    → is_among name (names_besides names xs) ≡ false
besides_among name names [] e = refl
besides_among name names (x ∷ xs) e =
    by_test (λ n. besides_among name names xs n) (is_among x names) (nat_eq name x) refl e
  where
    by_test : (is_among name xs ≡ false → is_among name (names_besides names xs) ≡ false) → (b c : Bool)
        → nat_eq name x ≡ c → cond c true (is_among name xs) ≡ false
        → is_among name (cond b (names_besides names xs) (x ∷ names_besides names xs)) ≡ false
    by_test ih b true h miss = absurd (true_false miss)
    by_test ih true false h miss = ih miss
    by_test ih false false h miss = ap (λ c. cond c true (is_among name (names_besides names xs))) h ∙ ih miss

once_besides : (names xs : List ℕ) → Once xs → Once (names_besides names xs)
once_besides names [] o = tt
once_besides names (x ∷ xs) o = by_test (is_among x names) (once_besides names xs o.1)
  where
    by_test : (b : Bool) → Once (names_besides names xs)
        → Once (cond b (names_besides names xs) (x ∷ names_besides names xs))
    by_test true rest = rest
    by_test false rest = (besides_among x names xs o.0, rest)

gone : (name : ℕ) (xs : List ℕ) → is_among name (names_besides (name ∷ []) xs) ≡ false
gone name [] = refl
gone name (x ∷ xs) = by_test (gone name xs) (nat_eq x name) refl (nat_eq name x) refl
  where
    by_test : is_among name (names_besides (name ∷ []) xs) ≡ false → (b : Bool) → nat_eq x name ≡ b → (c : Bool)
        → nat_eq name x ≡ c → is_among name (cond (cond b true false) (names_besides (name ∷ []) xs) (x ∷ names_besides
        (name ∷ []) xs))
        ≡ false
    by_test ih true e c h = ih
    by_test ih false e true h = absurd (true_false (sym (eq-eqb x name (sym (eqb-true name x h))) ∙ e))
    by_test ih false e false h = ap (λ c. cond c true (is_among name (names_besides (name ∷ []) xs))) h ∙ ih

once_each : (xs : List ℕ) → Once (each_once xs)
once_each [] = tt
once_each (x ∷ xs) = (gone x (each_once xs), once_besides (x ∷ []) (each_once xs) (once_each xs))

-- fewer are left where one that is there is taken out
fewer : (name : ℕ) (scope : List ℕ) → length (names_besides (name ∷ []) scope) ≤ length scope
fewer name [] = omega arith
fewer name (x ∷ scope) = by_test (is_among x (name ∷ [])) (fewer name scope)
  where
    by_test : (b : Bool) → length (names_besides (name ∷ []) scope) ≤ length scope
        → length (cond b (names_besides (name ∷ []) scope) (x ∷ names_besides (name ∷ []) scope)) ≤ suc (length scope)
    by_test true le = omega (arith, le)
    by_test false le = omega (arith, le)

one_fewer : (name : ℕ) (scope : List ℕ) → is_among name scope ≡ true
    → suc (length (names_besides (name ∷ []) scope)) ≤ length scope
one_fewer name [] e = absurd (true_false (sym e))
one_fewer name (x ∷ scope) e = by_test (λ h. one_fewer name scope h) (nat_eq name x) refl (nat_eq x name) refl e
  where
    by_test : (is_among name scope ≡ true → suc (length (names_besides (name ∷ []) scope)) ≤ length scope) → (b : Bool)
        → nat_eq name x ≡ b → (c : Bool) → nat_eq x name ≡ c → cond b true (is_among name scope) ≡ true
        → suc (length (cond (cond c true false) (names_besides (name ∷ []) scope)
        (x ∷ names_besides (name ∷ []) scope))) ≤ suc (length scope)
    by_test ih b h true g e = let le = fewer name scope in omega (arith, le)
    by_test ih true h false g e = absurd (true_false (sym (eq-eqb x name (sym (eqb-true name x h))) ∙ g))
    by_test ih false h false g e = let le = ih e in omega (arith, le)

still_among : (name other : ℕ) (scope : List ℕ) → nat_eq name other ≡ false → is_among name scope ≡ true
    → is_among name (names_besides (other ∷ []) scope) ≡ true
still_among name other [] miss e = e
still_among name other (x ∷ scope) miss e =
    by_test (λ h. still_among name other scope miss h) (nat_eq name x) refl (nat_eq x other) refl e
  where
    by_test : (is_among name scope ≡ true → is_among name (names_besides (other ∷ []) scope) ≡ true) → (b : Bool)
        → nat_eq name x ≡ b → (c : Bool) → nat_eq x other ≡ c → cond b true (is_among name scope) ≡ true
        → is_among name (cond (cond c true false) (names_besides (other ∷ []) scope)
        (x ∷ names_besides (other ∷ []) scope)) ≡ true
    by_test ih true h true g e =
        absurd (true_false (sym (eq-eqb name other (eqb-true name x h ∙ eqb-true x other g)) ∙ miss))
    by_test ih true h false g e = ap (λ c. cond c true (is_among name (names_besides (other ∷ []) scope))) h
    by_test ih false h true g e = ih e
    by_test ih false h false g e = ap (λ c. cond c true (is_among name (names_besides (other ∷ []) scope))) h ∙ ih e

others_among : (other : ℕ) (xs scope : List ℕ) → is_among other xs ≡ false → AllAmong xs scope
    → AllAmong xs (names_besides (other ∷ []) scope)
others_among other [] scope miss a = tt
others_among other (x ∷ xs) scope miss a =
    by_test (λ n. others_among other xs scope n a.1) (nat_eq other x) refl (nat_eq x other) refl miss
  where
    by_test : (is_among other xs ≡ false → AllAmong xs (names_besides (other ∷ []) scope)) → (b : Bool)
        → nat_eq other x ≡ b → (c : Bool) → nat_eq x other ≡ c → cond b true (is_among other xs) ≡ false
        → AllAmong (x ∷ xs) (names_besides (other ∷ []) scope)
    by_test ih true h c g miss = absurd (true_false miss)
    by_test ih false h true g miss = absurd (true_false (sym (eq-eqb other x (sym (eqb-true x other g))) ∙ h))
    by_test ih false h false g miss = (still_among x other scope g a.0, ih miss)

no_more : (xs scope : List ℕ) → Once xs → AllAmong xs scope → length xs ≤ length scope
no_more [] scope o a = omega arith
no_more (x ∷ xs) scope o a =
    let le = no_more xs (names_besides (x ∷ []) scope) o.1 (others_among x xs scope o.0 a.1) in
    let less = one_fewer x scope a.0 in
    omega (arith, le, less)

all_kept : (names xs scope : List ℕ) → AllAmong xs scope → AllAmong (names_besides names xs) scope
all_kept names [] scope a = tt
all_kept names (x ∷ xs) scope a = by_test (is_among x names) (all_kept names xs scope a.1)
  where
    by_test : (b : Bool) → AllAmong (names_besides names xs) scope
        → AllAmong (cond b (names_besides names xs) (x ∷ names_besides names xs)) scope
    by_test true rest = rest
    by_test false rest = (a.0, rest)

each_among : (xs scope : List ℕ) → AllAmong xs scope → AllAmong (each_once xs) scope
each_among [] scope a = tt
each_among (x ∷ xs) scope a = (a.0, all_kept (x ∷ []) (each_once xs) scope (each_among xs scope a.1))

captured_few : (xs scope : List ℕ) → AllAmong xs scope → length (each_once xs) ≤ length scope
captured_few xs scope a = no_more (each_once xs) scope (once_each xs) (each_among xs scope a)

-- ---- contexts

names_joined : (context other : Context) → env_names (context ++ other) ≡ env_names context ++ env_names other
names_joined [] other = refl
names_joined (entry ∷ context) other = ap (λ l. entry.0 ∷ l) (names_joined context other)

names_long : (context : Context) → length (env_names context) ≡ length context
names_long [] = refl
names_long (entry ∷ context) = ap suc (names_long context)

joined_long : (context other : Context) → length (context ++ other) ≡ length context + length other
joined_long [] other = omega arith
joined_long (entry ∷ context) other = let e = joined_long context other in omega (arith, e)

entry_among : (name type : ℕ) (context : Context) → entry_of name context ≡ Some type
    → is_among name (env_names context) ≡ true
entry_among name type [] e = absurd (none_some e)
  where
    none_some : None ≡ Some type → ⊥
    none_some e = cc
entry_among name type (entry ∷ context) e = by_test (λ h. entry_among name type context h) (nat_eq name entry.0) e
  where
    by_test : (entry_of name context ≡ Some type → is_among name (env_names context) ≡ true) → (b : Bool)
        → cond b (Some entry.1) (entry_of name context) ≡ Some type → cond b true (is_among name (env_names context)) ≡
        true
    by_test ih true e = refl
    by_test ih false e = ih e

same_some : {A : Type 0} (x y : A) → Some x ≡ Some y → x ≡ y
same_some x y e = cc

bound_names : (names types : List ℕ) (bound : Context) → bind names types ≡ Some bound → env_names bound ≡ names
bound_names [] [] bound e = ap env_names (sym (same_some [] bound e))
bound_names [] (type ∷ types) bound e = absurd (none_some e)
  where
    none_some : None ≡ Some bound → ⊥
    none_some e = cc
bound_names (name ∷ names) [] bound e = absurd (none_some e)
  where
    none_some : None ≡ Some bound → ⊥
    none_some e = cc
bound_names (name ∷ names) (type ∷ types) bound e =
    with_rest (λ rest h. bound_names names types rest h) (bind names types) refl e
  where
    none_some : None ≡ Some bound → ⊥
    none_some e = cc

    with_rest : ((rest : Context) → bind names types ≡ Some rest → env_names rest ≡ names) → (o : Option Context)
        → bind names types ≡ o → both_in_front (Some (name, type)) o ≡ Some bound
        → env_names bound ≡ name ∷ names
    with_rest ih None h e = absurd (none_some e)
    with_rest ih (Some rest) h e =
        ap env_names (sym (same_some ((name, type) ∷ rest) bound e))
        ∙ ap (λ l. name ∷ l) (ih rest h)

-- ---- sizes

some_nodes : (term : Term) → 1 ≤ extent term
some_nodes (IntLit i) = omega arith
some_nodes _ = omega arith

module _ (rows : List TypeCast) where
  terms_nodes : (terms : RowTerms) → how_many terms ≤ extent_of_all (core_terms rows terms)
  terms_nodes NoRowTerms = omega arith
  terms_nodes (RowTermThen term rest) =
      let a = terms_nodes rest in let b = some_nodes (core_of rows term) in omega (arith, a, b)

  members_nodes : (members : RowMembers) → 2 * row_member_count members ≤ extent_of_members (core_members rows members)
  members_nodes NoRowMembers = omega arith
  members_nodes (RowMemberThen name parameters body type rest) =
      let a = members_nodes rest in let b = some_nodes (core_of rows body) in omega (arith, a, b)

  group_names : (members : RowMembers) → env_names (member_types (core_members rows members)) ≡ row_member_names members
  group_names NoRowMembers = refl
  group_names (RowMemberThen name parameters body type rest) = ap (λ l. name ∷ l) (group_names rest)

  group_long : (members : RowMembers) → length (member_types (core_members rows members)) ≡ row_member_count members
  group_long NoRowMembers = refl
  group_long (RowMemberThen name parameters body type rest) = ap suc (group_long rest)

  module _ (types : TypeRows) (labels : ℕ) (cells : List CellType) (n : ℕ) where
    let_names : (context : Context) (bindings : RowBindings) (bound : Context)
        → BindingsHaveTypes types labels cells context (core_bindings rows bindings) bound
        → (env_names bound ≡ row_binding_names bindings)
        × (length bound ≤ extent_of_bindings (core_bindings rows bindings))
    let_names context NoRowBindings bound h = (ap env_names h, let e = ap length h in omega (arith, e))
    let_names context (RowBindingThen name term rest) bound h =
        let r = let_names context rest h.1 h.4 in
        (ap env_names h.2 ∙ ap (λ l. name ∷ l) r.0, let e = ap length h.2 in let le = r.1 in omega (arith, e, le))

    -- with the names of the context there is room for the term: what it makes has at most n words, and its free names
    -- are those of the context
    abbrev Roomy : Context → RowTerm → Type 0
    Roomy context term = FitsIn n term × AllAmong (free_names term) (env_names context)

    -- names that are bound over the context are taken from what is free under them
    under : (names : List ℕ) (bound context : Context) (free : List ℕ) → env_names bound ≡ names
        → AllAmong free (env_names (bound ++ context)) → AllAmong (names_besides names free) (env_names context)
    under names bound context free e a =
        all_besides names free (env_names context)
        (subst (λ l. AllAmong free (l ++ env_names context)) e
        (subst (λ l. AllAmong free l) (names_joined bound context) a))

    roomy_cast : (term : RowTerm) (context : Context) (type : ℕ) (o : Option TypeCast)
        → ((from : ℕ) → HasType types labels cells context (core_of rows term) from
        → length context + extent (core_of rows term) ≤ n → Roomy context term)
        → HasType types labels cells context (cast_by o (core_of rows term)) type
        → length context + extent (cast_by o (core_of rows term)) ≤ n → Roomy context term
    roomy_cast term context type (Some cast) again h le = again cast.from h.1 (omega (arith, le))
    roomy_cast term context type None again h le = absurd h

    mutual
      pub roomy : (term : RowTerm) (context : Context) (type : ℕ)
          → HasType types labels cells context (core_of rows term) type
          → length context + extent (core_of rows term) ≤ n → Roomy context term
      roomy (RowInt i) context type h le = (tt, tt)
      roomy (RowBool b) context type h le = (tt, tt)
      roomy RowUnit context type h le = (tt, tt)
      roomy (RowVar name) context type h le = (tt, (entry_among name type context h, tt))
      roomy (RowLambda parameters body written) context type h le =
          let names = bound_names parameters h.1.0 h.1.2 h.1.4 in
          let long = sym (names_long h.1.2) ∙ ap length names in
          let joined = joined_long h.1.2 context in
          let inner = roomy body (h.1.2 ++ context) h.1.1 h.1.5 (omega (arith, le, long, joined)) in
          let free = under parameters h.1.2 context (free_names body) names inner.1 in
          let few = captured_few (names_besides parameters (free_names body)) (env_names context) free in
          let all = names_long context in
          let nodes = some_nodes (core_of rows body) in
          ((omega (arith, few, all, nodes, le), inner.0), free)
      roomy (RowGroup members body) context type h le =
          let bound : Context = member_types (core_members rows members) in
          let names = group_names members in
          let long = group_long members in
          let joined = joined_long bound context in
          let nodes = members_nodes members in
          let first = roomy_members members (bound ++ context) h.0 (omega (arith, le, long, joined)) in
          let second = roomy body (bound ++ context) type h.1 (omega (arith, le, long, joined, nodes)) in
          let free = under (row_member_names members) bound context (free_names_of_members members) names first.1 in
          let few =
          captured_few (names_besides (row_member_names members) (free_names_of_members members)) (env_names context)
          free in
          let all = names_long context in (
            (omega (arith, few, all, nodes, le), (first.0, second.0)),
            under (row_member_names members) bound context (free_names_of_members members ++ free_names body) names
                (all_joined (free_names_of_members members) (free_names body) (env_names (bound ++ context)) first.1
                second.1),
          )
      roomy (RowLet bindings body) context type h le =
          let names = let_names context bindings h.0 h.1 in
          let few = names.1 in
          let joined = joined_long h.0 context in
          let first = roomy_bindings bindings context h.0 h.1 (omega (arith, le)) in
          let second = roomy body (h.0 ++ context) type h.2 (omega (arith, le, few, joined)) in (
            (first.0, second.0),
            all_joined (free_names_of_bindings bindings) _ (env_names context) first.1
                (under (row_binding_names bindings) h.0 context (free_names body) names.0 second.1),
          )
      roomy (RowCall function arguments) context type h le =
          let first = roomy function context h.0 h.2 (omega (arith, le)) in
          let second = roomy_all arguments context h.1 h.4 (omega (arith, le)) in
          ((first.0, second.0), all_joined (free_names function) _ (env_names context) first.1 second.1)
      roomy (RowIf condition on_true on_false) context type h le =
          let first = roomy condition context h.0 h.1 (omega (arith, le)) in
          let second = roomy on_true context type h.3 (omega (arith, le)) in
          let third = roomy on_false context type h.4 (omega (arith, le)) in (
            (first.0, second.0, third.0),
            all_joined (free_names condition) _ (env_names context) first.1
                (all_joined (free_names on_true) _ (env_names context) second.1 third.1),
          )
      roomy (RowSeq terms) context type h le = roomy_last terms context type h (omega (arith, le))
      roomy (RowCast term number) context type h le =
          roomy_cast term context type (slice_get rows number) (λ from h1 le1. roomy term context from h1 le1) h le
      roomy (RowProj term k) context type h le = roomy term context h.0 h.2 (omega (arith, le))
      roomy (RowProjDyn term k label) context type h le = roomy term context type h.0 (omega (arith, le))
      roomy (RowTuple parts) context type h le =
          let all = roomy_all parts context h.0 h.1 (omega (arith, le)) in
          let nodes = terms_nodes parts in
          ((omega (arith, nodes, le), all.0), all.1)
      roomy (RowPrim operator operands) context type h le = roomy_all operands context h.0 h.1 (omega (arith, le))

      roomy_all : (terms : RowTerms) (context : Context) (wanted : List ℕ)
          → HaveTypes types labels cells context (core_terms rows terms) wanted
          → length context + extent_of_all (core_terms rows terms) ≤ n
          → FitAll n terms × AllAmong (free_names_of_all terms) (env_names context)
      roomy_all NoRowTerms context wanted h le = (tt, tt)
      roomy_all (RowTermThen term rest) context wanted h le =
          let first = roomy term context h.0 h.3 (omega (arith, le)) in
          let second = roomy_all rest context h.1 h.4 (omega (arith, le)) in
          ((first.0, second.0), all_joined (free_names term) _ (env_names context) first.1 second.1)

      roomy_last : (terms : RowTerms) (context : Context) (type : ℕ)
          → LastHasType types labels cells context (core_terms rows terms) type
          → length context + extent_of_all (core_terms rows terms) ≤ n
          → FitAll n terms × AllAmong (free_names_of_all terms) (env_names context)
      roomy_last NoRowTerms context type h le = absurd h
      roomy_last (RowTermThen term NoRowTerms) context type h le =
          let first = roomy term context type h (omega (arith, le)) in
          ((first.0, tt), all_joined (free_names term) [] (env_names context) first.1 tt)
      roomy_last (RowTermThen term (RowTermThen second rest)) context type h le =
          let first = roomy term context h.0.0 h.0.1 (omega (arith, le)) in
          let others = roomy_last (RowTermThen second rest) context type h.1 (omega (arith, le)) in
          ((first.0, others.0), all_joined (free_names term) _ (env_names context) first.1 others.1)

      -- the context has the names of the whole group
      roomy_members : (members : RowMembers) (context : Context)
          → MembersHaveTypes types labels cells context (core_members rows members)
          → length context + extent_of_members (core_members rows members) ≤ n + row_member_count members
          → FitMembers n members × AllAmong (free_names_of_members members) (env_names context)
      roomy_members NoRowMembers context h le = (tt, tt)
      roomy_members (RowMemberThen name parameters body type rest) context h le =
          let names = bound_names parameters h.0.0 h.0.2 h.0.4 in
          let long = sym (names_long h.0.2) ∙ ap length names in
          let joined = joined_long h.0.2 context in
          let nodes = members_nodes rest in
          let first = roomy body (h.0.2 ++ context) h.0.1 h.0.5 (omega (arith, le, long, joined, nodes)) in
          let second = roomy_members rest context h.1 (omega (arith, le)) in (
            (first.0, second.0),
            all_joined (names_besides parameters (free_names body)) _ (env_names context)
                (under parameters h.0.2 context (free_names body) names first.1) second.1,
          )

      roomy_bindings : (bindings : RowBindings) (context : Context) (bound : Context)
          → BindingsHaveTypes types labels cells context (core_bindings rows bindings) bound
          → length context + extent_of_bindings (core_bindings rows bindings) ≤ n
          → FitBindings n bindings × AllAmong (free_names_of_bindings bindings) (env_names context)
      roomy_bindings NoRowBindings context bound h le = (tt, tt)
      roomy_bindings (RowBindingThen name term rest) context bound h le =
          let first = roomy term context h.0 h.3 (omega (arith, le)) in
          let second = roomy_bindings rest context h.1 h.4 (omega (arith, le)) in
          ((first.0, second.0), all_joined (free_names term) _ (env_names context) first.1 second.1)
