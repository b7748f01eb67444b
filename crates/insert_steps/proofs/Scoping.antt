-- Names are found at the newest entry that binds them.
use Rattle.std.proofs.Common.{◌≡◌, ◌≤◌, ◌<◌, ℕ, suc, Bool, true, false, cond, List, [], ◌∷◌, ◌++◌, length, Option, Some}
use Rattle.std.proofs.Common.{None, refl, sym, ap, ap₂, ◌∙◌, subst, arith, slice_get}
use Rattle.std.specs.Prelude.{nat_eq, ◌&&◌, reverse, drop, get_or, take, ◌+◌}
use Rattle.std.proofs.lemmas.Option.{slice_get_within, get_or_from_slice_get}
use Rattle.std.specs.HashMap.{get}
use Rattle.std.specs.Cmp.Lexicographic.{pointwise}
use Rattle.std.proofs.lemmas.Bool.{eqb-true, eq-eqb}
use Rattle.std.proofs.lemmas.List.{reverse-append, reverse-reverse, length-reverse, length-append, append_assoc}
use Rattle.std.proofs.lemmas.List.{drop_at, drop-drop, map-append, take_more}
use Rattle.insert_steps.specs.declared.names.Named.{Named}
use Rattle.type_graph.specs.Forming.{equal_numbers}
use Rattle.type_graph.proofs.Public.{none_is_not_some, same_some, get_kept, equal_lists}
use Rattle.surface_trees.specs.declared.names.Ident.{Ident}
use Rattle.surface_trees.specs.declared.names.Ident.TheVariants.{Source, Fresh}
use Rattle.surface_trees.specs.contracts.names.IdentPartialEq.TheImpl.{ghosts}
use Rattle.insert_steps.specs.declared.names.Entry.{Entry}
use Rattle.cast_rules.specs.Sources.{equal_idents}
use Rattle.cast_rules.specs.Environments.{Meaning, Environment, meaning_of, with_names, variables}
use Rattle.core_calc.specs.declared.terms.VarId.{VarId}
use Rattle.core_calc.specs.Views.{names_of}
use Rattle.insert_steps.specs.Views.{meaning_seen}
use Rattle.insert_steps.specs.Scoped.{names_in, env_of, newest_in, AreLinked, Places, kept_place, AreFound}

-- ---- names that are the same

equal_bytes : (xs ys : List ℕ) → pointwise nat_eq xs ys ≡ equal_numbers xs ys
equal_bytes [] [] = refl
equal_bytes [] (y ∷ ys) = refl
equal_bytes (x ∷ xs) [] = refl
equal_bytes (x ∷ xs) (y ∷ ys) = ap (λ b. nat_eq x y && b) (equal_bytes xs ys)

pub same_test : (x y : Ident) → ghosts.eq x y ≡ equal_idents x y
same_test (Source a) (Source b) = equal_bytes a b
same_test (Source a) (Fresh n) = refl
same_test (Fresh m) (Source b) = refl
same_test (Fresh m) (Fresh n) = refl

numbers_same : (xs : List ℕ) → equal_numbers xs xs ≡ true
numbers_same [] = refl
numbers_same (x ∷ xs) = ap₂ ◌&&◌ (eq-eqb x x refl) (numbers_same xs)

equal_are_one : (x y : Ident) → equal_idents x y ≡ true → x ≡ y
equal_are_one (Source a) (Source b) e = ap Source (equal_lists a b e)
equal_are_one (Source a) (Fresh n) e = cc
equal_are_one (Fresh m) (Source b) e = cc
equal_are_one (Fresh m) (Fresh n) e = ap Fresh (eqb-true m n e)

is_itself : (x : Ident) → equal_idents x x ≡ true
is_itself (Source a) = numbers_same a
is_itself (Fresh n) = eq-eqb n n refl

-- the test does not ask in which order
turned : (x y : Ident) → equal_idents x y ≡ equal_idents y x
turned x y = one (equal_idents x y) (equal_idents y x) refl refl
  where
    one : (a b : Bool) → equal_idents x y ≡ a → equal_idents y x ≡ b → a ≡ b
    one true true e f = refl
    one false false e f = refl
    one true false e f =
        let same = equal_are_one x y e in
        sym (subst (λ z. equal_idents z x ≡ true) same (is_itself x)) ∙ f
    one false true e f =
        let same = equal_are_one y x f in
        sym (e) ∙ subst (λ z. equal_idents z y ≡ true) same (is_itself y)

-- ---- where a name is found

pub absent : (name : Ident) (entries : List Entry) → newest_in name entries ≡ None →
    meaning_of name (names_in entries) ≡ None
absent name [] e = refl
absent name (entry ∷ older) e =
    one (equal_idents name entry.name) (newest_in name older) (λ f. absent name older f) e
  where
    one : (b : Bool) (o : Option ℕ) → (o ≡ None → meaning_of name (names_in older) ≡ None) →
        cond b (Some (length older)) o ≡ None →
        cond b (Some (meaning_seen entry.meaning)) (meaning_of name (names_in older)) ≡ None
    one true o later e = cc
    one false o later e = later e

-- the entry at a place from the oldest one on has the meaning of the name
abbrev pub Finds : Ident → List Entry → ℕ → Type 0
Finds name entries place =
    (entry : Entry) × (slice_get (reverse entries) place ≡ Some entry)
    × (meaning_of name (names_in entries) ≡ Some (meaning_seen entry.meaning))

last_of : (older : List Entry) (entry : Entry) (place : ℕ) → place ≡ length older →
    slice_get (reverse older ++ entry ∷ []) place ≡ Some entry
last_of older entry place e = at_end (reverse older) place (e ∙ sym (length-reverse older))
  where
    at_end : (xs : List Entry) (k : ℕ) → k ≡ length xs → slice_get (xs ++ entry ∷ []) k ≡ Some entry
    at_end xs k e = subst (λ i. slice_get (xs ++ entry ∷ []) i ≡ Some entry) (sym e) (at_length xs)
      where
        at_length : (xs : List Entry) → slice_get (xs ++ entry ∷ []) (length xs) ≡ Some entry
        at_length [] = refl
        at_length (x ∷ xs) = at_length xs

reverse-cons : (entry : Entry) (older : List Entry) → reverse (entry ∷ older) ≡ reverse older ++ entry ∷ []
reverse-cons entry older = reverse-append (entry ∷ []) older

pub present : (name : Ident) (entries : List Entry) (place : ℕ) → newest_in name entries ≡ Some place →
    Finds name entries place
present name [] place e = absurd (none_is_not_some place e)
present name (entry ∷ older) place e =
    one (equal_idents name entry.name) (newest_in name older) (λ f. present name older place f) e
  where
    one : (b : Bool) (o : Option ℕ) → (o ≡ Some place → Finds name older place) →
        cond b (Some (length older)) o ≡ Some place →
        (found : Entry) × (slice_get (reverse (entry ∷ older)) place ≡ Some found)
        × (cond b (Some (meaning_seen entry.meaning)) (meaning_of name (names_in older))
        ≡ Some (meaning_seen found.meaning))
    one true o later e = (
      entry,
      ap (λ xs. slice_get xs place) (reverse-cons entry older)
          ∙ last_of older entry place (sym (same_some (length older) place e)),
      refl,
    )
    one false o later e =
        let found = later e in (
          found.0,
          ap (λ xs. slice_get xs place) (reverse-cons entry older)
              ∙ get_kept (reverse older) (entry ∷ []) place found.0 found.1,
          found.2,
        )

-- what is kept of a name tells what it means
pub find_none : (entries : List Entry) (places : Places) (name : Ident) (environment : Environment) →
    AreFound entries places → names_in (reverse entries) ≡ environment →
    kept_place (get ghosts.eq places name) ≡ None → None ≡ meaning_of name environment
find_none entries places name environment found view e =
    subst (λ names. None ≡ meaning_of name names) view
    (sym (absent name (reverse entries) (sym (found.found name) ∙ e)))

there : (entries : List Entry) (places : Places) (name : Ident) (place : ℕ) → AreFound entries places →
    kept_place (get ghosts.eq places name) ≡ Some place → (entry : Entry) × (slice_get entries place ≡ Some entry)
    × (meaning_of name (names_in (reverse entries)) ≡ Some (meaning_seen entry.meaning))
there entries places name place found e =
    let f = present name (reverse entries) place (sym (found.found name) ∙ e) in
    (f.0, ap (λ xs. slice_get xs place) (sym (reverse-reverse entries)) ∙ f.1, f.2)

pub find_within : (entries : List Entry) (places : Places) (name : Ident) (place : ℕ) → AreFound entries places →
    kept_place (get ghosts.eq places name) ≡ Some place → place < length entries
find_within entries places name place found e =
    let f = there entries places name place found e in
    slice_get_within entries place f.0 f.1

pub find_some : (entries : List Entry) (places : Places) (name : Ident) (environment : Environment) (place : ℕ)
    (entry : Entry) → AreFound entries places → names_in (reverse entries) ≡ environment →
    kept_place (get ghosts.eq places name) ≡ Some place → entry ≡ get_or entries place entry →
    Some (meaning_seen entry.meaning) ≡ meaning_of name environment
find_some entries places name environment place entry found view e here =
    let f = there entries places name place found e in
    let same : entry ≡ f.0 = here ∙ get_or_from_slice_get entries place f.0 entry f.1 in
    subst (λ names. Some (meaning_seen entry.meaning) ≡ meaning_of name names) view
    (ap (λ x. Some (meaning_seen x.meaning)) same ∙ sym f.2)

-- ---- one name more, and one less

reverse-push : (entries : List Entry) (entry : Entry) → reverse (entries ++ entry ∷ []) ≡ entry ∷ reverse entries
reverse-push entries entry = reverse-append entries (entry ∷ [])

abbrev UpdatedTo : Places → Places → Ident → Option ℕ → Type 0
UpdatedTo old new key place =
    (name : Ident) → get ghosts.eq new name ≡ cond (ghosts.eq key name) (Some place) (get ghosts.eq old name)

kept_cond : (b : Bool) (place : Option ℕ) (o : Option (Option ℕ)) →
    kept_place (cond b (Some place) o) ≡ cond b place (kept_place o)
kept_cond true place o = refl
kept_cond false place o = refl

-- what is kept after one key was set
kept_after : (old new : Places) (key name : Ident) (place : Option ℕ) → UpdatedTo old new key place →
    kept_place (get ghosts.eq new name) ≡ cond (equal_idents name key) place (kept_place (get ghosts.eq old name))
kept_after old new key name place updates =
    ap kept_place (updates name) ∙ kept_cond (ghosts.eq key name) place (get ghosts.eq old name)
    ∙ ap (λ b. cond b place (kept_place (get ghosts.eq old name))) (same_test key name ∙ turned key name)

pub found_push : (entries : List Entry) (entry : Entry) (old new : Places) (key : Ident) (place : ℕ) →
    AreFound entries old → key ≡ entry.name → entry.hidden ≡ kept_place (get ghosts.eq old entry.name) →
    place ≡ length entries → suc (length entries) ≤ 4294967295 → UpdatedTo old new key (Some place) →
    AreFound (entries ++ entry ∷ []) new
found_push entries entry old new key place found same hidden here room updates = record {
  few = (let e = length-append entries (entry ∷ []) in omega arith);
  found = λ name. kept_after old new key name (Some place) updates
      ∙ ap₂ (λ k place. cond (equal_idents name k) (Some place) (kept_place (get ghosts.eq old name))) same
      (here ∙ sym (length-reverse entries))
      ∙ ap (λ o. cond (equal_idents name entry.name) (Some (length (reverse entries))) o) (found.found name)
      ∙ ap (newest_in name) (sym (reverse-push entries entry));
  linked = subst AreLinked (sym (reverse-push entries entry)) (hidden ∙ found.found entry.name, found.linked);
}

-- the entry that is taken off
pub linked_last : (entries : List Entry) (entry : Entry) → AreLinked (reverse (entries ++ entry ∷ [])) →
    AreLinked (entry ∷ reverse entries)
linked_last entries entry linked = subst AreLinked (reverse-push entries entry) linked

pub found_pop : (entries : List Entry) (entry : Entry) (old new : Places) → AreFound (entries ++ entry ∷ []) old →
    UpdatedTo old new entry.name entry.hidden → AreFound entries new
found_pop entries entry old new found updates = record {
  few = (let e = length-append entries (entry ∷ []) in let f = found.few in omega arith);
  found = λ name. kept_after old new entry.name name entry.hidden updates
      ∙ by_name name (equal_idents name entry.name) refl
      (found.found name ∙ ap (newest_in name) (reverse-push entries entry));
  linked = links.1;
}
  where
    links : AreLinked (entry ∷ reverse entries)
    links = linked_last entries entry found.linked

    by_name : (name : Ident) (b : Bool) → equal_idents name entry.name ≡ b →
        kept_place (get ghosts.eq old name) ≡ newest_in name (entry ∷ reverse entries) →
        cond b entry.hidden (kept_place (get ghosts.eq old name)) ≡ newest_in name (reverse entries)
    by_name name true e f =
        links.0 ∙ ap (λ n. newest_in n (reverse entries)) (sym (equal_are_one name entry.name e))
    by_name name false e f =
        f ∙ ap (λ b. cond b (Some (length (reverse entries))) (newest_in name (reverse entries))) e

-- the name of the newest entry has a place
pub name_kept : (entries : List Entry) (entry : Entry) (places : Places) → AreFound (entries ++ entry ∷ []) places →
    get ghosts.eq places entry.name ≡ None → ⊥
name_kept entries entry places found e =
    none_is_not_some (length (reverse entries))
    (sym (ap kept_place e) ∙ found.found entry.name ∙ ap (newest_in entry.name) (reverse-push entries entry)
    ∙ ap (λ b. cond b (Some (length (reverse entries))) (newest_in entry.name (reverse entries)))
    (is_itself entry.name))

-- ---- several names

pub with_names_push : (entries : Environment) (entry : Ident × Meaning) (environment : Environment) →
    with_names (entries ++ entry ∷ []) environment ≡ entry ∷ with_names entries environment
with_names_push [] entry environment = refl
with_names_push (first ∷ rest) entry environment = with_names_push rest entry (first ∷ environment)

with_names_is : (entries environment : Environment) →
    with_names entries environment ≡ reverse entries ++ environment
with_names_is [] environment = refl
with_names_is (entry ∷ rest) environment =
    with_names_is rest (entry ∷ environment)
    ∙ sym (append_assoc (reverse rest) (entry ∷ []) environment)
    ∙ ap (λ xs. xs ++ environment) (sym (reverse-append (entry ∷ []) rest))

-- taking off as many names as were put in front
pub with_names_drop : (entries environment : Environment) →
    drop (length entries) (with_names entries environment) ≡ environment
with_names_drop entries environment =
    ap (drop (length entries)) (with_names_is entries environment)
    ∙ drop_at (reverse entries) environment (length entries) (length-reverse entries)

-- one name more of those that are put in front
pub enter_more : (names : List Named) (i : ℕ) (named : Named) (environment now next : Environment) →
    i < length names → named ≡ get_or names i named → now ≡ with_names (env_of (take i names)) environment →
    next ≡ (named.name, meaning_seen named.meaning) ∷ now →
    next ≡ with_names (env_of (take (i + 1) names)) environment
enter_more names i named environment now next within here so_far e =
    let entry : Ident × Meaning = (named.name, meaning_seen named.meaning) in
    let taken : take (i + 1) names ≡ take i names ++ named ∷ [] =
    take_more names i named within ∙ ap (λ x. take i names ++ x ∷ []) (sym here) in
    e ∙ ap (λ env. entry ∷ env) so_far ∙ sym (with_names_push (env_of (take i names)) entry environment)
    ∙ ap (λ xs. with_names xs environment)
    (sym (map-append (λ (n : Named). (n.name, meaning_seen n.meaning)) (take i names) (named ∷ [])))
    ∙ ap (λ xs. with_names (env_of xs) environment) (sym taken)

-- one name more is taken off
pub leave_more : (k : ℕ) (environment now next : Environment) → now ≡ drop k environment → next ≡ drop 1 now →
    next ≡ drop (k + 1) environment
leave_more k environment now next e f = f ∙ ap (drop 1) e ∙ drop-drop 1 k environment

-- ---- variables of names

pub variables_more : (names : List Named) (i : ℕ) (named : Named) (ids next : List VarId) → i < length names →
    named ≡ get_or names i named → names_of ids ≡ variables (env_of (take i names)) →
    next ≡ ids ++ named.meaning.variable ∷ [] → names_of next ≡ variables (env_of (take (i + 1) names))
variables_more names i named ids next within here so_far e =
    let taken : take (i + 1) names ≡ take i names ++ named ∷ [] =
    take_more names i named within ∙ ap (λ x. take i names ++ x ∷ []) (sym here) in
    ap names_of e ∙ map-append (λ (v : VarId). v.0) ids (named.meaning.variable ∷ [])
    ∙ ap (λ xs. xs ++ named.meaning.variable.0 ∷ []) so_far
    ∙ sym (map-append (λ (entry : Ident × Meaning). entry.1.variable) (env_of (take i names))
    ((named.name, meaning_seen named.meaning) ∷ []))
    ∙ ap variables (sym (map-append (λ (n : Named). (n.name, meaning_seen n.meaning)) (take i names) (named ∷ [])))
    ∙ ap (λ xs. variables (env_of xs)) (sym taken)
