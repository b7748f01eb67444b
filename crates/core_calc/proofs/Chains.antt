-- Chains of calls that may find nothing, as the functions that find types and binders make them.
use Rattle.std.proofs.Common.{◌≡◌, ◌≢◌, ℕ, suc, ◌+◌, ◌-◌, ◌<◌, Bool, true, false, cond, List, [], ◌∷◌, ◌++◌}
use Rattle.std.proofs.Common.{length, take, slice_get, Option, Some, None, refl, sym, ap}
use Rattle.std.proofs.Common.{ap₂}
use Rattle.std.proofs.Common.{◌∙◌, arith, append_assoc, append-nil}
use Rattle.std.specs.Prelude.{nat_eq, is_some, option_map, ◌&&◌}
use Rattle.std.proofs.Common.{rules}
use Rattle.std.specs.Cmp.Lexicographic.{pointwise}
use Rattle.std.specs.List.{list_any}
use Rattle.std.specs.Map.{lookup}
use Rattle.std.proofs.Common.{get_or}
use Rattle.std.proofs.lemmas.List.{map-append, map_more, take-map}
use Rattle.indexmap.specs.IndexMap.{insert_entry}
use Rattle.grift_base.specs.declared.places.TypeId.{TypeId}
use Rattle.grift_base.specs.contracts.places.TypeIdPartialEq.TheImpl.{ghosts as ids}
use Rattle.type_graph.specs.Forming.{equal_numbers}
use Rattle.type_graph.specs.Rows.{places_of}
use Rattle.core_calc.specs.declared.terms.VarId.{VarId}
use Rattle.core_calc.specs.Terms.{both_in_front}
use Rattle.core_calc.specs.Substitution.{entry_of, bind}
use Rattle.core_calc.specs.Typing.{Context}
use Rattle.core_calc.specs.Views.{names_of}
use Rattle.core_calc.specs.TypeOf.{and_then, with_names, with_bound, context_of, scope_of, last_of}
use Rattle.core_calc.proofs.ListPlaces.{none_is_not_some, same_some}
use Rattle.core_calc.proofs.NamesInScope.{both_there}
use Rattle.core_calc.proofs.RowsOfTables.{false_is_not_true}

-- ---- one line after another

pub there_next : {A B : Type 0} (a : A) (next : A → Option B) → and_then (Some a) next ≡ next a
unfolding and_then
there_next a next = refl

pub none_next : {A B : Type 0} (next : A → Option B) → and_then None next ≡ None
unfolding and_then
none_next next = refl

-- what is one line after another where a test stops both is so whatever the test says
unless_stopped : {A B : Type 0} (b : Bool) (whole : Option B) (first : Option A) (next : A → Option B) →
    whole ≡ and_then first next → cond b None whole ≡ and_then (cond b None first) next
unfolding and_then
unless_stopped true whole first next e = refl
unless_stopped false whole first next e = e

-- ---- names, one after another

names_by : (seen : List ℕ) (name : ℕ) (rest : List ℕ) (b : Bool) → list_any (nat_eq name) seen ≡ b →
    with_names seen (name ∷ rest) ≡ cond b None (with_names (seen ++ name ∷ []) rest)
names_by seen name rest b e = ap (λ c. cond c None (with_names (seen ++ name ∷ []) rest)) e

pub names_append : (seen xs ys : List ℕ) →
    with_names seen (xs ++ ys) ≡ and_then (with_names seen xs) (λ s. with_names s ys)
unfolding and_then
names_append seen [] ys = refl
names_append seen (x ∷ xs) ys =
    unless_stopped (list_any (nat_eq x) seen) _ (with_names (seen ++ x ∷ []) xs) _ (names_append (seen ++ x ∷ []) xs ys)

-- where the first names are new, the others are added to what there is then
pub names_then : (seen middle xs ys : List ℕ) → with_names seen xs ≡ Some middle →
    with_names seen (xs ++ ys) ≡ with_names middle ys
unfolding and_then
names_then seen middle xs ys e = names_append seen xs ys ∙ ap (λ o. and_then o (λ s. with_names s ys)) e

-- where one of the first is not, nothing comes of all
pub names_stop : (seen xs ys : List ℕ) → with_names seen xs ≡ None → with_names seen (xs ++ ys) ≡ None
unfolding and_then
names_stop seen xs ys e = names_append seen xs ys ∙ ap (λ o. and_then o (λ s. with_names s ys)) e

-- the binders of one term, then those of the others
pub term_step : (seen new xs rest : List ℕ) → with_names seen xs ≡ Some new →
    with_names new rest ≡ with_names seen (xs ++ rest)
term_step seen new xs rest e = sym (names_then seen new xs rest e)

-- a name, and the binders of the term that it is bound to
pub binding_step : (seen first new : List ℕ) (name : ℕ) (xs rest : List ℕ) →
    with_names seen (name ∷ []) ≡ Some first → with_names first xs ≡ Some new →
    with_names new rest ≡ with_names seen ((name ∷ xs) ++ rest)
binding_step seen first new name xs rest e f =
    sym (names_then seen first (name ∷ []) (xs ++ rest) e ∙ names_then first new xs rest f)

-- a function's name, its parameters, and the binders of its body
pub member_step : (seen first second new : List ℕ) (name : ℕ) (parameters xs rest : List ℕ) →
    with_names seen (name ∷ []) ≡ Some first → with_names first parameters ≡ Some second →
    with_names second xs ≡ Some new → with_names new rest ≡ with_names seen ((name ∷ parameters) ++ xs ++ rest)
member_step seen first second new name parameters xs rest e f g =
    sym (names_then seen first (name ∷ []) ((parameters ++ xs) ++ rest) e
    ∙ ap (with_names first) (append_assoc parameters xs rest)
    ∙ names_then first second parameters (xs ++ rest) f
    ∙ names_then second new xs rest g)

-- ---- contexts, one name after another

pub bound_append : (context a b : Context) →
    with_bound context (a ++ b) ≡ and_then (with_bound context a) (λ inner. with_bound inner b)
unfolding and_then
bound_append context [] b = refl
bound_append context (entry ∷ a) b =
    unless_stopped (is_some (entry_of entry.0 context)) _ (with_bound (context ++ entry ∷ []) a) _
    (bound_append (context ++ entry ∷ []) a b)

pub bound_then : (context middle a b : Context) → with_bound context a ≡ Some middle →
    with_bound context (a ++ b) ≡ with_bound middle b
unfolding and_then
bound_then context middle a b e = bound_append context a b ∙ ap (λ o. and_then o (λ inner. with_bound inner b)) e

pub bound_stop : (context a b : Context) → with_bound context a ≡ None → with_bound context (a ++ b) ≡ None
unfolding and_then
bound_stop context a b e = bound_append context a b ∙ ap (λ o. and_then o (λ inner. with_bound inner b)) e

-- ---- the entries of a map as a scope

pub entry_lookup : (name : ℕ) (es : List (ℕ × TypeId)) →
    entry_of name (scope_of es) ≡ option_map (λ (t : TypeId). t.0) (lookup (nat_eq name) es)
entry_lookup name [] = refl
entry_lookup name (e ∷ es) = by_test (entry_lookup name es) (nat_eq name e.0)
  where
    by_test : entry_of name (scope_of es) ≡ option_map (λ (t : TypeId). t.0) (lookup (nat_eq name) es) →
        (b : Bool) → cond b (Some e.1.0) (entry_of name (scope_of es)) ≡
        option_map (λ (t : TypeId). t.0) (cond b (Some e.1) (lookup (nat_eq name) es))
    by_test behind true = refl
    by_test behind false = behind

there_mapped : (o : Option TypeId) → is_some (option_map (λ (t : TypeId). t.0) o) ≡ is_some o
there_mapped (Some t) = refl
there_mapped None = refl

is_bound : (name : ℕ) (es : List (ℕ × TypeId)) (b : Bool) → is_some (lookup (nat_eq name) es) ≡ b →
    is_some (entry_of name (scope_of es)) ≡ b
is_bound name es b e = ap is_some (entry_lookup name es) ∙ there_mapped (lookup (nat_eq name) es) ∙ e

-- a name that is there isn't bound again
pub bound_already : (name type : ℕ) (es : List (ℕ × TypeId)) → is_some (lookup (nat_eq name) es) ≡ true →
    with_bound (scope_of es) ((name, type) ∷ []) ≡ None
bound_already name type es e =
    ap (λ b. cond b None (Some (scope_of es ++ (name, type) ∷ []))) (is_bound name es true e)

inserted_last : (name : ℕ) (t : TypeId) (es : List (ℕ × TypeId)) → is_some (lookup (nat_eq name) es) ≡ false →
    insert_entry nat_eq es name t ≡ es ++ (name, t) ∷ []
inserted_last name t [] e = refl
inserted_last name t (entry ∷ es) e = by_test (λ g. inserted_last name t es g) (nat_eq name entry.0) refl
  where
    by_test : (is_some (lookup (nat_eq name) es) ≡ false → insert_entry nat_eq es name t ≡ es ++ (name, t) ∷ []) →
        (b : Bool) → nat_eq name entry.0 ≡ b →
        insert_entry nat_eq (entry ∷ es) name t ≡ (entry ∷ es) ++ (name, t) ∷ []
    by_test behind true f =
        absurd (false_is_not_true (sym e ∙ ap (λ b. is_some (cond b (Some entry.1) (lookup (nat_eq name) es))) f))
    by_test behind false f =
        ap (λ b. cond b ((entry.0, t) ∷ es) (entry ∷ insert_entry nat_eq es name t)) f
        ∙ ap (λ rest. entry ∷ rest) (behind
        (sym (ap (λ b. is_some (cond b (Some entry.1) (lookup (nat_eq name) es))) f) ∙ e))

-- one that isn't goes last
pub bound_last : (name : ℕ) (t : TypeId) (es : List (ℕ × TypeId)) → is_some (lookup (nat_eq name) es) ≡ false →
    with_bound (scope_of es) ((name, t.0) ∷ []) ≡ Some (scope_of (insert_entry nat_eq es name t))
bound_last name t es e =
    ap (λ b. cond b None (Some (scope_of es ++ (name, t.0) ∷ []))) (is_bound name es false e)
    ∙ ap Some (sym (map-append (λ (entry : ℕ × TypeId). (entry.0, entry.1.0)) es ((name, t) ∷ [])))
    ∙ ap (λ entries. Some (scope_of entries)) (sym (inserted_last name t es e))

pub scope_taken : (n : ℕ) (es : List (ℕ × TypeId)) → scope_of (take n es) ≡ take n (scope_of es)
scope_taken n es = sym (take-map (λ (entry : ℕ × TypeId). (entry.0, entry.1.0)) n es)

-- ---- lists of types

pub last_is : (xs : List TypeId) →
    option_map (λ (t : TypeId). t.0) (slice_get xs (length xs - 1)) ≡ last_of (places_of xs)
last_is [] = refl
last_is (x ∷ []) = refl
last_is (x ∷ y ∷ xs) =
    let less : length (x ∷ y ∷ xs) - 1 ≡ suc (length (y ∷ xs) - 1) = omega arith in
    ap (λ k. option_map (λ (t : TypeId). t.0) (slice_get (x ∷ y ∷ xs) k)) less ∙ last_is (y ∷ xs)

id_test : (x y : TypeId) → ids.eq x y ≡ nat_eq x.0 y.0
id_test x y = search rules

-- lists of types that compare as equal have the same numbers
pub ids_by_numbers : (xs ys : List TypeId) → pointwise ids.eq xs ys ≡ equal_numbers (places_of xs) (places_of ys)
ids_by_numbers [] [] = refl
ids_by_numbers [] (y ∷ ys) = refl
ids_by_numbers (x ∷ xs) [] = refl
ids_by_numbers (x ∷ xs) (y ∷ ys) = ap₂ ◌&&◌ (id_test x y) (ids_by_numbers xs ys)

-- ---- names that are bound to types one by one

pub bind_differs : (xs : List VarId) (ys : List TypeId) → length xs ≢ length ys →
    bind (names_of xs) (places_of ys) ≡ None
bind_differs [] [] differs = absurd (differs refl)
bind_differs [] (y ∷ ys) differs = refl
bind_differs (x ∷ xs) [] differs = refl
bind_differs (x ∷ xs) (y ∷ ys) differs =
    ap (both_in_front (Some (x.0, y.0))) (bind_differs xs ys (λ e. differs (ap suc e)))

bind_push : (xs ys : List ℕ) (x y : ℕ) (bound : Context) → bind xs ys ≡ Some bound →
    bind (xs ++ x ∷ []) (ys ++ y ∷ []) ≡ Some (bound ++ (x, y) ∷ [])
bind_push [] [] x y bound e = ap (λ b. Some (b ++ (x, y) ∷ [])) (same_some [] bound e)
bind_push [] (b ∷ ys) x y bound e = absurd (none_is_not_some bound e)
bind_push (a ∷ xs) [] x y bound e = absurd (none_is_not_some bound e)
bind_push (a ∷ xs) (b ∷ ys) x y bound e =
    let rest = both_there (a, b) (bind xs ys) bound e in
    ap (both_in_front (Some (a, b))) (bind_push xs ys x y rest.0 rest.1)
    ∙ ap (λ c. Some (c ++ (x, y) ∷ [])) (sym rest.2)

-- one name more
pub bind_more : (xs : List VarId) (ys : List TypeId) (k : ℕ) (d : VarId) (e : TypeId) (done : List (VarId × TypeId)) →
    k < length xs → k < length ys → bind (names_of (take k xs)) (places_of (take k ys)) ≡ Some (context_of done) →
    bind (names_of (take (k + 1) xs)) (places_of (take (k + 1) ys)) ≡
    Some (context_of (done ++ (get_or xs k d, get_or ys k e) ∷ []))
bind_more xs ys k d e done one two h =
    ap₂ bind (map_more (λ (name : VarId). name.0) xs k d one) (map_more (λ (id : TypeId). id.0) ys k e two)
    ∙ bind_push (names_of (take k xs)) (places_of (take k ys)) (get_or xs k d).0 (get_or ys k e).0 (context_of done) h
    ∙ ap Some (sym (map-append (λ (entry : VarId × TypeId). (entry.0.0, entry.1.0)) done
    ((get_or xs k d, get_or ys k e) ∷ [])))

-- what stands in front of a list that there may be
abbrev pub in_front : {A : Type 0} → List A → Option (List A) → Option (List A)
in_front done (Some rest) = Some (done ++ rest)
in_front done None = None

pub front_starts : {A : Type 0} (o : Option (List A)) → in_front [] o ≡ o
front_starts (Some rest) = refl
front_starts None = refl

pub front_ends : {A : Type 0} (done : List A) → in_front done (Some []) ≡ Some done
front_ends done = ap Some (append-nil done)

pub front_more : {A : Type 0} (done : List A) (a : A) (o : Option (List A)) →
    in_front done (and_then o (λ others. Some (a ∷ others))) ≡ in_front (done ++ a ∷ []) o
unfolding and_then
front_more done a (Some rest) = ap Some (sym (append_assoc done (a ∷ []) rest))
front_more done a None = refl

-- one more is read, and stands behind what is done
pub front_read : {A B : Type 0} (make : B → A) (done pushed : List A) (b : B) (first : Option B)
    (rest whole : Option (List A)) → first ≡ Some b → pushed ≡ done ++ make b ∷ [] →
    in_front done (and_then first (λ b. and_then rest (λ others. Some (make b ∷ others)))) ≡ whole →
    in_front pushed rest ≡ whole
unfolding and_then
front_read make done pushed b first rest whole e more same =
    ap (λ front. in_front front rest) more ∙ sym (front_more done (make b) rest)
    ∙ sym (ap (λ o. in_front done (and_then o (λ b. and_then rest (λ others. Some (make b ∷ others))))) e) ∙ same

pub ruleset chain_steps = (
  there_next,
  none_next,
)

pub ruleset name_steps = (
  names_then,
  names_stop,
)
