-- What is taken out of terms that are all values.
use Rattle.std.proofs.Common.{◌≡◌, ℕ, List, [], ◌∷◌, ◌++◌, Option, Some, None, refl, ap, ◌∙◌, sym}
use Rattle.std.specs.Prelude.{zero, suc, Bool, true, false, cond, is_some, option_map, slice_get}
use Rattle.std.proofs.lemmas.List.{append-nil}
use Rattle.grift_base.specs.World.{WorldState}
use Rattle.grift_base.specs.Types.{TypeRows}
use Rattle.core_calc.proofs.Public.{same_some}
use Rattle.core_calc.specs.Terms.{Term, Terms, Let, Bindings, Members, Value, Values, NoTerms, TermThen, NoBindings}
use Rattle.core_calc.specs.Terms.{BindingThen, NoMembers, MemberThen, ValueThen, ValueTerm, TupleValue, as_value}
use Rattle.core_calc.specs.Terms.{all_values, bound_values, both_in_front, values_from, binding_names, member_list}
use Rattle.core_calc.specs.Substitution.{Substitution, bind, substitute}
use Rattle.core_calc.specs.Outcome.{Store, Goes, Stuck, if_some, with_some}
use Rattle.core_calc.specs.Step.{let_step}
use Rattle.core_calc.specs.Calls.{enter_body, enter_member}
use Rattle.core_redexes.specs.Taken.{as_many, entry_then, taken_bindings, taken_arguments}
use Rattle.core_redexes.specs.Taken.{value_or_rest, taken_values}
use Rattle.core_redexes.specs.Moves.{after}
use Rattle.core_redexes.specs.declared.moves.Moved.TheVariants.{Goes as GoesOn}
use Rattle.core_redexes.specs.Redexes.{let_redex}
use Rattle.core_redexes.specs.Entered.{with_arguments, member_entered}

some_is_none : (A : Type 0) → is_some {T = A} None ≡ true → ⊥
some_is_none A e = cc

-- ---- tuples

front_taken : (option : Option Value) (values : Option (List Value)) (taken : Values) →
    is_some (both_in_front option values) ≡ true →
    (is_some values ≡ true → option_map values_from values ≡ Some taken) →
    option_map values_from (both_in_front option values) ≡ Some (value_or_rest option taken)
front_taken (Some v) (Some vs) taken e ih = ap (option_map (ValueThen v)) (ih refl)
front_taken (Some v) None taken e ih = absurd (some_is_none (List Value) e)
front_taken None values taken e ih = absurd (some_is_none (List Value) e)

pub all_taken : (terms : Terms) → is_some (all_values terms) ≡ true →
    option_map values_from (all_values terms) ≡ Some (taken_values terms)
all_taken NoTerms e = refl
all_taken (TermThen term rest) e =
    front_taken (as_value term) (all_values rest) (taken_values rest) e (λ f. all_taken rest f)

none_is_some : (taken : Values) → None ≡ Some taken → ⊥
none_is_some taken e = cc

tuple_of : (store : Store) (world : WorldState) (values : Option (List Value)) (taken : Values) →
    option_map values_from values ≡ Some taken →
    with_some values (λ vs. Goes (ValueTerm (TupleValue (values_from vs))) store world)
    ≡ Goes (ValueTerm (TupleValue taken)) store world
tuple_of store world (Some vs) taken e = ap (λ x. Goes (ValueTerm (TupleValue x)) store world) (same_some
    (values_from vs) taken e)
tuple_of store world None taken e = absurd (none_is_some taken e)

pub tuple_taken : (store : Store) (world : WorldState) (terms : Terms) → is_some (all_values terms) ≡ true →
    with_some (all_values terms) (λ vs. Goes (ValueTerm (TupleValue (values_from vs))) store world)
    ≡ Goes (ValueTerm (TupleValue (taken_values terms))) store world
tuple_taken store world terms e = tuple_of store world (all_values terms) (taken_values terms) (all_taken terms e)

-- ---- bindings

abbrev BoundTaken : List ℕ → Option (List Value) → Substitution → Type 0
BoundTaken names values taken = (vs : List Value) × (values ≡ Some vs) × (bind names vs ≡ Some taken)

front_bound : (name : ℕ) (names : List ℕ) (option : Option Value) (values : Option (List Value))
    (taken : Substitution) → is_some (both_in_front option values) ≡ true →
    (is_some values ≡ true → BoundTaken names values taken) →
    BoundTaken (name ∷ names) (both_in_front option values) (entry_then name option taken)
front_bound name names (Some v) (Some us) taken e ih =
    let h = ih refl in
    (v ∷ h.0, ap (λ o. both_in_front (Some v) o) h.1, ap (λ o. both_in_front (Some (name, v)) o) h.2)
front_bound name names (Some v) None taken e ih = absurd (some_is_none (List Value) e)
front_bound name names None values taken e ih = absurd (some_is_none (List Value) e)

pub bound_taken : (bindings : Bindings) → is_some (bound_values bindings) ≡ true →
    BoundTaken (binding_names bindings) (bound_values bindings) (taken_bindings bindings)
bound_taken NoBindings e = ([], refl, refl)
bound_taken (BindingThen name bound rest) e =
    front_bound name (binding_names rest) (as_value bound) (bound_values rest) (taken_bindings rest) e
    (λ f. bound_taken rest f)

pub let_taken : (types : TypeRows) (store : Store) (world : WorldState) (bindings : Bindings) (body : Term) →
    is_some (bound_values bindings) ≡ true →
    with_some (bound_values bindings) (let_step types store world bindings body)
    ≡ Goes (substitute body (taken_bindings bindings ++ [])) store world
let_taken types store world bindings body e =
    let h = bound_taken bindings e in
    ap (λ o. with_some o (let_step types store world bindings body)) h.1
    ∙ ap (λ o. with_some o (λ b. Goes (substitute body b) store world)) h.2
    ∙ ap (λ b. Goes (substitute body b) store world) (sym (append-nil (taken_bindings bindings)))

-- what is bound and what it is put into, seen one after the other
pub let_seen : (whole : Term) (bound others : Bindings) (left body : Term) → whole ≡ Let bound left →
    whole ≡ Let others body → whole ≡ Let bound body
let_seen whole bound others left body e f = let same = sym e ∙ f in cc

-- so a Let whose bound values are put into its body goes on with it
pub let_becomes : (types : TypeRows) (store : Store) (world : WorldState) (whole : Term) (bindings : Bindings)
    (body next : Term) (entries : Substitution) → whole ≡ Let bindings body → is_some (bound_values bindings) ≡ true →
    entries ≡ taken_bindings bindings → next ≡ substitute body (entries ++ []) →
    after (let_redex types store world whole) whole store world
    ≡ record { moved = GoesOn; item = next; store = store; world = world }
let_becomes types store world whole bindings body next entries e f g h =
    ap (λ x. after (let_redex types store world x) x store world) e
    ∙ ap (λ o. after o (Let bindings body) store world) (let_taken types store world bindings body f)
    ∙ ap (λ x. after (Goes x store world) (Let bindings body) store world)
    (ap (λ b. substitute body (b ++ [])) (sym g) ∙ sym h)

-- ---- arguments

abbrev ArgumentsTaken : List ℕ → Option (List Value) → Option Substitution → Type 0
ArgumentsTaken names values taken = (vs : List Value) × (values ≡ Some vs) × (bind names vs ≡ taken)

more_bound : (entry : ℕ × Value) (taken : Substitution) (b : Bool) →
    both_in_front (Some entry) (cond b (Some taken) None) ≡ cond b (Some (entry ∷ taken)) None
more_bound entry taken true = refl
more_bound entry taken false = refl

no_parameter : (option : Option Value) (values : Option (List Value)) →
    is_some (both_in_front option values) ≡ true → ArgumentsTaken [] (both_in_front option values) None
no_parameter (Some v) (Some us) e = (v ∷ us, refl, refl)
no_parameter (Some v) None e = absurd (some_is_none (List Value) e)
no_parameter None values e = absurd (some_is_none (List Value) e)

front_argument : (name : ℕ) (names : List ℕ) (option : Option Value) (values : Option (List Value))
    (taken : Substitution) (b : Bool) → is_some (both_in_front option values) ≡ true →
    (is_some values ≡ true → ArgumentsTaken names values (cond b (Some taken) None)) →
    ArgumentsTaken (name ∷ names) (both_in_front option values) (cond b (Some (entry_then name option taken)) None)
front_argument name names (Some v) (Some us) taken b e ih =
    let h = ih refl in (
      v ∷ h.0,
      ap (λ o. both_in_front (Some v) o) h.1,
      ap (λ o. both_in_front (Some (name, v)) o) h.2 ∙ more_bound (name, v) taken b,
    )
front_argument name names (Some v) None taken b e ih = absurd (some_is_none (List Value) e)
front_argument name names None values taken b e ih = absurd (some_is_none (List Value) e)

pub arguments_taken : (names : List ℕ) (terms : Terms) → is_some (all_values terms) ≡ true →
    ArgumentsTaken names (all_values terms)
    (cond (as_many names terms) (Some (taken_arguments names terms)) None)
arguments_taken [] NoTerms e = ([], refl, refl)
arguments_taken [] (TermThen term rest) e = no_parameter (as_value term) (all_values rest) e
arguments_taken (name ∷ names) NoTerms e = ([], refl, refl)
arguments_taken (name ∷ names) (TermThen term rest) e =
    front_argument name names (as_value term) (all_values rest) (taken_arguments names rest)
    (as_many names rest) e (λ f. arguments_taken names rest f)

body_of : (body : Term) (group : Substitution) (store : Store) (world : WorldState) (taken : Substitution) (b : Bool) →
    with_some (cond b (Some taken) None) (λ bound. Goes (substitute body (bound ++ group)) store world)
    ≡ with_some (cond b (Some (substitute body (taken ++ group))) None) (λ x. Goes x store world)
body_of body group store world taken true = refl
body_of body group store world taken false = refl

pub enters : (types : TypeRows) (store : Store) (world : WorldState) (parameters : List ℕ) (body : Term)
    (group : Substitution) (terms : Terms) → is_some (all_values terms) ≡ true →
    if_some (all_values terms) (enter_body types store world parameters body group) Stuck
    ≡ with_some (with_arguments parameters body group terms) (λ x. Goes x store world)
enters types store world parameters body group terms e =
    let h = arguments_taken parameters terms e in
    ap (λ o. if_some o (enter_body types store world parameters body group) Stuck) h.1
    ∙ ap (λ o. with_some o (λ bound. Goes (substitute body (bound ++ group)) store world)) h.2
    ∙ body_of body group store world (taken_arguments parameters terms) (as_many parameters terms)

-- a member is entered by its parameters and its body
pub member_enters : (types : TypeRows) (store : Store) (world : WorldState) (members : Members) (place : ℕ)
    (group : Substitution) (terms : Terms) → is_some (all_values terms) ≡ true →
    if_some (all_values terms) (enter_member types store world members place group) Stuck
    ≡ with_some (member_entered (slice_get (member_list members) place) group terms) (λ x. Goes x store world)
member_enters types store world NoMembers place group terms e = no_member (all_values terms)
  where
    no_member : (values : Option (List Value)) →
        if_some values (enter_member types store world NoMembers place group) Stuck
        ≡ with_some (member_entered (slice_get (member_list NoMembers) place) group terms) (λ x. Goes x store world)
    no_member (Some vs) = refl
    no_member None = refl
member_enters types store world (MemberThen name parameters body type rest) zero group terms e =
    enters types store world parameters body group terms e
member_enters types store world (MemberThen name parameters body type rest) (suc place) group terms e =
    member_enters types store world rest place group terms e
