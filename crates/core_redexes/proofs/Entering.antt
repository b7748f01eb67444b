-- Entering a function.
use Rattle.std.proofs.Common.{◌≡◌, ℕ, Bool, cond, List, [], ◌∷◌, ◌++◌, map, Option, Some, None, refl, ap, ◌∙◌, sym}
use Rattle.std.specs.Prelude.{true, false, is_some, option_map}
use Rattle.grift_base.specs.World.{WorldState}
use Rattle.grift_base.specs.Types.{TypeRow, IntRow, BoolRow, UnitRow, DynRow, FunRow, TupleRow, RefRow}
use Rattle.grift_base.specs.Types.{VectRow, TypeRows, row_at}
use Rattle.core_calc.specs.Terms.{Term, Terms, Value, IntValue, BoolValue, UnitValue, FunValue, MemberValue}
use Rattle.core_calc.specs.Terms.{TupleValue, LocValue, WrapValue, InjectValue, NoTerms, TermThen, Cast, Enter}
use Rattle.core_calc.specs.Terms.{ValueTerm, all_values, as_value}
use Rattle.core_calc.specs.declared.terms.VarId.{VarId}
use Rattle.core_calc.specs.Views.{names_of}
use Rattle.core_calc.specs.Substitution.{Substitution, group_values, substitute}
use Rattle.core_calc.specs.Outcome.{Store, Goes, Stuck, if_some, with_some}
use Rattle.core_calc.specs.Calls.{enter_step, enter_wrapped, cast_arguments}
use Rattle.core_calc.proofs.Public.{some_is_not_none}
use Rattle.core_redexes.specs.Entered.{entered, with_arguments}
use Rattle.core_redexes.specs.Moves.{after}
use Rattle.core_redexes.specs.Redexes.{enter_redex}
use Rattle.core_redexes.specs.declared.moves.Moved.TheVariants.{Goes as GoesOn, Stuck as IsStuck}
use Rattle.core_redexes.specs.Taken.{as_many, casts, taken_arguments, wrapped_casts}
use Rattle.core_redexes.specs.Values.{wrapped_of, wrapper_in}
use Rattle.core_redexes.proofs.Projecting.{seen_through}
use Rattle.core_redexes.proofs.Taking.{enters, member_enters}

no_function : (store : Store) (world : WorldState) (values : Option (List Value)) →
    if_some {B = Term} values (λ vs. Stuck) Stuck ≡ Stuck
no_function store world (Some vs) = refl
no_function store world None = refl

pub enter_is : (types : TypeRows) (store : Store) (world : WorldState) (function : Option Value) (terms : Terms) →
    wrapper_in function ≡ None → is_some (all_values terms) ≡ true →
    with_some function (λ v. enter_step types store world v terms Stuck)
    ≡ with_some (entered function terms) (λ x. Goes x store world)
enter_is types store world None terms w e = refl
enter_is types store world (Some (IntValue n)) terms w e = no_function store world (all_values terms)
enter_is types store world (Some (BoolValue b)) terms w e = no_function store world (all_values terms)
enter_is types store world (Some UnitValue) terms w e = no_function store world (all_values terms)
enter_is types store world (Some (FunValue parameters body type)) terms w e =
    enters types store world parameters body [] terms e
enter_is types store world (Some (MemberValue members place)) terms w e =
    member_enters types store world members place (group_values members) terms e
enter_is types store world (Some (TupleValue parts)) terms w e = no_function store world (all_values terms)
enter_is types store world (Some (LocValue cell is_vector)) terms w e = no_function store world (all_values terms)
enter_is types store world (Some (WrapValue v from label to)) terms w e = absurd (some_is_not_none (from, label, to) w)
enter_is types store world (Some (InjectValue v kept)) terms w e = no_function store world (all_values terms)

-- so an Enter goes on with the body that is entered
pub entered_becomes : (types : TypeRows) (store : Store) (world : WorldState) (whole function : Term)
    (arguments : Terms) (next : Term) → whole ≡ Enter function arguments → wrapper_in (as_value function) ≡ None →
    is_some (all_values arguments) ≡ true → entered (as_value function) arguments ≡ Some next →
    after (enter_redex types store world whole) whole store world
    ≡ record { moved = GoesOn; item = next; store = store; world = world }
entered_becomes types store world whole function arguments next e f g h =
    ap (λ x. after (enter_redex types store world x) x store world) e
    ∙ ap (λ o. after o (Enter function arguments) store world)
    (enter_is types store world (as_value function) arguments f g ∙ ap (λ o. with_some o (λ x. Goes x store world)) h)

-- and has no step where there is none
pub not_entered : (types : TypeRows) (store : Store) (world : WorldState) (whole function : Term)
    (arguments : Terms) (left : Term) → whole ≡ Enter function arguments → wrapper_in (as_value function) ≡ None →
    is_some (all_values arguments) ≡ true → entered (as_value function) arguments ≡ None → left ≡ function →
    after (enter_redex types store world whole) whole store world
    ≡ record { moved = IsStuck; item = Enter left arguments; store = store; world = world }
not_entered types store world whole function arguments left e f g h k =
    ap (λ x. after (enter_redex types store world x) x store world) e
    ∙ ap (λ o. after o (Enter function arguments) store world)
    (enter_is types store world (as_value function) arguments f g ∙ ap (λ o. with_some o (λ x. Goes x store world)) h)
    ∙ ap (λ x. after {A = Term} Stuck (Enter x arguments) store world) (sym k)

true_is_not_false : true ≡ false → ⊥
true_is_not_false e = cc

false_is_not_true : false ≡ true → ⊥
false_is_not_true e = cc

-- what says whether there are as many items as terms says it of what stands for the items too
pub as_many_mapped : {A B : Type 0} (f : A → B) (items given : List A) (terms : Terms) (said b : Bool) →
    given ≡ items → said ≡ as_many given terms → said ≡ b → as_many (map f items) terms ≡ b
as_many_mapped f items given terms said b same e h =
    as_many_map f items terms ∙ ap (λ xs. as_many xs terms) (sym same) ∙ sym e ∙ h
  where
    as_many_map : {A B : Type 0} (f : A → B) (items : List A) (terms : Terms) →
        as_many (map f items) terms ≡ as_many items terms
    as_many_map f [] NoTerms = refl
    as_many_map f [] (TermThen term rest) = refl
    as_many_map f (item ∷ items) NoTerms = refl
    as_many_map f (item ∷ items) (TermThen term rest) = as_many_map f items rest

-- what is said of parameters and arguments decides whether a body takes them
pub arguments_fit : (names : List VarId) (body : Term) (group : Substitution) (terms : Terms) (said b : Bool) →
    said ≡ as_many names terms → said ≡ b → with_arguments (names_of names) body group terms
    ≡ cond b (Some (substitute body (taken_arguments (names_of names) terms ++ group))) None
arguments_fit names body group terms said b e h =
    ap (λ c. cond c (Some (substitute body (taken_arguments (names_of names) terms ++ group))) None)
    (as_many_mapped (λ (name : VarId). name.0) names names terms said b refl e h)

-- ---- a function that is seen through a cast

-- with as many types of both kinds as arguments, each argument is put in its cast
pub casts_are : (terms : Terms) (froms tos : List ℕ) (label : ℕ) → as_many froms terms ≡ true →
    as_many tos terms ≡ true → cast_arguments terms froms tos label ≡ Some (casts terms froms tos label)
casts_are NoTerms [] [] label e f = refl
casts_are NoTerms (from ∷ froms) tos label e f = absurd (false_is_not_true e)
casts_are NoTerms [] (to ∷ tos) label e f = absurd (false_is_not_true f)
casts_are (TermThen term rest) [] tos label e f = absurd (false_is_not_true e)
casts_are (TermThen term rest) (from ∷ froms) [] label e f = absurd (false_is_not_true f)
casts_are (TermThen term rest) (from ∷ froms) (to ∷ tos) label e f =
    ap (option_map (TermThen (Cast term from to label))) (casts_are rest froms tos label e f)

-- with another number of either there are no casts
pub no_casts : (terms : Terms) (froms tos : List ℕ) (label : ℕ) → as_many froms terms ≡ false →
    cast_arguments terms froms tos label ≡ None
no_casts NoTerms [] tos label e = absurd (true_is_not_false e)
no_casts NoTerms (from ∷ froms) tos label e = refl
no_casts (TermThen term rest) [] tos label e = refl
no_casts (TermThen term rest) (from ∷ froms) [] label e = refl
no_casts (TermThen term rest) (from ∷ froms) (to ∷ tos) label e =
    ap (option_map (TermThen (Cast term from to label))) (no_casts rest froms tos label e)

pub no_casts_to : (terms : Terms) (froms tos : List ℕ) (label : ℕ) → as_many tos terms ≡ false →
    cast_arguments terms froms tos label ≡ None
no_casts_to NoTerms [] [] label e = absurd (true_is_not_false e)
no_casts_to NoTerms [] (to ∷ tos) label e = refl
no_casts_to NoTerms (from ∷ froms) tos label e = refl
no_casts_to (TermThen term rest) [] tos label e = refl
no_casts_to (TermThen term rest) (from ∷ froms) [] label e = refl
no_casts_to (TermThen term rest) (from ∷ froms) (to ∷ tos) label e =
    ap (option_map (TermThen (Cast term from to label))) (no_casts_to rest froms tos label e)

-- the call of what is wrapped, with arguments and answer in casts
abbrev pub wrapped_call : Value → ℕ → Terms × ℕ × ℕ → Term
wrapped_call v label made = Cast (Enter (ValueTerm v) made.0) made.1 made.2 label

casts_enter : (store : Store) (world : WorldState) (v : Value) (label answer wanted : ℕ) (casts : Option Terms) →
    with_some casts (λ c. Goes (Cast (Enter (ValueTerm v) c) answer wanted label) store world)
    ≡ with_some (option_map (λ c. (c, answer, wanted)) casts) (λ made. Goes (wrapped_call v label made) store world)
casts_enter store world v label answer wanted (Some c) = refl
casts_enter store world v label answer wanted None = refl

rows_enter : (types : TypeRows) (store : Store) (world : WorldState) (v : Value) (arguments : Terms) (label : ℕ)
    (o p : Option TypeRow) →
    with_some o (λ row. with_some p (λ other. enter_wrapped types store world row other v arguments label))
    ≡ with_some (wrapped_casts o p arguments label) (λ made. Goes (wrapped_call v label made) store world)
rows_enter types store world v arguments label None p = refl
rows_enter types store world v arguments label (Some (FunRow parameters answer)) (Some (FunRow others wanted)) =
    casts_enter store world v label answer wanted (cast_arguments arguments others parameters label)
rows_enter types store world v arguments label (Some IntRow) None = refl
rows_enter types store world v arguments label (Some BoolRow) None = refl
rows_enter types store world v arguments label (Some UnitRow) None = refl
rows_enter types store world v arguments label (Some DynRow) None = refl
rows_enter types store world v arguments label (Some (FunRow parameters answer)) None = refl
rows_enter types store world v arguments label (Some (TupleRow parts)) None = refl
rows_enter types store world v arguments label (Some (RefRow content)) None = refl
rows_enter types store world v arguments label (Some (VectRow content)) None = refl
rows_enter types store world v arguments label (Some row) (Some other) = refl

pub wrapped_is : (types : TypeRows) (store : Store) (world : WorldState) (v : Value) (from to : ℕ)
    (arguments : Terms) (label : ℕ) →
    enter_step types store world (WrapValue v from label to) arguments Stuck
    ≡ with_some (wrapped_casts (row_at types from) (row_at types to) arguments label)
    (λ made. Goes (wrapped_call v label made) store world)
wrapped_is types store world v from to arguments label =
    rows_enter types store world v arguments label (row_at types from) (row_at types to)

-- what is entered through a cast goes on with the call of what is in the cast
pub wrapped_becomes : (types : TypeRows) (store : Store) (world : WorldState) (whole function held next : Term)
    (arguments made : Terms) (from label to answer wanted : ℕ) → whole ≡ Enter function arguments →
    wrapper_in (as_value function) ≡ Some (from, label, to) →
    option_map ValueTerm (wrapped_of (as_value function)) ≡ Some held →
    wrapped_casts (row_at types from) (row_at types to) arguments label ≡ Some (made, answer, wanted) →
    next ≡ Enter held made → after (enter_redex types store world whole) whole store world
    ≡ record { moved = GoesOn; item = Cast next answer wanted label; store = store; world = world }
wrapped_becomes types store world whole function held next arguments made from label to answer wanted e f g h k =
    let seen = seen_through (as_value function) held from label to f g in
    ap (λ x. after (enter_redex types store world x) x store world) e
    ∙ ap (λ o. after o (Enter function arguments) store world)
    (ap (λ o. with_some o (λ v. enter_step types store world v arguments Stuck)) seen.1
    ∙ wrapped_is types store world seen.0 from to arguments label
    ∙ ap (λ o. with_some o (λ made. Goes (wrapped_call seen.0 label made) store world)) h)
    ∙ ap (λ x. after {A = Term} (Goes (Cast x answer wanted label) store world) (Enter function arguments) store world)
    (ap (λ v. Enter v made) seen.2 ∙ sym k)
