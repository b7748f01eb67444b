-- Lists that are gathered with the last one first: terms, bindings and members.
use Rattle.std.proofs.Common.{◌≡◌, List, [], ◌∷◌, ◌++◌, refl, sym, ap, ◌∙◌}
use Rattle.std.specs.Prelude.{reverse}
use Rattle.std.proofs.lemmas.List.{reverse-append}
use Rattle.core_calc.specs.Terms.{Terms, NoTerms, TermThen, term_list, Bindings, NoBindings, BindingThen, Binding}
use Rattle.core_calc.specs.Terms.{binding_list, Members, NoMembers, MemberThen, Member, member_list}
use Rattle.insert_steps.specs.Onto.{terms_onto, bindings_onto, members_onto}

-- ---- lists of any elements, by what puts an element in front

abbrev in_front : {A L : Type 0} → (A → L → L) → List A → L → L
in_front put [] rest = rest
in_front put (x ∷ xs) rest = put x (in_front put xs rest)

front_append : {A L : Type 0} (put : A → L → L) (xs ys : List A) (rest : L) →
    in_front put (xs ++ ys) rest ≡ in_front put xs (in_front put ys rest)
front_append put [] ys rest = refl
front_append put (x ∷ xs) ys rest = ap (put x) (front_append put xs ys rest)

-- elements are put in front of a list one after another
abbrev Gathers : {A L : Type 0} → (A → L → L) → (List A → L → L) → Type 0
Gathers {A} {L} put onto =
    ((rest : L) → onto [] rest ≡ rest) × ((x : A) (xs : List A) (rest : L) → onto (x ∷ xs) rest ≡ onto xs (put x rest))

-- so they stand there turned round
gathered_turned : {A L : Type 0} (put : A → L → L) (onto : List A → L → L) → Gathers put onto → (xs : List A)
    (rest : L) → onto xs rest ≡ in_front put (reverse xs) rest
gathered_turned put onto h [] rest = h.0 rest
gathered_turned put onto h (x ∷ xs) rest =
    h.1 x xs rest
    ∙ gathered_turned put onto h xs (put x rest)
    ∙ sym (front_append put (reverse xs) (x ∷ []) rest)
    ∙ ap (λ ys. in_front put ys rest) (sym (reverse-append (x ∷ []) xs))

-- the list with these elements turned round is what is gathered of them
turned_gathered : {A L : Type 0} (put : A → L → L) (onto : List A → L → L) (none : L) (list : L → List A) →
    ((all : L) → in_front put (list all) none ≡ all) → Gathers put onto → (all turned : L) →
    list turned ≡ reverse (list all) → turned ≡ onto (list all) none
turned_gathered put onto none list again h all turned e =
    sym (again turned) ∙ ap (λ xs. in_front put xs none) e ∙ sym (gathered_turned put onto h (list all) none)

-- ---- terms

terms_again : (terms : Terms) → in_front TermThen (term_list terms) NoTerms ≡ terms
terms_again NoTerms = refl
terms_again (TermThen term rest) = ap (TermThen term) (terms_again rest)

pub turned_onto : (terms turned : Terms) → term_list turned ≡ reverse (term_list terms) →
    turned ≡ terms_onto (term_list terms) NoTerms
turned_onto = turned_gathered TermThen terms_onto NoTerms term_list terms_again (λ rest. refl, λ x xs rest. refl)

-- ---- bindings

abbrev bind : Binding → Bindings → Bindings
bind one rest = BindingThen one.name one.bound rest

bindings_again : (bindings : Bindings) → in_front bind (binding_list bindings) NoBindings ≡ bindings
bindings_again NoBindings = refl
bindings_again (BindingThen name bound rest) = ap (BindingThen name bound) (bindings_again rest)

pub bindings_turned : (bindings turned : Bindings) → binding_list turned ≡ reverse (binding_list bindings) →
    turned ≡ bindings_onto (binding_list bindings) NoBindings
bindings_turned =
    turned_gathered bind bindings_onto NoBindings binding_list bindings_again (λ rest. refl, λ x xs rest. refl)

-- ---- members

abbrev join : Member → Members → Members
join one rest = MemberThen one.name one.parameters one.body one.type rest

members_again : (members : Members) → in_front join (member_list members) NoMembers ≡ members
members_again NoMembers = refl
members_again (MemberThen name parameters body type rest) =
    ap (MemberThen name parameters body type) (members_again rest)

pub members_turned : (members turned : Members) → member_list turned ≡ reverse (member_list members) →
    turned ≡ members_onto (member_list members) NoMembers
members_turned =
    turned_gathered join members_onto NoMembers member_list members_again (λ rest. refl, λ x xs rest. refl)
