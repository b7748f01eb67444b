-- Lists that are elaborated element by element: those that are done, and what is made behind them.
use Rattle.std.proofs.Common.{◌≡◌, List, [], ◌∷◌, ◌++◌, refl, sym, ap, ◌∙◌, append_assoc, append-nil, Option, ℕ}
use Rattle.std.proofs.lemmas.List.{map-append}
use Rattle.grift_base.specs.declared.places.Pos.{Pos}
use Rattle.grift_base.specs.declared.refusals.RefusalKind.{RefusalKind}
use Rattle.surface_trees.specs.declared.names.Ident.{Ident}
use Rattle.grift_base.specs.Types.{UnitRow, BoolRow}
use Rattle.type_graph.specs.Forming.{intern}
use Rattle.core_calc.specs.Terms.{Term, NoTerms, TermThen, NoBindings, BindingThen, Binding, Members, Member, NoMembers}
use Rattle.core_calc.specs.Terms.{MemberThen}
use Rattle.surface_trees.specs.Trees.{TypeExpr, LambdaExpr, LetrecMembers, NoLetrecs, LetrecThen, Expr, Exprs, NoExprs}
use Rattle.surface_trees.specs.Trees.{ExprThen, LetBindings, NoLets, LetThen, IfNode}
use Rattle.cast_rules.specs.Sources.{place_of}
use Rattle.cast_rules.specs.Making.{Typed, form, fresh, cast_if, cast_to_row, written_if, Work, Made, Makes, Refuses}
use Rattle.cast_rules.specs.Making.{Making, then_make, ◌>>=◌, give}
use Rattle.cast_rules.specs.Environments.{plain, Environment, Meaning, Head, head_of, heads_of, names_of_heads}
use Rattle.cast_rules.specs.Environments.{with_names}
use Rattle.cast_rules.specs.Elaboration.{Sequence, Bound, MemberBody, elaborate, elaborate_node, elaborate_sequence}
use Rattle.cast_rules.specs.Elaboration.{elaborate_bindings, elaborate_member, elaborate_members}
use Rattle.insert_steps.specs.Gathered.{if_of}
use Rattle.cast_insert.specs.Bodies.{bound_value}
use Rattle.cast_insert.specs.declared.heads.Head.{Head as RustHead}
use Rattle.cast_insert.specs.Heads.{head_seen, heads_seen}
use Rattle.cast_rules.proofs.Public.{steps}
use Rattle.cast_insert.proofs.Bodies.{body_steps}
use Rattle.insert_steps.proofs.Public.{with_names_push}
use Rattle.insert_steps.specs.Onto.{terms_onto, bindings_onto, members_onto}

-- what was made, as something else
abbrev pub made_as : {A B : Type 0} → (A → B) → Made A → Made B
made_as f (Makes a work) = Makes (f a) work
made_as f (Refuses kind place last) = Refuses kind place last

pub made_as_twice : {A B C : Type 0} (f : B → C) (g : A → B) (made : Made A) →
    made_as f (then_make made (λ a work. Makes (g a) work)) ≡ made_as (λ a. f (g a)) made
unfolding then_make
made_as_twice f g (Makes a work) = refl
made_as_twice f g (Refuses kind place last) = refl

pub made_as_same : {A B : Type 0} (f g : A → B) (made : Made A) → ((a : A) → f a ≡ g a) →
    made_as f made ≡ made_as g made
made_as_same f g (Makes a work) same = ap (λ b. Makes b work) (same a)
made_as_same f g (Refuses kind place last) same = refl

-- ---- heads

abbrev pub heads_behind : List Head → Made (List Head) → Made (List Head)
heads_behind done made = made_as (λ others. done ++ others) made

pub heads_more : (done : List RustHead) (head : RustHead) (name : Ident) (own : Option TypeExpr) (lambda : LambdaExpr)
    (rest : LetrecMembers) (work next : Work) (whole : Made (List Head)) →
    head_of name own lambda work ≡ Makes (head_seen head) next →
    heads_behind (heads_seen done) (heads_of (LetrecThen name own lambda rest) work) ≡ whole →
    heads_behind (heads_seen (done ++ head ∷ [])) (heads_of rest next) ≡ whole
unfolding then_make
heads_more done head name own lambda rest work next whole e so_far =
    made_as_same (λ others. heads_seen (done ++ head ∷ []) ++ others)
    (λ others. heads_seen done ++ head_seen head ∷ others) (heads_of rest next)
    (λ others. ap (λ xs. xs ++ others) (map-append head_seen done (head ∷ []))
    ∙ append_assoc (heads_seen done) (head_seen head ∷ []) others)
    ∙ sym (made_as_twice (λ others. heads_seen done ++ others) (λ others. head_seen head ∷ others) (heads_of rest next))
    ∙ sym (ap (λ m. heads_behind (heads_seen done) (then_make m (λ h work. then_make (heads_of rest work)
    (λ others work. Makes (h ∷ others) work)))) e)
    ∙ so_far

pub heads_refused : (done : List Head) (name : Ident) (own : Option TypeExpr) (lambda : LambdaExpr)
    (rest : LetrecMembers) (work : Work) (whole : Made (List Head)) (kind : RefusalKind) (place : Pos) (last : Work) →
    head_of name own lambda work ≡ Refuses kind place last →
    heads_behind done (heads_of (LetrecThen name own lambda rest) work) ≡ whole → whole ≡ Refuses kind place last
unfolding then_make
heads_refused done name own lambda rest work whole kind place last e so_far =
    sym so_far ∙ ap (λ m. heads_behind done (then_make m (λ h work. then_make (heads_of rest work)
    (λ others work. Makes (h ∷ others) work)))) e

pub heads_done : (done : List Head) (work : Work) (whole : Made (List Head)) →
    heads_behind done (heads_of NoLetrecs work) ≡ whole → whole ≡ Makes done work
heads_done done work whole so_far = sym so_far ∙ ap (λ xs. Makes xs work) (append-nil done)

-- the names of the heads stand in front
pub head_named : (done : List RustHead) (head : RustHead) (environment now next : Environment) →
    now ≡ with_names (names_of_heads (heads_seen done)) environment →
    next ≡ ((head_seen head).name, (head_seen head).meaning) ∷ now →
    next ≡ with_names (names_of_heads (heads_seen (done ++ head ∷ []))) environment
head_named done head environment now next so_far e =
    let entry : Ident × Meaning = ((head_seen head).name, (head_seen head).meaning) in
    e ∙ ap (λ env. entry ∷ env) so_far
    ∙ sym (with_names_push (names_of_heads (heads_seen done)) entry environment)
    ∙ ap (λ xs. with_names xs environment)
    (sym (map-append (λ (h : Head). (h.name, h.meaning)) (heads_seen done) (head_seen head ∷ [])))
    ∙ ap (λ xs. with_names (names_of_heads xs) environment) (sym (map-append head_seen done (head ∷ [])))

pub ruleset head_steps = (steps, heads_refused, heads_done, heads_more, head_named)

-- ---- sequences

abbrev pub sequence_onto : List Term → Sequence → Sequence
sequence_onto done sequence = record { terms = terms_onto done sequence.terms; type = sequence.type }

abbrev pub sequence_behind : List Term → Made Sequence → Made Sequence
sequence_behind done made = made_as (sequence_onto done) made

pub sequence_more : (done : List Term) (e : Typed) (first second : Expr) (rest : Exprs) (environment : Environment)
    (work next : Work) (whole : Made Sequence) → elaborate first environment work ≡ Makes e next →
    sequence_behind done (elaborate_sequence (ExprThen first (ExprThen second rest)) environment work) ≡ whole →
    sequence_behind (e.term ∷ done) (elaborate_sequence (ExprThen second rest) environment next) ≡ whole
unfolding then_make
sequence_more done e first second rest environment work next whole made so_far =
    sym (made_as_twice (sequence_onto done)
    (λ (others : Sequence). record { terms = TermThen e.term others.terms; type = others.type })
    (elaborate_sequence (ExprThen second rest) environment next))
    ∙ sym (ap (λ m. sequence_behind done (then_make m (λ (e : Typed) work.
    then_make (elaborate_sequence (ExprThen second rest) environment work) (λ others work.
    Makes (record { terms = TermThen e.term others.terms; type = others.type }) work)))) made)
    ∙ so_far

pub sequence_last : (done : List Term) (e : Typed) (first : Expr) (environment : Environment) (work next : Work)
    (whole : Made Sequence) → elaborate first environment work ≡ Makes e next →
    sequence_behind done (elaborate_sequence (ExprThen first NoExprs) environment work) ≡ whole →
    whole ≡ Makes (record { terms = terms_onto (e.term ∷ done) NoTerms; type = e.type }) next
unfolding then_make
sequence_last done e first environment work next whole made so_far =
    sym so_far ∙ ap (λ m. sequence_behind done (then_make m (λ (e : Typed) work.
    Makes (record { terms = TermThen e.term NoTerms; type = e.type }) work))) made

pub sequence_refused : (done : List Term) (first : Expr) (rest : Exprs) (environment : Environment) (work : Work)
    (whole : Made Sequence) (kind : RefusalKind) (place : Pos) (last : Work) →
    elaborate first environment work ≡ Refuses kind place last →
    sequence_behind done (elaborate_sequence (ExprThen first rest) environment work) ≡ whole →
    whole ≡ Refuses kind place last
unfolding then_make
sequence_refused done first NoExprs environment work whole kind place last made so_far =
    sym so_far ∙ ap (λ m. sequence_behind done (then_make m (λ (e : Typed) work.
    Makes (record { terms = TermThen e.term NoTerms; type = e.type }) work))) made
sequence_refused done first (ExprThen second rest) environment work whole kind place last made so_far =
    sym so_far ∙ ap (λ m. sequence_behind done (then_make m (λ (e : Typed) work.
    then_make (elaborate_sequence (ExprThen second rest) environment work) (λ others work.
    Makes (record { terms = TermThen e.term others.terms; type = others.type }) work)))) made

pub sequence_none : (done : List Term) (environment : Environment) (type : ℕ) (work next : Work)
    (whole : Made Sequence) → form (intern UnitRow) work ≡ Makes type next →
    sequence_behind done (elaborate_sequence NoExprs environment work) ≡ whole →
    whole ≡ Makes (record { terms = terms_onto done NoTerms; type = type }) next
unfolding then_make
sequence_none done environment type work next whole made so_far =
    sym so_far ∙ ap (λ m. sequence_behind done (then_make m (λ type work.
    Makes (record { terms = NoTerms; type = type }) work))) made

-- ---- bindings

abbrev pub bound_onto : List Binding → Environment → Bound → Bound
bound_onto done names bound = record { bindings = bindings_onto done bound.bindings; entries = names ++ bound.entries }

abbrev pub bound_behind : List Binding → Environment → Made Bound → Made Bound
bound_behind done names made = made_as (bound_onto done names) made

-- a binding, and those behind it
abbrev pub bound_then : Ident → Expr → ℕ → Typed → Bound → Bound
bound_then name value variable bound others = record {
  bindings = BindingThen variable bound.term others.bindings;
  entries = (name, plain (place_of value) variable bound.type) ∷ others.entries;
}

-- what is left of bindings when the first has its value, and when it has its variable
abbrev bindings_from : Ident → Expr → LetBindings → Environment → Typed → Making Bound
bindings_from name value rest environment bound = do
  variable ← fresh
  others ← elaborate_bindings rest environment
  give (bound_then name value variable bound others)

abbrev bindings_named : Ident → Expr → LetBindings → Environment → Typed → ℕ → Making Bound
bindings_named name value rest environment bound variable = do
  others ← elaborate_bindings rest environment
  give (bound_then name value variable bound others)

-- steps one after another, of which the first two are one, or the first three
two_in_turn : {A B C : Type 0} (made : Made A) (second : A → Making B) (third : B → Making C) →
    then_make made (λ a work. then_make (second a work) third) ≡ then_make (then_make made second) third
unfolding then_make
two_in_turn (Makes a work) second third = refl
two_in_turn (Refuses kind place last) second third = refl

three_in_turn : {A B C D : Type 0} (made : Made A) (second : A → Making B) (third : A → B → Making C)
    (fourth : C → Making D) →
    then_make made (λ a work. then_make (second a work) (λ b work. then_make (third a b work) fourth))
    ≡ then_make (then_make made (λ a work. then_make (second a work) (third a))) fourth
unfolding then_make
three_in_turn (Makes a work) second third fourth = two_in_turn (second a work) (third a) fourth
three_in_turn (Refuses kind place last) second third fourth = refl

-- bindings are the value of the first, and what is left then
bindings_first : (name : Ident) (own : Option TypeExpr) (value : Expr) (rest : LetBindings)
    (environment : Environment) (work : Work) →
    elaborate_bindings (LetThen name own value rest) environment work
    ≡ then_make (bound_value own value environment work) (bindings_from name value rest environment)
bindings_first name own value rest environment work =
    three_in_turn (elaborate value environment work) (λ e. written_if own)
    (λ e wanted. cast_if (place_of value) wanted e) (bindings_from name value rest environment)

pub bindings_more : (done : List Binding) (names : Environment) (name : Ident) (own : Option TypeExpr) (value : Expr)
    (rest : LetBindings) (environment : Environment) (bound : Typed) (variable : ℕ) (w0 w1 w2 : Work)
    (whole : Made Bound) → bound_value own value environment w0 ≡ Makes bound w1 → fresh w1 ≡ Makes variable w2 →
    bound_behind done names (elaborate_bindings (LetThen name own value rest) environment w0) ≡ whole →
    bound_behind (record { name = variable; bound = bound.term } ∷ done)
    (names ++ (name, plain (place_of value) variable bound.type) ∷ []) (elaborate_bindings rest environment w2) ≡ whole
unfolding then_make
bindings_more done names name own value rest environment bound variable w0 w1 w2 whole a b so_far =
    let entry : Ident × Meaning = (name, plain (place_of value) variable bound.type) in
    made_as_same (bound_onto (record { name = variable; bound = bound.term } ∷ done) (names ++ entry ∷ []))
    (λ others. bound_onto done names (bound_then name value variable bound others))
    (elaborate_bindings rest environment w2)
    (λ others. ap (λ entries. record {
      bindings = bindings_onto done (BindingThen variable bound.term others.bindings);
      entries = entries;
    }) (append_assoc names (entry ∷ []) others.entries))
    ∙ sym (made_as_twice (bound_onto done names) (bound_then name value variable bound)
    (elaborate_bindings rest environment w2))
    ∙ sym (ap (bound_behind done names) (bindings_first name own value rest environment w0
    ∙ ap (λ m. then_make m (bindings_from name value rest environment)) a
    ∙ ap (λ m. then_make m (bindings_named name value rest environment bound)) b))
    ∙ so_far

pub bindings_refused : (done : List Binding) (names : Environment) (name : Ident) (own : Option TypeExpr)
    (value : Expr) (rest : LetBindings) (environment : Environment) (work : Work) (whole : Made Bound)
    (kind : RefusalKind) (place : Pos) (last : Work) →
    bound_value own value environment work ≡ Refuses kind place last →
    bound_behind done names (elaborate_bindings (LetThen name own value rest) environment work) ≡ whole →
    whole ≡ Refuses kind place last
unfolding then_make
bindings_refused done names name own value rest environment work whole kind place last a so_far =
    sym so_far ∙ ap (bound_behind done names) (bindings_first name own value rest environment work
    ∙ ap (λ m. then_make m (bindings_from name value rest environment)) a)

pub bindings_done : (done : List Binding) (names : Environment) (environment : Environment) (work : Work)
    (whole : Made Bound) → bound_behind done names (elaborate_bindings NoLets environment work) ≡ whole →
    whole ≡ Makes (record { bindings = bindings_onto done NoBindings; entries = names }) work
bindings_done done names environment work whole so_far =
    sym so_far ∙ ap (λ entries. Makes (record { bindings = bindings_onto done NoBindings; entries = entries }) work)
    (append-nil names)

-- ---- members

abbrev pub members_behind : List Member → Made Members → Made Members
members_behind done made = made_as (members_onto done) made

pub members_refused : (done : List Member) (name : Ident) (own : Option TypeExpr) (lambda : LambdaExpr)
    (rest : LetrecMembers) (head : Head) (heads : List Head) (environment : Environment) (work : Work)
    (whole : Made Members) (kind : RefusalKind) (place : Pos) (last : Work) →
    elaborate_member lambda head environment work ≡ Refuses kind place last →
    members_behind done (elaborate_members (LetrecThen name own lambda rest) (head ∷ heads) environment work) ≡ whole →
    whole ≡ Refuses kind place last
unfolding then_make
members_refused done name own lambda rest head heads environment work whole kind place last made so_far =
    sym so_far ∙ ap (λ m. members_behind done (then_make m (λ (member : MemberBody) work.
    then_make (elaborate_members rest heads environment work) (λ others work.
    Makes (MemberThen head.meaning.variable member.variables member.body head.meaning.type others) work)))) made

pub members_done : (done : List Member) (members : LetrecMembers) (environment : Environment) (work : Work)
    (whole : Made Members) → members_behind done (elaborate_members members [] environment work) ≡ whole →
    whole ≡ Makes (members_onto done NoMembers) work
members_done done NoLetrecs environment work whole so_far = sym so_far
members_done done (LetrecThen name own lambda rest) environment work whole so_far = sym so_far

pub members_none : (done : List Member) (heads : List Head) (environment : Environment) (work : Work)
    (whole : Made Members) → members_behind done (elaborate_members NoLetrecs heads environment work) ≡ whole →
    whole ≡ Makes (members_onto done NoMembers) work
members_none done [] environment work whole so_far = sym so_far
members_none done (head ∷ heads) environment work whole so_far = sym so_far

pub ruleset loop_steps = (
  steps,
  body_steps,
  sequence_refused,
  sequence_last,
  sequence_none,
  bindings_refused,
  bindings_done,
  members_refused,
  members_done,
  members_none,
)

-- ---- an `if`

-- what is left of an `if` when its condition is there, when that is cast, and when its first branch is there
abbrev if_from : Expr → Expr → Expr → Pos → Environment → Typed → Making Typed
if_from condition on_true on_false place environment test = do
  truth ← cast_to_row (place_of condition) BoolRow test
  first ← elaborate on_true environment
  second ← elaborate on_false environment
  if_of place truth (place_of on_true) first (place_of on_false) second

abbrev if_tested : Expr → Expr → Pos → Environment → Typed → Making Typed
if_tested on_true on_false place environment truth = do
  first ← elaborate on_true environment
  second ← elaborate on_false environment
  if_of place truth (place_of on_true) first (place_of on_false) second

abbrev if_begun : Expr → Expr → Pos → Environment → Typed → Typed → Making Typed
if_begun on_true on_false place environment truth first = do
  second ← elaborate on_false environment
  if_of place truth (place_of on_true) first (place_of on_false) second

-- an `if` whose condition is there and cast
if_branches : (condition on_true on_false : Expr) (place : Pos) (environment : Environment) (test truth : Typed)
    (w0 w1 w2 : Work) → elaborate condition environment w0 ≡ Makes test w1 →
    cast_to_row (place_of condition) BoolRow test w1 ≡ Makes truth w2 →
    elaborate_node (IfNode condition on_true on_false) place environment w0
    ≡ if_tested on_true on_false place environment truth w2
unfolding then_make
if_branches condition on_true on_false place environment test truth w0 w1 w2 a b =
    ap (λ m. then_make m (if_from condition on_true on_false place environment)) a
    ∙ ap (λ m. then_make m (if_tested on_true on_false place environment)) b

pub if_first : (condition on_true on_false : Expr) (place : Pos) (environment : Environment)
    (test truth : Typed) (w0 w1 w2 : Work) (kind : RefusalKind) (at : Pos) (last : Work) →
    elaborate condition environment w0 ≡ Makes test w1 →
    cast_to_row (place_of condition) BoolRow test w1 ≡ Makes truth w2 →
    elaborate on_true environment w2 ≡ Refuses kind at last →
    elaborate_node (IfNode condition on_true on_false) place environment w0 ≡ Refuses kind at last
unfolding then_make
if_first condition on_true on_false place environment test truth w0 w1 w2 kind at last a b c =
    if_branches condition on_true on_false place environment test truth w0 w1 w2 a b
    ∙ ap (λ m. then_make m (if_begun on_true on_false place environment truth)) c

-- the same where the first branch is there too
if_branch : (condition on_true on_false : Expr) (place : Pos) (environment : Environment) (test truth first : Typed)
    (w0 w1 w2 w3 : Work) → elaborate condition environment w0 ≡ Makes test w1 →
    cast_to_row (place_of condition) BoolRow test w1 ≡ Makes truth w2 →
    elaborate on_true environment w2 ≡ Makes first w3 →
    elaborate_node (IfNode condition on_true on_false) place environment w0
    ≡ if_begun on_true on_false place environment truth first w3
unfolding then_make
if_branch condition on_true on_false place environment test truth first w0 w1 w2 w3 a b c =
    if_branches condition on_true on_false place environment test truth w0 w1 w2 a b
    ∙ ap (λ m. then_make m (if_begun on_true on_false place environment truth)) c

pub if_second : (condition on_true on_false : Expr) (place : Pos) (environment : Environment)
    (test truth first : Typed) (w0 w1 w2 w3 : Work) (kind : RefusalKind) (at : Pos) (last : Work) →
    elaborate condition environment w0 ≡ Makes test w1 →
    cast_to_row (place_of condition) BoolRow test w1 ≡ Makes truth w2 →
    elaborate on_true environment w2 ≡ Makes first w3 → elaborate on_false environment w3 ≡ Refuses kind at last →
    elaborate_node (IfNode condition on_true on_false) place environment w0 ≡ Refuses kind at last
unfolding then_make
if_second condition on_true on_false place environment test truth first w0 w1 w2 w3 kind at last a b c d =
    if_branch condition on_true on_false place environment test truth first w0 w1 w2 w3 a b c
    ∙ ap (λ m. then_make m (if_of place truth (place_of on_true) first (place_of on_false))) d

pub if_joined : (condition on_true on_false : Expr) (place : Pos) (environment : Environment)
    (test truth first second : Typed) (w0 w1 w2 w3 w4 : Work) → elaborate condition environment w0 ≡ Makes test w1 →
    cast_to_row (place_of condition) BoolRow test w1 ≡ Makes truth w2 →
    elaborate on_true environment w2 ≡ Makes first w3 → elaborate on_false environment w3 ≡ Makes second w4 →
    elaborate_node (IfNode condition on_true on_false) place environment w0
    ≡ if_of place truth (place_of on_true) first (place_of on_false) second w4
unfolding then_make
if_joined condition on_true on_false place environment test truth first second w0 w1 w2 w3 w4 a b c d =
    if_branch condition on_true on_false place environment test truth first w0 w1 w2 w3 a b c
    ∙ ap (λ m. then_make m (if_of place truth (place_of on_true) first (place_of on_false))) d
