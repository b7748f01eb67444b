-- Lists that are read element by element: those that are done, and what is read behind them.
use Rattle.std.proofs.Common.{◌≡◌, ℕ, List, [], ◌∷◌, ◌++◌, refl, sym, ap, subst, ◌∙◌}
use Rattle.std.specs.Prelude.{Option, Result, Err, IsErrAnd}
use Rattle.std.specs.Global.{Box}
use Rattle.grift_base.specs.declared.refusals.FrontFault.{FrontFault}
use Rattle.grift_base.specs.declared.refusals.FrontFault.TheVariants.{Refused, OutOfMemory}
use Rattle.surface_trees.specs.declared.names.Ident.{Ident}
use Rattle.surface_trees.specs.declared.names.Ident.TheVariants.{Source}
use Rattle.surface_trees.specs.declared.exprs.Expr.{Expr as RustExpr}
use Rattle.form_table.specs.Marked.{Sexpr, Sexprs, ◌▹◌}
use Rattle.surface_trees.specs.Trees.{TypeExpr, Exprs, ExprThen, LetThen}
use Rattle.surface_trees.specs.Trees.{LetrecThen}
use Rattle.form_table.specs.Walking.{Walked, Reads, Refuses}
use Rattle.form_table.specs.Walk.{Bound}
use Rattle.form_table.specs.Pass.{Parsing, then_with, parse, parse_each, parse_binding, parse_lets, parse_member}
use Rattle.form_table.specs.Pass.{parse_letrecs}
use Rattle.surface_trees.specs.Views.{expr_of, source_of}
use Rattle.surface_trees.specs.Views.{name_of_binding, type_of_binding, value_of_binding, name_of_member}
use Rattle.surface_trees.specs.Views.{type_of_member, fun_of_member}
use Rattle.surface_syntax.specs.Parts.{exprs_before, lets_before, letrecs_before}
use Rattle.surface_syntax.specs.Parts.{in_box}
use Rattle.form_table.specs.Claims.{Parses}
use Rattle.form_table.proofs.Public.{stopped, went_out}
use Rattle.surface_syntax.proofs.FormRows.{stops}

-- an answer with another list
abbrev pub with_list : {A B : Type 0} → (A → B) → Walked (A × ℕ) → Walked (B × ℕ)
with_list f (Reads done) = Reads (f done.0, done.1)
with_list f (Refuses kind p) = Refuses kind p

with_list_twice : {A B C : Type 0} (f : B → C) (g : A → B) (w : Walked (A × ℕ))
    → with_list f (then_with w (λ a names. Reads (g a, names))) ≡ with_list (λ a. f (g a)) w
unfolding then_with
with_list_twice f g (Reads done) = refl
with_list_twice f g (Refuses kind p) = refl

with_same : {A B : Type 0} (f g : A → B) (w : Walked (A × ℕ)) → ((a : A) → f a ≡ g a) → with_list f w ≡ with_list g w
with_same f g (Reads done) h = ap (λ b. Reads (b, done.1)) (h done.0)
with_same f g (Refuses kind p) h = refl

-- what `put` puts in front one after another stands in front of the rest
pub record Before {R L : Type 0} (put : R → L → L) (before : List R → L → L) : Type 0 where
  pub none : (rest : L) → before [] rest ≡ rest
  pub more : (x : R) (xs : List R) (rest : L) → before (x ∷ xs) rest ≡ put x (before xs rest)

pushed : {R L : Type 0} (put : R → L → L) (before : List R → L → L) → Before put before → (xs : List R) (x : R)
    (rest : L) → before (xs ++ x ∷ []) rest ≡ before xs (put x rest)
pushed put before h [] x rest = h.more x [] rest ∙ ap (put x) (h.none rest) ∙ sym (h.none (put x rest))
pushed put before h (y ∷ xs) x rest =
    h.more y (xs ++ x ∷ []) rest ∙ ap (put y) (pushed put before h xs x rest) ∙ sym (h.more y xs (put x rest))

popped : {R L : Type 0} (put : R → L → L) (before : List R → L → L) → Before put before → (all xs : List R) (x : R)
    (rest : L) → all ≡ xs ++ x ∷ [] → before xs (put x rest) ≡ before all rest
popped put before h all xs x rest same = sym (ap (λ xs. before xs rest) same ∙ pushed put before h xs x rest)

pushed_behind : {R L : Type 0} (put : R → L → L) (before : List R → L → L) → Before put before → (xs : List R) (x : R)
    (w : Walked (L × ℕ)) → with_list (before (xs ++ x ∷ [])) w ≡ with_list (λ rest. before xs (put x rest)) w
pushed_behind put before h xs x (Reads done) = ap (λ list. Reads (list, done.1)) (pushed put before h xs x done.0)
pushed_behind put before h xs x (Refuses kind p) = refl

-- one more is read, and stands behind those that are done
one_more : {R L A : Type 0} (put : R → L → L) (before : List R → L → L) → Before put before → (xs : List R) (x : R)
    (first : Walked (A × ℕ)) (rest : A → Parsing L) (then : A → L → L) (a : A) (next : ℕ) (w : Walked (L × ℕ))
    → first ≡ Reads (a, next) → ((others : L) → put x others ≡ then a others)
    → with_list (before xs) (then_with first (λ a names. then_with (rest a names) (λ others names.
    Reads (then a others, names)))) ≡ w
    → with_list (before (xs ++ x ∷ [])) (rest a next) ≡ w
unfolding then_with
one_more put before h xs x first rest then a next w e same so_far =
    pushed_behind put before h xs x (rest a next)
    ∙ with_same (λ others. before xs (put x others)) (λ others. before xs (then a others)) (rest a next)
    (λ others. ap (before xs) (same others))
    ∙ sym (with_list_twice (before xs) (then a) (rest a next))
    ∙ sym (ap (λ m. with_list (before xs) (then_with m (λ a names. then_with (rest a names) (λ others names.
    Reads (then a others, names))))) e)
    ∙ so_far

-- where the first is refused, all are
stays : {L S : Type 0} (before : L → L) (wider : S → L) (names : ℕ) (fault : FrontFault) (w : Walked (L × ℕ))
    → Parses (stopped {R = S} fault) wider names w → Parses (stopped {R = S} fault) wider names (with_list before w)
stays before wider names (Refused refusal) w h = ap (with_list before) h
stays before wider names OutOfMemory w h = tt

loop_exit : {A L R S : Type 0} (before : L → L) (first : Walked (A × ℕ)) (next : A → Parsing L) (view : R → A)
    (wider : S → L) (names : ℕ) (fault : FrontFault) (given : Result R FrontFault) (result : Result S FrontFault)
    (w : Walked (L × ℕ))
    → given ≡ Err fault → IsErrAnd result (λ f. f ≡ fault) → Parses given view names first
    → with_list before (then_with first next) ≡ w → Parses result wider names w
loop_exit {S = S} before first next view wider names fault given result w e f h same =
    let stop : Parses (stopped {R = S} fault) wider names (then_with first next) =
    stops first next view wider names names fault (subst (λ g. Parses g view names first) e h) in
    let all : Parses (stopped {R = S} fault) wider names w =
    subst (λ w. Parses (stopped {R = S} fault) wider names w) same
    (stays before wider names fault (then_with first next) stop) in
    subst (λ r. Parses r wider names w) (sym (went_out result fault f)) all

-- ---- expressions

abbrev put_expr : Box RustExpr → Exprs → Exprs
put_expr e rest = ExprThen (expr_of e.value) rest

exprs_stand : Before put_expr exprs_before
exprs_stand = record { none = λ rest. refl; more = λ e es rest. refl }

pub exprs_pop : (all es : List (Box RustExpr)) (e : Box RustExpr) (rest : Exprs) → all ≡ es ++ e ∷ []
    → exprs_before es (ExprThen (expr_of e.value) rest) ≡ exprs_before all rest
exprs_pop all es e rest same = popped put_expr exprs_before exprs_stand all es e rest same

abbrev pub behind_exprs : List (Box RustExpr) → Walked (Exprs × ℕ) → Walked (Exprs × ℕ)
behind_exprs es w = with_list (exprs_before es) w

pub each_more : (es : List (Box RustExpr)) (e : Box RustExpr) (s : Sexpr) (rest : Sexprs) (names next : ℕ)
    (w : Walked (Exprs × ℕ))
    → parse s names ≡ Reads (expr_of e.value, next) → behind_exprs es (parse_each (s ▹ rest) names) ≡ w
    → behind_exprs (es ++ e ∷ []) (parse_each rest next) ≡ w
each_more es e s rest names next w h same =
    one_more put_expr exprs_before exprs_stand es e (parse s names) (λ expr. parse_each rest) ExprThen
    (expr_of e.value) next w h (λ others. refl) same

pub each_exit : {S : Type 0} (es : List (Box RustExpr)) (s : Sexpr) (rest : Sexprs) (names next : ℕ)
    (wider : S → Exprs) (fault : FrontFault) (given : Result (Box RustExpr) FrontFault) (result : Result S FrontFault)
    (w : Walked (Exprs × ℕ))
    → given ≡ Err fault → IsErrAnd result (λ f. f ≡ fault) → Parses given (in_box expr_of) next (parse s names)
    → behind_exprs es (parse_each (s ▹ rest) names) ≡ w → Parses result wider next w
each_exit es s rest names next wider fault given result w e f h same =
    loop_exit (exprs_before es) (parse s names) (λ expr names. then_with (parse_each rest names)
    (λ exprs names. Reads (ExprThen expr exprs, names)))
    (in_box expr_of) wider next fault given result w e f h same

-- ---- bindings and members, of which each binds a name in a scope

-- how they are read, and how they stand in front of one another
pub record BindsNames {R L A : Type 0} (make : Ident → Option TypeExpr → A → L → L) (name : R → Ident)
    (written : R → Option TypeExpr) (value : R → A) (before : List R → L → L)
    (read : List (List ℕ) → Sexpr → Parsing (Bound A)) (all : List (List ℕ) → Sexprs → Parsing L) : Type 0 where
  pub stand : Before (λ x. make (name x) (written x) (value x)) before
  pub first : (seen : List (List ℕ)) (s : Sexpr) (rest : Sexprs) (names : ℕ) → all seen (s ▹ rest) names
      ≡ then_with (read seen s names) (λ one names. then_with (all (seen ++ one.name ∷ []) rest names)
      (λ others names. Reads (make (Source one.name) one.written one.value others, names)))

pub lets_bind : BindsNames LetThen (in_box name_of_binding) (in_box type_of_binding) (in_box value_of_binding)
    lets_before parse_binding parse_lets
lets_bind = record {
  stand = record { none = λ rest. refl; more = λ b bs rest. refl };
  first = λ seen s rest names. refl;
}

pub letrecs_bind : BindsNames LetrecThen (in_box name_of_member) (in_box type_of_member) (in_box fun_of_member)
    letrecs_before parse_member parse_letrecs
letrecs_bind = record {
  stand = record { none = λ rest. refl; more = λ m ms rest. refl };
  first = λ seen s rest names. refl;
}

pub bound_pop : {R L A : Type 0} {make : Ident → Option TypeExpr → A → L → L} {name : R → Ident}
    {written : R → Option TypeExpr} {value : R → A} {before : List R → L → L}
    {read : List (List ℕ) → Sexpr → Parsing (Bound A)} {all : List (List ℕ) → Sexprs → Parsing L}
    → BindsNames make name written value before read all → (whole xs : List R) (x : R) (rest : L)
    → whole ≡ xs ++ x ∷ [] → before xs (make (name x) (written x) (value x) rest) ≡ before whole rest
bound_pop {make = make} {name = name} {written = written} {value = value} {before = before} h whole xs x rest same =
    popped (λ x. make (name x) (written x) (value x)) before h.stand whole xs x rest same

-- one that was read, and those that are read behind it
pub bound_more : {R L A : Type 0} {make : Ident → Option TypeExpr → A → L → L} {name : R → Ident}
    {written : R → Option TypeExpr} {value : R → A} {before : List R → L → L}
    {read : List (List ℕ) → Sexpr → Parsing (Bound A)} {all : List (List ℕ) → Sexprs → Parsing L}
    → BindsNames make name written value before read all → (xs : List R) (x : R) (s : Sexpr) (rest : Sexprs)
    (seen bound : List (List ℕ)) (names next : ℕ) (w : Walked (L × ℕ))
    → read seen s names ≡ Reads (record { name = source_of (name x); written = written x; value = value x }, next)
    → bound ≡ seen ++ source_of (name x) ∷ [] → name x ≡ Source (source_of (name x))
    → with_list (before xs) (all seen (s ▹ rest) names) ≡ w
    → with_list (before (xs ++ x ∷ [])) (all bound rest next) ≡ w
bound_more {A = A} {make = make} {name = name} {written = written} {value = value} {before = before} {read = read}
    {all = all} h xs x s rest seen bound names next w e k source same =
    ap (λ scope. with_list (before (xs ++ x ∷ [])) (all scope rest next)) k
    ∙ one_more (λ x. make (name x) (written x) (value x)) before h.stand xs x (read seen s names)
    (λ one. all (seen ++ one.name ∷ []) rest) (λ (one : Bound A). make (Source one.name) one.written one.value)
    (record { name = source_of (name x); written = written x; value = value x }) next w e
    (λ others. ap (λ i. make i (written x) (value x) others) source)
    (ap (with_list (before xs)) (sym (h.first seen s rest names)) ∙ same)

-- the exit of a `?` at one of them
pub bound_exit : {R L A S : Type 0} {make : Ident → Option TypeExpr → A → L → L} {name : R → Ident}
    {written : R → Option TypeExpr} {value : R → A} {before : List R → L → L}
    {read : List (List ℕ) → Sexpr → Parsing (Bound A)} {all : List (List ℕ) → Sexprs → Parsing L}
    → BindsNames make name written value before read all → (xs : List R) (s : Sexpr) (rest : Sexprs)
    (seen : List (List ℕ)) (names next : ℕ) (view : R → Bound A) (wider : S → L) (fault : FrontFault)
    (given : Result R FrontFault) (result : Result S FrontFault) (w : Walked (L × ℕ))
    → given ≡ Err fault → IsErrAnd result (λ f. f ≡ fault) → Parses given view next (read seen s names)
    → with_list (before xs) (all seen (s ▹ rest) names) ≡ w → Parses result wider next w
bound_exit {make = make} {before = before} {read = read} {all = all} h xs s rest seen names next view wider fault given
    result w e f k same =
    loop_exit (before xs) (read seen s names) (λ one names. then_with (all (seen ++ one.name ∷ []) rest names)
    (λ others names. Reads (make (Source one.name) one.written one.value others, names)))
    view wider next fault given result w e f k
    (ap (with_list (before xs)) (sym (h.first seen s rest names)) ∙ same)
