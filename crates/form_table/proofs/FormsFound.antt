-- What the walk reads as a form is in the table.
use Rattle.std.proofs.Common.{◌≡◌, ◌≤◌, ℕ, zero, suc, Bool, true, false, List, [], ◌∷◌, ◌++◌, refl, sym}
use Rattle.std.proofs.Common.{ap, ◌∙◌, subst, arith}
use Rattle.std.specs.Prelude.{pos, not, Option, Some, None}
use Rattle.std.proofs.lemmas.Bool.{eqb-true}
use Rattle.grift_base.specs.declared.places.Pos.{Pos}
use Rattle.grift_base.specs.declared.refusals.RefusalKind.TheVariants.{BadForm, RepeatedName}
use Rattle.surface_trees.specs.Trees.{TypeExpr, Param}
use Rattle.surface_trees.specs.declared.names.Ident.TheVariants.{Source}
use Rattle.form_table.specs.declared.words.Word.{Word}
use Rattle.form_table.specs.declared.words.Word.TheVariants.{Lambda, Let, Letrec, If, Begin, And, Or, Repeat, Tuple}
use Rattle.form_table.specs.declared.words.Word.TheVariants.{TupleProj, Colon, Arrow, Operator}
use Rattle.form_table.specs.Words.{is_colon_word}
use Rattle.form_table.specs.Marked.{Sexpr, Sexprs, number, truth_value, word, name, list, end, ◌▹◌, place, how_many}
use Rattle.derived_forms.specs.Written.{Form, FormAt, BeginForm, RepeatForm, RepeatIntoForm, TupleForm, LetForm}
use Rattle.derived_forms.specs.Written.{LetrecForm, Forms, LambdaWritten, LambdaFrom, LetForms, LetFormThen}
use Rattle.derived_forms.specs.Written.{LetrecForms, LetrecFormThen}
use Rattle.form_table.specs.Walking.{Walked, Reads, followed_by, is_some, some, is_among, binder, colon, is_colon}
use Rattle.form_table.specs.Walk.{Range, Bound, walk_type, walk_param, walk_params, walk_param_list, walk}
use Rattle.form_table.specs.Walk.{walk_list, walk_part, walk_each, walk_within, walk_lambda, walk_binding}
use Rattle.form_table.specs.Walk.{walk_lets, walk_member, walk_lambda_form, walk_letrecs, walk_range}
use Rattle.form_table.specs.Table.{IsType, IsName, is_name, IsParam, is_plain, is_typed, AreParams, no_params}
use Rattle.form_table.specs.Table.{param_then, IsParamList, is_param_list, IsForm, integer_row, truth_row, name_row}
use Rattle.form_table.specs.Table.{unit_row, lambda_row, let_row, letrec_row, if_row, begin_row, ascribe_row}
use Rattle.form_table.specs.Table.{and_row, or_row, repeat_row, repeat_into_row, tuple_row, proj_row, operator_row}
use Rattle.form_table.specs.Table.{call_row, AreForms, no_forms, form_then, IsLambda, typed_lambda, plain_lambda}
use Rattle.form_table.specs.Table.{IsBinding, plain_binding, typed_binding, IsMember, plain_member, typed_member}
use Rattle.form_table.specs.Table.{AreLets, no_lets, let_then, AreLetrecs, no_letrecs, letrec_then}
use Rattle.form_table.proofs.NewNames.{AreNew, no_repeats}
use Rattle.form_table.proofs.Binds.{parts_of, refused, read_is_one, test_holds}
use Rattle.form_table.proofs.TypesFound.{type_found}

-- ---- names and parameters

false_is_no_truth : false ≡ true → ⊥
false_is_no_truth e = cc

new_of : (b : Bool) → not b ≡ true → b ≡ false
new_of true e = absurd cc
new_of false e = refl

as_name : {s : Sexpr} {a b : List ℕ} → IsName s a → Reads a ≡ Reads b → IsName s b
as_name {s = s} h e = subst (IsName s) (read_is_one e) h

pub name_found : (seen : List (List ℕ)) (s : Sexpr) (x : List ℕ) → binder seen s ≡ Reads x
    → IsName s x × (is_among seen x ≡ false)
name_found seen (name p bytes t) x e =
    let one = parts_of e in
    (as_name is_name one.2, ap (is_among seen) (sym (read_is_one one.2)) ∙ new_of _ (test_holds _ RepeatedName p one.1))
name_found seen (word p w) x e = absurd (refused e)
name_found seen s x e = absurd (refused e)

as_param : {s : Sexpr} {x : List ℕ} {param : Param} {b : List ℕ × Param} → IsParam s x param
    → Reads (x, param) ≡ Reads b → IsParam s b.0 b.1
as_param {s = s} h e = subst (λ b. IsParam s b.0 b.1) (read_is_one e) h

as_new : (seen : List (List ℕ)) {x : List ℕ} {param : Param} {b : List ℕ × Param} → is_among seen x ≡ false
    → Reads (x, param) ≡ Reads b → is_among seen b.0 ≡ false
as_new seen h e = subst (λ b. is_among seen b.0 ≡ false) (read_is_one e) h

-- the one s-expression that is a colon
colon_word : (w : Word) → is_colon_word w ≡ true → w ≡ Colon
colon_word Colon e = refl
colon_word w e = absurd (false_is_no_truth e)

pub colon_is : (c : Sexpr) → is_colon c ≡ true → c ≡ word (place c) Colon
colon_is (word p w) e = ap (word p) (colon_word w e)
colon_is c e = absurd (false_is_no_truth e)

typed_param : (p : Pos) (s c t : Sexpr) (x : List ℕ) (type : TypeExpr) → is_colon c ≡ true → IsName s x
    → IsType t type → IsParam (list p (s ▹ c ▹ t ▹ end)) x (record { place = p; name = Source x; written = Some type })
typed_param p s c t x type e h k =
    subst (λ c. IsParam (list p (s ▹ c ▹ t ▹ end)) x (record { place = p; name = Source x; written = Some type }))
    (sym (colon_is c e)) (is_typed h k)

param_found : (seen : List (List ℕ)) (s : Sexpr) (b : List ℕ × Param) → walk_param seen s ≡ Reads b
    → IsParam s b.0 b.1 × (is_among seen b.0 ≡ false)
param_found seen (list p (x ▹ c ▹ t ▹ end)) b e =
    let one = parts_of e in
    let two = parts_of one.2 in
    let three = parts_of two.2 in
    let h = name_found seen x one.0 one.1 in (
      as_param (typed_param p x c t one.0 three.0 (test_holds _ BadForm _ two.1) h.0 (type_found t three.0 three.1))
          three.2,
      as_new seen h.1 three.2,
    )
param_found seen (list p elements) b e = absurd (refused e)
param_found seen s b e =
    let one = parts_of e in
    let h = name_found seen s one.0 one.1 in
    (as_param (is_plain h.0) one.2, as_new seen h.1 one.2)

-- parameters with names that are found with them
abbrev Found : List (List ℕ) → Sexprs → ℕ → List Param → Type 0
Found seen ds room params = (xs : List (List ℕ)) × AreParams ds xs params × AreNew seen xs × (how_many ds ≤ room)

as_params : (seen : List (List ℕ)) (ds : Sexprs) (room : ℕ) {a b : List Param} → Found seen ds room a
    → Reads a ≡ Reads b → Found seen ds room b
as_params seen ds room h e = subst (Found seen ds room) (read_is_one e) h

params_found : (room : ℕ) (seen : List (List ℕ)) (ds : Sexprs) (params : List Param)
    → walk_params room seen ds ≡ Reads params → Found seen ds room params
params_found zero seen end params e = as_params seen end zero ([], no_params, tt, omega arith) e
params_found (suc room) seen end params e = as_params seen end (suc room) ([], no_params, tt, omega arith) e
params_found zero seen (x ▹ rest) params e = absurd (refused e)
params_found (suc room) seen (x ▹ rest) params e =
    let one = parts_of e in
    let two = parts_of one.2 in
    let h = param_found seen x one.0 one.1 in
    let k = params_found room (seen ++ one.0.0 ∷ []) rest two.0 two.1 in
    let few : how_many rest ≤ room = k.3 in
    as_params seen (x ▹ rest) (suc room) (one.0.0 ∷ k.0, param_then h.0 k.1, (h.1, k.2), omega arith) two.2

param_list_found : (s : Sexpr) (params : List Param) → walk_param_list s ≡ Reads params → IsParamList s params
param_list_found (list p elements) params e =
    let h = params_found 6 [] elements params e in
    is_param_list h.1 (no_repeats _ h.2) h.3
param_list_found s params e = absurd (refused e)

-- ---- bodies that are not empty

begin_of : (p q : Pos) (body : Sexprs) (forms : Forms) → is_some body ≡ true → AreForms body forms
    → IsForm (list p (word q Begin ▹ body)) (FormAt p (BeginForm forms))
begin_of p q end forms e h = absurd cc
begin_of p q (s ▹ rest) forms e h = begin_row h

tuple_of : (p q : Pos) (parts : Sexprs) (forms : Forms) → is_some parts ≡ true → AreForms parts forms
    → how_many parts ≤ 8 → IsForm (list p (word q Tuple ▹ parts)) (FormAt p (TupleForm forms))
tuple_of p q end forms e h few = absurd cc
tuple_of p q (s ▹ rest) forms e h few = tuple_row h few

let_of : (p q r : Pos) (bindings body : Sexprs) (xs : List (List ℕ)) (lets : LetForms) (forms : Forms)
    → is_some body ≡ true → AreLets bindings xs lets → AreNew [] xs → AreForms body forms
    → IsForm (list p (word q Let ▹ list r bindings ▹ body)) (FormAt p (LetForm lets forms))
let_of p q r bindings end xs lets forms e h new k = absurd cc
let_of p q r bindings (s ▹ rest) xs lets forms e h new k = let_row h (no_repeats xs new) k

letrec_of : (p q r : Pos) (bindings body : Sexprs) (xs : List (List ℕ)) (members : LetrecForms) (forms : Forms)
    → is_some body ≡ true → AreLetrecs bindings xs members → AreNew [] xs → AreForms body forms
    → IsForm (list p (word q Letrec ▹ list r bindings ▹ body)) (FormAt p (LetrecForm members forms))
letrec_of p q r bindings end xs members forms e h new k = absurd cc
letrec_of p q r bindings (s ▹ rest) xs members forms e h new k = letrec_row h (no_repeats xs new) k

typed_lambda_of : (p q : Pos) (ps t : Sexpr) (body : Sexprs) (params : List Param) (type : TypeExpr) (forms : Forms)
    → is_some body ≡ true → IsParamList ps params → IsType t type → AreForms body forms
    → IsLambda p (ps ▹ word q Colon ▹ t ▹ body) (LambdaFrom p params (Some type) forms)
typed_lambda_of p q ps t end params type forms e h k b = absurd cc
typed_lambda_of p q ps t (s ▹ rest) params type forms e h k b = typed_lambda h k b

plain_lambda_of : (p : Pos) (ps : Sexpr) (body : Sexprs) (params : List Param) (forms : Forms) → is_some body ≡ true
    → IsParamList ps params → AreForms body forms → IsLambda p (ps ▹ body) (LambdaFrom p params None forms)
plain_lambda_of p ps end params forms e h b = absurd cc
plain_lambda_of p ps (s ▹ rest) params forms e h b = plain_lambda h b

typed_binding_of : (p : Pos) (s c t e : Sexpr) (x : List ℕ) (type : TypeExpr) (form : Form) → is_colon c ≡ true
    → IsName s x → IsType t type → IsForm e form → IsBinding (list p (s ▹ c ▹ t ▹ e ▹ end)) x (Some type) form
typed_binding_of p s c t e x type form f h k l =
    subst (λ c. IsBinding (list p (s ▹ c ▹ t ▹ e ▹ end)) x (Some type) form) (sym (colon_is c f)) (typed_binding h k l)

-- a lambda form and its lambda
data IsFunction : Sexpr → LambdaWritten → Type 0 where
  is_function_at : {r q : Pos} {rest : Sexprs} {lambda : LambdaWritten} → IsLambda r rest lambda
      → IsFunction (list r (word q Lambda ▹ rest)) lambda

plain_member_of : {p : Pos} {s e : Sexpr} {x : List ℕ} {lambda : LambdaWritten} → IsName s x → IsFunction e lambda
    → IsMember (list p (s ▹ e ▹ end)) x None lambda
plain_member_of h (is_function_at k) = plain_member h k

typed_member_at : {p c : Pos} {s t e : Sexpr} {x : List ℕ} {type : TypeExpr} {lambda : LambdaWritten} → IsName s x
    → IsType t type → IsFunction e lambda → IsMember (list p (s ▹ word c Colon ▹ t ▹ e ▹ end)) x (Some type) lambda
typed_member_at h k (is_function_at m) = typed_member h k m

typed_member_of : (p : Pos) (s c t e : Sexpr) (x : List ℕ) (type : TypeExpr) (lambda : LambdaWritten)
    → is_colon c ≡ true → IsName s x → IsType t type → IsFunction e lambda
    → IsMember (list p (s ▹ c ▹ t ▹ e ▹ end)) x (Some type) lambda
typed_member_of p s c t e x type lambda f h k m =
    subst (λ c. IsMember (list p (s ▹ c ▹ t ▹ e ▹ end)) x (Some type) lambda) (sym (colon_is c f))
    (typed_member_at h k m)

-- ---- answers that are one

as_form : {s : Sexpr} {a b : Form} → IsForm s a → Reads a ≡ Reads b → IsForm s b
as_form {s = s} h e = subst (IsForm s) (read_is_one e) h

as_forms : {ds : Sexprs} {a b : Forms} → AreForms ds a → Reads a ≡ Reads b → AreForms ds b
as_forms {ds = ds} h e = subst (AreForms ds) (read_is_one e) h

as_lambda : {p : Pos} {ds : Sexprs} {a b : LambdaWritten} → IsLambda p ds a → Reads a ≡ Reads b → IsLambda p ds b
as_lambda {p = p} {ds = ds} h e = subst (IsLambda p ds) (read_is_one e) h

-- what a row says of a name with what it is bound to, where the name is new
abbrev FoundBound : {A : Type 0} → (Sexpr → List ℕ → Option TypeExpr → A → Type 0) → List (List ℕ) → Sexpr → Bound A
    → Type 0
FoundBound Row seen s b = Row s b.name b.written b.value × (is_among seen b.name ≡ false)

as_bound : {A : Type 0} (Row : Sexpr → List ℕ → Option TypeExpr → A → Type 0) (seen : List (List ℕ)) (s : Sexpr)
    {a b : Bound A} → FoundBound Row seen s a → Reads a ≡ Reads b → FoundBound Row seen s b
as_bound Row seen s h e = subst (FoundBound Row seen s) (read_is_one e) h

-- without a written type
plain_found : {A : Type 0} (Row : Sexpr → List ℕ → Option TypeExpr → A → Type 0) (seen : List (List ℕ)) (s x : Sexpr)
    (value : Walked A) (b : Bound A)
    → ((name : List ℕ) (a : A) → IsName x name → value ≡ Reads a → Row s name None a)
    → followed_by (binder seen x) (λ name. followed_by value (λ a.
    Reads (record { name = name; written = None; value = a }))) ≡ Reads b
    → FoundBound Row seen s b
plain_found Row seen s x value b row e =
    let one = parts_of e in
    let two = parts_of one.2 in
    let h = name_found seen x one.0 one.1 in
    as_bound Row seen s (row one.0 two.0 h.0 two.1, h.1) two.2

-- with a written type
typed_found : {A : Type 0} (Row : Sexpr → List ℕ → Option TypeExpr → A → Type 0) (seen : List (List ℕ))
    (s x c t : Sexpr) (value : Walked A) (b : Bound A)
    → ((name : List ℕ) (type : TypeExpr) (a : A) → is_colon c ≡ true → IsName x name → IsType t type
    → value ≡ Reads a → Row s name (Some type) a)
    → followed_by (binder seen x) (λ name. followed_by (colon c) (λ done. followed_by (walk_type t) (λ type.
    followed_by value (λ a. Reads (record { name = name; written = Some type; value = a }))))) ≡ Reads b
    → FoundBound Row seen s b
typed_found Row seen s x c t value b row e =
    let one = parts_of e in
    let two = parts_of one.2 in
    let three = parts_of two.2 in
    let four = parts_of three.2 in
    let h = name_found seen x one.0 one.1 in
    as_bound Row seen s (
      row one.0 three.0 four.0 (test_holds _ BadForm _ two.1) h.0 (type_found t three.0 three.1) four.1,
      h.1,
    ) four.2

-- the names of a list of them are new
abbrev FoundAll : {L : Type 0} → (Sexprs → List (List ℕ) → L → Type 0) → List (List ℕ) → Sexprs → L → Type 0
FoundAll Rows seen ds all = (xs : List (List ℕ)) × Rows ds xs all × AreNew seen xs

as_all : {L : Type 0} (Rows : Sexprs → List (List ℕ) → L → Type 0) (seen : List (List ℕ)) (ds : Sexprs) {a b : L}
    → FoundAll Rows seen ds a → Reads a ≡ Reads b → FoundAll Rows seen ds b
as_all Rows seen ds h e = subst (FoundAll Rows seen ds) (read_is_one e) h

-- one, and those behind it
more_found : {A L : Type 0} (Row : Sexpr → List ℕ → Option TypeExpr → A → Type 0)
    (Rows : Sexprs → List (List ℕ) → L → Type 0) (put : Bound A → L → L) (seen : List (List ℕ)) (s : Sexpr)
    (rest : Sexprs) (first : Walked (Bound A)) (others : List ℕ → Walked L) (all : L)
    → ((b : Bound A) (xs : List (List ℕ)) (l : L) → Row s b.name b.written b.value → Rows rest xs l
    → Rows (s ▹ rest) (b.name ∷ xs) (put b l))
    → ((b : Bound A) → first ≡ Reads b → FoundBound Row seen s b)
    → ((x : List ℕ) (l : L) → others x ≡ Reads l → FoundAll Rows (seen ++ x ∷ []) rest l)
    → followed_by first (λ b. followed_by (others b.name) (λ l. Reads (put b l))) ≡ Reads all
    → FoundAll Rows seen (s ▹ rest) all
more_found Row Rows put seen s rest first others all rows one_is rest_are e =
    let one = parts_of e in
    let two = parts_of one.2 in
    let h = one_is one.0 one.1 in
    let k = rest_are one.0.name two.0 two.1 in
    as_all Rows seen (s ▹ rest) (one.0.name ∷ k.0, rows one.0 k.0 two.0 h.0 k.1, (h.1, k.2)) two.2

-- names that are bound for a body
grouped_found : {L : Type 0} (Rows : Sexprs → List (List ℕ) → L → Type 0) (node : L → Forms → Form) (p : Pos)
    (s : Sexpr) (ds body : Sexprs) (bound : Walked L) (inner : Walked Forms) (form : Form)
    → ((xs : List (List ℕ)) (all : L) (forms : Forms) → is_some body ≡ true → Rows ds xs all → AreNew [] xs
    → AreForms body forms → IsForm s (node all forms))
    → ((all : L) → bound ≡ Reads all → FoundAll Rows [] ds all)
    → ((forms : Forms) → inner ≡ Reads forms → AreForms body forms)
    → followed_by (some p body) (λ done. followed_by bound (λ all. followed_by inner (λ forms.
    Reads (node all forms)))) ≡ Reads form
    → IsForm s form
grouped_found Rows node p s ds body bound inner form row bound_is inner_are e =
    let one = parts_of e in
    let two = parts_of one.2 in
    let three = parts_of two.2 in
    let h = bound_is two.0 two.1 in
    as_form (row h.0 two.0 three.0 (test_holds _ BadForm p one.1) h.1 h.2 (inner_are three.0 three.1)) three.2

-- the head of a `repeat`
data FoundRange : Sexpr → Range → Type 0 where
  found_range : {r : Pos} {i a b : Sexpr} {range : Range} → IsName i range.counter → IsForm a range.first
      → IsForm b range.bound → FoundRange (list r (i ▹ a ▹ b ▹ end)) range

as_range : {s : Sexpr} {a b : Range} → FoundRange s a → Reads a ≡ Reads b → FoundRange s b
as_range {s = s} h e = subst (FoundRange s) (read_is_one e) h

repeat_of : {p q : Pos} {h e : Sexpr} {range : Range} {form : Form} → FoundRange h range → IsForm e form
    → IsForm (list p (word q Repeat ▹ h ▹ e ▹ end)) (FormAt p (RepeatForm range.counter range.first range.bound form))
repeat_of (found_range i a b) e = repeat_row i a b e

repeat_into_of : {p q : Pos} {h c e : Sexpr} {range : Range} {start : Bound Form} {form : Form} → FoundRange h range
    → FoundBound IsBinding (range.counter ∷ []) c start → IsForm e form
    → IsForm (list p (word q Repeat ▹ h ▹ c ▹ e ▹ end))
    (FormAt p (RepeatIntoForm range.counter range.first range.bound start.name start.written start.value form))
repeat_into_of {range = range} {start = start} (found_range i a b) c e =
    repeat_into_row i a b c.0 (no_repeats (range.counter ∷ start.name ∷ []) (refl, (c.1, tt))) e

-- the number of a part
part_found : (p q : Pos) (e k : Sexpr) (tuple form : Form) → IsForm e tuple → walk_part p tuple k ≡ Reads form
    → IsForm (list p (word q TupleProj ▹ e ▹ k ▹ end)) form
part_found p q e (number r (pos k)) tuple form h f = as_form (proj_row h) f
part_found p q e k tuple form h f = absurd (refused f)

mutual
  pub form_found : (s : Sexpr) (form : Form) → walk s ≡ Reads form → IsForm s form
  form_found (number p n) form e = as_form integer_row e
  form_found (truth_value p b) form e = as_form truth_row e
  form_found (name p bytes t) form e = as_form (name_row is_name) e
  form_found (word p w) form e = absurd (refused e)
  form_found (list p elements) form e = list_found p elements form e

  pub list_found : (p : Pos) (ds : Sexprs) (form : Form) → walk_list p ds ≡ Reads form → IsForm (list p ds) form
  list_found p end form e = as_form unit_row e
  list_found p (word q Arrow ▹ rest) form e = absurd (refused e)
  list_found p (word q Lambda ▹ rest) form e =
      let one = parts_of e in
      as_form (lambda_row (lambda_found rest p one.0 one.1)) one.2
  list_found p (word q Let ▹ list r bindings ▹ body) form e =
      grouped_found AreLets (λ all forms. FormAt p (LetForm all forms)) p _ bindings body (walk_lets [] bindings)
      (walk_each body) form (let_of p q r bindings body) (λ all h. lets_found bindings [] all h)
      (λ forms h. each_found body forms h) e
  list_found p (word q Let ▹ s ▹ body) form e = let one = parts_of e in absurd (refused one.2)
  list_found p (word q Letrec ▹ list r bindings ▹ body) form e =
      grouped_found AreLetrecs (λ all forms. FormAt p (LetrecForm all forms)) p _ bindings body
      (walk_letrecs [] bindings) (walk_each body) form (letrec_of p q r bindings body)
      (λ all h. letrecs_found bindings [] all h) (λ forms h. each_found body forms h) e
  list_found p (word q Letrec ▹ s ▹ body) form e = let one = parts_of e in absurd (refused one.2)
  list_found p (word q If ▹ c ▹ t ▹ f ▹ end) form e =
      let one = parts_of e in
      let two = parts_of one.2 in
      let three = parts_of two.2 in
      as_form (if_row (form_found c one.0 one.1) (form_found t two.0 two.1) (form_found f three.0 three.1)) three.2
  list_found p (word q Begin ▹ body) form e =
      let one = parts_of e in
      let two = parts_of one.2 in
      as_form (begin_of p q body two.0 (test_holds _ BadForm p one.1) (each_found body two.0 two.1)) two.2
  list_found p (word q Colon ▹ f ▹ t ▹ end) form e =
      let one = parts_of e in
      let two = parts_of one.2 in
      as_form (ascribe_row (form_found f one.0 one.1) (type_found t two.0 two.1)) two.2
  list_found p (word q And ▹ operands) form e =
      let one = parts_of e in
      let h = within_found operands 8 one.0 one.1 in
      as_form (and_row h.0 h.1) one.2
  list_found p (word q Or ▹ operands) form e =
      let one = parts_of e in
      let h = within_found operands 8 one.0 one.1 in
      as_form (or_row h.0 h.1) one.2
  list_found p (word q Repeat ▹ h ▹ f ▹ end) form e =
      let one = parts_of e in
      let two = parts_of one.2 in
      as_form (repeat_of (range_found h one.0 one.1) (form_found f two.0 two.1)) two.2
  list_found p (word q Repeat ▹ h ▹ c ▹ f ▹ end) form e =
      let one = parts_of e in
      let two = parts_of one.2 in
      let three = parts_of two.2 in
      as_form (repeat_into_of (range_found h one.0 one.1) (binding_found c (one.0.counter ∷ []) two.0 two.1)
      (form_found f three.0 three.1)) three.2
  list_found p (word q Tuple ▹ parts) form e =
      let one = parts_of e in
      let two = parts_of one.2 in
      let h = within_found parts 8 two.0 two.1 in
      as_form (tuple_of p q parts two.0 (test_holds _ BadForm p one.1) h.0 h.1) two.2
  list_found p (word q TupleProj ▹ f ▹ k ▹ end) form e =
      let one = parts_of e in
      part_found p q f k one.0 form (form_found f one.0 one.1) one.2
  list_found p (word q (Operator o) ▹ operands) form e =
      let one = parts_of e in
      let two = parts_of one.2 in
      as_form (operator_row (each_found operands two.0 two.1) (eqb-true _ _ (test_holds _ BadForm p one.1))) two.2
  list_found p (word q w ▹ rest) form e = absurd (refused e)
  list_found p (f ▹ arguments) form e =
      let one = parts_of e in
      let two = parts_of one.2 in
      let h = within_found arguments 6 two.0 two.1 in
      as_form (call_row (form_found f one.0 one.1) h.0 h.1) two.2

  pub each_found : (ds : Sexprs) (forms : Forms) → walk_each ds ≡ Reads forms → AreForms ds forms
  each_found end forms e = as_forms no_forms e
  each_found (s ▹ rest) forms e =
      let one = parts_of e in
      let two = parts_of one.2 in
      as_forms (form_then (form_found s one.0 one.1) (each_found rest two.0 two.1)) two.2

  pub within_found : (ds : Sexprs) (room : ℕ) (forms : Forms) → walk_within room ds ≡ Reads forms → AreForms ds forms
      × (how_many ds ≤ room)
  within_found end zero forms e = (as_forms no_forms e, omega arith)
  within_found end (suc room) forms e = (as_forms no_forms e, omega arith)
  within_found (s ▹ rest) zero forms e = absurd (refused e)
  within_found (s ▹ rest) (suc room) forms e =
      let one = parts_of e in
      let two = parts_of one.2 in
      let h = within_found rest room two.0 two.1 in
      let few : how_many rest ≤ room = h.1 in
      (as_forms (form_then (form_found s one.0 one.1) h.0) two.2, omega arith)

  pub lambda_found : (ds : Sexprs) (p : Pos) (lambda : LambdaWritten) → walk_lambda p ds ≡ Reads lambda
      → IsLambda p ds lambda
  lambda_found (ps ▹ word c Colon ▹ t ▹ body) p lambda e =
      let one = parts_of e in
      let two = parts_of one.2 in
      let three = parts_of two.2 in
      let four = parts_of three.2 in
      as_lambda (typed_lambda_of p c ps t body two.0 three.0 four.0 (test_holds _ BadForm p one.1)
      (param_list_found ps two.0 two.1) (type_found t three.0 three.1) (each_found body four.0 four.1)) four.2
  lambda_found (ps ▹ word c Colon ▹ end) p lambda e = absurd (refused e)
  lambda_found (ps ▹ body) p lambda e =
      let one = parts_of e in
      let two = parts_of one.2 in
      let three = parts_of two.2 in
      as_lambda (plain_lambda_of p ps body two.0 three.0 (test_holds _ BadForm p one.1)
      (param_list_found ps two.0 two.1) (each_found body three.0 three.1)) three.2
  lambda_found end p lambda e = absurd (refused e)

  pub binding_found : (s : Sexpr) (seen : List (List ℕ)) (b : Bound Form) → walk_binding seen s ≡ Reads b
      → FoundBound IsBinding seen s b
  binding_found (list p (x ▹ f ▹ end)) seen b e =
      plain_found IsBinding seen _ x (walk f) b (λ name form h k. plain_binding h (form_found f form k)) e
  binding_found (list p (x ▹ c ▹ t ▹ f ▹ end)) seen b e =
      typed_found IsBinding seen _ x c t (walk f) b
      (λ name type form is h k m. typed_binding_of p x c t f name type form is h k (form_found f form m)) e
  binding_found s seen b e = absurd (refused e)

  pub lets_found : (ds : Sexprs) (seen : List (List ℕ)) (lets : LetForms) → walk_lets seen ds ≡ Reads lets
      → FoundAll AreLets seen ds lets
  lets_found end seen lets e = as_all AreLets seen end ([], no_lets, tt) e
  lets_found (s ▹ rest) seen lets e =
      more_found IsBinding AreLets (λ b others. LetFormThen b.name b.written b.value others) seen s rest
      (walk_binding seen s) (λ x. walk_lets (seen ++ x ∷ []) rest) lets (λ b xs l h k. let_then h k)
      (λ b h. binding_found s seen b h) (λ x l k. lets_found rest (seen ++ x ∷ []) l k) e

  function_found : (s : Sexpr) (lambda : LambdaWritten) → walk_lambda_form s ≡ Reads lambda → IsFunction s lambda
  function_found (list r (word q Lambda ▹ rest)) lambda e = is_function_at (lambda_found rest r lambda e)
  function_found s lambda e = absurd (refused e)

  pub member_found : (s : Sexpr) (seen : List (List ℕ)) (b : Bound LambdaWritten) → walk_member seen s ≡ Reads b
      → FoundBound IsMember seen s b
  member_found (list p (x ▹ f ▹ end)) seen b e =
      plain_found IsMember seen _ x (walk_lambda_form f) b
      (λ name lambda h k. plain_member_of h (function_found f lambda k)) e
  member_found (list p (x ▹ c ▹ t ▹ f ▹ end)) seen b e =
      typed_found IsMember seen _ x c t (walk_lambda_form f) b
      (λ name type lambda is h k m. typed_member_of p x c t f name type lambda is h k (function_found f lambda m)) e
  member_found s seen b e = absurd (refused e)

  pub letrecs_found : (ds : Sexprs) (seen : List (List ℕ)) (members : LetrecForms)
      → walk_letrecs seen ds ≡ Reads members → FoundAll AreLetrecs seen ds members
  letrecs_found end seen members e = as_all AreLetrecs seen end ([], no_letrecs, tt) e
  letrecs_found (s ▹ rest) seen members e =
      more_found IsMember AreLetrecs (λ b others. LetrecFormThen b.name b.written b.value others) seen s rest
      (walk_member seen s) (λ x. walk_letrecs (seen ++ x ∷ []) rest) members (λ b xs l h k. letrec_then h k)
      (λ b h. member_found s seen b h) (λ x l k. letrecs_found rest (seen ++ x ∷ []) l k) e

  range_found : (s : Sexpr) (range : Range) → walk_range s ≡ Reads range → FoundRange s range
  range_found (list r (i ▹ a ▹ b ▹ end)) range e =
      let one = parts_of e in
      let two = parts_of one.2 in
      let three = parts_of two.2 in
      as_range (found_range (name_found [] i one.0 one.1).0 (form_found a two.0 two.1) (form_found b three.0 three.1))
      three.2
  range_found s range e = absurd (refused e)
