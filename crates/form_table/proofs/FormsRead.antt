-- The walk reads each form of the table.
use Rattle.std.proofs.Common.{◌≡◌, ◌≤◌, ℕ, zero, suc, Bool, true, false, List, [], ◌∷◌, Option, refl}
use Rattle.std.proofs.Common.{ap, ◌∙◌, arith}
use Rattle.std.specs.Prelude.{not, None}
use Rattle.std.proofs.lemmas.Bool.{eq-eqb}
use Rattle.grift_base.specs.declared.places.Pos.{Pos}
use Rattle.grift_base.specs.declared.refusals.RefusalKind.TheVariants.{BadForm, RepeatedName}
use Rattle.surface_trees.specs.Trees.{TypeExpr, Param}
use Rattle.form_table.specs.Marked.{Sexpr, Sexprs, number, truth_value, word, name, list, end, ◌▹◌, how_many}
use Rattle.derived_forms.specs.Written.{Form, FormAt, CallForm, Forms, LambdaWritten, LambdaFrom, LetForms}
use Rattle.derived_forms.specs.Written.{LetrecForms}
use Rattle.form_table.specs.Walking.{Reads, followed_by, give, is_among}
use Rattle.form_table.specs.Walking.{binder}
use Rattle.form_table.specs.Walk.{walk_param, walk_params, walk_param_list, walk, walk_list, walk_each}
use Rattle.form_table.specs.Walk.{walk_within, walk_lambda, walk_binding, walk_lets, walk_member, walk_letrecs}
use Rattle.form_table.specs.Walk.{walk_range}
use Rattle.form_table.specs.Table.{IsName, is_name, IsParam, is_plain, is_typed, AreParams, no_params, param_then}
use Rattle.form_table.specs.Table.{IsParamList, is_param_list, IsForm, integer_row, truth_row, name_row, unit_row}
use Rattle.form_table.specs.Table.{lambda_row, let_row, letrec_row, if_row, begin_row, ascribe_row, and_row, or_row}
use Rattle.form_table.specs.Table.{repeat_row, repeat_into_row, tuple_row, proj_row, operator_row, call_row}
use Rattle.form_table.specs.Table.{AreForms, no_forms, form_then, IsLambda, typed_lambda, plain_lambda, IsBinding}
use Rattle.form_table.specs.Table.{plain_binding, typed_binding, IsMember, plain_member, typed_member, AreLets}
use Rattle.form_table.specs.Table.{no_lets, let_then, AreLetrecs, no_letrecs, letrec_then}
use Rattle.form_table.proofs.NewNames.{AreNew, are_new}
use Rattle.form_table.proofs.Binds.{bind_reads, refused, test_reads}
use Rattle.form_table.proofs.TypesRead.{type_read}

pub name_read : {s : Sexpr} {x : List ℕ} → IsName s x → (seen : List (List ℕ)) → is_among seen x ≡ false
    → binder seen s ≡ Reads x
name_read is_name seen new = bind_reads _ (test_reads _ RepeatedName _ (ap not new)) refl

param_read : {s : Sexpr} {x : List ℕ} {param : Param} → IsParam s x param → (seen : List (List ℕ))
    → is_among seen x ≡ false → walk_param seen s ≡ Reads (x, param)
param_read (is_plain (is_name {t = t})) seen new = bind_reads _ (name_read (is_name {t = t}) seen new) refl
param_read (is_typed h t) seen new =
    bind_reads _ (name_read h seen new) (bind_reads _ refl (bind_reads _ (type_read t) refl))

params_read : {ds : Sexprs} {xs : List (List ℕ)} {params : List Param} → AreParams ds xs params
    → (room : ℕ) (seen : List (List ℕ)) → AreNew seen xs → how_many ds ≤ room → walk_params room seen ds ≡ Reads params
params_read no_params zero seen new few = refl
params_read no_params (suc room) seen new few = refl
params_read (param_then h k) zero seen new few = absurd (omega arith)
params_read (param_then h k) (suc room) seen new few =
    bind_reads _ (param_read h seen new.0) (bind_reads _ (params_read k room _ new.1 (omega arith)) refl)

param_list_read : {s : Sexpr} {params : List Param} → IsParamList s params → walk_param_list s ≡ Reads params
param_list_read (is_param_list {xs = xs} h new few) = params_read h 6 [] (are_new xs new) few

-- a list whose first element is an expression is a call
call_step : (p : Pos) (f : Sexpr) (arguments : Sexprs) (function : Form) → walk f ≡ Reads function
    → walk_list p (f ▹ arguments) ≡ followed_by (walk f)
    (λ function. followed_by (walk_within 6 arguments) (λ forms. give (FormAt p (CallForm function forms))))
call_step p (word q w) arguments function e = absurd (refused e)
call_step p f arguments function e = refl

-- a lambda whose second element is an expression has no result type
lambda_step : (p : Pos) (ps e : Sexpr) (rest : Sexprs) (form : Form) → walk e ≡ Reads form
    → walk_lambda p (ps ▹ e ▹ rest) ≡ followed_by (walk_param_list ps)
    (λ params. followed_by (walk_each (e ▹ rest)) (λ forms. give (LambdaFrom p params None forms)))
unfolding followed_by
lambda_step p ps (word q w) rest form e = absurd (refused e)
lambda_step p ps (number q n) rest form f = refl
lambda_step p ps (truth_value q b) rest form f = refl
lambda_step p ps (name q x t) rest form f = refl
lambda_step p ps (list q l) rest form f = refl

range_read : (r : Pos) {i : Sexpr} {x : List ℕ} (a b : Sexpr) (first bound : Form) → IsName i x → walk a ≡ Reads first
    → walk b ≡ Reads bound
    → walk_range (list r (i ▹ a ▹ b ▹ end)) ≡ Reads (record { counter = x; first = first; bound = bound })
range_read r a b first bound h e f = bind_reads _ (name_read h [] refl) (bind_reads _ e (bind_reads _ f refl))

mutual
  pub form_read : {s : Sexpr} {form : Form} → IsForm s form → walk s ≡ Reads form
  form_read integer_row = refl
  form_read truth_row = refl
  form_read (name_row is_name) = refl
  form_read unit_row = refl
  form_read (lambda_row h) = bind_reads _ (lambda_read h) refl
  form_read (let_row {xs = xs} h new b) =
      bind_reads _ refl (bind_reads _ (lets_read h [] (are_new xs new)) (bind_reads _ (each_read b) refl))
  form_read (letrec_row {xs = xs} h new b) =
      bind_reads _ refl (bind_reads _ (letrecs_read h [] (are_new xs new)) (bind_reads _ (each_read b) refl))
  form_read (if_row c t e) = bind_reads _ (form_read c) (bind_reads _ (form_read t) (bind_reads _ (form_read e) refl))
  form_read (begin_row b) = bind_reads _ refl (bind_reads _ (each_read b) refl)
  form_read (ascribe_row h t) = bind_reads _ (form_read h) (bind_reads _ (type_read t) refl)
  form_read (and_row h few) = bind_reads _ (within_read h 8 few) refl
  form_read (or_row h few) = bind_reads _ (within_read h 8 few) refl
  form_read (repeat_row {r = r} x a b e) =
      bind_reads _ (range_read r _ _ _ _ x (form_read a) (form_read b)) (bind_reads _ (form_read e) refl)
  form_read (repeat_into_row {r = r} {x = x} {y = y} i a b c new e) =
      let names = are_new (x ∷ y ∷ []) new in
      bind_reads _ (range_read r _ _ _ _ i (form_read a) (form_read b))
      (bind_reads _ (binding_read c (x ∷ []) names.1.0) (bind_reads _ (form_read e) refl))
  form_read (tuple_row h few) = bind_reads _ refl (bind_reads _ (within_read h 8 few) refl)
  form_read (proj_row h) = bind_reads _ (form_read h) refl
  form_read (operator_row h count) =
      bind_reads _ (test_reads _ BadForm _ (eq-eqb _ _ count)) (bind_reads _ (each_read h) refl)
  form_read (call_row {p = p} {f = f} {arguments = arguments} h k few) =
      call_step p f arguments _ (form_read h) ∙ bind_reads _ (form_read h) (bind_reads _ (within_read k 6 few) refl)

  pub each_read : {ds : Sexprs} {forms : Forms} → AreForms ds forms → walk_each ds ≡ Reads forms
  each_read no_forms = refl
  each_read (form_then h k) = bind_reads _ (form_read h) (bind_reads _ (each_read k) refl)

  pub within_read : {ds : Sexprs} {forms : Forms} → AreForms ds forms → (room : ℕ) → how_many ds ≤ room
      → walk_within room ds ≡ Reads forms
  within_read no_forms zero few = refl
  within_read no_forms (suc room) few = refl
  within_read (form_then h k) zero few = absurd (omega arith)
  within_read (form_then h k) (suc room) few =
      bind_reads _ (form_read h) (bind_reads _ (within_read k room (omega arith)) refl)

  pub lambda_read : {p : Pos} {ds : Sexprs} {lambda : LambdaWritten} → IsLambda p ds lambda
      → walk_lambda p ds ≡ Reads lambda
  lambda_read (typed_lambda ps t b) =
      bind_reads _ refl (bind_reads _ (param_list_read ps)
      (bind_reads _ (type_read t) (bind_reads _ (each_read b) refl)))
  lambda_read (plain_lambda {p = p} {ps = s} {e = e} {rest = rest} ps (form_then h k)) =
      lambda_step p s e rest _ (form_read h) ∙ bind_reads _ (param_list_read ps)
      (bind_reads _ (bind_reads _ (form_read h) (bind_reads _ (each_read k) refl)) refl)

  pub binding_read : {s : Sexpr} {x : List ℕ} {type : Option TypeExpr} {form : Form} → IsBinding s x type form
      → (seen : List (List ℕ)) → is_among seen x ≡ false
      → walk_binding seen s ≡ Reads (record { name = x; written = type; value = form })
  binding_read (plain_binding x e) seen new = bind_reads _ (name_read x seen new) (bind_reads _ (form_read e) refl)
  binding_read (typed_binding x t e) seen new =
      bind_reads _ (name_read x seen new) (bind_reads {A = Bool} _ {a = true} refl
      (bind_reads _ (type_read t) (bind_reads _ (form_read e) refl)))

  pub member_read : {s : Sexpr} {x : List ℕ} {type : Option TypeExpr} {lambda : LambdaWritten}
      → IsMember s x type lambda
      → (seen : List (List ℕ)) → is_among seen x ≡ false
      → walk_member seen s ≡ Reads (record { name = x; written = type; value = lambda })
  member_read (plain_member x l) seen new = bind_reads _ (name_read x seen new) (bind_reads _ (lambda_read l) refl)
  member_read (typed_member x t l) seen new =
      bind_reads _ (name_read x seen new) (bind_reads {A = Bool} _ {a = true} refl
      (bind_reads _ (type_read t) (bind_reads _ (lambda_read l) refl)))

  pub lets_read : {ds : Sexprs} {xs : List (List ℕ)} {lets : LetForms} → AreLets ds xs lets → (seen : List (List ℕ))
      → AreNew seen xs → walk_lets seen ds ≡ Reads lets
  lets_read no_lets seen new = refl
  lets_read (let_then b k) seen new = bind_reads _ (binding_read b seen new.0) (bind_reads _ (lets_read k _ new.1) refl)

  pub letrecs_read : {ds : Sexprs} {xs : List (List ℕ)} {members : LetrecForms} → AreLetrecs ds xs members
      → (seen : List (List ℕ)) → AreNew seen xs → walk_letrecs seen ds ≡ Reads members
  letrecs_read no_letrecs seen new = refl
  letrecs_read (letrec_then m k) seen new =
      bind_reads _ (member_read m seen new.0) (bind_reads _ (letrecs_read k _ new.1) refl)
