-- How deep the expression of a form is, and which fresh names it binds.
use Rattle.std.proofs.Common.{◌≡◌, ◌≤◌, ◌+◌, ◌*◌, ℕ, zero, suc, max, Bool, true, false, List, Option}
use Rattle.std.proofs.Common.{refl, arith}
use Rattle.std.proofs.lemmas.Bool.Decides.{nat_tests}
use Rattle.grift_base.specs.declared.places.Pos.{Pos}
use Rattle.surface_trees.specs.declared.names.Ident.TheVariants.{Fresh}
use Rattle.form_table.specs.Marked.{Sexpr, Sexprs, number, truth_value, word, name, list, end, ◌▹◌, how_many}
use Rattle.surface_trees.specs.Trees.{TypeExpr, Param, Expr, Exprs, NoExprs, ExprThen}
use Rattle.derived_forms.specs.Written.{Form, Forms, LambdaWritten, LetForms, LetrecForms}
use Rattle.derived_forms.specs.Expansion.{◌>>=◌, chain_of, repeat_of, repeat_into_of, loop_names, type_or_dyn, expand}
use Rattle.derived_forms.specs.Expansion.{expand_all, expand_lambda, expand_lets, expand_letrecs}
use Rattle.form_table.specs.Table.{is_plain, is_typed, AreParams, no_params, param_then}
use Rattle.form_table.specs.Table.{IsParamList, is_param_list, IsForm, integer_row, truth_row, name_row, unit_row}
use Rattle.form_table.specs.Table.{lambda_row, let_row, letrec_row, if_row, begin_row, ascribe_row, and_row, or_row}
use Rattle.form_table.specs.Table.{repeat_row, repeat_into_row, tuple_row, proj_row, operator_row, call_row}
use Rattle.form_table.specs.Table.{AreForms, no_forms, form_then, IsLambda, typed_lambda, plain_lambda, IsBinding}
use Rattle.form_table.specs.Table.{plain_binding, typed_binding, IsMember, plain_member, typed_member, AreLets}
use Rattle.form_table.specs.Table.{no_lets, let_then, AreLetrecs, no_letrecs, letrec_then}
use Rattle.form_table.specs.Depth.{depth, depth_of_lambda, depth_of_all, depth_of_lets, depth_of_letrecs}
use Rattle.form_table.specs.Freshness.{is_fresh, times_among, times, times_in_lambda, times_in_all, times_in_lets}
use Rattle.form_table.specs.Freshness.{times_in_letrecs, is_below}

-- how many lists are open at once
abbrev mutual
  pub brackets : Sexpr → ℕ
  brackets (number p n) = 0
  brackets (truth_value p b) = 0
  brackets (word p w) = 0
  brackets (name p x t) = 0
  brackets (list p ds) = 1 + brackets_of ds

  pub brackets_of : Sexprs → ℕ
  brackets_of end = 0
  brackets_of (s ▹ rest) = max (brackets s) (brackets_of rest)

abbrev pub how_many_exprs : Exprs → ℕ
how_many_exprs NoExprs = 0
how_many_exprs (ExprThen e es) = 1 + how_many_exprs es

-- no deeper than a limit; the fresh names that are bound are those from one count of them to another
pub record Fits (limit deep k bound names after : ℕ) : Type 0 where
  pub shallow : deep ≤ limit
  pub once : bound + is_below k names ≡ is_below k after

-- ---- fresh names

pub next_name : (k n m : ℕ) → m ≡ n + 1 → is_fresh k (Fresh n) + is_below k n ≡ is_below k m
next_name k n m e = grind (arith, nat_tests)

source_params : (k : ℕ) {ds : Sexprs} {xs : List (List ℕ)} {params : List Param} → AreParams ds xs params
    → times_among k params ≡ 0
source_params k no_params = refl
source_params k (param_then (is_plain x) rest) = let h = source_params k rest in omega arith
source_params k (param_then (is_typed x t) rest) = let h = source_params k rest in omega arith

source_list : (k : ℕ) {s : Sexpr} {params : List Param} → IsParamList s params → times_among k params ≡ 0
source_list k (is_param_list h new few) = source_params k h

-- ---- `and` and `or`

chain_shallow : (all : Bool) (p : Pos) (es : Exprs) (limit more : ℕ) → depth_of_all es ≤ limit → 1 ≤ limit
    → how_many_exprs es ≤ suc more → depth (chain_of all p es) ≤ limit + more
chain_shallow all p NoExprs limit more h one few = omega arith
chain_shallow all p (ExprThen e NoExprs) limit more h one few = omega arith
chain_shallow all p (ExprThen e (ExprThen f rest)) limit zero h one few = absurd (omega arith)
chain_shallow true p (ExprThen e (ExprThen f rest)) limit (suc more) h one few =
    let behind = chain_shallow true p (ExprThen f rest) limit more (omega arith) one (omega arith) in omega arith
chain_shallow false p (ExprThen e (ExprThen f rest)) limit (suc more) h one few =
    let behind = chain_shallow false p (ExprThen f rest) limit more (omega arith) one (omega arith) in omega arith

chain_times : (all : Bool) (p : Pos) (es : Exprs) (k : ℕ) → times k (chain_of all p es) ≡ times_in_all k es
chain_times all p NoExprs k = refl
chain_times all p (ExprThen e NoExprs) k = omega arith
chain_times true p (ExprThen e (ExprThen f rest)) k =
    let behind = chain_times true p (ExprThen f rest) k in omega arith
chain_times false p (ExprThen e (ExprThen f rest)) k =
    let behind = chain_times false p (ExprThen f rest) k in omega arith

-- ---- `repeat`

repeat_shallow : (p : Pos) (n : ℕ) (i : List ℕ) (a b e : Expr) (m : ℕ) → depth a ≤ m + 3 → depth b ≤ m + 3 → depth e ≤ m
    → 3 ≤ m → depth (repeat_of p (loop_names n).0 i a b e) ≤ m + 4
repeat_shallow p n i a b e m ha hb he h = omega arith

repeat_times : (p : Pos) (n : ℕ) (i : List ℕ) (a b e : Expr) (k : ℕ)
    → times k (repeat_of p (loop_names n).0 i a b e) + is_below k n
    ≡ times k a + times k b + times k e + is_below k (n + 3)
repeat_times p n i a b e k =
    let one = next_name k n (n + 1) refl in
    let two = next_name k (n + 1) (n + 2) (omega arith) in
    let three = next_name k (n + 2) (n + 3) (omega arith) in
    omega arith

into_shallow : (p : Pos) (n : ℕ) (i c : List ℕ) (a b d e : Expr) (t : TypeExpr) (m : ℕ) → depth a ≤ m + 3
    → depth b ≤ m + 3 → depth d ≤ m + 3 → depth e ≤ m
    → 3 ≤ m → depth (repeat_into_of p (loop_names n).0 (Fresh (n + 3)) i a b c t d e) ≤ m + 4
into_shallow p n i c a b d e t m ha hb hd he h = omega arith

into_times : (p : Pos) (n : ℕ) (i c : List ℕ) (a b d e : Expr) (t : TypeExpr) (k : ℕ)
    → times k (repeat_into_of p (loop_names n).0 (Fresh (n + 3)) i a b c t d e) + is_below k n
    ≡ times k a + times k b + times k d + times k e + is_below k (n + 3 + 1)
into_times p n i c a b d e t k =
    let one = next_name k n (n + 1) refl in
    let two = next_name k (n + 1) (n + 2) (omega arith) in
    let three = next_name k (n + 2) (n + 3) (omega arith) in
    let four = next_name k (n + 3) (n + 3 + 1) refl in
    omega arith

-- ---- each form

abbrev FormFits : ℕ → ℕ → Sexpr → Form → Type 0
FormFits k n s form =
    let done = expand form n in Fits (7 * brackets s + 1) (depth done.0) k (times k done.0) n done.1

record FormsFit (k n : ℕ) (ds : Sexprs) (forms : Forms) : Type 0 where
  shallow : depth_of_all (expand_all forms n).0 ≤ 7 * brackets_of ds + 1
  once : times_in_all k (expand_all forms n).0 + is_below k n ≡ is_below k (expand_all forms n).1
  count : how_many_exprs (expand_all forms n).0 ≡ how_many ds

abbrev LambdaFits : ℕ → ℕ → Sexprs → LambdaWritten → Type 0
LambdaFits k n ds lambda =
    let done = expand_lambda lambda n in
    Fits (7 * brackets_of ds + 1) (depth_of_lambda done.0) k (times_in_lambda k done.0) n done.1

abbrev LetsFit : ℕ → ℕ → Sexprs → LetForms → Type 0
LetsFit k n ds lets =
    let done = expand_lets lets n in
    Fits (7 * brackets_of ds + 1) (depth_of_lets done.0) k (times_in_lets k done.0) n done.1

abbrev LetrecsFit : ℕ → ℕ → Sexprs → LetrecForms → Type 0
LetrecsFit k n ds members =
    let done = expand_letrecs members n in
    Fits (7 * brackets_of ds + 1) (depth_of_letrecs done.0) k (times_in_letrecs k done.0) n done.1

mutual
  unfolding ◌>>=◌

  pub form_fits : (k n : ℕ) {s : Sexpr} {form : Form} → IsForm s form → FormFits k n s form
  form_fits k n integer_row = record { shallow = omega arith; once = omega arith }
  form_fits k n truth_row = record { shallow = omega arith; once = omega arith }
  form_fits k n (name_row x) = record { shallow = omega arith; once = omega arith }
  form_fits k n unit_row = record { shallow = omega arith; once = omega arith }
  form_fits k n (lambda_row h) =
      let l = lambda_fits k n h in record { shallow = omega arith; once = omega arith }
  form_fits k n (let_row {lets = lets} h new b) =
      let l = lets_fit k n h in
      let body = forms_fit k (expand_lets lets n).1 b in
      record { shallow = omega arith; once = omega arith }
  form_fits k n (letrec_row {members = members} h new b) =
      let l = letrecs_fit k n h in
      let body = forms_fit k (expand_letrecs members n).1 b in
      record { shallow = omega arith; once = omega arith }
  form_fits k n (if_row {condition = condition} {on_true = on_true} c t e) =
      let one = form_fits k n c in
      let two = form_fits k (expand condition n).1 t in
      let three = form_fits k (expand on_true (expand condition n).1).1 e in
      record { shallow = omega arith; once = omega arith }
  form_fits k n (begin_row b) =
      let body = forms_fit k n b in record { shallow = omega arith; once = omega arith }
  form_fits k n (ascribe_row h t) =
      let one = form_fits k n h in record { shallow = omega arith; once = omega arith }
  form_fits k n (and_row {p = p} {operands = operands} {forms = forms} h few) =
      let es = forms_fit k n h in
      let deep = chain_shallow true p (expand_all forms n).0 (7 * brackets_of operands + 1) 7 es.shallow (omega arith)
      (omega arith) in
      let same = chain_times true p (expand_all forms n).0 k in
      record { shallow = omega arith; once = omega arith }
  form_fits k n (or_row {p = p} {operands = operands} {forms = forms} h few) =
      let es = forms_fit k n h in
      let deep = chain_shallow false p (expand_all forms n).0 (7 * brackets_of operands + 1) 7 es.shallow (omega arith)
      (omega arith) in
      let same = chain_times false p (expand_all forms n).0 k in
      record { shallow = omega arith; once = omega arith }
  form_fits k n (repeat_row {p = p} {r = r} {i = i} {a = a} {b = b} {e = e} {x = x} {first = first} {bound = bound}
      {form = form} hx ha hb he) =
      let one = form_fits k n ha in
      let two = form_fits k (expand first n).1 hb in
      let three = form_fits k (expand bound (expand first n).1).1 he in
      let last = (expand form (expand bound (expand first n).1).1).1 in
      let inner = max (brackets (list r (i ▹ a ▹ b ▹ end))) (brackets e) in
      let deep = repeat_shallow p last x (expand first n).0 (expand bound (expand first n).1).0
      (expand form (expand bound (expand first n).1).1).0 (7 * inner + 4) (omega arith) (omega arith) (omega arith)
      (omega arith) in
      let all = repeat_times p last x (expand first n).0 (expand bound (expand first n).1).0
      (expand form (expand bound (expand first n).1).1).0 k in
      record { shallow = omega arith; once = omega arith }
  form_fits k n (repeat_into_row {p = p} {r = r} {i = i} {a = a} {b = b} {c = c} {e = e} {x = x} {y = y} {type = type}
      {first = first} {bound = bound} {start = start} {form = form} hx ha hb hc new he) =
      let one = form_fits k n ha in
      let two = form_fits k (expand first n).1 hb in
      let n2 = (expand bound (expand first n).1).1 in
      let three = binding_fits k n2 hc in
      let n3 = (expand start n2).1 in
      let four = form_fits k n3 he in
      let n4 = (expand form n3).1 in
      let inner = max (brackets (list r (i ▹ a ▹ b ▹ end))) (max (brackets c) (brackets e)) in
      let deep = into_shallow p n4 x y (expand first n).0 (expand bound (expand first n).1).0 (expand start n2).0
      (expand form n3).0 (type_or_dyn p type) (7 * inner + 4) (omega arith) (omega arith) (omega arith)
      (omega arith) (omega arith) in
      let all = into_times p n4 x y (expand first n).0 (expand bound (expand first n).1).0 (expand start n2).0
      (expand form n3).0 (type_or_dyn p type) k in
      record { shallow = omega arith; once = omega arith }
  form_fits k n (tuple_row h few) =
      let es = forms_fit k n h in record { shallow = omega arith; once = omega arith }
  form_fits k n (proj_row h) =
      let one = form_fits k n h in record { shallow = omega arith; once = omega arith }
  form_fits k n (operator_row h count) =
      let es = forms_fit k n h in record { shallow = omega arith; once = omega arith }
  form_fits k n (call_row {function = function} h hs few) =
      let one = form_fits k n h in
      let es = forms_fit k (expand function n).1 hs in
      record { shallow = omega arith; once = omega arith }

  forms_fit : (k n : ℕ) {ds : Sexprs} {forms : Forms} → AreForms ds forms → FormsFit k n ds forms
  forms_fit k n no_forms = record { shallow = omega arith; once = omega arith; count = refl }
  forms_fit k n (form_then {form = form} h hs) =
      let one = form_fits k n h in
      let es = forms_fit k (expand form n).1 hs in
      record { shallow = omega arith; once = omega arith; count = omega arith }

  pub lambda_fits : (k n : ℕ) {p : Pos} {ds : Sexprs} {lambda : LambdaWritten} → IsLambda p ds lambda
      → LambdaFits k n ds lambda
  lambda_fits k n (typed_lambda hp t b) =
      let body = forms_fit k n b in
      let params = source_list k hp in
      record { shallow = omega arith; once = omega arith }
  lambda_fits k n (plain_lambda hp b) =
      let body = forms_fit k n b in
      let params = source_list k hp in
      record { shallow = omega arith; once = omega arith }

  binding_fits : (k n : ℕ) {s : Sexpr} {x : List ℕ} {type : Option TypeExpr} {form : Form} → IsBinding s x type form
      → FormFits k n s form
  binding_fits k n (plain_binding hx h) =
      let one = form_fits k n h in record { shallow = omega arith; once = omega arith }
  binding_fits k n (typed_binding hx t h) =
      let one = form_fits k n h in record { shallow = omega arith; once = omega arith }

  member_fits : (k n : ℕ) {s : Sexpr} {x : List ℕ} {type : Option TypeExpr} {lambda : LambdaWritten}
      → IsMember s x type lambda
      → LambdaFits k n (s ▹ end) lambda
  member_fits k n (plain_member hx h) =
      let l = lambda_fits k n h in record { shallow = omega arith; once = omega arith }
  member_fits k n (typed_member hx t h) =
      let l = lambda_fits k n h in record { shallow = omega arith; once = omega arith }

  lets_fit : (k n : ℕ) {ds : Sexprs} {xs : List (List ℕ)} {lets : LetForms} → AreLets ds xs lets → LetsFit k n ds lets
  lets_fit k n no_lets = record { shallow = omega arith; once = omega arith }
  lets_fit k n (let_then {form = form} h hs) =
      let one = binding_fits k n h in
      let others = lets_fit k (expand form n).1 hs in
      record { shallow = omega arith; once = omega arith }

  letrecs_fit : (k n : ℕ) {ds : Sexprs} {xs : List (List ℕ)} {members : LetrecForms} → AreLetrecs ds xs members
      → LetrecsFit k n ds members
  letrecs_fit k n no_letrecs = record { shallow = omega arith; once = omega arith }
  letrecs_fit k n (letrec_then {lambda = lambda} h hs) =
      let one = member_fits k n h in
      let others = letrecs_fit k (expand_lambda lambda n).1 hs in
      record { shallow = omega arith; once = omega arith }
