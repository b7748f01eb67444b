-- A program that was read has what the elaboration asks of a program.
use Rattle.std.proofs.Common.{◌≡◌, ◌≤◌, ◌+◌, ℕ, pos, max, Bool, true, false, List, [], ◌∷◌, length}
use Rattle.std.proofs.Common.{Option, Some, None, refl, sym, ◌∙◌, subst, arith}
use Rattle.std.specs.Int.{w64}
use Rattle.std.specs.Int.RustNames.{FitsSigned}
use Rattle.grift_base.specs.declared.places.Pos.{Pos}
use Rattle.grift_base.specs.declared.operators.PrimOp.{PrimOp}
use Rattle.grift_base.specs.declared.operators.PrimOp.TheVariants.{Add, Sub, Mul, Quot, Rem, Lt, Le, Eq, Ge, Gt, Not}
use Rattle.grift_base.specs.declared.operators.PrimOp.TheVariants.{PrintInt, Newline, ReadInt, MakeBox, Unbox, BoxSet}
use Rattle.grift_base.specs.declared.operators.PrimOp.TheVariants.{MakeVector, VectorRef, VectorSet, VectorLength}
use Rattle.sexpr_reader.specs.Datum.{Datums}
use Rattle.sexpr_reader.specs.Token.{tokens}
use Rattle.sexpr_reader.specs.Grammar.{Reads}
use Rattle.surface_trees.specs.declared.names.Ident.{Ident}
use Rattle.surface_trees.specs.declared.names.Ident.TheVariants.{Source, Fresh}
use Rattle.derived_forms.specs.declared.loops.LoopNames.{LoopNames}
use Rattle.form_table.specs.Words.{operand_count}
use Rattle.form_table.specs.Marked.{Sexpr, Sexprs, ◌▹◌, all_marked}
use Rattle.form_table.specs.Marked.{how_many as how_many_sexprs}
use Rattle.surface_trees.specs.Trees.{TypeExpr, TypeExprs, Param, Expr, ExprAt, Exprs, NoExprs}
use Rattle.surface_trees.specs.Trees.{ExprThen, CallNode, LambdaExpr, LetBindings, NoLets, LetThen}
use Rattle.derived_forms.specs.Written.{Form, Forms, LambdaWritten, LetForms, LetrecForms, Top}
use Rattle.derived_forms.specs.Expansion.{◌>>=◌, chain_of, one_expr, two_exprs, name_at, int_at, goes_on, next_count}
use Rattle.derived_forms.specs.Expansion.{loop_of, counting, gathering, repeat_of, repeat_into_of, loop_names}
use Rattle.derived_forms.specs.Expansion.{type_or_dyn}
use Rattle.derived_forms.specs.Expansion.{expand, expand_all, expand_lambda, expand_lets, expand_letrecs, expand_top}
use Rattle.derived_forms.specs.Expansion.{expand_tops, Part, ExprPart, ValuePart, FunctionPart, Rest}
use Rattle.derived_forms.specs.Expansion.{Alone, Run, closed, before, ending, joined, whole}
use Rattle.form_table.specs.Table.{IsType, is_int, is_bool, is_unit, is_dyn, is_empty, is_tuple, is_ref, is_vect}
use Rattle.form_table.specs.Table.{is_function, AreTypes, no_types, type_then, AreArrow, arrow_to, from_then}
use Rattle.form_table.specs.Table.{is_plain, is_typed, AreParams, no_params, param_then}
use Rattle.form_table.specs.Table.{IsParamList, is_param_list, IsForm, integer_row, truth_row, name_row, unit_row}
use Rattle.form_table.specs.Table.{lambda_row, let_row, letrec_row, if_row, begin_row, ascribe_row, and_row, or_row}
use Rattle.form_table.specs.Table.{repeat_row, repeat_into_row, tuple_row, proj_row, operator_row, call_row}
use Rattle.form_table.specs.Table.{AreForms, no_forms, form_then, IsLambda, typed_lambda, plain_lambda, IsBinding}
use Rattle.form_table.specs.Table.{plain_binding, typed_binding, IsMember, plain_member, typed_member, AreLets}
use Rattle.form_table.specs.Table.{no_lets, let_then, AreLetrecs, no_letrecs, letrec_then}
use Rattle.form_table.specs.TopTable.{IsTop, function_row, define_row, typed_define_row, expression_row, IsBound}
use Rattle.form_table.specs.TopTable.{function_bound, value_bound, AreTops, no_tops, top_then}
use Rattle.form_table.specs.Programs.{AreExpr}
use Rattle.cast_rules.specs.Sources.{how_many}
use Rattle.cast_rules.specs.Operators.{operands_of}
use Rattle.cast_rules.specs.Programs.{HasTypeWidths, HaveTypeWidths, how_many_types, depth_of, depth_of_all}
use Rattle.cast_rules.specs.Programs.{IsWrittenType, MayBeWritten, AreSourceParams, IsSource, IsSourceLambda}
use Rattle.cast_rules.specs.Programs.{AreSources, IsSourceBody, AreSourceBindings, AreSourceMembers}
use Rattle.form_table.proofs.Public.{brackets, brackets_of, brackets_of_are}
use Rattle.front_end.proofs.ReadPrograms.{NumbersFit, AllFit, all_fit}

-- ---- types

record TypeFits (s : Sexpr) (type : TypeExpr) : Type 0 where
  widths : HasTypeWidths type
  shallow : depth_of type ≤ brackets s

record TypesFit (ds : Sexprs) (types : TypeExprs) : Type 0 where
  widths : HaveTypeWidths types
  shallow : depth_of_all types ≤ brackets_of ds
  count : how_many_types types ≡ how_many_sexprs ds

record ArrowFits (ds : Sexprs) (types : TypeExprs) (result : TypeExpr) : Type 0 where
  widths : HaveTypeWidths types
  result_widths : HasTypeWidths result
  shallow : max (depth_of_all types) (depth_of result) ≤ brackets_of ds
  count : 2 + how_many_types types ≡ how_many_sexprs ds

mutual
  type_fits : {s : Sexpr} {type : TypeExpr} → IsType s type → TypeFits s type
  type_fits is_int = record { widths = (refl, tt); shallow = omega arith }
  type_fits is_bool = record { widths = (refl, tt); shallow = omega arith }
  type_fits is_unit = record { widths = (refl, tt); shallow = omega arith }
  type_fits is_dyn = record { widths = (refl, tt); shallow = omega arith }
  type_fits is_empty = record { widths = (refl, tt); shallow = omega arith }
  type_fits (is_tuple h few) =
      let all = types_fit h in
      record { widths = (all.widths, omega arith, omega arith); shallow = omega arith }
  type_fits (is_ref h) = let one = type_fits h in record { widths = one.widths; shallow = omega arith }
  type_fits (is_vect h) = let one = type_fits h in record { widths = one.widths; shallow = omega arith }
  type_fits (is_function h few) =
      let all = arrow_fits h in
      record { widths = (all.widths, all.result_widths, omega arith); shallow = omega arith }

  types_fit : {ds : Sexprs} {types : TypeExprs} → AreTypes ds types → TypesFit ds types
  types_fit no_types = record { widths = tt; shallow = omega arith; count = refl }
  types_fit (type_then h hs) =
      let one = type_fits h in
      let all = types_fit hs in
      record { widths = (one.widths, all.widths); shallow = omega arith; count = omega arith }

  arrow_fits : {ds : Sexprs} {types : TypeExprs} {result : TypeExpr} → AreArrow ds types result
      → ArrowFits ds types result
  arrow_fits (arrow_to h) =
      let one = type_fits h in
      record { widths = tt; result_widths = one.widths; shallow = omega arith; count = refl }
  arrow_fits (from_then h hs) =
      let one = type_fits h in
      let all = arrow_fits hs in
      record {
        widths = (one.widths, all.widths);
        result_widths = all.result_widths;
        shallow = omega arith;
        count = omega arith;
      }

written : {s : Sexpr} {type : TypeExpr} → IsType s type → brackets s ≤ 200 → IsWrittenType type
written h low = let one = type_fits h in (one.widths, omega arith)

-- ---- parameters

params_fit : {ds : Sexprs} {xs : List (List ℕ)} {params : List Param} → AreParams ds xs params
    → brackets_of ds ≤ 200 → AreSourceParams params × (length params ≡ how_many_sexprs ds)
params_fit no_params low = (tt, refl)
params_fit (param_then (is_plain x) rest) low =
    let others = params_fit rest (omega arith) in ((tt, others.0), omega (arith, others.1))
params_fit (param_then (is_typed x t) rest) low =
    let others = params_fit rest (omega arith) in ((written t (omega arith), others.0), omega (arith, others.1))

record ParamsFit (params : List Param) : Type 0 where
  sources : AreSourceParams params
  few : length params ≤ 6

param_list_fits : {s : Sexpr} {params : List Param} → IsParamList s params → brackets s ≤ 200 → ParamsFit params
param_list_fits (is_param_list h new few) low =
    let all = params_fit h (omega arith) in record { sources = all.0; few = omega (arith, all.1) }

-- ---- bodies, chains and loops

body_of : (es : Exprs) → AreSources es → 1 ≤ how_many es → IsSourceBody es
body_of NoExprs h some = absurd (omega arith)
body_of (ExprThen e NoExprs) h some = h.0
body_of (ExprThen e (ExprThen second rest)) h some =
    (h.0, body_of (ExprThen second rest) h.1 (omega arith))

chain_source : (all : Bool) (p : Pos) (es : Exprs) → AreSources es → IsSource (chain_of all p es)
chain_source all p NoExprs h = tt
chain_source all p (ExprThen e NoExprs) h = h.0
chain_source true p (ExprThen e (ExprThen f rest)) h =
    (h.0, chain_source true p (ExprThen f rest) h.1, tt)
chain_source false p (ExprThen e (ExprThen f rest)) h =
    (h.0, tt, chain_source false p (ExprThen f rest) h.1)

int_written : (p : Pos) → IsWrittenType (int_at p)
int_written p = ((refl, tt), omega arith)

one_fits : FitsSigned w64 (pos 1)
one_fits = omega arith

-- `(< i E)` and `(+ i 1)`
goes_on_source : (p : Pos) (i bound : Ident) → IsSource (goes_on p i bound)
goes_on_source p i bound = ((tt, (tt, tt)), refl)

next_source : (p : Pos) (i : Ident) → IsSource (next_count p i)
next_source p i = ((tt, (one_fits, tt)), refl)

loop_source : (p : Pos) (names : LoopNames) (a b : Expr) (others : LetBindings) (lambda : LambdaExpr)
    (arguments : Exprs)
    → IsSource a → IsSource b → AreSourceBindings others → IsSourceLambda lambda → AreSources arguments
    → how_many arguments ≤ 5 → IsSource (loop_of p names a b others lambda arguments)
loop_source p names a b others lambda arguments ha hb ho hl hs few = (
  (ha, int_written p, (hb, int_written p, ho)),
  ((hl, tt, tt), (tt, (tt, hs), omega arith)),
)

repeat_source : (p : Pos) (names : LoopNames) (i : List ℕ) (a b e : Expr) → IsSource a → IsSource b → IsSource e
    → IsSource (repeat_of p names i a b e)
repeat_source p names i a b e ha hb he =
    let call : IsSource (ExprAt p (CallNode (name_at p (Fresh names.function))
    (one_expr (next_count p (Source i))))) = (tt, (next_source p (Source i), tt), omega arith) in
    let lambda : IsSourceLambda (counting p names (Source i) e) = (
      (goes_on_source p (Source i) (Fresh names.bound), (he, call), tt),
      (int_written p, tt),
      omega arith,
      ((refl, tt), omega arith),
    ) in
    loop_source p names a b NoLets (counting p names (Source i) e) NoExprs ha hb tt lambda tt (omega arith)

into_source : (p : Pos) (names : LoopNames) (value : Ident) (i : List ℕ) (a b : Expr) (c : List ℕ) (t : TypeExpr)
    (d e : Expr) → IsSource a → IsSource b → IsWrittenType t → IsSource d → IsSource e
    → IsSource (repeat_into_of p names value i a b c t d e)
into_source p names value i a b c t d e ha hb ht hd he =
    let call : IsSource (ExprAt p (CallNode (name_at p (Fresh names.function))
    (two_exprs (next_count p (Source i)) e))) = (tt, (next_source p (Source i), (he, tt)), omega arith) in
    let lambda : IsSourceLambda (gathering p names (Source i) (Source c) t e) = (
      (goes_on_source p (Source i) (Fresh names.bound), call, tt),
      (int_written p, (ht, tt)),
      omega arith,
      ht,
    ) in
    loop_source p names a b (LetThen value (Some t) d NoLets) (gathering p names (Source i) (Source c) t e)
    (one_expr (name_at p value)) ha hb (hd, ht, tt) lambda (tt, tt) (omega arith)

type_written : (p : Pos) (type : Option TypeExpr) → MayBeWritten type → IsWrittenType (type_or_dyn p type)
type_written p (Some t) h = h
type_written p None h = ((refl, tt), omega arith)

-- ---- operators

operands_count : (o : PrimOp) → operand_count o ≡ length (operands_of o)
operands_count Add = refl
operands_count Sub = refl
operands_count Mul = refl
operands_count Quot = refl
operands_count Rem = refl
operands_count Lt = refl
operands_count Le = refl
operands_count Eq = refl
operands_count Ge = refl
operands_count Gt = refl
operands_count Not = refl
operands_count PrintInt = refl
operands_count Newline = refl
operands_count ReadInt = refl
operands_count MakeBox = refl
operands_count Unbox = refl
operands_count BoxSet = refl
operands_count MakeVector = refl
operands_count VectorRef = refl
operands_count VectorSet = refl
operands_count VectorLength = refl

-- ---- each form

record AllSources (ds : Sexprs) (es : Exprs) : Type 0 where
  sources : AreSources es
  count : how_many es ≡ how_many_sexprs ds

-- what is bound, and its written type
record BindingSource (type : Option TypeExpr) (e : Expr) : Type 0 where
  written : MayBeWritten type
  source : IsSource e

record MemberSource (type : Option TypeExpr) (lambda : LambdaExpr) : Type 0 where
  written : MayBeWritten type
  source : IsSourceLambda lambda

-- forms of which there is one at least are a body
body_of_all : {e : Sexpr} {rest : Sexprs} (es : Exprs) → AllSources (e ▹ rest) es → IsSourceBody es
body_of_all es all = let count = all.count in body_of es all.sources (omega arith)

mutual
  unfolding ◌>>=◌

  form_source : (n : ℕ) {s : Sexpr} {form : Form} → IsForm s form → NumbersFit s → brackets s ≤ 200
      → IsSource (expand form n).0
  form_source n integer_row fit low = fit
  form_source n truth_row fit low = tt
  form_source n (name_row x) fit low = tt
  form_source n unit_row fit low = tt
  form_source n (lambda_row h) fit low = lambda_source n h fit.1 (omega arith)
  form_source n (let_row {lets = lets} h new b) fit low =
      let l = lets_source n h fit.1.0 (omega arith) in
      (l, body_of_all _ (forms_source (expand_lets lets n).1 b fit.1.1 (omega arith)))
  form_source n (letrec_row {members = members} h new b) fit low =
      let l = letrecs_source n h fit.1.0 (omega arith) in
      (l, body_of_all _ (forms_source (expand_letrecs members n).1 b fit.1.1 (omega arith)))
  form_source n (if_row {condition = condition} {on_true = on_true} c t e) fit low =
      let one = form_source n c fit.1.0 (omega arith) in
      let two = form_source (expand condition n).1 t fit.1.1.0 (omega arith) in
      let three = form_source (expand on_true (expand condition n).1).1 e fit.1.1.1.0 (omega arith) in
      (one, two, three)
  form_source n (begin_row b) fit low = body_of_all _ (forms_source n b fit.1 (omega arith))
  form_source n (ascribe_row h t) fit low =
      (form_source n h fit.1.0 (omega arith), written t (omega arith))
  form_source n (and_row {p = p} {forms = forms} h few) fit low =
      chain_source true p (expand_all forms n).0 (forms_source n h fit.1 (omega arith)).sources
  form_source n (or_row {p = p} {forms = forms} h few) fit low =
      chain_source false p (expand_all forms n).0 (forms_source n h fit.1 (omega arith)).sources
  form_source n (repeat_row {p = p} {x = x} {first = first} {bound = bound} {form = form} hx ha hb he) fit low =
      let one = form_source n ha fit.1.0.1.0 (omega arith) in
      let two = form_source (expand first n).1 hb fit.1.0.1.1.0 (omega arith) in
      let three = form_source (expand bound (expand first n).1).1 he fit.1.1.0 (omega arith) in
      let last = (expand form (expand bound (expand first n).1).1).1 in
      repeat_source p (loop_names last).0 x (expand first n).0 (expand bound (expand first n).1).0
      (expand form (expand bound (expand first n).1).1).0 one two three
  form_source n (repeat_into_row {p = p} {x = x} {y = y} {type = type} {first = first} {bound = bound} {start = start}
      {form = form} hx ha hb hc new he) fit low =
      let one = form_source n ha fit.1.0.1.0 (omega arith) in
      let two = form_source (expand first n).1 hb fit.1.0.1.1.0 (omega arith) in
      let n2 = (expand bound (expand first n).1).1 in
      let three = binding_source n2 hc fit.1.1.0 (omega arith) in
      let n3 = (expand start n2).1 in
      let four = form_source n3 he fit.1.1.1.0 (omega arith) in
      let n4 = (expand form n3).1 in
      into_source p (loop_names n4).0 (Fresh (n4 + 3)) x (expand first n).0 (expand bound (expand first n).1).0 y
      (type_or_dyn p type) (expand start n2).0 (expand form n3).0 one two (type_written p type three.written)
      three.source four
  form_source n (tuple_row h few) fit low =
      let all = forms_source n h fit.1 (omega arith) in
      let count = all.count in
      (all.sources, omega arith, omega arith)
  form_source n (proj_row h) fit low = form_source n h fit.1.0 (omega arith)
  form_source n (operator_row {o = o} h count) fit low =
      let all = forms_source n h fit.1 (omega arith) in
      (all.sources, all.count ∙ count ∙ operands_count o)
  form_source n (call_row {function = function} h hs few) fit low =
      let one = form_source n h fit.0 (omega arith) in
      let all = forms_source (expand function n).1 hs fit.1 (omega arith) in
      let count = all.count in
      (one, all.sources, omega arith)

  forms_source : (n : ℕ) {ds : Sexprs} {forms : Forms} → AreForms ds forms → AllFit ds → brackets_of ds ≤ 200
      → AllSources ds (expand_all forms n).0
  forms_source n no_forms fit low = record { sources = tt; count = refl }
  forms_source n (form_then {form = form} h hs) fit low =
      let one = form_source n h fit.0 (omega arith) in
      let all = forms_source (expand form n).1 hs fit.1 (omega arith) in
      let count = all.count in
      record { sources = (one, all.sources); count = omega arith }

  lambda_source : (n : ℕ) {p : Pos} {ds : Sexprs} {lambda : LambdaWritten} → IsLambda p ds lambda → AllFit ds
      → brackets_of ds ≤ 200 → IsSourceLambda (expand_lambda lambda n).0
  lambda_source n (typed_lambda hp t b) fit low =
      let params = param_list_fits hp (omega arith) in
      let body = body_of_all _ (forms_source n b fit.1.1.1 (omega arith)) in
      (body, params.sources, params.few, written t (omega arith))
  lambda_source n (plain_lambda hp b) fit low =
      let params = param_list_fits hp (omega arith) in
      let body = body_of_all _ (forms_source n b fit.1 (omega arith)) in
      (body, params.sources, params.few, tt)

  binding_source : (n : ℕ) {s : Sexpr} {x : List ℕ} {type : Option TypeExpr} {form : Form} → IsBinding s x type form
      → NumbersFit s → brackets s ≤ 200 → BindingSource type (expand form n).0
  binding_source n (plain_binding hx h) fit low =
      record { written = tt; source = form_source n h fit.1.0 (omega arith) }
  binding_source n (typed_binding hx t h) fit low =
      record { written = written t (omega arith); source = form_source n h fit.1.1.1.0 (omega arith) }

  member_source : (n : ℕ) {s : Sexpr} {x : List ℕ} {type : Option TypeExpr} {lambda : LambdaWritten}
      → IsMember s x type lambda → NumbersFit s → brackets s ≤ 200 → MemberSource type (expand_lambda lambda n).0
  member_source n (plain_member hx h) fit low =
      record { written = tt; source = lambda_source n h fit.1.0.1 (omega arith) }
  member_source n (typed_member hx t h) fit low =
      record { written = written t (omega arith); source = lambda_source n h fit.1.1.1.0.1 (omega arith) }

  lets_source : (n : ℕ) {ds : Sexprs} {xs : List (List ℕ)} {lets : LetForms} → AreLets ds xs lets → AllFit ds
      → brackets_of ds ≤ 200 → AreSourceBindings (expand_lets lets n).0
  lets_source n no_lets fit low = tt
  lets_source n (let_then {form = form} h hs) fit low =
      let one = binding_source n h fit.0 (omega arith) in
      (one.source, one.written, lets_source (expand form n).1 hs fit.1 (omega arith))

  letrecs_source : (n : ℕ) {ds : Sexprs} {xs : List (List ℕ)} {members : LetrecForms} → AreLetrecs ds xs members
      → AllFit ds → brackets_of ds ≤ 200 → AreSourceMembers (expand_letrecs members n).0
  letrecs_source n no_letrecs fit low = tt
  letrecs_source n (letrec_then {lambda = lambda} h hs) fit low =
      let one = member_source n h fit.0 (omega arith) in
      (one.source, one.written, letrecs_source (expand_lambda lambda n).1 hs fit.1 (omega arith))

-- ---- forms of a program

abbrev IsSourcePart : Part → Type 0
IsSourcePart (ExprPart p e) = IsSource e
IsSourcePart (ValuePart p x t e) = IsSource e × MayBeWritten t
IsSourcePart (FunctionPart p x t lambda) = IsSourceLambda lambda × MayBeWritten t

abbrev AreSourceParts : List Part → Type 0
AreSourceParts [] = Unit {0}
AreSourceParts (part ∷ rest) = IsSourcePart part × AreSourceParts rest

bound_source : (n : ℕ) {p : Pos} {x : List ℕ} {t : Option TypeExpr} {s : Sexpr} {top : Top} → IsBound p x t s top
    → MayBeWritten t → NumbersFit s → brackets s ≤ 200 → IsSourcePart (expand_top top n).0
unfolding ◌>>=◌
bound_source n (function_bound h) w fit low = (lambda_source n h fit.1 (omega arith), w)
bound_source n (value_bound h other) w fit low = (form_source n h fit low, w)

top_source : (n : ℕ) {s : Sexpr} {top : Top} → IsTop s top → NumbersFit s → brackets s ≤ 200
    → IsSourcePart (expand_top top n).0
unfolding ◌>>=◌
top_source n (function_row hx h) fit low = (lambda_source n h (fit.1.0.1, fit.1.1) (omega arith), tt)
top_source n (define_row hx h) fit low = bound_source n h tt fit.1.1.0 (omega arith)
top_source n (typed_define_row hx t h) fit low =
    bound_source n h (written t (omega arith)) fit.1.1.1.1.0 (omega arith)
top_source n (expression_row h) fit low = form_source n h fit low

tops_source : (n : ℕ) {ds : Sexprs} {tops : List Top} → AreTops ds tops → AllFit ds → brackets_of ds ≤ 200
    → AreSourceParts (expand_tops tops n).0
unfolding ◌>>=◌
tops_source n no_tops fit low = tt
tops_source n (top_then {top = top} h hs) fit low =
    (top_source n h fit.0 (omega arith), tops_source (expand_top top n).1 hs fit.1 (omega arith))

-- ---- forms put together

abbrev IsSourceRest : Rest → Type 0
IsSourceRest (Alone e) = IsSource e
IsSourceRest (Run p members body) = AreSourceMembers members × IsSource body

closed_source : (rest : Rest) → IsSourceRest rest → IsSource (closed rest)
closed_source (Alone e) h = h
closed_source (Run p members body) h = h

before_source : (part : Part) (rest : Rest) → IsSourcePart part → IsSourceRest rest → IsSourceRest (before part rest)
before_source (ExprPart p e) rest h k = (h, closed_source rest k)
before_source (ValuePart p x t e) rest h k = ((h.0, h.1, tt), closed_source rest k)
before_source (FunctionPart p x t lambda) (Alone body) h k = ((h.0, h.1, tt), k)
before_source (FunctionPart p x t lambda) (Run q members body) h k = ((h.0, h.1, k.0), k.1)

ending_source : (part : Part) → IsSourcePart part → IsSourceRest (ending part)
ending_source (ExprPart p e) h = h
ending_source (ValuePart p x t e) h = ((h.0, h.1, tt), tt)
ending_source (FunctionPart p x t lambda) h = ((h.0, h.1, tt), tt)

joined_source : (part : Part) (rest : List Part) → IsSourcePart part → AreSourceParts rest
    → IsSourceRest (joined part rest)
joined_source part [] h k = ending_source part h
joined_source part (next ∷ rest) h k = before_source part (joined next rest) h (joined_source next rest k.0 k.1)

whole_source : (parts : List Part) → AreSourceParts parts → IsSource (whole parts)
whole_source [] h = tt
whole_source (part ∷ rest) h = closed_source (joined part rest) (joined_source part rest h.0 h.1)

-- the program that a text reads as is one that the elaboration takes
pub read_programs_are_sources : (text : List ℕ) (datums : Datums) (program : Expr) → Reads text datums
    → AreExpr (all_marked datums) program → IsSource program
read_programs_are_sources text datums program reads forms =
    let same = brackets_of_are datums in
    let shallow = reads.shallow in
    let fit = all_fit datums (tokens text) reads.forms in
    let parts = tops_source 0 forms.1.0 fit (omega arith) in
    subst IsSource (sym forms.2) (whole_source (expand_tops forms.0 0).0 parts)
