-- The walk reads each form of a program.
use Rattle.std.proofs.Common.{◌≡◌, ◌≤◌, zero, suc, ℕ, Bool, true, false, List, [], ◌∷◌, refl, ap, ◌∙◌}
use Rattle.std.proofs.Common.{arith}
use Rattle.std.specs.Prelude.{Option, Some, None}
use Rattle.grift_base.specs.declared.places.Pos.{Pos}
use Rattle.surface_trees.specs.Trees.{TypeExpr}
use Rattle.form_table.specs.declared.words.Word.TheVariants.{Lambda}
use Rattle.form_table.specs.declared.words.Word.TheVariants.{Define, Colon}
use Rattle.form_table.specs.Marked.{Sexpr, Sexprs, number, truth_value, word, name, list, end, ◌▹◌, place, how_many}
use Rattle.derived_forms.specs.Written.{LambdaWritten, Form, Top, ExprTop, ValueTop, FunctionTop}
use Rattle.form_table.specs.Walking.{Reads, followed_by, give, is_among, binder, colon}
use Rattle.form_table.specs.Walk.{walk, walk_type, walk_lambda}
use Rattle.form_table.specs.TopWalk.{walk_bound, run_for, run_after, walk_top, walk_tops, has_body}
use Rattle.form_table.specs.TopTable.{IsTop, function_row, define_row, typed_define_row, expression_row, AreTops}
use Rattle.form_table.specs.TopTable.{no_tops, top_then, IsBound, function_bound, value_bound, is_lambda_form}
use Rattle.form_table.proofs.Runs.{RunsAreNew}
use Rattle.form_table.proofs.Binds.{bind_reads, refused, test_reads}
use Rattle.form_table.proofs.FormsRead.{form_read, lambda_read, name_read}
use Rattle.form_table.proofs.TypesRead.{type_read}
use Rattle.form_table.specs.Table.{IsLambda, typed_lambda, plain_lambda, form_then, IsName, is_name}
use Rattle.grift_base.specs.declared.refusals.RefusalKind.TheVariants.{BadForm}

value_step : (p : Pos) (x : List ℕ) (t : Option TypeExpr) (e : Sexpr) → is_lambda_form e ≡ false
    → walk_bound p x t e ≡ followed_by (walk e) (λ form. give (ValueTop p x t form))
value_step p x t (list r (word l Lambda ▹ f)) h = absurd cc
value_step p x t e h = refl

pub bound_read : {p : Pos} {x : List ℕ} {t : Option TypeExpr} {e : Sexpr} {top : Top} → IsBound p x t e top
    → walk_bound p x t e ≡ Reads top
bound_read (function_bound h) = bind_reads _ (lambda_read h) refl
bound_read (value_bound {p = p} {x = x} {t = t} {e = e} h plain) =
    value_step p x t e plain ∙ bind_reads _ (form_read h) refl

-- an expression is no definition
expression_step : (e : Sexpr) (form : Form) (run : List (List ℕ)) → walk e ≡ Reads form
    → walk_top run e ≡ Reads (ExprTop (place e) form)
expression_step (list p (word q Define ▹ elements)) form run h = absurd (refused h)
expression_step e form run h = bind_reads _ h refl

body_step : (e : Sexpr) (rest : Sexprs) (form : Form) → walk e ≡ Reads form → has_body (e ▹ rest) ≡ true
body_step (word q w) rest form h = absurd (refused h)
body_step (number q n) rest form h = refl
body_step (truth_value q b) rest form h = refl
body_step (name q x t) rest form h = refl
body_step (list q l) rest form h = refl

lambda_has_body : {p r : Pos} {params body : Sexprs} {lambda : LambdaWritten}
    → IsLambda p (list r params ▹ body) lambda → has_body body ≡ true
lambda_has_body (typed_lambda ps t b) = refl
lambda_has_body (plain_lambda {e = e} {rest = rest} ps (form_then h k)) = body_step e rest _ (form_read h)

value_run : (e : Sexpr) (run : List (List ℕ)) → is_lambda_form e ≡ false → run_for e run ≡ []
value_run (list r (word l Lambda ▹ f)) run h = absurd cc
value_run e run h = refl

-- the name of a function is new in the run
abbrev pub IsNewIn : List (List ℕ) → Top → Type 0
IsNewIn run (FunctionTop p x t lambda) = is_among run x ≡ false
IsNewIn run _ = Unit {0}

run_new : {p : Pos} {x : List ℕ} {t : Option TypeExpr} {e : Sexpr} {top : Top} → IsBound p x t e top
    → (run : List (List ℕ)) → IsNewIn run top → is_among (run_for e run) x ≡ false
run_new (function_bound h) run new = new
run_new (value_bound {x = x} {e = e} h plain) run new = ap (λ names. is_among names x) (value_run e run plain)

define_step : {s : Sexpr} {x : List ℕ} → IsName s x → (p q : Pos) (e : Sexpr) (run : List (List ℕ))
    → walk_top run (list p (word q Define ▹ s ▹ e ▹ end)) ≡ followed_by (binder (run_for e run) s)
    (λ bytes. walk_bound p bytes None e)
define_step is_name p q e run = refl

typed_define_step : {s : Sexpr} {x : List ℕ} → IsName s x → (p q c : Pos) (t e : Sexpr) (run : List (List ℕ))
    → walk_top run (list p (word q Define ▹ s ▹ word c Colon ▹ t ▹ e ▹ end)) ≡ followed_by (binder (run_for e run) s)
    (λ bytes. followed_by (colon (word c Colon))
    (λ done. followed_by (walk_type t) (λ type. walk_bound p bytes (Some type) e)))
typed_define_step is_name p q c t e run = refl

function_step : (p q r : Pos) (s : Sexpr) (params body : Sexprs) (x : List ℕ) (lambda : LambdaWritten)
    (run : List (List ℕ)) → has_body body ≡ true → binder run s ≡ Reads x
    → walk_lambda p (list r params ▹ body) ≡ Reads lambda
    → walk_top run (list p (word q Define ▹ list r (s ▹ params) ▹ body)) ≡ Reads (FunctionTop p x None lambda)
function_step p q r s params body x lambda run a b c =
    bind_reads _ (test_reads (has_body body) BadForm p a) (bind_reads _ b (bind_reads _ c refl))

top_read : {s : Sexpr} {top : Top} → IsTop s top → (run : List (List ℕ)) → IsNewIn run top → walk_top run s ≡ Reads top
top_read (function_row {p = p} {q = q} {r = r} {s = s} {params = params} {body = body} {x = x} {lambda = lambda} h k)
    run new = function_step p q r s params body x lambda run (lambda_has_body k) (name_read h run new) (lambda_read k)
top_read (define_row {p = p} {q = q} {e = e} h b) run new =
    define_step h p q e run ∙ bind_reads _ (name_read h (run_for e run) (run_new b run new)) (bound_read b)
top_read (typed_define_row {p = p} {q = q} {c = c} {t = t} {e = e} h k b) run new =
    typed_define_step h p q c t e run ∙ bind_reads _ (name_read h (run_for e run) (run_new b run new))
    (bind_reads {A = Bool} _ {a = true} refl (bind_reads _ (type_read k) (bound_read b)))
top_read (expression_row {e = e} h) run new = expression_step e _ run (form_read h)

first_new : (run : List (List ℕ)) (top : Top) (rest : List Top) → RunsAreNew run (top ∷ rest)
    → IsNewIn run top × RunsAreNew (run_after run top) rest
first_new run (FunctionTop p x t lambda) rest new = (new.0, new.1)
first_new run (ExprTop p f) rest new = (tt, new)
first_new run (ValueTop p x t f) rest new = (tt, new)

pub tops_read : {ds : Sexprs} {tops : List Top} → AreTops ds tops → (room : ℕ) (run : List (List ℕ))
    → RunsAreNew run tops → how_many ds ≤ room → walk_tops room run ds ≡ Reads tops
tops_read no_tops zero run new few = refl
tops_read no_tops (suc room) run new few = refl
tops_read (top_then h k) zero run new few = absurd (omega arith)
tops_read (top_then {top = top} {tops = tops} h k) (suc room) run new few =
    let both = first_new run top tops new in
    bind_reads _ (top_read h run both.0) (bind_reads _ (tops_read k room _ both.1 (omega arith)) refl)
