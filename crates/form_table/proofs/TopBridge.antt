-- The pass over a program is the walk with its answer expanded.
use Rattle.std.proofs.Common.{◌≡◌, ℕ, zero, suc, Bool, List, [], ◌∷◌, ◌++◌, Option, Some, None}
use Rattle.std.proofs.Common.{refl, ◌∙◌}
use Rattle.grift_base.specs.declared.places.Pos.{Pos}
use Rattle.grift_base.specs.declared.refusals.RefusalKind.TheVariants.{BadForm}
use Rattle.form_table.specs.declared.words.Word.TheVariants.{Lambda, Define}
use Rattle.form_table.specs.Marked.{Sexpr, Sexprs, word, list, end, ◌▹◌, place}
use Rattle.surface_trees.specs.Trees.{TypeExpr}
use Rattle.derived_forms.specs.Written.{Form, LambdaWritten, Top, ExprTop, ValueTop, FunctionTop}
use Rattle.form_table.specs.Walking.{Walked, Reads, Refuses, followed_by, test, colon, binder}
use Rattle.form_table.specs.Walk.{walk, walk_type, walk_lambda}
use Rattle.form_table.specs.TopWalk.{has_body, run_for, run_after, walk_bound, walk_define, walk_top, walk_tops}
use Rattle.derived_forms.specs.Expansion.{◌>>=◌ as ◌>>>=◌, expand, expand_lambda, Part, ExprPart}
use Rattle.derived_forms.specs.Expansion.{ValuePart, FunctionPart, expand_top, expand_tops}
use Rattle.form_table.specs.Pass.{then_with, paired, parse_bound, parse_define}
use Rattle.form_table.specs.Pass.{parse_top, parse_tops, run_behind}
use Rattle.form_table.proofs.Bridge.{fun_ext, expanded, parse_is, parse_lambda_is}

function_form : (p : Pos) (x : List ℕ) (t : Option TypeExpr) (w : Walked LambdaWritten) (names : ℕ)
    → then_with (expanded expand_lambda w names) (λ l names. Reads (FunctionPart p x t l, names))
    ≡ expanded expand_top (followed_by w (λ l. Reads (FunctionTop p x t l))) names
unfolding then_with followed_by paired ◌>>>=◌
function_form p x t (Refuses kind q) names = refl
function_form p x t (Reads l) names = refl

value_form : (p : Pos) (x : List ℕ) (t : Option TypeExpr) (w : Walked Form) (names : ℕ)
    → then_with (expanded expand w names) (λ e names. Reads (ValuePart p x t e, names))
    ≡ expanded expand_top (followed_by w (λ e. Reads (ValueTop p x t e))) names
unfolding then_with followed_by paired ◌>>>=◌
value_form p x t (Refuses kind q) names = refl
value_form p x t (Reads e) names = refl

expression_form : (p : Pos) (w : Walked Form) (names : ℕ)
    → then_with (expanded expand w names) (λ e names. Reads (ExprPart p e, names))
    ≡ expanded expand_top (followed_by w (λ e. Reads (ExprTop p e))) names
unfolding then_with followed_by paired ◌>>>=◌
expression_form p (Refuses kind q) names = refl
expression_form p (Reads e) names = refl

bound_is : (p : Pos) (x : List ℕ) (t : Option TypeExpr) (s : Sexpr)
    → parse_bound p x t s ≡ expanded expand_top (walk_bound p x t s)
bound_is p x t (list r (word l Lambda ▹ f)) =
    (λ i. λ names. then_with (parse_lambda_is r f i names) (λ l names. Reads (FunctionPart p x t l, names)))
    ∙ fun_ext (λ names. function_form p x t (walk_lambda r f) names)
bound_is p x t s =
    (λ i. λ names. then_with (parse_is s i names) (λ e names. Reads (ValuePart p x t e, names)))
    ∙ fun_ext (λ names. value_form p x t (walk s) names)

-- ---- definitions

no_head : (done : Walked Bool) (r : Pos) (names : ℕ)
    → then_with {B = Part} (paired done names) (λ done names. Refuses BadForm r)
    ≡ expanded expand_top (followed_by done (λ done. Refuses BadForm r)) names
unfolding then_with followed_by paired
no_head (Reads done) r names = refl
no_head (Refuses kind q) r names = refl

function_row : (p : Pos) (done : Walked Bool) (x : Walked (List ℕ)) (l : Walked LambdaWritten) (names : ℕ)
    → then_with (paired done names) (λ done names. then_with (paired x names)
    (λ x names. then_with (expanded expand_lambda l names)
    (λ l names. Reads (FunctionPart p x None l, names))))
    ≡ expanded expand_top (followed_by done (λ done. followed_by x (λ x. followed_by l
    (λ l. Reads (FunctionTop p x None l))))) names
unfolding then_with followed_by paired ◌>>>=◌
function_row p (Refuses kind q) x l names = refl
function_row p (Reads done) (Refuses kind q) l names = refl
function_row p (Reads done) (Reads x) (Refuses kind q) names = refl
function_row p (Reads done) (Reads x) (Reads l) names = refl

name_row : (x : Walked (List ℕ)) (next : List ℕ → Walked Top) (names : ℕ)
    → then_with (paired x names) (λ x names. expanded expand_top (next x) names)
    ≡ expanded expand_top (followed_by x next) names
unfolding then_with followed_by paired
name_row (Refuses kind q) next names = refl
name_row (Reads x) next names = refl

typed_row : (x : Walked (List ℕ)) (c : Walked Bool) (t : Walked TypeExpr) (next : List ℕ → TypeExpr → Walked Top)
    (names : ℕ)
    → then_with (paired x names) (λ x names. then_with (paired c names) (λ done names.
    then_with (paired t names) (λ t names. expanded expand_top (next x t) names)))
    ≡ expanded expand_top (followed_by x (λ x. followed_by c (λ done. followed_by t (λ t. next x t)))) names
unfolding then_with followed_by paired
typed_row (Refuses kind q) c t next names = refl
typed_row (Reads x) (Refuses kind q) t next names = refl
typed_row (Reads x) (Reads c) (Refuses kind q) next names = refl
typed_row (Reads x) (Reads c) (Reads t) next names = refl

define_is : (run : List (List ℕ)) (p : Pos) (ds : Sexprs)
    → parse_define run p ds ≡ expanded expand_top (walk_define run p ds)
define_is run p (list r end ▹ body) = fun_ext (λ names. no_head (test (has_body body) BadForm p) r names)
define_is run p (list r (x ▹ params) ▹ body) =
    (λ i. λ names. then_with (paired (test (has_body body) BadForm p) names)
    (λ done names. then_with (paired (binder run x) names)
    (λ x names. then_with (parse_lambda_is p (list r params ▹ body) i names)
    (λ l names. Reads (FunctionPart p x None l, names)))))
    ∙ fun_ext (λ names. function_row p (test (has_body body) BadForm p) (binder run x)
    (walk_lambda p (list r params ▹ body)) names)
define_is run p (x ▹ e ▹ end) =
    (λ i. λ names. then_with (paired (binder (run_for e run) x) names)
    (λ x names. bound_is p x None e i names))
    ∙ fun_ext (λ names. name_row (binder (run_for e run) x) (λ x. walk_bound p x None e) names)
define_is run p (x ▹ c ▹ t ▹ e ▹ end) =
    (λ i. λ names. then_with (paired (binder (run_for e run) x) names)
    (λ x names. then_with (paired (colon c) names)
    (λ done names. then_with (paired (walk_type t) names)
    (λ t names. bound_is p x (Some t) e i names))))
    ∙ fun_ext (λ names. typed_row (binder (run_for e run) x) (colon c) (walk_type t)
    (λ x t. walk_bound p x (Some t) e) names)
define_is run p ds = refl

top_is : (run : List (List ℕ)) (s : Sexpr) → parse_top run s ≡ expanded expand_top (walk_top run s)
top_is run (list p (word q Define ▹ elements)) = define_is run p elements
top_is run s =
    (λ i. λ names. then_with (parse_is s i names) (λ e names. Reads (ExprPart (place s) e, names)))
    ∙ fun_ext (λ names. expression_form (place s) (walk s) names)

-- ---- forms one after another

last_step : (top : Top) (others : Walked (List Top)) (names : ℕ)
    → then_with (expanded expand_tops others (expand_top top names).1)
    (λ others after. Reads ((expand_top top names).0 ∷ others, after))
    ≡ expanded expand_tops (followed_by others (λ others. Reads (top ∷ others))) names
unfolding then_with followed_by paired ◌>>>=◌
last_step top (Reads others) names = refl
last_step top (Refuses kind q) names = refl

tops_step : (top : Walked Top) (run : List (List ℕ)) (others : List (List ℕ) → Walked (List Top)) (names : ℕ)
    → then_with (expanded expand_top top names)
    (λ part names. then_with (expanded expand_tops (others (run_behind run part)) names)
    (λ others names. Reads (part ∷ others, names)))
    ≡ expanded expand_tops (followed_by top (λ top. followed_by (others (run_after run top))
    (λ others. Reads (top ∷ others)))) names
unfolding then_with followed_by paired ◌>>>=◌
tops_step (Refuses kind q) run others names = refl
tops_step (Reads (ExprTop p f)) run others names = last_step (ExprTop p f) (others []) names
tops_step (Reads (ValueTop p x t f)) run others names = last_step (ValueTop p x t f) (others []) names
tops_step (Reads (FunctionTop p x t l)) run others names =
    last_step (FunctionTop p x t l) (others (run ++ x ∷ [])) names

pub tops_are : (room : ℕ) (run : List (List ℕ)) (ds : Sexprs)
    → parse_tops room run ds ≡ expanded expand_tops (walk_tops room run ds)
tops_are zero run end = refl
tops_are (suc room) run end = refl
tops_are zero run (s ▹ rest) = refl
tops_are (suc room) run (s ▹ rest) =
    (λ i. λ names. then_with (top_is run s i names)
    (λ part names. then_with (tops_are room (run_behind run part) rest i names)
    (λ others names. Reads (part ∷ others, names))))
    ∙ fun_ext (λ names. tops_step (walk_top run s) run (λ run. walk_tops room run rest) names)
