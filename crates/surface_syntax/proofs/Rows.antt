-- The rows of the pass over the forms of a program, as the reader goes through them.
use Rattle.std.proofs.Common.{◌≡◌, ◌≢◌, ◌-◌, ℕ, zero, suc, true, false, List, [], ◌∷◌, ◌++◌}
use Rattle.std.proofs.Common.{map, Option, Some, None, refl, ap, ◌∙◌, sym, subst, arith, append_assoc}
use Rattle.std.specs.Prelude.{Result, Ok, Err, IfOk, IsErrAnd}
use Rattle.grift_base.specs.declared.places.Pos.{Pos}
use Rattle.grift_base.specs.declared.refusals.RefusalKind.{RefusalKind}
use Rattle.grift_base.specs.declared.refusals.RefusalKind.TheVariants.{BadForm, TooManyForms}
use Rattle.grift_base.specs.declared.refusals.FrontFault.{FrontFault}
use Rattle.grift_base.specs.declared.refusals.FrontFault.TheVariants.{Refused, OutOfMemory}
use Rattle.sexpr_reader.specs.declared.sexps.SexpNode.{SexpNode}
use Rattle.sexpr_reader.specs.declared.sexps.SexpNode.TheVariants.{Int as IntCase, Bool as BoolCase}
use Rattle.sexpr_reader.specs.declared.sexps.SexpNode.TheVariants.{Symbol as SymbolCase, List as ListCase}
use Rattle.sexpr_reader.specs.declared.sexps.SexpList.{SexpList}
use Rattle.sexpr_reader.specs.View.{datum_at}
use Rattle.form_table.specs.declared.words.Word.TheVariants.{Lambda, Let, Letrec, If, Begin, And, Or, Repeat, Tuple}
use Rattle.form_table.specs.declared.words.Word.TheVariants.{TupleProj, Define, Colon, Arrow, Operator}
use Rattle.form_table.specs.declared.words.Mark.{Mark}
use Rattle.form_table.specs.declared.words.Mark.TheVariants.{Reserved, Free}
use Rattle.surface_syntax.specs.declared.tops.Part.{Part as RustPart}
use Rattle.form_table.specs.Marked.{Sexpr, Sexprs, number, truth_value, word, name, list, end, ◌▹◌, place}
use Rattle.form_table.specs.Words.{mark_of}
use Rattle.form_table.specs.Marked.{marked_symbol, marked}
use Rattle.surface_trees.specs.Trees.{TypeExpr, Param, LambdaExpr}
use Rattle.form_table.specs.Walking.{Walked, Reads, Refuses, test, binder, colon, is_lambda_at}
use Rattle.form_table.specs.Walk.{walk_type, walk_params}
use Rattle.form_table.specs.TopWalk.{has_body, run_for}
use Rattle.form_table.specs.TopTable.{is_lambda_form}
use Rattle.derived_forms.specs.Expansion.{Part, ExprPart, ValuePart, FunctionPart}
use Rattle.form_table.specs.Pass.{Parsing, then_with, paired, parse, parse_lambda, parse_lambda_form}
use Rattle.form_table.specs.Pass.{parse_bound, parse_define, parse_top, parse_tops, run_behind}
use Rattle.surface_syntax.specs.Parts.{parse_behind}
use Rattle.surface_syntax.specs.TopParts.{part_of, parse_named, is_definition, parse_definition, Grows}
use Rattle.form_table.specs.Claims.{Parses}
use Rattle.form_table.proofs.Public.{place_marked, stopped, went_out}
use Rattle.surface_syntax.proofs.FormRows.{typed_then, lambda_has, bind_reads, plain_reads}

-- ---- what is bound

pub run_stays : (s : Sexpr) (run : List (List ℕ)) → is_lambda_form s ≡ true → run_for s run ≡ run
run_stays (number r n) run e = absurd (let z : ⊥ = cc in z)
run_stays (truth_value r b) run e = absurd (let z : ⊥ = cc in z)
run_stays (word r w) run e = absurd (let z : ⊥ = cc in z)
run_stays (name r y u) run e = absurd (let z : ⊥ = cc in z)
run_stays (list r end) run e = absurd (let z : ⊥ = cc in z)
run_stays (list r (word l Lambda ▹ f)) run e = refl
run_stays (list r (word l Let ▹ f)) run e = absurd (let z : ⊥ = cc in z)
run_stays (list r (word l Letrec ▹ f)) run e = absurd (let z : ⊥ = cc in z)
run_stays (list r (word l If ▹ f)) run e = absurd (let z : ⊥ = cc in z)
run_stays (list r (word l Begin ▹ f)) run e = absurd (let z : ⊥ = cc in z)
run_stays (list r (word l And ▹ f)) run e = absurd (let z : ⊥ = cc in z)
run_stays (list r (word l Or ▹ f)) run e = absurd (let z : ⊥ = cc in z)
run_stays (list r (word l Repeat ▹ f)) run e = absurd (let z : ⊥ = cc in z)
run_stays (list r (word l Tuple ▹ f)) run e = absurd (let z : ⊥ = cc in z)
run_stays (list r (word l TupleProj ▹ f)) run e = absurd (let z : ⊥ = cc in z)
run_stays (list r (word l Define ▹ f)) run e = absurd (let z : ⊥ = cc in z)
run_stays (list r (word l Colon ▹ f)) run e = absurd (let z : ⊥ = cc in z)
run_stays (list r (word l Arrow ▹ f)) run e = absurd (let z : ⊥ = cc in z)
run_stays (list r (word l (Operator o) ▹ f)) run e = absurd (let z : ⊥ = cc in z)
run_stays (list r (number l n ▹ f)) run e = absurd (let z : ⊥ = cc in z)
run_stays (list r (truth_value l b ▹ f)) run e = absurd (let z : ⊥ = cc in z)
run_stays (list r (name l y u ▹ f)) run e = absurd (let z : ⊥ = cc in z)
run_stays (list r (list l ds ▹ f)) run e = absurd (let z : ⊥ = cc in z)

pub run_ends : (s : Sexpr) (run : List (List ℕ)) → is_lambda_form s ≡ false → run_for s run ≡ []
run_ends (number r n) run e = refl
run_ends (truth_value r b) run e = refl
run_ends (word r w) run e = refl
run_ends (name r y u) run e = refl
run_ends (list r end) run e = refl
run_ends (list r (word l Lambda ▹ f)) run e = absurd (let z : ⊥ = cc in z)
run_ends (list r (word l Let ▹ f)) run e = refl
run_ends (list r (word l Letrec ▹ f)) run e = refl
run_ends (list r (word l If ▹ f)) run e = refl
run_ends (list r (word l Begin ▹ f)) run e = refl
run_ends (list r (word l And ▹ f)) run e = refl
run_ends (list r (word l Or ▹ f)) run e = refl
run_ends (list r (word l Repeat ▹ f)) run e = refl
run_ends (list r (word l Tuple ▹ f)) run e = refl
run_ends (list r (word l TupleProj ▹ f)) run e = refl
run_ends (list r (word l Define ▹ f)) run e = refl
run_ends (list r (word l Colon ▹ f)) run e = refl
run_ends (list r (word l Arrow ▹ f)) run e = refl
run_ends (list r (word l (Operator o) ▹ f)) run e = refl
run_ends (list r (number l n ▹ f)) run e = refl
run_ends (list r (truth_value l b ▹ f)) run e = refl
run_ends (list r (name l y u ▹ f)) run e = refl
run_ends (list r (list l ds ▹ f)) run e = refl

pub bound_function : (p : Pos) (x : List ℕ) (t : Option TypeExpr) (s : Sexpr) (names : ℕ) → is_lambda_form s ≡ true
    → parse_bound p x t s names
    ≡ then_with (parse_lambda_form s names) (λ lambda names. Reads (FunctionPart p x t lambda, names))
bound_function p x t (number r n) names e = absurd (let z : ⊥ = cc in z)
bound_function p x t (truth_value r b) names e = absurd (let z : ⊥ = cc in z)
bound_function p x t (word r w) names e = absurd (let z : ⊥ = cc in z)
bound_function p x t (name r y u) names e = absurd (let z : ⊥ = cc in z)
bound_function p x t (list r end) names e = absurd (let z : ⊥ = cc in z)
bound_function p x t (list r (word l Lambda ▹ f)) names e = refl
bound_function p x t (list r (word l Let ▹ f)) names e = absurd (let z : ⊥ = cc in z)
bound_function p x t (list r (word l Letrec ▹ f)) names e = absurd (let z : ⊥ = cc in z)
bound_function p x t (list r (word l If ▹ f)) names e = absurd (let z : ⊥ = cc in z)
bound_function p x t (list r (word l Begin ▹ f)) names e = absurd (let z : ⊥ = cc in z)
bound_function p x t (list r (word l And ▹ f)) names e = absurd (let z : ⊥ = cc in z)
bound_function p x t (list r (word l Or ▹ f)) names e = absurd (let z : ⊥ = cc in z)
bound_function p x t (list r (word l Repeat ▹ f)) names e = absurd (let z : ⊥ = cc in z)
bound_function p x t (list r (word l Tuple ▹ f)) names e = absurd (let z : ⊥ = cc in z)
bound_function p x t (list r (word l TupleProj ▹ f)) names e = absurd (let z : ⊥ = cc in z)
bound_function p x t (list r (word l Define ▹ f)) names e = absurd (let z : ⊥ = cc in z)
bound_function p x t (list r (word l Colon ▹ f)) names e = absurd (let z : ⊥ = cc in z)
bound_function p x t (list r (word l Arrow ▹ f)) names e = absurd (let z : ⊥ = cc in z)
bound_function p x t (list r (word l (Operator o) ▹ f)) names e = absurd (let z : ⊥ = cc in z)
bound_function p x t (list r (number l n ▹ f)) names e = absurd (let z : ⊥ = cc in z)
bound_function p x t (list r (truth_value l b ▹ f)) names e = absurd (let z : ⊥ = cc in z)
bound_function p x t (list r (name l y u ▹ f)) names e = absurd (let z : ⊥ = cc in z)
bound_function p x t (list r (list l ds ▹ f)) names e = absurd (let z : ⊥ = cc in z)

pub bound_value : (p : Pos) (x : List ℕ) (t : Option TypeExpr) (s : Sexpr) (names : ℕ) → is_lambda_form s ≡ false
    → parse_bound p x t s names ≡ then_with (parse s names) (λ expr names. Reads (ValuePart p x t expr, names))
bound_value p x t (number r n) names e = refl
bound_value p x t (truth_value r b) names e = refl
bound_value p x t (word r w) names e = refl
bound_value p x t (name r y u) names e = refl
bound_value p x t (list r end) names e = refl
bound_value p x t (list r (word l Lambda ▹ f)) names e = absurd (let z : ⊥ = cc in z)
bound_value p x t (list r (word l Let ▹ f)) names e = refl
bound_value p x t (list r (word l Letrec ▹ f)) names e = refl
bound_value p x t (list r (word l If ▹ f)) names e = refl
bound_value p x t (list r (word l Begin ▹ f)) names e = refl
bound_value p x t (list r (word l And ▹ f)) names e = refl
bound_value p x t (list r (word l Or ▹ f)) names e = refl
bound_value p x t (list r (word l Repeat ▹ f)) names e = refl
bound_value p x t (list r (word l Tuple ▹ f)) names e = refl
bound_value p x t (list r (word l TupleProj ▹ f)) names e = refl
bound_value p x t (list r (word l Define ▹ f)) names e = refl
bound_value p x t (list r (word l Colon ▹ f)) names e = refl
bound_value p x t (list r (word l Arrow ▹ f)) names e = refl
bound_value p x t (list r (word l (Operator o) ▹ f)) names e = refl
bound_value p x t (list r (number l n ▹ f)) names e = refl
bound_value p x t (list r (truth_value l b ▹ f)) names e = refl
bound_value p x t (list r (name l y u ▹ f)) names e = refl
bound_value p x t (list r (list l ds ▹ f)) names e = refl

pub lambda_form_is : (r : Pos) (s : Sexpr) (rest : Sexprs) → is_lambda_form (list r (s ▹ rest)) ≡ is_lambda_at s
lambda_form_is r (word l Lambda) rest = refl
lambda_form_is r (word l Let) rest = refl
lambda_form_is r (word l Letrec) rest = refl
lambda_form_is r (word l If) rest = refl
lambda_form_is r (word l Begin) rest = refl
lambda_form_is r (word l And) rest = refl
lambda_form_is r (word l Or) rest = refl
lambda_form_is r (word l Repeat) rest = refl
lambda_form_is r (word l Tuple) rest = refl
lambda_form_is r (word l TupleProj) rest = refl
lambda_form_is r (word l Define) rest = refl
lambda_form_is r (word l Colon) rest = refl
lambda_form_is r (word l Arrow) rest = refl
lambda_form_is r (word l (Operator o)) rest = refl
lambda_form_is r (number l n) rest = refl
lambda_form_is r (truth_value l b) rest = refl
lambda_form_is r (name l x t) rest = refl
lambda_form_is r (list l ds) rest = refl

pub no_lambda_form : (p : Pos) (x : List ℕ) (m : Mark) → is_lambda_form (marked_symbol p x m) ≡ false
no_lambda_form p x (Reserved w) = refl
no_lambda_form p x (Free t) = refl

pub no_definition : (p : Pos) (x : List ℕ) (m : Mark) → is_definition (marked_symbol p x m) ≡ false
no_definition p x (Reserved w) = refl
no_definition p x (Free t) = refl

-- ---- definitions

pub top_definition : (run : List (List ℕ)) (s : Sexpr) (names : ℕ) → is_definition s ≡ true
    → parse_top run s names ≡ parse_definition run s names
top_definition run (number r n) names e = absurd (let z : ⊥ = cc in z)
top_definition run (truth_value r b) names e = absurd (let z : ⊥ = cc in z)
top_definition run (word r w) names e = absurd (let z : ⊥ = cc in z)
top_definition run (name r y u) names e = absurd (let z : ⊥ = cc in z)
top_definition run (list r end) names e = absurd (let z : ⊥ = cc in z)
top_definition run (list r (word l Lambda ▹ f)) names e = absurd (let z : ⊥ = cc in z)
top_definition run (list r (word l Let ▹ f)) names e = absurd (let z : ⊥ = cc in z)
top_definition run (list r (word l Letrec ▹ f)) names e = absurd (let z : ⊥ = cc in z)
top_definition run (list r (word l If ▹ f)) names e = absurd (let z : ⊥ = cc in z)
top_definition run (list r (word l Begin ▹ f)) names e = absurd (let z : ⊥ = cc in z)
top_definition run (list r (word l And ▹ f)) names e = absurd (let z : ⊥ = cc in z)
top_definition run (list r (word l Or ▹ f)) names e = absurd (let z : ⊥ = cc in z)
top_definition run (list r (word l Repeat ▹ f)) names e = absurd (let z : ⊥ = cc in z)
top_definition run (list r (word l Tuple ▹ f)) names e = absurd (let z : ⊥ = cc in z)
top_definition run (list r (word l TupleProj ▹ f)) names e = absurd (let z : ⊥ = cc in z)
top_definition run (list r (word l Define ▹ f)) names e = refl
top_definition run (list r (word l Colon ▹ f)) names e = absurd (let z : ⊥ = cc in z)
top_definition run (list r (word l Arrow ▹ f)) names e = absurd (let z : ⊥ = cc in z)
top_definition run (list r (word l (Operator o) ▹ f)) names e = absurd (let z : ⊥ = cc in z)
top_definition run (list r (number l n ▹ f)) names e = absurd (let z : ⊥ = cc in z)
top_definition run (list r (truth_value l b ▹ f)) names e = absurd (let z : ⊥ = cc in z)
top_definition run (list r (name l y u ▹ f)) names e = absurd (let z : ⊥ = cc in z)
top_definition run (list r (list l ds ▹ f)) names e = absurd (let z : ⊥ = cc in z)

pub top_expression : (run : List (List ℕ)) (s : Sexpr) (names : ℕ) → is_definition s ≡ false
    → parse_top run s names ≡ then_with (parse s names) (λ expr names. Reads (ExprPart (place s) expr, names))
top_expression run (number r n) names e = refl
top_expression run (truth_value r b) names e = refl
top_expression run (word r w) names e = refl
top_expression run (name r y u) names e = refl
top_expression run (list r end) names e = refl
top_expression run (list r (word l Lambda ▹ f)) names e = refl
top_expression run (list r (word l Let ▹ f)) names e = refl
top_expression run (list r (word l Letrec ▹ f)) names e = refl
top_expression run (list r (word l If ▹ f)) names e = refl
top_expression run (list r (word l Begin ▹ f)) names e = refl
top_expression run (list r (word l And ▹ f)) names e = refl
top_expression run (list r (word l Or ▹ f)) names e = refl
top_expression run (list r (word l Repeat ▹ f)) names e = refl
top_expression run (list r (word l Tuple ▹ f)) names e = refl
top_expression run (list r (word l TupleProj ▹ f)) names e = refl
top_expression run (list r (word l Define ▹ f)) names e = absurd (let z : ⊥ = cc in z)
top_expression run (list r (word l Colon ▹ f)) names e = refl
top_expression run (list r (word l Arrow ▹ f)) names e = refl
top_expression run (list r (word l (Operator o) ▹ f)) names e = refl
top_expression run (list r (number l n ▹ f)) names e = refl
top_expression run (list r (truth_value l b ▹ f)) names e = refl
top_expression run (list r (name l y u ▹ f)) names e = refl
top_expression run (list r (list l ds ▹ f)) names e = refl

pub define_lacks : (run : List (List ℕ)) (p r : Pos) (head body : Sexprs) (names : ℕ) → has_body body ≡ false
    → parse_define run p (list r head ▹ body) names ≡ Refuses BadForm p
unfolding then_with paired
define_lacks run p r end body names e =
    ap (λ b. then_with {B = Part} (paired (test b BadForm p) names) (λ done names. Refuses BadForm r)) e
define_lacks run p r (x ▹ params) body names e =
    ap (λ b. then_with (paired (test b BadForm p) names) (λ done names. then_with (paired (binder run x) names)
    (λ bytes names. then_with (parse_lambda p (list r params ▹ body) names)
    (λ lambda names. Reads (FunctionPart p bytes None lambda, names))))) e

pub define_nothing : (run : List (List ℕ)) (p r : Pos) (body : Sexprs) (names : ℕ) → has_body body ≡ true
    → parse_define run p (list r end ▹ body) names ≡ Refuses BadForm r
unfolding then_with paired
define_nothing run p r body names e =
    ap (λ b. then_with {B = Part} (paired (test b BadForm p) names) (λ done names. Refuses BadForm r)) e

then_twice : {A B C : Type 0} (w : Walked (A × ℕ)) (f : A → Parsing B) (g : B → Parsing C)
    → then_with (then_with w f) g ≡ then_with w (λ a names. then_with (f a names) g)
unfolding then_with
then_twice (Reads done) f g = refl
then_twice (Refuses kind p) f g = refl

lambda_then : (p : Pos) (x : Walked (List ℕ)) (lambda : Parsing LambdaExpr) (params : Walked (List Param))
    (behind : List Param → Parsing LambdaExpr) (names : ℕ)
    → ((names : ℕ) → lambda names ≡ then_with (paired params names) behind)
    → then_with (paired x names) (λ bytes names. then_with (lambda names)
    (λ lambda names. Reads (FunctionPart p bytes None lambda, names)))
    ≡ then_with (paired x names) (λ bytes names. then_with (paired params names)
    (λ params names. then_with (behind params names)
    (λ lambda names. Reads (FunctionPart p bytes None lambda, names))))
unfolding then_with paired
lambda_then p (Refuses kind q) lambda params behind names h = refl
lambda_then p (Reads bytes) lambda params behind names h =
    ap (λ m. then_with m (λ lambda names. Reads (FunctionPart p bytes None lambda, names))) (h names)
    ∙ then_twice (paired params names) behind (λ lambda names. Reads (FunctionPart p bytes None lambda, names))

pub define_function : (run : List (List ℕ)) (p r : Pos) (x : Sexpr) (params body : Sexprs) (names : ℕ)
    → has_body body ≡ true
    → parse_define run p (list r (x ▹ params) ▹ body) names
    ≡ then_with (paired (binder run x) names) (λ bytes names. then_with (paired (walk_params 6 [] params) names)
    (λ params names. then_with (parse_behind p params body names)
    (λ lambda names. Reads (FunctionPart p bytes None lambda, names))))
unfolding then_with paired
define_function run p r x params body names e =
    ap (λ b. then_with (paired (test b BadForm p) names) (λ done names. then_with (paired (binder run x) names)
    (λ bytes names. then_with (parse_lambda p (list r params ▹ body) names)
    (λ lambda names. Reads (FunctionPart p bytes None lambda, names))))) e
    ∙ lambda_then p (binder run x) (parse_lambda p (list r params ▹ body)) (walk_params 6 [] params)
    (λ ps. parse_behind p ps body) names (λ names. lambda_has p (list r params) body names e)

-- the same of these elements, where the name is read
pub function_named : (run : List (List ℕ)) (p r : Pos) (ds : Sexprs) (x : Sexpr) (params body : Sexprs) (names : ℕ)
    (bytes : List ℕ) → ds ≡ x ▹ params → has_body body ≡ true → binder run x ≡ Reads bytes
    → parse_define run p (list r ds ▹ body) names
    ≡ then_with (paired (walk_params 6 [] params) names) (λ params names. then_with (parse_behind p params body names)
    (λ lambda names. Reads (FunctionPart p bytes None lambda, names)))
function_named run p r ds x params body names bytes same e h =
    ap (λ ds. parse_define run p (list r ds ▹ body) names) same
    ∙ define_function run p r x params body names e
    ∙ bind_reads _ _ _ _ _ (plain_reads (binder run x) bytes names h) refl

-- the definition of what is no list

not_list_named : (run : List (List ℕ)) (p : Pos) (s : Sexpr) (rest : Sexprs) (names : ℕ)
    → ((r : Pos) (ds : Sexprs) → s ≡ list r ds → ⊥)
    → parse_define run p (s ▹ rest) names ≡ parse_named run p s rest names
not_list_named run p (list r ds) rest names h = absurd (h r ds refl)
not_list_named run p s end names h = refl
not_list_named run p s (e ▹ end) names h = refl
not_list_named run p s (e ▹ f ▹ end) names h = refl
not_list_named run p s (c ▹ t ▹ e ▹ end) names h =
    typed_then (binder (run_for e run) s) (colon c) (walk_type t)
    (λ bytes type. parse_bound p bytes (Some type) e) names
not_list_named run p s (c ▹ t ▹ e ▹ f ▹ more) names h = refl

symbol_no_list : (p : Pos) (x : List ℕ) (m : Mark) (r : Pos) (ds : Sexprs) → marked_symbol p x m ≡ list r ds → ⊥
symbol_no_list p x (Reserved w) r ds e = cc
symbol_no_list p x (Free t) r ds e = cc

pub is_named : (run : List (List ℕ)) (p r : Pos) (node : SexpNode) (rest : Sexprs) (names : ℕ)
    → ((elements : SexpList) → node ≡ ListCase elements → ⊥)
    → parse_define run p (marked (datum_at r node) ▹ rest) names
    ≡ parse_named run p (marked (datum_at r node)) rest names
is_named run p r (IntCase n) rest names h = not_list_named run p (number r n) rest names (λ q ds e. cc)
is_named run p r (BoolCase b) rest names h = not_list_named run p (truth_value r b) rest names (λ q ds e. cc)
is_named run p r (SymbolCase x) rest names h =
    not_list_named run p (marked_symbol r x (mark_of x)) rest names (symbol_no_list r x (mark_of x))
is_named run p r (ListCase elements) rest names h = absurd (h elements refl)

-- the names of a run behind the definition of this name
pub grows_with : (result : Result RustPart FrontFault) (e : Sexpr) (x : List ℕ) (old new : List (List ℕ))
    → new ≡ run_for e old ++ x ∷ []
    → IfOk result (λ part. (run : List (List ℕ)) → Grows run (run_for e run ++ x ∷ []) (part_of part))
    → IfOk result (λ part. Grows old new (part_of part))
grows_with (Ok part) e x old new same h = subst (λ names. Grows old names (part_of part)) (sym same) (h old)
grows_with (Err fault) e x old new same h = tt

-- ---- forms one after another

-- these forms, and those that are read behind them
abbrev pub behind_parts : List Part → Walked (List Part × ℕ) → Walked (List Part × ℕ)
behind_parts before (Reads done) = Reads (before ++ done.0, done.1)
behind_parts before (Refuses kind p) = Refuses kind p

behind_one : (before : List Part) (part : Part) (w : Walked (List Part × ℕ))
    → behind_parts before (then_with w (λ others names. Reads (part ∷ others, names)))
    ≡ behind_parts (before ++ part ∷ []) w
unfolding then_with
behind_one before part (Reads done) =
    ap (λ list. Reads (list, done.1)) (sym (append_assoc before (part ∷ []) done.0))
behind_one before part (Refuses kind p) = refl

pub last_part : (before : List RustPart) (part : RustPart)
    → map part_of (before ++ part ∷ []) ≡ map part_of before ++ part_of part ∷ []
last_part [] part = refl
last_part (b ∷ before) part = ap (λ ps. part_of b ∷ ps) (last_part before part)

pub tops_full : (before : List Part) (room : ℕ) (run : List (List ℕ)) (s : Sexpr) (rest : Sexprs) (names : ℕ)
    (w : Walked (List Part × ℕ))
    → room ≡ 0 → behind_parts before (parse_tops room run (s ▹ rest) names) ≡ w → w ≡ Refuses TooManyForms (place s)
tops_full before zero run s rest names w e same = sym same
tops_full before (suc room) run s rest names w e same = absurd (omega arith)

pub tops_refused : (before : List Part) (room : ℕ) (run : List (List ℕ)) (s : Sexpr) (rest : Sexprs) (names : ℕ)
    (w : Walked (List Part × ℕ)) (kind : RefusalKind) (p : Pos)
    → room ≢ 0 → parse_top run s names ≡ Refuses kind p
    → behind_parts before (parse_tops room run (s ▹ rest) names) ≡ w
    → w ≡ Refuses kind p
unfolding then_with
tops_refused before zero run s rest names w kind p some e same = absurd (some refl)
tops_refused before (suc room) run s rest names w kind p some e same =
    sym same ∙ ap (λ m. behind_parts before (then_with m
    (λ part names. then_with (parse_tops room (run_behind run part) rest names)
    (λ others names. Reads (part ∷ others, names))))) e

tops_stop : {R S : Type 0} (before : List Part) (room : ℕ) (run : List (List ℕ)) (s : Sexpr) (rest : Sexprs)
    (names next : ℕ) (view : R → Part) (wider : S → List Part) (w : Walked (List Part × ℕ)) (fault : FrontFault)
    → room ≢ 0 → Parses (stopped {R = R} fault) view next (parse_top run s names)
    → behind_parts before (parse_tops room run (s ▹ rest) names) ≡ w
    → Parses (stopped {R = S} fault) wider next w
tops_stop before room run s rest names next view wider w (Refused refusal) some h same =
    tops_refused before room run s rest names w refusal.kind refusal.pos some h same
tops_stop before room run s rest names next view wider w OutOfMemory some h same = tt

-- the exit of a `?` at a form
pub tops_exit : {R S : Type 0} (before : List Part) (room : ℕ) (run : List (List ℕ)) (s : Sexpr) (rest : Sexprs)
    (names next : ℕ) (view : R → Part) (wider : S → List Part) (w : Walked (List Part × ℕ)) (fault : FrontFault)
    (given : Result R FrontFault) (result : Result S FrontFault)
    → given ≡ Err fault → IsErrAnd result (λ f. f ≡ fault) → room ≢ 0
    → Parses given view next (parse_top run s names)
    → behind_parts before (parse_tops room run (s ▹ rest) names) ≡ w → Parses result wider next w
tops_exit before room run s rest names next view wider w fault given result e f some h same =
    subst (λ r. Parses r wider next w) (sym (went_out result fault f))
    (tops_stop before room run s rest names next view wider w fault some
    (subst (λ g. Parses g view next (parse_top run s names)) e h) same)

pub tops_more : (before : List RustPart) (part : RustPart) (room : ℕ) (run next : List (List ℕ)) (s : Sexpr)
    (rest : Sexprs) (names after : ℕ) (w : Walked (List Part × ℕ))
    → room ≢ 0 → parse_top run s names ≡ Reads (part_of part, after) → next ≡ run_behind run (part_of part)
    → behind_parts (map part_of before) (parse_tops room run (s ▹ rest) names) ≡ w
    → behind_parts (map part_of (before ++ part ∷ [])) (parse_tops (room - 1) next rest after) ≡ w
unfolding then_with
tops_more before part zero run next s rest names after w some e bound same = absurd (some refl)
tops_more before part (suc room) run next s rest names after w some e bound same =
    let less : suc room - 1 ≡ room = omega arith in
    let others = parse_tops room (run_behind run (part_of part)) rest after in
    rw (less, bound) (ap (λ b. behind_parts b others) (last_part before part)
    ∙ sym (behind_one (map part_of before) (part_of part) others)
    ∙ sym (ap (λ m. behind_parts (map part_of before) (then_with m
    (λ part names. then_with (parse_tops room (run_behind run part) rest names)
    (λ others names. Reads (part ∷ others, names))))) e)
    ∙ same)

pub ruleset top = (
  run_stays,
  run_ends,
  bound_function,
  bound_value,
  top_definition,
  top_expression,
  define_lacks,
  define_nothing,
  define_function,
  lambda_form_is,
  no_lambda_form,
  no_definition,
  place_marked,
)
