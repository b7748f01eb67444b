-- What the walk reads as a form of a program is in the table.
use Rattle.std.proofs.Common.{◌≡◌, ◌≤◌, zero, suc, arith, ℕ, true, false, List, ◌∷◌, refl}
use Rattle.std.proofs.Common.{subst, sym}
use Rattle.std.specs.Prelude.{Option, Some, None}
use Rattle.grift_base.specs.declared.places.Pos.{Pos}
use Rattle.grift_base.specs.declared.refusals.RefusalKind.TheVariants.{BadForm}
use Rattle.surface_trees.specs.Trees.{TypeExpr}
use Rattle.form_table.specs.declared.words.Word.TheVariants.{Lambda, Define}
use Rattle.form_table.specs.Marked.{Sexpr, Sexprs, word, list, end, ◌▹◌, place, how_many}
use Rattle.derived_forms.specs.Written.{Top, ExprTop, ValueTop, FunctionTop}
use Rattle.form_table.specs.Walking.{Reads, is_colon, is_among}
use Rattle.form_table.specs.TopWalk.{walk_bound, run_for, run_after, walk_top, walk_tops, walk_define}
use Rattle.form_table.specs.Table.{IsName, IsType}
use Rattle.form_table.specs.TopTable.{AreTops, no_tops, top_then, IsTop, function_row, define_row, typed_define_row}
use Rattle.form_table.specs.TopTable.{expression_row, IsBound, function_bound, value_bound}
use Rattle.form_table.proofs.Runs.{RunsAreNew}
use Rattle.form_table.proofs.Binds.{parts_of, refused, read_is_one, test_holds}
use Rattle.form_table.proofs.TypesFound.{type_found}
use Rattle.form_table.proofs.TopsRead.{IsNewIn}
use Rattle.form_table.proofs.FormsFound.{colon_is, name_found, form_found, lambda_found}

as_bound : {p : Pos} {x : List ℕ} {t : Option TypeExpr} {e : Sexpr} {a b : Top} → IsBound p x t e a
    → Reads a ≡ Reads b → IsBound p x t e b
as_bound {p = p} {x = x} {t = t} {e = e} h k = subst (IsBound p x t e) (read_is_one k) h

as_top : {s : Sexpr} {a b : Top} → IsTop s a → Reads a ≡ Reads b → IsTop s b
as_top {s = s} h k = subst (IsTop s) (read_is_one k) h

bound_found : (p : Pos) (x : List ℕ) (t : Option TypeExpr) (e : Sexpr) (top : Top) → walk_bound p x t e ≡ Reads top
    → IsBound p x t e top
bound_found p x t (list r (word l Lambda ▹ f)) top h =
    let one = parts_of h in
    as_bound (function_bound (lambda_found f r one.0 one.1)) one.2
bound_found p x t e top h =
    let one = parts_of h in
    as_bound (value_bound (form_found e one.0 one.1) refl) one.2

typed_define_of : (p q : Pos) (s c t e : Sexpr) (x : List ℕ) (type : TypeExpr) (top : Top) → is_colon c ≡ true
    → IsName s x → IsType t type → IsBound p x (Some type) e top
    → IsTop (list p (word q Define ▹ s ▹ c ▹ t ▹ e ▹ end)) top
typed_define_of p q s c t e x type top f h k b =
    subst (λ c. IsTop (list p (word q Define ▹ s ▹ c ▹ t ▹ e ▹ end)) top) (sym (colon_is c f))
    (typed_define_row h k b)

define_found : (run : List (List ℕ)) (p q : Pos) (elements : Sexprs) (top : Top)
    → walk_define run p elements ≡ Reads top → IsTop (list p (word q Define ▹ elements)) top
define_found run p q (list r end ▹ body) top h = let one = parts_of h in absurd (refused one.2)
define_found run p q (list r (x ▹ params) ▹ body) top h =
    let one = parts_of h in
    let two = parts_of one.2 in
    let three = parts_of two.2 in
    as_top (function_row (name_found run x two.0 two.1).0 (lambda_found (list r params ▹ body) p three.0 three.1))
    three.2
define_found run p q (x ▹ e ▹ end) top h =
    let one = parts_of h in
    define_row (name_found (run_for e run) x one.0 one.1).0 (bound_found p one.0 None e top one.2)
define_found run p q (x ▹ c ▹ t ▹ e ▹ end) top h =
    let one = parts_of h in
    let two = parts_of one.2 in
    let three = parts_of two.2 in
    typed_define_of p q x c t e one.0 three.0 top (test_holds _ BadForm _ two.1)
    (name_found (run_for e run) x one.0 one.1).0 (type_found t three.0 three.1)
    (bound_found p one.0 (Some three.0) e top three.2)
define_found run p q elements top h = absurd (refused h)

pub top_found : (run : List (List ℕ)) (s : Sexpr) (top : Top) → walk_top run s ≡ Reads top → IsTop s top
top_found run (list p (word q Define ▹ elements)) top h = define_found run p q elements top h
top_found run e top h =
    let one = parts_of h in
    as_top (expression_row (form_found e one.0 one.1)) one.2

-- ---- names of a run

as_new : (run : List (List ℕ)) {a b : Top} → IsNewIn run a → Reads a ≡ Reads b → IsNewIn run b
as_new run h k = subst (IsNewIn run) (read_is_one k) h

bound_new : (run : List (List ℕ)) (p : Pos) (x : List ℕ) (t : Option TypeExpr) (e : Sexpr) (top : Top)
    → is_among (run_for e run) x ≡ false → walk_bound p x t e ≡ Reads top → IsNewIn run top
bound_new run p x t (list r (word l Lambda ▹ f)) top new h =
    let one = parts_of h in
    as_new run {a = FunctionTop p x t one.0} new one.2
bound_new run p x t e top new h =
    let one = parts_of h in
    as_new run {a = ValueTop p x t one.0} tt one.2

define_new : (run : List (List ℕ)) (p : Pos) (elements : Sexprs) (top : Top) → walk_define run p elements ≡ Reads top
    → IsNewIn run top
define_new run p (list r end ▹ body) top h = let one = parts_of h in absurd (refused one.2)
define_new run p (list r (x ▹ params) ▹ body) top h =
    let one = parts_of h in
    let two = parts_of one.2 in
    let three = parts_of two.2 in
    as_new run {a = FunctionTop p two.0 None three.0} (name_found run x two.0 two.1).1 three.2
define_new run p (x ▹ e ▹ end) top h =
    let one = parts_of h in
    bound_new run p one.0 None e top (name_found (run_for e run) x one.0 one.1).1 one.2
define_new run p (x ▹ c ▹ t ▹ e ▹ end) top h =
    let one = parts_of h in
    let two = parts_of one.2 in
    let three = parts_of two.2 in
    bound_new run p one.0 (Some three.0) e top (name_found (run_for e run) x one.0 one.1).1 three.2
define_new run p elements top h = absurd (refused h)

top_new : (run : List (List ℕ)) (s : Sexpr) (top : Top) → walk_top run s ≡ Reads top → IsNewIn run top
top_new run (list p (word q Define ▹ elements)) top h = define_new run p elements top h
top_new run e top h =
    let one = parts_of h in
    as_new run {a = ExprTop (place e) one.0} tt one.2

runs_then : (run : List (List ℕ)) (top : Top) (rest : List Top) → IsNewIn run top
    → RunsAreNew (run_after run top) rest → RunsAreNew run (top ∷ rest)
runs_then run (FunctionTop p x t lambda) rest new h = (new, h)
runs_then run (ExprTop p f) rest new h = h
runs_then run (ValueTop p x t f) rest new h = h

abbrev FoundTops : ℕ → List (List ℕ) → Sexprs → List Top → Type 0
FoundTops room run ds tops = AreTops ds tops × RunsAreNew run tops × (how_many ds ≤ room)

as_tops : (room : ℕ) (run : List (List ℕ)) (ds : Sexprs) {a b : List Top} → FoundTops room run ds a
    → Reads a ≡ Reads b → FoundTops room run ds b
as_tops room run ds h k = subst (FoundTops room run ds) (read_is_one k) h

pub tops_found : (room : ℕ) (run : List (List ℕ)) (ds : Sexprs) (tops : List Top) → walk_tops room run ds ≡ Reads tops
    → FoundTops room run ds tops
tops_found zero run end tops h = as_tops zero run end (no_tops, tt, omega arith) h
tops_found (suc room) run end tops h = as_tops (suc room) run end (no_tops, tt, omega arith) h
tops_found zero run (s ▹ rest) tops h = absurd (refused h)
tops_found (suc room) run (s ▹ rest) tops h =
    let one = parts_of h in
    let two = parts_of one.2 in
    let k = tops_found room (run_after run one.0) rest two.0 two.1 in
    let few : how_many rest ≤ room = k.2 in
    as_tops (suc room) run (s ▹ rest) (
      top_then (top_found run s one.0 one.1) k.0,
      runs_then run one.0 two.0 (top_new run s one.0 one.1) k.1,
      omega arith,
    ) two.2
