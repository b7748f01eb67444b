-- The walk over a program.
use Rattle.std.specs.Prelude.{ℕ, zero, suc, Bool, true, false, List, [], ◌∷◌, ◌++◌, Option, Some, None}
use Rattle.grift_base.specs.declared.places.Pos.{Pos}
use Rattle.grift_base.specs.declared.refusals.RefusalKind.TheVariants.{BadForm, TooManyForms}
use Rattle.form_table.specs.declared.words.Word.TheVariants.{Lambda, Define, Colon}
use Rattle.surface_trees.specs.Trees.{TypeExpr}
use Rattle.form_table.specs.Marked.{Sexpr, Sexprs, word, list, end, ◌▹◌, place}
use Rattle.derived_forms.specs.Written.{Top, ExprTop, ValueTop, FunctionTop}
use Rattle.form_table.specs.Walking.{Walked, ◌>>=◌, ◌>>◌, give, refuse, test, colon, binder}
use Rattle.form_table.specs.Walk.{walk, walk_type, walk_lambda}

-- whether there is a body behind the parameters
abbrev pub has_body : Sexprs → Bool
has_body end = false
has_body (word q Colon ▹ t ▹ e ▹ rest) = true
has_body (word q Colon ▹ rest) = false
has_body (e ▹ rest) = true

-- the names that a definition must not repeat: those of the run where it is one of a function
abbrev pub run_for : Sexpr → List (List ℕ) → List (List ℕ)
run_for (list r (word l Lambda ▹ f)) run = run
run_for e run = []

-- what is bound to a name
abbrev pub walk_bound : Pos → List ℕ → Option TypeExpr → Sexpr → Walked Top
walk_bound p x t (list r (word l Lambda ▹ f)) = do
  lambda ← walk_lambda r f
  give (FunctionTop p x t lambda)
walk_bound p x t e = do
  form ← walk e
  give (ValueTop p x t form)

-- a definition without its head
abbrev pub walk_define : List (List ℕ) → Pos → Sexprs → Walked Top
walk_define run p (list r end ▹ body) = do
  test (has_body body) BadForm p
  refuse BadForm r
walk_define run p (list r (x ▹ params) ▹ body) = do
  test (has_body body) BadForm p
  bytes ← binder run x
  lambda ← walk_lambda p (list r params ▹ body)
  give (FunctionTop p bytes None lambda)
walk_define run p (x ▹ e ▹ end) = do
  bytes ← binder (run_for e run) x
  walk_bound p bytes None e
walk_define run p (x ▹ c ▹ t ▹ e ▹ end) = do
  bytes ← binder (run_for e run) x
  colon c
  type ← walk_type t
  walk_bound p bytes (Some type) e
walk_define run p elements = refuse BadForm p

abbrev pub walk_top : List (List ℕ) → Sexpr → Walked Top
walk_top run (list p (word q Define ▹ elements)) = walk_define run p elements
walk_top run e = do
  form ← walk e
  give (ExprTop (place e) form)

-- the names of the run after a form
abbrev pub run_after : List (List ℕ) → Top → List (List ℕ)
run_after run (FunctionTop p x t lambda) = run ++ x ∷ []
run_after run _ = []

abbrev pub walk_tops : ℕ → List (List ℕ) → Sexprs → Walked (List Top)
walk_tops room run end = give []
walk_tops zero run (s ▹ rest) = refuse TooManyForms (place s)
walk_tops (suc room) run (s ▹ rest) = do
  top ← walk_top run s
  others ← walk_tops room (run_after run top) rest
  give (top ∷ others)

-- at most 500 forms
abbrev pub walk_program : Sexprs → Walked (List Top)
walk_program forms = walk_tops 500 [] forms
