-- The forms of a program as the reader has them, as plain data, for the contracts of its private functions.
use Rattle.std.specs.Prelude.{◌≡◌, ℕ, Bool, false, List, [], ◌∷◌, ◌++◌, Some, None}
use Rattle.grift_base.specs.declared.places.Pos.{Pos}
use Rattle.grift_base.specs.declared.refusals.RefusalKind.TheVariants.{BadForm}
use Rattle.surface_syntax.specs.declared.tops.Part.{Part as RustPart}
use Rattle.surface_syntax.specs.declared.tops.Part.TheVariants.{Expr as ExprCase, Value as ValueCase}
use Rattle.surface_syntax.specs.declared.tops.Part.TheVariants.{Function as FunctionCase}
use Rattle.surface_syntax.specs.declared.programs.Rest.{Rest as RustRest}
use Rattle.surface_syntax.specs.declared.programs.Rest.TheVariants.{Alone as AloneCase, Run as RunCase}
use Rattle.form_table.specs.Marked.{Sexpr, Sexprs, list, end, ◌▹◌, place}
use Rattle.form_table.specs.Walking.{is_define_at, binder}
use Rattle.form_table.specs.TopWalk.{run_for}
use Rattle.derived_forms.specs.Expansion.{Part, ExprPart, ValuePart, FunctionPart, Rest, Alone, Run}
use Rattle.form_table.specs.Pass.{Parsing, ◌>>=◌, refuse, plain, parse_bound, parse_define}
use Rattle.surface_trees.specs.Views.{written_of, expr_of, lambda_of, letrecs_of}
use Rattle.surface_syntax.specs.Parts.{typed_name}

abbrev pub part_of : RustPart → Part
part_of (ExprCase p e) = ExprPart p (expr_of e.value)
part_of (ValueCase p x t e) = ValuePart p x (written_of t) (expr_of e.value)
part_of (FunctionCase p x t l) = FunctionPart p x (written_of t) (lambda_of l.value)

abbrev pub rest_of : RustRest → Rest
rest_of (AloneCase e) = Alone (expr_of e.value)
rest_of (RunCase p members e) = Run p (letrecs_of members) (expr_of e.value)

-- the definition of what stands there, which is no list, from what stands behind it
abbrev pub parse_named : List (List ℕ) → Pos → Sexpr → Sexprs → Parsing Part
parse_named run p x (e ▹ end) = do
  bytes ← plain (binder (run_for e run) x)
  parse_bound p bytes None e
parse_named run p x (c ▹ t ▹ e ▹ end) = do
  named ← plain (typed_name (run_for e run) x c t)
  parse_bound p named.0 (Some named.1) e
parse_named run p x rest = refuse BadForm p

abbrev pub is_definition : Sexpr → Bool
is_definition (list p (s ▹ rest)) = is_define_at s
is_definition s = false

-- a list that `define` heads
abbrev pub parse_definition : List (List ℕ) → Sexpr → Parsing Part
parse_definition run (list p (s ▹ rest)) = parse_define run p rest
parse_definition run s = refuse BadForm (place s)

-- the names of a run with the function that this form defines, if it does
abbrev pub Grows : List (List ℕ) → List (List ℕ) → Part → Type 0
Grows old new (FunctionPart p x t lambda) = new ≡ old ++ x ∷ []
Grows old new part = Unit {0}
