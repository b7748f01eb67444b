-- The forms of expressions, from what their elements are: one line for each call of their readers.
use Rattle.std.specs.Prelude.{ℕ, true, false, nat_eq, List, [], ◌∷◌, Option, Some, None}
use Rattle.grift_base.specs.declared.places.Pos.{Pos}
use Rattle.grift_base.specs.declared.refusals.RefusalKind.TheVariants.{BadForm}
use Rattle.form_table.specs.declared.words.Word.{Word}
use Rattle.form_table.specs.declared.words.Word.TheVariants.{Lambda, Let, Letrec, If, Colon, Repeat, TupleProj}
use Rattle.form_table.specs.declared.words.Word.TheVariants.{Begin as BeginWord, Tuple as TupleWord, And as AndWord}
use Rattle.form_table.specs.declared.words.Word.TheVariants.{Or as OrWord, Operator as OperatorWord}
use Rattle.surface_syntax.specs.declared.operands.Head.{Head}
use Rattle.surface_syntax.specs.declared.operands.Head.TheVariants.{Begin, Tuple, And, Or, Operator}
use Rattle.form_table.specs.Words.{operand_count}
use Rattle.form_table.specs.Marked.{Sexpr, Sexprs, place, how_many}
use Rattle.surface_trees.specs.Trees.{TypeExpr, Param, Expr, ExprAt, LambdaNode, LetNode}
use Rattle.surface_trees.specs.Trees.{LetrecNode, IfNode, BeginNode, AscribeNode, TupleNode, ProjNode, PrimNode}
use Rattle.surface_trees.specs.Trees.{LambdaExpr, LambdaAt, Exprs}
use Rattle.form_table.specs.Walking.{Walked, Reads, followed_by, test, some, colon, binder}
use Rattle.form_table.specs.Walk.{Bound, walk_type, walk_param_list}
use Rattle.derived_forms.specs.Expansion.{chain_of, fresh, loop_names, repeat_of, repeat_into_of, type_or_dyn}
use Rattle.form_table.specs.Pass.{Parsing, ParsedRange, ◌>>=◌, give, refuse, plain, named, parse, parse_each}
use Rattle.form_table.specs.Pass.{parse_within, parse_lets, parse_letrecs, parse_binding}
use Rattle.form_table.specs.Pass.{parse_range}
use Rattle.surface_syntax.specs.Parts.{part_number, parse_behind}
use Rattle.surface_syntax.specs.Elements.{two_of, three_of, range_parts, names_and_body, repeat_parts, bound_parts}
use Rattle.surface_syntax.specs.Elements.{lambda_parts, typed_body, behind_lambda}

abbrev pub let_of : Pos → Sexprs → Parsing Expr
let_of p ds = do
  parts ← plain (names_and_body p ds)
  lets ← parse_lets [] parts.0
  exprs ← parse_each parts.1
  give (ExprAt p (LetNode lets exprs))

abbrev pub letrec_of : Pos → Sexprs → Parsing Expr
letrec_of p ds = do
  parts ← plain (names_and_body p ds)
  members ← parse_letrecs [] parts.0
  exprs ← parse_each parts.1
  give (ExprAt p (LetrecNode members exprs))

abbrev pub if_of : Pos → Sexprs → Parsing Expr
if_of p ds = do
  parts ← plain (three_of p ds)
  condition ← parse parts.first
  on_true ← parse parts.second
  on_false ← parse parts.third
  give (ExprAt p (IfNode condition on_true on_false))

-- an expression at the type that this writes
abbrev pub ascribed : Pos → Expr → Sexpr → Walked Expr
ascribed p e t = followed_by (walk_type t) (λ type. Reads (ExprAt p (AscribeNode e type)))

abbrev pub ascription_of : Pos → Sexprs → Parsing Expr
ascription_of p ds = do
  parts ← plain (two_of p ds)
  expr ← parse parts.0
  plain (ascribed p expr parts.1)

-- the part of a tuple with this number
abbrev pub projected : Pos → Expr → Sexpr → Walked Expr
projected p e k = followed_by (part_number k) (λ number. Reads (ExprAt p (ProjNode e number (place k))))

abbrev pub projection_of : Pos → Sexprs → Parsing Expr
projection_of p ds = do
  parts ← plain (two_of p ds)
  expr ← parse parts.0
  plain (projected p expr parts.1)

-- how many operands there may be behind this head, where that is bounded
abbrev pub room_of : Head → Pos → Sexprs → Walked (Option ℕ)
room_of Begin p ds = followed_by (some p ds) (λ done. Reads None)
room_of Tuple p ds = followed_by (some p ds) (λ done. Reads (Some 8))
room_of And p ds = Reads (Some 8)
room_of Or p ds = Reads (Some 8)
room_of (Operator o) p ds = followed_by (test (nat_eq (how_many ds) (operand_count o)) BadForm p) (λ done. Reads None)

abbrev pub parse_operands : Option ℕ → Sexprs → Parsing Exprs
parse_operands None ds = parse_each ds
parse_operands (Some room) ds = parse_within room ds

-- the form of this head with these operands
abbrev pub applied_to : Head → Pos → Exprs → Expr
applied_to Begin p es = ExprAt p (BeginNode es)
applied_to Tuple p es = ExprAt p (TupleNode es)
applied_to And p es = chain_of true p es
applied_to Or p es = chain_of false p es
applied_to (Operator o) p es = ExprAt p (PrimNode o es)

-- a form that is a head and operands
abbrev pub applied_of : Head → Pos → Sexprs → Parsing Expr
applied_of head p ds = do
  room ← plain (room_of head p ds)
  exprs ← parse_operands room ds
  give (applied_to head p exprs)

abbrev pub counted_of : Pos → ParsedRange → Sexpr → Parsing Expr
counted_of p range body = do
  expr ← parse body
  names ← named loop_names
  give (repeat_of p names range.counter range.first range.bound expr)

abbrev pub gathered_of : Pos → ParsedRange → Sexpr → Sexpr → Parsing Expr
gathered_of p range start body = do
  one ← parse_binding (range.counter ∷ []) start
  expr ← parse body
  names ← named loop_names
  value ← named fresh
  give (repeat_into_of p names value range.counter range.first range.bound one.name (type_or_dyn p one.written)
      one.value expr)

-- a `repeat` with this head
abbrev pub repeat_behind : Pos → ParsedRange → Option Sexpr → Sexpr → Parsing Expr
repeat_behind p range None body = counted_of p range body
repeat_behind p range (Some start) body = gathered_of p range start body

abbrev pub repeat_form_of : Pos → Sexprs → Parsing Expr
repeat_form_of p ds = do
  parts ← plain (repeat_parts p ds)
  range ← parse_range parts.head
  repeat_behind p range parts.start parts.body

-- a lambda without its head
abbrev pub lambda_from : Pos → Sexprs → Parsing LambdaExpr
lambda_from p ds = do
  parts ← plain (lambda_parts p ds)
  params ← plain (walk_param_list parts.0)
  parse_behind p params parts.1

abbrev pub lambda_form_of : Pos → Sexprs → Parsing Expr
lambda_form_of p ds = do
  lambda ← lambda_from p ds
  give (ExprAt p (LambdaNode lambda))

-- the form that this word heads
abbrev pub headed_of : Word → Pos → Sexprs → Parsing Expr
headed_of Lambda p ds = lambda_form_of p ds
headed_of Let p ds = let_of p ds
headed_of Letrec p ds = letrec_of p ds
headed_of If p ds = if_of p ds
headed_of Colon p ds = ascription_of p ds
headed_of Repeat p ds = repeat_form_of p ds
headed_of TupleProj p ds = projection_of p ds
headed_of BeginWord p ds = applied_of Begin p ds
headed_of TupleWord p ds = applied_of Tuple p ds
headed_of AndWord p ds = applied_of And p ds
headed_of OrWord p ds = applied_of Or p ds
headed_of (OperatorWord o) p ds = applied_of (Operator o) p ds
headed_of w p ds = refuse BadForm p

-- ---- lambdas

-- a body, and a written type before it if there is one
abbrev pub body_from : Pos → List Param → Option (Sexpr × Sexprs) → Sexprs → Parsing LambdaExpr
body_from p params None ds = do
  exprs ← parse_each ds
  give (LambdaAt p params None exprs)
body_from p params (Some typed) ds = do
  result ← plain (walk_type typed.0)
  exprs ← parse_each typed.1
  give (LambdaAt p params (Some result) exprs)

abbrev pub behind_from : Pos → List Param → Sexprs → Parsing LambdaExpr
behind_from p params ds = do
  typed ← plain (typed_body p ds)
  body_from p params typed ds

abbrev pub function_from : Sexpr → Parsing LambdaExpr
function_from s = do
  elements ← plain (behind_lambda s)
  lambda_from (place s) elements

-- ---- names

-- `:` and a type, if they are written
abbrev pub written_type : Option (Sexpr × Sexpr) → Walked (Option TypeExpr)
written_type None = Reads None
written_type (Some written) =
    followed_by (colon written.0) (λ done. followed_by (walk_type written.1) (λ type. Reads (Some type)))

-- a name with its type, if one is written
abbrev pub bound_name : List (List ℕ) → Sexpr → Option (Sexpr × Sexpr) → Walked (List ℕ × Option TypeExpr)
bound_name seen x written =
    followed_by (binder seen x) (λ bytes. followed_by (written_type written) (λ type. Reads (bytes, type)))

-- what binds a name: the name with its type, and what is bound to it
abbrev pub bound_to : List (List ℕ) → Sexpr → Walked ((List ℕ × Option TypeExpr) × Sexpr)
bound_to seen s =
    followed_by (bound_parts s) (λ parts. followed_by (bound_name seen parts.name parts.written) (λ known.
    Reads (known, parts.value)))

-- the same, with what is read of it
abbrev pub bound_from : {A : Type 0} → (Sexpr → Parsing A) → List (List ℕ) → Sexpr → Parsing (Bound A)
bound_from read seen s = do
  bound ← plain (bound_to seen s)
  value ← read bound.1
  give (record { name = bound.0.0; written = bound.0.1; value = value })

abbrev pub range_from : Sexpr → Parsing ParsedRange
range_from s = do
  parts ← plain (range_parts s)
  counter ← plain (binder [] parts.first)
  first ← parse parts.second
  bound ← parse parts.third
  give (record { counter = counter; first = first; bound = bound })
