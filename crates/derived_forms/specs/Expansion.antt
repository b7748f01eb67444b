-- Derived forms in terms of the others, with names that no source can write.
use Rattle.std.specs.Prelude.{ℕ, ◌+◌, pos, Bool, true, false, List, [], ◌∷◌, Option, Some, None}
use Rattle.grift_base.specs.declared.places.Pos.{Pos}
use Rattle.grift_base.specs.declared.operators.PrimOp.TheVariants.{Add, Lt}
use Rattle.grift_base.specs.Types.{IntRow, UnitRow, DynRow}
use Rattle.surface_trees.specs.declared.names.Ident.{Ident}
use Rattle.surface_trees.specs.declared.names.Ident.TheVariants.{Source, Fresh}
use Rattle.derived_forms.specs.declared.loops.LoopNames.{LoopNames}
use Rattle.surface_trees.specs.Trees.{TypeExpr, TypeAt, BaseType, Param, Expr, ExprAt, IntNode, BoolNode, UnitNode}
use Rattle.surface_trees.specs.Trees.{NameNode, LambdaNode, CallNode, LetNode, LetrecNode, IfNode, BeginNode}
use Rattle.surface_trees.specs.Trees.{AscribeNode, TupleNode, ProjNode, PrimNode, LambdaExpr, LambdaAt, Exprs, NoExprs}
use Rattle.surface_trees.specs.Trees.{ExprThen, LetBindings, NoLets, LetThen, LetrecMembers, NoLetrecs, LetrecThen}
use Rattle.derived_forms.specs.Written.{Form, FormAt, FormNode, IntForm, BoolForm, UnitForm, NameForm, LambdaForm}
use Rattle.derived_forms.specs.Written.{CallForm, LetForm, LetrecForm, IfForm, BeginForm, AscribeForm, AndForm, OrForm}
use Rattle.derived_forms.specs.Written.{RepeatForm, RepeatIntoForm, TupleForm, ProjForm, PrimForm, LambdaWritten}
use Rattle.derived_forms.specs.Written.{LambdaFrom, Forms, NoForms, FormThen, LetForms, NoLetForms, LetFormThen}
use Rattle.derived_forms.specs.Written.{LetrecForms, NoLetrecForms, LetrecFormThen, Top, ExprTop, ValueTop}
use Rattle.derived_forms.specs.Written.{FunctionTop}

-- an answer that depends on how many fresh names there are, and how many there are then
abbrev pub Naming : Type 0 → Type 0
Naming A = ℕ → A × ℕ

unfoldable pub ◌>>=◌ : {A B : Type 0} → Naming A → (A → Naming B) → Naming B
◌>>=◌ first next names = let done = first names in next done.0 done.1

abbrev pub give : {A : Type 0} → A → Naming A
give a = λ names. (a, names)

abbrev pub fresh : Naming Ident
fresh = λ names. (Fresh names, names + 1)

-- ---- `and` and `or`

-- `(if e rest #f)` for `and`, which wants all to hold, and `(if e #t rest)` for `or`
abbrev pub linked : Bool → Pos → Expr → Expr → Expr
linked true p e rest = ExprAt p (IfNode e rest (ExprAt p (BoolNode false)))
linked false p e rest = ExprAt p (IfNode e (ExprAt p (BoolNode true)) rest)

-- the operands of an `and` (all) or of an `or` (not all): each of them is evaluated where those before leave it open
abbrev pub chain_of : Bool → Pos → Exprs → Expr
chain_of all p NoExprs = ExprAt p (BoolNode all)
chain_of all p (ExprThen e NoExprs) = e
chain_of all p (ExprThen e (ExprThen f rest)) = linked all p e (chain_of all p (ExprThen f rest))

-- ---- `repeat`

abbrev pub one_expr : Expr → Exprs
one_expr e = ExprThen e NoExprs

abbrev pub two_exprs : Expr → Expr → Exprs
two_exprs e f = ExprThen e (one_expr f)

abbrev pub name_at : Pos → Ident → Expr
name_at p x = ExprAt p (NameNode x)

abbrev pub int_at : Pos → TypeExpr
int_at p = TypeAt p (BaseType IntRow)

abbrev pub typed_param : Pos → Ident → TypeExpr → Param
typed_param p x t = record { place = p; name = x; written = Some t }

-- `(< i E)`
abbrev pub goes_on : Pos → Ident → Ident → Expr
goes_on p i bound = ExprAt p (PrimNode Lt (two_exprs (name_at p i) (name_at p bound)))

-- `(+ i 1)`
abbrev pub next_count : Pos → Ident → Expr
next_count p i = ExprAt p (PrimNode Add (two_exprs (name_at p i) (ExprAt p (IntNode (pos 1)))))

-- `(let ([S : Int a] [E : Int b] ...) (letrec ([L lambda]) (L S ...)))`
abbrev pub loop_of : Pos → LoopNames → Expr → Expr → LetBindings → LambdaExpr → Exprs → Expr
loop_of p names a b others lambda arguments =
    ExprAt p (LetNode
    (LetThen (Fresh names.start) (Some (int_at p)) a (LetThen (Fresh names.bound) (Some (int_at p)) b others))
    (one_expr (ExprAt p (LetrecNode
    (LetrecThen (Fresh names.function) None lambda NoLetrecs)
    (one_expr (ExprAt p (CallNode (name_at p (Fresh names.function))
    (ExprThen (name_at p (Fresh names.start)) arguments))))))))

-- `(lambda ([i : Int]) : Unit (if (< i E) (begin e (L (+ i 1))) ()))`
abbrev pub counting : Pos → LoopNames → Ident → Expr → LambdaExpr
counting p names i e =
    LambdaAt p (typed_param p i (int_at p) ∷ []) (Some (TypeAt p (BaseType UnitRow))) (one_expr
    (ExprAt p (IfNode (goes_on p i (Fresh names.bound))
    (ExprAt p (BeginNode (two_exprs e (ExprAt p
    (CallNode (name_at p (Fresh names.function)) (one_expr (next_count p i)))))))
    (ExprAt p UnitNode))))

-- `(lambda ([i : Int] [c : T]) : T (if (< i E) (L (+ i 1) e) c))`
abbrev pub gathering : Pos → LoopNames → Ident → Ident → TypeExpr → Expr → LambdaExpr
gathering p names i c t e =
    LambdaAt p (typed_param p i (int_at p) ∷ typed_param p c t ∷ []) (Some t) (one_expr
    (ExprAt p (IfNode (goes_on p i (Fresh names.bound))
    (ExprAt p (CallNode (name_at p (Fresh names.function)) (two_exprs (next_count p i) e)))
    (name_at p c))))

abbrev pub repeat_of : Pos → LoopNames → List ℕ → Expr → Expr → Expr → Expr
repeat_of p names i a b e = loop_of p names a b NoLets (counting p names (Source i) e) NoExprs

-- the written type, or Dyn
abbrev pub type_or_dyn : Pos → Option TypeExpr → TypeExpr
type_or_dyn p (Some t) = t
type_or_dyn p None = TypeAt p (BaseType DynRow)

abbrev pub repeat_into_of : Pos → LoopNames → Ident → List ℕ → Expr → Expr → List ℕ → TypeExpr → Expr → Expr → Expr
repeat_into_of p names value i a b c t d e =
    loop_of p names a b (LetThen value (Some t) d NoLets) (gathering p names (Source i) (Source c) t e)
    (one_expr (name_at p value))

abbrev pub loop_names : Naming LoopNames
loop_names = λ names. (record { start = names; bound = names + 1; function = names + 2 }, names + 3)

-- ---- each form

abbrev mutual
  pub expand : Form → Naming Expr
  expand (FormAt p node) = expand_node p node

  pub expand_node : Pos → FormNode → Naming Expr
  expand_node p (IntForm n) = give (ExprAt p (IntNode n))
  expand_node p (BoolForm b) = give (ExprAt p (BoolNode b))
  expand_node p UnitForm = give (ExprAt p UnitNode)
  expand_node p (NameForm x) = give (ExprAt p (NameNode (Source x)))
  expand_node p (LambdaForm l) = do
    lambda ← expand_lambda l
    give (ExprAt p (LambdaNode lambda))
  expand_node p (CallForm f es) = do
    function ← expand f
    arguments ← expand_all es
    give (ExprAt p (CallNode function arguments))
  expand_node p (LetForm ls es) = do
    lets ← expand_lets ls
    body ← expand_all es
    give (ExprAt p (LetNode lets body))
  expand_node p (LetrecForm ls es) = do
    members ← expand_letrecs ls
    body ← expand_all es
    give (ExprAt p (LetrecNode members body))
  expand_node p (IfForm c t e) = do
    condition ← expand c
    on_true ← expand t
    on_false ← expand e
    give (ExprAt p (IfNode condition on_true on_false))
  expand_node p (BeginForm es) = do
    body ← expand_all es
    give (ExprAt p (BeginNode body))
  expand_node p (AscribeForm f t) = do
    e ← expand f
    give (ExprAt p (AscribeNode e t))
  expand_node p (AndForm es) = do
    operands ← expand_all es
    give (chain_of true p operands)
  expand_node p (OrForm es) = do
    operands ← expand_all es
    give (chain_of false p operands)
  expand_node p (RepeatForm i a b f) = do
    first ← expand a
    past ← expand b
    e ← expand f
    names ← loop_names
    give (repeat_of p names i first past e)
  expand_node p (RepeatIntoForm i a b c t d f) = do
    first ← expand a
    past ← expand b
    start ← expand d
    e ← expand f
    names ← loop_names
    value ← fresh
    give (repeat_into_of p names value i first past c (type_or_dyn p t) start e)
  expand_node p (TupleForm es) = do
    parts ← expand_all es
    give (ExprAt p (TupleNode parts))
  expand_node p (ProjForm f k r) = do
    e ← expand f
    give (ExprAt p (ProjNode e k r))
  expand_node p (PrimForm o es) = do
    operands ← expand_all es
    give (ExprAt p (PrimNode o operands))

  pub expand_all : Forms → Naming Exprs
  expand_all NoForms = give NoExprs
  expand_all (FormThen f rest) = do
    e ← expand f
    others ← expand_all rest
    give (ExprThen e others)

  pub expand_lambda : LambdaWritten → Naming LambdaExpr
  expand_lambda (LambdaFrom p params result es) = do
    body ← expand_all es
    give (LambdaAt p params result body)

  pub expand_lets : LetForms → Naming LetBindings
  expand_lets NoLetForms = give NoLets
  expand_lets (LetFormThen x t f rest) = do
    e ← expand f
    others ← expand_lets rest
    give (LetThen (Source x) t e others)

  pub expand_letrecs : LetrecForms → Naming LetrecMembers
  expand_letrecs NoLetrecForms = give NoLetrecs
  expand_letrecs (LetrecFormThen x t l rest) = do
    lambda ← expand_lambda l
    others ← expand_letrecs rest
    give (LetrecThen (Source x) t lambda others)

-- ---- the top level

-- an expanded form of a program
pub data Part : Type 0 where
  ExprPart : Pos → Expr → Part
  ValuePart : Pos → List ℕ → Option TypeExpr → Expr → Part
  FunctionPart : Pos → List ℕ → Option TypeExpr → LambdaExpr → Part

abbrev pub expand_top : Top → Naming Part
expand_top (ExprTop p f) = do
  e ← expand f
  give (ExprPart p e)
expand_top (ValueTop p x t f) = do
  e ← expand f
  give (ValuePart p x t e)
expand_top (FunctionTop p x t l) = do
  lambda ← expand_lambda l
  give (FunctionPart p x t lambda)

abbrev pub expand_tops : List Top → Naming (List Part)
expand_tops [] = give []
expand_tops (top ∷ rest) = do
  part ← expand_top top
  others ← expand_tops rest
  give (part ∷ others)

-- the rest of a program: a run of functions from this place on with what follows them, or another expression
pub data Rest : Type 0 where
  Alone : Expr → Rest
  Run : Pos → LetrecMembers → Expr → Rest

-- a maximal run of functions is one `letrec`, at the place of its first definition
abbrev pub closed : Rest → Expr
closed (Alone e) = e
closed (Run p members body) = ExprAt p (LetrecNode members (one_expr body))

-- a function defined before the rest
abbrev pub with_function : Pos → Ident → Option TypeExpr → LambdaExpr → Rest → Rest
with_function p x t lambda (Alone body) = Run p (LetrecThen x t lambda NoLetrecs) body
with_function p x t lambda (Run q members body) = Run p (LetrecThen x t lambda members) body

-- a form before the rest
abbrev pub before : Part → Rest → Rest
before (ExprPart p e) rest = Alone (ExprAt p (BeginNode (two_exprs e (closed rest))))
before (ValuePart p x t e) rest = Alone (ExprAt p (LetNode (LetThen (Source x) t e NoLets) (one_expr (closed rest))))
before (FunctionPart p x t lambda) rest = with_function p (Source x) t lambda rest

-- the last form; behind a definition comes `()`, at the place of the definition
abbrev pub ending : Part → Rest
ending (ExprPart p e) = Alone e
ending (ValuePart p x t e) = before (ValuePart p x t e) (Alone (ExprAt p UnitNode))
ending (FunctionPart p x t lambda) = before (FunctionPart p x t lambda) (Alone (ExprAt p UnitNode))

-- one form and those behind it
abbrev pub joined : Part → List Part → Rest
joined part [] = ending part
joined part (next ∷ rest) = before part (joined next rest)

-- the expression of a program; one without a form is `()`
abbrev pub whole : List Part → Expr
whole [] = ExprAt (record { line = 1; col = 1 }) UnitNode
whole (part ∷ rest) = closed (joined part rest)

-- the program of these forms
abbrev pub expand_program : List Top → Expr
expand_program tops = whole (expand_tops tops 0).0
