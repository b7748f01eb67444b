-- The walk and the expansion in one pass: each clause has the lines of the walk, and what they expand to.
use Rattle.std.specs.Prelude.{ℕ, zero, suc, pos, true, false, nat_eq, List, [], ◌∷◌, ◌++◌, Option, Some, None}
use Rattle.grift_base.specs.declared.places.Pos.{Pos}
use Rattle.grift_base.specs.declared.refusals.RefusalKind.{RefusalKind}
use Rattle.grift_base.specs.declared.refusals.RefusalKind.TheVariants.{BadForm, TooWide, TooManyForms}
use Rattle.surface_trees.specs.declared.names.Ident.TheVariants.{Source}
use Rattle.form_table.specs.declared.words.Word.TheVariants.{Lambda, Let, Letrec, If, Begin, And, Or, Repeat, Tuple}
use Rattle.form_table.specs.declared.words.Word.TheVariants.{TupleProj, Define, Colon, Arrow, Operator}
use Rattle.form_table.specs.Words.{operand_count}
use Rattle.form_table.specs.Marked.{Sexpr, Sexprs, number, truth_value, word, name, list, end, ◌▹◌, place, how_many}
use Rattle.surface_trees.specs.Trees.{TypeExpr, Expr, ExprAt, IntNode, BoolNode, UnitNode, NameNode, LambdaNode}
use Rattle.surface_trees.specs.Trees.{CallNode, LetNode, LetrecNode, IfNode, BeginNode, AscribeNode, TupleNode}
use Rattle.surface_trees.specs.Trees.{ProjNode, PrimNode, LambdaExpr, LambdaAt, Exprs, NoExprs, ExprThen, LetBindings}
use Rattle.surface_trees.specs.Trees.{NoLets, LetThen, LetrecMembers, NoLetrecs, LetrecThen}
use Rattle.form_table.specs.Walking.{Walked, Reads, Refuses, test, some, colon, binder}
use Rattle.form_table.specs.Walk.{Bound, walk_type, walk_param_list}
use Rattle.form_table.specs.TopWalk.{has_body, run_for}
use Rattle.derived_forms.specs.Expansion.{Naming, chain_of, fresh, loop_names, repeat_of, repeat_into_of, type_or_dyn}
use Rattle.derived_forms.specs.Expansion.{Part, ExprPart, ValuePart, FunctionPart}

-- an answer or a refusal that depends on how many fresh names there are, with how many there are then
abbrev pub Parsing : Type 0 → Type 0
Parsing A = ℕ → Walked (A × ℕ)

unfoldable pub then_with : {A B : Type 0} → Walked (A × ℕ) → (A → Parsing B) → Walked (B × ℕ)
then_with (Reads done) next = next done.0 done.1
then_with (Refuses kind p) next = Refuses kind p

abbrev pub ◌>>=◌ : {A B : Type 0} → Parsing A → (A → Parsing B) → Parsing B
◌>>=◌ first next = λ names. then_with (first names) next

abbrev pub ◌>>◌ : {A B : Type 0} → Parsing A → Parsing B → Parsing B
◌>>◌ first next = ◌>>=◌ first (λ done. next)

abbrev pub give : {A : Type 0} → A → Parsing A
give a = λ names. Reads (a, names)

abbrev pub refuse : {A : Type 0} → RefusalKind → Pos → Parsing A
refuse kind p = λ names. Refuses kind p

-- what needs no fresh names
unfoldable pub paired : {A : Type 0} → Walked A → ℕ → Walked (A × ℕ)
paired (Reads a) names = Reads (a, names)
paired (Refuses kind p) names = Refuses kind p

abbrev pub plain : {A : Type 0} → Walked A → Parsing A
plain w = λ names. paired w names

-- what is never refused
abbrev pub named : {A : Type 0} → Naming A → Parsing A
named f = λ names. Reads (f names)

-- the head of a `repeat`: the counter, its first value and the bound
pub record ParsedRange : Type 0 where
  pub counter : List ℕ
  pub first : Expr
  pub bound : Expr

-- a tuple and the number of its part
abbrev pub parse_part : Pos → Expr → Sexpr → Parsing Expr
parse_part p expr (number r (pos k)) = give (ExprAt p (ProjNode expr (pos k) r))
parse_part p expr s = refuse BadForm (place s)

abbrev mutual
  pub parse : Sexpr → Parsing Expr
  parse (number p n) = give (ExprAt p (IntNode n))
  parse (truth_value p b) = give (ExprAt p (BoolNode b))
  parse (name p bytes t) = give (ExprAt p (NameNode (Source bytes)))
  parse (word p w) = refuse BadForm p
  parse (list p elements) = parse_list p elements

  pub parse_list : Pos → Sexprs → Parsing Expr
  parse_list p end = give (ExprAt p UnitNode)
  parse_list p (word q Arrow ▹ rest) = refuse BadForm q
  parse_list p (word q Lambda ▹ rest) = do
    lambda ← parse_lambda p rest
    give (ExprAt p (LambdaNode lambda))
  parse_list p (word q Let ▹ list r bindings ▹ body) = do
    plain (some p body)
    lets ← parse_lets [] bindings
    exprs ← parse_each body
    give (ExprAt p (LetNode lets exprs))
  parse_list p (word q Let ▹ s ▹ body) = do
    plain (some p body)
    refuse BadForm (place s)
  parse_list p (word q Letrec ▹ list r bindings ▹ body) = do
    plain (some p body)
    members ← parse_letrecs [] bindings
    exprs ← parse_each body
    give (ExprAt p (LetrecNode members exprs))
  parse_list p (word q Letrec ▹ s ▹ body) = do
    plain (some p body)
    refuse BadForm (place s)
  parse_list p (word q If ▹ c ▹ t ▹ e ▹ end) = do
    condition ← parse c
    on_true ← parse t
    on_false ← parse e
    give (ExprAt p (IfNode condition on_true on_false))
  parse_list p (word q Begin ▹ body) = do
    plain (some p body)
    exprs ← parse_each body
    give (ExprAt p (BeginNode exprs))
  parse_list p (word q Colon ▹ e ▹ t ▹ end) = do
    expr ← parse e
    type ← plain (walk_type t)
    give (ExprAt p (AscribeNode expr type))
  parse_list p (word q And ▹ operands) = do
    exprs ← parse_within 8 operands
    give (chain_of true p exprs)
  parse_list p (word q Or ▹ operands) = do
    exprs ← parse_within 8 operands
    give (chain_of false p exprs)
  parse_list p (word q Repeat ▹ h ▹ e ▹ end) = do
    range ← parse_range h
    expr ← parse e
    names ← named loop_names
    give (repeat_of p names range.counter range.first range.bound expr)
  parse_list p (word q Repeat ▹ h ▹ c ▹ e ▹ end) = do
    range ← parse_range h
    start ← parse_binding (range.counter ∷ []) c
    expr ← parse e
    names ← named loop_names
    value ← named fresh
    give (repeat_into_of p names value range.counter range.first range.bound start.name (type_or_dyn p start.written)
        start.value expr)
  parse_list p (word q Tuple ▹ parts) = do
    plain (some p parts)
    exprs ← parse_within 8 parts
    give (ExprAt p (TupleNode exprs))
  parse_list p (word q TupleProj ▹ e ▹ k ▹ end) = do
    expr ← parse e
    parse_part p expr k
  parse_list p (word q (Operator o) ▹ operands) = do
    plain (test (nat_eq (how_many operands) (operand_count o)) BadForm p)
    exprs ← parse_each operands
    give (ExprAt p (PrimNode o exprs))
  parse_list p (word q w ▹ rest) = refuse BadForm p
  parse_list p (f ▹ arguments) = do
    function ← parse f
    exprs ← parse_within 6 arguments
    give (ExprAt p (CallNode function exprs))

  pub parse_each : Sexprs → Parsing Exprs
  parse_each end = give NoExprs
  parse_each (e ▹ rest) = do
    expr ← parse e
    exprs ← parse_each rest
    give (ExprThen expr exprs)

  pub parse_within : ℕ → Sexprs → Parsing Exprs
  parse_within room end = give NoExprs
  parse_within zero (e ▹ rest) = refuse TooWide (place e)
  parse_within (suc room) (e ▹ rest) = do
    expr ← parse e
    exprs ← parse_within room rest
    give (ExprThen expr exprs)

  pub parse_lambda : Pos → Sexprs → Parsing LambdaExpr
  parse_lambda p (ps ▹ word c Colon ▹ t ▹ body) = do
    plain (some p body)
    params ← plain (walk_param_list ps)
    result ← plain (walk_type t)
    exprs ← parse_each body
    give (LambdaAt p params (Some result) exprs)
  parse_lambda p (ps ▹ word c Colon ▹ end) = refuse BadForm p
  parse_lambda p (ps ▹ body) = do
    plain (some p body)
    params ← plain (walk_param_list ps)
    exprs ← parse_each body
    give (LambdaAt p params None exprs)
  parse_lambda p end = refuse BadForm p

  pub parse_binding : List (List ℕ) → Sexpr → Parsing (Bound Expr)
  parse_binding seen (list p (x ▹ e ▹ end)) = do
    bytes ← plain (binder seen x)
    expr ← parse e
    give (record { name = bytes; written = None; value = expr })
  parse_binding seen (list p (x ▹ c ▹ t ▹ e ▹ end)) = do
    bytes ← plain (binder seen x)
    plain (colon c)
    type ← plain (walk_type t)
    expr ← parse e
    give (record { name = bytes; written = Some type; value = expr })
  parse_binding seen s = refuse BadForm (place s)

  pub parse_lets : List (List ℕ) → Sexprs → Parsing LetBindings
  parse_lets seen end = give NoLets
  parse_lets seen (s ▹ rest) = do
    one ← parse_binding seen s
    others ← parse_lets (seen ++ one.name ∷ []) rest
    give (LetThen (Source one.name) one.written one.value others)

  pub parse_member : List (List ℕ) → Sexpr → Parsing (Bound LambdaExpr)
  parse_member seen (list p (x ▹ e ▹ end)) = do
    bytes ← plain (binder seen x)
    lambda ← parse_lambda_form e
    give (record { name = bytes; written = None; value = lambda })
  parse_member seen (list p (x ▹ c ▹ t ▹ e ▹ end)) = do
    bytes ← plain (binder seen x)
    plain (colon c)
    type ← plain (walk_type t)
    lambda ← parse_lambda_form e
    give (record { name = bytes; written = Some type; value = lambda })
  parse_member seen s = refuse BadForm (place s)

  pub parse_lambda_form : Sexpr → Parsing LambdaExpr
  parse_lambda_form (list r (word q Lambda ▹ rest)) = parse_lambda r rest
  parse_lambda_form s = refuse BadForm (place s)

  pub parse_letrecs : List (List ℕ) → Sexprs → Parsing LetrecMembers
  parse_letrecs seen end = give NoLetrecs
  parse_letrecs seen (s ▹ rest) = do
    one ← parse_member seen s
    others ← parse_letrecs (seen ++ one.name ∷ []) rest
    give (LetrecThen (Source one.name) one.written one.value others)

  pub parse_range : Sexpr → Parsing ParsedRange
  parse_range (list r (i ▹ a ▹ b ▹ end)) = do
    counter ← plain (binder [] i)
    first ← parse a
    bound ← parse b
    give (record { counter = counter; first = first; bound = bound })
  parse_range s = refuse BadForm (place s)

-- ---- the top level

abbrev pub parse_bound : Pos → List ℕ → Option TypeExpr → Sexpr → Parsing Part
parse_bound p x t (list r (word l Lambda ▹ f)) = do
  lambda ← parse_lambda r f
  give (FunctionPart p x t lambda)
parse_bound p x t e = do
  expr ← parse e
  give (ValuePart p x t expr)

abbrev pub parse_define : List (List ℕ) → Pos → Sexprs → Parsing Part
parse_define run p (list r end ▹ body) = do
  plain (test (has_body body) BadForm p)
  refuse BadForm r
parse_define run p (list r (x ▹ params) ▹ body) = do
  plain (test (has_body body) BadForm p)
  bytes ← plain (binder run x)
  lambda ← parse_lambda p (list r params ▹ body)
  give (FunctionPart p bytes None lambda)
parse_define run p (x ▹ e ▹ end) = do
  bytes ← plain (binder (run_for e run) x)
  parse_bound p bytes None e
parse_define run p (x ▹ c ▹ t ▹ e ▹ end) = do
  bytes ← plain (binder (run_for e run) x)
  plain (colon c)
  type ← plain (walk_type t)
  parse_bound p bytes (Some type) e
parse_define run p elements = refuse BadForm p

abbrev pub parse_top : List (List ℕ) → Sexpr → Parsing Part
parse_top run (list p (word q Define ▹ elements)) = parse_define run p elements
parse_top run e = do
  expr ← parse e
  give (ExprPart (place e) expr)

-- the names of the run behind a form
abbrev pub run_behind : List (List ℕ) → Part → List (List ℕ)
run_behind run (FunctionPart p x t lambda) = run ++ x ∷ []
run_behind run _ = []

abbrev pub parse_tops : ℕ → List (List ℕ) → Sexprs → Parsing (List Part)
parse_tops room run end = give []
parse_tops zero run (s ▹ rest) = refuse TooManyForms (place s)
parse_tops (suc room) run (s ▹ rest) = do
  part ← parse_top run s
  others ← parse_tops room (run_behind run part) rest
  give (part ∷ others)
