-- The elaboration: an expression in an environment becomes a term with its type, or is refused. One clause for each
-- form; the lines of a clause are done in order.
use Rattle.std.specs.Prelude.{ℕ, List, [], ◌∷◌, Option, None}
use Rattle.grift_base.specs.Types.{IntRow, BoolRow, UnitRow, FunRow, TupleRow}
use Rattle.grift_base.specs.declared.places.Pos.{Pos}
use Rattle.type_graph.specs.Forming.{intern}
use Rattle.core_calc.specs.Terms.{Term, Terms, Members, Bindings, IntLit, BoolLit, UnitLit, Lambda, Group, Let, If, Seq}
use Rattle.core_calc.specs.Terms.{Tuple, Prim, NoTerms, TermThen, NoMembers, MemberThen, NoBindings, BindingThen}
use Rattle.surface_trees.specs.Trees.{Expr, ExprNode, LambdaExpr, Exprs, LetBindings, LetrecMembers, ExprAt, IntNode}
use Rattle.surface_trees.specs.Trees.{BoolNode, UnitNode, NameNode, LambdaNode, CallNode, LetNode, LetrecNode, IfNode}
use Rattle.surface_trees.specs.Trees.{BeginNode, AscribeNode, TupleNode, ProjNode, PrimNode, LambdaAt, NoExprs}
use Rattle.surface_trees.specs.Trees.{ExprThen, NoLets, LetThen, LetrecThen}
use Rattle.cast_rules.specs.Sources.{place_of, last_place, how_many}
use Rattle.cast_rules.specs.Making.{Work, Made, Making, ◌>>=◌, ◌>>◌, give, form, row_of, fresh, not_too_large}
use Rattle.cast_rules.specs.Making.{blend_at, Typed, typed, cast_to, cast_if, cast_to_row, written, written_if}
use Rattle.cast_rules.specs.Environments.{Environment, meaning_of, plain, with_names, use_at, variables}
use Rattle.cast_rules.specs.Environments.{parameter_types, bind_names, Head, heads_of, names_of_heads}
use Rattle.cast_rules.specs.Calls.{Given, call_by, project_by}
use Rattle.cast_rules.specs.Operators.{Operand, operands_of, answer_of, operand_by, answer_type}

-- ---- what parts are elaborated to

-- terms in order, and the type of the last
pub record Sequence : Type 0 where
  pub terms : Terms
  pub type : ℕ

abbrev pub seq : Sequence → Typed
seq sequence = typed (Seq sequence.terms) sequence.type

-- bound terms, and what their names mean
pub record Bound : Type 0 where
  pub bindings : Bindings
  pub entries : Environment

-- a lambda of a member
pub record MemberBody : Type 0 where
  pub variables : List ℕ
  pub body : Term

-- several operands, and the type of the content if there is one
pub record Operands : Type 0 where
  pub terms : Terms
  pub content : Option ℕ

-- ---- expressions

abbrev mutual
  pub elaborate : Expr → Environment → Making Typed
  elaborate (ExprAt place node) environment = do
    e ← elaborate_node node place environment
    not_too_large place e.type
    give e

  pub elaborate_node : ExprNode → Pos → Environment → Making Typed
  elaborate_node (IntNode n) place environment = do
    type ← form (intern IntRow)
    give (typed (IntLit n) type)
  elaborate_node (BoolNode b) place environment = do
    type ← form (intern BoolRow)
    give (typed (BoolLit b) type)
  elaborate_node UnitNode place environment = do
    type ← form (intern UnitRow)
    give (typed UnitLit type)
  elaborate_node (NameNode name) place environment = use_at place (meaning_of name environment)
  elaborate_node (AscribeNode expression type) place environment = do
    e ← elaborate expression environment
    wanted ← written type
    cast_to place wanted e
  elaborate_node (CallNode function arguments) place environment = do
    f ← elaborate function environment
    row ← row_of f.type
    call_by place (place_of function) f (how_many arguments) (elaborate_each arguments environment) (elaborate_all
        arguments environment) row
  elaborate_node (LambdaNode lambda) place environment = elaborate_lambda lambda environment
  elaborate_node (LetNode bindings body) place environment = do
    bound ← elaborate_bindings bindings environment
    sequence ← elaborate_sequence body (with_names bound.entries environment)
    give (typed (Let bound.bindings (Seq sequence.terms)) sequence.type)
  elaborate_node (LetrecNode members body) place environment = do
    heads ← heads_of members
    group ← elaborate_members members heads (with_names (names_of_heads heads) environment)
    sequence ← elaborate_sequence body (with_names (names_of_heads heads) environment)
    give (typed (Group group (Seq sequence.terms)) sequence.type)
  elaborate_node (IfNode condition on_true on_false) place environment = do
    c ← elaborate condition environment
    truth ← cast_to_row (place_of condition) BoolRow c
    first ← elaborate on_true environment
    second ← elaborate on_false environment
    type ← blend_at place first.type second.type
    one ← cast_to (place_of on_true) type first
    other ← cast_to (place_of on_false) type second
    give (typed (If truth.term one.term other.term) type)
  elaborate_node (BeginNode body) place environment = do
    sequence ← elaborate_sequence body environment
    give (seq sequence)
  elaborate_node (TupleNode parts) place environment = do
    given ← elaborate_all parts environment
    type ← form (intern (TupleRow given.types))
    give (typed (Tuple given.terms) type)
  elaborate_node (ProjNode tuple k number_place) place environment = do
    e ← elaborate tuple environment
    row ← row_of e.type
    project_by (place_of tuple) number_place e k row
  elaborate_node (PrimNode operator operands) place environment = do
    given ← elaborate_operands operands (operands_of operator) None environment
    type ← answer_type (answer_of operator) given.content
    give (typed (Prim operator given.terms) type)

  pub elaborate_lambda : LambdaExpr → Environment → Making Typed
  elaborate_lambda (LambdaAt place parameters result body) environment = do
    types ← parameter_types parameters
    wanted ← written_if result
    entries ← bind_names place parameters types
    inner ← elaborate_sequence body (with_names entries environment)
    e ← cast_if (last_place place body) wanted (seq inner)
    type ← form (intern (FunRow types e.type))
    give (typed (Lambda (variables entries) e.term type) type)

  pub elaborate_sequence : Exprs → Environment → Making Sequence
  -- no body is empty
  elaborate_sequence NoExprs environment = do
    type ← form (intern UnitRow)
    give (record { terms = NoTerms; type = type })
  elaborate_sequence (ExprThen expression NoExprs) environment = do
    e ← elaborate expression environment
    give (record { terms = TermThen e.term NoTerms; type = e.type })
  elaborate_sequence (ExprThen expression (ExprThen second rest)) environment = do
    e ← elaborate expression environment
    others ← elaborate_sequence (ExprThen second rest) environment
    give (record { terms = TermThen e.term others.terms; type = others.type })

  -- each at its own type
  pub elaborate_all : Exprs → Environment → Making Given
  elaborate_all NoExprs environment = give (record { terms = NoTerms; types = [] })
  elaborate_all (ExprThen expression rest) environment = do
    e ← elaborate expression environment
    others ← elaborate_all rest environment
    give (record { terms = TermThen e.term others.terms; types = e.type ∷ others.types })

  -- each cast to the type that is wanted
  pub elaborate_each : Exprs → Environment → List ℕ → Making Terms
  elaborate_each (ExprThen expression rest) environment (wanted ∷ more) = do
    e ← elaborate expression environment
    argument ← cast_to (place_of expression) wanted e
    others ← elaborate_each rest environment more
    give (TermThen argument.term others)
  elaborate_each _ environment _ = give NoTerms

  pub elaborate_operands : Exprs → List Operand → Option ℕ → Environment → Making Operands
  elaborate_operands (ExprThen expression rest) (operand ∷ more) content environment = do
    e ← elaborate expression environment
    one ← operand_by (place_of expression) content e operand
    others ← elaborate_operands rest more one.content environment
    give (record { terms = TermThen one.held.term others.terms; content = others.content })
  elaborate_operands _ _ content environment = give (record { terms = NoTerms; content = content })

  pub elaborate_bindings : LetBindings → Environment → Making Bound
  elaborate_bindings NoLets environment = give (record { bindings = NoBindings; entries = [] })
  elaborate_bindings (LetThen name own value rest) environment = do
    e ← elaborate value environment
    wanted ← written_if own
    bound ← cast_if (place_of value) wanted e
    variable ← fresh
    others ← elaborate_bindings rest environment
    give (record {
      bindings = BindingThen variable bound.term others.bindings;
      entries = (
        name,
        plain (place_of value)
            variable bound.type,
      ) ∷ others.entries;
    })

  -- the bodies of members whose heads are known
  pub elaborate_members : LetrecMembers → List Head → Environment → Making Members
  elaborate_members (LetrecThen name own lambda rest) (head ∷ more) environment = do
    member ← elaborate_member lambda head environment
    others ← elaborate_members rest more environment
    give (MemberThen head.meaning.variable member.variables member.body head.meaning.type others)
  elaborate_members _ _ environment = give NoMembers

  pub elaborate_member : LambdaExpr → Head → Environment → Making MemberBody
  elaborate_member (LambdaAt place parameters result body) head environment = do
    entries ← bind_names place parameters head.parameters
    inner ← elaborate_sequence body (with_names entries environment)
    e ← cast_to (last_place place body) head.answer (seq inner)
    give (record { variables = variables entries; body = e.term })

-- ---- programs

abbrev pub nothing_yet : Work
nothing_yet = record { types = []; labels = []; casts = []; next = 0 }

-- the elaboration of a program
abbrev pub elaborate_program : Expr → Made Typed
elaborate_program body = elaborate body [] nothing_yet
