-- What the elaboration makes is a program term.
use Rattle.std.proofs.Common.{◌≡◌, ℕ, List, [], ◌∷◌, length, Option, None, subst, arith}
use Rattle.grift_base.specs.declared.places.Pos.{Pos}
use Rattle.core_calc.specs.Typing.{Context, ProgramTermHasType, binders}
use Rattle.core_calc.specs.Terms.{Term}
use Rattle.cast_rules.proofs.Tables.{IsFormedTable, type_table}
use Rattle.surface_trees.specs.Trees.{Expr, ExprNode, LambdaExpr, Exprs, LetBindings, LetrecMembers, ExprAt, IntNode}
use Rattle.surface_trees.specs.Trees.{BoolNode, UnitNode, NameNode, LambdaNode, CallNode, LetNode, LetrecNode, IfNode}
use Rattle.surface_trees.specs.Trees.{BeginNode, AscribeNode, TupleNode, ProjNode, PrimNode, LambdaAt, NoExprs}
use Rattle.surface_trees.specs.Trees.{ExprThen, NoLets, LetThen, NoLetrecs, LetrecThen}
use Rattle.cast_rules.specs.Sources.{how_many}
use Rattle.cast_rules.specs.Making.{Work, Made, Makes, Typed}
use Rattle.cast_rules.specs.Environments.{Environment, Head}
use Rattle.cast_rules.specs.Operators.{Operand, operands_of}
use Rattle.cast_rules.specs.Elaboration.{elaborate, elaborate_node, elaborate_lambda, elaborate_sequence}
use Rattle.cast_rules.specs.Elaboration.{elaborate_all, elaborate_each, elaborate_operands, elaborate_bindings}
use Rattle.cast_rules.specs.Elaboration.{elaborate_members, elaborate_member, nothing_yet, elaborate_program}
use Rattle.cast_rules.specs.Programs.{IsSource, IsSourceNode, IsSourceLambda, AreSources, IsSourceBody}
use Rattle.cast_rules.specs.Programs.{AreSourceBindings, AreSourceMembers}
use Rattle.cast_rules.specs.Claims.{EntriesFit}
use Rattle.type_graph.proofs.Public.{none_is_not_some}
use Rattle.cast_rules.proofs.Fresh.{fresh_are_distinct}
use Rattle.cast_rules.proofs.Works.{Keeps, then_keeps, keeps_more, test_keeps}
use Rattle.cast_rules.proofs.Parts.{Elaborates, ElaboratesAll}
use Rattle.cast_rules.proofs.Operators.{ArePlain, plain_operands}
use Rattle.cast_rules.proofs.Nodes.{Runs, int_keeps, bool_keeps, unit_keeps, name_keeps, ascribe_keeps}
use Rattle.cast_rules.proofs.Nodes.{call_node_keeps, proj_keeps, tuple_keeps, if_keeps}
use Rattle.cast_rules.proofs.Lists.{RunsSequence, sequence_of_one, sequence_of_more, begin_keeps, RunsAll, all_of_none}
use Rattle.cast_rules.proofs.Lists.{all_of_more, RunsEach, each_of_none, each_of_more, RunsOperands, operands_of_none}
use Rattle.cast_rules.proofs.Lists.{operands_of_more, prim_keeps}
use Rattle.cast_rules.proofs.Scopes.{lambda_keeps, RunsBindings, bindings_of_none, bindings_of_more, let_keeps}
use Rattle.cast_rules.proofs.Groups.{RunsMember, RunsMembers, member_keeps, members_of_none, members_of_more}
use Rattle.cast_rules.proofs.Groups.{letrec_keeps}

-- the test of size after an expression changes nothing
sized : (node : ExprNode) (place : Pos) (context : Context) (environment : Environment) → Runs context environment
    (elaborate_node node place environment) → Runs context environment (elaborate (ExprAt place node) environment)
sized node place context environment runs work table h =
    then_keeps (λ e after. Elaborates work context e after) (λ e after. Elaborates work context e after) _ _
    (runs work table h)
    (λ e one k. then_keeps (λ answer after. Elaborates work context e after) (λ e after. Elaborates work context e
    after) _ _
    (test_keeps (λ after. Elaborates work context e after) _ _ _ one k)
    (λ answer two l. l))

mutual
  pub elaborated : (expression : Expr) → IsSource expression → (context : Context) (environment : Environment) → Runs
      context environment (elaborate expression environment)
  elaborated (ExprAt place node) source context environment =
      sized node place context environment (node_elaborated node source place context environment)

  node_elaborated : (node : ExprNode) → IsSourceNode node → (place : Pos) (context : Context) (environment :
      Environment) → Runs context environment (elaborate_node node place environment)
  node_elaborated (IntNode n) source place context environment = int_keeps n source place context environment
  node_elaborated (BoolNode b) source place context environment = bool_keeps b place context environment
  node_elaborated UnitNode source place context environment = unit_keeps place context environment
  node_elaborated (NameNode name) source place context environment = name_keeps name place context environment
  node_elaborated (LambdaNode lambda) source place context environment = lambda_elaborated lambda source context
      environment
  node_elaborated (CallNode function arguments) source place context environment =
      call_node_keeps function arguments place context environment (elaborated function source.0 context environment)
      (λ parameters work table fits rows same. each_elaborated arguments source.1 parameters same context environment
      work table fits rows)
      (λ work table fits. keeps_more (λ given after. ElaboratesAll work context given after × (length given.types ≡
      how_many arguments)) (λ given after. ElaboratesAll work context given after) _
      (all_elaborated arguments source.1 context environment work table fits) (λ given after h. h.0))
  node_elaborated (LetNode bindings body) source place context environment =
      let_keeps bindings body place context environment (bindings_elaborated bindings source.0 context environment) (λ
      inner names. sequence_elaborated body source.1 inner names)
  node_elaborated (LetrecNode members body) source place context environment =
      letrec_keeps members body place context environment source.0 (λ heads inner names. members_elaborated members
      source.0 heads inner names) (λ inner names. sequence_elaborated body source.1 inner names)
  node_elaborated (IfNode condition on_true on_false) source place context environment =
      if_keeps condition on_true on_false place context environment (elaborated condition source.0 context environment)
      (elaborated on_true source.1 context environment) (elaborated on_false source.2 context environment)
  node_elaborated (BeginNode body) source place context environment =
      begin_keeps body place context environment (sequence_elaborated body source context environment)
  node_elaborated (AscribeNode expression type) source place context environment =
      ascribe_keeps expression type place context environment source.1 (elaborated expression source.0 context
      environment)
  node_elaborated (TupleNode parts) source place context environment =
      tuple_keeps parts place context environment (all_elaborated parts source.0 context environment) source.1 source.2
  node_elaborated (ProjNode tuple n number_place) source place context environment =
      proj_keeps tuple n number_place place context environment (elaborated tuple source context environment)
  node_elaborated (PrimNode operator operands) source place context environment =
      prim_keeps operator operands place context environment (operands_elaborated operands source.0 (operands_of
      operator) source.1 (plain_operands operator) None context environment)

  lambda_elaborated : (lambda : LambdaExpr) → IsSourceLambda lambda → (context : Context) (environment : Environment) →
      Runs context environment (elaborate_lambda lambda environment)
  lambda_elaborated (LambdaAt place parameters result body) source context environment =
      lambda_keeps place parameters result body context environment source.1 source.3
      (λ inner names. sequence_elaborated body source.0 inner names)

  sequence_elaborated : (body : Exprs) → IsSourceBody body → (context : Context) (environment : Environment) →
      RunsSequence context environment (elaborate_sequence body environment)
  sequence_elaborated NoExprs source context environment = absurd source
  sequence_elaborated (ExprThen expression NoExprs) source context environment =
      sequence_of_one expression context environment (elaborated expression source context environment)
  sequence_elaborated (ExprThen expression (ExprThen second rest)) source context environment =
      sequence_of_more expression second rest context environment (elaborated expression source.0 context environment)
      (sequence_elaborated (ExprThen second rest) source.1 context environment)

  all_elaborated : (expressions : Exprs) → AreSources expressions → (context : Context) (environment : Environment) →
      RunsAll context environment (how_many expressions) (elaborate_all expressions environment)
  all_elaborated NoExprs source context environment = all_of_none context environment
  all_elaborated (ExprThen expression rest) source context environment =
      all_of_more expression rest context environment (elaborated expression source.0 context environment)
      (all_elaborated rest source.1 context environment)

  each_elaborated : (expressions : Exprs) → AreSources expressions → (wanted : List ℕ) → how_many expressions ≡ length
      wanted → (context : Context) (environment : Environment) → RunsEach context environment wanted (elaborate_each
      expressions environment wanted)
  each_elaborated NoExprs source [] same context environment = each_of_none context environment
  each_elaborated NoExprs source (wanted ∷ more) same context environment = absurd (omega arith)
  each_elaborated (ExprThen expression rest) source [] same context environment = absurd (omega arith)
  each_elaborated (ExprThen expression rest) source (wanted ∷ more) same context environment =
      each_of_more expression rest wanted more context environment (elaborated expression source.0 context environment)
      (each_elaborated rest source.1 more (omega arith) context environment)

  operands_elaborated : (expressions : Exprs) → AreSources expressions → (operands : List Operand) → how_many
      expressions ≡ length operands → ArePlain operands → (content : Option ℕ) (context : Context) (environment :
      Environment) → RunsOperands context environment content operands (elaborate_operands expressions operands content
      environment)
  operands_elaborated NoExprs source [] same plain content context environment = operands_of_none content context
      environment
  operands_elaborated NoExprs source (operand ∷ more) same plain content context environment = absurd (omega arith)
  operands_elaborated (ExprThen expression rest) source [] same plain content context environment = absurd (omega arith)
  operands_elaborated (ExprThen expression rest) source (operand ∷ more) same plain content context environment =
      operands_of_more expression rest operand more content context environment plain.0 (elaborated expression source.0
      context environment)
      (λ middle. operands_elaborated rest source.1 more (omega arith) plain.1 middle context environment)

  bindings_elaborated : (bindings : LetBindings) → AreSourceBindings bindings → (context : Context) (environment :
      Environment) → RunsBindings context environment (elaborate_bindings bindings environment)
  bindings_elaborated NoLets source context environment = bindings_of_none context environment
  bindings_elaborated (LetThen name own value rest) source context environment =
      bindings_of_more name own value rest context environment source.1 (elaborated value source.0 context environment)
      (bindings_elaborated rest source.2 context environment)

  members_elaborated : (members : LetrecMembers) → AreSourceMembers members → (heads : List Head) (context : Context)
      (environment : Environment) → RunsMembers context environment members heads (elaborate_members members heads
      environment)
  members_elaborated NoLetrecs source [] context environment = members_of_none context environment
  members_elaborated NoLetrecs source (head ∷ heads) context environment = λ work table h fit number. absurd number
  members_elaborated (LetrecThen name own lambda rest) source [] context environment = λ work table h fit number.
      absurd number
  members_elaborated (LetrecThen name own lambda rest) source (head ∷ heads) context environment =
      members_of_more name own lambda rest head heads context environment (member_elaborated lambda source.0 head
      context environment) (members_elaborated rest source.2 heads context environment)

  member_elaborated : (lambda : LambdaExpr) → IsSourceLambda lambda → (head : Head) (context : Context) (environment :
      Environment) → RunsMember context environment lambda head (elaborate_member lambda head environment)
  member_elaborated (LambdaAt place parameters result body) source head context environment =
      member_keeps place parameters result body head context environment
      (λ inner names. sequence_elaborated body source.0 inner names)

no_types : IsFormedTable []
no_types = record {
  distinct = (λ i j within e. absurd (omega arith));
  finite = record {
    closed = λ type row e. absurd (none_is_not_some row e);
    ends = λ type within. absurd (omega arith);
  };
}

at_the_end : {A : Type 0} (P : A → Work → Type 0) (made : Made A) (a : A) (after : Work) → Keeps P made → made ≡ Makes
    a after → P a after
at_the_end P made a after h e = subst (λ m. Keeps P m) e h

pub program_elaborated : (program : Expr) (e : Typed) (after : Work) → IsSource program → elaborate_program program ≡
    Makes e after → ProgramTermHasType after.types (length after.labels) e.term e.type
program_elaborated program e after source made =
    let h = at_the_end (λ e after. Elaborates nothing_yet [] e after) (elaborate_program program) e after (elaborated
    program source [] [] nothing_yet no_types tt) made in
    (type_table after.types h.0.table, h.1.written, fresh_are_distinct 0 after.next (binders e.term) h.1.own, h.1.typed)

pub entries_elaborated : (program : Expr) (e : Typed) (after : Work) → IsSource program → elaborate_program program ≡
    Makes e after → EntriesFit after
entries_elaborated program e after source made =
    let h = at_the_end (λ e after. Elaborates nothing_yet [] e after) (elaborate_program program) e after (elaborated
    program source [] [] nothing_yet no_types tt) made in
    h.0.entries (λ place entry e. absurd (none_is_not_some entry e))

-- the same, where a term was answered
pub program_answered : (program : Expr) (term : Term) (type : ℕ) (entry : Option ℕ) (after : Work) → IsSource program →
    elaborate_program program ≡ Makes (record { term = term; type = type; entry = entry }) after →
    ProgramTermHasType after.types (length after.labels) term type
program_answered program term type entry after source made =
    program_elaborated program (record { term = term; type = type; entry = entry }) after source made
