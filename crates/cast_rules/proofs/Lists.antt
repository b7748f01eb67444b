-- Expressions in order: bodies, arguments and operands.
use Rattle.std.proofs.Common.{◌≡◌, ℕ, suc, List, [], ◌∷◌, length, Option, None, refl, ap, subst, arith}
use Rattle.grift_base.specs.declared.places.Pos.{Pos}
use Rattle.grift_base.specs.declared.operators.PrimOp.{PrimOp}
use Rattle.grift_base.specs.Types.{TypeRows}
use Rattle.core_calc.specs.Terms.{Term, Terms, Prim, NoTerms, TermThen}
use Rattle.core_calc.specs.Typing.{Context, HasType, LastHasType, binders, all_binders}
use Rattle.cast_rules.proofs.Tables.{IsFormedTable, AreRows, more_parts}
use Rattle.surface_trees.specs.Trees.{Expr, Exprs, BeginNode, PrimNode, NoExprs, ExprThen}
use Rattle.cast_rules.specs.Sources.{place_of, how_many}
use Rattle.cast_rules.specs.Making.{Work, Making, Typed}
use Rattle.cast_rules.specs.Environments.{Environment}
use Rattle.cast_rules.specs.Calls.{Given}
use Rattle.cast_rules.specs.Elaboration.{Sequence, seq, Operands, elaborate, elaborate_node, elaborate_sequence}
use Rattle.cast_rules.specs.Elaboration.{elaborate_all, elaborate_each, elaborate_operands}
use Rattle.cast_rules.specs.Operators.{Operand, operands_of, answer_of}
use Rattle.type_graph.proofs.Public.{later_within}
use Rattle.cast_rules.proofs.Forming.{no_rows, rows_then, head_row, tail_rows}
use Rattle.cast_rules.proofs.Fresh.{no_names, append_names, widen_names}
use Rattle.cast_rules.proofs.Works.{Keeps, then_keeps, Grown, not_grown, grown_on, IsTyped, later, AreTyped, later_all}
use Rattle.cast_rules.proofs.Works.{CastsTo, cast_to_keeps, MayHaveRow, may_later}
use Rattle.cast_rules.proofs.Environments.{Fits}
use Rattle.cast_rules.proofs.Parts.{Elaborates, ElaboratesAll, ElaboratesTo, widen_typed}
use Rattle.cast_rules.proofs.Operators.{OperandsFit, operand_later, operands_later, IsPlain, Fitting, operand_keeps}
use Rattle.cast_rules.proofs.Operators.{operator_typed, plain_answer, answer_keeps, Answers}
use Rattle.cast_rules.proofs.Nodes.{Runs, fits_grown}

-- ---- bodies

abbrev pub RunsSequence : Context → Environment → Making Sequence → Type 0
RunsSequence context environment making = (work : Work) → IsFormedTable work.types → Fits work.types work.next context
    environment → Keeps (λ s after. Elaborates work context (seq s) after) (making work)

pub sequence_of_one : (expression : Expr) (context : Context) (environment : Environment) → Runs context environment
    (elaborate expression environment) → RunsSequence context environment (elaborate_sequence (ExprThen expression
    NoExprs) environment)
sequence_of_one expression context environment runs work table h =
    then_keeps (λ e after. Elaborates work context e after) (λ s after. Elaborates work context (seq s) after) _ _
    (runs work table h)
    (λ e after k. (
      k.0,
      record {
        typed = k.1.typed;
        row = k.1.row;
        written = (k.1.written, tt);
        own = append_names
            work.next after.next after.next (binders e.term) [] k.1.own (no_names after.next after.next (omega arith));
        inside = tt;
      },
    ))

last_then : (types : TypeRows) (labels : ℕ) (context : Context) (term : Term) (terms : Terms) (other type : ℕ) →
    HasType types labels [] context term other → LastHasType types labels [] context terms type → LastHasType types
    labels [] context (TermThen term terms) type
last_then types labels context term NoTerms other type h l = absurd l
last_then types labels context term (TermThen second rest) other type h l = ((other, h), l)

pub sequence_of_more : (expression second : Expr) (rest : Exprs) (context : Context) (environment : Environment) → Runs
    context environment (elaborate expression environment) → RunsSequence context environment (elaborate_sequence
    (ExprThen second rest) environment) → RunsSequence context environment (elaborate_sequence (ExprThen expression
    (ExprThen second rest)) environment)
sequence_of_more expression second rest context environment runs runs_rest work table h =
    then_keeps (λ e after. Elaborates work context e after) (λ s after. Elaborates work context (seq s) after) _ _
    (runs work table h)
    (λ e one k. then_keeps (λ s after. Elaborates one context (seq s) after) (λ s after. Elaborates work context (seq
    s) after) _ _
    (runs_rest one k.0.table (fits_grown work one context environment k.0 h))
    (λ s two l.
    let t = later one two context work.next one.next e l.0 k.1 in (
      grown_on work one two k.0 l.0,
      record {
        typed = last_then two.types (length two.labels) context e.term s.terms e.type s.type t.typed l.1.typed;
        row = l.1.row;
        written = (t.written, l.1.written);
        own = append_names work.next one.next two.next (binders e.term) (all_binders s.terms) t.own l.1.own;
        inside = tt;
      },
    )))

pub begin_keeps : (body : Exprs) (place : Pos) (context : Context) (environment : Environment) → RunsSequence context
    environment (elaborate_sequence body environment) → Runs context environment (elaborate_node (BeginNode body) place
    environment)
begin_keeps body place context environment runs work table h =
    then_keeps (λ s after. Elaborates work context (seq s) after) (λ e after. Elaborates work context e after) _ _
    (runs work table h)
    (λ s after k. k)

-- ---- terms with their types

none_typed : (work : Work) (context : Context) → IsFormedTable work.types → AreTyped work context work.next work.next
    NoTerms []
none_typed work context table = record {
  typed = refl;
  rows = no_rows work.types;
  written = tt;
  own = no_names
      work.next work.next (omega arith);
}

typed_then : (one two : Work) (context : Context) (first : ℕ) (e : Typed) (terms : Terms) (types : List ℕ) → Grown one
    two → IsTyped one context first one.next e → AreTyped two context one.next two.next terms types → AreTyped two
    context first two.next (TermThen e.term terms) (e.type ∷ types)
typed_then one two context first e terms types grown t all =
    let moved = later one two context first one.next e grown t in
    record {
      typed = (e.type, types, refl, moved.typed, all.typed);
      rows = rows_then two.types e.type types moved.row all.rows;
      written = (moved.written, all.written);
      own = append_names first one.next two.next (binders e.term) (all_binders terms) moved.own all.own;
    }

abbrev pub RunsAll : Context → Environment → ℕ → Making Given → Type 0
RunsAll context environment number making = (work : Work) → IsFormedTable work.types → Fits work.types work.next
    context environment → Keeps (λ given after. ElaboratesAll work context given after × (length given.types ≡ number))
    (making work)

pub all_of_none : (context : Context) (environment : Environment) → RunsAll context environment 0 (elaborate_all
    NoExprs environment)
all_of_none context environment work table h = ((not_grown work table, none_typed work context table), refl)

pub all_of_more : (expression : Expr) (rest : Exprs) (context : Context) (environment : Environment) → Runs context
    environment (elaborate expression environment) → RunsAll context environment (how_many rest) (elaborate_all rest
    environment) → RunsAll context environment (suc (how_many rest)) (elaborate_all (ExprThen expression rest)
    environment)
all_of_more expression rest context environment runs runs_rest work table h =
    then_keeps (λ e after. Elaborates work context e after) (λ given after. ElaboratesAll work context given after ×
    (length given.types ≡ suc (how_many rest))) _ _
    (runs work table h)
    (λ e one k. then_keeps (λ given after. ElaboratesAll one context given after × (length given.types ≡ how_many
    rest)) (λ given after. ElaboratesAll work context given after × (length given.types ≡ suc (how_many rest))) _ _
    (runs_rest one k.0.table (fits_grown work one context environment k.0 h))
    (λ given two l. (
      (grown_on work one two k.0 l.0.0, typed_then one two context work.next e given.terms given.types l.0.0 k.1 l.0.1),
      ap suc l.1,
    )))

abbrev pub RunsEach : Context → Environment → List ℕ → Making Terms → Type 0
RunsEach context environment wanted making =
    (work : Work) → IsFormedTable work.types → Fits work.types work.next context environment →
    AreRows work.types wanted → Keeps (λ terms after. ElaboratesTo work context wanted terms after) (making work)

pub each_of_none : (context : Context) (environment : Environment) →
    RunsEach context environment [] (elaborate_each NoExprs environment [])
each_of_none context environment work table h rows = (not_grown work table, none_typed work context table)

pub each_of_more : (expression : Expr) (rest : Exprs) (wanted : ℕ) (more : List ℕ) (context : Context)
    (environment : Environment) → Runs context environment (elaborate expression environment) →
    RunsEach context environment more (elaborate_each rest environment more) →
    RunsEach context environment (wanted ∷ more) (elaborate_each (ExprThen expression rest) environment (wanted ∷ more))
each_of_more expression rest wanted more context environment runs runs_rest work table h rows =
    then_keeps (λ e after. Elaborates work context e after)
    (λ terms after. ElaboratesTo work context (wanted ∷ more) terms after) _ _
    (runs work table h)
    (λ e one k. then_keeps (λ c after. CastsTo one context work.next one.next wanted c after)
    (λ terms after. ElaboratesTo work context (wanted ∷ more) terms after) _ _
    (cast_to_keeps (place_of expression) context work.next one.next e wanted one k.0.table k.1
    (later_within work.types one.types wanted k.0.types (head_row work.types wanted more rows)))
    (λ c two d.
    let so_far = grown_on work one two k.0 d.0 in
    let argument = widen_typed two context work.next work.next one.next two.next c (omega arith) d.0.next d.1 in
    then_keeps (λ terms after. ElaboratesTo two context more terms after)
    (λ terms after. ElaboratesTo work context (wanted ∷ more) terms after) _ _
    (runs_rest two d.0.table (fits_grown work two context environment so_far h)
    (more_parts work.types two.types more so_far.types (tail_rows work.types wanted more rows)))
    (λ terms three l. (
      grown_on work two three so_far l.0,
      subst (λ type. AreTyped three context work.next three.next (TermThen c.term terms) (type ∷ more)) d.2
          (typed_then two three context work.next c terms more l.0 argument l.1),
    ))))

-- ---- operands

pub record OperandsMade (before : Work) (context : Context) (content : Option ℕ) (operands : List Operand) (made :
    Operands) (after : Work) : Type 0 where
  pub types : List ℕ
  pub grown : Grown before after
  pub terms : AreTyped after context before.next after.next made.terms types
  pub fit : OperandsFit after.types content operands types made.content
  pub known : MayHaveRow after.types made.content

abbrev pub RunsOperands : Context → Environment → Option ℕ → List Operand → Making Operands → Type 0
RunsOperands context environment content operands making = (work : Work) → IsFormedTable work.types → Fits work.types
    work.next context environment → MayHaveRow work.types content → Keeps (λ made after. OperandsMade work context
    content operands made after) (making work)

pub operands_of_none : (content : Option ℕ) (context : Context) (environment : Environment) → RunsOperands context
    environment content [] (elaborate_operands NoExprs [] content environment)
operands_of_none content context environment work table h known =
    record {
      types = [];
      grown = not_grown work table;
      terms = none_typed work context table;
      fit = (refl, refl);
      known
          = known;
    }

pub operands_of_more : (expression : Expr) (rest : Exprs) (operand : Operand) (more : List Operand) (content : Option
    ℕ) (context : Context) (environment : Environment) → IsPlain operand → Runs context environment (elaborate
    expression environment) → ((middle : Option ℕ) → RunsOperands context environment middle more (elaborate_operands
    rest more middle environment)) → RunsOperands context environment content (operand ∷ more) (elaborate_operands
    (ExprThen expression rest) (operand ∷ more) content environment)
operands_of_more expression rest operand more content context environment plain runs runs_rest work table h known =
    then_keeps (λ e after. Elaborates work context e after) (λ made after. OperandsMade work context content (operand ∷
    more) made after) _ _
    (runs work table h)
    (λ e one k. then_keeps (λ held after. Fitting one context work.next one.next content operand held after) (λ made
    after. OperandsMade work context content (operand ∷ more) made after) _ _
    (operand_keeps (place_of expression) context work.next one.next content e operand one k.0.table k.1 (may_later
    work.types one.types content k.0.types known) plain)
    (λ held two d.
    let so_far = grown_on work one two k.0 d.0.0 in
    let argument = widen_typed two context work.next work.next one.next two.next held.held (omega arith) d.0.0.next
    d.0.1 in
    then_keeps (λ made after. OperandsMade two context held.content more made after) (λ made after. OperandsMade work
    context content (operand ∷ more) made after) _ _
    (runs_rest held.content two d.0.0.table (fits_grown work two context environment so_far h) d.2)
    (λ made three l. record {
      types = held.held.type ∷ l.types;
      grown = grown_on work two three so_far l.grown;
      terms = typed_then two three context work.next held.held made.terms l.types l.grown argument l.terms;
      fit = (
        held.held.type,
        l.types,
        held.content,
        refl,
        operand_later two.types three.types content operand
            held.held.type held.content l.grown.types d.1,
        l.fit,
      );
      known = l.known;
    })))

pub prim_keeps : (operator : PrimOp) (operands : Exprs) (place : Pos) (context : Context) (environment : Environment) →
    RunsOperands context environment None (operands_of operator) (elaborate_operands operands (operands_of operator)
    None environment) → Runs context environment (elaborate_node (PrimNode operator operands) place environment)
prim_keeps operator operands place context environment runs work table h =
    then_keeps (λ made after. OperandsMade work context None (operands_of operator) made after) (λ e after. Elaborates
    work context e after) _ _
    (runs work table h tt)
    (λ made one k. then_keeps (λ type after. Answers one (answer_of operator) made.content type after) (λ e after.
    Elaborates work context e after) _ _
    (answer_keeps (answer_of operator) made.content one k.grown.table k.known (plain_answer operator))
    (λ type two a.
    let terms = later_all one two context work.next one.next made.terms k.types a.0 k.terms in
    let fit = operands_later one.types two.types None (operands_of operator) k.types made.content a.0.types k.fit in (
      grown_on work one two k.grown a.0,
      record {
        typed = (k.types, terms.typed, operator_typed two.types made.content k.types operator type fit a.2);
        row = a.1;
        written = terms.written;
        own = widen_names work.next work.next one.next two.next (all_binders made.terms) (omega arith) a.0.next
            terms.own;
        inside = tt;
      },
    )))
