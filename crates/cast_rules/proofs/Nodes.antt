-- Each form, where its parts are elaborated well.
use Rattle.std.proofs.Common.{◌≡◌, ℕ, ℤ, ◌<◌, ◌≤◌, Bool, List, [], ◌++◌, length, Option, Some, true, refl, sym, subst}
use Rattle.std.proofs.Common.{arith}
use Rattle.std.specs.Int.{w64}
use Rattle.std.specs.Int.RustNames.{FitsSigned}
use Rattle.grift_base.specs.declared.places.Pos.{Pos}
use Rattle.grift_base.specs.Types.{TypeRow, IntRow, BoolRow, UnitRow, TupleRow, row_at, parts_of}
use Rattle.core_calc.specs.Terms.{Term, IntLit, BoolLit, UnitLit, If, Prim}
use Rattle.core_calc.specs.Typing.{Context, IsWritten, HasType, binders, all_binders}
use Rattle.cast_rules.proofs.Tables.{IsFormedTable, AreRows}
use Rattle.surface_trees.specs.declared.names.Ident.{Ident}
use Rattle.surface_trees.specs.Trees.{TypeExpr, Expr, Exprs, IntNode, BoolNode, UnitNode, NameNode, CallNode, IfNode}
use Rattle.surface_trees.specs.Trees.{AscribeNode, TupleNode, ProjNode}
use Rattle.cast_rules.specs.Sources.{place_of, how_many}
use Rattle.type_graph.specs.Forming.{intern}
use Rattle.consistency.specs.Blending.{blend}
use Rattle.cast_rules.specs.Making.{Work, Making, then_make, ◌>>=◌, give, form, row_of, Typed, typed, cast_to}
use Rattle.cast_rules.specs.Making.{blend_at}
use Rattle.cast_rules.specs.Environments.{Environment, meaning_of}
use Rattle.cast_rules.specs.Elaboration.{elaborate, elaborate_node, elaborate_all, elaborate_each}
use Rattle.type_graph.proofs.Public.{row_stays, later_within}
use Rattle.cast_rules.proofs.Forming.{no_rows, row_within, blend_formed}
use Rattle.grift_base.specs.declared.refusals.RefusalKind.TheVariants.{NotConsistent}
use Rattle.consistency.specs.Consistency.{consistent}
use Rattle.cast_rules.specs.Programs.{IsWrittenType}
use Rattle.cast_rules.proofs.Fresh.{AreFresh, no_names, append_names, widen_names}
use Rattle.cast_rules.proofs.Works.{Keeps, then_keeps, keeps_more, Grown, grown_on, IsTyped, later, later_all}
use Rattle.cast_rules.proofs.Works.{FormsType, FormsRow, row_formed, type_of_form, test_tells, written_formed, CastsTo}
use Rattle.cast_rules.proofs.Works.{cast_to_keeps, Casts, cast_to_row_keeps}
use Rattle.cast_rules.proofs.Environments.{Fits, fits_later, found_fits}
use Rattle.cast_rules.proofs.Parts.{Elaborates, ElaboratesAll, ElaboratesTo, widen_typed, use_keeps, call_keeps}
use Rattle.cast_rules.proofs.Parts.{project_keeps}

pub fits_grown : (a b : Work) (context : Context) (environment : Environment) → Grown a b → Fits a.types a.next context
    environment → Fits b.types b.next context environment
fits_grown a b context environment g h = fits_later a.types b.types a.next b.next context environment g.types g.next h

-- the work elaborates an expression wherever the environment fits
abbrev pub Runs : Context → Environment → Making Typed → Type 0
Runs context environment making = (work : Work) → IsFormedTable work.types → Fits work.types work.next context
    environment → Keeps (λ e after. Elaborates work context e after) (making work)

-- the row of a type is read
pub then_row : {B : Type 0} (Q : B → Work → Type 0) (type : ℕ) (next : Option TypeRow → Making B) (work : Work) →
    Keeps Q (next (row_at work.types type) work) → Keeps Q (then_make (row_of type work) next)
unfolding then_make
then_row Q type next work h = h

-- ---- literals

literal : (context : Context) (term : Term) (row : TypeRow) (work : Work) → IsFormedTable work.types → AreRows
    work.types (parts_of row) → ((after : Work) (type : ℕ) → row_at after.types type ≡ Some row → HasType after.types
    (length after.labels) [] context term type × (IsWritten term × (binders term ≡ []))) → Keeps (λ e after. Elaborates
    work context e after) (then_make (form (intern row) work) (λ type. give (typed term type)))
literal context term row work table parts typed_so =
    then_keeps (λ type after. FormsRow work row type after) (λ e after. Elaborates work context e after) _ _
    (row_formed work row table parts)
    (λ type after h. let t = typed_so after type h.1 in (
      h.0,
      record {
        typed = t.0;
        row = row_within after.types type row h.1;
        written = t.1.0;
        own = subst (λ names.
            AreFresh work.next after.next names) (sym t.1.1) (no_names work.next after.next h.0.next);
        inside = tt;
      },
    ))

pub int_keeps : (n : ℤ) → FitsSigned w64 n → (place : Pos) (context : Context) (environment : Environment) → Runs
    context environment (elaborate_node (IntNode n) place environment)
int_keeps n fits place context environment work table h = literal context (IntLit n) IntRow work table (no_rows
    work.types) (λ after type e. ((fits, e), (tt, refl)))

pub bool_keeps : (b : Bool) (place : Pos) (context : Context) (environment : Environment) → Runs context environment
    (elaborate_node (BoolNode b) place environment)
bool_keeps b place context environment work table h = literal context (BoolLit b) BoolRow work table (no_rows
    work.types) (λ after type e. (e, (tt, refl)))

pub unit_keeps : (place : Pos) (context : Context) (environment : Environment) → Runs context environment
    (elaborate_node UnitNode place environment)
unit_keeps place context environment work table h = literal context UnitLit UnitRow work table (no_rows work.types) (λ
    after type e. (e, (tt, refl)))

pub name_keeps : (name : Ident) (place : Pos) (context : Context) (environment : Environment) → Runs context
    environment (elaborate_node (NameNode name) place environment)
name_keeps name place context environment work table h =
    use_keeps place context work (meaning_of name environment) table (λ meaning e. found_fits work.types work.next
    context name environment meaning h e)

-- ---- ascriptions and casts after an expression

-- a cast, after the expression was elaborated, leaves it elaborated
pub cast_after : (place : Pos) (context : Context) (before : Work) (e : Typed) (type : ℕ) (work : Work) (first last :
    ℕ) → Grown before work → before.next ≤ first → last ≤ work.next → IsTyped work context first last e → type < length
    work.types → Keeps (λ c after. Elaborates before context c after) (cast_to place type e work)
cast_after place context before e type work first last grown begins ends t row =
    keeps_more (λ c after. CastsTo work context first last type c after) (λ c after. Elaborates before context c after)
    _
    (cast_to_keeps place context first last e type work grown.table t row)
    (λ c after h. (
      grown_on before work after grown h.0,
      widen_typed after context first before.next last after.next c
          begins (let n = h.0.next in omega arith) h.1,
    ))

pub ascribe_keeps : (expression : Expr) (type : TypeExpr) (place : Pos) (context : Context) (environment : Environment)
    → IsWrittenType type → Runs context environment (elaborate expression environment) → Runs context environment
    (elaborate_node (AscribeNode expression type) place environment)
ascribe_keeps expression type place context environment source runs work table h =
    then_keeps (λ e after. Elaborates work context e after) (λ c after. Elaborates work context c after) _ _
    (runs work table h)
    (λ e one k. then_keeps (λ wanted after. FormsType one wanted after) (λ c after. Elaborates work context c after) _ _
    (written_formed type one source k.0.table)
    (λ wanted two w. cast_after place context work e wanted two work.next one.next (grown_on work one two k.0 w.0)
    (omega arith) w.0.next (later one two context work.next one.next e w.0 k.1) w.1))

-- ---- calls

pub call_node_keeps : (function : Expr) (arguments : Exprs) (place : Pos) (context : Context) (environment :
    Environment) → Runs context environment (elaborate function environment) → ((parameters : List ℕ) (work : Work) →
    IsFormedTable work.types → Fits work.types work.next context environment → AreRows work.types parameters → how_many
    arguments ≡ length parameters → Keeps (λ terms after. ElaboratesTo work context parameters terms after)
    (elaborate_each arguments environment parameters work)) → ((work : Work) → IsFormedTable work.types → Fits
    work.types work.next context environment → Keeps (λ given after. ElaboratesAll work context given after)
    (elaborate_all arguments environment work)) → Runs context environment (elaborate_node (CallNode function
    arguments) place environment)
call_node_keeps function arguments place context environment runs each all work table h =
    then_keeps (λ e after. Elaborates work context e after) (λ e after. Elaborates work context e after) _ _
    (runs work table h)
    (λ f one k.
    let fits = fits_grown work one context environment k.0 h in
    then_row (λ e after. Elaborates work context e after) f.type _ one
    (call_keeps place (place_of function) context work f (how_many arguments) (elaborate_each arguments environment)
    (elaborate_all arguments environment) one k.0 k.1 (row_at one.types f.type) refl
    (λ parameters rows same. each parameters one k.0.table fits rows same)
    (all one k.0.table fits)))

pub proj_keeps : (tuple : Expr) (n : ℤ) (number_place place : Pos) (context : Context) (environment : Environment) →
    Runs context environment (elaborate tuple environment) → Runs context environment (elaborate_node (ProjNode tuple n
    number_place) place environment)
proj_keeps tuple n number_place place context environment runs work table h =
    then_keeps (λ e after. Elaborates work context e after) (λ e after. Elaborates work context e after) _ _
    (runs work table h)
    (λ e one k. then_row (λ e after. Elaborates work context e after) e.type _ one
    (project_keeps (place_of tuple) number_place context work e n one k.0 k.1 (row_at one.types e.type) refl))

-- ---- tuples

pub tuple_keeps : (parts : Exprs) (place : Pos) (context : Context) (environment : Environment) → ((work : Work) →
    IsFormedTable work.types → Fits work.types work.next context environment → Keeps (λ given after. ElaboratesAll work
    context given after × (length given.types ≡ how_many parts)) (elaborate_all parts environment work)) → (1 ≤
    how_many parts) → (how_many parts ≤ 8) → Runs context environment (elaborate_node (TupleNode parts) place
    environment)
tuple_keeps parts place context environment runs least most work table h =
    then_keeps (λ given after. ElaboratesAll work context given after × (length given.types ≡ how_many parts)) (λ e
    after. Elaborates work context e after) _ _
    (runs work table h)
    (λ given one k. then_keeps (λ type after. FormsRow one (TupleRow given.types) type after) (λ e after. Elaborates
    work context e after) _ _
    (row_formed one (TupleRow given.types) k.0.0.table k.0.1.rows)
    (λ type two w.
    let terms = later_all one two context work.next one.next given.terms given.types w.0 k.0.1 in
    let size = k.1 in (
      grown_on work one two k.0.0 w.0,
      record {
        typed = (given.types, terms.typed, w.1, (let e = size in omega arith), (let e = size in omega arith));
        row = row_within two.types type (TupleRow given.types) w.1;
        written = terms.written;
        own = widen_names work.next work.next one.next two.next (all_binders given.terms) (omega arith) w.0.next
            terms.own;
        inside = tt;
      },
    )))

-- ---- if

-- the blend of two types is formed where they are consistent
blend_keeps : (place : Pos) (a b : ℕ) (work : Work) → IsFormedTable work.types → a < length work.types →
    b < length work.types → Keeps (λ type after. FormsType work type after) (blend_at place a b work)
blend_keeps place a b work table one two =
    then_keeps (λ answer after. (after ≡ work) × (consistent work.types a b ≡ true))
    (λ type after. FormsType work type after) _ _
    (test_tells (consistent work.types a b) NotConsistent place work)
    (λ answer after same. subst (λ w. Keeps (λ type last'. FormsType work type last') (form (blend a b) w)) (sym same.0)
    (type_of_form work (blend a b) (blend_formed (length work.types) a b work.types table one two same.1)))

module _ (condition on_true on_false : Expr) (place : Pos) (context : Context) (environment : Environment)
    (runs_condition : Runs context environment (elaborate condition environment)) (runs_true : Runs context environment
    (elaborate on_true environment)) (runs_false : Runs context environment (elaborate on_false environment)) where
  -- what is known when all parts are there
  if_result : (work w1 w2 w3 w4 : Work) (truth one other : Typed) (type : ℕ) → Grown work w1 → Grown w1 w2 → Grown w2
      w3 → Grown w3 w4 → IsTyped w4 context work.next w1.next truth → row_at w4.types truth.type ≡ Some BoolRow →
      IsTyped w4 context w1.next w2.next one → one.type ≡ type → IsTyped w4 context w2.next w3.next other → other.type
      ≡ type → Elaborates work context (typed (If truth.term one.term other.term) type) w4
  if_result work w1 w2 w3 w4 truth one other type g1 g2 g3 g4 c b t e u f = (
    grown_on work w1 w4 g1 (grown_on w1 w2 w4 g2 (grown_on w2 w3 w4 g3 g4)),
    record {
      typed = (
        truth.type,
        c.typed,
        b,
        subst (λ type. HasType w4.types (length w4.labels) [] context one.term type) e
            t.typed,
        subst (λ type. HasType w4.types (length w4.labels) [] context other.term type) f u.typed,
      );
      row = subst (λ type. type < length w4.types) e t.row;
      written = (c.written, t.written, u.written);
      own = append_three;
      inside = tt;
    },
  )
    where
      append_three : AreFresh work.next w4.next (binders truth.term ++ binders one.term ++ binders other.term)
      append_three =
          append_names work.next w2.next w4.next (binders truth.term ++ binders one.term) (binders other.term)
          (append_names work.next w1.next w2.next (binders truth.term) (binders one.term) c.own t.own)
          (widen_names w2.next w2.next w3.next w4.next (binders other.term) (omega arith) g4.next u.own)

  pub if_keeps : Runs context environment (elaborate_node (IfNode condition on_true on_false) place environment)
  if_keeps work table h =
      then_keeps (λ e after. Elaborates work context e after) (λ e after. Elaborates work context e after) _ _
      (runs_condition work table h)
      (λ c w0 k0. then_keeps (λ t after. Casts w0 context work.next w0.next t after × (row_at after.types t.type ≡ Some
      BoolRow)) (λ e after. Elaborates work context e after) _ _
      (cast_to_row_keeps (place_of condition) context work.next w0.next c BoolRow w0 k0.0.table k0.1 (no_rows w0.types))
      (λ truth w1 k1.
      let g1 = grown_on work w0 w1 k0.0 k1.0.0 in
      then_keeps (λ e after. Elaborates w1 context e after) (λ e after. Elaborates work context e after) _ _
      (runs_true w1 g1.table (fits_grown work w1 context environment g1 h))
      (λ first w2 k2.
      let g2 = grown_on work w1 w2 g1 k2.0 in
      then_keeps (λ e after. Elaborates w2 context e after) (λ e after. Elaborates work context e after) _ _
      (runs_false w2 g2.table (fits_grown work w2 context environment g2 h))
      (λ second w3 k3.
      blended truth first second w1 w2 w3 g1 (widen_typed w1 context work.next work.next w0.next w1.next truth
      (omega arith) k1.0.0.next k1.0.1) k1.1 k2 k3))))
    where
      rest_of : Typed → Typed → Typed → Making Typed
      rest_of first second truth =
          ◌>>=◌ (blend_at place first.type second.type) λ type.
          ◌>>=◌ (cast_to (place_of on_true) type first) λ one.
          ◌>>=◌ (cast_to (place_of on_false) type second) λ other.
          give (typed (If truth.term one.term other.term) type)

      blended : (truth first second : Typed) (w1 w2 w3 : Work) → Grown work w1 → IsTyped w1 context work.next w1.next
          truth → row_at w1.types truth.type ≡ Some BoolRow → Elaborates w1 context first w2 → Elaborates w2 context
          second w3 → Keeps (λ e after. Elaborates work context e
          after) (rest_of first second truth w3)
      blended truth first second w1 w2 w3 g1 t b k2 k3 =
          let g13 = grown_on w1 w2 w3 k2.0 k3.0 in
          then_keeps (λ type after. FormsType w3 type after) (λ e after. Elaborates work context e after) _ _
          (blend_keeps place first.type second.type w3 k3.0.table
          (later_within w2.types w3.types first.type k3.0.types k2.1.row) k3.1.row)
          (λ type w4 f.
          let g24 = grown_on w2 w3 w4 k3.0 f.0 in
          then_keeps (λ one after. CastsTo w4 context w1.next w2.next type one after) (λ e after. Elaborates work
          context e after) _ _
          (cast_to_keeps (place_of on_true) context w1.next w2.next first type w4 f.0.table (later w2 w4 context
          w1.next w2.next first g24 k2.1) f.1)
          (λ one w5 c.
          let g35 = grown_on w3 w4 w5 f.0 c.0 in
          then_keeps (λ other after. CastsTo w5 context w2.next w3.next type other after) (λ e after. Elaborates work
          context e after) _ _
          (cast_to_keeps (place_of on_false) context w2.next w3.next second type w5 c.0.table (later w3 w5 context
          w2.next w3.next second g35 k3.1) (later_within w4.types w5.types type c.0.types f.1))
          (λ other w6 d.
          let g36 = grown_on w3 w5 w6 g35 d.0 in
          let g16 = grown_on w1 w3 w6 g13 g36 in
          if_result work w1 w2 w3 w6 truth one other type g1 k2.0 k3.0 g36 (later w1 w6 context work.next w1.next truth
          g16 t)
          (row_stays w1.types w6.types truth.type BoolRow g16.types b) (later w5 w6 context w1.next w2.next one d.0
          c.1) c.2 d.1 d.2)))
