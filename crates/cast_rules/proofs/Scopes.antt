-- Forms that bind names.
use Rattle.std.proofs.Common.{◌≡◌, ℕ, suc, List, [], ◌∷◌, ◌++◌, length, Option, Some, refl, sym, ap, ◌∙◌, subst, arith}
use Rattle.grift_base.specs.declared.places.Pos.{Pos}
use Rattle.grift_base.specs.Types.{FunRow, row_at}
use Rattle.core_calc.specs.Typing.{Context, BindingsHaveTypes, binders, all_binders, binding_binders}
use Rattle.core_calc.specs.Typing.{AreWrittenBindings}
use Rattle.cast_rules.proofs.Tables.{IsFormedTable, AreRows, more_parts}
use Rattle.surface_trees.specs.declared.names.Ident.{Ident}
use Rattle.surface_trees.specs.Trees.{TypeExpr, Param, Expr, Exprs, LetBindings, LetNode, LambdaAt, NoLets, LetThen}
use Rattle.cast_rules.specs.Sources.{place_of, last_place}
use Rattle.cast_rules.specs.Making.{Work, Making, fresh}
use Rattle.cast_rules.specs.Environments.{Environment, with_names, variables, types_of}
use Rattle.cast_rules.specs.Elaboration.{seq, Bound, elaborate, elaborate_node, elaborate_lambda, elaborate_sequence}
use Rattle.cast_rules.specs.Elaboration.{elaborate_bindings}
use Rattle.type_graph.specs.TypeTables.{HasMoreRows}
use Rattle.type_graph.proofs.Public.{same_rows}
use Rattle.cast_rules.proofs.Forming.{rows_joined, one_row, row_within}
use Rattle.cast_rules.specs.Programs.{MayBeWritten, AreSourceParams}
use Rattle.cast_rules.proofs.Fresh.{AreFresh, times_append, no_names, one_name, append_names, widen_names}
use Rattle.cast_rules.proofs.Growing.{grow_bindings}
use Rattle.cast_rules.proofs.Works.{Keeps, then_keeps, same_entries, Grown, not_grown, grown_on, later, FormsRow}
use Rattle.cast_rules.proofs.Works.{row_formed, MayForm, written_if_formed, Casts, cast_if_keeps, may_later}
use Rattle.cast_rules.proofs.Environments.{Fits, fits_later, context_of, Rising, HaveRows, rising_within, rising_fresh}
use Rattle.cast_rules.proofs.Environments.{more_names, fits_with, IsNext, binds_all, FormsParameters}
use Rattle.cast_rules.proofs.Environments.{parameters_formed, BindsNames, names_bound}
use Rattle.cast_rules.proofs.Parts.{Elaborates}
use Rattle.cast_rules.proofs.Nodes.{Runs, fits_grown}
use Rattle.cast_rules.proofs.Lists.{RunsSequence}

-- names were bound, and the work is still a table's
pub bound_grown : (work after : Work) (types : List ℕ) (entries : Environment) → IsFormedTable work.types → BindsNames
    work types entries after → Grown work after
bound_grown work after types entries table b = record {
  table = subst (λ types. IsFormedTable types) (sym b.rows_same) table;
  types = subst (λ types. HasMoreRows work.types types) (sym b.rows_same) (same_rows work.types);
  labels = (let e = ap length b.labels in omega arith);
  next = rising_within work.next after.next entries b.rising;
  casts = (let e = ap length b.casts in omega arith);
  entries = same_entries work after b.casts (let e = ap length b.labels in omega arith) (let e = ap length b.rows_same
      in omega arith);
}

-- the environment with names that were bound
pub bound_fits : (work after : Work) (types : List ℕ) (entries environment : Environment) (context : Context) →
    AreRows work.types types → Fits work.types work.next context environment → BindsNames work types entries after →
    Fits after.types after.next (context_of entries ++ context) (with_names entries environment)
bound_fits work after types entries environment context rows h b =
    subst (λ rows. Fits rows after.next (context_of entries ++ context) (with_names entries environment))
    (sym b.rows_same)
    (fits_with work.types after.next (context_of entries ++ context) entries environment
    (more_names work.types work.next after.next context entries environment b.rising (b.rows rows) h))

-- ---- lambdas

pub lambda_keeps : (place : Pos) (parameters : List Param) (result : Option TypeExpr) (body : Exprs) (context :
    Context) (environment : Environment) → AreSourceParams parameters → MayBeWritten result → ((inner : Context) (names
    : Environment) → RunsSequence inner names (elaborate_sequence body names)) → Runs context environment
    (elaborate_lambda (LambdaAt place parameters result body) environment)
lambda_keeps place parameters result body context environment source result_source runs work table h =
    then_keeps (λ named after. FormsParameters work parameters named after) (λ e after. Elaborates work context e
    after) _ _
    (parameters_formed parameters work source table)
    (λ named w1 p. then_keeps (λ wanted after. MayForm w1 wanted after) (λ e after. Elaborates work context e after) _ _
    (written_if_formed result w1 result_source p.0.table)
    (λ wanted w2 r.
    let g2 = grown_on work w1 w2 p.0 r.0 in
    let rows = more_parts w1.types w2.types named r.0.types p.1 in
    then_keeps (λ entries after. BindsNames w2 named entries after) (λ e after. Elaborates work context e after) _ _
    (names_bound place parameters named w2 p.2)
    (λ entries w3 b.
    let g23 = bound_grown w2 w3 named entries r.0.table b in
    let inner = context_of entries ++ context in
    then_keeps (λ s after. Elaborates w3 inner (seq s) after) (λ e after. Elaborates work context e after) _ _
    (runs inner (with_names entries environment) w3 g23.table (bound_fits w2 w3 named entries environment context rows
    (fits_grown work w2 context environment g2 h) b))
    (λ s w4 k.
    let g24 = grown_on w2 w3 w4 g23 k.0 in
    then_keeps (λ e after. Casts w4 inner w3.next w4.next e after) (λ e after. Elaborates work context e after) _ _
    (cast_if_keeps (last_place place body) inner w3.next w4.next (seq s) wanted w4 k.0.table k.1 (may_later w2.types
    w4.types wanted g24.types r.1))
    (λ e w5 c.
    let g25 = grown_on w2 w4 w5 g24 c.0 in
    let parts = more_parts w2.types w5.types named g25.types rows in
    then_keeps (λ type after. FormsRow w5 (FunRow named e.type) type after) (λ e after. Elaborates work context e
    after) _ _
    (row_formed w5 (FunRow named e.type) c.0.table (rows_joined w5.types named (e.type ∷ []) parts (one_row w5.types
    e.type c.1.row)))
    (λ type w6 f.
    let body_typed = later w5 w6 inner w3.next w4.next e f.0 c.1 in
    let g46 = grown_on w4 w5 w6 c.0 f.0 in (
      grown_on work w2 w6 g2 (grown_on w2 w5 w6 g25 f.0),
      record {
        typed = (
          refl,
          (
            types_of entries,
            e.type,
            context_of entries,
            subst (λ types. row_at w6.types type ≡ Some (FunRow types e.type)) (sym b.same) f.1,
            binds_all entries,
            body_typed.typed,
          ),
        );
        row = row_within w6.types type (FunRow named e.type) f.1;
        written = body_typed.written;
        own = append_names work.next w3.next w6.next (variables entries) (binders e.term)
            (widen_names w2.next work.next w3.next w3.next (variables entries) g2.next (omega arith) (rising_fresh
            w2.next w3.next entries b.rising))
            (widen_names w3.next w3.next w4.next w6.next (binders e.term) (omega arith) g46.next body_typed.own);
        inside = tt;
      },
    )))))))

-- ---- let

pub record BindingsMade (before : Work) (context : Context) (bound : Bound) (after : Work) : Type 0 where
  pub grown : Grown before after
  pub typed : BindingsHaveTypes after.types (length after.labels) [] context bound.bindings (context_of bound.entries)
  pub written : AreWrittenBindings bound.bindings
  pub own : AreFresh before.next after.next (binding_binders bound.bindings)
  pub rising : Rising before.next after.next bound.entries
  pub rows : HaveRows after.types bound.entries

abbrev pub RunsBindings : Context → Environment → Making Bound → Type 0
RunsBindings context environment making = (work : Work) → IsFormedTable work.types → Fits work.types work.next context
    environment → Keeps (λ bound after. BindingsMade work context bound after) (making work)

pub bindings_of_none : (context : Context) (environment : Environment) → RunsBindings context environment
    (elaborate_bindings NoLets environment)
bindings_of_none context environment work table h =
    record {
      grown = not_grown work table;
      typed = refl;
      written = tt;
      own = no_names work.next work.next (omega
          arith);
      rising = omega arith;
      rows = tt;
    }

pub next_grown : (work : Work) (variable : ℕ) (after : Work) → IsFormedTable work.types → IsNext work variable after →
    Grown work after × (after.next ≡ suc variable)
next_grown work variable after table h = (
  subst (λ w. Grown work w) (sym h.1) (record {
    table = table;
    types = same_rows work.types;
    labels = omega arith;
    next
        = omega arith;
    casts = omega arith;
    entries = same_entries work (record work { next = suc work.next }) refl
        (omega arith) (omega arith);
  }),
  ap (λ w. w.next) h.1 ∙ sym (ap suc h.0),
)

swap_names : (first last : ℕ) (xs ys : List ℕ) → AreFresh first last (xs ++ ys) → AreFresh first last (ys ++ xs)
swap_names first last xs ys fresh x = let a = fresh x in let b = times_append x xs ys in let c = times_append x ys xs
    in omega arith

pub bindings_of_more : (name : Ident) (own : Option TypeExpr) (value : Expr) (rest : LetBindings) (context : Context)
    (environment : Environment) → MayBeWritten own → Runs context environment (elaborate value environment) →
    RunsBindings context environment (elaborate_bindings rest environment) → RunsBindings context environment
    (elaborate_bindings (LetThen name own value rest) environment)
bindings_of_more name own value rest context environment source runs runs_rest work table h =
    then_keeps (λ e after. Elaborates work context e after) (λ bound after. BindingsMade work context bound after) _ _
    (runs work table h)
    (λ e w1 k. then_keeps (λ wanted after. MayForm w1 wanted after) (λ bound after. BindingsMade work context bound
    after) _ _
    (written_if_formed own w1 source k.0.table)
    (λ wanted w2 r. then_keeps (λ c after. Casts w2 context work.next w1.next c after) (λ bound after. BindingsMade
    work context bound after) _ _
    (cast_if_keeps (place_of value) context work.next w1.next e wanted w2 r.0.table (later w1 w2 context work.next
    w1.next e r.0 k.1) r.1)
    (λ c w3 d.
    let g13 = grown_on w1 w2 w3 r.0 d.0 in
    let g3 = grown_on work w1 w3 k.0 g13 in
    then_keeps (λ variable after. IsNext w3 variable after) (λ bound after. BindingsMade work context bound after) _ _
    (refl, refl)
    (λ variable w4 n.
    let g34 = next_grown w3 variable w4 g3.table n in
    let g4 = grown_on work w3 w4 g3 g34.0 in
    then_keeps (λ bound after. BindingsMade w4 context bound after) (λ bound after. BindingsMade work context bound
    after) _ _
    (runs_rest w4 g4.table (fits_grown work w4 context environment g4 h))
    (λ others w5 l.
    let g35 = grown_on w3 w4 w5 g34.0 l.grown in
    let bound_typed = later w3 w5 context work.next w1.next c g35 d.1 in
    let is_here : variable ≡ w3.next = n.0 in
    let names = swap_names work.next w4.next (binders c.term) (variable ∷ [])
    (append_names work.next w3.next w4.next (binders c.term) (variable ∷ [])
    (widen_names work.next work.next w1.next w3.next (binders c.term) (omega arith) g13.next bound_typed.own)
    (widen_names variable w3.next (suc variable) w4.next (variable ∷ []) (omega arith) (let e = g34.1 in omega arith)
    (one_name variable))) in
    record {
      grown = grown_on work w4 w5 g4 l.grown;
      typed = (c.type, context_of others.entries, refl, bound_typed.typed, l.typed);
      written = (bound_typed.written, l.written);
      own = append_names work.next w4.next w5.next (variable ∷ binders c.term) (binding_binders others.bindings) names
          l.own;
      rising = ((let a = g3.next in omega arith), subst (λ m. Rising m w5.next others.entries) g34.1 l.rising);
      rows = (bound_typed.row, tt, l.rows);
    })))))

pub let_keeps : (bindings : LetBindings) (body : Exprs) (place : Pos) (context : Context) (environment : Environment) →
    RunsBindings context environment (elaborate_bindings bindings environment) → ((inner : Context) (names :
    Environment) → RunsSequence inner names (elaborate_sequence body names)) → Runs context environment (elaborate_node
    (LetNode bindings body) place environment)
let_keeps bindings body place context environment runs runs_body work table h =
    then_keeps (λ bound after. BindingsMade work context bound after) (λ e after. Elaborates work context e after) _ _
    (runs work table h)
    (λ bound w1 k.
    let inner = context_of bound.entries ++ context in
    then_keeps (λ s after. Elaborates w1 inner (seq s) after) (λ e after. Elaborates work context e after) _ _
    (runs_body inner (with_names bound.entries environment) w1 k.grown.table
    (fits_with w1.types w1.next inner bound.entries environment
    (more_names w1.types work.next w1.next context bound.entries environment k.rising k.rows
    (fits_later work.types w1.types work.next work.next context environment k.grown.types (omega arith) h))))
    (λ s w2 l. (
      grown_on work w1 w2 k.grown l.0,
      record {
        typed = (
          context_of bound.entries,
          subst (λ types. BindingsHaveTypes types (length w2.labels) [] context bound.bindings (context_of
              bound.entries)) (sym l.0.types.1)
              (grow_bindings w1.types l.0.types.0 (length w1.labels) (length w2.labels) l.0.labels [] bound.bindings
              context (context_of bound.entries) k.typed),
          l.1.typed,
        );
        row = l.1.row;
        written = (k.written, l.1.written);
        own = append_names work.next w1.next w2.next (binding_binders bound.bindings) (all_binders s.terms) k.own
            l.1.own;
        inside = tt;
      },
    )))
