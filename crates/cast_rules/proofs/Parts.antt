-- Uses of names, calls and projections, where the parts are elaborated.
use Rattle.std.proofs.Common.{◌≡◌, ℕ, ℤ, pos, negsuc, ◌<◌, ◌≤◌, List, [], ◌∷◌, length, Option, Some, None, refl}
use Rattle.std.proofs.Common.{sym, subst, arith, slice_get}
use Rattle.std.specs.Prelude.{nat_eq}
use Rattle.std.proofs.lemmas.Bool.{eqb-true}
use Rattle.std.proofs.lemmas.Option.{slice_get_within, get_or_from_slice_get}
use Rattle.grift_base.specs.declared.places.Pos.{Pos}
use Rattle.grift_base.specs.Types.{TypeRow, TypeRows, DynRow, FunRow, TupleRow, row_at, tuple_part}
use Rattle.core_calc.specs.Terms.{Terms, Var, Call}
use Rattle.core_calc.specs.Typing.{Context, binders, all_binders}
use Rattle.type_graph.proofs.Public.{none_is_not_some, row_stays}
use Rattle.cast_rules.proofs.Tables.{IsFormedTable, AreRows, more_parts}
use Rattle.cast_rules.specs.Making.{Work, Making, PartOf, Typed, typed}
use Rattle.cast_rules.specs.Environments.{Meaning, use_as, use_at}
use Rattle.cast_rules.specs.Calls.{Given, call_by, part_by, project_by}
use Rattle.cast_rules.proofs.Forming.{no_rows, rows_joined, one_row, row_within, parts_within, split_last}
use Rattle.cast_rules.proofs.Fresh.{no_names, append_names, widen_names}
use Rattle.cast_rules.proofs.Works.{Keeps, then_keeps, keeps_more, keeps_if, Grown, grown_on, IsTyped, later, AreTyped}
use Rattle.cast_rules.proofs.Works.{later_all, FormsRow, row_formed, MakesLabel, label_made, ListsEntry, entry_listed}
use Rattle.cast_rules.proofs.Works.{CastsTo, cast_made, Casts, MayHaveRow, not_grown}
use Rattle.cast_rules.proofs.Environments.{MeaningFits}

-- an expression was elaborated in this context
abbrev pub Elaborates : Work → Context → Typed → Work → Type 0
Elaborates before context e after = Grown before after × IsTyped after context before.next after.next e

abbrev pub ElaboratesAll : Work → Context → Given → Work → Type 0
ElaboratesAll before context given after = Grown before after × AreTyped after context before.next after.next
    given.terms given.types

-- several expressions were elaborated in this context, at these types
abbrev pub ElaboratesTo : Work → Context → List ℕ → Terms → Work → Type 0
ElaboratesTo before context wanted terms after =
    Grown before after × AreTyped after context before.next after.next terms wanted

pub widen_typed : (after : Work) (context : Context) (first earlier last later : ℕ) (e : Typed) → earlier ≤ first →
    last ≤ later → IsTyped after context first last e → IsTyped after context earlier later e
widen_typed after context first earlier last later e before behind t = record {
  typed = t.typed;
  row = t.row;
  written = t.written;
  own = widen_names first earlier last later (binders e.term) before behind t.own;
  inside = t.inside;
}

-- ---- names

-- the variable, or its cast to the written type
use_as_keeps : (place : Pos) (context : Context) (first last : ℕ) (e : Typed) (wanted : Option ℕ) (work : Work) →
    IsFormedTable work.types → IsTyped work context first last e → MayHaveRow work.types wanted →
    Keeps (λ c after. Casts work context first last c after) (use_as place wanted e work)
use_as_keeps place context first last e (Some type) work table t row =
    keeps_if (λ c after. Casts work context first last c after) (nat_eq e.type type) _ _ work
    (λ same. (not_grown work table, t))
    (λ differs. keeps_more (λ c after. CastsTo work context first last type c after)
    (λ c after. Casts work context first last c after) _
    (cast_made place context first last e type work table t row)
    (λ c after h. (h.0, h.1)))
use_as_keeps place context first last e None work table t row = (not_grown work table, t)

pub use_keeps : (place : Pos) (context : Context) (work : Work) (found : Option Meaning) → IsFormedTable work.types →
    ((meaning : Meaning) → found ≡ Some meaning → MeaningFits work.types work.next context meaning) → Keeps (λ e after.
    Elaborates work context e after) (use_at place found work)
use_keeps place context work None table fits = tt
use_keeps place context work (Some meaning) table fits =
    let m = fits meaning refl in
    keeps_more (λ e after. Casts work context work.next work.next e after) (λ e after. Elaborates work context e after)
    _
    (use_as_keeps meaning.place context work.next work.next (typed (Var meaning.variable) meaning.type) meaning.written
    work table
    (record {
      typed = m.entry;
      row = m.row;
      written = tt;
      own = no_names work.next work.next (omega arith);
      inside = tt;
    }) m.wanted)
    (λ e after h. (
      h.0,
      widen_typed after context work.next work.next work.next after.next e (omega arith) h.0.next
          h.1,
    ))

-- ---- calls

module _ (place function_place : Pos) (context : Context) (before : Work) (function : Typed) (number : ℕ) (each : List
    ℕ → Making Terms) (all : Making Given) (work : Work) (grown : Grown before work) (t : IsTyped work context
    before.next work.next function) where
  call_result : (after : Work) (called : Typed) (terms : Terms) (parameters : List ℕ) (answer : ℕ) → Grown work after →
      IsTyped after context before.next work.next called → row_at after.types called.type ≡ Some (FunRow parameters
      answer) → AreTyped after context work.next after.next terms parameters → Elaborates before context (typed (Call
      called.term terms) answer) after
  call_result after called terms parameters answer more f row arguments = (
    grown_on before work after grown more,
    record {
      typed = (called.type, parameters, f.typed, row, arguments.typed);
      row = (split_last after.types parameters answer (parts_within after.types called.type (FunRow parameters answer)
          more.table row)).1;
      written = (f.written, arguments.written);
      own = append_names before.next work.next after.next (binders called.term) (all_binders terms) f.own arguments.own;
      inside = tt;
    },
  )

  pub call_keeps : (row : Option TypeRow) → row_at work.types function.type ≡ row → ((parameters : List ℕ) → AreRows
      work.types parameters → number ≡ length parameters → Keeps (λ terms after. ElaboratesTo work context parameters
      terms after) (each parameters work)) → Keeps (λ given after. ElaboratesAll work context given after) (all work) →
      Keeps (λ e after. Elaborates before context e after) (call_by place function_place function number each all row
      work)
  call_keeps (Some (FunRow parameters answer)) e given_each given_all =
      keeps_if (λ e after. Elaborates before context e after) (nat_eq number (length parameters)) _ _ work
      (λ same. then_keeps (λ terms after. ElaboratesTo work context parameters terms after) (λ e after. Elaborates
      before context e after) _ _
      (given_each parameters (split_last work.types parameters answer (parts_within work.types function.type (FunRow
      parameters answer) grown.table e)).0 (eqb-true number (length parameters) same))
      (λ terms after h. call_result after function terms parameters answer h.0 (later work after context before.next
      work.next function h.0 t)
      (row_stays work.types after.types function.type (FunRow parameters answer) h.0.types e) h.1))
      (λ differs. tt)
  call_keeps (Some DynRow) e given_each given_all =
      then_keeps (λ given after. ElaboratesAll work context given after) (λ e after. Elaborates before context e after)
      _ _ given_all
      (λ given one h. then_keeps (λ dyn after. FormsRow one DynRow dyn after) (λ e after. Elaborates before context e
      after) _ _
      (row_formed one DynRow h.0.table (no_rows one.types))
      (λ dyn two d.
      let below = row_within two.types dyn DynRow d.1 in
      then_keeps (λ whole after. FormsRow two (FunRow given.types dyn) whole after) (λ e after. Elaborates before
      context e after) _ _
      (row_formed two (FunRow given.types dyn) d.0.table (rows_joined two.types given.types (dyn ∷ []) (more_parts
      one.types two.types given.types d.0.types h.1.rows) (one_row two.types dyn below)))
      (λ whole three w.
      let so_far = grown_on work two three (grown_on work one two h.0 d.0) w.0 in
      then_keeps (λ called after. CastsTo three context before.next work.next whole called after) (λ e after.
      Elaborates before context e after) _ _
      (cast_made function_place context before.next work.next function whole three w.0.table (later work three context
      before.next work.next function so_far t) (row_within three.types whole (FunRow given.types dyn) w.1))
      (λ called after c.
      let rest = grown_on one three after (grown_on one two three d.0 w.0) c.0 in
      let arguments = later_all one after context work.next one.next given.terms given.types rest h.1 in
      call_result after called given.terms given.types dyn (grown_on work three after so_far c.0) c.1
      (subst (λ type. row_at after.types type ≡ Some (FunRow given.types dyn)) (sym c.2) (row_stays three.types
      after.types whole (FunRow given.types dyn) c.0.types w.1))
      (record {
        typed = arguments.typed;
        rows = arguments.rows;
        written = arguments.written;
        own = widen_names
            work.next work.next one.next after.next (all_binders given.terms) (omega arith) rest.next arguments.own;
      })))))
  call_keeps _ e given_each given_all = tt

-- ---- projections

part_below : (types : TypeRows) (parts : List ℕ) (k : ℕ) (type : ℕ) → AreRows types parts → slice_get parts k ≡ Some
    type → type < length types
part_below types parts k type all e = All-contains-at parts k type all e
  where
    All-contains-at : (parts : List ℕ) (k : ℕ) (type : ℕ) → AreRows types parts → slice_get parts k ≡ Some type → type
        < length types
    All-contains-at parts k type all e = subst (λ part. part < length types) (get_or_from_slice_get parts k type type
        e) (all k type (slice_get_within parts k type e))

tuple_part_below : (types : TypeRows) (parts : List ℕ) (k : ℤ) (type : ℕ) → AreRows types parts → tuple_part (TupleRow
    parts) k ≡ Some type → type < length types
tuple_part_below types parts (pos k) type all e = part_below types parts k type all e
tuple_part_below types parts (negsuc k) type all e = absurd (none_is_not_some type e)

module _ (place number_place : Pos) (context : Context) (before : Work) (whole : Typed) (k : ℤ) (work : Work) (grown :
    Grown before work) (t : IsTyped work context before.next work.next whole) where
  part_keeps : (parts : List ℕ) → row_at work.types whole.type ≡ Some (TupleRow parts) → (part : Option ℕ) → tuple_part
      (TupleRow parts) k ≡ part → Keeps (λ e after. Elaborates before context e after) (part_by number_place whole k
      part work)
  part_keeps parts e (Some type) f = (
    grown,
    record {
      typed = (whole.type, parts, t.typed, e, f);
      row = tuple_part_below work.types parts k type (parts_within work.types whole.type (TupleRow parts) grown.table
          e) f;
      written = t.written;
      own = t.own;
      inside = tt;
    },
  )
  part_keeps parts e None f = tt

  pub project_keeps : (row : Option TypeRow) → row_at work.types whole.type ≡ row → Keeps (λ e after. Elaborates before
      context e after) (project_by place number_place whole k row work)
  project_keeps (Some (TupleRow parts)) e = part_keeps parts e (tuple_part (TupleRow parts) k) refl
  project_keeps (Some DynRow) e =
      then_keeps (λ label after. MakesLabel work label after) (λ e after. Elaborates before context e after) _ _
      (label_made place work grown.table)
      (λ label middle h. then_keeps (λ n after. ListsEntry middle n after) (λ e after. Elaborates before context e
      after) _ _
      (entry_listed (PartOf label k) middle h.0.table h.1)
      (λ n after g.
      let more = grown_on work middle after h.0 g.0 in
      let moved = later work after context before.next work.next whole more t in (
        grown_on before work after grown more,
        record {
          typed = (
            moved.typed,
            row_stays work.types after.types whole.type DynRow more.types e,
            subst (λ labels. label
                < length labels) (sym g.1) h.1,
          );
          row = moved.row;
          written = moved.written;
          own = widen_names before.next before.next work.next after.next (binders whole.term) (omega arith) more.next
              moved.own;
          inside = tt;
        },
      )))
  project_keeps _ e = tt
