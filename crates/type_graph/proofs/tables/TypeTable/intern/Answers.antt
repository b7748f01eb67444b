use Rattle.std.proofs.Common.{inl, inr, refl, ap, ◌∙◌, ◌++◌, ◌∷◌, [], arith}
use Rattle.grift_base.specs.Types.{row_at}
use Rattle.type_graph.specs.Rows.{row_of}
use Rattle.type_graph.proofs.Places.{contained, get_last}
use Rattle.type_graph.proofs.InternLemmas.{intern-from_Interns}
use Rattle.type_graph.proofs.EntryLemmas.{table_then, kept_then}
use Rattle.type_graph.proofs.tables.TypeTable.intern.Goals as goal

pub invariant_of-self-2 : goal.invariant_of-self-2
invariant_of-self-2 c =
    kept_then c.self.inside.rows.entries c.insert.new.self.entries c.args.row c.measure_of_row-measure.result
    c.args.self.now c.self.view_is c.in_default.ensures.absent c.in_ok-insert.ensures.entries c.self.invariant
    c.requires (omega arith) c.measure_of_row-measure.ensures

pub returns-in-Some-clause-ok : goal.returns-in-Some-clause-ok
returns-in-Some-clause-ok c =
    let there = contained c.args.self.now (row_of c.args.row) c.in-Some.there.0 c.in-Some.ensures.found in
    intern-from_Interns (row_of c.args.row) c.args.self.now c.args.self.now c.in-Some.there.0
    c.len-place.ensures.table.distinct (inl (there, refl)) c.in-Some.ensures.found

pub returns-clause-interned : goal.returns-clause-interned
returns-clause-interned c =
    inr (
      c.in_default.ensures.absent,
      table_then c.self.inside.rows.entries c.insert.new.self.entries c.args.row c.measure_of_row-measure.result
          c.args.self.now c.self.view_is c.in_default.ensures.absent c.in_ok-insert.ensures.entries,
    )

pub returns-clause-place : goal.returns-clause-place
returns-clause-place c =
    ap (λ types. row_at types c.len-place.result)
    (table_then c.self.inside.rows.entries c.insert.new.self.entries c.args.row c.measure_of_row-measure.result
    c.args.self.now c.self.view_is c.in_default.ensures.absent c.in_ok-insert.ensures.entries)
    ∙ ap (λ k. row_at (c.args.self.now ++ row_of c.args.row ∷ []) k) c.len-place.ensures.len
    ∙ get_last c.args.self.now (row_of c.args.row)

pub returns-clause-ok : goal.returns-clause-ok
returns-clause-ok c =
    intern-from_Interns (row_of c.args.row) c.args.self.now _ c.len-place.result c.len-place.ensures.table.distinct
    (returns-clause-interned c) (returns-clause-place c)
