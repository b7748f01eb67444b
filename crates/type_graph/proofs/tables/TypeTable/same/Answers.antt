use Rattle.std.proofs.Common.{◌≡◌, ℕ, true, sym, ◌∙◌, subst}
use Rattle.std.proofs.lemmas.Bool.{eqb-true, eq-eqb}
use Rattle.type_graph.specs.Trees.{agree_to}
use Rattle.type_graph.proofs.TreeLemmas.{same_types_are_one, type_agrees_with_itself}
use Rattle.type_graph.proofs.tables.TypeTable.same.Goals as goal

pub returns : goal.returns
returns c =
    let types = c.args.self.now in
    let table = c.len.ensures.table in
    let a : ℕ = c.args.a.0 in
    let b : ℕ = c.args.b.0 in (
      λ equal depth.
          let same : a ≡ b = eqb-true a b (sym c.eq.ensures ∙ equal) in
          subst (λ n. agree_to depth types a n ≡ true) same
          (type_agrees_with_itself types table.finite.closed depth a c.requires.a),
      λ agree.
          let same : a ≡ b = same_types_are_one types table.distinct table.finite a b agree in
          c.eq.ensures ∙ eq-eqb a b same,
    )
