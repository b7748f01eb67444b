use Rattle.std.proofs.Common.{◌∙◌, ℕ, List, sym, ap, subst}
use Rattle.indexmap.specs.IndexMap.{insert_entry}
use Rattle.coercion_norm.specs.declared.nodes.CoercionNode.{CoercionNode}
use Rattle.coercion_norm.specs.declared.nodes.CoercionNode.TheVariants.{Id}
use Rattle.coercion_norm.specs.contracts.nodes.CoercionNodePartialEq.TheImpl.{ghosts}
use Rattle.coercion_norm.specs.CoercionTables.{FitsTypes}
use Rattle.coercion_norm.proofs.FittingLemmas.{id_alone_fits, table_of}
use Rattle.coercion_norm.proofs.tables.CoercionTable.new.Goals as goal

pub returns-clause-fits : goal.returns-clause-fits
returns-clause-fits c = λ types.
    subst (λ (es : List (CoercionNode × ℕ)). FitsTypes types (table_of es))
    (sym (c.in_ok-insert.ensures.entries
    ∙ ap (λ (es : List (CoercionNode × ℕ)). insert_entry ghosts.eq es Id 0) c.new-nodes.ensures.empty))
    (id_alone_fits types)
