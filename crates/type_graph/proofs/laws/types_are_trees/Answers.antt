use Rattle.type_graph.proofs.TreeLemmas.{size_by_parts, height_by_parts, same_types_are_one}
use Rattle.type_graph.proofs.TextLemmas.{text_by_row}
use Rattle.type_graph.proofs.laws.types_are_trees.Goals as goal

pub returns-clause-size : goal.returns-clause-size
returns-clause-size c = λ types a finite within. size_by_parts types finite a within

pub returns-clause-height : goal.returns-clause-height
returns-clause-height c = λ types a finite within. height_by_parts types finite a within

pub returns-clause-text : goal.returns-clause-text
returns-clause-text c = λ types a finite within. text_by_row types finite a within

pub returns-clause-one : goal.returns-clause-one
returns-clause-one c = λ types a b table same. same_types_are_one types table.distinct table.finite a b same
