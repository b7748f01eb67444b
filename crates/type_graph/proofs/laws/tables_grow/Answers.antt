use Rattle.std.proofs.Common.{◌++◌, refl}
use Rattle.type_graph.proofs.TreeLemmas.{size_grown, height_grown}
use Rattle.type_graph.proofs.InternLemmas.{IsOrderedTable-intern, PartsFirst-intern, row_at-intern}
use Rattle.type_graph.proofs.laws.tables_grow.Goals as goal

pub returns-clause-table : goal.returns-clause-table
returns-clause-table c = λ types row table fits. IsOrderedTable-intern types row table fits

pub returns-clause-order : goal.returns-clause-order
returns-clause-order c = λ types row first fits. PartsFirst-intern types row first fits

pub returns-clause-place : goal.returns-clause-place
returns-clause-place c = λ types row. row_at-intern row types

pub returns-clause-size : goal.returns-clause-size
returns-clause-size c = λ types more a finite within. size_grown types (types ++ more) finite (more, refl) a within

pub returns-clause-height : goal.returns-clause-height
returns-clause-height c = λ types more a finite within. height_grown types (types ++ more) finite (more, refl) a within
