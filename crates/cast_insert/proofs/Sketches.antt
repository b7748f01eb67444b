-- Expressions and answers written shortly, all on the first line of a source.
use Rattle.std.proofs.Common.{ℕ, pos, Bool, List, [], ◌∷◌, Option}
use Rattle.grift_base.specs.declared.places.Pos.{Pos}
use Rattle.grift_base.specs.Types.{TypeRow}
use Rattle.core_calc.specs.Terms.{Term}
use Rattle.surface_trees.specs.declared.names.Ident.TheVariants.{Source}
use Rattle.surface_trees.specs.Trees.{TypeExpr, TypeExprs, TypeAt, BaseType, FunType, TupleType, NoTypes, TypeThen}
use Rattle.surface_trees.specs.Trees.{Param}
use Rattle.surface_trees.specs.Trees.{Expr, Exprs, ExprAt, IntNode, BoolNode, NameNode, NoExprs, ExprThen}
use Rattle.cast_rules.specs.Making.{Typed}
use Rattle.cast_rules.specs.Elaboration.{elaborate_program}
use Rattle.cast_insert.specs.Outcomes.{Outcome, outcome_of}

abbrev pub at : ℕ → Pos
at column = record { line = 1; col = column }

abbrev pub int : ℕ → ℕ → Expr
int column n = ExprAt (at column) (IntNode (pos n))

abbrev pub truth : ℕ → Bool → Expr
truth column b = ExprAt (at column) (BoolNode b)

abbrev pub name : ℕ → List ℕ → Expr
name column bytes = ExprAt (at column) (NameNode (Source bytes))

abbrev pub exprs : List Expr → Exprs
exprs [] = NoExprs
exprs (e ∷ rest) = ExprThen e (exprs rest)

abbrev pub param : ℕ → List ℕ → Option TypeExpr → Param
param column bytes written = record { place = at column; name = Source bytes; written = written }

abbrev pub base : ℕ → TypeRow → TypeExpr
base column row = TypeAt (at column) (BaseType row)

abbrev pub type_list : List TypeExpr → TypeExprs
type_list [] = NoTypes
type_list (type ∷ rest) = TypeThen type (type_list rest)

abbrev pub fun_type : ℕ → List TypeExpr → TypeExpr → TypeExpr
fun_type column parameters result = TypeAt (at column) (FunType (type_list parameters) result)

abbrev pub tuple_type : ℕ → List TypeExpr → TypeExpr
tuple_type column parts = TypeAt (at column) (TupleType (type_list parts))

abbrev pub answer : Term → ℕ → Option ℕ → Typed
answer term type entry = record { term = term; type = type; entry = entry }

-- what a program comes to
abbrev pub comes_to : Expr → Outcome
comes_to program = outcome_of (elaborate_program program)
