-- The names of a source, and the places of its parts.
use Rattle.std.specs.Prelude.{ℕ, suc, Bool, false, nat_eq}
use Rattle.grift_base.specs.declared.places.Pos.{Pos}
use Rattle.type_graph.specs.Forming.{equal_numbers}
use Rattle.surface_trees.specs.declared.names.Ident.{Ident}
use Rattle.surface_trees.specs.declared.names.Ident.TheVariants.{Source, Fresh}
use Rattle.surface_trees.specs.Trees.{TypeExpr, TypeAt, Expr, ExprAt, Exprs, NoExprs, ExprThen}

-- ---- names and places

-- whether two names are the same
abbrev pub equal_idents : Ident → Ident → Bool
equal_idents (Source a) (Source b) = equal_numbers a b
equal_idents (Source a) (Fresh n) = false
equal_idents (Fresh m) (Source b) = false
equal_idents (Fresh m) (Fresh n) = nat_eq m n

abbrev pub place_of : Expr → Pos
place_of (ExprAt place node) = place

abbrev pub place_of_type : TypeExpr → Pos
place_of_type (TypeAt place node) = place

-- the place of the last expression, or this one where there is none
abbrev pub last_place : Pos → Exprs → Pos
last_place place NoExprs = place
last_place place (ExprThen e rest) = last_place (place_of e) rest

-- how many expressions these are
abbrev pub how_many : Exprs → ℕ
how_many NoExprs = 0
how_many (ExprThen e rest) = suc (how_many rest)
