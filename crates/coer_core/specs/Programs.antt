-- What a program of terms with numbers has beside its body.
use Rattle.std.specs.Prelude.{ℕ, max, All, List, [], ◌∷◌}
use Rattle.grift_base.specs.Types.{TypeRows}
use Rattle.type_graph.specs.Trees.{height}
use Rattle.grift_base.specs.declared.places.Pos.{Pos}
use Rattle.core_calc.specs.Terms.{Term}
use Rattle.core_calc.specs.Calculus.{Program}
use Rattle.core_calc.specs.Typing.{ProgramTermHasType}
use Rattle.coercion_norm.specs.declared.cast_rows.CastRow.{CastRow}
use Rattle.coercion_norm.specs.CoercionTables.{cast_of}
use Rattle.coercion_norm.specs.Heights.{coercion_height}
use Rattle.cast_modes.specs.Modes.{TypeCast}
use Rattle.coercion_norm.specs.Nodes.{Node, IsTree}

-- each row has the coercion of its cast
abbrev pub HaveCoercions : TypeRows → List Node → List CastRow → Type 0
HaveCoercions types nodes rows =
    All (λ row. IsTree nodes row.coercion.0 (cast_of types row.from.0 row.to.0 row.label.0)) rows

-- the height of the coercion of a cast
abbrev pub cast_height : TypeRows → TypeCast → ℕ
cast_height types cast = coercion_height (height types) (cast_of types cast.from cast.to cast.label)

-- the greatest height of the coercions of these casts, 0 where there is none
abbrev pub tallest_of : TypeRows → List TypeCast → ℕ
tallest_of types [] = 0
tallest_of types (cast ∷ rest) = max (cast_height types cast) (tallest_of types rest)

-- the term is a program term over these types, with some labels and of some type
abbrev pub IsProgramTerm : TypeRows → Term → Type 0
IsProgramTerm types term = (labels : ℕ) × (type : ℕ) × ProgramTermHasType types labels term type

-- the program of a term over these types, with these labels
abbrev pub program_of : TypeRows → Term → List Pos → Program
program_of types term labels = record { term = term; types = types; labels = labels }
