-- What names mean, and how parameters and the members of a `letrec` get their meanings.
use Rattle.std.specs.Prelude.{ℕ, Bool, true, cond, nat_eq, if◌then◌else◌, List, [], ◌∷◌, map, Option, Some, None}
use Rattle.grift_base.specs.Types.{DynRow, FunRow}
use Rattle.grift_base.specs.declared.places.Pos.{Pos}
use Rattle.grift_base.specs.declared.refusals.RefusalKind.TheVariants.{Unbound}
use Rattle.type_graph.specs.Forming.{intern}
use Rattle.core_calc.specs.Terms.{Var}
use Rattle.surface_trees.specs.declared.names.Ident.{Ident}
use Rattle.surface_trees.specs.Trees.{TypeExpr, Param, LambdaExpr, LambdaAt, LetrecMembers, NoLetrecs, LetrecThen}
use Rattle.cast_rules.specs.Sources.{equal_idents}
use Rattle.cast_rules.specs.Making.{Making, ◌>>=◌, ◌>>◌, give, refuse, form, fresh, not_too_large, are_consistent}
use Rattle.cast_rules.specs.Making.{Typed, typed, cast_at, written, written_if}

-- ---- environments

-- what a name means: a variable, its type, and for a member of a `letrec` its written type and the place of its lambda
pub record Meaning : Type 0 where
  pub variable : ℕ
  pub type : ℕ
  pub written : Option ℕ
  pub place : Pos

-- names with their meanings; the first entry of a name counts
abbrev pub Environment : Type 0
Environment = List (Ident × Meaning)

abbrev pub meaning_of : Ident → Environment → Option Meaning
meaning_of name [] = None
meaning_of name (entry ∷ rest) = cond (equal_idents name entry.0) (Some entry.1) (meaning_of name rest)

-- an environment with these names in front, the last of them first
abbrev pub with_names : Environment → Environment → Environment
with_names [] environment = environment
with_names (entry ∷ rest) environment = with_names rest (entry ∷ environment)

abbrev pub plain : Pos → ℕ → ℕ → Meaning
plain place variable type = record { variable = variable; type = type; written = None; place = place }

-- the variable at its own type, or cast to the written one where that differs
abbrev pub use_as : Pos → Option ℕ → Typed → Making Typed
use_as place (Some type) e = if nat_eq e.type type then give e else cast_at place e type
use_as place None e = give e

-- a use of a name
abbrev pub use_at : Pos → Option Meaning → Making Typed
use_at place (Some meaning) = use_as meaning.place meaning.written (typed (Var meaning.variable) meaning.type)
use_at place None = refuse Unbound place

abbrev pub variables : Environment → List ℕ
variables entries = map (λ entry. entry.1.variable) entries

abbrev pub types_of : Environment → List ℕ
types_of entries = map (λ entry. entry.1.type) entries

-- ---- parameters

abbrev pub type_or_dyn : Option TypeExpr → Making ℕ
type_or_dyn (Some expression) = written expression
type_or_dyn None = form (intern DynRow)

abbrev pub parameter_types : List Param → Making (List ℕ)
parameter_types [] = give []
parameter_types (parameter ∷ rest) = do
  type ← type_or_dyn parameter.written
  others ← parameter_types rest
  give (type ∷ others)

-- a fresh variable for each of these parameters, which have these types
abbrev pub bind_names : Pos → List Param → List ℕ → Making Environment
bind_names place (parameter ∷ rest) (type ∷ types) = do
  variable ← fresh
  others ← bind_names place rest types
  give ((parameter.name, plain place variable type) ∷ others)
bind_names place _ _ = give []

-- ---- the members of a `letrec`

-- of a member: its name, what the name means, the types of its parameters and its result type
pub record Head : Type 0 where
  pub name : Ident
  pub meaning : Meaning
  pub parameters : List ℕ
  pub answer : ℕ

abbrev pub consistent_if : Pos → Option ℕ → ℕ → Making Bool
consistent_if place (Some type) other = are_consistent place type other
consistent_if place None other = give true

-- what is left of a head when its written types are formed
abbrev pub head_of_types : Ident → Pos → List ℕ → ℕ → Option ℕ → Making Head
head_of_types name place types answer wanted = do
  type ← form (intern (FunRow types answer))
  not_too_large place type
  consistent_if place wanted type
  variable ← fresh
  give (record {
    name = name;
    meaning = record { variable = variable; type = type; written = wanted; place = place };
    parameters = types;
    answer = answer;
  })

-- the types of a member: those of its parameters, its result type and its own written type, then the lambda's type
abbrev pub head_of : Ident → Option TypeExpr → LambdaExpr → Making Head
head_of name own (LambdaAt place parameters result body) = do
  types ← parameter_types parameters
  answer ← type_or_dyn result
  wanted ← written_if own
  head_of_types name place types answer wanted

abbrev pub heads_of : LetrecMembers → Making (List Head)
heads_of NoLetrecs = give []
heads_of (LetrecThen name own lambda rest) = do
  head ← head_of name own lambda
  others ← heads_of rest
  give (head ∷ others)

abbrev pub names_of_heads : List Head → Environment
names_of_heads heads = map (λ head. (head.name, head.meaning)) heads
