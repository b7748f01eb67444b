-- Which expression the forms of a program are, and when they are refused.
use Rattle.std.specs.Prelude.{◌≡◌, List}
use Rattle.grift_base.specs.declared.refusals.FrontFault.{FrontFault}
use Rattle.grift_base.specs.declared.refusals.FrontFault.TheVariants.{Refused, OutOfMemory}
use Rattle.form_table.specs.Marked.{Sexprs}
use Rattle.surface_trees.specs.Trees.{Expr}
use Rattle.derived_forms.specs.Written.{Top}
use Rattle.derived_forms.specs.Expansion.{expand_program}
use Rattle.form_table.specs.Walking.{Refuses}
use Rattle.form_table.specs.TopWalk.{walk_program}
use Rattle.form_table.specs.TopTable.{IsProgram}

-- the forms are a program, and this is its expression
abbrev pub AreExpr : Sexprs → Expr → Type 0
AreExpr forms e = (tops : List Top) × IsProgram forms tops × (e ≡ expand_program tops)

-- the forms are no program
abbrev pub AreNoProgram : Sexprs → Type 0
AreNoProgram forms = (tops : List Top) → IsProgram forms tops → ⊥

-- a refusal is the walk's first one, where the forms are no program; memory may run out at any forms
abbrev pub IsFault : Sexprs → FrontFault → Type 0
IsFault forms (Refused r) = AreNoProgram forms × (walk_program forms ≡ Refuses r.kind r.pos)
IsFault forms OutOfMemory = Unit {0}
