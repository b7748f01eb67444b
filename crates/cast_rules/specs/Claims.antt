-- What is claimed of the elaboration.
use Rattle.std.specs.Prelude.{◌≡◌, ℕ, ◌<◌, length, Option, Some, None, slice_get}
use Rattle.core_calc.specs.Typing.{ProgramTermHasType}
use Rattle.surface_trees.specs.Trees.{Expr}
use Rattle.cast_rules.specs.Making.{Entry, CastFrom, PartOf, Work, Makes, Typed}
use Rattle.cast_rules.specs.Elaboration.{elaborate_program}
use Rattle.cast_rules.specs.Programs.{IsSource}

-- ---- entries of casts

-- the place of an entry is before this one
abbrev pub IsInside : ℕ → Option ℕ → Type 0
IsInside place None = Unit {0}
IsInside place (Some inner) = inner < place

-- an entry at a place, where there are so many labels and types
abbrev pub EntryFits : ℕ → ℕ → ℕ → Entry → Type 0
EntryFits labels types place (CastFrom label from to inside) =
    (label < labels) × (from < types) × (to < types) × IsInside place inside
EntryFits labels types place (PartOf label k) = label < labels

-- each entry names a label, types that there are, and an entry before it
abbrev pub EntriesFit : Work → Type 0
EntriesFit work =
    (place : ℕ) (entry : Entry) → slice_get work.casts place ≡ Some entry →
    EntryFits (length work.labels) (length work.types) place entry

abbrev pub MakesEntriesThatFit : Type 0
MakesEntriesThatFit =
    (program : Expr) (e : Typed) (after : Work) → IsSource program → elaborate_program program ≡ Makes e after →
    EntriesFit after

-- ---- terms

-- what the elaboration makes of a program that was read is a program term of its type, over the table and the labels
-- that it made
abbrev pub MakesProgramTerms : Type 0
MakesProgramTerms =
    (program : Expr) (e : Typed) (after : Work) → IsSource program → elaborate_program program ≡ Makes e after →
    ProgramTermHasType after.types (length after.labels) e.term e.type
