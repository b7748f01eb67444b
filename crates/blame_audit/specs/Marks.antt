-- A mark for each label, which says whether it is safe by the entries gone through.
use Rattle.std.specs.Prelude.{◌≡◌, ℕ, ◌<◌, Bool, false, List, [], ◌∷◌, Option, Some, None, slice_get, slice_set}
use Rattle.grift_base.specs.Types.{TypeRows}
use Rattle.cast_rules.specs.Making.{Entry, CastFrom, PartOf}
use Rattle.blame_audit.specs.SafeLabels.{spoils}

-- ---- entries that name labels and types that are there

-- an entry, where there are so many labels and types
abbrev pub NamesKnown : ℕ → ℕ → Entry → Type 0
NamesKnown labels types (CastFrom label from to inside) = (label < labels) × (from < types) × (to < types)
NamesKnown labels types (PartOf label k) = label < labels

abbrev pub AllNameKnown : ℕ → ℕ → List Entry → Type 0
AllNameKnown labels types entries =
    (place : ℕ) (entry : Entry) → slice_get entries place ≡ Some entry → NamesKnown labels types entry

-- ---- marks

-- the marks, of which that of a label that is made unsafe is taken away
abbrev pub spoil : Option ℕ → List Bool → List Bool
spoil None marks = marks
spoil (Some label) marks = slice_set marks label false

-- the same for each entry
abbrev pub marked : TypeRows → List Entry → List Bool → List Bool
marked types [] marks = marks
marked types (entry ∷ rest) marks = marked types rest (spoil (spoils types entry) marks)
