-- How a coercion is written.
use Rattle.std.specs.Prelude.{ℕ, ◌<◌, Bool, true, false, cond, List, [], ◌++◌, codes, Option, Some, None, slice_get}
use Rattle.std.specs.Fmt.{decimal}
use Rattle.grift_base.specs.declared.places.Pos.{Pos}
use Rattle.coercion_norm.specs.Coercions.{Kind, FunKind, TupKind, RefKind, VecKind, Coercion, Coercions, Id, Fail}
use Rattle.coercion_norm.specs.Coercions.{Middle}
use Rattle.coercion_norm.specs.Coercions.{Inject, Project, NoCoercions, CoercionThen, is_end, is_id}

-- line and column
abbrev pub place_text : Option Pos → List ℕ
place_text None = []
place_text (Some place) = decimal place.line ++ codes ":" ++ decimal place.col

-- the text of a label of this table
abbrev pub label_text : List Pos → ℕ → List ℕ
label_text labels label = place_text (slice_get labels label)

-- what the text of a middle begins with
abbrev pub kind_text : Kind → List ℕ
kind_text FunKind = codes "(fun"
kind_text TupKind = codes "(tuple"
kind_text RefKind = codes "(ref"
kind_text VecKind = codes "(vect"

-- what stands before a part, by whether it is the last one: an arrow before the result of a function
abbrev pub separator : Kind → Bool → List ℕ
separator FunKind true = codes " -> "
separator FunKind false = codes " "
separator TupKind last = codes " "
separator RefKind last = codes " "
separator VecKind last = codes " "

abbrev pub in_sequence : List ℕ → List ℕ → List ℕ
in_sequence first second = codes "(seq " ++ first ++ codes " " ++ second ++ codes ")"

abbrev pub inject_text : (ℕ → List ℕ) → ℕ → List ℕ
inject_text type_text kept = codes "(inject " ++ type_text kept ++ codes ")"

module _ (type_text label_text : ℕ → List ℕ) where
  abbrev pub project_text : ℕ → ℕ → List ℕ
  project_text wanted label = codes "(project " ++ type_text wanted ++ codes " " ++ label_text label ++ codes ")"

  abbrev mutual
    pub coercion_text : Coercion → List ℕ
    coercion_text Id = codes "id"
    coercion_text (Fail label) = codes "(fail " ++ label_text label ++ codes ")"
    coercion_text (Middle kind parts) = kind_text kind ++ parts_text kind parts ++ codes ")"
    coercion_text (Inject g kept) =
        cond (is_id g) (inject_text type_text kept) (in_sequence (coercion_text g) (inject_text type_text kept))
    coercion_text (Project wanted label i) =
        cond (is_id i) (project_text wanted label) (in_sequence (project_text wanted label) (coercion_text i))

    pub parts_text : Kind → Coercions → List ℕ
    parts_text kind NoCoercions = []
    parts_text kind (CoercionThen c rest) =
        separator kind (is_end rest) ++ coercion_text c ++ parts_text kind rest

-- ---- labels

-- each label is below a number
abbrev mutual
  pub HasLabels : ℕ → Coercion → Type 0
  HasLabels many Id = Unit {0}
  HasLabels many (Fail label) = label < many
  HasLabels many (Middle kind parts) = HaveLabels many parts
  HasLabels many (Inject g kept) = HasLabels many g
  HasLabels many (Project wanted label i) = (label < many) × HasLabels many i

  pub HaveLabels : ℕ → Coercions → Type 0
  HaveLabels many NoCoercions = Unit {0}
  HaveLabels many (CoercionThen c rest) = HasLabels many c × HaveLabels many rest
