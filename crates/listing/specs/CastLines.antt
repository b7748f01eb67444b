-- The listing of a program's casts: a line for each entry of its list of casts.
use Rattle.std.specs.Prelude.{ℕ, ◌≡◌, ◌<◌, List, [], ◌∷◌, ◌++◌, codes, length, Option, Some, None, slice_get}
use Rattle.std.specs.Fmt.{signed_decimal}
use Rattle.grift_base.specs.Types.{TypeRows}
use Rattle.grift_base.specs.declared.places.Pos.{Pos}
use Rattle.type_graph.specs.Texts.{type_text}
use Rattle.cast_rules.specs.Claims.{EntryFits}
use Rattle.cast_rules.specs.Making.{Entry, CastFrom, PartOf}
use Rattle.coercion_norm.specs.Coercions.{Coercion}
use Rattle.coercion_norm.specs.CoercionTables.{cast_of, composition_of}
use Rattle.coercion_norm.specs.Texts.{coercion_text, label_text}
use Rattle.coercion_norm.specs.declared.casts.Cast.{Cast}

-- the entry directly inside, if there is one
abbrev pub inner_entry : List Entry → Option ℕ → Option Entry
inner_entry entries (Some place) = slice_get entries place
inner_entry entries None = None

-- the entry is this cast
abbrev pub IsThisCast : Cast → Option Entry → Type 0
IsThisCast cast (Some (CastFrom label from to inside)) =
    (label ≡ cast.label.0) × (from ≡ cast.from.0) × (to ≡ cast.to.0)
IsThisCast cast (Some (PartOf label k)) = ⊥
IsThisCast cast None = ⊥

-- there is none, or it is no cast
abbrev pub IsNoCast : Option Entry → Type 0
IsNoCast (Some (CastFrom label from to inside)) = ⊥
IsNoCast (Some (PartOf label k)) = Unit {0}
IsNoCast None = Unit {0}

-- the entries name these types and these labels
module _ (types : TypeRows) (labels : List Pos) where
  -- the text of a coercion
  abbrev pub shown : Coercion → List ℕ
  shown c = coercion_text (type_text types) (label_text labels) c

  -- the place that a cast may blame, and its types
  abbrev pub types_part : ℕ → ℕ → ℕ → List ℕ
  types_part label from to =
      label_text labels label ++ codes " " ++ type_text types from ++ codes " => " ++ type_text types to ++ codes " "

  -- where the entry directly inside is a cast too: its coercion, followed by the outer one
  abbrev pub merged_if : Option Entry → Coercion → List ℕ
  merged_if (Some (CastFrom label from to inside)) outer =
      codes " merged " ++ shown (composition_of types (cast_of types from to label) outer)
  merged_if (Some (PartOf label k)) outer = []
  merged_if None outer = []

  -- the line of an entry: a cast with its coercion, and with what it comes to together with a cast directly inside; or
  -- a part that is taken of what Dyn holds, with its number
  abbrev pub entry_line : List Entry → Entry → List ℕ
  entry_line entries (CastFrom label from to inside) =
      types_part label from to
      ++ shown (cast_of types from to label)
      ++ merged_if (inner_entry entries inside) (cast_of types from to label)
      ++ codes "\n"
  entry_line entries (PartOf label k) =
      label_text labels label ++ codes " part " ++ signed_decimal k ++ codes "\n"

  -- the lines of the first of the entries, in order
  abbrev pub entry_lines : List Entry → List Entry → List ℕ
  entry_lines entries [] = []
  entry_lines entries (entry ∷ rest) = entry_line entries entry ++ entry_lines entries rest

  abbrev pub cast_listing : List Entry → List ℕ
  cast_listing entries = entry_lines entries entries

  -- each entry names a label and types that there are
  abbrev pub EntriesFit : List Entry → Type 0
  EntriesFit entries =
      (place : ℕ) (entry : Entry) → slice_get entries place ≡ Some entry
      → EntryFits (length labels) (length types) place entry

  -- a cast names a label and types that there are
  pub record CastFits (cast : Cast) : Type 0 where
    pub label : cast.label.0 < length labels
    pub from : cast.from.0 < length types
    pub to : cast.to.0 < length types
