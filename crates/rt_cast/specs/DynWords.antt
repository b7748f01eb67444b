-- Which word is that of a value in Dyn: told the type that it keeps and the word of the value.
use Rattle.std.specs.Prelude.{◌≡◌, ℕ, ◌<◌, List, [], ◌∷◌, length, Option, Some, None, if◌then◌else◌}
use Rattle.grift_base.specs.Types.{TypeRow, IntRow, BoolRow, UnitRow, DynRow, FunRow, TupleRow, RefRow, VectRow}
use Rattle.object_layout.specs.DynWords.{int_tag, bool_tag, unit_tag, is_narrow, tagged}
use Rattle.object_layout.specs.declared.kinds.Kind.TheVariants.{Dyn}
use Rattle.object_layout.specs.Kinds.{kind_number}
use Rattle.coercion_norm.specs.Objects.{Object, Fixed}
use Rattle.coercion_norm.specs.Held.{Layout, There, HoldsType, rows_in}
use Rattle.coercion_norm.specs.ObjectsOfRows.{header}

-- the tag of a type without parts
abbrev pub tag_of : TypeRow → Option ℕ
tag_of IntRow = Some int_tag
tag_of BoolRow = Some bool_tag
tag_of UnitRow = Some unit_tag
tag_of DynRow = None
tag_of (FunRow parameters answer) = None
tag_of (TupleRow parts) = None
tag_of (RefRow content) = None
tag_of (VectRow content) = None

-- a word behind a tag, where there is one and the word is narrow
abbrev pub behind_tag : Option ℕ → ℕ → Option ℕ
behind_tag None word = None
behind_tag (Some tag) word = if is_narrow word then Some (tagged tag word) else None

-- the word in Dyn of a value of this row, where it takes no object
abbrev pub small_dyn : TypeRow → ℕ → Option ℕ
small_dyn row word = behind_tag (tag_of row) word

module _ (l : Layout) (objects : List Object) where
  -- by whether it takes no object
  abbrev pub IsDynBy : Option ℕ → ℕ → ℕ → ℕ → Type 0
  IsDynBy (Some small) kept word w = (w ≡ small) × (kept < length l.types)
  IsDynBy None kept word w =
      (wt : ℕ) × There l objects w (Fixed (header (kind_number Dyn) 0 2) (wt ∷ word ∷ [])) × HoldsType l objects wt kept

  -- the word in Dyn of a value with this word, which keeps this type
  abbrev pub IsDyn : ℕ → ℕ → ℕ → Type 0
  IsDyn kept word w = IsDynBy (small_dyn (rows_in l kept) word) kept word w
