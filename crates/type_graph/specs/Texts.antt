-- How a type is written.
use Rattle.std.specs.Prelude.{ℕ, zero, suc, List, [], ◌∷◌, ◌++◌, length, codes, Option, Some, None}
use Rattle.grift_base.specs.Types.{TypeRow, TypeRows, IntRow, BoolRow, UnitRow, DynRow, FunRow, TupleRow, RefRow}
use Rattle.grift_base.specs.Types.{VectRow, row_at}

-- the texts of these types, each between these two
abbrev pub each_between : List ℕ → List ℕ → (ℕ → List ℕ) → List ℕ → List ℕ
each_between before behind text [] = []
each_between before behind text (type ∷ types) =
    before ++ text type ++ behind ++ each_between before behind text types

abbrev pub row_text : (ℕ → List ℕ) → Option TypeRow → List ℕ
row_text text (Some IntRow) = codes "Int"
row_text text (Some BoolRow) = codes "Bool"
row_text text (Some UnitRow) = codes "Unit"
row_text text (Some DynRow) = codes "Dyn"
row_text text (Some (FunRow parameters answer)) =
    codes "(" ++ each_between (codes "") (codes " ") text parameters ++ codes "-> " ++ text answer ++ codes ")"
row_text text (Some (TupleRow parts)) = codes "(Tuple" ++ each_between (codes " ") (codes "") text parts ++ codes ")"
row_text text (Some (RefRow content)) = codes "(Ref " ++ text content ++ codes ")"
row_text text (Some (VectRow content)) = codes "(Vect " ++ text content ++ codes ")"
row_text text None = []

-- a type's text, where what lies below this depth is left out
abbrev pub text_to : ℕ → TypeRows → ℕ → List ℕ
text_to zero types type = []
text_to (suc depth) types type = row_text (text_to depth types) (row_at types type)

abbrev pub type_text : TypeRows → ℕ → List ℕ
type_text types type = text_to (length types) types type
