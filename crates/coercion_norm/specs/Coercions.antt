-- Coercions as trees. Types and labels are numbers: a type is a place in a table of types, and a label one in a table
-- of labels. Definitions read types by a function from places to rows; for a table that is `rows_of`.
use Rattle.std.specs.Prelude.{ℕ, Bool, true, false, ◌&&◌, List, [], ◌∷◌, length, Option, Some, None}
use Rattle.std.specs.Prelude.{slice_index, slice_index_or}
use Rattle.grift_base.specs.Types.{TypeRow, TypeRows, IntRow, BoolRow, UnitRow, DynRow, FunRow, TupleRow, RefRow}
use Rattle.grift_base.specs.Types.{VectRow, parts_of}
-- the constructor of a middle
pub use Rattle.coercion_norm.specs.declared.middles.MiddleKind.{MiddleKind as Kind}
pub use Rattle.coercion_norm.specs.declared.middles.MiddleKind.TheVariants.{Fun as FunKind, Tup as TupKind}
pub use Rattle.coercion_norm.specs.declared.middles.MiddleKind.TheVariants.{Ref as RefKind, Vec as VecKind}

mutual
  pub data Coercion : Type 0 where
    Id : Coercion
    -- with a label
    Fail : ℕ → Coercion
    -- of a function: the arguments, then the result; of a tuple: the parts; of a reference or a vector: read, then
    -- write
    Middle : Kind → Coercions → Coercion
    -- what comes before, and the type that Dyn keeps
    Inject : Coercion → ℕ → Coercion
    -- the type that is wanted, the label, and what comes after
    Project : ℕ → ℕ → Coercion → Coercion

  pub data Coercions : Type 0 where
    NoCoercions : Coercions
    CoercionThen : Coercion → Coercions → Coercions

abbrev pub is_end : Coercions → Bool
is_end NoCoercions = true
is_end (CoercionThen c rest) = false

abbrev pub is_id : Coercion → Bool
is_id Id = true
is_id _ = false

abbrev pub all_id : Coercions → Bool
all_id NoCoercions = true
all_id (CoercionThen c rest) = is_id c && all_id rest

abbrev pub same_kind : Kind → Kind → Bool
same_kind FunKind FunKind = true
same_kind TupKind TupKind = true
same_kind RefKind RefKind = true
same_kind VecKind VecKind = true
same_kind _ _ = false

-- whether a part of a middle runs backwards: function arguments and writes do. Asked with whether the part is the last
-- one
abbrev pub runs_back : Kind → Bool → Bool
runs_back FunKind true = false
runs_back FunKind false = true
runs_back TupKind last = false
runs_back RefKind last = last
runs_back VecKind last = last

-- the kind of the middles between types of this row, if there are middles between them
abbrev pub kind_of : TypeRow → Option Kind
kind_of IntRow = None
kind_of BoolRow = None
kind_of UnitRow = None
kind_of DynRow = None
kind_of (FunRow parameters answer) = Some FunKind
kind_of (TupleRow parts) = Some TupKind
kind_of (RefRow content) = Some RefKind
kind_of (VectRow content) = Some VecKind

-- the types that the parts of such a middle speak of, in the order of its parts: those of the row, where a content
-- counts twice, as it is read and as it is written
abbrev pub slots_of : TypeRow → List ℕ
slots_of (RefRow content) = content ∷ content ∷ []
slots_of (VectRow content) = content ∷ content ∷ []
slots_of row = parts_of row

module _ (rows : ℕ → TypeRow) where
  -- the type that part j of such a middle speaks of, for values of this type
  abbrev pub slot : ℕ → ℕ → ℕ
  slot j type = slice_index (slots_of (rows type)) j

  abbrev pub slots : ℕ → ℕ
  slots type = length (slots_of (rows type))

-- the row of a type; Dyn where the table has no such type
abbrev pub rows_of : TypeRows → ℕ → TypeRow
rows_of types type = slice_index_or types type DynRow
