-- Types: a type is a row of a table, and the parts of a row are places in the table.
use Rattle.std.specs.Prelude.{ℕ, ℤ, pos, suc, nat_eq, Bool, true, false, cond, List, [], ◌∷◌, ◌++◌, length, Option}
use Rattle.std.specs.Prelude.{Some, None, slice_get}

-- a row; what it holds are the places of its parts
pub data TypeRow : Type 0 where
  IntRow : TypeRow
  BoolRow : TypeRow
  UnitRow : TypeRow
  DynRow : TypeRow
  -- of a function: its parameters and its result
  FunRow : List ℕ → ℕ → TypeRow
  TupleRow : List ℕ → TypeRow
  RefRow : ℕ → TypeRow
  VectRow : ℕ → TypeRow

abbrev pub TypeRows : Type 0
TypeRows = List TypeRow

-- the row at a place, if the table has it
abbrev pub row_at : TypeRows → ℕ → Option TypeRow
row_at types place = slice_get types place

-- the parts of a row; the result of a function stands last
abbrev pub parts_of : TypeRow → List ℕ
parts_of IntRow = []
parts_of BoolRow = []
parts_of UnitRow = []
parts_of DynRow = []
parts_of (FunRow parameters answer) = parameters ++ answer ∷ []
parts_of (TupleRow parts) = parts
parts_of (RefRow content) = content ∷ []
parts_of (VectRow content) = content ∷ []

-- the head of a row: its constructor, with the number of parameters of a function or of parts of a tuple
pub data TypeHead : Type 0 where
  IntHead : TypeHead
  BoolHead : TypeHead
  UnitHead : TypeHead
  DynHead : TypeHead
  FunHead : ℕ → TypeHead
  TupleHead : ℕ → TypeHead
  RefHead : TypeHead
  VectHead : TypeHead

abbrev pub head_of : TypeRow → TypeHead
head_of IntRow = IntHead
head_of BoolRow = BoolHead
head_of UnitRow = UnitHead
head_of DynRow = DynHead
head_of (FunRow parameters answer) = FunHead (length parameters)
head_of (TupleRow parts) = TupleHead (length parts)
head_of (RefRow content) = RefHead
head_of (VectRow content) = VectHead

-- whether two heads are equal
abbrev pub equal_heads : TypeHead → TypeHead → Bool
equal_heads IntHead IntHead = true
equal_heads BoolHead BoolHead = true
equal_heads UnitHead UnitHead = true
equal_heads DynHead DynHead = true
equal_heads (FunHead m) (FunHead n) = nat_eq m n
equal_heads (TupleHead m) (TupleHead n) = nat_eq m n
equal_heads RefHead RefHead = true
equal_heads VectHead VectHead = true
equal_heads _ _ = false

-- whether two rows have equal heads
abbrev pub same_head : TypeRow → TypeRow → Bool
same_head row other = equal_heads (head_of row) (head_of other)

abbrev pub is_dyn : TypeRow → Bool
is_dyn row = equal_heads (head_of row) DynHead

-- whether the row is Int, Bool or Unit
abbrev pub is_base : TypeRow → Bool
is_base IntRow = true
is_base BoolRow = true
is_base UnitRow = true
is_base _ = false

-- the type of a part of a tuple, if the row is a tuple that has the part
abbrev pub tuple_part : TypeRow → ℤ → Option ℕ
tuple_part (TupleRow parts) (pos k) = slice_get parts k
tuple_part _ _ = None

-- the type of what a reference or a vector holds
abbrev pub content_of : TypeRow → Option ℕ
content_of (RefRow content) = Some content
content_of (VectRow content) = Some content
content_of _ = None

-- the place of the first row that is Dyn, counted from here
abbrev pub dyn_from : TypeRows → ℕ → Option ℕ
dyn_from [] here = None
dyn_from (row ∷ rows) here = cond (is_dyn row) (Some here) (dyn_from rows (suc here))

-- the place of Dyn, if the table has it
abbrev pub dyn_place : TypeRows → Option ℕ
dyn_place types = dyn_from types 0
