-- Types as trees. What is read off a type is read to a depth; the number of a table's rows is deep enough for each of
-- its types that ends.
use Rattle.std.specs.Prelude.{◌≡◌, ℕ, zero, suc, ◌+◌, max, ◌<◌, All, Bool, true, false, ◌&&◌, ◌||◌, List, [], ◌∷◌}
use Rattle.std.specs.Prelude.{length, Option, Some, None}
use Rattle.grift_base.specs.Types.{TypeRow, TypeRows, row_at, parts_of, same_head}

abbrev pub row_parts : Option TypeRow → List ℕ
row_parts (Some row) = parts_of row
row_parts None = []

-- ---- types that end

-- the parts of rows are places of the table, in any order
abbrev pub IsClosed : TypeRows → Type 0
IsClosed types =
    (type : ℕ) (row : TypeRow) → row_at types type ≡ Some row → All (λ part. part < length types) (parts_of row)

abbrev pub any_of : (ℕ → Bool) → List ℕ → Bool
any_of holds [] = false
any_of holds (part ∷ parts) = holds part || any_of holds parts

-- whether a type has a path of this many parts below it
abbrev pub deep_to : ℕ → TypeRows → ℕ → Bool
deep_to zero types type = true
deep_to (suc depth) types type = any_of (λ part. deep_to depth types part) (row_parts (row_at types type))

-- no path below the type has this many parts
abbrev pub EndsWithin : ℕ → TypeRows → ℕ → Type 0
EndsWithin depth types type = deep_to depth types type ≡ false

-- no path below the type is as long as the table, so none meets a row twice
abbrev pub Ends : TypeRows → ℕ → Type 0
Ends types type = EndsWithin (length types) types type

-- each part of a row stands before it, as in a table that was filled row by row; no table is asked this
abbrev pub PartsFirst : TypeRows → Type 0
PartsFirst types =
    (type : ℕ) (row : TypeRow) → row_at types type ≡ Some row → All (λ part. part < type) (parts_of row)

-- a table whose types are trees: its rows have their parts there, and each type ends
pub record AreFinite (types : TypeRows) : Type 0 where
  pub closed : IsClosed types
  pub ends : (type : ℕ) → type < length types → Ends types type

-- ---- sizes

abbrev pub sum_of : (ℕ → ℕ) → List ℕ → ℕ
sum_of count [] = 0
sum_of count (part ∷ parts) = count part + sum_of count parts

-- the number of nodes of a type as a tree, cut below this depth
abbrev pub size_to : ℕ → TypeRows → ℕ → ℕ
size_to zero types type = 1
size_to (suc depth) types type =
    suc (sum_of (λ part. size_to depth types part) (row_parts (row_at types type)))

abbrev pub size : TypeRows → ℕ → ℕ
size types type = size_to (length types) types type

-- ---- heights

-- one more than the greatest; 0 where there is none
abbrev pub above_all : (ℕ → ℕ) → List ℕ → ℕ
above_all count [] = 0
above_all count (part ∷ parts) = max (suc (count part)) (above_all count parts)

-- the height of a type as a tree, cut below this depth
abbrev pub height_to : ℕ → TypeRows → ℕ → ℕ
height_to zero types type = 0
height_to (suc depth) types type = above_all (λ part. height_to depth types part) (row_parts (row_at types type))

abbrev pub height : TypeRows → ℕ → ℕ
height types type = height_to (length types) types type

-- ---- types that are the same

-- whether the numbers are related one by one
abbrev pub related : (ℕ → ℕ → Bool) → List ℕ → List ℕ → Bool
related holds [] [] = true
related holds [] (b ∷ bs) = false
related holds (a ∷ rest) [] = false
related holds (a ∷ rest) (b ∷ bs) = holds a b && related holds rest bs

abbrev pub agree_rows : (ℕ → ℕ → Bool) → Option TypeRow → Option TypeRow → Bool
agree_rows holds (Some row) (Some other) = same_head row other && related holds (parts_of row) (parts_of other)
agree_rows holds (Some row) None = false
agree_rows holds None other = false

-- whether two types agree as trees down to this depth
abbrev pub agree_to : ℕ → TypeRows → ℕ → ℕ → Bool
agree_to zero types a b = true
agree_to (suc depth) types a b =
    agree_rows (λ s t. agree_to depth types s t) (row_at types a) (row_at types b)

-- they agree to every depth
abbrev pub AreSame : TypeRows → ℕ → ℕ → Type 0
AreSame types a b = (depth : ℕ) → agree_to depth types a b ≡ true
