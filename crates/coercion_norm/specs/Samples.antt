-- Sixteen types for casts that are worked by hand.
use Rattle.std.specs.Prelude.{ℕ, [], ◌∷◌}
use Rattle.grift_base.specs.Types.{TypeRow, TypeRows, IntRow, BoolRow, DynRow, FunRow, TupleRow, RefRow, VectRow}
use Rattle.coercion_norm.specs.Coercions.{Coercion, Coercions, NoCoercions, CoercionThen, rows_of}

-- 0 Int, 1 Bool, 2 Dyn, 3 (Int -> Bool), 4 (Dyn -> Dyn), 5 (Ref Int), 6 (Ref Dyn), 7 (Ref Bool), 8 (Int Int -> Int),
-- 9 (Tuple Int Dyn), 10 (Tuple Dyn Int), 11 (Vect Int), 12 (Vect Dyn), 13 (-> Int), 14 (-> Dyn), 15 (Bool -> Int)
abbrev pub sample_types : TypeRows
sample_types =
    IntRow ∷ BoolRow ∷ DynRow ∷ FunRow (0 ∷ []) 1 ∷ FunRow (2 ∷ []) 2 ∷ RefRow 0 ∷ RefRow 2 ∷ RefRow 1
    ∷ FunRow (0 ∷ 0 ∷ []) 0 ∷ TupleRow (0 ∷ 2 ∷ []) ∷ TupleRow (2 ∷ 0 ∷ []) ∷ VectRow 0 ∷ VectRow 2 ∷ FunRow [] 0
    ∷ FunRow [] 2 ∷ FunRow (1 ∷ []) 0 ∷ []

abbrev pub sample : ℕ → TypeRow
sample = rows_of sample_types

abbrev pub one : Coercion → Coercions
one c = CoercionThen c NoCoercions

abbrev pub two : Coercion → Coercion → Coercions
two c d = CoercionThen c (one d)
