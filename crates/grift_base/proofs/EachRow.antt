-- What holds of each kind of row holds of every row.
use Rattle.std.specs.Prelude.{ℕ, List}
use Rattle.grift_base.specs.Types.{TypeRow, IntRow, BoolRow, UnitRow, DynRow, FunRow, TupleRow, RefRow, VectRow}

pub each_row : (P : TypeRow → Type 0) → P IntRow → P BoolRow → P UnitRow → P DynRow
    → ((parameters : List ℕ) (answer : ℕ) → P (FunRow parameters answer)) → ((parts : List ℕ) → P (TupleRow parts))
    → ((content : ℕ) → P (RefRow content)) → ((content : ℕ) → P (VectRow content)) → (row : TypeRow) → P row
each_row P int bool unit dyn function tuple boxed vector IntRow = int
each_row P int bool unit dyn function tuple boxed vector BoolRow = bool
each_row P int bool unit dyn function tuple boxed vector UnitRow = unit
each_row P int bool unit dyn function tuple boxed vector DynRow = dyn
each_row P int bool unit dyn function tuple boxed vector (FunRow parameters answer) = function parameters answer
each_row P int bool unit dyn function tuple boxed vector (TupleRow parts) = tuple parts
each_row P int bool unit dyn function tuple boxed vector (RefRow content) = boxed content
each_row P int bool unit dyn function tuple boxed vector (VectRow content) = vector content
