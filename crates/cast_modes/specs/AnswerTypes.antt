-- When a value can be the answer of a program of a type.
use Rattle.std.specs.Prelude.{ℕ, ◌&&◌, Bool, false, not, if◌then◌else◌, List, length, Option, Some, None}
use Rattle.grift_base.specs.Types.{TypeHead, IntHead, BoolHead, UnitHead, DynHead, FunHead, TupleHead, RefHead}
use Rattle.grift_base.specs.Types.{VectHead}
use Rattle.grift_base.specs.Types.{TypeRow, TypeRows, equal_heads, head_of, row_at}
use Rattle.grift_base.specs.declared.places.Pos.{Pos}
use Rattle.cast_modes.specs.RunValues.{RunValue, RunInt, RunBool, RunUnit, RunFun, RunTuple, RunLoc, RunWrap}
use Rattle.cast_modes.specs.RunValues.{RunInject, row_list}

-- what a run is told: the places of the labels, the types, and which of them the program has
pub record Told : Type 0 where
  pub labels : List Pos
  pub types : TypeRows
  pub answer : ℕ

-- whether a row has this head; one that isn't there has none
abbrev pub row_has_head : Option TypeRow → TypeHead → Bool
row_has_head (Some row) head = equal_heads head (head_of row)
row_has_head None head = false

-- over the number of parameters of a function that runs this
module _ {C K : Type 0} (arity : K → ℕ) where
  -- the head of a value, seen through its wrappers; whatever is in Dyn has the head of Dyn
  abbrev pub run_head : RunValue C K → TypeHead
  run_head (RunInt n) = IntHead
  run_head (RunBool b) = BoolHead
  run_head RunUnit = UnitHead
  run_head (RunFun code captured) = FunHead (arity code)
  run_head (RunTuple values) = TupleHead (length (row_list values))
  run_head (RunLoc cell is_vector) = if is_vector then VectHead else RefHead
  run_head (RunWrap v cast) = run_head v
  run_head (RunInject v kept) = DynHead

  -- whether a value has the head of this type; of a value in Dyn, whether what is there has that of the type that is
  -- kept, which isn't Dyn
  abbrev pub fits_type : TypeRows → RunValue C K → ℕ → Bool
  fits_type types (RunInject v kept) type =
      row_has_head (row_at types type) DynHead && (not (row_has_head (row_at types kept) DynHead)
      && fits_type types v kept)
  fits_type types v type = row_has_head (row_at types type) (run_head v)
