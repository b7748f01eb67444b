-- Calls and projections, where their parts are elaborated.
use Rattle.std.specs.Prelude.{ℕ, ℤ, nat_eq, if◌then◌else◌, List, length, Option, Some, None}
use Rattle.grift_base.specs.Types.{TypeRow, DynRow, FunRow, TupleRow, tuple_part}
use Rattle.grift_base.specs.declared.places.Pos.{Pos}
use Rattle.grift_base.specs.declared.refusals.RefusalKind.TheVariants.{NotFunction, WrongCount, NotTuple, NoSuchPart}
use Rattle.type_graph.specs.Forming.{intern}
use Rattle.core_calc.specs.Terms.{Terms, Call, Proj, ProjDyn}
use Rattle.cast_rules.specs.Making.{Making, ◌>>=◌, ◌>>◌, give, refuse, form, label_at, list_entry, PartOf, Typed}
use Rattle.cast_rules.specs.Making.{typed}
use Rattle.cast_rules.specs.Making.{cast_at}

-- several terms with their types
pub record Given : Type 0 where
  pub terms : Terms
  pub types : List ℕ

-- by the row of the function's type; `each` gives the arguments at the types that are wanted, `all` at their own
abbrev pub call_by :
    Pos → Pos → Typed → ℕ → (List ℕ → Making Terms) → Making Given → Option TypeRow → Making Typed
call_by place function_place function number each all (Some (FunRow parameters answer)) =
    if nat_eq number (length parameters) then (do
      arguments ← each parameters
      give (typed (Call function.term arguments) answer))
    else refuse WrongCount place
call_by place function_place function number each all (Some DynRow) = do
  arguments ← all
  dyn ← form (intern DynRow)
  whole ← form (intern (FunRow arguments.types dyn))
  called ← cast_at function_place function whole
  give (typed (Call called.term arguments.terms) dyn)
call_by place function_place function number each all _ = refuse NotFunction function_place

abbrev pub part_by : Pos → Typed → ℤ → Option ℕ → Making Typed
part_by place whole k (Some type) = give (typed (Proj whole.term k) type)
part_by place whole k None = refuse NoSuchPart place

-- by the row of the tuple's type
abbrev pub project_by : Pos → Pos → Typed → ℤ → Option TypeRow → Making Typed
project_by place number_place whole k (Some (TupleRow parts)) = part_by number_place whole k (tuple_part (TupleRow
    parts) k)
project_by place number_place whole k (Some DynRow) = do
  label ← label_at place
  list_entry (PartOf label k)
  give (typed (ProjDyn whole.term k label) whole.type)
project_by place number_place whole k _ = refuse NotTuple place
