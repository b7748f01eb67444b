-- What the parts of a form are gathered in, and what is then left to do.
use Rattle.std.specs.Prelude.{ℤ}
use Rattle.grift_base.specs.declared.places.Pos.{Pos}
use Rattle.grift_base.specs.Types.{TypeRow, DynRow, FunRow, TupleRow}
use Rattle.type_graph.specs.Rows.{places_of}
use Rattle.type_graph.specs.Forming.{intern}
use Rattle.core_calc.specs.Terms.{Term, Call, If, Tuple, ProjDyn}
use Rattle.core_calc.specs.Views.{terms_of}
use Rattle.insert_steps.specs.declared.joining.Given.{Given as RustGiven}
use Rattle.cast_rules.specs.Making.{Making, ◌>>=◌, ◌>>◌, give, form, blend_at, Typed, typed, cast_at, cast_to}
use Rattle.cast_rules.specs.Making.{label_at, list_entry, PartOf}
use Rattle.cast_rules.specs.Calls.{Given}

abbrev pub given_of : RustGiven → Given
given_of given = record { terms = terms_of given.terms; types = places_of given.types.items }

abbrev pub literal_of : Term → TypeRow → Making Typed
literal_of term row = do
  type ← form (intern row)
  give (typed term type)

abbrev pub call_of_dyn : Pos → Typed → Given → Making Typed
call_of_dyn function_place function arguments = do
  dyn ← form (intern DynRow)
  whole ← form (intern (FunRow arguments.types dyn))
  called ← cast_at function_place function whole
  give (typed (Call called.term arguments.terms) dyn)

abbrev pub tuple_of : Given → Making Typed
tuple_of given = do
  type ← form (intern (TupleRow given.types))
  give (typed (Tuple given.terms) type)

abbrev pub if_of : Pos → Typed → Pos → Typed → Pos → Typed → Making Typed
if_of place truth one_place first other_place second = do
  type ← blend_at place first.type second.type
  one ← cast_to one_place type first
  other ← cast_to other_place type second
  give (typed (If truth.term one.term other.term) type)

-- a part of what Dyn holds
abbrev pub part_of_dyn : Pos → Typed → ℤ → Making Typed
part_of_dyn place whole part = do
  label ← label_at place
  list_entry (PartOf label part)
  give (typed (ProjDyn whole.term part label) whole.type)
