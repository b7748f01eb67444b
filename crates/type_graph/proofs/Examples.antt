-- Types that end and types that don't, in small tables.
use Rattle.std.proofs.Common.{◌≡◌, true, refl, [], ◌∷◌}
use Rattle.grift_base.specs.Types.{TypeRows, IntRow, DynRow, FunRow, TupleRow, RefRow, VectRow}
use Rattle.type_graph.specs.Trees.{deep_to, Ends, height, size}

-- (Ref (Tuple Int Dyn)), the whole in front of its parts
abbrev whole_first : TypeRows
whole_first = RefRow 2 ∷ IntRow ∷ TupleRow (1 ∷ 3 ∷ []) ∷ DynRow ∷ []

the_whole_ends : Ends whole_first 0
the_whole_ends = refl

its_height : height whole_first 0 ≡ 2
its_height = refl

its_size : size whole_first 0 ≡ 4
its_size = refl

-- a box of itself has no end
a_box_of_itself : deep_to 1 (RefRow 0 ∷ []) 0 ≡ true
a_box_of_itself = refl

-- nor has a function from a vector of itself to Int; Int has one
abbrev round : TypeRows
round = FunRow (1 ∷ []) 2 ∷ VectRow 0 ∷ IntRow ∷ []

the_function : deep_to 3 round 0 ≡ true
the_function = refl

the_vector : deep_to 3 round 1 ≡ true
the_vector = refl

int_ends : Ends round 2
int_ends = refl
