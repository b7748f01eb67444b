-- The kinds of objects: their numbers, how many words they have and what these words are.
use Rattle.std.specs.Prelude.{ℕ, Bool, true, false, ◌==◌, ◌&&◌, nat_le, List, [], ◌∷◌, replicate, Option, Some, None}
use Rattle.std.specs.Prelude.{if◌then◌else◌}
use Rattle.object_layout.specs.declared.kinds.Kind.{Kind}
use Rattle.object_layout.specs.declared.kinds.Kind.TheVariants.{Closure, Proxy, Dyn, Tuple, Boxed, Vector, Fail, Fun}
use Rattle.object_layout.specs.declared.kinds.Kind.TheVariants.{Tup, Ref, Vec, Inject, Project, IntType, BoolType}
use Rattle.object_layout.specs.declared.kinds.Kind.TheVariants.{UnitType, DynType, FunType, TupleType, RefType, VecType}
use Rattle.object_layout.specs.declared.kinds.Wanted.{Wanted}
use Rattle.object_layout.specs.declared.kinds.Wanted.TheVariants.{Anything, Target, Middle, Coercion, TypeAddress}

abbrev pub is_within : ℕ → ℕ → ℕ → Bool
is_within least most count = nat_le least count && nat_le count most

-- how many words an object may have behind its header
pub data Size : Type 0 where
  Exactly : ℕ → Size
  AtLeast : ℕ → Size
  -- from the one to the other, both among them
  Within : ℕ → ℕ → Size
  AnyNumber : Size

-- the number of a kind, and how many words its objects have
abbrev pub kind_row : Kind → ℕ × Size
kind_row Closure = (1, AtLeast 1)
kind_row Proxy = (2, Exactly 2)
kind_row Dyn = (3, Exactly 2)
kind_row Tuple = (4, Within 1 8)
kind_row Boxed = (5, Exactly 1)
kind_row Vector = (6, AnyNumber)
kind_row Fail = (8, Exactly 1)
kind_row Fun = (9, Within 1 7)
kind_row Tup = (10, Within 1 8)
kind_row Ref = (11, Exactly 2)
kind_row Vec = (12, Exactly 2)
kind_row Inject = (13, Exactly 2)
kind_row Project = (14, Exactly 3)
kind_row IntType = (16, Exactly 0)
kind_row BoolType = (17, Exactly 0)
kind_row UnitType = (18, Exactly 0)
kind_row DynType = (19, Exactly 0)
kind_row FunType = (20, Within 1 7)
kind_row TupleType = (21, Within 1 8)
kind_row RefType = (22, Exactly 1)
kind_row VecType = (23, Exactly 1)

abbrev pub kind_number : Kind → ℕ
kind_number kind = (kind_row kind).0

abbrev pub all_kinds : List Kind
all_kinds =
    Closure ∷ Proxy ∷ Dyn ∷ Tuple ∷ Boxed ∷ Vector ∷ Fail ∷ Fun ∷ Tup ∷ Ref ∷ Vec ∷ Inject ∷ Project ∷ IntType ∷
    BoolType ∷ UnitType ∷ DynType ∷ FunType ∷ TupleType ∷ RefType ∷ VecType ∷ []

-- the first of these kinds that has the number
abbrev pub first_with : ℕ → List Kind → Option Kind
first_with number [] = None
first_with number (kind ∷ rest) = if kind_number kind == number then Some kind else first_with number rest

-- the kind of a number, if there is one
abbrev pub kind_of : ℕ → Option Kind
kind_of number = first_with number all_kinds

-- ---- groups of kinds

-- the kinds of types have the numbers from 16 to 23, those of coercions from 8 to 14
abbrev pub is_type : Kind → Bool
is_type kind = is_within 16 23 (kind_number kind)

abbrev pub is_coercion : Kind → Bool
is_coercion kind = is_within 8 14 (kind_number kind)

-- the coercions that have a function, a tuple, a box or a vector on both sides
abbrev pub is_middle : Kind → Bool
is_middle Fun = true
is_middle Tup = true
is_middle Ref = true
is_middle Vec = true
is_middle _ = false

-- the objects whose words after the header say nothing of other objects: closures, tuples, boxes and vectors
abbrev pub is_free : Kind → Bool
is_free Closure = true
is_free Tuple = true
is_free Boxed = true
is_free Vector = true
is_free _ = false

-- what a proxy may stand on: a closure, a proxy, a tuple, a box or a vector
abbrev pub is_target : Kind → Bool
is_target Proxy = true
is_target kind = is_free kind

-- ---- words after the header

abbrev pub allows : Size → ℕ → Bool
allows (Exactly n) count = count == n
allows (AtLeast n) count = nat_le n count
allows (Within least most) count = is_within least most count
allows AnyNumber count = true

-- whether an object of this kind may have so many words
abbrev pub allows_count : Kind → ℕ → Bool
allows_count kind count = allows (kind_row kind).1 count

-- the words that an object of this kind and count has to have
abbrev pub wanted_words : Kind → ℕ → List Wanted
wanted_words Proxy count = Target ∷ Middle ∷ []
wanted_words Fun count = replicate count Coercion
wanted_words Tup count = replicate count Coercion
wanted_words Ref count = replicate count Coercion
wanted_words Vec count = replicate count Coercion
wanted_words Inject count = Coercion ∷ TypeAddress ∷ []
wanted_words Project count = TypeAddress ∷ Anything ∷ Coercion ∷ []
wanted_words _ count = []
