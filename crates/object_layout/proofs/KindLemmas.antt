-- Kinds by their numbers, and what objects of free kinds are: closures, tuples, boxes and vectors.
use Rattle.std.proofs.Common.{◌≡◌, ℕ, ◌^◌, ◌<◌, true, false, [], Some, refl, arith}
use Rattle.std.specs.Prelude.{◌==◌}
use Rattle.object_layout.specs.declared.kinds.Kind.{Kind}
use Rattle.object_layout.specs.declared.kinds.Kind.TheVariants.{Closure, Proxy, Dyn, Tuple, Boxed, Vector, Fail, Fun}
use Rattle.object_layout.specs.declared.kinds.Kind.TheVariants.{Tup, Ref, Vec, Inject, Project, IntType, BoolType}
use Rattle.object_layout.specs.declared.kinds.Kind.TheVariants.{UnitType, DynType, FunType, TupleType, RefType, VecType}
use Rattle.object_layout.specs.Kinds.{kind_number, kind_of, is_free, is_target, is_type, wanted_words}

-- the kind of a kind's number is that kind
pub number_of_kind : (kind : Kind) → kind_of (kind_number kind) ≡ Some kind
number_of_kind Closure = refl
number_of_kind Proxy = refl
number_of_kind Dyn = refl
number_of_kind Tuple = refl
number_of_kind Boxed = refl
number_of_kind Vector = refl
number_of_kind Fail = refl
number_of_kind Fun = refl
number_of_kind Tup = refl
number_of_kind Ref = refl
number_of_kind Vec = refl
number_of_kind Inject = refl
number_of_kind Project = refl
number_of_kind IntType = refl
number_of_kind BoolType = refl
number_of_kind UnitType = refl
number_of_kind DynType = refl
number_of_kind FunType = refl
number_of_kind TupleType = refl
number_of_kind RefType = refl
number_of_kind VecType = refl

-- it stands in a header's lowest byte
pub small_number : (kind : Kind) → kind_number kind < 2 ^ 8
small_number Closure = omega arith
small_number Proxy = omega arith
small_number Dyn = omega arith
small_number Tuple = omega arith
small_number Boxed = omega arith
small_number Vector = omega arith
small_number Fail = omega arith
small_number Fun = omega arith
small_number Tup = omega arith
small_number Ref = omega arith
small_number Vec = omega arith
small_number Inject = omega arith
small_number Project = omega arith
small_number IntType = omega arith
small_number BoolType = omega arith
small_number UnitType = omega arith
small_number DynType = omega arith
small_number FunType = omega arith
small_number TupleType = omega arith
small_number RefType = omega arith
small_number VecType = omega arith

pub is_the_proxy : (kind : Kind) → (kind_number kind == 2) ≡ true → kind ≡ Proxy
is_the_proxy Proxy e = refl
is_the_proxy kind e = cc

-- ---- free kinds

pub free_wanted : (kind : Kind) (count : ℕ) → is_free kind ≡ true → wanted_words kind count ≡ []
free_wanted Closure count e = refl
free_wanted Tuple count e = refl
free_wanted Boxed count e = refl
free_wanted Vector count e = refl
free_wanted kind count e = cc

pub free_target : (kind : Kind) → is_free kind ≡ true → is_target kind ≡ true
free_target Closure e = refl
free_target Tuple e = refl
free_target Boxed e = refl
free_target Vector e = refl
free_target kind e = cc

pub free_stands : (kind : Kind) → is_free kind ≡ true → is_type kind ≡ false
free_stands Closure e = refl
free_stands Tuple e = refl
free_stands Boxed e = refl
free_stands Vector e = refl
free_stands kind e = cc

pub free_no_proxy : (kind : Kind) → is_free kind ≡ true → (kind_number kind == 2) ≡ false
free_no_proxy Closure e = refl
free_no_proxy Tuple e = refl
free_no_proxy Boxed e = refl
free_no_proxy Vector e = refl
free_no_proxy kind e = cc
