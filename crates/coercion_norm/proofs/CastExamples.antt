-- Worked coercions: of casts, and of casts one after the other.
use Rattle.std.proofs.Common.{◌≡◌, refl, inl}
use Rattle.coercion_norm.specs.Coercions.{FunKind, TupKind, RefKind, VecKind, Coercion, Id, Fail, Middle, Inject}
use Rattle.coercion_norm.specs.Coercions.{Project}
use Rattle.coercion_norm.specs.Paths.{Stop, Edge}
use Rattle.coercion_norm.specs.StandsFor.{AgreesTo}
use Rattle.coercion_norm.specs.Composition.{coerce_to, compose_to}
use Rattle.coercion_norm.specs.Samples.{sample, one, two}

-- ---- casts

same_type : coerce_to sample 1 3 3 77 ≡ Id
same_type = refl

into_dyn : coerce_to sample 1 3 2 77 ≡ Inject Id 3
into_dyn = refl

from_dyn : coerce_to sample 1 2 3 77 ≡ Project 3 77 Id
from_dyn = refl

-- an argument is cast the other way round
functions : coerce_to sample 1 3 4 77 ≡ Middle FunKind (two (Project 0 77 Id) (Inject Id 1))
functions = refl

functions_back : coerce_to sample 1 4 3 78 ≡ Middle FunKind (two (Inject Id 0) (Project 1 78 Id))
functions_back = refl

no_parameters : coerce_to sample 1 13 14 77 ≡ Middle FunKind (one (Inject Id 0))
no_parameters = refl

tuples : coerce_to sample 1 9 10 77 ≡ Middle TupKind (two (Inject Id 0) (Project 0 77 Id))
tuples = refl

-- what is read runs forwards, and what is written backwards
references : coerce_to sample 1 5 6 77 ≡ Middle RefKind (two (Inject Id 0) (Project 0 77 Id))
references = refl

vectors : coerce_to sample 1 12 11 77 ≡ Middle VecKind (two (Project 0 77 Id) (Inject Id 0))
vectors = refl

widths_differ : coerce_to sample 1 3 8 77 ≡ Fail 77
widths_differ = refl

constructors_differ : coerce_to sample 1 5 11 77 ≡ Fail 77
constructors_differ = refl

-- ---- compositions

int_as_bool : compose_to sample 0 (Inject Id 0) (Project 1 78 Id) ≡ Fail 78
int_as_bool = refl

int_as_bool_from_dyn : compose_to sample 0 (Project 0 77 (Inject Id 0)) (Project 1 78 Id) ≡ Project 0 77 (Fail 78)
int_as_bool_from_dyn = refl

int_as_int : compose_to sample 0 (Inject Id 0) (Project 0 78 Id) ≡ Id
int_as_int = refl

-- there and back is Id
there_and_back : compose_to sample 1 (coerce_to sample 1 3 4 77) (coerce_to sample 1 4 3 78) ≡ Id
there_and_back = refl

-- (Int -> Bool) => (Dyn -> Dyn) => (Bool -> Int): the argument fails at the first cast's label, the result at the
-- second's
arguments_and_results :
    compose_to sample 1 (coerce_to sample 1 3 4 77) (coerce_to sample 1 4 15 78) ≡
    Middle FunKind (two (Fail 77) (Fail 78))
arguments_and_results = refl

-- (Tuple Int Dyn) => (Tuple Dyn Int) => (Tuple Int Dyn): the first part comes back as it was
tuple_parts :
    compose_to sample 1 (coerce_to sample 1 9 10 77) (coerce_to sample 1 10 9 78)
    ≡ Middle TupKind (two Id (Project 0 77 (Inject Id 0)))
tuple_parts = refl

-- (Ref Int) => (Ref Dyn) => (Ref Bool): reads fail at the second cast's label, writes at the first's
reads_and_writes :
    compose_to sample 1 (coerce_to sample 1 5 6 77) (coerce_to sample 1 6 7 78) ≡
    Middle RefKind (two (Fail 78) (Fail 77))
reads_and_writes = refl

-- which agrees with the path of the two casts to depth 2
reads_and_writes_agree :
    AgreesTo sample 2 (Middle RefKind (two (Fail 78) (Fail 77))) 5 (Edge 77 6 (Edge 78 7 Stop))
reads_and_writes_agree = (two (Fail 78) (Fail 77), (refl, (refl, tt)), inl refl)

-- through Dyn: the cast between the two types has the label of the cast out of Dyn
through_dyn : compose_to sample 1 (Inject Id 5) (Project 7 78 Id) ≡ Middle RefKind (two (Fail 78) (Fail 78))
through_dyn = refl

-- the label that fails first is blamed
first_label : compose_to sample 0 (Fail 77) (Fail 78) ≡ Fail 77
first_label = refl

-- ---- a great depth costs nothing where it isn't used

functions_at_great_depth : coerce_to sample 65534 3 4 77 ≡ Middle FunKind (two (Project 0 77 Id) (Inject Id 1))
functions_at_great_depth = refl

fail_at_great_depth : (c : Coercion) → compose_to sample 65534 (Fail 77) c ≡ Fail 77
fail_at_great_depth c = refl
