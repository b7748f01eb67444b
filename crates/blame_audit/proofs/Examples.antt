-- Programs that run by computation: their safe labels, and that a label that isn't safe may be blamed.
use Rattle.std.proofs.Common.{◌≡◌, true, List, [], ◌∷◌, Some, None, refl}
use Rattle.std.specs.Prelude.{pos}
use Rattle.grift_base.specs.Types.{TypeRows, IntRow, BoolRow, DynRow, RefRow, TupleRow}
use Rattle.grift_base.specs.declared.operators.PrimOp.TheVariants.{MakeBox, BoxSet, Unbox}
use Rattle.core_calc.specs.Terms.{Term, IntLit, BoolLit, Var, Let, Seq, Cast, ProjDyn, Tuple, Prim, NoTerms, TermThen}
use Rattle.core_calc.specs.Terms.{NoBindings, BindingThen}
use Rattle.core_calc.specs.Calculus.{Blamed, Program, calc}
use Rattle.cast_rules.specs.Making.{Entry, CastFrom, PartOf}
use Rattle.cast_rules.specs.Listed.{IsListed}
use Rattle.blame_audit.specs.SafeLabels.{safe_labels}

abbrev types : TypeRows
types = IntRow ∷ BoolRow ∷ DynRow ∷ RefRow 0 ∷ RefRow 2 ∷ TupleRow (0 ∷ 0 ∷ []) ∷ []

abbrev program_of : Term → Program
program_of term = record { term = term; types = types; labels = [] }

-- ---- `(: (: #t Dyn) Int)`

abbrev into_and_out : Term
into_and_out = Cast (Cast (BoolLit true) 1 2 0) 2 0 1

abbrev two_casts : List Entry
two_casts = CastFrom 0 1 2 None ∷ CastFrom 1 2 0 (Some 0) ∷ []

casts_are_listed : IsListed two_casts into_and_out
casts_are_listed = ((tt, (0, None, refl)), (1, Some 0, refl))

into_dyn_is_safe : safe_labels types two_casts 2 ≡ 0 ∷ []
into_dyn_is_safe = refl

out_of_dyn_is_blamed : (calc (program_of into_and_out) [] 3).shown.ended ≡ Some (Blamed 1)
out_of_dyn_is_blamed = refl

-- ---- a box of Int seen as a box of Dyn, into which a truth value goes

abbrev box_seen : Term
box_seen =
    Let (BindingThen 0 (Cast (Prim MakeBox (TermThen (IntLit (pos 1)) NoTerms)) 3 4 0) NoBindings)
    (Seq (TermThen (Prim BoxSet (TermThen (Var 0) (TermThen (Cast (BoolLit true) 1 2 1) NoTerms)))
    (TermThen (Prim Unbox (TermThen (Var 0) NoTerms)) NoTerms)))

abbrev box_casts : List Entry
box_casts = CastFrom 0 3 4 None ∷ CastFrom 1 1 2 None ∷ []

box_casts_are_listed : IsListed box_casts box_seen
box_casts_are_listed =
    ((((tt, tt), (0, None, refl)), tt), ((tt, ((tt, (1, None, refl)), tt)), ((tt, tt), tt)))

written_value_is_safe : safe_labels types box_casts 2 ≡ 1 ∷ []
written_value_is_safe = refl

box_is_blamed : (calc (program_of box_seen) [] 20).shown.ended ≡ Some (Blamed 0)
box_is_blamed = refl

-- ---- a part that isn't there

abbrev part_taken : Term
part_taken = ProjDyn (Cast (Tuple (TermThen (IntLit (pos 1)) (TermThen (IntLit (pos 2)) NoTerms))) 5 2 0) (pos 2) 1

abbrev part_casts : List Entry
part_casts = CastFrom 0 5 2 None ∷ PartOf 1 (pos 2) ∷ []

part_is_not_safe : safe_labels types part_casts 2 ≡ 0 ∷ []
part_is_not_safe = refl

part_is_blamed : (calc (program_of part_taken) [] 20).shown.ended ≡ Some (Blamed 1)
part_is_blamed = refl
