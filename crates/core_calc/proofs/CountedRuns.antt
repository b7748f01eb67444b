-- Runs whose verdict, output and number of steps were worked out by hand from the rules. Above each run stand the
-- source that its term stands for, where there is one, and its steps with their numbers. `l0`, `l1` and `l2` are the
-- labels.
use Rattle.std.proofs.Common.{◌≡◌, ◌-◌, ℕ, List, [], ◌∷◌, Some, None, refl, true, false, pos, negsuc}
use Rattle.std.specs.Prelude.{codes}
use Rattle.std.specs.Int.{int_wrap}
use Rattle.std.specs.Fmt.{digits}
use Rattle.run_laws.specs.Runs.{Verdict as EndsWith}
use Rattle.grift_base.specs.Types.{TypeRows, IntRow, BoolRow, UnitRow, DynRow, FunRow, TupleRow, RefRow, VectRow}
use Rattle.grift_base.specs.declared.places.Pos.{Pos}
use Rattle.grift_base.specs.declared.operators.PrimOp.TheVariants.{Add, Mul, Quot, PrintInt, ReadInt, MakeBox}
use Rattle.grift_base.specs.declared.operators.PrimOp.TheVariants.{Unbox, BoxSet, MakeVector, VectorRef, VectorSet}
use Rattle.grift_base.specs.declared.operators.PrimOp.TheVariants.{VectorLength}
use Rattle.grift_base.specs.declared.verdicts.AnswerKind.TheVariants.{Int, Bool as Truth, Function, Boxed}
use Rattle.grift_base.specs.declared.verdicts.Trap.TheVariants.{ZeroDivisor, Index, Length, Input}
use Rattle.grift_base.specs.declared.verdicts.Verdict.{Verdict}
use Rattle.grift_base.specs.declared.verdicts.Verdict.TheVariants.{Answer as AnswerVerdict, Blame, Trap as TrapVerdict}
use Rattle.core_calc.specs.Terms.{Term, Members, IntLit, BoolLit, Var, Lambda, Group, Call, If, Cast, Proj, ProjDyn}
use Rattle.core_calc.specs.Terms.{Tuple, Prim, NoTerms, NoMembers, MemberThen}
use Rattle.core_calc.specs.Calculus.{answer, calc}
use Rattle.core_calc.proofs.ExampleTerms.{int, seq, one, two, three, let_one, even_and_odd}

-- ---- how the runs are written

-- the place of a label: each stands in a line of its own
abbrev in_line : ℕ → Pos
in_line line = record { line = line; col = 1 }

abbrev three_labels : List Pos
three_labels = in_line 1 ∷ in_line 2 ∷ in_line 3 ∷ []

-- with this input the run ends with its nth step and not before, with this verdict and output
abbrev EndsAfter : TypeRows → List ℕ → Term → ℕ → Verdict → List ℕ → Type 0
EndsAfter types input term n verdict output =
    ((calc (record { term = term; types = types; labels = three_labels }) input (n - 1)).ending ≡ None) ×
    ((calc (record { term = term; types = types; labels = three_labels }) input n).ending ≡ Some (EndsWith verdict)) ×
    ((calc (record { term = term; types = types; labels = three_labels }) input n).output ≡ output)

abbrev number : ℕ → Verdict
number n = AnswerVerdict (answer Int (pos n))

-- ---- functions

abbrev functions : TypeRows
functions = IntRow ∷ BoolRow ∷ DynRow ∷ FunRow (0 ∷ []) 0 ∷ FunRow (2 ∷ []) 2 ∷ FunRow (0 ∷ []) 2 ∷ FunRow [] 0 ∷ []

abbrev identity : Term
identity = Lambda (0 ∷ []) (Var 0) 3

-- the identity, seen as a function from Dyn to Dyn
abbrev wide_identity : Term
wide_identity = Cast identity 3 4 0

-- ((: (lambda ([x : Int]) : Int x) (Dyn -> Dyn)) 5)
-- 1 the lambda is a function, 2 which is wrapped; 3 5 goes into Dyn; 4 the call is entered
-- 5 unwrapped: the argument in a cast from Dyn to Int, the call in one from Int to Dyn
-- 6 the argument comes out of Dyn, 7 and is cast from Int to Int; 8 the body, which is 5; 9 it goes into Dyn
wrapped_call : EndsAfter functions [] (Call wide_identity (one (Cast (int 5) 0 2 1))) 9 (number 5) []
wrapped_call = (refl, refl, refl)

-- ((: (lambda ([x : Int]) : Int x) (Dyn -> Dyn)) #t)
-- 1 function, 2 wrapped; 3 #t goes into Dyn; 4 entered; 5 unwrapped; 6 #t comes out of Dyn; 7 l0 is blamed
argument_blamed : EndsAfter functions [] (Call wide_identity (one (Cast (BoolLit true) 1 2 1))) 7
    (Blame (in_line 1)) []
argument_blamed = (refl, refl, refl)

-- ((: (lambda ([x : Int]) : Dyn #t) (Int -> Int)) 5)
-- 1 function, 2 wrapped; 3 entered
-- 4 unwrapped: the argument in a cast from Int to Int, the call in one from Dyn to Int
-- 5 the argument is cast; 6 the body; 7 #t goes into Dyn; 8 the answer comes out of Dyn; 9 l0 is blamed
answer_blamed : EndsAfter functions []
    (Call (Cast (Lambda (0 ∷ []) (Cast (BoolLit true) 1 2 1) 5) 5 3 0) (one (int 5))) 9 (Blame (in_line 1)) []
answer_blamed = (refl, refl, refl)

-- ((: (: (lambda ([x : Int]) : Int x) (Dyn -> Dyn)) (Int -> Int)) 5)
-- 1 function, 2 wrapped, 3 wrapped again; 4 entered
-- 5 the outer wrapper goes: the argument in a cast to Dyn, the call in one to Int, both under l1
-- 6 the inner one goes at once: the argument in a cast to Int, the call in one to Dyn, both under l0
-- 7 5 goes into Dyn, 8 comes out, 9 is cast from Int to Int; 10 the body
-- 11 the answer goes into Dyn, 12 comes out, 13 is cast from Int to Int
twice_wrapped : EndsAfter functions [] (Call (Cast wide_identity 4 3 1) (one (int 5))) 13 (number 5) []
twice_wrapped = (refl, refl, refl)

-- (: (lambda ([x : Int]) : Int x) (Dyn -> Dyn))
-- 1 function, 2 wrapped, which is a value
wrapped_function_shown : EndsAfter functions [] wide_identity 2 (AnswerVerdict (answer Function (pos 0))) []
wrapped_function_shown = (refl, refl, refl)

-- (: (: (lambda ([x : Int]) : Int x) (Dyn -> Dyn)) Dyn)
-- 1 function, 2 wrapped, 3 goes into Dyn
function_in_dyn_shown : EndsAfter functions [] (Cast wide_identity 4 2 1) 3 (AnswerVerdict (answer Function (pos 0))) []
function_in_dyn_shown = (refl, refl, refl)

-- ((: (: (lambda () : Int 1) Dyn) (Int -> Int)) 5)
-- 1 function, 2 goes into Dyn, 3 comes out; 4 the numbers of parameters differ: l1 is blamed
parameters_differ : EndsAfter functions []
    (Call (Cast (Cast (Lambda [] (int 1) 6) 6 2 0) 2 3 1) (one (int 5))) 4 (Blame (in_line 2)) []
parameters_differ = (refl, refl, refl)

-- (let ([f ..]) (f 5)), where f is the identity cast to its own type: a cast between equal types wraps too
-- 1 function, 2 wrapped; 3 let; 4 entered; 5 unwrapped; 6 the argument is cast; 7 the body; 8 the answer is cast
wrapped_as_itself : EndsAfter functions [] (let_one 1 (Cast identity 3 3 0) (Call (Var 1) (one (int 5)))) 8 (number 5)
    []
wrapped_as_itself = (refl, refl, refl)

-- ((: (lambda ([x : Int]) : Int x) (Dyn -> Dyn)) (begin (print-int 3) #t))
-- 1 function, 2 wrapped; 3 prints; 4 the unit is left, 5 one term is left; 6 #t goes into Dyn; 7 entered; 8 unwrapped
-- 9 #t comes out of Dyn; 10 l0 is blamed
blamed_after_printing : EndsAfter functions []
    (Call wide_identity (one (Cast (seq (Prim PrintInt (one (int 3)) ∷ BoolLit true ∷ [])) 1 2 1))) 10
    (Blame (in_line 1)) (codes "3")
unfolding digits
blamed_after_printing = (refl, refl, refl)

-- two arguments
abbrev two_parameters : TypeRows
two_parameters =
    IntRow ∷ BoolRow ∷ DynRow ∷ FunRow (0 ∷ 0 ∷ []) 0 ∷ FunRow (2 ∷ 0 ∷ []) 0 ∷ FunRow (2 ∷ 2 ∷ []) 0 ∷ []

-- (let ([f (lambda ([a : Int] [b : Int]) : Int a)]) (let ([g (: f (Dyn Int -> Int))])
-- (let ([h (: g (Dyn Dyn -> Int))]) (h #t #f))))
-- 1 function, 2 let, 3 wrapped, 4 let, 5 wrapped, 6 let; 7 #t goes into Dyn, 8 #f too; 9 entered
-- 10 h's wrapper goes, 11 g's too: the first argument in casts from Dyn to Dyn and to Int, the second in casts from Dyn
-- to Int and from Int to Int
-- 12 the first one is cast from Dyn to Dyn, 13 comes out of Dyn; 14 l0 is blamed before the second is looked at
first_argument_first : EndsAfter two_parameters []
    (let_one 2 (Lambda (0 ∷ 1 ∷ []) (Var 0) 3) (let_one 3 (Cast (Var 2) 3 4 0) (let_one 4 (Cast (Var 3) 4 5 1)
    (Call (Var 4) (two (Cast (BoolLit true) 1 2 2) (Cast (BoolLit false) 1 2 2)))))) 14 (Blame (in_line 1)) []
first_argument_first = (refl, refl, refl)

-- ---- tuples

abbrev tuples : TypeRows
tuples = IntRow ∷ BoolRow ∷ TupleRow (0 ∷ 1 ∷ []) ∷ DynRow ∷ TupleRow (0 ∷ 0 ∷ []) ∷ TupleRow (3 ∷ 3 ∷ []) ∷ []

abbrev pair : Term
pair = Tuple (two (int 1) (BoolLit true))

-- (tuple-proj (: (: (tuple 1 #t) Dyn) (Tuple Int Int)) 0)
-- 1 tuple, 2 goes into Dyn, 3 comes out, 4 is wrapped
-- 5 the wrapper goes: the part in a cast from Int to Int; 6 the part; 7 it is cast
part_through_wrapper : EndsAfter tuples [] (Proj (Cast (Cast pair 2 3 0) 3 4 1) (pos 0)) 7 (number 1) []
part_through_wrapper = (refl, refl, refl)

-- (tuple-proj (: (: (tuple 1 #t) Dyn) (Tuple Int Int)) 1)
-- 1 tuple, 2 goes into Dyn, 3 comes out, 4 is wrapped; 5 the wrapper goes; 6 the part; 7 l1 is blamed
part_blamed : EndsAfter tuples [] (Proj (Cast (Cast pair 2 3 0) 3 4 1) (pos 1)) 7 (Blame (in_line 2)) []
part_blamed = (refl, refl, refl)

-- (tuple-proj (: (tuple 1 #t) (Tuple Dyn Dyn)) 1)
-- 1 tuple, 2 wrapped; 3 the wrapper goes; 4 the part; 5 it goes into Dyn
part_into_dyn : EndsAfter tuples [] (Proj (Cast pair 2 5 0) (pos 1)) 5 (AnswerVerdict (answer Truth (pos 1))) []
part_into_dyn = (refl, refl, refl)

-- (tuple-proj (: (tuple 1 #t) Dyn) 1)
-- 1 tuple, 2 goes into Dyn; 3 the part in a cast from Bool to Dyn; 4 the part; 5 it goes into Dyn
part_of_dyn : EndsAfter tuples [] (ProjDyn (Cast pair 2 3 0) (pos 1) 1) 5 (AnswerVerdict (answer Truth (pos 1))) []
part_of_dyn = (refl, refl, refl)

-- (tuple-proj (: (tuple 1 #t) Dyn) 2)
-- 1 tuple, 2 goes into Dyn; 3 it has no such part: l1 is blamed
no_part_of_dyn : EndsAfter tuples [] (ProjDyn (Cast pair 2 3 0) (pos 2) 1) 3 (Blame (in_line 2)) []
no_part_of_dyn = (refl, refl, refl)

-- (tuple-proj (: 5 Dyn) 0)
-- 1 5 goes into Dyn; 2 it is no tuple: l1 is blamed
no_tuple_in_dyn : EndsAfter tuples [] (ProjDyn (Cast (int 5) 0 3 0) (pos 0) 1) 2 (Blame (in_line 2)) []
no_tuple_in_dyn = (refl, refl, refl)

-- (tuple-proj (: (: (tuple 1 #t) (Tuple Dyn Dyn)) Dyn) 0)
-- 1 tuple, 2 wrapped, 3 goes into Dyn; 4 the part in a cast from Dyn to Dyn
-- 5 the wrapper goes: the part in a cast from Int to Dyn; 6 the part; 7 it goes into Dyn; 8 it is cast from Dyn to Dyn
wrapped_tuple_in_dyn : EndsAfter tuples [] (ProjDyn (Cast (Cast pair 2 5 0) 5 3 1) (pos 0) 2) 8 (number 1) []
wrapped_tuple_in_dyn = (refl, refl, refl)

-- ---- references

abbrev boxes : TypeRows
boxes = IntRow ∷ RefRow 0 ∷ DynRow ∷ RefRow 2 ∷ BoolRow ∷ UnitRow ∷ []

abbrev box_of_one : Term
box_of_one = Prim MakeBox (one (int 1))

-- (unbox (: (box 1) (Ref Dyn)))
-- 1 box, 2 wrapped; 3 the wrapper goes: the read in a cast from Int to Dyn; 4 read; 5 it goes into Dyn
read_through_wrapper : EndsAfter boxes [] (Prim Unbox (one (Cast box_of_one 1 3 0))) 5 (number 1) []
read_through_wrapper = (refl, refl, refl)

-- (unbox (: (box (: #t Dyn)) (Ref Int)))
-- 1 #t goes into Dyn; 2 box, 3 wrapped; 4 the wrapper goes; 5 read; 6 it comes out of Dyn; 7 l1 is blamed
read_blamed : EndsAfter boxes []
    (Prim Unbox (one (Cast (Prim MakeBox (one (Cast (BoolLit true) 4 2 0))) 3 1 1))) 7 (Blame (in_line 2)) []
read_blamed = (refl, refl, refl)

abbrev write_and_read : Term → Term
write_and_read written =
    let_one 0 box_of_one (let_one 1 (Cast (Var 0) 1 3 0)
    (seq (Prim BoxSet (two (Var 1) written) ∷ Prim Unbox (one (Var 0)) ∷ [])))

-- (let ([b (box 1)]) (let ([d (: b (Ref Dyn))]) (begin (box-set! d 7) (unbox b))))
-- 1 box, 2 let, 3 wrapped, 4 let; 5 7 goes into Dyn
-- 6 the wrapper goes: the written value in a cast from Dyn to Int; 7 it comes out of Dyn, 8 and is cast; 9 written
-- 10 the unit is left, 11 one term is left; 12 read
write_through_wrapper : EndsAfter boxes [] (write_and_read (Cast (int 7) 0 2 1)) 12 (number 7) []
write_through_wrapper = (refl, refl, refl)

-- (let ([b (box 1)]) (let ([d (: b (Ref Dyn))]) (begin (box-set! d #t) (unbox b))))
-- 1 box, 2 let, 3 wrapped, 4 let; 5 #t goes into Dyn; 6 the wrapper goes; 7 #t comes out of Dyn; 8 l0 is blamed
write_blamed : EndsAfter boxes [] (write_and_read (Cast (BoolLit true) 4 2 1)) 8 (Blame (in_line 1)) []
write_blamed = (refl, refl, refl)

-- (: (: (box 1) (Ref Dyn)) Dyn)
-- 1 box, 2 wrapped, 3 goes into Dyn
wrapped_box_shown : EndsAfter boxes [] (Cast (Cast box_of_one 1 3 0) 3 2 1) 3 (AnswerVerdict (answer Boxed (pos 0))) []
wrapped_box_shown = (refl, refl, refl)

-- ---- vectors

abbrev vectors : TypeRows
vectors = IntRow ∷ VectRow 0 ∷ DynRow ∷ VectRow 2 ∷ BoolRow ∷ []

abbrev three_ones : Term
three_ones = Prim MakeVector (two (int 3) (int 1))

-- three ones, seen as values in Dyn
abbrev wide_ones : Term
wide_ones = Cast three_ones 1 3 0

-- (vector-ref (: (make-vector 3 1) (Vect Dyn)) 2)
-- 1 vector, 2 wrapped; 3 the wrapper goes: the read in a cast from Int to Dyn; 4 read; 5 it goes into Dyn
element_through_wrapper : EndsAfter vectors [] (Prim VectorRef (two wide_ones (int 2))) 5 (number 1) []
element_through_wrapper = (refl, refl, refl)

-- (vector-ref (: (make-vector 3 1) (Vect Dyn)) 3)
-- 1 vector, 2 wrapped; 3 the wrapper goes; 4 the index traps
index_traps_through_wrapper : EndsAfter vectors [] (Prim VectorRef (two wide_ones (int 3))) 4 (TrapVerdict Index) []
index_traps_through_wrapper = (refl, refl, refl)

-- (vector-set! (: (make-vector 3 1) (Vect Dyn)) -1 5)
-- 1 vector, 2 wrapped; 3 5 goes into Dyn; 4 the index traps before the wrapper goes
negative_index_traps : EndsAfter vectors []
    (Prim VectorSet (three wide_ones (IntLit (negsuc 0)) (Cast (int 5) 0 2 1))) 4 (TrapVerdict Index) []
negative_index_traps = (refl, refl, refl)

-- (let ([v (: (make-vector 3 1) (Vect Dyn))]) (vector-set! v 3 #t))
-- 1 vector, 2 wrapped, 3 let; 4 #t goes into Dyn; 5 the index traps, though the value would be blamed
index_before_value : EndsAfter vectors []
    (let_one 0 wide_ones (Prim VectorSet (three (Var 0) (int 3) (Cast (BoolLit true) 4 2 1)))) 5 (TrapVerdict Index) []
index_before_value = (refl, refl, refl)

abbrev set_and_ref : Term → ℕ → Term
set_and_ref written index =
    let_one 0 wide_ones (seq (Prim VectorSet (three (Var 0) (int index) written) ∷
    Prim VectorRef (two (Var 0) (int index)) ∷ []))

-- (let ([v (: (make-vector 3 1) (Vect Dyn))]) (begin (vector-set! v 0 #t) (vector-ref v 0)))
-- 1 vector, 2 wrapped, 3 let; 4 #t goes into Dyn; 5 the wrapper goes; 6 #t comes out of Dyn; 7 l0 is blamed
element_blamed : EndsAfter vectors [] (set_and_ref (Cast (BoolLit true) 4 2 1) 0) 7 (Blame (in_line 1)) []
element_blamed = (refl, refl, refl)

-- (let ([v (: (make-vector 3 1) (Vect Dyn))]) (begin (vector-set! v 2 8) (vector-ref v 2)))
-- 1 vector, 2 wrapped, 3 let; 4 8 goes into Dyn; 5 the wrapper goes; 6 8 comes out of Dyn, 7 is cast; 8 written
-- 9 the unit is left, 10 one term is left; 11 the wrapper goes; 12 read; 13 it goes into Dyn
element_kept : EndsAfter vectors [] (set_and_ref (Cast (int 8) 0 2 1) 2) 13 (number 8) []
element_kept = (refl, refl, refl)

-- (vector-length (: (: (make-vector 3 1) (Vect Dyn)) (Vect Int)))
-- 1 vector, 2 wrapped, 3 wrapped again; 4 a wrapper goes, 5 the other too; 6 the length
length_through_wrappers : EndsAfter vectors [] (Prim VectorLength (one (Cast wide_ones 3 1 1))) 6 (number 3) []
length_through_wrappers = (refl, refl, refl)

-- (make-vector -1 (begin (print-int 4) 0))
-- 1 prints; 2 the unit is left, 3 one term is left; 4 the length traps
negative_length : EndsAfter vectors []
    (Prim MakeVector (two (IntLit (negsuc 0)) (seq (Prim PrintInt (one (int 4)) ∷ int 0 ∷ [])))) 4 (TrapVerdict Length)
    (codes "4")
unfolding digits
negative_length = (refl, refl, refl)

-- ---- groups and names that hide others

abbrev groups : TypeRows
groups = IntRow ∷ BoolRow ∷ UnitRow ∷ DynRow ∷ FunRow (0 ∷ []) 0 ∷ FunRow (0 ∷ []) 1 ∷ []

-- the group of one function with this name and body, whose parameter is this name
abbrev group_of : ℕ → ℕ → Term → Members
group_of name parameter body = MemberThen name (parameter ∷ []) body 4 NoMembers

abbrev plus_one : Term
plus_one = Prim Add (two (Var 2) (int 1))

abbrev doubled : Term
doubled = Prim Mul (two (Var 2) (int 2))

-- (letrec ([f (lambda ([x : Int]) : Int (+ x 1))]) (letrec ([f (lambda ([x : Int]) : Int (* x 2))]) (f 5))), both of
-- one name
-- 1 the outer group: nothing is put in; 2 the inner one; 3 entered; 4 the body; 5 10
inner_group_hides : EndsAfter groups []
    (Group (group_of 0 2 plus_one) (Group (group_of 0 2 doubled) (Call (Var 0) (one (int 5))))) 5 (number 10) []
unfolding int_wrap
inner_group_hides = (refl, refl, refl)

-- (letrec ([f (lambda ([f : Int]) : Int (+ f f))]) (f 7)), both of one name
-- 1 the group; 2 entered; 3 the body, where the parameter hides the function; 4 14
parameter_hides_member : EndsAfter groups []
    (Group (group_of 0 0 (Prim Add (two (Var 0) (Var 0)))) (Call (Var 0) (one (int 7)))) 4 (number 14) []
unfolding int_wrap
parameter_hides_member = (refl, refl, refl)

-- (letrec ([f (lambda ([x : Int]) : Int x)]) (let ([f 3]) f)), both of one name
-- 1 the group: nothing is put in; 2 the let
let_hides_member : EndsAfter groups [] (Group (group_of 0 1 (Var 1)) (let_one 0 (int 3) (Var 0))) 2 (number 3) []
let_hides_member = (refl, refl, refl)

-- (let ([x 1]) (let ([x 2]) x)), both of one name
-- 1 the outer let: nothing is put in; 2 the inner one
let_hides_let : EndsAfter groups [] (let_one 0 (int 1) (let_one 0 (int 2) (Var 0))) 2 (number 2) []
let_hides_let = (refl, refl, refl)

-- even of 3, by two functions that call each other
-- 1 the group
-- 2 to 6, 7 to 11 and 12 to 16, of 3, 2 and 1: entered, the body, it isn't 0, so the other call, of one less
-- 17 odd is entered with 0; 18 the body; 19 it is 0; 20 #f
even_of_three : EndsAfter groups [] (Group (even_and_odd 5) (Call (Var 0) (one (int 3)))) 20
    (AnswerVerdict (answer Truth (pos 0))) []
unfolding int_wrap
even_of_three = (refl, refl, refl)

-- (letrec ([f (lambda ([x : Int]) : Int x)]) ((: (: f Dyn) (Int -> Int)) 5))
-- 1 the group; 2 f goes into Dyn, 3 comes out, 4 is wrapped; 5 entered; 6 unwrapped; 7 the argument is cast; 8 the body
-- 9 the answer is cast
member_through_dyn : EndsAfter groups []
    (Group (group_of 0 1 (Var 1)) (Call (Cast (Cast (Var 0) 4 3 0) 3 4 1) (one (int 5)))) 9 (number 5) []
member_through_dyn = (refl, refl, refl)

-- ---- sequences, conditions, input

abbrev base : TypeRows
base = IntRow ∷ BoolRow ∷ UnitRow ∷ DynRow ∷ []

-- 42 has ended at once
literal_at_once : (calc (record { term = int 42; types = base; labels = three_labels }) [] 0).ending ≡
    Some (EndsWith (number 42))
literal_at_once = refl

-- (begin (print-int 1) (print-int 2) 3)
-- 1 prints; 2 the unit is left; 3 prints; 4 the unit is left; 5 one term is left
prints_twice : EndsAfter base [] (seq (Prim PrintInt (one (int 1)) ∷ Prim PrintInt (one (int 2)) ∷ int 3 ∷ [])) 5
    (number 3)
    (codes "12")
unfolding digits
prints_twice = (refl, refl, refl)

-- (begin (print-int 7) (: (: #t Dyn) Int))
-- 1 prints; 2 the unit is left, 3 one term is left; 4 #t goes into Dyn; 5 comes out; 6 l1 is blamed
prints_then_blames : EndsAfter base []
    (seq (Prim PrintInt (one (int 7)) ∷ Cast (Cast (BoolLit true) 1 3 0) 3 0 1 ∷ [])) 6 (Blame (in_line 2)) (codes "7")
unfolding digits
prints_then_blames = (refl, refl, refl)

-- (begin (print-int 7) (%/ 1 0))
-- 1 prints; 2 the unit is left, 3 one term is left; 4 the divisor traps
prints_then_traps : EndsAfter base [] (seq (Prim PrintInt (one (int 7)) ∷ Prim Quot (two (int 1) (int 0)) ∷ [])) 4
    (TrapVerdict ZeroDivisor) (codes "7")
unfolding digits
prints_then_traps = (refl, refl, refl)

-- (if (: #f Dyn) 1 (: 2 Dyn))
-- 1 #f goes into Dyn, 2 comes out, 3 is cast from Bool to Bool; 4 the second branch; 5 2 goes into Dyn
condition_out_of_dyn : EndsAfter base []
    (If (Cast (Cast (BoolLit false) 1 3 0) 3 1 0) (Cast (int 1) 0 3 1) (Cast (int 2) 0 3 2)) 5 (number 2) []
condition_out_of_dyn = (refl, refl, refl)

-- (if (: 0 Dyn) 1 2)
-- 1 0 goes into Dyn, 2 comes out; 3 l0 is blamed
condition_blamed : EndsAfter base [] (If (Cast (Cast (int 0) 0 3 0) 3 1 0) (int 1) (int 2)) 3 (Blame (in_line 1)) []
condition_blamed = (refl, refl, refl)

-- the sum of two numbers that are read from `4 38`
-- 1 reads 4; 2 reads 38; 3 42
two_are_read : EndsAfter base (codes "4 38") (Prim Add (two (Prim ReadInt NoTerms) (Prim ReadInt NoTerms))) 3 (number
    42) []
unfolding int_wrap
two_are_read = (refl, refl, refl)

-- a number is read from `x`
-- 1 there is none
none_is_read : EndsAfter base (codes "x") (Prim ReadInt NoTerms) 1 (TrapVerdict Input) []
none_is_read = (refl, refl, refl)
