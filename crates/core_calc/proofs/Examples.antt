-- The calculus at work on small programs. Each comment has the source that a term stands for.
use Rattle.std.proofs.Common.{◌≡◌, ℕ, List, [], ◌∷◌, Option, Some, None, refl, true, false, pos, negsuc}
use Rattle.std.specs.Prelude.{codes}
use Rattle.std.specs.Int.{int_wrap}
use Rattle.std.specs.Fmt.{digits}
use Rattle.run_laws.specs.Runs.{Ending, Wrong, Moment}
use Rattle.run_laws.specs.Runs.{Verdict as EndsWith}
use Rattle.grift_base.specs.Types.{TypeRows, IntRow, BoolRow, UnitRow, DynRow, FunRow, TupleRow, RefRow, VectRow}
use Rattle.grift_base.specs.declared.places.Pos.{Pos}
use Rattle.grift_base.specs.declared.operators.PrimOp.TheVariants.{Add, Quot, Rem, PrintInt, Newline, MakeBox}
use Rattle.grift_base.specs.declared.operators.PrimOp.TheVariants.{Unbox, BoxSet, MakeVector, VectorRef, VectorSet}
use Rattle.grift_base.specs.declared.operators.PrimOp.TheVariants.{VectorLength}
use Rattle.grift_base.specs.declared.verdicts.AnswerKind.{AnswerKind}
use Rattle.grift_base.specs.declared.verdicts.AnswerKind.TheVariants.{Int, Bool as Truth, Function, Vector}
use Rattle.grift_base.specs.declared.verdicts.Trap.TheVariants.{ZeroDivisor, Index, Length}
use Rattle.grift_base.specs.declared.verdicts.Verdict.{Verdict}
use Rattle.grift_base.specs.declared.verdicts.Verdict.TheVariants.{Answer as AnswerVerdict, Blame, Trap as TrapVerdict}
use Rattle.std.specs.Prelude.{ℤ}
use Rattle.core_calc.specs.Terms.{Term, IntLit, BoolLit, Var, Lambda, Group, Call, Enter, If, Cast, Proj}
use Rattle.core_calc.specs.Terms.{ProjDyn, Tuple, Prim, NoTerms}
use Rattle.core_calc.specs.Calculus.{answer, CalcState, calc}
use Rattle.core_calc.proofs.ExampleTerms.{int, seq, one, two, three, let_one, even_and_odd}

-- ---- how the examples are written

-- the place in the first line with this column
abbrev at_column : ℕ → Pos
at_column column = record { line = 1; col = column }

-- what a term with these types and labels has come to after at most n steps, without input
abbrev after : TypeRows → List Pos → ℕ → Term → Moment CalcState Verdict
after types labels n term = calc (record { term = term; types = types; labels = labels }) [] n

abbrev answers : AnswerKind → ℤ → Option (Ending Verdict)
answers kind word = Some (EndsWith (AnswerVerdict (answer kind word)))

abbrev blames : Pos → Option (Ending Verdict)
blames place = Some (EndsWith (Blame place))

-- ---- integers, sequences, printing

-- 42
literal_has_ended : (after [] [] 0 (int 42)).ending ≡ answers Int (pos 42)
literal_has_ended = refl

-- (+ 1 2)
abbrev sum : Term
sum = Prim Add (two (int 1) (int 2))

sum_runs_on : (after [] [] 0 sum).ending ≡ None
sum_runs_on = refl

sum_ends : (after [] [] 1 sum).ending ≡ answers Int (pos 3)
unfolding int_wrap
sum_ends = refl

-- (+ 9223372036854775807 1)
sum_wraps : (after [] [] 1 (Prim Add (two (int 9223372036854775807) (int 1)))).ending ≡
    answers Int (negsuc 9223372036854775807)
unfolding int_wrap
sum_wraps = refl

-- (%/ 1 0)
zero_divisor : (after [] [] 1 (Prim Quot (two (int 1) (int 0)))).ending ≡ Some (EndsWith (TrapVerdict ZeroDivisor))
zero_divisor = refl

-- (%/ -9223372036854775808 -1)
quotient_wraps : (after [] [] 1 (Prim Quot (two (IntLit (negsuc 9223372036854775807)) (IntLit (negsuc 0))))).ending ≡
    answers Int (negsuc 9223372036854775807)
quotient_wraps = refl

-- (%% -7 2)
remainder_has_sign_of_dividend : (after [] [] 1 (Prim Rem (two (IntLit (negsuc 6)) (int 2)))).ending ≡
    answers Int (negsuc 0)
remainder_has_sign_of_dividend = refl

-- (begin (print-int (+ 40 2)) (newline) 7)
abbrev prints_and_answers : Term
prints_and_answers = seq (Prim PrintInt (one (Prim Add (two (int 40) (int 2)))) ∷ Prim Newline NoTerms ∷ int 7 ∷ [])

prints : (after [] [] 9 prints_and_answers).output ≡ codes "42\n"
unfolding int_wrap digits
prints = refl

then_answers : (after [] [] 9 prints_and_answers).ending ≡ answers Int (pos 7)
unfolding int_wrap digits
then_answers = refl

-- 1 2 3, which takes four steps
abbrev one_two_three : Term
one_two_three = seq (int 1 ∷ seq (int 2 ∷ int 3 ∷ []) ∷ [])

after_three_steps : (after [] [] 3 one_two_three).ending ≡ None
after_three_steps = refl

after_four_steps : (after [] [] 4 one_two_three).ending ≡ answers Int (pos 3)
after_four_steps = refl

-- (+ (begin (print-int 1) 1) (begin (print-int 2) 2)): from left to right
abbrev speaks : ℕ → Term
speaks n = seq (Prim PrintInt (one (int n)) ∷ int n ∷ [])

left_to_right : (after [] [] 9 (Prim Add (two (speaks 1) (speaks 2)))).output ≡ codes "12"
unfolding int_wrap digits
left_to_right = refl

-- ---- names, functions, groups

-- (let ([x 1]) (let ([x 2]) x)), both of one name
shadowing : (after [] [] 2 (let_one 0 (int 1) (let_one 0 (int 2) (Var 0)))).ending ≡ answers Int (pos 2)
shadowing = refl

-- (let ([x 1]) (let ([x x]) (+ x x))): a bound term is outside the new name
bound_outside : (after [] [] 3 (let_one 0 (int 1) (let_one 0 (Var 0) (Prim Add (two (Var 0) (Var 0)))))).ending ≡
    answers Int (pos 2)
unfolding int_wrap
bound_outside = refl

abbrev int_to_int : TypeRows
int_to_int = IntRow ∷ BoolRow ∷ UnitRow ∷ DynRow ∷ FunRow (0 ∷ []) 0 ∷ []

-- (let ([x 1]) ((lambda ([x : Int]) : Int (+ x x)) 5)), both of one name
parameter_hides : (after int_to_int [] 5 (let_one 0 (int 1) (Call (Lambda (0 ∷ []) (Prim Add (two (Var 0) (Var 0))) 4)
    (one (int 5))))).ending ≡ answers Int (pos 10)
unfolding int_wrap
parameter_hides = refl

-- (letrec ([even (lambda ([n : Int]) : Bool (if (= n 0) #t (odd (- n 1))))] [odd (lambda ([n : Int]) : Bool (if (= n 0)
-- #f (even (- n 1))))]) (even 3))
group_calls : (after (IntRow ∷ BoolRow ∷ UnitRow ∷ DynRow ∷ FunRow (0 ∷ []) 1 ∷ []) [] 30
    (Group (even_and_odd 4) (Call (Var 0) (one (int 3))))).ending ≡ answers Truth (pos 0)
unfolding int_wrap
group_calls = refl

-- (lambda (x) x)
function_shown : (after (DynRow ∷ FunRow (0 ∷ []) 0 ∷ []) [] 1 (Lambda (0 ∷ []) (Var 0) 1)).ending ≡
    answers Function (pos 0)
function_shown = refl

-- (1 2)
call_of_integer : (after [] [] 2 (Call (int 1) (one (int 2)))).ending ≡ Some Wrong
call_of_integer = refl

-- an integer entered with an argument that is no value yet, as in (5 (print-int 1)): the argument takes its step first
abbrev integer_entered : Term
integer_entered = Enter (int 5) (one (Prim PrintInt (one (int 1))))

argument_comes_first : (after [] [] 1 integer_entered).output ≡ codes "1"
unfolding digits
argument_comes_first = refl

runs_on_after_argument : (after [] [] 1 integer_entered).ending ≡ None
runs_on_after_argument = refl

then_no_step : (after [] [] 2 integer_entered).ending ≡ Some Wrong
then_no_step = refl

-- ---- casts

abbrev base_types : TypeRows
base_types = BoolRow ∷ DynRow ∷ IntRow ∷ []

-- (: (: #t Dyn) Int)
blames_the_cast_out : (after base_types (at_column 4 ∷ at_column 1 ∷ []) 3
    (Cast (Cast (BoolLit true) 0 1 0) 1 2 1)).ending ≡ blames (at_column 1)
blames_the_cast_out = refl

-- a cast between equal types takes its step, and one from Dyn to Dyn gives its value
dyn_to_dyn : (after base_types (at_column 1 ∷ []) 2 (Cast (Cast (int 5) 2 1 0) 1 1 0)).ending ≡ answers Int (pos 5)
dyn_to_dyn = refl

base_to_itself : (after base_types (at_column 1 ∷ []) 1 (Cast (int 5) 2 2 0)).ending ≡ answers Int (pos 5)
base_to_itself = refl

-- a label that the program does not have
no_such_label : (after base_types [] 1 (Cast (int 5) 2 0 0)).ending ≡ Some Wrong
no_such_label = refl

-- (if (: #f Dyn) 1 (: 2 Dyn))
dyn_condition : (after base_types (at_column 5 ∷ at_column 16 ∷ at_column 18 ∷ []) 9
    (If (Cast (Cast (BoolLit false) 0 1 0) 1 0 0) (Cast (int 1) 2 1 1) (Cast (int 2) 2 1 2))).ending ≡
    answers Int (pos 2)
dyn_condition = refl

-- (if (: 0 Dyn) 1 2)
condition_blamed : (after base_types (at_column 5 ∷ []) 9 (If (Cast (Cast (int 0) 2 1 0) 1 0 0) (int 1)
    (int 2))).ending ≡ blames (at_column 5)
condition_blamed = refl

-- (let ([f (: (: (lambda ([x : Int]) : Int x) Dyn) (Bool -> Int))]) ..)
abbrev function_types : TypeRows
function_types = IntRow ∷ BoolRow ∷ DynRow ∷ FunRow (0 ∷ []) 0 ∷ FunRow (1 ∷ []) 0 ∷ []

abbrev with_wrapped : Term → Term
with_wrapped body = let_one 1 (Cast (Cast (Lambda (0 ∷ []) (Var 0) 3) 3 2 0) 2 4 1) (seq (body ∷ []))

function_casts_are_lazy : (after function_types (at_column 13 ∷ at_column 10 ∷ []) 20 (with_wrapped (int 5))).ending ≡
    answers Int (pos 5)
function_casts_are_lazy = refl

argument_blamed : (after function_types (at_column 13 ∷ at_column 10 ∷ []) 20
    (with_wrapped (Call (Var 1) (one (BoolLit true))))).ending ≡ blames (at_column 10)
argument_blamed = refl

-- ((: (lambda () 1) Dyn) 5): the function has another number of parameters
wrong_count : (after (IntRow ∷ DynRow ∷ FunRow [] 0 ∷ FunRow (0 ∷ []) 1 ∷ []) (at_column 2 ∷ []) 9
    (Call (Cast (Cast (Lambda [] (int 1) 2) 2 1 0) 1 3 0) (one (int 5)))).ending ≡ blames (at_column 2)
wrong_count = refl

-- ((: (lambda ([x : T]) : Bool #t) (Bool -> Bool)) #t), where the table does not have the type T
parameter_type_missing : (after (IntRow ∷ BoolRow ∷ UnitRow ∷ DynRow ∷ FunRow (9 ∷ []) 1 ∷ FunRow (1 ∷ []) 1 ∷ [])
    (at_column 2 ∷ []) 9 (Call (Cast (Lambda (0 ∷ []) (BoolLit true) 4) 4 5 0) (one (BoolLit true)))).ending ≡
    Some Wrong
parameter_type_missing = refl

-- four lines:
-- (let ([f (lambda ([a : Int] [b : Int]) : Int a)])
-- (let ([g (: f (Dyn Int -> Int))])
-- (let ([h (: g (Dyn Dyn -> Int))])
-- (h #t #f))))
-- all casts of the first argument come before those of the second
abbrev tenth_of_line : ℕ → Pos
tenth_of_line number = record { line = number; col = 10 }

abbrev two_wrappers : Term
two_wrappers =
    let_one 2 (Lambda (0 ∷ 1 ∷ []) (Var 0) 3)
    (let_one 3 (Cast (Var 2) 3 4 0) (let_one 4 (Cast (Var 3) 4 5 1)
    (Call (Var 4) (two (Cast (BoolLit true) 1 2 2) (Cast (BoolLit false) 1 2 2)))))

first_argument_first : (after (IntRow ∷ BoolRow ∷ DynRow ∷ FunRow (0 ∷ 0 ∷ []) 0 ∷ FunRow (2 ∷ 0 ∷ []) 0 ∷
    FunRow (2 ∷ 2 ∷ []) 0 ∷ []) (tenth_of_line 2 ∷ tenth_of_line 3 ∷ at_column 1 ∷ []) 30 two_wrappers).ending ≡
    blames (tenth_of_line 2)
first_argument_first = refl

-- ---- tuples

-- (tuple-proj (: (: (tuple 1 #t) Dyn) (Tuple Int Int)) ..)
abbrev tuple_types : TypeRows
tuple_types = IntRow ∷ BoolRow ∷ TupleRow (0 ∷ 1 ∷ []) ∷ DynRow ∷ TupleRow (0 ∷ 0 ∷ []) ∷ []

abbrev part_of_cast : ℕ → Term
part_of_cast k = Proj (Cast (Cast (Tuple (two (int 1) (BoolLit true))) 2 3 0) 3 4 1) (pos k)

part_kept : (after tuple_types (at_column 16 ∷ at_column 13 ∷ []) 9 (part_of_cast 0)).ending ≡ answers Int (pos 1)
part_kept = refl

part_blamed : (after tuple_types (at_column 16 ∷ at_column 13 ∷ []) 9 (part_of_cast 1)).ending ≡ blames (at_column 13)
part_blamed = refl

-- (tuple-proj (: (tuple 1 #t) Dyn) ..)
abbrev part_of_dyn : ℕ → Term
part_of_dyn k = ProjDyn (Cast (Tuple (two (int 1) (BoolLit true))) 2 3 0) (pos k) 0

dyn_part : (after tuple_types (at_column 13 ∷ []) 9 (part_of_dyn 1)).ending ≡ answers Truth (pos 1)
dyn_part = refl

no_dyn_part : (after tuple_types (at_column 13 ∷ []) 9 (part_of_dyn 2)).ending ≡ blames (at_column 13)
no_dyn_part = refl

-- ---- boxes and vectors

-- (let ([b (box 1)]) (let ([d (: b (Ref Dyn))]) (begin (box-set! d ..) (unbox b))))
abbrev box_types : TypeRows
box_types = IntRow ∷ RefRow 0 ∷ DynRow ∷ RefRow 2 ∷ BoolRow ∷ []

abbrev through_the_box : Term → Term
through_the_box written =
    let_one 0 (Prim MakeBox (one (int 1)))
    (let_one 1 (Cast (Var 0) 1 3 0) (seq (Prim BoxSet (two (Var 1) written) ∷ Prim Unbox (one (Var 0)) ∷ [])))

write_blamed : (after box_types (at_column 29 ∷ at_column 65 ∷ []) 20
    (through_the_box (Cast (BoolLit true) 4 2 1))).ending ≡ blames (at_column 29)
write_blamed = refl

write_kept : (after box_types (at_column 29 ∷ at_column 65 ∷ []) 20 (through_the_box (Cast (int 7) 0 2 1))).ending ≡
    answers Int (pos 7)
write_kept = refl

-- (vector-ref (make-vector 3 0) ..)
abbrev element_of_three : Term → Term
element_of_three index = Prim VectorRef (two (Prim MakeVector (two (int 3) (int 0))) index)

last_element : (after [] [] 2 (element_of_three (int 2))).ending ≡ answers Int (pos 0)
last_element = refl

index_past_the_end : (after [] [] 2 (element_of_three (int 3))).ending ≡ Some (EndsWith (TrapVerdict Index))
index_past_the_end = refl

negative_index : (after [] [] 2 (element_of_three (IntLit (negsuc 0)))).ending ≡ Some (EndsWith (TrapVerdict Index))
negative_index = refl

-- (make-vector -1 0)
negative_length : (after [] [] 1 (Prim MakeVector (two (IntLit (negsuc 0)) (int 0)))).ending ≡
    Some (EndsWith (TrapVerdict Length))
negative_length = refl

-- (make-vector 100 0)
vector_shown : (after [] [] 1 (Prim MakeVector (two (int 100) (int 0)))).ending ≡ answers Vector (pos 0)
vector_shown = refl

-- (let ([v (: (make-vector 3 1) (Vect Dyn))]) ..)
abbrev vector_types : TypeRows
vector_types = IntRow ∷ VectRow 0 ∷ DynRow ∷ VectRow 2 ∷ BoolRow ∷ []

abbrev with_dyn_vector : Term → Term
with_dyn_vector body = let_one 0 (Cast (Prim MakeVector (two (int 3) (int 1))) 1 3 0) body

abbrev vector_labels : List Pos
vector_labels = at_column 10 ∷ at_column 68 ∷ []

-- (begin (vector-set! v 0 #t) (vector-ref v 0))
element_blamed : (after vector_types vector_labels 20
    (with_dyn_vector (seq (Prim VectorSet (three (Var 0) (int 0) (Cast (BoolLit true) 4 2 1)) ∷
    Prim VectorRef (two (Var 0) (int 0)) ∷ [])))).ending ≡ blames (at_column 10)
element_blamed = refl

-- (vector-set! v 3 #t): the index is tested before the value is cast
index_before_cast : (after vector_types vector_labels 20
    (with_dyn_vector (Prim VectorSet (three (Var 0) (int 3) (Cast (BoolLit true) 4 2 1))))).ending ≡
    Some (EndsWith (TrapVerdict Index))
index_before_cast = refl

-- (begin (vector-set! v 2 8) (vector-ref v 2))
element_kept : (after vector_types vector_labels 20
    (with_dyn_vector (seq (Prim VectorSet (three (Var 0) (int 2) (Cast (int 8) 0 2 1)) ∷
    Prim VectorRef (two (Var 0) (int 2)) ∷ [])))).ending ≡ answers Int (pos 8)
element_kept = refl

-- (vector-length v)
length_through_wrapper : (after vector_types vector_labels 20
    (with_dyn_vector (Prim VectorLength (one (Var 0))))).ending ≡ answers Int (pos 3)
length_through_wrapper = refl

-- v
wrapped_vector_shown : (after vector_types vector_labels 20 (with_dyn_vector (Var 0))).ending ≡ answers Vector (pos 0)
wrapped_vector_shown = refl
