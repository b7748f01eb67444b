-- Programs that end alike in the calculus, in the piled run and in the merged run, with as many wrap steps in the first
-- two. `l0`, `l1` and `l2` are the labels.
use Rattle.std.proofs.Common.{◌≡◌, ℕ, List, [], ◌∷◌, Option, Some, map, refl, true, false, pos}
use Rattle.std.specs.Prelude.{codes}
use Rattle.std.specs.Int.{int_wrap}
use Rattle.std.specs.Fmt.{digits}
use Rattle.run_laws.specs.Runs.{Ending, Verdict as EndsWith}
use Rattle.grift_base.specs.declared.operators.PrimOp.TheVariants.{Sub, Eq, PrintInt, MakeBox, Unbox, BoxSet}
use Rattle.grift_base.specs.declared.operators.PrimOp.TheVariants.{MakeVector, VectorRef, VectorSet, VectorLength}
use Rattle.grift_base.specs.declared.verdicts.Trap.TheVariants.{Index}
use Rattle.grift_base.specs.declared.verdicts.Verdict.{Verdict}
use Rattle.grift_base.specs.declared.verdicts.Verdict.TheVariants.{Blame, Trap as TrapVerdict}
use Rattle.core_calc.specs.Terms.{Term, BoolLit, Var, Lambda, Group, Call, If, Seq, Cast, Proj}
use Rattle.core_calc.specs.Terms.{ProjDyn, Tuple, Prim, NoMembers, MemberThen}
use Rattle.core_calc.specs.Terms.{terms_from}
use Rattle.core_calc.specs.Calculus.{calc}
use Rattle.cast_modes.specs.Modes.{piling}
use Rattle.coercion_norm.specs.MergedMode.{merging}
use Rattle.coer_core.specs.Conversion.{converted}
use Rattle.coer_core.specs.Counts.{run_in, told_of, calc_with_wraps}
use Rattle.coer_core.proofs.Samples.{Sample, types, in_line, program, int, one, two, let_one, number, identity}
use Rattle.coer_core.proofs.Samples.{samples, Asker, askers}

-- the term, of this type, ends so within 150 steps or turns, with this output and so many wrap steps
abbrev EndsAlike : Term → ℕ → Verdict → List ℕ → ℕ → Type 0
EndsAlike term type verdict output wraps =
    let made = converted [] term in
    let told = told_of (program term) type in
    ((calc (program term) [] 150).ending ≡ Some (EndsWith verdict)) × ((calc (program term) [] 150).output ≡ output)
    × ((calc_with_wraps (program term) [] 150).shown.spent ≡ wraps)
    × ((run_in (piling types made.casts) told made.term [] 150).ending ≡ Some (EndsWith verdict))
    × ((run_in (piling types made.casts) told made.term [] 150).output ≡ output)
    × ((run_in (piling types made.casts) told made.term [] 150).shown.wraps ≡ wraps)
    × ((run_in (merging types made.casts) told made.term [] 150).ending ≡ Some (EndsWith verdict))
    × ((run_in (merging types made.casts) told made.term [] 150).output ≡ output)

-- what a program ends with, its output and its wrap steps: in the calculus and in the piled run, and in the merged run
-- without these
abbrev Ends : Type 0
Ends = Option (Ending Verdict) × List ℕ

abbrev come_to : Sample → (Ends × ℕ) × (Ends × ℕ) × Ends
come_to s =
    let made = converted [] s.term in
    let told = told_of (program s.term) s.type in
    let core = calc (program s.term) [] 150 in
    let piled = run_in (piling types made.casts) told made.term [] 150 in
    let merged = run_in (merging types made.casts) told made.term [] 150 in (
      ((core.ending, core.output), (calc_with_wraps (program s.term) [] 150).shown.spent),
      ((piled.ending, piled.output), piled.shown.wraps),
      (merged.ending, merged.output),
    )

abbrev wanted : Sample → (Ends × ℕ) × (Ends × ℕ) × Ends
wanted s = let end : Ends = (Some (EndsWith s.verdict), s.output) in ((end, s.wraps), (end, s.wraps), end)

-- the samples come to what they say, within 150 steps or turns
samples_end : map come_to samples ≡ map wanted samples
unfolding digits int_wrap
samples_end = refl

-- ---- functions seen through casts

-- a cast of a function tests no types of parameters: what is never called blames nothing
argument_types_later : EndsAlike (let_one 9 (Cast (Cast identity 3 2 0) 2 18 1) (int 5)) 0 (number 5) [] 1
argument_types_later = (refl, refl, refl, refl, refl, refl, refl, refl)

-- called, it is its argument that the cast out of Dyn blames:
-- (let ([f (: (: (lambda ([x : Int]) : Int x) Dyn) (Bool -> Int))]) (f #t))
argument_types_at_a_call : EndsAlike
    (let_one 9 (Cast (Cast identity 3 2 0) 2 18 1) (Call (Var 9) (one (BoolLit true)))) 0 (Blame (in_line 2)) [] 1
argument_types_at_a_call = (refl, refl, refl, refl, refl, refl, refl, refl)

-- types of parameter and result both clash: what comes between cast and call is done, and the call blames the cast
argument_and_result_clash : EndsAlike
    (let_one 9 (Cast (Cast identity 3 2 0) 2 21 1)
    (Seq (terms_from (Prim PrintInt (one (int 1)) ∷ Call (Var 9) (one (BoolLit true)) ∷ [])))) 1 (Blame (in_line 2))
    (codes "1") 1
unfolding digits
argument_and_result_clash = (refl, refl, refl, refl, refl, refl, refl, refl)

-- only the type of the result clashes: the body runs, and then the cast is blamed
result_clashes : EndsAlike
    (Call (Cast (Cast (Lambda (0 ∷ []) (Seq (terms_from (Prim PrintInt (one (Var 0)) ∷ Var 0 ∷ []))) 3) 3 2 0) 2 16 1)
    (one (int 5))) 1 (Blame (in_line 2)) (codes "5") 1
unfolding digits
result_clashes = (refl, refl, refl, refl, refl, refl, refl, refl)

-- two wrappers on one argument, both of which would blame: the outermost comes first
outermost_wrapper_first : EndsAlike
    (Call (Cast (Cast identity 3 18 0) 18 26 1) (one (Cast (int 5) 0 2 2))) 0 (Blame (in_line 2)) [] 2
outermost_wrapper_first = (refl, refl, refl, refl, refl, refl, refl, refl)

-- all casts of the first argument come before those of the second: the inner wrapper blames the first, though the outer
-- one would blame the second
-- (let ([f (lambda ([a : Int] [b : Int]) : Int a)])
-- (let ([g (: f (Dyn Int -> Int))]) (let ([h (: g (Dyn Dyn -> Int))]) (h #t #f))))
arguments_one_by_one : EndsAlike
    (let_one 5 (Lambda (0 ∷ 1 ∷ []) (Var 0) 14) (let_one 6 (Cast (Var 5) 14 19 0) (let_one 7 (Cast (Var 6) 19 20 1)
    (Call (Var 7) (two (Cast (BoolLit true) 1 2 2) (Cast (BoolLit false) 1 2 2)))))) 0 (Blame (in_line 1)) [] 2
arguments_one_by_one = (refl, refl, refl, refl, refl, refl, refl, refl)

-- a loop that casts a function there and back at each turn: four wrappers, and at most one proxy
-- (letrec ([loop (lambda ([n : Int] [f : (Dyn -> Dyn)]) : (Dyn -> Dyn)
-- (if (= n 0) f (loop (- n 1) (: (: f (Int -> Int)) (Dyn -> Dyn)))))]) ((loop 2 (lambda (x) x)) ARGUMENT))
abbrev there_and_back : Term → Term
there_and_back argument =
    Group (MemberThen 0 (1 ∷ 2 ∷ [])
    (If (Prim Eq (two (Var 1) (int 0))) (Var 2)
    (Call (Var 0) (two (Prim Sub (two (Var 1) (int 1))) (Cast (Cast (Var 2) 4 3 0) 3 4 1)))) 23 NoMembers)
    (Call (Call (Var 0) (two (int 2) (Lambda (3 ∷ []) (Var 3) 4))) (one argument))

cast_in_a_loop : EndsAlike (there_and_back (Cast (int 7) 0 2 2)) 2 (number 7) [] 4
unfolding int_wrap
cast_in_a_loop = (refl, refl, refl, refl, refl, refl, refl, refl)

-- the last cast made is the first to see the argument
blamed_after_a_loop : EndsAlike (there_and_back (Cast (BoolLit true) 1 2 2)) 2 (Blame (in_line 2)) [] 4
unfolding int_wrap
blamed_after_a_loop = (refl, refl, refl, refl, refl, refl, refl, refl)

-- ((: (lambda () 1) Dyn) 5): both casts have the function's place
called_with_too_many : EndsAlike
    (Call (Cast (Cast (Lambda [] (Seq (one (int 1))) 13) 13 2 0) 2 5 0) (one (int 5))) 2 (Blame (in_line 1)) [] 0
called_with_too_many = (refl, refl, refl, refl, refl, refl, refl, refl)

-- ---- tuples

-- (tuple-proj (: (: (tuple 1 #t) Dyn) (Tuple Int Int)) PART)
abbrev cast_tuple : ℕ → Term
cast_tuple part = Proj (Cast (Cast (Tuple (two (int 1) (BoolLit true))) 11 2 0) 2 22 1) (pos part)

part_that_fits : EndsAlike (cast_tuple 0) 0 (number 1) [] 1
part_that_fits = (refl, refl, refl, refl, refl, refl, refl, refl)

part_blamed : EndsAlike (cast_tuple 1) 0 (Blame (in_line 2)) [] 1
part_blamed = (refl, refl, refl, refl, refl, refl, refl, refl)

-- three casts on one tuple: part 0 goes through all of them, part 1 is blamed by the second
abbrev cast_three_times : ℕ → Term
cast_three_times part =
    Proj (Cast (Cast (Cast (Tuple (two (int 4) (BoolLit true))) 11 12 0) 12 22 1) 22 12 2) (pos part)

first_part_through_three : EndsAlike (cast_three_times 0) 2 (number 4) [] 3
first_part_through_three = (refl, refl, refl, refl, refl, refl, refl, refl)

second_of_three_blamed : EndsAlike (cast_three_times 1) 2 (Blame (in_line 2)) [] 3
second_of_three_blamed = (refl, refl, refl, refl, refl, refl, refl, refl)

-- ---- boxes and vectors

-- (let ([b (box 1)]) (let ([d (: b (Ref Dyn))]) (begin (box-set! d VALUE) (unbox b))))
abbrev set_and_read : Term → Term
set_and_read value =
    let_one 0 (Prim MakeBox (one (int 1))) (let_one 1 (Cast (Var 0) 7 8 0)
    (Seq (terms_from (Prim BoxSet (two (Var 1) value) ∷ Prim Unbox (one (Var 0)) ∷ []))))

set_and_read_an_integer : EndsAlike (set_and_read (Cast (int 7) 0 2 1)) 0 (number 7) [] 1
set_and_read_an_integer = (refl, refl, refl, refl, refl, refl, refl, refl)

set_to_a_truth_value : EndsAlike (set_and_read (Cast (BoolLit true) 1 2 1)) 0 (Blame (in_line 1)) [] 1
set_to_a_truth_value = (refl, refl, refl, refl, refl, refl, refl, refl)

-- a box written through two casts, to Dyn and back, which come to no proxy
written_through_two : EndsAlike
    (let_one 0 (Prim MakeBox (one (int 1))) (Seq (terms_from
    (Prim BoxSet (two (Cast (Cast (Var 0) 7 8 0) 8 7 1) (int 9)) ∷ Prim Unbox (one (Var 0)) ∷ [])))) 0 (number 9) [] 2
written_through_two = (refl, refl, refl, refl, refl, refl, refl, refl)

-- seen as a box of truth values: what is written comes in by the outer cast, and the inner one is blamed
write_through_two_blamed : EndsAlike
    (Prim BoxSet (two (Cast (Cast (Prim MakeBox (one (int 1))) 7 8 0) 8 24 1) (BoolLit true))) 6
    (Blame (in_line 1)) [] 2
write_through_two_blamed = (refl, refl, refl, refl, refl, refl, refl, refl)

-- and what is read is blamed by the outer one
read_through_two_blamed : EndsAlike
    (Prim Unbox (one (Cast (Cast (Prim MakeBox (one (int 1))) 7 8 0) 8 24 1))) 1 (Blame (in_line 2)) [] 2
read_through_two_blamed = (refl, refl, refl, refl, refl, refl, refl, refl)

-- a vector that goes into Dyn, and comes out as one of Dyn: what is read is an integer in Dyn
read_after_dyn : EndsAlike
    (Prim VectorRef (two (Cast (Cast (Prim MakeVector (two (int 3) (int 8))) 9 2 0) 2 10 1) (int 2))) 2 (number 8) [] 1
read_after_dyn = (refl, refl, refl, refl, refl, refl, refl, refl)

-- out as one of truth values: what is read is blamed by the cast out of Dyn
read_after_dyn_blamed : EndsAlike
    (Prim VectorRef (two (Cast (Cast (Prim MakeVector (two (int 3) (int 8))) 9 2 0) 2 25 1) (int 2))) 1
    (Blame (in_line 2)) [] 1
read_after_dyn_blamed = (refl, refl, refl, refl, refl, refl, refl, refl)

-- ---- many casts

-- (Int -> Int) => (Dyn -> Dyn) => (Bool -> Int) => (Dyn -> Int)
abbrev three_times : Term
three_times = Cast (Cast (Cast identity 3 4 0) 4 18 1) 18 26 2

-- an integer is refused by the outermost wrapper, a truth value by the innermost
outermost_of_three : EndsAlike (Call three_times (one (Cast (int 5) 0 2 0))) 0 (Blame (in_line 3)) [] 3
outermost_of_three = (refl, refl, refl, refl, refl, refl, refl, refl)

innermost_of_three : EndsAlike (Call three_times (one (Cast (BoolLit true) 1 2 1))) 0 (Blame (in_line 1)) [] 3
innermost_of_three = (refl, refl, refl, refl, refl, refl, refl, refl)

-- (Ref Int) => (Ref Dyn) => (Ref Int) => (Ref Dyn) => (Ref Bool): the first two come to no proxy
abbrev four_times : Term
four_times = Cast (Cast (Cast (Cast (Prim MakeBox (one (int 1))) 7 8 0) 8 7 1) 7 8 2) 8 24 1

written_through_four : EndsAlike (Prim BoxSet (two four_times (BoolLit true))) 6 (Blame (in_line 3)) [] 4
written_through_four = (refl, refl, refl, refl, refl, refl, refl, refl)

read_through_four : EndsAlike (Prim Unbox (one four_times)) 1 (Blame (in_line 2)) [] 4
read_through_four = (refl, refl, refl, refl, refl, refl, refl, refl)

-- four casts that come to no proxy: what is written stands in the box itself
four_that_come_to_none : EndsAlike
    (let_one 0 (Prim MakeBox (one (int 1)))
    (let_one 1 (Cast (Cast (Cast (Cast (Var 0) 7 8 0) 8 7 1) 7 8 2) 8 7 0)
    (Seq (terms_from (Prim BoxSet (two (Var 1) (int 9)) ∷ Prim PrintInt (one (Prim Unbox (one (Var 0))))
    ∷ Prim Unbox (one (Var 1)) ∷ []))))) 0 (number 9) (codes "9") 4
unfolding digits
four_that_come_to_none = (refl, refl, refl, refl, refl, refl, refl, refl)

-- ---- tuples, and parts of Dyn

-- in Dyn, out as a tuple of Dyn, and then as one of integers: the last cast is blamed
part_after_dyn : EndsAlike
    (Proj (Cast (Cast (Cast (Tuple (two (int 4) (BoolLit true))) 11 2 0) 2 12 1) 12 22 2) (pos 1)) 0
    (Blame (in_line 3)) [] 2
part_after_dyn = (refl, refl, refl, refl, refl, refl, refl, refl)

-- out of Dyn as a tuple of three: blamed at once
another_width : EndsAlike
    (Proj (Cast (Cast (Tuple (two (int 4) (BoolLit true))) 11 2 0) 2 32 1) (pos 0)) 2 (Blame (in_line 2)) [] 0
another_width = (refl, refl, refl, refl, refl, refl, refl, refl)

-- a part that was in Dyn stays as it is
part_from_dyn_to_dyn : EndsAlike
    (Cast (Proj (Cast (Tuple (two (Cast (int 5) 0 2 0) (BoolLit true))) 29 12 1) (pos 0)) 2 0 2) 0 (number 5) [] 1
part_from_dyn_to_dyn = (refl, refl, refl, refl, refl, refl, refl, refl)

-- a part of a wrapped tuple in Dyn is in Dyn already; out of it, it is no integer
part_of_wrapped_in_dyn : EndsAlike
    (Cast (ProjDyn (Cast (Cast (Tuple (two (int 4) (BoolLit true))) 11 12 0) 12 2 0) (pos 1) 2) 2 0 1) 0
    (Blame (in_line 2)) [] 1
part_of_wrapped_in_dyn = (refl, refl, refl, refl, refl, refl, refl, refl)

-- a tuple of two has no part 2
no_third_part : EndsAlike
    (ProjDyn (Cast (Tuple (two (int 4) (BoolLit true))) 11 2 0) (pos 2) 2) 2 (Blame (in_line 3)) [] 0
no_third_part = (refl, refl, refl, refl, refl, refl, refl, refl)

-- ---- vectors

-- into Dyn and out as one of truth values: the length is there, a write is blamed
length_then_write : EndsAlike
    (let_one 0 (Cast (Cast (Prim MakeVector (two (int 2) (int 5))) 9 2 0) 2 25 1)
    (Seq (terms_from (Prim PrintInt (one (Prim VectorLength (one (Var 0))))
    ∷ Prim VectorSet (terms_from (Var 0 ∷ int 0 ∷ BoolLit true ∷ [])) ∷ [])))) 6 (Blame (in_line 2)) (codes "2") 1
unfolding digits
length_then_write = (refl, refl, refl, refl, refl, refl, refl, refl)

-- through two wrappers an index outside traps, though the value would be blamed
index_through_two : EndsAlike
    (Prim VectorSet (terms_from (Cast (Cast (Prim MakeVector (two (int 2) (int 5))) 9 10 0) 10 25 1 ∷ int 2
    ∷ BoolLit true ∷ []))) 6 (TrapVerdict Index) [] 2
index_through_two = (refl, refl, refl, refl, refl, refl, refl, refl)

-- in Dyn, out as a vector of Dyn, and then as one of truth values
abbrev vector_through_dyn : Term
vector_through_dyn = Cast (Cast (Cast (Prim MakeVector (two (int 2) (int 5))) 9 2 0) 2 10 1) 10 25 2

read_through_dyn : EndsAlike (Prim VectorRef (two vector_through_dyn (int 1))) 1 (Blame (in_line 3)) [] 2
read_through_dyn = (refl, refl, refl, refl, refl, refl, refl, refl)

write_through_dyn : EndsAlike
    (Prim VectorSet (terms_from (vector_through_dyn ∷ int 0 ∷ BoolLit true ∷ []))) 6 (Blame (in_line 2)) [] 2
write_through_dyn = (refl, refl, refl, refl, refl, refl, refl, refl)

-- ---- calls

-- three wrappers on two arguments: the first argument is blamed by the innermost wrapper, the second would be by the
-- outermost
first_argument_through_three : EndsAlike
    (Call (Cast (Cast (Cast (Lambda (0 ∷ 1 ∷ []) (Var 0) 14) 14 20 0) 20 19 1) 19 20 2)
    (two (Cast (BoolLit true) 1 2 1) (Cast (BoolLit false) 1 2 1))) 0 (Blame (in_line 1)) [] 3
first_argument_through_three = (refl, refl, refl, refl, refl, refl, refl, refl)

-- a function that prints its argument, through three wrappers of its result:
-- (Int -> Dyn) => (Int -> Int) => (Dyn -> Dyn) => (Int -> Bool)
abbrev result_through_three : Term → Term
result_through_three result =
    Call (Cast (Cast (Cast (Lambda (0 ∷ []) (Seq (terms_from (Prim PrintInt (one (Var 0)) ∷ result ∷ []))) 5) 5 3 0)
    3 4 1) 4 16 2) (one (int 5))

-- a truth value is refused by the innermost, an integer by the outermost
result_of_innermost : EndsAlike (result_through_three (Cast (BoolLit true) 1 2 1)) 1 (Blame (in_line 1)) (codes "5") 3
unfolding digits
result_of_innermost = (refl, refl, refl, refl, refl, refl, refl, refl)

result_of_outermost : EndsAlike (result_through_three (Cast (int 7) 0 2 1)) 1 (Blame (in_line 3)) (codes "5") 3
unfolding digits
result_of_outermost = (refl, refl, refl, refl, refl, refl, refl, refl)

-- there and back, and through Dyn at the same type: three wrappers and no proxy
there_back_and_through_dyn : EndsAlike
    (Call (Cast (Cast (Cast (Cast identity 3 4 0) 4 3 1) 3 2 2) 2 3 0) (one (int 5))) 0 (number 5) [] 3
there_back_and_through_dyn = (refl, refl, refl, refl, refl, refl, refl, refl)

-- ---- functions given to functions

-- calls its argument with 5
abbrev calls_with_five : Term
calls_with_five = Lambda (3 ∷ []) (Call (Var 3) (one (int 5))) 27

-- the given function is wrapped when it is handed over; its result is no integer
given_function_blamed : EndsAlike
    (Call (Cast calls_with_five 27 28 0) (one (Lambda (1 ∷ []) (Cast (BoolLit true) 1 2 1) 4))) 2 (Blame (in_line 1))
    [] 2
given_function_blamed = (refl, refl, refl, refl, refl, refl, refl, refl)

-- there and back: two wrappers on the function and two on its argument
given_there_and_back : EndsAlike
    (Call (Cast (Cast calls_with_five 27 28 0) 28 27 1) (one identity)) 0 (number 5) [] 4
given_there_and_back = (refl, refl, refl, refl, refl, refl, refl, refl)

-- a function of truth values, called with 5: its innermost wrapper, made by the outer cast, is blamed
given_function_of_another_type : EndsAlike
    (Call (Cast (Cast calls_with_five 27 28 0) 28 33 1) (one (Lambda (1 ∷ []) (Var 1) 21))) 2 (Blame (in_line 2)) [] 4
given_function_of_another_type = (refl, refl, refl, refl, refl, refl, refl, refl)

-- a function is written through a wrapped box and read through it: Dyn to Int to Dyn is not Id
function_in_a_box : EndsAlike
    (let_one 4 (Prim MakeBox (one identity)) (let_one 5 (Cast (Var 4) 30 31 0)
    (Seq (terms_from (Prim BoxSet (two (Var 5) (Lambda (3 ∷ []) (Var 3) 4))
    ∷ Call (Prim Unbox (one (Var 5))) (one (Cast (BoolLit true) 1 2 1)) ∷ []))))) 2 (Blame (in_line 1)) [] 3
function_in_a_box = (refl, refl, refl, refl, refl, refl, refl, refl)

-- ---- words asked for

-- the piled run of a term of this type asks for so many words
abbrev asked : Asker → ℕ
asked a =
    let made = converted [] a.term in
    (run_in (piling types made.casts) (told_of (program a.term) a.type) made.term [] 150).shown.words

askers_ask : map asked askers ≡ map (λ a. a.words) askers
askers_ask = refl
