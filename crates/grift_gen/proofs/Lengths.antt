-- How long a program of the family is.
use Rattle.std.proofs.Common.{ℕ, zero, suc, ◌*◌, ◌<◌, ◌≤◌, Bool, true, false, cond, List, ◌++◌, length, arith}
use Rattle.std.proofs.Common.{length-append}
use Rattle.std.specs.Prelude.{◌==◌, ◌%◌, codes}
use Rattle.std.specs.Fmt.{decimal}
use Rattle.std.proofs.lemmas.Fmt.{length-decimal-le}
use Rattle.grift_base.specs.Sizes.{source_limit}
use Rattle.grift_gen.specs.Family.{calls_line, family_text, function_line, lines_below, parameter_text}

number_short : (i : ℕ) → i < 200 → length (decimal i) ≤ 3
number_short i small = length-decimal-le 3 i (omega arith) (omega arith) (omega arith)

parameter_short : (i : ℕ) → length (parameter_text i) ≤ 20
parameter_short i = by_test (i % 2 == 0)
  where
    by_test : (even : Bool) → length (cond even (codes " x)") (codes " [x : Int]) : Int")) ≤ 20
    by_test true = omega arith
    by_test false = omega arith

function_short : (i : ℕ) → i < 200 → length (function_line i) ≤ 100
function_short i small =
    let d = number_short i small in
    let p = parameter_short i in
    let one = length-append (decimal i) (parameter_text i) in
    let two = length-append (decimal i ++ parameter_text i) (codes " (+ x ") in
    let three = length-append (decimal i ++ parameter_text i ++ codes " (+ x ") (decimal i) in
    let four = length-append (decimal i ++ parameter_text i ++ codes " (+ x " ++ decimal i) (codes "))\n") in
    omega arith

calls_short : (i : ℕ) → i < 200 → length (calls_line i) ≤ 100
calls_short i small =
    let d = number_short i small in
    let whole = length-append (decimal i) (codes " (unbox r))))\n") in
    omega arith

lines_short : (line : ℕ → List ℕ) (n : ℕ) → ((i : ℕ) → i < n → length (line i) ≤ 100)
    → length (lines_below line n) ≤ 100 * n
lines_short line zero each = omega arith
lines_short line (suc n) each =
    let before = lines_short line n (λ i below. each i (omega arith)) in
    let here = each n (omega arith) in
    omega (arith, length-append (lines_below line n) (line n), before, here)

-- the lines that aren't there for each number
abbrev box_line : List ℕ
box_line = codes "(define r : (Ref Dyn) (box 0))\n"

abbrev print_line : List ℕ
print_line = codes "(print-int (unbox r))\n"

abbrev answer_line : List ℕ
answer_line = codes "(unbox r)\n"

-- a program is a source that may be read
pub program_short : (n : ℕ) → n ≤ 200 → length (family_text n) ≤ source_limit
program_short n most =
    let functions = lines_short function_line n (λ i below. function_short i (omega arith)) in
    let calls = lines_short calls_line n (λ i below. calls_short i (omega arith)) in
    let one = length-append (lines_below function_line n) box_line in
    let two = length-append (lines_below function_line n ++ box_line) (lines_below calls_line n) in
    let three = length-append (lines_below function_line n ++ box_line ++ lines_below calls_line n) print_line in
    let four = length-append (lines_below function_line n ++ box_line ++ lines_below calls_line n ++ print_line)
    answer_line in
    omega arith
