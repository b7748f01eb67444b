-- The programs of a family: one for each number, growing with it.
use Rattle.std.specs.Prelude.{ℕ, zero, suc, ◌%◌, ◌==◌, if◌then◌else◌, List, [], ◌++◌, codes}
use Rattle.std.specs.Fmt.{decimal}

-- the lines of the numbers below n, in order
abbrev pub lines_below : (ℕ → List ℕ) → ℕ → List ℕ
lines_below line zero = []
lines_below line (suc n) = lines_below line n ++ line n

-- how the function of i writes its parameter: without a type where i is even, so that it is Dyn and so is the answer;
-- else both are Int
abbrev pub parameter_text : ℕ → List ℕ
parameter_text i = if i % 2 == 0 then codes " x)" else codes " [x : Int]) : Int"

-- the function of i adds i
abbrev pub function_line : ℕ → List ℕ
function_line i =
    codes "(define (f" ++ decimal i ++ parameter_text i ++ codes " (+ x " ++ decimal i ++ codes "))\n"

-- the function of i is called 20 times on what a box of Dyn holds
abbrev pub calls_line : ℕ → List ℕ
calls_line i = codes "(repeat (k 0 20) (box-set! r (f" ++ decimal i ++ codes " (unbox r))))\n"

-- the program of n: n functions, a box, the calls of each function, and what the box holds then, printed and answered
abbrev pub family_text : ℕ → List ℕ
family_text n =
    lines_below function_line n
    ++ codes "(define r : (Ref Dyn) (box 0))\n"
    ++ lines_below calls_line n
    ++ codes "(print-int (unbox r))\n"
    ++ codes "(unbox r)\n"
