-- Programs that are run in each language, with what they end with. `l0`, `l1` and `l2` are the labels.
use Rattle.std.proofs.Common.{ℕ, List, [], ◌∷◌, ◌++◌, true, false, pos}
use Rattle.std.specs.Prelude.{codes}
use Rattle.grift_base.specs.Types.{TypeRows, IntRow, BoolRow, UnitRow, DynRow, FunRow, TupleRow, RefRow, VectRow}
use Rattle.grift_base.specs.declared.places.Pos.{Pos}
use Rattle.grift_base.specs.declared.operators.PrimOp.TheVariants.{Add, Sub, Quot, Eq, PrintInt, MakeBox, Unbox, BoxSet}
use Rattle.grift_base.specs.declared.operators.PrimOp.TheVariants.{MakeVector, VectorRef, VectorSet, VectorLength}
use Rattle.grift_base.specs.declared.verdicts.AnswerKind.TheVariants.{Int, Bool as Truth}
use Rattle.grift_base.specs.declared.verdicts.Trap.TheVariants.{ZeroDivisor, Index}
use Rattle.grift_base.specs.declared.verdicts.Verdict.{Verdict}
use Rattle.grift_base.specs.declared.verdicts.Verdict.TheVariants.{Answer as AnswerVerdict, Blame, Trap as TrapVerdict}
use Rattle.core_calc.specs.Terms.{Term, Terms, IntLit, BoolLit, Var, Lambda, Group, Let, Call, If, Seq, Cast, Proj}
use Rattle.core_calc.specs.Terms.{ProjDyn, Tuple, Prim, NoTerms, TermThen, NoMembers, MemberThen, NoBindings}
use Rattle.core_calc.specs.Terms.{BindingThen, terms_from}
use Rattle.core_calc.specs.Calculus.{answer, Program}

abbrev pub types : TypeRows
types =
    IntRow ∷ BoolRow ∷ DynRow ∷ FunRow (0 ∷ []) 0 ∷ FunRow (2 ∷ []) 2 ∷ FunRow (0 ∷ []) 2 ∷ UnitRow ∷ RefRow 0
    ∷ RefRow 2 ∷ VectRow 0 ∷ VectRow 2 ∷ TupleRow (0 ∷ 1 ∷ []) ∷ TupleRow (2 ∷ 2 ∷ []) ∷ FunRow [] 0
    ∷ FunRow (0 ∷ 0 ∷ []) 0 ∷ FunRow (2 ∷ 2 ∷ []) 2 ∷ FunRow (0 ∷ []) 1 ∷ FunRow (4 ∷ []) 0
    ∷ FunRow (1 ∷ []) 0 ∷ FunRow (2 ∷ 0 ∷ []) 0 ∷ FunRow (2 ∷ 2 ∷ []) 0 ∷ FunRow (1 ∷ []) 1 ∷ TupleRow (0 ∷ 0 ∷ [])
    ∷ FunRow (0 ∷ 4 ∷ []) 4 ∷ RefRow 1 ∷ VectRow 1 ∷ FunRow (2 ∷ []) 0 ∷ FunRow (3 ∷ []) 0 ∷ FunRow (4 ∷ []) 2
    ∷ TupleRow (2 ∷ 1 ∷ []) ∷ RefRow 3 ∷ RefRow 4 ∷ TupleRow (2 ∷ 2 ∷ 2 ∷ []) ∷ FunRow (21 ∷ []) 2 ∷ []

abbrev pub in_line : ℕ → Pos
in_line line = record { line = line; col = 1 }

abbrev pub program : Term → Program
program term = record { term = term; types = types; labels = in_line 1 ∷ in_line 2 ∷ in_line 3 ∷ [] }

abbrev pub int : ℕ → Term
int n = IntLit (pos n)

abbrev pub one : Term → Terms
one term = TermThen term NoTerms

abbrev pub two : Term → Term → Terms
two first second = TermThen first (one second)

abbrev pub let_one : ℕ → Term → Term → Term
let_one name bound body = Let (BindingThen name bound NoBindings) body

abbrev pub number : ℕ → Verdict
number n = AnswerVerdict (answer Int (pos n))

abbrev pub truth : ℕ → Verdict
truth n = AnswerVerdict (answer Truth (pos n))

abbrev pub identity : Term
identity = Lambda (0 ∷ []) (Var 0) 3

-- the identity, seen as a function from Dyn to Dyn
abbrev pub wide_identity : Term
wide_identity = Cast identity 3 4 0

-- a program by its term and type: it ends so, with this output and so many wrap steps
pub record Sample : Type 0 where
  pub term : Term
  pub type : ℕ
  pub verdict : Verdict
  pub output : List ℕ
  pub wraps : ℕ

abbrev pub sample : Term → ℕ → Verdict → List ℕ → ℕ → Sample
sample term type verdict output wraps =
    record { term = term; type = type; verdict = verdict; output = output; wraps = wraps }

-- names
abbrev named : List Sample
named =
    -- an inner name hides an outer one: (let ([x 1]) (+ (let ([x 2]) x) x))
    sample (let_one 0 (int 1) (Prim Add (two (let_one 0 (int 2) (Var 0)) (Var 0)))) 0 (number 3) [] 0 ∷
    -- a function keeps the name that it has captured: x is 10 in it, and its argument is 100
    sample (let_one 0 (int 10) (let_one 1 (Lambda (2 ∷ []) (Prim Add (two (Var 0) (Var 2))) 3) (let_one 0 (int 100)
    (Call (Var 1) (one (Var 0)))))) 0 (number 110) [] 0 ∷
    -- two functions that know each other: whether 3 is even
    sample (Group (MemberThen 0 (1 ∷ []) (If (Prim Eq (two (Var 1) (int 0))) (BoolLit true) (Call (Var 2) (one (Prim
    Sub (two (Var 1) (int 1)))))) 16 (MemberThen 2 (3 ∷ []) (If (Prim Eq (two (Var 3) (int 0))) (BoolLit false)
    (Call (Var 0) (one (Prim Sub (two (Var 3) (int 1)))))) 16 NoMembers)) (Call (Var 0) (one (int 3)))) 1 (truth 0)
    [] 0 ∷
    -- a function of a group captures a name outside it, and is called through a cast
    sample (let_one 9 (int 7) (Group (MemberThen 0 (1 ∷ []) (If (Prim Eq (two (Var 1) (int 0))) (Var 9) (Call (Var 0)
    (one (Prim Sub (two (Var 1) (int 1)))))) 3 NoMembers) (Call (Cast (Var 0) 3 4 0) (one (Cast (int 1) 0 2 1)))))
    2 (number 7) [] 1 ∷
    []

-- casts of base types
abbrev plainly_cast : List Sample
plainly_cast =
    -- 5 goes into Dyn and comes out
    sample (Cast (Cast (int 5) 0 2 0) 2 0 1) 0 (number 5) [] 0 ∷
    -- #t goes into Dyn under l0, and doesn't come out as an integer: l1 is blamed
    sample (Cast (Cast (BoolLit true) 1 2 0) 2 0 1) 0 (Blame (in_line 2)) [] 0 ∷
    -- a cast from Dyn to Dyn keeps the value
    sample (Cast (Cast (int 5) 0 2 0) 2 2 1) 2 (number 5) [] 0 ∷
    -- casts in a condition, an operand and a branch
    sample (If (Cast (Cast (BoolLit true) 1 2 0) 2 1 0) (Prim Add (two (Cast (Cast (int 1) 0 2 1) 2 0 1) (int 2)))
    (int 9)) 0 (number 3) [] 0 ∷
    []

-- functions seen through casts
abbrev called : List Sample
called =
    -- a wrapper gives its argument to the function inside
    sample (Call wide_identity (one (Cast (int 5) 0 2 1))) 2 (number 5) [] 1 ∷
    -- the argument is no integer: l0 is blamed
    sample (Call wide_identity (one (Cast (BoolLit true) 1 2 1))) 2 (Blame (in_line 1)) [] 1 ∷
    -- the result is no integer: l0 is blamed
    sample (Call (Cast (Lambda (0 ∷ []) (Cast (BoolLit true) 1 2 1) 5) 5 3 0) (one (int 5))) 0 (Blame (in_line 1)) []
    1 ∷
    -- two casts on one function: a proxy whose coercion comes to Id is none
    sample (Call (Cast wide_identity 4 3 1) (one (int 5))) 0 (number 5) [] 2 ∷
    -- both arguments are wrong: the first one is blamed, before the body prints
    sample (Call (Cast (Lambda (0 ∷ 1 ∷ []) (Seq (terms_from (Prim PrintInt (one (Var 0)) ∷ Var 1 ∷ []))) 14) 14 15
    2) (two (Cast (BoolLit true) 1 2 0) (Cast (BoolLit false) 1 2 1))) 2 (Blame (in_line 3)) [] 1 ∷
    -- arguments are evaluated, with what they print, before a cast of one blames
    sample (Call (Cast (Lambda (0 ∷ 1 ∷ []) (Var 1) 14) 14 15 2) (two (Cast (BoolLit true) 1 2 0) (Seq (terms_from
    (Prim PrintInt (one (int 8)) ∷ Cast (int 1) 0 2 1 ∷ []))))) 2 (Blame (in_line 3)) (codes "8") 1 ∷
    -- through Dyn to a function type with another number of parameters: l1 is blamed
    sample (Call (Cast (Cast (Lambda [] (int 1) 13) 13 2 0) 2 3 1) (one (int 5))) 0 (Blame (in_line 2)) [] 0 ∷
    -- a function that is handed on, and called where it is known by another type
    sample (Call (Lambda (5 ∷ []) (Cast (Call (Var 5) (one (Cast (int 3) 0 2 1))) 2 0 2) 17) (one wide_identity)) 0
    (number 3) [] 1 ∷
    []

-- tuples
abbrev projected : List Sample
projected =
    -- a part of a tuple in a wrapper
    sample (Proj (Cast (Tuple (two (int 4) (BoolLit true))) 11 12 0) (pos 0)) 2 (number 4) [] 1 ∷
    -- a part of a tuple in Dyn
    sample (ProjDyn (Cast (Tuple (two (int 4) (BoolLit true))) 11 2 0) (pos 1) 1) 2 (truth 1) [] 0 ∷
    -- an integer has no parts: the label of the projection is blamed
    sample (ProjDyn (Cast (int 4) 0 2 0) (pos 1) 2) 2 (Blame (in_line 3)) [] 0 ∷
    []

-- boxes and vectors
abbrev stored : List Sample
stored =
    -- 7 is written through a wrapper
    sample (let_one 0 (Prim MakeBox (one (int 1))) (Seq (terms_from (Prim BoxSet (two (Cast (Var 0) 7 8 0) (Cast (int
    7) 0 2 1)) ∷ Prim Unbox (one (Var 0)) ∷ [])))) 0 (number 7) [] 1 ∷
    -- what is written through a wrapper is no integer: l0 is blamed
    sample (Prim BoxSet (two (Cast (Prim MakeBox (one (int 1))) 7 8 0) (Cast (BoolLit true) 1 2 1))) 6 (Blame
    (in_line 1)) [] 1 ∷
    -- an element is read through a wrapper
    sample (Prim VectorRef (two (Cast (Prim MakeVector (two (int 3) (int 8))) 9 10 0) (int 1))) 2 (number 8) [] 1 ∷
    -- an index outside the vector traps before the written value is cast
    sample (Prim VectorSet (terms_from (Cast (Prim MakeVector (two (int 3) (int 8))) 9 10 0 ∷ int 3 ∷ Cast (BoolLit
    true) 1 2 1 ∷ []))) 6 (TrapVerdict Index) [] 1 ∷
    -- a wrapper has as many elements as its vector
    sample (Prim VectorLength (one (Cast (Prim MakeVector (two (int 3) (int 8))) 9 10 0))) 0 (number 3) [] 1 ∷
    []

-- output and traps
abbrev stopped : List Sample
stopped =
    -- what is printed comes in order
    sample (Seq (terms_from (Prim PrintInt (one (int 1)) ∷ Prim PrintInt (one (int 2)) ∷ int 3 ∷ []))) 0 (number 3)
    (codes "12") 0 ∷
    -- a quotient by 0
    sample (Prim Quot (two (int 1) (int 0))) 0 (TrapVerdict ZeroDivisor) [] 0 ∷
    []

abbrev pub samples : List Sample
samples = named ++ plainly_cast ++ called ++ projected ++ stored ++ stopped

-- a program by its term and type, whose piled run asks for so many words
pub record Asker : Type 0 where
  pub term : Term
  pub type : ℕ
  pub words : ℕ

abbrev asker : Term → ℕ → ℕ → Asker
asker term type words = record { term = term; type = type; words = words }

abbrev pub askers : List Asker
askers =
    -- a header, a code address and the one name that is captured, though it stands twice
    asker (let_one 0 (int 5) (Call (Lambda (1 ∷ []) (Prim Add (two (Var 0) (Prim Add (two (Var 0) (Var 1))))) 3) (one
    (int 1)))) 0 3 ∷
    -- two functions with a header and a code address each, and one captured name
    asker (let_one 0 (int 5) (Group (MemberThen 1 (3 ∷ []) (Prim Add (two (Var 0) (Var 3))) 3 (MemberThen 2 (4 ∷ [])
    (Prim Add (two (Var 0) (Call (Var 1) (one (Var 4))))) 3 NoMembers)) (Call (Var 2) (one (int 1))))) 0 5 ∷
    -- a header and two parts
    asker (Proj (Tuple (two (int 1) (BoolLit true))) (pos 0)) 0 3 ∷
    -- a box, what it has in Dyn, and a proxy
    asker (Prim Unbox (one (Cast (Prim MakeBox (one (int 1))) 7 8 0))) 2 8 ∷
    -- a header, the length and two elements
    asker (Prim VectorLength (one (Prim MakeVector (two (int 3) (int 8))))) 0 4 ∷
    []
