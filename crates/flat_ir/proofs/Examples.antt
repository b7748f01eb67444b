-- Programs that are closed and programs that are not, and runs of programs: how they end, what they print, and what is
-- counted. `l0`, `l1` and `l2` are the labels.
use Rattle.std.proofs.Common.{◌≡◌, ℕ, List, [], ◌∷◌, Some, refl, true, false, pos}
use Rattle.std.specs.Prelude.{codes}
use Rattle.std.specs.Int.{int_wrap}
use Rattle.std.specs.Fmt.{digits}
use Rattle.run_laws.specs.Runs.{Verdict as EndsWith, Wrong}
use Rattle.grift_base.specs.Types.{TypeRows, IntRow, BoolRow, UnitRow, DynRow, FunRow, TupleRow, RefRow}
use Rattle.grift_base.specs.declared.places.LabelId.{LabelId}
use Rattle.grift_base.specs.declared.places.Pos.{Pos}
use Rattle.grift_base.specs.declared.operators.PrimOp.TheVariants.{Add, Sub, Quot, Eq, PrintInt, MakeBox}
use Rattle.grift_base.specs.declared.operators.PrimOp.TheVariants.{BoxSet, Unbox}
use Rattle.grift_base.specs.declared.verdicts.AnswerKind.TheVariants.{Int as Number, Unit as UnitKind}
use Rattle.grift_base.specs.declared.verdicts.Trap.TheVariants.{ZeroDivisor}
use Rattle.grift_base.specs.declared.verdicts.Verdict.{Verdict}
use Rattle.grift_base.specs.declared.verdicts.Verdict.TheVariants.{Answer as AnswerVerdict, Blame, Trap as TrapVerdict}
use Rattle.cast_modes.specs.Modes.{TypeCast, type_cast, piling}
use Rattle.cast_modes.specs.AnswerTypes.{Told}
use Rattle.cast_modes.specs.Counting.{Counts}
use Rattle.flat_ir.specs.declared.code.Operand.{Operand}
use Rattle.flat_ir.specs.declared.code.Operand.TheVariants.{Local, Captured, Sibling, Int, Bool as BoolCase}
use Rattle.flat_ir.specs.declared.code.Operand.TheVariants.{Unit as UnitCase}
use Rattle.flat_ir.specs.declared.code.Operation.TheVariants.{Move, Prim, Cast, Tuple, Proj, ProjDyn}
use Rattle.flat_ir.specs.Bodies.{Body, Give, Call, Choose, LetBody, LetGroup, Proc}
use Rattle.flat_ir.specs.Closed.{is_closed}
use Rattle.flat_ir.specs.Counts.{flat_run_in}

abbrev types : TypeRows
types =
    IntRow ∷ BoolRow ∷ DynRow ∷ FunRow (0 ∷ []) 0 ∷ FunRow (2 ∷ []) 2 ∷ UnitRow ∷ RefRow 0 ∷ TupleRow (0 ∷ 0 ∷ []) ∷ []

abbrev in_line : ℕ → Pos
in_line line = record { line = line; col = 1 }

abbrev told : ℕ → Told
told answer = record { labels = in_line 1 ∷ in_line 2 ∷ in_line 3 ∷ []; types = types; answer = answer }

abbrev proc : ℕ → ℕ → ℕ → ℕ → Body → Proc
proc params captured group place body =
    record { params = params; captured = captured; group = group; place = place; body = body }

-- the procedure that a program begins with
abbrev entry : Body → Proc
entry body = proc 0 0 0 0 body

abbrev int : ℕ → Operand
int n = Int (pos n)

abbrev labelled : ℕ → LabelId
labelled label = record { 0 = label }

abbrev two : Operand → Operand → List Operand
two a b = a ∷ b ∷ []

abbrev number : ℕ → Verdict
number n = AnswerVerdict (record { kind = Number; word = pos n })

-- the program begins with the procedure of this number, is closed, and within 60 turns ends so, with this output and
-- these counts, where casts pile up
abbrev Ends : List TypeCast → List Proc → ℕ → ℕ → Verdict → List ℕ → Counts → Type 0
Ends casts procs first answer verdict output counts =
    (is_closed procs first ≡ true)
    × ((flat_run_in procs first (piling types casts) (told answer) [] 60).ending ≡ Some (EndsWith verdict))
    × ((flat_run_in procs first (piling types casts) (told answer) [] 60).output ≡ output)
    × ((flat_run_in procs first (piling types casts) (told answer) [] 60).shown ≡ counts)

abbrev counts : ℕ → ℕ → ℕ → Counts
counts words turns wraps = record { words = words; turns = turns; frames = 0; wraps = wraps }

-- ---- closed and not

-- a name of the same level twice
same_level : is_closed (entry (LetBody 0 (Give (Move (int 1))) (LetBody 0 (Give (Move (int 2)))
    (Give (Move (Local 0))))) ∷ []) 0 ≡ false
unfolding int_wrap
same_level = refl

-- a level is left out
level_left_out : is_closed (entry (LetBody 1 (Give (Move (int 1))) (Give (Move (Local 1)))) ∷ []) 0 ≡ false
level_left_out = refl

-- a name that only the other branch binds
other_branch : is_closed (entry (Choose (BoolCase true) (LetBody 0 (Give (Move (int 1))) (Give (Move (Local 0))))
    (Give (Move (Local 0)))) ∷ []) 0 ≡ false
unfolding int_wrap
other_branch = refl

-- the name of an inner body is not bound behind it
inner_name : is_closed (entry (LetBody 0 (LetBody 0 (Give (Move (int 1))) (Give (Move (Local 0))))
    (Give (Move (Local 1)))) ∷ []) 0 ≡ false
unfolding int_wrap
inner_name = refl

-- a tuple without parts
no_parts : is_closed (entry (Give (Tuple [])) ∷ []) 0 ≡ false
no_parts = refl

-- seven arguments
seven_arguments : is_closed (proc 1 0 1 0 (Give (Move (Local 0))) ∷ entry (LetGroup 0 0 1 [] (Call (Local 0)
    (int 1 ∷ int 1 ∷ int 1 ∷ int 1 ∷ int 1 ∷ int 1 ∷ int 1 ∷ []))) ∷ []) 1 ≡ false
unfolding int_wrap
seven_arguments = refl

-- a group of two of which the second is missing
half_a_group : is_closed (proc 1 0 2 0 (Give (Move (Local 0))) ∷ entry (LetGroup 0 0 2 [] (Give (Move UnitCase)))
    ∷ []) 1
    ≡ false
half_a_group = refl

-- a group that captures fewer values than its functions have names for
too_few_captured : is_closed (proc 1 1 1 0 (Give (Move (Captured 0))) ∷ entry (LetGroup 0 0 1 [] (Give (Move UnitCase)))
    ∷ []) 1 ≡ false
too_few_captured = refl

-- an integer of more than 64 bits
too_large : is_closed (entry (Give (Move (int 9223372036854775808))) ∷ []) 0 ≡ false
unfolding int_wrap
too_large = refl

-- an operator with eight operands, and with nine
eight_operands : is_closed (entry (Give (Prim Add (int 1 ∷ int 1 ∷ int 1 ∷ int 1 ∷ int 1 ∷ int 1 ∷ int 1 ∷ int 1 ∷ [])))
    ∷ []) 0 ≡ true
unfolding int_wrap
eight_operands = refl

nine_operands : is_closed (entry (Give (Prim Add
    (int 1 ∷ int 1 ∷ int 1 ∷ int 1 ∷ int 1 ∷ int 1 ∷ int 1 ∷ int 1 ∷ int 1 ∷ []))) ∷ []) 0 ≡ false
unfolding int_wrap
nine_operands = refl

-- a part of Dyn with the greatest label of 32 bits, and with the one behind it
greatest_label : is_closed (entry (Give (ProjDyn UnitCase (pos 0) (labelled 4294967295))) ∷ []) 0 ≡ true
unfolding int_wrap
greatest_label = refl

label_too_large : is_closed (entry (Give (ProjDyn UnitCase (pos 0) (labelled 4294967296))) ∷ []) 0 ≡ false
unfolding int_wrap
label_too_large = refl

-- the part of Dyn with the greatest number of 64 bits, and the one behind it
greatest_part : is_closed (entry (Give (ProjDyn UnitCase (pos 9223372036854775807) (labelled 0))) ∷ []) 0 ≡ true
unfolding int_wrap
greatest_part = refl

part_too_large : is_closed (entry (Give (ProjDyn UnitCase (pos 9223372036854775808) (labelled 0))) ∷ []) 0 ≡ false
unfolding int_wrap
part_too_large = refl

-- a program that begins with a function
begins_with_a_function : is_closed (proc 0 0 1 0 (Give (Move (int 1))) ∷ []) 0 ≡ false
begins_with_a_function = refl

-- ---- runs

-- a function keeps what it has captured: x is 10 in it, and its argument is 100
captured : Ends [] (proc 1 1 1 0 (Give (Prim Add (two (Captured 0) (Local 0))))
    ∷ entry (LetBody 0 (Give (Move (int 10))) (LetGroup 1 0 1 (Local 0 ∷ []) (Call (Local 1) (int 100 ∷ [])))) ∷ []) 1 0
    (number 110) [] (counts 3 8 0)
unfolding int_wrap
captured = (refl, refl, refl, refl)

-- two functions that know each other: 2 is even. The second word of each group's function is its code address
known_to_each_other : Ends []
    (proc 1 0 2 0 (LetBody 1 (Give (Prim Eq (two (Local 0) (int 0)))) (Choose (Local 1) (Give (Move (int 1)))
    (LetBody 2 (Give (Prim Sub (two (Local 0) (int 1)))) (Call (Sibling 1) (Local 2 ∷ [])))))
    ∷ proc 1 0 2 1 (LetBody 1 (Give (Prim Eq (two (Local 0) (int 0)))) (Choose (Local 1) (Give (Move (int 0)))
    (LetBody 2 (Give (Prim Sub (two (Local 0) (int 1)))) (Call (Sibling 0) (Local 2 ∷ [])))))
    ∷ entry (LetGroup 0 0 2 [] (Call (Local 0) (int 2 ∷ []))) ∷ []) 2 0 (number 1) [] (counts 4 29 0)
unfolding int_wrap
known_to_each_other = (refl, refl, refl, refl)

-- a function from Int to Int, wrapped as one from Dyn to Dyn, gives what is put into Dyn, and that comes out
wrapped : Ends (type_cast 3 0 4 ∷ type_cast 0 1 2 ∷ type_cast 2 2 0 ∷ [])
    (proc 1 0 1 0 (Give (Prim Add (two (Local 0) (int 1))))
    ∷ entry (LetGroup 0 0 1 [] (LetBody 1 (Give (Cast (Local 0) 0)) (LetBody 2 (Give (Cast (int 4) 1))
    (LetBody 3 (Call (Local 1) (Local 2 ∷ [])) (Give (Cast (Local 3) 2)))))) ∷ []) 1 0 (number 5) [] (counts 11 20 1)
unfolding int_wrap
wrapped = (refl, refl, refl, refl)

-- #t goes into Dyn under l0 and doesn't come out as an integer: l1 is blamed, while the cast of what was in Dyn waits
blamed : Ends (type_cast 1 0 2 ∷ type_cast 2 1 0 ∷ []) (entry (LetBody 0 (Give (Cast (BoolCase true) 0))
    (Give (Cast (Local 0) 1))) ∷ []) 0 0 (Blame (in_line 2)) []
    (record { words = 3; turns = 5; frames = 1; wraps = 0 })
blamed = (refl, refl, refl, refl)

-- a tuple's second part, which is 6; the tuple takes three words
second_part : Ends [] (entry (LetBody 0 (Give (Tuple (two (int 4) (int 6)))) (Give (Proj (Local 0) (pos 1)))) ∷ []) 0 0
    (number 6) [] (counts 3 4 0)
unfolding int_wrap
second_part = (refl, refl, refl, refl)

-- a box that is written and read: 7 is printed
written : Ends [] (entry (LetBody 0 (Give (Prim MakeBox (int 1 ∷ [])))
    (LetBody 1 (Give (Prim BoxSet (two (Local 0) (int 7))))
    (LetBody 2 (Give (Prim Unbox (Local 0 ∷ []))) (Give (Prim PrintInt (Local 2 ∷ [])))))) ∷ []) 0 5
    (AnswerVerdict (record { kind = UnitKind; word = pos 0 })) (codes "7") (counts 2 10 0)
unfolding digits int_wrap
written = (refl, refl, refl, refl)

-- a quotient by 0 traps
no_quotient : Ends [] (entry (Give (Prim Quot (two (int 1) (int 0)))) ∷ []) 0 0 (TrapVerdict ZeroDivisor) []
    (counts 0 1 0)
unfolding int_wrap
no_quotient = (refl, refl, refl, refl)

-- an answer that is not of the program's type goes wrong
other_type : (flat_run_in (entry (Give (Move (int 1))) ∷ []) 0 (piling types []) (told 1) [] 5).ending ≡ Some Wrong
other_type = refl
