-- Flat programs and what they are lowered to: the lowered program is closed, and its run ends as the flat one's.
use Rattle.std.proofs.Common.{◌≡◌, ℕ, ◌+◌, ◌*◌, List, [], ◌∷◌, length, Some, refl, true, pos}
use Rattle.std.specs.Prelude.{codes, slice_get, Option, None}
use Rattle.std.specs.Int.{int_wrap}
use Rattle.std.specs.Fmt.{digits}
use Rattle.run_laws.specs.Runs.{Run, Verdict as EndsWith}
use Rattle.run_laws.specs.Machines.{run}
use Rattle.grift_base.specs.EnvironmentCall.{environment_call}
use Rattle.grift_base.specs.Types.{TypeRow, TypeRows, IntRow, BoolRow, UnitRow}
use Rattle.grift_base.specs.declared.operators.PrimOp.TheVariants.{Add, Sub, Eq, PrintInt, MakeBox}
use Rattle.grift_base.specs.declared.operators.PrimOp.TheVariants.{BoxSet, Unbox, Not}
use Rattle.grift_base.specs.declared.verdicts.AnswerKind.{AnswerKind}
use Rattle.grift_base.specs.declared.verdicts.AnswerKind.TheVariants.{Int as IntKind, Unit as UnitKind}
use Rattle.grift_base.specs.declared.verdicts.AnswerKind.TheVariants.{Bool as BoolKind}
use Rattle.grift_base.specs.declared.verdicts.Verdict.{Verdict}
use Rattle.grift_base.specs.declared.verdicts.Verdict.TheVariants.{Answer}
use Rattle.cast_modes.specs.Modes.{piling}
use Rattle.cast_modes.specs.AnswerTypes.{Told}
use Rattle.machine_words.specs.Halts.{ending_of}
use Rattle.machine_words.specs.Memory.{load_bytes, store_bytes}
use Rattle.low_ir.specs.declared.code.LowSource.TheVariants.{Number}
use Rattle.low_ir.specs.Procedures.{Proc as LowProc, Return}
use Rattle.low_ir.specs.Run.{Setting, LowShown, low_machine, low_start}
use Rattle.low_ir.specs.Closed.{is_closed as low_is_closed}
use Rattle.flat_ir.specs.declared.code.Operand.{Operand}
use Rattle.flat_ir.specs.declared.code.Operand.TheVariants.{Local, Captured, Sibling, Int, Bool as BoolCase}
use Rattle.flat_ir.specs.declared.code.Operation.TheVariants.{Move, Prim, Tuple, Proj}
use Rattle.flat_ir.specs.Bodies.{Body, Give, Call, Choose, LetBody, LetGroup, Proc}
use Rattle.flat_ir.specs.Closed.{is_closed}
use Rattle.flat_ir.specs.Counts.{flat_run_in}
use Rattle.lowered_code.specs.declared.served.Served.{Served}
use Rattle.lowered_code.specs.Lowered.{lowered, entry_proc}
use Rattle.lower.specs.Sets.{numbered_from}

abbrev types : TypeRows
types = IntRow ∷ BoolRow ∷ UnitRow ∷ []

abbrev told : ℕ → Told
told answer = record { labels = []; types = types; answer = answer }

-- the numbers of the procedures that serve, from the first on
abbrev served : ℕ → Served
served first = numbered_from first (6 + first) (7 + first)

-- they take as many words as they are handed, and none of these programs calls one
abbrev unused : ℕ → LowProc
unused params = record { params = params; words = params; code = Return (Number 0) }

abbrev serving : List LowProc
serving = unused 2 ∷ unused 4 ∷ unused 8 ∷ unused 3 ∷ unused 4 ∷ unused 2 ∷ unused 2 ∷ unused 3 ∷ []

abbrev proc : ℕ → ℕ → ℕ → ℕ → Body → Proc
proc params captured group place body =
    record { params = params; captured = captured; group = group; place = place; body = body }

abbrev entry : Body → Proc
entry body = proc 0 0 0 0 body

abbrev int : ℕ → Operand
int n = Int (pos n)

abbrev two : Operand → Operand → List Operand
two a b = a ∷ b ∷ []

-- procedures at addresses from 4,096 on, a region of 80 bytes at 65,536
abbrev setting : List LowProc → Setting
setting procs = record { procs = procs; address = λ k. 4096 + 4 * k; labels = []; region = 65536; top = 65616 }

abbrev or_none : Option LowProc → LowProc
or_none (Some p) = p
or_none None = entry_proc 0 IntRow

-- the run of procedures over words, of which one is the first, for so many turns
abbrev low_run : List LowProc → ℕ → Run LowShown Verdict
low_run procs first =
    run (low_machine ending_of (setting procs))
    (low_start (setting procs) (or_none (slice_get procs first)) (λ a. 0)
    (record { output = []; input = []; place = 0 }))

-- Both programs are closed and end so, with this output: the flat one within 60 turns, the other within 200. The type
-- of the answer is that of a row.
abbrev Both : List Proc → ℕ → TypeRow → ℕ → Verdict → List ℕ → Type 0
Both procs first row answer verdict output =
    let lows = lowered (served (1 + length procs)) procs first row serving in
    let flat = flat_run_in procs first (piling types []) (told answer) [] in
    let low = low_run lows (length procs) in
    (is_closed procs first ≡ true) × (low_is_closed lows (length procs) ≡ true)
    × ((flat 60).ending ≡ Some (EndsWith verdict)) × ((low 200).ending ≡ Some (EndsWith verdict))
    × ((flat 60).output ≡ output) × ((low 200).output ≡ output)

abbrev answers : AnswerKind → ℕ → Verdict
answers kind n = Answer (record { kind = kind; word = pos n })

-- 4 + 6 - 3
sums : Both (entry (LetBody 0 (Give (Prim Add (two (int 4) (int 6)))) (Give (Prim Sub (two (Local 0) (int 3))))) ∷ [])
    0 IntRow 0 (answers IntKind 7) []
unfolding int_wrap environment_call
sums = (refl, refl, refl, refl, refl, refl)

-- a function keeps what it has captured: x is 10 in it, and its argument is 100
captured : Both (proc 1 1 1 0 (Give (Prim Add (two (Captured 0) (Local 0))))
    ∷ entry (LetBody 0 (Give (Move (int 10))) (LetGroup 1 0 1 (Local 0 ∷ []) (Call (Local 1) (int 100 ∷ [])))) ∷ []) 1
    IntRow 0 (answers IntKind 110) []
unfolding int_wrap environment_call load_bytes store_bytes
captured = (refl, refl, refl, refl, refl, refl)

-- two functions that know each other and have captured 0: the first asks the second about 1, which turns the answer of
-- the first on 0
known_to_each_other : Both
    (proc 1 1 2 0 (LetBody 1 (Give (Prim Eq (two (Local 0) (Captured 0)))) (Choose (Local 1)
    (Give (Move (BoolCase true))) (LetBody 2 (Give (Prim Sub (two (Local 0) (int 1))))
    (Call (Sibling 1) (Local 2 ∷ [])))))
    ∷ proc 1 1 2 1 (LetBody 1 (LetBody 1 (Give (Prim Eq (two (Local 0) (Captured 0)))) (Choose (Local 1)
    (Give (Move (BoolCase true))) (LetBody 2 (Give (Prim Sub (two (Local 0) (int 1))))
    (Call (Sibling 0) (Local 2 ∷ []))))) (Give (Prim Not (Local 1 ∷ []))))
    ∷ entry (LetBody 0 (Give (Move (int 0))) (LetGroup 1 0 2 (Local 0 ∷ []) (Call (Local 1) (int 2 ∷ [])))) ∷ []) 2
    BoolRow 1 (answers BoolKind 0) []
unfolding int_wrap environment_call load_bytes store_bytes
known_to_each_other = (refl, refl, refl, refl, refl, refl)

-- a tuple's second part, which is 6
second_part : Both (entry (LetBody 0 (Give (Tuple (two (int 4) (int 6)))) (Give (Proj (Local 0) (pos 1)))) ∷ []) 0
    IntRow 0 (answers IntKind 6) []
unfolding int_wrap environment_call load_bytes store_bytes
second_part = (refl, refl, refl, refl, refl, refl)

-- a box that is written and read: 7 is printed
written : Both (entry (LetBody 0 (Give (Prim MakeBox (int 1 ∷ []))) (LetBody 1
    (Give (Prim BoxSet (two (Local 0) (int 7)))) (LetBody 2 (Give (Prim Unbox (Local 0 ∷ [])))
    (Give (Prim PrintInt (Local 2 ∷ [])))))) ∷ []) 0 UnitRow 2 (answers UnitKind 0) (codes "7")
unfolding digits int_wrap environment_call load_bytes store_bytes
written = (refl, refl, refl, refl, refl, refl)
