-- Names for what procedures are written with: a procedure, one of two codes, words in their order, a label that is
-- blamed, and a trap; and what is made of codes that were made.
use Rattle.std.specs.Prelude.{◌≡◌, ℕ, zero, suc, List, [], ◌∷◌, Result, IfOk, IsOkAnd}
use Rattle.std.specs.Global.{Box}
use Rattle.grift_base.specs.declared.environment.TheConstants.{BLAME_CALL, TRAP_CALL}
use Rattle.grift_base.specs.declared.verdicts.Trap.{Trap}
use Rattle.grift_base.specs.Trap.{trap_number}
use Rattle.machine_words.specs.declared.conditions.Cond.{Cond}
use Rattle.low_ir.specs.declared.code.LowCode.{LowCode}
use Rattle.low_ir.specs.declared.code.LowSource.{LowSource}
use Rattle.low_ir.specs.declared.code.LowSource.TheVariants.{Number, Word}
use Rattle.low_ir.specs.Procedures.{Code, Done, Environment, If, Return, Proc}
use Rattle.low_ir.specs.Views.{code_of}

-- takes so many words and has so many
abbrev pub proc : ℕ → ℕ → Code → Proc
proc params words code = record { params = params; words = words; code = code }

-- one or the other, with no code behind
abbrev pub either : Cond → LowSource → LowSource → Code → Code → Code
either cond a b one other = If cond a b one other Done

-- so many words from one on
abbrev pub words_from : ℕ → ℕ → List LowSource
words_from zero k = []
words_from (suc j) k = Word k ∷ words_from j (suc k)

-- a label is blamed, by a call whose answers would go to words 4 and 5
abbrev pub blame_code : LowSource → Code
blame_code label = Environment BLAME_CALL label (Number 0) 4 5 (Return (Number 0))

-- the trap, by a call whose answers would go to these two words
abbrev pub trap_code : Trap → ℕ → ℕ → Code
trap_code trap d e = Environment TRAP_CALL (Number (trap_number trap)) (Number 0) d e (Return (Number 0))

-- the second code, where it was made, is what was made first with something in front of it
abbrev pub Extends : {E : Type 0} → Result (Box LowCode) E → Result (Box LowCode) E → (Code → Code) → Type 0
Extends rest result front = IfOk result (λ made. IsOkAnd rest (λ r. code_of made.value ≡ front (code_of r.value)))

-- a code, where it was made, is made of two that were made
abbrev pub Joins : {E : Type 0} → Result (Box LowCode) E × Result (Box LowCode) E → Result (Box LowCode) E
    → (Code → Code → Code) → Type 0
Joins branches result of_both =
    IfOk result (λ made. IsOkAnd branches.0 (λ one. IsOkAnd branches.1 (λ other.
    code_of made.value ≡ of_both (code_of one.value) (code_of other.value))))

-- a code, where it was made, is made of two that were made and of what is done behind them
abbrev pub Chooses : {E : Type 0} → Result (Box LowCode) E × Result (Box LowCode) E → Result (Box LowCode) E
    → Result (Box LowCode) E → (Code → Code → Code → Code) → Type 0
Chooses branches rest result of_all =
    IfOk result (λ made. IsOkAnd branches.0 (λ one. IsOkAnd branches.1 (λ other. IsOkAnd rest (λ r.
    code_of made.value ≡ of_all (code_of one.value) (code_of other.value) (code_of r.value)))))
