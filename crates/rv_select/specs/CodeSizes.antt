-- How large a code is, and which words it sets.
use Rattle.std.specs.Prelude.{ℕ, ◌+◌, ◌==◌, ◌||◌, Bool, false}
use Rattle.low_ir.specs.Procedures.{Code, Done, Set, Compute, Load, Store, CodeOf, Build, Request, Take, Environment}
use Rattle.low_ir.specs.Procedures.{Call, CallAt, If, Return, TailCall, TailCallAt}

-- how many operations a code has, those of its branches and its ends among them
abbrev pub code_size : Code → ℕ
code_size Done = 1
code_size (Set d a rest) = 1 + code_size rest
code_size (Compute op d a b rest) = 1 + code_size rest
code_size (Load d a offset rest) = 1 + code_size rest
code_size (Store b a offset rest) = 1 + code_size rest
code_size (CodeOf d k rest) = 1 + code_size rest
code_size (Build d args rest) = 1 + code_size rest
code_size (Request d a rest) = 1 + code_size rest
code_size (Take a rest) = 1 + code_size rest
code_size (Environment number a b d e rest) = 1 + code_size rest
code_size (Call d k args rest) = 1 + code_size rest
code_size (CallAt d f args rest) = 1 + code_size rest
code_size (If cond a b one other rest) = 1 + code_size one + code_size other + code_size rest
code_size (Return a) = 1
code_size (TailCall k args) = 1
code_size (TailCallAt f args) = 1

-- whether a code sets a word
abbrev pub sets_word : ℕ → Code → Bool
sets_word i Done = false
sets_word i (Set d a rest) = (i == d) || sets_word i rest
sets_word i (Compute op d a b rest) = (i == d) || sets_word i rest
sets_word i (Load d a offset rest) = (i == d) || sets_word i rest
sets_word i (Store b a offset rest) = sets_word i rest
sets_word i (CodeOf d k rest) = (i == d) || sets_word i rest
sets_word i (Build d args rest) = (i == d) || sets_word i rest
sets_word i (Request d a rest) = (i == d) || sets_word i rest
sets_word i (Take a rest) = sets_word i rest
sets_word i (Environment number a b d e rest) = (i == d) || ((i == e) || sets_word i rest)
sets_word i (Call d k args rest) = (i == d) || sets_word i rest
sets_word i (CallAt d f args rest) = (i == d) || sets_word i rest
sets_word i (If cond a b one other rest) = sets_word i one || (sets_word i other || sets_word i rest)
sets_word i (Return a) = false
sets_word i (TailCall k args) = false
sets_word i (TailCallAt f args) = false
