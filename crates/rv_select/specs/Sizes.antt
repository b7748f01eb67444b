-- Code whose numbers are small enough to be selected, as a closed program has it.
use Rattle.std.specs.Prelude.{◌<◌, ◌≤◌, List, [], ◌∷◌, length}
use Rattle.low_ir.specs.Procedures.{Code, Done, Set, Compute, Load, Store, CodeOf, Build, Request, Take, Environment}
use Rattle.low_ir.specs.Procedures.{Call, CallAt, If, Return, TailCall, TailCallAt, Proc}

-- what is built has fewer than 256 words, an offset is below 2,048, and no call hands on more than eight words
abbrev pub HasSmallNumbers : Code → Type 0
HasSmallNumbers Done = Unit {0}
HasSmallNumbers (Set d a rest) = HasSmallNumbers rest
HasSmallNumbers (Compute op d a b rest) = HasSmallNumbers rest
HasSmallNumbers (Load d a offset rest) = (offset < 2048) × HasSmallNumbers rest
HasSmallNumbers (Store b a offset rest) = (offset < 2048) × HasSmallNumbers rest
HasSmallNumbers (CodeOf d k rest) = HasSmallNumbers rest
HasSmallNumbers (Build d args rest) = (length args < 256) × HasSmallNumbers rest
HasSmallNumbers (Request d a rest) = HasSmallNumbers rest
HasSmallNumbers (Take a rest) = HasSmallNumbers rest
HasSmallNumbers (Environment number a b d e rest) = HasSmallNumbers rest
HasSmallNumbers (Call d k args rest) = (length args ≤ 8) × HasSmallNumbers rest
HasSmallNumbers (CallAt d f args rest) = (length args ≤ 8) × HasSmallNumbers rest
HasSmallNumbers (If cond a b one other rest) = HasSmallNumbers one × HasSmallNumbers other × HasSmallNumbers rest
HasSmallNumbers (Return a) = Unit {0}
HasSmallNumbers (TailCall k args) = length args ≤ 8
HasSmallNumbers (TailCallAt f args) = length args ≤ 8

-- also it takes no more than eight words
abbrev pub IsSmall : Proc → Type 0
IsSmall p = (p.params ≤ 8) × HasSmallNumbers p.code

-- each procedure is so
abbrev pub AreSmall : List Proc → Type 0
AreSmall [] = Unit {0}
AreSmall (p ∷ ps) = IsSmall p × AreSmall ps
