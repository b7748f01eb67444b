-- What holds of code that was made, when something is put in front of it.
use Rattle.std.proofs.Common.{◌≡◌}
use Rattle.std.specs.Prelude.{Result, Ok, Err, IfOk}
use Rattle.std.specs.Global.{Box}
use Rattle.low_ir.specs.declared.code.LowCode.{LowCode}
use Rattle.low_ir.specs.Procedures.{Code}
use Rattle.low_ir.specs.Views.{code_of}
use Rattle.low_ir.specs.Codes.{Extends}

-- what holds of the rest leads to what holds of the whole
pub extended : {E : Type 0} (rest result : Result (Box LowCode) E) (front : Code → Code) (Of Then : Code → Type 0)
    → ((old new : Code) → Of old → new ≡ front old → Then new) → IfOk rest (λ r. Of (code_of r.value))
    → Extends rest result front → IfOk result (λ made. Then (code_of made.value))
extended (Ok r) (Ok made) front Of Then leads of is = leads (code_of r.value) (code_of made.value) of is
extended (Err e) (Ok made) front Of Then leads of is = absurd is
extended (Ok r) (Err e) front Of Then leads of is = tt
extended (Err e) (Err f) front Of Then leads of is = tt
