-- Steps that are gathered one after another.
use Rattle.std.proofs.Common.{◌≡◌, List, [], ◌∷◌, ◌++◌, refl, ap, sym, ◌∙◌}
use Rattle.std.specs.Prelude.{Result, Ok, Err, IfOk, IsOkAnd}
use Rattle.std.specs.Global.{Box}
use Rattle.low_ir.specs.declared.code.LowCode.{LowCode}
use Rattle.low_ir.specs.Codes.{Extends}
use Rattle.low_ir.specs.Procedures.{Code}
use Rattle.low_ir.specs.Views.{code_of}
use Rattle.lowered_code.specs.declared.steps.Step.{Step}
use Rattle.lowered_code.specs.Steps.{put, ahead, Adds}

-- one step more at the end stands right before what follows
pub ahead_more : (steps : List Step) (step : Step) (k : Code) → ahead (steps ++ step ∷ []) k ≡ ahead steps (put step k)
ahead_more [] step k = refl
ahead_more (s ∷ steps) step k = ap (put s) (ahead_more steps step k)

-- what is added after what was added
pub adds_then : (a b c : List Step) (f g : Code → Code) → Adds a b f → Adds b c g → Adds a c (λ k. f (g k))
adds_then a b c f g first second k = second k ∙ first (g k)

-- the last step, taken off, stands in front of the code behind
pub ahead_popped : (all steps : List Step) (step : Step) (k : Code) → all ≡ steps ++ step ∷ []
    → ahead steps (put step k) ≡ ahead all k
ahead_popped all steps step k same = sym (ap (λ s. ahead s k) same ∙ ahead_more steps step k)

-- the same of code that was made: it stands in front of what was made behind
pub made_popped : {E : Type 0} (end rest made : Result (Box LowCode) E) (whole all steps : List Step) (step : Step)
    → all ≡ steps ++ step ∷ []
    → IfOk rest (λ r. IsOkAnd end (λ e. ahead all (code_of r.value) ≡ ahead whole (code_of e.value)))
    → Extends rest made (put step)
    → IfOk made (λ m. IsOkAnd end (λ e. ahead steps (code_of m.value) ≡ ahead whole (code_of e.value)))
made_popped (Ok e) (Ok r) (Ok m) whole all steps step same so is =
    ap (λ k. ahead steps k) is ∙ (ahead_popped all steps step (code_of r.value) same ∙ so)
made_popped (Err e) (Ok r) (Ok m) whole all steps step same so is = absurd so
made_popped end (Err r) (Ok m) whole all steps step same so is = absurd is
made_popped end rest (Err m) whole all steps step same so is = tt
