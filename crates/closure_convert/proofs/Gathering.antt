-- What is bound in front of a body, gathered one after another.
use Rattle.std.proofs.Common.{◌≡◌, List, [], ◌∷◌, ◌++◌, refl, ap, sym, ◌∙◌}
use Rattle.flat_ir.specs.Bodies.{Body}
use Rattle.closure_convert.specs.declared.waits.Wait.{Wait}
use Rattle.closure_convert.specs.Waits.{put, ahead}

-- what is bound last stands right before what follows
pub ahead_more : (waits : List Wait) (wait : Wait) (rest : Body)
    → ahead (waits ++ wait ∷ []) rest ≡ ahead waits (put wait rest)
ahead_more [] wait rest = refl
ahead_more (w ∷ waits) wait rest = ap (put w) (ahead_more waits wait rest)

-- what is bound last, taken off, stands in front of the body behind
pub ahead_popped : (all waits : List Wait) (wait : Wait) (rest : Body) → all ≡ waits ++ wait ∷ []
    → ahead waits (put wait rest) ≡ ahead all rest
ahead_popped all waits wait rest same = sym (ap (λ w. ahead w rest) same ∙ ahead_more waits wait rest)
