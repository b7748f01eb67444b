-- Bodies without their end.
use Rattle.std.specs.Prelude.{◌≡◌, List, [], ◌∷◌}
use Rattle.flat_ir.specs.Bodies.{Body, LetBody, LetGroup}
use Rattle.flat_ir.specs.Views.{body_of}
use Rattle.closure_convert.specs.declared.waits.Wait.{Wait}
use Rattle.closure_convert.specs.declared.waits.Wait.TheVariants.{Body as BodyWait, Group as GroupWait}

-- what is bound, and behind it a body
abbrev pub put : Wait → Body → Body
put (BodyWait slot inner) rest = LetBody slot (body_of inner) rest
put (GroupWait slot first count captured) rest = LetGroup slot first count captured rest

-- what is bound in order, and behind it a body
abbrev pub ahead : List Wait → Body → Body
ahead [] rest = rest
ahead (wait ∷ waits) rest = put wait (ahead waits rest)

-- what is bound is what was bound before, and behind it what is put in front of a body
abbrev pub Puts : List Wait → List Wait → (Body → Body) → Type 0
Puts before after front = (rest : Body) → ahead after rest ≡ ahead before (front rest)
