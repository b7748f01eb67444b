-- Paths: a type, and steps from it, each with a label and the type that it leads to.
use Rattle.std.specs.Prelude.{ℕ, Bool, true, false, cond, Option, Some, None}
use Rattle.grift_base.specs.Types.{TypeRow, is_dyn, same_head}

pub data Steps : Type 0 where
  Stop : Steps
  -- a label, the type that the edge leads to, and the steps from there
  Edge : ℕ → ℕ → Steps → Steps

-- the last type of a path
abbrev pub last_type : ℕ → Steps → ℕ
last_type type Stop = type
last_type type (Edge label next steps) = last_type next steps

-- steps and further steps
abbrev pub joined : Steps → Steps → Steps
joined Stop more = more
joined (Edge label next steps) more = Edge label next (joined steps more)

-- the steps of a path backwards, in front of others; they begin at the path's last type
abbrev pub turned : ℕ → Steps → Steps → Steps
turned type Stop others = others
turned type (Edge label next steps) others = turned next steps (Edge label type others)

-- the steps with other types
abbrev pub along : (ℕ → ℕ) → Steps → Steps
along part Stop = Stop
along part (Edge label next steps) = Edge label (part next) (along part steps)

-- an edge in front of steps, unless it is left out
abbrev pub in_front : Bool → ℕ → ℕ → Steps → Steps
in_front true label next steps = steps
in_front false label next steps = Edge label next steps

module _ (rows : ℕ → TypeRow) where
  -- the steps without Dyn: a type that stays keeps the label of the edge that leads to it
  abbrev pub solid : Steps → Steps
  solid Stop = Stop
  solid (Edge label next steps) = in_front (is_dyn (rows next)) label next (solid steps)

  -- the label of the first edge between different heads
  abbrev pub first_clash : ℕ → Steps → Option ℕ
  first_clash type Stop = None
  first_clash type (Edge label next steps) =
      cond (same_head (rows type) (rows next)) (first_clash next steps) (Some label)
