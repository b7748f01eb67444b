-- The items of the first step of a code, and what the code does behind that step.
use Rattle.std.specs.Prelude.{ℕ, ◌+◌, List, [], ◌∷◌, Option, Some, None}
use Rattle.low_ir.specs.Procedures.{Code, Done, Set, Compute as LowCompute, Load as LowLoad, Store as LowStore}
use Rattle.low_ir.specs.Procedures.{CodeOf as LowCodeOf, Build, Request, Take, Environment as LowEnvironment}
use Rattle.low_ir.specs.Procedures.{Call as LowCall, CallAt as LowCallAt, If, Return as LowReturn}
use Rattle.low_ir.specs.Procedures.{TailCall as LowTailCall, TailCallAt as LowTailCallAt}
use Rattle.rv_select.specs.declared.convention.TheConstants.{ANSWER}
use Rattle.rv_select.specs.declared.code.VReg.TheVariants.{Real, Virtual}
use Rattle.rv_select.specs.declared.code.VirtualItem.{VirtualItem}
use Rattle.rv_select.specs.declared.code.VirtualItem.TheVariants.{Return}
use Rattle.rv_select.specs.Select.{put_item, compute_items, load_items, store_items, build_items, request_items}
use Rattle.rv_select.specs.Select.{take_items, environment_items, call_items, call_at_items, tail_call_items}
use Rattle.rv_select.specs.Select.{tail_call_at_items}

-- told the first register of the procedure and the mark behind which a request finds no room; a branch
-- and a code address are put otherwise
module _ (first out : ℕ) where
  abbrev pub step_items : Code → List VirtualItem
  step_items Done = []
  step_items (Set d a rest) = put_item first (Virtual (first + d)) a ∷ []
  step_items (LowCompute op d a b rest) = compute_items first op d a b []
  step_items (LowLoad d a offset rest) = load_items first d a offset []
  step_items (LowStore b a offset rest) = store_items first b a offset []
  step_items (LowCodeOf d k rest) = []
  step_items (Build d args rest) = build_items first out d args []
  step_items (Request d a rest) = request_items first out d a []
  step_items (Take a rest) = take_items first a []
  step_items (LowEnvironment number a b d e rest) = environment_items first number a b d e []
  step_items (LowCall d k args rest) = call_items first d k args []
  step_items (LowCallAt d f args rest) = call_at_items first d f args []
  step_items (If cond a b one other rest) = []
  step_items (LowReturn a) = put_item first (Real ANSWER) a ∷ Return ∷ []
  step_items (LowTailCall k args) = tail_call_items first k args
  step_items (LowTailCallAt f args) = tail_call_at_items first f args

-- none where the first step is the last, a branch or a code address
abbrev pub later : Code → Option Code
later (Set d a rest) = Some rest
later (LowCompute op d a b rest) = Some rest
later (LowLoad d a offset rest) = Some rest
later (LowStore b a offset rest) = Some rest
later (Build d args rest) = Some rest
later (Request d a rest) = Some rest
later (Take a rest) = Some rest
later (LowEnvironment number a b d e rest) = Some rest
later (LowCall d k args rest) = Some rest
later (LowCallAt d f args rest) = Some rest
later c = None
