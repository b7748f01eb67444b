-- Let-normal bodies and procedures.
use Rattle.std.specs.Prelude.{ℕ, List}
use Rattle.flat_ir.specs.declared.code.Operand.{Operand}
use Rattle.flat_ir.specs.declared.code.Operation.{Operation}

pub data Body : Type 0 where
  -- gives the value of an operation
  Give : Operation → Body
  -- gives what a call of a function with these arguments gives
  Call : Operand → List Operand → Body
  -- the first body where an operand is true, the second where it is false
  Choose : Operand → Body → Body → Body
  -- the value of the first body gets this local name in the second
  LetBody : ℕ → Body → Body → Body
  -- the functions of a group get the local names from this one on in the body; their first procedure, how many they
  -- are, and what they capture
  LetGroup : ℕ → ℕ → ℕ → List Operand → Body → Body

pub record Proc : Type 0 where
  pub params : ℕ
  -- how many names it has captured
  pub captured : ℕ
  -- how many functions its group has, and its place among them
  pub group : ℕ
  pub place : ℕ
  pub body : Body
