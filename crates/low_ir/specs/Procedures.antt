-- Procedures of structured code over words.
use Rattle.std.specs.Prelude.{ℕ, List}
use Rattle.machine_words.specs.declared.conditions.Cond.{Cond}
use Rattle.low_ir.specs.declared.code.WordOp.{WordOp}
use Rattle.low_ir.specs.declared.code.LowSource.{LowSource}

-- the word that is set stands first, and what is done next last
pub data Code : Type 0 where
  -- goes on behind the branch that it ends
  Done : Code
  Set : ℕ → LowSource → Code → Code
  Compute : WordOp → ℕ → LowSource → LowSource → Code → Code
  -- an address and an offset
  Load : ℕ → LowSource → ℕ → Code → Code
  -- the word, an address and an offset
  Store : LowSource → LowSource → ℕ → Code → Code
  -- the code address of a procedure
  CodeOf : ℕ → ℕ → Code → Code
  -- these words are an object now, which begins where the word that is set says
  Build : ℕ → List LowSource → Code → Code
  -- asks for room for so many words, which begins at the allocation word
  Request : ℕ → LowSource → Code → Code
  -- the allocation word moves past so many words
  Take : LowSource → Code → Code
  -- the number of an environment call, two words, and the two words that are set where it goes on
  Environment : ℕ → LowSource → LowSource → ℕ → ℕ → Code → Code
  -- a procedure and the words that it takes
  Call : ℕ → ℕ → List LowSource → Code → Code
  -- a code address and the words that its procedure takes
  CallAt : ℕ → LowSource → List LowSource → Code → Code
  -- what is done where the condition holds of two words, and where not; both go on with what stands last
  If : Cond → LowSource → LowSource → Code → Code → Code → Code
  Return : LowSource → Code
  TailCall : ℕ → List LowSource → Code
  TailCallAt : LowSource → List LowSource → Code

-- a procedure: how many words it takes, how many it has, of which those are the first, and its code
pub record Proc : Type 0 where
  pub params : ℕ
  pub words : ℕ
  pub code : Code
