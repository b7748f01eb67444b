-- The code of apply: word 0 is a function with a proxy, words 1 to 6 are its arguments, word 7 is how many these are.
-- Which words objects have stands in `Words.antt` of object_layout.
use Rattle.std.specs.Prelude.{ℕ, zero, suc, ◌+◌, ◌*◌, List, [], ◌∷◌}
use Rattle.machine_words.specs.declared.conditions.Cond.TheVariants.{Eq}
use Rattle.low_ir.specs.declared.code.LowSource.{LowSource}
use Rattle.low_ir.specs.declared.code.LowSource.TheVariants.{Word, Number}
use Rattle.low_ir.specs.Procedures.{Code, Load, Call, CallAt, TailCall, Proc}
use Rattle.low_ir.specs.Codes.{proc, either, words_from}

-- so many words of arguments, behind those of the first k
abbrev pub argument_words : ℕ → ℕ → List LowSource
argument_words j k = words_from j (suc k)

-- told the procedure of casts, and what is done where all arguments are cast, by their number
module _ (cast : ℕ) (last : ℕ → Code) where
  -- k arguments are cast: the next one, if there is one, and what is done behind it
  abbrev pub cast_step : ℕ → Code → Code
  cast_step k rest =
      either Eq (Word 7) (Number k) (last k) (
      Load 11 (Word 9) (8 + 8 * k) (Call (suc k) cast (Word (suc k) ∷ Word 11 ∷ []) rest))

  -- k arguments are cast, and at most so many more are not
  abbrev pub cast_arguments : ℕ → ℕ → Code
  cast_arguments zero k = last k
  cast_arguments (suc j) k = cast_step k (cast_arguments j (suc k))

  -- word 8 becomes the function, word 9 the proxy's coercion, word 10 the function's code address
  abbrev pub unwrap_code : Code
  unwrap_code = Load 8 (Word 0) 8 (Load 9 (Word 0) 16 (Load 10 (Word 8) 8 (cast_arguments 6 0)))

module _ (cast : ℕ) where
  -- so many arguments are cast: the function is called, and its answer is cast by the last part of the coercion
  abbrev pub call_function : ℕ → Code
  call_function n =
      Load 11 (Word 9) (8 + 8 * n) (
      CallAt 12 (Word 10) (Word 8 ∷ argument_words n 0) (TailCall cast (Word 12 ∷ Word 11 ∷ [])))

  abbrev pub apply_code : Code
  apply_code = unwrap_code cast call_function

  abbrev pub apply_proc : Proc
  apply_proc = proc 8 13 apply_code
