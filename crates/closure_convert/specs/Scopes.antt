-- What the names of a function have become while it is converted. Names that are bound in it have operands; others are
-- captured, and numbered as they are met.
use Rattle.std.specs.Prelude.{◌≡◌, ℕ, nat_eq, true, cond, List, [], ◌∷◌, ◌++◌, Option, Some, None, is_some}
use Rattle.indexmap.specs.IndexMap.{get}
use Rattle.core_calc.specs.Substitution.{is_among}
use Rattle.flat_ir.specs.declared.code.Operand.{Operand}
use Rattle.closure_convert.specs.declared.names.Meaning.{Meaning}
use Rattle.closure_convert.specs.declared.names.Names.{Names}
use Rattle.closure_convert.specs.Conversion.{Scope, captured_scope}

-- the operands of the names that are bound
abbrev pub known : Names → Scope
known names name = get nat_eq names.bound name

-- a name gets this meaning, or none
abbrev pub set_meaning : ℕ → Option Operand → Scope → Scope
set_meaning name meaning scope other = cond (nat_eq other name) meaning (scope other)

-- what was known before these names were bound, the last of them last
abbrev pub undone : List Meaning → Scope → Scope
undone [] scope = scope
undone (meaning ∷ rest) scope = set_meaning meaning.name meaning.operand (undone rest scope)

-- what is bound in a function, or else what is known outside it
abbrev pub or_else : Option Operand → Option Operand → Option Operand
or_else (Some o) other = Some o
or_else None other = other

abbrev pub over : Scope → Scope → Scope
over scope outer name = or_else (scope name) (outer name)

-- outside a function its captured names, as far as they are found, are those of this list
pub record Reaches (captured : List ℕ) (outer : Scope) : Type 0 where
  pub at : (name : ℕ) → is_among name captured ≡ true → outer name ≡ captured_scope captured name

-- these names, and this one last where it is not there
abbrev pub with_name : List ℕ → ℕ → List ℕ
with_name names name = cond (is_among name names) names (names ++ name ∷ [])

-- the captured names, where a name is met that is captured unless it is bound
abbrev pub with_free : Scope → List ℕ → ℕ → List ℕ
with_free scope captured name = cond (is_some (scope name)) captured (with_name captured name)

-- and where several are met
abbrev pub with_all_free : Scope → List ℕ → List ℕ → List ℕ
with_all_free scope captured [] = captured
with_all_free scope captured (name ∷ rest) = with_all_free scope (with_free scope captured name) rest
