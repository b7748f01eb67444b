-- What bodies, bindings and operands are gathered in, and what is then left to do.
use Rattle.std.specs.Prelude.{ℕ, List, Option}
use Rattle.grift_base.specs.declared.places.Pos.{Pos}
use Rattle.grift_base.specs.declared.operators.PrimOp.{PrimOp}
use Rattle.grift_base.specs.Types.{FunRow}
use Rattle.type_graph.specs.Forming.{intern}
use Rattle.core_calc.specs.Terms.{Lambda, Prim}
use Rattle.core_calc.specs.Views.{term_of, terms_of, bindings_of, names_of}
use Rattle.surface_trees.specs.Trees.{TypeExpr, Expr, Exprs}
use Rattle.cast_insert.specs.declared.elaboration.Sequence.{Sequence as RustSequence}
use Rattle.cast_insert.specs.declared.elaboration.Bound.{Bound as RustBound}
use Rattle.cast_insert.specs.declared.elaboration.Gathered.{Gathered}
use Rattle.cast_insert.specs.declared.elaboration.MemberBody.{MemberBody as RustMemberBody}
use Rattle.cast_rules.specs.Sources.{last_place, place_of}
use Rattle.cast_rules.specs.Making.{Making, ◌>>=◌, give, form, Typed, typed, cast_if, cast_to, written_if}
use Rattle.cast_rules.specs.Environments.{Environment, with_names, variables}
use Rattle.cast_rules.specs.Elaboration.{Sequence, seq, Bound, Operands, MemberBody, elaborate, elaborate_sequence}
use Rattle.cast_rules.specs.Operators.{answer_of, answer_type}
use Rattle.insert_steps.specs.Scoped.{env_of}
use Rattle.insert_steps.specs.Views.{place_if}

abbrev pub sequence_of : RustSequence → Sequence
sequence_of sequence = record { terms = terms_of sequence.terms; type = sequence.ty.0 }

abbrev pub bound_of : RustBound → Bound
bound_of bound = record { bindings = bindings_of bound.bindings; entries = env_of bound.names.items }

abbrev pub gathered_of : Gathered → Operands
gathered_of gathered = record { terms = terms_of gathered.terms; content = place_if gathered.content }

abbrev pub body_of : RustMemberBody → MemberBody
body_of body = record { variables = names_of body.variables; body = term_of body.body.value }

-- the value of a binding, at its written type if it has one
abbrev pub bound_value : Option TypeExpr → Expr → Environment → Making Typed
bound_value own value environment = do
  e ← elaborate value environment
  wanted ← written_if own
  cast_if (place_of value) wanted e

-- a function of these parameters with this body
abbrev pub function_of : Environment → List ℕ → Typed → Making Typed
function_of entries types e = do
  type ← form (intern (FunRow types e.type))
  give (typed (Lambda (variables entries) e.term type) type)

-- what is left of a lambda when its parameters are bound
abbrev pub lambda_rest : Pos → Exprs → List ℕ → Option ℕ → Environment → Environment → Making Typed
lambda_rest place body types wanted entries environment = do
  inner ← elaborate_sequence body (with_names entries environment)
  e ← cast_if (last_place place body) wanted (seq inner)
  type ← form (intern (FunRow types e.type))
  give (typed (Lambda (variables entries) e.term type) type)

-- what is left of a lambda, and of a member, when its body is there
abbrev pub lambda_with : Pos → Option ℕ → Environment → List ℕ → Sequence → Making Typed
lambda_with place wanted entries types inner = do
  e ← cast_if place wanted (seq inner)
  type ← form (intern (FunRow types e.type))
  give (typed (Lambda (variables entries) e.term type) type)

abbrev pub member_with : Pos → ℕ → Environment → Sequence → Making MemberBody
member_with place answer entries inner = do
  e ← cast_to place answer (seq inner)
  give (record { variables = variables entries; body = e.term })

-- an operator on operands that are there
abbrev pub operation_on : PrimOp → Operands → Making Typed
operation_on operator given = do
  type ← answer_type (answer_of operator) given.content
  give (typed (Prim operator given.terms) type)
