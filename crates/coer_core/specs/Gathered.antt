-- What is gathered from a term of the calculus, in order.
use Rattle.std.specs.Prelude.{ℕ, ℤ, List, [], ◌++◌}
use Rattle.grift_base.specs.declared.operators.PrimOp.{PrimOp}
use Rattle.core_calc.specs.Terms.{Term, Terms, Members, Bindings, IntLit, BoolLit, UnitLit, Var, Lambda, Group, Let}
use Rattle.core_calc.specs.Terms.{Call, Enter, If, Seq, Cast, Proj, ProjDyn, Tuple, Prim, ValueTerm, NoTerms, TermThen}
use Rattle.core_calc.specs.Terms.{NoMembers, MemberThen, NoBindings, BindingThen}

-- what is gathered from a cast with its types and its label, from a part of Dyn with its label, from an operator and
-- from an entered call, each told what is gathered from the terms in it
pub record Gathers (A : Type 0) : Type 0 where
  pub cast : ℕ → ℕ → ℕ → List A → List A
  pub part : ℤ → ℕ → List A → List A
  pub operation : PrimOp → List A → List A
  pub entered : List A → List A

-- from other forms, what is gathered from the terms in them; from values nothing
abbrev mutual
  pub gathered : {A : Type 0} → Gathers A → Term → List A
  gathered g (IntLit n) = []
  gathered g (BoolLit b) = []
  gathered g UnitLit = []
  gathered g (Var name) = []
  gathered g (Lambda parameters body type) = gathered g body
  gathered g (Group members body) = gathered_of_members g members ++ gathered g body
  gathered g (Let bindings body) = gathered_of_bindings g bindings ++ gathered g body
  gathered g (Call function arguments) = gathered g function ++ gathered_of_all g arguments
  gathered g (Enter function arguments) = g.entered (gathered g function ++ gathered_of_all g arguments)
  gathered g (If condition on_true on_false) = gathered g condition ++ (gathered g on_true ++ gathered g on_false)
  gathered g (Seq terms) = gathered_of_all g terms
  gathered g (Cast term from to label) = g.cast from to label (gathered g term)
  gathered g (Proj term k) = gathered g term
  gathered g (ProjDyn term k label) = g.part k label (gathered g term)
  gathered g (Tuple parts) = gathered_of_all g parts
  gathered g (Prim operator operands) = g.operation operator (gathered_of_all g operands)
  gathered g (ValueTerm v) = []

  pub gathered_of_all : {A : Type 0} → Gathers A → Terms → List A
  gathered_of_all g NoTerms = []
  gathered_of_all g (TermThen term rest) = gathered g term ++ gathered_of_all g rest

  pub gathered_of_members : {A : Type 0} → Gathers A → Members → List A
  gathered_of_members g NoMembers = []
  gathered_of_members g (MemberThen name parameters body type rest) = gathered g body ++ gathered_of_members g rest

  pub gathered_of_bindings : {A : Type 0} → Gathers A → Bindings → List A
  gathered_of_bindings g NoBindings = []
  gathered_of_bindings g (BindingThen name bound rest) = gathered g bound ++ gathered_of_bindings g rest
