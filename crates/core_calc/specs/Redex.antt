-- The next redex of a term: the part of it that takes the step, what stands round that part, and how many nodes do.
use Rattle.std.specs.Prelude.{◌≡◌, ℕ, suc, List, [], ◌∷◌, Option, Some, None}
use Rattle.core_calc.specs.Terms.{Term, Terms, Bindings, Value, IntLit, BoolLit, UnitLit, Var, Lambda, Group, Let, Call}
use Rattle.core_calc.specs.Terms.{Enter, If, Seq, Cast, Proj, ProjDyn, Tuple, Prim, ValueTerm, NoTerms, TermThen}
use Rattle.core_calc.specs.Terms.{NoBindings, BindingThen, WrapValue, as_value, term_list, all_values, bound_values}
use Rattle.core_calc.specs.Calculus.{CalcState}

-- a redex inside a term, inside terms or inside bindings: the redex, the whole with another term in the redex's place,
-- and the number of nodes strictly above it
pub record Focus (A : Type 0) : Type 0 where
  pub redex : Term
  pub around : Term → A
  pub above : ℕ

-- the term itself is the redex
abbrev pub here : Term → Focus Term
here term = record { redex = term; around = λ next. next; above = 0 }

-- one node further down
abbrev pub below : {A B : Type 0} → (A → B) → Focus A → Focus B
below place f = record { redex = f.redex; around = λ next. place (f.around next); above = suc f.above }

-- further along among operands, which is no node
abbrev pub along : {A B : Type 0} → (A → B) → Focus A → Focus B
along place f = record { redex = f.redex; around = λ next. place (f.around next); above = f.above }

-- the first where there is something, and else the second
abbrev pub where_some : {A B : Type 0} → Option A → B → B → B
where_some (Some a) x y = x
where_some None x y = y

-- of an Enter: a function seen through a cast is unwrapped at once, whatever its arguments are
abbrev pub enter_focus : Option Value → Focus Term → Focus Term → Focus Term
enter_focus (Some (WrapValue v from label to)) whole inner = whole
enter_focus (Some v) whole inner = inner
enter_focus None whole inner = whole

-- ---- which parts are evaluated

-- an Enter evaluates its arguments, but none where its function is seen through a cast
abbrev pub entered_parts : Option Value → Terms → List Term
entered_parts (Some (WrapValue v from label to)) arguments = []
entered_parts (Some v) arguments = term_list arguments
entered_parts None arguments = []

abbrev pub bound_terms : Bindings → List Term
bound_terms NoBindings = []
bound_terms (BindingThen name bound rest) = bound ∷ bound_terms rest

-- the parts that a term evaluates, from left to right, before it takes a step itself; a sequence evaluates its first
-- term where more stand behind it
abbrev pub evaluated_parts : Term → List Term
evaluated_parts (Let bindings body) = bound_terms bindings
evaluated_parts (Call function arguments) = function ∷ term_list arguments
evaluated_parts (Enter function arguments) = entered_parts (as_value function) arguments
evaluated_parts (If condition on_true on_false) = condition ∷ []
evaluated_parts (Seq (TermThen term (TermThen second rest))) = term ∷ []
evaluated_parts (Cast term from to label) = term ∷ []
evaluated_parts (Proj term k) = term ∷ []
evaluated_parts (ProjDyn term k label) = term ∷ []
evaluated_parts (Tuple parts) = term_list parts
evaluated_parts (Prim operator operands) = term_list operands
evaluated_parts _ = []

-- the first of these terms that is no value
abbrev pub first_unevaluated : List Term → Option Term
first_unevaluated [] = None
first_unevaluated (term ∷ rest) = where_some (as_value term) (first_unevaluated rest) (Some term)

-- ---- the redex, what stands round it, and the nodes above it

-- parts are evaluated from left to right; a term whose parts are values is the redex itself
abbrev mutual
  pub focus : Term → Focus Term
  focus (IntLit n) = here (IntLit n)
  focus (BoolLit b) = here (BoolLit b)
  focus UnitLit = here UnitLit
  focus (ValueTerm v) = here (ValueTerm v)
  focus (Var name) = here (Var name)
  focus (Lambda parameters body type) = here (Lambda parameters body type)
  focus (Group members body) = here (Group members body)
  focus (Let bindings body) =
      where_some (bound_values bindings) (here (Let bindings body))
      (below (λ next. Let next body) (focus_bindings bindings))
  focus (Call function arguments) =
      where_some (as_value function)
      (where_some (all_values arguments) (here (Call function arguments))
      (below (Call function) (focus_terms arguments)))
      (below (λ next. Call next arguments) (focus function))
  focus (Enter function arguments) =
      enter_focus (as_value function) (here (Enter function arguments))
      (where_some (all_values arguments) (here (Enter function arguments))
      (below (Enter function) (focus_terms arguments)))
  focus (If condition on_true on_false) =
      where_some (as_value condition) (here (If condition on_true on_false))
      (below (λ next. If next on_true on_false) (focus condition))
  focus (Seq NoTerms) = here (Seq NoTerms)
  focus (Seq (TermThen term NoTerms)) = here (Seq (TermThen term NoTerms))
  focus (Seq (TermThen term (TermThen second rest))) =
      where_some (as_value term) (here (Seq (TermThen term (TermThen second rest))))
      (below (λ next. Seq (TermThen next (TermThen second rest))) (focus term))
  focus (Cast term from to label) =
      where_some (as_value term) (here (Cast term from to label)) (below (λ next. Cast next from to label) (focus term))
  focus (Proj term k) = where_some (as_value term) (here (Proj term k)) (below (λ next. Proj next k) (focus term))
  focus (ProjDyn term k label) =
      where_some (as_value term) (here (ProjDyn term k label)) (below (λ next. ProjDyn next k label) (focus term))
  focus (Tuple parts) = where_some (all_values parts) (here (Tuple parts)) (below Tuple (focus_terms parts))
  focus (Prim operator operands) =
      where_some (all_values operands) (here (Prim operator operands)) (below (Prim operator) (focus_terms operands))

  -- of terms that aren't all values; where all are, nothing is said
  pub focus_terms : Terms → Focus Terms
  focus_terms NoTerms = record { redex = UnitLit; around = λ next. NoTerms; above = 0 }
  focus_terms (TermThen term rest) =
      where_some (as_value term) (along (TermThen term) (focus_terms rest))
      (along (λ next. TermThen next rest) (focus term))

  pub focus_bindings : Bindings → Focus Bindings
  focus_bindings NoBindings = record { redex = UnitLit; around = λ next. NoBindings; above = 0 }
  focus_bindings (BindingThen name bound rest) =
      where_some (as_value bound) (along (BindingThen name bound) (focus_bindings rest))
      (along (λ next. BindingThen name next rest) (focus bound))

-- the focus of a term whose first part that is no value is this one: the redex is that part's, one node further down. A
-- term without such a part is the redex itself
abbrev pub IsFocusThrough : Option Term → Term → Focus Term → Type 0
IsFocusThrough None term f = f ≡ here term
IsFocusThrough (Some part) term f = (f.redex ≡ (focus part).redex) × (f.above ≡ suc (focus part).above)

-- the next redex of a term that is no value; a value is taken as its own
abbrev pub redex : Term → Term
redex term = (focus term).redex

-- the pending contexts of a state: the nodes strictly above its next redex, and none once it has ended
abbrev pub pending_contexts : CalcState → ℕ
pending_contexts state = where_some state.ended 0 (focus state.term).above
