-- Where there is no value to put in, a term stays as it is.
use Rattle.std.proofs.Common.{◌≡◌, [], refl, ap, ◌∙◌}
use Rattle.core_calc.specs.Terms.{Term, Terms, Members, Bindings, IntLit, BoolLit, UnitLit, Var, Lambda, Group, Let}
use Rattle.core_calc.specs.Terms.{Call, Enter, If, Seq, Cast, Proj, ProjDyn, Tuple, Prim, ValueTerm, NoTerms, TermThen}
use Rattle.core_calc.specs.Terms.{NoMembers, MemberThen, NoBindings, BindingThen}
use Rattle.core_calc.specs.Substitution.{substitute, substitute_terms, substitute_members, substitute_bindings}

mutual
  pub nothing_put_in : (term : Term) → substitute term [] ≡ term
  nothing_put_in (IntLit n) = refl
  nothing_put_in (BoolLit b) = refl
  nothing_put_in UnitLit = refl
  nothing_put_in (Var name) = refl
  nothing_put_in (Lambda parameters body type) = ap (λ x. Lambda parameters x type) (nothing_put_in body)
  nothing_put_in (Group group body) =
      ap (λ x. Group x (substitute body [])) (nothing_in_members group) ∙ ap (Group group) (nothing_put_in body)
  nothing_put_in (Let bindings body) =
      ap (λ x. Let x (substitute body [])) (nothing_in_bindings bindings) ∙ ap (Let bindings) (nothing_put_in body)
  nothing_put_in (Call function arguments) =
      ap (λ x. Call x (substitute_terms arguments [])) (nothing_put_in function) ∙
      ap (Call function) (nothing_in_terms arguments)
  nothing_put_in (Enter function arguments) =
      ap (λ x. Enter x (substitute_terms arguments [])) (nothing_put_in function) ∙
      ap (Enter function) (nothing_in_terms arguments)
  nothing_put_in (If condition on_true on_false) =
      ap (λ x. If x (substitute on_true []) (substitute on_false [])) (nothing_put_in condition) ∙
      ap (λ x. If condition x (substitute on_false [])) (nothing_put_in on_true) ∙ ap (If condition on_true)
      (nothing_put_in on_false)
  nothing_put_in (Seq terms) = ap Seq (nothing_in_terms terms)
  nothing_put_in (Cast term from to label) = ap (λ x. Cast x from to label) (nothing_put_in term)
  nothing_put_in (Proj term k) = ap (λ x. Proj x k) (nothing_put_in term)
  nothing_put_in (ProjDyn term k label) = ap (λ x. ProjDyn x k label) (nothing_put_in term)
  nothing_put_in (Tuple parts) = ap Tuple (nothing_in_terms parts)
  nothing_put_in (Prim operator operands) = ap (Prim operator) (nothing_in_terms operands)
  nothing_put_in (ValueTerm v) = refl

  nothing_in_terms : (terms : Terms) → substitute_terms terms [] ≡ terms
  nothing_in_terms NoTerms = refl
  nothing_in_terms (TermThen term rest) =
      ap (λ x. TermThen x (substitute_terms rest [])) (nothing_put_in term) ∙ ap (TermThen term) (nothing_in_terms rest)

  nothing_in_members : (group : Members) → substitute_members group [] ≡ group
  nothing_in_members NoMembers = refl
  nothing_in_members (MemberThen name parameters body type rest) =
      ap (λ x. MemberThen name parameters x type (substitute_members rest [])) (nothing_put_in body) ∙
      ap (MemberThen name parameters body type) (nothing_in_members rest)

  nothing_in_bindings : (bindings : Bindings) → substitute_bindings bindings [] ≡ bindings
  nothing_in_bindings NoBindings = refl
  nothing_in_bindings (BindingThen name bound rest) =
      ap (λ x. BindingThen name x (substitute_bindings rest [])) (nothing_put_in bound) ∙ ap (BindingThen name bound)
      (nothing_in_bindings rest)
