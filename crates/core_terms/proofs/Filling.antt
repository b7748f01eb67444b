-- What is found in a term, put in the place of its names, is the substitution.
use Rattle.std.proofs.Common.{◌≡◌, List, [], ◌∷◌, ◌++◌, refl, ap, ap₂, ◌∙◌, sym}
use Rattle.std.specs.Prelude.{Option, option_map, reverse}
use Rattle.std.proofs.lemmas.List.{append-nil, append_assoc, map-append, reverse-append, reverse-reverse}
use mathlib.Core.List.{reverse_aux}
use Rattle.core_calc.specs.Terms.{Term, Terms, Members, Bindings, IntLit, BoolLit, UnitLit, Var, Lambda, Group}
use Rattle.core_calc.specs.Terms.{Let, Call, Enter, If, Seq, Cast, Proj, ProjDyn, Tuple, Prim, ValueTerm, NoTerms}
use Rattle.core_calc.specs.Terms.{TermThen, NoMembers, MemberThen, NoBindings, BindingThen, member_names}
use Rattle.core_calc.specs.Terms.{binding_names}
use Rattle.core_calc.specs.Substitution.{Substitution, entry_of, without, substitute, substitute_terms}
use Rattle.core_calc.specs.Substitution.{substitute_members, substitute_bindings}
use Rattle.core_calc.specs.Views.{value_of}
use Rattle.core_calc.specs.declared.terms.Value.{Value as HeldValue}
use Rattle.core_terms.specs.Holes.{Holes, holes_of, stack_of, first_hole, other_holes, found_in, found_in_terms}
use Rattle.core_terms.specs.Holes.{found_in_members, found_in_bindings, behind, behind_terms, behind_members}
use Rattle.core_terms.specs.Holes.{behind_bindings, filled, filled_terms, filled_members, filled_bindings}

-- the holes of a term, in front of others
abbrev mutual
  holes_in : Term → Substitution → Holes → Holes
  holes_in (IntLit n) values rest = rest
  holes_in (BoolLit b) values rest = rest
  holes_in UnitLit values rest = rest
  holes_in (Var name) values rest = entry_of name values ∷ rest
  holes_in (Lambda parameters body type) values rest = holes_in body (without parameters values) rest
  holes_in (Group members body) values rest =
      holes_in_members members (without (member_names members) values)
      (holes_in body (without (member_names members) values) rest)
  holes_in (Let bindings body) values rest =
      holes_in_bindings bindings values (holes_in body (without (binding_names bindings) values) rest)
  holes_in (Call function arguments) values rest = holes_in function values (holes_in_terms arguments values rest)
  holes_in (Enter function arguments) values rest = holes_in function values (holes_in_terms arguments values rest)
  holes_in (If condition on_true on_false) values rest =
      holes_in condition values (holes_in on_true values (holes_in on_false values rest))
  holes_in (Seq terms) values rest = holes_in_terms terms values rest
  holes_in (Cast term from to label) values rest = holes_in term values rest
  holes_in (Proj term k) values rest = holes_in term values rest
  holes_in (ProjDyn term k label) values rest = holes_in term values rest
  holes_in (Tuple parts) values rest = holes_in_terms parts values rest
  holes_in (Prim operator operands) values rest = holes_in_terms operands values rest
  holes_in (ValueTerm v) values rest = rest

  holes_in_terms : Terms → Substitution → Holes → Holes
  holes_in_terms NoTerms values rest = rest
  holes_in_terms (TermThen term terms) values rest = holes_in term values (holes_in_terms terms values rest)

  holes_in_members : Members → Substitution → Holes → Holes
  holes_in_members NoMembers values rest = rest
  holes_in_members (MemberThen name parameters body type members) values rest =
      holes_in body (without parameters values) (holes_in_members members values rest)

  holes_in_bindings : Bindings → Substitution → Holes → Holes
  holes_in_bindings NoBindings values rest = rest
  holes_in_bindings (BindingThen name bound bindings) values rest =
      holes_in bound values (holes_in_bindings bindings values rest)

-- ---- what is found stands behind what was found before

mutual
  finds : (term : Term) (values : Substitution) (holes rest : Holes) →
      found_in term values holes ++ rest ≡ holes ++ holes_in term values rest
  finds (IntLit n) values holes rest = refl
  finds (BoolLit b) values holes rest = refl
  finds UnitLit values holes rest = refl
  finds (Var name) values holes rest = append_assoc holes (entry_of name values ∷ []) rest
  finds (Lambda parameters body type) values holes rest = finds body (without parameters values) holes rest
  finds (Group members body) values holes rest =
      finds body (without (member_names members) values)
      (found_in_members members (without (member_names members) values) holes) rest ∙
      finds_members members (without (member_names members) values) holes
      (holes_in body (without (member_names members) values) rest)
  finds (Let bindings body) values holes rest =
      finds body (without (binding_names bindings) values) (found_in_bindings bindings values holes) rest ∙
      finds_bindings bindings values holes (holes_in body (without (binding_names bindings) values) rest)
  finds (Call function arguments) values holes rest =
      finds_terms arguments values (found_in function values holes) rest ∙
      finds function values holes (holes_in_terms arguments values rest)
  finds (Enter function arguments) values holes rest =
      finds_terms arguments values (found_in function values holes) rest ∙
      finds function values holes (holes_in_terms arguments values rest)
  finds (If condition on_true on_false) values holes rest =
      finds on_false values (found_in on_true values (found_in condition values holes)) rest ∙
      finds on_true values (found_in condition values holes) (holes_in on_false values rest) ∙
      finds condition values holes (holes_in on_true values (holes_in on_false values rest))
  finds (Seq terms) values holes rest = finds_terms terms values holes rest
  finds (Cast term from to label) values holes rest = finds term values holes rest
  finds (Proj term k) values holes rest = finds term values holes rest
  finds (ProjDyn term k label) values holes rest = finds term values holes rest
  finds (Tuple parts) values holes rest = finds_terms parts values holes rest
  finds (Prim operator operands) values holes rest = finds_terms operands values holes rest
  finds (ValueTerm v) values holes rest = refl

  finds_terms : (terms : Terms) (values : Substitution) (holes rest : Holes) →
      found_in_terms terms values holes ++ rest ≡ holes ++ holes_in_terms terms values rest
  finds_terms NoTerms values holes rest = refl
  finds_terms (TermThen term terms) values holes rest =
      finds_terms terms values (found_in term values holes) rest ∙
      finds term values holes (holes_in_terms terms values rest)

  finds_members : (members : Members) (values : Substitution) (holes rest : Holes) →
      found_in_members members values holes ++ rest ≡ holes ++ holes_in_members members values rest
  finds_members NoMembers values holes rest = refl
  finds_members (MemberThen name parameters body type members) values holes rest =
      finds_members members values (found_in body (without parameters values) holes) rest ∙
      finds body (without parameters values) holes (holes_in_members members values rest)

  finds_bindings : (bindings : Bindings) (values : Substitution) (holes rest : Holes) →
      found_in_bindings bindings values holes ++ rest ≡ holes ++ holes_in_bindings bindings values rest
  finds_bindings NoBindings values holes rest = refl
  finds_bindings (BindingThen name bound bindings) values holes rest =
      finds_bindings bindings values (found_in bound values holes) rest ∙
      finds bound values holes (holes_in_bindings bindings values rest)

-- ---- behind the holes of a term stands the rest

mutual
  leaves : (term : Term) (values : Substitution) (rest : Holes) → behind term (holes_in term values rest) ≡ rest
  leaves (IntLit n) values rest = refl
  leaves (BoolLit b) values rest = refl
  leaves UnitLit values rest = refl
  leaves (Var name) values rest = refl
  leaves (Lambda parameters body type) values rest = leaves body (without parameters values) rest
  leaves (Group members body) values rest =
      ap (behind body) (leaves_members members (without (member_names members) values)
      (holes_in body (without (member_names members) values) rest)) ∙
      leaves body (without (member_names members) values) rest
  leaves (Let bindings body) values rest =
      ap (behind body) (leaves_bindings bindings values
      (holes_in body (without (binding_names bindings) values) rest)) ∙
      leaves body (without (binding_names bindings) values) rest
  leaves (Call function arguments) values rest =
      ap (behind_terms arguments) (leaves function values (holes_in_terms arguments values rest)) ∙
      leaves_terms arguments values rest
  leaves (Enter function arguments) values rest =
      ap (behind_terms arguments) (leaves function values (holes_in_terms arguments values rest)) ∙
      leaves_terms arguments values rest
  leaves (If condition on_true on_false) values rest =
      ap (λ x. behind on_false (behind on_true x))
      (leaves condition values (holes_in on_true values (holes_in on_false values rest))) ∙
      ap (behind on_false) (leaves on_true values (holes_in on_false values rest)) ∙ leaves on_false values rest
  leaves (Seq terms) values rest = leaves_terms terms values rest
  leaves (Cast term from to label) values rest = leaves term values rest
  leaves (Proj term k) values rest = leaves term values rest
  leaves (ProjDyn term k label) values rest = leaves term values rest
  leaves (Tuple parts) values rest = leaves_terms parts values rest
  leaves (Prim operator operands) values rest = leaves_terms operands values rest
  leaves (ValueTerm v) values rest = refl

  leaves_terms : (terms : Terms) (values : Substitution) (rest : Holes) →
      behind_terms terms (holes_in_terms terms values rest) ≡ rest
  leaves_terms NoTerms values rest = refl
  leaves_terms (TermThen term terms) values rest =
      ap (behind_terms terms) (leaves term values (holes_in_terms terms values rest)) ∙ leaves_terms terms values rest

  leaves_members : (members : Members) (values : Substitution) (rest : Holes) →
      behind_members members (holes_in_members members values rest) ≡ rest
  leaves_members NoMembers values rest = refl
  leaves_members (MemberThen name parameters body type members) values rest =
      ap (behind_members members) (leaves body (without parameters values) (holes_in_members members values rest)) ∙
      leaves_members members values rest

  leaves_bindings : (bindings : Bindings) (values : Substitution) (rest : Holes) →
      behind_bindings bindings (holes_in_bindings bindings values rest) ≡ rest
  leaves_bindings NoBindings values rest = refl
  leaves_bindings (BindingThen name bound bindings) values rest =
      ap (behind_bindings bindings) (leaves bound values (holes_in_bindings bindings values rest)) ∙
      leaves_bindings bindings values rest

-- ---- filled with its holes, a term is what the substitution makes of it

-- two parts, of which the second is filled with what the first leaves
then_filled : {A B C : Type 0} (make : A → B → C) (fill : Holes → B) {first made : A} {holes left : Holes}
    {second : B} → first ≡ made → holes ≡ left → fill left ≡ second → make first (fill holes) ≡ make made second
then_filled make fill {first} {made} e f g = ap₂ (λ x y. make x (fill y)) e f ∙ ap (make made) g

mutual
  fills : (term : Term) (values : Substitution) (rest : Holes) →
      filled term (holes_in term values rest) ≡ substitute term values
  fills (IntLit n) values rest = refl
  fills (BoolLit b) values rest = refl
  fills UnitLit values rest = refl
  fills (Var name) values rest = refl
  fills (Lambda parameters body type) values rest =
      ap (λ x. Lambda parameters x type) (fills body (without parameters values) rest)
  fills (Group members body) values rest =
      let inner = without (member_names members) values in
      let after = holes_in body inner rest in
      then_filled Group (filled body) (fills_members members inner after) (leaves_members members inner after)
      (fills body inner rest)
  fills (Let bindings body) values rest =
      let inner = without (binding_names bindings) values in
      let after = holes_in body inner rest in
      then_filled Let (filled body) (fills_bindings bindings values after) (leaves_bindings bindings values after)
      (fills body inner rest)
  fills (Call function arguments) values rest =
      let after = holes_in_terms arguments values rest in
      then_filled Call (filled_terms arguments) (fills function values after) (leaves function values after)
      (fills_terms arguments values rest)
  fills (Enter function arguments) values rest =
      let after = holes_in_terms arguments values rest in
      then_filled Enter (filled_terms arguments) (fills function values after) (leaves function values after)
      (fills_terms arguments values rest)
  fills (If condition on_true on_false) values rest =
      let last = holes_in on_false values rest in
      let after = holes_in on_true values last in
      ap₂ (λ x y. If x (filled on_true y) (filled on_false (behind on_true y))) (fills condition values after)
      (leaves condition values after) ∙
      then_filled (If (substitute condition values)) (filled on_false) (fills on_true values last)
      (leaves on_true values last) (fills on_false values rest)
  fills (Seq terms) values rest = ap Seq (fills_terms terms values rest)
  fills (Cast term from to label) values rest = ap (λ x. Cast x from to label) (fills term values rest)
  fills (Proj term k) values rest = ap (λ x. Proj x k) (fills term values rest)
  fills (ProjDyn term k label) values rest = ap (λ x. ProjDyn x k label) (fills term values rest)
  fills (Tuple parts) values rest = ap Tuple (fills_terms parts values rest)
  fills (Prim operator operands) values rest = ap (Prim operator) (fills_terms operands values rest)
  fills (ValueTerm v) values rest = refl

  fills_terms : (terms : Terms) (values : Substitution) (rest : Holes) →
      filled_terms terms (holes_in_terms terms values rest) ≡ substitute_terms terms values
  fills_terms NoTerms values rest = refl
  fills_terms (TermThen term terms) values rest =
      let after = holes_in_terms terms values rest in
      then_filled TermThen (filled_terms terms) (fills term values after) (leaves term values after)
      (fills_terms terms values rest)

  fills_members : (members : Members) (values : Substitution) (rest : Holes) →
      filled_members members (holes_in_members members values rest) ≡ substitute_members members values
  fills_members NoMembers values rest = refl
  fills_members (MemberThen name parameters body type members) values rest =
      let inner = without parameters values in
      let after = holes_in_members members values rest in
      then_filled (λ x y. MemberThen name parameters x type y) (filled_members members) (fills body inner after)
      (leaves body inner after) (fills_members members values rest)

  fills_bindings : (bindings : Bindings) (values : Substitution) (rest : Holes) →
      filled_bindings bindings (holes_in_bindings bindings values rest) ≡ substitute_bindings bindings values
  fills_bindings NoBindings values rest = refl
  fills_bindings (BindingThen name bound bindings) values rest =
      let after = holes_in_bindings bindings values rest in
      then_filled (BindingThen name) (filled_bindings bindings) (fills bound values after) (leaves bound values after)
      (fills_bindings bindings values rest)

-- ---- a stack of holes

turned_onto : (holes front : List (Option HeldValue)) →
    holes_of (reverse_aux holes front) ≡ reverse_aux (holes_of holes) (holes_of front)
turned_onto [] front = refl
turned_onto (hole ∷ holes) front = turned_onto holes (hole ∷ front)

-- turned round, the first that was found is on top
turned : (holes : List (Option HeldValue)) → stack_of (reverse holes) ≡ holes_of holes
turned holes = ap reverse (turned_onto holes []) ∙ reverse-reverse (holes_of holes)

-- what was found, turned round, makes the substitution
pub puts : (term : Term) (values : Substitution) (holes : List (Option HeldValue)) →
    holes_of holes ≡ found_in term values [] → filled term (stack_of (reverse holes)) ≡ substitute term values
puts term values holes e =
    ap (filled term) (turned holes ∙ e ∙ sym (append-nil (found_in term values [])) ∙ finds term values [] []) ∙
    fills term values []

-- ---- what is taken from the top

stack_at_push : (holes : List (Option HeldValue)) (hole : Option HeldValue) →
    stack_of (holes ++ hole ∷ []) ≡ option_map value_of hole ∷ stack_of holes
stack_at_push holes hole =
    ap reverse (map-append (option_map value_of) holes (hole ∷ []))
    ∙ reverse-append (holes_of holes) (option_map value_of hole ∷ [])

pub top : (old new : List (Option HeldValue)) (hole : Option HeldValue) → old ≡ new ++ hole ∷ [] →
    option_map value_of hole ≡ first_hole (stack_of old)
top old new hole e = sym (ap (λ x. first_hole (stack_of x)) e ∙ ap first_hole (stack_at_push new hole))

pub below_top : (old new : List (Option HeldValue)) (hole : Option HeldValue) → old ≡ new ++ hole ∷ [] →
    stack_of new ≡ other_holes (stack_of old)
below_top old new hole e = sym (ap (λ x. other_holes (stack_of x)) e ∙ ap other_holes (stack_at_push new hole))
