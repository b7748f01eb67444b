-- Values put in the place of names, several at once. Values are closed, so nothing is put into them, and no name is
-- captured.
use Rattle.std.specs.Prelude.{ℕ, suc, Bool, true, false, cond, nat_eq, List, [], ◌∷◌, Option, Some, None}
use Rattle.core_calc.specs.Terms.{Term, Terms, Members, Bindings, Value, IntLit, BoolLit, UnitLit, Var, Lambda, Group}
use Rattle.core_calc.specs.Terms.{Let, Call, Enter, If, Seq, Cast, Proj, ProjDyn, Tuple, Prim, ValueTerm, NoTerms}
use Rattle.core_calc.specs.Terms.{TermThen, NoMembers, MemberThen, NoBindings, BindingThen, MemberValue, both_in_front}
use Rattle.core_calc.specs.Terms.{member_names, binding_names}

-- names with their values; the first entry of a name counts
abbrev pub Substitution : Type 0
Substitution = List (ℕ × Value)

-- what a name stands for
abbrev pub entry_of : {A : Type 0} → ℕ → List (ℕ × A) → Option A
entry_of name [] = None
entry_of name (entry ∷ rest) = cond (nat_eq name entry.0) (Some entry.1) (entry_of name rest)

abbrev pub is_among : ℕ → List ℕ → Bool
is_among name [] = false
is_among name (other ∷ rest) = cond (nat_eq name other) true (is_among name rest)

-- what is left where these names are bound again
abbrev pub without : List ℕ → Substitution → Substitution
without names [] = []
without names (entry ∷ rest) = cond (is_among entry.0 names) (without names rest) (entry ∷ without names rest)

abbrev pub value_or_name : Option Value → ℕ → Term
value_or_name (Some v) name = ValueTerm v
value_or_name None name = Var name

abbrev mutual
  pub substitute : Term → Substitution → Term
  substitute (IntLit n) values = IntLit n
  substitute (BoolLit b) values = BoolLit b
  substitute UnitLit values = UnitLit
  substitute (Var name) values = value_or_name (entry_of name values) name
  substitute (Lambda parameters body type) values = Lambda parameters (substitute body (without parameters values)) type
  substitute (Group members body) values =
      let inner = without (member_names members) values in
      Group (substitute_members members inner) (substitute body inner)
  substitute (Let bindings body) values =
      Let (substitute_bindings bindings values) (substitute body (without (binding_names bindings) values))
  substitute (Call function arguments) values = Call (substitute function values) (substitute_terms arguments values)
  substitute (Enter function arguments) values = Enter (substitute function values) (substitute_terms arguments values)
  substitute (If condition on_true on_false) values =
      If (substitute condition values) (substitute on_true values) (substitute on_false values)
  substitute (Seq terms) values = Seq (substitute_terms terms values)
  substitute (Cast term from to label) values = Cast (substitute term values) from to label
  substitute (Proj term k) values = Proj (substitute term values) k
  substitute (ProjDyn term k label) values = ProjDyn (substitute term values) k label
  substitute (Tuple parts) values = Tuple (substitute_terms parts values)
  substitute (Prim operator operands) values = Prim operator (substitute_terms operands values)
  substitute (ValueTerm v) values = ValueTerm v

  pub substitute_terms : Terms → Substitution → Terms
  substitute_terms NoTerms values = NoTerms
  substitute_terms (TermThen term rest) values = TermThen (substitute term values) (substitute_terms rest values)

  -- the members' names are out of the substitution already
  pub substitute_members : Members → Substitution → Members
  substitute_members NoMembers values = NoMembers
  substitute_members (MemberThen name parameters body type rest) values =
      MemberThen name parameters (substitute body (without parameters values)) type (substitute_members rest values)

  pub substitute_bindings : Bindings → Substitution → Bindings
  substitute_bindings NoBindings values = NoBindings
  substitute_bindings (BindingThen name bound rest) values =
      BindingThen name (substitute bound values) (substitute_bindings rest values)

-- each name with what it shall stand for; none where their numbers differ
abbrev pub bind : {A : Type 0} → List ℕ → List A → Option (List (ℕ × A))
bind [] [] = Some []
bind [] (a ∷ rest) = None
bind (name ∷ names) [] = None
bind (name ∷ names) (a ∷ rest) = both_in_front (Some (name, a)) (bind names rest)

-- the members from a place on, each as a value of the whole group
abbrev pub members_from : Members → Members → ℕ → Substitution
members_from group NoMembers place = []
members_from group (MemberThen name parameters body type rest) place =
    (name, MemberValue group place) ∷ members_from group rest (suc place)

-- the names of a group with their members
abbrev pub group_values : Members → Substitution
group_values group = members_from group group 0
