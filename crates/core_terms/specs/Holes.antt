-- The places of a term at which names stand, in order, and what is put into them. A hole holds the value that is put in
-- the place of its name, or none, where the name stays.
use Rattle.std.specs.Prelude.{List, [], ◌∷◌, ◌++◌, Option, None, map, option_map, reverse}
use Rattle.core_calc.specs.Terms.{Term, Terms, Members, Bindings, Value, IntLit, BoolLit, UnitLit, Var, Lambda, Group}
use Rattle.core_calc.specs.Terms.{Let, Call, Enter, If, Seq, Cast, Proj, ProjDyn, Tuple, Prim, ValueTerm, NoTerms}
use Rattle.core_calc.specs.Terms.{TermThen, NoMembers, MemberThen, NoBindings, BindingThen, member_names}
use Rattle.core_calc.specs.Terms.{binding_names}
use Rattle.core_calc.specs.Substitution.{Substitution, entry_of, without, value_or_name}
use Rattle.core_calc.specs.Views.{value_of}
use Rattle.core_calc.specs.declared.terms.Value.{Value as HeldValue}

abbrev pub Holes : Type 0
Holes = List (Option Value)

-- holes in the order in which they are found
abbrev pub holes_of : List (Option HeldValue) → Holes
holes_of holes = map (option_map value_of) holes

-- holes of which the last is taken first
abbrev pub stack_of : List (Option HeldValue) → Holes
stack_of holes = reverse (holes_of holes)

abbrev pub first_hole : Holes → Option Value
first_hole [] = None
first_hole (hole ∷ holes) = hole

abbrev pub other_holes : Holes → Holes
other_holes [] = []
other_holes (hole ∷ holes) = holes

-- holes, and behind them those of a term for a substitution
abbrev mutual
  pub found_in : Term → Substitution → Holes → Holes
  found_in (IntLit n) values holes = holes
  found_in (BoolLit b) values holes = holes
  found_in UnitLit values holes = holes
  found_in (Var name) values holes = holes ++ entry_of name values ∷ []
  found_in (Lambda parameters body type) values holes = found_in body (without parameters values) holes
  found_in (Group members body) values holes =
      found_in body (without (member_names members) values)
      (found_in_members members (without (member_names members) values) holes)
  found_in (Let bindings body) values holes =
      found_in body (without (binding_names bindings) values) (found_in_bindings bindings values holes)
  found_in (Call function arguments) values holes = found_in_terms arguments values (found_in function values holes)
  found_in (Enter function arguments) values holes = found_in_terms arguments values (found_in function values holes)
  found_in (If condition on_true on_false) values holes =
      found_in on_false values (found_in on_true values (found_in condition values holes))
  found_in (Seq terms) values holes = found_in_terms terms values holes
  found_in (Cast term from to label) values holes = found_in term values holes
  found_in (Proj term k) values holes = found_in term values holes
  found_in (ProjDyn term k label) values holes = found_in term values holes
  found_in (Tuple parts) values holes = found_in_terms parts values holes
  found_in (Prim operator operands) values holes = found_in_terms operands values holes
  found_in (ValueTerm v) values holes = holes

  pub found_in_terms : Terms → Substitution → Holes → Holes
  found_in_terms NoTerms values holes = holes
  found_in_terms (TermThen term rest) values holes = found_in_terms rest values (found_in term values holes)

  -- the members' names are out of the substitution already
  pub found_in_members : Members → Substitution → Holes → Holes
  found_in_members NoMembers values holes = holes
  found_in_members (MemberThen name parameters body type rest) values holes =
      found_in_members rest values (found_in body (without parameters values) holes)

  pub found_in_bindings : Bindings → Substitution → Holes → Holes
  found_in_bindings NoBindings values holes = holes
  found_in_bindings (BindingThen name bound rest) values holes =
      found_in_bindings rest values (found_in bound values holes)

-- the holes behind those of a term
abbrev mutual
  pub behind : Term → Holes → Holes
  behind (IntLit n) holes = holes
  behind (BoolLit b) holes = holes
  behind UnitLit holes = holes
  behind (Var name) holes = other_holes holes
  behind (Lambda parameters body type) holes = behind body holes
  behind (Group members body) holes = behind body (behind_members members holes)
  behind (Let bindings body) holes = behind body (behind_bindings bindings holes)
  behind (Call function arguments) holes = behind_terms arguments (behind function holes)
  behind (Enter function arguments) holes = behind_terms arguments (behind function holes)
  behind (If condition on_true on_false) holes = behind on_false (behind on_true (behind condition holes))
  behind (Seq terms) holes = behind_terms terms holes
  behind (Cast term from to label) holes = behind term holes
  behind (Proj term k) holes = behind term holes
  behind (ProjDyn term k label) holes = behind term holes
  behind (Tuple parts) holes = behind_terms parts holes
  behind (Prim operator operands) holes = behind_terms operands holes
  behind (ValueTerm v) holes = holes

  pub behind_terms : Terms → Holes → Holes
  behind_terms NoTerms holes = holes
  behind_terms (TermThen term rest) holes = behind_terms rest (behind term holes)

  pub behind_members : Members → Holes → Holes
  behind_members NoMembers holes = holes
  behind_members (MemberThen name parameters body type rest) holes = behind_members rest (behind body holes)

  pub behind_bindings : Bindings → Holes → Holes
  behind_bindings NoBindings holes = holes
  behind_bindings (BindingThen name bound rest) holes = behind_bindings rest (behind bound holes)

-- a term whose names are replaced by what the holes hold
abbrev mutual
  pub filled : Term → Holes → Term
  filled (IntLit n) holes = IntLit n
  filled (BoolLit b) holes = BoolLit b
  filled UnitLit holes = UnitLit
  filled (Var name) holes = value_or_name (first_hole holes) name
  filled (Lambda parameters body type) holes = Lambda parameters (filled body holes) type
  filled (Group members body) holes =
      Group (filled_members members holes) (filled body (behind_members members holes))
  filled (Let bindings body) holes =
      Let (filled_bindings bindings holes) (filled body (behind_bindings bindings holes))
  filled (Call function arguments) holes =
      Call (filled function holes) (filled_terms arguments (behind function holes))
  filled (Enter function arguments) holes =
      Enter (filled function holes) (filled_terms arguments (behind function holes))
  filled (If condition on_true on_false) holes =
      If (filled condition holes) (filled on_true (behind condition holes))
      (filled on_false (behind on_true (behind condition holes)))
  filled (Seq terms) holes = Seq (filled_terms terms holes)
  filled (Cast term from to label) holes = Cast (filled term holes) from to label
  filled (Proj term k) holes = Proj (filled term holes) k
  filled (ProjDyn term k label) holes = ProjDyn (filled term holes) k label
  filled (Tuple parts) holes = Tuple (filled_terms parts holes)
  filled (Prim operator operands) holes = Prim operator (filled_terms operands holes)
  filled (ValueTerm v) holes = ValueTerm v

  pub filled_terms : Terms → Holes → Terms
  filled_terms NoTerms holes = NoTerms
  filled_terms (TermThen term rest) holes = TermThen (filled term holes) (filled_terms rest (behind term holes))

  pub filled_members : Members → Holes → Members
  filled_members NoMembers holes = NoMembers
  filled_members (MemberThen name parameters body type rest) holes =
      MemberThen name parameters (filled body holes) type (filled_members rest (behind body holes))

  pub filled_bindings : Bindings → Holes → Bindings
  filled_bindings NoBindings holes = NoBindings
  filled_bindings (BindingThen name bound rest) holes =
      BindingThen name (filled bound holes) (filled_bindings rest (behind bound holes))
