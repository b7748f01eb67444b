-- Terms and values of the calculus. Names, types and labels are numbers: a type is a place in the table of types, a
-- label one in the table of labels.
use Rattle.std.specs.Prelude.{ℕ, ℤ, Bool, List, [], ◌∷◌, Option, Some, None}
use Rattle.grift_base.specs.declared.operators.PrimOp.{PrimOp}

mutual
  pub data Term : Type 0 where
    IntLit : ℤ → Term
    BoolLit : Bool → Term
    UnitLit : Term
    Var : ℕ → Term
    -- parameters, body and type
    Lambda : List ℕ → Term → ℕ → Term
    -- functions that know each other, and a body that knows them
    Group : Members → Term → Term
    Let : Bindings → Term → Term
    -- a call as it is written
    Call : Term → Terms → Term
    -- a call whose function and arguments were values
    Enter : Term → Terms → Term
    If : Term → Term → Term → Term
    Seq : Terms → Term
    -- from a type, to a type, with a label
    Cast : Term → ℕ → ℕ → ℕ → Term
    Proj : Term → ℤ → Term
    -- a part of what Dyn holds, with a label
    ProjDyn : Term → ℤ → ℕ → Term
    Tuple : Terms → Term
    Prim : PrimOp → Terms → Term
    ValueTerm : Value → Term

  pub data Terms : Type 0 where
    NoTerms : Terms
    TermThen : Term → Terms → Terms

  -- of a member: name, parameters, body and type
  pub data Members : Type 0 where
    NoMembers : Members
    MemberThen : ℕ → List ℕ → Term → ℕ → Members → Members

  -- of a binding: name and bound term
  pub data Bindings : Type 0 where
    NoBindings : Bindings
    BindingThen : ℕ → Term → Bindings → Bindings

  pub data Value : Type 0 where
    IntValue : ℤ → Value
    BoolValue : Bool → Value
    UnitValue : Value
    -- parameters, body and type
    FunValue : List ℕ → Term → ℕ → Value
    -- a group, and the place of this member in it
    MemberValue : Members → ℕ → Value
    TupleValue : Values → Value
    -- a cell, and whether it is a vector
    LocValue : ℕ → Bool → Value
    -- a value seen through a cast: from a type, a label, to a type
    WrapValue : Value → ℕ → ℕ → ℕ → Value
    -- a value in Dyn, and the type that it keeps
    InjectValue : Value → ℕ → Value

  pub data Values : Type 0 where
    NoValues : Values
    ValueThen : Value → Values → Values

-- the value that a term is, if it is one
abbrev pub as_value : Term → Option Value
as_value (IntLit n) = Some (IntValue n)
as_value (BoolLit b) = Some (BoolValue b)
as_value UnitLit = Some UnitValue
as_value (ValueTerm v) = Some v
as_value _ = None

-- terms from a list
abbrev pub terms_from : List Term → Terms
terms_from [] = NoTerms
terms_from (term ∷ rest) = TermThen term (terms_from rest)

-- terms as a list
abbrev pub term_list : Terms → List Term
term_list NoTerms = []
term_list (TermThen term rest) = term ∷ term_list rest

-- values from a list
abbrev pub values_from : List Value → Values
values_from [] = NoValues
values_from (v ∷ rest) = ValueThen v (values_from rest)

-- values as a list
abbrev pub value_list : Values → List Value
value_list NoValues = []
value_list (ValueThen v rest) = v ∷ value_list rest

-- a function of a group
pub record Member : Type 0 where
  pub name : ℕ
  pub parameters : List ℕ
  pub body : Term
  pub type : ℕ

-- the functions of a group as a list
abbrev pub member_list : Members → List Member
member_list NoMembers = []
member_list (MemberThen name parameters body type rest) =
    record { name = name; parameters = parameters; body = body; type = type } ∷ member_list rest

-- a name and the term that it is bound to
pub record Binding : Type 0 where
  pub name : ℕ
  pub bound : Term

-- bindings as a list
abbrev pub binding_list : Bindings → List Binding
binding_list NoBindings = []
binding_list (BindingThen name bound rest) = record { name = name; bound = bound } ∷ binding_list rest

-- the first in front of the others, if all are there
abbrev pub both_in_front : {A : Type 0} → Option A → Option (List A) → Option (List A)
both_in_front (Some a) (Some rest) = Some (a ∷ rest)
both_in_front (Some a) None = None
both_in_front None rest = None

-- the values that terms are, if all are values
abbrev pub all_values : Terms → Option (List Value)
all_values NoTerms = Some []
all_values (TermThen term rest) = both_in_front (as_value term) (all_values rest)

-- the names of a group's members
abbrev pub member_names : Members → List ℕ
member_names NoMembers = []
member_names (MemberThen name parameters body type rest) = name ∷ member_names rest

-- the names that bindings bind
abbrev pub binding_names : Bindings → List ℕ
binding_names NoBindings = []
binding_names (BindingThen name bound rest) = name ∷ binding_names rest

-- the values of bound terms, if all are values
abbrev pub bound_values : Bindings → Option (List Value)
bound_values NoBindings = Some []
bound_values (BindingThen name bound rest) = both_in_front (as_value bound) (bound_values rest)
