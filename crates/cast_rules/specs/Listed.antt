-- Terms whose casts and parts have their entries.
use Rattle.std.specs.Prelude.{◌≡◌, ℕ, ℤ, List, Option, Some, slice_get}
use Rattle.core_calc.specs.Terms.{Term, Terms, Members, Bindings, IntLit, BoolLit, UnitLit, Var, Lambda}
use Rattle.core_calc.specs.Terms.{Group, Let, Call, Enter, If, Seq, Cast, Proj, ProjDyn, Tuple, Prim, ValueTerm}
use Rattle.core_calc.specs.Terms.{NoTerms, TermThen, NoMembers, MemberThen, NoBindings, BindingThen}
use Rattle.surface_trees.specs.Trees.{Expr}
use Rattle.cast_rules.specs.Making.{Entry, CastFrom, PartOf, Work, Makes, Typed}
use Rattle.cast_rules.specs.Elaboration.{elaborate_program}

module _ (entries : List Entry) where
  -- the list has an entry for this cast
  abbrev pub HasCast : ℕ → ℕ → ℕ → Type 0
  HasCast from to label =
      (place : ℕ) × (inside : Option ℕ) × (slice_get entries place ≡ Some (CastFrom label from to inside))

  -- the list has an entry for a part taken of what Dyn holds
  abbrev pub HasPart : ℤ → ℕ → Type 0
  HasPart k label = (place : ℕ) × (slice_get entries place ≡ Some (PartOf label k))

  -- the term is one that can be written, and each cast in it and each part taken of what Dyn holds has its entry
  abbrev mutual
    pub IsListed : Term → Type 0
    IsListed (IntLit n) = Unit {0}
    IsListed (BoolLit b) = Unit {0}
    IsListed UnitLit = Unit {0}
    IsListed (Var name) = Unit {0}
    IsListed (Lambda parameters body type) = IsListed body
    IsListed (Group members body) = AreListedMembers members × IsListed body
    IsListed (Let bindings body) = AreListedBindings bindings × IsListed body
    IsListed (Call function arguments) = IsListed function × AreListed arguments
    IsListed (Enter function arguments) = ⊥
    IsListed (If condition on_true on_false) = IsListed condition × IsListed on_true × IsListed on_false
    IsListed (Seq terms) = AreListed terms
    IsListed (Cast term from to label) = IsListed term × HasCast from to label
    IsListed (Proj term k) = IsListed term
    IsListed (ProjDyn term k label) = IsListed term × HasPart k label
    IsListed (Tuple parts) = AreListed parts
    IsListed (Prim operator operands) = AreListed operands
    IsListed (ValueTerm v) = ⊥

    pub AreListed : Terms → Type 0
    AreListed NoTerms = Unit {0}
    AreListed (TermThen term rest) = IsListed term × AreListed rest

    pub AreListedMembers : Members → Type 0
    AreListedMembers NoMembers = Unit {0}
    AreListedMembers (MemberThen name parameters body type rest) = IsListed body × AreListedMembers rest

    pub AreListedBindings : Bindings → Type 0
    AreListedBindings NoBindings = Unit {0}
    AreListedBindings (BindingThen name bound rest) = IsListed bound × AreListedBindings rest

-- what the elaboration makes of a program lists its casts: each cast in the term and each part taken of what Dyn holds
-- has its entry
abbrev pub ListsItsCasts : Type 0
ListsItsCasts =
    (program : Expr) (e : Typed) (after : Work) → elaborate_program program ≡ Makes e after →
    IsListed after.casts e.term
