-- Where casts, parts of Dyn and operators stand in a program that was elaborated.
use Rattle.std.specs.Prelude.{◌≡◌, ℕ, ℤ, Bool, true, List, Option, Some, slice_get}
use Rattle.grift_base.specs.declared.operators.PrimOp.{PrimOp}
use Rattle.surface_trees.specs.Trees.{Expr, ExprNode, LambdaExpr, Exprs, LetBindings, LetrecMembers, ExprAt, IntNode}
use Rattle.surface_trees.specs.Trees.{BoolNode, UnitNode, NameNode, LambdaNode, CallNode, LetNode, LetrecNode, IfNode}
use Rattle.surface_trees.specs.Trees.{BeginNode, AscribeNode, TupleNode, ProjNode, PrimNode, LambdaAt, NoExprs}
use Rattle.surface_trees.specs.Trees.{ExprThen, NoLets, LetThen, NoLetrecs, LetrecThen}
use Rattle.core_calc.specs.Terms.{Term, Terms, Members, Bindings, Lambda, Group, Let, Call, Enter, If, Seq, Cast}
use Rattle.core_calc.specs.Terms.{Proj, ProjDyn, Tuple, Prim, NoTerms, TermThen, NoMembers, MemberThen, NoBindings}
use Rattle.core_calc.specs.Terms.{BindingThen}
use Rattle.cast_rules.specs.Making.{Entry, CastFrom, PartOf, Makes, Typed, Work}
use Rattle.cast_rules.specs.Elaboration.{elaborate_program}

-- the list has an entry of this cast, and of this part
abbrev pub HasCast : List Entry → ℕ → ℕ → ℕ → Type 0
HasCast casts label from to =
    (place : ℕ) × (inside : Option ℕ) × (slice_get casts place ≡ Some (CastFrom label from to inside))

abbrev pub HasPart : List Entry → ℕ → ℤ → Type 0
HasPart casts label k = (place : ℕ) × (slice_get casts place ≡ Some (PartOf label k))

module _ (allowed : PrimOp → Bool) where
  -- each operator of a term is allowed, and each of its casts and parts of Dyn is in the list
  abbrev mutual
    pub IsPlaced : List Entry → Term → Type 0
    IsPlaced casts (Lambda parameters body type) = IsPlaced casts body
    IsPlaced casts (Group members body) = AreMembersPlaced casts members × IsPlaced casts body
    IsPlaced casts (Let bindings body) = AreBindingsPlaced casts bindings × IsPlaced casts body
    IsPlaced casts (Call function arguments) = IsPlaced casts function × ArePlaced casts arguments
    IsPlaced casts (Enter function arguments) = IsPlaced casts function × ArePlaced casts arguments
    IsPlaced casts (If condition on_true on_false) =
        IsPlaced casts condition × IsPlaced casts on_true × IsPlaced casts on_false
    IsPlaced casts (Seq terms) = ArePlaced casts terms
    IsPlaced casts (Cast term from to label) = IsPlaced casts term × HasCast casts label from to
    IsPlaced casts (Proj term k) = IsPlaced casts term
    IsPlaced casts (ProjDyn term k label) = IsPlaced casts term × HasPart casts label k
    IsPlaced casts (Tuple parts) = ArePlaced casts parts
    IsPlaced casts (Prim operator operands) = (allowed operator ≡ true) × ArePlaced casts operands
    IsPlaced casts _ = Unit {0}

    pub ArePlaced : List Entry → Terms → Type 0
    ArePlaced casts NoTerms = Unit {0}
    ArePlaced casts (TermThen term rest) = IsPlaced casts term × ArePlaced casts rest

    pub AreMembersPlaced : List Entry → Members → Type 0
    AreMembersPlaced casts NoMembers = Unit {0}
    AreMembersPlaced casts (MemberThen name parameters body type rest) =
        IsPlaced casts body × AreMembersPlaced casts rest

    pub AreBindingsPlaced : List Entry → Bindings → Type 0
    AreBindingsPlaced casts NoBindings = Unit {0}
    AreBindingsPlaced casts (BindingThen name bound rest) = IsPlaced casts bound × AreBindingsPlaced casts rest

  -- each operator of an expression is allowed
  abbrev mutual
    pub IsAllowed : Expr → Type 0
    IsAllowed (ExprAt place node) = IsAllowedNode node

    pub IsAllowedNode : ExprNode → Type 0
    IsAllowedNode (IntNode n) = Unit {0}
    IsAllowedNode (BoolNode b) = Unit {0}
    IsAllowedNode UnitNode = Unit {0}
    IsAllowedNode (NameNode name) = Unit {0}
    IsAllowedNode (LambdaNode lambda) = IsAllowedLambda lambda
    IsAllowedNode (CallNode function arguments) = IsAllowed function × AreAllowed arguments
    IsAllowedNode (LetNode bindings body) = AreAllowedBindings bindings × AreAllowed body
    IsAllowedNode (LetrecNode members body) = AreAllowedMembers members × AreAllowed body
    IsAllowedNode (IfNode condition on_true on_false) =
        IsAllowed condition × IsAllowed on_true × IsAllowed on_false
    IsAllowedNode (BeginNode body) = AreAllowed body
    IsAllowedNode (AscribeNode expression type) = IsAllowed expression
    IsAllowedNode (TupleNode parts) = AreAllowed parts
    IsAllowedNode (ProjNode tuple k place) = IsAllowed tuple
    IsAllowedNode (PrimNode operator operands) = (allowed operator ≡ true) × AreAllowed operands

    pub IsAllowedLambda : LambdaExpr → Type 0
    IsAllowedLambda (LambdaAt place parameters result body) = AreAllowed body

    pub AreAllowed : Exprs → Type 0
    AreAllowed NoExprs = Unit {0}
    AreAllowed (ExprThen e rest) = IsAllowed e × AreAllowed rest

    pub AreAllowedBindings : LetBindings → Type 0
    AreAllowedBindings NoLets = Unit {0}
    AreAllowedBindings (LetThen name own value rest) = IsAllowed value × AreAllowedBindings rest

    pub AreAllowedMembers : LetrecMembers → Type 0
    AreAllowedMembers NoLetrecs = Unit {0}
    AreAllowedMembers (LetrecThen name own lambda rest) = IsAllowedLambda lambda × AreAllowedMembers rest

-- what the elaboration makes of a program has an operator only where the program has it, a cast only with the label and
-- the types of an entry, and takes a part of what Dyn holds only where an entry says so
abbrev pub PlacesAll : Type 0
PlacesAll =
    (allowed : PrimOp → Bool) (program : Expr) (e : Typed) (after : Work) → IsAllowed allowed program →
    elaborate_program program ≡ Makes e after → IsPlaced allowed after.casts e.term
