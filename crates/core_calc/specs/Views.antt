-- The compiler's terms as terms of the calculus: what their boxes hold, and not where.
use Rattle.std.specs.Prelude.{ℕ, List, map}
use Rattle.core_calc.specs.declared.terms.VarId.{VarId}
use Rattle.core_calc.specs.declared.terms.Core.{Core}
use Rattle.core_calc.specs.declared.terms.Core.TheVariants.{Int, Bool, Unit as UnitCase, Var as VarCase}
use Rattle.core_calc.specs.declared.terms.Core.TheVariants.{Lambda' as LambdaCase, Group' as GroupCase, Let' as LetCase}
use Rattle.core_calc.specs.declared.terms.Core.TheVariants.{Call' as CallCase, Enter' as EnterCase, If' as IfCase}
use Rattle.core_calc.specs.declared.terms.Core.TheVariants.{Seq as SeqCase, Cast' as CastCase, Proj' as ProjCase}
use Rattle.core_calc.specs.declared.terms.Core.TheVariants.{ProjDyn' as ProjDynCase, Tuple as TupleCase}
use Rattle.core_calc.specs.declared.terms.Core.TheVariants.{Prim as PrimCase, Value as ValueCase}
use Rattle.core_calc.specs.declared.terms.CoreList.{CoreList}
use Rattle.core_calc.specs.declared.terms.CoreList.TheVariants.{Nil, Cons'}
use Rattle.core_calc.specs.declared.terms.GroupMember.{GroupMember, out-GroupMember}
use Rattle.core_calc.specs.declared.terms.GroupMembers.{GroupMembers}
use Rattle.core_calc.specs.declared.terms.GroupMembers.TheVariants.{Nil as NoMember, Cons' as MemberCons}
use Rattle.core_calc.specs.declared.terms.CoreBinding.{CoreBinding, out-CoreBinding}
use Rattle.core_calc.specs.declared.terms.CoreBindings.{CoreBindings}
use Rattle.core_calc.specs.declared.terms.CoreBindings.TheVariants.{Nil as NoBinding, Cons' as BindingCons}
use Rattle.core_calc.specs.declared.terms.Value.{Value as RustValue}
use Rattle.core_calc.specs.declared.terms.Value.TheVariants.{Int as IntKind, Bool as BoolKind, Unit as UnitKind}
use Rattle.core_calc.specs.declared.terms.Value.TheVariants.{Fun' as FunKind, GroupMember as MemberKind}
use Rattle.core_calc.specs.declared.terms.Value.TheVariants.{Tuple as TupleKind, Loc as LocKind, Wrap' as WrapKind}
use Rattle.core_calc.specs.declared.terms.Value.TheVariants.{Inject' as InjectKind}
use Rattle.core_calc.specs.declared.terms.Values.{Values as RustValues}
use Rattle.core_calc.specs.declared.terms.Values.TheVariants.{Nil as NoValue, Cons' as ValueCons}
use Rattle.core_calc.specs.Terms.{Member, Binding, Term, Terms, Members, Bindings, Value, Values, IntLit, BoolLit}
use Rattle.core_calc.specs.Terms.{UnitLit, Var, Lambda}
use Rattle.core_calc.specs.Terms.{Group, Let, Call, Enter, If, Seq, Cast, Proj, ProjDyn, Tuple, Prim, ValueTerm}
use Rattle.core_calc.specs.Terms.{NoTerms, TermThen, NoMembers, MemberThen, NoBindings, BindingThen, IntValue}
use Rattle.core_calc.specs.Terms.{BoolValue, UnitValue, FunValue, MemberValue, TupleValue, LocValue, WrapValue}
use Rattle.core_calc.specs.Terms.{InjectValue, NoValues, ValueThen}

-- the numbers of names
abbrev pub names_of : List VarId → List ℕ
names_of names = map (λ name. name.0) names

abbrev mutual
  pub term_of : Core → Term
  term_of (Int n) = IntLit n
  term_of (Bool b) = BoolLit b
  term_of UnitCase = UnitLit
  term_of (VarCase name) = Var name.0
  term_of (LambdaCase params _ body type) = Lambda (names_of params) (term_of body) type.0
  term_of (GroupCase members _ body) = Group (members_of members) (term_of body)
  term_of (LetCase bindings _ body) = Let (bindings_of bindings) (term_of body)
  term_of (CallCase _ function arguments) = Call (term_of function) (terms_of arguments)
  term_of (EnterCase _ function arguments) = Enter (term_of function) (terms_of arguments)
  term_of (IfCase _ condition _ on_true _ on_false) = If (term_of condition) (term_of on_true) (term_of on_false)
  term_of (SeqCase terms) = Seq (terms_of terms)
  term_of (CastCase _ term from to label) = Cast (term_of term) from.0 to.0 label.0
  term_of (ProjCase _ term k) = Proj (term_of term) k
  term_of (ProjDynCase _ term k label) = ProjDyn (term_of term) k label.0
  term_of (TupleCase parts) = Tuple (terms_of parts)
  term_of (PrimCase operator operands) = Prim operator (terms_of operands)
  term_of (ValueCase v) = ValueTerm (value_of v)

  pub terms_of : CoreList → Terms
  terms_of Nil = NoTerms
  terms_of (Cons' _ term _ rest) = TermThen (term_of term) (terms_of rest)

  pub members_of : GroupMembers → Members
  members_of NoMember = NoMembers
  members_of (MemberCons _ name params body type _ rest) =
      MemberThen name.0 (names_of params) (term_of body) type.0 (members_of rest)

  pub bindings_of : CoreBindings → Bindings
  bindings_of NoBinding = NoBindings
  bindings_of (BindingCons _ name bound _ rest) = BindingThen name.0 (term_of bound) (bindings_of rest)

  pub value_of : RustValue → Value
  value_of (IntKind n) = IntValue n
  value_of (BoolKind b) = BoolValue b
  value_of UnitKind = UnitValue
  value_of (FunKind params _ body type) = FunValue (names_of params) (term_of body) type.0
  value_of (MemberKind members place) = MemberValue (members_of members) place
  value_of (TupleKind values) = TupleValue (values_of values)
  value_of (LocKind cell is_vector) = LocValue cell is_vector
  value_of (WrapKind _ v from label to) = WrapValue (value_of v) from.0 label.0 to.0
  value_of (InjectKind _ v kept) = InjectValue (value_of v) kept.0

  pub values_of : RustValues → Values
  values_of NoValue = NoValues
  values_of (ValueCons _ v _ rest) = ValueThen (value_of v) (values_of rest)

abbrev pub member_of : GroupMember → Member
member_of member = record {
  name = (out-GroupMember member).name.0;
  parameters = names_of (out-GroupMember member).params;
  body = term_of (out-GroupMember member).body;
  type = (out-GroupMember member).ty.0;
}

abbrev pub binding_of : CoreBinding → Binding
binding_of binding = record { name = (out-CoreBinding binding).name.0; bound = term_of (out-CoreBinding binding).value }
