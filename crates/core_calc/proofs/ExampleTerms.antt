-- How programs of examples are written.
use Rattle.std.proofs.Common.{ℕ, List, [], ◌∷◌, pos, true, false}
use Rattle.grift_base.specs.declared.operators.PrimOp.TheVariants.{Sub, Eq}
use Rattle.core_calc.specs.Terms.{Term, Terms, Members, IntLit, BoolLit, Var, Let, Call, If, Seq, Prim, NoTerms}
use Rattle.core_calc.specs.Terms.{TermThen, NoBindings, BindingThen, NoMembers, MemberThen, terms_from}

abbrev pub int : ℕ → Term
int n = IntLit (pos n)

abbrev pub seq : List Term → Term
seq terms = Seq (terms_from terms)

abbrev pub one : Term → Terms
one term = TermThen term NoTerms

abbrev pub two : Term → Term → Terms
two first second = TermThen first (one second)

abbrev pub three : Term → Term → Term → Terms
three first second third = TermThen first (two second third)

abbrev pub let_one : ℕ → Term → Term → Term
let_one name bound body = Let (BindingThen name bound NoBindings) body

-- whether a number is even, told by another function that is asked of one less
abbrev counting_down : Term → ℕ → ℕ → Term
counting_down at_zero parameter other =
    If (Prim Eq (two (Var parameter) (int 0))) at_zero (Call (Var other) (one (Prim Sub (two (Var parameter) (int 1)))))

-- even and odd, both of this type
abbrev pub even_and_odd : ℕ → Members
even_and_odd type =
    MemberThen 0 (2 ∷ []) (counting_down (BoolLit true) 2 1) type
    (MemberThen 1 (3 ∷ []) (counting_down (BoolLit false) 3 0) type NoMembers)
