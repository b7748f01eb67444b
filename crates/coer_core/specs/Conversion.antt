-- The numbers that casts get, in order of first use, and the terms with them.
use Rattle.std.specs.Prelude.{ℕ, nat_eq, ◌&&◌, Bool, if◌then◌else◌, List, [], ◌∷◌, ◌++◌, map}
use Rattle.std.specs.List.{list_any, position_or_len}
use Rattle.core_calc.specs.Terms.{Term, Terms, Members, Bindings, IntLit, BoolLit, UnitLit, Var, Lambda, Group, Let}
use Rattle.core_calc.specs.Terms.{Call, Enter, If, Seq, Cast as CastTerm, Proj, ProjDyn, Tuple, Prim, ValueTerm}
use Rattle.core_calc.specs.Terms.{NoTerms, TermThen}
use Rattle.core_calc.specs.Terms.{NoMembers, MemberThen, NoBindings, BindingThen}
use Rattle.coercion_norm.specs.declared.casts.Cast.{Cast}
use Rattle.cast_modes.specs.Modes.{TypeCast, type_cast}
use Rattle.coer_core.specs.Terms.{RowTerm, RowTerms, RowMembers, RowBindings, RowInt, RowBool, RowUnit, RowVar}
use Rattle.coer_core.specs.Terms.{RowLambda, RowGroup, RowLet, RowCall, RowIf, RowSeq, RowCast, RowProj, RowProjDyn}
use Rattle.coer_core.specs.Terms.{RowTuple, RowPrim, NoRowTerms, RowTermThen, NoRowMembers, RowMemberThen}
use Rattle.coer_core.specs.Terms.{NoRowBindings, RowBindingThen}
use Rattle.coer_core.specs.Gathered.{Gathers, gathered}

-- ---- casts in order of first use

-- the casts of a term, each as often as it stands there: that of an inner term before that of an outer one, and of
-- parts from left to right
abbrev pub all_casts : Gathers TypeCast
all_casts = record {
  cast = λ from to label inner. inner ++ type_cast from label to ∷ [];
  part = λ k label inner. inner;
  operation = λ operator inner. inner;
  entered = λ inner. [];
}

abbrev pub casts_in : Term → List TypeCast
casts_in term = gathered all_casts term

-- whether two casts are the same
abbrev pub same_cast : TypeCast → TypeCast → Bool
same_cast a b = nat_eq a.from b.from && (nat_eq a.to b.to && nat_eq a.label b.label)

-- the number of a cast among these: its place, or the next one where it is not there
abbrev pub number_of : List TypeCast → TypeCast → ℕ
number_of casts cast = position_or_len (same_cast cast) casts

-- these casts, and this one last where it is not there
abbrev pub with_cast : List TypeCast → TypeCast → List TypeCast
with_cast casts cast = if list_any (same_cast cast) casts then casts else casts ++ cast ∷ []

-- these casts, and behind them others that are not there, in order of first use
abbrev pub with_casts : List TypeCast → List TypeCast → List TypeCast
with_casts casts [] = casts
with_casts casts (cast ∷ rest) = with_casts (with_cast casts cast) rest

-- ---- the compiler's casts

-- a cast by the numbers of its types and its label
abbrev pub cast_view : Cast → TypeCast
cast_view cast = type_cast cast.from.0 cast.label.0 cast.to.0

abbrev pub cast_views : List Cast → List TypeCast
cast_views casts = map cast_view casts

-- ---- terms with numbers

-- what became of a term, and the casts that were met so far
pub record Converted (A : Type 0) : Type 0 where
  pub term : A
  pub casts : List TypeCast

-- a term with the casts
abbrev pub conversion : {A : Type 0} → A → List TypeCast → Converted A
conversion term casts = record { term = term; casts = casts }

-- where these casts were met already. A program term has neither Enter nor a value
abbrev mutual
  pub converted : List TypeCast → Term → Converted RowTerm
  converted casts (IntLit n) = conversion (RowInt n) casts
  converted casts (BoolLit b) = conversion (RowBool b) casts
  converted casts UnitLit = conversion RowUnit casts
  converted casts (Var name) = conversion (RowVar name) casts
  converted casts (Lambda parameters body type) =
      let inner = converted casts body in
      conversion (RowLambda parameters inner.term type) inner.casts
  converted casts (Group members body) =
      let first = converted_members casts members in
      let inner = converted first.casts body in
      conversion (RowGroup first.term inner.term) inner.casts
  converted casts (Let bindings body) =
      let first = converted_bindings casts bindings in
      let inner = converted first.casts body in
      conversion (RowLet first.term inner.term) inner.casts
  converted casts (Call function arguments) =
      let first = converted casts function in
      let others = converted_all first.casts arguments in
      conversion (RowCall first.term others.term) others.casts
  converted casts (Enter function arguments) = conversion RowUnit casts
  converted casts (If condition on_true on_false) =
      let first = converted casts condition in
      let second = converted first.casts on_true in
      let third = converted second.casts on_false in
      conversion (RowIf first.term second.term third.term) third.casts
  converted casts (Seq terms) =
      let all = converted_all casts terms in
      conversion (RowSeq all.term) all.casts
  converted casts (CastTerm term from to label) =
      let inner = converted casts term in
      let cast = type_cast from label to in
      conversion (RowCast inner.term (number_of inner.casts cast)) (with_cast inner.casts cast)
  converted casts (Proj term k) =
      let inner = converted casts term in
      conversion (RowProj inner.term k) inner.casts
  converted casts (ProjDyn term k label) =
      let inner = converted casts term in
      conversion (RowProjDyn inner.term k label) inner.casts
  converted casts (Tuple parts) =
      let all = converted_all casts parts in
      conversion (RowTuple all.term) all.casts
  converted casts (Prim operator operands) =
      let all = converted_all casts operands in
      conversion (RowPrim operator all.term) all.casts
  converted casts (ValueTerm v) = conversion RowUnit casts

  pub converted_all : List TypeCast → Terms → Converted RowTerms
  converted_all casts NoTerms = conversion NoRowTerms casts
  converted_all casts (TermThen term rest) =
      let first = converted casts term in
      let others = converted_all first.casts rest in
      conversion (RowTermThen first.term others.term) others.casts

  pub converted_members : List TypeCast → Members → Converted RowMembers
  converted_members casts NoMembers = conversion NoRowMembers casts
  converted_members casts (MemberThen name parameters body type rest) =
      let first = converted casts body in
      let others = converted_members first.casts rest in
      conversion (RowMemberThen name parameters first.term type others.term) others.casts

  pub converted_bindings : List TypeCast → Bindings → Converted RowBindings
  converted_bindings casts NoBindings = conversion NoRowBindings casts
  converted_bindings casts (BindingThen name bound rest) =
      let first = converted casts bound in
      let others = converted_bindings first.casts rest in
      conversion (RowBindingThen name first.term others.term) others.casts
