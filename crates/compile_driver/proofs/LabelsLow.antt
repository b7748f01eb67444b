-- The labels of a typed term are below the number of labels.
use Rattle.std.proofs.Common.{ℕ, suc, ◌≤◌, max, List, ◌++◌, arith}
use Rattle.grift_base.specs.Types.{TypeRows}
use Rattle.core_calc.specs.Terms.{Term, Terms, Members, Bindings, IntLit, BoolLit, UnitLit, Var, Lambda, Group, Let}
use Rattle.core_calc.specs.Terms.{Call, Enter, If, Seq, Cast, Proj, ProjDyn, Tuple, Prim, ValueTerm, NoTerms, TermThen}
use Rattle.core_calc.specs.Terms.{NoMembers, MemberThen, NoBindings, BindingThen}
use Rattle.core_calc.specs.Typing.{Context, CellType, HasType, HaveTypes, LastHasType, MembersHaveTypes}
use Rattle.core_calc.specs.Typing.{BindingsHaveTypes, member_types}
use Rattle.core_calc.specs.TypeOf.{labels_end, labels_end_of_all, labels_end_of_members, labels_end_of_bindings}

both : (a b n : ℕ) → a ≤ n → b ≤ n → max a b ≤ n
both a b n h g = omega (arith, h, g)

none : (n : ℕ) → 0 ≤ n
none n = omega arith

module _ (types : TypeRows) (labels : ℕ) (cells : List CellType) where
  mutual
    pub labels_low : (term : Term) (context : Context) (type : ℕ) → HasType types labels cells context term type
        → labels_end term ≤ labels
    labels_low (IntLit n) context type h = none labels
    labels_low (BoolLit b) context type h = none labels
    labels_low UnitLit context type h = none labels
    labels_low (Var name) context type h = none labels
    labels_low (Lambda parameters body written) context type h = labels_low body (h.1.2 ++ context) h.1.1 h.1.5
    labels_low (Group members body) context type h =
        both (labels_end_of_members members) (labels_end body) labels
        (members_low members (member_types members ++ context) h.0)
        (labels_low body (member_types members ++ context) type h.1)
    labels_low (Let bindings body) context type h =
        both (labels_end_of_bindings bindings) (labels_end body) labels (bindings_low bindings context h.0 h.1)
        (labels_low body (h.0 ++ context) type h.2)
    labels_low (Call function arguments) context type h =
        both (labels_end function) (labels_end_of_all arguments) labels (labels_low function context h.0 h.2)
        (all_low arguments context h.1 h.4)
    labels_low (Enter function arguments) context type h =
        both (labels_end function) (labels_end_of_all arguments) labels (labels_low function context h.0 h.2)
        (all_low arguments context h.1 h.4)
    labels_low (If condition on_true on_false) context type h =
        both (labels_end condition) (max (labels_end on_true) (labels_end on_false)) labels
        (labels_low condition context h.0 h.1)
        (both (labels_end on_true) (labels_end on_false) labels (labels_low on_true context type h.3)
        (labels_low on_false context type h.4))
    labels_low (Seq terms) context type h = last_low terms context type h
    labels_low (Cast term from to label) context type h =
        both (labels_end term) (suc label) labels (labels_low term context from h.1)
        (let low = h.3 in omega (arith, low))
    labels_low (Proj term k) context type h = labels_low term context h.0 h.2
    labels_low (ProjDyn term k label) context type h =
        both (labels_end term) (suc label) labels (labels_low term context type h.0)
        (let low = h.2 in omega (arith, low))
    labels_low (Tuple parts) context type h = all_low parts context h.0 h.1
    labels_low (Prim operator operands) context type h = all_low operands context h.0 h.1
    labels_low (ValueTerm v) context type h = none labels

    all_low : (terms : Terms) (context : Context) (term_types : List ℕ)
        → HaveTypes types labels cells context terms term_types → labels_end_of_all terms ≤ labels
    all_low NoTerms context term_types h = none labels
    all_low (TermThen term rest) context term_types h =
        both (labels_end term) (labels_end_of_all rest) labels (labels_low term context h.0 h.3)
        (all_low rest context h.1 h.4)

    last_low : (terms : Terms) (context : Context) (type : ℕ) → LastHasType types labels cells context terms type
        → labels_end_of_all terms ≤ labels
    last_low NoTerms context type h = absurd h
    last_low (TermThen term NoTerms) context type h =
        both (labels_end term) 0 labels (labels_low term context type h) (none labels)
    last_low (TermThen term (TermThen second rest)) context type h =
        both (labels_end term) (labels_end_of_all (TermThen second rest)) labels (labels_low term context h.0.0 h.0.1)
        (last_low (TermThen second rest) context type h.1)

    members_low : (members : Members) (context : Context) → MembersHaveTypes types labels cells context members
        → labels_end_of_members members ≤ labels
    members_low NoMembers context h = none labels
    members_low (MemberThen name parameters body type rest) context h =
        both (labels_end body) (labels_end_of_members rest) labels (labels_low body (h.0.2 ++ context) h.0.1 h.0.5)
        (members_low rest context h.1)

    bindings_low : (bindings : Bindings) (context bound : Context)
        → BindingsHaveTypes types labels cells context bindings bound → labels_end_of_bindings bindings ≤ labels
    bindings_low NoBindings context bound h = none labels
    bindings_low (BindingThen name term rest) context bound h =
        both (labels_end term) (labels_end_of_bindings rest) labels (labels_low term context h.0 h.3)
        (bindings_low rest context h.1 h.4)
