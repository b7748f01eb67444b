use Rattle.core_calc.specs.declared.terms.CoreList.{size-CoreList}
use Rattle.core_calc.specs.declared.terms.GroupMembers.{size-GroupMembers}
use Rattle.core_calc.specs.declared.terms.CoreBindings.{size-CoreBindings}
use Rattle.core_calc.specs.Views.{terms_of, members_of, bindings_of}
use Rattle.coer_core.specs.TermLists.{terms_onto, members_onto, bindings_onto}
use Rattle.coer_core.specs.Conversion.{cast_views, converted_all, converted_members, converted_bindings}
use Rattle.coer_core.specs.Views.{row_terms_of, row_members_of, row_bindings_of}
use Rattle.coer_core.proofs.ListsConverted.{Converting}
use Rattle.coer_core.proofs.conversion.+conversion.Given as goal

-- what is left, with what is done in front of it, comes to the whole

abbrev pub invariant-converted_all-loop-left : goal.invariant-converted_all-loop-left
invariant-converted_all-loop-left l =
    Converting terms_onto row_terms_of converted_all terms_of size-CoreList (cast_views l.fn.casts)
    (cast_views l.casts) l.done l.left l.fn.terms

abbrev pub invariant-converted_members-loop-left : goal.invariant-converted_members-loop-left
invariant-converted_members-loop-left l =
    Converting members_onto row_members_of converted_members members_of size-GroupMembers (cast_views l.fn.casts)
    (cast_views l.casts) l.functions l.left l.fn.members

abbrev pub invariant-converted_bindings-loop-left : goal.invariant-converted_bindings-loop-left
invariant-converted_bindings-loop-left l =
    Converting bindings_onto row_bindings_of converted_bindings bindings_of size-CoreBindings (cast_views l.fn.casts)
    (cast_views l.casts) l.bound l.left l.fn.bindings
