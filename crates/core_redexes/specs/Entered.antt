-- The body of a function that is entered.
use Rattle.std.specs.Prelude.{ℕ, ◌++◌, cond, List, [], Option, Some, None, slice_get}
use Rattle.core_calc.specs.Terms.{Term, Terms, Member, Value, FunValue, MemberValue, member_list}
use Rattle.core_calc.specs.Substitution.{Substitution, substitute, group_values}
use Rattle.core_redexes.specs.Taken.{as_many, taken_arguments}

-- with values in the place of as many parameters
abbrev pub with_arguments : List ℕ → Term → Substitution → Terms → Option Term
with_arguments parameters body group arguments =
    cond (as_many parameters arguments) (Some (substitute body (taken_arguments parameters arguments ++ group))) None

abbrev pub member_entered : Option Member → Substitution → Terms → Option Term
member_entered (Some member) group arguments = with_arguments member.parameters member.body group arguments
member_entered None group arguments = None

-- of a function, or of a member of a group
abbrev pub entered : Option Value → Terms → Option Term
entered (Some (FunValue parameters body type)) arguments = with_arguments parameters body [] arguments
entered (Some (MemberValue members place)) arguments =
    member_entered (slice_get (member_list members) place) (group_values members) arguments
entered _ arguments = None
