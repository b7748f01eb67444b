use Rattle.std.proofs.Common.{◌≡◌, ◌∙◌, Some, ap}
use Rattle.std.specs.Prelude.{option_map}
use Rattle.std.proofs.lemmas.Result.{IfOk-weaker}
use Rattle.core_calc.specs.Substitution.{entry_of, group_values}
use Rattle.core_calc.specs.Views.{members_of, value_of}
use Rattle.core_terms.specs.Entries.{entries_of, with_group}
use Rattle.core_terms.proofs.Hiding.{found_in_front, found_behind}
use Rattle.core_terms.proofs.substitution.value_for.Goals as goal

pub returns-in_ok-v-in-Some : goal.returns-in_ok-v-in-Some
returns-in_ok-v-in-Some c =
    found_in_front c.args.name.0 (entries_of c.args.entries.now) (group_values (members_of c.args.members.now))
    (value_of c.in_ok-v-in-Some.v) (ap (λ x. Some x) c.in_ok-v-in-Some.ensures ∙ c.in-Some.ensures)

pub returns-in-None : goal.returns-in-None
returns-in-None c =
    IfOk-weaker c.member_value.result
    (λ o. option_map value_of o ≡ entry_of c.args.name.0 (group_values (members_of c.args.members.now)))
    (λ o. option_map value_of o
    ≡ entry_of c.args.name.0 (with_group c.args.entries.now (members_of c.args.members.now)))
    (λ o e. found_behind c.args.name.0 (entries_of c.args.entries.now)
    (group_values (members_of c.args.members.now)) (option_map value_of o) c.in-None.ensures e) c.member_value.ensures
