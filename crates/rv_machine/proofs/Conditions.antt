-- A condition and the branch that tests it.
use Rattle.std.proofs.Common.{ℕ, ◌≡◌, refl}
use Rattle.std.specs.Prelude.{ℤ}
use Rattle.machine_words.specs.declared.conditions.Cond.{Cond}
use Rattle.machine_words.specs.declared.conditions.Cond.TheVariants.{Eq, Ne, Lt, Ge, Ltu, Geu}
use Rattle.rv_machine.specs.Branches.{branch_when}
use Rattle.rv_machine.specs.State.{State, reg}
use Rattle.rv_machine.specs.Turn.{act, branch_if}
use Rattle.machine_words.specs.Conditions.{holds}

pub a_condition_is_that_of_its_branch : (cond : Cond) (a b : ℕ) (offset : ℤ) (s : State) →
    act (branch_when cond a b offset) s ≡ branch_if (holds cond (reg s a) (reg s b)) offset s
a_condition_is_that_of_its_branch Eq a b offset s = refl
a_condition_is_that_of_its_branch Ne a b offset s = refl
a_condition_is_that_of_its_branch Lt a b offset s = refl
a_condition_is_that_of_its_branch Ge a b offset s = refl
a_condition_is_that_of_its_branch Ltu a b offset s = refl
a_condition_is_that_of_its_branch Geu a b offset s = refl
