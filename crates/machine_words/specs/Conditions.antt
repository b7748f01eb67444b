-- What conditions compare.
use Rattle.std.specs.Prelude.{ℕ, ◌==◌, Bool, not, nat_lt}
use Rattle.machine_words.specs.declared.conditions.Cond.{Cond}
use Rattle.machine_words.specs.declared.conditions.Cond.TheVariants.{Eq, Ne, Lt, Ge, Ltu, Geu}
use Rattle.machine_words.specs.Arithmetic.{signed_less}

-- whether a condition holds of two words
abbrev pub holds : Cond → ℕ → ℕ → Bool
holds Eq a b = a == b
holds Ne a b = not (a == b)
holds Lt a b = signed_less a b
holds Ge a b = not (signed_less a b)
holds Ltu a b = nat_lt a b
holds Geu a b = not (nat_lt a b)
