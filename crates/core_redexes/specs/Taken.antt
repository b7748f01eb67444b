-- What is taken out of terms to be put in the place of names, and what is put round terms.
use Rattle.std.specs.Prelude.{ℕ, Bool, true, false, List, [], ◌∷◌, Option, Some, None, option_map}
use Rattle.grift_base.specs.Types.{TypeRow, FunRow}
use Rattle.core_calc.specs.Calls.{cast_arguments}
use Rattle.core_calc.specs.Terms.{Terms, Bindings, Value, Values, Cast, NoTerms, TermThen, NoBindings, BindingThen}
use Rattle.core_calc.specs.Terms.{NoValues, ValueThen, as_value}
use Rattle.core_calc.specs.Substitution.{Substitution}

-- the name with its value in front of the rest, where there is a value
abbrev pub entry_then : ℕ → Option Value → Substitution → Substitution
entry_then name (Some v) rest = (name, v) ∷ rest
entry_then name None rest = rest

-- the names with their values
abbrev pub taken_bindings : Bindings → Substitution
taken_bindings NoBindings = []
taken_bindings (BindingThen name bound rest) = entry_then name (as_value bound) (taken_bindings rest)

-- the parameters with the values of arguments
abbrev pub taken_arguments : List ℕ → Terms → Substitution
taken_arguments names NoTerms = []
taken_arguments [] (TermThen term rest) = []
taken_arguments (name ∷ names) (TermThen term rest) = entry_then name (as_value term) (taken_arguments names rest)

-- the value in front of the rest, where there is one
abbrev pub value_or_rest : Option Value → Values → Values
value_or_rest (Some v) rest = ValueThen v rest
value_or_rest None rest = rest

-- the values of terms
abbrev pub taken_values : Terms → Values
taken_values NoTerms = NoValues
taken_values (TermThen term rest) = value_or_rest (as_value term) (taken_values rest)

-- whether there are as many of these as terms
abbrev pub as_many : {A : Type 0} → List A → Terms → Bool
as_many [] NoTerms = true
as_many [] (TermThen term rest) = false
as_many (item ∷ items) NoTerms = false
as_many (item ∷ items) (TermThen term rest) = as_many items rest

-- each term in a cast from one type to the other, as far as there are types
abbrev pub casts : Terms → List ℕ → List ℕ → ℕ → Terms
casts NoTerms froms tos label = NoTerms
casts (TermThen term rest) [] tos label = NoTerms
casts (TermThen term rest) (from ∷ froms) [] label = NoTerms
casts (TermThen term rest) (from ∷ froms) (to ∷ tos) label =
    TermThen (Cast term from to label) (casts rest froms tos label)

-- the arguments of a function of one type that is seen as one of the other, in casts, with the types of its answer and
-- of the answer that is wanted
abbrev pub wrapped_casts : Option TypeRow → Option TypeRow → Terms → ℕ → Option (Terms × ℕ × ℕ)
wrapped_casts (Some (FunRow parameters answer)) (Some (FunRow wanted_parameters wanted)) arguments label =
    option_map (λ casts. (casts, answer, wanted)) (cast_arguments arguments wanted_parameters parameters label)
wrapped_casts _ _ arguments label = None
