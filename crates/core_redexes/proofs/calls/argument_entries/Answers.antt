use Rattle.std.proofs.Common.{◌≡◌, ◌<◌, ◌∙◌, ◌++◌, ◌∷◌, [], List, length, refl, ap, sym, arith}
use Rattle.std.proofs.lemmas.List.{append-nil}
use Rattle.core_calc.specs.declared.terms.VarId.{VarId}
use Rattle.core_calc.specs.Terms.{Term, TermThen, Terms}
use Rattle.core_calc.specs.Views.{names_of, term_of, terms_of}
use Rattle.core_terms.specs.Entries.{entries_of}
use Rattle.core_redexes.specs.Taken.{taken_arguments}
use Rattle.core_redexes.proofs.calls.argument_entries.Goals as goal

pub loop-left-init : goal.loop-left-init
loop-left-init c =
    ap (λ x. entries_of x ++ taken_arguments (names_of c.args.names.now) (terms_of c.args.arguments.now))
    c.new-entries.ensures.items

pub returns : goal.returns
returns c =
    sym (append-nil (entries_of c.loop-left.entries.items))
    ∙ ap (λ x. entries_of c.loop-left.entries.items ++ taken_arguments (names_of c.loop-left.names.now) (terms_of x))
    (sym c.in_default.is)
    ∙ c.loop-left.invariant

no_names : (names : List VarId) (term : Term) (rest : Terms) → length names < 1 →
    taken_arguments (names_of names) (TermThen term rest) ≡ []
no_names [] term rest l = refl
no_names (name ∷ names) term rest l = absurd (omega arith)

pub returns-in_default-names : goal.returns-in_default-names
returns-in_default-names c =
    sym (append-nil (entries_of c.loop-left.entries.items))
    ∙ ap (λ x. entries_of c.loop-left.entries.items ++ x)
    (sym (no_names c.loop-left.names.now (term_of c.in-Cons.first.value) (terms_of c.in-Cons.rest.value)
    c.in_default-names.len_below))
    ∙ ap (λ x. entries_of c.loop-left.entries.items ++ taken_arguments (names_of c.loop-left.names.now) (terms_of x))
    (sym c.in-Cons.is)
    ∙ c.loop-left.invariant
