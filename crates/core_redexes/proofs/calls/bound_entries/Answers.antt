use Rattle.std.proofs.Common.{◌∙◌, ◌++◌, ap, sym}
use Rattle.std.proofs.lemmas.List.{append-nil}
use Rattle.core_calc.specs.Views.{bindings_of}
use Rattle.core_terms.specs.Entries.{entries_of}
use Rattle.core_redexes.specs.Taken.{taken_bindings}
use Rattle.core_redexes.proofs.calls.bound_entries.Goals as goal

pub loop-left-init : goal.loop-left-init
loop-left-init c =
    ap (λ x. entries_of x ++ taken_bindings (bindings_of c.args.bindings.now)) c.new-entries.ensures.items

pub returns : goal.returns
returns c =
    sym (append-nil (entries_of c.loop-left.entries.items))
    ∙ ap (λ x. entries_of c.loop-left.entries.items ++ taken_bindings (bindings_of x)) (sym c.in_default.is)
    ∙ c.loop-left.invariant
