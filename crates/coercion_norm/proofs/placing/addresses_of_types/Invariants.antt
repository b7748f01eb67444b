use Rattle.std.proofs.Common.{◌≡◌, ◌*◌, ◌≤◌}
use Rattle.coercion_norm.specs.Placed.{AreTypeAddresses, words_before}
use Rattle.coercion_norm.proofs.placing.addresses_of_types.Given as goal

abbrev pub invariant-loop-t : goal.invariant-loop-t
invariant-loop-t l =
    AreTypeAddresses l.types l.start l.t l.type_at × (l.before ≡ words_before l.types l.t) × (l.before ≤ 9 * l.t)
