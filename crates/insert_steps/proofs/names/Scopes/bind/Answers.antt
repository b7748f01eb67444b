use Rattle.std.proofs.Common.{◌≡◌, ◌≤◌, suc, length, sym, ap, ◌∙◌, subst, arith}
use Rattle.std.specs.HashMap.{get}
use Rattle.surface_trees.specs.contracts.names.IdentPartialEq.TheImpl.{ghosts}
use Rattle.insert_steps.specs.Scoped.{AreFound, kept_place}
use Rattle.insert_steps.proofs.Scoping.{found_push}
use Rattle.insert_steps.proofs.names.Scopes.bind.Goals as goal

pub invariant_of-self-in-Ok : goal.invariant_of-self-in-Ok
invariant_of-self-in-Ok c =
    let entries = c.self.inside.entries.items in
    let places = c.self.inside.places in
    let key = c.in_ok-key.ensures ∙ sym c.in_ok-own.ensures in
    let hidden = c.newest-hidden.ensures ∙ ap (λ n. kept_place (get ghosts.eq places n)) (sym c.in_ok-own.ensures) in
    let here : c.len-place.result ≡ length entries = omega (arith, c.self.inside.entries.ok.0) in
    let room : suc (length entries) ≤ 4294967295 = omega (arith, c.self.inside.entries.ok.0) in
    subst (λ xs. AreFound xs c.insert.new.self) (sym c.in_ok-push.ensures.items)
    (found_push entries _ places c.insert.new.self c.in_ok-key.key c.len-place.result c.self.invariant key
    hidden here room
    c.in-Ok.ensures.updates.0)
