use Rattle.std.proofs.Common.{sym, ◌∙◌, arith}
use Rattle.insert_steps.proofs.Scoping.{find_none, find_within, find_some}
use Rattle.insert_steps.proofs.names.Scopes.find.Goals as goal

pub index-requires : goal.index-requires
index-requires c =
    let within = find_within c.self.inside.entries.items c.self.inside.places c.args.name.now c.in-Some.place
    c.self.invariant (sym c.newest.ensures ∙ c.in-Some.is) in
    omega (arith, c.self.inside.entries.ok.0)

pub returns-in-None : goal.returns-in-None
returns-in-None c =
    find_none c.self.inside.entries.items c.self.inside.places c.args.name.now c.args.self.now c.self.invariant
    c.self.view_is (sym c.newest.ensures ∙ c.in-None.is)

pub returns-in-Some : goal.returns-in-Some
returns-in-Some c =
    find_some c.self.inside.entries.items c.self.inside.places c.args.name.now c.args.self.now c.in-Some.place
    c.index.result.now c.self.invariant c.self.view_is (sym c.newest.ensures ∙ c.in-Some.is) c.index.ensures
