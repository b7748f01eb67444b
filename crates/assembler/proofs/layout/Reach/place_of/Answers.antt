use Rattle.std.proofs.Common.{◌≡◌, ap, sym, ◌∙◌, length, arith}
use Rattle.std.specs.Option.{option_copied}
use Rattle.assembler.specs.Tables.{place_or}
use Rattle.assembler.specs.Layout.{mark_place}
use Rattle.assembler.proofs.Places.{mark_inside}
use Rattle.assembler.proofs.layout.Reach.place_of.Goals as goal

pub returns-in-Some-clause-inside : goal.returns-in-Some-clause-inside
returns-in-Some-clause-inside c =
    let items = c.args.items.now in
    let found = sym (ap option_copied c.in-Some.is) ∙ c.get.ensures.value in
    let same : c.in-Some.place.now ≡ mark_place c.args.mark items = ap (place_or (length items)) found
    ∙ c.requires.reach.places c.args.mark in
    let inside = mark_inside c.args.mark items in
    omega arith
