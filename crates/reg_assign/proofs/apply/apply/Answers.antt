use Rattle.std.proofs.Common.{◌≡◌, ◌∙◌, ap, rules}
use Rattle.std.proofs.lemmas.Result.{IfOk-weaker}
use Rattle.rv_select.specs.Fitting.{each_fits}
use Rattle.placed_code.specs.Slots.{slots_items}
use Rattle.placed_code.specs.Slotted.{free_mark, EachHasFew, IsSlotsOf}
use Rattle.placed_code.specs.Places.{place_in}
use Rattle.placed_code.specs.Rename.{densely, renamed}
use Rattle.placed_code.specs.Applied.{IsApplied}
use Rattle.placed_code.proofs.Public.{is_applied, renamed_fit}
use Rattle.reg_assign.proofs.apply.apply.Goals as goal

pub slots-requires : goal.slots-requires
slots-requires c =
    let place = place_in c.args.assignment.now.places in
    let same : c.put_renamed.new.renamed ≡ renamed (densely place) c.args.code.now.items = search rules in
    ap each_fits same ∙ renamed_fit (densely place) c.args.code.now.items c.requires.small

pub returns : goal.returns
returns c =
    let place = place_in c.args.assignment.now.places in
    let same : c.put_renamed.new.renamed ≡ renamed (densely place) c.args.code.now.items = search rules in
    let few : EachHasFew c.args.code.now.items = search rules in
    IfOk-weaker c.slots.result (λ real. IsSlotsOf c.put_renamed.new.renamed real.items)
    (λ real. IsApplied place c.args.code.now.items real.items)
    (λ real is. is_applied place c.args.code.now.items c.requires.holds.0 real.items c.requires.holds.1 few
    (is.exactly ∙ ap (λ xs. slots_items (free_mark xs) xs) same))
    c.slots.ensures
