use Rattle.std.proofs.Common.{◌≡◌, ◌==◌, false, length, sym, ap, ◌∙◌}
use Rattle.sexpr_reader.proofs.Lists.{nil_from_last, ended-some}
use Rattle.sexpr_reader.proofs.readers.Reader.finish.Goals as goal

pub returns : goal.returns
returns c =
    let some : (length c.args.self.items.items == 0) ≡ false = ap (λ n. n == 0) (sym c.args.self.items.ok.0)
    ∙ sym c.is_empty.ensures ∙ c.if-is_empty.false in
    ended-some c.args.self.around.items c.args.self.items.items _
    (sym c.deref.ensures.value ∙ nil_from_last c.deref.result.now c.in_default.ensures.value) some
    c.in_ok-list_of.ensures
