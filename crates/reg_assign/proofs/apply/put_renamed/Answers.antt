use Rattle.std.proofs.Common.{◌≡◌, ◌+◌, ◌++◌, ◌∷◌, refl, sym, ◌∙◌, ap, subst, drop}
use Rattle.rv_select.specs.declared.code.VirtualItem.TheVariants.{Procedure}
use Rattle.placed_code.specs.Slotted.{EachHasFew}
use Rattle.placed_code.specs.Places.{place_in}
use Rattle.placed_code.specs.Rename.{kept_in, densely, rename_all}
use Rattle.placed_code.proofs.Public.{few_other, few_procedure, put_other, put_procedure, rest_is}
use Rattle.reg_assign.proofs.apply.put_renamed.Goals as goal
use Rattle.reg_assign.proofs.apply.put_renamed.Goals.{in-Procedure+in_ok-kept-2+in_ok-slots+in_ok-push}
use Rattle.reg_assign.proofs.apply.put_renamed.Goals.{in_default+in_ok-other+in_ok-push-2}

pub loop-item-preserved : goal.loop-item-preserved
loop-item-preserved c =
    let place = place_in c.args.places.now in
    let items = c.args.items.now in
    let i = c.loop-item.item-index in
    let inv = c.loop-item.invariant in
    let all = c.args.renamed.now ++ rename_all (densely place) 0 0 items in
    elim c.match-item.branch [
      | in-Procedure+in_ok-kept-2+in_ok-slots+in_ok-push w ↦
          let kept = w.in_ok-kept-2.kept in
          let f : c.match-item.kept.first ≡ w.in-Procedure.first =
          ap (λ k. k.first) w.kept-is ∙ w.in_ok-kept-2.ensures.kept.0 in
          let s = w.in_ok-kept-2.ensures.kept.1 in
          let e : drop i items ≡ Procedure w.in-Procedure.k w.in-Procedure.first w.in-Procedure.count ∷ drop (i + 1)
          items =
          rest_is items i c.item-item.result (Procedure w.in-Procedure.k w.in-Procedure.first w.in-Procedure.count)
          c.loop-item-test.true c.item-item.is w.in-Procedure.is in (
            w.in-Procedure.count,
            ap (λ k. k.slots.keys) w.kept-is ∙ (s ∙ ap (λ x. kept_in place x w.in-Procedure.count) (sym f)),
            subst (λ x. c.match-item.renamed ++ rename_all (densely place) x w.in-Procedure.count (drop (i + 1) items)
                ≡ all)
                (sym f)
                (put_procedure place c.loop-item.kept.first inv.0 w.in-Procedure.k w.in-Procedure.first
                w.in-Procedure.count w.in_ok-slots.slots kept.slots.keys c.loop-item.renamed c.match-item.renamed all
                (drop i items) (drop (i + 1) items) e s (w.in_ok-slots.ensures ∙ w.len.ensures.len)
                (w.renamed-is ∙ w.in_ok-push.ensures.ok) inv.2),
            few_procedure w.in-Procedure.k w.in-Procedure.first w.in-Procedure.count (drop i items) (drop (i + 1) items)
                (EachHasFew items) e w.in_ok-kept-2.ensures.few inv.3,
          )
      | in_default+in_ok-other+in_ok-push-2 w ↦
          let e : drop i items ≡ c.item-item.result ∷ drop (i + 1) items =
          rest_is items i c.item-item.result c.item-item.result c.loop-item-test.true c.item-item.is refl in (
            inv.0,
            ap (λ k. k.slots.keys) w.kept-is ∙ (inv.1 ∙ ap (λ k. kept_in place k.first inv.0) (sym w.kept-is)),
            subst (λ k. c.match-item.renamed ++ rename_all (densely place) k.first inv.0 (drop (i + 1) items) ≡ all)
                (sym w.kept-is)
                (put_other place c.loop-item.kept.first inv.0 c.loop-item.kept.slots.keys c.item-item.result
                w.in_ok-other.other c.loop-item.renamed c.match-item.renamed all (drop i items) (drop (i + 1) items)
                w.in_default.not-Procedure e inv.1 w.in_ok-other.ensures (w.renamed-is ∙ w.in_ok-push-2.ensures.ok)
                inv.2),
            few_other c.item-item.result (drop i items) (drop (i + 1) items) (EachHasFew items)
                w.in_default.not-Procedure e inv.3,
          )
    ]
