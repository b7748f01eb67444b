-- The code with slots keeps what is claimed of it.
use Rattle.std.proofs.Common.{ℕ, zero, suc, ◌^◌, ◌<◌, ◌≡◌, List, [], ◌∷◌, Some, subst, sym, refl}
use Rattle.std.specs.Prelude.{slice_get}
use Rattle.rv_machine.specs.declared.real.RealItem.{RealItem}
use Rattle.rv_select.specs.declared.code.VirtualItem.{VirtualItem}
use Rattle.rv_select.specs.declared.code.VirtualItem.TheVariants.{Procedure}
use Rattle.placed_code.specs.Slots.{slots_items}
use Rattle.placed_code.specs.Slotted.{free_mark, HasFew, EachHasFew, IsSlotsOf}
use Rattle.placed_code.proofs.slotted.SlotConditions.{slots_assemble, slots_spare, slots_begin}
use Rattle.placed_code.proofs.slotted.SlotRuns.{does_in_stack, does_as_virtual, ends_so}

few_at : (items : List VirtualItem) (p k first count : ℕ) → EachHasFew items
    → slice_get items p ≡ Some (Procedure k first count) → count < 2 ^ 32
few_at [] p k first count h e = absurd (let z : ⊥ = cc in z)
few_at (x ∷ xs) zero k first count h e =
    let same : x ≡ Procedure k first count = cc in subst HasFew same h.0
few_at (x ∷ xs) (suc p) k first count h e = few_at xs p k first count h.1 e

pub is_slots : (items : List VirtualItem) (code : List RealItem) → EachHasFew items
    → code ≡ slots_items (free_mark items) items → IsSlotsOf items code
is_slots items code few e =
    subst (IsSlotsOf items) (sym e) (record {
      exactly = refl;
      assembles = λ well. slots_assemble items well;
      spares = λ well. slots_spare items well;
      begins = λ well. slots_begin items well;
      in_stack = λ distinct reading. does_in_stack reading items distinct (λ p k first count h.
          few_at items p k first count few h);
      follows = λ distinct reading. does_as_virtual reading items distinct (λ p k first count h.
          few_at items p k first count few h);
      stops = λ distinct reading. ends_so reading items distinct (λ p k first count h.
          few_at items p k first count few h);
    })
