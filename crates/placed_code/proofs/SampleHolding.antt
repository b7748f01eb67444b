-- The small code with places has a holding.
use Rattle.std.proofs.Common.{ℕ, zero, suc, ◌≡◌, ◌≢◌, ◌⊎◌, inl, inr, Bool, true, false, Some, None}
use Rattle.std.proofs.Common.{refl, sym, ◌∙◌, ap, subst}
use Rattle.std.specs.Prelude.{slice_get, ◌==◌, ◌||◌, if◌then◌else◌}
use Rattle.low_ir.specs.declared.code.WordOp.TheVariants.{Add}
use Rattle.rv_select.specs.declared.code.VReg.{VReg}
use Rattle.rv_select.specs.declared.code.VReg.TheVariants.{Real, Virtual}
use Rattle.rv_select.specs.declared.code.Place.{Place}
use Rattle.rv_select.specs.declared.code.Place.TheVariants.{InReg, Slot}
use Rattle.rv_select.specs.declared.code.VirtualItem.{VirtualItem}
use Rattle.rv_select.specs.declared.code.VirtualItem.TheVariants.{Move, Compute, Constant, Procedure, Return}
use Rattle.rv_select.specs.Holding.{Sets, Among, writes, reads, MayFollow, SparedBy, place_of, may_hold}
use Rattle.rv_select.specs.Holding.{target}
use Rattle.placed_code.specs.Check.{HasHolding}
use Rattle.placed_code.proofs.Names.{equal_of}
use Rattle.placed_code.proofs.Samples.{sample, places}

abbrev held : Sets
held zero (Real r) = r == 10
held (suc zero) (Real r) = r == 10
held (suc (suc zero)) (Virtual v) = v == 0
held (suc (suc (suc zero))) (Virtual v) = (v == 0) || (v == 1)
held (suc (suc (suc (suc zero)))) (Virtual v) = v == 2
held (suc (suc (suc (suc (suc zero))))) (Real r) = r == 10
held p a = false

item_is : (x y : VirtualItem) → Some x ≡ Some y → x ≡ y
item_is x y e = cc

no_item : (x : VirtualItem) → None ≡ Some x → ⊥
no_item x e = cc

no_mark : (m : ℕ) → None ≡ Some m → ⊥
no_mark m e = cc

no_bool : false ≡ true → ⊥
no_bool e = cc

each_item : (P : ℕ → VirtualItem → Type 0) → P 0 (Procedure 0 0 3) → P 1 (Move (Virtual 0) (Real 10))
    → P 2 (Constant (Virtual 1) 5) → P 3 (Compute Add (Virtual 2) (Virtual 0) (Virtual 1))
    → P 4 (Move (Real 10) (Virtual 2)) → P 5 Return → (p : ℕ) (item : VirtualItem) → slice_get sample p ≡ Some item
    → P p item
each_item P a b c d e f zero item h = subst (P 0) (item_is (Procedure 0 0 3) item h) a
each_item P a b c d e f (suc zero) item h = subst (P 1) (item_is (Move (Virtual 0) (Real 10)) item h) b
each_item P a b c d e f (suc (suc zero)) item h = subst (P 2) (item_is (Constant (Virtual 1) 5) item h) c
each_item P a b c d e f (suc (suc (suc zero))) item h =
    subst (P 3) (item_is (Compute Add (Virtual 2) (Virtual 0) (Virtual 1)) item h) d
each_item P a b c d e f (suc (suc (suc (suc zero)))) item h =
    subst (P 4) (item_is (Move (Real 10) (Virtual 2)) item h) e
each_item P a b c d e f (suc (suc (suc (suc (suc zero))))) item h = subst (P 5) (item_is Return item h) f
each_item P a b c d e f (suc (suc (suc (suc (suc (suc n)))))) item h = absurd (no_item item h)

abbrev Finds : ℕ → VirtualItem → Type 0
Finds p item = (a : VReg) → Among a (reads item) → held p a ≡ true

one_read : (p : ℕ) (x : VReg) → held p x ≡ true → (a : VReg) → (x ≡ a) ⊎ ⊥ → held p a ≡ true
one_read p x h a (inl e) = subst (λ z. held p z ≡ true) e h
one_read p x h a (inr z) = absurd z

two_reads : (p : ℕ) (x y : VReg) → held p x ≡ true → held p y ≡ true → (a : VReg)
    → (x ≡ a) ⊎ ((y ≡ a) ⊎ ⊥) → held p a ≡ true
two_reads p x y h k a (inl e) = subst (λ z. held p z ≡ true) e h
two_reads p x y h k a (inr m) = one_read p y k a m

abbrev Goes : ℕ → VirtualItem → Type 0
Goes p item = (a : VReg) → held (suc p) a ≡ true
    → Among a (writes item) ⊎ ((held p a ≡ true) × SparedBy places item (place_of places a))

abbrev Flows : ℕ → VirtualItem → Type 0
Flows p item = (q : ℕ) (a : VReg) → MayFollow sample item p q → held q a ≡ true
    → Among a (writes item) ⊎ ((held p a ≡ true) × SparedBy places item (place_of places a))

on : (p : ℕ) (item : VirtualItem) → target item ≡ None → Goes p item → Flows p item
on p item none go q a (inl k) h = go a (subst (λ z. held z a ≡ true) k.1 h)
on p item none go q a (inr k) h = absurd (no_mark k.0 (sym none ∙ k.1))

not_slot : (r i : ℕ) → Slot i ≡ InReg r → ⊥
not_slot r i e = subst IsSlot e tt
  where
    IsSlot : Place → Type 0
    IsSlot (InReg r) = ⊥
    IsSlot (Slot i) = Unit {0}

begins : Goes 0 (Procedure 0 0 3)
begins (Real r) h = inr (h, tt)
begins (Virtual v) h = absurd (no_bool h)

takes : Goes 1 (Move (Virtual 0) (Real 10))
takes (Real r) h = absurd (no_bool h)
takes (Virtual v) h = inl (inl (ap Virtual (sym (equal_of v 0 h))))

puts : Goes 2 (Constant (Virtual 1) 5)
puts (Real r) h = absurd (no_bool h)
puts (Virtual v) h = pick (v == 0) (v == 1) refl refl h
  where
    pick : (c d : Bool) → (v == 0) ≡ c → (v == 1) ≡ d → (c || d) ≡ true
        → ((Virtual 1 ≡ Virtual v) ⊎ ⊥) ⊎ ((held 2 (Virtual v) ≡ true)
        × ((Slot 4000000000 ≢ places v) × Unit {0}))
    pick true d x y z =
        let same : v ≡ 0 = equal_of v 0 x in
        inr (x, ((λ e. not_slot 11 4000000000 (e ∙ ap places same)), tt))
    pick false true x y z = inl (inl (ap Virtual (sym (equal_of v 1 y))))
    pick false false x y z = absurd (no_bool z)

adds : Goes 3 (Compute Add (Virtual 2) (Virtual 0) (Virtual 1))
adds (Real r) h = absurd (no_bool h)
adds (Virtual v) h = inl (inl (ap Virtual (sym (equal_of v 2 h))))

answers : Goes 4 (Move (Real 10) (Virtual 2))
answers (Real r) h = inl (inl (ap Real (sym (equal_of r 10 h))))
answers (Virtual v) h = absurd (no_bool h)

ends : Flows 5 Return
ends q a (inl k) h = absurd (no_bool k.0)
ends q a (inr k) h = absurd (no_mark k.0 k.1)

places_allowed : (v r : ℕ) → places v ≡ InReg r → may_hold r ≡ true
places_allowed v r e = pick (v == 0) (v == 1) e
  where
    pick : (c d : Bool) → (if c then InReg 11 else (if d then Slot 4000000000 else Slot 7)) ≡ InReg r → may_hold r ≡
        true
    pick true d k = let same : 11 ≡ r = cc in subst (λ z. may_hold z ≡ true) same refl
    pick false true k = absurd (not_slot r 4000000000 k)
    pick false false k = absurd (not_slot r 7 k)

abbrev NoVirtual : ℕ → VirtualItem → Type 0
NoVirtual p (Procedure k first count) = (v : ℕ) → held p (Virtual v) ≡ false
NoVirtual p item = Unit {0}

pub sample_has_holding : HasHolding sample places
sample_has_holding = (
  held,
  record {
    allowed = places_allowed;
    start = λ v. refl;
    procedures = λ p k first count v e.
        each_item NoVirtual (λ u. refl) tt tt tt tt tt p (Procedure k first count) e v;
    finds = λ p item a e m.
        each_item Finds (λ b z. absurd z) (one_read 1 (Real 10) refl) (λ b z. absurd z)
        (two_reads 3 (Virtual 0) (Virtual 1) refl refl) (one_read 4 (Virtual 2) refl) (one_read 5 (Real 10) refl) p
        item e
        a m;
    flows = λ p q item a e follow h.
        each_item Flows (on 0 (Procedure 0 0 3) refl begins) (on 1 (Move (Virtual 0) (Real 10)) refl takes)
        (on 2 (Constant (Virtual 1) 5) refl puts)
        (on 3 (Compute Add (Virtual 2) (Virtual 0) (Virtual 1)) refl adds)
        (on 4 (Move (Real 10) (Virtual 2)) refl answers) ends p item e q a follow h;
  },
)
