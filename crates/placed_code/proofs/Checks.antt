-- A code has a holding exactly where the largest sets find what is read, and exactly where what is needed is kept; a
-- greedy assignment can't be bettered in one place.
use Rattle.std.proofs.Common.{ℕ, ◌≡◌, ◌⊎◌, inl, inr, Bool, true, false, List, refl, sym, ◌∙◌}
use Rattle.rv_select.specs.declared.code.VReg.{VReg}
use Rattle.rv_select.specs.declared.code.VReg.TheVariants.{Virtual}
use Rattle.rv_select.specs.declared.code.Place.{Place}
use Rattle.rv_select.specs.declared.code.VirtualItem.{VirtualItem}
use Rattle.rv_select.specs.Holding.{Among, writes, place_of, SparedBy, Sets}
use Rattle.rv_select.specs.Holding.{IsHolding}
use Rattle.placed_code.specs.Check.{HasHolding, AreAllowed, Missing, AtStart, AtProcedure, Lost, Still, Needed, Read}
use Rattle.placed_code.specs.Check.{Later}
use Rattle.placed_code.specs.Check.{AreLargest, EachFinds, AreNeeded, NeedsAreKept}

no_bool : true ≡ false → ⊥
no_bool e = cc

module _ (items : List VirtualItem) (place : ℕ → Place) where
  -- ---- forwards

  -- a holding has nothing that is missing
  pub missing_not_held : (live : Sets) → IsHolding items place live → (p : ℕ) (a : VReg) → Missing items place p a
      → live p a ≡ false
  missing_not_held live h p a (AtStart v) = h.start v
  missing_not_held live h p a (AtProcedure q k first count v e) = h.procedures p k first count v e
  missing_not_held live h q a (Lost p r item b e f away lost) =
      pick (live q a) refl (λ l. h.flows p q item a e f l)
    where
      pick : (c : Bool) → live q a ≡ c → (live q a ≡ true
          → Among a (writes item) ⊎ ((live p a ≡ true) × SparedBy place item (place_of place a))) → live q a ≡ false
      pick false i go = i
      pick true i go = absurd (by (go i))
        where
          by : Among a (writes item) ⊎ ((live p a ≡ true) × SparedBy place item (place_of place a)) → ⊥
          by (inl m) = away m
          by (inr k) = lost k.1
  missing_not_held live h q a (Still p r item b e f away before) =
      pick (live q a) refl (λ l. h.flows p q item a e f l) (missing_not_held live h p a before)
    where
      pick : (c : Bool) → live q a ≡ c → (live q a ≡ true
          → Among a (writes item) ⊎ ((live p a ≡ true) × SparedBy place item (place_of place a)))
          → live p a ≡ false → live q a ≡ false
      pick false i go gone = i
      pick true i go gone = absurd (by (go i))
        where
          by : Among a (writes item) ⊎ ((live p a ≡ true) × SparedBy place item (place_of place a)) → ⊥
          by (inl m) = away m
          by (inr k) = no_bool (sym k.0 ∙ gone)

  -- where each read finds what it reads in the largest sets, they are a holding
  pub largest_holds : AreAllowed place → (held : Sets) → AreLargest items place held → EachFinds items held
      → IsHolding items place held
  largest_holds allowed held l finds = record {
    allowed = allowed;
    start = l.start;
    procedures = l.procedures;
    finds = finds;
    flows = l.flows;
  }

  -- where there is a holding, each read finds what it reads in the largest sets
  pub largest_finds : (held : Sets) → AreLargest items place held → HasHolding items place → EachFinds items held
  largest_finds held l h p item a e m = pick (held p a) refl
    where
      pick : (c : Bool) → held p a ≡ c → held p a ≡ true
      pick true i = i
      pick false i =
          absurd (no_bool (sym (h.1.finds p item a e m) ∙ missing_not_held h.0 h.1 p a (l.only p a i)))

  -- ---- backwards

  -- a holding has what is needed
  pub needed_held : (live : Sets) → IsHolding items place live → (p : ℕ) (a : VReg) → Needed items p a
      → live p a ≡ true
  needed_held live h p a (Read q item b e m) = h.finds p item a e m
  needed_held live h p a (Later r q item b e f away later) =
      by (h.flows p q item a e f (needed_held live h q a later))
    where
      by : Among a (writes item) ⊎ ((live p a ≡ true) × SparedBy place item (place_of place a)) → live p a ≡ true
      by (inl m) = absurd (away m)
      by (inr k) = k.0

  -- where what is needed is kept, it is a holding
  pub needed_holds : AreAllowed place → (needed : Sets) → AreNeeded items needed → NeedsAreKept items place needed
      → IsHolding items place needed
  needed_holds allowed needed n k = record {
    allowed = allowed;
    start = k.start;
    procedures = k.procedures;
    finds = n.reads;
    flows = λ p q item a e f l. by p q item a (n.flows p q item a e f l) (k.spared p q item a e f l);
  }
    where
      by : (p q : ℕ) (item : VirtualItem) (a : VReg) → Among a (writes item) ⊎ (needed p a ≡ true)
          → Among a (writes item) ⊎ SparedBy place item (place_of place a)
          → Among a (writes item) ⊎ ((needed p a ≡ true) × SparedBy place item (place_of place a))
      by p q item a (inl m) y = inl m
      by p q item a (inr l) (inl m) = inl m
      by p q item a (inr l) (inr s) = inr (l, s)

  -- where there is a holding, what is needed is kept
  pub needs_kept : (needed : Sets) → AreNeeded items needed → HasHolding items place → NeedsAreKept items place needed
  needs_kept needed n h = record {
    start = λ v. not_needed 0 (Virtual v) (h.1.start v);
    procedures = λ p k first count v e. not_needed p (Virtual v) (h.1.procedures p k first count v e);
    spared = λ p q item a e f l.
        by p item a (h.1.flows p q item a e f (needed_held h.0 h.1 q a (n.only q a l)));
  }
    where
      not_needed : (p : ℕ) (a : VReg) → h.0 p a ≡ false → needed p a ≡ false
      not_needed p a i = pick (needed p a) refl
        where
          pick : (c : Bool) → needed p a ≡ c → needed p a ≡ false
          pick false j = j
          pick true j = absurd (no_bool (sym (needed_held h.0 h.1 p a (n.only p a j)) ∙ i))

      by : (p : ℕ) (item : VirtualItem) (a : VReg)
          → Among a (writes item) ⊎ ((h.0 p a ≡ true) × SparedBy place item (place_of place a))
          → Among a (writes item) ⊎ SparedBy place item (place_of place a)
      by p item a (inl m) = inl m
      by p item a (inr k) = inr k.1
