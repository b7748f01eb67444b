-- A greedy assignment has a holding, and it can't be bettered in one place.
use Rattle.std.proofs.Common.{ℕ, zero, suc, ◌≤◌, ◌≡◌, ◌≢◌, ◌⊎◌, inl, inr, Bool, true, false, List, [], ◌∷◌}
use Rattle.std.proofs.Common.{refl, sym, ◌∙◌, ap, subst, arith}
use Rattle.std.specs.Prelude.{◌==◌, nat_lt, if◌then◌else◌}
use Rattle.rv_select.specs.declared.code.VReg.{VReg}
use Rattle.rv_select.specs.declared.code.VReg.TheVariants.{Real, Virtual}
use Rattle.rv_select.specs.declared.code.Place.{Place}
use Rattle.rv_select.specs.declared.code.Place.TheVariants.{InReg, Slot}
use Rattle.rv_select.specs.declared.code.VirtualItem.{VirtualItem}
use Rattle.rv_select.specs.declared.code.VirtualItem.TheVariants.{Call, CallAt}
use Rattle.rv_select.specs.Holding.{Among, writes, place_of, NoneAt, SparedBy, SparedByCall, Sets, IsHolding}
use Rattle.rv_select.specs.Holding.{may_hold}
use Rattle.placed_code.specs.Check.{HasHolding, HasOwn, with_place, IsMaximal, at_turn, IsGreedy}
use Rattle.placed_code.proofs.Names.{equal_of}

slot_is : (i j : ℕ) → Slot i ≡ Slot j → i ≡ j
slot_is i j e = cc

not_both : (r i : ℕ) → InReg r ≡ Slot i → ⊥
not_both r i e = subst IsReg e tt
  where
    IsReg : Place → Type 0
    IsReg (InReg r) = Unit {0}
    IsReg (Slot i) = ⊥

-- registers may go to slots of their own: what was a holding stays one
module _ (items : List VirtualItem) (place place' : ℕ → Place)
    (each : (u : ℕ) → (place u ≡ place' u) ⊎ HasOwn place u) where
  apart : (x a : VReg) → place_of place' x ≢ place_of place' a → place_of place x ≢ place_of place a
  apart (Real r) (Real q) k e = k e
  apart (Real r) (Virtual u) k e = by (each u)
    where
      by : (place u ≡ place' u) ⊎ HasOwn place u → ⊥
      by (inl same) = k (e ∙ same)
      by (inr s) = not_both r s.0 (e ∙ s.1)
  apart (Virtual w) (Real q) k e = by (each w)
    where
      by : (place w ≡ place' w) ⊎ HasOwn place w → ⊥
      by (inl same) = k (sym same ∙ e)
      by (inr s) = not_both q s.0 (sym e ∙ s.1)
  apart (Virtual w) (Virtual u) k e = by (each w) (each u)
    where
      by : (place w ≡ place' w) ⊎ HasOwn place w → (place u ≡ place' u) ⊎ HasOwn place u → ⊥
      by (inl m) (inl n) = k (sym m ∙ (e ∙ n))
      by (inr m) y = k (ap place' (sym (m.2 u (sym e ∙ m.1))))
      by (inl m) (inr n) = k (ap place' (n.2 w (e ∙ n.1)))

  none_at : (a : VReg) (xs : List VReg) → NoneAt place' (place_of place' a) xs → NoneAt place (place_of place a) xs
  none_at a [] h = tt
  none_at a (x ∷ xs) h = (apart x a h.0, none_at a xs h.1)

  by_call : (a : VReg) → SparedByCall (place_of place' a) → SparedByCall (place_of place a)
  by_call (Real r) h = h
  by_call (Virtual u) h = by (each u)
    where
      by : (place u ≡ place' u) ⊎ HasOwn place u → SparedByCall (place u)
      by (inl same) = subst SparedByCall (sym same) h
      by (inr s) = subst SparedByCall (sym s.1) tt

  spared : (item : VirtualItem) (a : VReg) → SparedBy place' item (place_of place' a)
      → SparedBy place item (place_of place a)
  spared (Call k n) a h = by_call a h
  spared (CallAt f n) a h = by_call a h
  spared item a h = none_at a (writes item) h

  pub freed : (live : Sets) → IsHolding items place' live → IsHolding items place live
  freed live h = record {
    allowed = λ v r e. in_reg v r e (each v);
    start = h.start;
    procedures = h.procedures;
    finds = h.finds;
    flows = λ p q item a e f l. by item a (live p a ≡ true) (h.flows p q item a e f l);
  }
    where
      in_reg : (v r : ℕ) → place v ≡ InReg r → (place v ≡ place' v) ⊎ HasOwn place v → may_hold r ≡ true
      in_reg v r e (inl same) = h.allowed v r (sym same ∙ e)
      in_reg v r e (inr s) = absurd (not_both r s.0 (sym e ∙ s.1))

      by : (item : VirtualItem) (a : VReg) (L : Type 0)
          → Among a (writes item) ⊎ (L × SparedBy place' item (place_of place' a))
          → Among a (writes item) ⊎ (L × SparedBy place item (place_of place a))
      by item a L (inl m) = inl m
      by item a L (inr k) = inr (k.0, spared item a k.1)

-- where slots of their own have a holding, so have any others
pub own_slots_hold : (items : List VirtualItem) (place place' : ℕ → Place) → ((u : ℕ) → HasOwn place u)
    → HasHolding items place' → HasHolding items place
own_slots_hold items place place' own h = (h.0, freed items place place' (λ u. inr (own u)) h.0 h.1)

-- by a law of the slots that are given
own_of : (place : ℕ → Place) (u : ℕ) → ((x j : ℕ) → place x ≡ Slot j → j ≡ x) → place u ≡ Slot u → HasOwn place u
own_of place u own e = (u, e, λ x k. sym (own x u k))

-- what has a holding in the end has one at a register's turn
pub turn_holds : (items : List VirtualItem) (place : ℕ → Place) → ((x j : ℕ) → place x ≡ Slot j → j ≡ x) → (v r : ℕ)
    → HasHolding items (with_place place v (InReg r)) → HasHolding items (with_place (at_turn place v) v (InReg r))
turn_holds items place owned v r h = (
  h.0,
  freed items (with_place (at_turn place v) v (InReg r)) (with_place place v (InReg r)) (λ u. by u (each u)) h.0 h.1,
)
  where
    each : (u : ℕ) → (with_place (at_turn place v) v (InReg r) u ≡ with_place place v (InReg r) u)
        ⊎ (with_place (at_turn place v) v (InReg r) u ≡ Slot u)
    each u = pick (u == v) (nat_lt u v)
      where
        pick : (c d : Bool) → ((if c then InReg r else (if d then place u else Slot u)) ≡ (if c then InReg r else
            place u))
            ⊎ ((if c then InReg r else (if d then place u else Slot u)) ≡ Slot u)
        pick true d = inl refl
        pick false true = inl refl
        pick false false = inr refl

    own : (x j : ℕ) → with_place (at_turn place v) v (InReg r) x ≡ Slot j → j ≡ x
    own x j = pick (x == v) (nat_lt x v)
      where
        pick : (c d : Bool) → (if c then InReg r else (if d then place x else Slot x)) ≡ Slot j → j ≡ x
        pick true d e = absurd (not_both r j e)
        pick false true e = owned x j e
        pick false false e = sym (slot_is x j e)

    by : (u : ℕ) → (with_place (at_turn place v) v (InReg r) u ≡ with_place place v (InReg r) u)
        ⊎ (with_place (at_turn place v) v (InReg r) u ≡ Slot u)
        → (with_place (at_turn place v) v (InReg r) u ≡ with_place place v (InReg r) u)
        ⊎ HasOwn (with_place (at_turn place v) v (InReg r)) u
    by u (inl e) = inl e
    by u (inr e) = inr (own_of (with_place (at_turn place v) v (InReg r)) u own e)

module _ (items : List VirtualItem) (place : ℕ → Place) (greedy : IsGreedy items place) where
  -- it can't be bettered in one place
  pub greedy_is_maximal : IsMaximal items place
  greedy_is_maximal v i r e ok h =
      greedy.none_free v r (e ∙ ap Slot (greedy.own v i e)) ok (turn_holds items place greedy.own v r h)

  -- ---- it has a holding, if one exists with a slot for each register

  turn_own : (n x j : ℕ) → at_turn place n x ≡ Slot j → j ≡ x
  turn_own n x j = pick (nat_lt x n)
    where
      pick : (d : Bool) → (if d then place x else Slot x) ≡ Slot j → j ≡ x
      pick true e = greedy.own x j e
      pick false e = sym (slot_is x j e)

  next_turn : (n : ℕ) → HasHolding items (at_turn place n) → HasHolding items (at_turn place (suc n))
  next_turn n h = by_place (place n) refl
    where
      same : (place' : ℕ → Place) → ((u : ℕ) → at_turn place (suc n) u ≡ place' u) → HasHolding items place'
          → HasHolding items (at_turn place (suc n))
      same place' e k = (
        k.0,
        freed items (at_turn place (suc n)) place' (λ u. inl (e u)) k.0 k.1,
      )

      in_reg : (r : ℕ) → place n ≡ InReg r → (u : ℕ)
          → at_turn place (suc n) u ≡ with_place (at_turn place n) n (InReg r) u
      in_reg r e u = pick (u == n) (nat_lt u (suc n)) (nat_lt u n) refl refl refl
        where
          pick : (b c d : Bool) → (u == n) ≡ b → nat_lt u (suc n) ≡ c → nat_lt u n ≡ d
              → (if c then place u else Slot u) ≡ (if b then InReg r else (if d then place u else Slot u))
          pick true true d x y z = ap place (equal_of u n x) ∙ e
          pick true false d x y z = absurd (let o : ⊥ = grind arith in o)
          pick false true true x y z = refl
          pick false true false x y z = absurd (let o : ⊥ = grind arith in o)
          pick false false true x y z = absurd (let o : ⊥ = grind arith in o)
          pick false false false x y z = refl

      in_slot : (i : ℕ) → place n ≡ Slot i → (u : ℕ) → at_turn place (suc n) u ≡ at_turn place n u
      in_slot i e u = pick (u == n) (nat_lt u (suc n)) (nat_lt u n) refl refl refl
        where
          pick : (b c d : Bool) → (u == n) ≡ b → nat_lt u (suc n) ≡ c → nat_lt u n ≡ d
              → (if c then place u else Slot u) ≡ (if d then place u else Slot u)
          pick b true true x y z = refl
          pick b false false x y z = refl
          pick b false true x y z = absurd (let o : ⊥ = grind arith in o)
          pick true true false x y z =
              let same_number : u ≡ n = equal_of u n x in
              ap place same_number ∙ (e ∙ ap Slot (greedy.own n i e ∙ sym same_number))
          pick false true false x y z = absurd (let o : ⊥ = grind arith in o)

      by_place : (p : Place) → place n ≡ p → HasHolding items (at_turn place (suc n))
      by_place (InReg r) e = same (with_place (at_turn place n) n (InReg r)) (in_reg r e) (greedy.holds n r e)
      by_place (Slot i) e = same (at_turn place n) (in_slot i e) h

  each_turn : HasHolding items (λ v. Slot v) → (n : ℕ) → HasHolding items (at_turn place n)
  each_turn h zero = (
    h.0,
    freed items (at_turn place 0) (λ v. Slot v)
        (λ u. inr (own_of (at_turn place 0) u (λ x j e. turn_own 0 x j e) (slot_at u))) h.0 h.1,
  )
    where
      slot_at : (u : ℕ) → at_turn place 0 u ≡ Slot u
      slot_at u = let e : nat_lt u 0 ≡ false = grind arith in ap (λ c. if c then place u else Slot u) e
  each_turn h (suc n) = next_turn n (each_turn h n)

  pub greedy_has_holding : (n : ℕ) → ((v : ℕ) → n ≤ v → place v ≡ Slot v) → HasHolding items (λ v. Slot v)
      → HasHolding items place
  greedy_has_holding n rest h =
      let k = each_turn h n in
      (k.0, freed items place (at_turn place n) (λ u. inl (same u)) k.0 k.1)
    where
      same : (u : ℕ) → place u ≡ at_turn place n u
      same u = pick (nat_lt u n) refl
        where
          pick : (c : Bool) → nat_lt u n ≡ c → place u ≡ (if c then place u else Slot u)
          pick true e = refl
          pick false e = rest u (grind arith)
