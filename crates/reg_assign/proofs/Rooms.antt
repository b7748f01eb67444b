-- What it takes that one more register can be kept in a real one.
use Rattle.std.proofs.Common.{ℕ, suc, ◌≡◌, ◌≢◌, ◌⊎◌, inl, inr, Bool, true, false, List, [], ◌∷◌, refl, sym, ◌∙◌, ap}
use Rattle.std.proofs.Common.{subst}
use Rattle.std.proofs.Common.{Some, length, ◌<◌, nat_eq, arith}
use Rattle.std.proofs.Math.Path.{fun_ext}
use Rattle.std.proofs.lemmas.List.Elements.{All-contains}
use Rattle.std.specs.Int.{bit_at}
use Rattle.std.specs.List.{list_any}
use Rattle.std.specs.Prelude.{◌==◌, if◌then◌else◌, slice_get, slice_index, Contains}
use Rattle.rv_select.specs.declared.code.VReg.{VReg}
use Rattle.rv_select.specs.declared.code.VReg.TheVariants.{Real, Virtual}
use Rattle.rv_select.specs.declared.code.Place.{Place}
use Rattle.rv_select.specs.declared.code.Place.TheVariants.{InReg, Slot}
use Rattle.rv_select.specs.declared.code.VirtualItem.{VirtualItem}
use Rattle.rv_select.specs.declared.code.VirtualItem.TheVariants.{Call, CallAt}
use Rattle.rv_select.specs.Holding.{Among, reads, writes, place_of, NoneAt, SparedBy, may_hold}
use Rattle.placed_code.specs.Check.{HasHolding, AreAllowed, Needed, Read, with_place}
use Rattle.reg_assign.specs.Flow.{Behind, IsKept, IsListed, IsRead}
use Rattle.reg_assign.specs.Numbers.{register_at}
use Rattle.reg_assign.specs.Walks.{IsIdle, IsWalk, IsClosed}
use Rattle.reg_assign.specs.declared.walks.Walk.{Walk}
use Rattle.reg_assign.specs.declared.assign.Room.{Room}
use Rattle.reg_assign.specs.Room.{Known, IsBusy, IsRoom, Tells}
use Rattle.placed_code.proofs.Public.{equal_of}
use Rattle.reg_assign.proofs.Walking.{behind_needed, all_found}
use Rattle.reg_assign.proofs.Kept.{kept_by_walk, kept_of_all, behind_kept, none_where_kept, holding_of, is_member}
use Rattle.reg_assign.proofs.Kept.{member_is}

other_reg : (r q : ℕ) → (q == r) ≡ false → InReg q ≢ InReg r
other_reg r q e f = let s : q ≡ r = cc in let z : ⊥ = grind arith in z

in_reg_or : (p : Place) (r : ℕ) → (p ≡ InReg r) ⊎ (p ≢ InReg r)
in_reg_or (InReg q) r = pick (q == r) refl
  where
    pick : (b : Bool) → (q == r) ≡ b → (InReg q ≡ InReg r) ⊎ (InReg q ≢ InReg r)
    pick true e = inl (ap InReg (equal_of q r e))
    pick false e = inr (other_reg r q e)
in_reg_or (Slot i) r = inr (λ f. let z : ⊥ = cc in z)

none_among : (place : ℕ → Place) (p : Place) (x : VReg) (xs : List VReg) → NoneAt place p xs → Among x xs
    → place_of place x ≢ p
none_among place p x [] h m = absurd m
none_among place p x (y ∷ xs) h (inl e) = subst (λ z. place_of place z ≢ p) e h.0
none_among place p x (y ∷ xs) h (inr m) = none_among place p x xs h.1 m

module _ (items : List VirtualItem) (place : ℕ → Place) (v r : ℕ) where
  abbrev other : ℕ → Place
  other = with_place place v (InReg r)

  there : other v ≡ InReg r
  there = let e : (v == v) ≡ true = grind arith in ap (λ b. if b then InReg r else place v) e

  elsewhere : (u : ℕ) → (u == v) ≡ false → other u ≡ place u
  elsewhere u e = ap (λ b. if b then InReg r else place u) e

  -- of registers but v the places are as before
  same_place : (x : VReg) → Virtual v ≢ x → place_of other x ≡ place_of place x
  same_place (Real q) d = refl
  same_place (Virtual u) d = pick (u == v) refl
    where
      pick : (b : Bool) → (u == v) ≡ b → other u ≡ place u
      pick true e = absurd (d (ap Virtual (sym (equal_of u v e))))
      pick false e = elsewhere u e

  none_back : (p : Place) (xs : List VReg) → (Among (Virtual v) xs → ⊥) → NoneAt other p xs → NoneAt place p xs
  none_back p [] away h = tt
  none_back p (x ∷ xs) away h = (
    (λ e. h.0 (same_place x (λ f. away (inl (sym f))) ∙ e)),
    none_back p xs (λ m. away (inr m)) h.1,
  )

  none_on : (p : Place) (xs : List VReg) → (Among (Virtual v) xs → ⊥) → NoneAt place p xs → NoneAt other p xs
  none_on p [] away h = tt
  none_on p (x ∷ xs) away h = (
    (λ e. h.0 (sym (same_place x (λ f. away (inl (sym f)))) ∙ e)),
    none_on p xs (λ m. away (inr m)) h.1,
  )

  none_apart : (p : Place) (xs : List VReg) → InReg r ≢ p → NoneAt place p xs → NoneAt other p xs
  none_apart p [] d h = tt
  none_apart p (x ∷ xs) d h = (one x h.0, none_apart p xs d h.1)
    where
      one : (x : VReg) → place_of place x ≢ p → place_of other x ≢ p
      one (Real q) k e = k e
      one (Virtual u) k e = pick (u == v) refl
        where
          pick : (b : Bool) → (u == v) ≡ b → ⊥
          pick true s = d (sym (ap (λ b. if b then InReg r else place u) s) ∙ e)
          pick false s = k (sym (elsewhere u s) ∙ e)

  spared_back : (item : VirtualItem) (p : Place) → (Among (Virtual v) (writes item) → ⊥) → SparedBy other item p
      → SparedBy place item p
  spared_back (Call k n) p away h = h
  spared_back (CallAt f n) p away h = h
  spared_back item p away h = none_back p (writes item) away h

  spared_on : (item : VirtualItem) (p : Place) → (Among (Virtual v) (writes item) → ⊥) → SparedBy place item p
      → SparedBy other item p
  spared_on (Call k n) p away h = h
  spared_on (CallAt f n) p away h = h
  spared_on item p away h = none_on p (writes item) away h

  spared_apart : (item : VirtualItem) (p : Place) → InReg r ≢ p → SparedBy place item p → SparedBy other item p
  spared_apart (Call k n) p d h = h
  spared_apart (CallAt f n) p d h = h
  spared_apart item p d h = none_apart p (writes item) d h

  -- an item that writes v doesn't leave what is where v is
  not_spared : (item : VirtualItem) → Among (Virtual v) (writes item) → SparedBy other item (InReg r) → ⊥
  not_spared (Call k n) m h = by m
    where
      by : (Real 10 ≡ Virtual v) ⊎ ⊥ → ⊥
      by (inl e) = let z : ⊥ = cc in z
      by (inr z) = z
  not_spared (CallAt f n) m h = by m
    where
      by : (Real 10 ≡ Virtual v) ⊎ ⊥ → ⊥
      by (inl e) = let z : ⊥ = cc in z
      by (inr z) = z
  not_spared item m h = none_among other (InReg r) (Virtual v) (writes item) h m there

  same_item : (p : ℕ) (x y : VirtualItem) → slice_get items p ≡ Some x → slice_get items p ≡ Some y → x ≡ y
  same_item p x y e f = let z : Some x ≡ Some y = sym e ∙ f in cc

  module _ (own : place v ≡ Slot v) where
    not_v : (a : VReg) → place_of place a ≡ InReg r → Virtual v ≢ a
    not_v a e f =
        let z : Slot v ≡ InReg r = sym own ∙ (ap (place_of place) f ∙ e) in let y : ⊥ = cc in y

    -- ---- what follows from a holding with v in r

    module _ (h : HasHolding items other) where
      pub spares_v : (p : ℕ) (b : Behind items (Virtual v) p) → SparedBy place b.item (InReg r)
      spares_v p b =
          spared_back b.item (InReg r) b.away
          (subst (SparedBy other b.item) there
          (behind_kept items other (Virtual v) (kept_of_all items other h (Virtual v)) p b).1)

      pub free_at_writes : (p : ℕ) (item : VirtualItem) → slice_get items p ≡ Some item → Among (Virtual v) (writes
          item)
          → IsBusy items place p r → ⊥
      free_at_writes p item e m busy =
          let a = busy.register in
          let at = same_place a (not_v a busy.here) ∙ busy.here in
          let k = (behind_kept items other a (kept_of_all items other h a) p busy.behind).1 in
          not_spared item m
          (subst (λ x. SparedBy other x (InReg r)) (same_item p busy.behind.item item busy.behind.there e)
          (subst (SparedBy other busy.behind.item) at k))

    -- ---- and what it takes

    module _ (ok : may_hold r ≡ true) (h : HasHolding items place)
        (known : (a : VReg) → place_of place a ≡ InReg r → Known items a) (mine : Known items (Virtual v))
        (free : (p : ℕ) (item : VirtualItem) → slice_get items p ≡ Some item → Among (Virtual v) (writes item)
        → IsBusy items place p r → ⊥)
        (spares : (p : ℕ) → Contains mine.found p → (item : VirtualItem) → slice_get items p ≡ Some item
        → SparedBy place item (InReg r)) where
      -- a register of which it is known where it is needed
      by_known : (a : VReg) (k : Known items a) → ((p : ℕ) (b : Behind items a p)
          → SparedBy other b.item (place_of other a)) → IsKept items other a
      by_known a k spared =
          let old = kept_of_all items place h a in
          kept_by_walk items other a k.reading k.found k.reads_only k.reads_all
          (λ q m p item e f away. k.all p (record {
            item = item;
            there = e;
            away = away;
            leads = record { next = q; follows = f; needed = needed_at q m };
          }))
          (λ q m p item e f away. k.all p (record {
            item = item;
            there = e;
            away = away;
            leads = record { next = q; follows = f; needed = behind_needed items a q (k.only q m) };
          }))
          (λ u m. none_where_kept items place a u old 0
          (let o = k.reads_only 0 m in old.finds 0 o.0 o.1 o.2) (inl refl))
          (λ p m u b. none_where_kept items place a u old p (behind_kept items place a old p (k.only p m)).0 b)
          (λ p m item e.
          let b = k.only p m in
          subst (λ x. SparedBy other x (place_of other a)) (same_item p b.item item b.there e) (spared p b))
        where
          needed_at : (q : ℕ) → Contains k.reading q → Needed items q a
          needed_at q m = let o = k.reads_only q m in Read q o.0 a o.1 o.2

      in_r : (a : VReg) → place_of place a ≡ InReg r → IsKept items other a
      in_r a e =
          by_known a (known a e) (λ p b.
          subst (SparedBy other b.item) (sym (same_place a (not_v a e)))
          (spared_on b.item (place_of place a) (λ m. free p b.item b.there m (record {
            register = a;
            here = e;
            behind = b;
          })) (behind_kept items place a (kept_of_all items place h a) p b).1))

      for_v : IsKept items other (Virtual v)
      for_v =
          by_known (Virtual v) mine (λ p b.
          subst (SparedBy other b.item) (sym there)
          (spared_on b.item (InReg r) b.away (spares p (mine.all p b) b.item b.there)))

      apart : (a : VReg) → Virtual v ≢ a → place_of place a ≢ InReg r → IsKept items other a
      apart a d f = on (kept_of_all items place h a)
        where
          by : (B : Type 0) (item : VirtualItem)
              → Among a (writes item) ⊎ (B × SparedBy place item (place_of place a))
              → Among a (writes item) ⊎ (B × SparedBy other item (place_of other a))
          by B item (inl m) = inl m
          by B item (inr k) =
              inr (
                k.0,
                subst (SparedBy other item) (sym (same_place a d))
                    (spared_apart item (place_of place a) (λ e. f (sym e)) k.1),
              )

          on : IsKept items place a → IsKept items other a
          on k = record {
            held = k.held;
            start = k.start;
            procedures = k.procedures;
            finds = k.finds;
            flows = λ p q item e g l. by (k.held p ≡ true) item (k.flows p q item e g l);
          }

      each : (a : VReg) → IsKept items other a
      each (Real q) = by (in_reg_or (InReg q) r)
        where
          by : (InReg q ≡ InReg r) ⊎ (InReg q ≢ InReg r) → IsKept items other (Real q)
          by (inl e) = in_r (Real q) e
          by (inr d) = apart (Real q) (λ f. let z : ⊥ = cc in z) d
      each (Virtual u) = pick (u == v) refl (in_reg_or (place u) r)
        where
          pick : (b : Bool) → (u == v) ≡ b → (place u ≡ InReg r) ⊎ (place u ≢ InReg r) → IsKept items other (Virtual u)
          pick true e d = subst (λ x. IsKept items other (Virtual x)) (sym (equal_of u v e)) for_v
          pick false e (inl f) = in_r (Virtual u) f
          pick false e (inr d) =
              apart (Virtual u) (λ f. let s : v ≡ u = cc in let z : ⊥ = grind arith in z) d

      allowed : AreAllowed other
      allowed u q e = pick (u == v) refl
        where
          pick : (b : Bool) → (u == v) ≡ b → may_hold q ≡ true
          pick true s =
              let f : InReg r ≡ InReg q = sym (ap (λ b. if b then InReg r else place u) s) ∙ e in
              let g : r ≡ q = cc in subst (λ x. may_hold x ≡ true) g ok
          pick false s = h.1.allowed u q (sym (elsewhere u s) ∙ e)

      pub can_have : HasHolding items other
      can_have = holding_of items other allowed each

  -- a register has the same place, or is v
  moved_or : (a : VReg) (q : ℕ) → place_of other a ≡ InReg q
      → ((Virtual v ≡ a) × (r ≡ q)) ⊎ ((Virtual v ≢ a) × (place_of place a ≡ InReg q))
  moved_or (Real x) q e = inr ((λ f. let z : ⊥ = cc in z), e)
  moved_or (Virtual u) q e = pick (u == v) refl
    where
      pick : (b : Bool) → (u == v) ≡ b
          → ((Virtual v ≡ Virtual u) × (r ≡ q)) ⊎ ((Virtual v ≢ Virtual u) × (place u ≡ InReg q))
      pick true s =
          let f : InReg r ≡ InReg q = sym (ap (λ b. if b then InReg r else place u) s) ∙ e in
          inl (ap Virtual (sym (equal_of u v s)), (cc))
      pick false s =
          inr ((λ f. let same : v ≡ u = cc in let z : ⊥ = grind arith in z), sym (elsewhere u s) ∙ e)

  -- what is noted once v is in r
  module _ (own : place v ≡ Slot v) (number : ℕ) (old new : Room) (room : IsRoom items place number old)
      (mine : Known items (Virtual v)) (idle : IsIdle (length items) (suc number) new.walk)
      (size : length new.busy.items ≡ length old.busy.items)
      (others : (p q : ℕ) → (q ≡ r → ⊥)
      → bit_at (slice_index new.busy.items p) q ≡ bit_at (slice_index old.busy.items p) q)
      (set : (p : ℕ) → Contains mine.found p → bit_at (slice_index new.busy.items p) r ≡ 1)
      (still : (p : ℕ) → (Contains mine.found p → ⊥) → slice_index new.busy.items p ≡ slice_index old.busy.items p)
      (holds : HasHolding items other) where
    to_old : (p q : ℕ) (b : IsBusy items other p q) → (Virtual v ≢ b.register) → IsBusy items place p q
    to_old p q b d = record {
      register = b.register;
      here = sym (same_place b.register d) ∙ b.here;
      behind = b.behind;
    }

    to_new : (p q : ℕ) → IsBusy items place p q → IsBusy items other p q
    to_new p q b = record {
      register = b.register;
      here = same_place b.register (λ f. not_slot f b.here) ∙ b.here;
      behind = b.behind;
    }
      where
        not_slot : Virtual v ≡ b.register → place_of place b.register ≡ InReg q → ⊥
        not_slot f e = let z : Slot v ≡ InReg q = sym own ∙ (ap (place_of place) f ∙ e) in let y : ⊥ = cc in y

    mine_busy : (p : ℕ) → Contains mine.found p → IsBusy items other p r
    mine_busy p m = record { register = Virtual v; here = there; behind = mine.only p m }

    at_r : (p : ℕ) → p < length items → may_hold r ≡ true
        → (bit_at (slice_index new.busy.items p) r ≡ 0 → IsBusy items other p r → ⊥)
        × (bit_at (slice_index new.busy.items p) r ≡ 1 → (IsBusy items other p r → ⊥) → ⊥)
    at_r p l h = by (list_any (nat_eq p) mine.found) refl
      where
        by : (b : Bool) → list_any (nat_eq p) mine.found ≡ b
            → (bit_at (slice_index new.busy.items p) r ≡ 0 → IsBusy items other p r → ⊥)
            × (bit_at (slice_index new.busy.items p) r ≡ 1 → (IsBusy items other p r → ⊥) → ⊥)
        by true e =
            let m = member_is p mine.found e in (
              λ z b. let one = set p m in let y : ⊥ = omega (arith, one, z) in y,
              λ z k. k (mine_busy p m),
            )
        by false e =
            let away : Contains mine.found p → ⊥ =
            (λ m. let t : true ≡ false = sym (is_member p mine.found m) ∙ e in let y : ⊥ = cc in y) in
            let same = ap (λ n. bit_at n r) (still p away) in
            let t = room.bits p l r h in (
              λ z b. go b (moved_or b.register r b.here) (t.0 (sym same ∙ z)) away,
              λ z k. t.1 (sym same ∙ z) (λ b. k (to_new p r b)),
            )
          where
            go : (b : IsBusy items other p r)
                → ((Virtual v ≡ b.register) × (r ≡ r)) ⊎ ((Virtual v ≢ b.register) × (place_of place b.register ≡
                InReg r))
                → (IsBusy items place p r → ⊥) → (Contains mine.found p → ⊥) → ⊥
            go b (inl s) never away = away (mine.all p (subst (λ x. Behind items x p) (sym s.0) b.behind))
            go b (inr d) never away = never (to_old p r b d.0)

    at_other : (p q : ℕ) → p < length items → may_hold q ≡ true → (q ≡ r → ⊥)
        → (bit_at (slice_index new.busy.items p) q ≡ 0 → IsBusy items other p q → ⊥)
        × (bit_at (slice_index new.busy.items p) q ≡ 1 → (IsBusy items other p q → ⊥) → ⊥)
    at_other p q l h d =
        let same = others p q d in
        let t = room.bits p l q h in (
          λ z b. go b (moved_or b.register q b.here) (t.0 (sym same ∙ z)),
          λ z k. t.1 (sym same ∙ z) (λ b. k (to_new p q b)),
        )
      where
        go : (b : IsBusy items other p q)
            → ((Virtual v ≡ b.register) × (r ≡ q)) ⊎ ((Virtual v ≢ b.register) × (place_of place b.register ≡ InReg q))
            → (IsBusy items place p q → ⊥) → ⊥
        go b (inl s) never = d (sym s.1)
        go b (inr x) never = never (to_old p q b x.0)

    at_each : (p q : ℕ) → p < length items → may_hold q ≡ true → (b : Bool) → (q == r) ≡ b
        → (bit_at (slice_index new.busy.items p) q ≡ 0 → IsBusy items other p q → ⊥)
        × (bit_at (slice_index new.busy.items p) q ≡ 1 → (IsBusy items other p q → ⊥) → ⊥)
    at_each p q l h true e =
        let s = equal_of q r e in
        subst (λ x. (bit_at (slice_index new.busy.items p) x ≡ 0 → IsBusy items other p x → ⊥)
        × (bit_at (slice_index new.busy.items p) x ≡ 1 → (IsBusy items other p x → ⊥) → ⊥)) (sym s)
        (at_r p l (subst (λ x. may_hold x ≡ true) s h))
    at_each p q l h false e = at_other p q l h (λ s. let z : ⊥ = grind arith in z)

    pub room_with : IsRoom items other (suc number) new
    room_with = record {
      idle = idle;
      size = size ∙ room.size;
      bits = λ p l q h. at_each p q l h (q == r) refl;
      known = λ q a h e. known q a h (moved_or a q e);
      holds = holds;
    }
      where
        known : (q : ℕ) (a : VReg) → may_hold q ≡ true
            → ((Virtual v ≡ a) × (r ≡ q)) ⊎ ((Virtual v ≢ a) × (place_of place a ≡ InReg q)) → Known items a
        known q a h (inl s) = subst (Known items) s.0 mine
        known q a h (inr d) = room.known q a h d.1

-- what is noted where a register stays in its slot
pub room_same : (items : List VirtualItem) (place : ℕ → Place) (v number : ℕ) (old new : Room) → place v ≡ Slot v
    → IsRoom items place number old → new.busy ≡ old.busy → IsIdle (length items) (suc number) new.walk
    → IsRoom items (with_place place v (Slot v)) (suc number) new
room_same items place v number old new own room busy idle =
    subst (λ f. IsRoom items f (suc number) new) (fun_ext (λ u. sym (same u))) (record {
      idle = idle;
      size = ap (λ b. length b.items) busy ∙ room.size;
      bits = subst (λ b. (p : ℕ) → p < length items → Tells (λ r. IsBusy items place p r → ⊥) (slice_index b.items p))
          (sym busy) room.bits;
      known = room.known;
      holds = room.holds;
    })
  where
    same : (u : ℕ) → with_place place v (Slot v) u ≡ place u
    same u = pick (u == v) refl
      where
        pick : (b : Bool) → (u == v) ≡ b → (if b then Slot v else place u) ≡ place u
        pick true e = sym (ap place (equal_of u v e) ∙ own)
        pick false e = refl

-- where a register is needed, once a walk for its number has ended
abbrev pub known_by : (items : List VirtualItem) (w : Walk) (a : VReg) (lists : ℕ → List ℕ) → IsListed IsRead items
    lists
    → register_at w.number ≡ a → IsWalk items w → IsClosed items w → w.done ≡ length w.found.items → Known items a
known_by items w a lists listed e walk closed all = record {
  reading = lists w.number;
  found = w.found.items;
  reads_only = λ p h.
      let o = listed.only w.number p h in (o.0, o.1, subst (λ x. Among x (reads o.0)) e o.2);
  reads_all = λ p item f m. listed.all w.number p item f (subst (λ x. Among x (reads item)) (sym e) m);
  only = λ p h.
      subst (λ x. Behind items x p) e
      (All-contains (λ q. Behind items (register_at w.number) q) w.found.items p walk.sound h);
  all = λ p b. all_found items w closed all p (subst (λ x. Behind items x p) (sym e) b);
}
