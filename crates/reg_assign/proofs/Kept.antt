-- A holding register by register: what a walk back tells of one, and that all together are a holding.
use Rattle.std.proofs.Common.{ℕ, ◌+◌, ◌-◌, ◌<◌, ◌≤◌, ◌≡◌, ◌≢◌, ◌⊎◌, inl, inr, Bool, true, false, List, [], ◌∷◌}
use Rattle.std.proofs.Common.{◌++◌}
use Rattle.std.proofs.Common.{refl, sym, ◌∙◌, ap, subst, Some, arith}
use Rattle.std.specs.Prelude.{◌==◌, nat_eq, nat_lt, if◌then◌else◌, slice_get, Contains}
use Rattle.std.specs.Cmp.{decided}
use Rattle.std.specs.List.{list_any}
use Rattle.std.proofs.lemmas.Bool.Decides.{Decides-eqb}
use Rattle.std.proofs.lemmas.List.Elements.{Contains-append_left, Contains-append_right, Contains-append_cases}
use Rattle.std.proofs.lemmas.Map.Views.{Contains-from_any, list_any-from_Contains}
use Rattle.rv_select.specs.declared.code.VReg.{VReg}
use Rattle.rv_select.specs.declared.code.VReg.TheVariants.{Real, Virtual}
use Rattle.rv_select.specs.declared.code.Place.{Place}
use Rattle.rv_select.specs.declared.code.Place.TheVariants.{InReg}
use Rattle.rv_select.specs.declared.code.VirtualItem.{VirtualItem}
use Rattle.rv_select.specs.declared.code.VirtualItem.TheVariants.{Procedure, Call, CallAt}
use Rattle.rv_select.specs.Holding.{Among, reads, writes, place_of, NoneAt, SparedBy, SparedByCall, MayFollow}
use Rattle.rv_select.specs.Holding.{may_hold}
use Rattle.placed_code.specs.Check.{HasHolding, AreAllowed, Needed, Read, Later}
use Rattle.reg_assign.specs.Numbers.{register_at}
use Rattle.reg_assign.specs.Flow.{Behind, IsVirtual, IsKept, IsTold, EachTold}
use Rattle.reg_assign.specs.Walks.{Reaches}
use Rattle.reg_assign.specs.Fits.{IsBeginning}
use Rattle.placed_code.proofs.Public.{equal_of}

-- ---- members of a list

pub is_member : (p : ℕ) (xs : List ℕ) → Contains xs p → list_any (nat_eq p) xs ≡ true
is_member p xs h = list_any-from_Contains (decided nat_eq Decides-eqb) p xs h

pub member_is : (p : ℕ) (xs : List ℕ) → list_any (nat_eq p) xs ≡ true → Contains xs p
member_is p xs e = Contains-from_any (λ a b f. (Decides-eqb a b).0 f) p xs e

-- ---- whether a register is among some

same_register : (a x : VReg) → (x ≡ a) ⊎ (x ≢ a)
same_register (Real r) (Real q) = pick (q == r) refl
  where
    pick : (b : Bool) → (q == r) ≡ b → (Real q ≡ Real r) ⊎ (Real q ≢ Real r)
    pick true e = inl (ap Real (equal_of q r e))
    pick false e = inr (λ f. let s : q ≡ r = cc in let z : ⊥ = grind arith in z)
same_register (Real r) (Virtual u) = inr (λ f. let z : ⊥ = cc in z)
same_register (Virtual v) (Real q) = inr (λ f. let z : ⊥ = cc in z)
same_register (Virtual v) (Virtual u) = pick (u == v) refl
  where
    pick : (b : Bool) → (u == v) ≡ b → (Virtual u ≡ Virtual v) ⊎ (Virtual u ≢ Virtual v)
    pick true e = inl (ap Virtual (equal_of u v e))
    pick false e = inr (λ f. let s : u ≡ v = cc in let z : ⊥ = grind arith in z)

pub among_or : (a : VReg) (xs : List VReg) → Among a xs ⊎ (Among a xs → ⊥)
among_or a [] = inr (λ h. h)
among_or a (x ∷ xs) = by (same_register a x) (among_or a xs)
  where
    by : (x ≡ a) ⊎ (x ≢ a) → Among a xs ⊎ (Among a xs → ⊥) → Among a (x ∷ xs) ⊎ (Among a (x ∷ xs) → ⊥)
    by (inl e) k = inl (inl e)
    by (inr d) (inl k) = inl (inr k)
    by (inr d) (inr k) = inr (λ h. no_case h)
      where
        no_case : (x ≡ a) ⊎ Among a xs → ⊥
        no_case (inl e) = d e
        no_case (inr m) = k m

module _ (items : List VirtualItem) (place : ℕ → Place) where
  -- ---- what is kept

  needed_kept : (a : VReg) (k : IsKept items place a) (p : ℕ) (b : VReg) → Needed items p b → b ≡ a → k.held p ≡ true
  needed_kept a k p b (Read q item d e m) s = k.finds p item e (subst (λ x. Among x (reads item)) s m)
  needed_kept a k p b (Later r q item d e f away later) s = by (k.flows p q item e f (needed_kept a k q b later s))
    where
      by : Among a (writes item) ⊎ ((k.held p ≡ true) × SparedBy place item (place_of place a)) → k.held p ≡ true
      by (inl m) = absurd (away (subst (λ x. Among x (writes item)) (sym s) m))
      by (inr h) = h.0

  pub behind_kept : (a : VReg) (k : IsKept items place a) (p : ℕ) (b : Behind items a p)
      → (k.held p ≡ true) × SparedBy place b.item (place_of place a)
  behind_kept a k p b =
      by (k.flows p b.leads.next b.item b.there b.leads.follows (needed_kept a k b.leads.next a b.leads.needed refl))
    where
      by : Among a (writes b.item) ⊎ ((k.held p ≡ true) × SparedBy place b.item (place_of place a))
          → (k.held p ≡ true) × SparedBy place b.item (place_of place a)
      by (inl m) = absurd (b.away m)
      by (inr h) = h

  same_item : (p : ℕ) (x y : VirtualItem) → slice_get items p ≡ Some x → slice_get items p ≡ Some y → x ≡ y
  same_item p x y e f = let z : Some x ≡ Some y = sym e ∙ f in cc

  -- a register isn't kept where an item changes its place, though it is needed behind it
  pub spared_where_kept : (a : VReg) → IsKept items place a → (p : ℕ) → Behind items a p → (item : VirtualItem)
      → slice_get items p ≡ Some item → SparedBy place item (place_of place a)
  spared_where_kept a k p b item e =
      subst (λ x. SparedBy place x (place_of place a)) (same_item p b.item item b.there e) (behind_kept a k p b).1

  not_both : (b : Bool) → b ≡ true → b ≡ false → ⊥
  not_both b e f = let z : true ≡ false = sym e ∙ f in let y : ⊥ = cc in y

  -- nor where it is virtual and is needed at a beginning
  pub none_where_kept : (a : VReg) → IsVirtual a → (k : IsKept items place a) → (p : ℕ) → k.held p ≡ true
      → IsBeginning items p → ⊥
  none_where_kept a v k p h (inl e) = not_both (k.held 0) (subst (λ x. k.held x ≡ true) e h) (k.start v)
  none_where_kept a v k p h (inr e) = not_both (k.held p) h (k.procedures p e.0 e.1 e.2 e.3 v)

  -- ---- what a walk shows

  module _ (a : VReg) (reading found : List ℕ)
      (only : (p : ℕ) → Contains reading p → (item : VirtualItem) × (slice_get items p ≡ Some item) × Among a (reads
      item))
      (all : (p : ℕ) (item : VirtualItem) → slice_get items p ≡ Some item → Among a (reads item) → Contains reading p)
      (from_reads : (q : ℕ) → Contains reading q → Reaches items a found q)
      (from_found : (q : ℕ) → Contains found q → Reaches items a found q)
      (begins : IsVirtual a → Contains reading 0 → ⊥)
      (apart : (p : ℕ) → Contains found p → IsVirtual a → IsBeginning items p → ⊥)
      (spared : (p : ℕ) → Contains found p → (item : VirtualItem) → slice_get items p ≡ Some item
      → SparedBy place item (place_of place a)) where
    nowhere : (p : ℕ) → (Contains (reading ++ found) p → ⊥) → list_any (nat_eq p) (reading ++ found) ≡ false
    nowhere p never = pick (list_any (nat_eq p) (reading ++ found)) refl
      where
        pick : (b : Bool) → list_any (nat_eq p) (reading ++ found) ≡ b → list_any (nat_eq p) (reading ++ found) ≡ false
        pick true e = absurd (never (member_is p (reading ++ found) e))
        pick false e = e

    at_start : IsVirtual a → Contains reading 0 ⊎ Contains found 0 → ⊥
    at_start v (inl h) = begins v h
    at_start v (inr h) = apart 0 h v (inl refl)

    reads_nothing : (p k first count : ℕ) → slice_get items p ≡ Some (Procedure k first count) → IsVirtual a
        → Contains reading p ⊎ Contains found p → ⊥
    reads_nothing p k first count e v (inl h) =
        let o = only p h in subst (λ x. Among a (reads x)) (same_item p o.0 (Procedure k first count) o.1 e) o.2
    reads_nothing p k first count e v (inr h) = apart p h v (inr (k, first, count, e))

    comes : (p q : ℕ) (item : VirtualItem) → slice_get items p ≡ Some item → MayFollow items item p q
        → Contains reading q ⊎ Contains found q → (Among a (writes item) → ⊥) → Contains found p
    comes p q item e f (inl h) away = from_reads q h p item e f away
    comes p q item e f (inr h) away = from_found q h p item e f away

    flow : (p q : ℕ) (item : VirtualItem) → slice_get items p ≡ Some item → MayFollow items item p q
        → list_any (nat_eq q) (reading ++ found) ≡ true → Among a (writes item) ⊎ (Among a (writes item) → ⊥)
        → Among a (writes item)
        ⊎ ((list_any (nat_eq p) (reading ++ found) ≡ true) × SparedBy place item (place_of place a))
    flow p q item e f h (inl m) = inl m
    flow p q item e f h (inr away) =
        let c = comes p q item e f (Contains-append_cases reading found q (member_is q (reading ++ found) h)) away in
        inr (is_member p (reading ++ found) (Contains-append_right reading found p c), spared p c item e)

    pub kept_by_walk : IsKept items place a
    kept_by_walk = record {
      held = λ p. list_any (nat_eq p) (reading ++ found);
      start = λ v. nowhere 0 (λ h. at_start v (Contains-append_cases reading found 0 h));
      procedures = λ p k first count e v.
          nowhere p (λ h. reads_nothing p k first count e v (Contains-append_cases reading found p h));
      finds = λ p item e m.
          is_member p (reading ++ found) (Contains-append_left reading found p (all p item e m));
      flows = λ p q item e f h. flow p q item e f h (among_or a (writes item));
    }

  -- a register that is read nowhere
  pub kept_unread : (a : VReg)
      → ((p : ℕ) (item : VirtualItem) → slice_get items p ≡ Some item → Among a (reads item) → ⊥) → IsKept items place a
  kept_unread a unread = record {
    held = λ p. false;
    start = λ v. refl;
    procedures = λ p k first count e v. refl;
    finds = λ p item e m. absurd (unread p item e m);
    flows = λ p q item e f h. absurd (let y : ⊥ = cc in y);
  }

  -- ---- all registers

  -- what calls with many words read beyond x31 is kept where the first of it is
  kept_beyond : EachTold items → AreAllowed place → (r : ℕ) → 33 ≤ r → IsKept items place (Real 32)
      → IsKept items place (Real r)
  kept_beyond told allowed r far k = record {
    held = k.held;
    start = λ v. absurd v;
    procedures = λ p i first count e v. absurd v;
    finds = λ p item e m. k.finds p item e (first_too item (told.reads p item e (Real r) m));
    flows = λ p q item e f h. inr (on p item e (k.flows p q item e f h));
  }
    where
      first_too : (item : VirtualItem) → IsTold (Real r) ⊎ Among (Real 32) (reads item) → Among (Real 32) (reads item)
      first_too item (inl l) = absurd (omega (arith, l, far))
      first_too item (inr m) = m

      elsewhere : (xs : List VReg) → ((x : VReg) → Among x xs → IsTold x) → NoneAt place (InReg r) xs
      elsewhere [] t = tt
      elsewhere (x ∷ xs) t = (one x (t x (inl refl)), elsewhere xs (λ y m. t y (inr m)))
        where
          one : (x : VReg) → IsTold x → place_of place x ≢ InReg r
          one (Real q) l e = let s : q ≡ r = cc in omega (arith, l, far, s)
          one (Virtual v) l e =
              let a : may_hold r ≡ true = allowed v r e in let z : ⊥ = grind (arith, far) in z

      by_call : SparedByCall (InReg 32) → SparedByCall (InReg r)
      by_call h = absurd (let z : ⊥ = cc in z)

      spared : (item : VirtualItem) → ((x : VReg) → Among x (writes item) → IsTold x) → SparedBy place item (InReg 32)
          → SparedBy place item (InReg r)
      spared (Call i n) t h = by_call h
      spared (CallAt f n) t h = by_call h
      spared item t h = elsewhere (writes item) t

      on : (p : ℕ) (item : VirtualItem) → slice_get items p ≡ Some item
          → Among (Real 32) (writes item) ⊎ ((k.held p ≡ true) × SparedBy place item (InReg 32))
          → (k.held p ≡ true) × SparedBy place item (InReg r)
      on p item e (inl m) = let l : 32 < 32 = told.writes p item e (Real 32) m in absurd (omega (arith, l))
      on p item e (inr h) = (h.0, spared item (told.writes p item e) h.1)

  -- registers that are kept one by one are kept together
  pub holding_of : AreAllowed place → ((a : VReg) → IsKept items place a) → HasHolding items place
  holding_of allowed kept = (
    λ p a. (kept a).held p,
    record {
      allowed = allowed;
      start = λ v. (kept (Virtual v)).start tt;
      procedures = λ p k first count v e. (kept (Virtual v)).procedures p k first count e tt;
      finds = λ p item a e m. (kept a).finds p item e m;
      flows = λ p q item a e f l. (kept a).flows p q item e f l;
    },
  )

  pub all_kept : EachTold items → AreAllowed place → ((k : ℕ) → IsKept items place (register_at k))
      → HasHolding items place
  all_kept told allowed each = holding_of allowed kept
    where
      kept : (a : VReg) → IsKept items place a
      kept (Real r) = pick (nat_lt r 33) refl
        where
          pick : (b : Bool) → nat_lt r 33 ≡ b → IsKept items place (Real r)
          pick true e =
              subst (IsKept items place) (ap (λ b. if b then Real r else Virtual (r - 33)) e) (each r)
          pick false e = kept_beyond told allowed r (grind arith) (each 32)
      kept (Virtual v) =
          let e : nat_lt (33 + v) 33 ≡ false = grind arith in
          let n : 33 + v - 33 ≡ v = omega arith in
          subst (IsKept items place)
          (ap (λ b. if b then Real (33 + v) else Virtual (33 + v - 33)) e ∙ ap Virtual n) (each (33 + v))

  pub kept_of_all : HasHolding items place → (a : VReg) → IsKept items place a
  kept_of_all h a = record {
    held = λ p. h.0 p a;
    start = λ v. start a v;
    procedures = λ p k first count e v. procedures a p k first count e v;
    finds = λ p item e m. h.1.finds p item a e m;
    flows = λ p q item e f l. h.1.flows p q item a e f l;
  }
    where
      start : (a : VReg) → IsVirtual a → h.0 0 a ≡ false
      start (Real r) v = absurd v
      start (Virtual u) v = h.1.start u

      procedures : (a : VReg) (p k first count : ℕ) → slice_get items p ≡ Some (Procedure k first count) → IsVirtual a
          → h.0 p a ≡ false
      procedures (Real r) p k first count e v = absurd v
      procedures (Virtual u) p k first count e v = h.1.procedures p k first count u e
