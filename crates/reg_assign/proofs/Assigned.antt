-- A register's turn: where a real register is free for it, and what is kept of all turns.
use Rattle.std.proofs.Common.{ℕ, zero, suc, ◌-◌, ◌+◌, ◌<◌, ◌≤◌, ◌≡◌, ◌⊎◌, inl, inr, Bool, true, false, List, [], ◌∷◌}
use Rattle.std.proofs.Common.{◌++◌, Some}
use Rattle.std.proofs.Common.{refl, sym, ◌∙◌, ap, subst, length, nat_eq, arith, length-append, replicate}
use Rattle.std.proofs.lemmas.List.{length-replicate}
use Rattle.std.proofs.Math.Path.{fun_ext}
use Rattle.std.proofs.lemmas.List.Elements.{Contains-get_or}
use Rattle.std.proofs.lemmas.Option.{slice_get_within, slice_get_past}
use Rattle.std.specs.Int.{bit_at}
use Rattle.std.specs.Prelude.{◌==◌, nat_lt, if◌then◌else◌, slice_get, slice_index, slice_index_or, unwrap_or, bit_or}
use Rattle.std.specs.Prelude.{Contains}
use Rattle.rv_select.specs.declared.code.VReg.{VReg}
use Rattle.rv_select.specs.declared.code.VReg.TheVariants.{Real, Virtual}
use Rattle.rv_select.specs.declared.code.Place.{Place}
use Rattle.rv_select.specs.declared.code.Place.TheVariants.{InReg, Slot}
use Rattle.rv_select.specs.declared.code.VirtualItem.{VirtualItem}
use Rattle.rv_select.specs.Holding.{Among, writes, place_of, may_hold, SparedBy}
use Rattle.reg_assign.specs.declared.assign.Room.{Room}
use Rattle.reg_assign.specs.declared.walks.Walk.{Walk}
use Rattle.placed_code.specs.Places.{place_in}
use Rattle.placed_code.specs.Check.{HasHolding, with_place, at_turn}
use Rattle.reg_assign.specs.Numbers.{register_at}
use Rattle.reg_assign.specs.Flow.{Behind, IsListed, IsRead, IsWritten}
use Rattle.reg_assign.specs.Room.{Tells, IsRoom, IsBusy, IsTaken, IsLeft, IsChosen, IsBest, Known}
use Rattle.placed_code.proofs.Public.{equal_of, turn_holds}
use Rattle.reg_assign.proofs.Walking.{at_index}
use Rattle.reg_assign.proofs.Masks.{zero_or_one, held_range}
use Rattle.reg_assign.proofs.Kept.{is_member, member_is}
use Rattle.std.proofs.lemmas.List.Elements.{All-weaker}
use Rattle.std.specs.List.{list_any}
use Rattle.reg_assign.specs.Walks.{IsIdle}
use Rattle.reg_assign.proofs.Fine.{steps_more}
use Rattle.reg_assign.specs.Walks.{IsWalk, Steps}
use Rattle.std.proofs.lemmas.Nat.Bits.{bit_at_or, bit_at-zero}
use Rattle.reg_assign.proofs.Rooms.{spares_v, free_at_writes, can_have, known_by}

pub register_v : (v : ℕ) → register_at (33 + v) ≡ Virtual v
register_v v =
    let e : nat_lt (33 + v) 33 ≡ false = grind arith in
    let n : 33 + v - 33 ≡ v = omega arith in
    ap (λ b. if b then Real (33 + v) else Virtual (33 + v - 33)) e ∙ ap Virtual n

module _ (items : List VirtualItem) (place : ℕ → Place) (v : ℕ) (own : place v ≡ Slot v) (room : Room)
    (is : IsRoom items place (33 + v) room) (lists : ℕ → List ℕ) (listed : IsListed IsWritten items lists) (bits : ℕ)
    (told : Tells (λ r. (j : ℕ) → j < length (lists (33 + v))
    → bit_at (slice_index room.busy.items (slice_index (lists (33 + v)) j)) r ≡ 0) bits) (r : ℕ)
    (ok : may_hold r ≡ true) where
  -- a register that is taken can't be had
  pub no_room : IsTaken items place (33 + v) bits r → HasHolding items (with_place place v (InReg r)) → ⊥
  no_room (inl e) h = (told r ok).1 e each
    where
      each : (j : ℕ) → j < length (lists (33 + v))
          → bit_at (slice_index room.busy.items (slice_index (lists (33 + v)) j)) r ≡ 0
      each j l =
          let p = slice_index (lists (33 + v)) j in
          let o = listed.only (33 + v) p (Contains-get_or (lists (33 + v)) j 0 l) in
          let m : Among (Virtual v) (writes o.0) = subst (λ a. Among a (writes o.0)) (register_v v) o.2 in
          let idle = free_at_writes items place v r own h p o.0 o.1 m in
          by p (is.bits p (slice_get_within items p o.0 o.1) r ok) idle (zero_or_one (slice_index room.busy.items p) r)
        where
          by : (p : ℕ) → (bit_at (slice_index room.busy.items p) r ≡ 0 → IsBusy items place p r → ⊥)
              × (bit_at (slice_index room.busy.items p) r ≡ 1 → (IsBusy items place p r → ⊥) → ⊥)
              → (IsBusy items place p r → ⊥)
              → (bit_at (slice_index room.busy.items p) r ≡ 0) ⊎ (bit_at (slice_index room.busy.items p) r ≡ 1)
              → bit_at (slice_index room.busy.items p) r ≡ 0
          by p t idle (inl z) = z
          by p t idle (inr e) = absurd (t.1 e idle)
  no_room (inr t) h =
      let b = subst (λ a. (x : Behind items a t.0) × (SparedBy place x.item (InReg r) → ⊥)) (register_v v) (t.1, t.2) in
      b.1 (spares_v items place v r own h t.0 b.0)

  -- one that is left can
  pub has_room : (w : Walk) (reads : ℕ → List ℕ) → IsListed IsRead items reads → IsLeft items place (33 + v) bits r w
      → HasHolding items (with_place place v (InReg r))
  has_room w reads reading left =
      can_have items place v r own ok is.holds (λ a e. is.known r a ok e)
      (known_by items w (Virtual v) reads reading (ap register_at left.same ∙ register_v v) left.walk left.closed
      left.all) free spares
    where
      free : (p : ℕ) (item : VirtualItem) → slice_get items p ≡ Some item → Among (Virtual v) (writes item)
          → IsBusy items place p r → ⊥
      free p item e m =
          let h = listed.all (33 + v) p item e (subst (λ a. Among a (writes item)) (sym (register_v v)) m) in
          let l : h.0 < length (lists (33 + v)) = h.1 in
          let zero_at = (told r ok).0 left.free h.0 l in
          let at = at_index (lists (33 + v)) p h in
          (is.bits p (slice_get_within items p item e) r ok).0
          (subst (λ x. bit_at (slice_index room.busy.items x) r ≡ 0) at zero_at)

      spares : (p : ℕ) → Contains w.found.items p → (item : VirtualItem) → slice_get items p ≡ Some item
          → SparedBy place item (InReg r)
      spares p h item e =
          let l : h.0 < length w.found.items = h.1 in
          let at = at_index w.found.items p h in
          left.spared h.0 (let a = left.all in omega (arith, l, a)) item
          (subst (λ x. slice_get items x ≡ Some item) (sym at) e)

-- ---- all turns

slot_is : (i j : ℕ) → Slot i ≡ Slot j → i ≡ j
slot_is i j e = cc

not_in_reg : (r i : ℕ) → InReg r ≡ Slot i → ⊥
not_in_reg r i e = let z : ⊥ = cc in z

-- what holds of the registers so far, of which each that isn't in a real register is in the slot of its number
pub record AreTurns (items : List VirtualItem) (places : List Place) : Type 0 where
  pub own : (u i : ℕ) → place_in places u ≡ Slot i → i ≡ u
  pub none_free : (u i r : ℕ) → u < length places → place_in places u ≡ Slot i → may_hold r ≡ true
      → HasHolding items (with_place (at_turn (place_in places) u) u (InReg r)) → ⊥

pub no_turns : (items : List VirtualItem) → AreTurns items []
no_turns items = record {
  own = λ u i e. sym (slot_is u i e);
  none_free = λ u i r l e ok h. omega (arith, l);
}

zero_apart : (n : ℕ) → (0 == suc n) ≡ false
zero_apart n = grind arith

suc_apart : (n : ℕ) → (suc n == 0) ≡ false
suc_apart n = grind arith

suc_same : (u n : ℕ) → (u == n) ≡ (suc u == suc n)
suc_same u n = grind arith

nth : (p : Place) (xs : List Place) (u : ℕ) (d : Place) → unwrap_or (slice_get (xs ++ (p ∷ [])) u) d
    ≡ (if u == length xs then p else unwrap_or (slice_get xs u) d)
nth p [] zero d = refl
nth p [] (suc u) d = ap (λ b. if b then p else d) (sym (suc_apart u))
nth p (x ∷ xs) zero d = ap (λ b. if b then p else x) (sym (zero_apart (length xs)))
nth p (x ∷ xs) (suc u) d =
    nth p xs u d ∙ ap (λ b. if b then p else unwrap_or (slice_get xs u) d) (suc_same u (length xs))

-- the places once one more is given
pub placed_more : (places : List Place) (p : Place)
    → place_in (places ++ (p ∷ [])) ≡ with_place (place_in places) (length places) p
placed_more places p = fun_ext (λ u. nth p places u (Slot u))

past : (places : List Place) (u : ℕ) → length places ≤ u → place_in places u ≡ Slot u
past places u l = ap (λ o. unwrap_or o (Slot u)) (slice_get_past places u l)

-- at its turn a register has the places of those before it
turn_here : (places : List Place) → at_turn (place_in places) (length places) ≡ place_in places
turn_here places = fun_ext (λ u. pick u (nat_lt u (length places)) refl)
  where
    pick : (u : ℕ) (b : Bool) → nat_lt u (length places) ≡ b → (if b then place_in places u else Slot u) ≡ place_in
        places u
    pick u true e = refl
    pick u false e = sym (past places u (grind arith))

turn_same : (place : ℕ → Place) (n : ℕ) (p : Place) (u : ℕ) → u ≤ n → at_turn (with_place place n p) u ≡ at_turn place u
turn_same place n p u l = fun_ext (λ w. pick w (nat_lt w u) refl (w == n) refl)
  where
    pick : (w : ℕ) (b : Bool) → nat_lt w u ≡ b → (c : Bool) → (w == n) ≡ c
        → (if b then (if c then p else place w) else Slot w) ≡ (if b then place w else Slot w)
    pick w true e true f = absurd (let z : ⊥ = grind (arith, l) in z)
    pick w true e false f = refl
    pick w false e c f = refl

pub turns_more : (items : List VirtualItem) (places : List Place) (p : Place) → AreTurns items places
    → IsChosen items (place_in places) (length places) p → AreTurns items (places ++ (p ∷ []))
turns_more items places p t chosen = record {
  own = λ u i e. own u i (sym (ap (λ f. f u) same) ∙ e) (u == length places) refl;
  none_free = λ u i r l e ok h.
      none u i r (let k = length-append places (p ∷ []) in omega (arith, l, k)) (sym (ap (λ f. f u) same) ∙ e) ok
      (subst (λ f. HasHolding items (with_place (at_turn f u) u (InReg r))) same h) (u == length places) refl;
}
  where
    same : place_in (places ++ (p ∷ [])) ≡ with_place (place_in places) (length places) p
    same = placed_more places p

    here : (q : Place) (u i : ℕ) → q ≡ Slot i → IsChosen items (place_in places) (length places) q → u ≡ length places
        → i ≡ u
    here (InReg r) u i e c s = absurd (not_in_reg r i e)
    here (Slot j) u i e c s = sym (slot_is j i e) ∙ (c.0 ∙ sym s)

    own : (u i : ℕ) → with_place (place_in places) (length places) p u ≡ Slot i → (b : Bool) → (u == length places) ≡ b
        → i ≡ u
    own u i e true s =
        here p u i (sym (ap (λ b. if b then p else place_in places u) s) ∙ e) chosen (equal_of u (length places) s)
    own u i e false s = t.own u i (sym (ap (λ b. if b then p else place_in places u) s) ∙ e)

    last : (q : Place) (i r : ℕ) → q ≡ Slot i → IsChosen items (place_in places) (length places) q → may_hold r ≡ true
        → HasHolding items (with_place (place_in places) (length places) (InReg r)) → ⊥
    last (InReg x) i r e c ok h = not_in_reg x i e
    last (Slot j) i r e c ok h = c.1 r ok h

    none : (u i r : ℕ) → u < length places + 1 → with_place (place_in places) (length places) p u ≡ Slot i
        → may_hold r ≡ true
        → HasHolding items (with_place (at_turn (with_place (place_in places) (length places) p) u) u (InReg r))
        → (b : Bool) → (u == length places) ≡ b → ⊥
    none u i r l e ok h true s =
        let k = equal_of u (length places) s in
        let turn = turn_same (place_in places) (length places) p (length places) (omega arith) ∙ turn_here places in
        let g = subst (λ x. HasHolding items
        (with_place (at_turn (with_place (place_in places) (length places) p) x) x (InReg r))) k h in
        last p i r (sym (ap (λ b. if b then p else place_in places u) s) ∙ e) chosen ok
        (subst (λ f. HasHolding items (with_place f (length places) (InReg r))) turn g)
    none u i r l e ok h false s =
        let less : u < length places = grind (arith, l) in
        t.none_free u i r less (sym (ap (λ b. if b then p else place_in places u) s) ∙ e) ok
        (subst (λ f. HasHolding items (with_place f u (InReg r)))
        (turn_same (place_in places) (length places) p u (omega (arith, less))) h)

-- once all have places
pub best_of : (items : List VirtualItem) (places : List Place) (registers : ℕ) → length places ≡ registers
    → AreTurns items places → HasHolding items (place_in places) → IsBest items registers places
best_of items places registers long t holds = record {
  each = long;
  holds = holds;
  maximal = λ v i r l e ok h.
      t.none_free v i r (omega (arith, l, long)) e ok (turn_holds items (place_in places) t.own v r h);
}

-- ---- one step of what is gathered

module _ (items : List VirtualItem) (place : ℕ → Place) (number taken all more : ℕ) (w v : Walk) (p : ℕ)
    (same : w.number ≡ number) (is : IsWalk items w) (step : Steps w v (Some p))
    (told : Tells (λ r. (item : VirtualItem) → slice_get items p ≡ Some item → SparedBy place item (InReg r)) more)
    (before : (r : ℕ) → may_hold r ≡ true → bit_at all r ≡ 1 → IsTaken items place number taken r)
    (free : (r : ℕ) → may_hold r ≡ true → bit_at all r ≡ 0 → bit_at taken r ≡ 0)
    (spared : (r : ℕ) → may_hold r ≡ true → bit_at all r ≡ 0 → (j : ℕ) → j < w.done → (item : VirtualItem)
    → slice_get items (slice_index w.found.items j) ≡ Some item → SparedBy place item (InReg r)) where
  behind : Behind items (register_at number) p
  behind =
      let l : w.done < length w.found.items = step.3 in
      subst (λ n. Behind items (register_at n) p) same
      (subst (Behind items (register_at w.number)) step.2 (is.sound w.done 0 l))

  same_item : (x y : VirtualItem) → slice_get items p ≡ Some x → slice_get items p ≡ Some y → x ≡ y
  same_item x y e f = let z : Some x ≡ Some y = sym e ∙ f in cc

  pub now_taken : (r : ℕ) → may_hold r ≡ true → bit_at (bit_or all more) r ≡ 1 → IsTaken items place number taken r
  now_taken r h e = by (zero_or_one all r) (zero_or_one more r)
    where
      by : (bit_at all r ≡ 0) ⊎ (bit_at all r ≡ 1) → (bit_at more r ≡ 0) ⊎ (bit_at more r ≡ 1)
          → IsTaken items place number taken r
      by (inr o) y = before r h o
      by (inl z) (inr o) =
          inr (
            p,
            behind,
            λ k. (told r h).1 o (λ item f.
                subst (λ x. SparedBy place x (InReg r)) (same_item behind.item item behind.there f) k),
          )
      by (inl z) (inl y) = absurd (let o = bit_at_or all more r in let x : ⊥ = omega (arith, o, z, y, e) in x)

  both_zero : (r : ℕ) → bit_at (bit_or all more) r ≡ 0 → (bit_at all r ≡ 0) × (bit_at more r ≡ 0)
  both_zero r e = let o = bit_at_or all more r in (omega (arith, o, e), omega (arith, o, e))

  pub now_free : (r : ℕ) → may_hold r ≡ true → bit_at (bit_or all more) r ≡ 0 → bit_at taken r ≡ 0
  now_free r h e = free r h (both_zero r e).0

  pub now_spared : (r : ℕ) → may_hold r ≡ true → bit_at (bit_or all more) r ≡ 0 → (j : ℕ) → j < v.done
      → (item : VirtualItem) → slice_get items (slice_index v.found.items j) ≡ Some item → SparedBy place item (InReg r)
  now_spared r h e =
      let z = both_zero r e in
      steps_more (λ q. (item : VirtualItem) → slice_get items q ≡ Some item → SparedBy place item (InReg r)) w v p step
      (spared r h z.0) ((told r h).0 z.1)

pub own_slot : (places : List Place) (v : ℕ) → length places ≡ v → place_in places v ≡ Slot v
own_slot places v e = past places v (omega (arith, e))

-- ---- before the first turn

real_is : (a : VReg) (q : ℕ) → place_of (λ v. Slot v) a ≡ InReg q → Real q ≡ a
real_is (Real x) q e = let s : q ≡ x = cc in ap Real s
real_is (Virtual u) q e = absurd (let z : ⊥ = cc in z)

-- what is noted of the real registers below a number
pub record RealsUpto (items : List VirtualItem) (busy : List ℕ) (n : ℕ) : Type 0 where
  pub size : length busy ≡ length items
  pub told : (p q : ℕ) → may_hold q ≡ true → q < n
      → (bit_at (slice_index busy p) q ≡ 0 → Behind items (Real q) p → ⊥)
      × (bit_at (slice_index busy p) q ≡ 1 → (Behind items (Real q) p → ⊥) → ⊥)
  pub rest : (p q : ℕ) → n ≤ q → bit_at (slice_index busy p) q ≡ 0
  pub known : (q : ℕ) → may_hold q ≡ true → q < n → Known items (Real q)

zeros_at : (n p : ℕ) → slice_index (replicate n 0) p ≡ 0
zeros_at zero p = refl
zeros_at (suc n) zero = refl
zeros_at (suc n) (suc p) = zeros_at n p

pub no_reals : (items : List VirtualItem) → RealsUpto items (replicate (length items) 0) 3
no_reals items = record {
  size = length-replicate (length items) 0;
  told = λ p q h l. absurd (let k = held_range q h in let a = k.0 in omega (arith, l, a));
  rest = λ p q l. ap (λ x. bit_at x q) (zeros_at (length items) p) ∙ bit_at-zero q;
  known = λ q h l. absurd (let k = held_range q h in let a = k.0 in omega (arith, l, a));
}

pub reals_more : (items : List VirtualItem) (old new : List ℕ) (r : ℕ) → RealsUpto items old r
    → (mine : Known items (Real r)) → length new ≡ length old
    → ((p q : ℕ) → (q ≡ r → ⊥) → bit_at (slice_index new p) q ≡ bit_at (slice_index old p) q)
    → ((p : ℕ) → Contains mine.found p → bit_at (slice_index new p) r ≡ 1)
    → ((p : ℕ) → (Contains mine.found p → ⊥) → slice_index new p ≡ slice_index old p) → RealsUpto items new (r + 1)
reals_more items old new r is mine size others set still = record {
  size = size ∙ is.size;
  told = λ p q h l. by p q h l (q == r) refl;
  rest = λ p q l.
      others p q (λ e. let z : ⊥ = omega (arith, e, l) in z) ∙ is.rest p q (omega (arith, l));
  known = λ q h l. knows q h l (q == r) refl;
}
  where
    here : (p : ℕ) (b : Bool) → list_any (nat_eq p) mine.found ≡ b
        → (bit_at (slice_index new p) r ≡ 0 → Behind items (Real r) p → ⊥)
        × (bit_at (slice_index new p) r ≡ 1 → (Behind items (Real r) p → ⊥) → ⊥)
    here p true e =
        let m = member_is p mine.found e in (
          λ z b. let o = set p m in let y : ⊥ = omega (arith, o, z) in y,
          λ o k. k (mine.only p m),
        )
    here p false e =
        let away : Contains mine.found p → ⊥ =
        (λ m. let t : true ≡ false = sym (is_member p mine.found m) ∙ e in let y : ⊥ = cc in y) in
        let none = ap (λ x. bit_at x r) (still p away) ∙ is.rest p r (omega arith) in (
          λ z b. away (mine.all p b),
          λ o k. let y : ⊥ = omega (arith, none, o) in y,
        )

    by : (p q : ℕ) → may_hold q ≡ true → q < r + 1 → (b : Bool) → (q == r) ≡ b
        → (bit_at (slice_index new p) q ≡ 0 → Behind items (Real q) p → ⊥)
        × (bit_at (slice_index new p) q ≡ 1 → (Behind items (Real q) p → ⊥) → ⊥)
    by p q h l true e =
        subst (λ x. (bit_at (slice_index new p) x ≡ 0 → Behind items (Real x) p → ⊥)
        × (bit_at (slice_index new p) x ≡ 1 → (Behind items (Real x) p → ⊥) → ⊥)) (sym (equal_of q r e))
        (here p (list_any (nat_eq p) mine.found) refl)
    by p q h l false e =
        let same = others p q (λ s. let z : ⊥ = grind arith in z) in
        let t = is.told p q h (grind (arith, l)) in (
          λ z. t.0 (sym same ∙ z),
          λ o. t.1 (sym same ∙ o),
        )

    knows : (q : ℕ) → may_hold q ≡ true → q < r + 1 → (b : Bool) → (q == r) ≡ b → Known items (Real q)
    knows q h l true e = subst (λ x. Known items (Real x)) (sym (equal_of q r e)) mine
    knows q h l false e = is.known q h (grind (arith, l))

pub first_room : (items : List VirtualItem) (room : Room) (n : ℕ) → 25 ≤ n → n ≤ 33
    → RealsUpto items room.busy.items n → IsIdle (length items) n room.walk → HasHolding items (λ v. Slot v)
    → IsRoom items (λ v. Slot v) 33 room
first_room items room n low high is idle holds = record {
  idle = record {
    size = idle.size;
    older = All-weaker (λ s. s ≤ n) (λ s. s ≤ 33) (λ s l. omega (arith, l, high)) room.walk.seen.items idle.older;
  };
  size = is.size;
  bits = λ p l q h.
      let t = is.told p q h (let k = held_range q h in let a = k.1 in omega (arith, a, low)) in (
        λ z b. t.0 z (subst (λ a. Behind items a p) (sym (real_is b.register q b.here)) b.behind),
        λ o k. t.1 o (λ b. k (record { register = Real q; here = refl; behind = b })),
      );
  known = λ q a h e.
      subst (Known items) (real_is a q e)
      (is.known q h (let k = held_range q h in let b = k.1 in omega (arith, b, low)));
  holds = holds;
}

pub idle_on : (count a b : ℕ) (w : Walk) → a ≤ b → IsIdle count a w → IsIdle count b w
idle_on count a b w l is = record {
  size = is.size;
  older = All-weaker (λ s. s ≤ a) (λ s. s ≤ b) (λ s k. omega (arith, k, l)) w.seen.items is.older;
}

pub idle_after : (items : List VirtualItem) (w : Walk) (r : ℕ) → w.number ≡ r → IsWalk items w
    → IsIdle (length items) (r + 1) w
idle_after items w r e is = record {
  size = is.size;
  older = All-weaker (λ s. s ≤ suc w.number) (λ s. s ≤ r + 1) (λ s k. omega (arith, k, e)) w.seen.items is.older;
}

pub found_below : (items : List VirtualItem) (w : Walk) (n : ℕ) → length items ≡ n → IsWalk items w
    → (k d : ℕ) → k < length w.found.items → slice_index_or w.found.items k d < n
found_below items w n e is k d l =
    let b = is.sound k d l in
    let m = slice_get_within items (slice_index_or w.found.items k d) b.item b.there in omega (arith, m, e)
