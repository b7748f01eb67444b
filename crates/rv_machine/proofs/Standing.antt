-- Items that stand in a code with marks, and where its run goes on from them.
use Rattle.std.proofs.Common.{ℕ, zero, suc, ◌+◌, ◌%◌, ◌^◌, ◌<◌, ◌≡◌, ◌≢◌, Bool, true, false, List, [], ◌∷◌, ◌++◌}
use Rattle.std.proofs.Common.{Some, drop, refl, sym, ◌∙◌, ap, subst, arith}
use Rattle.std.specs.Prelude.{◌==◌, if◌then◌else◌, slice_get}
use Rattle.run_laws.specs.Runs.{Ending}
use Rattle.rv_machine.specs.declared.real.RealItem.{RealItem}
use Rattle.rv_machine.specs.declared.real.RealItem.TheVariants.{Op, Mark, Jump, Branch, Address}
use Rattle.rv_machine.specs.State.{State}
use Rattle.machine_words.specs.Halts.{Halt}
use Rattle.rv_machine.specs.Real.{Setting, Here, is_mark, AreAddresses, MarksStandOnce}
use Rattle.rv_machine.specs.Real.{address_from, mark_from, mark_address, item_from, item_at}

-- ---- a code and what is known of it

-- a code with marks in a setting, with the reading of its stops, whose addresses and marks are sound
pub record Program (V : Type 0) : Type 0 where
  pub reading : Halt → Ending V
  pub code : List RealItem
  pub setting : Setting
  pub addresses : AreAddresses code setting.address
  pub marks : MarksStandOnce code

-- these items stand in the code from a place on, and the state is at the first of them that isn't a mark
pub record At {V : Type 0} (program : Program V) (s : State) (items : List RealItem) : Type 0 where
  pub place : ℕ
  pub stand : drop place program.code ≡ items
  pub address : address_from program.setting.address place items ≡ Some s.pc

-- some item isn't a mark
abbrev pub HasItem : List RealItem → Type 0
HasItem [] = ⊥
HasItem (Mark mark ∷ rest) = HasItem rest
HasItem (item ∷ rest) = Unit {0}

pub has_item-append : (xs ys : List RealItem) → HasItem ys → HasItem (xs ++ ys)
has_item-append [] ys h = h
has_item-append (Mark mark ∷ xs) ys h = has_item-append xs ys h
has_item-append (Op i ∷ xs) ys h = tt
has_item-append (Jump rd mark ∷ xs) ys h = tt
has_item-append (Branch cond a b mark ∷ xs) ys h = tt
has_item-append (Address rd mark ∷ xs) ys h = tt

-- the first of the items from a place on, and those behind it
pub drop_next : {X : Type 0} (xs : List X) (place : ℕ) (x : X) (rest : List X) → drop place xs ≡ x ∷ rest →
    (slice_get xs place ≡ Some x) × (drop (suc place) xs ≡ rest)
drop_next [] zero x rest e = absurd (cc)
drop_next [] (suc place) x rest e = absurd (cc)
drop_next (y ∷ ys) zero x rest e = (cc, cc)
drop_next (y ∷ ys) (suc place) x rest e = drop_next ys place x rest e

different : (a b : ℕ) → a ≢ b → (a == b) ≡ false
different a b h = grind arith

equal_self : (n : ℕ) → (n == n) ≡ true
equal_self n = grind arith

nothing_behind : (k : ℕ) (x : RealItem) (xs : List RealItem) → drop k (let zs : List RealItem = [] in zs) ≡ x ∷ xs → ⊥
nothing_behind zero x xs e = cc
nothing_behind (suc k) x xs e = cc

-- ---- addresses of items, told where each place lies

module _ (address : ℕ → ℕ) where
  pub some_address : (xs : List RealItem) (k : ℕ) → HasItem xs → (n : ℕ) × (address_from address k xs ≡ Some n)
  some_address [] k h = absurd h
  some_address (Mark mark ∷ xs) k h = some_address xs (suc k) h
  some_address (Op i ∷ xs) k h = (address k, refl)
  some_address (Jump rd mark ∷ xs) k h = (address k, refl)
  some_address (Branch cond a b mark ∷ xs) k h = (address k, refl)
  some_address (Address rd mark ∷ xs) k h = (address k, refl)

  -- what holds of every place's address holds of that of the first item
  address_has : (P : ℕ → Type 0) → ((place : ℕ) → P (address place)) → (xs : List RealItem) (k n : ℕ) →
      address_from address k xs ≡ Some n → P n
  address_has P h [] k n e = absurd (cc)
  address_has P h (Mark mark ∷ xs) k n e = address_has P h xs (suc k) n e
  address_has P h (Op i ∷ xs) k n e = let a : address k ≡ n = cc in subst P a (h k)
  address_has P h (Jump rd mark ∷ xs) k n e = let a : address k ≡ n = cc in subst P a (h k)
  address_has P h (Branch cond x y mark ∷ xs) k n e = let a : address k ≡ n = cc in subst P a (h k)
  address_has P h (Address rd mark ∷ xs) k n e = let a : address k ≡ n = cc in subst P a (h k)

  first_address : (x : RealItem) (k : ℕ) (xs : List RealItem) → is_mark x ≡ false →
      address_from address k (x ∷ xs) ≡ Some (address k)
  first_address (Mark mark) k xs m = absurd (cc)
  first_address (Op i) k xs m = refl
  first_address (Jump rd mark) k xs m = refl
  first_address (Branch cond a b mark) k xs m = refl
  first_address (Address rd mark) k xs m = refl

  -- the item at a place, with the address of the next
  abbrev pub found_at : ℕ → RealItem → List RealItem → Here
  found_at k x xs = record { place = k; item = x; next = address_from address (suc k) xs }

  first_item : (x : RealItem) (at k : ℕ) (xs : List RealItem) → is_mark x ≡ false →
      item_from address at k (x ∷ xs)
      ≡ (if address k == at then Some (found_at k x xs) else item_from address at (suc k) xs)
  first_item (Mark mark) at k xs m = absurd (cc)
  first_item (Op i) at k xs m = refl
  first_item (Jump rd mark) at k xs m = refl
  first_item (Branch cond a b mark) at k xs m = refl
  first_item (Address rd mark) at k xs m = refl

  after_mark : (x : RealItem) (at k : ℕ) (xs : List RealItem) → is_mark x ≡ true →
      item_from address at k (x ∷ xs) ≡ item_from address at (suc k) xs
  after_mark (Mark mark) at k xs m = refl
  after_mark (Op i) at k xs m = absurd (cc)
  after_mark (Jump rd mark) at k xs m = absurd (cc)
  after_mark (Branch cond a b mark) at k xs m = absurd (cc)
  after_mark (Address rd mark) at k xs m = absurd (cc)

-- ---- the item at an address, and the address of a mark

module _ {V : Type 0} (program : Program V) where
  abbrev code : List RealItem
  code = program.code

  abbrev address : ℕ → ℕ
  address = program.setting.address

  -- the search from place p on finds the item at place k = p + n
  item_is : (ys : List RealItem) (n p k : ℕ) (xs : List RealItem) (x : RealItem) → k ≡ p + n →
      slice_get code k ≡ Some x → drop p code ≡ ys → drop n ys ≡ x ∷ xs → is_mark x ≡ false →
      item_from address (address k) p ys ≡ Some (found_at address k x xs)
  item_is [] n p k xs x e there f g m = absurd (nothing_behind n x xs g)
  item_is (y ∷ ys) zero p k xs x e there f g m =
      let same : k ≡ p = omega (arith, e) in
      let ys_is : x ∷ xs ≡ y ∷ ys = sym g in
      subst (λ q. item_from address (address k) q (y ∷ ys) ≡ Some (found_at address k x xs)) same (
      subst (λ zs. item_from address (address k) k zs ≡ Some (found_at address k x xs)) ys_is (
      first_item address x (address k) k xs m
      ∙ ap (λ c. if c then Some (found_at address k x xs) else item_from address (address k) (suc k) xs)
      (equal_self (address k))))
  item_is (y ∷ ys) (suc n) p k xs x e there f g m =
      let next = drop_next code p y ys f in
      later (is_mark y) refl (item_is ys n (suc p) k xs x (omega (arith, e)) there next.1 g m)
    where
      later : (c : Bool) → is_mark y ≡ c → item_from address (address k) (suc p) ys ≡ Some (found_at address k x xs) →
          item_from address (address k) p (y ∷ ys) ≡ Some (found_at address k x xs)
      later true h ih = after_mark address y (address k) p ys h ∙ ih
      later false h ih =
          let here = (drop_next code p y ys f).0 in
          let not_here : address p ≢ address k = (λ q.
          let w : p ≡ k = program.addresses.distinct p k y x here there h m q in
          let z : ⊥ = omega (arith, e, w) in z) in
          first_item address y (address k) p ys h
          ∙ (ap (λ c. if c then Some (found_at address p y ys) else item_from address (address k) (suc p) ys)
          (different (address p) (address k) not_here)
          ∙ ih)

  -- the item that the state is at
  pub item_here : {s : State} {x : RealItem} {xs : List RealItem} (at : At program s (x ∷ xs)) → is_mark x ≡ false →
      item_at address code s.pc ≡ Some (found_at address at.place x xs)
  item_here {s} {x} {xs} at m =
      let same : s.pc ≡ address at.place =
      (let q : Some s.pc ≡ Some (address at.place) = sym at.address ∙ first_address address x at.place xs m in cc) in
      let there = (drop_next code at.place x xs at.stand).0 in
      ap (λ a. item_at address code a) same
      ∙ item_is code at.place 0 at.place xs x (omega arith) there refl at.stand m

  mark_is : (ys : List RealItem) (n p k m : ℕ) (xs : List RealItem) → k ≡ p + n → slice_get code k ≡ Some (Mark m) →
      drop p code ≡ ys → drop n ys ≡ Mark m ∷ xs → mark_from address m p ys ≡ address_from address (suc k) xs
  mark_is [] n p k m xs e there f g = absurd (nothing_behind n (Mark m) xs g)
  mark_is (y ∷ ys) zero p k m xs e there f g =
      let same : k ≡ p = omega (arith, e) in
      let ys_is : Mark m ∷ xs ≡ y ∷ ys = sym g in
      subst (λ q. mark_from address m q (y ∷ ys) ≡ address_from address (suc k) xs) same (
      subst (λ zs. mark_from address m k zs ≡ address_from address (suc k) xs) ys_is (
      ap (λ c. if c then address_from address (suc k) xs else mark_from address m (suc k) xs) (equal_self m)))
  mark_is (Mark q ∷ ys) (suc n) p k m xs e there f g =
      let next = drop_next code p (Mark q) ys f in
      let ih = mark_is ys n (suc p) k m xs (omega (arith, e)) there next.1 g in
      let other : q ≢ m = (λ w.
      let h : slice_get code p ≡ Some (Mark m) = next.0 ∙ ap (λ z. Some (Mark z)) w in
      let v : p ≡ k = program.marks p k m h there in
      let z : ⊥ = omega (arith, e, v) in z) in
      ap (λ c. if c then address_from address (suc p) ys else mark_from address m (suc p) ys) (different q m other) ∙ ih
  mark_is (Op i ∷ ys) (suc n) p k m xs e there f g =
      mark_is ys n (suc p) k m xs (omega (arith, e)) there (drop_next code p (Op i) ys f).1 g
  mark_is (Jump rd q ∷ ys) (suc n) p k m xs e there f g =
      mark_is ys n (suc p) k m xs (omega (arith, e)) there (drop_next code p (Jump rd q) ys f).1 g
  mark_is (Branch cond a b q ∷ ys) (suc n) p k m xs e there f g =
      mark_is ys n (suc p) k m xs (omega (arith, e)) there (drop_next code p (Branch cond a b q) ys f).1 g
  mark_is (Address rd q ∷ ys) (suc n) p k m xs e there f g =
      mark_is ys n (suc p) k m xs (omega (arith, e)) there (drop_next code p (Address rd q) ys f).1 g

  -- ---- states at items

  pub at_small : {s : State} {xs : List RealItem} → At program s xs → s.pc < 2 ^ 64
  at_small {s} {xs} at = address_has address (λ n. n < 2 ^ 64) program.addresses.small xs at.place s.pc at.address

  pub at_aligned : {s : State} {xs : List RealItem} → At program s xs → s.pc % 4 ≡ 0
  at_aligned {s} {xs} at = address_has address (λ n. n % 4 ≡ 0) program.addresses.aligned xs at.place s.pc at.address

  -- a state at a mark is at what stands behind it
  pub behind_mark : {s : State} {mark : ℕ} {xs : List RealItem} → At program s (Mark mark ∷ xs) → At program s xs
  behind_mark {s} {mark} {xs} at = record {
    place = suc at.place;
    stand = (drop_next code at.place (Mark mark) xs at.stand).1;
    address = at.address;
  }

  -- the address of the item behind this one, at which the run goes on
  pub record NextAt (s : State) (xs : List RealItem) (at_place : ℕ) : Type 0 where
    pub pc : ℕ
    pub is_next : address_from address (suc at_place) xs ≡ Some pc
    pub small : pc < 2 ^ 64
    pub at : (t : State) → t.pc ≡ pc → At program t xs

  pub next_at : {s : State} {x : RealItem} {xs : List RealItem} (at : At program s (x ∷ xs)) → HasItem xs →
      NextAt s xs at.place
  next_at {s} {x} {xs} at h =
      let a = some_address address xs (suc at.place) h in
      record {
        pc = a.0;
        is_next = a.1;
        small = address_has address (λ n. n < 2 ^ 64) program.addresses.small xs (suc at.place) a.0 a.1;
        at = λ t e. record {
          place = suc at.place;
          stand = (drop_next code at.place x xs at.stand).1;
          address = a.1 ∙ ap Some (sym e);
        };
      }

  -- a mark that stands before an item has an address, and a state there is at what stands behind the mark
  pub record MarkAt (mark : ℕ) (xs : List RealItem) : Type 0 where
    pub pc : ℕ
    pub is_mark_address : mark_address address code mark ≡ Some pc
    pub at : (t : State) → t.pc ≡ pc → At program t xs

  pub mark_at : (k mark : ℕ) (xs : List RealItem) → drop k code ≡ Mark mark ∷ xs → HasItem xs → MarkAt mark xs
  mark_at k mark xs d h =
      let a = some_address address xs (suc k) h in
      let next = drop_next code k (Mark mark) xs d in
      record {
        pc = a.0;
        is_mark_address = mark_is code k 0 k mark xs (omega arith) next.0 refl d ∙ a.1;
        at = λ t e. record { place = suc k; stand = next.1; address = a.1 ∙ ap Some (sym e) };
      }
