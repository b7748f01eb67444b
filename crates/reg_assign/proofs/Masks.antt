-- Bits that tell which real registers are free.
use Rattle.std.proofs.Common.{ℕ, zero, suc, ◌+◌, ◌*◌, ◌^◌, ◌%◌, ◌<◌, ◌≤◌, ◌≡◌, ◌≢◌, ◌⊎◌, inl, inr, Bool, true, false}
use Rattle.std.proofs.Common.{refl}
use Rattle.std.proofs.Common.{sym, ◌∙◌, ap, subst, arith, max, List, [], ◌∷◌, ◌++◌, length, set, w32}
use Rattle.std.proofs.Common.{get_or-set_same, get_or-set_other}
use Rattle.std.proofs.lemmas.List.{length-set}
use Rattle.std.specs.Int.{bit_at}
use Rattle.std.specs.Prelude.{◌==◌, bit_and, bit_or, slice_index}
use Rattle.std.proofs.lemmas.Nat.Bits.{bit_at_and, bit_at_or, bit_at-lt, bit_at-zero, bit_at_ones, bit_at_mask_inside}
use Rattle.std.proofs.lemmas.Nat.Bits.{bit_at_set_same, bit_at_set_other}
use Rattle.rv_select.specs.declared.code.VReg.{VReg}
use Rattle.rv_select.specs.declared.code.Place.{Place}
use Rattle.rv_select.specs.declared.code.Place.TheVariants.{InReg}
use Rattle.rv_select.specs.declared.code.VirtualItem.{VirtualItem}
use Rattle.rv_select.specs.declared.code.VirtualItem.TheVariants.{Call, CallAt}
use Rattle.rv_select.specs.Holding.{may_hold, writes, NoneAt, SparedBy, SparedByCall}
use Rattle.reg_assign.specs.Room.{Tells}
use Rattle.placed_code.proofs.Public.{equal_of}

pub held_range : (r : ℕ) → may_hold r ≡ true → (3 ≤ r) × (r < 25)
held_range r h = (grind arith, grind arith)

pub zero_or_one : (n r : ℕ) → (bit_at n r ≡ 0) ⊎ (bit_at n r ≡ 1)
zero_or_one n r = by (bit_at n r) (bit_at-lt n r)
  where
    by : (b : ℕ) → b < 2 → (b ≡ 0) ⊎ (b ≡ 1)
    by zero l = inl refl
    by (suc zero) l = inr refl
    by (suc (suc b)) l = absurd (omega (arith, l))

pub tells_same : (P Q : ℕ → Type 0) (bits : ℕ) → ((r : ℕ) → P r → Q r) → ((r : ℕ) → Q r → P r) → Tells P bits
    → Tells Q bits
tells_same P Q bits to from t r h = (λ e. to r ((t r h).0 e), λ e q. (t r h).1 e (from r q))

pub tells_both : (P Q : ℕ → Type 0) (a b : ℕ) → Tells P a → Tells Q b → Tells (λ r. P r × Q r) (bit_or a b)
tells_both P Q a b s t r h = by (zero_or_one a r) (zero_or_one b r)
  where
    or : bit_at (bit_or a b) r ≡ max (bit_at a r) (bit_at b r)
    or = bit_at_or a b r

    by : (bit_at a r ≡ 0) ⊎ (bit_at a r ≡ 1) → (bit_at b r ≡ 0) ⊎ (bit_at b r ≡ 1)
        → (bit_at (bit_or a b) r ≡ 0 → P r × Q r) × (bit_at (bit_or a b) r ≡ 1 → P r × Q r → ⊥)
    by (inl x) (inl y) = (
      λ e. ((s r h).0 x, (t r h).0 y),
      λ e. absurd (let o = or in let z : ⊥ = omega arith in z),
    )
    by (inr x) y = (λ e. absurd (let o = or in let z : ⊥ = omega arith in z), λ e k. (s r h).1 x k.0)
    by (inl x) (inr y) = (λ e. absurd (let o = or in let z : ⊥ = omega arith in z), λ e k. (t r h).1 y k.1)

-- no bit
pub tells_always : (P : ℕ → Type 0) → ((r : ℕ) → may_hold r ≡ true → P r) → Tells P 0
tells_always P each r h = (λ e. each r h, λ e. absurd (let o = bit_at-zero r in let z : ⊥ = omega (arith, o, e) in z))

-- each bit
pub tells_never : (P : ℕ → Type 0) → ((r : ℕ) → may_hold r ≡ true → P r → ⊥) → Tells P 4294967295
tells_never P never r h = (
  λ e. absurd (let k = held_range r h in
      let o : bit_at 4294967295 r ≡ 1 = bit_at_ones 32 r (let l = k.1 in omega (arith, l)) in
      let z : ⊥ = omega (arith, o, e) in z),
  λ e p. never r h p,
)

-- where each bit of the registers that may hold others is set
pub full_is : (taken r : ℕ) → bit_and taken 33554424 ≡ 33554424 → may_hold r ≡ true → bit_at taken r ≡ 1
full_is taken r e h =
    let k = held_range r h in
    let mask : bit_at 33554424 r ≡ 1 = bit_at_mask_inside 3 25 r k.0 k.1 in
    let and = bit_at_and taken 33554424 r in
    let whole = ap (λ n. bit_at n r) e in
    let less = bit_at-lt taken r in
    omega (arith, mask, and, whole, less)

-- one bit
pub bit_other : (k q : ℕ) → k < 32 → (q ≡ k → ⊥) → bit_at (1 * 2 ^ k % 4294967296) q ≡ 0
bit_other k q l d =
    let a = bit_at_set_other w32 0 k l q d in
    let b = bit_at_or 0 (1 * 2 ^ k % 4294967296) q in
    let c = bit_at-zero q in
    omega (arith, a, b, c)

pub bit_same : (k : ℕ) → k < 32 → bit_at (1 * 2 ^ k % 4294967296) k ≡ 1
bit_same k l =
    let a = bit_at_set_same w32 0 k l in
    let b = bit_at_or 0 (1 * 2 ^ k % 4294967296) k in
    let c = bit_at-zero k in
    omega (arith, a, b, c)

-- a bit says where one register is
pub tells_one : (P : ℕ → Type 0) (k bits : ℕ) → bit_at bits k ≡ 1 → ((q : ℕ) → (q ≡ k → ⊥) → bit_at bits q ≡ 0)
    → (P k → ⊥) → ((q : ℕ) → (q ≡ k → ⊥) → P q) → Tells P bits
tells_one P k bits one other never each r h = by (r == k) refl
  where
    by : (b : Bool) → (r == k) ≡ b → (bit_at bits r ≡ 0 → P r) × (bit_at bits r ≡ 1 → P r → ⊥)
    by true e =
        let s = equal_of r k e in
        let o = subst (λ x. bit_at bits x ≡ 1) (sym s) one in (
          λ z. absurd (let y : ⊥ = omega (arith, o, z) in y),
          λ z p. never (subst P s p),
        )
    by false e =
        let d : r ≡ k → ⊥ = (λ s. let y : ⊥ = grind arith in y) in
        let o = other r d in (
          λ z. each r d,
          λ z. absurd (let y : ⊥ = omega (arith, o, z) in y),
        )

-- the bits at one more place
pub tells_more : (f : ℕ → ℕ) (i taken : ℕ) → Tells (λ r. (j : ℕ) → j < i → bit_at (f j) r ≡ 0) taken
    → Tells (λ r. (j : ℕ) → j < i + 1 → bit_at (f j) r ≡ 0) (bit_or taken (f i))
tells_more f i taken t =
    tells_same (λ r. ((j : ℕ) → j < i → bit_at (f j) r ≡ 0) × (bit_at (f i) r ≡ 0))
    (λ r. (j : ℕ) → j < i + 1 → bit_at (f j) r ≡ 0) (bit_or taken (f i))
    (λ r k j l. by r k.0 k.1 j l (j == i) refl)
    (λ r k. ((λ j l. k j (omega arith)), k i (omega arith)))
    (tells_both (λ r. (j : ℕ) → j < i → bit_at (f j) r ≡ 0) (λ r. bit_at (f i) r ≡ 0) taken (f i) t
    (λ r h. ((λ e. e), (λ e z. let y : ⊥ = omega (arith, e, z) in y))))
  where
    by : (r : ℕ) → ((j : ℕ) → j < i → bit_at (f j) r ≡ 0) → bit_at (f i) r ≡ 0 → (j : ℕ) → j < i + 1 → (b : Bool)
        → (j == i) ≡ b → bit_at (f j) r ≡ 0
    by r before here j l true e = subst (λ x. bit_at (f x) r ≡ 0) (sym (equal_of j i e)) here
    by r before here j l false e = before j (grind (arith, l))

-- ---- what items change

pub call_takes : (r : ℕ) → may_hold r ≡ true → SparedByCall (InReg r) → ⊥
call_takes r ok h = let z : ⊥ = grind arith in z

pub none_both : (place : ℕ → Place) (p : Place) (xs ys : List VReg) → NoneAt place p xs × NoneAt place p ys
    → NoneAt place p (xs ++ ys)
none_both place p [] ys h = h.1
none_both place p (x ∷ xs) ys h = (h.0.0, none_both place p xs ys (h.0.1, h.1))

pub none_parts : (place : ℕ → Place) (p : Place) (xs ys : List VReg) → NoneAt place p (xs ++ ys)
    → NoneAt place p xs × NoneAt place p ys
none_parts place p [] ys h = (tt, h)
none_parts place p (x ∷ xs) ys h = let k = none_parts place p xs ys h.1 in ((h.0, k.0), k.1)

pub unless_call : (place : ℕ → Place) (p : Place) (item : VirtualItem) → ((k n : ℕ) → item ≡ Call k n → ⊥)
    → ((f : VReg) (n : ℕ) → item ≡ CallAt f n → ⊥) → SparedBy place item p ≡ NoneAt place p (writes item)
unless_call place p (Call k n) a b = absurd (a k n refl)
unless_call place p (CallAt f n) a b = absurd (b f n refl)
unless_call place p item a b = refl

-- ---- bits that are noted

pub noted_same : (xs : List ℕ) (p b r q : ℕ) → p < length xs → ((q : ℕ) → (q ≡ r → ⊥) → bit_at b q ≡ 0)
    → (q ≡ r → ⊥) → bit_at (bit_or (slice_index xs p) b) q ≡ bit_at (slice_index xs p) q
noted_same xs p b r q l other d =
    let o = bit_at_or (slice_index xs p) b q in
    let z = other q d in omega (arith, o, z)

pub noted_one : (x b r : ℕ) → bit_at b r ≡ 1 → bit_at (bit_or x b) r ≡ 1
noted_one x b r e =
    let o = bit_at_or x b r in
    let l = bit_at-lt x r in omega (arith, o, e, l)

abbrev pub AreNoted : List ℕ → List ℕ → List ℕ → ℕ → ℕ → Type 0
AreNoted old new found r n =
    (length new ≡ length old)
    × ((p q : ℕ) → (q ≡ r → ⊥) → bit_at (slice_index new p) q ≡ bit_at (slice_index old p) q)
    × ((j : ℕ) → j < n → bit_at (slice_index new (slice_index found j)) r ≡ 1)
    × ((p : ℕ) → ((j : ℕ) → j < n → slice_index found j ≡ p → ⊥) → slice_index new p ≡ slice_index old p)

module _ (old new found : List ℕ) (r n b x : ℕ) (one : bit_at b r ≡ 1)
    (other : (q : ℕ) → (q ≡ r → ⊥) → bit_at b q ≡ 0) (is : AreNoted old new found r n)
    (l : slice_index found n < length new) (read : slice_index new (slice_index found n) ≡ x) where
  abbrev after : List ℕ
  after = set new (slice_index found n) (bit_or x b)

  at_it : slice_index after (slice_index found n) ≡ bit_or x b
  at_it = rw get_or-set_same

  elsewhere : (p : ℕ) → (p ≡ slice_index found n → ⊥) → slice_index after p ≡ slice_index new p
  elsewhere p d = let e : p ≢ slice_index found n = d in rw get_or-set_other

  others : (p q : ℕ) → (q ≡ r → ⊥) → (c : Bool) → (p == slice_index found n) ≡ c
      → bit_at (slice_index after p) q ≡ bit_at (slice_index old p) q
  others p q d true s =
      let e = equal_of p (slice_index found n) s in
      let o = bit_at_or x b q in
      let z = other q d in
      let same : bit_at (bit_or x b) q ≡ bit_at x q = omega (arith, o, z) in
      ap (λ y. bit_at (slice_index after y) q) e
      ∙ (ap (λ y. bit_at y q) at_it ∙ (same ∙ (ap (λ y. bit_at y q) (sym read)
      ∙ (is.1 (slice_index found n) q d ∙ ap (λ y. bit_at (slice_index old y) q) (sym e)))))
  others p q d false s =
      ap (λ y. bit_at y q) (elsewhere p (λ e. let z : ⊥ = grind arith in z)) ∙ is.1 p q d

  ones : (j : ℕ) → j < n + 1 → (c e : Bool) → (j == n) ≡ c → (slice_index found j == slice_index found n) ≡ e
      → bit_at (slice_index after (slice_index found j)) r ≡ 1
  ones j k c true f s =
      ap (λ y. bit_at (slice_index after y) r) (equal_of (slice_index found j) (slice_index found n) s)
      ∙ (ap (λ y. bit_at y r) at_it ∙ noted_one x b r one)
  ones j k true false f s =
      absurd (let e = ap (slice_index found) (equal_of j n f) in let z : ⊥ = grind arith in z)
  ones j k false false f s =
      ap (λ y. bit_at y r) (elsewhere (slice_index found j) (λ e. let z : ⊥ = grind arith in z))
      ∙ is.2 j (grind (arith, k))

  pub noted_more : AreNoted old after found r (n + 1)
  noted_more = (
    length-set new (slice_index found n) (bit_or x b) ∙ is.0,
    λ p q d. others p q d (p == slice_index found n) refl,
    λ j k. ones j k (j == n) (slice_index found j == slice_index found n) refl refl,
    λ p away.
        elsewhere p (λ e. away n (omega arith) (sym e))
        ∙ is.3 p (λ j k e. away j (omega (arith, k)) e),
  )
