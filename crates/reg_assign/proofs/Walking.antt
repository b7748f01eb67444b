-- A walk back from where a register is read: what one more place keeps, and that in the end all places are found.
use Rattle.std.proofs.Common.{ℕ, suc, ◌+◌, ◌<◌, ◌≤◌, ◌≡◌, ◌≢◌, inr, Bool, true, false, List, []}
use Rattle.std.proofs.Common.{◌∷◌}
use Rattle.std.proofs.Common.{◌++◌, refl, sym, ◌∙◌, ap, subst, Some, length, get_or, set, cond, arith, length-append}
use Rattle.std.proofs.Common.{append_assoc}
use Rattle.std.proofs.Common.{get_or-set_other}
use Rattle.std.specs.Prelude.{◌==◌, not, count_by, slice_get, slice_index, All, Contains}
use Rattle.std.proofs.lemmas.Grind.{common_steps}
use Rattle.std.proofs.lemmas.List.{length-set}
use Rattle.std.proofs.lemmas.List.Sums.{sum_by-set}
use Rattle.std.proofs.lemmas.List.Elements.{All-push, All-set, Contains-append_left, Contains-push}
use Rattle.std.proofs.lemmas.Option.{slice_get_read, get_or_from_slice_get}
use Rattle.rv_select.specs.declared.code.VReg.{VReg}
use Rattle.rv_select.specs.declared.code.VirtualItem.{VirtualItem}
use Rattle.rv_select.specs.declared.code.VirtualItem.TheVariants.{Mark}
use Rattle.rv_select.specs.Holding.{Among, reads, writes, target}
use Rattle.reg_assign.specs.declared.walks.Walk.{Walk}
use Rattle.placed_code.specs.Check.{Needed, Read, Later}
use Rattle.reg_assign.specs.Numbers.{register_at}
use Rattle.reg_assign.specs.Flow.{Behind, IsListed, IsTarget, IsRead, mark_of}
use Rattle.reg_assign.specs.Walks.{IsWalk, Grows, Reaches, HasRoots, IsClosed, Leads}
use Rattle.placed_code.proofs.Public.{equal_of}

append_none : (xs : List ℕ) → xs ≡ xs ++ []
append_none [] = refl
append_none (x ∷ xs) = ap (λ ys. x ∷ ys) (append_none xs)

pub grows_same : (w : Walk) → Grows w w
grows_same w = record {
  number = refl;
  done = refl;
  more = [];
  found = append_none w.found.items;
  less = omega arith;
}

pub grows_then : (a b c : Walk) → Grows a b → Grows b c → Grows a c
grows_then a b c g h = record {
  number = h.number ∙ g.number;
  done = h.done ∙ g.done;
  more = g.more ++ h.more;
  found = h.found ∙ (ap (λ xs. xs ++ h.more) g.found ∙ append_assoc a.found.items g.more h.more);
  less = (let x = g.less in let y = h.less in omega (arith, x, y));
}

pub found_on : (a b : Walk) → Grows a b → (p : ℕ) → Contains a.found.items p → Contains b.found.items p
found_on a b g p h =
    subst (λ xs. Contains xs p) (sym g.found) (Contains-append_left a.found.items g.more p h)

module _ (items : List VirtualItem) where
  same_item : (p : ℕ) (x y : VirtualItem) → slice_get items p ≡ Some x → slice_get items p ≡ Some y → x ≡ y
  same_item p x y e f = let z : Some x ≡ Some y = sym e ∙ f in cc

  -- a place whose item writes the register is found by nothing
  pub there_written : (a : VReg) (p : ℕ) (item other : VirtualItem) (found : List ℕ) → slice_get items p ≡ Some item
      → Among a (writes item) → slice_get items p ≡ Some other → (Among a (writes other) → ⊥) → Contains found p
  there_written a p item other found e m f away =
      absurd (away (subst (λ x. Among a (writes x)) (same_item p item other e f) m))

  -- one more place
  pub walk_more : (w v : Walk) (p : ℕ) → IsWalk items w → p < length items → Behind items (register_at w.number) p
      → v.number ≡ w.number → v.done ≡ w.done → v.seen.items ≡ set w.seen.items p (suc w.number)
      → v.found.items ≡ w.found.items ++ (p ∷ []) → IsWalk items v
  walk_more w v p is below behind number done seen found = record {
    size = ap length seen ∙ (length-set w.seen.items p (suc w.number) ∙ is.size);
    older =
        subst (λ k. All (λ s. s ≤ suc k) v.seen.items) (sym number)
        (subst (All (λ s. s ≤ suc w.number)) (sym seen)
        (All-set (λ s. s ≤ suc w.number) w.seen.items p (suc w.number) (omega arith) is.older));
    noted = λ q l e. noted q l e (q == p) refl;
    sound =
        subst (λ k. All (λ q. Behind items (register_at k) q) v.found.items) (sym number)
        (subst (All (λ q. Behind items (register_at w.number) q)) (sym found)
        (All-push (λ q. Behind items (register_at w.number) q) w.found.items p is.sound behind));
    within =
        (let a = is.within in
        let b = ap length found ∙ length-append w.found.items (p ∷ []) in omega (arith, a, b));
    fits = subst (λ k. suc k < 18446744073709551616) (sym number) is.fits;
  }
    where
      noted : (q : ℕ) → q < length items → slice_index v.seen.items q ≡ suc v.number → (b : Bool) → (q == p) ≡ b
          → Contains v.found.items q
      noted q l e true s =
          subst (λ xs. Contains xs q) (sym found)
          (subst (λ x. Contains (w.found.items ++ (p ∷ [])) x) (sym (equal_of q p s)) (Contains-push w.found.items p))
      noted q l e false s =
          let apart : q ≢ p = grind arith in
          let kept : get_or (set w.seen.items p (suc w.number)) q 0 ≡ get_or w.seen.items q 0 = rw get_or-set_other in
          let f : slice_index w.seen.items q ≡ suc w.number =
          sym kept ∙ (ap (λ xs. get_or xs q 0) (sym seen) ∙ (e ∙ ap suc number)) in
          subst (λ xs. Contains xs q) (sym found) (Contains-append_left w.found.items (p ∷ []) q (is.noted q l f))

  pub reaches_on : (a : VReg) (w v : Walk) (q : ℕ) → Grows w v → Reaches items a w.found.items q
      → Reaches items a v.found.items q
  reaches_on a w v q g r p item e f away = found_on w v g p (r p item e f away)

  -- what was found keeps its place
  pub index_on : (w v : Walk) (j : ℕ) → Grows w v → j < length w.found.items
      → slice_index v.found.items j ≡ slice_index w.found.items j
  index_on w v j g l = ap (λ xs. get_or xs j 0) g.found ∙ grind (arith, common_steps)

  -- in the end each place behind whose item the register is needed is found
  module _ (w : Walk) (is : IsClosed items w) (all : w.done ≡ length w.found.items) where
    pub reach_found : (p : ℕ) → Contains w.found.items p → Reaches items (register_at w.number) w.found.items p
    reach_found p h =
        let l : h.0 < w.done = (let k : h.0 < length w.found.items = h.1 in omega (arith, k, all)) in
        let e : slice_index w.found.items h.0 ≡ p =
        get_or_from_slice_get w.found.items h.0 p 0
        (slice_get_read w.found.items (length w.found.items) h.0 p refl h.1 (sym h.2)) in
        subst (λ x. Reaches items (register_at w.number) w.found.items x) e (is.closed h.0 l)

    reach_needed : (p : ℕ) → Needed items p (register_at w.number) → Reaches items (register_at w.number)
        w.found.items p
    reach_needed p n = go p (register_at w.number) n refl
      where
        go : (p : ℕ) (a : VReg) → Needed items p a → a ≡ register_at w.number
            → Reaches items (register_at w.number) w.found.items p
        go p a (Read q item b e m) s = is.roots q item e (subst (λ x. Among x (reads item)) s m)
        go p a (Later r q item b e f away later) s =
            reach_found r (go q b later s r item e f (λ m. away (subst (λ x. Among x (writes item)) (sym s) m)))

    pub all_found : (p : ℕ) → Behind items (register_at w.number) p → Contains w.found.items p
    all_found p b = reach_needed b.leads.next b.leads.needed p b.item b.there b.leads.follows b.away

-- where an element of a list stands
pub at_index : (xs : List ℕ) (p : ℕ) (h : Contains xs p) → slice_index xs h.0 ≡ p
at_index xs p h = get_or_from_slice_get xs h.0 p 0 (slice_get_read xs (length xs) h.0 p refl h.1 (sym h.2))

module _ (items : List VirtualItem) where
  pub behind_needed : (a : VReg) (p : ℕ) → Behind items a p → Needed items p a
  behind_needed a p b = Later p b.leads.next b.item a b.there b.leads.follows b.away b.leads.needed

  -- ---- the items that go to a mark

  pub leads_source : (a : VReg) (place m p : ℕ) (lists : ℕ → List ℕ) → IsListed IsTarget items lists
      → Needed items place a → slice_get items place ≡ Some (Mark m) → Contains (lists m) p → Leads items a p
  leads_source a place m p lists listed needed mark h item e =
      let k = listed.only m p h in
      record {
        next = place;
        follows = inr (m, subst (λ x. target x ≡ Some m) (same_item items p k.0 item k.1 e) k.2, mark);
        needed = needed;
      }

  -- the first places of a list are found, but for those whose items write the register
  abbrev pub AreFound : VReg → List ℕ → ℕ → Walk → Type 0
  AreFound a ps n w =
      (j : ℕ) → j < n → (item : VirtualItem) → slice_get items (slice_index ps j) ≡ Some item
      → (Among a (writes item) → ⊥) → Contains w.found.items (slice_index ps j)

  pub more_found : (a : VReg) (ps : List ℕ) (i : ℕ) (w v : Walk) → Grows w v → AreFound a ps i w
      → ((item : VirtualItem) → slice_get items (slice_index ps i) ≡ Some item → (Among a (writes item) → ⊥)
      → Contains v.found.items (slice_index ps i)) → AreFound a ps (i + 1) v
  more_found a ps i w v g before here j l item e away = pick (j == i) refl
    where
      pick : (b : Bool) → (j == i) ≡ b → Contains v.found.items (slice_index ps j)
      pick true s =
          let same = equal_of j i s in
          subst (λ x. Contains v.found.items (slice_index ps x)) (sym same)
          (here item (subst (λ x. slice_get items (slice_index ps x) ≡ Some item) same e) away)
      pick false s = found_on w v g (slice_index ps j) (before j (grind (arith, l)) item e away)

  pub source_found : (a : VReg) (m p n : ℕ) (w : Walk) (lists : ℕ → List ℕ) (item : VirtualItem)
      → IsListed IsTarget items lists → length (lists m) ≤ n → AreFound a (lists m) n w → slice_get items p ≡ Some item
      → target item ≡ Some m → (Among a (writes item) → ⊥) → Contains w.found.items p
  source_found a m p n w lists item listed all found e t away =
      let h = listed.all m p item e t in
      let at = at_index (lists m) p h in
      let l : h.0 < length (lists m) = h.1 in
      subst (λ x. Contains w.found.items x) at
      (found h.0 (omega (arith, l, all)) item (subst (λ x. slice_get items x ≡ Some item) (sym at) e) away)

  -- ---- the places where the register is read

  abbrev pub AreReached : VReg → List ℕ → ℕ → Walk → Type 0
  AreReached a ps n w = (j : ℕ) → j < n → Reaches items a w.found.items (slice_index ps j)

  pub more_reached : (a : VReg) (ps : List ℕ) (i : ℕ) (w v : Walk) → Grows w v → AreReached a ps i w
      → Reaches items a v.found.items (slice_index ps i) → AreReached a ps (i + 1) v
  more_reached a ps i w v g before here j l = pick (j == i) refl
    where
      pick : (b : Bool) → (j == i) ≡ b → Reaches items a v.found.items (slice_index ps j)
      pick true s = subst (λ x. Reaches items a v.found.items (slice_index ps x)) (sym (equal_of j i s)) here
      pick false s = reaches_on items a w v (slice_index ps j) g (before j (grind (arith, l)))

  pub has_roots : (w : Walk) (n : ℕ) (lists : ℕ → List ℕ) → IsListed IsRead items lists
      → length (lists w.number) ≤ n → AreReached (register_at w.number) (lists w.number) n w → HasRoots items w
  has_roots w n lists listed all reached q item e m =
      let h = listed.all w.number q item e m in
      let l : h.0 < length (lists w.number) = h.1 in
      subst (λ x. Reaches items (register_at w.number) w.found.items x) (at_index (lists w.number) q h)
      (reached h.0 (omega (arith, l, all)))

  -- ---- one step

  pub goes_on : (w v : Walk) → IsWalk items w → w.done < length w.found.items → v.number ≡ w.number
      → v.done ≡ suc w.done → v.seen ≡ w.seen → v.found ≡ w.found → IsWalk items v
  goes_on w v is l number done seen found = record {
    size = ap (λ x. length x.items) seen ∙ is.size;
    older =
        subst (λ k. All (λ s. s ≤ suc k) v.seen.items) (sym number)
        (subst (λ x. All (λ s. s ≤ suc w.number) x.items) (sym seen) is.older);
    noted = λ q m e.
        subst (λ x. Contains x.items q) (sym found)
        (is.noted q m (ap (λ x. slice_index x.items q) (sym seen) ∙ (e ∙ ap suc number)));
    sound =
        subst (λ k. All (λ q. Behind items (register_at k) q) v.found.items) (sym number)
        (subst (λ x. All (λ q. Behind items (register_at w.number) q) x.items) (sym found) is.sound);
    within = (let a = ap (λ x. length x.items) found in omega (arith, a, done, l));
    fits = subst (λ k. suc k < 18446744073709551616) (sym number) is.fits;
  }

  pub closed_on : (w v : Walk) → IsClosed items w → v.number ≡ w.number → v.done ≡ suc w.done → (more : List ℕ)
      → v.found.items ≡ w.found.items ++ more → w.done < length w.found.items
      → Reaches items (register_at w.number) v.found.items (slice_index w.found.items w.done) → IsClosed items v
  closed_on w v c number done more found l here = record {
    roots = λ q item e m.
        subst (λ k. Reaches items (register_at k) v.found.items q) (sym number)
        (on q (c.roots q item e (subst (λ k. Among (register_at k) (reads item)) number m)));
    closed = λ j k.
        subst (λ n. Reaches items (register_at n) v.found.items (slice_index v.found.items j)) (sym number)
        (at j (j == w.done) refl k);
  }
    where
      on : (q : ℕ) → Reaches items (register_at w.number) w.found.items q
          → Reaches items (register_at w.number) v.found.items q
      on q r p item e f away =
          subst (λ xs. Contains xs p) (sym found) (Contains-append_left w.found.items more p (r p item e f away))

      same : (j : ℕ) → j < length w.found.items → slice_index v.found.items j ≡ slice_index w.found.items j
      same j k = ap (λ xs. get_or xs j 0) found ∙ grind (arith, common_steps)

      at : (j : ℕ) (b : Bool) → (j == w.done) ≡ b → j < v.done
          → Reaches items (register_at w.number) v.found.items (slice_index v.found.items j)
      at j true s k =
          let e = equal_of j w.done s in
          subst (λ x. Reaches items (register_at w.number) v.found.items x)
          (ap (λ x. slice_index w.found.items x) (sym e) ∙ sym (same j (let z : j < length w.found.items = omega arith
          in z)))
          here
      at j false s k =
          let less : j < w.done = grind arith in
          subst (λ x. Reaches items (register_at w.number) v.found.items x)
          (sym (same j (omega arith))) (on (slice_index w.found.items j) (c.closed j less))

-- what has the number of a mark is one
pub mark_is : (item : VirtualItem) (m : ℕ) → mark_of item ≡ Some m → item ≡ Mark m
mark_is (Mark k) m e = let s : k ≡ m = cc in ap Mark s
mark_is item m e = absurd (let z : ⊥ = cc in z)

-- an element that was read
pub read_at : (xs : List ℕ) (i x : ℕ) → i < length xs → x ≡ get_or xs i x → slice_index xs i ≡ x
read_at xs i x l e = get_or_from_slice_get xs i x 0 (slice_get_read xs (length xs) i x refl l e)

noted_less : (stamp : ℕ) (xs : List ℕ) (i : ℕ) → i < length xs → (slice_index xs i ≡ stamp → ⊥)
    → suc (count_by (λ s. not (s == stamp)) (set xs i stamp)) ≡ count_by (λ s. not (s == stamp)) xs
noted_less stamp xs i l d =
    let f : ℕ → ℕ = λ s. cond (not (s == stamp)) 1 0 in
    let same : (stamp == stamp) ≡ true = grind arith in
    let other : (get_or xs i 0 == stamp) ≡ false = pick (get_or xs i 0 == stamp) refl in
    let none : f stamp ≡ 0 = ap (λ b. cond (not b) 1 0) same in
    let one : f (get_or xs i 0) ≡ 1 = ap (λ b. cond (not b) 1 0) other in
    let sums = sum_by-set f xs i stamp 0 l in
    omega (arith, none, one, sums)
  where
    pick : (b : Bool) → (get_or xs i 0 == stamp) ≡ b → (get_or xs i 0 == stamp) ≡ false
    pick true e = absurd (d (equal_of (get_or xs i 0) stamp e))
    pick false e = e

-- one more place is found
pub grows_one : (w v : Walk) (p : ℕ) → p < length w.seen.items → (slice_index w.seen.items p ≡ suc w.number → ⊥)
    → v.number ≡ w.number → v.done ≡ w.done → v.seen.items ≡ set w.seen.items p (suc w.number)
    → v.found.items ≡ w.found.items ++ (p ∷ []) → w.done ≤ length w.found.items → Grows w v
grows_one w v p l new number done seen found within = record {
  number = number;
  done = done;
  more = p ∷ [];
  found = found;
  less =
      (let a = noted_less (suc w.number) w.seen.items p l new in
      let b = ap (λ n. count_by (λ s. not (s == suc n)) v.seen.items) number
      ∙ ap (count_by (λ s. not (s == suc w.number))) seen in
      let c = ap length found ∙ length-append w.found.items (p ∷ []) in
      omega (arith, a, b, c, done, within));
}
