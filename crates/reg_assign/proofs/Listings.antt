-- Lists of places by numbers: one more place under some numbers, and the items up to a place.
use Rattle.std.proofs.Common.{ℕ, zero, suc, ◌+◌, ◌-◌, ◌<◌, ◌≤◌, ◌≡◌, ◌⊎◌, inl, inr, Bool, true, false, List, [], ◌∷◌}
use Rattle.std.proofs.Common.{◌++◌}
use Rattle.std.proofs.Common.{refl, sym, ◌∙◌, ap, subst, Some, arith}
use Rattle.std.specs.Prelude.{◌==◌, nat_lt, min, if◌then◌else◌, slice_get, Contains}
use Rattle.std.proofs.lemmas.List.Elements.{Contains-append_left, Contains-push, Contains-push_cases}
use Rattle.rv_select.specs.declared.code.VReg.{VReg}
use Rattle.rv_select.specs.declared.code.VReg.TheVariants.{Real, Virtual}
use Rattle.rv_select.specs.declared.code.VirtualItem.{VirtualItem}
use Rattle.rv_select.specs.Holding.{Among, handed_on}
use Rattle.reg_assign.specs.Numbers.{number_of, register_at}
use Rattle.reg_assign.specs.Flow.{Adds, IsListed, IsTold, ReadsTold, WritesTold, EachTold}
use Rattle.placed_code.proofs.Public.{equal_of}

-- ---- registers by numbers

pub number_back : (k : ℕ) → number_of (register_at k) ≡ k
number_back k = pick (nat_lt k 33) refl
  where
    pick : (b : Bool) → nat_lt k 33 ≡ b → number_of (if b then Real k else Virtual (k - 33)) ≡ k
    pick true e = refl
    pick false e = grind arith

pub same_number : (j k : ℕ) → register_at j ≡ register_at k → j ≡ k
same_number j k e = sym (number_back j) ∙ (ap number_of e ∙ number_back k)

pub among_append : (a : VReg) (xs ys : List VReg) → Among a (xs ++ ys) → Among a xs ⊎ Among a ys
among_append a [] ys h = inr h
among_append a (x ∷ xs) ys (inl e) = inl (inl e)
among_append a (x ∷ xs) ys (inr h) = by (among_append a xs ys h)
  where
    by : Among a xs ⊎ Among a ys → Among a (x ∷ xs) ⊎ Among a ys
    by (inl k) = inl (inr k)
    by (inr k) = inr k

pub among_left : (a : VReg) (xs ys : List VReg) → Among a xs → Among a (xs ++ ys)
among_left a [] ys h = absurd h
among_left a (x ∷ xs) ys (inl e) = inl e
among_left a (x ∷ xs) ys (inr h) = inr (among_left a xs ys h)

pub among_right : (a : VReg) (xs ys : List VReg) → Among a ys → Among a (xs ++ ys)
among_right a [] ys h = h
among_right a (x ∷ xs) ys h = inr (among_right a xs ys h)

-- the numbers of the registers that hand on words
abbrev pub IsHanded : ℕ → ℕ → ℕ → Type 0
IsHanded from n k = (10 + from ≤ k) × (k < 10 + from + n) × (k < 33)

real_number : (x k : ℕ) → Real x ≡ register_at k → (x ≡ k) × (k < 33)
real_number x k e = pick (nat_lt k 33) refl e
  where
    pick : (b : Bool) → nat_lt k 33 ≡ b → Real x ≡ (if b then Real k else Virtual (k - 33)) → (x ≡ k) × (k < 33)
    pick true f e = ((cc), grind arith)
    pick false f e = absurd (let z : ⊥ = cc in z)

pub at_real : (k : ℕ) → k < 33 → Real k ≡ register_at k
at_real k l = let e : nat_lt k 33 ≡ true = grind arith in ap (λ b. if b then Real k else Virtual (k - 33)) (sym e)

pub handed_number : (from n k : ℕ) → Among (register_at k) (handed_on from n) → IsHanded from n k
handed_number from zero k h = absurd h
handed_number from (suc n) k (inl e) = let r = real_number (10 + from) k e in (omega arith, omega arith, r.1)
handed_number from (suc n) k (inr h) = let r = handed_number (suc from) n k h in (omega arith, omega arith, r.2)

pub number_handed : (from n k : ℕ) → IsHanded from n k → Among (register_at k) (handed_on from n)
number_handed from zero k h = absurd (let z : ⊥ = omega arith in z)
number_handed from (suc n) k h = pick (10 + from == k) refl (λ l. number_handed (suc from) n k l)
  where
    pick : (b : Bool) → (10 + from == k) ≡ b
        → (IsHanded (suc from) n k → Among (register_at k) (handed_on (suc from) n))
        → Among (register_at k) (handed_on from (suc n))
    pick true e later = inl (ap Real (equal_of (10 + from) k e) ∙ at_real k h.2)
    pick false e later =
        inr (later (let l : 10 + suc from ≤ k = grind arith in (l, omega arith, h.2)))

-- ---- registers that code may name

handed_real : (from n : ℕ) (x : VReg) → Among x (handed_on from n)
    → (q : ℕ) × (x ≡ Real q) × (10 + from ≤ q) × (q < 10 + from + n)
handed_real from zero x h = absurd h
handed_real from (suc n) x (inl e) = (10 + from, sym e, omega arith, omega arith)
handed_real from (suc n) x (inr h) =
    let r = handed_real (suc from) n x h in
    (r.0, r.1, (let a = r.2 in omega (arith, a)), (let b = r.3 in omega (arith, b)))

handed_told : (n : ℕ) (x : VReg) → Among x (handed_on 0 n) → IsTold x ⊎ Among (Real 32) (handed_on 0 n)
handed_told n x h = let r = handed_real 0 n x h in pick r.0 r.1 r.3 (nat_lt r.0 32) refl
  where
    pick : (q : ℕ) → x ≡ Real q → q < 10 + 0 + n → (b : Bool) → nat_lt q 32 ≡ b
        → IsTold x ⊎ Among (Real 32) (handed_on 0 n)
    pick q s k true e = inl (subst IsTold (sym s) (let l : q < 32 = grind arith in l))
    pick q s k false e =
        let l : 32 ≤ q = grind arith in
        inr (number_handed 0 n 32 (omega arith, omega (arith, l, k), omega arith))

pub either_told : (x : VReg) (xs ys : List VReg) → ((x : VReg) → Among x xs → IsTold x)
    → ((x : VReg) → Among x ys → IsTold x) → Among x (xs ++ ys) → IsTold x
either_told x xs ys f g h = by (among_append x xs ys h)
  where
    by : Among x xs ⊎ Among x ys → IsTold x
    by (inl k) = f x k
    by (inr k) = g x k

pub read_told : (xs ys : List VReg) (n : ℕ) → ((x : VReg) → Among x xs → IsTold x)
    → ((x : VReg) → Among x ys → IsTold x) → (x : VReg) → Among x (xs ++ (ys ++ handed_on 0 n))
    → IsTold x ⊎ Among (Real 32) (xs ++ (ys ++ handed_on 0 n))
read_told xs ys n f g x h = by (among_append x xs (ys ++ handed_on 0 n) h)
  where
    last : IsTold x ⊎ Among (Real 32) (handed_on 0 n) → IsTold x ⊎ Among (Real 32) (xs ++ (ys ++ handed_on 0 n))
    last (inl k) = inl k
    last (inr k) =
        inr (among_right (Real 32) xs (ys ++ handed_on 0 n) (among_right (Real 32) ys (handed_on 0 n) k))

    next : Among x ys ⊎ Among x (handed_on 0 n) → IsTold x ⊎ Among (Real 32) (xs ++ (ys ++ handed_on 0 n))
    next (inl k) = inl (g x k)
    next (inr k) = last (handed_told n x k)

    by : Among x xs ⊎ Among x (ys ++ handed_on 0 n) → IsTold x ⊎ Among (Real 32) (xs ++ (ys ++ handed_on 0 n))
    by (inl k) = inl (f x k)
    by (inr k) = next (among_append x ys (handed_on 0 n) k)

-- ---- one more place

pub adds_one : (P : ℕ → Type 0) (n p : ℕ) (old new : ℕ → List ℕ)
    → ((k : ℕ) → new k ≡ (if k == n then old k ++ (p ∷ []) else old k)) → ((k : ℕ) → P k → k ≡ n) → P n
    → Adds P p old new
adds_one P n p old new each is here = record {
  only = λ k q h. only k q (k == n) refl (subst (λ xs. Contains xs q) (each k) h);
  still = λ k q h. subst (λ xs. Contains xs q) (sym (each k)) (still k q (k == n) h);
  added = λ k h.
      let e = is k h in
      subst (λ xs. Contains xs p) (sym (each k)) (added k (k == n) (same k n e));
}
  where
    same : (k n : ℕ) → k ≡ n → (k == n) ≡ true
    same k n e = grind arith

    only : (k q : ℕ) (b : Bool) → (k == n) ≡ b → Contains (if b then old k ++ (p ∷ []) else old k) q
        → Contains (old k) q ⊎ ((q ≡ p) × P k)
    only k q true e h = by (Contains-push_cases (old k) p q h)
      where
        by : Contains (old k) q ⊎ (p ≡ q) → Contains (old k) q ⊎ ((q ≡ p) × P k)
        by (inl g) = inl g
        by (inr g) = inr (sym g, subst P (sym (equal_of k n e)) here)
    only k q false e h = inl h

    still : (k q : ℕ) (b : Bool) → Contains (old k) q → Contains (if b then old k ++ (p ∷ []) else old k) q
    still k q true h = Contains-append_left (old k) (p ∷ []) q h
    still k q false h = h

    added : (k : ℕ) (b : Bool) → b ≡ true → Contains (if b then old k ++ (p ∷ []) else old k) p
    added k true e = Contains-push (old k) p
    added k false e = absurd (let z : ⊥ = cc in z)

pub adds_none : (P : ℕ → Type 0) (p : ℕ) (lists : ℕ → List ℕ) → ((k : ℕ) → P k → ⊥) → Adds P p lists lists
adds_none P p lists never = record {
  only = λ k q h. inl h;
  still = λ k q h. h;
  added = λ k h. absurd (never k h);
}

pub adds_same : (P Q : ℕ → Type 0) (p : ℕ) (old new : ℕ → List ℕ) → ((k : ℕ) → P k → Q k) → ((k : ℕ) → Q k → P k)
    → Adds P p old new → Adds Q p old new
adds_same P Q p old new to from a = record {
  only = λ k q h. by k q (a.only k q h);
  still = a.still;
  added = λ k h. a.added k (from k h);
}
  where
    by : (k q : ℕ) → Contains (old k) q ⊎ ((q ≡ p) × P k) → Contains (old k) q ⊎ ((q ≡ p) × Q k)
    by k q (inl h) = inl h
    by k q (inr h) = inr (h.0, to k h.1)

pub adds_then : (P Q : ℕ → Type 0) (p : ℕ) (old mid new : ℕ → List ℕ) → Adds P p old mid → Adds Q p mid new
    → Adds (λ k. P k ⊎ Q k) p old new
adds_then P Q p old mid new a b = record {
  only = λ k q h. second k q (b.only k q h);
  still = λ k q h. b.still k q (a.still k q h);
  added = λ k h. added k h;
}
  where
    first : (k q : ℕ) → Contains (old k) q ⊎ ((q ≡ p) × P k) → Contains (old k) q ⊎ ((q ≡ p) × (P k ⊎ Q k))
    first k q (inl h) = inl h
    first k q (inr h) = inr (h.0, inl h.1)

    second : (k q : ℕ) → Contains (mid k) q ⊎ ((q ≡ p) × Q k) → Contains (old k) q ⊎ ((q ≡ p) × (P k ⊎ Q k))
    second k q (inl h) = first k q (a.only k q h)
    second k q (inr h) = inr (h.0, inr h.1)

    added : (k : ℕ) → P k ⊎ Q k → Contains (new k) p
    added k (inl h) = b.still k p (a.added k h)
    added k (inr h) = b.added k h

-- under the numbers of registers: those of two lists
pub adds_lists : (xs ys : List VReg) (p : ℕ) (old mid new : ℕ → List ℕ)
    → Adds (λ k. Among (register_at k) xs) p old mid → Adds (λ k. Among (register_at k) ys) p mid new
    → Adds (λ k. Among (register_at k) (xs ++ ys)) p old new
adds_lists xs ys p old mid new a b =
    adds_same (λ k. Among (register_at k) xs ⊎ Among (register_at k) ys) (λ k. Among (register_at k) (xs ++ ys)) p old
    new
    both (λ k h. among_append (register_at k) xs ys h)
    (adds_then (λ k. Among (register_at k) xs) (λ k. Among (register_at k) ys) p old mid new a b)
  where
    both : (k : ℕ) → Among (register_at k) xs ⊎ Among (register_at k) ys → Among (register_at k) (xs ++ ys)
    both k (inl h) = among_left (register_at k) xs ys h
    both k (inr h) = among_right (register_at k) xs ys h

-- a register is put under its number
pub adds_register : (a : VReg) (n p : ℕ) (old new : ℕ → List ℕ) → register_at n ≡ a
    → ((k : ℕ) → new k ≡ (if k == n then old k ++ (p ∷ []) else old k))
    → Adds (λ k. Among (register_at k) (a ∷ [])) p old new
adds_register a n p old new e each =
    adds_one (λ k. Among (register_at k) (a ∷ [])) n p old new each is (inl (sym e))
  where
    is : (k : ℕ) → Among (register_at k) (a ∷ []) → k ≡ n
    is k (inl h) = same_number k n (sym h ∙ sym e)
    is k (inr h) = absurd h

-- the registers that hand on words, of which no more than 23 are told apart
pub adds_handed : (words i p : ℕ) (old new : ℕ → List ℕ) → i ≡ min words 23
    → Adds (λ k. (10 ≤ k) × (k < 10 + i)) p old new → Adds (λ k. Among (register_at k) (handed_on 0 words)) p old new
adds_handed words i p old new e a =
    adds_same (λ k. (10 ≤ k) × (k < 10 + i)) (λ k. Among (register_at k) (handed_on 0 words)) p old new
    (λ k h. number_handed 0 words k (omega arith, omega arith, omega arith))
    (λ k h. let r = handed_number 0 words k h in (omega arith, omega arith)) a

pub adds_word : (i p : ℕ) (old mid new : ℕ → List ℕ) → Adds (λ k. (10 ≤ k) × (k < 10 + i)) p old mid
    → ((k : ℕ) → new k ≡ (if k == 10 + i then mid k ++ (p ∷ []) else mid k))
    → Adds (λ k. (10 ≤ k) × (k < 10 + (i + 1))) p old new
adds_word i p old mid new a each =
    adds_same (λ k. ((10 ≤ k) × (k < 10 + i)) ⊎ (k ≡ 10 + i)) (λ k. (10 ≤ k) × (k < 10 + (i + 1))) p old new to from
    (adds_then (λ k. (10 ≤ k) × (k < 10 + i)) (λ k. k ≡ 10 + i) p old mid new a
    (adds_one (λ k. k ≡ 10 + i) (10 + i) p mid new each (λ k h. h) refl))
  where
    to : (k : ℕ) → ((10 ≤ k) × (k < 10 + i)) ⊎ (k ≡ 10 + i) → (10 ≤ k) × (k < 10 + (i + 1))
    to k (inl h) = (h.0, omega arith)
    to k (inr h) = (omega arith, omega arith)

    from : (k : ℕ) → (10 ≤ k) × (k < 10 + (i + 1)) → ((10 ≤ k) × (k < 10 + i)) ⊎ (k ≡ 10 + i)
    from k h = pick (k == 10 + i) refl
      where
        pick : (b : Bool) → (k == 10 + i) ≡ b → ((10 ≤ k) × (k < 10 + i)) ⊎ (k ≡ 10 + i)
        pick true e = inr (equal_of k (10 + i) e)
        pick false e = inl (h.0, grind arith)

-- ---- the items up to a place

pub record Upto (P : VirtualItem → ℕ → Type 0) (items : List VirtualItem) (n : ℕ) (lists : ℕ → List ℕ) : Type 0 where
  pub only : (k p : ℕ) → Contains (lists k) p → (item : VirtualItem) × (slice_get items p ≡ Some item) × P item k
  pub all : (k p : ℕ) (item : VirtualItem) → p < n → slice_get items p ≡ Some item → P item k → Contains (lists k) p

empty_has_none : (xs : List ℕ) (p : ℕ) → xs ≡ [] → Contains xs p → ⊥
empty_has_none xs p e h = let k = subst (λ ys. Contains ys p) e h in let l : k.0 < 0 = k.1 in omega (arith, l)

pub upto_none : (P : VirtualItem → ℕ → Type 0) (items : List VirtualItem) (lists : ℕ → List ℕ)
    → ((k : ℕ) → lists k ≡ []) → Upto P items 0 lists
upto_none P items lists none = record {
  only = λ k p h. absurd (empty_has_none (lists k) p (none k) h);
  all = λ k p item l e h. absurd (omega (arith, l));
}

pub upto_more : (P : VirtualItem → ℕ → Type 0) (items : List VirtualItem) (i : ℕ) (item : VirtualItem)
    (old new : ℕ → List ℕ) → slice_get items i ≡ Some item → Upto P items i old → Adds (P item) i old new
    → Upto P items (i + 1) new
upto_more P items i item old new e u a = record {
  only = λ k p h. only k p (a.only k p h);
  all = λ k p other l f h. all k p other l f h (p == i) refl;
}
  where
    only : (k p : ℕ) → Contains (old k) p ⊎ ((p ≡ i) × P item k)
        → (other : VirtualItem) × (slice_get items p ≡ Some other) × P other k
    only k p (inl h) = u.only k p h
    only k p (inr h) = (item, ap (slice_get items) h.0 ∙ e, h.1)

    all : (k p : ℕ) (other : VirtualItem) → p < i + 1 → slice_get items p ≡ Some other → P other k → (b : Bool)
        → (p == i) ≡ b → Contains (new k) p
    all k p other l f h true g =
        let s = equal_of p i g in
        let same : other ≡ item = (let z : Some other ≡ Some item = sym f ∙ (ap (slice_get items) s ∙ e) in cc) in
        subst (λ x. Contains (new k) x) (sym s) (a.added k (subst (λ x. P x k) same h))
    all k p other l f h false g = a.still k p (u.all k p other (grind (arith, l)) f h)

pub upto_all : (P : VirtualItem → ℕ → Type 0) (items : List VirtualItem) (n : ℕ) (lists : ℕ → List ℕ)
    → ((p : ℕ) (item : VirtualItem) → slice_get items p ≡ Some item → p < n) → Upto P items n lists
    → IsListed P items lists
upto_all P items n lists below u = record {
  only = u.only;
  all = λ k p item e h. u.all k p item (below p item e) e h;
}

-- the registers of the items up to a place are told
pub record ToldUpto (items : List VirtualItem) (n : ℕ) : Type 0 where
  pub reads : (p : ℕ) (item : VirtualItem) → p < n → slice_get items p ≡ Some item → ReadsTold item
  pub writes : (p : ℕ) (item : VirtualItem) → p < n → slice_get items p ≡ Some item → WritesTold item

pub told_none : (items : List VirtualItem) → ToldUpto items 0
told_none items = record {
  reads = λ p item l e. absurd (omega (arith, l));
  writes = λ p item l e. absurd (omega (arith, l));
}

pub told_more : (items : List VirtualItem) (i : ℕ) (item : VirtualItem) → slice_get items i ≡ Some item
    → ReadsTold item → WritesTold item → ToldUpto items i → ToldUpto items (i + 1)
told_more items i item e r w t = record {
  reads = λ p other l f. by ReadsTold r (λ q x k g. t.reads q x k g) p other l f (p == i) refl;
  writes = λ p other l f. by WritesTold w (λ q x k g. t.writes q x k g) p other l f (p == i) refl;
}
  where
    by : (P : VirtualItem → Type 0) → P item
        → ((q : ℕ) (x : VirtualItem) → q < i → slice_get items q ≡ Some x → P x)
        → (p : ℕ) (other : VirtualItem) → p < i + 1 → slice_get items p ≡ Some other → (b : Bool) → (p == i) ≡ b → P
        other
    by P here before p other l f true g =
        let s = equal_of p i g in
        let same : item ≡ other = (let z : Some item ≡ Some other = sym e ∙ (ap (slice_get items) (sym s) ∙ f) in cc) in
        subst P same here
    by P here before p other l f false g = before p other (grind (arith, l)) f

pub told_all : (items : List VirtualItem) (n : ℕ)
    → ((p : ℕ) (item : VirtualItem) → slice_get items p ≡ Some item → p < n) → ToldUpto items n → EachTold items
told_all items n below t = record {
  reads = λ p item e. t.reads p item (below p item e) e;
  writes = λ p item e. t.writes p item (below p item e) e;
}
