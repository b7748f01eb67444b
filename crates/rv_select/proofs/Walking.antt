-- A holding with a slot for each virtual register, from sets that are given at the marks alone.
use Rattle.std.proofs.Common.{ℕ, zero, suc, ◌≡◌, ◌≢◌, ◌⊎◌, inl, inr, ⊎_elim, true, false, Bool, List, []}
use Rattle.std.proofs.Common.{◌∷◌, Some, refl, sym, ◌∙◌, ap, subst, arith}
use Rattle.std.specs.Prelude.{◌==◌, ◌&&◌, ◌||◌, slice_get}
use Rattle.rv_select.specs.declared.convention.TheConstants.{FIRST_ARGUMENT, SECOND_ARGUMENT, ANSWER}
use Rattle.rv_select.specs.declared.code.VReg.{VReg}
use Rattle.rv_select.specs.declared.code.VReg.TheVariants.{Real, Virtual}
use Rattle.rv_select.specs.declared.code.VirtualItem.{VirtualItem}
use Rattle.rv_select.specs.declared.code.VirtualItem.TheVariants.{Constant, Move, Compute, ComputeWith, Load, Store}
use Rattle.rv_select.specs.declared.code.VirtualItem.TheVariants.{CodeOf, Mark, Procedure, Jump, Branch, Call, CallAt}
use Rattle.rv_select.specs.declared.code.VirtualItem.TheVariants.{TailCall, TailCallAt, Return, Environment}
use Rattle.rv_select.specs.Run.{is_fixed}
use Rattle.rv_select.specs.declared.code.Place.{Place}
use Rattle.rv_select.specs.declared.code.Place.TheVariants.{InReg, Slot}
use Rattle.rv_select.specs.Holding.{place_of, reads, writes, Among, NoneAt, SparedByCall, SparedBy, has_next, target}
use Rattle.rv_select.specs.Holding.{IsHolding}

-- each virtual register has a slot of its own
abbrev pub own : ℕ → Place
own v = Slot v

-- the same register
abbrev pub is_reg : VReg → VReg → Bool
is_reg (Real r) (Real q) = r == q
is_reg (Virtual v) (Virtual u) = v == u
is_reg a b = false

-- one of these
abbrev pub among : VReg → List VReg → Bool
among a [] = false
among a (x ∷ xs) = is_reg x a || among a xs

-- a call leaves it
abbrev pub is_spared : VReg → Bool
is_spared (Real r) = is_fixed r
is_spared (Virtual v) = true

-- the real registers
abbrev pub reals : VReg → Bool
reals (Real r) = true
reals (Virtual v) = false

-- the set before an item, setting those at marks and the one that comes here
abbrev pub before : (ℕ → VReg → Bool) → VirtualItem → (VReg → Bool) → VReg → Bool
before M (Mark m) L a = M m a
before M (Procedure k first count) L a = reals a
before M x L a = L a

-- the set behind an item
abbrev pub after : VirtualItem → (VReg → Bool) → VReg → Bool
after (Call k n) L a = is_reg (Real ANSWER) a || (L a && is_spared a)
after (CallAt f n) L a = is_reg (Real ANSWER) a || (L a && is_spared a)
after x L a = among a (writes x) || L a

-- the set before the item at a place
abbrev pub walk : (ℕ → VReg → Bool) → (VReg → Bool) → List VirtualItem → ℕ → VReg → Bool
walk M L [] p = L
walk M L (x ∷ xs) zero = before M x L
walk M L (x ∷ xs) (suc p) = walk M (after x (before M x L)) xs p

-- what is to be shown of each item
abbrev pub ReadsHeld : VirtualItem → (VReg → Bool) → Type 0
ReadsHeld x L = (a : VReg) → Among a (reads x) → L a ≡ true

-- the set may come before these items
abbrev pub NextOk : (ℕ → VReg → Bool) → (VReg → Bool) → List VirtualItem → Type 0
NextOk M L [] = Unit {0}
NextOk M L (x ∷ xs) = (a : VReg) → before M x L a ≡ true → L a ≡ true

-- each of these items reads what is held, and goes on where what is held is enough
abbrev pub Good : (ℕ → VReg → Bool) → (VReg → Bool) → List VirtualItem → Type 0
Good M L [] = Unit {0}
Good M L (x ∷ xs) =
    ReadsHeld x (before M x L) × (has_next x ≡ true → NextOk M (after x (before M x L)) xs)
    × ((m : ℕ) (a : VReg) → target x ≡ Some m → M m a ≡ true → after x (before M x L) a ≡ true)
    × Good M (after x (before M x L)) xs

-- a test that holds tells that they are the same
pub is_reg_true : (a b : VReg) → is_reg a b ≡ true → a ≡ b
is_reg_true (Real r) (Real q) e = let same : r ≡ q = grind arith in ap Real same
is_reg_true (Real r) (Virtual v) e = absurd (let z : ⊥ = cc in z)
is_reg_true (Virtual v) (Real q) e = absurd (let z : ⊥ = cc in z)
is_reg_true (Virtual v) (Virtual u) e = let same : v ≡ u = grind arith in ap Virtual same

is_reg_false : (a b : VReg) → is_reg a b ≡ false → place_of own a ≢ place_of own b
is_reg_false (Real r) (Real q) e f = let same : r ≡ q = cc in let z : ⊥ = grind arith in z
is_reg_false (Real r) (Virtual v) e f = cc
is_reg_false (Virtual v) (Real q) e f = cc
is_reg_false (Virtual v) (Virtual u) e f = let same : v ≡ u = cc in let z : ⊥ = grind arith in z

-- one of two tests holds
pub or_split : (a b : Bool) → (a || b) ≡ true → (a ≡ true) ⊎ ((a ≡ false) × (b ≡ true))
or_split true b e = inl refl
or_split false b e = inr (refl, e)

-- both hold
pub and_split : (a b : Bool) → (a && b) ≡ true → (a ≡ true) × (b ≡ true)
and_split true b e = (refl, e)
and_split false b e = absurd (let z : ⊥ = cc in z)

among_or_none : (a : VReg) (xs : List VReg) → Among a xs ⊎ NoneAt own (place_of own a) xs
among_or_none a [] = inr tt
among_or_none a (x ∷ xs) = by_first (is_reg x a) refl (among_or_none a xs)
  where
    by_first : (c : Bool) → is_reg x a ≡ c → Among a xs ⊎ NoneAt own (place_of own a) xs → Among a (x ∷ xs)
        ⊎ NoneAt own (place_of own a) (x ∷ xs)
    by_first true e k = inl (inl (is_reg_true x a e))
    by_first false e (inl h) = inl (inr h)
    by_first false e (inr h) = inr (is_reg_false x a e, h)

among_true : (a : VReg) (xs : List VReg) → among a xs ≡ true → Among a xs
among_true a [] e = let z : ⊥ = cc in z
among_true a (x ∷ xs) e =
    ⊎_elim (λ h. inl (is_reg_true x a h)) (λ h. inr (among_true a xs h.1)) (or_split (is_reg x a) (among a xs) e)

spared_true : (a : VReg) → is_spared a ≡ true → SparedByCall (place_of own a)
spared_true (Real r) e = grind arith
spared_true (Virtual v) e = tt

abbrev Flow : VirtualItem → (VReg → Bool) → VReg → Type 0
Flow x L a = Among a (writes x) ⊎ ((L a ≡ true) × SparedBy own x (place_of own a))

plain_flow : (a : VReg) (xs : List VReg) (b : Bool) → (among a xs || b) ≡ true → Among a xs
    ⊎ ((b ≡ true) × NoneAt own (place_of own a) xs)
plain_flow a xs b e = ⊎_elim (λ h. inl h) (λ h. ⊎_elim (λ k. inl (among_true a xs k)) (λ k. inr (k.1, h))
    (or_split (among a xs) b e)) (among_or_none a xs)

call_flow : (a : VReg) (L : VReg → Bool) → (is_reg (Real ANSWER) a || (L a && is_spared a)) ≡ true
    → Among a (Real ANSWER ∷ [])
    ⊎ ((L a ≡ true) × SparedByCall (place_of own a))
call_flow a L e =
    ⊎_elim (λ h. inl (inl (is_reg_true (Real FIRST_ARGUMENT) a h))) (λ h. let k = and_split (L a) (is_spared a) h.1 in
    inr (k.0, spared_true a k.1)) (or_split (is_reg (Real ANSWER) a) (L a && is_spared a) e)

after_flow : (x : VirtualItem) (L : VReg → Bool) (a : VReg) → after x L a ≡ true → Flow x L a
after_flow (Call k n) L a e = call_flow a L e
after_flow (CallAt f n) L a e = call_flow a L e
after_flow (Constant rd word) L a e = plain_flow a (rd ∷ []) (L a) e
after_flow (Move rd b) L a e = plain_flow a (rd ∷ []) (L a) e
after_flow (Compute o rd b c) L a e = plain_flow a (rd ∷ []) (L a) e
after_flow (ComputeWith o rd b n) L a e = plain_flow a (rd ∷ []) (L a) e
after_flow (Load rd b offset) L a e = plain_flow a (rd ∷ []) (L a) e
after_flow (CodeOf rd k) L a e = plain_flow a (rd ∷ []) (L a) e
after_flow Environment L a e = plain_flow a (Real FIRST_ARGUMENT ∷ Real SECOND_ARGUMENT ∷ []) (L a) e
after_flow (Store b c offset) L a e = inr (e, tt)
after_flow (Mark m) L a e = inr (e, tt)
after_flow (Procedure k first count) L a e = inr (e, tt)
after_flow (Jump m) L a e = inr (e, tt)
after_flow (Branch cond b c m) L a e = inr (e, tt)
after_flow (TailCall k n) L a e = inr (e, tt)
after_flow (TailCallAt f n) L a e = inr (e, tt)
after_flow Return L a e = inr (e, tt)

module _ (M : ℕ → VReg → Bool) where
  reads_at : (xs : List VirtualItem) (L : VReg → Bool) (p : ℕ) (x : VirtualItem) (a : VReg) → Good M L xs
      → slice_get xs p ≡ Some x → Among a (reads x) → walk M L xs p a ≡ true
  reads_at [] L zero x a g e h = absurd (let z : ⊥ = cc in z)
  reads_at [] L (suc p) x a g e h = absurd (let z : ⊥ = cc in z)
  reads_at (y ∷ ys) L zero x a g e h = let same : x ≡ y = (let q : y ≡ x = cc in sym q) in
      g.0 a (subst (λ z. Among a (reads z)) same h)
  reads_at (y ∷ ys) L (suc p) x a g e h = reads_at ys (after y (before M y L)) p x a g.3 e h

  next_at : (xs : List VirtualItem) (L : VReg → Bool) (p : ℕ) (x : VirtualItem) (a : VReg) → Good M L xs
      → slice_get xs p ≡ Some x → has_next x ≡ true → walk M L xs (suc p) a ≡ true → Among a (writes x)
      ⊎ ((walk M L xs p a ≡ true) × SparedBy own x (place_of own a))
  next_at [] L zero x a g e f h = absurd (let z : ⊥ = cc in z)
  next_at [] L (suc p) x a g e f h = absurd (let z : ⊥ = cc in z)
  next_at (y ∷ ys) L zero x a g e f h =
      let same : y ≡ x = cc in
      subst (λ z. Among a (writes z) ⊎ ((before M y L a ≡ true) × SparedBy own z (place_of own a))) same
      (after_flow y (before M y L) a (behind ys (g.1 (subst (λ z. has_next z ≡ true) (sym same) f)) h))
    where
      behind : (zs : List VirtualItem) → NextOk M (after y (before M y L)) zs
          → walk M (after y (before M y L)) zs zero a ≡ true → after y (before M y L) a ≡ true
      behind [] k w = w
      behind (z ∷ zs) k w = k a w
  next_at (y ∷ ys) L (suc p) x a g e f h = next_at ys (after y (before M y L)) p x a g.3 e f h

  target_at : (xs : List VirtualItem) (L : VReg → Bool) (p m : ℕ) (x : VirtualItem) (a : VReg) → Good M L xs
      → slice_get xs p ≡ Some x → target x ≡ Some m → M m a ≡ true → Among a (writes x)
      ⊎ ((walk M L xs p a ≡ true) × SparedBy own x (place_of own a))
  target_at [] L zero m x a g e f h = absurd (let z : ⊥ = cc in z)
  target_at [] L (suc p) m x a g e f h = absurd (let z : ⊥ = cc in z)
  target_at (y ∷ ys) L zero m x a g e f h =
      let same : y ≡ x = cc in
      subst (λ z. Among a (writes z) ⊎ ((before M y L a ≡ true) × SparedBy own z (place_of own a))) same
      (after_flow y (before M y L) a (g.2 m a (subst (λ z. target z ≡ Some m) (sym same) f) h))
  target_at (y ∷ ys) L (suc p) m x a g e f h = target_at ys (after y (before M y L)) p m x a g.3 e f h

  mark_at : (xs : List VirtualItem) (L : VReg → Bool) (p m : ℕ) (a : VReg) → slice_get xs p ≡ Some (Mark m)
      → walk M L xs p a ≡ M m a
  mark_at [] L zero m a e = absurd (let z : ⊥ = cc in z)
  mark_at [] L (suc p) m a e = absurd (let z : ⊥ = cc in z)
  mark_at (y ∷ ys) L zero m a e = let same : y ≡ Mark m = cc in ap (λ z. before M z L a) same
  mark_at (y ∷ ys) L (suc p) m a e = mark_at ys (after y (before M y L)) p m a e

  procedure_at_place : (xs : List VirtualItem) (L : VReg → Bool) (p k first count : ℕ) (a : VReg)
      → slice_get xs p ≡ Some (Procedure k first count) → walk M L xs p a ≡ reals a
  procedure_at_place [] L zero k first count a e = absurd (let z : ⊥ = cc in z)
  procedure_at_place [] L (suc p) k first count a e = absurd (let z : ⊥ = cc in z)
  procedure_at_place (y ∷ ys) L zero k first count a e = let same : y ≡ Procedure k first count =
      cc in ap (λ z. before M z L a) same
  procedure_at_place (y ∷ ys) L (suc p) k first count a e =
      procedure_at_place ys (after y (before M y L)) p k first count a e

  no_place : (v r : ℕ) → own v ≡ InReg r → ⊥
  no_place v r e = cc

  -- sets that are good from a first one without virtual registers are a holding
  pub walked : (items : List VirtualItem) (L : VReg → Bool) → ((v : ℕ) → walk M L items 0 (Virtual v) ≡ false)
      → Good M L items → IsHolding items own (walk M L items)
  walked items L none g = record {
    allowed = λ v r e. absurd (no_place v r e);
    start = none;
    procedures = λ p k first count v e. procedure_at_place items L p k first count (Virtual v) e;
    finds = λ p x a e h. reads_at items L p x a g e h;
    flows = λ p q x a e f h. ⊎_elim (λ k. next_at items L p x a g e k.0 (subst (λ z. walk M L items z a ≡ true) k.1 h))
        (λ k. target_at items L p k.0 x a g e k.1 (sym (mark_at items L q k.0 a k.2) ∙ h)) f;
  }
