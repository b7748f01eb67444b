-- What registers and their names have to do with each other, and one write to a register and to its name.
use Rattle.std.proofs.Common.{ℕ, suc, ◌-◌, ◌≤◌, ◌≡◌, ◌≢◌, Bool, true, false, Some, None, refl, sym}
use Rattle.std.proofs.Common.{◌∙◌, ap, arith}
use Rattle.std.specs.Prelude.{◌==◌, ◌&&◌, ◌||◌, not, if◌then◌else◌}
use Rattle.run_laws.specs.Runs.{Ending}
use Rattle.run_laws.specs.Machines.{Go}
use Rattle.rv_machine.specs.Registers.{get_reg, set_reg}
use Rattle.machine_words.specs.Halts.{Halt}
use Rattle.low_ir.specs.Steps.{set_local, only_if}
use Rattle.rv_select.specs.declared.code.VReg.{VReg}
use Rattle.rv_select.specs.declared.code.VReg.TheVariants.{Real, Virtual}
use Rattle.rv_select.specs.declared.code.Place.{Place}
use Rattle.rv_select.specs.declared.code.Place.TheVariants.{InReg, Slot}
use Rattle.rv_select.specs.Run.{Setting, Found, VirtualState, may_read, may_write, is_fixed, is_own}
use Rattle.rv_select.specs.Run.{also_known, value, puts}
use Rattle.rv_select.specs.Holding.{place_of, may_hold}
use Rattle.placed_code.specs.Rename.{Naming, named, name, with_slots}

pub some_is : (a b : ℕ) → Some a ≡ Some b → a ≡ b
some_is a b e = cc

pub none_is : (a : ℕ) → None ≡ Some a → ⊥
none_is a e = cc

pub equal_of : (a b : ℕ) → (a == b) ≡ true → a ≡ b
equal_of a b h = grind arith

-- ---- two registers

abbrev pub Differ : VReg → VReg → Type 0
Differ (Real r) (Real q) = (q == r) ≡ false
Differ (Virtual v) (Virtual u) = (u == v) ≡ false
Differ a b = Unit {0}

pub differ_regs : (r q : ℕ) → InReg r ≢ InReg q → (q == r) ≡ false
differ_regs r q h = pick (q == r) refl
  where
    pick : (c : Bool) → (q == r) ≡ c → (q == r) ≡ false
    pick true e = absurd (h (ap InReg (sym (equal_of q r e))))
    pick false e = e

differ_slots : (i j : ℕ) → Slot i ≢ Slot j → (i == j) ≡ false
differ_slots i j h = pick (i == j) refl
  where
    pick : (c : Bool) → (i == j) ≡ c → (i == j) ≡ false
    pick true e = absurd (h (ap Slot (equal_of i j e)))
    pick false e = e

pub differ_places : (place : ℕ → Place) (rd a : VReg) → place_of place rd ≢ place_of place a → Differ rd a
differ_places place (Real r) (Real q) h = differ_regs r q h
differ_places place (Real r) (Virtual u) h = tt
differ_places place (Virtual v) (Real q) h = tt
differ_places place (Virtual v) (Virtual u) h = pick (u == v) refl
  where
    pick : (c : Bool) → (u == v) ≡ c → (u == v) ≡ false
    pick true e = absurd (h (ap place (sym (equal_of u v e))))
    pick false e = e

-- ---- a register is written

abbrev pub wrote : VReg → ℕ → VirtualState → VirtualState
wrote (Real r) x t = record t { regs = set_reg r x t.regs; known = also_known r t.known; pc = suc t.pc }
wrote (Virtual v) x t =
    record t { active = record t.active { locals = set_local v x t.active.locals }; pc = suc t.pc }

-- whether it may be
abbrev pub permit : Found → VReg → Bool
permit f (Real r) = may_write r
permit f (Virtual v) = is_own f v

pub puts_is : {V : Type 0} (reading : Halt → Ending V) (setting : Setting) (rd : VReg) (x : ℕ) (t : VirtualState)
    → puts reading setting rd x t ≡ only_if t (permit t.active.found rd) (Go (wrote rd x t))
puts_is reading setting (Real r) x t = refl
puts_is reading setting (Virtual v) x t = refl

either : (d : Bool) (y : ℕ) → (if d || true then Some y else None) ≡ Some y
either true y = refl
either false y = refl

pub value_self : (rd : VReg) (x : ℕ) (t : VirtualState) → permit t.active.found rd ≡ true
    → value (wrote rd x t) rd ≡ Some x
value_self (Real r) x t h =
    let a : (r == r) ≡ true = grind arith in
    let b : (r == 0) ≡ false = grind arith in
    let c : may_read r ≡ true = grind arith in
    let d : get_reg (set_reg r x t.regs) r ≡ x = rw (a, b) refl in
    ap (λ z. if z && (is_fixed r || ((r == r) || t.known r)) then Some (get_reg (set_reg r x t.regs) r) else None) c
    ∙ (ap (λ z. if is_fixed r || (z || t.known r) then Some (get_reg (set_reg r x t.regs) r) else None) a
    ∙ (either (is_fixed r) (get_reg (set_reg r x t.regs) r) ∙ ap Some d))
value_self (Virtual v) x t h =
    let a : (v == v) ≡ true = grind arith in ap (λ z. if z then Some x else t.active.locals v) a

pub value_other : (rd a : VReg) (x : ℕ) (t : VirtualState) → Differ rd a → value (wrote rd x t) a ≡ value t a
value_other (Real r) (Real q) x t h =
    ap (λ c. if may_read q && (is_fixed q || (c || t.known q))
    then Some (if q == 0 then 0 else (if c && not (r == 0) then x else t.regs q)) else None) h
value_other (Real r) (Virtual v) x t h = refl
value_other (Virtual u) (Real q) x t h = refl
value_other (Virtual u) (Virtual v) x t h = ap (λ c. if c then Some x else t.active.locals v) h

-- ---- registers of a procedure

abbrev pub OwnOr : Found → VReg → Type 0
OwnOr f (Real r) = Unit {0}
OwnOr f (Virtual v) = is_own f v ≡ true

-- what is asked of the numbers of slots: they are those of the procedure, two slots have two, none lies further from
-- the first than its register, and there are no more than registers
pub record IsNaming (w : Naming) : Type 0 where
  pub own : (f : Found) (v i : ℕ) → is_own f v ≡ true → w.place v ≡ Slot i
      → is_own (with_slots w f) (w.number f.first f.count i) ≡ true
  pub apart : (f : Found) (u v i j : ℕ) → is_own f u ≡ true → is_own f v ≡ true → w.place u ≡ Slot i
      → w.place v ≡ Slot j → (i == j) ≡ false
      → (w.number f.first f.count i == w.number f.first f.count j) ≡ false
  pub near : (f : Found) (v i : ℕ) → is_own f v ≡ true → w.place v ≡ Slot i
      → w.number f.first f.count i - f.first ≤ v - f.first
  pub few : (first count : ℕ) → w.slots first count ≤ count

module _ (w : Naming) (is : IsNaming w) (allowed : (v r : ℕ) → w.place v ≡ InReg r → may_hold r ≡ true) where
  abbrev pub name_at : Found → VReg → VReg
  name_at f a = name w f.first f.count a

  -- a place of one of the procedure's registers
  abbrev IsKept : Found → Place → Type 0
  IsKept f (InReg r) = Unit {0}
  IsKept f (Slot i) = (v : ℕ) × (is_own f v ≡ true) × (w.place v ≡ Slot i)

  kept_of : (f : Found) (a : VReg) → OwnOr f a → IsKept f (place_of w.place a)
  kept_of f (Real r) h = tt
  kept_of f (Virtual v) h = pick (w.place v) refl
    where
      pick : (p : Place) → w.place v ≡ p → IsKept f p
      pick (InReg r) e = tt
      pick (Slot i) e = (v, h, e)

  differ_kept : (f : Found) (p q : Place) → p ≢ q → IsKept f p → IsKept f q
      → Differ (named (w.number f.first f.count) p) (named (w.number f.first f.count) q)
  differ_kept f (InReg r) (InReg q) h k l = differ_regs r q h
  differ_kept f (InReg r) (Slot j) h k l = tt
  differ_kept f (Slot i) (InReg q) h k l = tt
  differ_kept f (Slot i) (Slot j) h k l =
      is.apart f l.0 k.0 j i l.1 k.1 l.2 k.2 (differ_slots j i (λ e. h (sym e)))

  pub differ_named : (f : Found) (rd a : VReg) → place_of w.place rd ≢ place_of w.place a → OwnOr f rd → OwnOr f a
      → Differ (name_at f rd) (name_at f a)
  differ_named f rd a h k l =
      differ_kept f (place_of w.place rd) (place_of w.place a) h (kept_of f rd k) (kept_of f a l)

  held_writes : (r : ℕ) → may_hold r ≡ true → may_write r ≡ true
  held_writes r h = grind arith

  pub permit_named : (f : Found) (rd : VReg) → permit f rd ≡ true → permit (with_slots w f) (name_at f rd) ≡ true
  permit_named f (Real r) h = h
  permit_named f (Virtual v) h = pick (w.place v) refl
    where
      pick : (p : Place) → w.place v ≡ p → permit (with_slots w f) (named (w.number f.first f.count) p) ≡ true
      pick (InReg r) e = held_writes r (allowed v r e)
      pick (Slot i) e = is.own f v i h e

  pub own_permitted : (f : Found) (rd : VReg) → permit f rd ≡ true → OwnOr f rd
  own_permitted f (Real r) h = tt
  own_permitted f (Virtual v) h = h
