-- The renamed code keeps to what is asked of a virtual code, and so the real code to what the assembler asks.
use Rattle.std.proofs.Common.{ℕ, zero, suc, ◌+◌, ◌^◌, ◌<◌, ◌≤◌, ◌≡◌, true, List, [], ◌∷◌, ◌++◌, Some}
use Rattle.std.proofs.Common.{refl, sym, ◌∙◌, ap, subst, arith}
use Rattle.std.specs.Prelude.{slice_get, All, Contains}
use Rattle.std.proofs.lemmas.List.Elements.{All-nil, All-cons, All-head, All-tail}
use Rattle.rv_machine.specs.declared.real.RealItem.{RealItem}
use Rattle.rv_select.specs.declared.code.VReg.{VReg}
use Rattle.rv_select.specs.declared.code.VReg.TheVariants.{Real, Virtual}
use Rattle.rv_select.specs.declared.code.Place.{Place}
use Rattle.rv_select.specs.declared.code.Place.TheVariants.{InReg, Slot}
use Rattle.rv_select.specs.declared.code.VirtualItem.{VirtualItem}
use Rattle.rv_select.specs.declared.code.VirtualItem.TheVariants.{Constant, Move, Compute, ComputeWith, Load, Store}
use Rattle.rv_select.specs.declared.code.VirtualItem.TheVariants.{CodeOf, Mark, Procedure, Jump, Branch, Call, CallAt}
use Rattle.rv_select.specs.declared.code.VirtualItem.TheVariants.{TailCall, TailCallAt, Return, Environment}
use Rattle.rv_select.specs.Run.{may_read, is_own, Found}
use Rattle.rv_select.specs.Holding.{may_hold, writes, reads, handed_on, Sets, IsHolding}
use Rattle.rv_select.specs.Marks.{marks, Distinct}
use Rattle.rv_select.specs.WellFormed.{IsWellFormed, IsReadable, marks_named}
use Rattle.placed_code.specs.Slotted.{HasFew, EachHasFew}
use Rattle.placed_code.proofs.slotted.SlotConditions.{slots_assemble, slots_spare, slots_begin}
use Rattle.placed_code.specs.Rename.{Naming, densely, rename, name, named, rename_all, renamed}
use Rattle.placed_code.specs.Applied.{applied, IsApplied}
use Rattle.placed_code.proofs.Dense.{near, few}
use Rattle.placed_code.proofs.AppliedRuns.{same_marks, does_in_slots, does_as_virtual, ends_in_slots}

module _ (w : Naming) (allowed : (v r : ℕ) → w.place v ≡ InReg r → may_hold r ≡ true) where
  held_reads : (r : ℕ) → may_hold r ≡ true → may_read r ≡ true
  held_reads r h = grind arith

  readable : (first count : ℕ) (a : VReg) → IsReadable a → IsReadable (name w first count a)
  readable first count (Real r) h = h
  readable first count (Virtual v) h = pick (w.place v) refl
    where
      pick : (p : Place) → w.place v ≡ p → IsReadable (named (w.number first count) p)
      pick (InReg r) e = held_reads r (allowed v r e)
      pick (Slot i) e = tt

  one : (first count : ℕ) (a : VReg) → All IsReadable (a ∷ []) → All IsReadable (name w first count a ∷ [])
  one first count a h =
      All-cons IsReadable (name w first count a) [] (readable first count a (All-head IsReadable a [] h))
      (All-nil IsReadable)

  -- one more register
  more : (first count : ℕ) (a : VReg) (xs ys : List VReg) → All IsReadable (a ∷ xs)
      → (All IsReadable xs → All IsReadable ys) → All IsReadable (name w first count a ∷ ys)
  more first count a xs ys h go =
      All-cons IsReadable (name w first count a) ys (readable first count a (All-head IsReadable a xs h))
      (go (All-tail IsReadable a xs h))

  two : (first count : ℕ) (a b : VReg) → All IsReadable (a ∷ b ∷ [])
      → All IsReadable (name w first count a ∷ name w first count b ∷ [])
  two first count a b h = more first count a (b ∷ []) (name w first count b ∷ []) h (λ k. one first count b k)

  three : (first count : ℕ) (a b d : VReg) → All IsReadable (a ∷ b ∷ d ∷ [])
      → All IsReadable (name w first count a ∷ name w first count b ∷ name w first count d ∷ [])
  three first count a b d h =
      more first count a (b ∷ d ∷ []) (name w first count b ∷ name w first count d ∷ []) h (λ k. two first count b d k)

  registers_stay : (first count : ℕ) (item : VirtualItem) → All IsReadable (writes item ++ reads item)
      → All IsReadable (writes (rename (name w first count) item) ++ reads (rename (name w first count) item))
  registers_stay f c (Constant rd word) h = one f c rd h
  registers_stay f c (Move rd a) h = two f c rd a h
  registers_stay f c (Compute op rd a b) h = three f c rd a b h
  registers_stay f c (ComputeWith op rd a n) h = two f c rd a h
  registers_stay f c (Load rd a offset) h = two f c rd a h
  registers_stay f c (Store b a offset) h = two f c a b h
  registers_stay f c (CodeOf rd k) h = one f c rd h
  registers_stay f c (Mark mark) h = h
  registers_stay f c (Procedure k first count) h = h
  registers_stay f c (Jump mark) h = h
  registers_stay f c (Branch cond a b mark) h = two f c a b h
  registers_stay f c (Call k n) h = h
  registers_stay f c (CallAt a n) h =
      All-cons IsReadable (Real 10) (name w f c a ∷ handed_on 0 n)
      (All-head IsReadable (Real 10) (a ∷ handed_on 0 n) h)
      (more f c a (handed_on 0 n) (handed_on 0 n) (All-tail IsReadable (Real 10) (a ∷ handed_on 0 n) h) (λ k. k))
  registers_stay f c (TailCall k n) h = h
  registers_stay f c (TailCallAt a n) h = more f c a (handed_on 0 n) (handed_on 0 n) h (λ k. k)
  registers_stay f c Return h = h
  registers_stay f c Environment h = h

  abbrev Registers : VirtualItem → Type 0
  Registers item = All IsReadable (writes item ++ reads item)

  registers_all : (first count : ℕ) (items : List VirtualItem) → All Registers items
      → All Registers (rename_all w first count items)
  registers_all first count [] h = All-nil Registers
  registers_all first count (Procedure k f c ∷ rest) h =
      All-cons Registers (Procedure k f (w.slots f c)) (rename_all w f c rest) (All-nil IsReadable)
      (registers_all f c rest (All-tail Registers (Procedure k f c) rest h))
  registers_all first count (item ∷ rest) h =
      All-cons Registers (rename (name w first count) item) (rename_all w first count rest)
      (registers_stay first count item (All-head Registers item rest h))
      (registers_all first count rest (All-tail Registers item rest h))

  named_stay : (first count : ℕ) (item : VirtualItem) → marks_named (rename (name w first count) item) ≡ marks_named
      item
  named_stay f c (Constant rd word) = refl
  named_stay f c (Move rd a) = refl
  named_stay f c (Compute op rd a b) = refl
  named_stay f c (ComputeWith op rd a n) = refl
  named_stay f c (Load rd a offset) = refl
  named_stay f c (Store b a offset) = refl
  named_stay f c (CodeOf rd k) = refl
  named_stay f c (Mark mark) = refl
  named_stay f c (Procedure k first count) = refl
  named_stay f c (Jump mark) = refl
  named_stay f c (Branch cond a b mark) = refl
  named_stay f c (Call k n) = refl
  named_stay f c (CallAt a n) = refl
  named_stay f c (TailCall k n) = refl
  named_stay f c (TailCallAt a n) = refl
  named_stay f c Return = refl
  named_stay f c Environment = refl

  abbrev Names : List ℕ → VirtualItem → Type 0
  Names ms item = All (λ mark. Contains ms mark) (marks_named item)

  named_all : (ms : List ℕ) (first count : ℕ) (items : List VirtualItem) → All (Names ms) items
      → All (Names ms) (rename_all w first count items)
  named_all ms first count [] h = All-nil (Names ms)
  named_all ms first count (Procedure k f c ∷ rest) h =
      All-cons (Names ms) (Procedure k f (w.slots f c)) (rename_all w f c rest) (All-nil (λ mark. Contains ms mark))
      (named_all ms f c rest (All-tail (Names ms) (Procedure k f c) rest h))
  named_all ms first count (item ∷ rest) h =
      All-cons (Names ms) (rename (name w first count) item) (rename_all w first count rest)
      (subst (λ xs. All (λ mark. Contains ms mark) xs) (sym (named_stay first count item))
      (All-head (Names ms) item rest h)) (named_all ms first count rest (All-tail (Names ms) item rest h))

  pub well_formed : (items : List VirtualItem) → IsWellFormed items → IsWellFormed (renamed w items)
  well_formed items well =
      let same = same_marks w 0 0 items in
      record {
        distinct = subst Distinct (sym same) well.distinct;
        named = subst (λ ms. All (Names ms) (renamed w items)) (sym same) (named_all (marks items) 0 0 items
            well.named);
        registers = registers_all 0 0 items well.registers;
      }

  -- a procedure stands at the same place
  pub procedure_on : (first count : ℕ) (items : List VirtualItem) (p k f n : ℕ)
      → slice_get items p ≡ Some (Procedure k f n)
      → slice_get (rename_all w first count items) p ≡ Some (Procedure k f (w.slots f n))
  procedure_on first count [] p k f n e = absurd (let z : ⊥ = cc in z)
  procedure_on first count (Procedure i g c ∷ rest) zero k f n e = same i k g f c n e
    where
      same : (a b x y z u : ℕ) → Some (Procedure a x z) ≡ Some (Procedure b y u)
          → Some (Procedure a x (w.slots x z)) ≡ Some (Procedure b y (w.slots y u))
      same a b x y z u h =
          let e0 : a ≡ b = cc in
          let e1 : x ≡ y = cc in
          let e2 : z ≡ u = cc in
          ap (λ v. Some (Procedure v x (w.slots x z))) e0
          ∙ (ap (λ v. Some (Procedure b v (w.slots v z))) e1 ∙ ap (λ v. Some (Procedure b y (w.slots y v))) e2)
  procedure_on first count (item ∷ rest) zero k f n e = absurd (let z : ⊥ = cc in z)
  procedure_on first count (Procedure i g c ∷ rest) (suc p) k f n e = procedure_on g c rest p k f n e
  procedure_on first count (item ∷ rest) (suc p) k f n e = procedure_on first count rest p k f n e

few_at : (items : List VirtualItem) (p k first count : ℕ) → EachHasFew items
    → slice_get items p ≡ Some (Procedure k first count) → count < 2 ^ 32
few_at [] p k first count h e = absurd (let z : ⊥ = cc in z)
few_at (x ∷ xs) zero k first count h e =
    let same : x ≡ Procedure k first count = cc in subst HasFew same h.0
few_at (x ∷ xs) (suc p) k first count h e = few_at xs p k first count h.1 e

pub own_first : (f : Found) (v : ℕ) → is_own f v ≡ true → (f.first ≤ v) × (v < f.first + f.count)
own_first f v h = grind arith

-- all that is claimed of the real code of a code with a holding
pub is_applied : (place : ℕ → Place) (items : List VirtualItem) (live : Sets) (code : List RealItem)
    → IsHolding items place live → EachHasFew items → code ≡ applied place items → IsApplied place items code
is_applied place items live code hold each e =
    subst (IsApplied place items) (sym e) (record {
      exactly = refl;
      few = few place;
      near = λ f v i own at.
          let o = own_first f v own in
          let k = near place f.first f.count v i o.0 o.1 at in omega (arith, k, o.0);
      assembles = λ well. slots_assemble others (well_formed (densely place) hold.allowed items well);
      spares = λ well. slots_spare others (well_formed (densely place) hold.allowed items well);
      begins = λ well p k first count at there.
          slots_begin others (well_formed (densely place) hold.allowed items well) p k first
          ((densely place).slots first count) at
          (procedure_on (densely place) hold.allowed 0 0 items p k first count there);
      in_slots = λ distinct reading. does_in_slots reading items place live hold distinct
          (λ p k first count h. few_at items p k first count each h);
      follows = λ distinct reading. does_as_virtual reading items place live hold distinct
          (λ p k first count h. few_at items p k first count each h);
      stops = λ distinct reading. ends_in_slots reading items place live hold distinct
          (λ p k first count h. few_at items p k first count each h);
    })
  where
    others : List VirtualItem
    others = renamed (densely place) items
