-- The procedures of a code by their numbers, and that the mark of each has an address of its own.
use Rattle.std.proofs.Common.{ℕ, zero, suc, ◌+◌, ◌<◌, ◌≡◌, ◌⊎◌, inl, inr, Bool, true, false, List, [], ◌∷◌, ◌++◌}
use Rattle.std.proofs.Common.{length, Some, ⊎_elim, slice_get, refl, sym, ◌∙◌, ap, subst, append_assoc, arith}
use Rattle.std.specs.Prelude.{◌==◌, if◌then◌else◌}
use Rattle.rv_machine.specs.declared.real.RealItem.{RealItem}
use Rattle.rv_machine.specs.declared.real.RealItem.TheVariants.{Mark as RealMark}
use Rattle.rv_machine.specs.Real.{AreAddresses, is_mark, address_from, mark_from, mark_address}
use Rattle.low_ir.specs.Procedures.{Proc}
use Rattle.assembler.specs.Assembled.{item_address}
use Rattle.rv_select.specs.declared.code.Place.{Place}
use Rattle.rv_select.specs.declared.code.VirtualItem.{VirtualItem}
use Rattle.rv_select.specs.declared.code.VirtualItem.TheVariants.{Procedure}
use Rattle.rv_select.specs.Marks.{procedures, numbers_from}
use Rattle.rv_select.specs.Select.{select_items}
use Rattle.rv_select.specs.Selected.{IsCodeOf}
use Rattle.placed_code.specs.Slots.{expand, expand_all, final_items}
use Rattle.placed_code.specs.Slotted.{free_mark}
use Rattle.placed_code.specs.Places.{place_in}
use Rattle.placed_code.specs.Rename.{Naming, densely, rename_all, renamed}
use Rattle.placed_code.specs.Applied.{IsApplied}
use Rattle.reg_assign.specs.Images.{words_code, HaveAddresses}

-- ---- numbers of procedures

-- a number is one of these
abbrev pub In : ℕ → List ℕ → Type 0
In k [] = ⊥
In k (x ∷ xs) = (k ≡ x) ⊎ In k xs

pub in_procedures : (xs : List VirtualItem) (place k first count : ℕ)
    → slice_get xs place ≡ Some (Procedure k first count) → In k (procedures xs)
in_procedures [] place k first count e = absurd (let z : ⊥ = cc in z)
in_procedures (Procedure m f c ∷ xs) zero k first count e = let same : m ≡ k = cc in inl (sym same)
in_procedures (Procedure m f c ∷ xs) (suc place) k first count e = inr (in_procedures xs place k first count e)
in_procedures (x ∷ xs) zero k first count e = absurd (let z : ⊥ = cc in z)
in_procedures (x ∷ xs) (suc place) k first count e = in_procedures xs place k first count e

pub below_numbers : (n from k : ℕ) → In k (numbers_from from n) → k < from + n
below_numbers zero from k h = absurd h
below_numbers (suc n) from k h =
    ⊎_elim (λ e. omega (arith, e)) (λ i. let g = below_numbers n (suc from) k i in omega (arith, g)) h

same_or_later : (k from : ℕ) → from < suc k → (k ≡ from) ⊎ (from < k)
same_or_later zero zero h = inl refl
same_or_later (suc k) zero h = inr (omega arith)
same_or_later zero (suc from) h = absurd (let f : ⊥ = omega (arith, h) in f)
same_or_later (suc k) (suc from) h =
    ⊎_elim (λ e. inl (ap suc e)) (λ g. inr (omega (arith, g))) (same_or_later k from (omega (arith, h)))

numbered : (n from k : ℕ) → from < suc k → k < from + n → In k (numbers_from from n)
numbered zero from k low high = absurd (let f : ⊥ = omega (arith, low, high) in f)
numbered (suc n) from k low high =
    pick (same_or_later k from low) (λ h. numbered n (suc from) k (omega (arith, h)) (omega (arith, high)))
  where
    pick : (k ≡ from) ⊎ (from < k) → (from < k → In k (numbers_from (suc from) n))
        → In k (from ∷ numbers_from (suc from) n)
    pick (inl e) go = inl e
    pick (inr h) go = inr (go h)

same_procedures : (w : Naming) (first count : ℕ) (xs : List VirtualItem)
    → procedures (rename_all w first count xs) ≡ procedures xs
same_procedures w first count [] = refl
same_procedures w first count (Procedure k f c ∷ xs) = ap (λ ks. k ∷ ks) (same_procedures w f c xs)
same_procedures w first count (x ∷ xs) = same_procedures w first count xs

-- a procedure stands in the code
record Stands (xs : List VirtualItem) (k : ℕ) : Type 0 where
  pub place : ℕ
  pub first : ℕ
  pub count : ℕ
  pub is : slice_get xs place ≡ Some (Procedure k first count)

later : (x : VirtualItem) (xs : List VirtualItem) (k : ℕ) → Stands xs k → Stands (x ∷ xs) k
later x xs k s = record { place = suc s.place; first = s.first; count = s.count; is = s.is }

stands : (xs : List VirtualItem) (k : ℕ) → In k (procedures xs) → Stands xs k
stands [] k h = absurd h
stands (Procedure i first count ∷ xs) k (inl e) =
    record { place = 0; first = first; count = count; is = ap (λ n. Some (Procedure n first count)) (sym e) }
stands (Procedure i first count ∷ xs) k (inr h) = later (Procedure i first count) xs k (stands xs k h)
stands (x ∷ xs) k h = later x xs k (stands xs k h)

-- ---- marks of a real code

-- the mark of a number stands there
abbrev HasMark : ℕ → List RealItem → Type 0
HasMark k [] = ⊥
HasMark k (RealMark m ∷ xs) = (m ≡ k) ⊎ HasMark k xs
HasMark k (x ∷ xs) = HasMark k xs

mark_behind : (k : ℕ) (front xs : List RealItem) → HasMark k xs → HasMark k (front ++ xs)
mark_behind k [] xs h = h
mark_behind k (RealMark m ∷ front) xs h = inr (mark_behind k front xs h)
mark_behind k (x ∷ front) xs h = mark_behind k front xs h

-- the mark of a procedure stands in the code with slots
mark_stands : (out : ℕ) (xs : List VirtualItem) (first count k : ℕ) (rest : List RealItem) → In k (procedures xs)
    → HasMark k (expand_all out first count xs ++ rest)
mark_stands out [] first count k rest h = absurd h
mark_stands out (Procedure i f c ∷ xs) first count k rest (inl e) = inl (sym e)
mark_stands out (Procedure i f c ∷ xs) first count k rest (inr h) =
    subst (HasMark k) (sym (append_assoc (expand out first count (Procedure i f c)) (expand_all out f c xs) rest))
    (mark_behind k (expand out first count (Procedure i f c)) (expand_all out f c xs ++ rest)
    (mark_stands out xs f c k rest h))
mark_stands out (x ∷ xs) first count k rest h =
    subst (HasMark k) (sym (append_assoc (expand out first count x) (expand_all out first count xs) rest))
    (mark_behind k (expand out first count x) (expand_all out first count xs ++ rest)
    (mark_stands out xs first count k rest h))

-- the first mark of a number, told the place of the first of some items: where an item that isn't a mark comes next, it
-- has that item's address
record FirstMark (address : ℕ → ℕ) (k place : ℕ) (xs : List RealItem) : Type 0 where
  pub at : ℕ
  pub is : slice_get xs at ≡ Some (RealMark k)
  pub finds : (x : RealItem) → slice_get xs (suc at) ≡ Some x → is_mark x ≡ false
      → mark_from address k place xs ≡ Some (address (suc (place + at)))

next_address : (address : ℕ → ℕ) (place : ℕ) (xs : List RealItem) (x : RealItem) → slice_get xs 0 ≡ Some x
    → is_mark x ≡ false → address_from address place xs ≡ Some (address place)
next_address address place [] x e real = absurd (let f : ⊥ = cc in f)
next_address address place (RealMark m ∷ xs) x e real =
    let same : RealMark m ≡ x = cc in absurd (let f : ⊥ = marks_are m x same real in f)
  where
    marks_are : (m : ℕ) (x : RealItem) → RealMark m ≡ x → is_mark x ≡ false → ⊥
    marks_are m x same real =
        let yes : is_mark (RealMark m) ≡ false = subst (λ y. is_mark y ≡ false) (sym same) real in cc
next_address address place (y ∷ xs) x e real = refl

first_mark : (address : ℕ → ℕ) (k place : ℕ) (xs : List RealItem) → HasMark k xs → FirstMark address k place xs
first_mark address k place [] h = absurd h
first_mark address k place (RealMark m ∷ xs) h = pick (m == k) refl (λ i. first_mark address k (suc place) xs i)
  where
    -- behind another mark
    behind : (m == k) ≡ false → FirstMark address k (suc place) xs → FirstMark address k place (RealMark m ∷ xs)
    behind e f = record {
      at = suc f.at;
      is = f.is;
      finds = λ x there real.
          ap (λ b. if b then address_from address (suc place) xs else mark_from address k (suc place) xs) e
          ∙ (f.finds x there real ∙ ap (λ n. Some (address n)) (omega arith));
    }

    pick : (b : Bool) → (m == k) ≡ b → (HasMark k xs → FirstMark address k (suc place) xs)
        → FirstMark address k place (RealMark m ∷ xs)
    pick true e go = record {
      at = 0;
      is = (let same : m ≡ k = grind (arith, e) in ap (λ n. Some (RealMark n)) same);
      finds = λ x there real.
          ap (λ b. if b then address_from address (suc place) xs else mark_from address k (suc place) xs) e
          ∙ (next_address address (suc place) xs x there real ∙ ap (λ n. Some (address n)) (omega arith));
    }
    pick false e go = behind e (go (⊎_elim (λ same. absurd (let f : ⊥ = grind (arith, e, same) in f)) (λ i. i) h))
first_mark address k place (x ∷ xs) h =
    let f = first_mark address k (suc place) xs h in
    record {
      at = suc f.at;
      is = f.is;
      finds = λ y there real. f.finds y there real ∙ ap (λ n. Some (address n)) (omega arith);
    }

-- ---- their addresses

-- an item that isn't a mark stands right behind the mark, at the mark's address
record Begins (code : List RealItem) (address : ℕ → ℕ) (k : ℕ) : Type 0 where
  pub at : ℕ
  pub mark : slice_get code at ≡ Some (RealMark k)
  pub item : RealItem
  pub next : slice_get code (suc at) ≡ Some item
  pub real : is_mark item ≡ false
  pub is_address : mark_address address code k ≡ Some (address (suc at))

some_is : (a b : ℕ) → Some a ≡ Some b → a ≡ b
some_is a b e = cc

mark_is : (j k : ℕ) → Some (RealMark j) ≡ Some (RealMark k) → j ≡ k
mark_is j k e = cc

suc_is : (a b : ℕ) → suc a ≡ suc b → a ≡ b
suc_is a b e = cc

from_first : (at : ℕ) → suc (0 + at) ≡ suc at
from_first at = omega arith

module _ (procs : List Proc) (entry : ℕ) (statics : List ℕ) (registers : ℕ) (places : List Place)
    (addresses : AreAddresses (words_code places procs entry) (item_address (words_code places procs entry) statics))
    (selected : IsCodeOf (select_items entry procs) registers procs entry)
    (applied : IsApplied (place_in places) (select_items entry procs) (words_code places procs entry)) where
  abbrev items : List VirtualItem
  items = select_items entry procs

  abbrev others : List VirtualItem
  others = renamed (densely (place_in places)) items

  abbrev code : List RealItem
  code = words_code places procs entry

  abbrev address : ℕ → ℕ
  address = item_address code statics

  begins : (k : ℕ) → k < length procs → Begins code address k
  begins k h =
      let here : In k (procedures items) =
      subst (In k) (sym selected.order) (numbered (length procs) 0 k (omega arith) (omega (arith, h))) in
      let v = stands items k here in
      let renamed_here : In k (procedures others) =
      subst (In k) (sym (same_procedures (densely (place_in places)) 0 0 items)) here in
      let m = first_mark address k 0 code
      (mark_stands (free_mark others) others 0 0 k (final_items (free_mark others)) renamed_here) in
      let x = applied.begins selected.well_formed v.place k v.first v.count m.at v.is m.is in
      record {
        at = m.at;
        mark = m.is;
        item = x.0;
        next = x.1;
        real = x.2;
        is_address = m.finds x.0 x.1 x.2 ∙ ap (λ n. Some (address n)) (from_first m.at);
      }

  apart : (j k : ℕ) (a : Begins code address j) (b : Begins code address k)
      → address (suc a.at) ≡ address (suc b.at) → j ≡ k
  apart j k a b e =
      let same = suc_is a.at b.at
      (addresses.distinct (suc a.at) (suc b.at) a.item b.item a.next b.next a.real b.real e) in
      mark_is j k (sym a.mark ∙ (ap (λ n. slice_get code n) same ∙ b.mark))

  pub have_addresses : HaveAddresses code statics (length procs)
  have_addresses = record {
    there = λ k h. (address (suc (begins k h).at), (begins k h).is_address, addresses.small (suc (begins k h).at));
    apart = λ j k at g h e f.
        apart j k (begins j g) (begins k h)
        (some_is (address (suc (begins j g).at)) (address (suc (begins k h).at))
        (sym (begins j g).is_address ∙ (e ∙ (sym f ∙ (begins k h).is_address))));
  }
