-- Where each item has no more words, no two places are farther apart.
use Rattle.std.proofs.Common.{ℕ, zero, suc, ◌+◌, ◌-◌, ◌*◌, ◌<◌, ◌≤◌, ◌≡◌, refl, arith, Bool, true, false, List, [], ◌∷◌}
use Rattle.std.proofs.Common.{take}
use Rattle.std.specs.Prelude.{nat_lt, nat_le, pos, negsuc, if◌then◌else◌}
use Rattle.std.proofs.Math.Logic.{⊎_elim}
use Rattle.std.proofs.lemmas.Bool.{cases_lt}
use Rattle.rv_isa.specs.Bits.{IsIn, IsEven}
use Rattle.rv_machine.specs.declared.real.RealItem.{RealItem}
use Rattle.rv_machine.specs.declared.real.RealItem.TheVariants.{Op, Mark, Jump, Branch, Address}
use Rattle.assembler.specs.Layout.{width, words_before, distance, is_near, widths_from, longest_widths, widths}
use Rattle.assembler.specs.Layout.{mark_place, address_of}
use Rattle.assembler.specs.Expansion.{offset, target_of}
use Rattle.assembler.specs.Tables.{Fits}
use Rattle.assembler.proofs.Sums.{sum_cons}

-- as many widths, and none larger
abbrev pub AreNarrower : List ℕ → List ℕ → Type 0
AreNarrower [] [] = Unit {0}
AreNarrower [] (v ∷ vs) = ⊥
AreNarrower (w ∷ ws) [] = ⊥
AreNarrower (w ∷ ws) (v ∷ vs) = (w ≤ v) × AreNarrower ws vs

-- from one place to a later one
pub grows : (ws : List ℕ) (p q : ℕ) → p ≤ q → words_before ws p ≤ words_before ws q
grows [] zero zero h = omega arith
grows [] zero (suc q) h = omega arith
grows [] (suc p) zero h = omega arith
grows [] (suc p) (suc q) h = omega arith
grows (w ∷ ws) zero q h = omega arith
grows (w ∷ ws) (suc p) zero h = absurd (omega arith)
grows (w ∷ ws) (suc p) (suc q) h =
    omega (arith, sum_cons w (take p ws), sum_cons w (take q ws), grows ws p q (omega arith))

pub narrower : (ws vs : List ℕ) (p q : ℕ) → AreNarrower ws vs → p ≤ q
    → words_before ws q + words_before vs p ≤ words_before vs q + words_before ws p
narrower [] [] zero zero n h = omega arith
narrower [] [] zero (suc q) n h = omega arith
narrower [] [] (suc p) zero n h = omega arith
narrower [] [] (suc p) (suc q) n h = omega arith
narrower [] (v ∷ vs) p q n h = absurd n
narrower (w ∷ ws) [] p q n h = absurd n
narrower (w ∷ ws) (v ∷ vs) zero zero n h = omega arith
narrower (w ∷ ws) (v ∷ vs) (suc p) zero n h = absurd (omega arith)
narrower (w ∷ ws) (v ∷ vs) zero (suc q) n h =
    let a = n.0 in
    let b = narrower ws vs zero q n.1 (omega arith) in
    omega (arith, sum_cons w (take q ws), sum_cons v (take q vs))
narrower (w ∷ ws) (v ∷ vs) (suc p) (suc q) n h =
    let b = narrower ws vs p q n.1 (omega arith) in
    omega (arith, sum_cons w (take p ws), sum_cons w (take q ws), sum_cons v (take p vs), sum_cons v (take q vs))

pub nearer : (ws vs : List ℕ) (p q : ℕ) → AreNarrower ws vs
    → distance (words_before ws p) (words_before ws q) ≤ distance (words_before vs p) (words_before vs q)
nearer ws vs p q n = ⊎_elim
    (λ h. let a = narrower ws vs p q n (omega arith) in let b = grows ws p q (omega arith) in omega arith)
    (λ h. let a = narrower ws vs q p n h in let b = grows ws q p h in omega arith)
    (cases_lt p q)

-- ---- the widths of a code

pub no_wider : (near : Bool) (item : RealItem) → width near item ≤ width false item
no_wider true (Op i) = omega arith
no_wider true (Mark mark) = omega arith
no_wider true (Jump rd mark) = omega arith
no_wider true (Branch cond a b mark) = omega arith
no_wider true (Address rd mark) = omega arith
no_wider false (Op i) = omega arith
no_wider false (Mark mark) = omega arith
no_wider false (Jump rd mark) = omega arith
no_wider false (Branch cond a b mark) = omega arith
no_wider false (Address rd mark) = omega arith

narrower_from : (widest : List ℕ) (items : List RealItem) (start place : ℕ) (rest : List RealItem)
    → AreNarrower (widths_from widest items start place rest) (longest_widths rest)
narrower_from widest items start place [] = tt
narrower_from widest items start place (item ∷ rest) =
    (no_wider (is_near widest items start place item) item, narrower_from widest items start (suc place) rest)

pub widths_narrower : (items : List RealItem) (start : ℕ) → AreNarrower (widths items start) (longest_widths items)
widths_narrower items start = narrower_from (longest_widths items) items start 0 items

-- ---- near forms reach

lt_of : (a b : ℕ) → nat_lt a b ≡ true → a < b
lt_of a b h = grind arith

pub offset_fits : (start a b bound : ℕ) → 4 * distance a b < bound
    → IsIn bound (offset (start + 4 * a) (start + 4 * b)) × IsEven (offset (start + 4 * a) (start + 4 * b))
offset_fits start a b bound h = by (nat_le (start + 4 * a) (start + 4 * b)) refl
  where
    by : (ahead : Bool) → nat_le (start + 4 * a) (start + 4 * b) ≡ ahead
        → IsIn bound (if ahead then pos (start + 4 * b - (start + 4 * a)) else negsuc
        (start + 4 * a - suc (start + 4 * b)))
        × IsEven (if ahead then pos (start + 4 * b - (start + 4 * a)) else negsuc (start + 4 * a - suc (start + 4 * b)))
    by true e = let le : start + 4 * a ≤ start + 4 * b = grind arith in (omega arith, omega arith)
    by false e = let gt : start + 4 * b < start + 4 * a = grind arith in (omega arith, omega arith)

reaches : (items : List RealItem) (start p q bound : ℕ)
    → nat_lt (4 * distance (words_before (longest_widths items) p) (words_before (longest_widths items) q)) bound
    ≡ true → IsIn bound (offset (address_of items start p) (address_of items start q))
    × IsEven (offset (address_of items start p) (address_of items start q))
reaches items start p q bound e =
    let n = nearer (widths items start) (longest_widths items) p q (widths_narrower items start) in
    let l = lt_of (4 * distance (words_before (longest_widths items) p) (words_before (longest_widths items) q)) bound
    e in
    offset_fits start (words_before (widths items start) p) (words_before (widths items start) q) bound (omega arith)

pub lies_below : (items : List RealItem) (start q : ℕ)
    → nat_lt (start + 4 * words_before (longest_widths items) q) 2147483648 ≡ true
    → address_of items start q < 2147483648
lies_below items start q e =
    let n : words_before (widths items start) q + 0 ≤ words_before (longest_widths items) q
    + 0 = narrower (widths items start) (longest_widths items) 0 q (widths_narrower items start) (omega arith) in
    let l = lt_of (start + 4 * words_before (longest_widths items) q) 2147483648 e in
    omega arith

chosen_fits : (items : List RealItem) (start place : ℕ) (item : RealItem) (near : Bool)
    → is_near (longest_widths items) items start place item ≡ near
    → Fits near (address_of items start place) (target_of items start item) item
chosen_fits items start place (Op i) true e = tt
chosen_fits items start place (Mark mark) true e = tt
chosen_fits items start place (Jump rd mark) true e = reaches items start place (mark_place mark items) 1048576 e
chosen_fits items start place (Branch cond a b mark) true e = reaches items start place (mark_place mark items) 4096 e
chosen_fits items start place (Address rd mark) true e = lies_below items start (mark_place mark items) e
chosen_fits items start place (Op i) false e = tt
chosen_fits items start place (Mark mark) false e = tt
chosen_fits items start place (Jump rd mark) false e = tt
chosen_fits items start place (Branch cond a b mark) false e = tt
chosen_fits items start place (Address rd mark) false e = tt

-- each item's form can be encoded
pub item_fits : (items : List RealItem) (start place : ℕ) (item : RealItem)
    → Fits (is_near (longest_widths items) items start place item) (address_of items start place)
    (target_of items start item) item
item_fits items start place item =
    chosen_fits items start place item (is_near (longest_widths items) items start place item) refl
