-- What slots and frames cost.
use Rattle.std.proofs.Common.{ℕ, suc, ◌+◌, ◌-◌, ◌≤◌, ◌≡◌, Bool, true, false, refl, ap, arith}
use Rattle.std.specs.Prelude.{nat_lt, if◌then◌else◌}
use Rattle.low_ir.specs.Prices.{slot_price, entering}
use Rattle.rv_select.specs.Prices.{number_price, giving_up}
use Rattle.rv_select.specs.Stacks.{frame_size}
use Rattle.placed_code.specs.Slots.{slot_offset}

pub one_slot : (i : ℕ) → 1 ≤ slot_price i
one_slot i = pick (nat_lt i 255)
  where
    pick : (c : Bool) → 1 ≤ (if c then 1 else 13)
    pick true = omega arith
    pick false = omega arith

-- a slot that no offset reaches
pub far_slot : (first v : ℕ) → nat_lt (slot_offset first v) 2048 ≡ false → slot_price (v - first) ≡ 13
far_slot first v h =
    let far : nat_lt (v - first) 255 ≡ false = grind arith in ap (λ (c : Bool). if c then 1 else 13) far

-- a frame is made, told the price of its size
pub made_for : (count : ℕ) → number_price (frame_size count) + 14 ≡ entering count
made_for count = pick (nat_lt (frame_size count) 2048) (nat_lt count 255) refl refl
  where
    pick : (c d : Bool) → nat_lt (frame_size count) 2048 ≡ c → nat_lt count 255 ≡ d
        → (if c then 1 else 11) + 14 ≡ (if d then 15 else 25)
    pick true true e f = refl
    pick false false e f = refl
    pick true false e f = absurd (let z : ⊥ = grind arith in z)
    pick false true e f = absurd (let z : ⊥ = grind arith in z)

pub entering_most : (count : ℕ) → entering count ≤ 25
entering_most count = pick (nat_lt count 255)
  where
    pick : (c : Bool) → (if c then 15 else 25) ≤ 25
    pick true = omega arith
    pick false = omega arith

-- and given up: the link is loaded, and x2 is raised by one instruction or by a number and a sum
pub given_up_for : (count : ℕ) → suc (if nat_lt (frame_size count) 2048 then 1 else 12) ≡ giving_up count
given_up_for count = pick (nat_lt (frame_size count) 2048) (nat_lt count 255) refl refl
  where
    pick : (c d : Bool) → nat_lt (frame_size count) 2048 ≡ c → nat_lt count 255 ≡ d
        → suc (if c then 1 else 12) ≡ (if d then 2 else 13)
    pick true true e f = refl
    pick false false e f = refl
    pick true false e f = absurd (let z : ⊥ = grind arith in z)
    pick false true e f = absurd (let z : ⊥ = grind arith in z)
