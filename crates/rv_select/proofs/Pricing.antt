-- What pieces of selected code cost, against the prices of steps over words.
use Rattle.std.proofs.Common.{ℕ, zero, suc, ◌+◌, ◌-◌, ◌*◌, ◌%◌, ◌^◌, ◌<◌, ◌≤◌, ◌≡◌, List, [], ◌∷◌, ◌++◌}
use Rattle.std.proofs.Common.{refl, ap, arith}
use Rattle.std.specs.Prelude.{length}
use Rattle.low_ir.specs.declared.code.LowSource.{LowSource}
use Rattle.low_ir.specs.declared.code.LowSource.TheVariants.{Word, Number}
use Rattle.low_ir.specs.Prices.{slot_price, source_price, sources_price, entering, leaving}
use Rattle.rv_select.specs.declared.convention.TheConstants.{FIRST_SCRATCH, FIRST_ARGUMENT, ALLOCATION}
use Rattle.rv_select.specs.declared.code.VReg.{VReg}
use Rattle.rv_select.specs.declared.code.VReg.TheVariants.{Real, Virtual}
use Rattle.rv_select.specs.declared.code.VirtualItem.{VirtualItem}
use Rattle.rv_select.specs.declared.code.VirtualItem.TheVariants.{Store}
use Rattle.rv_select.specs.Run.{Setting, Found}
use Rattle.rv_select.specs.Select.{put_item, source_reg, source_items, args_items, params_items, stores_items}
use Rattle.rv_select.specs.Prices.{register_price, number_price, giving_up, item_price}
use Rattle.rv_select.proofs.Stretches.{prices}

-- a register of a procedure costs as much as its word
pub own_slot : (first i : ℕ) → register_price first (Virtual (first + i)) ≡ slot_price i
own_slot first i = let e : first + i - first ≡ i = omega arith in ap slot_price e

-- a number costs no more as an item than as a source
pub number_paid : (n : ℕ) → number_price (n % 2 ^ 64) + 1 ≤ source_price (Number n)
number_paid n = grind arith

pub few_bytes : (n : ℕ) → n < 256 → number_price (8 * n % 2 ^ 64) ≡ 1
few_bytes n h = grind arith

pub near_slot : (i : ℕ) → i < 8 → slot_price i ≡ 1
near_slot i h = grind arith

pub leaving_paid : (n : ℕ) → giving_up n ≤ leaving n
leaving_paid n = grind arith

pub entering_most : (n : ℕ) → entering n ≤ 25
entering_most n = grind arith

module _ (setting : Setting) (f : Found) where
  -- one part behind another
  pub prices_append : (xs ys : List VirtualItem) (left : ℕ)
      → prices setting f (xs ++ ys) left ≡ prices setting f xs (prices setting f ys left)
  prices_append [] ys left = refl
  prices_append (x ∷ xs) ys left = ap (λ n. item_price setting f x + n) (prices_append xs ys left)

  -- what puts a source into a register, and the item that reads it there
  pub source_paid : (r : ℕ) (a : LowSource) (left : ℕ)
      → prices setting f (source_items r a) left + register_price f.first (source_reg f.first r a)
      ≤ source_price a + left
  source_paid r (Word i) left = let e = own_slot f.first i in omega (arith, e)
  source_paid r (Number zero) left = omega arith
  source_paid r (Number (suc n)) left = let e = number_paid (suc n) in omega (arith, e)

  -- a source is put into a register
  pub put_paid : (rd : VReg) (a : LowSource)
      → item_price setting f (put_item f.first rd a) ≤ source_price a + 1 + register_price f.first rd
  put_paid rd (Word i) = let e = own_slot f.first i in omega (arith, e)
  put_paid rd (Number n) = let e = number_paid n in omega (arith, e)

  -- words are handed on, each with two to spare
  pub args_paid : (args : List LowSource) (from left : ℕ)
      → prices setting f (args_items f.first from args) left + 2 * length args ≤ sources_price args + left
  args_paid [] from left = omega arith
  args_paid (a ∷ args) from left =
      let i = args_paid args (suc from) left in
      let p = put_paid (Real (FIRST_ARGUMENT + from)) a in omega (arith, i, p)

  -- for which the procedure takes them
  pub params_paid : (n from left : ℕ) → from + n ≤ 8
      → prices setting f (params_items f.first from n) left ≡ 2 * n + left
  params_paid zero from left h = omega arith
  params_paid (suc n) from left h =
      let i = params_paid n (suc from) left (omega (arith, h)) in
      let e = own_slot f.first from in
      let s = near_slot from (omega (arith, h)) in omega (arith, i, e, s)

  -- words are stored into an object
  pub stores_paid : (args : List LowSource) (offset left : ℕ)
      → prices setting f (stores_items f.first offset args) left ≤ sources_price args + left
  stores_paid [] offset left = omega arith
  stores_paid (a ∷ args) offset left =
      let later : List VirtualItem = stores_items f.first (offset + 8) args in
      let item : VirtualItem = Store (source_reg f.first FIRST_SCRATCH a) (Real ALLOCATION) offset in
      let e = prices_append (source_items FIRST_SCRATCH a) (item ∷ later) left in
      let p = source_paid FIRST_SCRATCH a (item_price setting f item + prices setting f later left) in
      let i = stores_paid args (offset + 8) left in omega (arith, e, p, i)
