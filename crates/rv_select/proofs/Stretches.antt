-- Steps of virtual code, item by item.
use Rattle.std.proofs.Common.{ℕ, suc, ◌+◌, ◌≤◌, ◌≡◌, true, Bool, List, [], ◌∷◌, ◌++◌, Option, Some, refl, sym, ◌∙◌}
use Rattle.std.proofs.Common.{ap, subst, arith}
use Rattle.std.specs.Prelude.{slice_get, length}
use Rattle.run_laws.specs.Runs.{Ending}
use Rattle.run_laws.specs.Machines.{Next, Go, Onward}
use Rattle.rv_machine.specs.Registers.{Registers, set_reg}
use Rattle.machine_words.specs.Halts.{Halt}
use Rattle.low_ir.specs.Steps.{set_local, given, only_if}
use Rattle.rv_select.specs.declared.convention.TheConstants.{STACK_END, ALLOCATION, REGION_END}
use Rattle.rv_select.specs.declared.code.VReg.{VReg}
use Rattle.rv_select.specs.declared.code.VReg.TheVariants.{Virtual}
use Rattle.rv_select.specs.declared.code.VirtualItem.{VirtualItem}
use Rattle.rv_select.specs.declared.code.VirtualItem.TheVariants.{Move}
use Rattle.rv_select.specs.Run.{Setting, Found, VirtualState, also_known, is_own, value}
use Rattle.rv_select.specs.Run.{puts, item_step, step_here, virtual_machine}
use Rattle.rv_select.specs.Prices.{item_price, some_price, virtual_price}
use Rattle.rv_select.proofs.Paying.{Pays}

-- the states after a register was written
abbrev pub wrote_real : ℕ → ℕ → VirtualState → VirtualState
wrote_real r word t = record t { regs = set_reg r word t.regs; known = also_known r t.known; pc = suc t.pc }

-- or a virtual one
abbrev pub wrote_local : ℕ → ℕ → VirtualState → VirtualState
wrote_local v word t = record t {
  active = record t.active { locals = set_local v word t.active.locals };
  pc =
      suc t.pc;
}

-- the same words stand in x25, x26 and x27, which tell of stack and region
pub record SameFixed (regs old : Registers) : Type 0 where
  pub stack : regs STACK_END ≡ old STACK_END
  pub alloc : regs ALLOCATION ≡ old ALLOCATION
  pub top : regs REGION_END ≡ old REGION_END

-- they are the same as themselves
pub fixed_self : (regs : Registers) → SameFixed regs regs
fixed_self regs = record { stack = refl; alloc = refl; top = refl }

-- and as those before
pub also_fixed : {a b c : Registers} → SameFixed a b → SameFixed b c → SameFixed a c
also_fixed h k = record { stack = h.stack ∙ k.stack; alloc = h.alloc ∙ k.alloc; top = h.top ∙ k.top }

-- the place behind some items
abbrev pub beyond : List VirtualItem → ℕ → ℕ
beyond [] p = p
beyond (x ∷ xs) p = beyond xs (suc p)

-- behind two stretches
pub beyond_append : (xs ys : List VirtualItem) (p : ℕ) → beyond (xs ++ ys) p ≡ beyond ys (beyond xs p)
beyond_append [] ys p = refl
beyond_append (x ∷ xs) ys p = beyond_append xs ys (suc p)

module _ {V : Type 0} (reading : Halt → Ending V) (setting : Setting) where
  -- these items stand at this place
  abbrev pub Stands : ℕ → List VirtualItem → Type 0
  Stands p [] = Unit {0}
  Stands p (x ∷ xs) = (slice_get setting.items p ≡ Some x) × Stands (suc p) xs

  -- the first of these items stand here
  pub stands_front : (xs ys : List VirtualItem) (p : ℕ) → Stands p (xs ++ ys) → Stands p xs
  stands_front [] ys p h = tt
  stands_front (x ∷ xs) ys p h = (h.0, stands_front xs ys (suc p) h.1)

  -- and the others behind them
  pub stands_past : (xs ys : List VirtualItem) (p : ℕ) → Stands p (xs ++ ys) → Stands (beyond xs p) ys
  stands_past [] ys p h = h
  stands_past (x ∷ xs) ys p h = stands_past xs ys (suc p) h.1

  -- a way in which each item has its price
  abbrev pub PaidWay : (VirtualState → Type 0) → (ℕ → VirtualState → Type 0) → ℕ → ℕ → VirtualState → Type 0
  PaidWay = Pays (virtual_machine reading setting) (virtual_price setting)

  -- the price of a state is that of the item that stands here
  pub price_here : (t : VirtualState) (item : VirtualItem) → slice_get setting.items t.pc ≡ Some item
      → virtual_price setting t ≡ item_price setting t.active.found item
  price_here t item here = ap (λ o. some_price setting t.active.found o) here

  as_much : (a b left : ℕ) → a ≡ b → a + left ≤ b + left
  as_much a b left e = omega (arith, e)

  module _ (P : VirtualState → Type 0) (Q : ℕ → VirtualState → Type 0) where
    -- one step, known by what the item that stands here does, at the item's price
    pub does_item : (k left : ℕ) (t t1 : VirtualState) (item : VirtualItem)
        → slice_get setting.items t.pc ≡ Some item → item_step reading setting item t ≡ Go t1 → P t
        → PaidWay P Q k left t1 → PaidWay P Q (suc k) (item_price setting t.active.found item + left) t
    does_item k left t t1 item here e p r = (
      p,
      left,
      as_much (virtual_price setting t) (item_price setting t.active.found item) left (price_here t item here),
      subst (λ y. Onward y P (PaidWay P Q k left)) (sym (ap (λ o. step_here reading setting o t) here ∙ e)) r,
    )

  -- a word is put into a virtual register
  pub write_local : (t : VirtualState) (v word : ℕ) → is_own t.active.found v ≡ true
      → puts reading setting (Virtual v) word t ≡ Go (wrote_local v word t)
  write_local t v word h = ap (λ b. only_if t b (Go (wrote_local v word t))) h

  -- an item that puts a word which is known by equations of what it reads
  pub move_local : (t : VirtualState) (v : ℕ) (from : VReg) (word : ℕ) → value t from ≡ Some word
      → is_own t.active.found v ≡ true → item_step reading setting (Move (Virtual v) from) t ≡ Go (wrote_local v word t)
  move_local t v from word e h = ap (λ o. given t o (λ x. puts reading setting (Virtual v) x t)) e
      ∙ write_local t v word h

-- what a test or a value that is there leads to
pub given_is : {S V A : Type 0} (s : S) (o : Option A) (x : A) (f : A → Next S V) → o ≡ Some x → given s o f ≡ f x
given_is s o x f e = ap (λ p. given s p f) e

-- where a test holds
pub only_is : {S V : Type 0} (s : S) (b : Bool) (y : Next S V) → b ≡ true → only_if s b y ≡ y
only_is s b y e = ap (λ c. only_if s c y) e

-- the prices of items of a procedure, and what is paid behind them
abbrev pub prices : Setting → Found → List VirtualItem → ℕ → ℕ
prices setting f [] left = left
prices setting f (x ∷ xs) left = item_price setting f x + prices setting f xs left

-- so many steps more, one for each element
abbrev pub more : {A : Type 0} → List A → ℕ → ℕ
more [] k = k
more (x ∷ xs) k = suc (more xs k)

-- which is their number
pub more_is : {A : Type 0} (xs : List A) (k : ℕ) → more xs k ≡ length xs + k
more_is [] k = let e : k ≡ 0 + k = omega arith in e
more_is (x ∷ xs) k = let i : more xs k ≡ length xs + k = more_is xs k in
    let e : suc (length xs + k) ≡ suc (length xs) + k = omega arith in ap suc i ∙ e
