-- An item that is renamed costs no more, wherever its step doesn't go wrong.
use Rattle.std.proofs.Common.{ℕ, ◌-◌, ◌≤◌, ◌≡◌, Bool, true, false, List, [], ◌∷◌, Option, Some, None}
use Rattle.std.proofs.Common.{refl, sym, subst, arith}
use Rattle.std.specs.Prelude.{nat_lt, if◌then◌else◌, slice_get, pos}
use Rattle.run_laws.specs.Runs.{Ending, Verdict, Exhausted, Wrong}
use Rattle.run_laws.specs.Machines.{Next, Go, Stop, UnlessWrong}
use Rattle.rv_machine.specs.Registers.{Registers}
use Rattle.low_ir.specs.Steps.{Locals, given, only_if}
use Rattle.low_ir.specs.Prices.{slot_price, entering}
use Rattle.rv_select.specs.declared.code.VReg.{VReg}
use Rattle.rv_select.specs.declared.code.VReg.TheVariants.{Real, Virtual}
use Rattle.rv_select.specs.declared.code.Place.{Place}
use Rattle.rv_select.specs.declared.code.Place.TheVariants.{InReg, Slot}
use Rattle.rv_select.specs.declared.code.VirtualItem.{VirtualItem}
use Rattle.rv_select.specs.declared.code.VirtualItem.TheVariants.{Constant, Move, Compute, ComputeWith, Load, Store}
use Rattle.rv_select.specs.declared.code.VirtualItem.TheVariants.{CodeOf, Mark, Procedure, Jump, Branch, Call, CallAt}
use Rattle.rv_select.specs.declared.code.VirtualItem.TheVariants.{TailCall, TailCallAt, Return, Environment}
use Rattle.rv_select.specs.Run.{Found, Frame, VirtualState, may_write, is_own, value, puts, framed, item_step}
use Rattle.rv_select.specs.Run.{fits_item, enter, waits, step_here, procedure_from}
use Rattle.low_ir.specs.Operations.{compute}
use Rattle.low_ir.specs.Steps.{may_load}
use Rattle.machine_words.specs.Memory.{load_bytes}
use Rattle.machine_words.specs.Arithmetic.{plus}
use Rattle.rv_select.specs.Prices.{register_price, giving_up, entering_found, item_price, some_price, virtual_price}
use Rattle.placed_code.specs.Rename.{named, name, rename, with_slots}
use Rattle.placed_code.proofs.Names.{OwnOr}
use Rattle.placed_code.proofs.Renaming.{Pass, items, items', setting', image, Facts, Related, number_walk, own_of}
use Rattle.placed_code.proofs.Renaming.{code_next}

-- ---- what is nearer, and what has fewer registers, costs no more

-- what is cheaper within a limit costs no more where it is nearer
pub near_less : (limit a b near far near' far' : ℕ) → a ≤ b → near ≤ near' → near ≤ far' → far ≤ far'
    → (if nat_lt a limit then near else far) ≤ (if nat_lt b limit then near' else far')
near_less limit a b near far near' far' h both apart beyond = pick (nat_lt a limit) (nat_lt b limit) refl refl
  where
    pick : (c d : Bool) → nat_lt a limit ≡ c → nat_lt b limit ≡ d
        → (if c then near else far) ≤ (if d then near' else far')
    pick true true e f = both
    pick true false e f = apart
    pick false false e f = beyond
    pick false true e f = absurd (let z : ⊥ = grind arith in z)

slot_less : (a b : ℕ) → a ≤ b → slot_price a ≤ slot_price b
slot_less a b h = near_less 255 a b 1 13 1 13 h (omega arith) (omega arith) (omega arith)

entering_less : (a b : ℕ) → a ≤ b → entering a ≤ entering b
entering_less a b h = near_less 255 a b 15 25 15 25 h (omega arith) (omega arith) (omega arith)

giving_up_less : (a b : ℕ) → a ≤ b → giving_up a ≤ giving_up b
giving_up_less a b h = near_less 255 a b 2 13 2 13 h (omega arith) (omega arith) (omega arith)

module _ {V : Type 0} (w : Pass V) where
  -- a claim wherever a step doesn't go wrong
  abbrev pub IfRight : Next VirtualState V → Type 0 → Type 0
  IfRight (Go t) P = P
  IfRight (Stop e t) P = UnlessWrong e P

  module _ (t : VirtualState) (l : Locals) (gs : List Frame) (regs : Registers) (known : ℕ → Bool)
      (facts : Facts w t l gs regs known) (P : Type 0) where
    abbrev f : Found
    f = t.active.found

    unless : (e : Ending V) → P → UnlessWrong e P
    unless (Verdict v) p = p
    unless Exhausted p = p
    unless Wrong p = tt

    always : (y : Next VirtualState V) → P → IfRight y P
    always (Go t1) p = p
    always (Stop e t1) p = unless e p

    if_given : {A : Type 0} (t0 : VirtualState) (o : Option A) (g : A → Next VirtualState V)
        → ((x : A) → o ≡ Some x → IfRight (g x) P) → IfRight (given t0 o g) P
    if_given t0 None g h = tt
    if_given t0 (Some x) g h = h x refl

    if_test : (t0 : VirtualState) (c : Bool) (y : Next VirtualState V) → (c ≡ true → IfRight y P)
        → IfRight (only_if t0 c y) P
    if_test t0 true y h = h refl
    if_test t0 false y h = tt

    if_read : (a : VReg) (g : ℕ → Next VirtualState V) → ((x : ℕ) → OwnOr f a → IfRight (g x) P)
        → IfRight (given t (value t a) g) P
    if_read a g h = if_given t (value t a) g (λ x e. h x (own_of w t l gs regs known facts a x e))

    if_put : (rd : VReg) (word : ℕ) → (OwnOr f rd → P) → IfRight (puts w.reading w.setting rd word t) P
    if_put (Real r) word h = if_test t (may_write r) _ (λ e. h tt)
    if_put (Virtual v) word h = if_test t (is_own f v) _ (λ e. h e)

    if_framed : (fs : List Frame) (y : Next VirtualState V) → IfRight y P
        → IfRight (framed w.reading w.setting fs t y) P
    if_framed [] y h = tt
    if_framed (g ∷ fs) y h = h

  module _ (t : VirtualState) (l : Locals) (gs : List Frame) (regs : Registers) (known : ℕ → Bool)
      (facts : Facts w t l gs regs known) where
    abbrev own_found : Found
    own_found = t.active.found

    abbrev at : VReg → VReg
    at a = name w.naming own_found.first own_found.count a

    -- ---- registers

    near_kept : (v : ℕ) → is_own own_found v ≡ true → (p : Place) → w.naming.place v ≡ p
        → register_price own_found.first (named (w.naming.number own_found.first own_found.count) p)
        ≤ slot_price (v - own_found.first)
    near_kept v own (InReg r) e = omega arith
    near_kept v own (Slot i) e =
        slot_less (w.naming.number own_found.first own_found.count i - own_found.first) (v - own_found.first)
        (w.is.near own_found v i own e)

    near : (a : VReg) → OwnOr own_found a
        → register_price own_found.first (at a) ≤ register_price own_found.first a
    near (Real r) own = omega arith
    near (Virtual v) own = near_kept v own (w.naming.place v) refl

    -- ---- items

    abbrev Less : VirtualItem → Type 0
    Less item = item_price (setting' w) (with_slots w.naming own_found) (rename at item)
        ≤ item_price w.setting own_found item

    abbrev Pays : VirtualItem → Type 0
    Pays item = IfRight (item_step w.reading w.setting item t) (Less item)

    left_less : giving_up (w.naming.slots own_found.first own_found.count) ≤ giving_up own_found.count
    left_less = giving_up_less _ _ (w.is.few own_found.first own_found.count)

    -- what is entered by its number
    entered_less : (k : ℕ) (g : Found) → procedure_from k 0 (items w) ≡ Some g
        → entering_found (procedure_from k 0 (items' w)) ≤ entering_found (procedure_from k 0 (items w))
    entered_less k g e =
        let renamed = (number_walk w (items w) k 0 0 0 g refl refl e).0 in
        subst (λ o. entering_found o ≤ entering_found (procedure_from k 0 (items w))) (sym renamed)
        (subst (λ o. entering_found (Some (with_slots w.naming g)) ≤ entering_found o) (sym e)
        (entering_less _ _ (w.is.few g.first g.count)))

    pays : (item : VirtualItem) → Pays item
    pays (Constant rd word) =
        if_put t l gs regs known facts (Less (Constant rd word)) rd _ (λ o. let d = near rd o in omega (arith, d))
    pays (Move rd a) =
        if_read t l gs regs known facts (Less (Move rd a)) a _ (λ x m.
        if_put t l gs regs known facts (Less (Move rd a)) rd x (λ o.
        let d = near rd o in let b = near a m in omega (arith, d, b)))
    pays (Compute op rd a b) =
        if_read t l gs regs known facts (Less (Compute op rd a b)) a _ (λ x m.
        if_read t l gs regs known facts (Less (Compute op rd a b)) b _ (λ y n.
        if_put t l gs regs known facts (Less (Compute op rd a b)) rd _ (λ o.
        let d = near rd o in let c = near a m in let e = near b n in omega (arith, d, c, e))))
    pays (ComputeWith op rd a n) =
        if_read t l gs regs known facts (Less (ComputeWith op rd a n)) a _ (λ x m.
        if_test t l gs regs known facts (Less (ComputeWith op rd a n)) t (fits_item op n)
        (puts w.reading w.setting rd (compute op x n) t) (λ fits.
        if_put t l gs regs known facts (Less (ComputeWith op rd a n)) rd (compute op x n) (λ o.
        let d = near rd o in let c = near a m in omega (arith, d, c))))
    pays (Load rd a offset) =
        if_read t l gs regs known facts (Less (Load rd a offset)) a _ (λ x m.
        let from : ℕ = plus x (pos offset) in
        if_test t l gs regs known facts (Less (Load rd a offset)) t (may_load w.setting.top from)
        (puts w.reading w.setting rd (load_bytes 8 t.memory from) t) (λ may.
        if_put t l gs regs known facts (Less (Load rd a offset)) rd (load_bytes 8 t.memory from) (λ o.
        let d = near rd o in let c = near a m in omega (arith, d, c))))
    pays (Store b a offset) =
        if_read t l gs regs known facts (Less (Store b a offset)) a _ (λ x m.
        if_read t l gs regs known facts (Less (Store b a offset)) b _ (λ y n.
        always t l gs regs known facts (Less (Store b a offset)) _
        (let c = near a m in let e = near b n in omega (arith, c, e))))
    pays (CodeOf rd k) =
        if_given t l gs regs known facts (Less (CodeOf rd k)) t (procedure_from k 0 (items w))
        (λ g. puts w.reading w.setting rd (w.setting.address k) t) (λ g e.
        if_put t l gs regs known facts (Less (CodeOf rd k)) rd (w.setting.address k) (λ o.
        let d = near rd o in omega (arith, d)))
    pays (Mark mark) = omega arith
    pays (Procedure k first count) = tt
    pays (Jump mark) = always t l gs regs known facts (Less (Jump mark)) _ (omega arith)
    pays (Branch cond a b mark) =
        if_read t l gs regs known facts (Less (Branch cond a b mark)) a _ (λ x m.
        if_read t l gs regs known facts (Less (Branch cond a b mark)) b _ (λ y n.
        always t l gs regs known facts (Less (Branch cond a b mark)) _
        (let c = near a m in let e = near b n in omega (arith, c, e))))
    pays (Call k n) =
        if_given t l gs regs known facts (Less (Call k n)) t (procedure_from k 0 (items w))
        (enter w.reading w.setting n (waits w.reading w.setting t)) (λ g e.
        let d = entered_less k g e in omega (arith, d))
    pays (CallAt a n) =
        if_read t l gs regs known facts (Less (CallAt a n)) a _ (λ x m.
        always t l gs regs known facts (Less (CallAt a n)) _ (let c = near a m in omega (arith, c)))
    pays (TailCall k n) =
        if_framed t l gs regs known facts (Less (TailCall k n)) t.frames _ (
        if_given t l gs regs known facts (Less (TailCall k n)) t (procedure_from k 0 (items w))
        (enter w.reading w.setting n t) (λ g e.
        let d = entered_less k g e in let up = left_less in omega (arith, d, up)))
    pays (TailCallAt a n) =
        if_framed t l gs regs known facts (Less (TailCallAt a n)) t.frames _ (
        if_read t l gs regs known facts (Less (TailCallAt a n)) a _ (λ x m.
        always t l gs regs known facts (Less (TailCallAt a n)) _
        (let c = near a m in let up = left_less in omega (arith, c, up))))
    pays Return =
        always t l gs regs known facts (Less Return) _ (let up = left_less in omega (arith, up))
    pays Environment = always t l gs regs known facts (Less Environment) _ (omega arith)

    abbrev u : VirtualState
    u = image w t l gs regs known

    pays_here : (o : Option VirtualItem) → slice_get (items w) t.pc ≡ o
        → IfRight (step_here w.reading w.setting o t)
        (some_price (setting' w) (with_slots w.naming own_found) (slice_get (items' w) t.pc)
        ≤ some_price w.setting own_found o)
    pays_here None e = tt
    pays_here (Some (Procedure k first count)) e = tt
    pays_here (Some item) e =
        subst (λ o. IfRight (step_here w.reading w.setting (Some item) t)
        (some_price (setting' w) (with_slots w.naming own_found) o ≤ some_price w.setting own_found (Some item)))
        (sym (code_next w t l gs regs known facts item e tt).0) (pays item)

    pub pays_step : IfRight (step_here w.reading w.setting (slice_get (items w) t.pc) t)
        (virtual_price (setting' w) u ≤ virtual_price w.setting t)
    pays_step = pays_here (slice_get (items w) t.pc) refl

  pub renamed_pays : (t u : VirtualState) → Related w t u
      → IfRight (step_here w.reading w.setting (slice_get (items w) t.pc) t)
      (virtual_price (setting' w) u ≤ virtual_price w.setting t)
  renamed_pays t u r =
      subst (λ z. IfRight (step_here w.reading w.setting (slice_get (items w) t.pc) t)
      (virtual_price (setting' w) z ≤ virtual_price w.setting t)) (sym r.4)
      (pays_step t r.0 r.1 r.2 r.3 r.5)
