-- The run of a renamed code does each item as the run of the code does.
use Rattle.std.proofs.Common.{ℕ, zero, suc, ◌+◌, ◌%◌, ◌^◌, ◌<◌, ◌≤◌, ◌≡◌, ◌≢◌, ◌⊎◌, inl, inr, Bool, true, false, List}
use Rattle.std.proofs.Common.{[]}
use Rattle.std.proofs.Common.{◌∷◌, Option, Some, None, drop, refl, sym, ◌∙◌, ap, subst, arith}
use Rattle.std.specs.Prelude.{◌==◌, ◌&&◌, ◌||◌, not, nat_lt, nat_le, if◌then◌else◌, length, slice_get, pos}
use Rattle.grift_base.specs.World.{WorldState}
use Rattle.grift_base.specs.EnvironmentCall.{environment_call}
use Rattle.run_laws.specs.Runs.{Ending, Verdict, Exhausted, Wrong}
use Rattle.run_laws.specs.Machines.{Next, Go, Stop, UnlessWrong}
use Rattle.machine_words.specs.Memory.{load_bytes, store_bytes}
use Rattle.rv_machine.specs.Registers.{Registers, get_reg, set_reg}
use Rattle.machine_words.specs.Halts.{Halt}
use Rattle.machine_words.specs.Arithmetic.{plus}
use Rattle.machine_words.specs.Conditions.{holds}
use Rattle.rv_machine.proofs.Public.{drop_next}
use Rattle.machine_words.specs.declared.conditions.Cond.{Cond}
use Rattle.low_ir.specs.declared.code.WordOp.{WordOp}
use Rattle.low_ir.specs.Operations.{compute}
use Rattle.low_ir.specs.Steps.{Locals, no_locals, set_local, given, only_if, Effect, Goes, Halts, Lost, effect_of}
use Rattle.low_ir.specs.Steps.{settle}
use Rattle.low_ir.specs.Steps.{may_load, may_store}
use Rattle.rv_select.specs.declared.code.VReg.{VReg}
use Rattle.rv_select.specs.declared.code.VReg.TheVariants.{Real, Virtual}
use Rattle.rv_select.specs.declared.code.Place.{Place}
use Rattle.rv_select.specs.declared.code.Place.TheVariants.{InReg, Slot}
use Rattle.rv_select.specs.declared.code.VirtualItem.{VirtualItem}
use Rattle.rv_select.specs.declared.code.VirtualItem.TheVariants.{Constant, Move, Compute, ComputeWith, Load, Store}
use Rattle.rv_select.specs.declared.code.VirtualItem.TheVariants.{CodeOf, Mark, Procedure, Jump, Branch, Call, CallAt}
use Rattle.rv_select.specs.declared.code.VirtualItem.TheVariants.{TailCall, TailCallAt, Return, Environment}
use Rattle.rv_select.specs.Run.{Setting, Found, Active, Frame, VirtualState, may_read, is_fixed, is_own}
use Rattle.rv_select.specs.Run.{also_known, only_args, only_answer, value, puts, goto, branch, waits}
use Rattle.rv_select.specs.Run.{back_to, enter, framed, item_step, step_here, fits_item}
use Rattle.rv_select.specs.Run.{procedure_from, procedure_at, mark_from, mark_place}
use Rattle.rv_select.specs.Holding.{place_of, may_hold, Sets, IsHolding, Among, SparedBy, SparedByCall, reads}
use Rattle.rv_select.specs.Holding.{writes, handed_on, target}
use Rattle.placed_code.specs.Rename.{Naming, named, name, rename, rename_all, renamed, with_slots}
use Rattle.placed_code.proofs.Items.{drop_here, IsBody}
use Rattle.placed_code.proofs.Names.{some_is, none_is, equal_of, differ_places, wrote, permit, puts_is, value_self}
use Rattle.placed_code.proofs.Names.{value_other, OwnOr, IsNaming, differ_named, permit_named, own_permitted}

-- a code with a holding, and names for its registers
pub record Pass (V : Type 0) : Type 0 where
  pub reading : Halt → Ending V
  pub setting : Setting
  pub naming : Naming
  pub live : Sets
  pub hold : IsHolding setting.items naming.place live
  pub is : IsNaming naming

rename_cons : (w : Naming) (first count : ℕ) (item : VirtualItem) (rest : List VirtualItem) → IsBody item
    → rename_all w first count (item ∷ rest) ≡ rename (name w first count) item ∷ rename_all w first count rest
rename_cons w first count (Procedure k f c) rest h = absurd h
rename_cons w first count item rest h = refl

-- the first procedure whose number passes a test
abbrev found_by : (ℕ → Bool) → ℕ → List VirtualItem → Option Found
found_by test place [] = None
found_by test place (Procedure k first count ∷ rest) =
    if test k then Some (record { home = suc place; first = first; count = count }) else found_by test (suc place) rest
found_by test place (item ∷ rest) = found_by test (suc place) rest

from_by : (wanted : ℕ) (xs : List VirtualItem) (place : ℕ)
    → procedure_from wanted place xs ≡ found_by (λ k. k == wanted) place xs
from_by wanted [] place = refl
from_by wanted (Procedure k first count ∷ rest) place =
    ap (λ o. if k == wanted then Some (record { home = suc place; first = first; count = count }) else o)
    (from_by wanted rest (suc place))
from_by wanted (item ∷ rest) place = from_by wanted rest (suc place)

at_by : (address : ℕ → ℕ) (at : ℕ) (xs : List VirtualItem) (place : ℕ)
    → procedure_at address at place xs ≡ found_by (λ k. address k == at) place xs
at_by address at [] place = refl
at_by address at (Procedure k first count ∷ rest) place =
    ap (λ o. if address k == at then Some (record { home = suc place; first = first; count = count }) else o)
    (at_by address at rest (suc place))
at_by address at (item ∷ rest) place = at_by address at rest (suc place)

module _ {V : Type 0} (w : Pass V) where
  abbrev pub items : List VirtualItem
  items = w.setting.items

  abbrev pub items' : List VirtualItem
  items' = renamed w.naming items

  abbrev pub setting' : Setting
  setting' = record w.setting { items = items' }

  abbrev at : Found → VReg → VReg
  at f a = name w.naming f.first f.count a

  -- the renamed code from a place on, for a procedure's registers
  abbrev pub rest_of : Found → ℕ → List VirtualItem
  rest_of f p = rename_all w.naming f.first f.count (drop p items)

  abbrev pub IsRest : Found → ℕ → Type 0
  IsRest f p = drop p items' ≡ rest_of f p

  -- ---- states

  -- a state of the renamed code
  abbrev pub image : VirtualState → Locals → List Frame → Registers → (ℕ → Bool) → VirtualState
  image t l gs regs known = record t {
    active = record { found = with_slots w.naming t.active.found; locals = l };
    frames = gs;
    regs = regs;
    known = known;
  }

  abbrev OwnsAll : Active → Type 0
  OwnsAll a = (v x : ℕ) → a.locals v ≡ Some x → is_own a.found v ≡ true

  -- a word is in a slot
  abbrev InSlot : Found → Locals → Place → ℕ → Type 0
  InSlot f l (InReg r) x = ⊥
  InSlot f l (Slot i) x = l (w.naming.number f.first f.count i) ≡ Some x

  -- it is a procedure of the code, told those that wait for it; where none does, it is what stands outside all of them
  abbrev pub IsFound : List Frame → Found → Type 0
  IsFound [] f = Unit {0}
  IsFound (g ∷ gs) f = (p : ℕ) × (k : ℕ) × (slice_get items p ≡ Some (Procedure k f.first f.count))

  -- a procedure that waits
  pub record FrameFacts (f : Frame) (l : Locals) : Type 0 where
    pub code : IsRest f.active.found f.back
    pub home : IsRest f.active.found f.active.found.home
    pub owned : OwnsAll f.active
    pub held : (v x : ℕ) → w.live f.back (Virtual v) ≡ true → f.active.locals v ≡ Some x
        → InSlot f.active.found l (w.naming.place v) x

  abbrev pub Agree : Frame → Frame → Type 0
  Agree f g = (l : Locals)
      × (g ≡ record { back = f.back; active = record { found = with_slots w.naming f.active.found; locals = l } })
      × FrameFacts f l

  abbrev pub AgreeAll : List Frame → List Frame → Type 0
  AgreeAll [] [] = Unit {0}
  AgreeAll (f ∷ fs) (g ∷ gs) = Agree f g × AgreeAll fs gs × IsFound fs f.active.found
  AgreeAll fs gs = ⊥

  pub record Facts (t : VirtualState) (l : Locals) (gs : List Frame) (regs : Registers) (known : ℕ → Bool) : Type 0
    where
      pub code : IsRest t.active.found t.pc
      pub home : IsRest t.active.found t.active.found.home
      pub found : IsFound t.frames t.active.found
      pub fixed : (r : ℕ) → is_fixed r ≡ true → get_reg regs r ≡ get_reg t.regs r
      -- what is held is found under its name
      pub holds : (a : VReg) (x : ℕ) → w.live t.pc a ≡ true → value t a ≡ Some x
          → value (image t l gs regs known) (at t.active.found a) ≡ Some x
      pub owned : OwnsAll t.active
      pub frames : AgreeAll t.frames gs

  abbrev pub Related : VirtualState → VirtualState → Type 0
  Related t u = (l : Locals) × (gs : List Frame) × (regs : Registers) × (known : ℕ → Bool)
      × (u ≡ image t l gs regs known) × Facts t l gs regs known

  -- ---- what is to be shown of a step

  abbrev pub Sim : VirtualState → VirtualState → Next VirtualState V → Next VirtualState V → Type 0
  Sim t u (Go t1) y = (u1 : VirtualState) × (y ≡ Go u1) × Related t1 u1
  Sim t u (Stop e t1) y = UnlessWrong e ((t1 ≡ t) × (y ≡ Stop e u))

  sim_given : {A B : Type 0} (t u : VirtualState) (o : Option A) (o' : Option B) (f : A → Next VirtualState V)
      (g : B → Next VirtualState V)
      → ((x : A) → o ≡ Some x → (x' : B) × (o' ≡ Some x') × Sim t u (f x) (g x'))
      → Sim t u (given t o f) (given u o' g)
  sim_given t u None o' f g h = tt
  sim_given t u (Some x) o' f g h =
      let k = h x refl in subst (λ z. Sim t u (f x) (given u z g)) (sym k.1) k.2

  sim_if : (t u : VirtualState) (b b' : Bool) (y z : Next VirtualState V)
      → (b ≡ true → (b' ≡ true) × Sim t u y z) → Sim t u (only_if t b y) (only_if u b' z)
  sim_if t u false b' y z h = tt
  sim_if t u true b' y z h = let k = h refl in subst (λ c. Sim t u y (only_if u c z)) (sym k.0) k.1

  -- ---- marks and procedures

  record MarkAt (f : Found) (m q : ℕ) (xs : List VirtualItem) (p : ℕ) : Type 0 where
    same : mark_from m p xs ≡ Some q
    rest : IsRest f q
    here : slice_get items q ≡ Some (Mark m)

  mark_walk : (f : Found) (xs : List VirtualItem) (m p q : ℕ) → drop p items ≡ xs
      → drop p items' ≡ rename_all w.naming f.first f.count xs → mark_from m p xs ≡ Some q
      → MarkAt f m q (rename_all w.naming f.first f.count xs) p
  mark_walk f [] m p q d e g = absurd (none_is q g)
  mark_walk f (Procedure i first count ∷ xs) m p q d e g = absurd (none_is q g)
  mark_walk f (Mark n ∷ xs) m p q d e g =
      pick (n == m) refl g (λ h. mark_walk f xs m (suc p) q (drop_next items p (Mark n) xs d).1
      (drop_next items' p (Mark n) (rename_all w.naming f.first f.count xs) e).1 h)
    where
      tail : List VirtualItem
      tail = rename_all w.naming f.first f.count xs

      pick : (c : Bool) → (n == m) ≡ c → (if c then Some p else mark_from m (suc p) xs) ≡ Some q
          → (mark_from m (suc p) xs ≡ Some q → MarkAt f m q tail (suc p)) → MarkAt f m q (Mark n ∷ tail) p
      pick true h i later =
          let same : p ≡ q = some_is p q i in
          let number : n ≡ m = equal_of n m h in
          record {
            same = ap (λ c. if c then Some p else mark_from m (suc p) tail) h ∙ ap Some same;
            rest = subst (λ z. IsRest f z) same (e ∙ ap (rename_all w.naming f.first f.count) (sym d));
            here = ap (λ r. slice_get items r) (sym same)
                ∙ ((drop_next items p (Mark n) xs d).0 ∙ ap (λ z. Some (Mark z)) number);
          }
      pick false h i later =
          let k = later i in
          record {
            same = ap (λ c. if c then Some p else mark_from m (suc p) tail) h ∙ k.same;
            rest = k.rest;
            here = k.here;
          }
  mark_walk f (x ∷ xs) m p q d e g =
      let k = mark_walk f xs m (suc p) q (drop_next items p x xs d).1
      (drop_next items' p (rename (at f) x) (rename_all w.naming f.first f.count xs) e).1 g in
      record { same = k.same; rest = k.rest; here = k.here }

  -- where a procedure begins
  pub record Begins (f : Found) : Type 0 where
    pub place : ℕ
    pub number : ℕ
    pub here : slice_get items place ≡ Some (Procedure number f.first f.count)
    pub home : f.home ≡ suc place
    pub rest : IsRest f f.home

  found_is : (a b : Found) → Some a ≡ Some b → a ≡ b
  found_is a b e = cc

  no_found : (a : Found) → None ≡ Some a → ⊥
  no_found a e = cc

  begins_here : (xs : List VirtualItem) (k p first count : ℕ) → drop p items ≡ Procedure k first count ∷ xs
      → drop p items' ≡ Procedure k first (w.naming.slots first count) ∷ rename_all w.naming first count xs
      → Begins (record { home = suc p; first = first; count = count })
  begins_here xs k p first count d e =
      let a = drop_next items p (Procedure k first count) xs d in
      let b = drop_next items' p (Procedure k first (w.naming.slots first count)) (rename_all w.naming first count xs)
      e in
      record {
        place = p;
        number = k;
        here = a.0;
        home = refl;
        rest = b.1 ∙ ap (rename_all w.naming first count) (sym a.1);
      }

  walk : (test : ℕ → Bool) (xs : List VirtualItem) (p first count : ℕ) (g : Found) → drop p items ≡ xs
      → drop p items' ≡ rename_all w.naming first count xs → found_by test p xs ≡ Some g
      → (found_by test p (rename_all w.naming first count xs) ≡ Some (with_slots w.naming g)) × Begins g
  walk test [] p first count g d e h = absurd (no_found g h)
  walk test (Procedure i first' count' ∷ xs) p first count g d e h =
      pick (test i) refl h (λ z. walk test xs (suc p) first' count' g
      (drop_next items p (Procedure i first' count') xs d).1
      (drop_next items' p (Procedure i first' (w.naming.slots first' count')) (rename_all w.naming first' count' xs)
      e).1 z)
    where
      tail : List VirtualItem
      tail = rename_all w.naming first' count' xs

      this : Found
      this = record { home = suc p; first = first'; count = count' }

      pick : (c : Bool) → test i ≡ c → (if c then Some this else found_by test (suc p) xs) ≡ Some g
          → (found_by test (suc p) xs ≡ Some g
          → (found_by test (suc p) tail ≡ Some (with_slots w.naming g)) × Begins g)
          → ((if test i then Some (with_slots w.naming this) else found_by test (suc p) tail)
          ≡ Some (with_slots w.naming g)) × Begins g
      pick true q z later =
          let same : this ≡ g = found_is this g z in (
            ap (λ c. if c then Some (with_slots w.naming this) else found_by test (suc p) tail) q
                ∙ ap (λ y. Some (with_slots w.naming y)) same,
            subst Begins same (begins_here xs i p first' count' d e),
          )
      pick false q z later =
          let r = later z in
          (ap (λ c. if c then Some (with_slots w.naming this) else found_by test (suc p) tail) q ∙ r.0, r.1)
  walk test (x ∷ xs) p first count g d e h =
      walk test xs (suc p) first count g (drop_next items p x xs d).1
      (drop_next items' p (rename (name w.naming first count) x) (rename_all w.naming first count xs) e).1 h

  pub number_walk : (xs : List VirtualItem) (k p first count : ℕ) (g : Found) → drop p items ≡ xs
      → drop p items' ≡ rename_all w.naming first count xs → procedure_from k p xs ≡ Some g
      → (procedure_from k p (rename_all w.naming first count xs) ≡ Some (with_slots w.naming g)) × Begins g
  number_walk xs k p first count g d e h =
      let r = walk (λ i. i == k) xs p first count g d e (sym (from_by k xs p) ∙ h) in
      (from_by k (rename_all w.naming first count xs) p ∙ r.0, r.1)

  address_walk : (xs : List VirtualItem) (j p first count : ℕ) (g : Found) → drop p items ≡ xs
      → drop p items' ≡ rename_all w.naming first count xs → procedure_at w.setting.address j p xs ≡ Some g
      → (procedure_at w.setting.address j p (rename_all w.naming first count xs) ≡ Some (with_slots w.naming g))
      × Begins g
  address_walk xs j p first count g d e h =
      let r = walk (λ i. w.setting.address i == j) xs p first count g d e (sym (at_by w.setting.address j xs p) ∙ h) in
      (at_by w.setting.address j (rename_all w.naming first count xs) p ∙ r.0, r.1)

  -- ---- words of real registers

  real_in : (c d : Bool) (z y : ℕ) → (if c && d then Some z else None) ≡ Some y → (c ≡ true) × (d ≡ true) × (z ≡ y)
  real_in true true z y e = (refl, refl, some_is z y e)
  real_in true false z y e = absurd (none_is y e)
  real_in false d z y e = absurd (none_is y e)

  real_out : (c d : Bool) (z y : ℕ) → c ≡ true → d ≡ true → z ≡ y → (if c && d then Some z else None) ≡ Some y
  real_out true true z y h k e = ap Some e
  real_out true false z y h k e = absurd (let x : ⊥ = cc in x)
  real_out false d z y h k e = absurd (let x : ⊥ = cc in x)

  no_bool : true ≡ false → ⊥
  no_bool e = cc

  both : (b c : Bool) → (b && c) ≡ true → (b ≡ true) × (c ≡ true)
  both true true h = (refl, refl)
  both true false h = absurd (let x : ⊥ = cc in x)
  both false c h = absurd (let x : ⊥ = cc in x)

  or_either : (b c : Bool) → (b || c) ≡ true → (b ≡ true) ⊎ (c ≡ true)
  or_either true c h = inl refl
  or_either false c h = inr h

  plain : (c d : Bool) → c ≡ false → (c || d) ≡ true → d ≡ true
  plain true d p q = absurd (let o : ⊥ = cc in o)
  plain false d p q = q

  or_left : (b c : Bool) → b ≡ true → (b || c) ≡ true
  or_left true c h = refl
  or_left false c h = absurd (let x : ⊥ = cc in x)

  or_right : (b c : Bool) → c ≡ true → (b || c) ≡ true
  or_right true c h = refl
  or_right false c h = h

  both_true : (b c : Bool) → b ≡ true → c ≡ true → (b && c) ≡ true
  both_true true c h k = k
  both_true false c h k = absurd (let x : ⊥ = cc in x)

  among_handed : (from n r : ℕ) → 10 + from ≤ r → r < 10 + from + n → Among (Real r) (handed_on from n)
  among_handed from zero r h k = absurd (omega arith)
  among_handed from (suc n) r h k =
      pick (r == 10 + from) refl (λ l. among_handed (suc from) n r l (omega arith))
    where
      pick : (c : Bool) → (r == 10 + from) ≡ c
          → (10 + suc from ≤ r → Among (Real r) (handed_on (suc from) n))
          → (Real (10 + from) ≡ Real r) ⊎ Among (Real r) (handed_on (suc from) n)
      pick true e later = inl (ap Real (sym (equal_of r (10 + from) e)))
      pick false e later = inr (later (grind arith))

  -- ---- from one state to the next

  module _ (t : VirtualState) (l : Locals) (gs : List Frame) (regs : Registers) (known : ℕ → Bool)
      (facts : Facts t l gs regs known) where
    abbrev u : VirtualState
    u = image t l gs regs known

    abbrev f : Found
    f = t.active.found

    pub own_of : (a : VReg) (x : ℕ) → value t a ≡ Some x → OwnOr f a
    own_of (Real r) x e = tt
    own_of (Virtual v) x e = facts.owned v x e

    allowed : (v r : ℕ) → w.naming.place v ≡ InReg r → may_hold r ≡ true
    allowed v r e = w.hold.allowed v r e

    -- the code behind an item
    pub code_next : (item : VirtualItem) → slice_get items t.pc ≡ Some item → IsBody item
        → (slice_get items' t.pc ≡ Some (rename (at f) item)) × IsRest f (suc t.pc)
    code_next item here body =
        drop_next items' t.pc (rename (at f) item) (rest_of f (suc t.pc))
        (facts.code ∙ (ap (rename_all w.naming f.first f.count) (drop_here items t.pc item here)
        ∙ rename_cons w.naming f.first f.count item (drop (suc t.pc) items) body))

    -- ---- a register is written

    abbrev locals_after : VReg → ℕ → Locals
    locals_after (Real r) x = l
    locals_after (Virtual v) x = set_local v x l

    abbrev regs_after : VReg → ℕ → Registers
    regs_after (Real r) x = set_reg r x regs
    regs_after (Virtual v) x = regs

    abbrev known_after : VReg → ℕ → Bool
    known_after (Real r) = also_known r known
    known_after (Virtual v) = known

    image_after : (rd n : VReg) (x : ℕ)
        → wrote n x u ≡ image (wrote rd x t) (locals_after n x) gs (regs_after n x) (known_after n)
    image_after (Real r) (Real q) x = refl
    image_after (Real r) (Virtual j) x = refl
    image_after (Virtual v) (Real q) x = refl
    image_after (Virtual v) (Virtual j) x = refl

    found_after : (rd : VReg) (x : ℕ) → (wrote rd x t).active.found ≡ f
    found_after (Real r) x = refl
    found_after (Virtual v) x = refl

    fixed_other : (q r x : ℕ) (old : Registers) → is_fixed q ≡ true → may_hold r ≡ true
        → get_reg (set_reg r x old) q ≡ get_reg old q
    fixed_other q r x old h k = let e : (q == r) ≡ false = grind arith in rw e refl

    set_same : (r x q : ℕ) (a b : Registers) → get_reg a q ≡ get_reg b q
        → get_reg (set_reg r x a) q ≡ get_reg (set_reg r x b) q
    set_same r x q a b h = pick ((q == r) && not (r == 0))
      where
        pick : (c : Bool)
            → (if q == 0 then 0 else (if c then x else a q)) ≡ (if q == 0 then 0 else (if c then x else b q))
        pick true = refl
        pick false = h

    fixed_after : (rd : VReg) (x q : ℕ) → is_fixed q ≡ true
        → get_reg (regs_after (at f rd) x) q ≡ get_reg (wrote rd x t).regs q
    fixed_after (Real r) x q h = set_same r x q regs t.regs (facts.fixed q h)
    fixed_after (Virtual v) x q h = pick (w.naming.place v) refl
      where
        pick : (p : Place) → w.naming.place v ≡ p
            → get_reg (regs_after (named (w.naming.number f.first f.count) p) x) q ≡ get_reg t.regs q
        pick (InReg r) e = fixed_other q r x regs h (allowed v r e) ∙ facts.fixed q h
        pick (Slot i) e = facts.fixed q h

    owned_after : (rd : VReg) (x : ℕ) → permit f rd ≡ true → OwnsAll (wrote rd x t).active
    owned_after (Real r) x h v y e = facts.owned v y e
    owned_after (Virtual d) x h v y e = pick (v == d) refl e
      where
        pick : (c : Bool) → (v == d) ≡ c → (if c then Some x else t.active.locals v) ≡ Some y → is_own f v ≡ true
        pick true k g = subst (λ z. is_own f z ≡ true) (sym (equal_of v d k)) h
        pick false k g = facts.owned v y g

    -- what an item that writes one register says of what is held behind it
    abbrev pub FlowsBy : VReg → Type 0
    FlowsBy rd = (a : VReg) → w.live (suc t.pc) a ≡ true
        → (rd ≡ a) ⊎ ((w.live t.pc a ≡ true) × (place_of w.naming.place rd ≢ place_of w.naming.place a))

    holds_after : (rd : VReg) (x : ℕ) → permit f rd ≡ true → FlowsBy rd → (a : VReg) (y : ℕ)
        → w.live (suc t.pc) a ≡ true → value (wrote rd x t) a ≡ Some y
        → value (wrote (at f rd) x u) (at f a) ≡ Some y
    holds_after rd x h flows a y live e = pick (flows a live)
      where
        pick : (rd ≡ a) ⊎ ((w.live t.pc a ≡ true) × (place_of w.naming.place rd ≢ place_of w.naming.place a))
            → value (wrote (at f rd) x u) (at f a) ≡ Some y
        pick (inl same) =
            let below = value_self (at f rd) x u (permit_named w.naming w.is allowed f rd h) in
            let above : Some x ≡ Some y = sym (value_self rd x t h) ∙ (ap (value (wrote rd x t)) same ∙ e) in
            subst (λ b. value (wrote (at f rd) x u) (at f b) ≡ Some y) same (below ∙ above)
        pick (inr k) =
            let old : value t a ≡ Some y = sym (value_other rd a x t (differ_places w.naming.place rd a k.1)) ∙ e in
            value_other (at f rd) (at f a) x u
            (differ_named w.naming w.is allowed f rd a k.1 (own_permitted w.naming w.is allowed f rd h) (own_of a y
            old))
            ∙ facts.holds a y k.0 old

    pc_after : (rd : VReg) (x : ℕ) → (wrote rd x t).pc ≡ suc t.pc
    pc_after (Real r) x = refl
    pc_after (Virtual v) x = refl

    frames_after : (rd : VReg) (x : ℕ) → (wrote rd x t).frames ≡ t.frames
    frames_after (Real r) x = refl
    frames_after (Virtual v) x = refl

    pub related_after : (rd : VReg) (x : ℕ) → permit f rd ≡ true → FlowsBy rd → IsRest f (suc t.pc)
        → Related (wrote rd x t) (wrote (at f rd) x u)
    related_after rd x h flows rest = (
      locals_after (at f rd) x,
      gs,
      regs_after (at f rd) x,
      known_after (at f rd),
      image_after rd (at f rd) x,
      record {
        code = subst (λ p. IsRest (wrote rd x t).active.found p) (sym (pc_after rd x))
            (subst (λ g. IsRest g (suc t.pc)) (sym (found_after rd x)) rest);
        home = subst (λ g. IsRest g g.home) (sym (found_after rd x)) facts.home;
        found = subst (λ fs. IsFound fs (wrote rd x t).active.found) (sym (frames_after rd x))
            (subst (IsFound t.frames) (sym (found_after rd x)) facts.found);
        fixed = λ q k. fixed_after rd x q k;
        holds = λ a y live e.
            subst (λ z. value z (at (wrote rd x t).active.found a) ≡ Some y) (image_after rd (at f rd) x)
            (subst (λ g. value (wrote (at f rd) x u) (at g a) ≡ Some y) (sym (found_after rd x))
            (holds_after rd x h flows a y (subst (λ p. w.live p a ≡ true) (pc_after rd x) live) e));
        owned = owned_after rd x h;
        frames = subst (λ fs. AgreeAll fs gs) (sym (frames_after rd x)) facts.frames;
      },
    )

    pub sim_puts : (rd : VReg) (x : ℕ) → FlowsBy rd → IsRest f (suc t.pc)
        → Sim t u (puts w.reading w.setting rd x t) (puts w.reading setting' (at f rd) x u)
    sim_puts rd x flows rest =
        subst (λ y. Sim t u y (puts w.reading setting' (at f rd) x u)) (sym (puts_is w.reading w.setting rd x t))
        (subst (λ y. Sim t u (only_if t (permit f rd) (Go (wrote rd x t))) y)
        (sym (puts_is w.reading setting' (at f rd) x u))
        (sim_if t u (permit f rd) (permit (with_slots w.naming f) (at f rd)) (Go (wrote rd x t))
        (Go (wrote (at f rd) x u)) (λ h. (
          permit_named w.naming w.is allowed f rd h,
          (wrote (at f rd) x u, refl, related_after rd x h flows rest),
        ))))

    -- ---- items that write one register, or none

    one : {L : Type 0} (rd a : VReg)
        → ((rd ≡ a) ⊎ ⊥) ⊎ (L × ((place_of w.naming.place rd ≢ place_of w.naming.place a) × Unit {0}))
        → (rd ≡ a) ⊎ (L × (place_of w.naming.place rd ≢ place_of w.naming.place a))
    one rd a (inl (inl e)) = inl e
    one rd a (inl (inr e)) = absurd e
    one rd a (inr k) = inr (k.0, k.1.0)

    kept_live : {L M : Type 0} → ⊥ ⊎ (L × M) → L
    kept_live (inl e) = absurd e
    kept_live (inr k) = k.0

    -- what is read is found under its name
    fetched : (item : VirtualItem) (a : VReg) (x : ℕ) → slice_get items t.pc ≡ Some item → Among a (reads item)
        → value t a ≡ Some x → value u (at f a) ≡ Some x
    fetched item a x here among e = facts.holds a x (w.hold.finds t.pc item a here among) e

    sim_read : (item : VirtualItem) (a : VReg) (g h : ℕ → Next VirtualState V) → slice_get items t.pc ≡ Some item
        → Among a (reads item) → ((x : ℕ) → value t a ≡ Some x → Sim t u (g x) (h x))
        → Sim t u (given t (value t a) g) (given u (value u (at f a)) h)
    sim_read item a g h here among go =
        sim_given t u (value t a) (value u (at f a)) g h (λ x e. (x, fetched item a x here among e, go x e))

    -- the run goes on at another place, where no more is held
    related_moved : (q : ℕ) (m : ℕ → ℕ) → ((a : VReg) → w.live q a ≡ true → w.live t.pc a ≡ true) → IsRest f q
        → Related (record t { pc = q; memory = m }) (record u { pc = q; memory = m })
    related_moved q m less rest = (
      l,
      gs,
      regs,
      known,
      refl,
      record {
        code = rest;
        home = facts.home;
        found = facts.found;
        fixed = facts.fixed;
        holds = λ a x h e. facts.holds a x (less a h) e;
        owned = facts.owned;
        frames = facts.frames;
      },
    )

    pub do_constant : (rd : VReg) (word : ℕ) → slice_get items t.pc ≡ Some (Constant rd word)
        → Sim t u (item_step w.reading w.setting (Constant rd word) t)
        (item_step w.reading setting' (rename (at f) (Constant rd word)) u)
    do_constant rd word here =
        sim_puts rd (word % 2 ^ 64)
        (λ a h. one rd a (w.hold.flows t.pc (suc t.pc) (Constant rd word) a here (inl (refl, refl)) h))
        (code_next (Constant rd word) here tt).1

    pub do_move : (rd a : VReg) → slice_get items t.pc ≡ Some (Move rd a)
        → Sim t u (item_step w.reading w.setting (Move rd a) t)
        (item_step w.reading setting' (rename (at f) (Move rd a)) u)
    do_move rd a here =
        sim_read (Move rd a) a _ _ here (inl refl) (λ x e.
        sim_puts rd x (λ b h. one rd b (w.hold.flows t.pc (suc t.pc) (Move rd a) b here (inl (refl, refl)) h))
        (code_next (Move rd a) here tt).1)

    -- the item does, renamed, what it does
    abbrev pub Done : VirtualItem → Type 0
    Done item = Sim t u (item_step w.reading w.setting item t) (item_step w.reading setting' (rename (at f) item) u)

    pub do_compute : (rd a b : VReg) (op : WordOp) → slice_get items t.pc ≡ Some (Compute op rd a b)
        → Done (Compute op rd a b)
    do_compute rd a b op here =
        sim_read (Compute op rd a b) a _ _ here (inl refl) (λ x xe.
        sim_read (Compute op rd a b) b _ _ here (inr (inl refl)) (λ y ye.
        sim_puts rd (compute op x y)
        (λ c h. one rd c (w.hold.flows t.pc (suc t.pc) (Compute op rd a b) c here (inl (refl, refl)) h))
        (code_next (Compute op rd a b) here tt).1))

    pub do_compute_with : (rd a : VReg) (op : WordOp) (n : ℕ) → slice_get items t.pc ≡ Some (ComputeWith op rd a n)
        → Done (ComputeWith op rd a n)
    do_compute_with rd a op n here =
        sim_read (ComputeWith op rd a n) a _ _ here (inl refl) (λ x xe.
        sim_if t u (fits_item op n) (fits_item op n) _ _ (λ fit. (
          fit,
          sim_puts rd (compute op x n)
              (λ c h. one rd c (w.hold.flows t.pc (suc t.pc) (ComputeWith op rd a n) c here (inl (refl, refl)) h))
              (code_next (ComputeWith op rd a n) here tt).1,
        )))

    pub do_load : (rd a : VReg) (offset : ℕ) → slice_get items t.pc ≡ Some (Load rd a offset)
        → Done (Load rd a offset)
    do_load rd a offset here =
        sim_read (Load rd a offset) a _ _ here (inl refl) (λ x xe.
        sim_if t u (may_load w.setting.top (plus x (pos offset))) (may_load w.setting.top (plus x (pos offset))) _ _
        (λ fit. (
          fit,
          sim_puts rd (load_bytes 8 t.memory (plus x (pos offset)))
              (λ c h. one rd c (w.hold.flows t.pc (suc t.pc) (Load rd a offset) c here (inl (refl, refl)) h))
              (code_next (Load rd a offset) here tt).1,
        )))

    pub do_store : (b a : VReg) (offset : ℕ) → slice_get items t.pc ≡ Some (Store b a offset)
        → Done (Store b a offset)
    do_store b a offset here =
        sim_read (Store b a offset) a _ _ here (inl refl) (λ x xe.
        sim_read (Store b a offset) b _ _ here (inr (inl refl)) (λ y ye.
        let to : ℕ = plus x (pos offset) in
        sim_if t u (may_store w.setting.region w.setting.top to) (may_store w.setting.region w.setting.top to) _ _
        (λ fit. (
          fit,
          (
            record u { memory = store_bytes 8 t.memory to y; pc = suc t.pc },
            refl,
            related_moved (suc t.pc) (store_bytes 8 t.memory to y)
                (λ c h. kept_live (w.hold.flows t.pc (suc t.pc) (Store b a offset) c here (inl (refl, refl)) h))
                (code_next (Store b a offset) here tt).1,
          ),
        ))))

    pub do_code_of : (rd : VReg) (k : ℕ) → slice_get items t.pc ≡ Some (CodeOf rd k) → Done (CodeOf rd k)
    do_code_of rd k here =
        sim_given t u (procedure_from k 0 items) (procedure_from k 0 items') _ _ (λ g e. (
          with_slots w.naming g,
          (number_walk items k 0 0 0 g refl refl e).0,
          sim_puts rd (w.setting.address k)
              (λ c h. one rd c (w.hold.flows t.pc (suc t.pc) (CodeOf rd k) c here (inl (refl, refl)) h))
              (code_next (CodeOf rd k) here tt).1,
        ))

    -- ---- items that go elsewhere in the procedure

    pub do_mark : (mark : ℕ) → slice_get items t.pc ≡ Some (Mark mark) → Done (Mark mark)
    do_mark mark here = (
      record u { pc = suc t.pc },
      refl,
      related_moved (suc t.pc) t.memory
          (λ c h. kept_live (w.hold.flows t.pc (suc t.pc) (Mark mark) c here (inl (refl, refl)) h))
          (code_next (Mark mark) here tt).1,
    )

    sim_goto : (item : VirtualItem) (mark : ℕ) → slice_get items t.pc ≡ Some item → target item ≡ Some mark
        → ((q : ℕ) (a : VReg) → slice_get items q ≡ Some (Mark mark) → w.live q a ≡ true → w.live t.pc a ≡ true)
        → Sim t u (goto w.reading w.setting mark t) (goto w.reading setting' mark u)
    sim_goto item mark here goes less =
        sim_given t u (mark_place items f.home mark) (mark_place items' f.home mark) _ _ (λ q e.
        let k = mark_walk f (drop f.home items) mark f.home q refl facts.home e in (
          q,
          ap (mark_from mark f.home) facts.home ∙ k.same,
          (record u { pc = q }, refl, related_moved q t.memory (λ a h. less q a k.here h) k.rest),
        ))

    pub do_jump : (mark : ℕ) → slice_get items t.pc ≡ Some (Jump mark) → Done (Jump mark)
    do_jump mark here =
        sim_goto (Jump mark) mark here refl (λ q a there h.
        kept_live (w.hold.flows t.pc q (Jump mark) a here (inr (mark, refl, there)) h))

    pub do_branch : (cond : Cond) (a b : VReg) (mark : ℕ) → slice_get items t.pc ≡ Some (Branch cond a b mark)
        → Done (Branch cond a b mark)
    do_branch cond a b mark here =
        sim_read (Branch cond a b mark) a _ _ here (inl refl) (λ x xe.
        sim_read (Branch cond a b mark) b _ _ here (inr (inl refl)) (λ y ye. pick (holds cond x y)))
      where
        pick : (c : Bool) → Sim t u (branch w.reading w.setting c mark t) (branch w.reading setting' c mark u)
        pick true =
            sim_goto (Branch cond a b mark) mark here refl (λ q c there h.
            kept_live (w.hold.flows t.pc q (Branch cond a b mark) c here (inr (mark, refl, there)) h))
        pick false = (
          record u { pc = suc t.pc },
          refl,
          related_moved (suc t.pc) t.memory (λ c h.
              kept_live (w.hold.flows t.pc (suc t.pc) (Branch cond a b mark) c here (inl (refl, refl)) h))
              (code_next (Branch cond a b mark) here tt).1,
        )

    -- ---- calls

    -- what is handed on is found where the procedure begins, and nothing else is held there
    holds_home : (n : ℕ) (g : Found) (b : Begins g) (t1 : VirtualState) (v1 : VirtualState)
        → t1.regs ≡ t.regs → t1.known ≡ only_args n t.known → v1.regs ≡ regs → v1.known ≡ only_args n known
        → ((r : ℕ) → Among (Real r) (handed_on 0 n) → w.live t.pc (Real r) ≡ true)
        → (a : VReg) (x : ℕ) → w.live g.home a ≡ true → value t1 a ≡ Some x → value v1 (at g a) ≡ Some x
    holds_home n g b t1 v1 e1 e2 e3 e4 handed (Virtual v) x h e =
        let live_at : w.live (suc b.place) (Virtual v) ≡ true = subst (λ p. w.live p (Virtual v) ≡ true) b.home h in
        let before : w.live b.place (Virtual v) ≡ true =
        kept_live (w.hold.flows b.place (suc b.place) (Procedure b.number g.first g.count) (Virtual v) b.here
        (inl (refl, refl)) live_at) in
        absurd (no_bool (sym before ∙ w.hold.procedures b.place b.number g.first g.count v b.here))
    holds_home n g b t1 v1 e1 e2 e3 e4 handed (Real r) x h e =
        let z : (if may_read r && (is_fixed r || only_args n t.known r) then Some (get_reg t.regs r) else None) ≡ Some
        x =
        sym (ap (λ k. if may_read r && (is_fixed r || k r) then Some (get_reg t1.regs r) else None) e2
        ∙ ap (λ k. if may_read r && (is_fixed r || only_args n t.known r) then Some (get_reg k r) else None) e1) ∙ e in
        let below = by_known (real_in (may_read r) (is_fixed r || only_args n t.known r) (get_reg t.regs r) x z) in
        ap (λ k. if may_read r && (is_fixed r || k r) then Some (get_reg v1.regs r) else None) e4
        ∙ (ap (λ k. if may_read r && (is_fixed r || only_args n known r) then Some (get_reg k r) else None) e3 ∙ below)
      where
        by_known : (may_read r ≡ true) × ((is_fixed r || only_args n t.known r) ≡ true) × (get_reg t.regs r ≡ x)
            → (if may_read r && (is_fixed r || only_args n known r) then Some (get_reg regs r) else None) ≡ Some x
        by_known k = pick (is_fixed r) refl k.1
          where
            pick : (c : Bool) → is_fixed r ≡ c → (c || only_args n t.known r) ≡ true
                → (if may_read r && (is_fixed r || only_args n known r) then Some (get_reg regs r) else None) ≡ Some x
            pick true i j =
                real_out (may_read r) (is_fixed r || only_args n known r) (get_reg regs r) x k.0
                (or_left (is_fixed r) (only_args n known r) i) (facts.fixed r i ∙ k.2)
            pick false i j =
                let range : (nat_le 10 r && nat_lt r (10 + n)) ≡ true =
                (both (t.known r) (nat_le 10 r && nat_lt r (10 + n)) j).1 in
                let know : t.known r ≡ true = (both (t.known r) (nat_le 10 r && nat_lt r (10 + n)) j).0 in
                let low : 10 ≤ r = grind arith in
                let high : r < 10 + 0 + n = grind arith in
                let old : value t (Real r) ≡ Some x =
                real_out (may_read r) (is_fixed r || t.known r) (get_reg t.regs r) x k.0
                (or_right (is_fixed r) (t.known r) know) k.2 in
                let there = facts.holds (Real r) x (handed r (among_handed 0 n r low high)) old in
                let y = real_in (may_read r) (is_fixed r || known r) (get_reg regs r) x there in
                real_out (may_read r) (is_fixed r || only_args n known r) (get_reg regs r) x k.0
                (or_right (is_fixed r) (only_args n known r)
                (both_true (known r) (nat_le 10 r && nat_lt r (10 + n))
                (plain (is_fixed r) (known r) i y.1) range)) y.2

    found_in : (fs : List Frame) (g : Found) → Begins g → IsFound fs g
    found_in [] g b = tt
    found_in (a ∷ fs) g b = (b.place, b.number, b.here)

    -- a procedure is entered, told the frames that then wait
    related_home : (n : ℕ) (g : Found) (b : Begins g) (fs : List Frame) (gs' : List Frame) → AgreeAll fs gs'
        → ((r : ℕ) → Among (Real r) (handed_on 0 n) → w.live t.pc (Real r) ≡ true)
        → Related (record t {
          pc = g.home;
          active = record { found = g; locals = no_locals };
          frames = fs;
          known = only_args n t.known;
        }) (record u {
          pc = g.home;
          active = record { found = with_slots w.naming g; locals = no_locals };
          frames = gs';
          known = only_args n known;
        })
    related_home n g b fs gs' agree handed = (
      no_locals,
      gs',
      regs,
      only_args n known,
      refl,
      record {
        code = b.rest;
        home = b.rest;
        found = found_in fs g b;
        fixed = facts.fixed;
        holds = λ a x h e. holds_home n g b
            (record t {
              pc = g.home;
              active = record { found = g; locals = no_locals };
              frames = fs;
              known = only_args n t.known;
            })
            (record u {
              pc = g.home;
              active = record { found = with_slots w.naming g; locals = no_locals };
              frames = gs';
              known = only_args n known;
            }) refl refl refl refl handed a x h e;
        owned = λ v x e. absurd (none_is x e);
        frames = agree;
      },
    )

    not_virtual : (r v : ℕ) → Real r ≡ Virtual v → ⊥
    not_virtual r v e = subst (λ a. IsReal a) e tt
      where
        IsReal : VReg → Type 0
        IsReal (Real r) = Unit {0}
        IsReal (Virtual v) = ⊥

    spared_slot : (v x : ℕ) → SparedByCall (w.naming.place v) → value u (at f (Virtual v)) ≡ Some x
        → InSlot f l (w.naming.place v) x
    spared_slot v x spared e = pick (w.naming.place v) refl spared e
      where
        pick : (p : Place) → w.naming.place v ≡ p → SparedByCall p
            → value u (named (w.naming.number f.first f.count) p) ≡ Some x → InSlot f l p x
        pick (InReg r) h k z = let m = allowed v r h in grind arith
        pick (Slot i) h k z = z

    -- the active procedure waits
    agree_waiting : IsRest f (suc t.pc)
        → ((v : ℕ) → w.live (suc t.pc) (Virtual v) ≡ true
        → (w.live t.pc (Virtual v) ≡ true) × SparedByCall (w.naming.place v))
        → AgreeAll (waits w.reading w.setting t).frames (waits w.reading setting' u).frames
    agree_waiting rest spared = (
      (
        l,
        refl,
        record {
          code = rest;
          home = facts.home;
          owned = facts.owned;
          held = λ v x h e. let k = spared v h in spared_slot v x k.1 (facts.holds (Virtual v) x k.0 e);
        },
      ),
      facts.frames,
      facts.found,
    )

    -- so they do where only the answer's register is needed behind a call besides what the call spares
    agree_called : IsRest f (suc t.pc)
        → ((v : ℕ) → w.live (suc t.pc) (Virtual v) ≡ true → ((Real 10 ≡ Virtual v) ⊎ ⊥)
        ⊎ ((w.live t.pc (Virtual v) ≡ true) × SparedByCall (w.naming.place v)))
        → AgreeAll (waits w.reading w.setting t).frames (waits w.reading setting' u).frames
    agree_called rest spared = agree_waiting rest (λ v h. one_spared v (spared v h))
      where
        one_spared : (v : ℕ) → ((Real 10 ≡ Virtual v) ⊎ ⊥)
            ⊎ ((w.live t.pc (Virtual v) ≡ true) × SparedByCall (w.naming.place v))
            → (w.live t.pc (Virtual v) ≡ true) × SparedByCall (w.naming.place v)
        one_spared v (inl (inl e)) = absurd (not_virtual 10 v e)
        one_spared v (inl (inr e)) = absurd e
        one_spared v (inr k) = k

    enters : (n : ℕ) (g : Found) → Begins g → (fs gs' : List Frame) → AgreeAll fs gs'
        → ((r : ℕ) → Among (Real r) (handed_on 0 n) → w.live t.pc (Real r) ≡ true)
        → Sim t u (enter w.reading w.setting n (record t { frames = fs }) g)
        (enter w.reading setting' n (record u { frames = gs' }) (with_slots w.naming g))
    enters n g b fs gs' agree handed = (_, refl, related_home n g b fs gs' agree handed)

    pub do_call : (k n : ℕ) → slice_get items t.pc ≡ Some (Call k n) → Done (Call k n)
    do_call k n here =
        sim_given t u (procedure_from k 0 items) (procedure_from k 0 items') _ _ (λ g e.
        let z = number_walk items k 0 0 0 g refl refl e in (
          with_slots w.naming g,
          z.0,
          enters n g z.1 (waits w.reading w.setting t).frames (waits w.reading setting' u).frames
              (agree_called (code_next (Call k n) here tt).1 (λ v h.
              w.hold.flows t.pc (suc t.pc) (Call k n) (Virtual v) here (inl (refl, refl)) h))
              (λ r among. w.hold.finds t.pc (Call k n) (Real r) here among),
        ))

    pub do_call_at : (a : VReg) (n : ℕ) → slice_get items t.pc ≡ Some (CallAt a n) → Done (CallAt a n)
    do_call_at a n here =
        sim_read (CallAt a n) a _ _ here (inl refl) (λ j je.
        sim_given t u (procedure_at w.setting.address j 0 items) (procedure_at w.setting.address j 0 items') _ _ (λ g e.
        let z = address_walk items j 0 0 0 g refl refl e in (
          with_slots w.naming g,
          z.0,
          enters n g z.1 (waits w.reading w.setting t).frames (waits w.reading setting' u).frames
              (agree_called (code_next (CallAt a n) here tt).1 (λ v h.
              w.hold.flows t.pc (suc t.pc) (CallAt a n) (Virtual v) here (inl (refl, refl)) h))
              (λ r among. w.hold.finds t.pc (CallAt a n) (Real r) here (inr among)),
        )))

    sim_framed : (fs gs' : List Frame) (y z : Next VirtualState V) → AgreeAll fs gs' → Sim t u y z
        → Sim t u (framed w.reading w.setting fs t y) (framed w.reading setting' gs' u z)
    sim_framed [] gs' y z agree h = tt
    sim_framed (a ∷ fs) [] y z agree h = absurd agree
    sim_framed (a ∷ fs) (b ∷ gs') y z agree h = h

    pub do_tail : (k n : ℕ) → slice_get items t.pc ≡ Some (TailCall k n) → Done (TailCall k n)
    do_tail k n here =
        sim_framed t.frames gs _ _ facts.frames (
        sim_given t u (procedure_from k 0 items) (procedure_from k 0 items') _ _ (λ g e.
        let z = number_walk items k 0 0 0 g refl refl e in (
          with_slots w.naming g,
          z.0,
          enters n g z.1 t.frames gs facts.frames
              (λ r among. w.hold.finds t.pc (TailCall k n) (Real r) here among),
        )))

    pub do_tail_at : (a : VReg) (n : ℕ) → slice_get items t.pc ≡ Some (TailCallAt a n) → Done (TailCallAt a n)
    do_tail_at a n here =
        sim_framed t.frames gs _ _ facts.frames (
        sim_read (TailCallAt a n) a _ _ here (inl refl) (λ j je.
        sim_given t u (procedure_at w.setting.address j 0 items) (procedure_at w.setting.address j 0 items') _ _ (λ g e.
        let z = address_walk items j 0 0 0 g refl refl e in (
          with_slots w.naming g,
          z.0,
          enters n g z.1 t.frames gs facts.frames
              (λ r among. w.hold.finds t.pc (TailCallAt a n) (Real r) here (inr among)),
        ))))

    -- ---- returns

    holds_back : (a : Frame) (l1 : Locals) (fs gs1 : List Frame) → FrameFacts a l1
        → w.live t.pc (Real 10) ≡ true → (b : VReg) (x : ℕ) → w.live a.back b ≡ true
        → value (record t { pc = a.back; active = a.active; frames = fs; known = only_answer t.known }) b ≡ Some x
        → value (record u {
          pc = a.back;
          active = record { found = with_slots w.naming a.active.found; locals = l1 };
          frames = gs1;
          known = only_answer known;
        }) (at a.active.found b) ≡ Some x
    holds_back a l1 fs gs1 ff answer (Virtual v) x h e = pick (w.naming.place v) (ff.held v x h e)
      where
        pick : (p : Place) → InSlot a.active.found l1 p x → value (record u {
          pc = a.back;
          active = record { found = with_slots w.naming a.active.found; locals = l1 };
          frames = gs1;
          known = only_answer known;
        }) (named (w.naming.number a.active.found.first a.active.found.count) p) ≡ Some x
        pick (InReg r) k = absurd k
        pick (Slot i) k = k
    holds_back a l1 fs gs1 ff answer (Real r) x h e =
        let k = real_in (may_read r) (is_fixed r || only_answer t.known r) (get_reg t.regs r) x e in
        pick (is_fixed r) refl k.0 k.1 k.2
      where
        pick : (c : Bool) → is_fixed r ≡ c → may_read r ≡ true → (is_fixed r || only_answer t.known r) ≡ true
            → get_reg t.regs r ≡ x
            → (if may_read r && (is_fixed r || only_answer known r) then Some (get_reg regs r) else None) ≡ Some x
        pick true i m j g =
            real_out (may_read r) (is_fixed r || only_answer known r) (get_reg regs r) x m
            (or_left (is_fixed r) (only_answer known r) i) (facts.fixed r i ∙ g)
        pick false i m j g =
            let both_are = both (t.known r) (r == 10) (plain (is_fixed r) (only_answer t.known r) i j) in
            let ten : r ≡ 10 = equal_of r 10 both_are.1 in
            let old : value t (Real r) ≡ Some x =
            real_out (may_read r) (is_fixed r || t.known r) (get_reg t.regs r) x m
            (or_right (is_fixed r) (t.known r) both_are.0) g in
            let there = facts.holds (Real r) x (subst (λ q. w.live t.pc (Real q) ≡ true) (sym ten) answer) old in
            let y = real_in (may_read r) (is_fixed r || known r) (get_reg regs r) x there in
            real_out (may_read r) (is_fixed r || only_answer known r) (get_reg regs r) x m
            (or_right (is_fixed r) (only_answer known r)
            (both_true (known r) (r == 10) (plain (is_fixed r) (known r) i y.1) both_are.1)) y.2

    sim_back : (fs gs' : List Frame) → AgreeAll fs gs' → w.live t.pc (Real 10) ≡ true
        → Sim t u (back_to w.reading w.setting fs t) (back_to w.reading setting' gs' u)
    sim_back [] gs' agree answer = tt
    sim_back (a ∷ fs) [] agree answer = absurd agree
    sim_back (a ∷ fs) (b ∷ gs') agree answer =
        let same : Frame =
        record { back = a.back; active = record { found = with_slots w.naming a.active.found; locals = agree.0.0 } } in
        let ff = agree.0.2 in
        subst (λ z. Sim t u
        (Go (record t { pc = a.back; active = a.active; frames = fs; known = only_answer t.known }))
        (back_to w.reading setting' (z ∷ gs') u)) (sym agree.0.1) (
          _,
          refl,
          (
            agree.0.0,
            gs',
            regs,
            only_answer known,
            refl,
            record {
              code = ff.code;
              home = ff.home;
              found = agree.2;
              fixed = facts.fixed;
              holds = λ c x h e. holds_back a agree.0.0 fs gs' ff answer c x h e;
              owned = ff.owned;
              frames = agree.1;
            },
          ),
        )

    pub do_return : slice_get items t.pc ≡ Some Return → Done Return
    do_return here =
        sim_read Return (Real 10) _ _ here (inl refl) (λ x e.
        sim_back t.frames gs facts.frames (w.hold.finds t.pc Return (Real 10) here (inl refl)))

    -- ---- environment calls

    unless : {P : Type 0} (e : Ending V) → P → UnlessWrong e P
    unless (Verdict v) p = p
    unless Exhausted p = p
    unless Wrong p = tt

    two : (a : VReg) → Among a (writes Environment)
        ⊎ ((w.live t.pc a ≡ true) × SparedBy w.naming.place Environment (place_of w.naming.place a))
        → (Real 10 ≡ a) ⊎ ((Real 11 ≡ a) ⊎ ((w.live t.pc a ≡ true) × (InReg 10 ≢ place_of w.naming.place a)
        × (InReg 11 ≢ place_of w.naming.place a)))
    two a (inl (inl e)) = inl e
    two a (inl (inr (inl e))) = inr (inl e)
    two a (inl (inr (inr e))) = absurd e
    two a (inr k) = inr (inr (k.0, k.1.0, k.1.1.0))

    sim_settle : slice_get items t.pc ≡ Some Environment → (world : WorldState) (e : Effect)
        → Sim t u (settle w.reading e t (λ a b. record t {
          regs = set_reg 11 b (set_reg 10 a t.regs);
          known = also_known 11 (also_known 10 t.known);
          world = world;
          pc = suc t.pc;
        })) (settle w.reading e u (λ a b. record u {
          regs = set_reg 11 b (set_reg 10 a regs);
          known = also_known 11 (also_known 10 known);
          world = world;
          pc = suc t.pc;
        }))
    sim_settle here world Lost = tt
    sim_settle here world (Halts halt) = unless (w.reading halt) (refl, refl)
    sim_settle here world (Goes a b) = (
      _,
      refl,
      (
        l,
        gs,
        set_reg 11 b (set_reg 10 a regs),
        also_known 11 (also_known 10 known),
        refl,
        record {
          code = (code_next Environment here tt).1;
          home = facts.home;
          found = facts.found;
          fixed = λ r h. set_same 11 b r (set_reg 10 a regs) (set_reg 10 a t.regs)
              (set_same 10 a r regs t.regs (facts.fixed r h));
          holds = λ c x h e. pick c x e
              (two c (w.hold.flows t.pc (suc t.pc) Environment c here (inl (refl, refl)) h));
          owned = facts.owned;
          frames = facts.frames;
        },
      ),
    )
      where
        t0 : VirtualState
        t0 = wrote (Real 10) a t

        u0 : VirtualState
        u0 = wrote (Real 10) a u

        pick : (c : VReg) (x : ℕ) → value (wrote (Real 11) b t0) c ≡ Some x → (Real 10 ≡ c) ⊎ ((Real 11 ≡ c)
            ⊎ ((w.live t.pc c ≡ true) × (InReg 10 ≢ place_of w.naming.place c)
            × (InReg 11 ≢ place_of w.naming.place c)))
            → value (wrote (Real 11) b u0) (at f c) ≡ Some x
        pick c x e (inl same) =
            let above : Some a ≡ Some x =
            sym (value_other (Real 11) (Real 10) b t0 refl ∙ value_self (Real 10) a t refl)
            ∙ (ap (value (wrote (Real 11) b t0)) same ∙ e) in
            subst (λ z. value (wrote (Real 11) b u0) (at f z) ≡ Some x) same
            (value_other (Real 11) (Real 10) b u0 refl ∙ (value_self (Real 10) a u refl ∙ above))
        pick c x e (inr (inl same)) =
            let above : Some b ≡ Some x =
            sym (value_self (Real 11) b t0 refl) ∙ (ap (value (wrote (Real 11) b t0)) same ∙ e) in
            subst (λ z. value (wrote (Real 11) b u0) (at f z) ≡ Some x) same
            (value_self (Real 11) b u0 refl ∙ above)
        pick c x e (inr (inr k)) =
            let p = w.naming.place in
            let d10 = differ_places p (Real 10) c k.1 in
            let d11 = differ_places p (Real 11) c k.2 in
            let old : value t c ≡ Some x =
            sym (value_other (Real 11) c b t0 d11 ∙ value_other (Real 10) c a t d10) ∙ e in
            let own = own_of c x old in
            value_other (Real 11) (at f c) b u0 (differ_named w.naming w.is allowed f (Real 11) c k.2 tt own)
            ∙ (value_other (Real 10) (at f c) a u (differ_named w.naming w.is allowed f (Real 10) c k.1 tt own)
            ∙ facts.holds c x k.0 old)

    pub do_environment : slice_get items t.pc ≡ Some Environment → Done Environment
    do_environment here =
        sim_read Environment (Real 17) _ _ here (inl refl) (λ n ne.
        sim_read Environment (Real 10) _ _ here (inr (inl refl)) (λ x xe.
        sim_read Environment (Real 11) _ _ here (inr (inr (inl refl))) (λ y ye.
        let c = environment_call n x y (length w.setting.labels) t.world in
        sim_settle here c.world (effect_of w.setting.labels c.effect))))

    -- ---- all items

    pub do_item : (item : VirtualItem) → slice_get items t.pc ≡ Some item → Done item
    do_item (Constant rd word) here = do_constant rd word here
    do_item (Move rd a) here = do_move rd a here
    do_item (Compute o rd a b) here = do_compute rd a b o here
    do_item (ComputeWith o rd a n) here = do_compute_with rd a o n here
    do_item (Load rd a offset) here = do_load rd a offset here
    do_item (Store b a offset) here = do_store b a offset here
    do_item (CodeOf rd k) here = do_code_of rd k here
    do_item (Mark mark) here = do_mark mark here
    do_item (Procedure k first count) here = tt
    do_item (Jump mark) here = do_jump mark here
    do_item (Branch cond a b mark) here = do_branch cond a b mark here
    do_item (Call k n) here = do_call k n here
    do_item (CallAt a n) here = do_call_at a n here
    do_item (TailCall k n) here = do_tail k n here
    do_item (TailCallAt a n) here = do_tail_at a n here
    do_item Return here = do_return here
    do_item Environment here = do_environment here

    do_here : (o : Option VirtualItem) → slice_get items t.pc ≡ o
        → Sim t u (step_here w.reading w.setting o t) (step_here w.reading setting' (slice_get items' t.pc) u)
    do_here None e = tt
    do_here (Some (Procedure k first count)) e = tt
    do_here (Some item) e =
        subst (λ z. Sim t u (item_step w.reading w.setting item t) (step_here w.reading setting' z u))
        (sym (code_next item e tt).0) (do_item item e)

    pub do_step : Sim t u (step_here w.reading w.setting (slice_get items t.pc) t)
        (step_here w.reading setting' (slice_get items' t.pc) u)
    do_step = do_here (slice_get items t.pc) refl
