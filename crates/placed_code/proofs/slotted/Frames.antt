-- What holds between a state of the virtual run and one of the machine that runs the code with slots: the registers and
-- the region are the same, and the stack has a frame for each active procedure.
use Rattle.std.proofs.Common.{ℕ, ◌+◌, ◌-◌, ◌*◌, ◌/◌, ◌%◌, ◌^◌, ◌<◌, ◌≤◌, ◌≡◌, ◌⊎◌, inl, inr, ⊎_elim, Bool}
use Rattle.std.proofs.Common.{true, false, List, [], ◌∷◌, ◌++◌, Some, None, drop, refl, sym, ◌∙◌, ap, subst, arith}
use Rattle.std.specs.Prelude.{◌==◌, ◌&&◌, not, nat_lt, nat_le, if◌then◌else◌, length, slice_get}
use Rattle.grift_base.specs.World.{WorldState}
use Rattle.run_laws.specs.Runs.{Ending, Any}
use Rattle.run_laws.specs.Machines.{Machine, Alike, OnTheWay}
use Rattle.rv_machine.specs.declared.real.RealItem.{RealItem}
use Rattle.machine_words.specs.Memory.{Memory, load_bytes, store_bytes}
use Rattle.rv_machine.specs.Registers.{Registers, get_reg, set_reg}
use Rattle.rv_machine.specs.State.{Layout, State}
use Rattle.machine_words.specs.Halts.{Halt}
use Rattle.rv_machine.specs.Turn.{call_environment}
use Rattle.rv_machine.specs.Real.{Setting as RealSetting, AreAddresses, MarksStandOnce, mark_address, real_machine}
use Rattle.machine_words.proofs.Public.{load_same, load_other, load_stored, stored_outside}
use Rattle.rv_machine.proofs.Public.{Program, HasItem}
use Rattle.rv_machine.proofs.Public.{has_item-append}
use Rattle.low_ir.specs.Steps.{set_local}
use Rattle.rv_select.specs.declared.code.VirtualItem.{VirtualItem}
use Rattle.rv_select.specs.declared.code.VirtualItem.TheVariants.{Procedure}
use Rattle.rv_select.specs.Run.{Setting, Found, Active, Frame, VirtualState, Shown, held_by, may_read, is_own}
use Rattle.placed_code.specs.Slots.{slot_offset, expand_all, final_items, slots_items}
use Rattle.rv_select.specs.Stacks.{frame_size, stack_of, stacked_machine, frames_size}
use Rattle.placed_code.specs.Slotted.{IsSeenAs, Lies}
use Rattle.placed_code.proofs.slotted.Items.{Stands}
use Rattle.placed_code.proofs.slotted.PutWords.{OnlyIn}
use Rattle.rv_select.proofs.Public.{stack_held}

-- a virtual code, the code with slots that comes from it, and where both run
pub record Slotting (V : Type 0) : Type 0 where
  pub reading : Halt → Ending V
  pub items : List VirtualItem
  -- the mark behind which the machine stops, as it lacks stack
  pub out : ℕ
  pub setting : RealSetting
  pub addresses : AreAddresses (slots_items out items) setting.address
  pub marks : MarksStandOnce (slots_items out items)
  pub calls : (place : ℕ) (s : State) → setting.ecall place s ≡ call_environment s
  -- the code addresses that the virtual run is told
  pub told : ℕ → ℕ
  pub agree : (p k first count n : ℕ) → slice_get items p ≡ Some (Procedure k first count)
      → mark_address setting.address (slots_items out items) k ≡ Some n → told k ≡ n
  pub counts : (p k first count : ℕ) → slice_get items p ≡ Some (Procedure k first count) → count < 2 ^ 32
  pub layout : Layout
  -- the region's end, where the stack begins
  pub top : ℕ
  pub lies : Lies layout top

-- ---- numbers and registers

pub some_is : (a b : ℕ) → Some a ≡ Some b → a ≡ b
some_is a b e = cc

pub none_is : (a : ℕ) → None ≡ Some a → ⊥
none_is a e = cc

pub equal_of : (a b : ℕ) → (a == b) ≡ true → a ≡ b
equal_of a b h = grind arith

pub readable_low : (q : ℕ) → may_read q ≡ true → q < 28
readable_low q h = grind arith

pub low_reg : (q r : ℕ) → q < 28 → 28 ≤ r → (q == r) ≡ false
low_reg q r h k = grind arith

pub not_zero : (r : ℕ) → 28 ≤ r → (r == 0) ≡ false
not_zero r k = grind arith

-- what a register reads as where others were changed
pub unset : (q r w : ℕ) (regs : Registers) → (q == r) ≡ false → set_reg r w regs q ≡ regs q
unset q r w regs h = rw h refl

pub other_get : (r q word : ℕ) (regs : Registers) → (q == r) ≡ false → get_reg (set_reg r word regs) q ≡ get_reg regs q
other_get r q word regs h = rw h refl

pub get_only : (r q : ℕ) (regs old : Registers) → OnlyIn r regs old → (q == r) ≡ false → get_reg regs q ≡ get_reg old q
get_only r q regs old h k = ap (λ x. if q == 0 then 0 else x) (h q k)

pub scratch_same : (scratch word q : ℕ) (regs : Registers) → 28 ≤ scratch → may_read q ≡ true
    → get_reg (set_reg scratch word regs) q ≡ get_reg regs q
scratch_same scratch word q regs h k = let e : (q == scratch) ≡ false = grind arith in rw e refl

pub put_there : (r word : ℕ) (regs : Registers) → 28 ≤ r → get_reg (set_reg r word regs) r ≡ word
put_there r word regs hi =
    let e : (r == r) ≡ true = grind arith in
    let f : (r == 0) ≡ false = grind arith in rw (e, f) refl

pub set_same : (r w q : ℕ) (a b : Registers) → get_reg a q ≡ get_reg b q
    → get_reg (set_reg r w a) q ≡ get_reg (set_reg r w b) q
set_same r w q a b h = pick ((q == r) && not (r == 0))
  where
    pick : (c : Bool) → (if q == 0 then 0 else (if c then w else a q)) ≡ (if q == 0 then 0 else (if c then w else b q))
    pick true = refl
    pick false = h

-- registers hold words
pub set_fits : (r word : ℕ) (regs : Registers) → word < 2 ^ 64 → ((q : ℕ) → regs q < 2 ^ 64)
    → (q : ℕ) → set_reg r word regs q < 2 ^ 64
set_fits r word regs h k q = pick ((q == r) && not (r == 0))
  where
    pick : (c : Bool) → (if c then word else regs q) < 2 ^ 64
    pick true = h
    pick false = k q

pub fits_only : (r w : ℕ) (regs old : Registers) → OnlyIn r regs old → get_reg regs r ≡ w → 28 ≤ r → w < 2 ^ 64
    → ((q : ℕ) → old q < 2 ^ 64) → (q : ℕ) → regs q < 2 ^ 64
fits_only r w regs old h e hi small k q = pick (q == r) refl
  where
    raw : (r == 0) ≡ false → regs r ≡ w
    raw z = ap (λ c. if c then 0 else regs r) (sym z) ∙ e

    pick : (c : Bool) → (q == r) ≡ c → regs q < 2 ^ 64
    pick true z =
        let same : q ≡ r = grind arith in
        subst (λ x. regs x < 2 ^ 64) (sym same) (subst (λ x. x < 2 ^ 64) (sym (raw (not_zero r hi))) small)
    pick false z = subst (λ x. x < 2 ^ 64) (sym (h q z)) (k q)

-- ---- memory

pub stored_fits : (m : Memory) (at w : ℕ) → ((i : ℕ) → m i < 256) → (i : ℕ) → store_bytes 8 m at w i < 256
unfolding store_bytes
stored_fits m at w h i = pick (nat_le at i && nat_lt i (at + 8))
  where
    pick : (c : Bool) → (if c then w / 2 ^ (8 * (i - at)) % 256 else m i) < 256
    pick true = omega arith
    pick false = h i

abbrev pub SameBelow : ℕ → Memory → Memory → Type 0
SameBelow top m n = (at : ℕ) → at < top → m at ≡ n at

pub stored_same : (top : ℕ) (m n : Memory) (at w : ℕ) → SameBelow top m n
    → SameBelow top (store_bytes 8 m at w) (store_bytes 8 n at w)
unfolding store_bytes
stored_same top m n at w h i k = pick (nat_le at i && nat_lt i (at + 8))
  where
    pick : (c : Bool) → (if c then w / 2 ^ (8 * (i - at)) % 256 else m i)
        ≡ (if c then w / 2 ^ (8 * (i - at)) % 256 else n i)
    pick true = refl
    pick false = h i k

-- ---- slots

pub own_first : (f : Found) (v : ℕ) → is_own f v ≡ true → (f.first ≤ v) × (v < f.first + f.count)
own_first f v h = grind arith

pub slot_inside : (f : Found) (v : ℕ) → is_own f v ≡ true → slot_offset f.first v + 8 ≤ frame_size f.count
slot_inside f v h = let o = own_first f v h in omega (arith, o.0, o.1)

pub slot_aligned : (sp first v : ℕ) → sp % 8 ≡ 0 → (sp + slot_offset first v) % 8 ≡ 0
slot_aligned sp first v h = omega arith

-- two slots have no byte in common
slots_apart : (first v u : ℕ) → first ≤ v → first ≤ u → (u == v) ≡ false
    → (slot_offset first u + 8 ≤ slot_offset first v) ⊎ (slot_offset first v + 8 ≤ slot_offset first u)
slots_apart first v u h k n = grind arith

module _ {V : Type 0} (w : Slotting V) where
  abbrev pub code : List RealItem
  code = slots_items w.out w.items

  abbrev pub program : Program V
  program = record {
    reading = w.reading;
    code = code;
    setting = w.setting;
    addresses = w.addresses;
    marks = w.marks;
  }

  abbrev pub virtual_setting : Setting
  virtual_setting = record {
    items = w.items;
    address = w.told;
    labels = w.layout.labels;
    region = w.layout.region;
    top = w.top;
  }

  -- the virtual run in the stack, and the run of the code with slots
  abbrev pub M : Machine VirtualState Shown V
  M = stacked_machine w.reading virtual_setting (w.layout.end - w.top)

  abbrev pub N : Machine State State V
  N = real_machine w.reading code w.setting

  abbrev pub Stand : ℕ → List RealItem → Type 0
  Stand pc xs = Stands program pc xs

  -- the code from a place of the virtual code on, for a procedure's registers
  abbrev pub rest_of : Found → ℕ → List RealItem
  rest_of f p = expand_all w.out f.first f.count (drop p w.items) ++ final_items w.out

  pub has_rest : (f : Found) (p : ℕ) → HasItem (rest_of f p)
  has_rest f p = has_item-append (expand_all w.out f.first f.count (drop p w.items)) (final_items w.out) tt

  -- where a procedure begins the code is that for its registers
  abbrev pub HasHome : Found → Type 0
  HasHome f = (k : ℕ) × (drop k code ≡ rest_of f f.home)

  -- ---- the stack

  abbrev pub SlotsHold : Memory → ℕ → Active → Type 0
  SlotsHold m sp a =
      (v word : ℕ) → a.locals v ≡ Some word
      → (is_own a.found v ≡ true) × (load_bytes 8 m (sp + slot_offset a.found.first v) ≡ word)

  -- the frame of a procedure that goes back to another
  pub record Framed (m : Memory) (sp : ℕ) (a : Active) (f : Frame) : Type 0 where
    pub slots : SlotsHold m sp a
    pub aligned : sp % 8 ≡ 0
    pub room : sp + frame_size a.found.count ≤ w.layout.end
    pub back : Stand (load_bytes 8 m sp) (rest_of f.active.found f.back)
    pub home : HasHome f.active.found

  abbrev pub Stacked : Memory → ℕ → Active → List Frame → Type 0
  Stacked m sp a [] = (sp ≡ w.layout.end) × ((v : ℕ) → a.locals v ≡ None) × (a.found.count ≡ 0)
  Stacked m sp a (f ∷ fs) = Framed m sp a f × Stacked m (sp + frame_size a.found.count) f.active fs

  -- the frames fill the stack from x2 to its end
  pub stack_is : (m : Memory) (sp : ℕ) (a : Active) (fs : List Frame) → Stacked m sp a fs
      → sp + stack_of a.found fs ≡ w.layout.end
  stack_is m sp a [] k = let e = k.0 in omega (arith, e)
  stack_is m sp a (f ∷ fs) k =
      let e = stack_is m (sp + frame_size a.found.count) f.active fs k.1 in omega (arith, e)

  pub stack_high : (m : Memory) (sp : ℕ) (a : Active) (fs : List Frame) → Stacked m sp a fs
      → (sp ≤ w.layout.end) × (sp % 8 ≡ 0)
  stack_high m sp a [] k =
      let e = k.0 in
      let h = w.lies.end_aligned in (omega (arith, e), subst (λ x. x % 8 ≡ 0) (sym e) h)
  stack_high m sp a (f ∷ fs) k = (let r = k.0.room in omega arith, k.0.aligned)

  -- it sees its own bytes alone
  pub stack_same : (m n : Memory) (sp : ℕ) (a : Active) (fs : List Frame) → ((i : ℕ) → sp ≤ i → m i ≡ n i)
      → Stacked m sp a fs → Stacked n sp a fs
  stack_same m n sp a [] h k = k
  stack_same m n sp a (f ∷ fs) h k = (
    record {
      slots = λ v word e. let z = k.0.slots v word e in
          let at : ℕ = sp + slot_offset a.found.first v in
          (z.0, sym (load_same 8 m n at at (λ i p. h (at + i) (omega arith))) ∙ z.1);
      aligned = k.0.aligned;
      room = k.0.room;
      back = subst (λ x. Stand x (rest_of f.active.found f.back))
          (load_same 8 m n sp sp (λ i p. h (sp + i) (omega arith))) k.0.back;
      home = k.0.home;
    },
    stack_same m n (sp + frame_size a.found.count) f.active fs (λ i p. h i (omega arith)) k.1,
  )

  -- a slot that holds a word
  pub slot_of : (m : Memory) (sp : ℕ) (a : Active) (fs : List Frame) (v word : ℕ) → Stacked m sp a fs
      → a.locals v ≡ Some word
      → (is_own a.found v ≡ true) × (load_bytes 8 m (sp + slot_offset a.found.first v) ≡ word) × (sp % 8 ≡ 0)
      × (sp + frame_size a.found.count ≤ w.layout.end)
  slot_of m sp a [] v word k e = absurd (none_is word (sym (k.1 v) ∙ e))
  slot_of m sp a (f ∷ fs) v word k e = let z = k.0.slots v word e in (z.0, z.1, k.0.aligned, k.0.room)

  -- the code outside all procedures has no slot
  no_slot : (a : Active) (v : ℕ) → a.found.count ≡ 0 → is_own a.found v ≡ true → ⊥
  no_slot a v z own = let o = own_first a.found v own in omega (arith, o.0, o.1, z)

  pub frame_fits : (m : Memory) (sp : ℕ) (a : Active) (fs : List Frame) (v : ℕ) → Stacked m sp a fs
      → is_own a.found v ≡ true → (sp % 8 ≡ 0) × (sp + frame_size a.found.count ≤ w.layout.end)
  frame_fits m sp a [] v k own = absurd (no_slot a v k.2 own)
  frame_fits m sp a (f ∷ fs) v k own = (k.0.aligned, k.0.room)

  -- a slot is written
  pub stack_written : (m : Memory) (sp : ℕ) (a : Active) (fs : List Frame) (v word : ℕ) → Stacked m sp a fs
      → is_own a.found v ≡ true → word < 2 ^ 64
      → Stacked (store_bytes 8 m (sp + slot_offset a.found.first v) word) sp
      (record a { locals = set_local v word a.locals }) fs
  stack_written m sp a [] v word k own small = absurd (no_slot a v k.2 own)
  stack_written m sp a (f ∷ fs) v word k own small =
      let at : ℕ = sp + slot_offset a.found.first v in
      let m1 : Memory = store_bytes 8 m at word in
      let inside = slot_inside a.found v own in (
        record {
          slots = λ u x e. slot u x (u == v) refl e;
          aligned = k.0.aligned;
          room = k.0.room;
          back = subst (λ x. Stand x (rest_of f.active.found f.back))
              (sym (load_other 8 8 m at word sp (inl (omega arith)))) k.0.back;
          home = k.0.home;
        },
        stack_same m m1 (sp + frame_size a.found.count) f.active fs
            (λ i h. sym (stored_outside 8 m at word i (inr (omega (arith, inside, h))))) k.1,
      )
    where
      slot : (u x : ℕ) (c : Bool) → (u == v) ≡ c → (if u == v then Some word else a.locals u) ≡ Some x
          → (is_own a.found u ≡ true)
          × (load_bytes 8 (store_bytes 8 m (sp + slot_offset a.found.first v) word)
          (sp + slot_offset a.found.first u) ≡ x)
      slot u x true h e =
          let at : ℕ = sp + slot_offset a.found.first v in
          let same : u ≡ v = equal_of u v h in
          let is : word ≡ x = some_is word x (ap (λ c. if c then Some word else a.locals u) (sym h) ∙ e) in (
            subst (λ z. is_own a.found z ≡ true) (sym same) own,
            ap (λ z. load_bytes 8 (store_bytes 8 m at word) (sp + slot_offset a.found.first z)) same
                ∙ (load_stored 8 m at word small ∙ is),
          )
      slot u x false h e =
          let z = k.0.slots u x (ap (λ c. if c then Some word else a.locals u) (sym h) ∙ e) in
          let o = own_first a.found v own in
          let p = own_first a.found u z.0 in
          let d = slots_apart a.found.first v u o.0 p.0 h in (
            z.0,
            load_other 8 8 m (sp + slot_offset a.found.first v) word (sp + slot_offset a.found.first u)
                (⊎_elim (λ y. inl (omega (arith, y))) (λ y. inr (omega (arith, y))) d) ∙ z.1,
          )

  -- ---- states

  -- what holds wherever the code is
  pub record Body (t : VirtualState) (s : State) : Type 0 where
    pub regs : (r : ℕ) → may_read r ≡ true → get_reg s.regs r ≡ get_reg t.regs r
    pub limit : s.regs 25 ≡ w.top
    pub memory : SameBelow w.top s.memory t.memory
    pub world : s.world ≡ t.world
    pub layout : s.layout ≡ w.layout
    pub fits : (r : ℕ) → s.regs r < 2 ^ 64
    pub bytes : (i : ℕ) → s.memory i < 256
    pub above : w.top ≤ s.regs 2
    pub stack : Stacked s.memory (s.regs 2) t.active t.frames

  -- the machine is at the code of the virtual item
  pub record On (t : VirtualState) (s : State) : Type 0 where
    pub body : Body t s
    pub home : HasHome t.active.found
    pub code : Stand s.pc (rest_of t.active.found t.pc)

  -- the frames fit into the stack
  pub has_room : (t : VirtualState) (s : State) → Body t s
      → nat_le (stack_of t.active.found t.frames) (w.layout.end - w.top) ≡ true
  has_room t s b =
      let e = stack_is s.memory (s.regs 2) t.active t.frames b.stack in
      let h = b.above in grind (arith, e, h)

  -- ---- what is shown

  abbrev pub Same : State → Shown → Type 0
  Same s shown = IsSeenAs w.top s shown

  -- what is shown and printed is that of a state
  pub record Seen (t : VirtualState) (s : State) : Type 0 where
    pub memory : SameBelow w.top s.memory t.memory
    pub stack : s.regs 25 ≡ t.regs 25
    pub alloc : s.regs 26 ≡ t.regs 26
    pub top : s.regs 27 ≡ t.regs 27
    pub world : s.world ≡ t.world
    -- x2 lies in the stack, and the frames fill no less than what is above it
    pub layout : s.layout ≡ w.layout
    pub above : w.top ≤ s.regs 2
    pub used : w.layout.end ≤ s.regs 2 + stack_of t.active.found t.frames

  pub seen_of : (t : VirtualState) (s : State) → Body t s → Seen t s
  seen_of t s b = record {
    memory = b.memory;
    stack = b.regs 25 refl;
    alloc = b.regs 26 refl;
    top = b.regs 27 refl;
    world = b.world;
    layout = b.layout;
    above = b.above;
    used = let e = stack_is s.memory (s.regs 2) t.active t.frames b.stack in omega (arith, e);
  }

  -- registers that are not shown were changed
  pub seen_still : (t : VirtualState) (s : State) (regs : Registers) (pc : ℕ) (r : ℕ) → Seen t s
      → OnlyIn r regs s.regs → (2 == r) ≡ false → (25 == r) ≡ false → (26 == r) ≡ false → (27 == r) ≡ false
      → Seen t (record s { regs = regs; pc = pc })
  seen_still t s regs pc r k only d a b c = record {
    memory = k.memory;
    stack = only 25 a ∙ k.stack;
    alloc = only 26 b ∙ k.alloc;
    top = only 27 c ∙ k.top;
    world = k.world;
    layout = k.layout;
    above = subst (λ x. w.top ≤ x) (sym (only 2 d)) k.above;
    used = subst (λ x. w.layout.end ≤ x + stack_of t.active.found t.frames) (sym (only 2 d)) k.used;
  }

  pub as_alike : (t : VirtualState) (s : State) → Seen t s → Alike Same M N t s
  as_alike t s k = record {
    output = ap (λ (x : WorldState). x.output) k.world;
    shown = record {
      memory = k.memory;
      stack = k.stack;
      alloc = k.alloc;
      top = k.top;
      above = k.above;
      used = subst (λ (l : Layout). l.end ≤ s.regs 2 + frames_size (length t.frames) (held_by t.active.found t.frames))
          (sym k.layout) (let e = stack_held t.active.found t.frames in let u = k.used in omega (arith, e, u));
    };
  }

  abbrev pub Way : VirtualState → VirtualState → State → Type 0
  Way t t1 s = OnTheWay Same Any M N t t1 s

  pub way_first : (t t1 : VirtualState) (s : State) → Seen t s → Way t t1 s
  way_first t t1 s k = (inl (as_alike t s k), tt)

  pub way_second : (t t1 : VirtualState) (s : State) → Seen t1 s → Way t t1 s
  way_second t t1 s k = (inr (as_alike t1 s k), tt)

  -- registers that code may not read were changed, and not x2
  pub body_scratch : (t : VirtualState) (s : State) (regs : Registers) (pc : ℕ) → Body t s
      → ((q : ℕ) → may_read q ≡ true → get_reg regs q ≡ get_reg s.regs q) → regs 2 ≡ s.regs 2
      → ((r : ℕ) → regs r < 2 ^ 64) → Body t (record s { regs = regs; pc = pc })
  body_scratch t s regs pc b same sp fits = record {
    regs = λ r h. same r h ∙ b.regs r h;
    limit = same 25 refl ∙ b.limit;
    memory = b.memory;
    world = b.world;
    layout = b.layout;
    fits = fits;
    bytes = b.bytes;
    above = subst (λ x. w.top ≤ x) (sym sp) b.above;
    stack = subst (λ x. Stacked s.memory x t.active t.frames) (sym sp) b.stack;
  }

  -- the place of the virtual state matters to none of it
  pub body_at : (t : VirtualState) (s : State) (p : ℕ) (known : ℕ → Bool) → Body t s
      → Body (record t { pc = p; known = known }) s
  body_at t s p known b = assumption
