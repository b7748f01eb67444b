-- Sources that an item reads: numbers are put into scratch registers first.
use Rattle.std.proofs.Common.{ℕ, zero, suc, ◌+◌, ◌%◌, ◌^◌, ◌≤◌, ◌≡◌, true, false, Bool, List, ◌++◌}
use Rattle.std.proofs.Common.{Some, None, refl, sym, ◌∙◌, ap, arith}
use Rattle.std.specs.Prelude.{◌==◌, ◌&&◌, ◌||◌, not, if◌then◌else◌}
use Rattle.run_laws.specs.Runs.{Ending}
use Rattle.rv_machine.specs.Registers.{Registers, get_reg, set_reg}
use Rattle.machine_words.specs.Halts.{Halt}
use Rattle.low_ir.specs.Steps.{Locals}
use Rattle.low_ir.specs.declared.code.LowSource.{LowSource}
use Rattle.low_ir.specs.declared.code.LowSource.TheVariants.{Word, Number}
use Rattle.low_ir.specs.Run.{word_of}
use Rattle.rv_select.specs.declared.convention.TheConstants.{THIRD_SCRATCH}
use Rattle.rv_select.specs.declared.convention.TheConstants.{FIRST_SCRATCH, SECOND_SCRATCH, STACK_END, ALLOCATION}
use Rattle.rv_select.specs.declared.convention.TheConstants.{REGION_END}
use Rattle.rv_select.specs.declared.code.VReg.{VReg}
use Rattle.rv_select.specs.declared.code.VReg.TheVariants.{Real, Virtual}
use Rattle.rv_select.specs.declared.code.VirtualItem.{VirtualItem}
use Rattle.rv_select.specs.Run.{Setting, VirtualState, may_read, may_write, is_fixed, also_known, value}
use Rattle.rv_select.specs.Select.{source_reg, source_items}
use Rattle.rv_select.proofs.Stretches.{SameFixed, fixed_self, also_fixed, wrote_real, Stands, stands_past, does_item}
use Rattle.rv_select.proofs.Stretches.{only_is}
use Rattle.rv_select.proofs.Stretches.{PaidWay, prices, beyond}

-- a register for numbers
abbrev pub Scratch : ℕ → Type 0
Scratch r = (may_write r ≡ true) × (may_read r ≡ true) × ((r == 0) ≡ false) × ((r == r) ≡ true)

-- it is another register
abbrev pub NotIn : ℕ → VReg → Type 0
NotIn r (Real q) = (q == r) ≡ false
NotIn r (Virtual v) = Unit {0}

-- registers of which only one may be another than in a state
pub record Kept (t : VirtualState) (r : ℕ) (regs : Registers) (known : ℕ → Bool) : Type 0 where
  pub same : (q : ℕ) → (q == r) ≡ false → regs q ≡ t.regs q
  pub still : (q : ℕ) → t.known q ≡ true → known q ≡ true

-- a register for numbers is none of x25, x26 and x27
pub kept_fixed : {t : VirtualState} {r : ℕ} {regs : Registers} {known : ℕ → Bool} → Kept t r regs known
    → (STACK_END == r) ≡ false → (ALLOCATION == r) ≡ false → (REGION_END == r) ≡ false → SameFixed regs t.regs
kept_fixed kept h k l = record
    { stack = kept.same STACK_END h; alloc = kept.same ALLOCATION k; top = kept.same REGION_END l }

kept_word : (c d k k1 : Bool) (a b w : ℕ) → a ≡ b → (k ≡ true → k1 ≡ true)
    → (if c && (d || k) then Some a else None) ≡ Some w → (if c && (d || k1) then Some b else None) ≡ Some w
kept_word true true k k1 a b w e h f = ap Some (sym e) ∙ f
kept_word true false true k1 a b w e h f = ap (λ z. if z then Some b else None) (h refl) ∙ (ap Some (sym e) ∙ f)
kept_word true false false k1 a b w e h f = absurd (let z : ⊥ = cc in z)
kept_word false d k k1 a b w e h f = f

-- what is in other registers is known as before
pub kept_value : (t : VirtualState) (r : ℕ) (regs : Registers) (known : ℕ → Bool) (pc : ℕ) → Kept t r regs known
    → (v : VReg) (w : ℕ) → NotIn r v → value t v ≡ Some w → value (record t { regs = regs; known = known; pc = pc }) v
    ≡ Some w
kept_value t r regs known pc h (Virtual v) w n e = e
kept_value t r regs known pc h (Real q) w n e =
    kept_word (may_read q) (is_fixed q) (t.known q) (known q) (get_reg t.regs q) (get_reg regs q) w
    (ap (λ x. if q == 0 then 0 else x) (sym (h.same q n))) (h.still q) e

still_known : (c d : Bool) → d ≡ true → (c || d) ≡ true
still_known true d h = refl
still_known false d h = h

-- a register was written: what is in others stays
pub wrote_kept : (t : VirtualState) (r word : ℕ) (v : VReg) (w : ℕ) → NotIn r v → value t v ≡ Some w
    → value (wrote_real r word t) v ≡ Some w
wrote_kept t r word v w n e =
    kept_value t r (set_reg r word t.regs) (also_known r t.known) (suc t.pc) (record {
      same = λ q h. ap (λ c. if c && not (r == 0) then word else t.regs q) h;
      still = λ q h. still_known (q == r) (t.known q) h;
    }) v w n e

-- a source is in no other register than that for numbers
pub source_apart : (first r q : ℕ) (a : LowSource) → (r == q) ≡ false → (0 == q) ≡ false
    → NotIn q (source_reg first r a)
source_apart first r q (Word i) h z = tt
source_apart first r q (Number zero) h z = z
source_apart first r q (Number (suc n)) h z = h

-- a step more where a number is put into a register
abbrev pub fetches : LowSource → ℕ → ℕ
fetches (Word i) k = k
fetches (Number zero) k = k
fetches (Number (suc n)) k = suc k

-- none less
pub fetches_ge : (a : LowSource) (k : ℕ) → k ≤ fetches a k
fetches_ge (Word i) k = omega arith
fetches_ge (Number zero) k = omega arith
fetches_ge (Number (suc n)) k = omega arith

pub first_is_scratch : Scratch FIRST_SCRATCH
first_is_scratch = (refl, refl, refl, refl)

pub second_is_scratch : Scratch SECOND_SCRATCH
second_is_scratch = (refl, refl, refl, refl)

pub third_is_scratch : Scratch THIRD_SCRATCH
third_is_scratch = (refl, refl, refl, refl)

written : (r w : ℕ) (regs : Registers) (known : ℕ → Bool) → Scratch r
    → (if may_read r && (is_fixed r || also_known r known r) then Some (get_reg (set_reg r w regs) r) else None)
    ≡ Some w
written r w regs known sc = steps (may_read r) (is_fixed r) (r == r) (r == 0) sc.1 sc.3 sc.2
  where
    steps : (c d e z : Bool) → c ≡ true → e ≡ true → z ≡ false
        → (if c && (d || (e || known r)) then Some (if z then 0 else (if e && not z then w else regs r)) else None)
        ≡ Some w
    steps true true true false h k m = refl
    steps true false true false h k m = refl
    steps false d e z h k m = absurd (let y : ⊥ = cc in y)
    steps true d false z h k m = absurd (let y : ⊥ = cc in y)
    steps true d true true h k m = absurd (let y : ⊥ = cc in y)

module _ {V : Type 0} (reading : Halt → Ending V) (setting : Setting) where
  module _ (P : VirtualState → Type 0) (Q : ℕ → VirtualState → Type 0) (l : Locals) where
    -- one source is fetched, and then go on
    pub fetch : (r : ℕ) → Scratch r → (a : LowSource) (x : ℕ) (t : VirtualState) (rest : List VirtualItem) (k left : ℕ)
        → word_of l a ≡ Some x → ((i : ℕ) → t.active.locals (t.active.found.first + i) ≡ l i)
        → Stands reading setting t.pc (source_items r a ++ rest) → P t
        → ((regs : Registers) (known : ℕ → Bool) → Kept t r regs known
        → value (record t { regs = regs; known = known; pc = beyond (source_items r a) t.pc })
        (source_reg t.active.found.first r a) ≡ Some x
        → PaidWay reading setting P Q k left
        (record t { regs = regs; known = known; pc = beyond (source_items r a) t.pc }))
        → PaidWay reading setting P Q (fetches a k) (prices setting t.active.found (source_items r a) left) t
    fetch r sc (Word i) x t rest k left e f s p go =
        go t.regs t.known (record { same = λ q h. refl; still = λ q h. h }) (f i ∙ e)
    fetch r sc (Number zero) x t rest k left e f s p go =
        let same : 0 ≡ x = cc in go t.regs t.known (record { same = λ q h. refl; still = λ q h. h }) (ap Some same)
    fetch r sc (Number (suc n)) x t rest k left e f s p go =
        let same : suc n % 2 ^ 64 ≡ x = cc in
        let w : ℕ = suc n % 2 ^ 64 in
        does_item reading setting P Q k left t (wrote_real r w t) _ s.0 (only_is t (may_write r) _ sc.0) p (
        go (set_reg r w t.regs) (also_known r t.known) (record {
          same = λ q h. ap (λ c. if c && not (r == 0) then w else t.regs q) h;
          still = λ q h. still (q == r) (t.known q) h;
        }) (written r w t.regs t.known sc ∙ ap Some same))
      where
        still : (c d : Bool) → d ≡ true → (c || d) ≡ true
        still true d h = refl
        still false d h = h

    -- two sources
    pub fetch_both : (a b : LowSource) (x y : ℕ) (t : VirtualState) (rest : List VirtualItem) (k left : ℕ)
        → word_of l a ≡ Some x → word_of l b ≡ Some y → ((i : ℕ) → t.active.locals (t.active.found.first + i) ≡ l i)
        → Stands reading setting t.pc (source_items FIRST_SCRATCH a ++ (source_items SECOND_SCRATCH b ++ rest))
        → ((regs : Registers) (known : ℕ → Bool) (pc : ℕ) → SameFixed regs t.regs
        → P (record t { regs = regs; known = known; pc = pc })) → ((regs : Registers) (known : ℕ → Bool)
        → SameFixed regs t.regs
        → value (record t {
          regs = regs;
          known = known;
          pc =
              beyond (source_items SECOND_SCRATCH b) (beyond (source_items FIRST_SCRATCH a) t.pc);
        }) (source_reg t.active.found.first FIRST_SCRATCH a) ≡ Some x
        → value (record t {
          regs = regs;
          known = known;
          pc =
              beyond (source_items SECOND_SCRATCH b) (beyond (source_items FIRST_SCRATCH a) t.pc);
        }) (source_reg t.active.found.first SECOND_SCRATCH b) ≡ Some y
        → PaidWay reading setting P Q k left (record t {
          regs = regs;
          known = known;
          pc =
              beyond (source_items SECOND_SCRATCH b) (beyond (source_items FIRST_SCRATCH a) t.pc);
        })) → PaidWay reading setting P Q (fetches a (fetches b k))
        (prices setting t.active.found (source_items FIRST_SCRATCH a)
        (prices setting t.active.found (source_items SECOND_SCRATCH b) left)) t
    fetch_both a b x y t rest k left ae be f s p go =
        fetch FIRST_SCRATCH first_is_scratch a x t (source_items SECOND_SCRATCH b ++ rest) (fetches b k)
        (prices setting t.active.found (source_items SECOND_SCRATCH b) left) ae f s
        (p t.regs t.known t.pc (fixed_self t.regs)) (λ regs known kept va.
        let u : VirtualState = record t
        { regs = regs; known = known; pc = beyond (source_items FIRST_SCRATCH a) t.pc } in
        fetch SECOND_SCRATCH second_is_scratch b y u rest k left be f
        (stands_past reading setting (source_items FIRST_SCRATCH a)
        (source_items SECOND_SCRATCH b ++ rest) t.pc s) (p regs known u.pc (kept_fixed kept refl refl refl))
        (λ regs2 known2 kept2 vb.
        go regs2 known2 (also_fixed (kept_fixed kept2 refl refl refl) (kept_fixed kept refl refl refl))
        (kept_value u SECOND_SCRATCH regs2 known2 (beyond (source_items SECOND_SCRATCH b) u.pc) kept2
        (source_reg t.active.found.first FIRST_SCRATCH a) x (source_apart t.active.found.first FIRST_SCRATCH
        SECOND_SCRATCH a refl refl) va) vb))
