-- Words that a call hands on: moved into registers by the caller, and out of them by the procedure.
use Rattle.std.proofs.Common.{ℕ, zero, suc, ◌+◌, ◌<◌, ◌≤◌, ◌≡◌, true, false, Bool, List, [], ◌∷◌}
use Rattle.std.proofs.Common.{◌++◌, Option, Some, None, refl, sym, ◌∙◌, ap, subst, arith}
use Rattle.std.specs.Prelude.{◌%◌, ◌^◌, ◌==◌, ◌&&◌, ◌||◌, if◌then◌else◌, length}
use Rattle.run_laws.specs.Runs.{Ending}
use Rattle.run_laws.specs.Machines.{Go}
use Rattle.rv_machine.specs.Registers.{Registers, get_reg, set_reg}
use Rattle.machine_words.specs.Halts.{Halt}
use Rattle.low_ir.specs.Steps.{Locals, set_local}
use Rattle.low_ir.specs.declared.code.LowSource.{LowSource}
use Rattle.low_ir.specs.declared.code.LowSource.TheVariants.{Word, Number}
use Rattle.low_ir.specs.Run.{word_of, words_of, and_more, bind}
use Rattle.rv_select.specs.declared.convention.TheConstants.{FIRST_ARGUMENT, STACK_END, ALLOCATION, REGION_END}
use Rattle.rv_select.specs.declared.code.VReg.TheVariants.{Real, Virtual}
use Rattle.rv_select.specs.declared.code.VirtualItem.{VirtualItem}
use Rattle.rv_select.specs.Run.{Setting, Found, VirtualState, may_read, may_write, is_fixed, also_known, is_own}
use Rattle.rv_select.specs.Run.{puts, item_step}
use Rattle.rv_select.specs.Select.{put_item, args_items, params_items}
use Rattle.rv_select.proofs.Stretches.{SameFixed, fixed_self, also_fixed, wrote_real, wrote_local, Stands, does_item}
use Rattle.rv_select.proofs.Stretches.{move_local, write_local, given_is}
use Rattle.rv_select.proofs.Stretches.{SameFixed, fixed_self, also_fixed, only_is, PaidWay, prices, more, beyond}

-- the words of some sources are those of the first and of the rest
pub words_cons : (o : Option ℕ) (r : Option (List ℕ)) (ws : List ℕ) → and_more o r ≡ Some ws → (x : ℕ) × (xs : List ℕ)
    × (o ≡ Some x) × (r ≡ Some xs) × (ws ≡ x ∷ xs)
words_cons None r ws e = absurd (cc)
words_cons (Some x) None ws e = absurd (cc)
words_cons (Some x) (Some xs) ws e = (x, xs, refl, refl, cc)

-- ---- words in registers

-- the registers after words were handed on
abbrev pub args_regs : ℕ → List ℕ → Registers → Registers
args_regs from [] regs = regs
args_regs from (w ∷ ws) regs = args_regs (suc from) ws (set_reg (FIRST_ARGUMENT + from) w regs)

-- and those that are known then
abbrev pub args_known : ℕ → List ℕ → (ℕ → Bool) → ℕ → Bool
args_known from [] known = known
args_known from (w ∷ ws) known = args_known (suc from) ws (also_known (FIRST_ARGUMENT + from) known)

-- what was known stays known
pub known_low : (ws : List ℕ) (from q : ℕ) (known : ℕ → Bool) → known q ≡ true → args_known from ws known q ≡ true
known_low [] from q known h = h
known_low (w ∷ ws) from q known h =
    known_low ws (suc from) q (also_known (FIRST_ARGUMENT + from) known) (kept (q == FIRST_ARGUMENT + from))
  where
    kept : (c : Bool) → (c || known q) ≡ true
    kept true = refl
    kept false = h

-- each word that was moved is known
pub known_args : (ws : List ℕ) (from i : ℕ) (known : ℕ → Bool) → from ≤ i → i < from + length ws
    → args_known from ws known (FIRST_ARGUMENT + i) ≡ true
known_args [] from i known h k = absurd (let z : ⊥ = omega (arith, h, k) in z)
known_args (w ∷ ws) from i known h k =
    pick (i == from) refl (λ later. known_args ws (suc from) i (also_known (FIRST_ARGUMENT + from) known) later
    (omega (arith, k)))
  where
    pick : (c : Bool) → (i == from) ≡ c
        → (suc from ≤ i
        → args_known (suc from) ws (also_known (FIRST_ARGUMENT + from) known) (FIRST_ARGUMENT + i) ≡ true)
        → args_known from (w ∷ ws) known (FIRST_ARGUMENT + i) ≡ true
    pick true e ih =
        let same : (FIRST_ARGUMENT + i == FIRST_ARGUMENT + from) ≡ true = grind arith in
        known_low ws (suc from) (FIRST_ARGUMENT + i) (also_known (FIRST_ARGUMENT + from) known)
        (ap (λ c. c || known (FIRST_ARGUMENT + i)) same)
    pick false e ih = let later : suc from ≤ i = grind arith in ih later

-- as many words as sources
pub words_length : (l : Locals) (args : List LowSource) (ws : List ℕ) → words_of l args ≡ Some ws
    → length ws ≡ length args
words_length l [] ws e = let same : ws ≡ [] = cc in ap length same
words_length l (a ∷ args) ws e =
    let c = words_cons (word_of l a) (words_of l args) ws e in
    ap length c.4 ∙ ap (λ n. suc n) (words_length l args c.1 c.3)

-- words stand in registers from this one on
abbrev pub HasArgs : Registers → ℕ → List ℕ → Type 0
HasArgs regs from [] = Unit {0}
HasArgs regs from (w ∷ ws) = (get_reg regs (FIRST_ARGUMENT + from) ≡ w) × HasArgs regs (suc from) ws

other_reg : (r q word : ℕ) (regs : Registers) → (q == r) ≡ false → set_reg r word regs q ≡ regs q
other_reg r q word regs h = rw h refl

same_reg : (from word : ℕ) (regs : Registers) → set_reg (FIRST_ARGUMENT + from) word regs (FIRST_ARGUMENT + from) ≡ word
same_reg from word regs =
    let a : (FIRST_ARGUMENT + from == FIRST_ARGUMENT + from) ≡ true = grind arith in
    let b : (FIRST_ARGUMENT + from == 0) ≡ false = grind arith in rw (a, b) refl

get_arg : (from : ℕ) (regs : Registers) → get_reg regs (FIRST_ARGUMENT + from) ≡ regs (FIRST_ARGUMENT + from)
get_arg from regs = let b : (FIRST_ARGUMENT + from == 0) ≡ false = grind arith in rw b refl

differ : (q from : ℕ) → q < FIRST_ARGUMENT + from → (q == FIRST_ARGUMENT + from) ≡ false
differ q from h = grind arith

differ_high : (q from n : ℕ) → from + suc n ≤ 8 → 18 ≤ q → (q == FIRST_ARGUMENT + from) ≡ false
differ_high q from n h k = grind arith

-- registers below those stay
pub args_low : (ws : List ℕ) (from q : ℕ) (regs : Registers) → q < FIRST_ARGUMENT + from
    → args_regs from ws regs q ≡ regs q
args_low [] from q regs h = refl
args_low (w ∷ ws) from q regs h =
    args_low ws (suc from) q (set_reg (FIRST_ARGUMENT + from) w regs) (omega arith)
    ∙ other_reg (FIRST_ARGUMENT + from) q w regs (differ q from h)

-- registers above those stay
pub args_high : (ws : List ℕ) (from q : ℕ) (regs : Registers) → from + length ws ≤ 8 → 18 ≤ q
    → args_regs from ws regs q ≡ regs q
args_high [] from q regs h k = refl
args_high (w ∷ ws) from q regs h k =
    args_high ws (suc from) q (set_reg (FIRST_ARGUMENT + from) w regs) (omega arith) k
    ∙ other_reg (FIRST_ARGUMENT + from) q w regs (differ_high q from (length ws) h k)

-- and so do x25, x26 and x27
pub args_fixed : (ws : List ℕ) (regs : Registers) → length ws ≤ 8 → SameFixed (args_regs 0 ws regs) regs
args_fixed ws regs h = record {
  stack = args_high ws 0 STACK_END regs (omega (arith, h)) (omega arith);
  alloc = args_high ws 0 ALLOCATION regs (omega (arith, h)) (omega arith);
  top = args_high ws 0 REGION_END regs (omega (arith, h)) (omega arith);
}

arg_fixed : (from word : ℕ) (regs : Registers) (n : ℕ) → from + suc n ≤ 8
    → SameFixed (set_reg (FIRST_ARGUMENT + from) word regs) regs
arg_fixed from word regs n h = record {
  stack = other_reg (FIRST_ARGUMENT + from) STACK_END word regs (differ_high STACK_END from n h (omega arith));
  alloc = other_reg (FIRST_ARGUMENT + from) ALLOCATION word regs (differ_high ALLOCATION from n h (omega arith));
  top = other_reg (FIRST_ARGUMENT + from) REGION_END word regs (differ_high REGION_END from n h (omega arith));
}

-- the words stand where they are handed on
pub has_args : (ws : List ℕ) (from : ℕ) (regs : Registers) → HasArgs (args_regs from ws regs) from ws
has_args [] from regs = tt
has_args (w ∷ ws) from regs = (
  get_arg from (args_regs (suc from) ws (set_reg (FIRST_ARGUMENT + from) w regs))
      ∙ (args_low ws (suc from) (FIRST_ARGUMENT + from) (set_reg (FIRST_ARGUMENT + from) w regs) (omega arith)
      ∙ same_reg from w regs),
  has_args ws (suc from) (set_reg (FIRST_ARGUMENT + from) w regs),
)

-- ---- words out of registers

-- the words of a procedure after it took some from the registers
abbrev pub params_locals : ℕ → ℕ → ℕ → Registers → Locals → Locals
params_locals first from zero regs L = L
params_locals first from (suc n) regs L =
    params_locals first (suc from) n regs (set_local (first + from) (get_reg regs (FIRST_ARGUMENT + from)) L)

shifted : (first i d : ℕ) → (first + i == first + d) ≡ (i == d)
shifted first i d = grind arith

-- a word is set in both
pub set_shifted : (first d word i : ℕ) (L l : Locals) → L (first + i) ≡ l i
    → set_local (first + d) word L (first + i) ≡ set_local d word l i
set_shifted first d word i L l e = rw (shifted first i d, e) refl

-- a procedure has the words that it was handed
pub bound : (ws : List ℕ) (first from n : ℕ) (regs : Registers) (L l : Locals) → n ≡ length ws
    → ((i : ℕ) → L (first + i) ≡ l i) → HasArgs regs from ws → (i : ℕ)
    → params_locals first from n regs L (first + i) ≡ bind from ws l i
bound [] first from zero regs L l e h k i = h i
bound [] first from (suc n) regs L l e h k i = absurd (omega (arith, e))
bound (w ∷ ws) first from zero regs L l e h k i = absurd (omega (arith, e))
bound (w ∷ ws) first from (suc n) regs L l e h k i =
    bound ws first (suc from) n regs (set_local (first + from) (get_reg regs (FIRST_ARGUMENT + from)) L)
    (set_local from w l)
    (omega (arith, e)) (λ j. ap (λ x. set_local (first + from) x L (first + j)) k.0
    ∙ set_shifted first from w j L l (h j)) k.1 i

-- ---- the items

readable : (from n : ℕ) → from + suc n ≤ 8 → may_read (FIRST_ARGUMENT + from) ≡ true
readable from n h = grind arith

writable : (from n : ℕ) → from + suc n ≤ 8 → may_write (FIRST_ARGUMENT + from) ≡ true
writable from n h = grind arith

module _ {V : Type 0} (reading : Halt → Ending V) (setting : Setting) where
  -- a source is put into a local or a register
  pub put_local : (t : VirtualState) (l : Locals) (v : ℕ) (a : LowSource) (x : ℕ) → word_of l a ≡ Some x
      → ((i : ℕ) → t.active.locals (t.active.found.first + i) ≡ l i) → is_own t.active.found v ≡ true
      → item_step reading setting (put_item t.active.found.first (Virtual v) a) t ≡ Go (wrote_local v x t)
  put_local t l v (Word i) x e f h = move_local reading setting t v (Virtual (t.active.found.first + i)) x (f i ∙ e) h
  put_local t l v (Number n) x e f h =
      let same : n % 2 ^ 64 ≡ x = cc in ap (λ w. puts reading setting (Virtual v) w t) same
      ∙ write_local reading setting t v x h

  -- a source is put into a real register
  pub put_real : (t : VirtualState) (l : Locals) (r : ℕ) (a : LowSource) (x : ℕ) → word_of l a ≡ Some x
      → ((i : ℕ) → t.active.locals (t.active.found.first + i) ≡ l i) → may_write r ≡ true
      → item_step reading setting (put_item t.active.found.first (Real r) a) t ≡ Go (wrote_real r x t)
  put_real t l r (Word i) x e f h = given_is t _ x _ (f i ∙ e) ∙ only_is t (may_write r) _ h
  put_real t l r (Number n) x e f h =
      let same : n % 2 ^ 64 ≡ x = cc in ap (λ w. puts reading setting (Real r) w t) same ∙ only_is t (may_write r) _ h

  module _ (P : VirtualState → Type 0) (Q : ℕ → VirtualState → Type 0) (rest : List VirtualItem) (l : Locals)
      (k left : ℕ) where
    -- words are handed on, one step each
    pub hands : (args : List LowSource) (ws : List ℕ) (from : ℕ) (t : VirtualState) → words_of l args ≡ Some ws
        → ((i : ℕ) → t.active.locals (t.active.found.first + i) ≡ l i) → from + length ws ≤ 8
        → Stands reading setting t.pc (args_items t.active.found.first from args ++ rest)
        → ((regs : Registers) (known : ℕ → Bool) (pc : ℕ) → SameFixed regs t.regs
        → P (record t { regs = regs; known = known; pc = pc }))
        → PaidWay reading setting P Q k left (record t {
          regs = args_regs from ws t.regs;
          known =
              args_known from ws t.known;
          pc = beyond (args_items t.active.found.first from args) t.pc;
        })
        → PaidWay reading setting P Q (more args k)
        (prices setting t.active.found (args_items t.active.found.first from args) left) t
    hands [] ws from t e h f s p r =
        let same : [] ≡ ws = cc in
        subst (λ xs. PaidWay reading setting P Q k left
        (record t { regs = args_regs from xs t.regs; known = args_known from xs t.known })) (sym same) r
    hands (a ∷ args) ws from t e h f s p r =
        let c = words_cons (word_of l a) (words_of l args) ws e in
        let t1 : VirtualState = wrote_real (FIRST_ARGUMENT + from) c.0 t in
        let f1 : from + length (c.0 ∷ c.1) ≤ 8 = subst (λ xs. from + length xs ≤ 8) c.4 f in
        let r1 : PaidWay reading setting P Q k left (record t {
          regs = args_regs from (c.0 ∷ c.1) t.regs;
          known = args_known from (c.0 ∷ c.1) t.known;
          pc =
              beyond (args_items t.active.found.first from (a ∷ args)) t.pc;
        }) =
        subst (λ xs. PaidWay reading setting P Q k left
        (record t {
          regs = args_regs from xs t.regs;
          known = args_known from xs t.known;
          pc =
              beyond (args_items t.active.found.first from (a ∷ args)) t.pc;
        })) c.4 r in
        let f2 : from + suc (length c.1) ≤ 8 = omega (arith, f1) in
        let f3 : suc from + length c.1 ≤ 8 = omega (arith, f1) in
        does_item reading setting P Q (more args k) (prices setting t.active.found
        (args_items t.active.found.first (suc from) args) left) t t1 _ s.0
        (put_real t l (FIRST_ARGUMENT + from) a c.0 c.2 h
        (writable from (length c.1) f2)) (p t.regs t.known t.pc (fixed_self t.regs)) (
        hands args c.1 (suc from) t1 c.3 h f3 s.1 (λ regs known pc q.
        p regs known pc (also_fixed q (arg_fixed from c.0 t.regs (length c.1) f2))) r1)

  -- so many steps more
  abbrev pub plus_steps : ℕ → ℕ → ℕ
  plus_steps zero k = k
  plus_steps (suc n) k = suc (plus_steps n k)

  -- which is their sum
  pub plus_is : (n k : ℕ) → plus_steps n k ≡ n + k
  plus_is zero k = let e : k ≡ 0 + k = omega arith in e
  plus_is (suc n) k = let i : plus_steps n k ≡ n + k = plus_is n k in let e : suc (n + k) ≡ suc n + k = omega arith in
      ap suc i ∙ e

  or_known : {b : Bool} (a : Bool) → b ≡ true → (a || b) ≡ true
  or_known true h = refl
  or_known false h = h

  own : (f : Found) (from n : ℕ) → from + suc n ≤ f.count → is_own f (f.first + from) ≡ true
  own f from n h = grind arith

  module _ (P : VirtualState → Type 0) (Q : ℕ → VirtualState → Type 0) (rest : List VirtualItem) (k left : ℕ) where
    -- parameters are taken, one step each
    pub takes : (n from : ℕ) (t : VirtualState)
        → ((i : ℕ) → from ≤ i → i < from + n → t.known (FIRST_ARGUMENT + i) ≡ true)
        → from + n ≤ 8 → from + n ≤ t.active.found.count
        → Stands reading setting t.pc (params_items t.active.found.first from n ++ rest)
        → ((L : Locals) (pc : ℕ) → P (record t { active = record t.active { locals = L }; pc = pc }))
        → PaidWay reading setting P Q k left (record t {
          active =
              record t.active { locals = params_locals t.active.found.first from n t.regs t.active.locals };
          pc =
              beyond (params_items t.active.found.first from n) t.pc;
        })
        → PaidWay reading setting P Q (plus_steps n k)
        (prices setting t.active.found (params_items t.active.found.first from n) left) t
    takes zero from t kn f g s p r = r
    takes (suc n) from t kn f g s p r =
        let word : ℕ = get_reg t.regs (FIRST_ARGUMENT + from) in
        let t1 : VirtualState = wrote_local (t.active.found.first + from) word t in
        does_item reading setting P Q (plus_steps n k) (prices setting t.active.found
        (params_items t.active.found.first (suc from) n) left) t t1 _ s.0 (move_local reading setting t
        (t.active.found.first + from) (Real (FIRST_ARGUMENT + from)) word
        (ap (λ b. if b && (is_fixed (FIRST_ARGUMENT + from) || t.known (FIRST_ARGUMENT + from)) then Some word else
        None)
        (readable from n f) ∙ ap (λ b. if b then Some word else None)
        (or_known (is_fixed (FIRST_ARGUMENT + from)) (kn from (omega arith) (omega arith))))
        (own t.active.found from n g))
        (p t.active.locals t.pc) (
        takes n (suc from) t1 (λ i h k. kn i (omega (arith, h)) (omega (arith, k))) (omega (arith, f))
        (omega (arith, g)) s.1 (λ L pc. p L pc) r)
