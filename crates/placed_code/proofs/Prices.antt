-- An item with places becomes no more real items than with a slot for each register.
use Rattle.std.proofs.Common.{ℕ, suc, ◌+◌, ◌%◌, ◌^◌, ◌<◌, ◌≤◌, ◌≡◌, inl, inr, Bool, true, false, List}
use Rattle.std.proofs.Common.{[], ◌∷◌, ◌++◌, refl, sym, ◌∙◌, ap, subst, arith}
use Rattle.std.specs.Prelude.{◌==◌, nat_lt, if◌then◌else◌, length, pos}
use Rattle.rv_isa.specs.declared.inst.Inst.TheVariants.{Jalr, Ld, Sd, Addi, Lui, Addiw, Add as AddInst, Sub as SubInst}
use Rattle.machine_words.specs.declared.conditions.Cond.TheVariants.{Ltu}
use Rattle.rv_machine.specs.declared.real.RealItem.{RealItem}
use Rattle.rv_machine.specs.declared.real.RealItem.TheVariants.{Op, Branch as RealBranch, Jump as RealJump}
use Rattle.rv_machine.specs.declared.real.RealItem.TheVariants.{Address}
use Rattle.rv_select.specs.declared.code.VReg.{VReg}
use Rattle.rv_select.specs.declared.code.VReg.TheVariants.{Real, Virtual}
use Rattle.rv_select.specs.declared.code.Place.{Place}
use Rattle.rv_select.specs.declared.code.Place.TheVariants.{InReg, Slot}
use Rattle.rv_select.specs.declared.code.VirtualItem.{VirtualItem}
use Rattle.rv_select.specs.declared.code.VirtualItem.TheVariants.{Constant, Move, Compute, ComputeWith, Load, Store}
use Rattle.rv_select.specs.declared.code.VirtualItem.TheVariants.{CodeOf, Mark, Procedure, Jump, Branch, Call, CallAt}
use Rattle.rv_select.specs.declared.code.VirtualItem.TheVariants.{TailCall, TailCallAt, Return, Environment}
use Rattle.rv_select.specs.Run.{Found, is_own}
use Rattle.rv_select.specs.Holding.{reads, Among, may_hold}
use Rattle.placed_code.specs.Slots.{is_half, upper_of, lower_of, chunk_of, chunk_items, word_items, slot_offset}
use Rattle.rv_select.specs.Stacks.{frame_size}
use Rattle.placed_code.specs.Slots.{slot_fetch, slot_save_of, slot_save, fetch_items, save_items, register_for}
use Rattle.placed_code.specs.Slots.{constant_items, move_items, raise_items, leave_items, op_inst, op_with, expand}
use Rattle.placed_code.specs.Rename.{densely, named, name, rename, index_of, kept_in}
use Rattle.placed_code.specs.Prices.{word_price, reach, register_price, constant_price, move_price, raise_price}
use Rattle.placed_code.specs.Prices.{leave_price, price, OwnsNamed}
use Rattle.placed_code.proofs.Dense.{near, few}
use Rattle.placed_code.proofs.RenamedPrices.{near_less}
use Rattle.placed_code.proofs.Keeps.{own_first}

-- ---- how long items are

joined : (xs ys : List RealItem) → length (xs ++ ys) ≡ length xs + length ys
joined [] ys = let e : 0 + length ys ≡ length ys = omega arith in sym e
joined (x ∷ xs) ys =
    let e : suc (length xs + length ys) ≡ suc (length xs) + length ys = omega arith in ap suc (joined xs ys) ∙ e

word_length : (rd word : ℕ) → length (word_items rd word) ≡ word_price word
word_length rd word = pick (nat_lt word 2048) (is_half word)
  where
    pick : (c d : Bool) → length (if c then Op (Addi rd 0 (pos word)) ∷ [] else (if d
        then Op (Lui rd (upper_of word)) ∷ Op (Addiw rd rd (lower_of word)) ∷ []
        else Op (Addi rd 0 (pos (chunk_of word 5))) ∷ chunk_items rd word 5))
        ≡ (if c then 1 else (if d then 2 else 11))
    pick true d = refl
    pick false true = refl
    pick false false = refl

fetch_length : (r offset : ℕ) → length (slot_fetch r offset) ≡ reach offset
fetch_length r offset = pick (nat_lt offset 2048)
  where
    pick : (c : Bool) → length (if c then Op (Ld r 2 (pos offset)) ∷ []
        else word_items r offset ++ (Op (AddInst r r 2) ∷ Op (Ld r r (pos 0)) ∷ []))
        ≡ (if c then 1 else word_price offset + 2)
    pick true = refl
    pick false =
        joined (word_items r offset) (Op (AddInst r r 2) ∷ Op (Ld r r (pos 0)) ∷ [])
        ∙ ap (λ n. n + 2) (word_length r offset)

save_length : (r offset : ℕ) → length (slot_save_of r offset) ≡ reach offset
save_length r offset = pick (nat_lt offset 2048)
  where
    pick : (c : Bool) → length (if c then Op (Sd r 2 (pos offset)) ∷ []
        else word_items 29 offset ++ (Op (AddInst 29 29 2) ∷ Op (Sd r 29 (pos 0)) ∷ []))
        ≡ (if c then 1 else word_price offset + 2)
    pick true = refl
    pick false =
        joined (word_items 29 offset) (Op (AddInst 29 29 2) ∷ Op (Sd r 29 (pos 0)) ∷ [])
        ∙ ap (λ n. n + 2) (word_length 29 offset)

fetched_length : (first scratch : ℕ) (a : VReg) → length (fetch_items first scratch a) ≡ register_price first a
fetched_length first scratch (Real r) = refl
fetched_length first scratch (Virtual v) = fetch_length scratch (slot_offset first v)

saved_length : (first : ℕ) (a : VReg) → length (save_items first a) ≡ register_price first a
saved_length first (Real r) = refl
saved_length first (Virtual v) = save_length 28 (slot_offset first v)

constant_length : (first : ℕ) (rd : VReg) (word : ℕ)
    → length (constant_items first rd word) ≡ constant_price first rd word
constant_length first (Real r) word = pick (r == 26)
  where
    pick : (c : Bool)
        → length (if c then word_items 28 word ++ (Op (Addi r 28 (pos 0)) ∷ []) else word_items r word)
        ≡ (if c then word_price word + 1 else word_price word)
    pick true = joined (word_items 28 word) (Op (Addi r 28 (pos 0)) ∷ []) ∙ ap (λ n. n + 1) (word_length 28 word)
    pick false = word_length r word
constant_length first (Virtual v) word =
    joined (word_items 28 word) (slot_save (slot_offset first v))
    ∙ (ap (λ n. n + length (slot_save (slot_offset first v))) (word_length 28 word)
    ∙ ap (λ n. word_price word + n) (save_length 28 (slot_offset first v)))

move_length : (first : ℕ) (rd a : VReg) → length (move_items first rd a) ≡ move_price first rd a
move_length first (Real r) (Real a) = pick (r == a)
  where
    pick : (c : Bool) → length (if c then [] else Op (Addi r a (pos 0)) ∷ []) ≡ (if c then 0 else 1)
    pick true = refl
    pick false = refl
move_length first (Real r) (Virtual v) = pick (r == 26)
  where
    o : ℕ
    o = slot_offset first v

    pick : (c : Bool) → length (if c then slot_fetch 28 o ++ (Op (Addi r 28 (pos 0)) ∷ []) else slot_fetch r o)
        ≡ (if c then reach o + 1 else reach o)
    pick true = joined (slot_fetch 28 o) (Op (Addi r 28 (pos 0)) ∷ []) ∙ ap (λ n. n + 1) (fetch_length 28 o)
    pick false = fetch_length r o
move_length first (Virtual v) (Real a) = save_length a (slot_offset first v)
move_length first (Virtual v) (Virtual u) =
    joined (slot_fetch 28 (slot_offset first u)) (slot_save (slot_offset first v))
    ∙ (ap (λ n. n + length (slot_save (slot_offset first v))) (fetch_length 28 (slot_offset first u))
    ∙ ap (λ n. reach (slot_offset first u) + n) (save_length 28 (slot_offset first v)))

behind : (first scratch : ℕ) (a : VReg) (xs : List RealItem) (n : ℕ) → length xs ≡ n
    → length (fetch_items first scratch a ++ xs) ≡ register_price first a + n
behind first scratch a xs n e =
    joined (fetch_items first scratch a) xs
    ∙ (ap (λ k. k + length xs) (fetched_length first scratch a) ∙ ap (λ k. register_price first a + k) e)

then_saved : (first : ℕ) (x : RealItem) (rd : VReg) → length (x ∷ save_items first rd) ≡ 1 + register_price first rd
then_saved first x rd =
    let e : suc (register_price first rd) ≡ 1 + register_price first rd = omega arith in
    ap suc (saved_length first rd) ∙ e

raise_length : (size : ℕ) → length (raise_items size) ≡ raise_price size
raise_length size = pick (nat_lt size 2048)
  where
    pick : (c : Bool) → length (if c then Op (Addi 2 2 (pos size)) ∷ []
        else word_items 28 size ++ (Op (AddInst 2 2 28) ∷ []))
        ≡ (if c then 1 else word_price size + 1)
    pick true = refl
    pick false =
        joined (word_items 28 size) (Op (AddInst 2 2 28) ∷ []) ∙ ap (λ n. n + 1) (word_length 28 size)

leave_length : (count : ℕ) (xs : List RealItem) (n : ℕ) → length xs ≡ n
    → length (leave_items count ++ xs) ≡ leave_price count + n
leave_length count xs n e =
    let r : ℕ = raise_price (frame_size count) in
    let s : suc r + n ≡ 1 + r + n = omega arith in
    joined (leave_items count) xs
    ∙ (ap (λ k. suc k + length xs) (raise_length (frame_size count)) ∙ (ap (λ k. suc r + k) e ∙ s))

-- the price is what an item becomes
pub price_is : (out first count : ℕ) (item : VirtualItem) → length (expand out first count item) ≡ price first count
    item
price_is out first count (Constant rd word) = constant_length first rd (word % 2 ^ 64)
price_is out first count (Move rd a) = move_length first rd a
price_is out first count (Compute op rd a b) =
    behind first 28 a (fetch_items first 29 b
    ++ (Op (op_inst op (register_for 28 rd) (register_for 28 a) (register_for 29 b)) ∷ save_items first rd))
    (register_price first b + (1 + register_price first rd))
    (behind first 29 b (Op (op_inst op (register_for 28 rd) (register_for 28 a) (register_for 29 b))
    ∷ save_items first rd) (1 + register_price first rd)
    (then_saved first (Op (op_inst op (register_for 28 rd) (register_for 28 a) (register_for 29 b))) rd))
price_is out first count (ComputeWith op rd a n) =
    behind first 28 a (Op (op_with op (register_for 28 rd) (register_for 28 a) n) ∷ save_items first rd)
    (1 + register_price first rd)
    (then_saved first (Op (op_with op (register_for 28 rd) (register_for 28 a) n)) rd)
price_is out first count (Load rd a offset) =
    behind first 28 a (Op (Ld (register_for 28 rd) (register_for 28 a) (pos offset)) ∷ save_items first rd)
    (1 + register_price first rd)
    (then_saved first (Op (Ld (register_for 28 rd) (register_for 28 a) (pos offset))) rd)
price_is out first count (Store b a offset) =
    behind first 28 a (fetch_items first 29 b
    ++ (Op (Sd (register_for 29 b) (register_for 28 a) (pos offset)) ∷ [])) (register_price first b + 1)
    (behind first 29 b (Op (Sd (register_for 29 b) (register_for 28 a) (pos offset)) ∷ []) 1 refl)
price_is out first count (CodeOf rd k) = then_saved first (Address (register_for 28 rd) k) rd
price_is out first count (Mark mark) = refl
price_is out first count (Procedure k first' count') =
    let l = joined (word_items 28 (frame_size count'))
    (Op (SubInst 29 2 25) ∷ RealBranch Ltu 29 28 out ∷ Op (SubInst 2 2 28) ∷ Op (Sd 1 2 (pos 0)) ∷ []) in
    let w = word_length 28 (frame_size count') in
    let s : suc (word_price (frame_size count') + 4) ≡ 1 + (word_price (frame_size count') + 4) = omega arith in
    ap suc (l ∙ ap (λ k. k + 4) w) ∙ s
price_is out first count (Jump mark) = refl
price_is out first count (Branch cond a b mark) =
    behind first 28 a (fetch_items first 29 b ++ (RealBranch cond (register_for 28 a) (register_for 29 b) mark ∷ []))
    (register_price first b + 1)
    (behind first 29 b (RealBranch cond (register_for 28 a) (register_for 29 b) mark ∷ []) 1 refl)
price_is out first count (Call k n) = refl
price_is out first count (CallAt f n) = behind first 28 f (Op (Jalr 1 (register_for 28 f) (pos 0)) ∷ []) 1 refl
price_is out first count (TailCall k n) = leave_length count (RealJump 0 k ∷ []) 1 refl
price_is out first count (TailCallAt f n) =
    behind first 29 f (leave_items count ++ (Op (Jalr 0 (register_for 29 f) (pos 0)) ∷ []))
    (leave_price count + 1)
    (leave_length count (Op (Jalr 0 (register_for 29 f) (pos 0)) ∷ []) 1 refl)
price_is out first count Return = leave_length count (Op (Jalr 0 1 (pos 0)) ∷ []) 1 refl
price_is out first count Environment = refl

-- ---- what is nearer costs no more

word_less : (a b : ℕ) → a ≤ b → b < 2 ^ 63 → word_price a ≤ word_price b
word_less a b h k = pick (nat_lt a 2048) (is_half a) (nat_lt b 2048) (is_half b) refl refl refl refl
  where
    pick : (c d e g : Bool) → nat_lt a 2048 ≡ c → is_half a ≡ d → nat_lt b 2048 ≡ e → is_half b ≡ g
        → (if c then 1 else (if d then 2 else 11)) ≤ (if e then 1 else (if g then 2 else 11))
    pick true d true g x y z u = omega arith
    pick true d false true x y z u = omega arith
    pick true d false false x y z u = omega arith
    pick false true false true x y z u = omega arith
    pick false true false false x y z u = omega arith
    pick false false false false x y z u = omega arith
    pick false d true g x y z u =
        let p : 2048 ≤ a = grind arith in
        let q : b < 2048 = grind arith in absurd (let o : ⊥ = omega (arith, p, q, h) in o)
    pick false false false true x y z u =
        let p : 2 ^ 31 ≤ a = grind arith in
        let q : b < 2 ^ 31 = grind arith in absurd (let o : ⊥ = omega (arith, p, q, h) in o)

word_some : (a : ℕ) → 1 ≤ word_price a
word_some a = pick (nat_lt a 2048) (is_half a)
  where
    pick : (c d : Bool) → 1 ≤ (if c then 1 else (if d then 2 else 11))
    pick true d = omega arith
    pick false true = omega arith
    pick false false = omega arith

reach_less : (a b : ℕ) → a ≤ b → b < 2 ^ 63 → reach a ≤ reach b
reach_less a b h k =
    let z = word_less a b h k in
    near_less 2048 a b 1 (word_price a + 2) 1 (word_price b + 2) h (omega arith) (omega arith) (omega (arith, z))

reach_some : (a : ℕ) → 1 ≤ reach a
reach_some a = pick (nat_lt a 2048)
  where
    pick : (c : Bool) → 1 ≤ (if c then 1 else word_price a + 2)
    pick true = omega arith
    pick false = omega arith

raise_less : (a b : ℕ) → a ≤ b → b < 2 ^ 63 → raise_price a ≤ raise_price b
raise_less a b h k =
    let z = word_less a b h k in
    near_less 2048 a b 1 (word_price a + 1) 1 (word_price b + 1) h (omega arith) (omega arith) (omega (arith, z))

-- a procedure with the slots that are left is entered at no more than with one for each register
pub enter_less : (place : ℕ → Place) (f : Found) (k : ℕ) → f.count < 2 ^ 32
    → price f.first f.count (Procedure k f.first (length (kept_in place f.first f.count)))
    ≤ price f.first f.count (Procedure k f.first f.count)
enter_less place f k small =
    let n = few place f.first f.count in
    let w = word_less (frame_size (length (kept_in place f.first f.count))) (frame_size f.count) (omega (arith, n))
    (omega (arith, small)) in
    omega (arith, w)

module _ (place : ℕ → Place) (allowed : (v r : ℕ) → place v ≡ InReg r → may_hold r ≡ true) (f : Found)
    (small : f.count < 2 ^ 32) where
  abbrev at : VReg → VReg
  at a = name (densely place) f.first f.count a

  abbrev num : ℕ → ℕ
  num i = f.first + index_of i (kept_in place f.first f.count)

  slot_less : (v i : ℕ) → is_own f v ≡ true → place v ≡ Slot i
      → reach (slot_offset f.first (num i)) ≤ reach (slot_offset f.first v)
  slot_less v i own e =
      let o = own_first f v own in
      let k = near place f.first f.count v i o.0 o.1 e in
      reach_less (slot_offset f.first (num i)) (slot_offset f.first v) (omega (arith, k, o.0)) (omega (arith, o.0, o.1))

  abbrev OwnIf : VReg → Type 0
  OwnIf (Real r) = Unit {0}
  OwnIf (Virtual v) = is_own f v ≡ true

  register_less : (a : VReg) → OwnIf a → register_price f.first (at a) ≤ register_price f.first a
  register_less (Real r) h = omega arith
  register_less (Virtual v) h = pick (place v) refl
    where
      pick : (p : Place) → place v ≡ p → register_price f.first (named num p) ≤ reach (slot_offset f.first v)
      pick (InReg r) e = omega arith
      pick (Slot i) e = slot_less v i h e

  not_alloc : (r : ℕ) → may_hold r ≡ true → (r == 26) ≡ false
  not_alloc r h = grind arith

  constant_less : (rd : VReg) (word : ℕ) → OwnIf rd
      → constant_price f.first (at rd) word ≤ constant_price f.first rd word
  constant_less (Real r) word h = omega arith
  constant_less (Virtual v) word h = pick (place v) refl
    where
      pick : (p : Place) → place v ≡ p
          → constant_price f.first (named num p) word ≤ word_price word + reach (slot_offset f.first v)
      pick (InReg r) e =
          let s = reach_some (slot_offset f.first v) in
          subst (λ (c : Bool). (if c then word_price word + 1 else word_price word)
          ≤ word_price word + reach (slot_offset f.first v)) (sym (not_alloc r (allowed v r e))) (omega (arith, s))
      pick (Slot i) e = let k = slot_less v i h e in omega (arith, k)

  move_less : (rd a : VReg) → OwnIf rd → OwnIf a → move_price f.first (at rd) (at a) ≤ move_price f.first rd a
  move_less (Real r) (Real a) h k = omega arith
  move_less (Real r) (Virtual v) h k = pick (place v) refl
    where
      o : ℕ
      o = slot_offset f.first v

      pick : (p : Place) → place v ≡ p
          → move_price f.first (Real r) (named num p) ≤ (if r == 26 then reach o + 1 else reach o)
      pick (InReg q) e = both (r == q) (r == 26)
        where
          both : (c d : Bool) → (if c then 0 else 1) ≤ (if d then reach o + 1 else reach o)
          both true d = omega arith
          both false true = omega arith
          both false false = reach_some o
      pick (Slot i) e = both (r == 26) (slot_less v i k e)
        where
          both : (d : Bool) → reach (slot_offset f.first (num i)) ≤ reach o
              → (if d then reach (slot_offset f.first (num i)) + 1 else reach (slot_offset f.first (num i)))
              ≤ (if d then reach o + 1 else reach o)
          both true l = omega (arith, l)
          both false l = l
  move_less (Virtual v) (Real a) h k = pick (place v) refl
    where
      pick : (p : Place) → place v ≡ p → move_price f.first (named num p) (Real a) ≤ reach (slot_offset f.first v)
      pick (InReg q) e = both (q == a)
        where
          both : (c : Bool) → (if c then 0 else 1) ≤ reach (slot_offset f.first v)
          both true = omega arith
          both false = reach_some (slot_offset f.first v)
      pick (Slot i) e = slot_less v i h e
  move_less (Virtual v) (Virtual u) h k = pick (place v) (place u) refl refl
    where
      ov : ℕ
      ov = slot_offset f.first v

      ou : ℕ
      ou = slot_offset f.first u

      pick : (p q : Place) → place v ≡ p → place u ≡ q
          → move_price f.first (named num p) (named num q) ≤ reach ou + reach ov
      pick (InReg r) (InReg s) d e = both (r == s) (reach_some ou)
        where
          both : (c : Bool) → 1 ≤ reach ou → (if c then 0 else 1) ≤ reach ou + reach ov
          both true l = omega arith
          both false l = omega (arith, l)
      pick (InReg r) (Slot i) d e = both (r == 26) (slot_less u i k e) (reach_some ov)
        where
          both : (c : Bool) → reach (slot_offset f.first (num i)) ≤ reach ou → 1 ≤ reach ov
              → (if c then reach (slot_offset f.first (num i)) + 1 else reach (slot_offset f.first (num i)))
              ≤ reach ou + reach ov
          both true l m = omega (arith, l, m)
          both false l m = omega (arith, l)
      pick (Slot i) (InReg r) d e = let l = slot_less v i h d in omega (arith, l)
      pick (Slot i) (Slot j) d e =
          let l = slot_less v i h d in
          let m = slot_less u j k e in omega (arith, l, m)

  own_if : (xs : List VReg) (a : VReg) → ((v : ℕ) → Among (Virtual v) xs → is_own f v ≡ true) → Among a xs → OwnIf a
  own_if xs (Real r) h m = tt
  own_if xs (Virtual v) h m = h v m

  frame_less : raise_price (frame_size (length (kept_in place f.first f.count))) ≤ raise_price (frame_size f.count)
  frame_less =
      let k = few place f.first f.count in
      raise_less (frame_size (length (kept_in place f.first f.count))) (frame_size f.count) (omega (arith, k))
      (omega (arith, small))

  abbrev kept : ℕ
  kept = length (kept_in place f.first f.count)

  -- an item of the procedure costs no more under its other names
  pub price_less : (item : VirtualItem) → OwnsNamed f item
      → price f.first kept (rename at item) ≤ price f.first f.count item
  price_less (Constant rd word) h =
      constant_less rd (word % 2 ^ 64) (own_if (rd ∷ []) rd h.0 (inl refl))
  price_less (Move rd a) h = move_less rd a (own_if (rd ∷ []) rd h.0 (inl refl)) (own_if (a ∷ []) a h.1 (inl refl))
  price_less (Compute op rd a b) h =
      let x = register_less rd (own_if (rd ∷ []) rd h.0 (inl refl)) in
      let y = register_less a (own_if (a ∷ b ∷ []) a h.1 (inl refl)) in
      let z = register_less b (own_if (a ∷ b ∷ []) b h.1 (inr (inl refl))) in omega (arith, x, y, z)
  price_less (ComputeWith op rd a n) h =
      let x = register_less rd (own_if (rd ∷ []) rd h.0 (inl refl)) in
      let y = register_less a (own_if (a ∷ []) a h.1 (inl refl)) in omega (arith, x, y)
  price_less (Load rd a offset) h =
      let x = register_less rd (own_if (rd ∷ []) rd h.0 (inl refl)) in
      let y = register_less a (own_if (a ∷ []) a h.1 (inl refl)) in omega (arith, x, y)
  price_less (Store b a offset) h =
      let y = register_less a (own_if (a ∷ b ∷ []) a h.1 (inl refl)) in
      let z = register_less b (own_if (a ∷ b ∷ []) b h.1 (inr (inl refl))) in omega (arith, y, z)
  price_less (CodeOf rd k) h =
      let x = register_less rd (own_if (rd ∷ []) rd h.0 (inl refl)) in omega (arith, x)
  price_less (Mark mark) h = omega arith
  price_less (Procedure k first count) h = omega arith
  price_less (Jump mark) h = omega arith
  price_less (Branch cond a b mark) h =
      let y = register_less a (own_if (a ∷ b ∷ []) a h.1 (inl refl)) in
      let z = register_less b (own_if (a ∷ b ∷ []) b h.1 (inr (inl refl))) in omega (arith, y, z)
  price_less (Call k n) h = omega arith
  price_less (CallAt a n) h =
      let y = register_less a (own_if (reads (CallAt a n)) a h.1 (inl refl)) in omega (arith, y)
  price_less (TailCall k n) h = let x = frame_less in omega (arith, x)
  price_less (TailCallAt a n) h =
      let x = frame_less in
      let y = register_less a (own_if (reads (TailCallAt a n)) a h.1 (inl refl)) in omega (arith, x, y)
  price_less Return h = let x = frame_less in omega (arith, x)
  price_less Environment h = omega arith
