-- Memory as the program keeps it, from 0, and as the machine sees it, from its first address.
use Rattle.std.proofs.Common.{ℕ, zero, suc, ◌+◌, ◌-◌, ◌%◌, ◌<◌, ◌≤◌, ◌≡◌, Bool, true, false, Option, refl, sym}
use Rattle.std.proofs.Common.{◌∙◌, ap, arith}
use Rattle.std.proofs.Math.Path.{fun_ext}
use Rattle.std.specs.Prelude.{nat_le, nat_lt, ◌&&◌, ◌==◌, if◌then◌else◌}
use Rattle.std.specs.Int.{Width, byte_len}
use Rattle.rv_isa.specs.declared.inst.Inst.{Inst}
use Rattle.rv_isa.specs.Decoding.{decode_of}
use Rattle.machine_words.specs.Memory.{first_address, Memory, load_bytes, store_bytes, from_base}
use Rattle.rv_machine.specs.State.{State, Next}
use Rattle.machine_words.specs.declared.faults.MachineFault.TheVariants.{BadAddress}
use Rattle.machine_words.specs.Arithmetic.{sign_extend}
use Rattle.rv_machine.specs.Turn.{put, load_into, store_from, next_pc, turn_of, act_if, goes_wrong}

pub load_from_base : (k : ℕ) (m : Memory) (at : ℕ) → first_address ≤ at
    → load_bytes k (from_base m) at ≡ load_bytes k m (at - first_address)
unfolding load_bytes
load_from_base zero m at h = refl
load_from_base (suc k) m at h =
    let a : load_bytes k (from_base m) at ≡ load_bytes k m (at - first_address) = load_from_base k m at h in
    let b : from_base m (at + k) ≡ m (at + k - first_address) = grind arith in
    let c : at + k - first_address ≡ at - first_address + k = omega arith in
    rw (a, b, c)

store_at_base : (k : ℕ) (m : Memory) (at word i : ℕ) → first_address ≤ at
    → from_base (store_bytes k m (at - first_address) word) i ≡ store_bytes k (from_base m) at word i
unfolding store_bytes
store_at_base k m at word i h = grind arith

pub store_from_base : (k : ℕ) (m : Memory) (at word : ℕ) → first_address ≤ at
    → from_base (store_bytes k m (at - first_address) word) ≡ store_bytes k (from_base m) at word
store_from_base k m at word h = fun_ext (λ i. store_at_base k m at word i h)

both_le : (a b c d : ℕ) → a ≤ b → c ≤ d → (nat_le a b && nat_le c d) ≡ true
both_le a b c d h k = grind arith

is_zero : (n : ℕ) → n ≡ 0 → (n == 0) ≡ true
is_zero n h = grind arith

-- a load that reads this word
pub load_goes : (signed : Bool) (w : Width) (rd at word n : ℕ) (s : State) (m : Memory) → s.memory ≡ from_base m
    → at % byte_len w ≡ 0 → first_address ≤ at → at + byte_len w ≤ s.layout.end
    → n ≡ load_bytes (byte_len w) m (at - first_address) → word ≡ (if signed then sign_extend w n else n)
    → load_into signed w rd at s ≡ put rd word s
load_goes signed w rd at word n s m e a b c f g =
    let h : load_bytes (byte_len w) s.memory at ≡ n = rw e (load_from_base (byte_len w) m at b ∙ sym f) in
    rw (is_zero (at % byte_len w) a, both_le first_address at (at + byte_len w) s.layout.end b c, h, g)

-- a store that leaves this memory
pub store_goes : (w : Width) (word at : ℕ) (s : State) (m n : Memory) → s.memory ≡ from_base m → at % byte_len w ≡ 0
    → first_address ≤ at → s.layout.region ≤ at → at + byte_len w ≤ s.layout.end
    → n ≡ store_bytes (byte_len w) m (at - first_address) word
    → store_from w word at s ≡ Next (record s { memory = from_base n; pc = next_pc s })
store_goes w word at s m n e a b r c f =
    rw (
      is_zero (at % byte_len w) a,
      both_le s.layout.region at (at + byte_len w) s.layout.end r c,
      f,
      store_from_base (byte_len w) m at word b,
      e,
    )

le_lt : (a b c d : ℕ) → a ≤ b → c < d → (nat_le a b && nat_lt c d) ≡ true
le_lt a b c d h k = grind arith

-- a turn of what stands at the pc
pub turn_inside : (s : State) (o : Option Inst) → s.layout.code ≤ s.pc → s.pc < s.layout.region
    → decode_of (load_bytes 4 s.memory s.pc) ≡ o → turn_of s ≡ act_if o s
unfolding turn_of
turn_inside s o h k d =
    let t : turn_of s ≡ act_if (decode_of (load_bytes 4 s.memory s.pc)) s = rw
    (le_lt s.layout.code s.pc s.pc s.layout.region h k) in
    t ∙ ap (λ x. act_if x s) d

-- a pc outside the code
pub turn_outside : (s : State) → (nat_le s.layout.code s.pc && nat_lt s.pc s.layout.region) ≡ false
    → turn_of s ≡ goes_wrong BadAddress s
unfolding turn_of
turn_outside s e = rw e
