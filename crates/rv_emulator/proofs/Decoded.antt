-- The table of code, and the memory that it was made of.
use Rattle.std.proofs.Common.{ℕ, ◌+◌, ◌-◌, ◌*◌, ◌/◌, ◌%◌, ◌^◌, ◌<◌, ◌≤◌, ◌≡◌, List, [], ◌∷◌, ◌++◌, length, get_or}
use Rattle.std.proofs.Common.{inl, inr, true, false, Option, None, sym, ◌∙◌, ap, arith}
use Rattle.std.proofs.lemmas.Bool.{cases_lt}
use Rattle.std.proofs.lemmas.List.{get_or_read, get_or_push, get_or_append_left, length_push}
use Rattle.std.specs.Prelude.{◌&&◌, nat_le, nat_lt}
use Rattle.rv_isa.specs.declared.inst.Inst.{Inst}
use Rattle.rv_isa.specs.Decoding.{decode_of}
use Rattle.machine_words.specs.Memory.{first_address, Memory, load_bytes, memory_of, from_base}
use Rattle.machine_words.proofs.Public.{load_same}
use Rattle.rv_emulator.specs.declared.processor.Places.{Places}
use Rattle.rv_emulator.specs.Processor.{AreDecoded, IsDecoded}
use Rattle.rv_emulator.proofs.Based.{load_from_base}
use Rattle.rv_emulator.proofs.Sound.{AgreeBelow}

-- the place of a pc in the table; that of one below the code lies past its end
abbrev pub place_of : Places → ℕ → ℕ
place_of p pc = (pc + (2 ^ 64 - p.code)) % 2 ^ 64 / 4

-- where there is an entry for a pc, it is in code, and the entry is what stands there
pub entry_there : (table list : List (Option Inst)) (m : Memory) (p : Places) (pc : ℕ) (o : Option Inst)
    → list ≡ table → IsDecoded table m p → p.code % 4 ≡ 0 → p.region < 2 ^ 64 → pc % 4 ≡ 0 → pc < 2 ^ 64
    → true ≡ nat_lt (place_of p pc) (length list) → o ≡ get_or list (place_of p pc) o
    → (p.code ≤ pc) × (pc < p.region) × (decode_of (load_bytes 4 m pc) ≡ o)
entry_there table list m p pc o same d a r b s t e =
    let count = d.count in
    let len = ap (length {A = Option Inst}) same in
    let inside : place_of p pc < length table = grind arith in
    let above : p.code ≤ pc = omega arith in
    let place : p.code + 4 * place_of p pc ≡ pc = omega arith in (
      above,
      omega arith,
      ap (λ at. decode_of (load_bytes 4 m at)) (sym place) ∙ sym (d.entries _ inside)
          ∙ sym (get_or_read table _ o inside (e ∙ ap (λ l. get_or l (place_of p pc) o) same) None),
    )

-- where there is none, it isn't in code
pub no_entry : (table list : List (Option Inst)) (m : Memory) (p : Places) (pc : ℕ) → list ≡ table
    → IsDecoded table m p → pc < 2 ^ 64 → false ≡ nat_lt (place_of p pc) (length list)
    → (nat_le p.code pc && nat_lt pc p.region) ≡ false
no_entry table list m p pc same d s t =
    let count = d.count in
    let len = ap (length {A = Option Inst}) same in
    let past : length table ≤ place_of p pc = grind arith in
    elim (cases_lt pc p.code) [
      | inl below ↦ grind arith
      | inr from ↦ let end : p.region ≤ pc = omega arith in grind arith
    ]

-- a table stays that of a memory whose code stays
pub still_decoded : (table next : List (Option Inst)) (m n : Memory) (p q : Places) → q.code ≡ p.code
    → q.region ≡ p.region → next ≡ table → AgreeBelow p.region m n → IsDecoded table m p → IsDecoded next n q
still_decoded table next m n p q c r t a d =
    let count = d.count in
    record {
      count = rw (c, r, t) d.count;
      entries = λ i b.
          let inside : i < length table = rw t at b in
          let place : q.code + 4 * i ≡ p.code + 4 * i = ap (λ at. at + 4 * i) c in
          let same : load_bytes 4 n (p.code + 4 * i) ≡ load_bytes 4 m (p.code + 4 * i) =
          load_same 4 n m _ _ (λ j k. a (p.code + 4 * i + j) (omega arith)) in
          ap (λ list. get_or list i None) t ∙ d.entries i inside ∙ ap decode_of (sym same)
          ∙ ap (λ at. decode_of (load_bytes 4 n at)) (sym place);
    }

-- ---- a table that is made

-- one entry more
pub entries_more : (table next : List (Option Inst)) (m : Memory) (from n word : ℕ) (o : Option Inst)
    → AreDecoded table m from → length table ≡ n → word ≡ load_bytes 4 m (from + 4 * n) → o ≡ decode_of word
    → next ≡ table ++ (o ∷ []) → AreDecoded next m from
entries_more table next m from n word o h l w d e i b =
    ap (λ list. get_or list i None) e ∙ elim (cases_lt i n) [
      | inl before ↦ get_or_append_left table (o ∷ []) None i (omega arith) ∙ h i (omega arith)
      | inr past ↦
          let count = length_push table o in
          let all = ap (length {A = Option Inst}) e in
          let last : i ≡ n = omega arith in
          get_or_push table o None i (omega arith) ∙ d ∙ ap decode_of w
          ∙ ap (λ k. decode_of (load_bytes 4 m (from + 4 * k))) (sym last)
    ]

-- the table of what is loaded
pub loaded_decoded : (table : List (Option Inst)) (bytes : List ℕ) (statics : ℕ) (m : Memory) (p : Places)
    → AreDecoded table (memory_of bytes) statics → m ≡ memory_of bytes → p.code ≡ first_address + statics
    → p.code + 4 * length table ≡ p.region → IsDecoded table (from_base m) p
loaded_decoded table bytes statics m p h e c n = record {
  count = n;
  entries = λ i b.
      let place : p.code + 4 * i - first_address ≡ statics + 4 * i = omega arith in
      h i b ∙ ap (λ k. decode_of (load_bytes 4 (memory_of bytes) k)) (sym place)
      ∙ ap (λ (f : Memory). decode_of (load_bytes 4 f (p.code + 4 * i - first_address))) (sym e)
      ∙ ap decode_of (sym (load_from_base 4 m (p.code + 4 * i) (omega arith)));
}
