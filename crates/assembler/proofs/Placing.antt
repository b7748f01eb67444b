-- The bytes of a code, in memory, are the words of its items.
use Rattle.std.proofs.Common.{ℕ, zero, suc, ◌+◌, ◌*◌, ◌/◌, ◌%◌, ◌^◌, ◌<◌, ◌≤◌, ◌≡◌, List, [], ◌∷◌, ◌++◌, length, take}
use Rattle.std.proofs.Common.{drop, refl, sym, ◌∙◌, ap, arith, append_assoc, length-append}
use Rattle.std.specs.Prelude.{flat_map, slice_index}
use Rattle.std.proofs.lemmas.List.Sums.{sum_by-cons}
use Rattle.rv_isa.specs.declared.inst.Inst.{Inst}
use Rattle.rv_machine.specs.declared.real.RealItem.{RealItem}
use Rattle.rv_isa.specs.Decoding.{decode_of}
use Rattle.rv_isa.specs.Encoding.{encode_of}
use Rattle.machine_words.specs.Memory.{Memory, load_bytes}
use Rattle.rv_machine.specs.State.{Layout}
use Rattle.assembler.specs.Layout.{words_before, widths_from, longest_widths}
use Rattle.assembler.specs.Expansion.{item_insts, insts_from}
use Rattle.assembler.specs.Imaging.{half_bytes, inst_words}
use Rattle.assembler.specs.Encoded.{AllDecode}
use Rattle.assembler.proofs.Insts.{item_long_at}
use Rattle.assembler.proofs.Finding.{head_of, width_at}
use Rattle.assembler.proofs.Standing.{Stands}

-- ---- the instructions before an item, its own, and those behind it

pub record Split (items : List RealItem) (start from place : ℕ) (xs : List RealItem) (item : RealItem) : Type 0 where
  pub front : List Inst
  pub behind : List Inst
  pub whole : insts_from items start from xs ≡ front ++ (item_insts items start (from + place) item ++ behind)
  pub long : length front ≡ words_before (widths_from (longest_widths items) items start from xs) place

pub split : (items : List RealItem) (start from place : ℕ) (xs : List RealItem) (item : RealItem)
    (rest : List RealItem) → drop place xs ≡ item ∷ rest → Split items start from place xs item
split items start from zero [] item rest e = absurd (let f : ⊥ = cc in f)
split items start from (suc place) [] item rest e = absurd (let f : ⊥ = cc in f)
split items start from zero (x ∷ xs) item rest e =
    let h : x ≡ item = head_of x item xs rest e in
    let z : from ≡ from + 0 = omega arith in
    record {
      front = [];
      behind = insts_from items start (suc from) xs;
      whole = ap (λ y. item_insts items start from y ++ insts_from items start (suc from) xs) h
          ∙ ap (λ n. item_insts items start n item ++ insts_from items start (suc from) xs) z;
      long = refl;
    }
split items start from (suc place) (x ∷ xs) item rest e =
    let s = split items start (suc from) place xs item rest e in
    let z : suc from + place ≡ from + suc place = omega arith in
    let own : List Inst = item_insts items start from x in
    let w : ℕ = width_at items start from x in
    record {
      front = own ++ s.front;
      behind = s.behind;
      whole = ap (λ is. own ++ is) (s.whole ∙ ap (λ n. s.front ++ (item_insts items start n item ++ s.behind)) z)
          ∙ sym (append_assoc own s.front (item_insts items start (from + suc place) item ++ s.behind));
      long = (let a = length-append own s.front in let b = s.long in let c = item_long_at items start from x in
          let d = sum_by-cons (λ (n : ℕ). n) w (take place
          (widths_from (longest_widths items) items start (suc from) xs)) in omega arith);
    }

-- ---- bytes

abbrev pub bytes_of : List Inst → List ℕ
bytes_of insts = flat_map half_bytes (inst_words insts)

pub bytes_long : (insts : List Inst) → length (bytes_of insts) ≡ 4 * length insts
bytes_long [] = refl
bytes_long (i ∷ is) =
    let a = length-append (half_bytes (encode_of i)) (bytes_of is) in
    let b = bytes_long is in
    let c : length (half_bytes (encode_of i)) ≡ 4 = refl in omega arith

pub bytes_append : (xs ys : List Inst) → bytes_of (xs ++ ys) ≡ bytes_of xs ++ bytes_of ys
bytes_append [] ys = refl
bytes_append (x ∷ xs) ys =
    ap (λ bs. half_bytes (encode_of x) ++ bs) (bytes_append xs ys)
    ∙ sym (append_assoc (half_bytes (encode_of x)) (bytes_of xs) (bytes_of ys))

pub decode_middle : (front own behind : List Inst) → AllDecode (front ++ (own ++ behind)) → AllDecode own
decode_middle [] [] behind a = tt
decode_middle [] (i ∷ is) behind a = (a.0, decode_middle [] is behind a.1)
decode_middle (x ∷ xs) own behind a = decode_middle xs own behind a.1

-- ---- words in memory

word_back : (a b c d word : ℕ) (m : Memory) (from : ℕ) → m (from + 0) ≡ a → m (from + 1) ≡ b → m (from + 2) ≡ c
    → m (from + 3) ≡ d → a + b * 2 ^ 8 + c * 2 ^ 16 + d * 2 ^ 24 ≡ word → load_bytes 4 m from ≡ word
unfolding load_bytes
word_back a b c d word m from e f g h s = rw (e, f, g, h) (omega (arith, s))

later_index : (a b c d : ℕ) (rest : List ℕ) (i : ℕ) → slice_index (a ∷ b ∷ c ∷ d ∷ rest) (4 + i) ≡ slice_index rest i
later_index a b c d rest i =
    let e : 4 + i ≡ suc (suc (suc (suc i))) = omega arith in ap (slice_index (a ∷ b ∷ c ∷ d ∷ rest)) e

bytes_of_word : (word : ℕ) → word < 2 ^ 32 → word % 256 + word / 256 % 256 * 2 ^ 8 + word / 65536 % 256 * 2 ^ 16
    + word / 16777216 % 256 * 2 ^ 24 ≡ word
bytes_of_word word h = omega arith

-- these words stand one after another
abbrev pub HasWords : Memory → ℕ → List Inst → Type 0
HasWords m from [] = Unit {0}
HasWords m from (i ∷ is) = (load_bytes 4 m from ≡ encode_of i) × HasWords m (from + 4) is

pub words_stand : (m : Memory) (insts : List Inst) (tail : List ℕ) (from : ℕ) → AllDecode insts
    → ((i : ℕ) → i < 4 * length insts → m (from + i) ≡ slice_index (bytes_of insts ++ tail) i) → HasWords m from insts
words_stand m [] tail from all h = tt
words_stand m (i ∷ is) tail from all h =
    let w : ℕ = encode_of i in
    let word : load_bytes 4 m from ≡ w = word_back _ _ _ _ w m from (h 0 (omega arith)) (h 1 (omega arith))
    (h 2 (omega arith)) (h 3 (omega arith)) (bytes_of_word w all.0.1) in (
      word,
      words_stand m is tail (from + 4) all.1 (λ k b. let e : from + 4 + k ≡ from + (4 + k) = omega arith in
          ap m e ∙ h (4 + k) (omega arith) ∙ later_index _ _ _ _ (bytes_of is ++ tail) k),
    )

pub stands_of : (l : Layout) (m : Memory) (insts : List Inst) (from : ℕ) → AllDecode insts → l.code ≤ from
    → from + 4 * length insts ≤ l.region → HasWords m from insts → Stands l m from insts
stands_of l m [] from all above below h = tt
stands_of l m (i ∷ is) from all above below h = (
  ap decode_of h.0 ∙ all.0.0,
  (above, omega arith),
  stands_of l m is (from + 4) all.1 (omega arith) (omega arith) h.1,
)
