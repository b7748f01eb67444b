-- Sizes and bytes of an image.
use Rattle.std.proofs.Common.{ℕ, zero, suc, ◌+◌, ◌-◌, ◌*◌, ◌%◌, ◌^◌, ◌<◌, ◌≤◌, ◌≡◌, Bool, true, false, List, []}
use Rattle.std.proofs.Common.{◌∷◌, ◌++◌, length, sym, ◌∙◌, ap, subst, arith, length-append}
use Rattle.std.specs.Prelude.{flat_map, slice_index, ◌==◌, nat_lt, if◌then◌else◌}
use Rattle.std.specs.Int.{byte_at, bytes_low_first}
use Rattle.std.proofs.lemmas.List.{length-map}
use Rattle.grift_base.specs.declared.places.Pos.{Pos}
use Rattle.rv_machine.specs.declared.real.RealItem.{RealItem}
use Rattle.rv_machine.specs.declared.real.RealItem.TheVariants.{Op, Mark, Jump, Branch, Address}
use Rattle.rv_isa.specs.Encoding.{encode_of}
use Rattle.machine_words.specs.Memory.{memory_of, first_address}
use Rattle.rv_machine.specs.Image.{IsImage, statics_len, code_len, label_count, loaded_part, labels_of}
use Rattle.rv_machine.proofs.Public.{length-labels_from}
use Rattle.assembler.specs.Expansion.{insts_of, item_insts, insts_from, code_insts}
use Rattle.assembler.specs.Imaging.{word_bytes, half_bytes, image_bytes, code_bytes, inst_words}
use Rattle.assembler.specs.Imaging.{code_start}
use Rattle.assembler.specs.Imaging.{AreSections}
use Rattle.assembler.specs.Assembled.{IsImageOf}
use Rattle.assembler.specs.Following.{image_memory}
use Rattle.assembler.proofs.Public.{loaded_is, statics_long, code_long, length_image}

-- ---- sizes

few_insts : (near : Bool) (here target : ℕ) (x : RealItem) → length (insts_of near here target x) ≤ 11
few_insts true here target (Op i) = omega arith
few_insts true here target (Mark mark) = omega arith
few_insts true here target (Jump rd mark) = omega arith
few_insts true here target (Branch cond a b mark) = omega arith
few_insts true here target (Address rd mark) = omega arith
few_insts false here target (Op i) = omega arith
few_insts false here target (Mark mark) = omega arith
few_insts false here target (Jump rd mark) = omega arith
few_insts false here target (Branch cond a b mark) = omega arith
few_insts false here target (Address rd mark) = omega arith

all_few : (items : List RealItem) (start place : ℕ) (xs : List RealItem)
    → length (insts_from items start place xs) ≤ 11 * length xs
all_few items start place [] = omega arith
all_few items start place (x ∷ xs) =
    let a = length-append (item_insts items start place x) (insts_from items start (suc place) xs) in
    let b : length (item_insts items start place x) ≤ 11 = few_insts _ _ _ x in
    let c = all_few items start (suc place) xs in omega arith

-- ---- bytes

abbrev Bytes : List ℕ → Type 0
Bytes [] = Unit {0}
Bytes (x ∷ xs) = (x < 256) × Bytes xs

bytes_append : (xs ys : List ℕ) → Bytes xs → Bytes ys → Bytes (xs ++ ys)
bytes_append [] ys h k = k
bytes_append (x ∷ xs) ys h k = (h.0, bytes_append xs ys h.1 k)

byte_small : (i n : ℕ) → byte_at i n < 256
byte_small zero n = omega arith
byte_small (suc i) n = omega arith

low_bytes : (i k n : ℕ) → Bytes (bytes_low_first i k n)
low_bytes i zero n = tt
low_bytes i (suc k) n = (byte_small i n, low_bytes (suc i) k n)

words_bytes : (words : List ℕ) → Bytes (flat_map word_bytes words)
words_bytes [] = tt
words_bytes (word ∷ rest) =
    bytes_append (word_bytes word) (flat_map word_bytes rest) (low_bytes 0 8 word) (words_bytes rest)

halves_bytes : (words : List ℕ) → Bytes (flat_map half_bytes words)
halves_bytes [] = tt
halves_bytes (word ∷ rest) =
    bytes_append (half_bytes word) (flat_map half_bytes rest) (low_bytes 0 4 word) (halves_bytes rest)

codes_bytes : (words : List ℕ) → Bytes (code_bytes words)
codes_bytes words = bytes_append (flat_map half_bytes words) _ (halves_bytes words) (pad (length words % 2 == 0))
  where
    pad : (even : Bool) → Bytes (if even then [] else half_bytes 0)
    pad true = tt
    pad false = low_bytes 0 4 0

byte_there : (xs : List ℕ) (i : ℕ) → Bytes xs → slice_index xs i < 256
byte_there [] zero h = omega arith
byte_there [] (suc i) h = omega arith
byte_there (x ∷ xs) zero h = h.0
byte_there (x ∷ xs) (suc i) h = byte_there xs i h.1

module _ {image : List ℕ} {items : List RealItem} {statics : List ℕ} {labels : List Pos}
    (is : IsImageOf image items statics labels) (whole : IsImage image) where
  abbrev code : List ℕ
  code = code_bytes (inst_words (code_insts items (code_start statics)))

  abbrev static_bytes : List ℕ
  static_bytes = flat_map word_bytes statics

  code_few : length code ≤ 45 * 2 ^ 40
  code_few =
      let insts = code_insts items (code_start statics) in
      let a = all_few items (code_start statics) 0 items in
      let b = length-map insts encode_of in
      let c = code_long (inst_words insts) in
      let few = is.few in omega arith

  -- the code's length is as the header tells
  pub code_is : code_len image ≡ length code
  code_is =
      let a = length_image static_bytes code labels in
      let b : length image ≡ length (image_bytes static_bytes code labels) = ap length is.bytes in
      let c = is.addresses.statics_size in
      let d = statics_long statics in
      let e : length (labels_of image) ≡ label_count image =
      length-labels_from (label_count image) (64 + statics_len image + code_len image) image in
      let f : length (labels_of image) ≡ length labels = ap length is.labels_are in
      let g = whole.sections in omega arith

  sections : AreSections static_bytes code labels
  sections =
      let a = statics_long statics in
      let b = code_is in
      let few = is.few_statics in
      let c = code_few in
      let some = whole.some_code in
      let d = whole.code in
      let e : length (labels_of image) ≡ label_count image =
      length-labels_from (label_count image) (64 + statics_len image + code_len image) image in
      let f : length (labels_of image) ≡ length labels = ap length is.labels_are in
      let g = whole.labels in
      record {
        statics_whole = omega arith;
        code_whole = subst (λ n. n % 8 ≡ 0) b d;
        some_code = omega arith;
        few_labels = omega arith;
        small = omega arith;
      }

  -- statics and code together are small
  pub parts_small : statics_len image + code_len image < 2 ^ 46
  parts_small =
      let a = code_is in
      let b = code_few in
      let c = is.addresses.statics_size in
      let few = is.few_statics in omega arith

  -- what lies in memory at the start are bytes
  pub memory_bytes : (at : ℕ) → image_memory image at < 256
  memory_bytes at =
      let loaded : loaded_part image ≡ static_bytes ++ code =
      ap loaded_part is.bytes ∙ loaded_is static_bytes code labels sections in
      let words = inst_words (code_insts items (code_start statics)) in
      let all = bytes_append static_bytes code (words_bytes statics) (codes_bytes words) in
      let there : (i : ℕ) → slice_index (loaded_part image) i < 256 =
      (λ i. subst (λ xs. slice_index xs i < 256) (sym loaded) (byte_there (static_bytes ++ code) i all)) in
      pick (nat_lt at first_address) there
    where
      pick : (c : Bool) → ((i : ℕ) → slice_index (loaded_part image) i < 256)
          → (if c then 0 else memory_of (loaded_part image) (at - first_address)) < 256
      pick true there = omega arith
      pick false there = there (at - first_address)
