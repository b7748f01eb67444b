-- The bytes that are put together are an image, with these parts.
use Rattle.std.proofs.Common.{ℕ, suc, ◌+◌, ◌-◌, ◌*◌, ◌%◌, ◌^◌, ◌<◌, ◌≤◌, ◌≡◌, ◌≢◌, Bool, true, false, List, [], ◌∷◌}
use Rattle.std.proofs.Common.{◌++◌, length, take, get_or, refl, ap, sym, subst, ◌∙◌, arith, length-append}
use Rattle.std.specs.Prelude.{flat_map, ◌==◌, if◌then◌else◌}
use Rattle.std.proofs.lemmas.List.{get_or-append-add, take_more}
use Rattle.std.proofs.lemmas.List.Elements.{All-push}
use Rattle.std.proofs.lemmas.Grind.{flat_map-append}
use Rattle.std.proofs.Math.Seq.{take-append_seam}
use Rattle.grift_base.specs.declared.places.Pos.{Pos}
use Rattle.machine_words.specs.Memory.{load_bytes, memory_of}
use Rattle.machine_words.proofs.Public.{load_same}
use Rattle.rv_machine.specs.Image.{IsImage, word_at, image_len, statics_len, code_len, label_count, entry, loaded_part}
use Rattle.rv_machine.specs.Image.{label_at, labels_from, labels_of}
use Rattle.assembler.specs.Imaging.{word_bytes, half_bytes, label_bytes, header_bytes, code_bytes, image_bytes}
use Rattle.assembler.specs.Imaging.{AreSections}
use Rattle.assembler.specs.Tables.{AreLabels}

-- a word is the sum of its bytes
pub word_sum : (n : ℕ) → n < 2 ^ 64 → load_bytes 8 (memory_of (word_bytes n)) 0 ≡ n
unfolding load_bytes
word_sum n h = omega arith

half_sum : (n : ℕ) → n < 2 ^ 32 → load_bytes 4 (memory_of (half_bytes n)) 0 ≡ n
unfolding load_bytes
half_sum n h = omega arith

length_labels : (labels : List Pos) → length (flat_map label_bytes labels) ≡ 8 * length labels
length_labels [] = refl
length_labels (label ∷ rest) =
    let a = length-append (label_bytes label) (flat_map label_bytes rest) in
    let b = length_labels rest in
    let c : length (label_bytes label) ≡ 8 = refl in omega arith

pub length_image : (statics code : List ℕ) (labels : List Pos)
    → length (image_bytes statics code labels) ≡ 64 + length statics + length code + 8 * length labels
length_image statics code labels =
    omega (
      arith,
      length-append (statics ++ code) (flat_map label_bytes labels),
      length-append statics code,
      length_labels labels,
    )

len_field : (statics code : List ℕ) (labels : List Pos) → AreSections statics code labels
    → image_len (image_bytes statics code labels) ≡ 64 + length statics + length code + 8 * length labels
unfolding load_bytes
len_field statics code labels s =
    let b = s.small in
    let c = s.few_labels in word_sum (64 + length statics + length code + 8 * length labels) (omega arith)

pub statics_field : (statics code : List ℕ) (labels : List Pos) → AreSections statics code labels
    → statics_len (image_bytes statics code labels) ≡ length statics
unfolding load_bytes
statics_field statics code labels s = let b = s.small in word_sum (length statics) (omega arith)

pub code_field : (statics code : List ℕ) (labels : List Pos) → AreSections statics code labels
    → code_len (image_bytes statics code labels) ≡ length code
unfolding load_bytes
code_field statics code labels s = let b = s.small in word_sum (length code) (omega arith)

pub label_field : (statics code : List ℕ) (labels : List Pos) → AreSections statics code labels
    → label_count (image_bytes statics code labels) ≡ length labels
unfolding load_bytes
label_field statics code labels s = let b = s.few_labels in word_sum (length labels) (omega arith)

pub entry_field : (statics code : List ℕ) (labels : List Pos) → entry (image_bytes statics code labels) ≡ 0
unfolding load_bytes
entry_field statics code labels = refl

spare_field : (statics code : List ℕ) (labels : List Pos) → word_at (image_bytes statics code labels) 48 ≡ 0
unfolding load_bytes
spare_field statics code labels = refl

last_spare_field : (statics code : List ℕ) (labels : List Pos) → word_at (image_bytes statics code labels) 56 ≡ 0
unfolding load_bytes
last_spare_field statics code labels = refl

pub is_image : (statics code : List ℕ) (labels : List Pos) → AreSections statics code labels
    → IsImage (image_bytes statics code labels)
is_image statics code labels s =
    let whole = len_field statics code labels s in
    let l = length_image statics code labels in
    let some = statics_field statics code labels s in
    let rest = code_field statics code labels s in
    let count = label_field statics code labels s in
    let start = entry_field statics code labels in
    let statics_whole = s.statics_whole in
    let code_whole = s.code_whole in
    let some_code = s.some_code in
    let few = s.few_labels in
    let spare = spare_field statics code labels in
    let last_spare = last_spare_field statics code labels in
    search arith

-- ---- what lies in memory

take_front : (front rest : List ℕ) (n : ℕ) → n ≡ length front → take n (front ++ rest) ≡ front
take_front front rest n e = rw e (take-append_seam front rest)

pub loaded_is : (statics code : List ℕ) (labels : List Pos) → AreSections statics code labels
    → loaded_part (image_bytes statics code labels) ≡ statics ++ code
loaded_is statics code labels s =
    let bytes : List ℕ = image_bytes statics code labels in
    let a : statics_len bytes ≡ length statics = statics_field statics code labels s in
    let b : code_len bytes ≡ length code = code_field statics code labels s in
    let n : 64 + statics_len bytes + code_len bytes - 64 ≡ length (statics ++ code) = omega
    (arith, length-append statics code, a, b) in
    take_front (statics ++ code) (flat_map label_bytes labels) (64 + statics_len bytes + code_len bytes - 64) n

-- ---- labels are read back

label_read : (label : Pos) (rest : List ℕ) → label.line < 2 ^ 32 → label.col < 2 ^ 32
    → label_at (label_bytes label ++ rest) 0 ≡ label
unfolding load_bytes
label_read label rest a b = λ i. record { line = half_sum label.line a i; col = half_sum label.col b i }

label_same : (bytes other : List ℕ) (at to : ℕ) → ((i : ℕ) → get_or bytes (at + i) 0 ≡ get_or other (to + i) 0)
    → label_at bytes at ≡ label_at other to
label_same bytes other at to h =
    let line : load_bytes 4 (memory_of bytes) at ≡ load_bytes 4 (memory_of other) to = load_same 4 (memory_of bytes)
    (memory_of other) at to (λ i _. h i) in
    let col : load_bytes 4 (memory_of bytes) (at + 4) ≡ load_bytes 4 (memory_of other) (to + 4) =
    load_same 4 (memory_of bytes) (memory_of other) (at + 4) (to + 4)
    (λ i _. let a : at + 4 + i ≡ at + (4 + i) = omega arith in let b : to + 4 + i ≡ to + (4 + i) = omega arith in
    rw (a, b) (h (4 + i))) in
    λ i. record { line = line i; col = col i }

labels_read : (labels : List Pos) (bytes : List ℕ) (at : ℕ) → AreLabels labels
    → ((i : ℕ) → get_or bytes (at + i) 0 ≡ get_or (flat_map label_bytes labels) i 0)
    → labels_from bytes at (length labels) ≡ labels
unfolding labels_from
labels_read [] bytes at all h = refl
labels_read (label ∷ rest) bytes at all h =
    let first : label_at bytes at ≡ label =
    label_same bytes (label_bytes label ++ flat_map label_bytes rest) at 0 (λ i. let z : 0 + i ≡ i = omega arith in
    rw z (h i))
    ∙ label_read label (flat_map label_bytes rest) (all 0 label (omega arith)).0 (all 0 label (omega arith)).1 in
    let later : labels_from bytes (at + 8) (length rest) ≡ rest =
    labels_read rest bytes (at + 8) (λ k d inside. all (suc k) d (omega arith))
    (λ i. let e : at + 8 + i ≡ at + (8 + i) = omega arith in
    rw e (h (8 + i) ∙ get_or-append-add (label_bytes label) (flat_map label_bytes rest) i 0)) in
    λ i. first i ∷ later i

pub labels_are : (statics code : List ℕ) (labels : List Pos) → AreSections statics code labels → AreLabels labels
    → labels_of (image_bytes statics code labels) ≡ labels
labels_are statics code labels s all =
    let bytes : List ℕ = image_bytes statics code labels in
    let front : List ℕ = header_bytes (length statics) (length code) (length labels) ++ statics ++ code in
    let start : 64 + statics_len bytes + code_len bytes ≡ length front =
    omega (
      arith,
      statics_field statics code labels s,
      code_field statics code labels s,
      length-append (header_bytes (length statics) (length code) (length labels) ++ statics) code,
      length-append (header_bytes (length statics) (length code) (length labels)) statics,
    ) in
    let count : label_count bytes ≡ length labels = label_field statics code labels s in
    (λ i. labels_from bytes (start i) (count i))
    ∙ labels_read labels bytes (length front) all (λ i. get_or-append-add front (flat_map label_bytes labels) i 0)

-- ---- the sections of a code

pub statics_long : (words : List ℕ) → length (flat_map word_bytes words) ≡ 8 * length words
statics_long [] = refl
statics_long (word ∷ rest) =
    let a = length-append (word_bytes word) (flat_map word_bytes rest) in
    let b = statics_long rest in
    let c : length (word_bytes word) ≡ 8 = refl in omega arith

halves_long : (words : List ℕ) → length (flat_map half_bytes words) ≡ 4 * length words
halves_long [] = refl
halves_long (word ∷ rest) =
    let a = length-append (half_bytes word) (flat_map half_bytes rest) in
    let b = halves_long rest in
    let c : length (half_bytes word) ≡ 4 = refl in omega arith

pad_long : (n : ℕ) → length (if n % 2 == 0 then [] else half_bytes 0) ≡ 4 * (n % 2)
pad_long n = by (n % 2 == 0) refl
  where
    by : (even : Bool) → (n % 2 == 0) ≡ even → length (if even then [] else half_bytes 0) ≡ 4 * (n % 2)
    by true e = let z : n % 2 ≡ 0 = grind arith in omega arith
    by false e = let z : n % 2 ≢ 0 = grind arith in omega arith

pub code_long : (words : List ℕ) → length (code_bytes words) ≡ 4 * length words + 4 * (length words % 2)
code_long words =
    let a = length-append (flat_map half_bytes words) (if length words % 2 == 0 then [] else half_bytes 0) in
    let b = halves_long words in
    let c = pad_long (length words) in omega arith

pub are_sections : (statics words : List ℕ) (labels : List Pos) → length statics ≤ 2 ^ 40 → length words ≤ 11 * 2 ^ 40
    → 0 < length words → length labels < 4294967295
    → AreSections (flat_map word_bytes statics) (code_bytes words) labels
are_sections statics words labels few_statics few some labels_few =
    let a = statics_long statics in
    let b = code_long words in
    record {
      statics_whole = omega arith;
      code_whole = omega arith;
      some_code = omega arith;
      few_labels = labels_few;
      small = omega arith;
    }

-- the parts that are put together
pub bytes_put_together : (statics code label_part : List ℕ) (labels : List Pos)
    (statics_size code_size label_count : ℕ) (header with_statics with_code bytes : List ℕ)
    → header ≡ header_bytes statics_size code_size label_count → statics_size ≡ length statics
    → code_size ≡ length code → label_count ≡ length labels
    → with_statics ≡ header ++ statics → with_code ≡ with_statics ++ code → bytes ≡ with_code ++ label_part
    → label_part ≡ flat_map label_bytes labels → bytes ≡ image_bytes statics code labels
bytes_put_together statics code label_part labels ls lc ll h a b d eh es ec el ea eb ed ep =
    let head : h ≡ header_bytes (length statics) (length code) (length labels) =
    eh ∙ ap (λ n. header_bytes n lc ll) es ∙ ap (λ n. header_bytes (length statics) n ll) ec
    ∙ ap (λ n. header_bytes (length statics) (length code) n) el in
    ed ∙ ap (λ xs. xs ++ label_part) (eb ∙ ap (λ xs. xs ++ code) (ea ∙ ap (λ xs. xs ++ statics) head))
    ∙ ap (λ xs. header_bytes (length statics) (length code) (length labels) ++ statics ++ code ++ xs) ep

-- one label more
pub labels_more : (labels : List Pos) (k : ℕ) (d : Pos) (old new : List ℕ) → k < length labels
    → new ≡ old ++ label_bytes (get_or labels k d) → ((get_or labels k d).line < 2 ^ 32)
    × ((get_or labels k d).col < 2 ^ 32) → old ≡ flat_map label_bytes (take k labels) → AreLabels (take k labels)
    → (new ≡ flat_map label_bytes (take (k + 1) labels)) × AreLabels (take (k + 1) labels)
labels_more labels k d old new h grown small before all =
    let label : Pos = get_or labels k d in
    let more : take (k + 1) labels ≡ take k labels ++ label ∷ [] = take_more labels k d h in (
      grown ∙ ap (λ xs. xs ++ label_bytes label) before
          ∙ sym (flat_map-append label_bytes (take k labels) (label ∷ [])) ∙ ap (flat_map label_bytes) (sym more),
      subst AreLabels (sym more) (All-push (λ (x : Pos). (x.line < 2 ^ 32) × (x.col < 2 ^ 32))
          (take k labels) label all small),
    )
