-- An image: a header of 64 bytes, statics, code and labels, without gaps.
use Rattle.std.specs.Prelude.{ℕ, zero, suc, ◌+◌, ◌*◌, ◌%◌, ◌<◌, ◌≤◌, ◌≡◌, List, [], ◌∷◌, length, codes, slice_range}
use Rattle.grift_base.specs.declared.places.Pos.{Pos}
use Rattle.machine_words.specs.Memory.{load_bytes, memory_of}

-- the number of eight bytes at this offset
abbrev pub word_at : List ℕ → ℕ → ℕ
word_at bytes offset = load_bytes 8 (memory_of bytes) offset

-- the fields of the header
abbrev pub image_len : List ℕ → ℕ
image_len bytes = word_at bytes 8

abbrev pub statics_len : List ℕ → ℕ
statics_len bytes = word_at bytes 16

abbrev pub code_len : List ℕ → ℕ
code_len bytes = word_at bytes 24

abbrev pub label_count : List ℕ → ℕ
label_count bytes = word_at bytes 32

abbrev pub entry : List ℕ → ℕ
entry bytes = word_at bytes 40

-- what the header promises
pub record IsImage (bytes : List ℕ) : Type 0 where
  pub header : 64 ≤ length bytes
  pub magic : slice_range bytes 0 8 ≡ codes "GRIFTRV1"
  pub whole : image_len bytes ≡ length bytes
  pub statics : statics_len bytes % 8 ≡ 0
  pub code : code_len bytes % 8 ≡ 0
  pub some_code : 8 ≤ code_len bytes
  pub labels : label_count bytes < 4294967295
  pub entry_place : entry bytes % 4 ≡ 0
  pub entry_inside : entry bytes < code_len bytes
  pub spare : word_at bytes 48 ≡ 0
  pub last_spare : word_at bytes 56 ≡ 0
  pub sections : 64 + statics_len bytes + code_len bytes + 8 * label_count bytes ≡ length bytes

-- statics and code, which lie in memory
abbrev pub loaded_part : List ℕ → List ℕ
loaded_part bytes = slice_range bytes 64 (64 + statics_len bytes + code_len bytes)

-- a label: its line and its column, four bytes each
abbrev pub label_at : List ℕ → ℕ → Pos
label_at bytes at = record { line = load_bytes 4 (memory_of bytes) at; col = load_bytes 4 (memory_of bytes) (at + 4) }

-- these many labels from this offset on
unfoldable pub labels_from : List ℕ → ℕ → ℕ → List Pos
labels_from bytes at zero = []
labels_from bytes at (suc n) = label_at bytes at ∷ labels_from bytes (at + 8) n

-- the labels
abbrev pub labels_of : List ℕ → List Pos
labels_of bytes = labels_from bytes (64 + statics_len bytes + code_len bytes) (label_count bytes)
