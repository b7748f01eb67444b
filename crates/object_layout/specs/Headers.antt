-- The word that an object begins with.
use Rattle.std.specs.Prelude.{ℕ, ◌+◌, ◌*◌, ◌/◌, ◌%◌, ◌^◌, ◌==◌, ◌&&◌, Option, Some, None, is_some, if◌then◌else◌}
use Rattle.object_layout.specs.declared.headers.Header.{Header}
use Rattle.object_layout.specs.Kinds.{kind_of}
use Rattle.object_layout.specs.Words.{height_shift, count_shift}

-- kind in bits 0 to 7, 0 in bits 8 to 15, height in bits 16 to 31, count in bits 32 to 63
abbrev pub packed : Header → ℕ
packed h = h.kind + h.height * 2 ^ height_shift + h.count * 2 ^ count_shift

-- the fields of a word
abbrev pub fields : ℕ → Header
fields word = record {
  kind = word % 2 ^ 8;
  height = word / 2 ^ height_shift % 2 ^ 16;
  count = word / 2 ^ count_shift;
}

-- the header that a word is, if its kind is one and bits 8 to 15 are 0
abbrev pub unpacked : ℕ → Option Header
unpacked word =
    if is_some (kind_of (word % 2 ^ 8)) && (word / 2 ^ 8 % 2 ^ 8 == 0) then Some (fields word) else None
