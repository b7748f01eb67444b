-- What a machine's memory tells, for rows of whole objects.
use Rattle.std.specs.Prelude.{ℕ, ◌+◌, ◌%◌, ◌==◌, ◌&&◌, nat_le, if◌then◌else◌, List, Some, None}
use Rattle.machine_words.specs.Memory.{Memory, load_bytes}
use Rattle.object_layout.specs.declared.headers.Header.{Header}
use Rattle.object_layout.specs.declared.wholes.Area.TheVariants.{Region}
use Rattle.object_layout.specs.Wholes.{Telling, IsRow}

-- the words at multiples of 8 below an end
abbrev pub telling : ℕ → Memory → Telling
telling top m at = if (at % 8 == 0) && nat_le (at + 8) top then Some (load_bytes 8 m at) else None

-- whole objects fill the range of a region without gaps
abbrev pub IsFilled : ℕ → Memory → ℕ → ℕ → Type 0
IsFilled top m from to = (headers : List Header) × IsRow (telling top m) Region from headers to
