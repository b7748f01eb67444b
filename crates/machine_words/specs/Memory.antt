-- A memory, as the byte that stands at each address.
use Rattle.std.specs.Prelude.{ℕ, zero, suc, ◌+◌, ◌-◌, ◌*◌, ◌/◌, ◌%◌, ◌^◌, ◌&&◌, nat_le, nat_lt, if◌then◌else◌, List}
use Rattle.std.specs.Prelude.{slice_index}

abbrev pub Memory : Type 0
Memory = ℕ → ℕ

-- the number of these many bytes, the lowest first
unfoldable pub load_bytes : ℕ → Memory → ℕ → ℕ
load_bytes zero m at = 0
load_bytes (suc k) m at = load_bytes k m at + m (at + k) * 2 ^ (8 * k)

-- byte k of a number
abbrev pub byte_of : ℕ → ℕ → ℕ
byte_of word k = word / 2 ^ (8 * k) % 256

-- the memory after the lowest so many bytes of a number were written, the lowest first
unfoldable pub store_bytes : ℕ → Memory → ℕ → ℕ → Memory
store_bytes count m at word i = if nat_le at i && nat_lt i (at + count) then byte_of word (i - at) else m i

-- a list of bytes from address 0 on, and 0 past its end
abbrev pub memory_of : List ℕ → Memory
memory_of bytes i = slice_index bytes i

-- the first address of the machine's memory
abbrev pub first_address : ℕ
first_address = 65536

-- the same bytes from the machine's first address on
abbrev pub from_base : Memory → Memory
from_base m at = if nat_lt at first_address then 0 else m (at - first_address)
