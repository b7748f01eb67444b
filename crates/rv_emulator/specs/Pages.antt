-- A memory in pages of 4,096 bytes, of which some are missing.
use Rattle.std.specs.Prelude.{ℕ, ◌/◌, ◌%◌, Bool, nat_lt, if◌then◌else◌, List, [], Option, Some, None, slice_index_or}
use Rattle.std.specs.Prelude.{is_some}
use Rattle.std.specs.List.{list_all}
use Rattle.std.specs.Global.{Box}
use Rattle.machine_words.specs.Memory.{Memory, memory_of}

-- the bytes of a page, none of one that is missing
abbrev pub page_bytes : Option (Box (List ℕ)) → List ℕ
page_bytes None = []
page_bytes (Some page) = page.value

-- the page of this number, if it is made
abbrev pub page_at : List (Option (Box (List ℕ))) → ℕ → Option (Box (List ℕ))
page_at pages number = slice_index_or pages number None

-- the byte at an address, 0 where its page is missing
abbrev pub page_byte : List (Option (Box (List ℕ))) → ℕ → ℕ
page_byte pages at = memory_of (page_bytes (page_at pages (at / 4096))) (at % 4096)

-- a memory of so many bytes
abbrev pub paged_memory : ℕ → List (Option (Box (List ℕ))) → Memory
paged_memory size pages at = if nat_lt at size then page_byte pages at else 0

-- every page is made
abbrev pub all_made : List (Option (Box (List ℕ))) → Bool
all_made pages = list_all is_some pages
