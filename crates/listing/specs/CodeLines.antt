-- The listing of a code: a line for each word, with its address, its digits and its instruction.
use Rattle.std.specs.Prelude.{ℕ, zero, suc, false, ◌+◌, ◌-◌, ◌/◌, List, [], ◌∷◌, ◌++◌, codes, length, replicate}
use Rattle.std.specs.Fmt.{digits}
use Rattle.rv_machine.specs.Image.{statics_len, code_len}
use Rattle.machine_words.specs.Memory.{first_address, load_bytes, memory_of}
use Rattle.listing.specs.Instructions.{word_text}

-- a number in hexadecimal digits, at least eight of them
abbrev pub hex_text : ℕ → List ℕ
hex_text n = let text = digits 16 false n in replicate (8 - length text) 48 ++ text

-- what stands before the digits of a word, and from them on
abbrev pub address_part : ℕ → List ℕ
address_part address = hex_text address ++ codes ": "

abbrev pub word_part : ℕ → List ℕ
word_part word = hex_text word ++ codes " " ++ word_text word ++ codes "\n"

abbrev pub code_line : ℕ → ℕ → List ℕ
code_line address word = address_part address ++ word_part word

-- the lines of these words, the first of which stands at this address
abbrev pub code_lines : ℕ → List ℕ → List ℕ
code_lines address [] = []
code_lines address (word ∷ words) = code_line address word ++ code_lines (address + 4) words

-- ---- the code of an image

-- so many words of four bytes each, the lowest byte first, from this offset on
unfoldable pub words_from : List ℕ → ℕ → ℕ → List ℕ
words_from bytes at zero = []
words_from bytes at (suc n) = load_bytes 4 (memory_of bytes) at ∷ words_from bytes (at + 4) n

-- the words of its code
abbrev pub code_words : List ℕ → List ℕ
code_words image = words_from image (64 + statics_len image) (code_len image / 4)

-- the address at which they lie in memory
abbrev pub code_address : List ℕ → ℕ
code_address image = first_address + statics_len image

abbrev pub code_listing : List ℕ → List ℕ
code_listing image = code_lines (code_address image) (code_words image)
