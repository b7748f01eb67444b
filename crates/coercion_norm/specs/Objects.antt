-- Objects as lists that stand one after another and grow at their end. Nothing here reads memory.
use Rattle.std.specs.Prelude.{ℕ, ◌+◌, ◌*◌, cond, nat_eq, List, [], ◌∷◌, ◌++◌, length, replicate, Option, Some, None}

-- one whose words never change, by its header and the words after it, or one whose words after the header may change,
-- by its header and their number
pub data Object : Type 0 where
  Fixed : ℕ → List ℕ → Object
  Cell : ℕ → ℕ → Object

abbrev pub header_of : Object → ℕ
header_of (Fixed header words) = header
header_of (Cell header count) = header

abbrev pub bytes_of : Object → ℕ
bytes_of (Fixed header words) = 8 + 8 * length words
bytes_of (Cell header count) = 8 + 8 * count

abbrev pub bytes_of_all : List Object → ℕ
bytes_of_all [] = 0
bytes_of_all (o ∷ os) = bytes_of o + bytes_of_all os

-- the object that begins at an address, where these stand from a start on
abbrev pub object_at : List Object → ℕ → ℕ → Option Object
object_at [] from at = None
object_at (o ∷ os) from at = cond (nat_eq at from) (Some o) (object_at os (from + bytes_of o) at)

-- its words; those that may change are 0 so far
abbrev pub words_of : Object → List ℕ
words_of (Fixed header words) = header ∷ words
words_of (Cell header count) = header ∷ replicate count 0

abbrev pub words_of_all : List Object → List ℕ
words_of_all [] = []
words_of_all (o ∷ os) = words_of o ++ words_of_all os
