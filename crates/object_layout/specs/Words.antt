-- The numbers that code over words is written with, by name: the fields of a header, tags of words in Dyn, and places
-- in an object. Kinds have their names in `Kinds.antt`, and calls of the environment have theirs in `environment.rt` of
-- grift_base.
--
-- Word k of an object stands 8 k bytes behind its address, and word 0 is its header. The words behind that are: of a
-- proxy what it stands on, and its coercion; of a value in Dyn the address of the type that it keeps, and the value; of
-- a closure its code address, and what it captures; of a tuple and of a type their parts; of a Fail its label; of a
-- middle its parts; of an Inject what goes before, and the address of the type; of a Project the address of the type,
-- the label, and what follows.
use Rattle.std.specs.Prelude.{ℕ, ◌^◌}

-- ---- a header: the kind in the lowest byte, a byte 0, the height in two bytes and the count of words in four

abbrev pub kind_mask : ℕ
kind_mask = 255

-- the height, shifted by so many bits, stands in its place
abbrev pub height_shift : ℕ
height_shift = 16

abbrev pub height_mask : ℕ
height_mask = 65535

-- the count, shifted by so many bits, stands in its place
abbrev pub count_shift : ℕ
count_shift = 32

-- what a header gains with each word that is counted
abbrev pub count_unit : ℕ
count_unit = 2 ^ count_shift

-- ---- kinds that are a number apart

-- the kind of a type with parts is by so much more than that of the middles between two such types
abbrev pub type_over_middle : ℕ
type_over_middle = 11

-- the kind of a type whose values have a tag in Dyn is by so much more than the tag
abbrev pub type_over_tag : ℕ
type_over_tag = 15

-- ---- words in Dyn: the lowest bits are the tag, and 0 where the word is the address of an object; what is kept
-- beside the tag is shifted above it

abbrev pub tag_shift : ℕ
tag_shift = 3

abbrev pub tag_mask : ℕ
tag_mask = 7

-- ---- places in an object: a number of words, shifted by so many bits, is one of bytes

abbrev pub word_shift : ℕ
word_shift = 3
