-- Why bytes are no image: the first of three tests that they fail.
use Rattle.std.specs.Prelude.{ℕ, ◌≡◌, ◌≤◌, List, length, codes, slice_range}
use Rattle.rv_machine.specs.Image.{IsImage, image_len}
use Rattle.assembler.specs.declared.image.ImageFault.{ImageFault}
use Rattle.assembler.specs.declared.image.ImageFault.TheVariants.{BadMagic, BadLength, BadSection, OutOfMemory}

-- there are eight bytes, with which every image begins
abbrev pub HasMagic : List ℕ → Type 0
HasMagic bytes = (8 ≤ length bytes) × (slice_range bytes 0 8 ≡ codes "GRIFTRV1")

-- there is a header, and its length is the number of bytes
abbrev pub HasLength : List ℕ → Type 0
HasLength bytes = (64 ≤ length bytes) × (image_len bytes ≡ length bytes)

-- the first test that fails is this fault's: that of the magic, that of the length, or that of all that makes an image.
-- Want of memory is no fault of bytes
abbrev pub IsFirstFault : List ℕ → ImageFault → Type 0
IsFirstFault bytes BadMagic = ¬ HasMagic bytes
IsFirstFault bytes BadLength = HasMagic bytes × (¬ HasLength bytes)
IsFirstFault bytes BadSection = HasMagic bytes × HasLength bytes × (¬ IsImage bytes)
IsFirstFault bytes OutOfMemory = ⊥
