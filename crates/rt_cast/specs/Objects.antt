-- Objects in a memory of bytes.
use Rattle.std.specs.Prelude.{◌≡◌, ℕ, ◌+◌, ◌^◌, ◌<◌, List, [], ◌∷◌}
use Rattle.machine_words.specs.Memory.{Memory, load_bytes}
use Rattle.coercion_norm.specs.Objects.{Object, Fixed, Cell, bytes_of}

pub record HasWord (m : Memory) (at word : ℕ) : Type 0 where
  pub is : load_bytes 8 m at ≡ word
  pub small : word < 2 ^ 64

abbrev pub HoldsWords : Memory → ℕ → List ℕ → Type 0
HoldsWords m at [] = Unit {0}
HoldsWords m at (word ∷ words) = HasWord m at word × HoldsWords m (at + 8) words

abbrev pub HoldsObject : Memory → ℕ → Object → Type 0
HoldsObject m at (Fixed header words) = HoldsWords m at (header ∷ words)
HoldsObject m at (Cell header count) = HasWord m at header

-- these objects stand one after another
abbrev pub Holds : Memory → ℕ → List Object → Type 0
Holds m at [] = Unit {0}
Holds m at (o ∷ os) = HoldsObject m at o × Holds m (at + bytes_of o) os
