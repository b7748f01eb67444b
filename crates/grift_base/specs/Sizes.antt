-- How many bytes a file may have.
use Rattle.std.specs.Prelude.{ℕ}

abbrev pub source_limit : ℕ
source_limit = 262144

abbrev pub image_limit : ℕ
image_limit = 268435456

abbrev pub input_limit : ℕ
input_limit = 1048576
