-- The word of a value in Dyn. Its low three bits are a tag: 1 tells that an integer of 61 bits stands above them, 2 a
-- truth value, 3 unit; 0 tells that the word is the address of an object, which each other value in Dyn has.
use Rattle.std.specs.Prelude.{ℕ, ◌+◌, ◌-◌, ◌*◌, ◌/◌, ◌%◌, ◌^◌, ◌==◌, ◌&&◌, ◌||◌, nat_lt, nat_le, Bool, ℤ, Option, Some}
use Rattle.std.specs.Prelude.{None, if◌then◌else◌}
use Rattle.std.specs.Int.{w64, cast_unsigned, cast_signed, int_shr}

abbrev pub int_tag : ℕ
int_tag = 1

abbrev pub bool_tag : ℕ
bool_tag = 2

abbrev pub unit_tag : ℕ
unit_tag = 3

-- the word is that of an integer from -2^60 to 2^60 - 1
abbrev pub is_narrow : ℕ → Bool
is_narrow word = nat_lt word (2 ^ 60) || (nat_le (2 ^ 64 - 2 ^ 60) word && nat_lt word (2 ^ 64))

-- the upper 61 bits of a word that is narrow, above a tag
abbrev pub tagged : ℕ → ℕ → ℕ
tagged tag word = word * 8 % 2 ^ 64 + tag

-- ---- the words of base values, where they take no object

abbrev pub dyn_of_int : ℤ → Option ℕ
dyn_of_int n = if is_narrow (cast_unsigned w64 n) then Some (tagged int_tag (cast_unsigned w64 n)) else None

abbrev pub dyn_of_bool : Bool → ℕ
dyn_of_bool b = tagged bool_tag (if b then 1 else 0)

abbrev pub dyn_of_unit : ℕ
dyn_of_unit = tagged unit_tag 0

-- ---- and back

abbrev pub int_of_dyn : ℕ → Option ℤ
int_of_dyn word = if word % 8 == int_tag then Some (int_shr (cast_signed w64 word) 3) else None

abbrev pub bool_of_dyn : ℕ → Option Bool
bool_of_dyn word = if word % 8 == bool_tag then Some (word / 8 % 2 == 1) else None

abbrev pub is_unit_in_dyn : ℕ → Bool
is_unit_in_dyn word = word % 8 == unit_tag
