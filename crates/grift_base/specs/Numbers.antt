-- Integers that a text writes.
use Rattle.std.specs.Prelude.{ℕ, ℤ, pos, negsuc, Bool, ◌==◌, ◌^◌, ◌&&◌, not, nat_lt, List, length, Option, Some, None}
use Rattle.std.specs.Prelude.{if◌then◌else◌}
use Rattle.std.specs.Char.{is_ascii_digit}
use Rattle.std.specs.List.{list_all}
use Rattle.std.specs.Str.Parse.{without_leading_sign, signed_digits_value}

-- an optional sign and one or more digits
abbrev pub is_integer : List ℕ → Bool
is_integer text = not (length (without_leading_sign text) == 0) && list_all is_ascii_digit (without_leading_sign text)

-- from -9223372036854775808 to 9223372036854775807
abbrev pub fits_in_64_bits : ℤ → Bool
fits_in_64_bits (pos n) = nat_lt n (2 ^ 63)
fits_in_64_bits (negsuc n) = nat_lt n (2 ^ 63)

-- the number, if 64 bits with a sign hold it
abbrev pub in_word : ℤ → Option ℤ
in_word n = if fits_in_64_bits n then Some n else None

-- the number that the text writes, if it is an integer
abbrev pub number_of : List ℕ → Option ℤ
number_of text = if is_integer text then Some (signed_digits_value 10 text) else None
