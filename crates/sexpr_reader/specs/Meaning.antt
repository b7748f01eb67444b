-- What a token is by itself.
use Rattle.std.specs.Prelude.{ℕ, ℤ, Bool, true, false, ◌==◌, ◌||◌, ◌&&◌, List}
use Rattle.std.specs.Prelude.{slice_index, codes, bytes_eq, if◌then◌else◌}
use Rattle.std.specs.Char.{is_ascii_digit}
use Rattle.std.specs.Str.Parse.{signed_digits_value}
use Rattle.grift_base.specs.Numbers.{is_integer, fits_in_64_bits}
use Rattle.grift_base.specs.declared.refusals.RefusalKind.TheVariants.{BadByte, NumberRange, NotInProfile}
use Rattle.sexpr_reader.specs.Datum.{Leaf, integer, truth, symbol}
use Rattle.sexpr_reader.specs.Token.{Lexeme, open_bracket, close_bracket, atom, hash_atom, quote, other}
use Rattle.sexpr_reader.specs.declared.atoms.Meaning.{Meaning}
use Rattle.sexpr_reader.specs.declared.atoms.Meaning.TheVariants.{Opening, Closing, Int, Bool as Truth, Symbol, Refused}

-- what a token means that is this s-expression
abbrev pub alone : Leaf → Meaning
alone (integer n) = Int n
alone (truth b) = Truth b
alone (symbol name) = Symbol name

-- `+`, `-` or `.`
abbrev pub is_number_sign : ℕ → Bool
is_number_sign b = b == 43 || b == 45 || b == 46

-- it begins with a digit, or with `+`, `-` or `.` and a digit
abbrev pub begins_like_number : List ℕ → Bool
begins_like_number text =
    is_ascii_digit (slice_index text 0) || (is_number_sign (slice_index text 0) && is_ascii_digit (slice_index text 1))

abbrev pub integer_meaning : ℤ → Meaning
integer_meaning n = if fits_in_64_bits n then Int n else Refused NumberRange

abbrev pub atom_meaning : List ℕ → Meaning
atom_meaning text =
    if is_integer text then integer_meaning (signed_digits_value 10 text)
    else if begins_like_number text then Refused NotInProfile
    else Symbol text

abbrev pub hash_meaning : List ℕ → Meaning
hash_meaning text =
    if bytes_eq text (codes "t") then Truth true
    else if bytes_eq text (codes "f") then Truth false
    else Refused NotInProfile

abbrev pub meaning : Lexeme → Meaning
meaning (open_bracket shape) = Opening shape
meaning (close_bracket shape) = Closing shape
meaning (atom text) = atom_meaning text
meaning (hash_atom text) = hash_meaning text
meaning quote = Refused NotInProfile
meaning other = Refused BadByte
