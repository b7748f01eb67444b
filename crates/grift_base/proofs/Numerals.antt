-- Integers are what std's `parse` reads.
use Rattle.std.proofs.Common.{◌≡◌, ℕ, ◌<◌, ◌^◌, Bool, true, false, cond, not, ◌==◌, zero, suc, List, [], ◌∷◌, length}
use Rattle.std.proofs.Common.{drop, get_or, Some, None, Result, Ok, Err, ℤ, pos, negsuc, refl, ap, arith}
use borrow.Author.Tests.{ltb-true, lt-ltb, eqb-true}
use mir.Val.{SFits}
use Rattle.std.specs.Int.{w64}
use Rattle.std.specs.Char.{is_ascii_digit, digit_value}
use Rattle.std.specs.List.{list_all}
use Rattle.std.specs.Str.{IsUtf8, IsAscii}
use Rattle.std.specs.Str.Parse.{without_leading_sign, signed_digits_value, ParsesSigned, IsNumeral, AllDigits}
use Rattle.std.specs.Result.{OkIff, result_ok}
use Rattle.std.proofs.lemmas.Str.{IsUtf8-from_ascii}
use Rattle.std.proofs.lemmas.Bool.{and_parts}
use Rattle.grift_base.specs.Numbers.{is_integer, fits_in_64_bits, in_word}

digit_is_small : (b : ℕ) → is_ascii_digit b ≡ true → b < 128
digit_is_small b h = grind arith

digit_has_value : (b : ℕ) → is_ascii_digit b ≡ true → digit_value b < 10
digit_has_value b h = grind arith

AllDigits-from_list_all : (ds : List ℕ) → list_all is_ascii_digit ds ≡ true → AllDigits 10 ds
AllDigits-from_list_all [] h = tt
AllDigits-from_list_all (b ∷ ds) h =
    let parts = and_parts (is_ascii_digit b) (list_all is_ascii_digit ds) h in
    (digit_has_value b parts.0, AllDigits-from_list_all ds parts.1)

digits_are_ascii : (ds : List ℕ) → list_all is_ascii_digit ds ≡ true → IsAscii ds
digits_are_ascii [] h i = omega arith
digits_are_ascii (b ∷ ds) h zero = digit_is_small b (and_parts (is_ascii_digit b) (list_all is_ascii_digit ds) h).0
digits_are_ascii (b ∷ ds) h (suc i) =
    digits_are_ascii ds (and_parts (is_ascii_digit b) (list_all is_ascii_digit ds) h).1 i

more_ascii : (b : ℕ) (bs : List ℕ) → b < 128 → IsAscii bs → IsAscii (b ∷ bs)
more_ascii b bs h k zero = h
more_ascii b bs h k (suc i) = k i

-- a sign and digits are ASCII
signed_ascii : (bs : List ℕ) (minus plus : Bool) → (get_or bs 0 0 == 45) ≡ minus → (get_or bs 0 0 == 43) ≡ plus →
    list_all is_ascii_digit (cond minus (drop 1 bs) (drop (cond plus 1 0) bs)) ≡ true → IsAscii bs
signed_ascii [] minus plus m p h i = omega arith
signed_ascii (b ∷ bs) true plus m p h i =
    let small : b < 128 = omega (arith, eqb-true b 45 m) in more_ascii b bs small (digits_are_ascii bs h) i
signed_ascii (b ∷ bs) false true m p h i =
    let small : b < 128 = omega (arith, eqb-true b 43 p) in more_ascii b bs small (digits_are_ascii bs h) i
signed_ascii (b ∷ bs) false false m p h i = digits_are_ascii (b ∷ bs) h i

digits_of_integer : (text : List ℕ) → is_integer text ≡ true
    → list_all is_ascii_digit (without_leading_sign text) ≡ true
digits_of_integer text h =
    (and_parts (not (length (without_leading_sign text) == 0)) (list_all is_ascii_digit (without_leading_sign text))
    h).1

pub IsUtf8-integer : (text : List ℕ) → is_integer text ≡ true → IsUtf8 text
IsUtf8-integer text h = IsUtf8-from_ascii text (signed_ascii text _ _ refl refl (digits_of_integer text h))

IsNumeral-integer : (text : List ℕ) → is_integer text ≡ true → IsNumeral 10 (without_leading_sign text)
IsNumeral-integer text h = (
  some (without_leading_sign text) (and_parts (not (length (without_leading_sign text) == 0))
      (list_all is_ascii_digit (without_leading_sign text)) h).0,
  AllDigits-from_list_all _ (digits_of_integer text h),
)
  where
    some : (ds : List ℕ) → not (length ds == 0) ≡ true → 0 < length ds
    some [] e = cc
    some (d ∷ ds) e = omega arith

fits : (z : ℤ) → fits_in_64_bits z ≡ true → SFits w64 z
fits (pos n) h = record { sfits = ltb-true n (2 ^ 63) h }
fits (negsuc n) h = record { sfits = ltb-true n (2 ^ 63) h }

fits_back : (z : ℤ) → SFits w64 z → fits_in_64_bits z ≡ true
fits_back (pos n) h = lt-ltb n (2 ^ 63) h.sfits
fits_back (negsuc n) h = lt-ltb n (2 ^ 63) h.sfits

parsed_or_not : {E : Type 0} (text : List ℕ) → is_integer text ≡ true → (z : ℤ) → z ≡ signed_digits_value 10 text
    → (inside : Bool) → fits_in_64_bits z ≡ inside → (r : Result ℤ E)
    → OkIff r (IsNumeral 10 (without_leading_sign text) × SFits w64 z) z → result_ok r ≡ cond inside (Some z) None
parsed_or_not text h z e true f (Ok x) o = ap Some o.1
parsed_or_not text h z e false f (Ok x) o = let yes = fits_back z o.0.1 in cc
parsed_or_not text h z e true f (Err x) o = absurd (o (IsNumeral-integer text h, fits z f))
parsed_or_not text h z e false f (Err x) o = refl

-- an integer is parsed exactly where it fits
pub result_ok-parsed : {E : Type 0} (text : List ℕ) → is_integer text ≡ true → (r : Result ℤ E)
    → ParsesSigned w64 10 text r → result_ok r ≡ in_word (signed_digits_value 10 text)
result_ok-parsed text h r o =
    parsed_or_not text h (signed_digits_value 10 text) refl (fits_in_64_bits (signed_digits_value 10 text)) refl r o
