-- Numbers in hexadecimal digits, written and read.
use Rattle.std.proofs.Common.{◌≡◌, ℕ, zero, suc, ◌+◌, ◌-◌, ◌/◌, ◌%◌, ◌*◌, ◌^◌, ◌<◌, ◌≤◌, Bool, true, false, cond}
use Rattle.std.proofs.Common.{List, [], ◌∷◌, ◌++◌, length, drop, replicate, Some, refl, sym, ap, ◌∙◌, subst, arith, not}
use Rattle.std.proofs.Common.{length-append}
use Rattle.std.specs.Prelude.{◌==◌, Result, Ok, Err}
use Rattle.std.specs.Result.{OkIff, result_ok}
use Rattle.std.specs.Char.{digit_value}
use Rattle.std.specs.Fmt.{digits, digits_onto, digit_glyph}
use Rattle.std.specs.List.{position, position_or_len}
use Rattle.std.specs.Str.{IsAscii, IsUtf8}
use Rattle.std.specs.Str.Parse.{AllDigits, IsNumeral, ParsesUnsigned, digits_value}
use Rattle.std.specs.Str.Parse.{without_leading_plus}
use Rattle.std.proofs.lemmas.Bool.{eqb-false}
use Rattle.std.proofs.lemmas.Fmt.{digits_is_IsNumeral}
use Rattle.std.proofs.lemmas.List.{length-replicate}
use Rattle.std.proofs.lemmas.Str.{IsUtf8-from_ascii}
use Rattle.std.proofs.Math.Nat.{pow-suc}
use Rattle.listing.specs.CodeLines.{hex_text}

-- ---- zeros in front

AllDigits-zeros : (k : ℕ) (ds : List ℕ) → AllDigits 16 ds → AllDigits 16 (replicate k 48 ++ ds)
AllDigits-zeros zero ds h = h
AllDigits-zeros (suc k) ds h = (omega arith, AllDigits-zeros k ds h)

value-zeros : (k : ℕ) (ds : List ℕ) → digits_value 16 (replicate k 48 ++ ds) ≡ digits_value 16 ds
value-zeros zero ds = refl
value-zeros (suc k) ds = value-zeros k ds

-- ---- the digits of a number

below : (n : ℕ) → n < 2 ^ 64 → n < 16 ^ 64
below n h = omega arith

pub hex_digits : (n : ℕ) → n < 2 ^ 64 → AllDigits 16 (hex_text n)
hex_digits n h =
    AllDigits-zeros (8 - length (digits 16 false n)) (digits 16 false n)
    (digits_is_IsNumeral 16 false (omega arith) (omega arith) n (below n h)).0.1

pub hex_value : (n : ℕ) → n < 2 ^ 64 → digits_value 16 (hex_text n) ≡ n
hex_value n h =
    value-zeros (8 - length (digits 16 false n)) (digits 16 false n)
    ∙ (digits_is_IsNumeral 16 false (omega arith) (omega arith) n (below n h)).1

pub length-hex_text : (n : ℕ) → length (hex_text n) ≡ (8 - length (digits 16 false n)) + length (digits 16 false n)
length-hex_text n =
    length-append (replicate (8 - length (digits 16 false n)) 48) (digits 16 false n)
    ∙ ap (λ k. k + length (digits 16 false n)) (length-replicate (8 - length (digits 16 false n)) 48)

pub hex_some : (n : ℕ) → 0 < length (hex_text n)
hex_some n = omega (arith, length-hex_text n)

-- ---- how many digits

-- the last digit
abbrev glyph : ℕ → ℕ
glyph n = digit_glyph false (n % 16)

-- how many there are with the last one, by those of the rest
with_last : (k m n : ℕ) (acc : List ℕ) → n < 16 ^ suc m → m < suc k
    → ((j : ℕ) → n / 16 < 16 ^ suc j → j < k
    → length (digits_onto k 16 false (n / 16) (glyph n ∷ acc)) ≤ suc j + suc (length acc))
    → (last : Bool) → (n / 16 == 0) ≡ last
    → length (cond last (glyph n ∷ acc) (digits_onto k 16 false (n / 16) (glyph n ∷ acc))) ≤ suc m + length acc
with_last k m n acc small more rest true test = omega arith
with_last k zero n acc small more rest false test = absurd (eqb-false (n / 16) 0 test (omega arith))
with_last k (suc j) n acc small more rest false test =
    let larger : 16 ^ suc (suc j) ≡ 16 ^ suc j * 16 = pow-suc 16 (suc j) in
    let less : n / 16 < 16 ^ suc j = omega arith in
    let few = rest j less (omega arith) in
    omega arith

-- a number below 16 ^ (m + 1) has at most m + 1 digits
few_digits : (k m n : ℕ) (acc : List ℕ) → n < 16 ^ suc m → m < k
    → length (digits_onto k 16 false n acc) ≤ suc m + length acc
few_digits zero m n acc small more = absurd (omega arith)
few_digits (suc k) m n acc small more =
    with_last k m n acc small more (λ j less below. few_digits k j (n / 16) (glyph n ∷ acc) less below)
    (n / 16 == 0) refl

-- a word has eight digits
pub length-hex_word : (word : ℕ) → word < 2 ^ 32 → length (hex_text word) ≡ 8
unfolding digits
length-hex_word word small =
    let few : length (digits_onto 64 16 false word []) ≤ 8 = few_digits 64 7 word [] (omega arith) (omega arith) in
    omega (arith, length-hex_text word)

-- ---- what digits are not

digit_is_small : (c : ℕ) → digit_value c < 16 → c < 128
digit_is_small c h = grind arith

digit_is_no_plus : (c : ℕ) → digit_value c < 16 → (c == 43) ≡ false
digit_is_no_plus c h = grind arith

digit_is_no_colon : (c : ℕ) → digit_value c < 16 → (c == 58) ≡ false
digit_is_no_colon c h = grind arith

digits_are_ascii : (ds : List ℕ) → AllDigits 16 ds → IsAscii ds
digits_are_ascii [] h i = omega arith
digits_are_ascii (c ∷ cs) h zero = digit_is_small c h.0
digits_are_ascii (c ∷ cs) h (suc i) = digits_are_ascii cs h.1 i

pub digits_are_text : (ds : List ℕ) → AllDigits 16 ds → IsUtf8 ds
digits_are_text ds h = IsUtf8-from_ascii ds (digits_are_ascii ds h)

pub digits_have_no_plus : (ds : List ℕ) → AllDigits 16 ds → without_leading_plus ds ≡ ds
digits_have_no_plus [] h = refl
digits_have_no_plus (c ∷ cs) h = ap (λ plus. drop (cond plus 1 0) (c ∷ cs)) (digit_is_no_plus c h.0)

-- the first colon stands behind the digits
colon_behind : (ds rest : List ℕ) → AllDigits 16 ds
    → position_or_len (λ byte. byte == 58) (ds ++ 58 ∷ rest) ≡ length ds
colon_behind [] rest h = refl
colon_behind (c ∷ cs) rest h = step (c == 58) (digit_is_no_colon c h.0) (colon_behind cs rest h.1)
  where
    step : (b : Bool) → b ≡ false → position_or_len (λ byte. byte == 58) (cs ++ 58 ∷ rest) ≡ length cs
        → cond (not b) (1 + position_or_len (λ byte. byte == 58) (cs ++ 58 ∷ rest)) 0 ≡ suc (length cs)
    step b e here = grind arith

pub colon_found : (ds rest : List ℕ) → AllDigits 16 ds
    → position (λ byte. byte == 58) (ds ++ 58 ∷ rest) ≡ Some (length ds)
colon_found ds rest h =
    let at = colon_behind ds rest h in
    let long = length-append ds (58 ∷ rest) in
    grind (arith, at, long)

-- ---- what is read

-- a text that is the digits of a number reads as that number
pub hex_parsed : {E : Type 0} (k n : ℕ) (digits : List ℕ) (read : Result ℕ E) → n < 2 ^ 64 → n < 2 ^ k
    → digits ≡ hex_text n → ParsesUnsigned k 16 digits read → result_ok read ≡ Some n
hex_parsed k n digits read small fits is parsed =
    let plain : without_leading_plus digits ≡ hex_text n =
    ap without_leading_plus is ∙ digits_have_no_plus (hex_text n) (hex_digits n small) in
    by_answer read
    (subst (λ (l : List ℕ). OkIff read (IsNumeral 16 l × (digits_value 16 l < 2 ^ k)) (digits_value 16 l)) plain parsed)
  where
    by_answer : {E : Type 0} (answer : Result ℕ E)
        → OkIff answer (IsNumeral 16 (hex_text n) × (digits_value 16 (hex_text n) < 2 ^ k))
        (digits_value 16 (hex_text n))
        → result_ok answer ≡ Some n
    by_answer (Ok x) iff = ap Some (iff.1 ∙ hex_value n small)
    by_answer (Err e) iff =
        absurd (iff ((hex_some n, hex_digits n small), subst (λ v. v < 2 ^ k) (sym (hex_value n small)) fits))
