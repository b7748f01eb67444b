use Rattle.std.proofs.Common.{◌≡◌, sym, subst, ◌∙◌}
use Rattle.std.specs.Str.{IsUtf8}
use Rattle.grift_base.proofs.Public.{text_has_its_bytes, utf8_is_read}
use Rattle.listing.specs.CodeLines.{hex_text}
use Rattle.listing.proofs.Hexadecimal.{digits_are_text, hex_digits, hex_parsed}
use Rattle.listing.proofs.reading.hex_number.Goals as goal

pub returns-in_err-digits : goal.returns-in_err-digits
returns-in_err-digits c n small is =
    absurd (utf8_is_read _ _ _ c.from_utf8.result c.from_utf8.ensures.cases c.in_err-digits.ensures.value
    (subst IsUtf8 (sym is) (digits_are_text (hex_text n) (hex_digits n small))))

pub returns : goal.returns
returns c n small is =
    let bytes : c.in_ok-digits.digits.now ≡ c.args.digits.now = text_has_its_bytes _ _ _ c.from_utf8.result
    c.in_ok-digits.digits c.from_utf8.ensures.cases c.in_ok-digits.ensures.value in
    c.ok-2.ensures.value
    ∙ hex_parsed 64 n c.in_ok-digits.digits.now c.from_str_radix.result small small (bytes ∙ is)
    c.from_str_radix.ensures.value
