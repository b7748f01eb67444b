use Rattle.std.proofs.Common.{◌≡◌, ℕ, List, subst, ◌∙◌}
use Rattle.std.specs.Int.{w64}
use Rattle.std.specs.Str.Parse.{ParsesSigned}
use Rattle.grift_base.proofs.Utf8Texts.{text_has_its_bytes, utf8_is_read}
use Rattle.grift_base.proofs.Numerals.{IsUtf8-integer, result_ok-parsed}
use Rattle.grift_base.proofs.numbers.integer.Goals as goal

pub returns-in_err-ok : goal.returns-in_err-ok
returns-in_err-ok c =
    absurd (utf8_is_read _ _ _ c.from_utf8.result c.from_utf8.ensures.cases c.in_err-ok.ensures.value
    (IsUtf8-integer c.args.text.now c.requires))

pub returns : goal.returns
returns c =
    let bytes : c.in_ok-ok.field-0.now ≡ c.args.text.now = text_has_its_bytes _ _ _ c.from_utf8.result
    c.in_ok-ok.field-0 c.from_utf8.ensures.cases c.in_ok-ok.ensures.value in
    c.ok-2.ensures.value ∙ result_ok-parsed c.args.text.now c.requires c.parse.result
    (subst (λ (text : List ℕ). ParsesSigned w64 10 text c.parse.result) bytes c.parse.ensures.value.0)
