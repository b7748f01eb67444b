use Rattle.std.proofs.Common.{◌≡◌, string_bytes, subst}
use Rattle.std.specs.Prelude.{IfSome}
use Rattle.std.specs.Fmt.{styled_digits_output}
use Rattle.listing.proofs.HexWritten.{written_hex}
use Rattle.listing.proofs.lines.hex_text.Goals as goal

pub returns : goal.returns
returns c =
    written_hex c.args.n _ _ c.in_radix.ensures
    (subst (λ s. IfSome (styled_digits_output c.in_radix.result s) (λ bs. string_bytes c.in_ok-text.text ≡ bs))
    c.laid_out.ensures c.in_ok-text.ensures.ok)
