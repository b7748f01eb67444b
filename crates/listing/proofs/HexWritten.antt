-- What `{:08x}` writes.
use Rattle.std.proofs.Common.{ℕ, ◌-◌, ◌^◌, ◌≡◌, false, List, [], ◌++◌, length, replicate, Option, Some, ◌∙◌, ap, subst}
use Rattle.std.proofs.Common.{append-nil, arith}
use Rattle.std.specs.Prelude.{IfSome, option_map}
use Rattle.std.specs.Fmt.{digits, char_count, padded_integral, format_spec}
use Rattle.listing.specs.CodeLines.{hex_text}

-- what is written of these digits
abbrev padded : List ℕ → List ℕ
padded text = padded_integral (format_spec 32 0 4 8 (2 ^ 64 - 1)) false [] text

-- fill of zeros up to eight places
zero_filled : (text : List ℕ) → padded text ≡ replicate (8 - length text) 48 ++ text
unfolding padded_integral char_count
zero_filled text =
    let e : 8 - length text - 0 - 0 ≡ 8 - length text = omega arith in
    ap (λ k. replicate k 48 ++ (text ++ [])) e ∙ ap (λ xs. replicate (8 - length text) 48 ++ xs) (append-nil text)

-- what is written, where these are the digits
pub written_hex : (n : ℕ) (written : Option (List ℕ)) (text : List ℕ) → written ≡ Some (digits 16 false n)
    → IfSome (option_map (padded_integral (format_spec 32 0 4 8 (2 ^ 64 - 1)) false []) written) (λ bs. text ≡ bs)
    → text ≡ hex_text n
written_hex n written text e h =
    let IsWritten : Option (List ℕ) → Type 0
    = λ o. IfSome (option_map (padded_integral (format_spec 32 0 4 8 (2 ^ 64 - 1)) false []) o) (λ bs. text ≡ bs) in
    let is_padded : text ≡ padded (digits 16 false n) = subst IsWritten e h in
    is_padded ∙ zero_filled (digits 16 false n)
