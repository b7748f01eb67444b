use Rattle.std.proofs.Common.{◌≡◌, ℕ, List, ◌∷◌, ◌++◌, length, ap, ◌∙◌, append_assoc}
use Rattle.std.specs.Prelude.{slice_range, codes, ◌==◌}
use Rattle.std.specs.List.{position}
use Rattle.listing.specs.CodeLines.{address_part, hex_text}
use Rattle.listing.proofs.Cuts.{front_cut}
use Rattle.listing.proofs.Hexadecimal.{colon_found, hex_digits}
use Rattle.listing.proofs.reading.first_address.Goals as goal

-- the address, and the rest of the text from the colon on
grouped : (address : ℕ) (rest text : List ℕ) → text ≡ address_part address ++ rest
    → text ≡ hex_text address ++ (58 ∷ 32 ∷ rest)
grouped address rest text is = is ∙ append_assoc (hex_text address) (codes ": ") rest

pub returns-in_err-end : goal.returns-in_err-end
returns-in_err-end c address rest small is =
    let found = colon_found (hex_text address) (32 ∷ rest) (hex_digits address small) in
    let there = ap (position (λ byte. byte == 58)) (grouped address rest c.args.text.now is) in
    let none = c.in_err-end.ensures in
    absurd (let f : ⊥ = cc in f)

pub returns : goal.returns
returns c address rest small is =
    let found = colon_found (hex_text address) (32 ∷ rest) (hex_digits address small) in
    let there = ap (position (λ byte. byte == 58)) (grouped address rest c.args.text.now is) in
    let some = c.in_ok-end.ensures in
    let long : c.in_ok-end.end ≡ length (hex_text address) = cc in
    let cut = front_cut (hex_text address) (58 ∷ 32 ∷ rest) c.args.text.now (grouped address rest c.args.text.now is) in
    c.hex_number.ensures address small
    (c.in_ok-get.ensures.lookup.0.2 ∙ ap (slice_range c.args.text.now 0) long ∙ cut)
