use Rattle.std.proofs.Common.{ℕ, ◌≡◌, ◌++◌, List, append_assoc, ap, codes, refl, ◌∙◌}
use Rattle.grift_base.specs.VerdictLine.{verdict_text}
use Rattle.grift_cli.specs.Lines.{number_line}
use Rattle.grift_cli.proofs.reports.lines_in_space.Goals as goal

-- a line to which others are added
joined : (line text lines added more : List ℕ) → text ≡ line ++ lines → added ≡ text ++ more
    → added ≡ line ++ (lines ++ more)
joined line text lines added more e f = f ∙ (ap (λ x. x ++ more) e ∙ append_assoc line lines more)

-- a line and six more
spread : (line feed a b c d e f : List ℕ)
    → (line ++ feed) ++ (((((a ++ b) ++ c) ++ d) ++ e) ++ f) ≡ line ++ feed ++ (a ++ b ++ c ++ d ++ e ++ f)
spread line feed a b c d e f = simp append_assoc refl

pub returns : goal.returns
returns c =
    let space = c.args.space in
    let line : List ℕ = verdict_text c.args.verdict ++ codes "\n" in
    let one : List ℕ = number_line (codes "space bytes ") space.report.bytes in
    let two : List ℕ = number_line (codes "space objects ") space.report.objects in
    let three : List ℕ = number_line (codes "space proxies ") space.report.proxies in
    let four : List ℕ = number_line (codes "space stacked ") space.report.stacked in
    let five : List ℕ = number_line (codes "space highest ") space.report.highest in
    let last : List ℕ = number_line (codes "space tallest ") space.tallest in
    let first : c.push_number.new.text ≡ line ++ one =
    c.in_ok-push_number.ensures ∙ ap (λ x. x ++ one) c.in_ok-text.ensures in
    let second = joined line c.push_number.new.text one c.push_number-2.new.text two first
    c.in_ok-push_number-2.ensures in
    let third = joined line c.push_number-2.new.text (one ++ two) c.push_number-3.new.text three second
    c.in_ok-push_number-3.ensures in
    let fourth = joined line c.push_number-3.new.text ((one ++ two) ++ three) c.push_number-4.new.text four third
    c.in_ok-push_number-4.ensures in
    let fifth = joined line c.push_number-4.new.text (((one ++ two) ++ three) ++ four) c.push_number-5.new.text five
    fourth (c.in_ok-push_number-5.ensures
    ∙ ap (λ n. c.push_number-4.new.text ++ number_line (codes "space highest ") n) c.from.ensures) in
    let sixth = joined line c.push_number-5.new.text ((((one ++ two) ++ three) ++ four) ++ five)
    c.push_number-6.new.text last fifth (c.in_ok-push_number-6.ensures
    ∙ ap (λ n. c.push_number-5.new.text ++ number_line (codes "space tallest ") n) c.from-2.ensures) in
    sixth ∙ spread (verdict_text c.args.verdict) (codes "\n") one two three four five last
