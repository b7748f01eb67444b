-- Lines of words, one more at a time, and what a text that begins with one line determines.
use Rattle.std.proofs.Common.{◌≡◌, ℕ, suc, ◌+◌, ◌*◌, ◌<◌, List, [], ◌∷◌, ◌++◌, length, take, drop}
use Rattle.std.proofs.Common.{nat_eq, true, false, get_or, sym, ap}
use Rattle.std.proofs.Common.{◌∙◌, arith, append_assoc, append-nil, length-append}
use Rattle.std.specs.Prelude.{codes}
use Rattle.std.proofs.lemmas.List.{take_more, length-take-le, take-append-drop}
use Rattle.listing.specs.CodeLines.{address_part, code_line, code_lines, hex_text, word_part}
use Rattle.listing.specs.Instructions.{word_text}
use Rattle.std.specs.Cmp.Lexicographic.{pointwise, same_text, other_text}
use Rattle.std.proofs.Math.Seq.{drop-append_seam, take-append_seam}

-- a line behind other lines
pub code_lines-push : (address : ℕ) (words : List ℕ) (word : ℕ)
    → code_lines address (words ++ word ∷ []) ≡ code_lines address words ++ code_line (address + 4 * length words) word
code_lines-push address [] word =
    let here : address + 4 * 0 ≡ address = omega arith in
    append-nil (code_line address word) ∙ ap (λ a. code_line a word) (sym here)
code_lines-push address (first ∷ words) word =
    let behind : address + 4 + 4 * length words ≡ address + 4 * suc (length words) = omega arith in
    ap (λ lines. code_line address first ++ lines) (code_lines-push (address + 4) words word)
    ∙ sym (append_assoc (code_line address first) (code_lines (address + 4) words)
    (code_line (address + 4 + 4 * length words) word))
    ∙ ap (λ a. (code_line address first ++ code_lines (address + 4) words) ++ code_line a word) behind

-- one line more of these words
pub one_line_more : (address : ℕ) (words : List ℕ) (k : ℕ) → k < length words
    → code_lines address (take (k + 1) words)
    ≡ code_lines address (take k words) ++ code_line (address + 4 * k) (get_or words k 0)
one_line_more address words k within =
    let long : length (take k words) ≡ k = length-take-le k words (omega arith) in
    ap (code_lines address) (take_more words k 0 within)
    ∙ code_lines-push address (take k words) (get_or words k 0)
    ∙ ap (λ n. code_lines address (take k words) ++ code_line (address + 4 * n) (get_or words k 0)) long

-- lines behind lines
pub code_lines-append : (address : ℕ) (words more : List ℕ)
    → code_lines address (words ++ more) ≡ code_lines address words ++ code_lines (address + 4 * length words) more
code_lines-append address [] more =
    let here : address + 4 * 0 ≡ address = omega arith in ap (λ a. code_lines a more) (sym here)
code_lines-append address (first ∷ words) more =
    let behind : address + 4 + 4 * length words ≡ address + 4 * suc (length words) = omega arith in
    ap (λ lines. code_line address first ++ lines) (code_lines-append (address + 4) words more)
    ∙ sym (append_assoc (code_line address first) (code_lines (address + 4) words)
    (code_lines (address + 4 + 4 * length words) more))
    ∙ ap (λ a. (code_line address first ++ code_lines (address + 4) words) ++ code_lines a more) behind

-- a line has bytes
pub line_some : (address word : ℕ) → 0 < length (code_line address word)
line_some address word =
    let whole = length-append (address_part address) (word_part word) in
    let part = length-append (hex_text address) (codes ": ") in
    omega arith

-- what stands behind the digits of a word, and then the rest
abbrev pub behind_digits : ℕ → List ℕ → List ℕ
behind_digits word rest = (codes " " ++ word_text word ++ codes "\n") ++ rest

pub digits_in_line : (address word : ℕ) (rest : List ℕ)
    → code_line address word ++ rest ≡ address_part address ++ hex_text word ++ behind_digits word rest
digits_in_line address word rest =
    pieces (address_part address) (hex_text word) (codes " ") (word_text word) (codes "\n") rest
  where
    pieces : (a h s w n r : List ℕ) → (a ++ (h ++ s ++ w ++ n)) ++ r ≡ (a ++ h) ++ ((s ++ w ++ n) ++ r)
    pieces a h s w n r = simp append_assoc

-- a line as it is written
pub line_written : (address word : ℕ) (empty first whole : List ℕ) → empty ≡ []
    → first ≡ empty ++ address_part address → whole ≡ first ++ word_part word → whole ≡ code_line address word
line_written address word empty first whole none begun ended =
    ended ∙ ap (λ (l : List ℕ). l ++ word_part word) (begun ∙ ap (λ (l : List ℕ). l ++ address_part address) none)

-- a text that begins with a line
pub begins : (text line rest : List ℕ) → pointwise nat_eq (take (length line) text) line ≡ true
    → rest ≡ drop (length line) text → text ≡ line ++ rest
begins text line rest same is =
    sym (take-append-drop (length line) text)
    ∙ ap (λ (l : List ℕ). l ++ drop (length line) text) (same_text (take (length line) text) line (sym same))
    ∙ ap (λ (l : List ℕ). line ++ l) (sym is)

-- what comes behind it
pub comes_behind : (text line rest more : List ℕ) → text ≡ line ++ more → rest ≡ drop (length line) text → rest ≡ more
comes_behind text line rest more is cut = cut ∙ ap (drop (length line)) is ∙ drop-append_seam line more

-- one that doesn't begin with a line
pub begins_otherwise : (text line more : List ℕ) → pointwise nat_eq (take (length line) text) line ≡ false
    → text ≡ line ++ more → ⊥
begins_otherwise text line more other is =
    other_text (take (length line) text) line (sym other) (ap (take (length line)) is ∙ take-append_seam line more)
