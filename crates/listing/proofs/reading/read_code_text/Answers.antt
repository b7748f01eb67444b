use Rattle.std.proofs.Common.{◌≡◌, ℕ, List, Option, Some, Result, Ok, Err}
use Rattle.std.specs.Prelude.{IfOk}
use Rattle.listing.specs.Readings.{IsListing, ListsFrom}
use Rattle.listing.proofs.ReadSoFar.{no_first, not_empty, same_first}
use Rattle.listing.proofs.reading.read_code_text.Goals as goal
use Rattle.listing.proofs.reading.read_code_text.Goals.{in_default-via-in-Some+else-first-eq0}
use Rattle.listing.proofs.reading.read_code_text.Goals.{in_default-via-in_default}

-- what is answered of the words from an address on is answered of a listing
of_listing : {E : Type 0} (text : List ℕ) (first : ℕ) (answer : Result (Option (List ℕ)) E)
    → ((words : List ℕ) → IsListing text words → ListsFrom first text words)
    → IfOk answer (λ found. (words : List ℕ) → ListsFrom first text words → found ≡ Some words)
    → IfOk answer (λ found. (words : List ℕ) → IsListing text words → found ≡ Some words)
of_listing text first (Ok found) lists told = λ words listing. told words (lists words listing)
of_listing text first (Err e) lists told = tt

pub returns-in-Some-clause-exact : goal.returns-in-Some-clause-exact
returns-in-Some-clause-exact c =
    of_listing c.args.text.now c.in-Some.first c.read_lines.result
    (λ words listing. (same_first c.args.text.now words c.in-Some.first listing
    (not_empty c.args.text.now c.if-is_empty.ensures) c.in-Some.ensures).0) c.read_lines.ensures.exact

pub returns-in_default-clause-exact : goal.returns-in_default-clause-exact
returns-in_default-clause-exact c words listing =
    let some = not_empty c.args.text.now c.if-is_empty.ensures in
    elim c.in_default.branch [
      | in_default-via-in-Some+else-first-eq0 w ↦ absurd (w.if-first-eq0.false
          (same_first c.args.text.now words w.in-Some.first listing some w.in-Some.ensures).1)
      | in_default-via-in_default w ↦ absurd (no_first c.args.text.now words listing some w.in_default.ensures)
    ]
