use Rattle.std.proofs.Common.{◌≡◌, ℕ, ◌^◌, ◌<◌, List, ◌++◌, Option, Some, Bor, subst, sym, ap}
use Rattle.std.specs.Prelude.{IfSome, IsSomeAnd}
use Rattle.listing.specs.CodeLines.{code_line}
use Rattle.listing.proofs.ReadSoFar.{IsReadSoFar, empty, no_line, not_empty, only_these, read_more}
use Rattle.listing.proofs.ReadSoFar.{read_none}
use Rattle.listing.proofs.reading.read_lines.Goals as goal

pub loop-rest-init : goal.loop-rest-init
loop-rest-init c =
    subst (λ (words : List ℕ). IsReadSoFar c.args.first c.args.text.now words c.args.text.now (Some c.args.first))
    (sym c.new-words.ensures) (read_none c.args.first c.args.text.now c.ranges.first.fits)

pub returns-in_default-2-clause-exact : goal.returns-in_default-2-clause-exact
returns-in_default-2-clause-exact c words lists =
    let so_far = subst (IsReadSoFar c.args.first c.args.text.now c.loop-rest.words c.loop-rest.rest.now) c.in-Some.is
    c.loop-rest.invariant in
    absurd (no_line c.args.first c.args.text.now c.loop-rest.words c.loop-rest.rest.now c.in-Some.address
    (not_empty c.loop-rest.rest.now c.loop-rest-test.ensures) so_far
    (λ word behind small line.
    subst (λ (found : Option (ℕ × Bor (List ℕ))). IsSomeAnd found (λ read. (read.0 ≡ word) × (read.1.now ≡ behind)))
    c.in_default-2.is (c.in_ok-word.ensures.exact word behind small line)) words lists)

pub loop-rest-preserved : goal.loop-rest-preserved
loop-rest-preserved c =
    let so_far = subst (IsReadSoFar c.args.first c.args.text.now c.loop-rest.words c.loop-rest.rest.now) c.in-Some.is
    c.loop-rest.invariant in
    let line = subst (λ (found : Option (ℕ × Bor (List ℕ))). IfSome found (λ read.
    c.loop-rest.rest.now ≡ code_line c.in-Some.address read.0 ++ read.1.now)) c.in-Some-2.is
    c.in_ok-word.ensures.line in
    let small = subst (λ (found : Option (ℕ × Bor (List ℕ))). IfSome found (λ read. read.0 < 2 ^ 32)) c.in-Some-2.is
    c.in_ok-word.ensures.small in
    subst (λ (words : List ℕ). IsReadSoFar c.args.first c.args.text.now words c.in-Some-2.behind.now
    c.checked_add-next.result) (sym c.in_ok-push.ensures.ok)
    (read_more c.args.first c.args.text.now c.loop-rest.words c.loop-rest.rest.now c.in-Some.address c.in-Some-2.word
    c.in-Some-2.behind.now c.checked_add-next.result so_far (record {
      line = line;
      fits = small;
      one = λ other more fits is.
          subst (λ (found : Option (ℕ × Bor (List ℕ))). IsSomeAnd found (λ read.
          (read.0 ≡ other) × (read.1.now ≡ more))) c.in-Some-2.is (c.in_ok-word.ensures.exact other more fits is);
    }) c.checked_add-next.ensures)

pub returns-clause-exact : goal.returns-clause-exact
returns-clause-exact c words lists =
    ap Some (only_these c.args.first c.args.text.now c.loop-rest.words c.loop-rest.rest.now c.loop-rest.next
    (empty c.loop-rest.rest.now c.loop-rest-test.ensures) c.loop-rest.invariant words lists)
