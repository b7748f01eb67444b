use Rattle.std.proofs.Common.{◌≡◌, ◌⊎◌, inl, inr, ℕ, ◌+◌, ◌≤◌, ◌==◌, List, Bool, true, false, cond, get_or, length}
use Rattle.std.proofs.Common.{take, sym, ap, ◌∙◌, subst, arith}
use Rattle.grift_base.specs.declared.places.Pos.{Pos}
use Rattle.sexpr_reader.specs.declared.scan.Cursor.{Cursor}
use Rattle.sexpr_reader.specs.Bytes.{is_white}
use Rattle.sexpr_reader.specs.Places.{place_after}
use Rattle.sexpr_reader.specs.Scanning.{Stands, tokens_at}
use Rattle.sexpr_reader.proofs.Words.{Skips, SkippedByte, skipped_byte}
use Rattle.sexpr_reader.proofs.scan.skip_blanks.Goals as goal
use Rattle.sexpr_reader.proofs.scan.skip_blanks.Goals.{else-not-in_comment-via-then-not-in_comment+else-not-is_white}
use Rattle.sexpr_reader.proofs.scan.skip_blanks.Goals.{else-not-in_comment-via-else-not-in_comment}

-- the loop's invariant behind a byte that is skipped
kept : (text : List ℕ) (old new : Cursor) (next : Bool) → old.at + 1 ≤ length text → Stands text old
    → new.at ≡ old.at + 1 →
    new.pos.line ≡ cond (get_or text old.at 0 == 10) (old.pos.line + 1) old.pos.line
    → new.pos.col ≡ cond (get_or text old.at 0 == 10) 1 (old.pos.col + 1) →
    SkippedByte text old.at next → Stands text new × Skips text new.at next
    × (tokens_at text old.at ≡ tokens_at text new.at)
kept text old new next inside stands at line col skipped = (
  record {
    in_text = omega arith;
    place = λ i. record {
      line = (line ∙ ap (λ (p : Pos). cond (get_or text old.at 0 == 10) (p.line + 1) p.line) stands.place
          ∙ sym skipped.line ∙ ap (λ n. (place_after (take n text)).line) (sym at)) i;
      col = (col ∙ ap (λ (p : Pos). cond (get_or text old.at 0 == 10) 1 (p.col + 1)) stands.place ∙ sym skipped.col
          ∙ ap (λ n. (place_after (take n text)).col) (sym at)) i;
    };
    low_line =
        low (get_or text old.at 0 == 10) new.pos.line (old.pos.line + 1) old.pos.line line
        (omega (arith, stands.low_line)) (omega (arith, stands.low_line));
    low_col =
        low (get_or text old.at 0 == 10) new.pos.col 1 (old.pos.col + 1) col (omega arith)
        (omega (arith, stands.low_col));
  },
  subst (λ n. Skips text n next) (sym at) skipped.skips,
  skipped.tokens ∙ ap (tokens_at text) (sym at),
)
  where
    low : (test : Bool) (x a b : ℕ) → x ≡ cond test a b → a ≤ new.at + 1 → b ≤ new.at + 1 → x ≤ new.at + 1
    low true x a b e h k = omega arith
    low false x a b e h k = omega arith

pub loop-cursor-preserved : goal.loop-cursor-preserved
loop-cursor-preserved c =
    let text = c.args.text.now in
    let b : ℕ = get_or text c.loop-cursor.cursor.at 0 in
    let blank : (c.comment_goes_on-in_comment.result ≡ true) ⊎ (is_white b ≡ true) =
    elim c.else-not-in_comment.branch [
      | else-not-in_comment-via-then-not-in_comment+else-not-is_white w ↦ inr (cc)
      | else-not-in_comment-via-else-not-in_comment w ↦ inl (cc)
    ] in
    let inv = c.loop-cursor.invariant in
    let skipped = skipped_byte text c.loop-cursor.cursor.at c.loop-cursor.in_comment
    c.comment_goes_on-in_comment.result c.loop-cursor-test.true
    (record { comment = inv.comment; apart = inv.apart }) c.comment_goes_on-in_comment.ensures blank in
    let after = kept text c.loop-cursor.cursor c.behind-cursor.result c.comment_goes_on-in_comment.result
    (omega arith) inv.stands c.behind-cursor.ensures.at c.behind-cursor.ensures.line c.behind-cursor.ensures.col
    skipped in
    record {
      stands = after.0;
      comment = after.1.comment;
      apart = after.1.apart;
      tokens = inv.tokens ∙ after.2;
    }
