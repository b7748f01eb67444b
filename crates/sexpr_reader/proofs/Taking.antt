-- What the next token leaves.
use Rattle.std.proofs.Common.{◌≡◌, ℕ, ◌+◌, ◌-◌, ◌<◌, ◌≤◌, Bool, true, false, cond, ◌||◌, List, ◌∷◌, ◌++◌, length, take}
use Rattle.std.proofs.Common.{drop, get_or, ap, ◌∙◌, sym, arith, length-drop}
use lib.Seq.{take-add}
use Rattle.std.specs.List.{prefix_len}
use Rattle.std.proofs.lemmas.List.{take_all, drop_more, drop-drop}
use Rattle.std.proofs.lemmas.List.Sums.{prefix_len-le-length}
use Rattle.grift_base.specs.declared.places.Pos.{Pos}
use Rattle.sexpr_reader.specs.Bytes.{is_symbol_byte, is_hash}
use Rattle.sexpr_reader.specs.Places.{place_after}
use Rattle.sexpr_reader.specs.Token.{lexeme_at, is_in_comment, no_token_begins, tokens_behind}
use Rattle.sexpr_reader.specs.Scanning.{lexeme_of, token_of, lexeme_len, Stands, goes_on, tokens_at, TakesToken}
use Rattle.sexpr_reader.specs.declared.scan.Token.{Token as ScanToken}
use Rattle.sexpr_reader.specs.declared.scan.Cursor.{Cursor}
use Rattle.sexpr_reader.proofs.Words.{AfterToken, after_token}

lexeme_len-le : (b : ℕ) (rest : List ℕ) → lexeme_len b rest ≤ 1 + length rest
lexeme_len-le b rest = by_test (is_symbol_byte b || is_hash b)
  where
    by_test : (word : Bool) → cond word (1 + prefix_len is_symbol_byte rest) 1 ≤ 1 + length rest
    by_test true = omega (arith, prefix_len-le-length is_symbol_byte rest)
    by_test false = omega arith

-- the place behind a token whose first byte is at `here`
module _ (text : List ℕ) (here next : Cursor) (t : ScanToken) (inside : here.at < length text)
    (stands : Stands text here)
    (begins : no_token_begins (take here.at text) (get_or text here.at 0) ≡ false) where
  abbrev b : ℕ
  b = get_or text here.at 0

  abbrev rest : List ℕ
  rest = drop (here.at + 1) text

  abbrev n : ℕ
  n = lexeme_len b rest

  whole : drop here.at text ≡ b ∷ rest
  whole = drop_more text here.at 0 inside

  after : AfterToken (take here.at text) (b ∷ rest) n
      (record { pos = place_after (take here.at text); lexeme = lexeme_at b rest })
  after = after_token (take here.at text) b rest begins

  -- the text up to the place behind the token, and from there on
  module _ (there : next.at ≡ here.at + n) where
    front : take next.at text ≡ take here.at text ++ take n (b ∷ rest)
    front = ap (λ k. take k text) there ∙ take-add here.at n text ∙ ap (λ l. take here.at text ++ take n l) whole

    back : drop next.at text ≡ drop n (b ∷ rest)
    back = ap (λ k. drop k text) there ∙ sym (drop-drop n here.at text) ∙ ap (drop n) whole

    in_text : next.at ≤ length text
    in_text = omega (arith, lexeme_len-le b rest, length-drop (here.at + 1) text)

    takes : next.pos.line ≡ here.pos.line → next.pos.col ≡ here.pos.col + n → t.pos ≡ here.pos
        → lexeme_of t.lexeme ≡ lexeme_at b rest → TakesToken text here.at t next
    takes line col pos lexeme =
        let same : record { pos = place_after (take here.at text); lexeme = lexeme_at b rest } ≡ token_of t =
        λ i. record { pos = (sym stands.place ∙ sym pos) i; lexeme = sym lexeme i } in
        record {
          tokens = ap (tokens_behind (take here.at text)) whole ∙ after.tokens
              ∙ (λ i. same i ∷ tokens_behind (sym front i) (sym back i));
          stands = record {
            in_text = in_text;
            place = λ i. record {
              line = (line ∙ ap (λ (p : Pos). p.line) stands.place ∙ sym after.line
                  ∙ ap (λ l. (place_after l).line) (sym front)) i;
              col = (col ∙ ap (λ (p : Pos). p.col + n) stands.place ∙ sym after.col
                  ∙ ap (λ l. (place_after l).col) (sym front)) i;
            };
            low_line = omega (arith, stands.low_line);
            low_col = omega (arith, stands.low_col);
          };
          between = record {
            outside = ap is_in_comment front ∙ after.outside;
            apart = (λ i. goes_on (front i) (back i)) ∙ after.apart;
          };
        }

-- the bytes from a place on
pub bytes_from : (text : List ℕ) (at : ℕ) → at < length text
    → take (length text - at) (drop at text) ≡ get_or text at 0 ∷ drop (at + 1) text
bytes_from text at inside =
    take_all (length text - at) (drop at text) (omega (arith, length-drop at text)) ∙ drop_more text at 0 inside

-- the same, where the lexeme was read from the bytes from there on
pub takes_token : (text bytes : List ℕ) (from : ℕ) (here next : Cursor) (t : ScanToken) (len : ℕ)
    → here.at < length text → Stands text here →
    no_token_begins (take here.at text) (get_or text here.at 0) ≡ false → tokens_at text from ≡ tokens_at text here.at →
    bytes ≡ get_or text here.at 0 ∷ drop (here.at + 1) text → len ≡ lexeme_len (get_or bytes 0 0) (drop 1 bytes)
    → lexeme_of t.lexeme ≡ lexeme_at (get_or bytes 0 0) (drop 1 bytes) →
    next.at ≡ here.at + len → next.pos.line ≡ here.pos.line → next.pos.col ≡ here.pos.col + len → t.pos ≡ here.pos
    → TakesToken text from t next
takes_token text bytes from here next t len inside stands begins same bytes_are len_is lexeme at line col pos =
    let len_there : len ≡ lexeme_len (get_or text here.at 0) (drop (here.at + 1) text) = len_is
    ∙ ap (λ l. lexeme_len (get_or l 0 0) (drop 1 l)) bytes_are in
    let taken = takes text here next t inside stands begins (at ∙ ap (λ k. here.at + k) len_there) line
    (col ∙ ap (λ k. here.pos.col + k) len_there) pos
    (lexeme ∙ ap (λ l. lexeme_at (get_or l 0 0) (drop 1 l)) bytes_are) in
    record { tokens = same ∙ taken.tokens; stands = taken.stands; between = taken.between }
