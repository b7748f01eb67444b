-- What the scanner's steps over bytes leave.
use Rattle.std.proofs.Common.{◌≡◌, ◌⊎◌, inl, inr, ℕ, suc, ◌+◌, ◌<◌, Bool, true, false, cond, not, ◌==◌, ◌&&◌, ◌||◌}
use Rattle.std.proofs.Common.{List, [], ◌∷◌, ◌++◌, length, take, drop, reverse, get_or, refl, ap, ◌∙◌, sym, subst}
use Rattle.std.proofs.Common.{arith}
use borrow.Author.Tests.{eqb-true}
use Rattle.std.specs.List.{prefix_len, take_while, count_by, list_any}
use Rattle.std.proofs.lemmas.Bool.{and_parts}
use Rattle.std.proofs.lemmas.List.{append_assoc, append-nil, reverse-append, take_more, drop_more}
use Rattle.std.proofs.lemmas.List.Sums.{take_while-cons, sum_by-append}
use Rattle.sexpr_reader.specs.Bytes.{is_line_feed, is_white, is_comment_sign, is_hash, is_symbol_byte}
use Rattle.sexpr_reader.specs.Places.{line_before, place_after}
use Rattle.sexpr_reader.specs.Token.{atom, lexeme_at, mark, hash_atom, Token, is_in_comment, may_go_on, no_token_begins}
use Rattle.sexpr_reader.specs.Token.{tokens_behind}
use Rattle.sexpr_reader.specs.Scanning.{goes_on, lexeme_len, tokens_at}

-- a byte that is one of these isn't another kind of byte
is_not : (c : ℕ) (p : ℕ → Bool) → p c ≡ false → (b : ℕ) → p b ≡ true → (b == c) ≡ false
is_not c p off b on = by_test (b == c) refl
  where
    by_test : (same : Bool) → (b == c) ≡ same → same ≡ false
    by_test false e = refl
    by_test true e = let at_c : b ≡ c = eqb-true b c e in let also : p b ≡ p c = ap p at_c in cc

pub symbol_is_no_line_feed : (b : ℕ) → is_symbol_byte b ≡ true → is_line_feed b ≡ false
symbol_is_no_line_feed = is_not 10 is_symbol_byte refl

pub symbol_is_no_comment_sign : (b : ℕ) → is_symbol_byte b ≡ true → is_comment_sign b ≡ false
symbol_is_no_comment_sign = is_not 59 is_symbol_byte refl

-- the line before a place one byte further on
pub line_before-push : (before : List ℕ) (b : ℕ)
    → line_before (before ++ b ∷ []) ≡ cond (not (is_line_feed b)) (b ∷ line_before before) []
line_before-push before b =
    ap (take_while (λ x. not (is_line_feed x))) (reverse-append before (b ∷ []))
    ∙ take_while-cons (λ x. not (is_line_feed x)) b (reverse before)

pub count-push : (before : List ℕ) (b : ℕ) → count_by is_line_feed (before ++ b ∷ []) ≡ count_by is_line_feed before
    + cond (is_line_feed b) 1 0
count-push before b =
    sum_by-append (λ x. cond (is_line_feed x) 1 0) before (b ∷ [])
    ∙ ap (λ n. count_by is_line_feed before + n)
    (let at_end : 0 + cond (is_line_feed b) 1 0 ≡ cond (is_line_feed b) 1 0 = omega arith in at_end)

-- the facts of a place one byte further on, on the same line or the next
pub line-push : (before : List ℕ) (b : ℕ)
    → (place_after (before ++ b ∷ [])).line ≡ cond (is_line_feed b) ((place_after before).line + 1)
    (place_after before).line
line-push before b = ap (λ n. 1 + n) (count-push before b) ∙ by_test (is_line_feed b)
  where
    by_test : (lf : Bool) → 1 + (count_by is_line_feed before + cond lf 1 0)
        ≡ cond lf (1 + count_by is_line_feed before + 1) (1 + count_by is_line_feed before)
    by_test true = omega arith
    by_test false = omega arith

pub col-push : (before : List ℕ) (b : ℕ) → (place_after (before ++ b ∷ [])).col ≡ cond (is_line_feed b) 1
    ((place_after before).col + 1)
col-push before b = ap (λ l. 1 + length l) (line_before-push before b) ∙ by_test (is_line_feed b)
  where
    by_test : (lf : Bool) → 1 + length (cond (not lf) (b ∷ line_before before) [])
        ≡ cond lf 1 (1 + length (line_before before) + 1)
    by_test true = omega arith
    by_test false = omega arith

pub is_in_comment-push : (before : List ℕ) (b : ℕ)
    → is_in_comment (before ++ b ∷ []) ≡ (not (is_line_feed b) && (is_comment_sign b || is_in_comment before))
is_in_comment-push before b = ap (list_any is_comment_sign) (line_before-push before b) ∙ by_test (is_line_feed b)
  where
    by_test : (lf : Bool) → list_any is_comment_sign (cond (not lf) (b ∷ line_before before) [])
        ≡ (not lf && (is_comment_sign b || is_in_comment before))
    by_test true = refl
    by_test false = refl

is_word_byte : ℕ → Bool
is_word_byte b = is_symbol_byte b || is_hash b

pub may_go_on-push : (before : List ℕ) (b : ℕ) → is_line_feed b ≡ false
    → may_go_on (line_before (before ++ b ∷ [])) ≡ (is_symbol_byte b || is_hash b)
may_go_on-push before b same =
    ap may_go_on (line_before-push before b) ∙ ap (λ lf. may_go_on (cond (not lf) (b ∷ line_before before) [])) same

-- behind white space no atom goes on
word_is_not_white : (b : ℕ) → (is_symbol_byte b || is_hash b) ≡ true → is_white b ≡ false
word_is_not_white b h =
    ap (λ t. t || b == 9 || b == 13 || is_line_feed b) (is_not 32 (λ x. is_symbol_byte x || is_hash x) refl b h)
    ∙ ap (λ t. t || b == 13 || is_line_feed b) (is_not 9 (λ x. is_symbol_byte x || is_hash x) refl b h)
    ∙ ap (λ t. t || is_line_feed b) (is_not 13 (λ x. is_symbol_byte x || is_hash x) refl b h)
    ∙ is_not 10 (λ x. is_symbol_byte x || is_hash x) refl b h

white_is_no_word : (b : ℕ) → is_white b ≡ true → (is_symbol_byte b || is_hash b) ≡ false
white_is_no_word b h = by_test (is_symbol_byte b || is_hash b) refl
  where
    by_test : (word : Bool) → (is_symbol_byte b || is_hash b) ≡ word → word ≡ false
    by_test false e = refl
    by_test true e = let clash : is_white b ≡ false = word_is_not_white b e in cc

and_false : (x : Bool) → (x && false) ≡ false
and_false true = refl
and_false false = refl

no_goes_on : (before rest : List ℕ) → may_go_on (line_before before) ≡ false → goes_on before rest ≡ false
no_goes_on before [] h = refl
no_goes_on before (x ∷ rest) h = ap (λ t. is_symbol_byte x && t) h ∙ and_false (is_symbol_byte x)

pub goes_on-white : (before rest : List ℕ) (b : ℕ) → is_white b ≡ true → goes_on (before ++ b ∷ []) rest ≡ false
goes_on-white before rest b h =
    no_goes_on (before ++ b ∷ []) rest (ap may_go_on (line_before-push before b) ∙ by_test (is_line_feed b))
  where
    by_test : (lf : Bool) → may_go_on (cond (not lf) (b ∷ line_before before) []) ≡ false
    by_test true = refl
    by_test false = white_is_no_word b h

-- where no token begins, the tokens are those behind the byte
pub tokens_behind-none : (before : List ℕ) (b : ℕ) (rest : List ℕ) → no_token_begins before b ≡ true
    → tokens_behind before (b ∷ rest) ≡ tokens_behind (before ++ b ∷ []) rest
tokens_behind-none before b rest h =
    ap (λ none. cond none [] (record { pos = place_after before; lexeme = lexeme_at b rest } ∷ [])
    ++ tokens_behind (before ++ b ∷ []) rest) h

no_token_begins-blank : (inside white sign on : Bool) → ((sign || inside) ≡ true) ⊎ (white ≡ true)
    → (inside || white || sign || on) ≡ true
no_token_begins-blank true white sign on h = refl
no_token_begins-blank false true sign on h = refl
no_token_begins-blank false false true on h = refl
no_token_begins-blank false false false on (inl e) = cc
no_token_begins-blank false false false on (inr e) = cc

-- what the scanner knows between two bytes that it skips
pub record Skips (text : List ℕ) (at : ℕ) (in_comment : Bool) : Type 0 where
  pub comment : in_comment ≡ is_in_comment (take at text)
  pub apart : in_comment ≡ false → goes_on (take at text) (drop at text) ≡ false

pub record SkippedByte (text : List ℕ) (at : ℕ) (next : Bool) : Type 0 where
  pub skips : Skips text (at + 1) next
  pub tokens : tokens_at text at ≡ tokens_at text (at + 1)
  pub line : (place_after (take (at + 1) text)).line ≡ cond (get_or text at 0 == 10)
      ((place_after (take at text)).line + 1) (place_after (take at text)).line
  pub col : (place_after (take (at + 1) text)).col ≡ cond (get_or text at 0 == 10) 1
      ((place_after (take at text)).col + 1)

-- a byte that is white or in a comment, or begins one, is skipped
pub skipped_byte : (text : List ℕ) (at : ℕ) (in_comment next : Bool) → at < length text → Skips text at in_comment →
    next ≡ (not (is_line_feed (get_or text at 0)) && (is_comment_sign (get_or text at 0) || in_comment))
    → (next ≡ true) ⊎ (is_white (get_or text at 0) ≡ true) → SkippedByte text at next
skipped_byte text at in_comment next inside skips e blank =
    let b : ℕ = get_or text at 0 in
    let front : take (at + 1) text ≡ take at text ++ b ∷ [] = take_more text at 0 inside in
    let back : drop at text ≡ b ∷ drop (at + 1) text = drop_more text at 0 inside in
    record {
      skips = record {
        comment =
            e ∙ ap (λ t. not (is_line_feed b) && (is_comment_sign b || t)) skips.comment
            ∙ sym (is_in_comment-push (take at text) b) ∙ ap is_in_comment (sym front);
        apart = λ out. ap (λ l. goes_on l (drop (at + 1) text)) front
            ∙ goes_on-white (take at text) (drop (at + 1) text) b (white_there out blank);
      };
      tokens = ap (λ l. tokens_behind (take at text) l) back
          ∙ tokens_behind-none (take at text) b (drop (at + 1) text)
          (no_token_begins-blank (is_in_comment (take at text)) (is_white b) (is_comment_sign b)
          (is_symbol_byte b && may_go_on (line_before (take at text))) (reason blank))
          ∙ ap (λ l. tokens_behind l (drop (at + 1) text)) (sym front);
      line = ap (λ l. (place_after l).line) front ∙ line-push (take at text) b;
      col = ap (λ l. (place_after l).col) front ∙ col-push (take at text) b;
    }
  where
    white_there : next ≡ false → (next ≡ true) ⊎ (is_white (get_or text at 0) ≡ true)
        → is_white (get_or text at 0) ≡ true
    white_there out (inl on) = cc
    white_there out (inr white) = white

    reason : (next ≡ true) ⊎ (is_white (get_or text at 0) ≡ true)
        → ((is_comment_sign (get_or text at 0) || is_in_comment (take at text)) ≡ true)
        ⊎ (is_white (get_or text at 0) ≡ true)
    reason (inl on) =
        inl (ap (λ t. is_comment_sign (get_or text at 0) || t) (sym skips.comment)
        ∙ (and_parts (not (is_line_feed (get_or text at 0))) (is_comment_sign (get_or text at 0) || in_comment)
        (sym e ∙ on)).1)
    reason (inr white) = inr white

-- what stands behind some bytes of a line, which are n
pub record AfterLine (before rest front back : List ℕ) (n : ℕ) : Type 0 where
  pub tokens : tokens_behind before rest ≡ tokens_behind front back
  pub line : (place_after front).line ≡ (place_after before).line
  pub col : (place_after front).col ≡ (place_after before).col + n
  pub outside : is_in_comment front ≡ false
  pub apart : goes_on front back ≡ false

-- a symbol byte that an atom goes on with is passed
passed_byte : (before rest front back : List ℕ) (b n : ℕ) → is_symbol_byte b ≡ true
    → may_go_on (line_before before) ≡ true →
    AfterLine (before ++ b ∷ []) rest front back n → AfterLine before (b ∷ rest) front back (suc n)
passed_byte before rest front back b n symbol on after =
    let same : is_line_feed b ≡ false = symbol_is_no_line_feed b symbol in
    let passed : no_token_begins before b ≡ true =
    ap (λ s. is_in_comment before || is_white b || is_comment_sign b || (s && may_go_on (line_before before))) symbol
    ∙ ap (λ s. is_in_comment before || is_white b || is_comment_sign b || s) on
    ∙ or_true (is_in_comment before || is_white b || is_comment_sign b) in
    let col : (place_after (before ++ b ∷ [])).col ≡ (place_after before).col + 1 = col-push before b
    ∙ ap (λ lf. cond lf 1 ((place_after before).col + 1)) same in
    record {
      tokens = tokens_behind-none before b rest passed ∙ after.tokens;
      line = after.line ∙ line-push before b ∙ ap
          (λ lf. cond lf ((place_after before).line + 1) (place_after before).line) same;
      col = let later = after.col in omega arith;
      outside = after.outside;
      apart = after.apart;
    }
  where
    or_true : (t : Bool) → (t || true) ≡ true
    or_true true = refl
    or_true false = refl

-- none is passed
stay : (before rest : List ℕ) → is_in_comment before ≡ false → goes_on before rest ≡ false
    → AfterLine before rest (before ++ []) rest 0
stay before rest outside apart =
    subst (λ (front : List ℕ). AfterLine before rest front rest 0) (sym (append-nil before))
    (record { tokens = refl; line = refl; col = omega arith; outside = outside; apart = apart })

-- the first n bytes of the rest are passed
abbrev Passed : List ℕ → List ℕ → ℕ → Type 0
Passed before rest n = AfterLine before rest (before ++ take n rest) (drop n rest) n

-- one byte more
passed_more : (before rest : List ℕ) (b m : ℕ) → is_symbol_byte b ≡ true → may_go_on (line_before before) ≡ true
    → Passed (before ++ b ∷ []) rest m → Passed before (b ∷ rest) (1 + m)
passed_more before rest b m symbol on after =
    let regrouped : AfterLine (before ++ b ∷ []) rest (before ++ (b ∷ take m rest)) (drop m rest) m =
    subst (λ (front : List ℕ). AfterLine (before ++ b ∷ []) rest front (drop m rest) m)
    (append_assoc before (b ∷ []) (take m rest)) after in
    let one_more : suc m ≡ 1 + m = omega arith in
    subst (λ (n : ℕ). Passed before (b ∷ rest) n) one_more
    (passed_byte before rest (before ++ (b ∷ take m rest)) (drop m rest) b m symbol on regrouped)

-- behind a symbol byte a word goes on
symbol_goes_on : (before : List ℕ) (b : ℕ) → is_symbol_byte b ≡ true → may_go_on (line_before (before ++ b ∷ [])) ≡ true
symbol_goes_on before b symbol =
    may_go_on-push before b (symbol_is_no_line_feed b symbol) ∙ ap (λ s. s || is_hash b) symbol

symbol_outside : (before : List ℕ) (b : ℕ) → is_symbol_byte b ≡ true → is_in_comment before ≡ false
    → is_in_comment (before ++ b ∷ []) ≡ false
symbol_outside before b symbol outside =
    is_in_comment-push before b
    ∙ ap (λ s. not (is_line_feed b) && (s || is_in_comment before)) (symbol_is_no_comment_sign b symbol)
    ∙ ap (λ s. not (is_line_feed b) && s) outside
    ∙ and_false (not (is_line_feed b))

passed_from : (before : List ℕ) (b : ℕ) (rest : List ℕ) (symbol : Bool) → is_symbol_byte b ≡ symbol
    → may_go_on (line_before before) ≡ true → is_in_comment before ≡ false →
    (may_go_on (line_before (before ++ b ∷ [])) ≡ true → is_in_comment (before ++ b ∷ []) ≡ false
    → Passed (before ++ b ∷ []) rest (prefix_len is_symbol_byte rest)) →
    Passed before (b ∷ rest) (cond symbol (1 + prefix_len is_symbol_byte rest) 0)
passed_from before b rest true e on outside ih =
    passed_more before rest b (prefix_len is_symbol_byte rest) e on
    (ih (symbol_goes_on before b e) (symbol_outside before b e outside))
passed_from before b rest false e on outside ih =
    stay before (b ∷ rest) outside (ap (λ s. s && may_go_on (line_before before)) e)

-- all symbol bytes of a word are passed
passed_word : (before rest : List ℕ) → may_go_on (line_before before) ≡ true → is_in_comment before ≡ false
    → Passed before rest (prefix_len is_symbol_byte rest)
passed_word before [] on outside = stay before [] outside refl
passed_word before (b ∷ rest) on outside =
    passed_from before b rest (is_symbol_byte b) refl on outside
    (λ later out. passed_word (before ++ b ∷ []) rest later out)

-- what stands behind a token of n bytes
pub record AfterToken (before rest : List ℕ) (n : ℕ) (t : Token) : Type 0 where
  pub tokens : tokens_behind before rest ≡ t ∷ tokens_behind (before ++ take n rest) (drop n rest)
  pub line : (place_after (before ++ take n rest)).line ≡ (place_after before).line
  pub col : (place_after (before ++ take n rest)).col ≡ (place_after before).col + n
  pub outside : is_in_comment (before ++ take n rest) ≡ false
  pub apart : goes_on (before ++ take n rest) (drop n rest) ≡ false

none_of_four : (inside white sign on : Bool) → (inside || white || sign || on) ≡ false
    → (inside ≡ false) × (white ≡ false) × (sign ≡ false)
none_of_four false false false on h = (refl, refl, refl)
none_of_four true white sign on h = cc
none_of_four false true sign on h = cc
none_of_four false false true on h = cc

line_feed_is_white : (b : ℕ) → is_white b ≡ false → is_line_feed b ≡ false
line_feed_is_white b h = by_test (b == 32 || b == 9 || b == 13) (is_line_feed b) h
  where
    by_test : (others lf : Bool) → (others || lf) ≡ false → lf ≡ false
    by_test false lf e = e
    by_test true lf e = cc

-- the first byte of a token, and then the rest of it
after_first : (before : List ℕ) (b : ℕ) (rest : List ℕ) (m : ℕ) → no_token_begins before b ≡ false
    → Passed (before ++ b ∷ []) rest m → AfterToken before (b ∷ rest) (1 + m)
    (record { pos = place_after before; lexeme = lexeme_at b rest })
after_first before b rest m begins after =
    let parts = none_of_four (is_in_comment before) (is_white b) (is_comment_sign b)
    (is_symbol_byte b && may_go_on (line_before before)) begins in
    let same : is_line_feed b ≡ false = line_feed_is_white b parts.1 in
    let t : Token = record { pos = place_after before; lexeme = lexeme_at b rest } in
    let front : before ++ (b ∷ take m rest) ≡ (before ++ b ∷ []) ++ take m rest = sym
    (append_assoc before (b ∷ []) (take m rest)) in
    let col : (place_after (before ++ b ∷ [])).col ≡ (place_after before).col + 1 = col-push before b
    ∙ ap (λ lf. cond lf 1 ((place_after before).col + 1)) same in
    let one_more : suc m ≡ 1 + m = omega arith in
    let last : (place_after (before ++ (b ∷ take m rest))).col ≡ (place_after before).col + suc m =
    ap (λ l. (place_after l).col) front ∙ after.col ∙ ap (λ n. n + m) col
    ∙ (let sum : (place_after before).col + 1 + m ≡ (place_after before).col + suc m = omega arith in sum) in
    subst (λ (n : ℕ). AfterToken before (b ∷ rest) n t) one_more (record {
      tokens = ap (λ none. cond none [] (t ∷ []) ++ tokens_behind (before ++ b ∷ []) rest) begins
          ∙ ap (λ ts. t ∷ ts) (after.tokens ∙ ap (λ l. tokens_behind l (drop m rest)) (sym front));
      line = ap (λ l. (place_after l).line) front ∙ after.line ∙ line-push before b
          ∙ ap (λ lf. cond lf ((place_after before).line + 1) (place_after before).line) same;
      col = last;
      outside = ap is_in_comment front ∙ after.outside;
      apart = ap (λ l. goes_on l (drop m rest)) front ∙ after.apart;
    })

token_outside : (before : List ℕ) (b : ℕ) → no_token_begins before b ≡ false → is_in_comment (before ++ b ∷ []) ≡ false
token_outside before b begins =
    let parts = none_of_four (is_in_comment before) (is_white b) (is_comment_sign b)
    (is_symbol_byte b && may_go_on (line_before before)) begins in
    is_in_comment-push before b
    ∙ ap (λ s. not (is_line_feed b) && (s || is_in_comment before)) parts.2
    ∙ ap (λ s. not (is_line_feed b) && s) parts.0
    ∙ and_false (not (is_line_feed b))

token_from : (before : List ℕ) (b : ℕ) (rest : List ℕ) (word : Bool) → (is_symbol_byte b || is_hash b) ≡ word
    → no_token_begins before b ≡ false →
    AfterToken before (b ∷ rest) (cond word (1 + prefix_len is_symbol_byte rest) 1)
    (record { pos = place_after before; lexeme = lexeme_at b rest })
token_from before b rest true e begins =
    let parts = none_of_four (is_in_comment before) (is_white b) (is_comment_sign b)
    (is_symbol_byte b && may_go_on (line_before before)) begins in
    after_first before b rest (prefix_len is_symbol_byte rest) begins
    (passed_word (before ++ b ∷ []) rest (may_go_on-push before b (line_feed_is_white b parts.1) ∙ e)
    (token_outside before b begins))
token_from before b rest false e begins =
    let parts = none_of_four (is_in_comment before) (is_white b) (is_comment_sign b)
    (is_symbol_byte b && may_go_on (line_before before)) begins in
    after_first before b rest 0 begins
    (stay (before ++ b ∷ []) rest (token_outside before b begins)
    (no_goes_on (before ++ b ∷ []) rest (may_go_on-push before b (line_feed_is_white b parts.1) ∙ e)))

-- a token begins at a byte with which none begins not
pub after_token : (before : List ℕ) (b : ℕ) (rest : List ℕ) → no_token_begins before b ≡ false
    → AfterToken before (b ∷ rest) (lexeme_len b rest) (record { pos = place_after before; lexeme = lexeme_at b rest })
after_token before b rest begins = token_from before b rest (is_symbol_byte b || is_hash b) refl begins

-- a word from the front is the lexeme there
word_from : (b : ℕ) (rest : List ℕ) → is_symbol_byte b ≡ true
    → atom (take (prefix_len is_symbol_byte (b ∷ rest)) (b ∷ rest)) ≡ lexeme_at b rest
word_from b rest h =
    let m : ℕ = prefix_len is_symbol_byte rest in
    let one_more : 1 + m ≡ suc m = omega arith in
    ap (λ s. atom (take (cond s (1 + m) 0) (b ∷ rest))) h
    ∙ ap (λ k. atom (take k (b ∷ rest))) one_more
    ∙ ap (λ s. cond s (atom (b ∷ take_while is_symbol_byte rest))
    (cond (is_hash b) (hash_atom (take_while is_symbol_byte rest)) (mark b))) (sym h)

pub lexeme_at-symbol : (bytes : List ℕ) (n : ℕ) → 0 < length bytes → n ≡ prefix_len is_symbol_byte bytes
    → is_symbol_byte (get_or bytes 0 0) ≡ true → atom (take n bytes) ≡ lexeme_at (get_or bytes 0 0) (drop 1 bytes)
lexeme_at-symbol [] n some e h = absurd (omega arith)
lexeme_at-symbol (b ∷ rest) n some e h = ap (λ k. atom (take k (b ∷ rest))) e ∙ word_from b rest h
