-- What is known of a listing of which some lines were read.
use Rattle.std.proofs.Common.{◌≡◌, ℕ, suc, ◌+◌, ◌*◌, ◌%◌, ◌^◌, ◌<◌, ◌≤◌, List, [], ◌∷◌, ◌++◌, length, Option, Some}
use Rattle.std.proofs.Common.{None}
use Rattle.std.proofs.Common.{true, false, ◌==◌}
use Rattle.std.proofs.Common.{refl, sym, ap, subst, ◌∙◌, arith, append_assoc, append-nil, length-append}
use Rattle.std.specs.Prelude.{All, MatchOption}
use Rattle.std.specs.Option.{SomeIff}
use Rattle.std.proofs.lemmas.Bool.{eqb-true}
use Rattle.std.proofs.lemmas.List.Elements.{All-nil, All-push}
use Rattle.listing.specs.CodeLines.{address_part, code_line, code_lines, word_part}
use Rattle.listing.specs.Readings.{IsListing, ListsFrom}
use Rattle.listing.proofs.LineLemmas.{code_lines-push, line_some}

-- ---- lists of words that a text lists

-- the first line, and the lines behind it
pub record ListsFirst (address : ℕ) (text : List ℕ) (word : ℕ) (more : List ℕ) : Type 0 where
  pub line : text ≡ code_line address word ++ code_lines (address + 4) more
  pub word_fits : word < 2 ^ 32
  pub address_fits : address < 2 ^ 64
  pub behind : ListsFrom (address + 4) (code_lines (address + 4) more) more

pub lists_first : (address : ℕ) (text : List ℕ) (word : ℕ) (more : List ℕ) → ListsFrom address text (word ∷ more)
    → ListsFirst address text word more
lists_first address text word more lists = record {
  line = lists.lines;
  word_fits = lists.words_fit 0 0 (omega arith);
  address_fits = (let h = lists.addresses_fit 0 (omega arith) in omega arith);
  behind = record {
    lines = refl;
    words_fit = λ k d below. lists.words_fit (suc k) d (omega arith);
    addresses_fit = λ k below. (let h = lists.addresses_fit (suc k) (omega arith) in omega arith);
  };
}

-- a line isn't empty
pub some_line : (address word : ℕ) (behind : List ℕ) → [] ≡ code_line address word ++ behind → ⊥
some_line address word behind is =
    let long = length-append (code_line address word) behind in
    let some = line_some address word in
    let none = ap length is in
    omega arith

-- the empty text lists no words
pub no_words : (address : ℕ) (words : List ℕ) → [] ≡ code_lines address words → words ≡ []
no_words address [] is = refl
no_words address (word ∷ words) is = absurd (some_line address word (code_lines (address + 4) words) is)

-- ---- some lines were read

-- where all of the text is a listing, the rest is one of the words that are left
pub record AreLeft (first : ℕ) (words rest all : List ℕ) : Type 0 where
  pub tail : List ℕ
  pub words_are : all ≡ words ++ tail
  pub lists : ListsFrom (first + 4 * length words) rest tail

-- the text begins with the lines of these words, which begin each list of words that it lists; the rest comes next, and
-- this is the address of its first line, if that is below 2 ^ 64
pub record IsReadSoFar (first : ℕ) (text words rest : List ℕ) (next : Option ℕ) : Type 0 where
  pub lines : text ≡ code_lines first words ++ rest
  pub words_fit : All (λ word. word < 2 ^ 32) words
  pub addresses_fit : (k : ℕ) → k < length words → first + 4 * k < 2 ^ 64
  pub next_is : MatchOption next (2 ^ 64 ≤ first + 4 * length words)
      (λ address. (address ≡ first + 4 * length words) × (address < 2 ^ 64))
  pub left : (all : List ℕ) → ListsFrom first text all → AreLeft first words rest all

-- nothing was read
pub read_none : (first : ℕ) (text : List ℕ) → first < 2 ^ 64 → IsReadSoFar first text [] text (Some first)
read_none first text small = record {
  lines = refl;
  words_fit = All-nil (λ word. word < 2 ^ 32);
  addresses_fit = λ k below. absurd (omega arith);
  next_is = (omega arith, small);
  left = λ all lists. record {
    tail = all;
    words_are = refl;
    lists = subst (λ (a : ℕ). ListsFrom a text all) (here first) lists;
  };
}
  where
    here : (first : ℕ) → first ≡ first + 4 * 0
    here first = omega arith

-- this is the line that comes next, and no other line can be read there
pub record IsNextLine (address : ℕ) (rest : List ℕ) (word : ℕ) (behind : List ℕ) : Type 0 where
  pub line : rest ≡ code_line address word ++ behind
  pub fits : word < 2 ^ 32
  pub one : (other : ℕ) (more : List ℕ) → other < 2 ^ 32 → rest ≡ code_line address other ++ more
      → (word ≡ other) × (behind ≡ more)

-- one word more
pub longer : (words : List ℕ) (word : ℕ) → length (words ++ word ∷ []) ≡ suc (length words)
longer words word = let long = length-append words (word ∷ []) in omega arith

module _ (first : ℕ) (text words rest : List ℕ) where
  -- what is left behind a line that was read
  left_behind : (address word : ℕ) (behind all : List ℕ) → address ≡ first + 4 * length words
      → IsNextLine address rest word behind → AreLeft first words rest all
      → AreLeft first (words ++ word ∷ []) behind all
  left_behind address word behind all at next left = go left.tail left.words_are left.lists
    where
      go : (tail : List ℕ) → all ≡ words ++ tail → ListsFrom (first + 4 * length words) rest tail
          → AreLeft first (words ++ word ∷ []) behind all
      go [] is lists = absurd (some_line address word behind (sym lists.lines ∙ next.line))
      go (other ∷ more) is lists =
          let here = lists_first (first + 4 * length words) rest other more lists in
          let line : rest ≡ code_line address other ++ code_lines (address + 4) more =
          subst (λ (a : ℕ). rest ≡ code_line a other ++ code_lines (a + 4) more) (sym at) here.line in
          let same = next.one other (code_lines (address + 4) more) here.word_fits line in
          let past : address + 4 ≡ first + 4 * length (words ++ word ∷ []) = omega (arith, longer words word) in
          record {
            tail = more;
            words_are = is ∙ ap (λ w. words ++ w ∷ more) (sym same.0) ∙ sym (append_assoc words (word ∷ []) more);
            lists = subst (λ (a : ℕ). ListsFrom a behind more) past
                (subst (λ (l : List ℕ). ListsFrom (address + 4) l more) (sym same.1)
                (subst (λ (a : ℕ). ListsFrom (a + 4) (code_lines (a + 4) more) more) (sym at) here.behind));
          }

  -- one line more was read
  pub read_more : (address word : ℕ) (behind : List ℕ) (past : Option ℕ)
      → IsReadSoFar first text words rest (Some address) → IsNextLine address rest word behind
      → SomeIff past (address + 4 < 2 ^ 64) (address + 4)
      → IsReadSoFar first text (words ++ word ∷ []) behind past
  read_more address word behind past so_far next told = record {
    lines = so_far.lines ∙ ap (λ (l : List ℕ). code_lines first words ++ l) next.line
        ∙ sym (append_assoc (code_lines first words) (code_line address word) behind)
        ∙ ap (λ (a : ℕ). (code_lines first words ++ code_line a word) ++ behind) so_far.next_is.0
        ∙ ap (λ (l : List ℕ). l ++ behind) (sym (code_lines-push first words word));
    words_fit = All-push (λ word. word < 2 ^ 32) words word so_far.words_fit next.fits;
    addresses_fit = addresses;
    next_is = where_next past told;
    left = λ all lists. left_behind address word behind all so_far.next_is.0 next (so_far.left all lists);
  }
    where
      addresses : (k : ℕ) → k < length (words ++ word ∷ []) → first + 4 * k < 2 ^ 64
      addresses k below =
          let before = so_far.addresses_fit k in
          let at = so_far.next_is.0 in
          let small = so_far.next_is.1 in
          let long = longer words word in
          omega arith

      where_next : (past : Option ℕ) → SomeIff past (address + 4 < 2 ^ 64) (address + 4)
          → MatchOption past (2 ^ 64 ≤ first + 4 * length (words ++ word ∷ []))
          (λ a. (a ≡ first + 4 * length (words ++ word ∷ [])) × (a < 2 ^ 64))
      where_next None none =
          let at = so_far.next_is.0 in let long = longer words word in omega arith
      where_next (Some a) some =
          let at = so_far.next_is.0 in let long = longer words word in (omega arith, omega arith)

  -- all was read
  pub all_read : (next : Option ℕ) → rest ≡ [] → IsReadSoFar first text words rest next → ListsFrom first text words
  all_read next end so_far = record {
    lines = so_far.lines ∙ ap (λ (l : List ℕ). code_lines first words ++ l) end ∙ append-nil (code_lines first words);
    words_fit = so_far.words_fit;
    addresses_fit = so_far.addresses_fit;
  }

  -- and nothing else
  pub only_these : (next : Option ℕ) → rest ≡ [] → IsReadSoFar first text words rest next
      → (all : List ℕ) → ListsFrom first text all → words ≡ all
  only_these next end so_far all lists =
      let left = so_far.left all lists in
      sym (left.words_are ∙ ap (λ (l : List ℕ). words ++ l)
      (no_words (first + 4 * length words) left.tail (sym end ∙ left.lists.lines)) ∙ append-nil words)

  -- a line is left for which there is no address
  pub no_address : (rest ≡ [] → ⊥) → IsReadSoFar first text words rest None
      → (all : List ℕ) → ListsFrom first text all → ⊥
  no_address some so_far all lists = let left = so_far.left all lists in go left.tail left.lists
    where
      go : (tail : List ℕ) → ListsFrom (first + 4 * length words) rest tail → ⊥
      go [] l = some l.lines
      go (word ∷ more) l =
          let fits = (lists_first (first + 4 * length words) rest word more l).address_fits in
          let past = so_far.next_is in omega arith

  -- what is left doesn't begin with a line
  pub no_line : (address : ℕ) → (rest ≡ [] → ⊥) → IsReadSoFar first text words rest (Some address)
      → ((word : ℕ) (behind : List ℕ) → word < 2 ^ 32 → rest ≡ code_line address word ++ behind → ⊥)
      → (all : List ℕ) → ListsFrom first text all → ⊥
  no_line address some so_far none all lists = let left = so_far.left all lists in go left.tail left.lists
    where
      go : (tail : List ℕ) → ListsFrom (first + 4 * length words) rest tail → ⊥
      go [] l = some l.lines
      go (word ∷ more) l =
          let here = lists_first (first + 4 * length words) rest word more l in
          none word (code_lines (address + 4) more) here.word_fits
          (subst (λ (a : ℕ). rest ≡ code_line a word ++ code_lines (a + 4) more) (sym so_far.next_is.0) here.line)

-- ---- the first address

-- a listing of some words begins with its first address
pub begins_with : (text words : List ℕ) → (listing : IsListing text words) → (text ≡ [] → ⊥)
    → (rest : List ℕ) × (text ≡ address_part listing.first ++ rest) × (listing.first < 2 ^ 64)
begins_with text words listing some = go words listing.lists
  where
    go : (words : List ℕ) → ListsFrom listing.first text words
        → (rest : List ℕ) × (text ≡ address_part listing.first ++ rest) × (listing.first < 2 ^ 64)
    go [] lists = absurd (some lists.lines)
    go (word ∷ more) lists =
        let here = lists_first listing.first text word more lists in
        let behind : List ℕ = code_lines (listing.first + 4) more in (
          word_part word ++ behind,
          here.line ∙ append_assoc (address_part listing.first) (word_part word) behind,
          here.address_fits,
        )

-- where that address is read, the text lists the words from it on
pub same_first : (text words : List ℕ) (found : ℕ) → IsListing text words → (text ≡ [] → ⊥)
    → ((address : ℕ) (rest : List ℕ) → address < 2 ^ 64 → text ≡ address_part address ++ rest
    → Some found ≡ Some address)
    → ListsFrom found text words × (found % 4 ≡ 0)
same_first text words found listing some read =
    let (rest, is, small) = begins_with text words listing some in
    let told = read listing.first rest small is in
    let same : listing.first ≡ found = cc in (
      subst (λ (a : ℕ). ListsFrom a text words) same listing.lists,
      subst (λ (a : ℕ). a % 4 ≡ 0) same listing.aligned,
    )

-- where no address is read, the text is no listing
pub no_first : (text words : List ℕ) → IsListing text words → (text ≡ [] → ⊥)
    → ((address : ℕ) (rest : List ℕ) → address < 2 ^ 64 → text ≡ address_part address ++ rest
    → ◌≡◌ {A = Option ℕ} None (Some address)) → ⊥
no_first text words listing some read =
    let (rest, is, small) = begins_with text words listing some in
    let told = read listing.first rest small is in cc

-- ---- texts that are empty, and texts that aren't

pub not_empty : (bytes : List ℕ) → false ≡ (length bytes == 0) → bytes ≡ [] → ⊥
not_empty [] told is = cc
not_empty (x ∷ xs) told is = cc

pub empty : (bytes : List ℕ) → true ≡ (length bytes == 0) → bytes ≡ []
empty [] told = refl
empty (x ∷ xs) told = absurd (let none = eqb-true (length (x ∷ xs)) 0 (sym told) in omega arith)
