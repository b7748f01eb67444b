-- What is known of the words of a procedure while its code is gone along.
use Rattle.std.proofs.Common.{Bool, true, ℕ, ◌<◌, ◌≤◌, ◌≡◌, List, [], ◌∷◌, length, Some}
use Rattle.std.proofs.Common.{refl, ◌∙◌, ap, nat_lt, nat_le, ◌==◌, slice_get}
use Rattle.std.proofs.lemmas.Bool.{and_from, and_parts, or_left, or_right, lt-ltb, le-leb, eq-eqb}
use Rattle.machine_words.specs.declared.conditions.Cond.{Cond}
use Rattle.low_ir.specs.declared.code.WordOp.{WordOp}
use Rattle.low_ir.specs.declared.code.LowSource.{LowSource}
use Rattle.low_ir.specs.declared.code.LowSource.TheVariants.{Word, Number}
use Rattle.low_ir.specs.Procedures.{Code, Done, Set, Compute, Load, Store, CodeOf, Build, Request, Take, Environment}
use Rattle.low_ir.specs.Procedures.{Call, CallAt, If, Return, TailCall, TailCallAt, Proc}
use Rattle.low_ir.specs.Closed.{all_words, reads, names_fit, is_read, are_read, fits, if_fits, go_if, then_known, meet}
use Rattle.low_ir.specs.Closed.{behind, takes_words}

-- which words are set
abbrev pub Known : Type 0
Known = ℕ → Bool

-- what is set in the first is set in the second
abbrev pub More : Known → Known → Type 0
More a b = (i : ℕ) → a i ≡ true → b i ≡ true

pub more_same : (a : Known) → More a a
more_same a i h = h

pub more_then : (a b c : Known) → More a b → More b c → More a c
more_then a b c f g i h = g i (f i h)

-- one word more
pub more_also : (a : Known) (d : ℕ) → More a (all_words.also d a)
more_also a d i h = or_right (i == d) (a i) h

pub has_also : (a : Known) (d : ℕ) → all_words.also d a d ≡ true
has_also a d = or_left (d == d) (a d) (eq-eqb d d refl)

-- the words that are set in both
pub more_both : (a b c : Known) → More a b → More a c → More a (all_words.both b c)
more_both a b c f g i h = and_from (b i) (c i) (f i h) (g i h)

module _ (procs : List Proc) (n : ℕ) where
  -- a source may be read
  abbrev pub Reads : Known → LowSource → Type 0
  Reads a source = is_read all_words n a source ≡ true

  abbrev pub AllRead : Known → List LowSource → Type 0
  AllRead a sources = are_read all_words n a sources ≡ true

  pub read_word : (a : Known) (i : ℕ) → i < n → a i ≡ true → Reads a (Word i)
  read_word a i l h = and_from (nat_lt i n) (a i) (lt-ltb i n l) h

  pub read_more : (a b : Known) (s : LowSource) → More a b → Reads a s → Reads b s
  read_more a b (Word i) m h =
      let p = and_parts (nat_lt i n) (a i) h in
      and_from (nat_lt i n) (b i) p.0 (m i p.1)
  read_more a b (Number k) m h = refl

  pub all_read_more : (a b : Known) (ss : List LowSource) → More a b → AllRead a ss → AllRead b ss
  all_read_more a b [] m h = refl
  all_read_more a b (s ∷ ss) m h =
      let p = and_parts (is_read all_words n a s) (are_read all_words n a ss) h in
      and_from (is_read all_words n b s) (are_read all_words n b ss) (read_more a b s m p.0)
      (all_read_more a b ss m p.1)

  pub read_then : (a : Known) (s : LowSource) (ss : List LowSource) → Reads a s → AllRead a ss → AllRead a (s ∷ ss)
  read_then a s ss h k = and_from (is_read all_words n a s) (are_read all_words n a ss) h k

  pub read_one : (a : Known) (s : LowSource) → Reads a s → AllRead a (s ∷ [])
  read_one a s h = read_then a s [] h refl

  pub read_two : (a : Known) (s t : LowSource) → Reads a s → Reads a t → AllRead a (s ∷ t ∷ [])
  read_two a s t h k = read_then a s (t ∷ []) h (read_one a t k)

  -- all of a code may be done, and of what is known at its end, or where it leaves, this holds
  pub record Ends (a : Known) (c : Code) (Q : Known → Type 0) : Type 0 where
    pub last : Known
    pub «is» : behind all_words procs n a c ≡ Some last
    pub holds : Q last

  pub ends_done : (a : Known) (Q : Known → Type 0) → Q a → Ends a Done Q
  ends_done a Q h = record { last = a; «is» = refl; holds = h }

  -- a code that may be done, and what goes on behind it
  pub goes_on : (c rest : Code) (a b : Known) (Q : Known → Type 0)
      → behind all_words procs n a c ≡ if_fits all_words procs n a c (behind all_words procs n b rest)
      → AllRead a (reads c) → names_fit procs n c ≡ true → Ends b rest Q → Ends a c Q
  goes_on c rest a b Q same read names e =
      let fit : fits all_words procs n a c ≡ true =
      and_from (are_read all_words n a (reads c)) (names_fit procs n c) read names in
      record {
        last = e.last;
        «is» = same ∙ (ap (λ t. go_if t (behind all_words procs n b rest)) fit ∙ e.«is»);
        holds = e.holds;
      }

  -- a code that leaves
  pub goes_out : (c : Code) (a : Known) (Q : Known → Type 0)
      → behind all_words procs n a c ≡ if_fits all_words procs n a c (Some a)
      → AllRead a (reads c) → names_fit procs n c ≡ true → Q a → Ends a c Q
  goes_out c a Q same read names h =
      let fit : fits all_words procs n a c ≡ true =
      and_from (are_read all_words n a (reads c)) (names_fit procs n c) read names in
      record { last = a; «is» = same ∙ ap (λ t. go_if t (Some a)) fit; holds = h }

  -- what goes on behind a code that sets a word
  abbrev pub Onward : Known → ℕ → Code → (Known → Type 0) → Type 0
  Onward a d k Q = (b : Known) → More a b → b d ≡ true → Ends b k Q

  at_once : (a : Known) (d : ℕ) (k : Code) (Q : Known → Type 0) → Onward a d k Q
      → Ends (all_words.also d a) k Q
  at_once a d k Q go = go (all_words.also d a) (more_also a d) (has_also a d)

  -- ---- one code, whatever it goes on with

  pub set_ends : (a : Known) (d : ℕ) (s : LowSource) (k : Code) (Q : Known → Type 0) → d < n → Reads a s
      → Onward a d k Q → Ends a (Set d s k) Q
  set_ends a d s k Q l r go =
      goes_on (Set d s k) k a (all_words.also d a) Q refl (read_one a s r) (lt-ltb d n l) (at_once a d k Q go)

  pub compute_ends : (a : Known) (op : WordOp) (d : ℕ) (s t : LowSource) (k : Code) (Q : Known → Type 0) → d < n
      → Reads a s → Reads a t → Onward a d k Q → Ends a (Compute op d s t k) Q
  compute_ends a op d s t k Q l r q go =
      goes_on (Compute op d s t k) k a (all_words.also d a) Q refl (read_two a s t r q) (lt-ltb d n l)
      (at_once a d k Q go)

  pub load_ends : (a : Known) (d : ℕ) (s : LowSource) (offset : ℕ) (k : Code) (Q : Known → Type 0) → d < n
      → Reads a s → nat_lt offset 2048 ≡ true → Onward a d k Q → Ends a (Load d s offset k) Q
  load_ends a d s offset k Q l r near go =
      goes_on (Load d s offset k) k a (all_words.also d a) Q refl (read_one a s r)
      (and_from (nat_lt d n) (nat_lt offset 2048) (lt-ltb d n l) near) (at_once a d k Q go)

  pub store_ends : (a : Known) (t s : LowSource) (offset : ℕ) (k : Code) (Q : Known → Type 0) → Reads a t → Reads a s
      → nat_lt offset 2048 ≡ true → Ends a k Q → Ends a (Store t s offset k) Q
  store_ends a t s offset k Q r q near e =
      goes_on (Store t s offset k) k a a Q refl (read_two a t s r q) near e

  pub code_of_ends : (a : Known) (d number : ℕ) (k : Code) (Q : Known → Type 0) → d < n → number < length procs
      → Onward a d k Q → Ends a (CodeOf d number k) Q
  code_of_ends a d number k Q l there go =
      goes_on (CodeOf d number k) k a (all_words.also d a) Q refl refl
      (and_from (nat_lt d n) (nat_lt number (length procs)) (lt-ltb d n l) (lt-ltb number (length procs) there))
      (at_once a d k Q go)

  pub build_ends : (a : Known) (d : ℕ) (ss : List LowSource) (k : Code) (Q : Known → Type 0) → d < n → AllRead a ss
      → length ss < 256 → Onward a d k Q → Ends a (Build d ss k) Q
  build_ends a d ss k Q l r few go =
      goes_on (Build d ss k) k a (all_words.also d a) Q refl r
      (and_from (nat_lt d n) (nat_lt (length ss) 256) (lt-ltb d n l) (lt-ltb (length ss) 256 few))
      (at_once a d k Q go)

  pub request_ends : (a : Known) (d : ℕ) (s : LowSource) (k : Code) (Q : Known → Type 0) → d < n → Reads a s
      → Onward a d k Q → Ends a (Request d s k) Q
  request_ends a d s k Q l r go =
      goes_on (Request d s k) k a (all_words.also d a) Q refl (read_one a s r) (lt-ltb d n l) (at_once a d k Q go)

  pub take_ends : (a : Known) (s : LowSource) (k : Code) (Q : Known → Type 0) → Reads a s → Ends a k Q
      → Ends a (Take s k) Q
  take_ends a s k Q r e = goes_on (Take s k) k a a Q refl (read_one a s r) refl e

  -- the words that the environment hands back are put into two words
  pub two_words_end : (a : Known) (number : ℕ) (s t : LowSource) (d e : ℕ) (k : Code) (Q : Known → Type 0) → d < n
      → e < n → Reads a s → Reads a t → ((b : Known) → More a b → b d ≡ true → b e ≡ true → Ends b k Q)
      → Ends a (Environment number s t d e k) Q
  two_words_end a number s t d e k Q l m r q go =
      let once = all_words.also d a in
      let both = all_words.also e once in
      goes_on (Environment number s t d e k) k a both Q refl (read_two a s t r q)
      (and_from (nat_lt d n) (nat_lt e n) (lt-ltb d n l) (lt-ltb e n m))
      (go both (more_then a once both (more_also a d) (more_also once e)) (more_also once e d (has_also a d))
      (has_also once e))

  pub environment_ends : (a : Known) (number : ℕ) (s t : LowSource) (d : ℕ) (k : Code) (Q : Known → Type 0) → d < n
      → Reads a s → Reads a t → Onward a d k Q → Ends a (Environment number s t d d k) Q
  environment_ends a number s t d k Q l r q go = two_words_end a number s t d d k Q l l r q (λ b m h h'. go b m h)

  pub call_ends : (a : Known) (d number : ℕ) (ss : List LowSource) (k : Code) (Q : Known → Type 0) → d < n
      → AllRead a ss → takes_words (slice_get procs number) ss ≡ true → Onward a d k Q → Ends a (Call d number ss k) Q
  call_ends a d number ss k Q l r takes go =
      goes_on (Call d number ss k) k a (all_words.also d a) Q refl r
      (and_from (nat_lt d n) (takes_words (slice_get procs number) ss) (lt-ltb d n l) takes) (at_once a d k Q go)

  pub call_at_ends : (a : Known) (d : ℕ) (f : LowSource) (ss : List LowSource) (k : Code) (Q : Known → Type 0)
      → d < n → Reads a f → AllRead a ss → length ss ≤ 8 → Onward a d k Q → Ends a (CallAt d f ss k) Q
  call_at_ends a d f ss k Q l q r few go =
      goes_on (CallAt d f ss k) k a (all_words.also d a) Q refl (read_then a f ss q r)
      (and_from (nat_lt d n) (nat_le (length ss) 8) (lt-ltb d n l) (le-leb (length ss) 8 few)) (at_once a d k Q go)

  pub return_ends : (a : Known) (s : LowSource) (Q : Known → Type 0) → Reads a s → Q a → Ends a (Return s) Q
  return_ends a s Q r h = goes_out (Return s) a Q refl (read_one a s r) refl h

  pub tail_call_ends : (a : Known) (number : ℕ) (ss : List LowSource) (Q : Known → Type 0) → AllRead a ss
      → takes_words (slice_get procs number) ss ≡ true → Q a → Ends a (TailCall number ss) Q
  tail_call_ends a number ss Q r takes h = goes_out (TailCall number ss) a Q refl r takes h

  pub tail_call_at_ends : (a : Known) (f : LowSource) (ss : List LowSource) (Q : Known → Type 0) → Reads a f
      → AllRead a ss → length ss ≤ 8 → Q a → Ends a (TailCallAt f ss) Q
  tail_call_at_ends a f ss Q q r few h =
      goes_out (TailCallAt f ss) a Q refl (read_then a f ss q r) (le-leb (length ss) 8 few) h

  -- two branches, of which both come to R, and what goes on behind them
  pub if_ends : (a : Known) (cond : Cond) (s t : LowSource) (one other k : Code) (R Q : Known → Type 0) → Reads a s
      → Reads a t → Ends a one R → Ends a other R
      → ((b c : Known) → R b → R c → Ends (all_words.both b c) k Q) → Ends a (If cond s t one other k) Q
  if_ends a cond s t one other k R Q r q e f go =
      let rest = go e.last f.last e.holds f.holds in
      let all = If cond s t one other k in
      let onward = λ (b : Known). behind all_words procs n b k in
      let fit : fits all_words procs n a all ≡ true =
      and_from (are_read all_words n a (s ∷ t ∷ [])) true (read_two a s t r q) refl in
      record {
        last = rest.last;
        «is» = ap (λ b. go_if b (then_known (meet all_words (behind all_words procs n a one)
            (behind all_words procs n a other)) onward)) fit
            ∙ (ap (λ o. then_known (meet all_words o (behind all_words procs n a other)) onward) e.«is»
            ∙ (ap (λ o. then_known (meet all_words (Some e.last) o) onward) f.«is» ∙ rest.«is»));
        holds = rest.holds;
      }
