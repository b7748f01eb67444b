-- Memory in pages.
use Rattle.std.proofs.Common.{ℕ, zero, suc, ◌+◌, ◌-◌, ◌*◌, ◌/◌, ◌%◌, ◌<◌, ◌≤◌, ◌≡◌, ◌≢◌, ◌⊎◌, inl, inr, true, false}
use Rattle.std.proofs.Common.{List, [], ◌∷◌, length, get_or, replicate, Option, None, refl, sym, ◌∙◌, ap, arith}
use Rattle.std.proofs.lemmas.Bool.{cases_lt, cases_eq, true≢false}
use Rattle.std.proofs.lemmas.List.Folds.{list_all_at}
use Rattle.std.proofs.lemmas.List.{get_or-set_same, get_or-set_other, get_or-replicate, get_or_past, get_or_read}
use Rattle.std.proofs.lemmas.List.{length-replicate}
use Rattle.std.proofs.Math.ListN.{set}
use Rattle.std.proofs.Math.Path.{fun_ext}
use Rattle.std.specs.Prelude.{nat_lt, is_some, Result, Ok, Err, OnOk, OnErr}
use Rattle.std.specs.Int.{byte_len}
use Rattle.std.specs.Global.{Box}
use Rattle.machine_words.specs.Memory.{Memory, memory_of, load_bytes, store_bytes, byte_of}
use Rattle.machine_words.proofs.Public.{load_same, stored_inside, stored_outside}
use Rattle.rv_emulator.specs.declared.ram.Width.{Width}
use Rattle.rv_emulator.specs.declared.ram.Width.TheVariants.{B1, B2, B4, B8}
use Rattle.rv_emulator.specs.Widths.{width_of}
use Rattle.rv_emulator.specs.Pages.{page_byte, page_bytes, page_at, paged_memory, all_made}

-- what is aligned lies in one page
pub in_one_page : (w : Width) (at : ℕ) → at % byte_len (width_of w) ≡ 0 → at % 4096 + byte_len (width_of w) ≤ 4096
in_one_page B1 at h = omega arith
in_one_page B2 at h = omega arith
in_one_page B4 at h = omega arith
in_one_page B8 at h = omega arith

-- the page of an address that lies in the memory is one of its pages
pub page_there : (w : Width) (size at count : ℕ) → at + byte_len (width_of w) ≤ size → size ≤ 4096 * count
    → at / 4096 < count
page_there B1 size at count h c = omega arith
page_there B2 size at count h c = omega arith
page_there B4 size at count h c = omega arith
page_there B8 size at count h c = omega arith

-- a byte of the page of an address
paged_byte : (size at i : ℕ) (pages : List (Option (Box (List ℕ)))) → at % 4096 + i < 4096 → at + i < size
    → paged_memory size pages (at + i) ≡ memory_of (page_bytes (page_at pages (at / 4096))) (at % 4096 + i)
paged_byte size at i pages h k =
    let d : (at + i) / 4096 ≡ at / 4096 = omega arith in
    let m : (at + i) % 4096 ≡ at % 4096 + i = omega arith in
    let l : nat_lt (at + i) size ≡ true = grind arith in
    rw (l, d, m)

-- a load reads the page
pub load_paged : (k size at : ℕ) (pages : List (Option (Box (List ℕ)))) → at % 4096 + k ≤ 4096 → at + k ≤ size
    → load_bytes k (paged_memory size pages) at
    ≡ load_bytes k (memory_of (page_bytes (page_at pages (at / 4096)))) (at % 4096)
load_paged k size at pages h s =
    load_same k _ _ at (at % 4096) (λ i p. paged_byte size at i pages (omega arith) (omega arith))

-- so does one of what was read as that page
pub load_read : (w : Width) (size at : ℕ) (pages : List (Option (Box (List ℕ)))) (read page : Option (Box (List ℕ)))
    → at % byte_len (width_of w) ≡ 0 → at + byte_len (width_of w) ≤ size → size ≤ 4096 * length pages
    → read ≡ get_or pages (at / 4096) read → read ≡ page
    → load_bytes (byte_len (width_of w)) (memory_of (page_bytes page)) (at % 4096)
    ≡ load_bytes (byte_len (width_of w)) (paged_memory size pages) at
load_read w size at pages read page aligned inside covers there is =
    let k = byte_len (width_of w) in
    let e = get_or_read pages (at / 4096) read (page_there w size at (length pages) inside covers) there None in
    ap (λ p. load_bytes k (memory_of (page_bytes p)) (at % 4096)) (sym is ∙ e)
    ∙ sym (load_paged k size at pages (in_one_page w at aligned) inside)

-- a page that is missing reads as zero
pub load_missing : (k at : ℕ) → load_bytes k (memory_of []) at ≡ 0
unfolding load_bytes
load_missing zero at = refl
load_missing (suc k) at = let e = load_missing k at in rw e (omega arith)

zero_page : (n i : ℕ) → get_or {A = ℕ} (replicate n 0) i 0 ≡ 0
zero_page n i =
    elim (cases_lt i n) [
      | inl b ↦ get_or-replicate n i 0 0 b
      | inr b ↦ get_or_past (replicate n 0) i 0 (let l = length-replicate {A = ℕ} n 0 in omega arith)
    ]

-- a page that was made reads as one that is missing
pub made_page : (n : ℕ) → memory_of (replicate n 0) ≡ memory_of []
made_page n = fun_ext (λ i. zero_page n i)

-- another page than that of a store
apart : (k at j : ℕ) → at % 4096 + k ≤ 4096 → j / 4096 ≢ at / 4096 → (j < at) ⊎ (at + k ≤ j)
apart k at j h other =
    elim (cases_lt j at) [
      | inl b ↦ inl b
      | inr b ↦ elim (cases_lt j (at + k)) [
        | inl c ↦ absurd (other (let e : j / 4096 ≡ at / 4096 = omega arith in e))
        | inr c ↦ inr c
      ]
    ]

stored_byte : (k size at word j : ℕ) (pages : List (Option (Box (List ℕ)))) (page : Option (Box (List ℕ)))
    → at % 4096 + k ≤ 4096 → at + k ≤ size → at / 4096 < length pages
    → memory_of (page_bytes page) ≡ store_bytes k (memory_of (page_bytes (page_at pages (at / 4096)))) (at % 4096) word
    → j < size
    → memory_of (page_bytes (page_at (set pages (at / 4096) page) (j / 4096))) (j % 4096)
    ≡ store_bytes k (paged_memory size pages) at word j
stored_byte k size at word j pages page h s l e b =
    let below : nat_lt j size ≡ true = grind arith in
    let there : paged_memory size pages j ≡ page_byte pages j = rw below refl in
    elim (cases_eq (j / 4096) (at / 4096)) [
      | inl same ↦
          let p : page_at (set pages (at / 4096) page) (j / 4096) ≡ page =
          rw same (get_or-set_same pages (at / 4096) page None l) in
          let q : memory_of (page_bytes (page_at (set pages (at / 4096) page) (j / 4096))) (j % 4096)
          ≡ store_bytes k (memory_of (page_bytes (page_at pages (at / 4096)))) (at % 4096) word (j % 4096)
          = ap (λ x. memory_of (page_bytes x) (j % 4096)) p ∙ ap (λ (m : Memory). m (j % 4096)) e in
          elim (cases_lt j at) [
            | inl before ↦ q ∙ stored_outside k _ (at % 4096) word (j % 4096) (inl (omega arith))
                ∙ ap (λ n. memory_of (page_bytes (page_at pages n)) (j % 4096)) (sym same) ∙ sym there
                ∙ sym (stored_outside k (paged_memory size pages) at word j (inl before))
            | inr from ↦ elim (cases_lt j (at + k)) [
              | inl inside ↦
                  let d : j % 4096 - at % 4096 ≡ j - at = omega arith in
                  q ∙ stored_inside k _ (at % 4096) word (j % 4096) (omega arith) (omega arith)
                  ∙ ap (byte_of word) d ∙ sym (stored_inside k (paged_memory size pages) at word j from inside)
              | inr past ↦ q ∙ stored_outside k _ (at % 4096) word (j % 4096) (inr (omega arith))
                  ∙ ap (λ n. memory_of (page_bytes (page_at pages n)) (j % 4096)) (sym same) ∙ sym there
                  ∙ sym (stored_outside k (paged_memory size pages) at word j (inr past))
            ]
          ]
      | inr other ↦
          ap (λ x. memory_of (page_bytes x) (j % 4096)) (get_or-set_other pages (at / 4096) (j / 4096) page None other)
          ∙ sym there ∙ sym (stored_outside k (paged_memory size pages) at word j (apart k at j h other))
    ]

stored_at : (k size at word j : ℕ) (pages : List (Option (Box (List ℕ)))) (page : Option (Box (List ℕ)))
    → at % 4096 + k ≤ 4096 → at + k ≤ size → at / 4096 < length pages
    → memory_of (page_bytes page) ≡ store_bytes k (memory_of (page_bytes (page_at pages (at / 4096)))) (at % 4096) word
    → paged_memory size (set pages (at / 4096) page) j ≡ store_bytes k (paged_memory size pages) at word j
stored_at k size at word j pages page h s l e =
    elim (cases_lt j size) [
      | inl b ↦
          let below : nat_lt j size ≡ true = grind arith in
          rw below (stored_byte k size at word j pages page h s l e b)
      | inr b ↦
          let past : nat_lt j size ≡ false = grind arith in
          let zero_there : paged_memory size pages j ≡ 0 = rw past refl in
          rw past (sym (stored_outside k (paged_memory size pages) at word j (inr (omega arith)) ∙ zero_there))
    ]

-- a store writes its page
pub store_paged : (k size at word : ℕ) (pages : List (Option (Box (List ℕ)))) (page : Option (Box (List ℕ)))
    → at % 4096 + k ≤ 4096 → at + k ≤ size → at / 4096 < length pages
    → memory_of (page_bytes page) ≡ store_bytes k (memory_of (page_bytes (page_at pages (at / 4096)))) (at % 4096) word
    → paged_memory size (set pages (at / 4096) page) ≡ store_bytes k (paged_memory size pages) at word
store_paged k size at word pages page h s l e = fun_ext (λ j. stored_at k size at word j pages page h s l e)

-- where all pages are made, one more that is made leaves it so
pub still_made : (pages : List (Option (Box (List ℕ)))) (number : ℕ) (page : Option (Box (List ℕ)))
    → is_some page ≡ true → all_made pages ≡ true → all_made (set pages number page) ≡ true
still_made [] number page m a = a
still_made (first ∷ rest) zero page m a = grind arith
still_made (first ∷ rest) (suc number) page m a =
    let tail : all_made rest ≡ true = grind arith in
    let more = still_made rest number page m tail in grind arith

none_missing : (pages : List (Option (Box (List ℕ)))) (number : ℕ) → number < length pages
    → page_at pages number ≡ None → all_made pages ≡ false
none_missing pages number l e = list_all_at is_some pages number None l (ap is_some e)

-- a store leaves a memory whole, whatever it answers
pub still_whole : {E : Type 0} (r : Result (Unit {0}) E) (pages : List (Option (Box (List ℕ)))) (number : ℕ)
    (old page : Option (Box (List ℕ))) → number < length pages → old ≡ page_at pages number
    → OnOk r (is_some page ≡ true) → OnErr r (old ≡ None) → all_made pages ≡ true
    → all_made (set pages number page) ≡ true
still_whole (Ok done) pages number old page l p m e a = still_made pages number page m a
still_whole (Err fault) pages number old page l p m e a =
    absurd (true≢false (sym a ∙ none_missing pages number l (sym p ∙ e)))

-- a store that went well wrote its page
pub page_stored : {E : Type 0} (r : Result (Unit {0}) E) (k size at word : ℕ) (pages : List (Option (Box (List ℕ))))
    (old page : Option (Box (List ℕ))) → at % 4096 + k ≤ 4096 → at + k ≤ size → at / 4096 < length pages
    → old ≡ page_at pages (at / 4096)
    → OnOk r (memory_of (page_bytes page) ≡ store_bytes k (memory_of (page_bytes old)) (at % 4096) word)
    → OnOk r (paged_memory size (set pages (at / 4096) page) ≡ store_bytes k (paged_memory size pages) at word)
page_stored (Ok done) k size at word pages old page h s l p e =
    store_paged k size at word pages page h s l
    (e ∙ ap (λ x. store_bytes k (memory_of (page_bytes x)) (at % 4096) word) p)
page_stored (Err fault) k size at word pages old page h s l p e = e

-- and it has made that page
pub page_is_made : {E : Type 0} (r : Result (Unit {0}) E) (pages : List (Option (Box (List ℕ)))) (number : ℕ)
    (page : Option (Box (List ℕ))) → number < length pages → OnOk r (is_some page ≡ true)
    → OnOk r (is_some (page_at (set pages number page) number) ≡ true)
page_is_made (Ok done) pages number page l m = ap is_some (get_or-set_same pages number page None l) ∙ m
page_is_made (Err fault) pages number page l m = m
