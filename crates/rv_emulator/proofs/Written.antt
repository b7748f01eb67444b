-- Numbers that are written as bytes, the lowest first.
use Rattle.std.proofs.Common.{ℕ, ◌+◌, ◌-◌, ◌<◌, ◌≤◌, ◌≡◌, inl, inr, sym, ◌∙◌, ap, arith, List, length, get_or, take}
use Rattle.std.proofs.Common.{drop, ◌++◌}
use Rattle.std.proofs.lemmas.Bool.{cases_lt}
use Rattle.std.proofs.lemmas.List.{get_or-append_right, get_or_append_left, get_or-take, get_or-drop, length-take-le}
use borrow.Rule.Slice.PartMut.{put_mid}
use Rattle.std.proofs.Math.Path.{fun_ext}
use Rattle.std.specs.Int.{w64, to_le_bytes}
use Rattle.machine_words.specs.Memory.{store_bytes, byte_of, memory_of}
use Rattle.machine_words.proofs.Public.{stored_inside, stored_outside}
use Rattle.assembler.proofs.Public.{byte_in}

written_at : (n at word i : ℕ) (bytes part : List ℕ) → at + n ≤ length bytes → length part ≡ n
    → ((j : ℕ) → j < n → get_or part j 0 ≡ byte_of word j)
    → get_or (take at bytes ++ (part ++ drop n (drop at bytes))) i 0 ≡ store_bytes n (memory_of bytes) at word i
written_at n at word i bytes part h l p =
    let f : length (take at bytes) ≡ at = length-take-le at bytes (omega arith) in
    elim (cases_lt i at) [
      | inl b ↦ get_or_append_left (take at bytes) _ 0 i (omega arith) ∙ get_or-take at bytes i 0 b
          ∙ sym (stored_outside n (memory_of bytes) at word i (inl b))
      | inr b ↦ get_or-append_right (take at bytes) _ at i 0 f b ∙ elim (cases_lt (i - at) n) [
        | inl c ↦ get_or_append_left part _ 0 (i - at) (omega arith) ∙ p (i - at) c
            ∙ sym (stored_inside n (memory_of bytes) at word i b (omega arith))
        | inr c ↦ get_or-append_right part _ n (i - at) 0 l c ∙ get_or-drop n (drop at bytes) (i - at - n) 0
            ∙ get_or-drop at bytes (n + (i - at - n)) 0 ∙ (let z : at + (n + (i - at - n)) ≡ i = omega arith in
            ap (λ k. get_or bytes k 0) z) ∙ sym (stored_outside n (memory_of bytes) at word i (inr (omega arith)))
      ]
    ]

pub write_is_store : (n at word : ℕ) (bytes part little : List ℕ) → n ≤ 8 → at + n ≤ length bytes
    → little ≡ to_le_bytes w64 word → part ≡ take n little
    → memory_of (put_mid at (at + n - at) bytes part) ≡ store_bytes n (memory_of bytes) at word
write_is_store n at word bytes part little s h e f =
    let z : at + n - at ≡ n = omega arith in
    let q : length little ≡ 8 = ap length e in
    let l : length part ≡ n = ap length f ∙ length-take-le n little (omega arith) in
    let p : (j : ℕ) → j < n → get_or part j 0 ≡ byte_of word j = λ j r. ap (λ xs. get_or xs j 0) f
    ∙ get_or-take n little j 0 r ∙ ap (λ xs. get_or xs j 0) e ∙ byte_in 8 0 word j (omega arith)
    ∙ (let t : 0 + j ≡ j = omega arith in ap (byte_of word) t) in
    rw z (fun_ext (λ i. written_at n at word i bytes part h l p))
