-- The word that the instructions of a far form leave in x31.
use Rattle.std.proofs.Common.{ℕ, ◌+◌, ◌*◌, ◌/◌, ◌%◌, ◌^◌, ◌<◌, ◌≡◌, ◌⊎◌, inl, inr, ⊎_elim, ◌∙◌, ap, arith}
use Rattle.std.specs.Prelude.{pos}
use Rattle.machine_words.specs.Arithmetic.{half, plus, shift_left, shift_right}
use Rattle.assembler.specs.Expansion.{chunk_of}

-- what is in x31 after the first two instructions
abbrev pub high_part : ℕ → ℕ
high_part word = shift_right (half (word / 2 ^ 44 * 2 ^ 12)) 1

abbrev pub add_chunk : ℕ → ℕ → ℕ → ℕ
add_chunk x word k = plus x (pos (chunk_of word k))

-- and after all nine
abbrev pub far_word : ℕ → ℕ
far_word word =
    add_chunk (shift_left (add_chunk (shift_left
    (add_chunk (shift_left (add_chunk (high_part word) word 3) 11) word 2) 11) word 1) 11) word 0

-- the upper bits are extended from bit 31, and these copies are shifted out again
high_is : (u : ℕ) → u < 2 ^ 20 → (shift_right (half (u * 2 ^ 12)) 1 ≡ u * 2048)
    ⊎ (shift_right (half (u * 2 ^ 12)) 1 ≡ u * 2048 + 9223372034707292160)
high_is u h = grind arith

step_up : (x c : ℕ) → x < 2 ^ 64 → c < 2048 → plus (shift_left x 11) (pos c) ≡ (x * 2048 + c) % 2 ^ 64
step_up x c h k = omega arith

small_sum : (x c : ℕ) → x < 2 ^ 63 → c < 2048 → plus x (pos c) ≡ x + c
small_sum x c h k = omega arith

two_up : (x b c : ℕ) → ((x * 2048 + b) % 2 ^ 64 * 2048 + c) % 2 ^ 64 ≡ (x * 4194304 + b * 2048 + c) % 2 ^ 64
two_up x b c = omega arith

three_up : (x b c d : ℕ) → ((x * 4194304 + b * 2048 + c) % 2 ^ 64 * 2048 + d) % 2 ^ 64
    ≡ (x * 8589934592 + b * 4194304 + c * 2048 + d) % 2 ^ 64
three_up x b c d = omega arith

pieces : (word : ℕ) → word < 2 ^ 64 → (word / 2 ^ 44 * 2048 + word / 2 ^ 33 % 2048) * 8589934592
    + word / 2 ^ 22 % 2048 * 4194304 + word / 2 ^ 11 % 2048 * 2048 + word / 2 ^ 0 % 2048 ≡ word
pieces word h = omega arith

wraps : (word y : ℕ) → word < 2 ^ 64 → (y ≡ word) ⊎ (y ≡ word + 4294967295 * 2 ^ 64) → y % 2 ^ 64 ≡ word
wraps word y h (inl e) = omega arith
wraps word y h (inr e) = omega arith

module _ (word : ℕ) (h : word < 2 ^ 64) where
  abbrev u : ℕ
  u = word / 2 ^ 44

  abbrev c3 : ℕ
  c3 = word / 2 ^ 33 % 2048

  abbrev c2 : ℕ
  c2 = word / 2 ^ 22 % 2048

  abbrev c1 : ℕ
  c1 = word / 2 ^ 11 % 2048

  abbrev c0 : ℕ
  c0 = word / 2 ^ 0 % 2048

  first_small : high_part word < 2 ^ 63
  first_small =
      ⊎_elim (λ e. let a : word / 2 ^ 44 < 2 ^ 20 = omega arith in
      omega arith) (λ e. let a : word / 2 ^ 44 < 2 ^ 20 = omega arith in omega arith) (high_is u (omega arith))

  second_is : add_chunk (high_part word) word 3 ≡ high_part word + c3
  second_is = small_sum (high_part word) c3 first_small (omega arith)

  third_is : (x : ℕ) → x < 2 ^ 64 → plus (shift_left (plus (shift_left (plus (shift_left x 11) (pos c2)) 11) (pos c1))
      11) (pos c0) ≡ (x * 8589934592 + c2 * 4194304 + c1 * 2048 + c0) % 2 ^ 64
  third_is x k =
      let a : plus (shift_left x 11) (pos c2) ≡ (x * 2048 + c2) % 2 ^ 64 = step_up x c2 k (omega arith) in
      let y : ℕ = (x * 2048 + c2) % 2 ^ 64 in
      let b : plus (shift_left y 11) (pos c1) ≡ (y * 2048 + c1) % 2 ^ 64 = step_up y c1 (omega arith) (omega arith) in
      let c : (y * 2048 + c1) % 2 ^ 64 ≡ (x * 4194304 + c2 * 2048 + c1) % 2 ^ 64 = two_up x c2 c1 in
      let z : ℕ = (x * 4194304 + c2 * 2048 + c1) % 2 ^ 64 in
      let d : plus (shift_left z 11) (pos c0) ≡ (z * 2048 + c0) % 2 ^ 64 = step_up z c0 (omega arith) (omega arith) in
      ap (λ v. plus (shift_left (plus (shift_left v 11) (pos c1)) 11) (pos c0)) a
      ∙ (ap (λ v. plus (shift_left v 11) (pos c0)) (b ∙ c) ∙ (d ∙ three_up x c2 c1 c0))

  whole : (high_part word + c3) * 8589934592 + c2 * 4194304 + c1 * 2048 + c0 ≡ word
      ⊎ ((high_part word + c3) * 8589934592 + c2 * 4194304 + c1 * 2048 + c0 ≡ word + 4294967295 * 2 ^ 64)
  whole =
      let p = pieces word h in
      ⊎_elim (λ e. inl (omega arith)) (λ e. inr (omega arith)) (high_is u (omega arith))

  pub far_word_is : far_word word ≡ word
  far_word_is =
      let small : high_part word + c3 < 2 ^ 64 = let f = first_small in omega arith in
      ap (λ v. plus (shift_left (plus (shift_left (plus (shift_left v 11) (pos c2)) 11) (pos c1)) 11) (pos c0))
      second_is
      ∙ (third_is (high_part word + c3) small
      ∙ wraps word ((high_part word + c3) * 8589934592 + c2 * 4194304 + c1 * 2048 + c0) h whole)

-- the near form of an address
pub near_word_is : (word : ℕ) → word < 2147483648 → word % 2 ≡ 0
    → plus (plus (half (word / 4096 * 2 ^ 12)) (pos (word % 4096 / 2))) (pos (word % 4096 / 2)) ≡ word
near_word_is word h k =
    let a : half (word / 4096 * 2 ^ 12) ≡ word / 4096 * 4096 = grind arith in
    ap (λ x. plus (plus x (pos (word % 4096 / 2))) (pos (word % 4096 / 2))) a
    ∙ (let b : plus (plus (word / 4096 * 4096) (pos (word % 4096 / 2))) (pos (word % 4096 / 2))
    ≡ word = omega arith in b)
