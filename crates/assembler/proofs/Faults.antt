-- Bytes are an image or have a first fault, and not two of these.
use Rattle.std.proofs.Common.{ℕ, ◌+◌, ◌*◌, ◌%◌, ◌≡◌, ◌<◌, ◌≤◌, ◌⊎◌, inl, inr, List, length, arith}
use Rattle.std.specs.Prelude.{codes, slice_range, bytes_eq}
use Rattle.std.proofs.lemmas.Bool.{cases_lt, cases_eq, cases_Bool}
use Rattle.std.proofs.lemmas.Bool.Decides.{not_from_Decides}
use Rattle.std.proofs.lemmas.Slice.Eq.{bytes_eq-Decides}
use Rattle.rv_machine.specs.Image.{IsImage, word_at, image_len, statics_len, code_len, label_count, entry}
use Rattle.assembler.specs.declared.image.ImageFault.{ImageFault}
use Rattle.assembler.specs.declared.image.ImageFault.TheVariants.{BadMagic, BadLength, BadSection}
use Rattle.assembler.specs.Faults.{HasMagic, HasLength, IsFirstFault}

-- ---- each test has an outcome

abbrev Decided : Type 0 → Type 0
Decided P = P ⊎ (¬ P)

both : {P Q : Type 0} → Decided P → Decided Q → Decided (P × Q)
both (inl p) (inl q) = inl (p, q)
both (inl p) (inr n) = inr (λ b. n b.1)
both (inr n) d = inr (λ b. n b.0)

both3 : {P Q R : Type 0} → Decided P → Decided Q → Decided R → Decided (P × Q × R)
both3 (inl p) (inl q) (inl r) = inl (p, q, r)
both3 (inl p) (inl q) (inr n) = inr (λ b. n b.2)
both3 (inl p) (inr n) d = inr (λ b. n b.1)
both3 (inr n) d e = inr (λ b. n b.0)

-- the same fact in another form
same : {P Q : Type 0} → (P → Q) → (Q → P) → Decided P → Decided Q
same f g (inl p) = inl (f p)
same f g (inr n) = inr (λ q. n (g q))

below : (m n : ℕ) → Decided (m < n)
below m n = elim (cases_lt m n) [ inl l ↦ inl l | inr g ↦ inr (λ l. omega arith) ]

at_most : (m n : ℕ) → Decided (m ≤ n)
at_most m n = elim (cases_lt n m) [ inl g ↦ inr (λ l. omega arith) | inr l ↦ inl l ]

lists_equal : (xs ys : List ℕ) → Decided (xs ≡ ys)
lists_equal xs ys =
    let d = bytes_eq-Decides xs ys in
    elim (cases_Bool (bytes_eq xs ys)) [ inl t ↦ inl (d.0 t) | inr f ↦ inr (not_from_Decides (bytes_eq xs ys) d f) ]

magic_decided : (bytes : List ℕ) → Decided (HasMagic bytes)
magic_decided bytes = both (at_most 8 (length bytes)) (lists_equal (slice_range bytes 0 8) (codes "GRIFTRV1"))

length_decided : (bytes : List ℕ) → Decided (HasLength bytes)
length_decided bytes = both (at_most 64 (length bytes)) (cases_eq (image_len bytes) (length bytes))

-- the other lines of the header
abbrev AreMultiples : List ℕ → Type 0
AreMultiples bytes = (statics_len bytes % 8 ≡ 0) × (code_len bytes % 8 ≡ 0) × (entry bytes % 4 ≡ 0)

abbrev AreInRange : List ℕ → Type 0
AreInRange bytes = (8 ≤ code_len bytes) × (label_count bytes < 4294967295) × (entry bytes < code_len bytes)

abbrev AreSpare : List ℕ → Type 0
AreSpare bytes = (word_at bytes 48 ≡ 0) × (word_at bytes 56 ≡ 0)

-- what the sections make up
abbrev sum_of : List ℕ → ℕ
sum_of bytes = 64 + statics_len bytes + code_len bytes + 8 * label_count bytes

multiples_decided : (bytes : List ℕ) → Decided (AreMultiples bytes)
multiples_decided bytes =
    both3 (cases_eq (statics_len bytes % 8) 0) (cases_eq (code_len bytes % 8) 0) (cases_eq (entry bytes % 4) 0)

range_decided : (bytes : List ℕ) → Decided (AreInRange bytes)
range_decided bytes =
    both3 (at_most 8 (code_len bytes)) (below (label_count bytes) 4294967295) (below (entry bytes) (code_len bytes))

rest_decided : (bytes : List ℕ) → Decided (AreSpare bytes × (sum_of bytes ≡ length bytes))
rest_decided bytes =
    both (both (cases_eq (word_at bytes 48) 0) (cases_eq (word_at bytes 56) 0)) (cases_eq (sum_of bytes) (length bytes))

image_of : (bytes : List ℕ) → HasMagic bytes → HasLength bytes → AreMultiples bytes → AreInRange bytes
    → AreSpare bytes × (sum_of bytes ≡ length bytes) → IsImage bytes
image_of bytes m l a r s = assumption

-- bytes with the magic and the length are an image or not
image_decided : (bytes : List ℕ) → HasMagic bytes → HasLength bytes → Decided (IsImage bytes)
image_decided bytes m l =
    same
    (λ (p : AreMultiples bytes × AreInRange bytes × (AreSpare bytes × (sum_of bytes ≡ length bytes))). image_of bytes
    m l p.0 p.1 p.2)
    (λ i. assumption)
    (both3 (multiples_decided bytes) (range_decided bytes) (rest_decided bytes))

-- ---- the first test that fails

abbrev pub Judged : List ℕ → Type 0
Judged bytes = IsImage bytes ⊎ ((fault : ImageFault) × IsFirstFault bytes fault)

by_image : (bytes : List ℕ) → HasMagic bytes → HasLength bytes → Decided (IsImage bytes) → Judged bytes
by_image bytes m l (inl i) = inl i
by_image bytes m l (inr n) = inr (BadSection, (m, l, n))

by_length : (bytes : List ℕ) → HasMagic bytes → Decided (HasLength bytes) → Judged bytes
by_length bytes m (inl l) = by_image bytes m l (image_decided bytes m l)
by_length bytes m (inr n) = inr (BadLength, (m, n))

by_magic : (bytes : List ℕ) → Decided (HasMagic bytes) → Judged bytes
by_magic bytes (inl m) = by_length bytes m (length_decided bytes)
by_magic bytes (inr n) = inr (BadMagic, n)

pub judged : (bytes : List ℕ) → Judged bytes
judged bytes = by_magic bytes (magic_decided bytes)
