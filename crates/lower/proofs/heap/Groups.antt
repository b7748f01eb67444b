-- The objects of a group of functions: the words that are stored for them, and where each stands.
use Rattle.std.proofs.Common.{◌≡◌, inr, ℕ, zero, suc, ◌+◌, ◌*◌, ◌<◌, true}
use Rattle.std.proofs.Common.{List, [], ◌∷◌, ◌++◌, length, Some, refl, sym, ap, ◌∙◌, subst, arith}
use Rattle.std.proofs.Common.{append_assoc, append-nil}
use Rattle.std.specs.Prelude.{nat_le}
use Rattle.machine_words.specs.Memory.{Memory}
use Rattle.object_layout.specs.declared.kinds.Kind.TheVariants.{Closure}
use Rattle.coercion_norm.specs.Objects.{Object, Fixed, bytes_of_all, object_at}
use Rattle.rt_cast.specs.Objects.{HoldsWords, Holds}
use Rattle.coercion_norm.specs.Held.{Layout, There}
use Rattle.lower.specs.Meanings.{Meaning, MeaningLaws, IsOwn}
use Rattle.lowered_code.specs.Numbering.{function_offset}
use Rattle.lower.proofs.heap.Objects.{words_split, bytes_append, closure_header}
use Rattle.lower.proofs.words.Operations.{added_there}

-- the words of the functions of a group from one on, and their objects
abbrev pub other_words : (ℕ → ℕ) → ℕ → ℕ → ℕ → List ℕ
other_words address first i zero = []
other_words address first i (suc n) =
    closure_header 1 ∷ address (first + suc i) ∷ other_words address first (suc i) n

abbrev pub other_objects : (ℕ → ℕ) → ℕ → ℕ → ℕ → List Object
other_objects address first i zero = []
other_objects address first i (suc n) =
    Fixed (closure_header 1) (address (first + suc i) ∷ []) ∷ other_objects address first (suc i) n

-- those of a whole group, of one function and so many others
abbrev pub group_objects : (ℕ → ℕ) → ℕ → ℕ → List ℕ → List Object
group_objects address first others words =
    Fixed (closure_header (suc (length words))) (address first ∷ words) ∷ other_objects address first 0 others

pub other_bytes : (address : ℕ → ℕ) (first i n : ℕ) → bytes_of_all (other_objects address first i n) ≡ 16 * n
other_bytes address first i zero = refl
other_bytes address first i (suc n) = let z = other_bytes address first (suc i) n in omega (arith, z)

others_hold : (address : ℕ → ℕ) (m : Memory) (at first i n : ℕ) → HoldsWords m at (other_words address first i n)
    → Holds m at (other_objects address first i n)
others_hold address m at first i zero h = tt
others_hold address m at first i (suc n) h =
    let e : at + 8 + 8 ≡ at + 16 = omega arith in (
      (h.0, (h.1.0, tt)),
      others_hold address m (at + 16) first (suc i) n
          (subst (λ a. HoldsWords m a (other_words address first (suc i) n)) e h.1.1),
    )

-- the words hold the objects
pub group_holds : (address : ℕ → ℕ) (m : Memory) (at first others : ℕ) (words : List ℕ)
    → HoldsWords m at
    (closure_header (suc (length words)) ∷ address first ∷ (words ++ other_words address first 0 others))
    → Holds m at (group_objects address first others words)
group_holds address m at first others words h =
    let e : at + 8 + 8 + 8 * length words ≡ at + (8 + 8 * length (address first ∷ words)) = omega arith in
    let both = words_split m (at + 8 + 8) words (other_words address first 0 others) h.1.1 in (
      (h.0, (h.1.0, both.0)),
      others_hold address m (at + (8 + 8 * length (address first ∷ words))) first 0 others
          (subst (λ a. HoldsWords m a (other_words address first 0 others)) e
          both.1),
    )

pub group_bytes : (address : ℕ → ℕ) (first others : ℕ) (words : List ℕ)
    → bytes_of_all (group_objects address first others words) ≡ 8 * (2 + length words + 2 * others)
group_bytes address first others words = let z = other_bytes address first 0 others in omega (arith, z)

-- ---- each is one that the test lets through

at_least_one : (n : ℕ) → nat_le 1 (suc n) ≡ true
at_least_one n = grind arith

own_closure : (address : ℕ) (words : List ℕ) → IsOwn (Fixed (closure_header (suc (length words))) (address ∷ words))
own_closure address words = record {
  kind = Closure;
  count = suc (length words);
  head = refl;
  long = refl;
  free = refl;
  allowed = at_least_one (length words);
}

others_kept : (meaning : Meaning) (laws : MeaningLaws meaning) (l : Layout) (number : ℕ) (address : ℕ → ℕ)
    (before : List Object) (first i n : ℕ) → meaning.Keeps l before number
    → meaning.Keeps l (before ++ other_objects address first i n) number
others_kept meaning laws l number address before first i zero k =
    subst (λ os. meaning.Keeps l os number) (sym (append-nil before)) k
others_kept meaning laws l number address before first i (suc n) k =
    let o : Object = Fixed (closure_header 1) (address (first + suc i) ∷ []) in
    subst (λ os. meaning.Keeps l os number) (append_assoc before (o ∷ []) (other_objects address first (suc i) n))
    (others_kept meaning laws l number address (before ++ o ∷ []) first (suc i) n
    (laws.keeps_more l before number o (own_closure (address (first + suc i)) []) k))

-- the test is kept
pub group_kept : (meaning : Meaning) (laws : MeaningLaws meaning) (l : Layout) (number : ℕ) (address : ℕ → ℕ)
    (before : List Object) (first others : ℕ) (words : List ℕ) → meaning.Keeps l before number
    → meaning.Keeps l (before ++ group_objects address first others words) number
group_kept meaning laws l number address before first others words k =
    let o : Object = Fixed (closure_header (suc (length words))) (address first ∷ words) in
    subst (λ os. meaning.Keeps l os number) (append_assoc before (o ∷ []) (other_objects address first 0 others))
    (others_kept meaning laws l number address (before ++ o ∷ []) first 0 others
    (laws.keeps_more l before number o (own_closure (address first) words) k))

-- ---- where they stand

-- one of the others, so many behind the one from which they are counted
other_there : (address : ℕ → ℕ) (region : ℕ) (before : List Object) (first i n j : ℕ) → j < n
    → object_at (before ++ other_objects address first i n) region (region + bytes_of_all before + 16 * j)
    ≡ Some (Fixed (closure_header 1) (address (first + suc (i + j)) ∷ []))
other_there address region before first i zero j lt = absurd (omega (arith, lt))
other_there address region before first i (suc n) zero lt =
    let o : Object = Fixed (closure_header 1) (address (first + suc i) ∷ []) in
    let e : i ≡ i + 0 = omega arith in
    added_there region before o (other_objects address first (suc i) n) (region + bytes_of_all before + 16 * 0)
    (omega arith)
    ∙ ap (λ k. Some (Fixed (closure_header 1) (address (first + suc k) ∷ []))) e
other_there address region before first i (suc n) (suc j) lt =
    let o : Object = Fixed (closure_header 1) (address (first + suc i) ∷ []) in
    let sum = bytes_append before (o ∷ []) in
    let e : region + bytes_of_all (before ++ o ∷ []) + 16 * j ≡ region + bytes_of_all before + 16 * suc j =
    omega (arith, sum) in
    let f : suc i + j ≡ i + suc j = omega arith in
    ap (λ os. object_at os region (region + bytes_of_all before + 16 * suc j))
    (sym (append_assoc before (o ∷ []) (other_objects address first (suc i) n)))
    ∙ (ap (object_at ((before ++ o ∷ []) ++ other_objects address first (suc i) n) region) (sym e)
    ∙ (other_there address region (before ++ o ∷ []) first (suc i) n j (omega (arith, lt))
    ∙ ap (λ k. Some (Fixed (closure_header 1) (address (first + suc k) ∷ []))) f))

module _ (l : Layout) (address : ℕ → ℕ) (objects : List Object) (first others : ℕ) (words : List ℕ) (at : ℕ)
    (e : at ≡ l.region + bytes_of_all objects) where
  pub leader_added : There l (objects ++ group_objects address first others words) at
      (Fixed (closure_header (suc (length words))) (address first ∷ words))
  leader_added =
      inr (added_there l.region objects (Fixed (closure_header (suc (length words))) (address first ∷ words))
      (other_objects address first 0 others) at e)

  pub other_added : (i : ℕ) → i < others
      → There l (objects ++ group_objects address first others words) (at + function_offset (length words) (suc i))
      (Fixed (closure_header 1) (address (first + suc i) ∷ []))
  other_added i lt =
      let o : Object = Fixed (closure_header (suc (length words))) (address first ∷ words) in
      let sum = bytes_append objects (o ∷ []) in
      let f : l.region + bytes_of_all (objects ++ o ∷ []) + 16 * i ≡ at + function_offset (length words) (suc i) =
      omega (arith, sum, e) in
      let none : 0 + i ≡ i = omega arith in
      inr (ap (λ os. object_at os l.region (at + function_offset (length words) (suc i)))
      (sym (append_assoc objects (o ∷ []) (other_objects address first 0 others)))
      ∙ (ap (object_at ((objects ++ o ∷ []) ++ other_objects address first 0 others) l.region) (sym f)
      ∙ (other_there address l.region (objects ++ o ∷ []) first 0 others i lt
      ∙ ap (λ k. Some (Fixed (closure_header 1) (address (first + suc k) ∷ []))) none)))
