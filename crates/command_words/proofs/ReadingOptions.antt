-- Options at the front of words.
use Rattle.std.proofs.Common.{ℕ, true, false, ◌-◌, ◌<◌, ◌≤◌, ◌≡◌, List, [], ◌∷◌, ◌++◌, map, length, take, drop, get_or}
use Rattle.std.proofs.Common.{inl, inr, refl, sym, ap, subst, ◌∙◌, append-nil, arith, eqb-true}
use Rattle.std.specs.Prelude.{◌≢◌, ◌==◌, Bool, Option, Some, None}
use Rattle.std.proofs.lemmas.List.{take_all}
use Rattle.command_words.specs.Commands.{IsNameOption, IsNumber, number_of}
use Rattle.command_words.specs.ReadCommands.{BeginOtherwise, FlagAtFront, NameAtFront, NumberAtFront}

-- ---- the first of a list, and the others

pub first_and_others : {A : Type 0} (xs : List A) (x : A) → 1 ≤ length xs → x ≡ get_or xs 0 x
    → xs ≡ x ∷ take (length xs - 1) (drop 1 xs)
first_and_others [] x h e = absurd (let p : ⊥ = omega arith in p)
first_and_others (y ∷ ys) x h e = rw (e, take_all (length (y ∷ ys) - 1) ys (omega arith)) refl

pub no_items : {A : Type 0} (xs : List A) → length xs < 1 → xs ≡ []
no_items [] h = refl
no_items (x ∷ xs) h = absurd (let p : ⊥ = omega arith in p)

others : {A : Type 0} (x y x' y' : A) (xs xs' : List A) → x ∷ y ∷ xs ≡ x' ∷ y' ∷ xs' → (y ≡ y') × (xs ≡ xs')
others x y x' y' xs xs' e = (cc, cc)

pub heads : {A : Type 0} (x x' : A) (xs xs' : List A) → x ∷ xs ≡ x' ∷ xs' → x ≡ x'
heads x x' xs xs' e = cc

one_is_not_two : {A : Type 0} (x y z : A) (xs : List A) → x ∷ [] ≡ y ∷ z ∷ xs → ⊥
one_is_not_two x y z xs e = cc

-- ---- one reading

-- a front part that is no option is empty
front : {rest words : List (List ℕ)} (part : List (List ℕ)) → words ≡ part ++ rest → part ≡ [] → words ≡ rest
front {rest} part e p = e ∙ ap (λ (q : List (List ℕ)). q ++ rest) p

front_two : {rest words : List (List ℕ)} (part : List (List ℕ)) (name word : List ℕ) → words ≡ part ++ rest
    → part ≡ name ∷ word ∷ [] → words ≡ name ∷ word ∷ rest
front_two {rest} part name word e p = e ∙ ap (λ (q : List (List ℕ)). q ++ rest) p

number_same : (word word' : List ℕ) (n m : ℕ) → word ≡ word' → IsNumber word n → IsNumber word' m → n ≡ m
number_same word word' n m e a b = a.value ∙ ap number_of e ∙ sym b.value

pub one_front : (name : List ℕ) (IsAllowed : ℕ → Type 0) (default : ℕ) (words : List (List ℕ)) (n m : ℕ)
    (rest others : List (List ℕ))
    → NumberAtFront name IsAllowed default words n rest → NumberAtFront name IsAllowed default words m others
    → (n ≡ m) × (rest ≡ others)
one_front name IsAllowed default words n m rest left a b = elim a.option [
  | inl p ↦ elim b.option [
    | inl q ↦ (p.1 ∙ sym q.1, sym (front a.part a.words_are p.0) ∙ front b.part b.words_are q.0)
    | inr q ↦ absurd (a.absent p.0 (q.0 ∷ left)
        (sym (front a.part a.words_are p.0) ∙ front_two b.part name q.0 b.words_are q.1))
  ]
  | inr p ↦ elim b.option [
    | inl q ↦ absurd (b.absent q.0 (p.0 ∷ rest)
        (sym (front b.part b.words_are q.0) ∙ front_two a.part name p.0 a.words_are p.1))
    | inr q ↦ let same = others name p.0 name q.0 rest left
        (sym (front_two a.part name p.0 a.words_are p.1) ∙ front_two b.part name q.0 b.words_are q.1) in
        (number_same p.0 q.0 n m same.0 p.2 q.2, same.1)
  ]
]

-- ---- what is read

pub no_option : (name : List ℕ) (IsAllowed : ℕ → Type 0) (default : ℕ) (words : List (List ℕ))
    → BeginOtherwise name words → NumberAtFront name IsAllowed default words default words
no_option name IsAllowed default words h =
    record { part = []; words_are = refl; option = inl (refl, refl); absent = λ p. h }

pub an_option : (name : List ℕ) (IsAllowed : ℕ → Type 0) (default n : ℕ) (words rest : List (List ℕ)) (word : List ℕ)
    → words ≡ name ∷ word ∷ rest → IsNumber word n → IsAllowed n → NumberAtFront name IsAllowed default words n rest
an_option name IsAllowed default n words rest word e number allowed = record {
  part = name ∷ word ∷ [];
  words_are = e;
  option = inr (word, refl, number, allowed);
  absent = λ p. absurd (let q : ⊥ = cc in q);
}

-- ---- what is refused

pub no_second_word : (name : List ℕ) (IsAllowed : ℕ → Type 0) (default n : ℕ) (words rest : List (List ℕ))
    → words ≡ name ∷ [] → NumberAtFront name IsAllowed default words n rest → ⊥
no_second_word name IsAllowed default n words rest e a = elim a.option [
  | inl p ↦ a.absent p.0 [] (sym (front a.part a.words_are p.0) ∙ e)
  | inr p ↦ one_is_not_two name name p.0 rest (sym e ∙ front_two a.part name p.0 a.words_are p.1)
]

pub no_such_number : (name : List ℕ) (IsAllowed : ℕ → Type 0) (default n : ℕ) (words rest left : List (List ℕ))
    (word : List ℕ)
    → words ≡ name ∷ word ∷ left → ((m : ℕ) → IsNumber word m → IsAllowed m → ⊥)
    → NumberAtFront name IsAllowed default words n rest → ⊥
no_such_number name IsAllowed default n words rest left word e none a = elim a.option [
  | inl p ↦ a.absent p.0 (word ∷ left) (sym (front a.part a.words_are p.0) ∙ e)
  | inr p ↦ let same = others name p.0 name word rest left (sym (front_two a.part name p.0 a.words_are p.1) ∙ e) in
      none n (subst (λ (w : List ℕ). IsNumber w n) same.0 p.2) p.3
]

-- ---- the words of an option in a list of texts

pub first_word : {A : Type 0} (bytes : A → List ℕ) (words : List A) (x : A) (text name : List ℕ)
    → 1 ≤ length words → x ≡ get_or words 0 x → text ≡ bytes x → text ≡ name
    → map bytes words ≡ name ∷ map bytes (take (length words - 1) (drop 1 words))
first_word bytes words x text name h e t n =
    ap (map bytes) (first_and_others words x h e)
    ∙ ap (λ (w : List ℕ). w ∷ map bytes (take (length words - 1) (drop 1 words))) (sym t ∙ n)

pub one_word : {A : Type 0} (bytes : A → List ℕ) (words rest : List A) (name : List ℕ)
    → map bytes words ≡ name ∷ map bytes rest → length rest < 1 → map bytes words ≡ name ∷ []
one_word {A} bytes words rest name e h = e ∙ ap (λ (xs : List A). name ∷ map bytes xs) (no_items rest h)

pub two_words : {A : Type 0} (bytes : A → List ℕ) (words rest : List A) (y : A) (text name : List ℕ)
    → map bytes words ≡ name ∷ map bytes rest → 1 ≤ length rest → y ≡ get_or rest 0 y → text ≡ bytes y
    → map bytes words ≡ name ∷ text ∷ map bytes (take (length rest - 1) (drop 1 rest))
two_words bytes words rest y text name e h f t =
    e ∙ ap (λ (xs : List (List ℕ)). name ∷ xs) (first_word bytes rest y text text h f t refl)

-- ---- options with a name

pub not_empty : (xs : List ℕ) → false ≡ (length xs == 0) → xs ≢ []
not_empty [] h e = cc
not_empty (x ∷ xs) h e = cc

pub empty_text : (xs : List ℕ) → true ≡ (length xs == 0) → xs ≡ []
empty_text [] h = refl
empty_text (x ∷ xs) h =
    let e = eqb-true (length (x ∷ xs)) 0 (sym h) in absurd (let z : ⊥ = omega (arith, e) in z)

pub one_name : (option : List ℕ) (words : List (List ℕ)) (name other : Option (List ℕ)) (rest left : List (List ℕ))
    → NameAtFront option words name rest → NameAtFront option words other left → (name ≡ other) × (rest ≡ left)
one_name option words name other rest left a b = elim a.option [
  | inl p ↦ elim b.option [
    | inl q ↦ (p.1 ∙ sym q.1, sym (front a.part a.words_are p.0) ∙ front b.part b.words_are q.0)
    | inr q ↦ absurd (a.absent p.0 (q.0 ∷ left)
        (sym (front a.part a.words_are p.0) ∙ front_two b.part option q.0 b.words_are q.1))
  ]
  | inr p ↦ elim b.option [
    | inl q ↦ absurd (b.absent q.0 (p.0 ∷ rest)
        (sym (front b.part b.words_are q.0) ∙ front_two a.part option p.0 a.words_are p.1))
    | inr q ↦ let same = others option p.0 option q.0 rest left
        (sym (front_two a.part option p.0 a.words_are p.1) ∙ front_two b.part option q.0 b.words_are q.1) in
        (p.3 ∙ ap Some same.0 ∙ sym q.3, same.1)
  ]
]

pub without_name : (option : List ℕ) (words : List (List ℕ)) → BeginOtherwise option words
    → NameAtFront option words None words
without_name option words h = record { part = []; words_are = refl; option = inl (refl, refl); absent = λ p. h }

pub with_name : (option : List ℕ) (words rest : List (List ℕ)) (name : List ℕ) → words ≡ option ∷ name ∷ rest
    → name ≢ [] → NameAtFront option words (Some name) rest
with_name option words rest name e some = record {
  part = option ∷ name ∷ [];
  words_are = e;
  option = inr (name, refl, some, refl);
  absent = λ p. absurd (let q : ⊥ = cc in q);
}

pub no_word_behind : (option : List ℕ) (words : List (List ℕ)) (name : Option (List ℕ)) (rest : List (List ℕ))
    → words ≡ option ∷ [] → NameAtFront option words name rest → ⊥
no_word_behind option words name rest e a = elim a.option [
  | inl p ↦ a.absent p.0 [] (sym (front a.part a.words_are p.0) ∙ e)
  | inr p ↦ one_is_not_two option option p.0 rest (sym e ∙ front_two a.part option p.0 a.words_are p.1)
]

pub no_empty_name : (option : List ℕ) (words left : List (List ℕ)) (word : List ℕ) (name : Option (List ℕ))
    (rest : List (List ℕ)) → words ≡ option ∷ word ∷ left → word ≡ [] → NameAtFront option words name rest → ⊥
no_empty_name option words left word name rest e empty a = elim a.option [
  | inl p ↦ a.absent p.0 (word ∷ left) (sym (front a.part a.words_are p.0) ∙ e)
  | inr p ↦ let same = others option p.0 option word rest left
      (sym (front_two a.part option p.0 a.words_are p.1) ∙ e) in
      p.2 (same.0 ∙ empty)
]

-- an option with a name that is all of the words
pub whole_name : (option : List ℕ) (words : List (List ℕ)) (name : Option (List ℕ)) → IsNameOption option words name
    → NameAtFront option words name []
whole_name option words name h =
    record { part = words; words_are = sym (append-nil words); option = h; absent = λ p left e. let z : ⊥ = cc in z }

pub name_alone : (option : List ℕ) (words : List (List ℕ)) (name : Option (List ℕ)) → NameAtFront option words name []
    → IsNameOption option words name
name_alone option words name a =
    subst (λ (ws : List (List ℕ)). IsNameOption option ws name) (sym (a.words_are ∙ append-nil a.part)) a.option

-- ---- options that are words alone

pub without_flag : (option : List ℕ) (words : List (List ℕ)) → BeginOtherwise option words
    → FlagAtFront option words false words
without_flag option words h = record { part = []; words_are = refl; option = inl (refl, refl); absent = λ p. h }

pub with_flag : (option : List ℕ) (words rest : List (List ℕ)) → words ≡ option ∷ rest
    → FlagAtFront option words true rest
with_flag option words rest e = record {
  part = option ∷ [];
  words_are = e;
  option = inr (refl, refl);
  absent = λ p. absurd (let q : ⊥ = cc in q);
}

front_one : {rest words : List (List ℕ)} (part : List (List ℕ)) (option : List ℕ) → words ≡ part ++ rest
    → part ≡ option ∷ [] → words ≡ option ∷ rest
front_one {rest} part option e p = e ∙ ap (λ (q : List (List ℕ)). q ++ rest) p

tails : {A : Type 0} (x : A) (xs ys : List A) → x ∷ xs ≡ x ∷ ys → xs ≡ ys
tails x xs ys e = cc

pub one_flag : (option : List ℕ) (words : List (List ℕ)) (stands other : Bool) (rest left : List (List ℕ))
    → FlagAtFront option words stands rest → FlagAtFront option words other left → (stands ≡ other) × (rest ≡ left)
one_flag option words stands other rest left a b = elim a.option [
  | inl p ↦ elim b.option [
    | inl q ↦ (p.1 ∙ sym q.1, sym (front a.part a.words_are p.0) ∙ front b.part b.words_are q.0)
    | inr q ↦ absurd (a.absent p.0 left
        (sym (front a.part a.words_are p.0) ∙ front_one b.part option b.words_are q.0))
  ]
  | inr p ↦ elim b.option [
    | inl q ↦ absurd (b.absent q.0 rest
        (sym (front b.part b.words_are q.0) ∙ front_one a.part option a.words_are p.0))
    | inr q ↦ (
      p.1 ∙ sym q.1,
      tails option rest left
          (sym (front_one a.part option a.words_are p.0) ∙ front_one b.part option b.words_are q.0),
    )
  ]
]

-- ---- words are left

no_texts : {A : Type 0} (bytes : A → List ℕ) (words : List A) → true ≡ (length words == 0) → map bytes words ≡ []
no_texts bytes [] h = refl
no_texts bytes (x ∷ xs) h =
    let e = eqb-true (length (x ∷ xs)) 0 (sym h) in absurd (let z : ⊥ = omega (arith, e) in z)

-- an option with a name behind which no words are left
pub at_end : {A : Type 0} (bytes : A → List ℕ) (option : List ℕ) (words : List (List ℕ)) (name : Option (List ℕ))
    (rest : List A) → true ≡ (length rest == 0) → NameAtFront option words name (map bytes rest)
    → NameAtFront option words name []
at_end bytes option words name rest h a =
    subst (λ (ws : List (List ℕ)). NameAtFront option words name ws) (no_texts bytes rest h) a

pub some_texts : {A : Type 0} (bytes : A → List ℕ) (words : List A) → false ≡ (length words == 0)
    → map bytes words ≡ [] → ⊥
some_texts bytes [] h e = cc
some_texts bytes (x ∷ xs) h e = cc
