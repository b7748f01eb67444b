-- Rows stay as they are where memory changes elsewhere.
use Rattle.std.proofs.Common.{◌≡◌, ℕ, suc, ◌+◌, ◌*◌, ◌≤◌, ◌<◌, max, List, [], ◌∷◌, length, Option, Some}
use Rattle.std.proofs.Common.{None}
use Rattle.std.proofs.Common.{refl, sym, ap, ◌∙◌, subst, arith, ◌⊎◌, inl, inr, Bool}
use Rattle.std.specs.Prelude.{option_and_then, if◌then◌else◌, ◌==◌}
use Rattle.object_layout.specs.declared.headers.Header.{Header}
use Rattle.object_layout.specs.declared.kinds.Kind.{Kind}
use Rattle.object_layout.specs.declared.kinds.Wanted.{Wanted}
use Rattle.object_layout.specs.declared.kinds.Wanted.TheVariants.{Anything, Target, Middle, Coercion, TypeAddress}
use Rattle.object_layout.specs.declared.wholes.Area.{Area}
use Rattle.object_layout.specs.Kinds.{kind_of, wanted_words}
use Rattle.object_layout.specs.Headers.{unpacked}
use Rattle.object_layout.specs.Wholes.{Telling, header_at, kind_at, height_of, IsAddress, IsWanted, StandsWanted}
use Rattle.object_layout.specs.Wholes.{AreWanted}
use Rattle.object_layout.specs.Wholes.{height_behind, coercion_height, wanted_height, highest, HasHeight, IsWhole}
use Rattle.object_layout.specs.Wholes.{Fills}
use Rattle.object_layout.specs.Wholes.{IsNth}

-- a word stands at this address among those from an address on, and has to be this
abbrev pub IsIn : ℕ → Wanted → ℕ → List Wanted → Type 0
IsIn p wanted at [] = ⊥
IsIn p wanted at (first ∷ rest) = ((p ≡ at) × (wanted ≡ first)) ⊎ IsIn p wanted (at + 8) rest

module _ (memory other : Telling) where
  -- both memories tell the same at an address, and at the address that is told there
  pub record SameThere (at : ℕ) : Type 0 where
    pub word : other at ≡ memory at
    pub behind : (w : ℕ) → memory at ≡ Some w → other w ≡ memory w

  -- what both memories tell where a word has to be this: any word the same, and else also what stands behind it
  abbrev pub SameAt : ℕ → Wanted → Type 0
  SameAt at Anything = other at ≡ memory at
  SameAt at Target = SameThere at
  SameAt at Middle = SameThere at
  SameAt at Coercion = SameThere at
  SameAt at TypeAddress = SameThere at

  -- the words from an address on, as many as there are in the list, are the same so
  abbrev pub SameWords : ℕ → List Wanted → Type 0
  SameWords at [] = Unit {0}
  SameWords at (wanted ∷ rest) = SameAt at wanted × SameWords (at + 8) rest

  -- behind a word that is an address the same is told
  abbrev pub SameBehind : Wanted → ℕ → Type 0
  SameBehind Anything w = Unit {0}
  SameBehind Target w = other w ≡ memory w
  SameBehind Middle w = other w ≡ memory w
  SameBehind Coercion w = other w ≡ memory w
  SameBehind TypeAddress w = other w ≡ memory w

  same_at : (wanted : Wanted) {at : ℕ} → other at ≡ memory at →
      ((w : ℕ) → memory at ≡ Some w → SameBehind wanted w) → SameAt at wanted
  same_at Anything e behind = e
  same_at Target e behind = record { word = e; behind = behind }
  same_at Middle e behind = record { word = e; behind = behind }
  same_at Coercion e behind = record { word = e; behind = behind }
  same_at TypeAddress e behind = record { word = e; behind = behind }

  header_same : (at : ℕ) → other at ≡ memory at → header_at other at ≡ header_at memory at
  header_same at e = ap (λ o. option_and_then unpacked o) e

  kind_same : (at : ℕ) → other at ≡ memory at → kind_at other at ≡ kind_at memory at
  kind_same at e = ap (λ o. option_and_then (λ h. kind_of h.kind) (option_and_then unpacked o)) e

  address_same : (named : Kind → Bool) (own word : ℕ) → other word ≡ memory word → IsAddress memory named own word →
      IsAddress other named own word
  address_same named own word e a =
      record { kind = a.kind; there = kind_same word e ∙ a.there; is_named = a.is_named; below = a.below }

  wanted_same : (own : ℕ) (wanted : Wanted) (word : ℕ) → other word ≡ memory word → IsWanted memory own wanted word →
      IsWanted other own wanted word
  wanted_same own Anything word e w = tt
  wanted_same own Target word e w = address_same _ own word e w
  wanted_same own Middle word e w = address_same _ own word e w
  wanted_same own Coercion word e (inl z) = inl z
  wanted_same own Coercion word e (inr a) = inr (address_same _ own word e a)
  wanted_same own TypeAddress word e w = address_same _ own word e w

  stands_same : (own at : ℕ) (wanted : Wanted) → SameAt at wanted → StandsWanted memory own at wanted →
      StandsWanted other own at wanted
  stands_same own at Anything s (word, told, is) = (word, s ∙ told, tt)
  stands_same own at Target s (word, told, is) =
      (word, s.word ∙ told, wanted_same own Target word (s.behind word told) is)
  stands_same own at Middle s (word, told, is) =
      (word, s.word ∙ told, wanted_same own Middle word (s.behind word told) is)
  stands_same own at Coercion s (word, told, is) =
      (word, s.word ∙ told, wanted_same own Coercion word (s.behind word told) is)
  stands_same own at TypeAddress s (word, told, is) =
      (word, s.word ∙ told, wanted_same own TypeAddress word (s.behind word told) is)

  all_same : (own at : ℕ) (list : List Wanted) → SameWords at list → AreWanted memory own at list →
      AreWanted other own at list
  all_same own at [] s w = tt
  all_same own at (wanted ∷ rest) s w = (stands_same own at wanted s.0 w.0, all_same own (at + 8) rest s.1 w.1)

  -- ---- heights

  behind_same : (o : Option ℕ) → ((w : ℕ) → o ≡ Some w → other w ≡ memory w) →
      height_behind other o ≡ height_behind memory o
  behind_same None e = refl
  behind_same (Some w) e = ap height_of (header_same w (e w refl))

  coercion_same : (o : Option ℕ) → ((w : ℕ) → o ≡ Some w → other w ≡ memory w) →
      coercion_height other o ≡ coercion_height memory o
  coercion_same None e = refl
  coercion_same (Some w) e = ap (λ o. if w == 0 then 0 else height_of o) (header_same w (e w refl))

  height_same : (wanted : Wanted) (at : ℕ) → SameAt at wanted → wanted_height other wanted
      at ≡ wanted_height memory wanted at
  height_same Anything at s = refl
  height_same Target at s = refl
  height_same Middle at s = refl
  height_same Coercion at s = ap (coercion_height other) s.word ∙ coercion_same (memory at) s.behind
  height_same TypeAddress at s = ap (height_behind other) s.word ∙ behind_same (memory at) s.behind

  highest_same : (at : ℕ) (list : List Wanted) → SameWords at list → highest other at list ≡ highest memory at list
  highest_same at [] s = refl
  highest_same at (wanted ∷ rest) s =
      let first = height_same wanted at s.0 in
      let others = highest_same (at + 8) rest s.1 in
      ap (λ h. max h (highest other (at + 8) rest)) first ∙ ap (max (wanted_height memory wanted at)) others

  -- ---- objects

  pub whole_same : (area : Area) (end at : ℕ) (h : Header) (w : IsWhole memory area end at h) →
      other at ≡ memory at → SameWords (at + 8) (wanted_words w.kind h.count) → IsWhole other area end at h
  whole_same area end at h w e s = record {
    header = header_same at e ∙ w.header;
    kind = w.kind;
    kind_is = w.kind_is;
    count = w.count;
    fits = w.fits;
    words = all_same at (at + 8) (wanted_words w.kind h.count) s w.words;
    height = subst (λ y. HasHeight w.kind h.height y)
        (sym (highest_same (at + 8) (wanted_words w.kind h.count) s)) w.height;
    stands = w.stands;
  }

  -- a row stays one where each of its objects stays whole
  pub fills_same : (area : Area) (end from : ℕ) (headers : List Header) (to : ℕ) →
      ((place at : ℕ) (h : Header) → IsNth from headers place at h → IsWhole memory area end at h →
      IsWhole other area end at h) → Fills memory area end from headers to → Fills other area end from headers to
  fills_same area end from [] to stays f = f
  fills_same area end from (h ∷ rest) to stays f = (
    stays 0 from h (refl, refl) f.0,
    fills_same area end (from + (8 + 8 * h.count)) rest to (λ place at k n w. stays (suc place) at k n w) f.1,
  )

  -- ---- when the words are the same

  -- at each address where a word of the list stands the same is told, and so is behind each word that is an address
  pub words_same : (own at : ℕ) (list : List Wanted) →
      ((p : ℕ) → at ≤ p → p < at + 8 * length list → other p ≡ memory p) →
      ((p : ℕ) (wanted : Wanted) (w : ℕ) → memory p ≡ Some w → IsWanted memory own wanted w → IsIn p wanted at list →
      SameBehind wanted w) → AreWanted memory own at list → SameWords at list
  words_same own at [] same behind w = tt
  words_same own at (wanted ∷ rest) same behind w = (
    same_at wanted (same at (omega arith) (omega arith)) (λ v told. there v told),
    words_same own (at + 8) rest (λ p above below. same p (omega arith) (omega arith))
        (λ p wished v told is n. behind p wished v told is (inr n)) w.1,
  )
    where
      there : (v : ℕ) → memory at ≡ Some v → SameBehind wanted v
      there v told =
          let one : Some w.0.0 ≡ Some v = sym w.0.1 ∙ told in
          let e : w.0.0 ≡ v = cc in
          behind at wanted v told (subst (λ x. IsWanted memory own wanted x) e w.0.2) (inl (refl, refl))
