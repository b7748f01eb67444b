-- Runs, and what it is for one run to follow another.
use Rattle.std.specs.Prelude.{◌≡◌, ◌≢◌, ◌⊎◌, ℕ, ◌≤◌, List, ◌++◌, Option, Some, None}

-- how a run ends: with a verdict, out of some resource, or wrong, which is where its language gives no meaning
pub data Ending (V : Type 0) : Type 0 where
  Verdict : V → Ending V
  Exhausted : Ending V
  Wrong : Ending V

-- what a run has come to within a bound: what it shows, the output so far, and its ending, if it has ended
pub record Moment (A V : Type 0) : Type 0 where
  pub shown : A
  pub output : List ℕ
  pub ending : Option (Ending V)

-- a run gives a moment for each bound
abbrev pub Run : Type 0 → Type 0 → Type 0
Run A V = ℕ → Moment A V

-- the second list begins with the first
abbrev pub IsPrefix : List ℕ → List ℕ → Type 0
IsPrefix xs ys = (rest : List ℕ) × (ys ≡ xs ++ rest)

-- the run has run out of some resource
abbrev pub IsExhausted : {A V : Type 0} → Moment A V → Type 0
IsExhausted x = x.ending ≡ Some Exhausted

-- where the first has ended other than exhausted, the second has ended with the same verdict; an ending gone wrong
-- has no verdict
abbrev pub EndsAs : {V : Type 0} → Option (Ending V) → Option (Ending V) → Type 0
EndsAs None o = Unit {0}
EndsAs (Some (Verdict v)) o = o ≡ Some (Verdict v)
EndsAs (Some Exhausted) o = Unit {0}
EndsAs (Some Wrong) o = ⊥

-- where the second has ended, the first has ended with the same verdict
abbrev pub HasVerdictOf : {V : Type 0} → Option (Ending V) → Option (Ending V) → Type 0
HasVerdictOf o None = Unit {0}
HasVerdictOf o (Some (Verdict v)) = o ≡ Some (Verdict v)
HasVerdictOf o (Some Exhausted) = ⊥
HasVerdictOf o (Some Wrong) = ⊥

-- the run never goes wrong
abbrev pub NeverWrong : {A V : Type 0} → Run A V → Type 0
NeverWrong X = (n : ℕ) → (X n).ending ≢ Some Wrong

-- the run never runs out of any resource
abbrev pub NeverExhausted : {A V : Type 0} → Run A V → Type 0
NeverExhausted X = (n : ℕ) → (X n).ending ≢ Some Exhausted

-- what has ended stays as it is
abbrev pub StaysEnded : {A V : Type 0} → Run A V → Type 0
StaysEnded {V = V} X = (n m : ℕ) (e : Ending V) → n ≤ m → (X n).ending ≡ Some e → X m ≡ X n

-- the output only grows
abbrev pub OutputGrows : {A V : Type 0} → Run A V → Type 0
OutputGrows X = (n m : ℕ) → n ≤ m → IsPrefix (X n).output (X m).output

-- X follows Y; so X never goes wrong
pub record Follows {A B V : Type 0} (X : Run A V) (Y : Run B V) : Type 0 where
  -- whatever X has come to, Y comes to the same output, and to the same verdict where X has ended other than exhausted
  pub back : (m : ℕ) → (n : ℕ) × ((X m).output ≡ (Y n).output) × EndsAs (X m).ending (Y n).ending
  -- whatever Y has come to, X comes to be exhausted, or to output that begins with Y's, with the same verdict where Y
  -- has ended
  pub forth : (n : ℕ) → (m : ℕ) × (IsExhausted (X m)
      ⊎ (IsPrefix (Y n).output (X m).output × HasVerdictOf (X m).ending (Y n).ending))

-- where X has a verdict and Y has ended, Y has the same verdict, and they have the same output
abbrev pub SameAnswer : {A B V : Type 0} → Run A V → Run B V → Type 0
SameAnswer {V = V} X Y =
    (m n : ℕ) (v : V) (e : Ending V) → (X m).ending ≡ Some (Verdict v) → (Y n).ending ≡ Some e
    → (e ≡ Verdict v) × ((X m).output ≡ (Y n).output)

-- two moments agree: they have the same output, and K relates what they show
pub record Agrees {A B V : Type 0} (K : A → B → Type 0) (x : Moment A V) (y : Moment B V) : Type 0 where
  pub output : x.output ≡ y.output
  pub shown : K x.shown y.shown

-- the first is backed by the second: they agree, and where the first has ended other than exhausted, the second has
-- ended with the same verdict
abbrev pub Backed : {A B V : Type 0} → (A → B → Type 0) → Moment A V → Moment B V → Type 0
Backed K x y = Agrees K x y × EndsAs x.ending y.ending

-- the first is exhausted, or has come to the second: they agree, and where the second has ended, the first has ended
-- with the same verdict
abbrev pub Reached : {A B V : Type 0} → (A → B → Type 0) → Moment A V → Moment B V → Type 0
Reached K x y = IsExhausted x ⊎ (Agrees K x y × HasVerdictOf x.ending y.ending)

-- X follows Y: K relates what they show at moments that correspond, and L what X shows when it has come to Y's
-- moment, or has run out on the way there
pub record FollowsBy {A B V : Type 0} (K L : A → B → Type 0) (X : Run A V) (Y : Run B V) : Type 0 where
  pub back : (m : ℕ) → (n : ℕ) × Backed K (X m) (Y n)
  pub forth : (n : ℕ) → (m : ℕ) × L (X m).shown (Y n).shown × Reached K (X m) (Y n)

-- one relation after another
abbrev pub Through : {A B C : Type 0} → (A → B → Type 0) → (B → C → Type 0) → A → C → Type 0
Through {B = B} K L a c = (b : B) × K a b × L b c

-- both show the same
abbrev pub Same : {A : Type 0} → A → A → Type 0
Same a b = a ≡ b

-- nothing is asked of what the two show
abbrev pub Any : {A B : Type 0} → A → B → Type 0
Any a b = Unit {0}
