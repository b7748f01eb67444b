-- Following within an account: what follows by relations does, and it composes.
use Rattle.std.proofs.Common.{◌≡◌, inl, inr, ℕ, Option, Some, ◌∙◌, subst}
use Rattle.run_laws.specs.Runs.{Run, Moment, Ending, Exhausted, HasVerdictOf}
use Rattle.run_laws.specs.Runs.{Backed, Reached, FollowsBy, Through, Any}
use Rattle.run_laws.specs.Accounts.{FollowsWithin}
use Rattle.run_laws.proofs.Following.{ends_as_trans, has_verdict_of_trans}

-- what follows by relations follows within them
reached_any : {A B V : Type 0} (K : A → B → Type 0) (x : Moment A V) (y : Moment B V) → Reached K x y → Reached Any x y
reached_any K x y (inl e) = inl e
reached_any K x y (inr a) = inr (record { output = a.0.output; shown = tt }, a.1)

pub within_of : {A B V : Type 0} {K L : A → B → Type 0} {X : Run A V} {Y : Run B V} → FollowsBy K L X Y
    → FollowsWithin K L X Y
within_of {K = K} {X = X} {Y = Y} f = record {
  back = f.back;
  forth = λ n. let a = f.forth n in (a.0, a.1, reached_any K (X a.0) (Y n) a.2);
}

-- what follows within an account follows within a larger one
pub within_weaken : {A B V : Type 0} {K L K' L' : A → B → Type 0} {X : Run A V} {Y : Run B V}
    → ((a : A) (b : B) → K a b → K' a b) → ((a : A) (b : B) → L a b → L' a b) → FollowsWithin K L X Y
    → FollowsWithin K' L' X Y
within_weaken {X = X} {Y = Y} k l f = record {
  back =
      λ i. let b = f.back i in
      (b.0, (record { output = b.1.0.output; shown = k (X i).shown (Y b.0).shown b.1.0.shown }, b.1.1));
  forth = λ i. let b = f.forth i in (b.0, l (X b.0).shown (Y i).shown b.1, b.2);
}

-- following within accounts is transitive, with the relations joined
backed_through : {A B C V : Type 0} (K : A → B → Type 0) (K' : B → C → Type 0) (x : Moment A V) (y : Moment B V)
    (z : Moment C V) → Backed K x y → Backed K' y z → Backed (Through K K') x z
backed_through K K' x y z a b = (
  record { output = a.0.output ∙ b.0.output; shown = (y.shown, a.0.shown, b.0.shown) },
  ends_as_trans x.ending y.ending z.ending a.1 b.1,
)

out_through : {V : Type 0} (o p : Option (Ending V)) → p ≡ Some Exhausted → HasVerdictOf o p → ⊥
out_through o p e h = subst (λ r. HasVerdictOf o r) e h

reached_through : {A B C V : Type 0} (x : Moment A V) (y : Moment B V) (z : Moment C V) → Reached Any x y
    → Reached Any y z → Reached Any x z
reached_through x y z (inl e) b = inl e
reached_through x y z (inr a) (inl e) = absurd (out_through x.ending y.ending e a.1)
reached_through x y z (inr a) (inr b) = inr (
  record { output = a.0.output ∙ b.0.output; shown = tt },
  has_verdict_of_trans x.ending y.ending z.ending a.1 b.1,
)

pub within_trans : {A B C V : Type 0} {X : Run A V} {Y : Run B V} {Z : Run C V} {K L : A → B → Type 0}
    {K' L' : B → C → Type 0} → FollowsWithin K L X Y → FollowsWithin K' L' Y Z
    → FollowsWithin (Through K K') (Through L L') X Z
within_trans {X = X} {Y = Y} {Z = Z} {K = K} {K' = K'} f g = record {
  back = λ m. let a = f.back m in let b = g.back a.0 in (b.0, backed_through K K' (X m) (Y a.0) (Z b.0) a.1 b.1);
  forth = λ n. let b = g.forth n in let a = f.forth b.0 in (
    a.0,
    ((Y b.0).shown, a.1, b.1),
    reached_through (X a.0) (Y b.0) (Z n) a.2 b.2,
  );
}

-- where what X shows has E, what Y shows has D: so X is exhausted only for a reason that Y shows
pub within_back : {A B V : Type 0} {X : Run A V} {Y : Run B V} {K L : A → B → Type 0} → FollowsWithin K L X Y
    → (E : A → Type 0) (D : B → Type 0) → ((a : A) (b : B) → K a b → E a → D b) → (m : ℕ) → E (X m).shown
    → (n : ℕ) × ((X m).output ≡ (Y n).output) × D (Y n).shown
within_back {X = X} {Y = Y} f E D w m e =
    let a = f.back m in (a.0, a.1.0.output, w (X m).shown (Y a.0).shown a.1.0.shown e)
