-- The laws of following.
use Rattle.std.proofs.Common.{◌≡◌, ◌≢◌, ◌⊎◌, inl, inr, ℕ, ◌<◌, ◌≤◌, List, [], ◌++◌, Option, Some, None, refl, sym, ap}
use Rattle.std.proofs.Common.{◌∙◌, subst, arith, append_assoc, append-nil}
use Rattle.std.proofs.lemmas.Bool.{cases_lt}
use Rattle.run_laws.specs.Runs.{Ending, Verdict, Exhausted, Wrong, Moment, Run, IsPrefix, IsExhausted, EndsAs}
use Rattle.run_laws.specs.Runs.{HasVerdictOf, NeverWrong, NeverExhausted, StaysEnded, Follows, SameAnswer, Agrees}
use Rattle.run_laws.specs.Runs.{Backed, Reached, FollowsBy, Through, Same}

-- having a verdict, and beginning with output, are transitive
pub ends_as_trans : {V : Type 0} (a b c : Option (Ending V)) → EndsAs a b → EndsAs b c → EndsAs a c
ends_as_trans None b c h k = tt
ends_as_trans (Some (Verdict v)) b c h k = subst (λ o. EndsAs o c) h k
ends_as_trans (Some Exhausted) b c h k = tt
ends_as_trans (Some Wrong) b c h k = absurd h

pub has_verdict_of_trans : {V : Type 0} (a b c : Option (Ending V)) → HasVerdictOf a b → HasVerdictOf b c
    → HasVerdictOf a c
has_verdict_of_trans a b None h k = tt
has_verdict_of_trans a b (Some (Verdict v)) h k = subst (λ o. HasVerdictOf a o) k h
has_verdict_of_trans a b (Some Exhausted) h k = absurd k
has_verdict_of_trans a b (Some Wrong) h k = absurd k

pub ends_as_equal : {V : Type 0} (a b : Option (Ending V)) → a ≢ Some Wrong → a ≡ b → EndsAs a b
ends_as_equal None b nw e = tt
ends_as_equal (Some (Verdict v)) b nw e = sym e
ends_as_equal (Some Exhausted) b nw e = tt
ends_as_equal (Some Wrong) b nw e = absurd (nw refl)

pub exhausted_or_equal : {V : Type 0} (a b : Option (Ending V)) → a ≢ Some Wrong → a ≡ b → (a ≡ Some Exhausted)
    ⊎ HasVerdictOf a b
exhausted_or_equal a None nw e = inr tt
exhausted_or_equal a (Some (Verdict v)) nw e = inr e
exhausted_or_equal a (Some Exhausted) nw e = inl e
exhausted_or_equal a (Some Wrong) nw e = absurd (nw e)

pub has_verdict_of_some : {V : Type 0} (a : Option (Ending V)) (e : Ending V) → HasVerdictOf a (Some e) → a ≡ Some e
has_verdict_of_some a (Verdict v) h = h
has_verdict_of_some a Exhausted h = absurd h
has_verdict_of_some a Wrong h = absurd h

some_injective : {V : Type 0} {a b : V} → Some a ≡ Some b → a ≡ b
some_injective h = cc

pub prefix_trans : (xs ys zs : List ℕ) → IsPrefix xs ys → IsPrefix ys zs → IsPrefix xs zs
prefix_trans xs ys zs p q = (p.0 ++ q.0, q.1 ∙ ap (λ l. l ++ q.0) p.1 ∙ append_assoc xs p.0 q.0)

pub prefix_refl : (xs ys : List ℕ) → ys ≡ xs → IsPrefix xs ys
prefix_refl xs ys e = ([], e ∙ sym (append-nil xs))

module _ {A B C V : Type 0} (X : Run A V) (Y : Run B V) (Z : Run C V) where
  forth_trans : (m k n : ℕ) → IsExhausted (X m)
      ⊎ (IsPrefix (Y k).output (X m).output × HasVerdictOf (X m).ending (Y k).ending) → IsExhausted (Y k)
      ⊎ (IsPrefix (Z n).output (Y k).output × HasVerdictOf (Y k).ending (Z n).ending) → IsExhausted (X m)
      ⊎ (IsPrefix (Z n).output (X m).output × HasVerdictOf (X m).ending (Z n).ending)
  forth_trans m k n (inl e) g = inl e
  forth_trans m k n (inr f) (inl e) = absurd (subst (λ o. HasVerdictOf (X m).ending o) e f.1)
  forth_trans m k n (inr f) (inr g) =
      inr (
        prefix_trans (Z n).output (Y k).output (X m).output g.0 f.0,
        has_verdict_of_trans (X m).ending (Y k).ending (Z n).ending f.1 g.1,
      )

  plain_trans : Follows X Y → Follows Y Z → Follows X Z
  plain_trans f g = record {
    back = λ m. let a = f.back m in let b = g.back a.0 in
        (b.0, a.1 ∙ b.1, ends_as_trans (X m).ending (Y a.0).ending (Z b.0).ending a.2 b.2);
    forth = λ n. let b = g.forth n in let a = f.forth b.0 in (a.0, forth_trans a.0 b.0 n a.1 b.1);
  }

  agrees_trans : (K : A → B → Type 0) (L : B → C → Type 0) (x : Moment A V) (y : Moment B V) (z : Moment C V)
      → Agrees K x y → Agrees L y z → Agrees (Through K L) x z
  agrees_trans K L x y z a b = record { output = a.output ∙ b.output; shown = (y.shown, a.shown, b.shown) }

  backed_trans : (K : A → B → Type 0) (L : B → C → Type 0) (x : Moment A V) (y : Moment B V) (z : Moment C V)
      → Backed K x y → Backed L y z → Backed (Through K L) x z
  backed_trans K L x y z a b = (agrees_trans K L x y z a.0 b.0, ends_as_trans x.ending y.ending z.ending a.1 b.1)

  reached_trans : (K : A → B → Type 0) (L : B → C → Type 0) (x : Moment A V) (y : Moment B V) (z : Moment C V)
      → Reached K x y → Reached L y z → Reached (Through K L) x z
  reached_trans K L x y z (inl e) g = inl e
  reached_trans K L x y z (inr f) (inl e) = absurd (subst (λ o. HasVerdictOf x.ending o) e f.1)
  reached_trans K L x y z (inr f) (inr g) =
      inr (agrees_trans K L x y z f.0 g.0, has_verdict_of_trans x.ending y.ending z.ending f.1 g.1)

  by_trans : (K L : A → B → Type 0) (K' L' : B → C → Type 0) → FollowsBy K L X Y → FollowsBy K' L' Y Z
      → FollowsBy (Through K K') (Through L L') X Z
  by_trans K L K' L' f g = record {
    back = λ m. let a = f.back m in let b = g.back a.0 in (b.0, backed_trans K K' (X m) (Y a.0) (Z b.0) a.1 b.1);
    forth = λ n. let b = g.forth n in let a = f.forth b.0 in
        (a.0, ((Y b.0).shown, a.1, b.1), reached_trans K K' (X a.0) (Y b.0) (Z n) a.2 b.2);
  }

module _ {A B V : Type 0} (X : Run A V) (Y : Run B V) where
  reached_plain : (K : A → B → Type 0) (x : Moment A V) (y : Moment B V) → Reached K x y
      → IsExhausted x ⊎ (IsPrefix y.output x.output × HasVerdictOf x.ending y.ending)
  reached_plain K x y (inl e) = inl e
  reached_plain K x y (inr a) = inr (prefix_refl y.output x.output a.0.output, a.1)

  plain_of : (K L : A → B → Type 0) → FollowsBy K L X Y → Follows X Y
  plain_of K L f = record {
    back = λ m. let a = f.back m in (a.0, a.1.0.output, a.1.1);
    forth = λ n. let a = f.forth n in (a.0, reached_plain K (X a.0) (Y n) a.2);
  }

  not_wrong : Follows X Y → NeverWrong X
  not_wrong f m e = let a = f.back m in subst (λ o. EndsAs o (Y a.0).ending) e a.2

  agrees_weaken : (K K' : A → B → Type 0) → ((a : A) (b : B) → K a b → K' a b) → (x : Moment A V) (y : Moment B V)
      → Agrees K x y → Agrees K' x y
  agrees_weaken K K' w x y a = record { output = a.output; shown = w x.shown y.shown a.shown }

  reached_weaken : (K K' : A → B → Type 0) → ((a : A) (b : B) → K a b → K' a b) → (x : Moment A V) (y : Moment B V)
      → Reached K x y → Reached K' x y
  reached_weaken K K' w x y (inl e) = inl e
  reached_weaken K K' w x y (inr a) = inr (agrees_weaken K K' w x y a.0, a.1)

  by_weaken : (K K' L L' : A → B → Type 0) → ((a : A) (b : B) → K a b → K' a b) → ((a : A) (b : B) → L a b → L' a b)
      → FollowsBy K L X Y → FollowsBy K' L' X Y
  by_weaken K K' L L' w v f = record {
    back = λ m. let a = f.back m in (a.0, (agrees_weaken K K' w (X m) (Y a.0) a.1.0, a.1.1));
    forth = λ n. let a = f.forth n in (a.0, v (X a.0).shown (Y n).shown a.1, reached_weaken K K' w (X a.0) (Y n) a.2);
  }

-- ---- the laws, with the runs and relations found from what they are used at

-- following is transitive
pub follows_is_transitive : {A B C V : Type 0} {X : Run A V} {Y : Run B V} {Z : Run C V} → Follows X Y → Follows Y Z
    → Follows X Z
follows_is_transitive {X = X} {Y = Y} {Z = Z} f g = plain_trans X Y Z f g

-- following by relations is transitive, with the relations joined
pub follows_by_trans : {A B C V : Type 0} {X : Run A V} {Y : Run B V} {Z : Run C V} {K L : A → B → Type 0}
    {K' L' : B → C → Type 0} → FollowsBy K L X Y → FollowsBy K' L' Y Z → FollowsBy (Through K K') (Through L L') X Z
follows_by_trans {X = X} {Y = Y} {Z = Z} {K = K} {L = L} {K' = K'} {L' = L'} f g = by_trans X Y Z K L K' L' f g

-- a run that follows by relations follows
pub follows_of : {A B V : Type 0} {X : Run A V} {Y : Run B V} {K L : A → B → Type 0} → FollowsBy K L X Y → Follows X Y
follows_of {X = X} {Y = Y} {K = K} {L = L} f = plain_of X Y K L f

-- a run that follows another never goes wrong
pub follower_never_goes_wrong : {A B V : Type 0} {X : Run A V} {Y : Run B V} → Follows X Y → NeverWrong X
follower_never_goes_wrong {X = X} {Y = Y} f = not_wrong X Y f

-- a run that follows one that stays ended gives no answer but its answer
pub follower_gives_same_answer : {A B V : Type 0} {X : Run A V} {Y : Run B V} → Follows X Y → StaysEnded Y
    → SameAnswer X Y
follower_gives_same_answer {X = X} {Y = Y} f stays m n v e ex ey = together (f.back m)
  where
    same_moment : (k : ℕ) → (Y k).ending ≡ Some (Verdict v) → (k < n ⊎ n ≤ k) → Y n ≡ Y k
    same_moment k h (inl le) = stays k n (Verdict v) (omega arith) h
    same_moment k h (inr le) = sym (stays n k e le ey)

    together : (k : ℕ) × ((X m).output ≡ (Y k).output) × EndsAs (X m).ending (Y k).ending
        → (e ≡ Verdict v) × ((X m).output ≡ (Y n).output)
    together (k, out, end) =
        let so : (Y k).ending ≡ Some (Verdict v) = subst (λ o. EndsAs o (Y k).ending) ex end in
        let same = same_moment k so (cases_lt k n) in
        (some_injective (sym ey ∙ ap (λ y. y.ending) same ∙ so), out ∙ sym (ap (λ y. y.output) same))

-- ---- a run that never runs out is followed back

swapped_back : {V : Type 0} (a b : Option (Ending V)) → a ≢ Some Exhausted → HasVerdictOf a b → EndsAs b a
swapped_back a None ne h = tt
swapped_back a (Some (Verdict v)) ne h = h
swapped_back a (Some Exhausted) ne h = tt
swapped_back a (Some Wrong) ne h = absurd h

swapped_forth : {V : Type 0} (a b : Option (Ending V)) → a ≢ Some Exhausted → EndsAs a b → HasVerdictOf b a
swapped_forth None b ne h = tt
swapped_forth (Some (Verdict v)) b ne h = h
swapped_forth (Some Exhausted) b ne h = absurd (ne refl)
swapped_forth (Some Wrong) b ne h = absurd h

module _ {A B V : Type 0} (X : Run A V) (Y : Run B V) (K L : A → B → Type 0) (never : NeverExhausted X) where
  back_from : (m n : ℕ) → Reached K (X n) (Y m) → ((Y m).output ≡ (X n).output) × EndsAs (Y m).ending (X n).ending
  back_from m n (inl e) = absurd (never n e)
  back_from m n (inr r) = (sym r.0.output, swapped_back (X n).ending (Y m).ending (never n) r.1)

  swapped : FollowsBy K L X Y → Follows Y X
  swapped f = record {
    back = λ m. let a = f.forth m in let b = back_from m a.0 a.2 in (a.0, b.0, b.1);
    forth = λ n. let a = f.back n in (
      a.0,
      inr (
        prefix_refl (X n).output (Y a.0).output (sym a.1.0.output),
        swapped_forth (X n).ending (Y a.0).ending (never n) a.1.1,
      ),
    );
  }

-- a run that follows another by relations and never runs out is followed by it
pub what_never_runs_out_is_followed_back : {A B V : Type 0} {X : Run A V} {Y : Run B V} {K L : A → B → Type 0}
    → NeverExhausted X → FollowsBy K L X Y → Follows Y X
what_never_runs_out_is_followed_back {X = X} {Y = Y} {K = K} {L = L} never f = swapped X Y K L never f

-- the relations may be weakened
pub follows_by_weaken : {A B V : Type 0} {X : Run A V} {Y : Run B V} {K L : A → B → Type 0} (K' L' : A → B → Type 0)
    → ((a : A) (b : B) → K a b → K' a b) → ((a : A) (b : B) → L a b → L' a b) → FollowsBy K L X Y → FollowsBy K' L' X Y
follows_by_weaken {X = X} {Y = Y} {K = K} {L = L} K' L' w v f = by_weaken X Y K K' L L' w v f

-- a moment that has not gone wrong is backed by an equal one, and has come to it
agrees_equal : {A V : Type 0} (x y : Moment A V) → x ≡ y → Agrees Same x y
agrees_equal x y e = record { output = ap (λ z. z.output) e; shown = ap (λ z. z.shown) e }

pub backed_equal : {A V : Type 0} (x y : Moment A V) → x.ending ≢ Some Wrong → x ≡ y → Backed Same x y
backed_equal x y nw e = (agrees_equal x y e, ends_as_equal x.ending y.ending nw (ap (λ z. z.ending) e))

pub reached_by : {A B V : Type 0} (K : A → B → Type 0) (x : Moment A V) (y : Moment B V) → Agrees K x y
    → IsExhausted x ⊎ HasVerdictOf x.ending y.ending → Reached K x y
reached_by K x y a (inl e) = inl e
reached_by K x y a (inr h) = inr (a, h)

pub reached_equal : {A V : Type 0} (x y : Moment A V) → x.ending ≢ Some Wrong → x ≡ y → Reached Same x y
reached_equal x y nw e =
    reached_by Same x y (agrees_equal x y e) (exhausted_or_equal x.ending y.ending nw (ap (λ z. z.ending) e))

-- runs with equal moments follow each other, where they never go wrong
pub follows_equal : {A V : Type 0} (X Y : Run A V) → NeverWrong X → ((n : ℕ) → X n ≡ Y n) → FollowsBy Same Same X Y
follows_equal X Y nw same = record {
  back = λ m. (m, backed_equal (X m) (Y m) (nw m) (same m));
  forth = λ n. (n, ap (λ x. x.shown) (same n), reached_equal (X n) (Y n) (nw n) (same n));
}

-- each run that never goes wrong follows itself
pub each_run_follows_itself : {A V : Type 0} (X : Run A V) → NeverWrong X → FollowsBy Same Same X X
each_run_follows_itself X nw = follows_equal X X nw (λ n. refl)

-- a run that follows with the same shown may take the place of the one that it follows, on either side
pub follows_by_before : {A B V : Type 0} {X Y : Run A V} {Z : Run B V} {K L : A → B → Type 0}
    → FollowsBy Same Same X Y → FollowsBy K L Y Z → FollowsBy K L X Z
follows_by_before {K = K} {L = L} f g =
    follows_by_weaken K L (λ a c h. subst (λ z. K z c) (sym h.1) h.2) (λ a c h. subst (λ z. L z c) (sym h.1) h.2)
    (follows_by_trans f g)

pub follows_by_behind : {A B V : Type 0} {X : Run A V} {Y Z : Run B V} {K L : A → B → Type 0} → FollowsBy K L X Y
    → FollowsBy Same Same Y Z → FollowsBy K L X Z
follows_by_behind {K = K} {L = L} f g =
    follows_by_weaken K L (λ a c h. subst (λ z. K a z) h.2 h.1) (λ a c h. subst (λ z. L a z) h.2 h.1)
    (follows_by_trans f g)

-- where what X shows has E, what Y shows has D: so X is exhausted only for a reason that Y shows
pub exhausted_back : {A B V : Type 0} {X : Run A V} {Y : Run B V} {K L : A → B → Type 0} → FollowsBy K L X Y
    → (E : A → Type 0) (D : B → Type 0) → ((a : A) (b : B) → K a b → E a → D b) → (m : ℕ) → E (X m).shown
    → (n : ℕ) × D (Y n).shown
exhausted_back {X = X} {Y = Y} f E D w m e = let a = f.back m in (a.0, w (X m).shown (Y a.0).shown a.1.0.shown e)
