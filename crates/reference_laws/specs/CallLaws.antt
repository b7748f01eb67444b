-- What a call of a function with a proxy comes to.
use Rattle.std.specs.Prelude.{◌≡◌, ℕ, ◌+◌, ◌*◌, ◌<◌, ◌≤◌, ◌==◌, false, List, [], ◌∷◌, ◌++◌, Some, suc}
use Rattle.grift_base.specs.Types.{TypeHead}
use Rattle.run_laws.specs.Runs.{Ending}
use Rattle.run_laws.specs.Machines.{Reaches}
use Rattle.machine_words.specs.Halts.{Halt}
use Rattle.low_ir.specs.declared.code.LowSource.{LowSource}
use Rattle.low_ir.specs.declared.code.LowSource.TheVariants.{Word}
use Rattle.low_ir.specs.Procedures.{Code, CallAt, TailCall, Proc}
use Rattle.low_ir.specs.Prices.{CostsAtMost}
use Rattle.low_ir.specs.Run.{Setting, Waiting, LowState, word_of, words_of, with_local, low_machine, entered}
use Rattle.coercion_norm.specs.Coercions.{Coercion}
use Rattle.coercion_norm.specs.Objects.{Object}
use Rattle.coercion_norm.specs.Held.{Layout, Held}
use Rattle.rt_cast.specs.Costs.{cast_cost}
use Rattle.rt_cast.specs.LightCasts.{cast_words_of, cast_price_of}
use Rattle.rt_cast.specs.ComposeCodes.{cast}
use Rattle.rt_cast.specs.States.{Grows, Fine, OnTheWay, Within, around, heap_of}
use Rattle.rt_cast.specs.MergedValues.{Merged, Outcome, Stuck, Gives, Blames, cast_value}
use Rattle.rt_cast.specs.Carried.{AreCarried, IsLow, BlamesAt, ComesTo}

-- From a state the run comes to where Q holds, within so many steps, in the room of the active procedure's frame and of
-- so many above it, for so many words and at this price, or the region is exhausted before.
abbrev pub Stretch : {V : Type 0} → (Halt → Ending V) → Setting → Layout → LowState → ℕ → ℕ → ℕ → ℕ
    → (LowState → Type 0) → Type 0
Stretch reading setting l t most frames words price Q =
    (k : ℕ) × (k ≤ most)
    × Reaches (low_machine reading setting) (OnTheWay setting l t frames words) (λ u. Within t frames words u × Q u) k t
    × CostsAtMost reading setting k t price

-- what is claimed of an outcome, by the value that it gives or the label that it blames
abbrev pub where_comes : {A : Type 0} → Outcome A → (Merged A → Type 0) → (ℕ → Type 0) → Type 0
where_comes Stuck gives blames = ⊥
where_comes (Gives v) gives blames = gives v
where_comes (Blames label) gives blames = blames label

-- a procedure waits for what a function gives, and then casts it by this coercion; it has 24 words at most
pub record Resumes (l : Layout) (first : ℕ) (objects : List Object) (w : Waiting) (c : Coercion) : Type 0 where
  pub place : ℕ
  pub word : ℕ
  pub code : w.rest.code ≡ TailCall (cast first) (Word w.answer ∷ Word place ∷ [])
  pub other : (place == w.answer) ≡ false
  pub is : w.rest.locals place ≡ Some word
  pub held : Held l objects c word
  pub low : IsLow l c
  pub room : w.answer < w.rest.count
  pub small : w.rest.count ≤ 24

module _ (l : Layout) (setting : Setting) (first : ℕ) (s : LowState) {A : Type 0}
    (IsHeld : List Object → A → ℕ → Type 0) (objects : List Object) where
  -- a function without proxy is about to be entered with these values, and one procedure more waits, which casts what
  -- it gives
  pub record CallsAt (f : A) (address : ℕ) (values : List (Merged A)) (result : Coercion) (t : LowState) : Type 0 where
    pub new : List Object
    pub grows : Grows objects new
    pub fine : Fine setting l (around s) new (heap_of t)
    pub own : ℕ
    pub words : List ℕ
    pub function : IsHeld new f own
    pub arguments : AreCarried l IsHeld new values words
    pub d : ℕ
    pub at : LowSource
    pub sources : List LowSource
    pub rest : Code
    pub is : t.active.code ≡ CallAt d at sources rest
    pub enters : word_of t.active.locals at ≡ Some address
    pub handed : words_of t.active.locals sources ≡ Some (own ∷ words)
    pub resumes : Resumes l first new (record { rest = record t.active { code = rest }; answer = d }) result
    pub waits : t.waiting ≡ s.waiting
    pub same : t.world ≡ s.world

  -- at an argument, or behind the last: nothing that was there has changed, and the same procedures wait
  pub record AtArgument (t : LowState) : Type 0 where
    pub new : List Object
    pub fine : Fine setting l (around s) new (heap_of t)
    pub waits : t.waiting ≡ s.waiting
    pub same : t.world ≡ s.world

  module _ {V : Type 0} (reading : Halt → Ending V) (heads : ℕ → A → TypeHead) (f : A) (address : ℕ)
      (result : Coercion) where
    -- From here on each argument that is left is cast, from a place on, and then the function is called with these
    -- behind those that are cast; or a label is blamed. Each cast asks for its own words, at its price and 52, and the
    -- call that follows asks for none, at 17. A cast that comes to nothing isn't spoken of.
    abbrev pub CastInTurn : ℕ → List Coercion → List (Merged A) → List (Merged A) → LowState → Type 0
    CastInTurn k [] [] done t =
        AtArgument t × Stretch reading setting l t 2 (4 * l.tallest + 7) 0 17 (CallsAt f address done result)
    CastInTurn k [] (u ∷ us) done t = Unit {0}
    CastInTurn k (d ∷ ds) [] done t = Unit {0}
    CastInTurn k (d ∷ ds) (u ∷ us) done t =
        AtArgument t
        × ((cast_value (heads k) l.types d u ≡ Stuck → ⊥)
        → Stretch reading setting l t (cast_cost l.width l.tallest + 4) (4 * l.tallest + 7) (cast_words_of l d u)
        (52 + cast_price_of l d u)
        (λ x. where_comes (cast_value (heads k) l.types d u) (λ v. CastInTurn (suc k) ds us (done ++ v ∷ []) x)
        (λ label. BlamesAt l setting s IsHeld objects label x)))

-- Entered with these words the procedure finds the function, the proxy's coercion and the code address in three steps,
-- and from there on the arguments are cast, one after another.
abbrev pub ComesToCall : {V A : Type 0} → (Halt → Ending V) → Setting → Layout → ℕ → LowState
    → (List Object → A → ℕ → Type 0) → List Object → (ℕ → A → TypeHead) → Proc → List ℕ → A → ℕ → Coercion
    → List Coercion → List (Merged A) → Type 0
ComesToCall reading setting l first s IsHeld objects heads p given f address result cs us =
    Stretch reading setting l (entered s p given) 3 (4 * l.tallest + 7) 0 9
    (CastInTurn l setting first s IsHeld objects reading heads f address result 0 cs us [])

-- a word is the answer that a procedure waits for: it goes on with it, and comes to the outcome of a cast within so
-- many steps, for so many words and at this price, or the region is exhausted before
abbrev pub GoesOnTo : {V A : Type 0} → (Halt → Ending V) → Setting → Layout → LowState
    → (List Object → A → ℕ → Type 0) → List Object → Waiting → ℕ → Outcome A → ℕ → ℕ → ℕ → ℕ → Type 0
GoesOnTo reading setting l s IsHeld objects w word outcome most frames words price =
    (k : ℕ) × (k ≤ most)
    × Reaches (low_machine reading setting) (OnTheWay setting l s frames words)
    (λ t. Within s frames words t × ComesTo l setting s IsHeld objects outcome t) k
    (record s { active = with_local w.answer word w.rest })
    × CostsAtMost reading setting k (record s { active = with_local w.answer word w.rest }) price
