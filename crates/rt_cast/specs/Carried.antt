-- Which word carries which value of the merged mode, over what holds what stands under proxies; and what it is for a
-- cast to come to its outcome.
use Rattle.std.specs.Prelude.{◌≡◌, ◌⊎◌, ℕ, ◌^◌, ◌<◌, ◌≤◌, false, List, [], ◌∷◌, length, Some}
use Rattle.grift_base.specs.declared.environment.TheConstants.{BLAME_CALL}
use Rattle.grift_base.specs.Types.{is_dyn}
use Rattle.run_laws.specs.Runs.{Ending}
use Rattle.run_laws.specs.Machines.{Reaches}
use Rattle.machine_words.specs.Halts.{Halt}
use Rattle.low_ir.specs.declared.code.LowSource.{LowSource}
use Rattle.low_ir.specs.Procedures.{Code, Proc, Return, Environment}
use Rattle.low_ir.specs.Prices.{CostsAtMost}
use Rattle.low_ir.specs.Run.{Setting, LowState, word_of, low_machine, entered}
use Rattle.object_layout.specs.declared.kinds.Kind.TheVariants.{Proxy, Tuple}
use Rattle.object_layout.specs.Kinds.{kind_number}
use Rattle.coercion_norm.specs.Coercions.{Coercion}
use Rattle.coercion_norm.specs.Heights.{coercion_height}
use Rattle.coercion_norm.specs.Normal.{IsNormal}
use Rattle.coercion_norm.specs.Objects.{Object, Fixed}
use Rattle.coercion_norm.specs.Held.{Layout, There, Held, rows_in, height_in}
use Rattle.coercion_norm.specs.ObjectsOfRows.{header}
use Rattle.rt_cast.specs.DynWords.{IsDyn}
use Rattle.rt_cast.specs.WholeObjects.{IsSolid}
use Rattle.rt_cast.specs.States.{Grows, Fine, OnTheWay, Within, around, heap_of}
use Rattle.rt_cast.specs.MergedValues.{Merged, Base, Solid, Proxied, InDyn, Outcome, Stuck, Gives, Blames}

module _ (l : Layout) where
  -- in normal form, and no higher than the tallest
  pub record IsLow (c : Coercion) : Type 0 where
    pub normal : IsNormal (rows_in l) c
    pub low : coercion_height (height_in l) c ≤ l.tallest

  module _ {A : Type 0} (IsHeld : List Object → A → ℕ → Type 0) where
    -- the word carries the value
    abbrev pub CarriedBy : List Object → Merged A → ℕ → Type 0
    CarriedBy objects (Base head x) w = (w ≡ x) × (x < 2 ^ 64)
    CarriedBy objects (Solid a) w = IsHeld objects a w
    CarriedBy objects (Proxied a c) w =
        (wa wc : ℕ) × There l objects w (Fixed (header (kind_number Proxy) 0 2) (wa ∷ wc ∷ [])) × IsHeld objects a wa
        × Held l objects c wc × IsLow c
    CarriedBy objects (InDyn kept u) w =
        (wx : ℕ) × IsDyn l objects kept wx w × (height_in l kept ≤ l.tallest) × (is_dyn (rows_in l kept) ≡ false)
        × CarriedBy objects u wx

    abbrev pub AreCarried : List Object → List (Merged A) → List ℕ → Type 0
    AreCarried objects [] [] = Unit {0}
    AreCarried objects [] (w ∷ ws) = ⊥
    AreCarried objects (x ∷ xs) [] = ⊥
    AreCarried objects (x ∷ xs) (w ∷ ws) = CarriedBy objects x w × AreCarried objects xs ws

    -- a tuple of these parts stands there, unless there are none
    abbrev pub HoldsParts : List Object → List (Merged A) → ℕ → Type 0
    HoldsParts objects xs w =
        (xs ≡ [])
        ⊎ ((ws : List ℕ) × There l objects w (Fixed (header (kind_number Tuple) 0 (length ws)) ws)
        × AreCarried objects xs ws)

    -- the tuples among what is held have these parts
    abbrev pub HaveParts : List Object → (A → List (Merged A)) → Type 0
    HaveParts objects parts = (a : A) (w : ℕ) → IsHeld objects a w → HoldsParts objects (parts a) w

  -- what stands under a proxy known by its address alone: the object there, whatever it is
  pub record IsVery (objects : List Object) (a w : ℕ) : Type 0 where
    pub is : w ≡ a
    pub solid : IsSolid l objects w

  -- a word carries a value whose functions, tuples, boxes and vectors are known by their addresses
  abbrev pub Carries : List Object → Merged ℕ → ℕ → Type 0
  Carries objects u w = CarriedBy IsVery objects u w

  module _ (setting : Setting) (s : LowState) {A : Type 0} (IsHeld : List Object → A → ℕ → Type 0)
      (objects : List Object) where
    -- a return of a word that carries the value, with objects only added, and with the same procedures waiting
    pub record GivesAt (u : Merged A) (t : LowState) : Type 0 where
      pub new : List Object
      pub grows : Grows objects new
      pub fine : Fine setting l (around s) new (heap_of t)
      pub word : ℕ
      pub carried : CarriedBy IsHeld new u word
      pub source : LowSource
      pub code : t.active.code ≡ Return source
      pub is : word_of t.active.locals source ≡ Some word
      pub waits : t.waiting ≡ s.waiting
      pub same : t.world ≡ s.world

    -- the environment call that blames the label, whose words are those of the procedure that makes it
    pub record BlamesAt (label : ℕ) (t : LowState) : Type 0 where
      pub new : List Object
      pub fine : Fine setting l (around s) new (heap_of t)
      pub a : LowSource
      pub b : LowSource
      pub d : ℕ
      pub e : ℕ
      pub rest : Code
      pub code : t.active.code ≡ Environment BLAME_CALL a b d e rest
      pub is : word_of t.active.locals a ≡ Some label
      pub other : word_of t.active.locals b ≡ Some 0
      pub first : d < t.active.count
      pub second : e < t.active.count
      pub same : t.world ≡ s.world

    abbrev pub ComesTo : Outcome A → LowState → Type 0
    ComesTo Stuck t = ⊥
    ComesTo (Gives u) t = GivesAt u t
    ComesTo (Blames label) t = BlamesAt label t

-- Entered with these words the procedure comes to the outcome, within so many steps, in the room of its frame and of so
-- many above it, for so many words and at this price, or the region is exhausted before.
abbrev pub ComesToOutcome : {V A : Type 0} → (Halt → Ending V) → Setting → (l : Layout) → LowState
    → (List Object → A → ℕ → Type 0) → List Object → Proc → List ℕ → Outcome A → ℕ → ℕ → ℕ → ℕ → Type 0
ComesToOutcome reading setting l s IsHeld objects p given outcome most frames words price =
    (k : ℕ) × (k ≤ most)
    × Reaches (low_machine reading setting) (OnTheWay setting l s frames words)
    (λ t. Within s frames words t × ComesTo l setting s IsHeld objects outcome t) k (entered s p given)
    × CostsAtMost reading setting k (entered s p given) price
