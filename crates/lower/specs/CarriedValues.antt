-- Which word carries which value of the numbered procedures, where these objects stand. Nothing here reads memory, but
-- what is said of the cells of boxes and vectors. Objects are only added, and what is carried stays carried.
use Rattle.std.specs.Prelude.{◌≡◌, ℕ, suc, ◌+◌, ◌<◌, ◌≤◌, false, if◌then◌else◌, List, [], ◌∷◌, length}
use Rattle.std.specs.Prelude.{Some, slice_get}
use Rattle.std.specs.Int.{w64, cast_unsigned, int_wrap}
use Rattle.grift_base.specs.Types.{is_dyn}
use Rattle.machine_words.specs.Memory.{Memory}
use Rattle.cast_modes.specs.RunValues.{RunInt, RunBool, RunUnit, RunFun, RunTuple, RunLoc, RunWrap, RunInject}
use Rattle.cast_modes.specs.RunValues.{NoRunValues, RunValueThen, in_row}
use Rattle.object_layout.specs.declared.kinds.Kind.TheVariants.{Closure, Tuple, Boxed, Vector}
use Rattle.object_layout.specs.Kinds.{kind_number}
use Rattle.coercion_norm.specs.Objects.{Object, Fixed, Cell, object_at}
use Rattle.rt_cast.specs.Objects.{HoldsWords}
use Rattle.rt_cast.specs.DynWords.{IsDyn}
use Rattle.coercion_norm.specs.Held.{Layout, There, rows_in}
use Rattle.coercion_norm.specs.ObjectsOfRows.{header}
use Rattle.flat_ir.specs.Bodies.{Proc}
use Rattle.flat_ir.specs.Machine.{FlatValue, FlatValues, FlatStore}
use Rattle.lower.specs.Meanings.{Meaning}
use Rattle.lowered_code.specs.Numbering.{function_offset}

-- the procedure of the function at a place of a group, which begins with this procedure, has so many functions and has
-- captured so many names
pub record IsMember (procs : List Proc) (first count captured place : ℕ) : Type 0 where
  pub proc : Proc
  pub there : slice_get procs (first + place) ≡ Some proc
  pub place_is : proc.place ≡ place
  pub group_is : proc.group ≡ count
  pub captured_is : proc.captured ≡ captured

-- Told where statics and region are, the code address of each procedure, the numbered procedures, what the scheme
-- means, the addresses of the cells in the order of the store, and the objects of the region.
module _ (l : Layout) (address : ℕ → ℕ) (procs : List Proc) (meaning : Meaning) (places : List ℕ)
    (objects : List Object) where
  -- the functions of a group lie one behind another: the first, at this address, holds what the group has captured
  pub record IsGroup (first leader count : ℕ) (words : List ℕ) : Type 0 where
    pub members : (place : ℕ) → place < count → IsMember procs first count (length words) place
    pub leads : There l objects leader
        (Fixed (header (kind_number Closure) 0 (suc (length words))) (address first ∷ words))
    pub others : (i : ℕ) → suc i < count → There l objects (leader + function_offset (length words) (suc i))
        (Fixed (header (kind_number Closure) 0 1) (address (first + suc i) ∷ []))

  -- the word is that of what these casts wrap, the innermost first, or, where there are none, the word itself
  abbrev pub Under : List meaning.Cast → ℕ → (ℕ → Type 0) → Type 0
  Under [] w P = P w
  Under (cast ∷ casts) w P = (target : ℕ) × meaning.Wraps l objects (cast ∷ casts) target w × P target

  -- nothing wraps what stands there
  abbrev pub Bare : List meaning.Cast → ℕ → (ℕ → Type 0) → Type 0
  Bare [] w P = P w
  Bare (cast ∷ casts) w P = ⊥

  abbrev mutual
    -- the word carries the value in these wrappers, the innermost first
    pub CarriedIn : FlatValue meaning.Cast → List meaning.Cast → ℕ → Type 0
    CarriedIn (RunInt n) casts w = Bare casts w (λ x. (x ≡ cast_unsigned w64 n) × (int_wrap w64 n ≡ n))
    CarriedIn (RunBool b) casts w = Bare casts w (λ x. x ≡ (if b then 1 else 0))
    CarriedIn RunUnit casts w = Bare casts w (λ x. x ≡ 0)
    CarriedIn (RunFun code captured) casts w =
        Under casts w (λ x. (leader count : ℕ) × (words : List ℕ)
        × (x ≡ leader + function_offset (length words) code.place) × (code.place < count)
        × IsGroup code.first leader count words × AreCarried captured words)
    CarriedIn (RunTuple values) casts w =
        Under casts w (λ x. (words : List ℕ)
        × There l objects x (Fixed (header (kind_number Tuple) 0 (length words)) words)
        × AreCarried values words × (length words ≤ 8))
    CarriedIn (RunLoc cell is_vector) casts w =
        Under casts w (λ x. (count : ℕ) × (slice_get places cell ≡ Some x)
        × There l objects x (Cell (header (if is_vector then kind_number Vector else kind_number Boxed) 0 count) count)
        × (is_vector ≡ false → count ≡ 1))
    CarriedIn (RunWrap v cast) casts w = CarriedIn v (cast ∷ casts) w
    CarriedIn (RunInject v kept) casts w =
        Bare casts w (λ x. (wx : ℕ) × IsDyn l objects kept wx x × meaning.MayKeep l kept
        × (is_dyn (rows_in l kept) ≡ false) × CarriedIn v [] wx)

    pub AreCarried : FlatValues meaning.Cast → List ℕ → Type 0
    AreCarried NoRunValues [] = Unit {0}
    AreCarried NoRunValues (w ∷ ws) = ⊥
    AreCarried (RunValueThen v rest) [] = ⊥
    AreCarried (RunValueThen v rest) (w ∷ ws) = CarriedIn v [] w × AreCarried rest ws

  -- the word carries the value
  abbrev pub IsCarried : FlatValue meaning.Cast → ℕ → Type 0
  IsCarried v w = CarriedIn v [] w

  -- the cell at an address of the region holds these values
  pub record CellHeld (m : Memory) (at : ℕ) (values : List (FlatValue meaning.Cast)) : Type 0 where
    pub head : ℕ
    pub words : List ℕ
    pub is : object_at objects l.region at ≡ Some (Cell head (length words))
    pub held : HoldsWords m (at + 8) words
    pub carried : AreCarried (in_row values) words

  -- the cells at these addresses, which rise from one on, so that no two cells have the same
  abbrev pub CellsFrom : ℕ → Memory → List ℕ → FlatStore meaning.Cast → Type 0
  CellsFrom low m [] [] = Unit {0}
  CellsFrom low m [] (values ∷ store) = ⊥
  CellsFrom low m (at ∷ cells) [] = ⊥
  CellsFrom low m (at ∷ cells) (values ∷ store) =
      (low ≤ at) × CellHeld m at values × CellsFrom (suc at) m cells store

  abbrev pub CellsHeld : Memory → List ℕ → FlatStore meaning.Cast → Type 0
  CellsHeld m cells store = CellsFrom 0 m cells store
