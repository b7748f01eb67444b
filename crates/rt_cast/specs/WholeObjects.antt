-- Lists of whole objects: each says of objects before it what its kind asks for, no proxy stands on a proxy, and no
-- proxy's coercion, and no type that a value in Dyn keeps, is higher than the tallest.
use Rattle.std.specs.Prelude.{max, ◌≡◌, ℕ, suc, ◌+◌, ◌*◌, ◌<◌, ◌≤◌, true, List, [], ◌∷◌, ◌++◌, length}
use Rattle.coercion_norm.specs.declared.middles.MiddleKind.{MiddleKind as Kind}
use Rattle.object_layout.specs.declared.kinds.Kind.{Kind as ObjectKind}
use Rattle.object_layout.specs.declared.kinds.Kind.TheVariants.{Proxy, Dyn, Fail, Inject, Project}
use Rattle.object_layout.specs.Kinds.{kind_number as number_of, is_free, is_coercion, allows_count}
use Rattle.coercion_norm.specs.Objects.{Object, Fixed, header_of, bytes_of}
use Rattle.coercion_norm.specs.Held.{Layout, There, HoldsType, height_in, HasWidth}
use Rattle.coercion_norm.specs.ObjectsOfRows.{header, kind_number}

module _ (l : Layout) (objects : List Object) where
  -- a closure, a tuple, a box or a vector
  pub record IsSolid (w : ℕ) : Type 0 where
    pub object : Object
    pub there : There l objects w object
    pub kind : ObjectKind
    pub count : ℕ
    pub head : header_of object ≡ header (number_of kind) 0 count
    pub free : is_free kind ≡ true

  -- the word is 0, or a coercion's of this height
  pub data CoercionWord (w y : ℕ) : Type 0 where
    IdWord : w ≡ 0 → y ≡ 0 → CoercionWord w y
    ObjectWord : (kind : ObjectKind) (count : ℕ) (ws : List ℕ)
        → There l objects w (Fixed (header (number_of kind) y count) ws) → is_coercion kind ≡ true → y < 65536
        → CoercionWord w y

  -- these words are coercions', the highest of this height
  abbrev pub Highest : List ℕ → ℕ → Type 0
  Highest [] y = y ≡ 0
  Highest (w ∷ ws) y = (a b : ℕ) × CoercionWord w a × Highest ws b × (y ≡ max a b)

  -- an object whose words are those of objects before it, as its kind asks for
  pub data IsWhole (o : Object) : Type 0 where
    WholeFail : (label : ℕ) → o ≡ Fixed (header (number_of Fail) 0 1) (label ∷ []) → IsWhole o
    WholeMiddle : (kind : Kind) (y : ℕ) (ws : List ℕ)
        → o ≡ Fixed (header (kind_number kind) (suc y) (length ws)) ws → HasWidth l kind (length ws) → suc y < 65536
        → Highest ws y → IsWhole o
    WholeInject : (wg wt y type : ℕ) → o ≡ Fixed (header (number_of Inject) (max y (height_in l type)) 2) (wg ∷ wt ∷ [])
        → CoercionWord wg y → HoldsType l objects wt type → IsWhole o
    WholeProject : (wt label wi y type : ℕ)
        → o ≡ Fixed (header (number_of Project) (max (height_in l type) y) 3) (wt ∷ label ∷ wi ∷ [])
        → HoldsType l objects wt type → CoercionWord wi y → IsWhole o
    -- a proxy of what is no proxy, with a middle
    WholeProxy : (wa wc : ℕ) (kind : Kind) (y : ℕ) (ws : List ℕ)
        → o ≡ Fixed (header (number_of Proxy) 0 2) (wa ∷ wc ∷ []) → IsSolid wa
        → There l objects wc (Fixed (header (kind_number kind) y (length ws)) ws) → y ≤ l.tallest → IsWhole o
    -- a value in Dyn, with the type that it keeps, no higher than the tallest
    WholeDyn : (wt wx type : ℕ) → o ≡ Fixed (header (number_of Dyn) 0 2) (wt ∷ wx ∷ []) → HoldsType l objects wt type
        → height_in l type ≤ l.tallest → IsWhole o
    -- closures, tuples, boxes and vectors
    WholeOther : (kind : ObjectKind) (count : ℕ) → header_of o ≡ header (number_of kind) 0 count
        → bytes_of o ≡ 8 + 8 * count → is_free kind ≡ true → allows_count kind count ≡ true → IsWhole o

-- each of these objects, which stand behind others
abbrev pub Wholes : Layout → List Object → List Object → Type 0
Wholes l before [] = Unit {0}
Wholes l before (o ∷ os) = IsWhole l before o × Wholes l (before ++ o ∷ []) os
