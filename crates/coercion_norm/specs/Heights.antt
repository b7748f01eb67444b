-- Heights, said as bounds: "no higher than".
use Rattle.std.specs.Prelude.{◌≡◌, ◌↔◌, ◌≤◌, ℕ, zero, suc, max, None, All}
use Rattle.grift_base.specs.Types.{TypeRow, parts_of}
use Rattle.coercion_norm.specs.Coercions.{Coercion, Coercions, Id, Fail, Middle, Inject, Project, NoCoercions}
use Rattle.coercion_norm.specs.Coercions.{CoercionThen, kind_of}

module _ (rows : ℕ → TypeRow) where
  -- the type is no higher than the number: Int, Bool, Unit and Dyn have height 0, every other type is one higher than
  -- its highest part
  abbrev pub TypeNoHigher : ℕ → ℕ → Type 0
  TypeNoHigher zero type = kind_of (rows type) ≡ None
  TypeNoHigher (suc n) type = All (TypeNoHigher n) (parts_of (rows type))

  abbrev mutual
    pub NoHigher : Coercion → ℕ → Type 0
    NoHigher Id n = Unit {0}
    NoHigher (Fail label) n = Unit {0}
    NoHigher (Middle kind parts) zero = ⊥
    NoHigher (Middle kind parts) (suc n) = AllNoHigher parts n
    NoHigher (Inject g kept) n = NoHigher g n × TypeNoHigher n kept
    NoHigher (Project wanted label i) n = TypeNoHigher n wanted × NoHigher i n

    pub AllNoHigher : Coercions → ℕ → Type 0
    AllNoHigher NoCoercions n = Unit {0}
    AllNoHigher (CoercionThen c rest) n = NoHigher c n × AllNoHigher rest n

-- ---- heights as numbers, over the heights of the types

module _ (type_height : ℕ → ℕ) where
  abbrev mutual
    pub coercion_height : Coercion → ℕ
    coercion_height Id = 0
    coercion_height (Fail label) = 0
    coercion_height (Middle kind parts) = suc (highest parts)
    coercion_height (Inject g kept) = max (coercion_height g) (type_height kept)
    coercion_height (Project wanted label i) = max (type_height wanted) (coercion_height i)

    pub highest : Coercions → ℕ
    highest NoCoercions = 0
    highest (CoercionThen c rest) = max (coercion_height c) (highest rest)

-- these numbers are the heights of these types
abbrev pub AreHeights : (ℕ → TypeRow) → (ℕ → ℕ) → Type 0
AreHeights rows type_height = (type n : ℕ) → TypeNoHigher rows n type ↔ type_height type ≤ n
