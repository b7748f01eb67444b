-- What a part of a tuple and of a value in Dyn asks for and costs: what the cast does that is made of the part, if one
-- is, and what is the procedure's own.
use Rattle.std.specs.Prelude.{ℕ, ◌+◌, pos, List, Option, Some, slice_get}
use Rattle.coercion_norm.specs.Coercions.{Coercion}
use Rattle.coercion_norm.specs.Held.{Layout}
use Rattle.coercion_norm.specs.MergedMode.{tuple_coercion}
use Rattle.rt_cast.specs.LightCasts.{cast_words_of, cast_price_of}
use Rattle.rt_cast.specs.MergedValues.{Merged, Base, Solid, Proxied, InDyn}

-- a number that is told of a coercion and a value, 0 where one of them isn't there
abbrev pub of_cast : {A : Type 0} → (Coercion → Merged A → ℕ) → Option Coercion → Option (Merged A) → ℕ
of_cast number (Some c) (Some u) = number c u
of_cast number _ _ = 0

-- told the parts of each tuple
module _ {A : Type 0} (parts : A → List (Merged A)) where
  -- a number that is told of the cast of a part of a tuple, 0 where none is made
  abbrev pub of_part : (Coercion → Merged A → ℕ) → ℕ → Merged A → ℕ
  of_part number k (Base head x) = 0
  of_part number k (Solid a) = 0
  of_part number k (Proxied a c) = of_cast number (tuple_coercion c (pos k)) (slice_get (parts a) k)
  of_part number k (InDyn kept u) = 0

  abbrev pub tuple_part_words : Layout → ℕ → Merged A → ℕ
  tuple_part_words l k u = of_part (cast_words_of l) k u

  abbrev pub tuple_part_price : Layout → ℕ → Merged A → ℕ
  tuple_part_price l k u = of_part (cast_price_of l) k u + 97

  -- the value in Dyn that is made of the part has three words
  abbrev pub dyn_part_words : Layout → ℕ → Merged A → ℕ
  dyn_part_words l k (Base head x) = 0
  dyn_part_words l k (Solid a) = 0
  dyn_part_words l k (Proxied a c) = 0
  dyn_part_words l k (InDyn kept u) = of_part (cast_words_of l) k u + 3

  abbrev pub dyn_part_price : Layout → ℕ → Merged A → ℕ
  dyn_part_price l k (Base head x) = 0
  dyn_part_price l k (Solid a) = 0
  dyn_part_price l k (Proxied a c) = 0
  dyn_part_price l k (InDyn kept u) = of_part (cast_price_of l) k u + 337
