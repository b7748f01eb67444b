-- The turns that the merged mode makes for a cast, decision after decision, and whether one of them is heavy: it wraps,
-- wraps anew or unwraps, or opens a value in Dyn whose kept type has parts and the head that is wanted.
use Rattle.std.specs.Prelude.{ℕ, zero, suc, Bool, true, false, ◌&&◌, ◌||◌, not}
use Rattle.grift_base.specs.Types.{TypeHead, TypeRow, TypeRows, same_head}
use Rattle.coercion_norm.specs.Coercions.{Coercion, Project, kind_of, rows_of}
use Rattle.coercion_norm.specs.CoercionTables.{cast_of, composition_of}
use Rattle.cast_modes.specs.Modes.{Decision, Wrapping, Rewrapping, Unwrapping, Opening, Making}
use Rattle.coercion_norm.specs.MergedMode.{applied}
use Rattle.rt_cast.specs.LightCasts.{has_none}
use Rattle.rt_cast.specs.MergedValues.{Merged, InDyn, shape_of}

-- the kept type has parts, and the wanted one its head
abbrev pub opens_parts : (ℕ → TypeRow) → ℕ → ℕ → Bool
opens_parts rows kept wanted = same_head (rows kept) (rows wanted) && not (has_none (kind_of (rows kept)))

abbrev pub opens_heavily : {A : Type 0} → (ℕ → TypeRow) → Coercion → Merged A → Bool
opens_heavily rows (Project wanted label i) (InDyn kept u) = opens_parts rows kept wanted
opens_heavily rows _ _ = false

-- the turn of a coercion at a value, by what is decided
abbrev pub is_heavy : {A : Type 0} → (ℕ → TypeRow) → Coercion → Merged A → Decision Coercion → Bool
is_heavy rows c u (Wrapping d) = true
is_heavy rows c u (Rewrapping d) = true
is_heavy rows c u Unwrapping = true
is_heavy rows c u (Opening d) = opens_heavily rows c u
is_heavy rows c u _ = false

-- the turns that follow: of what is in Dyn, or of the first of two casts
abbrev pub goes_on_heavily : {A : Type 0} → (Coercion → Merged A → Bool) → Decision Coercion → Merged A → Bool
goes_on_heavily next (Opening c) (InDyn kept u) = next c u
goes_on_heavily next (Making c d) u = next c u
goes_on_heavily next _ u = false

module _ {A : Type 0} (head : A → TypeHead) (types : TypeRows) where
  abbrev pub turns_heavily : ℕ → Coercion → Merged A → Bool
  turns_heavily zero c u = false
  turns_heavily (suc depth) c u =
      is_heavy (rows_of types) c u
      (applied (cast_of types) (composition_of types) types c (shape_of head u))
      || goes_on_heavily (turns_heavily depth)
      (applied (cast_of types) (composition_of types) types c (shape_of head u)) u

  -- the turns of a cast, three at most one inside the other
  abbrev pub has_heavy_turn : Coercion → Merged A → Bool
  has_heavy_turn c u = turns_heavily 3 c u
