-- The coercion of a cast, and one coercion followed by another.
use Rattle.std.specs.Prelude.{ℕ, zero, suc, nat_eq, Bool, true, false, cond, Option, Some, None}
use Rattle.grift_base.specs.Types.{TypeRow, is_dyn, same_head}
use Rattle.coercion_norm.specs.Coercions.{Kind, Coercion, Coercions, Id, Fail, Middle, Inject, Project, NoCoercions}
use Rattle.coercion_norm.specs.Coercions.{CoercionThen, is_end, all_id, same_kind, runs_back, kind_of, slot, slots}
use Rattle.coercion_norm.specs.StandsFor.{is_none_left}

-- a middle, or Id where all its parts are Id
abbrev pub middle : Kind → Coercions → Coercion
middle kind parts = cond (all_id parts) Id (Middle kind parts)

-- what may stand behind a Project; no other coercion comes there
abbrev pub final : Coercion → Coercion
final (Project wanted label i) = Id
final Id = Id
final (Fail label) = Fail label
final (Middle kind parts) = Middle kind parts
final (Inject g kept) = Inject g kept

module _ (rows : ℕ → TypeRow) where
  -- one depth of the coercion of a cast, over the coercions of the parts
  module _ (next : ℕ → ℕ → ℕ → Coercion) where
    abbrev pub coerce_part : Bool → ℕ → ℕ → ℕ → Coercion
    coerce_part true from to label = next to from label
    coerce_part false from to label = next from to label

    -- the slots from j on, of which n are left
    abbrev pub coerce_parts : Kind → ℕ → ℕ → ℕ → ℕ → ℕ → Coercions
    coerce_parts kind from to label zero j = NoCoercions
    coerce_parts kind from to label (suc n) j =
        CoercionThen (coerce_part (runs_back kind (is_none_left n)) (slot rows j from) (slot rows j to) label)
        (coerce_parts kind from to label n (suc j))

    abbrev pub coerce_middle : Option Kind → ℕ → ℕ → ℕ → Coercion
    coerce_middle None from to label = Id
    coerce_middle (Some kind) from to label = middle kind (coerce_parts kind from to label (slots rows from) 0)

    -- where neither type is Dyn
    abbrev pub coerce_solid : ℕ → ℕ → ℕ → Coercion
    coerce_solid from to label =
        cond (nat_eq from to) Id
        (cond (same_head (rows from) (rows to)) (coerce_middle (kind_of (rows from)) from to label) (Fail label))

    -- by whether the first type is Dyn and whether the second is
    abbrev pub coerce_by : Bool → Bool → ℕ → ℕ → ℕ → Coercion
    coerce_by true true from to label = Id
    coerce_by true false from to label = Project to label Id
    coerce_by false true from to label = Inject Id from
    coerce_by false false from to label = coerce_solid from to label

    abbrev pub coerce_whole : ℕ → ℕ → ℕ → Coercion
    coerce_whole from to label = coerce_by (is_dyn (rows from)) (is_dyn (rows to)) from to label

  -- the coercions of the parts, where a depth is given; at depth 0 every part counts as Id
  abbrev pub coerce_below : ℕ → ℕ → ℕ → ℕ → Coercion
  coerce_below zero from to label = Id
  coerce_below (suc n) from to label = coerce_whole (coerce_below n) from to label

  -- the coercion of a cast between types that are no higher than the number
  abbrev pub coerce_to : ℕ → ℕ → ℕ → ℕ → Coercion
  coerce_to n from to label = coerce_whole (coerce_below n) from to label

-- one depth of composition, over the composition of the parts
module _ (next : Coercion → Coercion → Coercion) where
  abbrev pub follow_part : Bool → Coercion → Coercion → Coercion
  follow_part true c d = next d c
  follow_part false c d = next c d

  abbrev pub follow_parts : Kind → Coercions → Coercions → Coercions
  follow_parts kind NoCoercions others = NoCoercions
  follow_parts kind (CoercionThen c rest) NoCoercions = NoCoercions
  follow_parts kind (CoercionThen c rest) (CoercionThen d others) =
      CoercionThen (follow_part (runs_back kind (is_end rest)) c d) (follow_parts kind rest others)

  -- what follows a middle; two pairs that are never met are answered with Id
  abbrev pub after_middle : Kind → Coercions → Coercion → Coercion
  after_middle kind parts Id = Middle kind parts
  after_middle kind parts (Fail label) = Fail label
  after_middle kind parts (Inject g kept) = Inject (after_middle kind parts g) kept
  after_middle kind parts (Middle other others) =
      cond (same_kind kind other) (middle kind (follow_parts kind parts others)) Id
  after_middle kind parts (Project wanted label i) = Id

  -- what follows Id, Fail or a middle
  abbrev pub after_inner : Coercion → Coercion → Coercion
  after_inner Id d = d
  after_inner (Fail label) d = Fail label
  after_inner (Middle kind parts) d = after_middle kind parts d
  after_inner (Inject g kept) d = Id
  after_inner (Project wanted label i) d = Id

  module _ (coerce : ℕ → ℕ → ℕ → Coercion) where
    abbrev pub after_inject : Coercion → ℕ → Coercion → Coercion
    after_inject g kept Id = Inject g kept
    after_inject g kept (Project wanted label i) = after_inner g (after_inner (coerce kept wanted label) i)
    after_inject g kept (Fail label) = Fail label
    after_inject g kept (Middle kind parts) = Id
    after_inject g kept (Inject h other) = Id

    abbrev pub follow : Coercion → Coercion → Coercion
    follow (Project wanted label i) d = Project wanted label (final (follow i d))
    follow (Inject g kept) d = after_inject g kept d
    follow Id d = d
    follow (Fail label) d = Fail label
    follow (Middle kind parts) d = after_middle kind parts d

module _ (rows : ℕ → TypeRow) where
  -- the composition of the parts
  abbrev pub compose_below : ℕ → Coercion → Coercion → Coercion
  compose_below zero c d = Id
  compose_below (suc n) c d = follow (compose_below n) (coerce_solid rows (coerce_below rows n)) c d

  -- composition of coercions that are no higher than the number
  abbrev pub compose_to : ℕ → Coercion → Coercion → Coercion
  compose_to n c d = follow (compose_below n) (coerce_solid rows (coerce_below rows n)) c d
