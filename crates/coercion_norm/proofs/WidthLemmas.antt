-- The coercion of a cast has no more parts than types have, and what words hold doesn't depend on what width is told.
use Rattle.std.proofs.Common.{◌≡◌, ◌⊎◌, inl, inr, ℕ, zero, suc, ◌<◌, ◌≤◌, Bool, true, false, cond, Option, Some}
use Rattle.std.proofs.Common.{None, refl, sym, ap, subst, arith, List, [], ◌∷◌, length, nat_eq}
use Rattle.std.proofs.lemmas.List.{get_or_past}
use Rattle.grift_base.specs.Types.{TypeRow, TypeRows, IntRow, BoolRow, UnitRow, DynRow, FunRow, TupleRow, RefRow}
use Rattle.grift_base.specs.Types.{VectRow, is_dyn, same_head, parts_of}
use Rattle.coercion_norm.specs.Coercions.{Kind, Coercion, Coercions, Id, Fail, Middle, Inject, Project, NoCoercions}
use Rattle.coercion_norm.specs.Coercions.{CoercionThen, all_id, kind_of, rows_of, runs_back, slot, slots, slots_of}
use Rattle.coercion_norm.specs.CoercionTables.{cast_of}
use Rattle.coercion_norm.specs.Composition.{coerce_below, coerce_by, coerce_middle, coerce_part, coerce_parts}
use Rattle.coercion_norm.specs.Composition.{coerce_to}
use Rattle.coercion_norm.specs.Held.{AreHeld, Held, Layout, TypesStand}
use Rattle.coercion_norm.specs.Objects.{Object}
use Rattle.coercion_norm.specs.StandsFor.{is_none_left}
use Rattle.coercion_norm.specs.StaticObjects.{count_of}
use Rattle.coercion_norm.specs.Widths.{AllNoWider, CoercionNoWider, NoWider}

-- ---- types

slots_few : (width : ℕ) (row : TypeRow) → 2 ≤ width → length (parts_of row) ≤ width → length (slots_of row) ≤ width
slots_few width IntRow two few = omega arith
slots_few width BoolRow two few = omega arith
slots_few width UnitRow two few = omega arith
slots_few width DynRow two few = omega arith
slots_few width (FunRow parameters answer) two few = few
slots_few width (TupleRow parts) two few = few
slots_few width (RefRow content) two few = two
slots_few width (VectRow content) two few = two

within_or_past : (type many : ℕ) → (type < many) ⊎ (many ≤ type)
within_or_past type many = grind arith

module _ (width : ℕ) (types : TypeRows) (wide : NoWider width types) where
  pub type_slots_few : (type : ℕ) → slots (rows_of types) type ≤ width
  type_slots_few type = elim (within_or_past type (length types)) [
    | inl within ↦ slots_few width (rows_of types type) wide.two (wide.rows type within)
    | inr past ↦ subst (λ row. length (slots_of row) ≤ width) (sym (get_or_past types type DynRow past)) (omega arith)
  ]

  -- ---- coercions of casts

  by_test : (b : Bool) (c d : Coercion) → CoercionNoWider width c → CoercionNoWider width d
      → CoercionNoWider width (cond b c d)
  by_test true c d one other = one
  by_test false c d one other = other

  module _ (next : ℕ → ℕ → ℕ → Coercion) (all : (from to label : ℕ) → CoercionNoWider width (next from to label))
    where
      part_narrow : (back : Bool) (from to label : ℕ)
          → CoercionNoWider width (coerce_part (rows_of types) next back from to label)
      part_narrow true from to label = all to from label
      part_narrow false from to label = all from to label

      parts_narrow : (kind : Kind) (from to label n j : ℕ)
          → AllNoWider width (coerce_parts (rows_of types) next kind from to label n j)
      parts_narrow kind from to label zero j = tt
      parts_narrow kind from to label (suc n) j = (
        part_narrow (runs_back kind (is_none_left n)) (slot (rows_of types) j from) (slot (rows_of types) j to) label,
        parts_narrow kind from to label n (suc j),
      )

      as_many : (kind : Kind) (from to label n j : ℕ)
          → count_of (coerce_parts (rows_of types) next kind from to label n j) ≡ n
      as_many kind from to label zero j = refl
      as_many kind from to label (suc n) j = ap suc (as_many kind from to label n (suc j))

      middle_narrow : (o : Option Kind) (from to label : ℕ)
          → CoercionNoWider width (coerce_middle (rows_of types) next o from to label)
      middle_narrow None from to label = tt
      middle_narrow (Some kind) from to label =
          let n : ℕ = slots (rows_of types) from in
          let parts : Coercions = coerce_parts (rows_of types) next kind from to label n 0 in
          by_test (all_id parts) Id (Middle kind parts) tt (
            subst (λ many. many ≤ width) (sym (as_many kind from to label n 0)) (type_slots_few from),
            parts_narrow kind from to label n 0,
          )

      by_narrow : (b1 b2 : Bool) (from to label : ℕ)
          → CoercionNoWider width (coerce_by (rows_of types) next b1 b2 from to label)
      by_narrow true true from to label = tt
      by_narrow true false from to label = tt
      by_narrow false true from to label = tt
      by_narrow false false from to label =
          by_test (nat_eq from to) Id
          (cond (same_head (rows_of types from) (rows_of types to))
          (coerce_middle (rows_of types) next (kind_of (rows_of types from)) from to label) (Fail label)) tt
          (by_test (same_head (rows_of types from) (rows_of types to))
          (coerce_middle (rows_of types) next (kind_of (rows_of types from)) from to label) (Fail label)
          (middle_narrow (kind_of (rows_of types from)) from to label) tt)

  below_narrow : (n from to label : ℕ) → CoercionNoWider width (coerce_below (rows_of types) n from to label)
  below_narrow zero from to label = tt
  below_narrow (suc n) from to label =
      by_narrow (coerce_below (rows_of types) n) (below_narrow n) (is_dyn (rows_of types from))
      (is_dyn (rows_of types to)) from to label

  pub coerce_no_wider : (n from to label : ℕ) → CoercionNoWider width (coerce_to (rows_of types) n from to label)
  coerce_no_wider n from to label =
      by_narrow (coerce_below (rows_of types) n) (below_narrow n) (is_dyn (rows_of types from))
      (is_dyn (rows_of types to)) from to label

  pub cast_no_wider : (from to label : ℕ) → CoercionNoWider width (cast_of types from to label)
  cast_no_wider from to label = coerce_no_wider _ from to label

-- ---- words

module _ (l : Layout) (width : ℕ) where
  -- the same, but told another width
  abbrev pub told_width : Layout
  told_width = record l { width = width }

  module _ (objects : List Object) where
    words_many : (parts : Coercions) (ws : List ℕ) → AreHeld l objects parts ws → length ws ≡ count_of parts
    words_many NoCoercions [] held = refl
    words_many NoCoercions (w ∷ ws) held = absurd held
    words_many (CoercionThen c rest) [] held = absurd held
    words_many (CoercionThen c rest) (w ∷ ws) held = ap suc (words_many rest ws held.1)

    mutual
      pub held_so_wide : (c : Coercion) (w : ℕ) → CoercionNoWider width c → Held l objects c w
          → Held told_width objects c w
      held_so_wide Id w few held = held
      held_so_wide (Fail label) w few held = held
      held_so_wide (Middle kind parts) w few held = (
        held.0,
        held.1,
        all_so_wide parts held.0 few.1 held.2,
        (held.3.0, subst (λ many. many ≤ width) (sym (words_many parts held.0 held.2)) few.0),
      )
      held_so_wide (Inject g kept) w few held = (
        held.0,
        held.1,
        held.2,
        held_so_wide g held.0 few held.3,
        record { known = held.4.known; is = held.4.is },
      )
      held_so_wide (Project wanted label i) w few held = (
        held.0,
        held.1,
        held.2,
        record { known = held.3.known; is = held.3.is },
        held_so_wide i held.1 few held.4,
      )

      all_so_wide : (parts : Coercions) (ws : List ℕ) → AllNoWider width parts → AreHeld l objects parts ws
          → AreHeld told_width objects parts ws
      all_so_wide NoCoercions [] few held = tt
      all_so_wide NoCoercions (w ∷ ws) few held = absurd held
      all_so_wide (CoercionThen c rest) [] few held = absurd held
      all_so_wide (CoercionThen c rest) (w ∷ ws) few held =
          (held_so_wide c w few.0 held.0, all_so_wide rest ws few.1 held.1)

  pub types_so_wide : NoWider width l.types → TypesStand l → TypesStand told_width
  types_so_wide wide stand = record {
    stands = stand.stands;
    parts = stand.parts;
    narrow = λ type within kind e. ((stand.narrow type within kind e).0, type_slots_few width l.types wide type);
    once = stand.once;
    one_dyn = stand.one_dyn;
    heights = stand.heights;
    low = stand.low;
  }
