-- The coercions of casts are no higher than the highest type of the table, and no type is wider than the widest.
use Rattle.std.proofs.Common.{◌≡◌, ◌⊎◌, inl, inr, ℕ, zero, suc, ◌<◌, ◌≤◌, max, List, [], ◌∷◌, length, ap, arith}
use Rattle.std.proofs.lemmas.List.{get_or_past}
use Rattle.grift_base.specs.Types.{TypeRows, DynRow, parts_of}
use Rattle.type_graph.specs.Trees.{height}
use Rattle.type_graph.specs.TypeTables.{IsOrderedTable}
use Rattle.core_calc.specs.Account.{greatest, widest}
use Rattle.coercion_norm.specs.Coercions.{kind_of, rows_of}
use Rattle.coercion_norm.specs.Heights.{AreHeights}
use Rattle.cast_modes.specs.Modes.{TypeCast}
use Rattle.coercion_norm.specs.Widths.{NoWider}
use Rattle.coercion_norm.proofs.Public.{coerce_no_higher, heights_of_a_table}
use Rattle.coer_core.specs.Programs.{tallest_of}

row_narrow : (types : TypeRows) (type : ℕ) → type < length types
    → length (parts_of (rows_of types type)) ≤ widest types
row_narrow [] type lt = absurd (omega arith)
row_narrow (row ∷ rest) zero lt = omega arith
row_narrow (row ∷ rest) (suc type) lt = let more = row_narrow rest type (omega arith) in omega (arith, more)

-- the width that the account is told is one that no type exceeds
pub no_wider : (types : TypeRows) → NoWider (max 2 (widest types)) types
no_wider types = record {
  two = omega arith;
  rows = λ type within. let few = row_narrow types type within in omega (arith, few);
}

-- the greatest of numbers is no less than each
pub as_great : (number : ℕ → ℕ) (many k : ℕ) → k < many → number k ≤ greatest number many
as_great number zero k lt = absurd (omega arith)
as_great number (suc n) k lt = by (last k n lt) (λ less. as_great number n k less)
  where
    last : (k n : ℕ) → k < suc n → (k < n) ⊎ (k ≡ n)
    last k n lt = grind arith

    by : (k < n) ⊎ (k ≡ n) → (k < n → number k ≤ greatest number n) → number k ≤ greatest number (suc n)
    by (inl less) rest = let r = rest less in omega (arith, r)
    by (inr same) rest = let e = ap number same in omega (arith, e)

module _ (types : TypeRows) (table : IsOrderedTable types) where
  abbrev heights : AreHeights (rows_of types) (height types)
  heights = heights_of_a_table types table.finite table.widths

  -- a type that isn't in the table counts as Dyn
  type_low : (type : ℕ) → height types type ≤ greatest (height types) (length types)
  type_low type = by (within_or_past type (length types))
    where
      within_or_past : (type many : ℕ) → (type < many) ⊎ (many ≤ type)
      within_or_past type many = grind arith

      by : (type < length types) ⊎ (length types ≤ type) → height types type ≤ greatest (height types) (length types)
      by (inl within) = as_great (height types) (length types) type within
      by (inr past) =
          let l = (heights type 0).0 (ap kind_of (get_or_past types type DynRow past)) in omega (arith, l)

  -- the tallest coercion is no higher than the highest type
  pub tallest_no_higher : (casts : List TypeCast)
      → tallest_of types casts ≤ greatest (height types) (length types)
  tallest_no_higher [] = omega arith
  tallest_no_higher (cast ∷ casts) =
      let rest = tallest_no_higher casts in
      let one = coerce_no_higher (rows_of types) (height types) heights
      (max (height types cast.from) (height types cast.to)) cast.from cast.to cast.label in
      let a = type_low cast.from in
      let b = type_low cast.to in omega (arith, rest, one, a, b)
