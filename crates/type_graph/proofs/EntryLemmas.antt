-- The entries of a map of rows, seen as a table of types: which are found, and what they are once a row was put in.
use Rattle.std.proofs.Common.{◌≡◌, ℕ, ◌<◌, false, List, [], ◌∷◌, ◌++◌, length, Some, sym, ap, ◌∙◌, subst}
use Rattle.std.proofs.Common.{slice_get, position}
use Rattle.std.specs.Prelude.{Contains, is_some}
use Rattle.std.specs.Map.{keys_of, values_of, lookup}
use Rattle.grift_base.specs.Types.{TypeRows, parts_of}
use Rattle.grift_base.specs.declared.places.TheConstants.{MOST_ENTRIES}
use Rattle.indexmap.specs.IndexMap.{insert_entry}
use Rattle.type_graph.specs.Rows.{row_of}
use Rattle.type_graph.specs.TypeTables.{FitsTable, IsMeasureOfParts, IsKept}
use Rattle.type_graph.specs.declared.rows.Row.{Row}
use Rattle.type_graph.specs.declared.tables.Measure.{Measure}
use Rattle.type_graph.specs.contracts.rows.RowPartialEq.TheImpl.{ghosts}
use Rattle.type_graph.proofs.RowLemmas.{same_row, row_of-injective}
use Rattle.type_graph.proofs.InternLemmas.{IsKept-push}
use Rattle.type_graph.proofs.MapEntries.{seen_keys, length-seen_keys, length-values_of, seen_keys-push, values_of-push}
use Rattle.type_graph.proofs.MapEntries.{insert_entry-absent, found_key, absent_key}

-- the rows of entries, as a table
abbrev pub table_of : List (Row × Measure) → TypeRows
table_of es = seen_keys row_of es

-- a row that is looked up stands at the place that is found
pub row_found : (es : List (Row × Measure)) (row : Row) (i : ℕ) → Some i ≡ position (ghosts.eq row) (keys_of es) →
    slice_get (table_of es) i ≡ Some (row_of row)
row_found = found_key same_row row_of row_of-injective

-- and isn't there where none is found
pub row_absent : (es : List (Row × Measure)) (row : Row) → is_some (lookup (ghosts.eq row) es) ≡ false →
    ¬ Contains (table_of es) (row_of row)
row_absent = absent_key same_row row_of row_of-injective

module _ (es new : List (Row × Measure)) (row : Row) (m : Measure) (old : TypeRows) (seen : table_of es ≡ old)
    (absent : ¬ Contains old (row_of row)) (inserted : new ≡ insert_entry ghosts.eq es row m) where
  goes_last : new ≡ es ++ (row, m) ∷ []
  goes_last =
      inserted
      ∙ insert_entry-absent same_row row_of row_of-injective es row m
      (subst (λ (t : TypeRows). ¬ Contains t (row_of row)) (sym seen) absent)

  -- the table then
  pub table_then : table_of new ≡ old ++ row_of row ∷ []
  table_then = ap table_of goes_last ∙ seen_keys-push row_of es row m ∙ ap (λ t. t ++ row_of row ∷ []) seen

  -- it keeps what a table keeps
  pub kept_then : IsKept (table_of es) (values_of es) → FitsTable old (row_of row) → length old < MOST_ENTRIES →
      IsMeasureOfParts old (parts_of (row_of row)) m → IsKept (table_of new) (values_of new)
  kept_then kept fits room measure =
      let lengths : length (values_of es) ≡ length (table_of es) = length-values_of es ∙ sym
      (length-seen_keys row_of es) in
      let fits_here : FitsTable (table_of es) (row_of row) =
      subst (λ (t : TypeRows). FitsTable t (row_of row)) (sym seen) fits in
      let room_here : length (table_of es) < MOST_ENTRIES =
      subst (λ (t : TypeRows). length t < MOST_ENTRIES) (sym seen) room in
      let measure_here : IsMeasureOfParts (table_of es) (parts_of (row_of row)) m =
      subst (λ (t : TypeRows). IsMeasureOfParts t (parts_of (row_of row)) m) (sym seen) measure in
      let pushed = IsKept-push (table_of es) (row_of row) fits_here kept.finite (values_of es) m lengths kept
      room_here measure_here in
      subst (λ (l : List (Row × Measure)). IsKept (table_of l) (values_of l)) (sym goes_last)
      (subst (λ (t : TypeRows). IsKept t (values_of (es ++ (row, m) ∷ []))) (sym (seen_keys-push row_of es row m))
      (subst (λ (v : List Measure). IsKept (table_of es ++ row_of row ∷ []) v) (sym (values_of-push es row m)) pushed))
