-- Rows that are put into a table of types: it stays one, and what it had stays where it was.
use Rattle.std.proofs.Common.{◌≡◌, ℕ, ◌<◌, List, length, Option, Some, None, refl}
use Rattle.std.proofs.Common.{arith}
use Rattle.std.specs.Prelude.{All}
use Rattle.std.proofs.lemmas.List.Elements.{All-weaker}
use Rattle.grift_base.specs.Tables.{HasNoRepeats}
use Rattle.grift_base.specs.Types.{TypeRow, TypeRows, row_at, parts_of}
use Rattle.type_graph.specs.Forming.{equal_rows, place_where, at_place_or_last, intern}
use Rattle.type_graph.specs.Trees.{AreFinite}
use Rattle.type_graph.specs.TypeTables.{HasMoreRows}
use Rattle.type_graph.proofs.Public.{more_length, intern_adds, row_at-intern, place_missing, row_is_itself}
use Rattle.type_graph.proofs.Public.{HasNoRepeats-push, AreFinite-push, all_parts_within}
use Rattle.core_calc.specs.Typing.{IsTypeTable}

-- a table as it is formed: no row stands in it twice, and its types are trees
pub record IsFormedTable (types : TypeRows) : Type 0 where
  pub distinct : HasNoRepeats types
  pub finite : AreFinite types

-- the table is one of the calculus
pub type_table : (types : TypeRows) → IsFormedTable types → IsTypeTable types
type_table types table = record { distinct = table.distinct; closed = all_parts_within types table.finite }

-- each of these is the place of a row
abbrev pub AreRows : TypeRows → List ℕ → Type 0
AreRows types parts = All (λ part. part < length types) parts

pub more_parts : (a b : TypeRows) (parts : List ℕ) → HasMoreRows a b → AreRows a parts → AreRows b parts
more_parts a b parts f all =
    All-weaker (λ part. part < length a) (λ part. part < length b) (λ part h. later part h) parts all
  where
    later : (part : ℕ) → part < length a → part < length b
    later part h = let m = more_length a b f in omega arith

-- what it means that a row was put in
abbrev pub Interned : TypeRows → TypeRow → ℕ → TypeRows → Type 0
Interned old row type new = IsFormedTable new × HasMoreRows old new × (row_at new type ≡ Some row)

pub intern_keeps : (types : TypeRows) (row : TypeRow) → IsFormedTable types → AreRows types (parts_of row) →
    Interned types row (intern row types).0 (intern row types).1
intern_keeps types row table parts =
    (table_after (place_where (equal_rows row) types) refl, intern_adds row types, row_at-intern row types)
  where
    table_after : (o : Option ℕ) → place_where (equal_rows row) types ≡ o →
        IsFormedTable (at_place_or_last o row types).1
    table_after (Some k) e = table
    table_after None e = record {
      distinct = HasNoRepeats-push types row table.distinct
          (λ k f. place_missing (equal_rows row) types e k row f (row_is_itself row));
      finite = AreFinite-push types row table.finite parts;
    }
