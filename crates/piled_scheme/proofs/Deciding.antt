-- What known casts decide on, whatever the value.
use Rattle.std.proofs.Common.{◌≡◌, ℕ, ◌<◌, Bool, true, false, List, Some, refl, ap, ◌∙◌}
use Rattle.std.specs.Prelude.{if◌then◌else◌, not}
use Rattle.grift_base.specs.Types.{TypeRow, TypeRows, IntRow, BoolRow, UnitRow, DynRow, FunRow, TupleRow, RefRow}
use Rattle.grift_base.specs.Types.{VectRow, row_at, same_head, is_base, is_dyn}
use Rattle.cast_modes.specs.Modes.{TypeCast, type_cast, Shape, Decision, Keeping, Wrapping, Blaming, NoCast, piling}
use Rattle.cast_modes.specs.Modes.{fits}
use Rattle.piled_scheme.specs.Piling.{IsKnown, PlainType, BoxType, fate, IsPlain, IsBoxCast, most_labels}

pub plain_between : (types : TypeRows) (from to label : ℕ) (inner outer : TypeRow) → row_at types from ≡ Some inner
    → row_at types to ≡ Some outer → is_base inner ≡ true → is_base outer ≡ true → label < most_labels
    → IsPlain types (type_cast from label to) (fate inner outer label)
plain_between types from to label inner outer from_is to_is plain plain_outer small = record {
  inner = inner;
  outer = outer;
  from_is = from_is;
  to_is = to_is;
  plain = plain;
  plain_outer = plain_outer;
  part_is = refl;
  small = small;
}

abbrev pub kept_or_blamed : TypeRow → TypeRow → ℕ → Decision TypeCast
kept_or_blamed inner outer label = if same_head inner outer then Keeping else Blaming label

-- ---- types that are known are not Dyn

base_not_dyn : (row : TypeRow) → is_base row ≡ true → is_dyn row ≡ false
base_not_dyn IntRow h = refl
base_not_dyn BoolRow h = refl
base_not_dyn UnitRow h = refl
base_not_dyn DynRow h = absurd (let z : ⊥ = cc in z)
base_not_dyn (FunRow ps a) h = refl
base_not_dyn (TupleRow ps) h = refl
base_not_dyn (RefRow a) h = refl
base_not_dyn (VectRow a) h = refl

pub known_not_dyn : (types : TypeRows) (row : TypeRow) → IsKnown types row → is_dyn row ≡ false
known_not_dyn types row (PlainType r h) = base_not_dyn row h
known_not_dyn types row (BoxType content inner c h) = refl

-- ---- decisions

-- between types that aren't Dyn: blamed where the heads differ, and else kept, or wrapped where it has parts
abbrev pub by_heads : Bool → Bool → TypeCast → Decision TypeCast
by_heads same base cast = if same then (if base then Keeping else Wrapping cast) else Blaming cast.label

pub solid_decides : (types : TypeRows) (all : List TypeCast) (cast : TypeCast) (row other : TypeRow)
    → row_at types cast.from ≡ Some row → row_at types cast.to ≡ Some other → is_dyn row ≡ false
    → is_dyn other ≡ false → (shape : Shape TypeCast)
    → (piling types all).cast cast shape
    ≡ (if fits row cast shape then by_heads (same_head row other) (is_base row) cast else NoCast)
solid_decides types all cast row other e f solid solid_other shape =
    rw (e, f, solid, solid_other) (by (fits row cast shape) (same_head row other))
  where
    by : (b same : Bool)
        → (if b then (if not same then Blaming cast.label else if is_base row then Keeping else Wrapping cast) else
        NoCast)
        ≡ (if b then by_heads same (is_base row) cast else NoCast)
    by false same = refl
    by true true = refl
    by true false = refl

-- a plain value that fits is kept or blamed
pub plain_decides : (types : TypeRows) (all : List TypeCast) (cast : TypeCast) (part : ℕ)
    → (p : IsPlain types cast part) → (shape : Shape TypeCast)
    → (piling types all).cast cast shape
    ≡ (if fits p.inner cast shape then kept_or_blamed p.inner p.outer cast.label else NoCast)
plain_decides types all cast part p shape =
    solid_decides types all cast p.inner p.outer p.from_is p.to_is (base_not_dyn p.inner p.plain)
    (base_not_dyn p.outer p.plain_outer) shape
    ∙ ap (λ base. if fits p.inner cast shape then by_heads (same_head p.inner p.outer) base cast else NoCast) p.plain

-- ---- the casts of what is read and written through a wrapper

module _ (types : TypeRows) (all : List TypeCast) (cast : TypeCast) (part : ℕ) (b : IsBoxCast types cast part) where
  abbrev pub read_cast : TypeCast
  read_cast = type_cast b.content cast.label b.wanted

  abbrev pub written_cast : TypeCast
  written_cast = type_cast b.wanted cast.label b.content

  pub reads_by : (piling types all).reading cast ≡ Some read_cast
  reads_by = let e = b.from_is in let f = b.to_is in rw (e, f) refl

  pub writes_by : (piling types all).writing cast ≡ Some written_cast
  writes_by = let e = b.from_is in let f = b.to_is in rw (e, f) refl

  -- the one of what is written goes the other way
  pub written_plain : IsPlain types written_cast part
  written_plain = record {
    inner = b.reading.outer;
    outer = b.reading.inner;
    from_is = b.reading.to_is;
    to_is = b.reading.from_is;
    plain = b.reading.plain_outer;
    plain_outer = b.reading.plain;
    part_is = b.reading.part_is
        ∙ both_ways b.reading.inner b.reading.outer b.reading.plain b.reading.plain_outer;
    small = b.reading.small;
  }
    where
      both_ways : (inner outer : TypeRow) → is_base inner ≡ true → is_base outer ≡ true
          → fate inner outer cast.label ≡ fate outer inner cast.label
      both_ways IntRow IntRow h g = refl
      both_ways IntRow _ h g = refl
      both_ways BoolRow BoolRow h g = refl
      both_ways BoolRow _ h g = refl
      both_ways UnitRow UnitRow h g = refl
      both_ways UnitRow _ h g = refl
      both_ways DynRow outer h g = absurd (let z : ⊥ = cc in z)
      both_ways (FunRow ps a) outer h g = absurd (let z : ⊥ = cc in z)
      both_ways (TupleRow ps) outer h g = absurd (let z : ⊥ = cc in z)
      both_ways (RefRow a) outer h g = absurd (let z : ⊥ = cc in z)
      both_ways (VectRow a) outer h g = absurd (let z : ⊥ = cc in z)
