-- The meaning of the merged scheme: a value in a wrapper is one proxy with one coercion.
use Rattle.std.specs.Prelude.{◌≡◌, ℕ, suc, ◌+◌, ◌*◌, ◌^◌, ◌<◌, ◌≤◌, max, List, [], ◌∷◌, length, Some, slice_get}
use Rattle.grift_base.specs.Types.{TypeRows}
use Rattle.grift_base.specs.declared.words.Statics.{Statics}
use Rattle.low_ir.specs.Run.{Setting, Waiting}
use Rattle.type_graph.specs.declared.tables.TheConstants.{MOST_HEIGHT}
use Rattle.core_calc.specs.Account.{widest}
use Rattle.coercion_norm.specs.declared.cast_rows.CastRow.{CastRow}
use Rattle.coercion_norm.specs.CastRows.{row_casts}
use Rattle.coercion_norm.specs.Coercions.{Coercion, Id, Fail, Middle, Inject, Project}
use Rattle.coercion_norm.specs.declared.middles.MiddleKind.TheVariants.{Fun, Tup, Ref, Vec}
use Rattle.coercion_norm.specs.CoercionTables.{cast_of}
use Rattle.coercion_norm.specs.MergedMode.{merging}
use Rattle.cast_modes.specs.Modes.{TypeCast}
use Rattle.coercion_norm.specs.Objects.{Object, Fixed, Cell}
use Rattle.coercion_norm.specs.Held.{Layout, There, Held, height_in}
use Rattle.coercion_norm.specs.Nodes.{Node}
use Rattle.coercion_norm.specs.ObjectsOfRows.{header}
use Rattle.coercion_norm.specs.Statics.{layout_of}
use Rattle.coer_core.specs.Programs.{tallest_of}
use Rattle.coer_core.specs.TurnPrices.{merged_prices}
use Rattle.rt_cast.specs.Carried.{IsLow}
use Rattle.rt_cast.specs.Procs.{Stand}
use Rattle.rt_cast.specs.WholeObjects.{Wholes}
use Rattle.reference_laws.specs.CallLaws.{Resumes}
use Rattle.lowered_code.specs.Emit.{cast_word}
use Rattle.lower.specs.Meanings.{Meaning}
use Rattle.object_layout.specs.Kinds.{kind_number}
use Rattle.object_layout.specs.declared.kinds.Kind.TheVariants.{Closure, Proxy, Tuple as TupleKind, Boxed, Vector}

-- what a middle wraps is of its kind: a function, a tuple, a box or a vector
abbrev pub WrapsKind : Layout → List Object → Coercion → ℕ → Type 0
WrapsKind l objects (Middle Fun parts) target =
    (code : ℕ) × (rest : List ℕ) × There l objects target
    (Fixed (header (kind_number Closure) 0 (suc (length rest))) (code ∷ rest))
WrapsKind l objects (Middle Tup parts) target =
    (words : List ℕ) × There l objects target (Fixed (header (kind_number TupleKind) 0 (length words)) words)
WrapsKind l objects (Middle Ref parts) target = (count : ℕ) × There l objects target
    (Cell (header (kind_number Boxed) 0 count) count)
WrapsKind l objects (Middle Vec parts) target = (count : ℕ) × There l objects target
    (Cell (header (kind_number Vector) 0 count) count)
WrapsKind l objects Id target = Unit {0}
WrapsKind l objects (Fail label) target = Unit {0}
WrapsKind l objects (Inject g kept) target = Unit {0}
WrapsKind l objects (Project wanted label i) target = Unit {0}

-- one proxy over what stands at an address, with one coercion
abbrev pub merged_wraps : Layout → List Object → List Coercion → ℕ → ℕ → Type 0
merged_wraps l objects [] target w = ⊥
merged_wraps l objects (c ∷ d ∷ casts) target w = ⊥
merged_wraps l objects (c ∷ []) target w =
    (wc : ℕ) × There l objects w (Fixed (header (kind_number Proxy) 0 2) (target ∷ wc ∷ [])) × Held l objects c wc
    × IsLow l c
    × WrapsKind l objects c target

-- each cast is handed on as a word that holds its coercion among the static objects
pub record MergedCasts (l : Layout) (casts : List TypeCast) (words : List ℕ) : Type 0 where
  pub tallest : l.tallest ≤ MOST_HEIGHT
  pub hold : (number : ℕ) (cast : TypeCast) → slice_get casts number ≡ Some cast
      → Held l [] (cast_of l.types cast.from cast.to cast.label) (cast_word (slice_get words number))
      × IsLow l (cast_of l.types cast.from cast.to cast.label) × (cast_word (slice_get words number) < 2 ^ 64)

-- the procedure of calls waits, and makes one cast, by that of casts, which stands in the program
abbrev pub merged_resumes : Setting → Layout → List Object → Waiting → List Coercion → Type 0
merged_resumes setting l objects waiting [] = ⊥
merged_resumes setting l objects waiting (c ∷ d ∷ casts) = ⊥
merged_resumes setting l objects waiting (c ∷ []) =
    (first : ℕ) × Stand setting.procs first × Resumes l first objects waiting c

-- the width of the types, two at least
abbrev pub width_of : TypeRows → ℕ
width_of types = max 2 (widest types)

-- what runs are told: types and coercions stand in front of the region, and no proxy's coercion is higher than the
-- tallest of the casts
abbrev pub merged_layout : TypeRows → List Node → List CastRow → ℕ → Statics → ℕ → Layout
merged_layout types nodes casts start statics region =
    layout_of types nodes start statics [] region (tallest_of types (row_casts casts)) (width_of types)

abbrev pub merged_meaning : Meaning
merged_meaning = record {
  Cast = Coercion;
  mode = λ types casts. merging types casts;
  prices = λ types casts m. merged_prices types (merging types casts) m;
  Wraps = λ l objects casts target w. merged_wraps l objects casts target w;
  MayKeep = λ l kept. height_in l kept ≤ l.tallest;
  CastWords = λ l casts words. MergedCasts l casts words;
  Keeps = λ l objects number. Wholes l [] objects;
  Resumes = λ setting l objects waiting casts. merged_resumes setting l objects waiting casts;
  serving = λ l. 4 * l.tallest + 7;
}
