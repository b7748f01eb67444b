-- Heights and sizes of rows, part by part.
use Rattle.std.proofs.Common.{◌≡◌, ℕ, zero, suc, ◌+◌, ◌<◌, ◌≤◌, max, min, List, [], ◌∷◌, ◌++◌, length, take}
use Rattle.std.proofs.Common.{get_or, sym, subst, arith}
use Rattle.std.specs.Prelude.{All}
use Rattle.std.proofs.lemmas.List.{map_more}
use Rattle.std.proofs.lemmas.List.Elements.{All-head, All-tail}
use Rattle.grift_base.specs.Types.{TypeRows}
use Rattle.grift_base.specs.declared.places.TypeId.{TypeId}
use Rattle.type_graph.specs.Rows.{places_of}
use Rattle.type_graph.specs.Trees.{above_all, height, size}
use Rattle.type_graph.specs.TypeTables.{IsMeasure, IsMeasureOfParts}
use Rattle.type_graph.specs.declared.tables.Measure.{Measure}
use Rattle.type_graph.specs.declared.tables.TheConstants.{SIZE_SHOWN}
use Rattle.type_graph.proofs.TreeLemmas.{above_all-push, sum_of-push}

-- a fact of each part holds of the one at this place
pub part_at : (P : ℕ → Type 0) (parts : List TypeId) (k : ℕ) (d : TypeId) → k < length parts → All P (places_of parts) →
    P (get_or parts k d).0
part_at P [] k d within all = absurd (omega arith)
part_at P (part ∷ parts) zero d within all = All-head P part.0 (places_of parts) all
part_at P (part ∷ parts) (suc k) d within all =
    part_at P parts k d (omega arith) (All-tail P part.0 (places_of parts) all)

-- the measure of a type without parts
pub leaf_measure : (types : TypeRows) (m : Measure) → m.height ≡ 0 → m.size ≡ 1 → IsMeasureOfParts types [] m
leaf_measure types m h s = record { height_is = h; size_is = s }

-- the measure with one part more
pub IsMeasureOfParts-push : (types : TypeRows) (parts : List ℕ) (part : ℕ) (m p n : Measure) →
    IsMeasureOfParts types parts m → IsMeasure types part p → n.height ≡ max m.height (p.height + 1) →
    n.size ≡ min SIZE_SHOWN (m.size + p.size) → IsMeasureOfParts types (parts ++ part ∷ []) n
IsMeasureOfParts-push types parts part m p n old one h s =
    let high = above_all-push (height types) parts part in
    let large = sum_of-push (size types) parts part in
    record {
      height_is = let a = old.height_is in let b = one.height_is in omega arith;
      size_is = let a = old.size_is in let b = one.size_is in omega arith;
    }

-- after the part at a place
pub measure_more : (types : TypeRows) (parts : List TypeId) (k : ℕ) (d : TypeId) (m p n : Measure) → k < length parts →
    IsMeasureOfParts types (places_of (take k parts)) m → IsMeasure types (get_or parts k d).0 p →
    n.height ≡ max m.height (p.height + 1) → n.size ≡ min SIZE_SHOWN (m.size + p.size) →
    IsMeasureOfParts types (places_of (take (k + 1) parts)) n
measure_more types parts k d m p n within old one h s =
    subst (λ (ps : List ℕ). IsMeasureOfParts types ps n) (sym (map_more (λ (id : TypeId). id.0) parts k d within))
    (IsMeasureOfParts-push types (places_of (take k parts)) (get_or parts k d).0 m p n old one h s)

-- ---- what is above all parts

-- each part is below what is above all
pub part_below_all : (f : ℕ → ℕ) (parts : List TypeId) (k : ℕ) (d : TypeId) → k < length parts →
    f (get_or parts k d).0 < above_all f (places_of parts)
part_below_all f [] k d within = absurd (omega arith)
part_below_all f (part ∷ parts) zero d within = omega arith
part_below_all f (part ∷ parts) (suc k) d within = let later = part_below_all f parts k d (omega arith) in omega arith

-- what is above all parts is at most what they are all below
pub above_all-most : (f : ℕ → ℕ) (bound : ℕ) (parts : List ℕ) → All (λ part. f part < bound) parts →
    above_all f parts ≤ bound
above_all-most f bound [] all = omega arith
above_all-most f bound (part ∷ parts) all =
    let head = All-head (λ x. f x < bound) part parts all in
    let rest = above_all-most f bound parts (All-tail (λ x. f x < bound) part parts all) in
    omega arith
