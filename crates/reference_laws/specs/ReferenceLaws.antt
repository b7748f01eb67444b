-- What the laws say of calls of functions with proxies, and of reads and writes, where what stands under a proxy is
-- known by its address.
use Rattle.std.specs.Prelude.{◌≡◌, ℕ, ◌+◌, ◌*◌, ◌≤◌, ◌==◌, false, List, [], ◌∷◌, length, Some, slice_get}
use Rattle.grift_base.specs.Types.{TypeHead}
use Rattle.run_laws.specs.Runs.{Ending, Exhausted}
use Rattle.machine_words.specs.Halts.{Halt, Lacks, Region}
use Rattle.low_ir.specs.Run.{Setting, LowState}
use Rattle.type_graph.specs.declared.tables.TheConstants.{MOST_HEIGHT}
use Rattle.coercion_norm.specs.Coercions.{Coercion}
use Rattle.coercion_norm.specs.MergedMode.{function_parts}
use Rattle.coercion_norm.specs.Objects.{Object, Fixed}
use Rattle.coercion_norm.specs.Held.{Layout, There}
use Rattle.rt_cast.specs.Costs.{cast_cost}
use Rattle.rt_cast.specs.LightCasts.{cast_words_of, cast_price_of}
use Rattle.rt_cast.specs.ComposeCodes.{cast}
use Rattle.rt_cast.specs.MergedValues.{Merged, Proxied, Outcome, Stuck, Blames, cast_value}
use Rattle.rt_cast.specs.Carried.{IsVery, Carries, AreCarried, ComesTo}
use Rattle.rt_cast.specs.States.{Filled, IsReady, heap_of}
use Rattle.rt_refs.specs.CallCodes.{apply_proc}
use Rattle.rt_refs.specs.CellCodes.{asks_box, asks_length, read_proc, write_proc}
use Rattle.rt_refs.specs.Arguments.{handed}
use Rattle.reference_laws.specs.CallLaws.{ComesToCall}
use Rattle.reference_laws.specs.CellLaws.{cell_behind, CellStands, CellInRegion, WriteComes}
use Rattle.reference_laws.specs.CellLaws.{ComesWhere, ComesWriting}

-- a call of a function with a proxy, of six arguments at most
abbrev pub CallsAreMade : Type 0 → Type 0
CallsAreMade V =
    (reading : Halt → Ending V) (setting : Setting) (l : Layout) (first : ℕ) (s : LowState)
    → reading (Lacks Region) ≡ Exhausted → IsReady setting l first → l.tallest ≤ MOST_HEIGHT
    → (objects : List Object) → Filled setting l objects (heap_of s)
    → (heads : ℕ → ℕ → TypeHead) (f : ℕ) (c : Coercion) (ds : List Coercion) (e : Coercion)
    → function_parts c ≡ Some (ds, e) → (us : List (Merged ℕ)) (wv : ℕ) (ws : List ℕ)
    → Carries l objects (Proxied f c) wv → AreCarried l (IsVery l) objects us ws → length us ≤ 6
    → length ds ≡ length us → (head address : ℕ) (rest : List ℕ)
    → There l objects f (Fixed head (address ∷ rest))
    → ComesToCall reading setting l first s (IsVery l) objects heads (apply_proc (cast first)) (handed wv ws) f
    address e ds us

-- a read of a box, or of an element of a vector
abbrev pub ElementsAreRead : Type 0 → Type 0
ElementsAreRead V =
    (reading : Halt → Ending V) (setting : Setting) (l : Layout) (first : ℕ) (s : LowState)
    → reading (Lacks Region) ≡ Exhausted → IsReady setting l first → l.tallest ≤ MOST_HEIGHT
    → (objects : List Object) → Filled setting l objects (heap_of s) → (head : ℕ → TypeHead) (u : Merged ℕ)
    (wv : ℕ) → Carries l objects u wv → (a : ℕ) (d : Coercion) → cell_behind 0 u ≡ Some (a, d) → (ws : List ℕ)
    → CellStands l objects s.memory a ws → (which i word : ℕ) → (which == asks_length) ≡ false
    → slice_get ws i ≡ Some word → (x : Merged ℕ) → Carries l objects x word → (r : Outcome ℕ)
    → cast_value head l.types d x ≡ r → (r ≡ Stuck → ⊥)
    → ComesWhere reading setting l s (read_proc (cast first)) (which ∷ wv ∷ i ∷ [])
    (ComesTo l setting s (IsVery l) objects r) (cast_cost l.width l.tallest + 17) (4 * l.tallest + 6)
    (cast_words_of l d x) (cast_price_of l d x + 148)

-- a write to a box, or to an element of a vector
abbrev pub ElementsAreWritten : Type 0 → Type 0
ElementsAreWritten V =
    (reading : Halt → Ending V) (setting : Setting) (l : Layout) (first : ℕ) (s : LowState)
    → reading (Lacks Region) ≡ Exhausted → IsReady setting l first → l.tallest ≤ MOST_HEIGHT
    → (objects : List Object) → Filled setting l objects (heap_of s) → l.region ≡ setting.region
    → (head : ℕ → TypeHead) (u : Merged ℕ) (wv : ℕ) → Carries l objects u wv → (a : ℕ) (d : Coercion)
    → cell_behind 1 u ≡ Some (a, d) → (ws : List ℕ) → CellInRegion l objects s.memory a ws
    → (which i word old : ℕ) → slice_get ws i ≡ Some old → (x : Merged ℕ) → Carries l objects x word
    → (r : Outcome ℕ) → cast_value head l.types d x ≡ r → (r ≡ Stuck → ⊥)
    → ComesWriting reading setting l s (write_proc (cast first)) (which ∷ wv ∷ i ∷ word ∷ [])
    (WriteComes setting l s (IsVery l) objects a i r) (cast_cost l.width l.tallest + 18) (4 * l.tallest + 7)
    (cast_words_of l d x) (cast_price_of l d x + 147)

-- a write to a box of a value whose cast blames a label
abbrev pub BoxWritesAreBlamed : Type 0 → Type 0
BoxWritesAreBlamed V =
    (reading : Halt → Ending V) (setting : Setting) (l : Layout) (first : ℕ) (s : LowState)
    → reading (Lacks Region) ≡ Exhausted → IsReady setting l first → l.tallest ≤ MOST_HEIGHT
    → (objects : List Object) → Filled setting l objects (heap_of s) → l.region ≡ setting.region
    → (head : ℕ → TypeHead) (u : Merged ℕ) (wv : ℕ) → Carries l objects u wv → (a : ℕ) (d : Coercion)
    → cell_behind 1 u ≡ Some (a, d) → (ws : List ℕ) → CellInRegion l objects s.memory a ws → (i word : ℕ)
    (x : Merged ℕ) → Carries l objects x word → (label : ℕ) → cast_value head l.types d x ≡ Blames label
    → ComesWriting reading setting l s (write_proc (cast first)) (asks_box ∷ wv ∷ i ∷ word ∷ [])
    (WriteComes setting l s (IsVery l) objects a i (Blames label)) (cast_cost l.width l.tallest + 18)
    (4 * l.tallest + 7) (cast_words_of l d x) (cast_price_of l d x + 147)
