-- A word is stored into a cell: what fills the region then, and what the cells hold.
use Rattle.std.proofs.Common.{◌≡◌, inl, ℕ, zero, suc, ◌+◌, ◌*◌, ◌%◌, ◌^◌, ◌<◌, ◌≤◌, true, List, [], ◌∷◌, length}
use Rattle.std.proofs.Common.{Some, refl, sym, ap, ◌∙◌, subst, arith, slice_get}
use Rattle.std.specs.Prelude.{slice_set}
use Rattle.core_calc.specs.Account.{Measures}
use Rattle.machine_words.specs.Memory.{Memory, store_bytes}
use Rattle.machine_words.proofs.Public.{stored_outside}
use Rattle.low_ir.specs.Procedures.{Return as ReturnCode}
use Rattle.low_ir.specs.declared.code.LowSource.TheVariants.{Number}
use Rattle.low_ir.specs.Steps.{may_store}
use Rattle.low_ir.specs.Run.{Setting, LowState}
use Rattle.cast_modes.specs.Modes.{TypeCast}
use Rattle.cast_modes.specs.RunValues.{RunUnit, in_row}
use Rattle.coercion_norm.specs.Held.{Layout}
use Rattle.coercion_norm.specs.Objects.{Object, Cell}
use Rattle.flat_ir.specs.Bodies.{Proc}
use Rattle.flat_ir.specs.Machine.{FlatValue, FlatStore}
use Rattle.rt_cast.specs.States.{Heap, Placed, heap_of}
use Rattle.lower.specs.CarriedValues.{AreCarried, CellHeld, CellsHeld}
use Rattle.lower.specs.SchemeLaws.{ReturnsAt}
use Rattle.lower.specs.Storage.{Filled}
use Rattle.lower.proofs.Public.{as_many, carried_small}
use Rattle.lower.proofs.Public.{cell_of, cells_stored, holds_stored}
use Rattle.lower.proofs.Public.{found_within, holds_same, set_length, words_stored}
use Rattle.piled_scheme.specs.Piling.{piled_meaning}
use Rattle.piled_scheme.proofs.Laws.{piled_laws}
use Rattle.piled_scheme.proofs.Turns.{FilledAt, CellsAt, C, returned}

stored_may : (region top at : ℕ) → at % 8 ≡ 0 → region ≤ at → at + 8 ≤ top → may_store region top at ≡ true
stored_may region top at e l h = grind arith

module _ (setting : Setting) (l : Layout) (procs : List Proc) (casts : List TypeCast) (m : Measures)
    (placed : Placed setting l) (begins : l.region ≡ setting.region) (s : LowState) (places : List ℕ)
    (objects : List Object) (store : FlatStore TypeCast)
    (cells : CellsAt setting l procs casts m s places objects store s) where
  abbrev Carries : FlatValue TypeCast → ℕ → Type 0
  Carries v w = C setting l procs casts m s places objects store v w

  abbrev AllCarried : List (FlatValue TypeCast) → List ℕ → Type 0
  AllCarried vs ws = AreCarried l setting.address procs piled_meaning places objects (in_row vs) ws

  all_set : (vs : List (FlatValue TypeCast)) (ws : List ℕ) (i : ℕ) (v : FlatValue TypeCast) (w : ℕ)
      → AllCarried vs ws → Carries v w → AllCarried (slice_set vs i v) (slice_set ws i w)
  all_set [] [] i v w c h = c
  all_set [] (x ∷ ws) i v w c h = absurd c
  all_set (u ∷ vs) [] i v w c h = absurd c
  all_set (u ∷ vs) (x ∷ ws) zero v w c h = (h, c.1)
  all_set (u ∷ vs) (x ∷ ws) (suc i) v w c h = (c.0, all_set vs ws i v w c.1 h)

  -- the word of a value goes to a place of a cell
  module _ (number : ℕ) (filled : FilledAt setting l procs casts m s places objects store number s)
      (cell a : ℕ) (values : List (FlatValue TypeCast)) (in_store : slice_get store cell ≡ Some values)
      (slot : slice_get places cell ≡ Some a) (i : ℕ) (v : FlatValue TypeCast) (w : ℕ) (carried : Carries v w)
      (few : i < length values) (at_word : ℕ) (at_is : at_word ≡ a + 8 * i + 8) where
    pub held : CellHeld l setting.address procs piled_meaning places objects s.memory a values
    held = cell_of l setting.address procs piled_meaning places objects 0 s.memory places store cells cell a values slot
        in_store

    counted : length held.words ≡ length values
    counted = as_many l setting.address procs piled_meaning piled_laws places objects values held.words held.carried

    abbrev pub bytes : Memory
    bytes = store_bytes 8 s.memory at_word w

    abbrev pub after : Heap
    after = record { memory = bytes; alloc = s.alloc; words = s.words }

    small : w < 2 ^ 64
    small = carried_small l setting.address procs piled_meaning piled_laws places objects setting placed (heap_of s)
        filled v w carried

    pub may : may_store setting.region setting.top at_word ≡ true
    may =
        let z = found_within objects l.region a (Cell held.head (length held.words)) held.is in
        let even = z.even placed.even_region in
        stored_may setting.region setting.top at_word (omega (arith, even, at_is)) (omega (arith, z.low, begins, at_is))
        (omega (arith, z.high, filled.ends, filled.fits, few, counted, at_is))

    pub end : at_word < 2 ^ 64
    end =
        let z = found_within objects l.region a (Cell held.head (length held.words)) held.is in
        omega (arith, z.high, filled.ends, filled.fits, few, counted, placed.top, at_is)

    pub filled_after : Filled piled_meaning setting l number objects after
    filled_after =
        let z = found_within objects l.region a (Cell held.head (length held.words)) held.is in
        record {
          objects_stand =
              holds_stored s.memory objects l.region a held.head (length held.words) at_word w filled.objects_stand
              held.is (omega (arith, at_is)) (omega (arith, few, counted, at_is));
          statics_stand =
              holds_same s.memory bytes l.first l.statics
              (λ j p q. stored_outside 8 s.memory at_word w j (inl (omega (arith, q, z.low, placed.before, at_is))))
              filled.statics_stand;
          ends = filled.ends;
          fits = filled.fits;
          keeps = filled.keeps;
        }

    cell_after : CellHeld l setting.address procs piled_meaning places objects bytes a (slice_set values i v)
    cell_after = record {
      head = held.head;
      words = slice_set held.words i w;
      is = held.is ∙ ap (λ k. Some (Cell held.head k)) (sym (set_length held.words i w));
      held = words_stored s.memory (a + 8) at_word w held.words i small (omega (arith, few, counted))
          (omega (arith, at_is)) held.held;
      carried = all_set values held.words i v w held.carried carried;
    }

    pub cells_after : CellsHeld l setting.address procs piled_meaning places objects bytes places
        (slice_set store cell (slice_set values i v))
    cells_after =
        cells_stored l setting.address procs piled_meaning places objects s.memory a held.head (length held.words)
        at_word w held.is (omega (arith, at_is)) (omega (arith, few, counted, at_is)) 0 places store cells cell slot
        (slice_set values i v) cell_after

    -- and 0 is returned
    pub wrote : (t : LowState) (n : ℕ) → n ≡ number → heap_of t ≡ after → t.active.code ≡ ReturnCode (Number 0)
        → t.waiting ≡ s.waiting → t.world ≡ s.world
        → ReturnsAt piled_meaning setting l procs casts m s places objects RunUnit
        (slice_set store cell (slice_set values i v)) n t
    wrote t n same heap code waits world =
        returned setting l procs casts m s places objects (slice_set store cell (slice_set values i v)) t n
        (subst (Filled piled_meaning setting l n objects) (sym heap)
        (subst (λ k. Filled piled_meaning setting l k objects after) (sym same) filled_after))
        (subst (λ h. CellsHeld l setting.address procs piled_meaning places objects h.memory places
        (slice_set store cell (slice_set values i v))) (sym heap) cells_after) RunUnit 0 refl (Number 0) code refl waits
        world
