-- Cells in memory: what a store into a cell changes, and cells that are added.
use Rattle.std.proofs.Common.{◌≡◌, ◌≢◌, ◌⊎◌, inl, inr, ℕ, zero, suc, ◌+◌, ◌*◌, ◌^◌, ◌<◌, ◌≤◌, Bool, true, false}
use Rattle.std.proofs.Common.{cond, nat_eq}
use Rattle.std.proofs.Common.{List, [], ◌∷◌, ◌++◌, length, Some, refl, sym, ap, ◌∙◌, subst, arith, eqb-true}
use Rattle.std.specs.Prelude.{slice_get, slice_set}
use Rattle.machine_words.specs.Memory.{Memory, store_bytes}
use Rattle.machine_words.proofs.Public.{stored_outside, load_stored}
use Rattle.low_ir.specs.Run.{Setting}
use Rattle.coercion_norm.specs.Objects.{Object, Cell, bytes_of, bytes_of_all, object_at}
use Rattle.coercion_norm.specs.Held.{Layout, There}
use Rattle.flat_ir.specs.Bodies.{Proc}
use Rattle.flat_ir.specs.Machine.{FlatValue, FlatStore}
use Rattle.rt_cast.specs.Objects.{HasWord, HoldsWords}
use Rattle.rt_cast.specs.States.{Heap, Placed}
use Rattle.lower.specs.Storage.{Filled}
use Rattle.lower.specs.Meanings.{Meaning}
use Rattle.lower.specs.CarriedValues.{CellHeld, CellsFrom}
use Rattle.lower.proofs.heap.Objects.{none_some, same_some, found_within, header_room, word_same, words_same}
pub use Rattle.rt_cast.proofs.Public.{holds_stored}
use Rattle.lower.proofs.heap.Filled.{stands, WordThere, may}

-- two objects at different addresses lie apart
pub objects_apart : (os : List Object) (from a b : ℕ) (o p : Object) → object_at os from a ≡ Some o
    → object_at os from b ≡ Some p → a ≢ b → (a + bytes_of o ≤ b) ⊎ (b + bytes_of p ≤ a)
objects_apart [] from a b o p e f ne = none_some e
objects_apart (x ∷ os) from a b o p e f ne =
    by_tests (objects_apart os (from + bytes_of x) a b o p) (nat_eq a from) (nat_eq b from) refl refl e f
  where
    by_tests : (object_at os (from + bytes_of x) a ≡ Some o → object_at os (from + bytes_of x) b ≡ Some p → a ≢ b
        → (a + bytes_of o ≤ b) ⊎ (b + bytes_of p ≤ a))
        → (s t : Bool) → nat_eq a from ≡ s → nat_eq b from ≡ t
        → cond s (Some x) (object_at os (from + bytes_of x) a) ≡ Some o
        → cond t (Some x) (object_at os (from + bytes_of x) b) ≡ Some p
        → (a + bytes_of o ≤ b) ⊎ (b + bytes_of p ≤ a)
    by_tests ih true true q r e f = absurd (ne (eqb-true a from q ∙ sym (eqb-true b from r)))
    by_tests ih true false q r e f =
        let w = found_within os (from + bytes_of x) b p f in
        let same : bytes_of x ≡ bytes_of o = ap bytes_of (same_some x o e) in
        let at_start = eqb-true a from q in
        inl (omega (arith, w.low, same, at_start))
    by_tests ih false true q r e f =
        let w = found_within os (from + bytes_of x) a o e in
        let same : bytes_of x ≡ bytes_of p = ap bytes_of (same_some x p f) in
        let at_start = eqb-true b from r in
        inr (omega (arith, w.low, same, at_start))
    by_tests ih false false q r e f = ih e f ne

-- a word of a list is another one, and so it is in memory
pub set_length : {A : Type 0} (xs : List A) (i : ℕ) (x : A) → length (slice_set xs i x) ≡ length xs
set_length [] i x = refl
set_length (y ∷ xs) zero x = refl
set_length (y ∷ xs) (suc i) x = ap suc (set_length xs i x)

pub words_stored : (m : Memory) (at p w : ℕ) (ws : List ℕ) (i : ℕ) → w < 2 ^ 64 → i < length ws → p ≡ at + 8 * i
    → HoldsWords m at ws → HoldsWords (store_bytes 8 m p w) at (slice_set ws i w)
words_stored m at p w [] i small lt e h = absurd (let z : ⊥ = omega (arith, lt) in z)
words_stored m at p w (x ∷ ws) zero small lt e h =
    let here : p ≡ at = omega (arith, e) in (
      subst (λ n. HasWord (store_bytes 8 m p w) n w) here (record { is = load_stored 8 m p w small; small = small }),
      words_same m (store_bytes 8 m p w) (at + 8) ws
          (λ j a b. stored_outside 8 m p w j (inr (omega (arith, a, here)))) h.1,
    )
words_stored m at p w (x ∷ ws) (suc i) small lt e h = (
  word_same m (store_bytes 8 m p w) at x (λ j a b. stored_outside 8 m p w j (inl (omega (arith, b, e)))) h.0,
  words_stored m (at + 8) p w ws i small (omega (arith, lt)) (omega (arith, e)) h.1,
)

-- the last of these, which rise from a bound on, is below another
abbrev pub AllBelow : ℕ → List ℕ → ℕ → Type 0
AllBelow low [] new = low ≤ new
AllBelow low (a ∷ at) new = AllBelow (suc a) at new

-- what stands in the region stands nowhere else
pub there_is : (l : Layout) (objects : List Object) (w : ℕ) (o p : Object)
    → l.first + bytes_of_all l.statics ≤ l.region → There l objects w o → object_at objects l.region w ≡ Some p → o ≡ p
there_is l objects w o p before (inr e) f = same_some o p (sym e ∙ f)
there_is l objects w o p before (inl e) f =
    let x = found_within l.statics l.first w o e in
    let y = found_within objects l.region w p f in
    let z = header_room o in
    absurd (omega (arith, x.high, y.low, z, before))

-- one object stands at an address
pub there_same : (l : Layout) (objects : List Object) (w : ℕ) (o p : Object)
    → l.first + bytes_of_all l.statics ≤ l.region → There l objects w o → There l objects w p → o ≡ p
there_same l objects w o p before (inl e) (inl f) = same_some o p (sym e ∙ f)
there_same l objects w o p before (inl e) (inr f) = there_is l objects w o p before (inl e) f
there_same l objects w o p before (inr e) (inl f) = sym (there_is l objects w p o before (inl f) e)
there_same l objects w o p before (inr e) (inr f) = same_some o p (sym e ∙ f)

module _ (l : Layout) (address : ℕ → ℕ) (procs : List Proc) (meaning : Meaning) (places : List ℕ)
    (objects : List Object) where
  abbrev Cells : ℕ → Memory → List ℕ → FlatStore meaning.Cast → Type 0
  Cells low m at store = CellsFrom l address procs meaning places objects low m at store

  abbrev ACell : Memory → ℕ → List (FlatValue meaning.Cast) → Type 0
  ACell m at values = CellHeld l address procs meaning places objects m at values

  pub cell_of : (low : ℕ) (m : Memory) (at : List ℕ) (store : FlatStore meaning.Cast) → Cells low m at store
      → (i w : ℕ) (values : List (FlatValue meaning.Cast)) → slice_get at i ≡ Some w → slice_get store i ≡ Some values
      → ACell m w values
  cell_of low m [] store c i w values e f = none_some e
  cell_of low m (a ∷ at) [] c i w values e f = none_some f
  cell_of low m (a ∷ at) (vs ∷ store) c zero w values e f =
      subst (λ x. ACell m x values) (same_some a w e) (subst (ACell m a) (same_some vs values f) c.1)
  cell_of low m (a ∷ at) (vs ∷ store) c (suc i) w values e f = cell_of (suc a) m at store c.2 i w values e f

  pub as_many_cells : (low : ℕ) (m : Memory) (at : List ℕ) (store : FlatStore meaning.Cast) → Cells low m at store
      → length at ≡ length store
  as_many_cells low m [] [] c = refl
  as_many_cells low m [] (vs ∷ store) c = absurd c
  as_many_cells low m (a ∷ at) [] c = absurd c
  as_many_cells low m (a ∷ at) (vs ∷ store) c = ap suc (as_many_cells (suc a) m at store c.2)

  place_above : (low : ℕ) (m : Memory) (at : List ℕ) (store : FlatStore meaning.Cast) → Cells low m at store
      → (i w : ℕ) → slice_get at i ≡ Some w → low ≤ w
  place_above low m [] store c i w e = none_some e
  place_above low m (a ∷ at) [] c i w e = absurd c
  place_above low m (a ∷ at) (vs ∷ store) c zero w e = let z = same_some a w e in let y = c.0 in omega (arith, y, z)
  place_above low m (a ∷ at) (vs ∷ store) c (suc i) w e =
      let z = place_above (suc a) m at store c.2 i w e in let y = c.0 in omega (arith, y, z)

  -- ---- a word of a cell is stored

  module _ (m : Memory) (w head count p y : ℕ)
      (there : object_at objects l.region w ≡ Some (Cell head count)) (low_word : w + 8 ≤ p)
      (high_word : p + 8 ≤ w + 8 + 8 * count) where
    other_cell : (a : ℕ) (values : List (FlatValue meaning.Cast)) → a ≢ w → ACell m a values
        → ACell (store_bytes 8 m p y) a values
    other_cell a values ne c = record {
      head = c.head;
      words = c.words;
      is = c.is;
      held =
          words_same m (store_bytes 8 m p y) (a + 8) c.words
          (λ i b e. stored_outside 8 m p y i (outside i b e
          (objects_apart objects l.region a w (Cell c.head (length c.words)) (Cell head count) c.is there ne))) c.held;
      carried = c.carried;
    }
      where
        outside : (i : ℕ) → a + 8 ≤ i → i < a + 8 + 8 * length c.words
            → (a + (8 + 8 * length c.words) ≤ w) ⊎ (w + (8 + 8 * count) ≤ a) → (i < p) ⊎ (p + 8 ≤ i)
        outside i b e (inl z) = inl (omega (arith, e, z, low_word))
        outside i b e (inr z) = inr (omega (arith, b, z, high_word))

    others_stay : (low : ℕ) (at : List ℕ) (store : FlatStore meaning.Cast) → w < low → Cells low m at store
        → Cells low (store_bytes 8 m p y) at store
    others_stay low [] [] lt c = tt
    others_stay low [] (vs ∷ store) lt c = absurd c
    others_stay low (a ∷ at) [] lt c = absurd c
    others_stay low (a ∷ at) (vs ∷ store) lt c =
        let z = c.0 in (
          c.0,
          other_cell a vs (λ e. omega (arith, e, z, lt)) c.1,
          others_stay (suc a) at store (omega (arith, z, lt)) c.2,
        )

    pub cells_stored : (low : ℕ) (at : List ℕ) (store : FlatStore meaning.Cast) → Cells low m at store → (i : ℕ)
        → slice_get at i ≡ Some w → (values : List (FlatValue meaning.Cast)) → ACell (store_bytes 8 m p y) w values
        → Cells low (store_bytes 8 m p y) at (slice_set store i values)
    cells_stored low [] store c i e values new = none_some e
    cells_stored low (a ∷ at) [] c i e values new = absurd c
    cells_stored low (a ∷ at) (vs ∷ store) c zero e values new =
        let here = same_some a w e in (
          c.0,
          subst (λ x. ACell (store_bytes 8 m p y) x values) (sym here) new,
          others_stay (suc a) at store (omega (arith, here)) c.2,
        )
    cells_stored low (a ∷ at) (vs ∷ store) c (suc i) e values new =
        let above = place_above (suc a) m at store c.2 i w e in (
          c.0,
          other_cell a vs (λ q. omega (arith, q, above)) c.1,
          cells_stored (suc a) at store c.2 i e values new,
        )

  -- ---- a cell is added behind the others

  pub cells_append : (low : ℕ) (m : Memory) (at : List ℕ) (store : FlatStore meaning.Cast) (new : ℕ)
      (values : List (FlatValue meaning.Cast)) → Cells low m at store → AllBelow low at new → ACell m new values
      → Cells low m (at ++ new ∷ []) (store ++ values ∷ [])
  cells_append low m [] [] new values c below cell = (below, cell, tt)
  cells_append low m [] (vs ∷ store) new values c below cell = absurd c
  cells_append low m (a ∷ at) [] new values c below cell = absurd c
  cells_append low m (a ∷ at) (vs ∷ store) new values c below cell =
      (c.0, c.1, cells_append (suc a) m at store new values c.2 below cell)

  module _ (setting : Setting) (placed : Placed setting l) {number : ℕ} (h : Heap)
      (filled : Filled meaning setting l number objects h) where
    pub cells_end : (low : ℕ) (at : List ℕ) (store : FlatStore meaning.Cast) → Cells low h.memory at store
        → low ≤ h.alloc → AllBelow low at h.alloc
    cells_end low [] [] c le = le
    cells_end low [] (vs ∷ store) c le = absurd c
    cells_end low (a ∷ at) [] c le = absurd c
    cells_end low (a ∷ at) (vs ∷ store) c le =
        let s = stands meaning setting l placed objects h filled a (Cell c.1.head (length c.1.words)) (inr c.1.is) in
        cells_end (suc a) at store c.2 (omega (arith, s.high))

    -- the word of a cell may be loaded
    pub cell_word_there : (a x : ℕ) (rest : List ℕ) (head : ℕ)
        → object_at objects l.region a ≡ Some (Cell head (length (x ∷ rest)))
        → HoldsWords h.memory (a + 8) (x ∷ rest) → WordThere meaning setting l placed h.memory (a + 8) x
    cell_word_there a x rest head e held =
        let s = stands meaning setting l placed objects h filled a (Cell head (length (x ∷ rest))) (inr e) in
        record {
          may = may setting.top (a + 8) (omega (arith, s.even)) (omega (arith, s.low))
              (omega (arith, s.high, filled.fits));
          is = held.0.is;
          small = held.0.small;
          end = omega (arith, s.high, filled.fits, placed.top);
        }
