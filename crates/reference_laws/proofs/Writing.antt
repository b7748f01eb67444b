-- What write comes to, from a state in which whole objects fill the region.
use Rattle.std.proofs.Common.{◌≡◌, inl, inr, ℕ, ◌+◌, ◌*◌, ◌^◌, ◌<◌, ◌≤◌, Bool, true, false}
use Rattle.std.proofs.Common.{List, [], ◌∷◌, length, Some, refl, sym, ap, ap₂, ◌∙◌, subst, arith}
use Rattle.std.specs.Prelude.{◌==◌, slice_get}
use Rattle.grift_base.specs.Types.{TypeHead}
use Rattle.grift_base.specs.declared.verdicts.Trap.TheVariants.{Index}
use Rattle.run_laws.specs.Runs.{Ending, Exhausted}
use Rattle.machine_words.specs.Halts.{Halt, Lacks, Region}
use Rattle.low_ir.specs.declared.code.LowSource.TheVariants.{Word, Number}
use Rattle.low_ir.specs.Procedures.{Code, Return, Call, Store, Environment}
use Rattle.low_ir.specs.Steps.{Locals, no_locals}
use Rattle.low_ir.specs.Run.{Setting, LowState, bind, and_more}
use Rattle.coercion_norm.specs.Coercions.{Coercion}
use Rattle.coercion_norm.specs.Objects.{Object}
use Rattle.coercion_norm.specs.ObjectsOfRows.{header}
use Rattle.coercion_norm.specs.Held.{Layout}
use Rattle.rt_cast.specs.WholeObjects.{IsSolid}
use Rattle.rt_cast.specs.Costs.{cast_cost}
use Rattle.rt_cast.specs.LightCasts.{cast_words_of, cast_price_of}
use Rattle.rt_cast.specs.ComposeCodes.{cast}
use Rattle.rt_cast.specs.Procs.{cast_proc}
use Rattle.rt_cast.specs.States.{Grows, Heap, Fine, Filled, IsReady, around, heap_of, st}
use Rattle.rt_cast.specs.MergedValues.{Merged, Outcome, Stuck, Gives, Blames, cast_value}
use Rattle.rt_cast.specs.Carried.{CarriedBy}
use Rattle.rt_cast.proofs.Public.{arrives, counted, blames_at}
use Rattle.rt_cast.proofs.Public.{Walk, lt_true, End, More, at_most, computes, if_true, if_false, calls}
use Rattle.rt_cast.proofs.Public.{ReachedIn, at_first, walk, holds_stored, holds_same}
use Rattle.rt_refs.specs.CellCodes.{write_code, write_proc, write_element, test_index, find_element}
use Rattle.reference_laws.specs.CellLaws.{cell_behind, under, CellStands, CellInRegion, TrapsAt, WriteComes}
use Rattle.reference_laws.specs.CellLaws.{OnTheWayWriting, ComesWhere, ComesWriting}
use Rattle.reference_laws.proofs.CellSteps.{in_list, stores, may_be_stored, in_bounds}
use Rattle.reference_laws.proofs.Calling.{cast_behind, Goes}
use Rattle.machine_words.specs.Memory.{store_bytes}
use Rattle.machine_words.proofs.Public.{stored_outside}
use Rattle.coercion_norm.proofs.Public.{found_within, object_kept}
use Rattle.coercion_norm.specs.Objects.{Cell, object_at}
use Rattle.reference_laws.proofs.Finding.{KeepsCoercion, behind_under, found, part_taken, index_traps}
use Rattle.rt_cast.specs.ComposeCodes.{cast_place}

abbrev store_code : Code
store_code = find_element (Store (Word 3) (Word 2) 8 (Return (Number 0)))

abbrev part_code : ℕ → Code
part_code first = write_element (cast first)

module _ {V : Type 0} (reading : Halt → Ending V) (setting : Setting) (l : Layout) (first : ℕ) (s : LowState)
    (exhausts : reading (Lacks Region) ≡ Exhausted) (ready : IsReady setting l first) {A : Type 0} (head : A → TypeHead)
    (IsHeld : List Object → A → ℕ → Type 0)
    (still : (old new : List Object) → Grows old new → (a : A) (w : ℕ) → IsHeld old a w → IsHeld new a w)
    (is_solid : (objects : List Object) (a : A) (w : ℕ) → IsHeld objects a w → IsSolid l objects w)
    (low : l.tallest ≤ 65534) (begins : l.region ≡ setting.region) (objects : List Object)
    (filled : Filled setting l objects (heap_of s)) (u : Merged A) (wv : ℕ) (hv : CarriedBy l IsHeld objects u wv)
    (a : A) (ws : List ℕ)
    (cell : (wa : ℕ) → IsHeld objects a wa → CellInRegion l objects s.memory wa ws) where
  abbrev start : ℕ → ℕ → ℕ → Locals
  start which i word = bind 0 (which ∷ wv ∷ i ∷ word ∷ []) no_locals

  fine : Fine setting l (around s) objects (heap_of s)
  fine = at_first reading setting l first s exhausts ready objects filled

  cell_stands : (wa : ℕ) → IsHeld objects a wa → CellStands l objects s.memory wa ws
  cell_stands wa h =
      let c = cell wa h in record { kind = c.kind; one = c.one; there = inr c.is; held = c.held }

  -- the walk of a procedure that may change what was there
  abbrev writing : ℕ → (LowState → Type 0) → Walk V
  writing asks Q = record (walk reading setting l first s exhausts ready Q (4 * l.tallest + 7) asks) {
    P = OnTheWayWriting setting l s (4 * l.tallest + 7) asks;
    calm = λ active waiting h objects fine turns few asked. record {
      objects = objects;
      filled = fine.filled;
      same = refl;
      room = few;
      asked = asked;
      turns = turns;
    };
  }

  module _ (asks i : ℕ) (inside : i < length ws) (r : Outcome A) (y : Merged A) (q : r ≡ Gives y) (new : List Object)
      (h' : Heap) (word' : ℕ) (grows : Grows objects new)
      (fine' : Fine setting l (around s) new h') (hy : CarriedBy l IsHeld new y word') (wa : ℕ)
      (ha : IsHeld objects a wa) where
    abbrev w : Walk V
    w = writing asks (WriteComes setting l s IsHeld objects a i r)

    abbrev after : Heap
    after = record {
      memory = store_bytes 8 h'.memory (wa + 8 * i + 8) word';
      alloc = h'.alloc;
      words = h'.words;
    }

    place : object_at new l.region wa ≡ Some (Cell (header (cell wa ha).kind 0 (length ws)) (length ws))
    place =
        subst (λ os. object_at os l.region wa ≡ Some (Cell (header (cell wa ha).kind 0 (length ws)) (length ws)))
        (sym grows.is) (object_kept objects grows.more l.region wa _ (cell wa ha).is)

    filled_after : Filled setting l new after
    filled_after =
        let z = found_within new l.region wa _ place in
        record {
          objects_stand =
              holds_stored h'.memory new l.region wa (header (cell wa ha).kind 0 (length ws)) (length ws)
              (wa + 8 * i + 8) word' fine'.filled.objects_stand place (omega arith) (omega (arith, inside));
          statics_stand =
              holds_same h'.memory after.memory l.first l.statics
              (λ j from to. stored_outside 8 h'.memory (wa + 8 * i + 8) word' j
              (inl (omega (arith, to, z.low, ready.placed.before)))) fine'.filled.statics_stand;
          ends = fine'.filled.ends;
          fits = fine'.filled.fits;
          whole = fine'.filled.whole;
        }

    written : (locals : Locals) (rests : List Code)
        → ReachedIn w End (st (around s) 6 locals (Return (Number 0)) rests s.waiting after)
    written locals rests = arrives w (λ room asked. (
      in_bounds room asked,
      subst (λ z. WriteComes setting l s IsHeld objects a i z
          (st (around s) 6 locals (Return (Number 0)) rests s.waiting after)) (sym q) (record {
            new = new;
            grows = grows;
            filled = filled_after;
            before = h';
            fine = fine';
            cell = wa;
            held = ha;
            word = word';
            carried = hy;
            memory = refl;
            source = Number 0;
            code = refl;
            is = refl;
            waits = refl;
            same = refl;
          }),
    ))

    stored : (locals : Locals) (rests : List Code) → locals 1 ≡ Some wa → locals 2 ≡ Some i → locals 3 ≡ Some word'
        → ReachedIn w (More 3 0 0 12 End) (st (around s) 6 locals store_code rests s.waiting h')
    stored locals rests e1 e2 e3 =
        let z = found_within new l.region wa _ place in
        let even = z.even ready.placed.even_region in
        let p : wa + 8 * i + 8 < 2 ^ 64 =
        omega (arith, z.high, inside, fine'.filled.ends, fine'.filled.fits, ready.placed.top) in
        at_most w
        (computes w new fine' i 3 (8 * i) e2 refl (omega (arith, p)) refl
        (computes w new fine' (8 * i) wa (wa + 8 * i) refl e1 (omega (arith, p)) refl
        (stores w new fine' (wa + 8 * i) word' e3 refl
        (may_be_stored setting.region setting.top (wa + 8 * i + 8) (omega (arith, even))
        (omega (arith, z.low, begins))
        (omega (arith, z.high, inside, fine'.filled.ends, fine'.filled.fits))) p
        (written _ rests))))
        (omega arith, omega arith, omega arith, omega arith)

  -- what is written is stored, as the proxy casts it, or a label is blamed
  module _ (d : Coercion) (behind : cell_behind 1 u ≡ Some (a, d)) (which i word : ℕ) (x : Merged A)
      (hx : CarriedBy l IsHeld objects x word) (r : Outcome A) (e : cast_value head l.types d x ≡ r)
      (some : r ≡ Stuck → ⊥) where
    abbrev v : Walk V
    v = writing (cast_words_of l d x) (WriteComes setting l s IsHeld objects a i r)

    abbrev Writes : Type 0
    Writes =
        ComesWriting reading setting l s (write_proc (cast first)) (which ∷ wv ∷ i ∷ word ∷ [])
        (WriteComes setting l s IsHeld objects a i r) (cast_cost l.width l.tallest + 18) (4 * l.tallest + 7)
        (cast_words_of l d x) (cast_price_of l d x + 147)

    abbrev begun : Type 0
    begun =
        ReachedIn v (More (cast_cost l.width l.tallest + 18) (4 * l.tallest + 7)
        (cast_words_of l d x) (cast_price_of l d x + 147) End)
        (st (around s) 6 (start which i word) (write_code (cast first)) [] s.waiting (heap_of s))

    done : begun → Writes
    done z = counted v z (omega arith) (omega arith)

    blames : (label : ℕ) → r ≡ Blames label
        → Goes v low A IsHeld still is_solid End objects s.waiting (Blames label)
    blames label q =
        λ new h' count locals rests waiting aa b dd e' rest grows fine' ea eb ld le.
        arrives v (λ room asked. (
          in_bounds room asked,
          subst (λ y. WriteComes setting l s IsHeld objects a i y
              (st (around s) count locals (Environment 3 aa b dd e' rest) rests waiting h')) (sym q)
              (blames_at setting l s IsHeld objects label new h' count locals rests waiting aa b dd e' rest fine' ea
              eb ld le),
        ))

    -- an index is one of the cell's where there is something to store
    module _ (inside : (y : Merged A) → r ≡ Gives y → i < length ws) where
      parted : (wa wc : ℕ) (found : Locals) (rests : List Code) → IsHeld objects a wa
          → KeepsCoercion v low A IsHeld still is_solid objects u wc → found 1 ≡ Some wa → found 2 ≡ Some i
          → found 3 ≡ Some word → found 5 ≡ Some wc
          → ReachedIn v (More (cast_cost l.width l.tallest + 8) (4 * l.tallest + 7)
          (cast_words_of l d x) (cast_price_of l d x + 74) End)
          (st (around s) 6 found (part_code first) rests s.waiting (heap_of s))
      parted wa wc found rests ha keeps e1 e2 e3 e5 =
          at_most v
          (part_taken v low A IsHeld still is_solid (More (cast_cost l.width l.tallest + 5) (4 * l.tallest + 7)
          (cast_words_of l d x) (cast_price_of l d x + 47) End) 1
          16 refl objects (heap_of s) fine s.waiting rests found (Call 3 (cast first) (Word 3 ∷ Word 5 ∷ []) store_code)
          wc e5 u a d behind keeps
          (λ wd taken rests' hd ld f1 f2 f3 f5.
          at_most v
          (calls v objects fine (word ∷ wd ∷ []) (cast_proc first)
          (ap₂ and_more (f3 ∙ e3) (ap (λ o. and_more o (Some [])) f5)) (v.stands cast_place _ refl) refl
          (cast_behind v low A IsHeld still is_solid head End (More 3 0 0 12 End) objects (heap_of s) fine s.waiting
          (record { count = 6; locals = taken; code = store_code; rests = rests' }) 3 refl d ld x word wd hx hd r e some
          (λ y q new h' word' grows fine' hy.
          stored (cast_words_of l d x) i (inside y q) r y q new h' word' grows fine' hy wa ha _ _ (f1 ∙ e1)
          (f2 ∙ e2) refl)
          blames))
          (omega arith, omega arith, omega arith, omega arith)))
          (omega arith, omega arith, omega arith, omega arith)

      to_box : (which == 0) ≡ true → begun
      to_box is_box =
          at_most v
          (if_true v objects fine which 0 refl refl is_box
          (found v low A IsHeld still is_solid (More (cast_cost l.width l.tallest + 8) (4 * l.tallest + 7)
          (cast_words_of l d x) (cast_price_of l d x + 74) End) objects
          (heap_of s) fine s.waiting _ (start which i word) (part_code first) wv refl ws u a
          (behind_under v low A IsHeld still is_solid 1 u a d behind) hv cell_stands
          (λ wa wc found rests ha cell_is keeps e1 e2 e3 e4 e5. parted wa wc found rests ha keeps e1 e2 e3 e5)))
          (omega arith, omega arith, omega arith, omega arith)

      to_vector : (which == 0) ≡ false → i < length ws → begun
      to_vector other less =
          at_most v
          (if_false v objects fine which 0 refl refl other
          (found v low A IsHeld still is_solid (More (cast_cost l.width l.tallest + 9) (4 * l.tallest + 7)
          (cast_words_of l d x) (cast_price_of l d x + 87) End) objects
          (heap_of s) fine s.waiting _ (start which i word) (test_index (part_code first)) wv refl ws u a
          (behind_under v low A IsHeld still is_solid 1 u a d behind) hv cell_stands
          (λ wa wc found rests ha cell_is keeps e1 e2 e3 e4 e5.
          at_most v
          (if_true v objects fine i (length ws) e2 e4 (lt_true i (length ws) less)
          (parted wa wc found _ ha keeps e1 e2 e3 e5))
          (omega arith, omega arith, omega arith, omega arith))))
          (omega arith, omega arith, omega arith, omega arith)

    writes_element : (old : ℕ) → slice_get ws i ≡ Some old → Writes
    writes_element old got = done (by_test (which == 0) refl)
      where
        less : i < length ws
        less = in_list ws i old got

        by_test : (b : Bool) → (which == 0) ≡ b → begun
        by_test true is_box = to_box (λ y q. less) is_box
        by_test false other = to_vector (λ y q. less) other less

    blames_first : (which == 0) ≡ true → (label : ℕ) → r ≡ Blames label → Writes
    blames_first is_box label q = done (to_box (λ y g. absurd (never y (sym q ∙ g))) is_box)
      where
        never : (y : Merged A) → Blames label ≡ Gives y → ⊥
        never y g = cc

  pub writes : (d : Coercion) → cell_behind 1 u ≡ Some (a, d) → (which i word old : ℕ) → slice_get ws i ≡ Some old
      → (x : Merged A) → CarriedBy l IsHeld objects x word → (r : Outcome A) → cast_value head l.types d x ≡ r
      → (r ≡ Stuck → ⊥)
      → ComesWriting reading setting l s (write_proc (cast first)) (which ∷ wv ∷ i ∷ word ∷ [])
      (WriteComes setting l s IsHeld objects a i r) (cast_cost l.width l.tallest + 18) (4 * l.tallest + 7)
      (cast_words_of l d x) (cast_price_of l d x + 147)
  writes d behind which i word old got x hx r e some = writes_element d behind which i word x hx r e some old got

  -- a box has one word, but the blame comes first, whatever words the cell has
  pub writes_blamed : (d : Coercion) → cell_behind 1 u ≡ Some (a, d) → (which i word : ℕ) → (which == 0) ≡ true
      → (x : Merged A) → CarriedBy l IsHeld objects x word → (label : ℕ)
      → cast_value head l.types d x ≡ Blames label
      → ComesWriting reading setting l s (write_proc (cast first)) (which ∷ wv ∷ i ∷ word ∷ [])
      (WriteComes setting l s IsHeld objects a i (Blames label)) (cast_cost l.width l.tallest + 18)
      (4 * l.tallest + 7) (cast_words_of l d x) (cast_price_of l d x + 147)
  writes_blamed d behind which i word is_box x hx label e =
      blames_first d behind which i word x hx (Blames label) e
      (λ z. let impossible : ⊥ = cc in impossible) is_box label refl

module _ {V : Type 0} (reading : Halt → Ending V) (setting : Setting) (l : Layout) (first : ℕ) (s : LowState)
    (exhausts : reading (Lacks Region) ≡ Exhausted) (ready : IsReady setting l first) {A : Type 0}
    (IsHeld : List Object → A → ℕ → Type 0)
    (still : (old new : List Object) → Grows old new → (a : A) (w : ℕ) → IsHeld old a w → IsHeld new a w)
    (is_solid : (objects : List Object) (a : A) (w : ℕ) → IsHeld objects a w → IsSolid l objects w)
    (low : l.tallest ≤ 65534) (objects : List Object) (filled : Filled setting l objects (heap_of s)) (u : Merged A)
    (wv : ℕ) (hv : CarriedBy l IsHeld objects u wv) (a : A) (ws : List ℕ)
    (cell : (wa : ℕ) → IsHeld objects a wa → CellStands l objects s.memory wa ws) where
  fine_here : Fine setting l (around s) objects (heap_of s)
  fine_here = at_first reading setting l first s exhausts ready objects filled

  -- an index outside a vector traps, whatever the proxy's coercion is, and before anything is cast
  pub outside_writes : under u ≡ Some a → (which i word : ℕ) → (which == 0) ≡ false → length ws ≤ i
      → ComesWhere reading setting l s (write_proc (cast first)) (which ∷ wv ∷ i ∷ word ∷ [])
      (TrapsAt reading setting l s Index) 10 0 0 73
  outside_writes stands which i word other outside =
      counted v begun (omega arith) (omega arith)
    where
      v : Walk V
      v = walk reading setting l first s exhausts ready (TrapsAt reading setting l s Index) 0 0

      begun : ReachedIn v (More 10 0 0 73 End)
          (st (around s) 6 (bind 0 (which ∷ wv ∷ i ∷ word ∷ []) no_locals) (write_code (cast first)) [] s.waiting
          (heap_of s))
      begun =
          at_most v
          (if_false v objects fine_here which 0 refl refl other
          (found v low A IsHeld still is_solid (More 1 0 0 13 End) objects (heap_of s) fine_here s.waiting _
          (bind 0 (which ∷ wv ∷ i ∷ word ∷ []) no_locals) (test_index (part_code first)) wv refl ws u a stands hv cell
          (λ wa wc found rests ha cell_is keeps e1 e2 e3 e4 e5.
          index_traps reading setting l first s exhausts ready objects fine_here found _ _ i (length ws) e2 e4
          outside)))
          (omega arith, omega arith, omega arith, omega arith)
