-- Boxes that code makes, reads and writes in place.
use Rattle.std.proofs.Common.{◌≡◌, ◌⊎◌, inl, inr, ℕ, zero, suc, ◌+◌, ◌*◌, ◌^◌, ◌<◌, ◌≤◌, List, [], ◌∷◌, ◌++◌, length}
use Rattle.std.proofs.Common.{Some}
use Rattle.std.proofs.Common.{true, false, refl, sym, ap, ◌∙◌, subst, arith}
use Rattle.std.specs.Prelude.{slice_get, slice_set, ◌&&◌}
use Rattle.machine_words.specs.Memory.{Memory, store_bytes}
use Rattle.machine_words.proofs.Public.{load_stored, stored_outside}
use Rattle.object_layout.specs.declared.kinds.Kind.TheVariants.{Boxed}
use Rattle.low_ir.specs.declared.code.LowSource.{LowSource}
use Rattle.low_ir.specs.declared.code.LowSource.TheVariants.{Number}
use Rattle.low_ir.specs.Procedures.{Code, Done, Load, Store, Set, Build}
use Rattle.low_ir.specs.Steps.{Locals, set_local, store_words, may_store}
use Rattle.low_ir.specs.Run.{Waiting as LowWaiting, LowState, word_of, words_of}
use Rattle.cast_modes.specs.RunValues.{RunLoc, RunUnit, in_row}
use Rattle.cast_modes.specs.ValueSteps.{On, Return}
use Rattle.coercion_norm.specs.Held.{TypesStand, There}
use Rattle.coercion_norm.specs.Objects.{Object, Cell, bytes_of, bytes_of_all, object_at}
use Rattle.flat_ir.specs.declared.code.Operand.{Operand}
use Rattle.flat_ir.specs.declared.code.Operation.{Operation}
use Rattle.flat_ir.specs.Bodies.{Give}
use Rattle.flat_ir.specs.Closed.{operand_bound, operands_bound}
use Rattle.flat_ir.specs.Machine.{FlatValue, FlatAfter, FlatState, Group, value, values}
use Rattle.flat_ir.specs.Machine.{Locals as FlatLocals}
use Rattle.lowered_code.specs.declared.numbering.Shape.{Shape}
use Rattle.rt_cast.specs.Objects.{HoldsWords}
use Rattle.rt_cast.specs.States.{Heap}
use Rattle.lower.specs.Storage.{Filled}
use Rattle.lowered_code.specs.Numbering.{operand_word, test_word}
use Rattle.lowered_code.specs.Emit.{Then, found, found_all, fetch_all, of_kind}
use Rattle.lower.specs.CarriedValues.{AreCarried, CellHeld, CellsHeld}
use Rattle.lower.specs.Relation.{Fits}
use Rattle.lower.proofs.heap.Objects.{Within, found_within, stored_words, bytes_below, holds_same, box_header}
use Rattle.lower.proofs.heap.Filled.{WordThere, header_there, Stands, stands, filled_above, filled_more}
use Rattle.lower.proofs.heap.Cells.{there_is, holds_stored, cell_of, as_many_cells, cells_stored, cells_append}
use Rattle.lower.proofs.heap.Cells.{cells_end, cell_word_there}
use Rattle.lower.proofs.heap.CarriedLater.{grown, cells_grown, cells_below, carried_small}
use Rattle.lower.proofs.simulation.RelationKept.{word_here, word_other, rest_grown, callers_grown}
use Rattle.lower.proofs.words.Arithmetic.{header_is}
use Rattle.lower.proofs.words.Steps.{at, Comes, here, comes_on, builds, loads, stores, sets_word}
use Rattle.lower.proofs.words.Steps.{falls_through, Calm}
use Rattle.lower.proofs.words.Steps.{Goal}
use Rattle.lower.proofs.words.EmitPrices.{prim_price, perform_begins}
use Rattle.lowered_code.specs.Emit.{perform}
use Rattle.flat_ir.specs.declared.code.Operation.TheVariants.{Prim}
use Rattle.grift_base.specs.declared.operators.PrimOp.{PrimOp}
use Rattle.grift_base.specs.declared.operators.PrimOp.TheVariants.{MakeBox, Unbox, BoxSet}
use Rattle.low_ir.specs.Procedures.{Call}
use Rattle.lower.proofs.words.Scene.{Scene, Fills, CellsStand}
use Rattle.lower.proofs.words.Operands.{fetch_all_reads, ChangesFrom, both_words, found_all_same}
use Rattle.lower.proofs.words.Operations.{Touches, not_computed, is_of_kind, added_there}
use Rattle.lower.proofs.words.Groups.{storable}
use Rattle.lower.proofs.simulation.Way.{room_over, stays_in}
use Rattle.lower.proofs.simulation.Way.{Program, Way, Follows, next_state, scene_for, turn_goal, kept_by}
use Rattle.lower.proofs.simulation.Way.{at_start}
use Rattle.lower.proofs.simulation.Way.{asks_of, budget_of}
use Rattle.lower.proofs.simulation.Gives.{CarriedHere, RestHere, CallersHere, given, word_for, code_for}
use Rattle.lower.proofs.simulation.Gives.{Fitting, due_for}
use Rattle.lower.proofs.simulation.Operations.{settle, put, due_little, giving}
use Rattle.lower.proofs.simulation.Services.{kept_in_front}
use Rattle.lower.proofs.simulation.Applied.{and_more_parts}
use Rattle.lower.proofs.simulation.Parts.{one_word}

last_place : (xs : List ℕ) (x n : ℕ) → length xs ≡ n → slice_get (xs ++ x ∷ []) n ≡ Some x
last_place [] x zero e = refl
last_place [] x (suc n) e = absurd (omega (arith, e))
last_place (y ∷ xs) x zero e = absurd (omega (arith, e))
last_place (y ∷ xs) x (suc n) e = last_place xs x n (omega (arith, e))

module _ (program : Program) (typed : TypesStand program.l)
    (f : FlatState program.meaning.Cast) (places : List ℕ) (objects : List Object) (h : Heap)
    (filled : Fills program objects h) (cells : CellsStand program places objects h f.store)
    (waiting : List LowWaiting) (size : ℕ) (rests : List Code) (words : Locals) (s : Shape) (count depth : ℕ)
    (group : Group program.meaning.Cast) (locals : FlatLocals program.meaning.Cast) (operation : Operation)
    (next : Then)
    (fits : Fits program.setting program.l program.run program.procs program.answer program.meaning places objects s
    count size group depth locals words (Give operation))
    (rest : RestHere program places objects waiting s count size group depth f.frames next rests words)
    (six : s.params ≤ 6) (enough : 500 ≤ budget_of program f) where
  open (giving program typed f places objects h filled cells waiting size rests words s count depth group locals
      operation next fits rest) use {wide, d, less, k}

  abbrev start_of : PrimOp → List Operand → LowState
  start_of op os = at f.world h waiting size rests words (perform program.run s d (Prim op os) k)

  fitting : (op : PrimOp) (os : List Operand) → length os ≤ 2
      → Fitting program places objects f s size next (perform program.run s
      (word_for program places objects s next) (Prim op os) (code_for program places objects s next))
  fitting op os le =
      let dear = prim_price program.setting.procs size s six program.run d op os (omega (arith, le)) k in
      let little = due_little program places objects next in
      record {
        begins = perform_begins program.run s d (Prim op os) k;
        paid = omega (arith, dear, little, enough, le);
      }

  touched : (n : ℕ) → n ≤ 8 → (new : Locals) → ChangesFrom (operand_word s 0) n words new
      → Touches s (word_for program places objects s next) words new
  touched n few new changed j ne side = changed j (by_side side)
    where
      by_side : (j ≤ s.params) ⊎ (s.params + 10 ≤ j) → (j < operand_word s 0) ⊎ (operand_word s 0 + n ≤ j)
      by_side (inl p) = inl (omega (arith, p))
      by_side (inr p) = inr (omega (arith, p, few))

  -- ---- a new box

  module _ (o : Operand) (bound : (operand_bound s.captured count depth o && true) ≡ true)
      (asks : 2 ≤ asks_of program f) where
    abbrev v : FlatValue program.meaning.Cast
    v = value locals group o

    abbrev pub made : FlatAfter program.meaning.Cast
    made =
        On (Return (RunLoc (length f.store) false)) f.frames (f.store ++ (value locals group o ∷ []) ∷ []) f.world

    abbrev box : Object
    box = Cell (box_header 1) 1

    abbrev scene : Scene
    scene = scene_for program f (next_state program f made) h.words (room_over program size waiting)
        (turn_goal program f (next_state program f made) (start_of MakeBox (o ∷ []))) places

    pub box_made : Follows program f made (at f.world h waiting size rests words (fetch_all s 0 (o ∷ [])
        (Build (word_for program places objects s next)
        (Number (5 + 4294967296 * 1) ∷ found s (operand_word s 0) o ∷ []) (code_for program places objects s next))))
    box_made =
        fetch_all_reads scene f.world h (at_start program f (next_state program f made) f.world h.words refl) objects
        filled waiting size (stays_in program size waiting) rests s count group depth locals (o ∷ [])
        0 bound (omega arith) wide words fits.knows
        (Build d (Number (5 + 4294967296 * 1) ∷ found s (operand_word s 0) o ∷ []) k)
        (λ ws new carried are changed. by_words ws new carried are changed)
      where
        P : LowState → Type 0
        P = Way program f (next_state program f made) h.words (room_over program size waiting)

        Q : Goal
        Q = turn_goal program f (next_state program f made) (start_of MakeBox (o ∷ []))

        fit : Fitting program places objects f s size next (perform program.run s
            (word_for program places objects s next) (Prim MakeBox (o ∷ [])) (code_for program places objects s next))
        fit = fitting MakeBox (o ∷ []) (omega arith)

        by_words : (ws : List ℕ) (new : Locals)
            → AreCarried program.l program.setting.address program.procs program.meaning places objects
            (in_row (values locals group (o ∷ []))) ws → words_of new (found_all s 0 (o ∷ [])) ≡ Some ws
            → ChangesFrom (operand_word s 0) 1 words new
            → Comes program.setting (Way program f (next_state program f made) h.words (room_over program size waiting))
            (turn_goal program f (next_state program f made) (start_of MakeBox (o ∷ [])))
            (at f.world h waiting size rests new
            (Build d (Number (5 + 4294967296 * 1) ∷ found s (operand_word s 0) o ∷ []) k))
        by_words [] new carried are changed = absurd carried
        by_words (w ∷ x ∷ ws) new carried are changed = absurd carried.1
        by_words (w ∷ []) new carried are changed =
            builds program.setting P Q
            (λ rests locals code. (
              at_start program f (next_state program f made) f.world h.words refl,
              (objects, filled),
              stays_in program size waiting,
            ))
            (box_header 1 ∷ w ∷ [])
            (both_words _ _ _ _ refl (both_words _ _ _ _ (one_word (word_of new (found s (operand_word s 0) o)) w are)
            refl)) (omega arith) less
            (λ rests locals code. (
              inl (refl, omega (arith, asks)),
              (
                objects,
                filled_above program.meaning program.setting program.l
                    program.placed objects h h.memory (h.words + 2) filled (λ i lt. refl),
              ),
              stays_in program size waiting,
            )) (let z = fit.paid in omega (arith, z)) (λ room. stored room)
          where
            m : Memory
            m = store_words (box_header 1 ∷ w ∷ []) h.alloc h.memory

            h' : Heap
            h' = record {
              memory = store_words (box_header 1 ∷ w ∷ []) h.alloc h.memory;
              alloc = h.alloc + 8 * length (box_header 1 ∷ w ∷ []);
              words = h.words + length (box_header 1 ∷ w ∷ []);
            }

            below : (i : ℕ) → i < h.alloc → store_words (box_header 1 ∷ w ∷ []) h.alloc h.memory i ≡ h.memory i
            below i lt = bytes_below (box_header 1 ∷ w ∷ []) h.alloc h.memory i lt

            small : w < 2 ^ 64
            small = carried_small program.l program.setting.address program.procs program.meaning program.laws places
                objects program.setting program.placed h filled (value locals group o) w carried.0

            held : HoldsWords (store_words (box_header 1 ∷ w ∷ []) h.alloc h.memory) h.alloc (box_header 1 ∷ w ∷ [])
            held = stored_words (box_header 1 ∷ w ∷ []) h.alloc h.memory (omega arith, (small, tt))

            kept : (i x : ℕ) → slice_get places i ≡ Some x → slice_get (places ++ h.alloc ∷ []) i ≡ Some x
            kept = kept_in_front places (h.alloc ∷ [])

            stored : h.alloc + 8 * length (box_header 1 ∷ w ∷ []) ≤ program.setting.top
                → Comes program.setting (Way program f (next_state program f made) h.words
                (room_over program size waiting))
                (turn_goal program f (next_state program f made) (start_of MakeBox (o ∷ [])))
                (at f.world (record {
                  memory = store_words (box_header 1 ∷ w ∷ []) h.alloc h.memory;
                  alloc = h.alloc + 8 * length (box_header 1 ∷ w ∷ []);
                  words = h.words + length (box_header 1 ∷ w ∷ []);
                }) waiting size rests (set_local d h.alloc new) k)
            stored top =
                let filled' = filled_more program.meaning program.setting program.l program.placed objects (box ∷ []) h
                m
                (h.alloc + 8 * length (box_header 1 ∷ w ∷ [])) (h.words + length (box_header 1 ∷ w ∷ [])) filled below
                (held.0, tt) (program.laws.keeps_more program.l objects program.number box (record {
                  kind = Boxed;
                  count = 1;
                  head = refl;
                  long = refl;
                  free = refl;
                  allowed = refl;
                }) filled.keeps) (omega arith) top in
                let stands_there : object_at (objects ++ box ∷ []) program.l.region h.alloc ≡ Some box =
                added_there program.l.region objects box [] h.alloc filled.ends in
                let ends = cells_end program.l program.setting.address program.procs program.meaning places objects
                program.setting program.placed h filled 0 places f.store cells (omega arith) in
                let old = cells_grown program.l program.setting.address program.procs program.meaning program.laws
                places
                (places ++ h.alloc ∷ []) kept objects (box ∷ []) 0 m places f.store
                (cells_below program.l program.setting.address program.procs program.meaning program.laws places objects
                program.setting program.placed h filled m below places f.store cells) in
                let moved_at : h.alloc + 8 ≡ h.alloc + 8 = refl in
                let all = cells_append program.l program.setting.address program.procs program.meaning
                (places ++ h.alloc ∷ []) (objects ++ box ∷ []) 0 m places f.store h.alloc (value locals group o ∷ [])
                old
                ends (record {
                  head = box_header 1;
                  words = w ∷ [];
                  is = stands_there;
                  held = held.1;
                  carried = (
                    grown program.l program.setting.address program.procs program.meaning program.laws places
                        (places ++ h.alloc ∷ []) kept objects (box ∷ []) (value locals group o) [] w carried.0,
                    tt,
                  );
                }) in
                let rest' = rest_grown program.setting program.l program.run program.procs program.answer
                program.meaning
                program.laws places (places ++ h.alloc ∷ []) kept objects (box ∷ [])
                (CallersHere program places objects waiting)
                (CallersHere program (places ++ h.alloc ∷ []) (objects ++ box ∷ []) waiting)
                (λ frames c. callers_grown program.setting program.l program.run program.procs program.answer
                program.meaning program.laws places (places ++ h.alloc ∷ []) kept objects (box ∷ []) waiting frames c) s
                count size group depth f.frames next rests words rest in
                let many = as_many_cells program.l program.setting.address program.procs program.meaning places objects
                0
                h.memory places f.store cells in
                here program.setting P Q (at f.world h' waiting size rests (set_local d h.alloc new) k) (
                  due_for program places objects next,
                  settle program typed (places ++ h.alloc ∷ []) (objects ++ box ∷ []) h' f.world filled'
                      (f.store ++ (value locals group o ∷ []) ∷ []) f.frames all
                      (RunLoc (length f.store) false) waiting size
                      rests (set_local d h.alloc new) k (due_for program places objects next)
                      (given program (places ++ h.alloc ∷ []) (objects ++ box ∷ []) waiting s count size group depth
                      f.frames
                      next rests words (set_local d h.alloc new) (RunLoc (length f.store) false) h.alloc rest'
                      (1, last_place places h.alloc (length f.store) many, inr stands_there, λ e. refl)
                      (word_here d h.alloc new)
                      (λ j ne side. word_other d h.alloc new j ne ∙ touched 1 (omega arith) new changed j ne side)),
                  kept_by program f (next_state program f made) f.world f.world h h' waiting size rests words
                      (set_local d h.alloc new) (perform program.run s d (Prim MakeBox (o ∷ [])) k) k
                      (due_for program places objects next) fit.begins fit.paid (omega (arith, asks)),
                )

  -- the box of a cell stands in the region
  module _ (cell w n : ℕ) (values : List (FlatValue program.meaning.Cast)) (at_place : slice_get places cell ≡ Some w)
      (there : There program.l objects w (Cell (box_header n) n)) (one_word_long : n ≡ 1)
      (in_store : slice_get f.store cell ≡ Some values) where
    held_cell : CellHeld program.l program.setting.address program.procs program.meaning places objects h.memory w
        values
    held_cell =
        cell_of program.l program.setting.address program.procs program.meaning places objects 0 h.memory places f.store
        cells cell w values at_place in_store

    same_object : Cell (box_header n) n ≡ Cell held_cell.head (length held_cell.words)
    same_object = there_is program.l objects w (Cell (box_header n) n) (Cell held_cell.head (length held_cell.words))
        program.placed.before there held_cell.is

    one_long : length held_cell.words ≡ 1
    one_long = sym (counts (box_header n) held_cell.head n (length held_cell.words) same_object) ∙ one_word_long
      where
        counts : (a b c e : ℕ) → Cell a c ≡ Cell b e → c ≡ e
        counts a b c e q = cc

    kind_there : WordThere program.meaning program.setting program.l program.placed h.memory w (5 + 4294967296 * n)
    kind_there = subst (WordThere program.meaning program.setting program.l program.placed h.memory w) (header_is 5 n)
        (header_there program.meaning program.setting program.l program.placed objects h filled w
        (Cell (box_header n) n) there)

  -- ---- a box is read

  module _ (o : Operand) (bound : (operand_bound s.captured count depth o && true) ≡ true) (cell : ℕ)
      (is : value locals group o ≡ RunLoc cell false) (v : FlatValue program.meaning.Cast)
      (in_store : slice_get f.store cell ≡ Some (v ∷ [])) where
    -- code for a box in a wrapper
    abbrev pub other : Code
    other = Call (word_for program places objects s next) program.run.read
        (Number 0 ∷ found s (operand_word s 0) o ∷ Number 0 ∷ []) Done

    abbrev pub read_after : FlatAfter program.meaning.Cast
    read_after = On (Return v) f.frames f.store f.world

    abbrev read_scene : Scene
    read_scene = scene_for program f (next_state program f read_after) h.words (room_over program size waiting)
        (turn_goal program f (next_state program f read_after) (start_of Unbox (o ∷ []))) places

    abbrev a : LowSource
    a = found s (operand_word s 0) o

    pub box_read_here : Follows program f read_after (at f.world h waiting size rests words (fetch_all s 0 (o ∷ [])
        (of_kind s (found s (operand_word s 0) o) 5
        (Load (word_for program places objects s next) (found s (operand_word s 0) o) 8 Done) other
        (code_for program places objects s next))))
    box_read_here =
        fetch_all_reads read_scene f.world h (at_start program f (next_state program f read_after) f.world h.words
        refl) objects filled waiting size (stays_in program size waiting) rests s count group depth locals
        (o ∷ []) 0 bound (omega arith) wide words fits.knows (of_kind s a 5 (Load d a 8 Done) other k)
        (λ ws new carried are changed. by_words ws new carried are changed)
      where
        P : LowState → Type 0
        P = Way program f (next_state program f read_after) h.words (room_over program size waiting)

        Q : Goal
        Q = turn_goal program f (next_state program f read_after) (start_of Unbox (o ∷ []))

        calm : Calm program.setting P Q size waiting f.world h
        calm rests locals code = (
          at_start program f (next_state program f read_after) f.world h.words refl,
          (objects, filled),
          stays_in program size waiting,
        )

        by_words : (ws : List ℕ) (new : Locals)
            → AreCarried program.l program.setting.address program.procs program.meaning places objects
            (in_row (values locals group (o ∷ []))) ws → words_of new (found_all s 0 (o ∷ [])) ≡ Some ws
            → ChangesFrom (operand_word s 0) 1 words new
            → Comes program.setting (Way program f (next_state program f read_after) h.words
            (room_over program size waiting))
            (turn_goal program f (next_state program f read_after) (start_of Unbox (o ∷ [])))
            (at f.world h waiting size rests new (of_kind s a 5 (Load d a 8 Done) other k))
        by_words [] new carried are changed = absurd carried
        by_words (w ∷ x ∷ ws) new carried are changed = absurd carried.1
        by_words (w ∷ []) new carried are changed =
            by_cell c.0 c.1 c.2 c.3
          where
            c : (n : ℕ) × (slice_get places cell ≡ Some w) × There program.l objects w (Cell (box_header n) n)
                × (false ≡ false → n ≡ 1)
            c = subst (λ u. CarriedHere program places objects u w) is carried.0

            by_cell : (n : ℕ) → slice_get places cell ≡ Some w → There program.l objects w (Cell (box_header n) n)
                → (false ≡ false → n ≡ 1)
                → Comes program.setting (Way program f (next_state program f read_after) h.words
                (room_over program size waiting))
                (turn_goal program f (next_state program f read_after) (start_of Unbox (o ∷ [])))
                (at f.world h waiting size rests new (of_kind s a 5 (Load d a 8 Done) other k))
            by_cell n at_place there single =
                by_held (held_cell cell w n (v ∷ []) at_place there (single refl) in_store).words
                (held_cell cell w n (v ∷ []) at_place there (single refl) in_store).is
                (held_cell cell w n (v ∷ []) at_place there (single refl) in_store).held
                (held_cell cell w n (v ∷ []) at_place there (single refl) in_store).carried
              where
                head : ℕ
                head = (held_cell cell w n (v ∷ []) at_place there (single refl) in_store).head

                by_held : (xs : List ℕ)
                    → object_at objects program.l.region w
                    ≡ Some (Cell (held_cell cell w n (v ∷ []) at_place there (single refl) in_store).head (length xs))
                    → HoldsWords h.memory (w + 8) xs
                    → AreCarried program.l program.setting.address program.procs program.meaning places objects
                    (in_row (v ∷ [])) xs
                    → Comes program.setting (Way program f (next_state program f read_after) h.words
                    (room_over program size waiting))
                    (turn_goal program f (next_state program f read_after) (start_of Unbox (o ∷ [])))
                    (at f.world h waiting size rests new (of_kind s a 5 (Load d a 8 Done) other k))
                by_held [] e held all = absurd all
                by_held (x ∷ y ∷ xs) e held all = absurd all.1
                by_held (x ∷ []) e held all =
                    let word = cell_word_there program.l program.setting.address program.procs program.meaning places
                    objects program.setting program.placed h filled w x [] head e held in
                    comes_on program.setting P Q (is_of_kind read_scene f.world h
                    (at_start program f (next_state program f read_after) f.world h.words refl) objects filled
                    waiting size (stays_in program size waiting)
                    rests s count group depth locals wide words fits.knows a w 5 n (Load d a 8 Done) other k new
                    (omega arith) (one_word (word_of new a) w are)
                    (kind_there cell w n (v ∷ []) at_place there (single refl) in_store)
                    (λ last more.
                    let still = one_word (word_of last a) w
                    (found_all_same read_scene f.world h (at_start program f
                    (next_state program f read_after) f.world h.words refl) objects filled waiting size
                    (stays_in program size waiting) rests s count group
                    depth
                    locals (o ∷ []) 0 bound (omega arith) new last more ∙ are) in
                    loads program.setting P Q calm w x still word.may word.is (let z = word.end in omega arith) less
                    (falls_through program.setting P Q calm
                    (put program typed f places objects h filled cells waiting size rests words s count depth group
                    locals operation next fits rest (perform program.run s d (Prim Unbox (o ∷ [])) k)
                    (fitting Unbox (o ∷ []) (omega arith)) v x (set_local d x last) all.0 (word_here d x last)
                    (λ j ne side. word_other d x last j ne
                    ∙ (more j (not_computed s (test_word s) j (omega arith) (omega arith) side)
                    ∙ touched 1 (omega arith) new changed j ne side))))))

  -- ---- a box is written

  module _ (b o : Operand) (bound : operands_bound s.captured count depth (b ∷ o ∷ []) ≡ true) (cell : ℕ)
      (is : value locals group b ≡ RunLoc cell false) (old : List (FlatValue program.meaning.Cast))
      (in_store : slice_get f.store cell ≡ Some old) where
    -- code for a box in a wrapper
    abbrev pub other' : Code
    other' = Call (word_for program places objects s next) program.run.write
        (Number 0 ∷ found s (operand_word s 0) b ∷ Number 0 ∷ found s (operand_word s 1) o ∷ []) Done

    abbrev pub written_after : FlatAfter program.meaning.Cast
    written_after =
        On (Return RunUnit) f.frames (slice_set f.store cell (value locals group o ∷ [])) f.world

    abbrev write_scene : Scene
    write_scene =
        scene_for program f (next_state program f written_after) h.words (room_over program size waiting)
        (turn_goal program f (next_state program f written_after) (start_of BoxSet (b ∷ o ∷ []))) places

    as_written : Rattle.lower.proofs.simulation.Way.Allowed program f (next_state program f written_after) h.words
        f.world h.words
    as_written = at_start program f (next_state program f written_after) f.world h.words refl

    abbrev to : LowSource
    to = found s (operand_word s 0) b

    abbrev from : LowSource
    from = found s (operand_word s 1) o

    pub box_written_here : Follows program f written_after (at f.world h waiting size rests words
        (fetch_all s 0 (b ∷ o ∷ [])
        (of_kind s (found s (operand_word s 0) b) 5
        (Store (found s (operand_word s 1) o) (found s (operand_word s 0) b) 8
        (Set (word_for program places objects s next) (Number 0) Done)) other'
        (code_for program places objects s next))))
    box_written_here =
        fetch_all_reads write_scene f.world h as_written objects filled waiting size (stays_in program size waiting)
        rests s count group depth locals
        (b ∷ o ∷ []) 0 bound (omega arith) wide words fits.knows
        (of_kind s to 5 (Store from to 8 (Set d (Number 0) Done)) other' k)
        (λ ws new carried are changed. by_words ws new carried are changed)
      where
        P : LowState → Type 0
        P = Way program f (next_state program f written_after) h.words (room_over program size waiting)

        Q : Goal
        Q = turn_goal program f (next_state program f written_after) (start_of BoxSet (b ∷ o ∷ []))

        At : Locals → LowState
        At new = at f.world h waiting size rests new (of_kind s to 5 (Store from to 8 (Set d (Number 0) Done)) other' k)

        by_words : (ws : List ℕ) (new : Locals)
            → AreCarried program.l program.setting.address program.procs program.meaning places objects
            (in_row (values locals group (b ∷ o ∷ []))) ws → words_of new (found_all s 0 (b ∷ o ∷ [])) ≡ Some ws
            → ChangesFrom (operand_word s 0) 2 words new
            → Comes program.setting (Way program f (next_state program f written_after) h.words
            (room_over program size waiting))
            (turn_goal program f (next_state program f written_after) (start_of BoxSet (b ∷ o ∷ [])))
            (at f.world h waiting size rests new (of_kind s to 5 (Store from to 8 (Set d (Number 0) Done)) other' k))
        by_words [] new carried are changed = absurd carried
        by_words (w ∷ []) new carried are changed = absurd carried.1
        by_words (w ∷ y ∷ z ∷ ws) new carried are changed = absurd carried.1.1
        by_words (w ∷ y ∷ []) new carried are changed = by_cell c.0 c.1 c.2 c.3
          where
            c : (n : ℕ) × (slice_get places cell ≡ Some w) × There program.l objects w (Cell (box_header n) n)
                × (false ≡ false → n ≡ 1)
            c = subst (λ u. CarriedHere program places objects u w) is carried.0

            small : y < 2 ^ 64
            small = carried_small program.l program.setting.address program.procs program.meaning program.laws places
                objects program.setting program.placed h filled (value locals group o) y carried.1.0

            by_cell : (n : ℕ) → slice_get places cell ≡ Some w → There program.l objects w (Cell (box_header n) n)
                → (false ≡ false → n ≡ 1)
                → Comes program.setting (Way program f (next_state program f written_after) h.words
                (room_over program size waiting))
                (turn_goal program f (next_state program f written_after) (start_of BoxSet (b ∷ o ∷ [])))
                (at f.world h waiting size rests new (of_kind s to 5 (Store from to 8 (Set d (Number 0) Done)) other'
                k))
            by_cell n at_place there single =
                comes_on program.setting P Q (is_of_kind write_scene f.world h as_written objects filled waiting size
                (stays_in program size waiting) rests s count group depth locals wide words fits.knows to w 5 n
                (Store from to 8 (Set d (Number 0) Done))
                other' k new (omega arith) (and_more_parts (word_of new to) (words_of new (from ∷ [])) w (y ∷ []) are).0
                (kind_there cell w n old at_place there (single refl) in_store)
                (λ last more.
                let still = found_all_same write_scene f.world h as_written objects filled waiting size
                (stays_in program size waiting) rests s count
                group depth locals (b ∷ o ∷ []) 0 bound (omega arith) new last more ∙ are in
                let both = and_more_parts (word_of last to) (words_of last (from ∷ [])) w (y ∷ []) still in
                stores program.setting P Q
                (λ rests locals code. (
                  at_start program f (next_state program f written_after) f.world h.words refl,
                  (objects, filled),
                  stays_in program size waiting,
                )) w y
                (one_word (word_of last from) y both.1) both.0 may (omega (arith, s1.high, filled.fits, top))
                (sets_word program.setting P Q calm2 0 refl less
                (falls_through program.setting P Q calm2
                (here program.setting P Q (at f.world h2 waiting size rests (set_local d 0 last) k) (
                  due_for program places objects next,
                  settle program typed places objects h2 f.world filled2
                      (slice_set f.store cell (value locals group o ∷ [])) f.frames cells2 RunUnit waiting size rests
                      (set_local d 0 last) k (due_for program places objects next)
                      (given program places objects waiting s count size group depth f.frames next rests words
                      (set_local d 0 last) RunUnit 0 rest refl (word_here d 0 last)
                      (λ j ne side. word_other d 0 last j ne
                      ∙ (more j (not_computed s (test_word s) j (omega arith) (omega arith) side)
                      ∙ touched 2 (omega arith) new changed j ne side))),
                  kept_by program f (next_state program f written_after) f.world f.world h h2 waiting size rests words
                      (set_local d 0 last) (perform program.run s d (Prim BoxSet (b ∷ o ∷ [])) k) k
                      (due_for program places objects next) fit.begins fit.paid (omega arith),
                ))))))
              where
                top : program.setting.top < 2 ^ 64
                top = program.placed.top

                hc : CellHeld program.l program.setting.address program.procs program.meaning places objects h.memory w
                    old
                hc = held_cell cell w n old at_place there (single refl) in_store

                long : length hc.words ≡ 1
                long = one_long cell w n old at_place there (single refl) in_store

                is_one : object_at objects program.l.region w ≡ Some (Cell hc.head 1)
                is_one = hc.is ∙ ap (λ z. Some (Cell hc.head z)) long

                s1 : Stands program.meaning program.setting program.l program.placed h w (bytes_of (Cell hc.head 1))
                s1 = stands program.meaning program.setting program.l program.placed objects h filled w (Cell hc.head 1)
                    (inr is_one)

                within : Within program.l.region (program.l.region + bytes_of_all objects) w (bytes_of (Cell hc.head 1))
                within = found_within objects program.l.region w (Cell hc.head 1) is_one

                may : may_store program.setting.region program.setting.top (w + 8) ≡ true
                may = storable program.setting.region program.setting.top (w + 8) (omega (arith, s1.even))
                    (let z = program.begins in omega (arith, within.low, z)) (omega (arith, s1.high, filled.fits))

                h2 : Heap
                h2 = record h { memory = store_bytes 8 h.memory (w + 8) y }

                filled2 : Filled program.meaning program.setting program.l program.number objects
                    (record h { memory = store_bytes 8 h.memory (w + 8) y })
                filled2 = record {
                  objects_stand = holds_stored h.memory objects program.l.region w hc.head 1 (w + 8) y
                      filled.objects_stand is_one (omega arith) (omega arith);
                  statics_stand = holds_same h.memory (store_bytes 8 h.memory (w + 8) y) program.l.first
                      program.l.statics
                      (λ i p q. stored_outside 8 h.memory (w + 8) y i
                      (inl (omega (arith, q, within.low, program.placed.before)))) filled.statics_stand;
                  ends = filled.ends;
                  fits = filled.fits;
                  keeps = filled.keeps;
                }

                calm2 : Calm program.setting P Q size waiting f.world
                    (record h { memory = store_bytes 8 h.memory (w + 8) y })
                calm2 rests locals code = (
                  at_start program f (next_state program f written_after) f.world h.words refl,
                  (objects, filled2),
                  stays_in program size waiting,
                )

                fit : Fitting program places objects f s size next (perform program.run s
                    (word_for program places objects s next) (Prim BoxSet (b ∷ o ∷ []))
                    (code_for program places objects s next))
                fit = fitting BoxSet (b ∷ o ∷ []) (omega arith)

                cells2 : CellsHeld program.l program.setting.address program.procs program.meaning places objects
                    (store_bytes 8 h.memory (w + 8) y) places (slice_set f.store cell (value locals group o ∷ []))
                cells2 = cells_stored program.l program.setting.address program.procs program.meaning places objects
                    h.memory w hc.head 1 (w + 8) y is_one (omega arith) (omega arith) 0 places f.store cells cell
                    at_place
                    (value locals group o ∷ []) (record {
                      head = hc.head;
                      words = y ∷ [];
                      is = is_one;
                      held = (record { is = load_stored 8 h.memory (w + 8) y small; small = small }, tt);
                      carried = (carried.1.0, tt);
                    })
