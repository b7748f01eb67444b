-- The procedure that makes vectors does what its operator does, in every scheme whose account lets it.
use Rattle.std.proofs.Common.{◌≡◌, inl, inr, ℕ, zero, suc, ◌+◌, ◌*◌, ◌%◌, ◌^◌, ◌<◌, ◌≤◌, pos, negsuc, List, [], ◌∷◌}
use Rattle.std.proofs.Common.{◌++◌, length, Some, true, le_refl, refl, sym, ap, ◌∙◌, subst, arith, slice_get, replicate}
use Rattle.grift_base.specs.EnvironmentCall.{environment_call}
use Rattle.grift_base.specs.declared.operators.PrimOp.TheVariants.{MakeVector}
use Rattle.grift_base.specs.declared.verdicts.Trap.TheVariants.{Length}
use Rattle.grift_base.specs.declared.verdicts.Verdict.TheVariants.{Trap as TrapVerdict}
use Rattle.run_laws.specs.Runs.{Verdict as EndsWith}
use Rattle.machine_words.specs.Halts.{ending_of}
use Rattle.machine_words.specs.Memory.{Memory}
use Rattle.core_calc.specs.Account.{Measures, MakesVector, Acts}
use Rattle.object_layout.specs.declared.kinds.Kind.TheVariants.{Vector}
use Rattle.low_ir.specs.declared.code.LowSource.TheVariants.{Word}
use Rattle.low_ir.specs.Procedures.{Code, Done, Return as ReturnCode}
use Rattle.low_ir.specs.Steps.{Locals}
use Rattle.low_ir.specs.Run.{Setting, Waiting, LowState, goes_on, entered}
use Rattle.cast_modes.specs.Modes.{TypeCast}
use Rattle.cast_modes.specs.RunValues.{RunInt, RunBool, RunUnit, RunFun, RunTuple, RunLoc, RunWrap, RunInject}
use Rattle.cast_modes.specs.RunValues.{in_row}
use Rattle.cast_modes.specs.ValueSteps.{Return, On, TrapOf}
use Rattle.coercion_norm.specs.Objects.{Object, Fixed, Cell, bytes_of_all, object_at}
use Rattle.coercion_norm.specs.Held.{Layout}
use Rattle.coercion_norm.proofs.Public.{last_stands}
use Rattle.flat_ir.specs.Bodies.{Proc}
use Rattle.flat_ir.specs.FlatTally.{operator_cost}
use Rattle.coer_core.specs.TurnPrices.{kind_cost}
use Rattle.cast_modes.specs.Prices.{Cost}
use Rattle.flat_ir.specs.Machine.{FlatValue, FlatFrame, FlatStore, FlatAfter, flat_operate}
use Rattle.low_ir.specs.Frames.{stack_room, frame_room, waiting_room}
use Rattle.rt_cast.specs.Objects.{HasWord, HoldsWords}
use Rattle.rt_cast.specs.States.{Placed, around, st, heap_of}
use Rattle.rt_refs.specs.FillCodes.{fill_loop, fill_proc, trap_length}
use Rattle.reference_laws.proofs.Public.{vectors_are_filled, lengths_below_zero_go_on}
use Rattle.lowered_code.specs.declared.served.Served.{Served}
use Rattle.lower.specs.Meanings.{Meaning, MeaningLaws}
use Rattle.lower.specs.CarriedValues.{AreCarried}
use Rattle.lower.specs.SchemeLaws.{Here, OnWay, StopsNow, Returns, ReturnsAt, Answers, OperatorDone}
use Rattle.lower.specs.SchemeLaws.{at_or_zero, operator_leaves}
use Rattle.lower.specs.Storage.{Filled}
use Rattle.lower.proofs.heap.Objects.{vector_header}
use Rattle.lower.proofs.heap.CarriedLater.{grown, cells_grown, cells_below, carried_small}
use Rattle.lower.proofs.heap.Cells.{as_many_cells, cells_append, cells_end}
use Rattle.lower.proofs.heap.Filled.{filled_above, filled_more}
use Rattle.lower.proofs.simulation.Services.{kept_in_front}
use Rattle.lower.proofs.words.Arithmetic.{word_small, positive_is, negative_is}

last_place : (xs : List ℕ) (x n : ℕ) → length xs ≡ n → slice_get (xs ++ x ∷ []) n ≡ Some x
last_place [] x zero e = refl
last_place [] x (suc n) e = absurd (omega (arith, e))
last_place (y ∷ xs) x zero e = absurd (omega (arith, e))
last_place (y ∷ xs) x (suc n) e = last_place xs x n (omega (arith, e))

length_of_same : (n w : ℕ) → length (replicate n w) ≡ n
length_of_same zero w = refl
length_of_same (suc n) w = ap suc (length_of_same n w)

bytes_even : (os : List Object) → bytes_of_all os % 8 ≡ 0
bytes_even [] = refl
bytes_even (Fixed head ws ∷ os) = let z = bytes_even os in omega (arith, z)
bytes_even (Cell head n ∷ os) = let z = bytes_even os in omega (arith, z)

-- the loop's frame has its room, and the account lets a vector of so many elements ask for its words and spend what the
-- procedure costs with what is to be left, and a length below 0 spend what comes before the trap
pub record LetsFill (meaning : Meaning) (l : Layout) (casts : List TypeCast) (m : Measures) : Type 0 where
  pub serving : 1 ≤ meaning.serving l
  pub asks : (n : ℕ) → n + 1 ≤ ((meaning.prices l.types casts m).other (Some (MakesVector n)) 0 0).asks
  pub budget : (n : ℕ)
      → 61 * n + 124 + operator_leaves ≤ ((meaning.prices l.types casts m).other (Some (MakesVector n)) 0 0).budget
  pub traps : 14 ≤ ((meaning.prices l.types casts m).other (Some Acts) 0 0).budget

-- it does where these turns cost what their kinds tell
pub plainly_lets : (meaning : Meaning) (l : Layout) (casts : List TypeCast) (m : Measures) → 1 ≤ meaning.serving l
    → ((n : ℕ) → (meaning.prices l.types casts m).other (Some (MakesVector n)) 0 0
    ≡ kind_cost m (Some (MakesVector n)) 0 0)
    → (meaning.prices l.types casts m).other (Some Acts) 0 0 ≡ kind_cost m (Some Acts) 0 0
    → LetsFill meaning l casts m
plainly_lets meaning l casts m serves vectors acts = record {
  serving = serves;
  asks = λ n. let e = ap (λ c. c.asks) (vectors n) in omega (arith, e);
  budget = λ n. let e = ap (λ c. c.budget) (vectors n) in omega (arith, e);
  traps = let e = ap (λ c. c.budget) acts in omega (arith, e);
}

module _ (meaning : Meaning) (laws : MeaningLaws meaning) (setting : Setting) (l : Layout) (procs : List Proc)
    (casts : List TypeCast) (m : Measures) (lets : LetsFill meaning l casts m) (placed : Placed setting l)
    (begins : l.region ≡ setting.region) (narrow : setting.top < 2 ^ 34) (own : ℕ)
    (there : slice_get setting.procs own ≡ Some (fill_loop own)) where
  module _ (s : LowState) (number : ℕ) (places : List ℕ) (objects : List Object) (store : FlatStore meaning.Cast)
      (here : Here meaning setting l procs casts m places objects store number (heap_of s))
      (base : List (FlatFrame meaning.Cast)) where
    module _ (n w : ℕ) (v : FlatValue meaning.Cast)
        (cv : AreCarried l setting.address procs meaning places objects (in_row (v ∷ [])) (w ∷ []))
        (memory : Memory) (same : (j : ℕ) → j < s.alloc → memory j ≡ s.memory j)
        (head : HasWord memory s.alloc (vector_header n)) (held : HoldsWords memory (s.alloc + 8) (replicate n w))
        (room : s.alloc + 8 * (n + 1) ≤ setting.top) (t : LowState)
        (heap : heap_of t ≡ record { memory = memory; alloc = s.alloc + 8 * (n + 1); words = s.words + (n + 1) })
        (code : t.active.code ≡ ReturnCode (Word 3)) (local : t.active.locals 3 ≡ Some s.alloc)
        (waits : t.waiting ≡ s.waiting) (world : t.world ≡ s.world) where
      abbrev vector : Object
      vector = Cell (vector_header n) n

      abbrev bigger : List ℕ
      bigger = places ++ s.alloc ∷ []

      all_carried : (n : ℕ) → AreCarried l setting.address procs meaning bigger (objects ++ vector ∷ [])
          (in_row (replicate n v)) (replicate n w)
      all_carried zero = tt
      all_carried (suc n) = (
        grown l setting.address procs meaning laws places bigger (kept_in_front places (s.alloc ∷ []))
            objects (vector ∷ []) v [] w cv.0,
        all_carried n,
      )

      long : length (replicate n w) ≡ n
      long = length_of_same n w

      there_now : object_at (objects ++ Cell (vector_header n) n ∷ []) l.region s.alloc
          ≡ Some (Cell (vector_header n) n)
      there_now = last_stands objects [] (Cell (vector_header n) n) l.region s.alloc here.filled.ends

      full : Filled meaning setting l number (objects ++ Cell (vector_header n) n ∷ [])
          (record { memory = memory; alloc = s.alloc + 8 * (n + 1); words = s.words + (n + 1) })
      full =
          filled_more meaning setting l placed objects (Cell (vector_header n) n ∷ []) (heap_of s) memory
          (s.alloc + 8 * (n + 1)) (s.words + (n + 1)) here.filled same (head, tt)
          (laws.keeps_more l objects number (Cell (vector_header n) n) (record {
            kind = Vector;
            count = n;
            head = refl;
            long = refl;
            free = refl;
            allowed = refl;
          }) here.filled.keeps) (omega arith) room

      made_here : Here meaning setting l procs casts m bigger (objects ++ vector ∷ [])
          (store ++ replicate n v ∷ []) number
          (record { memory = memory; alloc = s.alloc + 8 * (n + 1); words = s.words + (n + 1) })
      made_here = record {
        filled = full;
        cells =
            cells_append l setting.address procs meaning bigger (objects ++ vector ∷ []) 0 memory places store s.alloc
            (replicate n v)
            (cells_grown l setting.address procs meaning laws places bigger (kept_in_front places (s.alloc ∷ []))
            objects (vector ∷ []) 0 memory places store
            (cells_below l setting.address procs meaning laws places objects setting placed (heap_of s) here.filled
            memory same places store here.cells))
            (cells_end l setting.address procs meaning places objects setting placed (heap_of s) here.filled 0 places
            store here.cells (omega arith))
            (record {
              head = vector_header n;
              words = replicate n w;
              is = there_now ∙ ap (λ k. Some (Cell (vector_header n) k)) (sym long);
              held = held;
              carried = all_carried n;
            });
      }

      no_wraps : number ≡ number + 0
      no_wraps = omega arith

      returned : ReturnsAt meaning setting l procs casts m s places objects (RunLoc (length store) true)
          (store ++ replicate n v ∷ []) (number + 0) t
      returned = record {
        cells = s.alloc ∷ [];
        more = vector ∷ [];
        here = subst (λ k. Here meaning setting l procs casts m bigger (objects ++ vector ∷ [])
            (store ++ replicate n v ∷ []) k (heap_of t)) no_wraps
            (subst (λ h. Here meaning setting l procs casts m bigger (objects ++ vector ∷ [])
            (store ++ replicate n v ∷ []) number h) (sym heap) made_here);
        word = s.alloc;
        carried = (
          n,
          last_place places s.alloc (length store)
              (as_many_cells l setting.address procs meaning places objects 0 s.memory places store here.cells),
          inr there_now,
          λ e. absurd (let z : ⊥ = cc in z),
        );
        source = Word 3;
        code = code;
        is = local;
        waits = waits;
        same = world;
      }

    above : setting.region ≤ s.alloc
    above = let e = here.filled.ends in omega (arith, e, begins)

    even : s.alloc % 8 ≡ 0
    even = let z = bytes_even objects in let e = here.filled.ends in omega (arith, z, e, placed.even_region)

    abbrev cost : List (FlatValue meaning.Cast) → Cost
    cost vs =
        operator_cost procs (meaning.mode l.types casts) (meaning.prices l.types casts m) MakeVector vs

    abbrev Says : FlatAfter meaning.Cast → Cost → LowState → Type 0
    Says x c te =
        Answers meaning setting l procs casts m s operator_leaves places objects base x c number 0 te

    abbrev begun : ℕ → ℕ → LowState
    begun n w = entered s (fill_proc own) (n ∷ w ∷ [])

    -- on the way, where memory below the allocation word is as it was
    way : (te : LowState) (asks n' count : ℕ) (locals : Locals) (code : Code) (rests : List Code)
        (waiting : List Waiting) (memory : Memory) (words : ℕ) → te.words ≡ s.words
        → ((j : ℕ) → j < s.alloc → memory j ≡ s.memory j)
        → frame_room count + waiting_room waiting ≤ waiting_room s.waiting + 25 * (1 + 1) → words ≤ s.words + asks
        → OnWay meaning setting l procs casts m s te asks number n'
        (st (around s) count locals code rests waiting (record { memory = memory; alloc = s.alloc; words = words }))
    way te asks n' count locals code rests waiting memory words same_words same room few = record {
      objects = objects;
      filled = inl (filled_above meaning setting l placed objects (heap_of s) memory words here.filled same);
      same = refl;
      room = let z = lets.serving in omega (arith, z, room);
      asked = omega (arith, few, same_words);
    }

    made : (n w wn : ℕ) (v : FlatValue meaning.Cast) → wn ≡ n → n < 2 ^ 63
        → (cv : AreCarried l setting.address procs meaning places objects (in_row (v ∷ [])) (w ∷ []))
        → Says (On (Return (RunLoc (length store) true)) base (store ++ replicate n v ∷ []) s.world)
        (cost (RunInt (pos n) ∷ v ∷ [])) (begun wn w)
    made n w wn v is lt cv =
        subst (λ k. Says (On (Return (RunLoc (length store) true)) base (store ++ replicate n v ∷ []) s.world)
        (cost (RunInt (pos n) ∷ v ∷ [])) (begun k w)) (sym is) so
      where
        asks : ℕ
        asks = (cost (RunInt (pos n) ∷ v ∷ [])).asks

        te : LowState
        te = begun n w

        enough : n + 1 ≤ asks
        enough = lets.asks n

        paid : 61 * n + 124 + operator_leaves ≤ (cost (RunInt (pos n) ∷ v ∷ [])).budget
        paid = lets.budget n

        small : w < 2 ^ 64
        small = carried_small l setting.address procs meaning laws places objects setting placed (heap_of s) here.filled
            v w cv.0

        Lands : LowState → Type 0
        Lands u =
            (u.words ≤ te.words + asks) × (stack_room u ≤ stack_room s + 25 * (1 + meaning.serving l))
            × Returns meaning setting l procs casts m s operator_leaves places objects base
            (Return (RunLoc (length store) true)) base (store ++ replicate n v ∷ []) (number + 0) operator_leaves u

        so : Says (On (Return (RunLoc (length store) true)) base (store ++ replicate n v ∷ []) s.world)
            (cost (RunInt (pos n) ∷ v ∷ [])) (begun n w)
        so =
            let z = vectors_are_filled ending_of setting s refl
            (OnWay meaning setting l procs casts m s te asks number (number + 0)) Lands own there n w small above even
            (omega (arith, narrow)) placed.top
            (λ count locals code rests waiting memory words same few room asked.
            way te asks (number + 0) count locals code rests waiting memory words refl same room
            (omega (arith, asked, enough)))
            (λ memory locals rests same head held room local. (
              omega (arith, enough),
              (let y = lets.serving in omega (arith, y)),
              (
                refl,
                le_refl operator_leaves,
                returned n w v cv memory same head held room
                    (st (around s) 6 locals (ReturnCode (Word 3)) rests s.waiting
                    (record { memory = memory; alloc = s.alloc + 8 * (n + 1); words = s.words + (n + 1) })) refl refl
                    local refl refl,
              ),
            )) lt in
            (0, (refl, (z.0, 61 * n + 124, operator_leaves, omega (arith, paid), z.3, z.2)))

    trapped : (n w : ℕ) (c : Cost) → 14 ≤ c.budget → 2 ^ 63 ≤ n → n < 2 ^ 64
        → Says (TrapOf Length s.world) c (begun n w)
    unfolding environment_call
    trapped n w c enough ge lt =
        let te : LowState = begun n w in
        let stopped : LowState = goes_on trap_length (Done ∷ []) te in
        let z = lengths_below_zero_go_on ending_of setting s
        (OnWay meaning setting l procs casts m s te c.asks number number)
        (λ u. (u.words ≤ te.words + c.asks) × (stack_room u ≤ stack_room s + 25 * (1 + meaning.serving l))
        × StopsNow meaning setting l procs casts m s number (EndsWith (TrapVerdict Length)) u) own n w ge lt
        (way te c.asks number 6 te.active.locals te.active.code [] s.waiting s.memory s.words refl (λ j less. refl)
        (omega arith) (omega arith)) (
          omega arith,
          (let y = lets.serving in omega (arith, y)),
          record {
            last = _;
            stops = refl;
            here = (objects, here.filled);
            after = (objects, here.filled);
            same = refl;
            same_after = refl;
          },
        ) in
        (0, (refl, refl, (1, 14, 0, omega (arith, enough), z.1, z.0)))

    does_for : (vs : List (FlatValue meaning.Cast)) (ws : List ℕ)
        → AreCarried l setting.address procs meaning places objects (in_row vs) ws
        → Says (flat_operate procs (meaning.mode l.types casts) store s.world MakeVector vs base) (cost vs)
        (begun (at_or_zero ws 0) (at_or_zero ws 1))
    does_for [] ws c = (0, refl)
    does_for (RunBool b ∷ vs) ws c = (0, refl)
    does_for (RunUnit ∷ vs) ws c = (0, refl)
    does_for (RunFun code captured ∷ vs) ws c = (0, refl)
    does_for (RunTuple values ∷ vs) ws c = (0, refl)
    does_for (RunLoc cell is_vector ∷ vs) ws c = (0, refl)
    does_for (RunWrap v d ∷ vs) ws c = (0, refl)
    does_for (RunInject v kept ∷ vs) ws c = (0, refl)
    does_for (RunInt (pos n) ∷ []) ws c = (0, refl)
    does_for (RunInt (negsuc n) ∷ []) ws c = (0, refl)
    does_for (RunInt (pos n) ∷ v ∷ x ∷ vs) ws c = (0, refl)
    does_for (RunInt (negsuc n) ∷ v ∷ x ∷ vs) ws c = (0, refl)
    does_for (RunInt (pos n) ∷ v ∷ []) [] c = absurd c
    does_for (RunInt (pos n) ∷ v ∷ []) (wn ∷ []) c = absurd c.1
    does_for (RunInt (pos n) ∷ v ∷ []) (wn ∷ w ∷ x ∷ ws) c = absurd c.1.1
    does_for (RunInt (pos n) ∷ v ∷ []) (wn ∷ w ∷ []) c =
        let z = positive_is n c.0.1 in made n w wn v (c.0.0 ∙ z.0) z.1 (c.1.0, tt)
    does_for (RunInt (negsuc n) ∷ v ∷ []) [] c = absurd c
    does_for (RunInt (negsuc n) ∷ v ∷ []) (wn ∷ []) c = absurd c.1
    does_for (RunInt (negsuc n) ∷ v ∷ []) (wn ∷ w ∷ x ∷ ws) c = absurd c.1.1
    does_for (RunInt (negsuc n) ∷ v ∷ []) (wn ∷ w ∷ []) c =
        let z = negative_is n c.0.1 in
        let y = word_small (negsuc n) c.0.1 in
        let e = c.0.0 in
        trapped wn w (cost (RunInt (negsuc n) ∷ v ∷ [])) lets.traps (omega (arith, z, e)) (omega (arith, y, e))

  pub vectors_are_served : (run : Served) → OperatorDone meaning setting l procs casts m run MakeVector (fill_proc own)
      (λ ws. at_or_zero ws 0 ∷ at_or_zero ws 1 ∷ [])
  vectors_are_served run = record {
    does = λ s number places objects store here base vs ws c handed.
        does_for s number places objects store here base vs ws c;
  }
