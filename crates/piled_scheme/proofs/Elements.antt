-- Elements of vectors are written, and the operators on vectors do what they do on all values, wrapped ones too: those
-- are never vectors.
use Rattle.std.proofs.Common.{◌≡◌, ◌⊎◌, inl, inr, ℕ, suc, ◌+◌, ◌*◌, ◌<◌, ◌≤◌, true, false, List}
use Rattle.std.proofs.Common.{[], ◌∷◌, length, Option, Some, None, refl, sym, ap, ◌∙◌, subst, arith, slice_get}
use Rattle.std.proofs.Common.{ℤ, pos, negsuc}
use Rattle.std.specs.Prelude.{slice_set}
use Rattle.std.specs.Int.{w64, cast_unsigned, int_wrap}
use Rattle.grift_base.specs.declared.operators.PrimOp.{PrimOp}
use Rattle.grift_base.specs.declared.operators.PrimOp.TheVariants.{VectorRef, VectorSet, VectorLength}
use Rattle.grift_base.specs.declared.verdicts.Trap.TheVariants.{Index}
use Rattle.core_calc.specs.Account.{Measures}
use Rattle.low_ir.specs.declared.code.LowSource.TheVariants.{Word, Number}
use Rattle.low_ir.specs.Prices.{entering_some}
use Rattle.low_ir.specs.Procedures.{Done, Store, Return as ReturnCode, Proc as LowProc}
use Rattle.low_ir.specs.Steps.{Locals, no_locals, set_local}
use Rattle.low_ir.specs.Run.{Setting, LowState, bind, entered}
use Rattle.cast_modes.specs.Modes.{TypeCast, piling}
use Rattle.cast_modes.specs.RunValues.{RunInt, RunBool, RunUnit, RunFun, RunTuple, RunLoc, RunWrap, RunInject}
use Rattle.cast_modes.specs.RunValues.{in_row}
use Rattle.cast_modes.specs.ValueSteps.{CastFrame, PrimFrame, Return, On, TrapOf, NoNext, on_some, element_or_trap}
use Rattle.cast_modes.specs.ValueSteps.{run_with_element}
use Rattle.coercion_norm.specs.Held.{Layout}
use Rattle.coercion_norm.specs.Objects.{Object}
use Rattle.coercion_norm.specs.ObjectsOfRows.{header}
use Rattle.flat_ir.specs.Bodies.{Proc}
use Rattle.flat_ir.specs.FlatTally.{act_cost}
use Rattle.coer_core.specs.TurnPrices.{piled_prices}
use Rattle.flat_ir.specs.Machine.{FlatValue, FlatFrame, FlatStore, FlatAfter, flat_arity, flat_entered, flat_operate}
use Rattle.rt_cast.specs.States.{Placed}
use Rattle.lower.specs.CarriedValues.{AreCarried}
use Rattle.lower.specs.SchemeLaws.{After, operator_leaves, at_or_zero}
use Rattle.lower.proofs.Public.{positive_is, negative_is}
use Rattle.lower.proofs.Public.{element_past, too_many}
use Rattle.lower.proofs.Public.{at, here, if_false, stores, left_of}
use Rattle.piled_scheme.specs.Codes.{read_proc, write_proc, in_vector}
use Rattle.piled_scheme.specs.Piling.{piled_meaning}
use Rattle.piled_scheme.proofs.Piles.{Carried, no_vector, no_cell}
use Rattle.piled_scheme.proofs.Storing.{after, may as may_write, end as end_of, wrote}
use Rattle.piled_scheme.proofs.Turns.{CellsAt, no_more, speech}
use Rattle.piled_scheme.proofs.Vectors.{element_inside, entering_most, counted, short, within, outside, trapped}
use Rattle.piled_scheme.proofs.Vectors.{element_read, length_read, P, Q, To, calm}
use Rattle.piled_scheme.proofs.Walking.{IsQuiet, quiet_way, room_of, walks, stays}

module _ (setting : Setting) (l : Layout) (procs : List Proc) (casts : List TypeCast) (m : Measures)
    (placed : Placed setting l) (begins : l.region ≡ setting.region) (s : LowState) (places : List ℕ)
    (objects : List Object) (store : FlatStore TypeCast)
    (cells : CellsAt setting l procs casts m s places objects store s) (base : List (FlatFrame TypeCast)) where
  open (speech setting l procs casts m s places objects store base operator_leaves)
      use {Filling, grown_number, Carries, Going, inside}

  abbrev AllCarried : List (FlatValue TypeCast) → List ℕ → Type 0
  AllCarried vs ws = AreCarried l setting.address procs piled_meaning places objects (in_row vs) ws

  abbrev Does : ℕ → FlatAfter TypeCast → ℕ → ℕ → LowState → Type 0
  Does i x credit n v =
      After piled_meaning setting l procs casts m s (Going i) x
      (act_cost procs (piling l.types casts) (piled_prices (piling l.types casts) m)) credit n 0 v

  abbrev turned : PrimOp → List (FlatValue TypeCast) → List (FlatFrame TypeCast) → FlatAfter TypeCast
  turned operator vs frames = flat_operate procs (piling l.types casts) store s.world operator vs frames

  -- ---- an element is written

  module _ (set : ℕ) where
    abbrev writes_at : ℕ → ℕ → ℕ → ℕ → LowState
    writes_at which a i w = entered s (write_proc set) (which ∷ a ∷ i ∷ w ∷ [])

    abbrev words_of_write : ℕ → ℕ → ℕ → Locals
    words_of_write a i w = bind 0 (1 ∷ a ∷ i ∷ w ∷ []) no_locals

    write_cost : (which a i w : ℕ) → left_of setting (writes_at which a i w) ≤ 300
    write_cost which a i w = by (slice_get setting.procs set) refl
      where
        by : (o : Option LowProc) → slice_get setting.procs set ≡ o → left_of setting (writes_at which a i w) ≤ 300
        by None e = let z = ap entering_some e in omega (arith, z)
        by (Some p) e = let z = ap entering_some e in let y = entering_most p.words in omega (arith, z, y)

    element_written : (cell a : ℕ) (c : Carries (RunLoc cell true) a) (index : ℤ) (wi : ℕ)
        → (wi ≡ cast_unsigned w64 index) × (int_wrap w64 index ≡ index) → (v : FlatValue TypeCast) (w : ℕ)
        → Carries v w → (n : ℕ) → Filling n → (credit : ℕ)
        → Does 0 (turned VectorSet (RunLoc cell true ∷ RunInt index ∷ v ∷ []) base) credit n (writes_at 1 a wi w)
    element_written cell a c index wi is v w cv n filled credit = by (slice_get store cell) refl
      where
        te : LowState
        te = writes_at 1 a wi w

        Writes : FlatAfter TypeCast → Type 0
        Writes x = Does 0 x credit n te

        -- the code up to the vector
        begins_so : (X : ℕ → LowState → Type 0) (need n' : ℕ)
            → To setting l procs casts m placed begins s places objects store cells base te need n n' X refl filled
            (inside (Done ∷ []) (words_of_write a wi w) (in_vector (Store (Word 3) (Word 2) 8 (ReturnCode (Number 0)))))
            → To setting l procs casts m placed begins s places objects store cells base te need n n' X refl filled te
        begins_so X need n' c =
            if_false setting
            (P setting l procs casts m placed begins s places objects store cells base te need n n' X refl filled)
            (Q setting l procs casts m placed begins s places objects store cells base te need n n' X refl filled)
            (calm setting l procs casts m placed begins s places objects store cells base te need n n' X refl filled) 1
            0 refl refl refl c

        past : (values : List (FlatValue TypeCast)) → slice_get store cell ≡ Some values → length values ≤ wi
            → Writes (TrapOf Index s.world)
        past values e le =
            trapped setting l procs casts m placed begins s places objects store cells base te n refl filled credit 0
            (λ X need go. begins_so X need n
            (outside setting l procs casts m placed begins s places objects store cells base te need n n X refl filled a
            c.0 wi c.2 refl refl
            (let z = counted setting l procs casts m placed begins s places objects store cells base n filled cell a c
            values e in omega (arith, z, le))
            (λ left le. go (Done ∷ Done ∷ []) _ left le)))
            (let z = write_cost 1 a wi w in omega (arith, z))

        found : (values : List (FlatValue TypeCast)) → slice_get store cell ≡ Some values → (i : ℕ) → wi ≡ i
            → i < length values
            → Writes (On (Return RunUnit) base (slice_set store cell (slice_set values i v)) s.world)
        found values e i index_is lt =
            let X = λ (left : ℕ) (u : LowState). Going 0 (Return RunUnit) base
            (slice_set store cell (slice_set values i v)) (n + 0) left u in
            let end = short setting l procs casts m placed begins s places objects store cells base n filled cell a c
            values e in
            let many_is = counted setting l procs casts m placed begins s places objects store cells base n filled cell
            a c values e in
            let heap = after setting l procs casts m placed begins s places objects store cells n filled cell a values e
            c.1 i v w cv lt (8 * i + a + 8) (omega arith) in
            let last = at s.world heap s.waiting 6 (Done ∷ Done ∷ []) (set_local 2 (8 * i + a) (set_local 2 (8 * i)
            (set_local 4 c.0 (set_local 4 (header 6 0 c.0) (words_of_write a wi w))))) (ReturnCode (Number 0)) in
            let ready = P setting l procs casts m placed begins s places objects store cells base te operator_leaves n
            (n + 0) X refl filled in
            let ended = Q setting l procs casts m placed begins s places objects store cells base te operator_leaves n
            (n + 0) X refl filled in (
              refl,
              walks setting l procs casts m s te 0 (credit + 896) operator_leaves n (n + 0) X
                  (begins_so X operator_leaves (n + 0)
                  (within setting l procs casts m placed begins s places objects store cells base te operator_leaves n
                  (n + 0) X refl filled a c.0 i c.2 refl (ap (λ k. Some k) index_is) (omega (arith, lt, many_is))
                  (omega (arith, lt, end))
                  (stores setting ready ended
                  (calm setting l procs casts m placed begins s places objects store cells base te operator_leaves n
                  (n + 0) X refl filled) (8 * i + a) w refl refl
                  (may_write setting l procs casts m placed begins s places objects store cells n filled cell a values e
                  c.1 i v w cv lt (8 * i + a + 8) (omega arith))
                  (end_of setting l procs casts m placed begins s places objects store cells n filled cell a values e
                  c.1 i v w cv lt (8 * i + a + 8) (omega arith))
                  (here setting ready ended last (
                    omega arith,
                    room_of setting l procs casts m s last refl (omega arith),
                    λ left le. (
                      refl,
                      le,
                      wrote setting l procs casts m placed begins s places objects store cells n filled cell a values e
                          c.1 i v w cv lt (8 * i + a + 8) (omega arith) last (n + 0) (sym (no_more n)) refl refl refl
                          refl,
                    ),
                  )))))
                  (let z = write_cost 1 a wi w in omega (arith, z)),
            )

        at_place : (values : List (FlatValue TypeCast)) → slice_get store cell ≡ Some values → (i : ℕ) → wi ≡ i
            → (o : Option (FlatValue TypeCast)) → slice_get values i ≡ o
            → Writes (element_or_trap (piling l.types casts) (flat_arity procs) (flat_entered procs) store s.world o i
            (λ place old. On (Return RunUnit) base (slice_set store cell (slice_set values place v)) s.world))
        at_place values e i index_is None got =
            past values e (let z = element_past values i got in omega (arith, z, index_is))
        at_place values e i index_is (Some old) got =
            found values e i index_is (element_inside values i old got)

        at_index : (values : List (FlatValue TypeCast)) → slice_get store cell ≡ Some values → (k : ℤ)
            → (wi ≡ cast_unsigned w64 k) × (int_wrap w64 k ≡ k)
            → Writes (run_with_element (piling l.types casts) (flat_arity procs) (flat_entered procs) store s.world
            values k (λ place old. On (Return RunUnit) base (slice_set store cell (slice_set values place v)) s.world))
        at_index values e (pos i) h =
            let z = positive_is i h.1 in at_place values e i (h.0 ∙ z.0) (slice_get values i) refl
        at_index values e (negsuc i) h =
            let z = negative_is i h.1 in
            let y = h.0 in
            let end = short setting l procs casts m placed begins s places objects store cells base n filled cell a c
            values e in
            past values e (omega (arith, z, y, end))

        by : (o : Option (List (FlatValue TypeCast))) → slice_get store cell ≡ o
            → Writes (on_some o (λ values. run_with_element (piling l.types casts) (flat_arity procs)
            (flat_entered procs) store s.world values index
            (λ place old. On (Return RunUnit) base (slice_set store cell (slice_set values place v)) s.world)))
        by None e = refl
        by (Some values) e = at_index values e index is

  -- ---- what is wrapped is no vector

  Stuck : PrimOp → (FlatValue TypeCast → List (FlatValue TypeCast)) → LowState → FlatValue TypeCast
      → List (FlatFrame TypeCast) → Type 0
  Stuck operator vs te v frames =
      (i : ℕ) × ((n : ℕ) → Filling n → (credit : ℕ) → Does i (turned operator (vs v) frames) credit n te)

  reads_stuck : (index : FlatValue TypeCast) (te : LowState) → IsQuiet s te → (v : FlatValue TypeCast) (cast : TypeCast)
      (wrapped : List TypeCast) (w : ℕ) → Carried l objects setting procs places v (cast ∷ wrapped) w
      → (frames : List (FlatFrame TypeCast))
      → (i : ℕ) × ((n : ℕ) → Filling n → (credit : ℕ)
      → Does i (turned VectorRef (v ∷ index ∷ []) frames) credit n te)
  reads_stuck index te q (RunInt x) cast wrapped w c frames = (0, λ n filled credit. refl)
  reads_stuck index te q (RunBool x) cast wrapped w c frames = (0, λ n filled credit. refl)
  reads_stuck index te q RunUnit cast wrapped w c frames = (0, λ n filled credit. refl)
  reads_stuck index te q (RunFun code captured) cast wrapped w c frames = (0, λ n filled credit. refl)
  reads_stuck index te q (RunTuple values) cast wrapped w c frames = (0, λ n filled credit. refl)
  reads_stuck index te q (RunLoc cell false) cast wrapped w c frames = (0, λ n filled credit. refl)
  reads_stuck index te q (RunLoc cell true) cast wrapped w c frames =
      absurd (no_vector l objects setting procs places placed cell cast wrapped w c)
  reads_stuck index te q (RunInject v kept) cast wrapped w c frames = (0, λ n filled credit. refl)
  reads_stuck index te q (RunWrap v other) cast wrapped w c frames =
      by (λ frames. reads_stuck index te q v other (cast ∷ wrapped) w c frames) ((piling l.types casts).reading other)
    where
      by : ((frames : List (FlatFrame TypeCast)) → (i : ℕ) × ((n : ℕ) → Filling n → (credit : ℕ)
          → Does i (turned VectorRef (v ∷ index ∷ []) frames) credit n te)) → (o : Option TypeCast)
          → (i : ℕ) × ((n : ℕ) → Filling n → (credit : ℕ)
          → Does i (on_some o (λ part. On (Return index) (PrimFrame VectorRef (v ∷ []) ∷ CastFrame part ∷ frames) store
          s.world)) credit n te)
      by ih None = (0, λ n filled credit. refl)
      by ih (Some part) =
          let r = ih (CastFrame part ∷ frames) in (
            suc r.0,
            λ n filled credit. (
              refl,
              stays setting l procs casts m s te 0 (credit + 896) n (n + 0)
                  (λ left u. Going (suc r.0) (Return index) (PrimFrame VectorRef (v ∷ []) ∷ CastFrame part ∷ frames)
                  store (n + 0) left u) (room_of setting l procs casts m s te q.2 q.3) (
                    tt,
                    quiet_way setting l procs casts m s objects te q (n + 0) (grown_number n filled),
                    r.1 (n + 0) (grown_number n filled) (credit + 896),
                  ),
            ),
          )

  lengths_stuck : (te : LowState) → IsQuiet s te → (v : FlatValue TypeCast) (cast : TypeCast) (wrapped : List TypeCast)
      (w : ℕ) → Carried l objects setting procs places v (cast ∷ wrapped) w
      → (i : ℕ) × ((n : ℕ) → Filling n → (credit : ℕ) → Does i (turned VectorLength (v ∷ []) base) credit n te)
  lengths_stuck te q (RunInt x) cast wrapped w c = (0, λ n filled credit. refl)
  lengths_stuck te q (RunBool x) cast wrapped w c = (0, λ n filled credit. refl)
  lengths_stuck te q RunUnit cast wrapped w c = (0, λ n filled credit. refl)
  lengths_stuck te q (RunFun code captured) cast wrapped w c = (0, λ n filled credit. refl)
  lengths_stuck te q (RunTuple values) cast wrapped w c = (0, λ n filled credit. refl)
  lengths_stuck te q (RunLoc cell false) cast wrapped w c = (0, λ n filled credit. refl)
  lengths_stuck te q (RunLoc cell true) cast wrapped w c =
      absurd (no_vector l objects setting procs places placed cell cast wrapped w c)
  lengths_stuck te q (RunInject v kept) cast wrapped w c = (0, λ n filled credit. refl)
  lengths_stuck te q (RunWrap v other) cast wrapped w c =
      let r = lengths_stuck te q v other (cast ∷ wrapped) w c in (
        suc r.0,
        λ n filled credit. (
          refl,
          stays setting l procs casts m s te 0 (credit + 896) n (n + 0)
              (λ left u. Going (suc r.0) (Return v) (PrimFrame VectorLength [] ∷ base) store (n + 0) left u)
              (room_of setting l procs casts m s te q.2 q.3) (
                tt,
                quiet_way setting l procs casts m s objects te q (n + 0) (grown_number n filled),
                r.1 (n + 0) (grown_number n filled) (credit + 896),
              ),
        ),
      )

  -- ---- the operators on all values

  module _ (unbox : ℕ) where
    abbrev reading_at : ℕ → ℕ → ℕ → LowState
    reading_at which a i = entered s (read_proc unbox) (which ∷ a ∷ i ∷ [])

    by_index : (cell a : ℕ) → Carries (RunLoc cell true) a → (index : FlatValue TypeCast) (wi : ℕ) → Carries index wi
        → (n : ℕ) → Filling n → (credit : ℕ)
        → Does 0 (turned VectorRef (RunLoc cell true ∷ index ∷ []) base) credit n (reading_at 1 a wi)
    by_index cell a c (RunInt k) wi ci n filled credit =
        element_read setting l procs casts m placed begins s places objects store cells base unbox cell a c k wi ci n
        filled credit
    by_index cell a c _ wi ci n filled credit = refl

    pub reads_for : (vs : List (FlatValue TypeCast)) (ws : List ℕ) → AllCarried vs ws → (n : ℕ) → Filling n
        → (i : ℕ) × Does i (turned VectorRef vs base) 0 n (reading_at 1 (at_or_zero ws 0) (at_or_zero ws 1))
    reads_for (RunLoc cell true ∷ index ∷ x ∷ more) ws c n filled = (
      0,
      subst (λ y. Does 0 y 0 n (reading_at 1 (at_or_zero ws 0) (at_or_zero ws 1))) (sym
          (too_many procs (piling l.types casts) store s.world base cell index x more))
          refl,
    )
    reads_for (RunLoc cell true ∷ index ∷ []) [] c n filled = absurd c
    reads_for (RunLoc cell true ∷ index ∷ []) (wv ∷ []) c n filled = absurd c.1
    reads_for (RunLoc cell true ∷ index ∷ []) (wv ∷ wi ∷ x ∷ ws) c n filled = absurd c.1.1
    reads_for (RunLoc cell true ∷ index ∷ []) (wv ∷ wi ∷ []) c n filled =
        (0, by_index cell wv c.0 index wi c.1.0 n filled 0)
    reads_for (RunWrap v cast ∷ index ∷ []) [] c n filled = absurd c
    reads_for (RunWrap v cast ∷ index ∷ []) (wv ∷ []) c n filled = absurd c.1
    reads_for (RunWrap v cast ∷ index ∷ []) (wv ∷ wi ∷ x ∷ ws) c n filled = absurd c.1.1
    reads_for (RunWrap v cast ∷ index ∷ []) (wv ∷ wi ∷ []) c n filled =
        by ((piling l.types casts).reading cast)
      where
        te : LowState
        te = reading_at 1 wv wi

        by : (o : Option TypeCast)
            → (i : ℕ) × Does i (on_some o (λ part. On (Return index)
            (PrimFrame VectorRef (v ∷ []) ∷ CastFrame part ∷ base) store s.world)) 0 n te
        by None = (0, refl)
        by (Some part) =
            let r = reads_stuck index te (refl, refl, refl, omega arith) v cast [] wv c.0 (CastFrame part ∷ base) in (
              suc r.0,
              (
                refl,
                stays setting l procs casts m s te 0 (0 + 896) n (n + 0)
                    (λ left u. Going (suc r.0) (Return index) (PrimFrame VectorRef (v ∷ []) ∷ CastFrame part ∷ base)
                    store (n + 0) left u) (room_of setting l procs casts m s te refl (omega arith)) (
                      tt,
                      quiet_way setting l procs casts m s objects te (refl, refl, refl, omega arith) (n + 0)
                          (grown_number n filled),
                      r.1 (n + 0) (grown_number n filled) (0 + 896),
                    ),
              ),
            )
    reads_for _ ws c n filled = (0, refl)

    pub measures_for : (vs : List (FlatValue TypeCast)) (ws : List ℕ) → AllCarried vs ws → (n : ℕ) → Filling n
        → (i : ℕ) × Does i (turned VectorLength vs base) 0 n (reading_at 2 (at_or_zero ws 0) 0)
    measures_for (RunLoc cell true ∷ []) [] c n filled = absurd c
    measures_for (RunLoc cell true ∷ []) (wv ∷ x ∷ ws) c n filled = absurd c.1
    measures_for (RunLoc cell true ∷ []) (wv ∷ []) c n filled = (
      0,
      length_read setting l procs casts m placed begins s places objects store cells base unbox cell wv c.0 n filled 0,
    )
    measures_for (RunWrap v cast ∷ []) [] c n filled = absurd c
    measures_for (RunWrap v cast ∷ []) (wv ∷ x ∷ ws) c n filled = absurd c.1
    measures_for (RunWrap v cast ∷ []) (wv ∷ []) c n filled =
        let te = reading_at 2 wv 0 in
        let r = lengths_stuck te (refl, refl, refl, omega arith) v cast [] wv c.0 in (
          suc r.0,
          (
            refl,
            stays setting l procs casts m s te 0 (0 + 896) n (n + 0)
                (λ left u. Going (suc r.0) (Return v) (PrimFrame VectorLength [] ∷ base) store (n + 0) left u)
                (room_of setting l procs casts m s te refl (omega arith)) (
                  tt,
                  quiet_way setting l procs casts m s objects te (refl, refl, refl, omega arith) (n + 0)
                      (grown_number n filled),
                  r.1 (n + 0) (grown_number n filled) (0 + 896),
                ),
          ),
        )
    measures_for _ ws c n filled = (0, refl)

  module _ (set : ℕ) where
    abbrev writing_at : ℕ → ℕ → ℕ → ℕ → LowState
    writing_at which a i w = entered s (write_proc set) (which ∷ a ∷ i ∷ w ∷ [])

    nothing_to_write : (cast : TypeCast) (v : FlatValue TypeCast) (w : ℕ) → Carries (RunWrap v cast) w
        → (rest : List (FlatValue TypeCast)) → turned VectorSet (RunWrap v cast ∷ rest) base ≡ NoNext
    nothing_to_write cast v w c (RunInt i ∷ x ∷ []) =
        let none = no_cell l objects setting procs places placed store v cast [] w c in rw (none) refl
    nothing_to_write cast v w c _ = refl

    not_written : (cell : ℕ) (rest : List (FlatValue TypeCast))
        → (turned VectorSet (RunLoc cell true ∷ rest) base ≡ NoNext)
        ⊎ ((k : ℤ) × (x : FlatValue TypeCast) × (rest ≡ RunInt k ∷ x ∷ []))
    not_written cell (RunInt i ∷ x ∷ []) = inr (i, x, refl)
    not_written cell _ = inl refl

    pub writes_for : (vs : List (FlatValue TypeCast)) (ws : List ℕ) → AllCarried vs ws → (n : ℕ) → Filling n
        → (i : ℕ) × Does i (turned VectorSet vs base) 0 n
        (writing_at 1 (at_or_zero ws 0) (at_or_zero ws 1) (at_or_zero ws 2))
    writes_for (RunWrap v cast ∷ vs) [] c n filled = absurd c
    writes_for (RunWrap v cast ∷ vs) (wv ∷ ws) c n filled = (
      0,
      subst (λ y. Does 0 y 0 n (writing_at 1 wv (at_or_zero (wv ∷ ws) 1) (at_or_zero (wv ∷ ws) 2)))
          (sym (nothing_to_write cast v wv c.0 vs)) refl,
    )
    writes_for (RunLoc cell true ∷ rest) ws c n filled = by (not_written cell rest) rest ws c refl
      where
        by : (turned VectorSet (RunLoc cell true ∷ rest) base ≡ NoNext)
            ⊎ ((k : ℤ) × (x : FlatValue TypeCast) × (rest ≡ RunInt k ∷ x ∷ [])) → (vs : List (FlatValue TypeCast))
            (ws : List ℕ) → AllCarried (RunLoc cell true ∷ vs) ws → rest ≡ vs
            → (i : ℕ) × Does i (turned VectorSet (RunLoc cell true ∷ rest) base) 0 n
            (writing_at 1 (at_or_zero ws 0) (at_or_zero ws 1) (at_or_zero ws 2))
        by (inl none) vs ws c e = (
          0,
          subst (λ y. Does 0 y 0 n (writing_at 1 (at_or_zero ws 0) (at_or_zero ws 1) (at_or_zero ws 2))) (sym none)
              refl,
        )
        by (inr some) vs ws c e = (
          0,
          subst (λ y. Does 0 (turned VectorSet (RunLoc cell true ∷ y) base) 0 n
              (writing_at 1 (at_or_zero ws 0) (at_or_zero ws 1) (at_or_zero ws 2))) (sym some.2)
              (of_words ws (subst (λ y. AllCarried (RunLoc cell true ∷ y) ws) (sym e ∙ some.2) c)),
        )
          where
            of_words : (ws : List ℕ) → AllCarried (RunLoc cell true ∷ RunInt some.0 ∷ some.1 ∷ []) ws
                → Does 0 (turned VectorSet (RunLoc cell true ∷ RunInt some.0 ∷ some.1 ∷ []) base) 0 n
                (writing_at 1 (at_or_zero ws 0) (at_or_zero ws 1) (at_or_zero ws 2))
            of_words [] c = absurd c
            of_words (wv ∷ []) c = absurd c.1
            of_words (wv ∷ wi ∷ []) c = absurd c.1.1
            of_words (wv ∷ wi ∷ w ∷ x ∷ ws) c = absurd c.1.1.1
            of_words (wv ∷ wi ∷ w ∷ []) c =
                element_written set cell wv c.0 some.0 wi c.1.0 some.1 w c.1.1.0 n filled 0
    writes_for _ ws c n filled = (0, refl)
