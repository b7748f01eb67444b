-- Vectors are read, written and measured, as bare as they are: none is wrapped.
use Rattle.std.proofs.Common.{◌≡◌, inr, ℕ, zero, suc, ◌+◌, ◌*◌, ◌^◌, ◌<◌, ◌≤◌, Bool, true, false, List}
use Rattle.std.proofs.Common.{[], ◌∷◌, length, Option, Some, None, refl, ap, ◌∙◌, subst, arith, slice_get}
use Rattle.std.proofs.Common.{ℤ, pos, negsuc}
use Rattle.std.specs.Prelude.{nat_lt, if◌then◌else◌}
use Rattle.std.specs.Int.{w64, cast_unsigned, int_wrap}
use Rattle.grift_base.specs.declared.operators.PrimOp.{PrimOp}
use Rattle.grift_base.specs.declared.operators.PrimOp.TheVariants.{VectorRef, VectorLength}
use Rattle.grift_base.specs.declared.verdicts.Trap.TheVariants.{Index}
use Rattle.grift_base.specs.declared.verdicts.Verdict.TheVariants.{Trap as TrapVerdict}
use Rattle.run_laws.specs.Runs.{Verdict as EndsWith}
use Rattle.machine_words.specs.Memory.{load_bytes}
use Rattle.core_calc.specs.Account.{Measures}
use Rattle.low_ir.specs.declared.code.LowSource.TheVariants.{Word, Number}
use Rattle.low_ir.specs.declared.code.WordOp.TheVariants.{Add, Sll, Srl}
use Rattle.low_ir.specs.Operations.{compute}
use Rattle.low_ir.specs.Prices.{entering, entering_some}
use Rattle.low_ir.specs.Procedures.{Code, Done, Load, Compute, Return as ReturnCode, Proc as LowProc}
use Rattle.low_ir.specs.Steps.{Locals, no_locals, set_local, may_load}
use Rattle.low_ir.specs.Run.{Setting, LowState, bind, word_of, entered}
use Rattle.cast_modes.specs.Modes.{TypeCast, piling}
use Rattle.cast_modes.specs.RunValues.{RunInt, RunLoc}
use Rattle.cast_modes.specs.RunValues.{in_row}
use Rattle.cast_modes.specs.ValueSteps.{Return, On, TrapOf, on_some, element_or_trap}
use Rattle.cast_modes.specs.ValueSteps.{run_with_element}
use Rattle.coercion_norm.specs.Held.{Layout, There}
use Rattle.coercion_norm.specs.Objects.{Object, Cell}
use Rattle.coercion_norm.specs.ObjectsOfRows.{header}
use Rattle.flat_ir.specs.Bodies.{Proc}
use Rattle.flat_ir.specs.FlatTally.{act_cost}
use Rattle.coer_core.specs.TurnPrices.{piled_prices}
use Rattle.flat_ir.specs.Machine.{FlatValue, FlatFrame, FlatStore, FlatAfter, flat_arity, flat_entered, flat_operate}
use Rattle.rt_cast.specs.States.{Placed, heap_of}
use Rattle.rt_cast.proofs.Public.{count_read, lt_false}
use Rattle.low_ir.specs.Codes.{trap_code}
use Rattle.lower.specs.CarriedValues.{AreCarried, CellHeld}
use Rattle.lower.specs.SchemeLaws.{After, StopsNow, operator_leaves}
use Rattle.lower.proofs.Public.{as_many}
use Rattle.lower.proofs.Public.{cell_of, there_is}
use Rattle.lower.proofs.Public.{stands, may}
use Rattle.lower.proofs.Public.{word_found, found_within}
use Rattle.lower.proofs.Public.{positive_is, negative_is, small_fits}
use Rattle.lower.proofs.Public.{element_past}
use Rattle.lower.proofs.Public.{Comes, Calm, Goal, computes, if_true, if_false, loads, left_of}
use Rattle.lower.proofs.Public.{lt_true}
use Rattle.piled_scheme.specs.Codes.{read_proc, in_vector}
use Rattle.piled_scheme.specs.Piling.{piled_meaning}
use Rattle.piled_scheme.proofs.Laws.{piled_laws}
use Rattle.piled_scheme.proofs.Looking.{calm as calm_of, ends, loads_header}
use Rattle.piled_scheme.proofs.Turns.{FilledAt, CellsAt, C, returned, speech}
use Rattle.piled_scheme.proofs.Walking.{Way, goal, walks, traps}

pub element_inside : {A : Type 0} (xs : List A) (i : ℕ) (x : A) → slice_get xs i ≡ Some x → i < length xs
element_inside [] i x e = absurd (let z : ⊥ = cc in z)
element_inside (y ∷ xs) zero x e = omega arith
element_inside (y ∷ xs) (suc i) x e = let z = element_inside xs i x e in omega (arith, z)

pub entering_most : (words : ℕ) → entering words ≤ 25
entering_most words = by (nat_lt words 255)
  where
    by : (b : Bool) → (if b then 15 else 25) ≤ 25
    by true = omega arith
    by false = omega arith

shifted : (i : ℕ) → 8 * i < 2 ^ 64 → compute Sll i 3 ≡ 8 * i
shifted i lt = omega (arith, lt)

added : (a b : ℕ) → a + b < 2 ^ 64 → compute Add a b ≡ a + b
added a b lt = omega (arith, lt)

module _ (setting : Setting) (l : Layout) (procs : List Proc) (casts : List TypeCast) (m : Measures)
    (placed : Placed setting l) (begins : l.region ≡ setting.region) (s : LowState) (places : List ℕ)
    (objects : List Object) (store : FlatStore TypeCast)
    (cells : CellsAt setting l procs casts m s places objects store s) (base : List (FlatFrame TypeCast)) where
  open (speech setting l procs casts m s places objects store base operator_leaves)
      use {Filling, grown_number, Carries, Going, inside}

  abbrev pub Operates : ℕ → FlatAfter TypeCast → ℕ → ℕ → LowState → Type 0
  Operates i x credit n v =
      After piled_meaning setting l procs casts m s (Going i) x
      (act_cost procs (piling l.types casts) (piled_prices (piling l.types casts) m)) credit n 0 v

  abbrev pub turn : PrimOp → List (FlatValue TypeCast) → FlatAfter TypeCast
  turn operator vs = flat_operate procs (piling l.types casts) store s.world operator vs base

  -- ---- a vector in the region

  module _ (n : ℕ) (filled : FilledAt setting l procs casts m s places objects store n s) (cell a : ℕ)
      (c : C setting l procs casts m s places objects store (RunLoc cell true) a) (values : List (FlatValue TypeCast))
      (in_store : slice_get store cell ≡ Some values) where
    pub held : CellHeld l setting.address procs piled_meaning places objects s.memory a values
    held = cell_of l setting.address procs piled_meaning places objects 0 s.memory places store cells cell a values c.1
        in_store

    pub counted : c.0 ≡ length values
    counted =
        same_counts (header 6 0 c.0) held.head c.0 (length held.words)
        (there_is l objects a (Cell (header 6 0 c.0) c.0) (Cell held.head (length held.words)) placed.before c.2
        held.is)
        ∙ as_many l setting.address procs piled_meaning piled_laws places objects values held.words held.carried
      where
        same_counts : (x y j k : ℕ) → Cell x j ≡ Cell y k → j ≡ k
        same_counts x y j k e = cc

    pub many : length held.words ≡ length values
    many = as_many l setting.address procs piled_meaning piled_laws places objects values held.words held.carried

    -- it ends below the end of memory
    pub short : 16 + a + 8 * length values < 2 ^ 64 + 8
    short =
        let z = found_within objects l.region a (Cell held.head (length held.words)) held.is in
        omega (arith, z.high, filled.ends, filled.fits, many, placed.top)

    -- an element's word
    record ElementThere (i : ℕ) (v : FlatValue TypeCast) : Type 0 where
      pub word : ℕ
      pub carried : Carries v word
      pub may : may_load setting.top (8 * i + a + 8) ≡ true
      pub is : load_bytes 8 s.memory (8 * i + a + 8) ≡ word

    element_there : (i : ℕ) (v : FlatValue TypeCast) → slice_get values i ≡ Some v → ElementThere i v
    element_there i v e =
        let w = element values held.words held.carried i v e in
        let z = stands piled_meaning setting l placed objects (heap_of s) filled a
        (Cell held.head (length held.words)) (inr held.is) in
        let x = word_found s.memory (a + 8) held.words i w.0 (8 * i + a + 8) held.held w.1 (omega arith) in
        let inside_it = element_inside held.words i w.0 w.1 in
        record {
          word = w.0;
          carried = w.2;
          may = may setting.top (8 * i + a + 8) (let q = z.even in omega (arith, q))
              (let q = z.low in omega (arith, q))
              (let q = z.high in let f = filled.fits in omega (arith, q, f, inside_it));
          is = x.is;
        }
      where
        element : (vs : List (FlatValue TypeCast)) (ws : List ℕ)
            → AreCarried l setting.address procs piled_meaning places objects (in_row vs) ws → (i : ℕ)
            (v : FlatValue TypeCast) → slice_get vs i ≡ Some v → (w : ℕ) × (slice_get ws i ≡ Some w) × Carries v w
        element [] ws c i v e = absurd (let z : ⊥ = cc in z)
        element (x ∷ vs) [] c i v e = absurd c
        element (x ∷ vs) (w ∷ ws) c zero v e =
            let same : x ≡ v = cc in (w, refl, subst (λ z. Carries z w) same c.0)
        element (x ∷ vs) (w ∷ ws) c (suc i) v e = element vs ws c.1 i v e

  -- ---- steps in the turn that begins in a state

  module _ (t : LowState) (need n n' : ℕ) (X : ℕ → LowState → Type 0) (same : t.words ≡ s.words)
      (filled : FilledAt setting l procs casts m s places objects store n s) where
    abbrev pub Q : Goal
    Q = goal setting l procs casts m s t 0 need X

    abbrev pub P : LowState → Type 0
    P = Way setting l procs casts m s t 0 n n'

    abbrev pub To : LowState → Type 0
    To v = Comes setting P Q v

    pub calm : Calm setting P Q 6 s.waiting s.world (heap_of s)
    calm = calm_of setting l procs casts m placed s objects t 0 need n n' X same filled

    -- word 4 becomes how many elements the vector in word 1 has
    counts : {rest : Code} {rests : List Code} {locals : Locals} (a count : ℕ)
        → There l objects a (Cell (header 6 0 count) count) → word_of locals (Word 1) ≡ Some a
        → To (inside rests (set_local 4 count (set_local 4 (header 6 0 count) locals)) rest)
        → To (inside rests locals (Load 4 (Word 1) 0 (Compute Srl 4 (Word 4) (Number 32) rest)))
    counts a count stands_there is c =
        loads_header setting l procs casts m placed s objects t 0 need n n' X same filled a
        (Cell (header 6 0 count) count) stands_there is (omega arith)
        (computes setting P Q calm (header 6 0 count) 32 count refl refl
        (count_read 6 0 count (omega arith) (omega arith)) (omega arith) c)

    -- an index inside
    pub within : {rest : Code} {rests : List Code} {locals : Locals} (a count i : ℕ)
        → There l objects a (Cell (header 6 0 count) count) → word_of locals (Word 1) ≡ Some a
        → word_of locals (Word 2) ≡ Some i → i < count → 8 * i + a < 2 ^ 64
        → To (inside (Done ∷ rests) (set_local 2 (8 * i + a) (set_local 2 (8 * i) (set_local 4 count
        (set_local 4 (header 6 0 count) locals)))) rest)
        → To (inside rests locals (in_vector rest))
    within {locals = locals} a count i stands_there is index lt low c =
        counts a count stands_there is
        (if_true setting P Q calm i count index refl (lt_true i count lt)
        (computes setting P Q calm i 3 (8 * i) index refl (shifted i (omega (arith, low))) (omega arith)
        (computes setting P Q calm (8 * i) a (8 * i + a) refl is (added (8 * i) a low) (omega arith) c)))

    -- one outside
    pub outside : {rest : Code} {rests : List Code} {locals : Locals} (a count i : ℕ)
        → There l objects a (Cell (header 6 0 count) count) → word_of locals (Word 1) ≡ Some a
        → word_of locals (Word 2) ≡ Some i → count ≤ i
        → ((credit : ℕ) → need ≤ credit → X credit (inside (Done ∷ rests) (set_local 4 count
        (set_local 4 (header 6 0 count) locals)) (trap_code Index 4 5)))
        → To (inside rests locals (in_vector rest))
    outside {rests = rests} {locals = locals} a count i stands_there is index le go =
        counts a count stands_there is
        (if_false setting P Q calm i count index refl (lt_false i count le)
        (ends setting l procs casts m placed s objects t 0 need n n' X same filled (Done ∷ rests)
        (set_local 4 count (set_local 4 (header 6 0 count) locals)) (trap_code Index 4 5) go))

  -- an index outside traps
  pub trapped : (te : LowState) (n : ℕ) → te.words ≡ s.words → (filled : Filling n) → (credit i : ℕ)
      → ((X : ℕ → LowState → Type 0) (need : ℕ)
      → ((rests : List Code) (locals : Locals) (credit : ℕ) → need ≤ credit
      → X credit (inside rests locals (trap_code Index 4 5)))
      → Comes setting (Way setting l procs casts m s te 0 n n) (goal setting l procs casts m s te 0 need X) te)
      → left_of setting te ≤ 300 → Operates i (TrapOf Index s.world) credit n te
  trapped te n same filled credit i walk cheap = (
    refl,
    refl,
    walks setting l procs casts m s te 0 (credit + 896) 0 n n
        (λ left. StopsNow piled_meaning setting l procs casts m s n (EndsWith (TrapVerdict Index)))
        (walk (λ left. StopsNow piled_meaning setting l procs casts m s n (EndsWith (TrapVerdict Index))) 0
        (λ rests locals left le. traps setting l procs casts m s n objects (heap_of s) filled rests locals))
        (omega (arith, cheap)),
  )

  -- ---- reads

  module _ (unbox : ℕ) where
    abbrev pub reads_at : ℕ → ℕ → ℕ → LowState
    reads_at which a i = entered s (read_proc unbox) (which ∷ a ∷ i ∷ [])

    read_cost : (which a i : ℕ) → left_of setting (reads_at which a i) ≤ 300
    read_cost which a i = by (slice_get setting.procs unbox) refl
      where
        by : (o : Option LowProc) → slice_get setting.procs unbox ≡ o
            → left_of setting (reads_at which a i) ≤ 300
        by None e = let z = ap entering_some e in omega (arith, z)
        by (Some p) e = let z = ap entering_some e in let y = entering_most p.words in omega (arith, z, y)

    -- an element
    pub element_read : (cell a : ℕ) (c : Carries (RunLoc cell true) a) (index : ℤ) (wi : ℕ)
        → (wi ≡ cast_unsigned w64 index) × (int_wrap w64 index ≡ index) → (n : ℕ) → Filling n → (credit : ℕ)
        → Operates 0 (turn VectorRef (RunLoc cell true ∷ RunInt index ∷ [])) credit n (reads_at 1 a wi)
    element_read cell a c index wi is n filled credit = by (slice_get store cell) refl
      where
        te : LowState
        te = reads_at 1 a wi

        Reads : FlatAfter TypeCast → Type 0
        Reads x = Operates 0 x credit n te

        -- the code up to the vector
        begins_so : (X : ℕ → LowState → Type 0) (need n' : ℕ)
            → To te need n n' X refl filled (inside (Done ∷ Done ∷ []) (bind 0 (1 ∷ a ∷ wi ∷ []) no_locals)
            (in_vector (Load 2 (Word 2) 8 (ReturnCode (Word 2)))))
            → To te need n n' X refl filled te
        begins_so X need n' c =
            if_false setting (P te need n n' X refl filled) (Q te need n n' X refl filled)
            (calm te need n n' X refl filled) 1 0 refl refl refl
            (if_false setting (P te need n n' X refl filled) (Q te need n n' X refl filled)
            (calm te need n n' X refl filled) 1 2 refl refl refl c)

        past : (values : List (FlatValue TypeCast)) → slice_get store cell ≡ Some values → length values ≤ wi
            → Reads (TrapOf Index s.world)
        past values e le =
            trapped te n refl filled credit 0 (λ X need go. begins_so X need n
            (outside te need n n X refl filled a c.0 wi c.2 refl refl
            (let z = counted n filled cell a c values e in omega (arith, z, le))
            (λ left le. go (Done ∷ Done ∷ Done ∷ []) _ left le)))
            (let z = read_cost 1 a wi in omega (arith, z))

        found : (values : List (FlatValue TypeCast)) → slice_get store cell ≡ Some values → (i : ℕ) → wi ≡ i
            → (v : FlatValue TypeCast) → slice_get values i ≡ Some v → Reads (On (Return v) base store s.world)
        found values e i index_is v got =
            let x = element_there n filled cell a c values e i v got in
            let X = λ (left : ℕ) (u : LowState). Going 0 (Return v) base store (n + 0) left u in
            let lt = element_inside values i v got in
            let end = short n filled cell a c values e in
            let many_is = counted n filled cell a c values e in
            let last = inside (Done ∷ Done ∷ Done ∷ []) (set_local 2 x.word (set_local 2 (8 * i + a)
            (set_local 2 (8 * i) (set_local 4 c.0 (set_local 4 (header 6 0 c.0)
            (bind 0 (1 ∷ a ∷ wi ∷ []) no_locals)))))) (ReturnCode (Word 2)) in (
              refl,
              walks setting l procs casts m s te 0 (credit + 896) operator_leaves n (n + 0) X
                  (begins_so X operator_leaves (n + 0)
                  (within te operator_leaves n (n + 0) X refl filled a c.0 i c.2 refl
                  (ap (λ k. Some k) index_is) (omega (arith, lt, many_is)) (omega (arith, lt, end))
                  (loads setting (P te operator_leaves n (n + 0) X refl filled)
                  (Q te operator_leaves n (n + 0) X refl filled) (calm te operator_leaves n (n + 0) X refl filled)
                  (8 * i + a) x.word refl x.may x.is (omega (arith, lt, end)) (omega arith)
                  (ends setting l procs casts m placed s objects te 0 operator_leaves n (n + 0) X refl filled
                  (Done ∷ Done ∷ Done ∷ []) last.active.locals (ReturnCode (Word 2))
                  (λ left le. (
                    refl,
                    le,
                    returned setting l procs casts m s places objects store last (n + 0) (grown_number n filled) cells v
                        x.word x.carried (Word 2) refl refl refl refl,
                  ))))))
                  (let z = read_cost 1 a wi in omega (arith, z)),
            )

        at_place : (values : List (FlatValue TypeCast)) → slice_get store cell ≡ Some values → (i : ℕ) → wi ≡ i
            → (o : Option (FlatValue TypeCast)) → slice_get values i ≡ o
            → Reads (element_or_trap (piling l.types casts) (flat_arity procs) (flat_entered procs) store s.world o i
            (λ place v. On (Return v) base store s.world))
        at_place values e i index_is None got =
            past values e (let z = element_past values i got in omega (arith, z, index_is))
        at_place values e i index_is (Some v) got = found values e i index_is v got

        at_index : (values : List (FlatValue TypeCast)) → slice_get store cell ≡ Some values → (k : ℤ)
            → (wi ≡ cast_unsigned w64 k) × (int_wrap w64 k ≡ k)
            → Reads (run_with_element (piling l.types casts) (flat_arity procs) (flat_entered procs) store s.world
            values k (λ place v. On (Return v) base store s.world))
        at_index values e (pos i) h =
            let z = positive_is i h.1 in at_place values e i (h.0 ∙ z.0) (slice_get values i) refl
        at_index values e (negsuc i) h =
            let z = negative_is i h.1 in
            let y = h.0 in
            let end = short n filled cell a c values e in
            past values e (omega (arith, z, y, end))

        by : (o : Option (List (FlatValue TypeCast))) → slice_get store cell ≡ o
            → Reads (on_some o (λ values. run_with_element (piling l.types casts) (flat_arity procs)
            (flat_entered procs) store s.world values index (λ place v. On (Return v) base store s.world)))
        by None e = refl
        by (Some values) e = at_index values e index is

    -- how many elements
    pub length_read : (cell a : ℕ) (c : Carries (RunLoc cell true) a) → (n : ℕ) → Filling n → (credit : ℕ)
        → Operates 0 (turn VectorLength (RunLoc cell true ∷ [])) credit n (reads_at 2 a 0)
    length_read cell a c n filled credit = by (slice_get store cell) refl
      where
        te : LowState
        te = reads_at 2 a 0

        told : (values : List (FlatValue TypeCast)) → slice_get store cell ≡ Some values
            → Operates 0 (On (Return (RunInt (pos (length values)))) base store s.world) credit n te
        told values e =
            let X = λ (left : ℕ) (u : LowState). Going 0 (Return (RunInt (pos (length values)))) base store (n + 0) left
            u in
            let end = short n filled cell a c values e in
            let last = inside (Done ∷ Done ∷ []) (set_local 4 c.0 (set_local 4 (header 6 0 c.0)
            (bind 0 (2 ∷ a ∷ 0 ∷ []) no_locals))) (ReturnCode (Word 4)) in (
              refl,
              walks setting l procs casts m s te 0 (credit + 896) operator_leaves n (n + 0) X
                  (if_false setting (P te operator_leaves n (n + 0) X refl filled)
                  (Q te operator_leaves n (n + 0) X refl filled) (calm te operator_leaves n (n + 0) X refl filled) 2 0
                  refl refl refl
                  (if_true setting (P te operator_leaves n (n + 0) X refl filled)
                  (Q te operator_leaves n (n + 0) X refl filled) (calm te operator_leaves n (n + 0) X refl filled) 2 2
                  refl refl refl
                  (counts te operator_leaves n (n + 0) X refl filled a c.0 c.2 refl
                  (ends setting l procs casts m placed s objects te 0 operator_leaves n (n + 0) X refl filled
                  (Done ∷ Done ∷ []) last.active.locals (ReturnCode (Word 4))
                  (λ left le. (
                    refl,
                    le,
                    returned setting l procs casts m s places objects store last (n + 0) (grown_number n filled) cells
                        (RunInt (pos (length values))) c.0
                        (counted n filled cell a c values e, small_fits (length values) (omega (arith, end))) (Word 4)
                        refl refl refl refl,
                  ))))))
                  (let z = read_cost 2 a 0 in omega (arith, z)),
            )

        by : (o : Option (List (FlatValue TypeCast))) → slice_get store cell ≡ o
            → Operates 0 (on_some o (λ values. On (Return (RunInt (pos (length values)))) base store s.world)) credit n
            te
        by None e = refl
        by (Some values) e = told values e
