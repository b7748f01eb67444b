-- Boxes are read through their wrappers: the procedure goes from the outermost wrapper to the box, while the numbered
-- procedures take the wrappers off; what comes back is cast from the innermost wrapper on.
use Rattle.std.proofs.Common.{◌≡◌, ◌⊎◌, inl, inr, ℕ, zero, suc, ◌+◌, ◌^◌, ◌<◌, ◌≤◌, true, false, List, []}
use Rattle.std.proofs.Common.{◌∷◌, length, Option, Some, None, refl, sym, ap, ◌∙◌, subst, arith, slice_get}
use Rattle.std.specs.Prelude.{if◌then◌else◌, ◌==◌}
use Rattle.grift_base.specs.Types.{TypeRows}
use Rattle.grift_base.specs.declared.operators.PrimOp.TheVariants.{Unbox}
use Rattle.grift_base.specs.declared.verdicts.Verdict.TheVariants.{Blame}
use Rattle.run_laws.specs.Runs.{Verdict as EndsWith}
use Rattle.core_calc.specs.Account.{Measures}
use Rattle.machine_words.specs.declared.conditions.Cond.TheVariants.{Eq}
use Rattle.machine_words.specs.Memory.{load_bytes}
use Rattle.low_ir.specs.declared.code.LowSource.TheVariants.{Word, Number}
use Rattle.low_ir.specs.Prices.{entering_some}
use Rattle.low_ir.specs.Procedures.{Done, Return as ReturnCode, TailCall}
use Rattle.low_ir.specs.Steps.{Locals, no_locals, set_local, may_load}
use Rattle.low_ir.specs.Run.{Setting, LowState, bind, entered}
use Rattle.cast_modes.specs.Modes.{TypeCast, piling}
use Rattle.cast_modes.specs.RunValues.{RunInt, RunBool, RunUnit, RunFun, RunTuple, RunLoc, RunWrap, RunInject}
use Rattle.cast_modes.specs.RunValues.{in_row}
use Rattle.cast_modes.specs.ValueSteps.{CastFrame, PrimFrame, Return, On, on_some, casts_onto, run_unbox_cell}
use Rattle.coercion_norm.specs.Held.{Layout, There}
use Rattle.coercion_norm.specs.Objects.{Object, Cell, object_at}
use Rattle.coercion_norm.specs.ObjectsOfRows.{header}
use Rattle.flat_ir.specs.Bodies.{Proc}
use Rattle.flat_ir.specs.FlatTally.{act_cost}
use Rattle.coer_core.specs.TurnPrices.{piled_prices}
use Rattle.flat_ir.specs.Machine.{FlatValue, FlatFrame, FlatStore, FlatAfter, flat_arity, flat_entered, flat_operate}
use Rattle.low_ir.specs.Codes.{either, blame_code}
use Rattle.rt_cast.specs.States.{Placed, heap_of}
use Rattle.rt_cast.specs.Objects.{HoldsWords}
use Rattle.lower.specs.CarriedValues.{AreCarried, CellHeld}
use Rattle.lower.specs.SchemeLaws.{After, StopsNow, Walks, operator_leaves}
use Rattle.lower.proofs.Public.{cell_of, cell_word_there}
use Rattle.lower.proofs.Public.{loads, if_true, if_false, sets_word, left_of}
use Rattle.piled_scheme.specs.Codes.{unbox_proc, read_proc}
use Rattle.piled_scheme.specs.Piling.{piled_meaning, wrapper_object, wrapper_header, most_labels, IsPlain}
use Rattle.piled_scheme.proofs.Deciding.{read_cast, reads_by}
use Rattle.piled_scheme.proofs.Looking.{Walk, walk, ends, loads_word, looked, blamed}
use Rattle.piled_scheme.proofs.Piles.{peeled}
use Rattle.piled_scheme.proofs.Turns.{FilledAt, CellsAt, C, returned, plain_turn, keeps, blames_it, speech}
use Rattle.piled_scheme.proofs.Walking.{quiet_way, room_of, walks, walks_by, stays, tail_calls}
use Rattle.piled_scheme.proofs.Walking.{tail_calls_on, blames}

-- what casts that wait do with what is read: the part of the first that doesn't keep it, and 0 where all keep it
abbrev pub Waits : TypeRows → List TypeCast → ℕ → Type 0
Waits types [] failing = failing ≡ 0
Waits types (cast ∷ pending) failing =
    (part behind : ℕ) × IsPlain types cast part × Waits types pending behind
    × (failing ≡ (if part == 0 then behind else part))

pub tested : (n : ℕ) → (n ≡ 0) ⊎ (n ≡ 0 → ⊥)
tested zero = inl refl
tested (suc n) = inr (λ e. omega (arith, e))

pub is_zero : (n : ℕ) → n ≡ 0 → (n == 0) ≡ true
is_zero n e = grind (arith, e)

pub is_some : (n : ℕ) → (n ≡ 0 → ⊥) → (n == 0) ≡ false
is_some n ne = grind (arith, ne)

module _ (setting : Setting) (l : Layout) (procs : List Proc) (casts : List TypeCast) (m : Measures)
    (placed : Placed setting l) (own : ℕ) (there : slice_get setting.procs own ≡ Some (unbox_proc own))
    (s : LowState) (places : List ℕ) (objects : List Object) (store : FlatStore TypeCast)
    (cells : CellsAt setting l procs casts m s places objects store s) (base : List (FlatFrame TypeCast)) where
  open (speech setting l procs casts m s places objects store base operator_leaves)
      use {Filling, grown_number, Carries, Going, inside}

  -- the procedure begins with an address and what was found so far
  abbrev looks_at : ℕ → ℕ → LowState
  looks_at w failing = entered s (unbox_proc own) (w ∷ failing ∷ [])

  abbrev words_at : ℕ → ℕ → Locals
  words_at w failing = bind 0 (w ∷ failing ∷ []) no_locals

  -- what is in the box is returned
  abbrev given_at : ℕ → ℕ → LowState
  given_at a wx =
      inside (Done ∷ Done ∷ []) (set_local 2 wx (set_local 2 5 (set_local 2 (header 5 0 1) (words_at a 0))))
      (ReturnCode (Word 2))

  -- a label is blamed
  abbrev blamed_at : ℕ → ℕ → LowState
  blamed_at a label =
      inside (Done ∷ Done ∷ []) (set_local 3 label (set_local 3 (suc label) (set_local 2 5 (set_local 2 (header 5 0 1)
      (words_at a (suc label)))))) (blame_code (Word 3))

  abbrev walking : (t : LowState) (asks need n n' : ℕ) (X : ℕ → LowState → Type 0) → t.words ≡ s.words → Filling n
      → Walk setting s
  walking t asks need n n' X same filled =
      walk setting l procs casts m placed s objects t asks need n n' X same filled

  -- told the state in which the turn begins, what it asks for, how much is to be left, the numbers of wrap steps,
  -- and where the turn ends
  module _ (t : LowState) (asks need n n' : ℕ) (X : ℕ → LowState → Type 0) (same : t.words ≡ s.words)
      (filled : FilledAt setting l procs casts m s places objects store n s) where
    open (walking t asks need n n' X same filled) use {Q, P, To, calm}

    -- a wrapper is passed: what it does counts where it doesn't keep what is read
    passes : (w inner part failing : ℕ) → There l objects w (wrapper_object inner part)
        → ((credit : ℕ) → need ≤ credit → X credit (looks_at inner (if part == 0 then failing else part)))
        → To (looks_at w failing)
    passes w inner part failing stands go =
        looked setting l procs casts m placed s objects t asks need n n' X same filled w (wrapper_object inner part)
        stands refl 25 refl
        (if_true setting P Q calm 25 25 refl refl refl
        (loads_word setting l procs casts m placed s objects t asks need n n' X same filled w wrapper_header
        (inner ∷ part ∷ []) stands 2 part refl refl refl (omega arith)
        (loads_word setting l procs casts m placed s objects t asks need n n' X same filled w wrapper_header
        (inner ∷ part ∷ []) stands 1 inner refl refl refl (omega arith)
        (by (tested part)))))
      where
        after : Locals
        after = set_local 0 inner (set_local 3 part (set_local 2 25 (set_local 2 wrapper_header (words_at w failing))))

        landed : (next : ℕ) → (if part == 0 then failing else part) ≡ next
            → Q.holds 0 (looks_at inner next)
        landed next e = (
          omega (arith, same),
          room_of setting l procs casts m s (looks_at inner next) refl (omega arith),
          λ credit le. subst (λ k. X credit (looks_at inner k)) e (go credit le),
        )

        by : (part ≡ 0) ⊎ (part ≡ 0 → ⊥)
            → To (inside (Done ∷ []) after (either Eq (Word 3) (Number 0) (TailCall own (Word 0 ∷ Word 1 ∷ []))
            (TailCall own (Word 0 ∷ Word 3 ∷ []))))
        by (inl none) =
            if_true setting P Q calm part 0 refl refl (is_zero part none)
            (tail_calls setting l procs casts m s t asks n n' Q calm (inner ∷ failing ∷ []) (unbox_proc own) refl there
            refl refl (landed failing (ap (λ b. if b then failing else part) (is_zero part none))))
        by (inr some) =
            if_false setting P Q calm part 0 refl refl (is_some part some)
            (tail_calls setting l procs casts m s t asks n n' Q calm (inner ∷ part ∷ []) (unbox_proc own) refl there
            refl refl (landed part (ap (λ b. if b then failing else part) (is_some part some))))

    -- a box without wrappers: all keep what is read, and it is returned
    gives : (a wx : ℕ) → There l objects a (Cell (header 5 0 1) 1)
        → may_load setting.top (a + 8) ≡ true → load_bytes 8 s.memory (a + 8) ≡ wx → a + 8 < 2 ^ 64
        → ((credit : ℕ) → need ≤ credit → X credit (given_at a wx)) → To (looks_at a 0)
    gives a wx stands may is end go =
        looked setting l procs casts m placed s objects t asks need n n' X same filled a (Cell (header 5 0 1) 1) stands
        refl 5 refl
        (if_false setting P Q calm 5 25 refl refl refl
        (if_true setting P Q calm 0 0 refl refl refl
        (loads setting P Q calm a wx refl may is end (omega arith)
        (ends setting l procs casts m placed s objects t asks need n n' X same filled (Done ∷ Done ∷ [])
        (given_at a wx).active.locals (ReturnCode (Word 2)) go))))

    -- one doesn't, and its label is blamed
    fails : (a label : ℕ) → label < most_labels → There l objects a (Cell (header 5 0 1) 1)
        → ((credit : ℕ) → need ≤ credit → X credit (blamed_at a label)) → To (looks_at a (suc label))
    fails a label small stands go =
        looked setting l procs casts m placed s objects t asks need n n' X same filled a (Cell (header 5 0 1) 1) stands
        refl 5 refl
        (if_false setting P Q calm 5 25 refl refl refl
        (if_false setting P Q calm (suc label) 0 refl refl (is_some (suc label) (λ e. omega (arith, e)))
        (sets_word setting P Q calm (suc label) refl (omega arith)
        (blamed setting l procs casts m placed s objects t asks need n n' X same filled label small refl go))))

  -- what is left to pay where it begins
  cost : (w failing : ℕ) → left_of setting (looks_at w failing) ≤ 300
  cost w failing = let z = ap entering_some there in omega (arith, z)

  -- ---- what was read goes through the casts that wait

  none_of : (part behind failing : ℕ) → failing ≡ (if part == 0 then behind else part) → failing ≡ 0
      → (part ≡ 0) × (behind ≡ 0)
  none_of part behind failing e none = by (tested part)
    where
      by : (part ≡ 0) ⊎ (part ≡ 0 → ⊥) → (part ≡ 0) × (behind ≡ 0)
      by (inl zero_part) =
          (zero_part, sym (e ∙ ap (λ b. if b then behind else part) (is_zero part zero_part)) ∙ none)
      by (inr some) =
          absurd (some (sym (e ∙ ap (λ b. if b then behind else part) (is_some part some)) ∙ none))

  -- all keep it
  keeping : (a : ℕ) (x : FlatValue TypeCast) (wx : ℕ) → Carries x wx → (pending : List TypeCast) (failing : ℕ)
      → Waits l.types pending failing → failing ≡ 0
      → (i : ℕ) × ((n : ℕ) → Filling n → (credit : ℕ) → operator_leaves ≤ credit
      → Going i (Return x) (casts_onto pending base) store n credit (given_at a wx))
  keeping a x wx c [] failing waits none = (
    0,
    λ n filled credit le. (
      refl,
      le,
      returned setting l procs casts m s places objects store (given_at a wx) n filled cells x wx c (Word 2) refl refl
          refl refl,
    ),
  )
  keeping a x wx c (cast ∷ pending) failing waits none =
      let both = none_of waits.0 waits.1 failing waits.4 none in
      let r = keeping a x wx c pending waits.1 waits.3 both.1 in (
        suc r.0,
        λ n filled credit le. (
          tt,
          quiet_way setting l procs casts m s objects (given_at a wx) (refl, refl, refl, omega arith) n filled,
          plain_turn setting l procs casts m s places objects store base operator_leaves cast waits.0 waits.2 r.0
              (casts_onto pending base) x credit n (given_at a wx)
              (keeps setting l procs casts m s places objects store base operator_leaves cast waits.0 waits.2 both.0 r.0
              (casts_onto pending base) x credit n (given_at a wx) (
                refl,
                stays setting l procs casts m s (given_at a wx) 16 (credit + 896) n (n + 0)
                    (λ left u. Going r.0 (Return x) (casts_onto pending base) store (n + 0) left u)
                    (room_of setting l procs casts m s (given_at a wx) refl (omega arith))
                    (r.1 (n + 0) (grown_number n filled) (credit + 896) (omega (arith, le))),
              )),
        ),
      )

  -- one doesn't
  blaming : (a : ℕ) → There l objects a (Cell (header 5 0 1) 1) → (x : FlatValue TypeCast)
      (pending : List TypeCast) (failing : ℕ) → Waits l.types pending failing → (failing ≡ 0 → ⊥)
      → (i : ℕ) × ((n : ℕ) → Filling n → (credit : ℕ)
      → Going i (Return x) (casts_onto pending base) store n credit (looks_at a failing))
  blaming a stands x [] failing waits some = absurd (some waits)
  blaming a stands x (cast ∷ pending) failing waits some =
      by (λ rest. blaming a stands x pending waits.1 waits.3 rest) (tested waits.0)
    where
      Result : Type 0
      Result =
          (i : ℕ) × ((n : ℕ) → Filling n → (credit : ℕ)
          → Going i (Return x) (casts_onto (cast ∷ pending) base) store n credit (looks_at a failing))

      Behind : Type 0
      Behind =
          (waits.1 ≡ 0 → ⊥) → (i : ℕ) × ((n : ℕ) → Filling n → (credit : ℕ)
          → Going i (Return x) (casts_onto pending base) store n credit (looks_at a waits.1))

      by : Behind → (waits.0 ≡ 0) ⊎ (waits.0 ≡ 0 → ⊥) → Result
      by behind (inl none) =
          let e : failing ≡ waits.1 =
          waits.4 ∙ ap (λ b. if b then waits.1 else waits.0) (is_zero waits.0 none) in
          let r = behind (λ z. some (e ∙ z)) in (
            suc r.0,
            λ n filled credit. (
              tt,
              quiet_way setting l procs casts m s objects (looks_at a failing) (refl, refl, refl, omega arith) n filled,
              plain_turn setting l procs casts m s places objects store base operator_leaves cast waits.0 waits.2 r.0
                  (casts_onto pending base) x credit n (looks_at a failing)
                  (keeps setting l procs casts m s places objects store base operator_leaves cast waits.0 waits.2 none
                  r.0 (casts_onto pending base) x credit n (looks_at a failing) (
                    refl,
                    stays setting l procs casts m s (looks_at a failing) 16 (credit + 896) n (n + 0)
                        (λ left u. Going r.0 (Return x) (casts_onto pending base) store (n + 0) left u)
                        (room_of setting l procs casts m s (looks_at a failing) refl (omega arith))
                        (subst (λ f. Going r.0 (Return x) (casts_onto pending base) store (n + 0) (credit + 896)
                        (looks_at a f)) (sym e) (r.1 (n + 0) (grown_number n filled) (credit + 896))),
                  )),
            ),
          )
      by behind (inr kept) =
          let e : failing ≡ waits.0 =
          waits.4 ∙ ap (λ b. if b then waits.1 else waits.0) (is_some waits.0 kept) in (
            suc 0,
            λ n filled credit. (
              tt,
              quiet_way setting l procs casts m s objects (looks_at a failing) (refl, refl, refl, omega arith) n filled,
              plain_turn setting l procs casts m s places objects store base operator_leaves cast waits.0 waits.2 0
                  (casts_onto pending base) x credit n (looks_at a failing)
                  (blames_it setting l procs casts m s places objects store base operator_leaves cast waits.0 waits.2
                  kept 0 (casts_onto pending base) x credit n (looks_at a failing) (λ part_is. (
                    refl,
                    λ place found.
                        subst (λ f. Walks piled_meaning setting l procs casts m s 16 (credit + 896) n n
                        (λ left. StopsNow piled_meaning setting l procs casts m s n (EndsWith (Blame place)))
                        (looks_at a f)) (sym (e ∙ part_is))
                        (walks setting l procs casts m s (looks_at a (suc cast.label)) 16 (credit + 896) 0 n n
                        (λ left. StopsNow piled_meaning setting l procs casts m s n (EndsWith (Blame place)))
                        (fails (looks_at a (suc cast.label)) 16 0 n n
                        (λ left. StopsNow piled_meaning setting l procs casts m s n (EndsWith (Blame place))) refl
                        filled a cast.label waits.2.small stands
                        (λ credit le. blames setting l procs casts m s n cast.label place found objects (heap_of s)
                        filled (Done ∷ Done ∷ []) (blamed_at a cast.label).active.locals refl))
                        (let z = cost a (suc cast.label) in omega (arith, z))),
                  ))),
            ),
          )

  -- ---- the box is found

  abbrev Operates : ℕ → FlatAfter TypeCast → ℕ → ℕ → LowState → Type 0
  Operates i x credit n u =
      After piled_meaning setting l procs casts m s (Going i) x
      (act_cost procs (piling l.types casts) (piled_prices (piling l.types casts) m)) credit n 0 u

  abbrev read_turn : FlatValue TypeCast → List (FlatFrame TypeCast) → FlatAfter TypeCast
  read_turn v frames = flat_operate procs (piling l.types casts) store s.world Unbox (v ∷ []) frames

  -- what was in the store
  box_read : (cell w : ℕ) → Carries (RunLoc cell false) w → (pending : List TypeCast) (failing : ℕ)
      → Waits l.types pending failing
      → (i : ℕ) × ((n : ℕ) → Filling n → (credit : ℕ)
      → Operates i (read_turn (RunLoc cell false) (casts_onto pending base)) credit n (looks_at w failing))
  box_read cell w c pending failing waits = by (slice_get store cell) refl
    where
      Read : Option (List (FlatValue TypeCast)) → Type 0
      Read o =
          (i : ℕ) × ((n : ℕ) → Filling n → (credit : ℕ)
          → Operates i (on_some o (λ values. run_unbox_cell (piling l.types casts) (flat_arity procs)
          (flat_entered procs) store s.world values (casts_onto pending base))) credit n (looks_at w failing))

      stands : There l objects w (Cell (header 5 0 1) 1)
      stands = let one = c.3 refl in subst (λ n. There l objects w (Cell (header 5 0 n) n)) one c.2

      with_word : (x : FlatValue TypeCast) (wx head : ℕ) → object_at objects l.region w ≡ Some (Cell head 1)
          → HoldsWords s.memory (w + 8) (wx ∷ []) → Carries x wx → Read (Some (x ∷ []))
      with_word x wx head is held cx = by_failing (tested failing)
        where
          by_failing : (failing ≡ 0) ⊎ (failing ≡ 0 → ⊥) → Read (Some (x ∷ []))
          by_failing (inl none) =
              let r = keeping w x wx cx pending failing waits none in (
                r.0,
                λ n filled credit.
                    let z = cell_word_there l setting.address procs piled_meaning places objects setting placed (heap_of
                    s) filled w wx [] head is held in
                    subst (λ f. Operates r.0 (On (Return x) (casts_onto pending base) store s.world) credit n
                    (looks_at w f)) (sym none) (
                      refl,
                      walks setting l procs casts m s (looks_at w 0) 0 (credit + 896) operator_leaves n (n + 0)
                          (λ left u. Going r.0 (Return x) (casts_onto pending base) store (n + 0) left u)
                          (gives (looks_at w 0) 0 operator_leaves n (n + 0)
                          (λ left u. Going r.0 (Return x) (casts_onto pending base) store (n + 0) left u) refl filled w
                          wx stands z.may z.is (let q = z.end in omega (arith, q))
                          (λ credit le. r.1 (n + 0) (grown_number n filled) credit le))
                          (let z = cost w 0 in omega (arith, z)),
                    ),
              )
          by_failing (inr some) =
              let r = blaming w stands x pending failing waits some in (
                r.0,
                λ n filled credit. (
                  refl,
                  stays setting l procs casts m s (looks_at w failing) 0 (credit + 896) n (n + 0)
                      (λ left u. Going r.0 (Return x) (casts_onto pending base) store (n + 0) left u)
                      (room_of setting l procs casts m s (looks_at w failing) refl (omega arith))
                      (r.1 (n + 0) (grown_number n filled) (credit + 896)),
                ),
              )

      in_cell : (x : FlatValue TypeCast)
          → CellHeld l setting.address procs piled_meaning places objects s.memory w (x ∷ []) → Read (Some (x ∷ []))
      in_cell x h = by_words h.words h.is h.held h.carried
        where
          by_words : (ws : List ℕ) → object_at objects l.region w ≡ Some (Cell h.head (length ws))
              → HoldsWords s.memory (w + 8) ws
              → AreCarried l setting.address procs piled_meaning places objects (in_row (x ∷ [])) ws
              → Read (Some (x ∷ []))
          by_words [] is held carried = absurd carried
          by_words (wx ∷ []) is held carried = with_word x wx h.head is held carried.0
          by_words (wx ∷ wy ∷ ws) is held carried = absurd carried.1

      by : (o : Option (List (FlatValue TypeCast))) → slice_get store cell ≡ o → Read o
      by None e = (0, λ n filled credit. refl)
      by (Some []) e = (0, λ n filled credit. refl)
      by (Some (x ∷ y ∷ more)) e = (0, λ n filled credit. refl)
      by (Some (x ∷ [])) e =
          in_cell x
          (cell_of l setting.address procs piled_meaning places objects 0 s.memory places store cells cell w (x ∷ [])
          c.1 e)

  -- through all wrappers
  unboxed : (v : FlatValue TypeCast) (w : ℕ) → Carries v w → (pending : List TypeCast) (failing : ℕ)
      → Waits l.types pending failing
      → (i : ℕ) × ((n : ℕ) → Filling n → (credit : ℕ)
      → Operates i (read_turn v (casts_onto pending base)) credit n (looks_at w failing))
  unboxed (RunInt x) w c pending failing waits = (0, λ n filled credit. refl)
  unboxed (RunBool x) w c pending failing waits = (0, λ n filled credit. refl)
  unboxed RunUnit w c pending failing waits = (0, λ n filled credit. refl)
  unboxed (RunFun code captured) w c pending failing waits = (0, λ n filled credit. refl)
  unboxed (RunTuple values) w c pending failing waits = (0, λ n filled credit. refl)
  unboxed (RunLoc cell true) w c pending failing waits = (0, λ n filled credit. refl)
  unboxed (RunLoc cell false) w c pending failing waits = box_read cell w c pending failing waits
  unboxed (RunInject v kept) w c pending failing waits = (0, λ n filled credit. refl)
  unboxed (RunWrap v cast) w c pending failing waits =
      let z = peeled l objects setting procs places v cast w c in
      let inner = z.0 in
      let i = z.2 in
      let read = read_cast l.types casts cast i.part i.is in
      let next : ℕ = if i.part == 0 then failing else i.part in
      let r = unboxed v inner z.1 (read ∷ pending) next
      (i.part, failing, i.is.reading, waits, refl) in
      let frames : List (FlatFrame TypeCast) = PrimFrame Unbox [] ∷ CastFrame read ∷ casts_onto pending base in (
        suc r.0,
        λ n filled credit.
            subst (λ o. Operates (suc r.0) (on_some o (λ part. On (Return v)
            (PrimFrame Unbox [] ∷ CastFrame part ∷ casts_onto pending base) store s.world)) credit n
            (looks_at w failing)) (sym (reads_by l.types casts cast i.part i.is)) (
              refl,
              walks setting l procs casts m s (looks_at w failing) 0 (credit + 896) 0 n (n + 0)
                  (λ left u. Going (suc r.0) (Return v) frames store (n + 0) left u)
                  (passes (looks_at w failing) 0 0 n (n + 0)
                  (λ left u. Going (suc r.0) (Return v) frames store (n + 0) left u) refl filled w inner i.part failing
                  i.there
                  (λ credit le. (
                    tt,
                    quiet_way setting l procs casts m s objects (looks_at inner next) (refl, refl, refl, omega arith)
                        (n + 0) (grown_number n filled),
                    r.1 (n + 0) (grown_number n filled) credit,
                  ))) (let z = cost w failing in omega (arith, z)),
            ),
      )

  -- from where the procedure that reads begins
  module _ (v : FlatValue TypeCast) (cast : TypeCast) (w : ℕ)
      (c : C setting l procs casts m s places objects store (RunWrap v cast) w) where
    abbrev read_at : LowState
    read_at = entered s (read_proc own) (0 ∷ w ∷ 0 ∷ [])

    read_cost : left_of setting read_at ≤ 300
    read_cost = let z = ap entering_some there in omega (arith, z)

    -- so it does where the box is wrapped
    pub wrapped_box_read : (i : ℕ) × ((n : ℕ) → Filling n → Operates i (read_turn (RunWrap v cast) base) 0 n read_at)
    wrapped_box_read =
        let z = peeled l objects setting procs places v cast w c in
        let i = z.2 in
        let read = read_cast l.types casts cast i.part i.is in
        let next : ℕ = if i.part == 0 then 0 else i.part in
        let r = unboxed v z.0 z.1 (read ∷ []) next
        (i.part, 0, i.is.reading, refl, refl) in (
          suc r.0,
          λ n filled.
              let X = λ (left : ℕ) (u : LowState). Going (suc r.0) (Return v)
              (PrimFrame Unbox [] ∷ CastFrame read ∷ base) store (n + 0) left u in
              let within = record (walking read_at 0 0 n (n + 0) X refl filled).Q { extra = 300 } in
              let ready = (walking read_at 0 0 n (n + 0) X refl filled).calm in
              subst (λ o. Operates (suc r.0) (on_some o (λ part. On (Return v)
              (PrimFrame Unbox [] ∷ CastFrame part ∷ base) store s.world)) 0 n read_at)
              (sym (reads_by l.types casts cast i.part i.is)) (
                refl,
                walks_by setting l procs casts m s read_at 0 (0 + 896) (left_of setting read_at + 300) 0 n (n + 0) X
                    (if_true setting (walking read_at 0 0 n (n + 0) X refl filled).P within ready 0 0 refl refl refl
                    (tail_calls_on setting l procs casts m s read_at 0 n (n + 0) within ready (w ∷ 0 ∷ [])
                    (unbox_proc own) (left_of setting (looks_at w 0) + 0) refl there refl
                    (let y = cost w 0 in omega (arith, y))
                    (passes read_at 0 0 n (n + 0) X refl filled w z.0 i.part 0 i.there
                    (λ credit le. (
                      tt,
                      quiet_way setting l procs casts m s objects (looks_at z.0 next) (refl, refl, refl, omega arith)
                          (n + 0) (grown_number n filled),
                      r.1 (n + 0) (grown_number n filled) credit,
                    ))))) (let y = read_cost in omega (arith, y)),
              ),
        )
