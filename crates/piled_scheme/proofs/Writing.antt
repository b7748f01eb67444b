-- Boxes are written through their wrappers: what is written is cast by the outermost wrapper first.
use Rattle.std.proofs.Common.{◌≡◌, ◌⊎◌, inl, inr, ℕ, suc, ◌+◌, ◌<◌, ◌≤◌, true, false, List, []}
use Rattle.std.proofs.Common.{◌∷◌, length, Option, Some, None, refl, sym, ap, ◌∙◌, subst, arith, slice_get}
use Rattle.std.specs.Prelude.{slice_set}
use Rattle.grift_base.specs.declared.operators.PrimOp.TheVariants.{BoxSet}
use Rattle.grift_base.specs.declared.verdicts.Verdict.TheVariants.{Blame}
use Rattle.run_laws.specs.Runs.{Verdict as EndsWith}
use Rattle.core_calc.specs.Account.{Measures}
use Rattle.low_ir.specs.declared.code.LowSource.TheVariants.{Word, Number}
use Rattle.low_ir.specs.Prices.{entering_some}
use Rattle.low_ir.specs.Procedures.{Done, Return as ReturnCode}
use Rattle.low_ir.specs.Steps.{Locals, no_locals, set_local}
use Rattle.low_ir.specs.Run.{Setting, LowState, bind, entered}
use Rattle.cast_modes.specs.Modes.{TypeCast, piling}
use Rattle.cast_modes.specs.RunValues.{RunInt, RunBool, RunUnit, RunFun, RunTuple, RunLoc, RunWrap, RunInject}
use Rattle.cast_modes.specs.ValueSteps.{CastFrame, PrimFrame, Return, On, on_some, run_writes_cell}
use Rattle.coercion_norm.specs.Held.{Layout, There}
use Rattle.coercion_norm.specs.Objects.{Object, Cell}
use Rattle.coercion_norm.specs.ObjectsOfRows.{header}
use Rattle.flat_ir.specs.Bodies.{Proc}
use Rattle.flat_ir.specs.FlatTally.{act_cost}
use Rattle.coer_core.specs.TurnPrices.{piled_prices}
use Rattle.flat_ir.specs.Machine.{FlatValue, FlatFrame, FlatStore, FlatAfter, flat_arity, flat_entered}
use Rattle.flat_ir.specs.Machine.{flat_operate}
use Rattle.low_ir.specs.Codes.{blame_code}
use Rattle.rt_cast.specs.States.{Placed, heap_of}
use Rattle.lower.specs.SchemeLaws.{After, StopsNow, Walks, operator_leaves}
use Rattle.lower.proofs.Public.{as_many}
use Rattle.lower.proofs.Public.{cell_of, there_is}
use Rattle.lower.proofs.Public.{at, here, if_true, if_false, stores, left_of}
use Rattle.piled_scheme.specs.Codes.{set_proc, write_proc}
use Rattle.piled_scheme.specs.Piling.{IsPlain, IsWrapped, piled_meaning, wrapper_object, wrapper_header, most_labels}
use Rattle.piled_scheme.proofs.Deciding.{written_cast, written_plain, writes_by}
use Rattle.piled_scheme.proofs.Laws.{piled_laws}
use Rattle.piled_scheme.proofs.Looking.{Walk, walk, loads_word, looked, blamed}
use Rattle.piled_scheme.proofs.Piles.{Carried, peeled}
use Rattle.piled_scheme.proofs.Reading.{tested, is_some}
use Rattle.piled_scheme.proofs.Storing.{after, may, end, wrote}
use Rattle.piled_scheme.proofs.Turns.{FilledAt, CellsAt, C, plain_turn, keeps, blames_it, no_more, speech}
use Rattle.piled_scheme.proofs.Walking.{quiet_way, room_of, walks, stays, tail_calls, blames}

module _ (setting : Setting) (l : Layout) (procs : List Proc) (casts : List TypeCast) (m : Measures)
    (placed : Placed setting l) (begins : l.region ≡ setting.region) (own : ℕ)
    (there : slice_get setting.procs own ≡ Some (set_proc own)) (s : LowState) (places : List ℕ)
    (objects : List Object) (store : FlatStore TypeCast)
    (cells : CellsAt setting l procs casts m s places objects store s) (base : List (FlatFrame TypeCast))
    (u : FlatValue TypeCast) (wu : ℕ) (carried : C setting l procs casts m s places objects store u wu) where
  open (speech setting l procs casts m s places objects store base operator_leaves)
      use {Filling, grown_number, Carries, Going, inside}

  -- the procedure begins with an address
  abbrev writes_at : ℕ → LowState
  writes_at w = entered s (set_proc own) (w ∷ wu ∷ [])

  abbrev words_at : ℕ → Locals
  words_at w = bind 0 (w ∷ wu ∷ []) no_locals

  -- a wrapper that was looked at, with what it does
  abbrev passing : ℕ → ℕ → ℕ → Locals
  passing w inner part =
      set_local 0 inner (set_local 3 part (set_local 2 25 (set_local 2 wrapper_header (words_at w))))

  -- a label is blamed
  abbrev blamed_at : ℕ → ℕ → ℕ → LowState
  blamed_at w inner label =
      inside (Done ∷ Done ∷ []) (set_local 3 label (passing w inner (suc label))) (blame_code (Word 3))

  abbrev walking : (t : LowState) (asks need n n' : ℕ) (X : ℕ → LowState → Type 0) → t.words ≡ s.words → Filling n
      → Walk setting s
  walking t asks need n n' X same filled =
      walk setting l procs casts m placed s objects t asks need n n' X same filled

  module _ (t : LowState) (asks need n n' : ℕ) (X : ℕ → LowState → Type 0) (same : t.words ≡ s.words)
      (filled : FilledAt setting l procs casts m s places objects store n s) where
    open (walking t asks need n n' X same filled) use {Q, P, To, calm}

    -- a wrapper that keeps what is written is passed
    passes : (w inner : ℕ) → There l objects w (wrapper_object inner 0)
        → ((credit : ℕ) → need ≤ credit → X credit (writes_at inner)) → To (writes_at w)
    passes w inner stands go =
        looked setting l procs casts m placed s objects t asks need n n' X same filled w (wrapper_object inner 0) stands
        refl 25 refl
        (if_true setting P Q calm 25 25 refl refl refl
        (loads_word setting l procs casts m placed s objects t asks need n n' X same filled w wrapper_header
        (inner ∷ 0 ∷ []) stands 2 0 refl refl refl (omega arith)
        (loads_word setting l procs casts m placed s objects t asks need n n' X same filled w wrapper_header
        (inner ∷ 0 ∷ []) stands 1 inner refl refl refl (omega arith)
        (if_true setting P Q calm 0 0 refl refl refl
        (tail_calls setting l procs casts m s t asks n n' Q calm (inner ∷ wu ∷ []) (set_proc own) refl there refl refl
        (omega (arith, same), room_of setting l procs casts m s (writes_at inner) refl (omega arith), go))))))

    -- one that doesn't blames its label
    fails : (w inner label : ℕ) → label < most_labels → There l objects w (wrapper_object inner (suc label))
        → ((credit : ℕ) → need ≤ credit → X credit (blamed_at w inner label)) → To (writes_at w)
    fails w inner label small stands go =
        looked setting l procs casts m placed s objects t asks need n n' X same filled w
        (wrapper_object inner (suc label)) stands refl 25 refl
        (if_true setting P Q calm 25 25 refl refl refl
        (loads_word setting l procs casts m placed s objects t asks need n n' X same filled w wrapper_header
        (inner ∷ suc label ∷ []) stands 2 (suc label) refl refl refl (omega arith)
        (loads_word setting l procs casts m placed s objects t asks need n n' X same filled w wrapper_header
        (inner ∷ suc label ∷ []) stands 1 inner refl refl refl (omega arith)
        (if_false setting P Q calm (suc label) 0 refl refl (is_some (suc label) (λ e. omega (arith, e)))
        (blamed setting l procs casts m placed s objects t asks need n n' X same filled label small refl go)))))

  -- what is left to pay where it begins
  cost : (w : ℕ) → left_of setting (writes_at w) ≤ 300
  cost w = let z = ap entering_some there in omega (arith, z)

  abbrev pub Operates : ℕ → FlatAfter TypeCast → ℕ → ℕ → LowState → Type 0
  Operates i x credit n v =
      After piled_meaning setting l procs casts m s (Going i) x
      (act_cost procs (piling l.types casts) (piled_prices (piling l.types casts) m)) credit n 0 v

  abbrev write_turn : FlatValue TypeCast → FlatAfter TypeCast
  write_turn v = flat_operate procs (piling l.types casts) store s.world BoxSet (v ∷ u ∷ []) base

  abbrev Written : FlatValue TypeCast → ℕ → Type 0
  Written v w =
      (i : ℕ) × ((n : ℕ) → Filling n → (credit : ℕ) → Operates i (write_turn v) credit n (writes_at w))

  -- a box without wrappers
  box_written : (cell w : ℕ) → Carries (RunLoc cell false) w → (n : ℕ) → Filling n → (credit : ℕ)
      → Operates 0 (write_turn (RunLoc cell false)) credit n (writes_at w)
  box_written cell w c n filled credit = by (slice_get store cell) refl
    where
      stands : There l objects w (Cell (header 5 0 1) 1)
      stands = let one = c.3 refl in subst (λ k. There l objects w (Cell (header 5 0 k) k)) one c.2

      Wrote : Option (List (FlatValue TypeCast)) → Type 0
      Wrote o =
          Operates 0 (on_some o (λ old. run_writes_cell (piling l.types casts) (flat_arity procs) (flat_entered procs)
          store s.world cell (u ∷ []) base)) credit n (writes_at w)

      one_value : (x : FlatValue TypeCast) → slice_get store cell ≡ Some (x ∷ []) → Wrote (Some (x ∷ []))
      one_value x e =
          let way = walking (writes_at w) 0 operator_leaves n (n + 0) X refl filled in (
            refl,
            walks setting l procs casts m s (writes_at w) 0 (credit + 896) operator_leaves n (n + 0) X
                (looked setting l procs casts m placed s objects (writes_at w) 0 operator_leaves n (n + 0) X refl filled
                w (Cell (header 5 0 1) 1) stands refl 5 refl
                (if_false setting way.P way.Q way.calm 5 25 refl refl refl
                (stores setting way.P way.Q way.calm w wu refl refl
                (may setting l procs casts m placed begins s places objects store cells n filled cell w (x ∷ []) e c.1 0
                u wu carried (omega arith) (w + 8) (omega arith))
                (end setting l procs casts m placed begins s places objects store cells n filled cell w (x ∷ []) e c.1 0
                u wu carried (omega arith) (w + 8) (omega arith))
                (here setting way.P way.Q stored (
                  omega arith,
                  room_of setting l procs casts m s stored refl (omega arith),
                  λ left le. (
                    refl,
                    le,
                    wrote setting l procs casts m placed begins s places objects store cells n filled cell w (x ∷ []) e
                        c.1 0 u wu carried (omega arith) (w + 8) (omega arith) stored (n + 0) (sym (no_more n)) refl
                        refl refl refl,
                  ),
                )))))
                (let z = cost w in omega (arith, z)),
          )
        where
          X : ℕ → LowState → Type 0
          X left v = Going 0 (Return RunUnit) base (slice_set store cell (u ∷ [])) (n + 0) left v

          stored : LowState
          stored =
              at s.world
              (after setting l procs casts m placed begins s places objects store cells n filled cell w (x ∷ []) e c.1 0
              u wu carried (omega arith) (w + 8) (omega arith)) s.waiting 6 (Done ∷ [])
              (set_local 2 5 (set_local 2 (header 5 0 1) (words_at w))) (ReturnCode (Number 0))

      -- a box has one value
      single : (values : List (FlatValue TypeCast)) → slice_get store cell ≡ Some values → length values ≡ 1
      single values e =
          let h = cell_of l setting.address procs piled_meaning places objects 0 s.memory places store cells cell w
          values c.1 e in
          let same = there_is l objects w (Cell (header 5 0 1) 1) (Cell h.head (length h.words)) placed.before stands
          h.is in
          let many = as_many l setting.address procs piled_meaning piled_laws places objects values h.words h.carried in
          sym many ∙ sym (counts_same (header 5 0 1) h.head 1 (length h.words) same)
        where
          counts_same : (x y j k : ℕ) → Cell x j ≡ Cell y k → j ≡ k
          counts_same x y j k e = cc

      by : (o : Option (List (FlatValue TypeCast))) → slice_get store cell ≡ o → Wrote o
      by None e = refl
      by (Some []) e = absurd (let z = single [] e in omega (arith, z))
      by (Some (x ∷ [])) e = one_value x e
      by (Some (x ∷ y ∷ more)) e = absurd (let z = single (x ∷ y ∷ more) e in omega (arith, z))

  -- a wrapper: what is written is cast, and then goes to what it wraps
  module _ (v : FlatValue TypeCast) (cast : TypeCast) (w : ℕ)
      (c : C setting l procs casts m s places objects store (RunWrap v cast) w) where
    peeled_off : (inner : ℕ) × Carried l objects setting procs places v [] inner × IsWrapped l objects cast inner w
    peeled_off = peeled l objects setting procs places v cast w c

    abbrev inner : ℕ
    inner = peeled_off.0

    abbrev part : ℕ
    part = peeled_off.2.part

    abbrev first : TypeCast
    first = written_cast l.types casts cast part peeled_off.2.is

    plain : IsPlain l.types first part
    plain = written_plain l.types casts cast part peeled_off.2.is

    abbrev frames : List (FlatFrame TypeCast)
    frames = CastFrame first ∷ PrimFrame BoxSet (v ∷ []) ∷ base

    -- from the cast on
    abbrev Behind : Type 0
    Behind =
        (k : ℕ) × ((n : ℕ) → Filling n → (credit : ℕ) → Going k (Return u) frames store n credit (writes_at w))

    cast_kept : part ≡ 0 → Written v inner → Behind
    cast_kept none r = (
      suc (suc r.0),
      λ n filled credit. (
        tt,
        quiet_way setting l procs casts m s objects (writes_at w) (refl, refl, refl, omega arith) n filled,
        plain_turn setting l procs casts m s places objects store base operator_leaves first part plain (suc r.0)
            (PrimFrame BoxSet (v ∷ []) ∷ base) u credit n (writes_at w)
            (keeps setting l procs casts m s places objects store base operator_leaves first part plain none (suc r.0)
            (PrimFrame BoxSet (v ∷ []) ∷ base) u credit n (writes_at w) (
              refl,
              walks setting l procs casts m s (writes_at w) 16 (credit + 896) 0 n (n + 0)
                  (λ left y. Going (suc r.0) (Return u) (PrimFrame BoxSet (v ∷ []) ∷ base) store (n + 0) left y)
                  (passes (writes_at w) 16 0 n (n + 0)
                  (λ left y. Going (suc r.0) (Return u) (PrimFrame BoxSet (v ∷ []) ∷ base) store (n + 0) left y) refl
                  filled w inner (subst (λ p. There l objects w (wrapper_object inner p)) none peeled_off.2.there)
                  (λ credit le. (
                    tt,
                    quiet_way setting l procs casts m s objects (writes_at inner) (refl, refl, refl, omega arith)
                        (n + 0) (grown_number n filled),
                    r.1 (n + 0) (grown_number n filled) credit,
                  )))
                  (let y = cost w in omega (arith, y)),
            )),
      ),
    )

    cast_blamed : (part ≡ 0 → ⊥) → Behind
    cast_blamed some = (
      suc 0,
      λ n filled credit. (
        tt,
        quiet_way setting l procs casts m s objects (writes_at w) (refl, refl, refl, omega arith) n filled,
        plain_turn setting l procs casts m s places objects store base operator_leaves first part plain 0
            (PrimFrame BoxSet (v ∷ []) ∷ base) u credit n (writes_at w)
            (blames_it setting l procs casts m s places objects store base operator_leaves first part plain some 0
            (PrimFrame BoxSet (v ∷ []) ∷ base) u credit n (writes_at w) (λ part_is. (
              refl,
              λ place found.
                  let Y = λ (left : ℕ) (y : LowState). StopsNow piled_meaning setting l procs casts m s n
                  (EndsWith (Blame place)) y in
                  walks setting l procs casts m s (writes_at w) 16 (credit + 896) 0 n n Y
                  (fails (writes_at w) 16 0 n n Y refl filled w inner first.label plain.small
                  (subst (λ p. There l objects w (wrapper_object inner p)) part_is peeled_off.2.there)
                  (λ left le. blames setting l procs casts m s n first.label place found objects (heap_of s) filled
                  (Done ∷ Done ∷ []) (blamed_at w inner first.label).active.locals refl))
                  (let y = cost w in omega (arith, y)),
            ))),
      ),
    )

    behind : Written v inner → Behind
    behind r = by (tested part)
      where
        by : (part ≡ 0) ⊎ (part ≡ 0 → ⊥) → Behind
        by (inl none) = cast_kept none r
        by (inr some) = cast_blamed some

    -- the turn in which the operator goes into the wrapper, from where the procedure that writes begins, or another
    goes_in : (te : LowState) → (b : Behind) → (n : ℕ) → Filling n → (credit : ℕ)
        → Walks piled_meaning setting l procs casts m s 0 (credit + 896) n (n + 0)
        (λ left y. Going b.0 (Return u) frames store (n + 0) left y) te
        → Operates b.0 (write_turn (RunWrap v cast)) credit n te
    goes_in te b n filled credit walk =
        subst (λ o. Operates b.0 (on_some o (λ part. On (Return u)
        (CastFrame part ∷ PrimFrame BoxSet (v ∷ []) ∷ base) store s.world)) credit n te)
        (sym (writes_by l.types casts cast part peeled_off.2.is)) (refl, walk)

  -- through all wrappers
  boxes_set : (v : FlatValue TypeCast) (w : ℕ) → Carries v w → Written v w
  boxes_set (RunInt x) w c = (0, λ n filled credit. refl)
  boxes_set (RunBool x) w c = (0, λ n filled credit. refl)
  boxes_set RunUnit w c = (0, λ n filled credit. refl)
  boxes_set (RunFun code captured) w c = (0, λ n filled credit. refl)
  boxes_set (RunTuple values) w c = (0, λ n filled credit. refl)
  boxes_set (RunLoc cell true) w c = (0, λ n filled credit. refl)
  boxes_set (RunLoc cell false) w c = (0, λ n filled credit. box_written cell w c n filled credit)
  boxes_set (RunInject v kept) w c = (0, λ n filled credit. refl)
  boxes_set (RunWrap v cast) w c =
      let p = peeled_off v cast w c in
      let b = behind v cast w c (boxes_set v p.0 p.1) in (
        b.0,
        λ n filled credit. goes_in v cast w c (writes_at w) b n filled credit
            (stays setting l procs casts m s (writes_at w) 0 (credit + 896) n (n + 0)
            (λ left y. Going b.0 (Return u) (frames v cast w c) store (n + 0) left y)
            (room_of setting l procs casts m s (writes_at w) refl (omega arith))
            (b.1 (n + 0) (grown_number n filled) (credit + 896))),
      )

  -- from where the procedure that writes begins
  module _ (v : FlatValue TypeCast) (cast : TypeCast) (w : ℕ)
      (c : C setting l procs casts m s places objects store (RunWrap v cast) w) where
    abbrev write_at : LowState
    write_at = entered s (write_proc own) (0 ∷ w ∷ 0 ∷ wu ∷ [])

    write_cost : left_of setting write_at ≤ 300
    write_cost = let z = ap entering_some there in omega (arith, z)

    -- so it does where the box is wrapped
    pub wrapped_box_set : (i : ℕ) × ((n : ℕ) → Filling n → Operates i (write_turn (RunWrap v cast)) 0 n write_at)
    wrapped_box_set =
        let p = peeled_off v cast w c in
        let b = behind v cast w c (boxes_set v p.0 p.1) in (
          b.0,
          λ n filled.
              let X = λ (left : ℕ) (y : LowState). Going b.0 (Return u) (frames v cast w c) store (n + 0) left y in
              let way = walking write_at 0 0 n (n + 0) X refl filled in
              goes_in v cast w c write_at b n filled 0
              (walks setting l procs casts m s write_at 0 (0 + 896) 0 n (n + 0) X
              (if_true setting way.P way.Q way.calm 0 0 refl refl refl
              (tail_calls setting l procs casts m s write_at 0 n (n + 0) way.Q way.calm
              (w ∷ wu ∷ []) (set_proc own) refl there refl refl (
                omega arith,
                room_of setting l procs casts m s (writes_at w) refl (omega arith),
                λ credit le. b.1 (n + 0) (grown_number n filled) credit,
              ))) (let z = write_cost in omega (arith, z))),
        )
