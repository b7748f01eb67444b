-- Operators on boxes and vectors that a procedure of the scheme does.
use Rattle.std.proofs.Common.{◌≡◌, ◌⊎◌, inl, inr, ℕ, ◌+◌, ◌<◌, ◌≤◌, List, [], ◌∷◌, length, Some, true}
use Rattle.std.proofs.Common.{refl, sym, ◌∙◌, subst, arith}
use Rattle.std.specs.Prelude.{nat_le}
use Rattle.grift_base.specs.declared.operators.PrimOp.{PrimOp}
use Rattle.grift_base.specs.declared.operators.PrimOp.TheVariants.{MakeVector, VectorRef, VectorSet, VectorLength}
use Rattle.grift_base.specs.declared.operators.PrimOp.TheVariants.{Unbox, BoxSet}
use Rattle.low_ir.specs.declared.code.LowSource.{LowSource}
use Rattle.low_ir.specs.declared.code.LowSource.TheVariants.{Number}
use Rattle.low_ir.specs.Procedures.{Code, Done, Load, Store, Set, Call, Proc as LowProc}
use Rattle.low_ir.specs.Steps.{Locals}
use Rattle.low_ir.specs.Run.{Waiting as LowWaiting, word_of, words_of, entered}
use Rattle.cast_modes.specs.RunValues.{RunWrap, in_row}
use Rattle.coercion_norm.specs.Held.{TypesStand}
use Rattle.coercion_norm.specs.Objects.{Object}
use Rattle.flat_ir.specs.declared.code.Operand.{Operand}
use Rattle.flat_ir.specs.declared.code.Operation.TheVariants.{Prim}
use Rattle.flat_ir.specs.Bodies.{Give}
use Rattle.flat_ir.specs.Closed.{operands_bound}
use Rattle.flat_ir.specs.Machine.{FlatValue, FlatAfter, FlatState, Group, values, flat_operate}
use Rattle.flat_ir.specs.Machine.{Locals as FlatLocals}
use Rattle.lowered_code.specs.declared.numbering.Shape.{Shape}
use Rattle.rt_cast.specs.States.{Heap}
use Rattle.lowered_code.specs.Numbering.{operand_word, test_word}
use Rattle.lowered_code.specs.Emit.{Then, found_all, fetch_all, source_at, of_kind}
use Rattle.lower.specs.CarriedValues.{AreCarried}
use Rattle.lower.specs.Relation.{Fits, Falls}
use Rattle.lower.specs.SimulationServices.{StandsAs}
use Rattle.lower.specs.SchemeLaws.{After, Goes, Returns, OperatorDone, IsHandedOn, at_or_zero, operator_leaves}
use Rattle.lower.proofs.words.Scene.{Fills, CellsStand}
use Rattle.lower.proofs.words.Steps.{at}
use Rattle.low_ir.specs.Prices.{code_price, codes_price}
use Rattle.std.proofs.Common.{◌*◌}
use Rattle.flat_ir.specs.FlatTally.{operator_cost}
use Rattle.lower.proofs.words.EmitPrices.{prim_price, perform_begins}
use Rattle.lowered_code.specs.Emit.{perform}
use Rattle.lower.proofs.words.Operands.{values_carried, ChangesFrom, Changes, and_true, both_words}
use Rattle.lower.proofs.words.Operands.{found_all_same}
use Rattle.lower.proofs.words.Operations.{Touches, not_computed}
use Rattle.lower.proofs.simulation.Way.{Program, mode_of, prices_of, next_state, cost_of, waiting_dues}
use Rattle.lower.proofs.simulation.Way.{due_same}
use Rattle.lower.proofs.simulation.Way.{room_over, stays_in}
use Rattle.lower.proofs.simulation.Gives.{RestHere, word_for, code_for}
use Rattle.lower.proofs.simulation.Operations.{giving}
use Rattle.lower.proofs.simulation.Served.{silent_after}
use Rattle.lower.proofs.simulation.Services.{Calling, Served, called, caller, is_served, lower_floor}
use Rattle.lower.proofs.simulation.Services.{calls_now}
use Rattle.lower.proofs.simulation.Casts.{serving_scene, as_it_was}
use Rattle.lower.proofs.simulation.Serving.{after_fetching, not_of_kind, wrapped_there}
use Rattle.lower.specs.Meanings.{IsWrapper}
use Rattle.lower.proofs.simulation.Applied.{source_word}

-- the operators on vectors
pub data OnVectors : PrimOp → Type 0 where
  OnMake : OnVectors MakeVector
  OnRef : OnVectors VectorRef
  OnSet : OnVectors VectorSet
  OnLength : OnVectors VectorLength

-- and those on boxes
pub data OnBoxes : PrimOp → Type 0 where
  OnUnbox : OnBoxes Unbox
  OnBoxSet : OnBoxes BoxSet

module _ (program : Program) (typed : TypesStand program.l)
    (f : FlatState program.meaning.Cast) (places : List ℕ) (objects : List Object) (h : Heap)
    (filled : Fills program objects h) (cells : CellsStand program places objects h f.store)
    (waiting : List LowWaiting) (size : ℕ) (rests : List Code) (words : Locals) (s : Shape) (count depth : ℕ)
    (group : Group program.meaning.Cast) (locals : FlatLocals program.meaning.Cast) (operator : PrimOp)
    (os : List Operand) (next : Then)
    (fits : Fits program.setting program.l program.run program.procs program.answer program.meaning places objects s
    count size group depth locals words (Give (Prim operator os)))
    (rest : RestHere program places objects waiting s count size group depth f.frames next rests words)
    (six : s.params ≤ 6) where
  open (giving program typed f places objects h filled cells waiting size rests words s count depth group locals
      (Prim operator os) next fits rest) use {wide, d, less, k}

  bound : operands_bound s.captured count depth os ≡ true
  bound = (and_true (operands_bound s.captured count depth os) (nat_le (length os) 8) fits.bound).0

  few : length os ≤ 8
  few =
      let z = (and_true (operands_bound s.captured count depth os) (nat_le (length os) 8) fits.bound).1 in
      grind (arith, z)

  abbrev floor : ℕ
  floor = code_price program.setting.procs size k + codes_price program.setting.procs size rests

  abbrev have : ℕ
  have = 0 + (10 * length rests + waiting_dues waiting)

  -- the turn is served, where its code is that of an operator
  operator_is_served : (op : PrimOp) (x : FlatAfter program.meaning.Cast)
      → (next_state program f x).world.output ≡ f.world.output
      → Calling program typed f floor have 446 x 0
      (at f.world h waiting size rests words (perform program.run s d (Prim op os) k))
      → Served program typed f x 0 0 (at f.world h waiting size rests words (perform program.run s d (Prim op os) k))
  operator_is_served op x silent c =
      is_served program typed f floor 0 446 x 0
      (at f.world h waiting size rests words (perform program.run s d (Prim op os) k)) silent (omega arith)
      (let z = prim_price program.setting.procs size s six program.run d op os few k in omega (arith, z, few))
      (subst (λ n. Calling program typed f floor (0 + (n + waiting_dues waiting)) 446 x 0
      (at f.world h waiting size rests words (perform program.run s d (Prim op os) k)))
      (due_same (perform program.run s d (Prim op os) k) rests (perform_begins program.run s d (Prim op os) k)) c)

  touched_all : (new : Locals) → ChangesFrom (operand_word s 0) (length os) words new
      → Touches s (word_for program places objects s next) words new
  touched_all new changed j ne side = changed j (by_side side)
    where
      by_side : (j ≤ s.params) ⊎ (s.params + 10 ≤ j) → (j < operand_word s 0) ⊎ (operand_word s 0 + length os ≤ j)
      by_side (inl p) = inl (omega (arith, p))
      by_side (inr p) = inr (omega (arith, p, few))

  carried_all : (ws : List ℕ)
      × AreCarried program.l program.setting.address program.procs program.meaning places objects
      (in_row (values locals group os)) ws
  carried_all =
      values_carried (serving_scene program typed f places
      (flat_operate program.procs (mode_of program) f.store f.world MakeVector [] f.frames) 0 0 0 0 h.words
      (room_over program size waiting)) f.world h (as_it_was program f h.words) objects filled waiting size
      (stays_in program size waiting) rests s count group depth locals os bound words fits.knows

  abbrev pub source : ℕ → LowSource
  source i = source_at (found_all s 0 os) i

  found_word : (new : Locals) (ws : List ℕ) (i : ℕ) → words_of new (found_all s 0 os) ≡ Some ws
      → word_of new (source i) ≡ Some (at_or_zero ws i)
  found_word new ws i e = source_word new (found_all s 0 os) ws i e

  touched_more : (new last : Locals) → ChangesFrom (operand_word s 0) (length os) words new
      → Changes (test_word s) new last → Touches s (word_for program places objects s next) words last
  touched_more new last changed more j ne side =
      more j (not_computed s (test_word s) j (omega arith) (omega arith) side)
      ∙ touched_all new changed j ne side

  module _ (op : PrimOp) (proc : LowProc) (number params : ℕ) (handed : List ℕ → List ℕ) (args : List LowSource)
      (law : OperatorDone program.meaning program.setting program.l program.procs program.casts program.measured
      program.run op proc handed) (stands : StandsAs program.setting number proc params)
      (long : (ws : List ℕ) → length (handed ws)
      ≡ params)
      (on : IsHandedOn program.meaning program.setting program.l program.procs program.casts program.measured
      program.run
      op (values locals group os))
      (cost_is : operator_cost program.procs (mode_of program) (prices_of program) op (values locals group os)
      ≡ cost_of program f) where
    abbrev pub after : FlatAfter program.meaning.Cast
    after = flat_operate program.procs (mode_of program) f.store f.world op (values locals group os) f.frames

    pub silent : (next_state program f after).world.output ≡ f.world.output
    silent =
        let t = at f.world h waiting size rests words k in
        let z = law.does t program.number places objects f.store (record { filled = filled; cells = cells }) f.frames
        (values locals group os) carried_all.0 carried_all.1 on in
        silent_after program t (Goes program.meaning program.setting program.l program.procs program.casts
        program.measured t
        (Returns program.meaning program.setting program.l program.procs program.casts program.measured t
        operator_leaves places objects f.frames)
        z.0) f refl after (operator_cost program.procs (mode_of program) (prices_of program) op
        (values locals group os)) 0 program.number 0 (entered t proc (handed carried_all.0)) z.1

    pub calls_for : (behind : Code) (rr : List Code) (falls : ℕ) → falls ≤ 1
        → Falls falls behind rr (code_for program places objects s next) rests
        → (new : Locals) → Touches s (word_for program places objects s next) words new → (ws : List ℕ)
        → AreCarried program.l program.setting.address program.procs program.meaning places objects
        (in_row (values locals group os)) ws → words_of new args ≡ Some (handed ws)
        → Calling program typed f (code_price program.setting.procs size behind
        + codes_price program.setting.procs size rr) have 446 after 0
        (at f.world h waiting size rr new (Call (word_for program places objects s next) number args behind))
    calls_for behind rr falls one fall new touches ws carried are =
        let c = caller program typed f places objects h filled cells waiting size rests words s count depth group next
        rest less falls behind rr fall new touches operator_leaves have 446 (omega (arith, one)) (omega (arith, one)) in
        let z = law.does c program.number places objects f.store (record { filled = filled; cells = cells }) f.frames
        (values locals group os) ws carried on in
        called program typed f places objects h filled cells waiting size rests words s count depth group next rest
        less falls behind rr fall new touches operator_leaves have 446 (omega (arith, one)) (omega (arith, one)) after 0
        number args (handed ws) proc params are stands (long ws) z.0
        (subst (λ cost. After program.meaning program.setting program.l program.procs program.casts program.measured c
        (Goes program.meaning program.setting program.l program.procs program.casts program.measured c
        (Returns program.meaning program.setting program.l program.procs program.casts program.measured c
        operator_leaves places objects f.frames) z.0) after cost 0 program.number 0 (entered c proc (handed ws)))
        cost_is z.1)

    -- its code hands the operands, which were fetched, to the procedure
    module _ (told : (new : Locals) (ws : List ℕ) → words_of new (found_all s 0 os) ≡ Some ws
        → words_of new args ≡ Some (handed ws)) where
      pub serves_operator : perform program.run s d (Prim op os) k ≡ fetch_all s 0 os (Call d number args k)
          → Served program typed f after 0 0 (at f.world h waiting size rests words (perform program.run s d
          (Prim op os) k))
      serves_operator code_is =
          operator_is_served op after silent
          (subst (λ c. Calling program typed f floor have 446 after 0 (at f.world h waiting size rests words c))
          (sym code_is)
          (after_fetching program typed f places objects h filled waiting size rests s count depth group locals wide
          after 0 floor have 446 os words (Call d number args k) bound few fits.knows
          (λ ws new carried are changed.
          calls_for k rests 0 (omega arith) (refl, refl) new (touched_all new changed) ws carried (told new ws are))))

      -- a box in a wrapper: the kind of what stands there is tested first
      module _ (u : FlatValue program.meaning.Cast) (cast : program.meaning.Cast)
          (others : List (FlatValue program.meaning.Cast)) (wrapped : values locals group os ≡ RunWrap u cast ∷ others)
          (one : Code) where
        abbrev tested : Code
        tested = fetch_all s 0 os (of_kind s (source 0) 5 one (Call d number args Done) k)

        first_wrapped : (ws : List ℕ)
            → AreCarried program.l program.setting.address program.procs program.meaning places objects
            (in_row (RunWrap u cast ∷ others)) ws → IsWrapper program.l objects (at_or_zero ws 0)
        first_wrapped [] c = absurd c
        first_wrapped (w ∷ ws) c = wrapped_there program places objects u cast [] w c.0

        serves_tested : Calling program typed f floor have 446 after 0 (at f.world h waiting size rests words tested)
        serves_tested =
            after_fetching program typed f places objects h filled waiting size rests s count depth group locals wide
            after 0 floor have 446 os words (of_kind s (source 0) 5 one (Call d number args Done) k) bound few
            fits.knows
            (λ ws new carried are changed.
            not_of_kind program typed f places objects h filled waiting size rests s count depth group locals wide
            after 0 floor have 446 (source 0) (at_or_zero ws 0) 5 one (Call d number args Done) k new (omega arith)
            (λ z. omega (arith, z)) (λ z. omega (arith, z)) (found_word new ws 0 are)
            (first_wrapped ws (subst (λ vs. AreCarried program.l program.setting.address program.procs program.meaning
            places objects (in_row vs) ws) wrapped carried))
            (λ last more.
            let still = found_all_same (serving_scene program typed f places after 0 0 0 0 h.words
            (room_over program size waiting)) f.world h (as_it_was program f h.words) objects filled waiting size
            (stays_in program size waiting) rests s count group depth locals os 0 bound (omega (arith, few)) new last
            more ∙ are in
            let t = at f.world h waiting size (k ∷ rests) last (Call d number args Done) in
            calls_now program typed f floor have 446 after 0 t
            (lower_floor program typed f (10 + floor) floor have 446 after 0 t (omega arith)
            (calls_for Done (k ∷ rests) 1 (omega arith) (refl, (refl, refl)) last (touched_more new last changed more)
            ws carried (told last ws still)))))

        pub serves_wrapped : perform program.run s d (Prim op os) k ≡ tested
            → Served program typed f after 0 0 (at f.world h waiting size rests words (perform program.run s d
            (Prim op os) k))
        serves_wrapped code_is =
            operator_is_served op after silent
            (subst (λ c. Calling program typed f floor have 446 after 0 (at f.world h waiting size rests words c))
            (sym code_is) serves_tested)

  -- what is shown of an operator
  abbrev pub IsServed : PrimOp → Type 0
  IsServed op =
      operator_cost program.procs (mode_of program) (prices_of program) op (values locals group os) ≡ cost_of program f
      → Served program typed f
      (flat_operate program.procs (mode_of program) f.store f.world op (values locals group os) f.frames) 0 0
      (at f.world h waiting size rests words (perform program.run s d (Prim op os) k))

  -- the operators on vectors
  pub vectors_served : (op : PrimOp) → OnVectors op → IsServed op
  vectors_served _ OnMake cost_is =
      serves_operator MakeVector program.serves.cells.fill program.run.fill 2
      (λ ws. at_or_zero ws 0 ∷ at_or_zero ws 1 ∷ [])
      (source 0 ∷ source 1 ∷ []) program.serves.cells.fills program.serves.cells.fill_stands (λ ws. refl) tt cost_is
      (λ new ws e. both_words _ _ _ _ (found_word new ws 0 e) (both_words _ _ _ _ (found_word new ws 1 e) refl)) refl
  vectors_served _ OnRef cost_is =
      serves_operator VectorRef program.serves.cells.read program.run.read 3
      (λ ws. 1 ∷ at_or_zero ws 0 ∷ at_or_zero ws 1 ∷ []) (Number 1 ∷ source 0 ∷ source 1 ∷ [])
      program.serves.cells.reads
      program.serves.cells.read_stands (λ ws. refl) tt cost_is
      (λ new ws e. both_words _ _ _ _ refl (both_words _ _ _ _ (found_word new ws 0 e)
      (both_words _ _ _ _ (found_word new ws 1 e) refl))) refl
  vectors_served _ OnLength cost_is =
      serves_operator VectorLength program.serves.cells.read program.run.read 3 (λ ws. 2 ∷ at_or_zero ws 0 ∷ 0 ∷ [])
      (Number 2 ∷ source 0 ∷ Number 0 ∷ []) program.serves.cells.measures program.serves.cells.read_stands
      (λ ws. refl) tt cost_is
      (λ new ws e. both_words _ _ _ _ refl (both_words _ _ _ _ (found_word new ws 0 e)
      (both_words _ _ _ _ refl refl))) refl
  vectors_served _ OnSet cost_is =
      serves_operator VectorSet program.serves.cells.write program.run.write 4
      (λ ws. 1 ∷ at_or_zero ws 0 ∷ at_or_zero ws 1 ∷ at_or_zero ws 2 ∷ [])
      (Number 1 ∷ source 0 ∷ source 1 ∷ source 2 ∷ []) program.serves.cells.writes program.serves.cells.write_stands
      (λ ws. refl) tt cost_is
      (λ new ws e. both_words _ _ _ _ refl (both_words _ _ _ _ (found_word new ws 0 e)
      (both_words _ _ _ _ (found_word new ws 1 e) (both_words _ _ _ _ (found_word new ws 2 e) refl)))) refl

  -- boxes in wrappers
  module _ (u : FlatValue program.meaning.Cast) (cast : program.meaning.Cast)
      (others : List (FlatValue program.meaning.Cast)) (wrapped : values locals group os ≡ RunWrap u cast ∷ others)
    where
      pub boxes_served : (op : PrimOp) → OnBoxes op → IsServed op
      boxes_served _ OnUnbox cost_is =
          serves_wrapped Unbox program.serves.cells.read program.run.read 3 (λ ws. 0 ∷ at_or_zero ws 0 ∷ 0 ∷ [])
          (Number 0 ∷ source 0 ∷ Number 0 ∷ []) program.serves.cells.unboxes program.serves.cells.read_stands
          (λ ws. refl)
          (u, cast, others, wrapped) cost_is
          (λ new ws e. both_words _ _ _ _ refl (both_words _ _ _ _ (found_word new ws 0 e)
          (both_words _ _ _ _ refl refl))) u cast others wrapped (Load d (source 0) 8 Done) refl
      boxes_served _ OnBoxSet cost_is =
          serves_wrapped BoxSet program.serves.cells.write program.run.write 4
          (λ ws. 0 ∷ at_or_zero ws 0 ∷ 0 ∷ at_or_zero ws 1 ∷ []) (Number 0 ∷ source 0 ∷ Number 0 ∷ source 1 ∷ [])
          program.serves.cells.sets program.serves.cells.write_stands (λ ws. refl) (u, cast, others, wrapped) cost_is
          (λ new ws e. both_words _ _ _ _ refl (both_words _ _ _ _ (found_word new ws 0 e)
          (both_words _ _ _ _ refl (both_words _ _ _ _ (found_word new ws 1 e) refl)))) u cast others wrapped
          (Store (source 1) (source 0) 8 (Set d (Number 0) Done)) refl
