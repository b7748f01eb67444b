-- The scheme in which casts pile up serves: its procedures do what is asked of them wherever they stand in a program.
use Rattle.std.proofs.Common.{◌≡◌, ℕ, suc, ◌+◌, ◌^◌, ◌<◌, List, [], ◌∷◌, length, Some, None, refl}
use Rattle.std.proofs.Common.{sym, ap, ◌∙◌, subst, arith, slice_get, ℤ, ◌%◌}
use Rattle.std.specs.Int.{w64, cast_unsigned}
use Rattle.grift_base.specs.declared.operators.PrimOp.{PrimOp}
use Rattle.grift_base.specs.declared.operators.PrimOp.TheVariants.{Unbox, BoxSet, VectorRef, VectorSet, VectorLength}
use Rattle.grift_base.specs.Types.{TypeRows}
use Rattle.core_calc.specs.Account.{Measures}
use Rattle.low_ir.specs.Procedures.{Proc as LowProc}
use Rattle.low_ir.specs.Run.{Setting, LowState, entered}
use Rattle.cast_modes.specs.Modes.{TypeCast, piling}
use Rattle.cast_modes.specs.RunValues.{RunInt, RunBool, RunUnit, RunFun, RunTuple, RunLoc, RunWrap, RunInject}
use Rattle.cast_modes.specs.RunValues.{in_row, all_plain}
use Rattle.cast_modes.specs.ValueSteps.{CastFrame, ProjFrame, Return, On, on_some}
use Rattle.cast_modes.specs.ValueSteps.{run_enter_wrapped, run_proj_dyn}
use Rattle.coercion_norm.specs.Held.{Layout}
use Rattle.coercion_norm.specs.Objects.{Object}
use Rattle.flat_ir.specs.Bodies.{Proc}
use Rattle.flat_ir.specs.FlatTally.{act_cost, operator_cost}
use Rattle.coer_core.specs.TurnPrices.{piled_prices}
use Rattle.cast_modes.specs.Prices.{Cost}
use Rattle.flat_ir.specs.Machine.{FlatValue, FlatFrame, FlatStore, FlatAfter, flat_arity, flat_entered}
use Rattle.flat_ir.specs.Machine.{flat_operate}
use Rattle.rt_cast.specs.States.{Placed, heap_of}
use Rattle.rt_refs.specs.FillCodes.{fill_proc}
use Rattle.rt_refs.specs.Products.{product_loop, multiply}
use Rattle.rt_refs.specs.Quotients.{quotient_loop, divide}
use Rattle.lower.specs.CarriedValues.{CarriedIn, AreCarried}
use Rattle.lowered_code.specs.CastWays.{cast_ways}
use Rattle.lowered_code.specs.Emit.{cast_word}
use Rattle.lower.specs.Following.{ServesEverywhere}
use Rattle.lower.specs.SchemeLaws.{Here, Answers, Serves, Calls, CastsMade, PartsGiven, CellsServed, CallsMade}
use Rattle.lower.specs.SchemeLaws.{OperatorDone, IsHandedOn, at_or_zero, operator_leaves, part_leaves}
use Rattle.lowered_code.specs.declared.served.Served.{Served}
use Rattle.lower.specs.Sets.{StandFrom, with_casts}
use Rattle.lower.proofs.Public.{plainly_lets, vectors_are_served}
use Rattle.lower.proofs.Public.{products_are_served, stands_as}
use Rattle.piled_scheme.specs.Codes.{cast_proc, idle_proc, read_proc, write_proc, piled_procs, piled_numbers}
use Rattle.piled_scheme.specs.Piling.{piled_meaning, ArePiled, IsBoxCast}
use Rattle.piled_scheme.proofs.Casting.{cast_made, handed_on, known_words, none_in_place}
use Rattle.piled_scheme.proofs.Elements.{reads_for, measures_for, writes_for}
use Rattle.piled_scheme.proofs.Laws.{piled_laws}
use Rattle.piled_scheme.proofs.Piles.{peeled}
use Rattle.piled_scheme.proofs.Reading.{wrapped_box_read}
use Rattle.piled_scheme.proofs.Writing.{wrapped_box_set}

-- ---- casts between boxes have neither parts nor calls

no_parts : (types : TypeRows) (all : List TypeCast) (cast : TypeCast) (part : ℕ) → IsBoxCast types cast part → (k : ℤ)
    → (piling types all).projecting cast k ≡ None
no_parts types all cast part b k = let e = b.from_is in let f = b.to_is in rw (e, f) refl

no_calls : (types : TypeRows) (all : List TypeCast) (cast : TypeCast) (part : ℕ) → IsBoxCast types cast part
    → (piling types all).calling cast ≡ None
no_calls types all cast part b = let e = b.from_is in let f = b.to_is in rw (e, f) refl

module _ (setting : Setting) (l : Layout) (procs : List Proc) (casts : List TypeCast) (m : Measures) (first : ℕ)
    (words : List ℕ) (placed : Placed setting l) (begins : l.region ≡ setting.region) (narrow : setting.top < 2 ^ 34)
    (held : ArePiled l casts words) (stand : StandFrom setting.procs first (piled_procs first)) where
  abbrev serving : Served
  serving = with_casts (piled_numbers first) words (cast_ways l.types casts)

  cast_stands : slice_get setting.procs first ≡ Some cast_proc
  cast_stands = let z : first ≡ 0 + first = omega arith in ap (slice_get setting.procs) z ∙ stand 0 cast_proc refl

  quotient_stands : slice_get setting.procs (suc (9 + first)) ≡ Some (quotient_loop (suc (9 + first)))
  quotient_stands =
      let z : suc (9 + first) ≡ 10 + first = omega arith in
      ap (slice_get setting.procs) z ∙ stand 10 (quotient_loop (suc (9 + first))) refl

  casting : CastsMade piled_meaning setting l procs casts m serving
  casting = record {
    proc = cast_proc;
    stands = stands_as setting _ cast_proc cast_stands refl;
    makes = λ s number places objects store here base row cast e v w c.
        let p = held.0 row cast e in (
          0,
          cast_made setting l procs casts m placed s number places objects store here base cast p v w
              (cast_word (slice_get words row)) c (handed_on l.types casts words held.1 row cast e p),
        );
  }

  parts : PartsGiven piled_meaning setting l procs casts m serving
  parts = record {
    proc = idle_proc 4;
    stands = stands_as setting _ (idle_proc 4) (stand 1 (idle_proc 4) refl) refl;
    gives = λ s number places objects store here base v cast w c part label.
        let z = (peeled l objects setting procs places v cast w c).2 in
        let none = no_parts l.types casts cast z.part z.is part in
        subst (λ o. Answers piled_meaning setting l procs casts m s part_leaves places objects base
        (on_some o (λ inner. On (Return v) (ProjFrame part ∷ CastFrame inner ∷ base) store s.world))
        (act_cost procs (piling l.types casts) (piled_prices (piling l.types casts) m)) number 0
        (entered s (idle_proc 4) (w ∷ cast_unsigned w64 part % 2 ^ 64 ∷ 1 ∷
        label ∷ []))) (sym none) (0, refl);
    gives_dyn = λ s number places objects store here base v w c part label small fits.
        in_no_dyn s number places objects store base v w c part label;
  }
    where
      in_no_dyn : (s : LowState) (number : ℕ) (places : List ℕ) (objects : List Object) (store : FlatStore TypeCast)
          (base : List (FlatFrame TypeCast)) (v : FlatValue TypeCast) (w : ℕ)
          → CarriedIn l setting.address procs piled_meaning places objects v [] w → (part : ℤ) (label : ℕ)
          → Answers piled_meaning setting l procs casts m s part_leaves places objects base
          (run_proj_dyn (piling l.types casts) (flat_arity procs) (flat_entered procs) store s.world v part label base)
          (piled_prices (piling l.types casts) m).part number 0
          (entered s (idle_proc 4) (w ∷ cast_unsigned w64 part % 2 ^ 64 ∷ 0 ∷
          label ∷ []))
      in_no_dyn s number places objects store base (RunInt n) w c part label = (0, refl)
      in_no_dyn s number places objects store base (RunBool b) w c part label = (0, refl)
      in_no_dyn s number places objects store base RunUnit w c part label = (0, refl)
      in_no_dyn s number places objects store base (RunFun code captured) w c part label = (0, refl)
      in_no_dyn s number places objects store base (RunTuple values) w c part label = (0, refl)
      in_no_dyn s number places objects store base (RunLoc cell b) w c part label = (0, refl)
      in_no_dyn s number places objects store base (RunWrap v cast) w c part label = (0, refl)
      in_no_dyn s number places objects store base (RunInject v kept) w c part label = absurd c.2

  -- ---- boxes and vectors

  abbrev Done : LowState → ℕ → List ℕ → List Object → List (FlatFrame TypeCast) → FlatAfter TypeCast → Cost → LowState
      → Type 0
  Done s number places objects base x cost te =
      Answers piled_meaning setting l procs casts m s operator_leaves places objects base x cost number 0 te

  -- an operator whose first operand is in a wrapper, by what its procedure does
  module _ (op : PrimOp) (proc : LowProc) (handed : List ℕ → List ℕ) where
    abbrev Wrapped : Type 0
    Wrapped =
        (s : LowState) (number : ℕ) (places : List ℕ) (objects : List Object) (store : FlatStore TypeCast)
        → Here piled_meaning setting l procs casts m places objects store number (heap_of s)
        → (base : List (FlatFrame TypeCast)) (v : FlatValue TypeCast) (cast : TypeCast)
        (rest : List (FlatValue TypeCast)) (ws : List ℕ)
        → AreCarried l setting.address procs piled_meaning places objects (in_row (RunWrap v cast ∷ rest)) ws
        → Done s number places objects base
        (flat_operate procs (piling l.types casts) store s.world op (RunWrap v cast ∷ rest) base)
        (operator_cost procs (piling l.types casts) (piled_prices (piling l.types casts) m) op
        (RunWrap v cast ∷ rest)) (entered s proc (handed ws))

    done_wrapped : ((vs : List (FlatValue TypeCast))
        → IsHandedOn piled_meaning setting l procs casts m serving op vs
        → (v : FlatValue TypeCast) × (cast : TypeCast) × (rest : List (FlatValue TypeCast))
        × (vs ≡ RunWrap v cast ∷ rest)) → Wrapped
        → OperatorDone piled_meaning setting l procs casts m serving op proc handed
    done_wrapped split does = record {
      does = λ s number places objects store here base vs ws c given.
          let z = split vs given in
          subst (λ xs. Done s number places objects base
          (flat_operate procs (piling l.types casts) store s.world op xs base)
          (operator_cost procs (piling l.types casts) (piled_prices (piling l.types casts) m) op xs)
          (entered s proc (handed ws))) (sym z.3)
          (does s number places objects store here base z.0 z.1 z.2 ws
          (subst (λ xs. AreCarried l setting.address procs piled_meaning places objects (in_row xs) ws) z.3 c));
    }

  unboxes : OperatorDone piled_meaning setting l procs casts m serving Unbox (read_proc (7 + first))
      (λ ws. 0 ∷ at_or_zero ws 0 ∷ 0 ∷ [])
  unboxes =
      done_wrapped Unbox (read_proc (7 + first)) (λ ws. 0 ∷ at_or_zero ws 0 ∷ 0 ∷ []) (λ vs given. given)
      of_wrapped
    where
      of_wrapped : Wrapped Unbox (read_proc (7 + first)) (λ ws. 0 ∷ at_or_zero ws 0 ∷ 0 ∷ [])
      of_wrapped s number places objects store here base v cast (x ∷ rest) ws c = (0, refl)
      of_wrapped s number places objects store here base v cast [] [] c = absurd c
      of_wrapped s number places objects store here base v cast [] (w ∷ x ∷ ws) c = absurd c.1
      of_wrapped s number places objects store here base v cast [] (w ∷ []) c =
          let r = wrapped_box_read setting l procs casts m placed (7 + first) (stand 7 _ refl) s places objects store
          here.cells base v cast w c.0 in
          (r.0, r.1 number here.filled)

  sets : OperatorDone piled_meaning setting l procs casts m serving BoxSet (write_proc (8 + first))
      (λ ws. 0 ∷ at_or_zero ws 0 ∷ 0 ∷ at_or_zero ws 1 ∷ [])
  sets =
      done_wrapped BoxSet (write_proc (8 + first)) (λ ws. 0 ∷ at_or_zero ws 0 ∷ 0 ∷ at_or_zero ws 1 ∷ [])
      (λ vs given. given)
      of_wrapped
    where
      of_wrapped : Wrapped BoxSet (write_proc (8 + first)) (λ ws. 0 ∷ at_or_zero ws 0 ∷ 0 ∷ at_or_zero ws 1 ∷ [])
      of_wrapped s number places objects store here base v cast [] ws c = (0, refl)
      of_wrapped s number places objects store here base v cast (x ∷ y ∷ rest) ws c = (0, refl)
      of_wrapped s number places objects store here base v cast (x ∷ []) [] c = absurd c
      of_wrapped s number places objects store here base v cast (x ∷ []) (w ∷ []) c = absurd c.1
      of_wrapped s number places objects store here base v cast (x ∷ []) (w ∷ wx ∷ y ∷ ws) c = absurd c.1.1
      of_wrapped s number places objects store here base v cast (x ∷ []) (w ∷ wx ∷ []) c =
          let r = wrapped_box_set setting l procs casts m placed begins (8 + first) (stand 8 _ refl) s places objects
          store here.cells base x wx c.1.0 v cast w c.0 in
          (r.0, r.1 number here.filled)

  reads : OperatorDone piled_meaning setting l procs casts m serving VectorRef (read_proc (7 + first))
      (λ ws. 1 ∷ at_or_zero ws 0 ∷ at_or_zero ws 1 ∷ [])
  reads = record {
    does = λ s number places objects store here base vs ws c handed.
        reads_for setting l procs casts m placed begins s places objects store here.cells base (7 + first) vs ws c
        number here.filled;
  }

  measures : OperatorDone piled_meaning setting l procs casts m serving VectorLength (read_proc (7 + first))
      (λ ws. 2 ∷ at_or_zero ws 0 ∷ 0 ∷ [])
  measures = record {
    does = λ s number places objects store here base vs ws c handed.
        measures_for setting l procs casts m placed begins s places objects store here.cells base (7 + first) vs ws c
        number here.filled;
  }

  writes : OperatorDone piled_meaning setting l procs casts m serving VectorSet (write_proc (8 + first))
      (λ ws. 1 ∷ at_or_zero ws 0 ∷ at_or_zero ws 1 ∷ at_or_zero ws 2 ∷ [])
  writes = record {
    does = λ s number places objects store here base vs ws c handed.
        writes_for setting l procs casts m placed begins s places objects store here.cells base (8 + first) vs ws c
        number here.filled;
  }

  cells : CellsServed piled_meaning setting l procs casts m serving
  cells = record {
    read = read_proc (7 + first);
    read_stands = stands_as setting _ (read_proc (7 + first)) (stand 3 _ refl) refl;
    unboxes = unboxes;
    reads = reads;
    measures = measures;
    write = write_proc (8 + first);
    write_stands = stands_as setting _ (write_proc (8 + first)) (stand 4 _ refl) refl;
    sets = sets;
    writes = writes;
    fill = fill_proc (6 + first);
    fill_stands = stands_as setting _ (fill_proc (6 + first)) (stand 5 _ refl) refl;
    fills = vectors_are_served piled_meaning piled_laws setting l procs casts m
        (plainly_lets piled_meaning l casts m (omega arith) (λ n. refl) refl) placed begins narrow (6 + first)
        (stand 6 _ refl) serving;
  }

  calling : CallsMade piled_meaning setting l procs casts m serving
  calling = record {
    proc = idle_proc 8;
    stands = stands_as setting _ (idle_proc 8) (stand 2 (idle_proc 8) refl) refl;
    calls = λ s number places objects store here base v cast w c vs ws cs few.
        let z = (peeled l objects setting procs places v cast w c).2 in
        let none = no_calls l.types casts cast z.part z.is in
        subst (λ o. Serves piled_meaning setting l procs casts m s
        (Calls piled_meaning setting l procs casts m s places objects base)
        (on_some o (λ parts. run_enter_wrapped (piling l.types casts) (flat_arity procs) (flat_entered procs) store
        s.world v parts (all_plain vs) base))
        (act_cost procs (piling l.types casts) (piled_prices (piling l.types casts) m)) number 0
        (entered s (idle_proc 8) (w ∷ at_or_zero ws 0 ∷ at_or_zero ws 1 ∷ at_or_zero ws 2 ∷ at_or_zero ws 3
        ∷ at_or_zero ws 4 ∷ at_or_zero ws 5 ∷ length ws ∷ []))) (sym none) (0, refl);
    goes_on = λ s number places objects store here base waiting cast results resumes v w c. absurd resumes;
  }

pub piled_procedures_serve : ServesEverywhere piled_meaning piled_procs piled_numbers
piled_procedures_serve = λ setting l procs casts m first words measured placed begins small types held stand.
    record {
      products = products_are_served setting (with_casts (piled_numbers first) words (cast_ways l.types casts))
          (9 + first) (suc (9 + first)) (stand 9 (product_loop (9 + first)) refl)
          (quotient_stands setting l procs casts m first words placed begins small held stand)
          (stand 11 (multiply (9 + first)) refl) (stand 12 (divide (suc (9 + first))) refl);
      casting = casting setting l procs casts m first words placed begins small held stand;
      words = λ row cast e.
          let p = held.0 row cast e in
          subst (λ w. w < 2 ^ 64) (sym (handed_on l.types casts words held.1 row cast e p))
          (known_words l.types casts cast p);
      made_in_place = λ s number places objects store here base row cast e v w c word h.
          absurd (none_in_place l.types casts row cast e (held.0 row cast e) w word h);
      parts = parts setting l procs casts m first words placed begins small held stand;
      cells = cells setting l procs casts m first words placed begins small held stand;
      calling = calling setting l procs casts m first words placed begins small held stand;
    }
