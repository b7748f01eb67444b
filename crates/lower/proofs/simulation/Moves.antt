-- Each turn of the numbered procedures.
use Rattle.std.proofs.Common.{◌≡◌, ◌⊎◌, inl, inr, ℕ, ℤ, pos, negsuc, suc, ◌+◌, ◌<◌, ◌≤◌, List, [], ◌∷◌, Some}
use Rattle.std.proofs.Common.{None, true, length, refl, sym, ap, ◌∙◌, subst, arith, Option, Bool, false, slice_get}
use Rattle.std.specs.Prelude.{◌==◌, ◌&&◌, if◌then◌else◌, nat_le}
use Rattle.flat_ir.specs.Closed.{operand_bound, operands_bound, part_has_words}
use Rattle.grift_base.specs.World.{WorldState}
use Rattle.grift_base.specs.Reading.{next_number, past_run}
use Rattle.grift_base.specs.declared.operators.PrimOp.{PrimOp}
use Rattle.grift_base.specs.declared.operators.PrimOp.TheVariants.{Add, Sub, Mul, Quot, Rem, Lt, Le, Eq as Equal, Ge}
use Rattle.grift_base.specs.declared.operators.PrimOp.TheVariants.{Gt, Not, PrintInt, Newline, ReadInt, MakeBox}
use Rattle.grift_base.specs.declared.operators.PrimOp.TheVariants.{Unbox, BoxSet, MakeVector, VectorRef, VectorSet}
use Rattle.grift_base.specs.declared.operators.PrimOp.TheVariants.{VectorLength}
use Rattle.low_ir.specs.Procedures.{Code, Return as ReturnCode}
use Rattle.low_ir.specs.Steps.{Locals, set_local}
use Rattle.low_ir.specs.Run.{Waiting as LowWaiting, LowState, word_of}
use Rattle.cast_modes.specs.RunValues.{RunTuple, RunWrap, RunInt, RunBool, RunUnit, RunFun, RunLoc, RunInject}
use Rattle.cast_modes.specs.RunValues.{Pending}
use Rattle.cast_modes.specs.RunValues.{all_plain, row_list}
use Rattle.cast_modes.specs.ValueSteps.{CastFrame, ProjFrame, PrimFrame, EnterFrame, OwnFrame, Own, Return, Entering}
use Rattle.cast_modes.specs.ValueSteps.{On, NoNext, onto, next_argument, enter, on_some, run_on_ints, run_on_int}
use Rattle.cast_modes.specs.ValueSteps.{run_on_bool, run_newline, run_reads, run_read}
use Rattle.grift_base.specs.World.{printing}
use Rattle.std.specs.Prelude.{codes, not, int_lt, int_le, ◌+ℤ◌, ◌-ℤ◌}
use Rattle.std.specs.Int.{w64, int_wrap}
use Rattle.std.specs.Fmt.{signed_decimal}
use Rattle.std.specs.Prelude.{◌*ℤ◌, int_rem}
use Rattle.std.specs.Int.{int_wrapping_div}
use Rattle.grift_base.specs.declared.verdicts.Trap.TheVariants.{ZeroDivisor}
use Rattle.cast_modes.specs.ValueSteps.{TrapOf}
use Rattle.std.specs.Ordering.{int_eq}
use Rattle.cast_modes.specs.RunValues.{in_row}
use Rattle.flat_ir.specs.Machine.{flat_operate}
use Rattle.flat_ir.specs.declared.code.Operand.{Operand}
use Rattle.flat_ir.specs.declared.code.Operation.{Operation}
use Rattle.flat_ir.specs.declared.code.Operation.TheVariants.{Move, Prim, Cast, Tuple, Proj, ProjDyn}
use Rattle.flat_ir.specs.Bodies.{Body, Give, Call, Choose, LetBody, LetGroup, Proc}
use Rattle.flat_ir.specs.Machine.{FlatCode, FlatValue, FlatValues, FlatFrame, FlatFocus, FlatState, FlatStore}
use Rattle.flat_ir.specs.Machine.{FlatAfter}
use Rattle.flat_ir.specs.Machine.{Group, Locals as FlatLocals, Inside, Waiting, flat_state_at, value, values, flat_turn}
use Rattle.flat_ir.specs.Machine.{flat_arity, flat_entered, entered_proc, flat_proj}
use Rattle.flat_ir.specs.Machine.{flat_choose, locals_of, set_local as set_flat}
use Rattle.low_ir.specs.declared.code.LowSource.{LowSource}
use Rattle.std.proofs.Common.{eqb-true}
use Rattle.coercion_norm.specs.Held.{TypesStand}
use Rattle.coercion_norm.specs.Objects.{Object}
use Rattle.rt_cast.specs.States.{Heap}
use Rattle.lower.specs.Storage.{Filled}
use Rattle.lowered_code.specs.declared.numbering.Shape.{Shape}
use Rattle.lowered_code.specs.Emit.{Then, ToCaller, Into, emit, give, perform}
use Rattle.lower.specs.CarriedValues.{CellsHeld}
use Rattle.lower.specs.Relation.{Fits, Gave, NoCasts, pending_values}
use Rattle.lower.proofs.simulation.RelationKept.{word_here, word_other}
use Rattle.lower.proofs.words.Credits.{SomeBy, by_go, some_more}
use Rattle.lower.proofs.words.Services.{return_price}
use Rattle.lower.proofs.words.Steps.{at, Moves, left_of, lt_true}
use Rattle.core_calc.specs.Account.{Measures, StepKind, Wraps, Casts, Makes, MakesVector, Multiplies, Acts}
use Rattle.coer_core.specs.Tally.{kind_budget}
use Rattle.flat_ir.specs.Counts.{tuple_words}
use Rattle.flat_ir.specs.FlatTally.{operator_kind, cast_cost}
use Rattle.lower.proofs.words.Operands.{and_true, value_carried}
use Rattle.lower.proofs.simulation.Way.{room_over, turn_room, stays_in, below_in}
use Rattle.lower.proofs.simulation.Way.{mode_of}
use Rattle.lower.proofs.simulation.Way.{Program, Live, Follows, FollowsBy, next_state, Way, scene_for, size_of}
use Rattle.lower.proofs.simulation.Way.{prices_of}
use Rattle.lower.proofs.simulation.Way.{turn_goal, turn_aim, floor_of, arrives, kept_here, by_follows}
use Rattle.lower.proofs.simulation.Way.{at_start}
use Rattle.lower.proofs.simulation.Way.{asks_of, budget_of}
use Rattle.lower.proofs.simulation.Way.{frames_weight}
use Rattle.lower.proofs.simulation.Gives.{CarriedHere, RestHere, CallersHere, put_in, word_fits, word_for}
use Rattle.lower.proofs.simulation.Gives.{code_for}
use Rattle.lower.proofs.simulation.Gives.{living}
use Rattle.lower.proofs.simulation.Operations.{wrong_by, move_turns, tuple_turns, part_turns}
use Rattle.flat_ir.specs.Machine.{flat_cast, set_group, new_group}
use Rattle.cast_modes.specs.ValueSteps.{casts_onto, decision_wraps, run_enter_wrapped}
use Rattle.flat_ir.specs.Counts.{decision_at, flat_turn_wraps}
use Rattle.lower.proofs.simulation.Services.{Served}
use Rattle.lower.proofs.simulation.Casts.{cast_served}
use Rattle.lower.proofs.simulation.Parts.{part_served, dyn_part_served}
use Rattle.lower.proofs.simulation.Applied.{call_served, all_plain_onto}
use Rattle.lower.proofs.simulation.Resumed.{resumed}
use Rattle.lower.proofs.simulation.Cells.{OnVectors, OnMake, OnRef, OnSet, OnLength}
use Rattle.lower.proofs.simulation.Cells.{OnBoxes, OnUnbox, OnBoxSet, vectors_served, boxes_served}
use Rattle.lower.proofs.simulation.Boxes.{box_made, box_read_here, box_written_here}
use Rattle.lower.proofs.simulation.Operators.{one_operand, two_operands}
use Rattle.cast_modes.specs.ValueSteps.{run_unbox_cell, run_writes_cell}
use Rattle.std.specs.Prelude.{slice_set, ◌++◌, nat_lt, nat_le, ◌*◌, ◌≤◌}
use Rattle.lower.proofs.simulation.Operators.{is_plain, operator_turns, needed as needed_of}
use Rattle.lower.proofs.simulation.Bodies.{branch_turns, let_turns, group_turns, gave_turns}
use Rattle.lower.proofs.simulation.Calls.{call_goes}
use Rattle.lower.proofs.simulation.ShownAnswers.{true_false}

plain_long : {C : Type 0} (vs : List (FlatValue C)) → length (all_plain {K = FlatCode} vs) ≡ length vs
plain_long [] = refl
plain_long (v ∷ vs) = ap suc (plain_long vs)

values_long : {C : Type 0} (locals : FlatLocals C) (group : Group C) (os : List Operand)
    → length (values locals group os) ≡ length os
values_long locals group [] = refl
values_long locals group (o ∷ os) = ap suc (values_long locals group os)

plain_values : {C : Type 0} (vs : List (FlatValue C)) → pending_values (all_plain vs) ≡ vs
plain_values [] = refl
plain_values (v ∷ vs) = ap (λ l. v ∷ l) (plain_values vs)

plain_casts : {C : Type 0} (vs : List (FlatValue C)) → NoCasts (all_plain vs)
plain_casts [] = tt
plain_casts (v ∷ vs) = (refl, plain_casts vs)

-- whether a value is in a wrapper
abbrev is_wrapped : {C : Type 0} → FlatValue C → Bool
is_wrapped (RunWrap v cast) = true
is_wrapped v = false

no_wrapper : {C : Type 0} (v : FlatValue C) → is_wrapped v ≡ false → (u : FlatValue C) (cast : C) → v ≡ RunWrap u cast
    → ⊥
no_wrapper v e u cast is = true_false (sym e ∙ ap is_wrapped is)

module _ (program : Program) (typed : TypesStand program.l) where
  -- a state that goes on
  abbrev pub st : FlatFocus program.meaning.Cast → List (FlatFrame program.meaning.Cast)
      → FlatStore program.meaning.Cast → WorldState → FlatState program.meaning.Cast
  st focus frames store world =
      record { focus = focus; frames = frames; store = store; world = world; ended = None }

  -- what the run over words does for a turn: some steps, or any where the measure falls
  abbrev pub TurnDue : FlatState program.meaning.Cast → FlatAfter program.meaning.Cast → ℕ → LowState → Type 0
  TurnDue f x own t =
      (FollowsBy program f x own t × (size_of (next_state program f x) < size_of f))
      ⊎ ((credit : ℕ)
      × SomeBy program.setting (Way program f (next_state program f x) t.words (turn_room program t))
      (turn_aim program f (next_state program f x) own credit t) (floor_of program f own credit t) credit t)

  abbrev pub Turn : FlatState program.meaning.Cast → FlatAfter program.meaning.Cast → LowState → Type 0
  Turn f x t = TurnDue f x 0 t

  -- or what a procedure of the scheme does for one with so many wrap steps
  abbrev pub DoesDue : FlatState program.meaning.Cast → FlatAfter program.meaning.Cast → ℕ → ℕ → LowState → Type 0
  DoesDue f x w own t = ((w ≡ 0) × TurnDue f x own t) ⊎ Served program typed f x w own t

  abbrev pub Does : FlatState program.meaning.Cast → FlatAfter program.meaning.Cast → ℕ → LowState → Type 0
  Does f x w t = DoesDue f x w 0 t

  followed : (f : FlatState program.meaning.Cast) (x : FlatAfter program.meaning.Cast) (t : LowState)
      → Follows program f x t → FollowsBy program f x 0 t
  followed f x t c = by_follows program f x t c

  -- nothing is done, and both go on
  goes_as_it_is : (f : FlatState program.meaning.Cast) (x : FlatAfter program.meaning.Cast) (t : LowState)
      → Live program (next_state program f x) 0 t → FollowsBy program f x 0 t
  goes_as_it_is f x t live = (
    left_of program.setting t,
    arrives program f (next_state program f x) t.words (turn_room program t) 0 (left_of program.setting t) t
        (left_of program.setting t) t
        (0, inl live, kept_here program f (next_state program f x) 0 0 t (omega arith)),
  )

  moving : (f f' : FlatState program.meaning.Cast) (t : LowState)
      → Moves program.setting (Way program f f' t.words (turn_room program t)) (turn_goal program f f' t) t
      → (credit : ℕ) × SomeBy program.setting (Way program f f' t.words (turn_room program t)) (turn_aim program f f' 0
      credit t)
      (floor_of program f 0 credit t) credit t
  moving f f' t m = (
    left_of program.setting t,
    some_more program.setting (Way program f f' t.words (turn_room program t)) (turn_aim program f f' 0
        (left_of program.setting t) t)
        (floor_of program f 0 (left_of program.setting t) t) (left_of program.setting t + 0)
        (left_of program.setting t) t
        (omega arith) (m.comes, m.some),
  )

  -- ---- budgets

  some_budget : (m : Measures) (kind : StepKind) (functions : ℕ) → 896 ≤ kind_budget m (Some kind) functions
  some_budget m Wraps functions = omega arith
  some_budget m Casts functions = omega arith
  some_budget m Makes functions = omega arith
  some_budget m (MakesVector k) functions = omega arith
  some_budget m Multiplies functions = omega arith
  some_budget m Acts functions = omega arith

  other_budget : (kind : StepKind) (made functions : ℕ)
      → 896 ≤ ((prices_of program).other (Some kind) made functions).budget
  other_budget kind made functions =
      let a = some_budget program.measured kind functions in
      let b = program.laws.budgets program.l.types program.casts program.measured kind made functions in
      omega (arith, a, b)

  -- ---- where the measure falls

  abbrev FallsAt : FlatState program.meaning.Cast → FlatAfter program.meaning.Cast → Type 0
  FallsAt f x = size_of (next_state program f x) < size_of f

  returns_less : (v : FlatValue program.meaning.Cast) (frames : List (FlatFrame program.meaning.Cast))
      (store : FlatStore program.meaning.Cast)
      (world : WorldState) (n : ℕ) → frames_weight frames ≤ n
      → size_of (flat_state_at program.procs program.told (Return v) frames store world) ≤ suc n
  returns_less v [] store world n le = omega arith
  returns_less v (frame ∷ frames) store world n le = omega (arith, le)

  module _ (op : Operation) (locals : FlatLocals program.meaning.Cast) (group : Group program.meaning.Cast)
      (frames : List (FlatFrame program.meaning.Cast)) (store : FlatStore program.meaning.Cast) (world : WorldState)
    where
      abbrev f : FlatState program.meaning.Cast
      f = st (Own (Inside (Give op) locals group)) frames store world

      given_falls : (v : FlatValue program.meaning.Cast) (world' : WorldState)
          → FallsAt f (On (Return v) frames store world')
      given_falls v world' =
          let z = returns_less v frames store world' (frames_weight frames) (omega arith) in omega (arith, z)

      wrong_falls : FallsAt f NoNext
      wrong_falls = omega arith

      proj_falls : (v : FlatValue program.meaning.Cast) (i : ℤ)
          → FallsAt f (flat_proj program.procs (mode_of program) store world v i frames)
      proj_falls (RunTuple vs) (pos i) = by_part (slice_get (row_list vs) i)
        where
          by_part : (o : Option (FlatValue program.meaning.Cast))
              → FallsAt f (on_some o (λ v. On (Return v) frames store world))
          by_part None = wrong_falls
          by_part (Some v) = given_falls v world
      proj_falls (RunTuple vs) (negsuc i) = wrong_falls
      proj_falls (RunWrap v c) i = by_cast ((mode_of program).projecting c i)
        where
          by_cast : (o : Option program.meaning.Cast)
              → FallsAt f (on_some o (λ part. On (Return v) (ProjFrame i ∷ CastFrame part ∷ frames) store world))
          by_cast None = wrong_falls
          by_cast (Some part) = omega arith
      proj_falls (RunInt n) i = wrong_falls
      proj_falls (RunBool b) i = wrong_falls
      proj_falls RunUnit i = wrong_falls
      proj_falls (RunFun function captured) i = wrong_falls
      proj_falls (RunLoc cell is_vector) i = wrong_falls
      proj_falls (RunInject v kept) i = wrong_falls

      on_ints : (go : ℤ → ℤ → FlatAfter program.meaning.Cast) → ((a b : ℤ) → FallsAt f (go a b))
          → (vs : List (FlatValue program.meaning.Cast))
          → FallsAt f (run_on_ints (mode_of program) (flat_arity program.procs)
          (flat_entered program.procs) store world go vs)
      on_ints go does (RunInt a ∷ RunInt b ∷ []) = does a b
      on_ints go does _ = wrong_falls

      on_int : (go : ℤ → FlatAfter program.meaning.Cast) → ((a : ℤ) → FallsAt f (go a))
          → (vs : List (FlatValue program.meaning.Cast))
          → FallsAt f (run_on_int (mode_of program) (flat_arity program.procs)
          (flat_entered program.procs) store world go vs)
      on_int go does (RunInt a ∷ []) = does a
      on_int go does _ = wrong_falls

      on_bool : (go : Bool → FlatAfter program.meaning.Cast) → ((b : Bool) → FallsAt f (go b))
          → (vs : List (FlatValue program.meaning.Cast))
          → FallsAt f (run_on_bool (mode_of program) (flat_arity program.procs)
          (flat_entered program.procs) store world go vs)
      on_bool go does (RunBool b ∷ []) = does b
      on_bool go does _ = wrong_falls

      newline_falls : (vs : List (FlatValue program.meaning.Cast))
          → FallsAt f (run_newline (mode_of program) (flat_arity program.procs)
          (flat_entered program.procs) store world vs
          frames)
      newline_falls [] = given_falls RunUnit (printing (codes "\n") world)
      newline_falls (v ∷ vs) = wrong_falls

      number_falls : (o : Option ℤ) → FallsAt f (run_reads (mode_of program) (flat_arity program.procs)
          (flat_entered program.procs) store world o frames)
      number_falls (Some n) = given_falls (RunInt n) (past_run world)
      number_falls None = omega arith

      read_falls : (vs : List (FlatValue program.meaning.Cast))
          → FallsAt f (run_read (mode_of program) (flat_arity program.procs) (flat_entered program.procs) store world vs
          frames)
      read_falls [] = number_falls (next_number world)
      read_falls (v ∷ vs) = wrong_falls

      -- two integers give a value
      of_ints : (value : ℤ → ℤ → FlatValue program.meaning.Cast) (vs : List (FlatValue program.meaning.Cast))
          → FallsAt f (run_on_ints (mode_of program) (flat_arity program.procs) (flat_entered program.procs) store world
          (λ a b. On (Return (value a b)) frames store world) vs)
      of_ints value vs =
          on_ints (λ a b. On (Return (value a b)) frames store world) (λ a b. given_falls (value a b) world) vs

      divided_falls : (t : Bool) (v : FlatValue program.meaning.Cast)
          → FallsAt f (if t then TrapOf ZeroDivisor world else On (Return v) frames store world)
      divided_falls true v = omega arith
      divided_falls false v = given_falls v world

      -- they do, or trap where the second is zero
      by_divisor : (value : ℤ → ℤ → FlatValue program.meaning.Cast) (vs : List (FlatValue program.meaning.Cast))
          → FallsAt f (run_on_ints (mode_of program) (flat_arity program.procs) (flat_entered program.procs) store world
          (λ a b. if int_eq b (pos 0) then TrapOf ZeroDivisor world else On (Return (value a b)) frames store world) vs)
      by_divisor value vs =
          on_ints (λ a b. if int_eq b (pos 0) then TrapOf ZeroDivisor world
          else On (Return (value a b)) frames store world)
          (λ a b. divided_falls (int_eq b (pos 0)) (value a b)) vs

      operator_falls : (op : PrimOp) → is_plain op ≡ true → (vs : List (FlatValue program.meaning.Cast))
          → FallsAt f (flat_operate program.procs (mode_of program) store world op vs frames)
      operator_falls Add c vs = of_ints (λ a b. RunInt (int_wrap w64 (a +ℤ b))) vs
      operator_falls Sub c vs = of_ints (λ a b. RunInt (int_wrap w64 (a -ℤ b))) vs
      operator_falls Lt c vs = of_ints (λ a b. RunBool (int_lt a b)) vs
      operator_falls Gt c vs = of_ints (λ a b. RunBool (int_lt b a)) vs
      operator_falls Le c vs = of_ints (λ a b. RunBool (int_le a b)) vs
      operator_falls Ge c vs = of_ints (λ a b. RunBool (int_le b a)) vs
      operator_falls Equal c vs = of_ints (λ a b. RunBool (int_eq a b)) vs
      operator_falls Not c vs =
          on_bool (λ b. On (Return (RunBool (not b))) frames store world) (λ b. given_falls (RunBool (not b)) world) vs
      operator_falls PrintInt c vs =
          on_int (λ a. On (Return RunUnit) frames store (printing (signed_decimal a) world))
          (λ a. given_falls RunUnit (printing (signed_decimal a) world)) vs
      operator_falls Newline c vs = newline_falls vs
      operator_falls ReadInt c vs = read_falls vs
      operator_falls Mul c vs = of_ints (λ a b. RunInt (int_wrap w64 (a *ℤ b))) vs
      operator_falls Quot c vs = by_divisor (λ a b. RunInt (int_wrapping_div w64 a b)) vs
      operator_falls Rem c vs = by_divisor (λ a b. RunInt (int_rem a b)) vs
      operator_falls MakeBox c vs = true_false c
      operator_falls Unbox c vs = true_false c
      operator_falls BoxSet c vs = true_false c
      operator_falls MakeVector c vs = true_false c
      operator_falls VectorRef c vs = true_false c
      operator_falls VectorSet c vs = true_false c
      operator_falls VectorLength c vs = true_false c

  -- ---- each turn, from a state of the procedures over words that goes with it

  module _ (frames : List (FlatFrame program.meaning.Cast)) (store : FlatStore program.meaning.Cast)
      (world : WorldState) (places : List ℕ)
      (objects : List Object) (h : Heap) (filled : Filled program.meaning program.setting program.l program.number
      objects h)
      (cells : CellsHeld program.l program.setting.address program.procs program.meaning places objects h.memory places
      store)
    where
      abbrev FitsHere : Shape → ℕ → ℕ → Group program.meaning.Cast → ℕ → FlatLocals program.meaning.Cast → Locals → Body
          → Type 0
      FitsHere s count size group depth locals words body = Fits program.setting program.l program.run program.procs
          program.answer program.meaning places objects s count size group depth locals words body

      module _ (waiting : List LowWaiting) (size : ℕ) (rests : List Code) (words : Locals) where
        abbrev At : Code → LowState
        At code = at world h waiting size rests words code

        -- the arguments of a call are gone over
        goes_over : (fo : Operand) (os : List Operand) (locals : FlatLocals program.meaning.Cast)
            (group : Group program.meaning.Cast) (s : Shape) (count depth : ℕ) (next : Then)
            → FitsHere s count size group depth locals words (Call fo os)
            → RestHere program places objects waiting s count size group depth frames next rests words
            → (v : FlatValue program.meaning.Cast) (done : List (FlatValue program.meaning.Cast))
            (todo : List (Pending program.meaning.Cast FlatCode)) → value locals group fo ≡ v
            → onto done (pending_values todo) ≡ values locals group os → NoCasts todo
            → Live program (st (Entering v done todo) frames store world) 0 (At (emit program.run s (Call fo os) next))
        goes_over fo os locals group s count depth next fits rest v done todo function arguments plain =
            living program places objects h (st (Entering v done todo) frames store world) refl filled cells waiting
            size rests words (emit program.run s (Call fo os) next) 0 (record {
              operand = fo;
              operands = os;
              locals = locals;
              group = group;
              runs = record { s = s; count = count; depth = depth; next = next; is = refl; fits = fits; rest = rest };
              function = function;
              arguments = arguments;
              plain = plain;
            })

        -- a body runs
        module _ (locals : FlatLocals program.meaning.Cast) (group : Group program.meaning.Cast) (s : Shape)
            (count depth : ℕ)
            (next : Then) where
          abbrev fl : Body → FlatState program.meaning.Cast
          fl body = st (Own (Inside body locals group)) frames store world

          abbrev Run : Body → Type 0
          Run body =
              FitsHere s count size group depth locals words body
              → RestHere program places objects waiting s count size group depth frames next rests words
              → Does (fl body)
              (flat_turn program.procs (mode_of program) store world (Own (Inside body locals group)) frames)
              (flat_turn_wraps program.procs (mode_of program) (Own (Inside body locals group)) frames)
              (At (emit program.run s body next))

          give_as : (op : Operation) (next : Then)
              → ((o : Operand) → op ≡ Move o → ⊥)
              → give program.run s op next ≡ perform program.run s (word_for program places objects s next) op
              (code_for program places objects s next)
          give_as (Move o) next other = absurd (other o refl)
          give_as (Prim op os) ToCaller other = refl
          give_as (Cast o number) ToCaller other = refl
          give_as (Tuple os) ToCaller other = refl
          give_as (Proj o i) ToCaller other = refl
          give_as (ProjDyn o i label) ToCaller other = refl
          give_as (Prim op os) (Into d k) other = refl
          give_as (Cast o number) (Into d k) other = refl
          give_as (Tuple os) (Into d k) other = refl
          give_as (Proj o i) (Into d k) other = refl
          give_as (ProjDyn o i label) (Into d k) other = refl

          plain_budget : (op : PrimOp) (os : List Operand)
              → needed_of op ≤ budget_of program (fl (Give (Prim op os)))
          plain_budget Mul os =
              let b = program.laws.budgets program.l.types program.casts program.measured Multiplies 0 0 in
              omega (arith, b)
          plain_budget Quot os =
              let b = program.laws.budgets program.l.types program.casts program.measured Multiplies 0 0 in
              omega (arith, b)
          plain_budget Rem os =
              let b = program.laws.budgets program.l.types program.casts program.measured Multiplies 0 0 in
              omega (arith, b)
          plain_budget op os = omega arith

          runs_plain : (op : PrimOp) (os : List Operand) → is_plain op ≡ true → Run (Give (Prim op os))
          runs_plain op os c fits rest =
              inl (
                refl,
                inl (
                  subst (λ c. FollowsBy program (fl (Give (Prim op os)))
                      (flat_turn program.procs (mode_of program) store world
                      (Own (Inside (Give (Prim op os)) locals group)) frames) 0
                      (At c)) (sym (give_as (Prim op os) next (λ o e. absurd (let z : ⊥ = cc in z))))
                      (operator_turns program typed (fl (Give (Prim op os))) places objects h filled cells waiting size
                      rests words s count depth group locals op os next fits rest fits.few
                      (let z = (and_true (operands_bound s.captured count depth os) (nat_le (length os) 8)
                      fits.bound).1 in grind (arith, z))
                      (let z = other_budget (operator_kind op (values locals group os)) 0 0 in omega (arith, z)) op c
                      (plain_budget op os)),
                  operator_falls (Prim op os) locals group frames store world op c (values locals group os),
                ),
              )

          as_served : (op : PrimOp) (os : List Operand)
              → Served program typed (fl (Give (Prim op os)))
              (flat_operate program.procs (mode_of program) store world op (values locals group os) frames) 0 0
              (At (perform program.run s (word_for program places objects s next) (Prim op os)
              (code_for program places objects s next)))
              → Does (fl (Give (Prim op os)))
              (flat_turn program.procs (mode_of program) store world (Own (Inside (Give (Prim op os)) locals group))
              frames) 0 (At (give program.run s (Prim op os) next))
          as_served op os x =
              inr (subst (λ c. Served program typed (fl (Give (Prim op os)))
              (flat_operate program.procs (mode_of program) store world op (values locals group os) frames) 0 0 (At c))
              (sym (give_as (Prim op os) next (λ o e. absurd (let z : ⊥ = cc in z)))) x)

          runs_vectors : (op : PrimOp) (os : List Operand) → OnVectors op → Run (Give (Prim op os))
          runs_vectors op os on fits rest =
              as_served op os (vectors_served program typed (fl (Give (Prim op os))) places objects h filled cells
              waiting size rests words s count depth group locals op os next fits rest fits.few op on refl)

          -- an operator in place
          abbrev Placed : PrimOp → List Operand → FlatAfter program.meaning.Cast → Type 0
          Placed op os x =
              Does (fl (Give (Prim op os))) x 0 (At (give program.run s (Prim op os) next))

          -- the same where its operands have these values
          abbrev OnValues : PrimOp → List Operand → List (FlatValue program.meaning.Cast) → Type 0
          OnValues op os vs = Placed op os (flat_operate program.procs (mode_of program) store world op vs frames)

          -- whatever they are
          abbrev OnTheirs : PrimOp → List Operand → Type 0
          OnTheirs op os =
              (vs : List (FlatValue program.meaning.Cast)) → values locals group os ≡ vs → OnValues op os vs

          -- a procedure of the scheme does it, where the first is a box in a wrapper
          in_wrapper : (op : PrimOp) (os : List Operand) → OnBoxes op
              → FitsHere s count size group depth locals words (Give (Prim op os))
              → RestHere program places objects waiting s count size group depth frames next rests words
              → (u : FlatValue program.meaning.Cast) (cast : program.meaning.Cast)
              (others : List (FlatValue program.meaning.Cast)) → values locals group os ≡ RunWrap u cast ∷ others
              → OnValues op os (RunWrap u cast ∷ others)
          in_wrapper op os on fits rest u cast others e =
              subst (λ vs. OnValues op os vs) e
              (as_served op os (boxes_served program typed (fl (Give (Prim op os))) places objects h filled cells
              waiting size rests words s count depth group locals op os next fits rest fits.few u cast others e op on
              refl))

          as_placed : (op : PrimOp) (os : List Operand) (x : FlatAfter program.meaning.Cast)
              → Follows program (fl (Give (Prim op os))) x
              (At (perform program.run s (word_for program places objects s next) (Prim op os)
              (code_for program places objects s next))) → FallsAt (fl (Give (Prim op os))) x → Placed op os x
          as_placed op os x c falls =
              inl (
                refl,
                inl (
                  followed (fl (Give (Prim op os))) x (At (give program.run s (Prim op os) next))
                      (subst (λ z. Follows program (fl (Give (Prim op os))) x (At z))
                      (sym (give_as (Prim op os) next (λ o e. absurd (let z : ⊥ = cc in z)))) c),
                  falls,
                ),
              )

          wrongly : (op : PrimOp) (os : List Operand) → Placed op os NoNext
          wrongly op os =
              inl (
                refl,
                inl (
                  wrong_by program (fl (Give (Prim op os))) 0 places objects h filled waiting size rests words
                      (give program.run s (Prim op os) next),
                  wrong_falls (Prim op os) locals group frames store world,
                ),
              )

          makes_box : (os : List Operand) → Run (Give (Prim MakeBox os))
          makes_box [] fits rest = wrongly MakeBox []
          makes_box (o ∷ p ∷ os) fits rest = wrongly MakeBox (o ∷ p ∷ os)
          makes_box (o ∷ []) fits rest =
              as_placed MakeBox (o ∷ []) (On (Return (RunLoc (length store) false)) frames
              (store ++ (value locals group o ∷ []) ∷ []) world)
              (box_made program typed (fl (Give (Prim MakeBox (o ∷ [])))) places objects h filled cells waiting size
              rests
              words s count depth group locals (Prim MakeBox (o ∷ [])) next fits rest fits.few
              (let z = other_budget (operator_kind MakeBox (values locals group (o ∷ []))) 0 0 in omega (arith, z))
              o (and_true (operand_bound s.captured count depth o && true) true fits.bound).0
              (program.laws.boxes program.l.types program.casts program.measured))
              (returns_less' (RunLoc (length store) false) (store ++ (value locals group o ∷ []) ∷ []))
            where
              returns_less' : (v : FlatValue program.meaning.Cast) (store' : FlatStore program.meaning.Cast)
                  → size_of (flat_state_at program.procs program.told (Return v) frames store' world)
                  < suc (3 + frames_weight frames)
              returns_less' v store' =
                  let z = returns_less v frames store' world (frames_weight frames) (omega arith) in omega (arith, z)

          reads_box : (os : List Operand) → Run (Give (Prim Unbox os))
          reads_box os fits rest = by_values (values locals group os) refl
            where
              by_values : OnTheirs Unbox os
              by_values (RunWrap u c ∷ others) e = in_wrapper Unbox os OnUnbox fits rest u c others e
              by_values (RunLoc cell false ∷ []) e = by_content (slice_get store cell) refl
                where
                  one : (o : Operand) × (os ≡ o ∷ []) × (value locals group o ≡ RunLoc cell false)
                  one = one_operand locals group os (RunLoc cell false) e

                  by_content : (content : Option (List (FlatValue program.meaning.Cast)))
                      → slice_get store cell ≡ content
                      → Placed Unbox os (on_some content (λ values. run_unbox_cell (mode_of program)
                      (flat_arity program.procs) (flat_entered program.procs) store world values frames))
                  by_content None is = wrongly Unbox os
                  by_content (Some []) is = wrongly Unbox os
                  by_content (Some (v ∷ w ∷ vs)) is = wrongly Unbox os
                  by_content (Some (v ∷ [])) is =
                      as_placed Unbox os (On (Return v) frames store world)
                      (subst (λ os'. Follows program (fl (Give (Prim Unbox os))) (On (Return v) frames store world)
                      (At (perform program.run s (word_for program places objects s next) (Prim Unbox os')
                      (code_for program places objects s next)))) (sym one.1)
                      (box_read_here program typed (fl (Give (Prim Unbox os))) places objects h filled cells waiting
                      size
                      rests words s count depth group locals (Prim Unbox os) next fits rest fits.few
                      (let z = other_budget (operator_kind Unbox (values locals group os)) 0 0 in omega (arith, z))
                      one.0
                      (subst (λ os'. operands_bound s.captured count depth os' ≡ true) one.1 (and_true (operands_bound
                      s.captured count depth os) (nat_le (length os) 8) fits.bound).0) cell one.2 v
                      is))
                      (given_falls (Prim Unbox os) locals group frames store world v world)
              by_values vs e = wrongly Unbox os

          writes_box : (os : List Operand) → Run (Give (Prim BoxSet os))
          writes_box os fits rest = by_values (values locals group os) refl
            where
              by_values : OnTheirs BoxSet os
              by_values (RunWrap u c ∷ others) e = in_wrapper BoxSet os OnBoxSet fits rest u c others e
              by_values (RunLoc cell false ∷ v ∷ []) e = by_content (slice_get store cell) refl
                where
                  two : (o p : Operand) × (os ≡ o ∷ p ∷ []) × (value locals group o ≡ RunLoc cell false)
                      × (value locals group p ≡ v)
                  two = two_operands locals group os (RunLoc cell false) v e

                  by_content : (content : Option (List (FlatValue program.meaning.Cast)))
                      → slice_get store cell ≡ content
                      → Placed BoxSet os (on_some content (λ old. run_writes_cell (mode_of program)
                      (flat_arity program.procs) (flat_entered program.procs) store world cell (v ∷ []) frames))
                  by_content None is = wrongly BoxSet os
                  by_content (Some old) is =
                      subst (λ u. Placed BoxSet os (On (Return RunUnit) frames (slice_set store cell (u ∷ [])) world))
                      two.4 (as_placed BoxSet os (On (Return RunUnit) frames
                      (slice_set store cell (value locals group two.1 ∷ [])) world)
                      (subst (λ os'. Follows program (fl (Give (Prim BoxSet os))) (On (Return RunUnit) frames
                      (slice_set store cell (value locals group two.1 ∷ [])) world)
                      (At (perform program.run s (word_for program places objects s next) (Prim BoxSet os')
                      (code_for program places objects s next)))) (sym two.2)
                      (box_written_here program typed (fl (Give (Prim BoxSet os))) places objects h filled cells waiting
                      size rests words s count depth group locals (Prim BoxSet os) next fits rest fits.few
                      (let z = other_budget (operator_kind BoxSet (values locals group os)) 0 0 in omega (arith, z))
                      two.0
                      two.1
                      (subst (λ os'. operands_bound s.captured count depth os' ≡ true) two.2 (and_true (operands_bound
                      s.captured count depth os) (nat_le (length os) 8) fits.bound).0) cell two.3 old
                      is))
                      (let z = returns_less RunUnit frames (slice_set store cell (value locals group two.1 ∷ [])) world
                      (frames_weight frames) (omega arith) in omega (arith, z)))
              by_values vs e = wrongly BoxSet os

          tuple_asked : (os : List Operand) → nat_le 1 (length os) ≡ true
              → suc (length os) ≤ asks_of program (fl (Give (Tuple os)))
          tuple_asked [] some = absurd (let z : ⊥ = cc in z)
          tuple_asked (o ∷ os) some =
              let z = program.laws.makes program.l.types program.casts program.measured (tuple_words (o ∷ os)) 0 in
              omega (arith, z)

          runs_operation : (op : Operation) → Run (Give op)
          runs_operation (Move o) fits rest =
              inl (
                refl,
                inl (
                  followed (fl (Give (Move o))) (On (Return (value locals group o)) frames store world)
                      (At (give program.run s (Move o) next))
                      (move_turns program typed (fl (Give (Move o))) places objects h filled cells waiting size rests
                      words s
                      count depth group locals (Move o) next fits rest o fits.bound fits.few (omega arith)),
                  given_falls (Move o) locals group frames store world (value locals group o) world,
                ),
              )
          runs_operation (Tuple os) fits rest =
              inl (
                refl,
                inl (
                  followed (fl (Give (Tuple os))) (flat_turn program.procs (mode_of program) store world
                      (Own (Inside (Give (Tuple os)) locals group)) frames) (At (give program.run s (Tuple os) next))
                      (subst (λ c. Follows program (fl (Give (Tuple os)))
                      (flat_turn program.procs (mode_of program) store world
                      (Own (Inside (Give (Tuple os)) locals group)) frames)
                      (At c)) (sym (give_as (Tuple os) next (λ o e. absurd (let z : ⊥ = cc in z))))
                      (tuple_turns program typed (fl (Give (Tuple os))) places objects h filled cells waiting size rests
                      words s count depth group locals (Tuple os) next fits rest os fits.bound fits.few
                      (let z = other_budget Makes (tuple_words os) 0 in omega (arith, z))
                      (tuple_asked os (and_true (nat_le 1 (length os)) (nat_le (length os) 8)
                      (and_true (operands_bound s.captured count depth os)
                      (nat_le 1 (length os) && nat_le (length os) 8) fits.bound).1).0))),
                  given_falls (Tuple os) locals group frames store world (RunTuple (in_row (values locals group os)))
                      world,
                ),
              )
          runs_operation (Proj o i) fits rest = by_value (value locals group o) refl
            where
              op : Operation
              op = Proj o i

              same_code : give program.run s (Proj o i) next ≡ perform program.run s
                  (word_for program places objects s next) (Proj o i) (code_for program places objects s next)
              same_code = give_as (Proj o i) next (λ o e. absurd (let z : ⊥ = cc in z))

              in_place : is_wrapped (value locals group o) ≡ false
                  → Does (fl (Give (Proj o i)))
                  (flat_turn program.procs (mode_of program) store world
                  (Own (Inside (Give (Proj o i)) locals group)) frames) 0
                  (At (give program.run s (Proj o i) next))
              in_place e =
                  inl (
                    refl,
                    inl (
                      followed (fl (Give (Proj o i))) (flat_turn program.procs (mode_of program) store world
                          (Own (Inside (Give (Proj o i)) locals group)) frames)
                          (At (give program.run s (Proj o i) next)) (subst (λ c. Follows program (fl (Give (Proj o i)))
                          (flat_turn program.procs (mode_of program) store world
                          (Own (Inside (Give (Proj o i)) locals group)) frames) (At c)) (sym same_code)
                          (part_turns program typed (fl (Give (Proj o i))) places objects h filled cells waiting size
                          rests words s count depth group locals (Proj o i) next fits rest o i fits.bound fits.few
                          (let z = other_budget Acts 0 0 in omega (arith, z))
                          (no_wrapper (value locals group o) e))),
                      proj_falls (Proj o i) locals group frames store world (value locals group o) i,
                    ),
                  )

              by_value : (v : FlatValue program.meaning.Cast) → value locals group o ≡ v
                  → Does (fl (Give (Proj o i)))
                  (flat_turn program.procs (mode_of program) store world
                  (Own (Inside (Give (Proj o i)) locals group)) frames) 0
                  (At (give program.run s (Proj o i) next))
              by_value (RunWrap u cast) e =
                  inr (subst (λ c. Served program typed (fl (Give (Proj o i)))
                  (flat_turn program.procs (mode_of program) store world
                  (Own (Inside (Give (Proj o i)) locals group)) frames) 0 0 (At c)) (sym same_code)
                  (part_served program typed (fl (Give (Proj o i))) places objects h filled cells waiting size rests
                  words s count depth group locals (Proj o i) o next fits rest fits.bound fits.few i u cast e refl))
              by_value (RunInt n) e = in_place (ap is_wrapped e)
              by_value (RunBool b) e = in_place (ap is_wrapped e)
              by_value RunUnit e = in_place (ap is_wrapped e)
              by_value (RunFun function captured) e = in_place (ap is_wrapped e)
              by_value (RunTuple vs) e = in_place (ap is_wrapped e)
              by_value (RunLoc cell is_vector) e = in_place (ap is_wrapped e)
              by_value (RunInject u kept) e = in_place (ap is_wrapped e)
          runs_operation (Prim Add os) fits rest = runs_plain Add os refl fits rest
          runs_operation (Prim Sub os) fits rest = runs_plain Sub os refl fits rest
          runs_operation (Prim Mul os) fits rest = runs_plain Mul os refl fits rest
          runs_operation (Prim Quot os) fits rest = runs_plain Quot os refl fits rest
          runs_operation (Prim Rem os) fits rest = runs_plain Rem os refl fits rest
          runs_operation (Prim Lt os) fits rest = runs_plain Lt os refl fits rest
          runs_operation (Prim Le os) fits rest = runs_plain Le os refl fits rest
          runs_operation (Prim Equal os) fits rest = runs_plain Equal os refl fits rest
          runs_operation (Prim Ge os) fits rest = runs_plain Ge os refl fits rest
          runs_operation (Prim Gt os) fits rest = runs_plain Gt os refl fits rest
          runs_operation (Prim Not os) fits rest = runs_plain Not os refl fits rest
          runs_operation (Prim PrintInt os) fits rest = runs_plain PrintInt os refl fits rest
          runs_operation (Prim Newline os) fits rest = runs_plain Newline os refl fits rest
          runs_operation (Prim ReadInt os) fits rest = runs_plain ReadInt os refl fits rest
          runs_operation (Prim MakeVector os) fits rest = runs_vectors MakeVector os OnMake fits rest
          runs_operation (Prim VectorRef os) fits rest = runs_vectors VectorRef os OnRef fits rest
          runs_operation (Prim VectorSet os) fits rest = runs_vectors VectorSet os OnSet fits rest
          runs_operation (Prim VectorLength os) fits rest = runs_vectors VectorLength os OnLength fits rest
          runs_operation (Prim MakeBox os) fits rest = makes_box os fits rest
          runs_operation (Prim Unbox os) fits rest = reads_box os fits rest
          runs_operation (Prim BoxSet os) fits rest = writes_box os fits rest
          runs_operation (Cast o number) fits rest = by_row ((mode_of program).row number) refl
            where
              same_code : give program.run s (Cast o number) next ≡ perform program.run s
                  (word_for program places objects s next) (Cast o number) (code_for program places objects s next)
              same_code = give_as (Cast o number) next (λ o e. absurd (let z : ⊥ = cc in z))

              Goes_by : Option program.meaning.Cast → Type 0
              Goes_by row =
                  Does (fl (Give (Cast o number)))
                  (on_some row (λ cast. flat_cast program.procs (mode_of program) store world (value locals group o)
                  cast
                  frames)) (decision_wraps (decision_at program.procs (mode_of program) row (value locals group o)))
                  (At (give program.run s (Cast o number) next))

              by_row : (row : Option program.meaning.Cast) → (mode_of program).row number ≡ row
                  → Does (fl (Give (Cast o number)))
                  (on_some ((mode_of program).row number) (λ cast. flat_cast program.procs (mode_of program) store world
                  (value locals group o) cast frames))
                  (decision_wraps (decision_at program.procs (mode_of program) ((mode_of program).row number)
                  (value locals group o))) (At (give program.run s (Cast o number) next))
              by_row None e =
                  subst Goes_by (sym e) (inl (
                    refl,
                    inl (
                      wrong_by program (fl (Give (Cast o number))) 0 places objects h filled waiting size rests words
                          (give program.run s (Cast o number) next),
                      wrong_falls (Cast o number) locals group frames store world,
                    ),
                  ))
              by_row (Some cast) e =
                  subst Goes_by (sym e) (inr (subst (λ c. Served program typed (fl (Give (Cast o number)))
                  (flat_cast program.procs (mode_of program) store world (value locals group o) cast frames)
                  (decision_wraps (decision_at program.procs (mode_of program) (Some cast) (value locals group o))) 0
                  (At c))
                  (sym same_code) (cast_served program typed (fl (Give (Cast o number))) places objects h filled cells
                  waiting size rests words s count depth group locals o number next fits rest fits.few cast e
                  (ap (λ row. cast_cost program.procs (mode_of program) (prices_of program) row
                  (value locals group o)) e))))
          runs_operation (ProjDyn o i label) fits rest =
              let bound = and_true (operand_bound s.captured count depth o) (part_has_words i label.0) fits.bound in
              let both = and_true (nat_lt label.0 4294967296) (int_eq (int_wrap w64 i) i) bound.1 in
              let small : label.0 < 4294967296 = let z = both.0 in grind (arith, z) in
              let in_range : int_wrap w64 i ≡ i = let z = both.1 in grind (arith, z) in
              inr (subst (λ c. Served program typed (fl (Give (ProjDyn o i label)))
              (flat_turn program.procs (mode_of program) store world
              (Own (Inside (Give (ProjDyn o i label)) locals group)) frames) 0 0 (At c))
              (sym (give_as (ProjDyn o i label) next (λ o e. absurd (let z : ⊥ = cc in z))))
              (dyn_part_served program typed (fl (Give (ProjDyn o i label))) places objects h filled cells waiting size
              rests words s count depth group locals (ProjDyn o i label) o next fits rest bound.0 fits.few i label.0
              (omega (arith, small)) in_range refl))

          chosen_less : (v : FlatValue program.meaning.Cast) (o : Operand) (a b : Body)
              → FallsAt (fl (Choose o a b))
              (flat_choose program.procs (mode_of program) store world v a b locals group frames)
          chosen_less (RunBool true) o a b = omega arith
          chosen_less (RunBool false) o a b = omega arith
          chosen_less (RunInt n) o a b = omega arith
          chosen_less RunUnit o a b = omega arith
          chosen_less (RunFun function captured) o a b = omega arith
          chosen_less (RunTuple vs) o a b = omega arith
          chosen_less (RunLoc cell is_vector) o a b = omega arith
          chosen_less (RunWrap v c) o a b = omega arith
          chosen_less (RunInject v kept) o a b = omega arith

          pub runs_body : (body : Body) → Run body
          runs_body (Give op) fits rest = runs_operation op fits rest
          runs_body (Call f os) fits rest =
              let x = Entering (value locals group f) [] (all_plain (values locals group os)) in
              inl (
                refl,
                inl (
                  goes_as_it_is (fl (Call f os)) (On x frames store world) (At (emit program.run s (Call f os) next))
                      (goes_over f os locals group s count depth next fits rest (value locals group f) []
                      (all_plain (values locals group os)) refl (plain_values (values locals group os))
                      (plain_casts (values locals group os))),
                  (let a = plain_long (values locals group os) in let b = values_long locals group os in omega
                      (arith, a, b)),
                ),
              )
          runs_body (Choose o a b) fits rest =
              inl (
                refl,
                inl (
                  followed (fl (Choose o a b))
                      (flat_choose program.procs (mode_of program) store world (value locals group o) a b locals group
                      frames) (At (emit program.run s (Choose o a b) next))
                      (branch_turns program typed (fl (Choose o a b)) places objects h filled cells waiting size rests
                      words s
                      count depth group locals next rest o a b fits fits.few
                      (let z = other_budget Acts 0 0 in omega (arith, z))),
                  chosen_less (value locals group o) o a b,
                ),
              )
          runs_body (LetBody slot inner body) fits rest =
              inl (
                refl,
                inl (
                  followed (fl (LetBody slot inner body))
                      (On (Own (Inside inner locals group)) (OwnFrame (Waiting slot body locals group) ∷ frames) store
                      world) (At (emit program.run s (LetBody slot inner body) next))
                      (let_turns program typed (fl (LetBody slot inner body)) places objects h filled cells waiting size
                      rests
                      words s count depth group locals next rest slot inner body fits),
                  omega arith,
                ),
              )
          runs_body (LetGroup slot first many captured body) fits rest =
              inl (
                refl,
                inl (
                  followed (fl (LetGroup slot first many captured body))
                      (On (Own (Inside body (set_group locals slot many (new_group first
                      (values locals group captured))) group)) frames store world)
                      (At (emit program.run s (LetGroup slot first many captured body) next))
                      (group_turns program typed (fl (LetGroup slot first many captured body)) places objects h filled
                      cells
                      waiting size rests words s count depth group locals next rest slot first many captured body fits
                      fits.few
                      (let z = program.laws.budgets program.l.types program.casts program.measured Makes
                      (2 * many + length captured) (2 * many + length captured) in omega (arith, z))
                      (program.laws.makes program.l.types program.casts program.measured (2 * many + length captured)
                      (2 * many + length captured))),
                  omega arith,
                ),
              )

        -- a value is there
        abbrev value_at : FlatValue program.meaning.Cast → FlatState program.meaning.Cast
        value_at v = st (Return v) frames store world

        pub gave : (v : FlatValue program.meaning.Cast) (code : Code)
            → Gave program.setting program.l program.run program.procs program.answer program.meaning places objects v
            frames (record { count = size; locals = words; code = code; rests = rests }) waiting
            → Does (value_at v) (flat_turn program.procs (mode_of program) store world (Return v) frames)
            (flat_turn_wraps program.procs (mode_of program) (Return v) frames) (At code)
        gave v code g = by_frames frames g
          where
            by_frames : (fs : List (FlatFrame program.meaning.Cast))
                → Gave program.setting program.l program.run program.procs program.answer program.meaning places objects
                v
                fs (record { count = size; locals = words; code = code; rests = rests }) waiting
                → Does (st (Return v) fs store world)
                (flat_turn program.procs (mode_of program) store world (Return v) fs)
                (flat_turn_wraps program.procs (mode_of program) (Return v) fs) (At code)
            by_frames [] g = absurd g.rest
            by_frames (OwnFrame (Waiting slot body locals group) ∷ fs) g =
                inl (
                  refl,
                  inl (
                    let x = gave_turns program typed (st (Return v) (OwnFrame (Waiting slot body locals group) ∷ fs)
                        store
                        world)
                        places objects h filled cells waiting size slot body locals group fs v
                        (record { count = size; locals = words; code = code; rests = rests }) g refl in (
                          10 * x.0,
                          x.1 0 (10 * x.0) (room_over program size waiting) (At code) refl
                              (stays_in program size waiting) (omega arith),
                        ),
                    omega arith,
                  ),
                )
            by_frames (CastFrame c ∷ fs) g = absurd g.rest
            by_frames (ProjFrame i ∷ fs) g = absurd g.rest
            by_frames (PrimFrame op done ∷ fs) g = absurd g.rest
            by_frames (EnterFrame f done todo ∷ fs) g = absurd g.rest

        pub gives : (v : FlatValue program.meaning.Cast) (source : LowSource) (w : ℕ) → word_of words source ≡ Some w
            → CarriedHere program places objects v w → CallersHere program places objects waiting frames
            → DoesDue (value_at v) (flat_turn program.procs (mode_of program) store world (Return v) frames)
            (flat_turn_wraps program.procs (mode_of program) (Return v) frames) 28 (At (ReturnCode source))
        gives v source w is carried callers = by_callers waiting frames callers
          where
            no_frames : (x : FlatFrame program.meaning.Cast) (xs : List (FlatFrame program.meaning.Cast))
                → (x ∷ xs) ≡ [] → ⊥
            no_frames x xs e = cc

            Here : List LowWaiting → List (FlatFrame program.meaning.Cast) → Type 0
            Here us fs =
                DoesDue (st (Return v) fs store world)
                (flat_turn program.procs (mode_of program) store world (Return v) fs)
                (flat_turn_wraps program.procs (mode_of program) (Return v) fs) 28
                (at world h us size rests words (ReturnCode source))

            by_resumed : (u : LowWaiting) (us : List LowWaiting) (fs : List (FlatFrame program.meaning.Cast))
                (cast : program.meaning.Cast) (results : List program.meaning.Cast)
                (base : List (FlatFrame program.meaning.Cast)) → fs ≡ CastFrame cast ∷ casts_onto results base
                → program.meaning.Resumes program.setting program.l objects u (cast ∷ results)
                → CallersHere program places objects us base → Here (u ∷ us) fs
            by_resumed u us fs cast results base e resumes callers =
                subst (Here (u ∷ us)) (sym e) (inr (resumed program typed store world places objects h filled cells us u
                size rests words v source w is carried cast results base resumes callers))

            by_callers : (us : List LowWaiting) (fs : List (FlatFrame program.meaning.Cast))
                → CallersHere program places objects us fs → Here us fs
            by_callers [] fs c = absurd c
            by_callers (u ∷ us) fs (inr (inr r)) = by_resumed u us fs r.0 r.1 r.2 r.3 r.4 r.5
            by_callers (u ∷ us) [] (inl e) =
                inl (
                  refl,
                  inl (
                    wrong_by program (st (Return v) [] store world) 28 places objects h filled (u ∷ us) size rests words
                        (ReturnCode source),
                    omega arith,
                  ),
                )
            by_callers (u ∷ us) [] (inr (inl r)) = absurd r.4
            by_callers (u ∷ us) (CastFrame c' ∷ fs) (inl e) = absurd (no_frames (CastFrame c') fs e.0)
            by_callers (u ∷ us) (CastFrame c' ∷ fs) (inr (inl r)) = absurd r.4
            by_callers (u ∷ us) (ProjFrame i ∷ fs) (inl e) = absurd (no_frames (ProjFrame i) fs e.0)
            by_callers (u ∷ us) (ProjFrame i ∷ fs) (inr (inl r)) = absurd r.4
            by_callers (u ∷ us) (PrimFrame op done ∷ fs) (inl e) = absurd (no_frames (PrimFrame op done) fs e.0)
            by_callers (u ∷ us) (PrimFrame op done ∷ fs) (inr (inl r)) = absurd r.4
            by_callers (u ∷ us) (EnterFrame g done todo ∷ fs) (inl e) =
                absurd (no_frames (EnterFrame g done todo) fs e.0)
            by_callers (u ∷ us) (EnterFrame g done todo ∷ fs) (inr (inl r)) = absurd r.4
            by_callers (u ∷ us) (OwnFrame (Waiting slot body locals group) ∷ fs) (inl e) =
                absurd (no_frames (OwnFrame (Waiting slot body locals group)) fs e.0)
            by_callers (u ∷ us) (OwnFrame (Waiting slot body locals group) ∷ fs) (inr (inl r)) =
                let fr = st (Return v) (OwnFrame (Waiting slot body locals group) ∷ fs) store world in
                let f' = st (Own (Inside body (set_flat locals slot v) group)) fs store world in
                let now = set_local u.answer w u.rest.locals in
                let g = put_in program places objects us r.0 r.1 u.rest.count r.2 r.3
                (OwnFrame (Waiting slot body locals group) ∷ fs) u.answer u.rest.code u.rest.rests u.rest.locals now v w
                r.4 carried (word_here u.answer w u.rest.locals)
                (λ j ne side. word_other u.answer w u.rest.locals j ne) in
                inl (
                  refl,
                  inl (
                    let t = at world h (u ∷ us) size rests words (ReturnCode source) in
                        let back = at world h us u.rest.count u.rest.rests now u.rest.code in
                        let x = gave_turns program typed fr places objects h filled cells us u.rest.count slot body
                        locals
                        group fs
                        v (record { count = u.rest.count; locals = now; code = u.rest.code; rests = u.rest.rests }) g
                        refl in
                        let less = lt_true u.answer u.rest.count (word_fits program places objects us r.0 r.1
                        u.rest.count
                        r.2 r.3
                        (OwnFrame (Waiting slot body locals group) ∷ fs) u.answer u.rest.code u.rest.rests u.rest.locals
                        r.4) in (
                          28 + 10 * x.0,
                          by_go program.setting (Way program fr f' h.words (room_over program size (u ∷ us)))
                              (turn_aim program fr f' 28 (28 + 10 * x.0) t)
                              (floor_of program fr 28 (28 + 10 * x.0) t) (10 * x.0)
                              (28 + 10 * x.0) t back (rw (is, less) refl)
                              (let z = return_price program.setting.procs size source in omega (arith, z)) (
                                at_start program fr f' world h.words refl,
                                (objects, filled),
                                stays_in program size (u ∷ us),
                              )
                              (x.1 28 (28 + 10 * x.0) (room_over program size (u ∷ us)) t refl
                              (below_in program size (u ∷ us)) (omega arith)),
                        ),
                    omega arith,
                  ),
                )

        -- ---- calls

        module _ (fo : Operand) (os : List Operand) (locals : FlatLocals program.meaning.Cast)
            (group : Group program.meaning.Cast) (s : Shape)
            (count depth : ℕ) (next : Then)
            (fits : FitsHere s count size group depth locals words (Call fo os))
            (rest : RestHere program places objects waiting s count size group depth frames next rests words) where
          abbrev code : Code
          code = emit program.run s (Call fo os) next

          abbrev entering : FlatValue program.meaning.Cast → List (FlatValue program.meaning.Cast)
              → List (Pending program.meaning.Cast FlatCode)
              → FlatState program.meaning.Cast
          entering v done todo = st (Entering v done todo) frames store world

          -- an argument is gone over
          argument : (v : FlatValue program.meaning.Cast) (done : List (FlatValue program.meaning.Cast))
              (p : Pending program.meaning.Cast FlatCode)
              (todo : List (Pending program.meaning.Cast FlatCode)) → value locals group fo ≡ v
              → onto done (pending_values (p ∷ todo)) ≡ values locals group os → NoCasts todo
              → (casts : List program.meaning.Cast) → casts ≡ []
              → Turn (entering v done (p ∷ todo))
              (next_argument (mode_of program) (flat_arity program.procs)
              (flat_entered program.procs) store world v done
              p.value casts todo frames) (At code)
          argument v done p todo function arguments plain (cast ∷ casts) e = absurd (let z : ⊥ = cc in z)
          argument v done p todo function arguments plain [] e =
              inl (
                goes_as_it_is (entering v done (p ∷ todo)) (On (Entering v (p.value ∷ done) todo) frames store world)
                    (At code)
                    (goes_over fo os locals group s count depth next fits rest v (p.value ∷ done) todo function
                    arguments plain),
                omega arith,
              )

          -- the function's procedure is entered
          applied : (first place : ℕ) (captured : FlatValues program.meaning.Cast)
              (vs : List (FlatValue program.meaning.Cast))
              → value locals group fo ≡ RunFun (record { first = first; place = place }) captured
              → vs ≡ values locals group os → (done : List (FlatValue program.meaning.Cast)) → vs ≡ onto done []
              → (o : Option Proc) → slice_get program.procs (first + place) ≡ o
              → Turn (entering (RunFun (record { first = first; place = place }) captured) done [])
              (on_some (entered_proc o (record { first = first; captured = captured }) vs)
              (λ place. On (Own place) frames store world)) (At code)
          applied first place captured vs function are done eq None there =
              inl (
                wrong_by program (entering (RunFun (record { first = first; place = place }) captured) done []) 0 places
                    objects h filled waiting size rests words code,
                omega arith,
              )
          applied first place captured vs function are done eq (Some p) there = by_long (length vs == p.params) refl
            where
              by_long : (b : Bool) → (length vs == p.params) ≡ b
                  → Turn (entering (RunFun (record { first = first; place = place }) captured) done [])
                  (on_some (if b then Some (Inside p.body (locals_of vs)
                  (record { first = first; captured = captured }))
                  else None) (λ place. On (Own place) frames store world)) (At code)
              by_long false e =
                  inl (
                    wrong_by program (entering (RunFun (record { first = first; place = place }) captured) done []) 0
                        places objects h filled waiting size rests words code,
                    omega arith,
                  )
              by_long true e =
                  let long : length (values locals group os) ≡ p.params =
                  ap length (sym are) ∙ eqb-true (length vs) p.params e in
                  inr (subst (λ us. (credit : ℕ) × SomeBy program.setting
                  (Way program (entering (RunFun (record { first = first; place = place }) captured) done [])
                  (st (Own (Inside p.body (locals_of us) (record { first = first; captured = captured }))) frames
                  store world) h.words (room_over program size waiting))
                  (turn_aim program (entering (RunFun (record { first = first; place = place }) captured) done [])
                  (st (Own (Inside p.body (locals_of us) (record { first = first; captured = captured }))) frames
                  store world) 0 credit (At code))
                  (floor_of program (entering (RunFun (record { first = first; place = place }) captured) done []) 0
                  credit (At code)) credit (At code)) (sym are)
                  (moving (entering (RunFun (record { first = first; place = place }) captured) done [])
                  (st (Own (Inside p.body (locals_of (values locals group os))
                  (record { first = first; captured = captured }))) frames store world) (At code)
                  (call_goes program (entering (RunFun (record { first = first; place = place }) captured) done [])
                  places
                  objects h filled cells waiting size rests words s count depth group locals next rest fo os fits
                  fits.few
                  (let z = other_budget Acts 0 0 in omega (arith, z)) first
                  place captured p function there long)))

          -- what is no function isn't called
          wrong_call : (v : FlatValue program.meaning.Cast) (done : List (FlatValue program.meaning.Cast))
              → Turn (entering v done []) NoNext (At code)
          wrong_call v done =
              inl (
                wrong_by program (entering v done []) 0 places objects h filled waiting size rests words code,
                omega arith,
              )

          -- the arguments are gone over, and the function is applied
          calls : (v : FlatValue program.meaning.Cast) (done : List (FlatValue program.meaning.Cast))
              (todo : List (Pending program.meaning.Cast FlatCode)) → is_wrapped v ≡ false
              → value locals group fo ≡ v → (w : ℕ) × CarriedHere program places objects v w
              → onto done (pending_values todo) ≡ values locals group os → NoCasts todo
              → Turn (entering v done todo)
              (enter (mode_of program) (flat_arity program.procs)
              (flat_entered program.procs) store world v done todo frames)
              (At code)
          calls (RunWrap v c) done todo bare function carried arguments plain = true_false (sym bare)
          calls (RunInt n) done (p ∷ todo) bare function carried arguments plain =
              argument (RunInt n) done p todo function arguments plain.1 p.casts plain.0
          calls (RunBool b) done (p ∷ todo) bare function carried arguments plain =
              argument (RunBool b) done p todo function arguments plain.1 p.casts plain.0
          calls RunUnit done (p ∷ todo) bare function carried arguments plain =
              argument RunUnit done p todo function arguments plain.1 p.casts plain.0
          calls (RunFun f captured) done (p ∷ todo) bare function carried arguments plain =
              argument (RunFun f captured) done p todo function arguments plain.1 p.casts plain.0
          calls (RunTuple vs) done (p ∷ todo) bare function carried arguments plain =
              argument (RunTuple vs) done p todo function arguments plain.1 p.casts plain.0
          calls (RunLoc cell is_vector) done (p ∷ todo) bare function carried arguments plain =
              argument (RunLoc cell is_vector) done p todo function arguments plain.1 p.casts plain.0
          calls (RunInject v kept) done (p ∷ todo) bare function carried arguments plain =
              argument (RunInject v kept) done p todo function arguments plain.1 p.casts plain.0
          calls (RunFun f captured) done [] bare function carried arguments plain =
              applied f.first f.place captured (onto done []) function arguments done refl
              (slice_get program.procs (f.first + f.place)) refl
          calls (RunInt n) done [] bare function carried arguments plain = wrong_call (RunInt n) done
          calls (RunBool b) done [] bare function carried arguments plain = wrong_call (RunBool b) done
          calls RunUnit done [] bare function carried arguments plain = wrong_call RunUnit done
          calls (RunTuple vs) done [] bare function carried arguments plain = wrong_call (RunTuple vs) done
          calls (RunLoc cell is_vector) done [] bare function carried arguments plain =
              wrong_call (RunLoc cell is_vector) done
          calls (RunInject v kept) done [] bare function carried arguments plain = wrong_call (RunInject v kept) done

          -- a call goes on, whatever its state
          pub call_turn : (v : FlatValue program.meaning.Cast) (done : List (FlatValue program.meaning.Cast))
              (todo : List (Pending program.meaning.Cast FlatCode)) → value locals group fo ≡ v
              → onto done (pending_values todo) ≡ values locals group os → NoCasts todo
              → Does (entering v done todo)
              (enter (mode_of program) (flat_arity program.procs)
              (flat_entered program.procs) store world v done todo frames) 0
              (At code)
          call_turn v done todo function arguments plain = by_wrapped v function
            where
              carried : (u : FlatValue program.meaning.Cast) → value locals group fo ≡ u
                  → (w : ℕ) × CarriedHere program places objects u w
              carried u e =
                  let x = and_true (operand_bound s.captured count depth fo)
                  (operands_bound s.captured count depth os && nat_le (length os) 6) fits.bound in
                  let c = value_carried (scene_for program (entering v done todo) (entering v done todo) h.words
                  (room_over program size waiting)
                  (turn_goal program (entering v done todo) (entering v done todo) (At code)) places) world h
                  (at_start program (entering v done todo) (entering v done todo) world h.words refl) objects filled
                  waiting size (stays_in program size waiting) rests s
                  count
                  group depth locals fo x.0 words fits.knows in
                  subst (λ u. (w : ℕ) × CarriedHere program places objects u w) e c

              in_place : (u : FlatValue program.meaning.Cast) → is_wrapped u ≡ false → value locals group fo ≡ u
                  → Does (entering u done todo)
                  (enter (mode_of program) (flat_arity program.procs) (flat_entered program.procs) store world u done
                  todo
                  frames) 0 (At code)
              in_place u bare e = inl (refl, calls u done todo bare e (carried u e) arguments plain)

              by_wrapped : (u : FlatValue program.meaning.Cast) → value locals group fo ≡ u
                  → Does (entering u done todo)
                  (enter (mode_of program) (flat_arity program.procs) (flat_entered program.procs) store world u done
                  todo
                  frames) 0 (At code)
              by_wrapped (RunWrap u c) e =
                  inr (subst (λ ps. Served program typed (entering (RunWrap u c) done todo)
                  (on_some ((mode_of program).calling c) (λ casts. run_enter_wrapped (mode_of program)
                  (flat_arity program.procs) (flat_entered program.procs) store world u casts ps frames)) 0 0 (At code))
                  (sym (all_plain_onto done todo plain ∙ ap all_plain arguments))
                  (call_served program typed (entering (RunWrap u c) done todo) places objects h filled cells waiting
                  size
                  rests words s count depth group locals fo os next fits rest
                  (let x = fits.params in let y = fits.room in omega (arith, x, y)) u c e fits.few refl))
              by_wrapped (RunInt n) e = in_place (RunInt n) refl e
              by_wrapped (RunBool b) e = in_place (RunBool b) refl e
              by_wrapped RunUnit e = in_place RunUnit refl e
              by_wrapped (RunFun g captured) e = in_place (RunFun g captured) refl e
              by_wrapped (RunTuple vs) e = in_place (RunTuple vs) refl e
              by_wrapped (RunLoc cell is_vector) e = in_place (RunLoc cell is_vector) refl e
              by_wrapped (RunInject u kept) e = in_place (RunInject u kept) refl e
