-- The turns of operators that are done in place.
use Rattle.std.proofs.Common.{◌≡◌, inl, inr, ℕ, ℤ, ◌+◌, ◌<◌, ◌≤◌, List, [], ◌∷◌, Option, Some, None, true, ◌^◌}
use Rattle.std.proofs.Common.{refl, sym, ap, ◌∙◌, subst, arith, Bool, false}
use Rattle.std.specs.Prelude.{◌+ℤ◌, ◌-ℤ◌, int_lt, int_le, nat_le, not, codes}
use Rattle.std.specs.Int.{w64, int_wrap, cast_unsigned}
use Rattle.std.proofs.lemmas.Int.{int_wrap_fits}
use Rattle.std.specs.Fmt.{signed_decimal}
use Rattle.std.specs.Ordering.{int_eq}
use Rattle.grift_base.specs.World.{printing}
use Rattle.grift_base.specs.Reading.{next_number, past_white, past_run}
use Rattle.grift_base.proofs.Public.{next_number_fits}
use Rattle.grift_base.specs.declared.operators.PrimOp.{PrimOp}
use Rattle.grift_base.specs.declared.operators.PrimOp.TheVariants.{Add, Sub, Mul, Quot, Rem, Lt, Le, Eq as Equal, Ge}
use Rattle.grift_base.specs.declared.operators.PrimOp.TheVariants.{Gt, Not, PrintInt, Newline, ReadInt, MakeBox}
use Rattle.grift_base.specs.declared.operators.PrimOp.TheVariants.{Unbox, BoxSet, MakeVector, VectorRef, VectorSet}
use Rattle.grift_base.specs.declared.operators.PrimOp.TheVariants.{VectorLength}
use Rattle.low_ir.specs.declared.code.LowSource.TheVariants.{Number}
use Rattle.low_ir.specs.Procedures.{Code, Done, Environment, Call}
use Rattle.low_ir.specs.Steps.{Locals}
use Rattle.low_ir.specs.Run.{Waiting as LowWaiting, LowState}
use Rattle.cast_modes.specs.RunValues.{RunInt, RunBool, RunUnit}
use Rattle.cast_modes.specs.ValueSteps.{Return, On, NoNext, run_on_ints, run_on_int, run_on_bool, run_newline}
use Rattle.cast_modes.specs.ValueSteps.{run_reads, run_read}
use Rattle.flat_ir.specs.declared.code.Operand.{Operand}
use Rattle.flat_ir.specs.declared.code.Operation.TheVariants.{Prim}
use Rattle.flat_ir.specs.Bodies.{Give}
use Rattle.flat_ir.specs.Closed.{operands_bound}
use Rattle.flat_ir.specs.Machine.{FlatValue, FlatState, FlatAfter, Group, Locals as FlatLocals}
use Rattle.flat_ir.specs.Machine.{flat_arity, flat_entered, value, values, flat_operate}
use Rattle.coercion_norm.specs.Held.{TypesStand}
use Rattle.coercion_norm.specs.Objects.{Object}
use Rattle.rt_cast.specs.States.{Heap}
use Rattle.lower.specs.Storage.{Filled}
use Rattle.lowered_code.specs.declared.numbering.Shape.{Shape}
use Rattle.lowered_code.specs.Numbering.{operand_word, test_word}
use Rattle.lowered_code.specs.Emit.{Then, perform, fetch_all, found}
use Rattle.lower.specs.CarriedValues.{CellsHeld}
use Rattle.lower.specs.Relation.{Fits}
use Rattle.std.proofs.Common.{pos}
use Rattle.std.specs.Prelude.{◌*ℤ◌, int_rem, if◌then◌else◌}
use Rattle.std.specs.Int.{int_wrapping_div}
use Rattle.run_laws.specs.Runs.{Ending, Verdict as EndsWith}
use Rattle.grift_base.specs.declared.verdicts.Trap.TheVariants.{ZeroDivisor, Input}
use Rattle.grift_base.specs.declared.verdicts.Verdict.{Verdict}
use Rattle.grift_base.specs.declared.verdicts.Verdict.TheVariants.{Trap as TrapVerdict}
use Rattle.machine_words.specs.Halts.{ending_of}
use Rattle.cast_modes.specs.ValueSteps.{TrapOf}
use Rattle.rt_refs.specs.Answering.{Quiet, TrapsNext}
use Rattle.rt_cast.specs.States.{heap_of}
use Rattle.lower.proofs.words.Operands.{and_true}
use Rattle.lower.proofs.words.Stops.{stops_cheaply}
use Rattle.lower.proofs.words.Steps.{at, here, Comes, Goal, waiting_for, left_of, plain}
use Rattle.lower.proofs.words.EmitPrices.{prim_price, perform_begins, slot_near, test_near}
use Rattle.low_ir.specs.Prices.{code_price, codes_price}
use Rattle.std.proofs.Common.{length, le_refl}
use Rattle.grift_base.specs.World.{WorldState}
use Rattle.lower.specs.SimulationServices.{product_price}
use Rattle.lower.proofs.words.Services.{heap_same}
use Rattle.lower.proofs.words.Operators.{multiplies, divides, leaves, traps}
use Rattle.lower.proofs.simulation.Way.{room_over, stays_in, serves_in}
use Rattle.lower.proofs.simulation.Way.{Seen, Stopping, stopped_over}
use Rattle.lower.proofs.words.Arithmetic.{le_turned}
use Rattle.lower.proofs.words.Operations.{Touches}
use Rattle.lower.proofs.words.Operators.{adds, subtracts, less, greater, at_most, at_least, equal, negates}
use Rattle.lower.proofs.words.Operators.{prints_int}
use Rattle.lower.proofs.words.Operators.{prints_newline, input_stops, reads_int, reads_none, Standing}
use Rattle.lower.proofs.simulation.Way.{mode_of}
use Rattle.lower.proofs.simulation.Way.{Program, Follows, FollowsFrom, FollowsBy, next_state, Way, Allowed}
use Rattle.lower.proofs.simulation.Way.{scene_for}
use Rattle.lower.proofs.simulation.Way.{by_follows, turn_goal, turn_aim, kept_by, kept_besides, at_start}
use Rattle.lower.proofs.simulation.Way.{budget_of}
use Rattle.lower.proofs.simulation.Way.{due_is}
use Rattle.lower.proofs.simulation.Way.{floor_of, above_floor}
use Rattle.lower.proofs.simulation.Gives.{Fitting, due_for}
use Rattle.lower.proofs.simulation.Operations.{due_little}
use Rattle.lower.proofs.simulation.Gives.{CarriedHere, RestHere, given, word_for, code_for}
use Rattle.lower.proofs.simulation.Operations.{settle, goes_wrong, word_less, put, giving}
use Rattle.lower.proofs.simulation.ShownAnswers.{true_false}

-- an operator on integers and truth values, or one that prints or reads
abbrev pub is_plain : PrimOp → Bool
is_plain Add = true
is_plain Sub = true
is_plain Mul = true
is_plain Quot = true
is_plain Rem = true
is_plain Lt = true
is_plain Le = true
is_plain Equal = true
is_plain Ge = true
is_plain Gt = true
is_plain Not = true
is_plain PrintInt = true
is_plain Newline = true
is_plain ReadInt = true
is_plain _ = false

-- products, quotients and remainders have more
abbrev pub needed : PrimOp → ℕ
needed Mul = 32768
needed Quot = 32768
needed Rem = 32768
needed _ = 0

module _ {C : Type 0} (locals : FlatLocals C) (group : Group C) where
  -- operands whose values are told
  pub two_operands : (os : List Operand) (v u : FlatValue C) → values locals group os ≡ v ∷ u ∷ []
      → (o p : Operand) × (os ≡ o ∷ p ∷ []) × (value locals group o ≡ v) × (value locals group p ≡ u)
  two_operands [] v u e = absurd (let z : ⊥ = cc in z)
  two_operands (o ∷ []) v u e = absurd (let z : ⊥ = cc in z)
  two_operands (o ∷ p ∷ q ∷ os) v u e = absurd (let z : ⊥ = cc in z)
  two_operands (o ∷ p ∷ []) v u e = (
    o,
    p,
    refl,
    first (value locals group o) (value locals group p) e,
    second (value locals group o)
        (value locals group p) e,
  )
    where
      first : (x y : FlatValue C) → (x ∷ y ∷ []) ≡ (v ∷ u ∷ []) → x ≡ v
      first x y e = cc

      second : (x y : FlatValue C) → (x ∷ y ∷ []) ≡ (v ∷ u ∷ []) → y ≡ u
      second x y e = cc

  pub one_operand : (os : List Operand) (v : FlatValue C) → values locals group os ≡ v ∷ []
      → (o : Operand) × (os ≡ o ∷ []) × (value locals group o ≡ v)
  one_operand [] v e = absurd (let z : ⊥ = cc in z)
  one_operand (o ∷ p ∷ os) v e = absurd (let z : ⊥ = cc in z)
  one_operand (o ∷ []) v e = (o, refl, first (value locals group o) e)
    where
      first : (x : FlatValue C) → (x ∷ []) ≡ (v ∷ []) → x ≡ v
      first x e = cc

  no_operand : (os : List Operand) → values locals group os ≡ [] → os ≡ []
  no_operand [] e = refl
  no_operand (o ∷ os) e = absurd (let z : ⊥ = cc in z)

module _ (program : Program) (typed : TypesStand program.l)
    (f : FlatState program.meaning.Cast) (places : List ℕ) (objects : List Object) (h : Heap)
    (filled : Filled program.meaning program.setting program.l program.number objects h)
    (cells : CellsHeld program.l program.setting.address program.procs program.meaning places objects h.memory places
    f.store)
    (waiting : List LowWaiting) (size : ℕ) (rests : List Code) (words : Locals) (s : Shape) (count depth : ℕ)
    (group : Group program.meaning.Cast) (locals : FlatLocals program.meaning.Cast) (op : PrimOp) (os : List Operand)
    (next : Then)
    (fits : Fits program.setting program.l program.run program.procs program.answer program.meaning places objects s
    count
    size group depth locals words (Give (Prim op os)))
    (rest : RestHere program places objects waiting s count size group depth f.frames next rests words)
    (six : s.params ≤ 6) (few : length os ≤ 8) (enough : 500 ≤ budget_of program f) where
  open (giving program typed f places objects h filled cells waiting size rests words s count depth group locals
      (Prim op os) next fits rest) use {wide, d, k}

  all_bound : operands_bound s.captured count depth os ≡ true
  all_bound = (and_true (operands_bound s.captured count depth os) (nat_le (length os) 8) fits.bound).0

  -- an operator on these operands does what comes of the turn
  abbrev Does : PrimOp → List Operand → FlatAfter program.meaning.Cast → Type 0
  Does op os x = Follows program f x (at f.world h waiting size rests words (perform program.run s d (Prim op os) k))

  abbrev code_of : PrimOp → List Operand → Code
  code_of op os = perform program.run s d (Prim op os) k

  abbrev start_of : PrimOp → List Operand → LowState
  start_of op os = at f.world h waiting size rests words (perform program.run s d (Prim op os) k)

  -- an operator's price is within the budget of its turn
  fitting : (op : PrimOp) (os : List Operand) → length os ≤ 8
      → Fitting program places objects f s size next (perform program.run s
      (word_for program places objects s next) (Prim op os) (code_for program places objects s next))
  fitting op os le =
      let dear = prim_price program.setting.procs size s six program.run d op os le k in
      let little = due_little program places objects next in
      record {
        begins = perform_begins program.run s d (Prim op os) k;
        paid = omega (arith, dear, little, enough);
      }

  gives : (op' : PrimOp) (os' : List Operand) → length os' ≤ 8 → (v : FlatValue program.meaning.Cast) (w : ℕ)
      (new : Locals) → CarriedHere program places objects v w
      → new d ≡ Some w
      → Touches s d words new
      → FollowsFrom program f (On (Return v) f.frames f.store f.world)
      (at f.world h waiting size rests words (perform program.run s d (Prim op' os') k))
      (at f.world h waiting size rests new k)
  gives op' os' le v w new c e touches =
      put program typed f places objects h filled cells waiting size rests words s count depth group locals
      (Prim op os) next fits rest (code_of op' os') (fitting op' os' le) v w new c e touches

  wrong : (op : PrimOp) (os : List Operand) → Does op os NoNext
  wrong op os =
      goes_wrong program f places objects h filled waiting size rests words (perform program.run s d (Prim op os) k)

  on_ints : (X : FlatAfter program.meaning.Cast → Type 0) (go : ℤ → ℤ → FlatAfter program.meaning.Cast) → X NoNext
      → (vs : List (FlatValue program.meaning.Cast)) → ((a b : ℤ) → vs ≡ RunInt a ∷ RunInt b ∷ [] → X (go a b))
      → X (run_on_ints (mode_of program) (flat_arity program.procs) (flat_entered program.procs) f.store f.world go vs)
  on_ints X go none (RunInt a ∷ RunInt b ∷ []) does = does a b refl
  on_ints X go none _ does = none

  on_int : (X : FlatAfter program.meaning.Cast → Type 0) (go : ℤ → FlatAfter program.meaning.Cast) → X NoNext
      → (vs : List (FlatValue program.meaning.Cast)) → ((a : ℤ) → vs ≡ RunInt a ∷ [] → X (go a))
      → X (run_on_int (mode_of program) (flat_arity program.procs) (flat_entered program.procs) f.store f.world go vs)
  on_int X go none (RunInt a ∷ []) does = does a refl
  on_int X go none _ does = none

  on_bool : (X : FlatAfter program.meaning.Cast → Type 0) (go : Bool → FlatAfter program.meaning.Cast) → X NoNext
      → (vs : List (FlatValue program.meaning.Cast)) → ((b : Bool) → vs ≡ RunBool b ∷ [] → X (go b))
      → X (run_on_bool (mode_of program) (flat_arity program.procs) (flat_entered program.procs) f.store f.world go vs)
  on_bool X go none (RunBool b ∷ []) does = does b refl
  on_bool X go none _ does = none

  -- of two operands that are integers
  abbrev TwoInts : PrimOp → (ℤ → ℤ → FlatAfter program.meaning.Cast) → Type 0
  TwoInts op go =
      (o p : Operand) (a b : ℤ) → value locals group o ≡ RunInt a → value locals group p ≡ RunInt b
      → operands_bound s.captured count depth (o ∷ p ∷ []) ≡ true → Does op (o ∷ p ∷ []) (go a b)

  two_ints : (op : PrimOp) (go : ℤ → ℤ → FlatAfter program.meaning.Cast) → TwoInts op go
      → Does op os (run_on_ints (mode_of program) (flat_arity program.procs)
      (flat_entered program.procs) f.store f.world go
      (values locals group os))
  two_ints op go does =
      on_ints (Does op os) go (wrong op os) (values locals group os)
      (λ a b e. let t = two_operands locals group os (RunInt a) (RunInt b) e in
      subst (λ l. Does op l (go a b)) (sym t.2)
      (does t.0 t.1 a b t.3 t.4 (subst (λ l. operands_bound s.captured count depth l ≡ true) t.2 all_bound)))

  abbrev valued : FlatValue program.meaning.Cast → FlatState program.meaning.Cast
  valued v = next_state program f (On (Return v) f.frames f.store f.world)

  as_before : (f' : FlatState program.meaning.Cast) → Allowed program f f' h.words f.world h.words
  as_before f' = at_start program f f' f.world h.words refl

  -- what the lemmas on the code of operators are told, where the turn comes to f'
  abbrev standing : (f' : FlatState program.meaning.Cast) (goal : Goal)
      → Standing (scene_for program f f' h.words (room_over program size waiting) goal places)
  standing f' goal = record {
    world = f.world;
    h = h;
    allowed = as_before f';
    objects = objects;
    filled = filled;
    waiting = waiting;
    size = size;
    frames_fit = stays_in program size waiting;
    rests = rests;
    s = s;
    count = count;
    group = group;
    depth = depth;
    locals = locals;
    room = wide;
    words = words;
    knows = fits.knows;
  }

  abbrev standing_in : (op : PrimOp) (os : List Operand) (f' : FlatState program.meaning.Cast)
      → Standing (scene_for program f f' h.words (room_over program size waiting) (turn_goal program f f'
      (start_of op os)) places)
  standing_in op os f' = standing f' (turn_goal program f f' (start_of op os))

  less_than_size : word_for program places objects s next < size
  less_than_size = word_less program typed f places objects h filled cells waiting size rests words s count depth group
      locals (Prim op os) next fits rest

  add : TwoInts Add (λ a b. On (Return (RunInt (int_wrap w64 (a +ℤ b)))) f.frames f.store f.world)
  add o p a b ea eb bound =
      adds (standing_in Add (o ∷ p ∷ []) (valued (RunInt (int_wrap w64 (a +ℤ b))))) o p a b ea eb bound d less_than_size
      k
      (λ w new c e touches. gives Add (o ∷ p ∷ []) (omega arith) (RunInt (int_wrap w64 (a +ℤ b))) w new c e touches)

  subtract : TwoInts Sub (λ a b. On (Return (RunInt (int_wrap w64 (a -ℤ b)))) f.frames f.store f.world)
  subtract o p a b ea eb bound =
      subtracts (standing_in Sub (o ∷ p ∷ []) (valued (RunInt (int_wrap w64 (a -ℤ b))))) o p a b ea eb bound d
      less_than_size k
      (λ w new c e touches. gives Sub (o ∷ p ∷ []) (omega arith) (RunInt (int_wrap w64 (a -ℤ b))) w new c e touches)

  less_than : TwoInts Lt (λ a b. On (Return (RunBool (int_lt a b))) f.frames f.store f.world)
  less_than o p a b ea eb bound =
      less (standing_in Lt (o ∷ p ∷ []) (valued (RunBool (int_lt a b)))) o p a b ea eb bound d less_than_size k
      (λ w new c e touches. gives Lt (o ∷ p ∷ []) (omega arith) (RunBool (int_lt a b)) w new c e touches)

  greater_than : TwoInts Gt (λ a b. On (Return (RunBool (int_lt b a))) f.frames f.store f.world)
  greater_than o p a b ea eb bound =
      greater (standing_in Gt (o ∷ p ∷ []) (valued (RunBool (int_lt b a)))) o p a b ea eb bound d less_than_size k
      (λ w new c e touches. gives Gt (o ∷ p ∷ []) (omega arith) (RunBool (int_lt b a)) w new c e touches)

  not_above : TwoInts Le (λ a b. On (Return (RunBool (not (int_lt b a)))) f.frames f.store f.world)
  not_above o p a b ea eb bound =
      at_most (standing_in Le (o ∷ p ∷ []) (valued (RunBool (not (int_lt b a))))) o p a b ea eb bound d less_than_size k
      (λ w new c e touches. gives Le (o ∷ p ∷ []) (omega arith) (RunBool (not (int_lt b a))) w new c e touches)

  not_below : TwoInts Ge (λ a b. On (Return (RunBool (not (int_lt a b)))) f.frames f.store f.world)
  not_below o p a b ea eb bound =
      at_least (standing_in Ge (o ∷ p ∷ []) (valued (RunBool (not (int_lt a b))))) o p a b ea eb bound d less_than_size
      k
      (λ w new c e touches. gives Ge (o ∷ p ∷ []) (omega arith) (RunBool (not (int_lt a b))) w new c e touches)

  same_as : TwoInts Equal (λ a b. On (Return (RunBool (int_eq a b))) f.frames f.store f.world)
  same_as o p a b ea eb bound =
      equal (standing_in Equal (o ∷ p ∷ []) (valued (RunBool (int_eq a b)))) o p a b ea eb bound d less_than_size k
      (λ w new c e touches. gives Equal (o ∷ p ∷ []) (omega arith) (RunBool (int_eq a b)) w new c e touches)

  not_above' : TwoInts Le (λ a b. On (Return (RunBool (int_le a b))) f.frames f.store f.world)
  not_above' o p a b ea eb bound =
      subst (λ z. Does Le (o ∷ p ∷ []) (On (Return (RunBool z)) f.frames f.store f.world)) (le_turned a b)
      (not_above o p a b ea eb bound)

  not_below' : TwoInts Ge (λ a b. On (Return (RunBool (int_le b a))) f.frames f.store f.world)
  not_below' o p a b ea eb bound =
      subst (λ z. Does Ge (o ∷ p ∷ []) (On (Return (RunBool z)) f.frames f.store f.world)) (le_turned b a)
      (not_below o p a b ea eb bound)

  bound_of : (os' : List Operand) → os ≡ os' → operands_bound s.captured count depth os' ≡ true
  bound_of os' e = subst (λ l. operands_bound s.captured count depth l ≡ true) e all_bound

  turns_not : Does Not os (run_on_bool (mode_of program) (flat_arity program.procs) (flat_entered program.procs) f.store
      f.world (λ b. On (Return (RunBool (not b))) f.frames f.store f.world) (values locals group os))
  turns_not =
      on_bool (Does Not os) (λ b. On (Return (RunBool (not b))) f.frames f.store f.world) (wrong Not os)
      (values locals group os)
      (λ b e. let t = one_operand locals group os (RunBool b) e in
      subst (λ l. Does Not l (On (Return (RunBool (not b))) f.frames f.store f.world)) (sym t.1)
      (negates (standing_in Not (t.0 ∷ []) (valued (RunBool (not b)))) t.0 b d t.2 (bound_of (t.0 ∷ []) t.1)
      less_than_size k
      (λ w new c e touches. gives Not (t.0 ∷ []) (omega arith) (RunBool (not b)) w new c e touches)))

  -- what is printed
  abbrev printed : List ℕ → FlatAfter program.meaning.Cast
  printed bytes = On (Return RunUnit) f.frames f.store (printing bytes f.world)

  -- a value in a world that has changed, with no words asked for
  gives_in : (op : PrimOp) (os : List Operand) → length os ≤ 8 → (v : FlatValue program.meaning.Cast) (w : ℕ)
      (world' : WorldState) (new : Locals) → CarriedHere program places objects v w
      → new d ≡ Some w → Touches s d words new
      → FollowsFrom program f (On (Return v) f.frames f.store world') (start_of op os)
      (at world' h waiting size rests new k)
  gives_in op os le v w world' new c e touches =
      let f' = next_state program f (On (Return v) f.frames f.store world') in
      let fit = fitting op os le in
      here program.setting (Way program f f' h.words (room_over program size waiting)) (turn_goal program f f'
      (start_of op os))
      (at world' h waiting size rests new k) (
        due_for program places objects next,
        settle program typed places objects h world' filled f.store f.frames cells v waiting
            size rests new k (due_for program places objects next)
            (given program places objects waiting s count size group depth f.frames next rests words new v w rest c e
            touches),
        kept_by program f f' f.world world' h h waiting size rests words new (code_of op os) k
            (due_for program places objects next) fit.begins fit.paid (omega arith),
      )

  gives_unit : (op : PrimOp) (os : List Operand) → length os ≤ 8 → (bytes : List ℕ) (new : Locals) → new d ≡ Some 0
      → Touches s d words new
      → FollowsFrom program f (printed bytes) (start_of op os)
      (at (printing bytes f.world) h waiting size rests new k)
  gives_unit op os le bytes new e touches = gives_in op os le RunUnit 0 (printing bytes f.world) new refl e touches

  turns_print : Does PrintInt os (run_on_int (mode_of program) (flat_arity program.procs) (flat_entered program.procs)
      f.store f.world (λ a. printed (signed_decimal a)) (values locals group os))
  turns_print =
      on_int (Does PrintInt os) (λ a. printed (signed_decimal a)) (wrong PrintInt os) (values locals group os)
      (λ a e. let t = one_operand locals group os (RunInt a) e in
      subst (λ l. Does PrintInt l (printed (signed_decimal a))) (sym t.1)
      (prints_int (standing_in PrintInt (t.0 ∷ []) (next_state program f (printed (signed_decimal a)))) t.0 a d t.2
      (bound_of (t.0 ∷ []) t.1) less_than_size k (inr (refl, le_refl h.words))
      (λ new e touches. gives_unit PrintInt (t.0 ∷ []) (omega arith) (signed_decimal a) new e touches)))

  turns_line : (vs : List (FlatValue program.meaning.Cast)) → values locals group os ≡ vs
      → Does Newline os (run_newline (mode_of program) (flat_arity program.procs) (flat_entered program.procs) f.store
      f.world vs f.frames)
  turns_line (v ∷ vs) e = wrong Newline os
  turns_line [] e =
      subst (λ l. Does Newline l (printed (codes "\n"))) (sym (no_operand locals group os e))
      (prints_newline (standing_in Newline [] (next_state program f (printed (codes "\n")))) d
      less_than_size k
      (inr (refl, le_refl h.words)) (λ new e touches. gives_unit Newline [] (omega arith) (codes "\n") new e touches))

  -- ---- reading

  -- the number that was read
  abbrev number_read : ℤ → FlatAfter program.meaning.Cast
  number_read n = On (Return (RunInt n)) f.frames f.store (past_run f.world)

  gives_number : (n : ℤ) → int_wrap w64 n ≡ n → (new : Locals) → new d ≡ Some (cast_unsigned w64 n)
      → Touches s d words new
      → FollowsFrom program f (number_read n) (start_of ReadInt []) (at (past_run f.world) h waiting size rests new k)
  gives_number n small new e touches =
      gives_in ReadInt [] (omega arith) (RunInt n) (cast_unsigned w64 n) (past_run f.world) new (refl, small) e touches

  -- without a number the program traps
  abbrev no_number : FlatState program.meaning.Cast
  no_number = next_state program f (TrapOf Input (past_white f.world))

  abbrev no_number_ending : Ending Verdict
  no_number_ending = EndsWith (TrapVerdict Input)

  -- the call that traps stops there
  traps_input : (inner : List Code) (new : Locals) → Stopping program no_number no_number_ending
      (at (past_white f.world) h waiting size inner new
      (Environment 4 (Number 4) (Number 0) (test_word s) (test_word s) Done))
  traps_input inner new =
      record {
        now = record { output = refl; filling = (objects, filled) };
        last = at (past_white f.world) h waiting size inner new Done;
        stops =
            input_stops program.setting (past_white f.world) h waiting size inner new (test_word s)
            (omega (arith, wide));
        cheap =
            let z = slot_near (test_word s) (test_near program.setting.procs size s six) in omega (arith, z);
        seen = record { output = refl; filling = (objects, filled) };
      }

  turns_read_by : (o : Option ℤ) → next_number f.world ≡ o
      → Does ReadInt [] (run_reads (mode_of program) (flat_arity program.procs) (flat_entered program.procs) f.store
      f.world o f.frames)
  turns_read_by (Some n) e =
      reads_int (standing_in ReadInt [] (next_state program f (number_read n))) n d e
      less_than_size k
      (inr (refl, le_refl h.words))
      (λ new g touches. gives_number n (int_wrap_fits w64 n (next_number_fits f.world n e)) new g touches)
  turns_read_by None e =
      reads_none (standing_in ReadInt [] no_number) d e k (inl (refl, omega arith))
      (here program.setting (Way program f no_number h.words (room_over program size waiting)) (turn_goal program f
      no_number (start_of ReadInt [])) _ (
        0,
        inr (inl (stopped_over program no_number (TrapVerdict Input) _ refl (traps_input _ _))),
        record {
          asked = omega arith;
          paid =
              let dear = prim_price program.setting.procs size s six program.run d ReadInt [] (omega arith) k in
              omega (arith, dear, enough);
        },
      ))

  turns_read : (vs : List (FlatValue program.meaning.Cast)) → values locals group os ≡ vs
      → Does ReadInt os (run_read (mode_of program) (flat_arity program.procs) (flat_entered program.procs) f.store
      f.world vs f.frames)
  turns_read (v ∷ vs) e = wrong ReadInt os
  turns_read [] e =
      subst (λ l. Does ReadInt l (run_reads (mode_of program) (flat_arity program.procs) (flat_entered program.procs)
      f.store f.world (next_number f.world) f.frames)) (sym (no_operand locals group os e))
      (turns_read_by (next_number f.world) refl)

  -- ---- products, quotients and remainders

  -- what may be paid besides: the procedure that serves, and its return
  abbrev product_goal : PrimOp → List Operand → FlatState program.meaning.Cast → Goal
  product_goal op os f' = record {
    extra = product_price + 28;
    floor = floor_of program f 0 (left_of program.setting (start_of op os) + (product_price + 28)) (start_of op os);
    holds = turn_aim program f f' 0 (left_of program.setting (start_of op os) + (product_price + 28)) (start_of op os);
    least = above_floor program f f' 0 (left_of program.setting (start_of op os) + (product_price + 28))
        (start_of op os);
  }

  abbrev standing_for_product : (op : PrimOp) (os : List Operand) (f' : FlatState program.meaning.Cast)
      → Standing (scene_for program f f' h.words (room_over program size waiting) (product_goal op os f') places)
  standing_for_product op os f' = standing f' (product_goal op os f')

  gives_product : (op : PrimOp) (o p : Operand) → 32768 ≤ budget_of program f
      → (v : FlatValue program.meaning.Cast) (w : ℕ) (new : Locals)
      → CarriedHere program places objects v w → new d ≡ Some w → Touches s d words new
      → Comes program.setting (Way program f (valued v) h.words (room_over program size waiting))
      (plain (product_goal op (o ∷ p ∷ []) (valued v)))
      (at f.world h waiting size rests new k)
  gives_product op o p big v w new c e touches =
      let f' = valued v in
      let dear = prim_price program.setting.procs size s six program.run d op (o ∷ p ∷ []) (omega arith) k in
      let little = due_little program places objects next in
      here program.setting (Way program f f' h.words (room_over program size waiting)) (plain (product_goal op
      (o ∷ p ∷ []) f'))
      (at f.world h waiting size rests new k) (
        due_for program places objects next,
        settle program typed places objects h f.world filled f.store f.frames cells v waiting
            size rests new k (due_for program places objects next)
            (given program places objects waiting s count size group depth f.frames next rests words new v w rest c e
            touches),
        kept_besides program f f' f.world f.world h h waiting size rests words new (code_of op (o ∷ p ∷ [])) k
            (product_price + 28) (due_for program places objects next)
            (perform_begins program.run s d (Prim op (o ∷ p ∷ [])) k) (omega (arith, dear, little, big)) (omega arith),
      )

  -- a goal that is reached by what may be paid besides
  by_all : (op : PrimOp) (os : List Operand) (x : FlatAfter program.meaning.Cast)
      → Comes program.setting (Way program f (next_state program f x) h.words (room_over program size waiting))
      (product_goal op os (next_state program f x)) (start_of op os) → FollowsBy program f x 0 (start_of op os)
  by_all op os x c = (left_of program.setting (start_of op os) + (product_price + 28), c)

  multiplied : 32768 ≤ budget_of program f → (o p : Operand) (a b : ℤ) → value locals group o ≡ RunInt a
      → value locals group p ≡ RunInt b → operands_bound s.captured count depth (o ∷ p ∷ []) ≡ true
      → FollowsBy program f (On (Return (RunInt (int_wrap w64 (a *ℤ b)))) f.frames f.store f.world) 0
      (start_of Mul (o ∷ p ∷ []))
  multiplied big o p a b ea eb bound =
      let v = RunInt (int_wrap w64 (a *ℤ b)) in
      by_all Mul (o ∷ p ∷ []) (On (Return v) f.frames f.store f.world)
      (multiplies (standing_for_product Mul (o ∷ p ∷ []) (valued v)) program.serves.products o p a b ea eb bound d k
      (omega arith)
      (serves_in program size waiting) less_than_size
      (λ w new c e touches. gives_product Mul o p big v w new c e touches))

  -- ---- a divisor 0

  abbrev trapped : FlatState program.meaning.Cast
  trapped = next_state program f (TrapOf ZeroDivisor f.world)

  abbrev trap_ending : Ending Verdict
  trap_ending = EndsWith (TrapVerdict ZeroDivisor)

  quiet_seen : (s t : LowState) → Quiet s t → s.world ≡ f.world
      → Filled program.meaning program.setting program.l program.number objects (heap_of s)
      → Seen program trapped t
  quiet_seen s t q w filled = record {
    output = ap (λ x. x.output) (q.world ∙ w);
    filling = (
      objects,
      subst (λ x. Filled program.meaning program.setting program.l program.number objects x)
          (sym (heap_same t (heap_of s) q.memory q.alloc q.words)) filled,
    );
  }

  traps_here : (op : PrimOp) (o p : Operand) → 32768 ≤ budget_of program f → (new : Locals) (t : LowState)
      → TrapsNext ending_of program.setting ZeroDivisor
      (at f.world h (waiting_for d size rests new k ∷ waiting) size rests new k) t
      → (product_goal op (o ∷ p ∷ []) trapped).holds
      (code_price program.setting.procs size k + codes_price program.setting.procs size rests) t
  traps_here op o p big new t r =
      let s0 = at f.world h (waiting_for d size rests new k ∷ waiting) size rests new k in
      let dear = prim_price program.setting.procs size s six program.run d op (o ∷ p ∷ []) (omega arith) k in (
        0,
        inr (inl (stopped_over program trapped (TrapVerdict ZeroDivisor) t refl (record {
          now = quiet_seen s0 t r.quiet refl filled;
          last = r.last;
          stops = r.stops;
          cheap = (stops_cheaply program.setting t r.last (TrapVerdict ZeroDivisor) r.stops).0;
          seen = quiet_seen s0 r.last r.stays refl filled;
        }))),
        record {
          asked = let z = r.quiet.words in omega (arith, z);
          paid =
              let due = due_is (code_of op (o ∷ p ∷ [])) rests (perform_begins program.run s d (Prim op (o ∷ p ∷ [])) k)
              in
              omega (arith, dear, big, due);
        },
      )

  trap_floor : (op : PrimOp) (o p : Operand) → 32768 ≤ budget_of program f
      → floor_of program f 0 (left_of program.setting (start_of op (o ∷ p ∷ [])) + (product_price + 28))
      (start_of op (o ∷ p ∷ []))
      ≤ code_price program.setting.procs size k + codes_price program.setting.procs size rests
  trap_floor op o p big =
      let dear = prim_price program.setting.procs size s six program.run d op (o ∷ p ∷ []) (omega arith) k in
      omega (arith, dear, big)

  -- it does so whichever answer of the procedure that divides is asked for
  no_answer : (op : PrimOp) (which : ℕ) → which < 2 ^ 64 → 32768 ≤ budget_of program f → (o p : Operand) (a b : ℤ)
      → value locals group o ≡ RunInt a → value locals group p ≡ RunInt b
      → operands_bound s.captured count depth (o ∷ p ∷ []) ≡ true → int_eq b (pos 0) ≡ true
      → fetch_all s 0 (o ∷ p ∷ []) (Call d program.run.divide
      (found s (operand_word s 0) o ∷ found s (operand_word s 1) p ∷ Number which ∷ []) k) ≡ code_of op (o ∷ p ∷ [])
      → FollowsBy program f (TrapOf ZeroDivisor f.world) 0 (start_of op (o ∷ p ∷ []))
  no_answer op which small big o p a b ea eb bound e code =
      by_all op (o ∷ p ∷ []) (TrapOf ZeroDivisor f.world)
      (subst (λ c. Comes program.setting (Way program f trapped h.words (room_over program size waiting))
      (product_goal op (o ∷ p ∷ []) trapped) (at f.world h waiting size rests words c)) code
      (traps (standing_for_product op (o ∷ p ∷ []) trapped) program.serves.products o p a b ea eb bound d k
      (omega arith)
      (serves_in program size waiting) which small e (trap_floor op o p big)
      (λ new t r. traps_here op o p big new t r)))

  divided : 32768 ≤ budget_of program f → (o p : Operand) (a b : ℤ) → value locals group o ≡ RunInt a
      → value locals group p ≡ RunInt b → operands_bound s.captured count depth (o ∷ p ∷ []) ≡ true
      → FollowsBy program f (if int_eq b (pos 0) then TrapOf ZeroDivisor f.world
      else On (Return (RunInt (int_wrapping_div w64 a b))) f.frames f.store f.world) 0 (start_of Quot (o ∷ p ∷ []))
  divided big o p a b ea eb bound = by_divisor (int_eq b (pos 0)) refl
    where
      v : FlatValue program.meaning.Cast
      v = RunInt (int_wrapping_div w64 a b)

      by_divisor : (t : Bool) → int_eq b (pos 0) ≡ t
          → FollowsBy program f (if t then TrapOf ZeroDivisor f.world
          else On (Return (RunInt (int_wrapping_div w64 a b))) f.frames f.store f.world) 0 (start_of Quot (o ∷ p ∷ []))
      by_divisor true e = no_answer Quot 0 (omega arith) big o p a b ea eb bound e refl
      by_divisor false e =
          by_all Quot (o ∷ p ∷ []) (On (Return v) f.frames f.store f.world)
          (divides (standing_for_product Quot (o ∷ p ∷ []) (valued v)) program.serves.products o p a b ea eb bound d k
          (omega arith) (serves_in program size waiting) e less_than_size
          (λ w new c q touches. gives_product Quot o p big v w new c q touches))

  left_over : 32768 ≤ budget_of program f → (o p : Operand) (a b : ℤ) → value locals group o ≡ RunInt a
      → value locals group p ≡ RunInt b → operands_bound s.captured count depth (o ∷ p ∷ []) ≡ true
      → FollowsBy program f (if int_eq b (pos 0) then TrapOf ZeroDivisor f.world
      else On (Return (RunInt (int_rem a b))) f.frames f.store f.world) 0 (start_of Rem (o ∷ p ∷ []))
  left_over big o p a b ea eb bound = by_divisor (int_eq b (pos 0)) refl
    where
      v : FlatValue program.meaning.Cast
      v = RunInt (int_rem a b)

      by_divisor : (t : Bool) → int_eq b (pos 0) ≡ t
          → FollowsBy program f (if t then TrapOf ZeroDivisor f.world
          else On (Return (RunInt (int_rem a b))) f.frames f.store f.world) 0 (start_of Rem (o ∷ p ∷ []))
      by_divisor true e = no_answer Rem 1 (omega arith) big o p a b ea eb bound e refl
      by_divisor false e =
          by_all Rem (o ∷ p ∷ []) (On (Return v) f.frames f.store f.world)
          (leaves (standing_for_product Rem (o ∷ p ∷ []) (valued v)) program.serves.products o p a b ea eb bound d k
          (omega arith) (serves_in program size waiting) e less_than_size
          (λ w new c q touches. gives_product Rem o p big v w new c q touches))

  in_place : (op' : PrimOp) (x : FlatAfter program.meaning.Cast) → Does op' os x
      → FollowsBy program f x 0 (start_of op' os)
  in_place op' x c = by_follows program f x (start_of op' os) c

  products : (op' : PrimOp) (go : ℤ → ℤ → FlatAfter program.meaning.Cast)
      → ((o p : Operand) (a b : ℤ) → value locals group o ≡ RunInt a
      → value locals group p ≡ RunInt b → operands_bound s.captured count depth (o ∷ p ∷ []) ≡ true
      → FollowsBy program f (go a b) 0 (start_of op' (o ∷ p ∷ [])))
      → FollowsBy program f (run_on_ints (mode_of program) (flat_arity program.procs)
      (flat_entered program.procs) f.store f.world go
      (values locals group os)) 0 (start_of op' os)
  products op' go does =
      on_ints (λ x. FollowsBy program f x 0 (start_of op' os)) go (in_place op' NoNext (wrong op' os))
      (values locals group os)
      (λ a b e. let t = two_operands locals group os (RunInt a) (RunInt b) e in
      subst (λ l. FollowsBy program f (go a b) 0 (start_of op' l)) (sym t.2)
      (does t.0 t.1 a b t.3 t.4 (subst (λ l. operands_bound s.captured count depth l ≡ true) t.2 all_bound)))

  ints : (op' : PrimOp) (go : ℤ → ℤ → FlatAfter program.meaning.Cast) → TwoInts op' go
      → FollowsBy program f (run_on_ints (mode_of program) (flat_arity program.procs)
      (flat_entered program.procs) f.store f.world go
      (values locals group os)) 0 (start_of op' os)
  ints op' go does =
      in_place op' (run_on_ints (mode_of program) (flat_arity program.procs)
      (flat_entered program.procs) f.store f.world go (values locals group os)) (two_ints op' go does)

  pub operator_turns : (op' : PrimOp) → is_plain op' ≡ true → needed op' ≤ budget_of program f
      → FollowsBy program f
      (flat_operate program.procs (mode_of program) f.store f.world op' (values locals group os) f.frames) 0
      (at f.world h waiting size rests words (perform program.run s
      (word_for program places objects s next) (Prim op' os) (code_for program places objects s next)))
  operator_turns Add c n = ints Add (λ a b. On (Return (RunInt (int_wrap w64 (a +ℤ b)))) f.frames f.store f.world) add
  operator_turns Sub c n = ints Sub (λ a b. On (Return (RunInt (int_wrap w64 (a -ℤ b)))) f.frames f.store f.world)
      subtract
  operator_turns Lt c n = ints Lt (λ a b. On (Return (RunBool (int_lt a b))) f.frames f.store f.world) less_than
  operator_turns Gt c n = ints Gt (λ a b. On (Return (RunBool (int_lt b a))) f.frames f.store f.world) greater_than
  operator_turns Le c n = ints Le (λ a b. On (Return (RunBool (int_le a b))) f.frames f.store f.world) not_above'
  operator_turns Ge c n = ints Ge (λ a b. On (Return (RunBool (int_le b a))) f.frames f.store f.world) not_below'
  operator_turns Equal c n = ints Equal (λ a b. On (Return (RunBool (int_eq a b))) f.frames f.store f.world) same_as
  operator_turns Not c n =
      in_place Not (run_on_bool (mode_of program) (flat_arity program.procs) (flat_entered program.procs) f.store
      f.world (λ b. On (Return (RunBool (not b))) f.frames f.store f.world) (values locals group os)) turns_not
  operator_turns PrintInt c n =
      in_place PrintInt (run_on_int (mode_of program) (flat_arity program.procs) (flat_entered program.procs)
      f.store f.world (λ a. printed (signed_decimal a)) (values locals group os)) turns_print
  operator_turns Newline c n =
      in_place Newline (run_newline (mode_of program) (flat_arity program.procs) (flat_entered program.procs) f.store
      f.world (values locals group os) f.frames) (turns_line (values locals group os) refl)
  operator_turns ReadInt c n =
      in_place ReadInt (run_read (mode_of program) (flat_arity program.procs) (flat_entered program.procs) f.store
      f.world (values locals group os) f.frames) (turns_read (values locals group os) refl)
  operator_turns Mul c n =
      products Mul (λ a b. On (Return (RunInt (int_wrap w64 (a *ℤ b)))) f.frames f.store f.world) (multiplied n)
  operator_turns Quot c n =
      products Quot (λ a b. if int_eq b (pos 0) then TrapOf ZeroDivisor f.world
      else On (Return (RunInt (int_wrapping_div w64 a b))) f.frames f.store f.world) (divided n)
  operator_turns Rem c n =
      products Rem (λ a b. if int_eq b (pos 0) then TrapOf ZeroDivisor f.world
      else On (Return (RunInt (int_rem a b))) f.frames f.store f.world) (left_over n)
  operator_turns MakeBox c n = true_false c
  operator_turns Unbox c n = true_false c
  operator_turns BoxSet c n = true_false c
  operator_turns MakeVector c n = true_false c
  operator_turns VectorRef c n = true_false c
  operator_turns VectorSet c n = true_false c
  operator_turns VectorLength c n = true_false c
