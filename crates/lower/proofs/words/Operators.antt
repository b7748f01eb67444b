-- The operators on integers and truth values that are done in place, and those that print.
use Rattle.std.proofs.Common.{◌≡◌, ℕ, ℤ, ◌+◌, ◌^◌, ◌%◌, ◌<◌, ◌≤◌, Bool, true, false}
use Rattle.std.proofs.Common.{List, [], ◌∷◌, length, Option, Some, None, refl, ap, ap₂, ◌∙◌, subst, arith}
use Rattle.std.specs.Prelude.{◌==◌, ◌+ℤ◌, ◌-ℤ◌, int_lt, not, if◌then◌else◌, codes}
use Rattle.std.specs.Int.{w64, cast_unsigned, cast_signed, int_wrap}
use Rattle.std.specs.Fmt.{signed_decimal}
use Rattle.std.specs.Ordering.{int_eq}
use Rattle.grift_base.specs.declared.environment.TheConstants.{PRINT_INT_CALL, PRINT_BYTE_CALL}
use Rattle.grift_base.specs.declared.environment.TheConstants.{READ_INT_CALL, TRAP_CALL}
use Rattle.grift_base.specs.World.{WorldState, printing}
use Rattle.grift_base.specs.Reading.{next_number, past_white, past_run, after_reading}
use Rattle.grift_base.specs.EnvironmentCall.{Called, environment_call, reads}
use Rattle.grift_base.specs.declared.worlds.EnvEffect.TheVariants.{Next as GoesOn, Trapped}
use Rattle.machine_words.specs.Arithmetic.{flag}
use Rattle.low_ir.specs.declared.code.WordOp.{WordOp}
use Rattle.low_ir.specs.declared.code.WordOp.TheVariants.{Add as Plus, Sub as Minus, Xor, Slt, Sltu}
use Rattle.low_ir.specs.declared.code.LowSource.{LowSource}
use Rattle.low_ir.specs.declared.code.LowSource.TheVariants.{Word, Number}
use Rattle.low_ir.specs.Operations.{compute}
use Rattle.low_ir.specs.Procedures.{Code, Done, Compute, Set, Environment}
use Rattle.low_ir.specs.Steps.{Locals, set_local}
use Rattle.low_ir.specs.Run.{Setting, Waiting, word_of, words_of, and_more, code_step, LowState}
use Rattle.cast_modes.specs.RunValues.{RunInt, RunBool, in_row}
use Rattle.flat_ir.specs.declared.code.Operand.{Operand}
use Rattle.flat_ir.specs.Closed.{operands_bound}
use Rattle.flat_ir.specs.Machine.{FlatValue, Group, Locals as FlatLocals, value, values}
use Rattle.coercion_norm.specs.Objects.{Object}
use Rattle.low_ir.specs.Frames.{frame_room, waiting_room}
use Rattle.rt_cast.specs.States.{Heap}
use Rattle.lowered_code.specs.declared.numbering.Shape.{Shape}
use Rattle.lowered_code.specs.Numbering.{operand_word, test_word}
use Rattle.lowered_code.specs.Emit.{found, fetch_all, found_all, turned, read_number}
use Rattle.lower.proofs.heap.Objects.{none_some, same_some}
use Rattle.lower.proofs.words.Arithmetic.{sum_made, difference_made, less_made, turned_made, equal_made}
use Rattle.lower.proofs.words.Arithmetic.{wraps_once}
use Rattle.lower.proofs.words.Arithmetic.{word_read}
use Rattle.std.proofs.Common.{pos, mod-eq_of_lt}
use Rattle.std.specs.Prelude.{◌*ℤ◌, int_rem}
use Rattle.std.specs.Int.{int_wrapping_div}
use Rattle.grift_base.specs.declared.verdicts.Trap.TheVariants.{ZeroDivisor, Input}
use Rattle.grift_base.specs.declared.verdicts.Verdict.TheVariants.{Trap as TrapVerdict}
use Rattle.run_laws.specs.Runs.{Verdict as EndsWith}
use Rattle.run_laws.specs.Machines.{Stop}
use Rattle.machine_words.specs.Halts.{ending_of}
use Rattle.low_ir.specs.Procedures.{Call}
use Rattle.rt_refs.specs.Answering.{AnswersFor, TrapsNext}
use Rattle.lower.specs.SimulationServices.{AnswerProducts}
use Rattle.lower.proofs.words.Arithmetic.{word_small, product_made, quotient_wraps, remainder_wraps}
use Rattle.lower.proofs.words.Arithmetic.{no_divisor}
use Rattle.lower.proofs.words.Arithmetic.{some_divisor}
use Rattle.lower.proofs.words.Services.{CalmServing, answered_by, traps_by}
use Rattle.lower.proofs.words.Steps.{waiting_for}
use Rattle.lower.proofs.words.Steps.{lt_true, at, Calm, sets_word, computes, environment_goes, if_true}
use Rattle.lower.proofs.words.Steps.{if_false}
use Rattle.lower.proofs.words.Steps.{falls_through, Comes, plain}
use Rattle.low_ir.specs.Prices.{code_price, codes_price}
use Rattle.lower.specs.SimulationServices.{product_price}
use Rattle.lower.proofs.words.Scene.{Scene, Carries, CarryAll, Arrives, Fills}
use Rattle.lower.proofs.simulation.RelationKept.{word_here, word_other}
use Rattle.lower.proofs.words.Operands.{ChangesFrom, KnowsHere, fetch_all_reads, both_words}
use Rattle.lower.proofs.words.Operations.{Touches, Puts, beside, not_computed}

pub split_first : (x : Option ℕ) (xs : Option (List ℕ)) (w : ℕ) (ws : List ℕ) → and_more x xs ≡ Some (w ∷ ws)
    → (x ≡ Some w) × (xs ≡ Some ws)
split_first None xs w ws e = none_some e
split_first (Some y) None w ws e = none_some e
split_first (Some y) (Some ys) w ws e =
    let q = same_some (y ∷ ys) (w ∷ ws) e in (ap Some (head_same y w ys ws q), ap Some (tail_same y w ys ws q))
  where
    head_same : (x y : ℕ) (xs ys : List ℕ) → (x ∷ xs) ≡ (y ∷ ys) → x ≡ y
    head_same x y xs ys e = cc

    tail_same : (x y : ℕ) (xs ys : List ℕ) → (x ∷ xs) ≡ (y ∷ ys) → xs ≡ ys
    tail_same x y xs ys e = cc

prints : (x y labels : ℕ) (world : WorldState) → environment_call PRINT_INT_CALL x y labels world
    ≡ record { effect = GoesOn x y; world = printing (signed_decimal (cast_signed w64 x)) world }
unfolding environment_call
prints x y labels world = refl

prints_line : (labels : ℕ) (world : WorldState) → environment_call PRINT_BYTE_CALL 10 0 labels world
    ≡ record { effect = GoesOn 10 0; world = printing (codes "\n") world }
unfolding environment_call
prints_line labels world = refl

-- the call that reads, told what stands next in the input
reads_next : (labels : ℕ) (world : WorldState) (o : Option ℤ) → next_number world ≡ o
    → environment_call READ_INT_CALL 0 0 labels world ≡ record { effect = reads o; world = after_reading o world }
unfolding environment_call
reads_next labels world o e =
    let called : Option ℤ → Called = λ x. record { effect = reads x; world = after_reading x world } in ap called e

traps_input : (labels : ℕ) (world : WorldState) → environment_call TRAP_CALL 4 0 labels world
    ≡ record { effect = Trapped Input; world = world }
unfolding environment_call
traps_input labels world = refl

-- the call that traps for want of a number
pub input_stops : (setting : Setting) (world : WorldState) (h : Heap) (waiting : List Waiting) (size : ℕ)
    (rests : List Code) (words : Locals) (t : ℕ) → t < size
    → code_step ending_of setting (Environment 4 (Number 4) (Number 0) t t Done)
    (at world h waiting size rests words (Environment 4 (Number 4) (Number 0) t t Done))
    ≡ Stop (EndsWith (TrapVerdict Input)) (at world h waiting size rests words Done)
input_stops setting world h waiting size rests words t lt =
    let less = lt_true t size lt in
    let called = traps_input (length setting.labels) world in rw (less, called) refl

-- the frame of a procedure that serves is the smallest one
serving_frame : (count : ℕ) → count ≤ 24 → (below room : ℕ) → 25 + below ≤ room → frame_room count + below ≤ room
serving_frame count few below room le = grind (arith, few, le)

-- where a body stands as the code of an operator begins: the world, the heap and what fills it, the procedures that
-- wait, the frame and what it knows of the values of names
pub record Standing (scene : Scene) : Type 0 where
  pub world : WorldState
  pub h : Heap
  pub allowed : scene.allowed world h.words
  pub objects : List Object
  pub filled : Fills scene.program objects h
  pub waiting : List Waiting
  pub size : ℕ
  pub frames_fit : frame_room size + waiting_room waiting ≤ scene.room
  pub rests : List Code
  pub s : Shape
  pub count : ℕ
  pub group : Group scene.program.meaning.Cast
  pub depth : ℕ
  pub locals : FlatLocals scene.program.meaning.Cast
  pub room : s.params + 10 ≤ size
  pub words : Locals
  pub knows : KnowsHere scene world h allowed objects filled waiting size frames_fit rests s count group depth locals
      words

module _ {scene : Scene} (standing : Standing scene) where
  open standing use {world, h, allowed, objects, filled, waiting, size, frames_fit, rests}
  open standing use {s, count, group, depth, locals, room, words, knows}

  abbrev calm : Calm scene.program.setting scene.P scene.Q size waiting world h
  calm = scene.calm world h objects filled allowed size waiting frames_fit

  abbrev On : Locals → Code → Type 0
  On new code = Arrives scene (at world h waiting size rests new code)

  abbrev PutsHere : ℕ → FlatValue scene.program.meaning.Cast → Code → Type 0
  PutsHere d v k =
      Puts scene world h allowed objects filled waiting size frames_fit rests s count group depth locals room words
      knows d v k

  -- two operands that are integers
  pub ints_read : (o p : Operand) (a b : ℤ) → value locals group o ≡ RunInt a → value locals group p ≡ RunInt b
      → operands_bound s.captured count depth (o ∷ p ∷ []) ≡ true → (k : Code)
      → ((new : Locals) → word_of new (found s (operand_word s 0) o) ≡ Some (cast_unsigned w64 a)
      → word_of new (found s (operand_word s 1) p) ≡ Some (cast_unsigned w64 b) → int_wrap w64 a ≡ a
      → int_wrap w64 b ≡ b → ChangesFrom (operand_word s 0) 2 words new → On new k)
      → On words (fetch_all s 0 (o ∷ p ∷ []) k)
  ints_read o p a b ea eb bound k go =
      fetch_all_reads scene world h allowed objects filled waiting size frames_fit rests s count group depth locals
      (o ∷ p ∷ []) 0
      bound (omega arith) room words knows k (λ ws new carried are changed. by_words ws new carried are changed)
    where
      by_words : (ws : List ℕ) (new : Locals)
          → CarryAll scene objects (in_row (values locals group (o ∷ p ∷ []))) ws
          → words_of new (found_all s 0 (o ∷ p ∷ [])) ≡ Some ws → ChangesFrom (operand_word s 0) 2 words new → On new k
      by_words [] new carried are changed = absurd carried
      by_words (x ∷ []) new carried are changed = absurd carried.1
      by_words (x ∷ y ∷ z ∷ ws) new carried are changed = absurd carried.1.1
      by_words (x ∷ y ∷ []) new carried are changed =
          let c = subst (λ v. Carries scene objects v x) ea carried.0 in
          let e = subst (λ v. Carries scene objects v y) eb carried.1.0 in
          let one = split_first (word_of new (found s (operand_word s 0) o))
          (words_of new (found_all s 1 (p ∷ []))) x (y ∷ []) are in
          let two = split_first (word_of new (found s (operand_word s 1) p)) (Some []) y [] one.1 in
          go new (one.0 ∙ ap Some c.0) (two.0 ∙ ap Some e.0) c.1 e.1 changed

  -- one that is of a value
  pub one_read : (o : Operand) → operands_bound s.captured count depth (o ∷ []) ≡ true → (k : Code)
      → ((x : ℕ) (new : Locals) → Carries scene objects (value locals group o) x
      → word_of new (found s (operand_word s 0) o) ≡ Some x → ChangesFrom (operand_word s 0) 1 words new → On new k)
      → On words (fetch_all s 0 (o ∷ []) k)
  one_read o bound k go =
      fetch_all_reads scene world h allowed objects filled waiting size frames_fit rests s count group depth locals
      (o ∷ []) 0
      bound (omega arith) room words knows k (λ ws new carried are changed. by_words ws new carried are changed)
    where
      by_words : (ws : List ℕ) (new : Locals) → CarryAll scene objects (in_row (values locals group (o ∷ []))) ws
          → words_of new (found_all s 0 (o ∷ [])) ≡ Some ws → ChangesFrom (operand_word s 0) 1 words new → On new k
      by_words [] new carried are changed = absurd carried
      by_words (x ∷ y ∷ ws) new carried are changed = absurd carried.1
      by_words (x ∷ []) new carried are changed =
          let one = split_first (word_of new (found s (operand_word s 0) o)) (Some []) x [] are in
          go x new carried.0 one.0 changed

  touched : (d n : ℕ) (new : Locals) (w : ℕ) → n ≤ 8 → ChangesFrom (operand_word s 0) n words new
      → Touches s d words (set_local d w new)
  touched d n new w few changed j ne side =
      word_other d w new j ne ∙ changed j (beside s (operand_word s 0) n j (omega arith) (omega (arith, few)) side)

  -- a word is computed
  pub computed : (op : WordOp) (d : ℕ) (a b : LowSource) (x y w n : ℕ) (v : FlatValue scene.program.meaning.Cast)
      (k : Code)
      (new : Locals) → word_of new a ≡ Some x → word_of new b ≡ Some y → compute op x y ≡ w
      → Carries scene objects v w → n ≤ 8 → ChangesFrom (operand_word s 0) n words new → d < size → PutsHere d v k
      → On new (Compute op d a b k)
  computed op d a b x y w n v k new ea eb made carried few changed lt go =
      computes scene.program.setting scene.P scene.Q calm x y w ea eb made lt
      (go w (set_local d w new) carried (word_here d w new) (touched d n new w few changed))

  -- and another one of it and 1
  pub computed_twice : (op then_op : WordOp) (d : ℕ) (a b : LowSource) (x y z w n : ℕ)
      (v : FlatValue scene.program.meaning.Cast)
      (k : Code) (new : Locals) → word_of new a ≡ Some x → word_of new b ≡ Some y → compute op x y ≡ z
      → compute then_op z 1 ≡ w → Carries scene objects v w → n ≤ 8
      → ChangesFrom (operand_word s 0) n words new → d < size → PutsHere d v k
      → On new (Compute op d a b (Compute then_op d (Word d) (Number 1) k))
  computed_twice op then_op d a b x y z w n v k new ea eb first second carried few changed lt go =
      let mid = set_local d z new in
      computes scene.program.setting scene.P scene.Q calm x y z ea eb first lt
      (computes scene.program.setting scene.P scene.Q calm z 1 w (word_here d z new) refl second lt
      (go w (set_local d w mid) carried (word_here d w mid)
      (λ j ne side. word_other d w mid j ne ∙ touched d n new z few changed j ne side)))

  -- that the integer of one word isn't less than that of another
  not_less : (d : ℕ) (x y : LowSource) (a b : ℤ) (k : Code) (new : Locals)
      → word_of new x ≡ Some (cast_unsigned w64 a) → word_of new y ≡ Some (cast_unsigned w64 b) → int_wrap w64 a ≡ a
      → int_wrap w64 b ≡ b → ChangesFrom (operand_word s 0) 2 words new → d < size
      → PutsHere d (RunBool (not (int_lt a b))) k → On new (Compute Slt d x y (turned d k))
  not_less d x y a b k new xa yb fa fb changed lt go =
      computed_twice Slt Xor d x y (cast_unsigned w64 a) (cast_unsigned w64 b) (flag (int_lt a b))
      (flag (not (int_lt a b))) 2 (RunBool (not (int_lt a b))) k new xa yb (less_made a b fa fb)
      (turned_made (int_lt a b)) refl (omega arith) changed lt go

  module _ (o p : Operand) (a b : ℤ) (ea : value locals group o ≡ RunInt a) (eb : value locals group p ≡ RunInt b)
      (bound : operands_bound s.captured count depth (o ∷ p ∷ []) ≡ true) (d : ℕ) (lt : d < size) (k : Code) where
    abbrev x : LowSource
    x = found s (operand_word s 0) o

    abbrev y : LowSource
    y = found s (operand_word s 1) p

    pub adds : PutsHere d (RunInt (int_wrap w64 (a +ℤ b))) k
        → On words (fetch_all s 0 (o ∷ p ∷ []) (Compute Plus d x y k))
    adds go =
        ints_read o p a b ea eb bound (Compute Plus d x y k)
        (λ new xa yb fa fb changed. computed Plus d x y (cast_unsigned w64 a) (cast_unsigned w64 b)
        (cast_unsigned w64 (int_wrap w64 (a +ℤ b))) 2 (RunInt (int_wrap w64 (a +ℤ b))) k new xa yb (sum_made a b fa fb)
        (refl, wraps_once (a +ℤ b)) (omega arith) changed lt go)

    pub subtracts : PutsHere d (RunInt (int_wrap w64 (a -ℤ b))) k
        → On words (fetch_all s 0 (o ∷ p ∷ []) (Compute Minus d x y k))
    subtracts go =
        ints_read o p a b ea eb bound (Compute Minus d x y k)
        (λ new xa yb fa fb changed. computed Minus d x y (cast_unsigned w64 a) (cast_unsigned w64 b)
        (cast_unsigned w64 (int_wrap w64 (a -ℤ b))) 2 (RunInt (int_wrap w64 (a -ℤ b))) k new xa yb
        (difference_made a b fa fb) (refl, wraps_once (a -ℤ b)) (omega arith) changed lt go)

    pub less : PutsHere d (RunBool (int_lt a b)) k → On words (fetch_all s 0 (o ∷ p ∷ []) (Compute Slt d x y k))
    less go =
        ints_read o p a b ea eb bound (Compute Slt d x y k)
        (λ new xa yb fa fb changed. computed Slt d x y (cast_unsigned w64 a) (cast_unsigned w64 b) (flag (int_lt a b)) 2
        (RunBool (int_lt a b)) k new xa yb (less_made a b fa fb) refl (omega arith) changed lt go)

    pub greater : PutsHere d (RunBool (int_lt b a)) k → On words (fetch_all s 0 (o ∷ p ∷ []) (Compute Slt d y x k))
    greater go =
        ints_read o p a b ea eb bound (Compute Slt d y x k)
        (λ new xa yb fa fb changed. computed Slt d y x (cast_unsigned w64 b) (cast_unsigned w64 a) (flag (int_lt b a)) 2
        (RunBool (int_lt b a)) k new yb xa (less_made b a fb fa) refl (omega arith) changed lt go)

    pub at_most : PutsHere d (RunBool (not (int_lt b a))) k
        → On words (fetch_all s 0 (o ∷ p ∷ []) (Compute Slt d y x (turned d k)))
    at_most go =
        ints_read o p a b ea eb bound (Compute Slt d y x (turned d k))
        (λ new xa yb fa fb changed. not_less d y x b a k new yb xa fb fa changed lt go)

    pub at_least : PutsHere d (RunBool (not (int_lt a b))) k
        → On words (fetch_all s 0 (o ∷ p ∷ []) (Compute Slt d x y (turned d k)))
    at_least go =
        ints_read o p a b ea eb bound (Compute Slt d x y (turned d k))
        (λ new xa yb fa fb changed. not_less d x y a b k new xa yb fa fb changed lt go)

    pub equal : PutsHere d (RunBool (int_eq a b)) k
        → On words (fetch_all s 0 (o ∷ p ∷ []) (Compute Xor d x y (Compute Sltu d (Word d) (Number 1) k)))
    equal go =
        ints_read o p a b ea eb bound (Compute Xor d x y (Compute Sltu d (Word d) (Number 1) k))
        (λ new xa yb fa fb changed. computed_twice Xor Sltu d x y (cast_unsigned w64 a) (cast_unsigned w64 b)
        (compute Xor (cast_unsigned w64 a) (cast_unsigned w64 b)) (flag (int_eq a b)) 2 (RunBool (int_eq a b)) k new xa
        yb refl (equal_made a b fa fb) refl (omega arith) changed lt go)

  pub negates : (o : Operand) (b : Bool) (d : ℕ) → value locals group o ≡ RunBool b
      → operands_bound s.captured count depth (o ∷ []) ≡ true → d < size → (k : Code) → PutsHere d (RunBool (not b)) k
      → On words (fetch_all s 0 (o ∷ []) (Compute Xor d (found s (operand_word s 0) o) (Number 1) k))
  negates o b d e bound lt k go =
      one_read o bound (Compute Xor d (found s (operand_word s 0) o) (Number 1) k)
      (λ x new carried is changed.
      let c : x ≡ (if b then 1 else 0) = subst (λ v. Carries scene objects v x) e carried in
      computed Xor d (found s (operand_word s 0) o) (Number 1) x 1 (flag (not b)) 1 (RunBool (not b)) k new is refl
      (ap (λ n. compute Xor n 1) c ∙ turned_made b) refl (omega arith) changed lt go)

  -- ---- printing

  -- unit is put into a word, in the world that has changed
  abbrev pub PutsIn : WorldState → ℕ → Code → Type 0
  PutsIn world' d k =
      (new : Locals) → new d ≡ Some 0 → Touches s d words new
      → Arrives scene (at world' h waiting size rests new k)

  set_unit : (world' : WorldState) → scene.allowed world' h.words → (d a0 a1 n : ℕ) (k : Code) (new : Locals) → n ≤ 8
      → ChangesFrom (operand_word s 0) n words new → d < size → PutsIn world' d k
      → Arrives scene (at world' h waiting size rests
      (set_local (test_word s) a1 (set_local (test_word s) a0 new)) (Set d (Number 0) k))
  set_unit world' allowed' d a0 a1 n k new few changed lt go =
      let t = test_word s in
      let mid = set_local t a1 (set_local t a0 new) in
      sets_word scene.program.setting scene.P scene.Q (scene.calm world' h objects filled allowed' size waiting
      frames_fit) 0
      refl lt
      (go (set_local d 0 mid) (word_here d 0 mid)
      (λ j ne side. word_other d 0 mid j ne
      ∙ (word_other t a1 (set_local t a0 new) j (not_computed s t j (omega arith) (omega arith) side)
      ∙ (word_other t a0 new j (not_computed s t j (omega arith) (omega arith) side)
      ∙ changed j (beside s (operand_word s 0) n j (omega arith) (omega (arith, few)) side)))))

  pub prints_int : (o : Operand) (a : ℤ) (d : ℕ) → value locals group o ≡ RunInt a
      → operands_bound s.captured count depth (o ∷ []) ≡ true → d < size → (k : Code)
      → scene.allowed (printing (signed_decimal a) world) h.words → PutsIn (printing (signed_decimal a) world) d k
      → On words (fetch_all s 0 (o ∷ [])
      (Environment 1 (found s (operand_word s 0) o) (Number 0) (test_word s) (test_word s) (Set d (Number 0) k)))
  prints_int o a d e bound lt k allowed' go =
      one_read o bound
      (Environment 1 (found s (operand_word s 0) o) (Number 0) (test_word s) (test_word s) (Set d (Number 0) k))
      (λ x new carried is changed.
      let c = subst (λ v. Carries scene objects v x) e carried in
      let read : cast_signed w64 x ≡ a = ap (cast_signed w64) c.0 ∙ word_read a c.1 in
      environment_goes scene.program.setting scene.P scene.Q calm x 0 x 0 (printing (signed_decimal a) world) is refl
      (prints x 0 (length scene.program.setting.labels) world
      ∙ ap (λ z. record { effect = GoesOn x 0; world = printing (signed_decimal z) world }) read)
      (omega (arith, room)) (omega (arith, room))
      (set_unit (printing (signed_decimal a) world) allowed' d x 0 1 k new (omega arith) changed lt go))

  pub prints_newline : (d : ℕ) → d < size → (k : Code) → scene.allowed (printing (codes "\n") world) h.words
      → PutsIn (printing (codes "\n") world) d k
      → On words (Environment 2 (Number 10) (Number 0) (test_word s) (test_word s) (Set d (Number 0) k))
  prints_newline d lt k allowed' go =
      environment_goes scene.program.setting scene.P scene.Q calm 10 0 10 0 (printing (codes "\n") world) refl refl
      (prints_line (length scene.program.setting.labels) world) (omega (arith, room)) (omega (arith, room))
      (set_unit (printing (codes "\n") world) allowed' d 10 0 0 k words (omega arith) (λ j side. refl) lt go)

  -- ---- reading

  -- a number is put into a word, in the world that has changed
  abbrev pub PutsNumberIn : WorldState → ℤ → ℕ → Code → Type 0
  PutsNumberIn world' a d k =
      (new : Locals) → new d ≡ Some (cast_unsigned w64 a) → Touches s d words new
      → Arrives scene (at world' h waiting size rests new k)

  -- the words after call 7, of which the second tells that there is no number
  abbrev called_back : ℕ → ℕ → Locals
  called_back x none = set_local (test_word s) none (set_local (operand_word s 0) x words)

  number_there : (x none : ℕ) → called_back x none (operand_word s 0) ≡ Some x
  number_there x none =
      word_other (test_word s) none (set_local (operand_word s 0) x words) (operand_word s 0)
      (λ e. let z : ⊥ = omega (arith, e) in z)
      ∙ word_here (operand_word s 0) x words

  pub reads_int : (a : ℤ) (d : ℕ) → next_number world ≡ Some a → d < size → (k : Code)
      → scene.allowed (past_run world) h.words → PutsNumberIn (past_run world) a d k → On words (read_number s d k)
  reads_int a d e lt k allowed' go =
      let x = cast_unsigned w64 a in
      let t = test_word s in
      let o = operand_word s 0 in
      let calm' = scene.calm (past_run world) h objects filled allowed' size waiting frames_fit in
      let new = called_back x 0 in
      environment_goes scene.program.setting scene.P scene.Q calm 0 0 x 0 (past_run world) refl refl
      (reads_next (length scene.program.setting.labels) world (Some a) e) (omega (arith, room)) (omega (arith, room))
      (if_false scene.program.setting scene.P scene.Q calm' 0 0 (word_here t 0 (set_local o x words)) refl refl
      (falls_through scene.program.setting scene.P scene.Q calm'
      (sets_word scene.program.setting scene.P scene.Q calm' x (number_there x 0) lt
      (go (set_local d x new) (word_here d x new)
      (λ j ne side. word_other d x new j ne
      ∙ (word_other t 0 (set_local o x words) j (not_computed s t j (omega arith) (omega arith) side)
      ∙ word_other o x words j (not_computed s o j (omega arith) (omega arith) side)))))))

  -- without a number it comes to the call that traps
  pub reads_none : (d : ℕ) → next_number world ≡ None → (k : Code) → scene.allowed (past_white world) h.words
      → Arrives scene (at (past_white world) h waiting size (Set d (Word (operand_word s 0)) k ∷ rests)
      (called_back 0 1) (Environment 4 (Number 4) (Number 0) (test_word s) (test_word s) Done))
      → On words (read_number s d k)
  reads_none d e k allowed' c =
      let t = test_word s in
      let o = operand_word s 0 in
      let calm' = scene.calm (past_white world) h objects filled allowed' size waiting frames_fit in
      environment_goes scene.program.setting scene.P scene.Q calm 0 0 0 1 (past_white world) refl refl
      (reads_next (length scene.program.setting.labels) world None e) (omega (arith, room)) (omega (arith, room))
      (if_true scene.program.setting scene.P scene.Q calm' 1 0 (word_here t 1 (set_local o 0 words)) refl refl c)

  -- ---- products, quotients and remainders, by the procedures that serve

  module _ (products : AnswerProducts scene.program.setting scene.program.run) (o p : Operand) (a b : ℤ)
      (ea : value locals group o ≡ RunInt a) (eb : value locals group p ≡ RunInt b)
      (bound : operands_bound s.captured count depth (o ∷ p ∷ []) ≡ true) (d : ℕ) (k : Code)
      (spare : product_price + 28 ≤ scene.Q.extra)
      (serves_fit : 25 + (frame_room size + waiting_room waiting) ≤ scene.room) where
    -- on the way of the procedures that serve
    serving : (new : Locals)
        → CalmServing scene.program.setting scene.P scene.Q (waiting_for d size rests new k ∷ waiting) world h
    serving new n few =
        scene.calm world h objects filled allowed n (waiting_for d size rests new k ∷ waiting)
        (serving_frame n few (frame_room size + waiting_room waiting) scene.room serves_fit)

    -- what comes behind may cost what is left to pay alone
    abbrev pub PutsPlain : FlatValue scene.program.meaning.Cast → Type 0
    PutsPlain v =
        (w : ℕ) (new : Locals) → Carries scene objects v w → new d ≡ Some w → Touches s d words new
        → Comes scene.program.setting scene.P (plain scene.Q) (at world h waiting size rests new k)

    pub multiplies : d < size → PutsPlain (RunInt (int_wrap w64 (a *ℤ b)))
        → On words (fetch_all s 0 (o ∷ p ∷ []) (Call d scene.program.run.multiply
        (found s (operand_word s 0) o ∷ found s (operand_word s 1) p ∷ []) k))
    multiplies lt go =
        ints_read o p a b ea eb bound (Call d scene.program.run.multiply
        (found s (operand_word s 0) o ∷ found s (operand_word s 1) p ∷ []) k)
        (λ new xa yb fa fb changed.
        let w = cast_unsigned w64 (int_wrap w64 (a *ℤ b)) in
        let q = products.products (at world h (waiting_for d size rests new k ∷ waiting) size rests new k)
        (cast_unsigned w64 a) (cast_unsigned w64 b) (word_small a fa) (word_small b fb) in
        answered_by scene.program.setting scene.P scene.Q calm 2 (cast_unsigned w64 a ∷ cast_unsigned w64 b ∷ [])
        products.multiply w q.0 product_price (serving new) (rw (xa, yb) refl) products.multiply_stands refl lt
        (subst (λ n. AnswersFor ending_of scene.program.setting
        (at world h (waiting_for d size rests new k ∷ waiting) size rests new k) products.multiply
        (cast_unsigned w64 a ∷ cast_unsigned w64 b ∷ []) n q.0 product_price) (product_made a b fa fb) q.1)
        spare
        (go w (set_local d w new) (refl, wraps_once (a *ℤ b)) (word_here d w new)
        (touched d 2 new w (omega arith) changed)))

    -- an answer of the procedure that divides, by which of its answers is asked for
    by_division : (which : ℕ) → which < 2 ^ 64 → (answer : ℤ → ℤ → ℤ)
        → ((t : LowState) (n m : ℕ) → n < 2 ^ 64 → m < 2 ^ 64 → (m == 0) ≡ false
        → (most : ℕ) × AnswersFor ending_of scene.program.setting t products.divide (n ∷ m ∷ which ∷ [])
        (cast_unsigned w64 (answer (cast_signed w64 n) (cast_signed w64 m))) most product_price)
        → (int_wrap w64 b ≡ b → int_wrap w64 (answer a b) ≡ answer a b) → int_eq b (pos 0) ≡ false → d < size
        → PutsPlain (RunInt (answer a b))
        → On words (fetch_all s 0 (o ∷ p ∷ []) (Call d scene.program.run.divide
        (found s (operand_word s 0) o ∷ found s (operand_word s 1) p ∷ Number which ∷ []) k))
    by_division which small answer answers wraps some lt go =
        ints_read o p a b ea eb bound (Call d scene.program.run.divide
        (found s (operand_word s 0) o ∷ found s (operand_word s 1) p ∷ Number which ∷ []) k)
        (λ new xa yb fa fb changed.
        let w = cast_unsigned w64 (answer a b) in
        let third : which % 2 ^ 64 ≡ which = mod-eq_of_lt small in
        let q = answers (at world h (waiting_for d size rests new k ∷ waiting) size rests new k)
        (cast_unsigned w64 a) (cast_unsigned w64 b) (word_small a fa) (word_small b fb) (some_divisor b fb some) in
        answered_by scene.program.setting scene.P scene.Q calm 3 (cast_unsigned w64 a ∷ cast_unsigned w64 b ∷ which ∷
        [])
        products.divide w q.0 product_price (serving new) (rw (xa, yb, third) refl) products.divide_stands refl lt
        (subst (λ n. AnswersFor ending_of scene.program.setting
        (at world h (waiting_for d size rests new k ∷ waiting) size rests new k) products.divide
        (cast_unsigned w64 a ∷ cast_unsigned w64 b ∷ which ∷ []) n q.0 product_price)
        (ap₂ (λ x y. cast_unsigned w64 (answer x y)) (word_read a fa) (word_read b fb)) q.1) spare
        (go w (set_local d w new) (refl, wraps fb) (word_here d w new) (touched d 2 new w (omega arith) changed)))

    pub divides : int_eq b (pos 0) ≡ false → d < size → PutsPlain (RunInt (int_wrapping_div w64 a b))
        → On words (fetch_all s 0 (o ∷ p ∷ []) (Call d scene.program.run.divide
        (found s (operand_word s 0) o ∷ found s (operand_word s 1) p ∷ Number 0 ∷ []) k))
    divides =
        by_division 0 (omega arith) (int_wrapping_div w64) products.quotients (λ fits. quotient_wraps a b)

    pub leaves : int_eq b (pos 0) ≡ false → d < size → PutsPlain (RunInt (int_rem a b))
        → On words (fetch_all s 0 (o ∷ p ∷ []) (Call d scene.program.run.divide
        (found s (operand_word s 0) o ∷ found s (operand_word s 1) p ∷ Number 1 ∷ []) k))
    leaves some =
        by_division 1 (omega arith) int_rem products.remainders (λ fits. remainder_wraps a b fits some) some

    -- a divisor 0 traps, where that is what the run is to come to
    pub traps : (which : ℕ) → which < 2 ^ 64 → int_eq b (pos 0) ≡ true
        → scene.Q.floor ≤ code_price scene.program.setting.procs size k + codes_price scene.program.setting.procs size
        rests
        → ((new : Locals) (t : LowState)
        → TrapsNext ending_of scene.program.setting ZeroDivisor
        (at world h (waiting_for d size rests new k ∷ waiting) size rests new k) t
        → scene.Q.holds (code_price scene.program.setting.procs size k + codes_price scene.program.setting.procs size
        rests) t)
        → On words (fetch_all s 0 (o ∷ p ∷ []) (Call d scene.program.run.divide
        (found s (operand_word s 0) o ∷ found s (operand_word s 1) p ∷ Number which ∷ []) k))
    traps which small none least go =
        ints_read o p a b ea eb bound (Call d scene.program.run.divide
        (found s (operand_word s 0) o ∷ found s (operand_word s 1) p ∷ Number which ∷ []) k)
        (λ new xa yb fa fb changed.
        let zeroth : word_of new (found s (operand_word s 1) p) ≡ Some 0 = yb ∙ ap Some (no_divisor b fb none) in
        let third : Some (which % 2 ^ 64) ≡ Some which = ap Some (mod-eq_of_lt small) in
        let q = products.zero_divisors (at world h (waiting_for d size rests new k ∷ waiting) size rests new k)
        (cast_unsigned w64 a) which in
        traps_by scene.program.setting scene.P scene.Q calm 3 (cast_unsigned w64 a ∷ 0 ∷ which ∷ []) products.divide
        ZeroDivisor
        q.0 product_price (serving new)
        (both_words (word_of new (found s (operand_word s 0) o))
        (words_of new (found s (operand_word s 1) p ∷ Number which ∷ [])) (cast_unsigned w64 a) (0 ∷ which ∷ []) xa
        (both_words (word_of new (found s (operand_word s 1) p)) (words_of new (Number which ∷ [])) 0 (which ∷ [])
        zeroth (ap (λ x. and_more x (Some [])) third))) products.divide_stands refl q.1 (less_spare spare) least
        (λ t r. go new t r))
      where
        less_spare : product_price + 28 ≤ scene.Q.extra → product_price ≤ scene.Q.extra
        less_spare le = omega (arith, le)
