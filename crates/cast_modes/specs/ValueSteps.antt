-- The steps that languages whose casts are rows make on values: casts, calls, parts of tuples and operators. A language
-- has frames of its own, of type F, and its own places E to go on from; its functions run what K says.
use Rattle.std.specs.Prelude.{ℕ, ℤ, pos, negsuc, ◌+◌, ◌+ℤ◌, ◌-ℤ◌, ◌*ℤ◌, Bool, true, false, not, if◌then◌else◌, int_lt}
use Rattle.std.specs.Prelude.{int_le, int_rem, List, [], ◌∷◌, ◌++◌, length, replicate, codes, Option, option_map, Some}
use Rattle.std.specs.Prelude.{None, slice_get, slice_set}
use Rattle.std.specs.Ordering.{int_eq}
use Rattle.std.specs.Int.{int_wrap, int_wrapping_div, w64}
use Rattle.std.specs.Fmt.{signed_decimal}
use Rattle.grift_base.specs.World.{WorldState, printing}
use Rattle.grift_base.specs.Reading.{next_number, past_white, past_run}
use Rattle.grift_base.specs.declared.operators.PrimOp.{PrimOp}
use Rattle.grift_base.specs.declared.operators.PrimOp.TheVariants.{Add, Sub, Mul, Quot, Rem, Lt, Le, Eq, Ge, Gt, Not}
use Rattle.grift_base.specs.declared.operators.PrimOp.TheVariants.{PrintInt, Newline, ReadInt, MakeBox, Unbox, BoxSet}
use Rattle.grift_base.specs.declared.operators.PrimOp.TheVariants.{MakeVector, VectorRef, VectorSet, VectorLength}
use Rattle.grift_base.specs.declared.verdicts.Trap.{Trap}
use Rattle.grift_base.specs.declared.verdicts.Trap.TheVariants.{ZeroDivisor, Index, Length, Input}
use Rattle.cast_modes.specs.Modes.{Decision, Keeping, Wrapping, Rewrapping, Unwrapping, Injecting, Opening, Making}
use Rattle.cast_modes.specs.Modes.{Blaming, DynPart, PartCast, NoPart, NoType, Mode}
use Rattle.cast_modes.specs.RunValues.{RunValue, RunValues, RunInt, RunBool, RunUnit, RunFun, RunTuple, RunLoc}
use Rattle.cast_modes.specs.RunValues.{RunWrap, RunInject, RunStore, Pending, plain, row_list, shape_of}
use Rattle.cast_modes.specs.RunValues.{run_cell_behind}

-- what waits for a value
pub data Frame (C K F : Type 0) : Type 0 where
  -- a cast of it
  CastFrame : C → Frame C K F
  -- a part of it
  ProjFrame : ℤ → Frame C K F
  -- an operator, of which it is the last operand; those before it, the last one first
  PrimFrame : PrimOp → List (RunValue C K) → Frame C K F
  -- a function that is entered, the arguments before it, the last one first, and those that follow
  EnterFrame : RunValue C K → List (RunValue C K) → List (Pending C K) → Frame C K F
  -- a frame of the language's own
  OwnFrame : F → Frame C K F

-- where a run goes on
pub data Focus (C K E : Type 0) : Type 0 where
  -- at a place of the language's own
  Own : E → Focus C K E
  -- with a value for what waits
  Return : RunValue C K → Focus C K E
  -- with a call: the function, the arguments so far, the last one first, and those that follow
  Entering : RunValue C K → List (RunValue C K) → List (Pending C K) → Focus C K E

-- what a step comes to
pub data After (C K F E : Type 0) : Type 0 where
  -- it goes on here, with these frames, this store and this world
  On : Focus C K E → List (Frame C K F) → RunStore C K → WorldState → After C K F E
  -- a label is blamed
  BlameOf : ℕ → After C K F E
  -- an operation has no answer; the world may have changed
  TrapOf : Trap → WorldState → After C K F E
  -- there is no next step
  NoNext : After C K F E

-- goes on with what must be there
abbrev pub on_some : {C K F E A : Type 0} → Option A → (A → After C K F E) → After C K F E
on_some (Some a) go = go a
on_some None go = NoNext

-- the element at a place
abbrev pub element_at : {A : Type 0} → List A → ℤ → Option A
element_at elements (pos i) = slice_get elements i
element_at elements (negsuc i) = None

-- in front of the rest, the ones so far, of which the last comes first
abbrev pub onto : {A : Type 0} → List A → List A → List A
onto [] rest = rest
onto (a ∷ done) rest = onto done (a ∷ rest)

-- the same for arguments, which have no casts any more
abbrev pub pendings_onto : {C K : Type 0} → List (RunValue C K) → List (Pending C K) → List (Pending C K)
pendings_onto [] rest = rest
pendings_onto (v ∷ done) rest = pendings_onto done (plain v ∷ rest)

-- casts that wait, the first one first
abbrev pub casts_onto : {C K F : Type 0} → List C → List (Frame C K F) → List (Frame C K F)
casts_onto [] k = k
casts_onto (cast ∷ casts) k = CastFrame cast ∷ casts_onto casts k

-- each argument with one cast more; none where the numbers differ
abbrev pub cast_all : {C K : Type 0} → List (Pending C K) → List C → Option (List (Pending C K))
cast_all [] [] = Some []
cast_all (p ∷ rest) (cast ∷ casts) =
    option_map (λ l. record { value = p.value; casts = p.casts ++ cast ∷ [] } ∷ l) (cast_all rest casts)
cast_all _ _ = None

-- in a mode, over the number of parameters of what a function runs, and over where it goes on with its captured values
-- and its arguments; none where their number is not that of its parameters
module _ {C K F E : Type 0} (mode : Mode C) (arity : K → ℕ)
    (entered : K → RunValues C K → List (RunValue C K) → Option E) (store : RunStore C K)
    (world : WorldState) where
  abbrev pub goes : Focus C K E → List (Frame C K F) → After C K F E
  goes focus k = On focus k store world

  abbrev pub gives : RunValue C K → List (Frame C K F) → After C K F E
  gives v k = On (Return v) k store world

  -- ---- casts

  -- what a decision on a cast makes of a value
  abbrev pub make : Decision C → RunValue C K → List (Frame C K F) → After C K F E
  make Keeping v k = gives v k
  make (Wrapping cast) v k = gives (RunWrap v cast) k
  make (Rewrapping cast) (RunWrap v old) k = gives (RunWrap v cast) k
  make Unwrapping (RunWrap v old) k = gives v k
  make (Injecting kept) v k = gives (RunInject v kept) k
  make (Opening cast) (RunInject v kept) k = goes (Return v) (CastFrame cast ∷ k)
  make (Making cast next) v k = goes (Return v) (CastFrame cast ∷ CastFrame next ∷ k)
  make (Blaming label) v k = BlameOf label
  make _ v k = NoNext

  -- a cast of a value
  abbrev pub run_cast : RunValue C K → C → List (Frame C K F) → After C K F E
  run_cast v cast k = make (mode.cast cast (shape_of arity v)) v k

  -- ---- calls

  -- the function's own code
  abbrev pub apply : RunValue C K → List (RunValue C K) → List (Frame C K F) → After C K F E
  apply (RunFun code captured) values k =
      on_some (entered code captured values) (λ place. goes (Own place) k)
  apply _ values k = NoNext

  -- a function inside a wrapper, with one cast more for each argument and one for the result
  abbrev pub run_enter_wrapped : RunValue C K → List C × C → List (Pending C K) → List (Frame C K F) → After C K F E
  run_enter_wrapped f casts arguments k =
      on_some (cast_all arguments casts.0) (λ pendings. goes (Entering f [] pendings) (CastFrame casts.1 ∷ k))

  -- the next argument: it is a value, or casts of it are to be made
  abbrev pub next_argument : RunValue C K → List (RunValue C K) → RunValue C K → List C → List (Pending C K)
      → List (Frame C K F) → After C K F E
  next_argument f done v [] todo k = goes (Entering f (v ∷ done) todo) k
  next_argument f done v (cast ∷ casts) todo k =
      goes (Return v) (CastFrame cast ∷ casts_onto casts (EnterFrame f done todo ∷ k))

  -- a function that is no wrapper: its arguments in order, and then its body
  abbrev pub enter_plain : RunValue C K → List (RunValue C K) → List (Pending C K) → List (Frame C K F)
      → After C K F E
  enter_plain f done [] k = apply f (onto done []) k
  enter_plain f done (p ∷ todo) k = next_argument f done p.value p.casts todo k

  -- a wrapper is entered at once, its arguments as they are
  abbrev pub enter : RunValue C K → List (RunValue C K) → List (Pending C K) → List (Frame C K F) → After C K F E
  enter (RunWrap f cast) done todo k =
      on_some (mode.calling cast) (λ casts. run_enter_wrapped f casts (pendings_onto done todo) k)
  enter f done todo k = enter_plain f done todo k

  -- ---- parts of tuples

  -- a part of a tuple, through its wrappers
  abbrev pub run_proj : RunValue C K → ℤ → List (Frame C K F) → After C K F E
  run_proj (RunTuple values) i k = on_some (element_at (row_list values) i) (λ v. gives v k)
  run_proj (RunWrap v cast) i k =
      on_some (mode.projecting cast i) (λ part. goes (Return v) (ProjFrame i ∷ CastFrame part ∷ k))
  run_proj _ i k = NoNext

  abbrev pub blame_or_proj : DynPart C → RunValue C K → ℤ → ℕ → List (Frame C K F) → After C K F E
  blame_or_proj (PartCast part) v i label k = goes (Return v) (ProjFrame i ∷ CastFrame part ∷ k)
  blame_or_proj NoPart v i label k = BlameOf label
  blame_or_proj NoType v i label k = NoNext

  -- a part of what is in Dyn, in a cast to Dyn
  abbrev pub run_proj_dyn : RunValue C K → ℤ → ℕ → List (Frame C K F) → After C K F E
  run_proj_dyn (RunInject v kept) i label k = blame_or_proj (mode.dyn_part kept i label) v i label k
  run_proj_dyn _ i label k = NoNext

  -- ---- operators: integers, truth values, printing and input

  abbrev pub run_on_int : (ℤ → After C K F E) → List (RunValue C K) → After C K F E
  run_on_int go (RunInt a ∷ []) = go a
  run_on_int go _ = NoNext

  abbrev pub run_on_ints : (ℤ → ℤ → After C K F E) → List (RunValue C K) → After C K F E
  run_on_ints go (RunInt a ∷ rest) = run_on_int (go a) rest
  run_on_ints go _ = NoNext

  abbrev pub run_on_bool : (Bool → After C K F E) → List (RunValue C K) → After C K F E
  run_on_bool go (RunBool b ∷ []) = go b
  run_on_bool go _ = NoNext

  -- a number of 64 bits; what is past them is cut off
  abbrev pub run_computes : (ℤ → ℤ → ℤ) → List (RunValue C K) → List (Frame C K F) → After C K F E
  run_computes f values k = run_on_ints (λ a b. gives (RunInt (int_wrap w64 (f a b))) k) values

  abbrev pub run_divides : (ℤ → ℤ → ℤ) → List (RunValue C K) → List (Frame C K F) → After C K F E
  run_divides f values k =
      run_on_ints (λ a b. if int_eq b (pos 0) then TrapOf ZeroDivisor world else gives (RunInt (f a b)) k) values

  abbrev pub run_compares : (ℤ → ℤ → Bool) → List (RunValue C K) → List (Frame C K F) → After C K F E
  run_compares test values k = run_on_ints (λ a b. gives (RunBool (test a b)) k) values

  abbrev pub run_prints : List ℕ → List (Frame C K F) → After C K F E
  run_prints bytes k = On (Return RunUnit) k store (printing bytes world)

  abbrev pub run_newline : List (RunValue C K) → List (Frame C K F) → After C K F E
  run_newline [] k = run_prints (codes "\n") k
  run_newline _ k = NoNext

  abbrev pub run_reads : Option ℤ → List (Frame C K F) → After C K F E
  run_reads (Some n) k = On (Return (RunInt n)) k store (past_run world)
  run_reads None k = TrapOf Input (past_white world)

  abbrev pub run_read : List (RunValue C K) → List (Frame C K F) → After C K F E
  run_read [] k = run_reads (next_number world) k
  run_read _ k = NoNext

  -- ---- operators: boxes and vectors

  abbrev pub run_new_cell : List (RunValue C K) → Bool → List (Frame C K F) → After C K F E
  run_new_cell cell is_vector k = On (Return (RunLoc (length store) is_vector)) k (store ++ cell ∷ []) world

  abbrev pub run_writes_cell : ℕ → List (RunValue C K) → List (Frame C K F) → After C K F E
  run_writes_cell place cell k = On (Return RunUnit) k (slice_set store place cell) world

  abbrev pub element_or_trap : Option (RunValue C K) → ℕ → (ℕ → RunValue C K → After C K F E) → After C K F E
  element_or_trap (Some v) place go = go place v
  element_or_trap None place go = TrapOf Index world

  -- goes on with a place of the cell and the value there; an index outside the cell traps
  abbrev pub run_with_element : List (RunValue C K) → ℤ → (ℕ → RunValue C K → After C K F E) → After C K F E
  run_with_element cell (pos place) go = element_or_trap (slice_get cell place) place go
  run_with_element cell (negsuc n) go = TrapOf Index world

  abbrev pub run_make_box : List (RunValue C K) → List (Frame C K F) → After C K F E
  run_make_box (v ∷ []) k = run_new_cell (v ∷ []) false k
  run_make_box _ k = NoNext

  abbrev pub run_unbox_cell : List (RunValue C K) → List (Frame C K F) → After C K F E
  run_unbox_cell (v ∷ []) k = gives v k
  run_unbox_cell _ k = NoNext

  abbrev pub run_unbox : List (RunValue C K) → List (Frame C K F) → After C K F E
  run_unbox (RunLoc cell false ∷ []) k = on_some (slice_get store cell) (λ values. run_unbox_cell values k)
  run_unbox (RunWrap v cast ∷ []) k =
      on_some (mode.reading cast) (λ part. goes (Return v) (PrimFrame Unbox [] ∷ CastFrame part ∷ k))
  run_unbox _ k = NoNext

  abbrev pub run_box_set : List (RunValue C K) → List (Frame C K F) → After C K F E
  run_box_set (RunLoc cell false ∷ v ∷ []) k =
      on_some (slice_get store cell) (λ old. run_writes_cell cell (v ∷ []) k)
  run_box_set (RunWrap box cast ∷ v ∷ []) k =
      on_some (mode.writing cast) (λ part. goes (Return v) (CastFrame part ∷ PrimFrame BoxSet (box ∷ []) ∷ k))
  run_box_set _ k = NoNext

  abbrev pub run_make_vector : List (RunValue C K) → List (Frame C K F) → After C K F E
  run_make_vector (RunInt (pos n) ∷ v ∷ []) k = run_new_cell (replicate n v) true k
  run_make_vector (RunInt (negsuc n) ∷ v ∷ []) k = TrapOf Length world
  run_make_vector _ k = NoNext

  abbrev pub run_vector_ref : List (RunValue C K) → List (Frame C K F) → After C K F E
  run_vector_ref (RunLoc cell true ∷ RunInt i ∷ []) k =
      on_some (slice_get store cell) (λ elements. run_with_element elements i (λ place v. gives v k))
  run_vector_ref (RunWrap vector cast ∷ index ∷ []) k =
      on_some (mode.reading cast) (λ part.
      goes (Return index) (PrimFrame VectorRef (vector ∷ []) ∷ CastFrame part ∷ k))
  run_vector_ref _ k = NoNext

  -- an index outside the cell traps before the written value is cast
  abbrev pub run_vector_set : List (RunValue C K) → List (Frame C K F) → After C K F E
  run_vector_set (RunLoc cell true ∷ RunInt i ∷ v ∷ []) k =
      on_some (slice_get store cell) (λ elements. run_with_element elements i (λ place old.
      run_writes_cell cell (slice_set elements place v) k))
  run_vector_set (RunWrap vector cast ∷ RunInt i ∷ v ∷ []) k =
      on_some (run_cell_behind vector store) (λ elements. run_with_element elements i (λ place old.
      on_some (mode.writing cast) (λ part.
      goes (Return v) (CastFrame part ∷ PrimFrame VectorSet (RunInt i ∷ vector ∷ []) ∷ k))))
  run_vector_set _ k = NoNext

  abbrev pub run_vector_length : List (RunValue C K) → List (Frame C K F) → After C K F E
  run_vector_length (RunLoc cell true ∷ []) k =
      on_some (slice_get store cell) (λ elements. gives (RunInt (pos (length elements))) k)
  run_vector_length (RunWrap vector cast ∷ []) k = goes (Return vector) (PrimFrame VectorLength [] ∷ k)
  run_vector_length _ k = NoNext

  -- an operator on values
  abbrev pub operate : PrimOp → List (RunValue C K) → List (Frame C K F) → After C K F E
  operate Add values k = run_computes (λ a b. a +ℤ b) values k
  operate Sub values k = run_computes (λ a b. a -ℤ b) values k
  operate Mul values k = run_computes (λ a b. a *ℤ b) values k
  operate Quot values k = run_divides (int_wrapping_div w64) values k
  operate Rem values k = run_divides int_rem values k
  operate Lt values k = run_compares int_lt values k
  operate Le values k = run_compares int_le values k
  operate Eq values k = run_compares int_eq values k
  operate Ge values k = run_compares (λ a b. int_le b a) values k
  operate Gt values k = run_compares (λ a b. int_lt b a) values k
  operate Not values k = run_on_bool (λ b. gives (RunBool (not b)) k) values
  operate PrintInt values k = run_on_int (λ a. run_prints (signed_decimal a) k) values
  operate Newline values k = run_newline values k
  operate ReadInt values k = run_read values k
  operate MakeBox values k = run_make_box values k
  operate Unbox values k = run_unbox values k
  operate BoxSet values k = run_box_set values k
  operate MakeVector values k = run_make_vector values k
  operate VectorRef values k = run_vector_ref values k
  operate VectorSet values k = run_vector_set values k
  operate VectorLength values k = run_vector_length values k

-- ---- words asked for: the words of the objects that such a step makes

-- a proxy and a value in Dyn are a header and two words
abbrev pub decision_words : {C : Type 0} → Decision C → ℕ
decision_words (Wrapping cast) = 3
decision_words (Rewrapping cast) = 3
decision_words (Injecting kept) = 3
decision_words _ = 0

-- a box is a header and one word, and a vector a header and a word for each element
abbrev pub operator_words : {C K : Type 0} → PrimOp → List (RunValue C K) → ℕ
operator_words MakeBox (v ∷ []) = 2
operator_words MakeVector (RunInt (pos n) ∷ v ∷ []) = 1 + n
operator_words _ values = 0

-- ---- wrap steps

-- 1 for a decision that wraps a value in one wrapper more
abbrev pub decision_wraps : {C : Type 0} → Decision C → ℕ
decision_wraps (Wrapping cast) = 1
decision_wraps _ = 0
