-- No turn of numbered procedures takes output back.
use Rattle.std.proofs.Common.{ℕ, ℤ, pos, negsuc, Bool, true, false, List, [], ◌∷◌, Option, Some, None, refl}
use Rattle.std.proofs.Common.{if◌then◌else◌, slice_get}
use Rattle.std.specs.Prelude.{codes}
use Rattle.std.specs.Ordering.{int_eq}
use Rattle.std.specs.Fmt.{signed_decimal}
use Rattle.run_laws.specs.Runs.{IsPrefix, OutputGrows}
use Rattle.run_laws.proofs.Public.{prefix_refl, output_only_grows-reductions}
use Rattle.grift_base.specs.Reading.{next_number}
use Rattle.grift_base.specs.World.{WorldState}
use Rattle.grift_base.specs.declared.operators.PrimOp.{PrimOp}
use Rattle.grift_base.specs.declared.operators.PrimOp.TheVariants.{Add, Sub, Mul, Quot, Rem, Lt, Le, Eq, Ge, Gt, Not}
use Rattle.grift_base.specs.declared.operators.PrimOp.TheVariants.{PrintInt, Newline, ReadInt, MakeBox, Unbox, BoxSet}
use Rattle.grift_base.specs.declared.operators.PrimOp.TheVariants.{MakeVector, VectorRef, VectorSet, VectorLength}
use Rattle.core_calc.specs.Account.{StepKind}
use Rattle.cast_modes.specs.AnswerTypes.{Told}
use Rattle.cast_modes.specs.Modes.{Decision, Keeping, Wrapping, Rewrapping, Unwrapping, Injecting, Opening, Making}
use Rattle.cast_modes.specs.Modes.{Blaming, DynPart, PartCast, NoPart, NoType, Mode}
use Rattle.cast_modes.specs.RunValues.{RunValue, RunValues, RunInt, RunBool, RunFun, RunTuple, RunLoc}
use Rattle.cast_modes.specs.RunValues.{RunWrap, RunInject, RunStore, Pending, row_list, shape_of}
use Rattle.cast_modes.specs.RunValues.{run_cell_behind}
use Rattle.cast_modes.specs.ValueSteps.{Frame, CastFrame, ProjFrame, PrimFrame, EnterFrame, OwnFrame, Own}
use Rattle.cast_modes.specs.ValueSteps.{Return, Entering, After, On, BlameOf, TrapOf, NoNext, on_some, onto}
use Rattle.cast_modes.specs.ValueSteps.{element_at, pendings_onto, cast_all, make, run_cast, apply, next_argument}
use Rattle.cast_modes.specs.ValueSteps.{enter_plain, enter, run_proj, blame_or_proj, run_proj_dyn}
use Rattle.cast_modes.specs.ValueSteps.{run_on_int, run_on_ints, run_on_bool}
use Rattle.cast_modes.specs.ValueSteps.{run_newline, run_reads, run_read, element_or_trap, run_with_element}
use Rattle.cast_modes.specs.ValueSteps.{run_make_box, run_unbox_cell, run_unbox, run_box_set, run_make_vector}
use Rattle.cast_modes.specs.ValueSteps.{run_vector_ref, run_vector_set, run_vector_length, operate}
use Rattle.flat_ir.specs.declared.code.Operation.{Operation}
use Rattle.flat_ir.specs.declared.code.Operation.TheVariants.{Move, Prim, Cast, Tuple, Proj, ProjDyn}
use Rattle.flat_ir.specs.Bodies.{Body, Give, Call, Choose, LetBody, LetGroup, Proc}
use Rattle.flat_ir.specs.FlatTally.{flat_tally_in, flat_tallying, flat_untallied}
use Rattle.cast_modes.specs.Prices.{Prices}
use Rattle.flat_ir.specs.Machine.{FlatValue, FlatFrame, FlatFocus, FlatAfter, FlatStore, FlatState, Inside, Waiting}
use Rattle.flat_ir.specs.Machine.{Locals, Group, value, values, flat_arity, flat_entered, perform, flat_choose}
use Rattle.flat_ir.specs.Machine.{flat_body, flat_back, flat_turn, after_flat, flat_start}

-- where it goes on or traps, what was printed stands first in the output
abbrev Keeps : {C K F E : Type 0} → List ℕ → After C K F E → Type 0
Keeps printed (On focus k store world) = IsPrefix printed world.output
Keeps printed (BlameOf label) = Unit {0}
Keeps printed (TrapOf trap world) = IsPrefix printed world.output
Keeps printed NoNext = Unit {0}

-- the output stays as it is
same : (world : WorldState) → IsPrefix world.output world.output
same world = prefix_refl world.output world.output refl

-- ---- steps on values

module _ {C K F E : Type 0} (mode : Mode C) (arity : K → ℕ)
    (entered : K → RunValues C K → List (RunValue C K) → Option E) (store : RunStore C K) (world : WorldState) where
  keeps_some : {A : Type 0} (o : Option A) (go : A → After C K F E) → ((a : A) → Keeps world.output (go a))
      → Keeps world.output (on_some o go)
  keeps_some (Some a) go h = h a
  keeps_some None go h = tt

  keeps_if : (b : Bool) (one other : After C K F E) → Keeps world.output one → Keeps world.output other
      → Keeps world.output (if b then one else other)
  keeps_if true one other h k = h
  keeps_if false one other h k = k

  keeps_make : (d : Decision C) (v : RunValue C K) (k : List (Frame C K F))
      → Keeps world.output (make mode arity entered store world d v k)
  keeps_make Keeping v k = same world
  keeps_make (Wrapping cast) v k = same world
  keeps_make (Rewrapping cast) (RunWrap v old) k = same world
  keeps_make Unwrapping (RunWrap v old) k = same world
  keeps_make (Injecting kept) v k = same world
  keeps_make (Opening cast) (RunInject v kept) k = same world
  keeps_make (Making cast next) v k = same world
  keeps_make (Blaming label) v k = tt
  keeps_make _ v k = tt

  keeps_apply : (f : RunValue C K) (vs : List (RunValue C K)) (k : List (Frame C K F))
      → Keeps world.output (apply mode arity entered store world f vs k)
  keeps_apply (RunFun code captured) vs k = keeps_some (entered code captured vs) _ (λ place. same world)
  keeps_apply _ vs k = tt

  keeps_next : (f : RunValue C K) (done : List (RunValue C K)) (v : RunValue C K) (casts : List C)
      (todo : List (Pending C K)) (k : List (Frame C K F))
      → Keeps world.output (next_argument mode arity entered store world f done v casts todo k)
  keeps_next f done v [] todo k = same world
  keeps_next f done v (cast ∷ casts) todo k = same world

  keeps_plain : (f : RunValue C K) (done : List (RunValue C K)) (todo : List (Pending C K)) (k : List (Frame C K F))
      → Keeps world.output (enter_plain mode arity entered store world f done todo k)
  keeps_plain f done [] k = keeps_apply f (onto done []) k
  keeps_plain f done (p ∷ todo) k = keeps_next f done p.value p.casts todo k

  keeps_enter : (f : RunValue C K) (done : List (RunValue C K)) (todo : List (Pending C K)) (k : List (Frame C K F))
      → Keeps world.output (enter mode arity entered store world f done todo k)
  keeps_enter (RunWrap f cast) done todo k =
      keeps_some (mode.calling cast) _ (λ casts.
      keeps_some (cast_all (pendings_onto done todo) casts.0) _ (λ ps. same world))
  keeps_enter f done todo k = keeps_plain f done todo k

  keeps_proj : (v : RunValue C K) (i : ℤ) (k : List (Frame C K F))
      → Keeps world.output (run_proj mode arity entered store world v i k)
  keeps_proj (RunTuple vs) i k = keeps_some (element_at (row_list vs) i) _ (λ v. same world)
  keeps_proj (RunWrap v cast) i k = keeps_some (mode.projecting cast i) _ (λ part. same world)
  keeps_proj _ i k = tt

  keeps_blame_or_proj : (part : DynPart C) (v : RunValue C K) (i : ℤ) (label : ℕ) (k : List (Frame C K F))
      → Keeps world.output (blame_or_proj mode arity entered store world part v i label k)
  keeps_blame_or_proj (PartCast part) v i label k = same world
  keeps_blame_or_proj NoPart v i label k = tt
  keeps_blame_or_proj NoType v i label k = tt

  keeps_proj_dyn : (v : RunValue C K) (i : ℤ) (label : ℕ) (k : List (Frame C K F))
      → Keeps world.output (run_proj_dyn mode arity entered store world v i label k)
  keeps_proj_dyn (RunInject v kept) i label k = keeps_blame_or_proj (mode.dyn_part kept i label) v i label k
  keeps_proj_dyn _ i label k = tt

  -- ---- operators

  keeps_int : (go : ℤ → After C K F E) (vs : List (RunValue C K)) → ((a : ℤ) → Keeps world.output (go a))
      → Keeps world.output (run_on_int mode arity entered store world go vs)
  keeps_int go (RunInt a ∷ []) h = h a
  keeps_int go _ h = tt

  keeps_ints : (go : ℤ → ℤ → After C K F E) (vs : List (RunValue C K)) → ((a b : ℤ) → Keeps world.output (go a b))
      → Keeps world.output (run_on_ints mode arity entered store world go vs)
  keeps_ints go (RunInt a ∷ rest) h = keeps_int (go a) rest (h a)
  keeps_ints go _ h = tt

  keeps_bool : (go : Bool → After C K F E) (vs : List (RunValue C K)) → ((b : Bool) → Keeps world.output (go b))
      → Keeps world.output (run_on_bool mode arity entered store world go vs)
  keeps_bool go (RunBool b ∷ []) h = h b
  keeps_bool go _ h = tt

  keeps_newline : (vs : List (RunValue C K)) (k : List (Frame C K F))
      → Keeps world.output (run_newline mode arity entered store world vs k)
  keeps_newline [] k = (codes "\n", refl)
  keeps_newline _ k = tt

  keeps_reads : (o : Option ℤ) (k : List (Frame C K F))
      → Keeps world.output (run_reads mode arity entered store world o k)
  keeps_reads (Some n) k = same world
  keeps_reads None k = same world

  keeps_read : (vs : List (RunValue C K)) (k : List (Frame C K F))
      → Keeps world.output (run_read mode arity entered store world vs k)
  keeps_read [] k = keeps_reads (next_number world) k
  keeps_read _ k = tt

  keeps_element : (o : Option (RunValue C K)) (place : ℕ) (go : ℕ → RunValue C K → After C K F E)
      → ((place : ℕ) (v : RunValue C K) → Keeps world.output (go place v))
      → Keeps world.output (element_or_trap mode arity entered store world o place go)
  keeps_element (Some v) place go h = h place v
  keeps_element None place go h = same world

  keeps_with_element : (cell : List (RunValue C K)) (i : ℤ) (go : ℕ → RunValue C K → After C K F E)
      → ((place : ℕ) (v : RunValue C K) → Keeps world.output (go place v))
      → Keeps world.output (run_with_element mode arity entered store world cell i go)
  keeps_with_element cell (pos place) go h = keeps_element (slice_get cell place) place go h
  keeps_with_element cell (negsuc n) go h = same world

  keeps_make_box : (vs : List (RunValue C K)) (k : List (Frame C K F))
      → Keeps world.output (run_make_box mode arity entered store world vs k)
  keeps_make_box (v ∷ []) k = same world
  keeps_make_box _ k = tt

  keeps_unbox_cell : (vs : List (RunValue C K)) (k : List (Frame C K F))
      → Keeps world.output (run_unbox_cell mode arity entered store world vs k)
  keeps_unbox_cell (v ∷ []) k = same world
  keeps_unbox_cell _ k = tt

  keeps_unbox : (vs : List (RunValue C K)) (k : List (Frame C K F))
      → Keeps world.output (run_unbox mode arity entered store world vs k)
  keeps_unbox (RunLoc cell false ∷ []) k = keeps_some (slice_get store cell) _ (λ vs. keeps_unbox_cell vs k)
  keeps_unbox (RunWrap v cast ∷ []) k = keeps_some (mode.reading cast) _ (λ part. same world)
  keeps_unbox _ k = tt

  keeps_box_set : (vs : List (RunValue C K)) (k : List (Frame C K F))
      → Keeps world.output (run_box_set mode arity entered store world vs k)
  keeps_box_set (RunLoc cell false ∷ v ∷ []) k = keeps_some (slice_get store cell) _ (λ old. same world)
  keeps_box_set (RunWrap box cast ∷ v ∷ []) k = keeps_some (mode.writing cast) _ (λ part. same world)
  keeps_box_set _ k = tt

  keeps_make_vector : (vs : List (RunValue C K)) (k : List (Frame C K F))
      → Keeps world.output (run_make_vector mode arity entered store world vs k)
  keeps_make_vector (RunInt (pos n) ∷ v ∷ []) k = same world
  keeps_make_vector (RunInt (negsuc n) ∷ v ∷ []) k = same world
  keeps_make_vector _ k = tt

  keeps_vector_ref : (vs : List (RunValue C K)) (k : List (Frame C K F))
      → Keeps world.output (run_vector_ref mode arity entered store world vs k)
  keeps_vector_ref (RunLoc cell true ∷ RunInt i ∷ []) k =
      keeps_some (slice_get store cell) _ (λ vs. keeps_with_element vs i _ (λ place v. same world))
  keeps_vector_ref (RunWrap vector cast ∷ index ∷ []) k = keeps_some (mode.reading cast) _ (λ part. same world)
  keeps_vector_ref _ k = tt

  keeps_vector_set : (vs : List (RunValue C K)) (k : List (Frame C K F))
      → Keeps world.output (run_vector_set mode arity entered store world vs k)
  keeps_vector_set (RunLoc cell true ∷ RunInt i ∷ v ∷ []) k =
      keeps_some (slice_get store cell) _ (λ vs. keeps_with_element vs i _ (λ place old. same world))
  keeps_vector_set (RunWrap vector cast ∷ RunInt i ∷ v ∷ []) k =
      keeps_some (run_cell_behind vector store) _ (λ vs. keeps_with_element vs i _ (λ place old.
      keeps_some (mode.writing cast) _ (λ part. same world)))
  keeps_vector_set _ k = tt

  keeps_vector_length : (vs : List (RunValue C K)) (k : List (Frame C K F))
      → Keeps world.output (run_vector_length mode arity entered store world vs k)
  keeps_vector_length (RunLoc cell true ∷ []) k = keeps_some (slice_get store cell) _ (λ vs. same world)
  keeps_vector_length (RunWrap vector cast ∷ []) k = same world
  keeps_vector_length _ k = tt

  keeps_operate : (operator : PrimOp) (vs : List (RunValue C K)) (k : List (Frame C K F))
      → Keeps world.output (operate mode arity entered store world operator vs k)
  keeps_operate Add vs k = keeps_ints _ vs (λ a b. same world)
  keeps_operate Sub vs k = keeps_ints _ vs (λ a b. same world)
  keeps_operate Mul vs k = keeps_ints _ vs (λ a b. same world)
  keeps_operate Quot vs k = keeps_ints _ vs (λ a b. keeps_if (int_eq b (pos 0)) _ _ (same world) (same world))
  keeps_operate Rem vs k = keeps_ints _ vs (λ a b. keeps_if (int_eq b (pos 0)) _ _ (same world) (same world))
  keeps_operate Lt vs k = keeps_ints _ vs (λ a b. same world)
  keeps_operate Le vs k = keeps_ints _ vs (λ a b. same world)
  keeps_operate Eq vs k = keeps_ints _ vs (λ a b. same world)
  keeps_operate Ge vs k = keeps_ints _ vs (λ a b. same world)
  keeps_operate Gt vs k = keeps_ints _ vs (λ a b. same world)
  keeps_operate Not vs k = keeps_bool _ vs (λ b. same world)
  keeps_operate PrintInt vs k = keeps_int _ vs (λ a. (signed_decimal a, refl))
  keeps_operate Newline vs k = keeps_newline vs k
  keeps_operate ReadInt vs k = keeps_read vs k
  keeps_operate MakeBox vs k = keeps_make_box vs k
  keeps_operate Unbox vs k = keeps_unbox vs k
  keeps_operate BoxSet vs k = keeps_box_set vs k
  keeps_operate MakeVector vs k = keeps_make_vector vs k
  keeps_operate VectorRef vs k = keeps_vector_ref vs k
  keeps_operate VectorSet vs k = keeps_vector_set vs k
  keeps_operate VectorLength vs k = keeps_vector_length vs k

-- ---- turns

module _ {C : Type 0} (procs : List Proc) (mode : Mode C) (store : FlatStore C) (world : WorldState) where
  casts_add : (v : FlatValue C) (cast : C) (k : List (FlatFrame C))
      → Keeps world.output (run_cast mode (flat_arity procs) (flat_entered procs) store world v cast k)
  casts_add v cast k =
      keeps_make mode (flat_arity procs) (flat_entered procs) store world
      (mode.cast cast (shape_of (flat_arity procs) v)) v k

  cast_adds : (o : Option C) (v : FlatValue C) (k : List (FlatFrame C))
      → Keeps world.output
      (on_some o (λ cast. run_cast mode (flat_arity procs) (flat_entered procs) store world v cast k))
  cast_adds (Some cast) v k = casts_add v cast k
  cast_adds None v k = tt

  performs : (operation : Operation) (l : Locals C) (g : Group C) (k : List (FlatFrame C))
      → Keeps world.output (perform procs mode store world operation l g k)
  performs (Move o) l g k = same world
  performs (Prim operator os) l g k =
      keeps_operate mode (flat_arity procs) (flat_entered procs) store world operator (values l g os) k
  performs (Cast o number) l g k = cast_adds (mode.row number) (value l g o) k
  performs (Tuple os) l g k = same world
  performs (Proj o i) l g k = keeps_proj mode (flat_arity procs) (flat_entered procs) store world (value l g o) i k
  performs (ProjDyn o i label) l g k =
      keeps_proj_dyn mode (flat_arity procs) (flat_entered procs) store world (value l g o) i label.0 k

  chooses : (v : FlatValue C) (a b : Body) (l : Locals C) (g : Group C) (k : List (FlatFrame C))
      → Keeps world.output (flat_choose procs mode store world v a b l g k)
  chooses (RunBool true) a b l g k = same world
  chooses (RunBool false) a b l g k = same world
  chooses _ a b l g k = tt

  body_adds : (body : Body) (l : Locals C) (g : Group C) (k : List (FlatFrame C))
      → Keeps world.output (flat_body procs mode store world body l g k)
  body_adds (Give operation) l g k = performs operation l g k
  body_adds (Call f os) l g k = same world
  body_adds (Choose o a b) l g k = chooses (value l g o) a b l g k
  body_adds (LetBody slot inner rest) l g k = same world
  body_adds (LetGroup slot first count captured rest) l g k = same world

  back_adds : (v : FlatValue C) (frame : FlatFrame C) (k : List (FlatFrame C))
      → Keeps world.output (flat_back procs mode store world v frame k)
  back_adds v (CastFrame cast) k = casts_add v cast k
  back_adds v (ProjFrame i) k = keeps_proj mode (flat_arity procs) (flat_entered procs) store world v i k
  back_adds v (PrimFrame operator done) k =
      keeps_operate mode (flat_arity procs) (flat_entered procs) store world operator (onto (v ∷ done) []) k
  back_adds v (EnterFrame f done todo) k = same world
  back_adds v (OwnFrame (Waiting slot rest l g)) k = same world

  turn_adds : (focus : FlatFocus C) (k : List (FlatFrame C))
      → Keeps world.output (flat_turn procs mode store world focus k)
  turn_adds (Own (Inside body l g)) k = body_adds body l g k
  turn_adds (Return v) [] = tt
  turn_adds (Return v) (frame ∷ k) = back_adds v frame k
  turn_adds (Entering f done todo) k =
      keeps_enter mode (flat_arity procs) (flat_entered procs) store world f done todo k

-- ---- runs

module _ {C : Type 0} (procs : List Proc) (mode : Mode C) (told : Told) where
  after_adds : (s : FlatState C) (after : FlatAfter C) → Keeps s.world.output after
      → IsPrefix s.world.output (after_flat procs told s after).world.output
  after_adds s (On focus k store world) h = h
  after_adds s (BlameOf label) h = same s.world
  after_adds s (TrapOf trap world) h = h
  after_adds s NoNext h = same s.world

  -- so along a run with its account the output only grows
  pub flat_output_grows : (prices : Prices StepKind C) (entry : ℕ) (input : List ℕ)
      → OutputGrows (flat_tally_in procs entry mode prices told input)
  flat_output_grows prices entry input =
      output_only_grows-reductions (flat_tallying procs mode prices told)
      (λ s e. after_adds s.state (flat_turn procs mode s.state.store s.state.world s.state.focus s.state.frames)
      (turn_adds procs mode s.state.store s.state.world s.state.focus s.state.frames))
      (flat_untallied (flat_start procs told entry input))
