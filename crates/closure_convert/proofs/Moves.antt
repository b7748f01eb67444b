-- What the procedures do for a turn of the term with environments, in every mode: which states go together, and the
-- cases.
use Rattle.std.proofs.Common.{◌≡◌, ◌⊎◌, inl, inr, ℕ, suc, ◌+◌, ◌*◌, ◌<◌, ◌≤◌, ℤ, pos, negsuc, Bool}
use Rattle.std.proofs.Common.{true}
use Rattle.std.proofs.Common.{false, cond, List, [], ◌∷◌, ◌++◌, length, Option, Some, None, slice_get}
use Rattle.std.proofs.Common.{option_map}
use Rattle.std.proofs.Common.{refl, sym, ap, ◌∙◌, subst, arith, append-nil, eq-eqb, le_refl}
use Rattle.std.proofs.lemmas.List.{append_assoc}
use Rattle.run_laws.specs.Runs.{Ending, Wrong, Exhausted, Verdict as EndsWith}
use Rattle.run_laws.specs.Machines.{UnlessWrong}
use Rattle.grift_base.specs.World.{WorldState}
use Rattle.grift_base.specs.declared.places.Pos.{Pos}
use Rattle.grift_base.specs.declared.verdicts.Verdict.TheVariants.{Trap as TrapVerdict}
use Rattle.grift_base.specs.declared.operators.PrimOp.{PrimOp}
use Rattle.grift_base.specs.declared.operators.PrimOp.TheVariants.{MakeBox, MakeVector}
use Rattle.core_calc.specs.Calculus.{CalcEnd, Blamed, Trapped, NoStep, blame_at}
use Rattle.cast_modes.specs.Modes.{Mode, Decision, Keeping, Wrapping, Rewrapping, Unwrapping, Injecting, Opening}
use Rattle.cast_modes.specs.Modes.{Making, Blaming, NoCast, DynPart, PartCast, NoPart, NoType}
use Rattle.cast_modes.specs.RunValues.{RunInt, RunBool, RunUnit, RunFun, RunTuple, RunLoc, RunWrap, RunInject}
use Rattle.cast_modes.specs.RunValues.{RunValue, Pending, in_row, all_plain, shape_of}
use Rattle.cast_modes.specs.ValueSteps.{CastFrame, ProjFrame, PrimFrame, EnterFrame, OwnFrame, Own, Return, Entering}
use Rattle.cast_modes.specs.ValueSteps.{On, BlameOf, TrapOf, NoNext, on_some, onto, goes, gives, make}
use Rattle.cast_modes.specs.ValueSteps.{run_cast, enter, run_proj, run_proj_dyn, operate, decision_words}
use Rattle.cast_modes.specs.ValueSteps.{operator_words, decision_wraps, blame_or_proj, next_argument, enter_plain}
use Rattle.cast_modes.specs.AnswerTypes.{Told}
use Rattle.coer_core.specs.Terms.{RowTerm, RowTerms, RowMembers, RowBindings, RowInt, RowBool, RowUnit, RowVar}
use Rattle.coer_core.specs.Terms.{RowLambda, RowGroup, RowLet, RowCall, RowIf, RowSeq, RowCast, RowProj, RowProjDyn}
use Rattle.coer_core.specs.Terms.{RowTuple, RowPrim, NoRowTerms, RowTermThen, NoRowMembers, RowMemberThen}
use Rattle.coer_core.specs.Terms.{NoRowBindings, RowBindingThen}
use Rattle.coer_core.specs.Machine.{Code, code_arity, CoerValue, CoerStore}
use Rattle.coer_core.specs.Machine.{CoerFrame, CoerFocus, CoerAfter, Env, env_names, env_values, closure}
use Rattle.coer_core.specs.Machine.{members_in, Eval, Job, Calling, Tupling, Operating, TermFrame, IfFrame, SeqFrame}
use Rattle.coer_core.specs.Machine.{FunFrame, ProjDynFrame, GatherFrame, LetFrame, entered, finish}
use Rattle.coer_core.specs.Machine.{gather as run_gather}
use Rattle.coer_core.specs.Machine.{bind_next, choose, eval, back, turn, RunState, ended_at, state_at, after_turn}
use Rattle.coer_core.specs.Machine.{ending_at}
use Rattle.coer_core.specs.Counts.{names_besides, free_names, free_names_of_all, free_names_of_members}
use Rattle.coer_core.specs.Counts.{free_names_of_bindings, each_once, row_member_names, row_binding_names}
use Rattle.coer_core.specs.Counts.{row_member_count, group_captures, lambda_captures, turn_words}
use Rattle.coer_core.specs.Counts.{turn_wraps, eval_words}
use Rattle.core_calc.specs.Account.{StepKind, Makes, MakesVector, Acts}
use Rattle.coer_core.specs.Tally.{made_vector, operating_kind, gather_kind, bind_kind, plain_kind, enter_kind}
use Rattle.coer_core.specs.Tally.{turn_kind, function_words, made_words}
use Rattle.coer_core.specs.Machine.{CoerPending}
use Rattle.flat_ir.specs.declared.code.Operand.{Operand}
use Rattle.flat_ir.specs.declared.code.Operand.TheVariants.{Local, Int as IntConst}
use Rattle.flat_ir.specs.declared.code.Operand.TheVariants.{Bool as BoolConst, Unit as UnitConst}
use Rattle.flat_ir.specs.declared.code.Operation.TheVariants.{Move, Prim, Cast, Tuple, Proj, ProjDyn}
use Rattle.flat_ir.specs.Bodies.{Body, Give, Call, Choose, LetBody, Proc}
use Rattle.flat_ir.specs.Machine.{FlatCode, FlatValue, FlatStore, FlatFrame, FlatFocus, FlatAfter, Group}
use Rattle.flat_ir.specs.Machine.{Locals, Inside, Waiting, value, values, set_local, set_group, flat_arity}
use Rattle.flat_ir.specs.Machine.{flat_entered}
use Rattle.flat_ir.specs.Machine.{flat_cast, flat_proj, flat_operate, flat_choose}
use Rattle.flat_ir.specs.Machine.{flat_turn}
use Rattle.flat_ir.specs.Machine.{FlatState, blame_ending, answer_at, flat_state_at, after_flat}
use Rattle.flat_ir.specs.Counts.{tuple_words, decision_at, flat_turn_words, flat_turn_wraps}
use Rattle.closure_convert.specs.Conversion.{captures, alone, Scope, bind_operands, numbered, operand_or_unit}
use Rattle.closure_convert.specs.Conversion.{meanings_of}
use Rattle.closure_convert.specs.Conversion.{made, made_in, made_by, atom, placed, call_of, label_id, code}
use Rattle.closure_convert.specs.Conversion.{gather}
use Rattle.closure_convert.specs.Conversion.{gather_let, sequence}
use Rattle.flat_ir.specs.FlatTally.{made_vector as flat_vector, operator_kind, cast_cost}
use Rattle.cast_modes.specs.Prices.{Cost, no_cost, Prices}
use Rattle.flat_ir.specs.FlatTally.{plain_cost, enter_cost, flat_cost, flat_atoms}
use Rattle.closure_convert.proofs.Carrying.{none_some, same_some, firsts, seconds, means}
use Rattle.closure_convert.proofs.Carrying.{group_of, fun_of, Stands, StandsFor}
use Rattle.closure_convert.proofs.Carrying.{GroupStands}
use Rattle.closure_convert.proofs.Carrying.{Carries, Fits, CarriesAll, carries_append}
use Rattle.closure_convert.proofs.Carrying.{fits_found, fits_extend, Below, ScopeBelow}
use Rattle.closure_convert.proofs.Carrying.{each_append, each_bound, all_below_more, SameBelow}
use Rattle.closure_convert.proofs.Carrying.{set_same, set_here, Covers, covers_left, covers_right, covers_bound}
use Rattle.closure_convert.proofs.Carrying.{numbered_long, locals_below, group_same, group_slot}
use Rattle.closure_convert.proofs.Carrying.{members_held}
use Rattle.closure_convert.proofs.Carrying.{members_firsts, members_seconds, members_carry, group_captured}
use Rattle.closure_convert.proofs.Relation.{finish_code, finish_of, values_of, Knows}
use Rattle.closure_convert.proofs.Relation.{ToTuple, ToPrim, Gathers, no_operands, Binds, Taken, FrameOn, Wait, Cells}
use Rattle.closure_convert.proofs.Relation.{in_code, Pends}
use Rattle.closure_convert.proofs.Relation.{AsOperand, FocusOn, knows_later}
use Rattle.closure_convert.proofs.Relation.{carried_later}
use Rattle.closure_convert.proofs.Agreeing.{int_carried, bool_carried, same_shape, as_long}
use Rattle.closure_convert.proofs.Agreeing.{list_parts, onto_carried, Agree, a_gives, a_cast, a_proj}
use Rattle.closure_convert.proofs.Agreeing.{a_proj_dyn, a_operate}
use Rattle.closure_convert.proofs.Meeting.{besides_append}
use Rattle.closure_convert.proofs.Calling.{pends_all, a_enter}

-- ---- a measure that falls where the procedures make no step

abbrev mutual
  weight : RowTerm → ℕ
  weight (RowInt n) = 1
  weight (RowBool b) = 1
  weight RowUnit = 1
  weight (RowVar name) = 1
  weight (RowLambda parameters body type) = 1
  weight (RowGroup members body) = suc (weight body)
  weight (RowLet bindings body) = suc (weight_by bindings + suc (weight body))
  weight (RowCall f terms) = suc (weight f + weight_for terms)
  weight (RowIf c a b) = suc (weight c)
  weight (RowSeq terms) = suc (weight_of terms)
  weight (RowCast term n) = suc (weight term)
  weight (RowProj term i) = suc (weight term)
  weight (RowProjDyn term i label) = suc (weight term)
  weight (RowTuple terms) = suc (weight_for terms)
  weight (RowPrim op terms) = suc (weight_for terms)

  weight_for : RowTerms → ℕ
  weight_for NoRowTerms = 0
  weight_for (RowTermThen term rest) = suc (weight term + weight_for rest)

  -- of a sequence
  weight_of : RowTerms → ℕ
  weight_of NoRowTerms = 0
  weight_of (RowTermThen term rest) = suc (suc (weight term + weight_of rest))

  weight_by : RowBindings → ℕ
  weight_by NoRowBindings = 0
  weight_by (RowBindingThen name term rest) = suc (weight term + weight_by rest)

abbrev term_frame_weight : {C : Type 0} → TermFrame C → ℕ
term_frame_weight (IfFrame a b env) = 0
term_frame_weight (SeqFrame term rest env) = suc (suc (weight_of (RowTermThen term rest)))
term_frame_weight (FunFrame arguments env) = weight_for arguments
term_frame_weight (ProjDynFrame i label) = 0
term_frame_weight (GatherFrame job done rest env) = weight_for rest
term_frame_weight (LetFrame bound name rest body env) = weight_by rest + suc (weight body)

abbrev frame_weight : {C : Type 0} → CoerFrame C → ℕ
frame_weight (OwnFrame frame) = term_frame_weight frame
frame_weight _ = 0

abbrev frames_weight : {C : Type 0} → List (CoerFrame C) → ℕ
frames_weight [] = 0
frames_weight (frame ∷ k) = frame_weight frame + frames_weight k

abbrev focus_weight : {C : Type 0} → CoerFocus C → ℕ
focus_weight (Own (Eval term env)) = weight term
focus_weight (Return v) = 0
focus_weight (Entering f done todo) = 0

abbrev pub measure : {C : Type 0} → Option CalcEnd → CoerFocus C → List (CoerFrame C) → ℕ
measure None focus k = suc (focus_weight focus + frames_weight k)
measure (Some e) focus k = 0

-- what has no next state wraps nothing
abbrev Costs : {C : Type 0} → CoerAfter C → ℕ → Type 0
Costs NoNext n = n ≡ 0
Costs x n = Unit {0}

costs_nothing : {C : Type 0} (x : CoerAfter C) → Costs x 0
costs_nothing (On focus k store world) = tt
costs_nothing (BlameOf label) = tt
costs_nothing (TrapOf trap world) = tt
costs_nothing NoNext = refl

make_costs : {C : Type 0} (mode : Mode C) (store : CoerStore C) (world : WorldState) (d : Decision C) (v : CoerValue C)
    (k : List (CoerFrame C)) → Costs (make mode code_arity entered store world d v k) (decision_wraps d)
make_costs mode store world (Wrapping cast) v k = tt
make_costs mode store world Keeping v k = tt
make_costs mode store world (Rewrapping cast) v k =
    costs_nothing (make mode code_arity entered store world (Rewrapping cast) v k)
make_costs mode store world Unwrapping v k = costs_nothing (make mode code_arity entered store world Unwrapping v k)
make_costs mode store world (Injecting kept) v k = tt
make_costs mode store world (Opening cast) v k =
    costs_nothing (make mode code_arity entered store world (Opening cast) v k)
make_costs mode store world (Making cast next) v k = tt
make_costs mode store world (Blaming label) v k = tt
make_costs mode store world NoCast v k = refl

onto_append : {A : Type 0} (done xs : List A) → onto done xs ≡ onto done [] ++ xs
onto_append [] xs = refl
onto_append (a ∷ done) xs = onto_append done (a ∷ xs) ∙ (sym (append_assoc (onto done []) (a ∷ []) xs)
    ∙ ap (λ l. l ++ xs) (sym (onto_append done (a ∷ []))))

values_more : {C : Type 0} (job : Job C) (done : List (CoerValue C)) (v : CoerValue C)
    → values_of job (v ∷ done) ≡ values_of job done ++ v ∷ []
values_more (Calling f) done v = ap (λ l. f ∷ l) (onto_append done (v ∷ []))
values_more Tupling done v = onto_append done (v ∷ [])
values_more (Operating op) done v = onto_append done (v ∷ [])

firsts_append : {A : Type 0} (xs ys : List (ℕ × A)) → firsts (xs ++ ys) ≡ firsts xs ++ firsts ys
firsts_append [] ys = refl
firsts_append (x ∷ xs) ys = ap (λ l. x.0 ∷ l) (firsts_append xs ys)

seconds_append : {A : Type 0} (xs ys : List (ℕ × A)) → seconds (xs ++ ys) ≡ seconds xs ++ seconds ys
seconds_append [] ys = refl
seconds_append (x ∷ xs) ys = ap (λ l. x.1 ∷ l) (seconds_append xs ys)

firsts_long : {A : Type 0} (bound : List (ℕ × A)) → length (firsts bound) ≡ length (seconds bound)
firsts_long [] = refl
firsts_long (entry ∷ bound) = ap suc (firsts_long bound)

values_long : {C : Type 0} (l : Locals C) (own : Group C) (os : List Operand) → length (values l own os) ≡ length os
values_long l own [] = refl
values_long l own (o ∷ os) = ap suc (values_long l own os)

atom_below : (depth : ℕ) (term : RowTerm) (scope : Scope) (o : Operand) → ScopeBelow depth scope
    → atom term scope ≡ Some o → Below depth o
atom_below depth (RowInt n) scope o h e = subst (Below depth) (same_some (IntConst n) o e) tt
atom_below depth (RowBool b) scope o h e = subst (Below depth) (same_some (BoolConst b) o e) tt
atom_below depth RowUnit scope o h e = subst (Below depth) (same_some UnitConst o e) tt
atom_below depth (RowVar name) scope o h e = h name o e
atom_below depth term scope o h e = none_some e

covers_one : (name : ℕ) (scope : Scope) → Covers (name ∷ []) scope → (o : Operand) × (scope name ≡ Some o)
covers_one name scope c = c name (ap (λ b. cond b true false) (eq-eqb name name refl))

-- ---- words asked for

-- where no term is left
abbrev AtEnd : RowTerms → ℕ → ℕ → Type 0
AtEnd NoRowTerms a b = a ≤ b
AtEnd (RowTermThen term rest) a b = Unit {0}

at_end : (terms : RowTerms) (a b : ℕ) → a ≤ b → AtEnd terms a b
at_end NoRowTerms a b le = le
at_end (RowTermThen term rest) a b le = tt

operator_none : (C : Type 0) (op : PrimOp) → operator_words {C = C} {K = Code} op [] ≤ 0
operator_none C MakeBox = omega arith
operator_none C MakeVector = omega arith
operator_none C op = omega arith

onto_long : {A : Type 0} (done rest : List A) → length (onto done rest) ≡ length done + length rest
onto_long [] rest = omega arith
onto_long (a ∷ done) rest = let e = onto_long done (a ∷ rest) in omega (arith, e)

-- how many cells a vector is asked for with, where the value is a number
abbrev cells_asked : {C K : Type 0} → RunValue C K → Option ℕ
cells_asked (RunInt (pos n)) = Some n
cells_asked u = None

same_number : (C : Type 0) (n : ℤ)
    → cells_asked {C = C} {K = FlatCode} (RunInt n) ≡ cells_asked {C = C} {K = Code} (RunInt n)
same_number C (pos n) = refl
same_number C (negsuc n) = refl

abbrev cells_words : Option ℕ → ℕ
cells_words None = 0
cells_words (Some n) = 1 + n

abbrev cells_kind : Option ℕ → StepKind
cells_kind None = Acts
cells_kind (Some n) = MakesVector n

words_of_cells : {C K : Type 0} (u x : RunValue C K)
    → operator_words MakeVector (u ∷ x ∷ []) ≡ cells_words (cells_asked u)
words_of_cells (RunInt (pos n)) x = refl
words_of_cells (RunInt (negsuc n)) x = refl
words_of_cells u x = refl

kind_of_cells : {C : Type 0} (v : CoerValue C) (vs : List (CoerValue C)) → made_vector (v ∷ vs) ≡ cells_kind
    (cells_asked v)
kind_of_cells (RunInt (pos n)) vs = refl
kind_of_cells (RunInt (negsuc n)) vs = refl
kind_of_cells v vs = refl

flat_kind_of_cells : {C : Type 0} (u : FlatValue C) (us : List (FlatValue C))
    → flat_vector (u ∷ us) ≡ cells_kind (cells_asked u)
flat_kind_of_cells (RunInt (pos n)) us = refl
flat_kind_of_cells (RunInt (negsuc n)) us = refl
flat_kind_of_cells u us = refl

module _ {C : Type 0} where
  -- the words of what is done with the values of some terms, the last value first
  abbrev job_words : Job C → List (CoerValue C) → ℕ
  job_words (Calling f) done = 0
  job_words Tupling [] = 0
  job_words Tupling (v ∷ done) = 2 + length done
  job_words (Operating op) done = operator_words op (onto done [])

  -- of the turn in which the last value comes
  at_last : (mode : Mode C) (job : Job C) (done : List (CoerValue C)) (rest : RowTerms) (env : Env C) (v : CoerValue C)
      (k : List (CoerFrame C))
      → AtEnd rest (job_words job (v ∷ done))
      (turn_words mode (Return v) (OwnFrame (GatherFrame job done rest env) ∷ k))
  at_last mode (Calling f) done NoRowTerms env v k = omega arith
  at_last mode Tupling done NoRowTerms env v k = omega arith
  at_last mode (Operating op) done NoRowTerms env v k = omega arith
  at_last mode job done (RowTermThen term rest) env v k = tt

  tuple_le : (os : List Operand) (done : List (CoerValue C)) → length os ≡ length done
      → tuple_words os ≤ job_words Tupling done
  tuple_le [] done e = omega arith
  tuple_le (o ∷ os) [] e = absurd (omega arith)
  tuple_le (o ∷ os) (v ∷ done) e = omega arith

  vector_one : {K : Type 0} (u : RunValue C K) → operator_words MakeVector (u ∷ []) ≡ 0
  vector_one (RunInt (pos n)) = refl
  vector_one (RunInt (negsuc n)) = refl
  vector_one u = refl

  vector_more : {K : Type 0} (u x y : RunValue C K) (us : List (RunValue C K))
      → operator_words MakeVector (u ∷ x ∷ y ∷ us) ≡ 0
  vector_more (RunInt (pos n)) x y us = refl
  vector_more (RunInt (negsuc n)) x y us = refl
  vector_more u x y us = refl

  module _ (procs : List Proc) where
    same_cells : (v : CoerValue C) (u : FlatValue C) → Carries procs v u → cells_asked u ≡ cells_asked v
    same_cells (RunInt n) u c = ap cells_asked (int_carried procs n u c) ∙ same_number C n
    same_cells (RunBool b) (RunBool d) c = refl
    same_cells RunUnit RunUnit c = refl
    same_cells (RunFun code vs) (RunFun other us) c = refl
    same_cells (RunTuple vs) (RunTuple us) c = refl
    same_cells (RunLoc place is_vector) (RunLoc other its) c = refl
    same_cells (RunWrap v cast) (RunWrap u other) c = refl
    same_cells (RunInject v kept) (RunInject u other) c = refl
    same_cells v u c = absurd c

    vector_words : (v : CoerValue C) (u : FlatValue C) (w : CoerValue C) (x : FlatValue C) → Carries procs v u
        → operator_words MakeVector (u ∷ x ∷ []) ≡ operator_words MakeVector (v ∷ w ∷ [])
    vector_words v u w x c = words_of_cells u x ∙ (ap cells_words (same_cells v u c) ∙ sym (words_of_cells v w))

    box_same : (vs : List (CoerValue C)) (us : List (FlatValue C)) → length vs ≡ length us
        → operator_words MakeBox us ≡ operator_words MakeBox vs
    box_same [] [] e = refl
    box_same (v ∷ []) (u ∷ []) e = refl
    box_same (v ∷ w ∷ vs) (u ∷ x ∷ us) e = refl
    box_same [] (u ∷ us) e = absurd (omega arith)
    box_same (v ∷ []) [] e = absurd (omega arith)
    box_same (v ∷ []) (u ∷ x ∷ us) e = absurd (omega arith)
    box_same (v ∷ w ∷ vs) [] e = absurd (omega arith)
    box_same (v ∷ w ∷ vs) (u ∷ []) e = absurd (omega arith)

    -- an operator asks for as many words
    words_same : (op : PrimOp) (vs : List (CoerValue C)) (us : List (FlatValue C)) → CarriesAll procs vs us
        → operator_words op us ≡ operator_words op vs
    words_same MakeBox vs us c = box_same vs us (as_long procs vs us c)
    words_same MakeVector [] [] c = refl
    words_same MakeVector (v ∷ []) (u ∷ []) c = vector_one u ∙ sym (vector_one v)
    words_same MakeVector (v ∷ w ∷ []) (u ∷ x ∷ []) c = vector_words v u w x c.0
    words_same MakeVector (v ∷ w ∷ z ∷ vs) (u ∷ x ∷ y ∷ us) c = vector_more u x y us ∙ sym (vector_more v w z vs)
    words_same MakeVector [] (u ∷ us) c = absurd c
    words_same MakeVector (v ∷ vs) [] c = absurd c
    words_same MakeVector (v ∷ []) (u ∷ x ∷ us) c = absurd c.1
    words_same MakeVector (v ∷ w ∷ vs) (u ∷ []) c = absurd c.1
    words_same MakeVector (v ∷ w ∷ []) (u ∷ x ∷ y ∷ us) c = absurd c.1.1
    words_same MakeVector (v ∷ w ∷ z ∷ vs) (u ∷ x ∷ []) c = absurd c.1.1
    words_same op vs us c = refl

-- ---- captured names of a lambda and of a group

besides_none : (xs : List ℕ) → names_besides [] xs ≡ xs
besides_none [] = refl
besides_none (x ∷ xs) = ap (λ l. x ∷ l) (besides_none xs)

alone_free : (parameters : List ℕ) (body : RowTerm) (type : ℕ)
    → names_besides [] (free_names_of_members (alone parameters body type)) ≡ names_besides parameters (free_names body)
alone_free parameters body type =
    let xs = names_besides parameters (free_names body) in besides_none (xs ++ []) ∙ append-nil xs

pub lambda_alone : (parameters : List ℕ) (body : RowTerm) (type : ℕ)
    → lambda_captures parameters body ≡ captures [] (alone parameters body type)
lambda_alone parameters body type = ap each_once (sym (alone_free parameters body type))

pub covers_alone : (parameters : List ℕ) (body : RowTerm) (type : ℕ) (scope : Scope)
    → Covers (names_besides parameters (free_names body)) scope
    → Covers (names_besides [] (free_names_of_members (alone parameters body type))) scope
covers_alone parameters body type scope c =
    subst (λ ns. Covers ns scope) (sym (alone_free parameters body type)) c

pub meanings_long : (names : List ℕ) (scope : Scope) → length (meanings_of names scope) ≡ length names
meanings_long [] scope = refl
meanings_long (name ∷ names) scope = ap suc (meanings_long names scope)

pub names_long : (members : RowMembers) → length (row_member_names members) ≡ row_member_count members
names_long NoRowMembers = refl
names_long (RowMemberThen name parameters body type rest) = ap suc (names_long rest)

plus_none : (n : ℕ) → n + 0 ≡ n
plus_none n = omega arith

none_asked : (n : ℕ) → 0 ≤ n
none_asked n = omega arith

as_many : {a b : ℕ} → a ≡ b → a ≤ b
as_many e = omega (arith, e)

onto_long_alone : {A : Type 0} (done : List A) → length (onto done []) ≡ length done
onto_long_alone done = let e = onto_long done [] in omega (arith, e)

unless : {V : Type 0} {P : Type 0} (e : Ending V) → P → UnlessWrong e P
unless (EndsWith v) p = p
unless Exhausted p = p
unless Wrong p = tt

blame_same : (o : Option Pos) → blame_at o ≡ blame_ending o
blame_same (Some place) = refl
blame_same None = refl

module _ {C : Type 0} (procs : List Proc) (mode : Mode C) where
  wait_long : (k : List (CoerFrame C)) (others : List (FlatFrame C)) → Wait procs mode k others
      → length others ≡ length k
  wait_long [] [] w = refl
  wait_long (frame ∷ k) (other ∷ others) w = ap suc (wait_long k others w.1)
  wait_long [] (other ∷ others) w = absurd w
  wait_long (frame ∷ k) [] w = absurd w

  fr0 : (k : List (CoerFrame C)) (others : List (FlatFrame C)) → Wait procs mode k others → length others ≤ length k
  fr0 k others w = let e = wait_long k others w in omega (arith, e)

  fr1 : (frame : CoerFrame C) (k : List (CoerFrame C)) (others : List (FlatFrame C)) → Wait procs mode k others
      → length others ≤ length (frame ∷ k)
  fr1 frame k others w = let e = wait_long k others w in omega (arith, e)

  fr2 : (frame : CoerFrame C) (other : FlatFrame C) (k : List (CoerFrame C)) (others : List (FlatFrame C))
      → Wait procs mode k others → length (other ∷ others) ≤ length (frame ∷ k)
  fr2 frame other k others w = let e = wait_long k others w in omega (arith, e)

  pub no_more_frames : (focus : CoerFocus C) (k : List (CoerFrame C)) (g : FlatFocus C) (others : List (FlatFrame C))
      → FocusOn procs mode focus k g others → length others ≤ length k
  no_more_frames (Own (Eval term env)) k g others (inl h) = let e = wait_long k others h.1 in omega (arith, e)
  no_more_frames (Own (Eval term env)) [] g others (inr h) = absurd h
  no_more_frames (Own (Eval term env)) (frame ∷ k) g others (inr h) =
      let e = wait_long k others h.1 in omega (arith, e)
  no_more_frames (Return v) k g others (inl h) = let e = wait_long k others h.1 in omega (arith, e)
  no_more_frames (Return v) [] g others (inr h) = absurd h
  no_more_frames (Return v) (frame ∷ k) g others (inr h) = let e = wait_long k others h.1 in omega (arith, e)
  no_more_frames (Entering f done todo) k g others h = let e = wait_long k others h.1 in omega (arith, e)

-- ---- what a turn of the term costs, in the words of the procedures' costs

abbrev pub coer_cost : {C : Type 0} → Mode C → Prices StepKind C → CoerFocus C → List (CoerFrame C) → Cost
coer_cost mode prices (Return v) (CastFrame cast ∷ k) = prices.cast cast (shape_of code_arity v)
coer_cost mode prices (Return v) (OwnFrame (ProjDynFrame i label) ∷ k) = prices.part
coer_cost mode prices focus k =
    prices.other (turn_kind mode focus k) (made_words focus k) (function_words focus)

-- the first is at most the second
pub record Pays (a b : Cost) : Type 0 where
  pub acts : a.acts ≤ b.acts
  pub asks : a.asks ≤ b.asks
  pub budget : a.budget ≤ b.budget

pays_none : (b : Cost) → Pays no_cost b
pays_none b = record { acts = none_asked b.acts; asks = none_asked b.asks; budget = none_asked b.budget }

pays_same : (a b : Cost) → a ≡ b → Pays a b
pays_same a b e =
    subst (λ c. Pays a c) e (record { acts = le_refl a.acts; asks = le_refl a.asks; budget = le_refl a.budget })

-- 1 for a term that is a name or a constant
abbrev pub atom_term : RowTerm → ℕ
atom_term (RowInt n) = 1
atom_term (RowBool b) = 1
atom_term RowUnit = 1
atom_term (RowVar name) = 1
atom_term _ = 0

pub atom_few : (term : RowTerm) → atom_term term ≤ 1
atom_few (RowInt n) = omega arith
atom_few term = omega arith

-- 1 where such a term is gone on with
abbrev begins : {C : Type 0} → CoerAfter C → ℕ
begins (On (Own (Eval term env)) k store world) = atom_term term
begins _ = 0

begins_few : {C : Type 0} (x : CoerAfter C) → begins x ≤ 1
begins_few (On (Own (Eval term env)) k store world) = atom_few term
begins_few (On (Return v) k store world) = omega arith
begins_few (On (Entering f done todo) k store world) = omega arith
begins_few x = omega arith

no_atom : (term : RowTerm) (scope : Scope) → atom term scope ≡ None → Covers (free_names term) scope
    → atom_term term ≡ 0
no_atom (RowInt n) scope e c = none_some (sym e)
no_atom (RowBool b) scope e c = none_some (sym e)
no_atom RowUnit scope e c = none_some (sym e)
no_atom (RowVar name) scope e c = none_some (sym e ∙ (covers_one name scope c).1)
no_atom term scope e c = refl

-- ---- what the last turn of several terms costs

abbrev job_cost : {C : Type 0} → Prices StepKind C → Job C → List (CoerValue C) → Cost
job_cost prices (Calling f) done = prices.other (Some Acts) 0 0
job_cost prices Tupling done = prices.other (Some Makes) (job_words Tupling done) 0
job_cost prices (Operating op) done = prices.other (Some (operating_kind op (onto done []))) 0 0

-- where no term is left
abbrev PaysAtEnd : RowTerms → Cost → Cost → Type 0
PaysAtEnd NoRowTerms a b = Pays a b
PaysAtEnd (RowTermThen term rest) a b = Unit {0}

-- where no binding is left
abbrev ActsAtEnd : RowBindings → Cost → Type 0
ActsAtEnd NoRowBindings c = 1 ≤ c.acts
ActsAtEnd (RowBindingThen name term rest) c = Unit {0}

module _ {C : Type 0} (mode : Mode C) (prices : Prices StepKind C) where
  fun_pays : (arguments : RowTerms) (env : Env C) (v : CoerValue C) (k : List (CoerFrame C))
      → PaysAtEnd arguments (job_cost prices (Calling v) [])
      (coer_cost mode prices (Return v) (OwnFrame (FunFrame arguments env) ∷ k))
  fun_pays NoRowTerms env v k = pays_same _ _ refl
  fun_pays (RowTermThen term rest) env v k = tt

  last_pays : (job : Job C) (done : List (CoerValue C)) (rest : RowTerms) (env : Env C) (v : CoerValue C)
      (k : List (CoerFrame C)) → PaysAtEnd rest (job_cost prices job (v ∷ done))
      (coer_cost mode prices (Return v) (OwnFrame (GatherFrame job done rest env) ∷ k))
  last_pays (Calling f) done NoRowTerms env v k = pays_same _ _ refl
  last_pays Tupling done NoRowTerms env v k = pays_same _ _ refl
  last_pays (Operating op) done NoRowTerms env v k = pays_same _ _ refl
  last_pays job done (RowTermThen term rest) env v k = tt

  first_pays : (job : Job C) (parts : RowTerms)
      → PaysAtEnd parts (job_cost prices job []) (prices.other (gather_kind job [] parts) 0 0)
  first_pays (Calling f) NoRowTerms = pays_same _ _ refl
  first_pays Tupling NoRowTerms = pays_same _ _ refl
  first_pays (Operating op) NoRowTerms = pays_same _ _ refl
  first_pays job (RowTermThen term rest) = tt

  bind_acts : ((kind : StepKind) (a b : ℕ) → (prices.other (Some kind) a b).acts ≡ 1) → (bindings : RowBindings)
      (a b : ℕ) → ActsAtEnd bindings (prices.other (bind_kind bindings) a b)
  bind_acts act NoRowBindings a b = let one = act Acts a b in omega (arith, one)
  bind_acts act (RowBindingThen name term rest) a b = tt

module _ {C : Type 0} where
  tuple_same : (os : List Operand) (done : List (CoerValue C)) → length os ≡ length done
      → tuple_words os ≡ job_words Tupling done
  tuple_same [] [] e = refl
  tuple_same [] (v ∷ done) e = absurd (omega (arith, e))
  tuple_same (o ∷ os) [] e = absurd (omega (arith, e))
  tuple_same (o ∷ os) (v ∷ done) e = omega (arith, e)

  module _ (procs : List Proc) where
    vector_kind : (v : CoerValue C) (u : FlatValue C) (vs : List (CoerValue C)) (us : List (FlatValue C))
        → Carries procs v u → flat_vector (u ∷ us) ≡ made_vector (v ∷ vs)
    vector_kind v u vs us c =
        flat_kind_of_cells u us ∙ (ap cells_kind (same_cells procs v u c) ∙ sym (kind_of_cells v vs))

    -- an operator is of the same kind
    kind_same : (op : PrimOp) (vs : List (CoerValue C)) (us : List (FlatValue C)) → CarriesAll procs vs us
        → operator_kind op us ≡ operating_kind op vs
    kind_same MakeVector [] [] c = refl
    kind_same MakeVector (v ∷ vs) (u ∷ us) c = vector_kind v u vs us c.0
    kind_same MakeVector [] (u ∷ us) c = absurd c
    kind_same MakeVector (v ∷ vs) [] c = absurd c
    kind_same op vs us c = refl

-- ---- what casts, parts and entries go on with

module _ {C : Type 0} (mode : Mode C) (store : CoerStore C) (world : WorldState) where
  make_begins : (d : Decision C) (v : CoerValue C) (k : List (CoerFrame C))
      → begins (make mode code_arity entered store world d v k) ≡ 0
  make_begins Keeping v k = refl
  make_begins (Wrapping cast) v k = refl
  make_begins (Rewrapping cast) (RunWrap v old) k = refl
  make_begins Unwrapping (RunWrap v old) k = refl
  make_begins (Injecting kept) v k = refl
  make_begins (Opening cast) (RunInject v kept) k = refl
  make_begins (Making cast next) v k = refl
  make_begins (Blaming label) v k = refl
  make_begins d v k = refl

  cast_begins : (v : CoerValue C) (cast : C) (k : List (CoerFrame C))
      → begins (run_cast mode code_arity entered store world v cast k) ≡ 0
  cast_begins v cast k = make_begins (mode.cast cast (shape_of code_arity v)) v k

  dyn_begins : (part : DynPart C) (v : CoerValue C) (i : ℤ) (label : ℕ) (k : List (CoerFrame C))
      → begins (blame_or_proj mode code_arity entered store world part v i label k) ≡ 0
  dyn_begins (PartCast cast) v i label k = refl
  dyn_begins NoPart v i label k = refl
  dyn_begins NoType v i label k = refl

  part_begins : (v : CoerValue C) (i : ℤ) (label : ℕ) (k : List (CoerFrame C))
      → begins (run_proj_dyn mode code_arity entered store world v i label k) ≡ 0
  part_begins (RunInject v kept) i label k = dyn_begins (mode.dyn_part kept i label) v i label k
  part_begins v i label k = refl

  argument_begins : (f : CoerValue C) (done : List (CoerValue C)) (v : CoerValue C) (casts : List C)
      (todo : List (CoerPending C)) (k : List (CoerFrame C))
      → begins (next_argument mode code_arity entered store world f done v casts todo k) ≡ 0
  argument_begins f done v [] todo k = refl
  argument_begins f done v (cast ∷ casts) todo k = refl

  module _ (prices : Prices StepKind C)
      (act : (kind : StepKind) (a b : ℕ) → (prices.other (Some kind) a b).acts ≡ 1) where
    plain_begins : (f : CoerValue C) (done : List (CoerValue C)) (todo : List (CoerPending C)) (k : List (CoerFrame C))
        → begins (enter_plain mode code_arity entered store world f done todo k)
        ≤ (prices.other (plain_kind todo) 0 0).acts
    plain_begins f done [] k =
        let x = enter_plain mode code_arity entered store world f done [] k in
        let few = begins_few x in let one = act Acts 0 0 in omega (arith, few, one)
    plain_begins f done (p ∷ todo) k =
        let no = argument_begins f done p.value p.casts todo k in omega (arith, no)

    enter_begins : (f : CoerValue C) (done : List (CoerValue C)) (todo : List (CoerPending C)) (k : List (CoerFrame C))
        → begins (enter mode code_arity entered store world f done todo k)
        ≤ (prices.other (enter_kind f todo) 0 0).acts
    enter_begins (RunWrap f cast) done todo k =
        let x = enter mode code_arity entered store world (RunWrap f cast) done todo k in
        let few = begins_few x in let one = act Acts 0 0 in omega (arith, few, one)
    enter_begins (RunInt n) done todo k = plain_begins (RunInt n) done todo k
    enter_begins f done todo k = plain_begins f done todo k

module _ {C : Type 0} (procs : List Proc) (mode : Mode C) (prices : Prices StepKind C) where
  plain_pays : (todo : List (CoerPending C)) (after : List (Pending C FlatCode)) → Pends procs mode todo after
      → Pays (plain_cost procs mode prices after) (prices.other (plain_kind todo) 0 0)
  plain_pays [] [] p = pays_same _ _ refl
  plain_pays (p ∷ todo) (q ∷ after) h = pays_none _
  plain_pays [] (q ∷ after) p = absurd p
  plain_pays (p ∷ todo) [] h = absurd h

  enter_pays : (f : CoerValue C) (g : FlatValue C) (todo : List (CoerPending C)) (after : List (Pending C FlatCode))
      → Carries procs f g → Pends procs mode todo after
      → Pays (enter_cost procs mode prices g after) (prices.other (enter_kind f todo) 0 0)
  enter_pays (RunWrap f cast) (RunWrap g other) todo after c p = pays_same _ _ refl
  enter_pays (RunInt n) (RunInt m) todo after c p = plain_pays todo after p
  enter_pays (RunBool b) (RunBool d) todo after c p = plain_pays todo after p
  enter_pays RunUnit RunUnit todo after c p = plain_pays todo after p
  enter_pays (RunFun code vs) (RunFun other captured) todo after c p = plain_pays todo after p
  enter_pays (RunTuple vs) (RunTuple us) todo after c p = plain_pays todo after p
  enter_pays (RunLoc place is_vector) (RunLoc other its) todo after c p = plain_pays todo after p
  enter_pays (RunInject v kept) (RunInject u other) todo after c p = plain_pays todo after p
  enter_pays f g todo after c p = absurd c

-- ---- states that go together

module _ {C : Type 0} (procs : List Proc) (mode : Mode C) (told : Told) where
  pub record Live (s : RunState C) (t : FlatState C) : Type 0 where
    pub ended : s.ended ≡ ended_at s.focus s.frames
    pub other : t.ended ≡ answer_at procs told t.focus t.frames
    pub on : FocusOn procs mode s.focus s.frames t.focus t.frames
    pub cells : Cells procs mode s.store t.store
    pub world : t.world ≡ s.world

  -- both have ended, in the same way
  pub record Over (s : RunState C) (t : FlatState C) : Type 0 where
    pub e : CalcEnd
    pub ended : s.ended ≡ Some e
    pub other : t.ended ≡ Some (ending_at told e s.focus)
    pub output : t.world.output ≡ s.world.output
    pub frames : length t.frames ≤ length s.frames

  -- the first has gone wrong
  pub record Lost (s : RunState C) (t : FlatState C) : Type 0 where
    pub ended : s.ended ≡ Some NoStep
    pub output : t.world.output ≡ s.world.output
    pub frames : length t.frames ≤ length s.frames

  abbrev pub Pair : RunState C → FlatState C → Type 0
  Pair s t = Live s t ⊎ (Over s t ⊎ Lost s t)

  -- 1 where the code of a name or a constant is still to be run
  abbrev pub left_on : (focus : CoerFocus C) (k : List (CoerFrame C)) (g : FlatFocus C) (others : List (FlatFrame C))
      → FocusOn procs mode focus k g others → ℕ
  left_on (Own (Eval term env)) k g others (inl h) = atom_term term
  left_on (Own (Eval term env)) k g others (inr h) = 0
  left_on (Return v) k g others h = 0
  left_on (Entering f done todo) k g others h = 0

  abbrev pub left : {s : RunState C} {t : FlatState C} → Pair s t → ℕ
  left {s} {t} (inl h) = left_on s.focus s.frames t.focus t.frames h.on
  left (inr h) = 0

  abbrev pub size_of : RunState C → ℕ
  size_of s = measure s.ended s.focus s.frames

-- ---- what both do from such states

module _ {C : Type 0} (procs : List Proc) (mode : Mode C) (told : Told) (prices : Prices StepKind C)
    (act : (kind : StepKind) (a b : ℕ) → (prices.other (Some kind) a b).acts ≡ 1) where
  module _ (store : CoerStore C) (world : WorldState) (cells : FlatStore C) (held : Cells procs mode store cells) where
    abbrev pub S : CoerFocus C → List (CoerFrame C) → RunState C
    S focus k = state_at focus k store world

    abbrev pub T : FlatFocus C → List (FlatFrame C) → FlatState C
    T g others = flat_state_at procs told g others cells world

    abbrev cost : CoerFocus C → List (CoerFrame C) → Cost
    cost focus k = coer_cost mode prices focus k

    -- the procedures make no turn
    pub record Stays (p : ℕ) (focus : CoerFocus C) (k : List (CoerFrame C)) (g : FlatFocus C)
        (others : List (FlatFrame C)) (x : CoerAfter C) : Type 0 where
      pub free : turn_wraps mode focus k ≡ 0
      pub less : size_of procs mode told (after_turn (S focus k) x) < size_of procs mode told (S focus k)
      pub related : Pair procs mode told (after_turn (S focus k) x) (T g others)
      pub atoms : left procs mode told related ≤ (coer_cost mode prices focus k).acts + p

    -- they make one turn
    pub record Steps (p : ℕ) (focus : CoerFocus C) (k : List (CoerFrame C)) (g : FlatFocus C)
        (others : List (FlatFrame C)) (x : CoerAfter C) : Type 0 where
      pub y : FlatAfter C
      pub none : answer_at procs told g others ≡ None
      pub turn : flat_turn procs mode cells world g others ≡ y
      pub frames : length others ≤ length k
      pub words : flat_turn_words procs mode g others ≤ turn_words mode focus k
      pub wraps : flat_turn_wraps procs mode g others ≡ turn_wraps mode focus k
      pub pays : Pays (flat_cost procs mode prices g others) (coer_cost mode prices focus k)
      pub related : Pair procs mode told (after_turn (S focus k) x) (after_flat procs told (T g others) y)
      pub atoms : flat_atoms g + left procs mode told related ≤ (coer_cost mode prices focus k).acts + p

    -- they make two turns, of which the second only gives what the first has made
    pub record Twice (p : ℕ) (focus : CoerFocus C) (k : List (CoerFrame C)) (g : FlatFocus C)
        (others : List (FlatFrame C)) (x : CoerAfter C) : Type 0 where
      pub g1 : FlatFocus C
      pub u : FlatValue C
      pub none : answer_at procs told g others ≡ None
      pub none1 : answer_at procs told g1 others ≡ None
      pub turn : flat_turn procs mode cells world g others ≡ On g1 others cells world
      pub turn1 : flat_turn procs mode cells world g1 others ≡ On (Return u) others cells world
      pub frames : length others ≤ length k
      pub later_frames : length others ≤ length (after_turn (S focus k) x).frames
      pub output : (after_turn (S focus k) x).world.output ≡ world.output
      pub words : flat_turn_words procs mode g others ≤ turn_words mode focus k
      pub words1 : flat_turn_words procs mode g1 others ≡ 0
      pub free : flat_turn_wraps procs mode g others ≡ 0
      pub free1 : flat_turn_wraps procs mode g1 others ≡ 0
      pub calm : turn_wraps mode focus k ≡ 0
      pub pays : Pays (flat_cost procs mode prices g others) (coer_cost mode prices focus k)
      pub pays1 : flat_cost procs mode prices g1 others ≡ no_cost
      pub related : Pair procs mode told (after_turn (S focus k) x) (T (Return u) others)
      pub atoms : flat_atoms g + flat_atoms g1 + left procs mode told related
          ≤ (coer_cost mode prices focus k).acts + p

    -- a value comes back to a body that waits, and then they make one turn or none
    pub record Later (p : ℕ) (focus : CoerFocus C) (k : List (CoerFrame C)) (g : FlatFocus C)
        (others : List (FlatFrame C)) (x : CoerAfter C) : Type 0 where
      pub g1 : FlatFocus C
      pub others1 : List (FlatFrame C)
      pub none : answer_at procs told g others ≡ None
      pub turn : flat_turn procs mode cells world g others ≡ On g1 others1 cells world
      pub frames : length others ≤ length k
      pub words : flat_turn_words procs mode g others ≡ 0
      pub wraps : flat_turn_wraps procs mode g others ≡ 0
      pub pays : flat_cost procs mode prices g others ≡ no_cost
      pub atoms : flat_atoms g ≡ 0
      pub next : Stays p focus k g1 others1 x ⊎ (Steps p focus k g1 others1 x ⊎ ⊥)

    -- no more than one turn, or also two
    abbrev pub More : Bool → ℕ → CoerFocus C → List (CoerFrame C) → FlatFocus C → List (FlatFrame C) → CoerAfter C
        → Type 0
    More true p focus k g others x = ⊥
    More false p focus k g others x = Twice p focus k g others x ⊎ Later p focus k g others x

    abbrev pub Moves : Bool → ℕ → CoerFocus C → List (CoerFrame C) → FlatFocus C → List (FlatFrame C) → CoerAfter C
        → Type 0
    Moves once p focus k g others x =
        Stays p focus k g others x ⊎ (Steps p focus k g others x ⊎ More once p focus k g others x)

    abbrev Same : CoerAfter C → FlatAfter C → Type 0
    Same x y = Agree procs mode store cells world held x y

    abbrev room : CoerFocus C → List (CoerFrame C) → ℕ
    room focus k = focus_weight focus + frames_weight k

    size_live : (focus : CoerFocus C) (k : List (CoerFrame C)) → ended_at focus k ≡ None
        → size_of procs mode told (S focus k) ≡ suc (room focus k)
    size_live focus k live = ap (λ e. measure e focus k) live

    -- with at most one turn, or two, and so many names or constants to be charged to what was before
    module _ (once : Bool) (p : ℕ) where
      abbrev Sim : CoerFocus C → List (CoerFrame C) → FlatFocus C → List (FlatFrame C) → CoerAfter C → Type 0
      Sim focus k g others x = Moves once p focus k g others x

      stays : (focus : CoerFocus C) (k : List (CoerFrame C)) (g : FlatFocus C) (others : List (FlatFrame C))
          (x : CoerAfter C) → turn_wraps mode focus k ≡ 0
          → size_of procs mode told (after_turn (S focus k) x) < size_of procs mode told (S focus k)
          → (r : Pair procs mode told (after_turn (S focus k) x) (T g others))
          → left procs mode told r ≤ (cost focus k).acts + p → Sim focus k g others x
      stays focus k g others x free less r atoms =
          inl (record { free = free; less = less; related = r; atoms = atoms })

      -- the term goes on, with the same state of the procedures
      stays_on : (focus : CoerFocus C) (k : List (CoerFrame C)) (focus1 : CoerFocus C) (k1 : List (CoerFrame C))
          (g : FlatFocus C) (others : List (FlatFrame C)) → turn_wraps mode focus k ≡ 0
          → size_of procs mode told (S focus1 k1) < size_of procs mode told (S focus k)
          → (on : FocusOn procs mode focus1 k1 g others)
          → left_on procs mode told focus1 k1 g others on ≤ (cost focus k).acts + p
          → Sim focus k g others (On focus1 k1 store world)
      stays_on focus k focus1 k1 g others free less on atoms =
          stays focus k g others (On focus1 k1 store world) free less
          (inl (record { ended = refl; other = refl; on = on; cells = held; world = refl })) atoms

      steps : (focus : CoerFocus C) (k : List (CoerFrame C)) (g : FlatFocus C) (others : List (FlatFrame C))
          (x : CoerAfter C) (y : FlatAfter C) → answer_at procs told g others ≡ None
          → flat_turn procs mode cells world g others ≡ y → length others ≤ length k
          → flat_turn_words procs mode g others ≤ turn_words mode focus k
          → flat_turn_wraps procs mode g others ≡ turn_wraps mode focus k
          → Pays (flat_cost procs mode prices g others) (cost focus k)
          → (r : Pair procs mode told (after_turn (S focus k) x) (after_flat procs told (T g others) y))
          → flat_atoms g + left procs mode told r ≤ (cost focus k).acts + p → Sim focus k g others x
      steps focus k g others x y none e fr asked wraps pays r atoms = inr (inl (record {
        y = y;
        none = none;
        turn = e;
        frames = fr;
        words = asked;
        wraps = wraps;
        pays = pays;
        related = r;
        atoms = atoms;
      }))

      lost : (focus : CoerFocus C) (k : List (CoerFrame C)) (g : FlatFocus C) (others : List (FlatFrame C))
          → ended_at focus k ≡ None → length others ≤ length k → turn_wraps mode focus k ≡ 0
          → Sim focus k g others NoNext
      lost focus k g others live fr free =
          let e = size_live focus k live in
          stays focus k g others NoNext free (omega (arith, e))
          (inr (inr (record { ended = refl; output = refl; frames = fr }))) (none_asked _)

      concludes : (focus : CoerFocus C) (k : List (CoerFrame C)) (g : FlatFocus C) (others : List (FlatFrame C))
          (x : CoerAfter C) (y : FlatAfter C) → ended_at focus k ≡ None → answer_at procs told g others ≡ None
          → flat_turn procs mode cells world g others ≡ y → length others ≤ length k
          → flat_turn_words procs mode g others ≤ turn_words mode focus k
          → flat_turn_wraps procs mode g others ≡ turn_wraps mode focus k → Costs x (turn_wraps mode focus k)
          → Same x y → Pays (flat_cost procs mode prices g others) (cost focus k)
          → flat_atoms g + begins x ≤ (cost focus k).acts + p → Sim focus k g others x
      concludes focus k g others (On (Own (Eval term env)) k1 store1 world1) (On g1 others1 cells1 world2) live none e
          fr asked wraps costs a pays few =
          steps focus k g others (On (Own (Eval term env)) k1 store1 world1) (On g1 others1 cells1 world2) none e fr
          asked wraps pays
          (inl (record { ended = refl; other = refl; on = a.0; cells = a.1; world = sym a.2 })) (at_most a.0)
        where
          at_most : (on : FocusOn procs mode (Own (Eval term env)) k1 g1 others1)
              → flat_atoms g + left_on procs mode told (Own (Eval term env)) k1 g1 others1 on ≤ (cost focus k).acts + p
          at_most (inl h) = few
          at_most (inr h) = omega (arith, few)
      concludes focus k g others (On (Return v) k1 store1 world1) (On g1 others1 cells1 world2) live none e fr asked
          wraps costs a pays few =
          steps focus k g others (On (Return v) k1 store1 world1) (On g1 others1 cells1 world2) none e fr asked wraps
          pays
          (inl (record { ended = refl; other = refl; on = a.0; cells = a.1; world = sym a.2 })) few
      concludes focus k g others (On (Entering f done todo) k1 store1 world1) (On g1 others1 cells1 world2) live none e
          fr asked wraps costs a pays few =
          steps focus k g others (On (Entering f done todo) k1 store1 world1) (On g1 others1 cells1 world2) none e fr
          asked wraps pays
          (inl (record { ended = refl; other = refl; on = a.0; cells = a.1; world = sym a.2 })) few
      concludes focus k g others (BlameOf label) (BlameOf other) live none e fr asked wraps costs a pays few =
          steps focus k g others (BlameOf label) (BlameOf other) none e fr asked wraps pays
          (inr (inl (record {
            e = Blamed label;
            ended = refl;
            other = ap (λ n. Some (blame_ending (slice_get told.labels n))) (sym a)
                ∙ ap Some (sym (blame_same (slice_get told.labels label)));
            output = refl;
            frames = fr;
          }))) few
      concludes focus k g others (TrapOf trap world1) (TrapOf other world2) live none e fr asked wraps costs a pays
          few =
          steps focus k g others (TrapOf trap world1) (TrapOf other world2) none e fr asked wraps pays
          (inr (inl (record {
            e = Trapped trap;
            ended = refl;
            other = ap (λ x. Some (EndsWith (TrapVerdict x))) (sym a.0);
            output = ap (λ x. x.output) (sym a.1);
            frames = fr;
          }))) few
      concludes focus k g others NoNext y live none e fr asked wraps costs a pays few =
          lost focus k g others live fr costs
      concludes focus k g others x y live none e fr asked wraps costs a pays few = absurd a

      -- a term is evaluated, for whose value a frame waits
      operand_next : (focus : CoerFocus C) (k0 : List (CoerFrame C)) (term : RowTerm) (env : Env C)
          (frame : CoerFrame C) (k : List (CoerFrame C)) (scope : Scope) (depth next : ℕ) (l : Locals C) (own : Group C)
          (rest : Operand → ℕ → Body) (others : List (FlatFrame C)) → ended_at focus k0 ≡ None
          → turn_wraps mode focus k0 ≡ 0 → length others ≤ length k0 → weight term + (frame_weight frame + frames_weight
          k) < room focus k0 → Knows procs mode env scope depth l own → Covers (free_names term) scope
          → Stands procs term next → Wait procs mode k others → ((o : Operand) (later : ℕ) (l1 : Locals C)
          → depth ≤ later → SameBelow depth l l1 → Below later o → (v : CoerValue C) → Carries procs v (value l1 own o)
          → Taken procs mode v frame (Own (Inside (rest o later) l1 own))) → (m : Option Operand) → atom term scope ≡ m
          → Sim focus k0 (Own (Inside (placed m depth (code term scope depth next) rest) l own)) others (On (Own
          (Eval term env)) (frame ∷ k) store world)
      operand_next focus k0 term env frame k scope depth next l own rest others live calm fr less knows covers st waits
          taken (Some o) e =
          let z = size_live focus k0 live in
          stays_on focus k0 (Own (Eval term env)) (frame ∷ k) (Own (Inside (rest o depth) l own)) others calm (omega
          (arith, z, less)) (inr (
            record {
              scope = scope;
              l = l;
              own = own;
              operand = o;
              is_atom = e;
              fits = knows.fits;
              taken = λ v c. taken o depth l (le_refl depth) (λ i lt. refl) (atom_below depth term scope o knows.below
                  e) v c;
            },
            waits,
          )) (none_asked _)
      operand_next focus k0 term env frame k scope depth next l own rest others live calm fr less knows covers st waits
          taken None e =
          let body = rest (Local depth) (suc depth) in
          let inside = in_code procs mode term env scope depth next l own knows covers st in
          let waiting : FrameOn procs mode frame (OwnFrame (Waiting depth body l own)) = λ v u c. taken (Local depth)
          (suc depth) (set_local l depth u) (omega arith) (set_same depth l u) (omega arith) v (subst
          (Carries procs v) (sym (set_here depth l u)) c) in
          concludes focus k0 (Own (Inside (LetBody depth (code term scope depth next) body) l own)) others (On (Own
          (Eval term env)) (frame ∷ k) store world) (On (Own (Inside (code term scope depth next) l own)) (OwnFrame
          (Waiting depth body l own) ∷ others) cells world) live refl refl fr (none_asked _) (sym calm) tt (
            inl
                (inside, (waiting, waits)),
            held,
            refl,
          ) (pays_none (cost focus k0))
          (let no = no_atom term scope e covers in omega (arith, no))

      -- operands of several terms
      finishes : (focus : CoerFocus C) (k0 : List (CoerFrame C)) (job : Job C) (done : List (CoerValue C)) (k : List
          (CoerFrame C)) (os : List Operand) (l : Locals C) (own : Group C) (others : List (FlatFrame C))
          → ended_at focus k0 ≡ None → turn_wraps mode focus k0 ≡ 0 → length others ≤ length k0
          → job_words job done ≤ turn_words mode focus k0 → Pays (job_cost prices job done) (cost focus k0)
          → CarriesAll procs (values_of job done) (values l own os)
          → Wait procs mode k others → Sim focus k0 (Own (Inside (finish_code (finish_of job) os) l own)) others
          (finish mode store world job (onto done []) k)
      finishes focus k0 (Calling f) done k [] l own others live calm fr asked pays c waits = absurd c
      finishes focus k0 (Calling f) done k (o ∷ os) l own others live calm fr asked pays c waits =
          concludes focus k0 (Own (Inside (Call o os) l own)) others (finish mode store world (Calling f)
          (onto done []) k) (On (Entering (value l own o) [] (all_plain (values l own os))) others cells world) live
          refl refl fr (none_asked _) (sym calm) tt (
            (
              (record {
                g = value l own o;
                before = [];
                after = all_plain (values l own os);
                enters = refl;
                function =
                    c.0;
                carries = tt;
                pends = pends_all procs mode (onto done []) (values l own os) c.1;
              }),
              waits,
            ),
            held,
            refl,
          ) pays (none_asked _)
      finishes focus k0 Tupling done k os l own others live calm fr asked pays c waits =
          let e : length os ≡ length done = sym (values_long l own os)
          ∙ (sym (as_long procs (onto done []) (values l own os) c) ∙ onto_long_alone done) in
          let le = tuple_le os done e in
          concludes focus k0 (Own (Inside (Give (Tuple os)) l own)) others (finish mode store world Tupling
          (onto done []) k) (gives mode (flat_arity procs) (flat_entered procs) cells world (RunTuple (in_row
          (values l own os))) others) live refl refl fr (omega (arith, le, asked)) (sym calm) tt
          (a_gives procs mode store cells world held k others waits (RunTuple (in_row (onto done []))) (RunTuple
          (in_row (values l own os))) (list_parts procs (onto done []) (values l own os) c))
          (subst (λ n. Pays (prices.other (Some Makes) n 0) (cost focus k0)) (sym (tuple_same os done e)) pays)
          (none_asked _)
      finishes focus k0 (Operating op) done k os l own others live calm fr asked pays c waits =
          let same = words_same procs op (onto done []) (values l own os) c in
          let x = operate mode code_arity entered store world op (onto done []) k in
          concludes focus k0 (Own (Inside (Give (Prim op os)) l own)) others x (operate mode (flat_arity procs)
          (flat_entered procs) cells world op (values l own os) others) live refl refl fr (omega
          (arith, same, asked)) (sym calm) (subst (λ n. Costs x n) (sym calm) (costs_nothing x))
          (a_operate procs mode store cells world held k others waits op (onto done []) (values l own os) c)
          (subst (λ kind. Pays (prices.other (Some kind) 0 0) (cost focus k0))
          (sym (kind_same procs op (onto done []) (values l own os) c)) pays)
          (let few = begins_few x in let one = act (operating_kind op (onto done [])) 0 0 in let le = pays.acts in
          omega (arith, few, one, le))

      gathers_on : (focus : CoerFocus C) (k0 : List (CoerFrame C)) (job : Job C) (done : List (CoerValue C))
          (terms : RowTerms) (env : Env C) (k : List (CoerFrame C)) (g : FlatFocus C) (others : List (FlatFrame C))
          → ended_at focus k0 ≡ None → turn_wraps mode focus k0 ≡ 0 → length others ≤ length k0
          → weight_for terms + frames_weight k ≤ room focus k0 → AtEnd terms (job_words job done)
          (turn_words mode focus k0) → PaysAtEnd terms (job_cost prices job done) (cost focus k0)
          → (h : Gathers procs mode terms (values_of job done) (finish_of job) env g)
          → Wait procs mode k others → Sim focus k0 (Own (Inside (gather terms h.scope h.depth h.next h.os (finish_code
          (finish_of job))) h.l h.own)) others (run_gather mode store world job done terms env k)
      gathers_on focus k0 job done NoRowTerms env k g others live calm fr le asked pays h waits =
          finishes focus k0 job done k h.os h.l h.own others live calm fr asked pays h.carries waits
      gathers_on focus k0 job done (RowTermThen term rest) env k g others live calm fr le asked pays h waits =
          operand_next focus k0 term env (OwnFrame (GatherFrame job done rest env)) k h.scope h.depth h.next h.l h.own
          (λ o later. gather rest h.scope later (h.next + made term) (h.os ++ o ∷ []) (finish_code
          (finish_of job))) others live calm fr (omega (arith, le)) h.knows (covers_left (free_names term)
          (free_names_of_all rest) h.scope h.covers) h.stands.0 waits (λ o later l1 more same below v c. record {
            scope = h.scope;
            depth = later;
            next = h.next + made term;
            os = h.os ++ o ∷ [];
            l = l1;
            own = h.own;
            runs = refl;
            knows = knows_later procs mode env h.scope h.depth later h.l l1 h.own more same h.knows;
            carries = subst (λ vs. CarriesAll procs vs (values l1 h.own (h.os ++ o ∷ []))) (sym
                (values_more job done v)) (carries_append procs (values_of job done) (v ∷ []) l1 h.own h.os (o ∷ [])
                (carried_later procs mode (values_of job done) h.os h.depth h.l l1 h.own same h.below h.carries)
                (c, tt));
            below = each_append (Below later) h.os (o ∷ []) (all_below_more h.depth later h.os more h.below)
                (below, tt);
            covers = covers_right (free_names term) (free_names_of_all rest) h.scope h.covers;
            stands = h.stands.1;
          }) (atom term h.scope) refl

      gathers_does : (focus : CoerFocus C) (k0 : List (CoerFrame C)) (job : Job C) (done : List (CoerValue C))
          (terms : RowTerms) (env : Env C) (k : List (CoerFrame C)) (g : FlatFocus C) (others : List (FlatFrame C))
          → ended_at focus k0 ≡ None → turn_wraps mode focus k0 ≡ 0 → length others ≤ length k0
          → weight_for terms + frames_weight k ≤ room focus k0 → AtEnd terms (job_words job done)
          (turn_words mode focus k0) → PaysAtEnd terms (job_cost prices job done) (cost focus k0)
          → Gathers procs mode terms (values_of job done) (finish_of job) env g
          → Wait procs mode k others → Sim focus k0 g others (run_gather mode store world job done terms env k)
      gathers_does focus k0 job done terms env k g others live calm fr le asked pays h waits =
          subst (λ x. Sim focus k0 x others (run_gather mode store world job done terms env k)) (sym h.runs)
          (gathers_on focus k0 job done terms env k g others live calm fr le asked pays h waits)

      -- those of a let
      binds_on : (focus : CoerFocus C) (k0 : List (CoerFrame C)) (bound : List (ℕ × CoerValue C))
          (bindings : RowBindings) (body : RowTerm) (env : Env C) (k : List (CoerFrame C)) (g : FlatFocus C)
          (others : List (FlatFrame C)) → ended_at focus k0 ≡ None → turn_wraps mode focus k0 ≡ 0
          → length others ≤ length k0 → weight_by bindings + suc (weight body) + frames_weight k ≤ room focus k0
          → ActsAtEnd bindings (cost focus k0)
          → (h : Binds procs mode (onto bound []) bindings body env g) → Wait procs mode k others
          → Sim focus k0 (Own (Inside (gather_let bindings h.scope h.depth h.next h.os (λ os later. code body
          (bind_operands (firsts (onto bound []) ++ row_binding_names bindings) os h.scope) later h.after)) h.l h.own))
          others (bind_next mode store world bound bindings body env k)
      binds_on focus k0 bound NoRowBindings body env k g others live calm fr le acts h waits =
          let z = size_live focus k0 live in
          let entries = onto bound [] in
          let names = firsts entries ++ [] in
          let scope1 = bind_operands names h.os h.scope in
          let same : names ≡ firsts entries = append-nil (firsts entries) in
          let long : length names ≡ length h.os = ap length same ∙ (firsts_long entries
          ∙ (as_long procs (seconds entries) (values h.l h.own h.os) h.carries ∙ values_long h.l h.own h.os)) in
          let inside = in_code procs mode body (entries ++ env) scope1 h.depth h.after h.l h.own (record {
            fits = subst (λ n. Fits procs (entries ++ env) (means (bind_operands n h.os h.scope) h.l h.own)) (sym same)
                (fits_extend procs entries h.os env h.scope h.l h.own h.carries h.knows.fits);
            below = each_bound (Below h.depth) names h.os h.scope h.below h.knows.below;
          }) (covers_bound (free_names body) names h.os h.scope long h.covers_body) h.stands_body in
          stays_on focus k0 (Own (Eval body (entries ++ env))) k (Own (Inside (code body scope1 h.depth h.after) h.l
          h.own)) others calm (omega (arith, z, le)) (inl (inside, waits))
          (let few = atom_few body in omega (arith, few, acts))
      binds_on focus k0 bound (RowBindingThen name term rest) body env k g others live calm fr le acts h waits =
          let entries = onto bound [] in
          let names = firsts entries ++ (name ∷ row_binding_names rest) in
          operand_next focus k0 term env (OwnFrame (LetFrame bound name rest body env)) k h.scope h.depth h.next h.l
          h.own (λ o later. gather_let rest h.scope later (h.next + made term) (h.os ++ o ∷ [])
          (λ os later1. code body (bind_operands names os h.scope) later1 h.after)) others live calm fr (omega
          (arith, le)) h.knows (covers_left (free_names term) (free_names_of_bindings rest) h.scope h.covers)
          h.stands.0 waits (λ o later l1 more same below v c.
          let more_entries : onto bound ((name, v) ∷ []) ≡ entries ++ (name, v) ∷ [] = onto_append bound
          ((name, v) ∷ []) in
          let same_names : names ≡ firsts (onto bound ((name, v) ∷ [])) ++ row_binding_names rest = sym (ap
          (λ x. firsts x ++ row_binding_names rest) more_entries ∙ (ap (λ x. x ++ row_binding_names rest)
          (firsts_append entries ((name, v) ∷ [])) ∙ append_assoc (firsts entries) (name ∷ [])
          (row_binding_names rest))) in
          record {
            scope = h.scope;
            depth = later;
            next = h.next + made term;
            after = h.after;
            os = h.os ++ o ∷ [];
            l = l1;
            own = h.own;
            runs = ap (λ n. Own (Inside (gather_let rest h.scope later (h.next + made term) (h.os ++ o ∷ [])
                (λ os later1. code body (bind_operands n os h.scope) later1 h.after)) l1 h.own)) same_names;
            knows = knows_later procs mode env h.scope h.depth later h.l l1 h.own more same h.knows;
            carries = subst (λ vs. CarriesAll procs vs (values l1 h.own (h.os ++ o ∷ []))) (sym (ap seconds more_entries
                ∙ seconds_append entries ((name, v) ∷ []))) (carries_append procs (seconds entries)
                (v ∷ []) l1 h.own h.os (o ∷ []) (carried_later procs mode (seconds entries) h.os h.depth h.l l1 h.own
                same h.below h.carries) (c, tt));
            below = each_append (Below later) h.os (o ∷ []) (all_below_more h.depth later h.os more h.below)
                (below, tt);
            covers = covers_right (free_names term) (free_names_of_bindings rest) h.scope h.covers;
            covers_body = subst (λ n. Covers (names_besides n (free_names body)) h.scope) same_names h.covers_body;
            stands = h.stands.1;
            stands_body = h.stands_body;
          }) (atom term h.scope) refl

      binds_does : (focus : CoerFocus C) (k0 : List (CoerFrame C)) (bound : List (ℕ × CoerValue C))
          (bindings : RowBindings) (body : RowTerm) (env : Env C) (k : List (CoerFrame C)) (g : FlatFocus C)
          (others : List (FlatFrame C)) → ended_at focus k0 ≡ None → turn_wraps mode focus k0 ≡ 0
          → length others ≤ length k0 → weight_by bindings + suc (weight body) + frames_weight k ≤ room focus k0
          → ActsAtEnd bindings (cost focus k0)
          → Binds procs mode (onto bound []) bindings body env g → Wait procs mode k others
          → Sim focus k0 g others (bind_next mode store world bound bindings body env k)
      binds_does focus k0 bound bindings body env k g others live calm fr le acts h waits =
          subst (λ x. Sim focus k0 x others (bind_next mode store world bound bindings body env k)) (sym h.runs)
          (binds_on focus k0 bound bindings body env k g others live calm fr le acts h waits)

      -- ---- a value comes back

      runs_code : (term : RowTerm) (env : Env C) (k : List (CoerFrame C)) (scope : Scope) (depth next : ℕ)
          (l : Locals C) (own : Group C) (others : List (FlatFrame C)) → Knows procs mode env scope depth l own
          → Covers (free_names term) scope → Stands procs term next → Wait procs mode k others
          → Same (goes mode code_arity entered store world (Own (Eval term env)) k)
          (On (Own (Inside (code term scope depth next) l own)) others cells world)
      runs_code term env k scope depth next l own others knows covers st waits =
          (inl (in_code procs mode term env scope depth next l own knows covers st, waits), held, refl)

      chooses : (a b : RowTerm) (v : CoerValue C) (u : FlatValue C) (env : Env C) (k : List (CoerFrame C))
          (scope : Scope) (depth next other : ℕ) (l : Locals C) (own : Group C) (others : List (FlatFrame C))
          → Knows procs mode env scope depth l own → Carries procs v u → Covers (free_names a ++ free_names b) scope
          → Stands procs a next → Stands procs b other → Wait procs mode k others
          → Same (choose mode store world v a b env k) (flat_choose procs mode cells world u (code a scope depth next)
          (code b scope depth other) l own others)
      chooses a b (RunBool true) u env k scope depth next other l own others knows c covers st st1 waits =
          subst (λ x. Same (goes mode code_arity entered store world (Own (Eval a env)) k)
          (flat_choose procs mode cells world x (code a scope depth next) (code b scope depth other) l own others))
          (sym (bool_carried procs true u c))
          (runs_code a env k scope depth next l own others knows
          (covers_left (free_names a) (free_names b) scope covers) st waits)
      chooses a b (RunBool false) u env k scope depth next other l own others knows c covers st st1 waits =
          subst (λ x. Same (goes mode code_arity entered store world (Own (Eval b env)) k)
          (flat_choose procs mode cells world x (code a scope depth next) (code b scope depth other) l own others))
          (sym (bool_carried procs false u c))
          (runs_code b env k scope depth other l own others knows
          (covers_right (free_names a) (free_names b) scope covers) st1 waits)
      chooses a b v u env k scope depth next other l own others knows c covers st st1 waits = tt

      taken_does : (v : CoerValue C) (frame : CoerFrame C) (k : List (CoerFrame C)) (g : FlatFocus C) (others : List
          (FlatFrame C)) → Taken procs mode v frame g → Wait procs mode k others
          → Sim (Return v) (frame ∷ k) g others (back mode store world v frame k)
      taken_does v (OwnFrame (IfFrame a b env)) k g others h waits =
          let focus : CoerFocus C = Return v in
          let x = choose mode store world v a b env k in
          subst (λ f. Sim focus (OwnFrame (IfFrame a b env) ∷ k) f others x) (sym h.runs)
          (concludes focus (OwnFrame (IfFrame a b env) ∷ k) (Own (Inside (Choose h.o (code a h.scope h.depth h.next)
          (code b h.scope h.depth h.other)) h.l h.own)) others x (flat_choose procs mode cells world
          (value h.l h.own h.o) (code a h.scope h.depth h.next) (code b h.scope h.depth h.other) h.l h.own
          others) refl refl refl (fr1 procs mode (OwnFrame (IfFrame a b env)) k others waits)
          (none_asked _) refl (costs_nothing x)
          (chooses a b v (value h.l h.own h.o) env k h.scope h.depth h.next h.other h.l h.own others h.knows
          h.carries h.covers h.stands_a h.stands_b waits) (pays_same _ _ refl)
          (let few = begins_few x in let one = act Acts 0 0 in omega (arith, few, one)))
      taken_does v (OwnFrame (SeqFrame term rest env)) k g others h waits =
          stays_on (Return v) (OwnFrame (SeqFrame term rest env) ∷ k) (Own (Eval (RowSeq (RowTermThen term rest)) env))
          k
          g others refl (omega arith) (inl (h, waits)) (none_asked _)
      taken_does v (OwnFrame (FunFrame arguments env)) k g others h waits =
          gathers_does (Return v) (OwnFrame (FunFrame arguments env) ∷ k) (Calling v) [] arguments env k g others refl
          refl (fr1 procs mode (OwnFrame (FunFrame arguments env)) k others waits) (omega arith) (at_end arguments 0
          (turn_words mode (Return v) (OwnFrame (FunFrame arguments env) ∷ k)) (none_asked _))
          (fun_pays mode prices arguments env v k) h waits
      taken_does v (CastFrame cast) k g others h waits =
          let a = h.2 in
          let u = value a.l a.own a.o in
          let focus1 : FlatFocus C = Own (Inside (Give (Cast a.o h.0)) a.l a.own) in
          let x = run_cast mode code_arity entered store world v cast k in
          let y = flat_cast procs mode cells world u cast others in
          let step : flat_turn procs mode cells world focus1 others ≡ y = ap (λ r. on_some r
          (λ c. flat_cast procs mode cells world u c others)) h.1 in
          let decides : decision_at procs mode (mode.row h.0) u ≡ mode.cast cast (shape_of code_arity v) = ap
          (λ r. decision_at procs mode r u) h.1 ∙ ap (mode.cast cast) (sym (same_shape procs v u a.carries)) in
          subst (λ f. Sim (Return v) (CastFrame cast ∷ k) f others x) (sym a.runs)
          (concludes (Return v) (CastFrame cast ∷ k) focus1 others x y refl refl step (fr1 procs mode
          (CastFrame cast) k others waits) (as_many (ap decision_words decides)) (ap decision_wraps decides)
          (make_costs mode store world (mode.cast cast (shape_of code_arity v)) v k)
          (a_cast procs mode store cells world held k others waits v u cast a.carries)
          (pays_same _ _ (ap (λ r. cast_cost procs mode prices r u) h.1
          ∙ ap (prices.cast cast) (sym (same_shape procs v u a.carries))))
          (let no = cast_begins mode store world v cast k in omega (arith, no)))
      taken_does v (ProjFrame i) k g others a waits =
          let u = value a.l a.own a.o in
          let x = run_proj mode code_arity entered store world v i k in
          subst (λ f. Sim (Return v) (ProjFrame i ∷ k) f others x) (sym a.runs)
          (concludes (Return v) (ProjFrame i ∷ k) (Own (Inside (Give (Proj a.o i)) a.l a.own)) others x
          (run_proj mode (flat_arity procs) (flat_entered procs) cells world u i others) refl refl refl
          (fr1 procs mode (ProjFrame i) k others waits) (none_asked _) refl (costs_nothing x)
          (a_proj procs mode store cells world held k others waits v u i a.carries) (pays_same _ _ refl)
          (let few = begins_few x in let one = act Acts 0 0 in omega (arith, few, one)))
      taken_does v (OwnFrame (ProjDynFrame i label)) k g others a waits =
          let u = value a.l a.own a.o in
          let x = run_proj_dyn mode code_arity entered store world v i label k in
          subst (λ f. Sim (Return v) (OwnFrame (ProjDynFrame i label) ∷ k) f others x) (sym a.runs)
          (concludes (Return v) (OwnFrame (ProjDynFrame i label) ∷ k) (Own (Inside (Give (ProjDyn a.o i
          (label_id label))) a.l a.own)) others x (run_proj_dyn mode (flat_arity procs)
          (flat_entered procs) cells world u i label others) refl refl refl (fr1 procs mode (OwnFrame
          (ProjDynFrame i label)) k others waits) (none_asked _) refl (costs_nothing x)
          (a_proj_dyn procs mode store cells world held k others waits v u i label a.carries) (pays_same _ _ refl)
          (let no = part_begins mode store world v i label k in omega (arith, no)))
      taken_does v (OwnFrame (GatherFrame job done rest env)) k g others h waits =
          gathers_does (Return v) (OwnFrame (GatherFrame job done rest env) ∷ k) job (v ∷ done) rest env k g others refl
          refl (fr1 procs mode (OwnFrame (GatherFrame job done rest env)) k others waits) (omega arith)
          (at_last mode job done rest env v k) (last_pays mode prices job done rest env v k) h waits
      taken_does v (OwnFrame (LetFrame bound name rest body env)) k g others h waits =
          binds_does (Return v) (OwnFrame (LetFrame bound name rest body env) ∷ k) ((name, v) ∷ bound) rest body env k g
          others refl refl (fr1 procs mode (OwnFrame (LetFrame bound name rest body env)) k others waits)
          (omega arith) (bind_acts mode prices act rest 0 0) h waits
      taken_does v (PrimFrame op done) k g others h waits = absurd h
      taken_does v (EnterFrame f done todo) k g others h waits = absurd h

      returns : (focus : CoerFocus C) (k0 : List (CoerFrame C)) (v : CoerValue C) (k : List (CoerFrame C)) (o : Operand)
          (l : Locals C) (own : Group C) (others : List (FlatFrame C)) → ended_at focus k0 ≡ None
          → turn_wraps mode focus k0 ≡ 0 → length others ≤ length k0 → Carries procs v (value l own o)
          → Wait procs mode k others → 1 ≤ p → Sim focus k0 (Own (Inside (Give (Move o)) l own)) others
          (gives mode code_arity entered store world v k)
      returns focus k0 v k o l own others live calm fr c waits enough =
          concludes focus k0 (Own (Inside (Give (Move o)) l own)) others (gives mode code_arity entered store world v k)
          (gives mode (flat_arity procs) (flat_entered procs) cells world (value l own o) others) live refl refl fr
          (none_asked _) (sym calm) tt (a_gives procs mode store cells world held k others waits v
          (value l own o) c) (pays_none (cost focus k0)) (omega (arith, enough))

    -- with at most two turns
    module _ (p : ℕ) where
      abbrev SimF : CoerFocus C → List (CoerFrame C) → FlatFocus C → List (FlatFrame C) → CoerAfter C → Type 0
      SimF focus k g others x = Moves false p focus k g others x

      -- to a step on values
      does_op : (op other : PrimOp) (v : CoerValue C) (done : List (CoerValue C)) (before : List (FlatValue C))
          (k : List (CoerFrame C)) (u : FlatValue C) (others : List (FlatFrame C)) → op ≡ other
          → CarriesAll procs done before → Wait procs mode k others → Carries procs v u
          → SimF (Return v) (PrimFrame op done ∷ k) (Return u) (PrimFrame other before ∷ others)
          (operate mode code_arity entered store world op (onto done (v ∷ [])) k)
      does_op op other v done before k u others e c waits d =
          let x = operate mode code_arity entered store world op (onto done (v ∷ [])) k in
          let all = onto_carried procs done (v ∷ []) before (u ∷ []) c (d, tt) in
          subst (λ p. SimF (Return v) (PrimFrame op done ∷ k) (Return u) (PrimFrame p before ∷ others) x) e
          (concludes false p (Return v) (PrimFrame op done ∷ k) (Return u) (PrimFrame op before ∷ others) x
          (flat_operate procs mode cells world op (onto before (u ∷ [])) others) refl refl refl (fr2 procs mode
          (PrimFrame op done) (PrimFrame op before) k others waits) (as_many (words_same procs op (onto done
          (v ∷ [])) (onto before (u ∷ [])) all)) refl (costs_nothing x)
          (a_operate procs mode store cells world held k others waits op (onto done (v ∷ [])) (onto before
          (u ∷ [])) all) (pays_same _ _ (ap (λ kind. prices.other (Some kind) 0 0)
          (kind_same procs op (onto done (v ∷ [])) (onto before (u ∷ [])) all)))
          (let few = begins_few x in let one = act (operating_kind op (onto done (v ∷ []))) 0 0 in
          omega (arith, few, one)))

      given_does : (v : CoerValue C) (frame : CoerFrame C) (k : List (CoerFrame C)) (u : FlatValue C)
          (other : FlatFrame C) (others : List (FlatFrame C)) → FrameOn procs mode frame other
          → Wait procs mode k others → Carries procs v u → SimF (Return v) (frame ∷ k) (Return u) (other ∷ others)
          (back mode store world v frame k)
      given_does v frame k u (OwnFrame (Waiting slot body l own)) others h waits c =
          let g1 : FlatFocus C = Own (Inside body (set_local l slot u) own) in
          let x = back mode store world v frame k in
          let more = taken_does true p v frame k g1 others (h v u c) waits in
          inr (inr (inr (record {
            g1 = g1;
            others1 = others;
            none = refl;
            turn = refl;
            frames = fr2 procs mode frame (OwnFrame (Waiting slot body l own)) k others waits;
            words = refl;
            wraps = refl;
            pays = refl;
            atoms = refl;
            next = more;
          })))
      given_does v (CastFrame cast) k u (CastFrame other) others h waits c =
          let x = run_cast mode code_arity entered store world v cast k in
          let decides : decision_at procs mode (Some cast) u ≡ mode.cast cast (shape_of code_arity v) = ap
          (mode.cast cast) (sym (same_shape procs v u c)) in
          subst (λ d. SimF (Return v) (CastFrame cast ∷ k) (Return u) (CastFrame d ∷ others) x) h
          (concludes false p (Return v) (CastFrame cast ∷ k) (Return u) (CastFrame cast ∷ others) x
          (flat_cast procs mode cells world u cast others) refl refl refl (fr2 procs mode (CastFrame cast)
          (CastFrame cast) k others waits) (as_many (ap decision_words decides)) (ap decision_wraps decides)
          (make_costs mode store world (mode.cast cast (shape_of code_arity v)) v k)
          (a_cast procs mode store cells world held k others waits v u cast c)
          (pays_same _ _ (ap (prices.cast cast) (sym (same_shape procs v u c))))
          (let no = cast_begins mode store world v cast k in omega (arith, no)))
      given_does v (ProjFrame i) k u (ProjFrame j) others h waits c =
          let x = run_proj mode code_arity entered store world v i k in
          subst (λ d. SimF (Return v) (ProjFrame i ∷ k) (Return u) (ProjFrame d ∷ others) x) h
          (concludes false p (Return v) (ProjFrame i ∷ k) (Return u) (ProjFrame i ∷ others) x
          (flat_proj procs mode cells world u i others) refl refl refl (fr2 procs mode (ProjFrame i)
          (ProjFrame i) k others waits) (none_asked _) refl (costs_nothing x)
          (a_proj procs mode store cells world held k others waits v u i c) (pays_same _ _ refl)
          (let few = begins_few x in let one = act Acts 0 0 in omega (arith, few, one)))
      given_does v (PrimFrame op done) k u (PrimFrame other before) others h waits c = does_op op other v done before k
          u others h.0 h.1 waits c
      given_does v (EnterFrame f done todo) k u (EnterFrame g before after) others h waits c =
          concludes false p (Return v) (EnterFrame f done todo ∷ k) (Return u) (EnterFrame g before after ∷ others)
          (goes mode code_arity entered store world (Entering f (v ∷ done) todo) k) (On (Entering g
          (u ∷ before) after) others cells world) refl refl refl (fr2 procs mode (EnterFrame f done todo)
          (EnterFrame g before after) k others waits) (none_asked _) refl tt (
            (
              (record {
                g = g;
                before = u ∷ before;
                after = after;
                enters = refl;
                function = h.0;
                carries =
                    (c, h.1);
                pends = h.2;
              }),
              waits,
            ),
            held,
            refl,
          ) (pays_none _) (none_asked _)
      given_does v frame k u other others h waits c = absurd h

      -- ---- terms whose code is run

      var_code : (name : ℕ) (env : Env C) (k : List (CoerFrame C)) (scope : Scope) (depth : ℕ) (l : Locals C)
          (own : Group C) (others : List (FlatFrame C)) → Knows procs mode env scope depth l own
          → Covers (name ∷ []) scope → Wait procs mode k others → 1 ≤ p → SimF (Own (Eval (RowVar name) env)) k
          (Own (Inside
          (Give (Move (operand_or_unit (scope name)))) l own)) others (eval mode store world (RowVar name) env k)
      var_code name env k scope depth l own others knows covers waits enough =
          let m = covers_one name scope covers in
          let o = operand_or_unit (scope name) in
          let e : o ≡ m.0 = ap operand_or_unit m.1 in
          let found = fits_found procs name env (means scope l own) (value l own m.0) knows.fits (ap (option_map
          (value l own)) m.1) in
          subst (λ x. SimF (Own (Eval (RowVar name) env)) k (Own (Inside (Give (Move o)) l own)) others (on_some x
          (λ v. gives mode code_arity entered store world v k))) (sym found.1)
          (returns false p (Own (Eval (RowVar name) env)) k found.0 k o l own others refl refl
          (fr0 procs mode k others waits) (subst (λ z. Carries procs found.0 (value l own z))
          (sym e) found.2) waits enough)

      lambda_code : (parameters : List ℕ) (body : RowTerm) (type : ℕ) (env : Env C) (k : List (CoerFrame C))
          (scope : Scope) (depth next : ℕ) (l : Locals C) (own : Group C) (others : List (FlatFrame C))
          → Knows procs mode env scope depth l own → Covers (names_besides [] (free_names_of_members
          (alone parameters body type))) scope → GroupStands procs [] (alone parameters body type) next
          → Wait procs mode k others → SimF (Own (Eval (RowLambda parameters body type) env)) k (Own (Inside (code
          (RowLambda parameters body type) scope depth next) l own)) others (eval mode store world
          (RowLambda parameters body type) env k)
      lambda_code parameters body type env k scope depth next l own others knows covers st waits =
          let members = alone parameters body type in
          let caps = captures [] members in
          let captured = in_row (values l own (meanings_of caps scope)) in
          let first = next + (made body + 0) in
          let l1 = set_group l depth 1 (group_of first captured) in
          let fits = group_captured procs [] members env scope l own knows.fits covers in
          let v : CoerValue C = closure parameters body type env in
          let holds : Carries procs v (fun_of first 0 captured) = (next, refl, refl, st, fits) in
          let holds1 : Carries procs v (l1 depth) = subst (Carries procs v) (sym (group_slot l depth first 1 captured 0
          depth (omega arith) (omega arith))) holds in
          let g : FlatFocus C = Own (Inside (code (RowLambda parameters body type) scope depth next) l own) in
          let g1 : FlatFocus C = Own (Inside (Give (Move (Local depth))) l1 own) in
          let a = meanings_long caps scope in
          let b : length (lambda_captures parameters body) ≡ length caps = ap length (lambda_alone parameters body type)
          in
          let many : 2 * 1 + length (meanings_of caps scope) ≡ 2 + length (lambda_captures parameters body) =
          omega (arith, a, b) in
          let one = act Makes (2 + length (lambda_captures parameters body)) (2 + length (lambda_captures parameters
          body)) in
          inr (inr (inl (record {
            g1 = g1;
            u = l1 depth;
            none = refl;
            none1 = refl;
            turn = refl;
            turn1 = refl;
            frames = fr0 procs mode k others waits;
            later_frames = fr0 procs mode k others waits;
            output = refl;
            words = omega (arith, a, b);
            words1 = refl;
            free = refl;
            free1 = refl;
            calm = refl;
            pays = pays_same _ _ (ap (λ n. prices.other (Some Makes) n n) many);
            pays1 = refl;
            related = inl (record {
              ended = refl;
              other = refl;
              on = inl (record { u = l1 depth; gives = refl; carries = holds1 }, waits);
              cells = held;
              world = refl;
            });
            atoms = omega (arith, one);
          })))

      group_code : (members : RowMembers) (body : RowTerm) (env : Env C) (k : List (CoerFrame C)) (scope : Scope)
          (depth next : ℕ) (l : Locals C) (own : Group C) (others : List (FlatFrame C))
          → Knows procs mode env scope depth l own → Covers (free_names (RowGroup members body)) scope
          → Stands procs (RowGroup members body) next → Wait procs mode k others
          → SimF (Own (Eval (RowGroup members body) env)) k (Own (Inside (code (RowGroup members body) scope depth next)
          l own)) others (eval mode store world (RowGroup members body) env k)
      group_code NoRowMembers body env k scope depth next l own others knows covers st waits =
          stays_on false p (Own (Eval (RowGroup NoRowMembers body) env)) k (Own (Eval body env)) k (Own (Inside
          (code body scope depth (next + 0 + 0)) l own)) others refl (omega arith) (inl (
            in_code procs mode body env scope depth
                (next + 0 + 0) l own knows (subst (λ ns. Covers ns scope) (besides_none (free_names body)) covers) st.1,
            waits,
          ))
          (let few = atom_few body in let words = eval_words (RowGroup NoRowMembers body) in
          let one = act Makes words words in omega (arith, few, one))
      group_code (RowMemberThen name parameters inner type others_in) body env k scope depth next l own others knows
          covers st waits =
          let members = RowMemberThen name parameters inner type others_in in
          let names = row_member_names members in
          let caps = captures names members in
          let captured = in_row (values l own (meanings_of caps scope)) in
          let first = next + made_in members in
          let count = length names in
          let l1 = set_group l depth count (group_of first captured) in
          let os = numbered (λ i. Local i) names depth in
          let scope1 = bind_operands names os scope in
          let own_names = env_names env in
          let caught = in_row (env_values env) in
          let entries = members_in members own_names caught members 0 in
          let both : Covers (names_besides names (free_names_of_members members) ++ names_besides names
          (free_names body)) scope = subst (λ ns. Covers ns scope) (besides_append names
          (free_names_of_members members) (free_names body)) covers in
          let fits = group_captured procs names members env scope l own knows.fits (covers_left (names_besides names
          (free_names_of_members members)) (names_besides names (free_names body)) scope both) in
          let kept = knows_later procs mode env scope depth (depth + count) l l1 own (omega arith)
          (group_same l depth first count captured) knows in
          let all = members_held procs members own_names caught next first captured refl st.0 fits members 0
          (omega arith) in
          let carried = members_carry procs first captured (seconds entries) names 0 depth count depth l own
          (omega arith) (omega arith) (members_seconds members own_names caught members 0) all in
          let after = next + made_in members + row_member_count members in
          let inside = in_code procs mode body (entries ++ env) scope1 (depth + count) after l1 own (record {
            fits = subst (λ n. Fits procs (entries ++ env) (means (bind_operands n os scope) l1 own))
                (members_firsts members own_names caught members 0) (fits_extend procs entries os env scope l1 own
                carried kept.fits);
            below = each_bound (Below (depth + count)) names os scope
                (locals_below names depth (depth + count) (omega arith))
                kept.below;
          }) (covers_bound (free_names body) names os scope (numbered_long (λ i. Local i) names depth)
          (covers_right (names_besides names (free_names_of_members members)) (names_besides names (free_names body))
          scope both)) st.1 in
          let a : length (meanings_of caps scope) ≡ length (group_captures members) = meanings_long caps scope in
          let b = names_long members in
          let words = 2 * row_member_count members + length (group_captures members) in
          let many : 2 * count + length (meanings_of caps scope) ≡ words = omega (arith, a, b) in
          concludes false p (Own (Eval (RowGroup members body) env)) k (Own (Inside (code (RowGroup members body) scope
          depth next) l own)) others (eval mode store world (RowGroup members body) env k) (On (Own (Inside
          (code body scope1 (depth + count) after) l1 own)) others cells world) refl refl refl
          (fr0 procs mode k others waits) (omega (arith, a, b)) refl tt (inl (inside, waits), held, refl)
          (pays_same _ _ (ap (λ n. prices.other (Some Makes) n n) many))
          (let few = atom_few body in let one = act Makes words words in omega (arith, few, one))

      coerce_code : (term : RowTerm) (n : ℕ) (env : Env C) (k : List (CoerFrame C)) (scope : Scope) (depth next : ℕ)
          (l : Locals C) (own : Group C) (others : List (FlatFrame C)) → Knows procs mode env scope depth l own
          → Covers (free_names term) scope → Stands procs term next → Wait procs mode k others → (r : Option C)
          → mode.row n ≡ r → SimF (Own (Eval (RowCast term n) env)) k (Own (Inside (code (RowCast term n) scope depth
          next) l own)) others (on_some r (λ cast. goes mode code_arity entered store world (Own (Eval term env))
          (CastFrame cast ∷ k)))
      coerce_code term n env k scope depth next l own others knows covers st waits None e = lost false p (Own (Eval
          (RowCast term n) env)) k (Own (Inside (code (RowCast term n) scope depth next) l own)) others refl
          (fr0 procs mode k others waits) refl
      coerce_code term n env k scope depth next l own others knows covers st waits (Some cast) e =
          operand_next false p (Own (Eval (RowCast term n) env)) k term env (CastFrame cast) k scope depth next l own
          (λ o later. Give (Cast o n)) others refl refl (fr0 procs mode k others waits)
          (omega arith) knows covers st waits (λ o later l1 more same below v c. (
            n,
            e,
            record {
              o = o;
              l = l1;
              own
                  = own;
              runs = refl;
              carries = c;
            },
          )) (atom term scope) refl

      seq_code : (terms : RowTerms) (env : Env C) (k : List (CoerFrame C)) (scope : Scope) (depth next : ℕ)
          (l : Locals C) (own : Group C) (others : List (FlatFrame C)) → Knows procs mode env scope depth l own
          → Covers (free_names_of_all terms) scope → StandsFor procs terms next → Wait procs mode k others
          → SimF (Own (Eval (RowSeq terms) env)) k (Own (Inside (sequence terms scope depth next) l own)) others
          (eval mode store world (RowSeq terms) env k)
      seq_code NoRowTerms env k scope depth next l own others knows covers st waits = lost false p (Own (Eval
          (RowSeq NoRowTerms) env)) k (Own (Inside (sequence NoRowTerms scope depth next) l own)) others refl
          (fr0 procs mode k others waits) refl
      seq_code (RowTermThen term NoRowTerms) env k scope depth next l own others knows covers st waits =
          stays_on false p (Own (Eval (RowSeq (RowTermThen term NoRowTerms)) env)) k (Own (Eval term env)) k (Own
          (Inside (sequence (RowTermThen term NoRowTerms) scope depth next) l own)) others refl (omega arith)
          (inl (
            in_code procs mode term env scope depth next l own knows
                (covers_left (free_names term) [] scope covers) st.0,
            waits,
          ))
          (let few = atom_few term in let one = act Acts 0 0 in omega (arith, few, one))
      seq_code (RowTermThen term (RowTermThen second rest)) env k scope depth next l own others knows covers st waits =
          operand_next false p (Own (Eval (RowSeq (RowTermThen term (RowTermThen second rest))) env)) k term env
          (OwnFrame (SeqFrame second rest env)) k scope depth next l own (λ o later. sequence
          (RowTermThen second rest) scope later (next + made term)) others refl refl (fr0 procs mode k others waits)
          (omega arith) knows (covers_left (free_names term) (free_names_of_all (RowTermThen second rest)) scope
          covers) st.0 waits
          (λ o later l1 more same below v c. in_code procs mode (RowSeq (RowTermThen second rest)) env scope later
          (next + made term) l1 own (knows_later procs mode env scope depth later l l1 own more same knows)
          (covers_right (free_names term) (free_names_of_all (RowTermThen second rest)) scope covers) st.1)
          (atom term scope) refl

      eval_code : (term : RowTerm) (env : Env C) (k : List (CoerFrame C)) (scope : Scope) (depth next : ℕ)
          (l : Locals C) (own : Group C) (others : List (FlatFrame C)) → Knows procs mode env scope depth l own
          → Covers (free_names term) scope → Stands procs term next → Wait procs mode k others → atom_term term ≤ p
          → SimF (Own (Eval term env)) k (Own (Inside (code term scope depth next) l own)) others
          (eval mode store world term env k)
      eval_code (RowInt n) env k scope depth next l own others knows covers st waits enough =
          returns false p (Own (Eval (RowInt n) env)) k (RunInt n) k (IntConst n) l own others refl refl (fr0 procs
          mode k others waits) refl waits
          enough
      eval_code (RowBool b) env k scope depth next l own others knows covers st waits enough =
          returns false p (Own (Eval (RowBool b) env)) k (RunBool b) k (BoolConst b) l own others refl refl (fr0 procs
          mode k others waits) refl
          waits enough
      eval_code RowUnit env k scope depth next l own others knows covers st waits enough =
          returns false p (Own (Eval RowUnit env)) k RunUnit k UnitConst l own others refl refl (fr0 procs mode k
          others waits) tt waits enough
      eval_code (RowVar name) env k scope depth next l own others knows covers st waits enough =
          var_code name env k scope
          depth l own others knows covers waits enough
      eval_code (RowLambda parameters body type) env k scope depth next l own others knows covers st waits enough =
          lambda_code parameters body type env k scope depth next l own others knows (covers_alone parameters body
          type scope
          covers) st waits
      eval_code (RowGroup members body) env k scope depth next l own others knows covers st waits enough =
          group_code members
          body env k scope depth next l own others knows covers st waits
      eval_code (RowLet bindings body) env k scope depth next l own others knows covers st waits enough =
          binds_does false p (Own (Eval (RowLet bindings body) env)) k [] bindings body env k (Own (Inside (code
          (RowLet bindings body) scope depth next) l own)) others refl refl (fr0 procs mode k others waits)
          (omega arith) (bind_acts mode prices act bindings 0 0) (record {
            scope = scope;
            depth = depth;
            next = next;
            after = next + made_by bindings;
            os = [];
            l = l;
            own = own;
            runs = refl;
            knows = knows;
            carries = tt;
            below = tt;
            covers = covers_left (free_names_of_bindings bindings) (names_besides (row_binding_names bindings)
                (free_names body)) scope covers;
            covers_body = covers_right (free_names_of_bindings bindings) (names_besides (row_binding_names bindings)
                (free_names body)) scope covers;
            stands = st.0;
            stands_body = st.1;
          }) waits
      eval_code (RowCall f arguments) env k scope depth next l own others knows covers st waits enough =
          operand_next false p (Own (Eval (RowCall f arguments) env)) k f env (OwnFrame (FunFrame arguments env)) k
          scope depth next l own (λ o later. gather arguments scope later (next + made f) (o ∷ [])
          (λ os. call_of os)) others refl refl (fr0 procs mode k others waits) (omega arith) knows (covers_left
          (free_names f) (free_names_of_all arguments) scope covers) st.0 waits (λ o later l1 more same below v c.
          record {
            scope = scope;
            depth = later;
            next = next + made f;
            os = o ∷ [];
            l = l1;
            own = own;
            runs = refl;
            knows = knows_later procs mode env scope depth later l l1 own more same knows;
            carries = (c, tt);
            below = (below, tt);
            covers = covers_right (free_names f) (free_names_of_all arguments) scope covers;
            stands = st.1;
          }) (atom f scope) refl
      eval_code (RowIf c a b) env k scope depth next l own others knows covers st waits enough =
          operand_next false p (Own (Eval (RowIf c a b) env)) k c env (OwnFrame (IfFrame a b env)) k scope depth next l
          own (λ o later. Choose o (code a scope later (next + made c)) (code b scope later
          (next + made c + made a))) others refl refl (fr0 procs mode k others waits) (omega arith) knows
          (covers_left (free_names c) (free_names a ++ free_names b) scope covers) st.0 waits
          (λ o later l1 more same below v carried. record {
            scope = scope;
            depth = later;
            next = next + made c;
            other = next + made c + made a;
            o = o;
            l = l1;
            own = own;
            runs = refl;
            knows = knows_later procs mode env scope depth later l l1 own more same knows;
            carries = carried;
            covers = covers_right (free_names c) (free_names a ++ free_names b) scope covers;
            stands_a = st.1;
            stands_b = st.2;
          }) (atom c scope) refl
      eval_code (RowSeq terms) env k scope depth next l own others knows covers st waits enough =
          seq_code terms env k scope
          depth next l own others knows covers st waits
      eval_code (RowCast term n) env k scope depth next l own others knows covers st waits enough =
          coerce_code term n env k
          scope depth next l own others knows covers st waits (mode.row n) refl
      eval_code (RowProj term i) env k scope depth next l own others knows covers st waits enough =
          operand_next false p (Own (Eval (RowProj term i) env)) k term env (ProjFrame i) k scope depth next l own
          (λ o later. Give (Proj o i)) others refl refl (fr0 procs mode k others waits)
          (omega arith) knows covers st waits (λ o later l1 more same below v c. record {
            o = o;
            l = l1;
            own = own;
            runs = refl;
            carries = c;
          }) (atom term scope) refl
      eval_code (RowProjDyn term i label) env k scope depth next l own others knows covers st waits enough =
          operand_next false p (Own (Eval (RowProjDyn term i label) env)) k term env (OwnFrame
          (ProjDynFrame i label)) k scope depth next l own (λ o later. Give (ProjDyn o i
          (label_id label))) others refl refl (fr0 procs mode k others waits) (omega arith) knows covers st waits
          (λ o later l1 more same below v c. record { o = o; l = l1; own = own; runs = refl; carries = c })
          (atom term scope) refl
      eval_code (RowTuple parts) env k scope depth next l own others knows covers st waits enough =
          gathers_does false p (Own (Eval (RowTuple parts) env)) k Tupling [] parts env k (Own (Inside (code
          (RowTuple parts) scope depth next) l own)) others refl refl (fr0 procs mode k others waits) (omega arith)
          (at_end parts 0 0 (none_asked 0)) (first_pays mode prices Tupling parts)
          (no_operands procs mode parts ToTuple env scope depth next l own knows covers st) waits
      eval_code (RowPrim op parts) env k scope depth next l own others knows covers st waits enough =
          gathers_does false p (Own (Eval (RowPrim op parts) env)) k (Operating op) [] parts env k (Own (Inside (code
          (RowPrim op parts) scope depth next) l own)) others refl refl (fr0 procs mode k others waits)
          (omega arith) (at_end parts (operator_words op []) 0 (operator_none C op))
          (first_pays mode prices (Operating op) parts)
          (no_operands procs mode parts (ToPrim op) env scope depth next l own knows covers st) waits

      -- ---- terms whose operand is known

      atom_gives : (term : RowTerm) (env : Env C) (frame : CoerFrame C) (k : List (CoerFrame C)) (g : FlatFocus C)
          (others : List (FlatFrame C)) (v : CoerValue C) → 0 < weight term → Taken procs mode v frame g
          → Wait procs mode k others → SimF (Own (Eval term env)) (frame ∷ k) g others (gives mode code_arity entered
          store world v (frame ∷ k))
      atom_gives term env frame k g others v less h waits =
          stays_on false p (Own (Eval term env)) (frame ∷ k) (Return v) (frame ∷ k) g others refl (omega (arith, less))
          (inr (h, waits)) (none_asked _)

      eval_operand : (term : RowTerm) (env : Env C) (frame : CoerFrame C) (k : List (CoerFrame C)) (g : FlatFocus C)
          (others : List (FlatFrame C)) → AsOperand procs mode term env frame g → Wait procs mode k others
          → SimF (Own (Eval term env)) (frame ∷ k) g others (eval mode store world term env (frame ∷ k))
      eval_operand (RowInt n) env frame k g others h waits = atom_gives (RowInt n) env frame k g others (RunInt n)
          (omega arith) (h.taken (RunInt n) (subst (λ o. Carries procs (RunInt n) (value h.l h.own o)) (same_some
          (IntConst n) h.operand h.is_atom) refl)) waits
      eval_operand (RowBool b) env frame k g others h waits = atom_gives (RowBool b) env frame k g others (RunBool b)
          (omega arith) (h.taken (RunBool b) (subst (λ o. Carries procs (RunBool b) (value h.l h.own o)) (same_some
          (BoolConst b) h.operand h.is_atom) refl)) waits
      eval_operand RowUnit env frame k g others h waits = atom_gives RowUnit env frame k g others RunUnit (omega arith)
          (h.taken RunUnit (subst (λ o. Carries procs RunUnit (value h.l h.own o)) (same_some UnitConst h.operand
          h.is_atom) tt)) waits
      eval_operand (RowVar name) env frame k g others h waits =
          let found = fits_found procs name env (means h.scope h.l h.own) (value h.l h.own h.operand) h.fits (ap
          (option_map (value h.l h.own)) h.is_atom) in
          subst (λ x. SimF (Own (Eval (RowVar name) env)) (frame ∷ k) g others (on_some x (λ v. gives mode code_arity
          entered store world v (frame ∷ k)))) (sym found.1)
          (atom_gives (RowVar name) env frame k g others found.0 (omega arith) (h.taken found.0 found.2) waits)
      eval_operand term env frame k g others h waits = none_some h.is_atom

      -- ---- each step

      pub each_turn : (focus : CoerFocus C) (k : List (CoerFrame C)) (g : FlatFocus C) (others : List (FlatFrame C))
          → ended_at focus k ≡ None → (on : FocusOn procs mode focus k g others)
          → left_on procs mode told focus k g others on ≤ p → SimF focus k g others (turn mode store world focus k)
      each_turn (Own (Eval term env)) k g others live (inl h) enough =
          let i = h.0 in
          subst (λ x. SimF (Own (Eval term env)) k x others (eval mode store world term env k)) (sym i.runs)
          (eval_code term env k i.scope i.depth i.next i.l i.own others i.knows i.covers i.stands h.1 enough)
      each_turn (Own (Eval term env)) [] g others live (inr h) enough = absurd h
      each_turn (Own (Eval term env)) (frame ∷ k) g others live (inr h) enough =
          eval_operand term env frame k g others h.0 h.1
      each_turn (Return v) [] g others live h enough = none_some (sym live)
      each_turn (Return v) (frame ∷ k) g [] live (inl h) enough = absurd h.1
      each_turn (Return v) (frame ∷ k) g (other ∷ others) live (inl h) enough =
          let i = h.0 in
          subst (λ x. SimF (Return v) (frame ∷ k) x (other ∷ others) (back mode store world v frame k)) (sym i.gives)
          (given_does v frame k i.u other others h.1.0 h.1.1 i.carries)
      each_turn (Return v) (frame ∷ k) g others live (inr h) enough = taken_does false p v frame k g others h.0 h.1
      each_turn (Entering f done todo) k g others live h enough =
          let i = h.0 in
          let x = enter mode code_arity entered store world f done todo k in
          subst (λ z. SimF (Entering f done todo) k z others x) (sym i.enters)
          (concludes false p (Entering f done todo) k (Entering i.g i.before i.after) others x (enter mode
          (flat_arity procs) (flat_entered procs) cells world i.g i.before i.after others) refl refl refl
          (fr0 procs mode k others h.1) (none_asked _) refl (costs_nothing x)
          (a_enter procs mode store cells world held k others h.1 f i.g done i.before todo i.after i.function
          i.carries i.pends) (enter_pays procs mode prices f i.g todo i.after i.function i.pends)
          (let few = enter_begins mode store world prices act f done todo k in omega (arith, few)))
