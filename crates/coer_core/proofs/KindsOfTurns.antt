-- A turn wraps a value exactly where its kind does.
use Rattle.std.proofs.Common.{◌≡◌, List, [], ◌∷◌, refl, sym, pos, negsuc}
use Rattle.grift_base.specs.declared.operators.PrimOp.{PrimOp}
use Rattle.grift_base.specs.declared.operators.PrimOp.TheVariants.{MakeVector}
use Rattle.cast_modes.specs.Modes.{Decision, Wrapping}
use Rattle.cast_modes.specs.Modes.{Mode}
use Rattle.cast_modes.specs.RunValues.{RunInt, RunWrap, shape_of}
use Rattle.cast_modes.specs.ValueSteps.{CastFrame, ProjFrame, PrimFrame, EnterFrame, OwnFrame, Own, Return, Entering}
use Rattle.cast_modes.specs.ValueSteps.{decision_wraps, onto}
use Rattle.coer_core.specs.Terms.{RowTerm, RowTerms, RowBindings, RowLet, RowSeq, RowTuple, RowPrim}
use Rattle.coer_core.specs.Terms.{NoRowTerms, RowTermThen, NoRowBindings, RowBindingThen}
use Rattle.coer_core.specs.Machine.{code_arity, CoerValue, CoerPending, CoerFocus, CoerFrame, Job, Eval, Calling}
use Rattle.coer_core.specs.Machine.{Tupling, Operating, IfFrame, SeqFrame, FunFrame, ProjDynFrame, GatherFrame}
use Rattle.coer_core.specs.Machine.{LetFrame}
use Rattle.coer_core.specs.Counts.{kind_wraps, turn_wraps}
use Rattle.coer_core.specs.Tally.{made_vector, operating_kind, job_kind, gather_kind, bind_kind, eval_kind}
use Rattle.coer_core.specs.Tally.{decision_kind, plain_kind, enter_kind, turn_kind, made_wraps}

decision_made : {C : Type 0} (d : Decision C) → decision_wraps d ≡ kind_wraps (decision_kind d)
decision_made (Wrapping cast) = refl
decision_made _ = refl

bind_none : (bindings : RowBindings) → made_wraps (bind_kind bindings) ≡ 0
bind_none NoRowBindings = refl
bind_none (RowBindingThen name term rest) = refl

module _ {C : Type 0} where
  vector_none : (values : List (CoerValue C)) → kind_wraps (made_vector values) ≡ 0
  vector_none [] = refl
  vector_none (RunInt (pos k) ∷ rest) = refl
  vector_none (RunInt (negsuc k) ∷ rest) = refl
  vector_none (v ∷ rest) = refl

  operator_none : (operator : PrimOp) (values : List (CoerValue C)) → kind_wraps (operating_kind operator values) ≡ 0
  operator_none MakeVector values = vector_none values
  operator_none operator values = refl

  job_none : (job : Job C) (values : List (CoerValue C)) → kind_wraps (job_kind job values) ≡ 0
  job_none (Calling f) values = refl
  job_none Tupling values = refl
  job_none (Operating operator) values = operator_none operator values

  gather_none : (job : Job C) (done : List (CoerValue C)) (terms : RowTerms) → made_wraps (gather_kind job done terms) ≡
      0
  gather_none job done NoRowTerms = job_none job (onto done [])
  gather_none job done (RowTermThen term rest) = refl

  plain_none : (todo : List (CoerPending C)) → made_wraps (plain_kind todo) ≡ 0
  plain_none [] = refl
  plain_none (p ∷ todo) = refl

  enter_none : (f : CoerValue C) (todo : List (CoerPending C)) → made_wraps (enter_kind f todo) ≡ 0
  enter_none (RunWrap f cast) todo = refl
  enter_none f todo = plain_none todo

eval_none : (C : Type 0) (term : RowTerm) → made_wraps (eval_kind C term) ≡ 0
eval_none C (RowLet bindings body) = bind_none bindings
eval_none C (RowSeq NoRowTerms) = refl
eval_none C (RowSeq (RowTermThen term NoRowTerms)) = refl
eval_none C (RowSeq (RowTermThen term (RowTermThen other rest))) = refl
eval_none C (RowTuple parts) = gather_none {C = C} Tupling [] parts
eval_none C (RowPrim operator operands) = gather_none {C = C} (Operating operator) [] operands
eval_none C term = refl

module _ {C : Type 0} (mode : Mode C) where
  -- a turn wraps as many values as its kind says, one or none
  pub turn_wraps_made : (focus : CoerFocus C) (k : List (CoerFrame C))
      → turn_wraps mode focus k ≡ made_wraps (turn_kind mode focus k)
  turn_wraps_made (Own (Eval term env)) k = sym (eval_none C term)
  turn_wraps_made (Return v) [] = refl
  turn_wraps_made (Return v) (CastFrame cast ∷ k) = decision_made (mode.cast cast (shape_of code_arity v))
  turn_wraps_made (Return v) (ProjFrame i ∷ k) = refl
  turn_wraps_made (Return v) (PrimFrame operator done ∷ k) = sym (operator_none operator (onto (v ∷ done) []))
  turn_wraps_made (Return v) (EnterFrame f done todo ∷ k) = refl
  turn_wraps_made (Return v) (OwnFrame (IfFrame on_true on_false env) ∷ k) = refl
  turn_wraps_made (Return v) (OwnFrame (SeqFrame term rest env) ∷ k) = refl
  turn_wraps_made (Return v) (OwnFrame (FunFrame arguments env) ∷ k) = sym (gather_none (Calling v) [] arguments)
  turn_wraps_made (Return v) (OwnFrame (ProjDynFrame i label) ∷ k) = refl
  turn_wraps_made (Return v) (OwnFrame (GatherFrame job done todo env) ∷ k) = sym (gather_none job (v ∷ done) todo)
  turn_wraps_made (Return v) (OwnFrame (LetFrame bound name todo body env) ∷ k) = sym (bind_none todo)
  turn_wraps_made (Entering f done todo) k = sym (enter_none f todo)
