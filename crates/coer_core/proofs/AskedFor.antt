-- The words of the objects that a turn makes are at most what the turn asks for, in both modes.
use Rattle.std.proofs.Common.{ℕ, zero, suc, ◌*◌, ◌<◌, ◌≤◌, pos, List, [], ◌∷◌, Some, arith, subst, sym}
use Rattle.std.specs.Prelude.{◌^◌}
use Rattle.std.proofs.Math.Nat.{pow-zero, pow-suc, mul-pos}
use Rattle.grift_base.specs.Types.{TypeRows}
use Rattle.grift_base.specs.declared.operators.PrimOp.{PrimOp}
use Rattle.grift_base.specs.declared.operators.PrimOp.TheVariants.{MakeBox, MakeVector}
use Rattle.core_calc.specs.Account.{Measures}
use Rattle.coercion_norm.specs.Coercions.{Coercion}
use Rattle.cast_modes.specs.Modes.{Mode, Shape, Decision, Wrapping, Rewrapping, Injecting}
use Rattle.cast_modes.specs.RunValues.{RunInt, shape_of}
use Rattle.cast_modes.specs.ValueSteps.{CastFrame, PrimFrame, OwnFrame, Own, Return, onto}
use Rattle.cast_modes.specs.ValueSteps.{decision_words, operator_words}
use Rattle.coer_core.specs.Terms.{RowTerm, RowLambda, RowGroup, NoRowTerms}
use Rattle.coer_core.specs.Machine.{code_arity, CoerValue, CoerFocus, CoerFrame, Eval, Tupling, Operating}
use Rattle.coer_core.specs.Machine.{GatherFrame}
use Rattle.coer_core.specs.Counts.{eval_words, turn_words}
use Rattle.coer_core.specs.Tally.{decision_kind, operating_kind, eval_kind, turn_kind, kind_asks, made_words}
use Rattle.coer_core.specs.MergedTally.{effort, half_charge, effort_asks, other_asks, merged_asks}

-- ---- by kinds

decision_asked : {C : Type 0} (m : Measures) (d : Decision C)
    → decision_words d ≤ kind_asks m (Some (decision_kind d)) 0
decision_asked m (Wrapping cast) = omega arith
decision_asked m (Rewrapping cast) = omega arith
decision_asked m (Injecting kept) = omega arith
decision_asked m d = omega arith

operator_asked : {C : Type 0} (m : Measures) (operator : PrimOp) (vs : List (CoerValue C))
    → operator_words operator vs ≤ kind_asks m (Some (operating_kind operator vs)) 0
operator_asked m MakeBox (v ∷ []) = omega arith
operator_asked m MakeVector (RunInt (pos n) ∷ v ∷ []) = omega arith
operator_asked m operator vs = omega arith

module _ {C : Type 0} (mode : Mode C) (m : Measures) where
  eval_asked : (term : RowTerm) → eval_words term ≤ kind_asks m (eval_kind C term) (eval_words term)
  eval_asked (RowLambda parameters body type) = omega arith
  eval_asked (RowGroup members body) = omega arith
  eval_asked term = omega arith

  pub kinds_asked : (focus : CoerFocus C) (k : List (CoerFrame C))
      → turn_words mode focus k ≤ kind_asks m (turn_kind mode focus k) (made_words focus k)
  kinds_asked (Own (Eval term env)) k = eval_asked term
  kinds_asked (Return v) (CastFrame cast ∷ k) = decision_asked m (mode.cast cast (shape_of code_arity v))
  kinds_asked (Return v) (PrimFrame operator done ∷ k) = operator_asked m operator (onto (v ∷ done) [])
  kinds_asked (Return v) (OwnFrame (GatherFrame Tupling done NoRowTerms env) ∷ k) = omega arith
  kinds_asked (Return v) (OwnFrame (GatherFrame (Operating operator) done NoRowTerms env) ∷ k) =
      operator_asked m operator (onto (v ∷ done) [])
  kinds_asked focus k = omega arith

-- ---- by efforts

power_some : (a h : ℕ) → 0 < a → 0 < a ^ h
power_some a zero lt = let e = pow-zero a in omega (arith, e)
power_some a (suc h) lt = subst (λ n. 0 < n) (sym (pow-suc a h)) (mul-pos (power_some a h lt) lt)

half_some : (m : Measures) → 1 ≤ m.width → 3 ≤ half_charge m
half_some m wide = let some = power_some (2 * m.width) m.height (omega (arith, wide)) in omega (arith, some)

effort_asked : (types : TypeRows) (m : Measures) → 3 ≤ half_charge m → (c : Coercion) (shape : Shape Coercion)
    (d : Decision Coercion) → decision_words d ≤ effort_asks m (effort types c shape d)
effort_asked types m some c shape (Wrapping d) = some
effort_asked types m some c shape (Rewrapping d) = some
effort_asked types m some c shape (Injecting kept) = omega arith
effort_asked types m some c shape d = omega arith

other_operator : {C : Type 0} (m : Measures) (operator : PrimOp) (vs : List (CoerValue C))
    → operator_words operator vs ≤ other_asks m (Some (operating_kind operator vs)) 0
other_operator m MakeBox (v ∷ []) = omega arith
other_operator m MakeVector (RunInt (pos n) ∷ v ∷ []) = omega arith
other_operator m operator vs = omega arith

module _ (types : TypeRows) (mode : Mode Coercion) (m : Measures) (wide : 1 ≤ m.width) where
  other_eval : (term : RowTerm) → eval_words term ≤ other_asks m (eval_kind Coercion term) (eval_words term)
  other_eval (RowLambda parameters body type) = omega arith
  other_eval (RowGroup members body) = omega arith
  other_eval term = omega arith

  pub efforts_asked : (focus : CoerFocus Coercion) (k : List (CoerFrame Coercion))
      → turn_words mode focus k ≤ merged_asks types mode m focus k
  efforts_asked (Own (Eval term env)) k = other_eval term
  efforts_asked (Return v) (CastFrame c ∷ k) =
      effort_asked types m (half_some m wide) c (shape_of code_arity v) (mode.cast c (shape_of code_arity v))
  efforts_asked (Return v) (PrimFrame operator done ∷ k) = other_operator m operator (onto (v ∷ done) [])
  efforts_asked (Return v) (OwnFrame (GatherFrame Tupling done NoRowTerms env) ∷ k) = omega arith
  efforts_asked (Return v) (OwnFrame (GatherFrame (Operating operator) done NoRowTerms env) ∷ k) =
      other_operator m operator (onto (v ∷ done) [])
  efforts_asked focus k = omega arith
