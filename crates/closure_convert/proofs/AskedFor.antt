-- The words of the objects that a turn of the procedures makes are at most what the turn asks for, in both modes.
use Rattle.std.proofs.Common.{ℕ, zero, suc, ◌+◌, ◌*◌, ◌<◌, ◌≤◌, pos, List, [], ◌∷◌, length, Option, Some, None, arith}
use Rattle.std.proofs.Common.{subst}
use Rattle.std.proofs.Common.{sym}
use Rattle.std.specs.Prelude.{◌^◌}
use Rattle.std.proofs.Math.Nat.{pow-zero, pow-suc, mul-pos}
use Rattle.grift_base.specs.Types.{TypeRows}
use Rattle.grift_base.specs.declared.operators.PrimOp.{PrimOp}
use Rattle.grift_base.specs.declared.operators.PrimOp.TheVariants.{MakeBox, MakeVector}
use Rattle.core_calc.specs.Account.{StepKind, Measures, Makes}
use Rattle.coercion_norm.specs.Coercions.{Coercion}
use Rattle.cast_modes.specs.Modes.{Mode, Shape, Decision, Wrapping, Rewrapping, Injecting}
use Rattle.cast_modes.specs.RunValues.{RunInt, shape_of}
use Rattle.cast_modes.specs.ValueSteps.{CastFrame, PrimFrame, Own, Return, onto, decision_words, operator_words}
use Rattle.coer_core.specs.Tally.{decision_kind, kind_asks}
use Rattle.coer_core.specs.MergedTally.{effort, half_charge, effort_asks}
use Rattle.flat_ir.specs.declared.code.Operation.{Operation}
use Rattle.flat_ir.specs.declared.code.Operation.TheVariants.{Prim, Cast, Tuple}
use Rattle.flat_ir.specs.Bodies.{Body, Give, LetGroup, Proc}
use Rattle.flat_ir.specs.Counts.{tuple_words, decision_at, operation_words, body_words, flat_turn_words}
use Rattle.flat_ir.specs.Machine.{FlatValue, FlatFrame, FlatFocus, Inside, Locals, Group, value, values, flat_arity}
use Rattle.flat_ir.specs.FlatTally.{operator_kind, cast_cost, operation_cost, body_cost, flat_cost}
use Rattle.coer_core.specs.TurnPrices.{piled_prices, merged_prices}
use Rattle.cast_modes.specs.Prices.{Prices}

-- prices in a mode that are enough for what is made
pub record AreEnough {C : Type 0} (mode : Mode C) (prices : Prices StepKind C) : Type 0 where
  pub cast : (cast : C) (shape : Shape C) → decision_words (mode.cast cast shape) ≤ (prices.cast cast shape).asks
  pub operator : (operator : PrimOp) (vs : List (FlatValue C))
      → operator_words operator vs ≤ (prices.other (Some (operator_kind operator vs)) 0 0).asks
  pub makes : (words functions : ℕ) → words ≤ (prices.other (Some Makes) words functions).asks

module _ {C : Type 0} (procs : List Proc) (mode : Mode C) (prices : Prices StepKind C)
    (enough : AreEnough mode prices) where
  cast_asked : (cast : Option C) (v : FlatValue C)
      → decision_words (decision_at procs mode cast v) ≤ (cast_cost procs mode prices cast v).asks
  cast_asked (Some cast) v = enough.cast cast (shape_of (flat_arity procs) v)
  cast_asked None v = omega arith

  operation_asked : (operation : Operation) (l : Locals C) (g : Group C)
      → operation_words procs mode operation l g ≤ (operation_cost procs mode prices operation l g).asks
  operation_asked (Prim operator os) l g = enough.operator operator (values l g os)
  operation_asked (Cast o number) l g = cast_asked (mode.row number) (value l g o)
  operation_asked (Tuple os) l g = enough.makes (tuple_words os) 0
  operation_asked operation l g = omega arith

  body_asked : (body : Body) (l : Locals C) (g : Group C)
      → body_words procs mode body l g ≤ (body_cost procs mode prices body l g).asks
  body_asked (Give operation) l g = operation_asked operation l g
  body_asked (LetGroup slot first count captured rest) l g =
      enough.makes (2 * count + length captured) (2 * count + length captured)
  body_asked body l g = omega arith

  pub turns_asked : (focus : FlatFocus C) (k : List (FlatFrame C))
      → flat_turn_words procs mode focus k ≤ (flat_cost procs mode prices focus k).asks
  turns_asked (Own (Inside body l g)) k = body_asked body l g
  turns_asked (Return v) (CastFrame cast ∷ k) = cast_asked (Some cast) v
  turns_asked (Return v) (PrimFrame operator done ∷ k) = enough.operator operator (onto (v ∷ done) [])
  turns_asked focus k = omega arith

-- ---- both modes

pub piled_enough : {C : Type 0} (mode : Mode C) (m : Measures) → AreEnough mode (piled_prices mode m)
piled_enough {C = C} mode m = record {
  cast = λ cast shape. decided (mode.cast cast shape);
  operator = λ operator vs. operated operator vs;
  makes = λ words functions. omega arith;
}
  where
    decided : (d : Decision C) → decision_words d ≤ kind_asks m (Some (decision_kind d)) 0
    decided (Wrapping cast) = omega arith
    decided (Rewrapping cast) = omega arith
    decided (Injecting kept) = omega arith
    decided d = omega arith

    operated : (operator : PrimOp) (vs : List (FlatValue C))
        → operator_words operator vs ≤ ((piled_prices mode m).other (Some (operator_kind operator vs)) 0 0).asks
    operated MakeBox (v ∷ []) = omega arith
    operated MakeVector (RunInt (pos n) ∷ v ∷ []) = omega arith
    operated operator vs = omega arith

power_some : (a h : ℕ) → 0 < a → 0 < a ^ h
power_some a zero lt = let e = pow-zero a in omega (arith, e)
power_some a (suc h) lt = subst (λ n. 0 < n) (sym (pow-suc a h)) (mul-pos (power_some a h lt) lt)

half_some : (m : Measures) → 1 ≤ m.width → 3 ≤ half_charge m
half_some m wide = let some = power_some (2 * m.width) m.height (omega (arith, wide)) in omega (arith, some)

pub merged_enough : (types : TypeRows) (mode : Mode Coercion) (m : Measures) → 1 ≤ m.width
    → AreEnough mode (merged_prices types mode m)
merged_enough types mode m wide = record {
  cast = λ cast shape. decided cast shape (mode.cast cast shape);
  operator = λ operator vs. operated operator vs;
  makes = λ words functions. omega arith;
}
  where
    decided : (c : Coercion) (shape : Shape Coercion) (d : Decision Coercion)
        → decision_words d ≤ effort_asks m (effort types c shape d)
    decided c shape (Wrapping d) = half_some m wide
    decided c shape (Rewrapping d) = half_some m wide
    decided c shape (Injecting kept) = omega arith
    decided c shape d = omega arith

    operated : (operator : PrimOp) (vs : List (FlatValue Coercion))
        → operator_words operator vs
        ≤ ((merged_prices types mode m).other (Some (operator_kind operator vs)) 0 0).asks
    operated MakeBox (v ∷ []) = omega arith
    operated MakeVector (RunInt (pos n) ∷ v ∷ []) = omega arith
    operated operator vs = omega arith
