-- Turns of two modes at related places are of one kind, where they touch no wrapper.
use Rattle.std.proofs.Common.{◌≡◌, pos, negsuc, List, [], ◌∷◌, Some, refl, sym, ap, ◌∙◌, subst}
use Rattle.grift_base.specs.World.{WorldState}
use Rattle.grift_base.specs.declared.operators.PrimOp.{PrimOp}
use Rattle.grift_base.specs.declared.operators.PrimOp.TheVariants.{Mul, Quot, Rem, MakeBox, MakeVector}
use Rattle.cast_modes.specs.Modes.{Mode}
use Rattle.cast_modes.specs.RunValues.{RunInt, RunBool, RunUnit, RunFun, RunTuple, RunLoc, RunWrap, RunInject}
use Rattle.cast_modes.specs.ValueSteps.{operate}
use Rattle.coer_core.specs.Terms.{RowTerm, RowTerms, RowInt, RowBool, RowUnit, RowVar, RowLambda, RowGroup, RowLet}
use Rattle.coer_core.specs.Terms.{RowCall, RowIf, RowSeq, RowCast, RowProj, RowProjDyn, RowTuple, RowPrim}
use Rattle.coer_core.specs.Terms.{NoRowTerms, RowTermThen}
use Rattle.coer_core.specs.Machine.{code_arity, CoerValue, CoerStore, CoerPending, CoerFrame, Calling}
use Rattle.coer_core.specs.Machine.{entered}
use Rattle.coer_core.specs.Tally.{operating_kind, made_vector, gather_kind, eval_kind, enter_kind, plain_kind}
use Rattle.coer_core.proofs.Merging.{Both, IsBare, Likeness, Carries, PendingLike}
use Rattle.coer_core.proofs.Going.{Proceeds}

pub enter_plain_kind : {C : Type 0} (f : CoerValue C) (todo : List (CoerPending C)) → IsBare f
    → enter_kind f todo ≡ plain_kind todo
enter_plain_kind (RunWrap v cast) todo b = absurd b
enter_plain_kind _ todo b = refl

pub call_kind : {C D : Type 0} (f : CoerValue C) (g : CoerValue D) (done : List (CoerValue C))
    (done1 : List (CoerValue D)) (rest : RowTerms)
    → gather_kind (Calling g) done1 rest ≡ gather_kind (Calling f) done rest
call_kind f g done done1 NoRowTerms = refl
call_kind f g done done1 (RowTermThen term rest) = refl

pub eval_same : (C D : Type 0) (term : RowTerm) → eval_kind D term ≡ eval_kind C term
eval_same C D (RowInt n) = refl
eval_same C D (RowBool b) = refl
eval_same C D RowUnit = refl
eval_same C D (RowVar name) = refl
eval_same C D (RowLambda parameters body type) = refl
eval_same C D (RowGroup members body) = refl
eval_same C D (RowLet bindings body) = refl
eval_same C D (RowCall function arguments) = refl
eval_same C D (RowIf condition on_true on_false) = refl
eval_same C D (RowSeq NoRowTerms) = refl
eval_same C D (RowSeq (RowTermThen term NoRowTerms)) = refl
eval_same C D (RowSeq (RowTermThen term (RowTermThen second rest))) = refl
eval_same C D (RowCast term number) = refl
eval_same C D (RowProj term k) = refl
eval_same C D (RowProjDyn term k label) = refl
eval_same C D (RowTuple NoRowTerms) = refl
eval_same C D (RowTuple (RowTermThen term rest)) = refl
eval_same C D (RowPrim operator (RowTermThen term rest)) = refl
eval_same C D (RowPrim operator NoRowTerms) = ap Some (at_none operator)
  where
    at_none : (operator : PrimOp)
        → operating_kind operator (let none : List (CoerValue D) = [] in none)
        ≡ operating_kind operator (let none : List (CoerValue C) = [] in none)
    at_none Mul = refl
    at_none Quot = refl
    at_none Rem = refl
    at_none MakeBox = refl
    at_none MakeVector = refl
    at_none _ = refl

module _ {C D : Type 0} (like : Likeness C D) where
  -- where the function is no wrapper, the other is none
  pub bare_too : (f : CoerValue C) (g : CoerValue D) → IsBare f → Carries like f g → IsBare g
  bare_too (RunInt a) g b c = subst IsBare (sym c) tt
  bare_too (RunBool a) g b c = subst IsBare (sym c) tt
  bare_too RunUnit g b c = subst IsBare (sym c) tt
  bare_too (RunFun code captured) g b c = subst IsBare (sym c.1) tt
  bare_too (RunTuple values) g b c = subst IsBare (sym c.1) tt
  bare_too (RunLoc cell is_vector) g b c = subst IsBare (sym c) tt
  bare_too (RunWrap v cast) g b c = absurd b
  bare_too (RunInject v kept) g b c = subst IsBare (sym c.1) tt

  plain_same : (todo : List (CoerPending C)) (todo1 : List (CoerPending D)) → Both (PendingLike like) todo todo1
      → plain_kind todo1 ≡ plain_kind todo
  plain_same [] [] b = refl
  plain_same [] (q ∷ todo1) b = absurd b
  plain_same (p ∷ todo) [] b = absurd b
  plain_same (p ∷ todo) (q ∷ todo1) b = refl

  pub enter_same : (f : CoerValue C) (g : CoerValue D) (todo : List (CoerPending C)) (todo1 : List (CoerPending D))
      → IsBare f → Carries like f g → Both (PendingLike like) todo todo1 → enter_kind g todo1 ≡ enter_kind f todo
  enter_same f g todo todo1 b c r =
      enter_plain_kind g todo1 (bare_too f g b c) ∙ plain_same todo todo1 r ∙ sym (enter_plain_kind f todo b)

  module _ (m : Mode C) (store : CoerStore C) (world : WorldState) (k : List (CoerFrame C)) where
    vector_same : (values : List (CoerValue C)) (others : List (CoerValue D)) → Both (Carries like) values others
        → Proceeds (operate m code_arity entered store world MakeVector values k)
        → made_vector others ≡ made_vector values
    vector_same [] [] b go = refl
    vector_same [] (u ∷ others) b go = absurd b
    vector_same (v ∷ values) [] b go = absurd b
    vector_same (RunInt (pos a) ∷ values) (u ∷ others) b go = ap (λ z. made_vector (z ∷ others)) b.0
    vector_same (RunInt (negsuc a) ∷ values) (u ∷ others) b go = ap (λ z. made_vector (z ∷ others)) b.0
    vector_same (RunBool a ∷ values) (u ∷ others) b go = ap (λ z. made_vector (z ∷ others)) b.0
    vector_same (RunUnit ∷ values) (u ∷ others) b go = ap (λ z. made_vector (z ∷ others)) b.0
    vector_same (RunFun code captured ∷ values) (u ∷ others) b go = ap (λ z. made_vector (z ∷ others)) b.0.1
    vector_same (RunTuple parts ∷ values) (u ∷ others) b go = ap (λ z. made_vector (z ∷ others)) b.0.1
    vector_same (RunLoc cell is_vector ∷ values) (u ∷ others) b go = ap (λ z. made_vector (z ∷ others)) b.0
    vector_same (RunWrap v cast ∷ values) (u ∷ others) b go = absurd go
    vector_same (RunInject v kept ∷ values) (u ∷ others) b go = ap (λ z. made_vector (z ∷ others)) b.0.1

    -- an operator that gets an operand, or traps
    pub operating_same : (operator : PrimOp) (values : List (CoerValue C)) (others : List (CoerValue D))
        → Both (Carries like) values others → Proceeds (operate m code_arity entered store world operator values k)
        → operating_kind operator others ≡ operating_kind operator values
    operating_same MakeVector values others b go = vector_same values others b go
    operating_same Mul values others b go = refl
    operating_same Quot values others b go = refl
    operating_same Rem values others b go = refl
    operating_same MakeBox values others b go = refl
    operating_same _ values others b go = refl
