-- Which state of the procedures goes with which state of the run with environments.
use Rattle.std.proofs.Common.{◌≡◌, ◌⊎◌, ℕ, ◌≤◌, List, [], ◌∷◌, ◌++◌}
use Rattle.std.proofs.Common.{Some, refl, sym, ◌∙◌, subst}
use Rattle.grift_base.specs.declared.operators.PrimOp.{PrimOp}
use Rattle.cast_modes.specs.Modes.{Mode}
use Rattle.cast_modes.specs.RunValues.{Pending}
use Rattle.cast_modes.specs.ValueSteps.{CastFrame, ProjFrame, PrimFrame, EnterFrame, OwnFrame, Own, Return, Entering}
use Rattle.cast_modes.specs.ValueSteps.{onto}
use Rattle.coer_core.specs.Terms.{RowTerm, RowTerms, RowBindings, RowSeq, RowTermThen}
use Rattle.coer_core.specs.Counts.{names_besides, free_names, free_names_of_all, free_names_of_bindings}
use Rattle.coer_core.specs.Counts.{row_binding_names}
use Rattle.coer_core.specs.Machine.{Env, CoerValue, CoerPending, CoerFrame, CoerFocus, CoerStore, Job, Calling, Tupling}
use Rattle.coer_core.specs.Machine.{Operating, IfFrame, SeqFrame, FunFrame, ProjDynFrame, GatherFrame}
use Rattle.coer_core.specs.Machine.{LetFrame, Eval}
use Rattle.flat_ir.specs.declared.code.Operand.{Operand}
use Rattle.flat_ir.specs.declared.code.Operation.{Operation}
use Rattle.flat_ir.specs.declared.code.Operation.TheVariants.{Cast, Tuple, Prim, Proj, ProjDyn}
use Rattle.flat_ir.specs.Bodies.{Body, Give, Choose, Proc}
use Rattle.flat_ir.specs.Machine.{FlatCode, FlatValue, FlatStore, FlatFrame, FlatFocus, Group, Locals, Inside, Waiting}
use Rattle.flat_ir.specs.Machine.{set_local, value, values}
use Rattle.closure_convert.specs.Conversion.{Scope, bind_operands, atom, call_of, label_id, code, gather}
use Rattle.closure_convert.specs.Conversion.{gather_let}
use Rattle.closure_convert.proofs.Carrying.{firsts, seconds, means, Stands, StandsFor, StandsBy, Carries, Fits}
use Rattle.closure_convert.proofs.Carrying.{CarriesAll}
use Rattle.closure_convert.proofs.Carrying.{AllBelow, ScopeBelow, Covers, SameBelow, fits_part, means_same}
use Rattle.closure_convert.proofs.Carrying.{scope_below_more, values_same}

-- what is done with the operands of several terms
pub data Finish : Type 0 where
  ToCall : Finish
  ToTuple : Finish
  ToPrim : PrimOp → Finish

abbrev pub finish_code : Finish → List Operand → Body
finish_code ToCall os = call_of os
finish_code ToTuple os = Give (Tuple os)
finish_code (ToPrim op) os = Give (Prim op os)

abbrev pub finish_of : {C : Type 0} → Job C → Finish
finish_of (Calling f) = ToCall
finish_of Tupling = ToTuple
finish_of (Operating op) = ToPrim op

-- the values of the operands so far
abbrev pub values_of : {C : Type 0} → Job C → List (CoerValue C) → List (CoerValue C)
values_of (Calling f) done = f ∷ onto done []
values_of Tupling done = onto done []
values_of (Operating op) done = onto done []

module _ {C : Type 0} (procs : List Proc) (mode : Mode C) where
  -- a scope and local names fit an environment
  pub record Knows (env : Env C) (scope : Scope) (depth : ℕ) (l : Locals C) (own : Group C) : Type 0 where
    pub fits : Fits procs env (means scope l own)
    pub below : ScopeBelow depth scope

  -- operands of several terms are gathered
  pub record Gathers (terms : RowTerms) (vs : List (CoerValue C)) (finish : Finish) (env : Env C)
      (focus : FlatFocus C) : Type 0 where
    pub scope : Scope
    pub depth : ℕ
    pub next : ℕ
    pub os : List Operand
    pub l : Locals C
    pub own : Group C
    pub runs : focus ≡ Own (Inside (gather terms scope depth next os (finish_code finish)) l own)
    pub knows : Knows env scope depth l own
    pub carries : CarriesAll procs vs (values l own os)
    pub below : AllBelow depth os
    pub covers : Covers (free_names_of_all terms) scope
    pub stands : StandsFor procs terms next

  -- where none is there yet
  pub no_operands : (terms : RowTerms) (finish : Finish) (env : Env C) (scope : Scope) (depth next : ℕ) (l : Locals C)
      (own : Group C) → Knows env scope depth l own → Covers (free_names_of_all terms) scope
      → StandsFor procs terms next
      → Gathers terms [] finish env (Own (Inside (gather terms scope depth next [] (finish_code finish)) l own))
  no_operands terms finish env scope depth next l own knows covers st = record {
    scope = scope;
    depth = depth;
    next = next;
    os = [];
    l = l;
    own = own;
    runs = refl;
    knows = knows;
    carries = tt;
    below = tt;
    covers = covers;
    stands = st;
  }

  -- those of a let
  pub record Binds (entries : List (ℕ × CoerValue C)) (bindings : RowBindings) (body : RowTerm) (env : Env C)
      (focus : FlatFocus C) : Type 0 where
    pub scope : Scope
    pub depth : ℕ
    pub next : ℕ
    pub after : ℕ
    pub os : List Operand
    pub l : Locals C
    pub own : Group C
    pub runs : focus ≡ Own (Inside (gather_let bindings scope depth next os (λ os' depth'. code body (bind_operands
        (firsts entries ++ row_binding_names bindings) os' scope) depth' after)) l own)
    pub knows : Knows env scope depth l own
    pub carries : CarriesAll procs (seconds entries) (values l own os)
    pub below : AllBelow depth os
    pub covers : Covers (free_names_of_bindings bindings) scope
    pub covers_body : Covers (names_besides (firsts entries ++ row_binding_names bindings) (free_names body)) scope
    pub stands : StandsBy procs bindings next
    pub stands_body : Stands procs body after

  pub record Chooses (a b : RowTerm) (v : CoerValue C) (env : Env C) (focus : FlatFocus C) : Type 0 where
    pub scope : Scope
    pub depth : ℕ
    pub next : ℕ
    pub other : ℕ
    pub o : Operand
    pub l : Locals C
    pub own : Group C
    pub runs : focus ≡ Own (Inside (Choose o (code a scope depth next) (code b scope depth other)) l own)
    pub knows : Knows env scope depth l own
    pub carries : Carries procs v (value l own o)
    pub covers : Covers (free_names a ++ free_names b) scope
    pub stands_a : Stands procs a next
    pub stands_b : Stands procs b other

  -- a term whose code is run
  pub record InCode (term : RowTerm) (env : Env C) (focus : FlatFocus C) : Type 0 where
    pub scope : Scope
    pub depth : ℕ
    pub next : ℕ
    pub l : Locals C
    pub own : Group C
    pub runs : focus ≡ Own (Inside (code term scope depth next) l own)
    pub knows : Knows env scope depth l own
    pub covers : Covers (free_names term) scope
    pub stands : Stands procs term next

  pub in_code : (term : RowTerm) (env : Env C) (scope : Scope) (depth next : ℕ) (l : Locals C) (own : Group C)
      → Knows env scope depth l own → Covers (free_names term) scope → Stands procs term next
      → InCode term env (Own (Inside (code term scope depth next) l own))
  in_code term env scope depth next l own knows covers st = record {
    scope = scope;
    depth = depth;
    next = next;
    l = l;
    own = own;
    runs = refl;
    knows = knows;
    covers = covers;
    stands = st;
  }

  -- an operation of one operand
  pub record Acts (v : CoerValue C) (make : Operand → Operation) (focus : FlatFocus C) : Type 0 where
    pub o : Operand
    pub l : Locals C
    pub own : Group C
    pub runs : focus ≡ Own (Inside (Give (make o)) l own)
    pub carries : Carries procs v (value l own o)

  -- the value is where the code of what waits for it finds it
  abbrev pub Taken : CoerValue C → CoerFrame C → FlatFocus C → Type 0
  Taken v (OwnFrame (IfFrame a b env)) focus = Chooses a b v env focus
  Taken v (OwnFrame (SeqFrame term rest env)) focus = InCode (RowSeq (RowTermThen term rest)) env focus
  Taken v (OwnFrame (FunFrame arguments env)) focus = Gathers arguments (v ∷ []) ToCall env focus
  Taken v (CastFrame cast) focus = (n : ℕ) × (mode.row n ≡ Some cast) × Acts v (λ o. Cast o n) focus
  Taken v (ProjFrame i) focus = Acts v (λ o. Proj o i) focus
  Taken v (OwnFrame (ProjDynFrame i label)) focus = Acts v (λ o. ProjDyn o i (label_id label)) focus
  Taken v (OwnFrame (GatherFrame job done rest env)) focus = Gathers rest (values_of job (v ∷ done))
      (finish_of job) env focus
  Taken v (OwnFrame (LetFrame bound name rest body env)) focus = Binds (onto ((name, v) ∷ bound) []) rest body env focus
  Taken v (PrimFrame op done) focus = ⊥
  Taken v (EnterFrame f done todo) focus = ⊥

  abbrev pub Pends : List (CoerPending C) → List (Pending C FlatCode) → Type 0
  Pends [] [] = Unit {0}
  Pends (p ∷ ps) (q ∷ qs) = Carries procs p.value q.value × (p.casts ≡ q.casts) × Pends ps qs
  Pends ps qs = ⊥

  -- a body waits, or a step on values goes on
  abbrev pub FrameOn : CoerFrame C → FlatFrame C → Type 0
  FrameOn frame (OwnFrame (Waiting slot body l own)) = (v : CoerValue C) (u : FlatValue C) → Carries procs v u
      → Taken v frame (Own (Inside body (set_local l slot u) own))
  FrameOn (CastFrame cast) (CastFrame other) = cast ≡ other
  FrameOn (ProjFrame i) (ProjFrame j) = i ≡ j
  FrameOn (PrimFrame op done) (PrimFrame other before) = (op ≡ other) × CarriesAll procs done before
  FrameOn (EnterFrame f done todo) (EnterFrame g before after) = Carries procs f g × CarriesAll procs done before ×
      Pends todo after
  FrameOn frame other = ⊥

  abbrev pub Wait : List (CoerFrame C) → List (FlatFrame C) → Type 0
  Wait [] [] = Unit {0}
  Wait (frame ∷ k) (other ∷ others) = FrameOn frame other × Wait k others
  Wait k others = ⊥

  abbrev pub Cells : CoerStore C → FlatStore C → Type 0
  Cells [] [] = Unit {0}
  Cells (cell ∷ store) (other ∷ cells) = CarriesAll procs cell other × Cells store cells
  Cells store cells = ⊥

  -- a term that takes no code, whose operand is where the code of what waits finds it
  pub record AsOperand (term : RowTerm) (env : Env C) (frame : CoerFrame C) (focus : FlatFocus C) : Type 0 where
    pub scope : Scope
    pub l : Locals C
    pub own : Group C
    pub operand : Operand
    pub is_atom : atom term scope ≡ Some operand
    pub fits : Fits procs env (means scope l own)
    pub taken : (v : CoerValue C) → Carries procs v (value l own operand) → Taken v frame focus

  abbrev pub IsOperand : RowTerm → Env C → List (CoerFrame C) → FlatFocus C → List (FlatFrame C) → Type 0
  IsOperand term env [] focus others = ⊥
  IsOperand term env (frame ∷ k) focus others = AsOperand term env frame focus × Wait k others

  abbrev pub IsTaken : CoerValue C → List (CoerFrame C) → FlatFocus C → List (FlatFrame C) → Type 0
  IsTaken v [] focus others = ⊥
  IsTaken v (frame ∷ k) focus others = Taken v frame focus × Wait k others

  pub record IsGiven (v : CoerValue C) (focus : FlatFocus C) : Type 0 where
    pub u : FlatValue C
    pub gives : focus ≡ Return u
    pub carries : Carries procs v u

  pub record Enters (f : CoerValue C) (done : List (CoerValue C)) (todo : List (CoerPending C))
      (focus : FlatFocus C) : Type 0 where
    pub g : FlatValue C
    pub before : List (FlatValue C)
    pub after : List (Pending C FlatCode)
    pub enters : focus ≡ Entering g before after
    pub function : Carries procs f g
    pub carries : CarriesAll procs done before
    pub pends : Pends todo after

  abbrev pub FocusOn : CoerFocus C → List (CoerFrame C) → FlatFocus C → List (FlatFrame C) → Type 0
  FocusOn (Own (Eval term env)) k focus others = (InCode term env focus × Wait k others) ⊎ IsOperand term env k focus
      others
  FocusOn (Return v) k focus others = (IsGiven v focus × Wait k others) ⊎ IsTaken v k focus others
  FocusOn (Entering f done todo) k focus others = Enters f done todo focus × Wait k others

  -- ---- what stays as local names are set

  pub knows_later : (env : Env C) (scope : Scope) (depth more : ℕ) (l k : Locals C) (own : Group C) → depth ≤ more
      → SameBelow depth l k → Knows env scope depth l own → Knows env scope more k own
  knows_later env scope depth more l k own le same h = record {
    fits = fits_part procs env (means scope l own) (means scope k own) (λ name u e. sym (means_same depth l k own scope
        name same h.below) ∙ e) h.fits;
    below = scope_below_more depth more scope le h.below;
  }

  pub carried_later : (vs : List (CoerValue C)) (os : List Operand) (depth : ℕ) (l k : Locals C) (own : Group C)
      → SameBelow depth l k → AllBelow depth os → CarriesAll procs vs (values l own os)
      → CarriesAll procs vs (values k own os)
  carried_later vs os depth l k own same below c = subst (CarriesAll procs vs) (sym (values_same depth l k own os same
      below)) c
