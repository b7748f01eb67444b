-- How a state of the run with environments stands for a term of the calculus.
use Rattle.std.proofs.Common.{◌≡◌, ℕ, suc, ◌+◌, List, [], ◌∷◌, Some}
use Rattle.core_calc.specs.Terms.{Term, Terms, Bindings, Let, Call, Enter, If, Seq, Cast, Proj, ProjDyn, Tuple, Prim}
use Rattle.core_calc.specs.Terms.{NoTerms, TermThen, NoBindings, BindingThen, as_value, binding_names}
use Rattle.core_calc.specs.Substitution.{without, substitute, substitute_terms, substitute_bindings}
use Rattle.cast_modes.specs.Modes.{TypeCast}
use Rattle.cast_modes.specs.RunValues.{RunWrap}
use Rattle.cast_modes.specs.ValueSteps.{CastFrame, ProjFrame, PrimFrame, EnterFrame, OwnFrame, Own, Return, Entering}
use Rattle.coer_core.specs.Terms.{RowTerm, RowInt, RowBool, RowUnit, RowVar, RowLambda, RowGroup, RowLet, RowCall}
use Rattle.coer_core.specs.Terms.{RowIf, RowSeq, RowCast, RowProj, RowProjDyn, RowTuple, RowPrim, RowTerms, NoRowTerms}
use Rattle.coer_core.specs.Terms.{RowTermThen, RowBindings, NoRowBindings, RowBindingThen, core_of, core_terms}
use Rattle.coer_core.specs.Terms.{core_bindings}
use Rattle.coer_core.specs.Machine.{Eval, Calling, Tupling, Operating, IfFrame, SeqFrame, FunFrame, ProjDynFrame}
use Rattle.coer_core.specs.Machine.{GatherFrame, LetFrame}
use Rattle.coer_core.specs.Machine.{CoerFocus}
use Rattle.coer_core.proofs.Unload.{PiledValue, PiledEnv, PiledPending, PiledFrame, value_of, entries_of}

-- in front of the rest, the terms so far, of which the last comes first
abbrev pub terms_onto : Terms → Terms → Terms
terms_onto NoTerms rest = rest
terms_onto (TermThen term done) rest = terms_onto done (TermThen term rest)

-- the same for bindings
abbrev pub bindings_onto : Bindings → Bindings → Bindings
bindings_onto NoBindings rest = rest
bindings_onto (BindingThen name term done) rest = bindings_onto done (BindingThen name term rest)

-- the same for names
abbrev pub names_onto : PiledEnv → List ℕ → List ℕ
names_onto [] rest = rest
names_onto (entry ∷ done) rest = names_onto done (entry.0 ∷ rest)

-- a cast of a term
abbrev pub cast_term : Term → TypeCast → Term
cast_term term cast = Cast term cast.from cast.to cast.label

-- casts of a term, the first one innermost
abbrev pub casts_term : Term → List TypeCast → Term
casts_term term [] = term
casts_term term (cast ∷ casts) = casts_term (cast_term term cast) casts

-- the value is no wrapper
abbrev pub IsPlain : PiledValue → Type 0
IsPlain (RunWrap v cast) = ⊥
IsPlain _ = Unit {0}

module _ (rows : List TypeCast) where
  -- a term with its environment put in
  abbrev pub sub : RowTerm → PiledEnv → Term
  sub term env = substitute (core_of rows term) (entries_of rows env)

  abbrev pub sub_terms : RowTerms → PiledEnv → Terms
  sub_terms terms env = substitute_terms (core_terms rows terms) (entries_of rows env)

  abbrev pub sub_bindings : RowBindings → PiledEnv → Bindings
  sub_bindings bindings env = substitute_bindings (core_bindings rows bindings) (entries_of rows env)

  -- the term is this value, as a literal or as a value
  abbrev pub Is : Term → PiledValue → Type 0
  Is term v = as_value term ≡ Some (value_of rows v)

  -- the terms are these values
  abbrev pub Spelled : List PiledValue → Terms → Type 0
  Spelled [] NoTerms = Unit {0}
  Spelled [] (TermThen term rest) = ⊥
  Spelled (v ∷ values) NoTerms = ⊥
  Spelled (v ∷ values) (TermThen term rest) = Is term v × Spelled values rest

  -- the bindings bind these names to these values
  abbrev pub SpelledBindings : PiledEnv → Bindings → Type 0
  SpelledBindings [] NoBindings = Unit {0}
  SpelledBindings [] (BindingThen name term rest) = ⊥
  SpelledBindings (entry ∷ bound) NoBindings = ⊥
  SpelledBindings (entry ∷ bound) (BindingThen name term rest) =
      (name ≡ entry.0) × Is term entry.1 × SpelledBindings bound rest

  -- the terms are these values in the casts that are to be made
  abbrev pub Pended : List PiledPending → Terms → Type 0
  Pended [] NoTerms = Unit {0}
  Pended [] (TermThen term rest) = ⊥
  Pended (p ∷ todo) NoTerms = ⊥
  Pended (p ∷ todo) (TermThen term rest) =
      ((t : Term) × Is t p.value × (term ≡ casts_term t p.casts)) × Pended todo rest

  -- a let of which some terms are values, and the body waits
  abbrev pub let_term : Bindings → List ℕ → Bindings → RowTerm → PiledEnv → Term
  let_term done names rest body env =
      Let (bindings_onto done rest) (substitute (core_of rows body) (without names (entries_of rows env)))

  -- the whole is the first term in its place among what waits
  abbrev pub Plugged : List PiledFrame → Term → Term → Type 0
  Plugged [] h whole = h ≡ whole
  Plugged (OwnFrame (IfFrame on_true on_false env) ∷ k) h whole =
      Plugged k (If h (sub on_true env) (sub on_false env)) whole
  Plugged (OwnFrame (SeqFrame term rest env) ∷ k) h whole =
      Plugged k (Seq (TermThen h (TermThen (sub term env) (sub_terms rest env)))) whole
  Plugged (OwnFrame (FunFrame arguments env) ∷ k) h whole = Plugged k (Call h (sub_terms arguments env)) whole
  Plugged (CastFrame cast ∷ k) h whole = Plugged k (cast_term h cast) whole
  Plugged (ProjFrame i ∷ k) h whole = Plugged k (Proj h i) whole
  Plugged (OwnFrame (ProjDynFrame i label) ∷ k) h whole = Plugged k (ProjDyn h i label) whole
  Plugged (OwnFrame (GatherFrame (Calling f) done todo env) ∷ k) h whole =
      (function : Term) × Is function f
      × ((terms : Terms) × Spelled done terms
      × Plugged k (Call function (terms_onto terms (TermThen h (sub_terms todo env)))) whole)
  Plugged (OwnFrame (GatherFrame Tupling done todo env) ∷ k) h whole =
      (terms : Terms) × Spelled done terms × Plugged k (Tuple (terms_onto terms (TermThen h (sub_terms todo env))))
      whole
  Plugged (OwnFrame (GatherFrame (Operating operator) done todo env) ∷ k) h whole =
      (terms : Terms) × Spelled done terms
      × Plugged k (Prim operator (terms_onto terms (TermThen h (sub_terms todo env)))) whole
  Plugged (PrimFrame operator done ∷ k) h whole =
      (terms : Terms) × Spelled done terms × Plugged k (Prim operator (terms_onto terms (TermThen h NoTerms))) whole
  Plugged (OwnFrame (LetFrame bound name todo body env) ∷ k) h whole =
      (bindings : Bindings) × SpelledBindings bound bindings
      × Plugged k (let_term bindings (names_onto bound (name ∷ binding_names (core_bindings rows todo)))
      (BindingThen name h (sub_bindings todo env)) body env) whole
  Plugged (EnterFrame f done todo ∷ k) h whole =
      (function : Term) × Is function f × IsPlain f
      × ((terms : Terms) × Spelled done terms
      × ((rest : Terms) × Pended todo rest × Plugged k (Enter function (terms_onto terms (TermThen h rest))) whole))

  -- what the focus stands for
  abbrev pub Hole : CoerFocus TypeCast → Term → Type 0
  Hole (Own (Eval term env)) h = h ≡ sub term env
  Hole (Return v) h = Is h v
  Hole (Entering f done todo) h =
      (function : Term) × Is function f
      × ((terms : Terms) × Spelled done terms
      × ((rest : Terms) × Pended todo rest × (h ≡ Enter function (terms_onto terms rest))))

  -- the whole that a focus and its frames stand for
  abbrev pub TermOf : CoerFocus TypeCast → List PiledFrame → Term → Type 0
  TermOf focus k whole = (h : Term) × Hole focus h × Plugged k h whole

-- ---- a measure that falls where the calculus makes no step

-- how much of a term there is to go over before something is done
abbrev mutual
  pub weight : RowTerm → ℕ
  weight (RowInt n) = 1
  weight (RowBool b) = 1
  weight RowUnit = 1
  weight (RowVar name) = 1
  weight (RowLambda parameters body type) = 1
  weight (RowGroup members body) = 1
  weight (RowLet bindings body) = suc (binding_weight bindings)
  weight (RowCall function arguments) = suc (weight function + terms_weight arguments)
  weight (RowIf condition on_true on_false) = suc (weight condition)
  weight (RowSeq terms) = suc (terms_weight terms)
  weight (RowCast term number) = suc (weight term)
  weight (RowProj term k) = suc (weight term)
  weight (RowProjDyn term k label) = suc (weight term)
  weight (RowTuple parts) = suc (terms_weight parts)
  weight (RowPrim operator operands) = suc (terms_weight operands)

  pub terms_weight : RowTerms → ℕ
  terms_weight NoRowTerms = 0
  terms_weight (RowTermThen term rest) = suc (weight term + terms_weight rest)

  pub binding_weight : RowBindings → ℕ
  binding_weight NoRowBindings = 0
  binding_weight (RowBindingThen name bound rest) = suc (weight bound + binding_weight rest)

abbrev pub pending_size : List PiledPending → ℕ
pending_size [] = 0
pending_size (p ∷ rest) = suc (suc (pending_size rest))

abbrev pub frame_size : PiledFrame → ℕ
frame_size (OwnFrame (IfFrame on_true on_false env)) = 0
frame_size (OwnFrame (SeqFrame term rest env)) = 0
frame_size (OwnFrame (FunFrame arguments env)) = terms_weight arguments
frame_size (CastFrame cast) = 0
frame_size (ProjFrame i) = 0
frame_size (OwnFrame (ProjDynFrame i label)) = 0
frame_size (PrimFrame operator done) = 0
frame_size (OwnFrame (GatherFrame job done todo env)) = terms_weight todo
frame_size (OwnFrame (LetFrame bound name todo body env)) = binding_weight todo
frame_size (EnterFrame f done todo) = suc (pending_size todo)

abbrev pub frames_size : List PiledFrame → ℕ
frames_size [] = 0
frames_size (frame ∷ k) = frame_size frame + frames_size k

abbrev pub focus_size : CoerFocus TypeCast → ℕ
focus_size (Own (Eval term env)) = weight term
focus_size (Return v) = 0
focus_size (Entering f done todo) = pending_size todo

abbrev pub size_of : CoerFocus TypeCast → List PiledFrame → ℕ
size_of focus k = focus_size focus + frames_size k
