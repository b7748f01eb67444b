-- The types of terms, values and states.
use Rattle.std.specs.Prelude.{◌≡◌, ℕ, zero, suc, pos, true, false, List, [], ◌∷◌, ◌++◌, length, ◌≤◌, ◌<◌, Option, Some}
use Rattle.std.specs.Prelude.{None, option_map, slice_get, All}
use Rattle.std.specs.Int.{w64}
use Rattle.std.specs.Int.RustNames.{FitsSigned}
use Rattle.grift_base.specs.Tables.{HasNoRepeats}
use Rattle.grift_base.specs.Types.{TypeRow, IntRow, BoolRow, UnitRow, DynRow, FunRow, TupleRow, RefRow, VectRow}
use Rattle.grift_base.specs.Types.{TypeRows, row_at, parts_of, is_dyn, is_base, same_head, tuple_part}
use Rattle.grift_base.specs.declared.operators.PrimOp.{PrimOp}
use Rattle.grift_base.specs.declared.operators.PrimOp.TheVariants.{Add, Sub, Mul, Quot, Rem, Lt, Le, Eq, Ge, Gt, Not}
use Rattle.grift_base.specs.declared.operators.PrimOp.TheVariants.{PrintInt, Newline, ReadInt, MakeBox, Unbox, BoxSet}
use Rattle.grift_base.specs.declared.operators.PrimOp.TheVariants.{MakeVector, VectorRef, VectorSet, VectorLength}
use Rattle.grift_base.specs.declared.verdicts.AnswerKind.{AnswerKind}
use Rattle.core_calc.specs.Terms.{Term, Terms, Members, Bindings, Value, Values, IntLit, BoolLit, UnitLit, Var, Lambda}
use Rattle.core_calc.specs.Terms.{Group, Let, Call, Enter, If, Seq, Cast, Proj, ProjDyn, Tuple, Prim, ValueTerm}
use Rattle.core_calc.specs.Terms.{NoTerms, TermThen, NoMembers, MemberThen, NoBindings, BindingThen, IntValue}
use Rattle.core_calc.specs.Terms.{BoolValue, UnitValue, FunValue, MemberValue, TupleValue, LocValue, WrapValue}
use Rattle.core_calc.specs.Terms.{InjectValue, NoValues, ValueThen, as_value}
use Rattle.core_calc.specs.Substitution.{entry_of, bind}
use Rattle.core_calc.specs.Outcome.{Store, Outcome, Goes, Blames, Traps, Stuck}
use Rattle.core_calc.specs.Calculus.{CalcState, CalcEnd, Answered, Blamed, Trapped, NoStep, shown_value}

-- a table of types: no row stands in it twice, and each part of a row is the place of a row
pub record IsTypeTable (types : TypeRows) : Type 0 where
  pub distinct : HasNoRepeats types
  pub closed : All (λ row. All (λ part. part < length types) (parts_of row)) types

-- names with their types; the first entry of a name counts
abbrev pub Context : Type 0
Context = List (ℕ × ℕ)

-- of a cell: the type of its values, and how many it has
pub record CellType : Type 0 where
  pub content : ℕ
  pub size : ℕ

-- the second cell types begin with the first
abbrev pub HasMoreCells : List CellType → List CellType → Type 0
HasMoreCells old new = (more : List CellType) × (new ≡ old ++ more)

-- an end that there may be: an answer where the term is a value that is shown so, a blame of a label that there is, or
-- a trap; without an end the term is no value
abbrev pub EndsWell : ℕ → Option CalcEnd → Option Value → Type 0
EndsWell labels None value = value ≡ None
EndsWell labels (Some (Answered shown)) value = option_map shown_value value ≡ Some shown
EndsWell labels (Some (Blamed label)) value = label < labels
EndsWell labels (Some (Trapped trap)) value = Unit {0}
EndsWell labels (Some NoStep) value = ⊥

-- the names of a group with their written types
abbrev pub member_types : Members → Context
member_types NoMembers = []
member_types (MemberThen name parameters body type rest) = (name, type) ∷ member_types rest

-- the type written at a place of a group
abbrev pub MemberHasType : Members → ℕ → ℕ → Type 0
MemberHasType NoMembers place type = ⊥
MemberHasType (MemberThen name parameters body written rest) zero type = written ≡ type
MemberHasType (MemberThen name parameters body written rest) (suc place) type = MemberHasType rest place type

module _ (types : TypeRows) where
  -- the type is this row of the table
  abbrev pub Is : ℕ → TypeRow → Type 0
  Is type row = row_at types type ≡ Some row

  -- ---- operators: the types of the operands, and that of the answer

  abbrev pub AreInts : List ℕ → Type 0
  AreInts operands = (first : ℕ) × (second : ℕ) × (operands ≡ first ∷ second ∷ []) × Is first IntRow × Is second IntRow

  abbrev pub IsOne : List ℕ → TypeRow → Type 0
  IsOne operands row = (operand : ℕ) × (operands ≡ operand ∷ []) × Is operand row

  abbrev pub OperatorHasType : PrimOp → List ℕ → ℕ → Type 0
  OperatorHasType Add operands type = AreInts operands × Is type IntRow
  OperatorHasType Sub operands type = AreInts operands × Is type IntRow
  OperatorHasType Mul operands type = AreInts operands × Is type IntRow
  OperatorHasType Quot operands type = AreInts operands × Is type IntRow
  OperatorHasType Rem operands type = AreInts operands × Is type IntRow
  OperatorHasType Lt operands type = AreInts operands × Is type BoolRow
  OperatorHasType Le operands type = AreInts operands × Is type BoolRow
  OperatorHasType Eq operands type = AreInts operands × Is type BoolRow
  OperatorHasType Ge operands type = AreInts operands × Is type BoolRow
  OperatorHasType Gt operands type = AreInts operands × Is type BoolRow
  OperatorHasType Not operands type = IsOne operands BoolRow × Is type BoolRow
  OperatorHasType PrintInt operands type = IsOne operands IntRow × Is type UnitRow
  OperatorHasType Newline operands type = (operands ≡ []) × Is type UnitRow
  OperatorHasType ReadInt operands type = (operands ≡ []) × Is type IntRow
  OperatorHasType MakeBox operands type = (content : ℕ) × (operands ≡ content ∷ []) × Is type (RefRow content)
  OperatorHasType Unbox operands type = IsOne operands (RefRow type)
  OperatorHasType BoxSet operands type =
      (box : ℕ) × (content : ℕ) × (operands ≡ box ∷ content ∷ []) × Is box (RefRow content) × Is type UnitRow
  OperatorHasType MakeVector operands type =
      (size : ℕ) × (content : ℕ) × (operands ≡ size ∷ content ∷ []) × Is size IntRow × Is type (VectRow content)
  OperatorHasType VectorRef operands type =
      (vector : ℕ) × (index : ℕ) × (operands ≡ vector ∷ index ∷ []) × Is vector (VectRow type) × Is index IntRow
  OperatorHasType VectorSet operands type =
      (vector : ℕ) × (index : ℕ) × (content : ℕ) × (operands ≡ vector ∷ index ∷ content ∷ []) ×
      Is vector (VectRow content) × Is index IntRow × Is type UnitRow
  OperatorHasType VectorLength operands type = (content : ℕ) × IsOne operands (VectRow content) × Is type IntRow

  -- ---- terms and values, over these cells

  -- the type is a function type, and the body has its result type where the parameters are bound to its parameter types
  abbrev pub IsFunction : List ℕ → ℕ → (Context → ℕ → Type 0) → Type 0
  IsFunction parameters type BodyHasType =
      (parameter_types : List ℕ) × (answer : ℕ) × (bound : Context) × Is type (FunRow parameter_types answer) ×
      (bind parameters parameter_types ≡ Some bound) × BodyHasType bound answer

  -- labels are numbers below the number of labels
  module _ (labels : ℕ) (cells : List CellType) where
    abbrev mutual
      pub HasType : Context → Term → ℕ → Type 0
      HasType context (IntLit n) type = FitsSigned w64 n × Is type IntRow
      HasType context (BoolLit b) type = Is type BoolRow
      HasType context UnitLit type = Is type UnitRow
      HasType context (Var name) type = entry_of name context ≡ Some type
      HasType context (Lambda parameters body written) type =
          (written ≡ type) × IsFunction parameters type (λ bound answer. HasType (bound ++ context) body answer)
      HasType context (Group members body) type =
          MembersHaveTypes (member_types members ++ context) members ×
          HasType (member_types members ++ context) body type
      HasType context (Let bindings body) type =
          (bound : Context) × BindingsHaveTypes context bindings bound × HasType (bound ++ context) body type
      HasType context (Call function arguments) type =
          (whole : ℕ) × (parameters : List ℕ) × HasType context function whole × Is whole (FunRow parameters type) ×
          HaveTypes context arguments parameters
      HasType context (Enter function arguments) type =
          (whole : ℕ) × (parameters : List ℕ) × HasType context function whole × Is whole (FunRow parameters type) ×
          HaveTypes context arguments parameters × ((v : Value) × (as_value function ≡ Some v))
      HasType context (If condition on_true on_false) type =
          (truth : ℕ) × HasType context condition truth × Is truth BoolRow × HasType context on_true type ×
          HasType context on_false type
      HasType context (Seq terms) type = LastHasType context terms type
      HasType context (Cast term from to label) type =
          (to ≡ type) × HasType context term from × ((row : TypeRow) × Is type row) × (label < labels)
      HasType context (Proj term k) type =
          (whole : ℕ) × (parts : List ℕ) × HasType context term whole × Is whole (TupleRow parts) ×
          (tuple_part (TupleRow parts) k ≡ Some type)
      HasType context (ProjDyn term k label) type = HasType context term type × Is type DynRow × (label < labels)
      HasType context (Tuple terms) type =
          (parts : List ℕ) × HaveTypes context terms parts × Is type (TupleRow parts) × (1 ≤ length parts) ×
          (length parts ≤ 8)
      HasType context (Prim operator operands) type =
          (operand_types : List ℕ) × HaveTypes context operands operand_types ×
          OperatorHasType operator operand_types type
      HasType context (ValueTerm v) type = ValueHasType v type

      pub HaveTypes : Context → Terms → List ℕ → Type 0
      HaveTypes context NoTerms term_types = term_types ≡ []
      HaveTypes context (TermThen term rest) term_types =
          (type : ℕ) × (rest_types : List ℕ) × (term_types ≡ type ∷ rest_types) × HasType context term type ×
          HaveTypes context rest rest_types

      -- the last term has this type, and each before it has some
      pub LastHasType : Context → Terms → ℕ → Type 0
      LastHasType context NoTerms type = ⊥
      LastHasType context (TermThen term NoTerms) type = HasType context term type
      LastHasType context (TermThen term (TermThen second rest)) type =
          ((other : ℕ) × HasType context term other) × LastHasType context (TermThen second rest) type

      pub MembersHaveTypes : Context → Members → Type 0
      MembersHaveTypes context NoMembers = Unit {0}
      MembersHaveTypes context (MemberThen name parameters body type rest) =
          IsFunction parameters type (λ bound answer. HasType (bound ++ context) body answer) ×
          MembersHaveTypes context rest

      -- the names with the types of the terms that they are bound to
      pub BindingsHaveTypes : Context → Bindings → Context → Type 0
      BindingsHaveTypes context NoBindings bound = bound ≡ []
      BindingsHaveTypes context (BindingThen name term rest) bound =
          (type : ℕ) × (rest_bound : Context) × (bound ≡ (name, type) ∷ rest_bound) × HasType context term type ×
          BindingsHaveTypes context rest rest_bound

      -- values are closed: they have their types in no context
      pub ValueHasType : Value → ℕ → Type 0
      ValueHasType (IntValue n) type = FitsSigned w64 n × Is type IntRow
      ValueHasType (BoolValue b) type = Is type BoolRow
      ValueHasType UnitValue type = Is type UnitRow
      ValueHasType (FunValue parameters body written) type =
          (written ≡ type) × IsFunction parameters type (λ bound answer. HasType bound body answer)
      ValueHasType (MemberValue members place) type =
          MembersHaveTypes (member_types members) members × MemberHasType members place type
      ValueHasType (TupleValue values) type =
          (parts : List ℕ) × ValuesHaveTypes values parts × Is type (TupleRow parts) × (1 ≤ length parts) ×
          (length parts ≤ 8)
      ValueHasType (LocValue cell true) type =
          (content : ℕ) × (size : ℕ) × (slice_get cells cell ≡ Some (record { content = content; size = size })) ×
          Is type (VectRow content)
      ValueHasType (LocValue cell false) type =
          (content : ℕ) × (slice_get cells cell ≡ Some (record { content = content; size = 1 })) ×
          Is type (RefRow content)
      ValueHasType (WrapValue v from label to) type =
          (row : TypeRow) × (other : TypeRow) × (to ≡ type) × ValueHasType v from × Is from row × Is to other ×
          (same_head row other ≡ true) × (is_base row ≡ false) × (is_dyn row ≡ false) × (label < labels)
      ValueHasType (InjectValue v kept) type =
          (row : TypeRow) × ValueHasType v kept × Is kept row × (is_dyn row ≡ false) × Is type DynRow

      pub ValuesHaveTypes : Values → List ℕ → Type 0
      ValuesHaveTypes NoValues value_types = value_types ≡ []
      ValuesHaveTypes (ValueThen v rest) value_types =
          (type : ℕ) × (rest_types : List ℕ) × (value_types ≡ type ∷ rest_types) × ValueHasType v type ×
          ValuesHaveTypes rest rest_types

  -- ---- states

  module _ (labels : ℕ) where
    -- each cell has as many values as is said, which a word can count, all of the type that is said
    abbrev pub CellHasType : List CellType → List Value → CellType → Type 0
    CellHasType cells cell cell_type =
        (length cell ≡ cell_type.size) × FitsSigned w64 (pos cell_type.size) ×
        ((index : ℕ) (v : Value) → slice_get cell index ≡ Some v → ValueHasType labels cells v cell_type.content)

    abbrev pub StoreHasTypes : Store → List CellType → Type 0
    StoreHasTypes store cells =
        (length store ≡ length cells) × ((place : ℕ) (cell : List Value) (cell_type : CellType) →
        slice_get store place ≡ Some cell → slice_get cells place ≡ Some cell_type →
        CellHasType cells cell cell_type)

    -- the types are a table, and with some type for each cell the term and all stored values have their types
    abbrev pub StateHasType : CalcState → ℕ → Type 0
    StateHasType state type =
        IsTypeTable types × (cells : List CellType) × StoreHasTypes state.store cells ×
        HasType labels cells [] state.term type

    -- a state of this type that either goes on or has ended well
    abbrev pub Stands : CalcState → ℕ → Type 0
    Stands state type = StateHasType state type × EndsWell labels state.ended (as_value state.term)

    -- ---- steps

    -- the step isn't stuck. Where it goes on, the new store has cell types that begin with the old ones, and with
    -- these the rest holds
    abbrev pub Keeps : {A : Type 0} → (List CellType → A → Type 0) → List CellType → Outcome A → Type 0
    Keeps Holds cells (Goes a store world) =
        (new : List CellType) × HasMoreCells cells new × StoreHasTypes store new × Holds new a
    Keeps Holds cells (Blames label) = label < labels
    Keeps Holds cells (Traps trap world) = Unit {0}
    Keeps Holds cells Stuck = ⊥

    -- the outcome of a step of a term of this type
    abbrev pub KeepsType : ℕ → List CellType → Outcome Term → Type 0
    KeepsType type cells outcome = Keeps (λ new term. HasType labels new [] term type) cells outcome

-- ---- answers

-- the kind of an answer of a type; one of Dyn has any
abbrev pub kind_of_type : TypeRow → Option AnswerKind
kind_of_type IntRow = Some AnswerKind.Int
kind_of_type BoolRow = Some AnswerKind.Bool
kind_of_type UnitRow = Some AnswerKind.Unit
kind_of_type DynRow = None
kind_of_type (FunRow parameters answer) = Some AnswerKind.Function
kind_of_type (TupleRow parts) = Some AnswerKind.Tuple
kind_of_type (RefRow content) = Some AnswerKind.Boxed
kind_of_type (VectRow content) = Some AnswerKind.Vector

-- ---- program terms

-- the term is one that can be written: it has neither Enter nor a value
abbrev mutual
  pub IsWritten : Term → Type 0
  IsWritten (IntLit n) = Unit {0}
  IsWritten (BoolLit b) = Unit {0}
  IsWritten UnitLit = Unit {0}
  IsWritten (Var name) = Unit {0}
  IsWritten (Lambda parameters body type) = IsWritten body
  IsWritten (Group members body) = AreWrittenMembers members × IsWritten body
  IsWritten (Let bindings body) = AreWrittenBindings bindings × IsWritten body
  IsWritten (Call function arguments) = IsWritten function × AreWritten arguments
  IsWritten (Enter function arguments) = ⊥
  IsWritten (If condition on_true on_false) = IsWritten condition × IsWritten on_true × IsWritten on_false
  IsWritten (Seq terms) = AreWritten terms
  IsWritten (Cast term from to label) = IsWritten term
  IsWritten (Proj term k) = IsWritten term
  IsWritten (ProjDyn term k label) = IsWritten term
  IsWritten (Tuple parts) = AreWritten parts
  IsWritten (Prim operator operands) = AreWritten operands
  IsWritten (ValueTerm v) = ⊥

  pub AreWritten : Terms → Type 0
  AreWritten NoTerms = Unit {0}
  AreWritten (TermThen term rest) = IsWritten term × AreWritten rest

  pub AreWrittenMembers : Members → Type 0
  AreWrittenMembers NoMembers = Unit {0}
  AreWrittenMembers (MemberThen name parameters body type rest) = IsWritten body × AreWrittenMembers rest

  pub AreWrittenBindings : Bindings → Type 0
  AreWrittenBindings NoBindings = Unit {0}
  AreWrittenBindings (BindingThen name bound rest) = IsWritten bound × AreWrittenBindings rest

-- the names that a term binds, each as often as it is bound
abbrev mutual
  pub binders : Term → List ℕ
  binders (IntLit n) = []
  binders (BoolLit b) = []
  binders UnitLit = []
  binders (Var name) = []
  binders (Lambda parameters body type) = parameters ++ binders body
  binders (Group members body) = member_binders members ++ binders body
  binders (Let bindings body) = binding_binders bindings ++ binders body
  binders (Call function arguments) = binders function ++ all_binders arguments
  binders (Enter function arguments) = binders function ++ all_binders arguments
  binders (If condition on_true on_false) = binders condition ++ binders on_true ++ binders on_false
  binders (Seq terms) = all_binders terms
  binders (Cast term from to label) = binders term
  binders (Proj term k) = binders term
  binders (ProjDyn term k label) = binders term
  binders (Tuple parts) = all_binders parts
  binders (Prim operator operands) = all_binders operands
  binders (ValueTerm v) = []

  pub all_binders : Terms → List ℕ
  all_binders NoTerms = []
  all_binders (TermThen term rest) = binders term ++ all_binders rest

  pub member_binders : Members → List ℕ
  member_binders NoMembers = []
  member_binders (MemberThen name parameters body type rest) =
      (name ∷ parameters) ++ binders body ++ member_binders rest

  pub binding_binders : Bindings → List ℕ
  binding_binders NoBindings = []
  binding_binders (BindingThen name bound rest) = (name ∷ binders bound) ++ binding_binders rest

-- a program term over a table of types: written, with a binder of its own for each name, and of this type without cells
-- and names
abbrev pub ProgramTermHasType : TypeRows → ℕ → Term → ℕ → Type 0
ProgramTermHasType types labels term type =
    IsTypeTable types × IsWritten term × HasNoRepeats (binders term) × HasType types labels [] [] term type
