-- Operands and answers of operators.
use Rattle.std.proofs.Common.{◌≡◌, ℕ, ◌<◌, List, [], ◌∷◌, length, Option, Some, None, refl, sym, ap, ◌∙◌, subst}
use Rattle.grift_base.specs.declared.places.Pos.{Pos}
use Rattle.grift_base.specs.declared.operators.PrimOp.{PrimOp}
use Rattle.grift_base.specs.declared.operators.PrimOp.TheVariants.{Add, Sub, Mul, Quot, Rem, Lt, Le, Eq, Ge, Gt, Not}
use Rattle.grift_base.specs.declared.operators.PrimOp.TheVariants.{PrintInt, Newline, ReadInt, MakeBox, Unbox, BoxSet}
use Rattle.grift_base.specs.declared.operators.PrimOp.TheVariants.{MakeVector, VectorRef, VectorSet, VectorLength}
use Rattle.grift_base.specs.Types.{TypeRow, TypeRows, IntRow, BoolRow, UnitRow, DynRow, RefRow, VectRow, row_at}
use Rattle.grift_base.specs.Types.{parts_of}
use Rattle.core_calc.specs.Typing.{Context, Is, AreInts, IsOne, OperatorHasType}
use Rattle.type_graph.proofs.Public.{none_is_not_some, same_some, row_stays, later_within}
use Rattle.cast_rules.proofs.Tables.{IsFormedTable, AreRows}
use Rattle.type_graph.specs.Forming.{intern}
use Rattle.cast_rules.specs.Making.{Work, Making, ◌>>=◌, give, form, Typed, cast_at, cast_if}
use Rattle.cast_rules.specs.Operators.{Held, box_by, vector_by, Operand, As, Content, Box, Vector, AsContent}
use Rattle.cast_rules.specs.Operators.{OperatorAnswer, Always, TheContent, BoxOf, VectorOf, operands_of, answer_of}
use Rattle.cast_rules.specs.Operators.{holds, operand_by, answer_type}
use Rattle.type_graph.specs.TypeTables.{HasMoreRows}
use Rattle.cast_rules.proofs.Forming.{no_rows, one_row, head_row, row_within, parts_within}
use Rattle.cast_rules.proofs.Works.{Keeps, then_keeps, keeps_more, Grown, not_grown, grown_on, IsTyped, later}
use Rattle.cast_rules.proofs.Works.{FormsRow, row_formed, CastsTo, cast_made, cast_to_keeps, Casts, cast_to_row_keeps}
use Rattle.cast_rules.proofs.Works.{MayHaveRow, may_later}

-- ---- what is known of an operand of this type, where the content's type was and is this

abbrev pub OperandFits : TypeRows → Option ℕ → Operand → ℕ → Option ℕ → Type 0
OperandFits types content (As row) type after = Is types type row × (after ≡ content)
OperandFits types content Content type after = after ≡ Some type
OperandFits types content Box type after = (held : ℕ) × Is types type (RefRow held) × (after ≡ Some held)
OperandFits types content Vector type after = (held : ℕ) × Is types type (VectRow held) × (after ≡ Some held)
OperandFits types content AsContent type after = ((held : ℕ) → content ≡ Some held → type ≡ held) × (after ≡ content)

abbrev pub OperandsFit : TypeRows → Option ℕ → List Operand → List ℕ → Option ℕ → Type 0
OperandsFit types content [] operands after = (operands ≡ []) × (after ≡ content)
OperandsFit types content (operand ∷ more) operands after =
    (type : ℕ) × (rest : List ℕ) × (middle : Option ℕ) × (operands ≡ type ∷ rest) × OperandFits types content operand
    type middle × OperandsFit types middle more rest after

abbrev pub AnswerFits : TypeRows → OperatorAnswer → Option ℕ → ℕ → Type 0
AnswerFits types (Always row) content type = Is types type row
AnswerFits types TheContent content type = (held : ℕ) → content ≡ Some held → type ≡ held
AnswerFits types BoxOf content type = (held : ℕ) → content ≡ Some held → Is types type (RefRow held)
AnswerFits types VectorOf content type = (held : ℕ) → content ≡ Some held → Is types type (VectRow held)

pub operand_later : (a b : TypeRows) (content : Option ℕ) (operand : Operand) (type : ℕ) (after : Option ℕ) →
    HasMoreRows a b → OperandFits a content operand type after → OperandFits b content operand type after
operand_later a b content (As row) type after more h = (row_stays a b type row more h.0, h.1)
operand_later a b content Content type after more h = h
operand_later a b content Box type after more h = (h.0, row_stays a b type (RefRow h.0) more h.1, h.2)
operand_later a b content Vector type after more h = (h.0, row_stays a b type (VectRow h.0) more h.1, h.2)
operand_later a b content AsContent type after more h = h

pub operands_later : (a b : TypeRows) (content : Option ℕ) (operands : List Operand) (given : List ℕ) (after : Option
    ℕ) → HasMoreRows a b → OperandsFit a content operands given after → OperandsFit b content operands given after
operands_later a b content [] given after more h = h
operands_later a b content (operand ∷ rest) given after more h = (
  h.0,
  h.1,
  h.2,
  h.3,
  operand_later a b content operand h.0 h.2 more h.4,
  operands_later a b h.2 rest h.1 after more
      h.5,
)

-- ---- one operand

-- a term that is Dyn, cast to this row of a box or a vector of what is Dyn
abbrev pub opened_by : Pos → Typed → TypeRow → Making Held
opened_by place e row = do
  type ← form (intern row)
  opened ← cast_at place e type
  give (holds opened e.type)

abbrev pub Fitting : Work → Context → ℕ → ℕ → Option ℕ → Operand → Held → Work → Type 0
Fitting work context first last content operand held after =
    Casts work context first last held.held after × OperandFits after.types content operand held.held.type held.content
    × MayHaveRow after.types held.content

module _ (place : Pos) (context : Context) (first last : ℕ) (content : Option ℕ) (e : Typed) (work : Work) (table :
    IsFormedTable work.types) (t : IsTyped work context first last e) where
  -- a box or a vector stays as it is
  held_keeps : (operand : Operand) (held : ℕ) (row : TypeRow) → parts_of row ≡ held ∷ [] →
      row_at work.types e.type ≡ Some row → OperandFits work.types content operand e.type (Some held) →
      Fitting work context first last content operand (holds e held) work
  held_keeps operand held row parts f fits = (
    (not_grown work table, t),
    fits,
    head_row work.types held [] (subst (λ parts. AreRows work.types parts) parts
        (parts_within work.types e.type row table f)),
  )

  -- what is Dyn is cast to a box or a vector with this row, of what is Dyn
  opened_keeps : (operand : Operand) (row : TypeRow) → AreRows work.types (parts_of row) → ((types : TypeRows) (type :
      ℕ) → Is types type row → OperandFits types content operand type (Some e.type)) → Keeps (λ held after. Fitting work
      context first last content operand held after) (opened_by place e row work)
  opened_keeps operand row parts fits =
      then_keeps (λ type after. FormsRow work row type after) (λ held after. Fitting work context first last content
      operand held after) _ _
      (row_formed work row table parts)
      (λ type middle h. then_keeps (λ opened after. CastsTo middle context first last type opened after) (λ held after.
      Fitting work context first last content operand held after) _ _
      (cast_made place context first last e type middle h.0.table (later work middle context first last e h.0 t)
      (row_within middle.types type row h.1))
      (λ opened after k.
      let all = grown_on work middle after h.0 k.0 in (
        (all, k.1),
        fits after.types opened.type (subst (λ type. Is after.types type row) (sym k.2) (row_stays middle.types
            after.types type row k.0.types h.1)),
        later_within work.types after.types e.type all.types t.row,
      )))

  box_keeps : (row : Option TypeRow) → row_at work.types e.type ≡ row → Keeps (λ held after. Fitting work context first
      last content Box held after) (box_by place e row work)
  box_keeps (Some (RefRow held)) f = held_keeps Box held (RefRow held) refl f (held, f, refl)
  box_keeps (Some DynRow) f =
      opened_keeps Box (RefRow e.type) (one_row work.types e.type t.row) (λ types type row. (e.type, row, refl))
  box_keeps _ f = tt

  vector_keeps : (row : Option TypeRow) → row_at work.types e.type ≡ row → Keeps (λ held after. Fitting work context
      first last content Vector held after) (vector_by place e row work)
  vector_keeps (Some (VectRow held)) f = held_keeps Vector held (VectRow held) refl f (held, f, refl)
  vector_keeps (Some DynRow) f =
      opened_keeps Vector (VectRow e.type) (one_row work.types e.type t.row) (λ types type row. (e.type, row, refl))
  vector_keeps _ f = tt

-- types without parts, as operators name them
abbrev pub IsPlain : Operand → Type 0
IsPlain (As row) = parts_of row ≡ []
IsPlain Content = Unit {0}
IsPlain Box = Unit {0}
IsPlain Vector = Unit {0}
IsPlain AsContent = Unit {0}

abbrev pub ArePlain : List Operand → Type 0
ArePlain [] = Unit {0}
ArePlain (operand ∷ rest) = IsPlain operand × ArePlain rest

as_content : (place : Pos) (context : Context) (first last : ℕ) (content : Option ℕ) (e : Typed) (work : Work) →
    IsFormedTable work.types → IsTyped work context first last e → MayHaveRow work.types content → Keeps (λ c after.
    Casts work context first last c after × ((held : ℕ) → content ≡ Some held → c.type ≡ held)) (cast_if place content
    e work)
as_content place context first last (Some content) e work table t row =
    keeps_more (λ c after. CastsTo work context first last content c after) (λ c after. Casts work context first last c
    after × ((held : ℕ) → Some content ≡ Some held → c.type ≡ held)) _
    (cast_to_keeps place context first last e content work table t row)
    (λ c after h. ((h.0, h.1), λ held f. h.2 ∙ same_some content held f))
as_content place context first last None e work table t row =
    ((not_grown work table, t), λ held f. absurd (none_is_not_some held f))

pub operand_keeps : (place : Pos) (context : Context) (first last : ℕ) (content : Option ℕ) (e : Typed) (operand :
    Operand) (work : Work) → IsFormedTable work.types → IsTyped work context first last e → MayHaveRow work.types
    content → IsPlain operand → Keeps (λ held after. Fitting work context first last content operand held after)
    (operand_by place content e operand work)
operand_keeps place context first last content e (As row) work table t known plain =
    then_keeps (λ c after. Casts work context first last c after × (row_at after.types c.type ≡ Some row)) (λ held
    after. Fitting work context first last content (As row) held after) _ _
    (cast_to_row_keeps place context first last e row work table t (subst (λ parts. AreRows work.types parts) (sym
    plain) (no_rows work.types)))
    (λ c after h. (h.0, (h.1, refl), may_later work.types after.types content h.0.0.types known))
operand_keeps place context first last content e Content work table t known plain = (
  (not_grown work table, t),
  refl,
  t.row,
)
operand_keeps place context first last content e Box work table t known plain =
    then_keeps (λ row after. (row_at after.types e.type ≡ row) × (after ≡ work)) (λ held after. Fitting work context
    first last content Box held after) _ _
    (refl, refl)
    (λ row after h. subst (λ w. Keeps (λ held last'. Fitting work context first last content Box held last') (box_by
    place e row w)) (sym h.1)
    (box_keeps place context first last content e work table t row (ap (λ w. row_at w.types e.type) (sym h.1) ∙ h.0)))
operand_keeps place context first last content e Vector work table t known plain =
    then_keeps (λ row after. (row_at after.types e.type ≡ row) × (after ≡ work)) (λ held after. Fitting work context
    first last content Vector held after) _ _
    (refl, refl)
    (λ row after h. subst (λ w. Keeps (λ held last'. Fitting work context first last content Vector held last')
    (vector_by place e row w)) (sym h.1)
    (vector_keeps place context first last content e work table t row (ap (λ w. row_at w.types e.type) (sym h.1) ∙
    h.0)))
operand_keeps place context first last content e AsContent work table t known plain =
    then_keeps (λ c after. Casts work context first last c after × ((held : ℕ) → content ≡ Some held → c.type ≡ held))
    (λ held after. Fitting work context first last content AsContent held after) _ _
    (as_content place context first last content e work table t known)
    (λ c after h. (h.0, (h.1, refl), may_later work.types after.types content h.0.0.types known))

-- ---- answers

abbrev pub IsPlainAnswer : OperatorAnswer → Type 0
IsPlainAnswer (Always row) = parts_of row ≡ []
IsPlainAnswer TheContent = Unit {0}
IsPlainAnswer BoxOf = Unit {0}
IsPlainAnswer VectorOf = Unit {0}

abbrev pub Answers : Work → OperatorAnswer → Option ℕ → ℕ → Work → Type 0
Answers work answer content type after = Grown work after × (type < length after.types) × AnswerFits after.types answer
    content type

row_answer : (work : Work) (row : TypeRow) (answer : OperatorAnswer) (content : Option ℕ) → IsFormedTable work.types →
    AreRows work.types (parts_of row) → ((types : TypeRows) (type : ℕ) → Is types type row → AnswerFits types answer
    content type) → Keeps (λ type after. Answers work answer content type after) (form (intern row) work)
row_answer work row answer content table parts fits =
    keeps_more (λ type after. FormsRow work row type after) (λ type after. Answers work answer content type after)
    (form (intern row) work)
    (row_formed work row table parts)
    (λ type after h. (h.0, row_within after.types type row h.1, fits after.types type h.1))

pub answer_keeps : (answer : OperatorAnswer) (content : Option ℕ) (work : Work) → IsFormedTable work.types → MayHaveRow
    work.types content → IsPlainAnswer answer → Keeps (λ type after. Answers work answer content type after)
    (answer_type answer content work)
answer_keeps (Always row) content work table known plain =
    row_answer work row (Always row) content table (subst (λ parts. AreRows work.types parts) (sym plain) (no_rows
    work.types)) (λ types type e. e)
answer_keeps TheContent (Some held) work table known plain = (
  not_grown work table,
  known,
  λ other e. same_some held
      other e,
)
answer_keeps BoxOf (Some held) work table known plain =
    row_answer work (RefRow held) BoxOf (Some held) table (one_row work.types held known) (λ types type e other f.
    subst (λ x. Is types type (RefRow x)) (same_some held other f) e)
answer_keeps VectorOf (Some held) work table known plain =
    row_answer work (VectRow held) VectorOf (Some held) table (one_row work.types held known) (λ types type e other f.
    subst (λ x. Is types type (VectRow x)) (same_some held other f) e)
answer_keeps TheContent None work table known plain =
    row_answer work UnitRow TheContent None table (no_rows work.types) (λ types type e other f. absurd
    (none_is_not_some other f))
answer_keeps BoxOf None work table known plain =
    row_answer work UnitRow BoxOf None table (no_rows work.types) (λ types type e other f. absurd (none_is_not_some
    other f))
answer_keeps VectorOf None work table known plain =
    row_answer work UnitRow VectorOf None table (no_rows work.types) (λ types type e other f. absurd (none_is_not_some
    other f))

-- ---- the types of operators

pub plain_operands : (operator : PrimOp) → ArePlain (operands_of operator)
plain_operands Add = (refl, (refl, tt))
plain_operands Sub = (refl, (refl, tt))
plain_operands Mul = (refl, (refl, tt))
plain_operands Quot = (refl, (refl, tt))
plain_operands Rem = (refl, (refl, tt))
plain_operands Lt = (refl, (refl, tt))
plain_operands Le = (refl, (refl, tt))
plain_operands Eq = (refl, (refl, tt))
plain_operands Ge = (refl, (refl, tt))
plain_operands Gt = (refl, (refl, tt))
plain_operands Not = (refl, tt)
plain_operands PrintInt = (refl, tt)
plain_operands Newline = tt
plain_operands ReadInt = tt
plain_operands MakeBox = (tt, tt)
plain_operands Unbox = (tt, tt)
plain_operands BoxSet = (tt, (tt, tt))
plain_operands MakeVector = (refl, (tt, tt))
plain_operands VectorRef = (tt, (refl, tt))
plain_operands VectorSet = (tt, (refl, (tt, tt)))
plain_operands VectorLength = (tt, tt)

pub plain_answer : (operator : PrimOp) → IsPlainAnswer (answer_of operator)
plain_answer Add = refl
plain_answer Sub = refl
plain_answer Mul = refl
plain_answer Quot = refl
plain_answer Rem = refl
plain_answer Lt = refl
plain_answer Le = refl
plain_answer Eq = refl
plain_answer Ge = refl
plain_answer Gt = refl
plain_answer Not = refl
plain_answer PrintInt = refl
plain_answer Newline = refl
plain_answer ReadInt = refl
plain_answer MakeBox = tt
plain_answer Unbox = tt
plain_answer BoxSet = refl
plain_answer MakeVector = tt
plain_answer VectorRef = tt
plain_answer VectorSet = refl
plain_answer VectorLength = refl

module _ (types : TypeRows) (content : Option ℕ) (given : List ℕ) where
  abbrev Fit : List Operand → Type 0
  Fit operands = OperandsFit types None operands given content

  two_ints : Fit (As IntRow ∷ As IntRow ∷ []) → AreInts types given
  two_ints h = (h.0, h.5.0, h.3 ∙ ap (λ rest. h.0 ∷ rest) (h.5.3 ∙ ap (λ rest. h.5.0 ∷ rest) h.5.5.0), h.4.0, h.5.4.0)

  one_of : (row : TypeRow) → Fit (As row ∷ []) → IsOne types given row
  one_of row h = (h.0, h.3 ∙ ap (λ rest. h.0 ∷ rest) h.5.0, h.4.0)

  pub operator_typed : (operator : PrimOp) (type : ℕ) → Fit (operands_of operator) → AnswerFits types (answer_of
      operator) content type → OperatorHasType types operator given type
  operator_typed Add type h a = (two_ints h, a)
  operator_typed Sub type h a = (two_ints h, a)
  operator_typed Mul type h a = (two_ints h, a)
  operator_typed Quot type h a = (two_ints h, a)
  operator_typed Rem type h a = (two_ints h, a)
  operator_typed Lt type h a = (two_ints h, a)
  operator_typed Le type h a = (two_ints h, a)
  operator_typed Eq type h a = (two_ints h, a)
  operator_typed Ge type h a = (two_ints h, a)
  operator_typed Gt type h a = (two_ints h, a)
  operator_typed Not type h a = (one_of BoolRow h, a)
  operator_typed PrintInt type h a = (one_of IntRow h, a)
  operator_typed Newline type h a = (h.0, a)
  operator_typed ReadInt type h a = (h.0, a)
  operator_typed MakeBox type h a = (h.0, h.3 ∙ ap (λ rest. h.0 ∷ rest) h.5.0, a h.0 (h.5.1 ∙ h.4))
  operator_typed Unbox type h a =
      let same = a h.4.0 (h.5.1 ∙ h.4.2) in
      (h.0, h.3 ∙ ap (λ rest. h.0 ∷ rest) h.5.0, subst (λ held. Is types h.0 (RefRow held)) (sym same) h.4.1)
  operator_typed BoxSet type h a =
      let same : h.5.0 ≡ h.4.0 = h.5.4.0 h.4.0 h.4.2 in (
        h.0,
        h.5.0,
        h.3 ∙ ap (λ rest. h.0 ∷ rest) (h.5.3 ∙ ap (λ rest. h.5.0 ∷ rest) h.5.5.0),
        subst (λ held. Is types
            h.0 (RefRow held)) (sym same) h.4.1,
        a,
      )
  operator_typed MakeVector type h a = (
    h.0,
    h.5.0,
    h.3 ∙ ap (λ rest. h.0 ∷ rest) (h.5.3 ∙ ap (λ rest. h.5.0 ∷ rest) h.5.5.0),
    h.4.0,
    a h.5.0 (h.5.5.1 ∙
        h.5.4),
  )
  operator_typed VectorRef type h a =
      let same = a h.4.0 (h.5.5.1 ∙ h.5.4.1 ∙ h.4.2) in (
        h.0,
        h.5.0,
        h.3 ∙ ap (λ rest. h.0 ∷ rest) (h.5.3 ∙ ap (λ rest. h.5.0 ∷ rest) h.5.5.0),
        subst (λ held. Is types
            h.0 (VectRow held)) (sym same) h.4.1,
        h.5.4.0,
      )
  operator_typed VectorSet type h a =
      let same : h.5.5.0 ≡ h.4.0 = h.5.5.4.0 h.4.0 (h.5.4.1 ∙ h.4.2) in (
        h.0,
        h.5.0,
        h.5.5.0,
        h.3 ∙ ap (λ rest. h.0 ∷ rest) (h.5.3 ∙ ap (λ rest. h.5.0 ∷ rest) (h.5.5.3 ∙ ap (λ rest. h.5.5.0 ∷ rest)
            h.5.5.5.0)),
        subst (λ held. Is types h.0 (VectRow held)) (sym same) h.4.1,
        h.5.4.0,
        a,
      )
  operator_typed VectorLength type h a = (h.4.0, (h.0, h.3 ∙ ap (λ rest. h.0 ∷ rest) h.5.0, h.4.1), a)
