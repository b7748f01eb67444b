-- The type of a term, computed: each subterm is looked at once, and a name that is bound while it is in scope makes
-- none. Labels play no part.
use Rattle.std.specs.Prelude.{ℕ, ℤ, suc, max, Bool, true, false, cond, ◌&&◌, nat_eq, is_some, List, [], ◌∷◌, ◌++◌}
use Rattle.std.specs.Prelude.{map, ◌≡◌, Option, Some, None, Result, Ok, Err}
use Rattle.std.specs.List.{list_any}
use Rattle.grift_base.specs.Numbers.{fits_in_64_bits}
use Rattle.grift_base.specs.Types.{TypeRow, IntRow, BoolRow, UnitRow, DynRow, FunRow, TupleRow, RefRow, VectRow}
use Rattle.grift_base.specs.Types.{TypeRows, row_at, tuple_part}
use Rattle.grift_base.specs.declared.operators.PrimOp.{PrimOp}
use Rattle.grift_base.specs.declared.operators.PrimOp.TheVariants.{Add, Sub, Mul, Quot, Rem, Lt, Le, Eq, Ge, Gt, Not}
use Rattle.grift_base.specs.declared.operators.PrimOp.TheVariants.{PrintInt, Newline, ReadInt, MakeBox, Unbox, BoxSet}
use Rattle.grift_base.specs.declared.operators.PrimOp.TheVariants.{MakeVector, VectorRef, VectorSet, VectorLength}
use Rattle.grift_base.specs.declared.places.TypeId.{TypeId}
use Rattle.type_graph.specs.Forming.{place_where, equal_rows, equal_numbers}
use Rattle.core_calc.specs.declared.terms.VarId.{VarId}
use Rattle.core_calc.specs.declared.scopes.Untyped.{Untyped}
use Rattle.core_calc.specs.declared.scopes.Untyped.TheVariants.{NoType, OutOfMemory}
use Rattle.core_calc.specs.Terms.{Term, Terms, Members, Bindings, IntLit, BoolLit, UnitLit, Var, Lambda}
use Rattle.core_calc.specs.Terms.{Group, Let, Call, Enter, If, Seq, Cast, Proj, ProjDyn, Tuple, Prim, ValueTerm}
use Rattle.core_calc.specs.Terms.{NoTerms, TermThen, NoMembers, MemberThen, NoBindings, BindingThen}
use Rattle.core_calc.specs.Substitution.{entry_of, bind}
use Rattle.core_calc.specs.Typing.{Context, member_types, binders}

-- ---- answers that there may be

unfoldable pub and_then : {A B : Type 0} → Option A → (A → Option B) → Option B
and_then (Some a) next = next a
and_then None next = None

abbrev pub ◌>>=◌ : {A B : Type 0} → Option A → (A → Option B) → Option B
◌>>=◌ first next = and_then first next

-- the call's answer is the computed one, unless memory runs out
abbrev pub Finds : {R A : Type 0} → Result R Untyped → (R → A) → Option A → Type 0
Finds (Ok r) view computed = computed ≡ Some (view r)
Finds (Err NoType) view computed = computed ≡ None
Finds (Err OutOfMemory) view computed = Unit {0}

-- what the call changes is then the computed one, unless memory runs out
abbrev pub Makes : {R A : Type 0} → Result R Untyped → A → Option A → Type 0
Makes (Ok r) new computed = computed ≡ Some new
Makes (Err NoType) new computed = computed ≡ None
Makes (Err OutOfMemory) new computed = Unit {0}

-- ---- names

-- names with their types, as numbers
abbrev pub context_of : List (VarId × TypeId) → Context
context_of entries = map (λ entry. (entry.0.0, entry.1.0)) entries

abbrev pub scope_of : List (ℕ × TypeId) → Context
scope_of entries = map (λ entry. (entry.0, entry.1.0)) entries

-- more names behind these, if none is there already
abbrev pub with_names : List ℕ → List ℕ → Option (List ℕ)
with_names seen [] = Some seen
with_names seen (name ∷ rest) = cond (list_any (nat_eq name) seen) None (with_names (seen ++ name ∷ []) rest)

-- more names with their types behind these, if none is there already
abbrev pub with_bound : Context → Context → Option Context
with_bound context [] = Some context
with_bound context (entry ∷ rest) =
    cond (is_some (entry_of entry.0 context)) None (with_bound (context ++ entry ∷ []) rest)

-- ---- rows

abbrev pub is_int : Option TypeRow → Bool
is_int (Some IntRow) = true
is_int _ = false

abbrev pub is_bool : Option TypeRow → Bool
is_bool (Some BoolRow) = true
is_bool _ = false

abbrev pub is_dyn_type : Option TypeRow → Bool
is_dyn_type (Some DynRow) = true
is_dyn_type _ = false

-- the types of a function's parameters, and that of its answer
abbrev pub signature_of : Option TypeRow → Option (List ℕ × ℕ)
signature_of (Some (FunRow parameters answer)) = Some (parameters, answer)
signature_of _ = None

abbrev pub box_content : Option TypeRow → Option ℕ
box_content (Some (RefRow content)) = Some content
box_content _ = None

abbrev pub vector_content : Option TypeRow → Option ℕ
vector_content (Some (VectRow content)) = Some content
vector_content _ = None

abbrev pub part_type : Option TypeRow → ℤ → Option ℕ
part_type (Some row) k = tuple_part row k
part_type None k = None

-- whether it is there and this number
abbrev pub is_number : Option ℕ → ℕ → Bool
is_number (Some a) b = nat_eq a b
is_number None b = false

abbrev pub last_of : List ℕ → Option ℕ
last_of [] = None
last_of (type ∷ []) = Some type
last_of (type ∷ second ∷ rest) = last_of (second ∷ rest)

-- the type of a function that is written with a type, where its body has a type and is to have another
abbrev pub lambda_type : ℕ → ℕ → ℕ → Option ℕ
lambda_type written answer type = cond (nat_eq type answer) (Some written) None

module _ (types : TypeRows) where
  -- the place of a row, if the table has it
  abbrev pub place_of : TypeRow → Option ℕ
  place_of row = place_where (equal_rows row) types

  -- ---- operators: the type of the answer, by those of the operands

  abbrev pub two_integers : TypeRow → List ℕ → Option ℕ
  two_integers answer (first ∷ second ∷ []) =
      cond (is_int (row_at types first) && is_int (row_at types second)) (place_of answer) None
  two_integers answer _ = None

  abbrev pub no_operand : TypeRow → List ℕ → Option ℕ
  no_operand answer [] = place_of answer
  no_operand answer _ = None

  abbrev pub negation : List ℕ → Option ℕ
  negation (operand ∷ []) = cond (is_bool (row_at types operand)) (place_of BoolRow) None
  negation _ = None

  abbrev pub printing : List ℕ → Option ℕ
  printing (operand ∷ []) = cond (is_int (row_at types operand)) (place_of UnitRow) None
  printing _ = None

  abbrev pub boxing : List ℕ → Option ℕ
  boxing (content ∷ []) = place_of (RefRow content)
  boxing _ = None

  abbrev pub unboxing : List ℕ → Option ℕ
  unboxing (box ∷ []) = box_content (row_at types box)
  unboxing _ = None

  abbrev pub box_writing : List ℕ → Option ℕ
  box_writing (box ∷ content ∷ []) =
      cond (is_number (box_content (row_at types box)) content) (place_of UnitRow) None
  box_writing _ = None

  abbrev pub vector_making : List ℕ → Option ℕ
  vector_making (size ∷ content ∷ []) = cond (is_int (row_at types size)) (place_of (VectRow content)) None
  vector_making _ = None

  abbrev pub element : List ℕ → Option ℕ
  element (vector ∷ index ∷ []) = cond (is_int (row_at types index)) (vector_content (row_at types vector)) None
  element _ = None

  abbrev pub element_writing : List ℕ → Option ℕ
  element_writing (vector ∷ index ∷ content ∷ []) =
      cond (is_int (row_at types index) && is_number (vector_content (row_at types vector)) content)
      (place_of UnitRow) None
  element_writing _ = None

  abbrev pub measuring : List ℕ → Option ℕ
  measuring (vector ∷ []) = cond (is_some (vector_content (row_at types vector))) (place_of IntRow) None
  measuring _ = None

  abbrev pub operator_type : PrimOp → List ℕ → Option ℕ
  operator_type Add operands = two_integers IntRow operands
  operator_type Sub operands = two_integers IntRow operands
  operator_type Mul operands = two_integers IntRow operands
  operator_type Quot operands = two_integers IntRow operands
  operator_type Rem operands = two_integers IntRow operands
  operator_type Lt operands = two_integers BoolRow operands
  operator_type Le operands = two_integers BoolRow operands
  operator_type Eq operands = two_integers BoolRow operands
  operator_type Ge operands = two_integers BoolRow operands
  operator_type Gt operands = two_integers BoolRow operands
  operator_type Not operands = negation operands
  operator_type PrintInt operands = printing operands
  operator_type Newline operands = no_operand UnitRow operands
  operator_type ReadInt operands = no_operand IntRow operands
  operator_type MakeBox operands = boxing operands
  operator_type Unbox operands = unboxing operands
  operator_type BoxSet operands = box_writing operands
  operator_type MakeVector operands = vector_making operands
  operator_type VectorRef operands = element operands
  operator_type VectorSet operands = element_writing operands
  operator_type VectorLength operands = measuring operands

  -- ---- forms: the type of a term, by those of its parts

  abbrev pub int_type : ℤ → Option ℕ
  int_type n = cond (fits_in_64_bits n) (place_of IntRow) None

  abbrev pub call_type : ℕ → List ℕ → Option ℕ
  call_type whole given = do
    signature ← signature_of (row_at types whole)
    cond (equal_numbers given signature.0) (Some signature.1) None

  abbrev pub if_type : ℕ → ℕ → ℕ → Option ℕ
  if_type truth type other = cond (is_bool (row_at types truth) && nat_eq type other) (Some type) None

  abbrev pub cast_type : ℕ → ℕ → ℕ → Option ℕ
  cast_type given from to = cond (nat_eq given from && is_some (row_at types to)) (Some to) None

  abbrev pub dyn_part_type : ℕ → Option ℕ
  dyn_part_type type = cond (is_dyn_type (row_at types type)) (Some type) None

  abbrev pub tuple_type : List ℕ → Option ℕ
  tuple_type given = place_of (TupleRow given)

  -- ---- terms

  -- the type of a body where more names are bound
  abbrev pub within : Context → Context → (Context → Option ℕ) → Option ℕ
  within context bound body_type = do
    inner ← with_bound context bound
    body_type inner

  -- the type of a function that is written with a type
  abbrev pub function_type : Context → List ℕ → ℕ → (Context → Option ℕ) → Option ℕ
  function_type context parameters written body_type = do
    signature ← signature_of (row_at types written)
    bound ← bind parameters signature.0
    type ← within context bound body_type
    lambda_type written signature.1 type

  abbrev mutual
    pub type_of : Context → Term → Option ℕ
    type_of context (IntLit n) = int_type n
    type_of context (BoolLit b) = place_of BoolRow
    type_of context UnitLit = place_of UnitRow
    type_of context (Var name) = entry_of name context
    type_of context (Lambda parameters body written) =
        function_type context parameters written (λ inner. type_of inner body)
    type_of context (Group members body) = do
      inner ← with_bound context (member_types members)
      fit ← members_fit inner members
      type_of inner body
    type_of context (Let bindings body) = do
      bound ← types_of_bindings context bindings
      within context bound (λ inner. type_of inner body)
    type_of context (Call function arguments) = do
      whole ← type_of context function
      given ← types_of context arguments
      call_type whole given
    type_of context (Enter function arguments) = None
    type_of context (If condition on_true on_false) = do
      truth ← type_of context condition
      type ← type_of context on_true
      other ← type_of context on_false
      if_type truth type other
    type_of context (Seq terms) = do
      given ← types_of context terms
      last_of given
    type_of context (Cast term from to label) = do
      given ← type_of context term
      cast_type given from to
    type_of context (Proj term k) = do
      whole ← type_of context term
      part_type (row_at types whole) k
    type_of context (ProjDyn term k label) = do
      type ← type_of context term
      dyn_part_type type
    type_of context (Tuple parts) = do
      given ← types_of context parts
      tuple_type given
    type_of context (Prim operator operands) = do
      given ← types_of context operands
      operator_type operator given
    type_of context (ValueTerm v) = None

    pub types_of : Context → Terms → Option (List ℕ)
    types_of context NoTerms = Some []
    types_of context (TermThen term rest) = do
      type ← type_of context term
      others ← types_of context rest
      Some (type ∷ others)

    -- whether each function of a group has its written type
    pub members_fit : Context → Members → Option Bool
    members_fit context NoMembers = Some true
    members_fit context (MemberThen name parameters body written rest) = do
      type ← function_type context parameters written (λ inner. type_of inner body)
      members_fit context rest

    pub types_of_bindings : Context → Bindings → Option Context
    types_of_bindings context NoBindings = Some []
    types_of_bindings context (BindingThen name bound rest) = do
      type ← type_of context bound
      others ← types_of_bindings context rest
      Some ((name, type) ∷ others)

  -- the type of a program term
  abbrev pub program_type : Term → Option ℕ
  program_type term = do
    names ← with_names [] (binders term)
    type_of [] term

-- ---- labels

-- one more than the greatest label that stands in a term, 0 where none does; values are left out
abbrev mutual
  pub labels_end : Term → ℕ
  labels_end (IntLit n) = 0
  labels_end (BoolLit b) = 0
  labels_end UnitLit = 0
  labels_end (Var name) = 0
  labels_end (Lambda parameters body type) = labels_end body
  labels_end (Group members body) = max (labels_end_of_members members) (labels_end body)
  labels_end (Let bindings body) = max (labels_end_of_bindings bindings) (labels_end body)
  labels_end (Call function arguments) = max (labels_end function) (labels_end_of_all arguments)
  labels_end (Enter function arguments) = max (labels_end function) (labels_end_of_all arguments)
  labels_end (If condition on_true on_false) =
      max (labels_end condition) (max (labels_end on_true) (labels_end on_false))
  labels_end (Seq terms) = labels_end_of_all terms
  labels_end (Cast term from to label) = max (labels_end term) (suc label)
  labels_end (Proj term k) = labels_end term
  labels_end (ProjDyn term k label) = max (labels_end term) (suc label)
  labels_end (Tuple parts) = labels_end_of_all parts
  labels_end (Prim operator operands) = labels_end_of_all operands
  labels_end (ValueTerm v) = 0

  pub labels_end_of_all : Terms → ℕ
  labels_end_of_all NoTerms = 0
  labels_end_of_all (TermThen term rest) = max (labels_end term) (labels_end_of_all rest)

  pub labels_end_of_members : Members → ℕ
  labels_end_of_members NoMembers = 0
  labels_end_of_members (MemberThen name parameters body type rest) =
      max (labels_end body) (labels_end_of_members rest)

  pub labels_end_of_bindings : Bindings → ℕ
  labels_end_of_bindings NoBindings = 0
  labels_end_of_bindings (BindingThen name bound rest) = max (labels_end bound) (labels_end_of_bindings rest)
