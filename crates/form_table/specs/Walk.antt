-- The walk over the forms, from left to right. One clause a row; the lines of a clause are done in order.
use Rattle.std.specs.Prelude.{ℕ, zero, suc, pos, nat_eq, List, [], ◌∷◌, ◌++◌, Option, Some, None}
use Rattle.grift_base.specs.declared.places.Pos.{Pos}
use Rattle.grift_base.specs.declared.refusals.RefusalKind.TheVariants.{BadForm, TooWide}
use Rattle.grift_base.specs.Types.{IntRow, BoolRow, UnitRow, DynRow}
use Rattle.surface_trees.specs.declared.names.Ident.TheVariants.{Source}
use Rattle.form_table.specs.declared.words.Word.TheVariants.{Lambda, Let, Letrec, If, Begin, And, Or, Repeat, Tuple}
use Rattle.form_table.specs.declared.words.Word.TheVariants.{TupleProj, Colon, Arrow, Operator}
use Rattle.form_table.specs.declared.words.TypeWord.TheVariants.{Int, Bool as BoolWord, Unit as UnitWord, Dyn}
use Rattle.form_table.specs.declared.words.TypeWord.TheVariants.{Tuple as TupleWord, Ref, Vect, Rec}
use Rattle.form_table.specs.Words.{operand_count}
use Rattle.form_table.specs.Marked.{Sexpr, Sexprs, number, truth_value, word, name, list, end, ◌▹◌, place, how_many}
use Rattle.surface_trees.specs.Trees.{TypeExpr, TypeAt, BaseType, FunType, TupleType, RefType, VectType, TypeExprs}
use Rattle.surface_trees.specs.Trees.{NoTypes, TypeThen, Param}
use Rattle.derived_forms.specs.Written.{Form, FormAt, IntForm, BoolForm, UnitForm, NameForm, LambdaForm, CallForm}
use Rattle.derived_forms.specs.Written.{LetForm, LetrecForm, IfForm, BeginForm, AscribeForm, AndForm, OrForm}
use Rattle.derived_forms.specs.Written.{RepeatForm, RepeatIntoForm, TupleForm, ProjForm, PrimForm, LambdaWritten}
use Rattle.derived_forms.specs.Written.{LambdaFrom, Forms, NoForms, FormThen, LetForms, NoLetForms, LetFormThen}
use Rattle.derived_forms.specs.Written.{LetrecForms, NoLetrecForms, LetrecFormThen}
use Rattle.form_table.specs.Walking.{Walked, ◌>>=◌, ◌>>◌, give, refuse, test, some, colon, binder}
use Rattle.form_table.specs.Walking.{is_arrow}

-- ---- types

-- parameter types and result type
pub record Signature : Type 0 where
  pub parameters : TypeExprs
  pub result : TypeExpr

abbrev mutual
  pub walk_type : Sexpr → Walked TypeExpr
  walk_type (name p x (Some Int)) = give (TypeAt p (BaseType IntRow))
  walk_type (name p x (Some BoolWord)) = give (TypeAt p (BaseType BoolRow))
  walk_type (name p x (Some UnitWord)) = give (TypeAt p (BaseType UnitRow))
  walk_type (name p x (Some Dyn)) = give (TypeAt p (BaseType DynRow))
  walk_type (list p end) = give (TypeAt p (BaseType UnitRow))
  walk_type (list p (name q x (Some TupleWord) ▹ parts)) = do
    some p parts
    types ← walk_types 8 parts
    give (TypeAt p (TupleType types))
  walk_type (list p (name q x (Some Ref) ▹ rest)) = do
    content ← walk_only p rest
    give (TypeAt p (RefType content))
  walk_type (list p (name q x (Some Vect) ▹ rest)) = do
    content ← walk_only p rest
    give (TypeAt p (VectType content))
  walk_type (list p (name q x (Some Rec) ▹ rest)) = refuse BadForm p
  walk_type (list p elements) = do
    test (is_arrow elements) BadForm p
    signature ← walk_signature 6 elements
    give (TypeAt p (FunType signature.parameters signature.result))
  walk_type s = refuse BadForm (place s)

  -- one type and no more, in a list at this place
  pub walk_only : Pos → Sexprs → Walked TypeExpr
  walk_only p (t ▹ end) = walk_type t
  walk_only p rest = refuse BadForm p

  -- types of which there may be so many
  pub walk_types : ℕ → Sexprs → Walked TypeExprs
  walk_types room end = give NoTypes
  walk_types zero (t ▹ rest) = refuse TooWide (place t)
  walk_types (suc room) (t ▹ rest) = do
    type ← walk_type t
    types ← walk_types room rest
    give (TypeThen type types)

  -- so many parameter types at most, the arrow and the result; the arrow stands as the last element but one
  pub walk_signature : ℕ → Sexprs → Walked Signature
  walk_signature room (word q Arrow ▹ rest) = do
    result ← walk_only q rest
    give (record { parameters = NoTypes; result = result })
  walk_signature zero (t ▹ rest) = refuse TooWide (place t)
  walk_signature (suc room) (t ▹ rest) = do
    type ← walk_type t
    signature ← walk_signature room rest
    give (record { parameters = TypeThen type signature.parameters; result = signature.result })
  walk_signature room end = refuse BadForm (record { line = 1; col = 1 })

-- ---- parameters

-- a parameter without a type, with its name
abbrev pub plain_param : List (List ℕ) → Sexpr → Walked (List ℕ × Param)
plain_param seen x = do
  bytes ← binder seen x
  give (bytes, record { place = place x; name = Source bytes; written = None })

-- a parameter with its name
abbrev pub walk_param : List (List ℕ) → Sexpr → Walked (List ℕ × Param)
walk_param seen (list p (x ▹ c ▹ t ▹ end)) = do
  bytes ← binder seen x
  colon c
  type ← walk_type t
  give (bytes, record { place = p; name = Source bytes; written = Some type })
walk_param seen (list p elements) = refuse BadForm p
walk_param seen x = plain_param seen x

abbrev pub walk_params : ℕ → List (List ℕ) → Sexprs → Walked (List Param)
walk_params room seen end = give []
walk_params zero seen (x ▹ rest) = refuse TooWide (place x)
walk_params (suc room) seen (x ▹ rest) = do
  one ← walk_param seen x
  others ← walk_params room (seen ++ one.0 ∷ []) rest
  give (one.1 ∷ others)

abbrev pub walk_param_list : Sexpr → Walked (List Param)
walk_param_list (list p elements) = walk_params 6 [] elements
walk_param_list s = refuse BadForm (place s)

-- ---- expressions

-- the head of a `repeat`: the counter, its first value and the bound
pub record Range : Type 0 where
  pub counter : List ℕ
  pub first : Form
  pub bound : Form

-- a name, its written type and what it is bound to
pub record Bound (A : Type 0) : Type 0 where
  pub name : List ℕ
  pub written : Option TypeExpr
  pub value : A

-- a tuple and the number of its part
abbrev pub walk_part : Pos → Form → Sexpr → Walked Form
walk_part p form (number r (pos k)) = give (FormAt p (ProjForm form (pos k) r))
walk_part p form s = refuse BadForm (place s)

abbrev mutual
  pub walk : Sexpr → Walked Form
  walk (number p n) = give (FormAt p (IntForm n))
  walk (truth_value p b) = give (FormAt p (BoolForm b))
  walk (name p bytes t) = give (FormAt p (NameForm bytes))
  walk (word p w) = refuse BadForm p
  walk (list p elements) = walk_list p elements

  pub walk_list : Pos → Sexprs → Walked Form
  walk_list p end = give (FormAt p UnitForm)
  walk_list p (word q Arrow ▹ rest) = refuse BadForm q
  walk_list p (word q Lambda ▹ rest) = do
    lambda ← walk_lambda p rest
    give (FormAt p (LambdaForm lambda))
  walk_list p (word q Let ▹ list r bindings ▹ body) = do
    some p body
    lets ← walk_lets [] bindings
    forms ← walk_each body
    give (FormAt p (LetForm lets forms))
  walk_list p (word q Let ▹ s ▹ body) = do
    some p body
    refuse BadForm (place s)
  walk_list p (word q Letrec ▹ list r bindings ▹ body) = do
    some p body
    members ← walk_letrecs [] bindings
    forms ← walk_each body
    give (FormAt p (LetrecForm members forms))
  walk_list p (word q Letrec ▹ s ▹ body) = do
    some p body
    refuse BadForm (place s)
  walk_list p (word q If ▹ c ▹ t ▹ e ▹ end) = do
    condition ← walk c
    on_true ← walk t
    on_false ← walk e
    give (FormAt p (IfForm condition on_true on_false))
  walk_list p (word q Begin ▹ body) = do
    some p body
    forms ← walk_each body
    give (FormAt p (BeginForm forms))
  walk_list p (word q Colon ▹ e ▹ t ▹ end) = do
    form ← walk e
    type ← walk_type t
    give (FormAt p (AscribeForm form type))
  walk_list p (word q And ▹ operands) = do
    forms ← walk_within 8 operands
    give (FormAt p (AndForm forms))
  walk_list p (word q Or ▹ operands) = do
    forms ← walk_within 8 operands
    give (FormAt p (OrForm forms))
  walk_list p (word q Repeat ▹ h ▹ e ▹ end) = do
    range ← walk_range h
    form ← walk e
    give (FormAt p (RepeatForm range.counter range.first range.bound form))
  walk_list p (word q Repeat ▹ h ▹ c ▹ e ▹ end) = do
    range ← walk_range h
    start ← walk_binding (range.counter ∷ []) c
    form ← walk e
    give (FormAt p (RepeatIntoForm range.counter range.first range.bound start.name start.written start.value form))
  walk_list p (word q Tuple ▹ parts) = do
    some p parts
    forms ← walk_within 8 parts
    give (FormAt p (TupleForm forms))
  walk_list p (word q TupleProj ▹ e ▹ k ▹ end) = do
    form ← walk e
    walk_part p form k
  walk_list p (word q (Operator o) ▹ operands) = do
    test (nat_eq (how_many operands) (operand_count o)) BadForm p
    forms ← walk_each operands
    give (FormAt p (PrimForm o forms))
  walk_list p (word q w ▹ rest) = refuse BadForm p
  walk_list p (f ▹ arguments) = do
    function ← walk f
    forms ← walk_within 6 arguments
    give (FormAt p (CallForm function forms))

  pub walk_each : Sexprs → Walked Forms
  walk_each end = give NoForms
  walk_each (e ▹ rest) = do
    form ← walk e
    forms ← walk_each rest
    give (FormThen form forms)

  -- expressions of which there may be so many
  pub walk_within : ℕ → Sexprs → Walked Forms
  walk_within room end = give NoForms
  walk_within zero (e ▹ rest) = refuse TooWide (place e)
  walk_within (suc room) (e ▹ rest) = do
    form ← walk e
    forms ← walk_within room rest
    give (FormThen form forms)

  -- a lambda without its head
  pub walk_lambda : Pos → Sexprs → Walked LambdaWritten
  walk_lambda p (ps ▹ word c Colon ▹ t ▹ body) = do
    some p body
    params ← walk_param_list ps
    result ← walk_type t
    forms ← walk_each body
    give (LambdaFrom p params (Some result) forms)
  walk_lambda p (ps ▹ word c Colon ▹ end) = refuse BadForm p
  walk_lambda p (ps ▹ body) = do
    some p body
    params ← walk_param_list ps
    forms ← walk_each body
    give (LambdaFrom p params None forms)
  walk_lambda p end = refuse BadForm p

  -- the name of a value, where these are bound already in its scope
  pub walk_binding : List (List ℕ) → Sexpr → Walked (Bound Form)
  walk_binding seen (list p (x ▹ e ▹ end)) = do
    bytes ← binder seen x
    form ← walk e
    give (record { name = bytes; written = None; value = form })
  walk_binding seen (list p (x ▹ c ▹ t ▹ e ▹ end)) = do
    bytes ← binder seen x
    colon c
    type ← walk_type t
    form ← walk e
    give (record { name = bytes; written = Some type; value = form })
  walk_binding seen s = refuse BadForm (place s)

  pub walk_lets : List (List ℕ) → Sexprs → Walked LetForms
  walk_lets seen end = give NoLetForms
  walk_lets seen (s ▹ rest) = do
    one ← walk_binding seen s
    others ← walk_lets (seen ++ one.name ∷ []) rest
    give (LetFormThen one.name one.written one.value others)

  -- the name of a function, where these are bound already in its scope
  pub walk_member : List (List ℕ) → Sexpr → Walked (Bound LambdaWritten)
  walk_member seen (list p (x ▹ e ▹ end)) = do
    bytes ← binder seen x
    lambda ← walk_lambda_form e
    give (record { name = bytes; written = None; value = lambda })
  walk_member seen (list p (x ▹ c ▹ t ▹ e ▹ end)) = do
    bytes ← binder seen x
    colon c
    type ← walk_type t
    lambda ← walk_lambda_form e
    give (record { name = bytes; written = Some type; value = lambda })
  walk_member seen s = refuse BadForm (place s)

  pub walk_lambda_form : Sexpr → Walked LambdaWritten
  walk_lambda_form (list r (word q Lambda ▹ rest)) = walk_lambda r rest
  walk_lambda_form s = refuse BadForm (place s)

  pub walk_letrecs : List (List ℕ) → Sexprs → Walked LetrecForms
  walk_letrecs seen end = give NoLetrecForms
  walk_letrecs seen (s ▹ rest) = do
    one ← walk_member seen s
    others ← walk_letrecs (seen ++ one.name ∷ []) rest
    give (LetrecFormThen one.name one.written one.value others)

  -- the head of a `repeat`
  pub walk_range : Sexpr → Walked Range
  walk_range (list r (i ▹ a ▹ b ▹ end)) = do
    counter ← binder [] i
    first ← walk a
    bound ← walk b
    give (record { counter = counter; first = first; bound = bound })
  walk_range s = refuse BadForm (place s)
