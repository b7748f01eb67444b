-- Which s-expression is which form: the table of forms, one constructor a row.
use Rattle.std.specs.Prelude.{ℕ, ℤ, pos, ◌≤◌, ◌≡◌, Bool, List, [], ◌∷◌, Option, Some, None}
use Rattle.grift_base.specs.declared.places.Pos.{Pos}
use Rattle.grift_base.specs.declared.operators.PrimOp.{PrimOp}
use Rattle.grift_base.specs.Tables.{HasNoRepeats}
use Rattle.grift_base.specs.Types.{IntRow, BoolRow, UnitRow, DynRow}
use Rattle.surface_trees.specs.declared.names.Ident.TheVariants.{Source}
use Rattle.form_table.specs.declared.words.Word.TheVariants.{Lambda, Let, Letrec, If, Begin, And, Or, Repeat, Tuple}
use Rattle.form_table.specs.declared.words.Word.TheVariants.{TupleProj, Colon, Arrow, Operator}
use Rattle.form_table.specs.declared.words.TypeWord.{TypeWord}
use Rattle.form_table.specs.declared.words.TypeWord.TheVariants.{Int, Bool as BoolWord, Unit as UnitWord, Dyn}
use Rattle.form_table.specs.declared.words.TypeWord.TheVariants.{Tuple as TupleWord, Ref, Vect}
use Rattle.form_table.specs.Words.{operand_count}
use Rattle.form_table.specs.Marked.{Sexpr, Sexprs, number, truth_value, word, name, list, end, ◌▹◌, place, how_many}
use Rattle.surface_trees.specs.Trees.{TypeExpr, TypeAt, BaseType, FunType, TupleType, RefType, VectType, TypeExprs}
use Rattle.surface_trees.specs.Trees.{NoTypes, TypeThen, Param}
use Rattle.derived_forms.specs.Written.{Form, FormAt, IntForm, BoolForm, UnitForm, NameForm, LambdaForm, CallForm}
use Rattle.derived_forms.specs.Written.{LetForm, LetrecForm, IfForm, BeginForm, AscribeForm, AndForm, OrForm}
use Rattle.derived_forms.specs.Written.{RepeatForm, RepeatIntoForm, TupleForm, ProjForm, PrimForm, LambdaWritten}
use Rattle.derived_forms.specs.Written.{LambdaFrom, Forms, NoForms, FormThen, LetForms, NoLetForms, LetFormThen}
use Rattle.derived_forms.specs.Written.{LetrecForms, NoLetrecForms, LetrecFormThen}

-- ---- names

-- any symbol but a reserved word
pub data IsName : Sexpr → List ℕ → Type 0 where
  is_name : {p : Pos} {x : List ℕ} {t : Option TypeWord} → IsName (name p x t) x

-- ---- types

mutual
  pub data IsType : Sexpr → TypeExpr → Type 0 where
    is_int : {p : Pos} {x : List ℕ} → IsType (name p x (Some Int)) (TypeAt p (BaseType IntRow))
    is_bool : {p : Pos} {x : List ℕ} → IsType (name p x (Some BoolWord)) (TypeAt p (BaseType BoolRow))
    is_unit : {p : Pos} {x : List ℕ} → IsType (name p x (Some UnitWord)) (TypeAt p (BaseType UnitRow))
    is_dyn : {p : Pos} {x : List ℕ} → IsType (name p x (Some Dyn)) (TypeAt p (BaseType DynRow))
    is_empty : {p : Pos} → IsType (list p end) (TypeAt p (BaseType UnitRow))
    is_tuple : {p q : Pos} {x : List ℕ} {t : Sexpr} {rest : Sexprs} {types : TypeExprs}
        → AreTypes (t ▹ rest) types → how_many (t ▹ rest) ≤ 8
        → IsType (list p (name q x (Some TupleWord) ▹ t ▹ rest)) (TypeAt p (TupleType types))
    is_ref : {p q : Pos} {x : List ℕ} {t : Sexpr} {type : TypeExpr} → IsType t type
        → IsType (list p (name q x (Some Ref) ▹ t ▹ end)) (TypeAt p (RefType type))
    is_vect : {p q : Pos} {x : List ℕ} {t : Sexpr} {type : TypeExpr} → IsType t type
        → IsType (list p (name q x (Some Vect) ▹ t ▹ end)) (TypeAt p (VectType type))
    -- six parameters at most, the arrow and the result
    is_function : {p : Pos} {elements : Sexprs} {types : TypeExprs} {result : TypeExpr}
        → AreArrow elements types result → how_many elements ≤ 8
        → IsType (list p elements) (TypeAt p (FunType types result))

  pub data AreTypes : Sexprs → TypeExprs → Type 0 where
    no_types : AreTypes end NoTypes
    type_then : {t : Sexpr} {rest : Sexprs} {type : TypeExpr} {types : TypeExprs}
        → IsType t type → AreTypes rest types → AreTypes (t ▹ rest) (TypeThen type types)

  -- `T ... -> T`
  pub data AreArrow : Sexprs → TypeExprs → TypeExpr → Type 0 where
    arrow_to : {q : Pos} {t : Sexpr} {type : TypeExpr} → IsType t type → AreArrow (word q Arrow ▹ t ▹ end) NoTypes type
    from_then : {t : Sexpr} {rest : Sexprs} {type result : TypeExpr} {types : TypeExprs}
        → IsType t type → AreArrow rest types result → AreArrow (t ▹ rest) (TypeThen type types) result

-- ---- parameters

-- `x` or `[x : T]`
pub data IsParam : Sexpr → List ℕ → Param → Type 0 where
  is_plain : {s : Sexpr} {x : List ℕ}
      → IsName s x → IsParam s x (record { place = place s; name = Source x; written = None })
  is_typed : {p q : Pos} {s t : Sexpr} {x : List ℕ} {type : TypeExpr} → IsName s x → IsType t type
      → IsParam (list p (s ▹ word q Colon ▹ t ▹ end)) x (record { place = p; name = Source x; written = Some type })

-- parameters with their names
pub data AreParams : Sexprs → List (List ℕ) → List Param → Type 0 where
  no_params : AreParams end [] []
  param_then : {s : Sexpr} {rest : Sexprs} {x : List ℕ} {xs : List (List ℕ)} {param : Param} {params : List Param}
      → IsParam s x param → AreParams rest xs params → AreParams (s ▹ rest) (x ∷ xs) (param ∷ params)

-- at most six parameters between brackets, no name twice
pub data IsParamList : Sexpr → List Param → Type 0 where
  is_param_list : {p : Pos} {elements : Sexprs} {xs : List (List ℕ)} {params : List Param}
      → AreParams elements xs params → HasNoRepeats xs → how_many elements ≤ 6 → IsParamList (list p elements) params

-- ---- expressions

mutual
  pub data IsForm : Sexpr → Form → Type 0 where
    integer_row : {p : Pos} {n : ℤ} → IsForm (number p n) (FormAt p (IntForm n))
    truth_row : {p : Pos} {b : Bool} → IsForm (truth_value p b) (FormAt p (BoolForm b))
    unit_row : {p : Pos} → IsForm (list p end) (FormAt p UnitForm)
    name_row : {s : Sexpr} {x : List ℕ} → IsName s x → IsForm s (FormAt (place s) (NameForm x))
    lambda_row : {p q : Pos} {rest : Sexprs} {lambda : LambdaWritten} → IsLambda p rest lambda
        → IsForm (list p (word q Lambda ▹ rest)) (FormAt p (LambdaForm lambda))
    call_row : {p : Pos} {f : Sexpr} {arguments : Sexprs} {function : Form} {forms : Forms}
        → IsForm f function → AreForms arguments forms → how_many arguments ≤ 6
        → IsForm (list p (f ▹ arguments)) (FormAt p (CallForm function forms))
    let_row : {p q r : Pos} {bindings : Sexprs} {e : Sexpr} {rest : Sexprs} {xs : List (List ℕ)} {lets : LetForms}
        {body : Forms}
        → AreLets bindings xs lets → HasNoRepeats xs → AreForms (e ▹ rest) body
        → IsForm (list p (word q Let ▹ list r bindings ▹ e ▹ rest)) (FormAt p (LetForm lets body))
    letrec_row : {p q r : Pos} {bindings : Sexprs} {e : Sexpr} {rest : Sexprs} {xs : List (List ℕ)}
        {members : LetrecForms} {body : Forms}
        → AreLetrecs bindings xs members → HasNoRepeats xs → AreForms (e ▹ rest) body
        → IsForm (list p (word q Letrec ▹ list r bindings ▹ e ▹ rest)) (FormAt p (LetrecForm members body))
    if_row : {p q : Pos} {c t e : Sexpr} {condition on_true on_false : Form}
        → IsForm c condition → IsForm t on_true → IsForm e on_false
        → IsForm (list p (word q If ▹ c ▹ t ▹ e ▹ end)) (FormAt p (IfForm condition on_true on_false))
    begin_row : {p q : Pos} {e : Sexpr} {rest : Sexprs} {body : Forms} → AreForms (e ▹ rest) body
        → IsForm (list p (word q Begin ▹ e ▹ rest)) (FormAt p (BeginForm body))
    ascribe_row : {p q : Pos} {e t : Sexpr} {form : Form} {type : TypeExpr} → IsForm e form → IsType t type
        → IsForm (list p (word q Colon ▹ e ▹ t ▹ end)) (FormAt p (AscribeForm form type))
    and_row : {p q : Pos} {operands : Sexprs} {forms : Forms} → AreForms operands forms → how_many operands ≤ 8
        → IsForm (list p (word q And ▹ operands)) (FormAt p (AndForm forms))
    or_row : {p q : Pos} {operands : Sexprs} {forms : Forms} → AreForms operands forms → how_many operands ≤ 8
        → IsForm (list p (word q Or ▹ operands)) (FormAt p (OrForm forms))
    repeat_row : {p q r : Pos} {i a b e : Sexpr} {x : List ℕ} {first bound form : Form}
        → IsName i x → IsForm a first → IsForm b bound → IsForm e form
        → IsForm (list p (word q Repeat ▹ list r (i ▹ a ▹ b ▹ end) ▹ e ▹ end))
        (FormAt p (RepeatForm x first bound form))
    repeat_into_row : {p q r : Pos} {i a b c e : Sexpr} {x y : List ℕ} {type : Option TypeExpr}
        {first bound start form : Form}
        → IsName i x → IsForm a first → IsForm b bound → IsBinding c y type start → HasNoRepeats (x ∷ y ∷ [])
        → IsForm e form
        → IsForm (list p (word q Repeat ▹ list r (i ▹ a ▹ b ▹ end) ▹ c ▹ e ▹ end))
        (FormAt p (RepeatIntoForm x first bound y type start form))
    tuple_row : {p q : Pos} {e : Sexpr} {rest : Sexprs} {forms : Forms}
        → AreForms (e ▹ rest) forms → how_many (e ▹ rest) ≤ 8
        → IsForm (list p (word q Tuple ▹ e ▹ rest)) (FormAt p (TupleForm forms))
    proj_row : {p q r : Pos} {e : Sexpr} {k : ℕ} {form : Form} → IsForm e form
        → IsForm (list p (word q TupleProj ▹ e ▹ number r (pos k) ▹ end)) (FormAt p (ProjForm form (pos k) r))
    operator_row : {p q : Pos} {o : PrimOp} {operands : Sexprs} {forms : Forms}
        → AreForms operands forms → how_many operands ≡ operand_count o
        → IsForm (list p (word q (Operator o) ▹ operands)) (FormAt p (PrimForm o forms))

  pub data AreForms : Sexprs → Forms → Type 0 where
    no_forms : AreForms end NoForms
    form_then : {e : Sexpr} {rest : Sexprs} {form : Form} {forms : Forms}
        → IsForm e form → AreForms rest forms → AreForms (e ▹ rest) (FormThen form forms)

  -- what follows the word `lambda`
  pub data IsLambda : Pos → Sexprs → LambdaWritten → Type 0 where
    typed_lambda : {p q : Pos} {ps t e : Sexpr} {rest : Sexprs} {params : List Param} {result : TypeExpr} {body : Forms}
        → IsParamList ps params → IsType t result → AreForms (e ▹ rest) body
        → IsLambda p (ps ▹ word q Colon ▹ t ▹ e ▹ rest) (LambdaFrom p params (Some result) body)
    plain_lambda : {p : Pos} {ps e : Sexpr} {rest : Sexprs} {params : List Param} {body : Forms}
        → IsParamList ps params → AreForms (e ▹ rest) body
        → IsLambda p (ps ▹ e ▹ rest) (LambdaFrom p params None body)

  -- `[x e]` or `[x : T e]`: the name, the written type and what is bound
  pub data IsBinding : Sexpr → List ℕ → Option TypeExpr → Form → Type 0 where
    plain_binding : {p : Pos} {s e : Sexpr} {x : List ℕ} {form : Form}
        → IsName s x → IsForm e form → IsBinding (list p (s ▹ e ▹ end)) x None form
    typed_binding : {p q : Pos} {s t e : Sexpr} {x : List ℕ} {type : TypeExpr} {form : Form}
        → IsName s x → IsType t type → IsForm e form
        → IsBinding (list p (s ▹ word q Colon ▹ t ▹ e ▹ end)) x (Some type) form

  -- a binding whose expression is a `lambda` form
  pub data IsMember : Sexpr → List ℕ → Option TypeExpr → LambdaWritten → Type 0 where
    plain_member : {p q r : Pos} {s : Sexpr} {e : Sexprs} {x : List ℕ} {lambda : LambdaWritten}
        → IsName s x → IsLambda r e lambda → IsMember (list p (s ▹ list r (word q Lambda ▹ e) ▹ end)) x None lambda
    typed_member : {p q r c : Pos} {s t : Sexpr} {e : Sexprs} {x : List ℕ} {type : TypeExpr} {lambda : LambdaWritten}
        → IsName s x → IsType t type → IsLambda r e lambda
        → IsMember (list p (s ▹ word c Colon ▹ t ▹ list r (word q Lambda ▹ e) ▹ end)) x (Some type) lambda

  -- bindings with their names
  pub data AreLets : Sexprs → List (List ℕ) → LetForms → Type 0 where
    no_lets : AreLets end [] NoLetForms
    let_then : {s : Sexpr} {rest : Sexprs} {x : List ℕ} {xs : List (List ℕ)} {type : Option TypeExpr} {form : Form}
        {others : LetForms}
        → IsBinding s x type form → AreLets rest xs others
        → AreLets (s ▹ rest) (x ∷ xs) (LetFormThen x type form others)

  -- members with their names
  pub data AreLetrecs : Sexprs → List (List ℕ) → LetrecForms → Type 0 where
    no_letrecs : AreLetrecs end [] NoLetrecForms
    letrec_then : {s : Sexpr} {rest : Sexprs} {x : List ℕ} {xs : List (List ℕ)} {type : Option TypeExpr}
        {lambda : LambdaWritten} {others : LetrecForms}
        → IsMember s x type lambda → AreLetrecs rest xs others
        → AreLetrecs (s ▹ rest) (x ∷ xs) (LetrecFormThen x type lambda others)
