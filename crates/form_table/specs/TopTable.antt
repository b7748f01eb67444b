-- Which s-expressions are which program.
use Rattle.std.specs.Prelude.{ℕ, ◌≡◌, ◌≤◌, Bool, true, false, List, [], ◌∷◌, drop, Option, Some, None}
use Rattle.grift_base.specs.declared.places.Pos.{Pos}
use Rattle.grift_base.specs.Tables.{HasNoRepeats}
use Rattle.form_table.specs.declared.words.Word.TheVariants.{Lambda, Define, Colon}
use Rattle.surface_trees.specs.Trees.{TypeExpr}
use Rattle.form_table.specs.Marked.{Sexpr, Sexprs, word, list, end, ◌▹◌, place, how_many}
use Rattle.derived_forms.specs.Written.{Form, LambdaWritten, Top, ExprTop, ValueTop, FunctionTop}
use Rattle.form_table.specs.Table.{IsName, IsType, IsForm, IsLambda}

abbrev pub is_lambda_form : Sexpr → Bool
is_lambda_form (list r (word l Lambda ▹ f)) = true
is_lambda_form _ = false

-- what is bound to a name: a function, or another value
pub data IsBound : Pos → List ℕ → Option TypeExpr → Sexpr → Top → Type 0 where
  function_bound : {p r l : Pos} {x : List ℕ} {t : Option TypeExpr} {f : Sexprs} {lambda : LambdaWritten}
      → IsLambda r f lambda → IsBound p x t (list r (word l Lambda ▹ f)) (FunctionTop p x t lambda)
  value_bound : {p : Pos} {x : List ℕ} {t : Option TypeExpr} {e : Sexpr} {form : Form}
      → IsForm e form → is_lambda_form e ≡ false → IsBound p x t e (ValueTop p x t form)

pub data IsTop : Sexpr → Top → Type 0 where
  function_row : {p q r : Pos} {s : Sexpr} {params body : Sexprs} {x : List ℕ} {lambda : LambdaWritten}
      → IsName s x → IsLambda p (list r params ▹ body) lambda
      → IsTop (list p (word q Define ▹ list r (s ▹ params) ▹ body)) (FunctionTop p x None lambda)
  define_row : {p q : Pos} {s e : Sexpr} {x : List ℕ} {top : Top}
      → IsName s x → IsBound p x None e top → IsTop (list p (word q Define ▹ s ▹ e ▹ end)) top
  typed_define_row : {p q c : Pos} {s t e : Sexpr} {x : List ℕ} {type : TypeExpr} {top : Top}
      → IsName s x → IsType t type → IsBound p x (Some type) e top
      → IsTop (list p (word q Define ▹ s ▹ word c Colon ▹ t ▹ e ▹ end)) top
  expression_row : {e : Sexpr} {form : Form} → IsForm e form → IsTop e (ExprTop (place e) form)

pub data AreTops : Sexprs → List Top → Type 0 where
  no_tops : AreTops end []
  top_then : {s : Sexpr} {rest : Sexprs} {top : Top} {tops : List Top}
      → IsTop s top → AreTops rest tops → AreTops (s ▹ rest) (top ∷ tops)

-- the names that the run of functions defines with which the forms begin
abbrev pub run_names : List Top → List (List ℕ)
run_names (FunctionTop p x t lambda ∷ rest) = x ∷ run_names rest
run_names _ = []

-- at most 500 forms, and no run of functions defines a name twice
abbrev pub IsProgram : Sexprs → List Top → Type 0
IsProgram forms tops = AreTops forms tops × ((k : ℕ) → HasNoRepeats (run_names (drop k tops))) × (how_many forms ≤ 500)
