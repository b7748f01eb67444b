-- The walk and the table of forms.
use Rattle.std.specs.Prelude.{◌≡◌, List}
use Rattle.form_table.specs.Marked.{Sexpr, Sexprs}
use Rattle.derived_forms.specs.Written.{Form, Top}
use Rattle.form_table.specs.Walking.{Reads}
use Rattle.form_table.specs.Walk.{walk}
use Rattle.form_table.specs.Table.{IsForm}
use Rattle.form_table.specs.TopWalk.{walk_program}
use Rattle.form_table.specs.TopTable.{IsProgram}

-- the walk reads each form of the table
abbrev pub ReadsEachForm : Type 0
ReadsEachForm = (s : Sexpr) (form : Form) → IsForm s form → walk s ≡ Reads form

-- what the walk reads as a form is in the table
abbrev pub ReadsFormsAlone : Type 0
ReadsFormsAlone = (s : Sexpr) (form : Form) → walk s ≡ Reads form → IsForm s form

-- no s-expression is two forms
abbrev pub FormsAreOne : Type 0
FormsAreOne = (s : Sexpr) (a b : Form) → IsForm s a → IsForm s b → a ≡ b

abbrev pub ReadsEachProgram : Type 0
ReadsEachProgram = (forms : Sexprs) (tops : List Top) → IsProgram forms tops → walk_program forms ≡ Reads tops

abbrev pub ReadsProgramsAlone : Type 0
ReadsProgramsAlone = (forms : Sexprs) (tops : List Top) → walk_program forms ≡ Reads tops → IsProgram forms tops

-- no s-expressions are two programs
abbrev pub ProgramsAreOne : Type 0
ProgramsAreOne = (forms : Sexprs) (a b : List Top) → IsProgram forms a → IsProgram forms b → a ≡ b
