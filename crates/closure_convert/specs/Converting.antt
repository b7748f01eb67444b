-- What the steps of the conversion do to what is known and to the procedures so far.
use Rattle.std.specs.Prelude.{◌≡◌, ℕ, suc, ◌+◌, List, [], ◌∷◌, ◌++◌, length, map}
use Rattle.flat_ir.specs.declared.programs.FlatProc.{FlatProc}
use Rattle.flat_ir.specs.declared.code.Operand.TheVariants.{Local}
use Rattle.flat_ir.specs.Bodies.{Body, Proc}
use Rattle.flat_ir.specs.Views.{body_of, procs_of as procs_in_memory}
use Rattle.coer_core.specs.Counts.{free_names, free_names_of_all, free_names_of_bindings, names_besides}
use Rattle.coer_core.specs.Counts.{row_member_count, row_member_names}
use Rattle.coer_core.specs.Terms.{RowBindings, RowMembers, RowTerm, RowTerms, NoRowMembers, RowMemberThen}
use Rattle.closure_convert.specs.declared.conversion.Converter.{Converter}
use Rattle.closure_convert.specs.declared.conversion.Function.{Function}
use Rattle.closure_convert.specs.declared.names.Names.{Names}
use Rattle.closure_convert.specs.Conversion.{Scope, bind_operands, captures, code, made, numbered}
use Rattle.closure_convert.specs.Conversion.{made_by, made_for, own_procs, procs_by, procs_for, procs_in, procs_of}
use Rattle.closure_convert.specs.declared.waits.Waits.{Waits}
use Rattle.closure_convert.specs.Scopes.{Reaches, known, over, with_all_free}
use Rattle.closure_convert.specs.Waits.{ahead}

-- what grows while a function is converted: its captured names, and the procedures
pub record State : Type 0 where
  pub captured : List ℕ
  pub procs : List FlatProc

abbrev pub state_of : Names → List FlatProc → State
state_of names procs = record { captured = names.captured; procs = procs }

abbrev pub state : Converter → State
state converter = state_of converter.names converter.procs

-- what is known inside a function, where this is known outside it
abbrev pub seen : Converter → Scope → Scope
seen converter outer = over (known converter.names) outer

-- where this is bound, these names were met, and so many procedures were added, which are these for the number of the
-- first one
pub record Adds (scope : Scope) (old new : State) (names : List ℕ) (from : ℕ → List Proc) (many : ℕ) : Type 0 where
  pub captured : new.captured ≡ with_all_free scope old.captured names
  pub procs : procs_in_memory new.procs ≡ procs_in_memory old.procs ++ from (length old.procs)
  pub count : length new.procs ≡ length old.procs + many

-- what a term adds: its names that were not known before, and its procedures
abbrev pub AddsTerm : Converter → Converter → RowTerm → Type 0
AddsTerm old new term = Adds (known old.names) (state old) (state new) (free_names term) (procs_of term) (made term)

-- and so do terms in order
abbrev pub AddsTerms : Converter → Converter → RowTerms → Type 0
AddsTerms old new terms =
    Adds (known old.names) (state old) (state new) (free_names_of_all terms) (procs_for terms) (made_for terms)

-- and bindings
abbrev pub AddsBindings : Converter → Converter → RowBindings → Type 0
AddsBindings old new bindings =
    Adds (known old.names) (state old) (state new) (free_names_of_bindings bindings) (procs_by bindings)
    (made_by bindings)

-- so, where what is left adds this to what is there, all adds it to what was there first
abbrev pub AddsRest : {A : Type 0} → (A → List ℕ) → (A → ℕ → List Proc) → (A → ℕ) → Converter → Converter → A → A
    → Type 0
AddsRest names procs count first here left all = (end : State)
    → Adds (known first.names) (state here) end (names left) (procs left) (count left)
    → Adds (known first.names) (state first) end (names all) (procs all) (count all)

-- behind what is bound, a body is the one that is made, by what is known outside, behind what was bound before
abbrev pub PutsBody : Names → Waits → Waits → Body → (Scope → Body) → Type 0
PutsBody names before after body made = (outer : Scope) → Reaches names.captured outer
    → ahead after.waits.items body ≡ ahead before.waits.items (made outer)

-- a function's count of parameters, and its body
abbrev pub parts_of : List Function → List (ℕ × Body)
parts_of functions = map (λ f. (f.params, body_of f.body)) functions

-- those of a group's functions, which know this outside their parameters
abbrev pub bodies : Scope → RowMembers → ℕ → List (ℕ × Body)
bodies scope NoRowMembers next = []
bodies scope (RowMemberThen name parameters body type rest) next = (
  length parameters,
  code body (bind_operands parameters (numbered (λ i. Local i) parameters 0) scope)
      (length parameters) next,
) ∷ bodies scope rest (next + made body)

-- the procedures of a group's functions, from a place in the group on
abbrev pub as_procs : ℕ → ℕ → ℕ → List (ℕ × Body) → List Proc
as_procs captured group place [] = []
as_procs captured group place (f ∷ rest) =
    record { params = f.0; captured = captured; group = group; place = place; body = f.1 }
    ∷ as_procs captured group (suc place) rest

-- names that are bound inside hide those outside: the free names inside are captured, but for these
pub record Hides (names : List ℕ) (inside outside : Scope) : Type 0 where
  pub free : (captured met : List ℕ)
      → with_all_free inside captured met ≡ with_all_free outside captured (names_besides names met)

-- the procedures that a group adds, those inside its functions before its own
abbrev pub group_procs : RowMembers → ℕ → List Proc
group_procs members next =
    procs_in members next
    ++ own_procs (row_member_names members) (captures (row_member_names members) members) (row_member_count members) 0
    members next
