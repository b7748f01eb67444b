-- Functions: their parameters are bound, and their bodies know them.
use Rattle.std.proofs.Common.{◌≡◌, ℕ, ◌+◌, List, [], ◌∷◌, ◌++◌, length, refl, sym, ap, ◌∙◌, append_assoc}
use Rattle.std.proofs.Common.{subst}
use Rattle.flat_ir.specs.declared.code.Operand.TheVariants.{Local}
use Rattle.flat_ir.specs.Bodies.{Body, Proc}
use Rattle.flat_ir.specs.Views.{body_of}
use Rattle.coer_core.specs.Terms.{RowTerm, RowMembers, RowMemberThen}
use Rattle.coer_core.specs.Counts.{names_besides, free_names, free_names_of_members}
use Rattle.closure_convert.specs.declared.conversion.Function.{Function}
use Rattle.closure_convert.specs.Conversion.{Scope, bind_operands, code, made, made_in, numbered, procs_in, procs_of}
use Rattle.closure_convert.specs.Converting.{State, Adds, bodies, parts_of}
use Rattle.closure_convert.specs.Scopes.{Reaches, over}
use Rattle.closure_convert.proofs.Adding.{adds_between, adds_outside, adds_then, grows}
use Rattle.closure_convert.proofs.Meeting.{bound_hide}
use Rattle.closure_convert.proofs.Carrying.{numbered_long}
use Rattle.closure_convert.proofs.Scoping.{over_bound}

-- what is bound for parameters
abbrev pub with_parameters : List ℕ → Scope → Scope
with_parameters parameters scope = bind_operands parameters (numbered (λ i. Local i) parameters 0) scope

-- what a body adds whose parameters are bound in it alone
pub function_adds : (parameters : List ℕ) (s inside : Scope) (a b c d : State) (xs : List ℕ) (ps : ℕ
    → List Proc) (m : ℕ)
    → inside ≡ with_parameters parameters s → b.captured ≡ a.captured → b.procs ≡ a.procs
    → d.captured ≡ c.captured → d.procs ≡ c.procs
    → Adds inside b c xs ps m → Adds s a d (names_besides parameters xs) ps m
function_adds parameters s inside a b c d xs ps m e f g h k x =
    adds_outside parameters (with_parameters parameters s) s a d xs ps m
    (bound_hide parameters (numbered (λ i. Local i) parameters 0) s (numbered_long (λ i. Local i) parameters 0))
    (adds_between inside (with_parameters parameters s) b c a d xs ps m e (sym f) (sym g) h k x)

-- the body, where this is known outside it
pub function_body : (parameters : List ℕ) (s inside outer : Scope) (term : RowTerm) (depth next later : ℕ) (body : Body)
    → inside ≡ with_parameters parameters s → depth ≡ length parameters → later ≡ next
    → body ≡ code term (over inside outer) depth later
    → body ≡ code term (with_parameters parameters (over s outer)) (length parameters) next
function_body parameters s inside outer term depth next later body e d n b =
    b ∙ ap (λ x. code term (over x outer) depth later) e
    ∙ ap (λ x. code term x depth later) (over_bound parameters (numbered (λ i. Local i) parameters 0) s outer)
    ∙ ap (λ x. code term (with_parameters parameters (over s outer)) x later) d
    ∙ ap (λ x. code term (with_parameters parameters (over s outer)) (length parameters) x) n

-- a function of a group, between these states
pub record Made (s : Scope) (a b : State) (parameters : List ℕ) (term : RowTerm) (f : Function) : Type 0 where
  pub adds : Adds s a b (names_besides parameters (free_names term)) (procs_of term) (made term)
  pub params : f.params ≡ length parameters
  pub body : (outer : Scope) → Reaches b.captured outer
      → body_of f.body ≡ code term (with_parameters parameters (over s outer)) (length parameters) (length a.procs)

pub made_same : {s z : Scope} {a b : State} {parameters : List ℕ} {term : RowTerm} {f : Function}
    → s ≡ z
    → Made s a b parameters term f → Made z a b parameters term f
made_same {a = a} {b = b} {parameters = parameters} {term = term} {f = f} e m = subst
    (λ x. Made x a b parameters term f) e m

pub functions_adds : {s : Scope} {a b : State} {name : ℕ} {parameters : List ℕ} {term : RowTerm} {type : ℕ}
    {f : Function} {left rest : RowMembers} {W : State → Type 0}
    → left ≡ RowMemberThen name parameters term type rest
    → Made s a b parameters term f
    → ((end : State) → Adds s a end (free_names_of_members left) (procs_in left) (made_in left) → W end)
    → (end : State) → Adds s b end (free_names_of_members rest) (procs_in rest) (made_in rest) → W end
functions_adds {s = s} {a = a} {b = b} {parameters = parameters} {term = term} {rest = rest} l p whole end x =
    whole end (subst (λ y. Adds s a end (free_names_of_members y) (procs_in y) (made_in y)) (sym l)
    (adds_then s a b end (names_besides parameters (free_names term)) (free_names_of_members rest) (procs_of term)
    (procs_in rest) (made term) (made_in rest) p.adds x))

parts_more : (fs : List Function) (f : Function) → parts_of (fs ++ f ∷ []) ≡ parts_of fs ++
    (f.params, body_of f.body) ∷ []
parts_more [] f = refl
parts_more (g ∷ fs) f = ap (λ r. (g.params, body_of g.body) ∷ r) (parts_more fs f)

pub functions_more : (s : Scope) (a b : State) (name : ℕ) (parameters : List ℕ) (term : RowTerm) (type : ℕ)
    (f : Function)
    (left rest : RowMembers) (fs gs : List Function) (W : Scope → List (ℕ × Body))
    → left ≡ RowMemberThen name parameters term type rest → gs ≡ fs ++ f ∷ [] → Made s a b parameters term f
    → ((outer : Scope) → Reaches a.captured outer
    → parts_of fs ++ bodies (over s outer) left (length a.procs) ≡ W outer)
    → (outer : Scope) → Reaches b.captured outer
    → parts_of gs ++ bodies (over s outer) rest (length b.procs) ≡ W outer
functions_more s a b name parameters term type f left rest fs gs W l g p whole outer r =
    let sc : Scope = over s outer in
    let next : ℕ = length a.procs + made term in
    let one : ℕ × Body = (
      length parameters,
      code term (with_parameters parameters sc) (length parameters)
          (length a.procs),
    ) in
    ap (λ n. parts_of gs ++ bodies sc rest n) p.adds.count
    ∙ ap (λ y. parts_of y ++ bodies sc rest next) g
    ∙ ap (λ y. y ++ bodies sc rest next) (parts_more fs f)
    ∙ append_assoc (parts_of fs) ((f.params, body_of f.body) ∷ []) (bodies sc rest next)
    ∙ ap (λ y. parts_of fs ++ (y, body_of f.body) ∷ bodies sc rest next) p.params
    ∙ ap (λ y. parts_of fs ++ (length parameters, y) ∷ bodies sc rest next) (p.body outer r)
    ∙ sym (ap (λ y. parts_of fs ++ bodies sc y (length a.procs)) l)
    ∙ whole outer (grows s a b (names_besides parameters (free_names term)) (procs_of term) (made term) p.adds outer r)
