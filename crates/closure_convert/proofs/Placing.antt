-- Operands that are gathered: what a place for each of them adds, and what is bound in front.
use Rattle.std.proofs.Common.{◌≡◌, ℕ, suc, ◌+◌, List, [], ◌∷◌, ◌++◌, length, Option, Some, None, sym, ap, ◌∙◌}
use Rattle.std.proofs.Common.{subst, append_assoc}
use Rattle.flat_ir.specs.declared.code.Operand.{Operand}
use Rattle.flat_ir.specs.declared.code.Operand.TheVariants.{Local}
use Rattle.flat_ir.specs.Bodies.{Body, LetBody}
use Rattle.coer_core.specs.Terms.{RowTerm, RowTerms, RowBindings, NoRowTerms, RowTermThen}
use Rattle.coer_core.specs.Terms.{RowBindingThen}
use Rattle.coer_core.specs.Counts.{free_names, free_names_of_all, free_names_of_bindings}
use Rattle.coer_core.specs.Views.{row_term_of}
use Rattle.coer_core.specs.declared.terms.CoerTerm.{CoerTerm}
use Rattle.closure_convert.specs.declared.conversion.Converter.{Converter}
use Rattle.closure_convert.specs.declared.waits.Wait.{Wait}
use Rattle.closure_convert.specs.declared.waits.Waits.{Waits}
use Rattle.closure_convert.specs.Conversion.{Scope, atom, code, gather, gather_let, made, made_by, made_for, placed}
use Rattle.closure_convert.specs.Conversion.{procs_by, procs_for, procs_of, sequence}
use Rattle.closure_convert.specs.Converting.{State, Adds, seen, state}
use Rattle.closure_convert.specs.Scopes.{Reaches, known, over}
use Rattle.closure_convert.specs.Waits.{Puts, ahead}
use Rattle.closure_convert.proofs.Adding.{adds_then, grows}

-- a place for a term, between these states, waits and local names
pub record Placed (s : Scope) (a b : State) (v w : List Wait) (d e : ℕ) (t : RowTerm) (o : Operand) : Type 0 where
  pub adds : Adds s a b (free_names t) (procs_of t) (made t)
  pub at : (outer : Scope) → Reaches b.captured outer → (rest : Operand → ℕ → Body)
      → ahead w (rest o e)
      ≡ ahead v (placed (atom t (over s outer)) d (code t (over s outer) d (length a.procs)) rest)

pub placed_in : {s z : Scope} {a b : State} {v w : List Wait} {d e : ℕ} {t : RowTerm} {o : Operand}
    → s ≡ z
    → Placed s a b v w d e t o → Placed z a b v w d e t o
placed_in {a = a} {b = b} {v = v} {w = w} {d = d} {e = e} {t = t} {o = o} same p = subst (λ x. Placed x a b v w d e t o)
    same p

-- what the place of a term ensures, where this is known
pub placed_by : {s : Scope} (before after : Converter) (v w : Waits) (term : CoerTerm) (o : Operand)
    → known before.names ≡ s
    → Adds (known before.names) (state before) (state after) (free_names (row_term_of term))
    (procs_of (row_term_of term)) (made (row_term_of term))
    → ((outer : Scope) → Reaches after.names.captured outer → (rest : Operand → ℕ → Body)
    → ahead w.waits.items (rest o w.depth)
    ≡ ahead v.waits.items (placed (atom (row_term_of term) (seen before outer)) v.depth
    (code (row_term_of term) (seen before outer) v.depth (length before.procs)) rest))
    → Placed s (state before) (state after) v.waits.items w.waits.items v.depth w.depth (row_term_of term) o
placed_by before after v w term o same adds at =
    placed_in {a = state before} {b = state after} same (record { adds = adds; at = at })

-- a term that is an operand itself
pub placed_there : (w : List Wait) (d : ℕ) (a : Option Operand) (o : Operand) (inner : Body) (rest : Operand → ℕ → Body)
    → a ≡ Some o → ahead w (rest o d) ≡ ahead w (placed a d inner rest)
placed_there w d a o inner rest e = sym (ap (λ x. ahead w (placed x d inner rest)) e)

-- one whose value gets the next local name
pub placed_last : (v w : List Wait) (d e : ℕ) (a : Option Operand) (o : Operand) (inner body : Body)
    (rest : Operand → ℕ → Body) → a ≡ None → inner ≡ body → o ≡ Local d → e ≡ suc d
    → Puts v w (λ r. LetBody d inner r) → ahead w (rest o e) ≡ ahead v (placed a d body rest)
placed_last v w d e a o inner body rest n i l f p =
    ap (λ x. ahead w (rest x e)) l ∙ ap (λ x. ahead w (rest (Local d) x)) f ∙ p (rest (Local d) (suc d))
    ∙ ap (λ x. ahead v (LetBody d x (rest (Local d) (suc d)))) i
    ∙ sym (ap (λ x. ahead v (placed x d body rest)) n)

-- ---- terms in order

pub gather_adds : {s : Scope} {a b : State} {v w : List Wait} {d e : ℕ} {t : RowTerm} {o : Operand}
    {left rest : RowTerms} {W : State → Type 0}
    → left ≡ RowTermThen t rest → Placed s a b v w d e t o
    → ((end : State) → Adds s a end (free_names_of_all left) (procs_for left) (made_for left) → W end)
    → (end : State) → Adds s b end (free_names_of_all rest) (procs_for rest) (made_for rest) → W end
gather_adds {s = s} {a = a} {b = b} {t = t} {rest = rest} l p whole end f =
    whole end (subst (λ x. Adds s a end (free_names_of_all x) (procs_for x) (made_for x)) (sym l)
    (adds_then s a b end (free_names t) (free_names_of_all rest) (procs_of t) (procs_for rest) (made t) (made_for rest)
    p.adds f))

pub gather_more : {s : Scope} {a b : State} {v w : List Wait} {d e : ℕ} {t : RowTerm} {o : Operand}
    {left rest : RowTerms} (before : List Operand) {W : Scope → List Operand → (List Operand → Body) → Body}
    → left ≡ RowTermThen t rest → Placed s a b v w d e t o
    → ((outer : Scope) → Reaches a.captured outer → (front : List Operand) (finish : List Operand → Body)
    → ahead v (gather left (over s outer) d (length a.procs) (front ++ before) finish) ≡ W outer front finish)
    → (outer : Scope) → Reaches b.captured outer → (front : List Operand) (finish : List Operand → Body)
    → ahead w (gather rest (over s outer) e (length b.procs) (front ++
    (before ++ o ∷ [])) finish) ≡ W outer front finish
gather_more {s = s} {a = a} {b = b} {v = v} {w = w} {d = d} {e = e} {t = t} {o = o} {rest = rest} before l p whole outer
    r front finish =
    let sc : Scope = over s outer in
    let next : ℕ = length a.procs + made t in
    ap (λ n. ahead w (gather rest sc e n (front ++ (before ++ o ∷ [])) finish)) p.adds.count
    ∙ ap (λ os. ahead w (gather rest sc e next os finish)) (sym (append_assoc front before (o ∷ [])))
    ∙ p.at outer r (λ x later. gather rest sc later next ((front ++ before) ++ x ∷ []) finish)
    ∙ sym (ap (λ x. ahead v (gather x sc d (length a.procs) (front ++ before) finish)) l)
    ∙ whole outer (grows s a b (free_names t) (procs_of t) (made t) p.adds outer r) front finish

pub sequence_more : {s : Scope} {a b : State} {v w : List Wait} {d e : ℕ} {t u : RowTerm} {o : Operand}
    {left rest others : RowTerms} {W : Scope → Body}
    → left ≡ RowTermThen t rest → rest ≡ RowTermThen u others → Placed s a b v w d e t o
    → ((outer : Scope) → Reaches a.captured outer
    → ahead v (sequence left (over s outer) d (length a.procs)) ≡ W outer)
    → (outer : Scope) → Reaches b.captured outer
    → ahead w (sequence rest (over s outer) e (length b.procs)) ≡ W outer
sequence_more {s = s} {a = a} {b = b} {v = v} {w = w} {d = d} {e = e} {t = t} {rest = rest} l m p whole outer r =
    let sc : Scope = over s outer in
    let next : ℕ = length a.procs + made t in
    ap (λ n. ahead w (sequence rest sc e n)) p.adds.count
    ∙ p.at outer r (λ x later. sequence rest sc later next)
    ∙ sym (ap (λ x. ahead v (sequence x sc d (length a.procs))) (l ∙ ap (RowTermThen t) m)
    ∙ ap (λ x. ahead v (placed (atom t sc) d (code t sc d (length a.procs)) (λ y later. sequence x sc later next)))
    (sym m))
    ∙ whole outer (grows s a b (free_names t) (procs_of t) (made t) p.adds outer r)

-- the last of several terms
pub sequence_last : (s : Scope) (a : State) (v : List Wait) (d : ℕ) {t : RowTerm} {left rest : RowTerms}
    {W : Scope → Body}
    → left ≡ RowTermThen t rest → rest ≡ NoRowTerms
    → ((outer : Scope) → Reaches a.captured outer
    → ahead v (sequence left (over s outer) d (length a.procs)) ≡ W outer)
    → (outer : Scope) → Reaches a.captured outer → ahead v (code t (over s outer) d (length a.procs)) ≡ W outer
sequence_last s a v d {t = t} l m whole outer r =
    sym (ap (λ x. ahead v (sequence x (over s outer) d (length a.procs))) (l ∙ ap (RowTermThen t) m)) ∙ whole outer r

-- ---- bindings

pub bindings_adds : {s : Scope} {a b : State} {v w : List Wait} {d e : ℕ} {name : ℕ} {t : RowTerm} {o : Operand}
    {left rest : RowBindings} {W : State → Type 0}
    → left ≡ RowBindingThen name t rest → Placed s a b v w d e t o
    → ((end : State) → Adds s a end (free_names_of_bindings left) (procs_by left) (made_by left) → W end)
    → (end : State) → Adds s b end (free_names_of_bindings rest) (procs_by rest) (made_by rest) → W end
bindings_adds {s = s} {a = a} {b = b} {t = t} {rest = rest} l p whole end f =
    whole end (subst (λ x. Adds s a end (free_names_of_bindings x) (procs_by x) (made_by x)) (sym l)
    (adds_then s a b end (free_names t) (free_names_of_bindings rest) (procs_of t) (procs_by rest) (made t)
    (made_by rest)
    p.adds f))

pub bindings_more : {s : Scope} {a b : State} {v w : List Wait} {d e : ℕ} {name : ℕ} {t : RowTerm} {o : Operand}
    {left rest : RowBindings} (before : List Operand) {W : Scope → (List Operand → ℕ → Body) → Body}
    → left ≡ RowBindingThen name t rest → Placed s a b v w d e t o
    → ((outer : Scope) → Reaches a.captured outer → (finish : List Operand → ℕ → Body)
    → ahead v (gather_let left (over s outer) d (length a.procs) before finish) ≡ W outer finish)
    → (outer : Scope) → Reaches b.captured outer → (finish : List Operand → ℕ → Body)
    → ahead w (gather_let rest (over s outer) e (length b.procs) (before ++ o ∷ []) finish) ≡ W outer finish
bindings_more {s = s} {a = a} {b = b} {v = v} {w = w} {d = d} {e = e} {t = t} {o = o} {rest = rest} before l p whole
    outer r finish =
    let sc : Scope = over s outer in
    let next : ℕ = length a.procs + made t in
    ap (λ n. ahead w (gather_let rest sc e n (before ++ o ∷ []) finish)) p.adds.count
    ∙ p.at outer r (λ x later. gather_let rest sc later next (before ++ x ∷ []) finish)
    ∙ sym (ap (λ x. ahead v (gather_let x sc d (length a.procs) before finish)) l)
    ∙ whole outer (grows s a b (free_names t) (procs_of t) (made t) p.adds outer r) finish
