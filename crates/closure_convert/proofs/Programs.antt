-- Whole programs.
use Rattle.std.proofs.Common.{◌≡◌, ℕ, true, false, nat_eq, List, [], ◌∷◌, ◌++◌, length, refl, sym}
use Rattle.std.proofs.Common.{ap, ◌∙◌}
use Rattle.std.proofs.Common.{subst, arith, ◌+◌}
use Rattle.core_calc.specs.Substitution.{is_among}
use Rattle.flat_ir.specs.declared.code.FlatBody.{FlatBody}
use Rattle.flat_ir.specs.declared.programs.FlatProc.{FlatProc}
use Rattle.flat_ir.specs.Views.{body_of, proc_of, procs_of as procs_in_memory}
use Rattle.coer_core.specs.Counts.{free_names}
use Rattle.coer_core.specs.Terms.{RowTerm}
use Rattle.closure_convert.specs.Conversion.{Scope, code, converted, made, nothing_known, procs_of}
use Rattle.closure_convert.specs.Converting.{State, Adds}
use Rattle.closure_convert.specs.Programs.{HasNoFreeNames}
use Rattle.closure_convert.specs.Scopes.{Reaches, over, with_all_free}
use Rattle.closure_convert.proofs.Ending.{Coded}
use Rattle.closure_convert.proofs.Carrying.{false_true, is_itself, chosen_true}

none_among : (xs : List ℕ) → ((name : ℕ) → is_among name xs ≡ false) → xs ≡ []
none_among [] h = refl
none_among (x ∷ xs) h =
    false_true (sym (h x) ∙ chosen_true (nat_eq x x) true (is_among x xs) (is_itself x))

reaches_none : Reaches [] nothing_known
reaches_none = record { at = λ name e. false_true e }

last_proc : (procs : List FlatProc) (proc : FlatProc)
    → procs_in_memory (procs ++ proc ∷ []) ≡ procs_in_memory procs ++ proc_of proc ∷ []
last_proc [] proc = refl
last_proc (p ∷ procs) proc = ap (λ r. proc_of p ∷ r) (last_proc procs proc)

pub whole_program : (t : RowTerm) (s : Scope) (a b : State) (body : FlatBody) (all : List FlatProc) → s ≡ nothing_known
    → a.captured ≡ [] → a.procs ≡ [] → Coded s a b 0 t (body_of body)
    → all ≡ b.procs ++ (record { params = 0; captured = 0; group = 0; place = 0; body = body }) ∷ [] → HasNoFreeNames t
    → procs_in_memory all ≡ converted t
whole_program t s a b body all e c p x l none =
    ap procs_in_memory l
    ∙ last_proc b.procs (record { params = 0; captured = 0; group = 0; place = 0; body = body })
    ∙ ap (λ r. r ++ (record { params = 0; captured = 0; group = 0; place = 0; body = body_of body }) ∷ []) before
    ∙ ap (λ r. procs_of t 0 ++ (record { params = 0; captured = 0; group = 0; place = 0; body = r }) ∷ []) inside
  where
    nothing : b.captured ≡ []
    nothing = x.adds.captured ∙ ap (with_all_free s a.captured) (none_among (free_names t) none) ∙ c

    before : procs_in_memory b.procs ≡ procs_of t 0
    before = x.adds.procs ∙ ap (λ r. procs_in_memory r ++ procs_of t (length r)) p

    inside : body_of body ≡ code t nothing_known 0 0
    inside = x.at nothing_known (subst (λ k. Reaches k nothing_known) (sym nothing) reaches_none)
        ∙ ap (λ r. code t (over s nothing_known) 0 (length r)) p ∙ ap (λ r. code t (over r nothing_known) 0 0) e

pub number_is : (t : RowTerm) (s : Scope) (a b : State) → a.procs ≡ []
    → Adds s a b (free_names t) (procs_of t) (made t) → length b.procs ≡ made t
number_is t s a b p x = x.count ∙ ap (λ r. length r + made t) p ∙ none (made t)
  where
    none : (n : ℕ) → 0 + n ≡ n
    none n = omega arith
