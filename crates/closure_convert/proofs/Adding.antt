-- What steps of the conversion add, one after another.
use Rattle.std.proofs.Common.{◌≡◌, ℕ, ◌+◌, List, [], ◌∷◌, ◌++◌, length, refl, sym}
use Rattle.std.proofs.Common.{ap}
use Rattle.std.proofs.Common.{◌∙◌, subst, arith, append_assoc, append-nil}
use Rattle.flat_ir.specs.Bodies.{Proc}
use Rattle.flat_ir.specs.Views.{procs_of as procs_in_memory}
use Rattle.coer_core.specs.Counts.{names_besides}
use Rattle.closure_convert.specs.Conversion.{Scope}
use Rattle.closure_convert.specs.Converting.{State, Adds, Hides}
use Rattle.closure_convert.specs.Scopes.{Reaches, with_free, with_all_free}
use Rattle.closure_convert.proofs.Meeting.{free_append, reaches_before}

pub adds_nothing : (scope : Scope) (a : State) → Adds scope a a [] (λ n. []) 0
adds_nothing scope a = record {
  captured = refl;
  procs = sym (append-nil (procs_in_memory a.procs));
  count = omega arith;
}

-- nothing but a name that is met
pub adds_name : (scope : Scope) (a b : State) (name : ℕ) → b.captured ≡ with_free scope a.captured name
    → b.procs ≡ a.procs → Adds scope a b (name ∷ []) (λ n. []) 0
adds_name scope a b name c p = record {
  captured = c;
  procs = ap procs_in_memory p ∙ sym (append-nil (procs_in_memory a.procs));
  count = let e : length b.procs ≡ length a.procs = ap length p in omega arith;
}

pub adds_then : (scope : Scope) (a b c : State) (xs ys : List ℕ) (ps qs : ℕ → List Proc) (m k : ℕ)
    → Adds scope a b xs ps m → Adds scope b c ys qs k
    → Adds scope a c (xs ++ ys) (λ n. ps n ++ qs (n + m)) (m + k)
adds_then scope a b c xs ys ps qs m k f s = record {
  captured = s.captured ∙ ap (λ d. with_all_free scope d ys) f.captured
      ∙ sym (free_append scope a.captured xs ys);
  procs = s.procs ∙ ap (λ d. d ++ qs (length b.procs)) f.procs
      ∙ append_assoc (procs_in_memory a.procs) (ps (length a.procs)) (qs (length b.procs))
      ∙ ap (λ n. procs_in_memory a.procs ++ (ps (length a.procs) ++ qs n)) f.count;
  count = let e : length b.procs ≡ length a.procs + m = f.count in
      let g : length c.procs ≡ length b.procs + k = s.count in omega arith;
}

-- what reaches the names behind a step reaches those before
pub grows : (scope : Scope) (a b : State) (xs : List ℕ) (ps : ℕ → List Proc) (m : ℕ) → Adds scope a b xs ps m
    → (outer : Scope) → Reaches b.captured outer → Reaches a.captured outer
grows scope a b xs ps m f outer r =
    reaches_before scope a.captured xs outer (subst (λ c. Reaches c outer) f.captured r)

-- names that are bound on the way are not met outside
pub adds_outside : (names : List ℕ) (inside outside : Scope) (a b : State) (xs : List ℕ) (ps : ℕ → List Proc) (m : ℕ)
    → Hides names inside outside → Adds inside a b xs ps m → Adds outside a b (names_besides names xs) ps m
adds_outside names inside outside a b xs ps m hide f = record {
  captured = f.captured ∙ hide.free a.captured xs;
  procs = f.procs;
  count = f.count;
}

-- the same, said in another way
pub adds_same : (scope : Scope) (a b : State) (xs ys : List ℕ) (ps qs : ℕ → List Proc) (m k : ℕ) → xs ≡ ys
    → ((n : ℕ) → ps n ≡ qs n) → m ≡ k → Adds scope a b xs ps m → Adds scope a b ys qs k
adds_same scope a b xs ys ps qs m k x p e f = record {
  captured = f.captured ∙ ap (with_all_free scope a.captured) x;
  procs = f.procs ∙ ap (λ r. procs_in_memory a.procs ++ r) (p (length a.procs));
  count = f.count ∙ ap (λ n. length a.procs + n) e;
}

-- the same between states that are alike
pub adds_between : (s z : Scope) (a b c d : State) (xs : List ℕ) (ps : ℕ → List Proc) (m : ℕ) → s ≡ z
    → c.captured ≡ a.captured → c.procs ≡ a.procs → d.captured ≡ b.captured → d.procs ≡ b.procs
    → Adds s a b xs ps m → Adds z c d xs ps m
adds_between s z a b c d xs ps m same e f g h x = record {
  captured = g ∙ x.captured ∙ ap (λ y. with_all_free y a.captured xs) same
      ∙ ap (λ y. with_all_free z y xs) (sym e);
  procs = ap procs_in_memory h ∙ x.procs ∙ ap (λ y. procs_in_memory y ++ ps (length y)) (sym f);
  count = ap length h ∙ x.count ∙ ap (λ y. length y + m) (sym f);
}
