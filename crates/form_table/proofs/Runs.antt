-- Runs of functions that define no name twice.
use Rattle.std.proofs.Common.{◌≡◌, ℕ, zero, suc, false, List, [], ◌∷◌, ◌++◌, drop, refl, sym, subst, append_assoc}
use Rattle.std.proofs.Common.{append-nil, arith}
use Rattle.grift_base.specs.Tables.{HasNoRepeats}
use Rattle.derived_forms.specs.Written.{Top, ExprTop, ValueTop, FunctionTop}
use Rattle.form_table.specs.Walking.{is_among}
use Rattle.form_table.specs.TopTable.{run_names}
use Rattle.form_table.proofs.NewNames.{absent_if, one_more}

-- no function defines a name again that its run has
abbrev pub RunsAreNew : List (List ℕ) → List Top → Type 0
RunsAreNew run [] = Unit {0}
RunsAreNew run (FunctionTop p x t lambda ∷ rest) = (is_among run x ≡ false) × RunsAreNew (run ++ x ∷ []) rest
RunsAreNew run (top ∷ rest) = RunsAreNew [] rest

-- each suffix begins with a run that defines no name twice
abbrev pub NoRunRepeats : List Top → Type 0
NoRunRepeats tops = (k : ℕ) → HasNoRepeats (run_names (drop k tops))

pub runs_are_new : (run : List (List ℕ)) (tops : List Top) → HasNoRepeats (run ++ run_names tops) → NoRunRepeats tops
    → RunsAreNew run tops
runs_are_new run [] h all = tt
runs_are_new run (FunctionTop p x t lambda ∷ rest) h all = (
  absent_if run x (run_names rest) (is_among run x) refl h,
  runs_are_new (run ++ x ∷ []) rest (subst HasNoRepeats (sym (append_assoc run (x ∷ []) (run_names rest))) h)
      (λ k. all (suc k)),
)
runs_are_new run (ExprTop p f ∷ rest) h all = runs_are_new [] rest (all (suc zero)) (λ k. all (suc k))
runs_are_new run (ValueTop p x t f ∷ rest) h all = runs_are_new [] rest (all (suc zero)) (λ k. all (suc k))

pub none_repeat : HasNoRepeats {T = List ℕ} []
none_repeat i j within e = absurd (let z : ⊥ = omega arith in z)

abbrev Kept : List (List ℕ) → List Top → Type 0
Kept run tops = HasNoRepeats (run ++ run_names tops) × NoRunRepeats tops

none_left : (k : ℕ) → HasNoRepeats (run_names (drop k []))
none_left zero = none_repeat
none_left (suc k) = none_repeat

later : (top : Top) (rest : List Top) → HasNoRepeats (run_names (top ∷ rest)) → NoRunRepeats rest
    → NoRunRepeats (top ∷ rest)
later top rest first others zero = first
later top rest first others (suc k) = others k

pub runs_kept : (run : List (List ℕ)) (tops : List Top) → HasNoRepeats run → RunsAreNew run tops → Kept run tops
runs_kept run [] h new = (subst HasNoRepeats (sym (append-nil run)) h, none_left)
runs_kept run (FunctionTop p x t lambda ∷ rest) h new =
    let more = runs_kept (run ++ x ∷ []) rest (one_more run x h new.0) new.1 in
    let here : HasNoRepeats (run ++ x ∷ run_names rest) = subst HasNoRepeats
    (append_assoc run (x ∷ []) (run_names rest)) more.0 in
    (here, later (FunctionTop p x t lambda) rest (suffix run (x ∷ run_names rest) here) more.1)
  where
    suffix : (run xs : List (List ℕ)) → HasNoRepeats (run ++ xs) → HasNoRepeats xs
    suffix [] xs h = h
    suffix (y ∷ run) xs h = suffix run xs (λ i j within e.
        let next : suc i ≡ suc j = h (suc i) (suc j) (omega arith) e in omega arith)
runs_kept run (ExprTop p f ∷ rest) h new =
    let more = runs_kept [] rest none_repeat new in
    (subst HasNoRepeats (sym (append-nil run)) h, later (ExprTop p f) rest none_repeat more.1)
runs_kept run (ValueTop p x t f ∷ rest) h new =
    let more = runs_kept [] rest none_repeat new in
    (subst HasNoRepeats (sym (append-nil run)) h, later (ValueTop p x t f) rest none_repeat more.1)
