-- Functions that become procedures, and what is bound in front of what follows.
use Rattle.std.proofs.Common.{◌≡◌, ℕ, ◌+◌, Result, Ok, Err, List, ◌++◌, length, subst}
use Rattle.std.specs.Prelude.{OnOk}
use Rattle.flat_ir.specs.Bodies.{LetGroup}
use Rattle.flat_ir.specs.declared.programs.FlatProc.{FlatProc}
use Rattle.flat_ir.specs.Views.{procs_of as procs_in_memory}
use Rattle.closure_convert.specs.declared.conversion.Function.{Function}
use Rattle.closure_convert.specs.declared.names.Names.{Names}
use Rattle.closure_convert.specs.declared.waits.Wait.{Wait}
use Rattle.closure_convert.specs.Conversion.{Scope, meanings_of}
use Rattle.closure_convert.specs.Converting.{State, as_procs, parts_of}
use Rattle.closure_convert.specs.Scopes.{Reaches, known, over, with_all_free}
use Rattle.closure_convert.specs.Waits.{Puts}

-- these functions, inside which that was known, become procedures behind those, between these waits and local names
pub record Closes (outside inside : Names) (fs : List Function) (behind : List FlatProc) (b : State) (v w : List Wait)
    (d e : ℕ) : Type 0 where
  pub captured : b.captured ≡ with_all_free (known outside) outside.captured inside.captured
  pub procs : procs_in_memory b.procs ≡ procs_in_memory behind
      ++ as_procs (length inside.captured) (length fs) 0 (parts_of fs)
  pub count : length b.procs ≡ length behind + length fs
  pub waits : (outer : Scope) → Reaches b.captured outer → Puts v w (λ rest. LetGroup d (length behind) (length fs)
      (meanings_of inside.captured (over (known outside) outer)) rest)
  pub depth : e ≡ d + length fs

pub closes_same : (n m i j : Names) (fs gs : List Function) (behind : List FlatProc) (b : State) (v w : List Wait)
    (d e : ℕ) → n ≡ m → i ≡ j → fs ≡ gs → Closes n i fs behind b v w d e → Closes m j gs behind b v w d e
closes_same n m i j fs gs behind b v w d e p q r x =
    subst (λ k. Closes m j k behind b v w d e) r (subst (λ k. Closes m k fs behind b v w d e) q
    (subst (λ k. Closes k i fs behind b v w d e) p x))

pub closes_ok : {A E : Type 0} (r : Result A E) (outside inside : Names) (fs : List Function) (behind : List FlatProc)
    (b : State) (v w : List Wait) (d e : ℕ)
    → OnOk r (b.captured ≡ with_all_free (known outside) outside.captured inside.captured)
    → OnOk r (procs_in_memory b.procs ≡ procs_in_memory behind
    ++ as_procs (length inside.captured) (length fs) 0 (parts_of fs))
    → OnOk r (length b.procs ≡ length behind + length fs)
    → OnOk r ((outer : Scope) → Reaches b.captured outer → Puts v w (λ rest. LetGroup d (length behind) (length fs)
    (meanings_of inside.captured (over (known outside) outer)) rest))
    → OnOk r (e ≡ d + length fs) → OnOk r (Closes outside inside fs behind b v w d e)
closes_ok (Ok x) outside inside fs behind b v w d e p q r s t =
    record { captured = p; procs = q; count = r; waits = s; depth = t }
closes_ok (Err x) outside inside fs behind b v w d e p q r s t = tt
