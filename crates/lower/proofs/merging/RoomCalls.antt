-- No program with the procedures of the merged scheme makes environment call 5 or 6 itself.
use Rattle.std.proofs.Common.{false, ℕ, ◌≡◌, inl, inr, List, refl, subst, sym}
use Rattle.grift_base.specs.Types.{TypeRow}
use Rattle.low_ir.specs.Counting.{any_calls}
use Rattle.flat_ir.specs.Bodies.{Proc as FlatProc}
use Rattle.lowered_code.specs.declared.served.Served.{Served}
use Rattle.lowered_code.specs.Lowered.{lowered}
use Rattle.lowered_code.proofs.Public.{WantsRoom, lowered_none}
use Rattle.lower.specs.MergedProcs.{merged_procs}

merged_none : (number first : ℕ) → WantsRoom number → any_calls number (merged_procs first) ≡ false
merged_none number first (inl e) = subst (λ n. any_calls n (merged_procs first) ≡ false) (sym e) refl
merged_none number first (inr e) = subst (λ n. any_calls n (merged_procs first) ≡ false) (sym e) refl

-- a program with the procedures of the merged scheme behind it makes neither call
pub programs_want_no_room : (number : ℕ) → WantsRoom number → (run : Served) (procs : List FlatProc) (entry : ℕ)
    (answer : TypeRow) (first : ℕ) → any_calls number (lowered run procs entry answer (merged_procs first)) ≡ false
programs_want_no_room number wants run procs entry answer first =
    lowered_none number wants run procs entry answer (merged_procs first) (merged_none number first wants)
