-- The definitions at work on small runs.
use Rattle.std.proofs.Common.{◌≡◌, ◌⊎◌, inl, inr, ℕ, List, [], ◌∷◌, ◌++◌, Option, Some, None, refl}
use Rattle.run_laws.specs.Runs.{Ending, Verdict, Exhausted, Wrong, Run, IsPrefix, IsExhausted, HasVerdictOf, Follows}
use Rattle.run_laws.specs.Machines.{Next, Go, Stop, Machine, steps, run}
use Rattle.run_laws.specs.Reductions.{Reduction, reduction_run, machine_of}
use Rattle.run_laws.specs.Meters.{unspent, metered, each_one}

-- what is left to print, and what is printed
record Page : Type 0 where
  left : List ℕ
  printed : List ℕ

abbrev page : List ℕ → List ℕ → Page
page left printed = record { left = left; printed = printed }

-- ---- a machine that prints one number a step, and then stops with a verdict
abbrev print_step : List ℕ → List ℕ → Next Page ℕ
print_step [] printed = Stop (Verdict 0) (page [] printed)
print_step (n ∷ left) printed = Go (page left (printed ++ n ∷ []))

abbrev printer : Machine Page (List ℕ) ℕ
printer = record { step = λ s. print_step s.left s.printed; output = λ s. s.printed; shown = λ s. s.left }

two_printed : run printer (page (7 ∷ 8 ∷ []) []) 2 ≡ record { shown = []; output = 7 ∷ 8 ∷ []; ending = None }
two_printed = refl

then_ended : run printer (page (7 ∷ 8 ∷ []) []) 3
    ≡ record { shown = []; output = 7 ∷ 8 ∷ []; ending = Some (Verdict 0) }
then_ended = refl

state_then : steps printer (page (7 ∷ 8 ∷ []) []) 1 ≡ Go (page (8 ∷ []) (7 ∷ []))
state_then = refl

stays_so : run printer (page (7 ∷ 8 ∷ []) []) 9 ≡ run printer (page (7 ∷ 8 ∷ []) []) 3
stays_so = refl

-- the step that stops is counted
three_turns : (run (metered each_one printer) (unspent (page (7 ∷ 8 ∷ []) [])) 9).shown.spent ≡ 3
three_turns = refl

-- ---- a reduction that has ended as soon as nothing is left
abbrev page_end : List ℕ → Option (Ending ℕ)
page_end [] = Some (Verdict 0)
page_end (n ∷ left) = None

abbrev next_page : List ℕ → List ℕ → Page
next_page [] printed = page [] printed
next_page (n ∷ left) printed = page left (printed ++ n ∷ [])

abbrev printing : Reduction Page (List ℕ) ℕ
printing =
    record {
      step = λ s. next_page s.left s.printed;
      ending = λ s. page_end s.left;
      output = λ s. s.printed;
      shown = λ s. s.left;
    }

ended_after_none : (reduction_run printing (page [] []) 0).ending ≡ Some (Verdict 0)
ended_after_none = refl

ended_after_two : reduction_run printing (page (7 ∷ 8 ∷ []) []) 2
    ≡ record { shown = []; output = 7 ∷ 8 ∷ []; ending = Some (Verdict 0) }
ended_after_two = refl

-- its machine stops a step later
machine_not_yet : (run (machine_of printing) (page [] []) 0).ending ≡ None
machine_not_yet = refl

machine_then : run (machine_of printing) (page [] []) 1 ≡ reduction_run printing (page [] []) 0
machine_then = refl

-- ---- runs that follow, and runs that don't

abbrev still : Option (Ending ℕ) → Run ℕ ℕ
still ending n = record { shown = 0; output = []; ending = ending }

-- what is exhausted at once, with the output of a run's first moment, follows the run
abbrev out_at_once : Run ℕ ℕ → Run ℕ ℕ
out_at_once Y m = record { shown = 0; output = (Y 0).output; ending = Some Exhausted }

out_follows : (Y : Run ℕ ℕ) → Follows (out_at_once Y) Y
out_follows Y = record { back = λ m. (0, refl, tt); forth = λ n. (0, inl refl) }

-- a run that goes on for ever does not follow one that ends
abbrev Comes : ℕ → Type 0
Comes m = IsExhausted (still None m) ⊎ (IsPrefix [] [] × HasVerdictOf (still None m).ending (Some (Verdict 4)))

never_comes : (m : ℕ) → Comes m → ⊥
never_comes m (inl e) = cc
never_comes m (inr a) = let e = a.1 in cc

for_ever : Follows (still None) (still (Some (Verdict 4))) → ⊥
for_ever f = let a = f.forth 0 in never_comes a.0 a.1

-- nor does one with another verdict
other_verdict : Follows (still (Some (Verdict 3))) (still (Some (Verdict 4))) → ⊥
other_verdict f = let e = (f.back 0).2 in cc

-- nor does a run that goes wrong, be it the same
gone_wrong : Follows (still (Some Wrong)) (still (Some Wrong)) → ⊥
gone_wrong f = (f.back 0).2
