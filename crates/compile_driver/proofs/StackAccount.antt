-- Where the machine has stopped for want of stack, the calculus has had as many contexts pending as the account says.
use Rattle.std.proofs.Common.{◌≡◌, ◌⊎◌, inl, inr, ℕ, zero, suc, ◌+◌, ◌*◌, ◌<◌, ◌≤◌, List, [], ◌∷◌, ◌++◌, length}
use Rattle.std.proofs.Common.{Option, Some, None, refl, sym, ap, ◌∙◌, subst, arith, le_refl, le_trans, append-nil}
use Rattle.std.proofs.Math.Nat.{max-le, mul-le-mul}
use Rattle.std.proofs.lemmas.Bool.{cases_lt}
use Rattle.std.proofs.lemmas.List.{length-append}
use Rattle.std.specs.Prelude.{max}
use Rattle.grift_base.specs.declared.verdicts.Verdict.{Verdict as Outcome}
use Rattle.run_laws.specs.Accounts.{FollowsWithin}
use Rattle.run_laws.specs.Reductions.{Reduction, state_after, unless_ended}
use Rattle.run_laws.specs.Runs.{Ending, IsPrefix, OutputGrows, Run}
use Rattle.rv_machine.specs.State.{State}
use Rattle.core_calc.specs.Account.{StepKind, Account, account, measures_of}
use Rattle.core_calc.specs.Calculus.{Program, calc}
use Rattle.cast_modes.specs.AnswerTypes.{Told}
use Rattle.cast_modes.specs.Modes.{Mode}
use Rattle.flat_ir.specs.Bodies.{Proc as FlatProc}
use Rattle.flat_ir.specs.FlatTally.{FlatBelow, FlatTallied, FlatTally, flat_tally_in, flat_tally_of}
use Rattle.cast_modes.specs.Prices.{Prices}
use Rattle.flat_ir.specs.FlatTally.{flat_tallying, flat_untallied}
use Rattle.flat_ir.specs.Machine.{flat_start}
use Rattle.low_ir.specs.Frames.{frame_room}
use Rattle.compile_driver.specs.Bounds.{StackLacks, account_at}
use Rattle.compile_driver.proofs.CalculusAccount.{last_step, one_step}
use Rattle.compile_driver.proofs.FewWords.{room_of_frame}
use Rattle.compile_driver.proofs.FlatOutput.{flat_output_grows}

-- ---- output

no_more : (r : List ℕ) → length r ≡ 0 → r ≡ []
no_more [] e = refl
no_more (x ∷ r) e = absurd (omega (arith, e))

-- two lists are the same where each begins with the other
same_prefixes : (xs ys : List ℕ) → IsPrefix xs ys → IsPrefix ys xs → xs ≡ ys
same_prefixes xs ys p q =
    let a = ap length p.1 in
    let b = length-append xs p.0 in
    let c = ap length q.1 in
    let d = length-append ys q.0 in
    sym (p.1 ∙ (ap (λ r. xs ++ r) (no_more p.0 (omega (arith, a, b, c, d))) ∙ append-nil xs))

-- ---- the most frames that were active

max_either : (a b : ℕ) → (max a b ≤ a) ⊎ (max a b ≤ b)
max_either a b = by (cases_lt a b)
  where
    by : (a < b) ⊎ (b ≤ a) → (max a b ≤ a) ⊎ (max a b ≤ b)
    by (inl less) = inr (max-le (omega (arith, less)) (le_refl b))
    by (inr le) = inl (max-le (le_refl a) le)

module _ {C : Type 0} (procs : List FlatProc) (mode : Mode C) (prices : Prices StepKind C) (told : Told) (entry : ℕ)
    (input : List ℕ) where
  abbrev M : Reduction (FlatTallied C) FlatTally Outcome
  M = flat_tallying procs mode prices told

  abbrev first : FlatTallied C
  first = flat_untallied (flat_start procs told entry input)

  abbrev at : ℕ → FlatTallied C
  at n = state_after M first n

  abbrev deepest : FlatTallied C → ℕ
  deepest s = (flat_tally_of procs mode prices s).deepest

  abbrev frames : FlatTallied C → ℕ
  frames s = (flat_tally_of procs mode prices s).frames

  -- a turn leaves the most as it was, or as many as are active now
  one_turn : (o : Option (Ending Outcome)) (s : FlatTallied C) → let t = unless_ended o M.step s in
      (deepest t ≤ deepest s) ⊎ (deepest t ≤ frames t)
  one_turn None s = max_either (deepest s) (frames (M.step s))
  one_turn (Some e) s = inl (le_refl (deepest s))

  -- so many were active at a moment up to this one
  pub record WereActive (n : ℕ) : Type 0 where
    pub k : ℕ
    pub earlier : k ≤ n
    pub active : deepest (at n) ≤ frames (at k)

  pub were_active : (n : ℕ) → WereActive n
  were_active zero = record {
    k = 0;
    earlier = omega arith;
    active = let none : 0 ≤ frames first = omega arith in max-le none (le_refl (frames first));
  }
  were_active (suc n) =
      by (were_active n) (subst (λ t. (deepest t ≤ deepest (at n)) ⊎ (deepest t ≤ frames t)) (sym (last_step M n first))
      (one_turn (M.ending (at n)) (at n)))
    where
      by : WereActive n → (deepest (at (suc n)) ≤ deepest (at n)) ⊎ (deepest (at (suc n)) ≤ frames (at (suc n)))
          → WereActive (suc n)
      by a (inl le) =
          let before = a.earlier in
          record { k = a.k; earlier = omega (arith, before); active = le_trans le a.active }
      by a (inr le) = record { k = suc n; earlier = le_refl (suc n); active = le }

  -- ---- against the account of the calculus

  module _ (program : Program) (grows : OutputGrows (calc program input)) where
    -- the account's output is the calculus's, and only grows
    account_grows : (n m : ℕ) → n ≤ m → IsPrefix (account program input n).output (account program input m).output
    account_grows n m le =
        subst (λ xs. IsPrefix xs (account program input m).output) (sym (one_step program input n).output)
        (subst (IsPrefix (calc program input n).output) (sym (one_step program input m).output) (grows n m le))

    -- so does its depth
    deeper : (n m : ℕ) → n ≤ m → (account_at program input n).depth ≤ (account_at program input m).depth
    deeper zero zero le = le_refl (account_at program input 0).depth
    deeper (suc n) zero le = absurd (omega (arith, le))
    deeper n (suc m) le = by (deeper n m) (cases_lt m n)
      where
        by : (n ≤ m → (account_at program input n).depth ≤ (account_at program input m).depth)
            → (m < n) ⊎ (n ≤ m) → (account_at program input n).depth ≤ (account_at program input (suc m)).depth
        by ih (inl past) =
            let is : n ≡ suc m = omega (arith, past, le) in
            subst (λ k. (account_at program input n).depth ≤ (account_at program input k).depth) is
            (le_refl (account_at program input n).depth)
        by ih (inr before) = le_trans (ih before) (one_step program input m).depth

    -- at a moment with this output the account has as many contexts as the most frames, but for two
    pub record IsDeep (most : ℕ) (printed : List ℕ) : Type 0 where
      pub n : ℕ
      pub output : printed ≡ (account program input n).output
      pub depth : most ≤ (account_at program input n).depth + 2

    abbrev X : Run FlatTally Outcome
    X = flat_tally_in procs entry mode prices told input

    -- told moments of the account that go with that moment and with an earlier one
    deep_by : (k n before now : ℕ) → k ≤ n → (X k).output ≡ (account program input before).output
        → (X n).output ≡ (account program input now).output → deepest (at n) ≤ frames (at k)
        → frames (at k) ≤ (account_at program input before).depth + 2 → IsDeep (deepest (at n)) (X n).output
    deep_by k n before now earlier one other active below = by (cases_lt now before)
      where
        by : (now < before) ⊎ (before ≤ now) → IsDeep (deepest (at n)) (X n).output
        by (inl less) =
            let ends = flat_output_grows procs mode told prices entry input k n earlier in
            let begins = subst (λ xs. IsPrefix xs (X k).output) (sym other)
            (subst (IsPrefix (account program input now).output) (sym one)
            (account_grows now before (omega (arith, less)))) in
            record {
              n = before;
              output = same_prefixes (X n).output (X k).output begins ends ∙ one;
              depth = le_trans active below;
            }
        by (inr le) =
            let later = deeper before now le in
            record { n = now; output = other; depth = omega (arith, active, below, later) }

    -- where the run follows it within the account
    pub is_deep : {L : FlatTally → Account → Type 0} → FollowsWithin (FlatBelow 2) L X (account program input)
        → (n : ℕ) → IsDeep (deepest (at n)) (X n).output
    is_deep follows n =
        let were = were_active n in
        let before = follows.back were.k in
        let now = follows.back n in
        deep_by were.k n before.0 now.0 were.earlier before.1.0.output now.1.0.output were.active
        before.1.0.shown.frames

-- ---- numbers

all_numbers : (stack frames held most room depth later size height tallest : ℕ) → stack < 8 * (frames + held)
    → frames + held ≤ (most + 4) * room + 25 * (1 + (4 * tallest + 7)) → room ≤ size + 25 → most ≤ depth + 2
    → depth ≤ later → tallest ≤ height → stack < 64 * (size + 16) * (later + 1) + 4096 * (height + 4)
all_numbers stack frames held most room depth later size height tallest exceeds within narrow deep grows low =
    let times : (most + 4) * room ≤ (later + 6) * (size + 25) = mul-le-mul (omega (arith, deep, grows)) narrow in
    omega (arith, exceeds, within, times, low)

left_numbers : (stack bottom words size : ℕ) → stack < bottom + 8 * (1 + words) → words ≤ size + 24
    → stack < bottom + (64 * (size + 16) + 4096)
left_numbers stack bottom words size less few = omega (arith, less, few)

-- the machine's last state, where the frames of the run over words don't fit into the stack
pub stack_lacks_by : (program : Program) (input : List ℕ) (stack : ℕ) (last : State)
    (frames held most words tallest n : ℕ)
    → last.world.output ≡ (account program input n).output → stack < 8 * (frames + held)
    → frames + held ≤ (most + 4) * frame_room ((measures_of program).size + 24) + 25 * (1 + (4 * tallest + 7))
    → most ≤ (account_at program input n).depth + 2 → tallest ≤ (measures_of program).height
    → last.regs 2 < last.regs 25 + 8 * (1 + words) → words ≤ (measures_of program).size + 24
    → StackLacks program input stack last
stack_lacks_by program input stack last frames held most words tallest n same exceeds within deep low left few =
    let m = measures_of program in
    let next = one_step program input n in
    record {
      n = n;
      output = same ∙ next.output;
      all = all_numbers stack frames held most (frame_room (m.size + 24)) (account_at program input n).depth
          (account_at program input (suc n)).depth m.size m.height tallest exceeds within (room_of_frame m.size) deep
          next.depth low;
      left = left_numbers (last.regs 2) (last.regs 25) words m.size left few;
    }
