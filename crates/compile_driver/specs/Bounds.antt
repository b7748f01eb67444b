-- What region, what stack and how many instructions an image needs, told by the account of its program alone: it lacks
-- region or stack only where the calculus itself allows it, and comes in time to what the calculus comes to.
use Rattle.std.specs.Prelude.{◌≡◌, ◌⊎◌, ℕ, suc, ◌+◌, ◌*◌, ◌<◌, ◌≤◌, List, Option, Some, None}
use Rattle.run_laws.specs.Runs.{IsExhausted, IsPrefix, HasVerdictOf}
use Rattle.rv_machine.specs.Mach.{mach, run_of}
use Rattle.rv_machine.specs.Start.{IsRegionSize, IsStackSize, fresh_world, start_of}
use Rattle.rv_machine.specs.State.{State}
use Rattle.machine_words.specs.Halts.{Halt, Lacks, Region, Stack}
use Rattle.core_calc.specs.Account.{Account, account, measures_of}
use Rattle.core_calc.specs.Calculus.{Program, calc}

-- how the run of an image has stopped after at most so many instructions, if it has
abbrev pub stop_after : List ℕ → ℕ → ℕ → List ℕ → ℕ → Option Halt
stop_after image region stack input m = (run_of m (start_of image region stack (fresh_world input))).1

module _ (program : Program) where
  -- the account after so many steps
  abbrev pub account_at : List ℕ → ℕ → Account
  account_at input n = (account program input n).shown

  -- the bytes that a frame of the program is counted with: 64 for each node, binder and type, and for 16 more
  abbrev pub frame_limit : ℕ
  frame_limit = 64 * ((measures_of program).size + 16)

  -- the bytes that the frames of the procedures that serve have together, at most: told by the height of its types
  abbrev pub serving_limit : ℕ
  serving_limit = 4096 * ((measures_of program).height + 4)

  module _ (input : List ℕ) where
    -- after n steps the calculus has printed the same and goes on; with its next step it has asked for more than the
    -- region has, and that step asks for more than is free
    pub record RegionLacks (region : ℕ) (s : State) : Type 0 where
      pub n : ℕ
      pub output : s.world.output ≡ (calc program input n).output
      pub goes_on : (calc program input n).ending ≡ None
      pub all : region < 8 * (account_at input (suc n)).words
      pub free : s.regs 27 < s.regs 26 + 8 * (account_at input n).charge

    -- after n steps the calculus has printed the same; frames for as many contexts as were pending at one time, at
    -- most, up to the next step, one more, and those that serve have more bytes than the stack, and fewer bytes of it
    -- are left than a frame is counted with and 4,096
    pub record StackLacks (stack : ℕ) (s : State) : Type 0 where
      pub n : ℕ
      pub output : s.world.output ≡ (calc program input n).output
      pub all : stack < frame_limit * ((account_at input (suc n)).depth + 1) + serving_limit
      pub left : s.regs 2 < s.regs 25 + (frame_limit + 4096)

-- for every region, stack and input
pub record KeepsAccount (image : List ℕ) (program : Program) : Type 0 where
  pub region : (region stack : ℕ) (input : List ℕ) (m : ℕ) → IsRegionSize region → IsStackSize stack
      → stop_after image region stack input m ≡ Some (Lacks Region)
      → RegionLacks program input region (mach image region stack input m).shown
  pub stack : (region stack : ℕ) (input : List ℕ) (m : ℕ) → IsRegionSize region → IsStackSize stack
      → stop_after image region stack input m ≡ Some (Lacks Stack)
      → StackLacks program input stack (mach image region stack input m).shown
  -- whatever the calculus has come to after n steps, the machine has come to after 64 instructions for each unit of
  -- its work, or it is exhausted
  pub steps : (region stack : ℕ) (input : List ℕ) (n m : ℕ) → IsRegionSize region → IsStackSize stack
      → 64 * (account_at program input n).work ≤ m
      → IsExhausted (mach image region stack input m)
      ⊎ (IsPrefix (calc program input n).output (mach image region stack input m).output
      × HasVerdictOf (mach image region stack input m).ending (calc program input n).ending)
