-- The machine that runs the code with slots follows the virtual run.
use Rattle.std.proofs.Common.{ℕ, ◌^◌, ◌<◌, ◌≤◌, ◌≡◌, ◌≢◌, List, Some, refl, sym, subst}
use Rattle.std.specs.Prelude.{slice_get}
use Rattle.run_laws.specs.Runs.{Ending, Wrong, Exhausted, NeverWrong}
use Rattle.run_laws.specs.Machines.{Machine, run}
use Rattle.run_laws.specs.Meters.{unspent, Spends, OfRest}
use Rattle.run_laws.proofs.Public.{follows_at_cost, follows_by_trans, follows_by_weaken}
use Rattle.run_laws.proofs.Public.{spends_through}
use Rattle.rv_machine.specs.declared.real.RealItem.{RealItem}
use Rattle.rv_machine.specs.State.{State}
use Rattle.machine_words.specs.Halts.{Halt, Lacks, Stack}
use Rattle.rv_machine.specs.Real.{Setting as RealSetting, real_machine}
use Rattle.rv_select.specs.declared.code.VirtualItem.{VirtualItem}
use Rattle.rv_select.specs.declared.code.VirtualItem.TheVariants.{Procedure}
use Rattle.rv_select.specs.Run.{Setting, Found, Frame, VirtualState, Shown, virtual_machine}
use Rattle.assembler.specs.Prices.{state_price}
use Rattle.rv_select.specs.Prices.{virtual_price}
use Rattle.rv_select.proofs.Public.{unmetered}
use Rattle.rv_select.specs.Marks.{marks, Distinct}
use Rattle.placed_code.specs.Slots.{slots_items}
use Rattle.rv_select.specs.Stacks.{stack_of, stacked_machine, fitting_machine}
use Rattle.placed_code.specs.Slotted.{free_mark, Starts, setting_in, room_in, start_in, IsSeenAs, FollowsVirtual}
use Rattle.placed_code.specs.Slotted.{DoesInStack, DoesAsVirtual, StopsAsVirtual, EndsAsVirtual, frames_of, last_frame}
use Rattle.placed_code.proofs.slotted.Frames.{Slotting, On}
use Rattle.placed_code.proofs.slotted.SlotSteps.{slots_simulate}
use Rattle.placed_code.proofs.slotted.SlotDistinct.{slots_once}
use Rattle.placed_code.proofs.slotted.Stopping.{ends_as_virtual}
use Rattle.placed_code.proofs.slotted.InStack.{fitting_never_wrong, fitting_simulates}

-- what follows the virtual run in a stack of so many bytes follows that without a bound, where want of stack is read as
-- exhausted
pub follows_unbounded : {V : Type 0} (reading : Halt → Ending V) (setting : Setting) (bytes : Found → List Frame → ℕ)
    (room : ℕ) (real : Machine State State V) (price : State → ℕ) (work : VirtualState → ℕ) (s : State)
    → NeverWrong (run (virtual_machine reading setting) (start_in s))
    → (reading (Lacks Stack) ≢ Wrong → FollowsVirtual real price (fitting_machine bytes reading setting room) work s)
    → reading (Lacks Stack) ≡ Exhausted → FollowsVirtual real price (virtual_machine reading setting) work s
follows_unbounded {V} reading setting bytes room real price work s never bounded out =
    let lacking : reading (Lacks Stack) ≢ Wrong = (λ e. not_both (reading (Lacks Stack)) out e) in
    let upper = follows_at_cost (fitting_simulates reading setting bytes room work out) (start_in s) (start_in s) refl
    never in
    let turns = follows_by_weaken (OfRest (IsSeenAs (s.regs 25))) (Spends 1)
    (λ a b k. subst (λ x. IsSeenAs (s.regs 25) a.rest x) k.2 k.1) (λ a b k. spends_through 1 1 a b k)
    (follows_by_trans (bounded lacking).turns upper) in
    record {
      follows = unmetered (virtual_machine reading setting) real work price (unspent (start_in s)) s never turns;
      turns = turns;
    }
  where
    not_both : (o : Ending V) → o ≡ Exhausted → o ≡ Wrong → ⊥
    not_both o e f = cc

module _ {V : Type 0} (reading : Halt → Ending V) (items : List VirtualItem) (distinct : Distinct (marks items))
    (counts : (p k first count : ℕ) → slice_get items p ≡ Some (Procedure k first count) → count < 2 ^ 32) where
  abbrev code : List RealItem
  code = slots_items (free_mark items) items

  module _ (setting : RealSetting) (told : ℕ → ℕ) (s : State) (starts : Starts items code setting told s)
      (never : NeverWrong (run (virtual_machine reading (setting_in items told s)) (start_in s))) where
    abbrev slotting : Slotting V
    slotting = record {
      reading = reading;
      items = items;
      out = free_mark items;
      setting = setting;
      addresses = starts.addresses;
      marks = slots_once items distinct;
      calls = starts.calls;
      told = told;
      agree = starts.tells;
      counts = counts;
      layout = s.layout;
      top = s.regs 25;
      lies = starts.lies;
    }

    abbrev free : Machine VirtualState Shown V
    free = virtual_machine reading (setting_in items told s)

    abbrev real : Machine State State V
    real = real_machine reading code setting

    abbrev price : State → ℕ
    price = state_price code setting

    abbrev work : VirtualState → ℕ
    work = virtual_price (setting_in items told s)

    abbrev bound : Machine VirtualState Shown V
    bound = stacked_machine reading (setting_in items told s) (room_in s)

    at_start : On slotting (start_in s) s
    at_start = record {
      body = record {
        regs = λ r h. refl;
        limit = refl;
        memory = λ i h. refl;
        world = refl;
        layout = refl;
        fits = starts.fits;
        bytes = starts.bytes;
        above = subst (λ x. s.regs 25 ≤ x) (sym starts.stack) starts.lies.stack;
        stack = (starts.stack, λ v. refl, refl);
      };
      home = (0, refl);
      code = record { place = 0; stand = refl; address = starts.pc };
    }

    pub follows_in_stack : reading (Lacks Stack) ≢ Wrong → FollowsVirtual real price bound work s
    follows_in_stack lacking =
        let never1 = fitting_never_wrong reading (setting_in items told s) stack_of (room_in s) lacking (start_in s)
        never in
        let turns = follows_at_cost (slots_simulate slotting) (start_in s) s at_start never1 in
        record {
          follows = unmetered bound real work price (unspent (start_in s)) s never1 turns;
          turns = turns;
        }

    pub follows_virtual : reading (Lacks Stack) ≡ Exhausted → FollowsVirtual real price free work s
    follows_virtual out =
        follows_unbounded reading (setting_in items told s) stack_of (room_in s) real price work s never
        follows_in_stack out

    pub stops_as_virtual : reading (Lacks Stack) ≢ Wrong → EndsAsVirtual reading items frames_of last_frame real free s
    stops_as_virtual lacking m verdict h =
        ends_as_virtual slotting (start_in s) s at_start
        (fitting_never_wrong reading (setting_in items told s) stack_of (room_in s) lacking (start_in s) never) m
        verdict h

  -- the claims of the definition
  pub does_in_stack : DoesInStack reading items code
  does_in_stack is setting told s starts never =
      follows_in_stack setting told s starts never (is.lacking Stack)

  pub does_as_virtual : DoesAsVirtual reading items code
  does_as_virtual out setting told s starts never = follows_virtual setting told s starts never out

  pub ends_so : StopsAsVirtual reading items code
  ends_so is setting told s starts never = stops_as_virtual setting told s starts never (is.lacking Stack)
