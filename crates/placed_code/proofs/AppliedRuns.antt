-- The machine that runs the real code of a code with places follows the virtual run.
use Rattle.std.proofs.Common.{ℕ, zero, suc, ◌+◌, ◌^◌, ◌<◌, ◌≡◌, ◌≢◌, ◌⊎◌, inl, inr, List, [], ◌∷◌, Some, refl}
use Rattle.std.proofs.Common.{sym, ◌∙◌, ap, subst, arith}
use Rattle.std.specs.Prelude.{slice_get}
use Rattle.run_laws.specs.Runs.{Ending, Verdict, Wrong, Exhausted, Moment, EndsAs, NeverWrong, FollowsBy, Any}
use Rattle.run_laws.specs.Machines.{Machine, run}
use Rattle.run_laws.specs.Meters.{unspent, Spends, OfRest}
use Rattle.run_laws.proofs.Public.{follows_at_cost, follows_of, follows_by_trans, follows_by_weaken}
use Rattle.run_laws.proofs.Public.{follower_never_goes_wrong, spends_through}
use Rattle.rv_machine.specs.declared.real.RealItem.{RealItem}
use Rattle.rv_machine.specs.State.{State}
use Rattle.machine_words.specs.Halts.{Halt, Lacks, Stack}
use Rattle.rv_machine.specs.Real.{Setting as RealSetting, real_machine}
use Rattle.rv_select.specs.declared.code.Place.{Place}
use Rattle.rv_select.specs.declared.code.VirtualItem.{VirtualItem}
use Rattle.rv_select.specs.declared.code.VirtualItem.TheVariants.{Mark, Procedure}
use Rattle.rv_select.specs.Run.{Found, Frame, VirtualState, Shown, virtual_machine}
use Rattle.rv_select.specs.Holding.{Sets, IsHolding}
use Rattle.rv_select.specs.Marks.{marks, Distinct}
use Rattle.assembler.specs.Prices.{state_price}
use Rattle.rv_select.specs.Prices.{virtual_price}
use Rattle.rv_select.proofs.Public.{unmetered}
use Rattle.rv_select.specs.Stacks.{frame_size, stacked_machine}
use Rattle.placed_code.specs.Slotted.{Starts, setting_in, room_in, start_in, IsSeenAs, FollowsVirtual, EntersBeyond}
use Rattle.placed_code.specs.Slotted.{DoesAsVirtual, EndsToo, EndsAsVirtual, frames_of, last_frame}
use Rattle.placed_code.proofs.slotted.SlotRuns.{follows_unbounded, follows_in_stack, stops_as_virtual}
use Rattle.placed_code.proofs.slotted.InStack.{fitting_never_wrong}
use Rattle.placed_code.specs.Rename.{Naming, densely, rename_all, renamed}
use Rattle.placed_code.specs.Sized.{stack_by, sized_machine, SameOrFewer}
use Rattle.placed_code.specs.Applied.{applied, slots_of, frames_by, last_frame_by, DoesInSlots, StopsInSlots}
use Rattle.placed_code.proofs.Renaming.{Pass, Related, IsFound}
use Rattle.placed_code.proofs.Dense.{dense_naming}
use Rattle.placed_code.proofs.Follows.{free_simulates, sized_simulates, related_start, comes_back, frames_same}

-- ---- marks and procedures of the renamed code

pub same_marks : (w : Naming) (first count : ℕ) (items : List VirtualItem)
    → marks (rename_all w first count items) ≡ marks items
same_marks w first count [] = refl
same_marks w first count (Procedure k f c ∷ rest) = ap (λ xs. k ∷ xs) (same_marks w f c rest)
same_marks w first count (Mark m ∷ rest) = ap (λ xs. m ∷ xs) (same_marks w first count rest)
same_marks w first count (item ∷ rest) = same_marks w first count rest

-- a procedure of the renamed code is one of the code
pub procedure_back : (w : Naming) (first count : ℕ) (items : List VirtualItem) (p k f n : ℕ)
    → slice_get (rename_all w first count items) p ≡ Some (Procedure k f n)
    → (c : ℕ) × (slice_get items p ≡ Some (Procedure k f c)) × (n ≡ w.slots f c)
procedure_back w first count [] p k f n e = absurd (let z : ⊥ = cc in z)
procedure_back w first count (Procedure i g c ∷ rest) zero k f n e = same i k g f (w.slots g c) n e c refl
  where
    same : (a b x y z u : ℕ) → Some (Procedure a x z) ≡ Some (Procedure b y u) → (c : ℕ) → z ≡ w.slots x c
        → (d : ℕ) × (Some (Procedure a x c) ≡ Some (Procedure b y d)) × (u ≡ w.slots y d)
    same a b x y z u h c s =
        let e0 : a ≡ b = cc in
        let e1 : x ≡ y = cc in
        let e2 : z ≡ u = cc in (
          c,
          ap (λ v. Some (Procedure v x c)) e0 ∙ ap (λ v. Some (Procedure b v c)) e1,
          sym e2 ∙ (s ∙ ap (λ v. w.slots v c) e1),
        )
procedure_back w first count (item ∷ rest) zero k f n e = absurd (let z : ⊥ = cc in z)
procedure_back w first count (Procedure i g c ∷ rest) (suc p) k f n e = procedure_back w g c rest p k f n e
procedure_back w first count (item ∷ rest) (suc p) k f n e = procedure_back w first count rest p k f n e

seen_through : (bound : ℕ) (s : State) (b a : Shown) → IsSeenAs bound s b → SameOrFewer b a → IsSeenAs bound s a
seen_through bound s b a h k = record {
  memory = λ at l. h.memory at l ∙ ap (λ m. m at) k.memory;
  stack = h.stack ∙ k.stack;
  alloc = h.alloc ∙ k.alloc;
  top = h.top ∙ k.top;
  above = h.above;
  used = (let x = h.used in let y = k.frames in let z = k.held in omega (arith, x, y, z));
}

module _ {V : Type 0} (reading : Halt → Ending V) (items : List VirtualItem) (place : ℕ → Place) (live : Sets)
    (hold : IsHolding items place live) (distinct : Distinct (marks items))
    (counts : (p k first count : ℕ) → slice_get items p ≡ Some (Procedure k first count) → count < 2 ^ 32) where
  abbrev naming : Naming
  naming = densely place

  abbrev others : List VirtualItem
  others = renamed naming items

  abbrev code : List RealItem
  code = applied place items

  others_distinct : Distinct (marks others)
  others_distinct = subst Distinct (sym (same_marks naming 0 0 items)) distinct

  others_counts : (p k first count : ℕ) → slice_get others p ≡ Some (Procedure k first count) → count < 2 ^ 32
  others_counts p k first count e =
      let b = procedure_back naming 0 0 items p k first count e in
      let few = (dense_naming place).few first b.0 in
      let small = counts p k first b.0 b.1 in
      let is = b.2 in omega (arith, few, small, is)

  module _ (setting : RealSetting) (told : ℕ → ℕ) (s : State) (starts : Starts items code setting told s)
      (never : NeverWrong (run (virtual_machine reading (setting_in items told s)) (start_in s))) where
    abbrev pass : Pass V
    pass = record {
      reading = reading;
      setting = setting_in items told s;
      naming = naming;
      live = live;
      hold = hold;
      is = dense_naming place;
    }

    abbrev free : Machine VirtualState Shown V
    free = virtual_machine reading (setting_in items told s)

    abbrev sized : Machine VirtualState Shown V
    sized = sized_machine reading (setting_in items told s) (slots_of place) (room_in s)

    abbrev free_others : Machine VirtualState Shown V
    free_others = virtual_machine reading (setting_in others told s)

    abbrev stacked_others : Machine VirtualState Shown V
    stacked_others = stacked_machine reading (setting_in others told s) (room_in s)

    others_start : Starts others code setting told s
    others_start = record {
      addresses = starts.addresses;
      calls = starts.calls;
      tells = λ p k first count at e m.
          let b = procedure_back naming 0 0 items p k first count e in starts.tells p k first b.0 at b.1 m;
      lies = starts.lies;
      pc = starts.pc;
      stack = starts.stack;
      fits = starts.fits;
      bytes = starts.bytes;
    }

    abbrev real : Machine State State V
    real = real_machine reading code setting

    abbrev price : State → ℕ
    price = state_price code setting

    abbrev work : VirtualState → ℕ
    work = virtual_price (setting_in items told s)

    abbrev related : Related pass (start_in s) (start_in s)
    related = related_start pass s.regs s.memory s.world

    others_follow : FollowsBy SameOrFewer Any (run free_others (start_in s)) (run free (start_in s))
    others_follow =
        unmetered free free_others work (virtual_price (setting_in others told s)) (unspent (start_in s)) (start_in s)
        never (follows_at_cost (free_simulates pass) (start_in s) (start_in s) related never)

    others_never : NeverWrong (run free_others (start_in s))
    others_never = follower_never_goes_wrong (follows_of others_follow)

    sized_never : reading (Lacks Stack) ≢ Wrong → NeverWrong (run sized (start_in s))
    sized_never lacking =
        fitting_never_wrong reading (setting_in items told s) (stack_by (slots_of place)) (room_in s) lacking
        (start_in s) never

    pub follows_in_slots : reading (Lacks Stack) ≢ Wrong → FollowsVirtual real price sized work s
    follows_in_slots lacking =
        let lower = follows_in_stack reading others others_distinct others_counts setting told s others_start
        others_never lacking in
        let never1 = sized_never lacking in
        let upper = follows_at_cost (sized_simulates pass (room_in s)) (start_in s) (start_in s) related never1 in
        let turns = follows_by_weaken (OfRest (IsSeenAs (s.regs 25))) (Spends 1)
        (λ a b k. seen_through (s.regs 25) a.rest k.0.rest b.rest k.1 k.2) (λ a b k. spends_through 1 1 a b k)
        (follows_by_trans lower.turns upper) in
        record {
          follows = unmetered sized real work price (unspent (start_in s)) s never1 turns;
          turns = turns;
        }

    pub follows_virtual : reading (Lacks Stack) ≡ Exhausted → FollowsVirtual real price free work s
    follows_virtual out =
        follows_unbounded reading (setting_in items told s) (stack_by (slots_of place)) (room_in s) real price work s
        never follows_in_slots out

    -- what the renamed code ends with
    ends_back : (verdict : V) (x : Moment State V) → EndsToo verdict free_others (start_in s) x
        → EndsToo verdict free (start_in s) x
    ends_back verdict x e =
        let back = others_follow.back e.many in
        record {
          many = back.0;
          ended = subst (λ o. EndsAs o (run free (start_in s) back.0).ending) e.ended back.1.1;
          output = e.output ∙ back.1.0.output;
        }

    -- a stack with frames has a procedure
    found_there : (f : Found) (fs : List Frame) → room_in s < stack_by (slots_of place) f fs → IsFound pass fs f
        → (p : ℕ) × (k : ℕ) × (slice_get items p ≡ Some (Procedure k f.first f.count))
    found_there f [] beyond found = absurd (omega (arith, beyond))
    found_there f (g ∷ gs) beyond found = found

    beyond_back : (x : Moment State V)
        → EntersBeyond others frames_of last_frame free_others (room_in s) (start_in s) x
        → EntersBeyond items (frames_by place) (last_frame_by place) free (room_in s) (start_in s) x
    beyond_back x e =
        let back = comes_back pass e.many (start_in s) (start_in s) e.entered related never e.comes in
        let same = back.2.4 in
        let beyond : room_in s < frames_by place back.0 =
        subst (λ n. room_in s < n) (frames_same pass back.0 e.entered back.2) e.beyond in
        let there = found_there back.0.active.found back.0.frames beyond back.2.5.found in
        record {
          many = e.many;
          entered = back.0;
          comes = back.1;
          output = e.output ∙ ap (λ (z : VirtualState). z.world.output) same;
          place = there.0;
          number = there.1;
          there = there.2;
          beyond = beyond;
          left = subst (λ (z : VirtualState). x.shown.regs 2 < x.shown.regs 25 + frame_size z.active.found.count) same
              e.left;
        }

    pub stops_in_slots : reading (Lacks Stack) ≢ Wrong
        → EndsAsVirtual reading items (frames_by place) (last_frame_by place) real free s
    stops_in_slots lacking m verdict h =
        either (stops_as_virtual reading others others_distinct others_counts setting told s others_start others_never
        lacking m verdict h)
      where
        either : EndsToo verdict free_others (start_in s) (run real s m)
            ⊎ ((reading (Lacks Stack) ≡ Verdict verdict)
            × EntersBeyond others frames_of last_frame free_others (room_in s) (start_in s) (run real s m))
            → EndsToo verdict free (start_in s) (run real s m)
            ⊎ ((reading (Lacks Stack) ≡ Verdict verdict)
            × EntersBeyond items (frames_by place) (last_frame_by place) free (room_in s) (start_in s) (run real s m))
        either (inl e) = inl (ends_back verdict (run real s m) e)
        either (inr e) = inr (e.0, beyond_back (run real s m) e.1)

  -- the claims of the definition
  pub does_in_slots : DoesInSlots reading place items code
  does_in_slots is setting told s starts never =
      follows_in_slots setting told s starts never (is.lacking Stack)

  pub does_as_virtual : DoesAsVirtual reading items code
  does_as_virtual out setting told s starts never = follows_virtual setting told s starts never out

  pub ends_in_slots : StopsInSlots reading place items code
  ends_in_slots is setting told s starts never = stops_in_slots setting told s starts never (is.lacking Stack)
