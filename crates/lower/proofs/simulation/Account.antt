-- The run over words keeps within the account of the run of the numbered procedures: at each moment in the words that
-- it has asked for and in the room of its frames, and where it has come to what that run has come to, in the prices of
-- its steps.
use Rattle.std.proofs.Common.{◌≡◌, ◌≢◌, ◌⊎◌, inl, inr, ◌<◌, ◌∙◌, zero, suc, ℕ, ◌+◌, ◌*◌, ◌≤◌, List, [], ◌∷◌, Option}
use Rattle.std.proofs.Common.{Some, None, Bool, true, false, refl, sym, ap, subst, arith, slice_get, le_refl}
use Rattle.std.proofs.Common.{length}
use Rattle.std.specs.Prelude.{◌-◌, nat_lt, max, if◌then◌else◌}
use Rattle.grift_base.specs.declared.places.Pos.{Pos}
use Rattle.grift_base.specs.declared.verdicts.Verdict.{Verdict}
use Rattle.run_laws.specs.Runs.{Ending, NeverWrong}
use Rattle.run_laws.specs.Runs.{Verdict as EndsWith, Exhausted, Wrong}
use Rattle.run_laws.specs.Accounts.{FollowsWithin}
use Rattle.run_laws.specs.Machines.{Next as NextStep, Go, Stop, Machine, Alike, OnTheWay, StopsAt, Onward, Reaches}
use Rattle.run_laws.specs.Machines.{UnlessWrong, landing, run}
use Rattle.run_laws.specs.Meters.{Metered, charge, metered, unspent}
use Rattle.run_laws.specs.Reductions.{Reduction, machine_of, go_or_stop, state_after, reduction_run}
use Rattle.run_laws.specs.Reductions.{unless_ended as step_unless_ended}
use Rattle.run_laws.proofs.Public.{by_step_at_cost, reaches_weaken, follows_by_behind, within_of}
use Rattle.run_laws.proofs.Public.{machine_never_wrong, reduction_and_machine_follow_each_other-machine}
use Rattle.run_laws.proofs.Public.{DoesAt, IndexedSimulation, follows_by_index}
use Rattle.machine_words.specs.Halts.{ending_of}
use Rattle.machine_words.specs.Memory.{Memory}
use Rattle.low_ir.specs.Prices.{entering_some, low_price, CostsAtMost}
use Rattle.low_ir.specs.Procedures.{Proc as LowProc}
use Rattle.low_ir.specs.Run.{Setting, LowState, LowShown, low_machine, low_start, held_by}
use Rattle.core_calc.specs.Account.{StepKind}
use Rattle.cast_modes.specs.Modes.{Mode}
use Rattle.cast_modes.specs.AnswerTypes.{Told}
use Rattle.cast_modes.specs.RunValues.{RunUnit}
use Rattle.cast_modes.specs.ValueSteps.{Own, Return, Entering, On, BlameOf, TrapOf, NoNext}
use Rattle.cast_modes.specs.Counting.{Counted, Counts, uncounted}
use Rattle.cast_modes.proofs.Public.{counting_changes_no_state}
use Rattle.coercion_norm.specs.Held.{TypesStand}
use Rattle.core_calc.specs.Redex.{where_some}
use Rattle.flat_ir.specs.Bodies.{Proc}
use Rattle.flat_ir.specs.Closed.{takes_nothing}
use Rattle.flat_ir.specs.Counts.{flat_counting, flat_run_in, flat_words_of_turn, flat_wraps_of_turn}
use Rattle.flat_ir.specs.FlatTally.{FlatTally, FlatTallied, flat_tallying, flat_untallied, flat_tally_in, flat_atoms}
use Rattle.cast_modes.specs.Prices.{Prices}
use Rattle.flat_ir.specs.Levels.{levels}
use Rattle.flat_ir.specs.Machine.{FlatState, FlatAfter, FlatFocus, FlatFrame, Inside, flat_start}
use Rattle.flat_ir.specs.Machine.{first_world, flat_running, flat_state_at, answer_at, blame_ending}
use Rattle.flat_ir.specs.Machine.{entry_body, new_group}
use Rattle.low_ir.specs.Frames.{frame_room, waiting_room, stack_room}
use Rattle.rt_cast.specs.Objects.{Holds}
use Rattle.lower.specs.Keeping.{KeepsFlat, PaysFlat}
use Rattle.lowered_code.specs.Lowered.{low_proc, entry_proc, show_by}
use Rattle.lower.proofs.simulation.ShownAnswers.{true_false}
use Rattle.lower.proofs.simulation.Served.{OnServed, Waits, Next, Ended, next_of, wraps_of}
use Rattle.lower.proofs.simulation.Services.{OnTurn, Landing}
use Rattle.lower.proofs.simulation.Following.{turn}
use Rattle.lower.proofs.simulation.Moves.{DoesDue}
use Rattle.lower.proofs.simulation.Way.{Program, Live, Over, Ends, Quietly, R, Seen, Settled, Stopping, Way}
use Rattle.lower.proofs.simulation.Way.{after_wraps}
use Rattle.lower.proofs.simulation.Way.{asks_of, budget_of, cost_of, due_most, due_of, dues, mode_of}
use Rattle.lower.proofs.simulation.Way.{next_state}
use Rattle.lower.proofs.simulation.Way.{over_price, prices_of, size_of, turn_aim, turn_of, zero_once_ended}
use Rattle.lower.proofs.simulation.Way.{stays_in, turn_room}
use Rattle.lower.proofs.simulation.SizedStates.{related_room, shown_room}
use Rattle.lower.proofs.simulation.Starts.{entered_flat, entered_low, first_step, first_live}
use Rattle.lower.proofs.words.Credits.{costs_first, costs_rest}
use Rattle.lower.proofs.words.Stops.{AreSized, Sized, Grows, Stepped, stepped as step_grows, stops_cheaply}
use Rattle.lower.proofs.words.Stops.{frame_most}
use Rattle.lower.proofs.words.Stops.{numbered_words}

-- ---- steps with a meter

module _ (setting : Setting) where
  abbrev Low : Machine LowState LowShown Verdict
  Low = low_machine ending_of setting

  abbrev Metering : Machine (Metered LowState) (Metered LowShown) Verdict
  Metering = metered (low_price setting.procs) (low_machine ending_of setting)

  -- the words asked for were taken
  abbrev Taken : LowState → Type 0
  Taken t = setting.region + 8 * t.words ≤ t.alloc

  -- on the way, with no more than a limit spent, and so much taken
  abbrev Passing : (LowState → Type 0) → ℕ → ℕ → Metered LowState → Type 0
  Passing P limit least m = P m.rest × (m.spent ≤ limit) × (least ≤ m.rest.alloc)

  -- at the end, with no more than a limit spent, and with the room of one frame more than on the way
  record Arriving (most : ℕ) (Q : LowState → Type 0) (limit room : ℕ) (m : Metered LowState) : Type 0 where
    pub holds : Q m.rest
    pub spent : m.spent ≤ limit
    pub taken : Taken m.rest
    pub sized : Sized most m.rest
    pub frames : stack_room m.rest ≤ room + frame_room most

  still_taken : (region words alloc words' alloc' : ℕ) → region + 8 * words ≤ alloc → words ≤ words'
      → alloc' + 8 * words ≡ alloc + 8 * words' → region + 8 * words' ≤ alloc'
  still_taken region words alloc words' alloc' a b c = omega (arith, a, b, c)

  more_taken : (least words alloc words' alloc' : ℕ) → least ≤ alloc → words ≤ words'
      → alloc' + 8 * words ≡ alloc + 8 * words' → least ≤ alloc'
  more_taken least words alloc words' alloc' a b c = omega (arith, a, b, c)

  spent_first : (spent first price limit : ℕ) → spent + price ≤ limit → first ≤ price → spent + first ≤ limit
  spent_first spent first price limit a b = omega (arith, a, b)

  spent_rest : (spent first rest price limit : ℕ) → spent + price ≤ limit → first + rest ≤ price
      → spent + first + rest ≤ limit
  spent_rest spent first rest price limit a b = omega (arith, a, b)

  spent_now : (spent price limit : ℕ) → spent + price ≤ limit → spent ≤ limit
  spent_now spent price limit a = omega (arith, a)

  one_frame_more : (before after each room : ℕ) → after ≤ before + each → before ≤ room → after ≤ room + each
  one_frame_more before after each room a b = omega (arith, a, b)

  module _ (most : ℕ) (each : AreSized most setting.procs) where
    -- steps at a price are steps with a meter, which shows no more than the price in the end
    at_price : (P Q : LowState → Type 0) (least limit room k price : ℕ)
        → ((u : LowState) → P u → stack_room u ≤ room) → (m : Metered LowState) → m.spent + price ≤ limit
        → CostsAtMost ending_of setting k m.rest price → least ≤ m.rest.alloc → Taken m.rest → Sized most m.rest
        → stack_room m.rest ≤ room + frame_room most → Reaches Low P Q k m.rest
        → Reaches Metering (Passing P limit least) (Arriving most Q limit room) k m
    at_price P Q least limit room zero price below m le c a taken sized frames r = record {
      holds = r;
      spent = spent_now m.spent price limit le;
      taken = taken;
      sized = sized;
      frames = frames;
    }
    at_price P Q least limit room (suc k) price below m le c a taken sized frames r =
        by_next (Low.step m.rest) refl r.1
        (λ price' m' le' c' a' taken' sized' frames' r'.
        at_price P Q least limit room k price' below m' le' c' a' taken' sized' frames' r')
      where
        here : Passing P limit least m
        here = (r.0, spent_now m.spent price limit le, a)

        by_next : (x : NextStep LowState Verdict) → Low.step m.rest ≡ x → Onward x P (Reaches Low P Q k)
            → ((price' : ℕ) (m' : Metered LowState) → m'.spent + price' ≤ limit
            → CostsAtMost ending_of setting k m'.rest price' → least ≤ m'.rest.alloc → Taken m'.rest
            → Sized most m'.rest → stack_room m'.rest ≤ room + frame_room most → Reaches Low P Q k m'.rest
            → Reaches Metering (Passing P limit least) (Arriving most Q limit room) k m')
            → Reaches Metering (Passing P limit least) (Arriving most Q limit room) (suc k) m
        by_next (Go u) e o ih =
            let z = costs_rest setting k price m.rest u e c in
            let g : Grows setting m.rest u = subst (Stepped setting (low_price setting.procs m.rest) m.rest) e
            (step_grows setting m.rest m.rest.active.code) in
            let x = g.sizes most each sized in
            by_step_at_cost Low (low_price setting.procs) (Passing P limit least) (Arriving most Q limit room) k m
            (Go u) e here
            (ih z.0 (record { spent = m.spent + low_price setting.procs m.rest; rest = u })
            (spent_rest m.spent (low_price setting.procs m.rest) z.0 price limit le z.1) z.2
            (more_taken least m.rest.words m.rest.alloc u.words u.alloc a g.words g.taken)
            (still_taken setting.region m.rest.words m.rest.alloc u.words u.alloc taken g.words g.taken) x.sized
            (one_frame_more (stack_room m.rest) (stack_room u) (frame_room most) room x.room (below m.rest r.0)) o)
        by_next (Stop (EndsWith v) u) e o ih = absurd o
        by_next (Stop Wrong u) e o ih = absurd o
        by_next (Stop Exhausted u) e o ih =
            let g : (u.alloc ≡ m.rest.alloc) × (m.rest.words ≤ u.words) × (stack_room u ≤ stack_room m.rest) =
            subst (Stepped setting (low_price setting.procs m.rest) m.rest) e
            (step_grows setting m.rest m.rest.active.code) in
            by_step_at_cost Low (low_price setting.procs) (Passing P limit least) (Arriving most Q limit room) k m
            (Stop Exhausted u) e here (
              o,
              spent_first m.spent (low_price setting.procs m.rest) price limit le
                  (costs_first setting k price m.rest u e c),
              subst (λ n. least ≤ n) (sym g.0) a,
            )

-- ---- what runs with an account and with counts are alike in

module _ {C : Type 0} (procs : List Proc) (mode : Mode C) (prices : Prices StepKind C) (told : Told) where
  abbrev Plainly : Reduction (FlatState C) (FlatState C) Verdict
  Plainly = flat_running procs mode told

  abbrev Tallying : Reduction (FlatTallied C) FlatTally Verdict
  Tallying = flat_tallying procs mode prices told

  abbrev Counting : Reduction (Counted (FlatState C)) Counts Verdict
  Counting = flat_counting procs mode told

  tallied_next : (s : FlatTallied C) (o : Option (Ending Verdict))
      → (step_unless_ended o Tallying.step s).state ≡ step_unless_ended o Plainly.step s.state
  tallied_next s None = refl
  tallied_next s (Some e) = refl

  tallied_after : (n : ℕ) (s : FlatTallied C) → (state_after Tallying s n).state ≡ state_after Plainly s.state n
  tallied_after zero s = refl
  tallied_after (suc n) s =
      tallied_after n (step_unless_ended s.state.ended Tallying.step s)
      ∙ ap (λ x. state_after Plainly x n) (tallied_next s s.state.ended)

  -- so the run with its account goes wrong no more than the one with counts
  tallied_never_wrong : (start : FlatState C) → NeverWrong (reduction_run Counting (uncounted start))
      → NeverWrong (reduction_run Tallying (flat_untallied start))
  tallied_never_wrong start never n e =
      never n (ap (λ x. x.ended) (counting_changes_no_state Plainly (flat_words_of_turn procs mode)
      (flat_wraps_of_turn procs mode) (λ state. length state.frames) n (uncounted start)
      ∙ sym (tallied_after n (flat_untallied start)))
      ∙ e)

-- ---- sums

-- on the way of a turn in place, and behind it
turn_most : (spent price left whole budget atoms own begun due paid : ℕ) → price + left ≤ whole
    → whole - (budget + atoms + (own + begun)) ≤ left → own ≤ due → spent + (due + begun) ≤ paid + 50
    → spent + price ≤ paid + budget + atoms + 720
turn_most spent price left whole budget atoms own begun due paid a b c d = omega (arith, a, b, c, d)

turn_paid : (spent price left whole budget atoms own begun due paid now still : ℕ) → price + left ≤ whole
    → whole + still ≤ left + (budget + atoms) + (own + begun) → own ≤ due → spent + (due + begun) ≤ paid + 50
    → now ≤ spent + price → now + still ≤ paid + budget + atoms + 50
turn_paid spent price left whole budget atoms own begun due paid now still a b c d e = omega (arith, a, b, c, d, e)

-- of a turn in which a procedure is entered
served_most : (spent price left before budget atoms paid due : ℕ) → price + left ≤ before + (budget + atoms)
    → before ≤ 556 → spent + due ≤ paid + 50 → spent + price ≤ paid + budget + atoms + 720
served_most spent price left before budget atoms paid due a b c = omega (arith, a, b, c)

served_paid : (spent price left before budget atoms own begun due paid now : ℕ)
    → price + left ≤ before + (budget + atoms) → own ≤ due → spent + (due + begun) ≤ paid + 50 → now ≤ spent + price
    → now + left + (own + begun) ≤ paid + budget + atoms + 50 + before
served_paid spent price left before budget atoms own begun due paid now a b c d = omega (arith, a, b, c, d)

-- of a turn in a round
waits_most : (spent price left left' have before budget atoms paid : ℕ) → price + left' ≤ left + (budget + atoms)
    → before ≤ 556 → spent + left + have ≤ paid + 50 + before → spent + price ≤ paid + budget + atoms + 720
waits_most spent price left left' have before budget atoms paid a b c = omega (arith, a, b, c)

waits_paid : (spent price left left' have before budget atoms paid now : ℕ)
    → price + left' ≤ left + (budget + atoms) → spent + left + have ≤ paid + 50 + before → now ≤ spent + price
    → now + left' + have ≤ paid + budget + atoms + 50 + before
waits_paid spent price left left' have before budget atoms paid now a b c = omega (arith, a, b, c)

-- a round that ends, and one whose procedures have ended
round_paid : (spent left have before paid due : ℕ) → spent + left + have ≤ paid + 50 + before
    → due + before ≤ left + have → spent + due ≤ paid + 50
round_paid spent left have before paid due a b = omega (arith, a, b)

end_paid : (spent left have before paid price : ℕ) → spent + left + have ≤ paid + 50 + before → before ≤ 556
    → price ≤ 0 → spent + price ≤ paid + 620
end_paid spent left have before paid price a b c = omega (arith, a, b, c)

over_paid : (spent due paid price : ℕ) → spent + due ≤ paid + 50 → price ≤ 400 → spent + price ≤ paid + 620
over_paid spent due paid price a b = omega (arith, a, b)

more_asked : (words base asks all : ℕ) → words ≤ base + asks → base ≤ all → words ≤ all + asks
more_asked words base asks all a b = omega (arith, a, b)

paid_later : (spent paid budget atoms : ℕ) → spent ≤ paid + 720 → spent ≤ paid + budget + atoms + 720
paid_later spent paid budget atoms a = omega (arith, a)

paid_later_by : (spent limit paid : ℕ) → spent ≤ limit → limit ≤ paid → spent ≤ paid
paid_later_by spent limit paid a b = omega (arith, a, b)

none_out : (e : Ending Verdict) → None ≢ Some e
none_out e h = cc

-- ---- rooms of frames

not_more : (a b c : ℕ) → a ≤ b → b ≤ c → a ≤ c
not_more a b c le more = omega (arith, le, more)

more_frames : (n m each serving : ℕ) → n ≤ m → n * each + serving ≤ m * each + serving
more_frames n m each serving le = grind arith

-- in a turn that begins in a procedure of the program, and behind it
turn_frames : (own waiting each serving frames : ℕ) → own + waiting ≤ (frames + 2) * each → own ≤ each
    → own + waiting + own + serving ≤ (frames + 3) * each + serving
turn_frames own waiting each serving frames le few = grind arith

last_frames : (room n m each serving after : ℕ) → n + 1 ≤ m → room ≤ n * each + serving → after ≤ room + each
    → after ≤ m * each + serving
last_frames room n m each serving after lt le more = grind arith

alone : (own waiting each serving frames : ℕ) → own + waiting ≤ (frames + 2) * each
    → own + waiting ≤ (frames + 4) * each + serving
alone own waiting each serving frames le = grind arith

-- ---- the relation

module _ (program : Program) (typed : TypesStand program.l) (most : ℕ)
    (each : AreSized most program.setting.procs) where
  abbrev Tallied : Type 0
  Tallied = FlatTallied program.meaning.Cast

  abbrev M : Machine (FlatTallied program.meaning.Cast) FlatTally Verdict
  M = machine_of (flat_tallying program.procs (mode_of program) (prices_of program) program.told)

  abbrev N : Machine (Metered LowState) (Metered LowShown) Verdict
  N = metered (low_price program.setting.procs) (low_machine ending_of program.setting)

  abbrev K : Metered LowShown → FlatTally → Type 0
  K = KeepsFlat program.setting (program.meaning.serving program.l) most

  abbrev L : Metered LowShown → FlatTally → Type 0
  L = PaysFlat

  abbrev stepped : FlatTallied program.meaning.Cast → FlatTallied program.meaning.Cast
  stepped s = (flat_tallying program.procs (mode_of program) (prices_of program) program.told).step s

  abbrev budget_in : FlatTallied program.meaning.Cast → ℕ
  budget_in s = (cost_of program s.state).budget

  abbrev atoms_in : FlatTallied program.meaning.Cast → ℕ
  atoms_in s = 64 * flat_atoms s.state.focus

  -- the most frames of the numbered procedures so far
  abbrev depth_of : FlatTallied program.meaning.Cast → ℕ
  depth_of s = max s.deepest (length s.state.frames)

  -- the room of so many frames of the program's procedures, beside that of those that serve
  abbrev room_of : ℕ → ℕ
  room_of n = n * frame_room most + 25 * (1 + program.meaning.serving program.l)

  room_later : (s : FlatTallied program.meaning.Cast) (n : ℕ) → room_of (depth_of s + n)
      ≤ room_of (depth_of (stepped s) + n)
  room_later s n =
      more_frames (depth_of s + n) (depth_of (stepped s) + n) (frame_room most)
      (25 * (1 + program.meaning.serving program.l)) (omega arith)

  -- where both are: the numbered procedures aren't exhausted, and the words are within theirs
  record Standing (s : FlatTallied program.meaning.Cast) (m : Metered LowState) : Type 0 where
    pub fine : s.state.ended ≢ Some Exhausted
    pub taken : program.setting.region + 8 * m.rest.words ≤ m.rest.alloc
    pub words : m.rest.words ≤ s.words
    pub sized : Sized most m.rest

  -- both go on after so many wrap steps
  record Going (n j : ℕ) (s : FlatTallied program.meaning.Cast) (m : Metered LowState) : Type 0 where
    pub due : ℕ
    pub live : Live (after_wraps program n) s.state due m.rest
    pub index : j ≡ size_of s.state
    pub paid : m.spent + (due + dues m.rest) ≤ s.paid + 50

  -- the numbered procedures have ended
  record Done (n : ℕ) (s : FlatTallied program.meaning.Cast) (m : Metered LowState) : Type 0 where
    pub over : Over (after_wraps program n) s.state m.rest
    pub paid : m.spent + over_price (after_wraps program n) s.state m.rest over.e over.ends ≤ s.paid + 620
    pub frames : stack_room m.rest ≤ room_of (depth_of s + 4)

  -- a procedure that serves makes more turns
  record Serves (n j : ℕ) (s : FlatTallied program.meaning.Cast) (m : Metered LowState) : Type 0 where
    pub low : ℕ
    pub i : ℕ
    pub have : ℕ
    pub before : ℕ
    pub left : ℕ
    pub room : ℕ
    pub index : j ≡ suc (i + low)
    pub few : before ≤ 556
    pub frames : room ≤ room_of (depth_of s + 3)
    pub waits : Waits program room low have before (suc i) left s.state n m.rest
    pub paid : m.spent + left + have ≤ s.paid + 50 + before

  abbrev Rel : ℕ → FlatTallied program.meaning.Cast → Metered LowState → Type 0
  Rel j s m = Standing s m × ((n : ℕ) × (Going n j s m ⊎ (Done n s m ⊎ Serves n j s m)))

  abbrev SomeRel : FlatTallied program.meaning.Cast → Metered LowState → Type 0
  SomeRel s m = (j : ℕ) × Rel j s m

  -- ---- no numbered procedures are exhausted

  never_out : (f : FlatState program.meaning.Cast) (x : FlatAfter program.meaning.Cast)
      → (next_state program f x).ended ≢ Some Exhausted
  never_out f (On focus frames store world) e = by_focus focus frames e
    where
      by_truth : (b : Bool) (v : Verdict) → Some (if b then EndsWith v else Wrong) ≢ Some Exhausted
      by_truth true v e = cc
      by_truth false v e = cc

      by_focus : (focus : FlatFocus program.meaning.Cast) (frames : List (FlatFrame program.meaning.Cast))
          → answer_at program.procs program.told focus frames ≢ Some Exhausted
      by_focus (Return v) [] e = by_truth _ _ e
      by_focus (Return v) (frame ∷ frames) e = cc
      by_focus (Own place) frames e = cc
      by_focus (Entering f done todo) frames e = cc
  never_out f (BlameOf label) e = by_place (slice_get program.told.labels label) e
    where
      by_place : (p : Option Pos) → Some (blame_ending p) ≢ Some Exhausted
      by_place None e = cc
      by_place (Some place) e = cc
  never_out f (TrapOf trap world) e = cc
  never_out f NoNext e = cc

  -- ---- as moments are seen

  seen_alike : (s : FlatTallied program.meaning.Cast) (m : Metered LowState) (base : ℕ)
      → m.rest.world.output ≡ s.state.world.output → program.setting.region + 8 * base ≤ m.rest.alloc → base ≤ s.words
      → m.rest.words ≤ base + where_some s.state.ended 0 (asks_of program s.state)
      → stack_room m.rest ≤ room_of (depth_of s + 4) → Alike K M N s m
  seen_alike s m base e taken earlier asked frames = record {
    output = e;
    shown = record {
      base = base;
      taken = taken;
      earlier = earlier;
      asked = asked;
      frames = not_more ((length m.rest.waiting + 1) + (m.rest.active.count + held_by m.rest.waiting))
          (stack_room m.rest) (room_of (depth_of s + 4)) (shown_room m.rest) frames;
    };
  }

  as_asked : (o : Option (Ending Verdict)) (words base asks : ℕ) → o ≡ None → words ≤ base + asks
      → words ≤ base + where_some o 0 asks
  as_asked None words base asks e le = le
  as_asked (Some x) words base asks e le = absurd (let z : ⊥ = cc in z)

  any_asked : (words base asks : ℕ) → words ≤ base → words ≤ base + asks
  any_asked words base asks le = omega (arith, le)

  -- seen here, with no more words than stood here
  stands_alike : (s : FlatTallied program.meaning.Cast) (m : Metered LowState) → Standing s m
      → m.rest.world.output ≡ s.state.world.output → stack_room m.rest ≤ room_of (depth_of s + 4) → Alike K M N s m
  stands_alike s m st e frames =
      seen_alike s m m.rest.words e st.taken st.words
      (any_asked m.rest.words m.rest.words (where_some s.state.ended 0 (asks_of program s.state))
      (le_refl m.rest.words)) frames

  -- frames of related states, and the room of the turn that begins there
  related_few : (n : ℕ) (s : FlatTallied program.meaning.Cast) (due : ℕ) (m : Metered LowState) → Standing s m
      → Live (after_wraps program n) s.state due m.rest
      → stack_room m.rest ≤ (length s.state.frames + 2) * frame_room most
  related_few n s due m st live =
      related_room program.setting program.l program.run program.procs program.answer program.meaning most s.state n due
      m.rest live.related st.sized

  -- so they are within the room of the account, and that of the turn is with one frame less to spare
  live_few : (n : ℕ) (s : FlatTallied program.meaning.Cast) (due : ℕ) (m : Metered LowState) → Standing s m
      → Live (after_wraps program n) s.state due m.rest → stack_room m.rest ≤ room_of (depth_of s + 4)
  live_few n s due m st live =
      not_more (stack_room m.rest) (room_of (length s.state.frames + 4)) (room_of (depth_of s + 4))
      (alone (frame_room m.rest.active.count) (waiting_room m.rest.waiting) (frame_room most)
      (25 * (1 + program.meaning.serving program.l)) (length s.state.frames) (related_few n s due m st live))
      (more_frames (length s.state.frames + 4) (depth_of s + 4) (frame_room most)
      (25 * (1 + program.meaning.serving program.l)) (omega arith))

  turn_few : (n : ℕ) (s : FlatTallied program.meaning.Cast) (due : ℕ) (m : Metered LowState) → Standing s m
      → Live (after_wraps program n) s.state due m.rest → turn_room program m.rest ≤ room_of (depth_of s + 3)
  turn_few n s due m st live =
      not_more (turn_room program m.rest) (room_of (length s.state.frames + 3)) (room_of (depth_of s + 3))
      (turn_frames (frame_room m.rest.active.count) (waiting_room m.rest.waiting) (frame_room most)
      (25 * (1 + program.meaning.serving program.l)) (length s.state.frames) (related_few n s due m st live)
      (frame_most m.rest.active.count most st.sized.active))
      (more_frames (length s.state.frames + 3) (depth_of s + 3) (frame_room most)
      (25 * (1 + program.meaning.serving program.l)) (omega arith))

  -- in the room of a turn
  in_turn : (s : FlatTallied program.meaning.Cast) (room n : ℕ) → room ≤ room_of (depth_of s + 3) → n ≤ room
      → n ≤ room_of (depth_of s + 4)
  in_turn s room n few le =
      not_more n room (room_of (depth_of s + 4)) le
      (not_more room (room_of (depth_of s + 3)) (room_of (depth_of s + 4)) few
      (more_frames (depth_of s + 3) (depth_of s + 4) (frame_room most) (25 * (1 + program.meaning.serving program.l))
      (omega arith)))

  -- behind it
  behind_turn : (s : FlatTallied program.meaning.Cast) (room n : ℕ) → room ≤ room_of (depth_of s + 3)
      → n ≤ room + frame_room most → n ≤ room_of (depth_of s + 4)
  behind_turn s room n few le =
      last_frames room (depth_of s + 3) (depth_of s + 4) (frame_room most)
      (25 * (1 + program.meaning.serving program.l)) n (omega arith) few le

  later_room : (s : FlatTallied program.meaning.Cast) (room : ℕ) → room ≤ room_of (depth_of s + 3)
      → room ≤ room_of (depth_of (stepped s) + 3)
  later_room s room few = not_more room (room_of (depth_of s + 3)) (room_of (depth_of (stepped s) + 3)) few
      (room_later s 3)

  -- a turn in place
  on_way : (s : FlatTallied program.meaning.Cast) → s.state.ended ≡ None → (n base limit room : ℕ) → base ≤ s.words
      → limit ≤ s.paid + budget_in s + atoms_in s + 720 → room ≤ room_of (depth_of s + 3) → (m : Metered LowState)
      → Passing program.setting (Way (after_wraps program n) s.state (stepped s).state base room) limit
      (program.setting.region + 8 * base) m → OnTheWay K L M N s (stepped s) m
  on_way s live n base limit room early pays few m ((inl e, filling, frames), spent, taken) = (
    inl (seen_alike s m base e.0 taken early
        (as_asked s.state.ended m.rest.words base (asks_of program s.state) live e.1)
        (in_turn s room (stack_room m.rest) few frames)),
    paid_later_by m.spent limit (s.paid + budget_in s + atoms_in s + 720) spent pays,
  )
  on_way s live n base limit room early pays few m ((inr e, filling, frames), spent, taken) = (
    inr (seen_alike (stepped s) m base e.0 taken (any_asked base s.words (asks_of program s.state) early)
        (any_asked m.rest.words base (where_some (stepped s).state.ended 0 (asks_of program (stepped s).state)) e.1)
        (in_turn (stepped s) room (stack_room m.rest) (later_room s room few) frames)),
    paid_later_by m.spent limit (s.paid + budget_in s + atoms_in s + 720) spent pays,
  )

  -- a turn in which a procedure serves
  on_served : (s : FlatTallied program.meaning.Cast) → s.state.ended ≡ None → (n n' base limit room : ℕ)
      → base ≤ s.words → limit ≤ s.paid + budget_in s + atoms_in s + 720 → room ≤ room_of (depth_of s + 3)
      → (m : Metered LowState)
      → Passing program.setting (OnServed program s.state.world.output n n' (base + asks_of program s.state) room) limit
      (program.setting.region + 8 * base) m → OnTheWay K L M N s (stepped s) m
  on_served s live n n' base limit room early pays few m (o, spent, taken) = (
    inl (seen_alike s m base o.same taken early
        (as_asked s.state.ended m.rest.words base (asks_of program s.state) live o.asked)
        (in_turn s room (stack_room m.rest) few o.room)),
    paid_later_by m.spent limit (s.paid + budget_in s + atoms_in s + 720) spent pays,
  )

  -- ---- as states land

  small_over : (n : ℕ) (f : FlatState program.meaning.Cast) (t : LowState) (e : Ending Verdict)
      (ends : UnlessWrong e (Ends (after_wraps program n) f e t)) → over_price (after_wraps program n) f t e ends ≤ 400
  small_over n f t (EndsWith v) ends = ends.small
  small_over n f t Exhausted ends = ends.small
  small_over n f t Wrong ends = omega arith

  stands_next : (s : FlatTallied program.meaning.Cast) (base : ℕ) (m : Metered LowState) → base ≤ s.words
      → m.rest.words ≤ base + asks_of program s.state → program.setting.region + 8 * m.rest.words ≤ m.rest.alloc
      → Sized most m.rest → Standing (stepped s) m
  stands_next s base m early le taken sized = record {
    fine = never_out s.state (turn_of program s.state);
    taken = taken;
    sized = sized;
    words = more_asked m.rest.words base (asks_of program s.state) s.words le early;
  }

  none_due : (o : Option (Ending Verdict)) (due : ℕ) → o ≡ None → zero_once_ended o due ≡ due
  none_due None due e = refl
  none_due (Some x) due e = absurd (let z : ⊥ = cc in z)

  -- live or over, with what is due paid
  settles : (n : ℕ) (s : FlatTallied program.meaning.Cast) (due : ℕ) (m : Metered LowState) → Standing s m
      → Settled (after_wraps program n) s.state due m.rest
      → m.spent + zero_once_ended s.state.ended (due + dues m.rest) ≤ s.paid + 50
      → stack_room m.rest ≤ room_of (depth_of s + 4) → (j : ℕ) × (j ≤ size_of s.state) × Rel j s m
  settles n s due m st (inl live) paid frames = (
    size_of s.state,
    le_refl (size_of s.state),
    (
      st,
      (
        n,
        inl (record {
          due = due;
          live = live;
          index = refl;
          paid = subst (λ z. m.spent + z ≤ s.paid + 50) (none_due s.state.ended (due + dues m.rest) live.is) paid;
        }),
      ),
    ),
  )
  settles n s due m st (inr over) paid frames = (
    0,
    omega arith,
    (
      st,
      (
        n,
        inr (inl (record {
          over = over;
          paid = over_paid m.spent (zero_once_ended s.state.ended (due + dues m.rest)) s.paid
              (over_price (after_wraps program n) s.state m.rest over.e over.ends) paid
              (small_over n s.state m.rest over.e over.ends);
          frames = frames;
        })),
      ),
    ),
  )

  ended_so : (n : ℕ) (s : FlatTallied program.meaning.Cast) (room have before left : ℕ) (m : Metered LowState)
      → Standing s m → room ≤ room_of (depth_of s + 3) → before ≤ 556
      → m.spent + left + have ≤ s.paid + 50 + before → Ended program room s.state n m.rest → (j : ℕ) → Rel j s m
  ended_so n s room have before left m st frames few paid o j = (
    st,
    (
      n,
      inr (inl (record {
        over = o.0;
        paid = end_paid m.spent left have before s.paid
            (over_price (after_wraps program n) s.state m.rest o.0.e o.0.ends) paid few o.1;
        frames = in_turn s room (stack_room m.rest) frames o.2;
      })),
    ),
  )

  -- no turns of a round are left
  round_ends : (n : ℕ) (s : FlatTallied program.meaning.Cast) (room low have before left : ℕ) (m : Metered LowState)
      → Standing s m → room ≤ room_of (depth_of s + 3) → before ≤ 556
      → m.spent + left + have ≤ s.paid + 50 + before → stack_room m.rest ≤ room + frame_room most
      → Waits program room low have before 0 left s.state n m.rest → (j : ℕ) × (j ≤ size_of s.state) × Rel j s m
  round_ends n s room low have before left m st frames few paid le (inl o) =
      (0, omega arith, ended_so n s room have before left m st frames few paid o 0)
  round_ends n s room low have before left m st frames few paid le (inr x) =
      settles n s x.0 m st x.1
      (round_paid m.spent left have before s.paid (zero_once_ended s.state.ended (x.0 + dues m.rest)) paid x.2)
      (behind_turn s room (stack_room m.rest) frames le)

  waits_on : (n : ℕ) (s : FlatTallied program.meaning.Cast) (room low have before i left : ℕ) (m : Metered LowState)
      → Standing s m → room ≤ room_of (depth_of s + 3) → before ≤ 556
      → m.spent + left + have ≤ s.paid + 50 + before
      → Waits program room low have before (suc i) left s.state n m.rest → Rel (suc (i + low)) s m
  waits_on n s room low have before i left m st frames few paid w = (
    st,
    (
      n,
      inr (inr (record {
        low = low;
        i = i;
        have = have;
        before = before;
        left = left;
        room = room;
        index = refl;
        few = few;
        frames = frames;
        waits = w;
        paid = paid;
      })),
    ),
  )

  waits_in : (n : ℕ) (s : FlatTallied program.meaning.Cast) (room low have before i left : ℕ) (m : Metered LowState)
      → Standing s m → room ≤ room_of (depth_of s + 3) → before ≤ 556
      → m.spent + left + have ≤ s.paid + 50 + before → stack_room m.rest ≤ room + frame_room most
      → Waits program room low have before i left s.state n m.rest → SomeRel s m
  waits_in n s room low have before zero left m st frames few paid le w =
      let x = round_ends n s room low have before left m st frames few paid le w in (x.0, x.2)
  waits_in n s room low have before (suc i) left m st frames few paid le w =
      (suc (i + low), waits_on n s room low have before i left m st frames few paid w)

  -- ---- the simulation

  abbrev Goes_on : ℕ → FlatTallied program.meaning.Cast → Metered LowState → Type 0
  Goes_on j s m =
      ((j' : ℕ) × (j' < j) × Rel j' (stepped s) m)
      ⊎ ((k : ℕ) × Reaches N (OnTheWay K L M N s (stepped s)) (SomeRel (stepped s)) (suc k) m)

  -- steps that come to what the measure says
  by_count : (s : FlatTallied program.meaning.Cast) (P Q : LowState → Type 0) (price room j k : ℕ)
      (m : Metered LowState) → Standing s m → ((u : LowState) → P u → stack_room u ≤ room) → stack_room m.rest ≤ room
      → ((u : Metered LowState)
      → Passing program.setting P (m.spent + price) (program.setting.region + 8 * m.rest.words) u
      → OnTheWay K L M N s (stepped s) u)
      → ((u : Metered LowState) → Arriving program.setting most Q (m.spent + price) room u → SomeRel (stepped s) u)
      → CostsAtMost ending_of program.setting k m.rest price
      → Reaches (low_machine ending_of program.setting) P Q k m.rest
      → (k ≡ 0 → Arriving program.setting most Q (m.spent + price) room m
      → (j' : ℕ) × (j' < j) × Rel j' (stepped s) m)
      → Goes_on j s m
  by_count s P Q price room j zero m st below few p q cheap r none =
      inl (none refl (record {
        holds = r;
        spent = spent_now program.setting m.spent price (m.spent + price) (le_refl (m.spent + price));
        taken = st.taken;
        sized = st.sized;
        frames = omega (arith, few);
      }))
  by_count s P Q price room j (suc k) m st below few p q cheap r none =
      inr (
        k,
        reaches_weaken N
            (Passing program.setting P (m.spent + price) (program.setting.region + 8 * m.rest.words))
            (Arriving program.setting most Q (m.spent + price) room) (OnTheWay K L M N s (stepped s))
            (SomeRel (stepped s)) p q (suc k) m
            (at_price program.setting most each P Q (program.setting.region + 8 * m.rest.words) (m.spent + price) room
            (suc k) price below m (le_refl (m.spent + price)) cheap st.taken st.taken st.sized (omega (arith, few)) r),
      )

  -- behind a turn in place
  turn_lands : (s : FlatTallied program.meaning.Cast) (n own due credit price left room : ℕ) (m : Metered LowState)
      → Standing s m → room ≤ room_of (depth_of s + 3) → own ≤ due → m.spent + (due + dues m.rest) ≤ s.paid + 50
      → price + left ≤ credit → (u : Metered LowState)
      → Arriving program.setting most
      (turn_aim (after_wraps program n) s.state (stepped s).state own credit m.rest left) (m.spent + price) room u
      → (j : ℕ) × (j ≤ size_of (stepped s).state) × Rel j (stepped s) u
  turn_lands s n own due credit price left room m st few le paid within u a =
      let q = a.holds in
      settles n (stepped s) q.0 u (stands_next s m.rest.words u st.words q.2.asked a.taken a.sized) (settled q.1)
      (turn_paid m.spent price left credit (budget_in s) (atoms_in s) own (dues m.rest) due s.paid u.spent
      (zero_once_ended (stepped s).state.ended (q.0 + dues u.rest)) within q.2.paid le paid a.spent)
      (behind_turn (stepped s) room (stack_room u.rest) (later_room s room few) a.frames)
    where
      settled : R (after_wraps program n) (stepped s).state a.holds.0 u.rest
          → Settled (after_wraps program n) (stepped s).state a.holds.0 u.rest
      settled (inl l) = inl l
      settled (inr (inl o)) = inr o
      settled (inr (inr z)) = absurd z

  less_by : (j i k : ℕ) → j ≤ i → i < k → j < k
  less_by j i k a b = omega (arith, a, b)

  from_live : (s : FlatTallied program.meaning.Cast) → s.state.ended ≡ None → (n w due own : ℕ) (m : Metered LowState)
      → Standing s m → turn_room program m.rest ≤ room_of (depth_of s + 3) → own ≤ due
      → m.spent + (due + dues m.rest) ≤ s.paid + 50
      → DoesDue (after_wraps program n) typed s.state (turn_of program s.state) w own m.rest
      → Goes_on (size_of s.state) s m
  from_live s live n w due own m st frames le paid (inl (z, inl (c, falls))) =
      by_count s (Way (after_wraps program n) s.state (stepped s).state m.rest.words (turn_room program m.rest))
      (turn_aim (after_wraps program n) s.state (stepped s).state own c.0 m.rest c.1.left) c.1.price
      (turn_room program m.rest) (size_of s.state) c.1.steps m st (λ u q. q.2)
      (stays_in program m.rest.active.count m.rest.waiting)
      (λ u q. on_way s live n m.rest.words (m.spent + c.1.price) (turn_room program m.rest) st.words
      (turn_most m.spent c.1.price c.1.left c.0 (budget_in s) (atoms_in s) own (dues m.rest) due s.paid c.1.within
      c.1.least le paid) frames u q)
      (λ u q. let x = turn_lands s n own due c.0 c.1.price c.1.left (turn_room program m.rest) m st frames le paid
      c.1.within u q in (x.0, x.2))
      c.1.cheap c.1.reach
      (λ k q. let x = turn_lands s n own due c.0 c.1.price c.1.left (turn_room program m.rest) m st frames le paid
      c.1.within m q in
      (x.0, less_by x.0 (size_of (stepped s).state) (size_of s.state) x.1 falls, x.2))
  from_live s live n w due own m st frames le paid (inl (z, inr (credit, (c, some)))) =
      by_count s (Way (after_wraps program n) s.state (stepped s).state m.rest.words (turn_room program m.rest))
      (turn_aim (after_wraps program n) s.state (stepped s).state own credit m.rest c.left) c.price
      (turn_room program m.rest) (size_of s.state) c.steps m st (λ u q. q.2)
      (stays_in program m.rest.active.count m.rest.waiting)
      (λ u q. on_way s live n m.rest.words (m.spent + c.price) (turn_room program m.rest) st.words
      (turn_most m.spent c.price c.left credit (budget_in s) (atoms_in s) own (dues m.rest) due s.paid c.within
      c.least le paid) frames u q)
      (λ u q. let x = turn_lands s n own due credit c.price c.left (turn_room program m.rest) m st frames le paid
      c.within u q in (x.0, x.2))
      c.cheap c.reach (λ k q. absurd (omega (arith, some, k)))
  from_live s live n w due own m st frames le paid (inr (silent, before, few, (c, some))) =
      by_count s (OnTurn (after_wraps program n) typed s.state w m.rest.words (turn_room program m.rest))
      (Landing (after_wraps program n) typed s.state (turn_room program m.rest) (own + dues m.rest) before
      (stepped s).state w m.rest.words c.left) c.price (turn_room program m.rest) (size_of s.state) c.steps m st
      (λ u q. q.room) (stays_in program m.rest.active.count m.rest.waiting)
      (λ u q. on_served s live n (n + w) m.rest.words (m.spent + c.price) (turn_room program m.rest) st.words
      (served_most m.spent c.price c.left before (budget_in s) (atoms_in s) s.paid (due + dues m.rest) c.within few
      paid) frames u q)
      (λ u q. waits_in (n + w) (stepped s) (turn_room program m.rest) q.holds.1.0 (own + dues m.rest) before
      q.holds.1.1 c.left u (stands_next s m.rest.words u st.words q.holds.0 q.taken q.sized)
      (later_room s (turn_room program m.rest) frames) few
      (served_paid m.spent c.price c.left before (budget_in s) (atoms_in s) own (dues m.rest) due s.paid u.spent
      c.within le paid q.spent) q.frames q.holds.1.2)
      c.cheap c.reach (λ k q. absurd (omega (arith, some, k)))

  from_waits : (s : FlatTallied program.meaning.Cast) → s.state.ended ≡ None
      → (n room low have before i left : ℕ) (m : Metered LowState) → Standing s m → room ≤ room_of (depth_of s + 3)
      → before ≤ 556 → m.spent + left + have ≤ s.paid + 50 + before → stack_room m.rest ≤ room
      → Next program (Waits program room low have before i) room low (i ≡ 0) s.state.world.output
      (next_of program s.state)
      (asks_of program s.state) (left + budget_of program s.state) n (n + wraps_of program s.state) m.rest
      → Goes_on (suc (i + low)) s m
  from_waits s live n room low have before i left m st frames few paid inside (inl o) =
      inl (
        0,
        omega arith,
        ended_so (n + wraps_of program s.state) (stepped s) room have before left m
            (stands_next s m.rest.words m st.words
            (any_asked m.rest.words m.rest.words (asks_of program s.state) (le_refl m.rest.words)) st.taken st.sized)
            (later_room s room frames) few
            (later m.spent left have before s.paid (budget_in s) (atoms_in s) paid) o 0,
      )
    where
      later : (spent left have before paid budget atoms : ℕ) → spent + left + have ≤ paid + 50 + before
          → spent + left + have ≤ paid + budget + atoms + 50 + before
      later spent left have before paid budget atoms a = omega (arith, a)
  from_waits s live n room low have before i left m st frames few paid inside (inr (c, last)) =
      by_count s
      (OnServed program s.state.world.output n (n + wraps_of program s.state)
      (m.rest.words + asks_of program s.state) room)
      (λ u. (u.words ≤ m.rest.words + asks_of program s.state)
      × Waits program room low have before i c.left (stepped s).state (n + wraps_of program s.state) u) c.price room
      (suc (i + low)) c.steps m st (λ u q. q.room) inside
      (λ u q. on_served s live n (n + wraps_of program s.state) m.rest.words (m.spent + c.price) room st.words
      (waits_most m.spent c.price left c.left have before (budget_in s) (atoms_in s) s.paid c.within few paid) frames u
      q)
      (λ u q. waits_in (n + wraps_of program s.state) (stepped s) room low have before i c.left u
      (stands_next s m.rest.words u st.words q.holds.0 q.taken q.sized) (later_room s room frames) few
      (now_paid u q.spent) q.frames q.holds.1)
      c.cheap c.reach (λ k q. by_turns i last k q)
    where
      now_paid : (u : Metered LowState) → u.spent ≤ m.spent + c.price
          → u.spent + c.left + have ≤ s.paid + budget_in s + atoms_in s + 50 + before
      now_paid u le =
          waits_paid m.spent c.price left c.left have before (budget_in s) (atoms_in s) s.paid u.spent c.within paid le

      by_turns : (i : ℕ) → (i ≡ 0 → (0 < c.steps) ⊎ (size_of (next_of program s.state) ≤ low)) → c.steps ≡ 0
          → Arriving program.setting most
          (λ u. (u.words ≤ m.rest.words + asks_of program s.state)
          × Waits program room low have before i c.left (stepped s).state (n + wraps_of program s.state) u)
          (m.spent + c.price) room m
          → (j' : ℕ) × (j' < suc (i + low)) × Rel j' (stepped s) m
      by_turns zero last k q = by_size (last refl)
        where
          by_size : (0 < c.steps) ⊎ (size_of (next_of program s.state) ≤ low)
              → (j' : ℕ) × (j' < suc (0 + low)) × Rel j' (stepped s) m
          by_size (inl lt) = absurd (omega (arith, lt, k))
          by_size (inr le) =
              let x = round_ends (n + wraps_of program s.state) (stepped s) room low have before c.left m
              (stands_next s m.rest.words m st.words q.holds.0 q.taken q.sized) (later_room s room frames) few
              (now_paid m q.spent) q.frames q.holds.1 in
              (x.0, low_enough x.0 (size_of (next_of program s.state)) low x.1 le, x.2)
            where
              low_enough : (j size low : ℕ) → j ≤ size → size ≤ low → j < suc (0 + low)
              low_enough j size low a b = omega (arith, a, b)
      by_turns (suc i) last k q = (
        suc (i + low),
        omega arith,
        waits_on (n + wraps_of program s.state) (stepped s) room low have before i c.left m
            (stands_next s m.rest.words m st.words q.holds.0 q.taken q.sized) (later_room s room frames) few
            (now_paid m q.spent) q.holds.1,
      )

  -- on the way to the end, and there, with no more words and no more room for frames than in a state
  abbrev QuietlySeen : ℕ → FlatTallied program.meaning.Cast → Metered LowState → LowState → Type 0
  QuietlySeen n s m =
      Quietly (after_wraps program n) (Seen (after_wraps program n) s.state) m.rest.words (stack_room m.rest)

  abbrev QuietlyStopping : ℕ → FlatTallied program.meaning.Cast → Metered LowState → Verdict → LowState → Type 0
  QuietlyStopping n s m v =
      Quietly (after_wraps program n) (Stopping (after_wraps program n) s.state (EndsWith v)) m.rest.words
      (stack_room m.rest)

  over_does : (j n : ℕ) (s : FlatTallied program.meaning.Cast) (m : Metered LowState) → Standing s m → Done n s m
      → DoesAt K L M N Rel j s m (M.step s)
  over_does j n s m st d =
      subst (λ e. DoesAt K L M N Rel j s m (go_or_stop e stepped s)) (sym d.over.is)
      (by_ending d.over.e d.over.is d.over.ends d.paid)
    where
      so_far : (spent price paid now : ℕ) → spent + price ≤ paid + 620 → now ≤ spent + price → now ≤ paid + 720
      so_far spent price paid now a b = omega (arith, a, b)

      in_all : (spent price paid now last : ℕ) → spent + price ≤ paid + 620 → now ≤ spent + price → last ≤ 100
          → now + last ≤ paid + 720
      in_all spent price paid now last a b c = omega (arith, a, b, c)

      none_more : (words words' all : ℕ) → words ≤ words' → words' ≤ all → words ≤ all
      none_more words words' all a b = omega (arith, a, b)

      as_before : (region words alloc alloc' : ℕ) → region + 8 * words ≤ alloc → alloc' ≡ alloc
          → region + 8 * words ≤ alloc'
      as_before region words alloc alloc' a b = omega (arith, a, b)

      same_words : (words words' asks : ℕ) → words' ≡ words → words' ≤ words + asks
      same_words words words' asks e = omega (arith, e)

      by_ending : (e : Ending Verdict) → s.state.ended ≡ Some e
          → (ends : UnlessWrong e (Ends (after_wraps program n) s.state e m.rest))
          → m.spent + over_price (after_wraps program n) s.state m.rest e ends ≤ s.paid + 620
          → UnlessWrong e ((k : ℕ) × Reaches N (OnTheWay K L M N s s) (StopsAt K L M N s s e) k m)
      by_ending (EndsWith v) is ends paid = (
        ends.steps,
        reaches_weaken N
            (Passing program.setting (QuietlySeen n s m) (m.spent + ends.price)
            (program.setting.region + 8 * m.rest.words))
            (Arriving program.setting most (QuietlyStopping n s m v) (m.spent + ends.price) (stack_room m.rest))
            (OnTheWay K L M N s s) (StopsAt K L M N s s (EndsWith v))
            (λ u q. (
              inl (seen_alike s u m.rest.words q.0.0.output q.2 st.words
                  (any_asked u.rest.words m.rest.words (where_some s.state.ended 0 (asks_of program s.state)) q.0.1)
                  (not_more (stack_room u.rest) (stack_room m.rest) (room_of (depth_of s + 4)) q.0.2 d.frames)),
              so_far m.spent ends.price s.paid u.spent paid q.1,
            ))
            (λ u q. stops_so u q.holds.0 q.holds.1 q.spent q.taken
            (not_more (stack_room u.rest) (stack_room m.rest) (room_of (depth_of s + 4)) q.holds.2 d.frames))
            ends.steps m
            (at_price program.setting most each (QuietlySeen n s m) (QuietlyStopping n s m v)
            (program.setting.region + 8 * m.rest.words) (m.spent + ends.price) (stack_room m.rest) ends.steps ends.price
            (λ u q. q.2) m (le_refl (m.spent + ends.price)) ends.cheap st.taken st.taken st.sized (omega arith)
            ends.reach),
      )
        where
          stops_so : (u : Metered LowState) → Stopping (after_wraps program n) s.state (EndsWith v) u.rest
              → u.rest.words ≤ m.rest.words → u.spent ≤ m.spent + ends.price
              → program.setting.region + 8 * u.rest.words ≤ u.rest.alloc
              → stack_room u.rest ≤ room_of (depth_of s + 4) → StopsAt K L M N s s (EndsWith v) u
          stops_so u x quiet spent taken frames =
              let c = stops_cheaply program.setting u.rest x.last v x.stops in
              let early = none_more u.rest.words m.rest.words s.words quiet st.words in (
                (
                  inl (seen_alike s u u.rest.words x.now.output taken early
                      (any_asked u.rest.words u.rest.words (where_some s.state.ended 0 (asks_of program s.state))
                      (le_refl u.rest.words)) frames),
                  so_far m.spent ends.price s.paid u.spent paid spent,
                ),
                (
                  record { spent = u.spent + low_price program.setting.procs u.rest; rest = x.last },
                  ap (charge (u.spent + low_price program.setting.procs u.rest)) x.stops,
                  seen_alike s
                      (record { spent = u.spent + low_price program.setting.procs u.rest; rest = x.last })
                      u.rest.words x.seen.output
                      (as_before program.setting.region u.rest.words u.rest.alloc x.last.alloc taken c.1)
                      early
                      (same_words u.rest.words x.last.words (where_some s.state.ended 0 (asks_of program s.state)) c.2)
                      (not_more (stack_room x.last) (stack_room u.rest) (room_of (depth_of s + 4)) c.3 frames),
                  in_all m.spent ends.price s.paid u.spent (low_price program.setting.procs u.rest) paid spent c.0,
                ),
              )
      by_ending Exhausted is ends paid = absurd (st.fine is)
      by_ending Wrong is ends paid = tt

  does : (j : ℕ) (s : FlatTallied program.meaning.Cast) (m : Metered LowState) → Rel j s m
      → DoesAt K L M N Rel j s m (M.step s)
  does j s m (st, (n, inl g)) =
      subst (λ o. DoesAt K L M N Rel j s m (go_or_stop o stepped s)) (sym g.live.is)
      (subst (λ i. Goes_on i s m) (sym g.index)
      (let d = turn (after_wraps program n) typed s.state g.due m.rest g.live.is g.live.related in
      from_live s g.live.is n (wraps_of program s.state) g.due d.0 m st (turn_few n s g.due m st g.live) d.1 g.paid
      d.2))
  does j s m (st, (n, inr (inl d))) = over_does j n s m st d
  does j s m (st, (n, inr (inr v))) = by_waits v.waits
    where
      by_waits : Waits program v.room v.low v.have v.before (suc v.i) v.left s.state n m.rest
          → DoesAt K L M N Rel j s m (M.step s)
      by_waits (inl o) =
          over_does j n s m st (record {
            over = o.0;
            frames = in_turn s v.room (stack_room m.rest) v.frames o.2;
            paid = end_paid m.spent v.left v.have v.before s.paid
                (over_price (after_wraps program n) s.state m.rest o.0.e o.0.ends) v.paid v.few o.1;
          })
      by_waits (inr x) =
          subst (λ o. DoesAt K L M N Rel j s m (go_or_stop o stepped s)) (sym x.0)
          (subst (λ i. Goes_on i s m) (sym v.index)
          (from_waits s x.0 n v.room v.low v.have v.before v.i v.left m st v.frames v.few v.paid x.4 x.3))

  alike : (j : ℕ) (s : FlatTallied program.meaning.Cast) (m : Metered LowState) → Rel j s m
      → Alike K M N s m × L (N.shown m) (M.shown s)
  alike j s m (st, (n, inl g)) = (
    stands_alike s m st (ap (λ w. w.output) g.live.related.world) (live_few n s g.due m st g.live),
    live_most m.spent (g.due + dues m.rest) s.paid g.paid,
  )
    where
      live_most : (spent due paid : ℕ) → spent + due ≤ paid + 50 → spent ≤ paid + 720
      live_most spent due paid a = omega (arith, a)
  alike j s m (st, (n, inr (inl d))) = (
    stands_alike s m st d.over.seen.output d.frames,
    over_most m.spent (over_price (after_wraps program n) s.state m.rest d.over.e d.over.ends) s.paid d.paid,
  )
    where
      over_most : (spent price paid : ℕ) → spent + price ≤ paid + 620 → spent ≤ paid + 720
      over_most spent price paid a = omega (arith, a)
  alike j s m (st, (n, inr (inr v))) = (
    stands_alike s m st (by_waits v.waits) (in_turn s v.room (stack_room m.rest) v.frames (room_waits v.waits)),
    round_most m.spent v.left v.have v.before s.paid v.few v.paid,
  )
    where
      round_most : (spent left have before paid : ℕ) → before ≤ 556 → spent + left + have ≤ paid + 50 + before
          → spent ≤ paid + 720
      round_most spent left have before paid a b = omega (arith, a, b)

      room_waits : Waits program v.room v.low v.have v.before (suc v.i) v.left s.state n m.rest
          → stack_room m.rest ≤ v.room
      room_waits (inl o) = o.2
      room_waits (inr x) = x.4

      by_waits : Waits program v.room v.low v.have v.before (suc v.i) v.left s.state n m.rest
          → m.rest.world.output ≡ s.state.world.output
      by_waits (inl o) = o.0.seen.output
      by_waits (inr x) = x.1.output

  still_allowed : (b : Metered LowShown) (s : FlatTallied program.meaning.Cast) → L b (M.shown s)
      → L b (M.shown (landing (M.step s)))
  still_allowed b s h = by_ending s.state.ended
    where
      by_ending : (o : Option (Ending Verdict)) → b.spent ≤ (landing (go_or_stop o stepped s)).paid + 720
      by_ending None = paid_later b.spent s.paid (budget_in s) (atoms_in s) h
      by_ending (Some e) = h

  simulation : IndexedSimulation K L M N Rel
  simulation = record { alike = alike; does = does; still_allowed = still_allowed }

  -- ---- the start

  module _ (entry : ℕ) (takes : takes_nothing (slice_get program.procs entry) ≡ true) (memory : Memory)
      (statics : Holds memory program.l.first program.l.statics) (fits : program.setting.region ≤ program.setting.top)
      (input : List ℕ) where
    abbrev s0 : FlatTallied program.meaning.Cast
    s0 = flat_untallied (flat_start program.procs program.told entry input)

    abbrev t0 : LowState
    t0 = low_start program.setting (entry_proc entry program.answer) memory (first_world input)

    begun : (o : Option Proc) → slice_get program.procs entry ≡ o → takes_nothing o ≡ true
        → Reaches N (λ m. Alike K M N s0 m × L (N.shown m) (M.shown s0)) (SomeRel s0) 1 (unspent t0)
    begun None there e = true_false e
    begun (Some p) there e =
        let t1 = entered_low program memory statics fits input p in
        by_step_at_cost (low_machine ending_of program.setting) (low_price program.setting.procs)
        (λ m. Alike K M N s0 m × L (N.shown m) (M.shown s0)) (SomeRel s0) 0 (unspent t0) (Go t1)
        (first_step program memory statics fits input entry p there e) (
          seen_alike s0 (unspent t0) 0 refl (none_taken program.setting.region) (zero_least 0)
              (zero_least (0 + where_some s0.state.ended 0 (asks_of program s0.state)))
              (first_frames (depth_of s0) (frame_room most) (25 * (1 + program.meaning.serving program.l))
              (omega arith)),
          zero_least (0 + 720),
        )
        (subst (λ o. SomeRel (flat_untallied (flat_state_at program.procs program.told
        (Own (Inside (entry_body o) (λ level. RunUnit) (new_group 0 []))) [] [] (first_world input)))
        (record { spent = 0 + low_price program.setting.procs t0; rest = t1 })) (sym there)
        (let s1 : FlatTallied program.meaning.Cast =
        flat_untallied (entered_flat program memory statics fits input p) in
        let m1 : Metered LowState = record { spent = 0 + low_price program.setting.procs t0; rest = t1 } in
        let z = settles 0 s1 0 m1 (record {
          fine = none_out Exhausted;
          taken = none_taken program.setting.region;
          words = zero_least 0;
          sized = first_sized;
        })
        (inl (first_live program memory statics fits input entry p there e))
        (first_paid (low_price program.setting.procs t0)
        (due_of (low_proc program.run p).code []) (due_of (show_by program.answer) []) entering_most
        (due_most (low_proc program.run p).code []) (due_most (show_by program.answer) []))
        (two_frames (frame_room (levels p.params p.body + 10)) (depth_of s1) (frame_room most)
        (25 * (1 + program.meaning.serving program.l))
        (frame_most (levels p.params p.body + 10) most first_few) (omega arith)) in (z.0, z.2)))
      where
        first_few : levels p.params p.body + 10 ≤ most
        first_few = numbered_words most program.setting.procs entry (low_proc program.run p) each
            (program.stand entry p there)

        first_sized : Sized most (entered_low program memory statics fits input p)
        first_sized = record { active = first_few; waiting = (let z = first_few in omega (arith, z), tt) }

        -- the procedure that the run begins with, and the program's first over it
        first_frames : (depth each serving : ℕ) → 25 ≤ each → 25 + 0 ≤ (depth + 4) * each + serving
        first_frames depth each serving le = grind arith

        two_frames : (own depth each serving : ℕ) → own ≤ each → 25 ≤ each
            → own + (25 + 0) ≤ (depth + 4) * each + serving
        two_frames own depth each serving le few = grind arith

        none_taken : (region : ℕ) → region + 8 * 0 ≤ region
        none_taken region = omega arith

        zero_least : (n : ℕ) → 0 ≤ n
        zero_least n = omega arith

        first_paid : (price due due' : ℕ) → price ≤ 42 → due ≤ 10 * 0 → due' ≤ 10 * 0
            → 0 + price + (0 + (due + (due' + 0))) ≤ 0 + 50
        first_paid price due due' a b c = omega (arith, a, b, c)

        entered_so : (o : Option LowProc) → 17 + entering_some o ≤ 42
        entered_so None = omega arith
        entered_so (Some q) = by (nat_lt q.words 255)
          where
            by : (b : Bool) → 17 + (if b then 15 else 25) ≤ 42
            by true = omega arith
            by false = omega arith

        entering_most : low_price program.setting.procs t0 ≤ 42
        entering_most = entered_so (slice_get program.setting.procs entry)

    -- from the start of both
    pub words_keep : NeverWrong (flat_run_in program.procs entry (mode_of program) program.told input)
        → FollowsWithin (KeepsFlat program.setting (program.meaning.serving program.l) most) PaysFlat
        (run (metered (low_price program.setting.procs) (low_machine ending_of program.setting))
        (unspent (low_start program.setting (entry_proc entry program.answer) memory (first_world input))))
        (flat_tally_in program.procs entry (mode_of program) (prices_of program) program.told input)
    words_keep never =
        let tallying = flat_tallying program.procs (mode_of program) (prices_of program) program.told in
        let fine = tallied_never_wrong program.procs (mode_of program) (prices_of program) program.told
        (flat_start program.procs program.told entry input) never in
        within_of (follows_by_behind
        (follows_by_index simulation s0 1 (unspent t0) (begun (slice_get program.procs entry) refl takes)
        (machine_never_wrong tallying s0 fine)) (reduction_and_machine_follow_each_other-machine tallying s0 fine))
