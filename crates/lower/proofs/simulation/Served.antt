-- A procedure that serves makes some turns of the numbered procedures: the law that it meets, as the simulation needs
-- it.
use Rattle.std.proofs.Common.{◌≡◌, ◌⊎◌, inl, inr, ℕ, zero, suc, ◌+◌, ◌*◌, ◌<◌, ◌≤◌, List, [], ◌∷◌, Option, Some, None}
use Rattle.std.proofs.Common.{refl}
use Rattle.std.proofs.Common.{sym, ap, ◌∙◌, subst, arith, slice_get}
use Rattle.grift_base.specs.World.{WorldState}
use Rattle.grift_base.specs.declared.places.Pos.{Pos}
use Rattle.grift_base.specs.declared.verdicts.Verdict.{Verdict}
use Rattle.grift_base.specs.declared.verdicts.Verdict.TheVariants.{Blame, Trap as TrapVerdict}
use Rattle.run_laws.specs.Runs.{Ending, Verdict as EndsWith, Wrong}
use Rattle.run_laws.specs.Machines.{Reaches}
use Rattle.run_laws.proofs.Public.{reaches_weaken}
use Rattle.low_ir.specs.Run.{Setting, LowState}
use Rattle.coercion_norm.specs.Held.{Layout}
use Rattle.lower.specs.Meanings.{Meaning}
use Rattle.cast_modes.specs.ValueSteps.{Own, Return, Entering, On, BlameOf, TrapOf, NoNext}
use Rattle.flat_ir.specs.Counts.{flat_turn_wraps}
use Rattle.flat_ir.specs.Machine.{FlatFrame, FlatFocus, FlatAfter, FlatState, FlatStore, flat_state_at}
use Rattle.flat_ir.specs.Machine.{flat_turn, blame_ending, answer_at}
use Rattle.coercion_norm.specs.Objects.{Object}
use Rattle.low_ir.specs.Frames.{stack_room}
use Rattle.rt_cast.specs.States.{heap_of}
use Rattle.lower.specs.Storage.{Filled}
use Rattle.lower.specs.SchemeLaws.{Aim, OnWay, StopsNow, Walks, After, Goes, IsPending}
use Rattle.lower.proofs.words.Credits.{By, by_then_step}
use Rattle.lower.proofs.words.Stops.{stops_cheaply}
use Rattle.low_ir.specs.Prices.{CostsAtMost}
use Rattle.machine_words.specs.Halts.{ending_of}
use Rattle.cast_modes.specs.Prices.{Cost}
use Rattle.lower.proofs.simulation.Way.{Program, after_wraps, mode_of, N, Seen, Over, Settled}
use Rattle.lower.proofs.simulation.Way.{wrong_over, stopped_over}
use Rattle.lower.proofs.simulation.Way.{next_state, turn_of, size_of, over_price, zero_once_ended, dues}
use Rattle.lower.proofs.simulation.Way.{asks_of}
use Rattle.lower.proofs.simulation.Way.{budget_of, cost_of, unless_ended, focus_weight, frames_weight}

-- nothing is asked until the end
abbrev pub zero_until_ended : Option (Ending Verdict) → ℕ → ℕ
zero_until_ended None n = 0
zero_until_ended (Some e) n = n

-- so what is no more than a room isn't more at the end
pub until_ended : (o : Option (Ending Verdict)) (n room : ℕ) → n ≤ room → zero_until_ended o n ≤ room
until_ended None n room le = omega arith
until_ended (Some e) n room le = le

-- on the way of a procedure that serves: nothing was printed, the number is one of both, no more words were asked for,
-- and frames take no more room
pub record OnServedIn (meaning : Meaning) (setting : Setting) (l : Layout) (output : List ℕ)
    (before after limit frames : ℕ) (t : LowState) : Type 0 where
  pub same : t.world.output ≡ output
  pub filling : ((objects : List Object) × Filled meaning setting l before objects (heap_of t))
      ⊎ ((objects : List Object) × Filled meaning setting l after objects (heap_of t))
  pub asked : t.words ≤ limit
  pub room : stack_room t ≤ frames

module _ (program : Program) where
  abbrev pub FillingAt : ℕ → LowState → Type 0
  FillingAt n t = (objects : List Object) × Filled program.meaning program.setting program.l n objects (heap_of t)

  abbrev pub wraps_of : FlatState program.meaning.Cast → ℕ
  wraps_of f = flat_turn_wraps program.procs (mode_of program) f.focus f.frames

  abbrev pub next_of : FlatState program.meaning.Cast → FlatState program.meaning.Cast
  next_of f = next_state program f (turn_of program f)

  abbrev pub OnServed : List ℕ → ℕ → ℕ → ℕ → ℕ → LowState → Type 0
  OnServed output before after limit room t =
      OnServedIn program.meaning program.setting program.l output before after limit room t

  -- the numbered procedures have ended, and so does the run over words at its next step, with frames in this room
  abbrev pub Ended : ℕ → FlatState program.meaning.Cast → ℕ → LowState → Type 0
  Ended room f n t =
      (o : Over (after_wraps program n) f t) × (over_price (after_wraps program n) f t o.e o.ends ≤ 0)
      × (stack_room t ≤ room)

  -- both have come to states that go together: what is due there, and what was paid before the procedure was entered,
  -- is within what is left and what there was to begin with; where the numbered procedures have ended, frames are in
  -- this room
  abbrev pub SettledWith : ℕ → ℕ → ℕ → ℕ → FlatState program.meaning.Cast → ℕ → LowState → Type 0
  SettledWith room have before left f n t =
      (due : ℕ) × Settled (after_wraps program n) f due t
      × (zero_once_ended f.ended (due + dues t) + before ≤ left + have)
      × (zero_until_ended f.ended (stack_room t) ≤ room)

  -- the run over words comes to where Q holds, in a turn that asks for so many words, by this credit, in some step at
  -- least if Last holds, or in none to where the measure is low, with frames in this room on the way; or the numbered
  -- procedures have ended
  abbrev pub Next : (ℕ → FlatState program.meaning.Cast → ℕ → LowState → Type 0) → ℕ → ℕ → Type 0 → List ℕ
      → FlatState program.meaning.Cast → ℕ → ℕ → ℕ → ℕ → LowState → Type 0
  Next Q room low Last output f' asks credit before after t =
      Ended room f' after t
      ⊎ ((c : By program.setting (OnServed output before after (t.words + asks) room)
      (λ left u. (u.words ≤ t.words + asks) × Q left f' after u) 0 credit t)
      × (Last → (0 < c.steps) ⊎ (size_of f' ≤ low)))

  -- so many turns are left, and so much of their budgets, with frames in this room
  abbrev pub Waits : ℕ → ℕ → ℕ → ℕ → ℕ → ℕ → FlatState program.meaning.Cast → ℕ → LowState → Type 0
  Waits room low have before zero left f n t = Ended room f n t ⊎ SettledWith room have before left f n t
  Waits room low have before (suc i) left f n t =
      Ended room f n t
      ⊎ ((f.ended ≡ None) × Seen (after_wraps program n) f t × ((next_of f).world.output ≡ f.world.output)
      × Next (Waits room low have before i) room low (i ≡ 0) f.world.output (next_of f) (asks_of program f)
      (left + budget_of program f) n (n + wraps_of f) t
      × (stack_room t ≤ room))

  abbrev state_at : FlatFocus program.meaning.Cast → List (FlatFrame program.meaning.Cast)
      → FlatStore program.meaning.Cast → WorldState → FlatState program.meaning.Cast
  state_at focus frames store world = flat_state_at program.procs program.told focus frames store world

  pending : (focus : FlatFocus program.meaning.Cast) (frames : List (FlatFrame program.meaning.Cast)) (s : LowState)
      → IsPending program.meaning program.setting program.l program.procs program.casts program.measured s focus
      frames
      → answer_at program.procs program.told focus frames ≡ None
  pending (Return v) [] s p = absurd p
  pending (Return v) (frame ∷ frames) s p = refl
  pending (Own place) frames s p = refl
  pending (Entering f done todo) frames s p = refl

  -- what serves prints nothing
  pub silent_after : (s : LowState)
      (aim : Aim program.meaning program.setting program.l program.procs program.casts program.measured)
      (f : FlatState program.meaning.Cast) → f.world ≡ s.world → (x : FlatAfter program.meaning.Cast) (cost : Cost)
      (credit n w : ℕ) (t : LowState)
      → After program.meaning program.setting program.l program.procs program.casts program.measured s aim x cost
      credit n w t
      → (next_state program f x).world.output ≡ f.world.output
  silent_after s aim f fw (On focus frames store world) cost credit n w t a = ap (λ z. z.output) (a.0 ∙ sym fw)
  silent_after s aim f fw (BlameOf label) cost credit n w t a = refl
  silent_after s aim f fw (TrapOf trap world) cost credit n w t a = ap (λ z. z.output) (a.1 ∙ sym fw)
  silent_after s aim f fw NoNext cost credit n w t a = refl

  -- the run over words comes to such a state, in some step at least, or to where the measure is low, with frames in
  -- this room
  pub record Lands (room : ℕ) (output : List ℕ) (n low have before left : ℕ) (f' : FlatState program.meaning.Cast)
      (t : LowState) : Type 0 where
    pub comes : By program.setting (OnServed output n n t.words room)
        (λ left u. (u.words ≤ t.words) × SettledWith room have before left f' n u) 0 left t
    pub some : (0 < comes.steps) ⊎ (size_of f' ≤ low)

  -- a credit may be greater
  pub next_more : (Q : ℕ → FlatState program.meaning.Cast → ℕ → LowState → Type 0) (room low : ℕ) (Last : Type 0)
      (output : List ℕ) (f' : FlatState program.meaning.Cast) (asks credit more before after : ℕ) (t : LowState)
      → credit ≤ more → Next Q room low Last output f' asks credit before after t
      → Next Q room low Last output f' asks more before after t
  next_more Q room low Last output f' asks credit more before after t le (inl o) = inl o
  next_more Q room low Last output f' asks credit more before after t le (inr c) =
      inr (
        record {
          steps = c.0.steps;
          price = c.0.price;
          left = c.0.left;
          within = let z = c.0.within in omega (arith, z, le);
          least = omega arith;
          cheap = c.0.cheap;
          reach = c.0.reach;
        },
        c.1,
      )

  abbrev ZeroIsZero : Type 0
  ZeroIsZero = let zero_here : ℕ = 0 in zero_here ≡ 0

  module _ (s : LowState) (room low have before : ℕ)
      (enough : stack_room s + 25 * (1 + program.meaning.serving program.l) ≤ room)
      (aim : Aim program.meaning program.setting program.l program.procs program.casts program.measured)
      (lands : (focus : FlatFocus program.meaning.Cast) (frames : List (FlatFrame program.meaning.Cast))
      (store : FlatStore program.meaning.Cast) (n left : ℕ) (t : LowState)
      → stack_room t ≤ stack_room s + 25 * (1 + program.meaning.serving program.l) → aim focus frames store n left t
      → Lands room s.world.output n low have before left (state_at focus frames store s.world) t) where
    abbrev AfterHere : ℕ → FlatAfter program.meaning.Cast → Cost → ℕ → ℕ → ℕ → LowState → Type 0
    AfterHere i x cost credit n w t =
        After program.meaning program.setting program.l program.procs program.casts program.measured s
        (Goes program.meaning program.setting program.l program.procs program.casts program.measured s aim i) x
        cost credit n w t

    abbrev OnWayHere : LowState → ℕ → ℕ → ℕ → LowState → Type 0
    OnWayHere t asks n n' u =
        OnWay program.meaning program.setting program.l program.procs program.casts program.measured s t asks n
        n' u

    abbrev WalksHere : ℕ → ℕ → ℕ → ℕ → (ℕ → LowState → Type 0) → LowState → Type 0
    WalksHere asks credit n n' Q t =
        Walks program.meaning program.setting program.l program.procs program.casts program.measured s asks credit
        n n' Q t

    abbrev StopsHere : ℕ → Ending Verdict → LowState → Type 0
    StopsHere n e t =
        StopsNow program.meaning program.setting program.l program.procs program.casts program.measured s n e t

    -- frames take no more room than the scheme tells
    abbrev InRoom : LowState → Type 0
    InRoom u = stack_room u ≤ stack_room s + 25 * (1 + program.meaning.serving program.l)

    in_room : (u : LowState) → InRoom u → stack_room u ≤ room
    in_room u le = omega (arith, le, enough)

    served : (t : LowState) (asks n n' : ℕ) (u : LowState) → OnWayHere t asks n n' u
        → OnServed s.world.output n n' (t.words + asks) room u
    served t asks n n' u o =
        record {
          same = ap (λ w. w.output) o.same;
          filling = by_filling o.filled;
          asked = o.asked;
          room = in_room u o.room;
        }
      where
        by_filling : Filled program.meaning program.setting program.l n o.objects (heap_of u)
            ⊎ Filled program.meaning program.setting program.l n' o.objects (heap_of u)
            → FillingAt n u ⊎ FillingAt n' u
        by_filling (inl x) = inl (o.objects, x)
        by_filling (inr x) = inr (o.objects, x)

    passing : (t : LowState) (asks n : ℕ) (u : LowState) → OnWayHere t asks n n u → FillingAt n u
    passing t asks n u o = by_filling o.filled
      where
        by_filling : Filled program.meaning program.setting program.l n o.objects (heap_of u)
            ⊎ Filled program.meaning program.setting program.l n o.objects (heap_of u) → FillingAt n u
        by_filling (inl x) = (o.objects, x)
        by_filling (inr x) = (o.objects, x)

    over : (n n' : ℕ) → n' ≡ n → (f' : FlatState program.meaning.Cast) → f'.ended ≡ Some Wrong
        → f'.world.output ≡ s.world.output → (t : LowState) → OnWayHere t 0 n n t → Ended room f' n' t
    over n n' same f' is out t here =
        subst (λ m. Ended room f' m t) (sym same) (
          wrong_over (after_wraps program n) f' t is
              (record { output = ap (λ w. w.output) here.same ∙ sym out; filling = passing t 0 n t here }),
          omega arith,
          in_room t here.room,
        )

    -- a walk of what serves, on the way of what is served
    walked : (asks credit n n' : ℕ) (Q H : ℕ → LowState → Type 0) (P : LowState → Type 0) (t : LowState)
        (walks : WalksHere asks credit n n' Q t) → ((u : LowState) → OnWayHere t asks n n' u → P u)
        → ((u : LowState) → (u.words ≤ t.words + asks) × InRoom u × Q walks.2 u → H walks.2 u)
        → By program.setting P H 0 credit t
    walked asks credit n n' Q H P t walks on ends = record {
      steps = walks.0;
      price = walks.1;
      left = walks.2;
      within = walks.3;
      least = omega arith;
      cheap = walks.4;
      reach = reaches_weaken (N program) (OnWayHere t asks n n')
          (λ u. (u.words ≤ t.words + asks) × InRoom u × Q walks.2 u) P (H walks.2) on ends walks.0 t walks.5;
    }

    -- where the next step ends so
    ended : (n : ℕ) (f' : FlatState program.meaning.Cast) (v : Verdict) → f'.ended ≡ Some (EndsWith v)
        → f'.world.output ≡ s.world.output → (u : LowState)
        → InRoom u → StopsHere n (EndsWith v) u
        → Ended room f' n u
    ended n f' v is out u fits q = (
      stopped_over (after_wraps program n) f' v u is (record {
        now = seen u (ap (λ w. w.output) q.same) q.here;
        last = q.last;
        stops = q.stops;
        cheap = (stops_cheaply program.setting u q.last v q.stops).0;
        seen = seen q.last (ap (λ w. w.output) q.same_after) q.after;
      }),
      omega arith,
      in_room u fits,
    )
      where
        seen : (u : LowState) → u.world.output ≡ s.world.output → FillingAt n u → Seen (after_wraps program n) f' u
        seen u o x = record { output = o ∙ sym out; filling = x }

    ends_in : (i left : ℕ) (f' : FlatState program.meaning.Cast) (n : ℕ) (u : LowState) → Ended room f' n u
        → Waits room low have before i left f' n u
    ends_in zero left f' n u o = inl o
    ends_in (suc i) left f' n u o = inl o

    ends_so : (i asks credit n n' : ℕ) → n' ≡ n → (f' : FlatState program.meaning.Cast) (v : Verdict)
        → f'.ended ≡ Some (EndsWith v) → f'.world.output ≡ s.world.output → (t : LowState)
        → WalksHere asks credit n n (λ left. StopsHere n (EndsWith v)) t
        → Next (Waits room low have before i) room low (i ≡ 0) s.world.output f' asks credit n n' t
    ends_so i asks credit n n' same f' v is out t walks =
        inr (
          walked asks credit n n (λ left. StopsHere n (EndsWith v))
              (λ left u. (u.words ≤ t.words + asks) × Waits room low have before i left f' n' u)
              (OnServed s.world.output n n' (t.words + asks) room) t walks
              (λ u o. subst (λ m. OnServed s.world.output n m (t.words + asks) room u) (sym same)
              (served t asks n n u o))
              (λ u q. (
                q.0,
                subst (λ m. Waits room low have before i walks.2 f' m u) (sym same)
                    (ends_in i walks.2 f' n u (ended n f' v is out u q.1 q.2)),
              )),
          λ z. inr (small f'.ended is),
        )
      where
        small : (o : Option (Ending Verdict)) → o ≡ Some (EndsWith v)
            → unless_ended o (focus_weight f'.focus + frames_weight f'.frames) ≤ low
        small None e = absurd (let z : ⊥ = cc in z)
        small (Some x) e = omega arith

    widened : (n n' limit limit' : ℕ) (u : LowState) → limit ≤ limit' → OnServed s.world.output n' n' limit room u
        → OnServed s.world.output n n' limit' room u
    widened n n' limit limit' u le o =
        record {
          same = o.same;
          filling = by o.filling;
          asked = let z = o.asked in omega (arith, z, le);
          room = o.room;
        }
      where
        by : FillingAt n' u ⊎ FillingAt n' u → FillingAt n u ⊎ FillingAt n' u
        by (inl x) = inr x
        by (inr x) = inr x

    -- from a state of the numbered procedures whose turn came to x
    pub served_on : (i : ℕ) (x : FlatAfter program.meaning.Cast) (cost : Cost) (credit n w : ℕ)
        (f : FlatState program.meaning.Cast)
        → f.world ≡ s.world → (t : LowState) → OnWayHere t 0 n n t → AfterHere i x cost credit n w t
        → ((next_state program f x).world.output ≡ f.world.output)
        × Next (Waits room low have before i) room low (i ≡ 0) s.world.output (next_state program f x) cost.asks
        (credit + cost.budget) n (n + w) t
    served_on i NoNext cost credit n w f fw t here a = (
      refl,
      inl (over n (n + w) (omega (arith, a)) (next_state program f NoNext) refl (ap (λ z. z.output) fw) t
          here),
    )
    served_on i (BlameOf label) cost credit n w f fw t here a =
        (refl, by_label (slice_get program.told.labels label) refl)
      where
        by_label : (p : Option Pos) → slice_get program.told.labels label ≡ p
            → Next (Waits room low have before i) room low (i ≡ 0) s.world.output (next_state program f (BlameOf label))
            cost.asks (credit + cost.budget) n (n + w) t
        by_label None e =
            inl (over n (n + w) (let z = a.0 in omega (arith, z)) (next_state program f (BlameOf label))
            (ap (λ p. Some (blame_ending p)) e) (ap (λ z. z.output) fw) t here)
        by_label (Some place) e =
            ends_so i cost.asks (credit + cost.budget) n (n + w) (let z = a.0 in omega (arith, z))
            (next_state program f (BlameOf label)) (Blame place)
            (ap (λ p. Some (blame_ending p)) e) (ap (λ z. z.output) fw) t
            (a.1 place (ap (λ ls. slice_get ls label) program.labels_are ∙ e))
    served_on i (TrapOf trap world) cost credit n w f fw t here a = (
      ap (λ z. z.output) (a.1 ∙ sym fw),
      ends_so i cost.asks (credit + cost.budget) n (n + w) (let z = a.0 in omega (arith, z))
          (next_state program f (TrapOf trap world)) (TrapVerdict trap) refl (ap (λ z. z.output) a.1) t a.2,
    )
    served_on zero (On focus frames store world) cost credit n w f fw t here a = (
      ap (λ z. z.output) (a.0 ∙ sym fw),
      subst (λ z. Next (Waits room low have before zero) room low (ZeroIsZero) s.world.output
          (state_at focus frames store z)
          cost.asks (credit + cost.budget) n (n + w) t) (sym a.0)
          (by_steps a.1.0 a.1.1 a.1.2 a.1.3 a.1.4 a.1.5),
    )
      where
        f' : FlatState program.meaning.Cast
        f' = flat_state_at program.procs program.told focus frames store s.world

        limit : ℕ
        limit = t.words + cost.asks

        P : LowState → Type 0
        P = OnServedIn program.meaning program.setting program.l s.world.output n (n + w) (t.words + cost.asks) room

        H : ℕ → LowState → Type 0
        H left u =
            (u.words ≤ t.words + cost.asks)
            × Waits room low have before zero left (flat_state_at program.procs program.told focus frames store s.world)
            (n + w) u

        wider : (left : ℕ) (u : LowState) → u.words ≤ t.words + cost.asks
            → (l : Lands room s.world.output (n + w) low have before left
            (flat_state_at program.procs program.told focus frames store s.world) u)
            → (c : By program.setting (OnServedIn program.meaning program.setting program.l s.world.output n (n + w)
            (t.words + cost.asks) room) H 0 left u)
            × ((0 < c.steps) ⊎ (size_of (flat_state_at program.procs program.told focus frames store s.world) ≤ low))
        wider left u le l = (
          record {
            steps = l.comes.steps;
            price = l.comes.price;
            left = l.comes.left;
            within = l.comes.within;
            least = omega arith;
            cheap = l.comes.cheap;
            reach = reaches_weaken (N program) (OnServed s.world.output (n + w) (n + w) u.words room)
                (λ v. (v.words ≤ u.words) × SettledWith room have before l.comes.left
                (flat_state_at program.procs program.told focus frames store s.world) (n + w) v)
                (OnServedIn program.meaning program.setting program.l s.world.output n (n + w) (t.words + cost.asks)
                room) (H l.comes.left)
                (λ v o. widened n (n + w) u.words (t.words + cost.asks) v le o)
                (λ v q. (let z = q.0 in omega (arith, z, le), inr q.1)) l.comes.steps u l.comes.reach;
          },
          l.some,
        )

        by_steps : (k price left : ℕ) → price + left ≤ credit + cost.budget
            → CostsAtMost ending_of program.setting k t price
            → Reaches (N program) (OnWayHere t cost.asks n (n + w))
            (λ u. (u.words ≤ t.words + cost.asks) × InRoom u × aim focus frames store (n + w) left u) k t
            → Next (Waits room low have before zero) room low ZeroIsZero s.world.output
            (flat_state_at program.procs program.told focus frames store s.world)
            cost.asks (credit + cost.budget) n (n + w) t
        by_steps zero price left le c r =
            next_more (Waits room low have before zero) room low ZeroIsZero s.world.output
            (flat_state_at program.procs program.told focus frames store s.world) cost.asks left
            (credit + cost.budget) n
            (n + w) t (omega (arith, le))
            (inr (let x = wider left t r.0 (lands focus frames store (n + w) left t r.1 r.2) in (x.0, λ z. x.1)))
        by_steps (suc k) price left le c r =
            next_more (Waits room low have before zero) room low ZeroIsZero s.world.output
            (flat_state_at program.procs program.told focus frames store s.world) cost.asks (price + left)
            (credit + cost.budget) n (n + w) t le
            (inr (let x = by_then_step program.setting P H 0 (OnWayHere t cost.asks n (n + w))
            (λ u. (u.words ≤ t.words + cost.asks) × InRoom u × aim focus frames store (n + w) left u)
            (λ u o. served t cost.asks n (n + w) u o) k price left t (omega arith) c r
            (λ u q. (wider left u q.0 (lands focus frames store (n + w) left u q.1 q.2)).0) in
            (x.0, λ z. inl x.1)))
    served_on (suc i) (On focus frames store world) cost credit n w f fw t here a = (
      ap (λ z. z.output) (a.0 ∙ sym fw),
      subst (λ z. Next (Waits room low have before (suc i)) room low (suc i ≡ 0) s.world.output
          (state_at focus frames store z)
          cost.asks (credit + cost.budget) n (n + w) t) (sym a.0)
          (inr (
            walked cost.asks (credit + cost.budget) n (n + w)
                (λ left u. Goes program.meaning program.setting program.l program.procs program.casts program.measured s
                aim (suc i) focus frames store (n + w) left u)
                (λ left u. (u.words ≤ t.words + cost.asks)
                × Waits room low have before (suc i) left (state_at focus frames store s.world) (n + w) u)
                (OnServed s.world.output n (n + w) (t.words + cost.asks) room) t a.1 (served t cost.asks n (n + w))
                (λ u g. (g.0, further (served_on i) a.1.2 u g.2)),
            λ z. absurd (no z),
          )),
    )
      where
        no : suc i ≡ 0 → ⊥
        no e = omega (arith, e)

        further : ((x : FlatAfter program.meaning.Cast) (cost : Cost) (credit n w : ℕ)
            (f : FlatState program.meaning.Cast)
            → f.world ≡ s.world → (t : LowState) → OnWayHere t 0 n n t → AfterHere i x cost credit n w t
            → ((next_state program f x).world.output ≡ f.world.output)
            × Next (Waits room low have before i) room low (i ≡ 0) s.world.output (next_state program f x) cost.asks
            (credit + cost.budget) n (n + w) t)
            → (left : ℕ) (u : LowState)
            → Goes program.meaning program.setting program.l program.procs program.casts program.measured s aim
            (suc i) focus frames store (n + w) left u
            → Waits room low have before (suc i) left (state_at focus frames store s.world) (n + w) u
        further again left u g =
            let f' = state_at focus frames store s.world in
            let cost' = cost_of program f' in
            let q = again (flat_turn program.procs (mode_of program) store s.world focus frames) cost' left (n + w)
            (flat_turn_wraps program.procs (mode_of program) focus frames) f' refl u g.1 g.2 in
            inr (
              pending focus frames s g.0,
              record { output = ap (λ z. z.output) g.1.same; filling = passing u 0 (n + w) u g.1 },
              q.0,
              next_more (Waits room low have before i) room low (i ≡ 0) s.world.output (next_of f') cost'.asks
                  (left + cost'.budget) (left + budget_of program f') (n + w) (n + w + wraps_of f') u (omega arith)
                  q.1,
              in_room u g.1.room,
            )
