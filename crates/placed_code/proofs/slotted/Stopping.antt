-- Where the machine that runs the code with slots ends with a verdict.
use Rattle.std.proofs.Common.{ℕ, zero, suc, ◌+◌, ◌<◌, ◌≡◌, ◌⊎◌, inl, inr, Bool, true, false, Some}
use Rattle.std.proofs.Common.{refl, sym, ◌∙◌, ap, subst, arith}
use Rattle.std.specs.Prelude.{nat_le, if◌then◌else◌, slice_get}
use Rattle.grift_base.specs.World.{WorldState}
use Rattle.run_laws.specs.Runs.{Ending, Verdict, Exhausted, Wrong, Moment, NeverWrong, FollowsBy, EndsAs, Any}
use Rattle.run_laws.specs.Machines.{Next as Step, Go, Stop, Machine, and_then, steps, seen, run, Onward, Reaches}
use Rattle.run_laws.specs.Machines.{Alike, OnTheWay, StopsAt, Does, Simulation}
use Rattle.run_laws.specs.Meters.{Metered, metered, unspent, charge}
use Rattle.run_laws.proofs.Public.{unless_wrong_map, follows_by_simulation, run_go}
use Rattle.rv_machine.specs.State.{State}
use Rattle.machine_words.specs.Halts.{Lacks, Stack}
use Rattle.rv_select.specs.Run.{VirtualState, Shown, virtual_machine}
use Rattle.rv_select.specs.Prices.{virtual_price}
use Rattle.rv_select.specs.Stacks.{stack_of, if_room}
use Rattle.placed_code.specs.Slotted.{EntersBeyond, EndsToo, frames_of, last_frame}
use Rattle.placed_code.proofs.slotted.Frames.{Slotting, program, virtual_setting, M, N, On, Same, seen_of, as_alike}
use Rattle.placed_code.proofs.slotted.Paying.{cost}
use Rattle.placed_code.proofs.slotted.SlotItems.{room, size, Lacking, DoesFor}
use Rattle.placed_code.proofs.slotted.SlotSteps.{do_here}

-- what is reached with a meter is reached
module _ {T B V : Type 0} (N : Machine T B V) (price : T → ℕ) (P Q : Metered T → Type 0) (P' Q' : T → Type 0)
    (p : (m : Metered T) → P m → P' m.rest) (q : (m : Metered T) → Q m → Q' m.rest) where
  onward : (k n : ℕ) (x : Step T V)
      → ((m : Metered T) → Reaches (metered price N) P Q k m → Reaches N P' Q' k m.rest)
      → Onward (charge n x) P (Reaches (metered price N) P Q k) → Onward x P' (Reaches N P' Q' k)
  onward k n (Go t) ih r = ih (record { spent = n; rest = t }) r
  onward k n (Stop (Verdict v) t) ih r = r
  onward k n (Stop Exhausted t) ih r = p (record { spent = n; rest = t }) r
  onward k n (Stop Wrong t) ih r = r

  without_meter : (k : ℕ) (m : Metered T) → Reaches (metered price N) P Q k m → Reaches N P' Q' k m.rest
  without_meter zero m r = q m r
  without_meter (suc k) m r =
      (p m r.0, onward k (m.spent + price m.rest) (N.step m.rest) (λ m1 r1. without_meter k m1 r1) r.1)

-- the machine shows its state
shows_output : {A V : Type 0} (N : Machine A A V) → ((s : A) → N.shown s ≡ s) → (x : Step A V)
    → (seen N x).output ≡ N.output (seen N x).shown
shows_output N same (Go s) = ap N.output (sym (same s))
shows_output N same (Stop e s) = ap N.output (sym (same s))

module _ {V : Type 0} (w : Slotting V) where
  -- a state of the virtual run in its stack; at its end it tells from which state it stopped
  data Told : Type 0 where
    Running : VirtualState → Told
    Ended : VirtualState → VirtualState → Told

  abbrev state_of : Told → VirtualState
  state_of (Running t) = t
  state_of (Ended from t) = t

  abbrev tells : VirtualState → Step VirtualState V → Step Told V
  tells t (Go t1) = Go (Running t1)
  tells t (Stop e t1) = Stop e (Ended t t1)

  abbrev tells_on : Told → Step Told V
  tells_on (Running t) = tells t ((M w).step t)
  tells_on (Ended from t) = Stop Wrong (Ended from t)

  abbrev telling : Machine Told Told V
  telling = record { step = tells_on; output = λ u. (state_of u).world.output; shown = λ u. u }

  abbrev free : Machine VirtualState Shown V
  free = virtual_machine w.reading (virtual_setting w)

  -- at the end it is seen what the machine lacks there
  abbrev Sees : State → Told → Type 0
  Sees s (Running t) = Unit {0}
  Sees s (Ended from t) = Lacking w s (free.step from)

  abbrev Related : Told → State → Type 0
  Related (Running t) s = On w t s
  Related (Ended from t) s = ⊥

  abbrev size_of : Told → ℕ
  size_of (Running t) = size w t
  size_of (Ended from t) = 0

  -- ---- the machine follows it

  running : (t : VirtualState) (s : State) → Alike (Same w) (M w) (N w) t s → Alike Sees telling (N w) (Running t) s
  running t s a = record { output = a.output; shown = tt }

  either : (t t1 : VirtualState) (s : State) → (Alike (Same w) (M w) (N w) t s ⊎ Alike (Same w) (M w) (N w) t1 s)
      → Alike Sees telling (N w) (Running t) s ⊎ Alike Sees telling (N w) (Running t1) s
  either t t1 s (inl a) = inl (running t s a)
  either t t1 s (inr a) = inr (running t1 s a)

  does_told : (b : ℕ) (t : VirtualState) (s : State) (z : Step VirtualState V) → DoesFor w b t s (free.step t) z
      → Does Sees Any telling (N w) Related size_of (Running t) s (tells t z)
  does_told b t s (Go t1) h = (
    h.0,
    h.1,
    without_meter (N w) (cost (program w)) _ _ (OnTheWay Sees Any telling (N w) (Running t) (Running t1)) (On w t1)
        (λ m p. (either t t1 m.rest p.0, tt)) (λ m q. q.0) h.0 (unspent s) h.2,
  )
  does_told b t s (Stop e t1) h =
      unless_wrong_map e (λ g. (
        g.0,
        without_meter (N w) (cost (program w)) _ _ (OnTheWay Sees Any telling (N w) (Running t) (Ended t t1))
            (StopsAt Sees Any telling (N w) (Running t) (Ended t t1) e)
            (λ m p. (inl (running t m.rest p.0), tt)) (λ m q. (
              (inl (running t m.rest q.alike), tt),
              (q.last, q.step, record { output = q.same.output; shown = q.lacking }, tt),
            )) g.0 (unspent s) g.1,
      )) h

  simulates : Simulation Sees Any telling (N w) Related size_of
  simulates = record {
    alike = λ u s r. alike u s r;
    does = λ u s r. does u s r;
    still_allowed = λ b u l. tt;
  }
    where
      alike : (u : Told) (s : State) → Related u s → Alike Sees telling (N w) u s × Unit {0}
      alike (Running t) s on = (running t s (as_alike w t s (seen_of w t s on.body)), tt)
      alike (Ended from t) s r = absurd r

      does : (u : Told) (s : State) → Related u s → Does Sees Any telling (N w) Related size_of u s (telling.step u)
      does (Running t) s on =
          does_told (virtual_price (virtual_setting w) t) t s ((M w).step t)
          (do_here w t s on (slice_get w.items t.pc) refl)
      does (Ended from t) s r = absurd r

  same_on : (t : VirtualState) (n : ℕ) (z : Step VirtualState V)
      → ((t1 : VirtualState) → (run telling (Running t1) n).ending ≡ (run (M w) t1 n).ending)
      → (seen telling (and_then (tells t z) (λ u. steps telling u n))).ending
      ≡ (seen (M w) (and_then z (λ t1. steps (M w) t1 n))).ending
  same_on t n (Go t1) ih = ih t1
  same_on t n (Stop e t1) ih = refl

  same_endings : (n : ℕ) (t : VirtualState) → (run telling (Running t) n).ending ≡ (run (M w) t n).ending
  same_endings zero t = refl
  same_endings (suc n) t = same_on t n ((M w).step t) (λ t1. same_endings n t1)

  follows_telling : (t : VirtualState) (s : State) → On w t s → NeverWrong (run (M w) t)
      → FollowsBy Sees Any (run (N w) s) (run telling (Running t))
  follows_telling t s on never =
      follows_by_simulation simulates (Running t) s on (λ n e. never n (sym (same_endings n t) ∙ e))

  -- ---- what it tells at its end

  -- the next item entered a procedure whose frame doesn't fit
  record Short (e : Ending V) (t : VirtualState) (x : Moment Told V) : Type 0 where
    many : ℕ
    from : VirtualState
    entered : VirtualState
    comes : steps free t many ≡ Go entered
    next : free.step from ≡ Go entered
    beyond : room w < stack_of entered.active.found entered.frames
    reads : w.reading (Lacks Stack) ≡ e
    is : x.shown ≡ Ended from from

  -- the run with no bound on its stack ends so
  record Plain (e : Ending V) (t : VirtualState) (x : Moment Told V) : Type 0 where
    many : ℕ
    ended : (run free t many).ending ≡ Some e
    output : x.output ≡ (run free t many).output

  some_is : (a b : Ending V) → Some a ≡ Some b → a ≡ b
  some_is a b h = cc

  abbrev behind : VirtualState → ℕ → Step VirtualState V → Moment Told V
  behind t n y = seen telling (and_then (tells t (if_room w.reading (room w) t y)) (λ u. steps telling u n))

  later : (t t1 : VirtualState) (e : Ending V) (x : Moment Told V) → free.step t ≡ Go t1
      → Short e t1 x ⊎ Plain e t1 x → Short e t x ⊎ Plain e t x
  later t t1 e x same (inl r) =
      inl (record {
        many = suc r.many;
        from = r.from;
        entered = r.entered;
        comes = ap (λ y. and_then y (λ t2. steps free t2 r.many)) same ∙ r.comes;
        next = r.next;
        beyond = r.beyond;
        reads = r.reads;
        is = r.is;
      })
  later t t1 e x same (inr r) =
      let on : run free t (suc r.many) ≡ run free t1 r.many = run_go free t t1 r.many same in
      inr (record {
        many = suc r.many;
        ended = ap (λ (y : Moment Shown V). y.ending) on ∙ r.ended;
        output = r.output ∙ sym (ap (λ (y : Moment Shown V). y.output) on);
      })

  stopped_by : (n : ℕ) (t : VirtualState) (e : Ending V) (y : Step VirtualState V) → free.step t ≡ y
      → ((t1 : VirtualState) → (run telling (Running t1) n).ending ≡ Some e
      → Short e t1 (run telling (Running t1) n) ⊎ Plain e t1 (run telling (Running t1) n))
      → (behind t n y).ending ≡ Some e → Short e t (behind t n y) ⊎ Plain e t (behind t n y)
  stopped_by n t e (Go t1) same ih h = by_room (nat_le (stack_of t1.active.found t1.frames) (room w)) refl h
    where
      at : Bool → Moment Told V
      at c = seen telling (and_then (tells t (if c then Go t1 else Stop (w.reading (Lacks Stack)) t))
          (λ u. steps telling u n))

      by_room : (c : Bool) → nat_le (stack_of t1.active.found t1.frames) (room w) ≡ c → (at c).ending ≡ Some e
          → Short e t (at c) ⊎ Plain e t (at c)
      by_room true fits g = later t t1 e (run telling (Running t1) n) same (ih t1 g)
      by_room false lacks g =
          inl (record {
            many = 1;
            from = t;
            entered = t1;
            comes = ap (λ y. and_then y (λ t2. steps free t2 0)) same;
            next = same;
            beyond = grind (arith, lacks);
            reads = some_is (w.reading (Lacks Stack)) e g;
            is = refl;
          })
  stopped_by n t e (Stop o t1) same ih h =
      let on : run free t 1 ≡ seen free (Stop o t1) = ap (λ y. seen free (and_then y (λ t2. steps free t2 0))) same in
      inr (record {
        many = 1;
        ended = ap (λ (y : Moment Shown V). y.ending) on ∙ h;
        output = sym (ap (λ (y : Moment Shown V). y.output) on);
      })

  stopped : (n : ℕ) (t : VirtualState) (e : Ending V) → (run telling (Running t) n).ending ≡ Some e
      → Short e t (run telling (Running t) n) ⊎ Plain e t (run telling (Running t) n)
  stopped zero t e h = absurd (let z : ⊥ = cc in z)
  stopped (suc n) t e h = stopped_by n t e (free.step t) refl (λ t1 g. stopped n t1 e g) h

  -- ---- where the machine ends

  pub ends_as_virtual : (t : VirtualState) (s : State) → On w t s → NeverWrong (run (M w) t) → (m : ℕ) (verdict : V)
      → (run (N w) s m).ending ≡ Some (Verdict verdict)
      → EndsToo verdict free t (run (N w) s m)
      ⊎ ((w.reading (Lacks Stack) ≡ Verdict verdict)
      × EntersBeyond w.items frames_of last_frame free (room w) t (run (N w) s m))
  ends_as_virtual t s on never m verdict h =
      let back = (follows_telling t s on never).back m in
      let ended : (run telling (Running t) back.0).ending ≡ Some (Verdict verdict) =
      subst (λ o. EndsAs o (run telling (Running t) back.0).ending) h back.1.1 in
      by_end (run telling (Running t) back.0) back.1.0.output back.1.0.shown
      (stopped back.0 t (Verdict verdict) ended)
    where
      x : Moment State V
      x = run (N w) s m

      by_end : (y : Moment Told V) → x.output ≡ y.output → Sees x.shown y.shown
          → Short (Verdict verdict) t y ⊎ Plain (Verdict verdict) t y
          → EndsToo verdict free t x
          ⊎ ((w.reading (Lacks Stack) ≡ Verdict verdict)
          × EntersBeyond w.items frames_of last_frame free (room w) t x)
      by_end y same sees (inl r) =
          let lacking : Lacking w x.shown (Go r.entered) =
          subst (Lacking w x.shown) r.next (subst (Sees x.shown) r.is sees) in
          inr (
            r.reads,
            record {
              many = r.many;
              entered = r.entered;
              comes = r.comes;
              output = shows_output (N w) (λ u. refl) (steps (N w) s m)
                  ∙ ap (λ (world : WorldState). world.output) lacking.world;
              place = lacking.place;
              number = lacking.number;
              there = lacking.there;
              beyond = r.beyond;
              left = lacking.left;
            },
          )
      by_end y same sees (inr r) =
          inl (record { many = r.many; ended = r.ended; output = same ∙ r.output })
