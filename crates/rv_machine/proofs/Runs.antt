-- Runs, one turn after another.
use Rattle.std.proofs.Common.{ℕ, zero, suc, ◌+◌, ◌-◌, ◌<◌, ◌≤◌, ◌≡◌, Option, Some, None, refl, sym, ◌∙◌, ap, arith}
use Rattle.rv_machine.specs.State.{State, Turn, Next, Stops}
use Rattle.machine_words.specs.Halts.{Halt}
use Rattle.rv_machine.specs.Turn.{turn_of}
use Rattle.rv_machine.specs.Mach.{onward, run_of, step_of, machine, moment_of}
use Rattle.run_laws.specs.Machines.{run, seen, and_then, steps}

-- more turns after a run that goes on
then_turn : (f g : State → State × Option Halt) (s t : State) (o : State × Option Halt) (turn : Turn) →
    ((u : State) → f u ≡ (t, None) → g u ≡ o) → onward f s turn ≡ (t, None) → onward g s turn ≡ o
then_turn f g s t o (Next u) h e = h u e
then_turn f g s t o (Stops halt) h e =
    let d : ◌≡◌ {A = Option Halt} (Some halt) None = ap (λ (p : State × Option Halt). p.1) e in cc

pub later_turns_go_on_from_earlier_ones : (n m : ℕ) (s t : State) → run_of n s ≡ (t, None) →
    run_of (n + m) s ≡ run_of m t
unfolding run_of
later_turns_go_on_from_earlier_ones zero m s t e =
    let z : 0 + m ≡ m = omega arith in
    let f : s ≡ t = ap (λ p. p.0) e in
    rw (z, f)
later_turns_go_on_from_earlier_ones (suc n) m s t e =
    let z : suc n + m ≡ suc (n + m) = omega arith in
    rw z (then_turn (run_of n) (run_of (n + m)) s t (run_of m t) (turn_of s)
    (λ u d. later_turns_go_on_from_earlier_ones n m u t d) e)

pub run_none : (s : State) → run_of 0 s ≡ (s, None)
unfolding run_of
run_none s = refl

pub one_turn : (s t : State) → turn_of s ≡ Next t → run_of 1 s ≡ (t, None)
unfolding run_of
one_turn s t e = ap (onward (run_of 0) s) e

last_turn : (k : ℕ) (s : State) (halt : Halt) → turn_of s ≡ Stops halt → run_of (suc k) s ≡ (s, Some halt)
unfolding run_of
last_turn k s halt e = ap (onward (run_of k) s) e

-- one turn more
pub run_more : (n : ℕ) (s t u : State) → run_of n s ≡ (t, None) → turn_of t ≡ Next u → run_of (n + 1) s ≡ (u, None)
run_more n s t u e h = later_turns_go_on_from_earlier_ones n 1 s t e ∙ one_turn t u h

-- a turn that stops ends every longer run
pub run_stops : (n m : ℕ) (s t : State) (halt : Halt) → run_of n s ≡ (t, None) → n < m → turn_of t ≡ Stops halt →
    run_of m s ≡ (t, Some halt)
run_stops n m s t halt e l h =
    let z : m ≡ n + suc (m - n - 1) = omega arith in
    rw z (later_turns_go_on_from_earlier_ones n (suc (m - n - 1)) s t e ∙ last_turn (m - n - 1) t halt h)

-- what has stopped stays
stay_on : (n m : ℕ) (s t : State) (halt : Halt) (turn : Turn) →
    ((u : State) → run_of n u ≡ (t, Some halt) → run_of m u ≡ (t, Some halt)) →
    onward (run_of n) s turn ≡ (t, Some halt) → onward (run_of m) s turn ≡ (t, Some halt)
stay_on n m s t halt (Next u) ih e = ih u e
stay_on n m s t halt (Stops h) ih e = e

pub what_has_stopped_stays-stays : (n m : ℕ) (s t : State) (halt : Halt) → n ≤ m → run_of n s ≡ (t, Some halt) →
    run_of m s ≡ (t, Some halt)
unfolding run_of
what_has_stopped_stays-stays zero m s t halt le e =
    let d : ◌≡◌ {A = Option Halt} None (Some halt) = ap (λ (p : State × Option Halt). p.1) e in absurd
    (let f : ⊥ = cc in f)
what_has_stopped_stays-stays (suc n) zero s t halt le e = absurd (let f : ⊥ = omega arith in f)
what_has_stopped_stays-stays (suc n) (suc m) s t halt le e =
    stay_on n m s t halt (turn_of s) (λ u h. what_has_stopped_stays-stays n m u t halt (omega arith) h) e

some_inj : (a b : Halt) → ◌≡◌ {A = Option Halt} (Some a) (Some b) → a ≡ b
some_inj a b e = cc

again_on : (n : ℕ) (s t : State) (halt : Halt) (turn : Turn) → turn_of s ≡ turn →
    ((u : State) → run_of n u ≡ (t, Some halt) → turn_of t ≡ Stops halt) → onward (run_of n) s turn ≡ (t, Some halt) →
    turn_of t ≡ Stops halt
again_on n s t halt (Next u) w ih e = ih u e
again_on n s t halt (Stops h) w ih e =
    let same : s ≡ t = ap (λ (p : State × Option Halt). p.0) e in
    let stop : h ≡ halt = some_inj h halt (ap (λ (p : State × Option Halt). p.1) e) in
    ap turn_of (sym same) ∙ w ∙ ap Stops stop

pub what_has_stopped_stays-stops_again : (n : ℕ) (s t : State) (halt : Halt) → run_of n s ≡ (t, Some halt) →
    turn_of t ≡ Stops halt
unfolding run_of
what_has_stopped_stays-stops_again zero s t halt e =
    let d : ◌≡◌ {A = Option Halt} None (Some halt) = ap (λ (p : State × Option Halt). p.1) e in absurd
    (let f : ⊥ = cc in f)
what_has_stopped_stays-stops_again (suc n) s t halt e =
    again_on n s t halt (turn_of s) refl (λ u h. what_has_stopped_stays-stops_again n u t halt h) e

-- the run of the machine
run_on : (n : ℕ) (s : State) (turn : Turn) → ((u : State) → run machine u n ≡ moment_of (run_of n u)) →
    seen machine (and_then (step_of s turn) (λ u. steps machine u n)) ≡ moment_of (onward (run_of n) s turn)
run_on n s (Next u) ih = ih u
run_on n s (Stops halt) ih = refl

pub run_is_its_turns-states : (n : ℕ) (s : State) → run machine s n ≡ moment_of (run_of n s)
unfolding run_of
run_is_its_turns-states zero s = refl
run_is_its_turns-states (suc n) s = run_on n s (turn_of s) (λ u. run_is_its_turns-states n u)
