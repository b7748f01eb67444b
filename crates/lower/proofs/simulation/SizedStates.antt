-- Related states have few frames: of the run over words no more procedures wait than frames of the numbered procedures,
-- and one.
use Rattle.std.proofs.Common.{inl, inr, ℕ, suc, ◌+◌, ◌*◌, ◌≤◌, List, [], ◌∷◌, length, ap, arith, le_refl}
use Rattle.std.specs.Prelude.{max}
use Rattle.grift_base.specs.Types.{TypeRow}
use Rattle.low_ir.specs.Procedures.{Code}
use Rattle.low_ir.specs.Steps.{Locals}
use Rattle.low_ir.specs.Run.{Setting, Active, Waiting as LowWaiting, LowState, held_by}
use Rattle.coercion_norm.specs.Held.{Layout}
use Rattle.coercion_norm.specs.Objects.{Object}
use Rattle.cast_modes.specs.ValueSteps.{CastFrame, ProjFrame, PrimFrame, EnterFrame, OwnFrame, Own, Return, Entering}
use Rattle.cast_modes.specs.ValueSteps.{casts_onto}
use Rattle.flat_ir.specs.Bodies.{Proc}
use Rattle.flat_ir.specs.Machine.{FlatFrame, FlatFocus, FlatState, Group, Inside, Waiting}
use Rattle.low_ir.specs.Frames.{frame_room, waiting_room, stack_room}
use Rattle.lowered_code.specs.declared.numbering.Shape.{Shape}
use Rattle.lowered_code.specs.declared.served.Served.{Served}
use Rattle.lowered_code.specs.Emit.{Then, ToCaller, Into}
use Rattle.lower.specs.Meanings.{Meaning}
use Rattle.lower.specs.Relation.{Rest, Callers, Goes, Related}
use Rattle.lower.proofs.words.Stops.{Sized, WaitingSized, frame_most}

-- ---- what is shown of frames is no more than the room that they are counted with

all_held : (count held frames waiting : ℕ) → frames + held ≤ waiting
    → (suc frames) + (count + held) ≤ (1 + max 24 count) + waiting
all_held count held frames waiting le = omega (arith, le)

waiting_held : (ws : List LowWaiting) → length ws + held_by ws ≤ waiting_room ws
waiting_held [] = omega arith
waiting_held (w ∷ ws) = all_held w.rest.count (held_by ws) (length ws) (waiting_room ws) (waiting_held ws)

pub shown_room : (t : LowState) → (length t.waiting + 1) + (t.active.count + held_by t.waiting) ≤ stack_room t
shown_room t = let z = waiting_held t.waiting in omega (arith, z)

-- ---- the room of so many frames

one_more : (first room frames each : ℕ) → first ≤ each → room ≤ frames * each → first + room ≤ suc frames * each
one_more first room frames each le z = grind arith

waiting_most : (most : ℕ) (ws : List LowWaiting) → WaitingSized most ws → waiting_room ws
    ≤ length ws * frame_room most
waiting_most most [] h = omega arith
waiting_most most (w ∷ ws) h =
    one_more (frame_room w.rest.count) (waiting_room ws) (length ws) (frame_room most)
    (frame_most w.rest.count most h.0) (waiting_most most ws h.1)

within_many : (n m each room : ℕ) → room ≤ n * each → n ≤ m → room ≤ m * each
within_many n m each room le few = grind arith

-- ---- few procedures wait: no more than frames of the numbered procedures, and one

casts_long : {C : Type 0} (casts : List C) (base : List (FlatFrame C)) → length base ≤ length (casts_onto casts base)
casts_long [] base = le_refl (length base)
casts_long (cast ∷ casts) base = let z = casts_long casts base in omega (arith, z)

module _ (setting : Setting) (l : Layout) (run : Served) (procs : List Proc) (answer : TypeRow)
    (meaning : Meaning) (places : List ℕ) (objects : List Object) where
  abbrev RestFor : (List (FlatFrame meaning.Cast) → Type 0) → Shape → ℕ → ℕ → Group meaning.Cast → ℕ
      → List (FlatFrame meaning.Cast) → Then → List Code → Locals → Type 0
  RestFor = Rest setting l run procs answer meaning places objects

  abbrev CallersFor : List LowWaiting → List (FlatFrame meaning.Cast) → Type 0
  CallersFor = Callers setting l run procs answer meaning places objects

  -- n procedures are no more than the frames of the callers, and one: then they are no more than these with those of
  -- the bodies before them
  rest_few : (n : ℕ) (P : List (FlatFrame meaning.Cast) → Type 0)
      → ((frames : List (FlatFrame meaning.Cast)) → P frames → n ≤ length frames + 1) → (s : Shape) (count size : ℕ)
      (group : Group meaning.Cast) (depth : ℕ) (frames : List (FlatFrame meaning.Cast)) (next : Then)
      (rests : List Code) (words : Locals) → RestFor P s count size group depth frames next rests words
      → n ≤ length frames + 1
  rest_few n P few s count size group depth frames ToCaller rests words r = few frames r
  rest_few n P few s count size group depth [] (Into d k) rests words r = absurd r
  rest_few n P few s count size group depth (OwnFrame (Waiting slot rest locals other) ∷ frames) (Into d k) rests words
      r =
      let z = rest_few n P few s count size group slot frames r.1 r.2 words r.5 in omega (arith, z)
  rest_few n P few s count size group depth (CastFrame c ∷ frames) (Into d k) rests words r = absurd r
  rest_few n P few s count size group depth (ProjFrame i ∷ frames) (Into d k) rests words r = absurd r
  rest_few n P few s count size group depth (PrimFrame op done ∷ frames) (Into d k) rests words r = absurd r
  rest_few n P few s count size group depth (EnterFrame f done todo ∷ frames) (Into d k) rests words r = absurd r

  -- where a value is given to a word, a body waits for it
  into_few : (n : ℕ) (P : List (FlatFrame meaning.Cast) → Type 0)
      → ((frames : List (FlatFrame meaning.Cast)) → P frames → n ≤ length frames + 1) → (s : Shape) (count size : ℕ)
      (group : Group meaning.Cast) (depth : ℕ) (frames : List (FlatFrame meaning.Cast)) (d : ℕ) (k : Code)
      (rests : List Code) (words : Locals) → RestFor P s count size group depth frames (Into d k) rests words
      → suc n ≤ length frames + 1
  into_few n P few s count size group depth [] d k rests words r = absurd r
  into_few n P few s count size group depth (OwnFrame (Waiting slot rest locals other) ∷ frames) d k rests words r =
      let z = rest_few n P few s count size group slot frames r.1 r.2 words r.5 in omega (arith, z)
  into_few n P few s count size group depth (CastFrame c ∷ frames) d k rests words r = absurd r
  into_few n P few s count size group depth (ProjFrame i ∷ frames) d k rests words r = absurd r
  into_few n P few s count size group depth (PrimFrame op done ∷ frames) d k rests words r = absurd r
  into_few n P few s count size group depth (EnterFrame f done todo ∷ frames) d k rests words r = absurd r

  callers_few : (ws : List LowWaiting) (frames : List (FlatFrame meaning.Cast)) → CallersFor ws frames
      → length ws ≤ length frames + 1
  callers_few [] frames c = absurd c
  callers_few (w ∷ ws) frames (inl e) = let z = ap length e.1 in omega (arith, z)
  callers_few (w ∷ ws) frames (inr (inl r)) =
      into_few (length ws) (CallersFor ws) (λ fs c. callers_few ws fs c) r.0 r.1 w.rest.count r.2 r.3 frames w.answer
      w.rest.code w.rest.rests w.rest.locals r.4
  callers_few (w ∷ ws) frames (inr (inr r)) =
      let z = callers_few ws r.2 r.5 in
      let e = ap length r.3 in let c = casts_long r.1 r.2 in omega (arith, z, e, c)

  goes_few : (due : ℕ) (focus : FlatFocus meaning.Cast) (frames : List (FlatFrame meaning.Cast)) (active : Active)
      (waiting : List LowWaiting)
      → Goes setting l run procs answer meaning places objects due focus frames active waiting
      → length waiting ≤ length frames + 1
  goes_few due (Own (Inside body locals group)) frames active waiting g =
      rest_few (length waiting) (CallersFor waiting) (λ fs c. callers_few waiting fs c) g.s g.count active.count group
      g.depth frames g.next active.rests active.locals g.rest
  goes_few due (Return v) frames active waiting (inl g) =
      rest_few (length waiting) (CallersFor waiting) (λ fs c. callers_few waiting fs c) g.s g.count active.count g.group
      g.depth frames (Into g.d active.code) active.rests active.locals g.rest
  goes_few due (Return v) frames active waiting (inr g) = callers_few waiting frames g.0.callers
  goes_few due (Entering f done todo) frames active waiting g =
      rest_few (length waiting) (CallersFor waiting) (λ fs c. callers_few waiting fs c) g.runs.s g.runs.count
      active.count g.group g.runs.depth frames g.runs.next active.rests active.locals g.runs.rest

module _ (setting : Setting) (l : Layout) (run : Served) (procs : List Proc) (answer : TypeRow)
    (meaning : Meaning) where
  -- where no procedure has more than so many words, frames take no more room than these
  pub related_room : (most : ℕ) (f : FlatState meaning.Cast) (number due : ℕ) (t : LowState)
      → Related setting l run procs answer meaning f number due t → Sized most t
      → stack_room t ≤ (length f.frames + 2) * frame_room most
  related_room most f number due t r sized =
      let few = goes_few setting l run procs answer meaning r.places r.objects due f.focus f.frames t.active t.waiting
      r.goes in
      let room = one_more (frame_room t.active.count) (waiting_room t.waiting) (length t.waiting) (frame_room most)
      (frame_most t.active.count most sized.active) (waiting_most most t.waiting sized.waiting) in
      within_many (suc (length t.waiting)) (length f.frames + 2) (frame_room most) (stack_room t) room
      (omega (arith, few))
