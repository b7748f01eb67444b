-- A value is given to what waits for it.
use Rattle.std.proofs.Common.{◌≡◌, inl, inr, ℕ, suc, ◌+◌, ◌<◌, ◌≤◌, List, [], ◌∷◌, Some, None}
use Rattle.std.proofs.Common.{refl, ◌∙◌, arith, le_refl, false}
use Rattle.low_ir.specs.declared.code.LowSource.TheVariants.{Word}
use Rattle.low_ir.specs.Procedures.{Code, Return as ReturnCode}
use Rattle.low_ir.specs.Steps.{Locals}
use Rattle.low_ir.specs.Run.{Waiting as LowWaiting}
use Rattle.cast_modes.specs.ValueSteps.{CastFrame, ProjFrame, PrimFrame, EnterFrame, OwnFrame, Return}
use Rattle.flat_ir.specs.Bodies.{Body, Give, Call, Choose, LetBody, LetGroup}
use Rattle.flat_ir.specs.Machine.{FlatValue, FlatFrame, Group, Waiting}
use Rattle.flat_ir.specs.Levels.{levels}
use Rattle.coercion_norm.specs.Objects.{Object}
use Rattle.lowered_code.specs.declared.numbering.Shape.{Shape}
use Rattle.lowered_code.specs.Numbering.{test_word}
use Rattle.lowered_code.specs.Emit.{Then, ToCaller, Into}
use Rattle.lower.specs.Relation.{Carried, Rest, Callers, Gave, Goes}
use Rattle.lower.proofs.simulation.RelationKept.{rest_same, waits_so, OwnName, LowName, HighName, SameNamed}
use Rattle.lower.proofs.simulation.RelationKept.{local_high}
use Rattle.lower.proofs.words.Operations.{Touches}
use Rattle.lower.specs.Meanings.{is_last}
use Rattle.low_ir.specs.Prices.{code_price}
use Rattle.flat_ir.specs.Machine.{FlatState, FlatFocus}
use Rattle.lower.specs.Storage.{Filled}
use Rattle.lower.specs.CarriedValues.{CellsHeld}
use Rattle.rt_cast.specs.States.{Heap}
use Rattle.lower.proofs.words.Steps.{at}
use Rattle.lower.proofs.simulation.Way.{Program, Live, budget_of}

-- a body has no names below the level at which it stands
pub levels_above : (depth : ℕ) (body : Body) → depth ≤ levels depth body
levels_above depth (Give operation) = le_refl depth
levels_above depth (Call f os) = le_refl depth
levels_above depth (Choose o a b) = let z = levels_above depth a in omega (arith, z)
levels_above depth (LetBody slot inner rest) = let z = levels_above depth inner in omega (arith, z)
levels_above depth (LetGroup slot first count captured rest) =
    let z = levels_above (depth + count) rest in omega (arith, z)

module _ (program : Program) (places : List ℕ) (objects : List Object) where
  abbrev pub CarriedHere : FlatValue program.meaning.Cast → ℕ → Type 0
  CarriedHere v w =
      Carried program.setting program.l program.run program.procs program.answer program.meaning places objects v w

  abbrev pub CallersHere : List LowWaiting → List (FlatFrame program.meaning.Cast) → Type 0
  CallersHere waiting frames =
      Callers program.setting program.l program.run program.procs program.answer program.meaning places
      objects waiting frames

  abbrev pub RestHere : List LowWaiting → Shape → ℕ → ℕ → Group program.meaning.Cast → ℕ
      → List (FlatFrame program.meaning.Cast) → Then
      → List Code → Locals → Type 0
  RestHere waiting s count size group depth frames next rests words =
      Rest program.setting program.l program.run program.procs program.answer program.meaning places objects
      (CallersHere waiting) s count size group depth frames next rests words

  abbrev pub GoesHere : ℕ → FlatFocus program.meaning.Cast → List (FlatFrame program.meaning.Cast) → List LowWaiting
      → ℕ → List Code → Locals → Code → Type 0
  GoesHere due focus frames waiting size rests words code =
      Goes program.setting program.l program.run program.procs program.answer program.meaning places objects due focus
      frames (record { count = size; locals = words; code = code; rests = rests }) waiting

  -- both go on, where what is next goes with the active procedure
  pub living : (h : Heap) (f : FlatState program.meaning.Cast) → f.ended ≡ None
      → Filled program.meaning program.setting program.l program.number objects h
      → CellsHeld program.l program.setting.address program.procs program.meaning places objects h.memory places f.store
      → (waiting : List LowWaiting) (size : ℕ) (rests : List Code) (words : Locals) (code : Code) (due : ℕ)
      → GoesHere due f.focus f.frames waiting size rests words code
      → Live program f due (at f.world h waiting size rests words code)
  living h f is filled cells waiting size rests words code due goes = record {
    is = is;
    related = record {
      places = places;
      objects = objects;
      filled = filled;
      cells = cells;
      world = refl;
      goes = goes;
    };
  }

  -- a word that takes a value is one of the procedure
  pub word_fits : (waiting : List LowWaiting) (s : Shape) (count size : ℕ) (group : Group program.meaning.Cast)
      (depth : ℕ)
      (frames : List (FlatFrame program.meaning.Cast)) (d : ℕ) (k : Code) (rests : List Code) (words : Locals)
      → RestHere waiting s count size group depth frames (Into d k) rests words → d < size
  word_fits waiting s count size group depth [] d k rests words r = absurd r
  word_fits waiting s count size group depth (OwnFrame (Waiting slot rest locals other) ∷ frames) d k rests words r =
      let high = local_high s slot r.0.params in
      let above = levels_above (suc slot) rest in
      let e = r.0.word in
      let room = r.0.room in
      omega (arith, e, high, above, room)
  word_fits waiting s count size group depth (CastFrame c ∷ frames) d k rests words r = absurd r
  word_fits waiting s count size group depth (ProjFrame i ∷ frames) d k rests words r = absurd r
  word_fits waiting s count size group depth (PrimFrame op done ∷ frames) d k rests words r = absurd r
  word_fits waiting s count size group depth (EnterFrame f done todo ∷ frames) d k rests words r = absurd r

  -- a value was put into the word that takes it
  pub put_in : (waiting : List LowWaiting) (s : Shape) (count size : ℕ) (group : Group program.meaning.Cast) (depth : ℕ)
      (frames : List (FlatFrame program.meaning.Cast)) (d : ℕ) (k : Code) (rests : List Code) (words new : Locals)
      (v : FlatValue program.meaning.Cast) (w : ℕ) → RestHere waiting s count size group depth frames (Into d k) rests
      words
      → CarriedHere v w → new d ≡ Some w → Touches s d words new
      → Gave program.setting program.l program.run program.procs program.answer program.meaning places objects v frames
      (record { count = size; locals = new; code = k; rests = rests }) waiting
  put_in waiting s count size group depth [] d k rests words new v w r c e touches = absurd r
  put_in waiting s count size group depth (OwnFrame (Waiting slot rest locals other) ∷ frames) d k rests words new v w r
      c e touches =
      record {
        s = s;
        count = count;
        group = group;
        depth = slot;
        d = d;
        w = w;
        is = e;
        carried = c;
        rest =
            rest_same program.setting program.l program.run program.procs program.answer program.meaning program.laws
            places objects
            (CallersHere waiting) s count size group slot (OwnFrame (Waiting slot rest locals other) ∷ frames)
            (Into d k) rests words new same (
              waits_so program.setting program.l program.run program.procs program.answer program.meaning places places
                  objects objects slot words (le_refl slot) r.0.knows r.0,
              r.1,
              r.2,
              r.3,
              r.4,
              r.5,
            );
      }
    where
      d_is : d ≡ slot + 10
      d_is = r.0.word ∙ local_high s slot r.0.params

      same : SameNamed s slot words new
      same j (OwnName p) = touches j (λ z. omega (arith, z, p, d_is)) (inl (omega (arith, p)))
      same j (LowName p q) = touches j (λ z. let a = r.0.params in omega (arith, z, q, d_is, a)) (inl q)
      same j (HighName p q) = touches j (λ z. omega (arith, z, q, d_is)) (inr p)
  put_in waiting s count size group depth (CastFrame c' ∷ frames) d k rests words new v w r c e touches = absurd r
  put_in waiting s count size group depth (ProjFrame i ∷ frames) d k rests words new v w r c e touches = absurd r
  put_in waiting s count size group depth (PrimFrame op done ∷ frames) d k rests words new v w r c e touches = absurd r
  put_in waiting s count size group depth (EnterFrame f done todo ∷ frames) d k rests words new v w r c e touches =
      absurd r

  -- the word that takes a value, and the code behind it
  abbrev pub word_for : Shape → Then → ℕ
  word_for s ToCaller = test_word s
  word_for s (Into d k) = d

  abbrev pub code_for : Shape → Then → Code
  code_for s ToCaller = ReturnCode (Word (test_word s))
  code_for s (Into d k) = k

  -- what is due where it goes
  abbrev pub due_for : Then → ℕ
  due_for ToCaller = 28
  due_for (Into d k) = 0

  -- a code's price, with what is due behind it, is within the budget of the turn from f
  pub record Fitting (f : FlatState program.meaning.Cast) (s : Shape) (size : ℕ) (next : Then) (code : Code)
      : Type 0 where
    pub begins : is_last code ≡ false
    pub paid : code_price program.setting.procs size code + due_for next
        ≤ code_price program.setting.procs size (code_for s next) + budget_of program f

  pub given : (waiting : List LowWaiting) (s : Shape) (count size : ℕ) (group : Group program.meaning.Cast) (depth : ℕ)
      (frames : List (FlatFrame program.meaning.Cast)) (next : Then) (rests : List Code) (words new : Locals)
      (v : FlatValue program.meaning.Cast) (w : ℕ) → RestHere waiting s count size group depth frames next rests words
      → CarriedHere v w → new (word_for s next) ≡ Some w → Touches s (word_for s next) words new
      → GoesHere (due_for next) (Return v) frames waiting size rests new (code_for s next)
  given waiting s count size group depth frames ToCaller rests words new v w r c e touches =
      inr (record { source = Word (test_word s); w = w; code = refl; is = e; carried = c; callers = r }, le_refl 28)
  given waiting s count size group depth frames (Into d k) rests words new v w r c e touches =
      inl (put_in waiting s count size group depth frames d k rests words new v w r c e touches)
