-- Which state of the procedures over words goes with which state of the numbered procedures. One active procedure over
-- words stands for a body and for the bodies around it that wait in the same procedure.
use Rattle.std.specs.Prelude.{◌≡◌, ◌⊎◌, ℕ, zero, suc, ◌+◌, ◌<◌, ◌≤◌, true, List, [], ◌∷◌, Some, length}
use Rattle.grift_base.specs.Types.{TypeRow}
use Rattle.low_ir.specs.declared.code.LowSource.{LowSource}
use Rattle.low_ir.specs.Procedures.{Code, Done, Return as ReturnCode}
use Rattle.low_ir.specs.Steps.{Locals, no_locals}
use Rattle.low_ir.specs.Run.{Setting, Active, Waiting as LowWaiting, LowState, word_of}
use Rattle.cast_modes.specs.RunValues.{Pending}
use Rattle.cast_modes.specs.ValueSteps.{CastFrame, ProjFrame, PrimFrame, EnterFrame, OwnFrame, Own, Return, Entering}
use Rattle.cast_modes.specs.ValueSteps.{onto, casts_onto}
use Rattle.flat_ir.specs.declared.code.Operand.{Operand}
use Rattle.flat_ir.specs.Bodies.{Body, Call, Proc}
use Rattle.flat_ir.specs.Closed.{body_bound}
use Rattle.flat_ir.specs.Machine.{FlatCode, FlatValue, FlatFrame, FlatFocus, FlatState, Group, Locals as FlatLocals}
use Rattle.flat_ir.specs.Machine.{Inside, Waiting, value, values}
use Rattle.flat_ir.specs.Levels.{levels}
use Rattle.coercion_norm.specs.Objects.{Object}
use Rattle.coercion_norm.specs.Held.{Layout}
use Rattle.lower.specs.Meanings.{Meaning}
use Rattle.rt_cast.specs.States.{heap_of}
use Rattle.lower.specs.Storage.{Filled}
use Rattle.lowered_code.specs.declared.numbering.Shape.{Shape}
use Rattle.lowered_code.specs.declared.served.Served.{Served}
use Rattle.lowered_code.specs.Numbering.{own_word, local_word, function_offset}
use Rattle.lowered_code.specs.Emit.{Then, ToCaller, Into, emit}
use Rattle.lowered_code.specs.Lowered.{show_by}
use Rattle.lower.specs.CarriedValues.{IsGroup, IsCarried, AreCarried, CellsHeld}

-- done so often, a code and what stands behind the branches around it come to another code and what is left there
abbrev pub Falls : ℕ → Code → List Code → Code → List Code → Type 0
Falls zero k rests k' rests' = (k ≡ k') × (rests ≡ rests')
Falls (suc n) k [] k' rests' = ⊥
Falls (suc n) k (r ∷ rests) k' rests' = (k ≡ Done) × Falls n r rests k' rests'

-- the values of arguments whose casts are still to be made
abbrev pub pending_values : {C : Type 0} → List (Pending C FlatCode) → List (FlatValue C)
pending_values [] = []
pending_values (p ∷ todo) = p.value ∷ pending_values todo

-- no casts are to be made
abbrev pub NoCasts : {C : Type 0} → List (Pending C FlatCode) → Type 0
NoCasts [] = Unit {0}
NoCasts (p ∷ todo) = (p.casts ≡ []) × NoCasts todo

-- the procedure that a program begins with waits for the answer of the numbered one, which is shown by this row
abbrev pub entry_waiting : TypeRow → LowWaiting
entry_waiting answer = record {
  rest = record { count = 3; locals = no_locals; code = show_by answer; rests = [] };
  answer = 0;
}

module _ (setting : Setting) (l : Layout) (run : Served) (procs : List Proc) (answer : TypeRow)
    (meaning : Meaning) where
  module _ (places : List ℕ) (objects : List Object) where
    abbrev pub Carried : FlatValue meaning.Cast → ℕ → Type 0
    Carried v w = IsCarried l setting.address procs meaning places objects v w

    -- the word is the address of the function of a group that runs: the one at the place of the shape
    pub record OwnGroup (s : Shape) (count : ℕ) (group : Group meaning.Cast) (own : ℕ) : Type 0 where
      pub leader : ℕ
      pub words : List ℕ
      pub is : own ≡ leader + function_offset (length words) s.place
      pub long : s.captured ≡ length words
      pub inside : s.place < count
      pub stands : IsGroup l setting.address procs meaning places objects group.first leader count words
      pub carried : AreCarried l setting.address procs meaning places objects group.captured words

    -- the words of an active procedure carry the values of its names below a level
    pub record Knows (s : Shape) (count : ℕ) (group : Group meaning.Cast) (depth : ℕ) (locals : FlatLocals meaning.Cast)
        (words : Locals) : Type 0 where
      pub own : ℕ
      pub own_is : words own_word ≡ Some own
      pub own_group : ((s.captured ≡ 0) × (count ≡ 0)) ⊎ OwnGroup s count group own
      pub local : (i : ℕ) → i < depth → (w : ℕ) × (words (local_word s i) ≡ Some w) × Carried (locals i) w

    -- of a body: it is bound at a level, the procedure over words has room for its names, and the words know them
    pub record Fits (s : Shape) (count size : ℕ) (group : Group meaning.Cast) (depth : ℕ)
        (locals : FlatLocals meaning.Cast)
        (words : Locals) (body : Body) : Type 0 where
      pub bound : body_bound procs s.captured count depth body ≡ true
      pub params : s.params ≤ depth
      pub few : s.params ≤ 6
      pub room : levels depth body + 10 ≤ size
      pub knows : Knows s count group depth locals words

    -- a body waits for the value that is put into a word
    pub record Waits (s : Shape) (count size : ℕ) (group : Group meaning.Cast) (depth slot : ℕ) (rest : Body)
        (locals : FlatLocals meaning.Cast) (other : Group meaning.Cast) (d : ℕ) (words : Locals) : Type 0 where
      pub params : s.params ≤ slot
      pub few : s.params ≤ 6
      pub deep : slot ≤ depth
      pub word : d ≡ local_word s slot
      pub same : other ≡ group
      pub bound : body_bound procs s.captured count (suc slot) rest ≡ true
      pub room : levels (suc slot) rest + 10 ≤ size
      pub knows : Knows s count group slot locals words

    -- what stands behind the place where a value goes gives it to the bodies that wait for it; told what is to hold of
    -- those of the callers
    abbrev pub Rest : (List (FlatFrame meaning.Cast) → Type 0) → Shape → ℕ → ℕ → Group meaning.Cast → ℕ
        → List (FlatFrame meaning.Cast) → Then → List Code → Locals → Type 0
    Rest P s count size group depth frames ToCaller rests words = P frames
    Rest P s count size group depth [] (Into d k) rests words = ⊥
    Rest P s count size group depth (OwnFrame (Waiting slot rest locals other) ∷ frames) (Into d k) rests words =
        Waits s count size group depth slot rest locals other d words
        × (next : Then) × (rests' : List Code) × (n : ℕ) × Falls n k rests (emit run s rest next) rests'
        × Rest P s count size group slot frames next rests' words
    Rest P s count size group depth (CastFrame c ∷ frames) (Into d k) rests words = ⊥
    Rest P s count size group depth (ProjFrame i ∷ frames) (Into d k) rests words = ⊥
    Rest P s count size group depth (PrimFrame op done ∷ frames) (Into d k) rests words = ⊥
    Rest P s count size group depth (EnterFrame f done todo ∷ frames) (Into d k) rests words = ⊥

    -- the procedures over words that wait stand for the bodies that wait, and for the casts of what a function in
    -- wrappers gives; last of all waits the one that the program begins with
    abbrev pub Callers : List LowWaiting → List (FlatFrame meaning.Cast) → Type 0
    Callers [] frames = ⊥
    Callers (w ∷ ws) frames =
        ((frames ≡ []) × (ws ≡ []) × (w ≡ entry_waiting answer))
        ⊎ (((s : Shape) × (count : ℕ) × (group : Group meaning.Cast) × (depth : ℕ)
        × Rest (Callers ws) s count w.rest.count group depth frames (Into w.answer w.rest.code) w.rest.rests
        w.rest.locals)
        ⊎ ((cast : meaning.Cast) × (casts : List meaning.Cast) × (base : List (FlatFrame meaning.Cast))
        × (frames ≡ CastFrame cast ∷ casts_onto casts base) × meaning.Resumes setting l objects w (cast ∷ casts)
        × Callers ws base))

    -- the code of a body runs
    pub record Runs (body : Body) (locals : FlatLocals meaning.Cast) (group : Group meaning.Cast)
        (frames : List (FlatFrame meaning.Cast)) (active : Active) (waiting : List LowWaiting) : Type 0 where
      pub s : Shape
      pub count : ℕ
      pub depth : ℕ
      pub next : Then
      pub is : active.code ≡ emit run s body next
      pub fits : Fits s count active.count group depth locals active.locals body
      pub rest : Rest (Callers waiting) s count active.count group depth frames next active.rests active.locals

    -- a value was put into a word
    pub record Gave (v : FlatValue meaning.Cast) (frames : List (FlatFrame meaning.Cast)) (active : Active)
        (waiting : List LowWaiting) : Type 0 where
      pub s : Shape
      pub count : ℕ
      pub group : Group meaning.Cast
      pub depth : ℕ
      pub d : ℕ
      pub w : ℕ
      pub is : active.locals d ≡ Some w
      pub carried : Carried v w
      pub rest : Rest (Callers waiting) s count active.count group depth frames (Into d active.code) active.rests
          active.locals

    -- a value is about to be returned
    pub record Gives (v : FlatValue meaning.Cast) (frames : List (FlatFrame meaning.Cast)) (active : Active)
        (waiting : List LowWaiting) : Type 0 where
      pub source : LowSource
      pub w : ℕ
      pub code : active.code ≡ ReturnCode source
      pub is : word_of active.locals source ≡ Some w
      pub carried : Carried v w
      pub callers : Callers waiting frames

    -- the arguments of a call are gone over, and no casts wait for them
    pub record Enters (f : FlatValue meaning.Cast) (done : List (FlatValue meaning.Cast))
        (todo : List (Pending meaning.Cast FlatCode)) (frames : List (FlatFrame meaning.Cast)) (active : Active)
        (waiting : List LowWaiting) : Type 0 where
      pub operand : Operand
      pub operands : List Operand
      pub locals : FlatLocals meaning.Cast
      pub group : Group meaning.Cast
      pub runs : Runs (Call operand operands) locals group frames active waiting
      pub function : value locals group operand ≡ f
      pub arguments : onto done (pending_values todo) ≡ values locals group operands
      pub plain : NoCasts todo

    -- of a return that is next so much is still to be paid
    abbrev pub Goes : ℕ → FlatFocus meaning.Cast → List (FlatFrame meaning.Cast) → Active → List LowWaiting → Type 0
    Goes due (Own (Inside body locals group)) frames active waiting = Runs body locals group frames active waiting
    Goes due (Return v) frames active waiting =
        Gave v frames active waiting ⊎ (Gives v frames active waiting × (28 ≤ due))
    Goes due (Entering f done todo) frames active waiting = Enters f done todo frames active waiting

  -- two states that both go on, after so many wrap steps, where so much is due for a return
  pub record Related (f : FlatState meaning.Cast) (number due : ℕ) (t : LowState) : Type 0 where
    pub places : List ℕ
    pub objects : List Object
    pub filled : Filled meaning setting l number objects (heap_of t)
    pub cells : CellsHeld l setting.address procs meaning places objects t.memory places f.store
    pub world : t.world ≡ f.world
    pub goes : Goes places objects due f.focus f.frames t.active t.waiting
