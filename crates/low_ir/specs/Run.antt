-- The run of a program over words.
use Rattle.std.specs.Prelude.{ℕ, suc, ◌+◌, ◌*◌, ◌%◌, ◌^◌, ◌==◌, ◌&&◌, nat_lt, nat_le, pos, if◌then◌else◌, List}
use Rattle.std.specs.Prelude.{[], ◌∷◌, length, Option, Some, None, slice_get}
use Rattle.std.specs.Int.{w64, cast_signed}
use Rattle.grift_base.specs.World.{WorldState}
use Rattle.grift_base.specs.EnvironmentCall.{environment_call}
use Rattle.grift_base.specs.declared.places.Pos.{Pos}
use Rattle.grift_base.specs.declared.verdicts.AnswerKind.TheVariants.{Int as IntKind}
use Rattle.grift_base.specs.declared.verdicts.Verdict.TheVariants.{Answer}
use Rattle.run_laws.specs.Runs.{Ending, Wrong}
use Rattle.run_laws.specs.Machines.{Next, Go, Stop, Machine}
use Rattle.machine_words.specs.Memory.{Memory, load_bytes, store_bytes}
use Rattle.machine_words.specs.Halts.{Halt, Ended, Lacks, Region}
use Rattle.machine_words.specs.Arithmetic.{plus}
use Rattle.machine_words.specs.Conditions.{holds}
use Rattle.low_ir.specs.declared.code.LowSource.{LowSource}
use Rattle.low_ir.specs.declared.code.LowSource.TheVariants.{Word, Number}
use Rattle.low_ir.specs.Operations.{compute}
use Rattle.low_ir.specs.Procedures.{Code, Done, Set, Compute, Load, Store, CodeOf, Build, Request, Take, Environment}
use Rattle.low_ir.specs.Procedures.{Call}
use Rattle.low_ir.specs.Procedures.{CallAt, If, Return, TailCall, TailCallAt, Proc}
use Rattle.low_ir.specs.Steps.{Locals, no_locals, set_local, given, only_if, effect_of, settle, may_load, may_store}
use Rattle.low_ir.specs.Steps.{store_words}

-- what a run is told: the procedures, the code address of each, the labels, and where the region begins and ends
pub record Setting : Type 0 where
  pub procs : List Proc
  pub address : ℕ → ℕ
  pub labels : List Pos
  pub region : ℕ
  pub top : ℕ

-- a procedure that was entered: how many words it has, those that were set, the code that is left, and what stands
-- behind the branches around it, the nearest first
pub record Active : Type 0 where
  pub count : ℕ
  pub locals : Locals
  pub code : Code
  pub rests : List Code

-- one that waits for the answer of a call, and the word that the answer is put into
pub record Waiting : Type 0 where
  pub rest : Active
  pub answer : ℕ

pub record LowState : Type 0 where
  pub active : Active
  pub waiting : List Waiting
  pub memory : Memory
  -- the allocation word
  pub alloc : ℕ
  pub world : WorldState
  -- the words that were taken so far; where a run has stopped as these find no room, those that it asked for too
  pub words : ℕ

-- what is shown; of the memory what lies below the allocation word is compared
pub record LowShown : Type 0 where
  pub memory : Memory
  pub alloc : ℕ
  pub words : ℕ
  -- how many procedures are active, and the words that all of them have
  pub frames : ℕ
  pub held : ℕ

-- the words of the procedures that wait
abbrev pub held_by : List Waiting → ℕ
held_by [] = 0
held_by (w ∷ ws) = w.rest.count + held_by ws

abbrev pub word_of : Locals → LowSource → Option ℕ
word_of locals (Word i) = locals i
word_of locals (Number n) = Some (n % 2 ^ 64)

-- the words of some sources, if each is set
abbrev pub and_more : {A : Type 0} → Option A → Option (List A) → Option (List A)
and_more None rest = None
and_more (Some x) None = None
and_more (Some x) (Some xs) = Some (x ∷ xs)

abbrev pub words_of : Locals → List LowSource → Option (List ℕ)
words_of locals [] = Some []
words_of locals (a ∷ args) = and_more (word_of locals a) (words_of locals args)

-- an active procedure with a word set
abbrev pub with_local : ℕ → ℕ → Active → Active
with_local d word a = record a { locals = set_local d word a.locals }

-- the words that a procedure takes are set, from a number on
abbrev pub bind : ℕ → List ℕ → Locals → Locals
bind from [] locals = locals
bind from (w ∷ ws) locals = bind (suc from) ws (set_local from w locals)

-- the state in which a procedure was entered with these words
abbrev pub entered : LowState → Proc → List ℕ → LowState
entered s p words =
    record s { active = record { count = p.words; locals = bind 0 words no_locals; code = p.code; rests = [] } }

-- the first procedure from a number on with a code address
abbrev pub proc_from : (ℕ → ℕ) → ℕ → ℕ → List Proc → Option Proc
proc_from address at k [] = None
proc_from address at k (p ∷ ps) = if address k == at then Some p else proc_from address at (suc k) ps

-- a state whose active procedure goes on with a code, behind which these rests stand
abbrev pub goes_on : Code → List Code → LowState → LowState
goes_on code rests s = record s { active = record s.active { code = code; rests = rests } }

-- under a reading of stops as endings
module _ {V : Type 0} (reading : Halt → Ending V) (setting : Setting) where
  abbrev pub sets : ℕ → ℕ → LowState → Next LowState V
  sets d word s = only_if s (nat_lt d s.active.count) (Go (record s { active = with_local d word s.active }))

  -- a procedure is entered with these words
  abbrev pub enter : List ℕ → LowState → Proc → Next LowState V
  enter ws s p =
      only_if s ((length ws == p.params) && (nat_le p.params 8 && nat_le p.params p.words))
      (Go (record s { active = record { count = p.words; locals = bind 0 ws no_locals; code = p.code; rests = [] } }))

  abbrev pub enter_some : Option Proc → List ℕ → LowState → Next LowState V
  enter_some p ws s = given s p (enter ws s)

  abbrev pub waits : ℕ → LowState → LowState
  waits d s = record s { waiting = record { rest = s.active; answer = d } ∷ s.waiting }

  -- the answer goes to the procedure that waits last; where none waits, it is the program's
  abbrev pub answers : List Waiting → ℕ → LowState → Next LowState V
  answers [] word s = Stop (reading (Ended (Answer (record { kind = IntKind; word = cast_signed w64 word })))) s
  answers (w ∷ ws) word s =
      only_if s (nat_lt w.answer w.rest.count)
      (Go (record s { active = with_local w.answer word w.rest; waiting = ws }))

  -- goes on behind the nearest branch
  abbrev pub falls : List Code → LowState → Next LowState V
  falls [] s = Stop Wrong s
  falls (r ∷ rs) s = Go (goes_on r rs s)

  abbrev pub load : ℕ → ℕ → LowState → Next LowState V
  load d at s = only_if s (may_load setting.top at) (sets d (load_bytes 8 s.memory at) s)

  abbrev pub store : ℕ → ℕ → LowState → Next LowState V
  store at word s =
      only_if s (may_store setting.region setting.top at) (Go (record s { memory = store_bytes 8 s.memory at word }))

  -- the region has no room for so many words, which were asked for
  abbrev pub finds_no_room : ℕ → LowState → Next LowState V
  finds_no_room n s = Stop (reading (Lacks Region)) (record s { words = s.words + n })

  -- room for so many words, which are counted where they are taken
  abbrev pub request : ℕ → ℕ → LowState → Next LowState V
  request d n s = if nat_le (s.alloc + 8 * n) setting.top then sets d s.alloc s else finds_no_room n s

  abbrev pub take_words : ℕ → LowState → Next LowState V
  take_words n s =
      only_if s (nat_le (s.alloc + 8 * n) setting.top)
      (Go (record s { alloc = s.alloc + 8 * n; words = s.words + n }))

  -- an object of these words
  abbrev pub build : ℕ → List ℕ → LowState → Next LowState V
  build d ws s =
      only_if s (nat_lt (length ws) 256) (
      if nat_le (s.alloc + 8 * length ws) setting.top
      then sets d s.alloc (record s {
        memory = store_words ws s.alloc s.memory;
        alloc = s.alloc + 8 * length ws;
        words = s.words + length ws;
      })
      else finds_no_room (length ws) s)

  abbrev pub set_both : ℕ → ℕ → LowState → ℕ → ℕ → LowState
  set_both d e s a b = record s { active = with_local e b (with_local d a s.active) }

  abbrev pub call_environment : ℕ → ℕ → ℕ → ℕ → ℕ → LowState → Next LowState V
  call_environment number a b d e s =
      only_if s (nat_lt d s.active.count) (only_if s (nat_lt e s.active.count) (
      let c = environment_call (number % 2 ^ 64) a b (length setting.labels) s.world in
      settle reading (effect_of setting.labels c.effect) s (set_both d e (record s { world = c.world }))))

  -- what a code does; the state's own code is looked at for what stands behind it alone
  abbrev pub code_step : Code → LowState → Next LowState V
  code_step Done s = falls s.active.rests s
  code_step (Set d a rest) s =
      given s (word_of s.active.locals a) (λ x. sets d x (goes_on rest s.active.rests s))
  code_step (Compute op d a b rest) s =
      given s (word_of s.active.locals a) (λ x. given s (word_of s.active.locals b) (λ y.
      sets d (compute op x y) (goes_on rest s.active.rests s)))
  code_step (Load d a offset rest) s =
      given s (word_of s.active.locals a) (λ x. load d (plus x (pos offset)) (goes_on rest s.active.rests s))
  code_step (Store b a offset rest) s =
      given s (word_of s.active.locals a) (λ x. given s (word_of s.active.locals b) (λ y.
      store (plus x (pos offset)) y (goes_on rest s.active.rests s)))
  code_step (CodeOf d k rest) s =
      given s (slice_get setting.procs k) (λ p. sets d (setting.address k) (goes_on rest s.active.rests s))
  code_step (Build d args rest) s =
      given s (words_of s.active.locals args) (λ ws. build d ws (goes_on rest s.active.rests s))
  code_step (Request d a rest) s =
      given s (word_of s.active.locals a) (λ n. request d n (goes_on rest s.active.rests s))
  code_step (Take a rest) s =
      given s (word_of s.active.locals a) (λ n. take_words n (goes_on rest s.active.rests s))
  code_step (Environment number a b d e rest) s =
      given s (word_of s.active.locals a) (λ x. given s (word_of s.active.locals b) (λ y.
      call_environment number x y d e (goes_on rest s.active.rests s)))
  code_step (Call d k args rest) s =
      given s (words_of s.active.locals args) (λ ws.
      enter_some (slice_get setting.procs k) ws (waits d (goes_on rest s.active.rests s)))
  code_step (CallAt d f args rest) s =
      given s (word_of s.active.locals f) (λ at. given s (words_of s.active.locals args) (λ ws.
      enter_some (proc_from setting.address at 0 setting.procs) ws (waits d (goes_on rest s.active.rests s))))
  code_step (If cond a b one other rest) s =
      given s (word_of s.active.locals a) (λ x. given s (word_of s.active.locals b) (λ y.
      Go (goes_on (if holds cond x y then one else other) (rest ∷ s.active.rests) s)))
  code_step (Return a) s = given s (word_of s.active.locals a) (λ x. answers s.waiting x s)
  code_step (TailCall k args) s =
      given s (words_of s.active.locals args) (λ ws. enter_some (slice_get setting.procs k) ws s)
  code_step (TailCallAt f args) s =
      given s (word_of s.active.locals f) (λ at. given s (words_of s.active.locals args) (λ ws.
      enter_some (proc_from setting.address at 0 setting.procs) ws s))

  abbrev pub low_machine : Machine LowState LowShown V
  low_machine = record {
    step = λ s. code_step s.active.code s;
    output = λ s. s.world.output;
    shown = λ s. record {
      memory = s.memory;
      alloc = s.alloc;
      words = s.words;
      frames = length s.waiting + 1;
      held = s.active.count + held_by s.waiting;
    };
  }

-- the turns of a step: one, and one for each word that is handed on or stored
abbrev pub code_turns : Code → ℕ
code_turns (Build d args rest) = 1 + length args
code_turns (Call d k args rest) = 1 + length args
code_turns (CallAt d f args rest) = 1 + length args
code_turns (TailCall k args) = 1 + length args
code_turns (TailCallAt f args) = 1 + length args
code_turns code = 1

abbrev pub low_turns : LowState → ℕ
low_turns s = code_turns s.active.code

-- a procedure that takes no words is entered first
abbrev pub low_start : Setting → Proc → Memory → WorldState → LowState
low_start setting p memory world = record {
  active = record { count = p.words; locals = no_locals; code = p.code; rests = [] };
  waiting = [];
  memory = memory;
  alloc = setting.region;
  world = world;
  words = 0;
}
