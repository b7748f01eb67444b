-- What the image of a closed program over words is to the program, where the virtual registers of its code have places.
use Rattle.std.specs.Prelude.{ℕ, ◌+◌, ◌^◌, ◌<◌, ◌≤◌, ◌≡◌, false, List, length, Some, slice_get}
use Rattle.grift_base.specs.World.{WorldState}
use Rattle.grift_base.specs.declared.environment.TheConstants.{STACK_OUT_CALL}
use Rattle.grift_base.specs.declared.places.Pos.{Pos}
use Rattle.grift_base.specs.declared.verdicts.Verdict.{Verdict as Outcome}
use Rattle.run_laws.specs.Runs.{Ending, Verdict, Exhausted, NeverWrong, FollowsBy, Any}
use Rattle.run_laws.specs.Machines.{Machine, run}
use Rattle.run_laws.specs.Meters.{unspent, metered, each_one, Spends, OfRest}
use Rattle.rv_machine.specs.declared.real.RealItem.{RealItem}
use Rattle.rv_machine.specs.Image.{IsImage, statics_len, code_len}
use Rattle.rv_machine.specs.State.{State}
use Rattle.machine_words.specs.Halts.{Halt, Lacks, Stack}
use Rattle.rv_machine.specs.Start.{start_of, IsRegionSize, IsStackSize}
use Rattle.rv_machine.specs.Mach.{run_of, machine_by}
use Rattle.machine_words.specs.Halts.{IsReading}
use Rattle.rv_machine.specs.Real.{mark_address}
use Rattle.low_ir.specs.Procedures.{Proc}
use Rattle.low_ir.specs.Counting.{any_calls}
use Rattle.low_ir.specs.Prices.{low_price}
use Rattle.low_ir.specs.Run.{LowState, LowShown, low_machine, low_start}
use Rattle.assembler.specs.Assembled.{item_address, IsImageOf}
use Rattle.rv_select.specs.declared.convention.TheConstants.{STACK_POINTER, STACK_END, ALLOCATION, REGION_END}
use Rattle.rv_select.specs.declared.code.Place.{Place}
use Rattle.rv_select.specs.Prices.{start_price}
use Rattle.rv_select.specs.Select.{select_items, registers_of}
use Rattle.rv_select.specs.Stacks.{frame_size, frames_size, low_in_stack}
use Rattle.placed_code.specs.Slotted.{room_in}
pub use Rattle.placed_code.specs.Slotted.{words_setting}
use Rattle.placed_code.specs.Places.{place_in}
use Rattle.placed_code.specs.Applied.{applied}
use Rattle.reg_assign.specs.Room.{IsBest}

-- the real code of procedures, of which the one with this number is called first: that of their virtual code, whose
-- registers have these places
abbrev pub words_code : List Place → List Proc → ℕ → List RealItem
words_code places procs entry = applied (place_in places) (select_items entry procs)

-- the machine's state has the region that the run over words shows: the memory below the allocation word, which is x26;
-- in x25 and x27 stands the region's end. x2 isn't below that, and from it to the stack's end there are no more
-- bytes than frames have that hold all words of the active procedures
pub record HasRegionOf (region_end : ℕ) (s : State) (l : LowShown) : Type 0 where
  pub memory : (at : ℕ) → at < l.alloc → s.memory at ≡ l.memory at
  pub alloc : s.regs ALLOCATION ≡ l.alloc
  pub inside : l.alloc ≤ region_end
  pub stack : s.regs STACK_END ≡ region_end
  pub top : s.regs REGION_END ≡ region_end
  pub above : region_end ≤ s.regs STACK_POINTER
  pub used : s.layout.end ≤ s.regs STACK_POINTER + frames_size l.frames l.held

-- from its start state on the machine follows a run over words of these procedures; it takes no more turns than the
-- prices of the steps of that run add up to, and the price of the start
pub record FollowsWords {V : Type 0} (reading : Halt → Ending V) (procs : List Proc) (Y : Machine LowState LowShown V)
    (start : LowState) (s : State) : Type 0 where
  pub follows : FollowsBy (HasRegionOf (s.regs STACK_END)) Any (run (machine_by reading) s) (run Y start)
  pub turns : FollowsBy (OfRest (HasRegionOf (s.regs STACK_END))) (Spends 1)
      (run (metered each_one (machine_by reading)) (unspent s))
      (run (metered (low_price procs) Y) (record { spent = start_price; rest = start }))
  pub never_wrong : NeverWrong (run (machine_by reading) s)

-- the image runs in a region and a stack that it may be given, and the run over words is told the address of the mark
-- of each procedure
pub record RunsIn (code : List RealItem) (statics : List ℕ) (procs : List Proc) (entry : ℕ) (p : Proc)
    (told : ℕ → ℕ) (region stack : ℕ) : Type 0 where
  pub region_size : IsRegionSize region
  pub stack_size : IsStackSize stack
  pub begins : slice_get procs entry ≡ Some p
  pub tells : (k at : ℕ) → k < length procs → mark_address (item_address code statics) code k ≡ Some at
      → told k ≡ at

-- where the run over words never goes wrong, and want of stack is read as exhausted, the machine follows it
abbrev pub RunsAsProgram : {V : Type 0} → (Halt → Ending V) → List ℕ → List RealItem → List Proc → ℕ → List ℕ → Type 0
RunsAsProgram reading image code procs entry statics =
    reading (Lacks Stack) ≡ Exhausted
    → (p : Proc) (told : ℕ → ℕ) (region stack : ℕ) (world : WorldState)
    → RunsIn code statics procs entry p told region stack
    → let s = start_of image region stack world in
    NeverWrong (run (low_machine reading (words_setting procs told s))
    (low_start (words_setting procs told s) p s.memory s.world))
    → FollowsWords reading procs (low_machine reading (words_setting procs told s))
    (low_start (words_setting procs told s) p s.memory s.world) s

-- Where it never goes wrong, and want of stack is read as a verdict: if the machine lacks stack, so does the run over
-- words in a stack of as many bytes. So the machine stops for want of stack only where frames that hold all words of
-- the active procedures, with that of the one that is entered, don't fit at some moment, or where the program itself
-- makes environment call 6.
abbrev pub LacksWithWords : {V : Type 0} → (Halt → Ending V) → List ℕ → List RealItem → List Proc → ℕ → List ℕ → Type 0
LacksWithWords {V = V} reading image code procs entry statics =
    IsReading reading → (lacking : V) → reading (Lacks Stack) ≡ Verdict lacking
    → (p : Proc) (told : ℕ → ℕ) (region stack : ℕ) (world : WorldState)
    → RunsIn code statics procs entry p told region stack
    → let s = start_of image region stack world in
    NeverWrong (run (low_machine reading (words_setting procs told s))
    (low_start (words_setting procs told s) p s.memory s.world))
    → (m : ℕ) → (run (machine_by reading) s m).ending ≡ Some (Verdict lacking)
    → (n : ℕ) × ((run (low_in_stack reading (words_setting procs told s) (room_in s))
    (low_start (words_setting procs told s) p s.memory s.world) n).ending ≡ Some (Verdict lacking))

-- frames with all words of the active procedures of a run over words don't fit into a stack of so many bytes, and in
-- the machine's state fewer bytes are left in the stack than the frame of some procedure has
pub record ExceedsStack (procs : List Proc) (room : ℕ) (s : State) (l : LowShown) : Type 0 where
  pub exceeds : room < frames_size l.frames l.held
  pub number : ℕ
  pub proc : Proc
  pub there : slice_get procs number ≡ Some proc
  pub left : s.regs STACK_POINTER < s.regs STACK_END + frame_size proc.words

-- Where the run over words never goes wrong, and its procedures don't make the environment call by which code gives up
-- for want of stack: if the machine has stopped in a state for that, that run, with no bound on its stack, has printed
-- the same at some moment at which it exceeds the machine's stack
abbrev pub LacksStackAsWords : (Halt → Ending Outcome) → List ℕ → List RealItem → List Proc → ℕ → List ℕ → Type 0
LacksStackAsWords reading image code procs entry statics =
    IsReading reading → any_calls STACK_OUT_CALL procs ≡ false
    → (p : Proc) (told : ℕ → ℕ) (region stack : ℕ) (world : WorldState)
    → RunsIn code statics procs entry p told region stack
    → let s = start_of image region stack world in
    let Y = run (low_machine reading (words_setting procs told s))
    (low_start (words_setting procs told s) p s.memory s.world) in
    NeverWrong Y → (m : ℕ) (t : State) → run_of m s ≡ (t, Some (Lacks Stack))
    → (n : ℕ) × (t.world.output ≡ (Y n).output) × ExceedsStack procs (room_in s) t (Y n).shown

-- the mark of each of so many procedures has an address, which is a word, and no two have the same
pub record HaveAddresses (code : List RealItem) (statics : List ℕ) (many : ℕ) : Type 0 where
  pub there : (k : ℕ) → k < many
      → (at : ℕ) × (mark_address (item_address code statics) code k ≡ Some at) × (at < 2 ^ 64)
  pub apart : (j k at : ℕ) → j < many → k < many → mark_address (item_address code statics) code j ≡ Some at
      → mark_address (item_address code statics) code k ≡ Some at → j ≡ k

-- the image of a program over words, with these words of statics and these labels
pub record IsImageOfWords (image : List ℕ) (procs : List Proc) (entry : ℕ) (statics : List ℕ) (labels : List Pos) :
    Type 0 where
  -- the virtual registers of its code have places that fit it, and a slot only where no real register will do
  pub places : List Place
  pub best : IsBest (select_items entry procs) (registers_of procs) places
  pub is_image : IsImageOf image (words_code places procs entry) statics labels
  pub addresses : HaveAddresses (words_code places procs entry) statics (length procs)
  pub whole : IsImage image
  pub small : statics_len image + code_len image < 2 ^ 46
  pub runs : (reading : Halt → Ending Outcome)
      → RunsAsProgram reading image (words_code places procs entry) procs entry statics
  pub lacks : (reading : Halt → Ending Outcome)
      → LacksWithWords reading image (words_code places procs entry) procs entry statics
  pub lacks_stack : (reading : Halt → Ending Outcome)
      → LacksStackAsWords reading image (words_code places procs entry) procs entry statics
