-- What the image of a code does, against the code's own run.
use Rattle.std.specs.Prelude.{ℕ, ◌+◌, ◌%◌, ◌<◌, ◌≤◌, ◌≡◌, ◌≢◌, ◌⊎◌, List, Some, slice_get}
use Rattle.grift_base.specs.World.{WorldState}
use Rattle.run_laws.specs.Runs.{Ending, NeverWrong, FollowsBy, Any}
use Rattle.run_laws.specs.Machines.{Machine, run}
use Rattle.run_laws.specs.Meters.{unspent, metered, each_one, Spends, OfRest}
use Rattle.rv_isa.specs.declared.inst.Inst.TheVariants.{Ecall, Ebreak}
use Rattle.rv_machine.specs.declared.real.RealItem.{RealItem}
use Rattle.rv_machine.specs.declared.real.RealItem.TheVariants.{Op}
use Rattle.rv_machine.specs.State.{State, Turn, Next, Stops}
use Rattle.machine_words.specs.Halts.{Halt}
use Rattle.rv_machine.specs.Start.{start_of, IsRegionSize, IsStackSize}
use Rattle.rv_machine.specs.Mach.{machine_by}
use Rattle.machine_words.specs.Memory.{Memory, load_bytes, memory_of, first_address, from_base}
use Rattle.rv_machine.specs.Image.{statics_len, code_len, loaded_part}
use Rattle.rv_isa.specs.declared.inst.Inst.{Inst}
use Rattle.rv_isa.specs.Encoding.{encode_of}
use Rattle.rv_isa.specs.Decoding.{decode_of}
use Rattle.rv_machine.specs.Real.{Setting, plain_setting, real_machine, machine_in}
use Rattle.assembler.specs.Prices.{state_price}

-- the same but for x31, and for how far the run has come
pub record IsLike (s t : State) : Type 0 where
  pub layout : s.layout ≡ t.layout
  pub regs : (r : ℕ) → r ≢ 31 → s.regs r ≡ t.regs r
  pub memory : s.memory ≡ t.memory
  pub world : s.world ≡ t.world

-- ---- what an ECALL or an EBREAK may do

-- two turns come to the same but for x31
abbrev pub ComeToLike : Turn → Turn → Type 0
ComeToLike (Next s) (Next t) = IsLike s t × (s.pc ≡ t.pc)
ComeToLike (Next s) (Stops halt) = ⊥
ComeToLike (Stops halt) (Next t) = ⊥
ComeToLike (Stops halt) (Stops other) = halt ≡ other

-- the code is as before
abbrev pub LeavesCode : State → Turn → Type 0
LeavesCode s (Next t) =
    (t.layout ≡ s.layout) × ((at : ℕ) → s.layout.code ≤ at → at < s.layout.region → t.memory at ≡ s.memory at)
LeavesCode s (Stops halt) = Unit {0}

-- it goes by no x31 and leaves the code as it is
pub record CanBeCall (does : State → Turn) : Type 0 where
  pub spares : (s t : State) → IsLike s t → s.pc ≡ t.pc → ComeToLike (does s) (does t)
  pub leaves : (s : State) → LeavesCode s (does s)

pub record AllCanBeCall (setting : Setting) : Type 0 where
  pub ecall : (place : ℕ) → CanBeCall (setting.ecall place)
  pub ebreak : (place : ℕ) → CanBeCall (setting.ebreak place)

-- ---- where a run begins

-- an ECALL or an EBREAK stands at this place
abbrev pub CallsAt : List RealItem → ℕ → Type 0
CallsAt items place = (slice_get items place ≡ Some (Op Ecall)) ⊎ (slice_get items place ≡ Some (Op Ebreak))

-- the address is in the word of none of them
abbrev pub IsNoCall : List RealItem → (ℕ → ℕ) → ℕ → Type 0
IsNoCall items address at =
    (place : ℕ) → CallsAt items place → ¬ ((address place ≤ at) × (at < address place + 4))

-- the start state of an image, but loads may find other words in place of each ECALL and EBREAK
pub record Starts (bytes : List ℕ) (items : List RealItem) (address : ℕ → ℕ) (region stack : ℕ) (world : WorldState)
    (s : State) : Type 0 where
  pub region_size : IsRegionSize region
  pub stack_size : IsStackSize stack
  pub same : s ≡ record (start_of bytes region stack world) { memory = s.memory }
  pub memory : (at : ℕ) → IsNoCall items address at → s.memory at ≡ (start_of bytes region stack world).memory at

-- ---- the claims

-- from this state on, where the second machine never goes wrong, the first follows it, and shows the same but for x31
-- at moments that correspond; it takes no more turns than the prices of that machine's steps add up to
pub record Simulates {V : Type 0} (X Y : Machine State State V) (price : State → ℕ) (s : State) : Type 0 where
  pub follows : FollowsBy IsLike Any (run X s) (run Y s)
  pub turns : FollowsBy (OfRest IsLike) (Spends 1) (run (metered each_one X) (unspent s))
      (run (metered price Y) (unspent s))

-- in every setting with these addresses the machine does what the code does
abbrev pub DoesAsCode : {V : Type 0} → (Halt → Ending V) → List ℕ → List RealItem → (ℕ → ℕ) → Type 0
DoesAsCode reading bytes items address =
    (setting : Setting) (region stack : ℕ) (world : WorldState) (s : State) → setting.address ≡ address
    → AllCanBeCall setting →
    Starts bytes items address region stack world s → NeverWrong (run (real_machine reading items setting) s) →
    Simulates (machine_in reading items setting) (real_machine reading items setting) (state_price items setting) s

-- and so does the machine that runs the image, whose ECALL calls the environment
abbrev pub RunsAsCode : {V : Type 0} → (Halt → Ending V) → List ℕ → List RealItem → (ℕ → ℕ) → Type 0
RunsAsCode reading bytes items address =
    (region stack : ℕ) (world : WorldState) → IsRegionSize region → IsStackSize stack →
    NeverWrong (run (real_machine reading items (plain_setting address)) (start_of bytes region stack world)) →
    Simulates (machine_by reading) (real_machine reading items (plain_setting address))
    (state_price items (plain_setting address)) (start_of bytes region stack world)

-- the image as it lies in memory
abbrev pub image_memory : List ℕ → Memory
image_memory bytes = from_base (memory_of (loaded_part bytes))

-- what stands where in the code
pub record HasItsWords (bytes : List ℕ) (items : List RealItem) (address : ℕ → ℕ) : Type 0 where
  -- each instruction's word at the address of its item
  pub op : (place : ℕ) (i : Inst) → slice_get items place ≡ Some (Op i)
      → load_bytes 4 (image_memory bytes) (address place) ≡ encode_of i
  -- no ECALL and no EBREAK but those
  pub no_call : (at : ℕ) (i : Inst) → first_address + statics_len bytes ≤ at
      → at < first_address + statics_len bytes + code_len bytes → at % 4 ≡ 0 → IsNoCall items address at
      → decode_of (load_bytes 4 (image_memory bytes) at) ≡ Some i → (i ≢ Ecall) × (i ≢ Ebreak)
