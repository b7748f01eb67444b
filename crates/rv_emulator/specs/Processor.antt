-- What the emulator keeps, as a state of the machine.
use Rattle.std.specs.Prelude.{ℕ, length, ◌+◌, ◌*◌, ◌%◌, ◌<◌, ◌≤◌, ◌≡◌, List, Option, None, slice_index_or}
use Rattle.rv_isa.specs.declared.inst.Inst.{Inst}
use Rattle.rv_isa.specs.Decoding.{decode_of}
use Rattle.machine_words.specs.Memory.{Memory, first_address, from_base, load_bytes}
use Rattle.rv_machine.specs.State.{State}
use Rattle.rv_emulator.specs.declared.processor.Processor.{Processor}
use Rattle.rv_emulator.specs.declared.processor.Places.{Places}
use Rattle.rv_emulator.specs.Registers.{regs_of}
use Rattle.rv_emulator.specs.Consoles.{world_of}

-- told what bytes the memory has
abbrev pub state_of : {R : Type 0} → (R → Memory) → Processor R → State
state_of memory p = record {
  layout = record { code = p.places.code; region = p.places.region; end = p.places.end; labels = p.labels };
  pc = p.pc;
  regs = regs_of p.regs;
  memory = from_base (memory p.ram);
  world = world_of p.console;
}

-- the parts of memory lie in order and fill it, and the pc is that of an instruction
pub record IsSound (bytes : ℕ) (places : Places) (label_count pc : ℕ) : Type 0 where
  pub start : first_address ≤ places.code
  pub code : places.code % 4 ≡ 0
  pub region : places.region % 4 ≡ 0
  pub order : places.code ≤ places.region
  pub room : places.region ≤ places.end
  pub size : places.end ≡ first_address + bytes
  pub labels : label_count < 4294967295
  pub aligned : pc % 4 ≡ 0

-- the entries are what the words of memory from an address on decode to
abbrev pub AreDecoded : List (Option Inst) → Memory → ℕ → Type 0
AreDecoded table memory from =
    (i : ℕ) → i < length table → slice_index_or table i None ≡ decode_of (load_bytes 4 memory (from + 4 * i))

-- the table has an entry for each word of code
pub record IsDecoded (table : List (Option Inst)) (memory : Memory) (places : Places) : Type 0 where
  pub count : places.code + 4 * length table ≡ places.region
  pub entries : AreDecoded table memory places.code

-- the parts of an emulator are sound and its code is decoded, told how many bytes its memory has and which
abbrev pub IsSoundBy : {R : Type 0} → (R → ℕ) → (R → Memory) → Processor R → Type 0
IsSoundBy bytes_len memory p =
    IsSound (bytes_len p.ram) p.places (length p.labels) p.pc
    × IsDecoded p.code.items (from_base (memory p.ram)) p.places
