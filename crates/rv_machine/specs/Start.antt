-- The state in which an image starts.
use Rattle.std.specs.Prelude.{ℕ, ◌+◌, ◌%◌, ◌≤◌, ◌≡◌, List, []}
use Rattle.grift_base.specs.World.{WorldState}
use Rattle.machine_words.specs.Memory.{memory_of, first_address, from_base}
use Rattle.rv_machine.specs.Registers.{Registers, set_reg, zero_regs}
use Rattle.rv_machine.specs.Image.{statics_len, code_len, entry, loaded_part, labels_of}
use Rattle.rv_machine.specs.State.{Layout, State}

-- the sizes that a region and a stack may have
abbrev pub IsRegionSize : ℕ → Type 0
IsRegionSize region = (region % 8 ≡ 0) × (region ≤ 1073741824)

abbrev pub IsStackSize : ℕ → Type 0
IsStackSize stack = (stack % 8 ≡ 0) × (stack ≤ 268435456)

-- statics, code, region and stack lie in this order from the first address on, without gaps
abbrev pub layout_of : List ℕ → ℕ → ℕ → Layout
layout_of bytes region stack =
    let code = first_address + statics_len bytes in
    let code_end = code + code_len bytes in
    record { code = code; region = code_end; end = code_end + region + stack; labels = labels_of bytes }

-- x2 is the end of memory, x25 the stack's low end, x26 the region's start and x27 its end
abbrev pub start_regs : ℕ → ℕ → ℕ → Registers
start_regs start region stack =
    let top = start + region in set_reg 27 top (set_reg 26 start (set_reg 25 top (set_reg 2 (top + stack) zero_regs)))

-- region and stack are zero
abbrev pub start_of : List ℕ → ℕ → ℕ → WorldState → State
start_of bytes region stack world =
    let layout = layout_of bytes region stack in
    record {
      layout = layout;
      pc = layout.code + entry bytes;
      regs = start_regs layout.region region stack;
      memory = from_base (memory_of (loaded_part bytes));
      world = world;
    }

-- nothing is printed, and none of the input is read
abbrev pub fresh_world : List ℕ → WorldState
fresh_world input = record { output = []; input = input; place = 0 }
