-- What an action of the program is as a turn.
use Rattle.std.specs.Prelude.{ℕ, ◌≡◌, Bool, false}
use Rattle.rv_machine.specs.State.{State, Turn, Next}
use Rattle.rv_machine.specs.Turn.{put, load_into, store_from, branch_if, jump_and_link, next_pc, call_environment}
use Rattle.rv_machine.specs.Turn.{is_undefined}
use Rattle.rv_emulator.specs.declared.processor.Action.{Action}
use Rattle.rv_emulator.specs.declared.processor.Action.TheVariants.{Put, Load, Store, Branch, Jump, Skip, Call, Refuse}
use Rattle.rv_emulator.specs.Consoles.{LacksRoom}
use Rattle.rv_emulator.specs.Widths.{width_of}

-- goes on at the next instruction, with nothing else changed
abbrev pub go_on : State → Turn
go_on s = Next (record s { pc = next_pc s })

abbrev pub performed : Action → State → Turn
performed (Put rd word) s = put rd word s
performed (Load rd at width signed) s = load_into signed (width_of width) rd at s
performed (Store word at width) s = store_from (width_of width) word at s
performed (Branch taken offset) s = branch_if taken offset s
performed (Jump rd target) s = jump_and_link rd target s
performed Skip s = go_on s
performed Call s = call_environment s
performed Refuse s = is_undefined s

-- the action may need memory of the process
abbrev pub LacksBy : Bool → ℕ → Action → State → Type 0
LacksBy whole reserved (Put rd word) s = ⊥
LacksBy whole reserved (Load rd at width signed) s = ⊥
LacksBy whole reserved (Store word at width) s = whole ≡ false
LacksBy whole reserved (Branch taken offset) s = ⊥
LacksBy whole reserved (Jump rd target) s = ⊥
LacksBy whole reserved Skip s = ⊥
LacksBy whole reserved Call s = LacksRoom reserved s
LacksBy whole reserved Refuse s = ⊥
