-- The run of a code with marks, in a setting: where its items lie, and what an ECALL and an EBREAK do at each of them.
-- Its state is that of the machine, with the pc at the address of an item.
use Rattle.std.specs.Prelude.{ℕ, suc, ◌==◌, ◌%◌, ◌^◌, ◌<◌, ◌≡◌, Bool, true, false, not, nat_lt, nat_le, ◌&&◌}
use Rattle.std.specs.Prelude.{if◌then◌else◌, List, [], ◌∷◌, Option, Some, None, slice_get}
use Rattle.run_laws.specs.Runs.{Ending, Wrong}
use Rattle.run_laws.specs.Machines.{Next as Step, Go, Stop, Machine}
use Rattle.rv_isa.specs.declared.inst.Inst.{Inst}
use Rattle.rv_isa.specs.declared.inst.Inst.TheVariants.{Jalr, Ecall, Ebreak}
use Rattle.rv_machine.specs.declared.real.RealItem.{RealItem}
use Rattle.rv_machine.specs.declared.real.RealItem.TheVariants.{Op, Mark, Jump, Branch, Address}
use Rattle.rv_isa.specs.Decoding.{decode_of}
use Rattle.machine_words.specs.Memory.{load_bytes}
use Rattle.rv_machine.specs.Registers.{set_reg}
use Rattle.machine_words.specs.declared.faults.MachineFault.TheVariants.{BadAddress}
use Rattle.rv_machine.specs.State.{State, Turn, Next, Stops, reg}
use Rattle.machine_words.specs.Halts.{Halt}
use Rattle.rv_machine.specs.Turn.{goes_wrong, next_pc, act_with, act_if, call_environment}
use Rattle.machine_words.specs.Arithmetic.{subtract}
use Rattle.machine_words.specs.Conditions.{holds}
use Rattle.rv_machine.specs.Turn.{is_undefined}
use Rattle.rv_machine.specs.Mach.{step_by}

-- the address of the item at each place, and what an ECALL or an EBREAK at a place does
pub record Setting : Type 0 where
  pub address : ℕ → ℕ
  pub ecall : ℕ → State → Turn
  pub ebreak : ℕ → State → Turn

-- the setting of the machine itself: ECALL calls the environment, and EBREAK is undefined
abbrev pub plain_setting : (ℕ → ℕ) → Setting
plain_setting address = record { address = address; ecall = λ place. call_environment; ebreak = λ place. is_undefined }

-- whether the item is a mark
abbrev pub is_mark : RealItem → Bool
is_mark (Mark mark) = true
is_mark item = false

-- ---- addresses

-- what the addresses of a code's items have to be
pub record AreAddresses (code : List RealItem) (address : ℕ → ℕ) : Type 0 where
  pub aligned : (place : ℕ) → address place % 4 ≡ 0
  pub small : (place : ℕ) → address place < 2 ^ 64
  -- items that aren't marks have different ones
  pub distinct : (i j : ℕ) (x y : RealItem) → slice_get code i ≡ Some x → slice_get code j ≡ Some y →
      is_mark x ≡ false → is_mark y ≡ false → address i ≡ address j → i ≡ j

-- no mark stands twice
abbrev pub MarksStandOnce : List RealItem → Type 0
MarksStandOnce code =
    (i j mark : ℕ) → slice_get code i ≡ Some (Mark mark) → slice_get code j ≡ Some (Mark mark) → i ≡ j

-- that of the first of these items, from a place on, that isn't a mark
abbrev pub address_from : (ℕ → ℕ) → ℕ → List RealItem → Option ℕ
address_from address place [] = None
address_from address place (Mark mark ∷ rest) = address_from address (suc place) rest
address_from address place (item ∷ rest) = Some (address place)

-- that of a mark: it has the address of the next item that isn't a mark
abbrev pub mark_from : (ℕ → ℕ) → ℕ → ℕ → List RealItem → Option ℕ
mark_from address wanted place [] = None
mark_from address wanted place (Mark mark ∷ rest) =
    if mark == wanted then address_from address (suc place) rest else mark_from address wanted (suc place) rest
mark_from address wanted place (item ∷ rest) = mark_from address wanted (suc place) rest

abbrev pub mark_address : (ℕ → ℕ) → List RealItem → ℕ → Option ℕ
mark_address address code mark = mark_from address mark 0 code

-- an item, its place, and the address of the next item, if there is one
pub record Here : Type 0 where
  pub place : ℕ
  pub item : RealItem
  pub next : Option ℕ

-- the one of these items, from a place on, that begins at an address
abbrev pub item_from : (ℕ → ℕ) → ℕ → ℕ → List RealItem → Option Here
item_from address at place [] = None
item_from address at place (Mark mark ∷ rest) = item_from address at (suc place) rest
item_from address at place (item ∷ rest) =
    if address place == at
    then Some (record { place = place; item = item; next = address_from address (suc place) rest })
    else item_from address at (suc place) rest

abbrev pub item_at : (ℕ → ℕ) → List RealItem → ℕ → Option Here
item_at address code at = item_from address at 0 code

-- ---- what an item does, under a reading of stops as endings

-- nothing more is claimed
abbrev pub is_lost : {V : Type 0} → State → Step State V
is_lost s = Stop Wrong s

-- goes on at an address; where there is none, the run is lost
abbrev pub goes_to : {V : Type 0} → Option ℕ → State → Step State V
goes_to None s = is_lost s
goes_to (Some at) s = Go (record s { pc = at })

-- whether the last item needs one behind it, after which the state is the second: all do but a jump that keeps no
-- address, and what the setting lets go elsewhere
abbrev pub needs_next : Inst → State → State → Bool
needs_next (Jalr rd a imm) s t = not (rd == 0)
needs_next Ecall s t = t.pc == next_pc s
needs_next Ebreak s t = t.pc == next_pc s
needs_next i s t = true

-- a turn of the last item
abbrev pub last_step : {V : Type 0} → (Halt → Ending V) → Inst → State → Turn → Step State V
last_step reading i s (Stops halt) = Stop (reading halt) s
last_step reading i s (Next t) = if needs_next i s t then is_lost s else Go t

-- an instruction does what it does where it stands right before the next item
abbrev pub op_step : {V : Type 0} → (Halt → Ending V) → (State → Turn) → (State → Turn) → Inst → Option ℕ → State →
    Step State V
op_step reading ecall ebreak i (Some next) s =
    step_by reading s (act_with ecall ebreak i (record s { pc = subtract next 4 }))
op_step reading ecall ebreak i None s = last_step reading i s (act_with ecall ebreak i s)

-- a jump to an address, which keeps that of the next item
abbrev pub jump_step : {V : Type 0} → ℕ → Option ℕ → Option ℕ → State → Step State V
jump_step rd None next s = is_lost s
jump_step rd (Some target) (Some next) s = Go (record s { regs = set_reg rd next s.regs; pc = target })
jump_step rd (Some target) None s = if rd == 0 then Go (record s { pc = target }) else is_lost s

abbrev pub branch_step : {V : Type 0} → Bool → Option ℕ → Option ℕ → State → Step State V
branch_step taken target next s = goes_to (if taken then target else next) s

-- an address is put into a register
abbrev pub address_step : {V : Type 0} → ℕ → Option ℕ → Option ℕ → State → Step State V
address_step rd (Some target) (Some next) s = Go (record s { regs = set_reg rd target s.regs; pc = next })
address_step rd None next s = is_lost s
address_step rd (Some target) None s = is_lost s

abbrev pub item_step : {V : Type 0} → (Halt → Ending V) → List RealItem → Setting → ℕ → Option ℕ → RealItem → State →
    Step State V
item_step reading code setting place next (Op i) s =
    op_step reading (setting.ecall place) (setting.ebreak place) i next s
item_step reading code setting place next (Mark mark) s = is_lost s
item_step reading code setting place next (Jump rd mark) s =
    jump_step rd (mark_address setting.address code mark) next s
item_step reading code setting place next (Branch cond a b mark) s =
    branch_step (holds cond (reg s a) (reg s b)) (mark_address setting.address code mark) next s
item_step reading code setting place next (Address rd mark) s =
    address_step rd (mark_address setting.address code mark) next s

-- the step of the item that begins at the pc, if one does
abbrev pub step_here : {V : Type 0} → (Halt → Ending V) → List RealItem → Setting → Option Here → State → Step State V
step_here reading code setting None s = is_lost s
step_here reading code setting (Some here) s = item_step reading code setting here.place here.next here.item s

-- the machine whose steps are items; it shows its whole state
abbrev pub real_machine : {V : Type 0} → (Halt → Ending V) → List RealItem → Setting → Machine State State V
real_machine reading code setting = record {
  step = λ s. step_here reading code setting (item_at setting.address code s.pc) s;
  output = λ s. s.world.output;
  shown = λ s. s;
}

-- ---- the machine whose code comes from such items

-- what the setting says of an item, if it is an ECALL or an EBREAK
abbrev pub call_of_item : Setting → ℕ → RealItem → Option (State → Turn)
call_of_item setting place (Op Ecall) = Some (setting.ecall place)
call_of_item setting place (Op Ebreak) = Some (setting.ebreak place)
call_of_item setting place item = None

abbrev pub call_here : Setting → Option Here → Option (State → Turn)
call_here setting None = None
call_here setting (Some here) = call_of_item setting here.place here.item

-- what the setting says of an address, or what the word that stands there does
abbrev pub call_or_fetched : Option (State → Turn) → State → Turn
call_or_fetched (Some does) s = does s
call_or_fetched None s = act_if (decode_of (load_bytes 4 s.memory s.pc)) s

-- a turn of the machine, but an ECALL or an EBREAK of the code does what the setting says, whatever word stands there
unfoldable pub turn_in : List RealItem → Setting → State → Turn
turn_in code setting s =
    if nat_le s.layout.code s.pc && nat_lt s.pc s.layout.region
    then call_or_fetched (call_here setting (item_at setting.address code s.pc)) s
    else goes_wrong BadAddress s

abbrev pub machine_in : {V : Type 0} → (Halt → Ending V) → List RealItem → Setting → Machine State State V
machine_in reading code setting = record {
  step = λ s. step_by reading s (turn_in code setting s);
  output = λ s. s.world.output;
  shown = λ s. s;
}
