-- Which state of an assembled image goes with which state of its code.
use Rattle.std.proofs.Common.{ℕ, ◌%◌, ◌^◌, ◌<◌, ◌≤◌, ◌≡◌, true, false, List}
use Rattle.std.proofs.Common.{◌∷◌, drop, ap}
use Rattle.run_laws.specs.Runs.{Ending}
use Rattle.run_laws.specs.Machines.{Next as Step, Machine, Alike}
use Rattle.run_laws.specs.Meters.{each_one, DoesOnBudget}
use Rattle.grift_base.specs.World.{WorldState}
use Rattle.rv_machine.specs.declared.real.RealItem.{RealItem}
use Rattle.machine_words.specs.Memory.{Memory}
use Rattle.rv_machine.specs.State.{Layout, State, Turn}
use Rattle.machine_words.specs.Halts.{Halt}
use Rattle.rv_machine.specs.Real.{Setting, machine_in}
use Rattle.rv_machine.specs.Real.{real_machine}
use Rattle.assembler.specs.Layout.{address_of}
use Rattle.assembler.specs.Expansion.{item_insts}
use Rattle.assembler.specs.Conditions.{CanBeAssembled}
use Rattle.assembler.specs.Following.{IsLike, CanBeCall}
use Rattle.assembler.proofs.Standing.{calls, InCode, Stands, Intact}

module _ {V : Type 0} (reading : Halt → Ending V) (l : Layout) (m0 : Memory) (items : List RealItem)
    (ecall ebreak : ℕ → State → Turn) where
  abbrev pub address : ℕ → ℕ
  address = address_of items l.code

  abbrev pub setting : Setting
  setting = record { address = address; ecall = ecall; ebreak = ebreak }

  abbrev pub M : Machine State State V
  M = real_machine reading items setting

  abbrev pub N : Machine State State V
  N = machine_in reading items setting

  -- the code stands in m0
  pub record Prepared : Type 0 where
    pub small : l.region < 2 ^ 62
    pub whole : l.code % 4 ≡ 0
    pub inside : (place : ℕ) → address place ≤ l.region
    pub words : (place : ℕ) (item : RealItem) (rest : List RealItem) → drop place items ≡ item ∷ rest
        → calls item ≡ false → Stands l m0 (address place) (item_insts items l.code place item)
    pub call : (place : ℕ) (item : RealItem) (rest : List RealItem) → drop place items ≡ item ∷ rest
        → calls item ≡ true → InCode l m0 (address place)
    pub can_ecall : (place : ℕ) → CanBeCall (ecall place)
    pub can_ebreak : (place : ℕ) → CanBeCall (ebreak place)
    pub can : CanBeAssembled items

  -- both have come to the same item
  pub record Related (s t : State) : Type 0 where
    pub like : IsLike t s
    pub pc : t.pc ≡ s.pc
    pub layout : t.layout ≡ l
    pub intact : Intact l m0 t.memory

  -- within so many turns
  abbrev pub Sim : ℕ → State → State → Step State V → Type 0
  Sim most s t x = DoesOnBudget IsLike M N each_one Related (λ u. 0) most s t x

  pub alike_of : (s t : State) → IsLike t s → Alike IsLike M N s t
  alike_of s t k = record { output = ap (λ (w : WorldState). w.output) k.world; shown = k }
